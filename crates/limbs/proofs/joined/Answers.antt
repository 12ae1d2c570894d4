use Rattle.limbs.specs.Top.{joins, joined_lt}
use Rattle.limbs.proofs.joined.Goals as goal

-- `limbs::joined` meets its contract: the sum has 64 binary digits, so nothing is lost. Assumes nothing.

pub overflow_add-result : goal.overflow_add-result
overflow_add-result c =
    let a = c.args in
    let p = c.requires in
    record { fits = rw (joins a.high a.middle a.low a.bits p.0 p.1 p.2 c.ranges.middle.fits c.ranges.low.fits) (joined_lt a.high a.middle a.low a.bits p.0 p.1 p.2 c.ranges.middle.fits c.ranges.low.fits) }

pub returns : goal.returns
returns c =
    let a = c.args in
    let p = c.requires in
    joins a.high a.middle a.low a.bits p.0 p.1 p.2 c.ranges.middle.fits c.ranges.low.fits
