use Rattle.wide_reals.specs.Tens.{reciprocal_at}
use Rattle.wide_reals.proofs.reciprocal.Goals as goal

-- `wide_reals::reciprocal` meets its contract: each entry of the table is tried. Assumes nothing.

pub returns : goal.returns
returns c = reciprocal_at c.args.k c.requires
