use Prim.Native.Nat.{ℕ, ◌^◌}
use mathlib.Core.Path.{◌∙◌, ap}
use lib.ListN.{drop}
use Rattle.nearest.specs.Near.{near}
use Rattle.nearest.specs.Nearest.{signed}
use Rattle.long_reals.specs.Number.{number_in}
use Rattle.long_reals.specs.DigitsInRoom.{scaled_cut}
use Rattle.long_reals.proofs.Digits.lowered_cut.Goals as goal

-- `long_reals::Digits::lowered_cut` meets its contract: the digits below 10 ^ -1075 are the tail of a group. Assumes nothing.

pub returns : goal.returns
returns c =
    let p = c.args in
    let d = p.self in
    let r = c.read_digits-r in
    let f = c.first_digit in
    c.lowered_in.ensures (number_in 0 (drop d.first d.text.now)) (10 ^ p.k) (scaled_cut d.text.now d.first d.many p.k r.new.a r.result f.result d.counted c.requires.2 c.requires.1 r.ensures f.ensures)
    ∙ ap (λ (x : ℕ). signed d.neg (near x (10 ^ p.k))) d.same
