use Prim.Native.Nat.{ℕ, ◌^◌}
use mathlib.Core.Path.{◌≡◌, sym, ◌∙◌, ap}
use mathlib.Core.Bool.{Bool, true, false}
use native.Mathlib.Nat.{zero-mul}
use native.Mathlib.Omega.{arith}
use lib.ListN.{drop}
use Rattle.nearest.specs.Near.{near}
use Rattle.nearest.specs.Nearest.{signed}
use Rattle.nearest.specs.Power.{near_by}
use Rattle.nearest.specs.PowerLaws.{ten_pos}
use Rattle.long_reals.specs.Number.{number_in}
use Rattle.long_reals.specs.DigitsRight.{number_none, read_le}
use Rattle.nearest.proofs.Borders.{near_nothing}
use Rattle.long_reals.proofs.decimal.Goals as goal

-- `long_reals::decimal` meets its contract: no digit but `0` is 0, and else the digits from the first on are read. Assumes nothing.

-- 0 is nearest to no digits but `0`
nothing : (b : Bool) (k : ℕ) → near_by b 0 k ≡ 0
nothing true k = near_nothing (10 ^ k) (ten_pos k)
nothing false k = ap (λ (x : ℕ). near x 1) (zero-mul (10 ^ k)) ∙ near_nothing 1 (omega arith)

pub returns-then-many-eq0 : goal.returns-then-many-eq0
returns-then-many-eq0 c =
    let p = c.args in
    let f = c.first_digit-first.ensures in
    let z = sym f.same ∙ number_none 0 (drop c.first_digit-first.result p.t.now) (sym c.count_digits-many.ensures.0 ∙ c.if-many-eq0.true) in
    c.with_sign.ensures ∙ ap (signed p.neg) (sym (ap (λ (x : ℕ). near_by p.down x p.k) z ∙ nothing p.down p.k))

pub returns-then-down : goal.returns-then-down
returns-then-down c = let p = c.args in c.lowered.ensures ∙ ap (λ (b : Bool). signed p.neg (near_by b (number_in 0 p.t.now) p.k)) (sym c.if-down.true)

pub returns : goal.returns
returns c = let p = c.args in c.raised.ensures ∙ ap (λ (b : Bool). signed p.neg (near_by b (number_in 0 p.t.now) p.k)) (sym c.if-down.false)

pub invariant_of-digits : goal.invariant_of-digits
invariant_of-digits c =
    let p = c.args in
    let f = c.first_digit-first in
    let n = c.count_digits-many in record {
      within = f.ensures.within;
      counted = n.ensures.0;
      same = f.ensures.same;
      leading = read_le p.t.now f.result n.result f.ensures n.ensures.0 (omega arith);
      some = omega arith;
    }

pub invariant_of-digits-2 : goal.invariant_of-digits-2
invariant_of-digits-2 c =
    let p = c.args in
    let f = c.first_digit-first in
    let n = c.count_digits-many in record {
      within = f.ensures.within;
      counted = n.ensures.0;
      same = f.ensures.same;
      leading = read_le p.t.now f.result n.result f.ensures n.ensures.0 (omega arith);
      some = omega arith;
    }
