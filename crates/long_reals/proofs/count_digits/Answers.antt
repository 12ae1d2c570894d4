use Prim.Native.Nat.{ℕ, suc, ◌+◌}
use mathlib.Core.Path.{◌≡◌, sym, ◌∙◌, ap}
use mathlib.Core.List.{◌∷◌}
use native.Mathlib.Numerals.{add-one}
use native.Mathlib.Omega.{arith}
use lib.ListN.{length, drop, get_or}
use lib.Seq.{drop-cons}
use Rattle.long_reals.specs.Digits.{digits_in}
use Rattle.long_reals.specs.DigitsRight.{digits_first, digits_past, digits_end}
use Rattle.long_reals.proofs.count_digits.Goals as goal
use Rattle.long_reals.proofs.count_digits.Goals.{then-is_digit, else-is_digit}

-- `long_reals::count_digits` meets its contract: the digits passed and those ahead are all. Assumes nothing.

pub loop-i-init : goal.loop-i-init
loop-i-init c = (omega arith, omega arith)

pub loop-i-preserved : goal.loop-i-preserved
loop-i-preserved c =
    let p = c.args in
    let i = c.loop-i.invariant in
    let b = p.t.now in
    let k = c.loop-i.i in
    let h = c.loop-i-test.true in
    let d : drop k b ≡ get_or b k 0 ∷ drop (suc k) b = drop-cons b k 0 h in
    let z : drop (k + 1) b ≡ drop (suc k) b = ap (λ (n : ℕ). drop n b) (add-one k) in
    let y = ap digits_in z in
    let x = ap digits_in d in
    elim c.if-is_digit.branch [
      | then-is_digit w ↦
          let f = digits_first (get_or b k 0) (drop (suc k) b) (sym c.is_digit.ensures ∙ w.if-is_digit.true) in (omega arith, omega arith)
      | else-is_digit w ↦
          let f = digits_past (get_or b k 0) (drop (suc k) b) (sym c.is_digit.ensures ∙ w.if-is_digit.false) in (omega arith, omega arith)
    ]

pub returns : goal.returns
returns c =
    let p = c.args in
    let e : c.loop-i.i ≡ length p.t.now = omega arith in
    let d = digits_end p.t.now c.loop-i.i e in
    let i = c.loop-i.invariant in
    (omega arith, omega arith)
