use Prim.Native.Nat.{◌<◌}
use Prim.Native.Nat.{ℕ, ◌+◌}
use mathlib.Core.Path.{◌≡◌, subst, sym, ◌∙◌, ap}
use Rattle.long_reals.specs.Digits.{ReadAt}
use native.Mathlib.Omega.{arith}
use lib.ListN.{length, get_or}
use Rattle.long_reals.specs.DigitsRight.{digit_le}
use Rattle.long_reals.specs.Steps.{digits_reading_starts, digits_reading_past, digits_reading_digit, digits_reading_full, digits_reading_same, digits_reading_ends, weight_le}
use Rattle.long_reals.proofs.read_digits.Goals as goal
use Rattle.long_reals.proofs.read_digits.Goals.{then-is_digit+then-weight-eq1000000000, then-is_digit+else-weight-eq1000000000, else-is_digit}

-- `long_reals::read_digits` meets its contract: after each byte the room and what is held are the number read so far. Assumes nothing.

pub loop-i-init : goal.loop-i-init
loop-i-init c = let p = c.args in digits_reading_starts p.t.now p.from p.count p.a.now c.requires.0

pub returns-then-left-eq0 : goal.returns-then-left-eq0
returns-then-left-eq0 c =
    let l = c.loop-i in
    let p = c.args in
    subst (ReadAt p.t.now p.from p.count c.put_held.new.a) (sym c.put_held.ensures.places)
    (digits_reading_ends p.t.now p.from p.count l.a l.used l.held l.weight l.left l.i c.put_held.new.a c.requires.1 (λ (h : 0 < l.left). absurd (omega arith)) c.put_held.ensures.room l.invariant)

pub overflow_mul-held : goal.overflow_mul-held
overflow_mul-held c =
    let l = c.loop-i in
    let p = c.args in
    let w = weight_le p.t.now p.from p.count l.a l.used l.held l.weight l.left l.i l.invariant in
    let s = l.invariant.small in
    record { fits = omega arith }

pub overflow_add-held : goal.overflow_add-held
overflow_add-held c =
    let l = c.loop-i in
    let p = c.args in
    let d = digit_le (get_or p.t.now l.i 0) (sym c.is_digit.ensures ∙ c.if-is_digit.true) in
    let w = weight_le p.t.now p.from p.count l.a l.used l.held l.weight l.left l.i l.invariant in
    let s = l.invariant.small in
    record { fits = omega arith }

pub overflow_mul-weight : goal.overflow_mul-weight
overflow_mul-weight c =
    let l = c.loop-i in
    let p = c.args in
    let w = weight_le p.t.now p.from p.count l.a l.used l.held l.weight l.left l.i l.invariant in
    record { fits = omega arith }

pub loop-i-preserved : goal.loop-i-preserved
loop-i-preserved c =
    let l = c.loop-i in
    let p = c.args in
    let s : 0 < l.left = omega arith in
    let i = c.loop-i-test.true in
    elim c.if-is_digit.branch [
      | then-is_digit+then-weight-eq1000000000 w ↦
          digits_reading_same w.a-is w.used-is w.held-is w.weight-is w.left-is (digits_reading_full p.t.now p.from p.count l.a l.used l.held l.weight l.left l.i i (sym c.is_digit.ensures ∙ w.if-is_digit.true) l.invariant w.push.new.a s w.if-weight-eq1000000000.true w.push.ensures)
      | then-is_digit+else-weight-eq1000000000 w ↦
          digits_reading_same w.a-is w.used-is w.held-is w.weight-is w.left-is (digits_reading_digit p.t.now p.from p.count l.a l.used l.held l.weight l.left l.i i (sym c.is_digit.ensures ∙ w.if-is_digit.true) l.invariant s w.if-weight-eq1000000000.false)
      | else-is_digit w ↦
          digits_reading_same w.a-is w.used-is w.held-is w.weight-is w.left-is (digits_reading_past p.t.now p.from p.count l.a l.used l.held l.weight l.left l.i i (sym c.is_digit.ensures ∙ w.if-is_digit.false) l.invariant)
    ]

pub returns : goal.returns
returns c =
    let l = c.loop-i in
    let p = c.args in
    let e : l.i ≡ length p.t.now = omega arith in
    subst (ReadAt p.t.now p.from p.count c.put_held-2.new.a) (ap (λ (n : ℕ). record { used = l.used + 1; next = n }) e ∙ sym c.put_held-2.ensures.places)
    (digits_reading_ends p.t.now p.from p.count l.a l.used l.held l.weight l.left l.i c.put_held-2.new.a c.requires.1 (λ (h : 0 < l.left). omega arith) c.put_held-2.ensures.room l.invariant)
