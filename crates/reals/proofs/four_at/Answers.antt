use Prim.Native.Nat.{ℕ, ◌+◌, ◌≤◌}
use native.Mathlib.Omega.{arith}
use mathlib.Core.Path.{◌≡◌, sym, ◌∙◌}
use mathlib.Core.Bool.{true, ◌&&◌}
use mathlib.Core.List.{List}
use lib.ListN.{get_or}
use Rattle.common.specs.Tests.{bounds, both}
use Rattle.record.specs.Byte.{digit}
use Rattle.reals.specs.DigitLoop.{four_at_lem}
use Rattle.reals.proofs.four_at.Goals as goal

-- `reals::four_at` meets its contract: where the test says so the four are digits, and their number is told. Assumes nothing.

-- the test that holds, digit by digit
told : (t : List ℕ) (i : ℕ) → (digit (get_or t i 0) && digit (get_or t (i + 1) 0)) && (digit (get_or t (i + 2) 0) && digit (get_or t (i + 3) 0)) ≡ true → (digit (get_or t i 0) ≡ true) × (digit (get_or t (i + 1) 0) ≡ true) × (digit (get_or t (i + 2) 0) ≡ true) × (digit (get_or t (i + 3) 0) ≡ true)
told t i e =
    let h = both (digit (get_or t i 0) && digit (get_or t (i + 1) 0)) (digit (get_or t (i + 2) 0) && digit (get_or t (i + 3) 0)) e in
    let l = both (digit (get_or t i 0)) (digit (get_or t (i + 1) 0)) h.0 in
    let r = both (digit (get_or t (i + 2) 0)) (digit (get_or t (i + 3) 0)) h.1 in
    (l.0, l.1, r.0, r.1)

-- a digit is no less than `0`
low : (t : List ℕ) (i : ℕ) → digit (get_or t i 0) ≡ true → 48 ≤ get_or t i 0
low t i e = (bounds 48 (get_or t i 0) 57 e).0

pub four_value-requires : goal.four_value-requires
four_value-requires c =
    let a = c.args in
    let f = told a.t.now a.at (sym c.are_digits.ensures ∙ c.if-are_digits.true) in
    (low a.t.now a.at f.0, low a.t.now (a.at + 1) f.1, low a.t.now (a.at + 2) f.2, low a.t.now (a.at + 3) f.3)

pub returns-then-are_digits : goal.returns-then-are_digits
returns-then-are_digits c =
    let a = c.args in
    let f = told a.t.now a.at (sym c.are_digits.ensures ∙ c.if-are_digits.true) in
    (omega arith, four_at_lem a.t.now a.at c.four_value.result (f.0, (f.1, (f.2, (f.3, tt)))) c.four_value.ensures)
