use native.Mathlib.Omega.{arith}
use mathlib.Core.Path.{◌∙◌, ap}
use Prim.Native.Nat.{ℕ}
use Rattle.strings.specs.Text.{char}
use Rattle.strings.specs.Hex.{four_wrong, four_half, four_char, picked_below}
use Rattle.strings.proofs.group_four.Goals as goal

pub returns-in_err-a : goal.returns-in_err-a
returns-in_err-a c = rw c.from_residual.ensures (four_wrong c.args.s.now c.in_err-a.ensures)

pub returns-in_err-b : goal.returns-in_err-b
returns-in_err-b c = rw c.from_residual-in_err-b.ensures (four_half c.args.s.now _ c.in_ok-a.ensures c.in_err-b.ensures)

pub overflow_mul-a : goal.overflow_mul-a
overflow_mul-a c = let h = picked_below c.args.s.now 0 _ c.in_ok-a.ensures in omega arith

pub overflow_add-a : goal.overflow_add-a
overflow_add-a c = let h = picked_below c.args.s.now 0 _ c.in_ok-a.ensures in let l = picked_below c.args.s.now 4 _ c.in_ok-b.ensures in omega arith

pub returns : goal.returns
returns c = ap (λ (z : ℕ). char z 8) c.shown_code.ensures ∙ four_char c.args.s.now _ _ c.in_ok-a.ensures c.in_ok-b.ensures
