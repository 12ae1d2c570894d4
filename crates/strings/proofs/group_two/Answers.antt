use native.Mathlib.Omega.{arith}
use mathlib.Core.Path.{◌∙◌, ap}
use Prim.Native.Nat.{ℕ}
use lib.Dec.{leb, ltb}
use borrow.Author.Tests.{leb-true, ltb-true}
use Rattle.common.specs.Tests.{both}
use Rattle.strings.specs.Text.{char}
use Rattle.strings.specs.Hex.{two_wrong, two_single, two_pair, two_alone}
use Rattle.strings.proofs.group_two.Goals as goal

pub returns-in_err-a : goal.returns-in_err-a
returns-in_err-a c = rw c.from_residual.ensures (two_wrong c.args.s.now c.in_err-a.ensures)

pub joined_code-requires : goal.joined_code-requires
joined_code-requires c = let a = c.in_ok-a.a in let k = both (leb 55296 a) (ltb a 56320) c.if-a.true in let h = leb-true 55296 a k.0 in let l = ltb-true a 56320 k.1 in (omega arith, omega arith)

pub returns-in_err-b : goal.returns-in_err-b
returns-in_err-b c = rw c.from_residual-in_err-b.ensures (two_single c.args.s.now _ c.in_ok-a.ensures c.if-a.true c.in_err-b.ensures)

pub returns-then-a : goal.returns-then-a
returns-then-a c = ap (λ (z : ℕ). char z 8) c.joined_code.ensures ∙ two_pair c.args.s.now _ _ c.in_ok-a.ensures c.if-a.true c.in_ok-b.ensures

pub returns : goal.returns
returns c = ap (λ (z : ℕ). char z 4) c.shown_code.ensures ∙ two_alone c.args.s.now _ c.in_ok-a.ensures c.if-a.false
