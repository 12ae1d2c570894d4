use native.Mathlib.Omega.{arith}
use mathlib.Core.Path.{refl}
use lib.Dec.{leb, ltb}
use borrow.Author.Tests.{leb-true, ltb-true}
use Rattle.common.specs.Tests.{both}
use Rattle.strings.proofs.joined_code.Goals as goal

pub overflow_sub-result-then-l : goal.overflow_sub-result-then-l
overflow_sub-result-then-l c = let l = c.args.l in let h = leb-true 56320 l (both (leb 56320 l) (ltb l 57344) c.if-l.true).0 in omega arith

pub overflow_add-result-then-l : goal.overflow_add-result-then-l
overflow_add-result-then-l c = let l = c.args.l in let h = ltb-true l 57344 (both (leb 56320 l) (ltb l 57344) c.if-l.true).1 in omega arith

pub returns-then-l : goal.returns-then-l
returns-then-l c = rw c.if-l.true refl

pub returns : goal.returns
returns c = rw c.if-l.false refl
