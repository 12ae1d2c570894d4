use native.Mathlib.Omega.{arith}
use Rattle.strings.specs.Ways.{is_quote, is_ascii, is_latin, is_sequence}
use Rattle.strings.proofs.ordinary.Goals as goal

pub returns-then-b-byte_at : goal.returns-then-b-byte_at
returns-then-b-byte_at c = λ g. is_quote g c.args.s.now c.requires c.byte_at-b.result c.byte_at.result c.byte_at-b.ensures c.byte_at.ensures c.if-b-byte_at.true

pub returns-then-b-lt128 : goal.returns-then-b-lt128
returns-then-b-lt128 c = λ g. is_ascii g c.args.s.now c.requires c.byte_at-b.result c.byte_at.result c.byte_at-b.ensures c.byte_at.ensures c.if-b-byte_at.false (omega arith)

pub returns-in-Some : goal.returns-in-Some
returns-in-Some c = λ g. is_sequence g c.args.s.now c.requires c.byte_at-b.result c.byte_at.result c.byte_at-b.ensures c.byte_at.ensures c.if-b-byte_at.false _ _ (omega arith) (rw c.in-Some.is at c.sequence.ensures)

pub returns-in-None : goal.returns-in-None
returns-in-None c = λ g. is_latin g c.args.s.now c.requires c.byte_at-b.result c.byte_at.result c.byte_at-b.ensures c.byte_at.ensures c.if-b-byte_at.false (omega arith) (rw c.in-None.is at c.sequence.ensures)
