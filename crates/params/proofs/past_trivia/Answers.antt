use Rattle.params.specs.ReaderLaws.{started_past}
use Rattle.std.proofs.Common.{sym}
use native.Mathlib.Omega.{arith}
use Rattle.params.proofs.past_trivia.Goals as goal

pub returns-then-is_dark : goal.returns-then-is_dark
returns-then-is_dark c = let (a, b) = c.is_dark.ensures c.if-is_dark.true in record { part_value = sym b; lower_bound = (omega arith, omega (arith, a)) }

pub returns : goal.returns
returns c = let (a, b, d) = started_past c.args.part.now c.args.place c.skip_trivia.result c.requires c.skip_trivia.ensures in
    rw c.unwrap_or.ensures (record { part_value = a; lower_bound = (b, d) })
