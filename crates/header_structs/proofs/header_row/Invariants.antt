use Rattle.header_structs.specs.Laws.{NoneBefore}
use Rattle.header_structs.proofs.header_row.Given as goal

abbrev pub invariant-loop-i : goal.invariant-loop-i
invariant-loop-i l = NoneBefore l.file l.name l.heads l.i
