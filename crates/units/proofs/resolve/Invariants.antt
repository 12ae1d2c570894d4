use Rattle.lookup.specs.Lookup.{row_for}
use Rattle.factors.specs.SeenRecords.{find_of}
use Rattle.units.specs.Laws.{Resolving}
use Rattle.units.proofs.resolve.Given as goal

abbrev pub invariant-loop-k : goal.invariant-loop-k
invariant-loop-k l = Resolving l.file (find_of l.file (row_for l.rows l.slots l.fn.t.ids)) l.rows l.fn.t.records l.k
