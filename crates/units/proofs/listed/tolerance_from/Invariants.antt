use Prim.Native.Nat.{◌-◌}
use lib.ListN.{length}
use Rattle.factors.specs.Code.{find_in}
use Rattle.units.specs.Units.{tolerance_by}
use Rattle.units.specs.Code.{ids_of}
use Rattle.units.specs.Laws.{RefsReading}
use Rattle.units.proofs.listed.tolerance_from.Given as goal

abbrev pub invariant-loop-id : goal.invariant-loop-id
invariant-loop-id l = RefsReading l.b (tolerance_by l.records.file.now (find_in l.records)) (tolerance_by l.records.file.now (find_in l.records) (ids_of l.b)) l.i

abbrev pub decreases-loop-id : goal.decreases-loop-id
decreases-loop-id l = length l.b - l.i
