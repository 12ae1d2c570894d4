use Rattle.scan.specs.Neat.{Neat}
use Rattle.scan.specs.TidyRun.{RecordsRan}
use Rattle.statement.specs.declared.Section.TheVariants.{InData}
use lib.ListN.{length, drop}
use mathlib.Core.Path.{◌≡◌}
use mathlib.Core.Bool.{true}
use Prim.Native.Nat.{◌-◌}
use Rattle.scan.proofs.run.Given as goal

abbrev pub invariant-loop-count : goal.invariant-loop-count
invariant-loop-count l =
    RecordsRan l.s l.room l.known l.from l.stored l.largest l.initial.rows l.place l.count l.max l.rows × (l.known ≡ true → Neat l.s InData (drop l.place l.s))

abbrev pub decreases-loop-count : goal.decreases-loop-count
decreases-loop-count l = length l.s - l.place
