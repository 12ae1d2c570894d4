use Rattle.scan.specs.ScanMemory.{header_room}
use Rattle.scan.specs.Laws.{Going}
use Rattle.scan.specs.Neat.{Tidying}
use lib.ListN.{length}
use mathlib.Core.Path.{◌≡◌}
use Prim.Native.Nat.{◌-◌}
use Rattle.scan.proofs.pass.Given as goal

abbrev pub invariant-loop-n : goal.invariant-loop-n
invariant-loop-n l =
    (length l.headers ≡ length l.initial.headers) × (length l.rows ≡ length l.initial.rows) × Going l.s (header_room l.initial.headers) l.room l.write l.initial.headers l.initial.rows l.i l.section l.h l.r l.max l.headers l.rows × Tidying l.s l.known l.all l.i l.section

abbrev pub decreases-loop-n : goal.decreases-loop-n
decreases-loop-n l = length l.s - l.i
