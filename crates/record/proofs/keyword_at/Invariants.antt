use Rattle.record.specs.Text.{keyword, key_turn, unopened}
use Rattle.common.specs.Walk.{walk}
use lib.ListN.{length, drop}
use mathlib.Core.Path.{◌≡◌}
use Prim.Native.Nat.{◌≤◌}
use Rattle.record.proofs.keyword_at.Given as goal

abbrev pub invariant-loop-i : goal.invariant-loop-i
invariant-loop-i l = (l.end ≤ l.i) × (l.i ≤ length l.b) × (walk key_turn (λ l. unopened) (drop l.end l.b) (drop l.i l.b) ≡ keyword (drop l.from l.b))
