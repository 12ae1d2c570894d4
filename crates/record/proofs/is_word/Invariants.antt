use Rattle.record.specs.Word.{same_bytes, is_word}
use Rattle.record.specs.Byte.{upper}
use lib.ListN.{length, drop}
use mathlib.Core.List.{map}
use mathlib.Core.Path.{◌≡◌}
use Prim.Native.Nat.{◌≤◌}
use Rattle.record.proofs.is_word.Given as goal

abbrev pub invariant-loop-i : goal.invariant-loop-i
invariant-loop-i l = (l.i ≤ length l.t) × (same_bytes (map upper (drop l.i l.t)) (drop l.i l.w) ≡ is_word l.t l.w)
