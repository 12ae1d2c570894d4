use Rattle.params.specs.Skips.{skip_from}
use Prim.Native.Nat.{◌-◌}
use mathlib.Core.Path.{◌≡◌}
use Rattle.params.proofs.skip_n.Given as goal

abbrev pub invariant-loop-i : goal.invariant-loop-i
invariant-loop-i l = skip_from (l.n - l._i) l.file l.at.place l.at.end ≡ skip_from l.n l.file l.fn.at.place l.fn.at.end
