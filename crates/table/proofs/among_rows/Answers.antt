use Prim.Native.Nat.{ℕ}
use mathlib.Core.Path.{ap}
use lib.Dec.{ltb}
use Rattle.table.proofs.among_rows.Goals as goal

pub returns : goal.returns
returns c = ap (λ (n : ℕ). ltb c.args.k n) c.rows_fit.ensures
