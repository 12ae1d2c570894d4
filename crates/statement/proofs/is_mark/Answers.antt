use Rattle.statement.specs.Usual.{is_looked_at, marks}
use Rattle.std.proofs.Common.{ap, ℕ, ◌/◌, ◌%◌, ◌^◌, eqb}
use Rattle.statement.proofs.is_mark.Goals as goal

pub returns : goal.returns
unfolding is_looked_at
returns c = ap (λ (k : ℕ). eqb ((marks / 2 ^ k) % 2) 1) c.from.ensures
