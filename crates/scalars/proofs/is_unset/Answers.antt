use Rattle.scalars.specs.Scalars.{is_unset}
use Rattle.scalars.proofs.is_unset.Goals as goal

pub returns : goal.returns
unfolding is_unset
returns c = rw c.as_slice.ensures at c.eq.ensures
