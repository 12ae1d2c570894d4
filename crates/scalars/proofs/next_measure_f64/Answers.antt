use Rattle.scalars.specs.Scalars.{measure_of}
use Rattle.scalars.proofs.next_measure_f64.Goals as goal

pub returns : goal.returns
unfolding measure_of
returns c = c.next_measure.ensures
