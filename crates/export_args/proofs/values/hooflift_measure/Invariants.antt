use Rattle.scalars.specs.Scalars.{measure_of}
use Rattle.scalars.specs.Answer.{next_of}
use Rattle.export_args.proofs.values.hooflift_measure.Given as goal

abbrev pub ghost-real_at : goal.ghost-real_at
ghost-real_at a = next_of measure_of a.file.now
