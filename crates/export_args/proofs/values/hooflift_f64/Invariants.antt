use Rattle.reals.specs.Scalar.{real_of}
use Rattle.scalars.specs.Answer.{next_of}
use Rattle.export_args.proofs.values.hooflift_f64.Given as goal

abbrev pub ghost-real_at : goal.ghost-real_at
ghost-real_at a = next_of real_of a.file.now
