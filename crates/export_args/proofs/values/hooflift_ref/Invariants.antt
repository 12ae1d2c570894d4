use Rattle.reals.specs.Scalar.{reference_of}
use Rattle.scalars.specs.Answer.{next_of}
use Rattle.export_args.proofs.values.hooflift_ref.Given as goal

abbrev pub ghost-value_at : goal.ghost-value_at
ghost-value_at a = next_of reference_of a.file.now
