use Rattle.reals.specs.Scalar.{reference_of}
use Rattle.scalars.specs.Scalars.{option_of}
use Rattle.scalars.specs.Answer.{next_of}
use Rattle.export_args.proofs.values.hooflift_opt_ref.Given as goal

abbrev pub ghost-given_at : goal.ghost-given_at
ghost-given_at a = next_of (option_of reference_of) a.file.now
