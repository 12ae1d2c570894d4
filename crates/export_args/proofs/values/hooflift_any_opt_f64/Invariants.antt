use Rattle.reals.specs.Scalar.{any_real_of}
use Rattle.scalars.specs.Scalars.{option_of}
use Rattle.scalars.specs.Answer.{next_of}
use Rattle.export_args.proofs.values.hooflift_any_opt_f64.Given as goal

abbrev pub ghost-given_real_at : goal.ghost-given_real_at
ghost-given_real_at a = next_of (option_of any_real_of) a.file.now
