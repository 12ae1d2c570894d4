use Rattle.params.specs.Reader.{param_of}
use Rattle.export_args.proofs.cuts.hooflift_param.Given as goal

abbrev pub ghost-span_at : goal.ghost-span_at
ghost-span_at a = param_of a.file.now
