use Rattle.params.specs.Reader.{param_of}
use Rattle.params.specs.Answer.{read_mapped}
use Rattle.words.specs.Words.{name_at}
use Rattle.export_args.proofs.texts.hooflift_enum.Given as goal

abbrev pub ghost-span_at : goal.ghost-span_at
ghost-span_at a = λ p e. read_mapped (name_at a.file.now) (param_of a.file.now p e)
