use Rattle.utf8.specs.Laws.{encode_one}
use Rattle.utf8.proofs.put_one.Goals as goal

pub returns : goal.returns
returns c = rw (encode_one c.args.code c.requires.1)
