use native.Mathlib.Numerals.{towards_suc}
use Rattle.utf8.specs.Laws.{encode_two}
use Rattle.utf8.proofs.put_two.Goals as goal

pub returns : goal.returns
returns c = rw (encode_two c.args.code c.requires.1 c.requires.2) (simp towards_suc)
