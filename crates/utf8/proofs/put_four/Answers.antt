use native.Mathlib.Numerals.{towards_suc}
use Rattle.utf8.specs.Laws.{encode_four}
use Rattle.utf8.proofs.put_four.Goals as goal

pub returns : goal.returns
returns c = rw (encode_four c.args.code c.requires.1 c.requires.2) (simp towards_suc)
