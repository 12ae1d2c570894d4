use native.Mathlib.Numerals.{towards_suc}
use Rattle.utf8.specs.Laws.{encode_three}
use Rattle.utf8.proofs.put_three.Goals as goal

pub returns : goal.returns
returns c = rw (encode_three c.args.code c.requires.1 c.requires.2 c.requires.3) (simp towards_suc)
