use Rattle.strings.specs.Hex.{hex_sum}
use Rattle.strings.proofs.hex_value.Goals as goal

pub returns : goal.returns
returns c = hex_sum c.args.b c.requires
