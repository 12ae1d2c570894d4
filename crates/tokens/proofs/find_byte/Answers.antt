use Rattle.tokens.specs.Laws.{byte_stopped}
use Rattle.tokens.proofs.find_byte.Goals as goal

pub returns : goal.returns
returns c = let f = c.find.ensures in record { s_value = byte_stopped _ _ _ _ f; lower_bound = (f.on, f.inside) }
