use Rattle.find_many.specs.Hints.{hint_row}
use mathlib.Core.Path.{sym, ◌∙◌}
use Rattle.find_many.proofs.settled.Goals as goal

pub returns-then-stands : goal.returns-then-stands
returns-then-stands c = let a = c.args in hint_row a.rows.now a.slots.now a.b a.id a.r c.requires (sym c.stands.ensures ∙ c.if-stands.true)
