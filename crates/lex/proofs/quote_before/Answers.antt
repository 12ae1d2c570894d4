use Prim.Native.Nat.{◌+◌}
use lib.ListN.{drop, get_or}
use mathlib.Core.Path.{ap, ◌∙◌}
use mathlib.Core.List.{◌∷◌}
use native.Mathlib.Omega.{arith}
use Rattle.common.specs.Lists.{split, drop_end}
use Rattle.lex.proofs.quote_before.Goals as goal

pub returns-then-s-after : goal.returns-then-s-after
returns-then-s-after c = let a = c.args in drop_end a.s.now a.after (omega arith)

pub returns-then-s-after-eq39 : goal.returns-then-s-after-eq39
returns-then-s-after-eq39 c = let a = c.args in (drop (a.after + 1) a.s.now, split a.s.now a.after (omega arith) ∙ ap (λ z. z ∷ drop (a.after + 1) a.s.now) c.if-s-after-eq39.true)

pub returns : goal.returns
returns c = let a = c.args in (get_or a.s.now a.after 0, drop (a.after + 1) a.s.now, split a.s.now a.after (omega arith), c.if-s-after-eq39.false)
