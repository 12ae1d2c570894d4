use Rattle.std.proofs.Common.{◌∙◌, take, rules, ℕ}
use Rattle.std.specs.Prelude.{not, eqb}
use Rattle.std.proofs.lemmas.Iterator.{YieldsList-from_slice}
use Rattle.std.proofs.lemmas.Iterator.Search.{any_from_yields_List}
use borrow.Author.Tests.{tests}
use Rattle.limbs.specs.Steps.{any_worth}
use Rattle.limbs.proofs.any_below.Goals as goal

-- `limbs::any_below` meets its contract: whether one of the digits is not 0 tells whether their number is. Assumes nothing.

pub returns : goal.returns
returns c =
    let xs = take c.args.n c.args.a.now in
    any_from_yields_List (λ (x : ℕ). not (eqb x 0)) _ _ c.any.result c.any.ensures.ran (YieldsList-from_slice xs cc) (λ x b q k. search (rules, tests)) ∙ any_worth xs
