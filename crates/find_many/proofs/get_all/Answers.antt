use borrow.Author.Tests.{le-leb, lt-leb}
use Rattle.find_many.specs.Finds.{short}
use Rattle.find_many.specs.Sweep.{swept_told}
use mathlib.Core.Path.{refl, sym}
use lib.ListN.{length}
use Rattle.find_many.proofs.get_all.Goals as goal

pub returns-then-found-ids : goal.returns-then-found-ids
returns-then-found-ids c = let a = c.args in record { value = sym (lt-leb (length a.ids.now) (length a.found.now) c.if-found-ids.true); rows_told = short c.if-found-ids.true refl }

pub returns : goal.returns
returns c = let a = c.args in let h = c.if-found-ids.false in record { value = sym (le-leb (length a.ids.now) (length a.found.now) h); rows_told = swept_told _ _ _ _ h c.get_parts.ensures }
