use native.Mathlib.Omega.{arith}
use mathlib.Core.Path.{refl}
use borrow.Author.Tests.{lt-leb, le-leb}
use lib.ListN.{length}
use Rattle.words.specs.Words.{is_string}
use Rattle.words.proofs.is_string.Goals as goal

pub returns-else-t-ge2 : goal.returns-else-t-ge2
unfolding is_string
returns-else-t-ge2 c = rw (lt-leb 2 (length c.args.t.now) (omega arith)) refl

pub returns-then-t-ge2 : goal.returns-then-t-ge2
unfolding is_string
returns-then-t-ge2 c = rw (le-leb 2 (length c.args.t.now) (omega arith)) refl
