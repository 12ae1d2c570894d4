use native.Mathlib.Omega.{arith}
use mathlib.Core.Path.{refl}
use borrow.Author.Tests.{lt-ltb, le-ltb}
use Rattle.strings.proofs.shown_code.Goals as goal

pub returns-then-c-lt55296 : goal.returns-then-c-lt55296
returns-then-c-lt55296 c = rw (lt-ltb c.args.c 55296 (omega arith)) refl

pub returns-then-c : goal.returns-then-c
returns-then-c c = rw (le-ltb c.args.c 55296 (omega arith), c.if-c.true) refl

pub returns : goal.returns
returns c = rw (le-ltb c.args.c 55296 (omega arith), c.if-c.false) refl
