use Prim.Native.Nat.{◌≤◌}
use lib.ListN.{length}
use native.Mathlib.Omega.{arith}
use borrow.Author.Tests.{le-leb, lt-leb}
use mathlib.Core.Path.{refl}
use Rattle.host_numbers.proofs.put_tables.Goals as goal

pub returns-then-out-lt16 : goal.returns-then-out-lt16
returns-then-out-lt16 c = rw (lt-leb _ _ c.if-out-lt16.true) refl

pub returns : goal.returns
returns c =
    let n = length c.args.out.now in
    let h : 16 ≤ n = c.if-out-lt16.false in
    rw (le-leb 16 n h, c.put_ids.ensures, le-leb 8 n (omega arith)) refl
