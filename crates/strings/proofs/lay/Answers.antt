use native.Mathlib.Omega.{arith}
use mathlib.Core.Path.{refl}
use Prim.Native.Nat.{◌+◌, ◌≤◌}
use borrow.Author.Tests.{le-leb, lt-leb}
use lib.ListN.{length}
use Rattle.strings.specs.Put.{put_run}
use Rattle.strings.proofs.lay.Goals as goal

pub returns-then-end-out : goal.returns-then-end-out
returns-then-end-out c =
    let a = c.args in
    let o = a.out.now in
    let f : a.at + a.n ≤ length o = omega (arith, c.saturating_add-end.ensures) in
    put_run a.at o a.s.now a.n c.saturating_add-end.result c.copy.new.out (omega arith) (rw (le-leb (a.at + a.n) (length o) f) c.copy.ensures) (omega (arith, c.saturating_add-end.ensures))

pub returns : goal.returns
returns c =
    let a = c.args in
    let o = a.out.now in
    put_run a.at o a.s.now a.n c.saturating_add-end.result o (omega arith) (rw (lt-leb (a.at + a.n) (length o) (omega (arith, c.saturating_add-end.ensures))) refl) (omega (arith, c.saturating_add-end.ensures))
