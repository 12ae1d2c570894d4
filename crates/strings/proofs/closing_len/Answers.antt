use native.Mathlib.Omega.{arith}
use mathlib.Core.Path.{◌≡◌, refl, sym}
use mathlib.Core.Bool.{true, false, ◌&&◌}
use lib.Dec.{eqb}
use Rattle.utf8.specs.Utf8.{byte_at}
use Rattle.strings.proofs.closing_len.Goals as goal

pub returns-then-s-lt4 : goal.returns-then-s-lt4
returns-then-s-lt4 c =
    let s = c.args.s.now in
    let t : eqb (byte_at s 0) 92 && (eqb (byte_at s 1) 88 && eqb (byte_at s 2) 48) ≡ true = rw (sym c.byte_at.ensures, sym c.byte_at-2.ensures, sym c.byte_at-3.ensures) c.if-byte_at.true in
    rw t (omega arith)

pub returns-then-byte_at : goal.returns-then-byte_at
returns-then-byte_at c =
    let s = c.args.s.now in
    let t : eqb (byte_at s 0) 92 && (eqb (byte_at s 1) 88 && eqb (byte_at s 2) 48) ≡ true = rw (sym c.byte_at.ensures, sym c.byte_at-2.ensures, sym c.byte_at-3.ensures) c.if-byte_at.true in
    rw t (omega arith)

pub returns : goal.returns
returns c =
    let s = c.args.s.now in
    let t : eqb (byte_at s 0) 92 && (eqb (byte_at s 1) 88 && eqb (byte_at s 2) 48) ≡ false = rw (sym c.byte_at.ensures, sym c.byte_at-2.ensures, sym c.byte_at-3.ensures) c.if-byte_at.false in
    rw t refl
