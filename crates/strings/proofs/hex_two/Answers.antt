use native.Mathlib.Omega.{arith}
use mathlib.Core.Path.{◌≡◌, sym}
use mathlib.Core.Bool.{true, false, ◌&&◌}
use Prim.Native.Nat.{◌+◌}
use lib.ListN.{get_or}
use Rattle.common.specs.Tests.{both}
use Rattle.utf8.specs.Laws.{byte_at_lem}
use Rattle.strings.specs.Text.{hex_digit}
use Rattle.strings.specs.Hex.{two_past, two_is, two_not}
use Rattle.strings.proofs.hex_two.Goals as goal

pub returns-then-s-k : goal.returns-then-s-k
returns-then-s-k c = let a = c.args in two_past a.s.now a.k (omega arith)

pub pair_value-requires : goal.pair_value-requires
pair_value-requires c =
    let a = c.args in
    both (hex_digit (get_or a.s.now a.k 0)) (hex_digit (get_or a.s.now (a.k + 1) 0)) (rw (sym c.is_hex.ensures, sym c.is_hex-2.ensures) c.if-is_hex.true)

pub returns-then-is_hex : goal.returns-then-is_hex
returns-then-is_hex c =
    let a = c.args in
    let s = a.s.now in
    let h : hex_digit (get_or s a.k 0) && hex_digit (get_or s (a.k + 1) 0) ≡ true = rw (sym c.is_hex.ensures, sym c.is_hex-2.ensures) c.if-is_hex.true in
    two_is s a.k _ _ (byte_at_lem s a.k 0 (omega arith)) (byte_at_lem s (a.k + 1) 0 (omega arith)) _ h c.pair_value.ensures.0

pub returns : goal.returns
returns c =
    let a = c.args in
    let s = a.s.now in
    let h : hex_digit (get_or s a.k 0) && hex_digit (get_or s (a.k + 1) 0) ≡ false = rw (sym c.is_hex.ensures, sym c.is_hex-2.ensures) c.if-is_hex.false in
    two_not s a.k _ _ (byte_at_lem s a.k 0 (omega arith)) (byte_at_lem s (a.k + 1) 0 (omega arith)) h
