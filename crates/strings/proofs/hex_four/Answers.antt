use native.Mathlib.Omega.{arith}
use mathlib.Core.Path.{◌≡◌, sym}
use mathlib.Core.Bool.{Bool, true, false, ◌&&◌}
use Prim.Native.Nat.{ℕ, ◌+◌}
use mathlib.Core.List.{List}
use lib.ListN.{get_or}
use Rattle.common.specs.Tests.{both}
use Rattle.utf8.specs.Laws.{byte_at_lem}
use Rattle.strings.specs.Text.{hex_digit}
use Rattle.strings.specs.Hex.{four_past, four_hex_is, four_not}
use Rattle.strings.proofs.hex_four.Goals as goal

-- whether a hex digit stands at a place
abbrev digit : List ℕ → ℕ → Bool
digit s k = hex_digit (get_or s k 0)

-- the code's test of four bytes
abbrev four : List ℕ → ℕ → Bool
four s k = (digit s k && digit s (k + 1)) && (digit s (k + 2) && digit s (k + 3))

pub returns-then-s-k : goal.returns-then-s-k
returns-then-s-k c = let a = c.args in four_past a.s.now a.k (omega arith)

pub pair_value-requires : goal.pair_value-requires
pair_value-requires c =
    let a = c.args in
    let s = a.s.now in
    let h : four s a.k ≡ true = rw (sym c.is_hex.ensures, sym c.is_hex-2.ensures, sym c.is_hex-3.ensures, sym c.is_hex-4.ensures) c.if-is_hex.true in
    both (digit s a.k) (digit s (a.k + 1)) (both (digit s a.k && digit s (a.k + 1)) (digit s (a.k + 2) && digit s (a.k + 3)) h).0

pub pair_value-requires-then-is_hex : goal.pair_value-requires-then-is_hex
pair_value-requires-then-is_hex c =
    let a = c.args in
    let s = a.s.now in
    let h : four s a.k ≡ true = rw (sym c.is_hex.ensures, sym c.is_hex-2.ensures, sym c.is_hex-3.ensures, sym c.is_hex-4.ensures) c.if-is_hex.true in
    both (digit s (a.k + 2)) (digit s (a.k + 3)) (both (digit s a.k && digit s (a.k + 1)) (digit s (a.k + 2) && digit s (a.k + 3)) h).1

pub returns-then-is_hex : goal.returns-then-is_hex
returns-then-is_hex c =
    let a = c.args in
    let s = a.s.now in
    let h : four s a.k ≡ true = rw (sym c.is_hex.ensures, sym c.is_hex-2.ensures, sym c.is_hex-3.ensures, sym c.is_hex-4.ensures) c.if-is_hex.true in
    four_hex_is s a.k _ _ (byte_at_lem s a.k 0 (omega arith)) (byte_at_lem s (a.k + 1) 0 (omega arith)) _ _ (byte_at_lem s (a.k + 2) 0 (omega arith)) (byte_at_lem s (a.k + 3) 0 (omega arith)) _ _ h c.pair_value.ensures.0 c.pair_value-then-is_hex.ensures.0

pub returns : goal.returns
returns c =
    let a = c.args in
    let s = a.s.now in
    let h : four s a.k ≡ false = rw (sym c.is_hex.ensures, sym c.is_hex-2.ensures, sym c.is_hex-3.ensures, sym c.is_hex-4.ensures) c.if-is_hex.false in
    four_not s a.k _ _ (byte_at_lem s a.k 0 (omega arith)) (byte_at_lem s (a.k + 1) 0 (omega arith)) _ _ (byte_at_lem s (a.k + 2) 0 (omega arith)) (byte_at_lem s (a.k + 3) 0 (omega arith)) h
