-- Integers and references, read at places of the text. Assumes nothing.
use Prim.Native.Nat.{ℕ, ◌^◌, ◌≤◌, ◌<◌, min}
use Rattle.std.specs.Prelude.{◌≡◌, Bool, ◌&&◌, eqb, leb, drop, get_or, Some, None}
use Rattle.std.proofs.Math.Path.{refl, sym, ap}
use Rattle.std.proofs.Common.{◌∙◌, arith, le-ltb, ne_eqb, eq-eqb}
use Rattle.std.proofs.Math.Bool.{true, false}
use mathlib.Core.List.{List, [], ◌∷◌}
use Rattle.std.proofs.Math.Decide.{dec_le}
use Rattle.std.proofs.lemmas.Bool.{lt-leb}
use Rattle.std.proofs.Math.ListN.{length}
use Rattle.common.specs.Pick.{pick}
use Rattle.record.specs.Text.{number_from}
use Rattle.reals.specs.Scalar.{unsigned, is_minus, digits_only, integer_in_range, whole_of, reference_id, reference_of, PlainAt, largest_held}
use Rattle.reals.specs.Answer.{read, refused}

-- a number held up to 2 ^ 64 - 1 is in the signed 64-bit range just where the number itself is
capped : (s : Bool) (n N : ℕ) → n ≡ min largest_held N → integer_in_range s n ≡ integer_in_range s N
capped s n N e = go (dec_le N largest_held)
  where
    out : (s : Bool) (k : ℕ) → 2 ^ 63 < k → integer_in_range s k ≡ refused 12
    out false k h = let l : 2 ^ 63 ≤ k = omega arith in rw (le-ltb k (2 ^ 63) l) refl
    out true k h = rw (lt-leb k (2 ^ 63) h) refl

    go : Dec (N ≤ largest_held) → integer_in_range s n ≡ integer_in_range s N
    go (yes l) = let q : n ≡ N = omega arith in ap (integer_in_range s) q
    go (no l) =
        let a : 2 ^ 63 < n = omega arith in
        let b : 2 ^ 63 < N = omega arith in
        out s n a ∙ sym (out s N b)

module _ (t : List ℕ) (a : ℕ) (here : drop a t ≡ unsigned t) where
  -- what follows the sign is not digits only: 12
  pub whole_other : PlainAt (drop a t) largest_held None → refused 12 ≡ whole_of t
  unfolding whole_of
  whole_other p = let q : digits_only (unsigned t) ≡ false = ap digits_only (sym here) ∙ p in rw q refl

  -- what follows the sign is digits: the number, if it is in range
  pub whole_read : (s : Bool) (n : ℕ) → s ≡ is_minus t → PlainAt (drop a t) largest_held (Some n) → integer_in_range s n ≡ whole_of t
  unfolding whole_of
  whole_read s n m p =
      let q : digits_only (unsigned t) ≡ true = ap digits_only (sym here) ∙ p.0 in
      let e : n ≡ min largest_held (number_from 0 (unsigned t)).value = p.1 ∙ ap (λ (l : List ℕ). min largest_held (number_from 0 l).value) here in
      capped s n (number_from 0 (unsigned t)).value e ∙ ap (λ (b : Bool). integer_in_range b (number_from 0 (unsigned t)).value) m ∙ sym (rw q refl)

module _ (t : List ℕ) where
  -- an empty text is no reference: 12
  pub reference_none : length t ≤ 0 → refused 12 ≡ reference_of t
  unfolding reference_of
  reference_none h = go t h
    where
      go : (t : List ℕ) → length t ≤ 0 → refused 12 ≡ reference_of t
      go [] h = refl
      go (c ∷ r) h = absurd (omega arith)

  -- a reference's first byte decides: `#`, or 12
  at_first : 0 < length t → reference_of t ≡ pick (eqb (get_or t 0 0) 35) (reference_id (drop 1 t)) (refused 12)
  unfolding reference_of
  at_first h = go t h
    where
      go : (t : List ℕ) → 0 < length t → reference_of t ≡ pick (eqb (get_or t 0 0) 35) (reference_id (drop 1 t)) (refused 12)
      go [] h = absurd (omega arith)
      go (c ∷ r) h = refl

  -- a text whose first byte is not `#` is no reference: 12
  pub reference_other : 0 < length t → (get_or t 0 0 ≡ 35 → ⊥) → refused 12 ≡ reference_of t
  reference_other h n = sym (at_first h ∙ rw (ne_eqb (get_or t 0 0) 35 n) refl)

  -- after `#` the digits decide whether a text is a reference
  hashed : 0 < length t → get_or t 0 0 ≡ 35 → reference_of t ≡ reference_id (drop 1 t)
  hashed h e = at_first h ∙ rw (eq-eqb (get_or t 0 0) 35 e) refl

  -- after `#` stand not digits only: 12
  pub reference_bad : 0 < length t → get_or t 0 0 ≡ 35 → PlainAt (drop 1 t) largest_held None → refused 12 ≡ reference_of t
  reference_bad h e p = sym (hashed h e ∙ rw p refl)

  -- after `#` stand digits: their number, if it is up to 4294967295
  pub reference_read : (n : ℕ) → 0 < length t → get_or t 0 0 ≡ 35 → PlainAt (drop 1 t) largest_held (Some n) → pick (leb n 4294967295) (read n) (refused 12) ≡ reference_of t
  reference_read n h e p = sym (hashed h e ∙ at (number_from 0 (drop 1 t)).value p.1 (dec_le n 4294967295))
    where
      at : (N : ℕ) → n ≡ min largest_held N → Dec (n ≤ 4294967295) → pick (digits_only (drop 1 t) && leb N 4294967295) (read N) (refused 12) ≡ pick (leb n 4294967295) (read n) (refused 12)
      at N q (yes l) =
          let z : N ≡ n = omega arith in
          rw (z, p.0) refl
      at N q (no l) =
          let y : 4294967295 < N = omega arith in
          let x : 4294967295 < n = omega arith in
          rw (p.0, lt-leb N 4294967295 y, lt-leb n 4294967295 x) refl
