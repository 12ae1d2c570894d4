-- Names and texts: one law for each way out of the code. Assumes nothing.
use Rattle.std.specs.Prelude.{ℕ, ◌-◌, ◌≤◌, ◌<◌, ◌≡◌, Bool, true, false, not, ◌&&◌, ◌||◌, List, Option, eqb, leb, length, take, drop, get_or}
use Rattle.std.proofs.Math.Path.{refl, ap}
use Rattle.std.proofs.Common.{◌∙◌, arith, le-leb, leb-true, length-drop, length-take-le}
use Rattle.std.proofs.lemmas.Bool.{lt-leb}
use Rattle.common.specs.Pick.{pick}
use Rattle.common.specs.Tests.{both}
use Rattle.error.specs.Refusal.{refusal, good, bad}
use Rattle.utf8.specs.Utf8.{valid_of}
use Rattle.strings.specs.declared.Decoded.{Decoded}
use Rattle.strings.specs.Answer.{decoded_of, room_after}
use Rattle.params.specs.Answer.{Span, span}
use Rattle.scalars.specs.Scalars.{is_unset}
use Rattle.words.specs.Words.{is_name, is_string, string_body, decoded_at, string_at, room_at}
use Rattle.words.specs.Answer.{span_bytes}
use Rattle.words.specs.declared.Text.TheVariants.{InFile}

-- fewer than two bytes are no name
pub name_short : (t : List ℕ) → length t < 2 → false ≡ is_name t
unfolding is_name
name_short t h = rw (lt-leb 2 (length t) h) refl

-- where the first or the last byte is no dot, there is no name
pub name_undotted : (t : List ℕ) → 2 ≤ length t → not (eqb (get_or t 0 0) 46) || not (eqb (get_or t (length t - 1) 0) 46) ≡ true → false ≡ is_name t
unfolding is_name
name_undotted t h e = rw (le-leb 2 (length t) h) (go (eqb (get_or t 0 0) 46) (eqb (get_or t (length t - 1) 0) 46) e)
  where
    go : (a b : Bool) → not a || not b ≡ true → false ≡ a && (b && valid_of (take (length t - 1 - 1) (drop 1 t)))
    go true true k = let z : ◌≡◌ {A = ℕ} 0 1 = ap (λ (x : Bool). pick x 1 0) k in absurd (omega arith)
    go true false k = refl
    go false b k = refl

-- where the first and the last byte are dots, there is a name just where what stands between is valid UTF-8
pub name_dotted : (t : List ℕ) (v : Bool) → 2 ≤ length t → not (eqb (get_or t 0 0) 46) || not (eqb (get_or t (length t - 1) 0) 46) ≡ false → v ≡ valid_of (take (length t - 1 - 1) (drop 1 t)) → v ≡ is_name t
unfolding is_name
name_dotted t v h e f = rw (le-leb 2 (length t) h) (go (eqb (get_or t 0 0) 46) (eqb (get_or t (length t - 1) 0) 46) e)
  where
    go : (a b : Bool) → not a || not b ≡ false → v ≡ a && (b && valid_of (take (length t - 1 - 1) (drop 1 t)))
    go true true k = f
    go true false k = let z : ◌≡◌ {A = ℕ} 0 1 = ap (λ (x : Bool). pick x 0 1) k in absurd (omega arith)
    go false b k = let z : ◌≡◌ {A = ℕ} 0 1 = ap (λ (x : Bool). pick x 0 1) k in absurd (omega arith)

-- a name has at least two bytes
pub name_two : (t : List ℕ) → is_name t ≡ true → 2 ≤ length t
unfolding is_name
name_two t e = leb-true 2 (length t) (both (leb 2 (length t)) _ e).0

-- a string has at least two bytes
pub string_two : (t : List ℕ) → is_string t ≡ true → 2 ≤ length t
unfolding is_string
string_two t e = leb-true 2 (length t) (both (leb 2 (length t)) _ e).0

-- a part of the file is as long as its places are apart
pub part_length : (s : List ℕ) (a z : ℕ) → a ≤ z → z ≤ length s → length (take (z - a) (drop a s)) ≡ z - a
part_length s a z h k = length-take-le (z - a) (drop a s) (omega (arith, length-drop a s))

module _ (s o : List ℕ) (a : Span) where
  -- "`$` gives an empty text": that is the answer, and the room stays
  pub text_unset : is_unset (span_bytes s a) ≡ true → (good (InFile (span a.start a.start)) ≡ string_at s (length o) a) × (o ≡ room_at s o a)
  unfolding string_at room_at
  text_unset h = (rw h refl, rw h refl)

  module _ (n : is_unset (span_bytes s a) ≡ false) where
    -- a parameter that is neither `$` nor a string is 12 at its start, and the room stays
    pub text_wrong : is_string (span_bytes s a) ≡ false → (bad (refusal 12 0 a.start) ≡ string_at s (length o) a) × (o ≡ room_at s o a)
    unfolding string_at room_at
    text_wrong h = (rw (n, h) refl, rw (n, h) refl)

    -- a string parameter's text is what was decoded of it, and the room is what that left
    pub text_read : (d : Option Decoded) (q : List ℕ) → is_string (span_bytes s a) ≡ true → d ≡ decoded_of (string_body s a) (length o) → q ≡ room_after (string_body s a) o
        → (decoded_at a d ≡ string_at s (length o) a) × (q ≡ room_at s o a)
    unfolding string_at room_at
    text_read d q h f g = (ap (decoded_at a) f ∙ rw (n, h) refl, g ∙ rw (n, h) refl)
