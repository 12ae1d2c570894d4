-- The answers of `decode_string`: one law for each way out. Assumes nothing.
use Rattle.std.specs.Prelude.{ℕ, ◌+◌, ◌≤◌, ◌<◌, min, ◌≡◌, refl, true, false, List, [], length, get_or, Option, Some, None}
use Rattle.std.proofs.Common.{sym, ap, arith, le-leb, take_all}
use Rattle.std.proofs.lemmas.Bool.{lt-leb}
use Rattle.strings.specs.declared.Decoded.{Decoded}
use Rattle.strings.specs.declared.Decoded.TheVariants.{Plain, Written}
use Rattle.strings.specs.Text.{plain, bytes_of}
use Rattle.strings.specs.Put.{Laid}
use Rattle.strings.specs.Answer.{largest_u64, decoded_of, room_after, shown_of, told_text, answer_of}
use Rattle.strings.specs.Ample.{text_ample}
use Rattle.strings.specs.Shown.{told_text_lem}

-- what `decode_string` owes: the answer, the room, and what these two tell
abbrev pub Answered : List ℕ → List ℕ → List ℕ → Option Decoded → Type 0
Answered s o p d = (d ≡ decoded_of s (length o)) × ((p ≡ room_after s o) × (told_text s p d ≡ answer_of s (length o)))

-- an answer and a room that are as defined tell the text or 16
answered : (s o p : List ℕ) (d : Option Decoded) → d ≡ decoded_of s (length o) → p ≡ room_after s o → Answered s o p d
answered s o p d e f = (e, (f, told_text_lem s o p d e f))

-- a string that is plain: its text is the string's own bytes, and the room is untouched
pub decoded_plain : (s o : List ℕ) → plain s ≡ true → Answered s o o (Some Plain)
decoded_plain s o h = answered s o o (Some Plain) (rw h refl) (rw h refl)

-- a text that is longer than the room: there is no answer, and the room is untouched
pub decoded_short : (s o : List ℕ) (n : ℕ) → plain s ≡ false → n ≡ min largest_u64 (length (bytes_of s)) → length o < n → Answered s o o None
decoded_short s o n h e l = let k = lt-leb (length (bytes_of s)) (length o) (omega arith) in answered s o o None (rw (h, k) refl) (rw (h, k) refl)

-- a text that fits is put into the room: the answer is how many bytes it has
pub decoded_written : (s o p : List ℕ) (n r : ℕ) → plain s ≡ false → n ≡ min largest_u64 (length (bytes_of s)) → n ≤ length o → length o < largest_u64 → Laid 0 o (bytes_of s) r p → Answered s o p (Some (Written n))
decoded_written s o p n r h e l m d =
    let q : n ≡ length (bytes_of s) = omega arith in
    let k = le-leb (length (bytes_of s)) (length o) (omega arith) in
    answered s o p (Some (Written n)) (rw (h, k) (ap (λ (k : ℕ). Some (Written k)) q)) (rw (h, k) (d.laid [] o refl refl (omega arith)))

-- the text is put into a room of twice the string's bytes, which surely suffices
pub decoded_ample : (s o p : List ℕ) (r : ℕ) → plain s ≡ false → ((i : ℕ) → get_or s i 0 < 256) → length s + length s ≤ length o → length o < largest_u64 → Laid 0 o (bytes_of s) r p → Answered s o p (Some (Written r))
decoded_ample s o p r h b l m d = let k = text_ample s b in decoded_written s o p r r h (omega (arith, d.counted)) (omega (arith, d.counted)) m d

-- a number of bytes past the room's end shows the whole room
pub shown_all : (s o : List ℕ) (d : Option Decoded) (n : ℕ) → d ≡ Some (Written n) → length o ≤ n → o ≡ shown_of s o d
shown_all s o d n e h = rw e (sym (take_all n o h))
