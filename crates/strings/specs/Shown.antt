-- What an auditor wants to know of a text: every number in it is a character, so that none is lost; it is valid UTF-8 (RFC 3629); a
-- plain string is its own text; and what `decode_string` and `text` show is the text. Assumes nothing.
use Rattle.std.specs.Prelude.{ℕ, zero, suc, ◌+◌, ◌*◌, ◌-◌, ◌≤◌, ◌<◌, ◌≡◌, refl, Bool, true, false, ◌&&◌, ◌||◌, List, [], ◌∷◌, ◌++◌, eqb, leb, ltb, length, take, drop, Option, Some, None}
use Rattle.std.proofs.Common.{sym, ◌∙◌, ap, append-nil, arith, ltb-true, le-ltb, le-leb, drop_of_length-le, take_all}
use Rattle.std.proofs.Math.Seq.{take-append_seam}
use Rattle.common.specs.Pick.{pick}
use Rattle.common.specs.Tests.{both}
use Rattle.utf8.specs.Utf8.{byte_at, scalar, lead_of}
use Rattle.utf8.specs.Encoding.{encode_all}
use Rattle.utf8.specs.Answer.{LeadCharacter, valid, invalid}
use Rattle.utf8.specs.Laws.{scalar_low}
use Rattle.utf8.specs.Rfc3629.{Valid}
use Rattle.utf8.specs.Agree.{Scalars, all_valid, lead_is}
use Rattle.strings.specs.declared.Decoded.{Decoded}
use Rattle.strings.specs.declared.Decoded.TheVariants.{Plain, Written}
use Rattle.pages.specs.Rules.{page_a}
use Rattle.pages.specs.Right.{code_scalar}
use Rattle.strings.specs.Text
use Rattle.strings.specs.Hex.{two_below}
use Rattle.strings.specs.PlainRuns.{bytes_plain}
use Rattle.strings.specs.Answer.{decoded_of, room_after, shown_of, text_is, text_refused, told_text, answer_of}

-- every number of the list is a byte
abbrev pub Bytes : List ℕ → Type 0
Bytes [] = Unit
Bytes (b ∷ r) = (b < 256) × Bytes r

-- what stands at a place of a list of bytes, or for none past its end, is 256 at most
byte_least : (s : List ℕ) (k : ℕ) → Bytes s → byte_at s k ≤ 256
byte_least [] k h = omega arith
byte_least (b ∷ r) zero (h, t) = omega arith
byte_least (b ∷ r) (suc k) (h, t) = byte_least r k t

-- two lists of characters make one
scalars_append : (xs ys : List ℕ) → Scalars xs → Scalars ys → Scalars (xs ++ ys)
scalars_append [] ys h k = k
scalars_append (x ∷ xs) ys (h, t) k = (h, scalars_append xs ys t k)

-- "other surrogates and codes above 10FFFF give U+FFFD": so a code gives a character
shown_scalar : (c : ℕ) → scalar (Text.character_of_code c) ≡ true
shown_scalar c = go (scalar c) refl
  where
    go : (t : Bool) → scalar c ≡ t → scalar (pick t c 65533) ≡ true
    go true e = e
    go false e = refl

-- "a high and a low surrogate join": they give a character
joined_scalar : (h l : ℕ) → Text.high h ≡ true → scalar (Text.surrogates_joined h l) ≡ true
joined_scalar h l e = go (Text.low l) refl
  where
    go : (t : Bool) → Text.low l ≡ t → scalar (pick t (65536 + (h - 55296) * 1024 + (l - 56320)) 65533) ≡ true
    go false p = refl
    go true p =
        let x = both (leb 55296 h) (ltb h 56320) e in
        let y = both (leb 56320 l) (ltb l 57344) p in
        let a = ltb-true h 56320 x.1 in
        let b = ltb-true l 57344 y.1 in
        let n = 65536 + (h - 55296) * 1024 + (l - 56320) in
        rw (le-ltb n 55296 (omega arith), le-leb 57344 n (omega arith), le-leb n 1114111 (omega arith)) refl

-- what a group gives is a character, where it is good
abbrev GroupScalar : Text.Group → Type 0
GroupScalar (Text.char c k) = scalar c ≡ true
GroupScalar Text.wrong = Unit

-- every good group gives a character
group_scalar : (w : ℕ) (s : List ℕ) → GroupScalar (Text.group_of w s)
unfolding Text.group_two Text.group_four
group_scalar w s = go (eqb w 4)
  where
    pair : (u v : Bool) → Text.high (Text.four_of s 0) ≡ u → GroupScalar (pick u (pick v (Text.char (Text.surrogates_joined (Text.four_of s 0) (Text.four_of s 4)) 8) Text.wrong) (Text.char (Text.character_of_code (Text.four_of s 0)) 4))
    pair true true e = joined_scalar (Text.four_of s 0) (Text.four_of s 4) e
    pair true false e = tt
    pair false v e = shown_scalar (Text.four_of s 0)

    two : (t : Bool) → GroupScalar (pick t (pick (Text.high (Text.four_of s 0)) (Text.pair_of s) (Text.char (Text.character_of_code (Text.four_of s 0)) 4)) Text.wrong)
    two true = pair (Text.high (Text.four_of s 0)) (Text.four_at s 4) refl
    two false = tt

    four : (t : Bool) → GroupScalar (pick t (Text.char (Text.character_of_code (Text.four_of s 0 * 65536 + Text.four_of s 4)) 8) Text.wrong)
    four true = shown_scalar (Text.four_of s 0 * 65536 + Text.four_of s 4)
    four false = tt

    go : (t : Bool) → GroupScalar (pick t (Text.group_two s) (Text.group_four s))
    go true = two (Text.four_at s 0)
    go false = four (Text.four_at s 0 && Text.four_at s 4)

-- what groups give are characters
abbrev GroupsScalar : Text.GroupsRead → Type 0
GroupsScalar (Text.groups_ended cs n) = Scalars cs
GroupsScalar (Text.groups_broken cs) = Scalars cs

-- the groups of a directive give characters
groups_scalar : (w n : ℕ) (t : List ℕ) → GroupsScalar (Text.groups_from w n t)
unfolding Text.groups_from
groups_scalar w n [] = tt
groups_scalar w (suc n) (b ∷ r) = groups_scalar w n r
groups_scalar w zero (b ∷ r) = go (ltb (suc (length r)) w || eqb b 92) (Text.group_of w (b ∷ r)) (group_scalar w (b ∷ r)) (λ k. groups_scalar w (k - 1) r)
  where
    more : (c k : ℕ) (g : Text.GroupsRead) → scalar c ≡ true → GroupsScalar g → GroupsScalar (Text.with_char c k g)
    more c k (Text.groups_ended cs n) h l = (h, l)
    more c k (Text.groups_broken cs) h l = (h, l)

    go : (t : Bool) (g : Text.Group) → GroupScalar g → ((k : ℕ) → GroupsScalar (Text.groups_from w (k - 1) r)) → GroupsScalar (pick t (Text.groups_ended [] (Text.closing_taken (b ∷ r))) (Text.grouped g (λ k. Text.groups_from w (k - 1) r)))
    go true g h f = tt
    go false (Text.char c k) h f = more c k (Text.groups_from w (k - 1) r) h (f k)
    go false Text.wrong h f = tt

-- a directive with groups gives characters
extended_scalar : (g : Text.GroupsRead) → GroupsScalar g → Scalars (Text.extended g).chars
extended_scalar (Text.groups_ended cs n) h = h
extended_scalar (Text.groups_broken cs) h = scalars_append cs (92 ∷ []) h (refl, tt)

-- of two pieces that a test picks from, each gives characters, so the one picked does
pick_scalar : (t : Bool) (p q : Text.Piece) → (t ≡ true → Scalars p.chars) → (t ≡ false → Scalars q.chars) → Scalars (pick t p q).chars
pick_scalar true p q f g = f refl
pick_scalar false p q f g = g refl

-- a directive gives characters
directive_scalar : (g : ℕ) (s : List ℕ) → Bytes s → Scalars (Text.directive_of g s).chars
unfolding Text.directive_of
directive_scalar g s h =
    pick_scalar (Text.is s 1 92) _ _ (λ e. (refl, tt)) (λ n1.
    pick_scalar (Text.is s 1 78 && Text.is s 2 92) _ _ (λ e. (refl, tt)) (λ n2.
    pick_scalar (Text.is s 1 84 && Text.is s 2 92) _ _ (λ e. (refl, tt)) (λ n3.
    pick_scalar (Text.is s 1 80 && Text.is s 3 92) _ _ (λ e. tt) (λ n4.
    pick_scalar (Text.is s 1 83 && (Text.is s 2 92 && leb 4 (length s))) _ _ (λ e. let k = byte_least s 3 h in (code_scalar g (byte_at s 3 + 128) (omega arith), tt)) (λ n5.
    pick_scalar (Text.is s 1 88 && (Text.is s 2 92 && Text.two_at s 3)) _ _ (λ e. let k = two_below s 3 (both (Text.is s 2 92) (Text.two_at s 3) (both (Text.is s 1 88) (Text.is s 2 92 && Text.two_at s 3) e).1).1 in (scalar_low (Text.two_of s 3) (omega arith), tt)) (λ n6.
    pick_scalar (Text.is s 1 88 && (Text.is s 2 50 && Text.is s 3 92)) _ _ (λ e. extended_scalar (Text.groups_from 4 0 (drop 4 s)) (groups_scalar 4 0 (drop 4 s))) (λ n7.
    pick_scalar (Text.is s 1 88 && (Text.is s 2 52 && Text.is s 3 92)) _ _ (λ e. extended_scalar (Text.groups_from 8 0 (drop 4 s)) (groups_scalar 8 0 (drop 4 s))) (λ n8. (refl, tt)))))))))

-- every piece gives characters
piece_scalar : (g : ℕ) (s : List ℕ) → Bytes s → Scalars (Text.piece_of g s).chars
unfolding Text.piece_of
piece_scalar g s h =
    pick_scalar (Text.is s 0 92) _ _ (λ e. directive_scalar g s h) (λ n1.
    pick_scalar (Text.is s 0 39 && Text.is s 1 39) _ _ (λ e. (refl, tt)) (λ n2.
    pick_scalar (ltb (byte_at s 0) 128) _ _ (λ e. let k = ltb-true (byte_at s 0) 128 e in (scalar_low (byte_at s 0) (omega arith), tt)) (λ n3. go (lead_of s) refl)))
  where
    go : (l : LeadCharacter) → lead_of s ≡ l → Scalars (Text.raw_of (byte_at s 0) l).chars
    go (valid c k) e = ((lead_is s c k e).0, tt)
    go invalid e = let k = byte_least s 0 h in (scalar_low (byte_at s 0) (omega arith), tt)

-- every number of a string's text is a character, on every page: none is lost when it is encoded
pub text_scalars : (g n : ℕ) (s : List ℕ) → Bytes s → Scalars (Text.text_from g n s)
unfolding Text.text_from
text_scalars g n [] h = tt
text_scalars g (suc n) (b ∷ r) (h, t) = text_scalars g n r t
text_scalars g zero (b ∷ r) (h, t) = scalars_append (Text.piece_of g (b ∷ r)).chars _ (piece_scalar g (b ∷ r) (h, t)) (text_scalars (Text.page_after g (b ∷ r)) ((Text.piece_of g (b ∷ r)).used - 1) r t)

-- a text is always valid UTF-8
pub text_valid : (s : List ℕ) → Bytes s → Valid (Text.bytes_of s)
unfolding Text.bytes_of Text.text_of Text.text_on
text_valid s h = all_valid (Text.text_from page_a 0 s) (text_scalars page_a 0 s h)

-- no bytes have no text
none_text : Text.bytes_of [] ≡ []
unfolding Text.bytes_of Text.text_of Text.text_on Text.text_from encode_all
none_text = refl

-- past the last byte of a list there is none
past : (s : List ℕ) → drop (length s) s ≡ []
past s = let l : length s ≤ length s = omega arith in drop_of_length-le s l

-- a plain string is its own text
pub plain_text : (s : List ℕ) → Text.plain s ≡ true → Text.bytes_of s ≡ s
plain_text s h =
    let e : take (length s) s ≡ s = take_all (length s) s (omega arith) in
    bytes_plain (length s) s (omega arith) (rw e h) ∙ rw (e, past s, none_text) (append-nil s)

-- what is shown after `decode_string`: the text, unless it is 16
pub shown_text : (s o : List ℕ) → (decoded_of s (length o) ≡ None → ⊥) → shown_of s (room_after s o) (decoded_of s (length o)) ≡ Text.bytes_of s
shown_text s o n = go (Text.plain s) (leb (length (Text.bytes_of s)) (length o)) refl n
  where
    go : (t u : Bool) → Text.plain s ≡ t → (pick t (Some Plain) (pick u (Some (Written (length (Text.bytes_of s)))) None) ≡ None → ⊥)
        → shown_of s (pick t o (pick u (Text.bytes_of s ++ drop (length (Text.bytes_of s)) o) o)) (pick t (Some Plain) (pick u (Some (Written (length (Text.bytes_of s)))) None)) ≡ Text.bytes_of s
    go true u e k = sym (plain_text s e)
    go false true e k = take-append_seam (Text.bytes_of s) (drop (length (Text.bytes_of s)) o)
    go false false e k = absurd (k refl)

-- what is shown after `decode_string` is valid UTF-8, unless it is 16
pub shown_valid : (s o : List ℕ) → Bytes s → (decoded_of s (length o) ≡ None → ⊥) → Valid (shown_of s (room_after s o) (decoded_of s (length o)))
shown_valid s o h n = rw (shown_text s o n) (text_valid s h)

-- an answer of `decode_string`, with the room that it leaves, tells the text or 16
pub told_text_lem : (s o p : List ℕ) (d : Option Decoded) → d ≡ decoded_of s (length o) → p ≡ room_after s o → told_text s p d ≡ answer_of s (length o)
told_text_lem s o p d e f = rw (e, f) (go (Text.plain s) (leb (length (Text.bytes_of s)) (length o)) refl)
  where
    go : (t u : Bool) → Text.plain s ≡ t
        → told_text s (pick t o (pick u (Text.bytes_of s ++ drop (length (Text.bytes_of s)) o) o)) (pick t (Some Plain) (pick u (Some (Written (length (Text.bytes_of s)))) None)) ≡ pick (t || u) (text_is (Text.bytes_of s)) (text_refused 16)
    go true u e = ap text_is (sym (plain_text s e))
    go false true e = ap text_is (take-append_seam (Text.bytes_of s) (drop (length (Text.bytes_of s)) o))
    go false false e = refl
