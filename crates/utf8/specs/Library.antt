-- The library's UTF-8 (`IsUtf8`) is RFC 3629's (`Valid`): its characters, their encoding and valid bytes are the same. Assumes nothing.
use Rattle.std.specs.Prelude.{ℕ, ◌<◌, ◌≡◌, refl, Bool, true, false, List, [], ◌∷◌, IsUtf8}
use Rattle.std.proofs.Common.{sym, ◌∙◌, subst, arith, lt-ltb, le-ltb, le-leb}
use Rattle.std.proofs.Math.Decide.{dec_lt}
use Rattle.std.proofs.lemmas.Bool.{lt-leb}
use Rattle.std.proofs.Math.Utf8 as Lib
use Rattle.common.specs.Tests.{both}
use Rattle.common.specs.Compare.{clash}
use Rattle.utf8.specs.Utf8.{scalar, encode, valid_of}
use Rattle.utf8.specs.Encoding.{encode_all}
use Rattle.utf8.specs.Laws.{TableLine, one, two, three, four, none, table_line_is, encode_one, encode_two, encode_three, encode_four}
use Rattle.utf8.specs.Rfc3629.{Valid}
use Rattle.utf8.specs.Agree.{Scalars, all_valid, valid_all, valid_only, valid_is}

-- the library's characters are the same numbers
same_scalar : (c : ℕ) → Lib.scalar c ≡ scalar c
same_scalar c = go (dec_lt c 55296) (dec_lt c 1114112)
  where
    go : Dec (c < 55296) → Dec (c < 1114112) → Lib.scalar c ≡ scalar c
    go (yes h) _ = rw (lt-ltb c 55296 h) refl
    go (no n) (yes h) = rw (le-ltb c 55296 (omega arith), lt-ltb c 1114112 h, le-leb c 1114111 (omega arith)) refl
    go (no n) (no m) = rw (le-ltb c 55296 (omega arith), le-ltb c 1114112 (omega arith), lt-leb c 1114111 (omega arith)) refl

-- the library's encoding of a character is the same
same_encode : (c : ℕ) → scalar c ≡ true → Lib.encode c ≡ encode c
unfolding Lib.encode
same_encode c e = go (table_line_is c)
  where
    go : TableLine c → Lib.encode c ≡ encode c
    go (one h) = rw (encode_one c h, lt-ltb c 128 h) refl
    go (two l h) = rw (encode_two c l h, le-ltb c 128 l, lt-ltb c 2048 h) refl
    go (three l h k) = rw (encode_three c l h k, le-ltb c 128 (omega arith), le-ltb c 2048 l, lt-ltb c 65536 h) refl
    go (four l h) = rw (encode_four c l h, le-ltb c 128 (omega arith), le-ltb c 2048 (omega arith), le-ltb c 65536 l) refl
    go (none k) = clash (cc (e, k))

-- the library's encodings of characters one after another are the same
same_all : (cs : List ℕ) → Scalars cs → (Lib.scalars cs ≡ true) × (Lib.encodes cs ≡ encode_all cs)
unfolding encode_all
same_all [] h = (refl, refl)
same_all (c ∷ r) (h, t) = let (a, b) = same_all r t in (rw (same_scalar c, h) a, rw (same_encode c h, b) refl)

-- what the library takes for characters are characters
scalars_are : (cs : List ℕ) → Lib.scalars cs ≡ true → Scalars cs
scalars_are [] h = tt
scalars_are (c ∷ r) h = let (a, b) = both (Lib.scalar c) (Lib.scalars r) h in (sym (same_scalar c) ∙ a, scalars_are r b)

-- valid bytes are UTF-8 as the library has it
pub valid_utf8 : {bs : List ℕ} → Valid bs → IsUtf8 bs
valid_utf8 v = let (cs, (t, f)) = valid_all v in let (a, b) = same_all cs t in (cs, (a, b ∙ sym f))

-- what the library takes for UTF-8 are valid bytes
pub utf8_valid : {bs : List ℕ} → IsUtf8 bs → Valid bs
utf8_valid (cs, (a, e)) = let t = scalars_are cs a in let q = same_all cs t in subst Valid (sym q.1 ∙ e) (all_valid cs t)

-- bytes that are UTF-8 as the library has it pass the test
pub utf8_passes : (bs : List ℕ) → IsUtf8 bs → valid_of bs ≡ true
utf8_passes bs u = valid_only (utf8_valid u)

-- bytes that are no UTF-8 as the library has it fail the test
pub utf8_fails : (bs : List ℕ) → (IsUtf8 bs → ⊥) → valid_of bs ≡ false
utf8_fails bs n = go (valid_of bs) refl
  where
    go : (b : Bool) → valid_of bs ≡ b → valid_of bs ≡ false
    go true e = absurd (n (valid_utf8 (valid_is bs e)))
    go false e = e
