-- A text that begins with `#`, the byte 35, is no section word. Assumes nothing.
use Rattle.std.specs.Prelude.{ℕ, ◌<◌, length, get_or, ◌≡◌, refl, List, [], ◌∷◌, ◌++◌}
use Rattle.std.proofs.Common.{arith, sym}
use Rattle.common.specs.Compare.{clash}
use Rattle.lex.specs.Grammar.{Begins}
use Rattle.record.specs.Form.{Gap, Trimmed}
use Rattle.record.specs.FormRight.{trimmed_is}
use Rattle.common.specs.Walk.{walk}
use Rattle.record.specs.Text.{past, trail}
use Rattle.record.specs.Word.{word_of}
use Rattle.record.specs.declared.Word.TheVariants.{Other}

-- a text that begins with `#` begins with it when trimmed
hash_trimmed : {t u : List ℕ} → Trimmed (35 ∷ t) u → Begins 35 u
hash_trimmed {t} {u} f = go f.front u f.back f.shape f.before f.after
  where
    go : (a v z : List ℕ) → 35 ∷ t ≡ a ++ (v ++ z) → Gap a → Gap z → Begins 35 v
    go (c ∷ a) v z e (h, k) w = clash (cc)
    go [] (c ∷ v) z e h w = (v, cc)
    go [] [] [] e h w = clash (cc)
    go [] [] (c ∷ z) e h (w, k) = clash (cc)

-- a text that begins with `#` is no section word
pub hash_other : (t : List ℕ) → word_of (35 ∷ t) ≡ Other
unfolding word_of
hash_other t = let (u, e) = hash_trimmed (trimmed_is (35 ∷ t)) in rw e refl

-- a text with `#` at its first place is no section word
pub hash_word : (b : List ℕ) → 0 < length b → get_or b 0 0 ≡ 35 → Other ≡ word_of b
hash_word [] h e = absurd (omega arith)
hash_word (c ∷ t) h e = rw e (sym (hash_other t))

-- an empty text is no section word
pub empty_word : (b : List ℕ) → length b ≡ 0 → Other ≡ word_of b
unfolding word_of past trail walk
empty_word [] h = refl
empty_word (c ∷ t) h = absurd (omega arith)
