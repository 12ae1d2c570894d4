-- What the head of a record's text is, at places of the text: a law for each way out of the code.
-- Assumes nothing.
use Rattle.std.specs.Prelude.{ℕ, ◌+◌, ◌-◌, ◌≤◌, ◌<◌, ◌≡◌, true, false, eqb, take, drop, Ok, Err}
use Rattle.std.proofs.Math.Path.{refl}
use Rattle.std.proofs.Common.{sym, ◌∙◌, ap, arith, take_all}
use mathlib.Core.List.{List, [], ◌∷◌, map}
use Rattle.std.proofs.Math.Decide.{ℕ_discrete}
use borrow.Author.Tests.{eq-eqb, ne_eqb, lt-ltb, le-ltb}
use Rattle.std.proofs.Math.ListN.{length, get_or, length-drop}
use Rattle.std.proofs.lemmas.List.{length-map}
use Rattle.common.specs.Lists.{split, drop_end}
use Rattle.lex.specs.Byte.{place}
use Rattle.lex.specs.Place.{place_drop}
use Rattle.record.specs.Text.{past_gap, number_and_rest, number_from, Keyed, opened, unopened, keyword, trail}
use Rattle.record.specs.Byte.{upper}
use Rattle.record.specs.Word.{is_word, data_word, opens_data, trimmed}
use Rattle.record.specs.Turns.{same_lengths}
use Rattle.record.specs.Head.{value_head, equal_head, data_head, header_head, keyed_head}
use Rattle.record.specs.declared.Head.TheVariants.{Complex, Simple}
use Rattle.error.specs.declared.Reason.TheVariants.{NoHeaderParen, NoHash, LargeId, NoDigits, NoEqual, NoValue, NoParen}

-- the rest from a byte on begins where the byte stands
place_cons : (b : List ℕ) (v : ℕ) → v < length b → place b (get_or b v 0 ∷ drop (v + 1) b) ≡ v
place_cons b v h = ap (place b) (sym (split b v h)) ∙ place_drop b v (omega arith)

-- laws of a data record's head b with the id `id`, where the rest r that is left to read begins at v
module _ (b : List ℕ) (id v : ℕ) (r : List ℕ) (e : drop v b ≡ r) where
  -- where no byte is left for the value, the head is reason 6
  pub value_none : length b ≤ v → Err NoValue ≡ value_head b id r
  value_none h = rw (← e, drop_end b v h) refl

  -- where the value begins with `(`, the head is that of a complex record
  pub value_complex : v < length b → get_or b v 0 ≡ 40 → Ok (Complex id v) ≡ value_head b id r
  value_complex h k = rw (← e, split b v h, eq-eqb _ _ k) (ap (λ (p : ℕ). Ok (Complex id p)) (sym (place_cons b v h)))

  -- where the value begins with another byte than `(`, the head is by its keyword
  pub value_keyed : v < length b → (get_or b v 0 ≡ 40 → ⊥) → keyed_head b id (drop v b) (keyword (drop v b)) ≡ value_head b id r
  value_keyed h k = rw (← e, split b v h, ne_eqb _ _ k) refl

  -- where no byte is left for the `=`, the head is reason 5
  pub equal_none : length b ≤ v → Err NoEqual ≡ equal_head b id r
  equal_none h = rw (← e, drop_end b v h) refl

  -- where another byte stands for the `=`, the head is reason 5
  pub equal_other : v < length b → (get_or b v 0 ≡ 61 → ⊥) → Err NoEqual ≡ equal_head b id r
  equal_other h k = rw (← e, split b v h, ne_eqb _ _ k) refl

  -- where the `=` stands there, the head is that of the value after it and whitespace
  pub equal_found : v < length b → get_or b v 0 ≡ 61 → value_head b id (past_gap (drop (v + 1) b)) ≡ equal_head b id r
  equal_found h k = rw (← e, split b v h, eq-eqb _ _ k) refl

-- where no `(` is found after a data record's `=`, the head is reason 7
pub keyed_absent : (b : List ℕ) (id v : ℕ) (k : Keyed) → k ≡ unopened → Err NoParen ≡ keyed_head b id (drop v b) k
keyed_absent b id v k q = rw q refl

-- where a data record's keyword and `(` are found, the head has their places
pub keyed_found : (b : List ℕ) (id v e o : ℕ) (k : Keyed) → v ≤ length b → e ≤ length b → o ≤ length b → k ≡ opened (drop e b) (drop o b) → Ok (Simple id v e o) ≡ keyed_head b id (drop v b) k
keyed_found b id v e o k hv he ho q = rw (q, place_drop b v hv, place_drop b e he, place_drop b o ho) refl

-- the head of a header record without `(` is reason 1
pub named_absent : (b : List ℕ) (v : ℕ) → drop v b ≡ past_gap b → keyword (drop v b) ≡ unopened → Err NoHeaderParen ≡ header_head b
unfolding header_head
named_absent b v p q = rw (← p, q) refl

-- where a header record's keyword and `(` are found, the head has their places
pub named_found : (b : List ℕ) (v e o : ℕ) → drop v b ≡ past_gap b → v ≤ length b → e ≤ length b → o ≤ length b → keyword (drop v b) ≡ opened (drop e b) (drop o b) → Ok (record { start = v; end = e; opening = o }) ≡ header_head b
unfolding header_head
named_found b v e o p hv he ho q = rw (← p, q, place_drop b v hv, place_drop b e he, place_drop b o ho) refl

-- the head of an empty data record is reason 2
pub data_none : (b : List ℕ) → length b ≡ 0 → Err NoHash ≡ data_head b
unfolding data_head
data_none [] h = refl
data_none (c ∷ r) h = absurd (omega arith)

module _ (b : List ℕ) (h : 0 < length b) where
  -- the head of a data record that does not begin with `#` is reason 2
  pub data_other : (get_or b 0 0 ≡ 35 → ⊥) → Err NoHash ≡ data_head b
  unfolding data_head
  data_other k = go b k h
    where
      go : (l : List ℕ) → (get_or l 0 0 ≡ 35 → ⊥) → 0 < length l → Err NoHash ≡ data_head l
      go [] k h = refl
      go (c ∷ r) k h = rw (ne_eqb c 35 k) refl

  -- the head of a data record with an id above 4294967295 is reason 3
  pub data_over : get_or b 0 0 ≡ 35 → 4294967295 < (number_from 0 (drop 1 b)).value → Err LargeId ≡ data_head b
  unfolding data_head
  data_over k n = go b k h n
    where
      go : (l : List ℕ) → get_or l 0 0 ≡ 35 → 0 < length l → 4294967295 < (number_from 0 (drop 1 l)).value → Err LargeId ≡ data_head l
      go [] k h n = absurd (omega arith)
      go (c ∷ r) k h n = rw (eq-eqb c 35 k, lt-ltb _ _ n) refl

  -- the head of a data record with no digits after its `#` is reason 4
  pub data_empty : (n : ℕ) → get_or b 0 0 ≡ 35 → number_from 0 (drop 1 b) ≡ number_and_rest n (drop 1 b) → n ≤ 4294967295 → Err NoDigits ≡ data_head b
  unfolding data_head
  data_empty n k q m = go b k h q
    where
      go : (l : List ℕ) → get_or l 0 0 ≡ 35 → 0 < length l → number_from 0 (drop 1 l) ≡ number_and_rest n (drop 1 l) → Err NoDigits ≡ data_head l
      go [] k h q = absurd (omega arith)
      go (c ∷ r) k h q = rw (eq-eqb c 35 k, q, le-ltb _ _ m, eq-eqb (length r) (length r) refl) refl

  -- after `#` and the id's digits, a data record's head is that of what follows them and whitespace
  pub data_value : (n p : ℕ) → get_or b 0 0 ≡ 35 → number_from 0 (drop 1 b) ≡ number_and_rest n (drop p b) → n ≤ 4294967295 → 1 ≤ p → p ≤ length b → (p ≡ 1 → ⊥) → equal_head b n (past_gap (drop p b)) ≡ data_head b
  unfolding data_head
  data_value n p k q m a z o = go b k h q z
    where
      go : (l : List ℕ) → get_or l 0 0 ≡ 35 → 0 < length l → number_from 0 (drop 1 l) ≡ number_and_rest n (drop p l) → p ≤ length l → equal_head l n (past_gap (drop p l)) ≡ data_head l
      go [] k h q z = absurd (omega arith)
      go (c ∷ r) k h q z =
          let f : length (drop p (c ∷ r)) ≡ length r → ⊥ = λ e. omega (arith, length-drop p (c ∷ r)) in
          rw (eq-eqb c 35 k, q, le-ltb _ _ m, ne_eqb (length (drop p (c ∷ r))) (length r) f) refl

-- a text that has not four bytes is not the word `DATA`
data_short : (t : List ℕ) → (length t ≡ 4 → ⊥) → is_word t data_word ≡ false
data_short t h = same_lengths (map upper t) data_word (λ e. h (sym (length-map t upper) ∙ e))

-- a text of fewer than four bytes opens no data
pub opens_short : (t : List ℕ) → length t < 4 → false ≡ opens_data t
opens_short t h =
    let a : take 4 t ≡ t = take_all 4 t (omega arith) in
    rw (a, data_short t (omega arith)) refl

-- a text whose first four bytes are not `DATA` opens no data
pub opens_other : (t : List ℕ) → false ≡ is_word (take 4 t) data_word → false ≡ opens_data t
opens_other t e = go (ℕ_discrete (length t) 4)
  where
    go : Dec (length t ≡ 4) → false ≡ opens_data t
    go (yes h) =
        let a : take 4 t ≡ t = take_all 4 t (omega arith) in
        let f : is_word t data_word ≡ false = rw a at (sym e) in
        rw (a, f) refl
    go (no h) = rw (data_short t h, sym e) refl

-- a text of `DATA`, whitespace or none and more opens data just where a `(` is next
pub opens_after : (t : List ℕ) (p : ℕ) → true ≡ is_word (take 4 t) data_word → 4 ≤ p → drop p t ≡ past_gap (drop 4 t) → p < length t → eqb (get_or t p 0) 40 ≡ opens_data t
opens_after t p e h q k = rw (data_short t (omega arith), sym e, ← q, split t p k) refl

-- a text of `DATA` and nothing but whitespace opens data just where it is `DATA` alone
pub opens_alone : (t : List ℕ) (p : ℕ) → true ≡ is_word (take 4 t) data_word → drop p t ≡ past_gap (drop 4 t) → length t ≤ p → eqb (length t) 4 ≡ opens_data t
opens_alone t p e q k = go (ℕ_discrete (length t) 4)
  where
    none : drop p t ≡ []
    none = drop_end t p k

    go : Dec (length t ≡ 4) → eqb (length t) 4 ≡ opens_data t
    go (yes h) =
        let a : take 4 t ≡ t = take_all 4 t (omega arith) in
        let f : is_word t data_word ≡ true = rw a at (sym e) in
        rw (eq-eqb _ _ h, f) refl
    go (no h) = rw (ne_eqb _ _ h, data_short t h, sym e, ← q, none) refl

-- the trimmed text is the part from its first byte that is not white to the last
pub trimmed_at : (b : List ℕ) (a e : ℕ) → drop a b ≡ past_gap b → drop e b ≡ trail (drop a b) → a ≤ e → e ≤ length b → take (e - a) (drop a b) ≡ trimmed b
trimmed_at b a e p q h k =
    let n : e - a ≡ length (drop a b) - length (drop e b) = omega (arith, length-drop a b, length-drop e b) in
    rw (← p, ← q) (ap (λ (m : ℕ). take m (drop a b)) n)
