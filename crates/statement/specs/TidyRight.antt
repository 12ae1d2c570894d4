-- Where a statement in data is tidy, its first `;` gives what it says. Assumes nothing.
use Rattle.std.specs.Prelude.{ℕ, ◌+◌, ◌-◌, ◌≤◌, ◌≡◌, Bool, false, eqb, take, drop, Result, Ok, Err}
use Rattle.std.proofs.Math.Path.{refl, ap}
use Rattle.std.proofs.Common.{sym, ◌∙◌, length-drop, eqb-true}
use Rattle.std.proofs.Math.Bool.{true}
use mathlib.Core.List.{List, [], ◌∷◌, ◌++◌}
use Rattle.std.proofs.Math.Option.{Option}
use native.Mathlib.Omega.{arith}
use Rattle.std.proofs.Math.ListN.{length, length-append}
use Rattle.std.proofs.Math.Seq.{drop-append_seam, take-append_seam}
use Rattle.std.proofs.lemmas.Bool.{eqb-false}
use Rattle.common.specs.Compare.{clash}
use Rattle.common.specs.Tests.{both}
use Rattle.error.specs.Refusal.{Told, good, bad}
use Rattle.lex.specs.Byte.{white, place}
use Rattle.lex.specs.Answer.{Sought, at, fault, placed}
use Rattle.lex.specs.Search.{record_end, trivia}
use Rattle.lex.specs.Local.{end_local}
use Rattle.lex.specs.Right.{trivia_only, end_is}
use Rattle.record.specs.Text.{past, before}
use Rattle.record.specs.Form.{All}
use Rattle.record.specs.FormRight.{past_is}
use Rattle.record.specs.Head.{data_head}
use Rattle.record.specs.HashOther.{hash_word}
use Rattle.record.specs.Word.{word_of}
use Rattle.record.specs.declared.Head.{Head}
use Rattle.record.specs.declared.Head.TheVariants.{Complex, Simple}
use Rattle.error.specs.declared.Reason.{Reason}
use Rattle.record.specs.declared.Word.TheVariants.{Other}
use Rattle.statement.specs.Rows.{Row, row, data_statement, bound, mapped}
use Rattle.statement.specs.Row.{closing_sought, record_by, record_of}
use Rattle.statement.specs.Statement.{recorded, worded, ended, after_trivia, statement}
use Rattle.statement.specs.Tidy.{unended, tidy, tidy_by, tidy_ended, tidy_record}
use Rattle.statement.specs.TidyLaws.{GoodHead}
use Rattle.statement.specs.UsualRight.{blanks}
use Rattle.statement.specs.declared.Section.TheVariants.{InData}

-- a text whose head is not bad begins with `#`
head_hash : (b : List ℕ) → GoodHead (data_head b) → (r : List ℕ) × (b ≡ 35 ∷ r)
unfolding data_head
head_hash [] k = absurd k
head_hash (c ∷ r) k = go (eqb c 35) refl
  where
    go : (x : Bool) → eqb c 35 ≡ x → (t : List ℕ) × (c ∷ r ≡ 35 ∷ t)
    go true e = (r, ap (λ (d : ℕ). d ∷ r) (eqb-true c 35 e))
    go false e = absurd (rw e at k)

-- the bytes of b and e before the rest e are b
before_seam : (b e : List ℕ) → before (b ++ e) e ≡ b
before_seam b e =
    let n : length (b ++ e) - length e ≡ length b = omega (arith, length-append b e) in
    ap (λ (k : ℕ). take k (b ++ e)) n ∙ take-append_seam b e

-- a row whose arguments end just before the `;` is the one that the first `;` gives
row_tidy : (b : Option (List ℕ)) (s ys e : List ℕ) (h : Result Head Reason) (w : Row) → good w ≡ record_by b s ys h → w.arg_end + 1 ≡ place s e → tidy_by s ys e h ≡ data_statement w ys (drop 1 e)
row_tidy b s ys e (Err why) w q n = clash (cc)
row_tidy b s ys e (Ok (Complex i o)) w q n = go (closing_sought b (drop o ys)) q
  where
    go : (x : Sought) → good w ≡ mapped (λ q. row i 0 0 (place s (drop (o + 1) ys)) q 1) (placed s x) → tidy_by s ys e (Ok (Complex i o)) ≡ data_statement w ys (drop 1 e)
    go (fault m z) q = clash (cc)
    go (at c) q =
        let f : w ≡ row i 0 0 (place s (drop (o + 1) ys)) (place s c) 1 = cc in
        let g : w.arg_end ≡ place s c = ap (λ (v : Row). v.arg_end) f in
        let m : place s e - 1 ≡ place s c = omega arith in
        rw m (ap (λ (v : Row). data_statement v ys (drop 1 e)) (sym f))
row_tidy b s ys e (Ok (Simple i a z o)) w q n = go (closing_sought b (drop o ys)) q
  where
    go : (x : Sought) → good w ≡ mapped (λ q. row i (place s (drop a ys)) (place s (drop z ys)) (place s (drop (o + 1) ys)) q 0) (placed s x)
        → tidy_by s ys e (Ok (Simple i a z o)) ≡ data_statement w ys (drop 1 e)
    go (fault m y) q = clash (cc)
    go (at c) q =
        let f : w ≡ row i (place s (drop a ys)) (place s (drop z ys)) (place s (drop (o + 1) ys)) (place s c) 0 = cc in
        let g : w.arg_end ≡ place s c = ap (λ (v : Row). v.arg_end) f in
        let m : place s e - 1 ≡ place s c = omega arith in
        rw m (ap (λ (v : Row). data_statement v ys (drop 1 e)) (sym f))

-- a record ys of the file s that begins with `#`, and whose first `;` is where e begins
module _ (s ys f e : List ℕ) (closing_sought : past unended ys ≡ e) (shape : ys ≡ f ++ e) (less : length ys ≤ length s) (hash : (r : List ℕ) × (ys ≡ 35 ∷ r)) where
  -- two rests of the record of the same length are one
  same_rest : (b g : List ℕ) → ys ≡ b ++ g → length e ≡ length g → (e ≡ g) × (f ≡ b)
  same_rest b g q n =
      let l : length ys ≡ length f + length e = ap length shape ∙ length-append f e in
      let m : length ys ≡ length b + length g = ap length q ∙ length-append b g in
      let k : length f ≡ length b = omega arith in (
        sym (drop-append_seam f e) ∙ ap (drop (length f)) (sym shape ∙ q) ∙ ap (λ (j : ℕ). drop j (b ++ g)) k ∙ drop-append_seam b g,
        sym (take-append_seam f e) ∙ ap (take (length f)) (sym shape ∙ q) ∙ ap (λ (j : ℕ). take j (b ++ g)) k ∙ take-append_seam b g,
      )

  -- where the record ends at a `;` with r after it and is tidy, its first `;` gives what it says
  ended_tidy : (b r : List ℕ) → ys ≡ b ++ (59 ∷ r) → tidy s (recorded ys r (record_of s ys b)) ≡ true → tidy_by s ys e (data_head f) ≡ recorded ys r (record_of s ys b)
  unfolding record_of
  ended_tidy b r q = go (record_by (bound ys b) s ys (data_head b)) refl
    where
      go : (x : Told Row) → record_by (bound ys b) s ys (data_head b) ≡ x → tidy s (recorded ys r x) ≡ true → tidy_by s ys e (data_head f) ≡ recorded ys r x
      go (bad p) y h = clash (cc)
      go (good w) y h =
          let (h1, h2) = both (eqb (place s (past unended ys) + 1) (place s r)) (eqb (w.arg_end + 1) (place s (past unended ys))) h in
          let n1 : place s e + 1 ≡ place s r = rw closing_sought at (eqb-true (place s (past unended ys) + 1) (place s r) h1) in
          let n2 : w.arg_end + 1 ≡ place s e = rw closing_sought at (eqb-true (w.arg_end + 1) (place s (past unended ys)) h2) in
          let l : length ys ≡ length f + length e = ap length shape ∙ length-append f e in
          let m : length ys ≡ length b + length (59 ∷ r) = ap length q ∙ length-append b (59 ∷ r) in
          let k : length e ≡ length (59 ∷ r) = omega arith in
          let (p1, p2) = same_rest b (59 ∷ r) q k in
          ap (λ (g : List ℕ). tidy_by s ys e (data_head g)) p2 ∙ row_tidy (bound ys b) s ys e (data_head b) w (sym y) n2 ∙ ap (λ (g : List ℕ). data_statement w ys (drop 1 g)) p1

  -- what stands before a `;` of the record is no section word
  word_tidy : (b r : List ℕ) → ys ≡ b ++ (59 ∷ r) → Other ≡ word_of b
  word_tidy [] r q = let (t, g) = hash in absurd (eqb-false 35 59 refl (cc))
  word_tidy (c ∷ b) r q = let (t, g) = hash in let z : c ≡ 35 = cc in hash_word (c ∷ b) (omega arith) z

  -- where the record is tidy, what it says is what its first `;` gives
  said_tidy : tidy s (ended s ys InData (record_end ys)) ≡ true → tidy_by s ys e (data_head f) ≡ ended s ys InData (record_end ys)
  said_tidy h = go (record_end ys) refl h
    where
      go : (x : Sought) → record_end ys ≡ x → tidy s (ended s ys InData x) ≡ true → tidy_by s ys e (data_head f) ≡ ended s ys InData x
      go (fault n o) y k = clash (cc)
      go (at g) y k =
          let (r, w, u) = end_is ys g y in
          let (b, q, l) = end_local ys r (y ∙ ap at w) in
          let z : before ys (59 ∷ r) ≡ b = ap (λ (j : List ℕ). before j (59 ∷ r)) q ∙ before_seam b (59 ∷ r) in
          let m : ended s ys InData (at g) ≡ recorded ys r (record_of s ys b) =
          ap (λ (j : List ℕ). ended s ys InData (at j)) w
          ∙ ap (λ (j : List ℕ). worded s ys (59 ∷ r) InData (word_of j)) z ∙ ap (worded s ys (59 ∷ r) InData) (sym (word_tidy b r q))
          ∙ ap (λ (j : List ℕ). recorded ys r (record_of s ys j)) z in
          ended_tidy b r q (rw m at k) ∙ sym m

-- the head of a record that `tidy_by` gives is not bad
whole_of_lem : (s ys e zs t : List ℕ) (w : Row) (h : Result Head Reason) → data_statement w zs t ≡ tidy_by s ys e h → GoodHead h
whole_of_lem s ys e zs t w (Err why) q = clash (cc)
whole_of_lem s ys e zs t w (Ok (Complex i o)) q = tt
whole_of_lem s ys e zs t w (Ok (Simple i a z o)) q = tt

-- whitespace before a `#` is all the trivia
hash_led : (xs f ys r : List ℕ) → xs ≡ f ++ ys → All white f → ys ≡ 35 ∷ r → trivia xs ≡ at ys
hash_led xs f ys r x a q = trivia_only (record {
  before = rw x (blanks f ys a);
  unblank = λ c w (t, g). let z : c ≡ 35 = cc in let v : white 35 ≡ true = rw z at w in clash (cc);
  unopened = λ (t, g). eqb-false 35 47 refl (cc);
})

-- where what a statement in data says is tidy and its first `;` gives a record, that is what it says
pub tidy_said : (s : List ℕ) (i : ℕ) (w : Row) (zs t : List ℕ) → data_statement w zs t ≡ tidy_record s (drop i s) → tidy s (statement s InData (drop i s)) ≡ true
    → data_statement w zs t ≡ statement s InData (drop i s)
unfolding tidy_record statement
tidy_said s i w zs t q h =
    let (f, x, a) = past_is white (drop i s) in
    let (g, y, b) = past_is unended (past white (drop i s)) in
    go f (past white (drop i s)) g (past unended (past white (drop i s))) x a.all y refl q
  where
    go : (f ys g e : List ℕ) → drop i s ≡ f ++ ys → All white f → ys ≡ g ++ e → past unended ys ≡ e → data_statement w zs t ≡ tidy_ended s ys e → data_statement w zs t ≡ after_trivia s InData (trivia (drop i s))
    go f ys g [] x a y z q = clash (cc)
    go f ys g (c ∷ r) x a y z q =
        let m : before ys (c ∷ r) ≡ g = ap (λ (j : List ℕ). before j (c ∷ r)) y ∙ before_seam g (c ∷ r) in
        let q' : data_statement w zs t ≡ tidy_by s ys (c ∷ r) (data_head g) = q ∙ ap (λ (j : List ℕ). tidy_by s ys (c ∷ r) (data_head j)) m in
        let (k, n) = head_hash g (whole_of_lem s ys (c ∷ r) zs t w (data_head g) q') in
        let hs : ys ≡ 35 ∷ (k ++ (c ∷ r)) = y ∙ ap (λ (j : List ℕ). j ++ (c ∷ r)) n in
        let l : length (drop i s) ≡ length f + length ys = ap length x ∙ length-append f ys in
        let v : after_trivia s InData (trivia (drop i s)) ≡ ended s ys InData (record_end ys) = ap (after_trivia s InData) (hash_led (drop i s) f ys (k ++ (c ∷ r)) x a hs) ∙ rw hs refl in
        q' ∙ said_tidy s ys g (c ∷ r) z y (omega (arith, length-drop i s)) (k ++ (c ∷ r), hs) (rw v at h) ∙ sym v
