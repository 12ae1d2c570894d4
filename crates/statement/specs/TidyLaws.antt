-- What Tidy.antt says at places of the file: the laws that the code's proofs cite. Assumes nothing.
use Rattle.std.specs.Prelude.{ℕ, ◌+◌, ◌-◌, ◌≤◌, ◌<◌, ◌≡◌, Bool, true, false, ◌&&◌, List, [], ◌∷◌, eqb, length, take, drop, get_or, Option, Some, None, Result, Ok, Err}
use Rattle.std.proofs.Math.Path.{refl}
use Rattle.std.proofs.Common.{sym, ◌∙◌, ap, arith, drop-drop, eq-eqb, ne_eqb, eqb-true}
use Rattle.std.proofs.Math.Bool.{not}
use Rattle.std.proofs.lemmas.Bool.{eqb-false}
use Rattle.common.specs.Lists.{split, drop_end}
use Rattle.lex.specs.Byte.{white, place}
use Rattle.lex.specs.Place.{place_drop}
use Rattle.common.specs.Walk.{walk}
use Rattle.record.specs.Text.{past, before}
use Rattle.record.specs.Turns.{past_stops, past_goes}
use Rattle.record.specs.Head.{data_head}
use Rattle.record.specs.declared.Head.{Head}
use Rattle.record.specs.declared.Head.TheVariants.{Complex, Simple}
use Rattle.error.specs.declared.Reason.{Reason}
use Rattle.record.specs.Within.{HeadWithin}
use Rattle.statement.specs.Row.{opening_of, row_at}
use Rattle.statement.specs.Rows.{Row, reading_ends, data_statement}
use Rattle.statement.specs.Laws.{place_in_lem, before_at, text_length}
use Rattle.statement.specs.Tidy.{unended, tidy, tidy_by, tidy_ended, tidy_record, TidyAhead}
use Rattle.statement.specs.declared.RecordSpan.{RecordSpan}

-- one byte of a search for a `;`, at the place i
module _ (s : List ℕ) (i : ℕ) (h : i < length s) where
  pub end_stops : get_or s i 0 ≡ 59 → drop i s ≡ past unended (drop i s)
  unfolding past
  end_stops e = past_stops s i h unended (past unended (drop i s)) (ap not (eq-eqb _ _ e)) refl

  pub end_goes : (get_or s i 0 ≡ 59 → ⊥) → past unended (drop (i + 1) s) ≡ past unended (drop i s)
  unfolding past
  end_goes e = past_goes s i h unended (past unended (drop i s)) (ap not (ne_eqb _ _ e)) refl

-- a head that is not bad
abbrev pub GoodHead : Result Head Reason → Type 0
GoodHead (Err why) = ⊥
GoodHead (Ok h) = Unit {0}

-- a text whose head is not bad has bytes in it
head_some : (b : List ℕ) → (h : Result Head Reason) → GoodHead h → data_head b ≡ h → 0 < length b
unfolding data_head
head_some [] h k e = absurd (rw (← e) at k)
head_some (c ∷ r) h k e = omega arith

-- a record by its head and its `;`, at places of the file
module _ (s : List ℕ) (p e : ℕ) (b : List ℕ) (h : p ≤ e) (k : e < length s) where
  pub tidy_none : (why : Reason) → data_head b ≡ Err why → reading_ends ≡ tidy_by s (drop p s) (drop e s) (data_head b)
  tidy_none why q = rw q refl

  pub tidy_made : (g : Head) → HeadWithin (length s - p) (Ok g) → p + opening_of g + 1 ≤ length s → data_head b ≡ Ok g
      → data_statement (row_at p g (p + opening_of g + 1) (e - 1)) (drop p s) (drop (e + 1) s) ≡ tidy_by s (drop p s) (drop e s) (data_head b)
  tidy_made (Complex i o) w l q =
      let n : p + o + 1 ≡ place s (drop (o + 1) (drop p s)) = omega (arith, place_in_lem s p (o + 1) (omega arith)) in
      rw (q, place_drop s e (omega arith), drop-drop 1 e s, ← n) refl
  tidy_made (Simple i a z o) w l q =
      let n : p + o + 1 ≡ place s (drop (o + 1) (drop p s)) = omega (arith, place_in_lem s p (o + 1) (omega arith)) in
      rw (q, place_drop s e (omega arith), drop-drop 1 e s, place_in_lem s p a (omega arith), place_in_lem s p z (omega arith), ← n) refl

-- `tidy_record` from the place i on: whitespace ends at p, and the first `;` from there on is at e
module _ (s : List ℕ) (i p e : ℕ) (led : drop p s ≡ past white (drop i s)) (sought : drop e s ≡ past unended (drop p s)) where
  tidy_is : tidy_record s (drop i s) ≡ tidy_ended s (drop p s) (drop e s)
  unfolding tidy_record
  tidy_is = rw (← led, ← sought) refl

  -- where no `;` is found, there is no tidy record
  pub tidy_over : length s ≤ e → reading_ends ≡ tidy_record s (drop i s)
  tidy_over h = rw (tidy_is, drop_end s e h) refl

  -- where the first `;` stands at e, the record is read by the head of its text and that `;`
  pub tidy_found : p ≤ e → e < length s → tidy_by s (drop p s) (drop e s) (data_head (take (e - p) (drop p s))) ≡ tidy_record s (drop i s)
  tidy_found h k = sym (tidy_is ∙ go (drop e s) refl)
    where
      go : (x : List ℕ) → drop e s ≡ x → tidy_ended s (drop p s) x ≡ tidy_by s (drop p s) x (data_head (take (e - p) (drop p s)))
      go [] q = let n : length (drop e s) ≡ length (get_or s e 0 ∷ drop (e + 1) s) = ap length (split s e k) in
          let m : length (drop e s) ≡ 0 = ap length q in absurd (omega arith)
      go (c ∷ r) q = ap (λ (b : List ℕ). tidy_by s (drop p s) (c ∷ r) (data_head b)) (ap (before (drop p s)) (sym q) ∙ before_at s p e h (omega arith))

-- from the file's end on there is no tidy record
pub tidy_past : (s : List ℕ) (i : ℕ) → length s ≤ i → reading_ends ≡ tidy_record s (drop i s)
unfolding tidy_record past walk
tidy_past s i h = rw (drop_end s i h) refl

-- a record is tidy just where the first `;` from its start is its own and its arguments end just before that, at places
pub tidy_noted : (s : List ℕ) (w : Row) (p n e : ℕ) → n ≤ length s → e ≤ length s → drop e s ≡ past unended (drop p s)
    → eqb (e + 1) n && eqb (w.arg_end + 1) e ≡ tidy s (data_statement w (drop p s) (drop n s))
tidy_noted s w p n e h k q = rw (← q, place_drop s n h, place_drop s e k) refl

-- the search for a `;` ends at the file's end
pub tidy_end_none : (s : List ℕ) (i : ℕ) → length s ≤ i → drop i s ≡ past unended (drop i s)
unfolding past walk
tidy_end_none s i h = rw (drop_end s i h) refl

-- a place b that is not behind a is not the one after a
pub next_not : (a b : ℕ) → b ≤ a → false ≡ eqb (a + 1) b
next_not a b h = sym (ne_eqb (a + 1) b (λ e. omega arith))

-- a place b behind a is the one after a just where their distance is 1
pub next_by_distance : (a b : ℕ) → a < b → eqb (b - a) 1 ≡ eqb (a + 1) b
next_by_distance a b h = go (eqb (a + 1) b) refl
  where
    go : (x : Bool) → eqb (a + 1) b ≡ x → eqb (b - a) 1 ≡ x
    go true e = let f = eqb-true (a + 1) b e in eq-eqb (b - a) 1 (omega arith)
    go false e = let f = eqb-false (a + 1) b e in ne_eqb (b - a) 1 (λ z. f (omega arith))

-- a record whose head is not bad begins before its `;`
pub head_after : (s : List ℕ) (p e : ℕ) (h : Result Head Reason) → p ≤ e → e < length s → GoodHead h → data_head (take (e - p) (drop p s)) ≡ h → p < e
head_after s p e h l m k q =
    let n : 0 < length (take (e - p) (drop p s)) = head_some (take (e - p) (drop p s)) h k q in omega (arith, text_length s p e l (omega arith))

-- an answer of `tidy_record` that lies after a later place lies after an earlier one
pub tidy_ahead : (i p n : ℕ) (r : Option (RecordSpan × ℕ × ℕ)) → i ≤ p → TidyAhead p n r → TidyAhead i n r
tidy_ahead i p n None h w = tt
tidy_ahead i p n (Some (r, q, m)) h w = (omega arith, omega arith, omega arith)
