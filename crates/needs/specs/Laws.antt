-- The counting so far, as the loop keeps it, and what each statement does to it.
-- Assumes nothing.
use Rattle.std.specs.Prelude.{ℕ, ◌+◌, ◌-◌, ◌≤◌, ◌<◌, max, ◌≡◌, refl, Bool, true, false, List, ltb, length, drop}
use Rattle.std.proofs.Common.{sym, ◌∙◌, subst, arith, lt-ltb}
use Rattle.std.proofs.Math.Path.{ap}
use Rattle.common.specs.Pick.{pick}
use Rattle.common.specs.Compare.{clash}
use Rattle.scan.specs.Laws.{unrolled}
use Rattle.error.specs.Refusal.{Refusal, refusal, Told, good, bad, told}
use Rattle.error.specs.declared.Fault.{Fault}
use Rattle.error.specs.declared.Fault.TheVariants.{NoMarker, TooLong, OpenComment, OpenString, NoEnd, OpenParen, BadRecord, NoRow, OutOfFile, NoParameter, OpenLiteral, WrongType, OutsideClass, NoRecord, TooDeep, TooShort}
use Rattle.statement.specs.Rows.{Row, HeaderRow, Stmt, reading_ends, statement_refused, section_now, header_statement, data_statement, mapped}
use Rattle.statement.specs.Statement.{statement}
use Rattle.statement.specs.declared.Section.{Section}
use Rattle.statement.specs.declared.Section.TheVariants.{Outside, InHeader, InData}
use Rattle.scan.specs.Records.{Table, with_header, with_record, largest}
use Rattle.scan.specs.File.{taken, read_from, reading_of, marked, scan_of}
use Rattle.scan.specs.ScanMemory.{counts_of}
use Rattle.scan.specs.LargerRooms.{refusal_roomy}
use Rattle.argument_sizes.specs.declared.Sizes.{Sizes}
use Rattle.argument_sizes.specs.Lengths.{record_sizes_of}
use Rattle.argument_sizes.specs.Rules.{greater_sizes, no_sizes}
use Rattle.argument_sizes.specs.Laws.{same_sizes, both_nothing, nothing_both}
use Rattle.needs.specs.declared.Needs.{Needs}
use Rattle.needs.specs.Needs.{most_of, head_sizes, row_sizes, needs, needs_in, needs_of}

-- the needs so far, with those of the table that the rest of the file has
abbrev pub needs_plus : List ℕ → ℕ → ℕ → ℕ → Sizes → Table → Needs
needs_plus s h r m z t = needs (h + length t.headers) (r + length t.records) (max m (largest t.records)) (greater_sizes z (greater_sizes (head_sizes s t.headers) (row_sizes s t.records)))

-- the counting so far: h and r rows, the largest id and the sizes up to the place i, and what is left gives the rest
pub record Counting (s : List ℕ) (i : ℕ) (sec : Section) (h r m : ℕ) (z : Sizes) : Type 0 where
  pub fuel : ℕ
  pub within : i ≤ length s
  pub enough : length s - i < fuel
  pub same : mapped (needs_plus s h r m z) (read_from fuel s (length s) (length s) sec h r (drop i s)) ≡ mapped (needs_in s) (reading_of s (length s) (length s))
  pub hroom : h ≤ i
  pub rroom : r ≤ i

-- the greater of 0 and k is k
max_none : (k : ℕ) → max 0 k ≡ k
max_none k = omega arith

-- needs that are the same number by number
same_needs : {h r m h' r' m' : ℕ} {z z' : Sizes} → h ≡ h' → r ≡ r' → m ≡ m' → z ≡ z' → needs h r m z ≡ needs h' r' m' z'
same_needs a b c d = λ i. record { headers = a i; records = b i; max = c i; items = (d i).items; text = (d i).text; rows = (d i).rows }

-- a header record's sizes count the same joined to those so far as joined to those of what is left
first_most : (z i a b : Sizes) → greater_sizes z (greater_sizes (greater_sizes i a) b) ≡ greater_sizes (greater_sizes z i) (greater_sizes a b)
first_most z i a b = same_sizes (one z.text i.text a.text b.text) (one z.items i.items a.items b.items) (one z.rows i.rows a.rows b.rows)
  where
    one : (j k l n : ℕ) → max j (max (max k l) n) ≡ max (max j k) (max l n)
    one j k l n = omega arith

-- a data record's sizes count the same joined to those so far as joined to those of what is left
later_most : (z i a b : Sizes) → greater_sizes z (greater_sizes a (greater_sizes i b)) ≡ greater_sizes (greater_sizes z i) (greater_sizes a b)
later_most z i a b = same_sizes (one z.text i.text a.text b.text) (one z.items i.items a.items b.items) (one z.rows i.rows a.rows b.rows)
  where
    one : (j k l n : ℕ) → max j (max l (max k n)) ≡ max (max j k) (max l n)
    one j k l n = omega arith

-- with nothing counted so far, the needs are those of the table
plus_none : (s : List ℕ) (y : Told Table) → mapped (needs_plus s 0 0 0 no_sizes) y ≡ mapped (needs_in s) y
plus_none s (good t) = ap good (same_needs (omega arith) (omega arith) (max_none (largest t.records)) (nothing_both (greater_sizes (head_sizes s t.headers) (row_sizes s t.records))))
plus_none s (bad q) = refl

-- with one header row more in the table that is left, the needs are those with its row and sizes counted so far
plus_header : (s : List ℕ) (h r m : ℕ) (z : Sizes) (w : HeaderRow) (y : Told Table)
    → mapped (needs_plus s h r m z) (mapped (with_header w) y) ≡ mapped (needs_plus s (h + 1) r m (greater_sizes z (record_sizes_of s w.arg_start w.arg_end 0))) y
unfolding most_of
plus_header s h r m z w (good t) =
    ap good (same_needs (omega arith) refl refl (first_most z (record_sizes_of s w.arg_start w.arg_end 0) (head_sizes s t.headers) (row_sizes s t.records)))
plus_header s h r m z w (bad q) = refl

-- with one data row more in the table that is left, the needs are those with its row, id and sizes counted so far
plus_record : (s : List ℕ) (h r m : ℕ) (z : Sizes) (w : Row) (y : Told Table)
    → mapped (needs_plus s h r m z) (mapped (with_record w) y) ≡ mapped (needs_plus s h (r + 1) (max m w.id) (greater_sizes z (record_sizes_of s w.arg_start w.arg_end w.complex))) y
unfolding largest most_of
plus_record s h r m z w (good t) =
    ap good (same_needs refl (omega arith) (biggest w.id (largest t.records)) (later_most z (record_sizes_of s w.arg_start w.arg_end w.complex) (head_sizes s t.headers) (row_sizes s t.records)))
  where
    biggest : (i a : ℕ) → max m (max i a) ≡ max (max m i) a
    biggest i a = omega arith
plus_record s h r m z w (bad q) = refl

-- the counting as the loop keeps it holds where the loop begins
pub counting_starts : (s : List ℕ) → Counting s 0 Outside 0 0 0 no_sizes
counting_starts s = record {
  fuel = length s + 1;
  within = omega arith;
  enough = omega arith;
  same = plus_none s (reading_of s (length s) (length s));
  hroom = omega arith;
  rroom = omega arith;
}

module _ (s : List ℕ) (i : ℕ) (sec : Section) (h r m : ℕ) (z : Sizes) (g : Counting s i sec h r m z) where
  -- the whole counting is what is counted so far and what the next statement makes of the rest
  turn : (y : Stmt) → y ≡ statement s sec (drop i s)
      → mapped (needs_plus s h r m z) (taken s (length s) (length s) h r y (λ sec h r t. read_from (g.fuel - 1) s (length s) (length s) sec h r t)) ≡ mapped (needs_in s) (reading_of s (length s) (length s))
  turn y e = rw (e, ← unrolled g.fuel s (length s) (length s) sec h r (drop i s) (omega (arith, g.enough))) g.same

  -- where the next statement ends the reading, what is counted so far is what the file needs
  pub counting_ends : reading_ends ≡ statement s sec (drop i s) → good (needs h r m z) ≡ mapped (needs_in s) (reading_of s (length s) (length s))
  unfolding largest most_of
  counting_ends e = ap good (same_needs (omega arith) (omega arith) (omega arith) (sym (both_nothing z))) ∙ turn reading_ends e

  -- where the next statement is refused, so is the whole counting
  pub counting_refused : (q : Refusal) → statement_refused q ≡ statement s sec (drop i s) → bad q ≡ mapped (needs_in s) (reading_of s (length s) (length s))
  counting_refused q e = turn (statement_refused q) e

  -- after a section word, or a record that is ignored, the counting goes on with the same numbers
  pub counting_moves : (to : Section) (j : ℕ) → section_now to (drop j s) ≡ statement s sec (drop i s) → i < j → j ≤ length s → Counting s j to h r m z
  counting_moves to j e p q = record {
    fuel = g.fuel - 1;
    within = q;
    enough = omega (arith, g.enough);
    same = turn (section_now to (drop j s)) e;
    hroom = omega (arith, g.hroom);
    rroom = omega (arith, g.rroom);
  }

  -- after a header record the counting goes on with its row and sizes: there are never more rows than bytes
  pub counting_header : (w : HeaderRow) (p j : ℕ) → header_statement w (drop p s) (drop j s) ≡ statement s sec (drop i s) → i < j → j ≤ length s → Counting s j InHeader (h + 1) r m (greater_sizes z (record_sizes_of s w.arg_start w.arg_end 0))
  counting_header w p j e a b = record {
    fuel = g.fuel - 1;
    within = b;
    enough = omega (arith, g.enough);
    same = sym (plus_header s h r m z w (read_from (g.fuel - 1) s (length s) (length s) InHeader (h + 1) r (drop j s))) ∙ rw (lt-ltb h (length s) (omega (arith, g.hroom))) at (turn (header_statement w (drop p s) (drop j s)) e);
    hroom = omega (arith, g.hroom);
    rroom = omega (arith, g.rroom);
  }

  -- after a data record the counting goes on with its row, id and sizes
  pub counting_record : (w : Row) (p j : ℕ) → data_statement w (drop p s) (drop j s) ≡ statement s sec (drop i s) → i < j → j ≤ length s → Counting s j InData h (r + 1) (max m w.id) (greater_sizes z (record_sizes_of s w.arg_start w.arg_end w.complex))
  counting_record w p j e a b = record {
    fuel = g.fuel - 1;
    within = b;
    enough = omega (arith, g.enough);
    same = sym (plus_record s h r m z w (read_from (g.fuel - 1) s (length s) (length s) InData h (r + 1) (drop j s))) ∙ rw (lt-ltb r (length s) (omega (arith, g.rroom))) at (turn (data_statement w (drop p s) (drop j s)) e);
    hroom = omega (arith, g.hroom);
    rroom = omega (arith, g.rroom);
  }

-- refusals that are told as the same have the same number
pub refused_number : {A : Type 0} {p : Refusal} (q : Refusal) → ◌≡◌ {A = Told A} (bad p) (bad q) → p.number ≡ q.number
refused_number {A} {p} q e = let w : p ≡ q = cc in ap (λ (z : Refusal). z.number) w

-- an answer is no refusal
pub good_not_bad : {A : Type 0} {a : A} (q : Refusal) → ◌≡◌ {A = Told A} (good a) (bad q) → ⊥
good_not_bad q e = clash (cc)

-- a refusal other than that of a full table has another number
pub number_other : (f : Fault) → ((p : ℕ) → f ≡ NoRow p → ⊥) → (told f).number ≡ 8 → ⊥
number_other NoMarker n e = absurd (omega (arith, e))
number_other TooLong n e = absurd (omega (arith, e))
number_other (OpenComment p) n e = absurd (omega (arith, e))
number_other (OpenString p) n e = absurd (omega (arith, e))
number_other (NoEnd p) n e = absurd (omega (arith, e))
number_other (OpenParen p) n e = absurd (omega (arith, e))
number_other (BadRecord r p) n e = absurd (omega (arith, e))
number_other (NoRow p) n e = n p refl
number_other OutOfFile n e = absurd (omega (arith, e))
number_other (NoParameter p) n e = absurd (omega (arith, e))
number_other (OpenLiteral p) n e = absurd (omega (arith, e))
number_other (WrongType p) n e = absurd (omega (arith, e))
number_other (OutsideClass p) n e = absurd (omega (arith, e))
number_other NoRecord n e = absurd (omega (arith, e))
number_other (TooDeep p) n e = absurd (omega (arith, e))
number_other (TooShort p) n e = absurd (omega (arith, e))

-- what the scan refuses with nothing lent, it refuses with more, unless it is 8
pub needs_refused : (s : List ℕ) (q : Refusal) → bad q ≡ mapped counts_of (scan_of s 0 0) → (q.number ≡ 8 → ⊥) → bad q ≡ needs_of s
unfolding needs_of
needs_refused s q e n = go (scan_of s 0 0) refl
  where
    go : (x : Told Table) → scan_of s 0 0 ≡ x → bad q ≡ mapped (needs_in s) (scan_of s (length s) (length s))
    go (good t) p = absurd (good_not_bad q (sym (e ∙ ap (mapped counts_of) p)))
    go (bad f) p =
        let w : bad q ≡ mapped counts_of (bad f) = e ∙ ap (mapped counts_of) p in
        let v : f ≡ q = cc in
        subst (λ (z : Refusal). bad z ≡ mapped (needs_in s) (scan_of s (length s) (length s))) v (ap (mapped (needs_in s)) (sym (refusal_roomy s 0 0 f p (λ k. n (ap (λ (z : Refusal). z.number) (sym v) ∙ k)) (length s) (length s) (omega arith) (omega arith))))

-- where the scan with nothing lent refuses with 8 or not at all, what the file needs is what reading it gives
pub needs_read : (s : List ℕ) → ((q : Refusal) → bad q ≡ mapped counts_of (scan_of s 0 0) → q.number ≡ 8) → mapped (needs_in s) (reading_of s (length s) (length s)) ≡ needs_of s
unfolding needs_of scan_of
needs_read s n = go (ltb 4294967295 (length s)) (marked s) refl refl
  where
    go : (a b : Bool) → ltb 4294967295 (length s) ≡ a → marked s ≡ b → mapped (needs_in s) (reading_of s (length s) (length s)) ≡ mapped (needs_in s) (pick (ltb 4294967295 (length s)) (bad (refusal 2 0 0)) (pick (marked s) (reading_of s (length s) (length s)) (bad (refusal 1 0 0))))
    go true b p t = let k : ◌≡◌ {A = ℕ} 2 8 = n (refusal 2 0 0) (rw p refl) in absurd (omega arith)
    go false true p t = rw (p, t) refl
    go false false p t = let k : ◌≡◌ {A = ℕ} 1 8 = n (refusal 1 0 0) (rw (p, t) refl) in absurd (omega arith)
