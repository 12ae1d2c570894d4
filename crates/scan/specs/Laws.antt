-- The reading so far, as the scan's loop keeps it, and what each statement does to it.
-- Assumes nothing.
use Rattle.std.specs.Prelude.{ℕ, zero, suc, ◌+◌, ◌-◌, ◌≤◌, ◌<◌, max, ◌≡◌, refl, Bool, true, false, List, [], ◌∷◌, ◌++◌, length, drop}
use Rattle.std.proofs.Common.{sym, ◌∙◌, ap, append_assoc, append-nil, arith, lt-ltb, le-ltb, length-append}
use Rattle.common.specs.Pick.{pick}
use Rattle.error.specs.Refusal.{Refusal, refusal, Told, good, bad}
use Rattle.lex.specs.Place.{place_drop}
use Rattle.statement.specs.Rows.{Row, HeaderRow, Stmt, reading_ends, statement_refused, section_now, header_statement, data_statement, mapped}
use Rattle.statement.specs.Statement.{statement}
use Rattle.statement.specs.declared.Section.{Section}
use Rattle.statement.specs.declared.Section.TheVariants.{Outside, InHeader, InData}
use Rattle.table.specs.Table.{rows_fit, headers_fit, six, header_row_numbers, rows_laid, headers_laid, row_put, header_put}
use Rattle.table.specs.Laid.{nothing_laid, rows_laid_more, headers_laid_more}
use Rattle.scan.specs.Records.{Table, table, with_header, with_record, largest}
use Rattle.scan.specs.File.{taken, read_from, reading_of}
use Rattle.scan.specs.ScanMemory.{headers_of, records_of, Counts, counts, counts_of}

-- a table with the rows hs and rs before its own
abbrev pub join : List HeaderRow → List Row → Table → Table
join hs rs t = table (hs ++ t.headers) (rs ++ t.records)

-- one turn of the reading, while statements may be left
pub unrolled : (k : ℕ) (s : List ℕ) (H R : ℕ) (sec : Section) (h r : ℕ) (xs : List ℕ) → 0 < k
    → read_from k s H R sec h r xs ≡ taken s H R h r (statement s sec xs) (λ sec h r t. read_from (k - 1) s H R sec h r t)
unfolding read_from
unrolled zero s H R sec h r xs p = absurd (omega arith)
unrolled (suc k) s H R sec h r xs p = let e : suc k - 1 ≡ k = omega arith in rw e refl

-- the largest id with one record more is the greater of the largest before and its id
largest_more : (rs : List Row) (w : Row) → largest (rs ++ (w ∷ [])) ≡ max (largest rs) w.id
unfolding largest
largest_more [] w = omega arith
largest_more (v ∷ rs) w = let ih = largest_more rs w in omega arith

-- the reading so far: hs and rs are the rows up to the place i, and what is left gives the rest
pub record Going (s : List ℕ) (H R : ℕ) (write : Bool) (h₀ r₀ : List ℕ) (i : ℕ) (sec : Section) (h r m : ℕ) (hnow rnow : List ℕ) : Type 0 where
  pub fuel : ℕ
  pub hs : List HeaderRow
  pub rs : List Row
  pub within : i ≤ length s
  pub enough : length s - i < fuel
  pub same : mapped (join hs rs) (read_from fuel s H R sec h r (drop i s)) ≡ reading_of s H R
  pub hcount : length hs ≡ h
  pub rcount : length rs ≡ r
  pub hroom : h ≤ H
  pub rroom : r ≤ R
  pub most : largest rs ≡ m
  pub hlaid : hnow ≡ pick write (headers_laid hs h₀) h₀
  pub rlaid : rnow ≡ pick write (rows_laid rs r₀) r₀

-- what the loop must leave: nothing changed where it does not write; else the rows of an answer
abbrev pub PassWrites : Bool → Told Table → (Table → List ℕ → List ℕ) → List ℕ → List ℕ → Type 0
PassWrites false o f old new = new ≡ old
PassWrites true (good t) f old new = new ≡ f t old
PassWrites true (bad q) f old new = Unit {0}

-- no rows before those of an answer leave it as it is
join_none : (x : Told Table) → mapped (join [] []) x ≡ x
join_none (good t) = refl
join_none (bad q) = refl

-- rows before those of an answer, which begins with the header row w: w goes to the end of the rows before
join_header : (hs : List HeaderRow) (rs : List Row) (w : HeaderRow) (x : Told Table) → mapped (join hs rs) (mapped (with_header w) x) ≡ mapped (join (hs ++ (w ∷ [])) rs) x
join_header hs rs w (good t) = ap (λ (l : List HeaderRow). good (table l (rs ++ t.records))) (sym (append_assoc hs (w ∷ []) t.headers))
join_header hs rs w (bad q) = refl

join_record : (hs : List HeaderRow) (rs : List Row) (w : Row) (x : Told Table) → mapped (join hs rs) (mapped (with_record w) x) ≡ mapped (join hs (rs ++ (w ∷ []))) x
join_record hs rs w (good t) = ap (λ (l : List Row). good (table (hs ++ t.headers) l)) (sym (append_assoc rs (w ∷ []) t.records))
join_record hs rs w (bad q) = refl

-- the reading as the loop keeps it holds where the loop begins
pub going_starts : (s : List ℕ) (H R : ℕ) (write : Bool) (h₀ r₀ : List ℕ) → Going s H R write h₀ r₀ 0 Outside 0 0 0 h₀ r₀
unfolding largest
going_starts s H R write h₀ r₀ = record {
  fuel = length s + 1;
  hs = [];
  rs = [];
  within = omega arith;
  enough = omega arith;
  same = join_none (reading_of s H R);
  hcount = refl;
  rcount = refl;
  hroom = omega arith;
  rroom = omega arith;
  most = refl;
  hlaid = sym (kept write h₀ (headers_laid [] h₀) (nothing_laid header_row_numbers h₀));
  rlaid = sym (kept write r₀ (rows_laid [] r₀) (nothing_laid six r₀));
}
  where
    kept : (b : Bool) (l new : List ℕ) → new ≡ l → pick b new l ≡ l
    kept true l new e = e
    kept false l new e = refl

module _ (s : List ℕ) (H R : ℕ) (write : Bool) (h₀ r₀ : List ℕ) (i : ℕ) (sec : Section) (h r m : ℕ) (hnow rnow : List ℕ)
    (g : Going s H R write h₀ r₀ i sec h r m hnow rnow) where
  -- the whole reading is the rows so far and what the next statement makes of the rest
  turn : (x : Stmt) → x ≡ statement s sec (drop i s) → mapped (join g.hs g.rs) (taken s H R h r x (λ sec h r t. read_from (g.fuel - 1) s H R sec h r t)) ≡ reading_of s H R
  turn x e = rw (e, ← unrolled g.fuel s H R sec h r (drop i s) (omega (arith, g.enough))) g.same

  -- where the next statement ends the reading, the rows so far are its answer
  pub going_ends : reading_ends ≡ statement s sec (drop i s) → good (table g.hs g.rs) ≡ reading_of s H R
  going_ends e = rw (append-nil g.hs, append-nil g.rs) at (turn reading_ends e)

  -- where the next statement is refused, so is the whole reading
  pub going_refused : (q : Refusal) → statement_refused q ≡ statement s sec (drop i s) → bad q ≡ reading_of s H R
  going_refused q e = turn (statement_refused q) e

  -- after a section word, or a record that is ignored, the reading goes on with the same rows
  pub going_moves : (to : Section) (n : ℕ) → section_now to (drop n s) ≡ statement s sec (drop i s) → i < n → n ≤ length s → Going s H R write h₀ r₀ n to h r m hnow rnow
  going_moves to n e p q = record {
    fuel = g.fuel - 1;
    hs = g.hs;
    rs = g.rs;
    within = q;
    enough = omega (arith, g.enough);
    same = turn (section_now to (drop n s)) e;
    hcount = g.hcount;
    rcount = g.rcount;
    hroom = g.hroom;
    rroom = g.rroom;
    most = g.most;
    hlaid = g.hlaid;
    rlaid = g.rlaid;
  }

  -- a header record with no row left is 8 at the record's start
  pub header_full : (w : HeaderRow) (p n : ℕ) → p ≤ length s → header_statement w (drop p s) (drop n s) ≡ statement s sec (drop i s) → H ≤ h → bad (refusal 8 0 p) ≡ reading_of s H R
  header_full w p n l e k = rw (le-ltb h H k, place_drop s p l) at (turn (header_statement w (drop p s) (drop n s)) e)

  -- a data record with no row left is 8 at the record's start
  pub record_full : (w : Row) (p n : ℕ) → p ≤ length s → data_statement w (drop p s) (drop n s) ≡ statement s sec (drop i s) → R ≤ r → bad (refusal 8 0 p) ≡ reading_of s H R
  record_full w p n l e k = rw (le-ltb r R k, place_drop s p l) at (turn (data_statement w (drop p s) (drop n s)) e)

  -- after a header record, for which a row is left, the reading goes on with its row
  pub going_header : (w : HeaderRow) (p n : ℕ) → header_statement w (drop p s) (drop n s) ≡ statement s sec (drop i s) → i < n → n ≤ length s → h < H → h < headers_fit (length h₀)
      → Going s H R write h₀ r₀ n InHeader (h + 1) r m (pick write (header_put hnow h w) hnow) rnow
  going_header w p n e a b k l = record {
    fuel = g.fuel - 1;
    hs = g.hs ++ (w ∷ []);
    rs = g.rs;
    within = b;
    enough = omega (arith, g.enough);
    same = sym (join_header g.hs g.rs w (read_from (g.fuel - 1) s H R InHeader (h + 1) r (drop n s))) ∙ rw (lt-ltb h H k) at (turn (header_statement w (drop p s) (drop n s)) e);
    hcount = length-append g.hs (w ∷ []) ∙ omega (arith, g.hcount);
    rcount = g.rcount;
    hroom = omega arith;
    rroom = g.rroom;
    most = g.most;
    hlaid = rw g.hlaid (go write);
    rlaid = g.rlaid;
  }
    where
      go : (b : Bool) → pick b (header_put (pick b (headers_laid g.hs h₀) h₀) h w) (pick b (headers_laid g.hs h₀) h₀) ≡ pick b (headers_laid (g.hs ++ (w ∷ [])) h₀) h₀
      go false = refl
      go true = rw (← g.hcount) (sym (headers_laid_more g.hs w h₀ (rw g.hcount l)))

  -- after a data record, for which a row is left, the reading goes on with its row
  pub going_record : (w : Row) (p n : ℕ) → data_statement w (drop p s) (drop n s) ≡ statement s sec (drop i s) → i < n → n ≤ length s → r < R → r < rows_fit (length r₀)
      → Going s H R write h₀ r₀ n InData h (r + 1) (max m w.id) hnow (pick write (row_put rnow r w) rnow)
  going_record w p n e a b k l = record {
    fuel = g.fuel - 1;
    hs = g.hs;
    rs = g.rs ++ (w ∷ []);
    within = b;
    enough = omega (arith, g.enough);
    same = sym (join_record g.hs g.rs w (read_from (g.fuel - 1) s H R InData h (r + 1) (drop n s))) ∙ rw (lt-ltb r R k) at (turn (data_statement w (drop p s) (drop n s)) e);
    hcount = g.hcount;
    rcount = length-append g.rs (w ∷ []) ∙ omega (arith, g.rcount);
    hroom = g.hroom;
    rroom = omega arith;
    most = largest_more g.rs w ∙ ap (λ (j : ℕ). max j w.id) g.most;
    hlaid = g.hlaid;
    rlaid = rw g.rlaid (go write);
  }
    where
      go : (b : Bool) → pick b (row_put (pick b (rows_laid g.rs r₀) r₀) r w) (pick b (rows_laid g.rs r₀) r₀) ≡ pick b (rows_laid (g.rs ++ (w ∷ [])) r₀) r₀
      go false = refl
      go true = rw (← g.rcount) (sym (rows_laid_more g.rs w r₀ (rw g.rcount l)))

  -- the answer's counts are those that the loop has kept
  pub going_counts : (x : Told Table) → good (table g.hs g.rs) ≡ x → good (counts h r m) ≡ mapped counts_of x
  going_counts x e = rw (← e, g.hcount, g.rcount, g.most) refl

  -- the lent memory after an answer is what the loop must leave
  pub going_wrote : (x : Told Table) → good (table g.hs g.rs) ≡ x → PassWrites write x headers_of h₀ hnow × PassWrites write x records_of r₀ rnow
  going_wrote x e = rw (← e, g.hlaid, g.rlaid) (go write)
    where
      go : (b : Bool)
          → PassWrites b (good (table g.hs g.rs)) headers_of h₀ (pick b (headers_laid g.hs h₀) h₀)
          × PassWrites b (good (table g.hs g.rs)) records_of r₀ (pick b (rows_laid g.rs r₀) r₀)
      go true = (refl, refl)
      go false = (refl, refl)

  -- the lent memory after a refusal is what the loop must leave
  pub going_kept : (q : Refusal) (x : Told Table) → bad q ≡ x → PassWrites write x headers_of h₀ hnow × PassWrites write x records_of r₀ rnow
  going_kept q x e = rw (← e, g.hlaid, g.rlaid) (go write)
    where
      go : (b : Bool)
          → PassWrites b (bad q) headers_of h₀ (pick b (headers_laid g.hs h₀) h₀)
          × PassWrites b (bad q) records_of r₀ (pick b (rows_laid g.rs r₀) r₀)
      go true = (tt, tt)
      go false = (refl, refl)

-- what the loop leaves where it returns, with the room R' that its contract speaks of
abbrev pub PassLeaves : List ℕ → ℕ → ℕ → Bool → List ℕ → List ℕ → List ℕ → List ℕ → Told Counts → Type 0
PassLeaves s H R' write h₀ r₀ hnow rnow a =
    (a ≡ mapped counts_of (reading_of s H R')) × (PassWrites write (reading_of s H R') headers_of h₀ hnow × PassWrites write (reading_of s H R') records_of r₀ rnow)

module _ (s : List ℕ) (H R : ℕ) (write : Bool) (h₀ r₀ : List ℕ) (i : ℕ) (sec : Section) (h r m : ℕ) (hnow rnow : List ℕ)
    (g : Going s H R write h₀ r₀ i sec h r m hnow rnow) (R' : ℕ) (k : R ≡ R') where
  -- where the reading ends, the loop leaves what it must and answers its counts
  pub pass_done : reading_ends ≡ statement s sec (drop i s) → PassLeaves s H R' write h₀ r₀ hnow rnow (good (counts h r m))
  pass_done e =
      let x = going_ends s H R write h₀ r₀ i sec h r m hnow rnow g e in
      let w = going_wrote s H R write h₀ r₀ i sec h r m hnow rnow g (reading_of s H R) x in
      rw (← k) (going_counts s H R write h₀ r₀ i sec h r m hnow rnow g (reading_of s H R) x, (w.0, w.1))

  -- where the reading is refused, the loop leaves what it must and answers the refusal
  pub pass_failed : (q : Refusal) → bad q ≡ reading_of s H R → PassLeaves s H R' write h₀ r₀ hnow rnow (bad q)
  pass_failed q x =
      let w = going_kept s H R write h₀ r₀ i sec h r m hnow rnow g q (reading_of s H R) x in
      rw (← k) (ap (mapped counts_of) x, (w.0, w.1))
