-- The whole file: Form.antt's rules and what File.antt computes are one. What is computed is so, and nothing else is; and fuel
-- never matters. Assumes nothing.
use Prim.Native.Nat.{ℕ, zero, suc, ◌+◌, ◌-◌, ◌≤◌, ◌<◌}
use Rattle.std.specs.Prelude.{◌≡◌, Bool, true, false, List, [], ◌∷◌, ◌++◌, eqb, length, take}
use Rattle.std.proofs.Math.Path.{refl}
use Rattle.std.proofs.Common.{sym, ◌∙◌, lt-ltb, le-ltb, ne_eqb, eqb-true}
use native.Mathlib.Omega.{arith}
use Rattle.std.proofs.Math.Decide.{dec_le}
use Rattle.common.specs.Compare.{clash}
use Rattle.error.specs.Refusal.{Refusal, Told, bad}
use Rattle.lex.specs.Byte.{white}
use Rattle.record.specs.Text.{past}
use Rattle.record.specs.Word.{same_bytes, marker}
use Rattle.record.specs.Form.{All}
use Rattle.record.specs.FormRight.{past_only, past_is}
use Rattle.record.specs.FormRight.Parts.{sole, first_other}
use Rattle.statement.specs.Rows.{Stmt, reading_ends, statement_refused, section_now, header_statement, data_statement, RowKind, header_kind, data_kind, RowOf, rowed, section_of}
use Rattle.statement.specs.FormRight.{Between, Stated, statement_comes, statement_only, moved_shorter, header_shorter, data_shorter}
use Rattle.statement.specs.declared.Section.{Section}
use Rattle.statement.specs.declared.Section.TheVariants.{Outside, InHeader, InData}
use Rattle.scan.specs.Records.{Table}
use Rattle.scan.specs.File.{taken, read_from, byte_order_mark, marked, scan_of}
use Rattle.statement.specs.Form.{StatementForm}
use Rattle.scan.specs.Form.{RowsPerKind, rows_per_kind, count_of_kind, one_more_of, Reads, Marked, Scans, Full}
pub mod Numbers
use Numbers.{scans_bad, full_reads}

-- the reading of File.antt, with so many rows of each kind lent and used
abbrev pub read_by : ℕ → List ℕ → RowsPerKind → Section → RowsPerKind → List ℕ → Told Table
read_by k s lent sec n xs = read_from k s lent.headers lent.records sec n.headers n.records xs

module _ (s : List ℕ) (lent : RowsPerKind) where
  -- one turn of the computed reading, by the statement's form
  turn : (n : RowsPerKind) (k : ℕ) {sec : Section} {xs : List ℕ} {x : Stmt} → length xs < k → StatementForm s sec xs x
      → read_by k s lent sec n xs ≡ taken s lent.headers lent.records n.headers n.records x (λ sec h r t. read_by (k - 1) s lent sec (rows_per_kind h r) t)
  unfolding read_from
  turn n zero l f = absurd (omega arith)
  turn n (suc k) l f = let e : suc k - 1 ≡ k = omega arith in rw (statement_only f, e) refl

  -- "then the file is read in order and the first fault is given": the answer by the rules is the one that is computed, whatever
  -- the fuel, if it is enough
  pub reads_only : {sec : Section} {n : RowsPerKind} {xs : List ℕ} {a : Told Table} → Reads s lent sec n xs a
      → (k : ℕ) → length xs < k → read_by k s lent sec n xs ≡ a
  reads_only {n} (Reads.over f) k l = turn n k l f
  reads_only {n} (Reads.fault f) k l = turn n k l f
  reads_only {n} (Reads.on f d) k l = let m = moved_shorter f in turn n k l f ∙ reads_only d (k - 1) (omega arith)
  reads_only {n} (Reads.row header_kind w ys f p d) k l =
      let m = header_shorter f in turn n k l f ∙ rw (lt-ltb n.headers lent.headers p, reads_only d (k - 1) (omega arith)) refl
  reads_only {n} (Reads.row data_kind w ys f p d) k l =
      let m = data_shorter f in turn n k l f ∙ rw (lt-ltb n.records lent.records p, reads_only d (k - 1) (omega arith)) refl
  reads_only {n} (Reads.full header_kind w ys t f p) k l = turn n k l f ∙ rw (le-ltb n.headers lent.headers p) refl
  reads_only {n} (Reads.full data_kind w ys t f p) k l = turn n k l f ∙ rw (le-ltb n.records lent.records p) refl

  -- every rest of fewer than k bytes has an answer by the rules
  reads_comes : (k : ℕ) (sec : Section) (n : RowsPerKind) (xs : List ℕ) → length xs < k → (a : Told Table) × Reads s lent sec n xs a
  reads_comes zero sec n xs l = absurd (omega arith)
  reads_comes (suc k) sec n xs l = go (statement_comes s sec xs) (λ sec n t m. reads_comes k sec n t (omega arith))
    where
      rows : (k : RowKind) (w : RowOf k) (ys t : List ℕ) → StatementForm s sec xs (rowed k w ys t) → Dec (count_of_kind k n < count_of_kind k lent)
          → (a : Told Table) × Reads s lent (section_of k) (one_more_of k n) t a → (a : Told Table) × Reads s lent sec n xs a
      rows k w ys t f (yes p) (a, d) = (_, Reads.row k w ys f p d)
      rows k w ys t f (no p) d = (_, Reads.full {n = n} k w ys t f (omega arith))

      go : Stated s sec xs → ((sec : Section) (n : RowsPerKind) (t : List ℕ) → length t < length xs → (a : Told Table) × Reads s lent sec n t a)
          → (a : Told Table) × Reads s lent sec n xs a
      go (reading_ends, f) ih = (_, Reads.over f)
      go (statement_refused e, f) ih = (_, Reads.fault f)
      go (section_now to t, f) ih = let (a, d) = ih to n t (moved_shorter f) in (a, Reads.on f d)
      go (header_statement w ys t, f) ih = rows header_kind w ys t f (dec_le _ _) (ih InHeader (one_more_of header_kind n) t (header_shorter f))
      go (data_statement w ys t, f) ih = rows data_kind w ys t f (dec_le _ _) (ih InData (one_more_of data_kind n) t (data_shorter f))

  -- the answer that is computed from a rest on, with enough fuel, is that by the rules
  pub reads_is : (k : ℕ) (sec : Section) (n : RowsPerKind) (xs : List ℕ) → length xs < k → Reads s lent sec n xs (read_by k s lent sec n xs)
  reads_is k sec n xs l = sole (Reads s lent sec n xs) (λ a d. sym (reads_only d k l)) (reads_comes k sec n xs l)

  -- fuel never matters: enough fuel gives the same answer
  pub fuel_free : (j k : ℕ) (sec : Section) (n : RowsPerKind) (xs : List ℕ) → length xs < j → length xs < k
      → read_by j s lent sec n xs ≡ read_by k s lent sec n xs
  fuel_free j k sec n xs l m = reads_only (reads_is k sec n xs m) j l

-- a list whose first bytes are the same as w begins with w
begins_is : (w s : List ℕ) → same_bytes (take (length w) s) w ≡ true → (r : List ℕ) × (s ≡ w ++ r)
begins_is [] s h = (s, refl)
begins_is (c ∷ w) [] h = clash (cc)
begins_is (c ∷ w) (d ∷ s) h = go (eqb d c) refl (begins_is w s)
  where
    go : (t : Bool) → eqb d c ≡ t → (same_bytes (take (length w) s) w ≡ true → (r : List ℕ) × (s ≡ w ++ r))
        → (r : List ℕ) × (d ∷ s ≡ c ∷ (w ++ r))
    go true e ih = let (r, g) = ih (rw e at h) in (r, cc (eqb-true d c e))
    go false e ih = clash (cc)

-- "The marker is `ISO-10303-21` after [..] whitespace only": a file that begins so passes the test
marker_only : (w r : List ℕ) → All white w → same_bytes (take 12 (past white (w ++ (marker ++ r)))) marker ≡ true
marker_only w r a = rw (past_only white w (marker ++ r) (record { all = a; over = first_other white 73 _ refl })) refl

marker_is : (s : List ℕ) → same_bytes (take 12 (past white s)) marker ≡ true → (w r : List ℕ) × (s ≡ w ++ (marker ++ r)) × All white w
marker_is s h =
    let (w, e, k) = past_is white s in
    let (r, g) = begins_is marker (past white s) h in
    (w, r, cc, k.all)

-- "The marker is `ISO-10303-21` after an optional EF BB BF and whitespace only": what is marked by the rules passes the test
pub marked_only : {s : List ℕ} → Marked s → marked s ≡ true
marked_only (Marked.plain [] r a) = marker_only [] r a
marked_only (Marked.plain (c ∷ w) r a) =
    rw (ne_eqb c 239 (λ e. let f : white 239 ≡ true = rw e at a.0 in clash (cc))) (marker_only (c ∷ w) r a)
marked_only (Marked.mark w r a) = marker_only w r a

-- a file that passes the test for the marker is marked by the rules
pub marked_is : (s : List ℕ) → marked s ≡ true → Marked s
marked_is s h = go (same_bytes (take 3 s) byte_order_mark) refl
  where
    go : (t : Bool) → same_bytes (take 3 s) byte_order_mark ≡ t → Marked s
    go true e =
        let (r, g) = begins_is byte_order_mark s e in
        let (w, u, q, a) = marker_is r (rw g at h) in
        rw (g, q) (Marked.mark w u a)
    go false e = let (w, u, q, a) = marker_is s (rw e at h) in rw q (Marked.plain w u a)

-- a test that cannot pass fails
fails : (t : Bool) → (t ≡ true → ⊥) → t ≡ false
fails true h = absurd (h refl)
fails false h = refl

-- "2 is tested before 1; then the file is read in order and the first fault is given": the answer by the rules is the one that
-- is computed
pub scans_only : {s : List ℕ} {H R : ℕ} {a : Told Table} → Scans s (rows_per_kind H R) a → a ≡ scan_of s H R
unfolding scan_of
scans_only (Scans.long h) = rw (lt-ltb _ _ h)
scans_only {s} (Scans.unmarked h n) = rw (le-ltb _ _ h, fails (marked s) (λ e. n (marked_is s e)))
scans_only {s} {H} {R} (Scans.read h m d) = rw (le-ltb _ _ h, marked_only m) (sym (reads_only s (rows_per_kind H R) d (length s + 1) (omega arith)))

-- every file has an answer by the rules
scans_comes : (s : List ℕ) (H R : ℕ) → (a : Told Table) × Scans s (rows_per_kind H R) a
scans_comes s H R = go (dec_le (length s) 4294967295) (marked s) refl
  where
    go : Dec (length s ≤ 4294967295) → (t : Bool) → marked s ≡ t → (a : Told Table) × Scans s (rows_per_kind H R) a
    go (no h) t e = (_, Scans.long (omega arith))
    go (yes h) true e = (_, Scans.read h (marked_is s e) (reads_is s (rows_per_kind H R) (length s + 1) Outside (rows_per_kind 0 0) s (omega arith)))
    go (yes h) false e = (_, Scans.unmarked h (λ m. clash (cc (marked_only m))))

-- the answer for a file that is computed is that by the rules
pub scans_is : (s : List ℕ) (H R : ℕ) → Scans s (rows_per_kind H R) (scan_of s H R)
scans_is s H R = sole (Scans s (rows_per_kind H R)) (λ a. scans_only) (scans_comes s H R)

-- a file has at most one answer
pub scans_one : {s : List ℕ} {H R : ℕ} {a b : Told Table} → Scans s (rows_per_kind H R) a → Scans s (rows_per_kind H R) b → a ≡ b
scans_one d e = scans_only d ∙ sym (scans_only e)

-- what holds of each refusal by the rules holds of the one that is computed
module _ (s : List ℕ) (H R : ℕ) (q : Refusal) (e : scan_of s H R ≡ bad q) where
  -- a scan's refusal has a number from 1 to 8
  pub scan_number : Between 1 8 q
  scan_number = (scans_bad (rw e at (scans_is s H R))).0

  -- a scan's refusal never has the number 0, which stands for too little fuel
  pub scan_fueled : q.number ≡ 0 → ⊥
  scan_fueled z = omega (arith, scan_number)

  -- "8 is given exactly when a record has been read whole and the lent rows of its kind [..] are already used up": only then
  pub scan_full_only : q.number ≡ 8 → Full s (rows_per_kind H R) q
  scan_full_only = (scans_bad (rw e at (scans_is s H R))).1

-- 8 is given always when a record has been read whole and the lent rows of its kind are already used up
pub scan_full : (s : List ℕ) (H R : ℕ) (q : Refusal) → length s ≤ 4294967295 → Marked s → Full s (rows_per_kind H R) q → scan_of s H R ≡ bad q
scan_full s H R q h m f = sym (scans_only (Scans.read h m (full_reads f)))
