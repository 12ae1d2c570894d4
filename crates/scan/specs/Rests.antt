-- Every list of bytes that the reading speaks of is a rest of the file. So a place, which is the number of bytes before a rest,
-- points at that rest: a refusal stands where what it names begins. Assumes nothing.
use Rattle.std.specs.Prelude.{ℕ, ◌≡◌, List, [], ◌∷◌}
use Rattle.error.specs.Refusal.{Refusal, refusal, Told, good, bad}
use Rattle.lex.specs.Byte.{place}
use Rattle.lex.specs.Grammar.{RecordRuns, Balanced, Deep}
use Rattle.lex.specs.Rests.{Rest, rest_all, rest_on, rest_of, comment_rest_lem, string_rest_lem, trivia_rest}
use Rattle.statement.specs.Rows.{Row, HeaderRow, statement_refused, section_now, header_statement, data_statement, header_kind, data_kind, mapped}
use Rattle.statement.specs.declared.Section.{Section}
use Rattle.scan.specs.Records.{Table, with_header, with_record}
use Rattle.scan.specs.File.{scan_of}
use Rattle.statement.specs.Form.{After, DataForm, HeaderRecordForm, Record, StatementForm}
use Rattle.scan.specs.Form.{RowsPerKind, rows_per_kind, Reads, Scans, Reached}
use Rattle.scan.specs.FormRight.{scans_is}

-- what follows whole strings, comments and bytes without a `;` is a rest
pub runs_rest : {xs ys : List ℕ} → RecordRuns xs ys → Rest xs ys
runs_rest RecordRuns.none = rest_all
runs_rest (RecordRuns.byte h k l r) = rest_on (runs_rest r)
runs_rest (RecordRuns.string q r) = rest_of (string_rest_lem q) (runs_rest r)
runs_rest (RecordRuns.comment q r) = rest_of (comment_rest_lem q) (runs_rest r)

-- what follows balanced bytes is a rest
pub balanced_rest : {xs ys : List ℕ} → Balanced xs ys → Rest xs ys
balanced_rest Balanced.none = rest_all
balanced_rest (Balanced.byte h k l m r) = rest_on (balanced_rest r)
balanced_rest (Balanced.string q r) = rest_of (string_rest_lem q) (balanced_rest r)
balanced_rest (Balanced.comment q r) = rest_of (comment_rest_lem q) (balanced_rest r)
balanced_rest (Balanced.group r t) = rest_on (rest_of (balanced_rest r) (rest_on (balanced_rest t)))

-- what follows bytes in which parentheses are open is a rest
pub deep_rest : {d : ℕ} {xs ys : List ℕ} → Deep d xs ys → Rest xs ys
deep_rest (Deep.flat r) = balanced_rest r
deep_rest (Deep.nested r d) = rest_of (balanced_rest r) (rest_on (deep_rest d))

-- what is left after n bytes is a rest
pub after_rest : {n : ℕ} {ys zs : List ℕ} → After n ys zs → Rest ys zs
after_rest (b, e, l) = (b, e)

-- what begins with a record is a rest, and so is what follows the record
pub record_rest : {xs ys body t : List ℕ} → Record xs ys body t → Rest xs ys × Rest ys t
record_rest d = (trivia_rest d.starts.before, rest_of (runs_rest d.finishes) (rest_on rest_all))

-- what follows a section word or an ignored record is a rest
pub moved_rest : {s : List ℕ} {sec to : Section} {xs t : List ℕ} → StatementForm s sec xs (section_now to t) → Rest xs t
moved_rest (StatementForm.heads d f) = let (a, b) = record_rest d in rest_of a b
moved_rest (StatementForm.opens d f) = let (a, b) = record_rest d in rest_of a b
moved_rest (StatementForm.leaves d f) = let (a, b) = record_rest d in rest_of a b
moved_rest (StatementForm.ignored d f) = let (a, b) = record_rest d in rest_of a b

-- a header row comes from a header record
pub header_form : {s : List ℕ} {sec : Section} {xs ys t : List ℕ} {w : HeaderRow} → StatementForm s sec xs (header_statement w ys t)
    → (body : List ℕ) × Record xs ys body t × HeaderRecordForm s ys body (good w)
header_form (StatementForm.header_row_form d f g) = (_, d, g)

-- a data row comes from a data record
pub data_form : {s : List ℕ} {sec : Section} {xs ys t : List ℕ} {w : Row} → StatementForm s sec xs (data_statement w ys t)
    → (body : List ℕ) × Record xs ys body t × DataForm s ys body (good w)
data_form (StatementForm.data_row d f g) = (_, d, g)

-- what begins with a header record is a rest, and so is what follows it
pub header_rest : {s : List ℕ} {sec : Section} {xs ys t : List ℕ} {w : HeaderRow} → StatementForm s sec xs (header_statement w ys t) → Rest xs ys × Rest ys t
header_rest f = record_rest (header_form f).1

-- what begins with a data record is a rest, and so is what follows it
pub data_rest : {s : List ℕ} {sec : Section} {xs ys t : List ℕ} {w : Row} → StatementForm s sec xs (data_statement w ys t) → Rest xs ys × Rest ys t
data_rest f = record_rest (data_form f).1

-- what the reading comes to is a rest of the file
pub reached_rest : {s : List ℕ} {sec : Section} {xs : List ℕ} {n : RowsPerKind} → Reached s sec xs n → Rest s xs
reached_rest Reached.start = rest_all
reached_rest (Reached.on u f) = rest_of (reached_rest u) (moved_rest f)
reached_rest (Reached.row header_kind w ys u f) = let (a, b) = header_rest f in rest_of (reached_rest u) (rest_of a b)
reached_rest (Reached.row data_kind w ys u f) = let (a, b) = data_rest f in rest_of (reached_rest u) (rest_of a b)

-- each row of a list is as F says
abbrev pub EachInTurn : {A : Type 0} → (A → Type 0) → List A → Type 0
EachInTurn F [] = Unit {0}
EachInTurn F (w ∷ ws) = F w × EachInTurn F ws

-- P holds of each header row of an answer and Q of each data row; or B holds of its refusal
abbrev pub EachOfAnswer : (HeaderRow → Type 0) → (Row → Type 0) → (Refusal → Type 0) → Told Table → Type 0
EachOfAnswer P Q B (good t) = EachInTurn P t.headers × EachInTurn Q t.records
EachOfAnswer P Q B (bad q) = B q

module _ (s : List ℕ) (P : HeaderRow → Type 0) (Q : Row → Type 0) (B : Refusal → Type 0)
    (headers : (ys body : List ℕ) (w : HeaderRow) → Rest s ys → HeaderRecordForm s ys body (good w) → P w)
    (records : (ys body : List ℕ) (w : Row) → Rest s ys → DataForm s ys body (good w) → Q w)
    (refusals : (sec : Section) (xs : List ℕ) (q : Refusal) → Rest s xs → StatementForm s sec xs (statement_refused q) → B q)
    (full : (xs ys body t : List ℕ) → Rest s xs → Record xs ys body t → B (refusal 8 0 (place s ys))) where
  -- a header row of which P holds may go before those of an answer
  with_header_lem : (w : HeaderRow) (a : Told Table) → P w → EachOfAnswer P Q B a → EachOfAnswer P Q B (mapped (with_header w) a)
  with_header_lem w (good t) p (h, r) = ((p, h), r)
  with_header_lem w (bad q) p h = h

  -- a data row of which Q holds may go before those of an answer
  with_record_lem : (w : Row) (a : Told Table) → Q w → EachOfAnswer P Q B a → EachOfAnswer P Q B (mapped (with_record w) a)
  with_record_lem w (good t) p (h, r) = (h, (p, r))
  with_record_lem w (bad q) p h = h

  -- what holds of each record, of each refusal of a statement, and of 8 at each record's start, whatever rest of the file they
  -- are read from, holds of the answer from each rest on
  reads_tell : {lent : RowsPerKind} {sec : Section} {n : RowsPerKind} {xs : List ℕ} {a : Told Table} → Rest s xs → Reads s lent sec n xs a → EachOfAnswer P Q B a
  reads_tell u (Reads.over f) = (tt, tt)
  reads_tell u (Reads.fault f) = refusals _ _ _ u f
  reads_tell u (Reads.on f d) = reads_tell (rest_of u (moved_rest f)) d
  reads_tell u (Reads.row {a} header_kind w ys f p d) =
      let (body, r, g) = header_form f in
      let (k, l) = record_rest r in
      with_header_lem w a (headers _ body w (rest_of u k) g) (reads_tell (rest_of u (rest_of k l)) d)
  reads_tell u (Reads.full header_kind w ys t f p) = full _ _ _ _ u (header_form f).1
  reads_tell u (Reads.row {a} data_kind w ys f p d) =
      let (body, r, g) = data_form f in
      let (k, l) = record_rest r in
      with_record_lem w a (records _ body w (rest_of u k) g) (reads_tell (rest_of u (rest_of k l)) d)
  reads_tell u (Reads.full data_kind w ys t f p) = full _ _ _ _ u (data_form f).1

  -- what holds of each record and of each refusal holds of the answer for the file, if it holds of the refusals 1 and 2 at its start
  pub scan_tells : B (refusal 1 0 0) → B (refusal 2 0 0) → (H R : ℕ) (a : Told Table) → scan_of s H R ≡ a → EachOfAnswer P Q B a
  scan_tells b c H R a e = go (rw e at (scans_is s H R))
    where
      go : {a : Told Table} → Scans s (rows_per_kind H R) a → EachOfAnswer P Q B a
      go (Scans.long h) = c
      go (Scans.unmarked h n) = b
      go (Scans.read h m d) = reads_tell rest_all d
