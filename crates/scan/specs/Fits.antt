-- "with a place from 0 to the input's length" (demand 1): every place that a statement or the whole reading answers, in a row
-- or in a refusal, lies from 0 to the file's length. Assumes nothing.
use Rattle.std.specs.Prelude.{ℕ, ◌+◌, ◌≤◌, refl, List, [], ◌∷◌, length, drop, Result, Ok, Err}
use Rattle.std.proofs.Math.Option.{Option}
use Rattle.std.proofs.Common.{arith}
use Rattle.error.specs.Refusal.{Told, good, bad}
use Rattle.lex.specs.Byte.{place}
use Rattle.lex.specs.Place.{place_within}
use Rattle.lex.specs.Answer.{Sought, at, fault, placed}
use Rattle.lex.specs.Search.{trivia, record_end}
use Rattle.record.specs.Text.{before}
use Rattle.record.specs.Word.{word_of}
use Rattle.record.specs.Head.{data_head, header_head}
use Rattle.record.specs.declared.Word.{Word}
use Rattle.record.specs.declared.Word.TheVariants.{Header, Data, EndSection, EndFile, Other}
use Rattle.record.specs.declared.Head.{Head}
use Rattle.record.specs.declared.Head.TheVariants.{Complex, Simple}
use Rattle.record.specs.declared.Named.{Named}
use Rattle.error.specs.declared.Reason.{Reason}
use Rattle.statement.specs.Rows.{Row, HeaderRow, Stmt, reading_ends, statement_refused, section_now, header_statement, data_statement, bound, mapped}
use Rattle.statement.specs.Row.{closing_sought, record_by, record_of, header_by, header_of}
use Rattle.statement.specs.Statement.{header_stated, recorded, in_section, worded, ended, begun, after_trivia, statement}
use Rattle.statement.specs.declared.Section.{Section}
use Rattle.statement.specs.declared.Section.TheVariants.{Outside, InHeader, InData}
use Rattle.statement.specs.FormRight.{statement_only}
use Rattle.scan.specs.Records.{Table}
use Rattle.scan.specs.File.{scan_of}
use Rattle.scan.specs.Rests.{EachInTurn, EachOfAnswer, scan_tells}
use Rattle.scan.specs.Ordered.{HeaderOrdered, RowOrdered, header_row_ordered, data_row_ordered}

-- each place of a header row is at most n
pub record HeaderFits (n : ℕ) (w : HeaderRow) : Type 0 where
  pub key_start : w.key_start ≤ n
  pub key_end : w.key_end ≤ n
  pub arg_start : w.arg_start ≤ n
  pub arg_end : w.arg_end ≤ n

-- each place of a data row is at most n
pub record RecordFits (n : ℕ) (w : Row) : Type 0 where
  pub key_start : w.key_start ≤ n
  pub key_end : w.key_end ≤ n
  pub arg_start : w.arg_start ≤ n
  pub arg_end : w.arg_end ≤ n

-- the value of an answer is as F says, or its refusal's place is at most n
abbrev pub ToldFits : {A : Type 0} → ℕ → (A → Type 0) → Told A → Type 0
ToldFits n F (good a) = F a
ToldFits n F (bad q) = q.place ≤ n

-- each place of each row of a table is at most n
pub record TableFits (n : ℕ) (t : Table) : Type 0 where
  pub headers : EachInTurn (HeaderFits n) t.headers
  pub records : EachInTurn (RecordFits n) t.records

-- each place of a statement is at most n
abbrev pub StmtFits : ℕ → Stmt → Type 0
StmtFits n reading_ends = Unit {0}
StmtFits n (statement_refused q) = q.place ≤ n
StmtFits n (section_now sec r) = Unit {0}
StmtFits n (header_statement w ys r) = HeaderFits n w
StmtFits n (data_statement w ys r) = RecordFits n w

module _ (s : List ℕ) where
  -- a row by the place of its `)` is as F says, if F holds of it for each place in the file; or the refusal's place is in the file
  argued_fits : {A : Type 0} (F : A → Type 0) (f : ℕ → A) → ((q : ℕ) → q ≤ length s → F (f q)) → (x : Sought) → ToldFits (length s) F (mapped f (placed s x))
  argued_fits F f h (at r) = h (place s r) (place_within s r)
  argued_fits F f h (fault n r) = place_within s r

  -- the places of a header row, read from the head of its record, lie in the file, or its refusal's place does
  header_by_lem : (b : Option (List ℕ)) (ys : List ℕ) (h : Result Named Reason) → ToldFits (length s) (HeaderFits (length s)) (header_by b s ys h)
  header_by_lem b ys (Err why) = place_within s ys
  header_by_lem b ys (Ok n) =
      argued_fits (HeaderFits (length s)) _
      (λ q k.
      record {
        key_start = place_within s (drop n.start ys);
        key_end = place_within s (drop n.end ys);
        arg_start = place_within s (drop (n.opening + 1) ys);
        arg_end = k;
      })
      (closing_sought b (drop n.opening ys))

  -- the places of a data row, read from the head of its record, lie in the file, or its refusal's place does
  record_by_lem : (b : Option (List ℕ)) (ys : List ℕ) (h : Result Head Reason) → ToldFits (length s) (RecordFits (length s)) (record_by b s ys h)
  record_by_lem b ys (Err why) = place_within s ys
  record_by_lem b ys (Ok (Complex i o)) =
      argued_fits (RecordFits (length s)) _
      (λ q k. record { key_start = omega arith; key_end = omega arith; arg_start = place_within s (drop (o + 1) ys); arg_end = k })
      (closing_sought b (drop o ys))
  record_by_lem b ys (Ok (Simple i a z o)) =
      argued_fits (RecordFits (length s)) _
      (λ q k.
      record {
        key_start = place_within s (drop a ys);
        key_end = place_within s (drop z ys);
        arg_start = place_within s (drop (o + 1) ys);
        arg_end = k;
      })
      (closing_sought b (drop o ys))

  -- the places of a statement that is a header record lie in the file, where those of its row or its refusal do
  headed_fits : (ys r : List ℕ) (x : Told HeaderRow) → ToldFits (length s) (HeaderFits (length s)) x → StmtFits (length s) (header_stated ys r x)
  headed_fits ys r (good w) h = h
  headed_fits ys r (bad q) h = h

  -- the places of a statement that is a data record lie in the file, where those of its row or its refusal do
  recorded_fits : (ys r : List ℕ) (x : Told Row) → ToldFits (length s) (RecordFits (length s)) x → StmtFits (length s) (recorded ys r x)
  recorded_fits ys r (good w) h = h
  recorded_fits ys r (bad q) h = h

  -- the places of a statement that is a record in a section lie in the file
  section_fits : (ys e : List ℕ) (sec : Section) → StmtFits (length s) (in_section s ys e sec)
  unfolding header_of record_of
  section_fits ys e Outside = tt
  section_fits ys e InHeader = headed_fits ys (drop 1 e) (header_of s ys (before ys e)) (header_by_lem (bound ys (before ys e)) ys (header_head (before ys e)))
  section_fits ys e InData = recorded_fits ys (drop 1 e) (record_of s ys (before ys e)) (record_by_lem (bound ys (before ys e)) ys (data_head (before ys e)))

  -- the places of a statement, by whether its text is a section's word, lie in the file
  worded_fits : (ys e : List ℕ) (sec : Section) (w : Word) → StmtFits (length s) (worded s ys e sec w)
  worded_fits ys e sec EndSection = tt
  worded_fits ys e sec Header = tt
  worded_fits ys e sec Data = tt
  worded_fits ys e sec EndFile = tt
  worded_fits ys e sec Other = section_fits ys e sec

  -- the places of a statement, by where its record ends, lie in the file
  ended_fits : (ys : List ℕ) (sec : Section) (x : Sought) → StmtFits (length s) (ended s ys sec x)
  ended_fits ys sec (fault n o) = place_within s o
  ended_fits ys sec (at e) = worded_fits ys e sec (word_of (before ys e))

  -- the places of a statement from its first byte on lie in the file
  begun_fits : (sec : Section) (ys : List ℕ) → StmtFits (length s) (begun s sec ys)
  begun_fits sec [] = tt
  begun_fits sec (c ∷ r) = ended_fits (c ∷ r) sec (record_end (c ∷ r))

  -- the places of a statement behind trivia, or of a fault in these, lie in the file
  led_fits : (sec : Section) (x : Sought) → StmtFits (length s) (after_trivia s sec x)
  led_fits sec (fault n o) = place_within s o
  led_fits sec (at ys) = begun_fits sec ys

  -- a statement's places lie in the file
  pub statement_fits : (sec : Section) (xs : List ℕ) → StmtFits (length s) (statement s sec xs)
  unfolding statement
  statement_fits sec xs = led_fits sec (trivia xs)

-- the places of an answer lie in the file where its rows are in order and its refusal's place lies there
tells_fit : (n : ℕ) (a : Told Table) → EachOfAnswer (HeaderOrdered n) (RowOrdered n) (λ q. q.place ≤ n) a → ToldFits n (TableFits n) a
tells_fit n (good t) (h, r) = record { headers = each_of header_fits t.headers h; records = each_of record_fits t.records r }
  where
    each_of : {A : Type 0} {P Q : A → Type 0} → ((w : A) → P w → Q w) → (ws : List A) → EachInTurn P ws → EachInTurn Q ws
    each_of f [] k = tt
    each_of f (w ∷ ws) (p, k) = (f w p, each_of f ws k)

    header_fits : (w : HeaderRow) → HeaderOrdered n w → HeaderFits n w
    header_fits w o = record { key_start = omega arith; key_end = omega arith; arg_start = omega arith; arg_end = omega arith }

    record_fits : (w : Row) → RowOrdered n w → RecordFits n w
    record_fits w o = record { key_start = omega arith; key_end = omega arith; arg_start = omega arith; arg_end = omega arith }
tells_fit n (bad q) h = h

-- the places of a scan's answer lie in the file
pub scan_fits : (s : List ℕ) (H R : ℕ) → ToldFits (length s) (TableFits (length s)) (scan_of s H R)
scan_fits s H R =
    tells_fit (length s) (scan_of s H R)
    (scan_tells s (HeaderOrdered (length s)) (RowOrdered (length s)) (λ q. q.place ≤ length s)
    (λ ys body w u g. header_row_ordered u g) (λ ys body w u g. data_row_ordered u g)
    (λ sec xs q u f. rw (← statement_only f) at (statement_fits s sec xs)) (λ xs ys body t u d. place_within s ys)
    (omega arith) (omega arith) H R (scan_of s H R) refl)

-- places of a header row that are at most n are at most any greater bound
pub header_fits_more : (n m : ℕ) (w : HeaderRow) → n ≤ m → HeaderFits n w → HeaderFits m w
header_fits_more n m w h f = record {
  key_start = omega (arith, f.key_start);
  key_end = omega (arith, f.key_end);
  arg_start = omega (arith, f.arg_start);
  arg_end = omega (arith, f.arg_end);
}

-- places of a data row that are at most n are at most any greater bound
pub record_fits_more : (n m : ℕ) (w : Row) → n ≤ m → RecordFits n w → RecordFits m w
record_fits_more n m w h f = record {
  key_start = omega (arith, f.key_start);
  key_end = omega (arith, f.key_end);
  arg_start = omega (arith, f.arg_start);
  arg_end = omega (arith, f.arg_end);
}
