-- How a closed file is read, whatever closed records stand in the places of its own. Assumes nothing.
use Rattle.std.specs.Prelude.{ℕ, ◌+◌, ◌≤◌, ◌<◌, ◌≡◌, refl, List, [], ◌∷◌, ◌++◌, length}
use Rattle.std.proofs.Common.{sym, ◌∙◌, ap, append_assoc, arith}
use Rattle.error.specs.Refusal.{good}
use Rattle.record.specs.Word.{word_of}
use Rattle.record.specs.declared.Word.TheVariants.{Other}
use Rattle.statement.specs.Rows.{Row, HeaderRow, reading_ends, section_now, header_statement, data_statement, header_kind, data_kind}
use Rattle.statement.specs.Statement.{statement}
use Rattle.statement.specs.Closed.{ClosedData, ClosedHeader}
use Rattle.statement.specs.ClosedRight.{row_from, header_row_from, closed_hash}
use Rattle.statement.specs.ClosedRight.Statements.{StandsAsRecord, stands_as_record_moved, statement_local, statement_header_local}
use Rattle.statement.specs.declared.Section.{Section}
use Rattle.statement.specs.declared.Section.TheVariants.{InHeader, InData}
use Rattle.scan.specs.Records.{Table, table, with_header, with_record}
use Rattle.scan.specs.Form.{rows_per_kind, Reads}
use Rattle.statement.specs.FormRight.{statement_is}
use Rattle.order.specs.Order.{CutFile, no_more_records, next_record, fronted_by, texts, file_with}

-- a closed text that stands as a record somewhere, so that it may stand in the place of another
pub record Fit (b : List ℕ) : Type 0 where
  pub closed : ClosedData b
  pub before : List ℕ
  pub after : List ℕ
  pub stands : StandsAsRecord before b after

-- all of some texts are closed and stand as records somewhere
abbrev pub AllFitTexts : List (List ℕ) → Type 0
AllFitTexts [] = Unit {0}
AllFitTexts (b ∷ bs) = Fit b × AllFitTexts bs

-- a row of the file f is that of a closed text b, which stands there
pub record RowSays (f : List ℕ) (w : Row) (b : List ℕ) : Type 0 where
  pub closed : ClosedData b
  pub front : List ℕ
  pub back : List ℕ
  pub shape : f ≡ front ++ (b ++ back)
  pub row : w ≡ row_from (length front) closed

-- data rows of the file f are those of these texts, in order
abbrev pub AllSay : List ℕ → List Row → List (List ℕ) → Type 0
AllSay f [] [] = Unit {0}
AllSay f [] (b ∷ bs) = ⊥
AllSay f (w ∷ ws) [] = ⊥
AllSay f (w ∷ ws) (b ∷ bs) = RowSays f w b × AllSay f ws bs

-- a header row of the file f is that of a closed text b
pub record HeaderRowSays (f : List ℕ) (w : HeaderRow) (b : List ℕ) : Type 0 where
  pub closed : ClosedHeader b
  pub front : List ℕ
  pub back : List ℕ
  pub shape : f ≡ front ++ (b ++ back)
  pub row : w ≡ header_row_from (length front) closed

-- header rows of the file f are those of these texts, in order
abbrev pub AllHead : List ℕ → List HeaderRow → List (List ℕ) → Type 0
AllHead f [] [] = Unit {0}
AllHead f [] (b ∷ bs) = ⊥
AllHead f (w ∷ ws) [] = ⊥
AllHead f (w ∷ ws) (b ∷ bs) = HeaderRowSays f w b × AllHead f ws bs

-- how a closed file is read, from here on in a section: each statement is what it is whatever follows it; hs are the texts of its
-- header records
pub data FileShape : Section → CutFile → List (List ℕ) → Type 0 where
  over : {sec : Section} {xs : List ℕ} → ((f : List ℕ) → statement f sec xs ≡ reading_ends) → FileShape sec (no_more_records xs) []
  turn : {sec to : Section} {c : CutFile} {hs : List (List ℕ)} (g : List ℕ) → ((f y : List ℕ) → statement f sec (g ++ (59 ∷ y)) ≡ section_now to y)
      → FileShape to c hs → FileShape sec (fronted_by (g ++ (59 ∷ [])) c) hs
  heading : {c : CutFile} {hs : List (List ℕ)} (t b : List ℕ) → ClosedHeader b → ((y : List ℕ) → StandsAsRecord t b y) → word_of b ≡ Other
      → FileShape InHeader c hs → FileShape InHeader (fronted_by ((t ++ b) ++ (59 ∷ [])) c) (b ∷ hs)
  entry : {c : CutFile} {hs : List (List ℕ)} (t b r : List ℕ) → StandsAsRecord t b r → FileShape InData c hs → FileShape InData (next_record t b (fronted_by (59 ∷ []) c)) hs

-- a cut with bytes in front, with texts in its records' places, is these bytes and then the cut's own
pub led_filled : (g : List ℕ) (c : CutFile) (us : List (List ℕ)) → file_with (fronted_by g c) us ≡ g ++ file_with c us
led_filled g (no_more_records h) us = refl
led_filled g (next_record h b c) [] = append_assoc g h _
led_filled g (next_record h b c) (u ∷ us) = append_assoc g h _

-- bytes in front of a cut add no record
pub led_texts : (g : List ℕ) (c : CutFile) → texts (fronted_by g c) ≡ texts c
led_texts g (no_more_records h) = refl
led_texts g (next_record h b c) = refl

-- what a reading of the file f gives: a table whose rows are those of the texts us, and its header rows those of hs
pub record ReadsTo (f : List ℕ) (sec : Section) (h r : ℕ) (xs : List ℕ) (hs us : List (List ℕ)) (H R : ℕ) : Type 0 where
  pub result : Table
  pub reads : Reads f (rows_per_kind H R) sec (rows_per_kind h r) xs (good result)
  pub rows : AllSay f result.records us
  pub heads : AllHead f result.headers hs

-- What a reading of the file gives, one statement after the other.
module _ (f : List ℕ) (H R : ℕ) where
  read_over : (sec : Section) (h r : ℕ) (xs : List ℕ) → statement f sec xs ≡ reading_ends → ReadsTo f sec h r xs [] [] H R
  read_over sec h r xs e = record { result = table [] []; reads = Reads.over (rw e at (statement_is f sec xs)); rows = tt; heads = tt }

  read_turn : {sec to : Section} {h r : ℕ} {xs y : List ℕ} {hs us : List (List ℕ)} → statement f sec xs ≡ section_now to y
      → ReadsTo f to h r y hs us H R → ReadsTo f sec h r xs hs us H R
  read_turn {sec} {xs} e d = record { result = d.result; reads = Reads.on (rw e at (statement_is f sec xs)) d.reads; rows = d.rows; heads = d.heads }

  read_heading : {h r : ℕ} {xs y ys : List ℕ} {hs us : List (List ℕ)} {w : HeaderRow} {b : List ℕ} → statement f InHeader xs ≡ header_statement w ys y → h < H
      → HeaderRowSays f w b → ReadsTo f InHeader (h + 1) r y hs us H R → ReadsTo f InHeader h r xs (b ∷ hs) us H R
  read_heading {xs} {ys} {w} e l k d = record {
    result = with_header w d.result;
    reads = Reads.row header_kind w ys (rw e at (statement_is f InHeader xs)) l d.reads;
    rows = d.rows;
    heads = (k, d.heads);
  }

  read_entry : {h r : ℕ} {xs y ys : List ℕ} {hs us : List (List ℕ)} {w : Row} {b : List ℕ} → statement f InData xs ≡ data_statement w ys y → r < R
      → RowSays f w b → ReadsTo f InData h (r + 1) y hs us H R → ReadsTo f InData h r xs hs (b ∷ us) H R
  read_entry {xs} {ys} {w} e l k d = record {
    result = with_record w d.result;
    reads = Reads.row data_kind w ys (rw e at (statement_is f InData xs)) l d.reads;
    rows = (k, d.rows);
    heads = d.heads;
  }

-- the file f is read, from where a cut begins with these texts in its records' places, to their rows: q precedes it
pub read_filled : (f q : List ℕ) (H R : ℕ) {sec : Section} {c : CutFile} {hs : List (List ℕ)} → FileShape sec c hs → (us : List (List ℕ)) → AllFitTexts us
    → length us ≡ length (texts c) → f ≡ q ++ file_with c us → (h r : ℕ) → h + length hs ≤ H → r + length us ≤ R
    → ReadsTo f sec h r (file_with c us) hs us H R
read_filled f q H R {sec} (FileShape.over {xs} e) [] a n g h r l m = read_over f H R sec h r xs (e f)
read_filled f q H R (FileShape.over e) (u ∷ us) a n g h r l m = absurd (omega (arith, n))
read_filled f q H R (FileShape.turn {c} k e d) us a n g h r l m =
    let x : file_with (fronted_by (k ++ (59 ∷ [])) c) us ≡ k ++ (59 ∷ file_with c us) = led_filled (k ++ (59 ∷ [])) c us ∙ append_assoc k (59 ∷ []) _ in
    let y : f ≡ (q ++ (k ++ (59 ∷ []))) ++ file_with c us = g ∙ ap (λ (z : List ℕ). q ++ z) (led_filled (k ++ (59 ∷ [])) c us) ∙ sym (append_assoc q _ _) in
    rw x (read_turn f H R (e f (file_with c us)) (read_filled f (q ++ (k ++ (59 ∷ []))) H R d us a (rw (led_texts (k ++ (59 ∷ [])) c) at n) y h r l m))
read_filled f q H R (FileShape.heading {c} {hs} t b ch st w d) us a n g h r l m =
    let x : file_with (fronted_by ((t ++ b) ++ (59 ∷ [])) c) us ≡ t ++ (b ++ (59 ∷ file_with c us)) =
    led_filled ((t ++ b) ++ (59 ∷ [])) c us ∙ append_assoc (t ++ b) (59 ∷ []) _ ∙ append_assoc t b _ in
    let y : f ≡ (q ++ t) ++ (b ++ (59 ∷ file_with c us)) = g ∙ ap (λ (z : List ℕ). q ++ z) x ∙ sym (append_assoc q t _) in
    let z : f ≡ (q ++ ((t ++ b) ++ (59 ∷ []))) ++ file_with c us = g ∙ ap (λ (z : List ℕ). q ++ z) (led_filled ((t ++ b) ++ (59 ∷ [])) c us) ∙ sym (append_assoc q _ _) in
    rw x (read_heading f H R (statement_header_local ch f (q ++ t) y (st (file_with c us)) w) (omega arith)
    (record { closed = ch; front = q ++ t; back = 59 ∷ file_with c us; shape = y; row = refl })
    (read_filled f (q ++ ((t ++ b) ++ (59 ∷ []))) H R d us a (rw (led_texts ((t ++ b) ++ (59 ∷ [])) c) at n) z (h + 1) r (omega arith) m))
read_filled f q H R (FileShape.entry t b v st d) [] a n g h r l m = absurd (omega (arith, n))
read_filled f q H R (FileShape.entry {c} t b v st d) (u ∷ us) (k, a) n g h r l m =
    let x : file_with (fronted_by (59 ∷ []) c) us ≡ 59 ∷ file_with c us = led_filled (59 ∷ []) c us in
    let y : f ≡ (q ++ t) ++ (u ++ (59 ∷ file_with c us)) = g ∙ ap (λ (z : List ℕ). q ++ (t ++ (u ++ z))) x ∙ sym (append_assoc q t _) in
    let z : f ≡ ((q ++ t) ++ (u ++ (59 ∷ []))) ++ file_with c us = y ∙ ap (λ (z : List ℕ). (q ++ t) ++ z) (sym (append_assoc u (59 ∷ []) _)) ∙ sym (append_assoc (q ++ t) _ _) in
    let e = statement_local k.closed f (q ++ t) y (stands_as_record_moved st k.stands (closed_hash k.closed) (file_with c us)) in
    rw x (read_entry f H R e (omega arith)
    (record { closed = k.closed; front = q ++ t; back = 59 ∷ file_with c us; shape = y; row = refl })
    (read_filled f ((q ++ t) ++ (u ++ (59 ∷ []))) H R d us a (omega (arith, n, ap length (led_texts (59 ∷ []) c))) z h (r + 1) l (omega arith)))
