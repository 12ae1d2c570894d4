-- Document 01, 'Reading the file' and 'Refusal numbers' 3 to 7: what a record and a statement of the file say, as rules that name no
-- loop and no search. A rule speaks of rests of the file s: xs is what is left to read, ys the file from a record's start, o the file
-- from a fault; `place s o` is where the rest o begins. The bytes `(` `)` `;` are 40, 41 and 59. A fault's number and place are
-- quoted from the table of refusal numbers.
-- FormRight.antt shows that Row.antt and Statement.antt compute just this, and that there is no other answer.
-- Assumes nothing.
-- Definitions to be believed: no law, and nothing computed that no theorem ties (docs/BELIEVE.md).
use Rattle.std.specs.Prelude.{ℕ, ◌≡◌, List, [], ◌∷◌, ◌++◌, length, Ok, Err}
use Rattle.std.proofs.Math.Option.{Option, none, some}
use Rattle.error.specs.Refusal.{Refusal, refusal, Told, good, bad, told_reason}
use Rattle.error.specs.declared.Reason.{Reason}
use Rattle.lex.specs.Byte.{place}
use Rattle.lex.specs.Grammar.{Led, Trivia, RecordRuns, RecordEnds, Closes, Deep, OpenText, OpenRemark}
use Rattle.record.specs.Form.{WordForm, HeadForm, HeaderForm}
use Rattle.record.specs.declared.Word.TheVariants.{Header, Data, EndSection, EndFile, Other}
use Rattle.record.specs.declared.Head.TheVariants.{Complex, Simple}
use Rattle.record.specs.declared.Named.{Named}
use Rattle.statement.specs.Rows.{Row, row, HeaderRow, header_row, Stmt, reading_ends, statement_refused, section_now, header_statement, data_statement, bound}
use Rattle.statement.specs.declared.Section.{Section}
use Rattle.statement.specs.declared.Section.TheVariants.{Outside, InHeader, InData}

-- zs is what is left of ys after n bytes
abbrev pub After : ℕ → List ℕ → List ℕ → Type 0
After n ys zs = (b : List ℕ) × (ys ≡ b ++ zs) × (length b ≡ n)

-- a rest of what stands before the bound, as a rest of the file: what stands from the bound on, if there is one, follows it
abbrev pub onto : Option (List ℕ) → List ℕ → List ℕ
onto none r = r
onto (some e) r = r ++ e

-- the arguments of a record of the file s, where t follows their `(`: the place of their `)`, or a refusal. u is what of t stands
-- before the bound, all of it where there is none, and is read as if nothing followed
pub data ArguedTo (b : Option (List ℕ)) (s t : List ℕ) : Told ℕ → Type 0 where
  -- "The closing `)` is sought outside strings and comments"
  closed : {u r : List ℕ} → t ≡ onto b u → Closes u r → ArguedTo b s t (good (place s (onto b (41 ∷ r))))
  -- "Faults met on the way are given at once": "4 string open, its first quote"
  text_open : {d : ℕ} {u o : List ℕ} → t ≡ onto b u → Deep d u o → OpenText o → ArguedTo b s t (bad (refusal 4 0 (place s (onto b o))))
  -- "3 comment open, its `/`"
  remark_open : {d : ℕ} {u o : List ℕ} → t ≡ onto b u → Deep d u o → OpenRemark o → ArguedTo b s t (bad (refusal 3 0 (place s (onto b o))))
  -- "6 parenthesis open, its `(`"
  unclosed : {d : ℕ} {u : List ℕ} → t ≡ onto b u → Deep d u [] → ArguedTo b s t (bad (refusal 6 0 (place s (40 ∷ t))))

-- "through the whole file, even past the record's `;`": a record's arguments, where there is no bound
abbrev pub Argued : List ℕ → List ℕ → Told ℕ → Type 0
Argued s t a = ArguedTo none s t a

-- "A row holds id, keyword start and end (0, 0 if complex), argument start and end, complex 0 or 1": the row of the data record
-- of the file s that starts with ys and has this text, or its refusal
pub data DataForm (s ys body : List ℕ) : Told Row → Type 0 where
  -- "7 bad record, with reason, its start"
  bad_record_form : {why : Reason} → HeadForm body (Err why) → DataForm s ys body (bad (refusal 7 (told_reason why) (place s ys)))
  -- "then `(` for a complex record": t follows the `(`
  complex : {i o e : ℕ} {t : List ℕ} → HeadForm body (Ok (Complex i o)) → After o ys (40 ∷ t) → ArguedTo (bound ys body) s t (good e)
      → DataForm s ys body (good (row i 0 0 (place s t) e 1))
  -- "Faults met on the way are given at once.": a fault in a complex record's arguments
  complex_refused : {i o : ℕ} {t : List ℕ} {q : Refusal} → HeadForm body (Ok (Complex i o)) → After o ys (40 ∷ t) → ArguedTo (bound ys body) s t (bad q)
      → DataForm s ys body (bad q)
  -- "else a keyword and the first byte `(`": the keyword is what stands between the rests k and l, and t follows the `(`
  simple : {i a z o e : ℕ} {k l t : List ℕ} → HeadForm body (Ok (Simple i a z o)) → After a ys k → After z ys l → After o ys (40 ∷ t)
      → ArguedTo (bound ys body) s t (good e) → DataForm s ys body (good (row i (place s k) (place s l) (place s t) e 0))
  -- "Faults met on the way are given at once.": a fault in a simple record's arguments
  simple_refused : {i a z o : ℕ} {t : List ℕ} {q : Refusal} → HeadForm body (Ok (Simple i a z o)) → After o ys (40 ∷ t) → ArguedTo (bound ys body) s t (bad q)
      → DataForm s ys body (bad q)

-- the row of the header record that starts with ys and has this text: "keyword start and end [..], argument start and end"; or its
-- refusal
pub data HeaderRecordForm (s ys body : List ℕ) : Told HeaderRow → Type 0 where
  -- "7 bad record, with reason, its start": reason "1 header record without `(`"
  bad_record_form : {why : Reason} → HeaderForm body (Err why) → HeaderRecordForm s ys body (bad (refusal 7 (told_reason why) (place s ys)))
  -- a keyword, which stands between the rests k and l, and the first byte `(`, which t follows
  named : {n : Named} {e : ℕ} {k l t : List ℕ} → HeaderForm body (Ok n) → After n.start ys k → After n.end ys l → After n.opening ys (40 ∷ t)
      → ArguedTo (bound ys body) s t (good e) → HeaderRecordForm s ys body (good (header_row (place s k) (place s l) (place s t) e))
  -- "Faults met on the way are given at once.": a fault in a header record's arguments
  named_refused : {n : Named} {t : List ℕ} {q : Refusal} → HeaderForm body (Ok n) → After n.opening ys (40 ∷ t) → ArguedTo (bound ys body) s t (bad q)
      → HeaderRecordForm s ys body (bad q)

-- "A record starts at the first non-trivia byte and ends at the first `;` outside strings and comments": after trivia of xs a
-- record starts with ys, its text is body, and t follows its `;`
pub record Record (xs ys body t : List ℕ) : Type 0 where
  pub starts : Led xs ys
  pub finishes : RecordEnds ys t
  pub text : ys ≡ body ++ (59 ∷ t)

-- what the next statement of the file s says, from the rest xs on in this section
pub data StatementForm (s : List ℕ) : Section → List ℕ → Stmt → Type 0 where
  -- "A record starts at the first non-trivia byte": there is none, and the file ends
  over : {sec : Section} {xs : List ℕ} → Led xs [] → StatementForm s sec xs reading_ends
  -- "3 comment open, its `/`", before a record
  trivia_open : {sec : Section} {xs o : List ℕ} → Trivia xs o → OpenRemark o → StatementForm s sec xs (statement_refused (refusal 3 0 (place s o)))
  -- "5 record without `;`, its start"
  endless : {sec : Section} {xs ys : List ℕ} → Led xs ys → (ys ≡ [] → ⊥) → RecordRuns ys []
      → StatementForm s sec xs (statement_refused (refusal 5 0 (place s ys)))
  -- "4 string open, its first quote", on the way to the `;`
  text_open : {sec : Section} {xs ys o : List ℕ} → Led xs ys → RecordRuns ys o → OpenText o → StatementForm s sec xs (statement_refused (refusal 4 0 (place s o)))
  -- "3 comment open, its `/`", on the way to the `;`
  remark_open : {sec : Section} {xs ys o : List ℕ} → Led xs ys → RecordRuns ys o → OpenRemark o
      → StatementForm s sec xs (statement_refused (refusal 3 0 (place s o)))
  -- "`HEADER` opens the header"
  heads : {sec : Section} {xs ys body t : List ℕ} → Record xs ys body t → WordForm body Header → StatementForm s sec xs (section_now InHeader t)
  -- "`DATA`, or `DATA`, whitespace or none, then `(`, opens data"
  opens : {sec : Section} {xs ys body t : List ℕ} → Record xs ys body t → WordForm body Data → StatementForm s sec xs (section_now InData t)
  -- "`ENDSEC` leaves the section"
  leaves : {sec : Section} {xs ys body t : List ℕ} → Record xs ys body t → WordForm body EndSection → StatementForm s sec xs (section_now Outside t)
  -- "`END-ISO-10303-21` ends the reading"
  closes : {sec : Section} {xs ys body t : List ℕ} → Record xs ys body t → WordForm body EndFile → StatementForm s sec xs reading_ends
  -- "Records elsewhere are ignored."
  ignored : {xs ys body t : List ℕ} → Record xs ys body t → WordForm body Other → StatementForm s Outside xs (section_now Outside t)
  -- a header record, and its row
  header_row_form : {xs ys body t : List ℕ} {w : HeaderRow} → Record xs ys body t → WordForm body Other → HeaderRecordForm s ys body (good w)
      → StatementForm s InHeader xs (header_statement w ys t)
  -- a header record that is refused: "the first fault is given"
  header_refused : {xs ys body t : List ℕ} {q : Refusal} → Record xs ys body t → WordForm body Other → HeaderRecordForm s ys body (bad q)
      → StatementForm s InHeader xs (statement_refused q)
  -- "Data: `#`, digits, ..": a data record, and its row
  data_row : {xs ys body t : List ℕ} {w : Row} → Record xs ys body t → WordForm body Other → DataForm s ys body (good w)
      → StatementForm s InData xs (data_statement w ys t)
  -- a data record that is refused: "the first fault is given"
  data_refused : {xs ys body t : List ℕ} {q : Refusal} → Record xs ys body t → WordForm body Other → DataForm s ys body (bad q)
      → StatementForm s InData xs (statement_refused q)
