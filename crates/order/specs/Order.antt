-- Demand 3: "Take an accepted file that is closed, as 01 defines it. Rearrange its whole data records among their places, keeping the order
-- of records with equal ids and the order of the unit contexts. The new file is accepted with the same rooms; under demand 2's definitions
-- each id then yields a record with the same keyword and argument bytes, or none as before, and the unit answer is the same, or the same
-- refusal number."
--
-- Accepted: `scan_of` (scan/specs/File.antt) gives a table. Closed: `Closed` (statement/specs/Closed.antt). What is rearranged, what is
-- kept and what stays the same stands here; `Demand` is the whole sentence, and Right.antt proves it.
-- Assumes nothing.
-- Definitions to be believed: no law, and nothing computed that no theorem ties (docs/BELIEVE.md).
use Rattle.std.specs.Prelude.{ℕ, ◌≡◌, Bool, false, List, [], ◌∷◌, ◌++◌, map, eqb, Result, Ok, Err, Option, None, Some}
use Rattle.common.specs.Pick.{pick}
use Rattle.error.specs.Refusal.{Told, good, bad}
use Rattle.error.specs.declared.Reason.{Reason}
use Rattle.record.specs.Head.{data_head}
use Rattle.record.specs.declared.Head.{Head}
use Rattle.record.specs.declared.Head.TheVariants.{Complex, Simple}
use Rattle.statement.specs.Rows.{Row, HeaderRow, reading_ends, section_now, header_statement, data_statement}
use Rattle.statement.specs.Row.{record_of}
use Rattle.statement.specs.Closed.{Closed, Content, content, header_content}
use Rattle.statement.specs.Statement.{statement}
use Rattle.statement.specs.declared.Section.{Section}
use Rattle.statement.specs.declared.Section.TheVariants.{Outside, InHeader, InData}
use Rattle.scan.specs.Records.{Table}
use Rattle.scan.specs.File.{scan_of}
use Rattle.scan.specs.ScanMemory.{counts_of}
use Rattle.params.specs.Answer.{onward}
use Rattle.lookup.specs.Records.{last_of}
use Rattle.factors.specs.SeenRecords.{seen_record_of}
use Rattle.units.specs.Answer.{Units, is_context}
use Rattle.serve.specs.Serve.{units_of}

-- a file, cut: what stands up to the next data record, that record's text, from its `#` up to its `;`, and what follows, cut likewise;
-- or what stands after the last record
pub data CutFile : Type 0 where
  no_more_records : List ℕ → CutFile
  next_record : List ℕ → List ℕ → CutFile → CutFile

-- a cut with the bytes g in front
abbrev pub fronted_by : List ℕ → CutFile → CutFile
fronted_by g (no_more_records h) = no_more_records (g ++ h)
fronted_by g (next_record h b c) = next_record (g ++ h) b c

-- "its whole data records": their texts in file order
abbrev pub texts : CutFile → List (List ℕ)
texts (no_more_records g) = []
texts (next_record g b c) = b ∷ texts c

-- "among their places": the file with these texts, one for each record, in the records' places; all else stays
abbrev pub file_with : CutFile → List (List ℕ) → List ℕ
file_with (no_more_records g) ts = g
file_with (next_record g b c) [] = g ++ (b ++ file_with c [])
file_with (next_record g b c) (t ∷ ts) = g ++ (t ++ file_with c ts)

-- the reader's own cut of the file s, from the rest xs on in a section: a statement that is no data record stays in what stands between.
-- Every closed file has a cut, and only one (`closed_shaped`, `cuts_one` in Cuts.antt); with its own texts it is the file (`filled_own`)
pub data Cuts (s : List ℕ) : Section → List ℕ → CutFile → Type 0 where
  -- the reading ends: "`END-ISO-10303-21` ends the reading", or the file does
  over : {sec : Section} {xs : List ℕ} → statement s sec xs ≡ reading_ends → Cuts s sec xs (no_more_records xs)
  -- a section word or a record that is ignored: g is the statement with what leads up to it
  turn : {sec to : Section} {xs r : List ℕ} {c : CutFile} (g : List ℕ) → xs ≡ g ++ r → statement s sec xs ≡ section_now to r → Cuts s to r c
      → Cuts s sec xs (fronted_by g c)
  -- a header record: g is the statement with what leads up to it
  heading : {sec : Section} {xs ys r : List ℕ} {w : HeaderRow} {c : CutFile} (g : List ℕ) → xs ≡ g ++ r → statement s sec xs ≡ header_statement w ys r
      → Cuts s InHeader r c → Cuts s sec xs (fronted_by g c)
  -- a data record: after g its text b, its `;` and the rest
  entry : {sec : Section} {xs g b r : List ℕ} {w : Row} {c : CutFile} → xs ≡ g ++ (b ++ (59 ∷ r))
      → statement s sec xs ≡ data_statement w (b ++ (59 ∷ r)) r → Cuts s InData r c → Cuts s sec xs (next_record g b (fronted_by (59 ∷ []) c))

-- two lists of the same texts, in another order
pub data Permuted : List (List ℕ) → List (List ℕ) → Type 0 where
  -- no texts are themselves
  empty : Permuted [] []
  -- a text stays in front of others in another order
  front : {b : List ℕ} {ts us : List (List ℕ)} → Permuted ts us → Permuted (b ∷ ts) (b ∷ us)
  -- the first two change places
  swap : {a b : List ℕ} {ts : List (List ℕ)} → Permuted (a ∷ b ∷ ts) (b ∷ a ∷ ts)
  -- one change of the order after another
  then : {ts us vs : List (List ℕ)} → Permuted ts us → Permuted us vs → Permuted ts vs

-- the head of a data record's text has the id k
abbrev pub head_has_id : ℕ → Result Head Reason → Bool
head_has_id k (Err why) = false
head_has_id k (Ok (Complex i o)) = eqb i k
head_has_id k (Ok (Simple i a z o)) = eqb i k

-- the texts of which a test holds, in order
unfoldable pub those : (List ℕ → Bool) → List (List ℕ) → List (List ℕ)
those p [] = []
those p (b ∷ bs) = pick (p b) (b ∷ those p bs) (those p bs)

-- "records with equal ids": the texts with the id k, in order
abbrev pub of_id : ℕ → List (List ℕ) → List (List ℕ)
of_id k bs = those (λ b. head_has_id k (data_head b)) bs

-- what an answer says, where it is one; false where it is a refusal
abbrev pub truly : Told Bool → Bool
truly (good b) = b
truly (bad q) = false

-- "A unit context is a GEOMETRIC_REPRESENTATION_CONTEXT record, or a complex one with that part, whose first parameter reads as an integer":
-- a data record's text is one, read as a file of its own (that it is one in its file too: Contexts.antt)
unfoldable pub context_text : List ℕ → Bool
context_text b = truly (onward (λ w. onward (is_context b) (seen_record_of b w)) (record_of b b b))

-- "the unit contexts": their texts, in order
abbrev pub contexts_in : List (List ℕ) → List (List ℕ)
contexts_in bs = those context_text bs

-- "Rearrange its whole data records among their places, keeping the order of records with equal ids and the order of the unit contexts":
-- the texts ts, in file order, become us. It can always be met (`rearranged_same` in Exchange.antt, and others there)
pub record Rearranged (ts us : List (List ℕ)) : Type 0 where
  pub whole : Permuted ts us
  pub ids : (k : ℕ) → of_id k ts ≡ of_id k us
  pub contexts : contexts_in ts ≡ contexts_in us

-- what a record of the file says, or nothing
abbrev pub content_found : List ℕ → Option Row → Option Content
content_found s None = None
content_found s (Some w) = Some (content s w)

-- "each id then yields a record with [..] keyword and argument bytes, or none": of the file s with the table t, by demand 2's lookup, "the
-- last record of that id, or none"
abbrev pub served : List ℕ → Table → ℕ → Option Content
served s t k = content_found s (last_of k t.records)

-- "the unit answer is the same, or the same refusal number"
abbrev pub SameUnits : Told Units → Told Units → Type 0
SameUnits (good u) (good v) = u ≡ v
SameUnits (good u) (bad q) = ⊥
SameUnits (bad p) (good v) = ⊥
SameUnits (bad p) (bad q) = p.number ≡ q.number

-- what stays the same: s is the file, t its table, f the new file, and there is room for H header rows and R data rows
pub record SameAnswers (s : List ℕ) (t : Table) (f : List ℕ) (H R : ℕ) : Type 0 where
  -- the table of the new file
  pub after : Table
  -- "The new file is accepted with the same rooms"
  pub accepted : scan_of f H R ≡ good after
  -- (not demanded: the new file has as many header and data rows, and the same largest id)
  pub counted : counts_of t ≡ counts_of after
  -- (not demanded: the header records of the new file say the same)
  pub headed : map (header_content s) t.headers ≡ map (header_content f) after.headers
  -- "each id then yields a record with the same keyword and argument bytes, or none as before"
  pub found : (k : ℕ) → served s t k ≡ served f after k
  -- "and the unit answer is the same, or the same refusal number": that of demand 2's definition, over the records in file order and the
  -- lookup (serve/specs/Serve.antt)
  pub units : SameUnits (units_of s t) (units_of f after)

-- demand 3: s is an accepted file that is closed, c the reader's own cut of it, and us its records' texts rearranged
abbrev pub Demand : Type 0
Demand = (s : List ℕ) (H R : ℕ) (t : Table) → scan_of s H R ≡ good t → Closed s
    → (c : CutFile) → Cuts s Outside s c → (us : List (List ℕ)) → Rearranged (texts c) us → SameAnswers s t (file_with c us) H R
