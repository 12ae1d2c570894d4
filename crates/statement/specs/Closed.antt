-- Document 01, 'Reading the file': "A file is closed when each header and data record's `(` lies outside strings and comments and
-- closes before that record's `;`, and each complex record's parts have their `(` outside both." The byte `(` is 40, `)` is 41 and
-- `;` is 59; a record's text is what stands from its start up to its `;`.
-- ClosedRight.antt shows that what a closed record says does not depend on what stands around it, and ClosedRight/Parts.antt that a
-- part's `)`, which is asked for here, is always there.
-- Assumes nothing.
-- Definitions to be believed: no law, and nothing computed that no theorem ties (docs/BELIEVE.md).
use Rattle.std.specs.Prelude.{ℕ, ◌≡◌, List, ◌∷◌, ◌++◌, length, Ok}
use Rattle.std.proofs.Math.Seq.{slice}
use Rattle.lex.specs.Grammar.{RecordRuns, Closes}
use Rattle.record.specs.Form.{Free}
use Rattle.record.specs.Head.{data_head, header_head}
use Rattle.record.specs.declared.Head.TheVariants.{Complex, Simple}
use Rattle.record.specs.declared.Named.{Named}
use Rattle.statement.specs.Rows.{Row, HeaderRow, reading_ends, section_now, header_statement, data_statement}
use Rattle.statement.specs.Statement.{statement}
use Rattle.statement.specs.declared.Section.{Section}
use Rattle.statement.specs.declared.Section.TheVariants.{Outside, InHeader, InData}

-- "outside strings and comments": t is what is left of the text b from a place on, and all strings and comments before it are whole
-- (no `;` stands outside them there, as in the text of every record)
abbrev pub OutsideBoth : List ℕ → List ℕ → Type 0
OutsideBoth b t = RecordRuns b t

-- "`(` lies outside strings and comments and closes before that record's `;`": in the record's text b the `(` stands at the place o,
-- its `)` follows in b itself, and args lies between the two
pub record ClosedAt (b : List ℕ) (o : ℕ) : Type 0 where
  pub front : List ℕ
  pub args : List ℕ
  pub back : List ℕ
  pub shape : b ≡ front ++ (40 ∷ (args ++ (41 ∷ back)))
  pub place : length front ≡ o
  pub outside : OutsideBoth b (40 ∷ (args ++ (41 ∷ back)))
  pub closes : Closes (args ++ (41 ∷ back)) back

-- "each complex record's parts have their `(` outside both", where "the next `(` byte before the arguments' end ends the keyword [..];
-- its `)` ends the part; repeat": a is the arguments' bytes, from their start or from after a part's `)`, which lies outside both
pub data ClosedParts : List ℕ → Type 0 where
  -- no `(` byte is left, so no part
  none : {a : List ℕ} → Free 40 a → ClosedParts a
  -- k stands before the next `(` byte (skipped bytes and the keyword), r follows it, and t follows its `)`
  part : {a : List ℕ} (k : List ℕ) {r t : List ℕ} → a ≡ k ++ (40 ∷ r) → Free 40 k → OutsideBoth a (40 ∷ r) → Closes r t → ClosedParts t
      → ClosedParts a

-- "each [..] data record's `(` [..], and each complex record's parts": a data record's text, by its head, which says where the `(` is
pub data ClosedData : List ℕ → Type 0 where
  simple : {b : List ℕ} {i a z o : ℕ} → data_head b ≡ Ok (Simple i a z o) → ClosedAt b o → ClosedData b
  complex : {b : List ℕ} {i o : ℕ} → data_head b ≡ Ok (Complex i o) → (c : ClosedAt b o) → ClosedParts c.args → ClosedData b

-- "each header [..] record's `(`": a header record's text
pub data ClosedHeader : List ℕ → Type 0 where
  named : {b : List ℕ} {n : Named} → header_head b ≡ Ok n → ClosedAt b n.opening → ClosedHeader b

-- "each header and data record": those that the file s is read to have, from the rest xs on in a section, up to the reading's end;
-- b is the record's text and r what follows its `;`. A file that is refused is none of these: demand 3 speaks of accepted files
pub data ClosedFrom (s : List ℕ) : Section → List ℕ → Type 0 where
  over : {sec : Section} {xs : List ℕ} → statement s sec xs ≡ reading_ends → ClosedFrom s sec xs
  turn : {sec to : Section} {xs r : List ℕ} → statement s sec xs ≡ section_now to r → ClosedFrom s to r → ClosedFrom s sec xs
  heading : {sec : Section} {xs b r : List ℕ} {w : HeaderRow}
      → statement s sec xs ≡ header_statement w (b ++ (59 ∷ r)) r → ClosedHeader b → ClosedFrom s InHeader r → ClosedFrom s sec xs
  entry : {sec : Section} {xs b r : List ℕ} {w : Row}
      → statement s sec xs ≡ data_statement w (b ++ (59 ∷ r)) r → ClosedData b → ClosedFrom s InData r → ClosedFrom s sec xs

-- "A file is closed": it is read from its first byte on, outside of every section
abbrev pub Closed : List ℕ → Type 0
Closed s = ClosedFrom s Outside s

-- what a data record says: its id, the bytes of its keyword and of its arguments, and whether it is complex
pub record Content : Type 0 where
  pub id : ℕ
  pub keyword : List ℕ
  pub args : List ℕ
  pub complex : ℕ

-- "each id then yields a record with the same keyword and argument bytes" (demand 3): what the row w says of the file s
abbrev pub content : List ℕ → Row → Content
content s w = record {
  id = w.id;
  keyword = slice w.key_start w.key_end s;
  args = slice w.arg_start w.arg_end s;
  complex = w.complex;
}

-- what a header record says: the bytes of its keyword and of its arguments
pub record HeaderContent : Type 0 where
  pub keyword : List ℕ
  pub args : List ℕ

-- what the header row w says of the file s
abbrev pub header_content : List ℕ → HeaderRow → HeaderContent
header_content s w = record { keyword = slice w.key_start w.key_end s; args = slice w.arg_start w.arg_end s }
