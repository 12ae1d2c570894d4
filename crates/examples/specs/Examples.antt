-- The starred examples 1 to 9 of document 01, proved of the definitions as one list under one statement.
-- Assumes nothing.
use Rattle.std.specs.Prelude.{ℕ, ◌-◌, ◌≡◌, refl, List, [], ◌∷◌, map, eqb, length, take, drop, get_or, Option, None, Some}
use Prim.Native.String.{String}
use Rattle.std.specs.Float.Ieee.{size}
use Rattle.common.specs.Pick.{pick}
use Rattle.error.specs.Refusal.{refusal, Told, good, bad}
use Rattle.common.specs.Walk.{walk}
use Rattle.lex.specs.Search.{trivia, record_end, closing}
use Rattle.common.specs.Bytes.{bytes}
use Rattle.record.specs.Text.{past, number_from, keyword, trail}
use Rattle.record.specs.Word.{word_of}
use Rattle.record.specs.Head.{data_head, header_head}
use Rattle.statement.specs.Rows.{Row, mapped}
use Rattle.statement.specs.Row.{record_of, header_of}
use Rattle.statement.specs.Statement.{statement}
use Rattle.scan.specs.Records.{Table, largest}
use Rattle.scan.specs.File.{read_from, scan_of}
use Rattle.nearest.specs.Near.{near, near_units}
use Rattle.reals.specs.Scalar.{parse_of, real_of}
use Rattle.reals.specs.Answer.{Answer, read, refused}
use Rattle.index.specs.Lookup.{written_map, lookup_of}
use Rattle.utf8.specs.Utf8.{encode, lead_of}
use Rattle.utf8.specs.Encoding.{encode_all}
use Rattle.pages.specs.Tables.{latin1, pages, page_entry}
use Rattle.strings.specs.Text.{group_two, group_four, groups_from, directive_of, piece_of, page_after, text_from, text_on, text_of, bytes_of}

-- a line of the program `list`: id, keyword or `(complex)`, argument start and end
pub record ListedLine : Type 0 where
  pub id : ℕ
  pub keyword : List ℕ
  pub arg_start : ℕ
  pub arg_end : ℕ

-- a line of the program `list` from its parts, the keyword as text
abbrev pub listed_line : ℕ → String → ℕ → ℕ → ListedLine
listed_line i k a e = record { id = i; keyword = bytes k; arg_start = a; arg_end = e }

-- what the program `list` prints: `records N max M`, and a line for each record
pub record Listing : Type 0 where
  pub records : ℕ
  pub max : ℕ
  pub lines : List ListedLine

-- what the program `list` prints, from its parts
abbrev pub listing : ℕ → ℕ → List ListedLine → Listing
listing n m ls = record { records = n; max = m; lines = ls }

-- the line of a row in the file s
abbrev pub line_of : List ℕ → Row → ListedLine
line_of s w = record {
  id = w.id;
  keyword = pick (eqb w.complex 1) (bytes "(complex)") (take (w.key_end - w.key_start) (drop w.key_start s));
  arg_start = w.arg_start;
  arg_end = w.arg_end;
}

-- the listing of the file s with these rows
abbrev pub listing_of : List ℕ → Table → Listing
listing_of s t = listing (length t.records) (largest t.records) (map (line_of s) t.records)

-- the line of the record that is served, where the lookup gives its number
abbrev pub line_at : List ListedLine → Option ℕ → Option ListedLine
line_at ls None = None
line_at ls (Some r) = Some (get_or ls r (listed_line 0 "" 0 0))

-- "Lookup of an id answers like a map written to in file order": the line of the record that is served for k
abbrev pub served_line : List ℕ → ℕ → Table → Option ListedLine
served_line s k t = line_at (map (line_of s) t.records) (lookup_of (λ r. get_or (map (λ (w : Row). w.id) t.records) r 0) (length t.records) k)

-- an input and what is owed for it: a file with its listing or refusal, a file and an id with the record that is served, a string with its text in UTF-8, or a real with its f64's
-- bits or its refusal's number
pub data Example : Type 0 where
  file : String → Told Listing → Example
  lookup : String → ℕ → Told (Option ListedLine) → Example
  string : String → List ℕ → Example
  real : String → Answer ℕ → Example

-- examples 1 to 9, in document 01's order; 5 has two inputs, 7 three and 9 four
abbrev pub examples : List Example
examples =
    file "ISO-10303-21;HEADER;FILE_SCHEMA(('X'));ENDSEC;DATA;#1=A('a;''b',#2);#2=(P(1.)Q($));ENDSEC;END-ISO-10303-21;"
    (good (listing 2 2 (listed_line 1 "A" 56 66 ∷ listed_line 2 "(complex)" 72 81 ∷ [])))
    ∷ file "ISO-10303-21;/*/;" (bad (refusal 3 0 13))
    ∷ file "" (bad (refusal 1 0 0))
    ∷ file "ISO-10303-21;DATA;;" (bad (refusal 7 2 18))
    ∷ file "ISO-10303-21;DATA;#4294967295=A();" (good (listing 1 4294967295 (listed_line 4294967295 "A" 32 32 ∷ [])))
    ∷ file "ISO-10303-21;DATA;#4294967296=A();" (bad (refusal 7 3 18))
    ∷ lookup "ISO-10303-21;DATA;#1=A(1);#1=B(2);" 1 (good (Some (listed_line 1 "B" 31 32)))
    ∷ string "\\X2\\00C40042\\X0\\" (0xc3 ∷ 0x84 ∷ 0x42 ∷ [])
    ∷ string "\\S\\D" (0xc3 ∷ 0x84 ∷ [])
    ∷ string "\\X\\C4" (0xc3 ∷ 0x84 ∷ [])
    ∷ string "\\X2\\0041ZZZZ\\X0\\" (bytes "A\\X2\\0041ZZZZ\\X0\\")
    ∷ real "1E27" (read 0x4589_d971_e4fe_8402)
    ∷ real "1E28" (refused 13)
    ∷ real "1234567890123456789" (read 0x43b1_2210_f47d_e981)
    ∷ real "12345678901234567890" (refused 13)
    ∷ []

-- each example's answer is the definitions': a file's with room for two rows of each kind
abbrev pub Holds : List Example → Type 0
Holds [] = Unit {0}
Holds (file s a ∷ es) = (mapped (listing_of (bytes s)) (scan_of (bytes s) 2 2) ≡ a) × Holds es
Holds (lookup s k a ∷ es) = (mapped (served_line (bytes s) k) (scan_of (bytes s) 2 2) ≡ a) × Holds es
Holds (string s t ∷ es) = (bytes_of (bytes s) ≡ t) × Holds es
Holds (real s a ∷ es) = (real_of (bytes s) ≡ a) × Holds es

-- "Starred examples are proved of the definitions as one list under one statement"
pub examples_hold : Holds examples
unfolding walk trivia record_end closing past number_from keyword trail word_of data_head header_head record_of header_of statement largest read_from scan_of real_of parse_of near near_units size encode encode_all lead_of group_two group_four groups_from directive_of piece_of page_after text_from text_on text_of bytes_of latin1 pages page_entry written_map
examples_hold = (refl, (refl, (refl, (refl, (refl, (refl, (refl, (refl, (refl, (refl, (refl, (refl, (refl, (refl, (refl, tt)))))))))))))))
