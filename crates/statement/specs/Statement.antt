-- Document 01, 'Reading the file': one statement of the file, from the rest xs on, in a section.
-- Assumes nothing.
use Rattle.std.specs.Prelude.{ℕ, List, [], ◌∷◌, drop}
use Rattle.error.specs.Refusal.{refusal, Told, good, bad}
use Rattle.lex.specs.Byte.{place}
use Rattle.lex.specs.Search.{trivia, record_end}
use Rattle.lex.specs.Answer.{Sought, at, fault}
use Rattle.record.specs.Text.{before}
use Rattle.record.specs.Word.{word_of}
use Rattle.record.specs.declared.Word.{Word}
use Rattle.record.specs.declared.Word.TheVariants.{Header, Data, EndSection, EndFile, Other}
use Rattle.statement.specs.Rows.{Row, HeaderRow, Stmt, reading_ends, statement_refused, section_now, header_statement, data_statement}
use Rattle.statement.specs.Row.{record_of, header_of}
use Rattle.statement.specs.declared.Section.{Section}
use Rattle.statement.specs.declared.Section.TheVariants.{Outside, InHeader, InData}

-- what a header record says: its row, or its refusal
abbrev pub header_stated : List ℕ → List ℕ → Told HeaderRow → Stmt
header_stated ys r (good w) = header_statement w ys r
header_stated ys r (bad q) = statement_refused q

-- what a data record says: its row, or its refusal
abbrev pub recorded : List ℕ → List ℕ → Told Row → Stmt
recorded ys r (good w) = data_statement w ys r
recorded ys r (bad q) = statement_refused q

-- a record that is no section word; "Records elsewhere are ignored."
abbrev pub in_section : List ℕ → List ℕ → List ℕ → Section → Stmt
in_section s ys e Outside = section_now Outside (drop 1 e)
in_section s ys e InHeader = header_stated ys (drop 1 e) (header_of s ys (before ys e))
in_section s ys e InData = recorded ys (drop 1 e) (record_of s ys (before ys e))

-- "`HEADER` opens the header; [..] opens data; `ENDSEC` leaves the section; `END-ISO-10303-21` ends the reading."
abbrev pub worded : List ℕ → List ℕ → List ℕ → Section → Word → Stmt
worded s ys e sec EndSection = section_now Outside (drop 1 e)
worded s ys e sec Header = section_now InHeader (drop 1 e)
worded s ys e sec Data = section_now InData (drop 1 e)
worded s ys e sec EndFile = reading_ends
worded s ys e sec Other = in_section s ys e sec

-- what a record that starts with ys says, by the search for its end: by the word that its text is, or a refusal
abbrev pub ended : List ℕ → List ℕ → Section → Sought → Stmt
ended s ys sec (fault n o) = statement_refused (refusal n 0 (place s o))
ended s ys sec (at e) = worded s ys e sec (word_of (before ys e))

-- "A record starts at the first non-trivia byte"; where there is none the file ends
abbrev pub begun : List ℕ → Section → List ℕ → Stmt
begun s sec [] = reading_ends
begun s sec (c ∷ r) = ended s (c ∷ r) sec (record_end (c ∷ r))

-- what a statement says, by the search past trivia: what follows them, or the comment that is open in them
abbrev pub after_trivia : List ℕ → Section → Sought → Stmt
after_trivia s sec (fault n o) = statement_refused (refusal n 0 (place s o))
after_trivia s sec (at ys) = begun s sec ys

-- one statement of the file s, from the rest xs on
unfoldable pub statement : List ℕ → Section → List ℕ → Stmt
statement s sec xs = after_trivia s sec (trivia xs)
