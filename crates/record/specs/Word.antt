-- Document 01, 'Reading the file': the section words.
-- Assumes nothing.
use Rattle.std.specs.Prelude.{ℕ, Bool, false, ◌&&◌, ◌||◌, List, [], ◌∷◌, map, eqb, take, drop}
use Rattle.std.specs.Cmp.Lexicographic.{pointwise}
use Rattle.common.specs.Pick.{pick}
use Rattle.record.specs.Text.{before, past_gap, trail}
use Rattle.record.specs.declared.Word.{Word}
use Rattle.record.specs.declared.Word.TheVariants.{Header, Data, EndSection, EndFile, Other}
use Rattle.record.specs.Byte.{upper}

-- the test whether two lists have the same bytes, as `==` of the code makes it
abbrev pub same_bytes : List ℕ → List ℕ → Bool
same_bytes x y = pointwise eqb x y

-- "Trimmed of whitespace": what is left of a text
abbrev pub trimmed : List ℕ → List ℕ
trimmed xs = before (past_gap xs) (trail (past_gap xs))

-- the test whether the text t is the word w, letters in either case
abbrev pub is_word : List ℕ → List ℕ → Bool
is_word t w = same_bytes (map upper t) w

-- the test whether a list begins with a `(`
abbrev pub opens_paren : List ℕ → Bool
opens_paren [] = false
opens_paren (c ∷ r) = eqb c 40

-- the bytes of `ENDSEC`
abbrev pub endsec : List ℕ
endsec = 69 ∷ 78 ∷ 68 ∷ 83 ∷ 69 ∷ 67 ∷ []

-- the bytes of `HEADER`
abbrev pub header_word : List ℕ
header_word = 72 ∷ 69 ∷ 65 ∷ 68 ∷ 69 ∷ 82 ∷ []

-- the bytes of `DATA`
abbrev pub data_word : List ℕ
data_word = 68 ∷ 65 ∷ 84 ∷ 65 ∷ []

-- the bytes of `ISO-10303-21`
abbrev pub marker : List ℕ
marker = 73 ∷ 83 ∷ 79 ∷ 45 ∷ 49 ∷ 48 ∷ 51 ∷ 48 ∷ 51 ∷ 45 ∷ 50 ∷ 49 ∷ []

-- the bytes of `END-ISO-10303-21`
abbrev pub end_file : List ℕ
end_file = 69 ∷ 78 ∷ 68 ∷ 45 ∷ marker

-- "`DATA`, or `DATA`, whitespace or none, then `(`, opens data": the test of a trimmed text for it
abbrev pub opens_data : List ℕ → Bool
opens_data t = is_word t data_word || (is_word (take 4 t) data_word && opens_paren (past_gap (drop 4 t)))

-- "`HEADER` opens the header; [..] opens data; `ENDSEC` leaves the section; `END-ISO-10303-21` ends the reading"
abbrev pub word_in : List ℕ → Word
word_in t =
    pick (is_word t endsec) EndSection (pick (is_word t header_word) Header (pick (opens_data t) Data (pick (is_word t end_file) EndFile Other)))

-- the section word that a record's text is; `Other` where it is none
unfoldable pub word_of : List ℕ → Word
word_of body = word_in (trimmed body)
