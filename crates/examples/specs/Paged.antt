-- Document 02, #109: strings and their characters, most with a page named, computed by the definitions; a line for each sentence of the request
-- and for each open point that the team had to decide. Assumes nothing.
use Rattle.std.specs.Prelude.{ℕ, ◌≡◌, refl, List, [], ◌∷◌, ◌++◌}
use Prim.Native.String.{String}
use Rattle.common.specs.Bytes.{bytes}
use Rattle.utf8.specs.Utf8.{encode, lead_of}
use Rattle.utf8.specs.Encoding.{encode_all}
use Rattle.pages.specs.Tables.{latin1, latin2, latin3, latin4, cyrillic, arabic, greek, hebrew, latin5, pages, page_entry}
use Rattle.strings.specs.Text.{group_two, group_four, groups_from, directive_of, piece_of, page_after, text_from, text_on, text_of, bytes_of}

-- a string's bytes, and its characters
pub record Paged : Type 0 where
  pub string : List ℕ
  pub text : List ℕ

-- a string and its characters, the string as text
abbrev pub paged : String → List ℕ → Paged
paged s cs = record { string = bytes s; text = cs }

-- the list of strings and their characters, most with a page named
abbrev pub paged_strings : List Paged
paged_strings =
    -- "Greek and Cyrillic part names": an alpha of ISO 8859-7, an a of ISO 8859-5
    paged "\\PG\\\\S\\a" (0x03B1 ∷ [])
    ∷ paged "\\PE\\\\S\\P" (0x0430 ∷ [])
    -- "apply the page to every later `\S\` in that string"
    ∷ paged "\\S\\P\\PE\\\\S\\P-\\S\\Q" (0xD0 ∷ 0x0430 ∷ 0x2D ∷ 0x0431 ∷ [])
    -- "a fresh string, means page A"
    ∷ paged "\\S\\P" (0xD0 ∷ [])
    -- "letters in either case"
    ∷ paged "\\Pe\\\\S\\P" (0x0430 ∷ [])
    -- "any other byte [..] means page A": a letter after I, a figure, a backslash
    ∷ paged "\\PE\\\\PJ\\\\S\\P" (0xD0 ∷ [])
    ∷ paged "\\PE\\\\P5\\\\S\\P" (0xD0 ∷ [])
    ∷ paged "\\PE\\\\P\\\\\\S\\P" (0xD0 ∷ [])
    -- "Page letters A to I select ISO 8859-1 to 8859-9": the code FE, at which no two of them agree
    ∷ paged "\\PA\\\\S\\~\\PB\\\\S\\~\\PC\\\\S\\~\\PD\\\\S\\~\\PE\\\\S\\~\\PF\\\\S\\~\\PG\\\\S\\~\\PH\\\\S\\~\\PI\\\\S\\~" (0xFE ∷ 0x0163 ∷ 0x015D ∷ 0x016B ∷ 0x045E ∷ 0xFFFD ∷ 0x03CE ∷ 0x200F ∷ 0x015F ∷ [])
    -- "undefined codes giving U+FFFD"
    ∷ paged "\\PC\\\\S\\%\\PH\\\\S\\P" (0xFFFD ∷ 0xFFFD ∷ [])
    -- today's mapping files of ISO 8859-7 and 8859-8
    ∷ paged "\\PG\\\\S\\$\\S\\%\\S\\*\\PH\\\\S\\}\\S\\~" (0x20AC ∷ 0x20AF ∷ 0x037A ∷ 0x200E ∷ 0x200F ∷ [])
    -- "sums outside A0 to FF stay as before": bytes below 20 and from 80 up
    ∷ record { string = bytes "\\PE\\\\S\\" ++ 0x1F ∷ bytes "\\S\\" ++ 0x80 ∷ []; text = 0x9F ∷ 0x0100 ∷ [] }
    -- the sum FF is inside A0 to FF
    ∷ record { string = bytes "\\PE\\\\S\\" ++ 0x7F ∷ []; text = 0x045F ∷ [] }
    -- a page changes nothing but `\S\`
    ∷ paged "\\PE\\P''\\X\\D0\\X2\\00D0\\X0\\\\\\" (0x50 ∷ 0x27 ∷ 0xD0 ∷ 0xD0 ∷ 0x5C ∷ [])
    -- a bad group leaves the page as it is, and what is read again after it is read as ever, a page among it
    ∷ paged "\\PE\\\\X2\\ZZZZ \\S\\P" (0x5C ∷ 0x58 ∷ 0x32 ∷ 0x5C ∷ 0x5A ∷ 0x5A ∷ 0x5A ∷ 0x5A ∷ 0x20 ∷ 0x0430 ∷ [])
    ∷ paged "\\X2\\PE\\0\\S\\P" (0x5C ∷ 0x58 ∷ 0x32 ∷ 0x30 ∷ 0x0430 ∷ [])
    ∷ []

-- each string of a list has the characters that stand beside it, by the definitions
abbrev pub PagedHold : List Paged → Type 0
PagedHold [] = Unit {0}
PagedHold (p ∷ ps) = (text_of p.string ≡ p.text) × PagedHold ps

-- each string of the list `paged_strings` has its characters
pub paged_hold : PagedHold paged_strings
unfolding latin1 latin2 latin3 latin4 cyrillic arabic greek hebrew latin5 pages page_entry lead_of group_two group_four groups_from directive_of piece_of page_after text_from text_on text_of
paged_hold = (refl, (refl, (refl, (refl, (refl, (refl, (refl, (refl, (refl, (refl, (refl, (refl, (refl, (refl, (refl, (refl, tt))))))))))))))))

-- the bytes of an alpha in UTF-8: a text is its characters' encoding
pub alpha_bytes : bytes_of (bytes "\\PG\\\\S\\a") ≡ 0xCE ∷ 0xB1 ∷ []
unfolding greek pages page_entry lead_of group_two group_four groups_from directive_of piece_of page_after text_from text_on text_of bytes_of encode encode_all
alpha_bytes = refl
