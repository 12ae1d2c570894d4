-- Document 01, 'Reading the file' and the reasons of refusal 7: what stands before a record's arguments and which word a record
-- is, as rules that name no loop. A rule speaks of a list of bytes and of the parts it is put together from; the byte `#` is 35,
-- `(` is 40 and `=` is 61.
-- FormRight.antt shows that Text.antt, Head.antt and Word.antt compute just this, and that there is no other answer.
-- Assumes nothing.
-- Definitions to be believed: no law, and nothing computed that no theorem ties (docs/BELIEVE.md).
use Rattle.std.specs.Prelude.{ℕ, ◌+◌, ◌*◌, ◌-◌, ◌^◌, ◌≤◌, ◌<◌, ◌≡◌, Bool, true, false, not, List, [], ◌∷◌, ◌++◌, map, eqb, length, Result, Ok, Err}
use Prim.Native.String.{String}
use Rattle.common.specs.Bytes.{bytes}
use Rattle.lex.specs.Byte.{white}
use Rattle.lex.specs.Grammar.{Begins}
use Rattle.record.specs.Byte.{digit, upper}
use Rattle.record.specs.declared.Head.{Head}
use Rattle.record.specs.declared.Head.TheVariants.{Complex, Simple}
use Rattle.record.specs.declared.Named.{Named}
use Rattle.error.specs.declared.Reason.{Reason}
use Rattle.error.specs.declared.Reason.TheVariants as reason
use Rattle.record.specs.declared.Word.{Word}
use Rattle.record.specs.declared.Word.TheVariants.{Header, Data, EndSection, EndFile, Other}

-- all bytes of the list are of the kind p
abbrev pub All : (ℕ → Bool) → List ℕ → Type 0
All p [] = Unit {0}
All p (c ∷ f) = (p c ≡ true) × All p f

-- no byte of the list is c
abbrev pub Free : ℕ → List ℕ → Type 0
Free c f = All (λ d. not (eqb d c)) f

-- the first byte of the list, if it has one, is not of the kind p
abbrev pub NotFirst : (ℕ → Bool) → List ℕ → Type 0
NotFirst p xs = (c : ℕ) (r : List ℕ) → xs ≡ c ∷ r → p c ≡ false

-- the last byte of the list, if it has one, is not of the kind p
abbrev pub NotLast : (ℕ → Bool) → List ℕ → Type 0
NotLast p xs = (r : List ℕ) (c : ℕ) → xs ≡ r ++ (c ∷ []) → p c ≡ false

-- "digits": the bytes f of the kind p, as many as stand there before r
pub record SkippedBytes (p : ℕ → Bool) (f r : List ℕ) : Type 0 where
  pub all : All p f
  pub over : NotFirst p r

-- what may stand between tokens: whitespace
abbrev pub Gap : List ℕ → Type 0
Gap w = All white w

-- nothing that may stand between tokens begins the list
abbrev pub NoGapFirst : List ℕ → Type 0
NoGapFirst t = NotFirst white t

-- nothing that may stand between tokens ends the list
abbrev pub NoGapLast : List ℕ → Type 0
NoGapLast t = NotLast white t

-- f is a gap, and all of it: r, which follows, begins with no more
pub record Gapped (f r : List ℕ) : Type 0 where
  pub all : Gap f
  pub over : NoGapFirst r

-- "the first byte `(`": no `(` stands in the list
abbrev pub NoParen : List ℕ → Type 0
NoParen b = Free 40 b

-- "Trimmed of whitespace": t is what is left of xs
pub record Trimmed (xs t : List ℕ) : Type 0 where
  pub front : List ℕ
  pub back : List ℕ
  pub shape : xs ≡ front ++ (t ++ back)
  pub before : Gap front
  pub after : Gap back
  pub first : NoGapFirst t
  pub last : NoGapLast t

-- "letters in either case": t is the word w, which is written in capitals
abbrev pub Spelt : List ℕ → String → Type 0
Spelt t w = map upper t ≡ bytes w

-- "`HEADER` opens the header; `DATA`, or `DATA`, whitespace or none, then `(`, opens data; `ENDSEC` leaves the section;
-- `END-ISO-10303-21` ends the reading": what a trimmed text says
pub data Says : List ℕ → Word → Type 0 where
  headed : (t : List ℕ) → Spelt t "HEADER" → Says t Header
  data_alone : (t : List ℕ) → Spelt t "DATA" → Says t Data
  data_opened : (d w r : List ℕ) → Spelt d "DATA" → Gap w → Says (d ++ (w ++ (40 ∷ r))) Data
  left : (t : List ℕ) → Spelt t "ENDSEC" → Says t EndSection
  ended : (t : List ℕ) → Spelt t "END-ISO-10303-21" → Says t EndFile

-- the section word that a record's text is, or that it is none
pub data WordForm : List ℕ → Word → Type 0 where
  word : {b t : List ℕ} {w : Word} → Trimmed b t → Says t w → WordForm b w
  other : {b t : List ℕ} → Trimmed b t → ((w : Word) → Says t w → ⊥) → WordForm b Other

-- "a keyword and the first byte `(`", "trailing whitespace dropped": xs is the keyword k, whitespace w, the first `(` and r
pub record Keyword (xs k w r : List ℕ) : Type 0 where
  pub shape : xs ≡ k ++ (w ++ (40 ∷ r))
  pub first : NoParen k
  pub blank : Gap w
  pub ended : NoGapLast k

-- the head of a header record with this text; a place is the number of bytes before it
pub data HeaderForm : List ℕ → Result Named Reason → Type 0 where
  -- reason 1, "header record without `(`"
  unopened : (b : List ℕ) → NoParen b → HeaderForm b (Err reason.NoHeaderParen)
  -- a keyword, trimmed of whitespace as in a data record, and the first byte `(`
  named : {a v k w r : List ℕ} → Gapped a v → Keyword v k w r
      → HeaderForm (a ++ v) (Ok (record { start = length a; end = length (a ++ k); opening = length (a ++ (k ++ w)) }))

-- the number that decimal digits stand for: each counts ten times as much as the one after it
unfoldable pub value_of : List ℕ → ℕ
value_of [] = 0
value_of (d ∷ ds) = (d - 48) * 10 ^ length ds + value_of ds

-- "digits": at least one, and an id is not "above 4294967295"
pub record Id (ds : List ℕ) : Type 0 where
  pub all : All digit ds
  pub some : ds ≡ [] → ⊥
  pub within : value_of ds ≤ 4294967295

-- "Data: `#`, digits, whitespace, `=`, whitespace": the bytes so far, the id, and what follows them
pub data Lead : List ℕ → ℕ → List ℕ → Type 0 where
  lead : (ds w u v : List ℕ) → Id ds → Gap w → Gapped u v → Lead (35 ∷ (ds ++ (w ++ (61 ∷ u)))) (value_of ds) v

-- the head of a data record with this text
pub data HeadForm : List ℕ → Result Head Reason → Type 0 where
  -- reason 2, "no `#`"
  unmarked : (b : List ℕ) → (Begins 35 b → ⊥) → HeadForm b (Err reason.NoHash)
  -- reason 3, "id above 4294967295, as soon as a digit passes it"
  above : (ds r : List ℕ) → All digit ds → 4294967295 < value_of ds → HeadForm (35 ∷ (ds ++ r)) (Err reason.LargeId)
  -- reason 4, "no digits"
  numberless : (r : List ℕ) → NotFirst digit r → HeadForm (35 ∷ r) (Err reason.NoDigits)
  -- reason 5, "no `=`"
  unequal : (ds w r : List ℕ) → Id ds → NotFirst digit (w ++ r) → Gapped w r → (Begins 61 r → ⊥) → HeadForm (35 ∷ (ds ++ (w ++ r))) (Err reason.NoEqual)
  -- reason 6, "nothing after `=`"
  valueless : {a : List ℕ} {n : ℕ} → Lead a n [] → HeadForm a (Err reason.NoValue)
  -- reason 7, "no `(`"
  unopened : {a v : List ℕ} {n : ℕ} → Lead a n v → (v ≡ [] → ⊥) → NoParen v → HeadForm (a ++ v) (Err reason.NoParen)
  -- "then `(` for a complex record"
  complex : {a r : List ℕ} {n : ℕ} → Lead a n (40 ∷ r) → HeadForm (a ++ (40 ∷ r)) (Ok (Complex n (length a)))
  -- "else a keyword and the first byte `(` up to the record's end": the keyword's start and end, and the `(`
  simple : {a v k w r : List ℕ} {n : ℕ} → Lead a n v → (Begins 40 v → ⊥) → Keyword v k w r
      → HeadForm (a ++ v) (Ok (Simple n (length a) (length (a ++ k)) (length (a ++ (k ++ w)))))
