-- Document 01, 'Reading the file': "Complex parts: skip whitespace and commas; the next `(` byte before the arguments' end ends the
-- keyword (trailing whitespace dropped); its `)` ends the part; repeat.", as rules that name no loop. A part is a row like a header record's.
-- PartRight.antt shows that Part.antt computes just this, and that there is no other answer. Assumes nothing.
-- Definitions to be believed: no law, and nothing computed that no theorem ties (docs/BELIEVE.md).
use Rattle.std.specs.Prelude.{ℕ, ◌+◌, ◌-◌, ◌≤◌, ◌<◌, ◌≡◌, Bool, true, false, ◌||◌, List, [], ◌∷◌, ◌++◌, eqb, length, take, drop, Option as Answer, Some, None, Result, Ok, Err}
use Rattle.std.proofs.Math.Option.{Option, none, some}
use Rattle.error.specs.Refusal.{Refusal, refusal, Told, good, bad, told}
use Rattle.lex.specs.Byte.{white}
use Rattle.record.specs.Form.{SkippedBytes, Free, Keyword}
use Rattle.statement.specs.Rows.{HeaderRow, header_row, header_row_of}
use Rattle.kinds.specs.Kind.{kind_of_keyword}
use Rattle.kinds.specs.Rules.{rank_of}
use Rattle.kinds.specs.declared.Kind.{Kind}
use Rattle.statement.specs.Form.{Argued}
use Rattle.error.specs.declared.Fault.{Fault}
use Rattle.statement.specs.declared.HeaderSpan.{HeaderSpan}

-- "whitespace and commas": what is skipped before a part
abbrev pub separator : ℕ → Bool
separator b = white b || eqb b 44

-- what the code's answer about a part says: the part, that there is none, or a refusal
abbrev pub told_next : Result (Answer HeaderSpan) Fault → Told (Option HeaderRow)
told_next (Ok (Some p)) = good (some (header_row_of p))
told_next (Ok None) = good none
told_next (Err f) = bad (told f)

-- the bytes m of the file s from the place `from` up to the place `end`
pub record BytesBetween (s : List ℕ) (from end : ℕ) (m : List ℕ) : Type 0 where
  pub front : List ℕ
  pub back : List ℕ
  pub shape : s ≡ front ++ (m ++ back)
  pub starts : length front ≡ from
  pub ends : length front + length m ≡ end

-- the next part from a place on, without a loop
pub data NextPartForm (s : List ℕ) (from end : ℕ) : Told (Option HeaderRow) → Type 0 where
  -- "9 span [..] outside the file"
  outside : length s < end → NextPartForm s from end (bad (refusal 9 0 0))
  -- nothing is left before the arguments' end
  done : end ≤ length s → end ≤ from → NextPartForm s from end (good none)
  -- "the next `(` byte before the arguments' end": there is none after the separators f
  over : {f v : List ℕ} → BytesBetween s from end (f ++ v) → SkippedBytes separator f v → Free 40 v → NextPartForm s from end (good none)
  -- after the separators f the keyword k, whitespace w and the next `(`, which r follows; "its `)` ends the part", sought through
  -- the whole file
  part : {f v k w r : List ℕ} {e : ℕ} (m : BytesBetween s from end (f ++ v)) → SkippedBytes separator f v → Keyword v k w r
      → Argued s (r ++ m.back) (good e)
      → NextPartForm s from end (good (some (header_row (from + length f) (from + length f + length k) (from + length f + length (k ++ w) + 1) e)))
  -- "Faults met on the way are given at once."
  refused : {f v k w r : List ℕ} {q : Refusal} (m : BytesBetween s from end (f ++ v)) → SkippedBytes separator f v → Keyword v k w r
      → Argued s (r ++ m.back) (bad q) → NextPartForm s from end (bad q)

-- "repeat": a part before the others
abbrev pub part_before : HeaderRow → Told (List HeaderRow) → Told (List HeaderRow)
part_before p (good ps) = good (p ∷ ps)
part_before p (bad q) = bad q

-- all parts from a place on, without a loop
pub data PartsForm (s : List ℕ) (end : ℕ) : ℕ → Told (List HeaderRow) → Type 0 where
  -- no part is left from the place on
  over : {from : ℕ} → NextPartForm s from end (good none) → PartsForm s end from (good [])
  -- the next part is refused, and so are all
  fault : {from : ℕ} {q : Refusal} → NextPartForm s from end (bad q) → PartsForm s end from (bad q)
  -- "its `)` ends the part; repeat"
  more : {from : ℕ} {p : HeaderRow} {a : Told (List HeaderRow)} → NextPartForm s from end (good (some p)) → PartsForm s end (p.arg_end + 1) a
      → PartsForm s end from (part_before p a)

-- a part of the file s is of a kind by its keyword
abbrev pub part_is_kind : List ℕ → Kind → HeaderRow → Bool
part_is_kind s k p = eqb (rank_of (kind_of_keyword (take (p.key_end - p.key_start) (drop p.key_start s)))) (rank_of k)

-- no part is of a kind, wherever the parts are cut around one
abbrev pub NoPart : List ℕ → Kind → List HeaderRow → Type 0
NoPart s k ps = (front back : List HeaderRow) (p : HeaderRow) → ps ≡ front ++ (p ∷ back) → part_is_kind s k p ≡ false

-- p is the first part of a kind: it stands among the parts, is of the kind, and no part before it is
pub record IsFirstPart (s : List ℕ) (k : Kind) (ps : List HeaderRow) (p : HeaderRow) : Type 0 where
  pub front : List HeaderRow
  pub back : List HeaderRow
  pub cut : ps ≡ front ++ (p ∷ back)
  pub kind : part_is_kind s k p ≡ true
  pub before : NoPart s k front

-- the first part of a kind, or that there is none
abbrev pub FirstPart : List ℕ → Kind → List HeaderRow → Option HeaderRow → Type 0
FirstPart s k ps none = NoPart s k ps
FirstPart s k ps (some p) = IsFirstPart s k ps p

-- `complex_part` without a loop, for a record whose mark is c
pub data ComplexPart (s : List ℕ) (from end c : ℕ) (k : Kind) : Told (Option HeaderRow) → Type 0 where
  -- a record that is not complex has no parts
  simple : (c ≡ 1 → ⊥) → ComplexPart s from end c k (good none)
  -- "9 span [..] outside the file"
  outside : c ≡ 1 → length s < end → ComplexPart s from end c k (bad (refusal 9 0 0))
  -- "or backwards": the arguments end before they start
  backwards : c ≡ 1 → end < from → ComplexPart s from end c k (bad (refusal 9 0 0))
  -- a fault in any of the parts, also in one behind the part sought
  fault : {q : Refusal} → c ≡ 1 → from ≤ end → end ≤ length s → PartsForm s end from (bad q) → ComplexPart s from end c k (bad q)
  -- all parts are read, and the first of the kind is given
  read : {ps : List HeaderRow} {o : Option HeaderRow} → c ≡ 1 → from ≤ end → end ≤ length s → PartsForm s end from (good ps) → FirstPart s k ps o
      → ComplexPart s from end c k (good o)
