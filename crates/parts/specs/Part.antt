-- Document 01, 'Reading the file': "Complex parts: skip whitespace and commas; the next `(` byte before the arguments' end ends the
-- keyword (trailing whitespace dropped); its `)` ends the part; repeat." A part is a row like a header record's: keyword start and
-- end, argument start and end; the next part is sought after its `)`. Computed; Rules.antt has the same as rules.
-- Assumes nothing.
use Rattle.std.specs.Prelude.{ℕ, zero, suc, ◌+◌, ◌-◌, ◌≤◌, ◌<◌, Bool, List, [], ◌∷◌, ltb, eqb, length, take, drop, Option as Answer, Some, None, Result, Ok, Err}
use Rattle.std.proofs.Math.Option.{Option, none, some}
use Rattle.common.specs.Pick.{pick}
use Rattle.error.specs.Refusal.{refusal, Told, good, bad}
use Rattle.lex.specs.Byte.{place}
use Rattle.record.specs.Text.{past}
use Rattle.record.specs.Head.{header_head}
use Rattle.record.specs.declared.Named.{Named}
use Rattle.error.specs.declared.Reason.{Reason}
use Rattle.statement.specs.Rows.{HeaderRow, header_row, mapped}
use Rattle.statement.specs.Row.{argued}
use Rattle.statement.specs.declared.HeaderSpan.{HeaderSpan}
use Rattle.kinds.specs.declared.Kind.{Kind}
use Rattle.parts.specs.Rules.{separator, part_before, part_is_kind}

-- a part of the file s by the head of what follows the separators, which stands at the place a; where no `(` follows there is none
abbrev pub part_by : List ℕ → ℕ → Result Named Reason → Told (Option HeaderRow)
part_by s a (Err why) = good none
part_by s a (Ok n) = argued s (drop (a + n.opening) s) (λ q. some (header_row (a + n.start) (a + n.end) (a + n.opening + 1) q))

-- "skip whitespace and commas": m are the bytes of the file s from the place `from` up to the arguments' end
abbrev pub part_in : List ℕ → ℕ → List ℕ → Told (Option HeaderRow)
part_in s from m = part_by s (from + place m (past separator m)) (header_head (past separator m))

-- the next part of the file s from a place on, where the arguments end at `end`; "9 span outside the file"
unfoldable pub next_part_of : List ℕ → ℕ → ℕ → Told (Option HeaderRow)
next_part_of s from end = pick (ltb (length s) end) (bad (refusal 9 0 0)) (part_in s from (take (end - from) (drop from s)))

-- a part lies in a file of n bytes, not before the place `from`: keyword and arguments run forwards, its `(` stands between them
-- and its `)` behind them
pub record PartIn (n from : ℕ) (p : HeaderRow) : Type 0 where
  pub ahead : from ≤ p.key_start
  pub key : p.key_start ≤ p.key_end
  pub opens : p.key_end < p.arg_start
  pub args : p.arg_start ≤ p.arg_end
  pub closes : p.arg_end < n

-- the parts by the next one, and those after it; a fault refuses them all
abbrev pub parts_by : Told (Option HeaderRow) → (HeaderRow → Told (List HeaderRow)) → Told (List HeaderRow)
parts_by (bad q) k = bad q
parts_by (good none) k = good []
parts_by (good (some p)) k = part_before p (k p)

-- all parts from a place on, in at most n steps; the number 0, which no refusal has, where there are more
unfoldable pub parts_from : ℕ → List ℕ → ℕ → ℕ → Told (List HeaderRow)
parts_from zero s from end = bad (refusal 0 0 0)
parts_from (suc n) s from end = parts_by (next_part_of s from end) (λ p. parts_from n s (p.arg_end + 1) end)

-- all parts from a place on: there are no more than the file has bytes
abbrev pub parts_of : List ℕ → ℕ → ℕ → Told (List HeaderRow)
parts_of s from end = parts_from (suc (length s)) s from end

-- the first part of a kind, none where no part is of it
abbrev pub first_kind : List ℕ → Kind → List HeaderRow → Option HeaderRow
first_kind s k [] = none
first_kind s k (p ∷ ps) = pick (part_is_kind s k p) (some p) (first_kind s k ps)

-- `complex_part`: a record that is not complex has no parts; "9 span outside the file or backwards"; else all parts are read, and
-- the first of the kind is given
abbrev pub part_of : List ℕ → ℕ → ℕ → ℕ → Kind → Told (Option HeaderRow)
part_of s from end complex k =
    pick (eqb complex 1)
    (pick (ltb (length s) end) (bad (refusal 9 0 0)) (pick (ltb end from) (bad (refusal 9 0 0)) (mapped (first_kind s k) (parts_of s from end))))
    (good none)

-- the part that was found before, or this one where it is of the kind
abbrev pub first_of : Answer HeaderSpan → HeaderSpan → Bool → Answer HeaderSpan
first_of (Some q) p hit = Some q
first_of None p hit = pick hit (Some p) None
