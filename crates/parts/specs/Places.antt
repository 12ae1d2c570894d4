-- "with a place from 0 to the input's length" (demand 1), for the parts of a complex record: what refuses them is 3, 4, 6 or 9, at a
-- place in the file, and a part lies in the file. Whatever the lent tables hold. Assumes nothing.
use Rattle.std.specs.Prelude.{ℕ, ◌+◌, ◌≤◌, ◌<◌, ◌≡◌, refl, Bool, true, false, List, [], ◌∷◌, ◌⊎◌, ltb, eqb, length}
use Rattle.std.proofs.Common.{sym, inl, inr, arith}
use Rattle.std.proofs.Math.Option.{Option, none, some}
use Rattle.std.proofs.Math.Decide.{dec_lt}
use Rattle.common.specs.Pick.{pick}
use Rattle.error.specs.Refusal.{Refusal, refusal, Told, good, bad}
use Rattle.statement.specs.Rows.{HeaderRow, mapped}
use Rattle.statement.specs.Form.{ArguedTo, Argued}
use Rattle.kinds.specs.declared.Kind.{Kind}
use Rattle.parts.specs.Part.{next_part_of, PartIn, parts_by, parts_from, parts_of, first_kind, part_of}
use Rattle.parts.specs.Rules.{NextPartForm, part_before, PartsForm, part_is_kind}
use Rattle.parts.specs.Laws.{next_in}
use Rattle.parts.specs.PartRight.{part_next_is, part_next_only, parts_are}

-- "3 comment open", "4 string open", "6 parenthesis open" or "9 span [..] outside the file or backwards", at a place in a file of n bytes
abbrev pub FaultIn : ℕ → Refusal → Type 0
FaultIn n q = ((q.number ≡ 3) ⊎ ((q.number ≡ 4) ⊎ ((q.number ≡ 6) ⊎ (q.number ≡ 9)))) × (q.place ≤ n)

-- an answer about a file of n bytes: a value of which F holds, or a refusal 3, 4, 6 or 9 at a place in the file
abbrev pub AnswerIn : {A : Type 0} → ℕ → (A → Type 0) → Told A → Type 0
AnswerIn n F (good a) = F a
AnswerIn n F (bad q) = FaultIn n q

-- a part, if there is one, lies in the file
abbrev pub SomeIn : ℕ → ℕ → Option HeaderRow → Type 0
SomeIn n from none = Unit {0}
SomeIn n from (some p) = PartIn n from p

-- parts lie in the file, each behind the `)` of the one before
abbrev pub AllIn : ℕ → ℕ → List HeaderRow → Type 0
AllIn n from [] = Unit {0}
AllIn n from (p ∷ ps) = PartIn n from p × AllIn n (p.arg_end + 1) ps

-- what refuses where a part's `)` is sought is 3, 4, 6 or 9 at a place in the file
argued_fault : {s t : List ℕ} {q : Refusal} → Argued s t (bad q) → FaultIn (length s) q
argued_fault (ArguedTo.text_open e d o) = (inr (inl refl), omega arith)
argued_fault (ArguedTo.remark_open e d o) = (inl refl, omega arith)
argued_fault (ArguedTo.unclosed e d) = (inr (inr (inl refl)), omega arith)

-- "9 span [..] outside the file or backwards, 0": a refusal at a place in any file
nine_in : (n : ℕ) → FaultIn n (refusal 9 0 0)
nine_in n = (inr (inr (inr refl)), omega arith)

-- what refuses the next part by the rules is 3, 4, 6 or 9 at a place in the file
next_fault : {s : List ℕ} {from end : ℕ} {q : Refusal} → NextPartForm s from end (bad q) → FaultIn (length s) q
next_fault {s} (NextPartForm.outside h) = nine_in (length s)
next_fault (NextPartForm.refused m p g t) = argued_fault t

-- the next part lies in the file, behind where it is sought; or it is refused with 3, 4, 6 or 9 at a place in the file
pub part_next_placed : (s : List ℕ) (from end : ℕ) → AnswerIn (length s) (SomeIn (length s) from) (next_part_of s from end)
part_next_placed s from end = go (next_part_of s from end) refl (part_next_is s from end)
  where
    go : (x : Told (Option HeaderRow)) → next_part_of s from end ≡ x → NextPartForm s from end x → AnswerIn (length s) (SomeIn (length s) from) x
    go (good none) e f = tt
    go (good (some p)) e f = next_in s from end p e
    go (bad q) e f = next_fault f

-- where parts lie in the file, they do with one more in front that lies there before them
add_in : (n from : ℕ) (p : HeaderRow) (x : Told (List HeaderRow)) → PartIn n from p → AnswerIn n (AllIn n (p.arg_end + 1)) x → AnswerIn n (AllIn n from) (part_before p x)
add_in n from p (good ps) h k = (h, k)
add_in n from p (bad q) h k = k

-- all parts by the rules lie in the file; or they are refused with 3, 4, 6 or 9 at a place in the file
parts_in : {s : List ℕ} {end from : ℕ} {a : Told (List HeaderRow)} → PartsForm s end from a → AnswerIn (length s) (AllIn (length s) from) a
parts_in (PartsForm.over f) = tt
parts_in (PartsForm.fault f) = next_fault f
parts_in {s} {end} {from} (PartsForm.more {p = p} {a = a} f g) = add_in (length s) from p a (next_in s from end p (sym (part_next_only f))) (parts_in {from = p.arg_end + 1} g)

-- all parts that are computed lie in the file; or they are refused with 3, 4, 6 or 9 at a place in the file
pub parts_placed : (s : List ℕ) (from end : ℕ) → AnswerIn (length s) (AllIn (length s) from) (parts_of s from end)
unfolding parts_from
parts_placed s from end = by (dec_lt (length s) from)
  where
    go : length s < from → (x : Told (Option HeaderRow)) → AnswerIn (length s) (SomeIn (length s) from) x → AnswerIn (length s) (AllIn (length s) from) (parts_by x (λ p. parts_from (length s) s (p.arg_end + 1) end))
    go l (good none) h = tt
    go l (good (some p)) h = absurd (omega (arith, h.ahead, h.key, h.opens, h.args, h.closes))
    go l (bad q) h = h

    by : Dec (length s < from) → AnswerIn (length s) (AllIn (length s) from) (parts_of s from end)
    by (yes l) = go l (next_part_of s from end) (part_next_placed s from end)
    by (no l) = parts_in (parts_are s from end (omega arith))

-- a part that lies behind a place lies behind every earlier one
in_less : (n a b : ℕ) (p : HeaderRow) → a ≤ b → PartIn n b p → PartIn n a p
in_less n a b p l h = record { ahead = omega (arith, h.ahead); key = h.key; opens = h.opens; args = h.args; closes = h.closes }

-- the first part of a kind lies in the file, where all parts do
first_in : (s : List ℕ) (k : Kind) (n from : ℕ) (ps : List HeaderRow) → AllIn n from ps → SomeIn n from (first_kind s k ps)
first_in s k n from [] h = tt
first_in s k n from (p ∷ ps) h = go (part_is_kind s k p) (first_kind s k ps) (first_in s k n (p.arg_end + 1) ps h.1)
  where
    go : (t : Bool) (o : Option HeaderRow) → SomeIn n (p.arg_end + 1) o → SomeIn n from (pick t (some p) o)
    go true o k = h.0
    go false none k = tt
    go false (some q) k = let f = h.0 in in_less n from (p.arg_end + 1) q (omega (arith, f.ahead, f.key, f.opens, f.args)) k

-- what `complex_part` answers lies in the file, or is refused with 3, 4, 6 or 9 at a place in the file
pub complex_placed : (s : List ℕ) (from end c : ℕ) (k : Kind) → AnswerIn (length s) (SomeIn (length s) from) (part_of s from end c k)
complex_placed s from end c k = by_mark (eqb c 1) (ltb (length s) end) (ltb end from)
  where
    by_parts : (x : Told (List HeaderRow)) → AnswerIn (length s) (AllIn (length s) from) x → AnswerIn (length s) (SomeIn (length s) from) (mapped (first_kind s k) x)
    by_parts (good ps) h = first_in s k (length s) from ps h
    by_parts (bad q) h = h

    by_mark : (m o b : Bool) → AnswerIn (length s) (SomeIn (length s) from) (pick m (pick o (bad (refusal 9 0 0)) (pick b (bad (refusal 9 0 0)) (mapped (first_kind s k) (parts_of s from end)))) (good none))
    by_mark false o b = tt
    by_mark true true b = nine_in (length s)
    by_mark true false true = nine_in (length s)
    by_mark true false false = by_parts (parts_of s from end) (parts_placed s from end)
