-- The table of refusal numbers read the other way: a contract that fixes what is told fixes the case. Assumes nothing.
use Rattle.std.specs.Prelude.{ℕ, ◌≡◌, refl, List, [], ◌∷◌, eqb, Result, Ok, Err}
use Rattle.std.proofs.Common.{sym, ◌∙◌, ap}
use Rattle.common.specs.Pick.{pick}
use Rattle.error.specs.Refusal.{Refusal, Told, good, bad, told, told_reason, told_result}
use Rattle.error.specs.declared.Fault.{Fault}
use Rattle.error.specs.declared.Fault.TheVariants.{
  NoMarker,
  TooLong,
  OpenComment,
  OpenString,
  NoEnd,
  OpenParen,
  BadRecord,
  NoRow,
  OutOfFile,
  NoParameter,
  OpenLiteral,
  WrongType,
  OutsideClass,
  NoRecord,
  TooDeep,
  TooShort,
}
use Rattle.error.specs.declared.Reason.{Reason}
use Rattle.error.specs.declared.Reason.TheVariants.{NoHeaderParen, NoHash, LargeId, NoDigits, NoEqual, NoValue, NoParen}

-- a line of the table read the other way: a number, and the case that has it, by reason and place
pub record RefusalLine : Type 0 where
  pub number : ℕ
  pub case : ℕ → ℕ → Fault

-- a line of the table read the other way, from its number and its case
abbrev pub refusal_line : ℕ → (ℕ → ℕ → Fault) → RefusalLine
refusal_line n f = record { number = n; case = f }

-- the reason that has a number; the last where none has
unfoldable pub reason_of : ℕ → Reason
reason_of n = pick (eqb n 1) NoHeaderParen (pick (eqb n 2) NoHash (pick (eqb n 3) LargeId (pick (eqb n 4) NoDigits (pick (eqb n 5) NoEqual (pick (eqb n 6) NoValue NoParen)))))

-- what a reason tells gives back that reason
pub reason_of_told : (r : Reason) → reason_of (told_reason r) ≡ r
unfolding reason_of
reason_of_told NoHeaderParen = refl
reason_of_told NoHash = refl
reason_of_told LargeId = refl
reason_of_told NoDigits = refl
reason_of_told NoEqual = refl
reason_of_told NoValue = refl
reason_of_told NoParen = refl

-- the table read the other way, a line for each case, in any order: a new case is a new line and moves no other
abbrev pub lines : List RefusalLine
lines =
    refusal_line 1 (λ r p. NoMarker)
    ∷ refusal_line 2 (λ r p. TooLong)
    ∷ refusal_line 3 (λ r p. OpenComment p)
    ∷ refusal_line 4 (λ r p. OpenString p)
    ∷ refusal_line 5 (λ r p. NoEnd p)
    ∷ refusal_line 6 (λ r p. OpenParen p)
    ∷ refusal_line 7 (λ r p. BadRecord r p)
    ∷ refusal_line 8 (λ r p. NoRow p)
    ∷ refusal_line 9 (λ r p. OutOfFile)
    ∷ refusal_line 10 (λ r p. NoParameter p)
    ∷ refusal_line 11 (λ r p. OpenLiteral p)
    ∷ refusal_line 12 (λ r p. WrongType p)
    ∷ refusal_line 13 (λ r p. OutsideClass p)
    ∷ refusal_line 14 (λ r p. NoRecord)
    ∷ refusal_line 15 (λ r p. TooDeep p)
    ∷ refusal_line 16 (λ r p. TooShort p)
    ∷ []

-- the case of the first line that has this number; `NoMarker` where none has
unfoldable pub case_in : List RefusalLine → Refusal → Fault
case_in [] q = NoMarker
case_in (l ∷ ls) q = pick (eqb l.number q.number) (l.case q.reason q.place) (case_in ls q)

-- the case that has a number, reason and place
pub fault_of : Refusal → Fault
fault_of q = case_in lines q

-- what a case tells, read the other way in the table, gives back that case
pub fault_of_told : (f : Fault) → fault_of (told f) ≡ f
unfolding fault_of case_in
fault_of_told NoMarker = refl
fault_of_told TooLong = refl
fault_of_told (OpenComment p) = refl
fault_of_told (OpenString p) = refl
fault_of_told (NoEnd p) = refl
fault_of_told (OpenParen p) = refl
fault_of_told (BadRecord r p) = refl
fault_of_told (NoRow p) = refl
fault_of_told OutOfFile = refl
fault_of_told (NoParameter p) = refl
fault_of_told (OpenLiteral p) = refl
fault_of_told (WrongType p) = refl
fault_of_told (OutsideClass p) = refl
fault_of_told NoRecord = refl
fault_of_told (TooDeep p) = refl
fault_of_told (TooShort p) = refl

-- two cases with the same number, reason and place are the same case: a contract that fixes what is told fixes the case
pub told_only : (f g : Fault) → told f ≡ told g → f ≡ g
told_only f g e = sym (fault_of_told f) ∙ ap fault_of e ∙ fault_of_told g

-- the code's answer that tells this value or refusal
pub result_of : {A : Type 0} → Told A → Result A Fault
result_of (good a) = Ok a
result_of (bad q) = Err (fault_of q)

-- what an answer tells gives back that answer
pub result_of_told : {A : Type 0} (a : Result A Fault) → result_of (told_result a) ≡ a
unfolding result_of
result_of_told (Ok a) = refl
result_of_told (Err f) = ap Err (fault_of_told f)

-- "that two allowed answers coincide is proved": two answers that tell the same value or refusal are one
pub result_only : {A : Type 0} (a b : Result A Fault) → told_result a ≡ told_result b → a ≡ b
result_only a b e = sym (result_of_told a) ∙ ap result_of e ∙ result_of_told b
