-- Document 01, 'Refusal numbers': the number, reason and place of each refusal, and an answer that is a value or a refusal.
-- Assumes nothing.
-- Definitions to be believed: no law, and nothing computed that no theorem ties (docs/BELIEVE.md).
use Rattle.std.specs.Prelude.{ℕ, Result, Ok, Err}
use Rattle.error.specs.declared.Fault.{Fault}
use Rattle.error.specs.declared.Fault.TheVariants.{
  NoMarker,
  TooLong,
  OpenComment,
  OpenString,
  NoEnd,
  OpenParen,
  BadRecord,
  NoRow,
  OutOfFile,
  NoParameter,
  OpenLiteral,
  WrongType,
  OutsideClass,
  NoRecord,
  TooDeep,
  TooShort,
}
use Rattle.error.specs.declared.Reason.{Reason}
use Rattle.error.specs.declared.Reason.TheVariants.{NoHeaderParen, NoHash, LargeId, NoDigits, NoEqual, NoValue, NoParen}

-- "A refusal returns only its number, reason and place"
pub record Refusal : Type 0 where
  pub number : ℕ
  pub reason : ℕ
  pub place : ℕ

-- a refusal by its number, reason and place
abbrev pub refusal : ℕ → ℕ → ℕ → Refusal
refusal n r p = record { number = n; reason = r; place = p }

-- "Every input ends in an answer or in one numbered refusal with a place" (demand 1)
pub data Told (A : Type 0) : Type 0 where
  good : A → Told A
  bad : Refusal → Told A

-- "Reasons of 7, tested in this order", a line for each
abbrev pub told_reason : Reason → ℕ
told_reason NoHeaderParen = 1
told_reason NoHash = 2
told_reason LargeId = 3
told_reason NoDigits = 4
told_reason NoEqual = 5
told_reason NoValue = 6
told_reason NoParen = 7

-- the table of refusal numbers, a line for each; a reason is 0 except for number 7
abbrev pub told : Fault → Refusal
told NoMarker = refusal 1 0 0
told TooLong = refusal 2 0 0
told (OpenComment p) = refusal 3 0 p
told (OpenString p) = refusal 4 0 p
told (NoEnd p) = refusal 5 0 p
told (OpenParen p) = refusal 6 0 p
told (BadRecord r p) = refusal 7 r p
told (NoRow p) = refusal 8 0 p
told OutOfFile = refusal 9 0 0
told (NoParameter p) = refusal 10 0 p
told (OpenLiteral p) = refusal 11 0 p
told (WrongType p) = refusal 12 0 p
told (OutsideClass p) = refusal 13 0 p
told NoRecord = refusal 14 0 0
told (TooDeep p) = refusal 15 0 p
told (TooShort p) = refusal 16 0 p

-- what the code's answer says: its value, or the refusal that its fault tells
abbrev pub told_result : {A : Type 0} → Result A Fault → Told A
told_result (Ok a) = good a
told_result (Err f) = bad (told f)
