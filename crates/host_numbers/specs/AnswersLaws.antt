-- What the code's answers leave as plain numbers: laws. Assumes nothing.
use Rattle.std.specs.Prelude.{ℕ, ◌≡◌, refl, Some, Float, Result, Ok, Err}
use Rattle.std.specs.Float.{binary64}
use Rattle.std.specs.Float.Ieee.{to_bits}
use Rattle.error.specs.Refusal.{Told, good, bad}
use Rattle.error.specs.declared.Fault.{Fault}
use Rattle.statement.specs.Rows.{mapped}
use Rattle.params.specs.Answer.{told_read, told_read_by}
use Rattle.params.specs.declared.State.{State}
use Rattle.host_numbers.specs.Answers.{LentByHost, HostReaderTold, read_code, read_fault, read_value, found_code, found_value}

-- an answer that is read has one number, also as one that is found
pub found_code_lem : {A : Type 0} (r : Told A) → read_code r ≡ found_code (mapped Some r)
found_code_lem (good a) = refl
found_code_lem (bad q) = refl

-- what an answer leaves in a lent value is the same where it is taken as one that may be none
pub found_value_lem : {A B : Type 0} (f : A → B) (r : Told A) (old : B) → read_value f r old ≡ found_value f (mapped Some r) old
found_value_lem f (good a) old = refl
found_value_lem f (bad q) old = refl

-- an answer that is read leaves one place of a refusal, also as one that is found
pub found_fault : {A : Type 0} (r : Told A) (old : ℕ) → read_fault r old ≡ read_fault (mapped Some r) old
found_fault (good a) old = refl
found_fault (bad q) old = refl

-- a reader's answer that is told by a function leaves the numbers that it leaves as it is
pub told_by_lem : {A B : Type 0} (f : A → B) (r : Result A Fault) (t : State) (n : ℕ) (place fault : LentByHost ℕ) → HostReaderTold (told_read r t) n place fault → HostReaderTold (told_read_by f r t) n place fault
told_by_lem f (Ok a) t n place fault h = h
told_by_lem f (Err g) t n place fault h = h

-- what an answer leaves in a lent float, by its bits, is what the answer by its bits leaves there
pub read_value_bits : (r : Told Float) (old : Float) → to_bits binary64 (read_value (λ x. x) r old) ≡ read_value (λ x. x) (mapped (to_bits binary64) r) (to_bits binary64 old)
read_value_bits (good a) old = refl
read_value_bits (bad q) old = refl
