-- Document 01, 'Parameters' and 'Refusal numbers': the shape of the argument reader's answers, and what the code's own say. Assumes nothing.
-- Definitions to be believed: no law, and nothing computed that no theorem ties (docs/BELIEVE.md).
use Rattle.std.specs.Prelude.{ℕ, ◌≤◌, List, Bool, ◌&&◌, Result, Ok, Err, leb, length, drop}
use Rattle.common.specs.Pick.{pick}
use Rattle.error.specs.Refusal.{refusal, Told, good, bad, told, told_result}
use Rattle.error.specs.declared.Fault.{Fault}
use Rattle.params.specs.declared.State.{State}
use Rattle.params.specs.declared.Span as Code
use Rattle.params.specs.declared.Cut.{Cut}

-- where a parameter stops, trailing trivia dropped, and where its comma or the end is; or an open literal's quote
pub data ParamEnd : Type 0 where
  stops_before : List ℕ → List ℕ → ParamEnd
  literal_open : List ℕ → ParamEnd

-- a value or a refusal, and where the reader then stands
pub record Read (A : Type 0) : Type 0 where
  pub answer : Told A
  pub place : ℕ
  pub end : ℕ

-- a reader's answer from its value or refusal, and the place and end where the reader then stands
abbrev pub reading : {A : Type 0} → Told A → ℕ → ℕ → Read A
reading a p e = record { answer = a; place = p; end = e }

-- a parameter in the file, from start up to stop
abbrev pub Span : Type 0
Span = Code.Span

-- a parameter in the file from its start and its stop
abbrev pub span : ℕ → ℕ → Span
span a z = record { start = a; stop = z }

-- "span [..] outside the file or backwards" is 9: a file of n bytes has this place and end
abbrev pub reader_in_file : ℕ → ℕ → ℕ → Bool
reader_in_file n p e = leb p e && leb e n

-- an answer for a place and an end in the file s; for others 9 at 0, and the reader stays as it came
abbrev pub if_in_file : {A : Type 0} → List ℕ → ℕ → ℕ → Read A → Read A
if_in_file s p e a = pick (reader_in_file (length s) p e) a (reading (bad (refusal 9 0 0)) p e)

-- what the code's answer says: its value or the refusal that its fault tells, and where the reader t then stands
abbrev pub told_read : {A : Type 0} → Result A Fault → State → Read A
told_read r t = reading (told_result r) t.place t.end

-- what the code's answer says, its value told by f: that or the refusal that its fault tells, and where the reader t then stands
abbrev pub told_read_by : {A B : Type 0} → (A → B) → Result A Fault → State → Read B
told_read_by f (Ok a) t = reading (good (f a)) t.place t.end
told_read_by f (Err g) t = reading (bad (told g)) t.place t.end

-- a parameter that is cut lies in the file of n bytes
abbrev pub NextParamIn : ℕ → Result Span Fault → Type 0
NextParamIn n (Ok a) = (a.start ≤ a.stop) × (a.stop ≤ n)
NextParamIn n (Err f) = Unit {0}

-- a reader of the file s at this place and end; 9 where they are outside the file or backwards
abbrev pub opened_of : List ℕ → ℕ → ℕ → Told State
opened_of s p e = pick (reader_in_file (length s) p e) (good (record { place = p; end = e })) (bad (refusal 9 0 0))

-- an answer read on, where it is no refusal
abbrev pub onward : {A B : Type 0} → (A → Told B) → Told A → Told B
onward f (good a) = f a
onward f (bad q) = bad q

-- a reader's answer, read on where it is no refusal; the reader stays where it stands
abbrev pub read_mapped : {A B : Type 0} → (A → Told B) → Read A → Read B
read_mapped f a = reading (onward f a.answer) a.place a.end

-- what the code's answer says of a parameter's end in the bytes xs: where it stops and is bounded, or an open literal's quote
abbrev pub ended_at : List ℕ → Result Cut ℕ → ParamEnd
ended_at xs (Ok c) = stops_before (drop c.stop xs) (drop c.bound xs)
ended_at xs (Err q) = literal_open (drop q xs)

-- the places of a parameter's end lie from the parameter's start, in order, to n
abbrev pub EndedIn : ℕ → ℕ → Result Cut ℕ → Type 0
EndedIn start n (Ok c) = (start ≤ c.stop) × (c.stop ≤ c.bound) × (c.bound ≤ n)
EndedIn start n (Err q) = (start ≤ q) × (q ≤ n)
