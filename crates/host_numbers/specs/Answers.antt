-- Answers as plain numbers, for a host in another language: one number is the answer, and what goes with it stands in lent numbers.
-- Assumes nothing.
-- Definitions to be believed: no law, and nothing computed that no theorem ties (docs/BELIEVE.md).
use Rattle.std.specs.Prelude.{ℕ, ◌≡◌, Bool, true, false, List, map, Float, Option, Some, None}
use Rattle.std.specs.Float.{binary64}
use Rattle.std.specs.Float.Ieee.{to_bits}
use Rattle.std.specs.Borrow.{MutBor}
use denote.Triple.Both.{Both}
use Rattle.error.specs.Refusal.{Told, good, bad}
use Rattle.params.specs.Answer.{Read}
use Rattle.lists.specs.Answer.{written}
use Rattle.words.specs.declared.Text.{Text}
use Rattle.words.specs.declared.Text.TheVariants.{InFile, InRoom}

-- what a host lends, when a function is called and when it answers
abbrev pub LentByHost : Type 0 → Type 0
LentByHost A = Both (MutBor A) (MutBor A)

-- an answer as a number: 0, or the number of the refusal
abbrev pub read_code : {A : Type 0} → Told A → ℕ
read_code (good a) = 0
read_code (bad q) = q.number

-- what a lent place then is: the place of a refusal, or what stood there
abbrev pub read_fault : {A : Type 0} → Told A → ℕ → ℕ
read_fault (good a) old = old
read_fault (bad q) old = q.place

-- what f makes of an answer that is read, or, where it is refused, what stood there
abbrev pub read_value : {A B : Type 0} → (A → B) → Told A → B → B
read_value f (good a) old = f a
read_value f (bad q) old = old

-- what a function answers, told r, and what it then leaves in `fault`
abbrev pub HostTold : {A : Type 0} → Told A → ℕ → LentByHost ℕ → Type 0
HostTold r n fault = (n ≡ read_code r) × (fault.exit.now ≡ read_fault r fault.entry.now)

-- what a reader of arguments answers, told r, and what it then leaves in `fault` and as its place
abbrev pub HostReaderTold : {A : Type 0} → Read A → ℕ → LentByHost ℕ → LentByHost ℕ → Type 0
HostReaderTold r n place fault = HostTold r.answer n fault × (place.exit.now ≡ r.place)

-- what a lent value then is: what f makes of the answer, or what it was
abbrev pub Puts : {A B : Type 0} → (A → B) → Told A → LentByHost B → Type 0
Puts f r v = v.exit.now ≡ read_value f r v.entry.now

-- what a lent float then is, by its bits: what f makes of the answer, or what it was
abbrev pub PutsReal : {A : Type 0} → (A → ℕ) → Told A → LentByHost Float → Type 0
PutsReal f r v = to_bits binary64 v.exit.now ≡ read_value f r (to_bits binary64 v.entry.now)

-- what a lent list then is: the answer's numbers at its start, or what it was
abbrev pub PutsList : {A : Type 0} → Told (List A) → LentByHost (List A) → Type 0
PutsList r out = out.exit.now ≡ written r out.entry.now

-- what a lent list of floats then is, by their bits: the answer's numbers at its start, or what it was
abbrev pub PutsReals : Told (List ℕ) → LentByHost (List Float) → Type 0
PutsReals r out = map (to_bits binary64) out.exit.now ≡ written r (map (to_bits binary64) out.entry.now)

-- an answer that may be none as a number: 255 where there is none; 0, or the number of the refusal
abbrev pub found_code : {A : Type 0} → Told (Option A) → ℕ
found_code (good None) = 255
found_code (good (Some a)) = 0
found_code (bad q) = q.number

-- what f makes of an answer that is found, or, where there is none or it is refused, what stood there
abbrev pub found_value : {A B : Type 0} → (A → B) → Told (Option A) → B → B
found_value f (good None) old = old
found_value f (good (Some a)) old = f a
found_value f (bad q) old = old

-- what a lent value then is: what f makes of what is found, or what it was
abbrev pub PutsFound : {A B : Type 0} → (A → B) → Told (Option A) → LentByHost B → Type 0
PutsFound f r v = v.exit.now ≡ found_value f r v.entry.now

-- what a lent float then is, by its bits: what f makes of what is found, or what it was
abbrev pub PutsFoundReal : {A : Type 0} → (A → ℕ) → Told (Option A) → LentByHost Float → Type 0
PutsFoundReal f r v = to_bits binary64 v.exit.now ≡ found_value f r (to_bits binary64 v.entry.now)

-- a truth as a number: 1 or 0
abbrev pub truth_number : Bool → ℕ
truth_number true = 1
truth_number false = 0

-- where a text is: 0 for the file, 1 for the lent room
abbrev pub shown_room : Text → ℕ
shown_room (InFile a) = 0
shown_room (InRoom n) = 1

-- where a text begins, in the file or in the lent room
abbrev pub shown_start : Text → ℕ
shown_start (InFile a) = a.start
shown_start (InRoom n) = 0

-- where a text ends, in the file or in the lent room
abbrev pub shown_stop : Text → ℕ
shown_stop (InFile a) = a.stop
shown_stop (InRoom n) = n
