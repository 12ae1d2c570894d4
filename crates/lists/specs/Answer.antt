-- Document 01, 'Parameters': what a list reads as, the next parameter read as one into lent room, and what the code's answers say. Assumes nothing.
-- Definitions to be believed: no law, and nothing computed that no theorem ties (docs/BELIEVE.md).
use Rattle.std.specs.Prelude.{ℕ, ◌+◌, ◌-◌, ◌≤◌, Bool, List, [], ◌∷◌, ◌++◌, Result, Ok, Err, leb, length, take, drop}
use Rattle.common.specs.Pick.{pick}
use Rattle.error.specs.Refusal.{refusal, Told, good, bad}
use Rattle.params.specs.Answer.{Read, onward, read_mapped}
use Rattle.params.specs.Reader.{param_of}
use Rattle.reals.specs.Scalar.{reference_of, whole_of}
use Rattle.reals.specs.Which.{real_by}
use Rattle.reals.specs.Answer.{Answer, read, refused}
use Rattle.scalars.specs.Answer.{number_of}
use Rattle.lists.specs.declared.BadItem.{BadItem}
use Rattle.lists.specs.declared.Kind.{Kind}
use Rattle.lists.specs.declared.Kind as KindCode

-- what a text reads as, or a refusal's number and how far into the text its place is
pub data Fate (A : Type 0) : Type 0 where
  fine : A → Fate A
  faulty : ℕ → ℕ → Fate A

-- what a text reads as, seen from k bytes further back: a refusal's place is k bytes further on
abbrev pub shifted : {A : Type 0} → ℕ → Fate A → Fate A
shifted k (fine a) = fine a
shifted k (faulty n o) = faulty n (k + o)

-- what f makes of what a text reads as; a refusal stays as it is
abbrev pub fated : {A B : Type 0} → (A → B) → Fate A → Fate B
fated h (fine a) = fine (h a)
fated h (faulty n o) = faulty n o

-- what a scalar reads as, as an item: its refusal is at its start
abbrev pub as_fate : {A : Type 0} → Answer A → Fate A
as_fate (read a) = fine a
as_fate (refused n) = faulty n 0

-- a value in front of the values that follow it; their refusal stays as it is
abbrev pub consed : {A : Type 0} → A → Fate (List A) → Fate (List A)
consed a (fine vs) = fine (a ∷ vs)
consed a (faulty n o) = faulty n o

-- "16 comes only if all read and either list is too short", at the parameter's start; other refusals at the item's start
abbrev pub roomed : {A : Type 0} → (A → Bool) → ℕ → Fate A → Told A
roomed fits a (fine v) = pick (fits v) (good v) (bad (refusal 16 0 a))
roomed fits a (faulty n o) = bad (refusal n 0 (a + o))

-- the next parameter of a reader, read by g into rooms that fit or not
unfoldable pub next_by : {A : Type 0} → (List ℕ → Fate A) → (A → Bool) → List ℕ → ℕ → ℕ → Read A
next_by g fits s p e = read_mapped (λ a. roomed fits a.start (g (take (a.stop - a.start) (drop a.start s)))) (param_of s p e)

-- a list fits where there is room for its numbers
abbrev pub fits_in : {A : Type 0} → ℕ → List A → Bool
fits_in room vs = leb (length vs) room

-- how many numbers a list has, or its refusal
abbrev pub count_of : {A : Type 0} → Told (List A) → Told ℕ
count_of a = onward (λ vs. good (length vs)) a

-- the answer of a reader of lists with the count for the list
abbrev pub how_many : {A : Type 0} → Read (List A) → Read ℕ
how_many a = read_mapped (λ vs. good (length vs)) a

-- "lent rows and output keep their bytes, as does all room beyond an answer": the lent list after an answer
abbrev pub written : {A : Type 0} → Told (List A) → List A → List A
written (good vs) out = vs ++ drop (length vs) out
written (bad q) out = out

-- what the code says of a text that is read item by item: its value, or why and where an item of it does not read
abbrev pub told_fate : {A : Type 0} → Result A BadItem → Fate A
told_fate (Ok a) = fine a
told_fate (Err b) = faulty (number_of b.why) b.place

-- the count of items, or the place of a bad one, that the code tells is at most n
abbrev pub CountedIn : ℕ → Result ℕ BadItem → Type 0
CountedIn n (Ok k) = k ≤ n
CountedIn n (Err b) = b.place ≤ n

-- whether a text reads
abbrev pub mute : {A : Type 0} → Fate A → Fate (Unit {0})
mute a = fated (λ x. tt) a

-- whether an item of a kind reads
abbrev pub kind_of : Kind → List ℕ → Fate (Unit {0})
kind_of KindCode.TheVariants.References t = mute (as_fate (reference_of t))
kind_of KindCode.TheVariants.Integers t = mute (as_fate (whole_of t))
kind_of (KindCode.TheVariants.Floats which) t = mute (as_fate (real_by which t))
kind_of KindCode.TheVariants.Any t = fine tt

-- the values of a list that reads
abbrev pub values_of : {A : Type 0} → Fate (List A) → List A
values_of (fine vs) = vs
values_of (faulty n o) = []

-- any text is an item
abbrev pub anything : List ℕ → Fate (Unit {0})
anything u = fine tt
