-- The first reals of a list, kept from the first pass: which lists are written from them, and that they are. Assumes nothing.
use Rattle.std.specs.Prelude.{ℕ, ◌≤◌, ◌≡◌, refl, List, [], ◌∷◌, ◌++◌, ℤ, Float, length, take, drop}
use Rattle.std.proofs.Common.{arith}
use Rattle.std.specs.Float.{binary64}
use Rattle.std.specs.Float.Ieee.{to_bits}
use Rattle.lists.specs.declared.Kind.{Kind}
use Rattle.lists.specs.declared.Kind.TheVariants.{References, Integers, Floats, Any}
use Rattle.lists.specs.Answer.{Fate, fine, faulty, values_of}
use Rattle.lists.specs.Items.{filled, Held}
use Rattle.lists.specs.Lent.{ItemValue, lent_of, kind_room}
use Rattle.lists.specs.Keep.{copy_held}

-- a list without items is written by leaving the lent numbers alone
none_filled : {A : Type 0} (vs out : List A) → length vs ≤ 0 → out ≡ filled vs out
none_filled [] out h = refl
none_filled (v ∷ vs) out h = absurd (omega arith)

-- a list stands whole in a list of no numbers: it is longer than that, or has no values
none_held : {A : Type 0} (x : Fate (List A)) → Held x []
none_held (fine []) h = refl
none_held (fine (v ∷ vs)) h = absurd (omega arith)
none_held (faulty n o) h = refl

-- no more than were kept, of a kind of which none are kept but reals, are no more than the reals
pub first_fits : (kind : Kind) (first refs wholes reals n : ℕ) → n ≤ kind_room kind 0 0 first → n ≤ kind_room kind refs wholes reals → (n ≤ first) × (n ≤ reals)
first_fits References first refs wholes reals n h k = (omega arith, omega arith)
first_fits Integers first refs wholes reals n h k = (omega arith, omega arith)
first_fits (Floats which) first refs wholes reals n h k = (h, k)
first_fits Any first refs wholes reals n h k = (omega arith, omega arith)

-- what stands whole in what was kept of a kind stands in the reals alone, or is nothing
pub first_held : (kind : Kind) (x : Fate (List (ItemValue kind))) (refs : List ℕ) (wholes : List ℤ) (first : List Float) → Held x (lent_of kind refs wholes first) → Held x (lent_of kind [] [] first)
first_held References x refs wholes first h = none_held x
first_held Integers x refs wholes first h = none_held x
first_held (Floats which) x refs wholes first h = h
first_held Any x refs wholes first h = h

-- a list that is written from there
pub first_laid : (kind : Kind) (x : Fate (List (ItemValue kind))) (refs : List ℕ) (wholes : List ℤ) (first reals reals' : List Float) (n : ℕ) → n ≡ length (values_of x) → n ≤ kind_room kind 0 0 (length first)
    → Held x (lent_of kind [] [] first) → reals' ≡ take n first ++ drop n reals → lent_of kind refs wholes reals' ≡ filled (values_of x) (lent_of kind refs wholes reals)
first_laid References x refs wholes first reals reals' n c h k e = none_filled (values_of x) refs (omega (arith, c, h))
first_laid Integers x refs wholes first reals reals' n c h k e = none_filled (values_of x) wholes (omega (arith, c, h))
first_laid (Floats which) x refs wholes first reals reals' n c h k e = copy_held (to_bits binary64) x first reals reals' n c h k e
first_laid Any x refs wholes first reals reals' n c h k e = none_filled (values_of x) [] (omega (arith, c, h))
