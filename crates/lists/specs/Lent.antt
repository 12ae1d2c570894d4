-- The lent numbers by the kind of item that is read into them, so that one loop serves all kinds. Assumes nothing.
use Rattle.std.specs.Prelude.{ℕ, ◌≡◌, refl, Bool, List, [], Result, Err, map, ℤ, Float, length, set}
use Rattle.std.proofs.Common.{sym, ◌∙◌, ap, subst, arith}
use Rattle.std.specs.Float.{binary64}
use Rattle.std.specs.Float.Ieee.{to_bits}
use Rattle.std.proofs.lemmas.List.{length-map}
use Rattle.reals.specs.Scalar.{reference_of, whole_of}
use Rattle.reals.specs.Which.{real_by}
use Rattle.lists.specs.declared.Kind.{Kind}
use Rattle.lists.specs.declared.Rooms.{Rooms}
use Rattle.lists.specs.declared.Kind.TheVariants.{References, Integers, Floats, Any}
use Rattle.reals.specs.declared.NotRead.{NotRead}
use Rattle.reals.specs.declared.NotRead.TheVariants.{Outside, NotReal}
use Rattle.reals.specs.Answer.{told_real}
use Rattle.scalars.specs.Answer.{number_of}
use Rattle.lists.specs.Answer.{Fate, fine, faulty, fated, as_fate, mute, kind_of, fits_in}
use Rattle.lists.specs.Items.{list_by, told_verdict}
use Rattle.lists.specs.ReadLaws.{count_mute}
use Rattle.lists.specs.Places.{Inward, scalar_inward}

-- what an item of a kind has for its value: a real has its bits
abbrev pub ItemValue : Kind → Type 0
ItemValue References = ℕ
ItemValue Integers = ℤ
ItemValue (Floats which) = ℕ
ItemValue Any = Unit {0}

-- what a text reads as an item of a kind
abbrev pub item_value : (kind : Kind) → List ℕ → Fate (ItemValue kind)
item_value References t = as_fate (reference_of t)
item_value Integers t = as_fate (whole_of t)
item_value (Floats which) t = as_fate (real_by which t)
item_value Any t = fine tt

-- the lent numbers of a kind, of all three that are lent; any items have none
abbrev pub lent_of : (kind : Kind) → List ℕ → List ℤ → List Float → List (ItemValue kind)
lent_of References refs wholes reals = refs
lent_of Integers refs wholes reals = wholes
lent_of (Floats which) refs wholes reals = map (to_bits binary64) reals
lent_of Any refs wholes reals = []

-- the lent numbers of a kind, of the rooms as they stand
abbrev pub lent_in : (kind : Kind) → Rooms → List (ItemValue kind)
lent_in kind r = lent_of kind r.refs.now r.wholes.now r.reals.now

-- the rooms are the same ones, as long as they were
abbrev pub SameRooms : Rooms → Rooms → Type 0
SameRooms r q =
    (q.refs.ghost_name ≡ r.refs.ghost_name) × (q.wholes.ghost_name ≡ r.wholes.ghost_name) × (q.reals.ghost_name ≡ r.reals.ghost_name)
    × (length q.refs.now ≡ length r.refs.now) × (length q.wholes.now ≡ length r.wholes.now) × (length q.reals.now ≡ length r.reals.now)

-- the rooms stay the same ones, one change after another
pub same_rooms : (r q s : Rooms) → SameRooms r q → SameRooms q s → SameRooms r s
same_rooms r q s (a, b, c, d, e, f) (u, v, w, x, y, z) = (u ∙ a, v ∙ b, w ∙ c, x ∙ d, y ∙ e, z ∙ f)

-- how many there are
abbrev pub kind_room : Kind → ℕ → ℕ → ℕ → ℕ
kind_room References refs wholes reals = refs
kind_room Integers refs wholes reals = wholes
kind_room (Floats which) refs wholes reals = reals
kind_room Any refs wholes reals = 0

-- a list fits into the lent numbers of its kind
abbrev pub fits_by : (kind : Kind) → List ℕ → List ℤ → List Float → List (ItemValue kind) → Bool
fits_by kind refs wholes reals vs = fits_in (kind_room kind (length refs) (length wholes) (length reals)) vs

-- a list fits into the lent numbers of its kind, of the rooms as they stand
abbrev pub fits_in_rooms : (kind : Kind) → Rooms → List (ItemValue kind) → Bool
fits_in_rooms kind r vs = fits_by kind r.refs.now r.wholes.now r.reals.now vs

-- a value that reads is put at its place, if there is such a place
abbrev pub kept_at : {A : Type 0} → ℕ → Fate A → List A → List A
kept_at n (fine v) l = set l n v
kept_at n (faulty k o) l = l

-- what the code tells of an item and puts at its place, from what it reads as by its kind
pub item_taken : (kind : Kind) (t : List ℕ) (n : ℕ) (r : Result (Unit {0}) NotRead) (refs refs' : List ℕ) (wholes wholes' : List ℤ) (reals reals' : List Float) (k : Kind) → kind ≡ k
    → (a : Fate (ItemValue k)) → a ≡ item_value k t → told_verdict r ≡ mute a → lent_of k refs' wholes' reals' ≡ kept_at n a (lent_of k refs wholes reals)
    → (told_verdict r ≡ mute (item_value kind t)) × (lent_of kind refs' wholes' reals' ≡ kept_at n (item_value kind t) (lent_of kind refs wholes reals))
item_taken kind t n r refs refs' wholes wholes' reals reals' k e a told x y =
    subst (λ (k : Kind). (told_verdict r ≡ mute (item_value k t)) × (lent_of k refs' wholes' reals' ≡ kept_at n (item_value k t) (lent_of k refs wholes reals))) (sym e)
    (x ∙ ap (λ (z : Fate (ItemValue k)). mute z) told, y ∙ ap (λ (z : Fate (ItemValue k)). kept_at n z (lent_of k refs wholes reals)) told)

-- a real that is not read is told by its number, and nothing is put at its place
pub real_unread : (w : NotRead) (n : ℕ) (l : List ℕ) → (faulty (number_of w) 0 ≡ mute (as_fate (told_real (Err w)))) × (l ≡ kept_at n (as_fate (told_real (Err w))) l)
real_unread Outside n l = (refl, refl)
real_unread NotReal n l = (refl, refl)

-- an item of a kind is refused at its start
pub value_inward : (kind : Kind) → Inward (item_value kind)
value_inward References = scalar_inward reference_of
value_inward Integers = scalar_inward whole_of
value_inward (Floats which) = scalar_inward (real_by which)
value_inward Any = λ t. omega arith

-- the room of a kind is as long as its lent numbers
pub room_lent : (kind : Kind) (refs : List ℕ) (wholes : List ℤ) (reals : List Float) → kind_room kind (length refs) (length wholes) (length reals) ≡ length (lent_of kind refs wholes reals)
room_lent References refs wholes reals = refl
room_lent Integers refs wholes reals = refl
room_lent (Floats which) refs wholes reals = sym (length-map reals (to_bits binary64))
room_lent Any refs wholes reals = refl

-- items are counted whatever their values
pub count_valued : (kind : Kind) (t : List ℕ) → fated length (list_by (kind_of kind) t) ≡ fated length (list_by (item_value kind) t)
count_valued References t = count_mute (item_value References) t
count_valued Integers t = count_mute (item_value Integers) t
count_valued (Floats which) t = count_mute (item_value (Floats which)) t
count_valued Any t = refl
