-- What the code writes of one row of a grid that reads, by the kind of its items: the lent numbers of that kind, from a place on.
-- Assumes nothing.
use Rattle.std.specs.Prelude.{ℕ, ◌+◌, ◌-◌, ◌≤◌, ◌≡◌, refl, List, [], ◌∷◌, ◌++◌, map, Float, length, take, drop, Result, Ok, Err}
use Rattle.std.specs.Result.{result_unwrap_or}
use Rattle.error.specs.declared.Fault.{Fault}
use Rattle.std.proofs.Common.{sym, ◌∙◌, ap, subst, append-nil, arith, length-drop, take-append-drop, length-take-le, le-leb}
use Rattle.std.proofs.lemmas.List.{map-append, length-map}
use Rattle.std.proofs.Math.Seq.{drop-length, take-length}
use Rattle.error.specs.Refusal.{Told, good, told_result}
use Rattle.common.specs.Compare.{clash}
use Rattle.lists.specs.declared.Kind.{Kind}
use Rattle.lists.specs.declared.Kind.TheVariants.{References, Integers, Floats, Any}
use Rattle.lists.specs.Items.{list_by, Ready, filled}
use Rattle.lists.specs.Answer.{Fate, roomed, fits_in, count_of, written, values_of}
use Rattle.lists.specs.Keep.{map_take, map_drop}
use Rattle.lists.specs.Lent.{item_value, lent_of, kind_room}
use Rattle.grids.specs.Code.{laid_from}

-- a row without numbers is written by leaving the lent numbers alone
none_put : {A : Type 0} (n : ℕ) (vs out : List A) → length vs ≤ 0 → out ≡ laid_from n vs out
none_put n [] out h = sym (take-append-drop n out)
none_put n (v ∷ vs) out h = absurd (omega arith)

-- a row that reads and fits is read whole
ready_read : {A : Type 0} (x : Fate (List A)) (room : ℕ) (a : Told ℕ) (s u : List A) → Ready x room → a ≡ count_of (roomed (fits_in room) 0 x) → u ≡ written (roomed (fits_in room) 0 x) s
    → (a ≡ good (length (values_of x))) × (u ≡ filled (values_of x) s)
ready_read {A} x room a s u (e, h) k l =
    let q : roomed (fits_in room) 0 x ≡ good (values_of x) = ap (roomed (fits_in room) 0) e ∙ rw (le-leb (length (values_of x)) room h) refl in
    (k ∙ ap (λ (y : Told (List A)). count_of y) q, l ∙ ap (λ (y : Told (List A)). written y s) q)

-- Lists told by h, as a lent list of reals is by their bits: its parts, and a part of it written.
module _ {A B : Type 0} (h : A → B) where
  -- the part of z from the n-th on
  map_part : (n z : ℕ) (l : List A) → map h (take z (drop n l)) ≡ take z (drop n (map h l))
  map_part n z l = map_take h z (drop n l) ∙ ap (take z) (map_drop h n l)

  -- u in its place
  map_put : (n z : ℕ) (l u : List A) → map h (take n l ++ (u ++ drop z (drop n l))) ≡ take n (map h l) ++ (map h u ++ drop z (drop n (map h l)))
  map_put n z l u =
      map-append h (take n l) (u ++ drop z (drop n l)) ∙ ap (λ (x : List B). x ++ map h (u ++ drop z (drop n l))) (map_take h n l)
      ∙ ap (λ (x : List B). take n (map h l) ++ x) (map-append h u (drop z (drop n l)) ∙ ap (λ (x : List B). map h u ++ x) (map_drop h z (drop n l) ∙ ap (drop z) (map_drop h n l)))

-- the part of a lent list from the n-th place to its end has so many places
part_places : {A : Type 0} (n : ℕ) (w : List A) → length (take (length w - n) (drop n w)) ≡ length w - n
part_places n w = length-take-le (length w - n) (drop n w) (omega (arith, length-drop n w))

-- a row is read into a part of the lent list w, from the n-th place to its end, which is u then
part_put : {A : Type 0} (w u vs : List A) (n z : ℕ) → z ≡ length w - n → u ≡ filled vs (take z (drop n w)) → take n w ++ (u ++ drop z (drop n w)) ≡ laid_from n vs w
part_put {A} w u vs n z e k =
    let c : z ≡ length (drop n w) = e ∙ sym (length-drop n w) in
    let y : drop z (drop n w) ≡ [] = ap (λ (d : ℕ). drop d (drop n w)) c ∙ drop-length (drop n w) in
    let f : take z (drop n w) ≡ drop n w = ap (λ (d : ℕ). take d (drop n w)) c ∙ take-length (drop n w) in
    ap (λ (x : List A). take n w ++ (u ++ x)) y ∙ ap (λ (x : List A). take n w ++ x) (append-nil u ∙ k ∙ ap (λ (x : List A). filled vs x) f)

-- it is read whole, for there is room
pub part_read : {A : Type 0} (x : Fate (List A)) (n : ℕ) (w u : List A) (a : Told ℕ) → Ready x (length w - n) → a ≡ count_of (roomed (fits_in (length (take (length w - n) (drop n w)))) 0 x)
    → u ≡ written (roomed (fits_in (length (take (length w - n) (drop n w)))) 0 x) (take (length w - n) (drop n w))
    → (a ≡ good (length (values_of x))) × (take n w ++ (u ++ drop (length w - n) (drop n w)) ≡ laid_from n (values_of x) w)
part_read x n w u a (e, h) k l =
    let (p, q) = ready_read x (length (take (length w - n) (drop n w))) a (take (length w - n) (drop n w)) u (e, omega (arith, h, part_places n w)) k l in
    (p, part_put w u (values_of x) n (length w - n) refl q)

-- the same of a lent list that is told by h
pub part_told : {A B : Type 0} (h : A → B) (x : Fate (List B)) (n : ℕ) (w u : List A) (a : Told ℕ) → Ready x (length w - n) → a ≡ count_of (roomed (fits_in (length (take (length w - n) (drop n w)))) 0 x)
    → map h u ≡ written (roomed (fits_in (length (take (length w - n) (drop n w)))) 0 x) (map h (take (length w - n) (drop n w)))
    → (a ≡ good (length (values_of x))) × (map h (take n w ++ (u ++ drop (length w - n) (drop n w))) ≡ laid_from n (values_of x) (map h w))
part_told {B = B} h x n w u a (e, r) k l =
    let z = length w - n in
    let c : z ≡ length (map h w) - n = ap (λ (d : ℕ). d - n) (sym (length-map w h)) in
    let (p, q) = ready_read x (length (take z (drop n w))) a (map h (take z (drop n w))) (map h u) (e, omega (arith, r, part_places n w)) k l in
    (p, map_put h n z w u ∙ part_put (map h w) (map h u) (values_of x) n z c (q ∙ ap (λ (s : List B). filled (values_of x) s) (map_part h n z w)))

-- a kind of which no numbers are lent has none
pub none_lent : {A : Type 0} (x : Fate (List A)) (n : ℕ) (out : List A) → Ready x (0 - n) → (0 ≡ length (values_of x)) × (out ≡ laid_from n (values_of x) out)
none_lent x n out (e, h) = (omega (arith, h), none_put n (values_of x) out (omega (arith, h)))

-- what the code promises of a row, from what it is by its kind
pub row_laid : (kind : Kind) (t : List ℕ) (n r : ℕ) (refs refs' : List ℕ) (reals reals' : List Float) (k : Kind) → kind ≡ k
    → (r ≡ length (values_of (list_by (item_value k) t))) × (lent_of k refs' [] reals' ≡ laid_from n (values_of (list_by (item_value k) t)) (lent_of k refs [] reals))
    → (r ≡ length (values_of (list_by (item_value kind) t))) × (lent_of kind refs' [] reals' ≡ laid_from n (values_of (list_by (item_value kind) t)) (lent_of kind refs [] reals))
row_laid kind t n r refs refs' reals reals' k e h =
    subst (λ (k : Kind). (r ≡ length (values_of (list_by (item_value k) t))) × (lent_of k refs' [] reals' ≡ laid_from n (values_of (list_by (item_value k) t)) (lent_of k refs [] reals))) (sym e) h

-- there is room for it in the lent numbers of its kind
pub row_fits : (kind : Kind) (t : List ℕ) (n refs reals : ℕ) (k : Kind) → kind ≡ k → (n ≤ kind_room kind refs 0 reals) × Ready (list_by (item_value kind) t) (kind_room kind refs 0 reals - n)
    → (n ≤ kind_room k refs 0 reals) × Ready (list_by (item_value k) t) (kind_room k refs 0 reals - n)
row_fits kind t n refs reals k e h = subst (λ (k : Kind). (n ≤ kind_room k refs 0 reals) × Ready (list_by (item_value k) t) (kind_room k refs 0 reals - n)) e h

-- no more than both
pub room_bound : (kind : Kind) (refs reals : ℕ) → kind_room kind refs 0 reals ≤ refs + reals
room_bound References refs reals = omega arith
room_bound Integers refs reals = omega arith
room_bound (Floats which) refs reals = omega arith
room_bound Any refs reals = omega arith

-- a row that is told by its count has so many numbers
pub row_counted : (r : Result ℕ Fault) (n : ℕ) → told_result r ≡ good n → result_unwrap_or r 0 ≡ n
row_counted (Ok k) n e = cc
row_counted (Err f) n e = clash (cc)
