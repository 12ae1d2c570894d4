-- Demand 1: "one numbered refusal with a place from 0 to the input's length". The place of whatever is wrong with a list lies in its
-- text, and so that of every refusal in the file. Assumes nothing.
use Prim.Native.Nat.{ℕ, zero, suc, ◌+◌, ◌-◌, ◌≤◌, ◌<◌}
use Rattle.std.specs.Prelude.{◌≡◌, refl, Bool, ◌&&◌, Result, take, drop, get_or}
use Rattle.std.proofs.Common.{ap, length-drop}
use Rattle.std.proofs.Math.Bool.{true, false}
use mathlib.Core.List.{List, [], ◌∷◌}
use native.Mathlib.Omega.{arith}
use Rattle.std.proofs.Math.Dec.{eqb}
use Rattle.std.proofs.Math.ListN.{length, length-take}
use Rattle.common.specs.Pick.{pick}
use Rattle.common.specs.Compare.{clash}
use Rattle.error.specs.Refusal.{Refusal, refusal, Told, good, bad, told_result}
use Rattle.error.specs.declared.Fault.{Fault}
use Rattle.lex.specs.Byte.{white, place}
use Rattle.lex.specs.Place.{place_within}
use Rattle.common.specs.Walk.{stop, on, turned, walk}
use Rattle.lex.specs.declared.Mode.{Mode}
use Rattle.lex.specs.declared.Mode.TheVariants.{Plain, Slash, Text, Quoted, Remark, Starred}
use Rattle.record.specs.Text.{before, past, trail}
use Rattle.reals.specs.Answer.{Answer, read, refused}
use Rattle.reals.specs.Scalar.{reference_of, whole_of}
use Rattle.reals.specs.Which.{real_by}
use Rattle.params.specs.Answer.{ParamEnd, stops_before, literal_open, reading, Span, span, reader_in_file, onward}
use Rattle.params.specs.ParameterEnd.{Stand, outside_literals, settled, passed, cut_turn, ended_in_mode, cut_end, cut_of, started}
use Rattle.params.specs.Reader.{bounded, param_begun, param_of}
use Rattle.lists.specs.declared.Kind.{Kind}
use Rattle.lists.specs.declared.Kind.TheVariants.{References, Integers, Floats, Any}
use Rattle.lists.specs.Answer.{Fate, fine, faulty, shifted, fated, as_fate, kind_of, consed, roomed, next_by, fits_in, count_of}
use Rattle.lists.specs.Items.{bound_of, item_end, item_text, indent, item_by, headed, past_comma, items_from, is_blank, items_by, inside, bare, body_of, listed, list_by, list_of}

-- how far into a text its fault is; 0 where it has none
abbrev pub offset : {A : Type 0} → Fate A → ℕ
offset (fine a) = 0
offset (faulty n o) = o

-- the place of a refusal; 0 where there is none
abbrev pub place_of : {A : Type 0} → Told A → ℕ
place_of (good a) = 0
place_of (bad q) = q.place

-- whatever g finds wrong with a text lies in it
abbrev pub Inward : {A : Type 0} → (List ℕ → Fate A) → Type 0
Inward g = (t : List ℕ) → offset (g t) ≤ length t

-- a scalar is refused at its start
pub scalar_inward : {A : Type 0} (f : List ℕ → Answer A) → Inward (λ u. as_fate (f u))
scalar_inward {A} f t = go (f t)
  where
    go : (a : Answer A) → offset (as_fate a) ≤ length t
    go (read a) = omega arith
    go (refused n) = omega arith

-- what h makes of what g reads has its faults in the text, as what g reads has
pub told_inward : {A B : Type 0} (h : A → B) (g : List ℕ → Fate A) → Inward g → Inward (λ u. fated h (g u))
told_inward {A} h g inward t = go (g t) (inward t)
  where
    go : (x : Fate A) → offset x ≤ length t → offset (fated h x) ≤ length t
    go (fine a) k = k
    go (faulty n o) k = k

-- a fault in what h makes of a reading is no further into the text than that of the reading
pub told_place : {A B : Type 0} (h : A → B) (x : Fate A) (n o m : ℕ) → faulty n o ≡ fated h x → offset x ≤ m → o ≤ m
told_place h (fine a) n o m e k = clash (cc)
told_place h (faulty l p) n o m e k = let q : o ≡ p = cc in omega arith

-- an item of a kind is refused at its start
pub kind_inward : (kind : Kind) → Inward (kind_of kind)
kind_inward References = told_inward (λ a. tt) (λ u. as_fate (reference_of u)) (scalar_inward reference_of)
kind_inward Integers = told_inward (λ a. tt) (λ u. as_fate (whole_of u)) (scalar_inward whole_of)
kind_inward (Floats which) = told_inward (λ a. tt) (λ u. as_fate (real_by which u)) (scalar_inward (real_by which))
kind_inward Any = λ t. omega arith

-- past bytes of a kind no more is left
past_short : (p : ℕ → Bool) (xs : List ℕ) → length (past p xs) ≤ length xs
unfolding past walk
past_short p [] = omega arith
past_short p (c ∷ r) = go (p c) refl (past_short p r)
  where
    go : (k : Bool) → p c ≡ k → length (past p r) ≤ length r → length (past p (c ∷ r)) ≤ length (c ∷ r)
    go true e h = rw e (omega (arith, h))
    go false e h = rw e (omega arith)

-- where the bytes ended, nothing is left
over_short : (m : Mode) (s o : List ℕ) → length (bound_of (ended_in_mode m s o)) ≤ 0
over_short Plain s o = omega arith
over_short Slash s o = omega arith
over_short Text s o = omega arith
over_short Quoted s o = omega arith
over_short Remark s o = omega arith
over_short Starred s o = omega arith

-- from the comma that ends a parameter on, no more is left than from the parameter on
cut_short : (s : Stand) (xs : List ℕ) → length (bound_of (walk cut_turn cut_end s xs)) ≤ length xs
unfolding walk
cut_short s [] = go s.binary
  where
    go : (k : Bool) → length (bound_of (pick k (literal_open s.opened) (ended_in_mode s.mode s.solid s.opened))) ≤ 0
    go true = omega arith
    go false = over_short s.mode s.solid s.opened
cut_short s (c ∷ r) = go (outside_literals s.binary s.mode c && (eqb c 44 && eqb s.depth 0)) (cut_short (passed s (outside_literals s.binary s.mode c) c r) r)
  where
    go : (k : Bool) → length (bound_of (walk cut_turn cut_end (passed s (outside_literals s.binary s.mode c) c r) r)) ≤ length r
        → length (bound_of (turned (pick k (stop (stops_before (settled s.mode s.solid (c ∷ r)) (c ∷ r))) (on (passed s (outside_literals s.binary s.mode c) c r))) (λ u. walk cut_turn cut_end u r))) ≤ length (c ∷ r)
    go true h = omega arith
    go false h = omega (arith, h)

-- an item's end lies in the list
end_short : (xs : List ℕ) → length (item_end xs) ≤ length xs
unfolding item_end cut_of
end_short xs = cut_short _ xs

-- an item's text, and what stands before it, are no more than the bytes it is cut from
item_short : (xs : List ℕ) → indent xs + length (item_text xs) ≤ length xs
unfolding item_text indent
item_short xs =
    let t = before xs (item_end xs) in
    omega (arith, past_short white t, length-take (length (past white t) - length (trail (past white t))) (past white t), length-take (length xs - length (item_end xs)) xs)

-- a fault seen from k bytes further back is at most k bytes further into the text
offset_shifted : {A : Type 0} (k : ℕ) (x : Fate A) → offset (shifted k x) ≤ k + offset x
offset_shifted k (fine a) = omega arith
offset_shifted k (faulty n o) = omega arith

-- the fault of an item with those after it lies no further than m, where the item's does and that of those after it
offset_headed : {A : Type 0} (m : ℕ) (x : Fate A) (k : Unit {0} → Fate (List A)) → offset x ≤ m → offset (k tt) ≤ m → offset (headed x k) ≤ m
offset_headed {A} m (fine a) k h l = go (k tt) l
  where
    go : (y : Fate (List A)) → offset y ≤ m → offset (consed a y) ≤ m
    go (fine vs) h = omega arith
    go (faulty n o) h = h
offset_headed m (faulty n o) k h l = h

-- the fault of what follows a comma lies no further than m, where that of every shorter rest does
offset_past : {A : Type 0} (m : ℕ) (xs : List ℕ) (k : List ℕ → Fate (List A)) → ((r : List ℕ) → length r < length xs → offset (k r) ≤ m) → offset (past_comma xs k) ≤ m
offset_past m [] k h = omega arith
offset_past m (c ∷ r) k h = h r (omega arith)

module _ {A : Type 0} (g : List ℕ → Fate A) (inward : Inward g) where
  -- the fault of an item lies in the bytes it is cut from
  item_inward : (xs : List ℕ) → offset (item_by g xs) ≤ length xs
  unfolding item_by
  item_inward xs = omega (arith, offset_shifted (indent xs) (g (item_text xs)), inward (item_text xs), item_short xs)

  -- the fault of the items from a rest on lies in that rest
  pub items_inward : (n o : ℕ) (xs : List ℕ) → offset (items_from n g o xs) ≤ o + length xs
  unfolding items_from
  items_inward zero o xs = omega arith
  items_inward (suc n) o xs =
      offset_headed (o + length xs) (shifted o (item_by g xs)) _
      (omega (arith, offset_shifted o (item_by g xs), item_inward xs))
      (offset_past (o + length xs) (item_end xs) _ (λ r h. omega (arith, h, end_short xs, items_inward n (o + (length xs - length r)) r)))

  -- the fault of the items in a list's inside lies in that inside
  all_inward : (b : List ℕ) → offset (items_by g b) ≤ length b
  unfolding items_by
  all_inward b = go (is_blank b)
    where
      go : (k : Bool) → offset (pick k (fine []) (items_from (suc (length b)) g 0 b)) ≤ length b
      go true = omega arith
      go false = omega (arith, items_inward (suc (length b)) 0 b)

  -- the fault of a list lies in its text
  pub list_inward : Inward (list_by g)
  unfolding list_by body_of
  list_inward [] = omega arith
  list_inward (c ∷ r) = go (eqb c 40 && eqb (get_or r (length r - 1) 0) 41)
    where
      go : (k : Bool) → offset (listed g (pick k (inside (take (length r - 1) r)) bare)) ≤ length (c ∷ r)
      go true = omega (arith, offset_shifted 1 (items_by g (take (length r - 1) r)), all_inward (take (length r - 1) r), length-take (length r - 1) r)
      go false = omega arith

  -- the place of the refusal of a text that stands at a lies in that text
  pub roomed_inward : (fits : A → Bool) (a : ℕ) (t : List ℕ) → place_of (roomed fits a (g t)) ≤ a + length t
  roomed_inward fits a t = go (g t) (inward t)
    where
      go : (x : Fate A) → offset x ≤ length t → place_of (roomed fits a x) ≤ a + length t
      go (fine v) h = fit (fits v)
        where
          fit : (k : Bool) → place_of (pick k (good v) (bad (refusal 16 0 a))) ≤ a + length t
          fit true = omega arith
          fit false = omega arith
      go (faulty n o) h = omega arith

-- a refusal before a text is read: 9 is at 0, 10 and 11 are among the bytes up to the reader's end
span_inward : (xs : List ℕ) (e : ℕ) (ys : List ℕ) → (place_of (param_begun xs e ys).answer ≤ length xs) × ((a : Span) → (param_begun xs e ys).answer ≡ good a → a.start ≤ length xs)
span_inward xs e [] = (place_within xs [], λ a h. clash (cc))
span_inward xs e (c ∷ r) = go (cut_of (c ∷ r))
  where
    go : (k : ParamEnd) → (place_of (bounded xs e (c ∷ r) k).answer ≤ length xs) × ((a : Span) → (bounded xs e (c ∷ r) k).answer ≡ good a → a.start ≤ length xs)
    go (stops_before z b) = (omega arith, λ a h. let q : span (place xs (c ∷ r)) (place xs z) ≡ a = cc in rw (← q) (place_within xs (c ∷ r)))
    go (literal_open o) = (place_within xs o, λ a h. clash (cc))

-- a parameter that is cut begins in the file, and a refusal lies in it
param_inward : (s : List ℕ) (p e : ℕ) → (place_of (param_of s p e).answer ≤ length s) × ((a : Span) → (param_of s p e).answer ≡ good a → a.start ≤ length s)
unfolding param_of
param_inward s p e = go (reader_in_file (length s) p e)
  where
    go : (k : Bool) → (place_of (pick k (param_begun (take e s) e (started (drop p (take e s)))) (reading (bad (refusal 9 0 0)) p e)).answer ≤ length s)
        × ((a : Span) → (pick k (param_begun (take e s) e (started (drop p (take e s)))) (reading (bad (refusal 9 0 0)) p e)).answer ≡ good a → a.start ≤ length s)
    go true = let (h, k) = span_inward (take e s) e (started (drop p (take e s))) in (omega (arith, h, length-take e s), λ a l. omega (arith, k a l, length-take e s))
    go false = (omega arith, λ a h. clash (cc))

-- every refusal of a reader of lists, or of grids, has its place in the file
pub next_inward : {A : Type 0} (g : List ℕ → Fate A) → Inward g → (fits : A → Bool) (s : List ℕ) (p e : ℕ) → place_of (next_by g fits s p e).answer ≤ length s
unfolding next_by
next_inward {A} g inward fits s p e = let (h, k) = param_inward s p e in go (param_of s p e).answer h k
  where
    go : (x : Told Span) → place_of x ≤ length s → ((a : Span) → x ≡ good a → a.start ≤ length s)
        → place_of (onward (λ a. roomed fits a.start (g (take (a.stop - a.start) (drop a.start s)))) x) ≤ length s
    go (good a) h k =
        let t = take (a.stop - a.start) (drop a.start s) in
        omega (arith, roomed_inward g inward fits a.start t, k a refl, length-take (a.stop - a.start) (drop a.start s), length-drop a.start s)
    go (bad q) h k = h

-- a refusal that a reader of lists, or of grids, answers has its place in the file
pub next_placed : {A : Type 0} (g : List ℕ → Fate A) → Inward g → (fits : A → Bool) (s : List ℕ) (p e : ℕ) (q : Refusal) → (next_by g fits s p e).answer ≡ bad q → q.place ≤ length s
next_placed g inward fits s p e q h = omega (arith, ap place_of h, next_inward g inward fits s p e)

-- "a place from 0 to the input's length": every refusal of a reader of lists
pub list_placed : {A : Type 0} (f : List ℕ → Answer A) (room : ℕ) (s : List ℕ) (p e : ℕ) (q : Refusal) → (next_by (list_of f) (fits_in room) s p e).answer ≡ bad q → q.place ≤ length s
list_placed f room s p e q h = next_placed (list_of f) (list_inward (λ u. as_fate (f u)) (scalar_inward f)) (fits_in room) s p e q h

-- the place that the code tells of a list's text, which stands at a, lies in that text
pub read_inward : {A : Type 0} (g : List ℕ → Fate (List A)) → Inward g → (fits : List A → Bool) (a : ℕ) (t : List ℕ) (r : Result ℕ Fault) → told_result r ≡ count_of (roomed fits a (g t)) → place_of (told_result r) ≤ a + length t
read_inward {A} g inward fits a t r e = omega (arith, ap place_of e, count_place (roomed fits a (g t)), roomed_inward g inward fits a t)
  where
    count_place : (x : Told (List A)) → place_of (count_of x) ≡ place_of x
    count_place (good vs) = refl
    count_place (bad q) = refl
