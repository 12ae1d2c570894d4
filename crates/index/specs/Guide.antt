-- Laws of the guide and of the step, of the loops that find and lay them, and of each way that a search goes. Assumes nothing.
use Rattle.std.specs.Prelude.{ℕ, zero, suc, ◌+◌, ◌-◌, ◌*◌, ◌/◌, ◌^◌, ◌≤◌, ◌<◌, min, max, ◌≡◌, refl, Bool, true, false, ◌&&◌, List, ◌⊎◌, ltb, eqb, length, get_or, set}
use Rattle.std.proofs.Common.{sym, ◌∙◌, ap, subst, inl, inr, arith, pow-suc, mul-le-mul, mul-div_cancel, div-one, div-mul-le_self, div-lt_iff_lt-mul, mul-lt-mul_of_pos_right, mul-le-mul_right, mul_comm, add-mul, length-set, get_or-set_same, get_or-set_other, lt-ltb, le-ltb, le-leb, ltb-true, ltb-false, eqb-true}
use Rattle.std.proofs.Math.Nat.{pow-le-pow_right, div-div-eq-div-mul, one-le-pow, lt-div-mul-add, div-le_of_le-mul, mul-div-mul_left}
use Rattle.std.proofs.lemmas.Bool.{lt-leb, eqb-false}
use Rattle.common.specs.Compare.{ordered, less_or}
use Rattle.common.specs.Walk.{turned}
use Rattle.index.specs.KeyOrder.{slot_row, table_room, Rises, Steady, step_of, TestTells}
use Rattle.index.specs.Index.{RowsStart, IsShift}
use Rattle.index.specs.IndexLaws.{RowsPassed}
use Rattle.index.specs.IndexRight.{rises_far}
use Rattle.index.specs.Search.{Bracket, bracket, look_at_slot, search_end, start_at, range_width, guide_bracket, among, range_end, guide_end, even_end, end_of, first_row}
use Rattle.index.specs.declared.Ids.{Ids}

-- a range of the guide has at least one id
pub wide_pos : (s : ℕ) → 0 < 2 ^ s
wide_pos s = one-le-pow s 2 (omega arith)

module _ (k first w : ℕ) (pos : 0 < w) where
  -- the range of an id begins at or before it
  pub range_low : first ≤ k → first + (k - first) / w * w ≤ k
  range_low h = let e = div-mul-le_self (k - first) w in omega arith

  -- the range behind that of an id begins behind the id
  pub range_high : k < first + ((k - first) / w + 1) * w
  range_high =
      let e = lt-div-mul-add {a = k - first} {b = w} pos in
      let f : ((k - first) / w + 1) * w ≡ (k - first) / w * w + w = add-mul ((k - first) / w) 1 w ∙ omega arith in
      omega arith

  -- an id is less than a range behind where its own range begins
  pub range_far : k - (first + (k - first) / w * w) < w
  range_far = let e = lt-div-mul-add {a = k - first} {b = w} pos in omega arith

-- the range of an id is not behind that of a greater one
pub range_most : (d span w : ℕ) → 0 < w → d ≤ span → d / w ≤ span / w
range_most d span w pos h =
    let e = lt-div-mul-add {a = span} {b = w} pos in
    let f : suc (span / w) * w ≡ span / w * w + w = add_mul_one (span / w) w in
    let g : d < suc (span / w) * w = omega arith in
    let l = (div-lt_iff_lt-mul {k = w} {x = d} {y = suc (span / w)} pos).1 g in
    omega arith
  where
    add_mul_one : (a b : ℕ) → suc a * b ≡ a * b + b
    add_mul_one a b = let q : suc a ≡ a + 1 = omega arith in ap (λ (z : ℕ). z * b) q ∙ add-mul a 1 b ∙ omega arith

-- the row where an id would stand in a bracket is not before the bracket's first
pub among_low : (k w : ℕ) (b : Bracket) → b.lo ≤ among k w b
among_low k w b = omega arith

-- the row where an id would stand in a bracket that has rows is before the bracket's end
pub among_high : (k w : ℕ) (b : Bracket) → 0 < w → k - b.under < w → b.lo < b.hi → among k w b < b.hi
among_high k w b pos f h =
    let m : (k - b.under) * (b.hi - b.lo) < w * (b.hi - b.lo) = mul-lt-mul_of_pos_right {m = k - b.under} {n = w} {k = b.hi - b.lo} f (omega arith) in
    let c : w * (b.hi - b.lo) ≡ (b.hi - b.lo) * w = mul_comm w (b.hi - b.lo) in
    let l = (div-lt_iff_lt-mul {k = w} {x = (k - b.under) * (b.hi - b.lo)} {y = b.hi - b.lo} pos).1 (omega arith) in
    omega arith

-- a share x of z of y is at most y
pub share_most : (x y z : ℕ) → x ≤ z → x * y / z ≤ y
share_most x y z h = div-le_of_le-mul z (mul-le-mul_right {m = x} {n = z} y h)

-- for a slot of the guide, its range begins where the slot says, and not past the rows
pub start_in : (slots : List ℕ) (n i : ℕ) → i < n → start_at slots n i ≡ min (get_or slots i 0) n
start_in slots n i h = rw (lt-ltb i n h) refl

-- past the slots of the guide, a range begins at the end of all rows
pub start_out : (slots : List ℕ) (n i : ℕ) → n ≤ i → start_at slots n i ≡ n
start_out slots n i h = rw (le-ltb i n h) refl

module _ (f g : ℕ → ℕ) where
  -- along one slot, ids rise by one step
  pub steady_starts : Steady f g 1
  steady_starts i h = absurd (omega arith)

  -- ids that rise by one step up to slot i - 1, and by that step from there to slot i, rise by it along one slot more
  pub steady_next : (i : ℕ) → 1 ≤ i → Steady f g i → f (g i) - f (g (i - 1)) ≡ step_of f g → Steady f g (i + 1)
  steady_next i h r l j b = go (ordered (j + 1) i)
    where
      go : (j + 1 < i) ⊎ ((j + 1 ≡ i) ⊎ (i < j + 1)) → f (g (j + 1)) - f (g j) ≡ step_of f g
      go (inl k) = r j k
      go (inr (inl e)) = let d : i - 1 ≡ j = omega arith in subst (λ (z : ℕ). f (g z) - f (g j) ≡ step_of f g) (sym e) (subst (λ (z : ℕ). f (g i) - f (g z) ≡ step_of f g) d l)
      go (inr (inr k)) = absurd (omega arith)

  -- where ids do not rise by the step from slot i - 1 to slot i, they do not rise by one step along all slots
  pub steady_not : (i n : ℕ) → 1 ≤ i → i < n → (f (g i) - f (g (i - 1)) ≡ step_of f g → ⊥) → Steady f g n → ⊥
  steady_not i n h b l r =
      let e : i - 1 + 1 ≡ i = omega arith in
      l (subst (λ (z : ℕ). f (g z) - f (g (i - 1)) ≡ step_of f g) e (r (i - 1) (omega arith)))

  -- ids that rise by one step along some slots rise by it along fewer
  pub steady_fewer : (i n : ℕ) → n ≤ i → Steady f g i → Steady f g n
  steady_fewer i n h r j b = r j (omega arith)

  -- ids that rise by one step rise
  pub steady_rises : (n : ℕ) → Steady f g n → Rises f g n
  steady_rises n r i h = let e = r i h in omega arith

  -- where ids rise by one step, the id in slot i is i steps above the first
  pub steady_at : (n : ℕ) → Steady f g n → (i : ℕ) → i < n → f (g i) ≡ f (g 0) + i * step_of f g
  steady_at n r zero h = omega arith
  steady_at n r (suc i) h =
      let e = steady_at n r i (omega arith) in
      let q : i + 1 ≡ suc i = omega arith in
      let d : f (g (suc i)) - f (g i) ≡ step_of f g = subst (λ (z : ℕ). f (g z) - f (g i) ≡ step_of f g) q (r i (omega arith)) in
      let m : suc i * step_of f g ≡ i * step_of f g + step_of f g = ap (λ (z : ℕ). z * step_of f g) (sym q) ∙ add-mul i 1 (step_of f g) ∙ omega arith in
      omega arith

  -- whether ids rise by one step, with one slot more
  pub steady_more : (i : ℕ) (s t : Bool) → 1 ≤ i → TestTells s (Steady f g i) → eqb (f (g i) - f (g (i - 1))) (step_of f g) ≡ t → TestTells (s && t) (Steady f g (i + 1))
  steady_more i true true h r e = steady_next i h r (eqb-true (f (g i) - f (g (i - 1))) (step_of f g) e)
  steady_more i true false h r e = steady_not i (i + 1) h (omega arith) (eqb-false (f (g i) - f (g (i - 1))) (step_of f g) e)
  steady_more i false t h r e = λ w. r (steady_fewer (i + 1) i (omega arith) w)

  -- whether ids rise by one step is known once all slots are seen, and once one is, where there is none
  pub steady_all : (i n : ℕ) (s : Bool) → i ≡ max 1 n → TestTells s (Steady f g i) → TestTells s (Steady f g n)
  steady_all i n true e r = steady_fewer i n (omega arith) r
  steady_all i n false e r = λ w. r (go (less_or 0 n) w)
    where
      go : (0 < n) ⊎ (n ≤ 0) → Steady f g n → Steady f g i
      go (inl l) w = let q : n ≡ i = omega arith in subst (λ (z : ℕ). Steady f g z) q w
      go (inr l) w = let q : 1 ≡ i = omega arith in subst (λ (z : ℕ). Steady f g z) q steady_starts

-- the place of an id among ids that rise by one step: as often as the step goes into its distance from the first
pub even_place : (d top step : ℕ) → 0 < top → d * top / (top * step) ≡ d / step
even_place d top step h = ap (λ (z : ℕ). z / (top * step)) (mul_comm d top) ∙ mul-div-mul_left {m = top} d step h

-- for ids that rise by one a slot, the place of an id is its distance from the first
pub even_one : (d top span : ℕ) → 0 < span → span ≡ top → d + 1 ≡ d * top / span + 1
even_one d top span h e = ap (λ (z : ℕ). z + 1) (sym (mul-div_cancel d {n = span} h) ∙ ap (λ (z : ℕ). d * z / span) e)

-- the search for a shift: so much of the span is left after s halvings
pub record Shifting (span n left s : ℕ) : Type 0 where
  pub halved : left ≡ span / 2 ^ s
  pub least : (t : ℕ) → t < s → max 2 n ≤ span / 2 ^ t
  pub small : left < 2 ^ (32 - s)
  pub short : s ≤ 31

-- before the first halving all of the span is left
pub shift_starts : (span n : ℕ) → span < 4294967296 → Shifting span n span 0
shift_starts span n h = record { halved = sym (div-one span); least = λ t l. absurd (omega arith); small = h; short = omega arith }

-- where still too many ranges are left, one halving more is made
pub shift_next : (span n left s : ℕ) → Shifting span n left s → max 2 n ≤ left → (s < 31) × Shifting span n (left / 2) (s + 1)
shift_next span n left s h l = (below, record { halved = halved; least = least; small = small; short = omega (arith, below) })
  where
    below : s < 31
    below = go (less_or s 31)
      where
        go : (s < 31) ⊎ (31 ≤ s) → s < 31
        go (inl a) = a
        go (inr a) =
            let b : s ≤ 31 = h.short in
            let e : 32 - s ≡ 1 = omega arith in
            let c : left < 2 ^ 1 = subst (λ (x : ℕ). left < 2 ^ x) e h.small in
            let d : left < 2 = c in
            absurd (omega arith)

    next : (i : ℕ) → i + 1 ≡ suc i
    next i = omega arith

    halved : left / 2 ≡ span / 2 ^ (s + 1)
    halved = ap (λ (x : ℕ). x / 2) h.halved ∙ div-div-eq-div-mul span (2 ^ s) 2 ∙ ap (λ (x : ℕ). span / x) (sym (pow-suc 2 s)) ∙ ap (λ (x : ℕ). span / 2 ^ x) (sym (next s))

    least : (t : ℕ) → t < s + 1 → max 2 n ≤ span / 2 ^ t
    least t b = go (less_or t s)
      where
        go : (t < s) ⊎ (s ≤ t) → max 2 n ≤ span / 2 ^ t
        go (inl a) = h.least t a
        go (inr a) = let e : s ≡ t = omega arith in subst (λ (x : ℕ). max 2 n ≤ span / 2 ^ x) e (subst (λ (x : ℕ). max 2 n ≤ x) h.halved l)

    small : left / 2 < 2 ^ (32 - (s + 1))
    small =
        let e : suc (32 - (s + 1)) ≡ 32 - s = omega (arith, below) in
        let p : 2 ^ suc (32 - (s + 1)) ≡ 2 ^ (32 - (s + 1)) * 2 = pow-suc 2 (32 - (s + 1)) in
        let q : left < 2 ^ suc (32 - (s + 1)) = subst (λ (x : ℕ). left < 2 ^ x) (sym e) h.small in
        omega arith

-- where few enough ranges are left, s is the shift
pub shift_ends : (span n left s : ℕ) → Shifting span n left s → left < max 2 n → IsShift span n s
shift_ends span n left s h l = let b : s ≤ 31 = h.short in record { fits = subst (λ (x : ℕ). x < max 2 n) h.halved l; least = h.least; short = omega arith }

-- a range of the guide has at most 2^31 ids
pub wide_fits : (s : ℕ) → s < 32 → 2 ^ s ≤ 2147483648
wide_fits s h = pow-le-pow_right {n = 2} (omega arith) {i = s} {j = 31} (omega arith)

-- the ids of at most 2^32 ranges of the guide fit a machine number
pub ranges_fit : (q s : ℕ) → q ≤ 4294967296 → s < 32 → q * 2 ^ s ≤ 9223372036854775808
ranges_fit q s h l = mul-le-mul {n₁ = q} {m₁ = 2 ^ s} {n₂ = 4294967296} {m₂ = 2147483648} h (wide_fits s l)

-- where the guide is laid: slots before k hold where their ranges begin, the next begins with the id `from`, rows before r have lesser ids
pub record Laying (f : ℕ → ℕ) (n first w : ℕ) (slots : List ℕ) (from r k : ℕ) : Type 0 where
  pub size : length slots ≡ n
  pub done : k ≤ n
  pub inside : r ≤ n
  pub bound : from ≡ first + k * w
  pub below : (i : ℕ) → i < r → f i < from
  pub laid : (j : ℕ) → j < k → RowsStart f n (first + j * w) (get_or slots j 0)

-- where the rows from r up to i have ids below x, and row i too, one row more is passed
pub passed_on : (f : ℕ → ℕ) (r x i : ℕ) → ((j : ℕ) → r ≤ j → j < i → f j < x) → f i < x → (j : ℕ) → r ≤ j → j < i + 1 → f j < x
passed_on f r x i h l j a b = go (less_or j i)
  where
    go : (j < i) ⊎ (i ≤ j) → f j < x
    go (inl c) = h j a c
    go (inr c) = let e : i ≡ j = omega arith in subst (λ (z : ℕ). f z < x) e l

module _ (f : ℕ → ℕ) (n first w : ℕ) where
  -- the laying of the guide begins with no slot laid
  pub laying_starts : (slots : List ℕ) → length slots ≡ n → Laying f n first w slots first 0 0
  laying_starts slots e = record { size = e; done = omega arith; inside = omega arith; bound = omega arith; below = λ i h. absurd (omega arith); laid = λ j h. absurd (omega arith) }

  -- the first row that is not passed is where the ids from `from` on begin
  passed_starts : Rises f (λ i. i) n → (from r e : ℕ) → ((i : ℕ) → i < r → f i < from) → RowsPassed f r n from e → RowsStart f n from e
  passed_starts rises from r e below p = record { inside = p.inside; below = low; from = high }
    where
      low : (i : ℕ) → i < e → f i < from
      low i h = go (less_or i r)
        where
          go : (i < r) ⊎ (r ≤ i) → f i < from
          go (inl l) = below i l
          go (inr l) = p.below i l h

      high : (i : ℕ) → e ≤ i → i < n → from ≤ f i
      high i h l = go (less_or e i)
        where
          here : from ≤ f e
          here = p.from (omega arith)

          go : (e < i) ⊎ (i ≤ e) → from ≤ f i
          go (inl a) =
              let q : e + suc (i - e - 1) ≡ i = omega arith in
              let b : f e < f i = subst (λ (z : ℕ). f e < f z) q (rises_far f (λ j. j) n rises e (i - e - 1) (omega arith)) in
              omega (arith, here, b)
          go (inr a) = let q : e ≡ i = omega arith in subst (λ (z : ℕ). from ≤ f z) q here

  -- one slot more of the guide is laid
  pub laying_next : (slots : List ℕ) (from r k e : ℕ) → Rises f (λ i. i) n → Laying f n first w slots from r k → k < n → RowsPassed f r n from e → Laying f n first w (set slots k e) (from + w) e (k + 1)
  laying_next slots from r k e rises h l p =
      record {
        size = length-set slots k e ∙ h.size;
        done = omega arith;
        inside = p.inside;
        bound = let b = h.bound in let m : (k + 1) * w ≡ k * w + w = add-mul k 1 w ∙ omega arith in omega arith;
        below = λ i a. let b = starts.below i a in omega arith;
        laid = λ j a. go j a (less_or j k);
      }
    where
      starts : RowsStart f n from e
      starts = passed_starts rises from r e h.below p

      size : length slots ≡ n
      size = h.size

      go : (j : ℕ) → j < k + 1 → (j < k) ⊎ (k ≤ j) → RowsStart f n (first + j * w) (get_or (set slots k e) j 0)
      go j a (inl b) = subst (λ (c : ℕ). RowsStart f n (first + j * w) c) (sym (get_or-set_other slots k j e 0 (λ q. omega arith))) (h.laid j b)
      go j a (inr b) =
          let q : k ≡ j = omega arith in
          subst (λ (i : ℕ). RowsStart f n (first + i * w) (get_or (set slots k e) i 0)) q
          (subst (λ (c : ℕ). RowsStart f n (first + k * w) c) (sym (get_or-set_same slots k e 0 (omega (arith, size, l))))
          (subst (λ (x : ℕ). RowsStart f n x e) h.bound starts))

  -- where all slots of the guide are laid, each holds where its range begins
  pub laying_ends : (slots : List ℕ) (from r k : ℕ) → Laying f n first w slots from r k → n ≤ k → (j : ℕ) → j < n → RowsStart f n (first + j * w) (get_or slots j 0)
  laying_ends slots from r k h l j a = h.laid j (omega arith)

module _ (k : ℕ) (distinct : Bool) (g : ℕ → ℕ) (b : Bracket) (w : ℕ) where
  -- in a range without rows, the rows up to the id end where the range begins
  pub range_empty : b.hi ≤ b.lo → b.lo ≡ range_end k distinct g b w
  range_empty h = rw (le-ltb b.lo b.hi h) refl

  module _ (m id : ℕ) (at : m ≡ among k w b) (there : id ≡ g m) (h : b.lo < b.hi) where
    -- in a range with rows, the search looks at slot m first
    range_looks : turned (look_at_slot k distinct b m id) (λ c. search_end k distinct g c) ≡ range_end k distinct g b w
    range_looks =
        subst (λ (i : ℕ). turned (look_at_slot k distinct b m i) (λ c. search_end k distinct g c) ≡ range_end k distinct g b w) (sym there)
        (subst (λ (z : ℕ). turned (look_at_slot k distinct b z (g z)) (λ c. search_end k distinct g c) ≡ range_end k distinct g b w) (sym at) (rw (lt-ltb b.lo b.hi h) refl))

    -- where slot m has the id sought and no id stands twice, the rows up to it end there
    pub range_finds : (distinct && eqb id k) ≡ true → m + 1 ≡ range_end k distinct g b w
    range_finds e = rw e at range_looks

    -- where slot m has an id up to the one sought, the search goes on behind it
    pub range_under : (r : ℕ) → (distinct && eqb id k) ≡ false → id ≤ k → r ≡ search_end k distinct g (bracket (m + 1) b.hi id b.over (b.guided - 1)) → r ≡ range_end k distinct g b w
    range_under r e l q = q ∙ rw (e, le-leb id k l) at range_looks

    -- where slot m has a greater id than the one sought, the search goes on before it
    pub range_over : (r : ℕ) → (distinct && eqb id k) ≡ false → k < id → r ≡ search_end k distinct g (bracket b.lo m b.under id (b.guided - 1)) → r ≡ range_end k distinct g b w
    range_over r e l q = q ∙ rw (e, lt-leb id k l) at range_looks

-- where the code's bracket is the one that the guide gives, what is found in it is what is found by the guide
pub guide_is : (k : ℕ) (distinct : Bool) (g : ℕ → ℕ) (slots : List ℕ) (n first last shift q lo hi under over r : ℕ)
    → q ≡ (k - first) / range_width shift → lo ≡ max 1 (start_at slots n q) → hi ≡ min (start_at slots n (q + 1)) (n - 1)
    → under ≡ first + q * range_width shift → over ≡ min (first + (q + 1) * range_width shift) last
    → r ≡ range_end k distinct g (bracket lo hi under over 4) (range_width shift) → r ≡ guide_end k distinct g slots n first last shift
unfolding guide_end
guide_is k distinct g slots n first last shift q lo hi under over r e a b c d f =
    f
    ∙ ap (λ (z : Bracket). range_end k distinct g z (range_width shift)) same
    ∙ ap (λ (z : ℕ). range_end k distinct g (guide_bracket slots n first last (range_width shift) z) (range_width shift)) e
  where
    same : bracket lo hi under over 4 ≡ guide_bracket slots n first last (range_width shift) q
    same = λ i. record { lo = a i; hi = b i; under = c i; over = d i; guided = 4 }

-- the ways of a search, by its tests
module _ (k : ℕ) (b : Ids) (slots : List ℕ) (g : ℕ → ℕ) (n : ℕ) where
  -- where the last id is not above the one sought, all slots hold ids up to it
  pub end_all : b.last ≤ k → n ≡ end_of k b slots g n
  end_all h = rw (le-leb b.last k h) refl

  -- where the first id is above the one sought, no slot holds an id up to it
  pub end_none : k < b.last → k < b.first → 0 ≡ end_of k b slots g n
  end_none h l = rw (lt-leb b.last k h, lt-ltb k b.first l) refl

  -- where ids rise by one step, the slots up to the id sought end by the step
  pub end_even : (r : ℕ) → k < b.last → b.first ≤ k → b.even ≡ true → r ≡ even_end k n b.first b.last → r ≡ end_of k b slots g n
  end_even r h l e q = q ∙ rw (lt-leb b.last k h, le-ltb k b.first l, e) refl

  -- where ids rise in file order, but by no one step, the rows up to the id sought end by the guide
  pub end_guide : (r : ℕ) → k < b.last → b.first ≤ k → b.even ≡ false → b.direct ≡ true → r ≡ guide_end k b.distinct g slots n b.first b.last b.shift → r ≡ end_of k b slots g n
  end_guide r h l e d q = q ∙ rw (lt-leb b.last k h, le-ltb k b.first l, e, d) refl

  -- where ids rise neither by one step nor in file order, the slots up to the id sought end by the search through all
  pub end_whole : (r hi : ℕ) → k < b.last → b.first ≤ k → b.even ≡ false → b.direct ≡ false → hi ≡ n - 1 → r ≡ search_end k b.distinct g (bracket 1 hi b.first b.last 6) → r ≡ end_of k b slots g n
  end_whole r hi h l e d f q = q ∙ ap (λ (z : ℕ). search_end k b.distinct g (bracket 1 z b.first b.last 6)) f ∙ rw (lt-leb b.last k h, le-ltb k b.first l, e, d) refl

-- a row is one of those that the index speaks of where it is below each of the bounds
module _ (rows slots count r : ℕ) where
  -- the code's test of a row against each bound is that of the row against the number of rows that the index speaks of
  pub room_test : (((ltb r count && ltb r slots) && ltb r 1073741824) && ltb r rows) ≡ ltb r (table_room rows slots count)
  room_test = go (ltb r count) (ltb r slots) (ltb r 1073741824) (ltb r rows) refl refl refl refl
    where
      go : (s t u v : Bool) → ltb r count ≡ s → ltb r slots ≡ t → ltb r 1073741824 ≡ u → ltb r rows ≡ v → (((s && t) && u) && v) ≡ ltb r (table_room rows slots count)
      go true true true true a b c d =
          let h = ltb-true r count a in
          let i = ltb-true r slots b in
          let j = ltb-true r 1073741824 c in
          let k = ltb-true r rows d in
          sym (lt-ltb r (table_room rows slots count) (omega (arith, h, i, j, k)))
      go true true true false a b c d = let h = ltb-false r rows d in sym (le-ltb r (table_room rows slots count) (omega (arith, h)))
      go true true false v a b c d = let h = ltb-false r 1073741824 c in sym (le-ltb r (table_room rows slots count) (omega (arith, h)))
      go true false u v a b c d = let h = ltb-false r slots b in sym (le-ltb r (table_room rows slots count) (omega (arith, h)))
      go false t u v a b c d = let h = ltb-false r count a in sym (le-ltb r (table_room rows slots count) (omega (arith, h)))

  -- a row below each of the bounds stands in the index just where x holds, that it has the id
  pub room_yes : (x : Bool) → (((ltb r count && ltb r slots) && ltb r 1073741824) && ltb r rows) ≡ true → x ≡ (ltb r (table_room rows slots count) && x)
  room_yes x e = rw (sym room_test ∙ e) refl

  -- a row that is not below each of the bounds does not stand in the index, whatever x says
  pub room_no : (x : Bool) → (((ltb r count && ltb r slots) && ltb r 1073741824) && ltb r rows) ≡ false → false ≡ (ltb r (table_room rows slots count) && x)
  room_no x e = rw (sym room_test ∙ e) refl

-- the row to look at first, by its tests
module _ (k : ℕ) (b : Ids) (slots : List ℕ) where
  -- for an id below the first, no row is looked at first
  pub first_below : k < b.first → 4294967295 ≡ first_row slots b k
  first_below h = rw (lt-ltb k b.first h) refl

  -- where ids are dense, the row looked at first is as far from the first as the id is from the first id
  pub first_dense : (r : ℕ) → b.first ≤ k → (b.distinct && eqb b.shift 0) ≡ true → r ≡ slot_row b.direct slots (k - b.first) → r ≡ first_row slots b k
  first_dense r h e q = q ∙ rw (le-ltb k b.first h, e) refl

  -- where ids are not dense, no row is looked at first
  pub first_none : b.first ≤ k → (b.distinct && eqb b.shift 0) ≡ false → 4294967295 ≡ first_row slots b k
  first_none h e = rw (le-ltb k b.first h, e) refl
