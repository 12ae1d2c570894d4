-- The search gives the map's answer, for the slots and the numbers that `build` leaves; and for any others what it serves lies in
-- the table and has the id. Assumes nothing.
use Prim.Native.Nat.{ℕ, zero, suc, ◌+◌, ◌-◌, ◌*◌, ◌/◌, ◌%◌, ◌^◌, ◌≤◌, ◌<◌, min, max}
use Rattle.std.specs.Prelude.{◌≡◌, refl, Bool, true, false, ◌&&◌, List, ◌⊎◌, ltb, leb, eqb, length, get_or, Some, None}
use Rattle.std.proofs.Common.{sym, ◌∙◌, ap, subst, inl, inr, arith, mod-eq_of_lt, mul-le-mul_right, div-mul-le_self, add-mul, ltb-true, ltb-false, leb-true, leb-false, eqb-true, le-ltb, eq-eqb, ne_eqb}
use Rattle.std.proofs.Math.Nat.{lt-div-mul-add}
use Rattle.std.proofs.lemmas.Bool.{eqb-false}
use Rattle.common.specs.Pick.{pick}
use Rattle.common.specs.Compare.{ordered, less_or}
use Rattle.common.specs.Walk.{Turn, stop, on, turned}
use Rattle.index.specs.KeyOrder.{slot_row, slot_id, table_room, Before, Rises, Steady, step_of, TestTells}
use Rattle.index.specs.Lookup.{lookup_of, lookup_only}
use Rattle.index.specs.Rules.{LookupForm, IsLast, Missing}
use Rattle.index.specs.Index.{RowsStart, Guides, SlotsHold, Built}
use Rattle.index.specs.IndexLaws.{end_some}
use Rattle.index.specs.IndexRight.{Along, Ranks, rises_far, direct_ranks, index_ranks, index_id, steady_same}
use Rattle.table.specs.Table.{rows_fit, id_of}
use Rattle.index.specs.Search.{Bracket, bracket, probe_of, narrowed, look_at_slot, turn_at, bracket_turn, end_from, search_end, whole_bracket, start_at, range_width, guide_bracket, among, guide_end, even_end, end_of, row_has_id, served_of, sought_in, first_row, search_in, searched}
use Rattle.index.specs.Laws.{probe_low, probe_high}
use Rattle.index.specs.Guide.{wide_pos, range_low, range_high, range_far, range_most, among_low, among_high, share_most, start_in, start_out, steady_at, even_place}
use Rattle.index.specs.declared.Ids.{Ids}

-- a fact of each answer of a turn: of the answer where it stops, of the bracket where it goes on
abbrev pub Turns : (ℕ → Type 0) → (Bracket → Type 0) → Turn Bracket ℕ → Type 0
Turns P Q (stop e) = P e
Turns P Q (on b) = Q b

module _ (k : ℕ) (distinct : Bool) (g : ℕ → ℕ) (P : ℕ → Type 0) (Q : Bracket → Type 0) where
  -- by the tests of a turn at slot m: the bracket is empty; the slot holds the id; it holds a lesser one, or an equal one where ids may
  -- stand twice; it holds a greater one
  pub turn_by : (b : Bracket) (m : ℕ)
      → (b.hi ≤ b.lo → P b.lo)
      → (b.lo < b.hi → distinct ≡ true → g m ≡ k → P (m + 1))
      → (b.lo < b.hi → g m ≤ k → Q (bracket (m + 1) b.hi (g m) b.over (b.guided - 1)))
      → (b.lo < b.hi → k < g m → Q (bracket b.lo m b.under (g m) (b.guided - 1)))
      → Turns P Q (turn_at k distinct g b m)
  turn_by b m empty found low high = go (ltb b.lo b.hi) refl
    where
      by_id : b.lo < b.hi → (t : Bool) → leb (g m) k ≡ t → Q (pick t (bracket (m + 1) b.hi (g m) b.over (b.guided - 1)) (bracket b.lo m b.under (g m) (b.guided - 1)))
      by_id h true e = low h (leb-true (g m) k e)
      by_id h false e = high h (leb-false (g m) k e)

      by_twice : b.lo < b.hi → (s t : Bool) → distinct ≡ s → eqb (g m) k ≡ t → Turns P Q (pick (s && t) (stop (m + 1)) (on (narrowed k b m (g m))))
      by_twice h true true d e = found h d (eqb-true (g m) k e)
      by_twice h true false d e = by_id h (leb (g m) k) refl
      by_twice h false t d e = by_id h (leb (g m) k) refl

      go : (t : Bool) → ltb b.lo b.hi ≡ t → Turns P Q (pick t (look_at_slot k distinct b m (g m)) (stop b.lo))
      go true e = by_twice (ltb-true b.lo b.hi e) distinct (eqb (g m) k) refl refl
      go false e = empty (ltb-false b.lo b.hi e)

-- what each turn keeps, with one turn fewer left, holds of the search's answer
pub end_by : (k : ℕ) (distinct : Bool) (g : ℕ → ℕ) (P : ℕ → Type 0) (Q : ℕ → Bracket → Type 0) → ((b : Bracket) → Q 0 b → P b.lo) → ((m : ℕ) (b : Bracket) → Q (suc m) b → Turns P (Q m) (bracket_turn k distinct g b)) → (m : ℕ) (b : Bracket) → Q m b → P (end_from m k distinct g b)
unfolding end_from
end_by k distinct g P Q z t zero b q = z b q
end_by k distinct g P Q z t (suc m) b q = go (bracket_turn k distinct g b) (t m b q) (λ c r. end_by k distinct g P Q z t m c r)
  where
    go : (u : Turn Bracket ℕ) → Turns P (Q m) u → ((c : Bracket) → Q m c → P (end_from m k distinct g c)) → P (turned u (λ c. end_from m k distinct g c))
    go (stop e) h f = h
    go (on c) h f = f c h

-- a search ends within its bracket
pub end_within : (k : ℕ) (distinct : Bool) (g : ℕ → ℕ) (top m : ℕ) (b : Bracket) → b.lo ≤ top → b.hi ≤ top → end_from m k distinct g b ≤ top
end_within k distinct g top m b l h =
    end_by k distinct g (λ e. e ≤ top) (λ n c. (c.lo ≤ top) × (c.hi ≤ top)) (λ c q. q.0)
    (λ n c q. turn_by k distinct g (λ e. e ≤ top) (λ d. (d.lo ≤ top) × (d.hi ≤ top)) c (probe_of k c) (λ _. q.0)
    (λ o _ _. let w = probe_high k c o in let y = q.1 in omega arith)
    (λ o _. let w = probe_high k c o in let y = q.1 in (omega arith, q.1))
    (λ o _. let w = probe_high k c o in let y = q.1 in (q.0, omega arith)))
    m b (l, h)

-- a fact of a turn's answer, or of what follows its bracket, holds of what comes of both
pub turned_by : (P : ℕ → Type 0) (Q : Bracket → Type 0) (u : Turn Bracket ℕ) (after : Bracket → ℕ) → Turns P Q u → ((c : Bracket) → Q c → P (after c)) → P (turned u after)
turned_by P Q (stop e) after h f = h
turned_by P Q (on c) after h f = f c h

-- the guide's first look lies in its range
pub guide_high : (k : ℕ) (slots : List ℕ) (n first last w : ℕ) → 0 < w → (max 1 (start_at slots n ((k - first) / w)) < min (start_at slots n ((k - first) / w + 1)) (n - 1)) → among k w (guide_bracket slots n first last w ((k - first) / w)) < min (start_at slots n ((k - first) / w + 1)) (n - 1)
guide_high k slots n first last w pos h = among_high k w (guide_bracket slots n first last w ((k - first) / w)) pos (range_far k first w pos) h

-- the guide's end is at most one past the slots
guide_within : (k : ℕ) (distinct : Bool) (g : ℕ → ℕ) (slots : List ℕ) (n first last shift : ℕ) → guide_end k distinct g slots n first last shift ≤ n + 1
unfolding guide_end
guide_within k distinct g slots n first last shift =
    turned_by Low Near (turn_at k distinct g b m) (λ c. search_end k distinct g c)
    (turn_by k distinct g Low Near b m (λ _. low)
    (λ o _ _. let y = high o in omega arith)
    (λ o _. let y = high o in (omega arith, omega arith))
    (λ o _. let y = high o in (low, omega arith)))
    (λ c q. end_within k distinct g (n + 1) c.hi c q.0 q.1)
  where
    w : ℕ
    w = range_width shift

    b : Bracket
    b = guide_bracket slots n first last w ((k - first) / w)

    m : ℕ
    m = among k w b

    Low : ℕ → Type 0
    Low e = e ≤ n + 1

    Near : Bracket → Type 0
    Near c = (c.lo ≤ n + 1) × (c.hi ≤ n + 1)

    high : b.lo < b.hi → m < b.hi
    high o = guide_high k slots n first last w (wide_pos (shift % 32)) o

    low : b.lo ≤ n + 1
    low = go (less_or ((k - first) / w) n)
      where
        go : ((k - first) / w < n) ⊎ (n ≤ (k - first) / w) → b.lo ≤ n + 1
        go (inl l) = let e = start_in slots n ((k - first) / w) l in omega arith
        go (inr l) = let e = start_out slots n ((k - first) / w) l in omega arith

-- the end of n slots is at most one past them
pub end_of_within : (k : ℕ) (b : Ids) (slots : List ℕ) (g : ℕ → ℕ) (n : ℕ) → end_of k b slots g n ≤ n + 1
end_of_within k b slots g n = go (leb b.last k) refl
  where
    rest : (t : Bool) → pick t (guide_end k b.distinct g slots n b.first b.last b.shift) (search_end k b.distinct g (whole_bracket n b.first b.last)) ≤ n + 1
    rest true = guide_within k b.distinct g slots n b.first b.last b.shift
    rest false = end_within k b.distinct g (n + 1) (n - 1) (whole_bracket n b.first b.last) (omega arith) (omega arith)

    steps : k < b.last → (t : Bool) → pick t (even_end k n b.first b.last) (pick b.direct (guide_end k b.distinct g slots n b.first b.last b.shift) (search_end k b.distinct g (whole_bracket n b.first b.last))) ≤ n + 1
    steps l true = let e = share_most (k - b.first) (n - 1) (b.last - b.first) (omega arith) in omega arith
    steps l false = rest b.direct

    inner : k < b.last → (t : Bool) → pick t 0 (pick b.even (even_end k n b.first b.last) (pick b.direct (guide_end k b.distinct g slots n b.first b.last b.shift) (search_end k b.distinct g (whole_bracket n b.first b.last)))) ≤ n + 1
    inner l true = omega arith
    inner l false = steps l b.even

    go : (t : Bool) → leb b.last k ≡ t → pick t n (pick (ltb k b.first) 0 (pick b.even (even_end k n b.first b.last) (pick b.direct (guide_end k b.distinct g slots n b.first b.last b.shift) (search_end k b.distinct g (whole_bracket n b.first b.last))))) ≤ n + 1
    go true e = omega arith
    go false e = inner (leb-false b.last k e) (ltb k b.first)

-- the slots that hold ids up to k end at e
pub record SlotsEnd (g : ℕ → ℕ) (n k e : ℕ) : Type 0 where
  pub inside : e ≤ n
  pub low : (i : ℕ) → i < e → g i ≤ k
  pub high : (i : ℕ) → e ≤ i → i < n → k < g i

module _ (k : ℕ) (distinct : Bool) (g : ℕ → ℕ) (n : ℕ)
    (mono : (i j : ℕ) → i ≤ j → j < n → g i ≤ g j)
    (strict : distinct ≡ true → (i j : ℕ) → i < j → j < n → g i < g j) where
  -- what a turn keeps: the slots before the bracket hold ids up to k, those behind it greater ones
  record Between (m : ℕ) (b : Bracket) : Type 0 where
    pub enough : b.hi ≤ m + b.lo
    pub inside : b.lo ≤ n
    pub room : b.hi ≤ n
    pub low : (i : ℕ) → i < b.lo → g i ≤ k
    pub high : (i : ℕ) → b.hi ≤ i → i < n → k < g i

  -- one turn at a slot of the bracket keeps that slots before the bracket hold ids up to k, those behind it greater ones
  between_turns : (m : ℕ) (b : Bracket) (p : ℕ) → b.lo ≤ p → (b.lo < b.hi → p < b.hi) → Between (suc m) b → Turns (SlotsEnd g n k) (Between m) (turn_at k distinct g b p)
  between_turns m b p u v q = turn_by k distinct g (SlotsEnd g n k) (Between m) b p
      (λ h. record { inside = q.inside; low = q.low; high = λ i l o. q.high i (omega arith) o })
      (λ h d e. let w = v h in let r = q.room in
      record {
        inside = omega arith;
        low = λ i l. let z = mono i p (omega arith) (omega arith) in omega arith;
        high = λ i l o. let z = strict d p i (omega arith) o in omega arith;
      })
      (λ h e. let w = v h in let r = q.room in let y = q.enough in
      record {
        enough = omega arith;
        inside = omega arith;
        room = q.room;
        low = λ i l. let z = mono i p (omega arith) (omega arith) in omega arith;
        high = q.high;
      })
      (λ h e. let w = v h in let r = q.room in let y = q.enough in
      record {
        enough = omega arith;
        inside = q.inside;
        room = omega arith;
        low = q.low;
        high = λ i l o. let z = mono p i l o in omega arith;
      })

  -- from a bracket before which slots hold ids up to k, and behind which greater ones, the search finds the end
  ended_right : (b : Bracket) → Between b.hi b → SlotsEnd g n k (search_end k distinct g b)
  ended_right b q =
      end_by k distinct g (SlotsEnd g n k) Between
      (λ c r. let y = r.enough in record { inside = r.inside; low = r.low; high = λ i u v. r.high i (omega arith) v })
      (λ m c r. between_turns m c (probe_of k c) (probe_low k c) (probe_high k c) r) b.hi b q

  module _ (first last : ℕ) (some-row : 0 < n) (a : first ≡ g 0) (z : last ≡ g (n - 1)) (l : first ≤ k) (o : k < last) where
    -- where the id sought lies from the first id on and below the last, there are at least two rows
    two : 2 ≤ n
    two = go (less_or 1 n)
      where
        go : (1 < n) ⊎ (n ≤ 1) → 2 ≤ n
        go (inl h) = h
        go (inr h) = let e : n - 1 ≡ 0 = omega arith in let f : g (n - 1) ≡ g 0 = ap g e in absurd (omega arith)

    -- the search through all slots, from the ids beside them, finds the end of those with ids up to the one sought
    opening_right : SlotsEnd g n k (search_end k distinct g (whole_bracket n first last))
    opening_right =
        ended_right (whole_bracket n first last)
        (record {
          enough = omega arith;
          inside = omega arith;
          room = omega arith;
          low = λ i b. let y : i ≡ 0 = omega arith in subst (λ (x : ℕ). g x ≤ k) (sym y) (subst (λ (x : ℕ). x ≤ k) a l);
          high = λ i u v. let y = mono (n - 1) i u v in omega arith;
        })

    -- the end by the step is that of the slots with ids up to the one sought
    even_right : Steady (λ x. x) g n → SlotsEnd g n k (even_end k n first last)
    even_right r = by (even_place (k - first) (n - 1) step (omega (arith, two)))
      where
        step : ℕ
        step = step_of (λ x. x) g

        at : (i : ℕ) → i < n → g i ≡ first + i * step
        at i h = let e = steady_at (λ x. x) g n r i h in omega arith

        span : last - first ≡ (n - 1) * step
        span = let e = at (n - 1) (omega arith) in omega arith

        by : (k - first) * (n - 1) / ((n - 1) * step) ≡ (k - first) / step → SlotsEnd g n k (even_end k n first last)
        by e = subst (λ (x : ℕ). SlotsEnd g n k x) (sym (ap (λ (x : ℕ). (k - first) * (n - 1) / x + 1) span ∙ ap (λ (x : ℕ). x + 1) e)) (place ((k - first) / step) (div-mul-le_self (k - first) step) (lt-div-mul-add {a = k - first} {b = step} (omega arith)))
          where
            place : (q : ℕ) → q * step ≤ k - first → k - first < q * step + step → SlotsEnd g n k (q + 1)
            place q u v =
                record {
                  inside = let t = inside (less_or q (n - 1)) in omega arith;
                  low = λ i b. let y = at i (let t = inside (less_or q (n - 1)) in omega arith) in let x = mul-le-mul_right {m = i} {n = q} step (omega arith) in omega arith;
                  high = λ i b c. let y = at i c in let x = mul-le-mul_right {m = q + 1} {n = i} step b in let w : (q + 1) * step ≡ q * step + step = add-mul q 1 step ∙ omega arith in omega arith;
                }
              where
                inside : (q < n - 1) ⊎ (n - 1 ≤ q) → q < n - 1
                inside (inl h) = h
                inside (inr h) = let x = mul-le-mul_right {m = n - 1} {n = q} step h in absurd (omega (arith, x, u, span, o))

    -- the end by the guide is that of the rows with ids up to the one sought
    guide_right : (slots : List ℕ) (shift : ℕ) → shift < 32 → (last - first) / 2 ^ shift < max 2 n → Guides g n first shift slots → SlotsEnd g n k (guide_end k distinct g slots n first last shift)
    unfolding guide_end
    guide_right slots shift short fits guides =
        turned_by (SlotsEnd g n k) (Between n) (turn_at k distinct g b (among k w b)) (λ c. search_end k distinct g c)
        (between_turns n b (among k w b) (among_low k w b) (λ h. guide_high k slots n first last w (wide_pos (shift % 32)) h) between)
        (λ c r. ended_right c (record { enough = omega arith; inside = r.inside; room = r.room; low = r.low; high = r.high }))
      where
        w : ℕ
        w = range_width shift

        q : ℕ
        q = (k - first) / w

        b : Bracket
        b = guide_bracket slots n first last w q

        same : w ≡ 2 ^ shift
        same = ap (λ (x : ℕ). 2 ^ x) (mod-eq_of_lt {n = shift} {m = 32} short)

        held : (i : ℕ) → i < n → RowsStart g n (first + i * w) (get_or slots i 0)
        held = subst (λ (x : ℕ). (i : ℕ) → i < n → RowsStart g n (first + i * x) (get_or slots i 0)) (sym same) guides

        ranges : (last - first) / w < max 2 n
        ranges = subst (λ (x : ℕ). (last - first) / x < max 2 n) (sym same) fits

        inside : q < n
        inside = let e = range_most (k - first) (last - first) w (wide_pos (shift % 32)) (omega arith) in omega (arith, e, ranges, two)

        here : RowsStart g n (first + q * w) (get_or slots q 0)
        here = held q inside

        start : start_at slots n q ≡ get_or slots q 0
        start = let e = start_in slots n q inside in let f = here.inside in omega arith

        low : (i : ℕ) → i < max 1 (start_at slots n q) → g i ≤ k
        low i h = go (less_or i (get_or slots q 0))
          where
            go : (i < get_or slots q 0) ⊎ (get_or slots q 0 ≤ i) → g i ≤ k
            go (inl u) = let e = here.below i u in let f = range_low k first w (wide_pos (shift % 32)) l in omega (arith, e, f)
            go (inr u) = let e : i ≡ 0 = omega (arith, start, h, u) in subst (λ (x : ℕ). g x ≤ k) (sym e) (subst (λ (x : ℕ). x ≤ k) a l)

        next : (i : ℕ) → start_at slots n (q + 1) ≤ i → i < n → k < g i
        next i h v = go (less_or (q + 1) n)
          where
            go : (q + 1 < n) ⊎ (n ≤ q + 1) → k < g i
            go (inl u) =
                let s = held (q + 1) u in
                let e = start_in slots n (q + 1) u in
                let c = s.inside in
                let x = s.from i (omega (arith, e, c, h)) v in
                let y = range_high k first w (wide_pos (shift % 32)) in
                omega (arith, x, y)
            go (inr u) = let e = start_out slots n (q + 1) u in absurd (omega (arith, e, h, v))

        high : (i : ℕ) → min (start_at slots n (q + 1)) (n - 1) ≤ i → i < n → k < g i
        high i h v = go (less_or i (n - 1))
          where
            go : (i < n - 1) ⊎ (n - 1 ≤ i) → k < g i
            go (inl u) = next i (omega (arith, h, u)) v
            go (inr u) = let y = mono (n - 1) i u v in omega arith

        between : Between (suc n) b
        between = record { enough = omega arith; inside = let e = here.inside in omega (arith, e, start, two); room = omega arith; low = low; high = high }

  -- what a search finds, from what stands in the slots and beside them, is the end of the slots with ids up to the one sought
  pub end_right : (b : Ids) (slots : List ℕ) → b.distinct ≡ distinct → 0 < n → b.first ≡ g 0 → b.last ≡ g (n - 1) → (b.even ≡ true → Steady (λ x. x) g n) → (b.direct ≡ true → Guides g n b.first b.shift slots) → (b.last - b.first) / 2 ^ b.shift < max 2 n → b.shift < 32 → SlotsEnd g n k (end_of k b slots g n)
  end_right b slots same h a z steady guides fits short = go (leb b.last k) refl
    where
      rest : b.first ≤ k → k < b.last → (t : Bool) → b.direct ≡ t → SlotsEnd g n k (pick t (guide_end k b.distinct g slots n b.first b.last b.shift) (search_end k b.distinct g (whole_bracket n b.first b.last)))
      rest l o true e = subst (λ (d : Bool). SlotsEnd g n k (guide_end k d g slots n b.first b.last b.shift)) (sym same) (guide_right b.first b.last h a z l o slots b.shift short fits (guides e))
      rest l o false e = subst (λ (d : Bool). SlotsEnd g n k (search_end k d g (whole_bracket n b.first b.last))) (sym same) (opening_right b.first b.last h a z l o)

      steps : b.first ≤ k → k < b.last → (t : Bool) → b.even ≡ t → SlotsEnd g n k (pick t (even_end k n b.first b.last) (pick b.direct (guide_end k b.distinct g slots n b.first b.last b.shift) (search_end k b.distinct g (whole_bracket n b.first b.last))))
      steps l o true e = even_right b.first b.last h a z l o (steady e)
      steps l o false e = rest l o b.direct refl

      inner : k < b.last → (t : Bool) → ltb k b.first ≡ t → SlotsEnd g n k (pick t 0 (pick b.even (even_end k n b.first b.last) (pick b.direct (guide_end k b.distinct g slots n b.first b.last b.shift) (search_end k b.distinct g (whole_bracket n b.first b.last)))))
      inner o true e =
          let l = ltb-true k b.first e in
          record { inside = omega arith; low = λ i c. absurd (omega arith); high = λ i _ c. let y = mono 0 i (omega arith) c in omega arith }
      inner o false e = steps (ltb-false k b.first e) o b.even refl

      go : (t : Bool) → leb b.last k ≡ t → SlotsEnd g n k (pick t n (pick (ltb k b.first) 0 (pick b.even (even_end k n b.first b.last) (pick b.direct (guide_end k b.distinct g slots n b.first b.last b.shift) (search_end k b.distinct g (whole_bracket n b.first b.last))))))
      go true e =
          let l = leb-true b.last k e in
          record { inside = omega arith; low = λ i c. let y = mono i (n - 1) (omega arith) (omega arith) in omega arith; high = λ i u v. absurd (omega arith) }
      go false e = inner (leb-false b.last k e) (ltb k b.first) refl

module _ (f : ℕ → ℕ) (slots : List ℕ) (direct : Bool) (n k : ℕ) where
  -- a row that is served lies in the table and has the id, whatever the slots hold
  pub served_safe : (e r : ℕ) → served_of f slots direct n k e ≡ Some r → (r < n) × (f r ≡ k)
  served_safe e r = go (eqb e 0)
    where
      at_row : (s t : Bool) → ltb (slot_row direct slots (e - 1)) n ≡ s → eqb (f (slot_row direct slots (e - 1))) k ≡ t → pick (s && t) (Some (slot_row direct slots (e - 1))) None ≡ Some r → (r < n) × (f r ≡ k)
      at_row true true a b d =
          let q : slot_row direct slots (e - 1) ≡ r = cc in
          (subst (λ (z : ℕ). z < n) q (ltb-true (slot_row direct slots (e - 1)) n a), subst (λ (z : ℕ). f z ≡ k) q (eqb-true (f (slot_row direct slots (e - 1))) k b))
      at_row true false a b d = let z : ◌≡◌ {A = ℕ} 0 1 = cc in absurd (omega arith)
      at_row false t a b d = let z : ◌≡◌ {A = ℕ} 0 1 = cc in absurd (omega arith)

      go : (t : Bool) → pick t None (pick (ltb (slot_row direct slots (e - 1)) n && eqb (f (slot_row direct slots (e - 1))) k) (Some (slot_row direct slots (e - 1))) None) ≡ Some r → (r < n) × (f r ≡ k)
      go true d = let z : ◌≡◌ {A = ℕ} 0 1 = cc in absurd (omega arith)
      go false d = at_row (ltb (slot_row direct slots (e - 1)) n) (eqb (f (slot_row direct slots (e - 1))) k) refl refl d

  module _ (x : Ranks f n (slot_row direct slots)) (same : (i : ℕ) → i < n → slot_id f direct slots i ≡ f (slot_row direct slots i)) (e : ℕ)
      (w : SlotsEnd (slot_id f direct slots) n k e) where
    -- the slot of a row with the id lies before the end
    before_end : (j : ℕ) → j < n → f j ≡ k → (s : Along n j (slot_row direct slots)) → s.slot < e
    before_end j b d s = go (less_or s.slot e)
      where
        go : (s.slot < e) ⊎ (e ≤ s.slot) → s.slot < e
        go (inl l) = l
        go (inr l) =
            let o : k < slot_id f direct slots s.slot = w.high s.slot l s.inside in
            let q : slot_id f direct slots s.slot ≡ k = same s.slot s.inside ∙ ap f s.holds ∙ d in
            absurd (omega (arith, o, q))

    -- the row before the end, where it has the id, is the last that has it
    served_last : 0 < e → f (slot_row direct slots (e - 1)) ≡ k → IsLast f n k (slot_row direct slots (e - 1))
    served_last h d =
        let y = w.inside in
        record { row = x.rows (e - 1) (omega arith); named = d; last = λ j a b c. later j a b c (x.whole j b) }
      where
        later : (j : ℕ) → slot_row direct slots (e - 1) < j → j < n → f j ≡ k → Along n j (slot_row direct slots) → ⊥
        later j a b c s = go (ordered s.slot (e - 1))
          where
            y : e ≤ n
            y = w.inside

            t : s.slot < e
            t = before_end j b c s

            last : Before f (slot_row direct slots s.slot) (slot_row direct slots (e - 1)) → ⊥
            last (inl l) = let p : f (slot_row direct slots s.slot) ≡ k = ap f s.holds ∙ c in omega arith
            last (inr l) = let p : slot_row direct slots s.slot ≡ j = s.holds in let q = l.1 in omega arith

            go : (s.slot < e - 1) ⊎ ((s.slot ≡ e - 1) ⊎ (e - 1 < s.slot)) → ⊥
            go (inl l) = last (x.order s.slot (e - 1) l (omega (arith, y)))
            go (inr (inl l)) = let p : slot_row direct slots (e - 1) ≡ j = ap (λ (z : ℕ). slot_row direct slots z) (sym l) ∙ s.holds in omega arith
            go (inr (inr l)) = omega (arith, t)

    -- where the row before the end has not the id, no row has
    served_missing : (0 < e → f (slot_row direct slots (e - 1)) ≡ k → ⊥) → Missing f n k
    served_missing h j b c = go (x.whole j b)
      where
        y : e ≤ n
        y = w.inside

        go : Along n j (slot_row direct slots) → ⊥
        go s = by (ordered s.slot (e - 1))
          where
            t : s.slot < e
            t = before_end j b c s

            p : f (slot_row direct slots s.slot) ≡ k
            p = ap f s.holds ∙ c

            under : f (slot_row direct slots (e - 1)) ≤ k
            under = subst (λ (z : ℕ). z ≤ k) (same (e - 1) (omega (arith, t, y))) (w.low (e - 1) (omega (arith, t)))

            last : Before f (slot_row direct slots s.slot) (slot_row direct slots (e - 1)) → ⊥
            last (inl l) = omega (arith, p, under)
            last (inr l) = h (omega (arith, t)) (sym l.0 ∙ p)

            by : (s.slot < e - 1) ⊎ ((s.slot ≡ e - 1) ⊎ (e - 1 < s.slot)) → ⊥
            by (inl l) = last (x.order s.slot (e - 1) l (omega (arith, t, y)))
            by (inr (inl l)) = h (omega (arith, t)) (ap (λ (z : ℕ). f (slot_row direct slots z)) (sym l) ∙ p)
            by (inr (inr l)) = omega (arith, t)

    -- what is served by an end is the last row of the id, or there is none
    pub served_right : LookupForm f n k (served_of f slots direct n k e)
    served_right = go (eqb e 0) refl
      where
        y : e ≤ n
        y = w.inside

        at_row : 0 < e → (s t : Bool) → ltb (slot_row direct slots (e - 1)) n ≡ s → eqb (f (slot_row direct slots (e - 1))) k ≡ t → LookupForm f n k (pick (s && t) (Some (slot_row direct slots (e - 1))) None)
        at_row h true true a b =
            served_last h (eqb-true (f (slot_row direct slots (e - 1))) k b)
        at_row h true false a b =
            served_missing (λ _ d. eqb-false (f (slot_row direct slots (e - 1))) k b d)
        at_row h false t a b =
            let o = ltb-false (slot_row direct slots (e - 1)) n a in
            let v = x.rows (e - 1) (omega (arith, y, h)) in
            absurd (omega (arith, o, v))

        go : (t : Bool) → eqb e 0 ≡ t → LookupForm f n k (pick t None (pick (ltb (slot_row direct slots (e - 1)) n && eqb (f (slot_row direct slots (e - 1))) k) (Some (slot_row direct slots (e - 1))) None))
        go true d = let q : e ≡ 0 = eqb-true e 0 d in served_missing (λ h _. omega arith)
        go false d = let q = eqb-false e 0 d in at_row (omega arith) (ltb (slot_row direct slots (e - 1)) n) (eqb (f (slot_row direct slots (e - 1))) k) refl refl

-- a table of no rows serves none
served_none : (f : ℕ → ℕ) (slots : List ℕ) (direct : Bool) (k e : ℕ) → served_of f slots direct 0 k e ≡ None
served_none f slots direct k e = go (eqb e 0)
  where
    go : (t : Bool) → pick t None (pick (ltb (slot_row direct slots (e - 1)) 0 && eqb (f (slot_row direct slots (e - 1))) k) (Some (slot_row direct slots (e - 1))) None) ≡ None
    go true = refl
    go false = rw (le-ltb (slot_row direct slots (e - 1)) 0 (omega arith)) refl

-- what `build` leaves gives the rows in order, and the ids in the slots are theirs
sorts : (f : ℕ → ℕ) (n : ℕ) (old slots : List ℕ) (b : Ids) → n ≤ 1073741824 → Built f n old slots b → Ranks f n (slot_row b.direct slots)
sorts f n old slots b m h = go b.direct h.direct h.held
  where
    go : (t : Bool) → TestTells t (Rises f (λ j. j) n) → SlotsHold t f n b.first b.shift slots → Ranks f n (slot_row t slots)
    go true r w = direct_ranks f n r
    go false r w = index_ranks f n slots m w

named : (f : ℕ → ℕ) (n : ℕ) (old slots : List ℕ) (b : Ids) → n ≤ 1073741824 → Built f n old slots b → (i : ℕ) → i < n → slot_id f b.direct slots i ≡ f (slot_row b.direct slots i)
named f n old slots b m h = go b.direct h.held
  where
    go : (t : Bool) → SlotsHold t f n b.first b.shift slots → (i : ℕ) → i < n → slot_id f t slots i ≡ f (slot_row t slots i)
    go true w i l = refl
    go false w i l = index_id f n slots m w i l

-- what `build` leaves for n rows is searched like the map written to in file order
built_right : (f : ℕ → ℕ) (old slots : List ℕ) (n k : ℕ) (b : Ids) → n ≤ 1073741824 → Built f n old slots b → served_of f slots b.direct n k (end_of k b slots (slot_id f b.direct slots) n) ≡ lookup_of f n k
built_right f old slots n k b m h = go (less_or 0 n)
  where
    g : ℕ → ℕ
    g = slot_id f b.direct slots

    s : Ranks f n (slot_row b.direct slots)
    s = sorts f n old slots b m h

    same : (i : ℕ) → i < n → g i ≡ f (slot_row b.direct slots i)
    same = named f n old slots b m h

    near : (i j : ℕ) → i < j → j < n → g i ≤ g j
    near i j l o = less (s.order i j l o)
      where
        p : g i ≡ f (slot_row b.direct slots i)
        p = same i (omega arith)

        q : g j ≡ f (slot_row b.direct slots j)
        q = same j o

        less : Before f (slot_row b.direct slots i) (slot_row b.direct slots j) → g i ≤ g j
        less (inl a) = omega (arith, p, q, a)
        less (inr a) = let c = a.0 in omega (arith, p, q, c)

    mono : (i j : ℕ) → i ≤ j → j < n → g i ≤ g j
    mono i j l o = by (ordered i j)
      where
        by : (i < j) ⊎ ((i ≡ j) ⊎ (j < i)) → g i ≤ g j
        by (inl a) = near i j a o
        by (inr (inl a)) = subst (λ (z : ℕ). g i ≤ g z) a (omega arith)
        by (inr (inr a)) = absurd (omega arith)

    strict : b.distinct ≡ true → (i j : ℕ) → i < j → j < n → g i < g j
    strict d i j l o =
        let r : Rises f (slot_row b.direct slots) n = subst (λ (t : Bool). TestTells t (Rises f (slot_row b.direct slots) n)) d h.distinct in
        let q : i + suc (j - i - 1) ≡ j = omega arith in
        let e = subst (λ (z : ℕ). f (slot_row b.direct slots i) < f (slot_row b.direct slots z)) q (rises_far f (slot_row b.direct slots) n r i (j - i - 1) (omega arith)) in
        let u = same i (omega arith) in
        let v = same j o in
        omega (arith, e, u, v)

    steady : b.even ≡ true → Steady (λ x. x) g n
    steady d = steady_same f (slot_row b.direct slots) g n same (subst (λ (t : Bool). TestTells t (Steady f (slot_row b.direct slots) n)) d h.even)

    guides : b.direct ≡ true → Guides g n b.first b.shift slots
    guides d = subst (λ (t : Bool). Guides (slot_id f t slots) n b.first b.shift slots) (sym d) (subst (λ (t : Bool). SlotsHold t f n b.first b.shift slots) d h.held)

    ends : 0 < n → SlotsEnd g n k (end_of k b slots g n)
    ends l = end_right k b.distinct g n mono strict b slots refl l (h.first ∙ end_some f n (slot_row b.direct slots 0) l ∙ sym (same 0 l)) (h.last ∙ end_some f n (slot_row b.direct slots (n - 1)) l ∙ sym (same (n - 1) (omega arith))) steady guides h.shift.fits h.shift.short

    go : (0 < n) ⊎ (n ≤ 0) → served_of f slots b.direct n k (end_of k b slots g n) ≡ lookup_of f n k
    go (inl l) = sym (lookup_only f n k (served_of f slots b.direct n k (end_of k b slots g n)) (served_right f slots b.direct n k s same (end_of k b slots g n) (ends l)))
    go (inr l) = let q : n ≡ 0 = omega arith in subst (λ (z : ℕ). served_of f slots b.direct z k (end_of k b slots g n) ≡ lookup_of f z k) (sym q) (served_none f slots b.direct k (end_of k b slots g n) ∙ empty f k)
      where
        empty : (e : ℕ → ℕ) (j : ℕ) → None ≡ lookup_of e 0 j
        empty e j = sym (lookup_only e 0 j None (λ r u v. absurd (omega arith)))

-- where no id stands twice, rows of one id are one row
one_row : (f : ℕ → ℕ) (n : ℕ) (old slots : List ℕ) (b : Ids) → n ≤ 1073741824 → Built f n old slots b → b.distinct ≡ true → (i j : ℕ) → i < n → j < n → f i ≡ f j → i ≡ j
one_row f n old slots b m h d i j a c e = go (s.whole i a) (s.whole j c)
  where
    s : Ranks f n (slot_row b.direct slots)
    s = sorts f n old slots b m h

    g : ℕ → ℕ
    g = slot_row b.direct slots

    rises : Rises f g n
    rises = subst (λ (t : Bool). TestTells t (Rises f (slot_row b.direct slots) n)) d h.distinct

    strict : (u v : ℕ) → u < v → v < n → f (g u) < f (g v)
    strict u v l o = let q : u + suc (v - u - 1) ≡ v = omega arith in subst (λ (z : ℕ). f (g u) < f (g z)) q (rises_far f g n rises u (v - u - 1) (omega arith))

    go : Along n i g → Along n j g → i ≡ j
    go p q = by (ordered p.slot q.slot)
      where
        x : g p.slot ≡ i
        x = p.holds

        y : g q.slot ≡ j
        y = q.holds

        same : f (g p.slot) ≡ f (g q.slot)
        same = ap f x ∙ e ∙ sym (ap f y)

        by : (p.slot < q.slot) ⊎ ((p.slot ≡ q.slot) ⊎ (q.slot < p.slot)) → i ≡ j
        by (inl l) = let o = strict p.slot q.slot l q.inside in absurd (omega (arith, o, same))
        by (inr (inl l)) = sym x ∙ ap g l ∙ y
        by (inr (inr l)) = let o = strict q.slot p.slot l p.inside in absurd (omega (arith, o, same))

-- the row that is looked at first, where it has the id, is the one that the map has
first_right : (f : ℕ → ℕ) (old slots : List ℕ) (n k : ℕ) (b : Ids) → n ≤ 1073741824 → Built f n old slots b → first_row slots b k < n → f (first_row slots b k) ≡ k → Some (first_row slots b k) ≡ lookup_of f n k
first_right f old slots n k b m h l e = sym (lookup_only f n k (Some (first_row slots b k)) (record { row = l; named = e; last = λ j a c d. let q = one_row f n old slots b m h single (first_row slots b k) j l c (e ∙ sym d) in omega arith }))
  where
    single : b.distinct ≡ true
    single = go (ltb k b.first) b.distinct (eqb b.shift 0) refl refl refl
      where
        outside : first_row slots b k ≡ 4294967295 → b.distinct ≡ true
        outside q = absurd (omega (arith, q, l, m))

        go : (s t u : Bool) → ltb k b.first ≡ s → b.distinct ≡ t → eqb b.shift 0 ≡ u → b.distinct ≡ true
        go true t u p q r = outside (rw p refl)
        go false true u p q r = q
        go false false u p q r = outside (rw (p, q) refl)

-- "Lookup of an id answers like a map written to in file order": `get` over what `build` left
pub get_right : (f : ℕ → ℕ) (R : ℕ) (old slots : List ℕ) (count k : ℕ) (b : Ids) → Built f (table_room R (length old) count) old slots b → search_in f R slots b k ≡ lookup_of f (table_room R (length old) count) k
get_right f R old slots count k b h = go (ltb (first_row slots b k) m) (eqb (f (first_row slots b k)) k) refl refl
  where
    n : ℕ
    n = table_room R (length old) count

    m : ℕ
    m = table_room R (length slots) b.count

    q : m ≡ n
    q = let s : length slots ≡ length old = h.size in let c : b.count ≡ table_room R (length old) count = h.count in omega (arith, s, c)

    found : sought_in f R slots b k ≡ lookup_of f n k
    found = ap (λ (z : ℕ). served_of f slots b.direct z k (end_of k b slots (slot_id f b.direct slots) z)) q ∙ built_right f old slots n k b (omega arith) h

    go : (s t : Bool) → ltb (first_row slots b k) m ≡ s → eqb (f (first_row slots b k)) k ≡ t → pick (s && t) (Some (first_row slots b k)) (sought_in f R slots b k) ≡ lookup_of f n k
    go true true e d = first_right f old slots n k b (omega arith) h (subst (λ (z : ℕ). first_row slots b k < z) q (ltb-true (first_row slots b k) m e)) (eqb-true (f (first_row slots b k)) k d)
    go true false e d = found
    go false t e d = found

-- whatever the slots and the numbers beside them, what is served lies in the table and has the id
pub get_safe : (f : ℕ → ℕ) (R : ℕ) (slots : List ℕ) (b : Ids) (k r : ℕ) → search_in f R slots b k ≡ Some r → (r < table_room R (length slots) b.count) × (f r ≡ k)
get_safe f R slots b k r = go (ltb (first_row slots b k) n) (eqb (f (first_row slots b k)) k) refl refl
  where
    n : ℕ
    n = table_room R (length slots) b.count

    found : sought_in f R slots b k ≡ Some r → (r < n) × (f r ≡ k)
    found e = served_safe f slots b.direct n k (end_of k b slots (slot_id f b.direct slots) n) r e

    go : (s t : Bool) → ltb (first_row slots b k) n ≡ s → eqb (f (first_row slots b k)) k ≡ t → pick (s && t) (Some (first_row slots b k)) (sought_in f R slots b k) ≡ Some r → (r < n) × (f r ≡ k)
    go true true a c d =
        let q : first_row slots b k ≡ r = cc in
        (subst (λ (z : ℕ). z < n) q (ltb-true (first_row slots b k) n a), subst (λ (z : ℕ). f z ≡ k) q (eqb-true (f (first_row slots b k)) k c))
    go true false a c d = found d
    go false t a c d = found d

module _ (f : ℕ → ℕ) (R : ℕ) (slots : List ℕ) (b : Ids) (k : ℕ) where
  -- where the row that is looked at first has the id, it is the search's answer
  pub get_first : (r : ℕ) → r ≡ first_row slots b k → (t : Bool) → t ≡ row_has_id f (table_room R (length slots) b.count) r k → t ≡ true → Some r ≡ search_in f R slots b k
  get_first r e t q h = subst (λ (z : ℕ). Some r ≡ pick (row_has_id f (table_room R (length slots) b.count) z k) (Some z) (sought_in f R slots b k)) e (rw (sym q ∙ h) refl)

  -- where the row that is looked at first has not the id, the search's answer is what is sought through brackets
  pub get_later : (r : ℕ) → r ≡ first_row slots b k → (t : Bool) → t ≡ row_has_id f (table_room R (length slots) b.count) r k → t ≡ false → sought_in f R slots b k ≡ search_in f R slots b k
  get_later r e t q h = subst (λ (z : ℕ). sought_in f R slots b k ≡ pick (row_has_id f (table_room R (length slots) b.count) z k) (Some z) (sought_in f R slots b k)) e (rw (sym q ∙ h) refl)

module _ (f : ℕ → ℕ) (R : ℕ) (slots : List ℕ) (b : Ids) (k n e : ℕ) (room : n ≡ table_room R (length slots) b.count) (end : e ≡ end_of k b slots (slot_id f b.direct slots) n) where
  -- an end of the slots is at most one past 2^30, the most rows that the index speaks of
  pub end_small : e ≤ 1073741825
  end_small = let q = end_of_within k b slots (slot_id f b.direct slots) n in omega (arith, room, end, q)

  -- what is served by the code's row count and end is what is sought through brackets
  sought_is : served_of f slots b.direct (table_room R (length slots) b.count) k e ≡ sought_in f R slots b k
  sought_is = ap (λ (z : ℕ). served_of f slots b.direct (table_room R (length slots) b.count) k z) (end ∙ ap (λ (z : ℕ). end_of k b slots (slot_id f b.direct slots) z) room)

  -- where no slot holds an id up to the one sought, none is answered
  pub seek_none : e ≡ 0 → None ≡ sought_in f R slots b k
  seek_none h = sym (rw (eq-eqb e 0 h) refl) ∙ sought_is

  module _ (r : ℕ) (row : r ≡ slot_row b.direct slots (e - 1)) (some-slot : e ≡ 0 → ⊥) (t : Bool) (told : t ≡ row_has_id f (table_room R (length slots) b.count) r k) where
    -- the row of the last slot with an id up to the one sought is the answer where it has that id, else there is none
    served : pick t (Some r) None ≡ sought_in f R slots b k
    served =
        subst (λ (u : Bool). pick u (Some r) None ≡ sought_in f R slots b k) (sym told)
        (subst (λ (z : ℕ). pick (row_has_id f (table_room R (length slots) b.count) z k) (Some z) None ≡ sought_in f R slots b k) (sym row) (sym (rw (ne_eqb e 0 some-slot) refl) ∙ sought_is))

    -- where the row of the last slot with an id up to the one sought has that id, it is the answer
    pub seek_hit : t ≡ true → Some r ≡ sought_in f R slots b k
    seek_hit h = rw h at served

    -- where the row of the last slot with an id up to the one sought has not that id, none is answered
    pub seek_other : t ≡ false → None ≡ sought_in f R slots b k
    seek_other h = rw h at served

-- a lookup in a table in lent memory, over what `build` left, gives the map's answer
pub found_right : (rows old slots : List ℕ) (count k : ℕ) (b : Ids) → Built (id_of rows) (table_room (rows_fit (length rows)) (length old) count) old slots b
    → searched rows slots b k ≡ lookup_of (id_of rows) (table_room (rows_fit (length rows)) (length old) count) k
found_right rows old slots count k b h = get_right (id_of rows) (rows_fit (length rows)) old slots count k b h

-- whatever was lent, a row that a lookup in a table serves lies in the table and has the id
pub found_safe : (rows slots : List ℕ) (b : Ids) (k r : ℕ) → searched rows slots b k ≡ Some r → (r < table_room (rows_fit (length rows)) (length slots) b.count) × (id_of rows r ≡ k)
found_safe rows slots b k r e = get_safe (id_of rows) (rows_fit (length rows)) slots b k r e
