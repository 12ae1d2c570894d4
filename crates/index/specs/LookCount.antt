-- "looked up in O(log n) at worst, on any ids": how many slots' ids a search looks at, whatever the slots hold. Six guided probes at most
-- come first; after them each look halves what is left. And how many looks at slots may be at a cache line of their own: eight slots of
-- 64 bits fill one, so that what lies between two slots at most eight apart lies in their lines. By the guide rows of 24 bytes are looked at,
-- and each may be at a line of its own. Assumes nothing.
use Prim.Native.Nat.{ℕ, zero, suc, ◌+◌, ◌-◌, ◌*◌, ◌/◌, ◌%◌, ◌^◌, ◌≤◌, ◌<◌}
use Rattle.std.specs.Prelude.{◌≡◌, Bool, true, false, List, ◌⊎◌, ltb, leb}
use Rattle.std.proofs.Math.Path.{refl}
use Rattle.std.proofs.Common.{subst, inl, inr, pow-suc, eq-eqb, le-ltb}
use native.Mathlib.Omega.{arith}
use Rattle.std.proofs.Math.Nat.{pow-le-pow_right}
use Rattle.std.proofs.lemmas.Bool.{lt-leb}
use Rattle.common.specs.Pick.{pick}
use Rattle.common.specs.Compare.{ordered}
use Rattle.common.specs.Walk.{Turn, stop, on, turned}
use Rattle.index.specs.Search.{Bracket, probe_of, turn_at, bracket_turn, end_from, whole_bracket, range_width, guide_bracket, among}
use Rattle.index.specs.SearchRight.{Turns, turn_by, guide_high}
use Rattle.index.specs.Laws.{probe_low, probe_high}
use Rattle.index.specs.Guide.{wide_pos}
use Rattle.index.specs.declared.Ids.{Ids}

-- how many looks follow a look: none where the search stops there, else those at what is left
abbrev looks_after : Turn Bracket ℕ → (Bracket → ℕ) → ℕ
looks_after (stop e) go = 0
looks_after (on c) go = go c

-- how many slots a search looks at while 2^i slots are left or more, turn by turn as `Search.end_from` goes: none in a smaller bracket, else
-- one and those that follow. With i = 0 these are all of its looks
unfoldable pub looks_from : ℕ → ℕ → ℕ → Bool → (ℕ → ℕ) → Bracket → ℕ
looks_from i zero k distinct g b = 0
looks_from i (suc n) k distinct g b = pick (leb (b.lo + 2 ^ i) b.hi) (1 + looks_after (bracket_turn k distinct g b) (λ c. looks_from i n k distinct g c)) 0

-- how many rows the search by the guide looks at: the one that it looks at first, and those that follow
unfoldable pub guide_looks : ℕ → ℕ → Bool → (ℕ → ℕ) → List ℕ → ℕ → ℕ → ℕ → ℕ → ℕ
guide_looks i k distinct g slots n first last shift = pick (leb (b.lo + 2 ^ i) b.hi) (1 + looks_after (turn_at k distinct g b (among k w b)) (λ c. looks_from i c.hi k distinct g c)) 0
  where
    w : ℕ
    w = range_width shift

    b : Bracket
    b = guide_bracket slots n first last w ((k - first) / w)

-- how many slots' ids a search looks at while 2^i slots are left or more, as `Search.end_of` goes; the row that is looked at first, where
-- ids are dense, and the one that is served are read besides
abbrev pub looks_of : ℕ → ℕ → Ids → List ℕ → (ℕ → ℕ) → ℕ → ℕ
looks_of i k b slots g n = pick (leb b.last k) 0 (pick (ltb k b.first) 0 (pick b.even 0 (pick b.direct (guide_looks i k b.distinct g slots n b.first b.last b.shift) (looks_from i (n - 1) k b.distinct g (whole_bracket n b.first b.last)))))

-- t turns are enough for a bracket: its guided probes, and then as many as halve it to fewer than 2^i slots
abbrev Enough : ℕ → ℕ → Bracket → Type 0
Enough i t b = (b.guided ≤ t) × (b.hi - b.lo < 2 ^ (i + (t - b.guided)))

-- with no guided probe left, a search looks at the slot in the middle
probe_mid : (k : ℕ) (b : Bracket) → b.lo < b.hi → b.guided ≡ 0 → probe_of k b ≡ b.lo + (b.hi - b.lo) / 2
probe_mid k b h e = rw (eq-eqb b.guided 0 e) (omega arith)

-- one turn fewer is enough for the slots on either side of the slot p, with one guided probe fewer
fewer : (i q t lo hi p : ℕ) → q ≤ suc t → hi - lo < 2 ^ (i + (suc t - q)) → lo ≤ p → p < hi → (q ≡ 0 → p ≡ lo + (hi - lo) / 2)
    → (q - 1 ≤ t) × ((hi - (p + 1) < 2 ^ (i + (t - (q - 1)))) × (p - lo < 2 ^ (i + (t - (q - 1)))))
fewer i zero t lo hi p a w l h m =
    let e : i + (suc t - 0) ≡ suc (i + t) = omega arith in
    let f : t - (0 - 1) ≡ t = omega arith in
    let z : 2 ^ suc (i + t) ≡ 2 ^ (i + t) * 2 = pow-suc 2 (i + t) in
    let v : hi - lo < 2 ^ suc (i + t) = subst (λ (x : ℕ). hi - lo < 2 ^ x) e w in
    let u : p ≡ lo + (hi - lo) / 2 = m refl in
    rw f (omega arith, (omega arith, omega arith))
fewer i (suc q) t lo hi p a w l h m =
    let e : suc t - suc q ≡ t - q = omega arith in
    let f : suc q - 1 ≡ q = omega arith in
    let v : hi - lo < 2 ^ (i + (t - q)) = subst (λ (x : ℕ). hi - lo < 2 ^ (i + x)) e w in
    rw f (omega arith, (omega arith, omega arith))

-- a slot of a bracket of fewer than eight lies in the line of the slot before the bracket or of the one behind it, wherever the slots begin
-- in a line. Both were looked at, but for the first slot and the last of all
pub line_near : (at lo hi p : ℕ) → 0 < lo → hi - lo < 2 ^ 3 → lo ≤ p → p < hi → ((at + p) / 8 ≡ (at + (lo - 1)) / 8) ⊎ ((at + p) / 8 ≡ (at + hi) / 8)
line_near at lo hi p first h a b = go (ordered ((at + p) / 8) ((at + (lo - 1)) / 8)) (ordered ((at + p) / 8) ((at + hi) / 8))
  where
    few : hi - lo < 8
    few = h

    go : ((at + p) / 8 < (at + (lo - 1)) / 8) ⊎ (((at + p) / 8 ≡ (at + (lo - 1)) / 8) ⊎ ((at + (lo - 1)) / 8 < (at + p) / 8))
        → ((at + p) / 8 < (at + hi) / 8) ⊎ (((at + p) / 8 ≡ (at + hi) / 8) ⊎ ((at + hi) / 8 < (at + p) / 8))
        → ((at + p) / 8 ≡ (at + (lo - 1)) / 8) ⊎ ((at + p) / 8 ≡ (at + hi) / 8)
    go (inl x) y = absurd (omega (arith, x, a))
    go (inr (inl x)) y = inl x
    go (inr (inr x)) (inl y) = absurd (omega (arith, x, y, few, first))
    go (inr (inr x)) (inr (inl y)) = inr y
    go (inr (inr x)) (inr (inr y)) = absurd (omega (arith, y, b))

module _ (k : ℕ) (distinct : Bool) (g : ℕ → ℕ) where
  -- a turn leaves a bracket for which one turn fewer is enough
  enough_turn : (i t : ℕ) (b : Bracket) → Enough i (suc t) b → Turns (λ e. Unit {0}) (Enough i t) (bracket_turn k distinct g b)
  enough_turn i t b h =
      turn_by k distinct g (λ e. Unit {0}) (Enough i t) b (probe_of k b) (λ _. tt) (λ _ _ _. tt)
      (λ o _. let f = less o in (f.0, f.1.0))
      (λ o _. let f = less o in (f.0, f.1.1))
    where
      less : b.lo < b.hi
          → (b.guided - 1 ≤ t) × ((b.hi - (probe_of k b + 1) < 2 ^ (i + (t - (b.guided - 1)))) × (probe_of k b - b.lo < 2 ^ (i + (t - (b.guided - 1)))))
      less o = fewer i b.guided t b.lo b.hi (probe_of k b) h.0 h.1 (probe_low k b) (probe_high k b o) (probe_mid k b o)

  -- a bracket for which no turn is needed has fewer than 2^i slots
  enough_none : (i : ℕ) (b : Bracket) → Enough i 0 b → b.hi < b.lo + 2 ^ i
  enough_none i b h =
      let e : i + (0 - b.guided) ≡ i = omega arith in
      let w : b.hi - b.lo < 2 ^ i = subst (λ (x : ℕ). b.hi - b.lo < 2 ^ x) e h.1 in
      omega arith

  -- a bracket for which no turn is needed at all is empty
  enough_empty : (b : Bracket) → Enough 0 0 b → b.hi ≤ b.lo
  enough_empty b h = let w = enough_none 0 b h in let z : 2 ^ 0 ≡ 1 = refl in omega (arith, w, z)

  -- a search is over after t turns, where these are enough: more change nothing
  end_settled : (t m : ℕ) (b : Bracket) → Enough 0 t b → t ≤ m → end_from m k distinct g b ≡ end_from t k distinct g b
  unfolding end_from
  end_settled zero zero b h l = refl
  end_settled zero (suc m) b h l = rw (le-ltb b.lo b.hi (enough_empty b h)) refl
  end_settled (suc t) zero b h l = absurd (omega arith)
  end_settled (suc t) (suc m) b h l = go (bracket_turn k distinct g b) (enough_turn 0 t b h) (λ c r. end_settled t m c r (omega arith))
    where
      go : (u : Turn Bracket ℕ) → Turns (λ e. Unit {0}) (Enough 0 t) u → ((c : Bracket) → Enough 0 t c → end_from m k distinct g c ≡ end_from t k distinct g c)
          → turned u (λ c. end_from m k distinct g c) ≡ turned u (λ c. end_from t k distinct g c)
      go (stop e) r f = refl
      go (on c) r f = f c r

  -- a search looks at no more than t slots while 2^i are left, where t turns are enough
  looks_few : (i t m : ℕ) (b : Bracket) → Enough i t b → looks_from i m k distinct g b ≤ t
  unfolding looks_from
  looks_few i t zero b h = omega arith
  looks_few i zero (suc m) b h = rw (lt-leb (b.lo + 2 ^ i) b.hi (enough_none i b h)) (omega arith)
  looks_few i (suc t) (suc m) b h = by (leb (b.lo + 2 ^ i) b.hi) (go (bracket_turn k distinct g b) (enough_turn i t b h) (λ c r. looks_few i t m c r))
    where
      go : (u : Turn Bracket ℕ) → Turns (λ e. Unit {0}) (Enough i t) u → ((c : Bracket) → Enough i t c → looks_from i m k distinct g c ≤ t)
          → looks_after u (λ c. looks_from i m k distinct g c) ≤ t
      go (stop e) r f = omega arith
      go (on c) r f = f c r

      by : (o : Bool) → looks_after (bracket_turn k distinct g b) (λ c. looks_from i m k distinct g c) ≤ t
          → pick o (1 + looks_after (bracket_turn k distinct g b) (λ c. looks_from i m k distinct g c)) 0 ≤ suc t
      by true r = omega arith
      by false r = omega arith

  -- q + j turns are enough for a bracket of fewer than 2^(i + j) slots and q guided probes
  enough_few : (i q j : ℕ) (b : Bracket) → b.guided ≤ q → b.hi - b.lo < 2 ^ (i + j) → Enough i (q + j) b
  enough_few i q j b u h =
      let p : 2 ^ (i + j) ≤ 2 ^ (i + (q + j - b.guided)) = pow-le-pow_right {n = 2} (omega arith) {i = i + j} {j = i + (q + j - b.guided)} (omega arith) in
      (omega arith, omega (arith, p, h))

  -- of fewer than 2^(i + j) slots, whatever they hold, a search with q guided probes looks at no more than q + j while 2^i are left
  few_log : (i q j m : ℕ) (b : Bracket) → b.guided ≤ q → b.hi - b.lo < 2 ^ (i + j) → looks_from i m k distinct g b ≤ q + j
  few_log i q j m b u h = looks_few i (q + j) m b (enough_few i q j b u h)

  -- after q + j looks a search of fewer than 2^j slots has its answer: the turns of `Search.ended` are never all needed
  pub end_log : (q j m : ℕ) (b : Bracket) → b.guided ≤ q → b.hi - b.lo < 2 ^ j → q + j ≤ m → end_from m k distinct g b ≡ end_from (q + j) k distinct g b
  end_log q j m b u h l = end_settled (q + j) m b (enough_few 0 q j b u (rw zero-add h)) l
    where
      zero-add : 0 + j ≡ j
      zero-add = omega arith

  -- of n slots, at most 2^j, those without the first and the last are fewer than 2^j
  fewer_than : (j n lo hi : ℕ) → n ≤ 2 ^ j → 1 ≤ lo → hi ≤ n - 1 → hi - lo < 2 ^ j
  fewer_than j n lo hi h a b = let z = wide_pos j in omega (arith, h, a, b, z)

  -- by the guide, to at most 2^(i + j) rows, a search makes at most 4 + j looks: one, three guided probes, and then halving
  guide_log : (i j n first last shift : ℕ) (slots : List ℕ) → n ≤ 2 ^ (i + j) → guide_looks i k distinct g slots n first last shift ≤ 4 + j
  unfolding guide_looks
  guide_log i j n first last shift slots h = by (leb (b.lo + 2 ^ i) b.hi) (after (turn_at k distinct g b m) left)
    where
      w : ℕ
      w = range_width shift

      b : Bracket
      b = guide_bracket slots n first last w ((k - first) / w)

      m : ℕ
      m = among k w b

      Few : Bracket → Type 0
      Few c = (c.guided ≤ 3) × (c.hi - c.lo < 2 ^ (i + j))

      left : Turns (λ e. Unit {0}) Few (turn_at k distinct g b m)
      left =
          turn_by k distinct g (λ e. Unit {0}) Few b m (λ _. tt) (λ _ _ _. tt)
          (λ o _. (omega arith, fewer_than (i + j) n (m + 1) b.hi h (omega arith) (omega arith)))
          (λ o _. let y : m < b.hi = guide_high k slots n first last w (wide_pos (shift % 32)) o in (omega arith, fewer_than (i + j) n b.lo m h (omega arith) (omega arith)))

      after : (u : Turn Bracket ℕ) → Turns (λ e. Unit {0}) Few u → looks_after u (λ c. looks_from i c.hi k distinct g c) ≤ 3 + j
      after (stop e) r = omega arith
      after (on c) r = few_log i 3 j c.hi c r.0 r.1

      by : (o : Bool) → looks_after (turn_at k distinct g b m) (λ c. looks_from i c.hi k distinct g c) ≤ 3 + j
          → pick o (1 + looks_after (turn_at k distinct g b m) (λ c. looks_from i c.hi k distinct g c)) 0 ≤ 4 + j
      by true r = omega arith
      by false r = omega arith

-- "O(log n) at worst": of 2^j slots, whatever they hold, a search looks at no more than 6 + j, and by the guide at no more than 4 + j: this
-- with i = 0. With i = 3 the looks at slots that may be at a line of their own (`line_near`): of 2^(3 + j) slots no more than 6 + j. Of the
-- rows that the guide looks at `line_near` says nothing: there it is i = 0 that counts the lines
pub looks_log : (i k : ℕ) (b : Ids) (slots : List ℕ) (g : ℕ → ℕ) (n j : ℕ) → n ≤ 2 ^ (i + j) → looks_of i k b slots g n ≤ 6 + j
looks_log i k b slots g n j h = go (leb b.last k)
  where
    rest : (t : Bool) → pick t (guide_looks i k b.distinct g slots n b.first b.last b.shift) (looks_from i (n - 1) k b.distinct g (whole_bracket n b.first b.last)) ≤ 6 + j
    rest true = let e = guide_log k b.distinct g i j n b.first b.last b.shift slots h in omega arith
    rest false = few_log k b.distinct g i 6 j (n - 1) (whole_bracket n b.first b.last) (omega arith) (fewer_than k b.distinct g (i + j) n 1 (n - 1) h (omega arith) (omega arith))

    steps : (t : Bool) → pick t 0 (pick b.direct (guide_looks i k b.distinct g slots n b.first b.last b.shift) (looks_from i (n - 1) k b.distinct g (whole_bracket n b.first b.last))) ≤ 6 + j
    steps true = omega arith
    steps false = rest b.direct

    inner : (t : Bool) → pick t 0 (pick b.even 0 (pick b.direct (guide_looks i k b.distinct g slots n b.first b.last b.shift) (looks_from i (n - 1) k b.distinct g (whole_bracket n b.first b.last)))) ≤ 6 + j
    inner true = omega arith
    inner false = steps b.even

    go : (t : Bool) → pick t 0 (pick (ltb k b.first) 0 (pick b.even 0 (pick b.direct (guide_looks i k b.distinct g slots n b.first b.last b.shift) (looks_from i (n - 1) k b.distinct g (whole_bracket n b.first b.last))))) ≤ 6 + j
    go true = omega arith
    go false = inner (ltb k b.first)
