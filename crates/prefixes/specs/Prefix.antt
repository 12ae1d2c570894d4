-- Document 01, 'Units': the factor of a prefix by its name, computed; Rules.antt has the table. Assumes nothing.
use Rattle.std.specs.Prelude.{ℕ, zero, suc, ◌+◌, ◌≤◌, ◌<◌, ◌≡◌, refl, Bool, true, false, ◌&&◌, List, [], ◌∷◌, ◌++◌, eqb, length, map, drop, get_or, Float}
use Rattle.std.proofs.Common.{Bor, sym, ◌∙◌, ap, subst, arith, le_of_suc-le-suc, add-one, eqb-true, drop-cons}
use Rattle.std.proofs.Math.Decide.{dec_lt}
use Rattle.std.specs.Float.{nan, binary64}
use Rattle.std.specs.Float.Ieee.{of_bits, to_bits, size}
use Rattle.common.specs.Pick.{pick}
use Rattle.common.specs.Tests.{both}
use Rattle.record.specs.Word.{same_bytes, is_word}
use Rattle.common.specs.Bytes.{bytes}
use Rattle.record.specs.FormRight.{same_is}
use Rattle.nearest.specs.Near.{near, near_units}
use Rattle.prefixes.specs.Rules.{Prefix, prefixes, unity, ten_up, ten_down}

-- the place of the prefix that a text names, letters in either case; the number of prefixes where there is none
unfoldable pub place_in : List Prefix → List ℕ → ℕ
place_in [] t = 0
place_in (p ∷ ps) t = pick (is_word t (bytes p.name)) 0 (suc (place_in ps t))

-- the prefix that a text names, or the one of factor 1.0
abbrev pub prefix_of : List ℕ → Prefix
prefix_of t = get_or prefixes (place_in prefixes t) unity

-- the f64 nearest to the power of ten of the prefix that a text names, by its pattern
abbrev pub factor_of : List ℕ → ℕ
factor_of t = near (ten_up (prefix_of t)) (ten_down (prefix_of t))

-- ---- the code's table: in each row a name and a factor
-- a row by what it holds: a name and a factor
abbrev pub Row : Type 0
Row = List ℕ × Float

-- the rows, each factor by its pattern
abbrev pub table : List Row
table =
    (bytes "EXA", of_bits binary64 4876203697187506176)
    ∷ (bytes "PETA", of_bits binary64 4831355200913801216)
    ∷ (bytes "TERA", of_bits binary64 4786511204640096256)
    ∷ (bytes "GIGA", of_bits binary64 4741671816366391296)
    ∷ (bytes "MEGA", of_bits binary64 4696837146684686336)
    ∷ (bytes "KILO", of_bits binary64 4652007308841189376)
    ∷ (bytes "HECTO", of_bits binary64 4636737291354636288)
    ∷ (bytes "DECA", of_bits binary64 4621819117588971520)
    ∷ (bytes "DECI", of_bits binary64 4591870180066957722)
    ∷ (bytes "CENTI", of_bits binary64 4576918229304087675)
    ∷ (bytes "MILLI", of_bits binary64 4562254508917369340)
    ∷ (bytes "MICRO", of_bits binary64 4517329193108106637)
    ∷ (bytes "NANO", of_bits binary64 4472406533629990549)
    ∷ (bytes "PICO", of_bits binary64 4427486594234968593)
    ∷ (bytes "FEMTO", of_bits binary64 4382569440205035030)
    ∷ (bytes "ATTO", of_bits binary64 4337655138388951980)
    ∷ []

-- the factors that the code gives: one of each row, and behind them that of any other name, 1.0
abbrev pub factors : List Float
factors = map (λ (r : Row). r.1) table ++ (of_bits binary64 4607182418800017408 ∷ [])

-- what the code's rows hold: the text that each points to, and its factor
abbrev pub rows_of : List (Bor (List ℕ) × Float) → List Row
rows_of xs = map (λ (x : Bor (List ℕ) × Float). (x.0.now, x.1)) xs

-- the code's rows hold what the table holds
pub record Rows (xs : List (Bor (List ℕ) × Float)) : Type 0 where
  pub same : rows_of xs ≡ table

-- the rule of a row: its text is the prefix's name, and its factor is the nearest f64
pub record Rule (r : Row) (p : Prefix) : Type 0 where
  pub named : r.0 ≡ bytes p.name
  pub factor : to_bits binary64 r.1 ≡ near (ten_up p) (ten_down p)

-- whether the rule of a row holds, as a test: a comparison of a name and one of a pattern
abbrev keeps_rule : Row → Prefix → Bool
keeps_rule r p = same_bytes r.0 (bytes p.name) && eqb (to_bits binary64 r.1) (near (ten_up p) (ten_down p))

-- the tests of the rules of all rows
abbrev keep_rules : List Row → List Prefix → Bool
keep_rules [] ps = true
keep_rules (r ∷ rs) [] = false
keep_rules (r ∷ rs) (p ∷ ps) = keeps_rule r p && keep_rules rs ps

-- the test of the rule holds at all sixteen rows: antt computes it
all_keep : keep_rules table prefixes ≡ true
unfolding to_bits of_bits near near_units size
all_keep = refl

-- where the test of a row's rule holds, the rule does
rule_of : (r : Row) (p : Prefix) → keeps_rule r p ≡ true → Rule r p
rule_of r p h =
    let (n, f) = both (same_bytes r.0 (bytes p.name)) (eqb (to_bits binary64 r.1) (near (ten_up p) (ten_down p))) h in
    record { named = same_is _ _ n; factor = eqb-true _ _ f }

-- where the tests of all rows hold, the rule at row k does
rule_from : (rs : List Row) (ps : List Prefix) → keep_rules rs ps ≡ true → (k : ℕ) (d : Row) → k < length rs → Rule (get_or rs k d) (get_or ps k unity)
rule_from [] ps h k d l = absurd (omega arith)
rule_from (r ∷ rs) [] h k d l = let z : ◌≡◌ {A = ℕ} 0 1 = cc in absurd (omega arith)
rule_from (r ∷ rs) (p ∷ ps) h zero d l = rule_of r p (both (keeps_rule r p) (keep_rules rs ps) h).0
rule_from (r ∷ rs) (p ∷ ps) h (suc k) d l = rule_from rs ps (both (keeps_rule r p) (keep_rules rs ps) h).1 k d (le_of_suc-le-suc l)

-- the rule of the code's table holds at row k
pub rule_at : (k : ℕ) (d : Row) → k < 16 → Rule (get_or table k d) (get_or prefixes k unity)
rule_at k d h = rule_from table prefixes all_keep k d h

-- what the code's row k holds keeps the rule
rule_here : (xs : List (Bor (List ℕ) × Float)) → rows_of xs ≡ table → (k : ℕ) (d : Bor (List ℕ) × Float) → k < 16 → Rule ((get_or xs k d).0.now, (get_or xs k d).1) (get_or prefixes k unity)
rule_here xs e k d h =
    subst (λ (r : Row). Rule r (get_or prefixes k unity))
    (sym (ap (λ (rs : List Row). get_or rs k (d.0.now, d.1)) e) ∙ get_or_map (λ (x : Bor (List ℕ) × Float). (x.0.now, x.1)) xs k d)
    (rule_at k (d.0.now, d.1) h)
  where
    get_or_map : (f : Bor (List ℕ) × Float → Row) (xs : List (Bor (List ℕ) × Float)) (k : ℕ) (d : Bor (List ℕ) × Float) → get_or (map f xs) k (f d) ≡ f (get_or xs k d)
    get_or_map f [] k d = refl
    get_or_map f (x ∷ xs) zero d = refl
    get_or_map f (x ∷ xs) (suc k) d = get_or_map f xs k d

-- the factor of any other name is 1.0
pub last_factor : to_bits binary64 (of_bits binary64 4607182418800017408) ≡ near 1 1
unfolding to_bits of_bits near near_units size
last_factor = refl

-- 1000.0 is the f64 nearest to 1000
pub thousand : to_bits binary64 (of_bits binary64 4652007308841189376) ≡ near 1000 1
unfolding to_bits of_bits near near_units size
thousand = refl

-- ---- the search, from a row on
-- the search stands at row k: the place among the prefixes from k on, with the k that were passed, is the place among all
abbrev pub Searching : List ℕ → ℕ → Type 0
Searching t k = (k ≤ 16) × (k + place_in (drop k prefixes) t ≡ place_in prefixes t)

-- the prefixes from k on begin with prefix k
head_at_lem : (k : ℕ) → k < 16 → drop k prefixes ≡ get_or prefixes k unity ∷ drop (suc k) prefixes
head_at_lem k h = drop-cons prefixes k unity h

-- where the name at row k fits, k is the place that is sought
pub search_finds : (t : List ℕ) (k : ℕ) → k < 16 → is_word t (bytes (get_or prefixes k unity).name) ≡ true → Searching t k → k ≡ place_in prefixes t
unfolding place_in
search_finds t k h e s =
    let q : place_in (drop k prefixes) t ≡ 0 = ap (λ (l : List Prefix). place_in l t) (head_at_lem k h) ∙ rw e refl in
    let r : k + place_in (drop k prefixes) t ≡ place_in prefixes t = s.1 in
    plain k (place_in (drop k prefixes) t) (place_in prefixes t) q r
  where
    plain : (k a b : ℕ) → a ≡ 0 → k + a ≡ b → k ≡ b
    plain k a b q r = omega arith

-- where the name at row k does not fit, the search goes on at the next row
pub search_goes : (t : List ℕ) (k : ℕ) → k < 16 → is_word t (bytes (get_or prefixes k unity).name) ≡ false → Searching t k → Searching t (k + 1)
unfolding place_in
search_goes t k h e s =
    let q : place_in (drop k prefixes) t ≡ suc (place_in (drop (suc k) prefixes) t) = ap (λ (l : List Prefix). place_in l t) (head_at_lem k h) ∙ rw e refl in
    let j : k + 1 ≡ suc k = add-one k in
    (omega arith, subst (λ (m : ℕ). m + place_in (drop m prefixes) t ≡ place_in prefixes t) (sym j) (plain k (place_in (drop k prefixes) t) (place_in (drop (suc k) prefixes) t) (place_in prefixes t) q s.1))
  where
    plain : (k a c b : ℕ) → a ≡ suc c → k + a ≡ b → suc k + c ≡ b
    plain k a c b q r = omega arith

-- where no name fits, the place is 16
pub search_ends : (t : List ℕ) (k : ℕ) → 16 ≤ k → Searching t k → 16 ≡ place_in prefixes t
unfolding place_in
search_ends t k h s =
    let e : k ≡ 16 = omega arith in
    let q : 16 + place_in (drop 16 prefixes) t ≡ place_in prefixes t = subst (λ (m : ℕ). m + place_in (drop m prefixes) t ≡ place_in prefixes t) e s.1 in
    q

-- the place of a prefix lies in the table or at its end
pub prefix_place_within : (t : List ℕ) (ps : List Prefix) → place_in ps t ≤ length ps
unfolding place_in
prefix_place_within t [] = omega arith
prefix_place_within t (p ∷ ps) = go (is_word t (bytes p.name)) (prefix_place_within t ps)
  where
    go : (b : Bool) → place_in ps t ≤ length ps → pick b 0 (suc (place_in ps t)) ≤ suc (length ps)
    go true l = omega arith
    go false l = omega arith

-- the place of a prefix that a text names is at most 16
pub place_most : (t : List ℕ) → place_in prefixes t ≤ 16
place_most t = prefix_place_within t prefixes

-- the factor of row k is the f64 nearest to the power of ten of the prefix there
pub row_factor_at : (k : ℕ) (d : Row) → k < 16 → to_bits binary64 (get_or table k d).1 ≡ near (ten_up (get_or prefixes k unity)) (ten_down (get_or prefixes k unity))
row_factor_at k d h = (rule_at k d h).factor

-- the factor at row k is the f64 nearest to the power of ten of the prefix there; at row 16 it is 1.0
pub factor_at : (k : ℕ) → k ≤ 16 → to_bits binary64 (get_or factors k nan) ≡ near (ten_up (get_or prefixes k unity)) (ten_down (get_or prefixes k unity))
factor_at k h = go (dec_lt k 16)
  where
    held : (rs : List Row) (fs : List Float) (i : ℕ) (d : Row) (x : Float) → i < length rs → get_or (map (λ (r : Row). r.1) rs ++ fs) i x ≡ (get_or rs i d).1
    held [] fs i d x l = absurd (omega arith)
    held (r ∷ rs) fs zero d x l = refl
    held (r ∷ rs) fs (suc i) d x l = held rs fs i d x (le_of_suc-le-suc l)

    go : Dec (k < 16) → to_bits binary64 (get_or factors k nan) ≡ near (ten_up (get_or prefixes k unity)) (ten_down (get_or prefixes k unity))
    go (yes l) =
        let d : Row = ([], nan) in
        ap (to_bits binary64) (held table (of_bits binary64 4607182418800017408 ∷ []) k d nan l) ∙ row_factor_at k d l
    go (no n) =
        let e : k ≡ 16 = omega arith in
        subst (λ (m : ℕ). to_bits binary64 (get_or factors m nan) ≡ near (ten_up (get_or prefixes m unity)) (ten_down (get_or prefixes m unity))) (sym e) last_factor

-- the factor of the prefix at the place that is sought
factor_found : (t : List ℕ) (k : ℕ) → k ≡ place_in prefixes t → near (ten_up (get_or prefixes k unity)) (ten_down (get_or prefixes k unity)) ≡ factor_of t
factor_found t k e = ap (λ (j : ℕ). near (ten_up (get_or prefixes j unity)) (ten_down (get_or prefixes j unity))) e

-- where no name fits, the factor is 1.0
pub none_found : (t : List ℕ) (k : ℕ) → 16 ≤ k → Searching t k → to_bits binary64 (of_bits binary64 4607182418800017408) ≡ factor_of t
none_found t k h s = last_factor ∙ factor_found t 16 (search_ends t k h s)

-- at a row of the code's table
module _ (xs : List (Bor (List ℕ) × Float)) (d : Bor (List ℕ) × Float) (t : List ℕ) (k : ℕ) (h : k < 16) where
  -- a name that fits has the factor that is sought
  pub row_found : is_word t (get_or xs k d).0.now ≡ true → Searching t k → Rows xs → to_bits binary64 (get_or xs k d).1 ≡ factor_of t
  row_found e s q =
      let r = rule_here xs q.same k d h in
      r.factor ∙ factor_found t k (search_finds t k h (ap (is_word t) (sym r.named) ∙ e) s)

  -- where a name does not fit, the search goes on
  pub row_passed : is_word t (get_or xs k d).0.now ≡ false → Searching t k → Rows xs → Searching t (k + 1)
  row_passed e s q =
      let r = rule_here xs q.same k d h in
      search_goes t k h (ap (is_word t) (sym r.named) ∙ e) s
