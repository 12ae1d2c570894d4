-- Numbers that come back say what they were made from.
-- Assumes nothing.
use Rattle.std.specs.Prelude.{ℕ, zero, suc, ◌/◌, ◌%◌, ◌≤◌, ◌<◌, ◌≡◌, refl, Bool, true, false, List, [], ◌∷◌, eqb, leb, length, drop}
use Rattle.std.proofs.Common.{◌∙◌, ap, arith, le-leb}
use Rattle.std.proofs.lemmas.List.Edits.{sets, sets-eq}
use Rattle.common.specs.Pick.{pick}
use Rattle.index.specs.declared.Ids.{Ids}
use Rattle.kinds.specs.declared.Kind.TheVariants.{Other}
use Rattle.lookup.specs.declared.Tables.{Tables}
use Rattle.host_numbers.specs.Numbers.{flags_of, ids_numbers, ids_by, tables_in, tables_by, kind_by}

-- a number that is none of the eleven kinds' is `Other`
pub kind_other : (n : ℕ) → (n ≡ 0 → ⊥) → (n ≡ 1 → ⊥) → (n ≡ 2 → ⊥) → (n ≡ 3 → ⊥) → (n ≡ 4 → ⊥) → (n ≡ 5 → ⊥) → (n ≡ 6 → ⊥) → (n ≡ 7 → ⊥) → (n ≡ 8 → ⊥) → (n ≡ 9 → ⊥) → (n ≡ 10 → ⊥) → Other ≡ kind_by n
kind_other zero a b c d e f g h i j k = absurd (a refl)
kind_other (suc zero) a b c d e f g h i j k = absurd (b refl)
kind_other (suc (suc zero)) a b c d e f g h i j k = absurd (c refl)
kind_other (suc (suc (suc zero))) a b c d e f g h i j k = absurd (d refl)
kind_other (suc (suc (suc (suc zero)))) a b c d e f g h i j k = absurd (e refl)
kind_other (suc (suc (suc (suc (suc zero))))) a b c d e f g h i j k = absurd (f refl)
kind_other (suc (suc (suc (suc (suc (suc zero)))))) a b c d e f g h i j k = absurd (g refl)
kind_other (suc (suc (suc (suc (suc (suc (suc zero))))))) a b c d e f g h i j k = absurd (h refl)
kind_other (suc (suc (suc (suc (suc (suc (suc (suc zero)))))))) a b c d e f g h i j k = absurd (i refl)
kind_other (suc (suc (suc (suc (suc (suc (suc (suc (suc zero))))))))) a b c d e f g h i j k = absurd (j refl)
kind_other (suc (suc (suc (suc (suc (suc (suc (suc (suc (suc zero)))))))))) a b c d e f g h i j k = absurd (k refl)
kind_other (suc (suc (suc (suc (suc (suc (suc (suc (suc (suc (suc n))))))))))) a b c d e f g h i j k = refl

-- six numbers put at the start of a list stand there
six_first : (ids : List ℕ) (a b c d e f : ℕ) → 6 ≤ length ids → sets ids 0 (a ∷ b ∷ c ∷ d ∷ e ∷ f ∷ []) ≡ a ∷ b ∷ c ∷ d ∷ e ∷ f ∷ drop 6 ids
six_first ids a b c d e f h = sets-eq (a ∷ b ∷ c ∷ d ∷ e ∷ f ∷ []) ids 0 h

-- a number of 32 bits is its own remainder by 2 ^ 32
small : (x : ℕ) → x < 4294967296 → x % 4294967296 ≡ x
small x h = omega arith

-- what was found of the ids comes back from its number
flags_back : (s t : Bool) → (eqb (flags_of s t % 2) 1 ≡ s) × (eqb (flags_of s t / 2 % 2) 1 ≡ t)
flags_back true true = (refl, refl)
flags_back true false = (refl, refl)
flags_back false true = (refl, refl)
flags_back false false = (refl, refl)

bit_back : (s : Bool) → eqb (pick s 1 0 % 2) 1 ≡ s
bit_back true = refl
bit_back false = refl

-- what stood beside the slots comes back
pub ids_back : (b : Ids) (old : List ℕ) → 6 ≤ length old → b.first < 4294967296 → b.last < 4294967296 → b.shift < 4294967296 → ids_by (sets old 0 (ids_numbers b)) ≡ b
ids_back b old h f l s = ap ids_by (six_first old b.count b.first b.last (flags_of b.direct b.distinct) (pick b.even 1 0) b.shift h) ∙ whole
  where
    g : (eqb (flags_of b.direct b.distinct % 2) 1 ≡ b.direct) × (eqb (flags_of b.direct b.distinct / 2 % 2) 1 ≡ b.distinct)
    g = flags_back b.direct b.distinct

    whole : ids_by (b.count ∷ b.first ∷ b.last ∷ flags_of b.direct b.distinct ∷ pick b.even 1 0 ∷ b.shift ∷ drop 6 old) ≡ b
    whole = λ i. record { count = b.count; first = small b.first f i; last = small b.last l i; direct = g.0 i; distinct = g.1 i; even = bit_back b.even i; shift = small b.shift s i }

-- what goes with the tables comes back from eleven numbers that stand in a list
tables_stand : (t : Tables) (a b c d e f g h i j k : ℕ) (r : List ℕ) → t.ids.first < 4294967296 → t.ids.last < 4294967296 → t.ids.shift < 4294967296 → t.max < 4294967296
    → tables_by (sets (sets (a ∷ b ∷ c ∷ d ∷ e ∷ f ∷ g ∷ h ∷ i ∷ j ∷ k ∷ r) 0 (ids_numbers t.ids)) 8 (t.headers ∷ t.records ∷ t.max ∷ [])) ≡ t
tables_stand t a b c d e f g h i j k r u v s w = λ x. record { headers = t.headers; records = t.records; max = small t.max w x; ids = ids x }
  where
    n : ℕ
    n = flags_of t.ids.direct t.ids.distinct

    y : (eqb (n % 2) 1 ≡ t.ids.direct) × (eqb (n / 2 % 2) 1 ≡ t.ids.distinct)
    y = flags_back t.ids.direct t.ids.distinct

    ids : ids_by (t.ids.count ∷ t.ids.first ∷ t.ids.last ∷ n ∷ pick t.ids.even 1 0 ∷ t.ids.shift ∷ g ∷ h ∷ t.headers ∷ t.records ∷ t.max ∷ r) ≡ t.ids
    ids = λ x. record { count = t.ids.count; first = small t.ids.first u x; last = small t.ids.last v x; direct = y.0 x; distinct = y.1 x; even = bit_back t.ids.even x; shift = small t.ids.shift s x }

-- what goes with the tables comes back
pub tables_back : (t : Tables) (old : List ℕ) → 16 ≤ length old → t.ids.first < 4294967296 → t.ids.last < 4294967296 → t.ids.shift < 4294967296 → t.max < 4294967296 → tables_by (tables_in t old) ≡ t
tables_back t [] p u v s w = absurd (omega arith)
tables_back t (a ∷ []) p u v s w = absurd (omega arith)
tables_back t (a ∷ b ∷ []) p u v s w = absurd (omega arith)
tables_back t (a ∷ b ∷ c ∷ []) p u v s w = absurd (omega arith)
tables_back t (a ∷ b ∷ c ∷ d ∷ []) p u v s w = absurd (omega arith)
tables_back t (a ∷ b ∷ c ∷ d ∷ e ∷ []) p u v s w = absurd (omega arith)
tables_back t (a ∷ b ∷ c ∷ d ∷ e ∷ f ∷ []) p u v s w = absurd (omega arith)
tables_back t (a ∷ b ∷ c ∷ d ∷ e ∷ f ∷ g ∷ []) p u v s w = absurd (omega arith)
tables_back t (a ∷ b ∷ c ∷ d ∷ e ∷ f ∷ g ∷ h ∷ []) p u v s w = absurd (omega arith)
tables_back t (a ∷ b ∷ c ∷ d ∷ e ∷ f ∷ g ∷ h ∷ i ∷ []) p u v s w = absurd (omega arith)
tables_back t (a ∷ b ∷ c ∷ d ∷ e ∷ f ∷ g ∷ h ∷ i ∷ j ∷ []) p u v s w = absurd (omega arith)
tables_back t (a ∷ b ∷ c ∷ d ∷ e ∷ f ∷ g ∷ h ∷ i ∷ j ∷ k ∷ r) p u v s w = ap tables_by (put (length (a ∷ b ∷ c ∷ d ∷ e ∷ f ∷ g ∷ h ∷ i ∷ j ∷ k ∷ r)) p) ∙ tables_stand t a b c d e f g h i j k r u v s w
  where
    put : (n : ℕ) → 16 ≤ n → pick (leb 16 n) (sets (sets (a ∷ b ∷ c ∷ d ∷ e ∷ f ∷ g ∷ h ∷ i ∷ j ∷ k ∷ r) 0 (ids_numbers t.ids)) 8 (t.headers ∷ t.records ∷ t.max ∷ [])) (a ∷ b ∷ c ∷ d ∷ e ∷ f ∷ g ∷ h ∷ i ∷ j ∷ k ∷ r) ≡ sets (sets (a ∷ b ∷ c ∷ d ∷ e ∷ f ∷ g ∷ h ∷ i ∷ j ∷ k ∷ r) 0 (ids_numbers t.ids)) 8 (t.headers ∷ t.records ∷ t.max ∷ [])
    put n q = rw (le-leb 16 n q) refl
