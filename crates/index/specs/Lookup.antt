-- Lookup of an id, over rows that have ids: `f` gives the id of each row, and there are n rows, in file order.
-- Assumes nothing.
use Rattle.std.specs.Prelude.{ℕ, zero, suc, ◌<◌, ◌≡◌, refl, Bool, true, false, ◌⊎◌, eqb, Option, Some, None}
use Rattle.std.proofs.Common.{sym, ◌∙◌, ap, inl, inr, ⊎_elim, arith, eqb-true}
use Rattle.std.proofs.lemmas.Bool.{eqb-false}
use Rattle.common.specs.Pick.{pick}
use Rattle.common.specs.Compare.{ordered}
use Rattle.index.specs.Rules.{IsLast, LookupForm}

-- a map from ids to rows: the row that it has for an id, or none
abbrev pub Map : Type 0
Map = ℕ → Option ℕ

-- a map that row r is written to under the id i: it has r for i, and for every other id what it had
abbrev pub map_with : ℕ → ℕ → Map → Map
map_with i r m k = pick (eqb i k) (Some r) (m k)

-- "a map written to in file order": the map after the first n rows
unfoldable pub written_map : (ℕ → ℕ) → ℕ → Map
written_map f zero k = None
written_map f (suc n) k = map_with (f n) n (written_map f n) k

-- "Lookup of an id answers like a map written to in file order": the row of an id among n rows
abbrev pub lookup_of : (ℕ → ℕ) → ℕ → ℕ → Option ℕ
lookup_of f n k = written_map f n k

-- a number below n + 1 is n or below n
cut : (j n : ℕ) → j < suc n → (j < n) ⊎ (j ≡ n)
cut j n h = go (ordered j n)
  where
    go : (j < n) ⊎ ((j ≡ n) ⊎ (n < j)) → (j < n) ⊎ (j ≡ n)
    go (inl l) = inl l
    go (inr (inl e)) = inr e
    go (inr (inr l)) = absurd (omega arith)

-- the row written last is the last of its id
written_here : (f : ℕ → ℕ) (n k : ℕ) → f n ≡ k → IsLast f (suc n) k n
written_here f n k e = record { row = omega arith; named = e; last = λ j a b z. absurd (omega arith) }

-- a row of another id, written last, changes no answer of the map
written_past : (f : ℕ → ℕ) (n k : ℕ) (o : Option ℕ) → (f n ≡ k → ⊥) → LookupForm f n k o → LookupForm f (suc n) k o
written_past f n k None d h = λ j b z. ⊎_elim (λ l. h j l z) (λ e. d (ap f (sym e) ∙ z)) (cut j n b)
written_past f n k (Some r) d h =
    let row : r < n = h.row in
    record { row = omega arith; named = h.named; last = λ j a b z. ⊎_elim (λ l. h.last j a l z) (λ e. d (ap f (sym e) ∙ z)) (cut j n b) }

-- what the map has for an id is the last record of that id, or there is none
pub lookup_is : (f : ℕ → ℕ) (n k : ℕ) → LookupForm f n k (lookup_of f n k)
unfolding written_map
lookup_is f zero k = λ j b z. absurd (omega arith)
lookup_is f (suc n) k = go (eqb (f n) k) refl (lookup_is f n k)
  where
    go : (t : Bool) → eqb (f n) k ≡ t → LookupForm f n k (written_map f n k) → LookupForm f (suc n) k (pick t (Some n) (written_map f n k))
    go true e h = written_here f n k (eqb-true (f n) k e)
    go false e h = written_past f n k (written_map f n k) (eqb-false (f n) k e) h

-- two rows that are the last of one id are the same row
last_one : (f : ℕ → ℕ) (n k a b : ℕ) → IsLast f n k a → IsLast f n k b → a ≡ b
last_one f n k a b h g = go (ordered a b)
  where
    go : (a < b) ⊎ ((a ≡ b) ⊎ (b < a)) → a ≡ b
    go (inl l) = absurd (h.last b l g.row g.named)
    go (inr (inl e)) = e
    go (inr (inr l)) = absurd (g.last a l h.row h.named)

-- a lookup has only one answer by the rules
pub lookup_one : (f : ℕ → ℕ) (n k : ℕ) (a b : Option ℕ) → LookupForm f n k a → LookupForm f n k b → a ≡ b
lookup_one f n k None None h g = refl
lookup_one f n k None (Some b) h g = absurd (h b g.row g.named)
lookup_one f n k (Some a) None h g = absurd (g a h.row h.named)
lookup_one f n k (Some a) (Some b) h g = ap Some (last_one f n k a b h g)

-- an answer to a lookup by the rules is what the map has
pub lookup_only : (f : ℕ → ℕ) (n k : ℕ) (o : Option ℕ) → LookupForm f n k o → lookup_of f n k ≡ o
lookup_only f n k o h = lookup_one f n k (lookup_of f n k) o (lookup_is f n k) h
