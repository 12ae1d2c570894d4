-- What the two lent lists of a grid say: a row end is the count of the numbers up to it, and a row is the numbers between two ends.
-- With demand 1's place of every refusal. Assumes nothing.
use Rattle.std.specs.Prelude.{ℕ, ◌+◌, ◌≤◌, ◌<◌, ◌≡◌, refl, List, [], ◌∷◌, length, take, drop, get_or}
use Rattle.std.proofs.Common.{sym, ◌∙◌, ap, arith, get_or-drop, drop-cons, add-one}
use Rattle.std.proofs.Math.Seq.{take-append_seam}
use Rattle.error.specs.Refusal.{Refusal, bad}
use Rattle.reals.specs.Answer.{Answer}
use Rattle.lists.specs.Items.{list_of}
use Rattle.lists.specs.Answer.{as_fate, next_by}
use Rattle.lists.specs.Places.{list_inward, scalar_inward, next_placed}
use Rattle.grids.specs.Grid.{grid_of, grid_fits, flat, ends_from}
use Rattle.grids.specs.Rows.{numbers_left, ends_left, ends_length, more_numbers}

module _ {A : Type 0} (g : List (List A)) (k : ℕ) (h : k < length g) where
  -- the rows from the k-th on are the k-th and those after it
  here : drop k g ≡ get_or g k [] ∷ drop (k + 1) g
  here = rw add-one (drop-cons g k [] h)

  -- "row ends (numbers so far)": the k-th end counts the numbers of the first k + 1 rows
  pub ends_at : get_or (ends_from 0 g) k 0 ≡ length (flat (take (k + 1) g))
  ends_at =
      let e : k ≡ k + 0 = omega arith in
      ap (λ (i : ℕ). get_or (ends_from 0 g) i 0) e ∙ sym (get_or-drop k (ends_from 0 g) 0 0)
      ∙ ap (λ (l : List ℕ). get_or l 0 0) (ends_left g k (get_or g k []) (drop (k + 1) g) here (length (flat (take k g))) refl)
      ∙ more_numbers g k (get_or g k []) (drop (k + 1) g) here (length (flat (take k g))) refl

  -- the k-th row stands behind the numbers of the rows before it
  pub row_at : take (length (get_or g k [])) (drop (length (flat (take k g))) (flat g)) ≡ get_or g k []
  row_at =
      ap (take (length (get_or g k []))) (numbers_left g k (get_or g k []) (drop (k + 1) g) here (length (flat (take k g))) refl)
      ∙ take-append_seam (get_or g k []) (flat (drop (k + 1) g))

-- a grid has as many row ends as rows
pub ends_count : {A : Type 0} (g : List (List A)) → length (ends_from 0 g) ≡ length g
ends_count g = ends_length 0 g

-- "a place from 0 to the input's length": every refusal of a reader of grids
pub grid_placed : {A : Type 0} (f : List ℕ → Answer A) (room ends : ℕ) (s : List ℕ) (p e : ℕ) (q : Refusal) → (next_by (grid_of f) (grid_fits room ends) s p e).answer ≡ bad q → q.place ≤ length s
grid_placed f room ends s p e q h = next_placed (grid_of f) (list_inward (list_of f) (list_inward (λ u. as_fate (f u)) (scalar_inward f))) (grid_fits room ends) s p e q h
