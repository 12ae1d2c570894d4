-- A loop over a block of bytes that only notes hits: where none was noted, something holds as far as it looked.
-- Assumes nothing.
use Rattle.std.specs.Prelude.{ℕ, ◌+◌, ◌≤◌, ◌<◌, ◌≡◌, Bool, false}
use Rattle.std.proofs.Common.{sym, subst, add-zero, arith}

-- k of the n bytes from a place on were looked at; where no hit was noted, P holds up to there
pub record Noting (P : ℕ → Type 0) (n : ℕ) (hit : Bool) (at k : ℕ) : Type 0 where
  pub upto : k ≤ n
  pub lacks : hit ≡ false → P (at + k)

module _ {P : ℕ → Type 0} {n : ℕ} {hit : Bool} {at : ℕ} where
  -- before any byte is looked at, P holds up to there if it holds at the place
  pub noting_none : P at → Noting P n hit at 0
  noting_none p = record { upto = omega arith; lacks = λ e. subst P (sym (add-zero at)) p }

  module _ {k : ℕ} (h : Noting P n hit at k) where
    -- the next byte is looked at: no hit is noted then only where none was, and P goes on over the byte
    pub noting_next : {more : Bool} → k < n → (more ≡ false → (hit ≡ false) × (P (at + k) → P (at + k + 1))) → Noting P n more at (k + 1)
    noting_next l g = record { upto = omega arith; lacks = λ e. let (a, f) = g e in subst P (omega arith) (f (h.lacks a)) }

    -- once all n bytes were looked at and no hit was noted, P holds up to their end
    pub noting_all : n ≤ k → hit ≡ false → P (at + n)
    noting_all l e = let u = h.upto in subst (λ (j : ℕ). P (at + j)) (omega arith) (h.lacks e)
