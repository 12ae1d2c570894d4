-- Facts of `real_by` that hold whichever reals are asked for. Assumes nothing.
use Rattle.std.specs.Prelude.{ℕ, ◌≡◌, ◌⊎◌, Bool, List}
use Rattle.std.proofs.Common.{inl, inr}
use Rattle.reals.specs.Scalar.{unparsed, parse_of}
use Rattle.reals.specs.Which.{real_by}
use Rattle.reals.specs.Answer.{refused}
use Rattle.reals.specs.Form.{WrittenReal}
use Rattle.reals.specs.FormRight.{written_is, unparsed_by}
use Rattle.reals.specs.declared.Reals.{Reals}

-- "all else, `inf` and `nan` included, is 12": so is a text that is not written as a real
pub unwritten_by : (which : Reals) (t : List ℕ) → ((s d : Bool) (w f x : List ℕ) → WrittenReal t s w f d x → ⊥) → real_by which t ≡ refused 12
unwritten_by which t h = go (written_is t)
  where
    go : ((s d : Bool) × (w f x : List ℕ) × WrittenReal t s w f d x) ⊎ (parse_of t ≡ unparsed) → real_by which t ≡ refused 12
    go (inl (s, d, w, f, x, r)) = absurd (h s d w f x r)
    go (inr e) = unparsed_by which t e
