-- "with a place from 0 to the input's length" (demand 1), for the readers of scalars; and where the reader then stands. Assumes nothing.
use Rattle.std.specs.Prelude.{ℕ, ◌-◌, ◌≤◌, ◌<◌, ◌≡◌, false, List, take, drop}
use Rattle.std.proofs.Math.Path.{refl, ap}
use Rattle.std.proofs.Common.{sym, ◌∙◌, arith}
use Rattle.std.proofs.Math.ListN.{length}
use Rattle.common.specs.Compare.{clash}
use Rattle.error.specs.Refusal.{good, Refusal, refusal, bad}
use Rattle.reals.specs.Answer.{Answer, read, refused}
use Rattle.params.specs.Reader.{param_of}
use Rattle.params.specs.Answer.{reading, Span, reader_in_file}
use Rattle.params.specs.Rules.{ReaderInFile}
use Rattle.params.specs.Places.{PlacedIn, Stands, PastParameter, mapped_placed, mapped_stands, mapped_stays, refused_past}
use Rattle.scalars.specs.Answer.{answered, scalar_at, next_of}

-- whatever a parameter is read as
module _ {A : Type 0} (f : List ℕ → Answer A) (s : List ℕ) (p e : ℕ) where
  -- what refuses a scalar lies in the file
  pub scalar_next_placed : PlacedIn (length s) (next_of f s p e).answer
  unfolding next_of
  scalar_next_placed = mapped_placed (scalar_at f s) s p e (λ a h k. go a (omega arith) (f (take (a.stop - a.start) (drop a.start s))))
    where
      go : (a : Span) → a.start ≤ length s → (v : Answer A) → PlacedIn (length s) (answered a.start v)
      go a h (read v) = tt
      go a h (refused n) = h

  -- after a scalar the reader stands between where it was and its end
  pub next_stands : ReaderInFile s p e → Stands p e (next_of f s p e)
  unfolding next_of
  next_stands = mapped_stands (scalar_at f s) s p e

  -- a reader that does not lie in the file stays as it came, and answers 9
  pub next_stays : reader_in_file (length s) p e ≡ false → next_of f s p e ≡ reading (bad (refusal 9 0 0)) p e
  unfolding next_of
  next_stays = mapped_stays (scalar_at f s) s p e

  -- a scalar's 12 and 13 stand at the parameter's start, and the reader past the parameter and its comma
  pub next_past : (q : Refusal) → (next_of f s p e).answer ≡ bad q → 11 < q.number
      → (a : Span) × ((param_of s p e).answer ≡ good a) × (q.place ≡ a.start) × (f (take (a.stop - a.start) (drop a.start s)) ≡ refused q.number) × PastParameter s p e a (next_of f s p e).place
  unfolding next_of
  next_past q h n = let (a, j, k, i, l) = refused_past (scalar_at f s) s p e q h n in go a j (f (take (a.stop - a.start) (drop a.start s))) refl k l
    where
      go : (a : Span) → (param_of s p e).answer ≡ good a → (v : Answer A) → f (take (a.stop - a.start) (drop a.start s)) ≡ v → answered a.start v ≡ bad q → PastParameter s p e a (param_of s p e).place
          → (a : Span) × ((param_of s p e).answer ≡ good a) × (q.place ≡ a.start) × (f (take (a.stop - a.start) (drop a.start s)) ≡ refused q.number) × PastParameter s p e a (param_of s p e).place
      go a j (read v) e k l = clash (cc)
      go a j (refused m) e k l =
          let z : q ≡ refusal m 0 a.start = cc in
          (a, j, ap (λ (x : Refusal). x.place) z, e ∙ ap (λ (x : Refusal). refused x.number) (sym z), l)
