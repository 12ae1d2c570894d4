-- The ways a search comes out, and that its answer tells which one it was. Assumes nothing.
use Rattle.std.specs.Prelude.{ℕ, ◌≡◌, ◌⊎◌, List, [], ◌∷◌}
use Rattle.std.proofs.Common.{inl, inr}
use Rattle.common.specs.Compare.{clash}
use Rattle.lex.specs.Answer.{Sought, at, fault}
use Rattle.lex.specs.Grammar.{OpenText, OpenRemark}

-- what becomes of a search: found before r; or P leads to a string or a comment that never ends; or P leads to the bytes' end
pub data Outcome (H P : List ℕ → Type 0) : Type 0 where
  found : (r : List ℕ) → H r → Outcome H P
  text : (o : List ℕ) → P o → OpenText o → Outcome H P
  remark : (o : List ℕ) → P o → OpenRemark o → Outcome H P
  over : P [] → Outcome H P

-- an outcome of a search, seen from further back: found there is found here, and what leads there leads here
pub further : {H P H' P' : List ℕ → Type 0} → ((r : List ℕ) → H r → H' r) → ((o : List ℕ) → P o → P' o) → Outcome H P → Outcome H' P'
further f g (Outcome.found r h) = Outcome.found r (f r h)
further f g (Outcome.text o p q) = Outcome.text o (g o p) q
further f g (Outcome.remark o p q) = Outcome.remark o (g o p) q
further f g (Outcome.over p) = Outcome.over (g [] p)

-- a search comes out one of these ways, and whichever it is, a is the answer for it: the byte b with what follows, refusal 4 or 3
-- where a string or a comment opens, or refusal n at w
pub record Answers (a : Sought) (b n : ℕ) (w : List ℕ) (H P : List ℕ → Type 0) : Type 0 where
  pub comes : Outcome H P
  pub founds : (r : List ℕ) → H r → a ≡ at (b ∷ r)
  pub texts : (o : List ℕ) → P o → OpenText o → a ≡ fault 4 o
  pub remarks : (o : List ℕ) → P o → OpenRemark o → a ≡ fault 3 o
  pub overs : P [] → a ≡ fault n w

module _ {a : Sought} {b n : ℕ} {w : List ℕ} {H P : List ℕ → Type 0} (s : Answers a b n w H P) where
  -- what a search answers as found is the byte b with what follows, as the grammar has it
  pub found_is : (ys : List ℕ) → a ≡ at ys → (r : List ℕ) × (ys ≡ b ∷ r) × H r
  found_is ys e = go s.comes
    where
      go : Outcome H P → (r : List ℕ) × (ys ≡ b ∷ r) × H r
      go (Outcome.found r h) = (r, cc (s.founds r h), h)
      go (Outcome.text o p q) = clash (cc (s.texts o p q))
      go (Outcome.remark o p q) = clash (cc (s.remarks o p q))
      go (Outcome.over p) = clash (cc (s.overs p))

  -- what a search answers as a refusal is 4 or 3 where a string or a comment opens that never ends, or n at w
  pub fault_is : (k : ℕ) (o : List ℕ) → a ≡ fault k o
      → ((k ≡ 4) × P o × OpenText o) ⊎ (((k ≡ 3) × P o × OpenRemark o) ⊎ ((k ≡ n) × (o ≡ w) × P []))
  fault_is k o e = go s.comes
    where
      go : Outcome H P → ((k ≡ 4) × P o × OpenText o) ⊎ (((k ≡ 3) × P o × OpenRemark o) ⊎ ((k ≡ n) × (o ≡ w) × P []))
      go (Outcome.found r h) = clash (cc (s.founds r h))
      go (Outcome.text u p q) = let g : o ≡ u = cc (s.texts u p q) in inl (cc (s.texts u p q), rw g p, rw g q)
      go (Outcome.remark u p q) = let g : o ≡ u = cc (s.remarks u p q) in inr (inl (cc (s.remarks u p q), rw g p, rw g q))
      go (Outcome.over p) = inr (inr (cc (s.overs p), cc (s.overs p), p))
