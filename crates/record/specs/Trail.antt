-- The whitespace at a text's end, sought from the end. Assumes nothing.
use Rattle.std.specs.Prelude.{ℕ, ◌+◌, ◌-◌, ◌≤◌, ◌<◌, min, ◌≡◌, Bool, true, false, List, [], ◌∷◌, ◌++◌, length, take, drop, get_or}
use Rattle.std.proofs.Common.{sym, ◌∙◌, ap, append_assoc, arith, take-append-drop, drop-drop}
use Rattle.std.proofs.Math.Decide.{dec_le}
use Rattle.common.specs.Lists.{split, drop_end}
use Rattle.common.specs.Compare.{clash}
use Rattle.lex.specs.Byte.{white}
use Rattle.record.specs.Text.{trail}
use Rattle.record.specs.Form.{All, NotLast}
use Rattle.record.specs.FormRight.{trail_only}
use Rattle.record.specs.FormRight.Parts.{last_none}

-- bytes with one more at the end that is not of the kind
snoc_none : (f : List ℕ) (b : ℕ) → f ++ (b ∷ []) ≡ [] → ⊥
snoc_none [] b e = clash (cc)
snoc_none (a ∷ f) b e = clash (cc)

-- such bytes do not end in one of the kind
snoc_last : (p : ℕ → Bool) (f : List ℕ) (b : ℕ) → p b ≡ false → NotLast p (f ++ (b ∷ []))
snoc_last p [] b h [] c e = ap p (cc) ∙ h
snoc_last p [] b h (x ∷ r) c e = absurd (snoc_none r c (cc))
snoc_last p (a ∷ f) b h [] c e = absurd (snoc_none f b (cc))
snoc_last p (a ∷ f) b h (x ∷ r) c e = snoc_last p f b h r c (cc)

-- The whitespace at the end, sought from the end.
module _ (t : List ℕ) where
  pub trim_more : (z : ℕ) → 0 < z → z ≤ length t → white (get_or t (z - 1) 0) ≡ true → All white (drop z t) → All white (drop (z - 1) t)
  trim_more z h k w a = let n : z - 1 + 1 ≡ z = omega arith in rw (split t (z - 1) (omega arith), n) (w, a)

  pub trim_none : (from z : ℕ) → z ≤ from → min from (length t) ≤ z → All white (drop z t) → drop z t ≡ trail (drop from t)
  trim_none from z h k a = go (dec_le from (length t))
    where
      at : drop z t ≡ drop from t → drop z t ≡ trail (drop from t)
      at e = sym (trail_only [] (drop z t) (last_none white) a) ∙ ap trail e

      go : Dec (from ≤ length t) → drop z t ≡ trail (drop from t)
      go (yes l) = let e : z ≡ from = omega arith in at (ap (λ (n : ℕ). drop n t) e)
      go (no l) = at (drop_end t z (omega arith) ∙ sym (drop_end t from (omega arith)))

  pub trim_here : (from z : ℕ) → from < z → z ≤ length t → white (get_or t (z - 1) 0) ≡ false → All white (drop z t) → drop z t ≡ trail (drop from t)
  trim_here from z h k w a =
      let f : List ℕ = take (z - 1 - from) (drop from t) in
      let b : ℕ = get_or t (z - 1) 0 in
      let n : z - 1 + 1 ≡ z = omega arith in
      let m : from + (z - 1 - from) ≡ z - 1 = omega arith in
      let e : drop (z - 1 - from) (drop from t) ≡ b ∷ drop z t =
      drop-drop (z - 1 - from) from t ∙ ap (λ (k : ℕ). drop k t) m ∙ split t (z - 1) (omega arith) ∙ ap (λ (k : ℕ). b ∷ drop k t) n in
      let g : drop from t ≡ (f ++ (b ∷ [])) ++ drop z t =
      sym (take-append-drop (z - 1 - from) (drop from t)) ∙ ap (λ (l : List ℕ). f ++ l) e ∙ sym (append_assoc f (b ∷ []) (drop z t)) in
      sym (ap trail g ∙ trail_only (f ++ (b ∷ [])) (drop z t) (snoc_last white f b w) a)
