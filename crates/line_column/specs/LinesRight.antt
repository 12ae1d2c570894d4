-- Line and column of a place: Spot.antt computes just those of Lines.antt, and there are no others. Assumes nothing.
use Rattle.std.specs.Prelude.{ℕ, suc, ◌+◌, ◌≡◌, refl, Bool, true, false, List, [], ◌∷◌, ◌++◌, length, eqb}
use Rattle.std.proofs.Common.{sym, ◌∙◌, ap, subst, append_assoc, arith, eqb-true, ne_eqb}
use Rattle.std.proofs.lemmas.Bool.{eqb-false}
use Rattle.line_column.specs.Spot.{choice, breaks, bytes_after_break}
use Rattle.line_column.specs.Lines.{Unbroken, Lines, none, more, At}

-- bytes without an LF leave the line as it is
breaks_line : (k : ℕ) (l r : List ℕ) → Unbroken l → breaks k (l ++ r) ≡ breaks k r
unfolding breaks
breaks_line k [] r h = refl
breaks_line k (b ∷ l) r h = ap (λ (t : Bool). breaks (choice t (k + 1) k) (l ++ r)) (ne_eqb b 10 h.0) ∙ breaks_line k l r h.1

-- bytes without an LF move the column by as many
trail_line : (k : ℕ) (l r : List ℕ) → Unbroken l → bytes_after_break k (l ++ r) ≡ bytes_after_break (k + length l) r
unfolding bytes_after_break
trail_line k [] r h = let e : k ≡ k + 0 = omega arith in ap (λ (n : ℕ). bytes_after_break n r) e
trail_line k (b ∷ l) r h =
    let e : k + 1 + length l ≡ k + suc (length l) = omega arith in
    ap (λ (t : Bool). bytes_after_break (choice t 0 (k + 1)) (l ++ r)) (ne_eqb b 10 h.0) ∙ trail_line (k + 1) l r h.1 ∙ ap (λ (n : ℕ). bytes_after_break n r) e

-- n whole lines move the line by n
breaks_lines : {n : ℕ} {w : List ℕ} (k : ℕ) (b : List ℕ) → Lines n w → breaks k (w ++ b) ≡ breaks (k + n) b
unfolding breaks
breaks_lines k b none = let e : k ≡ k + 0 = omega arith in ap (λ (m : ℕ). breaks m b) e
breaks_lines k b (more {n} {r} l h d) =
    let e : k + 1 + n ≡ k + suc n = omega arith in
    ap (breaks k) (append_assoc l (10 ∷ r) b) ∙ breaks_line k l (10 ∷ (r ++ b)) h ∙ breaks_lines (k + 1) b d ∙ ap (λ (m : ℕ). breaks m b) e

-- after whole lines the column begins anew
trail_lines : {n : ℕ} {w : List ℕ} (b : List ℕ) → Lines n w → bytes_after_break 0 (w ++ b) ≡ bytes_after_break 0 b
unfolding bytes_after_break
trail_lines b none = refl
trail_lines b (more {n} {r} l h d) = ap (bytes_after_break 0) (append_assoc l (10 ∷ r) b) ∙ trail_line 0 l (10 ∷ (r ++ b)) h ∙ trail_lines b d

-- bytes without an LF at the end leave the line as it is
breaks_all : (k : ℕ) (b : List ℕ) → Unbroken b → breaks k b ≡ k
unfolding breaks
breaks_all k [] h = refl
breaks_all k (x ∷ b) h = rw (ne_eqb x 10 h.0) (breaks_all k b h.1)

-- bytes without an LF at the end are as many as the column moves by
trail_all : (k : ℕ) (b : List ℕ) → Unbroken b → bytes_after_break k b ≡ k + length b
unfolding bytes_after_break
trail_all k [] h = omega arith
trail_all k (x ∷ b) h = rw (ne_eqb x 10 h.0) (omega (arith, trail_all (k + 1) b h.1))

-- the line and column of a place by the rules are those that are computed
pub at_only : {s : List ℕ} {l c : ℕ} → At s l c → (l ≡ breaks 0 s) × (c ≡ bytes_after_break 0 s)
at_only {s} {l} {c} a =
    let e : 0 + l ≡ l = omega arith in
    let f : 0 + length a.begun ≡ length a.begun = omega arith in (
      sym (ap (breaks 0) a.shape ∙ breaks_lines 0 a.begun a.lines ∙ breaks_all (0 + l) a.begun a.open' ∙ e),
      a.long ∙ sym (ap (bytes_after_break 0) a.shape ∙ trail_lines a.begun a.lines ∙ trail_all 0 a.begun a.open' ∙ f),
    )

-- a line and a column of the place behind the bytes s
record Some (s : List ℕ) : Type 0 where
  line : ℕ
  column : ℕ
  here : At s line column

-- with an LF in front, one more whole line stands before the place
ahead_end : {n : ℕ} {w : List ℕ} (g : List ℕ) → Lines n w → Unbroken g → Some (10 ∷ (w ++ g))
ahead_end {n} {w} g d h = record { line = suc n; column = length g; here = record { whole = 10 ∷ w; begun = g; shape = refl; lines = more [] tt d; open' = h; long = refl } }

-- with any other byte in front, that byte stands in the first line
ahead_other : {n : ℕ} {w : List ℕ} (b : ℕ) (g : List ℕ) → (b ≡ 10 → ⊥) → Lines n w → Unbroken g → Some (b ∷ (w ++ g))
ahead_other b g k none h = record { line = 0; column = suc (length g); here = record { whole = []; begun = b ∷ g; shape = refl; lines = none; open' = (k, h); long = refl } }
ahead_other b g k (more {n} {r} l u d) h = record { line = suc n; column = length g; here = record { whole = (b ∷ l) ++ (10 ∷ r); begun = g; shape = refl; lines = more (b ∷ l) (k, u) d; open' = h; long = refl } }

-- every place has a line and a column, found byte by byte from the end
found : (s : List ℕ) → Some s
found [] = record { line = 0; column = 0; here = record { whole = []; begun = []; shape = refl; lines = none; open' = tt; long = refl } }
found (b ∷ s) = let a = (found s).here in subst (λ (t : List ℕ). Some (b ∷ t)) (sym a.shape) (go (eqb b 10) refl a)
  where
    go : (t : Bool) → eqb b 10 ≡ t → {l c : ℕ} (a : At s l c) → Some (b ∷ (a.whole ++ a.begun))
    go true e a = subst (λ (x : ℕ). Some (x ∷ (a.whole ++ a.begun))) (sym (eqb-true b 10 e)) (ahead_end a.begun a.lines a.open')
    go false e a = ahead_other b a.begun (eqb-false b 10 e) a.lines a.open'

-- the line and column that are computed are the place's by the rules
pub at_is : (s : List ℕ) → At s (breaks 0 s) (bytes_after_break 0 s)
at_is s =
    let a = found s in
    let w = at_only a.here in
    subst (λ (n : ℕ). At s n (bytes_after_break 0 s)) w.0 (subst (λ (n : ℕ). At s a.line n) w.1 a.here)
