-- Lines and columns of a place, computed; Lines.antt says what they are. Assumes nothing.
use Rattle.std.specs.Prelude.{ℕ, ◌+◌, ◌<◌, ◌≤◌, ◌≡◌, refl, Bool, true, false, List, [], ◌∷◌, length, drop, get_or, eqb}
use Rattle.std.proofs.Common.{sym, ◌∙◌, ap, subst, drop_of_length-le, drop-cons, add-one, arith}

-- One of two numbers, by a test.
abbrev pub choice : Bool → ℕ → ℕ → ℕ
choice true a b = a
choice false a b = b

-- Where neither of two numbers is more than n, the one that is chosen is not.
pub choice_most : (t : Bool) (a b n : ℕ) → a ≤ n → b ≤ n → choice t a b ≤ n
choice_most true a b n h k = h
choice_most false a b n h k = k

-- How many LFs there are, k of them before.
unfoldable pub breaks : ℕ → List ℕ → ℕ
breaks k [] = k
breaks k (b ∷ r) = breaks (choice (eqb b 10) (k + 1) k) r

-- How many bytes stand behind the last LF, k of them before: an LF begins a line anew.
unfoldable pub bytes_after_break : ℕ → List ℕ → ℕ
bytes_after_break k [] = k
bytes_after_break k (b ∷ r) = bytes_after_break (choice (eqb b 10) 0 (k + 1)) r

-- What a walk from the front knows at place i of the lines and columns.
pub record LinesCounted (s : List ℕ) (line column i : ℕ) : Type 0 where
  pub few : line ≤ i
  pub short : column ≤ i
  pub lines : breaks line (drop i s) ≡ breaks 0 s
  pub columns : bytes_after_break column (drop i s) ≡ bytes_after_break 0 s

-- The byte at a place, and what follows it.
split : (xs : List ℕ) (i : ℕ) → i < length xs → drop i xs ≡ get_or xs i 0 ∷ drop (i + 1) xs
split xs i h = rw (add-one, drop-cons xs i 0)

-- What the walk knows where it begins.
pub lines_counted_start : (s : List ℕ) → LinesCounted s 0 0 0
lines_counted_start s = record { few = omega arith; short = omega arith; lines = refl; columns = refl }

-- What the walk knows one byte further.
pub lines_counted_next : (s : List ℕ) (l c i : ℕ) → i < length s → LinesCounted s l c i
    → LinesCounted s (choice (eqb (get_or s i 0) 10) (l + 1) l) (choice (eqb (get_or s i 0) 10) 0 (c + 1)) (i + 1)
unfolding breaks bytes_after_break
lines_counted_next s l c i h k = record {
  few = choice_most (eqb (get_or s i 0) 10) (l + 1) l (i + 1) (omega arith) (omega arith);
  short = choice_most (eqb (get_or s i 0) 10) 0 (c + 1) (i + 1) (omega arith) (omega arith);
  lines = sym (ap (breaks l) (split s i h)) ∙ k.lines;
  columns = sym (ap (bytes_after_break c) (split s i h)) ∙ k.columns;
}

-- Where the walk ends, its line and column are those of the whole.
pub lines_counted_end : (s : List ℕ) (l c i : ℕ) → length s ≤ i → LinesCounted s l c i → (l ≡ breaks 0 s) × (c ≡ bytes_after_break 0 s)
unfolding breaks bytes_after_break
lines_counted_end s l c i h k = (sym (ap (breaks l) (drop_of_length-le s h)) ∙ k.lines, sym (ap (bytes_after_break c) (drop_of_length-le s h)) ∙ k.columns)

-- What the walk knows one byte further, by the numbers that a turn of the code has computed.
pub lines_counted_again : (s : List ℕ) (l c i l' c' : ℕ) → i < length s → LinesCounted s l c i
    → l' ≡ choice (eqb (get_or s i 0) 10) (l + 1) l → c' ≡ choice (eqb (get_or s i 0) 10) 0 (c + 1) → LinesCounted s l' c' (i + 1)
lines_counted_again s l c i l' c' h k p q = subst (λ (x : ℕ). LinesCounted s x c' (i + 1)) (sym p) (subst (λ (x : ℕ). LinesCounted s (choice (eqb (get_or s i 0) 10) (l + 1) l) x (i + 1)) (sym q) (lines_counted_next s l c i h k))
