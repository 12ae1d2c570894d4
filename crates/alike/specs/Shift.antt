-- A reader's parameter depends only on the bytes that it reads, not on where in the file they stand: in a part of the file it is the
-- parameter of those bytes alone, its places moved on by the part's start. Assumes nothing.
use Rattle.std.specs.Prelude.{ℕ, ◌+◌, ◌-◌, ◌≤◌, ◌≡◌, refl, List, [], ◌∷◌, take}
use Rattle.std.proofs.Math.Path.{sym, ap}
use Rattle.std.proofs.Common.{◌∙◌, take_all, drop-drop}
use native.Mathlib.Omega.{arith}
use Rattle.std.proofs.Math.ListN.{length, drop, length-drop}
use Rattle.std.proofs.Math.Seq.{take-length, length-take-le}
use Rattle.error.specs.Refusal.{refusal, Told, good, bad}
use Rattle.lex.specs.Byte.{place}
use Rattle.params.specs.Answer as Cut
use Rattle.params.specs.ParameterEnd.{cut_of, started, eaten}
use Rattle.params.specs.Answer.{literal_open, Read, reading, Span, span}
use Rattle.params.specs.Right.{param_is, unclosed_is, started_is}
use Rattle.params.specs.Reader.{bounded, param_begun, param_of}
use Rattle.lex.specs.Rests.{rest_within}
use Rattle.params.specs.RulesRight.{param_rest, unclosed_rest, starts_rest, inside_true}
use Rattle.scalars.specs.Laws.{part_part}
use Rattle.lookup.specs.Lookup.{bytes_between}

-- a part of the file, a bytes further on
abbrev pub span_ahead : ℕ → Span → Span
span_ahead a r = span (a + r.start) (a + r.stop)

-- an answer, a bytes further on: its value by f, and its refusal's place
abbrev pub told_ahead : {A : Type 0} → (A → A) → ℕ → Told A → Told A
told_ahead f a (good x) = good (f x)
told_ahead f a (bad q) = bad (refusal q.number q.reason (a + q.place))

-- a reader's answer, a bytes further on: its place too, and its end is z
abbrev pub shifted_read : {A : Type 0} → (A → A) → ℕ → ℕ → Read A → Read A
shifted_read f a z r = reading (told_ahead f a r.answer) (a + r.place) z

-- what is left past a comma, or at the end, is no longer than before
eaten_within : (r : List ℕ) → length (eaten r) ≤ length r
eaten_within [] = omega arith
eaten_within (c ∷ r) = omega arith

-- ---- two lists of bytes, the second a bytes shorter: places in both
module _ (xs u : List ℕ) (a z : ℕ) (longer : length xs ≡ a + length u) where
  -- a rest's place in the longer list is that in the shorter, a bytes further on
  place_shift : (r : List ℕ) → length r ≤ length u → place xs r ≡ a + place u r
  place_shift r h = omega (arith, longer)

  -- a parameter by its end, in the longer list, is that in the shorter, a bytes further on
  bounded_shift : (ys : List ℕ) (x : Cut.ParamEnd) → cut_of ys ≡ x → length ys ≤ length u → bounded xs z ys x ≡ shifted_read (span_ahead a) a z (bounded u (length u) ys x)
  bounded_shift ys (Cut.stops_before stop bound) k h =
      let (w, v) = param_rest (param_is ys stop bound k) in
      let l = rest_within w in
      let m = rest_within v in
      let n = eaten_within bound in
      let p = place_shift ys h in
      let q = place_shift stop (omega arith) in
      let r = place_shift (eaten bound) (omega arith) in
      ap (λ (i : ℕ). reading (good (span i (place xs stop))) (place xs (eaten bound)) z) p
      ∙ ap (λ (i : ℕ). reading (good (span (a + place u ys) i)) (place xs (eaten bound)) z) q
      ∙ ap (λ (i : ℕ). reading (good (span (a + place u ys) (a + place u stop))) i z) r
  bounded_shift ys (literal_open o) k h =
      let (w, v) = unclosed_rest (unclosed_is ys o k) in
      let l = rest_within w in
      let p = place_shift ys h in
      let q = place_shift o (omega arith) in
      ap (λ (i : ℕ). reading (bad (refusal 11 0 i)) (place xs ys) z) q
      ∙ ap (λ (i : ℕ). reading (bad (refusal 11 0 (a + place u o))) i z) p

  -- what is answered at a parameter's start, in the longer list, is that in the shorter, a bytes further on
  begun_shift : (ys : List ℕ) → length ys ≤ length u → param_begun xs z ys ≡ shifted_read (span_ahead a) a z (param_begun u (length u) ys)
  begun_shift [] h = ap (λ (i : ℕ). reading (bad (refusal 10 0 i)) i z) (place_shift [] h)
  begun_shift (c ∷ r) h = bounded_shift (c ∷ r) (cut_of (c ∷ r)) refl h

-- ---- the bytes of the file s from a up to z
module _ (s : List ℕ) (a z : ℕ) (az : a ≤ z) (zs : z ≤ length s) where
  -- the bytes from a up to z are z - a in number
  pub shift_between_length : length (bytes_between s a z) ≡ z - a
  shift_between_length = length-take-le (z - a) (drop a s) (omega (arith, length-drop a s))

  -- the bytes from a up to z are those from a on of the bytes up to z
  pub between_drop : drop a (take z s) ≡ bytes_between s a z
  between_drop =
      let l : length (drop a (take z s)) ≡ z - a = length-drop a (take z s) ∙ ap (λ (n : ℕ). n - a) (length-take-le z s zs) in
      let m : 0 + z - (0 + a) ≡ z - a = omega arith in
      let n : 0 + a ≡ a = omega arith in
      sym (take_all (z - a) (drop a (take z s)) (omega arith)) ∙ part_part s 0 z a z az (omega arith)
      ∙ ap (λ (k : ℕ). take k (drop (0 + a) s)) m ∙ ap (λ (k : ℕ). take (z - a) (drop k s)) n

  -- the next parameter of a reader in a part of the file is that of its bytes alone, a bytes further on
  pub param_shift : (i : ℕ) → i ≤ z - a → param_of s (a + i) z ≡ shifted_read (span_ahead a) a z (param_of (bytes_between s a z) i (length (bytes_between s a z)))
  unfolding param_of
  param_shift i h =
      let n = shift_between_length in
      let m : length (take z s) ≡ a + length (bytes_between s a z) = length-take-le z s zs ∙ omega arith in
      let e : drop (a + i) (take z s) ≡ drop i (bytes_between s a z) = sym (drop-drop i a (take z s)) ∙ ap (drop i) between_drop in
      rw (inside_true s (a + i) z (omega arith, zs), inside_true (bytes_between s a z) i (length (bytes_between s a z)) (omega arith, omega arith), take-length (bytes_between s a z), e)
      (begun_shift (take z s) (bytes_between s a z) a z m (started (drop i (bytes_between s a z)))
      (omega (arith, rest_within (starts_rest (started_is (drop i (bytes_between s a z)))), length-drop i (bytes_between s a z))))
