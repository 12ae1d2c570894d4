-- What a reader makes of its next parameter depends only on the bytes that it reads: skipped, read as a scalar, as a name or as a list.
-- In a part of the file it is the answer for those bytes alone, its places moved on by the part's start. Assumes nothing.
use Rattle.std.specs.Prelude.{ℕ, ◌+◌, ◌-◌, ◌≤◌, ◌≡◌, Bool, length}
use Rattle.std.proofs.Math.Path.{refl, ap}
use Rattle.std.proofs.Common.{sym, ◌∙◌, arith}
use Rattle.std.proofs.Math.Bool.{true, false}
use mathlib.Core.List.{List}
use Rattle.common.specs.Pick.{pick}
use Rattle.common.specs.Compare.{clash}
use Rattle.error.specs.Refusal.{refusal, Told, good, bad}
use Rattle.reals.specs.Answer.{Answer, read, refused}
use Rattle.params.specs.Reader.{param_of}
use Rattle.params.specs.Skips.{skip_of}
use Rattle.params.specs.Answer.{Read, reading, Span, span, onward, read_mapped}
use Rattle.params.specs.Places.{param_past}
use Rattle.scalars.specs.Laws.{part_part}
use Rattle.scalars.specs.Answer.{answered, scalar_at, next_of}
use Rattle.words.specs.Words.{is_name, name_at}
use Rattle.words.specs.Answer.{span_bytes}
use Rattle.words.specs.Rules.{NameForm}
use Rattle.words.specs.RulesRight.{part_long, nameform_is}
use Rattle.words.specs.Places.{SpanIn, ToldIn, name_in_lem}
use Rattle.lists.specs.Answer.{Fate, fine, faulty, roomed, next_by}
use Rattle.lookup.specs.Lookup.{bytes_between}
use Rattle.factors.specs.Unit.{name_or, next_unit_name}
use Rattle.alike.specs.Shift.{span_ahead, told_ahead, shifted_read, shift_between_length, param_shift}

-- a value that has no place stays as it is
abbrev pub as_it_is : {A : Type 0} → A → A
as_it_is x = x

-- ---- the bytes of the file s from a up to z
module _ (s : List ℕ) (a z : ℕ) (az : a ≤ z) (zs : z ≤ length s) where
  -- a part of the bytes from a up to z has the same bytes in the file, a bytes further on
  pub part_shift : (b : Span) → SpanIn (length (bytes_between s a z)) b → span_bytes s (span_ahead a b) ≡ span_bytes (bytes_between s a z) b
  part_shift b (h, k) = sym (part_part s a (z - a) b.start b.stop h (omega (arith, shift_between_length s a z az zs)))

  -- the next parameter, read on by g in the file, is what f reads of the bytes alone, a bytes further on
  pub mapped_shift : {A : Type 0} (v : A → A) (g f : Span → Told A) → ((b : Span) → SpanIn (length (bytes_between s a z)) b → g (span_ahead a b) ≡ told_ahead v a (f b))
      → (i : ℕ) → i ≤ z - a → read_mapped g (param_of s (a + i) z) ≡ shifted_read v a z (read_mapped f (param_of (bytes_between s a z) i (length (bytes_between s a z))))
  mapped_shift {A} v g f same i h = rw (param_shift s a z az zs i h) (ap (λ (x : Told A). reading x (a + (param_of u i (length u)).place) z) (go (param_of u i (length u)).answer refl))
    where
      u : List ℕ
      u = bytes_between s a z

      go : (x : Told Span) → (param_of u i (length u)).answer ≡ x → onward g (told_ahead (span_ahead a) a x) ≡ told_ahead v a (onward f x)
      go (bad q) e = refl
      go (good b) e =
          let (l, k) = param_past u i (length u) b e in
          let m = k.passed in
          let n = k.within in
          same b (k.ordered, omega arith)

  -- the next parameter that is skipped in the file is that of the bytes alone, a bytes further on
  pub skip_shift : (i : ℕ) → i ≤ z - a → skip_of s (a + i) z ≡ shifted_read as_it_is a z (skip_of (bytes_between s a z) i (length (bytes_between s a z)))
  unfolding skip_of
  skip_shift = mapped_shift as_it_is (λ b. good tt) (λ b. good tt) (λ b h. refl)

  -- the next parameter, read as a scalar in the file, is that of the bytes alone, a bytes further on
  pub next_shift : {A : Type 0} (f : List ℕ → Answer A) (i : ℕ) → i ≤ z - a → next_of f s (a + i) z ≡ shifted_read as_it_is a z (next_of f (bytes_between s a z) i (length (bytes_between s a z)))
  unfolding next_of
  next_shift {A} f = mapped_shift as_it_is (scalar_at f s) (scalar_at f (bytes_between s a z)) (λ b h. ap (λ (t : List ℕ). answered (a + b.start) (f t)) (part_shift b h) ∙ go b (f (span_bytes (bytes_between s a z) b)))
    where
      go : (b : Span) (x : Answer A) → answered (a + b.start) x ≡ told_ahead as_it_is a (answered b.start x)
      go b (read v) = refl
      go b (refused n) = refl

  -- the next parameter, read as a list or a grid in the file, is that of the bytes alone, a bytes further on
  pub list_shift : {A : Type 0} (g : List ℕ → Fate A) (fits : A → Bool) (i : ℕ) → i ≤ z - a → next_by g fits s (a + i) z ≡ shifted_read as_it_is a z (next_by g fits (bytes_between s a z) i (length (bytes_between s a z)))
  unfolding next_by
  list_shift {A} g fits = mapped_shift as_it_is (λ b. roomed fits b.start (g (span_bytes s b))) (λ b. roomed fits b.start (g (span_bytes (bytes_between s a z) b)))
      (λ b h. ap (λ (t : List ℕ). roomed fits (a + b.start) (g t)) (part_shift b h) ∙ go b (g (span_bytes (bytes_between s a z) b)))
    where
      room : (b : Span) (v : A) (t : Bool) → pick t (good v) (bad (refusal 16 0 (a + b.start))) ≡ told_ahead as_it_is a (pick t (good v) (bad (refusal 16 0 b.start)))
      room b v true = refl
      room b v false = refl

      go : (b : Span) (x : Fate A) → roomed fits (a + b.start) x ≡ told_ahead as_it_is a (roomed fits b.start x)
      go b (fine v) = room b v (fits v)
      go b (faulty n o) = let e : a + b.start + o ≡ a + (b.start + o) = omega arith in ap (λ (k : ℕ). bad (refusal n 0 k)) e

  -- a parameter that is a name has at least its two dots
  name_long : (b : Span) → SpanIn (length (bytes_between s a z)) b → is_name (span_bytes (bytes_between s a z) b) ≡ true → b.start + 2 ≤ b.stop
  name_long b (h, k) e = go (nameform_is u b) (rw e refl)
    where
      u : List ℕ
      u = bytes_between s a z

      go : {x : Told Span} → NameForm u b x → x ≡ good (span (b.start + 1) (b.stop - 1)) → b.start + 2 ≤ b.stop
      go (NameForm.name {n} m) l = part_long u b n 46 46 h k m.dots
      go (NameForm.other n) l = clash (cc)

  -- the next parameter, read as a name in the file, is that of the bytes alone, a bytes further on
  pub name_shift : (i : ℕ) → i ≤ z - a → next_unit_name s (a + i) z ≡ shifted_read (span_ahead a) a z (next_unit_name (bytes_between s a z) i (length (bytes_between s a z)))
  name_shift = mapped_shift (span_ahead a) (name_at s) (name_at (bytes_between s a z)) (λ b h. rw (part_shift b h) (go b h (is_name (span_bytes (bytes_between s a z) b)) refl))
    where
      go : (b : Span) → SpanIn (length (bytes_between s a z)) b → (t : Bool) → is_name (span_bytes (bytes_between s a z) b) ≡ t
          → pick t (good (span (a + b.start + 1) (a + b.stop - 1))) (bad (refusal 12 0 (a + b.start))) ≡ told_ahead (span_ahead a) a (pick t (good (span (b.start + 1) (b.stop - 1))) (bad (refusal 12 0 b.start)))
      go b h true e =
          let l = name_long b h e in
          let x : a + b.start + 1 ≡ a + (b.start + 1) = omega arith in
          let y : a + b.stop - 1 ≡ a + (b.stop - 1) = omega arith in
          ap (λ (k : ℕ). good (span k (a + b.stop - 1))) x ∙ ap (λ (k : ℕ). good (span (a + (b.start + 1)) k)) y
      go b h false e = refl

  -- the bytes of the next parameter's name in the file are those of the name in the bytes alone
  pub named_shift : (other : List ℕ) (i : ℕ) → i ≤ z - a → name_or other s (next_unit_name s (a + i) z).answer ≡ name_or other (bytes_between s a z) (next_unit_name (bytes_between s a z) i (length (bytes_between s a z))).answer
  named_shift other i h = ap (λ (r : Read Span). name_or other s r.answer) (name_shift i h) ∙ go (next_unit_name (bytes_between s a z) i (length (bytes_between s a z))).answer (name_in_lem (bytes_between s a z) i (length (bytes_between s a z)))
    where
      go : (x : Told Span) → ToldIn (length (bytes_between s a z)) (SpanIn (length (bytes_between s a z))) x → name_or other s (told_ahead (span_ahead a) a x) ≡ name_or other (bytes_between s a z) x
      go (good b) k = part_shift b k
      go (bad q) k = refl
