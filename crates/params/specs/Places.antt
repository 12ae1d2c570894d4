-- "with a place from 0 to the input's length" (demand 1), and where the reader stands after an answer: never before where it stood,
-- never past its end; as it came on 9; "after 12, 13 and 16 [..] past the parameter and its comma". All of it read off the rules.
-- Assumes nothing.
use Rattle.std.specs.Prelude.{ℕ, zero, suc, ◌-◌, ◌≤◌, ◌<◌, ◌≡◌, refl, Bool, true, false, ◌⊎◌, List, [], ◌∷◌, length, take, get_or}
use Rattle.std.proofs.Common.{sym, ◌∙◌, ap, subst, inl, inr, arith, length-drop, length-take-le, get_or-take}
use Rattle.common.specs.Pick.{pick}
use Rattle.common.specs.Lists.{split}
use Rattle.error.specs.Refusal.{Refusal, refusal, Told, good, bad}
use Rattle.params.specs.Grammar.{Bound, Parameter, Starts}
use Rattle.params.specs.ParameterEnd.{started}
use Rattle.params.specs.Right.{started_is}
use Rattle.params.specs.Reader.{param_of}
use Rattle.params.specs.Skips.{emptied, empty_of, skip_of, and_then, skip_from, skips_of}
use Rattle.params.specs.Answer.{Read, reading, Span, reader_in_file, onward, read_mapped}
use Rattle.params.specs.ReaderLaws.{in_true}
use Rattle.params.specs.Rules.{ReaderInFile, reader_rest, NextParamForm}
use Rattle.lex.specs.Rests.{rest_within}
use Rattle.params.specs.RulesRight.{starts_rest, inside_true, param_next_is}

-- a refusal's place, if there is one, is at most n
abbrev pub PlacedIn : {A : Type 0} → ℕ → Told A → Type 0
PlacedIn n (good a) = Unit {0}
PlacedIn n (bad q) = q.place ≤ n

-- a reader that stood at p and reads up to e now stands between the two, and reads up to e still
pub record Stands {A : Type 0} (p e : ℕ) (r : Read A) : Type 0 where
  pub above : p ≤ r.place
  pub within : r.place ≤ e
  pub kept : r.end ≡ e

-- a reader that stood at p now stands at q, past the parameter a and its comma: at the end, or just after a comma that follows it
pub record PastParameter (s : List ℕ) (p e : ℕ) (a : Span) (q : ℕ) : Type 0 where
  pub starts : p ≤ a.start
  pub ordered : a.start ≤ a.stop
  pub passed : a.stop ≤ q
  pub moved : a.start < q
  pub within : q ≤ e
  pub comma : (q ≡ e) ⊎ ((a.stop < q) × (get_or s (q - 1) 0 ≡ 44))

-- what an answer for the next parameter says: a parameter in the file, which the reader has passed; or a refusal up to 11
abbrev pub ToldPast : List ℕ → ℕ → ℕ → Told Span → ℕ → Type 0
ToldPast s p e (good a) q = ReaderInFile s p e × PastParameter s p e a q
ToldPast s p e (bad f) q = f.number ≤ 11

module _ (s : List ℕ) (p e : ℕ) where
  -- a parameter starts where the reader stands, or after it
  starts_from : ReaderInFile s p e → (a : ℕ) → a ≤ e → Starts (reader_rest s e p) (reader_rest s e a) → p ≤ a
  starts_from i a h k =
      let n = length-take-le e s i.1 in
      omega (arith, n, length-drop p (take e s), length-drop a (take e s), rest_within (starts_rest k))

  -- where a parameter ends before the end stands a comma
  ends_comma : ReaderInFile s p e → (b : ℕ) → b < e → {x z : List ℕ} → Parameter x z (reader_rest s e b) → get_or s b 0 ≡ 44
  ends_comma i b h q = sym (get_or-take e s b 0 h) ∙ go q.bounds
    where
      n : length (take e s) ≡ e
      n = length-take-le e s i.1

      byte : {d : ℕ} (xs : List ℕ) → reader_rest s e b ≡ xs → Bound d xs → get_or (take e s) b 0 ≡ 44
      byte xs k Bound.comma = cc (split (take e s) b (omega (arith, n)))
      byte xs k Bound.end = absurd (omega (arith, n, length-drop b (take e s), ap length k))

      go : {d : ℕ} → Bound d (reader_rest s e b) → get_or (take e s) b 0 ≡ 44
      go = byte (reader_rest s e b) refl

  -- the place of a refusal of the next parameter lies in the file
  form_placed : {r : Read Span} → NextParamForm s p e r → PlacedIn (length s) r.answer
  form_placed (NextParamForm.outside n) = omega arith
  form_placed (NextParamForm.none i h) = i.1
  form_placed (NextParamForm.comma i az zb be h q) = tt
  form_placed (NextParamForm.last i ae az ze h q) = tt
  form_placed (NextParamForm.unclosed i aq qe h u) = let k = i.1 in omega arith

  -- after the next parameter the reader stands between where it was and its end
  form_stands : {r : Read Span} → NextParamForm s p e r → ReaderInFile s p e → Stands p e r
  form_stands (NextParamForm.outside n) i = absurd (n i)
  form_stands (NextParamForm.none i h) k = record { above = i.0; within = omega arith; kept = refl }
  form_stands (NextParamForm.comma {a} i az zb be h q) k = let l = starts_from i a (omega arith) h in record { above = omega arith; within = omega arith; kept = refl }
  form_stands (NextParamForm.last i ae az ze h q) k = record { above = i.0; within = omega arith; kept = refl }
  form_stands (NextParamForm.unclosed {a} i aq qe h u) k = let l = starts_from i a (omega arith) h in record { above = l; within = omega arith; kept = refl }

  -- what the reader has passed after the next parameter, by the rules
  form_past : {r : Read Span} → NextParamForm s p e r → ToldPast s p e r.answer r.place
  form_past (NextParamForm.outside n) = omega arith
  form_past (NextParamForm.none i h) = omega arith
  form_past (NextParamForm.comma {a} {z} {b} i az zb be h q) =
      let m : suc b - 1 ≡ b = omega arith in (
        i,
        record {
          starts = starts_from i a (omega arith) h;
          ordered = az;
          passed = omega arith;
          moved = omega arith;
          within = omega arith;
          comma = inr (omega arith, ap (λ (k : ℕ). get_or s k 0) m ∙ ends_comma i b be q);
        },
      )
  form_past (NextParamForm.last {a} i ae az ze h q) =
      (i, record { starts = starts_from i a (omega arith) h; ordered = az; passed = ze; moved = ae; within = omega arith; comma = inl refl })
  form_past (NextParamForm.unclosed i aq qe h u) = omega arith

-- the next parameter's refusal, if it is one, lies in the file
pub param_placed : (s : List ℕ) (p e : ℕ) → PlacedIn (length s) (param_of s p e).answer
param_placed s p e = form_placed s p e (param_next_is s p e)

-- after the next parameter that is computed, the reader stands between where it was and its end
pub param_stands : (s : List ℕ) (p e : ℕ) → ReaderInFile s p e → Stands p e (param_of s p e)
param_stands s p e = form_stands s p e (param_next_is s p e)

-- a reader outside the file or backwards stays as it came, and its answer is 9
pub param_stays : (s : List ℕ) (p e : ℕ) → reader_in_file (length s) p e ≡ false → param_of s p e ≡ reading (bad (refusal 9 0 0)) p e
unfolding param_of
param_stays s p e h = rw h refl

-- a parameter lies between where the reader stood and where it stands, which is past it and its comma
pub param_past : (s : List ℕ) (p e : ℕ) (a : Span) → (param_of s p e).answer ≡ good a → ReaderInFile s p e × PastParameter s p e a (param_of s p e).place
param_past s p e a h = subst (λ (t : Told Span). ToldPast s p e t (param_of s p e).place) h (form_past s p e (param_next_is s p e))

-- ---- what a parameter is read as, by any reader f
module _ {A : Type 0} (f : Span → Told A) (s : List ℕ) (p e : ℕ) where
  -- whatever the next parameter is read as, the reader then stands between where it was and its end
  pub mapped_stands : ReaderInFile s p e → Stands p e (read_mapped f (param_of s p e))
  mapped_stands i = let k = param_stands s p e i in record { above = k.above; within = k.within; kept = k.kept }

  -- the refusal of what the next parameter is read as lies in the file, if f's does for each parameter in the file
  pub mapped_placed : ((a : Span) → a.start ≤ a.stop → a.stop ≤ length s → PlacedIn (length s) (f a)) → PlacedIn (length s) (read_mapped f (param_of s p e)).answer
  mapped_placed h = go (param_of s p e).answer refl (param_placed s p e)
    where
      go : (t : Told Span) → (param_of s p e).answer ≡ t → PlacedIn (length s) t → PlacedIn (length s) (onward f t)
      go (good a) k l = let (i, u) = param_past s p e a k in let n = i.1 in let m = u.passed in let o = u.within in h a u.ordered (omega arith)
      go (bad q) k l = l

  -- a reader outside the file or backwards stays as it came, whatever the next parameter is read as, and its answer is 9
  pub mapped_stays : reader_in_file (length s) p e ≡ false → read_mapped f (param_of s p e) ≡ reading (bad (refusal 9 0 0)) p e
  mapped_stays h = rw (param_stays s p e h) refl

  -- "The reader after 12, 13 and 16 stands past the parameter and its comma": a is the parameter that was cut
  pub refused_past : (q : Refusal) → (read_mapped f (param_of s p e)).answer ≡ bad q → 11 < q.number
      → (a : Span) × ((param_of s p e).answer ≡ good a) × (f a ≡ bad q) × ReaderInFile s p e × PastParameter s p e a (read_mapped f (param_of s p e)).place
  refused_past q h n = go (param_of s p e).answer refl (form_past s p e (param_next_is s p e)) h
    where
      go : (t : Told Span) → (param_of s p e).answer ≡ t → ToldPast s p e t (param_of s p e).place → onward f t ≡ bad q
          → (a : Span) × ((param_of s p e).answer ≡ good a) × (f a ≡ bad q) × ReaderInFile s p e × PastParameter s p e a (param_of s p e).place
      go (good a) k l m = (a, k, m, l.0, l.1)
      go (bad r) k l m = let z : r.number ≡ q.number = cc in absurd (omega arith)

-- ---- `is_empty`, `skip`, `skip_n`
-- after the question whether no parameter is left, the reader stands between where it was and its end
pub empty_stands : (s : List ℕ) (p e : ℕ) → ReaderInFile s p e → Stands p e (empty_of s p e)
unfolding empty_of
empty_stands s p e i = rw (inside_true s p e i) (go (started (reader_rest s e p)) (started_is (reader_rest s e p)))
  where
    n : length (take e s) ≡ e
    n = length-take-le e s i.1

    go : (ys : List ℕ) → Starts (reader_rest s e p) ys → Stands p e (emptied (take e s) e ys)
    go [] h = let k = i.0 in record { above = omega (arith, n); within = omega (arith, n); kept = refl }
    go (c ∷ r) h =
        let k = i.0 in
        let l = rest_within (starts_rest h) in
        record { above = omega (arith, n, l, length-drop p (take e s)); within = omega (arith, n); kept = refl }

-- a refusal of the question whether no parameter is left lies in the file
pub empty_placed : (s : List ℕ) (p e : ℕ) → PlacedIn (length s) (empty_of s p e).answer
unfolding empty_of
empty_placed s p e = go (reader_in_file (length s) p e) (started (reader_rest s e p))
  where
    go : (t : Bool) (ys : List ℕ) → PlacedIn (length s) (pick t (emptied (take e s) e ys) (reading (bad (refusal 9 0 0)) p e)).answer
    go true [] = tt
    go true (c ∷ r) = tt
    go false ys = omega arith

-- after one parameter was skipped, the reader stands between where it was and its end
pub skip_stands : (s : List ℕ) (p e : ℕ) → ReaderInFile s p e → Stands p e (skip_of s p e)
unfolding skip_of
skip_stands s p e = mapped_stands (λ a. good tt) s p e

-- a refusal of one parameter's skipping lies in the file
pub skip_placed : (s : List ℕ) (p e : ℕ) → PlacedIn (length s) (skip_of s p e).answer
unfolding skip_of
skip_placed s p e = mapped_placed (λ a. good tt) s p e (λ a h k. tt)

-- after n parameters were skipped, from inside the file, the reader stands between where it was and its end, and a refusal lies in the file
skip_from_lem : (n : ℕ) (s : List ℕ) (p e : ℕ) → ReaderInFile s p e → Stands p e (skip_from n s p e) × PlacedIn (length s) (skip_from n s p e).answer
unfolding skip_from
skip_from_lem zero s p e i = let k = i.0 in (record { above = omega arith; within = k; kept = refl }, tt)
skip_from_lem (suc n) s p e i = go (skip_of s p e).answer (skip_stands s p e i) (skip_placed s p e) (λ q f. skip_from_lem n s q f)
  where
    go : (t : Told (Unit {0})) → Stands p e (skip_of s p e) → PlacedIn (length s) t
        → ((q f : ℕ) → ReaderInFile s q f → Stands q f (skip_from n s q f) × PlacedIn (length s) (skip_from n s q f).answer)
        → Stands p e (and_then t (skip_of s p e).place (skip_of s p e).end (λ q f. skip_from n s q f))
        × PlacedIn (length s) (and_then t (skip_of s p e).place (skip_of s p e).end (λ q f. skip_from n s q f)).answer
    go (bad q) h k ih = (record { above = h.above; within = h.within; kept = h.kept }, k)
    go (good u) h k ih =
        let a = h.above in
        let w = h.within in
        let f = h.kept in
        let l = i.1 in
        let (x, y) = ih (skip_of s p e).place (skip_of s p e).end (omega arith, omega arith) in
        let b = x.above in
        let c = x.within in
        let d = x.kept in
        (record { above = omega arith; within = omega arith; kept = d ∙ f }, y)

-- after n parameters were skipped, the reader stands between where it was and its end
pub skips_stands : (n : ℕ) (s : List ℕ) (p e : ℕ) → ReaderInFile s p e → Stands p e (skips_of n s p e)
unfolding skips_of
skips_stands n s p e i = rw (inside_true s p e i) (skip_from_lem n s p e i).0

-- a refusal that stops the skipping of n parameters lies in the file
pub skips_placed : (n : ℕ) (s : List ℕ) (p e : ℕ) → PlacedIn (length s) (skips_of n s p e).answer
unfolding skips_of
skips_placed n s p e = go (reader_in_file (length s) p e) refl
  where
    go : (t : Bool) → reader_in_file (length s) p e ≡ t → PlacedIn (length s) (pick t (skip_from n s p e) (reading (bad (refusal 9 0 0)) p e)).answer
    go true h = (skip_from_lem n s p e (in_true (length s) p e h)).1
    go false h = omega arith
