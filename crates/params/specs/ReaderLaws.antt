-- What the code's parts promise, put together to the answers of Reader.antt. Assumes nothing.
use Rattle.std.specs.Prelude.{ℕ, zero, suc, ◌+◌, ◌-◌, ◌≤◌, ◌<◌, min, ◌≡◌, refl, true, false, not, ◌&&◌, Result, Ok, Err, eqb, leb, ltb, length, take, get_or}
use Rattle.std.proofs.Common.{sym, ◌∙◌, subst, length-take-le}
use Rattle.std.proofs.Math.Path.{ap}
use mathlib.Core.List.{List, [], ◌∷◌}
use native.Mathlib.Omega.{arith}
use Rattle.std.proofs.Math.Decide.{dec_le}
use borrow.Author.Tests.{leb-true, ltb-true, eq-eqb, ne_eqb, eqb-false, not-true}
use Rattle.std.proofs.Math.ListN.{drop}
use Rattle.common.specs.Lists.{split, drop_end}
use Rattle.common.specs.Tests.{both}
use Rattle.error.specs.declared.Fault.{Fault}
use Rattle.error.specs.declared.Fault.TheVariants.{OpenLiteral}
use Rattle.params.specs.declared.Cut.{Cut}
use Rattle.common.specs.Compare.{clash}
use Rattle.std.specs.Result.{MatchResult, IsErrAnd, result_unwrap_or}
use Rattle.std.proofs.lemmas.Result.{err_from_is_err_and}
use Rattle.error.specs.Refusal.{Refusal, refusal, good, bad, told, told_result}
use Rattle.lex.specs.Byte.{white, place}
use Rattle.lex.specs.Place.{place_drop}
use Rattle.lex.specs.Search.{trivia}
use Rattle.lex.specs.Answer.{Sought, at, fault, placed}
use Rattle.lex.specs.At.{trivia_at}
use Rattle.lex.specs.Right.{trivia_here}
use Rattle.params.specs.ParameterEnd.{cut_of, runs_out, started, eaten}
use Rattle.params.specs.Answer.{stops_before, literal_open, Read, reading, span, Span, reader_in_file, NextParamIn}
use Rattle.params.specs.Reader.{bounded, param_begun, param_of}
use Rattle.params.specs.Skips.{emptied, empty_of, skip_of, and_then, skip_from, skips_of}

-- where the test for a place and an end in a file of n bytes passes, they lie in it and not backwards
pub in_true : (n p e : ℕ) → reader_in_file n p e ≡ true → (p ≤ e) × (e ≤ n)
in_true n p e h = let (a, b) = both (leb p e) (leb e n) h in (leb-true p e a, leb-true e n b)

-- where the search past trivia answers a place, what is left there is what is left after trivia
pub started_at : (xs : List ℕ) (i p : ℕ) → i ≤ length xs → good p ≡ placed xs (trivia (drop i xs)) → (drop p xs ≡ started (drop i xs)) × (i ≤ p) × (p ≤ length xs)
unfolding started
started_at xs i p h e = let (a, b, c) = trivia_at xs i p h e in (sym (ap runs_out a), b, c)

-- "an open comment runs to the end": where the search past trivia is refused, nothing is left after trivia
pub started_open : (xs : List ℕ) (i : ℕ) (q : Refusal) → bad q ≡ placed xs (trivia (drop i xs)) → drop (length xs) xs ≡ started (drop i xs)
unfolding started
started_open xs i q = go (trivia (drop i xs))
  where
    go : (x : Sought) → bad q ≡ placed xs x → drop (length xs) xs ≡ runs_out x
    go (at r) e = let z : ◌≡◌ {A = ℕ} 0 1 = cc in absurd (omega arith)
    go (fault n o) e = drop_end xs (length xs) (omega arith)

-- what is left after trivia, and where that is: an open comment runs to the end
pub started_past : (xs : List ℕ) (i : ℕ) (r : Result ℕ Fault) → i ≤ length xs → told_result r ≡ placed xs (trivia (drop i xs))
    → (drop (result_unwrap_or r (length xs)) xs ≡ started (drop i xs)) × (i ≤ result_unwrap_or r (length xs)) × (result_unwrap_or r (length xs) ≤ length xs)
started_past xs i (Ok p) h e = started_at xs i p h e
started_past xs i (Err f) h e = (started_open xs i (told f) e, h, omega arith)

-- a byte above the space that is no slash begins no trivia
pub started_here : (xs : List ℕ) (i : ℕ) → i < length xs → ltb 32 (get_or xs i 0) && not (eqb (get_or xs i 0) 47) ≡ true → started (drop i xs) ≡ drop i xs
unfolding started
started_here xs i h e = let (a, b) = both (ltb 32 (get_or xs i 0)) (not (eqb (get_or xs i 0) 47)) e in
    let k = ltb-true 32 (get_or xs i 0) a in
    let w : white (get_or xs i 0) ≡ false = rw (ne_eqb (get_or xs i 0) 32 (λ q. absurd (omega arith)), ne_eqb (get_or xs i 0) 9 (λ q. absurd (omega arith)), ne_eqb (get_or xs i 0) 10 (λ q. absurd (omega arith)), ne_eqb (get_or xs i 0) 12 (λ q. absurd (omega arith)), ne_eqb (get_or xs i 0) 13 (λ q. absurd (omega arith))) refl in
    rw (split xs i h) (ap runs_out (trivia_here (get_or xs i 0) (drop (i + 1) xs) w (eqb-false (get_or xs i 0) 47 (not-true (eqb (get_or xs i 0) 47) b))))

module _ (s : List ℕ) (p e : ℕ) (inside : reader_in_file (length s) p e ≡ true) (start : ℕ) (begins : drop start (take e s) ≡ started (drop p (take e s))) (short : start ≤ e) where
  -- the bytes up to the reader's end are e in number
  total : length (take e s) ≡ e
  total = length-take-le e s (in_true (length s) p e inside).1

  -- a place up to e is that of the rest from there on
  there : (k : ℕ) → k ≤ e → place (take e s) (drop k (take e s)) ≡ k
  there k h = place_drop (take e s) k (omega (arith, total))

  -- the place past a comma at k, or the end where none is left
  comma : (k : ℕ) → k ≤ e → place (take e s) (eaten (drop k (take e s))) ≡ min (k + 1) e
  comma k h = go (dec_le e k)
    where
      go : Dec (e ≤ k) → place (take e s) (eaten (drop k (take e s))) ≡ min (k + 1) e
      go (yes l) = rw (drop_end (take e s) k (omega (arith, total))) (omega (arith, total))
      go (no l) = rw (split (take e s) k (omega (arith, total))) (there (k + 1) (omega arith) ∙ omega arith)

  -- no parameter is left just where the trivia reach the reader's end, and the answer says so
  pub empty_told : reading (good (eqb start e)) start e ≡ empty_of s p e
  unfolding empty_of
  empty_told = rw (inside, ← begins) (go (dec_le e start))
    where
      go : Dec (e ≤ start) → reading (good (eqb start e)) start e ≡ emptied (take e s) e (drop start (take e s))
      go (yes l) =
          let q : start ≡ e = omega arith in
          let r : place (take e s) [] ≡ start = omega (arith, total) in
          rw (drop_end (take e s) start (omega (arith, total)), eq-eqb start e q) (ap (λ (k : ℕ). reading (good true) k e) (sym r))
      go (no l) =
          let q : start ≡ e → ⊥ = λ h. l (omega arith) in
          let t : place (take e s) (get_or (take e s) start 0 ∷ drop (start + 1) (take e s)) ≡ start = ap (place (take e s)) (sym (split (take e s) start (omega (arith, total)))) ∙ there start short in
          rw (split (take e s) start (omega (arith, total)), ne_eqb start e q) (ap (λ (k : ℕ). reading (good false) k e) (sym t))

  -- "At the end there is none (10)": where the trivia reach the reader's end
  pub param_none : start ≡ e → reading (bad (refusal 10 0 e)) e e ≡ param_of s p e
  unfolding param_of
  param_none h =
      let r : place (take e s) [] ≡ e = omega (arith, total) in
      rw (inside, ← begins, drop_end (take e s) start (omega (arith, total))) (ap (λ (k : ℕ). reading (bad (refusal 10 0 k)) k e) (sym r))

  -- what starts before the reader's end is bounded by the parameter's end
  begun_at : start < e → bounded (take e s) e (drop start (take e s)) (cut_of (drop start (take e s))) ≡ param_begun (take e s) e (drop start (take e s))
  begun_at h = rw (split (take e s) start (omega (arith, total))) refl

  -- a parameter that is cut is the answer, and the reader stands past its comma or at the end
  pub param_cut : start < e → (z b : ℕ) → z ≤ e → b ≤ e → stops_before (drop z (take e s)) (drop b (take e s)) ≡ cut_of (drop start (take e s))
      → reading (good (span start z)) (min (b + 1) e) e ≡ param_of s p e
  unfolding param_of
  param_cut h z b hz hb k =
      rw (inside, ← begins)
      (ap (λ (i : ℕ). reading (good (span i z)) (min (b + 1) e) e) (sym (there start short))
      ∙ ap (λ (i : ℕ). reading (good (span (place (take e s) (drop start (take e s))) i)) (min (b + 1) e) e) (sym (there z hz))
      ∙ ap (λ (i : ℕ). reading (good (span (place (take e s) (drop start (take e s))) (place (take e s) (drop z (take e s))))) i e) (sym (comma b hb))
      ∙ ap (bounded (take e s) e (drop start (take e s))) k
      ∙ begun_at h)

  -- a parameter with an open literal is 11 at the literal's quote, and the reader stands at the parameter's start
  pub param_open : start < e → (q : ℕ) → q ≤ e → literal_open (drop q (take e s)) ≡ cut_of (drop start (take e s))
      → reading (bad (refusal 11 0 q)) start e ≡ param_of s p e
  unfolding param_of
  param_open h q hq k =
      rw (inside, ← begins)
      (ap (λ (i : ℕ). reading (bad (refusal 11 0 i)) start e) (sym (there q hq))
      ∙ ap (λ (i : ℕ). reading (bad (refusal 11 0 (place (take e s) (drop q (take e s))))) i e) (sym (there start short))
      ∙ ap (bounded (take e s) e (drop start (take e s))) k
      ∙ begun_at h)

-- where the first of n parameters is refused, so is the skipping of all
pub skip_stops : (n : ℕ) (s : List ℕ) (p e : ℕ) (q : Refusal) (p' e' : ℕ) → 0 < n → reading (bad q) p' e' ≡ skip_of s p e → reading (bad q) p' e' ≡ skip_from n s p e
unfolding skip_from
skip_stops zero s p e q p' e' h k = absurd (omega arith)
skip_stops (suc n) s p e q p' e' h k = ap (λ (r : Read (Unit {0})). and_then r.answer r.place r.end (λ q f. skip_from n s q f)) k

-- where the first of n parameters is skipped, the others follow from where the reader then stands
pub skip_goes : (n : ℕ) (s : List ℕ) (p e p' e' : ℕ) → 0 < n → reading (good tt) p' e' ≡ skip_of s p e → skip_from (n - 1) s p' e' ≡ skip_from n s p e
unfolding skip_from
skip_goes zero s p e p' e' h k = absurd (omega arith)
skip_goes (suc n) s p e p' e' h k =
    let m : suc n - 1 ≡ n = omega arith in
    ap (λ (i : ℕ). skip_from i s p' e') m ∙ ap (λ (r : Read (Unit {0})). and_then r.answer r.place r.end (λ q f. skip_from n s q f)) k

-- where no parameter is to be skipped, the reader stays
pub skip_ends : (n : ℕ) (s : List ℕ) (p e : ℕ) → n ≡ 0 → reading (good tt) p e ≡ skip_from n s p e
unfolding skip_from
skip_ends n s p e h = rw h refl

-- a reader whose place and end lie in the file skips n parameters as `skip_from` says
pub skips_in : (n : ℕ) (s : List ℕ) (p e : ℕ) → reader_in_file (length s) p e ≡ true → skip_from n s p e ≡ skips_of n s p e
unfolding skips_of
skips_in n s p e h = rw h refl

-- a parameter that is cut lies in the file, and runs forwards
pub cut_places : (n : ℕ) (r : Result Span Fault) (a : Span) → NextParamIn n r → r ≡ Ok a → (a.start ≤ a.stop) × (a.stop ≤ n)
cut_places n r a h e = subst (NextParamIn n) e h

-- where a parameter's end is turned to a fault, that is the open literal
pub open_fault : (r : Result Cut ℕ) (m : Result Cut Fault) (f : Fault) → MatchResult r (λ c. m ≡ Ok c) (λ q. IsErrAnd m (λ g. g ≡ OpenLiteral q)) → m ≡ Err f
    → (q : ℕ) × (r ≡ Err q) × (f ≡ OpenLiteral q)
open_fault (Ok c) m f h e = clash (cc)
open_fault (Err q) m f h e = let (y, a, b) = err_from_is_err_and m h in (q, refl, cc)

-- where a parameter's end is turned to a fault, a parameter's end that was found is as it was
pub cut_kept : (r : Result Cut ℕ) (m : Result Cut Fault) (k : Cut) → MatchResult r (λ c. m ≡ Ok c) (λ q. IsErrAnd m (λ g. g ≡ OpenLiteral q)) → m ≡ Ok k → r ≡ Ok k
cut_kept (Ok c) m k h e = cc
cut_kept (Err q) m k h e = let (y, a, b) = err_from_is_err_and m h in clash (cc)
