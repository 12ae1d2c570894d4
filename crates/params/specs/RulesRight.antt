-- Rules.antt's rules and what Reader.antt computes are one: what is computed is so, and nothing else is. Assumes nothing.
use Rattle.std.specs.Prelude.{ℕ, suc, ◌+◌, ◌≤◌, ◌<◌, min, ◌≡◌, refl, Bool, true, false, List, [], ◌∷◌, ◌++◌, length, take, drop}
use Rattle.std.proofs.Common.{sym, ◌∙◌, ap, append_assoc, append-nil, arith, le-leb, take-append-drop, length-take-le}
use Rattle.common.specs.Pick.{pick}
use Rattle.common.specs.Lists.{drop_end}
use Rattle.common.specs.Compare.{clash}
use Rattle.error.specs.Refusal.{refusal, good, bad}
use Rattle.lex.specs.Byte.{place}
use Rattle.lex.specs.Rests.{rest_all, rest_on, comment_rest_lem, string_rest_lem, trivia_rest}
use Rattle.lex.specs.Rests.{Rest, rest_of, rest_within, rest_place}
use Rattle.params.specs.Grammar.{Binary, Token, Runs, RunsToToken, Trails, Parameter, Unclosed, Starts}
use Rattle.params.specs.ParameterEnd.{cut_of, started}
use Rattle.params.specs.Answer.{ParamEnd, stops_before, literal_open, Read, reading, Span, span, reader_in_file}
use Rattle.params.specs.Right.{param_is, param_only, unclosed_is, unclosed_only, started_is, started_only}
use Rattle.params.specs.Reader.{bounded, param_begun, param_of}
use Rattle.params.specs.ReaderLaws.{in_true, param_none, param_cut, param_open}
use Rattle.params.specs.Rules.{ReaderInFile, reader_rest, NextParamForm}

-- ---- every list that the rules speak of is a rest of the bytes
-- nothing is a rest of every list
rest_none : {xs : List ℕ} → Rest xs []
rest_none {xs} = (xs, sym (append-nil xs))

-- what is left from a place on is a rest
rest_from : (xs : List ℕ) (i : ℕ) → Rest xs (drop i xs)
rest_from xs i = (take i xs, sym (take-append-drop i xs))

-- what follows a binary literal is a rest
binary_rest : {xs r : List ℕ} → Binary xs r → Rest xs r
binary_rest {r} q = (34 ∷ (q.body ++ (34 ∷ [])), q.shape ∙ ap (λ (l : List ℕ). 34 ∷ l) (sym (append_assoc q.body (34 ∷ []) r)))

-- what follows a token is a rest
token_rest : {d e : ℕ} {xs ys : List ℕ} → Token d xs e ys → Rest xs ys
token_rest (Token.byte q) = rest_on rest_all
token_rest Token.nested = rest_on rest_all
token_rest (Token.string q) = string_rest_lem q
token_rest (Token.binary q) = binary_rest q
token_rest Token.opening = rest_on rest_all
token_rest Token.closing = rest_on rest_all
token_rest Token.stray = rest_on rest_all

-- what follows tokens and trivia is a rest
runs_rest : {d e : ℕ} {xs ys : List ℕ} → Runs d xs e ys → Rest xs ys
runs_rest Runs.none = rest_all
runs_rest (Runs.token r q) = rest_of (runs_rest r) (token_rest q)
runs_rest (Runs.blank r h) = rest_of (runs_rest r) (rest_on rest_all)
runs_rest (Runs.comment r q) = rest_of (runs_rest r) (comment_rest_lem q)

-- what follows bytes that end in a token is a rest
whole_rest : {d e : ℕ} {xs ys : List ℕ} → RunsToToken d xs e ys → Rest xs ys
whole_rest RunsToToken.none = rest_all
whole_rest (RunsToToken.last r q) = rest_of (runs_rest r) (token_rest q)

-- what follows trailing trivia is a rest
trails_rest : {xs ys : List ℕ} → Trails xs ys → Rest xs ys
trails_rest (Trails.shut r) = trivia_rest r
trails_rest (Trails.unclosed r q) = rest_none

-- what follows a parameter is a rest, and so is what its comma or the end begins
pub param_rest : {xs z b : List ℕ} → Parameter xs z b → Rest xs z × Rest z b
param_rest p = (whole_rest p.whole, trails_rest p.trails)

-- what begins with an open literal is a rest, and is not empty
pub unclosed_rest : {xs o : List ℕ} → Unclosed xs o → Rest xs o × (0 < length o)
unclosed_rest (Unclosed.text r ((t, e), q)) = (runs_rest r, rw e (omega arith))
unclosed_rest (Unclosed.binary r ((t, e), q)) = (runs_rest r, rw e (omega arith))

-- what begins where a parameter starts is a rest
pub starts_rest : {xs ys : List ℕ} → Starts xs ys → Rest xs ys
starts_rest (Starts.led l) = trivia_rest l.before
starts_rest (Starts.unclosed r q) = rest_none

-- ---- the reader's place and end
-- where the reader's place and end lie in the file, and not backwards, the test passes
pub inside_true : (s : List ℕ) (p e : ℕ) → ReaderInFile s p e → reader_in_file (length s) p e ≡ true
inside_true s p e (h, k) = rw (le-leb p e h, le-leb e (length s) k) refl

-- where the reader's place or end does not lie in the file, or they are backwards, the test fails
pub inside_false : (s : List ℕ) (p e : ℕ) → (ReaderInFile s p e → ⊥) → reader_in_file (length s) p e ≡ false
inside_false s p e n = go (reader_in_file (length s) p e) refl
  where
    go : (t : Bool) → reader_in_file (length s) p e ≡ t → reader_in_file (length s) p e ≡ false
    go true h = absurd (n (in_true (length s) p e h))
    go false h = h

-- ---- what is computed is so
module _ (s : List ℕ) (p e : ℕ) (i : ReaderInFile s p e) where
  -- the bytes up to the reader's end are e in number
  total : length (take e s) ≡ e
  total = length-take-le e s i.1

  -- a rest of the bytes up to the reader's end is what is left from its place on
  there : (r : List ℕ) → Rest (take e s) r → reader_rest s e (place (take e s) r) ≡ r
  there r h = rest_place h

  -- the place of an empty rest is the reader's end
  at_end : place (take e s) [] ≡ e
  at_end = omega (arith, total)

  -- the place of a rest is at most the reader's end
  place_of_lem : (r : List ℕ) → Rest (take e s) r → place (take e s) r ≤ e
  place_of_lem r h = omega (arith, total)

  -- what is computed from a parameter's start on, by its end, is an answer by the rules
  bounded_is : (c : ℕ) (r : List ℕ) → Starts (reader_rest s e p) (c ∷ r) → (x : ParamEnd) → cut_of (c ∷ r) ≡ x → NextParamForm s p e (bounded (take e s) e (c ∷ r) x)
  bounded_is c r h (literal_open o) k =
      let xs = take e s in
      let y : Rest xs (c ∷ r) = rest_of (rest_from xs p) (starts_rest h) in
      let u = unclosed_is (c ∷ r) o k in
      let (w, l) = unclosed_rest u in
      let z : Rest xs o = rest_of y w in
      NextParamForm.unclosed {a = place xs (c ∷ r)} {q = place xs o} i (omega (arith, rest_within w)) (omega (arith, total, rest_within z))
      (rw (there (c ∷ r) y) h) (rw (there (c ∷ r) y, there o z) u)
  bounded_is c r h (stops_before z []) k =
      let xs = take e s in
      let y : Rest xs (c ∷ r) = rest_of (rest_from xs p) (starts_rest h) in
      let q = param_is (c ∷ r) z [] k in
      let (w, v) = param_rest q in
      let x : Rest xs z = rest_of y w in
      rw at_end
      (NextParamForm.last {a = place xs (c ∷ r)} {z = place xs z} i (omega (arith, total, rest_within y)) (omega (arith, rest_within w)) (place_of_lem z x)
      (rw (there (c ∷ r) y) h) (rw (there (c ∷ r) y, there z x) q))
  bounded_is c r h (stops_before z (d ∷ t)) k =
      let xs = take e s in
      let y : Rest xs (c ∷ r) = rest_of (rest_from xs p) (starts_rest h) in
      let q = param_is (c ∷ r) z (d ∷ t) k in
      let (w, v) = param_rest q in
      let x : Rest xs z = rest_of y w in
      let b : Rest xs (d ∷ t) = rest_of x v in
      let n : suc (place xs (d ∷ t)) ≡ place xs t = omega (arith, rest_within b) in
      rw (← n)
      (NextParamForm.comma {a = place xs (c ∷ r)} {z = place xs z} {b = place xs (d ∷ t)} i (omega (arith, rest_within w)) (omega (arith, rest_within v)) (omega (arith, total, rest_within b))
      (rw (there (c ∷ r) y) h) (rw (there (c ∷ r) y, there z x, there (d ∷ t) b) q))

  -- what is computed where a parameter starts is an answer by the rules
  begun_is : (ys : List ℕ) → Starts (reader_rest s e p) ys → NextParamForm s p e (param_begun (take e s) e ys)
  begun_is [] h = rw at_end (NextParamForm.none i h)
  begun_is (c ∷ r) h = bounded_is c r h (cut_of (c ∷ r)) refl

-- the answer for the next parameter that is computed is one by the rules
pub param_next_is : (s : List ℕ) (p e : ℕ) → NextParamForm s p e (param_of s p e)
unfolding param_of
param_next_is s p e = go (reader_in_file (length s) p e) refl
  where
    off : reader_in_file (length s) p e ≡ false → ReaderInFile s p e → ⊥
    off h i = clash (cc (inside_true s p e i))

    go : (t : Bool) → reader_in_file (length s) p e ≡ t
        → NextParamForm s p e (pick t (param_begun (take e s) e (started (drop p (take e s)))) (reading (bad (refusal 9 0 0)) p e))
    go true h = begun_is s p e (in_true (length s) p e h) (started (drop p (take e s))) (started_is (drop p (take e s)))
    go false h = NextParamForm.outside (off h)

-- the answer for the next parameter by the rules is the one that is computed
pub param_next_only : {s : List ℕ} {p e : ℕ} {r : Read Span} → NextParamForm s p e r → r ≡ param_of s p e
unfolding param_of
param_next_only {s} {p} {e} (NextParamForm.outside n) = rw (inside_false s p e n) refl
param_next_only {s} {p} {e} (NextParamForm.none i h) =
    let t = total s p e i in
    let k : drop e (take e s) ≡ started (drop p (take e s)) = drop_end (take e s) e (omega arith) ∙ sym (started_only h) in
    param_none s p e (inside_true s p e i) e k (omega arith) refl
param_next_only {s} {p} {e} (NextParamForm.comma {a} {z} {b} i az zb be h q) =
    let n : suc b ≡ min (b + 1) e = omega arith in
    ap (λ (k : ℕ). reading (good (span a z)) k e) n
    ∙ param_cut s p e (inside_true s p e i) a (sym (started_only h)) (omega arith) (omega arith) z b (omega arith) (omega arith) (sym (param_only q))
param_next_only {s} {p} {e} (NextParamForm.last {a} {z} i ae az ze h q) =
    let t = total s p e i in
    let n : e ≡ min (e + 1) e = omega arith in
    let d : drop e (take e s) ≡ [] = drop_end (take e s) e (omega arith) in
    ap (λ (k : ℕ). reading (good (span a z)) k e) n
    ∙ param_cut s p e (inside_true s p e i) a (sym (started_only h)) (omega arith) ae z e ze (omega arith) (ap (stops_before (drop z (take e s))) d ∙ sym (param_only q))
param_next_only {s} {p} {e} (NextParamForm.unclosed {a} {q} i aq qe h u) =
    param_open s p e (inside_true s p e i) a (sym (started_only h)) (omega arith) (omega arith) q (omega arith) (sym (unclosed_only u))
