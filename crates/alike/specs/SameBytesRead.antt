-- A reader of two parts with the same bytes, in two files: its first and its second parameter read the same. Assumes nothing.
use Rattle.std.specs.Prelude.{ℕ, ◌+◌, ◌-◌, ◌≤◌, ◌≡◌, refl, Bool, List, length}
use Rattle.std.proofs.Common.{sym, ◌∙◌, ap, arith}
use Rattle.common.specs.Compare.{clash}
use Rattle.error.specs.Refusal.{Told, good, bad}
use Rattle.reals.specs.Scalar.{reference_of}
use Rattle.params.specs.Answer.{Read, Span}
use Rattle.params.specs.Reader.{param_of}
use Rattle.params.specs.Places.{param_stands}
use Rattle.scalars.specs.Answer.{next_of}
use Rattle.lists.specs.Items.{list_of}
use Rattle.lists.specs.Answer.{next_by}
use Rattle.lookup.specs.Lookup.{bytes_between}
use Rattle.factors.specs.Each.{Each}
use Rattle.factors.specs.Unit.{name_or, next_unit_name}
use Rattle.alike.specs.Shift.{told_ahead, shifted_read, shift_between_length, param_shift}
use Rattle.alike.specs.Readers.{as_it_is, next_shift, list_shift, named_shift}
use Rattle.alike.specs.Names.{each_by, next_names, list_names}
use Rattle.alike.specs.Alike.{SameTold, AlikeSpan}

-- a reader's answer in a part of the file is that of the part's bytes alone, its places moved on by the part's start
abbrev pub ByBytes : {A : Type 0} → (List ℕ → ℕ → ℕ → Read A) → Type 0
ByBytes R = (s : List ℕ) (a z : ℕ) → a ≤ z → z ≤ length s → (i : ℕ) → i ≤ z - a → R s (a + i) z ≡ shifted_read as_it_is a z (R (bytes_between s a z) i (length (bytes_between s a z)))

-- an answer that has no place in its value, moved on by two starts, is the same
ahead_same : {A : Type 0} (a b : ℕ) (x : Told A) → SameTold (told_ahead as_it_is a x) (told_ahead as_it_is b x)
ahead_same a b (good v) = refl
ahead_same a b (bad q) = (refl, refl)

-- after the first parameter of a part of the file, the reader stands where it does in the part's bytes, a bytes further on
after_first : (s : List ℕ) (a z : ℕ) → a ≤ z → z ≤ length s → (param_of s a z).place ≡ a + (param_of (bytes_between s a z) 0 (length (bytes_between s a z))).place
after_first s a z h k =
    let e : a ≡ a + 0 = omega arith in
    ap (λ (i : ℕ). (param_of s i z).place) e ∙ ap (λ (r : Read Span). r.place) (param_shift s a z h k 0 (omega arith))

-- after the first parameter of some bytes, the reader stands in them
step_within : (u : List ℕ) → (param_of u 0 (length u)).place ≤ length u
step_within u = (param_stands u 0 (length u) (omega arith, omega arith)).within

module _ {Named : ℕ → Type 0} {s s' : List ℕ} {r r' : Span} (h : AlikeSpan Named s s' r r') where
  -- the bytes that both parts have
  abbrev text : List ℕ
  text = bytes_between s r.start r.stop

  -- the bytes that both parts have are as many as the part of the one file is long
  size : length text ≡ r.stop - r.start
  size = shift_between_length s r.start r.stop h.ordered h.within

  -- the bytes that both parts have are as many as the part of the other file is long
  size' : length text ≡ r'.stop - r'.start
  size' = ap length h.same ∙ shift_between_length s' r'.start r'.stop h.ordered' h.within'

  -- how far into the bytes a reader stands after the first parameter
  abbrev step : ℕ
  step = (param_of text 0 (length text)).place

  -- in the one file, a reader stands so far into the part after the first parameter
  past_first : (param_of s r.start r.stop).place ≡ r.start + step
  past_first = after_first s r.start r.stop h.ordered h.within

  -- in the other file, a reader stands so far into the part after the first parameter
  past_first' : (param_of s' r'.start r'.stop).place ≡ r'.start + step
  past_first' = after_first s' r'.start r'.stop h.ordered' h.within' ∙ ap (λ (u : List ℕ). r'.start + (param_of u 0 (length u)).place) (sym h.same)

  -- after the first parameter a reader stands no further than the bytes go
  step_in : step ≤ length text
  step_in = step_within text

  module _ {A : Type 0} (R : List ℕ → ℕ → ℕ → Read A) (by : ByBytes R) where
    -- the parameter from i bytes into the part reads the same in both files
    read_at : (i : ℕ) → i ≤ length text → SameTold (R s (r.start + i) r.stop).answer (R s' (r'.start + i) r'.stop).answer
    read_at i k =
        let n = size in
        let n' = size' in
        rw (by s r.start r.stop h.ordered h.within i (omega arith), by s' r'.start r'.stop h.ordered' h.within' i (omega arith), ← h.same)
        (ahead_same r.start r'.start (R text i (length text)).answer)

    -- the first parameter reads the same in both files
    pub read_first : SameTold (R s r.start r.stop).answer (R s' r'.start r'.stop).answer
    read_first =
        let e : r.start + 0 ≡ r.start = omega arith in
        let e' : r'.start + 0 ≡ r'.start = omega arith in
        rw (e, e') at (read_at 0 (omega arith))

    -- the second parameter reads the same in both files
    pub read_second : SameTold (R s (param_of s r.start r.stop).place r.stop).answer (R s' (param_of s' r'.start r'.stop).place r'.stop).answer
    read_second = rw (past_first, past_first') (read_at step step_in)

    -- what is read from i bytes into the part is read of the part's bytes alone
    own_at : (i : ℕ) → i ≤ length text → (v : A) → (R s (r.start + i) r.stop).answer ≡ good v → (R text i (length text)).answer ≡ good v
    own_at i k v e =
        let n = size in
        go (R text i (length text)).answer (ap (λ (x : Read A). x.answer) (sym (by s r.start r.stop h.ordered h.within i (omega arith))) ∙ e)
      where
        go : (x : Told A) → told_ahead as_it_is r.start x ≡ good v → x ≡ good v
        go (good w) e = e
        go (bad q) e = clash (cc)

    -- what is read as the first parameter is read of the part's bytes alone
    own_first : (v : A) → (R s r.start r.stop).answer ≡ good v → (R text 0 (length text)).answer ≡ good v
    own_first v e =
        let d : r.start + 0 ≡ r.start = omega arith in
        own_at 0 (omega arith) v (rw d e)

    -- what is read as the second parameter is read of the part's bytes alone
    own_second : (v : A) → (R s (param_of s r.start r.stop).place r.stop).answer ≡ good v → (R text step (length text)).answer ≡ good v
    own_second v e = own_at step step_in v (rw past_first at e)

  -- a reference that is read as the second parameter is one of the ids that matter
  pub ref_second : (k : ℕ) → (next_of reference_of s (param_of s r.start r.stop).place r.stop).answer ≡ good k → Named k
  ref_second k e = h.names k (next_names text step k (own_second (next_of reference_of) (λ s a z m n. next_shift s a z m n reference_of) k e))

  -- the references of a list that is read as the first parameter are ids that matter
  pub refs_first : (fits : List ℕ → Bool) (vs : List ℕ) → (next_by (list_of reference_of) fits s r.start r.stop).answer ≡ good vs → Each Named vs
  refs_first fits vs e = each_by h.names vs (list_names text 0 fits vs (own_first (next_by (list_of reference_of) fits) (λ s a z m n. list_shift s a z m n (list_of reference_of) fits) vs e))

  -- a name from i bytes into the part is the same in both files
  name_at_lem : (other : List ℕ) (i : ℕ) → i ≤ length text → name_or other s (next_unit_name s (r.start + i) r.stop).answer ≡ name_or other s' (next_unit_name s' (r'.start + i) r'.stop).answer
  name_at_lem other i k =
      let n = size in
      let n' = size' in
      named_shift s r.start r.stop h.ordered h.within other i (omega arith)
      ∙ ap (λ (u : List ℕ). name_or other u (next_unit_name u i (length u)).answer) h.same
      ∙ sym (named_shift s' r'.start r'.stop h.ordered' h.within' other i (omega arith))

  -- the first parameter as a name is the same in both files
  pub name_first : (other : List ℕ) → name_or other s (next_unit_name s r.start r.stop).answer ≡ name_or other s' (next_unit_name s' r'.start r'.stop).answer
  name_first other =
      let e : r.start + 0 ≡ r.start = omega arith in
      let e' : r'.start + 0 ≡ r'.start = omega arith in
      rw (e, e') at (name_at_lem other 0 (omega arith))

  -- the second parameter as a name is the same in both files
  pub name_second : (other : List ℕ) → name_or other s (next_unit_name s (param_of s r.start r.stop).place r.stop).answer ≡ name_or other s' (next_unit_name s' (param_of s' r'.start r'.stop).place r'.stop).answer
  name_second other = rw (past_first, past_first') (name_at_lem other step step_in)
