-- The greatest text, list and grid of a record: Lengths.antt computes just what Rules.antt says, and there is no other number.
-- Assumes nothing.
use Prim.Native.Nat.{ℕ, zero, suc, ◌+◌, ◌≤◌, ◌<◌, max}
use Rattle.std.specs.Prelude.{◌≡◌, Bool, List, leb, length}
use Rattle.std.proofs.Math.Path.{refl, ap}
use Rattle.std.proofs.Common.{◌∙◌, subst, inr, arith, leb-true, leb-false, eqb-true, eq-eqb}
use Rattle.std.proofs.Math.Bool.{true, false}
use Rattle.std.proofs.Math.Logic.{inl}
use Rattle.std.proofs.Math.Option.{Option, none, some}
use Rattle.std.proofs.Math.Dec.{eqb}
use Rattle.common.specs.Pick.{pick}
use Rattle.error.specs.Refusal.{Told, good, bad}
use Rattle.statement.specs.Rows.{HeaderRow}
use Rattle.params.specs.Answer.{Span}
use Rattle.params.specs.Reader.{param_of}
use Rattle.params.specs.Places.{param_past}
use Rattle.words.specs.Answer.{span_bytes}
use Rattle.parts.specs.Part.{next_part_of, PartIn}
use Rattle.parts.specs.Places.{AnswerIn, SomeIn, part_next_placed}
use Rattle.argument_sizes.specs.declared.Sizes.{Sizes}
use Rattle.argument_sizes.specs.Lengths.{sizes_of, arg_sizes_by, args_from, args_of, part_sizes_from, part_sizes_of, record_sizes_of}
use Rattle.argument_sizes.specs.Rules.{text_len, numbers_len, rows_len, greater_sizes, no_sizes, ReaderPasses, here, past, Param, Seeks, first, later, Part, Arg, Attained, Greatest}
use Rattle.argument_sizes.specs.Laws.{sizes_after_part}

-- ---- the greatest
-- the greatest f of those of which P holds is only one number
pub greatest_only : {P : List ℕ → Type 0} {f : List ℕ → ℕ} {l m : ℕ} → Greatest P f l → Greatest P f m → l ≡ m
greatest_only {P} {f} {l} {m} a b = omega (arith, under l m a.one b.all, under m l b.one a.all)
  where
    under : (i j : ℕ) → Attained f P i → ((t : List ℕ) → P t → f t ≤ j) → i ≤ j
    under i j (inl z) h = omega arith
    under i j (inr (t, p, q)) h = omega (arith, h t p)

-- where one has just i and one just j, one has just the greater of the two
pub either : (f : List ℕ → ℕ) (P : List ℕ → Type 0) (i j l : ℕ) → l ≡ max i j → Attained f P i → Attained f P j → Attained f P l
either f P i j l e a b = go (leb i j) refl a b
  where
    go : (k : Bool) → leb i j ≡ k → Attained f P i → Attained f P j → Attained f P l
    go true h x (inl z) = let w = leb-true i j h in inl (omega arith)
    go true h x (inr (t, p, q)) = let w = leb-true i j h in inr (t, p, omega arith)
    go false h (inl z) y = let w = leb-false i j h in inl (omega arith)
    go false h (inr (t, p, q)) y = let w = leb-false i j h in inr (t, p, omega arith)

-- where one of which P holds has just l, one of which Q holds has, if Q follows from P
pub found_also : (f : List ℕ → ℕ) (P Q : List ℕ → Type 0) (l : ℕ) → ((t : List ℕ) → P t → Q t) → Attained f P l → Attained f Q l
found_also f P Q l h (inl z) = inl z
found_also f P Q l h (inr (t, d, q)) = inr (t, h t d, q)

-- ---- the computed ones are such
-- each parameter that a reader passes takes a byte at least
passes_far : {s : List ℕ} {e n p q : ℕ} → ReaderPasses s e n p q → p + n ≤ q
passes_far here = omega arith
passes_far {s} {e} {p} (past a g d) =
    let (i, u) = param_past s p e a g in
    let b = u.starts in
    let c = u.moved in
    let k = passes_far d in
    omega arith

-- a part lies in the file, behind where it was sought from
part_in_lem : (s : List ℕ) (p e : ℕ) (w : HeaderRow) → next_part_of s p e ≡ good (some w) → PartIn (length s) p w
part_in_lem s p e w g = subst (λ (x : Told (Option HeaderRow)). AnswerIn (length s) (SomeIn (length s) p) x) g (part_next_placed s p e)

-- each part that is passed takes a byte at least
seeks_far : {s : List ℕ} {e n p q : ℕ} → Seeks s e n p q → p + n ≤ q
seeks_far first = omega arith
seeks_far {s} {e} {p} (later w g d) =
    let u = part_in_lem s p e w g in
    let a = u.ahead in
    let b = u.key in
    let c = u.opens in
    let o = u.args in
    let k = seeks_far d in
    omega arith

-- one of the sizes, π, which is the number f of a parameter
module _ (π : Sizes → ℕ) (f : List ℕ → ℕ) (least : π no_sizes ≡ 0) (join : (a b : Sizes) → π (greater_sizes a b) ≡ max (π a) (π b)) (own : (t : List ℕ) → π (sizes_of t) ≡ f t) (s : List ℕ) where
  -- a turn of the walk over parameters takes the greater of the next one's number and of those after it
  args_turn : (p e k : ℕ) (a : Span) → (param_of s p e).answer ≡ good a → π (args_from (suc k) s p e) ≡ max (f (span_bytes s a)) (π (args_from k s (param_of s p e).place e))
  unfolding args_from
  args_turn p e k a g =
      ap (λ (t : Told Span). π (arg_sizes_by s t (args_from k s (param_of s p e).place e))) g ∙ join (sizes_of (span_bytes s a)) (args_from k s (param_of s p e).place e)
      ∙ ap (λ (n : ℕ). max n (π (args_from k s (param_of s p e).place e))) (own (span_bytes s a))

  -- a parameter that stands behind n others has no more than is told, where the walk goes on for more than n
  args_passed : {e n p q : ℕ} (k : ℕ) (a : Span) → ReaderPasses s e n p q → n < k → (param_of s q e).answer ≡ good a → f (span_bytes s a) ≤ π (args_from k s p e)
  args_passed zero a d l g = absurd (omega arith)
  args_passed {e} {p} (suc k) a here l g = omega (arith, args_turn p e k a g)
  args_passed {e} {p = p} (suc k) a (past {n = n} b h d) l g = let ih = args_passed {n = n} k a d (omega arith) g in omega (arith, ih, args_turn p e k b h)

  -- no parameter of the arguments has more than is told
  args_all : (p e : ℕ) (t : List ℕ) → Param s p e t → f t ≤ π (args_of s p e)
  args_all p e t d =
      let (i, u) = param_past s d.place e d.span d.found in
      let b = u.starts in
      let c = u.moved in
      let w = u.within in
      let o = i.1 in
      let k = passes_far d.passes in
      subst (λ (x : List ℕ). f x ≤ π (args_of s p e)) d.text (args_passed (length s) d.span d.passes (omega arith) d.found)

  -- a parameter of what follows the next parameter is one of the arguments
  further : (p e : ℕ) (a : Span) → (param_of s p e).answer ≡ good a → (t : List ℕ) → Param s (param_of s p e).place e t → Param s p e t
  further p e a g t d = record { count = suc d.count; place = d.place; passes = past a g d.passes; span = d.span; found = d.found; text = d.text }

  -- one parameter of the arguments has as much as is told
  args_one : (k p e : ℕ) → Attained f (Param s p e) (π (args_from k s p e))
  unfolding args_from
  args_one zero p e = inl least
  args_one (suc k) p e = go (param_of s p e).answer refl (args_one k (param_of s p e).place e)
    where
      go : (t : Told Span) → (param_of s p e).answer ≡ t → Attained f (Param s (param_of s p e).place e) (π (args_from k s (param_of s p e).place e)) → Attained f (Param s p e) (π (arg_sizes_by s (param_of s p e).answer (args_from k s (param_of s p e).place e)))
      go (good a) g rest =
          either f (Param s p e) (f (span_bytes s a)) (π (args_from k s (param_of s p e).place e)) (π (arg_sizes_by s (param_of s p e).answer (args_from k s (param_of s p e).place e))) (args_turn p e k a g)
          (inr (span_bytes s a, record { count = 0; place = p; passes = here; span = a; found = g; text = refl }, refl))
          (found_also f (Param s (param_of s p e).place e) (Param s p e) (π (args_from k s (param_of s p e).place e)) (further p e a g) rest)
      go (bad q) g rest = inl (ap (λ (t : Told Span). π (arg_sizes_by s t (args_from k s (param_of s p e).place e))) g ∙ least)

  -- a turn of the walk over parts takes the greater of the next one's number and of those after it
  parts_turn : (p e k : ℕ) (w : HeaderRow) → next_part_of s p e ≡ good (some w) → π (part_sizes_from (suc k) s p e) ≡ max (π (args_of s w.arg_start w.arg_end)) (π (part_sizes_from k s (w.arg_end + 1) e))
  unfolding part_sizes_from
  parts_turn p e k w g = ap (λ (x : Told (Option HeaderRow)). π (sizes_after_part k s e x)) g ∙ join (args_of s w.arg_start w.arg_end) (part_sizes_from k s (w.arg_end + 1) e)

  -- a part that stands behind n others has no more than is told, where the walk goes on for more than n
  parts_passed : {e n p q : ℕ} (k : ℕ) (w : HeaderRow) → Seeks s e n p q → n < k → next_part_of s q e ≡ good (some w) → π (args_of s w.arg_start w.arg_end) ≤ π (part_sizes_from k s p e)
  parts_passed zero w d l g = absurd (omega arith)
  parts_passed {e} {p} (suc k) w first l g = omega (arith, parts_turn p e k w g)
  parts_passed {e} {p = p} (suc k) w (later {n = n} v h d) l g = let ih = parts_passed {n = n} k w d (omega arith) g in omega (arith, ih, parts_turn p e k v h)

  -- no parameter of a part has more than is told, the parts after the first included
  parts_all : (p e : ℕ) (w : HeaderRow) (t : List ℕ) → Part s p e w → Param s w.arg_start w.arg_end t → f t ≤ π (part_sizes_of s p e)
  parts_all p e w t d h =
      let u = part_in_lem s d.place e w d.found in
      let a = u.ahead in
      let b = u.key in
      let c = u.opens in
      let o = u.args in
      let z = u.closes in
      let k = seeks_far d.seeks in
      let m = parts_passed (length s) w d.seeks (omega arith) d.found in
      omega (arith, m, args_all w.arg_start w.arg_end t h)

  -- a parameter of one of a complex record's parts
  abbrev InPart : ℕ → ℕ → List ℕ → Type 0
  InPart p e t = (w : HeaderRow) × Part s p e w × Param s w.arg_start w.arg_end t

  -- a parameter of the next part is a parameter of one of the record's parts
  of_part : (p e : ℕ) (w : HeaderRow) → next_part_of s p e ≡ good (some w) → (t : List ℕ) → Param s w.arg_start w.arg_end t → InPart p e t
  of_part p e w g t d = (w, record { count = 0; place = p; seeks = first; found = g }, d)

  -- a parameter of a part after the next is a parameter of one of the record's parts
  of_later : (p e : ℕ) (w : HeaderRow) → next_part_of s p e ≡ good (some w) → (t : List ℕ) → InPart (w.arg_end + 1) e t → InPart p e t
  of_later p e w g t (v, h, d) = (v, record { count = suc h.count; place = h.place; seeks = later w g h.seeks; found = h.found }, d)

  -- one parameter of a part has as much as is told
  parts_one : (k p e : ℕ) → Attained f (InPart p e) (π (part_sizes_from k s p e))
  unfolding part_sizes_from
  parts_one zero p e = inl least
  parts_one (suc k) p e = go (next_part_of s p e) refl (λ w. parts_one k (w.arg_end + 1) e)
    where
      go : (x : Told (Option HeaderRow)) → next_part_of s p e ≡ x → ((w : HeaderRow) → Attained f (InPart (w.arg_end + 1) e) (π (part_sizes_from k s (w.arg_end + 1) e))) → Attained f (InPart p e) (π (sizes_after_part k s e (next_part_of s p e)))
      go (good none) g rest = inl (ap (λ (x : Told (Option HeaderRow)). π (sizes_after_part k s e x)) g ∙ least)
      go (good (some w)) g rest =
          either f (InPart p e) (π (args_of s w.arg_start w.arg_end)) (π (part_sizes_from k s (w.arg_end + 1) e)) (π (sizes_after_part k s e (next_part_of s p e))) (parts_turn p e k w g)
          (found_also f (Param s w.arg_start w.arg_end) (InPart p e) (π (args_of s w.arg_start w.arg_end)) (of_part p e w g) (args_one (length s) w.arg_start w.arg_end))
          (found_also f (InPart (w.arg_end + 1) e) (InPart p e) (π (part_sizes_from k s (w.arg_end + 1) e)) (of_later p e w g) (rest w))
      go (bad q) g rest = inl (ap (λ (x : Told (Option HeaderRow)). π (sizes_after_part k s e x)) g ∙ least)

  -- no parameter of a record has more than is told, whether it is complex or not
  record_all : (p e complex : ℕ) (t : List ℕ) → Arg s p e complex t → f t ≤ π (record_sizes_of s p e complex)
  unfolding record_sizes_of
  record_all p e complex t (Arg.plain d) = go (eqb complex 1)
    where
      go : (b : Bool) → f t ≤ π (pick b (greater_sizes (args_of s p e) (part_sizes_of s p e)) (args_of s p e))
      go true = omega (arith, args_all p e t d, join (args_of s p e) (part_sizes_of s p e))
      go false = args_all p e t d
  record_all p e complex t (Arg.in_part c w h d) = rw (eq-eqb complex 1 c) (omega (arith, parts_all p e w t h d, join (args_of s p e) (part_sizes_of s p e)))

  -- a parameter of a complex record's part is a parameter of the record
  as_part : (p e complex : ℕ) → complex ≡ 1 → (t : List ℕ) → InPart p e t → Arg s p e complex t
  as_part p e complex c t (w, h, d) = Arg.in_part c w h d

  -- one parameter of a record has as much as is told
  record_one : (p e complex : ℕ) → Attained f (Arg s p e complex) (π (record_sizes_of s p e complex))
  unfolding record_sizes_of
  record_one p e complex = go (eqb complex 1) refl
    where
      go : (b : Bool) → eqb complex 1 ≡ b → Attained f (Arg s p e complex) (π (pick b (greater_sizes (args_of s p e) (part_sizes_of s p e)) (args_of s p e)))
      go true h =
          either f (Arg s p e complex) (π (args_of s p e)) (π (part_sizes_of s p e)) (π (greater_sizes (args_of s p e) (part_sizes_of s p e))) (join (args_of s p e) (part_sizes_of s p e)) (found_also f (Param s p e) (Arg s p e complex) (π (args_of s p e)) (λ t. Arg.plain) (args_one (length s) p e))
          (found_also f (InPart p e) (Arg s p e complex) (π (part_sizes_of s p e)) (as_part p e complex (eqb-true complex 1 h)) (parts_one (length s) p e))
      go false h = found_also f (Param s p e) (Arg s p e complex) (π (args_of s p e)) (λ t. Arg.plain) (args_one (length s) p e)

  -- what is told of a record is the greatest of its parameters
  record_greatest : (p e complex : ℕ) → Greatest (Arg s p e complex) f (π (record_sizes_of s p e complex))
  record_greatest p e complex = record { all = record_all p e complex; one = record_one p e complex }

-- what is told of a record's texts is the longest among its parameters
pub text_greatest : (s : List ℕ) (p e complex : ℕ) → Greatest (Arg s p e complex) text_len (record_sizes_of s p e complex).text
text_greatest s p e complex = record_greatest (λ a. a.text) text_len refl (λ a b. refl) (λ t. refl) s p e complex

-- what is told of a record's numbers is the most of a list or a grid among its parameters
pub items_greatest : (s : List ℕ) (p e complex : ℕ) → Greatest (Arg s p e complex) numbers_len (record_sizes_of s p e complex).items
items_greatest s p e complex = record_greatest (λ a. a.items) numbers_len refl (λ a b. refl) (λ t. refl) s p e complex

-- what is told of a record's rows is the most of a grid among its parameters
pub rows_greatest : (s : List ℕ) (p e complex : ℕ) → Greatest (Arg s p e complex) rows_len (record_sizes_of s p e complex).rows
rows_greatest s p e complex = record_greatest (λ a. a.rows) rows_len refl (λ a b. refl) (λ t. refl) s p e complex
