-- #113: "an id [..] that no `#` number in another record's arguments names, leading zeros disregarded". Which ids bytes name, and that a
-- reader answers only such references: that of a parameter, and those of a list. The byte `#` is 35. Assumes nothing.
use Rattle.std.specs.Prelude.{ℕ, suc, ◌+◌, ◌-◌, ◌≤◌, ◌≡◌, Bool, length, take, drop}
use Rattle.std.proofs.Math.Path.{refl}
use Rattle.std.proofs.Common.{sym, ◌∙◌, ap, subst, arith, take-append-drop, drop-drop}
use Rattle.std.proofs.Math.Bool.{true, false}
use mathlib.Core.List.{List, [], ◌∷◌, ◌++◌, append_assoc, append-nil}
use Rattle.std.proofs.Math.Seq.{take-length}
use Rattle.common.specs.Pick.{pick}
use Rattle.common.specs.Compare.{clash}
use Rattle.error.specs.Refusal.{refusal, Told, good, bad}
use Rattle.lex.specs.Grammar.{Trivia}
use Rattle.record.specs.Byte.{digit}
use Rattle.record.specs.Form.{NotFirst, SkippedBytes, value_of}
use Rattle.record.specs.FormRight.Parts.{empty_not_first, first_other}
use Rattle.record.specs.FormRight.Gaps.{white_digit, gap_digit}
use Rattle.reals.specs.Answer.{Answer, read, refused}
use Rattle.reals.specs.Scalar.{reference_of}
use Rattle.reals.specs.Form.{ReferenceForm}
use Rattle.reals.specs.WholeRight.{reference_is}
use Rattle.params.specs.Grammar.{Trails, Bound, Parameter}
use Rattle.params.specs.Answer.{Read, Span, span, onward}
use Rattle.params.specs.Reader.{param_of}
use Rattle.params.specs.Rules.{reader_rest, NextParamForm}
use Rattle.params.specs.RulesRight.{param_next_is}
use Rattle.scalars.specs.Answer.{answered, scalar_at, next_of}
use Rattle.words.specs.Answer.{span_bytes}
use Rattle.lists.specs.Answer.{Fate, fine, faulty, shifted, consed, roomed, next_by}
use Rattle.lists.specs.Items.{list_of}
use Rattle.lists.specs.Rules.{Item, Items, Listed, Scalar}
use Rattle.lists.specs.RulesRight.{references_are}
use Rattle.factors.specs.Each.{Each}
use Rattle.factors.specs.EachLaws.{each_nil, each_more}

-- "a `#` number [..] names, leading zeros disregarded": somewhere in the bytes xs stands a `#`, and the digits that follow it, all of
-- them and at least one, are the number k
pub record Names (xs : List ℕ) (k : ℕ) : Type 0 where
  pub front : List ℕ
  pub digits : List ℕ
  pub back : List ℕ
  pub shape : xs ≡ front ++ (35 ∷ (digits ++ back))
  pub number : SkippedBytes digit digits back
  pub some : digits ≡ [] → ⊥
  pub value : value_of digits ≡ k

-- of each id that P holds of, Q holds too
pub each_by : {P Q : ℕ → Type 0} → ((k : ℕ) → P k → Q k) → (ks : List ℕ) → Each P ks → Each Q ks
each_by f ks h front back k e = f k (h front back k e)

-- ---- bytes that no digit begins
-- where neither x nor y begins with a digit, x and then y do not
first_join : (x y : List ℕ) → NotFirst digit x → NotFirst digit y → NotFirst digit (x ++ y)
first_join [] y h k = k
first_join (c ∷ x) y h k = first_other digit c (x ++ y) (h c x refl)

-- where what follows trivia begins with no digit, the trivia and that begin with none
first_trivia : {xs ys : List ℕ} → Trivia xs ys → NotFirst digit ys → NotFirst digit xs
first_trivia Trivia.none h = h
first_trivia (Trivia.blank {c} {xs} w t) h = first_other digit c xs (white_digit c w)
first_trivia (Trivia.comment q t) h = subst (NotFirst digit) (sym q.shape) (first_other digit 47 _ refl)

-- a comma at depth 0, and the end, begin with no digit
first_bound : {d : ℕ} {ys : List ℕ} → Bound d ys → NotFirst digit ys
first_bound (Bound.comma {r}) = first_other digit 44 r refl
first_bound Bound.end = empty_not_first digit

-- what follows a parameter, from the trivia after it on, begins with no digit
first_after : {xs z b : List ℕ} → Parameter xs z b → NotFirst digit z
first_after p = go p.trails p.bounds
  where
    go : {d : ℕ} {z b : List ℕ} → Trails z b → Bound d b → NotFirst digit z
    go (Trails.shut t) h = first_trivia t (first_bound h)
    go (Trails.unclosed t ((r, e), n)) h = first_trivia t (subst (NotFirst digit) (sym e) (first_other digit 47 (42 ∷ r) refl))

-- ---- a part of the bytes
-- what a part names the whole names, where no digit follows it
names_part : (x t y : List ℕ) → NotFirst digit y → (k : ℕ) → Names t k → Names (x ++ (t ++ y)) k
names_part x t y h k n = record {
  front = x ++ n.front;
  digits = n.digits;
  back = n.back ++ y;
  shape = ap (λ (u : List ℕ). x ++ (u ++ y)) n.shape ∙ simp append_assoc;
  number = record { all = n.number.all; over = first_join n.back y n.number.over h };
  some = n.some;
  value = n.value;
}

-- what the part from a up to z names the whole names, where no digit follows it
pub names_cut : (u : List ℕ) (a z : ℕ) → a ≤ z → NotFirst digit (drop z u) → (k : ℕ) → Names (take (z - a) (drop a u)) k → Names u k
names_cut u a z h o k n =
    let m : a + (z - a) ≡ z = omega arith in
    let e : drop (z - a) (drop a u) ≡ drop z u = drop-drop (z - a) a u ∙ ap (λ (j : ℕ). drop j u) m in
    let g : take a u ++ (take (z - a) (drop a u) ++ drop z u) ≡ u =
    ap (λ (x : List ℕ). take a u ++ x) (ap (λ (x : List ℕ). take (z - a) (drop a u) ++ x) (sym e) ∙ take-append-drop (z - a) (drop a u)) ∙ take-append-drop a u in
    subst (λ (x : List ℕ). Names x k) g (names_part (take a u) (take (z - a) (drop a u)) (drop z u) o k n)

-- ---- what is read
-- "`#` and digits": a reference names its id
reference_names : {t : List ℕ} {a : Answer ℕ} {k : ℕ} → ReferenceForm t a → a ≡ read k → Names t k
reference_names (ReferenceForm.reference ds i) e = record {
  front = [];
  digits = ds;
  back = [];
  shape = ap (λ (u : List ℕ). 35 ∷ u) (sym (append-nil ds));
  number = record { all = i.all; over = empty_not_first digit };
  some = i.some;
  value = cc;
}
reference_names (ReferenceForm.other n) e = clash (cc)

-- an item that reads as a reference names its id
scalar_names : {t : List ℕ} {a : Fate ℕ} {k : ℕ} → Scalar ReferenceForm t a → a ≡ fine k → Names t k
scalar_names (Scalar.value p) e = reference_names p (cc)
scalar_names (Scalar.other p) e = clash (cc)

-- what an item's text names the list's inside names, where no digit follows the item
item_names : {xs f t r : List ℕ} {k : ℕ} → Item xs f t r → NotFirst digit r → Names t k → Names xs k
item_names {xs} {f} {t} {r} {k} i h n =
    let e : xs ≡ f ++ (t ++ (i.back ++ r)) = i.shape ∙ simp append_assoc in
    subst (λ (u : List ℕ). Names u k) (sym e) (names_part f t (i.back ++ r) (gap_digit i.back r i.after h) k n)

-- the references of all items are ids that the list's inside names
items_names : {xs : List ℕ} {a : Fate (List ℕ)} → Items (Scalar ReferenceForm) xs a → (vs : List ℕ) → a ≡ fine vs → Each (Names xs) vs
items_names {xs} (Items.last {v} i p) vs e =
    let d : v ∷ [] ≡ vs = cc in
    subst (Each (Names xs)) d (each_more (Names xs) v [] (item_names i (empty_not_first digit) (scalar_names p refl)) (each_nil (Names xs)))
items_names (Items.next w {f} {t} {r} {v} {a} i p q) vs e = go a (λ us d. items_names q us d) e
  where
    go : (b : Fate (List ℕ)) → ((us : List ℕ) → b ≡ fine us → Each (Names r) us) → consed v (shifted (suc (length w)) b) ≡ fine vs → Each (Names (w ++ (44 ∷ r))) vs
    go (fine us) ih e =
        let d : v ∷ us ≡ vs = cc in
        let x : w ++ (44 ∷ r) ≡ (w ++ (44 ∷ [])) ++ (r ++ []) = simp (append_assoc, append-nil) in
        let k : Each (Names (w ++ (44 ∷ r))) us = subst (λ (u : List ℕ). Each (Names u) us) (sym x) (each_by (names_part (w ++ (44 ∷ [])) r [] (empty_not_first digit)) us (ih us refl)) in
        subst (Each (Names (w ++ (44 ∷ r)))) d (each_more (Names (w ++ (44 ∷ r))) v us (item_names i (first_other digit 44 r refl) (scalar_names p refl)) k)
    go (faulty n o) ih e = clash (cc)
items_names (Items.bad i p) vs e = clash (cc)

-- the references of a list are ids that its text names
listed_names : {t : List ℕ} {a : Fate (List ℕ)} → Listed (Scalar ReferenceForm) t a → (vs : List ℕ) → a ≡ fine vs → Each (Names t) vs
listed_names (Listed.none b w) vs e = let d : [] ≡ vs = cc in subst (Each (Names (40 ∷ (b ++ (41 ∷ []))))) d (each_nil (Names (40 ∷ (b ++ (41 ∷ [])))))
listed_names (Listed.items b {a} n q) vs e = go a (λ us d. items_names q us d) e
  where
    go : (x : Fate (List ℕ)) → ((us : List ℕ) → x ≡ fine us → Each (Names b) us) → shifted 1 x ≡ fine vs → Each (Names (40 ∷ (b ++ (41 ∷ [])))) vs
    go (fine us) k e = let d : us ≡ vs = cc in subst (Each (Names (40 ∷ (b ++ (41 ∷ []))))) d (each_by (names_part (40 ∷ []) b (41 ∷ []) (first_other digit 41 [] refl)) us (k us refl))
    go (faulty n o) k e = clash (cc)
listed_names (Listed.other n) vs e = clash (cc)

-- ---- a reader of the bytes u
-- a parameter runs forwards in the bytes, and no digit follows it
record Apart (s : List ℕ) (e : ℕ) (b : Span) : Type 0 where
  ordered : b.start ≤ b.stop
  over : NotFirst digit (reader_rest s e b.stop)

-- the next parameter by the rules runs forwards, and no digit follows it
form_apart : {s : List ℕ} {p e : ℕ} {x : Read Span} → NextParamForm s p e x → (b : Span) → x.answer ≡ good b → Apart s e b
form_apart {s} {e} (NextParamForm.comma {a} {z} i az zb be h q) b k =
    let d : span a z ≡ b = cc in
    subst (Apart s e) d record { ordered = az; over = first_after q }
form_apart {s} {e} (NextParamForm.last {a} {z} i ae az ze h q) b k =
    let d : span a z ≡ b = cc in
    subst (Apart s e) d record { ordered = az; over = first_after q }
form_apart (NextParamForm.outside n) b k = clash (cc)
form_apart (NextParamForm.none i h) b k = clash (cc)
form_apart (NextParamForm.unclosed i aq qe h u) b k = clash (cc)

module _ (u : List ℕ) (i : ℕ) where
  -- what the next parameter names the bytes name
  param_names : (b : Span) → (param_of u i (length u)).answer ≡ good b → (k : ℕ) → Names (span_bytes u b) k → Names u k
  param_names b h =
      let a = form_apart (param_next_is u i (length u)) b h in
      names_cut u b.start b.stop a.ordered (rw (take-length u) at a.over)

  -- the id of the next parameter, read as a reference, is one that the bytes name
  pub next_names : (k : ℕ) → (next_of reference_of u i (length u)).answer ≡ good k → Names u k
  unfolding next_of
  next_names k h = go (param_of u i (length u)).answer refl h
    where
      reads : (p : ℕ) (a : Answer ℕ) → answered p a ≡ good k → a ≡ read k
      reads p (read v) e = cc
      reads p (refused n) e = clash (cc)

      go : (x : Told Span) → (param_of u i (length u)).answer ≡ x → onward (scalar_at reference_of u) x ≡ good k → Names u k
      go (good b) e g = param_names b e k (reference_names (reference_is (span_bytes u b)) (reads b.start (reference_of (span_bytes u b)) g))
      go (bad q) e g = clash (cc)

  -- the ids of the next parameter, read as a list of references, are ones that the bytes name
  pub list_names : (fits : List ℕ → Bool) (vs : List ℕ) → (next_by (list_of reference_of) fits u i (length u)).answer ≡ good vs → Each (Names u) vs
  unfolding next_by
  list_names fits vs h = go (param_of u i (length u)).answer refl h
    where
      room : (p : ℕ) (us : List ℕ) (t : Bool) → pick t (good us) (bad (refusal 16 0 p)) ≡ good vs → us ≡ vs
      room p us true e = cc
      room p us false e = clash (cc)

      reads : (p : ℕ) (a : Fate (List ℕ)) → roomed fits p a ≡ good vs → a ≡ fine vs
      reads p (fine us) e = ap fine (room p us (fits us) e)
      reads p (faulty n o) e = clash (cc)

      go : (x : Told Span) → (param_of u i (length u)).answer ≡ x → onward (λ a. roomed fits a.start (list_of reference_of (take (a.stop - a.start) (drop a.start u)))) x ≡ good vs → Each (Names u) vs
      go (good b) e g = each_by (param_names b e) vs (listed_names (references_are (span_bytes u b)) vs (reads b.start (list_of reference_of (span_bytes u b)) g))
      go (bad q) e g = clash (cc)
