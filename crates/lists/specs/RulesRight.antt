-- Rules.antt's rules and what Items.antt computes are one: what is computed is so, and nothing else is; no bound on the number of items
-- is left in the rules. And where the reader stands after a list. Assumes nothing.
use Prim.Native.Nat.{ℕ, zero, suc, ◌+◌, ◌-◌, ◌<◌}
use Rattle.std.specs.Prelude.{◌≡◌, ◌⊎◌, Bool, ◌&&◌, eqb, ℤ, take, drop, get_or}
use Rattle.std.proofs.Math.Path.{refl, sym, ap}
use Rattle.std.proofs.Common.{◌∙◌, subst, inl, inr, eqb-true, length-append, take_at}
use Rattle.std.proofs.Math.Bool.{true, false}
use mathlib.Core.List.{List, [], ◌∷◌, ◌++◌, append-nil}
use native.Mathlib.Omega.{arith}
use Rattle.std.proofs.Math.ListN.{length}
use Rattle.common.specs.Pick.{pick}
use Rattle.common.specs.Compare.{clash}
use Rattle.error.specs.Refusal.{good, Refusal, refusal, Told, bad}
use Rattle.lex.specs.Byte.{white}
use Rattle.common.specs.Walk.{walk}
use Rattle.record.specs.Text.{before, past, trail, number_from}
use Rattle.record.specs.Word.{trimmed}
use Rattle.common.specs.Bytes.{bytes}
use Rattle.record.specs.Form.{All, NotFirst, SkippedBytes, Trimmed}
use Rattle.record.specs.FormRight.{past_is, past_only, trimmed_is, trimmed_only}
use Rattle.record.specs.FormRight.Parts.{first_part, all_join, last_none, Tailed, tail_split}
use Rattle.reals.specs.Scalar.{reference_of, whole_of, real_of, any_real_of}
use Rattle.reals.specs.Answer.{Answer, read, refused}
use Rattle.reals.specs.Form.{RealForm, AnyForm, WholeForm, ReferenceForm}
use Rattle.reals.specs.FormRight.{real_is, real_only, any_is, any_only}
use Rattle.reals.specs.WholeRight.{whole_is, whole_only, reference_is, reference_only}
use Rattle.params.specs.Grammar.{Bound}
use Rattle.params.specs.ParameterEnd.{cut_of}
use Rattle.params.specs.Answer.{ParamEnd, stops_before, literal_open, reading, Span, reader_in_file}
use Rattle.params.specs.Right.{param_is, param_only, unclosed_is, unclosed_only}
use Rattle.params.specs.Reader.{param_of}
use Rattle.params.specs.Rules.{ReaderInFile}
use Rattle.lex.specs.Rests.{Rest, rest_of}
use Rattle.params.specs.RulesRight.{param_rest}
use Rattle.params.specs.Places.{Stands, PastParameter, mapped_stands, mapped_stays, refused_past}
use Rattle.lists.specs.Answer.{Fate, fine, faulty, shifted, as_fate, consed, roomed, next_by}
use Rattle.lists.specs.Items.{bound_of, item_end, item_text, indent, item_by, headed, past_comma, items_from, is_none, is_blank, items_by, inside, bare, body_of, list_by, list_of}
use Rattle.lists.specs.Rules.{Ends, Item, Items, Listed, Scalar}

-- ---- where an item ends
-- "cut at depth-0 commas": an item ends where it is computed to
pub ends_only : {xs r : List ℕ} → Ends xs r → r ≡ item_end xs
unfolding item_end
ends_only (Ends.cut p) = sym (ap bound_of (param_only p))
ends_only (Ends.unclosed u) = sym (ap bound_of (unclosed_only u))

-- "cut at depth-0 commas": where an item is computed to end, it ends by the rule
pub ends_is : (xs : List ℕ) → Ends xs (item_end xs)
unfolding item_end
ends_is xs = go (cut_of xs) refl
  where
    go : (c : ParamEnd) → cut_of xs ≡ c → Ends xs (bound_of c)
    go (stops_before z b) e = Ends.cut (param_is xs z b e)
    go (literal_open o) e = Ends.unclosed (unclosed_is xs o e)

-- an item ends at one place
pub ends_one : {xs r q : List ℕ} → Ends xs r → Ends xs q → r ≡ q
ends_one h k = ends_only h ∙ sym (ends_only k)

-- what is left where an item ends is a rest of its bytes
ends_rest : {xs r : List ℕ} → Ends xs r → Rest xs r
ends_rest (Ends.cut p) = let (h, k) = param_rest p in rest_of h k
ends_rest {xs} (Ends.unclosed u) = (xs, sym (append-nil xs))

-- what is left where an item ends begins with a comma, if anything is left
ends_comma : {xs : List ℕ} {c : ℕ} {r : List ℕ} → Ends xs (c ∷ r) → c ≡ 44
ends_comma {xs} {c} {r} h = go (c ∷ r) refl h
  where
    at : {d : ℕ} (q : List ℕ) → c ∷ r ≡ q → Bound d q → c ≡ 44
    at q e Bound.comma = cc
    at q e Bound.end = clash (cc)

    go : (q : List ℕ) → c ∷ r ≡ q → Ends xs q → c ≡ 44
    go q e (Ends.cut p) = at q e p.bounds
    go q e (Ends.unclosed u) = clash (cc)

-- ---- an item
-- the bytes before a rest r of b and r are b
before_only : (b r : List ℕ) → before (b ++ r) r ≡ b
before_only b r = take_at b r (length (b ++ r) - length r) (simp length-append (omega arith))

-- an item by the rule is the one that is computed: its end, its text, and how much whitespace stands before it
pub item_only : {xs f t r : List ℕ} → Item xs f t r → (r ≡ item_end xs) × (t ≡ item_text xs) × (length f ≡ indent xs)
unfolding item_text indent
item_only {xs} {f} {t} {r} i =
    let w : List ℕ = f ++ (t ++ i.back) in
    let e = ends_only i.ends in
    let b : before xs (item_end xs) ≡ w = ap (before xs) (sym e) ∙ ap (λ (x : List ℕ). before x r) i.shape ∙ before_only w r in
    let p : past white w ≡ t ++ i.back = past_only white f (t ++ i.back) record { all = i.before; over = i.first } in
    let n : length f ≡ length w - length (t ++ i.back) = simp length-append (omega arith) in
    let m : Trimmed w t = record { front = f; back = i.back; shape = refl; before = i.before; after = i.after; first = first_part white t i.back i.first; last = i.last } in
    (e, trimmed_only m ∙ ap trimmed (sym b), n ∙ ap (λ (x : List ℕ). length w - length x) (sym p) ∙ ap (λ (x : List ℕ). length x - length (past white x)) (sym b))

-- the item that is computed is one by the rule
pub item_is : (xs : List ℕ) → (f : List ℕ) × Item xs f (item_text xs) (item_end xs)
unfolding item_text
item_is xs = go (ends_rest (ends_is xs))
  where
    cut_up : (w f : List ℕ) → xs ≡ w ++ item_end xs → w ≡ f ++ past white w → SkippedBytes white f (past white w) → Tailed (past white w) → (f : List ℕ) × Item xs f (item_text xs) (item_end xs)
    cut_up w f e g s (t, z, h, a, l) =
        let k : NotFirst white (t ++ z) = rw h at s.over in
        let v : w ≡ f ++ (t ++ z) = g ∙ ap (λ (x : List ℕ). f ++ x) h in
        let m : Trimmed w t = record { front = f; back = z; shape = v; before = s.all; after = a; first = first_part white t z k; last = l } in
        let b : before xs (item_end xs) ≡ w = ap (λ (x : List ℕ). before x (item_end xs)) e ∙ before_only w (item_end xs) in
        let u : t ≡ item_text xs = trimmed_only m ∙ ap trimmed (sym b) in (
          f,
          subst (λ (x : List ℕ). Item xs f x (item_end xs)) u
              (record { back = z; shape = e ∙ ap (λ (x : List ℕ). x ++ item_end xs) v; ends = ends_is xs; before = s.all; after = a; first = k; last = l }),
        )

    go : Rest xs (item_end xs) → (f : List ℕ) × Item xs f (item_text xs) (item_end xs)
    go (w, e) = let (f, g, s) = past_is white w in cut_up w f e g s (tail_split (past white w))

-- a list of bytes begins with one item
pub item_one : {xs f t r g u q : List ℕ} → Item xs f t r → Item xs g u q → (t ≡ u) × (r ≡ q) × (length f ≡ length g)
item_one h k =
    let (a, b, c) = item_only h in
    let (d, e, f) = item_only k in
    (b ∙ sym e, a ∙ sym d, c ∙ sym f)

-- ---- items
-- what is seen from k bytes and then from i bytes further back is seen from i + k bytes further back
shift_twice : {A : Type 0} (i k : ℕ) (a : Fate A) → shifted i (shifted k a) ≡ shifted (i + k) a
shift_twice i k (fine a) = refl
shift_twice i k (faulty n o) = let e : i + (k + o) ≡ i + k + o = omega arith in ap (faulty n) e

-- a value in front of what is seen from further back is the value in front, seen from further back
shift_consed : {A : Type 0} (k : ℕ) (v : A) (a : Fate (List A)) → consed v (shifted k a) ≡ shifted k (consed v a)
shift_consed k v (fine vs) = refl
shift_consed k v (faulty n o) = refl

module _ {A : Type 0} (g : List ℕ → Fate A) where
  -- the items from a place o bytes into a list are those from 0 on, seen from o bytes further back
  items_shift : (n o : ℕ) (xs : List ℕ) → items_from n g o xs ≡ shifted o (items_from n g 0 xs)
  unfolding items_from
  items_shift zero o xs = refl
  items_shift (suc n) o xs = go (item_by g xs) (item_end xs) (items_shift n)
    where
      go : (a : Fate A) (r : List ℕ) → ((o : ℕ) (xs : List ℕ) → items_from n g o xs ≡ shifted o (items_from n g 0 xs))
          → headed (shifted o a) (λ u. past_comma r (λ q. items_from n g (o + (length xs - length q)) q))
          ≡ shifted o (headed (shifted 0 a) (λ u. past_comma r (λ q. items_from n g (0 + (length xs - length q)) q)))
      go (faulty k j) r ih = let m : o + j ≡ o + (0 + j) = omega arith in ap (faulty k) m
      go (fine v) [] ih = refl
      go (fine v) (c ∷ r) ih =
          let d = length xs - length r in
          let m : o + d ≡ o + (0 + d) = omega arith in
          let a : Fate (List A) = items_from n g 0 r in
          ap (consed v) (ih (o + d) r ∙ ap (λ (k : ℕ). shifted k a) m ∙ sym (shift_twice o (0 + d) a) ∙ ap (shifted o) (sym (ih (0 + d) r))) ∙ shift_consed o v (items_from n g (0 + d) r)

  -- the items that begin with one item are that item, and those that follow its comma
  item_step : (n : ℕ) {xs f t r : List ℕ} → Item xs f t r → items_from (suc n) g 0 xs ≡ headed (shifted (length f) (g t)) (λ u. past_comma r (λ q. items_from n g (0 + (length xs - length q)) q))
  unfolding items_from item_by
  item_step n {xs} {f} {t} {r} i =
      let (e, u, l) = item_only i in
      rw (u, l, e) (go (g (item_text xs)))
    where
      go : (a : Fate A) → headed (shifted 0 (shifted (indent xs) a)) (λ u. past_comma (item_end xs) (λ q. items_from n g (0 + (length xs - length q)) q))
          ≡ headed (shifted (indent xs) a) (λ u. past_comma (item_end xs) (λ q. items_from n g (0 + (length xs - length q)) q))
      go (fine v) = refl
      go (faulty k j) = let i = indent xs in let m : 0 + (i + j) ≡ i + j = omega arith in ap (faulty k) m

  -- items that begin with a bad item are refused as that item is
  step_bad : (n : ℕ) {xs f t r : List ℕ} (k o : ℕ) → Item xs f t r → faulty k o ≡ g t → faulty k (length f + o) ≡ items_from (suc n) g 0 xs
  step_bad n {xs} {f} {t} {r} k o i e =
      ap (λ (a : Fate A). headed (shifted (length f) a) (λ u. past_comma r (λ q. items_from n g (0 + (length xs - length q)) q))) e ∙ sym (item_step n i)

  -- items that begin with a good item at the end of the list are that item alone
  step_last : (n : ℕ) {xs f t : List ℕ} (v : A) → Item xs f t [] → fine v ≡ g t → fine (v ∷ []) ≡ items_from (suc n) g 0 xs
  step_last n {xs} {f} {t} v i e =
      ap (λ (a : Fate A). headed (shifted (length f) a) (λ u. past_comma [] (λ q. items_from n g (0 + (length xs - length q)) q))) e ∙ sym (item_step n i)

  -- items that begin with a good item and a comma are its value in front of those of the items that follow
  step_next : (n : ℕ) (w : List ℕ) {f t r : List ℕ} (v : A) → Item (w ++ (44 ∷ r)) f t (44 ∷ r) → fine v ≡ g t
      → consed v (shifted (suc (length w)) (items_from n g 0 r)) ≡ items_from (suc n) g 0 (w ++ (44 ∷ r))
  step_next n w {f} {t} {r} v i e =
      let xs : List ℕ = w ++ (44 ∷ r) in
      let l : suc (length w) ≡ 0 + (length xs - length r) = simp length-append (omega arith) in
      ap (consed v) (ap (λ (k : ℕ). shifted k (items_from n g 0 r)) l ∙ sym (items_shift n (0 + (length xs - length r)) r))
      ∙ ap (λ (a : Fate A). headed (shifted (length f) a) (λ u. past_comma (44 ∷ r) (λ q. items_from n g (0 + (length xs - length q)) q))) e
      ∙ sym (item_step n i)

module _ {A : Type 0} (P : List ℕ → Fate A → Type 0) (g : List ℕ → Fate A) where
  -- what is computed for the items from xs on is what they read as by the rule P, where g reads each item by P
  items_are : ((t : List ℕ) → P t (g t)) → (n : ℕ) (xs : List ℕ) → length xs < n → Items P xs (items_from n g 0 xs)
  items_are is zero xs h = absurd (omega arith)
  items_are is (suc n) xs h = let (f, i) = item_is xs in go f (item_text xs) (item_end xs) i (g (item_text xs)) refl (items_are is n)
    where
      more : (w f t : List ℕ) (c : ℕ) (r : List ℕ) → xs ≡ w ++ (c ∷ r) → c ≡ 44 → Item xs f t (c ∷ r) → (v : A) → fine v ≡ g t → ((ys : List ℕ) → length ys < n → Items P ys (items_from n g 0 ys))
          → Items P xs (items_from (suc n) g 0 xs)
      more w f t c r e k i v q ih =
          let s : xs ≡ w ++ (44 ∷ r) = e ∙ ap (λ (d : ℕ). w ++ (d ∷ r)) k in
          let j : Item (w ++ (44 ∷ r)) f t (44 ∷ r) = subst (λ (d : ℕ). Item (w ++ (44 ∷ r)) f t (d ∷ r)) k (subst (λ (x : List ℕ). Item x f t (c ∷ r)) s i) in
          let l : length r < n = omega (arith, h, simp length-append at (ap length s)) in
          subst (λ (x : List ℕ). Items P x (items_from (suc n) g 0 x)) (sym s)
          (subst (Items P (w ++ (44 ∷ r))) (step_next g n w v j q) (Items.next w j (subst (P t) (sym q) (is t)) (ih r l)))

      go : (f t r : List ℕ) → Item xs f t r → (a : Fate A) → a ≡ g t → ((ys : List ℕ) → length ys < n → Items P ys (items_from n g 0 ys)) → Items P xs (items_from (suc n) g 0 xs)
      go f t r i (faulty k o) q ih = subst (Items P xs) (step_bad g n k o i q) (Items.bad i (subst (P t) (sym q) (is t)))
      go f t [] i (fine v) q ih = subst (Items P xs) (step_last g n v i q) (Items.last i (subst (P t) (sym q) (is t)))
      go f t (c ∷ r) i (fine v) q ih = let (w, e) = ends_rest i.ends in more w f t c r e (ends_comma i.ends) i v q ih

  -- what the items from xs on read as by the rule P is what is computed, where P has no answer for an item but that of g
  items_only : ((t : List ℕ) (a : Fate A) → P t a → a ≡ g t) → {xs : List ℕ} {a : Fate (List A)} → Items P xs a → (n : ℕ) → length xs < n → a ≡ items_from n g 0 xs
  items_only only q zero h = absurd (omega arith)
  items_only only (Items.last {t} {v} i p) (suc n) h = step_last g n v i (only t (fine v) p)
  items_only only (Items.bad {t} {n = k} {o} i p) (suc n) h = step_bad g n k o i (only t (faulty k o) p)
  items_only only (Items.next w {t} {r} {v} {a} i p q) (suc n) h =
      let l : length r < n = omega (arith, h, length-append w (44 ∷ r)) in
      ap (λ (x : Fate (List A)). consed v (shifted (suc (length w)) x)) (items_only only {xs = r} q n l) ∙ step_next g n w v i (only t (fine v) p)

-- ---- "A list is `(`..`)`"
-- the inside of `(`, b and `)` is b
body_only : (b : List ℕ) → body_of (40 ∷ (b ++ (41 ∷ []))) ≡ inside b
unfolding body_of
body_only b =
    let n : length (b ++ (41 ∷ [])) - 1 ≡ length b = simp length-append (omega arith) in
    rw (n, last b, take_at b (41 ∷ []) (length b) refl) refl
  where
    last : (b : List ℕ) → get_or (b ++ (41 ∷ [])) (length b) 0 ≡ 41
    last [] = refl
    last (c ∷ b) = last b

-- a text is a list, or has no inside
body_comes : (t : List ℕ) → ((b : List ℕ) × (t ≡ 40 ∷ (b ++ (41 ∷ [])))) ⊎ (body_of t ≡ bare)
unfolding body_of
body_comes [] = inr refl
body_comes (c ∷ r) = go (eqb c 40) (eqb (get_or r (length r - 1) 0) 41) refl refl
  where
    back : (r : List ℕ) → get_or r (length r - 1) 0 ≡ 41 → (b : List ℕ) × (r ≡ b ++ (41 ∷ []))
    back [] e = absurd (omega arith)
    back (d ∷ []) e = ([], cc)
    back (d ∷ x ∷ r) e =
        let n : length (d ∷ x ∷ r) - 1 ≡ suc (length (x ∷ r) - 1) = omega arith in
        let (b, f) = back (x ∷ r) (sym (ap (λ (k : ℕ). get_or (d ∷ x ∷ r) k 0) n) ∙ e) in
        (d ∷ b, cc)

    go : (u v : Bool) → eqb c 40 ≡ u → eqb (get_or r (length r - 1) 0) 41 ≡ v → ((b : List ℕ) × (c ∷ r ≡ 40 ∷ (b ++ (41 ∷ [])))) ⊎ (pick (u && v) (inside (take (length r - 1) r)) bare ≡ bare)
    go true true p q = let (b, e) = back r (eqb-true (get_or r (length r - 1) 0) 41 q) in inl (b, cc (eqb-true c 40 p))
    go true false p q = inr refl
    go false v p q = inr refl

-- an inside of whitespace alone is computed to be blank
none_only : (b : List ℕ) → All white b → is_blank b ≡ true
unfolding is_blank
none_only b a =
    let m : Trimmed b [] = record { front = b; back = []; shape = sym (append-nil b); before = a; after = tt; first = λ c r e. clash (cc); last = last_none white } in
    ap is_none (sym (trimmed_only m))

-- an inside that is computed to be blank is whitespace alone
none_is : (b : List ℕ) → is_blank b ≡ true → All white b
unfolding is_blank
none_is b h = go (trimmed b) (trimmed_is b) h
  where
    go : (t : List ℕ) → Trimmed b t → is_none t ≡ true → All white b
    go [] m k = subst (All white) (sym m.shape) (all_join white m.front m.back m.before m.after)
    go (c ∷ t) m k = clash (cc)

module _ {A : Type 0} (P : List ℕ → Fate A → Type 0) (g : List ℕ → Fate A) where
  -- a list with whitespace alone inside is computed to have no items
  blank_list : (b : List ℕ) → All white b → fine [] ≡ list_by g (40 ∷ (b ++ (41 ∷ [])))
  unfolding list_by items_by
  blank_list b a = rw (body_only b, none_only b a) refl

  -- a list with something else than whitespace inside is computed to have the items of that inside
  full_list : (b : List ℕ) → (All white b → ⊥) → shifted 1 (items_from (suc (length b)) g 0 b) ≡ list_by g (40 ∷ (b ++ (41 ∷ [])))
  unfolding list_by items_by
  full_list b n = rw (body_only b, some (is_blank b) refl) refl
    where
      some : (t : Bool) → is_blank b ≡ t → is_blank b ≡ false
      some true e = absurd (n (none_is b e))
      some false e = e

  -- a text that is no list is computed to be 12 at its start
  no_list : (t : List ℕ) → body_of t ≡ bare → faulty 12 0 ≡ list_by g t
  unfolding list_by
  no_list t e = rw e refl

  -- what is computed for a text is what it reads as by the rules of a list, where g reads each item by P
  pub listed_is : ((t : List ℕ) → P t (g t)) → (t : List ℕ) → Listed P t (list_by g t)
  listed_is is t = go (body_comes t)
    where
      by : (b : List ℕ) (u : Bool) → is_blank b ≡ u → Listed P (40 ∷ (b ++ (41 ∷ []))) (list_by g (40 ∷ (b ++ (41 ∷ []))))
      by b true e = let a = none_is b e in subst (Listed P (40 ∷ (b ++ (41 ∷ [])))) (blank_list b a) (Listed.none b a)
      by b false e =
          let n : All white b → ⊥ = λ a. clash (cc (none_only b a)) in
          subst (Listed P (40 ∷ (b ++ (41 ∷ [])))) (full_list b n) (Listed.items b n (items_are P g is (suc (length b)) b (omega arith)))

      go : ((b : List ℕ) × (t ≡ 40 ∷ (b ++ (41 ∷ [])))) ⊎ (body_of t ≡ bare) → Listed P t (list_by g t)
      go (inl (b, e)) = subst (λ (x : List ℕ). Listed P x (list_by g x)) (sym e) (by b (is_blank b) refl)
      go (inr e) = subst (Listed P t) (no_list t e) (Listed.other (λ b f. clash (cc (ap body_of f ∙ body_only b))))

  -- what a text reads as by the rules of a list is what is computed, where P has no answer for an item but that of g
  pub listed_only : ((t : List ℕ) (a : Fate A) → P t a → a ≡ g t) → {t : List ℕ} {a : Fate (List A)} → Listed P t a → a ≡ list_by g t
  listed_only only (Listed.none b a) = blank_list b a
  listed_only only (Listed.items b n q) = ap (shifted 1) (items_only P g only q (suc (length b)) (omega arith)) ∙ full_list b n
  listed_only only {t} (Listed.other h) = go (body_comes t)
    where
      go : ((b : List ℕ) × (t ≡ 40 ∷ (b ++ (41 ∷ [])))) ⊎ (body_of t ≡ bare) → faulty 12 0 ≡ list_by g t
      go (inl (b, e)) = absurd (h b e)
      go (inr e) = no_list t e

-- ---- scalars for items
module _ {A : Type 0} (P : List ℕ → Answer A → Type 0) (f : List ℕ → Answer A) where
  -- what f answers for a scalar is what it reads as for an item, where f answers by P
  scalar_is : ((t : List ℕ) → P t (f t)) → (t : List ℕ) → Scalar P t (as_fate (f t))
  scalar_is is t = go (f t) (is t)
    where
      go : (a : Answer A) → P t a → Scalar P t (as_fate a)
      go (read v) p = Scalar.value p
      go (refused n) p = Scalar.other p

  -- what a scalar reads as for an item is what f answers, where P has no answer but that of f
  scalar_only : ((t : List ℕ) (a : Answer A) → P t a → a ≡ f t) → (t : List ℕ) (a : Fate A) → Scalar P t a → a ≡ as_fate (f t)
  scalar_only only t a (Scalar.value {a = v} p) = ap as_fate (only t (read v) p)
  scalar_only only t a (Scalar.other {n} p) = ap as_fate (only t (refused n) p)

  -- a list of scalars reads by the rules as it is computed, where f answers by P
  pub list_is : ((t : List ℕ) → P t (f t)) → (t : List ℕ) → Listed (Scalar P) t (list_of f t)
  list_is is = listed_is (Scalar P) (λ u. as_fate (f u)) (scalar_is is)

  -- a list of scalars reads by the rules as nothing else than what is computed, where P has no answer but that of f
  pub list_only : ((t : List ℕ) (a : Answer A) → P t a → a ≡ f t) → {t : List ℕ} {a : Fate (List A)} → Listed (Scalar P) t a → a ≡ list_of f t
  list_only only = listed_only (Scalar P) (λ u. as_fate (f u)) (scalar_only only)

  -- a grid, a list of lists of scalars, reads by the rules as it is computed, where f answers by P
  pub grid_is : ((t : List ℕ) → P t (f t)) → (t : List ℕ) → Listed (Listed (Scalar P)) t (list_by (list_of f) t)
  grid_is is = listed_is (Listed (Scalar P)) (list_of f) (list_is is)

  -- a grid of scalars reads by the rules as nothing else than what is computed, where P has no answer but that of f
  pub grid_only : ((t : List ℕ) (a : Answer A) → P t a → a ≡ f t) → {t : List ℕ} {a : Fate (List (List A))} → Listed (Listed (Scalar P)) t a → a ≡ list_by (list_of f) t
  grid_only only = listed_only (Listed (Scalar P)) (list_of f) (λ t a. list_only only)

-- a list of references reads by the rules of document 01 as it is computed
pub references_are : (t : List ℕ) → Listed (Scalar ReferenceForm) t (list_of reference_of t)
references_are = list_is ReferenceForm reference_of reference_is

-- a list of references reads by the rules of document 01 as nothing else than what is computed
pub references_only : {t : List ℕ} {a : Fate (List ℕ)} → Listed (Scalar ReferenceForm) t a → a ≡ list_of reference_of t
references_only = list_only ReferenceForm reference_of (λ t a. reference_only)

-- a list of integers reads by the rules of document 01 as it is computed
pub wholes_are : (t : List ℕ) → Listed (Scalar WholeForm) t (list_of whole_of t)
wholes_are = list_is WholeForm whole_of whole_is

-- a list of integers reads by the rules of document 01 as nothing else than what is computed
pub wholes_only : {t : List ℕ} {a : Fate (List ℤ)} → Listed (Scalar WholeForm) t a → a ≡ list_of whole_of t
wholes_only = list_only WholeForm whole_of (λ t a. whole_only)

-- a list of the class's reals reads by the rules of document 01 as it is computed
pub reals_are : (t : List ℕ) → Listed (Scalar RealForm) t (list_of real_of t)
reals_are = list_is RealForm real_of real_is

-- a list of the class's reals reads by the rules of document 01 as nothing else than what is computed
pub reals_only : {t : List ℕ} {a : Fate (List ℕ)} → Listed (Scalar RealForm) t a → a ≡ list_of real_of t
reals_only = list_only RealForm real_of (λ t a. real_only)

-- a list of any reals reads by the rules of document 01 as it is computed
pub any_reals_are : (t : List ℕ) → Listed (Scalar AnyForm) t (list_of any_real_of t)
any_reals_are = list_is AnyForm any_real_of any_is

-- a list of any reals reads by the rules of document 01 as nothing else than what is computed
pub any_reals_only : {t : List ℕ} {a : Fate (List ℕ)} → Listed (Scalar AnyForm) t a → a ≡ list_of any_real_of t
any_reals_only = list_only AnyForm any_real_of (λ t a. any_only)

-- a grid of references reads by the rules of document 01 as it is computed
pub reference_grid_is : (t : List ℕ) → Listed (Listed (Scalar ReferenceForm)) t (list_by (list_of reference_of) t)
reference_grid_is = grid_is ReferenceForm reference_of reference_is

-- a grid of references reads by the rules of document 01 as nothing else than what is computed
pub reference_grid_only : {t : List ℕ} {a : Fate (List (List ℕ))} → Listed (Listed (Scalar ReferenceForm)) t a → a ≡ list_by (list_of reference_of) t
reference_grid_only = grid_only ReferenceForm reference_of (λ t a. reference_only)

-- a grid of the class's reals reads by the rules of document 01 as it is computed
pub real_grid_is : (t : List ℕ) → Listed (Listed (Scalar RealForm)) t (list_by (list_of real_of) t)
real_grid_is = grid_is RealForm real_of real_is

-- a grid of the class's reals reads by the rules of document 01 as nothing else than what is computed
pub real_grid_only : {t : List ℕ} {a : Fate (List (List ℕ))} → Listed (Listed (Scalar RealForm)) t a → a ≡ list_by (list_of real_of) t
real_grid_only = grid_only RealForm real_of (λ t a. real_only)

-- a grid of any reals reads by the rules of document 01 as it is computed
pub any_grid_is : (t : List ℕ) → Listed (Listed (Scalar AnyForm)) t (list_by (list_of any_real_of) t)
any_grid_is = grid_is AnyForm any_real_of any_is

-- a grid of any reals reads by the rules of document 01 as nothing else than what is computed
pub any_grid_only : {t : List ℕ} {a : Fate (List (List ℕ))} → Listed (Listed (Scalar AnyForm)) t a → a ≡ list_by (list_of any_real_of) t
any_grid_only = grid_only AnyForm any_real_of (λ t a. any_only)

-- ---- where the reader of lists and grids stands after an answer
module _ {A : Type 0} (g : List ℕ → Fate A) (fits : A → Bool) (s : List ℕ) (p e : ℕ) where
  -- what a parameter is read as
  abbrev reads : Span → Told A
  reads a = roomed fits a.start (g (take (a.stop - a.start) (drop a.start s)))

  -- after an answer a reader of lists or grids stands between where it was and its end
  pub list_stands : ReaderInFile s p e → Stands p e (next_by g fits s p e)
  unfolding next_by
  list_stands = mapped_stands reads s p e

  -- a reader of lists or grids whose place or end lies outside the file answers 9 and stays as it came
  pub list_stays : reader_in_file (length s) p e ≡ false → next_by g fits s p e ≡ reading (bad (refusal 9 0 0)) p e
  unfolding next_by
  list_stays = mapped_stays reads s p e

  -- after 12, 13 and 16 a reader of lists or grids stands past the parameter and its comma
  pub list_past : (q : Refusal) → (next_by g fits s p e).answer ≡ bad q → 11 < q.number
      → (a : Span) × ((param_of s p e).answer ≡ good a) × (roomed fits a.start (g (take (a.stop - a.start) (drop a.start s))) ≡ bad q) × ReaderInFile s p e × PastParameter s p e a (next_by g fits s p e).place
  unfolding next_by
  list_past = refused_past reads s p e

-- ---- points that document 01 names, or leaves to the Rust; an item stands for its own text
-- "`()` has no item"
no_item : list_by fine (bytes "()") ≡ fine []
unfolding list_by body_of is_blank items_by past trail walk
no_item = refl

-- `( )` has no item, as `()` has none
blank_item : list_by fine (bytes "( )") ≡ fine []
unfolding list_by body_of is_blank items_by past trail walk
blank_item = refl

-- "`(1,)` has two" items, the second of them empty
two_items : list_by fine (bytes "(1,)") ≡ fine (bytes "1" ∷ [] ∷ [])
unfolding list_by body_of is_blank items_by items_from item_by item_text indent item_end cut_of past trail walk
two_items = refl

-- "items trimmed of whitespace only", "cut at depth-0 commas"
trimmed_items : list_by fine (bytes "( 1 ,(2,3), '4,' )") ≡ fine (bytes "1" ∷ bytes "(2,3)" ∷ bytes "'4,'" ∷ [])
unfolding list_by body_of is_blank items_by items_from item_by item_text indent item_end cut_of past trail walk
trimmed_items = refl

-- `(1)(2)` is one list with the item `1)(2`
one_item : list_by fine (bytes "(1)(2)") ≡ fine (bytes "1)(2" ∷ [])
unfolding list_by body_of is_blank items_by items_from item_by item_text indent item_end cut_of past trail walk
one_item = refl

-- an all-whitespace item starts after its whitespace
blank_start : list_of reference_of (bytes "(#1,  ,#3)") ≡ faulty 12 6
unfolding list_by body_of is_blank items_by items_from item_by item_text indent item_end cut_of past trail walk reference_of number_from
blank_start = refl

-- the first bad item of a grid, at its own start
grid_start : list_by (list_of reference_of) (bytes "((#1),(#2,3))") ≡ faulty 12 10
unfolding list_by body_of is_blank items_by items_from item_by item_text indent item_end cut_of past trail walk reference_of number_from
grid_start = refl
