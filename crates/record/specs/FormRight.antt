-- Form.antt's rules and what Text.antt, Head.antt and Word.antt compute are one: what is computed is so, and nothing else is.
-- Assumes nothing.
use Rattle.std.specs.Prelude.{ℕ, zero, suc, ◌+◌, ◌*◌, ◌-◌, ◌^◌, ◌<◌, ◌≡◌, refl, Bool, true, false, not, ◌||◌, ◌&&◌, ◌⊎◌, List, [], ◌∷◌, ◌++◌, map, eqb, leb, length, take, drop, Result, Ok, Err}
use Prim.Native.String.{String}
use Rattle.std.proofs.Common.{sym, ◌∙◌, ap, inl, inr, append_assoc, append-nil, arith, length-append, take-append-drop, take_at, drop_at, leb-false, leb-true, lt-ltb, le-ltb, eqb-true, eq-eqb, ne_eqb}
use Rattle.std.proofs.lemmas.List.{map-append, length-map}
use Rattle.std.proofs.Math.Decide.{ℕ_discrete}
use Rattle.std.proofs.lemmas.Bool.{not-true, not-false}
use Rattle.common.specs.Pick.{pick}
use Rattle.common.specs.Compare.{clash}
use Rattle.lex.specs.Byte.{white, place}
use Rattle.common.specs.Walk.{on, walk}
use Rattle.lex.specs.Grammar.{Begins}
use Rattle.record.specs.Text.{past, past_gap, NumberAndRest, number_and_rest, number_from, opened, unopened, key_turn, keyword, trail_turn, trail}
use Rattle.record.specs.Byte.{digit, upper}
use Rattle.record.specs.Turns.{number_grows}
use Rattle.record.specs.Head.{value_head, equal_head, data_head, header_head}
use Rattle.record.specs.Word.{same_bytes, is_word, opens_paren, endsec, header_word, data_word, end_file, opens_data, trimmed, word_in, word_of}
use Rattle.record.specs.Form.{NotFirst, SkippedBytes, value_of, Id, Keyword, Lead, HeadForm, HeaderForm, Gap, NoGapFirst, NoGapLast, Gapped, NoParen, Trimmed, Spelt, Says, WordForm}
use Rattle.common.specs.Bytes.{bytes}
use Rattle.record.specs.declared.Head.{Head}
use Rattle.record.specs.declared.Head.TheVariants.{Complex, Simple}
use Rattle.record.specs.declared.Named.{Named}
use Rattle.error.specs.declared.Reason.{Reason}
use Rattle.error.specs.declared.Reason.TheVariants as reason
use Rattle.record.specs.declared.Word.{Word}
use Rattle.record.specs.declared.Word.TheVariants.{Header, Data, EndSection, EndFile, Other}
pub mod Parts
pub mod Gaps
use Parts.{sole, first_other, all_front, all_back, all_join, all_any, SplitAfter, split_is, Tailed, tail_split, past_pass, past_halt, number_pass, number_halt, word_pass}
use Gaps.{gap_other, gap_more, gap_part, gap_join, gap_only, gap_is, gap_comes, gap_free, gap_digit}

-- `past` answers r, where before r stand bytes of the kind p and r begins with no more of them
pub past_only : (p : ℕ → Bool) (f r : List ℕ) → SkippedBytes p f r → past p (f ++ r) ≡ r
past_only p f r s = past_pass p f r s.all ∙ past_halt p r s.over

-- what `past` answers follows the bytes of the kind p at the list's start, and begins with no more of them
pub past_is : (p : ℕ → Bool) (xs : List ℕ) → (f : List ℕ) × (xs ≡ f ++ past p xs) × SkippedBytes p f (past p xs)
past_is p xs = go (split_is p xs)
  where
    go : SplitAfter p xs → (f : List ℕ) × (xs ≡ f ++ past p xs) × SkippedBytes p f (past p xs)
    go (f, r, e, s) =
        let g : past p xs ≡ r = ap (past p) e ∙ past_only p f r s in
        (f, rw g e, rw g s)

-- `number_from` answers the number of the digits ds and the rest r, where r begins with no more digits
pub number_only : (ds r : List ℕ) → SkippedBytes digit ds r → number_from 0 (ds ++ r) ≡ number_and_rest (value_of ds) r
number_only ds r s = number_pass 0 ds r s.all ∙ number_halt _ r s.over ∙ ap (λ (m : ℕ). number_and_rest m r) (omega arith)

-- the number that `number_from` answers is that of all digits at the start, and its rest follows them
pub number_is : (xs : List ℕ) (n : ℕ) (r : List ℕ) → number_from 0 xs ≡ number_and_rest n r
    → (ds : List ℕ) × (xs ≡ ds ++ r) × SkippedBytes digit ds r × (n ≡ value_of ds)
number_is xs n r h = go (split_is digit xs)
  where
    go : SplitAfter digit xs → (ds : List ℕ) × (xs ≡ ds ++ r) × SkippedBytes digit ds r × (n ≡ value_of ds)
    go (ds, s, e, k) =
        let g : number_and_rest n r ≡ number_and_rest (value_of ds) s = sym h ∙ ap (number_from 0) e ∙ number_only ds s k in
        let q : r ≡ s = ap (λ (d : NumberAndRest). d.rest) g in
        (ds, rw q e, rw q k, ap (λ (d : NumberAndRest). d.value) g)

-- the search for a `(` passes over other bytes
key_goes : (c : ℕ) → not (eqb c 40) ≡ true → (e r : List ℕ) → key_turn e c r ≡ on (pick (white c) e r)
key_goes c h e r = rw (not-true (eqb c 40) h)

-- "a keyword and the first byte `(`": where a text has them, `keyword` finds them
pub keyword_only : {xs k w r : List ℕ} → Keyword xs k w r → keyword xs ≡ opened (w ++ (40 ∷ r)) (40 ∷ r)
unfolding keyword walk
keyword_only {k} {w} {r} f =
    let free : NoParen w = gap_free w f.blank in
    rw f.shape (word_pass key_turn (λ e. unopened) (λ c. not (eqb c 40)) key_goes k w (40 ∷ r) f.first f.ended free f.blank)

-- in a text without a `(`, `keyword` finds none
pub keyword_none_only : (xs : List ℕ) → NoParen xs → keyword xs ≡ unopened
unfolding keyword walk
keyword_none_only xs h = go xs xs h
  where
    go : (e ys : List ℕ) → NoParen ys → walk key_turn (λ u. unopened) e ys ≡ unopened
    go e [] h = refl
    go e (c ∷ ys) (h, t) = rw (not-true (eqb c 40) h) (go (pick (white c) e ys) ys t)

-- a text has a keyword and a `(`, or no `(`
abbrev Keys : List ℕ → Type 0
Keys xs = ((k w r : List ℕ) × Keyword xs k w r) ⊎ NoParen xs

keyword_comes : (xs : List ℕ) → Keys xs
keyword_comes xs = go (split_is (λ c. not (eqb c 40)) xs)
  where
    cut : (f r : List ℕ) → xs ≡ f ++ (40 ∷ r) → NoParen f → Tailed f → Keys xs
    cut f r e h (k, w, g, a, l) =
        inl (k, w, r, record { shape = cc (append_assoc k w (40 ∷ r)); first = all_front _ k w (rw g at h); blank = a; ended = l })

    go : SplitAfter (λ c. not (eqb c 40)) xs → Keys xs
    go (f, [], e, s) = inr (rw (e, append-nil) s.all)
    go (f, c ∷ r, e, s) =
        let h : c ≡ 40 = eqb-true c 40 (not-false (eqb c 40) (s.over c r refl)) in
        cut f r (rw h at e) s.all (tail_split f)

-- "a keyword and the first byte `(`": what `keyword` finds in a text is its keyword, the whitespace after it and its first `(`
pub keyword_is : (xs e o : List ℕ) → keyword xs ≡ opened e o → (k w r : List ℕ) × (o ≡ 40 ∷ r) × (e ≡ w ++ (40 ∷ r)) × Keyword xs k w r
keyword_is xs e o h = go (keyword_comes xs)
  where
    go : Keys xs → (k w r : List ℕ) × (o ≡ 40 ∷ r) × (e ≡ w ++ (40 ∷ r)) × Keyword xs k w r
    go (inl (k, w, r, f)) = (k, w, r, cc (keyword_only f), cc (keyword_only f), f)
    go (inr f) = clash (cc (keyword_none_only xs f))

-- where `keyword` finds no `(`, the text has none
pub keyword_none : (xs : List ℕ) → keyword xs ≡ unopened → NoParen xs
keyword_none xs h = go (keyword_comes xs)
  where
    go : Keys xs → NoParen xs
    go (inl (k, w, r, f)) = clash (cc (keyword_only f))
    go (inr f) = f

-- `trail` answers the whitespace z at a text's end, where what stands before z does not end in whitespace
pub trail_only : (t z : List ℕ) → NoGapLast t → Gap z → trail (t ++ z) ≡ z
unfolding trail walk
trail_only t z l a = rw (append-nil z) at (word_pass trail_turn (λ e. e) (λ c. true) (λ c h e r. refl) t z [] (all_any t) l (all_any z) a)

-- "Trimmed of whitespace": the trimmed text by the rules is the one that `trimmed` computes
pub trimmed_only : {xs t : List ℕ} → Trimmed xs t → t ≡ trimmed xs
trimmed_only {t} f = rw f.shape (go t f.first f.last)
  where
    go : (u : List ℕ) → NoGapFirst u → NoGapLast u → u ≡ trimmed (f.front ++ (u ++ f.back))
    go [] h l =
        let e : past_gap (f.front ++ f.back) ≡ [] =
        rw append-nil at (gap_only (f.front ++ f.back) [] (record { all = gap_join f.front f.back f.before f.after; over = h })) in
        rw (e, trail_only [] [] l tt)
    go (c ∷ u) h l =
        let o : NoGapFirst (c ∷ (u ++ f.back)) = gap_more c u f.back h in
        let e = gap_only f.front (c ∷ (u ++ f.back)) (record { all = f.before; over = o }) in
        let n : length (c ∷ u) ≡ length (c ∷ (u ++ f.back)) - length f.back = simp length-append (omega arith) in
        rw (e, trail_only (c ∷ u) f.back l f.after) (sym (take_at (c ∷ u) f.back _ n))

-- every text can be trimmed
trimmed_comes : (xs : List ℕ) → (t : List ℕ) × Trimmed xs t
trimmed_comes xs = go (gap_comes xs)
  where
    cut : (a r : List ℕ) → xs ≡ a ++ r → Gapped a r → Tailed r → (t : List ℕ) × Trimmed xs t
    cut a r e s (t, z, g, b, l) =
        let o : NoGapFirst t = gap_part t z (rw g at s.over) in
        (t, record { front = a; back = z; shape = cc; before = s.all; after = b; first = o; last = l })

    go : (f r : List ℕ) × (xs ≡ f ++ r) × Gapped f r → (t : List ℕ) × Trimmed xs t
    go (a, r, e, s) = cut a r e s (tail_split r)

-- "Trimmed of whitespace": what `trimmed` computes is the trimmed text by the rules
pub trimmed_is : (xs : List ℕ) → Trimmed xs (trimmed xs)
trimmed_is xs = sole (Trimmed xs) (λ t. trimmed_only) (trimmed_comes xs)

-- after `#` and an id, a data record's head is that of what follows the id and whitespace
id_only : (ds y : List ℕ) → Id ds → NotFirst digit y → data_head (35 ∷ (ds ++ y)) ≡ equal_head (35 ∷ (ds ++ y)) (value_of ds) (past_gap y)
unfolding data_head
id_only ds y i h =
    let s : SkippedBytes digit ds y = record { all = i.all; over = h } in
    rw (number_only ds y s, le-ltb 4294967295 (value_of ds) i.within, ne_eqb (length y) (length (ds ++ y)) (longer ds i.some))
  where
    longer : (f : List ℕ) → (f ≡ [] → ⊥) → length y ≡ length (f ++ y) → ⊥
    longer [] n e = n refl
    longer (d ∷ f) n e = omega (arith, length-append f y)

-- after `#`, an id, `=` and whitespace, a data record's head is that of the value that follows
lead_only : {a : List ℕ} {n : ℕ} {v : List ℕ} → Lead a n v → data_head (a ++ v) ≡ value_head (a ++ v) n v
lead_only (Lead.lead ds w u v i b s) =
    let e : (35 ∷ (ds ++ (w ++ (61 ∷ u)))) ++ v ≡ 35 ∷ (ds ++ (w ++ (61 ∷ (u ++ v)))) = simp append_assoc in
    let o : NoGapFirst (61 ∷ (u ++ v)) = gap_other 61 (u ++ v) refl in
    rw e (id_only ds (w ++ (61 ∷ (u ++ v))) i (gap_digit w _ b (first_other digit 61 (u ++ v) refl))
    ∙ rw (gap_only w (61 ∷ (u ++ v)) (record { all = b; over = o }), gap_only u v s) refl)

-- in a data record, what stands where an `=` should, and what stands after the `=`
module _ (b : List ℕ) (n : ℕ) where
  equal_none : (r : List ℕ) → (Begins 61 r → ⊥) → equal_head b n r ≡ Err reason.NoEqual
  equal_none [] h = refl
  equal_none (c ∷ r) h = rw (ne_eqb c 61 (λ e. h (r, cc)))

  value_none : (v : List ℕ) → (v ≡ [] → ⊥) → NoParen v → value_head b n v ≡ Err reason.NoParen
  value_none [] z h = absurd (z refl)
  value_none (c ∷ r) z h = rw (not-true (eqb c 40) h.0, keyword_none_only (c ∷ r) h)

  value_keyed : (v k w r : List ℕ) → (Begins 40 v → ⊥) → Keyword v k w r
      → value_head b n v ≡ Ok (Simple n (place b v) (place b (w ++ (40 ∷ r))) (place b (40 ∷ r)))
  value_keyed [] k w r h f = clash (cc (keyword_only f, keyword_none_only [] tt))
  value_keyed (c ∷ v) k w r h f = rw (ne_eqb c 40 (λ e. h (v, cc)), keyword_only f)

-- a keyword's places are the numbers of bytes before them
keyed_places : {H : Type 0} (f : ℕ → ℕ → ℕ → H) (a : List ℕ) {v k w r : List ℕ} → Keyword v k w r
    → f (length a) (length (a ++ k)) (length (a ++ (k ++ w)))
    ≡ f (place (a ++ v) v) (place (a ++ v) (w ++ (40 ∷ r))) (place (a ++ v) (40 ∷ r))
keyed_places f a {v} {k} {w} {r} q =
    let x : length a ≡ place (a ++ v) v = simp length-append (omega arith) in
    let y : length (a ++ k) ≡ place (a ++ v) (w ++ (40 ∷ r)) = rw q.shape (simp length-append (omega arith)) in
    let z : length (a ++ (k ++ w)) ≡ place (a ++ v) (40 ∷ r) = rw q.shape (simp length-append (omega arith)) in
    cc

-- "Data: `#`, digits ..", reasons 2 to 7: the head of a text by the rules is the one that is computed
pub headform_only : {b : List ℕ} {h : Result Head Reason} → HeadForm b h → h ≡ data_head b
unfolding data_head
headform_only (HeadForm.unmarked [] h) = refl
headform_only (HeadForm.unmarked (c ∷ r) h) = rw (ne_eqb c 35 (λ e. h (r, cc)))
headform_only (HeadForm.above ds r a h) =
    let n : ℕ = 0 * 10 ^ length ds + value_of ds in
    let g : 4294967295 < (number_from 0 (ds ++ r)).value = rw (number_pass 0 ds r a) (omega (arith, number_grows n r)) in
    rw (lt-ltb 4294967295 (number_from 0 (ds ++ r)).value g)
headform_only (HeadForm.numberless r h) = rw (number_halt 0 r h, eq-eqb (length r) (length r) refl)
headform_only (HeadForm.unequal ds w r i d s h) = sym (id_only ds (w ++ r) i d ∙ rw (gap_only w r s) (equal_none (35 ∷ (ds ++ (w ++ r))) (value_of ds) r h))
headform_only (HeadForm.valueless {a} l) = sym (rw (append-nil a) at (lead_only l))
headform_only (HeadForm.unopened {a} {v} {n} l z f) = sym (lead_only l ∙ value_none (a ++ v) n v z f)
headform_only (HeadForm.complex {a} {r} {n} l) = ap (λ (p : ℕ). Ok (Complex n p)) (simp length-append (omega arith)) ∙ sym (lead_only l)
headform_only (HeadForm.simple {a} {v} {k} {w} {r} {n} l h f) = keyed_places (λ (p q s : ℕ). Ok (Simple n p q s)) a f ∙ sym (lead_only l ∙ value_keyed (a ++ v) n v k w r h f)

-- the text b has a data record's head by the rules: shown of every text, by what stands after `=`, in place of `=`, after `#`, and at the start
abbrev Heads : List ℕ → Type 0
Heads b = (h : Result Head Reason) × HeadForm b h

value_comes : {a : List ℕ} {n : ℕ} (v : List ℕ) → Lead a n v → Heads (a ++ v)
value_comes {a} [] l = (Err reason.NoValue, rw (append-nil a) (HeadForm.valueless l))
value_comes {a} {n} (c ∷ r) l = go (ℕ_discrete c 40) (keyword_comes (c ∷ r))
  where
    go : Dec (c ≡ 40) → Keys (c ∷ r) → Heads (a ++ (c ∷ r))
    go (yes p) k = rw p (Ok (Complex n (length a)), HeadForm.complex (rw p at l))
    go (no h) (inl (k, w, s, f)) = (_, HeadForm.simple l (λ (s, e). h (cc)) f)
    go (no h) (inr f) = (Err reason.NoParen, HeadForm.unopened l (λ e. clash (cc)) f)

equal_comes : (ds w z : List ℕ) → Id ds → NotFirst digit (w ++ z) → Gapped w z → Heads (35 ∷ (ds ++ (w ++ z)))
equal_comes ds w [] i d s = (Err reason.NoEqual, HeadForm.unequal ds w [] i d s (λ (r, e). clash (cc)))
equal_comes ds w (c ∷ z) i d s = go (ℕ_discrete c 61) (gap_comes z)
  where
    go : Dec (c ≡ 61) → (f r : List ℕ) × (z ≡ f ++ r) × Gapped f r → Heads (35 ∷ (ds ++ (w ++ (c ∷ z))))
    go (yes p) (u, v, e, t) = rw (p, e) (simp append_assoc at (value_comes v (Lead.lead ds w u v i s.all t)))
    go (no h) t = (Err reason.NoEqual, HeadForm.unequal ds w (c ∷ z) i d s (λ (r, e). h (cc)))

number_comes : (ds y : List ℕ) → SkippedBytes digit ds y → Heads (35 ∷ (ds ++ y))
number_comes [] y s = (Err reason.NoDigits, HeadForm.numberless y s.over)
number_comes (d ∷ ds) y s = go (leb (value_of (d ∷ ds)) 4294967295) refl (gap_comes y)
  where
    go : (t : Bool) → leb (value_of (d ∷ ds)) 4294967295 ≡ t → (f r : List ℕ) × (y ≡ f ++ r) × Gapped f r → Heads (35 ∷ (d ∷ (ds ++ y)))
    go false h t = (Err reason.LargeId, HeadForm.above (d ∷ ds) y s.all (leb-false _ _ h))
    go true h (w, z, e, t) =
        rw e (equal_comes (d ∷ ds) w z (record { all = s.all; some = λ n. clash (cc); within = leb-true _ _ h }) (rw e at s.over) t)

head_comes : (b : List ℕ) → Heads b
head_comes [] = (Err reason.NoHash, HeadForm.unmarked [] (λ (r, e). clash (cc)))
head_comes (c ∷ r) = go (ℕ_discrete c 35) (split_is digit r)
  where
    go : Dec (c ≡ 35) → SplitAfter digit r → Heads (c ∷ r)
    go (yes p) (ds, y, e, s) = rw (p, e) (number_comes ds y s)
    go (no h) s = (Err reason.NoHash, HeadForm.unmarked (c ∷ r) (λ (r, e). h (cc)))

-- "Data: `#`, digits ..", reasons 2 to 7: the head that is computed is that of the text by the rules
pub headform_is : (b : List ℕ) → HeadForm b (data_head b)
headform_is b = sole (HeadForm b) (λ h. headform_only) (head_comes b)

-- a header record's head, reason 1: the head of a text by the rules is the one that is computed
pub headerform_only : {b : List ℕ} {h : Result Named Reason} → HeaderForm b h → h ≡ header_head b
unfolding header_head
headerform_only (HeaderForm.unopened b f) = let (a, e, s) = gap_is b in
    rw (keyword_none_only (past_gap b) (all_back _ a (past_gap b) (rw e at f)))
headerform_only (HeaderForm.named {a} {v} s f) = rw (gap_only a v s, keyword_only f) (keyed_places (λ (p q s : ℕ). Ok (record { start = p; end = q; opening = s })) a f)

-- every text has a header record's head
header_comes : (b : List ℕ) → (h : Result Named Reason) × HeaderForm b h
header_comes b = go (gap_comes b)
  where
    cut : (a v : List ℕ) → b ≡ a ++ v → Gapped a v → Keys v → (h : Result Named Reason) × HeaderForm b h
    cut a v e s (inl (k, w, r, f)) = rw e (_, HeaderForm.named s f)
    cut a v e s (inr f) = (Err reason.NoHeaderParen, HeaderForm.unopened b (rw e (all_join _ a v (gap_free a s.all) f)))

    go : (f r : List ℕ) × (b ≡ f ++ r) × Gapped f r → (h : Result Named Reason) × HeaderForm b h
    go (a, v, e, s) = cut a v e s (keyword_comes v)

-- a header record's head, reason 1: the head that is computed is that of the text by the rules
pub headerform_is : (b : List ℕ) → HeaderForm b (header_head b)
headerform_is b = sole (HeaderForm b) (λ h. headerform_only) (header_comes b)

-- two texts of which the test `same_bytes` holds are equal
pub same_is : (x y : List ℕ) → same_bytes x y ≡ true → x ≡ y
same_is [] [] h = refl
same_is [] (b ∷ y) h = clash (cc)
same_is (a ∷ x) [] h = clash (cc)
same_is (a ∷ x) (b ∷ y) h = go (eqb a b) refl (same_is x y)
  where
    go : (t : Bool) → eqb a b ≡ t → (same_bytes x y ≡ true → x ≡ y) → a ∷ x ≡ b ∷ y
    go true e g = let f : same_bytes x y ≡ true = rw e at h in cc (g f, eqb-true a b e)
    go false e g = let f : false ≡ true = rw e at h in clash (cc)

-- the test `same_bytes` holds of a text and itself
pub same_self : (x : List ℕ) → same_bytes x x ≡ true
same_self [] = refl
same_self (a ∷ x) = rw (eq-eqb a a refl) (same_self x)

-- "letters in either case": a text that passes the test `is_word` is spelt as the word
pub spelt_is : (t : List ℕ) (w : String) → is_word t (bytes w) ≡ true → Spelt t w
spelt_is t w h = same_is (map upper t) (bytes w) h

-- a text that is spelt as a word, letters in either case, passes the test `is_word`
pub spelt_only : (t : List ℕ) (w : String) → Spelt t w → is_word t (bytes w) ≡ true
spelt_only t w h = rw h (same_self (bytes w))

-- a test that cannot pass fails
fails : (t : Bool) → (t ≡ true → ⊥) → t ≡ false
fails true h = absurd (h refl)
fails false h = refl

-- a text that passes the test `opens_data` opens data by the rules
opens_is : (t : List ℕ) → opens_data t ≡ true → Says t Data
opens_is t h = go (is_word t data_word) (is_word (take 4 t) data_word) (past_gap (drop 4 t)) refl refl refl h
  where
    go : (a b : Bool) (v : List ℕ) → is_word t data_word ≡ a → is_word (take 4 t) data_word ≡ b → past_gap (drop 4 t) ≡ v
        → a || (b && opens_paren v) ≡ true → Says t Data
    go true b v p q e h = Says.data_alone t (spelt_is t "DATA" p)
    go false false v p q e h = clash (cc)
    go false true [] p q e h = clash (cc)
    go false true (c ∷ r) p q e h =
        let (w, g, s) = gap_is (drop 4 t) in
        let f : take 4 t ++ (w ++ (40 ∷ r)) ≡ t = cc (take-append-drop 4 t, eqb-true c 40 h) in
        rw f at (Says.data_opened (take 4 t) w r (spelt_is (take 4 t) "DATA" q) s.all)

or_true : (a : Bool) → a || true ≡ true
or_true true = refl
or_true false = refl

opens_only : (d w r : List ℕ) → Spelt d "DATA" → Gap w → opens_data (d ++ (w ++ (40 ∷ r))) ≡ true
opens_only d w r h a =
    let n : length d ≡ 4 = sym (length-map d upper) ∙ ap length h in
    let e : past_gap (w ++ (40 ∷ r)) ≡ 40 ∷ r = gap_only w (40 ∷ r) (record { all = a; over = gap_other 40 r refl }) in
    rw (take_at d (w ++ (40 ∷ r)) 4 n, drop_at d (w ++ (40 ∷ r)) 4 n, spelt_only d "DATA" h, e) (or_true (is_word (d ++ (w ++ (40 ∷ r))) data_word))

-- the capitals of a text's first n bytes are the first n of its capitals
map_take : (n : ℕ) (t : List ℕ) → map upper (take n t) ≡ take n (map upper t)
map_take zero t = refl
map_take (suc n) [] = refl
map_take (suc n) (c ∷ t) = ap (λ (l : List ℕ). upper c ∷ l) (map_take n t)

-- what a trimmed text says by the rules is what `word_in` computes
says_only : {t : List ℕ} {w : Word} → Says t w → w ≡ word_in t
says_only (Says.headed t h) = rw h
says_only (Says.data_alone t h) = rw h
says_only (Says.data_opened d w r h a) = rw (opens_only d w r h a, map-append, h)
says_only (Says.left t h) = rw h
says_only (Says.ended t h) = rw (map_take, h)

-- no trimmed text says by the rules that it is no word
says_other : {t : List ℕ} → Says t Other → ⊥
says_other s = elim s [ ]

-- every trimmed text is a section word or none by the rules
word_comes : {b t : List ℕ} → Trimmed b t → (w : Word) × WordForm b w
word_comes {b} {t} f = go (is_word t endsec) (is_word t header_word) (opens_data t) (is_word t end_file) refl refl refl refl
  where
    go : (i j k l : Bool) → is_word t endsec ≡ i → is_word t header_word ≡ j → opens_data t ≡ k → is_word t end_file ≡ l → (w : Word) × WordForm b w
    go true j k l p q r s = (EndSection, WordForm.word f (Says.left t (spelt_is t "ENDSEC" p)))
    go false true k l p q r s = (Header, WordForm.word f (Says.headed t (spelt_is t "HEADER" q)))
    go false false true l p q r s = (Data, WordForm.word f (opens_is t r))
    go false false false true p q r s = (EndFile, WordForm.word f (Says.ended t (spelt_is t "END-ISO-10303-21" s)))
    go false false false false p q r s =
        let other : word_in t ≡ Other = rw (p, q, r, s) in
        (Other, WordForm.other f (λ w h. says_other (rw (says_only h ∙ other) at h)))

-- "`HEADER` opens ..": the word that a text is by the rules is the one that is computed
pub wordform_only : {b : List ℕ} {w : Word} → WordForm b w → w ≡ word_of b
unfolding word_of
wordform_only (WordForm.word f s) = says_only s ∙ ap word_in (trimmed_only f)
wordform_only (WordForm.other {t} f n) = go ∙ ap word_in (trimmed_only f)
  where
    go : Other ≡ word_in t
    go = rw (
      fails (is_word t endsec) (λ e. n EndSection (Says.left t (spelt_is t "ENDSEC" e))),
      fails (is_word t header_word) (λ e. n Header (Says.headed t (spelt_is t "HEADER" e))),
      fails (opens_data t) (λ e. n Data (opens_is t e)),
      fails (is_word t end_file) (λ e. n EndFile (Says.ended t (spelt_is t "END-ISO-10303-21" e))),
    )

-- "`HEADER` opens ..": the word that is computed is that of the text by the rules
pub wordform_is : (b : List ℕ) → WordForm b (word_of b)
wordform_is b = sole (WordForm b) (λ w. wordform_only) (word_comes (trimmed_is b))
