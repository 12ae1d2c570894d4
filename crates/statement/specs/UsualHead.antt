-- The head of a data record by the bytes before its first `(`, whatever follows that. Assumes nothing.
use Rattle.std.specs.Prelude.{ℕ, ◌+◌, ◌≤◌, ◌<◌, ◌≡◌, refl, List, ◌∷◌, ◌++◌, length, drop, get_or, Ok}
use Rattle.std.proofs.Common.{sym, ◌∙◌, ap, append_assoc, append-nil, arith, length-drop, length-append}
use Rattle.std.proofs.lemmas.Bool.{eqb-false, not-true}
use Rattle.common.specs.Lists.{split, drop_end}
use Rattle.lex.specs.Byte.{white}
use Rattle.record.specs.Text.{past, number_and_rest, number_from, trail}
use Rattle.record.specs.Form.{Free, NoGapFirst, NoParen, value_of, Id, Keyword, Lead, HeadForm}
use Rattle.record.specs.FormRight.{number_is, trail_only, headform_only}
use Rattle.record.specs.FormRight.Parts.{all_front, all_back, Tailed, tail_split}
use Rattle.record.specs.FormRight.Gaps.{gap_other, gap_more, gap_is}
use Rattle.record.specs.Head.{data_head}
use Rattle.record.specs.declared.Head.TheVariants.{Complex, Simple}

-- the bytes before the value at a: `#`, the id's digits, whitespace, `=`, whitespace
pub record Fronted (t : List ℕ) (id a : ℕ) : Type 0 where
  pub front : List ℕ
  pub shape : t ≡ front ++ drop a t
  pub leads : (v : List ℕ) → NoGapFirst v → Lead front id v
  pub over : NoGapFirst (drop a t)

-- bytes that lead up to a value with the id m do so with the same id named n
lead_id : (p v : List ℕ) (n m : ℕ) → n ≡ m → Lead p m v → Lead p n v
lead_id p v n m e l = rw e l

-- the bytes before the value, from what the code found of the `#`, the id's digits, the whitespace and the `=`
pub fronted : (t : List ℕ) (id from q a : ℕ) → get_or t 0 0 ≡ 35 → number_from 0 (drop 1 t) ≡ number_and_rest id (drop from t) → id ≤ 4294967295
    → 1 < from → from ≤ length t → drop q t ≡ past white (drop from t) → q < length t → get_or t q 0 ≡ 61
    → drop a t ≡ past white (drop (q + 1) t) → Fronted t id a
fronted t id from q a hash num most some within eq hq is eqa =
    let (ds, e1, k1, n) = number_is (drop 1 t) id (drop from t) num in
    let (w, e2, k2) = gap_is (drop from t) in
    let (u, e3, k3) = gap_is (drop (q + 1) t) in
    let f0 : t ≡ 35 ∷ drop 1 t = split t 0 (omega arith) ∙ ap (λ (c : ℕ). c ∷ drop 1 t) hash in
    let f1 : drop q t ≡ 61 ∷ drop (q + 1) t = split t q hq ∙ ap (λ (c : ℕ). c ∷ drop (q + 1) t) is in
    let f2 : drop from t ≡ w ++ (61 ∷ drop (q + 1) t) = e2 ∙ ap (λ (l : List ℕ). w ++ l) (sym eq ∙ f1) in
    let f3 : drop (q + 1) t ≡ u ++ drop a t = e3 ∙ ap (λ (l : List ℕ). u ++ l) (sym eqa) in
    let s3 : (61 ∷ u) ++ drop a t ≡ 61 ∷ drop (q + 1) t = ap (λ (l : List ℕ). 61 ∷ l) (sym f3) in
    let s2 : (w ++ (61 ∷ u)) ++ drop a t ≡ drop from t = append_assoc w (61 ∷ u) (drop a t) ∙ ap (λ (l : List ℕ). w ++ l) s3 ∙ sym f2 in
    let s1 : (ds ++ (w ++ (61 ∷ u))) ++ drop a t ≡ drop 1 t = append_assoc ds (w ++ (61 ∷ u)) (drop a t) ∙ ap (λ (l : List ℕ). ds ++ l) s2 ∙ sym e1 in
    let i : Id ds = record {
      all = k1.all;
      some = λ z. let l : length (drop 1 t) ≡ length (drop from t) = ap length (e1 ∙ ap (λ (d : List ℕ). d ++ drop from t) z) in
          omega (arith, length-drop 1 t, length-drop from t);
      within = rw n at most;
    } in
    record {
      front = 35 ∷ (ds ++ (w ++ (61 ∷ u)));
      shape = f0 ∙ ap (λ (l : List ℕ). 35 ∷ l) (sym s1);
      leads = λ v h. lead_id _ v id (value_of ds) n (Lead.lead ds w u v i k2.all (record { all = k3.all; over = h }));
      over = rw (sym eqa) at k3.over;
    }

-- where nothing stands between the `=` and the `(`, the head is a complex record's
pub head_complex : (t : List ℕ) (id a : ℕ) → Fronted t id a → length t ≤ a → a ≤ length t → (r : List ℕ) → Ok (Complex id a) ≡ data_head (t ++ (40 ∷ r))
head_complex t id a f h k r =
    let e : t ≡ f.front = f.shape ∙ ap (λ (l : List ℕ). f.front ++ l) (drop_end t a h) ∙ append-nil f.front in
    let n : a ≡ length f.front = let l : length t ≡ length f.front = ap length e in omega arith in
    let g : Ok (Complex id (length f.front)) ≡ data_head (f.front ++ (40 ∷ r)) = headform_only (HeadForm.complex (f.leads (40 ∷ r) (gap_other 40 r refl))) in
    ap (λ (m : ℕ). Ok (Complex id m)) n ∙ g ∙ ap (λ (l : List ℕ). data_head (l ++ (40 ∷ r))) (sym e)

-- where a keyword stands between the `=` and the `(`, the head has its places, trimmed at its end
pub head_simple : (t : List ℕ) (id a z : ℕ) → Free 40 t → Fronted t id a → a < length t → z ≤ length t → drop z t ≡ trail (drop a t)
    → (r : List ℕ) → Ok (Simple id a z (length t)) ≡ data_head (t ++ (40 ∷ r))
head_simple t id a z free f h hz e r = go (tail_split (drop a t))
  where
    go : Tailed (drop a t) → Ok (Simple id a z (length t)) ≡ data_head (t ++ (40 ∷ r))
    go (k, w, x, aw, nl) =
        let p : List ℕ = f.front in
        let v : List ℕ = k ++ (w ++ (40 ∷ r)) in
        let d : drop z t ≡ w = e ∙ ap trail x ∙ trail_only k w nl aw in
        let y : drop a t ++ (40 ∷ r) ≡ v = ap (λ (l : List ℕ). l ++ (40 ∷ r)) x ∙ append_assoc k w (40 ∷ r) in
        let b : get_or t a 0 ∷ (drop (a + 1) t ++ (40 ∷ r)) ≡ v = ap (λ (l : List ℕ). l ++ (40 ∷ r)) (sym (split t a h)) ∙ y in
        let fv : Free 40 (drop a t) = all_back _ p (drop a t) (rw f.shape at free) in
        let fk : NoParen k = all_front _ k w (rw x at fv) in
        let c40 : get_or t a 0 ≡ 40 → ⊥ = eqb-false (get_or t a 0) 40 (not-true _ (rw (split t a h) at fv).0) in
        let key : Keyword v k w r = record { shape = refl; first = fk; blank = aw; ended = nl } in
        let nf : NoGapFirst v = rw b at (gap_more (get_or t a 0) (drop (a + 1) t) (40 ∷ r) (rw (split t a h) at f.over)) in
        let g : Ok (Simple id (length p) (length (p ++ k)) (length (p ++ (k ++ w)))) ≡ data_head (p ++ v) =
        headform_only (HeadForm.simple (f.leads v nf) (λ (l, m). c40 (cc)) key) in
        let whole : p ++ v ≡ t ++ (40 ∷ r) =
        ap (λ (l : List ℕ). p ++ l) (sym y) ∙ sym (append_assoc p (drop a t) (40 ∷ r)) ∙ ap (λ (l : List ℕ). l ++ (40 ∷ r)) (sym f.shape) in
        let lt : length t ≡ length p + length (drop a t) = ap length f.shape ∙ length-append p (drop a t) in
        let lv : length (drop a t) ≡ length k + length w = ap length x ∙ length-append k w in
        let lw : length (drop z t) ≡ length w = ap length d in
        let na : length p ≡ a = omega (arith, length-drop a t) in
        let nz : length (p ++ k) ≡ z = length-append p k ∙ omega (arith, length-drop a t, length-drop z t) in
        let no : length (p ++ (k ++ w)) ≡ length t = length-append p (k ++ w) ∙ omega (arith, length-append k w) in
        (rw (na, nz, no) at g) ∙ ap data_head whole
