-- Closed.antt asks no more of a complex record's parts than the paper does: a part whose `(` lies outside strings and comments closes
-- within the arguments, since these are balanced.
-- Assumes nothing.
use Rattle.std.specs.Prelude.{ℕ, ◌≤◌, ◌<◌, ◌≡◌, refl, ◌⊎◌, List, [], ◌∷◌, ◌++◌, length}
use Rattle.std.proofs.Common.{sym, ◌∙◌, ap, inl, inr, append_assoc, arith, length-append}
use Rattle.std.proofs.Math.Decide.{ℕ_discrete}
use Rattle.common.specs.Compare.{clash}
use Rattle.lex.specs.Grammar.{OpensComment, RecordRuns, Balanced, Closes, Deep, OpenText, OpenRemark}
use Rattle.lex.specs.Search.{closing}
use Rattle.lex.specs.Answer.{Sought, at, fault}
use Rattle.lex.specs.Local.{closing_local}
use Rattle.lex.specs.Right.{closing_only, closing_is, closing_open, closing_one, closing_text_only, closing_remark_only, closing_over_only}
use Rattle.lex.specs.Inside.{closes_own}
use Rattle.record.specs.Form.{Free}
use Rattle.record.specs.FormRight.Parts.{all_back}
use Rattle.statement.specs.Closed.{OutsideBoth, ClosedParts}
use Rattle.statement.specs.ClosedRight.Outside.{runs_longer, opens_more, quotation_more, comment_more}

-- no `(` of xs stands before the one that r follows
abbrev First : List ℕ → List ℕ → Type 0
First xs r = (u v : List ℕ) → xs ≡ u ++ (40 ∷ v) → length v ≤ length r

free_first : (k r : List ℕ) → Free 40 k → First (k ++ (40 ∷ r)) r
free_first [] r h [] v e = let f : v ≡ r = cc in omega (arith, ap length f)
free_first [] r h (x ∷ u) v e = let f : r ≡ u ++ (40 ∷ v) = cc in omega (arith, simp length-append at (ap length f))
free_first (c ∷ k) r (h, t) [] v e = clash (cc)
free_first (c ∷ k) r (h, t) (x ∷ u) v e = free_first k r t u v (cc)

-- all is balanced up to the `(` that r follows, or a `)` stands outside before it
abbrev UpTo : List ℕ → List ℕ → Type 0
UpTo xs r = Balanced xs (40 ∷ r) ⊎ ((v : List ℕ) × Closes xs v × (length r < length v))

-- balanced bytes before ys do not change that all is balanced up to a `(`, or that a `)` stands outside before it
up_to_lem : {xs ys r : List ℕ} → ((ws : List ℕ) → Balanced ys ws → Balanced xs ws) → UpTo ys r → UpTo xs r
up_to_lem {r} g (inl b) = inl (g (40 ∷ r) b)
up_to_lem g (inr (v, b, n)) = inr (v, g (41 ∷ v) b, n)

-- all is balanced up to the first `(` byte, or a `)` stands outside before it, where that `(` lies outside strings and comments
before_first : (z : List ℕ) {xs r : List ℕ} → RecordRuns xs (40 ∷ r) → First xs r → UpTo (xs ++ z) (r ++ z)
before_first z RecordRuns.none f = inl Balanced.none
before_first z {r} (RecordRuns.byte {c} {xs} h k l s) f = go (ℕ_discrete c 40) (ℕ_discrete c 41) (before_first z s (λ u v e. f (c ∷ u) v (cc)))
  where
    o : OpensComment (c ∷ (xs ++ z)) → ⊥
    o p = l (opens_more z c xs (omega (arith, runs_longer s)) p)

    go : Dec (c ≡ 40) → Dec (c ≡ 41) → UpTo (xs ++ z) (r ++ z) → UpTo (c ∷ (xs ++ z)) (r ++ z)
    go (yes p) q ih = absurd (omega (arith, f [] xs (cc), runs_longer s))
    go (no m) (yes q) ih = inr (xs ++ z, rw q Balanced.none, simp length-append (omega (arith, runs_longer s)))
    go (no m) (no n) ih = up_to_lem (λ ws. Balanced.byte m n k o) ih
before_first z (RecordRuns.string q s) f =
    up_to_lem (λ ws. Balanced.string (quotation_more z q (omega (arith, runs_longer s))))
    (before_first z s (λ u v e. f (39 ∷ (q.body ++ (39 ∷ u))) v (cc (append_assoc q.body (39 ∷ u) (40 ∷ v)))))
before_first z (RecordRuns.comment q s) f =
    up_to_lem (λ ws. Balanced.comment (comment_more z q))
    (before_first z s (λ u v e. f (47 ∷ 42 ∷ (q.body ++ (42 ∷ 47 ∷ u))) v (cc (append_assoc q.body (42 ∷ 47 ∷ u) (40 ∷ v)))))

-- balanced bytes after balanced bytes are balanced
balanced_join : {xs ys zs : List ℕ} → Balanced xs ys → Balanced ys zs → Balanced xs zs
balanced_join Balanced.none s = s
balanced_join (Balanced.byte h k l m r) s = Balanced.byte h k l m (balanced_join r s)
balanced_join (Balanced.string q r) s = Balanced.string q (balanced_join r s)
balanced_join (Balanced.comment q r) s = Balanced.comment q (balanced_join r s)
balanced_join (Balanced.group r t) s = Balanced.group r (balanced_join t s)

deep_before : {d : ℕ} {xs ys zs : List ℕ} → ((ws : List ℕ) → Balanced ys ws → Balanced xs ws) → Deep d ys zs → Deep d xs zs
deep_before {zs} g (Deep.flat r) = Deep.flat (g zs r)
deep_before g (Deep.nested {zs = ws} r s) = Deep.nested (g (40 ∷ ws) r) s

-- where xs closes, so does ys that xs leads to: a search that fails from ys on would fail from xs on
closes_within : {xs z : List ℕ} (ys : List ℕ) → Closes xs z → ((d : ℕ) (o : List ℕ) → Deep d ys o → (e : ℕ) × Deep e xs o)
    → (v : List ℕ) × Closes ys v
closes_within ys c g = go (closing (40 ∷ ys)) refl
  where
    fails : {n : ℕ} {o : List ℕ} → ((n ≡ 4) × ((d : ℕ) × Deep d ys o) × OpenText o)
        ⊎ (((n ≡ 3) × ((d : ℕ) × Deep d ys o) × OpenRemark o) ⊎ ((n ≡ 6) × (o ≡ 40 ∷ ys) × ((d : ℕ) × Deep d ys []))) → (v : List ℕ) × Closes ys v
    fails {o} (inl (p, (d, h), q)) = clash (cc (closing_only 40 c, closing_text_only 40 (g d o h).1 q))
    fails {o} (inr (inl (p, (d, h), q))) = clash (cc (closing_only 40 c, closing_remark_only 40 (g d o h).1 q))
    fails (inr (inr (p, q, (d, h)))) = clash (cc (closing_only 40 c, closing_over_only 40 (g d [] h).1))

    go : (x : Sought) → closing (40 ∷ ys) ≡ x → (v : List ℕ) × Closes ys v
    go (at vs) e = let (v, p, h) = closing_is 40 ys vs e in (v, h)
    go (fault n o) e = fails (closing_open 40 ys n o e)

-- "the next `(` byte before the arguments' end", outside strings and comments: its `)` stands in the arguments, whose own is the 41
-- here, and what follows it is balanced again
pub part_closes : (k r z : List ℕ) → Free 40 k → OutsideBoth (k ++ (40 ∷ r)) (40 ∷ r) → Closes ((k ++ (40 ∷ r)) ++ (41 ∷ z)) z
    → (t : List ℕ) × Closes r t × Closes (t ++ (41 ∷ z)) z
part_closes k r z f s c = go (before_first (41 ∷ z) s (free_first k r f))
  where
    go : UpTo ((k ++ (40 ∷ r)) ++ (41 ∷ z)) (r ++ (41 ∷ z)) → (t : List ℕ) × Closes r t × Closes (t ++ (41 ∷ z)) z
    go (inl b) =
        let (v, h) = closes_within (r ++ (41 ∷ z)) c (λ d o g. (_, Deep.nested b g)) in
        let (w, m) = closes_within v c (λ d o g. (d, deep_before (λ ws n. balanced_join b (Balanced.group h n)) g)) in
        let e : w ≡ z = closing_one (balanced_join b (Balanced.group h m)) c in
        let (t, p, l) = closing_local 40 v z (closing_only 40 (rw e at m)) in
        (t, closes_own r t (41 ∷ z) (closing_only 40 h ∙ ap (λ (y : List ℕ). at (41 ∷ y)) p), rw (e, p) at m)
    go (inr (v, b, g)) = absurd (omega (arith, ap length (closing_one b c), length-append r (41 ∷ z)))

-- the paper's words alone: each part's `(` lies outside strings and comments, wherever its `)` may be
pub data OutsideParts : List ℕ → Type 0 where
  none : {a : List ℕ} → Free 40 a → OutsideParts a
  part : {a : List ℕ} (k : List ℕ) {r : List ℕ} → a ≡ k ++ (40 ∷ r) → Free 40 k → OutsideBoth a (40 ∷ r)
      → ((t : List ℕ) → Closes r t → OutsideParts t) → OutsideParts a

-- where the arguments close, parts whose `(` lie outside strings and comments are closed parts
pub parts_closed_lem : {a : List ℕ} → OutsideParts a → (z : List ℕ) → Closes (a ++ (41 ∷ z)) z → ClosedParts a
parts_closed_lem (OutsideParts.none h) z c = ClosedParts.none h
parts_closed_lem (OutsideParts.part k {r} e f o g) z c =
    let (t, h, m) = part_closes k r z f (rw e at o) (rw e at c) in
    ClosedParts.part k e f o h (parts_closed_lem (g t h) z m)

-- closed parts have their `(` outside strings and comments
pub parts_outside : {a : List ℕ} → ClosedParts a → OutsideParts a
parts_outside (ClosedParts.none h) = OutsideParts.none h
parts_outside (ClosedParts.part k {r} {t} e f o h p) =
    OutsideParts.part k e f o (λ u c. rw (closing_one h c) at (parts_outside p))

-- the first `(` byte of a list stands at one place
pub part_first : (k r l s : List ℕ) → Free 40 k → Free 40 l → k ++ (40 ∷ r) ≡ l ++ (40 ∷ s) → (k ≡ l) × (r ≡ s)
part_first [] r [] s h i e = (refl, cc)
part_first [] r (d ∷ l) s h (i, j) e = clash (cc)
part_first (c ∷ k) r [] s (h, t) i e = clash (cc)
part_first (c ∷ k) r (d ∷ l) s (h, t) (i, j) e = let (p, q) = part_first k r l s t j (cc) in (cc, q)

-- what closed parts say of the first part: its `(` lies outside strings and comments, and closed parts follow its `)`
pub closed_part : {a : List ℕ} → ClosedParts a → (k r : List ℕ) → a ≡ k ++ (40 ∷ r) → Free 40 k
    → OutsideBoth a (40 ∷ r) × ((t : List ℕ) → Closes r t → ClosedParts t)
closed_part (ClosedParts.none h) k r e f = let n : Free 40 (40 ∷ r) = all_back _ k (40 ∷ r) (rw e at h) in clash (cc n.0)
closed_part (ClosedParts.part l {r = s} g i o h p) k r e f =
    let (q, u) = part_first l s k r i f (sym g ∙ e) in
    (rw u at o, λ t c. rw (closing_one (rw u at h) c) at p)
