-- Laws for the code that seeks the next part: each way out, and that a part ends after the place it is sought from.
-- Assumes nothing.
use Prim.Native.Nat.{ℕ, zero, suc, ◌+◌, ◌-◌, ◌≤◌, ◌<◌}
use Rattle.std.specs.Prelude.{◌≡◌, Bool, true, false, List, ◌∷◌, ◌++◌, ltb, take, drop, get_or, Option as Answer, Some, None, Result, Ok, Err}
use Rattle.std.proofs.Math.Path.{refl}
use Rattle.std.proofs.Common.{sym, ◌∙◌, ap, subst, arith, length-append, length-drop, length-take, take_all, drop-cons, lt-ltb, le-ltb}
use Rattle.std.proofs.Math.Option.{Option, none, some}
use Rattle.std.proofs.Math.ListN.{length}
use Rattle.common.specs.Pick.{pick}
use Rattle.error.specs.Refusal.{Refusal, refusal, Told, good, bad}
use Rattle.lex.specs.Byte.{place}
use Rattle.lex.specs.Place.{place_drop}
use Rattle.common.specs.Walk.{walk}
use Rattle.lex.specs.Search.{closing}
use Rattle.lex.specs.Answer.{Sought, at, fault, placed}
use Rattle.lex.specs.Local.{closing_local}
use Rattle.lex.specs.Right.{closing_is}
use Rattle.record.specs.Text.{past, keyword}
use Rattle.record.specs.Head.{header_head}
use Rattle.record.specs.Form.{HeaderForm}
use Rattle.record.specs.FormRight.{headerform_is, past_is}
use Rattle.record.specs.declared.Named.{Named}
use Rattle.error.specs.declared.Reason.{Reason}
use Rattle.statement.specs.Rows.{HeaderRow, header_row, mapped, header_row_of}
use Rattle.statement.specs.Row.{argued}
use Rattle.statement.specs.declared.HeaderSpan.{HeaderSpan}
use Rattle.kinds.specs.declared.Kind.{Kind}
use Rattle.parts.specs.Part.{part_by, part_in, next_part_of, PartIn, parts_by, parts_from, parts_of, first_kind, first_of}
use Rattle.parts.specs.Rules.{separator, part_before, part_is_kind, told_next}

-- "9 span outside the file": where the arguments' end is outside, that is the answer for the next part
pub next_outside : (s : List ℕ) (from end : ℕ) → length s < end → bad (refusal 9 0 0) ≡ next_part_of s from end
unfolding next_part_of
next_outside s from end h = sym (rw (lt-ltb (length s) end h) refl)

-- where the place is at the arguments' end or past it, there is no next part
pub next_done : (s : List ℕ) (from end : ℕ) → end ≤ length s → end ≤ from → good none ≡ next_part_of s from end
unfolding next_part_of past walk header_head keyword
next_done s from end h l =
    let e : end - from ≡ 0 = omega arith in
    sym (rw (le-ltb (length s) end h, e) refl)

-- the head of what follows the separators, as the code has its text
pub next_by_lem : (s : List ℕ) (from end a : ℕ) → end ≤ length s → drop a (take (end - from) (drop from s)) ≡ past separator (take (end - from) (drop from s)) → a ≤ length (take (end - from) (drop from s))
    → next_part_of s from end ≡ part_by s (from + a) (header_head (take (length (take (end - from) (drop from s)) - a) (drop a (take (end - from) (drop from s)))))
unfolding next_part_of
next_by_lem s from end a h e l =
    let m : List ℕ = take (end - from) (drop from s) in
    let t : take (length m - a) (drop a m) ≡ drop a m = take_all (length m - a) (drop a m) (simp length-drop (omega arith)) in
    let p : place m (past separator m) ≡ a = ap (place m) (sym e) ∙ place_drop m a l in
    rw (le-ltb (length s) end h) (ap (λ (z : ℕ). part_by s (from + z) (header_head (past separator m))) p ∙ ap (λ (z : List ℕ). part_by s (from + a) (header_head z)) (sym (t ∙ e)))

-- a keyword ends before its `(`, which stands in the text
pub head_inside : {b : List ℕ} {n : Named} → HeaderForm b (Ok n) → (n.start ≤ n.end) × (n.end ≤ n.opening) × (n.opening < length b)
head_inside (HeaderForm.named {a} {v} {k} {w} {r} s f) =
    let p : length (a ++ k) ≡ length a + length k = length-append a k in
    let q : length (a ++ (k ++ w)) ≡ length a + (length k + length w) = length-append a (k ++ w) ∙ ap (λ (n : ℕ). length a + n) (length-append k w) in
    let l : length (a ++ v) ≡ length a + length v = length-append a v in
    let n : length v ≡ length k + (length w + length (40 ∷ r)) = ap (λ (x : List ℕ). length x) f.shape ∙ length-append k (w ++ (40 ∷ r)) ∙ ap (λ (x : ℕ). length k + x) (length-append w (40 ∷ r)) in
    (omega arith, omega arith, omega arith)

-- the head that is computed has a keyword that ends before its `(`, which stands in the text
pub head_places : (b : List ℕ) (n : Named) → header_head b ≡ Ok n → (n.start ≤ n.end) × (n.end ≤ n.opening) × (n.opening < length b)
head_places b n e = head_inside (subst (λ (h : Result Named Reason). HeaderForm b h) e (headerform_is b))

-- the place of a closing `)` lies behind its `(` and in the file
pub close_ahead : (s : List ℕ) (p q : ℕ) → p < length s → placed s (closing (drop p s)) ≡ good q → (p < q) × (q < length s)
close_ahead s p q h = go (closing (drop p s)) refl
  where
    cut : drop p s ≡ get_or s p 0 ∷ drop (suc p) s
    cut = drop-cons s p 0 h

    go : (x : Sought) → closing (drop p s) ≡ x → placed s x ≡ good q → (p < q) × (q < length s)
    go (fault n o) e f = let z : ◌≡◌ {A = ℕ} 0 1 = cc in absurd (omega arith)
    go (at ys) e f =
        let c : closing (get_or s p 0 ∷ drop (suc p) s) ≡ at ys = ap closing (sym cut) ∙ e in
        let (r, y, k) = closing_is (get_or s p 0) (drop (suc p) s) ys c in
        let (b, d, u) = closing_local (get_or s p 0) (drop (suc p) s) r (c ∙ ap at y) in
        let g : place s ys ≡ q = cc in
        let v : length ys ≡ suc (length r) = ap (λ (x : List ℕ). length x) y in
        let w : length s - suc p ≡ length b + suc (length r) = sym (length-drop (suc p) s) ∙ ap (λ (x : List ℕ). length x) d ∙ length-append b (41 ∷ r) in
        (omega arith, omega arith)

-- where a row is made by the search for a `)`, that search answered a place, and the row is made from it
argued_end : (s o : List ℕ) (f : ℕ → Option HeaderRow) (x : Option HeaderRow) → argued s o f ≡ good x → (q : ℕ) × (placed s (closing o) ≡ good q) × (f q ≡ x)
argued_end s o f x = go (placed s (closing o)) refl
  where
    go : (t : Told ℕ) → placed s (closing o) ≡ t → mapped f t ≡ good x → (q : ℕ) × (placed s (closing o) ≡ good q) × (f q ≡ x)
    go (good q) e h = (q, e, cc)
    go (bad r) e h = let z : ◌≡◌ {A = ℕ} 0 1 = cc in absurd (omega arith)

-- what is left past separators is no longer than the list
past_shorter : (m : List ℕ) → length (past separator m) ≤ length m
past_shorter m = let (f, e, k) = past_is separator m in let l : length m ≡ length f + length (past separator m) = ap (λ (x : List ℕ). length x) e ∙ length-append f (past separator m) in omega arith

-- the bytes from a place up to the end lie in the file
window_fits : (s : List ℕ) (from end : ℕ) → length (take (end - from) (drop from s)) ≤ length s - from
window_fits s from end = simp (length-take, length-drop) (omega arith)

-- the next part lies in the file, and not before the place where it is sought
pub next_in : (s : List ℕ) (from end : ℕ) (p : HeaderRow) → next_part_of s from end ≡ good (some p) → PartIn (length s) from p
unfolding next_part_of
next_in s from end p = go (ltb (length s) end)
  where
    m : List ℕ
    m = take (end - from) (drop from s)

    v : List ℕ
    v = past separator m

    fits : length m ≤ length s - from
    fits = window_fits s from end

    by_head : (h : Result Named Reason) → header_head v ≡ h → part_by s (from + place m v) h ≡ good (some p) → PartIn (length s) from p
    by_head (Err why) e f = let z : ◌≡◌ {A = ℕ} 0 1 = cc in absurd (omega arith)
    by_head (Ok h) e f =
        let a : ℕ = h.start in
        let z : ℕ = h.end in
        let o : ℕ = h.opening in
        let (u, w, y) = head_places v h e in
        let l : length v ≤ length m = past_shorter m in
        let (q, c, d) = argued_end s (drop (from + place m v + o) s) (λ q. some (header_row (from + place m v + a) (from + place m v + z) (from + place m v + o + 1) q)) (some p) f in
        let (g, k) = close_ahead s (from + place m v + o) q (omega (arith, fits)) c in
        let r : header_row (from + place m v + a) (from + place m v + z) (from + place m v + o + 1) q ≡ p = cc in
        subst (PartIn (length s) from) r (record { ahead = omega arith; key = omega arith; opens = omega arith; args = omega arith; closes = k })

    go : (t : Bool) → pick t (bad (refusal 9 0 0)) (part_in s from m) ≡ good (some p) → PartIn (length s) from p
    go true e = let z : ◌≡◌ {A = ℕ} 0 1 = cc in absurd (omega arith)
    go false e = by_head (header_head v) refl e

-- a part is told by the span that its keyword and its `)` give
pub mapped_some : {A : Type 0} (f : ℕ → A) (y : Told ℕ) → mapped some (mapped f y) ≡ mapped (λ q. some (f q)) y
mapped_some f (good q) = refl
mapped_some f (bad q) = refl

-- a part's keyword runs forwards and lies in the file, and its `)` stands behind the place where it is sought
pub next_ahead : (s : List ℕ) (from end : ℕ) (p : HeaderRow) → next_part_of s from end ≡ good (some p) → (p.key_start ≤ p.key_end) × (p.key_end ≤ length s) × (from ≤ p.arg_end) × (p.arg_end < length s)
next_ahead s from end p e =
    let h = next_in s from end p e in
    (h.key, omega (arith, h.opens, h.args, h.closes), omega (arith, h.ahead, h.key, h.opens, h.args), h.closes)

-- ---- all parts, read one by one, of which the first of a kind is kept

-- the part that an answer has found so far; none where there is none
abbrev pub found_of : Answer HeaderSpan → Option HeaderRow
found_of (Some p) = some (header_row_of p)
found_of None = none

-- the part that was found so far, or another where there is none
abbrev pub part_or_else : Option HeaderRow → Option HeaderRow → Option HeaderRow
part_or_else none b = b
part_or_else (some a) b = some a

-- where the reading stands at the place i: so many steps are enough, and what was found and what is left give the answer
pub record Sifting (s : List ℕ) (k : Kind) (start end i : ℕ) (got : Answer HeaderSpan) : Type 0 where
  pub steps : ℕ
  pub enough : length s < steps + i
  pub inside : i ≤ length s
  pub gives : mapped (λ ps. part_or_else (found_of got) (first_kind s k ps)) (parts_from steps s i end) ≡ mapped (first_kind s k) (parts_of s start end)

-- what was found so far, as the code's answer tells it
found_told : (got : Answer HeaderSpan) → told_next (Ok got) ≡ good (found_of got)
found_told (Some p) = refl
found_told None = refl

-- what is found with one part more: what was found before, or that part where it is of the kind, or what the rest gives
more_found : (got : Answer HeaderSpan) (p : HeaderSpan) (hit : Bool) (rest : Option HeaderRow) → part_or_else (found_of (first_of got p hit)) rest ≡ part_or_else (found_of got) (pick hit (some (header_row_of p)) rest)
more_found (Some q) p hit rest = refl
more_found None p true rest = refl
more_found None p false rest = refl

module _ (s : List ℕ) (k : Kind) (start end : ℕ) where
  -- where no part has been read, the reading stands at the start
  pub sift_starts : start ≤ length s → Sifting s k start end start None
  sift_starts h = record { steps = suc (length s); enough = omega arith; inside = h; gives = refl }

  module _ (i : ℕ) (got : Answer HeaderSpan) (f : Sifting s k start end i got) where
    -- the steps that are left after one, and that they give the answer
    later : (n : ℕ) × (suc n ≡ f.steps) × (mapped (λ ps. part_or_else (found_of got) (first_kind s k ps)) (parts_by (next_part_of s i end) (λ p. parts_from n s (p.arg_end + 1) end)) ≡ mapped (first_kind s k) (parts_of s start end))
    unfolding parts_from
    later = go f.steps f.enough f.gives
      where
        go : (n : ℕ) → length s < n + i → mapped (λ ps. part_or_else (found_of got) (first_kind s k ps)) (parts_from n s i end) ≡ mapped (first_kind s k) (parts_of s start end)
            → (m : ℕ) × (suc m ≡ n) × (mapped (λ ps. part_or_else (found_of got) (first_kind s k ps)) (parts_by (next_part_of s i end) (λ p. parts_from m s (p.arg_end + 1) end)) ≡ mapped (first_kind s k) (parts_of s start end))
        go zero l e = let w = f.inside in absurd (omega arith)
        go (suc m) l e = (m, refl, e)

    -- where no part is left, what was found is the answer
    pub sift_over : next_part_of s i end ≡ good none → told_next (Ok got) ≡ mapped (first_kind s k) (parts_of s start end)
    sift_over e = found_told got ∙ ap good (none_left (found_of got)) ∙ (rw e at later.2)
      where
        none_left : (o : Option HeaderRow) → o ≡ part_or_else o none
        none_left none = refl
        none_left (some p) = refl

    -- where a part is refused, so are all
    pub sift_refused : (q : Refusal) → next_part_of s i end ≡ bad q → bad q ≡ mapped (first_kind s k) (parts_of s start end)
    sift_refused q e = rw e at later.2

    -- after one part more the reading stands past its `)`
    pub sift_goes : (p : HeaderSpan) → next_part_of s i end ≡ good (some (header_row_of p)) → Sifting s k start end (p.args.end + 1) (first_of got p (part_is_kind s k (header_row_of p)))
    sift_goes p e =
        let (n, c, g) = later in
        let (a, b, d, h) = next_ahead s i end (header_row_of p) e in
        let w = f.enough in
        record {
          steps = n;
          enough = omega arith;
          inside = omega arith;
          gives = by (parts_from n s (p.args.end + 1) end) ∙ (rw e at g);
        }
      where
        by : (x : Told (List HeaderRow)) → mapped (λ ps. part_or_else (found_of (first_of got p (part_is_kind s k (header_row_of p)))) (first_kind s k ps)) x ≡ mapped (λ ps. part_or_else (found_of got) (first_kind s k ps)) (part_before (header_row_of p) x)
        by (good ps) = ap good (more_found got p (part_is_kind s k (header_row_of p)) (first_kind s k ps))
        by (bad q) = refl
