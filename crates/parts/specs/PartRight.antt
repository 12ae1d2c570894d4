-- Part.antt's rules and what it computes are one: the next part that is computed is so, and nothing else is; and so are all parts.
-- Assumes nothing.
use Rattle.std.specs.Prelude.{ℕ, zero, suc, ◌+◌, ◌-◌, ◌≤◌, ◌<◌, ◌≡◌, refl, Bool, true, false, ◌||◌, List, [], ◌∷◌, ◌++◌, ltb, eqb, length, take, drop, Result, Ok, Err}
use Rattle.std.proofs.Common.{sym, ◌∙◌, ap, subst, append_assoc, arith, length-append, length-take, length-drop, take-append-drop, take_at, drop_at, length-take-le, lt-ltb, le-ltb, ltb-true, ltb-false, eqb-true, eq-eqb, ne_eqb}
use Rattle.std.proofs.Math.Option.{Option, none, some}
use Rattle.std.proofs.Math.Decide.{dec_lt}
use Rattle.std.proofs.lemmas.Bool.{eqb-false}
use Rattle.common.specs.Pick.{pick}
use Rattle.common.specs.Compare.{clash}
use Rattle.error.specs.Refusal.{refusal, Told, good, bad}
use Rattle.lex.specs.Byte.{white, place}
use Rattle.lex.specs.Search.{closing}
use Rattle.lex.specs.Answer.{placed}
use Rattle.record.specs.Text.{past, Keyed, opened, unopened, keyword}
use Rattle.record.specs.Head.{header_head}
use Rattle.record.specs.Form.{SkippedBytes, NotFirst, Keyword, HeaderForm}
use Rattle.record.specs.FormRight.{past_only, past_is, keyword_is, keyword_none, headerform_only}
use Rattle.record.specs.FormRight.Parts.{sole}
use Rattle.record.specs.declared.Named.{Named}
use Rattle.error.specs.declared.Reason.{Reason}
use Rattle.error.specs.declared.Reason.TheVariants.{NoHeaderParen}
use Rattle.statement.specs.Rows.{HeaderRow, header_row, mapped}
use Rattle.statement.specs.Row.{argued}
use Rattle.statement.specs.Form.{Argued}
use Rattle.statement.specs.FormRight.{argued_only, argued_is}
use Rattle.kinds.specs.declared.Kind.{Kind}
use Rattle.parts.specs.Part.{part_by, next_part_of, parts_by, parts_from, parts_of, first_kind, part_of}
use Rattle.parts.specs.Rules.{separator, BytesBetween, NextPartForm, part_before, PartsForm, part_is_kind, NoPart, FirstPart, ComplexPart}
use Rattle.parts.specs.Laws.{next_outside, next_done, next_ahead}

-- what does not begin with a separator does not begin with whitespace
not_white : (v : List ℕ) → NotFirst separator v → NotFirst white v
not_white v h c r e = go (white c) refl (h c r e)
  where
    go : (t : Bool) → white c ≡ t → (t || eqb c 44) ≡ false → white c ≡ false
    go true p q = clash (cc)
    go false p q = p

-- the bytes of a window are those that the code cuts out
window_cut : {s : List ℕ} {from end : ℕ} {m : List ℕ} (w : BytesBetween s from end m) → take (end - from) (drop from s) ≡ m
window_cut {s} {from} {end} {m} w =
    let d : drop from s ≡ m ++ w.back = ap (drop from) w.shape ∙ drop_at w.front (m ++ w.back) from w.starts in
    let n : length m ≡ end - from = let a = w.starts in let b = w.ends in omega arith in
    ap (take (end - from)) d ∙ take_at m w.back (end - from) n

-- a window ends in the file
window_ends : {s : List ℕ} {from end : ℕ} {m : List ℕ} (w : BytesBetween s from end m) → end ≤ length s
window_ends {s} {from} {end} {m} w =
    let l : length s ≡ length w.front + (length m + length w.back) = ap (λ (x : List ℕ). length x) w.shape ∙ length-append w.front (m ++ w.back) ∙ ap (λ (n : ℕ). length w.front + n) (length-append m w.back) in
    let b = w.ends in
    omega arith

-- the next part of a window is that of the head past its separators
window_next : {s : List ℕ} {from end : ℕ} {f v : List ℕ} (w : BytesBetween s from end (f ++ v)) → SkippedBytes separator f v → (h : Result Named Reason) → h ≡ header_head v → next_part_of s from end ≡ part_by s (from + length f) h
unfolding next_part_of
window_next {s} {from} {end} {f} {v} w k h e =
    let p : past separator (f ++ v) ≡ v = past_only separator f v k in
    let l : length (f ++ v) ≡ length f + length v = length-append f v in
    let q : place (f ++ v) v ≡ length f = omega arith in
    rw (le-ltb (length s) end (window_ends w), window_cut w)
    (ap (λ (x : List ℕ). part_by s (from + place (f ++ v) x) (header_head x)) p ∙ ap (λ (n : ℕ). part_by s (from + n) (header_head v)) q ∙ ap (part_by s (from + length f)) (sym e))

-- a keyword that follows separators has the head of its places
key_head : {f v k w r : List ℕ} → SkippedBytes separator f v → Keyword v k w r → Ok (record { start = 0; end = length k; opening = length (k ++ w) }) ≡ header_head v
key_head {f} {v} p g = headerform_only (HeaderForm.named {a = []} (record { all = tt; over = not_white v p.over }) g)

-- the file from a part's `(` on, by the window that it stands in
from_open : (s : List ℕ) (from end : ℕ) (f v k w r : List ℕ) (m : BytesBetween s from end (f ++ v)) → Keyword v k w r → drop (from + length f + length (k ++ w)) s ≡ 40 ∷ (r ++ m.back)
from_open s from end f v k w r m g =
    let x : List ℕ = m.front ++ (f ++ (k ++ w)) in
    let e : s ≡ x ++ (40 ∷ (r ++ m.back)) = m.shape ∙ ap (λ (z : List ℕ). m.front ++ ((f ++ z) ++ m.back)) g.shape ∙ simp append_assoc in
    let l : length x ≡ from + length f + length (k ++ w) = length-append m.front (f ++ (k ++ w)) ∙ ap (λ (n : ℕ). length m.front + n) (length-append f (k ++ w)) ∙ (let a = m.starts in omega arith) in
    ap (drop (from + length f + length (k ++ w))) e ∙ drop_at x (40 ∷ (r ++ m.back)) (from + length f + length (k ++ w)) l

-- the next part by the rules is the one that is computed
pub part_next_only : {s : List ℕ} {from end : ℕ} {a : Told (Option HeaderRow)} → NextPartForm s from end a → a ≡ next_part_of s from end
part_next_only {s} {from} {end} (NextPartForm.outside h) = next_outside s from end h
part_next_only {s} {from} {end} (NextPartForm.done h l) = next_done s from end h l
part_next_only (NextPartForm.over {f} {v} w k g) = sym (window_next w k (Err NoHeaderParen) (headerform_only (HeaderForm.unopened v g)))
part_next_only {s} {from} {end} (NextPartForm.part {f} {v} {k} {w} {r} {e} m p g t) =
    sym (window_next m p (Ok (record { start = 0; end = length k; opening = length (k ++ w) })) (key_head p g)
    ∙ ap (λ (x : List ℕ). argued s x (λ q. some (header_row (from + length f + 0) (from + length f + length k) (from + length f + length (k ++ w) + 1) q))) (from_open s from end f v k w r m g)
    ∙ ap (mapped (λ q. some (header_row (from + length f + 0) (from + length f + length k) (from + length f + length (k ++ w) + 1) q))) (sym (argued_only t))
    ∙ ap (λ (n : ℕ). good (some (header_row n (from + length f + length k) (from + length f + length (k ++ w) + 1) e))) (omega arith))
part_next_only {s} {from} {end} (NextPartForm.refused {f} {v} {k} {w} {r} {q} m p g t) =
    sym (window_next m p (Ok (record { start = 0; end = length k; opening = length (k ++ w) })) (key_head p g)
    ∙ ap (λ (x : List ℕ). argued s x (λ q. some (header_row (from + length f + 0) (from + length f + length k) (from + length f + length (k ++ w) + 1) q))) (from_open s from end f v k w r m g)
    ∙ ap (mapped (λ q. some (header_row (from + length f + 0) (from + length f + length k) (from + length f + length (k ++ w) + 1) q))) (sym (argued_only t)))

-- the bytes between two places of the file are its window there
window_of : (s : List ℕ) (from end : ℕ) → from ≤ end → end ≤ length s → BytesBetween s from end (take (end - from) (drop from s))
window_of s from end h l =
    record {
      front = take from s;
      back = drop (end - from) (drop from s);
      shape = sym (ap (λ (x : List ℕ). take from s ++ x) (take-append-drop (end - from) (drop from s)) ∙ take-append-drop from s);
      starts = length-take-le from s (omega arith);
      ends = simp (length-take, length-drop) (omega arith);
    }

-- from every place on there is an answer for the next part by the rules
next_comes : (s : List ℕ) (from end : ℕ) → (a : Told (Option HeaderRow)) × NextPartForm s from end a
next_comes s from end = by_end (dec_lt (length s) end)
  where
    part_comes : {f v : List ℕ} (m : BytesBetween s from end (f ++ v)) → SkippedBytes separator f v → (x : Keyed) → keyword v ≡ x → (a : Told (Option HeaderRow)) × NextPartForm s from end a
    part_comes {f} {v} m p unopened e = (_, NextPartForm.over m p (keyword_none v e))
    part_comes {f} {v} m p (opened z o) e = let (k, w, r, d, b, g) = keyword_is v z o e in argue k w r g (placed s (closing (40 ∷ (r ++ m.back)))) (argued_is s (r ++ m.back))
      where
        argue : (k w r : List ℕ) → Keyword v k w r → (t : Told ℕ) → Argued s (r ++ m.back) t → (a : Told (Option HeaderRow)) × NextPartForm s from end a
        argue k w r g (good q) t = (_, NextPartForm.part m p g t)
        argue k w r g (bad q) t = (_, NextPartForm.refused m p g t)

    by_start : end ≤ length s → Dec (from < end) → (a : Told (Option HeaderRow)) × NextPartForm s from end a
    by_start l (yes h) =
        let (f, e, k) = past_is separator (take (end - from) (drop from s)) in
        part_comes (subst (λ (x : List ℕ). BytesBetween s from end x) e (window_of s from end (omega arith) l)) k (keyword (past separator (take (end - from) (drop from s)))) refl
    by_start l (no h) = (_, NextPartForm.done l (omega arith))

    by_end : Dec (length s < end) → (a : Told (Option HeaderRow)) × NextPartForm s from end a
    by_end (yes h) = (_, NextPartForm.outside h)
    by_end (no h) = by_start (omega arith) (dec_lt from end)

-- the next part that is computed is one by the rules
pub part_next_is : (s : List ℕ) (from end : ℕ) → NextPartForm s from end (next_part_of s from end)
part_next_is s from end = sole (NextPartForm s from end) (λ a. part_next_only) (next_comes s from end)

-- all parts by the rules are those that are computed, where the steps are enough
parts_steps : {s : List ℕ} {from end : ℕ} {a : Told (List HeaderRow)} → PartsForm s end from a → (n : ℕ) → from ≤ length s → length s < n + from → a ≡ parts_from n s from end
unfolding parts_from
parts_steps {s} {from} {end} f zero h l = absurd (omega arith)
parts_steps (PartsForm.over g) (suc n) h l = rw (← part_next_only g)
parts_steps (PartsForm.fault g) (suc n) h l = rw (← part_next_only g)
parts_steps {s} {from} {end} (PartsForm.more {p = p} g f) (suc n) h l =
    let (a, b, c, d) = next_ahead s from end p (sym (part_next_only g)) in
    rw (← part_next_only g) (ap (part_before p) (parts_steps {from = p.arg_end + 1} f n (omega arith) (omega arith)))

-- all parts by the rules, from a place in the file on, are those that are computed
pub parts_only : {s : List ℕ} {from end : ℕ} {a : Told (List HeaderRow)} → PartsForm s end from a → from ≤ length s → a ≡ parts_of s from end
parts_only {s} {from} f h = parts_steps f (suc (length s)) h (omega arith)

-- the parts that are computed, where the steps are enough, are those by the rules
parts_come : (n : ℕ) (s : List ℕ) (from end : ℕ) → from ≤ length s → length s < n + from → PartsForm s end from (parts_from n s from end)
unfolding parts_from
parts_come zero s from end h l = absurd (omega arith)
parts_come (suc n) s from end h l = go (next_part_of s from end) refl (part_next_is s from end) (λ p a b. parts_come n s (p.arg_end + 1) end a b)
  where
    go : (t : Told (Option HeaderRow)) → next_part_of s from end ≡ t → NextPartForm s from end t → ((p : HeaderRow) → p.arg_end + 1 ≤ length s → length s < n + (p.arg_end + 1) → PartsForm s end (p.arg_end + 1) (parts_from n s (p.arg_end + 1) end))
        → PartsForm s end from (parts_by t (λ p. parts_from n s (p.arg_end + 1) end))
    go (bad q) e f k = PartsForm.fault f
    go (good none) e f k = PartsForm.over f
    go (good (some p)) e f k = let (a, b, c, d) = next_ahead s from end p e in PartsForm.more f (k p (omega arith) (omega arith))

-- all parts that are computed are those by the rules
pub parts_are : (s : List ℕ) (from end : ℕ) → from ≤ length s → PartsForm s end from (parts_of s from end)
parts_are s from end h = parts_come (suc (length s)) s from end h (omega arith)

-- ---- the first part of a kind
module _ (s : List ℕ) (k : Kind) where
  -- among no parts, none is of the kind
  no_nil : NoPart s k []
  no_nil [] back p e = clash cc
  no_nil (v ∷ front) back p e = clash cc

  -- where no part is of the kind, none is with one more in front that is not
  no_more : (v : HeaderRow) (ps : List HeaderRow) → part_is_kind s k v ≡ false → NoPart s k ps → NoPart s k (v ∷ ps)
  no_more v ps d h [] back p e = let q : v ≡ p = cc in subst (λ (x : HeaderRow). part_is_kind s k x ≡ false) q d
  no_more v ps d h (u ∷ front) back p e = h front back p cc

  -- where no part is of the kind, none of those after the first is
  no_less : (v : HeaderRow) (ps : List HeaderRow) → NoPart s k (v ∷ ps) → NoPart s k ps
  no_less v ps h front back p e = h (v ∷ front) back p (ap (λ (x : List HeaderRow). v ∷ x) e)

  -- the first part of a kind is so too with a part in front that is not of the kind
  first_more : (v : HeaderRow) (ps : List HeaderRow) (o : Option HeaderRow) → part_is_kind s k v ≡ false → FirstPart s k ps o → FirstPart s k (v ∷ ps) o
  first_more v ps none d h = no_more v ps d h
  first_more v ps (some p) d h = record { front = v ∷ h.front; back = h.back; cut = ap (λ (x : List HeaderRow). v ∷ x) h.cut; kind = h.kind; before = no_more v h.front d h.before }

  -- the first part of a kind that is computed is that by the rules
  pub first_part_is : (ps : List HeaderRow) → FirstPart s k ps (first_kind s k ps)
  first_part_is [] = no_nil
  first_part_is (v ∷ ps) = go (part_is_kind s k v) refl (first_part_is ps)
    where
      go : (t : Bool) → part_is_kind s k v ≡ t → FirstPart s k ps (first_kind s k ps) → FirstPart s k (v ∷ ps) (pick t (some v) (first_kind s k ps))
      go true e h = record { front = []; back = ps; cut = refl; kind = e; before = no_nil }
      go false e h = first_more v ps (first_kind s k ps) e h

  -- the first part of a kind by the rules is the one that is computed
  pub first_part_only : (ps : List HeaderRow) (o : Option HeaderRow) → FirstPart s k ps o → o ≡ first_kind s k ps
  first_part_only [] none h = refl
  first_part_only [] (some p) h = let z : false ≡ true = sym (no_nil h.front h.back p h.cut) ∙ h.kind in clash cc
  first_part_only (v ∷ ps) none h = rw (h [] ps v refl) (first_part_only ps none (no_less v ps h))
  first_part_only (v ∷ ps) (some p) h = go h.front h.cut h.before (λ o. first_part_only ps o)
    where
      go : (front : List HeaderRow) → v ∷ ps ≡ front ++ (p ∷ h.back) → NoPart s k front → ((o : Option HeaderRow) → FirstPart s k ps o → o ≡ first_kind s k ps)
          → some p ≡ pick (part_is_kind s k v) (some v) (first_kind s k ps)
      go [] e n ih = let q : v ≡ p = cc in rw (q, h.kind) refl
      go (u ∷ front) e n ih =
          let q : u ≡ v = cc in
          let r : ps ≡ front ++ (p ∷ h.back) = cc in
          let d : part_is_kind s k v ≡ false = subst (λ (x : HeaderRow). part_is_kind s k x ≡ false) q (n [] front u refl) in
          rw d (ih (some p) (record { front = front; back = h.back; cut = r; kind = h.kind; before = no_less u front n }))

-- what is computed for `complex_part` is an answer by the rules
pub complex_is : (s : List ℕ) (from end c : ℕ) (k : Kind) → ComplexPart s from end c k (part_of s from end c k)
complex_is s from end c k = by_mark (eqb c 1) refl
  where
    by_parts : c ≡ 1 → from ≤ end → end ≤ length s → (x : Told (List HeaderRow)) → PartsForm s end from x → ComplexPart s from end c k (mapped (first_kind s k) x)
    by_parts m a b (bad q) f = ComplexPart.fault m a b f
    by_parts m a b (good ps) f = ComplexPart.read m a b f (first_part_is s k ps)

    by_start : c ≡ 1 → end ≤ length s → (t : Bool) → ltb end from ≡ t → ComplexPart s from end c k (pick t (bad (refusal 9 0 0)) (mapped (first_kind s k) (parts_of s from end)))
    by_start m b true e = ComplexPart.backwards m (ltb-true end from e)
    by_start m b false e = let a = ltb-false end from e in by_parts m a b (parts_of s from end) (parts_are s from end (omega arith))

    by_end : c ≡ 1 → (t : Bool) → ltb (length s) end ≡ t → ComplexPart s from end c k (pick t (bad (refusal 9 0 0)) (pick (ltb end from) (bad (refusal 9 0 0)) (mapped (first_kind s k) (parts_of s from end))))
    by_end m true e = ComplexPart.outside m (ltb-true (length s) end e)
    by_end m false e = by_start m (ltb-false (length s) end e) (ltb end from) refl

    by_mark : (t : Bool) → eqb c 1 ≡ t → ComplexPart s from end c k (pick t (pick (ltb (length s) end) (bad (refusal 9 0 0)) (pick (ltb end from) (bad (refusal 9 0 0)) (mapped (first_kind s k) (parts_of s from end)))) (good none))
    by_mark true e = by_end (eqb-true c 1 e) (ltb (length s) end) refl
    by_mark false e = ComplexPart.simple (eqb-false c 1 e)

-- the answer for `complex_part` by the rules is the one that is computed
pub complex_only : {s : List ℕ} {from end c : ℕ} {k : Kind} {a : Told (Option HeaderRow)} → ComplexPart s from end c k a → a ≡ part_of s from end c k
complex_only {s} {from} {end} {c} {k} (ComplexPart.simple n) = rw (ne_eqb c 1 n) refl
complex_only {s} {from} {end} {c} {k} (ComplexPart.outside m l) = rw (eq-eqb c 1 m, lt-ltb (length s) end l) refl
complex_only {s} {from} {end} {c} {k} (ComplexPart.backwards m l) = rw (eq-eqb c 1 m, lt-ltb end from l) (go (ltb (length s) end))
  where
    go : (t : Bool) → ◌≡◌ {A = Told (Option HeaderRow)} (bad (refusal 9 0 0)) (pick t (bad (refusal 9 0 0)) (bad (refusal 9 0 0)))
    go true = refl
    go false = refl
complex_only {s} {from} {end} {c} {k} (ComplexPart.fault {q} m a b f) =
    rw (eq-eqb c 1 m, le-ltb (length s) end b, le-ltb end from a) (ap (mapped (first_kind s k)) (parts_only f (omega arith)))
complex_only {s} {from} {end} {c} {k} (ComplexPart.read {ps} {o} m a b f g) =
    rw (eq-eqb c 1 m, le-ltb (length s) end b, le-ltb end from a) (ap good (first_part_only s k ps o g) ∙ ap (mapped (first_kind s k)) (parts_only f (omega arith)))
