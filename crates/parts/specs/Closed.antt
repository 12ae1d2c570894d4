-- Document 01, 'Reading the file': "A file is closed when [..] each complex record's parts have their `(` outside both." A closed
-- record's parts have no fault, and what they are depends on its arguments' bytes alone: q precedes them in the file, y follows.
-- Assumes nothing.
use Rattle.std.specs.Prelude.{ℕ, ◌+◌, ◌≤◌, ◌≡◌, refl, List, [], ◌∷◌, ◌++◌, map, length}
use Rattle.std.proofs.Common.{sym, ◌∙◌, ap, subst, append_assoc, arith, length-append}
use Rattle.std.proofs.Math.Option.{some}
use Rattle.error.specs.Refusal.{good}
use Rattle.lex.specs.Byte.{place}
use Rattle.lex.specs.Grammar.{Closes}
use Rattle.lex.specs.Local.{closing_local}
use Rattle.lex.specs.Right.{closing_only, closing_is}
use Rattle.lex.specs.Inside.{closes_any}
use Rattle.record.specs.Form.{Free, NotFirst, SkippedBytes, Keyword}
use Rattle.record.specs.FormRight.Parts.{first_other, all_front, all_back, split_is, SplitAfter, tail_split, Tailed}
use Rattle.statement.specs.Rows.{HeaderRow, header_row}
use Rattle.statement.specs.Closed.{ClosedParts}
use Rattle.statement.specs.Form.{ArguedTo}
use Rattle.parts.specs.Rules.{separator, BytesBetween, NextPartForm, PartsForm}
use Rattle.parts.specs.Part.{parts_of}
use Rattle.parts.specs.PartRight.{parts_only}

-- "keyword start and end [..], argument start and end": a part whose places count from the place n of the file
abbrev pub shift_row : ℕ → HeaderRow → HeaderRow
shift_row n p = header_row (n + p.key_start) (n + p.key_end) (n + p.arg_start) (n + p.arg_end)

-- a part that lies in arguments of n bytes; no "span [..] backwards"
abbrev pub PartWithin : ℕ → HeaderRow → Type 0
PartWithin n p = (p.key_start ≤ p.key_end) × (p.key_end ≤ n) × (p.arg_start ≤ p.arg_end) × (p.arg_end ≤ n)

-- parts that all lie in arguments of n bytes
abbrev pub PartsWithin : ℕ → List HeaderRow → Type 0
PartsWithin n [] = Unit {0}
PartsWithin n (p ∷ ps) = PartWithin n p × PartsWithin n ps

-- the parts of the arguments a, which are these rows wherever a stands
abbrev Reads : List ℕ → List HeaderRow → Type 0
Reads a rel = (q y : List ℕ) → PartsForm (q ++ (a ++ y)) (length q + length a) (length q) (good (map (shift_row (length q)) rel))

-- ---- places
-- the row of a part that counts from a place n, which counts from m, counts from m + n
shift_row_lem : (m n : ℕ) (p : HeaderRow) → shift_row m (shift_row n p) ≡ shift_row (m + n) p
shift_row_lem m n p =
    let a : m + (n + p.key_start) ≡ m + n + p.key_start = omega arith in
    let b : m + (n + p.key_end) ≡ m + n + p.key_end = omega arith in
    let c : m + (n + p.arg_start) ≡ m + n + p.arg_start = omega arith in
    let d : m + (n + p.arg_end) ≡ m + n + p.arg_end = omega arith in
    rw (a, b, c, d)

-- the rows of parts that count from a place n, which counts from m, count from m + n
shift_rows : (m n : ℕ) (ps : List HeaderRow) → map (shift_row m) (map (shift_row n) ps) ≡ map (shift_row (m + n)) ps
shift_rows m n [] = refl
shift_rows m n (p ∷ ps) = rw (shift_row_lem m n p, shift_rows m n ps)

-- parts that lie in what follows n bytes lie in all the bytes
rows_after_lem : (n m : ℕ) (ps : List HeaderRow) → PartsWithin m ps → PartsWithin (n + m) (map (shift_row n) ps)
rows_after_lem n m [] h = tt
rows_after_lem n m (p ∷ ps) ((a, b, c, d), t) = ((omega arith, omega arith, omega arith, omega arith), rows_after_lem n m ps t)

-- what is told of all parts holds of equal files, places and rows
parts_at : {s z : List ℕ} {d e m n : ℕ} {ps rs : List HeaderRow}
    → s ≡ z → d ≡ e → m ≡ n → ps ≡ rs → PartsForm s d m (good ps) → PartsForm z e n (good rs)
parts_at a b c d f = rw (a, b, c, d) at f

-- the arguments a in the file, taken apart
abbrev window_at : (q a y f v : List ℕ) → a ≡ f ++ v → BytesBetween (q ++ (a ++ y)) (length q) (length q + length a) (f ++ v)
window_at q a y f v e = record {
  front = q;
  back = y;
  shape = ap (λ (x : List ℕ). q ++ (x ++ y)) e;
  starts = refl;
  ends = ap (λ (x : List ℕ). length q + length x) (sym e);
}

-- ---- no part
parts_none : (a : List ℕ) → Free 40 a → Reads a []
parts_none a h q y = go (split_is separator a)
  where
    go : SplitAfter separator a → PartsForm (q ++ (a ++ y)) (length q + length a) (length q) (good [])
    go (f, v, e, s) = PartsForm.over (NextPartForm.over (window_at q a y f v e) s (all_back _ f v (rw e at h)))

-- ---- a part
-- the first part of the arguments a: separators, the keyword, whitespace, its `(`, its own arguments and its `)`, which t follows
record Headed (a t : List ℕ) : Type 0 where
  front : List ℕ
  word : List ℕ
  blank : List ℕ
  rest : List ℕ
  args : List ℕ
  shape : a ≡ front ++ (word ++ (blank ++ (40 ∷ rest)))
  skipped : SkippedBytes separator front (word ++ (blank ++ (40 ∷ rest)))
  keyed : Keyword (word ++ (blank ++ (40 ∷ rest))) word blank rest
  split : rest ≡ args ++ (41 ∷ t)
  closes : Closes rest t

-- bytes that begin with no separator begin with none when a `(` follows them
first_open : (x r : List ℕ) → NotFirst separator x → NotFirst separator (x ++ (40 ∷ r))
first_open [] r h = first_other separator 40 r refl
first_open (c ∷ x) r h = first_other separator c (x ++ (40 ∷ r)) (h c x refl)

-- a closed part is the first part of the arguments
headed : (a k r t : List ℕ) → a ≡ k ++ (40 ∷ r) → Free 40 k → Closes r t → Headed a t
headed a k r t g h c = go (split_is separator k)
  where
    taken : (f x : List ℕ) → k ≡ f ++ x → SkippedBytes separator f x → Tailed x → Headed a t
    taken f x e s (n, w, d, b, l) =
        let o : NotFirst separator ((n ++ w) ++ (40 ∷ r)) = first_open (n ++ w) r (rw d at s.over) in
        let i : Free 40 (f ++ (n ++ w)) = rw (e, d) at h in
        let (u, j, m) = closing_local 40 r t (closing_only 40 c) in
        record {
          front = f;
          word = n;
          blank = w;
          rest = r;
          args = u;
          shape = g ∙ rw (e, d) (simp append_assoc);
          skipped = record { all = s.all; over = rw (append_assoc n w (40 ∷ r)) at o };
          keyed = record { shape = refl; first = all_front _ n w (all_back _ f (n ++ w) i); blank = b; ended = l };
          split = j;
          closes = c;
        }

    go : SplitAfter separator k → Headed a t
    go (f, x, e, s) = taken f x e s (tail_split x)

-- a `(` that closes closes whatever follows
closes_more : {r t : List ℕ} → Closes r t → (y : List ℕ) → Closes (r ++ y) (t ++ y)
closes_more {r} {t} h y =
    let (z, e, k) = closing_is 40 (r ++ y) (41 ∷ (t ++ y)) (closes_any h y) in
    let f : z ≡ t ++ y = cc in
    rw f at k

module _ {a t : List ℕ} (d : Headed a t) where
  -- the place of the part's `(`, counted from the arguments' first byte
  abbrev opening : ℕ
  opening = length d.front + length (d.word ++ d.blank)

  -- the part's row, its places counted from the arguments' first byte
  abbrev row_of : HeaderRow
  row_of = header_row (length d.front) (length d.front + length d.word) (opening + 1) (opening + 1 + length d.args)

  -- the arguments' bytes up to the part's `)`, that one too
  abbrev up_to : List ℕ
  up_to = d.front ++ (d.word ++ (d.blank ++ (40 ∷ (d.args ++ (41 ∷ [])))))

  -- the arguments are the bytes up to the part's `)` and what follows them
  part_shape : a ≡ up_to ++ t
  part_shape = d.shape ∙ rw d.split (simp append_assoc)

  -- how many bytes of the arguments stand up to the part's `)`, that one too
  up_to_length : length up_to ≡ opening + 1 + length d.args + 1
  up_to_length = simp length-append (omega arith)

  -- how many bytes the arguments have, by the part's places
  part_length : length a ≡ opening + 1 + length d.args + 1 + length t
  part_length = omega (arith, ap length part_shape, length-append up_to t, up_to_length)

  -- the part lies in the arguments
  row_in_lem : PartWithin (length a) row_of
  row_in_lem =
      let n = part_length in
      let l : length (d.word ++ d.blank) ≡ length d.word + length d.blank = length-append d.word d.blank in
      (omega arith, omega arith, omega arith, omega arith)

  -- "its `)` ends the part": the next part, wherever the arguments stand
  part_next : (q y : List ℕ) → NextPartForm (q ++ (a ++ y)) (length q) (length q + length a) (good (some (shift_row (length q) row_of)))
  part_next q y =
      subst (λ (p : HeaderRow). NextPartForm (q ++ (a ++ y)) (length q) (length q + length a) (good (some p))) rows
      (NextPartForm.part (window_at q a y d.front _ d.shape) d.skipped d.keyed (ArguedTo.closed refl (closes_more d.closes y)))
    where
      ends : place (q ++ (a ++ y)) (41 ∷ (t ++ y)) ≡ length q + (opening + 1 + length d.args)
      ends = omega (arith, length-append q (a ++ y), length-append a y, length-append t y, part_length)

      rows : header_row (length q + length d.front) (length q + length d.front + length d.word) (length q + length d.front + length (d.word ++ d.blank) + 1) (place (q ++ (a ++ y)) (41 ∷ (t ++ y)))
          ≡ shift_row (length q) row_of
      rows =
          let i : length q + length d.front + length d.word ≡ length q + (length d.front + length d.word) = omega arith in
          let j : length q + length d.front + length (d.word ++ d.blank) + 1 ≡ length q + (opening + 1) = omega arith in
          rw (i, j, ends)

  -- "repeat": the parts after the first one, wherever the arguments stand
  part_rest : (rel : List HeaderRow) → Reads t rel → (q y : List ℕ)
      → PartsForm (q ++ (a ++ y)) (length q + length a) (length q + (opening + 1 + length d.args) + 1) (good (map (shift_row (length q)) (map (shift_row (length up_to)) rel)))
  part_rest rel n q y =
      let l : length (q ++ up_to) ≡ length q + length up_to = length-append q up_to in
      let b : (q ++ up_to) ++ (t ++ y) ≡ q ++ (a ++ y) = rw part_shape (simp append_assoc) in
      let c : map (shift_row (length (q ++ up_to))) rel ≡ map (shift_row (length q)) (map (shift_row (length up_to)) rel) =
      rw l (sym (shift_rows (length q) (length up_to) rel)) in
      parts_at b (omega (arith, part_length, up_to_length)) (omega (arith, up_to_length)) c (n (q ++ up_to) y)

-- closed parts have rows by the rules that lie in the arguments and are the same wherever these stand
parts_closed_lem : {a : List ℕ} → ClosedParts a → (rel : List HeaderRow) × PartsWithin (length a) rel × Reads a rel
parts_closed_lem {a} (ClosedParts.none h) = ([], tt, parts_none a h)
parts_closed_lem {a} (ClosedParts.part k {r} {t} e f o h p) =
    let d : Headed a t = headed a k r t e f h in
    let (rel, i, n) = parts_closed_lem p in
    let b : length (up_to d) + length t ≡ length a = omega (arith, part_length d, up_to_length d) in (
      row_of d ∷ map (shift_row (length (up_to d))) rel,
      (row_in_lem d, rw b at (rows_after_lem (length (up_to d)) (length t) rel i)),
      λ q y. PartsForm.more (part_next d q y) (part_rest d rel n q y),
    )

-- "each complex record's parts have their `(` outside both": then none of them has a fault, and what they are depends on the
-- arguments' bytes a alone, whatever precedes these in the file and whatever follows
pub parts_closed_good : {a : List ℕ} → ClosedParts a
    → (rel : List HeaderRow) × PartsWithin (length a) rel
    × ((q y : List ℕ) → parts_of (q ++ (a ++ y)) (length q) (length q + length a) ≡ good (map (shift_row (length q)) rel))
parts_closed_good {a} c =
    let (rel, i, n) = parts_closed_lem c in
    (rel, i, λ q y. sym (parts_only (n q y) (omega (arith, length-append q (a ++ y)))))
