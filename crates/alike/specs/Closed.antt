-- What the units see of a closed record depends on its text alone: "each id then yields a record with the same keyword and argument
-- bytes" (demand 3), and so do its parts, of which none has a fault. q precedes the record's text b in the file, y follows it.
-- Assumes nothing.
use Rattle.std.specs.Prelude.{ℕ, ◌+◌, ◌-◌, ◌≤◌, ◌≡◌, refl, true, List, [], ◌∷◌, ◌++◌, map, length, drop, Ok}
use Rattle.std.proofs.Common.{sym, ◌∙◌, ap, subst, append_assoc, append-nil, arith, le-leb, length-append, length-drop}
use Rattle.std.proofs.Math.Option.{Option, some}
use Rattle.std.proofs.Math.Seq.{drop-append-add, take-append_seam, drop-append_seam}
use Rattle.std.proofs.lemmas.List.{drop-append-le, take-append-le}
use Rattle.common.specs.Compare.{clash}
use Rattle.error.specs.Refusal.{Told, good, bad}
use Rattle.lex.specs.Grammar.{Closes}
use Rattle.lex.specs.Byte.{place}
use Rattle.lex.specs.Local.{closing_local}
use Rattle.lex.specs.Right.{closing_only}
use Rattle.record.specs.Byte.{digit}
use Rattle.record.specs.Form.{NotFirst}
use Rattle.record.specs.FormRight.Parts.{first_other}
use Rattle.record.specs.Head.{data_head}
use Rattle.record.specs.declared.Head.TheVariants.{Simple}
use Rattle.record.specs.FormRight.{headform_is}
use Rattle.record.specs.Ordered.{simple_ordered}
use Rattle.record.specs.Within.{data_within}
use Rattle.statement.specs.Rows.{HeaderRow}
use Rattle.statement.specs.Closed.{ClosedAt, ClosedData}
use Rattle.statement.specs.ClosedRight.{row_from, content_of, record_row}
use Rattle.kinds.specs.Kind.{kind_of_keyword}
use Rattle.statement.specs.Form.{ArguedTo, Argued}
use Rattle.params.specs.Answer.{Span, span}
use Rattle.lex.specs.Rests.{Rest, rest_of, rest_place}
use Rattle.words.specs.Places.{SpanIn}
use Rattle.parts.specs.Rules.{BytesBetween, NextPartForm, PartsForm, part_before}
use Rattle.parts.specs.Part.{parts_of}
use Rattle.parts.specs.PartRight.{parts_are}
use Rattle.parts.specs.Closed.{shift_row, PartsWithin, parts_closed_good}
use Rattle.lookup.specs.Lookup.{bytes_between, span_fine, kind_in}
use Rattle.alike.specs.Names.{Names, names_cut}
use Rattle.alike.specs.Alike.{BothList, AlikeSpan, AlikePart, AlikeRecord}
use Rattle.factors.specs.SeenRecords.{good_by, UnitPart, unit_part_of, seen_record_at, seen_record_of}

-- ---- bytes in the file
-- a part that lies in a file of n bytes and runs forwards passes the test for that
fine_in : (n : ℕ) (a : Span) → SpanIn n a → span_fine n a.start a.stop ≡ true
fine_in n a (h, k) = rw (le-leb a.start a.stop h, le-leb a.stop n k)

-- the bytes between two places of b, where b stands after q in the file, are those of b
cut_after : (q b y : List ℕ) (a z : ℕ) → a ≤ z → z ≤ length b → bytes_between (q ++ (b ++ y)) (length q + a) (length q + z) ≡ bytes_between b a z
cut_after q b y a z h k =
    let n : length q + z - (length q + a) ≡ z - a = omega arith in
    rw (n, drop-append-add q (b ++ y) a, drop-append-le a b y (omega arith)) (take-append-le (z - a) (drop a b) y (omega (arith, length-drop a b)))

-- the bytes where all of b stands after q in the file are b
cut_whole : (q b y : List ℕ) → bytes_between (q ++ (b ++ y)) (length q) (length q + length b) ≡ b
cut_whole q b y =
    let n : length q + length b - length q ≡ length b = omega arith in
    rw (n, drop-append_seam q (b ++ y)) (take-append_seam b y)

-- the bytes b of the file s, which stand from m up to n
module _ {s b : List ℕ} {m n : ℕ} (w : BytesBetween s m n b) where
  -- how long the file is that has the bytes b from m on
  window_length : length s ≡ m + length b + length w.back
  window_length = omega (arith, ap length w.shape, length-append w.front (b ++ w.back), length-append b w.back, w.starts)

  -- the bytes b from m up to n lie in the file
  window_in : SpanIn (length s) (span m n)
  window_in = (omega (arith, w.starts, w.ends), omega (arith, window_length, w.starts, w.ends))

  -- what is cut out of the file from m up to n is b
  window_cut : bytes_between s m n ≡ b
  window_cut = rw (w.shape, ← w.ends, ← w.starts) (cut_whole w.front b w.back)

  -- a part of the bytes b lies in the file, m bytes further on
  inner_in : (i j : ℕ) → i ≤ j → j ≤ length b → SpanIn (length s) (span (m + i) (m + j))
  inner_in i j h k = (omega arith, omega (arith, window_length))

  -- a part of the bytes b is cut out of the file as it is out of b
  inner_cut : (i j : ℕ) → i ≤ j → j ≤ length b → bytes_between s (m + i) (m + j) ≡ bytes_between b i j
  inner_cut i j h k = rw (w.shape, ← w.starts) (cut_after w.front b w.back i j h k)

  -- the parts in the bytes b, where they depend on b alone, are so in the file, m bytes further on
  window_parts : (rel : List HeaderRow)
      → ((q y : List ℕ) → parts_of (q ++ (b ++ y)) (length q) (length q + length b) ≡ good (map (shift_row (length q)) rel))
      → parts_of s m n ≡ good (map (shift_row m) rel)
  window_parts rel h = rw (w.shape, ← w.ends, ← w.starts) (h w.front w.back)

-- ---- what follows a part's arguments
-- "its `)` ends the part": no digit stands just behind any of these parts' arguments
abbrev Shut : List ℕ → List HeaderRow → Type 0
Shut s [] = Unit {0}
Shut s (p ∷ ps) = NotFirst digit (drop p.arg_end s) × Shut s ps

-- where a `)` was sought from the rest u on and found, no digit stands there
argued_shut : {s u : List ℕ} {x : Told ℕ} → Argued s u x → Rest s u → (e : ℕ) → x ≡ good e → NotFirst digit (drop e s)
argued_shut {s} {u} (ArguedTo.closed {r} j v) h e k =
    let c : Closes u r = rw j v in
    let (b, f, l) = closing_local 40 u r (closing_only 40 c) in
    let d : place s (41 ∷ r) ≡ e = cc in
    let g : drop e s ≡ 41 ∷ r = ap (λ (i : ℕ). drop i s) (sym d) ∙ rest_place (rest_of h (b, f)) in
    subst (NotFirst digit) (sym g) (first_other digit 41 r refl)
argued_shut (ArguedTo.text_open j d o) h e k = clash (cc)
argued_shut (ArguedTo.remark_open j d o) h e k = clash (cc)
argued_shut (ArguedTo.unclosed j d) h e k = clash (cc)

-- at the end of the next part's arguments stands no digit
next_shut : {s : List ℕ} {from end : ℕ} {x : Told (Option HeaderRow)} → NextPartForm s from end x → (p : HeaderRow) → x ≡ good (some p) → NotFirst digit (drop p.arg_end s)
next_shut {s} (NextPartForm.part {f} {v} {k} {w} {r} {e} m d y a) p g =
    let h : s ≡ (m.front ++ (f ++ (k ++ (w ++ (40 ∷ []))))) ++ (r ++ m.back) =
    m.shape ∙ ap (λ (l : List ℕ). m.front ++ ((f ++ l) ++ m.back)) y.shape ∙ simp append_assoc in
    argued_shut a (m.front ++ (f ++ (k ++ (w ++ (40 ∷ [])))), h) p.arg_end (cc)
next_shut (NextPartForm.outside h) p g = clash (cc)
next_shut (NextPartForm.done h k) p g = clash (cc)
next_shut (NextPartForm.over m d h) p g = clash (cc)
next_shut (NextPartForm.refused m d y a) p g = clash (cc)

-- at the end of each part's arguments stands no digit
parts_shut : {s : List ℕ} {end from : ℕ} {x : Told (List HeaderRow)} → PartsForm s end from x → (ps : List HeaderRow) → x ≡ good ps → Shut s ps
parts_shut {s} (PartsForm.over h) ps g = let d : [] ≡ ps = cc in subst (Shut s) d tt
parts_shut (PartsForm.fault h) ps g = clash (cc)
parts_shut {s} (PartsForm.more {p} {a} h f) ps g = go a (λ qs d. parts_shut {from = p.arg_end + 1} f qs d) g
  where
    go : (y : Told (List HeaderRow)) → ((qs : List HeaderRow) → y ≡ good qs → Shut s qs) → part_before p y ≡ good ps → Shut s ps
    go (good qs) k g = let d : p ∷ qs ≡ ps = cc in subst (Shut s) d (next_shut h p refl, k qs refl)
    go (bad q) k g = clash (cc)

-- at the end of each part's arguments stands no digit, where the parts depend on the bytes b alone
rows_shut : (b : List ℕ) (rel : List HeaderRow) → ((q y : List ℕ) → parts_of (q ++ (b ++ y)) (length q) (length q + length b) ≡ good (map (shift_row (length q)) rel)) → Shut b rel
rows_shut b rel n =
    let e : parts_of b 0 (0 + length b) ≡ good (map (shift_row 0) rel) = simp append-nil at (n [] []) in
    own rel (parts_shut (parts_are b 0 (0 + length b) (omega arith)) (map (shift_row 0) rel) e)
  where
    own : (ps : List HeaderRow) → Shut b (map (shift_row 0) ps) → Shut b ps
    own [] h = tt
    own (p ∷ ps) (h, t) = let z : 0 + p.arg_end ≡ p.arg_end = omega arith in (rw z at h, own ps t)

module _ {Named : ℕ → Type 0} where
  -- two parts of files that lie there and have the same bytes b, which name only ids that matter, are alike
  run_of_lem : {s z : List ℕ} {a c : Span} (b : List ℕ) → SpanIn (length s) a → SpanIn (length z) c → bytes_between s a.start a.stop ≡ b → bytes_between z c.start c.stop ≡ b
      → ((k : ℕ) → Names b k → Named k) → AlikeSpan Named s z a c
  run_of_lem b (h, k) (i, j) e f n = record { ordered = h; within = k; ordered' = i; within' = j; same = e ∙ sym f; names = λ k m. n k (rw e at m) }

  -- the same bytes at two places, which name only ids that matter, are alike
  runs_alike : {s z b : List ℕ} {i j m n : ℕ} → BytesBetween s i j b → BytesBetween z m n b → ((k : ℕ) → Names b k → Named k) → AlikeSpan Named s z (span i j) (span m n)
  runs_alike {b} v w = run_of_lem b (window_in v) (window_in w) (window_cut v) (window_cut w)

  -- the parts of complex records in the same bytes at two places are alike
  pieces_alike : {s z b : List ℕ} {i j m n : ℕ} → BytesBetween s i j b → BytesBetween z m n b → ((k : ℕ) → Names b k → Named k) → (rel : List HeaderRow) → PartsWithin (length b) rel → Shut b rel
      → BothList (AlikePart Named s z) (map (unit_part_of s) (map (shift_row i) rel)) (map (unit_part_of z) (map (shift_row m) rel))
  pieces_alike v w l [] h o = tt
  pieces_alike {s} {z} {b} {i} {j} {m} {n} v w l (p ∷ ps) ((c, d, e, f), t) (g, o) = (
    (
      ap kind_of_keyword (inner_cut v p.key_start p.key_end c d ∙ sym (inner_cut w p.key_start p.key_end c d)),
      run_of_lem (bytes_between b p.arg_start p.arg_end) (inner_in v p.arg_start p.arg_end e f) (inner_in w p.arg_start p.arg_end e f)
          (inner_cut v p.arg_start p.arg_end e f) (inner_cut w p.arg_start p.arg_end e f) (λ k x. l k (names_cut b p.arg_start p.arg_end e g k x)),
    ),
    pieces_alike v w l ps t o,
  )

-- ---- a closed record
-- a closed record's arguments stand in the file where its row says: q precedes its text, and y follows
args_window : {b : List ℕ} {o : ℕ} (c : ClosedAt b o) (q y : List ℕ)
    → BytesBetween (q ++ (b ++ y)) (length q + (o + 1)) (length q + (o + 1 + length c.args)) c.args
args_window c q y =
    let n : length (q ++ (c.front ++ (40 ∷ []))) ≡ length q + (length c.front + 1) =
    length-append q (c.front ++ (40 ∷ [])) ∙ ap (λ (k : ℕ). length q + k) (length-append c.front (40 ∷ [])) in
    record {
      front = q ++ (c.front ++ (40 ∷ []));
      back = 41 ∷ (c.back ++ y);
      shape = rw c.shape (simp append_assoc);
      starts = omega (arith, n, c.place);
      ends = omega (arith, n, c.place);
    }

-- a closed record's arguments lie in the file and run forwards
pub closed_run_in : {b : List ℕ} (c : ClosedData b) (q y : List ℕ)
    → SpanIn (length (q ++ (b ++ y))) (span (row_from (length q) c).arg_start (row_from (length q) c).arg_end)
closed_run_in (ClosedData.simple e c) q y = window_in (args_window c q y)
closed_run_in (ClosedData.complex e c p) q y = window_in (args_window c q y)

-- "the same [..] argument bytes": those of a closed record in the file are those of its text
pub closed_run_cut : {b : List ℕ} (c : ClosedData b) (q y : List ℕ)
    → bytes_between (q ++ (b ++ y)) (row_from (length q) c).arg_start (row_from (length q) c).arg_end ≡ (content_of c).args
closed_run_cut (ClosedData.simple e c) q y = window_cut (args_window c q y)
closed_run_cut (ClosedData.complex e c p) q y = window_cut (args_window c q y)

-- a closed record has no "span outside the file or backwards": the units see it
pub closed_seen_good : {b : List ℕ} (c : ClosedData b) (q y : List ℕ)
    → seen_record_of (q ++ (b ++ y)) (row_from (length q) c) ≡ good (seen_record_at (q ++ (b ++ y)) (row_from (length q) c))
closed_seen_good {b} c q y =
    rw (fine_in (length (q ++ (b ++ y))) (span (row_from (length q) c).arg_start (row_from (length q) c).arg_end) (closed_run_in c q y))

-- a simple closed record's kind is that of the keyword in its text
simple_kind : {b : List ℕ} {i a z o : ℕ} (e : data_head b ≡ Ok (Simple i a z o)) (c : ClosedAt b o) (q y : List ℕ)
    → kind_in (q ++ (b ++ y)) (row_from (length q) (ClosedData.simple e c)) ≡ kind_of_keyword (bytes_between b a z)
simple_kind {b} {i} {a} {z} {o} e c q y =
    let (k, l, m) = simple_ordered (rw e at (headform_is b)) in
    let w : (a ≤ length b) × (z ≤ length b) × (o ≤ length b) = rw e at (data_within b) in
    let f : span_fine (length (q ++ (b ++ y))) (length q + a) (length q + z) ≡ true =
    fine_in (length (q ++ (b ++ y))) (span (length q + a) (length q + z)) (omega arith, omega (arith, w.1, length-append q (b ++ y), length-append b y)) in
    rw f (ap kind_of_keyword (cut_after q b y a z l w.1))

-- a closed record's parts have no fault
pub closed_parts_good : {b : List ℕ} (c : ClosedData b) (q y : List ℕ) → (ps : List UnitPart) × ((seen_record_at (q ++ (b ++ y)) (row_from (length q) c)).parts ≡ good ps)
closed_parts_good (ClosedData.simple e c) q y = ([], refl)
closed_parts_good {b} (ClosedData.complex e c p) q y =
    let (rel, i, n) = parts_closed_good p in
    (_, ap (good_by (map (unit_part_of (q ++ (b ++ y))))) (window_parts (args_window c q y) rel n))

-- what the units see of a closed record is alike wherever it stands, where its arguments name only ids that matter
closed_alike : {Named : ℕ → Type 0} {b : List ℕ} (c : ClosedData b) → ((k : ℕ) → Names (content_of c).args k → Named k) → (q y r z : List ℕ)
    → AlikeRecord Named (q ++ (b ++ y)) (r ++ (b ++ z)) (seen_record_at (q ++ (b ++ y)) (row_from (length q) c)) (seen_record_at (r ++ (b ++ z)) (row_from (length r) c))
closed_alike (ClosedData.simple e c) l q y r z = record {
  kind = simple_kind e c q y ∙ sym (simple_kind e c r z);
  run = runs_alike (args_window c q y) (args_window c r z) l;
  parts = tt;
}
closed_alike {b} (ClosedData.complex e c p) l q y r z =
    let (rel, i, n) = parts_closed_good p in
    let h = window_parts (args_window c q y) rel n in
    let k = window_parts (args_window c r z) rel n in
    record {
      kind = refl;
      run = runs_alike (args_window c q y) (args_window c r z) l;
      parts = rw (h, k) (pieces_alike (args_window c q y) (args_window c r z) l rel i (rows_shut c.args rel n));
    }

-- a closed text has one row, however it is seen to be closed
row_one : {b : List ℕ} (c d : ClosedData b) (q : List ℕ) → row_from (length q) c ≡ row_from (length q) d
row_one c d q = let a = record_row c q [] in let b = record_row d q [] in cc

-- "each id then yields a record with the same keyword and argument bytes": so it does for the units, with the same parts; its arguments name
-- only ids that matter
pub closed_seen_alike : {Named : ℕ → Type 0} {b : List ℕ} (c d : ClosedData b) → ((k : ℕ) → Names (content_of c).args k → Named k) → (q y r z : List ℕ)
    → AlikeRecord Named (q ++ (b ++ y)) (r ++ (b ++ z)) (seen_record_at (q ++ (b ++ y)) (row_from (length q) c)) (seen_record_at (r ++ (b ++ z)) (row_from (length r) d))
closed_seen_alike c d l q y r z = rw (row_one d c r) (closed_alike c l q y r z)
