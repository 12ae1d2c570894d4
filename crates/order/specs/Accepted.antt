-- "The new file is accepted with the same rooms": its rows are those of the texts in its records' places. Assumes nothing.
use Rattle.std.specs.Prelude.{ℕ, ◌+◌, ◌≤◌, ◌≡◌, refl, true, not, List, [], ◌∷◌, ◌++◌, eqb, length}
use Rattle.std.proofs.Common.{sym, ◌∙◌, ap, subst, append_assoc, arith, ne_eqb, length-append}
use Rattle.std.proofs.Math.Decide.{ℕ_discrete}
use Rattle.common.specs.Compare.{clash}
use Rattle.error.specs.Refusal.{good}
use Rattle.lex.specs.Byte.{white}
use Rattle.record.specs.Form.{All, Free}
use Rattle.common.specs.Bytes.{bytes}
use Rattle.record.specs.FormRight.Parts.{all_join, all_kind}
use Rattle.statement.specs.Rows.{Row, HeaderRow}
use Rattle.statement.specs.Closed.{Closed}
use Rattle.statement.specs.declared.Section.TheVariants.{Outside}
use Rattle.scan.specs.Records.{Table}
use Rattle.scan.specs.File.{scan_of}
use Rattle.scan.specs.Form.{rows_per_kind, Marked, Scans}
use Rattle.scan.specs.FormRight.{scans_only, scans_is}
use Rattle.scan.specs.Rooms.{scan_roomy, scan_fit}
use Rattle.order.specs.Order.{CutFile, no_more_records, next_record, texts, file_with, Cuts, Permuted}
use Rattle.order.specs.Shape.{AllFitTexts, AllSay, AllHead, FileShape, led_filled, read_filled}
use Rattle.order.specs.Cuts.{cuts_one, filled_own, Shaped, closed_shaped}

-- texts in another order are as many as before
pub permuted_length : {ts us : List (List ℕ)} → Permuted ts us → length us ≡ length ts
permuted_length Permuted.empty = refl
permuted_length (Permuted.front p) = omega (arith, permuted_length p)
permuted_length Permuted.swap = refl
permuted_length (Permuted.then p q) = permuted_length q ∙ permuted_length p

-- where each text fits where another stood, so does each of them in another order
pub permuted_fit : {ts us : List (List ℕ)} → Permuted ts us → AllFitTexts ts → AllFitTexts us
permuted_fit Permuted.empty a = a
permuted_fit (Permuted.front p) (a, r) = (a, permuted_fit p r)
permuted_fit Permuted.swap (a, (b, r)) = (b, (a, r))
permuted_fit (Permuted.then p q) a = permuted_fit q (permuted_fit p a)

-- how many bytes texts have in all
abbrev total : List (List ℕ) → ℕ
total [] = 0
total (b ∷ bs) = length b + total bs

permuted_total : {ts us : List (List ℕ)} → Permuted ts us → total us ≡ total ts
permuted_total Permuted.empty = refl
permuted_total (Permuted.front p) = omega (arith, permuted_total p)
permuted_total Permuted.swap = omega arith
permuted_total (Permuted.then p q) = permuted_total q ∙ permuted_total p

-- the bytes of a file with other texts in its records' places, and those of its own texts, are as many as its own and those of the others
filled_total : (c : CutFile) (us : List (List ℕ)) → length us ≡ length (texts c) → length (file_with c us) + total (texts c) ≡ length (file_with c (texts c)) + total us
filled_total (no_more_records g) [] n = refl
filled_total (no_more_records g) (u ∷ us) n = absurd (omega (arith, n))
filled_total (next_record g b c) [] n = absurd (omega (arith, n))
filled_total (next_record g b c) (u ∷ us) n =
    simp length-append (omega (arith, filled_total c us (omega (arith, n))))

-- the new file, with the same texts in another order, is as long as the old one
pub file_with_length : {s : List ℕ} {c : CutFile} {us : List (List ℕ)} → Cuts s Outside s c → Permuted (texts c) us → length (file_with c us) ≡ length s
file_with_length {s} {c} {us} k p =
    omega (arith, filled_total c us (permuted_length p), permuted_total p, ap length (filled_own k))

-- bytes without a `;` at the start of a list stand before any `;` of it
free_front : (u r x y : List ℕ) → Free 59 u → u ++ r ≡ x ++ (59 ∷ y) → (v : List ℕ) × (x ≡ u ++ v)
free_front [] r x y f e = (x, refl)
free_front (a ∷ u) r [] y (f, g) e = clash (cc)
free_front (a ∷ u) r (b ∷ x) y (f, g) e = let (v, p) = free_front u r x y g (cc) in (v, cc)

-- whitespace is no `;`
white_free : (w : List ℕ) → All white w → Free 59 w
white_free w a = all_kind white (λ d. not (eqb d 59)) w (λ c h. go c h (ℕ_discrete c 59)) a
  where
    go : (c : ℕ) → white c ≡ true → Dec (c ≡ 59) → not (eqb c 59) ≡ true
    go c h (yes p) = let f : white 59 ≡ true = rw p at h in clash (cc)
    go c h (no n) = rw (ne_eqb c 59 n) refl

-- no byte of the marker is a `;`
marker_free : Free 59 (bytes "ISO-10303-21")
marker_free = (refl, (refl, (refl, (refl, (refl, (refl, (refl, (refl, (refl, (refl, (refl, (refl, tt))))))))))))

-- "The marker is `ISO-10303-21` after an optional EF BB BF and whitespace only": what follows the first `;` has no part in it
marked_any : {s : List ℕ} → Marked s → (x y : List ℕ) → s ≡ x ++ (59 ∷ y) → (z : List ℕ) → Marked (x ++ (59 ∷ z))
marked_any (Marked.plain w r a) x y e z =
    let (v, p) = free_front (w ++ bytes "ISO-10303-21") r x y (all_join _ w _ (white_free w a) marker_free) (append_assoc w _ r ∙ e) in
    rw (p, append_assoc (w ++ bytes "ISO-10303-21") v (59 ∷ z), append_assoc w (bytes "ISO-10303-21") (v ++ (59 ∷ z))) (Marked.plain w (v ++ (59 ∷ z)) a)
marked_any (Marked.mark w r a) x y e z =
    let (v, p) = free_front (239 ∷ 187 ∷ 191 ∷ (w ++ bytes "ISO-10303-21")) r x y (refl, (refl, (refl, all_join _ w _ (white_free w a) marker_free))) (cc (append_assoc w (bytes "ISO-10303-21") r)) in
    rw (p, append_assoc (w ++ bytes "ISO-10303-21") v (59 ∷ z), append_assoc w (bytes "ISO-10303-21") (v ++ (59 ∷ z))) (Marked.mark w (v ++ (59 ∷ z)) a)

-- the file with other texts in its records' places has the marker, where it had it before
filled_marked : {c : CutFile} {hs : List (List ℕ)} → FileShape Outside c hs → (ts us : List (List ℕ)) → Marked (file_with c ts) → Marked (file_with c us)
filled_marked (FileShape.over e) ts us m = m
filled_marked (FileShape.turn {c} g e d) ts us m =
    rw (led_filled (g ++ (59 ∷ [])) c us, append_assoc g (59 ∷ []) (file_with c us))
    (marked_any m g (file_with c ts) (led_filled (g ++ (59 ∷ [])) c ts ∙ append_assoc g (59 ∷ []) _) (file_with c us))

-- a file whose records have the texts us, and header records hs, is accepted with these rooms: the rows that it is read to have
pub record Accepted (f : List ℕ) (hs us : List (List ℕ)) (H R : ℕ) : Type 0 where
  pub result : Table
  pub scanned : scan_of f H R ≡ good result
  pub rows : AllSay f result.records us
  pub heads : AllHead f result.headers hs

-- the rows of texts are as many as the texts
pub say_length : (f : List ℕ) (ws : List Row) (us : List (List ℕ)) → AllSay f ws us → length ws ≡ length us
say_length f [] [] a = refl
say_length f [] (u ∷ us) a = absurd a
say_length f (w ∷ ws) [] a = absurd a
say_length f (w ∷ ws) (u ∷ us) (k, a) = omega (arith, say_length f ws us a)

-- the header rows of texts are as many as the texts
pub head_length : (f : List ℕ) (ws : List HeaderRow) (us : List (List ℕ)) → AllHead f ws us → length ws ≡ length us
head_length f [] [] a = refl
head_length f [] (u ∷ us) a = absurd a
head_length f (w ∷ ws) [] a = absurd a
head_length f (w ∷ ws) (u ∷ us) (k, a) = omega (arith, head_length f ws us a)

-- a file of fitting texts is accepted with one row for each
accepted_tight : {c : CutFile} {hs : List (List ℕ)} → FileShape Outside c hs → (us : List (List ℕ)) → AllFitTexts us → length us ≡ length (texts c)
    → length (file_with c us) ≤ 4294967295 → Marked (file_with c us) → Accepted (file_with c us) hs us (length hs) (length us)
accepted_tight {c} {hs} d us a n l m =
    let r = read_filled (file_with c us) [] (length hs) (length us) d us a n refl 0 0 (omega arith) (omega arith) in
    record { result = r.result; scanned = sym (scans_only (Scans.read l m r.reads)); rows = r.rows; heads = r.heads }

-- an accepted file is accepted with all rooms that have its rows
accepted_roomy : {f : List ℕ} {hs us : List (List ℕ)} {H R : ℕ} → Accepted f hs us H R → (H' R' : ℕ) → length hs ≤ H' → length us ≤ R' → Accepted f hs us H' R'
accepted_roomy {f} {hs} {us} {H} {R} a H' R' l m = record {
  result = a.result;
  scanned = scan_roomy f H R a.result a.scanned H' R' (omega (arith, head_length f a.result.headers hs a.heads)) (omega (arith, say_length f a.result.records us a.rows));
  rows = a.rows;
  heads = a.heads;
}

-- a file that is accepted is marked and not too long
accepted_file : (s : List ℕ) (H R : ℕ) {t : Table} → scan_of s H R ≡ good t → (length s ≤ 4294967295) × Marked s
accepted_file s H R e = go (rw e at (scans_is s H R))
  where
    go : {t : Table} → Scans s (rows_per_kind H R) (good t) → (length s ≤ 4294967295) × Marked s
    go (Scans.read l m d) = (l, m)

-- two answers of one file are the same, whatever the rooms
tables_one : (s : List ℕ) (H R H' R' : ℕ) (t u : Table) → scan_of s H R ≡ good t → scan_of s H' R' ≡ good u → t ≡ u
tables_one s H R H' R' t u e f =
    let (a, b) = scan_fit s H R t e in
    let (c, d) = scan_fit s H' R' u f in
    let x : scan_of s (H + H') (R + R') ≡ good t = scan_roomy s H R t e (H + H') (R + R') (omega arith) (omega arith) in
    let y : scan_of s (H + H') (R + R') ≡ good u = scan_roomy s H' R' u f (H + H') (R + R') (omega arith) (omega arith) in
    cc

-- an answer for a file whose texts are known has the rows of these texts
accepted_as : (s : List ℕ) {hs ts : List (List ℕ)} {h r : ℕ} (H R : ℕ) (t : Table) → Accepted s hs ts h r → scan_of s H R ≡ good t
    → AllSay s t.records ts × AllHead s t.headers hs
accepted_as s {hs} {ts} {h} {r} H R t a e =
    let q : a.result ≡ t = tables_one s h r H R a.result t a.scanned e in
    (subst (λ (u : Table). AllSay s u.records ts) q a.rows, subst (λ (u : Table). AllHead s u.headers hs) q a.heads)

-- an accepted closed file and the file with its texts in another order: both are accepted, with the same header records
pub record Both (s : List ℕ) (t : Table) (c : CutFile) (us : List (List ℕ)) (H R : ℕ) : Type 0 where
  pub headings : List (List ℕ)
  pub rows : AllSay s t.records (texts c)
  pub heads : AllHead s t.headers headings
  pub after : Accepted (file_with c us) headings us H R

-- "The new file is accepted with the same rooms": both files are, and the rows of each are those of its texts
pub both_accepted : (s : List ℕ) (H R : ℕ) (t : Table) → scan_of s H R ≡ good t → Closed s → (c : CutFile) → Cuts s Outside s c
    → (us : List (List ℕ)) → Permuted (texts c) us → Both s t c us H R
both_accepted s H R t e k c d us p = go (closed_shaped k)
  where
    by : {hs : List (List ℕ)} → FileShape Outside c hs → AllFitTexts (texts c) → Both s t c us H R
    by {hs} sh fit =
        let (l, m) = accepted_file s H R e in
        let o : file_with c (texts c) ≡ s = filled_own d in
        let a : Accepted s hs (texts c) (length hs) (length (texts c)) = rw o at (accepted_tight sh (texts c) fit refl (rw o l) (rw o m)) in
        let (x, y) = accepted_as s H R t a e in
        let (i, j) = scan_fit s H R t e in
        let n = accepted_tight sh us (permuted_fit p fit) (permuted_length p) (omega (arith, file_with_length d p)) (filled_marked sh (texts c) us (rw o m)) in
        record {
          headings = hs;
          rows = x;
          heads = y;
          after = accepted_roomy n H R (omega (arith, head_length s t.headers hs y)) (omega (arith, permuted_length p, say_length s t.records (texts c) x));
        }

    go : Shaped s Outside s → Both s t c us H R
    go z = let q : z.pieces ≡ c = cuts_one z.cuts d in by (rw q at z.shape) (rw q at z.fit)
