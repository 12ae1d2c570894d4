-- What a closed record says does not depend on what stands around it: neither on what precedes it in the file nor on what follows
-- its own text. Assumes nothing.
use Rattle.std.specs.Prelude.{ℕ, ◌+◌, ◌-◌, ◌≤◌, ◌≡◌, refl, List, [], ◌∷◌, ◌++◌, length, take, drop, Err}
use Rattle.std.proofs.Common.{sym, ◌∙◌, ap, append_assoc, append-nil, arith, ne_eqb, length-append, length-drop, drop_at}
use Rattle.std.proofs.Math.Option.{some}
use Rattle.std.proofs.Math.Decide.{ℕ_discrete}
use Rattle.std.proofs.Math.Seq.{slice, take-append-add, drop-append-add, take-append_seam, drop-append_seam}
use Rattle.std.proofs.lemmas.List.{take-append-le}
use Rattle.common.specs.Compare.{clash}
use Rattle.error.specs.Refusal.{Told, good}
use Rattle.lex.specs.Byte.{place}
use Rattle.lex.specs.Grammar.{Begins, Closes}
use Rattle.lex.specs.Search.{closing}
use Rattle.lex.specs.Answer.{at}
use Rattle.lex.specs.Local.{closing_local}
use Rattle.lex.specs.Right.{closing_only}
use Rattle.lex.specs.Inside.{closing_inside, closes_own, closes_any}
use Rattle.record.specs.Head.{data_head}
use Rattle.record.specs.Within.{data_within, header_within}
use Rattle.error.specs.declared.Reason.TheVariants.{NoHash}
use Rattle.statement.specs.Rows.{Row, row, HeaderRow, header_row, bound, mapped}
use Rattle.statement.specs.Row.{closing_sought, argued_to, record_of, header_of}
use Rattle.statement.specs.FormRight.{sought_at}
use Rattle.statement.specs.Closed.{OutsideBoth, ClosedAt, ClosedData, ClosedHeader, Content, content, HeaderContent, header_content}
pub mod Statements
pub mod Outside
pub mod Parts
pub mod Examples

-- the `)` of a closed record is found in its own text, whatever follows the text
pub closed_closing : {b : List ℕ} {o : ℕ} (c : ClosedAt b o) (y : List ℕ) → closing (drop o (b ++ y)) ≡ at (41 ∷ (c.back ++ y))
closed_closing {b} {o} c y =
    let e : b ++ y ≡ c.front ++ (40 ∷ ((c.args ++ (41 ∷ c.back)) ++ y)) = rw c.shape (append_assoc c.front _ y) in
    rw (e, drop_at c.front _ o c.place) (closes_any c.closes y)

-- the `)` of a closed record is found too where the search ends with the record's text
pub closed_bounded : {b : List ℕ} {o : ℕ} (c : ClosedAt b o) (y : List ℕ) → closing_sought (some y) (drop o (b ++ y)) ≡ at (41 ∷ (c.back ++ y))
closed_bounded {b} {o} c y =
    let e : b ++ y ≡ c.front ++ (40 ∷ ((c.args ++ (41 ∷ c.back)) ++ y)) = rw c.shape (append_assoc c.front _ y) in
    rw (e, drop_at c.front _ o c.place) (sought_at (some y) (c.args ++ (41 ∷ c.back)) (41 ∷ c.back) (closing_only 40 c.closes))

-- the `)` of a closed record is found up to the record's bound
closed_sought : {b : List ℕ} {o : ℕ} (c : ClosedAt b o) (y : List ℕ) → closing_sought (bound (b ++ y) b) (drop o (b ++ y)) ≡ at (41 ∷ (c.back ++ y))
closed_sought c y = closed_closing c y

-- a `(` outside strings and comments whose `)` is found before the text's end is closed: the definition is the paper's
pub closed_at : {b : List ℕ} (f t v y : List ℕ) → b ≡ f ++ (40 ∷ t) → OutsideBoth b (40 ∷ t)
    → closing (40 ∷ (t ++ y)) ≡ at (41 ∷ (v ++ y)) → ClosedAt b (length f)
closed_at f t v y e h k =
    let (a, g, l) = closing_local 40 t v (simp append-nil at (closing_inside 40 t v y k [])) in
    record {
      front = f;
      args = a;
      back = v;
      shape = rw g at e;
      place = refl;
      outside = rw g at h;
      closes = rw g at (closes_own t v y k);
    }

-- a place of b lies in the file as many bytes further on as q has, where b stands after q
place_after : (q b y : List ℕ) (a : ℕ) → a ≤ length b → place (q ++ (b ++ y)) (drop a (b ++ y)) ≡ length q + a
place_after q b y a h = omega (arith, length-append q (b ++ y), length-append b y, length-drop a (b ++ y))

-- the bytes between two places of b, where b stands after q in the file
slice_after : (q b y : List ℕ) (a z : ℕ) → z ≤ length b → slice (length q + a) (length q + z) (q ++ (b ++ y)) ≡ slice a z b
slice_after q b y a z h = rw (take-append-add q (b ++ y) z, drop-append-add q (take z (b ++ y)) a, take-append-le z b y h)

-- a closed record's `(` and arguments lie in its text
module _ {b : List ℕ} {o : ℕ} (c : ClosedAt b o) where
  args_within : o + 1 + length c.args ≤ length b
  args_within = omega (arith, c.place, simp length-append at (ap length c.shape))

  -- the bytes between a closed record's `(` and its `)` are its arguments
  args_slice : slice (o + 1) (o + 1 + length c.args) b ≡ c.args
  args_slice =
      let e : b ≡ (c.front ++ (40 ∷ [])) ++ (c.args ++ (41 ∷ c.back)) = c.shape ∙ sym (append_assoc c.front (40 ∷ []) _) in
      let n : length (c.front ++ (40 ∷ [])) ≡ o + 1 = omega (arith, c.place, length-append c.front (40 ∷ [])) in
      rw (e, ← n) (slice_of (c.front ++ (40 ∷ [])) c.args (41 ∷ c.back))
    where
      slice_of : (f a k : List ℕ) → slice (length f) (length f + length a) (f ++ (a ++ k)) ≡ a
      slice_of f a k = rw (take-append-add f (a ++ k) (length a), drop-append_seam f (take (length a) (a ++ k))) (take-append_seam a k)

  -- what is made of the place of a closed record's `)` depends on the record's text alone and on where it begins
  argued_local : {A : Type 0} (q y : List ℕ) (f : ℕ → A)
      → argued_to (bound (b ++ y) b) (q ++ (b ++ y)) (drop o (b ++ y)) f ≡ good (f (length q + (o + 1 + length c.args)))
  argued_local q y f = rw (closed_sought c y) (ap (λ (n : ℕ). good (f n)) places)
    where
      places : length (q ++ (b ++ y)) - length (41 ∷ (c.back ++ y)) ≡ length q + (o + 1 + length c.args)
      places =
          let n : length b ≡ o + 1 + length c.args + 1 + length c.back =
          omega (arith, c.place, simp length-append at (ap length c.shape)) in
          simp length-append (omega arith)

-- the row of a closed data record that begins at the place n of the file: it depends on the record's text alone
abbrev pub row_from : {b : List ℕ} → ℕ → ClosedData b → Row
row_from n (ClosedData.simple {i} {a} {z} {o} e c) = row i (n + a) (n + z) (n + (o + 1)) (n + (o + 1 + length c.args)) 0
row_from n (ClosedData.complex {i} {o} e c p) = row i 0 0 (n + (o + 1)) (n + (o + 1 + length c.args)) 1

-- what a closed data record says, from its text alone
abbrev pub content_of : {b : List ℕ} → ClosedData b → Content
content_of {b} (ClosedData.simple {i} {a} {z} e c) = record { id = i; keyword = slice a z b; args = c.args; complex = 0 }
content_of (ClosedData.complex {i} e c p) = record { id = i; keyword = []; args = c.args; complex = 1 }

-- a closed data record has the row `row_from` wherever it stands: q precedes it in the file, and y follows its text
pub record_row : {b : List ℕ} (c : ClosedData b) (q y : List ℕ) → record_of (q ++ (b ++ y)) (b ++ y) b ≡ good (row_from (length q) c)
unfolding record_of
record_row {b} (ClosedData.simple {i} {a} {z} {o} e c) q y =
    let w : (a ≤ length b) × (z ≤ length b) × (o ≤ length b) = rw e at (data_within b) in
    let h : o + 1 ≤ length b = omega (arith, args_within c) in
    rw e (argued_local c q y _ ∙ rw (place_after q b y a w.0, place_after q b y z w.1, place_after q b y (o + 1) h) refl)
record_row {b} (ClosedData.complex {i} {o} e c p) q y =
    let h : o + 1 ≤ length b = omega (arith, args_within c) in
    rw e (argued_local c q y _ ∙ rw (place_after q b y (o + 1) h) refl)

-- the row of a closed data record says the same wherever the record stands: q precedes it in the file, and y follows its text
pub record_content : {b : List ℕ} (c : ClosedData b) (q y : List ℕ) → content (q ++ (b ++ y)) (row_from (length q) c) ≡ content_of c
record_content {b} (ClosedData.simple {i} {a} {z} {o} e c) q y =
    let w : (a ≤ length b) × (z ≤ length b) × (o ≤ length b) = rw e at (data_within b) in
    rw (slice_after q b y a z w.1, slice_after q b y (o + 1) (o + 1 + length c.args) (args_within c), args_slice c) refl
record_content {b} (ClosedData.complex {i} {o} e c p) q y =
    rw (slice_after q b y (o + 1) (o + 1 + length c.args) (args_within c), args_slice c) refl

-- what a closed data record says does not depend on what stands around it: p precedes it in the file, and r follows its `;`
pub record_local : {b : List ℕ} → ClosedData b
    → (k : Content)
    × ((p r : List ℕ) → (w : Row) × (record_of (p ++ (b ++ (59 ∷ r))) (b ++ (59 ∷ r)) b ≡ good w) × (content (p ++ (b ++ (59 ∷ r))) w ≡ k))
record_local c = (content_of c, λ p r. (row_from (length p) c, record_row c p (59 ∷ r), record_content c p (59 ∷ r)))

-- what a data record's text says, read as a file of its own
abbrev pub alone : List ℕ → Told Content
alone b = mapped (content b) (record_of b b b)

-- what a closed data record's text says, read as a file of its own, is what it says anywhere
pub alone_is : {b : List ℕ} (c : ClosedData b) → alone b ≡ good (content_of c)
alone_is {b} c =
    let e : record_of b b b ≡ good (row_from 0 c) = simp append-nil at (record_row c [] []) in
    let f : content b (row_from 0 c) ≡ content_of c = simp append-nil at (record_content c [] []) in
    rw (e, f) refl

-- the row of a closed header record that begins at the place n of the file: it depends on the record's text alone
abbrev pub header_row_from : {b : List ℕ} → ℕ → ClosedHeader b → HeaderRow
header_row_from p (ClosedHeader.named {n} e c) = header_row (p + n.start) (p + n.end) (p + (n.opening + 1)) (p + (n.opening + 1 + length c.args))

-- what a closed header record says, from its text alone
abbrev pub header_content_of : {b : List ℕ} → ClosedHeader b → HeaderContent
header_content_of {b} (ClosedHeader.named {n} e c) = record { keyword = slice n.start n.end b; args = c.args }

-- a closed header record has the row `header_row_from` wherever it stands: q precedes it in the file, and y follows its text
pub closed_header_row : {b : List ℕ} (c : ClosedHeader b) (q y : List ℕ) → header_of (q ++ (b ++ y)) (b ++ y) b ≡ good (header_row_from (length q) c)
unfolding header_of
closed_header_row {b} (ClosedHeader.named {n} e c) q y =
    let w : (n.start ≤ length b) × (n.end ≤ length b) × (n.opening ≤ length b) = rw e at (header_within b) in
    let h : n.opening + 1 ≤ length b = omega (arith, args_within c) in
    rw e (argued_local c q y _ ∙ rw (place_after q b y n.start w.0, place_after q b y n.end w.1, place_after q b y (n.opening + 1) h) refl)

-- the row of a closed header record says the same wherever the record stands: q precedes it in the file, and y follows its text
pub header_content_lem : {b : List ℕ} (c : ClosedHeader b) (q y : List ℕ) → header_content (q ++ (b ++ y)) (header_row_from (length q) c) ≡ header_content_of c
header_content_lem {b} (ClosedHeader.named {n} e c) q y =
    let w : (n.start ≤ length b) × (n.end ≤ length b) × (n.opening ≤ length b) = rw e at (header_within b) in
    rw (slice_after q b y n.start n.end w.1, slice_after q b y (n.opening + 1) (n.opening + 1 + length c.args) (args_within c), args_slice c) refl

-- what a closed header record says does not depend on what stands around it
pub header_local : {b : List ℕ} → ClosedHeader b
    → (k : HeaderContent)
    × ((p r : List ℕ) → (w : HeaderRow) × (header_of (p ++ (b ++ (59 ∷ r))) (b ++ (59 ∷ r)) b ≡ good w) × (header_content (p ++ (b ++ (59 ∷ r))) w ≡ k))
header_local c = (header_content_of c, λ p r. (header_row_from (length p) c, closed_header_row c p (59 ∷ r), header_content_lem c p (59 ∷ r)))

-- a text whose head as a data record is not reason 2 begins with `#`
hash_first : (b : List ℕ) → (data_head b ≡ Err NoHash → ⊥) → Begins 35 b
unfolding data_head
hash_first [] h = absurd (h refl)
hash_first (c ∷ r) h = go (ℕ_discrete c 35)
  where
    go : Dec (c ≡ 35) → Begins 35 (c ∷ r)
    go (yes p) = (r, cc)
    go (no n) = absurd (h (rw (ne_eqb c 35 n)))

-- a closed data text begins with `#`
pub closed_hash : {b : List ℕ} → ClosedData b → Begins 35 b
closed_hash {b} (ClosedData.simple e c) = hash_first b (λ h. clash (cc))
closed_hash {b} (ClosedData.complex e c p) = hash_first b (λ h. clash (cc))
