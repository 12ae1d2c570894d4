-- The counts, the largest id and what the header records say are the same in any order. Assumes nothing.
use Rattle.std.specs.Prelude.{ℕ, max, ◌≡◌, refl, List, [], ◌∷◌, ◌++◌, map, length, Result, Ok, Err}
use Rattle.std.proofs.Common.{sym, ◌∙◌, ap, arith}
use Rattle.error.specs.Refusal.{Told, good}
use Rattle.error.specs.declared.Reason.{Reason}
use Rattle.record.specs.Head.{data_head}
use Rattle.record.specs.declared.Head.{Head}
use Rattle.record.specs.declared.Head.TheVariants.{Complex, Simple}
use Rattle.statement.specs.Rows.{Row, HeaderRow}
use Rattle.statement.specs.Closed.{ClosedData, ClosedHeader, header_content}
use Rattle.statement.specs.ClosedRight.{row_from, header_row_from, header_content_of, closed_header_row, header_content_lem}
use Rattle.scan.specs.Records.{Table, largest}
use Rattle.scan.specs.ScanMemory.{counts_of}
use Rattle.order.specs.Order.{Permuted}
use Rattle.order.specs.Shape.{RowSays, AllSay, HeaderRowSays, AllHead}
use Rattle.order.specs.Accepted.{permuted_length, say_length, head_length}

-- the id in a data record's head; 0 in a bad one
abbrev id_in : Result Head Reason → ℕ
id_in (Err why) = 0
id_in (Ok (Complex i o)) = i
id_in (Ok (Simple i a z o)) = i

-- the largest id of data records' texts
abbrev top : List (List ℕ) → ℕ
top [] = 0
top (b ∷ bs) = max (id_in (data_head b)) (top bs)

permuted_top : {ts us : List (List ℕ)} → Permuted ts us → top us ≡ top ts
permuted_top Permuted.empty = refl
permuted_top (Permuted.front {b} p) = ap (max (id_in (data_head b))) (permuted_top p)
permuted_top (Permuted.swap {a} {b} {ts}) = swap_max (id_in (data_head b)) (id_in (data_head a)) (top ts)
  where
    swap_max : (x y z : ℕ) → max x (max y z) ≡ max y (max x z)
    swap_max x y z = omega arith
permuted_top (Permuted.then p q) = permuted_top q ∙ permuted_top p

-- a row has the id in its text's head
says_named : {f : List ℕ} {w : Row} {b : List ℕ} → RowSays f w b → w.id ≡ id_in (data_head b)
says_named {f} {w} {b} y = go (length y.front) y.closed y.row
  where
    go : (n : ℕ) (c : ClosedData b) → w ≡ row_from n c → w.id ≡ id_in (data_head b)
    go n (ClosedData.simple e c) h = rw (e, h) refl
    go n (ClosedData.complex e c p) h = rw (e, h) refl

-- the largest id of rows is that of their texts
say_largest : (f : List ℕ) (ws : List Row) (us : List (List ℕ)) → AllSay f ws us → largest ws ≡ top us
unfolding largest
say_largest f [] [] a = refl
say_largest f [] (u ∷ us) a = absurd a
say_largest f (w ∷ ws) [] a = absurd a
say_largest f (w ∷ ws) (u ∷ us) (y, a) = rw (says_named y, say_largest f ws us a) refl

-- where the texts are the same in another order, there are as many header and data rows, and the largest id is the same
pub same_counts : (s f : List ℕ) (t u : Table) (hs ts us : List (List ℕ)) → AllSay s t.records ts → AllSay f u.records us
    → AllHead s t.headers hs → AllHead f u.headers hs → Permuted ts us → counts_of t ≡ counts_of u
same_counts s f t u hs ts us a b c d p =
    let x : length t.headers ≡ length u.headers = head_length s t.headers hs c ∙ sym (head_length f u.headers hs d) in
    let y : length t.records ≡ length u.records =
    say_length s t.records ts a ∙ sym (permuted_length p) ∙ sym (say_length f u.records us b) in
    let z : largest t.records ≡ largest u.records = say_largest s t.records ts a ∙ sym (permuted_top p) ∙ sym (say_largest f u.records us b) in
    rw (x, y, z) refl

-- a header record's text says one thing, however it is shown to be closed
header_content_one : {b : List ℕ} (c d : ClosedHeader b) → header_content_of c ≡ header_content_of d
header_content_one {b} c d =
    let e : header_row_from 0 c ≡ header_row_from 0 d = good_one (sym (closed_header_row c [] []) ∙ closed_header_row d [] []) in
    sym (header_content_lem c [] []) ∙ ap (header_content (b ++ [])) e ∙ header_content_lem d [] []
  where
    good_one : {v u : HeaderRow} → ◌≡◌ {A = Told HeaderRow} (good v) (good u) → v ≡ u
    good_one e = cc

-- what a header row says is what its text says
header_says : {f : List ℕ} {w : HeaderRow} {b : List ℕ} (k : HeaderRowSays f w b) → header_content f w ≡ header_content_of k.closed
header_says {f} {w} {b} k =
    ap (λ (g : List ℕ). header_content g w) k.shape ∙ ap (header_content (k.front ++ (b ++ k.back))) k.row
    ∙ header_content_lem k.closed k.front k.back

-- where the texts of header records are the same, the header records say the same
pub same_headers : (s f : List ℕ) (ws vs : List HeaderRow) (hs : List (List ℕ)) → AllHead s ws hs → AllHead f vs hs
    → map (header_content s) ws ≡ map (header_content f) vs
same_headers s f [] [] hs a b = refl
same_headers s f [] (v ∷ vs) [] a b = absurd b
same_headers s f [] (v ∷ vs) (h ∷ hs) a b = absurd a
same_headers s f (w ∷ ws) vs [] a b = absurd a
same_headers s f (w ∷ ws) [] (h ∷ hs) a b = absurd b
same_headers s f (w ∷ ws) (v ∷ vs) (h ∷ hs) (x, a) (y, b) =
    let e : header_content s w ≡ header_content f v = header_says x ∙ header_content_one x.closed y.closed ∙ sym (header_says y) in
    rw (e, same_headers s f ws vs hs a b) refl
