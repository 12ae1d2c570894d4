-- What the code's steps do.
-- Assumes nothing.
use Rattle.std.specs.Prelude.{ℕ, zero, suc, ◌+◌, ◌-◌, ◌≤◌, ◌<◌, max, min, ◌≡◌, refl, List, length, take, drop, get_or}
use Rattle.std.proofs.Common.{sym, ◌∙◌, ap, subst, arith, le-leb, eq-eqb, ne_eqb}
use Rattle.std.proofs.Math.Option.{Option, none, some}
use Rattle.std.proofs.lemmas.Bool.{lt-leb}
use Rattle.common.specs.Compare.{clash}
use Rattle.error.specs.Refusal.{Refusal, Told, good, bad}
use Rattle.statement.specs.Rows.{HeaderRow}
use Rattle.strings.specs.Answer.{largest_u64}
use Rattle.strings.specs.Text.{bytes_of}
use Rattle.params.specs.Reader.{param_of}
use Rattle.params.specs.Answer.{Read, reading, Span}
use Rattle.words.specs.Words.{is_string}
use Rattle.parts.specs.Part.{next_part_of}
use Rattle.parts.specs.Places.{AnswerIn, SomeIn, part_next_placed}
use Rattle.lists.specs.Items.{list_by}
use Rattle.lists.specs.Answer.{Fate, fine, faulty, fated, values_of, anything}
use Rattle.grids.specs.Grid.{Size, size, size_of, flat}
use Rattle.argument_sizes.specs.declared.Sizes.{Sizes}
use Rattle.argument_sizes.specs.Lengths.{sizes_of, arg_sizes_by, args_from, args_of, part_sizes_by, part_sizes_from, part_sizes_of, record_sizes_of, grid_len}
use Rattle.argument_sizes.specs.Rules.{text_len, items_len, numbers_len, rows_len, grid_rows, sizes, greater_sizes, no_sizes}

-- ---- texts
-- a parameter of one byte or none is no string, and its text has the length 0
pub len_short : (t : List ℕ) → length t < 2 → ◌≡◌ {A = ℕ} 0 (text_len t)
unfolding text_len is_string
len_short t h = rw (lt-leb 2 (length t) h) refl

-- a parameter without a quote first is no string, and its text has the length 0
pub len_other : (t : List ℕ) → 2 ≤ length t → (get_or t 0 0 ≡ 39 → ⊥) → ◌≡◌ {A = ℕ} 0 (text_len t)
unfolding text_len is_string
len_other t h n = rw (le-leb 2 (length t) h, ne_eqb (get_or t 0 0) 39 n) refl

-- the length of a string parameter's text
pub len_string : (t : List ℕ) → 2 ≤ length t → get_or t 0 0 ≡ 39 → min largest_u64 (length (bytes_of (take (length t - 1 - 1) (drop 1 t)))) ≡ text_len t
unfolding text_len is_string
len_string t h e = rw (le-leb 2 (length t) h, eq-eqb (get_or t 0 0) 39 e) refl

-- ---- lists
-- items that were counted are as many as the list has
pub items_all : (t : List ℕ) (n : ℕ) → fine n ≡ fated length (list_by anything t) → n ≡ items_len t
unfolding items_len
items_all t n e = go (list_by anything t) e
  where
    go : (x : Fate (List (Unit {0}))) → fine n ≡ fated length x → n ≡ length (values_of x)
    go (fine vs) d = cc
    go (faulty k o) d = clash (cc)

-- where no list was found to count, the parameter has no items
pub items_none : (t : List ℕ) (k o : ℕ) → faulty k o ≡ fated length (list_by anything t) → ◌≡◌ {A = ℕ} 0 (items_len t)
unfolding items_len
items_none t k o e = go (list_by anything t) e
  where
    go : (x : Fate (List (Unit {0}))) → faulty k o ≡ fated length x → ◌≡◌ {A = ℕ} 0 (length (values_of x))
    go (fine vs) d = clash (cc)
    go (faulty l p) d = refl

-- sizes that are the same number by number
pub same_sizes : {x n r x' n' r' : ℕ} → x ≡ x' → n ≡ n' → r ≡ r' → sizes x n r ≡ sizes x' n' r'
same_sizes a b c = λ i. record { text = a i; items = b i; rows = c i }

-- rows and numbers that were counted are as many as the grid has
pub grid_all : (t : List ℕ) (r n : ℕ) → fine (size r n) ≡ fated size_of (list_by (list_by anything) t) → sizes 0 n r ≡ grid_len t
grid_all t r n e = go (list_by (list_by anything) t) e
  where
    go : (x : Fate (List (List (Unit {0})))) → fine (size r n) ≡ fated size_of x → sizes 0 n r ≡ sizes 0 (length (flat (values_of x))) (length (values_of x))
    go (fine g) d = let w : size r n ≡ size_of g = cc in same_sizes refl (ap (λ (z : Size). z.numbers) w) (ap (λ (z : Size). z.rows) w)
    go (faulty k o) d = clash (cc)

-- where no list of lists was found to count, the parameter has no rows and no numbers of a grid
pub sizes_grid_none : (t : List ℕ) (k o : ℕ) → faulty k o ≡ fated size_of (list_by (list_by anything) t) → no_sizes ≡ grid_len t
sizes_grid_none t k o e = go (list_by (list_by anything) t) e
  where
    go : (x : Fate (List (List (Unit {0})))) → faulty k o ≡ fated size_of x → no_sizes ≡ sizes 0 (length (flat (values_of x))) (length (values_of x))
    go (fine g) d = clash (cc)
    go (faulty l p) d = refl

-- what a parameter needs, put together from its text, its items and its rows
pub sizes_joined : (t : List ℕ) → greater_sizes (sizes (text_len t) (items_len t) 0) (grid_len t) ≡ sizes_of t
unfolding numbers_len rows_len
sizes_joined t = same_sizes (left (text_len t)) refl (right (length (grid_rows t)))
  where
    left : (k : ℕ) → max k 0 ≡ k
    left k = omega arith

    right : (k : ℕ) → max 0 k ≡ k
    right k = omega arith

-- ---- the greater of each
-- the greater of each of three sizes is the same, whichever two are taken first
pub both_assoc : (a b c : Sizes) → greater_sizes (greater_sizes a b) c ≡ greater_sizes a (greater_sizes b c)
both_assoc a b c = same_sizes (one a.text b.text c.text) (one a.items b.items c.items) (one a.rows b.rows c.rows)
  where
    one : (i j k : ℕ) → max (max i j) k ≡ max i (max j k)
    one i j k = omega arith

-- the greater of each of some sizes and of nothing are those sizes
pub both_nothing : (a : Sizes) → greater_sizes a no_sizes ≡ a
both_nothing a = same_sizes (one a.text) (one a.items) (one a.rows)
  where
    one : (k : ℕ) → max k 0 ≡ k
    one k = omega arith

-- the greater of each of nothing and of some sizes are those sizes
pub nothing_both : (a : Sizes) → greater_sizes no_sizes a ≡ a
nothing_both a = same_sizes (one a.text) (one a.items) (one a.rows)
  where
    one : (k : ℕ) → max 0 k ≡ k
    one k = omega arith

-- ---- turns of the walk over parameters: m is needed so far, k parameters are left
-- after a parameter, the walk goes on with what that needs too
pub args_more : (s : List ℕ) (p e k : ℕ) (m r : Sizes) (a z q f : ℕ) → 0 < k → greater_sizes m (args_from k s p e) ≡ r → reading (good (record { start = a; stop = z })) q f ≡ param_of s p e → greater_sizes (greater_sizes m (sizes_of (take (z - a) (drop a s)))) (args_from (k - 1) s q e) ≡ r
unfolding args_from
args_more s p e zero m r a z q f l h g = absurd (omega arith)
args_more s p e (suc k) m r a z q f l h g =
    let j : suc k - 1 ≡ k = omega arith in
    let w = ap (λ (x : Read Span). arg_sizes_by s x.answer (args_from k s x.place e)) g in
    rw j (both_assoc m (sizes_of (take (z - a) (drop a s))) (args_from k s q e) ∙ ap (greater_sizes m) w ∙ h)

-- where the next parameter is refused, the walk over parameters ends with what is needed so far
pub args_over : (s : List ℕ) (p e k : ℕ) (m r : Sizes) (b : Refusal) (q f : ℕ) → greater_sizes m (args_from k s p e) ≡ r → reading (bad b) q f ≡ param_of s p e → m ≡ r
unfolding args_from
args_over s p e zero m r b q f h g = sym (both_nothing m) ∙ h
args_over s p e (suc k) m r b q f h g = sym (both_nothing m) ∙ ap (greater_sizes m) (ap (λ (x : Read Span). arg_sizes_by s x.answer (args_from k s x.place e)) g) ∙ h

-- where no parameter is to be looked at any more, the walk over parameters ends with what is needed so far
pub args_none : (s : List ℕ) (p e k : ℕ) (m r : Sizes) → k ≤ 0 → greater_sizes m (args_from k s p e) ≡ r → m ≡ r
unfolding args_from
args_none s p e zero m r l h = sym (both_nothing m) ∙ h
args_none s p e (suc k) m r l h = absurd (omega arith)

-- ---- turns of the walk over parts
-- what the next part and those after it need, where at most k follow
abbrev pub sizes_after_part : ℕ → List ℕ → ℕ → Told (Option HeaderRow) → Sizes
sizes_after_part k s e x = part_sizes_by x (λ y. greater_sizes (args_of s y.arg_start y.arg_end) (part_sizes_from k s (y.arg_end + 1) e))

-- after a part, the walk goes on with what that needs too
pub parts_more : (s : List ℕ) (p e k : ℕ) (m r : Sizes) (w : HeaderRow) → 0 < k → greater_sizes m (part_sizes_from k s p e) ≡ r → good (some w) ≡ next_part_of s p e → greater_sizes (greater_sizes m (args_of s w.arg_start w.arg_end)) (part_sizes_from (k - 1) s (w.arg_end + 1) e) ≡ r
unfolding part_sizes_from
parts_more s p e zero m r w l h g = absurd (omega arith)
parts_more s p e (suc k) m r w l h g =
    let j : suc k - 1 ≡ k = omega arith in
    rw j (both_assoc m (args_of s w.arg_start w.arg_end) (part_sizes_from k s (w.arg_end + 1) e) ∙ ap (greater_sizes m) (ap (sizes_after_part k s e) g) ∙ h)

-- where there is no next part, the walk over parts ends with what is needed so far
pub parts_over : (s : List ℕ) (p e k : ℕ) (m r : Sizes) → greater_sizes m (part_sizes_from k s p e) ≡ r → good none ≡ next_part_of s p e → m ≡ r
unfolding part_sizes_from
parts_over s p e zero m r h g = sym (both_nothing m) ∙ h
parts_over s p e (suc k) m r h g = sym (both_nothing m) ∙ ap (greater_sizes m) (ap (sizes_after_part k s e) g) ∙ h

-- where the next part is refused, the walk over parts ends with what is needed so far
pub parts_bad : (s : List ℕ) (p e k : ℕ) (m r : Sizes) (q : Refusal) → greater_sizes m (part_sizes_from k s p e) ≡ r → bad q ≡ next_part_of s p e → m ≡ r
unfolding part_sizes_from
parts_bad s p e zero m r q h g = sym (both_nothing m) ∙ h
parts_bad s p e (suc k) m r q h g = sym (both_nothing m) ∙ ap (greater_sizes m) (ap (sizes_after_part k s e) g) ∙ h

-- where no part is to be looked at any more, the walk over parts ends with what is needed so far
pub parts_none : (s : List ℕ) (p e k : ℕ) (m r : Sizes) → k ≤ 0 → greater_sizes m (part_sizes_from k s p e) ≡ r → m ≡ r
unfolding part_sizes_from
parts_none s p e zero m r l h = sym (both_nothing m) ∙ h
parts_none s p e (suc k) m r l h = absurd (omega arith)

-- a part's `)` stands in the file
pub part_end : (s : List ℕ) (p e : ℕ) (w : HeaderRow) → good (some w) ≡ next_part_of s p e → w.arg_end ≤ length s
part_end s p e w g = let k = subst (λ (x : Told (Option HeaderRow)). AnswerIn (length s) (SomeIn (length s) p) x) (sym g) (part_next_placed s p e) in omega (arith, k)

-- ---- a record
-- a complex record needs what its arguments need, as they stand and part by part
pub sizes_complex : (s : List ℕ) (p e complex : ℕ) → complex ≡ 1 → greater_sizes (args_of s p e) (part_sizes_of s p e) ≡ record_sizes_of s p e complex
unfolding record_sizes_of
sizes_complex s p e complex h = rw (eq-eqb complex 1 h) refl

-- a record that is not complex needs what its arguments need
pub sizes_simple : (s : List ℕ) (p e complex : ℕ) → (complex ≡ 1 → ⊥) → args_of s p e ≡ record_sizes_of s p e complex
unfolding record_sizes_of
sizes_simple s p e complex h = rw (ne_eqb complex 1 h) refl
