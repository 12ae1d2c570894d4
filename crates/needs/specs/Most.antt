-- What is told of a file's texts, lists and grids is the most of all parameters of all its records: none has more, and one has just so much.
-- Assumes nothing.
use Rattle.std.specs.Prelude.{ℕ, ◌≤◌, max, ◌≡◌, refl}
use Rattle.std.proofs.Common.{sym, ap, subst, arith}
use mathlib.Core.List.{List, [], ◌∷◌, ◌++◌}
use Rattle.std.proofs.Math.Logic.{inl}
use Rattle.statement.specs.Rows.{Row, HeaderRow}
use Rattle.scan.specs.Records.{Table}
use Rattle.argument_sizes.specs.declared.Sizes.{Sizes}
use Rattle.argument_sizes.specs.Lengths.{record_sizes_of}
use Rattle.argument_sizes.specs.Rules.{text_len, numbers_len, rows_len, greater_sizes, no_sizes, Arg, Attained, Greatest}
use Rattle.argument_sizes.specs.Greatest.{either, found_also, text_greatest, items_greatest, rows_greatest}
use Rattle.needs.specs.Needs.{most_of, head_sizes, row_sizes, needs_in, RowAmong, Among}

module _ (π : Sizes → ℕ) (f : List ℕ → ℕ) (least : π no_sizes ≡ 0) (join : (a b : Sizes) → π (greater_sizes a b) ≡ max (π a) (π b)) where
  -- rows of any kind, each of whose own parameters has at most what g tells, and one just so much
  module _ {R : Type 0} (g : R → Sizes) (P : R → List ℕ → Type 0) (each : (w : R) → Greatest (P w) f (π (g w))) where
    -- a parameter of one of some rows
    abbrev Of : List R → List ℕ → Type 0
    Of ws t = (w : R) × RowAmong w ws × P w t

    -- no row has more than is told of all rows
    rows_all : (vs : List R) (w : R) (ws : List R) → π (g w) ≤ π (most_of g (vs ++ (w ∷ ws)))
    unfolding most_of
    rows_all [] w ws = omega (arith, join (g w) (most_of g ws))
    rows_all (v ∷ vs) w ws = omega (arith, join (g v) (most_of g (vs ++ (w ∷ ws))), rows_all vs w ws)

    -- a parameter of one of some rows has no more than is told of all
    of_all : (ws : List R) (t : List ℕ) → Of ws t → f t ≤ π (most_of g ws)
    of_all ws t (w, i, d) = let k = subst (λ (l : List R). π (g w) ≤ π (most_of g l)) (sym i.shape) (rows_all i.before w i.behind) in omega (arith, k, (each w).all t d)

    -- a parameter of the first of some rows is a parameter of one of them
    of_first : (w : R) (ws : List R) (t : List ℕ) → P w t → Of (w ∷ ws) t
    of_first w ws t d = (w, record { before = []; behind = ws; shape = refl }, d)

    -- a parameter of one of the later rows is a parameter of one of all of them
    of_later : (w : R) (ws : List R) (t : List ℕ) → Of ws t → Of (w ∷ ws) t
    of_later w ws t (v, i, d) = (v, record { before = w ∷ i.before; behind = i.behind; shape = ap (λ (l : List R). w ∷ l) i.shape }, d)

    -- some parameter of one of some rows has just as much as is told of all
    of_one : (ws : List R) → Attained f (Of ws) (π (most_of g ws))
    unfolding most_of
    of_one [] = inl least
    of_one (w ∷ ws) =
        either f (Of (w ∷ ws)) (π (g w)) (π (most_of g ws)) (π (greater_sizes (g w) (most_of g ws))) (join (g w) (most_of g ws)) (found_also f (P w) (Of (w ∷ ws)) (π (g w)) (of_first w ws) (each w).one)
        (found_also f (Of ws) (Of (w ∷ ws)) (π (most_of g ws)) (of_later w ws) (of_one ws))

  module _ (s : List ℕ) (each : (p e complex : ℕ) → Greatest (Arg s p e complex) f (π (record_sizes_of s p e complex))) (k : Table) where
    -- what a header record needs
    abbrev head_of : HeaderRow → Sizes
    head_of w = record_sizes_of s w.arg_start w.arg_end 0

    -- the parameters of a header record
    abbrev HeadArg : HeaderRow → List ℕ → Type 0
    HeadArg w t = Arg s w.arg_start w.arg_end 0 t

    -- what a data record needs
    abbrev row_of : Row → Sizes
    row_of w = record_sizes_of s w.arg_start w.arg_end w.complex

    -- the parameters of a data record
    abbrev RowArg : Row → List ℕ → Type 0
    RowArg w t = Arg s w.arg_start w.arg_end w.complex t

    -- what the rows of both kinds of a table need
    abbrev told : Sizes
    told = greater_sizes (head_sizes s k.headers) (row_sizes s k.records)

    -- no parameter of a table's records has more than is told
    among_all : (t : List ℕ) → Among s k t → f t ≤ π told
    among_all t (Among.header w i d) = omega (arith, of_all head_of HeadArg (λ v. each v.arg_start v.arg_end 0) k.headers t (w, i, d), join (head_sizes s k.headers) (row_sizes s k.records))
    among_all t (Among.datum w i d) = omega (arith, of_all row_of RowArg (λ v. each v.arg_start v.arg_end v.complex) k.records t (w, i, d), join (head_sizes s k.headers) (row_sizes s k.records))

    -- a parameter of one of a table's header records is a parameter of one of its records
    as_header : (t : List ℕ) → Of head_of HeadArg (λ v. each v.arg_start v.arg_end 0) k.headers t → Among s k t
    as_header t (w, i, d) = Among.header w i d

    -- a parameter of one of a table's data records is a parameter of one of its records
    as_datum : (t : List ℕ) → Of row_of RowArg (λ v. each v.arg_start v.arg_end v.complex) k.records t → Among s k t
    as_datum t (w, i, d) = Among.datum w i d

    -- what is told of a table is the greatest of all its records' parameters
    among_greatest : Greatest (Among s k) f (π told)
    among_greatest = record {
      all = among_all;
      one =
          either f (Among s k) (π (head_sizes s k.headers)) (π (row_sizes s k.records)) (π told) (join (head_sizes s k.headers) (row_sizes s k.records))
          (found_also f (Of head_of HeadArg (λ v. each v.arg_start v.arg_end 0) k.headers) (Among s k) (π (head_sizes s k.headers)) as_header (of_one head_of HeadArg (λ v. each v.arg_start v.arg_end 0) k.headers))
          (found_also f (Of row_of RowArg (λ v. each v.arg_start v.arg_end v.complex) k.records) (Among s k) (π (row_sizes s k.records)) as_datum (of_one row_of RowArg (λ v. each v.arg_start v.arg_end v.complex) k.records));
    }

-- what is told of a file's texts is the longest among all its records' parameters
pub text_most : (s : List ℕ) (k : Table) → Greatest (Among s k) text_len (needs_in s k).text
text_most s k = among_greatest (λ a. a.text) text_len refl (λ a b. refl) s (text_greatest s) k

-- what is told of a file's numbers is the most of a list or a grid among all its records' parameters
pub items_most : (s : List ℕ) (k : Table) → Greatest (Among s k) numbers_len (needs_in s k).items
items_most s k = among_greatest (λ a. a.items) numbers_len refl (λ a b. refl) s (items_greatest s) k

-- what is told of a file's rows is the most of a grid among all its records' parameters
pub rows_most : (s : List ℕ) (k : Table) → Greatest (Among s k) rows_len (needs_in s k).rows
rows_most s k = among_greatest (λ a. a.rows) rows_len refl (λ a b. refl) s (rows_greatest s) k
