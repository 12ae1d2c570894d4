-- A run of tidy data records, as the writing pass reads them one after the other: what it leaves, and that it is what the reading takes
-- statement by statement. No contract of a public function cites it. Assumes nothing.
use Rattle.std.specs.Prelude.{ℕ, ◌+◌, ◌≤◌, ◌<◌, max, ◌≡◌, refl, Bool, true, List, length, drop}
use Rattle.std.proofs.Common.{sym, ◌∙◌, ap, subst, arith}
use Rattle.std.proofs.Math.Bool.{and-true}
use Rattle.common.specs.Pick.{pick}
use Rattle.statement.specs.Rows.{Row, data_statement}
use Rattle.statement.specs.Statement.{statement}
use Rattle.statement.specs.Tidy.{tidy}
use Rattle.statement.specs.declared.Section.TheVariants.{InData}
use Rattle.table.specs.Table.{rows_fit, six, row_put}
use Rattle.table.specs.Laws.{put_length}
use Rattle.scan.specs.Laws.{Going, going_record}
use Rattle.scan.specs.Neat.{Tidying, tidying_record}

-- from the place i, after r rows and with the largest id m, records are read up to the place j and stored one after the other, as long as rows
-- are left and only where that may be done
pub data RecordsRan (s : List ℕ) (room : ℕ) (known : Bool) (i r m : ℕ) (xs : List ℕ) : ℕ → ℕ → ℕ → List ℕ → Type 0 where
  none : RecordsRan s room known i r m xs i r m xs
  more : {j q k : ℕ} {ys : List ℕ} → RecordsRan s room known i r m xs j q k ys → known ≡ true → (w : Row) (p n : ℕ) → data_statement w (drop p s) (drop n s) ≡ statement s InData (drop j s)
      → tidy s (statement s InData (drop j s)) ≡ true → j < n → n ≤ length s → q < room → RecordsRan s room known i r m xs n (q + 1) (max k w.id) (row_put ys q w)

module _ (s : List ℕ) (room : ℕ) (known : Bool) (i r m : ℕ) (xs : List ℕ) where
  -- a run of tidy records does not end before it begins
  pub records_ran_on : {j q k : ℕ} {ys : List ℕ} → RecordsRan s room known i r m xs j q k ys → i ≤ j
  records_ran_on RecordsRan.none = omega arith
  records_ran_on (RecordsRan.more h e w p n d t l b a) = let z = records_ran_on h in omega arith

  -- a run of tidy records ends in the file
  pub records_ran_in : {j q k : ℕ} {ys : List ℕ} → i ≤ length s → RecordsRan s room known i r m xs j q k ys → j ≤ length s
  records_ran_in o RecordsRan.none = o
  records_ran_in o (RecordsRan.more h e w p n d t l b a) = b

  -- a run of tidy records leaves the lent rows as long as before
  pub records_ran_length : {j q k : ℕ} {ys : List ℕ} → RecordsRan s room known i r m xs j q k ys → length ys ≡ length xs
  records_ran_length RecordsRan.none = refl
  records_ran_length (RecordsRan.more {q = q} {ys = ys} h e w p n d t l b a) = put_length 6 ys q (six w) ∙ records_ran_length h

  -- after a run of tidy records the reading goes on as if each record had been taken by itself
  pub going_ran : (H : ℕ) (write : Bool) (h₀ r₀ : List ℕ) (h : ℕ) (hnow : List ℕ) {j q k : ℕ} {ys : List ℕ} → room ≤ rows_fit (length r₀) → (known ≡ true → write ≡ true)
      → Going s H room write h₀ r₀ i InData h r m hnow xs → RecordsRan s room known i r m xs j q k ys → Going s H room write h₀ r₀ j InData h q k hnow ys
  going_ran H write h₀ r₀ h hnow o f g RecordsRan.none = g
  going_ran H write h₀ r₀ h hnow o f g (RecordsRan.more {j} {q} {k} {ys} z e w p n d t l b a) =
      subst (λ (zs : List ℕ). Going s H room write h₀ r₀ n InData h (q + 1) (max k w.id) hnow zs)
      (ap (λ (c : Bool). pick c (row_put ys q w) ys) (f e))
      (going_record s H room write h₀ r₀ j InData h q k hnow ys (going_ran H write h₀ r₀ h hnow o f g z) w p n d l b a (omega arith))

-- after a run of tidy records, what is known of tidy records is known still
pub tidying_ran : (s : List ℕ) (room : ℕ) (known all : Bool) (i r m : ℕ) (xs : List ℕ) {j q k : ℕ} {ys : List ℕ} → Tidying s known all i InData → RecordsRan s room known i r m xs j q k ys → Tidying s known all j InData
tidying_ran s room known all i r m xs y RecordsRan.none = y
tidying_ran s room known all i r m xs y (RecordsRan.more {j} z e w p n d t l b a) =
    subst (λ (c : Bool). Tidying s known c n InData) (and-true all)
    (tidying_record s known all j InData (tidying_ran s room known all i r m xs y z) true (sym t) w p n d)
