-- The id index: what the slots hold, and what stands beside them.
-- Assumes nothing.
-- Definitions to be believed: no law, and nothing computed that no theorem ties (docs/BELIEVE.md).
use Rattle.std.specs.Prelude.{ℕ, ◌+◌, ◌-◌, ◌*◌, ◌/◌, ◌^◌, ◌≤◌, ◌<◌, max, ◌≡◌, Bool, true, false, List, eqb, length, get_or, drop}
use Rattle.common.specs.Pick.{pick}
use Rattle.index.specs.KeyOrder.{key_of, slot_row, Rises, Steady, TestTells}
use Rattle.index.specs.declared.Ids.{Ids}

-- a slot, one of the first n, holds the key of row r
pub record KeySlot (f : ℕ → ℕ) (n r : ℕ) (xs : List ℕ) : Type 0 where
  pub slot : ℕ
  pub inside : slot < n
  pub holds : get_or xs slot 0 ≡ key_of f r

-- a row, one of n, whose key is s
pub record Keeps (f : ℕ → ℕ) (n s : ℕ) : Type 0 where
  pub row : ℕ
  pub inside : row < n
  pub key : s ≡ key_of f row

-- the slots xs are the index of n rows: each holds the key of a row, each row's key stands in one, and they rise
pub record IsIndex (f : ℕ → ℕ) (n : ℕ) (xs : List ℕ) : Type 0 where
  pub keys : (i : ℕ) → i < n → Keeps f n (get_or xs i 0)
  pub whole : (r : ℕ) → r < n → KeySlot f n r xs
  pub order : (i j : ℕ) → i < j → j < n → get_or xs i 0 < get_or xs j 0

-- in rows whose ids rise, those with ids from x on begin at row c: the rows before it have lesser ids, it and the rows behind it have not
pub record RowsStart (f : ℕ → ℕ) (n x c : ℕ) : Type 0 where
  pub inside : c ≤ n
  pub below : (i : ℕ) → i < c → f i < x
  pub from : (i : ℕ) → c ≤ i → i < n → x ≤ f i

-- the slots xs are the guide to n rows whose ids rise: slot k holds the row where the ids from first + k * 2^shift on begin, which is how
-- many rows have lesser ids
abbrev pub Guides : (ℕ → ℕ) → ℕ → ℕ → ℕ → List ℕ → Type 0
Guides f n first shift xs = (k : ℕ) → k < n → RowsStart f n (first + k * 2 ^ shift) (get_or xs k 0)

-- what n slots hold: the guide where ids rise in file order, else the index
abbrev pub SlotsHold : Bool → (ℕ → ℕ) → ℕ → ℕ → ℕ → List ℕ → Type 0
SlotsHold true f n first shift xs = Guides f n first shift xs
SlotsHold false f n first shift xs = IsIndex f n xs

-- the shift for n rows whose ids have this span: the least by which there are not more ranges of 2^s ids than rows (than two, where
-- there are fewer rows); ids have 32 binary digits
pub record IsShift (span n s : ℕ) : Type 0 where
  pub fits : span / 2 ^ s < max 2 n
  pub least : (t : ℕ) → t < s → max 2 n ≤ span / 2 ^ t
  pub short : s < 32

-- the id of row r, which stands at an end of n slots; 0 where there are none, so that no memory is told that was never written
abbrev pub end_id : (ℕ → ℕ) → ℕ → ℕ → ℕ
end_id f n r = pick (eqb n 0) 0 (f r)

-- what `build` leaves for n rows: the guide or the index in the first n slots, the slots past it as they were, and beside them how many
-- rows there are, the least id and the greatest (0 where there are none), whether ids rise in file order, whether they rise once sorted and
-- whether by one step, and the shift
pub record Built (f : ℕ → ℕ) (n : ℕ) (before after : List ℕ) (b : Ids) : Type 0 where
  pub held : SlotsHold b.direct f n b.first b.shift after
  pub rest : drop n after ≡ drop n before
  pub size : length after ≡ length before
  pub count : b.count ≡ n
  pub first : b.first ≡ end_id f n (slot_row b.direct after 0)
  pub last : b.last ≡ end_id f n (slot_row b.direct after (n - 1))
  pub direct : TestTells b.direct (Rises f (λ i. i) n)
  pub distinct : TestTells b.distinct (Rises f (slot_row b.direct after) n)
  pub even : TestTells b.even (Steady f (slot_row b.direct after) n)
  pub shift : IsShift (b.last - b.first) n b.shift
