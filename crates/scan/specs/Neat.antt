-- A file whose data records are all tidy (statement/specs/Tidy): the deciding pass finds out whether it is one, and the writing pass then
-- reads each record by its first `;`. No contract of a public function cites these. Assumes nothing.
use Rattle.std.specs.Prelude.{ℕ, ◌≡◌, refl, Bool, true, false, ◌&&◌, List, drop, Result, Ok, Err}
use Rattle.std.proofs.Common.{sym, ◌∙◌, ap}
use Rattle.common.specs.Compare.{clash}
use Rattle.common.specs.Tests.{both}
use Rattle.error.specs.Refusal.{Told, good, bad, told}
use Rattle.statement.specs.Rows.{Row, HeaderRow, reading_ends, section_now, header_statement, data_statement}
use Rattle.statement.specs.Statement.{statement}
use Rattle.statement.specs.Tidy.{tidy}
use Rattle.statement.specs.declared.Section.{Section}
use Rattle.statement.specs.declared.Section.TheVariants.{Outside, InHeader, InData}
use Rattle.error.specs.declared.Fault.{Fault}
use Rattle.scan.specs.ScanMemory.{Counts}
use Rattle.scan.specs.declared.Task.{Task}
use Rattle.scan.specs.declared.Task.TheVariants.{Count, Store, StoreTidy}

-- from the rest xs on, in a section, nothing is refused and each data record is tidy, up to where the reading ends
pub data Neat (s : List ℕ) : Section → List ℕ → Type 0 where
  over : {sec : Section} {xs : List ℕ} → reading_ends ≡ statement s sec xs → Neat s sec xs
  on : {sec : Section} {xs : List ℕ} (to : Section) (t : List ℕ) → section_now to t ≡ statement s sec xs → Neat s to t → Neat s sec xs
  head : {sec : Section} {xs : List ℕ} (w : HeaderRow) (ys t : List ℕ) → header_statement w ys t ≡ statement s sec xs → Neat s InHeader t → Neat s sec xs
  row : {sec : Section} {xs : List ℕ} (w : Row) (ys t : List ℕ) → data_statement w ys t ≡ statement s sec xs → tidy s (data_statement w ys t) ≡ true → Neat s InData t
      → Neat s sec xs

-- whether a pass stores the rows that it finds
abbrev pub writes : Task → Bool
writes Count = false
writes Store = true
writes StoreTidy = true

-- whether a pass has been told that every data record is tidy
abbrev pub knows : Task → Bool
knows Count = false
knows Store = false
knows StoreTidy = true

-- a pass that has been told so stores its rows
pub knows_writes : (t : Task) → knows t ≡ true → writes t ≡ true
knows_writes Count e = clash (cc)
knows_writes Store e = clash (cc)
knows_writes StoreTidy e = refl

-- what a pass over the file tells: its counts, or a refusal
abbrev pub told_passed : Result (Counts × Bool) Fault → Told Counts
told_passed (Ok (c, b)) = good c
told_passed (Err f) = bad (told f)

-- where a pass tells that all data records were tidy, the file is neat
abbrev pub NeatTold : List ℕ → Result (Counts × Bool) Fault → Type 0
NeatTold s (Ok (c, b)) = b ≡ true → Neat s Outside s
NeatTold s (Err f) = Unit {0}

-- the pass at the place i: where all was tidy so far, the whole file is neat if what is left is; and what is left is, where that was known
pub record Tidying (s : List ℕ) (known all : Bool) (i : ℕ) (sec : Section) : Type 0 where
  pub back : all ≡ true → Neat s sec (drop i s) → Neat s Outside s
  pub ahead : known ≡ true → Neat s sec (drop i s)

module _ (s : List ℕ) (sec : Section) (xs : List ℕ) where
  -- each statement of a neat file is tidy
  pub neat_tidy : Neat s sec xs → tidy s (statement s sec xs) ≡ true
  neat_tidy (Neat.over q) = ap (tidy s) (sym q)
  neat_tidy (Neat.on to t q n) = ap (tidy s) (sym q)
  neat_tidy (Neat.head w ys t q n) = ap (tidy s) (sym q)
  neat_tidy (Neat.row w ys t q h n) = ap (tidy s) (sym q) ∙ h

  -- what follows a section word or an ignored record in a neat file is neat
  neat_on : (to : Section) (t : List ℕ) → section_now to t ≡ statement s sec xs → Neat s sec xs → Neat s to t
  neat_on to t e (Neat.over q) = clash (cc)
  neat_on to t e (Neat.on to' t' q n) = let a : to' ≡ to = cc in let b : t' ≡ t = cc in rw (← a, ← b) n
  neat_on to t e (Neat.head w ys t' q n) = clash (cc)
  neat_on to t e (Neat.row w ys t' q h n) = clash (cc)

  -- what follows a header record in a neat file is neat
  neat_head : (w : HeaderRow) (ys t : List ℕ) → header_statement w ys t ≡ statement s sec xs → Neat s sec xs → Neat s InHeader t
  neat_head w ys t e (Neat.over q) = clash (cc)
  neat_head w ys t e (Neat.on to' t' q n) = clash (cc)
  neat_head w ys t e (Neat.head w' ys' t' q n) = let b : t' ≡ t = cc in rw (← b) n
  neat_head w ys t e (Neat.row w' ys' t' q h n) = clash (cc)

  -- what follows a data record in a neat file is neat
  pub neat_row : (w : Row) (ys t : List ℕ) → data_statement w ys t ≡ statement s sec xs → Neat s sec xs → Neat s InData t
  neat_row w ys t e (Neat.over q) = clash (cc)
  neat_row w ys t e (Neat.on to' t' q n) = clash (cc)
  neat_row w ys t e (Neat.head w' ys' t' q n) = clash (cc)
  neat_row w ys t e (Neat.row w' ys' t' q h n) = let b : t' ≡ t = cc in rw (← b) n

-- what the pass knows of tidy records holds where the loop begins
pub tidying_starts : (s : List ℕ) (known : Bool) → (known ≡ true → Neat s Outside s) → Tidying s known true 0 Outside
tidying_starts s known h = record { back = λ z n. n; ahead = h }

module _ (s : List ℕ) (known all : Bool) (i : ℕ) (sec : Section) (g : Tidying s known all i sec) where
  -- where the whole file is known to be neat, the next statement is tidy
  pub tidying_known : known ≡ true → tidy s (statement s sec (drop i s)) ≡ true
  tidying_known k = neat_tidy s sec (drop i s) (g.ahead k)

  module _ (b : Bool) (e : b ≡ tidy s (statement s sec (drop i s))) where
    -- where the file ends and all its records were tidy, it is neat
    pub tidying_ends : reading_ends ≡ statement s sec (drop i s) → all && b ≡ true → Neat s Outside s
    tidying_ends q z = g.back (both all b z).0 (Neat.over q)

    -- what the pass knows of tidy records holds after a section word or an ignored record
    pub tidying_moves : (to : Section) (n : ℕ) → section_now to (drop n s) ≡ statement s sec (drop i s) → Tidying s known (all && b) n to
    tidying_moves to n q = record {
      back = λ z m. g.back (both all b z).0 (Neat.on to (drop n s) q m);
      ahead = λ k. neat_on s sec (drop i s) to (drop n s) q (g.ahead k);
    }

    -- what the pass knows of tidy records holds after a header record
    pub tidying_header : (w : HeaderRow) (p n : ℕ) → header_statement w (drop p s) (drop n s) ≡ statement s sec (drop i s) → Tidying s known (all && b) n InHeader
    tidying_header w p n q = record {
      back = λ z m. g.back (both all b z).0 (Neat.head w (drop p s) (drop n s) q m);
      ahead = λ k. neat_head s sec (drop i s) w (drop p s) (drop n s) q (g.ahead k);
    }

    -- what the pass knows of tidy records holds after a data record
    pub tidying_record : (w : Row) (p n : ℕ) → data_statement w (drop p s) (drop n s) ≡ statement s sec (drop i s) → Tidying s known (all && b) n InData
    tidying_record w p n q = record {
      back = λ z m. g.back (both all b z).0 (Neat.row w (drop p s) (drop n s) q (ap (tidy s) q ∙ sym e ∙ (both all b z).1) m);
      ahead = λ k. neat_row s sec (drop i s) w (drop p s) (drop n s) q (g.ahead k);
    }
