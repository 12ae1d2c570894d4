-- Laws for the code: each way out of the test of a header row, and that the first is found.
-- Assumes nothing.
use Rattle.std.specs.Prelude.{ℕ, ◌-◌, ◌≡◌, List}
use Rattle.std.proofs.Common.{subst, arith}
use Rattle.statement.specs.Rows.{HeaderRow}
use Rattle.lookup.specs.Lookup.{FirstForm}
use Rattle.lookup.specs.First.{first_from}
use Rattle.lookup.specs.Laws.{first_right}
use Rattle.headers.specs.Header.{is_header, header_first}

-- the header row that is found is the first with its keyword, by the rule
pub header_right : (s : List ℕ) (head : ℕ → HeaderRow) (n : ℕ) (name : List ℕ) → FirstForm (is_header s head name) 0 n (header_first s head n name)
header_right s head n name =
    let e : n - 0 ≡ n = omega arith in
    subst (λ (z : ℕ). FirstForm (is_header s head name) 0 n (first_from (is_header s head name) z 0)) e (first_right (is_header s head name) n 0)
