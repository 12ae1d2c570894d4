use Rattle.std.proofs.Common.{◌≡◌, ◌-◌}
use Rattle.table.specs.Table.{header_numbers}
use Rattle.lookup.specs.First.{first_from}
use Rattle.headers.specs.Header.{is_header}
use Rattle.headers.proofs.header_row.Given as goal

abbrev pub invariant-loop-k : goal.invariant-loop-k
invariant-loop-k l = first_from (is_header l.file (header_numbers l.heads) l.name) (l.k-end - l.k) l.k ≡ first_from (is_header l.file (header_numbers l.heads) l.name) l.k-end 0
