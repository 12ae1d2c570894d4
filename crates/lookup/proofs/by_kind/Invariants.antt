use Rattle.std.proofs.Common.{◌≡◌, ◌-◌}
use Rattle.lookup.specs.First.{first_from}
use Rattle.lookup.specs.Lookup.{row_is_kind}
use Rattle.lookup.proofs.by_kind.Given as goal

abbrev pub invariant-loop-i : goal.invariant-loop-i
invariant-loop-i l = first_from (row_is_kind l.file l.rows l.kind) (l.i-end - l.i) l.i ≡ first_from (row_is_kind l.file l.rows l.kind) (l.i-end - l.from) l.from
