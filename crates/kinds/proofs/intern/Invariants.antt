use Rattle.std.proofs.Common.{◌≡◌, drop}
use Rattle.kinds.specs.Kind.{kind_of_keyword, kind_among, named_kinds}
use Rattle.kinds.proofs.intern.Given as goal

abbrev pub invariant-loop-kind : goal.invariant-loop-kind
invariant-loop-kind l = kind_among (drop l.kind-index named_kinds) l.kw ≡ kind_of_keyword l.kw
