use Rattle.std.proofs.Common.{◌≡◌, ◌-◌, length}
use Rattle.argument_sizes.specs.Lengths.{args_from, args_of}
use Rattle.argument_sizes.specs.Rules.{greater_sizes}
use Rattle.argument_sizes.proofs.args_sizes.Given as goal

abbrev pub invariant-loop-i : goal.invariant-loop-i
invariant-loop-i l = greater_sizes l.most (args_from (length l.s - l.i) l.s l.at l.end) ≡ args_of l.s l.place l.end
