use Rattle.std.proofs.Common.{◌≡◌, ◌-◌, length}
use Rattle.argument_sizes.specs.Lengths.{part_sizes_from, part_sizes_of}
use Rattle.argument_sizes.specs.Rules.{greater_sizes}
use Rattle.argument_sizes.proofs.parts_sizes.Given as goal

abbrev pub invariant-loop-i : goal.invariant-loop-i
invariant-loop-i l = greater_sizes l.most (part_sizes_from (length l.s - l.i) l.s l.at l.end) ≡ part_sizes_of l.s l.place l.end
