use Rattle.prefixes.specs.Prefix.{Searching, Rows}
use Rattle.prefixes.proofs.prefix_factor.Given as goal

abbrev pub invariant-loop-word : goal.invariant-loop-word
invariant-loop-word l = record { so_far : Searching l.name l.word-index; rows : Rows l.word-items }
