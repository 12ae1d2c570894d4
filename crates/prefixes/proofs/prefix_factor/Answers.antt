use mathlib.Core.Path.{refl, sym, ◌∙◌}
use native.Mathlib.Omega.{arith}
use Rattle.prefixes.specs.Prefix.{none_found, row_found, row_passed}
use Rattle.prefixes.proofs.prefix_factor.Goals as goal

-- `prefixes::prefix_factor` meets its contract: the rows before have other names, and each row keeps its rule. Assumes nothing.

pub loop-word-init : goal.loop-word-init
loop-word-init c = record { so_far = (omega arith, omega arith); rows = record { same = refl } }

pub returns-then-is_word : goal.returns-then-is_word
returns-then-is_word c =
    row_found _ _ c.args.name.now c.loop-word.word-index c.loop-word-test.true (sym c.is_word.ensures ∙ c.if-is_word.true) c.loop-word.invariant.so_far c.loop-word.invariant.rows

pub loop-word-preserved : goal.loop-word-preserved
loop-word-preserved c =
    record {
      so_far = row_passed _ _ c.args.name.now c.loop-word.word-index c.loop-word-test.true (sym c.is_word.ensures ∙ c.if-is_word.false) c.loop-word.invariant.so_far c.loop-word.invariant.rows;
      rows = c.loop-word.invariant.rows;
    }

pub returns : goal.returns
returns c = none_found c.args.name.now c.loop-word.word-index (omega arith) c.loop-word.invariant.so_far
