use mathlib.Core.Path.{ap, ◌∙◌}
use native.Mathlib.Omega.{arith}
use Rattle.std.proofs.lemmas.Bool.Decides.{nat_tests}
use Rattle.reals.specs.Answer.{told_reference}
use Rattle.reals.specs.Whole.{reference_none, reference_other, reference_bad, reference_read}
use Rattle.reals.proofs.parse_ref.Goals as goal
use Rattle.reals.proofs.parse_ref.Goals.{then-is_empty-via-then-is_empty, then-is_empty-via-else-is_empty+then-t-ne35}

-- `reals::parse_ref` meets its contract, by the laws of Whole.antt at each way out. Assumes nothing.

pub returns-then-is_empty : goal.returns-then-is_empty
returns-then-is_empty c =
    elim c.then-is_empty.branch [
      | then-is_empty-via-then-is_empty w ↦ reference_none c.args.t.now (let h = c.is_empty.ensures in let g = w.if-is_empty.true in grind (arith, nat_tests))
      | then-is_empty-via-else-is_empty+then-t-ne35 w ↦ reference_other c.args.t.now (let h = c.is_empty.ensures in let g = w.if-is_empty.false in grind (arith, nat_tests)) w.if-t-ne35.true
    ]

pub returns-in_err-plain_from : goal.returns-in_err-plain_from
returns-in_err-plain_from c =
    ap told_reference c.from_residual.ensures
    ∙ reference_bad c.args.t.now (let h = c.is_empty.ensures in let g = c.if-is_empty.false in grind (arith, nat_tests)) c.if-t-ne35.false (rw c.in_err-plain_from.was at c.plain_from.ensures)

pub returns : goal.returns
returns c =
    c.id_in_range.ensures
    ∙ reference_read c.args.t.now _ (let h = c.is_empty.ensures in let g = c.if-is_empty.false in grind (arith, nat_tests)) c.if-t-ne35.false (rw c.in_ok-plain_from.was at c.plain_from.ensures)
