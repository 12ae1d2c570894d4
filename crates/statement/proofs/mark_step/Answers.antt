use Rattle.statement.specs.UsualLaws.{open_at, close_at, other_at}
use Rattle.std.proofs.Common.{rules, ◌≡◌, ◌≤◌, ◌-◌, arith}
use Rattle.statement.proofs.mark_step.Goals as goal

pub returns-in-40 : goal.returns-in-40
returns-in-40 c = (omega arith, omega arith, omega arith, open_at c.args.s.now c.args.i c.args.depth c.requires.0 c.in-40.is)

pub returns-in_ok-checked_sub-in-41 : goal.returns-in_ok-checked_sub-in-41
returns-in_ok-checked_sub-in-41 c = let a = c.args in
    let k : (1 ≤ a.depth) × (c.in_ok-checked_sub-in-41.field-0 ≡ a.depth - 1) = search rules in
    (omega arith, omega arith, omega arith, rw k.1 (close_at a.s.now a.i a.depth c.requires.0 c.in-41.is (λ z. omega arith)))

pub returns-else-c-lt64 : goal.returns-else-c-lt64
returns-else-c-lt64 c =
    (omega arith, omega arith, omega arith, other_at c.args.s.now c.args.i c.args.depth c.requires.0 (λ e. omega arith) (λ e. omega arith) (λ e. omega arith) (λ e. omega arith) (λ e. omega arith))
