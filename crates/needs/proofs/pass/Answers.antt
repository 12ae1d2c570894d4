use Rattle.std.proofs.Common.{Ok, Err, rules, ◌≡◌}
use Rattle.error.specs.Refusal.{told_result}
use Rattle.statement.specs.declared.Said.{Said}
use native.Mathlib.Omega.{arith}
use mathlib.Core.Path.{◌∙◌, sym, ap}
use Rattle.statement.specs.Answer.{told_said}
use Rattle.needs.specs.Laws.{counting_starts, counting_ends, counting_refused, counting_moves, counting_header, counting_record}
use Rattle.needs.proofs.pass.Goals as goal

pub read-init : goal.read-init
read-init c = counting_starts c.args.s.now

pub returns-in-Ends : goal.returns-in-Ends
returns-in-Ends c =
    let a = c.args in
    (counting_ends _ _ _ _ _ _ _ c.read.invariant (sym (ap (λ (x : Said). told_said a.s.now (Ok x)) c.in-Ends.is) ∙ c.in_ok-said.ensures.result_value))

pub returns-in_err-said : goal.returns-in_err-said
returns-in_err-said c =
    let k : c.from_residual.result ≡ Err c.in_err-said.field-0.0 = search rules in
    ap told_result k ∙ counting_refused _ _ _ _ _ _ _ c.read.invariant _ c.in_err-said.ensures.result_value

pub read-smaller-in-Moves : goal.read-smaller-in-Moves
read-smaller-in-Moves c =
    let a = c.args in
    let w = rw c.in-Moves.is at c.in_ok-said.ensures.ahead in
    omega arith

pub read-preserved-in-Moves : goal.read-preserved-in-Moves
read-preserved-in-Moves c =
    let a = c.args in
    let w = rw c.in-Moves.is at c.in_ok-said.ensures.ahead in
    counting_moves _ _ _ _ _ _ _ c.read.invariant _ _ (sym (ap (λ (x : Said). told_said a.s.now (Ok x)) c.in-Moves.is) ∙ c.in_ok-said.ensures.result_value) w.0 w.1

pub overflow_add-headers : goal.overflow_add-headers
overflow_add-headers c =
    let a = c.args in
    let w = rw c.in-Heads.is at c.in_ok-said.ensures.ahead in
    omega (arith, c.read.invariant.hroom)

pub read-smaller-in-Heads : goal.read-smaller-in-Heads
read-smaller-in-Heads c =
    let a = c.args in
    let w = rw c.in-Heads.is at c.in_ok-said.ensures.ahead in
    omega arith

pub read-preserved-in-Heads : goal.read-preserved-in-Heads
read-preserved-in-Heads c =
    let a = c.args in
    let w = rw c.in-Heads.is at c.in_ok-said.ensures.ahead in
    rw c.with_record-most.ensures (counting_header _ _ _ _ _ _ _ c.read.invariant _ c.in-Heads.field-1 _ (sym (ap (λ (x : Said). told_said a.s.now (Ok x)) c.in-Heads.is) ∙ c.in_ok-said.ensures.result_value) w.0 w.2)

pub overflow_add-records : goal.overflow_add-records
overflow_add-records c =
    let a = c.args in
    let w = rw c.in-Records.is at c.in_ok-said.ensures.ahead in
    omega (arith, c.read.invariant.rroom)

pub read-smaller : goal.read-smaller
read-smaller c =
    let a = c.args in
    let w = rw c.in-Records.is at c.in_ok-said.ensures.ahead in
    omega arith

pub read-preserved : goal.read-preserved
read-preserved c =
    let a = c.args in
    let w = rw c.in-Records.is at c.in_ok-said.ensures.ahead in
    rw (c.with_record-most-in-Records.ensures, c.max-max.ensures) (counting_record _ _ _ _ _ _ _ c.read.invariant _ c.in-Records.field-1 _ (sym (ap (λ (x : Said). told_said a.s.now (Ok x)) c.in-Records.is) ∙ c.in_ok-said.ensures.result_value) w.0 w.2)
