use Rattle.statement.specs.UsualLaws.{run_stops, run_goes}
use native.Mathlib.Omega.{arith}
use mathlib.Core.Path.{sym, refl, ◌∙◌}
use Prim.Native.Nat.{◌+◌}
use Rattle.statement.proofs.plain_run.Goals as goal

pub loop-i-init : goal.loop-i-init
loop-i-init c = ((omega arith, omega arith), refl)

pub returns-then-is_mark : goal.returns-then-is_mark
returns-then-is_mark c = let s = c.args.s.now in
    let i = c.loop-i.i in
    record { s_value = run_stops s (i) (omega arith) (sym c.is_mark.ensures ∙ c.if-is_mark.true) ∙ c.loop-i.invariant.1; lower_bound = (omega arith, omega arith) }

pub returns-then-is_mark-2 : goal.returns-then-is_mark-2
returns-then-is_mark-2 c = let s = c.args.s.now in
    let i = c.loop-i.i in
    let e1 = run_goes s (i) (omega arith) (sym c.is_mark.ensures ∙ c.if-is_mark.false) ∙ c.loop-i.invariant.1 in
    record { s_value = run_stops s (i + 1) (omega arith) (sym c.is_mark-in-loop-i.ensures ∙ c.if-is_mark-2.true) ∙ e1; lower_bound = (omega arith, omega arith) }

pub returns-then-is_mark-3 : goal.returns-then-is_mark-3
returns-then-is_mark-3 c = let s = c.args.s.now in
    let i = c.loop-i.i in
    let e1 = run_goes s (i) (omega arith) (sym c.is_mark.ensures ∙ c.if-is_mark.false) ∙ c.loop-i.invariant.1 in
    let e2 = run_goes s (i + 1) (omega arith) (sym c.is_mark-in-loop-i.ensures ∙ c.if-is_mark-2.false) ∙ e1 in
    record { s_value = run_stops s (i + 1 + 1) (omega arith) (sym c.is_mark-in-loop-i-2.ensures ∙ c.if-is_mark-3.true) ∙ e2; lower_bound = (omega arith, omega arith) }

pub returns-then-is_mark-4 : goal.returns-then-is_mark-4
returns-then-is_mark-4 c = let s = c.args.s.now in
    let i = c.loop-i.i in
    let e1 = run_goes s (i) (omega arith) (sym c.is_mark.ensures ∙ c.if-is_mark.false) ∙ c.loop-i.invariant.1 in
    let e2 = run_goes s (i + 1) (omega arith) (sym c.is_mark-in-loop-i.ensures ∙ c.if-is_mark-2.false) ∙ e1 in
    let e3 = run_goes s (i + 1 + 1) (omega arith) (sym c.is_mark-in-loop-i-2.ensures ∙ c.if-is_mark-3.false) ∙ e2 in
    record { s_value = run_stops s (i + 1 + 1 + 1) (omega arith) (sym c.is_mark-in-loop-i-3.ensures ∙ c.if-is_mark-4.true) ∙ e3; lower_bound = (omega arith, omega arith) }

pub loop-i-preserved : goal.loop-i-preserved
loop-i-preserved c = let s = c.args.s.now in
    let i = c.loop-i.i in
    let e1 = run_goes s (i) (omega arith) (sym c.is_mark.ensures ∙ c.if-is_mark.false) ∙ c.loop-i.invariant.1 in
    let e2 = run_goes s (i + 1) (omega arith) (sym c.is_mark-in-loop-i.ensures ∙ c.if-is_mark-2.false) ∙ e1 in
    let e3 = run_goes s (i + 1 + 1) (omega arith) (sym c.is_mark-in-loop-i-2.ensures ∙ c.if-is_mark-3.false) ∙ e2 in
    ((omega arith, omega arith), run_goes s (i + 1 + 1 + 1) (omega arith) (sym c.is_mark-in-loop-i-3.ensures ∙ c.if-is_mark-4.false) ∙ e3)

pub returns : goal.returns
returns c = record { s_value = c.last_run.ensures.s_value ∙ c.loop-i.invariant.1; lower_bound = (omega (arith, c.last_run.ensures.lower_bound), c.last_run.ensures.lower_bound.1) }
