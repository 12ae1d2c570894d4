use Rattle.statement.specs.UsualLaws.{spoken_stops, spoken_goes}
use native.Mathlib.Omega.{arith}
use Rattle.std.proofs.Common.{◌≡◌, refl, sym, ◌∙◌}
use Rattle.statement.proofs.text_bytes.Goals as goal

pub loop-i-init : goal.loop-i-init
loop-i-init c = ((omega arith, omega arith), refl)

pub returns-then-is_stop : goal.returns-then-is_stop
returns-then-is_stop c = let s = c.args.s.now in
    record { s_value = c.loop-i.invariant.1; lower_bound = (omega arith, omega arith); s_value_2 = λ z. spoken_stops s c.loop-i.i (omega arith) (sym c.is_stop.ensures ∙ c.if-is_stop.true) }

pub loop-i-preserved : goal.loop-i-preserved
loop-i-preserved c = let s = c.args.s.now in
    ((omega arith, omega arith), spoken_goes s c.loop-i.i (omega arith) (sym c.is_stop.ensures ∙ c.if-is_stop.false) ∙ c.loop-i.invariant.1)

pub returns : goal.returns
returns c = let e : c.loop-i.i ≡ c.args.end = omega arith in
    record { s_value = rw e at c.loop-i.invariant.1; lower_bound = (omega arith, omega arith); s_value_2 = λ z. absurd (omega arith) }
