use Prim.Native.Nat.{◌^◌, ◌≤◌}
use mathlib.Core.Path.{sym, ◌∙◌, ap}
use mathlib.Core.Logic.{⊎_elim}
use native.Mathlib.Omega.{arith}
use Rattle.std.proofs.Math.Nat.{min-eq_left}
use Rattle.nearest.specs.Nearest.{signed}
use Rattle.long_reals.specs.Pattern.{past_infinity, seen_le, seen_near}
use Rattle.long_reals.proofs.rounded.Goals as goal

-- `long_reals::rounded` meets its contract: past all f64s infinity, and else the digits kept, and the place. Assumes nothing.

pub returns-then-y-ge2036 : goal.returns-then-y-ge2036
returns-then-y-ge2036 c =
    let a = c.args in
    let l : 2 ^ 63 ≤ a.w = ⊎_elim (λ z. absurd (omega arith)) (λ l. l) c.requires in
    λ num den t. c.endless.ensures ∙ ap (signed a.neg) (sym (past_infinity num den a.w a.more a.y t l (omega arith)))

pub overflow_add-pattern-2 : goal.overflow_add-pattern-2
overflow_add-pattern-2 c =
    let a = c.args in
    let h = seen_le a.w a.more a.y c.rounded_off.result c.spare-drop.result c.ranges.w.fits c.requires (omega arith) c.spare-drop.ensures c.rounded_off.ensures in
    record { fits = omega (arith, h) }

pub returns : goal.returns
returns c =
    let a = c.args in
    let h = seen_le a.w a.more a.y c.rounded_off.result c.spare-drop.result c.ranges.w.fits c.requires (omega arith) c.spare-drop.ensures c.rounded_off.ensures in
    λ num den t. c.with_sign.ensures ∙ ap (signed a.neg) (min-eq_left h) ∙ ap (signed a.neg) (seen_near a.w a.more a.y c.rounded_off.result c.spare-drop.result c.ranges.w.fits c.requires (omega arith) c.spare-drop.ensures c.rounded_off.ensures num den t)
