use mathlib.Core.Path.{◌∙◌, ap}
use native.Mathlib.Omega.{arith}
use borrow.Author.Rules.{rules}
use Rattle.std.proofs.Math.Nat.{min-eq_left}
use Rattle.nearest.specs.Nearest.{signed}
use Rattle.wide_reals.specs.Pattern.{made_le, made_near, made_sure}
use Rattle.wide_reals.proofs.rounded.Goals as goal

-- `wide_reals::rounded` meets its contract: the 53 digits kept, and the place. Assumes nothing.

pub overflow_add-pattern : goal.overflow_add-pattern
overflow_add-pattern c = let e = c.surplus-drop.ensures in search rules

pub overflow_mul-pattern : goal.overflow_mul-pattern
overflow_mul-pattern c = let e = c.surplus-drop.ensures in search rules

pub overflow_add-pattern-2 : goal.overflow_add-pattern-2
overflow_add-pattern-2 c =
    let h = made_le c.args.w c.args.more c.args.x c.rounded_off.result c.surplus-drop.result c.requires.0 c.ranges.w.fits c.requires.1 c.surplus-drop.ensures c.rounded_off.ensures in
    record { fits = omega (arith, h) }

pub returns : goal.returns
returns c =
    let h = made_le c.args.w c.args.more c.args.x c.rounded_off.result c.surplus-drop.result c.requires.0 c.ranges.w.fits c.requires.1 c.surplus-drop.ensures c.rounded_off.ensures in
    let e = c.with_sign.ensures ∙ ap (signed c.args.neg) (min-eq_left h) in (
      λ num den cut. e ∙ ap (signed c.args.neg) (made_near c.args.w c.args.more c.args.x c.rounded_off.result c.surplus-drop.result c.requires.0 c.ranges.w.fits c.requires.1 c.surplus-drop.ensures c.rounded_off.ensures num den cut),
      λ t num den cut. e ∙ ap (signed c.args.neg) (made_sure c.args.w c.args.more c.args.x c.rounded_off.result c.surplus-drop.result c.requires.0 c.ranges.w.fits c.requires.1 c.surplus-drop.ensures c.rounded_off.ensures t num den cut),
    )
