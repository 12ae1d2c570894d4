use mathlib.Core.Path.{sym, ◌∙◌}
use native.Mathlib.Omega.{arith}
use lib.ListN.{get_or}
use Rattle.common.specs.Tests.{bounds}
use Rattle.reals.specs.DigitLoop.{number_reading_starts, number_reading_goes, number_reading_stops, number_reading_ends}
use Rattle.reals.proofs.digits_from.Goals as goal

-- `reals::digits_from` meets its contract: at each turn the digits up to `i` have been read. Assumes nothing.

pub loop-i-init : goal.loop-i-init
loop-i-init c = let a = c.args in number_reading_starts a.t.now a.at a.from a.cap c.requires.0 c.requires.1

pub returns-then-not-is_digit : goal.returns-then-not-is_digit
returns-then-not-is_digit c =
    let a = c.args in
    number_reading_stops a.t.now a.at a.from a.cap c.loop-i.n c.loop-i.i (omega arith) (sym c.is_digit.ensures ∙ c.if-not-is_digit.true) c.loop-i.invariant

pub with_digit-n-requires : goal.with_digit-n-requires
with_digit-n-requires c =
    let k = bounds 48 (get_or c.args.t.now c.loop-i.i 0) 57 (sym c.is_digit.ensures ∙ c.if-not-is_digit.false) in
    (k.0, k.1, c.loop-i.invariant.held)

pub loop-i-preserved : goal.loop-i-preserved
loop-i-preserved c =
    let a = c.args in
    number_reading_goes a.t.now a.at a.from a.cap c.loop-i.n c.loop-i.i c.with_digit-n.result (omega arith) (sym c.is_digit.ensures ∙ c.if-not-is_digit.false) c.with_digit-n.ensures c.loop-i.invariant

pub returns : goal.returns
returns c =
    let a = c.args in
    number_reading_ends a.t.now a.at a.from a.cap c.loop-i.n c.loop-i.i (omega arith) c.loop-i.invariant
