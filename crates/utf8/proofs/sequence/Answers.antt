use mathlib.Core.Path.{◌∙◌}
use Rattle.common.specs.Tests.{bounds}
use Rattle.utf8.specs.Laws.{lead_one, lead_two_lem, lead_three_lem, lead_four_lem, lead_none}
use Rattle.utf8.proofs.sequence.Goals as goal

pub returns-then-a-lt128 : goal.returns-then-a-lt128
returns-then-a-lt128 c = let e = lead_one c.args.bytes.now c.byte_at-a.result c.byte_at-a.ensures c.if-a-lt128.true in
    e

pub two-requires : goal.two-requires
two-requires c = bounds 194 c.byte_at-a.result 223 c.if-a.true

pub returns-then-a : goal.returns-then-a
returns-then-a c = let s = c.args.bytes.now in
    let e = lead_two_lem s _ _ c.byte_at-a.ensures c.byte_at.ensures c.if-a.true in
    c.two.ensures ∙ e

pub three-requires : goal.three-requires
three-requires c = bounds 224 c.byte_at-a.result 239 c.if-a-2.true

pub returns-then-a-2 : goal.returns-then-a-2
returns-then-a-2 c = let s = c.args.bytes.now in
    let e = lead_three_lem s _ _ _ c.byte_at-a.ensures c.byte_at-then-a-2.ensures c.byte_at-then-a-2-2.ensures c.if-a-2.true in
    c.three.ensures ∙ e

pub four-requires : goal.four-requires
four-requires c = bounds 240 c.byte_at-a.result 244 c.if-a-3.true

pub returns-then-a-3 : goal.returns-then-a-3
returns-then-a-3 c = let s = c.args.bytes.now in
    let e = lead_four_lem s _ _ _ _ c.byte_at-a.ensures c.byte_at-then-a-3.ensures c.byte_at-then-a-3-2.ensures c.byte_at-then-a-3-3.ensures c.if-a-3.true in
    c.four.ensures ∙ e

pub returns : goal.returns
returns c = let s = c.args.bytes.now in
    let e = lead_none s _ c.byte_at-a.ensures c.if-a-lt128.false c.if-a.false c.if-a-2.false c.if-a-3.false in
    e
