use Rattle.lex.specs.PassedAtOnce.{onward_byte, onward_slash, onward_text, onward_remark}
use native.Mathlib.Omega.{arith}
use Rattle.lex.proofs.past.Goals as goal

pub returns-then-c-eq39 : goal.returns-then-c-eq39
returns-then-c-eq39 c = let a = c.args in onward_text a.s.now a.i (omega arith) c.if-c-eq39.true c.past_text.result c.past_text.ensures

pub returns-then-c-ne47 : goal.returns-then-c-ne47
returns-then-c-ne47 c = let a = c.args in onward_byte a.s.now a.i (omega arith) c.if-c-eq39.false c.if-c-ne47.true

pub returns-then-not-is_at : goal.returns-then-not-is_at
returns-then-not-is_at c = let a = c.args in
    onward_slash a.s.now a.i (omega arith) c.if-c-ne47.false (c.is_at.ensures.away c.if-not-is_at.true)

pub past_remark-requires : goal.past_remark-requires
past_remark-requires c = let k = c.is_at.ensures.here c.if-not-is_at.false in omega arith

pub returns : goal.returns
returns c = let a = c.args in
    let k = c.is_at.ensures.here c.if-not-is_at.false in
    onward_remark a.s.now a.i (omega arith) c.if-c-ne47.false k.0 k.1 c.past_remark.result c.past_remark.ensures
