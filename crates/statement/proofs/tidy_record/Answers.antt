use Rattle.statement.specs.UsualLaws.{space_at}
use Rattle.statement.specs.TidyLaws.{tidy_past, tidy_over, tidy_found, tidy_ahead}
use Prim.Native.Nat.{◌+◌}
use lib.ListN.{length}
use native.Mathlib.Omega.{arith}
use mathlib.Core.Path.{◌∙◌}
use Rattle.statement.proofs.tidy_record.Goals as goal

pub returns-then-s-i : goal.returns-then-s-i
returns-then-s-i c = let a = c.args in
    record { result_value = tidy_past a.s.now a.i c.if-s-i.true; tidy_ahead = tt }

pub returns-then-s-end : goal.returns-then-s-end
returns-then-s-end c = let a = c.args in
    let r = c.leading_space in
    let f = c.first_end-end in
    record { result_value = tidy_over a.s.now a.i (a.i + r.result) f.result (space_at a.s.now a.i r.result (omega arith) r.ensures.b_value) f.ensures.s_value c.if-s-end.true; tidy_ahead = tt }

pub returns : goal.returns
returns c = let a = c.args in
    let r = c.leading_space in
    let f = c.first_end-end in
    let t = c.tidied in record { result_value = t.ensures.result_value ∙ tidy_found a.s.now a.i (a.i + r.result) f.result (space_at a.s.now a.i r.result (omega arith) r.ensures.b_value) f.ensures.s_value f.ensures.lower_bound.0 (omega arith); tidy_ahead = tidy_ahead a.i (a.i + r.result) (length a.s.now) t.result (omega arith) t.ensures.tidy_ahead }
