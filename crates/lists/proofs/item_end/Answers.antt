use Rattle.lists.specs.Laws.{end_found, end_open}
use native.Mathlib.Omega.{arith}
use lib.ListN.{length}
use Prim.Native.Nat.{min}
use Rattle.lists.proofs.item_end.Goals as goal

pub returns-in-Ok : goal.returns-in-Ok
returns-in-Ok c = let b = c.args.b.now in
    let (x, u, v) = end_found b c.args.i (min c.args.i (length b)) c.in-Ok.cut c.in-Ok.ensures.result_value c.in-Ok.ensures.ended_in in
    record { b_value = x; lower_bound = (omega (arith, u), v) }

pub returns-in-Err : goal.returns-in-Err
returns-in-Err c = let b = c.args.b.now in
    record { b_value = end_open b c.args.i _ c.in-Err.ensures.result_value; lower_bound = (omega arith, omega arith) }
