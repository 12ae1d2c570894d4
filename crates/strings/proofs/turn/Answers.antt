use native.Mathlib.Omega.{arith}
use Prim.Native.Nat.{◌-◌}
use lib.ListN.{length, take, drop}
use Rattle.strings.specs.Steps.{rest_is, piece_fits}
use Rattle.strings.specs.Ways.{turned_is}
use Rattle.strings.proofs.turn.Goals as goal

pub slice_bounds-plain_run-count : goal.slice_bounds-plain_run-count
slice_bounds-plain_run-count c = omega (arith, c.step-r.ensures.piece_put.read, piece_fits c.args.page c.args.s.now c.requires)

pub slice_bounds-plain_run-start : goal.slice_bounds-plain_run-start
slice_bounds-plain_run-start c = omega (arith, c.step-r.ensures.piece_put.read, piece_fits c.args.page c.args.s.now c.requires)

pub returns : goal.returns
returns c =
    let s = c.args.s.now in
    let u = c.step-r.result.used in
    record { turned = turned_is c.args.page s c.args.at c.args.out.now c.step-r.result.at u c.step-r.new.out (take (length s - u) (drop u s)) c.plain_run-q.result.used c.plain_run-q.result.at c.plain_run-q.new.out (omega arith) c.requires (rest_is s u) c.step-r.ensures.piece_put c.plain_run-q.ensures; page_value = c.step-r.ensures.page_value }
