use Rattle.statement.specs.UsualLaws.{space_at}
use Rattle.statement.specs.UsualRight.{lead_at}
use Prim.Native.Nat.{◌+◌}
use native.Mathlib.Omega.{arith}
use Rattle.statement.proofs.lead_past.Goals as goal

pub returns : goal.returns
returns c = let r = c.leading_space in
    lead_at c.args.s.now c.args.i (c.args.i + r.result) (space_at c.args.s.now c.args.i r.result c.requires r.ensures.b_value) (omega arith) c.if-s-p-eq47.false
