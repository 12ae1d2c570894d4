use native.Mathlib.Omega.{arith}
use Prim.Native.Nat.{◌+◌, ◌-◌}
use lib.ListN.{length, take, drop}
use Rattle.strings.specs.Put.{put_part}
use Rattle.strings.specs.PlainRuns.{plain_put_on}
use Rattle.strings.specs.Steps.{rest_is}
use Rattle.strings.proofs.plain_run.Goals as goal

pub returns-then-k-m : goal.returns-then-k-m
returns-then-k-m c =
    let a = c.args in
    let s = a.s.now in
    let k = c.follow-k.result in
    let l = put_part a.at a.out.now s k c.follow-k.new.out (omega arith) (omega arith) (omega (arith, c.follow-k.ensures.0, c.min-m.ensures)) (omega (arith, c.follow-k.ensures.0, c.min-m.ensures)) c.follow-k.ensures.2 in
    record { within = omega (arith, c.follow-k.ensures.0, c.min-m.ensures); plainly = c.follow-k.ensures.1; put = l }

pub returns : goal.returns
returns c =
    let a = c.args in
    let s = a.s.now in
    let k = c.follow-k.result in
    let l = put_part a.at a.out.now s k c.follow-k.new.out (omega arith) (omega arith) (omega (arith, c.follow-k.ensures.0, c.min-m.ensures)) (omega (arith, c.follow-k.ensures.0, c.min-m.ensures)) c.follow-k.ensures.2 in
    plain_put_on s a.at a.out.now k (a.at + k) c.follow-k.new.out (take (length s - k) (drop k s)) c.plain_len-n.result c.lay.result c.lay.new.out (omega arith) (omega (arith, c.follow-k.ensures.0, c.min-m.ensures)) (rest_is s k) c.follow-k.ensures.1 l c.plain_len-n.ensures.within c.plain_len-n.ensures.plainly c.lay.ensures
