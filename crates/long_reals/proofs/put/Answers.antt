use Prim.Native.Nat.{ℕ, ◌+◌, ◌/◌, ◌%◌}
use mathlib.Core.Path.{◌≡◌, ◌∙◌, ap}
use native.Mathlib.Omega.{arith}
use lib.ListN.{set, length-set, take}
use Rattle.limbs.specs.Worth.{worth}
use Rattle.long_reals.specs.Steps.{put_in_lem, moved_up}
use Rattle.long_reals.proofs.put.Goals as goal

-- `long_reals::put` meets its contract: two digits above others that are 0, and one step for what is left of the move. Assumes nothing.

pub bounds-a-c-2 : goal.bounds-a-c-2
bounds-a-c-2 c = let p = c.args in let e = length-set p.a.now (p.s / 32) (p.m % 4294967296) in omega (arith, e, c.requires.1)

pub push-requires : goal.push-requires
push-requires c =
    let p = c.args in
    let e = length-set p.a.now (p.s / 32) (p.m % 4294967296) in
    let f = length-set (set p.a.now (p.s / 32) (p.m % 4294967296)) (p.s / 32 + 1) (p.m / 4294967296) in
    omega (arith, e, f, c.requires.1)

pub shape_of-a : goal.shape_of-a
shape_of-a c =
    let p = c.args in
    let e = length-set p.a.now (p.s / 32) (p.m % 4294967296) in
    let f = length-set (set p.a.now (p.s / 32) (p.m % 4294967296)) (p.s / 32 + 1) (p.m / 4294967296) in
    omega (arith, e, f)

pub returns : goal.returns
returns c =
    let p = c.args in
    let q = c.push in
    let e : p.s / 32 + 3 ≡ p.s / 32 + 2 + 1 = omega arith in
    let two = set (set p.a.now (p.s / 32) (p.m % 4294967296)) (p.s / 32 + 1) (p.m / 4294967296) in
    let h = c.requires in
    ap (λ (k : ℕ). worth (take k q.new.a)) e
    ∙ moved_up p.s p.m (worth (take (p.s / 32 + 2) two)) (worth (take (p.s / 32 + 2 + 1) q.new.a)) (put_in_lem p.a.now (p.s / 32) p.m h.0 (omega (arith, h.1))) q.ensures
