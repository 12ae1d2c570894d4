use Prim.Native.Nat.{ℕ, ◌+◌, ◌-◌, ◌*◌, ◌/◌, ◌^◌}
use mathlib.Core.Path.{◌≡◌, ◌∙◌, ap}
use mathlib.Core.List.{◌++◌}
use native.Mathlib.Omega.{arith}
use lib.ListN.{length, take, drop}
use Rattle.nearest.specs.Near.{near}
use Rattle.nearest.specs.Nearest.{signed}
use Rattle.limbs.specs.Worth.{worth}
use Rattle.long_reals.specs.Number.{number_in}
use Rattle.long_reals.specs.Steps.{moved_up}
use Rattle.long_reals.specs.DigitsInRoom.{digits_placed, read_all, scaled_whole}
use Rattle.long_reals.proofs.Digits.lowered_whole.Goals as goal

-- `long_reals::Digits::lowered_whole` meets its contract: all digits are read, and the room is moved up to 2 ^ -1075. Assumes nothing.

pub returns : goal.returns
returns c =
    let p = c.args in
    let d = p.self in
    let r = c.read_digits-r in
    let q = c.push in
    let k = 1075 - p.k in
    let num = number_in 0 (drop d.first d.text.now) in
    let ys = r.new.a in
    let n = length p.a.now - k / 32 in
    let one = take (k / 32) p.a.now ++ (ys ++ drop n (drop (k / 32) p.a.now)) in
    let w = worth (take (k / 32 + r.result.used + 1) q.new.a) in
    let u = r.ensures.few in
    let e : worth (take (k / 32 + r.result.used) one) ≡ num * 2 ^ (32 * (k / 32)) = digits_placed p.a.now ys (k / 32) r.result.used c.requires.3 (omega (arith, c.requires.0, c.requires.1, c.requires.2)) (omega arith) ∙ ap (λ (x : ℕ). x * 2 ^ (32 * (k / 32))) (read_all d.text.now d.first d.many ys r.result d.counted r.ensures) in
    c.lowered_in.ensures num (10 ^ p.k) (scaled_whole num w k p.k (moved_up k num (worth (take (k / 32 + r.result.used) one)) w e q.ensures))
    ∙ ap (λ (x : ℕ). signed d.neg (near x (10 ^ p.k))) d.same
