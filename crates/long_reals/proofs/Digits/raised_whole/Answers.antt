use Prim.Native.Nat.{ℕ, ◌+◌, ◌-◌, ◌*◌, ◌^◌, ◌≤◌, ◌<◌}
use mathlib.Core.Path.{◌≡◌, sym, ◌∙◌, ap, subst}
use mathlib.Core.List.{List, ◌++◌}
use native.Mathlib.Omega.{arith}
use lib.ListN.{length, take, drop}
use Rattle.nearest.specs.Near.{near}
use Rattle.nearest.specs.Nearest.{signed}
use Rattle.limbs.specs.Worth.{worth}
use Rattle.long_reals.specs.Digits.{digits_in, ReadAt}
use Rattle.long_reals.specs.Number.{number_in}
use Rattle.long_reals.specs.DigitsRight.{made_pos}
use Rattle.long_reals.specs.DigitsInRoom.{digits_placed, read_all}
use Rattle.long_reals.specs.declared.Filled.{Filled}
use Rattle.long_reals.proofs.Digits.raised_whole.Goals as goal

-- `long_reals::Digits::raised_whole` meets its contract: all digits are read, above two that are 0. Assumes nothing.

-- above two digits that are 0 the room has the number, moved up by 64 binary digits
in_room_lem : (t : List ℕ) (i n : ℕ) (xs ys : List ℕ) (r : Filled) → n ≡ digits_in (drop i t) → ReadAt t i n ys r → worth xs ≡ 0 → 2 + r.used ≤ length xs → length ys ≡ length (take (length xs - 2) (drop 2 xs)) → worth (take (2 + r.used) (take 2 xs ++ (ys ++ drop (length xs - 2) (drop 2 xs)))) ≡ number_in 0 (drop i t) * 2 ^ 64
in_room_lem t i n xs ys r e h z f l = digits_placed xs ys 2 r.used z f l ∙ ap (λ (x : ℕ). x * 2 ^ 64) (read_all t i n ys r e h)

-- a number that is not 0 is then 2 ^ 64 or more
large : (n : ℕ) → 0 < n → 2 ^ 64 ≤ n * 2 ^ 64
large n h = omega arith

pub raised_in-requires : goal.raised_in-requires
raised_in-requires c =
    let p = c.args in
    let d = p.self in
    let r = c.read_digits-r in
    let f = r.ensures.few in
    let ys = r.new.a in
    let e = in_room_lem d.text.now d.first d.many p.a.now ys r.result d.counted r.ensures c.requires.3 (omega (arith, c.requires.0, c.requires.2)) (omega arith) in
    let z : 0 < number_in 0 (drop d.first d.text.now) = made_pos d.text.now d.first d.many d.same d.leading in
    (omega (arith, c.requires.0, c.requires.1, c.requires.2), c.requires.1, subst (λ (x : ℕ). 2 ^ 64 ≤ x) (sym e) (large (number_in 0 (drop d.first d.text.now)) z), omega (arith, c.requires.2))

pub returns : goal.returns
returns c =
    let p = c.args in
    let d = p.self in
    let r = c.read_digits-r in
    let f = r.ensures.few in
    let ys = r.new.a in
    let e = in_room_lem d.text.now d.first d.many p.a.now ys r.result d.counted r.ensures c.requires.3 (omega (arith, c.requires.0, c.requires.2)) (omega arith) in
    c.raised_in.ensures (number_in 0 (drop d.first d.text.now)) (sym e)
    ∙ ap (λ (x : ℕ). signed d.neg (near (x * 10 ^ p.k) 1)) d.same
