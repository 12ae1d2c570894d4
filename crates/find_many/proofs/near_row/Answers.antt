use Rattle.index.specs.Guide.{wide_pos, share_most}
use Rattle.index.specs.Search.{range_width}
use native.Mathlib.Nat.{mod-lt}
use Rattle.find_many.specs.Hints.{evenly_is}
use mathlib.Core.Logic.{inl, inr}
use mathlib.Core.Path.{◌≡◌, refl, ◌∙◌, ap}
use Prim.Native.Nat.{ℕ, ◌-◌, ◌%◌, max}
use native.Mathlib.Omega.{arith}
use Rattle.find_many.proofs.near_row.Goals as goal

pub returns-then-id-b : goal.returns-then-id-b
returns-then-id-b c = inl refl

pub returns-then-b-id : goal.returns-then-b-id
returns-then-b-id c = inl refl

pub returns-then-n-q : goal.returns-then-n-q
returns-then-n-q c = inl refl

pub returns-then-hi-lo : goal.returns-then-hi-lo
returns-then-hi-lo c = inl refl

pub overflow_cast-hi : goal.overflow_cast-hi
overflow_cast-hi c = let h = c.least-hi.ensures in omega (arith, h)

pub overflow_add-result : goal.overflow_add-result
overflow_add-result c = let a = c.args in let e = c.share.ensures in let h = c.least-hi.ensures in let d = c.inside_of.ensures in let w = wide_pos (a.b.shift % 32) in let t = mod-lt (a.id - a.b.first) w in let m = share_most c.inside_of.result (c.least-hi.result - c.max-lo.result) (range_width a.b.shift) (omega (arith, d, t)) in record { fits = omega (arith, e, h, m) }

pub overflow_cast-result : goal.overflow_cast-result
overflow_cast-result c = let a = c.args in let e = c.share.ensures in let h = c.least-hi.ensures in let d = c.inside_of.ensures in let w = wide_pos (a.b.shift % 32) in let t = mod-lt (a.id - a.b.first) w in let m = share_most c.inside_of.result (c.least-hi.result - c.max-lo.result) (range_width a.b.shift) (omega (arith, d, t)) in omega (arith, e, h, m)

pub returns : goal.returns
returns c = let a = c.args in inr (evenly_is a.slots.now a.n a.b a.id c.range_of-q.result c.max-lo.result c.least-hi.result c.inside_of.result c.share.result c.if-id-b.false c.if-b-id.false c.range_of-q.ensures (let h = c.if-n-q.false in omega (arith, h)) (let e : c.max-lo.result ≡ max 1 a.start = omega (arith, c.max-lo.ensures) in e ∙ ap (λ (z : ℕ). max 1 z) c.requires.3) c.least-hi.ensures c.if-hi-lo.false c.inside_of.ensures c.share.ensures)
