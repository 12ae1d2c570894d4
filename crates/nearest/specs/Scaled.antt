-- What `compare` answers is told by the order of the two numbers. The law of the digits at any scale, which stands on that, is in
-- proofs/Scaled.antt. Assumes nothing.
use Prim.Native.Nat.{ℕ, Ordering}
use Rattle.std.specs.Prelude.{◌≡◌, refl}
use Rattle.std.proofs.Common.{arith}
use Rattle.nearest.specs.Near.{Cmp}

-- the order of two numbers leaves one answer to `compare`
pub order_is : (o p : Ordering) (a b : ℕ) → Cmp o a b → Cmp p a b → o ≡ p
order_is Ordering.lt Ordering.lt a b h k = refl
order_is Ordering.lt Ordering.eq a b h k = absurd (omega arith)
order_is Ordering.lt Ordering.gt a b h k = absurd (omega arith)
order_is Ordering.eq Ordering.lt a b h k = absurd (omega arith)
order_is Ordering.eq Ordering.eq a b h k = refl
order_is Ordering.eq Ordering.gt a b h k = absurd (omega arith)
order_is Ordering.gt Ordering.lt a b h k = absurd (omega arith)
order_is Ordering.gt Ordering.eq a b h k = absurd (omega arith)
order_is Ordering.gt Ordering.gt a b h k = refl
