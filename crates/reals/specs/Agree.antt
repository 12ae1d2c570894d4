-- #101: "the short path agrees with the new one wherever both apply, proved once over digits and exponents". The short path is one product or
-- quotient of two f64s that are m and 10^k exactly, the new one the crate `wide_reals`: both answer the one `near`. `product` and `quotient` are what the language's
-- `*` and `/` give (nearest/specs/Product: `mul_bits`, `div_bits`). Assumes nothing.
use Rattle.std.specs.Prelude.{ℕ, ◌*◌, ◌^◌, ◌≤◌, ◌<◌, ◌≡◌, Bool, true, false, get_or, pos, Float}
use Rattle.std.proofs.Common.{sym, ◌∙◌}
use Rattle.std.specs.Float.{nan, binary64}
use Rattle.std.specs.Float.Ieee.{of_int, neg, to_bits}
use Rattle.nearest.specs.Near.{near}
use Rattle.nearest.specs.Nearest.{signed}
use Rattle.nearest.specs.Product.{worth_of, finite, product, quotient}
use Rattle.nearest.specs.ProductRight.{worth_whole, worth_minus}
use Rattle.nearest.proofs.ProductRight.{product_exact, quotient_exact}
use Rattle.nearest.specs.PowerLaws.{ten_pos}
use Rattle.reals.specs.FloatTables.{powers, power_worth}

-- whatever patterns stand for m, with its sign, and for 10^k: what the wide path answers for m * 10^k has the bits of their product
pub agree_up : (s : Bool) (m k x y : ℕ) (r : Float) → worth_of x ≡ finite s (m * 2 ^ 1074) → worth_of y ≡ finite false (10 ^ k * 2 ^ 1074)
    → to_bits binary64 r ≡ signed s (near (m * 10 ^ k) 1) → to_bits binary64 r ≡ product x y
agree_up s m k x y r e f t = t ∙ sym (product_exact x y s m (10 ^ k) e f)

-- whatever patterns stand for m, with its sign, and for 10^k: what the wide path answers for m / 10^k has the bits of their quotient
pub agree_down : (s : Bool) (m k x y : ℕ) (r : Float) → worth_of x ≡ finite s (m * 2 ^ 1074) → worth_of y ≡ finite false (10 ^ k * 2 ^ 1074)
    → to_bits binary64 r ≡ signed s (near m (10 ^ k)) → to_bits binary64 r ≡ quotient x y
agree_down s m k x y r e f t = t ∙ sym (quotient_exact x y s m (10 ^ k) (ten_pos k) e f)

-- ---- "wherever both apply": the short path's own operands are such patterns for all m up to 2^53 and k up to 22
-- m with its sign, as an f64
abbrev pub operand : Bool → ℕ → Float
operand true m = neg (of_int binary64 (pos m))
operand false m = of_int binary64 (pos m)

-- m as an f64 is m exactly, up to 2^53
operand_worth : (s : Bool) (m : ℕ) → m ≤ 2 ^ 53 → worth_of (to_bits binary64 (operand s m)) ≡ finite s (m * 2 ^ 1074)
operand_worth true m h = worth_minus m h
operand_worth false m h = worth_whole m h

-- up to 2^53 and 10^22 the wide path's m * 10^k is the product of the f64 m and of the table's 10^k
pub short_up : (s : Bool) (m k : ℕ) (r : Float) → m ≤ 2 ^ 53 → k < 23 → to_bits binary64 r ≡ signed s (near (m * 10 ^ k) 1)
    → to_bits binary64 r ≡ product (to_bits binary64 (operand s m)) (to_bits binary64 (get_or powers k nan))
short_up s m k r h l t =
    agree_up s m k (to_bits binary64 (operand s m)) (to_bits binary64 (get_or powers k nan)) r (operand_worth s m h) (power_worth k l) t

-- up to 2^53 and 10^22 the wide path's m / 10^k is the quotient of the f64 m and of the table's 10^k
pub short_down : (s : Bool) (m k : ℕ) (r : Float) → m ≤ 2 ^ 53 → k < 23 → to_bits binary64 r ≡ signed s (near m (10 ^ k))
    → to_bits binary64 r ≡ quotient (to_bits binary64 (operand s m)) (to_bits binary64 (get_or powers k nan))
short_down s m k r h l t =
    agree_down s m k (to_bits binary64 (operand s m)) (to_bits binary64 (get_or powers k nan)) r (operand_worth s m h) (power_worth k l) t
