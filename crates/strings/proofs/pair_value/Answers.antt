use native.Mathlib.Omega.{arith}
use Rattle.strings.specs.Hex.{hex_below}
use Rattle.strings.proofs.pair_value.Goals as goal

pub overflow_mul-result : goal.overflow_mul-result
overflow_mul-result c = omega (arith, hex_below c.args.a c.requires.0)

pub overflow_add-result : goal.overflow_add-result
overflow_add-result c = omega (arith, hex_below c.args.a c.requires.0, hex_below c.args.b c.requires.1)

pub returns : goal.returns
returns c = let e = c.hex_value.ensures in let f = c.hex_value-2.ensures in (omega arith, omega (arith, hex_below c.args.a c.requires.0, hex_below c.args.b c.requires.1))
