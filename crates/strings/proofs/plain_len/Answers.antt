use native.Mathlib.Omega.{arith}
use Rattle.strings.specs.PlainRuns.{plain_none}
use Rattle.strings.proofs.plain_len.Goals as goal

-- `strings::plain_len` meets its contract: a short string byte by byte; else sixteen bytes, the blocks, and those that are left. Assumes nothing.

pub plain_to-requires : goal.plain_to-requires
plain_to-requires c = (omega arith, omega arith, plain_none c.args.s.now)

pub plain_to-i-requires : goal.plain_to-i-requires
plain_to-i-requires c = (omega arith, omega arith, plain_none c.args.s.now)

pub returns-then-i-lt16 : goal.returns-then-i-lt16
returns-then-i-lt16 c = let p = c.plain_to-i.ensures in record { within = omega arith; plainly = p.plainly; stops = λ h. p.stops (omega arith) }
