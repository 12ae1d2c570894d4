use Rattle.std.proofs.Common.{◌≡◌, length, take}
use Rattle.printing.specs.Put.{Put}
use Rattle.printing.proofs.bytes.Given as goal

abbrev pub invariant-loop-b : goal.invariant-loop-b
invariant-loop-b g l = (length l.buffer ≡ length l.fn.buffer) × (Put l.fn.buffer l.fn.pen.used (take l.b-index l.words) l.buffer l.last.used)
