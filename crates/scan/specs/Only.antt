-- "that two allowed answers coincide is proved": what a scan tells is one answer of the code.
-- Assumes nothing.
use Rattle.std.specs.Prelude.{◌≡◌, Result}
use Rattle.error.specs.Refusal.{told_result}
use Rattle.error.specs.Only.{result_only}
use Rattle.error.specs.declared.Fault.{Fault}
use Rattle.scan.specs.ScanMemory.{Counts}

-- `scan` has one answer: two that tell the same are one
pub scanned_only : (a b : Result Counts Fault) → told_result a ≡ told_result b → a ≡ b
scanned_only = result_only
