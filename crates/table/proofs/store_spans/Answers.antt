use native.Mathlib.Numerals.{towards_suc}
use Rattle.table.proofs.store_spans.Goals as goal

pub returns : goal.returns
returns c = rw (c.low.ensures, c.low-2.ensures, c.low-3.ensures, c.low-4.ensures) (simp towards_suc)
