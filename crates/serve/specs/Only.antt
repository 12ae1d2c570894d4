-- "that two allowed answers coincide is proved": what a served record tells is one answer of the code. The lent memory after it is one:
-- `opened_file_only` of store/specs/Only; the units' answer: `units_only` of units/specs/Only. Assumes nothing.
use Rattle.std.specs.Prelude.{◌≡◌, refl, Option, Some, None, Result, Ok, Err}
use Rattle.std.proofs.Common.{sym, ◌∙◌, ap}
use Rattle.error.specs.Refusal.{Told, good, bad}
use Rattle.error.specs.Only.{fault_of, fault_of_told}
use Rattle.error.specs.declared.Fault.{Fault}
use Rattle.statement.specs.Rows.{Row}
use Rattle.statement.specs.declared.RecordSpan.{RecordSpan}
use Rattle.lookup.specs.Only.{row_back}
use Rattle.serve.specs.Serve.{told_served}

-- the code's answer that tells this record, none or a refusal
served_back : Told (Option Row) → Result (Option RecordSpan) Fault
served_back (good (Some w)) = Ok (Some (row_back w))
served_back (good None) = Ok None
served_back (bad q) = Err (fault_of q)

-- what an answer about a served record tells gives back that answer
served_told : (a : Result (Option RecordSpan) Fault) → served_back (told_served a) ≡ a
unfolding served_back row_back
served_told (Ok (Some w)) = refl
served_told (Ok None) = refl
served_told (Err f) = ap Err (fault_of_told f)

-- `record_of` has one answer: two that tell the same are one
pub served_only : (a b : Result (Option RecordSpan) Fault) → told_served a ≡ told_served b → a ≡ b
served_only a b e = sym (served_told a) ∙ ap served_back e ∙ served_told b
