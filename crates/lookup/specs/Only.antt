-- "that two allowed answers coincide is proved": what each lookup tells is one answer of the code.
-- Assumes nothing.
use Rattle.std.specs.Prelude.{◌≡◌, refl, Option, Some, None, Result, Ok, Err, option_map}
use Rattle.std.proofs.Common.{sym, ◌∙◌, ap}
use Rattle.error.specs.Refusal.{Told, good, bad, told_result}
use Rattle.error.specs.Only.{fault_of, fault_of_told}
use Rattle.error.specs.declared.Fault.{Fault}
use Rattle.statement.specs.Rows.{Row, mapped, told_row}
use Rattle.statement.specs.declared.RecordSpan.{RecordSpan}

-- the code's record that has the numbers of a row
unfoldable pub row_back : Row → RecordSpan
row_back w = record { id = w.id; keyword = record { start = w.key_start; end = w.key_end }; args = record { start = w.arg_start; end = w.arg_end }; complex = w.complex }

-- the code's answer that tells this row or none
entry_of : Option Row → Option RecordSpan
entry_of o = option_map row_back o

-- the code's answer that tells this row or 14
required_of : Told Row → Result RecordSpan Fault
required_of (good w) = Ok (row_back w)
required_of (bad q) = Err (fault_of q)

-- what an answer about a row tells gives back that answer
entry_back : (a : Option RecordSpan) → entry_of (option_map told_row a) ≡ a
unfolding entry_of row_back
entry_back (Some w) = refl
entry_back None = refl

required_back : (a : Result RecordSpan Fault) → required_of (mapped told_row (told_result a)) ≡ a
unfolding required_of row_back
required_back (Ok w) = refl
required_back (Err f) = ap Err (fault_of_told f)

-- `entity` and `get` have one answer: two that tell the same are one
pub entry_only : (a b : Option RecordSpan) → option_map told_row a ≡ option_map told_row b → a ≡ b
entry_only a b e = sym (entry_back a) ∙ ap entry_of e ∙ entry_back b

-- `require` has one answer: two that tell the same are one. That of `keyword`, `args_of` and `args` is error/specs/Only.result_only
pub required_only : (a b : Result RecordSpan Fault) → mapped told_row (told_result a) ≡ mapped told_row (told_result b) → a ≡ b
required_only a b e = sym (required_back a) ∙ ap required_of e ∙ required_back b
