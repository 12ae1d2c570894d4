-- "that two allowed answers coincide is proved": what a search for a part tells is one answer of the code.
-- Assumes nothing.
use Rattle.std.specs.Prelude.{◌≡◌, refl, Option as Answer, Some, None, Result, Ok, Err}
use Rattle.std.proofs.Common.{sym, ◌∙◌, ap}
use Rattle.std.proofs.Math.Option.{Option, none, some}
use Rattle.error.specs.Refusal.{Told, good, bad}
use Rattle.error.specs.Only.{fault_of, fault_of_told}
use Rattle.statement.specs.Rows.{HeaderRow}
use Rattle.statement.specs.declared.HeaderSpan.{HeaderSpan}
use Rattle.parts.specs.Rules.{told_next}
use Rattle.error.specs.declared.Fault.{Fault}

-- the span of a part that has these numbers
span_of : HeaderRow → HeaderSpan
span_of w = record { keyword = record { start = w.key_start; end = w.key_end }; args = record { start = w.arg_start; end = w.arg_end } }

-- the code's answer that tells this part, none or a refusal
next_by : Told (Option HeaderRow) → Result (Answer HeaderSpan) Fault
next_by (good none) = Ok None
next_by (good (some w)) = Ok (Some (span_of w))
next_by (bad q) = Err (fault_of q)

-- what an answer about a part tells gives back that answer
next_back : (a : Result (Answer HeaderSpan) Fault) → next_by (told_next a) ≡ a
unfolding next_by span_of
next_back (Ok (Some p)) = refl
next_back (Ok None) = refl
next_back (Err f) = ap Err (fault_of_told f)

-- `next_part` and `complex_part` have one answer: two that tell the same are one
pub answer_only : (a b : Result (Answer HeaderSpan) Fault) → told_next a ≡ told_next b → a ≡ b
answer_only a b e = sym (next_back a) ∙ ap next_by e ∙ next_back b
