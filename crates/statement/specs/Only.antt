-- "that two allowed answers coincide is proved": what a statement says is one answer of the code.
-- Assumes nothing.
use Rattle.std.specs.Prelude.{ℕ, ◌≡◌, refl, List, length, Option, Some, None, Result, Ok, Err}
use Rattle.std.proofs.Common.{sym, ◌∙◌, ap, arith}
use Rattle.error.specs.declared.Fault.{Fault}
use Rattle.error.specs.Only.{fault_of, fault_of_told}
use Rattle.lex.specs.Byte.{place}
use Rattle.lex.specs.Place.{place_drop}
use Rattle.statement.specs.Rows.{Row, HeaderRow, Stmt, reading_ends, statement_refused, section_now, header_statement, data_statement}
use Rattle.statement.specs.Answer.{told_said, Ahead, told_tidied}
use Rattle.statement.specs.Tidy.{TidyAhead}
use Rattle.statement.specs.declared.Said.{Said}
use Rattle.statement.specs.declared.HeaderSpan.{HeaderSpan}
use Rattle.statement.specs.declared.RecordSpan.{RecordSpan}
use Rattle.statement.specs.declared.Said.TheVariants.{Ends, Moves, Heads, Records}

-- the code's spans of a data row
abbrev span_of : Row → RecordSpan
span_of w = record {
  id = w.id;
  keyword = record { start = w.key_start; end = w.key_end };
  args = record { start = w.arg_start; end = w.arg_end };
  complex = w.complex;
}

abbrev header_span_of : HeaderRow → HeaderSpan
header_span_of w = record {
  keyword = record { start = w.key_start; end = w.key_end };
  args = record { start = w.arg_start; end = w.arg_end };
}

-- the answer of `next_statement` that says this of the file
said_of : List ℕ → Stmt → Result Said Fault
said_of s reading_ends = Ok Ends
said_of s (statement_refused q) = Err (fault_of q)
said_of s (section_now sec r) = Ok (Moves sec (place s r))
said_of s (header_statement w ys r) = Ok (Heads (header_span_of w) (place s ys) (place s r))
said_of s (data_statement w ys r) = Ok (Records (span_of w) (place s ys) (place s r))

said_back : (s : List ℕ) (i : ℕ) (a : Result Said Fault) → Ahead i (length s) a → said_of s (told_said s a) ≡ a
unfolding said_of
said_back s i (Err f) h = ap Err (fault_of_told f)
said_back s i (Ok Ends) h = refl
said_back s i (Ok (Moves sec p)) h = ap (λ (q : ℕ). Ok (Moves sec q)) (place_drop s p (omega arith))
said_back s i (Ok (Heads w o p)) h = rw (place_drop s o (omega arith), place_drop s p (omega arith)) refl
said_back s i (Ok (Records w o p)) h = rw (place_drop s o (omega arith), place_drop s p (omega arith)) refl

-- `next_statement` has one answer: two that say the same of the file are one
pub said_only : (s : List ℕ) (i : ℕ) (a b : Result Said Fault) → Ahead i (length s) a → Ahead i (length s) b → told_said s a ≡ told_said s b → a ≡ b
said_only s i a b h k e = sym (said_back s i a h) ∙ ap (said_of s) e ∙ said_back s i b k

-- the answer of `tidy_record` that says this of the file
tidied_of : List ℕ → Stmt → Option (RecordSpan × ℕ × ℕ)
tidied_of s reading_ends = None
tidied_of s (statement_refused q) = None
tidied_of s (section_now sec r) = None
tidied_of s (header_statement w ys r) = None
tidied_of s (data_statement w ys r) = Some (span_of w, place s ys, place s r)

-- what an answer of `tidy_record` says gives back that answer
tidied_back : (s : List ℕ) (i : ℕ) (a : Option (RecordSpan × ℕ × ℕ)) → TidyAhead i (length s) a → tidied_of s (told_tidied s a) ≡ a
unfolding tidied_of
tidied_back s i None h = refl
tidied_back s i (Some (w, o, p)) h = rw (place_drop s o (omega arith), place_drop s p (omega arith)) refl

-- `tidy_record` has one answer: two that say the same of the file are one
pub tidied_only : (s : List ℕ) (i : ℕ) (a b : Option (RecordSpan × ℕ × ℕ)) → TidyAhead i (length s) a → TidyAhead i (length s) b → told_tidied s a ≡ told_tidied s b → a ≡ b
tidied_only s i a b h k e = sym (tidied_back s i a h) ∙ ap (tidied_of s) e ∙ tidied_back s i b k
