use Rattle.std.proofs.Common.{◌≡◌, sym, ◌∙◌}
use Rattle.statement.specs.Rows.{header_row, header_row_of}
use native.Mathlib.Omega.{arith}
use native.Mathlib.Nat.{add-zero}
use borrow.Author.Tests.{ltb-true}
use Rattle.table.proofs.read_header.Goals as goal

pub overflow_mul-k : goal.overflow_mul-k
overflow_mul-k c = let h = ltb-true c.args.k _ (sym c.has_header.ensures ∙ c.if-has_header.true) in record { fits = omega (arith, h) }

pub spans_at-requires : goal.spans_at-requires
spans_at-requires c = let h = ltb-true c.args.k _ (sym c.has_header.ensures ∙ c.if-has_header.true) in omega (arith, h)

pub returns-then-has_header : goal.returns-then-has_header
returns-then-has_header c = rw (sym c.has_header.ensures ∙ c.if-has_header.true, add-zero) c.spans_at.ensures

pub returns : goal.returns
returns c =
    let d = c.default.ensures in
    let r : header_row_of c.default.result ≡ header_row 0 0 0 0 = cc in
    rw (sym c.has_header.ensures ∙ c.if-has_header.false) r
