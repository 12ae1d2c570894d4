use native.Mathlib.Omega.{arith}
use borrow.Author.Tests.{eq-eqb, ne_eqb}
use Rattle.strings.specs.Hex.{byte_small}
use Rattle.strings.specs.Ways.{is_backslash, is_newline, is_tab, is_shift, is_octet, no_octet, is_long}
use Rattle.strings.proofs.short.Goals as goal

pub overflow_add-z : goal.overflow_add-z
overflow_add-z c = let k = byte_small c.args.s.now 3 (omega (arith, c.type_inv.s 3)) in omega (arith, c.byte_at-z.ensures)

pub returns-then-x-y : goal.returns-then-x-y
returns-then-x-y c =
    let x = c.byte_at-x.result in
    is_shift c.args.page c.args.s.now x c.byte_at-y.result c.byte_at-z.result c.byte_at-x.ensures c.byte_at-y.ensures c.byte_at-z.ensures c.code_on.result c.code_on.ensures c.if-x-y.true

pub returns-then-x-eq92 : goal.returns-then-x-eq92
returns-then-x-eq92 c =
    let x = c.byte_at-x.result in
    is_backslash c.args.page c.args.s.now x c.byte_at-y.result c.byte_at-z.result c.byte_at-x.ensures c.byte_at-y.ensures c.byte_at-z.ensures (eq-eqb x 92 (omega arith))

pub returns-then-x-y-2 : goal.returns-then-x-y-2
returns-then-x-y-2 c =
    let x = c.byte_at-x.result in
    is_newline c.args.page c.args.s.now x c.byte_at-y.result c.byte_at-z.result c.byte_at-x.ensures c.byte_at-y.ensures c.byte_at-z.ensures (ne_eqb x 92 (omega arith)) c.if-x-y-2.true

pub returns-then-x-y-3 : goal.returns-then-x-y-3
returns-then-x-y-3 c =
    let x = c.byte_at-x.result in
    is_tab c.args.page c.args.s.now x c.byte_at-y.result c.byte_at-z.result c.byte_at-x.ensures c.byte_at-y.ensures c.byte_at-z.ensures (ne_eqb x 92 (omega arith)) c.if-x-y-2.false c.if-x-y-3.true

pub returns-in_err-v : goal.returns-in_err-v
returns-in_err-v c =
    let x = c.byte_at-x.result in
    rw c.from_residual.ensures (no_octet c.args.page c.args.s.now x c.byte_at-y.result c.byte_at-z.result c.byte_at-x.ensures c.byte_at-y.ensures c.byte_at-z.ensures (ne_eqb x 92 (omega arith)) c.if-x-y-2.false c.if-x-y-3.false c.requires c.if-x-y.false c.if-x-y-4.true c.in_err-v.ensures)

pub returns-then-x-y-4 : goal.returns-then-x-y-4
returns-then-x-y-4 c =
    let x = c.byte_at-x.result in
    is_octet c.args.page c.args.s.now x c.byte_at-y.result c.byte_at-z.result c.byte_at-x.ensures c.byte_at-y.ensures c.byte_at-z.ensures (ne_eqb x 92 (omega arith)) c.if-x-y-2.false c.if-x-y-3.false c.requires c.if-x-y.false c.if-x-y-4.true _ c.in_ok-v.ensures

pub returns : goal.returns
returns c =
    let x = c.byte_at-x.result in
    is_long c.args.page c.args.s.now x c.byte_at-y.result c.byte_at-z.result c.byte_at-x.ensures c.byte_at-y.ensures c.byte_at-z.ensures (ne_eqb x 92 (omega arith)) c.if-x-y-2.false c.if-x-y-3.false c.requires c.if-x-y.false c.if-x-y-4.false
