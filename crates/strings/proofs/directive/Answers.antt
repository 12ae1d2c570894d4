use native.Mathlib.Omega.{arith}
use Rattle.strings.specs.Text.{long_of, directive_of}
use Rattle.strings.specs.Ways.{piece_put_view, piece_put_one, page_unnamed, page_same, page_other, page_moves}
use Rattle.strings.proofs.directive.Goals as goal

pub returns-then-x-z : goal.returns-then-x-z
returns-then-x-z c =
    let a = c.args in
    record { piece_put = page_moves a.page a.s.now c.requires c.byte_at-x.result c.byte_at-y.result c.byte_at-z.result c.byte_at-x.ensures c.byte_at-y.ensures c.byte_at-z.ensures c.if-x-z.true a.at a.out.now (omega arith); page_value = page_other a.page a.s.now c.requires c.byte_at-x.result c.byte_at-y.result c.byte_at-z.result c.byte_at-x.ensures c.byte_at-y.ensures c.byte_at-z.ensures c.if-x-z.true c.page_of.result c.page_of.ensures }

pub short-requires : goal.short-requires
short-requires c =
    let a = c.args in
    page_unnamed a.page a.s.now c.requires c.byte_at-x.result c.byte_at-y.result c.byte_at-z.result c.byte_at-x.ensures c.byte_at-y.ensures c.byte_at-z.ensures c.if-x-z.false

pub returns-in-Some : goal.returns-in-Some
returns-in-Some c =
    let a = c.args in
    record { piece_put = piece_put_one (directive_of a.page a.s.now) a.at a.out.now _ _ c.in-Some.c.code _ (rw c.in-Some.is at c.short.ensures) c.put_char.ensures; page_value = page_same a.page a.s.now c.requires c.byte_at-x.result c.byte_at-y.result c.byte_at-z.result c.byte_at-x.ensures c.byte_at-y.ensures c.byte_at-z.ensures c.if-x-z.false }

pub returns : goal.returns
returns c =
    let a = c.args in
    record { piece_put = piece_put_view (long_of a.s.now) (directive_of a.page a.s.now) a.at a.out.now _ _ _ (rw c.in_default.is at c.short.ensures) c.long-g.ensures; page_value = page_same a.page a.s.now c.requires c.byte_at-x.result c.byte_at-y.result c.byte_at-z.result c.byte_at-x.ensures c.byte_at-y.ensures c.byte_at-z.ensures c.if-x-z.false }
