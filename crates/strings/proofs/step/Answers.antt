use native.Mathlib.Omega.{arith}
use mathlib.Core.Path.{sym}
use Rattle.strings.specs.Text.{piece_of}
use Rattle.strings.specs.Ways.{piece_put_one, is_directive, piece_directive, no_directive, ordinary_page}
use Rattle.strings.proofs.step.Goals as goal

pub directive-requires : goal.directive-requires
directive-requires c =
    is_directive c.args.s.now c.byte_at.result c.byte_at.ensures (omega arith)

pub returns-then-byte_at-eq92 : goal.returns-then-byte_at-eq92
returns-then-byte_at-eq92 c =
    let a = c.args in
    record { piece_put = rw (sym (piece_directive a.page a.s.now (is_directive a.s.now c.byte_at.result c.byte_at.ensures (omega arith)))) c.directive.ensures.piece_put; page_value = c.directive.ensures.page_value }

pub ordinary-c-requires : goal.ordinary-c-requires
ordinary-c-requires c =
    no_directive c.args.s.now c.byte_at.result c.byte_at.ensures (omega arith)

pub returns : goal.returns
returns c =
    let a = c.args in
    record { piece_put = piece_put_one (piece_of a.page a.s.now) a.at a.out.now _ _ c.ordinary-c.result.code _ (c.ordinary-c.ensures a.page) c.put_char.ensures; page_value = ordinary_page a.page a.s.now c.byte_at.result c.byte_at.ensures (omega arith) }
