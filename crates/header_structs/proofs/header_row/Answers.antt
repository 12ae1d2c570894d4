use Rattle.std.proofs.Common.{sym, ◌∙◌}
use Rattle.header_structs.specs.Laws.{begins, header_stops, goes, no_header_left}
use Rattle.header_structs.proofs.header_row.Goals as goal

pub loop-i-init : goal.loop-i-init
loop-i-init c = begins c.args.file.now c.args.name.now c.args.heads.now

pub returns-then-span_named : goal.returns-then-span_named
returns-then-span_named c = header_stops c.args.file.now c.args.name.now c.args.heads.now c.loop-i.i c.loop-i-test.true c.loop-i.invariant (sym c.span_named.ensures ∙ c.if-span_named.true)

pub loop-i-preserved : goal.loop-i-preserved
loop-i-preserved c = goes c.args.file.now c.args.name.now c.args.heads.now c.loop-i.i c.loop-i-test.true c.loop-i.invariant (sym c.span_named.ensures ∙ c.if-span_named.false)

pub returns : goal.returns
returns c = no_header_left c.args.file.now c.args.name.now c.args.heads.now c.loop-i.i c.loop-i-test.false c.loop-i.invariant
