use Rattle.common.specs.Tests.{both}
use Rattle.scan.specs.Fits.{statement_fits, record_fits_more}
use Rattle.scan.specs.Neat.{neat_tidy, neat_row}
use Rattle.scan.specs.TidyRun.{RecordsRan, records_ran_length}
use Rattle.statement.specs.Rows.{told_row}
use Rattle.statement.specs.Answer.{told_tidied}
use Rattle.statement.specs.TidyRight.{tidy_said}
use Rattle.statement.specs.declared.Section.TheVariants.{InData}
use lib.ListN.{length, drop}
use borrow.Author.Tests.{ltb-true}
use native.Mathlib.Omega.{arith}
use mathlib.Core.Path.{ap, sym, ◌∙◌}
use Rattle.scan.proofs.run.Goals as goal

pub loop-count-init : goal.loop-count-init
loop-count-init c = (RecordsRan.none, c.requires.3)

pub shape_of-rows-in_default : goal.shape_of-rows-in_default
shape_of-rows-in_default c = records_ran_length _ _ _ _ _ _ _ c.loop-count.invariant.0

pub returns-in_default : goal.returns-in_default
returns-in_default c = c.loop-count.invariant.0

pub put_record-requires : goal.put_record-requires
put_record-requires c = let a = c.args in
    let x = a.s.now in
    let t = c.loop-count in
    let k = (both a.known _ c.loop-count-test.true).0 in
    let z = neat_tidy x InData (drop t.place x) (t.invariant.1 k) in
    let q = tidy_said x t.place (told_row c.in-Some.span) (drop c.in-Some.field-0-1 x) (drop c.in-Some.next x) (sym (ap (told_tidied x) c.in-Some.is) ∙ c.tidy_record.ensures.result_value) z in
    let w = rw c.in-Some.is at c.tidy_record.ensures.tidy_ahead in
    let u = records_ran_length _ _ _ _ _ _ _ t.invariant.0 in
    let f = ltb-true t.count a.room (both a.known _ c.loop-count-test.true).1 in
    record_fits_more (length x) 4294967295 _ c.requires.0 (rw (sym q) at (statement_fits x InData (drop t.place x)))

pub overflow_add-count : goal.overflow_add-count
overflow_add-count c = let a = c.args in
    let x = a.s.now in
    let t = c.loop-count in
    let k = (both a.known _ c.loop-count-test.true).0 in
    let z = neat_tidy x InData (drop t.place x) (t.invariant.1 k) in
    let q = tidy_said x t.place (told_row c.in-Some.span) (drop c.in-Some.field-0-1 x) (drop c.in-Some.next x) (sym (ap (told_tidied x) c.in-Some.is) ∙ c.tidy_record.ensures.result_value) z in
    let w = rw c.in-Some.is at c.tidy_record.ensures.tidy_ahead in
    let u = records_ran_length _ _ _ _ _ _ _ t.invariant.0 in
    let f = ltb-true t.count a.room (both a.known _ c.loop-count-test.true).1 in
    record { fits = omega (arith, f) }

pub loop-count-smaller : goal.loop-count-smaller
loop-count-smaller c = let a = c.args in
    let x = a.s.now in
    let t = c.loop-count in
    let k = (both a.known _ c.loop-count-test.true).0 in
    let z = neat_tidy x InData (drop t.place x) (t.invariant.1 k) in
    let q = tidy_said x t.place (told_row c.in-Some.span) (drop c.in-Some.field-0-1 x) (drop c.in-Some.next x) (sym (ap (told_tidied x) c.in-Some.is) ∙ c.tidy_record.ensures.result_value) z in
    let w = rw c.in-Some.is at c.tidy_record.ensures.tidy_ahead in
    let u = records_ran_length _ _ _ _ _ _ _ t.invariant.0 in
    let f = ltb-true t.count a.room (both a.known _ c.loop-count-test.true).1 in
    omega (arith, w)

pub loop-count-preserved : goal.loop-count-preserved
loop-count-preserved c = let a = c.args in
    let x = a.s.now in
    let t = c.loop-count in
    let k = (both a.known _ c.loop-count-test.true).0 in
    let z = neat_tidy x InData (drop t.place x) (t.invariant.1 k) in
    let q = tidy_said x t.place (told_row c.in-Some.span) (drop c.in-Some.field-0-1 x) (drop c.in-Some.next x) (sym (ap (told_tidied x) c.in-Some.is) ∙ c.tidy_record.ensures.result_value) z in
    let w = rw c.in-Some.is at c.tidy_record.ensures.tidy_ahead in
    let u = records_ran_length _ _ _ _ _ _ _ t.invariant.0 in
    let f = ltb-true t.count a.room (both a.known _ c.loop-count-test.true).1 in
    rw (c.put_record.ensures, c.max-max.ensures) (
      RecordsRan.more t.invariant.0 k (told_row c.in-Some.span) c.in-Some.field-0-1 c.in-Some.next q z (omega (arith, w)) (omega (arith, w)) f,
      λ y. neat_row x InData (drop t.place x) (told_row c.in-Some.span) (drop c.in-Some.field-0-1 x) (drop c.in-Some.next x) q (t.invariant.1 y),
    )

pub shape_of-rows : goal.shape_of-rows
shape_of-rows c = records_ran_length _ _ _ _ _ _ _ c.loop-count.invariant.0

pub returns : goal.returns
returns c = c.loop-count.invariant.0
