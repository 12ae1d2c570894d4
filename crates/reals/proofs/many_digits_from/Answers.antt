use Prim.Native.Nat.{◌<◌, ◌^◌}
use borrow.Author.Rules.{rules}
use lib.ListN.{length}
use Rattle.reals.specs.DigitLoop.{NumberReading, number_reading_starts, number_reading_then, run_read, run_fits}
use Rattle.reals.proofs.many_digits_from.Goals as goal

-- `reals::many_digits_from` meets its contract: eight digits and eight more, four, and those that are left. Assumes nothing.

pub with_run-d-requires : goal.with_run-d-requires
with_run-d-requires c =
    let a = c.args in
    let t = a.t.now in
    let l : length t < 2 ^ 63 = search rules in
    (c.requires.1, run_fits t a.at a.from a.cap 8 c.eight_at.result (record { value = a.from; next = a.at }) l c.eight_at.ensures)

pub eight_at-requires-2 : goal.eight_at-requires-2
eight_at-requires-2 c =
    let a = c.args in
    let t = a.t.now in
    let l : length t < 2 ^ 63 = search rules in
    let s : NumberReading t a.at a.from a.cap a.from a.at = number_reading_starts t a.at a.from a.cap c.requires.0 c.requires.1 in
    let d : NumberReading t a.at a.from a.cap c.with_run-d.result.value c.with_run-d.result.next = run_read t a.at a.from a.cap 8 c.eight_at.result (record { value = a.from; next = a.at }) c.with_run-d.result c.eight_at.ensures c.with_run-d.ensures s in
    d.within

pub with_run-e-requires : goal.with_run-e-requires
with_run-e-requires c =
    let a = c.args in
    let t = a.t.now in
    let l : length t < 2 ^ 63 = search rules in
    let s : NumberReading t a.at a.from a.cap a.from a.at = number_reading_starts t a.at a.from a.cap c.requires.0 c.requires.1 in
    let d : NumberReading t a.at a.from a.cap c.with_run-d.result.value c.with_run-d.result.next = run_read t a.at a.from a.cap 8 c.eight_at.result (record { value = a.from; next = a.at }) c.with_run-d.result c.eight_at.ensures c.with_run-d.ensures s in
    (d.held, run_fits t a.at a.from a.cap 8 c.eight_at-2.result c.with_run-d.result l c.eight_at-2.ensures)

pub four_at-requires : goal.four_at-requires
four_at-requires c =
    let a = c.args in
    let t = a.t.now in
    let l : length t < 2 ^ 63 = search rules in
    let s : NumberReading t a.at a.from a.cap a.from a.at = number_reading_starts t a.at a.from a.cap c.requires.0 c.requires.1 in
    let d : NumberReading t a.at a.from a.cap c.with_run-d.result.value c.with_run-d.result.next = run_read t a.at a.from a.cap 8 c.eight_at.result (record { value = a.from; next = a.at }) c.with_run-d.result c.eight_at.ensures c.with_run-d.ensures s in
    let e : NumberReading t a.at a.from a.cap c.with_run-e.result.value c.with_run-e.result.next = run_read t a.at a.from a.cap 8 c.eight_at-2.result c.with_run-d.result c.with_run-e.result c.eight_at-2.ensures c.with_run-e.ensures d in
    e.within

pub with_run-g-requires : goal.with_run-g-requires
with_run-g-requires c =
    let a = c.args in
    let t = a.t.now in
    let l : length t < 2 ^ 63 = search rules in
    let s : NumberReading t a.at a.from a.cap a.from a.at = number_reading_starts t a.at a.from a.cap c.requires.0 c.requires.1 in
    let d : NumberReading t a.at a.from a.cap c.with_run-d.result.value c.with_run-d.result.next = run_read t a.at a.from a.cap 8 c.eight_at.result (record { value = a.from; next = a.at }) c.with_run-d.result c.eight_at.ensures c.with_run-d.ensures s in
    let e : NumberReading t a.at a.from a.cap c.with_run-e.result.value c.with_run-e.result.next = run_read t a.at a.from a.cap 8 c.eight_at-2.result c.with_run-d.result c.with_run-e.result c.eight_at-2.ensures c.with_run-e.ensures d in
    (e.held, run_fits t a.at a.from a.cap 4 c.four_at.result c.with_run-e.result l c.four_at.ensures)

pub digits_from-requires : goal.digits_from-requires
digits_from-requires c =
    let a = c.args in
    let t = a.t.now in
    let l : length t < 2 ^ 63 = search rules in
    let s : NumberReading t a.at a.from a.cap a.from a.at = number_reading_starts t a.at a.from a.cap c.requires.0 c.requires.1 in
    let d : NumberReading t a.at a.from a.cap c.with_run-d.result.value c.with_run-d.result.next = run_read t a.at a.from a.cap 8 c.eight_at.result (record { value = a.from; next = a.at }) c.with_run-d.result c.eight_at.ensures c.with_run-d.ensures s in
    let e : NumberReading t a.at a.from a.cap c.with_run-e.result.value c.with_run-e.result.next = run_read t a.at a.from a.cap 8 c.eight_at-2.result c.with_run-d.result c.with_run-e.result c.eight_at-2.ensures c.with_run-e.ensures d in
    let g : NumberReading t a.at a.from a.cap c.with_run-g.result.value c.with_run-g.result.next = run_read t a.at a.from a.cap 4 c.four_at.result c.with_run-e.result c.with_run-g.result c.four_at.ensures c.with_run-g.ensures e in
    (g.within, g.held)

pub returns : goal.returns
returns c =
    let a = c.args in
    let t = a.t.now in
    let l : length t < 2 ^ 63 = search rules in
    let s : NumberReading t a.at a.from a.cap a.from a.at = number_reading_starts t a.at a.from a.cap c.requires.0 c.requires.1 in
    let d : NumberReading t a.at a.from a.cap c.with_run-d.result.value c.with_run-d.result.next = run_read t a.at a.from a.cap 8 c.eight_at.result (record { value = a.from; next = a.at }) c.with_run-d.result c.eight_at.ensures c.with_run-d.ensures s in
    let e : NumberReading t a.at a.from a.cap c.with_run-e.result.value c.with_run-e.result.next = run_read t a.at a.from a.cap 8 c.eight_at-2.result c.with_run-d.result c.with_run-e.result c.eight_at-2.ensures c.with_run-e.ensures d in
    let g : NumberReading t a.at a.from a.cap c.with_run-g.result.value c.with_run-g.result.next = run_read t a.at a.from a.cap 4 c.four_at.result c.with_run-e.result c.with_run-g.result c.four_at.ensures c.with_run-g.ensures e in
    number_reading_then t a.at a.from a.cap c.with_run-g.result.value c.with_run-g.result.next c.digits_from.result g c.digits_from.ensures
