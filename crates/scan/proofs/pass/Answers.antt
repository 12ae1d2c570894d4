use Rattle.scan.specs.ScanMemory.{header_room}
use Rattle.scan.specs.Fits.{statement_fits, header_fits_more, record_fits_more}
use Rattle.scan.specs.Laws.{going_starts, going_refused, going_moves, header_full, record_full, going_header, going_record, pass_done, pass_failed}
use Rattle.scan.specs.TidyRun.{records_ran_on, records_ran_length, going_ran, tidying_ran}
use Rattle.scan.specs.Neat.{knows_writes, tidying_starts, tidying_ends, tidying_moves, tidying_header, tidying_record}
use Rattle.statement.specs.Answer.{told_said}
use lib.ListN.{length, drop}
use native.Mathlib.Omega.{arith}
use Rattle.std.proofs.Common.{rules, ◌≡◌, ap, sym, refl, ◌∙◌, Ok, Err}
use Rattle.scan.proofs.pass.Goals as goal

pub loop-n-init : goal.loop-n-init
loop-n-init c = let a = c.args in (
  refl,
  refl,
  going_starts a.s.now (header_room a.headers.now) c.data_room-room.result c.writes-write.result a.headers.now a.rows.now,
  tidying_starts a.s.now c.knows-known.result (λ z. c.requires.1 (sym c.knows-known.ensures ∙ z)),
)

pub returns-in-Ends : goal.returns-in-Ends
returns-in-Ends c = let a = c.args in
    let e = sym (ap (λ x. told_said a.s.now (Ok x)) c.in-Ends.is) ∙ c.in_ok-n.ensures.said_value in
    let g = c.loop-n.invariant.2 in
    let y = c.loop-n.invariant.3 in
    let b = c.in_ok-n.ensures.tidy_value in
    let l = pass_done _ _ _ _ _ _ _ _ _ _ _ _ _ g _ c.data_room-room.ensures e in
    record { result_value = l.0; pass_writes = rw (← c.writes-write.ensures) l.1.0; pass_writes_2 = rw (← c.writes-write.ensures) l.1.1; neat_told = tidying_ends _ _ _ _ _ y _ b e }

pub returns-in_err-n : goal.returns-in_err-n
returns-in_err-n c =
    let k : c.from_residual.result ≡ Err c.in_err-n.field-0.0 = search rules in
    let e = c.in_err-n.ensures.said_value in
    let g = c.loop-n.invariant.2 in
    let l = pass_failed _ _ _ _ _ _ _ _ _ _ _ _ _ g _ c.data_room-room.ensures _ (going_refused _ _ _ _ _ _ _ _ _ _ _ _ _ g _ e) in
    record { result_value = rw k l.0; pass_writes = rw (← c.writes-write.ensures) l.1.0; pass_writes_2 = rw (← c.writes-write.ensures) l.1.1; neat_told = rw k tt }

pub loop-n-smaller-in-Moves : goal.loop-n-smaller-in-Moves
loop-n-smaller-in-Moves c = let a = c.args in
    let e = sym (ap (λ x. told_said a.s.now (Ok x)) c.in-Moves.is) ∙ c.in_ok-n.ensures.said_value in
    let w = rw c.in-Moves.is at c.in_ok-n.ensures.ahead in
    let g = c.loop-n.invariant.2 in
    let y = c.loop-n.invariant.3 in
    let b = c.in_ok-n.ensures.tidy_value in
    omega arith

pub loop-n-preserved-in-Moves : goal.loop-n-preserved-in-Moves
loop-n-preserved-in-Moves c = let a = c.args in
    let e = sym (ap (λ x. told_said a.s.now (Ok x)) c.in-Moves.is) ∙ c.in_ok-n.ensures.said_value in
    let w = rw c.in-Moves.is at c.in_ok-n.ensures.ahead in
    let g = c.loop-n.invariant.2 in
    let y = c.loop-n.invariant.3 in
    let b = c.in_ok-n.ensures.tidy_value in
    (c.loop-n.invariant.0, c.loop-n.invariant.1, going_moves _ _ _ _ _ _ _ _ _ _ _ _ _ g _ _ e w.0 w.1, tidying_moves _ _ _ _ _ y _ b _ _ e)

pub returns-then-headers_fit-h : goal.returns-then-headers_fit-h
returns-then-headers_fit-h c = let a = c.args in
    let e = sym (ap (λ x. told_said a.s.now (Ok x)) c.in-Heads.is) ∙ c.in_ok-n.ensures.said_value in
    let w = rw c.in-Heads.is at c.in_ok-n.ensures.ahead in
    let g = c.loop-n.invariant.2 in
    let y = c.loop-n.invariant.3 in
    let b = c.in_ok-n.ensures.tidy_value in
    let l = pass_failed _ _ _ _ _ _ _ _ _ _ _ _ _ g _ c.data_room-room.ensures _ (header_full _ _ _ _ _ _ _ _ _ _ _ _ _ g _ c.in-Heads.start c.in-Heads.next (omega arith) e (omega (arith, c.if-headers_fit-h.true, c.loop-n.invariant.0, c.headers_fit.ensures))) in
    record { result_value = l.0; pass_writes = rw (← c.writes-write.ensures) l.1.0; pass_writes_2 = rw (← c.writes-write.ensures) l.1.1; neat_told = tt }

pub put_header-h-requires : goal.put_header-h-requires
put_header-h-requires c = let a = c.args in
    let e = sym (ap (λ x. told_said a.s.now (Ok x)) c.in-Heads.is) ∙ c.in_ok-n.ensures.said_value in
    let w = rw c.in-Heads.is at c.in_ok-n.ensures.ahead in
    let g = c.loop-n.invariant.2 in
    let y = c.loop-n.invariant.3 in
    let b = c.in_ok-n.ensures.tidy_value in
    (omega arith, header_fits_more (length a.s.now) 4294967295 _ (omega arith) (rw (sym e) at (statement_fits a.s.now c.loop-n.section (drop c.loop-n.i a.s.now))))

pub loop-n-smaller-in-Heads : goal.loop-n-smaller-in-Heads
loop-n-smaller-in-Heads c = let a = c.args in
    let e = sym (ap (λ x. told_said a.s.now (Ok x)) c.in-Heads.is) ∙ c.in_ok-n.ensures.said_value in
    let w = rw c.in-Heads.is at c.in_ok-n.ensures.ahead in
    let g = c.loop-n.invariant.2 in
    let y = c.loop-n.invariant.3 in
    let b = c.in_ok-n.ensures.tidy_value in
    omega arith

pub loop-n-preserved-in-Heads : goal.loop-n-preserved-in-Heads
loop-n-preserved-in-Heads c = let a = c.args in
    let e = sym (ap (λ x. told_said a.s.now (Ok x)) c.in-Heads.is) ∙ c.in_ok-n.ensures.said_value in
    let w = rw c.in-Heads.is at c.in_ok-n.ensures.ahead in
    let g = c.loop-n.invariant.2 in
    let y = c.loop-n.invariant.3 in
    let b = c.in_ok-n.ensures.tidy_value in
    let p = c.put_header-h in (
      p.auto.out ∙ c.loop-n.invariant.0,
      c.loop-n.invariant.1,
      rw (p.ensures.out_after, p.ensures.value) (going_header _ _ _ _ _ _ _ _ _ _ _ _ _ g _ c.in-Heads.start _ e w.0 w.2 (omega arith) (omega arith)),
      tidying_header _ _ _ _ _ y _ b _ c.in-Heads.start _ e,
    )

pub returns-then-room-r : goal.returns-then-room-r
returns-then-room-r c = let a = c.args in
    let e = sym (ap (λ x. told_said a.s.now (Ok x)) c.in-Records.is) ∙ c.in_ok-n.ensures.said_value in
    let w = rw c.in-Records.is at c.in_ok-n.ensures.ahead in
    let g = c.loop-n.invariant.2 in
    let y = c.loop-n.invariant.3 in
    let b = c.in_ok-n.ensures.tidy_value in
    let l = pass_failed _ _ _ _ _ _ _ _ _ _ _ _ _ g _ c.data_room-room.ensures _ (record_full _ _ _ _ _ _ _ _ _ _ _ _ _ g _ c.in-Records.start c.in-Records.next (omega arith) e c.if-room-r.true) in
    record { result_value = l.0; pass_writes = rw (← c.writes-write.ensures) l.1.0; pass_writes_2 = rw (← c.writes-write.ensures) l.1.1; neat_told = tt }

pub put_record-requires : goal.put_record-requires
put_record-requires c = let a = c.args in
    let e = sym (ap (λ x. told_said a.s.now (Ok x)) c.in-Records.is) ∙ c.in_ok-n.ensures.said_value in
    let w = rw c.in-Records.is at c.in_ok-n.ensures.ahead in
    let g = c.loop-n.invariant.2 in
    let y = c.loop-n.invariant.3 in
    let b = c.in_ok-n.ensures.tidy_value in
    record_fits_more (length a.s.now) 4294967295 _ (omega arith) (rw (sym e) at (statement_fits a.s.now c.loop-n.section (drop c.loop-n.i a.s.now)))

pub overflow_add-r : goal.overflow_add-r
overflow_add-r c = omega (arith, c.data_room-room.ensures)

pub run-t-requires : goal.run-t-requires
run-t-requires c = let a = c.args in
    let e = sym (ap (λ x. told_said a.s.now (Ok x)) c.in-Records.is) ∙ c.in_ok-n.ensures.said_value in
    let w = rw c.in-Records.is at c.in_ok-n.ensures.ahead in
    let g = c.loop-n.invariant.2 in
    let y = c.loop-n.invariant.3 in
    let d = c.in_ok-n.ensures.tidy_value in
    let p = c.put_record in
    let l = p.auto.out ∙ c.loop-n.invariant.1 in
    (c.requires.0, w.2, omega (arith, l, c.data_room-room.ensures), (tidying_record _ _ _ _ _ y _ d _ c.in-Records.start c.in-Records.next e).ahead)

pub loop-n-smaller : goal.loop-n-smaller
loop-n-smaller c = let a = c.args in
    let e = sym (ap (λ x. told_said a.s.now (Ok x)) c.in-Records.is) ∙ c.in_ok-n.ensures.said_value in
    let w = rw c.in-Records.is at c.in_ok-n.ensures.ahead in
    let g = c.loop-n.invariant.2 in
    let y = c.loop-n.invariant.3 in
    let d = c.in_ok-n.ensures.tidy_value in
    let o = records_ran_on _ _ _ _ _ _ _ c.run-t.ensures in
    omega (arith, w, o)

pub loop-n-preserved : goal.loop-n-preserved
loop-n-preserved c = let a = c.args in
    let e = sym (ap (λ x. told_said a.s.now (Ok x)) c.in-Records.is) ∙ c.in_ok-n.ensures.said_value in
    let w = rw c.in-Records.is at c.in_ok-n.ensures.ahead in
    let g = c.loop-n.invariant.2 in
    let y = c.loop-n.invariant.3 in
    let d = c.in_ok-n.ensures.tidy_value in
    let p = c.put_record in
    let u = c.run-t in
    let l = records_ran_length _ _ _ _ _ _ _ u.ensures in (
      c.loop-n.invariant.0,
      l ∙ p.auto.out ∙ c.loop-n.invariant.1,
      going_ran _ _ _ _ _ _ _ _ _ _ _ _ _ (omega (arith, c.data_room-room.ensures)) (λ z. c.writes-write.ensures ∙ knows_writes a.task (sym c.knows-known.ensures ∙ z))
          (rw (p.ensures, c.max.ensures) (going_record _ _ _ _ _ _ _ _ _ _ _ _ _ g _ c.in-Records.start _ e w.0 w.2 c.if-room-r.false (omega (arith, c.if-room-r.false, c.data_room-room.ensures))))
          u.ensures,
      tidying_ran _ _ _ _ _ _ _ _ (tidying_record _ _ _ _ _ y _ d _ c.in-Records.start _ e) u.ensures,
    )
