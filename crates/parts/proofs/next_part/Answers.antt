use Rattle.std.proofs.Common.{rules, ◌≡◌, sym, ◌∙◌, ap, Err}
use Rattle.std.proofs.Math.Nat.{min-eq_left}
use Rattle.std.proofs.Math.Option.{some}
use Rattle.lex.specs.Search.{closing}
use Rattle.lex.specs.Answer.{placed}
use Rattle.statement.specs.Rows.{mapped, header_row}
use native.Mathlib.Omega.{arith}
use Prim.Native.Nat.{◌+◌, ◌-◌, ◌≤◌}
use lib.ListN.{length, take, drop, length-take, length-drop}
use Rattle.parts.specs.Part.{part_by}
use Rattle.parts.specs.Laws.{next_outside, next_done, next_by_lem, head_places, mapped_some}
use Rattle.parts.proofs.next_part.Goals as goal

pub returns-then-s-end : goal.returns-then-s-end
returns-then-s-end c = next_outside c.args.s.now c.args.at c.args.end c.if-s-end.true

pub returns-then-end-at : goal.returns-then-end-at
returns-then-end-at c = next_done c.args.s.now c.args.at c.args.end c.if-s-end.false c.if-end-at.true

pub returns-in-Err : goal.returns-in-Err
returns-in-Err c = sym (next_by_lem c.args.s.now c.args.at c.args.end c.leading-a.result (omega arith) c.leading-a.ensures.t_value c.leading-a.ensures.upper_bound ∙ ap (part_by c.args.s.now (c.args.at + c.leading-a.result)) (sym c.in-Err.ensures))

pub returns-in_ok-keyed_at-in-Ok : goal.returns-in_ok-keyed_at-in-Ok
returns-in_ok-keyed_at-in-Ok c =
    let s = c.args.s.now in
    let x = c.args.at + c.leading-a.result in
    let h = c.in-Ok.head in
    let b = c.args in
    let m = take (b.end - b.at) (drop b.at b.s.now) in
    let l : length m ≡ b.end - b.at = simp (length-take, length-drop) (omega arith) in
    let a = c.leading-a.result in
    let t : length (take (length m - a) (drop a m)) ≡ length m - a = simp (length-take, length-drop) (omega arith) in
    let (p, q, r) = head_places (take (length m - a) (drop a m)) c.in-Ok.head (sym c.in-Ok.ensures) in
    let x1 : x + h.start ≤ 18446744073709551615 = omega arith in
    let x2 : x + h.end ≤ 18446744073709551615 = omega arith in
    let x3 : x + h.opening ≤ 18446744073709551615 = omega arith in
    let x4 : x + h.opening + 1 ≤ 18446744073709551615 = omega arith in
    let known = rw (min-eq_left x1, min-eq_left x2, min-eq_left x3, min-eq_left x4) at c.in_ok-keyed_at-in-Ok.ensures in
    ap (mapped some) known
    ∙ mapped_some (λ q. header_row (x + h.start) (x + h.end) (x + h.opening + 1) q) (placed s (closing (drop (x + h.opening) s)))
    ∙ sym (next_by_lem s c.args.at c.args.end c.leading-a.result (omega arith) c.leading-a.ensures.t_value c.leading-a.ensures.upper_bound ∙ ap (part_by s x) (sym c.in-Ok.ensures))

pub returns-in_err-keyed_at-in-Ok : goal.returns-in_err-keyed_at-in-Ok
returns-in_err-keyed_at-in-Ok c =
    let s = c.args.s.now in
    let x = c.args.at + c.leading-a.result in
    let h = c.in-Ok.head in
    let b = c.args in
    let m = take (b.end - b.at) (drop b.at b.s.now) in
    let l : length m ≡ b.end - b.at = simp (length-take, length-drop) (omega arith) in
    let a = c.leading-a.result in
    let t : length (take (length m - a) (drop a m)) ≡ length m - a = simp (length-take, length-drop) (omega arith) in
    let (p, q, r) = head_places (take (length m - a) (drop a m)) c.in-Ok.head (sym c.in-Ok.ensures) in
    let x1 : x + h.start ≤ 18446744073709551615 = omega arith in
    let x2 : x + h.end ≤ 18446744073709551615 = omega arith in
    let x3 : x + h.opening ≤ 18446744073709551615 = omega arith in
    let x4 : x + h.opening + 1 ≤ 18446744073709551615 = omega arith in
    let known = rw (min-eq_left x1, min-eq_left x2, min-eq_left x3, min-eq_left x4) at c.in_err-keyed_at-in-Ok.ensures in
    let k : c.from_residual.result ≡ Err c.in_err-keyed_at-in-Ok.field-0.0 = search rules in
    rw k (ap (mapped some) known
    ∙ mapped_some (λ q. header_row (x + h.start) (x + h.end) (x + h.opening + 1) q) (placed s (closing (drop (x + h.opening) s)))
    ∙ sym (next_by_lem s c.args.at c.args.end c.leading-a.result (omega arith) c.leading-a.ensures.t_value c.leading-a.ensures.upper_bound ∙ ap (part_by s x) (sym c.in-Ok.ensures)))
