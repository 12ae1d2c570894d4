use native.Mathlib.Omega.{arith}
use Rattle.strings.specs.PlainRuns.{plain_whole}
use Rattle.strings.specs.Decoded.{decoded_plain, decoded_short, decoded_written, decoded_ample}
use Rattle.strings.proofs.decode_string.Goals as goal

pub returns-then-p-raw : goal.returns-then-p-raw
returns-then-p-raw c =
    let s = c.args.raw.now in
    let o = c.args.out.now in
    let q = decoded_plain s o (plain_whole s c.plain_len-p.result (omega arith) c.plain_len-p.ensures.plainly) in record { value = q.0; out_after = q.1.0; result_after = q.1.1 }

pub returns-then-raw-out : goal.returns-then-raw-out
returns-then-raw-out c =
    let s = c.args.raw.now in
    let o = c.args.out.now in
    let q = decoded_ample s o c.run-n.new.out c.run-n.result (c.plain_len-p.ensures.stops (omega (arith, c.plain_len-p.ensures.within))) (λ i. omega (arith, c.type_inv.raw i)) (omega arith) (omega (arith, c.well_formed.1.0.1)) c.run-n.ensures in record { value = q.0; out_after = q.1.0; result_after = q.1.1 }

pub returns-then-out-n : goal.returns-then-out-n
returns-then-out-n c =
    let s = c.args.raw.now in
    let o = c.args.out.now in
    let q = decoded_short s o c.text_length-n.result (c.plain_len-p.ensures.stops (omega (arith, c.plain_len-p.ensures.within))) c.text_length-n.ensures (omega arith) in record { value = q.0; out_after = q.1.0; result_after = q.1.1 }

pub returns : goal.returns
returns c =
    let s = c.args.raw.now in
    let o = c.args.out.now in
    let q = decoded_written s o c.run.new.out c.text_length-n.result _ (c.plain_len-p.ensures.stops (omega (arith, c.plain_len-p.ensures.within))) c.text_length-n.ensures (omega arith) (omega (arith, c.well_formed.1.0.1)) c.run.ensures in record { value = q.0; out_after = q.1.0; result_after = q.1.1 }
