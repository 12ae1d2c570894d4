use native.Mathlib.Omega.{arith}
use mathlib.Core.Path.{ap, ◌∙◌, sym}
use lib.Seq.{sets}
use Rattle.utf8.specs.Utf8.{encode}
use Rattle.utf8.specs.Laws.{sized, put_short, put_fits}
use mathlib.Core.Path.{◌≡◌}
use Rattle.utf8.proofs.put.Goals as goal

pub returns-then-room-at : goal.returns-then-room-at
returns-then-room-at c = let q = put_short c.args.at (encode c.args.code) c.args.out.now (omega arith) in record { value = q.0; out_after = q.1 }

pub returns-then-room-at-2 : goal.returns-then-room-at-2
returns-then-room-at-2 c = let q = put_short c.args.at (encode c.args.code) c.args.out.now (omega (arith, c.width-n.ensures)) in record { value = q.0; out_after = q.1 }

pub put_one-requires : goal.put_one-requires
put_one-requires c = (omega arith, (sized c.args.code c.width-n.result c.width-n.ensures).at_one c.if-n-eq1.true)

pub put_two-requires : goal.put_two-requires
put_two-requires c = let (l, h) = (sized c.args.code c.width-n.result c.width-n.ensures).at_two c.if-n-eq2.true in (omega arith, l, h)

pub put_three-requires : goal.put_three-requires
put_three-requires c = let (l, h, e) = (sized c.args.code c.width-n.result c.width-n.ensures).at_three c.if-n-eq3.true in (omega arith, l, h, e)

pub put_four-requires : goal.put_four-requires
put_four-requires c = let (l, h) = (sized c.args.code c.width-n.result c.width-n.ensures).at_four c.if-n-eq4.true in (omega arith, l, h)

pub returns-then-n-eq1 : goal.returns-then-n-eq1
returns-then-n-eq1 c = let o = c.args.out.now in
    let (w, p) = put_fits c.args.at (encode c.args.code) o (omega (arith, c.width-n.ensures)) in
    record { value = c.width-n.ensures ∙ w; out_after = c.put_one.ensures ∙ p }

pub returns-then-n-eq2 : goal.returns-then-n-eq2
returns-then-n-eq2 c = let o = c.args.out.now in
    let (w, p) = put_fits c.args.at (encode c.args.code) o (omega (arith, c.width-n.ensures)) in
    record { value = c.width-n.ensures ∙ w; out_after = c.put_two.ensures ∙ p }

pub returns-then-n-eq3 : goal.returns-then-n-eq3
returns-then-n-eq3 c = let o = c.args.out.now in
    let (w, p) = put_fits c.args.at (encode c.args.code) o (omega (arith, c.width-n.ensures)) in
    record { value = c.width-n.ensures ∙ w; out_after = c.put_three.ensures ∙ p }

pub returns-then-n-eq4 : goal.returns-then-n-eq4
returns-then-n-eq4 c = let o = c.args.out.now in
    let (w, p) = put_fits c.args.at (encode c.args.code) o (omega (arith, c.width-n.ensures)) in
    record { value = c.width-n.ensures ∙ w; out_after = c.put_four.ensures ∙ p }

pub returns-else-n-eq4 : goal.returns-else-n-eq4
returns-else-n-eq4 c = let o = c.args.out.now in
    let n : c.width-n.result ≡ 0 = omega (arith, (sized c.args.code c.width-n.result c.width-n.ensures).at_most) in
    let (w, p) = put_fits c.args.at (encode c.args.code) o (omega (arith, c.width-n.ensures)) in
    record { value = c.width-n.ensures ∙ w; out_after = sym (ap (sets o c.args.at) ((sized c.args.code c.width-n.result c.width-n.ensures).at_none n)) ∙ p }
