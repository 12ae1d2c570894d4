use native.Mathlib.Omega.{arith}
use Rattle.utf8.specs.Utf8.{encode}
use Rattle.strings.specs.Put.{put_one, put_some}
use Rattle.strings.proofs.put_char.Goals as goal

pub overflow_add-result : goal.overflow_add-result
overflow_add-result c =
    let a = c.args in
    let u = put_some a.at a.out.now _ c.put-u.result c.put-u.ensures.value (omega arith) in
    omega arith

pub returns-then-u-ne0 : goal.returns-then-u-ne0
returns-then-u-ne0 c =
    let a = c.args in
    let u = put_some a.at a.out.now (encode a.code) c.put-u.result c.put-u.ensures.value (omega arith) in
    put_one a.at a.out.now a.code c.put-u.result _ c.put-u.new.out u.0 c.put-u.ensures.out_after (omega arith)

pub returns : goal.returns
returns c =
    let a = c.args in
    put_one a.at a.out.now a.code c.width.result c.saturating_add.result c.put-u.new.out c.width.ensures c.put-u.ensures.out_after (omega (arith, c.saturating_add.ensures))
