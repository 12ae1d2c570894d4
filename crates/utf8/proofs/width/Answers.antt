use native.Mathlib.Omega.{arith}
use Rattle.common.specs.Tests.{bounds}
use Rattle.utf8.specs.Laws.{encode_one, encode_two, encode_three, encode_four, encode_none, scalar_between, scalar_above, scalar_apart}
use lib.ListN.{length}
use mathlib.Core.Path.{sym, ap}
use Rattle.utf8.proofs.width.Goals as goal

pub returns-then-code-lt128 : goal.returns-then-code-lt128
returns-then-code-lt128 c = sym (ap length (encode_one c.args.code c.if-code-lt128.true))

pub returns-then-code-lt2048 : goal.returns-then-code-lt2048
returns-then-code-lt2048 c = sym (ap length (encode_two c.args.code c.if-code-lt128.false c.if-code-lt2048.true))

pub returns-then-code : goal.returns-then-code
returns-then-code c = let (l, h) = bounds 55296 c.args.code 57343 c.if-code.true in
    sym (ap length (encode_none c.args.code (scalar_between c.args.code l h)))

pub returns-then-code-lt65536 : goal.returns-then-code-lt65536
returns-then-code-lt65536 c = let code = c.args.code in
    sym (ap length (encode_three code c.if-code-lt2048.false c.if-code-lt65536.true (scalar_apart code c.if-code.false (omega arith))))

pub returns-then-code-le1114111 : goal.returns-then-code-le1114111
returns-then-code-le1114111 c = sym (ap length (encode_four c.args.code c.if-code-lt65536.false c.if-code-le1114111.true))

pub returns : goal.returns
returns c = let code = c.args.code in sym (ap length (encode_none code (scalar_above code c.if-code-le1114111.false)))
