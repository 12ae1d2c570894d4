use Rattle.common.specs.Tests.{bounds}
use Rattle.pages.specs.Right.{selects_capital, selects_small, selects_none}
use Rattle.pages.proofs.page_of.Goals as goal

pub overflow_sub-result : goal.overflow_sub-result
overflow_sub-result c = (bounds 65 c.args.letter 73 c.if-letter.true).0

pub returns-then-letter : goal.returns-then-letter
returns-then-letter c = selects_capital c.args.letter c.if-letter.true

pub overflow_sub-result-then-letter-2 : goal.overflow_sub-result-then-letter-2
overflow_sub-result-then-letter-2 c = (bounds 97 c.args.letter 105 c.if-letter-2.true).0

pub returns-then-letter-2 : goal.returns-then-letter-2
returns-then-letter-2 c = selects_small c.args.letter c.if-letter.false c.if-letter-2.true

pub returns : goal.returns
returns c = selects_none c.args.letter c.if-letter.false c.if-letter-2.false
