use lib.ListN.{length}
use Rattle.table.specs.Laws.{last_test}
use Rattle.table.proofs.has_row.Goals as goal

pub returns : goal.returns
returns c = last_test 5 (length c.args.rows.now) c.args.r
