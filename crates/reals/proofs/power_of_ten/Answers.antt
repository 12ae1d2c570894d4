use Rattle.reals.specs.FloatTables.{power_worth}
use Rattle.reals.proofs.power_of_ten.Goals as goal

-- `reals::power_of_ten` meets its contract: the table's rule. Assumes nothing.

pub returns : goal.returns
returns c = power_worth c.args.k c.requires
