use Rattle.reals.proofs.parse_real.Goals as goal

-- `reals::parse_real` meets its contract: a real of the class. Assumes nothing.

pub returns : goal.returns
returns c = c.read_real.ensures
