use Rattle.std.proofs.Common.{refl}
use Rattle.units.specs.Laws.{role_other}
use Rattle.units.proofs.role.role_by.Goals as goal

pub returns-in-LengthUnit : goal.returns-in-LengthUnit
returns-in-LengthUnit c = rw c.in-LengthUnit.is refl

pub returns-in-PlaneAngleUnit : goal.returns-in-PlaneAngleUnit
returns-in-PlaneAngleUnit c = rw c.in-PlaneAngleUnit.is refl

pub returns-in-SolidAngleUnit : goal.returns-in-SolidAngleUnit
returns-in-SolidAngleUnit c = rw c.in-SolidAngleUnit.is refl

pub returns-in_default : goal.returns-in_default
returns-in_default c = role_other c.args.kind c.in_default.not-LengthUnit c.in_default.not-PlaneAngleUnit c.in_default.not-SolidAngleUnit
