use Rattle.std.proofs.Common.{refl}
use Rattle.kinds.proofs.Kind.name.Goals as goal

pub returns-in-GeometricRepresentationContext : goal.returns-in-GeometricRepresentationContext
returns-in-GeometricRepresentationContext c = rw c.in-GeometricRepresentationContext.is refl

pub returns-in-GlobalUnitAssignedContext : goal.returns-in-GlobalUnitAssignedContext
returns-in-GlobalUnitAssignedContext c = rw c.in-GlobalUnitAssignedContext.is refl

pub returns-in-GlobalUncertaintyAssignedContext : goal.returns-in-GlobalUncertaintyAssignedContext
returns-in-GlobalUncertaintyAssignedContext c = rw c.in-GlobalUncertaintyAssignedContext.is refl

pub returns-in-LengthUnit : goal.returns-in-LengthUnit
returns-in-LengthUnit c = rw c.in-LengthUnit.is refl

pub returns-in-PlaneAngleUnit : goal.returns-in-PlaneAngleUnit
returns-in-PlaneAngleUnit c = rw c.in-PlaneAngleUnit.is refl

pub returns-in-SolidAngleUnit : goal.returns-in-SolidAngleUnit
returns-in-SolidAngleUnit c = rw c.in-SolidAngleUnit.is refl

pub returns-in-SiUnit : goal.returns-in-SiUnit
returns-in-SiUnit c = rw c.in-SiUnit.is refl

pub returns-in-ConversionBasedUnit : goal.returns-in-ConversionBasedUnit
returns-in-ConversionBasedUnit c = rw c.in-ConversionBasedUnit.is refl

pub returns-in-UncertaintyMeasureWithUnit : goal.returns-in-UncertaintyMeasureWithUnit
returns-in-UncertaintyMeasureWithUnit c = rw c.in-UncertaintyMeasureWithUnit.is refl

pub returns-in-LengthMeasureWithUnit : goal.returns-in-LengthMeasureWithUnit
returns-in-LengthMeasureWithUnit c = rw c.in-LengthMeasureWithUnit.is refl

pub returns-in-Complex : goal.returns-in-Complex
returns-in-Complex c = rw c.in-Complex.is refl
