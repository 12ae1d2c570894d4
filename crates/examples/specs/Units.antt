-- Units by example: one small file for each rule of document 01's 'Units' that a reader can get wrong, and the answer of the definitions,
-- as one list under one statement. 4607182418800017408 is 1.0, 4652007308841189376 is 1000.0, 4602678819172646912 is 0.5 and
-- 4562254508917369340 is 1e-3. Assumes nothing.
use Rattle.std.specs.Prelude.{◌≡◌, refl, true, false, List, [], ◌∷◌, map}
use Prim.Native.String.{String}
use Rattle.error.specs.Refusal.{refusal, Told, good, bad}
use Rattle.common.specs.Bytes.{bytes}
use Rattle.params.specs.Answer.{onward}
use Rattle.scan.specs.File.{scan_of}
use Rattle.units.specs.Answer.{Units, units}
use Rattle.serve.specs.Serve.{units_of}
use Rattle.order.specs.Computed.{resolving}

-- a file and the unit answer that is owed for it
pub record UnitExample : Type 0 where
  pub file : String
  pub owed : Told Units

-- an example from its file and the answer that is owed
abbrev pub unit_example : String → Told Units → UnitExample
unit_example f u = record { file = f; owed = u }

-- the unit answer of a file with room for ten records
abbrev pub unit_answer_of : UnitExample → Told Units
unit_answer_of x = onward (units_of (bytes x.file)) (scan_of (bytes x.file) 0 10)

-- "its later length unit overwrites an earlier": millimetre and then metre: 1000.0
unfoldable pub later_unit : UnitExample
later_unit = unit_example
    "ISO-10303-21;DATA;#1=(GEOMETRIC_REPRESENTATION_CONTEXT(3)GLOBAL_UNIT_ASSIGNED_CONTEXT((#2,#3)));#2=(LENGTH_UNIT()SI_UNIT(.MILLI.,.METRE.));#3=(LENGTH_UNIT()SI_UNIT($,.METRE.));"
    (good (units 4652007308841189376 4607182418800017408 4562254508917369340 true))

-- "An angle's conversion gives the measure's number alone.": 0.5 over a base of milliradians: 0.5
unfoldable pub angle : UnitExample
angle = unit_example
    "ISO-10303-21;DATA;#1=(GEOMETRIC_REPRESENTATION_CONTEXT(3)GLOBAL_UNIT_ASSIGNED_CONTEXT((#2,#3)));#2=(LENGTH_UNIT()SI_UNIT(.MILLI.,.METRE.));#3=(CONVERSION_BASED_UNIT('D',#4)PLANE_ANGLE_UNIT());#4=M(0.5,#5);#5=(PLANE_ANGLE_UNIT()SI_UNIT(.MILLI.,.RADIAN.));"
    (good (units 4607182418800017408 4602678819172646912 4562254508917369340 true))

-- "the first listed simple UNCERTAINTY_MEASURE_WITH_UNIT that reads": a missing record, a complex one, then 0.5, then 0.125
unfoldable pub tolerance : UnitExample
tolerance = unit_example
    "ISO-10303-21;DATA;#1=(GEOMETRIC_REPRESENTATION_CONTEXT(3)GLOBAL_UNCERTAINTY_ASSIGNED_CONTEXT((#9,#3,#4,#5))GLOBAL_UNIT_ASSIGNED_CONTEXT((#2)));#2=(LENGTH_UNIT()SI_UNIT(.MILLI.,.METRE.));#3=(UNCERTAINTY_MEASURE_WITH_UNIT(0.25,#2));#4=UNCERTAINTY_MEASURE_WITH_UNIT(LENGTH_MEASURE(0.5),#2);#5=UNCERTAINTY_MEASURE_WITH_UNIT(0.125,#2);"
    (good (units 4607182418800017408 4607182418800017408 4602678819172646912 true))

-- "The first [..] whose units give a length factor decides": the first context has none: "another name no factor"
unfoldable pub context_passed : UnitExample
context_passed = unit_example
    "ISO-10303-21;DATA;#1=(GEOMETRIC_REPRESENTATION_CONTEXT(3)GLOBAL_UNIT_ASSIGNED_CONTEXT((#3)));#2=(GEOMETRIC_REPRESENTATION_CONTEXT(3)GLOBAL_UNIT_ASSIGNED_CONTEXT((#4)));#3=(LENGTH_UNIT()SI_UNIT($,.INCH.));#4=(LENGTH_UNIT()SI_UNIT(.MILLI.,.METRE.));"
    (good (units 4607182418800017408 4607182418800017408 4562254508917369340 true))

-- "superseded ones included": #1 is defined again, as no context
unfoldable pub superseded : UnitExample
superseded = unit_example
    "ISO-10303-21;DATA;#1=(GEOMETRIC_REPRESENTATION_CONTEXT(3)GLOBAL_UNIT_ASSIGNED_CONTEXT((#2)));#1=A();#2=(LENGTH_UNIT()SI_UNIT($,.METRE.));"
    (good (units 4652007308841189376 4607182418800017408 4562254508917369340 true))

-- "The seventeenth conversion unit on one chain is 15": a chain that runs in a circle
unfoldable pub circle : UnitExample
circle = unit_example
    "ISO-10303-21;DATA;#1=(GEOMETRIC_REPRESENTATION_CONTEXT(3)GLOBAL_UNIT_ASSIGNED_CONTEXT((#2)));#2=(CONVERSION_BASED_UNIT('X',#3)LENGTH_UNIT());#3=M(1.,#2);"
    (bad (refusal 15 0 97))

-- "a fault in the parts of a complex record met, refuses the whole answer": a record that nothing names
unfoldable pub faulty_parts : UnitExample
faulty_parts = unit_example
    "ISO-10303-21;DATA;#9=(A'('B());#1=(GEOMETRIC_REPRESENTATION_CONTEXT(3)GLOBAL_UNIT_ASSIGNED_CONTEXT((#2)));#2=(LENGTH_UNIT()SI_UNIT($,.METRE.));"
    (bad (refusal 4 0 25))

-- "a simple record gives no factor there": an SI_UNIT alone
unfoldable pub simple_listed : UnitExample
simple_listed = unit_example
    "ISO-10303-21;DATA;#1=(GEOMETRIC_REPRESENTATION_CONTEXT(3)GLOBAL_UNIT_ASSIGNED_CONTEXT((#2)));#2=SI_UNIT(.MILLI.,.METRE.);"
    (good (units 4607182418800017408 4607182418800017408 4562254508917369340 false))

-- all examples of units
unfoldable pub unit_examples : List UnitExample
unfolding later_unit angle tolerance context_passed superseded circle faulty_parts simple_listed
unit_examples = later_unit ∷ angle ∷ tolerance ∷ context_passed ∷ superseded ∷ circle ∷ faulty_parts ∷ simple_listed ∷ []

-- each example of units is answered as it is owed
pub unit_examples_hold : map unit_answer_of unit_examples ≡ map (λ (x : UnitExample). x.owed) unit_examples
unfolding resolving unit_examples later_unit angle tolerance context_passed superseded circle faulty_parts simple_listed
unit_examples_hold = refl
