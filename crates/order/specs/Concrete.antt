-- Demand 3's premises can be met: here is a file that meets them all, by computation. It has a header, blanks, comments between records,
-- two data sections, two unit contexts of which the first gives its lengths in inches by a conversion, complex records and two records
-- of one id; and six of its seven records change places, four of them for places in the other data section. Assumes nothing.
use Rattle.std.specs.Prelude.{ℕ, ◌≡◌, refl, Bool, true, false, ◌&&◌, List, [], ◌∷◌, ◌++◌, eqb, Some}
use Rattle.std.proofs.Common.{subst}
use Rattle.error.specs.Refusal.{good}
use Rattle.common.specs.Bytes.{bytes}
use Rattle.statement.specs.Rows.{row, header_row}
use Rattle.statement.specs.Closed.{Closed}
use Rattle.statement.specs.declared.Section.TheVariants.{Outside}
use Rattle.scan.specs.Records.{Table, table}
use Rattle.scan.specs.File.{scan_of}
use Rattle.units.specs.Answer.{units}
use Rattle.serve.specs.Serve.{units_of}
use Rattle.order.specs.Order.{CutFile, no_more_records, next_record, texts, file_with, Cuts, context_text, contexts_in, Rearranged, served, SameAnswers}
use Rattle.order.specs.Right.{order}
use Rattle.order.specs.Exchange.{rearranged_then, rearranged_swap, rearranged_lone}
use Rattle.order.specs.Check.{closed_from_lem, cut_from_lem, HasId, ids_apart, lone_text}
use Rattle.order.specs.Computed.{reading_unfolded, checking, resolving}

-- ---- the records
-- a unit context, a complex record: its lengths are in inches
unfoldable pub inches : List ℕ
inches = bytes "#1=(GEOMETRIC_REPRESENTATION_CONTEXT(3)GLOBAL_UNIT_ASSIGNED_CONTEXT((#3)))"

-- a second unit context, a complex record: its lengths are in millimetres
unfoldable pub millimetres : List ℕ
millimetres = bytes "#2=(GEOMETRIC_REPRESENTATION_CONTEXT(3)GLOBAL_UNIT_ASSIGNED_CONTEXT((#5)))"

-- the inch, a conversion unit
unfoldable pub inch : List ℕ
inch = bytes "#3=(CONVERSION_BASED_UNIT('INCH',#4)LENGTH_UNIT()NAMED_UNIT(*))"

-- what the inch converts by: 25.4 of the millimetre
unfoldable pub measure : List ℕ
measure = bytes "#4=LENGTH_MEASURE_WITH_UNIT(LENGTH_MEASURE(25.4),#5)"

-- the millimetre, an SI unit
unfoldable pub millimetre : List ℕ
millimetre = bytes "#5=(LENGTH_UNIT()NAMED_UNIT(*)SI_UNIT(.MILLI.,.METRE.))"

-- the earlier of two records with one id
unfoldable pub earlier : List ℕ
earlier = bytes "#6=A('x')"

-- the later of two records with one id
unfoldable pub later_of_two : List ℕ
later_of_two = bytes "#6=B(';','/*')"

-- all texts of the file's records, unfolded together
unfoldable pub all_unfolded : Unit {0}
unfolding inches millimetres inch measure millimetre earlier later_of_two
all_unfolded = tt

-- ---- the file and its rearrangement
-- the file that meets demand 3's premises
abbrev pub example_file : List ℕ
example_file = bytes "ISO-10303-21;\nHEADER;FILE_NAME('a;b');ENDSEC;\nDATA;\n#1=(GEOMETRIC_REPRESENTATION_CONTEXT(3)GLOBAL_UNIT_ASSIGNED_CONTEXT((#3)));\n/* #9=C(; */ #2=(GEOMETRIC_REPRESENTATION_CONTEXT(3)GLOBAL_UNIT_ASSIGNED_CONTEXT((#5)));\n  #3=(CONVERSION_BASED_UNIT('INCH',#4)LENGTH_UNIT()NAMED_UNIT(*));#4=LENGTH_MEASURE_WITH_UNIT(LENGTH_MEASURE(25.4),#5);ENDSEC;\nDATA;\n#5=(LENGTH_UNIT()NAMED_UNIT(*)SI_UNIT(.MILLI.,.METRE.));/* stays */#6=A('x');\n#6=B(';','/*');\nENDSEC;END-ISO-10303-21;\n"

-- the new file: the same records with six of them in other places
abbrev pub example_new_file : List ℕ
example_new_file = bytes "ISO-10303-21;\nHEADER;FILE_NAME('a;b');ENDSEC;\nDATA;\n#5=(LENGTH_UNIT()NAMED_UNIT(*)SI_UNIT(.MILLI.,.METRE.));\n/* #9=C(; */ #1=(GEOMETRIC_REPRESENTATION_CONTEXT(3)GLOBAL_UNIT_ASSIGNED_CONTEXT((#3)));\n  #6=A('x');#4=LENGTH_MEASURE_WITH_UNIT(LENGTH_MEASURE(25.4),#5);ENDSEC;\nDATA;\n#2=(GEOMETRIC_REPRESENTATION_CONTEXT(3)GLOBAL_UNIT_ASSIGNED_CONTEXT((#5)));/* stays */#6=B(';','/*');\n#3=(CONVERSION_BASED_UNIT('INCH',#4)LENGTH_UNIT()NAMED_UNIT(*));\nENDSEC;END-ISO-10303-21;\n"

-- the table of the file
abbrev pub file_rows : Table
file_rows = table (header_row 21 30 31 36 ∷ []) (row 1 0 0 56 125 1 ∷ row 2 0 0 145 214 1 ∷ row 3 0 0 223 281 1 ∷ row 4 286 310 311 334 0 ∷ row 5 0 0 354 404 1 ∷ row 6 420 421 422 425 0 ∷ row 6 431 432 433 441 0 ∷ [])

-- the table of the new file
abbrev pub new_rows : Table
new_rows = table (header_row 21 30 31 36 ∷ []) (row 5 0 0 56 106 1 ∷ row 1 0 0 126 195 1 ∷ row 6 203 204 205 208 0 ∷ row 4 213 237 238 261 0 ∷ row 2 0 0 281 350 1 ∷ row 6 366 367 368 376 0 ∷ row 3 0 0 383 441 1 ∷ [])

-- the file's cut
abbrev pub file_cut : CutFile
file_cut =
    next_record (bytes "ISO-10303-21;\nHEADER;FILE_NAME('a;b');ENDSEC;\nDATA;\n") inches
    (next_record (bytes ";\n/* #9=C(; */ ") millimetres
    (next_record (bytes ";\n  ") inch
    (next_record (bytes ";") measure
    (next_record (bytes ";ENDSEC;\nDATA;\n") millimetre
    (next_record (bytes ";/* stays */") earlier
    (next_record (bytes ";\n") later_of_two
    (no_more_records (bytes ";\nENDSEC;END-ISO-10303-21;\n"))))))))

-- the texts of the file's records, rearranged
abbrev pub example_moved : List (List ℕ)
example_moved = millimetre ∷ inches ∷ earlier ∷ measure ∷ millimetres ∷ later_of_two ∷ inch ∷ []

-- ---- the premises
-- "an accepted file": with room for its one header row and seven data rows
pub file_accepted : scan_of example_file 1 7 ≡ good file_rows
unfolding reading_unfolded
file_accepted = refl

-- "that is closed": the file is
pub file_closed : Closed example_file
unfolding checking
file_closed = closed_from_lem 20 example_file Outside example_file refl

-- "its whole data records": the file's cut is its own
pub file_cut_lem : Cuts example_file Outside example_file file_cut
unfolding checking all_unfolded
file_cut_lem = cut_from_lem 20 example_file Outside example_file file_cut refl

-- the file with its texts rearranged is the new file
pub file_filled : file_with file_cut example_moved ≡ example_new_file
unfolding all_unfolded
file_filled = refl

-- the ids of the file's records
pub example_ids_are : HasId inches 1 × HasId millimetres 2 × HasId inch 3 × HasId measure 4 × HasId millimetre 5 × HasId earlier 6 × HasId later_of_two 6
unfolding reading_unfolded all_unfolded
example_ids_are = (λ k. refl, λ k. refl, λ k. refl, λ k. refl, λ k. refl, λ k. refl, λ k. refl)

-- the file's first two records are its unit contexts, and no other is
pub contexts_are : contexts_in (texts file_cut) ≡ inches ∷ millimetres ∷ []
unfolding resolving all_unfolded
contexts_are = refl

-- the file's other five records are no unit contexts
plain : (context_text inch ≡ false) × (context_text measure ≡ false) × (context_text millimetre ≡ false) × (context_text earlier ≡ false) × (context_text later_of_two ≡ false)
unfolding resolving all_unfolded
plain = (refl, refl, refl, refl, refl)

-- the inch and the millimetre change places: no other record has their ids
two : Rearranged (texts file_cut) (inches ∷ millimetres ∷ millimetre ∷ measure ∷ inch ∷ earlier ∷ later_of_two ∷ [])
unfolding resolving all_unfolded
two =
    rearranged_lone (inches ∷ millimetres ∷ []) inch (measure ∷ []) millimetre (earlier ∷ later_of_two ∷ [])
    (lone_text 3 example_ids_are.2 refl plain.0) (lone_text 5 example_ids_are.4 refl plain.2)

-- a record that is no unit context goes before its neighbour of another id
ahead : (xs : List (List ℕ)) (a b : List ℕ) (zs : List (List ℕ)) (i j : ℕ) → HasId a i → HasId b j → eqb i j ≡ false → context_text b ≡ false
    → Rearranged (xs ++ (a ∷ b ∷ zs)) (xs ++ (b ∷ a ∷ zs))
ahead xs a b zs i j h g e p = rearranged_swap xs a b zs (ids_apart a b i j h g e) (rw p (neither (context_text a)))
  where
    neither : (x : Bool) → (x && false) ≡ false
    neither true = refl
    neither false = refl

-- "Rearrange its whole data records among their places, keeping the order of records with equal ids and the order of the unit contexts"
pub file_rearranged : Rearranged (texts file_cut) example_moved
file_rearranged =
    rearranged_then two
    (rearranged_then (ahead (inches ∷ []) millimetres millimetre (measure ∷ inch ∷ earlier ∷ later_of_two ∷ []) 2 5 example_ids_are.1 example_ids_are.4 refl plain.2)
    (rearranged_then (ahead [] inches millimetre (millimetres ∷ measure ∷ inch ∷ earlier ∷ later_of_two ∷ []) 1 5 example_ids_are.0 example_ids_are.4 refl plain.2)
    (rearranged_then (ahead (millimetre ∷ inches ∷ millimetres ∷ measure ∷ []) inch earlier (later_of_two ∷ []) 3 6 example_ids_are.2 example_ids_are.5 refl plain.3)
    (rearranged_then (ahead (millimetre ∷ inches ∷ millimetres ∷ []) measure earlier (inch ∷ later_of_two ∷ []) 4 6 example_ids_are.3 example_ids_are.5 refl plain.3)
    (rearranged_then (ahead (millimetre ∷ inches ∷ []) millimetres earlier (measure ∷ inch ∷ later_of_two ∷ []) 2 6 example_ids_are.1 example_ids_are.5 refl plain.3)
    (rearranged_then (ahead (millimetre ∷ inches ∷ earlier ∷ []) millimetres measure (inch ∷ later_of_two ∷ []) 2 4 example_ids_are.1 example_ids_are.3 refl plain.1)
    (ahead (millimetre ∷ inches ∷ earlier ∷ measure ∷ millimetres ∷ []) inch later_of_two [] 3 6 example_ids_are.2 example_ids_are.6 refl plain.4)))))))

-- ---- what it says
-- of the file's two records with the id 6 the later is served
pub file_served : served example_file file_rows 6 ≡ Some (record { id = 6; keyword = bytes "B"; args = bytes "';','/*'"; complex = 0 })
unfolding resolving
file_served = refl

-- the file's unit answer, by the first context and its conversion: lengths by 25.4, angles by 1.0, and the tolerance is 1e-3
pub file_units_lem : units_of example_file file_rows ≡ good (units 4627842682090579558 4607182418800017408 4562254508917369340 true)
unfolding resolving
file_units_lem = refl

-- demand 3 holds of this file and the new one
pub concrete : SameAnswers example_file file_rows example_new_file 1 7
concrete = subst (λ (f : List ℕ). SameAnswers example_file file_rows f 1 7) file_filled (order example_file 1 7 file_rows file_accepted file_closed file_cut file_cut_lem example_moved file_rearranged)

-- the new file is accepted with the table that is computed, as demand 3 says
pub new_accepted : scan_of example_new_file 1 7 ≡ good new_rows
unfolding reading_unfolded
new_accepted = refl

-- the new file's unit answer is that of the file
pub new_units : units_of example_new_file new_rows ≡ good (units 4627842682090579558 4607182418800017408 4562254508917369340 true)
unfolding resolving
new_units = refl
