-- None of demand 3's premises can be left out: for each, the demand without it, and a file that refutes that. Assumes nothing.
use Rattle.std.specs.Prelude.{ℕ, ◌≡◌, refl, true, List, [], ◌∷◌, Option, None, Some}
use Rattle.std.proofs.Common.{sym, ◌∙◌, ap}
use Rattle.std.proofs.lemmas.Bool.{eqb-false}
use Rattle.common.specs.Compare.{clash}
use Rattle.error.specs.Refusal.{refusal, good, bad}
use Rattle.common.specs.Bytes.{bytes}
use Rattle.record.specs.Head.{data_head}
use Rattle.statement.specs.Rows.{row}
use Rattle.statement.specs.Closed.{Closed, Content}
use Rattle.statement.specs.declared.Section.TheVariants.{Outside}
use Rattle.units.specs.Answer.{Units, units}
use Rattle.scan.specs.Records.{Table, table}
use Rattle.scan.specs.File.{scan_of}
use Rattle.serve.specs.Serve.{units_of}
use Rattle.order.specs.Order.{CutFile, no_more_records, next_record, texts, file_with, Cuts, Permuted, head_has_id, of_id, contexts_in, Rearranged, served, SameUnits, SameAnswers}
use Rattle.order.specs.Exchange.{those_swap, rearranged_swap}
use Rattle.order.specs.Check.{closed_from_lem, cut_from_lem, HasId, ids_apart}
use Rattle.order.specs.Computed.{reading_unfolded, checking, resolving}

-- a file has one table with the same rooms
table_one : (f : List ℕ) (H R : ℕ) (t u : Table) → scan_of f H R ≡ good t → scan_of f H R ≡ good u → t ≡ u
table_one f H R t u e g = cc

-- ---- "keeping the order of records with equal ids"
-- demand 3 without the order of records with equal ids being kept
abbrev pub WithoutIds : Type 0
WithoutIds = (s : List ℕ) (H R : ℕ) (t : Table) → scan_of s H R ≡ good t → Closed s
    → (c : CutFile) → Cuts s Outside s c → (us : List (List ℕ)) → Permuted (texts c) us → contexts_in (texts c) ≡ contexts_in us
    → SameAnswers s t (file_with c us) H R

-- a file of two records with one id
abbrev pub twins : List ℕ
twins = bytes "ISO-10303-21;DATA;#1=A();#1=B();"

-- the file of two records with one id, these in the other order
abbrev pub swapped_twins : List ℕ
swapped_twins = bytes "ISO-10303-21;DATA;#1=B();#1=A();"

-- the table of the file of two records with one id, in either order
abbrev pub twin_rows : Table
twin_rows = table [] (row 1 21 22 23 23 0 ∷ row 1 28 29 30 30 0 ∷ [])

-- the cut of the file of two records with one id
abbrev pub twin_cut : CutFile
twin_cut = next_record (bytes "ISO-10303-21;DATA;") (bytes "#1=A()") (next_record (bytes ";") (bytes "#1=B()") (no_more_records (bytes ";")))

-- the file of two records with one id is accepted, in either order
pub twins_accepted : (scan_of twins 0 2 ≡ good twin_rows) × (scan_of swapped_twins 0 2 ≡ good twin_rows)
unfolding reading_unfolded
twins_accepted = (refl, refl)

-- the file of two records with one id is closed
pub twins_closed : Closed twins
unfolding checking
twins_closed = closed_from_lem 5 twins Outside twins refl

-- the cut of the file of two records with one id is its own, and with the two texts exchanged it is the file in the other order
pub twins_cut : Cuts twins Outside twins twin_cut × (file_with twin_cut (bytes "#1=B()" ∷ bytes "#1=A()" ∷ []) ≡ swapped_twins)
unfolding checking
twins_cut = (cut_from_lem 5 twins Outside twins twin_cut refl, refl)

-- of two records with one id `B` is served in the one order, `A` in the other
pub twins_served : (served twins twin_rows 1 ≡ Some (record { id = 1; keyword = bytes "B"; args = []; complex = 0 }))
    × (served swapped_twins twin_rows 1 ≡ Some (record { id = 1; keyword = bytes "A"; args = []; complex = 0 }))
unfolding resolving
twins_served = (refl, refl)

-- neither of the two records with one id is a unit context
pub twins_contexts : contexts_in (bytes "#1=A()" ∷ bytes "#1=B()" ∷ []) ≡ contexts_in (bytes "#1=B()" ∷ bytes "#1=A()" ∷ [])
unfolding resolving
twins_contexts = refl

-- the keyword of a record that is served, empty for none
abbrev key_of : Option Content → List ℕ
key_of None = []
key_of (Some k) = k.keyword

-- without the order of records with equal ids being kept, demand 3 is false
pub ids_needed : WithoutIds → ⊥
ids_needed w =
    let r = w twins 0 2 twin_rows twins_accepted.0 twins_closed twin_cut twins_cut.0 (bytes "#1=B()" ∷ bytes "#1=A()" ∷ []) Permuted.swap twins_contexts in
    let q : r.after ≡ twin_rows = table_one swapped_twins 0 2 r.after twin_rows r.accepted twins_accepted.1 in
    let k : served twins twin_rows 1 ≡ served swapped_twins twin_rows 1 = rw q at (r.found 1) in
    let e : bytes "B" ≡ bytes "A" = ap key_of (sym twins_served.0 ∙ k ∙ twins_served.1) in
    eqb-false 66 65 refl (cc)

-- ---- "keeping [..] the order of the unit contexts"
-- demand 3 without the order of the unit contexts being kept
abbrev pub WithoutContexts : Type 0
WithoutContexts = (s : List ℕ) (H R : ℕ) (t : Table) → scan_of s H R ≡ good t → Closed s
    → (c : CutFile) → Cuts s Outside s c → (us : List (List ℕ)) → Permuted (texts c) us → ((k : ℕ) → of_id k (texts c) ≡ of_id k us)
    → SameAnswers s t (file_with c us) H R

-- a unit context that lists itself, a length unit: the millimetre
abbrev pub in_millimetres : List ℕ
in_millimetres = bytes "#1=(GEOMETRIC_REPRESENTATION_CONTEXT(3)GLOBAL_UNIT_ASSIGNED_CONTEXT((#1))LENGTH_UNIT()SI_UNIT(.MILLI.,.METRE.))"

-- a second unit context that lists itself, a length unit: the metre
abbrev pub in_metres : List ℕ
in_metres = bytes "#2=(GEOMETRIC_REPRESENTATION_CONTEXT(3)GLOBAL_UNIT_ASSIGNED_CONTEXT((#2))LENGTH_UNIT()SI_UNIT($,.METRE.))"

-- a file with two unit contexts: the millimetre's, then the metre's
abbrev pub two_contexts : List ℕ
two_contexts = bytes "ISO-10303-21;DATA;#1=(GEOMETRIC_REPRESENTATION_CONTEXT(3)GLOBAL_UNIT_ASSIGNED_CONTEXT((#1))LENGTH_UNIT()SI_UNIT(.MILLI.,.METRE.));#2=(GEOMETRIC_REPRESENTATION_CONTEXT(3)GLOBAL_UNIT_ASSIGNED_CONTEXT((#2))LENGTH_UNIT()SI_UNIT($,.METRE.));"

-- the file with two unit contexts in the other order: the metre's, then the millimetre's
abbrev pub swapped_contexts : List ℕ
swapped_contexts = bytes "ISO-10303-21;DATA;#2=(GEOMETRIC_REPRESENTATION_CONTEXT(3)GLOBAL_UNIT_ASSIGNED_CONTEXT((#2))LENGTH_UNIT()SI_UNIT($,.METRE.));#1=(GEOMETRIC_REPRESENTATION_CONTEXT(3)GLOBAL_UNIT_ASSIGNED_CONTEXT((#1))LENGTH_UNIT()SI_UNIT(.MILLI.,.METRE.));"

-- the table of the file with two unit contexts
abbrev pub context_rows : Table
context_rows = table [] (row 1 0 0 22 128 1 ∷ row 2 0 0 134 234 1 ∷ [])

-- the table of the file with two unit contexts in the other order
abbrev pub swapped_context_rows : Table
swapped_context_rows = table [] (row 2 0 0 22 122 1 ∷ row 1 0 0 128 234 1 ∷ [])

-- the cut of the file with two unit contexts
abbrev pub context_cut : CutFile
context_cut = next_record (bytes "ISO-10303-21;DATA;") in_millimetres (next_record (bytes ";") in_metres (no_more_records (bytes ";")))

-- the file with two unit contexts is accepted, in either order
pub contexts_accepted : (scan_of two_contexts 0 2 ≡ good context_rows) × (scan_of swapped_contexts 0 2 ≡ good swapped_context_rows)
unfolding reading_unfolded
contexts_accepted = (refl, refl)

-- the file with two unit contexts is closed
pub contexts_closed : Closed two_contexts
unfolding checking
contexts_closed = closed_from_lem 5 two_contexts Outside two_contexts refl

-- the cut of the file with two unit contexts is its own, and with the two texts exchanged it is the file in the other order
pub contexts_cut : Cuts two_contexts Outside two_contexts context_cut × (file_with context_cut (in_metres ∷ in_millimetres ∷ []) ≡ swapped_contexts)
unfolding checking
contexts_cut = (cut_from_lem 5 two_contexts Outside two_contexts context_cut refl, refl)

-- the ids of the two unit contexts
pub contexts_ids : HasId in_millimetres 1 × HasId in_metres 2
unfolding reading_unfolded
contexts_ids = (λ k. refl, λ k. refl)

-- the unit answers of the file with two unit contexts, in either order: 1.0 mm and 1000.0 mm
pub contexts_units : (units_of two_contexts context_rows ≡ good (units 4607182418800017408 4607182418800017408 4562254508917369340 true))
    × (units_of swapped_contexts swapped_context_rows ≡ good (units 4652007308841189376 4607182418800017408 4562254508917369340 true))
unfolding resolving
contexts_units = (refl, refl)

-- without the order of the unit contexts being kept, demand 3 is false
pub contexts_needed : WithoutContexts → ⊥
contexts_needed w =
    let ids : (k : ℕ) → of_id k (in_millimetres ∷ in_metres ∷ []) ≡ of_id k (in_metres ∷ in_millimetres ∷ []) =
    λ k. those_swap (λ b. head_has_id k (data_head b)) in_millimetres in_metres [] (ids_apart in_millimetres in_metres 1 2 contexts_ids.0 contexts_ids.1 refl k) in
    let r = w two_contexts 0 2 context_rows contexts_accepted.0 contexts_closed context_cut contexts_cut.0 (in_metres ∷ in_millimetres ∷ []) Permuted.swap ids in
    let q : r.after ≡ swapped_context_rows = table_one swapped_contexts 0 2 r.after swapped_context_rows r.accepted contexts_accepted.1 in
    let k : SameUnits (units_of two_contexts context_rows) (units_of swapped_contexts swapped_context_rows) = rw q at r.units in
    let e : units 4607182418800017408 4607182418800017408 4562254508917369340 true ≡ units 4652007308841189376 4607182418800017408 4562254508917369340 true =
    rw (contexts_units.0, contexts_units.1) at k in
    eqb-false 4607182418800017408 4652007308841189376 refl (ap (λ (u : Units). u.length) e)

-- ---- "an accepted file that is closed"
-- demand 3 of files that are not closed too
abbrev pub WithoutClosed : Type 0
WithoutClosed = (s : List ℕ) (H R : ℕ) (t : Table) → scan_of s H R ≡ good t
    → (c : CutFile) → Cuts s Outside s c → (us : List (List ℕ)) → Rearranged (texts c) us → SameAnswers s t (file_with c us) H R

-- example 11 of document 01: the first record's `(` closes in the second
abbrev pub crossing : List ℕ
crossing = bytes "ISO-10303-21;DATA;#1=A((1);#2=B(2));"

-- example 11 of document 01 with its two records in the other order
abbrev pub swapped_crossing : List ℕ
swapped_crossing = bytes "ISO-10303-21;DATA;#2=B(2));#1=A((1);"

-- the table of example 11's file
abbrev pub crossing_rows : Table
crossing_rows = table [] (row 1 21 22 23 34 0 ∷ row 2 30 31 32 33 0 ∷ [])

-- the cut of example 11's file
abbrev pub crossing_cut : CutFile
crossing_cut = next_record (bytes "ISO-10303-21;DATA;") (bytes "#1=A((1)") (next_record (bytes ";") (bytes "#2=B(2))") (no_more_records (bytes ";")))

-- example 11's file is accepted, and with its records in the other order it is refused: no `)` closes the last `(`
pub crossing_refused : (scan_of crossing 0 2 ≡ good crossing_rows) × (scan_of swapped_crossing 0 2 ≡ bad (refusal 6 0 31))
unfolding reading_unfolded
crossing_refused = (refl, refl)

-- the cut of example 11's file is its own, and with the two texts exchanged it is the file in the other order
pub crossing_cut_lem : Cuts crossing Outside crossing crossing_cut × (file_with crossing_cut (bytes "#2=B(2))" ∷ bytes "#1=A((1)" ∷ []) ≡ swapped_crossing)
unfolding checking
crossing_cut_lem = (cut_from_lem 5 crossing Outside crossing crossing_cut refl, refl)

-- the two records of example 11 may be rearranged: they have different ids, and neither is a unit context
pub crossing_rearranged : Rearranged (bytes "#1=A((1)" ∷ bytes "#2=B(2))" ∷ []) (bytes "#2=B(2))" ∷ bytes "#1=A((1)" ∷ [])
unfolding resolving
crossing_rearranged =
    rearranged_swap [] (bytes "#1=A((1)") (bytes "#2=B(2))") [] (ids_apart (bytes "#1=A((1)") (bytes "#2=B(2))") 1 2 (λ k. refl) (λ k. refl) refl) refl

-- of files that are not closed, demand 3 is false
pub closed_needed : WithoutClosed → ⊥
closed_needed w =
    let r = w crossing 0 2 crossing_rows crossing_refused.0 crossing_cut crossing_cut_lem.0 (bytes "#2=B(2))" ∷ bytes "#1=A((1)" ∷ []) crossing_rearranged in
    clash (cc (r.accepted, crossing_refused.1))
