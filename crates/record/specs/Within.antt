-- The places of a head lie in the record's text. Assumes nothing.
use Rattle.std.specs.Prelude.{ℕ, ◌≤◌, Bool, true, false, List, [], ◌∷◌, eqb, ltb, length, Result, Ok, Err}
use Rattle.common.specs.Pick.{pick}
use Rattle.lex.specs.Place.{place_within}
use Rattle.record.specs.Text.{past_gap, NumberAndRest, number_from, Keyed, opened, unopened, keyword}
use Rattle.record.specs.Head.{keyed_head, value_head, equal_head, id_head, hash_head, data_head, named_head, header_head}
use Rattle.record.specs.declared.Head.{Head}
use Rattle.record.specs.declared.Head.TheVariants.{Complex, Simple}
use Rattle.record.specs.declared.Named.{Named}
use Rattle.error.specs.declared.Reason.{Reason}

-- each place of the head is at most n
abbrev pub HeadWithin : ℕ → Result Head Reason → Type 0
HeadWithin n (Err why) = Unit {0}
HeadWithin n (Ok (Complex id o)) = o ≤ n
HeadWithin n (Ok (Simple id a z o)) = (a ≤ n) × (z ≤ n) × (o ≤ n)

-- each place of a header record's head is at most n
abbrev pub NamedWithin : ℕ → Result Named Reason → Type 0
NamedWithin n (Err why) = Unit {0}
NamedWithin n (Ok h) = (h.start ≤ n) × (h.end ≤ n) × (h.opening ≤ n)

-- where each of two heads has its places within n, so has the one that is picked
either : (n : ℕ) (t : Bool) (g h : Result Head Reason) → HeadWithin n g → HeadWithin n h → HeadWithin n (pick t g h)
either n true g h p q = p
either n false g h p q = q

keyed_within : (b : List ℕ) (id : ℕ) (v : List ℕ) (k : Keyed) → HeadWithin (length b) (keyed_head b id v k)
keyed_within b id v unopened = tt
keyed_within b id v (opened e o) = (place_within b v, place_within b e, place_within b o)

value_within : (b : List ℕ) (id : ℕ) (r : List ℕ) → HeadWithin (length b) (value_head b id r)
value_within b id [] = tt
value_within b id (c ∷ r) = either (length b) (eqb c 40) _ _ (place_within b (c ∷ r)) (keyed_within b id (c ∷ r) (keyword (c ∷ r)))

equal_within : (b : List ℕ) (id : ℕ) (r : List ℕ) → HeadWithin (length b) (equal_head b id r)
equal_within b id [] = tt
equal_within b id (c ∷ r) = either (length b) (eqb c 61) _ _ (value_within b id (past_gap r)) tt

id_within : (b r : List ℕ) (d : NumberAndRest) → HeadWithin (length b) (id_head b r d)
id_within b r d =
    either (length b) (ltb 4294967295 d.value) _ _ tt
    (either (length b) (eqb (length d.rest) (length r)) _ _ tt (equal_within b d.value (past_gap d.rest)))

hash_within : (b r : List ℕ) → HeadWithin (length b) (hash_head b r)
hash_within b [] = tt
hash_within b (c ∷ r) = either (length b) (eqb c 35) _ _ (id_within b r (number_from 0 r)) tt

-- the places of a data record's head lie in its text
pub data_within : (b : List ℕ) → HeadWithin (length b) (data_head b)
unfolding data_head
data_within b = hash_within b b

named_within : (b v : List ℕ) (k : Keyed) → NamedWithin (length b) (named_head b v k)
named_within b v unopened = tt
named_within b v (opened e o) = (place_within b v, place_within b e, place_within b o)

-- the places of a header record's head lie in its text
pub header_within : (b : List ℕ) → NamedWithin (length b) (header_head b)
unfolding header_head
header_within b = named_within b (past_gap b) (keyword (past_gap b))
