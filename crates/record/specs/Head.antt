-- Document 01, 'Reading the file' and the reasons of refusal 7: what stands before a record's arguments, as a function of the
-- record's text alone. Places count from the record's start.
-- Assumes nothing.
use Rattle.std.specs.Prelude.{ℕ, List, [], ◌∷◌, eqb, ltb, length, Result, Ok, Err}
use Rattle.common.specs.Pick.{pick}
use Rattle.lex.specs.Byte.{place}
use Rattle.record.specs.Text.{past_gap, NumberAndRest, number_from, Keyed, opened, unopened, keyword}
use Rattle.record.specs.declared.Head.{Head}
use Rattle.record.specs.declared.Head.TheVariants.{Complex, Simple}
use Rattle.record.specs.declared.Named.{Named}
use Rattle.error.specs.declared.Reason.{Reason}
use Rattle.error.specs.declared.Reason.TheVariants.{NoHeaderParen, NoHash, LargeId, NoDigits, NoEqual, NoValue, NoParen}

-- a data record's head by its keyword: "else a keyword and the first byte `(` up to the record's end"; reason 7 "no `(`"
abbrev pub keyed_head : List ℕ → ℕ → List ℕ → Keyed → Result Head Reason
keyed_head b id v unopened = Err NoParen
keyed_head b id v (opened e o) = Ok (Simple id (place b v) (place b e) (place b o))

-- a data record's head by its value: "then `(` for a complex record, else a keyword"; reason 6 "nothing after `=`"
abbrev pub value_head : List ℕ → ℕ → List ℕ → Result Head Reason
value_head b id [] = Err NoValue
value_head b id (c ∷ r) = pick (eqb c 40) (Ok (Complex id (place b (c ∷ r)))) (keyed_head b id (c ∷ r) (keyword (c ∷ r)))

-- a data record's head by what follows its id: "`=`, whitespace"; reason 5 "no `=`"
abbrev pub equal_head : List ℕ → ℕ → List ℕ → Result Head Reason
equal_head b id [] = Err NoEqual
equal_head b id (c ∷ r) = pick (eqb c 61) (value_head b id (past_gap r)) (Err NoEqual)

-- a data record's head by the digits that r begins with: "digits, whitespace"; reason 3 "id above 4294967295", then reason 4 "no digits"
abbrev pub id_head : List ℕ → List ℕ → NumberAndRest → Result Head Reason
id_head b r d =
    pick (ltb 4294967295 d.value) (Err LargeId) (pick (eqb (length d.rest) (length r)) (Err NoDigits) (equal_head b d.value (past_gap d.rest)))

-- a data record's head by its first byte: "`#`"; reason 2 "no `#`"
abbrev pub hash_head : List ℕ → List ℕ → Result Head Reason
hash_head b [] = Err NoHash
hash_head b (c ∷ r) = pick (eqb c 35) (id_head b r (number_from 0 r)) (Err NoHash)

-- "Data: `#`, digits, whitespace, `=`, whitespace, then `(` for a complex record, else a keyword and the first byte `(`"
unfoldable pub data_head : List ℕ → Result Head Reason
data_head b = hash_head b b

-- a header record's head: its keyword and `(`; reason 1 "header record without `(`"
abbrev pub named_head : List ℕ → List ℕ → Keyed → Result Named Reason
named_head b v unopened = Err NoHeaderParen
named_head b v (opened e o) = Ok (record { start = place b v; end = place b e; opening = place b o })

-- the head of a header record by its text: a keyword and the first byte `(`
unfoldable pub header_head : List ℕ → Result Named Reason
header_head b = named_head b (past_gap b) (keyword (past_gap b))
