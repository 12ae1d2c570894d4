-- Parts of a record's text: what stands before a rest, what is left past bytes of a kind, digits and their number, a keyword.
-- Assumes nothing.
use Rattle.std.specs.Prelude.{ℕ, ◌+◌, ◌*◌, ◌-◌, ◌≤◌, ◌<◌, max, ◌≡◌, Bool, List, [], ◌∷◌, eqb, length, take, drop, Option, Some, None}
use Rattle.common.specs.Pick.{pick}
use Rattle.lex.specs.Byte.{white}
use Rattle.common.specs.Walk.{Turn, stop, on, walk}
use Rattle.record.specs.Byte.{digit}

-- the bytes of xs before its rest r
abbrev pub before : List ℕ → List ℕ → List ℕ
before xs r = take (length xs - length r) xs

-- a turn of `past`: a byte of the kind p is passed over, at any other the walk stops
abbrev pub past_turn : (ℕ → Bool) → Unit {0} → ℕ → List ℕ → Turn (Unit {0}) (List ℕ)
past_turn p u c r = pick (p c) (on u) (stop (c ∷ r))

-- the rest from the first byte that is not of the kind p
unfoldable pub past : (ℕ → Bool) → List ℕ → List ℕ
past p xs = walk (past_turn p) (λ u. []) tt xs

-- what is left past a gap, which is what may stand between tokens
abbrev pub past_gap : List ℕ → List ℕ
past_gap xs = past white xs

-- a number and the rest after its digits
pub record NumberAndRest : Type 0 where
  pub value : ℕ
  pub rest : List ℕ

-- a number and the rest after its digits, from these two
abbrev pub number_and_rest : ℕ → List ℕ → NumberAndRest
number_and_rest n r = record { value = n; rest = r }

-- a turn of `number_from`: a digit makes the number ten times as large and adds its own value
abbrev pub digit_turn : ℕ → ℕ → List ℕ → Turn ℕ NumberAndRest
digit_turn n c r = pick (digit c) (on (n * 10 + (c - 48))) (stop (number_and_rest n (c ∷ r)))

-- the decimal number that the digits at the start stand for, after those that gave n, and the rest after them
unfoldable pub number_from : ℕ → List ℕ → NumberAndRest
number_from n xs = walk digit_turn (λ m. number_and_rest m []) n xs

-- a keyword's end, as the rest from there, and the rest from the `(` after it; or no `(`
pub data Keyed : Type 0 where
  opened : List ℕ → List ℕ → Keyed
  unopened : Keyed

-- a turn of `keyword`, which stops at a `(`: e is the rest after the last byte that is not white
abbrev pub key_turn : List ℕ → ℕ → List ℕ → Turn (List ℕ) Keyed
key_turn e c r = pick (eqb c 40) (stop (opened e (c ∷ r))) (on (pick (white c) e r))

-- "a keyword and the first byte `(`": the keyword is what stands before the first `(`, the gap at its end dropped
unfoldable pub keyword : List ℕ → Keyed
keyword xs = walk key_turn (λ e. unopened) xs xs

-- a turn of `trail`: e is the rest after the last byte that is not white
abbrev pub trail_turn : List ℕ → ℕ → List ℕ → Turn (List ℕ) (List ℕ)
trail_turn e c r = on (pick (white c) e r)

-- the rest after the last byte that is not white: the gap at the end
unfoldable pub trail : List ℕ → List ℕ
trail xs = walk trail_turn (λ e. e) xs xs

-- what the code's answer says of the digits from a place on: "id above 4294967295", or the number and the place after them
abbrev pub Numbered : List ℕ → ℕ → Option (ℕ × ℕ) → Type 0
Numbered b from None = 4294967295 < (number_from 0 (drop from b)).value
Numbered b from (Some (n, p)) = (number_from 0 (drop from b) ≡ number_and_rest n (drop p b)) × (from ≤ p) × (p ≤ max from (length b)) × (n ≤ 4294967295)

-- what the code's answer says of the keyword from a place on: there is no `(`, or where the keyword ends and the `(` stands
abbrev pub KeyedAt : List ℕ → ℕ → Option (ℕ × ℕ) → Type 0
KeyedAt b from None = keyword (drop from b) ≡ unopened
KeyedAt b from (Some (e, o)) = (keyword (drop from b) ≡ opened (drop e b) (drop o b)) × (e ≤ length b) × (o ≤ length b)
