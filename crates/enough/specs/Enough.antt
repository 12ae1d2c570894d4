-- What a file is said to need suffices: no list, grid or text that a reader finds among the parameters of a record has more than is told, so a
-- room of just that size is never too short; and some parameter has just so much. Less can suffice: a text that stands in the file as it is
-- takes no room (of `#1=A('a');` 1 is told), and items count whatever they read as (of `#1=A(('a','b','c'));` 3 are told, which no reader reads).
-- Assumes nothing.
use Rattle.std.specs.Prelude.{ℕ, ◌-◌, ◌≤◌, ◌<◌, min, ◌≡◌, Bool, true, false, ◌&&◌, take, drop, Some, None}
use Rattle.std.proofs.Math.Path.{refl, ap, subst}
use Rattle.std.proofs.Common.{sym, ◌∙◌, le-leb, length-append, take_all}
use mathlib.Core.List.{List, [], ◌∷◌, map}
use native.Mathlib.Omega.{arith}
use Rattle.std.proofs.Math.Dec.{leb}
use Rattle.std.proofs.Math.ListN.{length}
use Rattle.std.proofs.lemmas.List.{length-map}
use Rattle.common.specs.Pick.{pick}
use Rattle.common.specs.Compare.{clash}
use Rattle.error.specs.Refusal.{Refusal, refusal, good, bad}
use Rattle.scalars.specs.Scalars.{is_unset}
use Rattle.params.specs.Reader.{param_of}
use Rattle.params.specs.Answer.{Span, span, onward}
use Rattle.params.specs.Places.{param_past}
use Rattle.reals.specs.Answer.{Answer}
use Rattle.strings.specs.Answer.{largest_u64, decoded_of}
use Rattle.strings.specs.Text.{plain, bytes_of}
use Rattle.strings.specs.declared.Decoded.TheVariants.{Plain, Written}
use Rattle.words.specs.Words.{is_string, string_body, decoded_at, string_at}
use Rattle.words.specs.Answer.{span_bytes}
use Rattle.words.specs.declared.Text.TheVariants.{InFile}
use Rattle.words.specs.Rules.{Quoted}
use Rattle.words.specs.RulesRight.{quoted_is, quoted_body}
use Rattle.lists.specs.Items.{list_of}
use Rattle.lists.specs.Answer.{Fate, fine, as_fate, values_of, roomed, next_by, fits_in}
use Rattle.lists.specs.Any.{list_counted, rows_counted}
use Rattle.grids.specs.Grid.{flat, grid_of, grid_fits}
use Rattle.argument_sizes.specs.Rules.{text_len, items_len, numbers_len, rows_len, grid_rows, Greatest}
use Rattle.needs.specs.declared.Needs.{Needs}
use Rattle.needs.specs.Behind.{Behind}
use Rattle.needs.specs.Most.{text_most, items_most, rows_most}
use Rattle.needs.specs.Needs.{Among}

-- ---- a parameter
-- the rows of a grid have as many numbers, whatever these are told as
flat_length : {A B : Type 0} (h : A → B) (vs : List (List A)) → length (flat (map (map h) vs)) ≡ length (flat vs)
flat_length h [] = refl
flat_length h (r ∷ rs) = omega (arith, length-append (map h r) (flat (map (map h) rs)), length-append r (flat rs), length-map r h, flat_length h rs)

-- a list that any reader reads has as many numbers as it has items
pub list_len : {A : Type 0} (f : List ℕ → Answer A) (t : List ℕ) (vs : List A) → list_of f t ≡ fine vs → length vs ≡ items_len t
unfolding items_len
list_len {A} f t vs e = sym (length-map vs (λ (a : A). tt {0})) ∙ ap (λ (x : Fate (List (Unit {0}))). length (values_of x)) (sym (list_counted (λ u. as_fate (f u)) t vs e))

-- a grid that any reader reads has as many numbers as its rows have items
pub grid_numbers : {A : Type 0} (f : List ℕ → Answer A) (t : List ℕ) (vs : List (List A)) → grid_of f t ≡ fine vs → length (flat vs) ≡ length (flat (grid_rows t))
grid_numbers {A} f t vs e = sym (flat_length (λ (a : A). tt {0}) vs) ∙ ap (λ (x : Fate (List (List (Unit {0})))). length (flat (values_of x))) (sym (rows_counted (λ u. as_fate (f u)) t vs e))

-- a grid that any reader reads has as many rows as are counted of it
pub grid_rows_lem : {A : Type 0} (f : List ℕ → Answer A) (t : List ℕ) (vs : List (List A)) → grid_of f t ≡ fine vs → length vs ≡ rows_len t
unfolding rows_len
grid_rows_lem {A} f t vs e = sym (length-map vs (map (λ (a : A). tt {0}))) ∙ ap (λ (x : Fate (List (List (Unit {0})))). length (values_of x)) (sym (rows_counted (λ u. as_fate (f u)) t vs e))

-- "its text lies between first and last byte": what is cut out of a string parameter is its inside
text_body : (t b : List ℕ) → Quoted t b → take (length t - 1 - 1) (drop 1 t) ≡ b
text_body t b d = quoted_body t (span 0 (length t)) b (omega arith) (omega arith) (subst (λ (u : List ℕ). Quoted u b) (sym (take_all (length t - 0) t (omega arith))) d)

-- ---- a file: c is what it is said to need, of the table that its scan gives (needs/specs/Needs.behind)
module _ (s : List ℕ) (c : Needs) (b : Behind s c) where
  -- a parameter of one of its records, or of one of a complex record's parts
  abbrev pub RecordParameter : List ℕ → Type 0
  RecordParameter t = Among s b.table t

  -- the longest text of a file's parameters is what is told; there is no other such number (argument_sizes/specs/Greatest.greatest-only)
  pub text_exact : Greatest RecordParameter text_len c.text
  text_exact = subst (λ (x : Needs). Greatest RecordParameter text_len x.text) b.counted (text_most s b.table)

  -- the most numbers of a list or a grid among a file's parameters are what is told
  pub items_exact : Greatest RecordParameter numbers_len c.items
  items_exact = subst (λ (x : Needs). Greatest RecordParameter numbers_len x.items) b.counted (items_most s b.table)

  -- the most rows of a grid among a file's parameters are what is told
  pub rows_exact : Greatest RecordParameter rows_len c.rows
  rows_exact = subst (λ (x : Needs). Greatest RecordParameter rows_len x.rows) b.counted (rows_most s b.table)

  module _ (t : List ℕ) (d : RecordParameter t) where
    -- a list among a file's parameters has no more numbers than are told
    pub list_enough : {A : Type 0} (f : List ℕ → Answer A) (vs : List A) → list_of f t ≡ fine vs → length vs ≤ c.items
    unfolding numbers_len
    list_enough f vs h = omega (arith, items_exact.all t d, list_len f t vs h)

    -- a grid among a file's parameters has no more numbers and no more rows than are told
    pub grid_enough : {A : Type 0} (f : List ℕ → Answer A) (vs : List (List A)) → grid_of f t ≡ fine vs → (length (flat vs) ≤ c.items) × (length vs ≤ c.rows)
    unfolding numbers_len
    grid_enough f vs h = (omega (arith, items_exact.all t d, grid_numbers f t vs h), omega (arith, rows_exact.all t d, grid_rows_lem f t vs h))

    -- a string among a file's parameters has no longer text than is told
    pub text_enough : is_string t ≡ true → min largest_u64 (length (bytes_of (take (length t - 1 - 1) (drop 1 t)))) ≤ c.text
    unfolding text_len
    text_enough h = subst (λ (k : Bool). pick k (min largest_u64 (length (bytes_of (take (length t - 1 - 1) (drop 1 t))))) 0 ≤ c.text) h (text_exact.all t d)

    -- a list that reads is answered, and never 16, with a room for as many numbers as are told or more
    pub list_answered : {A : Type 0} (f : List ℕ → Answer A) (vs : List A) → list_of f t ≡ fine vs → (p e : ℕ) (a : Span) → (param_of s p e).answer ≡ good a → span_bytes s a ≡ t
        → (room : ℕ) → c.items ≤ room → (next_by (list_of f) (fits_in room) s p e).answer ≡ good vs
    unfolding next_by
    list_answered {A} f vs h p e a g w room k =
        ap (onward (λ (x : Span). roomed (fits_in room) x.start (list_of f (span_bytes s x)))) g ∙ ap (λ (u : List ℕ). roomed (fits_in room) a.start (list_of f u)) w ∙ ap (roomed (fits_in room) a.start) h
        ∙ ap (λ (z : Bool). pick z (good vs) (bad (refusal 16 0 a.start))) (le-leb (length vs) room (omega (arith, list_enough f vs h)))

    -- a grid that reads is answered, and never 16, with rooms for as many numbers and row ends as are told or more
    pub grid_answered : {A : Type 0} (f : List ℕ → Answer A) (vs : List (List A)) → grid_of f t ≡ fine vs → (p e : ℕ) (a : Span) → (param_of s p e).answer ≡ good a → span_bytes s a ≡ t
        → (room ends : ℕ) → c.items ≤ room → c.rows ≤ ends → (next_by (grid_of f) (grid_fits room ends) s p e).answer ≡ good vs
    unfolding next_by
    grid_answered {A} f vs h p e a g w room ends k l =
        let n = grid_enough f vs h in
        let i : length (flat vs) ≤ room = omega (arith, n.0) in
        let j : length vs ≤ ends = omega (arith, n.1) in
        ap (onward (λ (x : Span). roomed (grid_fits room ends) x.start (grid_of f (span_bytes s x)))) g ∙ ap (λ (u : List ℕ). roomed (grid_fits room ends) a.start (grid_of f u)) w ∙ ap (roomed (grid_fits room ends) a.start) h
        ∙ ap (λ (z : Bool). pick (z && leb (length vs) ends) (good vs) (bad (refusal 16 0 a.start))) (le-leb (length (flat vs)) room i)
        ∙ ap (λ (z : Bool). pick (true && z) (good vs) (bad (refusal 16 0 a.start))) (le-leb (length vs) ends j)

    -- a parameter's text is never 16, in a room of as many bytes as are told or more: only what is no string is refused. A lent room has
    -- fewer than 2^64 bytes
    pub text_answered : (p e : ℕ) (a : Span) → (param_of s p e).answer ≡ good a → span_bytes s a ≡ t → (room : ℕ) → c.text ≤ room → room < largest_u64 → (q : Refusal) → string_at s room a ≡ bad q → q.number ≡ 12
    unfolding string_at
    text_answered p e a g w room k m q h = go (is_unset (span_bytes s a)) (is_string (span_bytes s a)) refl h
      where
        -- the parameter lies in the file
        inside : (a.start ≤ a.stop) × (a.stop ≤ length s)
        inside = let (i, u) = param_past s p e a g in let b = u.ordered in let x = u.passed in let y = u.within in let z = i.1 in (omega arith, omega arith)

        -- a string's text that is written fits the room
        fits : is_string (span_bytes s a) ≡ true → leb (length (bytes_of (string_body s a))) room ≡ true
        fits v =
            let (b, d) = quoted_is (span_bytes s a) v in
            let x = quoted_body s a b inside.0 inside.1 d in
            let y = text_body t b (subst (λ (u : List ℕ). Quoted u b) w d) in
            let z = text_enough (sym (ap is_string w) ∙ v) in
            let o : length (bytes_of (take (length t - 1 - 1) (drop 1 t))) ≡ length (bytes_of (string_body s a)) = ap (λ (u : List ℕ). length (bytes_of u)) (y ∙ sym x) in
            le-leb (length (bytes_of (string_body s a))) room (below (length (bytes_of (string_body s a))) (subst (λ (n : ℕ). min largest_u64 n ≤ c.text) o z))
          where
            below : (n : ℕ) → min largest_u64 n ≤ c.text → n ≤ room
            below n j = omega arith

        -- a string whose text fits the room is not refused
        shown : (x y : Bool) → y ≡ true → decoded_at a (pick x (Some Plain) (pick y (Some (Written (length (bytes_of (string_body s a))))) None)) ≡ bad q → q.number ≡ 12
        shown true y f j = clash (cc)
        shown false true f j = clash (cc)
        shown false false f j = clash (cc)

        go : (u v : Bool) → is_string (span_bytes s a) ≡ v → pick u (good (InFile (span a.start a.start))) (pick v (decoded_at a (decoded_of (string_body s a) room)) (bad (refusal 12 0 a.start))) ≡ bad q → q.number ≡ 12
        go true v f j = clash (cc)
        go false true f j = shown (plain (string_body s a)) (leb (length (bytes_of (string_body s a))) room) (fits f) j
        go false false f j = let x : refusal 12 0 a.start ≡ q = cc in sym (ap (λ (z : Refusal). z.number) x)
