-- What the token at a place of the bytes up to the reader's end does to the search for a parameter's end: the laws that the loop of the
-- code goes by, one for each way out of it. Assumes nothing.
use Rattle.std.specs.Prelude.{ℕ, zero, suc, ◌+◌, ◌-◌, ◌<◌, ◌≤◌, ◌^◌, ◌≡◌, refl, Bool, true, false, List, [], ◌∷◌, ◌++◌, Option, Some, None, Result, Ok, Err, eqb, length, drop, get_or}
use Rattle.std.proofs.Common.{sym, ◌∙◌, ap, append-nil, arith, drop-drop, eqb-true, ne_eqb}
use Rattle.std.proofs.lemmas.Bool.{eqb-false}
use Rattle.common.specs.Pick.{pick}
use Rattle.common.specs.Lists.{split, drop_end}
use Rattle.common.specs.Compare.{clash}
use Rattle.lex.specs.Byte.{white}
use Rattle.tokens.specs.Answer.{from_byte, heads_with, ends_before, never, told_token_end, TokenEndIn}
use Rattle.tokens.specs.TokenRests.{string_rest, comment_rest}
use Rattle.tokens.specs.Laws.{string_is, string_never, comment_is, comment_never, byte_found}
use Rattle.params.specs.Grammar.{Without, Ordinary, Token, Bound}
use Rattle.params.specs.ParameterEnd.{cut_of}
use Rattle.params.specs.Answer.{ParamEnd, stops_before, literal_open}
use Rattle.params.specs.Right.{param_plainly, param_blank_step, param_comment_step, param_remark_stuck, param_string_step, param_text_stuck, binary_step, param_byte_step, token_step, bound_stops, without_cons, without_nil, binary_unended, binary_stuck}
use Rattle.params.specs.declared.Search.{Search}

-- the search from i on, outside literals and comments, the parameter reaching to z, with d open parentheses
abbrev pub search_from : List ℕ → ℕ → ℕ → ℕ → ParamEnd
search_from xs i z d = param_plainly d (drop z xs) (drop i xs)

-- where the search stands: a place of the bytes, behind what the parameter reaches to, with at most as many parentheses open as bytes
-- were read
pub record Standing (xs : List ℕ) (i z d : ℕ) : Type 0 where
  pub place : i < length xs
  pub reach : z ≤ i
  pub few : d ≤ i
  pub bounded : length xs < 2 ^ 63

-- the search for a parameter's end stands at i, and the byte c is there
pub record StandingAtByte (xs : List ℕ) (i z d c : ℕ) : Type 0 where
  pub standing : Standing xs i z d
  pub byte : get_or xs i 0 ≡ c

-- what the token at i does, which is no comma at depth 0: a literal is open, or the search goes on
abbrev pub ParamStep : List ℕ → ℕ → ℕ → ℕ → Result Search ℕ → Type 0
ParamStep xs i z d (Err q) = (q ≡ i) × (search_from xs i z d ≡ literal_open (drop i xs))
ParamStep xs i z d (Ok s) = (search_from xs i z d ≡ search_from xs s.at s.solid s.depth) × (i < s.at) × (s.at ≤ length xs) × (z ≤ s.solid) × (s.solid ≤ s.at) × (s.depth ≤ d + 1)

-- the search at a place, what the parameter reaches to, and the open parentheses
abbrev pub search_at : ℕ → ℕ → ℕ → Search
search_at i z d = record { at = i; solid = z; depth = d }

-- what stands before the first byte b of a list has no b
found_after : (b : ℕ) (xs : List ℕ) → (u : List ℕ) × Without b u × (xs ≡ u ++ from_byte b xs)
unfolding from_byte
found_after b [] = ([], without_nil b, refl)
found_after b (c ∷ r) = go (eqb c b) refl (found_after b r)
  where
    go : (k : Bool) → eqb c b ≡ k → (u : List ℕ) × Without b u × (r ≡ u ++ from_byte b r) → (u : List ℕ) × Without b u × (c ∷ r ≡ u ++ pick k (c ∷ r) (from_byte b r))
    go true e f = ([], without_nil b, refl)
    go false e (u, w, f) = (c ∷ u, without_cons b c u (eqb-false c b e) w, ap (λ (l : List ℕ). c ∷ l) f)

-- a byte above the slash is not white
pub plain_white : (c : ℕ) → 47 < c → white c ≡ false
plain_white c h = rw (ne_eqb c 32 (λ e. absurd (omega arith)), ne_eqb c 9 (λ e. absurd (omega arith)), ne_eqb c 10 (λ e. absurd (omega arith)), ne_eqb c 12 (λ e. absurd (omega arith)), ne_eqb c 13 (λ e. absurd (omega arith))) refl

module _ (xs : List ℕ) (i z d : ℕ) (h : i < length xs) where
  -- where the byte c stands at i, the rest from i on is c and the rest after it
  here : (c : ℕ) → get_or xs i 0 ≡ c → drop i xs ≡ c ∷ drop (i + 1) xs
  here c e = split xs i h ∙ ap (λ (k : ℕ). k ∷ drop (i + 1) xs) e

  -- "a comma at depth 0": the parameter is cut there
  pub step_comma : get_or xs i 0 ≡ 44 → d ≡ 0 → search_from xs i z d ≡ stops_before (drop z xs) (drop i xs)
  step_comma e f = rw (here 44 e, f) (bound_stops (drop z xs) Bound.comma)

  -- the search goes on after a comma of a nested list, to which the parameter reaches
  pub step_nested : get_or xs i 0 ≡ 44 → (d ≡ 0 → ⊥) → search_from xs i z d ≡ search_from xs (i + 1) (i + 1) d
  step_nested e f = rw (here 44 e) (go d f)
    where
      go : (d : ℕ) → (d ≡ 0 → ⊥) → param_plainly d (drop z xs) (44 ∷ drop (i + 1) xs) ≡ param_plainly d (drop (i + 1) xs) (drop (i + 1) xs)
      go zero f = absurd (f refl)
      go (suc d) f = token_step (drop z xs) Token.nested

  -- the search goes on after a `(` with one more open, and the parameter reaches to it
  pub step_opening : get_or xs i 0 ≡ 40 → search_from xs i z d ≡ search_from xs (i + 1) (i + 1) (d + 1)
  step_opening e = let f : d + 1 ≡ suc d = omega arith in rw (here 40 e, f) (token_step (drop z xs) Token.opening)

  -- the search goes on after a `)`, to which the parameter reaches: "at depth 0 leaves it 0"
  pub step_closing : get_or xs i 0 ≡ 41 → search_from xs i z d ≡ search_from xs (i + 1) (i + 1) (d - 1)
  step_closing e = rw (here 41 e) (go d)
    where
      go : (d : ℕ) → param_plainly d (drop z xs) (41 ∷ drop (i + 1) xs) ≡ param_plainly (d - 1) (drop (i + 1) xs) (drop (i + 1) xs)
      go zero = token_step (drop z xs) Token.stray
      go (suc d) = let f : suc d - 1 ≡ d = omega arith in rw f (token_step (drop z xs) Token.closing)

  -- the search goes on after a string, to which the parameter reaches
  pub step_string : (j : ℕ) → get_or xs i 0 ≡ 39 → ends_before (drop j xs) ≡ string_rest (drop (i + 1) xs) → search_from xs i z d ≡ search_from xs j j d
  step_string j e f = rw (here 39 e) (param_string_step d (drop z xs) (string_is (drop (i + 1) xs) (drop j xs) (sym f)))

  -- a string that never ends stops the search at its quote
  pub step_open : get_or xs i 0 ≡ 39 → never ≡ string_rest (drop (i + 1) xs) → search_from xs i z d ≡ literal_open (drop i xs)
  step_open e f = rw (here 39 e) (param_text_stuck d (drop z xs) (string_never (drop (i + 1) xs) (sym f)))

  -- the search goes on after a binary literal, to which the parameter reaches
  pub step_binary : (q : ℕ) → get_or xs i 0 ≡ 34 → drop q xs ≡ from_byte 34 (drop (i + 1) xs) → q < length xs → search_from xs i z d ≡ search_from xs (q + 1) (q + 1) d
  step_binary q e f k =
      let (u, w, g) = found_after 34 (drop (i + 1) xs) in
      let p : from_byte 34 (drop (i + 1) xs) ≡ get_or xs q 0 ∷ drop (q + 1) xs = sym f ∙ split xs q k in
      let o = byte_found 34 (drop (i + 1) xs) (get_or xs q 0) (drop (q + 1) xs) p in
      let t : drop (i + 1) xs ≡ u ++ (34 ∷ drop (q + 1) xs) = g ∙ ap (λ (l : List ℕ). u ++ l) (p ∙ ap (λ (c : ℕ). c ∷ drop (q + 1) xs) o) in
      rw (here 34 e) (binary_step d (drop z xs) {xs = 34 ∷ drop (i + 1) xs} {ys = drop (q + 1) xs} (record { body = u; inside = w; shape = ap (λ (l : List ℕ). 34 ∷ l) t }))

  -- a binary literal that never ends stops the search at its quote
  pub step_binary_open : (q : ℕ) → get_or xs i 0 ≡ 34 → drop q xs ≡ from_byte 34 (drop (i + 1) xs) → length xs ≤ q → search_from xs i z d ≡ literal_open (drop i xs)
  step_binary_open q e f k =
      let (u, w, g) = found_after 34 (drop (i + 1) xs) in
      let t : drop (i + 1) xs ≡ u ++ [] = g ∙ ap (λ (l : List ℕ). u ++ l) (sym f ∙ drop_end xs q k) in
      let v : drop (i + 1) xs ≡ u = t ∙ append-nil u in
      rw (here 34 e) (binary_stuck d (drop z xs) ((drop (i + 1) xs, refl), binary_unended (rw v w)))

  -- a slash at i and a star after it are the two bytes that open a comment
  opened : get_or xs i 0 ≡ 47 → heads_with 42 (drop (i + 1) xs) ≡ true → drop i xs ≡ 47 ∷ 42 ∷ drop (i + 2) xs
  opened e f =
      let k : i + 1 + 1 ≡ i + 2 = omega arith in
      here 47 e ∙ ap (λ (l : List ℕ). 47 ∷ l) (go (drop (i + 1) xs) f ∙ ap (λ (l : List ℕ). 42 ∷ l) (drop-drop 1 (i + 1) xs ∙ ap (λ (j : ℕ). drop j xs) k))
    where
      go : (l : List ℕ) → heads_with 42 l ≡ true → l ≡ 42 ∷ drop 1 l
      go [] f = clash (cc)
      go (c ∷ l) f = ap (λ (k : ℕ). k ∷ l) (eqb-true c 42 f)

  -- the search goes on after a comment, to which the parameter does not reach
  pub step_comment : (j : ℕ) → get_or xs i 0 ≡ 47 → true ≡ heads_with 42 (drop (i + 1) xs) → ends_before (drop j xs) ≡ comment_rest (drop (i + 2) xs) → search_from xs i z d ≡ search_from xs j z d
  step_comment j e f g = rw (opened e (sym f)) (param_comment_step d (drop z xs) (comment_is (drop (i + 2) xs) (drop j xs) (sym g)))

  -- "an open comment runs to the end": the search goes on there
  pub step_remark : get_or xs i 0 ≡ 47 → true ≡ heads_with 42 (drop (i + 1) xs) → never ≡ comment_rest (drop (i + 2) xs) → search_from xs i z d ≡ search_from xs (length xs) z d
  step_remark e f g =
      rw (opened e (sym f), drop_end xs (length xs) (omega arith))
      (param_remark_stuck d (drop z xs) (comment_never (drop (i + 2) xs) (sym g)) ∙ sym (bound_stops (drop z xs) {d = d} Bound.end))

  -- the search goes on after whitespace, to which the parameter does not reach
  pub step_blank : white (get_or xs i 0) ≡ true → search_from xs i z d ≡ search_from xs (i + 1) z d
  step_blank e = rw (split xs i h) (param_blank_step d (drop z xs) (get_or xs i 0) (drop (i + 1) xs) e)

  -- the search goes on after an ordinary byte, to which the parameter reaches
  pub step_byte : Ordinary (get_or xs i 0) (drop (i + 1) xs) → search_from xs i z d ≡ search_from xs (i + 1) (i + 1) d
  step_byte o = rw (split xs i h) (param_byte_step d (drop z xs) (get_or xs i 0) (drop (i + 1) xs) o)

  -- the search goes on after a byte above the slash, to which the parameter reaches
  pub step_plain : 47 < get_or xs i 0 → search_from xs i z d ≡ search_from xs (i + 1) (i + 1) d
  step_plain k = step_byte (record {
    unblank = plain_white (get_or xs i 0) k;
    unquoted = λ e. absurd (omega arith);
    unbinary = λ e. absurd (omega arith);
    unopened = λ (r, e). let f : get_or xs i 0 ≡ 47 = cc in absurd (omega arith);
    opening = λ e. absurd (omega arith);
    closing = λ e. absurd (omega arith);
    comma = λ e. absurd (omega arith);
  })

  -- the search goes on after a slash that opens no comment, to which the parameter reaches
  pub step_slash : get_or xs i 0 ≡ 47 → false ≡ heads_with 42 (drop (i + 1) xs) → search_from xs i z d ≡ search_from xs (i + 1) (i + 1) d
  step_slash e f = step_byte (record {
    unblank = rw e refl;
    unquoted = λ k. absurd (omega arith);
    unbinary = λ k. absurd (omega arith);
    unopened = λ (r, k). let g : drop (i + 1) xs ≡ 42 ∷ r = cc in let t : heads_with 42 (42 ∷ r) ≡ false = ap (heads_with 42) (sym g) ∙ sym f in clash (cc);
    opening = λ k. absurd (omega arith);
    closing = λ k. absurd (omega arith);
    comma = λ k. absurd (omega arith);
  })

  -- the search goes on after a byte that is no comma, parenthesis, quote, `"`, slash or whitespace, to which the parameter reaches
  pub step_other : (get_or xs i 0 ≡ 44 → ⊥) → (get_or xs i 0 ≡ 40 → ⊥) → (get_or xs i 0 ≡ 41 → ⊥) → (get_or xs i 0 ≡ 39 → ⊥) → (get_or xs i 0 ≡ 34 → ⊥) → (get_or xs i 0 ≡ 47 → ⊥) → white (get_or xs i 0) ≡ false
      → search_from xs i z d ≡ search_from xs (i + 1) (i + 1) d
  step_other n44 n40 n41 n39 n34 n47 w = step_byte (record {
    unblank = w;
    unquoted = n39;
    unbinary = n34;
    unopened = λ (r, e). n47 (cc);
    opening = n40;
    closing = n41;
    comma = n44;
  })

  -- the search goes on after a comma that does not cut the parameter, and after a byte that is no comma
  pub step_rest : (get_or xs i 0 ≡ 44 → d ≡ 0 → ⊥) → (get_or xs i 0 ≡ 40 → ⊥) → (get_or xs i 0 ≡ 41 → ⊥) → (get_or xs i 0 ≡ 39 → ⊥) → (get_or xs i 0 ≡ 34 → ⊥) → (get_or xs i 0 ≡ 47 → ⊥) → white (get_or xs i 0) ≡ false
      → search_from xs i z d ≡ search_from xs (i + 1) (i + 1) d
  step_rest n44 n40 n41 n39 n34 n47 w = go (eqb (get_or xs i 0) 44) refl
    where
      go : (k : Bool) → eqb (get_or xs i 0) 44 ≡ k → search_from xs i z d ≡ search_from xs (i + 1) (i + 1) d
      go true e = let f = eqb-true (get_or xs i 0) 44 e in step_nested f (n44 f)
      go false e = step_other (eqb-false (get_or xs i 0) 44 e) n40 n41 n39 n34 n47 w

-- where the bytes end, the search cuts the parameter
pub onward_over : (xs : List ℕ) (i z d : ℕ) → length xs ≤ i → search_from xs i z d ≡ stops_before (drop z xs) (drop (length xs) xs)
onward_over xs i z d h = rw (drop_end xs i h, drop_end xs (length xs) (omega arith)) (bound_stops (drop z xs) {d = d} Bound.end)

-- the search begins at the parameter's start, with no parenthesis open
pub onward_starts : (xs : List ℕ) (start from : ℕ) → drop from xs ≡ drop start xs → search_from xs from from 0 ≡ cut_of (drop start xs)
unfolding cut_of
onward_starts xs start from e = rw e refl

-- The ways out of the code's steps.
module _ (xs : List ℕ) (i z d : ℕ) where
  -- where a string that opens at i ends, the code's step goes on after it
  pub param_text_past : (r : Option ℕ) (j : ℕ) → StandingAtByte xs i z d 39 → told_token_end xs r ≡ string_rest (drop (i + 1) xs) → TokenEndIn (i + 1) (length xs) r → r ≡ Some j
      → ParamStep xs i z d (Ok (search_at j j d))
  param_text_past r j s e (w) f = let (a, b) = rw f at w in
      let k = s.standing in
      (step_string xs i z d k.place j s.byte (ap (told_token_end xs) (sym f) ∙ e), omega arith, b, omega (arith, k.reach), omega arith, omega arith)

  -- where a string that opens at i never ends, the code's step is an open literal
  pub param_text_never : (r : Option ℕ) → StandingAtByte xs i z d 39 → told_token_end xs r ≡ string_rest (drop (i + 1) xs) → r ≡ None → ParamStep xs i z d (Err i)
  param_text_never r s e f = (refl, step_open xs i z d s.standing.place s.byte (ap (told_token_end xs) (sym f) ∙ e))

  -- where a comment that opens at i ends, the code's step goes on after it
  pub comment_past : (r : Option ℕ) (j : ℕ) → StandingAtByte xs i z d 47 → heads_with 42 (drop (i + 1) xs) ≡ true → told_token_end xs r ≡ comment_rest (drop (i + 2) xs) → TokenEndIn (i + 2) (length xs) r → r ≡ Some j
      → ParamStep xs i z d (Ok (search_at j z d))
  comment_past r j s g e w f = let (a, b) = rw f at w in
      let k = s.standing in
      (step_comment xs i z d k.place j s.byte (sym g) (ap (told_token_end xs) (sym f) ∙ e), omega arith, b, omega arith, omega (arith, k.reach), omega arith)

  -- where a comment that opens at i never ends, the code's step goes on at the end
  pub comment_stuck : (r : Option ℕ) → StandingAtByte xs i z d 47 → heads_with 42 (drop (i + 1) xs) ≡ true → told_token_end xs r ≡ comment_rest (drop (i + 2) xs) → r ≡ None
      → ParamStep xs i z d (Ok (search_at (length xs) z d))
  comment_stuck r s g e f = let k = s.standing in
      (step_remark xs i z d k.place s.byte (sym g) (ap (told_token_end xs) (sym f) ∙ e), k.place, omega arith, omega arith, omega (arith, k.reach, k.place), omega arith)

  -- after one byte that is the parameter's, the code's step goes on at the next
  pub on_byte : (e : ℕ) → Standing xs i z d → search_from xs i z d ≡ search_from xs (i + 1) (i + 1) e → e ≤ d + 1 → ParamStep xs i z d (Ok (search_at (i + 1) (i + 1) e))
  on_byte e k f g = (f, omega arith, omega (arith, k.place), omega (arith, k.reach), omega arith, g)
