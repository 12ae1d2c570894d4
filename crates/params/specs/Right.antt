-- ParameterEnd.antt computes just the parameters of Grammar.antt: what is computed is one, and there is no other; and refusal 11 means what it
-- says there. Strings, comments and trivia by the scan's theorems (lex/specs/Right.antt). Assumes nothing.
use Rattle.std.specs.Prelude.{ℕ, zero, suc, ◌-◌, ◌≤◌, ◌<◌, ◌≡◌, refl, Bool, true, false, ◌⊎◌, List, [], ◌∷◌, ◌++◌, eqb, length}
use Rattle.std.proofs.Common.{sym, ◌∙◌, ap, inl, inr, arith, length-append, eqb-true, ne_eqb}
use Rattle.std.proofs.Math.Decide.{ℕ_discrete}
use Rattle.common.specs.Compare.{clash}
use Rattle.lex.specs.Byte.{white}
use Rattle.common.specs.Walk.{walk}
use Rattle.lex.specs.Search.{trivia}
use Rattle.lex.specs.Answer.{Sought, at, fault}
use Rattle.lex.specs.Grammar.{Begins, OpensComment, Comment, Quotation, Trivia, OpenText, OpenRemark}
use Rattle.lex.specs.Right.{trivia_is, trivia_open, trivia_only, trivia_open_only}
use Rattle.lex.specs.Right.Steps.{Deaf, remark_shut, remark_open, text_ends, text_over}
use Rattle.lex.specs.Right.Tokens.{open_text, open_remark, ReadsAsTokens, tokens, quotation_shorter, comment_shorter}
use Rattle.lex.specs.declared.Mode.{Mode}
use Rattle.lex.specs.declared.Mode.TheVariants.{Plain, Slash, Text, Quoted, Remark}
use Rattle.params.specs.Grammar.{Without, Binary, OpenBinary, Ordinary, Token, Runs, RunsToToken, Trails, Bound, Parameter, Unclosed, Starts}
use Rattle.params.specs.ParameterEnd.{stand, cut_turn, cut_end, cut_of, runs_out, started}
use Rattle.params.specs.Answer.{ParamEnd, stops_before, literal_open}

-- the search for a parameter's end, from a state
abbrev from : Mode → Bool → ℕ → List ℕ → List ℕ → List ℕ → ParamEnd
from m b d o s xs = walk cut_turn cut_end (stand m b d o s) xs

-- in strings and comments the search for a parameter's end is deaf
cut_deaf : (d : ℕ) (o s : List ℕ) → Deaf cut_turn cut_end (λ m. stand m false d o s)
cut_deaf d o s = record { quiet = λ m c r h. rw h; starred = refl }

-- the search for a parameter's end outside literals and comments, with d open parentheses, the parameter reaching to s
abbrev pub param_plainly : ℕ → List ℕ → List ℕ → ParamEnd
param_plainly d s xs = from Plain false d xs s xs

-- where the last byte outside stood has no part in the search for a parameter's end
unopened : (d : ℕ) (o p s xs : List ℕ) → from Plain false d o s xs ≡ from Plain false d p s xs
unfolding walk
unopened d o p s [] = refl
unopened d o p s (c ∷ r) = refl

-- a slash that no star follows is no trivia
unslashed : (d : ℕ) (o s xs : List ℕ) → (Begins 42 xs → ⊥) → from Slash false d o s xs ≡ param_plainly d xs xs
unfolding walk
unslashed d o s [] h = refl
unslashed d o s (c ∷ r) h = rw (ne_eqb c 42 (λ e. h (r, cc)))

-- a quote that no quote follows ends the string, which is no trivia
unquoted : (d : ℕ) (o s xs : List ℕ) → (Begins 39 xs → ⊥) → from Quoted false d o s xs ≡ param_plainly d xs xs
unfolding walk
unquoted d o s [] h = refl
unquoted d o s (c ∷ r) h = rw (ne_eqb c 39 (λ e. h (r, cc)))

-- whitespace is not a byte that is no whitespace
white_not : (c k : ℕ) → white c ≡ true → white k ≡ false → eqb c k ≡ false
white_not c k h e = ne_eqb c k (λ p. let q : white k ≡ true = ap white (sym p) ∙ h in clash (cc))

-- the search for a parameter's end passes over whitespace, to which the parameter does not reach
pub param_blank_step : (d : ℕ) (s : List ℕ) (c : ℕ) (r : List ℕ) → white c ≡ true → param_plainly d s (c ∷ r) ≡ param_plainly d s r
unfolding walk
param_blank_step d s c r h =
    rw (h, white_not c 44 h refl, white_not c 39 h refl, white_not c 47 h refl, white_not c 34 h refl, white_not c 40 h refl, white_not c 41 h refl)
    (unopened d (c ∷ r) r s r)

-- a slash and a star open a comment for the search for a parameter's end
remark_start : (d : ℕ) (s t : List ℕ) → param_plainly d s (47 ∷ 42 ∷ t) ≡ from Remark false d (47 ∷ 42 ∷ t) s t
unfolding walk
remark_start d s t = refl

-- the search for a parameter's end passes over a whole comment, to which the parameter does not reach
pub param_comment_step : (d : ℕ) (s : List ℕ) {xs ys : List ℕ} → Comment xs ys → param_plainly d s xs ≡ param_plainly d s ys
param_comment_step d s {ys} q =
    let o : List ℕ = 47 ∷ 42 ∷ (q.body ++ (42 ∷ 47 ∷ ys)) in
    rw q.shape
    (remark_start d s (q.body ++ (42 ∷ 47 ∷ ys)) ∙ remark_shut cut_turn cut_end (λ m. stand m false d o s) (cut_deaf d o s) q.body ys q.first ∙ unopened d o ys s ys)

-- a comment that never ends runs to the end, and the parameter does not reach to it
pub param_remark_stuck : (d : ℕ) (s : List ℕ) {o : List ℕ} → OpenRemark o → param_plainly d s o ≡ stops_before s []
param_remark_stuck d s q = let (t, e, h) = open_remark q in
    let o : List ℕ = 47 ∷ 42 ∷ t in
    rw e (remark_start d s t ∙ remark_open cut_turn cut_end (λ m. stand m false d o s) (cut_deaf d o s) t h)

-- a quote opens a string for the search for a parameter's end
text_start : (d : ℕ) (s t : List ℕ) → param_plainly d s (39 ∷ t) ≡ from Text false d (39 ∷ t) t t
unfolding walk
text_start d s t = refl

-- the search for a parameter's end passes over a whole string, to which the parameter reaches
pub param_string_step : (d : ℕ) (s : List ℕ) {xs ys : List ℕ} → Quotation xs ys → param_plainly d s xs ≡ param_plainly d ys ys
param_string_step d s {ys} q =
    let t : List ℕ = q.body ++ (39 ∷ ys) in
    rw q.shape
    (text_start d s t ∙ text_ends cut_turn cut_end (λ m. stand m false d (39 ∷ t) t) (cut_deaf d (39 ∷ t) t) ys q.inside ∙ unquoted d (39 ∷ t) t ys q.single)

-- a string that never ends stops the search for a parameter's end, at its quote
pub param_text_stuck : (d : ℕ) (s : List ℕ) {o : List ℕ} → OpenText o → param_plainly d s o ≡ literal_open o
param_text_stuck d s q = let (t, e, i) = open_text q in
    rw e (text_start d s t ∙ text_over cut_turn cut_end (λ m. stand m false d (39 ∷ t) t) (cut_deaf d (39 ∷ t) t) i)

-- a byte that does not occur in a list is not its first byte
without_head : (k c : ℕ) (b : List ℕ) → Without k (c ∷ b) → c ≡ k → ⊥
without_head k c b h e = h [] b (cc)

without_tail : (k c : ℕ) (b : List ℕ) → Without k (c ∷ b) → Without k b
without_tail k c b h u v e = h (c ∷ u) v (cc)

-- the search in a binary literal goes on outside after its `"`, to which the parameter reaches
binary_shut : (d : ℕ) (o s b r : List ℕ) → Without 34 b → from Plain true d o s (b ++ (34 ∷ r)) ≡ param_plainly d r r
unfolding walk
binary_shut d o s [] r h = unopened d o r r r
binary_shut d o s (c ∷ b) r h = rw (ne_eqb c 34 (without_head 34 c b h)) (binary_shut d o (b ++ (34 ∷ r)) b r (without_tail 34 c b h))

-- the search in a binary literal that never ends stops, at the literal's quote
binary_over : (d : ℕ) (o s b : List ℕ) → Without 34 b → from Plain true d o s b ≡ literal_open o
unfolding walk
binary_over d o s [] h = refl
binary_over d o s (c ∷ b) h = rw (ne_eqb c 34 (without_head 34 c b h)) (binary_over d o b b (without_tail 34 c b h))

-- a `"` opens a binary literal for the search for a parameter's end
binary_start : (d : ℕ) (s t : List ℕ) → param_plainly d s (34 ∷ t) ≡ from Plain true d (34 ∷ t) t t
unfolding walk
binary_start d s t = refl

-- the search for a parameter's end passes over a whole binary literal, to which the parameter reaches
pub binary_step : (d : ℕ) (s : List ℕ) {xs ys : List ℕ} → Binary xs ys → param_plainly d s xs ≡ param_plainly d ys ys
binary_step d s {ys} q =
    let t : List ℕ = q.body ++ (34 ∷ ys) in
    rw q.shape (binary_start d s t ∙ binary_shut d (34 ∷ t) t q.body ys q.inside)

-- the search for a parameter's end passes over an ordinary byte, to which the parameter reaches
pub param_byte_step : (d : ℕ) (s : List ℕ) (c : ℕ) (r : List ℕ) → Ordinary c r → param_plainly d s (c ∷ r) ≡ param_plainly d r r
unfolding walk
param_byte_step d s c r q = go (eqb c 47) refl
  where
    go : (k : Bool) → eqb c 47 ≡ k → param_plainly d s (c ∷ r) ≡ param_plainly d r r
    go true e =
        rw (ne_eqb c 44 q.comma, ne_eqb c 39 q.unquoted, e, ne_eqb c 34 q.unbinary, ne_eqb c 40 q.opening, ne_eqb c 41 q.closing, q.unblank)
        (unslashed d (c ∷ r) s r (λ (t, g). q.unopened (t, cc (eqb-true c 47 e))))
    go false e =
        rw (ne_eqb c 44 q.comma, ne_eqb c 39 q.unquoted, e, ne_eqb c 34 q.unbinary, ne_eqb c 40 q.opening, ne_eqb c 41 q.closing, q.unblank)
        (unopened d (c ∷ r) r r r)

-- the search for a parameter's end passes over a token, to which the parameter reaches
pub token_step : (s : List ℕ) {d e : ℕ} {xs ys : List ℕ} → Token d xs e ys → param_plainly d s xs ≡ param_plainly e ys ys
unfolding walk
token_step s (Token.byte {d} {c} {xs} q) = param_byte_step d s c xs q
token_step s (Token.nested {d} {xs}) = rw (ne_eqb (suc d) 0 (λ e. absurd (omega arith))) (unopened (suc d) (44 ∷ xs) xs xs xs)
token_step s (Token.string {d} q) = param_string_step d s q
token_step s (Token.binary {d} q) = binary_step d s q
token_step s (Token.opening {d} {xs}) = unopened (suc d) (40 ∷ xs) xs xs xs
token_step s (Token.closing {d} {xs}) = let e : suc d - 1 ≡ d = omega arith in rw e (unopened d (41 ∷ xs) xs xs xs)
token_step s (Token.stray {xs}) = unopened 0 (41 ∷ xs) xs xs xs

-- the search for a parameter's end passes over tokens and trivia, wherever the parameter then reaches to
runs_step : {d e : ℕ} {xs ys : List ℕ} → Runs d xs e ys → (s : List ℕ) → (t : List ℕ) × (param_plainly d s xs ≡ param_plainly e t ys)
runs_step Runs.none s = (s, refl)
runs_step (Runs.token {zs} r q) s = let (t, p) = runs_step r s in (zs, p ∙ token_step t q)
runs_step (Runs.blank {e} {c} {ys} r h) s = let (t, p) = runs_step r s in (t, p ∙ param_blank_step e t c ys h)
runs_step (Runs.comment {e} r q) s = let (t, p) = runs_step r s in (t, p ∙ param_comment_step e t q)

-- the search for a parameter's end passes over what ends in a token, to which the parameter reaches
whole_step : {d e : ℕ} {xs ys : List ℕ} → RunsToToken d xs e ys → param_plainly d xs xs ≡ param_plainly e ys ys
whole_step RunsToToken.none = refl
whole_step {xs} (RunsToToken.last r q) = let (t, p) = runs_step r xs in p ∙ token_step t q

-- the search for a parameter's end passes over trivia, to which the parameter does not reach
trivia_step : (d : ℕ) (s : List ℕ) {xs ys : List ℕ} → Trivia xs ys → param_plainly d s xs ≡ param_plainly d s ys
trivia_step d s Trivia.none = refl
trivia_step d s (Trivia.blank {c} {xs} h r) = param_blank_step d s c xs h ∙ trivia_step d s r
trivia_step d s (Trivia.comment q r) = param_comment_step d s q ∙ trivia_step d s r

-- the search for a parameter's end stops at a comma at depth 0 and at the end
pub bound_stops : (s : List ℕ) {d : ℕ} {ys : List ℕ} → Bound d ys → param_plainly d s ys ≡ stops_before s ys
unfolding walk
bound_stops s Bound.comma = refl
bound_stops s Bound.end = refl

-- the search for a parameter's end stops at a comma at depth 0 and at the end after trivia too
trails_stop : (s : List ℕ) {d : ℕ} {xs ys : List ℕ} → Trails xs ys → Bound d ys → param_plainly d s xs ≡ stops_before s ys
trails_stop s {d} (Trails.shut r) b = trivia_step d s r ∙ bound_stops s b
trails_stop s {d} (Trails.unclosed r q) b = trivia_step d s r ∙ param_remark_stuck d s q

-- where a parameter ends by the grammar, it is cut
pub param_only : {xs z bound : List ℕ} → Parameter xs z bound → cut_of xs ≡ stops_before z bound
unfolding cut_of
param_only {z} p = whole_step p.whole ∙ trails_stop z p.trails p.bounds

-- a binary literal's inside ends at the first `"`, and rest follows
record Shut (t : List ℕ) : Type 0 where
  body : List ℕ
  rest : List ℕ
  inside : Without 34 body
  shape : t ≡ body ++ (34 ∷ rest)

-- a byte that is not k, before bytes without k, gives bytes without k
pub without_cons : (k c : ℕ) (b : List ℕ) → (c ≡ k → ⊥) → Without k b → Without k (c ∷ b)
without_cons k c b h i [] v e = h (cc)
without_cons k c b h i (x ∷ u) v e = i u v (cc)

-- no byte occurs in an empty list
pub without_nil : (k : ℕ) → Without k []
without_nil k [] v e = clash (cc)
without_nil k (x ∷ u) v e = clash (cc)

-- a binary literal's inside ends at a `"`, or no `"` follows
binary_ends : (t : List ℕ) → Shut t ⊎ Without 34 t
binary_ends [] = inr (without_nil 34)
binary_ends (c ∷ t) = go (ℕ_discrete c 34) (binary_ends t)
  where
    go : Dec (c ≡ 34) → Shut t ⊎ Without 34 t → Shut (c ∷ t) ⊎ Without 34 (c ∷ t)
    go (yes p) k = inl (record { body = []; rest = t; inside = without_nil 34; shape = cc })
    go (no h) (inl s) = inl (record { body = c ∷ s.body; rest = s.rest; inside = without_cons 34 c s.body h s.inside; shape = cc })
    go (no h) (inr i) = inr (without_cons 34 c t h i)

-- where a binary literal opens and never ends, no `"` follows
open_binary : {xs : List ℕ} → OpenBinary xs → (t : List ℕ) × (xs ≡ 34 ∷ t) × Without 34 t
open_binary {xs} ((t, e), h) = go (binary_ends t)
  where
    go : Shut t ⊎ Without 34 t → (t : List ℕ) × (xs ≡ 34 ∷ t) × Without 34 t
    go (inl s) = absurd (h s.rest (record { body = s.body; inside = s.inside; shape = cc }))
    go (inr i) = (t, e, i)

-- where no `"` follows, no binary literal ends
pub binary_unended : {t : List ℕ} → Without 34 t → (r : List ℕ) → Binary (34 ∷ t) r → ⊥
binary_unended h r q = h q.body r (cc q.shape)

-- a binary literal that never ends stops the search for a parameter's end, at its quote
pub binary_stuck : (d : ℕ) (s : List ℕ) {o : List ℕ} → OpenBinary o → param_plainly d s o ≡ literal_open o
binary_stuck d s q = let (t, e, i) = open_binary q in rw e (binary_start d s t ∙ binary_over d (34 ∷ t) t t i)

-- a literal that never ends by the grammar is refused with 11, at its quote
pub unclosed_only : {xs o : List ℕ} → Unclosed xs o → cut_of xs ≡ literal_open o
unfolding cut_of
unclosed_only {xs} (Unclosed.text {d} r q) = let (t, p) = runs_step r xs in p ∙ param_text_stuck d t q
unclosed_only {xs} (Unclosed.binary {d} r q) = let (t, p) = runs_step r xs in p ∙ binary_stuck d t q

-- what becomes of a parameter: it ends, or a literal in it does not
data Comes (xs : List ℕ) : Type 0 where
  found : (z bound : List ℕ) → Parameter xs z bound → Comes xs
  stuck : (o : List ℕ) → Unclosed xs o → Comes xs

-- how far a parameter is read: up to ys at depth d, where it reaches to z
record Sofar (xs : List ℕ) (d : ℕ) (ys : List ℕ) : Type 0 where
  runs : Runs 0 xs d ys
  reach : List ℕ
  whole : RunsToToken 0 xs d reach
  trail : Trivia reach ys

-- trivia with one more byte of whitespace are trivia
trivia_blank : {xs : List ℕ} (c : ℕ) (ys : List ℕ) → white c ≡ true → Trivia xs (c ∷ ys) → Trivia xs ys
trivia_blank c ys h Trivia.none = Trivia.blank h Trivia.none
trivia_blank c ys h (Trivia.blank k r) = Trivia.blank k (trivia_blank c ys h r)
trivia_blank c ys h (Trivia.comment q r) = Trivia.comment q (trivia_blank c ys h r)

-- trivia with one more comment are trivia
trivia_comment : {xs ys zs : List ℕ} → Comment ys zs → Trivia xs ys → Trivia xs zs
trivia_comment p Trivia.none = Trivia.comment p Trivia.none
trivia_comment p (Trivia.blank k r) = Trivia.blank k (trivia_comment p r)
trivia_comment p (Trivia.comment q r) = Trivia.comment q (trivia_comment p r)

-- how far a parameter is read, with one more token
sofar_token : {xs ys zs : List ℕ} {d e : ℕ} → Sofar xs d ys → Token d ys e zs → Sofar xs e zs
sofar_token {zs} s q = record { runs = Runs.token s.runs q; reach = zs; whole = RunsToToken.last s.runs q; trail = Trivia.none }

-- where a comma at depth 0 or the end is, the parameter ends
sofar_ends : {xs ys : List ℕ} {d : ℕ} → Sofar xs d ys → Bound d ys → Comes xs
sofar_ends {ys} {d} s b = Comes.found s.reach ys (record { depth = d; whole = s.whole; trails = Trails.shut s.trail; bounds = b })

-- what becomes of a parameter is known from all rests on that are shorter than ys
abbrev Later : List ℕ → List ℕ → Type 0
Later xs ys = (zs : List ℕ) → length zs < length ys → (e : ℕ) → Sofar xs e zs → Comes xs

-- what becomes of a parameter where a comma stands
comma_comes : (xs t : List ℕ) (d : ℕ) → Sofar xs d (44 ∷ t) → Later xs (44 ∷ t) → Comes xs
comma_comes xs t zero s ih = sofar_ends s Bound.comma
comma_comes xs t (suc d) s ih = ih t (omega arith) (suc d) (sofar_token s Token.nested)

-- what becomes of a parameter where a `)` stands
close_comes : (xs t : List ℕ) (d : ℕ) → Sofar xs d (41 ∷ t) → Later xs (41 ∷ t) → Comes xs
close_comes xs t zero s ih = ih t (omega arith) 0 (sofar_token s Token.stray)
close_comes xs t (suc d) s ih = ih t (omega arith) d (sofar_token s Token.closing)

-- what becomes of a parameter where a `"` stands
quote_comes : (xs t : List ℕ) (d : ℕ) → Sofar xs d (34 ∷ t) → Later xs (34 ∷ t) → Comes xs
quote_comes xs t d s ih = go (binary_ends t)
  where
    go : Shut t ⊎ Without 34 t → Comes xs
    go (inl q) = ih q.rest (omega (arith, simp length-append at (ap length q.shape))) d (sofar_token s (Token.binary (record { body = q.body; inside = q.inside; shape = cc q.shape })))
    go (inr i) = Comes.stuck (34 ∷ t) (Unclosed.binary s.runs ((t, refl), binary_unended i))

-- what becomes of a parameter where a byte stands that opens no string and no comment
byte_comes : (xs t : List ℕ) (c d : ℕ) → (c ≡ 39 → ⊥) → (OpensComment (c ∷ t) → ⊥) → Sofar xs d (c ∷ t) → Later xs (c ∷ t) → Comes xs
byte_comes xs t c d h k s ih = go (white c) (ℕ_discrete c 34) (ℕ_discrete c 40) (ℕ_discrete c 41) (ℕ_discrete c 44) refl
  where
    go : (w : Bool) → Dec (c ≡ 34) → Dec (c ≡ 40) → Dec (c ≡ 41) → Dec (c ≡ 44) → white c ≡ w → Comes xs
    go true p q r u e = ih t (omega arith) d (record { runs = Runs.blank s.runs e; reach = s.reach; whole = s.whole; trail = trivia_blank c t e s.trail })
    go false (yes p) q r u e = quote_comes xs t d (rw p at s) ih
    go false (no p) (yes q) r u e = let s' : Sofar xs d (40 ∷ t) = rw q at s in ih t (omega arith) (suc d) (sofar_token s' Token.opening)
    go false (no p) (no q) (yes r) u e = close_comes xs t d (rw r at s) ih
    go false (no p) (no q) (no r) (yes u) e = comma_comes xs t d (rw u at s) ih
    go false (no p) (no q) (no r) (no u) e =
        ih t (omega arith) d (sofar_token s (Token.byte (record { unblank = e; unquoted = h; unbinary = p; unopened = k; opening = q; closing = r; comma = u })))

-- what becomes of a parameter, by the token that stands next
comes_by : {ys : List ℕ} (xs : List ℕ) (d : ℕ) → ReadsAsTokens ys → Sofar xs d ys → Later xs ys → Comes xs
comes_by xs d ReadsAsTokens.end s ih = sofar_ends s Bound.end
comes_by xs d (ReadsAsTokens.byte {c} {t} h k r) s ih = byte_comes xs t c d h k s ih
comes_by xs d (ReadsAsTokens.string {zs} q r) s ih = ih zs (quotation_shorter q) d (sofar_token s (Token.string q))
comes_by xs d (ReadsAsTokens.comment {zs} q r) s ih = ih zs (comment_shorter q) d
    (record { runs = Runs.comment s.runs q; reach = s.reach; whole = s.whole; trail = trivia_comment q s.trail })
comes_by {ys} xs d (ReadsAsTokens.text q) s ih = Comes.stuck ys (Unclosed.text s.runs q)
comes_by xs d (ReadsAsTokens.remark q) s ih = Comes.found s.reach [] (record { depth = d; whole = s.whole; trails = Trails.unclosed s.trail q; bounds = Bound.end })

-- what becomes of a parameter from a rest of at most n bytes on
comes_to : (n : ℕ) (xs ys : List ℕ) (d : ℕ) → length ys ≤ n → Sofar xs d ys → Comes xs
comes_to zero xs ys d h s = comes_by xs d (tokens ys) s (λ zs k e u. absurd (omega arith))
comes_to (suc n) xs ys d h s = comes_by xs d (tokens ys) s (λ zs k e u. comes_to n xs zs e (omega arith) u)

-- every parameter ends, or a literal in it does not
comes : (xs : List ℕ) → Comes xs
comes xs = comes_to (length xs) xs xs 0 (omega arith) (record { runs = Runs.none; reach = xs; whole = RunsToToken.none; trail = Trivia.none })

-- what is cut is a parameter by the grammar
pub param_is : (xs z bound : List ℕ) → cut_of xs ≡ stops_before z bound → Parameter xs z bound
param_is xs z bound h = go (comes xs)
  where
    go : Comes xs → Parameter xs z bound
    go (Comes.found y b p) = let e : z ≡ y = cc (param_only p) in let f : bound ≡ b = cc (param_only p) in rw (e, f) p
    go (Comes.stuck o q) = clash (cc (unclosed_only q))

-- refusal 11 is given only where the grammar has a literal that never ends
pub unclosed_is : (xs o : List ℕ) → cut_of xs ≡ literal_open o → Unclosed xs o
unclosed_is xs o h = go (comes xs)
  where
    go : Comes xs → Unclosed xs o
    go (Comes.found y b p) = clash (cc (param_only p))
    go (Comes.stuck u q) = let e : o ≡ u = cc (unclosed_only q) in rw e q

-- from one start there is at most one parameter
pub param_one : {xs y z a b : List ℕ} → Parameter xs y a → Parameter xs z b → (y ≡ z) × (a ≡ b)
param_one p q = (cc (param_only p, param_only q), cc (param_only p, param_only q))

-- where a parameter starts by the grammar is where `started` has it
pub started_only : {xs ys : List ℕ} → Starts xs ys → started xs ≡ ys
unfolding started
started_only (Starts.led l) = ap runs_out (trivia_only l)
started_only (Starts.unclosed r q) = ap runs_out (trivia_open_only r q)

-- where `started` has a parameter, it starts by the grammar
pub started_is : (xs : List ℕ) → Starts xs (started xs)
unfolding started
started_is xs = go (trivia xs) refl
  where
    go : (a : Sought) → trivia xs ≡ a → Starts xs (runs_out a)
    go (at ys) e = Starts.led (trivia_is xs ys e)
    go (fault n o) e = let (h, r, q) = trivia_open xs o n e in Starts.unclosed r q

-- a parameter starts at one place at most
pub started_one : {xs ys zs : List ℕ} → Starts xs ys → Starts xs zs → ys ≡ zs
started_one h k = sym (started_only h) ∙ started_only k
