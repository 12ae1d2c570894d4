-- What document 01 means by a parameter, as rules of a grammar that name no loop. A rule speaks of the bytes up to the reader's end,
-- xs, and of the rest that is left of them. Strings, comments and trivia are the scan's (lex/specs/Grammar.antt). Right.antt shows that
-- ParameterEnd.antt computes just these, and that there is no other. Assumes nothing.
-- Definitions to be believed: no law, and nothing computed that no theorem ties (docs/BELIEVE.md).
use Rattle.std.specs.Prelude.{ℕ, suc, ◌≡◌, true, false, List, [], ◌∷◌, ◌++◌}
use Rattle.lex.specs.Byte.{white}
use Rattle.lex.specs.Grammar.{Begins, OpensComment, Comment, Quotation, Trivia, Led, OpenText, OpenRemark}

-- the byte does not occur in the list
abbrev pub Without : ℕ → List ℕ → Type 0
Without c b = (u v : List ℕ) → b ≡ u ++ (c ∷ v) → ⊥

-- "`"` opens a binary literal", which ends at the next `"`: xs begins with one, and r follows it
pub record Binary (xs r : List ℕ) : Type 0 where
  pub body : List ℕ
  pub inside : Without 34 body
  pub shape : xs ≡ 34 ∷ (body ++ (34 ∷ r))

-- a binary literal opens here, and none ends
abbrev pub OpenBinary : List ℕ → Type 0
OpenBinary xs = Begins 34 xs × ((r : List ℕ) → Binary xs r → ⊥)

-- a byte that is no trivia, opens nothing, is no parenthesis and no comma
pub record Ordinary (c : ℕ) (xs : List ℕ) : Type 0 where
  pub unblank : white c ≡ false
  pub unquoted : c ≡ 39 → ⊥
  pub unbinary : c ≡ 34 → ⊥
  pub unopened : OpensComment (c ∷ xs) → ⊥
  pub opening : c ≡ 40 → ⊥
  pub closing : c ≡ 41 → ⊥
  pub comma : c ≡ 44 → ⊥

-- one token that is no trivia and no comma at depth 0, from depth d to depth e
pub data Token : ℕ → List ℕ → ℕ → List ℕ → Type 0 where
  -- an ordinary byte
  byte : {d c : ℕ} {xs : List ℕ} → Ordinary c xs → Token d (c ∷ xs) d xs
  -- a comma of a nested list
  nested : {d : ℕ} {xs : List ℕ} → Token (suc d) (44 ∷ xs) (suc d) xs
  -- a whole string
  string : {d : ℕ} {xs ys : List ℕ} → Quotation xs ys → Token d xs d ys
  -- a whole binary literal
  binary : {d : ℕ} {xs ys : List ℕ} → Binary xs ys → Token d xs d ys
  -- a `(` leads one deeper
  opening : {d : ℕ} {xs : List ℕ} → Token d (40 ∷ xs) (suc d) xs
  -- a `)` of a nested list leads one up
  closing : {d : ℕ} {xs : List ℕ} → Token (suc d) (41 ∷ xs) d xs
  -- "A `)` at depth 0 leaves it 0."
  stray : {xs : List ℕ} → Token 0 (41 ∷ xs) 0 xs

-- from xs at depth d up to ys at depth e: tokens and trivia, and no comma at depth 0
pub data Runs : ℕ → List ℕ → ℕ → List ℕ → Type 0 where
  none : {d : ℕ} {xs : List ℕ} → Runs d xs d xs
  token : {d e f : ℕ} {xs ys zs : List ℕ} → Runs d xs e ys → Token e ys f zs → Runs d xs f zs
  blank : {d e c : ℕ} {xs ys : List ℕ} → Runs d xs e (c ∷ ys) → white c ≡ true → Runs d xs e ys
  comment : {d e : ℕ} {xs ys zs : List ℕ} → Runs d xs e ys → Comment ys zs → Runs d xs e zs

-- from xs at depth d up to ys at depth e no comma at depth 0, and what is read ends in no trivia: it is empty, or its last is a token
pub data RunsToToken : ℕ → List ℕ → ℕ → List ℕ → Type 0 where
  none : {d : ℕ} {xs : List ℕ} → RunsToToken d xs d xs
  last : {d e f : ℕ} {xs ys zs : List ℕ} → Runs d xs e ys → Token e ys f zs → RunsToToken d xs f zs

-- "trailing trivia", where "an open comment runs to the end"
pub data Trails : List ℕ → List ℕ → Type 0 where
  shut : {xs ys : List ℕ} → Trivia xs ys → Trails xs ys
  unclosed : {xs o : List ℕ} → Trivia xs o → OpenRemark o → Trails xs []

-- "runs to a comma at depth 0 or to the end": one of these stands here, at this depth
pub data Bound : ℕ → List ℕ → Type 0 where
  comma : {r : List ℕ} → Bound 0 (44 ∷ r)
  end : {d : ℕ} → Bound d []

-- "A parameter [..] runs to a comma at depth 0 or to the end; [..] trailing trivia is dropped": the parameter that starts with xs
-- stops before `stop`, and its comma or the end is at `bound`
pub record Parameter (xs stop bound : List ℕ) : Type 0 where
  pub depth : ℕ
  pub whole : RunsToToken 0 xs depth stop
  pub trails : Trails stop bound
  pub bounds : Bound depth bound

-- refusal 11, "literal open in a parameter": a string or a binary literal that is not closed by the reader's end opens at o
pub data Unclosed (xs o : List ℕ) : Type 0 where
  text : {d : ℕ} → Runs 0 xs d o → OpenText o → Unclosed xs o
  binary : {d : ℕ} → Runs 0 xs d o → OpenBinary o → Unclosed xs o

-- "A parameter starts after trivia", and an open comment runs to the end: ys is what is left there
pub data Starts : List ℕ → List ℕ → Type 0 where
  led : {xs ys : List ℕ} → Led xs ys → Starts xs ys
  unclosed : {xs o : List ℕ} → Trivia xs o → OpenRemark o → Starts xs []
