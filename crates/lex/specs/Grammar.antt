-- What ISO 10303-21 and document 01 mean by a comment, trivia, a string, a record's end and a closing parenthesis, as rules of
-- a grammar that name no loop. A rule speaks of a list of bytes, xs, and of the rest that is left of it.
-- Right.antt shows that the searches of Search.antt find just these, and that there is no other.
-- Assumes nothing.
-- Definitions to be believed: no law, and nothing computed that no theorem ties (docs/BELIEVE.md).
use Rattle.std.specs.Prelude.{ℕ, suc, ◌≡◌, true, List, [], ◌∷◌, ◌++◌}
use Rattle.lex.specs.Byte.{white}

-- the list begins with this byte
abbrev pub Begins : ℕ → List ℕ → Type 0
Begins c xs = (r : List ℕ) × (xs ≡ c ∷ r)

-- the list begins with a slash and a star, which open a comment
abbrev pub OpensComment : List ℕ → Type 0
OpensComment xs = (r : List ℕ) × (xs ≡ 47 ∷ 42 ∷ r)

-- no `*/` begins in b, when a `*` follows b
abbrev pub Remarked : List ℕ → Type 0
Remarked b = (u v : List ℕ) → b ++ (42 ∷ []) ≡ u ++ (42 ∷ 47 ∷ v) → ⊥

-- "A comment runs from `/*` to the first `*/` that begins after it": xs begins with a comment, and r follows it
pub record Comment (xs r : List ℕ) : Type 0 where
  pub body : List ℕ
  pub first : Remarked body
  pub shape : xs ≡ 47 ∷ 42 ∷ (body ++ (42 ∷ 47 ∷ r))

-- the inside of a string: any bytes but quotes, and pairs of quotes, as ISO 10303-21 doubles them and the Rust pairs them
pub data Inside : List ℕ → Type 0 where
  none : Inside []
  other : {c : ℕ} {b : List ℕ} → (c ≡ 39 → ⊥) → Inside b → Inside (c ∷ b)
  doubled : {b : List ℕ} → Inside b → Inside (39 ∷ 39 ∷ b)

-- "A string ends at a quote not followed by a quote", the quotes inside it paired off first: xs begins with a string, and r follows it
pub record Quotation (xs r : List ℕ) : Type 0 where
  pub body : List ℕ
  pub inside : Inside body
  pub shape : xs ≡ 39 ∷ (body ++ (39 ∷ r))
  pub single : Begins 39 r → ⊥

-- "Trivia is any run of both [whitespace and comments]": from xs up to ys
pub data Trivia : List ℕ → List ℕ → Type 0 where
  none : {xs : List ℕ} → Trivia xs xs
  blank : {c : ℕ} {xs ys : List ℕ} → white c ≡ true → Trivia xs ys → Trivia (c ∷ xs) ys
  comment : {xs zs ys : List ℕ} → Comment xs zs → Trivia zs ys → Trivia xs ys

-- "A record starts at the first non-trivia byte": what is left begins with no whitespace and no comment
pub record Led (xs ys : List ℕ) : Type 0 where
  pub before : Trivia xs ys
  pub unblank : (c : ℕ) → white c ≡ true → Begins c ys → ⊥
  pub unopened : OpensComment ys → ⊥

-- from xs up to ys: all strings and comments whole, and no `;` outside them
pub data RecordRuns : List ℕ → List ℕ → Type 0 where
  none : {xs : List ℕ} → RecordRuns xs xs
  byte : {c : ℕ} {xs ys : List ℕ} → (c ≡ 59 → ⊥) → (c ≡ 39 → ⊥) → (OpensComment (c ∷ xs) → ⊥) → RecordRuns xs ys → RecordRuns (c ∷ xs) ys
  string : {xs zs ys : List ℕ} → Quotation xs zs → RecordRuns zs ys → RecordRuns xs ys
  comment : {xs zs ys : List ℕ} → Comment xs zs → RecordRuns zs ys → RecordRuns xs ys

-- "ends at the first `;` outside strings and comments": the record that starts with xs ends at that `;`, and r follows it
abbrev pub RecordEnds : List ℕ → List ℕ → Type 0
RecordEnds xs r = RecordRuns xs (59 ∷ r)

-- balanced bytes from xs up to ys: each parenthesis outside strings and comments has its partner
pub data Balanced : List ℕ → List ℕ → Type 0 where
  none : {xs : List ℕ} → Balanced xs xs
  byte : {c : ℕ} {xs ys : List ℕ} → (c ≡ 40 → ⊥) → (c ≡ 41 → ⊥) → (c ≡ 39 → ⊥) → (OpensComment (c ∷ xs) → ⊥) → Balanced xs ys → Balanced (c ∷ xs) ys
  string : {xs zs ys : List ℕ} → Quotation xs zs → Balanced zs ys → Balanced xs ys
  comment : {xs zs ys : List ℕ} → Comment xs zs → Balanced zs ys → Balanced xs ys
  group : {xs zs ys : List ℕ} → Balanced xs (41 ∷ zs) → Balanced zs ys → Balanced (40 ∷ xs) ys

-- "The closing `)`" of a `(`: xs follows the `(`, balanced bytes lead up to the `)`, and r follows it
abbrev pub Closes : List ℕ → List ℕ → Type 0
Closes xs r = Balanced xs (41 ∷ r)

-- from xs up to ys all strings and comments are whole, and d parentheses are open that were opened on the way: balanced bytes
-- and a `(` for each of them, and balanced bytes again
pub data Deep : ℕ → List ℕ → List ℕ → Type 0 where
  flat : {xs ys : List ℕ} → Balanced xs ys → Deep 0 xs ys
  nested : {d : ℕ} {xs zs ys : List ℕ} → Balanced xs (40 ∷ zs) → Deep d zs ys → Deep (suc d) xs ys

-- refusal 4, "string open": a string opens here, and none ends
abbrev pub OpenText : List ℕ → Type 0
OpenText xs = Begins 39 xs × ((r : List ℕ) → Quotation xs r → ⊥)

-- refusal 3, "comment open": a comment opens here, and none ends
abbrev pub OpenRemark : List ℕ → Type 0
OpenRemark xs = OpensComment xs × ((r : List ℕ) → Comment xs r → ⊥)
