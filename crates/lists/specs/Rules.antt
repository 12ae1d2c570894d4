-- Document 01, 'Parameters': items and lists as rules that name no loop. "A list is `(`..`)`; its inside is handed on as a part and
-- cut at depth-0 commas, items trimmed of whitespace only." A rule speaks of a list of bytes and of the parts it is put together
-- from; the byte `(` is 40, `)` is 41 and the comma 44. What an item's text reads as is a rule P of its own, so that a grid is the
-- rule of lists applied to itself. RulesRight.antt shows that Items.antt computes just this, and that there is no other answer.
-- Assumes nothing.
-- Definitions to be believed: no law, and nothing computed that no theorem ties (docs/BELIEVE.md).
use Rattle.std.specs.Prelude.{ℕ, suc, ◌+◌, ◌≡◌, List, [], ◌∷◌, ◌++◌, length}
use Rattle.record.specs.Form.{Gap, NoGapFirst, NoGapLast}
use Rattle.reals.specs.Answer.{Answer, read, refused}
use Rattle.params.specs.Grammar.{Parameter, Unclosed}
use Rattle.lists.specs.Answer.{Fate, fine, faulty, shifted, consed}

-- "cut at depth-0 commas": the item that begins xs ends before r, which is its comma and what follows, or nothing
pub data Ends : List ℕ → List ℕ → Type 0 where
  -- as a parameter ends: at the first comma at depth 0 outside strings, binary literals and comments, or at the end
  cut : {xs z r : List ℕ} → Parameter xs z r → Ends xs r
  -- a literal that is not closed runs to the end, as the Rust has it; no list has one, since its parameter would have been 11
  unclosed : {xs o : List ℕ} → Unclosed xs o → Ends xs []

-- "items trimmed of whitespace only": the item that begins xs is whitespace f, its text t and whitespace, up to r; an item of
-- whitespace alone stands after it
pub record Item (xs f t r : List ℕ) : Type 0 where
  pub back : List ℕ
  pub shape : xs ≡ (f ++ (t ++ back)) ++ r
  pub ends : Ends xs r
  pub before : Gap f
  pub after : Gap back
  pub first : NoGapFirst (t ++ back)
  pub last : NoGapLast t

-- what the items from xs on read as by the rule P: their values, or the first bad item's refusal, and how far into xs its place is
pub data Items {A : Type 0} (P : List ℕ → Fate A → Type 0) : List ℕ → Fate (List A) → Type 0 where
  -- the last item, which reads: its value alone
  last : {xs f t : List ℕ} {v : A} → Item xs f t [] → P t (fine v) → Items P xs (fine (v ∷ []))
  -- an item w, its comma, and the items after it
  next : (w : List ℕ) {f t r : List ℕ} {v : A} {a : Fate (List A)} → Item (w ++ (44 ∷ r)) f t (44 ∷ r) → P t (fine v) → Items P r a
      → Items P (w ++ (44 ∷ r)) (consed v (shifted (suc (length w)) a))
  -- "the first bad item gives 12 or 13", at the "item start"
  bad : {xs f t r : List ℕ} {n o : ℕ} → Item xs f t r → P t (faulty n o) → Items P xs (faulty n (length f + o))

-- "A list is `(`..`)`": what a text reads as, where P reads its items
pub data Listed {A : Type 0} (P : List ℕ → Fate A → Type 0) : List ℕ → Fate (List A) → Type 0 where
  -- "`()` has no item", nor has `( )`
  none : (b : List ℕ) → Gap b → Listed P (40 ∷ (b ++ (41 ∷ []))) (fine [])
  -- the items of a list's inside: "`(1,)` has two"
  items : (b : List ℕ) {a : Fate (List A)} → (Gap b → ⊥) → Items P b a → Listed P (40 ∷ (b ++ (41 ∷ []))) (shifted 1 a)
  -- what is no list is 12, at its start
  other : {t : List ℕ} → ((b : List ℕ) → t ≡ 40 ∷ (b ++ (41 ∷ [])) → ⊥) → Listed P t (faulty 12 0)

-- an item that is a scalar by the rule P: its refusal is at its start
pub data Scalar {A : Type 0} (P : List ℕ → Answer A → Type 0) : List ℕ → Fate A → Type 0 where
  value : {t : List ℕ} {a : A} → P t (read a) → Scalar P t (fine a)
  other : {t : List ℕ} {n : ℕ} → P t (refused n) → Scalar P t (faulty n 0)
