-- The unit answer of a file depends on the lookup and on the unit contexts in order alone; and where those of two files are alike, it is
-- the same, bit for bit, or the same refusal number (demand 3). Assumes nothing.
use Rattle.std.specs.Prelude.{ℕ, ◌≡◌, Bool, true, false, Option, Some}
use Rattle.std.proofs.Math.Path.{refl}
use Rattle.std.proofs.Common.{sym, ◌∙◌, ap}
use mathlib.Core.List.{List, [], ◌∷◌}
use Rattle.common.specs.Pick.{pick}
use Rattle.common.specs.Compare.{clash}
use Rattle.error.specs.Refusal.{Told, good, bad}
use Rattle.kinds.specs.declared.Kind.TheVariants.{GeometricRepresentationContext}
use Rattle.params.specs.Answer.{onward}
use Rattle.factors.specs.SeenRecords.{good_by, same_kind, UnitPart, SeenRecord, first_unit_part}
use Rattle.units.specs.Answer.{Units, reads_integer, is_context}
use Rattle.units.specs.Units.{context_of, decided_or, context_or_later, resolve_of}
use Rattle.alike.specs.Alike.{BothTold, BothList, SameTold, AlikeRecord, AlikeFind, same_refl, both_pick, both_on, same_on}
use Rattle.alike.specs.Answers.{is_context_alike, context_alike}

-- an answer says that a record is a context; a refusal says that it is none
abbrev pub told_true : Told Bool → Bool
told_true (good b) = b
told_true (bad q) = false

-- the unit contexts among the records, in order
unfoldable pub contexts_of : List ℕ → List (Told SeenRecord) → List (Told SeenRecord)
contexts_of s [] = []
contexts_of s (t ∷ ts) = pick (told_true (onward (is_context s) t)) (t ∷ contexts_of s ts) (contexts_of s ts)

-- of each record it is told, without a refusal, whether it is a context
abbrev pub ContextsAsked : List ℕ → List (Told SeenRecord) → Type 0
ContextsAsked s [] = Unit {0}
ContextsAsked s (t ∷ ts) = ((b : Bool) × (onward (is_context s) t ≡ good b)) × ContextsAsked s ts

-- all records can be had without a refusal, and so can their parts
abbrev pub Sound : List (Told SeenRecord) → Type 0
Sound [] = Unit {0}
Sound (good t ∷ ts) = ((ps : List UnitPart) × (t.parts ≡ good ps)) × Sound ts
Sound (bad q ∷ ts) = ⊥

-- where a record's parts can be had, it is told whether it is a context
pub context_told : (s : List ℕ) (t : SeenRecord) (ps : List UnitPart) → t.parts ≡ good ps → (b : Bool) × (is_context s t ≡ good b)
unfolding is_context
context_told s t ps e = rw e (go (same_kind t.kind GeometricRepresentationContext))
  where
    go : (c : Bool) → (b : Bool) × (good_by (reads_integer s) (pick c (good (Some t.run)) (good (first_unit_part GeometricRepresentationContext ps))) ≡ good b)
    go true = (reads_integer s (Some t.run), refl)
    go false = (reads_integer s (first_unit_part GeometricRepresentationContext ps), refl)

-- where all records and their parts can be had, it is told of each whether it is a context
pub sound_asked : (s : List ℕ) (ts : List (Told SeenRecord)) → Sound ts → ContextsAsked s ts
sound_asked s [] h = tt
sound_asked s (good t ∷ ts) ((ps, e), h) = (context_told s t ps e, sound_asked s ts h)
sound_asked s (bad q ∷ ts) h = absurd h

-- two alike records are both contexts, or neither
pub context_same : {Named : ℕ → Type 0} {s s' : List ℕ} {t t' : SeenRecord} → AlikeRecord Named s s' t t' → (b : Bool) → is_context s t ≡ good b → is_context s' t' ≡ good b
context_same {Named} {s} {s'} {t} {t'} h b e = go (is_context s t) (is_context s' t') (is_context_alike h) e
  where
    go : (x y : Told Bool) → SameTold x y → x ≡ good b → y ≡ good b
    go (good c) (good d) k l = rw (← k) l
    go (good c) (bad q) k l = absurd k
    go (bad q) (good d) k l = absurd k
    go (bad q) (bad q') k l = clash (cc)

-- among no records there is no context
contexts_none : (s : List ℕ) → contexts_of s [] ≡ []
unfolding contexts_of
contexts_none s = refl

module _ (s : List ℕ) (t : SeenRecord) (ts : List (Told SeenRecord)) where
  -- a record in front that is a context is the first of the contexts
  contexts_yes : is_context s t ≡ good true → contexts_of s (good t ∷ ts) ≡ good t ∷ contexts_of s ts
  unfolding contexts_of
  contexts_yes e = rw e refl

  -- a record in front that is no context is none of the contexts
  contexts_no : is_context s t ≡ good false → contexts_of s (good t ∷ ts) ≡ contexts_of s ts
  unfolding contexts_of
  contexts_no e = rw e refl

  module _ (find : ℕ → Told (Option SeenRecord)) where
    -- a record in front that is a context decides the unit answer, or those after it do
    resolve_yes : is_context s t ≡ good true → resolve_of s find (good t ∷ ts) ≡ onward (decided_or s find (λ u. resolve_of s find ts)) (context_of s find t)
    unfolding resolve_of
    resolve_yes e = rw e refl

    -- a record in front that is no context decides nothing of the unit answer
    resolve_no : is_context s t ≡ good false → resolve_of s find (good t ∷ ts) ≡ resolve_of s find ts
    unfolding resolve_of
    resolve_no e = rw e refl

-- "The first, superseded ones included, whose units give a length factor decides": the answer depends on the lookup and on the contexts
-- in order alone
pub resolve_contexts : (s : List ℕ) (find : ℕ → Told (Option SeenRecord)) (ts : List (Told SeenRecord)) → ContextsAsked s ts → resolve_of s find ts ≡ resolve_of s find (contexts_of s ts)
resolve_contexts s find [] h = rw (contexts_none s) refl
resolve_contexts s find (bad q ∷ ts) ((b, e), h) = clash (cc)
resolve_contexts s find (good t ∷ ts) ((true, e), h) =
    resolve_yes s t ts find e
    ∙ ap (λ (x : Told Units). onward (decided_or s find (λ u. x)) (context_of s find t)) (resolve_contexts s find ts h)
    ∙ sym (resolve_yes s t (contexts_of s ts) find e)
    ∙ ap (resolve_of s find) (sym (contexts_yes s t ts e))
resolve_contexts s find (good t ∷ ts) ((false, e), h) =
    resolve_no s t ts find e ∙ resolve_contexts s find ts h ∙ ap (resolve_of s find) (sym (contexts_no s t ts e))

module _ {Named : ℕ → Type 0} {s s' : List ℕ} {find find' : ℕ → Told (Option SeenRecord)} (finds : AlikeFind Named s s' find find') where
  -- what two alike records make of the unit answer is the same, where what comes after them is
  record_alike : (k l : Unit {0} → Told Units) → SameTold (k tt) (l tt) → (t t' : SeenRecord) → AlikeRecord Named s s' t t' → SameTold (context_or_later s find k t) (context_or_later s' find' l t')
  record_alike k l e t t' h = same_on (λ c. pick c (onward (decided_or s find k) (context_of s find t)) (k tt)) (λ c. pick c (onward (decided_or s' find' l) (context_of s' find' t')) (l tt)) (is_context s t) (is_context s' t') (is_context_alike h)
      (λ c. both_pick (λ a b. a ≡ b) c (onward (decided_or s find k) (context_of s find t)) (k tt) (onward (decided_or s' find' l) (context_of s' find' t')) (l tt)
      (same_on (decided_or s find k) (decided_or s' find' l) (context_of s find t) (context_of s' find' t') (context_alike finds h)
      (λ u. both_pick (λ a b. a ≡ b) u.resolved (good u) (k tt) (good u) (l tt) (same_refl (good u)) e))
      e)

  -- records that are alike, two by two in order, give the same answer
  pub resolve_alike : (ts ts' : List (Told SeenRecord)) → BothList (BothTold (AlikeRecord Named s s')) ts ts' → SameTold (resolve_of s find ts) (resolve_of s' find' ts')
  unfolding resolve_of
  resolve_alike [] [] h = refl
  resolve_alike [] (t ∷ ts) h = absurd h
  resolve_alike (t ∷ ts) [] h = absurd h
  resolve_alike (t ∷ ts) (t' ∷ ts') (a, h) =
      both_on (AlikeRecord Named s s') (λ a b. a ≡ b) (context_or_later s find (λ u. resolve_of s find ts)) (context_or_later s' find' (λ u. resolve_of s' find' ts')) t t' a
      (record_alike (λ u. resolve_of s find ts) (λ u. resolve_of s' find' ts') (resolve_alike ts ts' h))

  -- "the unit answer is the same, or the same refusal number" (demand 3): for two files whose unit contexts are alike, two by two in order
  pub resolve_same : (ts ts' : List (Told SeenRecord)) → ContextsAsked s ts → ContextsAsked s' ts' → BothList (BothTold (AlikeRecord Named s s')) (contexts_of s ts) (contexts_of s' ts')
      → SameTold (resolve_of s find ts) (resolve_of s' find' ts')
  resolve_same ts ts' a a' h = rw (resolve_contexts s find ts a, resolve_contexts s' find' ts' a') (resolve_alike (contexts_of s ts) (contexts_of s' ts') h)
