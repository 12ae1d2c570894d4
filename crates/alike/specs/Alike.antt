-- What it is for two files to be alike, where they are looked at: answers, parts of the file, records and lookups. Places are free:
-- bytes, kinds, values and refusal numbers are not. `Named` are the ids that matter: every id that the bytes name is one of them, and
-- of no other is anything asked. Assumes nothing.
use Rattle.std.specs.Prelude.{ℕ, ◌≤◌, ◌≡◌, refl, Bool, true, false, List, [], ◌∷◌, length, Option, None, Some}
use Rattle.std.proofs.Common.{ap}
use Rattle.common.specs.Pick.{pick}
use Rattle.error.specs.Refusal.{Refusal, Told, good, bad}
use Rattle.kinds.specs.declared.Kind.{Kind}
use Rattle.params.specs.Answer.{Span, onward}
use Rattle.lookup.specs.Lookup.{bytes_between}
use Rattle.factors.specs.SeenRecords.{good_by, same_kind, UnitPart, SeenRecord, first_unit_part, self_or}
use Rattle.factors.specs.Unit.{option_by}
use Rattle.alike.specs.Names.{Names}

-- "the same refusal number" (demand 3): two refusals with the same number and reason, wherever their places are
abbrev pub SameRefusal : Refusal → Refusal → Type 0
SameRefusal q q' = (q.number ≡ q'.number) × (q.reason ≡ q'.reason)

-- two answers: values that R holds of, or the same refusal
abbrev pub BothTold : {A B : Type 0} → (A → B → Type 0) → Told A → Told B → Type 0
BothTold R (good a) (good b) = R a b
BothTold R (good a) (bad q) = ⊥
BothTold R (bad q) (good b) = ⊥
BothTold R (bad q) (bad q') = SameRefusal q q'

-- two options: none, or two that R holds of
abbrev pub BothOption : {A B : Type 0} → (A → B → Type 0) → Option A → Option B → Type 0
BothOption R None None = Unit {0}
BothOption R None (Some b) = ⊥
BothOption R (Some a) None = ⊥
BothOption R (Some a) (Some b) = R a b

-- two lists: as many, and R holds of each two in order
abbrev pub BothList : {A B : Type 0} → (A → B → Type 0) → List A → List B → Type 0
BothList R [] [] = Unit {0}
BothList R [] (b ∷ m) = ⊥
BothList R (a ∷ l) [] = ⊥
BothList R (a ∷ l) (b ∷ m) = R a b × BothList R l m

-- "the same, or the same refusal number" (demand 3): two answers that are equal values, or the same refusal
abbrev pub SameTold : {A : Type 0} → Told A → Told A → Type 0
SameTold x y = BothTold (λ a b. a ≡ b) x y

-- two parts of the files s and s': each lies in its file and runs forwards, both have the same bytes, and these name no other ids
pub record AlikeSpan (Named : ℕ → Type 0) (s s' : List ℕ) (r r' : Span) : Type 0 where
  pub ordered : r.start ≤ r.stop
  pub within : r.stop ≤ length s
  pub ordered' : r'.start ≤ r'.stop
  pub within' : r'.stop ≤ length s'
  pub same : bytes_between s r.start r.stop ≡ bytes_between s' r'.start r'.stop
  pub names : (k : ℕ) → Names (bytes_between s r.start r.stop) k → Named k

-- two parts of complex records: the same kind, the same bytes
abbrev pub AlikePart : (ℕ → Type 0) → List ℕ → List ℕ → UnitPart → UnitPart → Type 0
AlikePart Named s s' p p' = (p.kind ≡ p'.kind) × AlikeSpan Named s s' p.run p'.run

-- two records: the same kind, the same bytes, and alike parts or the same fault in them
pub record AlikeRecord (Named : ℕ → Type 0) (s s' : List ℕ) (t t' : SeenRecord) : Type 0 where
  pub kind : t.kind ≡ t'.kind
  pub run : AlikeSpan Named s s' t.run t'.run
  pub parts : BothTold (BothList (AlikePart Named s s')) t.parts t'.parts

-- two records that were looked up: none, or two that are alike
abbrev pub AlikeFound : (ℕ → Type 0) → List ℕ → List ℕ → Told (Option SeenRecord) → Told (Option SeenRecord) → Type 0
AlikeFound Named s s' x y = BothTold (BothOption (AlikeRecord Named s s')) x y

-- two lookups: "each id then yields a record with the same keyword and argument bytes, or none as before", each of those that matter
pub record AlikeFind (Named : ℕ → Type 0) (s s' : List ℕ) (find find' : ℕ → Told (Option SeenRecord)) : Type 0 where
  pub found : (k : ℕ) → Named k → AlikeFound Named s s' (find k) (find' k)

-- all ids matter
abbrev pub Every : ℕ → Type 0
Every k = Unit {0}

-- ---- answers put together
-- an answer is the same as itself
pub same_refl : {A : Type 0} (x : Told A) → SameTold x x
same_refl (good a) = refl
same_refl (bad q) = (refl, refl)

-- answers that are equal are the same
pub same_of : {A : Type 0} (x y : Told A) → x ≡ y → SameTold x y
same_of x y e = rw (← e) (same_refl x)

module _ {A B : Type 0} (R : A → B → Type 0) where
  -- where a test picks of two answers on either side, what it picks is alike
  pub both_pick : (b : Bool) (x u : Told A) (y v : Told B) → BothTold R x y → BothTold R u v → BothTold R (pick b x u) (pick b y v)
  both_pick true x u y v h k = h
  both_pick false x u y v h k = k

  module _ {C D : Type 0} (Q : C → D → Type 0) where
    -- answers that are alike are alike when they are read on by functions that keep it so
    pub both_on : (f : A → Told C) (g : B → Told D) (x : Told A) (y : Told B) → BothTold R x y → ((a : A) (b : B) → R a b → BothTold Q (f a) (g b)) → BothTold Q (onward f x) (onward g y)
    both_on f g (good a) (good b) h k = k a b h
    both_on f g (good a) (bad q) h k = absurd h
    both_on f g (bad q) (good b) h k = absurd h
    both_on f g (bad q) (bad q') h k = h

    -- answers that are alike are alike by functions that keep it so
    pub both_by : (f : A → C) (g : B → D) (x : Told A) (y : Told B) → BothTold R x y → ((a : A) (b : B) → R a b → Q (f a) (g b)) → BothTold Q (good_by f x) (good_by g y)
    both_by f g (good a) (good b) h k = k a b h
    both_by f g (good a) (bad q) h k = absurd h
    both_by f g (bad q) (good b) h k = absurd h
    both_by f g (bad q) (bad q') h k = h

    -- what is made of two options that are alike is alike
    pub both_option : (o : C) (o' : D) (f : A → C) (g : B → D) (x : Option A) (y : Option B) → BothOption R x y → Q o o' → ((a : A) (b : B) → R a b → Q (f a) (g b)) → Q (option_by o f x) (option_by o' g y)
    both_option o o' f g None None h l k = l
    both_option o o' f g None (Some b) h l k = absurd h
    both_option o o' f g (Some a) None h l k = absurd h
    both_option o o' f g (Some a) (Some b) h l k = k a b h

    -- answers that may be none and are alike are alike when they are read on
    pub both_on_option : (o : Told C) (o' : Told D) (f : A → Told C) (g : B → Told D) (x : Told (Option A)) (y : Told (Option B)) → BothTold (BothOption R) x y → BothTold Q o o' → ((a : A) (b : B) → R a b → BothTold Q (f a) (g b)) → BothTold Q (onward (option_by o f) x) (onward (option_by o' g) y)
    both_on_option o o' f g (good None) (good None) h l k = l
    both_on_option o o' f g (good None) (good (Some b)) h l k = absurd h
    both_on_option o o' f g (good (Some a)) (good None) h l k = absurd h
    both_on_option o o' f g (good (Some a)) (good (Some b)) h l k = k a b h
    both_on_option o o' f g (good a) (bad q) h l k = absurd h
    both_on_option o o' f g (bad q) (good b) h l k = absurd h
    both_on_option o o' f g (bad q) (bad q') h l k = h

-- answers that are the same are the same when they are read on
pub same_on : {A B : Type 0} (f g : A → Told B) (x y : Told A) → SameTold x y → ((a : A) → SameTold (f a) (g a)) → SameTold (onward f x) (onward g y)
same_on f g x y h k = both_on (λ a b. a ≡ b) (λ a b. a ≡ b) f g x y h (λ a b e. rw (← e) (k a))

-- answers that are the same are the same when they are read on, where it is known what was read
pub same_on_read : {A B : Type 0} (f g : A → Told B) (x y : Told A) → SameTold x y → ((a : A) → x ≡ good a → SameTold (f a) (g a)) → SameTold (onward f x) (onward g y)
same_on_read f g (good a) (good b) h k = rw (← h) (k a refl)
same_on_read f g (good a) (bad q) h k = absurd h
same_on_read f g (bad q) (good b) h k = absurd h
same_on_read f g (bad q) (bad q') h k = h

-- answers that are the same are the same by a function
pub same_by : {A B : Type 0} (f : A → B) (x y : Told A) → SameTold x y → SameTold (good_by f x) (good_by f y)
same_by f x y h = both_by (λ a b. a ≡ b) (λ a b. a ≡ b) f f x y h (λ a b e. ap f e)

-- ---- records
module _ (Named : ℕ → Type 0) (s s' : List ℕ) where
  -- in two lists of alike parts, the arguments of the first part of a kind are alike
  pub first_alike : (k : Kind) (ps ps' : List UnitPart) → BothList (AlikePart Named s s') ps ps' → BothOption (AlikeSpan Named s s') (first_unit_part k ps) (first_unit_part k ps')
  first_alike k [] [] h = tt
  first_alike k [] (p ∷ ps) h = absurd h
  first_alike k (p ∷ ps) [] h = absurd h
  first_alike k (p ∷ ps) (p' ∷ ps') ((e, r), h) = rw (← e) (go (same_kind p.kind k) (first_alike k ps ps' h))
    where
      go : (b : Bool) → BothOption (AlikeSpan Named s s') (first_unit_part k ps) (first_unit_part k ps') → BothOption (AlikeSpan Named s s') (pick b (Some p.run) (first_unit_part k ps)) (pick b (Some p'.run) (first_unit_part k ps'))
      go true l = r
      go false l = l

  module _ (t t' : SeenRecord) (h : AlikeRecord Named s s' t t') where
    -- the arguments of the first part of a kind of two alike records are alike
    pub part_alike : (k : Kind) → BothTold (BothOption (AlikeSpan Named s s')) (good_by (first_unit_part k) t.parts) (good_by (first_unit_part k) t'.parts)
    part_alike k = both_by (BothList (AlikePart Named s s')) (BothOption (AlikeSpan Named s s')) (first_unit_part k) (first_unit_part k) t.parts t'.parts h.parts (first_alike k)

    -- the arguments of two alike records of a kind, or of their first parts of that kind, are alike
    pub self_alike : (k : Kind) → BothTold (BothOption (AlikeSpan Named s s')) (self_or k t) (self_or k t')
    self_alike k = rw (← h.kind) (both_pick (BothOption (AlikeSpan Named s s')) (same_kind t.kind k) (good (Some t.run)) (good_by (first_unit_part k) t.parts) (good (Some t'.run)) (good_by (first_unit_part k) t'.parts) h.run (part_alike k))
