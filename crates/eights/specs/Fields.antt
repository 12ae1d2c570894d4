-- A number as fields of s binary digits each, and what a mask, a sum and a test do to all fields at once. Stated for every s. Assumes nothing.
use Rattle.std.specs.Prelude.{ℕ, zero, suc, ◌+◌, ◌*◌, ◌/◌, ◌%◌, ◌^◌, ◌<◌, ◌≡◌, refl, List, [], ◌∷◌, length}
use Rattle.std.proofs.Common.{sym, ◌∙◌, ap, add_assoc, add-mul, add_comm, mod-eq_of_lt, zero-add, pow_pos}
use Rattle.std.proofs.Math.Nat.{add_left_comm, add-mul-div_right, mul-add-mod_self_right, div-eq_of_lt}
use Rattle.std.specs.Int.Bits.{bit_and, and_zero_l}
use Rattle.std.proofs.lemmas.Nat.{and_block}

-- P holds of each entry of a list
abbrev pub EachNumber : (ℕ → Type 0) → List ℕ → Type 0
EachNumber P [] = Unit {0}
EachNumber P (b ∷ bs) = P b × EachNumber P bs

-- where P gives Q, and P holds of each entry, Q does
pub each_map : {P Q : ℕ → Type 0} → ((b : ℕ) → P b → Q b) → (bs : List ℕ) → EachNumber P bs → EachNumber Q bs
each_map f [] h = tt
each_map f (b ∷ bs) h = (f b h.0, each_map f bs h.1)

-- where P and Q give R, and both hold of each entry, R does
pub each_two : {P Q R : ℕ → Type 0} → ((b : ℕ) → P b → Q b → R b) → (bs : List ℕ) → EachNumber P bs → EachNumber Q bs → EachNumber R bs
each_two f [] h k = tt
each_two f (b ∷ bs) h k = (f b h.0 k.0, each_two f bs h.1 k.1)

module _ (s : ℕ) where
  -- f of each entry, in fields of s binary digits, the first lowest
  abbrev pub fields_by : (ℕ → ℕ) → List ℕ → ℕ
  fields_by f [] = 0
  fields_by f (b ∷ bs) = fields_by f bs * 2 ^ s + f b

  -- n fields that are all v
  abbrev pub equal_fields : ℕ → ℕ → ℕ
  equal_fields v zero = 0
  equal_fields v (suc n) = equal_fields v n * 2 ^ s + v

  -- a mask that is the same in each field masks each field
  pub and_fields : (f : ℕ → ℕ) (v : ℕ) → v < 2 ^ s → (bs : List ℕ) → EachNumber (λ (b : ℕ). f b < 2 ^ s) bs → bit_and (fields_by f bs) (equal_fields v (length bs)) ≡ fields_by (λ (b : ℕ). bit_and (f b) v) bs
  and_fields f v l [] h = and_zero_l 0
  and_fields f v l (b ∷ bs) h =
      and_block s (fields_by f bs) (equal_fields v (length bs)) (f b) v h.0 l ∙ ap (λ (n : ℕ). n * 2 ^ s + bit_and (f b) v) (and_fields f v l bs h.1)

  -- v added to each field is one sum with v in each field
  pub sum_fields : (f : ℕ → ℕ) (v : ℕ) (bs : List ℕ) → fields_by f bs + equal_fields v (length bs) ≡ fields_by (λ (b : ℕ). f b + v) bs
  sum_fields f v [] = refl
  sum_fields f v (b ∷ bs) =
      sums (fields_by f bs) (equal_fields v (length bs)) (2 ^ s) (f b) v ∙ ap (λ (n : ℕ). n * 2 ^ s + (f b + v)) (sum_fields f v bs)
    where
      sums : (a b p u v : ℕ) → (a * p + u) + (b * p + v) ≡ (a + b) * p + (u + v)
      sums a b p u v =
          add_assoc (a * p) u (b * p + v) ∙ ap (λ (n : ℕ). a * p + n) (add_left_comm u (b * p) v) ∙ sym (add_assoc (a * p) (b * p) (u + v))
          ∙ ap (λ (n : ℕ). n + (u + v)) (sym (add-mul a b p))

  -- the lowest field of a number
  pub lowest_field : (x u : ℕ) → u < 2 ^ s → (x * 2 ^ s + u) % 2 ^ s ≡ u
  lowest_field x u h = mul-add-mod_self_right x (2 ^ s) u ∙ mod-eq_of_lt h

  -- the fields above the lowest of a number
  pub others : (x u : ℕ) → u < 2 ^ s → (x * 2 ^ s + u) / 2 ^ s ≡ x
  others x u h = ap (λ (n : ℕ). n / 2 ^ s) (add_comm (x * 2 ^ s) u) ∙ add-mul-div_right u x (pow_pos s) ∙ ap (λ (n : ℕ). n + x) (div-eq_of_lt h) ∙ zero-add x

  -- where the fields are u all together, each is u
  pub fields_same : (f : ℕ → ℕ) (u : ℕ) → u < 2 ^ s → (bs : List ℕ) → EachNumber (λ (b : ℕ). f b < 2 ^ s) bs → fields_by f bs ≡ equal_fields u (length bs) → EachNumber (λ (b : ℕ). f b ≡ u) bs
  fields_same f u l [] h e = tt
  fields_same f u l (b ∷ bs) h e =
      let x = fields_by f bs in
      let y = equal_fields u (length bs) in (
        sym (lowest_field x (f b) h.0) ∙ ap (λ (n : ℕ). n % 2 ^ s) e ∙ lowest_field y u l,
        fields_same f u l bs h.1 (sym (others x (f b) h.0) ∙ ap (λ (n : ℕ). n / 2 ^ s) e ∙ others y u l),
      )

  -- where each field is u, they are u all together
  pub same_fields : (f : ℕ → ℕ) (u : ℕ) (bs : List ℕ) → EachNumber (λ (b : ℕ). f b ≡ u) bs → fields_by f bs ≡ equal_fields u (length bs)
  same_fields f u [] h = refl
  same_fields f u (b ∷ bs) h = ap (λ (n : ℕ). n * 2 ^ s + f b) (same_fields f u bs h.1) ∙ ap (λ (n : ℕ). equal_fields u (length bs) * 2 ^ s + n) h.0

  -- entries that f and g agree on give the same fields
  pub fields_ap : {P : ℕ → Type 0} (f g : ℕ → ℕ) → ((b : ℕ) → P b → f b ≡ g b) → (bs : List ℕ) → EachNumber P bs → fields_by f bs ≡ fields_by g bs
  fields_ap f g k [] h = refl
  fields_ap f g k (b ∷ bs) h = ap (λ (n : ℕ). n * 2 ^ s + f b) (fields_ap f g k bs h.1) ∙ ap (λ (n : ℕ). fields_by g bs * 2 ^ s + n) (k b h.0)
