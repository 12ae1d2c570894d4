-- The digits of a text in the room, and the fraction that they stand for. Laws for the proofs; no promise names them. Assumes nothing.
use Rattle.std.specs.Prelude.{ℕ, ◌+◌, ◌-◌, ◌*◌, ◌^◌, ◌≤◌, ◌<◌, ◌≡◌, refl, Bool, false, List, ◌++◌, ltb, length, take, drop}
use Rattle.std.proofs.Common.{sym, ◌∙◌, ap, subst, mul_comm, mul-one, zero-add, arith, length-drop, length-take-le}
use Rattle.std.proofs.Math.Seq.{take-append-add}
use Rattle.std.proofs.lemmas.List.{take-append-le}
use Rattle.limbs.specs.Worth.{worth}
use Rattle.limbs.specs.Laws.{worth_append}
use Rattle.long_reals.specs.Digits.{digits_in, ReadAt, FirstAt}
use Rattle.long_reals.specs.Number.{number_in}
use Rattle.long_reals.specs.DigitsRight.{number_from_lem, number_lt, number_none, first_told}
use Rattle.long_reals.specs.RoomFraction.{MovedFraction}
use Rattle.long_reals.specs.Steps.{take_none, powers_joined}
use Rattle.long_reals.specs.declared.Filled.{Filled}

-- the part of the room from c on has as many digits as the room has above c
part_length : (xs : List ℕ) (c : ℕ) → length (take (length xs - c) (drop c xs)) ≡ length xs - c
part_length xs c = let d = length-drop c xs in length-take-le (length xs - c) (drop c xs) (omega arith)

-- digits that are read into the room above c digits that are 0 make their number moved up by c digits
pub digits_placed : (xs ys : List ℕ) (c u : ℕ) → worth xs ≡ 0 → c + u ≤ length xs → length ys ≡ length (take (length xs - c) (drop c xs))
    → worth (take (c + u) (take c xs ++ (ys ++ drop (length xs - c) (drop c xs)))) ≡ worth (take u ys) * 2 ^ (32 * c)
digits_placed xs ys c u z h l =
    let e = length-take-le c xs (omega arith) in
    let f = part_length xs c in
    let g = drop (length xs - c) (drop c xs) in
    ap (λ (k : ℕ). worth (take (k + u) (take c xs ++ (ys ++ g)))) (sym e)
    ∙ ap worth (take-append-add (take c xs) (ys ++ g) u)
    ∙ worth_append (take c xs) (take u (ys ++ g))
    ∙ ap (λ (k : ℕ). k + 2 ^ (32 * length (take c xs)) * worth (take u (ys ++ g))) (take_none c xs (omega arith) z)
    ∙ zero-add (2 ^ (32 * length (take c xs)) * worth (take u (ys ++ g)))
    ∙ ap (λ (k : ℕ). 2 ^ (32 * k) * worth (take u (ys ++ g))) e
    ∙ ap (λ (s : List ℕ). 2 ^ (32 * c) * worth s) (take-append-le u ys g (omega arith))
    ∙ mul_comm (2 ^ (32 * c)) (worth (take u ys))

-- where all digits are read, the room has the number
pub read_all : (t : List ℕ) (i n : ℕ) (a : List ℕ) (r : Filled) → n ≡ digits_in (drop i t) → ReadAt t i n a r → worth (take r.used a) ≡ number_in 0 (drop i t)
read_all t i n a r e h = let q = h.rest in sym (number_none (worth (take r.used a)) (drop r.next t) (omega arith)) ∙ h.value

-- a whole number moved up by s stands for its fraction by 10 ^ k, with nothing left out
pub scaled_whole : (num n s k : ℕ) → n ≡ num * 2 ^ s → MovedFraction num (10 ^ k) n s k false
scaled_whole num n s k e = record {
  group = 1;
  tail = 0;
  divisor = sym (mul-one (10 ^ k));
  whole = sym e ∙ put;
  below = omega arith;
  left = refl;
}
  where
    put : n ≡ n * 1 + 0
    put = omega arith

-- what is said of the digits that are not read: whether one other than `0` was found
abbrev pub asked : List ℕ → ℕ → Bool
asked t j = ltb j (length t)

-- all but the last k - 1075 digits are read: these are the tail, and whether all are `0` is asked
pub scaled_cut : (t : List ℕ) (i n k : ℕ) (a : List ℕ) (r : Filled) (j : ℕ) → n ≡ digits_in (drop i t) → 1075 < k → k ≤ n + 1075 → ReadAt t i (n - (k - 1075)) a r → FirstAt t r.next j → MovedFraction (number_in 0 (drop i t)) (10 ^ k) (worth (take r.used a)) 0 1075 (asked t j)
scaled_cut t i n k a r j e l m h f =
    let q = h.rest in
    let d : digits_in (drop r.next t) ≡ k - 1075 = omega arith in
    record {
      group = 10 ^ (k - 1075);
      tail = number_in 0 (drop r.next t);
      divisor = sym (powers_joined 10 1075 (k - 1075) k (omega arith));
      whole =
          mul-one (number_in 0 (drop i t))
          ∙ sym h.value
          ∙ number_from_lem (worth (take r.used a)) (drop r.next t)
          ∙ ap (λ (x : ℕ). worth (take r.used a) * 10 ^ x + number_in 0 (drop r.next t)) d;
      below = subst (λ (x : ℕ). number_in 0 (drop r.next t) < 10 ^ x) d (number_lt (drop r.next t));
      left = first_told t r.next j f;
    }
