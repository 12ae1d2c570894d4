-- Laws of numbers in digits: of their parts, of one digit more at either end, and how large they are. Assumes nothing.
use Rattle.std.specs.Prelude.{ℕ, zero, suc, ◌+◌, ◌*◌, ◌^◌, ◌≤◌, ◌<◌, ◌≡◌, refl, List, [], ◌∷◌, ◌++◌, length, take, drop, get_or, set, replicate}
use Rattle.std.proofs.Common.{sym, ◌∙◌, ap, mul_assoc, arith, pow-add, take-append-drop, length-take-le, take-suc, drop-cons}
use Rattle.limbs.specs.Worth.{worth, LimbDigits}

-- one digit more is 32 binary digits more
pub power_more : (n : ℕ) → 2 ^ (32 * suc n) ≡ 4294967296 * 2 ^ (32 * n)
power_more n = let e : 32 * suc n ≡ 32 + 32 * n = omega arith in ap (λ (k : ℕ). 2 ^ k) e ∙ pow-add 2 32 (32 * n)

-- digits with others above them: the number of the lower, and that of the upper moved up past them
pub worth_append : (xs ys : List ℕ) → worth (xs ++ ys) ≡ worth xs + 2 ^ (32 * length xs) * worth ys
unfolding worth
worth_append [] ys = omega arith
worth_append (x ∷ xs) ys =
    ap (λ (n : ℕ). x + 4294967296 * n) (worth_append xs ys)
    ∙ put (2 ^ (32 * length xs)) (2 ^ (32 * suc (length xs))) (power_more (length xs))
  where
    put : (p q : ℕ) → q ≡ 4294967296 * p → x + 4294967296 * (worth xs + p * worth ys) ≡ x + 4294967296 * worth xs + q * worth ys
    put p q e = let m = mul_assoc 4294967296 p (worth ys) in rw e (omega arith)

-- a number by its lower n digits and those above
pub worth_split : (n : ℕ) (xs : List ℕ) → n ≤ length xs → worth xs ≡ worth (take n xs) + 2 ^ (32 * n) * worth (drop n xs)
worth_split n xs h =
    ap worth (sym (take-append-drop n xs))
    ∙ worth_append (take n xs) (drop n xs)
    ∙ ap (λ (k : ℕ). worth (take n xs) + 2 ^ (32 * k) * worth (drop n xs)) (length-take-le n xs h)

-- a single digit is the number itself
pub worth_one : (x : ℕ) → worth (x ∷ []) ≡ x
unfolding worth
worth_one x = omega arith

-- one digit more above i digits: their number, and that digit at its place
pub worth_take : (xs : List ℕ) (i : ℕ) → i < length xs → worth (take (suc i) xs) ≡ worth (take i xs) + 2 ^ (32 * i) * get_or xs i 0
worth_take xs i h =
    ap worth (take-suc xs i 0 h)
    ∙ worth_append (take i xs) (get_or xs i 0 ∷ [])
    ∙ ap (λ (k : ℕ). worth (take i xs) + 2 ^ (32 * k) * worth (get_or xs i 0 ∷ [])) (length-take-le i xs (omega arith))
    ∙ ap (λ (n : ℕ). worth (take i xs) + 2 ^ (32 * i) * n) (worth_one (get_or xs i 0))

-- one digit more below: the digit at i, and the number of those above moved up by one digit
pub worth_drop : (xs : List ℕ) (i : ℕ) → i < length xs → worth (drop i xs) ≡ get_or xs i 0 + 4294967296 * worth (drop (suc i) xs)
unfolding worth
worth_drop xs i h = ap worth (drop-cons xs i 0 h)

-- n digits of 32 binary digits make a number below 2 ^ (32 * n)
pub worth_lt : (xs : List ℕ) → LimbDigits xs → worth xs < 2 ^ (32 * length xs)
unfolding worth
worth_lt [] d = omega arith
worth_lt (x ∷ xs) d =
    let e = power_more (length xs) in
    let h : worth xs < 2 ^ (32 * length xs) = worth_lt xs (λ i. d (suc i)) in
    let l : x < 4294967296 = d 0 in
    omega arith

-- the lower n digits of a number are below 2 ^ (32 * n)
pub worth_take_lt : (n : ℕ) (xs : List ℕ) → LimbDigits xs → n ≤ length xs → worth (take n xs) < 2 ^ (32 * n)
unfolding worth
worth_take_lt zero xs d h = omega arith
worth_take_lt (suc n) [] d h = absurd (omega arith)
worth_take_lt (suc n) (x ∷ xs) d h =
    let e = power_more n in
    let k : worth (take n xs) < 2 ^ (32 * n) = worth_take_lt n xs (λ i. d (suc i)) (omega arith) in
    let l : x < 4294967296 = d 0 in
    omega arith

-- digits of which one is not 0 make a number that is not 0
pub worth_pos : (xs : List ℕ) (i : ℕ) → 0 < get_or xs i 0 → 0 < worth xs
unfolding worth
worth_pos [] i h = absurd (omega arith)
worth_pos (x ∷ xs) zero h = omega arith
worth_pos (x ∷ xs) (suc i) h = let p = worth_pos xs i h in omega arith

-- a number that is 0 has no digit other than 0
pub worth_zero : (xs : List ℕ) (i : ℕ) → worth xs ≡ 0 → get_or xs i 0 ≡ 0
unfolding worth
worth_zero [] i h = refl
worth_zero (x ∷ xs) zero h = omega arith
worth_zero (x ∷ xs) (suc i) h = worth_zero xs i (omega arith)

-- digits that are all 0 make 0
pub worth_none : (xs : List ℕ) → ((i : ℕ) → get_or xs i 0 ≡ 0) → worth xs ≡ 0
unfolding worth
worth_none [] h = refl
worth_none (x ∷ xs) h = let a : x ≡ 0 = h 0 in let b = worth_none xs (λ i. h (suc i)) in omega arith

-- the digits of a new array, all 0, make 0
pub worth_replicate : (n : ℕ) → worth (replicate n 0) ≡ 0
unfolding worth
worth_replicate zero = refl
worth_replicate (suc n) = let e = worth_replicate n in omega arith

-- digit i changed to v: the number changes by that digit's difference at its place
pub worth_set : (xs : List ℕ) (i v : ℕ) → i < length xs → worth (set xs i v) + 2 ^ (32 * i) * get_or xs i 0 ≡ worth xs + 2 ^ (32 * i) * v
unfolding worth
worth_set [] i v h = absurd (omega arith)
worth_set (x ∷ xs) zero v h = omega arith
worth_set (x ∷ xs) (suc i) v h =
    let g = get_or xs i 0 in
    let a : 2 ^ (32 * suc i) * g ≡ 4294967296 * 2 ^ (32 * i) * g = ap (λ (n : ℕ). n * g) (power_more i) in
    let b : 2 ^ (32 * suc i) * v ≡ 4294967296 * 2 ^ (32 * i) * v = ap (λ (n : ℕ). n * v) (power_more i) in
    let e = worth_set xs i v (omega arith) in
    omega arith
