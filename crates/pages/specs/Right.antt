-- What is computed of pages is what the rules give, and nothing else is; and the rule over all nine tables: each entry is a Unicode scalar, and
-- page A is the identity. Assumes nothing.
use Rattle.std.specs.Prelude.{ℕ, zero, suc, ◌+◌, ◌-◌, ◌≤◌, ◌<◌, ◌≡◌, refl, Bool, true, false, ◌&&◌, ◌||◌, List, [], ◌∷◌, eqb, leb, ltb, length, get_or}
use Rattle.std.proofs.Common.{sym, ◌∙◌, ap, subst, arith, le-leb, le-ltb, ltb-true, ltb-false, eqb-true}
use Rattle.std.proofs.Math.Decide.{dec_lt}
use Rattle.std.proofs.lemmas.Bool.{lt-leb}
use Rattle.std.proofs.Math.ListN.{get_or-eq_default}
use Rattle.std.proofs.lemmas.List.{get_or_default}
use Rattle.common.specs.Pick.{pick}
use Rattle.common.specs.Tests.{both, in_range, neither}
use Rattle.utf8.specs.Utf8.{scalar}
use Rattle.utf8.specs.Laws.{scalar_low}
use Rattle.utf8.specs.Rfc3629.{In}
use Rattle.pages.specs.Tables
use Rattle.pages.specs.Pages.{page_of, code_of}
use Rattle.pages.specs.Rules.{page_a}
use Rattle.pages.specs.Rules

-- ---- tests of a range
-- a number outside a range fails its test
beyond : (l h n : ℕ) → (In l h n → ⊥) → leb l n && leb n h ≡ false
beyond l h n f = go (dec_lt n l) (dec_lt h n)
  where
    go : Dec (n < l) → Dec (h < n) → leb l n && leb n h ≡ false
    go (yes a) _ = rw (lt-leb l n a) refl
    go (no a) (yes b) = rw (le-leb l n (omega arith), lt-leb n h b) refl
    go (no a) (no b) = absurd (f (omega arith, omega arith))

-- a number is of a range or not
within : (l h n : ℕ) → Dec (In l h n)
within l h n = go (dec_lt n l) (dec_lt h n)
  where
    go : Dec (n < l) → Dec (h < n) → Dec (In l h n)
    go (yes a) _ = no (λ (p, q). omega arith)
    go (no a) (yes b) = no (λ (p, q). omega arith)
    go (no a) (no b) = yes (omega arith, omega arith)

-- ---- the page of a letter
-- the page that is computed of a letter is the one that is selected
pub page_is : (b : ℕ) → Rules.Selects b (page_of b)
page_is b = go (within 65 73 b) (within 97 105 b)
  where
    go : Dec (In 65 73 b) → Dec (In 97 105 b) → Rules.Selects b (page_of b)
    go (yes (l, h)) _ =
        let e : 65 + (b - 65) ≡ b = omega arith in
        rw (in_range 65 b 73 l h) (subst (λ (z : ℕ). Rules.Selects z (b - 65)) e (Rules.capital {p = b - 65} (omega arith)))
    go (no n) (yes (l, h)) =
        let e : 97 + (b - 97) ≡ b = omega arith in
        rw (beyond 65 73 b n, in_range 97 b 105 l h) (subst (λ (z : ℕ). Rules.Selects z (b - 97)) e (Rules.small {p = b - 97} (omega arith)))
    go (no n) (no m) = rw (beyond 65 73 b n, beyond 97 105 b m) (Rules.other n m)

-- no page but the one that is computed is selected by a letter
pub page_only : {b p : ℕ} → Rules.Selects b p → p ≡ page_of b
page_only (Rules.capital {p = p} h) =
    let e : p ≡ 65 + p - 65 = omega arith in
    rw (in_range 65 (65 + p) 73 (omega arith) (omega arith)) e
page_only (Rules.small {p = p} h) =
    let e : p ≡ 97 + p - 97 = omega arith in
    rw (beyond 65 73 (97 + p) (λ (a, b). omega arith), in_range 97 (97 + p) 105 (omega arith) (omega arith)) e
page_only (Rules.other {b = b} n m) = rw (beyond 65 73 b n, beyond 97 105 b m) refl

-- the page that is computed of a letter is one of nine
pub page_below : (b : ℕ) → page_of b < 9
page_below b = go (page_is b)
  where
    go : {a p : ℕ} → Rules.Selects a p → p < 9
    go (Rules.capital h) = h
    go (Rules.small h) = h
    go (Rules.other n m) = omega arith

-- ---- the character of a sum
-- the character that is computed of a sum on a page is the one of the rule
pub code_is : (p n : ℕ) → Rules.Coded p n (code_of p n)
code_is p n = go (within 0xA0 0xFF n)
  where
    go : Dec (In 0xA0 0xFF n) → Rules.Coded p n (code_of p n)
    go (yes h) = rw (in_range 0xA0 n 0xFF h.0 h.1) (Rules.listed h)
    go (no h) = rw (beyond 0xA0 0xFF n h) (Rules.outside h)

-- no character but the one that is computed is a sum's on a page
pub code_only : {p n c : ℕ} → Rules.Coded p n c → c ≡ code_of p n
code_only (Rules.listed {n = n} h) = rw (in_range 0xA0 n 0xFF h.0 h.1) refl
code_only (Rules.outside {n = n} h) = rw (beyond 0xA0 0xFF n h) refl

-- ---- the rule over all nine tables
-- a test passes at each number of a list
abbrev each : (ℕ → Bool) → List ℕ → Bool
each f [] = true
each f (x ∷ xs) = f x && each f xs

-- the numbers of a list count on from one
abbrev counts : ℕ → List ℕ → Bool
counts i [] = true
counts i (x ∷ xs) = eqb x i && counts (suc i) xs

-- every table passes a test
abbrev pub every_table : (List ℕ → Bool) → List (List ℕ) → Bool
every_table f [] = true
every_table f (x ∷ xs) = f x && every_table f xs

-- a test that passes at each number of a list passes at each place, and past the end where it passes at what stands for none
each_at : (f : ℕ → Bool) (xs : List ℕ) (k d : ℕ) → each f xs ≡ true → f d ≡ true → f (get_or xs k d) ≡ true
each_at f [] k d e h = h
each_at f (x ∷ xs) zero d e h = (both (f x) (each f xs) e).0
each_at f (x ∷ xs) (suc k) d e h = each_at f xs k d (both (f x) (each f xs) e).1 h

-- entry k of a list that counts on from i is i + k
counts_at : (i : ℕ) (xs : List ℕ) (k d : ℕ) → counts i xs ≡ true → k < length xs → get_or xs k d ≡ i + k
counts_at i [] k d e h = absurd (omega arith)
counts_at i (x ∷ xs) zero d e h = let z = eqb-true x i (both (eqb x i) (counts (suc i) xs) e).0 in omega arith
counts_at i (x ∷ xs) (suc k) d e h = let z = counts_at (suc i) xs k d (both (eqb x i) (counts (suc i) xs) e).1 (omega arith) in omega arith

-- a test that every table passes is passed by the table at k, and past the last by what stands for none
every_at : (f : List ℕ → Bool) (xs : List (List ℕ)) (k : ℕ) → every_table f xs ≡ true → f [] ≡ true → f (get_or xs k []) ≡ true
every_at f [] k e h = h
every_at f (x ∷ xs) zero e h = (both (f x) (every_table f xs) e).0
every_at f (x ∷ xs) (suc k) e h = every_at f xs k (both (f x) (every_table f xs) e).1 h

-- every number of every table is a Unicode scalar: tried one by one
all_scalar : every_table (each scalar) Tables.pages ≡ true
unfolding Tables.pages Tables.latin1 Tables.latin2 Tables.latin3 Tables.latin4 Tables.cyrillic Tables.arabic Tables.greek Tables.hebrew Tables.latin5
all_scalar = refl

-- "One rule over all nine tables: each entry is a Unicode scalar"
pub entry_scalar : (p n : ℕ) → scalar (Tables.page_entry p n) ≡ true
unfolding Tables.page_entry
entry_scalar p n = each_at scalar (get_or Tables.pages p []) (n - 0xA0) 0xFFFD (every_at (each scalar) Tables.pages p all_scalar refl) refl

-- a number has at most 16 bits
abbrev narrow : ℕ → Bool
narrow x = ltb x 0x1_0000

-- every number of every table has at most 16 bits: tried one by one
all_narrow : every_table (each narrow) Tables.pages ≡ true
unfolding Tables.pages Tables.latin1 Tables.latin2 Tables.latin3 Tables.latin4 Tables.cyrillic Tables.arabic Tables.greek Tables.hebrew Tables.latin5
all_narrow = refl

-- each entry of the tables has at most 16 bits
pub entry_below : (p n : ℕ) → Tables.page_entry p n < 0x1_0000
unfolding Tables.page_entry
entry_below p n = ltb-true (Tables.page_entry p n) 0x1_0000 (each_at narrow (get_or Tables.pages p []) (n - 0xA0) 0xFFFD (every_at (each narrow) Tables.pages p all_narrow refl) refl)

-- a table has 96 codes
abbrev pub has_all_codes : List ℕ → Bool
has_all_codes t = eqb (length t) 96

-- there are nine tables, and each has 96 codes
pub all_whole : (length Tables.pages ≡ 9) × (every_table has_all_codes Tables.pages ≡ true)
unfolding Tables.pages Tables.latin1 Tables.latin2 Tables.latin3 Tables.latin4 Tables.cyrillic Tables.arabic Tables.greek Tables.hebrew Tables.latin5
all_whole = (refl, refl)

-- a test that every table passes is passed by the table at k, where there is one
every_in : (f : List ℕ → Bool) (xs : List (List ℕ)) (k : ℕ) → every_table f xs ≡ true → k < length xs → f (get_or xs k []) ≡ true
every_in f [] k e h = absurd (omega arith)
every_in f (x ∷ xs) zero e h = (both (f x) (every_table f xs) e).0
every_in f (x ∷ xs) (suc k) e h = every_in f xs k (both (f x) (every_table f xs) e).1 (omega arith)

-- a page from number 9 on comes after the last
past : (p : ℕ) → 9 ≤ p → length Tables.pages ≤ p
past p h = omega (arith, all_whole.0)

-- on a page that there is not no code is defined
pub entry_none : (p n : ℕ) → 9 ≤ p → 0xFFFD ≡ Tables.page_entry p n
unfolding Tables.page_entry
entry_none p n h = ap (λ (t : List ℕ). get_or t (n - 0xA0) 0xFFFD) (sym (get_or-eq_default Tables.pages [] (past p h)))

-- the character of a code from A0 to FF is the one that stands in the page's table
pub entry_listed : (p k : ℕ) → p < 9 → k < 96 → get_or (get_or Tables.pages p []) k 0 ≡ Tables.page_entry p (0xA0 + k)
unfolding Tables.page_entry
entry_listed p k h l =
    let e = eqb-true (length (get_or Tables.pages p [])) 96 (every_in has_all_codes Tables.pages p all_whole.1 (omega (arith, all_whole.0))) in
    let z : k ≡ 0xA0 + k - 0xA0 = omega arith in
    get_or_default (get_or Tables.pages p []) k 0 0xFFFD (omega arith) ∙ ap (λ (n : ℕ). get_or (get_or Tables.pages p []) n 0xFFFD) z

-- a code above FF is not defined on any page
pub entry_past : (p n : ℕ) → 0xFF < n → 0xFFFD ≡ Tables.page_entry p n
unfolding Tables.page_entry
entry_past p n h = go (dec_lt p 9)
  where
    go : Dec (p < 9) → 0xFFFD ≡ Tables.page_entry p n
    go (yes l) =
        let e = eqb-true (length (get_or Tables.pages p [])) 96 (every_in has_all_codes Tables.pages p all_whole.1 (omega (arith, all_whole.0))) in
        let k : length (get_or Tables.pages p []) ≤ n - 0xA0 = omega arith in
        sym (get_or-eq_default (get_or Tables.pages p []) 0xFFFD k)
    go (no l) = entry_none p n (omega arith)

-- the table of page A counts on from A0: tried number by number
a_counts : counts 0xA0 (get_or Tables.pages 0 []) ≡ true
unfolding Tables.pages Tables.latin1
a_counts = refl

-- the codes of page A's table go up to FF
a_long : (n : ℕ) → n ≤ 0xFF → n - 0xA0 < length (get_or Tables.pages 0 [])
unfolding Tables.pages Tables.latin1
a_long n h = omega arith

-- "page A is the identity"
pub page_a_lem : (n : ℕ) → In 0xA0 0xFF n → Tables.page_entry 0 n ≡ n
unfolding Tables.page_entry
page_a_lem n (l, h) = let e = counts_at 0xA0 (get_or Tables.pages 0 []) (n - 0xA0) 0xFFFD a_counts (a_long n h) in omega arith

-- on page A each sum is its own character, and `\S\` gives what it gave before there were pages
pub code_a : (n : ℕ) → code_of page_a n ≡ n
code_a n = go (within 0xA0 0xFF n)
  where
    go : Dec (In 0xA0 0xFF n) → code_of page_a n ≡ n
    go (yes h) = rw (in_range 0xA0 n 0xFF h.0 h.1) (page_a_lem n h)
    go (no h) = rw (beyond 0xA0 0xFF n h) refl

-- every sum of a byte and 128 gives a Unicode scalar, on every page
pub code_scalar : (p n : ℕ) → n < 55296 → scalar (code_of p n) ≡ true
code_scalar p n h = go (leb 0xA0 n && leb n 0xFF)
  where
    go : (t : Bool) → scalar (pick t (Tables.page_entry p n) n) ≡ true
    go true = entry_scalar p n
    go false = scalar_low n h

-- ---- what the code's tests show
-- a capital letter from A to I selects the page that is computed
pub selects_capital : (b : ℕ) → leb 65 b && leb b 73 ≡ true → b - 65 ≡ page_of b
selects_capital b e = rw e refl

-- a small letter from a to i selects the page that is computed
pub selects_small : (b : ℕ) → leb 65 b && leb b 73 ≡ false → leb 97 b && leb b 105 ≡ true → b - 97 ≡ page_of b
selects_small b n e = rw (n, e) refl

-- a byte that is no letter of a page selects page A
pub selects_none : (b : ℕ) → leb 65 b && leb b 73 ≡ false → leb 97 b && leb b 105 ≡ false → 0 ≡ page_of b
selects_none b n e = rw (n, e) refl

-- on page A a sum is its own character
pub code_first : (p n : ℕ) → p ≡ 0 → n ≡ code_of p n
code_first p n e = sym (ap (λ (q : ℕ). code_of q n) e ∙ code_a n)

-- a sum outside A0 to FF is its own character
pub code_same : (p n : ℕ) → ltb n 160 || ltb 255 n ≡ true → n ≡ code_of p n
code_same p n e = go (within 0xA0 0xFF n)
  where
    go : Dec (In 0xA0 0xFF n) → n ≡ code_of p n
    go (yes (l, h)) = let z : ◌≡◌ {A = Bool} false true = sym (rw (le-ltb n 160 l, le-ltb 255 n h) refl) ∙ e in let w : ◌≡◌ {A = ℕ} 0 1 = ap (λ (t : Bool). pick t 1 0) z in absurd (omega arith)
    go (no h) = rw (beyond 0xA0 0xFF n h) refl

-- a sum from A0 to FF is the character that the page's table has for it
pub code_listed : (p n : ℕ) → ltb n 160 || ltb 255 n ≡ false → (In 0xA0 0xFF n) × ((c : ℕ) → c ≡ Tables.page_entry p (0xA0 + (n - 160)) → c ≡ code_of p n)
code_listed p n e =
    let (b, c) = neither (ltb n 160) (ltb 255 n) e in
    let l = ltb-false n 160 b in
    let h = ltb-false 255 n c in
    let z : 0xA0 + (n - 160) ≡ n = omega arith in
    ((l, h), λ c k. k ∙ ap (Tables.page_entry p) z ∙ rw (in_range 0xA0 n 0xFF l h) refl)
