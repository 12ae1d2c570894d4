-- What a file is said to need suffices, and with less the scan does not answer. Assumes nothing.
use Rattle.std.specs.Prelude.{ℕ, ◌≤◌, max, ◌≡◌, refl, List, length}
use Rattle.std.proofs.Common.{sym, ◌∙◌, ap, subst, arith}
use Rattle.common.specs.Compare.{clash}
use Rattle.error.specs.Refusal.{Told, good, bad}
use Rattle.statement.specs.Rows.{mapped}
use Rattle.scan.specs.Records.{Table}
use Rattle.scan.specs.File.{scan_of}
use Rattle.scan.specs.Rooms.{scan_roomy, scan_fit}
use Rattle.needs.specs.Needs.{needs_in, needs_of}
use Rattle.needs.specs.declared.Needs.{Needs}

-- the table behind what a file is said to need
pub record Behind (s : List ℕ) (c : Needs) : Type 0 where
  pub table : Table
  pub scanned : scan_of s (length s) (length s) ≡ good table
  pub counted : needs_in s table ≡ c

-- where a file is said to need something, there is a table behind that
pub behind : (s : List ℕ) (c : Needs) → needs_of s ≡ good c → Behind s c
unfolding needs_of
behind s c e = go (scan_of s (length s) (length s)) refl
  where
    go : (a : Told Table) → scan_of s (length s) (length s) ≡ a → Behind s c
    go (good t) p = record { table = t; scanned = p; counted = let q : good (needs_in s t) ≡ good c = sym (ap (mapped (needs_in s)) p) ∙ e in cc }
    go (bad q) p = let w : bad q ≡ good c = sym (ap (mapped (needs_in s)) p) ∙ e in clash (cc)

-- "rooms that suffice": so many rows of each kind, or more, and the scan answers
pub needs_enough : (s : List ℕ) (c : Needs) → needs_of s ≡ good c → (H R : ℕ) → c.headers ≤ H → c.records ≤ R → mapped (needs_in s) (scan_of s H R) ≡ good c
needs_enough s c e H R h r =
    let b = behind s c e in
    let k : length b.table.headers ≤ H = subst (λ (n : ℕ). n ≤ H) (sym (ap (λ (x : Needs). x.headers) b.counted)) h in
    let l : length b.table.records ≤ R = subst (λ (n : ℕ). n ≤ R) (sym (ap (λ (x : Needs). x.records) b.counted)) r in
    ap (mapped (needs_in s)) (scan_roomy s (length s) (length s) b.table b.scanned H R k l) ∙ ap good b.counted

-- with fewer rows than a file is said to need the scan does not answer: where it does, so many rows of each kind were lent
pub needs_least : (s : List ℕ) (c : Needs) → needs_of s ≡ good c → (H R : ℕ) (t : Table) → scan_of s H R ≡ good t → (c.headers ≤ H) × (c.records ≤ R)
needs_least s c e H R t p =
    let b = behind s c e in
    let k = scan_fit s H R t p in
    let l = scan_fit s (length s) (length s) b.table b.scanned in
    let m : scan_of s (max H (length s)) (max R (length s)) ≡ good b.table = scan_roomy s (length s) (length s) b.table b.scanned (max H (length s)) (max R (length s)) (omega arith) (omega arith) in
    let n : scan_of s (max H (length s)) (max R (length s)) ≡ good t = scan_roomy s H R t p (max H (length s)) (max R (length s)) (omega arith) (omega arith) in
    let w : good b.table ≡ good t = sym m ∙ n in
    let v : b.table ≡ t = cc in
    let f = b.counted in
    (subst (λ (n : ℕ). n ≤ H) (ap (λ (x : Needs). x.headers) f) (subst (λ (u : Table). length u.headers ≤ H) (sym v) k.0), subst (λ (n : ℕ). n ≤ R) (ap (λ (x : Needs). x.records) f) (subst (λ (u : Table). length u.records ≤ R) (sym v) k.1))
