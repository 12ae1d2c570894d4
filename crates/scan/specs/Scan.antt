-- The whole scan from its two passes. Assumes nothing.
use Rattle.std.specs.Prelude.{ℕ, ◌≤◌, ◌<◌, ◌≡◌, true, false, List, length}
use Rattle.std.proofs.Math.Path.{refl}
use Rattle.std.proofs.Common.{arith, lt-ltb, le-ltb}
use Rattle.error.specs.Refusal.{Refusal, refusal, Told, good, bad}
use Rattle.statement.specs.Rows.{mapped}
use Rattle.scan.specs.Records.{Table}
use Rattle.scan.specs.File.{marked, reading_of, scan_of}
use Rattle.scan.specs.ScanMemory.{headers_of, records_of, headers_after, rows_after, Counts, counts_of}
use Rattle.scan.specs.Laws.{PassWrites, PassLeaves}

-- what the scan owes: its answer, and the lent rows after it
abbrev pub ScanOwes : List ℕ → ℕ → ℕ → List ℕ → List ℕ → List ℕ → List ℕ → Told Counts → Type 0
ScanOwes s H R h₀ r₀ hnow rnow a = (a ≡ mapped counts_of (scan_of s H R)) × ((hnow ≡ headers_after (scan_of s H R) h₀) × (rnow ≡ rows_after (scan_of s H R) r₀))

module _ (s : List ℕ) (H R : ℕ) (h₀ r₀ : List ℕ) where
  -- "2 is tested before 1": a file that is too long is refused with 2, and no lent row is changed
  pub scan_long : 4294967295 < length s → ScanOwes s H R h₀ r₀ h₀ r₀ (bad (refusal 2 0 0))
  unfolding scan_of
  scan_long h = rw (lt-ltb _ _ h) (refl, (refl, refl))

  module _ (h : length s ≤ 4294967295) where
    -- a file that is not too long and has no marker is refused with 1, and no lent row is changed
    pub scan_unmarked : marked s ≡ false → ScanOwes s H R h₀ r₀ h₀ r₀ (bad (refusal 1 0 0))
    unfolding scan_of
    scan_unmarked m = rw (le-ltb _ _ h, m) (refl, (refl, refl))

    module _ (m : marked s ≡ true) where
      scan_reads : scan_of s H R ≡ reading_of s H R
      unfolding scan_of
      scan_reads = rw (le-ltb _ _ h, m) refl

      -- where the first pass refuses, the scan does, and has written nothing
      pub scan_refused : (q : Refusal) (hnow rnow : List ℕ) → PassLeaves s H R false h₀ r₀ hnow rnow (bad q) → ScanOwes s H R h₀ r₀ hnow rnow (bad q)
      scan_refused q hnow rnow w = rw scan_reads (go (reading_of s H R) w.0)
        where
          go : (x : Told Table) → bad q ≡ mapped counts_of x → (bad q ≡ mapped counts_of x) × ((hnow ≡ headers_after x h₀) × (rnow ≡ rows_after x r₀))
          go (good t) e = let z : ◌≡◌ {A = ℕ} 0 1 = cc in absurd (omega arith)
          go (bad p) e = (e, (w.1.0, w.1.1))

      -- where the first pass answers, the scan leaves what the second writes and answers
      pub scan_done : (n : Counts) (a : Told Counts) (hnow rnow : List ℕ) → good n ≡ mapped counts_of (reading_of s H R) → PassLeaves s H R true h₀ r₀ hnow rnow a → ScanOwes s H R h₀ r₀ hnow rnow a
      scan_done n a hnow rnow k w = rw scan_reads (go (reading_of s H R) k w.0 w.1.0 w.1.1)
        where
          go : (x : Told Table) → good n ≡ mapped counts_of x → a ≡ mapped counts_of x → PassWrites true x headers_of h₀ hnow → PassWrites true x records_of r₀ rnow
              → (a ≡ mapped counts_of x) × ((hnow ≡ headers_after x h₀) × (rnow ≡ rows_after x r₀))
          go (good t) k e p q = (e, (p, q))
          go (bad p) k e v q = let z : ◌≡◌ {A = ℕ} 0 1 = cc in absurd (omega arith)
