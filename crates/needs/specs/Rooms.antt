-- As many rows of each kind as the file has bytes always suffice: what is refused there is refused whatever is lent.
-- Assumes nothing.
use Rattle.std.specs.Prelude.{ℕ, ◌+◌, ◌≤◌, max, ◌≡◌, List, length}
use Rattle.std.proofs.Common.{sym, ◌∙◌, ap, arith}
use Rattle.common.specs.Compare.{clash}
use Rattle.error.specs.Refusal.{Refusal, Told, good, bad}
use Rattle.statement.specs.Rows.{RowKind, header_kind, data_kind, mapped}
use Rattle.statement.specs.declared.Section.{Section}
use Rattle.scan.specs.Records.{Table}
use Rattle.scan.specs.File.{scan_of}
use Rattle.scan.specs.Form.{RowsPerKind, rows_per_kind, count_of_kind, Reached, Full}
use Rattle.scan.specs.FormRight.{scans_is}
use Rattle.scan.specs.FormRight.Numbers.{of_more, scans_bad}
use Rattle.statement.specs.FormRight.{moved_shorter, header_shorter, data_shorter, row_shorter}
use Rattle.scan.specs.Rooms.{scan_roomy, scan_fit}
use Rattle.scan.specs.LargerRooms.{refusal_roomy}
use Rattle.needs.specs.Needs.{needs_in, needs_of}

-- each row that was read took a byte at least
reached_few : {s : List ℕ} {sec : Section} {xs : List ℕ} {n : RowsPerKind} → Reached s sec xs n → (j : RowKind) → count_of_kind j n + length xs ≤ length s
reached_few Reached.start header_kind = omega arith
reached_few Reached.start data_kind = omega arith
reached_few (Reached.on u f) j = let m = reached_few u j in let l = moved_shorter f in omega arith
reached_few (Reached.row {t} {n} k w ys u f) j = let m = reached_few u j in let l = row_shorter k w ys t f in omega (arith, of_more j k n)

-- as many rows of each kind as the file has bytes are never used up
never_full : {s : List ℕ} {q : Refusal} → Full s (rows_per_kind (length s) (length s)) q → ⊥
never_full (Full.full header_kind w ys t u h e f) = let k = reached_few u header_kind in let l = header_shorter f in omega arith
never_full (Full.full data_kind w ys t u h e f) = let k = reached_few u data_kind in let l = data_shorter f in omega arith

-- where a file's needs are refused, the scan is, and with the same refusal
refused_scan : (s : List ℕ) (q : Refusal) → needs_of s ≡ bad q → scan_of s (length s) (length s) ≡ bad q
unfolding needs_of
refused_scan s q e = go (scan_of s (length s) (length s)) e
  where
    go : (a : Told Table) → mapped (needs_in s) a ≡ bad q → a ≡ bad q
    go (good t) p = clash (cc)
    go (bad f) p = let v : f ≡ q = cc in ap bad v

-- "8 is given exactly when [..] the lent rows of its kind (or id slots, one a record) are already used up": never for a file's needs
pub needs_never_full : (s : List ℕ) (q : Refusal) → needs_of s ≡ bad q → q.number ≡ 8 → ⊥
needs_never_full s q e n = let k = rw (refused_scan s q e) at (scans_bad (scans_is s (length s) (length s))) in never_full (k.1 n)

-- a file whose needs are refused is read in no room
pub needs_hopeless : (s : List ℕ) (q : Refusal) → needs_of s ≡ bad q → (H R : ℕ) (t : Table) → scan_of s H R ≡ good t → ⊥
needs_hopeless s q e H R t p =
    let k = scan_fit s H R t p in
    let m : scan_of s (max H (length s)) (max R (length s)) ≡ bad q = refusal_roomy s (length s) (length s) q (refused_scan s q e) (needs_never_full s q e) (max H (length s)) (max R (length s)) (omega arith) (omega arith) in
    let n : scan_of s (max H (length s)) (max R (length s)) ≡ good t = scan_roomy s H R t p (max H (length s)) (max R (length s)) (omega arith) (omega arith) in
    let w : bad q ≡ good t = sym m ∙ n in
    clash (cc)
