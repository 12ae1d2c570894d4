use Rattle.std.proofs.Common.{◌≡◌, ◌+◌, ◌/◌, ◌%◌, ◌≤◌, ℕ, List, [], ◌∷◌, ◌++◌, arith, refl, sym, ◌∙◌, ap, length, take, drop, take_all}
use Rattle.std.proofs.lemmas.List.Edits.{sets, sets-eq}
use Rattle.std.proofs.lemmas.Slice.{put_mid-paste}
use borrow.Rule.Slice.PartMut.{put_mid}
use Rattle.rows_kept.specs.KeptRows.{little_four}
use Rattle.rows_kept.proofs.put_number.Goals as goal

-- a part that is written whole holds these numbers, one after the other
placed : (s : List ℕ) (at k : ℕ) (ys zs : List ℕ) → ys ≡ zs → length zs ≡ k → at + length zs ≤ length s → put_mid at k s ys ≡ sets s at zs
placed s at k ys zs e l h =
    put_mid-paste at k s ys zs (length zs) e l refl
    ∙ ap (λ (z : List ℕ). take at s ++ z ++ drop (at + length zs) s) (take_all (length zs) zs (omega arith))
    ∙ sym (sets-eq zs s at h)

-- the bytes of the lower 32 binary digits are the number's
low_four : (x : ℕ) → (x % 4294967296 % 256 ∷ (x % 4294967296 / 256 % 256) ∷ (x % 4294967296 / 65536 % 256) ∷ (x % 4294967296 / 16777216 % 256) ∷ []) ≡ little_four x
low_four x =
    let a : x % 4294967296 % 256 ≡ x % 256 = omega arith in
    let b : x % 4294967296 / 256 % 256 ≡ x / 256 % 256 = omega arith in
    let c : x % 4294967296 / 65536 % 256 ≡ x / 65536 % 256 = omega arith in
    let d : x % 4294967296 / 16777216 % 256 ≡ x / 16777216 % 256 = omega arith in
    rw (a, b, c, d) refl

pub returns : goal.returns
returns c = placed c.args.out.now c.args.at _ _ (little_four c.args.x) (c.copy_from_slice.ensures.after ∙ c.to_le_bytes.ensures ∙ low_four c.args.x) (omega arith) (omega (arith, c.requires))
