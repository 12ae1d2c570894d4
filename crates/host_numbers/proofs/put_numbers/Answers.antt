use Rattle.std.proofs.Common.{◌≡◌, sym, ◌∙◌, ap, refl, arith, ℕ, ◌≤◌, ◌++◌, length, take, drop, List, le-leb, length-take-le, zero-add}
use Rattle.std.proofs.lemmas.Bool.{lt-leb}
use Rattle.std.proofs.lemmas.List.Edits.{sets-eq}
use Rattle.host_numbers.specs.Numbers.{put_in}
use Rattle.host_numbers.proofs.put_numbers.Goals as goal

-- numbers that take the place of the first ones of a list are put at its start
put_first : (n : ℕ) (xs new old : List ℕ) → n ≤ length old → length new ≡ length (take n old) → new ≡ xs → new ++ drop n old ≡ put_in n xs old
put_first n xs new old h l e =
    let m : length xs ≡ n = sym (ap length e) ∙ l ∙ length-take-le n old h in
    rw (le-leb n (length old) h, e) (rw (sets-eq xs old 0 (omega (arith, h, m)), m, zero-add) refl)

pub returns : goal.returns
returns g c = record { value = rw (le-leb _ _ c.if-out.false) refl; out_after = put_first _ _ _ _ c.if-out.false c.copy_from_slice.ensures.len c.copy_from_slice.ensures.after }

pub returns-then-out : goal.returns-then-out
returns-then-out g c = rw (lt-leb _ _ c.if-out.true) record { value = refl; out_after = refl }
