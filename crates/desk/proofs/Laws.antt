-- One thing after another, put behind what a buffer holds. Assumes nothing.
use Rattle.std.proofs.Common.{◌≡◌, ℕ, ◌+◌, List, ◌++◌, length, refl, ◌∙◌, append_assoc, arith, length-append}
use Rattle.printing.specs.Put.{Put}

-- first a, and then b
pub put_then : (old mid new a b : List ℕ) (used used' now : ℕ) → length mid ≡ length old → Put old used a mid used' → Put mid used' b new now → Put old used (a ++ b) new now
put_then old mid new a b used used' now l p q =
    let n : length (a ++ b) ≡ length a + length b = length-append a b in
    record {
      within = λ w. q.within (omega (arith, p.within w));
      count = λ w. let k : used' ≡ used + length a = p.count (omega arith) in omega (arith, q.count (omega arith));
      text = λ w.
          let k : used' ≡ used + length a = p.count (omega arith) in
          q.text (omega arith) ∙ rw (p.text (omega arith), append_assoc) refl;
    }
