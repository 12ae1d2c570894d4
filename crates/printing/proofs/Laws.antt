-- What one byte, and one byte more, puts behind what a buffer holds. Assumes nothing.
use Rattle.std.proofs.Common.{◌≡◌, ℕ, ◌+◌, ◌<◌, ◌≤◌, List, [], ◌∷◌, ◌++◌, length, get_or, take, set, sym, refl, ap, ◌∙◌, append_assoc, append-nil, add-one, arith, length-set, length-take-le, take-suc, take-suc-set}
use Rattle.printing.specs.Put.{Put}

-- a byte stored at the first place that is not used
pub put_byte : (old : List ℕ) (used at b : ℕ) → at < length old → (used < length old → at ≡ used) → Put old used (b ∷ []) (set old at b) (at + 1)
put_byte old used at b h e =
    record {
      within = λ w. simp length-set (omega arith);
      count = λ w. let q : at ≡ used = e (omega arith) in omega arith;
      text = λ w. let q : at ≡ used = e (omega arith) in rw add-one (take-suc-set old at b h ∙ ap (λ (k : ℕ). take k old ++ (b ∷ [])) q);
    }

-- a buffer of no bytes takes none
pub put_none : (old : List ℕ) (used at b : ℕ) → length old ≤ at → (used < length old → at ≡ used) → Put old used (b ∷ []) old 0
put_none old used at b h e =
    record {
      within = λ w. omega arith;
      count = λ w. let q : at ≡ used = e (omega arith) in omega arith;
      text = λ w. let q : at ≡ used = e (omega arith) in let z : ⊥ = omega arith in absurd z;
    }

pub put_start : (old : List ℕ) (used : ℕ) → Put old used [] old used
put_start old used =
    record { within = λ w. w; count = λ w. omega arith; text = λ w. sym (append-nil (take used old)) }

-- the words so far, and one byte of them more
pub put_more : (old mid new words : List ℕ) (used used' now i : ℕ) → i < length words → length mid ≡ length old → Put old used (take i words) mid used' → Put mid used' (get_or words i 0 ∷ []) new now → Put old used (take (i + 1) words) new now
put_more old mid new words used used' now i h l p q =
    let n : length (take i words) ≡ i = length-take-le i words (omega arith) in
    let m : length (take (i + 1) words) ≡ i + 1 = length-take-le (i + 1) words (omega arith) in
    record {
      within = λ w. q.within (omega (arith, p.within w));
      count = λ w. let a : used' ≡ used + length (take i words) = p.count (omega arith) in omega (arith, q.count (omega arith));
      text = λ w.
          let a : used' ≡ used + length (take i words) = p.count (omega arith) in
          q.text (omega arith)
          ∙ rw (p.text (omega arith), add-one, take-suc words i 0 h, append_assoc) refl;
    }
