-- What one byte does to a search of Search.antt, at an index of the whole list: the laws that the loops of the code go by.
-- Assumes nothing.
use Rattle.std.specs.Prelude.{ℕ, zero, suc, ◌+◌, ◌-◌, ◌<◌, ◌≤◌, min, ◌≡◌, refl, Bool, true, false, List, eqb, length, drop, get_or}
use Rattle.std.proofs.Common.{sym, ◌∙◌, ap, arith, drop_of_length-le}
use Rattle.std.proofs.Math.Decide.{dec_le}
use Rattle.common.specs.Pick.{pick}
use Rattle.common.specs.Lists.{split}
use Rattle.common.specs.Walk.{stop, walk, walk_stops}
use Rattle.lex.specs.Lexer.{calm}
use Rattle.lex.specs.Search.{Seen, seen, Look, halt, look, seek_turn, under, paren}
use Rattle.lex.specs.Answer.{Sought, at}
use Rattle.lex.specs.declared.Mode.{Mode}

-- what is left from a start past the list's end is what is left from the end
pub drop_within : (xs : List ℕ) (i : ℕ) → drop (min i (length xs)) xs ≡ drop i xs
drop_within xs i = go (dec_le i (length xs))
  where
    go : Dec (i ≤ length xs) → drop (min i (length xs)) xs ≡ drop i xs
    go (yes h) = let e : min i (length xs) ≡ i = omega arith in ap (λ (k : ℕ). drop k xs) e
    go (no h) =
        let a : length xs ≤ min i (length xs) = omega arith in
        let b : length xs ≤ i = omega arith in
        drop_of_length-le xs a ∙ sym (drop_of_length-le xs b)

-- A search halts at the byte at i.
module _ (f : ℕ → ℕ → Look) (z : Seen → Sought) (xs : List ℕ) (i : ℕ) (h : i < length xs) (m : Mode) (d since : ℕ) (a : Sought) where
  -- a search that halts at the byte at i answers the rest from i on
  pub seek_halts_at : calm m (get_or xs i 0) ≡ true → f d (get_or xs i 0) ≡ halt → walk (seek_turn f) z (seen m d (drop since xs)) (drop i xs) ≡ a → at (drop i xs) ≡ a
  seek_halts_at e g inv =
      sym
      (walk_stops (seek_turn f) z (seen m d (drop since xs)) xs i (at (drop i xs)) h
      (rw (e, g) (ap (λ (l : List ℕ). stop (at l)) (sym (split xs i h)))))
      ∙ inv

-- a byte of a search for a `)` opens one parenthesis at most
pub paren_up : (d c d' : ℕ) → paren d c ≡ look d' → d' ≤ d + 1
paren_up d c d' e = go (eqb c 40) (eqb c 41) d e
  where
    go : (a b : Bool) (d : ℕ) → pick a (look (suc d)) (pick b (under d) (look d)) ≡ look d' → d' ≤ d + 1
    go true b d e = let q : suc d ≡ d' = cc in omega arith
    go false true zero e = let q : ◌≡◌ {A = ℕ} 0 1 = cc in omega arith
    go false true (suc d) e = let q : d ≡ d' = cc in omega arith
    go false false d e = let q : d ≡ d' = cc in omega arith

-- a `)` leaves one open parenthesis less, where one is open
pub under_less : (d : ℕ) → (d ≡ 0 → ⊥) → look (d - 1) ≡ under d
under_less zero h = absurd (h refl)
under_less (suc d) h = let e : suc d - 1 ≡ d = omega arith in ap look e
