-- What the code passes at one go on its way past trivia: a byte of whitespace and a comment. Of a comment it knows what `Past` says of
-- every search for a byte; the search that halts at any byte outside tells where the trivia go on. Assumes nothing.
use Rattle.std.specs.Prelude.{ℕ, zero, suc, ◌+◌, ◌≤◌, ◌<◌, ◌≡◌, refl, Bool, true, false, List, [], ◌∷◌, eqb, length, get_or, Result, Ok, Err}
use Rattle.std.proofs.Common.{sym, ◌∙◌}
use Rattle.std.proofs.Math.Path.{ap}
use native.Mathlib.Omega.{arith}
use Rattle.std.proofs.Math.ListN.{drop}
use Rattle.common.specs.Lists.{split, drop_end}
use Rattle.common.specs.Compare.{clash}
use Rattle.error.specs.Refusal.{bad, told}
use Rattle.lex.specs.Byte.{white}
use Rattle.common.specs.Walk.{walk}
use Rattle.lex.specs.Search.{Look, halt, missed, trivia}
use Rattle.lex.specs.Answer.{Sought, at, fault, placed}
use Rattle.lex.specs.Local.{seek}
use Rattle.lex.specs.Right.{past_trivia, past_start, blank_step, led_stops}
use Rattle.lex.specs.PassedAtOnce.{LeavesOrRefused, unbegun}
use Rattle.error.specs.declared.Fault.{Fault}
use Rattle.error.specs.declared.Fault.TheVariants.{
  NoMarker,
  TooLong,
  OpenComment,
  OpenString,
  NoEnd,
  OpenParen,
  BadRecord,
  NoRow,
  OutOfFile,
  NoParameter,
  OpenLiteral,
  WrongType,
  OutsideClass,
  NoRecord,
  TooDeep,
  TooShort,
}
use Rattle.lex.specs.declared.Mode.TheVariants.{Plain, Remark, Starred}

-- a search that halts at any byte outside strings and comments
abbrev anywhere : ℕ → ℕ → Look
anywhere d c = halt

-- what trivia come to from where the search `anywhere` halts; its own refusal, 0, is the file's end
abbrev resumed : Sought → Sought
resumed (at r) = trivia r
resumed (fault zero w) = at []
resumed (fault (suc n) w) = fault (suc n) w

-- outside comments, the trivia come to what they come to from where the search `anywhere` halts
resumes : (o xs : List ℕ) → past_trivia Plain o xs ≡ resumed (seek anywhere (missed 0 []) Plain 0 o xs)
unfolding walk trivia
resumes o [] = refl
resumes o (c ∷ r) = refl

-- in a comment, and after a star in one, the trivia come to what they come to from where the search `anywhere` halts
inside : (o xs : List ℕ)
    → (past_trivia Remark o xs ≡ resumed (seek anywhere (missed 0 []) Remark 0 o xs)) × (past_trivia Starred o xs ≡ resumed (seek anywhere (missed 0 []) Starred 0 o xs))
unfolding walk
inside o [] = (refl, refl)
inside o (c ∷ r) = go (eqb c 47) (eqb c 42) refl refl (inside o r)
  where
    go : (a b : Bool) → eqb c 47 ≡ a → eqb c 42 ≡ b
        → (past_trivia Remark o r ≡ resumed (seek anywhere (missed 0 []) Remark 0 o r)) × (past_trivia Starred o r ≡ resumed (seek anywhere (missed 0 []) Starred 0 o r))
        → (past_trivia Remark o (c ∷ r) ≡ resumed (seek anywhere (missed 0 []) Remark 0 o (c ∷ r)))
        × (past_trivia Starred o (c ∷ r) ≡ resumed (seek anywhere (missed 0 []) Starred 0 o (c ∷ r)))
    go true true e f (x, y) = (rw f y, rw e (resumes o r))
    go true false e f (x, y) = (rw f x, rw e (resumes o r))
    go false true e f (x, y) = (rw f y, rw (e, f) y)
    go false false e f (x, y) = (rw f x, rw (e, f) x)

-- a fault's number is at least 1
numbered : (g : Fault) → 1 ≤ (told g).number
numbered NoMarker = omega arith
numbered TooLong = omega arith
numbered (OpenComment p) = omega arith
numbered (OpenString p) = omega arith
numbered (NoEnd p) = omega arith
numbered (OpenParen p) = omega arith
numbered (BadRecord r p) = omega arith
numbered (NoRow p) = omega arith
numbered OutOfFile = omega arith
numbered (NoParameter p) = omega arith
numbered (OpenLiteral p) = omega arith
numbered (WrongType p) = omega arith
numbered (OutsideClass p) = omega arith
numbered NoRecord = omega arith
numbered (TooDeep p) = omega arith
numbered (TooShort p) = omega arith

-- a refusal of the search `anywhere` in a comment is one of the trivia
refused : (s : List ℕ) (g : Fault) (x : Sought) → placed s x ≡ bad (told g) → placed s (resumed x) ≡ bad (told g)
refused s g (at r) e = clash (cc)
refused s g (fault zero w) e = let z : (told g).number ≡ 0 = cc in absurd (omega (arith, numbered g))
refused s g (fault (suc n) w) e = e

-- what the code answers of the trivia from i on: they go on from a place after i, or are refused
abbrev pub Beyond : List ℕ → ℕ → Result ℕ Fault → Type 0
Beyond s i (Ok p) = (i < p) × (p ≤ length s) × (trivia (drop i s) ≡ trivia (drop p s))
Beyond s i (Err g) = placed s (trivia (drop i s)) ≡ bad (told g)

-- past the file's end the trivia leave nothing
pub trivia_end_lem : (s : List ℕ) (i : ℕ) → length s ≤ i → trivia (drop i s) ≡ at []
unfolding trivia walk
trivia_end_lem s i h = rw (drop_end s i h)

-- What stands at i outside comments.
module _ (s : List ℕ) (i : ℕ) (h : i < length s) where
  -- a byte of whitespace at i is passed over: the trivia go on after it
  pub trivia_blank : white (get_or s i 0) ≡ true → trivia (drop i s) ≡ trivia (drop (i + 1) s)
  trivia_blank w = ap trivia (split s i h) ∙ blank_step (get_or s i 0) (drop (i + 1) s) w

  -- where the byte at i is not white and opens no comment, the trivia end there
  pub trivia_here_at : white (get_or s i 0) ≡ false → (get_or s i 0 ≡ 47 → i + 1 < length s → get_or s (i + 1) 0 ≡ 42 → ⊥) → trivia (drop i s) ≡ at (drop i s)
  trivia_here_at w k =
      led_stops (drop i s)
      (λ c v (r, e). let g : get_or s i 0 ≡ c = cc (split s i h) in clash (cc))
      (λ (r, e). let g : get_or s i 0 ≡ 47 = cc (split s i h) in unbegun s (i + 1) 42 (k g) (r, cc (split s i h)))

  -- where a comment opens at i, the trivia go on where the comment ends, or are refused
  pub trivia_remark : get_or s i 0 ≡ 47 → i + 1 < length s → get_or s (i + 1) 0 ≡ 42 → (r : Result ℕ Fault) → LeavesOrRefused s Remark i (i + 2) r → Beyond s i r
  unfolding trivia
  trivia_remark a k b r = go r
    where
      two : drop i s ≡ 47 ∷ 42 ∷ drop (i + 2) s
      two = let e : i + 1 + 1 ≡ i + 2 = omega arith in cc (split s i h, split s (i + 1) k, ap (λ (j : ℕ). drop j s) e)

      start : trivia (drop i s) ≡ resumed (seek anywhere (missed 0 []) Remark 0 (drop i s) (drop (i + 2) s))
      start = ap trivia two ∙ past_start (drop (i + 2) s) ∙ ap (λ (o : List ℕ). past_trivia Remark o (drop (i + 2) s)) (sym two) ∙ (inside (drop i s) (drop (i + 2) s)).0

      go : (r : Result ℕ Fault) → LeavesOrRefused s Remark i (i + 2) r → Beyond s i r
      go (Ok p) (x, y, c) = (omega arith, y, start ∙ ap resumed (c anywhere 0 [] 0) ∙ sym (resumes (drop p s) (drop p s)))
      go (Err g) c = ap (placed s) start ∙ refused s g (seek anywhere (missed 0 []) Remark 0 (drop i s) (drop (i + 2) s)) (c anywhere 0 [] 0)
