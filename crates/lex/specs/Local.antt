-- Where a search stops, the list splits there, and it stops just so whatever follows; and no search answers more than it was
-- given. One law each, over every search. Assumes nothing.
use Rattle.std.specs.Prelude.{ℕ, ◌≤◌, ◌≡◌, refl, Bool, true, false, List, [], ◌∷◌, ◌++◌, eqb, length}
use Rattle.std.proofs.Common.{arith}
use Rattle.common.specs.Pick.{pick}
use Rattle.lex.specs.Byte.{white}
use Rattle.common.specs.Walk.{Turn, stop, on, turned, walk}
use Rattle.lex.specs.Lexer.{calm, next_mode}
use Rattle.lex.specs.Answer.{Sought, at, fault}
use Rattle.lex.specs.Search.{Seen, seen, Look, halt, look, semicolon, paren, looked, seek_turn, unclosed, missed, record_end, closing, lead, trivia_turn, trailed, trivia_end, trivia}
use Rattle.lex.specs.declared.Mode.{Mode}
use Rattle.lex.specs.declared.Mode.TheVariants.{Plain, Slash, Text, Quoted, Remark, Starred}

-- a search for what f looks for, from this mode with d open parentheses and o for the last byte outside
abbrev pub seek : (ℕ → ℕ → Look) → (Seen → Sought) → Mode → ℕ → List ℕ → List ℕ → Sought
seek f z m d o xs = walk (seek_turn f) z (seen m d o) xs

module _ (f : ℕ → ℕ → Look) (z : Seen → Sought) (m : Mode) (d : ℕ) (o : List ℕ) (c : ℕ) (r : List ℕ) where
  -- a search passes over a byte in a string or a comment
  pub seek_within : calm m c ≡ false → seek f z m d o (c ∷ r) ≡ seek f z (next_mode m c) d o r
  unfolding walk
  seek_within h = rw h

  -- a byte outside strings and comments at which the search does not halt is passed over
  pub seek_past : (e : ℕ) → calm m c ≡ true → f d c ≡ look e → seek f z m d o (c ∷ r) ≡ seek f z (next_mode m c) e (c ∷ r) r
  unfolding walk
  seek_past e h k = rw (h, k)

  -- a search that halts at a byte outside strings and comments answers what is left from there
  pub seek_halts : calm m c ≡ true → f d c ≡ halt → seek f z m d o (c ∷ r) ≡ at (c ∷ r)
  unfolding walk
  seek_halts h k = rw (h, k)

-- the search from this mode splits xs where it stopped, before a byte, and stops so whatever follows that byte
pub record Stops (f : ℕ → ℕ → Look) (m : Mode) (d : ℕ) (xs ys : List ℕ) : Type 0 where
  pub before : List ℕ
  pub byte : ℕ
  pub after : List ℕ
  pub rest : ys ≡ byte ∷ after
  pub splits : xs ≡ before ++ (byte ∷ after)
  pub local : (z : Seen → Sought) (o r : List ℕ) → seek f z m d o (before ++ (byte ∷ r)) ≡ at (byte ∷ r)

-- where the bytes end, a search has found nothing
pub missed_fault : (n : ℕ) (w : List ℕ) (m : Mode) (d : ℕ) (o : List ℕ) → (k : ℕ) × (p : List ℕ) × (missed n w (seen m d o) ≡ fault k p)
missed_fault n w Plain d o = (n, w, refl)
missed_fault n w Slash d o = (n, w, refl)
missed_fault n w Text d o = (4, o, refl)
missed_fault n w Quoted d o = (n, w, refl)
missed_fault n w Remark d o = (3, o, refl)
missed_fault n w Starred d o = (3, o, refl)

-- one more byte in front, which the search passes over, does not change where it stops
stops_on : (f : ℕ → ℕ → Look) (m k : Mode) (d e c : ℕ) (t ys : List ℕ)
    → ((z : Seen → Sought) (o r : List ℕ) → (p : List ℕ) × (seek f z m d o (c ∷ r) ≡ seek f z k e p r)) → Stops f k e t ys → Stops f m d (c ∷ t) ys
stops_on f m k d e c t ys step s = record {
  before = c ∷ s.before;
  byte = s.byte;
  after = s.after;
  rest = s.rest;
  splits = cc;
  local = λ z o r. let (p, q) = step z o (s.before ++ (s.byte ∷ r)) in cc (s.local z p r);
}

-- a search that stops does so by the bytes up to there alone, whatever follows them
pub seek_stops : (f : ℕ → ℕ → Look) (n : ℕ) (w : List ℕ) (m : Mode) (d : ℕ) (o xs ys : List ℕ)
    → seek f (missed n w) m d o xs ≡ at ys → Stops f m d xs ys
unfolding walk
seek_stops f n w m d o [] ys h = let (k, p, e) = missed_fault n w m d o in let z : ◌≡◌ {A = ℕ} 0 1 = cc in absurd (omega arith)
seek_stops f n w m d o (c ∷ t) ys h = go (calm m c) (f d c) refl refl (λ k e p. seek_stops f n w k e p t ys)
  where
    go : (k : Bool) (l : Look) → calm m c ≡ k → f d c ≡ l
        → ((m : Mode) (d : ℕ) (o : List ℕ) → seek f (missed n w) m d o t ≡ at ys → Stops f m d t ys) → Stops f m d (c ∷ t) ys
    go false l p q ih =
        stops_on f m (next_mode m c) d d c t ys (λ z o r. (o, seek_within f z m d o c r p))
        (ih (next_mode m c) d o (rw (seek_within f _ m d o c t p) at h))
    go true halt p q ih = record {
      before = [];
      byte = c;
      after = t;
      rest = cc (seek_halts f (missed n w) m d o c t p q);
      splits = refl;
      local = λ z o r. seek_halts f z m d o c r p q;
    }
    go true (look e) p q ih =
        stops_on f m (next_mode m c) d e c t ys (λ z o r. (c ∷ r, seek_past f z m d o c r e p q))
        (ih (next_mode m c) e (c ∷ t) (rw (seek_past f _ m d o c t e p q) at h))

-- "ends at the first `;` outside strings and comments": what follows the `;` has no part in where it is found
pub end_local : (xs r : List ℕ) → record_end xs ≡ at (59 ∷ r)
    → (b : List ℕ) × (xs ≡ b ++ (59 ∷ r)) × ((r' : List ℕ) → record_end (b ++ (59 ∷ r')) ≡ at (59 ∷ r'))
unfolding record_end
end_local xs r h =
    let s : Stops semicolon Plain 0 xs (59 ∷ r) = seek_stops semicolon 5 xs Plain 0 xs xs (59 ∷ r) h in
    let e : s.byte ≡ 59 = cc in
    (s.before, cc, λ r'. rw e at (s.local (missed 5 (s.before ++ (59 ∷ r'))) (s.before ++ (59 ∷ r')) r'))

-- "The closing `)`": what follows it has no part in where it is found
pub closing_local : (c : ℕ) (t r : List ℕ) → closing (c ∷ t) ≡ at (41 ∷ r)
    → (b : List ℕ) × (t ≡ b ++ (41 ∷ r)) × ((r' : List ℕ) → closing (c ∷ (b ++ (41 ∷ r'))) ≡ at (41 ∷ r'))
unfolding closing
closing_local c t r h =
    let s : Stops paren Plain 0 t (41 ∷ r) = seek_stops paren 6 (c ∷ t) Plain 0 t t (41 ∷ r) h in
    let e : s.byte ≡ 41 = cc in
    (s.before, cc, λ r'. rw e at (s.local (missed 6 (c ∷ (s.before ++ (41 ∷ r')))) (s.before ++ (41 ∷ r')) r'))

-- the rest that a search answers, found or refused
abbrev pub rest_left : Sought → List ℕ
rest_left (at r) = r
rest_left (fault n r) = r

-- a turn of a search leaves at most n bytes: in its answer, or from the last byte outside strings and comments
abbrev within : ℕ → Turn Seen Sought → Type 0
within n (stop a) = length (rest_left a) ≤ n
within n (on s) = length s.opened ≤ n

-- a walk of a search whose turns and end leave at most n bytes answers at most n
walk_shorter : (n : ℕ) (t : Seen → ℕ → List ℕ → Turn Seen Sought) (z : Seen → Sought)
    → ((s : Seen) (c : ℕ) (r : List ℕ) → length s.opened ≤ n → length (c ∷ r) ≤ n → within n (t s c r))
    → ((s : Seen) → length s.opened ≤ n → length (rest_left (z s)) ≤ n)
    → (s : Seen) (xs : List ℕ) → length s.opened ≤ n → length xs ≤ n → length (rest_left (walk t z s xs)) ≤ n
unfolding walk
walk_shorter n t z turns ends s [] h l = ends s h
walk_shorter n t z turns ends s (c ∷ r) h l = go (t s c r) (turns s c r h l) (λ u k. walk_shorter n t z turns ends u r k (omega arith))
  where
    go : (a : Turn Seen Sought) → within n a → ((u : Seen) → length u.opened ≤ n → length (rest_left (walk t z u r)) ≤ n)
        → length (rest_left (turned a (λ u. walk t z u r))) ≤ n
    go (stop a) k ih = k
    go (on u) k ih = ih u k

-- where each of two turns leaves at most n bytes, so does the one that is picked
within_pick : (n : ℕ) (k : Bool) (a b : Turn Seen Sought) → within n a → within n b → within n (pick k a b)
within_pick n true a b p q = p
within_pick n false a b p q = q

-- where the bytes end, a search answers at most n bytes, if it began with at most n
missed_shorter : (n k : ℕ) (w : List ℕ) (m : Mode) (o : List ℕ) → length w ≤ n → length o ≤ n → length (rest_left (unclosed m k w o)) ≤ n
missed_shorter n k w Plain o h l = h
missed_shorter n k w Slash o h l = h
missed_shorter n k w Text o h l = l
missed_shorter n k w Quoted o h l = h
missed_shorter n k w Remark o h l = l
missed_shorter n k w Starred o h l = l

-- a turn at a byte outside strings and comments leaves at most n bytes
looked_shorter : (n : ℕ) (l : Look) (m : Mode) (xs : List ℕ) → length xs ≤ n → within n (looked l m xs)
looked_shorter n halt m xs h = h
looked_shorter n (look d) m xs h = h

-- a search answers no more bytes than it was given
seek_shorter : (n k : ℕ) (f : ℕ → ℕ → Look) (w : List ℕ) (m : Mode) (d : ℕ) (o xs : List ℕ)
    → length w ≤ n → length o ≤ n → length xs ≤ n → length (rest_left (seek f (missed k w) m d o xs)) ≤ n
seek_shorter n k f w m d o xs hw ho hx = walk_shorter n (seek_turn f) (missed k w)
    (λ s c r p q. within_pick n (calm s.mode c) _ _ (looked_shorter n (f s.depth c) (next_mode s.mode c) (c ∷ r) q) p)
    (λ s p. missed_shorter n k w s.mode s.opened hw p) (seen m d o) xs ho hx

-- the rest from the record's end, and from a refusal of it, is no longer than the rest from the record's start
pub end_shorter : (xs : List ℕ) {a : Sought} → record_end xs ≡ a → length (rest_left a) ≤ length xs
unfolding record_end
end_shorter xs h = rw h at (seek_shorter (length xs) 5 semicolon xs Plain 0 xs xs (omega arith) (omega arith) (omega arith))

-- the rest from the closing `)`, and from a refusal of it, is no longer than the rest from the `(`
pub closing_shorter : (c : ℕ) (t : List ℕ) {a : Sought} → closing (c ∷ t) ≡ a → length (rest_left a) ≤ length (c ∷ t)
unfolding closing
closing_shorter c t h = rw h at (seek_shorter (length (c ∷ t)) 6 paren (c ∷ t) Plain 0 t t (omega arith) (omega arith) (omega arith))

-- a turn at a byte outside comments on the way past trivia leaves at most n bytes
lead_shorter : (n : ℕ) (m : Mode) (o : List ℕ) (c : ℕ) (r : List ℕ) → length o ≤ n → length (c ∷ r) ≤ n → within n (lead m o c r)
lead_shorter n Plain o c r h l = within_pick n (white c) _ _ l (within_pick n (eqb c 47) _ _ l l)
lead_shorter n Slash o c r h l = h
lead_shorter n Text o c r h l = h
lead_shorter n Quoted o c r h l = h
lead_shorter n Remark o c r h l = h
lead_shorter n Starred o c r h l = h

-- where the bytes end on the way past trivia, at most n bytes are answered
trailed_shorter : (n : ℕ) (m : Mode) (o : List ℕ) → length o ≤ n → length (rest_left (trailed m o)) ≤ n
trailed_shorter n Plain o h = omega arith
trailed_shorter n Slash o h = h
trailed_shorter n Text o h = omega arith
trailed_shorter n Quoted o h = omega arith
trailed_shorter n Remark o h = h
trailed_shorter n Starred o h = h

-- the rest after trivia, and from a comment that is open, is no longer than the rest before
pub trivia_shorter : (xs : List ℕ) {a : Sought} → trivia xs ≡ a → length (rest_left a) ≤ length xs
unfolding trivia
trivia_shorter xs h = rw h at (walk_shorter (length xs) trivia_turn trivia_end
    (λ s c r p q. within_pick (length xs) (calm s.mode c) _ _ (lead_shorter (length xs) s.mode s.opened c r p q) p)
    (λ s p. trailed_shorter (length xs) s.mode s.opened p) (seen Plain 0 xs) xs (omega arith) (omega arith))
