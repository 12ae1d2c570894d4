-- What the bytes of a usual record do to the searches: the laws that the walk's proofs cite. Assumes nothing.
use Rattle.std.specs.Prelude.{ℕ, suc, ◌+◌, ◌-◌, ◌≤◌, ◌<◌, ◌≡◌, Bool, true, false, ◌||◌, List, [], ◌∷◌, ◌++◌, eqb, length, take, drop, get_or}
use Rattle.std.proofs.Math.Path.{refl}
use Rattle.std.proofs.Common.{sym, ◌∙◌, ap, arith, length-drop, drop-drop, take_all, ne_eqb}
use Rattle.std.proofs.Math.Bool.{not}
use Rattle.std.proofs.Math.Decide.{dec_le}
use Rattle.std.proofs.lemmas.Bool.{eqb-false, not-true}
use Rattle.common.specs.Lists.{split, drop_end}
use Rattle.common.specs.Compare.{clash}
use Rattle.lex.specs.Byte.{white}
use Rattle.common.specs.Walk.{walk}
use Rattle.lex.specs.Grammar.{Begins, Inside, Quotation}
use Rattle.lex.specs.Search.{look, semicolon, paren}
use Rattle.lex.specs.Right.Steps.{byte_step, string_step}
use Rattle.record.specs.Text.{past}
use Rattle.record.specs.Turns.{past_stops, past_goes}
use Rattle.record.specs.Form.{All}
use Rattle.record.specs.FormRight.{past_is}
use Rattle.record.specs.FormRight.Parts.{past_pass, all_kind}
use Rattle.statement.specs.Usual.{is_looked_at, is_plain_byte, stops_string, spoken, Way}

-- no marked byte is plain
pub plain_other : (b c : ℕ) → is_looked_at b ≡ true → is_plain_byte c ≡ true → c ≡ b → ⊥
plain_other b c h k e = let g : is_looked_at c ≡ false = not-true (is_looked_at c) k in clash (cc)

-- a quote is a marked byte
mark_quote : is_looked_at 39 ≡ true
unfolding is_looked_at
mark_quote = refl

-- a `(` is a marked byte
pub mark_open : is_looked_at 40 ≡ true
unfolding is_looked_at
mark_open = refl

-- a `)` is a marked byte
mark_close : is_looked_at 41 ≡ true
unfolding is_looked_at
mark_close = refl

-- a `/` is a marked byte
mark_slash : is_looked_at 47 ≡ true
unfolding is_looked_at
mark_slash = refl

-- a `;` is a marked byte
mark_end : is_looked_at 59 ≡ true
unfolding is_looked_at
mark_end = refl

-- One byte of the walk over a string's inside, at a place.
module _ (s : List ℕ) (i : ℕ) (h : i < length s) where
  -- the walk over a string's inside ends at a quote or a `;`
  pub spoken_stops : stops_string (get_or s i 0) ≡ true → drop i s ≡ past spoken (drop i s)
  unfolding past
  spoken_stops e = past_stops s i h spoken (past spoken (drop i s)) (ap not e) refl

  -- the walk over a string's inside goes on after any byte that is no quote and no `;`
  pub spoken_goes : stops_string (get_or s i 0) ≡ false → past spoken (drop (i + 1) s) ≡ past spoken (drop i s)
  unfolding past
  spoken_goes e = past_goes s i h spoken (past spoken (drop i s)) (ap not e) refl

-- the walk over a string's inside ends at the file's end
pub spoken_none : (s : List ℕ) (i : ℕ) → length s ≤ i → drop i s ≡ past spoken (drop i s)
unfolding past walk
spoken_none s i h = rw (drop_end s i h) refl

-- a place that ends the walk over a string's inside if it lies in the file ends it in any case
pub spoken_last : (s : List ℕ) (i : ℕ) → (i < length s → drop i s ≡ past spoken (drop i s)) → drop i s ≡ past spoken (drop i s)
spoken_last s i h = go (dec_le (length s) i)
  where
    go : Dec (length s ≤ i) → drop i s ≡ past spoken (drop i s)
    go (yes l) = spoken_none s i l
    go (no l) = h (omega arith)

-- from a rest to itself there is a way that changes nothing
pub way_none : (d : ℕ) (xs : List ℕ) → Way d d xs xs
way_none d xs = record { ends = λ n w. refl; closes = λ n w. refl; first = refl }

-- two ways, one after the other, are a way
pub way_on : {d e f : ℕ} {xs ys zs : List ℕ} → Way d e xs ys → Way e f ys zs → Way d f xs zs
way_on v u = record {
  ends = λ n w. v.ends n w ∙ u.ends n w;
  closes = λ n w. v.closes n w ∙ u.closes n w;
  first = v.first ∙ u.first;
}

-- a byte that opens no string and no comment and ends nothing is a way
way_byte : (d e c : ℕ) (t : List ℕ) → (c ≡ 39 → ⊥) → (c ≡ 47 → ⊥) → (c ≡ 59 → ⊥) → paren d c ≡ look e → Way d e (c ∷ t) t
way_byte d e c t h k l m = record {
  ends = λ n w. byte_step semicolon n w 0 0 c t h (λ (r, g). k (cc)) (rw (ne_eqb c 59 l));
  closes = λ n w. byte_step paren n w d e c t h (λ (r, g). k (cc)) m;
  first = past_pass (λ b. not (eqb b 59)) (c ∷ []) t (rw (ne_eqb c 59 l) refl, tt);
}

-- a byte that is none of the five marked ones is a way that leaves the depth as it is
way_other : (d c : ℕ) (t : List ℕ) → (c ≡ 39 → ⊥) → (c ≡ 40 → ⊥) → (c ≡ 41 → ⊥) → (c ≡ 47 → ⊥) → (c ≡ 59 → ⊥) → Way d d (c ∷ t) t
way_other d c t h i j k l = way_byte d d c t h k l (rw (ne_eqb c 40 i, ne_eqb c 41 j))

-- plain bytes are a way that leaves the depth as it is
pub way_plain : (d : ℕ) (f r : List ℕ) → All is_plain_byte f → Way d d (f ++ r) r
way_plain d [] r h = way_none d r
way_plain d (c ∷ f) r (h, t) = way_on
    (way_other d c (f ++ r) (plain_other 39 c mark_quote h) (plain_other 40 c mark_open h) (plain_other 41 c mark_close h)
    (plain_other 47 c mark_slash h) (plain_other 59 c mark_end h)) (way_plain d f r t)

-- up to the first marked byte there is a way that leaves the depth as it is
pub run_way : (d : ℕ) (xs : List ℕ) → Way d d xs (past is_plain_byte xs)
run_way d xs = let (f, e, k) = past_is is_plain_byte xs in go f (past is_plain_byte xs) e k.all
  where
    go : (f r : List ℕ) → xs ≡ f ++ r → All is_plain_byte f → Way d d xs r
    go f r e h = rw e (way_plain d f r h)

-- up to the first marked byte, at places, there is a way that leaves the depth as it is
pub run_at : (d : ℕ) (s : List ℕ) (i r : ℕ) → drop r s ≡ past is_plain_byte (drop i s) → Way d d (drop i s) (drop r s)
run_at d s i r e = rw e (run_way d (drop i s))

-- a `(` is a way to one more open parenthesis
open_way : (d : ℕ) (t : List ℕ) → Way d (suc d) (40 ∷ t) t
open_way d t = way_byte d (suc d) 40 t (eqb-false 40 39 refl) (eqb-false 40 47 refl) (eqb-false 40 59 refl) refl

-- a `)` is a way to one open parenthesis fewer, where one is open
close_way : (d : ℕ) (t : List ℕ) → Way (suc d) d (41 ∷ t) t
close_way d t = way_byte (suc d) d 41 t (eqb-false 41 39 refl) (eqb-false 41 47 refl) (eqb-false 41 59 refl) refl

-- a byte of a string's inside is no quote and no `;`
spoken_other : (c : ℕ) → spoken c ≡ true → (c ≡ 39 → ⊥) × (c ≡ 59 → ⊥)
spoken_other c = go (eqb c 39) (eqb c 59) refl refl
  where
    go : (a b : Bool) → eqb c 39 ≡ a → eqb c 59 ≡ b → not (a || b) ≡ true → (c ≡ 39 → ⊥) × (c ≡ 59 → ⊥)
    go false false p q h = (eqb-false c 39 p, eqb-false c 59 q)
    go false true p q h = clash (cc)
    go true b p q h = clash (cc)

-- bytes that are no quote and no `;` are a string's inside
spoken_inside : (f : List ℕ) → All spoken f → Inside f
spoken_inside [] h = Inside.none
spoken_inside (c ∷ f) (h, t) = Inside.other (spoken_other c h).0 (spoken_inside f t)

-- a string without a `;` and without a doubled quote is a way that leaves the depth as it is
pub string_way : (d : ℕ) (f r : List ℕ) → All spoken f → (Begins 39 r → ⊥) → Way d d (39 ∷ (f ++ (39 ∷ r))) r
string_way d f r h k =
    let q : Quotation (39 ∷ (f ++ (39 ∷ r))) r = record { body = f; inside = spoken_inside f h; shape = refl; single = k } in
    let p : ℕ → Bool = λ b. not (eqb b 59) in
    record {
      ends = λ n w. string_step semicolon n w (record { quote = λ d. refl; slash = λ d. refl }) 0 q;
      closes = λ n w. string_step paren n w (record { quote = λ d. refl; slash = λ d. refl }) d q;
      first = past_pass p (39 ∷ []) (f ++ (39 ∷ r)) (refl, tt)
          ∙ past_pass p f (39 ∷ r) (all_kind spoken p f (λ c e. rw (ne_eqb c 59 (spoken_other c e).1) refl) h)
          ∙ past_pass p (39 ∷ []) r (refl, tt);
    }

-- A `(`, a `)`, another byte and a string as ways, at a place of the file.
module _ (s : List ℕ) (i d : ℕ) (h : i < length s) where
  -- a `(` at a place is a way to one more open parenthesis
  pub open_at : get_or s i 0 ≡ 40 → Way d (d + 1) (drop i s) (drop (i + 1) s)
  open_at e = let n : d + 1 ≡ suc d = omega arith in rw (split s i h, e, n) (open_way d (drop (i + 1) s))

  -- a `)` at a place is a way to one open parenthesis fewer, where one is open
  pub close_at : get_or s i 0 ≡ 41 → (d ≡ 0 → ⊥) → Way d (d - 1) (drop i s) (drop (i + 1) s)
  close_at e k = let n : suc (d - 1) ≡ d = omega arith in
      rw (split s i h, e) (rw n at (close_way (d - 1) (drop (i + 1) s)))

  -- a byte at a place that is none of the five marked ones is a way that leaves the depth as it is
  pub other_at : (get_or s i 0 ≡ 39 → ⊥) → (get_or s i 0 ≡ 40 → ⊥) → (get_or s i 0 ≡ 41 → ⊥) → (get_or s i 0 ≡ 47 → ⊥) → (get_or s i 0 ≡ 59 → ⊥) → Way d d (drop i s) (drop (i + 1) s)
  other_at a b c e f = rw (split s i h) (way_other d (get_or s i 0) (drop (i + 1) s) a b c e f)

  -- a string at a place, without a `;` and without a doubled quote, is a way that leaves the depth as it is
  pub string_at_lem : (q : ℕ) → get_or s i 0 ≡ 39 → drop q s ≡ past spoken (drop (i + 1) s) → q < length s → get_or s q 0 ≡ 39
      → (Begins 39 (drop (q + 1) s) → ⊥) → Way d d (drop i s) (drop (q + 1) s)
  string_at_lem q e p k g o =
      let (f, x, y) = past_is spoken (drop (i + 1) s) in
      let u : drop q s ≡ 39 ∷ drop (q + 1) s = split s q k ∙ ap (λ (c : ℕ). c ∷ drop (q + 1) s) g in
      let z : drop (i + 1) s ≡ f ++ (39 ∷ drop (q + 1) s) = x ∙ ap (λ (l : List ℕ). f ++ l) (sym p ∙ u) in
      let v : drop i s ≡ 39 ∷ (f ++ (39 ∷ drop (q + 1) s)) = split s i h ∙ cc in
      rw v (string_way d f (drop (q + 1) s) y.all o)

-- the place past whitespace, counted in a part that was handed on, is the one in the whole text
pub space_at : (t : List ℕ) (from r : ℕ) → from ≤ length t → drop r (take (length t - from) (drop from t)) ≡ past white (take (length t - from) (drop from t))
    → drop (from + r) t ≡ past white (drop from t)
space_at t from r h e =
    let n : take (length t - from) (drop from t) ≡ drop from t = take_all (length t - from) (drop from t) (omega (arith, length-drop from t)) in
    sym (drop-drop r from t) ∙ ap (drop r) (sym n) ∙ e ∙ ap (past white) n

-- where a step of the walk stops at the closing `)`, the walk has its way up to there
pub stop_at : (s : List ℕ) (from i j d : ℕ) → (j ≡ i) × (d ≡ 0) × (get_or s i 0 ≡ 41) → from ≤ i → Way 0 d (drop from s) (drop i s)
    → (from ≤ j) × (get_or s j 0 ≡ 41) × Way 0 0 (drop from s) (drop j s)
stop_at s from i j d (e, z, g) h w = (omega arith, rw e g, rw e (rw z at w))

-- One byte of a run of plain bytes, at a place.
module _ (s : List ℕ) (i : ℕ) (h : i < length s) where
  -- a run of plain bytes ends at a marked byte
  pub run_stops : is_looked_at (get_or s i 0) ≡ true → drop i s ≡ past is_plain_byte (drop i s)
  unfolding past
  run_stops e = past_stops s i h is_plain_byte (past is_plain_byte (drop i s)) (ap not e) refl

  -- a run of plain bytes goes on after a byte that is not marked
  pub run_goes : is_looked_at (get_or s i 0) ≡ false → past is_plain_byte (drop (i + 1) s) ≡ past is_plain_byte (drop i s)
  unfolding past
  run_goes e = past_goes s i h is_plain_byte (past is_plain_byte (drop i s)) (ap not e) refl
