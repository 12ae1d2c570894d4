-- A usual record is the statement that Statement.antt says: its `;` is the record's end, its `)` the closing one, and its head the one of
-- the record's text. Assumes nothing.
use Rattle.std.specs.Prelude.{ℕ, suc, ◌+◌, ◌-◌, ◌≤◌, ◌<◌, ◌≡◌, refl, List, [], ◌∷◌, ◌++◌, length, take, drop, get_or, eqb, not, Some, Ok}
use Rattle.std.proofs.Common.{sym, ◌∙◌, ap, arith, length-drop, length-take, length-append, take-append-drop, drop-drop, ne_eqb, eq-eqb}
use Rattle.std.proofs.Math.ListN.{get_or-append}
use Rattle.std.proofs.Math.Seq.{take-append-add, take-append_seam}
use Rattle.common.specs.Lists.{split}
use Rattle.common.specs.Compare.{clash}
use Rattle.error.specs.Refusal.{good}
use Rattle.lex.specs.Byte.{white}
use Rattle.lex.specs.Place.{place_drop}
use Rattle.lex.specs.Grammar.{Trivia, Led}
use Rattle.lex.specs.Search.{record_end, closing, trivia, semicolon, paren, missed}
use Rattle.lex.specs.Answer.{Sought, at, placed}
use Rattle.lex.specs.Local.{seek_halts}
use Rattle.lex.specs.Right.{trivia_only}
use Rattle.lex.specs.Right.Steps.{plainly}
use Rattle.lex.specs.declared.Mode.TheVariants.{Plain}
use Rattle.record.specs.Text.{past}
use Rattle.record.specs.Form.{All, Free}
use Rattle.record.specs.FormRight.{past_is}
use Rattle.record.specs.FormRight.Parts.{all_kind}
use Rattle.record.specs.Head.{data_head}
use Rattle.record.specs.HashOther.{hash_word}
use Rattle.record.specs.Word.{word_of}
use Rattle.record.specs.Within.{HeadWithin}
use Rattle.record.specs.declared.Head.{Head}
use Rattle.record.specs.declared.Head.TheVariants.{Complex, Simple}
use Rattle.record.specs.declared.Word.TheVariants.{Other}
use Rattle.statement.specs.Rows.{Row, data_statement, mapped}
use Rattle.statement.specs.Row.{argued, record_of, opening_of, row_at}
use Rattle.statement.specs.Statement.{begun}
use Rattle.statement.specs.Laws.{text_length, within_more, record_made, section_data, worded_at, begun_found}
use Rattle.statement.specs.Tidy.{tidy}
use Rattle.statement.specs.TidyLaws.{end_stops}
use Rattle.statement.specs.Usual.{is_plain_byte, Way, Headed, Walked}
use Rattle.statement.specs.UsualLaws.{plain_other, mark_open, run_at, open_at, close_at}
use Rattle.statement.specs.declared.Section.TheVariants.{InData}

-- what the walk over a usual record finds is what the searches find
pub walked : (s : List ℕ) (p o c e : ℕ) → get_or s p 0 ≡ 35 → drop o s ≡ past is_plain_byte (drop p s) → p ≤ o → o < length s → get_or s o 0 ≡ 40
    → (o + 1 ≤ c) × (get_or s c 0 ≡ 41) × Way 0 0 (drop (o + 1) s) (drop c s) → c < length s
    → drop e s ≡ past is_plain_byte (drop (c + 1) s) → c + 1 ≤ e → e < length s → get_or s e 0 ≡ 59 → Walked s p o c e
unfolding record_end closing
walked s p o c e hash run po hos opn (oc, cls, way) hcs last ce hes fin =
    let w1 : Way 0 0 (drop p s) (drop o s) = run_at 0 s p o run in
    let w2 : Way 0 1 (drop o s) (drop (o + 1) s) = open_at s o 0 hos opn in
    let w3 : Way 1 0 (drop c s) (drop (c + 1) s) = close_at s c 1 hcs cls (λ z. omega arith) in
    let w4 : Way 0 0 (drop (c + 1) s) (drop e s) = run_at 0 s (c + 1) e last in
    let w : List ℕ = drop p s in
    let de : drop e s ≡ 59 ∷ drop (e + 1) s = split s e hes ∙ ap (λ (b : ℕ). b ∷ drop (e + 1) s) fin in
    let dc : drop c s ≡ 41 ∷ drop (c + 1) s = split s c hcs ∙ ap (λ (b : ℕ). b ∷ drop (c + 1) s) cls in
    let od : drop 1 (drop o s) ≡ drop (o + 1) s = drop-drop 1 o s in
    record {
      hash = hash;
      opens = opn;
      closed = ap (λ (l : List ℕ). plainly paren 6 (drop o s) 0 l) od ∙ way.closes 6 (drop o s)
          ∙ ap (λ (l : List ℕ). plainly paren 6 (drop o s) 0 l) dc ∙ seek_halts paren (missed 6 (drop o s)) Plain 0 (41 ∷ drop (c + 1) s) 41 (drop (c + 1) s) refl refl ∙ ap at (sym dc);
      found = w1.ends 5 w ∙ w2.ends 5 w ∙ way.ends 5 w ∙ w3.ends 5 w ∙ w4.ends 5 w
          ∙ ap (λ (l : List ℕ). plainly semicolon 5 w 0 l) de ∙ seek_halts semicolon (missed 5 w) Plain 0 (59 ∷ drop (e + 1) s) 59 (drop (e + 1) s) refl refl ∙ ap at (sym de);
      first = w1.first ∙ w2.first ∙ way.first ∙ w3.first ∙ w4.first ∙ sym (end_stops s e hes fin);
      from = po;
      over = omega arith;
      upto = omega arith;
      within = hes;
    }

-- no `(` stands before the first marked byte
pub run_free : (s : List ℕ) (p o : ℕ) → drop o s ≡ past is_plain_byte (drop p s) → p ≤ o → o ≤ length s → Free 40 (take (o - p) (drop p s))
run_free s p o e h k = let (f, x, y) = past_is is_plain_byte (drop p s) in go f (x ∙ ap (λ (l : List ℕ). f ++ l) (sym e)) y.all
  where
    go : (f : List ℕ) → drop p s ≡ f ++ drop o s → All is_plain_byte f → Free 40 (take (o - p) (drop p s))
    go f x a =
        let l : length (drop p s) ≡ length f + length (drop o s) = ap length x ∙ length-append f (drop o s) in
        let n : o - p ≡ length f = omega (arith, length-drop p s, length-drop o s) in
        let t : take (o - p) (drop p s) ≡ f = ap (λ (m : ℕ). take m (drop p s)) n ∙ ap (take (length f)) x ∙ take-append_seam f (drop o s) in
        rw t (all_kind is_plain_byte (λ d. not (eqb d 40)) f (λ c q. rw (ne_eqb c 40 (plain_other 40 c mark_open q)) refl) a)

module _ (s : List ℕ) (p o c e : ℕ) (w : Walked s p o c e) where
  -- a usual record's text begins with what stands before its `(`, and then the `(`
  body_is : take (e - p) (drop p s) ≡ take (o - p) (drop p s) ++ (40 ∷ take (e - o - 1) (drop (o + 1) s))
  body_is =
      let t : List ℕ = take (o - p) (drop p s) in
      let a = w.from in let b = w.over in let d = w.upto in let f = w.within in
      let n : p + (o - p) ≡ o = omega arith in
      let x : drop p s ≡ t ++ (40 ∷ drop (o + 1) s) =
      sym (take-append-drop (o - p) (drop p s)) ∙ ap (λ (l : List ℕ). t ++ l)
      (drop-drop (o - p) p s ∙ ap (λ (k : ℕ). drop k s) n ∙ split s o (omega arith) ∙ ap (λ (y : ℕ). y ∷ drop (o + 1) s) w.opens) in
      let l : length t ≡ o - p = length-take (o - p) (drop p s) ∙ omega (arith, length-drop p s) in
      let m : e - p ≡ length t + suc (e - o - 1) = omega arith in
      ap (λ (k : ℕ). take k (drop p s)) m ∙ ap (take (length t + suc (e - o - 1))) x ∙ take-append-add t (40 ∷ drop (o + 1) s) (suc (e - o - 1))

  -- a usual record's text is no section word
  word_is : Other ≡ word_of (take (e - p) (drop p s))
  word_is =
      let a = w.from in let b = w.over in let d = w.upto in let f = w.within in
      let l : length (take (e - p) (drop p s)) ≡ e - p = text_length s p e (omega arith) (omega arith) in
      let g : get_or (drop p s) 0 0 ≡ 35 = ap (λ (y : List ℕ). get_or y 0 0) (split s p (omega arith)) ∙ w.hash in
      let h : get_or (take (e - p) (drop p s)) 0 0 ≡ 35 =
      sym (get_or-append (take (e - p) (drop p s)) (drop (e - p) (drop p s)) 0 0 (omega arith))
      ∙ ap (λ (y : List ℕ). get_or y 0 0) (take-append-drop (e - p) (drop p s)) ∙ g in
      hash_word (take (e - p) (drop p s)) (omega arith) h

  -- what a usual record's text gives as a row is what the statement says
  said : (r : Row) → good r ≡ record_of s (drop p s) (take (e - p) (drop p s)) → data_statement r (drop p s) (drop (e + 1) s) ≡ begun s InData (drop p s)
  said r q =
      let a = w.from in let b = w.over in let d = w.upto in let f = w.within in
      let g : good e ≡ placed s (record_end (drop p s)) = sym (ap (placed s) w.found ∙ ap good (place_drop s e (omega arith))) in
      section_data s p e (omega arith) (omega arith) (good r) q ∙ worded_at s p e (omega arith) (omega arith) InData Other word_is
      ∙ begun_found s p InData (omega arith) e g

  -- a usual record's arguments run up to the closing `)`
  argued_is : (f : ℕ → Row) → good (f c) ≡ argued s (drop o s) f
  argued_is f = let a = w.upto in let b = w.within in
      sym (ap (λ (x : Sought). mapped f (placed s x)) w.closed ∙ ap (λ (k : ℕ). good (f k)) (place_drop s c (omega arith)))

  -- a usual record is tidy where its `)` stands just before its `;`, whatever else is in its row
  pub tidy_walked : (r : Row) → r.arg_end ≡ c → eqb (c + 1) e ≡ tidy s (data_statement r (drop p s) (drop (e + 1) s))
  tidy_walked r h = let d = w.within in
      rw (h, w.first, place_drop s e (omega arith), place_drop s (e + 1) (omega arith), eq-eqb (e + 1) (e + 1) refl) refl

  -- the places of a usual record's head lie before its `(`, which is the head's
  pub usual_fits : (g : Head) → Headed (take (o - p) (drop p s)) (Some g) → HeadWithin (o - p) (Ok g) × (p + opening_of g ≡ o)
  usual_fits g h =
      let a = w.from in let b = w.over in let d = w.upto in let f = w.within in
      go g (length-take (o - p) (drop p s) ∙ omega (arith, length-drop p s)) h
    where
      go : (g : Head) → length (take (o - p) (drop p s)) ≡ o - p → Headed (take (o - p) (drop p s)) (Some g) → HeadWithin (o - p) (Ok g) × (p + opening_of g ≡ o)
      go (Complex i k) l (z, h) = let a = w.from in (omega arith, omega arith)
      go (Simple i x y k) l (u, v, z, h) = let a = w.from in ((omega arith, omega arith, omega arith), omega arith)

  -- a usual record's head is that of its text
  usual_head : (g : Head) → Headed (take (o - p) (drop p s)) (Some g) → data_head (take (e - p) (drop p s)) ≡ Ok g
  usual_head (Complex i k) (z, h) = ap data_head body_is ∙ sym (h _)
  usual_head (Simple i x y k) (u, v, z, h) = ap data_head body_is ∙ sym (h _)

  -- a usual record with this head is the statement that begins at p
  pub usual_said : (g : Head) → Headed (take (o - p) (drop p s)) (Some g) → data_statement (row_at p g (o + 1) c) (drop p s) (drop (e + 1) s) ≡ begun s InData (drop p s)
  usual_said g h =
      let a = w.from in let b = w.over in let d = w.upto in let f = w.within in
      let (l, m) = usual_fits g h in
      said (row_at p g (o + 1) c) (argued_is (λ q. row_at p g (o + 1) q)
      ∙ (rw m at (record_made s (take (e - p) (drop p s)) p g (within_more (o - p) (length s - p) g (omega arith) l) (omega arith) (usual_head g h))))

-- whitespace is trivia
pub blanks : (f r : List ℕ) → All white f → Trivia (f ++ r) r
blanks [] r h = Trivia.none
blanks (c ∷ f) r (h, t) = Trivia.blank h (blanks f r t)

-- past whitespace, before a byte that opens no comment, the trivia end
pub lead_at : (s : List ℕ) (i p : ℕ) → drop p s ≡ past white (drop i s) → p < length s → (get_or s p 0 ≡ 47 → ⊥) → good p ≡ placed s (trivia (drop i s))
lead_at s i p e h k =
    let (f, x, y) = past_is white (drop i s) in
    let l : Led (drop i s) (past white (drop i s)) = record {
      before = led_before f (past white (drop i s)) x y.all;
      unblank = λ c w (r, g). let z = y.over c r g in clash (cc);
      unopened = λ (r, g). k (let z : get_or s p 0 ∷ drop (p + 1) s ≡ 47 ∷ 42 ∷ r = sym (split s p h) ∙ e ∙ g in cc);
    } in
    sym (ap (placed s) (trivia_only l ∙ ap at (sym e)) ∙ ap good (place_drop s p (omega arith)))
  where
    led_before : (f r : List ℕ) → drop i s ≡ f ++ r → All white f → Trivia (drop i s) r
    led_before f r x a = rw x (blanks f r a)
