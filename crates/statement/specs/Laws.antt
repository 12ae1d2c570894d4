-- What the definitions say at places of the file: the laws that the code's proofs cite.
-- Assumes nothing.
use Rattle.std.specs.Prelude.{ℕ, ◌+◌, ◌-◌, ◌≤◌, ◌<◌, List, length, take, drop, Result, Ok, Err}
use Rattle.std.proofs.Math.Path.{◌≡◌, refl, ap}
use Rattle.std.proofs.Common.{sym, ◌∙◌, arith, length-drop, length-take}
use Rattle.std.proofs.Math.Seq.{drop-drop}
use Rattle.common.specs.Lists.{split, drop_end}
use Rattle.error.specs.Refusal.{Refusal, refusal, Told, good, bad, told_reason}
use Rattle.error.specs.declared.Fault.{Fault}
use Rattle.error.specs.declared.Reason.{Reason}
use Rattle.lex.specs.Byte.{place}
use Rattle.lex.specs.Place.{place_drop}
use Rattle.lex.specs.Search.{trivia, record_end}
use Rattle.lex.specs.Answer.{Sought, at, fault, placed}
use Rattle.record.specs.Head.{data_head, header_head}
use Rattle.record.specs.Within.{HeadWithin, NamedWithin, data_within, header_within}
use Rattle.record.specs.declared.Head.{Head}
use Rattle.record.specs.declared.Head.TheVariants.{Complex, Simple}
use Rattle.record.specs.declared.Named.{Named}
use Rattle.common.specs.Walk.{walk}
use Rattle.lex.specs.At.{trivia_at, end_at}
use Rattle.record.specs.Text.{before}
use Rattle.record.specs.Word.{word_of}
use Rattle.record.specs.declared.Word.{Word}
use Rattle.statement.specs.Rows.{Row, HeaderRow, header_row, reading_ends, statement_refused, section_now, bound}
use Rattle.statement.specs.Row.{argued_to, record_of, header_of, opening_of, row_at}
use Rattle.statement.specs.Statement.{header_stated, recorded, in_section, worded, ended, begun, after_trivia, statement}
use Rattle.statement.specs.Answer.{Ahead}
use Rattle.statement.specs.declared.Said.{Said}
use Rattle.statement.specs.declared.Said.TheVariants.{Ends, Moves, Heads, Records}
use Rattle.statement.specs.declared.Section.{Section}
use Rattle.statement.specs.declared.Section.TheVariants.{Outside, InHeader, InData}

-- a place in a rest of the file is a place in the file
pub place_in_lem : (s : List ℕ) (p a : ℕ) → p + a ≤ length s → place s (drop a (drop p s)) ≡ p + a
place_in_lem s p a h = rw (drop-drop a p s) (place_drop s (p + a) h)

-- a record by its head, at places of the file
module _ (s body : List ℕ) (p : ℕ) where
  past_open : (o : ℕ) → p + o < length s → p + o + 1 ≡ place s (drop (o + 1) (drop p s))
  past_open o h = omega (arith, place_in_lem s p (o + 1) (omega arith))

  -- a data record with a bad head is refused with 7 and the head's reason, at the record's start p
  pub record_bad : (why : Reason) → p ≤ length s → data_head body ≡ Err why → bad (refusal 7 (told_reason why) p) ≡ record_of s (drop p s) body
  unfolding record_of
  record_bad why h e = rw (e, place_drop s p h) refl

  -- a data record's row, by its head and the search for its `)` from its `(` on
  pub record_made : (g : Head) → HeadWithin (length s - p) (Ok g) → p + opening_of g < length s → data_head body ≡ Ok g
      → argued_to (bound (drop p s) body) s (drop (p + opening_of g) s) (λ q. row_at p g (p + opening_of g + 1) q) ≡ record_of s (drop p s) body
  unfolding record_of
  record_made (Complex i o) w h e = rw (e, ← drop-drop o p s, past_open o h) refl
  record_made (Simple i a z o) w h e = rw (e, ← drop-drop o p s, past_open o h, place_in_lem s p a (omega arith), place_in_lem s p z (omega arith)) refl

  -- a header record with a bad head is refused with 7 and the head's reason, at the record's start p
  pub header_bad : (why : Reason) → p ≤ length s → header_head body ≡ Err why → bad (refusal 7 (told_reason why) p) ≡ header_of s (drop p s) body
  unfolding header_of
  header_bad why h e = rw (e, place_drop s p h) refl

  -- a header record's row, by the search for its `)` from its `(` on
  pub header_made : (n : Named) → p + n.start ≤ length s → p + n.end ≤ length s → p + n.opening < length s → header_head body ≡ Ok n
      → argued_to (bound (drop p s) body) s (drop (p + n.opening) s) (λ q. header_row (p + n.start) (p + n.end) (p + n.opening + 1) q) ≡ header_of s (drop p s) body
  unfolding header_of
  header_made n ha hz h e = rw (e, ← drop-drop n.opening p s, past_open n.opening h, place_in_lem s p n.start ha, place_in_lem s p n.end hz) refl

-- the arguments of a row by its head end where they are said to
pub row_ends : (p : ℕ) (g : Head) (b c : ℕ) → (row_at p g b c).arg_end ≡ c
row_ends p (Complex i o) b c = refl
row_ends p (Simple i a z o) b c = refl

-- the places of a head that are at most n are at most any greater number
pub within_more : (n m : ℕ) (g : Head) → n ≤ m → HeadWithin n (Ok g) → HeadWithin m (Ok g)
within_more n m (Complex i o) h w = omega arith
within_more n m (Simple i a z o) h w = (omega arith, omega arith, omega arith)

-- a head's `(` is one of its places
pub opening_within : (n : ℕ) (g : Head) → HeadWithin n (Ok g) → opening_of g ≤ n
opening_within n (Complex i o) w = w
opening_within n (Simple i a z o) w = omega arith

-- a record's text, from its start p up to its `;` at e, has e - p bytes
pub text_length : (s : List ℕ) (p e : ℕ) → p ≤ e → e ≤ length s → length (take (e - p) (drop p s)) ≡ e - p
text_length s p e h k = simp (length-take, length-drop) (omega arith)

-- the places of a head lie before the record's `;`
module _ (s : List ℕ) (p e : ℕ) (h : p ≤ e) (k : e < length s) where
  within : (r : Result Head Reason) → HeadWithin (length (take (e - p) (drop p s))) r → HeadWithin (e - p) r
  within r w = rw (text_length s p e h (omega arith)) at w

  -- the places of a data record's head do not lie behind its `;`
  pub head_fits : (g : Head) → data_head (take (e - p) (drop p s)) ≡ Ok g → HeadWithin (e - p) (Ok g)
  head_fits g q = within (Ok g) (rw q at (data_within (take (e - p) (drop p s))))

  -- the places of a header record's head do not lie behind its `;`
  pub header_fits : (n : Named) → header_head (take (e - p) (drop p s)) ≡ Ok n → NamedWithin (e - p) (Ok n)
  header_fits n q = rw (q, text_length s p e h (omega arith)) at (header_within (take (e - p) (drop p s)))

-- the bytes before a record's `;` are its text, by its places
pub before_at : (s : List ℕ) (p e : ℕ) → p ≤ e → e ≤ length s → before (drop p s) (drop e s) ≡ take (e - p) (drop p s)
before_at s p e h k =
    let n : length (drop p s) - length (drop e s) ≡ e - p = omega (arith, length-drop p s, length-drop e s) in
    ap (λ (m : ℕ). take m (drop p s)) n

-- a record in its section, at places of the file
module _ (s : List ℕ) (p e : ℕ) (h : p ≤ e) (k : e ≤ length s) where
  -- a record outside of every section is passed over
  pub section_outside : section_now Outside (drop (e + 1) s) ≡ in_section s (drop p s) (drop e s) Outside
  section_outside = ap (section_now Outside) (sym (drop-drop 1 e s))

  -- a record in the header is read as a header record
  pub section_header : (t : Told HeaderRow) → t ≡ header_of s (drop p s) (take (e - p) (drop p s)) → header_stated (drop p s) (drop (e + 1) s) t ≡ in_section s (drop p s) (drop e s) InHeader
  section_header t q = rw (before_at s p e h k, drop-drop 1 e s) (ap (header_stated (drop p s) (drop (e + 1) s)) q)

  -- a record in the data section is read as a data record
  pub section_data : (t : Told Row) → t ≡ record_of s (drop p s) (take (e - p) (drop p s)) → recorded (drop p s) (drop (e + 1) s) t ≡ in_section s (drop p s) (drop e s) InData
  section_data t q = rw (before_at s p e h k, drop-drop 1 e s) (ap (recorded (drop p s) (drop (e + 1) s)) q)

  -- a record that ends at e says what the word says that its text is
  pub worded_at : (sec : Section) (w : Word) → w ≡ word_of (take (e - p) (drop p s)) → worded s (drop p s) (drop e s) sec w ≡ ended s (drop p s) sec (at (drop e s))
  worded_at sec w q = ap (worded s (drop p s) (drop e s) sec) (q ∙ ap word_of (sym (before_at s p e h k)))

  -- the rest after a record is the rest after its `;`
  pub moved_at : (sec : Section) → section_now sec (drop (e + 1) s) ≡ section_now sec (drop 1 (drop e s))
  moved_at sec = ap (section_now sec) (sym (drop-drop 1 e s))

-- a statement whose first byte stands at p, by the search for the record's end
module _ (s : List ℕ) (p : ℕ) (sec : Section) (h : p < length s) where
  begun_is : begun s sec (drop p s) ≡ ended s (drop p s) sec (record_end (drop p s))
  begun_is = rw (split s p h) refl

  -- where the record's end is found at e, the statement is that of a record that ends there
  pub begun_found : (e : ℕ) → good e ≡ placed s (record_end (drop p s)) → ended s (drop p s) sec (at (drop e s)) ≡ begun s sec (drop p s)
  begun_found e q = ap (ended s (drop p s) sec) (sym (end_at s p e (omega arith) q).0) ∙ sym begun_is

  -- where the search for the record's end is refused, so is the statement
  pub begun_refused : (q : Refusal) → bad q ≡ placed s (record_end (drop p s)) → statement_refused q ≡ begun s sec (drop p s)
  begun_refused q r = go (record_end (drop p s)) refl r
    where
      go : (x : Sought) → record_end (drop p s) ≡ x → bad q ≡ placed s x → statement_refused q ≡ begun s sec (drop p s)
      go (at ys) e w = let z : ◌≡◌ {A = ℕ} 0 1 = cc in absurd (omega arith)
      go (fault n o) e w =
          let f : q ≡ refusal n 0 (place s o) = cc in
          ap statement_refused f ∙ ap (ended s (drop p s) sec) (sym e) ∙ sym begun_is

-- a statement from the place i on, by the search past trivia
module _ (s : List ℕ) (i : ℕ) (sec : Section) where
  -- from the file's end on, the reading ends
  pub statement_none : length s ≤ i → reading_ends ≡ statement s sec (drop i s)
  unfolding statement trivia walk
  statement_none h = rw (drop_end s i h) refl

  -- where the trivia end at p, the statement is the one that begins there
  pub statement_found : (p : ℕ) → i ≤ length s → good p ≡ placed s (trivia (drop i s)) → begun s sec (drop p s) ≡ statement s sec (drop i s)
  unfolding statement
  statement_found p h q = ap (after_trivia s sec) (sym (trivia_at s i p h q).0)

  -- where the trivia end at the file's end, the reading ends
  pub statement_over : (p : ℕ) → i ≤ length s → good p ≡ placed s (trivia (drop i s)) → length s ≤ p → reading_ends ≡ statement s sec (drop i s)
  statement_over p h q k = rw (← statement_found p h q, drop_end s p k) refl

  -- where the trivia are refused, so is the statement
  pub statement_refused_lem : (q : Refusal) → bad q ≡ placed s (trivia (drop i s)) → statement_refused q ≡ statement s sec (drop i s)
  unfolding statement
  statement_refused_lem q r = go (trivia (drop i s)) refl r
    where
      go : (x : Sought) → trivia (drop i s) ≡ x → bad q ≡ placed s x → statement_refused q ≡ after_trivia s sec (trivia (drop i s))
      go (at ys) e w = let z : ◌≡◌ {A = ℕ} 0 1 = cc in absurd (omega arith)
      go (fault n o) e w =
          let f : q ≡ refusal n 0 (place s o) = cc in
          ap statement_refused f ∙ ap (after_trivia s sec) (sym e)

-- an answer of `next_statement` that lies after a later place lies after an earlier one
pub ahead_from : (i p n : ℕ) (r : Result Said Fault) → i ≤ p → Ahead p n r → Ahead i n r
ahead_from i p n (Err f) h w = tt
ahead_from i p n (Ok Ends) h w = tt
ahead_from i p n (Ok (Moves sec q)) h w = (omega arith, omega arith)
ahead_from i p n (Ok (Heads r b q)) h w = (omega arith, omega arith, omega arith)
ahead_from i p n (Ok (Records r b q)) h w = (omega arith, omega arith, omega arith)
