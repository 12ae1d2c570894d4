-- What the code's search for a title gives: laws. Assumes nothing.
use Rattle.std.specs.Prelude.{ℕ, ◌≡◌, refl, List, Option, Result, Ok, Err}
use Rattle.std.proofs.Common.{sym, ◌∙◌, ap}
use Rattle.error.specs.Refusal.{Told, good, bad, told, told_result}
use Rattle.error.specs.declared.Fault.{Fault}
use Rattle.error.specs.declared.Fault.TheVariants.{NoMarker, TooLong, OpenComment, OpenString, NoEnd, OpenParen, BadRecord, NoRow, OutOfFile, NoParameter, OpenLiteral, WrongType, OutsideClass, NoRecord, TooDeep, TooShort}
use Rattle.params.specs.Reader.{param_of}
use Rattle.params.specs.Skips.{skips_of}
use Rattle.params.specs.Answer.{Read, read_mapped, told_read}
use Rattle.params.specs.declared.State.{State}
use Rattle.words.specs.Words.{string_at}
use Rattle.words.specs.Room.{room_of}
use Rattle.words.specs.declared.Text.{Text}
use Rattle.lookup.specs.Lookup.{FileSpan}
use Rattle.file_name_texts.specs.Title.{empty_text, as_title, title_in, room_in, title_by, room_by}

-- a text that is refused with another number than 16 is empty
pub fault_empty : (f : Fault) → ((p : ℕ) → f ≡ TooShort p → ⊥) → good empty_text ≡ as_title (bad (told f))
fault_empty NoMarker h = refl
fault_empty TooLong h = refl
fault_empty (OpenComment p) h = refl
fault_empty (OpenString p) h = refl
fault_empty (NoEnd p) h = refl
fault_empty (OpenParen p) h = refl
fault_empty (BadRecord r p) h = refl
fault_empty (NoRow p) h = refl
fault_empty OutOfFile h = refl
fault_empty (NoParameter p) h = refl
fault_empty (OpenLiteral p) h = refl
fault_empty (WrongType p) h = refl
fault_empty (OutsideClass p) h = refl
fault_empty NoRecord h = refl
fault_empty (TooDeep p) h = refl
fault_empty (TooShort p) h = absurd (h p refl)

-- a text for which the room is short is refused
pub fault_short : (f : Fault) (p : ℕ) → f ≡ TooShort p → bad (told f) ≡ as_title (bad (told f))
fault_short f p h = rw h refl

module _ (s o : List ℕ) (n k p e : ℕ) where
  -- where there are too few parameters, or a literal is open, the text is empty and the room stays
  pub title_few : (f : Fault) (t : State) → told_read {A = Unit {0}} (Err f) t ≡ skips_of k s p e → (good empty_text ≡ title_in s n k p e) × (o ≡ room_in s o k p e)
  unfolding title_in room_in
  title_few f t h = (rw (← h) refl, rw (← h) refl)

  -- where k parameters were passed, the text is that of the next one, and the room what that left
  pub title_read : (u : Unit {0}) (t v : State) (a : Result Text Fault) (x : Told Text) (m : List ℕ) → told_read (Ok u) t ≡ skips_of k s p e
      → told_read a v ≡ read_mapped (string_at s n) (param_of s t.place t.end) → m ≡ room_of s o (param_of s t.place t.end).answer → x ≡ as_title (told_result a) → (x ≡ title_in s n k p e) × (m ≡ room_in s o k p e)
  unfolding title_in room_in
  title_read u t v a x m h f g l =
      let b : told_result a ≡ (read_mapped (string_at s n) (param_of s t.place t.end)).answer = ap (λ (z : Read Text). z.answer) f in
      (l ∙ ap as_title b ∙ rw (← h) refl, g ∙ rw (← h) refl)

-- the text by what a header search gives, and the room after it, are those by the search that is defined
pub title_by_lem : (s o : List ℕ) (n k : ℕ) (x y : Told (Option FileSpan)) (t : Told Text) (m : List ℕ) → x ≡ y → t ≡ title_by s n k x → m ≡ room_by s o k x → (t ≡ title_by s n k y) × (m ≡ room_by s o k y)
title_by_lem s o n k x y t m h f g = (f ∙ ap (title_by s n k) h, g ∙ ap (room_by s o k) h)
