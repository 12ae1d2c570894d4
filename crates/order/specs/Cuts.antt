-- A closed file has just one cut, and what it is made of. Assumes nothing.
use Rattle.std.specs.Prelude.{ℕ, ◌≡◌, refl, List, [], ◌∷◌, ◌++◌}
use Rattle.std.proofs.Common.{sym, ◌∙◌, append_assoc}
use Rattle.std.proofs.lemmas.List.{append_cancel_right}
use Rattle.common.specs.Compare.{clash}
use Rattle.statement.specs.Rows.{Row, HeaderRow, reading_ends, section_now, header_statement, data_statement}
use Rattle.statement.specs.Statement.{statement}
use Rattle.statement.specs.Closed.{ClosedData, ClosedHeader, ClosedFrom}
use Rattle.statement.specs.ClosedRight.Statements.{stands_as_record_any, StatementCase, step, data_stands, header_stands}
use Rattle.statement.specs.declared.Section.{Section}
use Rattle.statement.specs.declared.Section.TheVariants.{InHeader, InData}
use Rattle.order.specs.Order.{CutFile, no_more_records, next_record, fronted_by, texts, file_with, Cuts}
use Rattle.order.specs.Shape.{AllFitTexts, FileShape, led_filled, led_texts}

-- a file has only one cut
pub cuts_one : {s : List ℕ} {sec : Section} {xs : List ℕ} {c d : CutFile} → Cuts s sec xs c → Cuts s sec xs d → c ≡ d
cuts_one (Cuts.over e) (Cuts.over k) = refl
cuts_one (Cuts.over e) (Cuts.turn h q k b) = clash (cc)
cuts_one (Cuts.over e) (Cuts.heading h q k b) = clash (cc)
cuts_one (Cuts.over e) (Cuts.entry q k b) = clash (cc)
cuts_one (Cuts.turn g p e a) (Cuts.over k) = clash (cc)
cuts_one {s} (Cuts.turn {to} {r} {c} g p e a) (Cuts.turn {to = to'} {r = r'} {c = d} h q k b) =
    let i : to' ≡ to = cc in
    let j : r' ≡ r = cc in
    let n : g ≡ h = append_cancel_right g h r (cc) in
    rw (n, cuts_one a (rw (i, j) at b)) refl
cuts_one (Cuts.turn g p e a) (Cuts.heading h q k b) = clash (cc)
cuts_one (Cuts.turn g p e a) (Cuts.entry q k b) = clash (cc)
cuts_one (Cuts.heading g p e a) (Cuts.over k) = clash (cc)
cuts_one (Cuts.heading g p e a) (Cuts.turn h q k b) = clash (cc)
cuts_one (Cuts.heading {r} g p e a) (Cuts.heading {r = r'} h q k b) =
    let j : r' ≡ r = cc in
    let n : g ≡ h = append_cancel_right g h r (cc) in
    rw (n, cuts_one a (rw j at b)) refl
cuts_one (Cuts.heading g p e a) (Cuts.entry q k b) = clash (cc)
cuts_one (Cuts.entry p e a) (Cuts.over k) = clash (cc)
cuts_one (Cuts.entry p e a) (Cuts.turn h q k b) = clash (cc)
cuts_one (Cuts.entry p e a) (Cuts.heading h q k b) = clash (cc)
cuts_one (Cuts.entry {g} {b = x} {r} p e a) (Cuts.entry {g = h} {b = y} {r = r'} q k b) =
    let j : r' ≡ r = cc in
    let m : y ≡ x = append_cancel_right y x (59 ∷ r) (cc) in
    let n : g ≡ h = append_cancel_right g h (x ++ (59 ∷ r)) (cc) in
    rw (m, n, cuts_one a (rw j at b)) refl

-- the file with each record's own text in its place is the file
pub filled_own : {s : List ℕ} {sec : Section} {xs : List ℕ} {c : CutFile} → Cuts s sec xs c → file_with c (texts c) ≡ xs
filled_own (Cuts.over e) = refl
filled_own (Cuts.turn {c} g p e a) = rw (led_texts g c, led_filled g c (texts c), filled_own a) (sym p)
filled_own (Cuts.heading {c} g p e a) = rw (led_texts g c, led_filled g c (texts c), filled_own a) (sym p)
filled_own (Cuts.entry {g} {b} {c} p e a) = rw (led_texts (59 ∷ []) c, led_filled (59 ∷ []) c (texts c), filled_own a) (sym p)

-- the cut of a closed file, with how it is read
pub record Shaped (s : List ℕ) (sec : Section) (xs : List ℕ) : Type 0 where
  pub pieces : CutFile
  pub cuts : Cuts s sec xs pieces
  pub heads : List (List ℕ)
  pub shape : FileShape sec pieces heads
  pub fit : AllFitTexts (texts pieces)

-- what is read in a section is read so in one that is equal
shape_in : {a b : Section} {c : CutFile} {hs : List (List ℕ)} → a ≡ b → FileShape b c hs → FileShape a c hs
shape_in i d = rw i d

-- How a closed file is read and cut, one statement after the other.
module _ {s : List ℕ} {sec : Section} {xs : List ℕ} where
  shaped_over : statement s sec xs ≡ reading_ends → Shaped s sec xs
  shaped_over e = go (rw e at (step s sec xs))
    where
      go : StatementCase s sec xs reading_ends → Shaped s sec xs
      go (StatementCase.over k) = record { pieces = no_more_records xs; cuts = Cuts.over e; heads = []; shape = FileShape.over k; fit = tt }

  shaped_turn : {to : Section} {r : List ℕ} → statement s sec xs ≡ section_now to r → Shaped s to r → Shaped s sec xs
  shaped_turn {to} {r} e d = go (rw e at (step s sec xs))
    where
      go : StatementCase s sec xs (section_now to r) → Shaped s sec xs
      go (StatementCase.turn t b r to p st k) =
          let q : xs ≡ ((t ++ b) ++ (59 ∷ [])) ++ r = p ∙ sym (append_assoc t b _) ∙ sym (append_assoc (t ++ b) (59 ∷ []) r) in
          record {
            pieces = fronted_by ((t ++ b) ++ (59 ∷ [])) d.pieces;
            cuts = Cuts.turn ((t ++ b) ++ (59 ∷ [])) q e d.cuts;
            heads = d.heads;
            shape = FileShape.turn {sec = sec} {to = to} (t ++ b) (λ f y. rw (append_assoc t b (59 ∷ y)) (k f y)) d.shape;
            fit = rw (led_texts ((t ++ b) ++ (59 ∷ [])) d.pieces) d.fit;
          }

  shaped_heading : {b r : List ℕ} {w : HeaderRow} → statement s sec xs ≡ header_statement w (b ++ (59 ∷ r)) r → ClosedHeader b → Shaped s InHeader r → Shaped s sec xs
  shaped_heading {b} {r} {w} e ch d =
      let (t, p, st, i, k) = header_stands s sec xs w b r e in
      let q : xs ≡ ((t ++ b) ++ (59 ∷ [])) ++ r = p ∙ sym (append_assoc t b _) ∙ sym (append_assoc (t ++ b) (59 ∷ []) r) in
      record {
        pieces = fronted_by ((t ++ b) ++ (59 ∷ [])) d.pieces;
        cuts = Cuts.heading ((t ++ b) ++ (59 ∷ [])) q e d.cuts;
        heads = b ∷ d.heads;
        shape = shape_in i (FileShape.heading t b ch (λ y. stands_as_record_any st y) k d.shape);
        fit = rw (led_texts ((t ++ b) ++ (59 ∷ [])) d.pieces) d.fit;
      }

  shaped_entry : {b r : List ℕ} {w : Row} → statement s sec xs ≡ data_statement w (b ++ (59 ∷ r)) r → ClosedData b → Shaped s InData r → Shaped s sec xs
  shaped_entry {b} {r} {w} e cd d =
      let (t, p, st, i) = data_stands s sec xs w b r e in
      record {
        pieces = next_record t b (fronted_by (59 ∷ []) d.pieces);
        cuts = Cuts.entry p e d.cuts;
        heads = d.heads;
        shape = shape_in i (FileShape.entry t b r st d.shape);
        fit = (record { closed = cd; before = t; after = r; stands = st }, rw (led_texts (59 ∷ []) d.pieces) d.fit);
      }

-- a closed file has a cut, and a shape by which it is read
pub closed_shaped : {s : List ℕ} {sec : Section} {xs : List ℕ} → ClosedFrom s sec xs → Shaped s sec xs
closed_shaped (ClosedFrom.over e) = shaped_over e
closed_shaped (ClosedFrom.turn e c) = shaped_turn e (closed_shaped c)
closed_shaped (ClosedFrom.heading e h c) = shaped_heading e h (closed_shaped c)
closed_shaped (ClosedFrom.entry e d c) = shaped_entry e d (closed_shaped c)
