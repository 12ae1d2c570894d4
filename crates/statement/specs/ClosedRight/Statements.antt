-- A statement that is a closed record is read the same wherever it stands, and what stands around a record has no part in where it
-- begins and ends. Assumes nothing.
use Rattle.std.specs.Prelude.{ℕ, ◌-◌, ◌≡◌, refl, List, [], ◌∷◌, ◌++◌, length}
use Rattle.std.proofs.Common.{sym, ◌∙◌, ap, arith, length-append, take_at}
use Rattle.std.proofs.lemmas.List.{append_cancel_right}
use Rattle.std.proofs.lemmas.Bool.{eqb-false}
use Rattle.common.specs.Compare.{clash}
use Rattle.error.specs.Refusal.{Refusal, refusal, Told, good, bad}
use Rattle.lex.specs.Byte.{place}
use Rattle.lex.specs.Grammar.{Begins, OpensComment, Trivia, Led}
use Rattle.lex.specs.Search.{trivia, record_end}
use Rattle.lex.specs.Answer.{Sought, at, fault}
use Rattle.lex.specs.Local.{end_local}
use Rattle.lex.specs.Right.{end_is, trivia_is, trivia_only, trivia_local, trivia_here}
use Rattle.record.specs.Text.{before}
use Rattle.record.specs.Word.{word_of}
use Rattle.record.specs.declared.Word.{Word}
use Rattle.record.specs.declared.Word.TheVariants.{Header, Data, EndSection, EndFile, Other}
use Rattle.statement.specs.Rows.{Row, HeaderRow, Stmt, reading_ends, statement_refused, section_now, header_statement, data_statement}
use Rattle.statement.specs.Row.{record_of, header_of}
use Rattle.statement.specs.Statement.{header_stated, recorded, worded, ended, begun, after_trivia, statement}
use Rattle.statement.specs.Closed.{ClosedData, ClosedHeader, ClosedFrom}
use Rattle.statement.specs.ClosedRight.{row_from, record_row, header_row_from, closed_header_row, closed_hash}
use Rattle.record.specs.HashOther.{hash_other}
use Rattle.statement.specs.declared.Section.{Section}
use Rattle.statement.specs.declared.Section.TheVariants.{Outside, InHeader, InData}

-- a record's text is what stands before its `;`
before_end : (b r : List ℕ) → before (b ++ (59 ∷ r)) (59 ∷ r) ≡ b
before_end b r = take_at b (59 ∷ r) (length (b ++ (59 ∷ r)) - length (59 ∷ r)) (simp length-append (omega arith))

-- a statement that begins with a record's text is that of the search for the record's end
begun_is : (s : List ℕ) (sec : Section) (b r : List ℕ) → begun s sec (b ++ (59 ∷ r)) ≡ ended s (b ++ (59 ∷ r)) sec (record_end (b ++ (59 ∷ r)))
begun_is s sec [] r = refl
begun_is s sec (c ∷ b) r = refl

-- trivia t lead up to a record with the text b, and r follows its `;`
pub record StandsAsRecord (t b r : List ℕ) : Type 0 where
  pub lead : trivia (t ++ (b ++ (59 ∷ r))) ≡ at (b ++ (59 ∷ r))
  pub end : record_end (b ++ (59 ∷ r)) ≡ at (59 ∷ r)

-- where no trivia begins with b before one rest, none begins with b before any other
unled : (b r y : List ℕ) → Led (b ++ (59 ∷ r)) (b ++ (59 ∷ r)) → Led (b ++ (59 ∷ y)) (b ++ (59 ∷ y))
unled b r y l = record { before = Trivia.none; unblank = λ c w (u, e). l.unblank c w (blank b e); unopened = λ (u, e). l.unopened (opens b e) }
  where
    blank : (b : List ℕ) {c : ℕ} {u : List ℕ} → b ++ (59 ∷ y) ≡ c ∷ u → Begins c (b ++ (59 ∷ r))
    blank [] e = (r, cc)
    blank (d ∷ b) e = (b ++ (59 ∷ r), cc)

    opens : (b : List ℕ) {u : List ℕ} → b ++ (59 ∷ y) ≡ 47 ∷ 42 ∷ u → OpensComment (b ++ (59 ∷ r))
    opens [] e = absurd (eqb-false 59 47 refl (cc))
    opens (d ∷ []) e = absurd (eqb-false 59 42 refl (cc))
    opens (d ∷ c ∷ b) e = (b ++ (59 ∷ r), cc)

-- trivia t that lead to some rest are passed before any other rest
lead_any : (t ys : List ℕ) → trivia (t ++ ys) ≡ at ys → (zs : List ℕ) → trivia (t ++ zs) ≡ trivia zs
lead_any t ys h zs =
    let (u, e, l) = trivia_local (t ++ ys) ys h in
    let k : t ≡ u = append_cancel_right t u ys e in
    rw k (l zs)

-- a record's text ends at its `;` whatever follows the `;`
text_any : (b r : List ℕ) → record_end (b ++ (59 ∷ r)) ≡ at (59 ∷ r) → (y : List ℕ) → record_end (b ++ (59 ∷ y)) ≡ at (59 ∷ y)
text_any b r h y =
    let (u, e, l) = end_local (b ++ (59 ∷ r)) r h in
    let k : b ≡ u = append_cancel_right b u (59 ∷ r) e in
    rw k (l y)

-- trivia and a record's text that stand before some rest stand before any other
pub stands_as_record_any : {t b r : List ℕ} → StandsAsRecord t b r → (y : List ℕ) → StandsAsRecord t b y
stands_as_record_any {t} {b} {r} h y =
    let l : trivia (b ++ (59 ∷ r)) ≡ at (b ++ (59 ∷ r)) = sym (lead_any t _ h.lead (b ++ (59 ∷ r))) ∙ h.lead in
    record {
      lead = lead_any t _ h.lead (b ++ (59 ∷ y)) ∙ trivia_only (unled b r y (trivia_is _ _ l));
      end = text_any b r h.end y;
    }

-- a data record's text may stand after another record's trivia, before any rest
pub stands_as_record_moved : {t b r u c v : List ℕ} → StandsAsRecord t b r → StandsAsRecord u c v → Begins 35 c → (y : List ℕ) → StandsAsRecord t c y
stands_as_record_moved {t} {b} {r} {u} {c} {v} h k (d, e) y = record {
  lead = lead_any t _ h.lead (c ++ (59 ∷ y)) ∙ rw e (trivia_here 35 (d ++ (59 ∷ y)) refl (eqb-false 35 47 refl));
  end = text_any c v k.end y;
}

-- what a record that is no section word says in its section, by its text b
abbrev pub text_in : List ℕ → List ℕ → List ℕ → Section → Stmt
text_in s b r Outside = section_now Outside r
text_in s b r InHeader = header_stated (b ++ (59 ∷ r)) r (header_of s (b ++ (59 ∷ r)) b)
text_in s b r InData = recorded (b ++ (59 ∷ r)) r (record_of s (b ++ (59 ∷ r)) b)

-- what a record says, by the word that its text b is
abbrev pub text_says : List ℕ → List ℕ → List ℕ → Section → Word → Stmt
text_says s b r sec EndSection = section_now Outside r
text_says s b r sec Header = section_now InHeader r
text_says s b r sec Data = section_now InData r
text_says s b r sec EndFile = reading_ends
text_says s b r sec Other = text_in s b r sec

-- a statement is read by its text: beside that the file has a part in its rows alone
pub statement_says : (s : List ℕ) (sec : Section) {t b r : List ℕ} → StandsAsRecord t b r
    → statement s sec (t ++ (b ++ (59 ∷ r))) ≡ text_says s b r sec (word_of b)
unfolding statement
statement_says s sec {b} {r} h = rw (h.lead, begun_is s sec b r, h.end, before_end b r) (go (word_of b) sec)
  where
    go : (w : Word) (sec : Section) → worded s (b ++ (59 ∷ r)) (59 ∷ r) sec w ≡ text_says s b r sec w
    go EndSection sec = refl
    go Header sec = refl
    go Data sec = refl
    go EndFile sec = refl
    go Other Outside = refl
    go Other InHeader = rw (before_end b r) refl
    go Other InData = rw (before_end b r) refl

-- a statement that is a closed data record gives its row, wherever it stands: q precedes the record in the file s
pub statement_local : {t b r : List ℕ} (c : ClosedData b) (s q : List ℕ) → s ≡ q ++ (b ++ (59 ∷ r)) → StandsAsRecord t b r
    → statement s InData (t ++ (b ++ (59 ∷ r))) ≡ data_statement (row_from (length q) c) (b ++ (59 ∷ r)) r
statement_local {b} {r} c s q e h =
    let (u, g) = closed_hash c in
    let w : word_of b ≡ Other = rw g (hash_other u) in
    statement_says s InData h ∙ rw (w, e, record_row c q (59 ∷ r)) refl

-- a statement that is a closed header record gives its row, wherever it stands: q precedes the record in the file s
pub statement_header_local : {t b r : List ℕ} (c : ClosedHeader b) (s q : List ℕ) → s ≡ q ++ (b ++ (59 ∷ r)) → StandsAsRecord t b r → word_of b ≡ Other
    → statement s InHeader (t ++ (b ++ (59 ∷ r))) ≡ header_statement (header_row_from (length q) c) (b ++ (59 ∷ r)) r
statement_header_local {b} {r} c s q e h w = statement_says s InHeader h ∙ rw (w, e, closed_header_row c q (59 ∷ r)) refl

-- what a statement is, by what it says: a record stands there, and its section, or it leads on so in every file and whatever follows
pub data StatementCase (s : List ℕ) (sec : Section) (xs : List ℕ) : Stmt → Type 0 where
  over : ((f : List ℕ) → statement f sec xs ≡ reading_ends) → StatementCase s sec xs reading_ends
  faulty : (q : Refusal) → StatementCase s sec xs (statement_refused q)
  turn : (t b r : List ℕ) (to : Section) → xs ≡ t ++ (b ++ (59 ∷ r)) → StandsAsRecord t b r
      → ((f y : List ℕ) → statement f sec (t ++ (b ++ (59 ∷ y))) ≡ section_now to y) → StatementCase s sec xs (section_now to r)
  heading : (t b r : List ℕ) (w : HeaderRow) → xs ≡ t ++ (b ++ (59 ∷ r)) → StandsAsRecord t b r → sec ≡ InHeader → word_of b ≡ Other
      → StatementCase s sec xs (header_statement w (b ++ (59 ∷ r)) r)
  entry : (t b r : List ℕ) (w : Row) → xs ≡ t ++ (b ++ (59 ∷ r)) → StandsAsRecord t b r → sec ≡ InData → StatementCase s sec xs (data_statement w (b ++ (59 ∷ r)) r)

-- what is made of a record that stands after trivia, by the word that it is
module _ (s : List ℕ) (sec : Section) (xs : List ℕ) {t b r : List ℕ} (e : xs ≡ t ++ (b ++ (59 ∷ r))) (h : StandsAsRecord t b r) where
  stood_over : ((f y : List ℕ) → text_says f b y sec (word_of b) ≡ reading_ends) → StatementCase s sec xs reading_ends
  stood_over g = StatementCase.over (λ f. rw e (statement_says f sec h ∙ g f r))

  stood_turn : (to : Section) → ((f y : List ℕ) → text_says f b y sec (word_of b) ≡ section_now to y) → StatementCase s sec xs (section_now to r)
  stood_turn to g = StatementCase.turn t b r to e h (λ f y. statement_says f sec (stands_as_record_any h y) ∙ g f y)

  stood_header : sec ≡ InHeader → word_of b ≡ Other → (x : Told HeaderRow) → StatementCase s sec xs (header_stated (b ++ (59 ∷ r)) r x)
  stood_header i w (good v) = StatementCase.heading t b r v e h i w
  stood_header i w (bad q) = StatementCase.faulty q

  stood_record : sec ≡ InData → (x : Told Row) → StatementCase s sec xs (recorded (b ++ (59 ∷ r)) r x)
  stood_record i (good v) = StatementCase.entry t b r v e h i
  stood_record i (bad q) = StatementCase.faulty q

  stood : (w : Word) (to : Section) → word_of b ≡ w → sec ≡ to → StatementCase s sec xs (text_says s b r to w)
  stood EndSection to p i = stood_turn Outside (λ f y. rw p refl)
  stood Header to p i = stood_turn InHeader (λ f y. rw p refl)
  stood Data to p i = stood_turn InData (λ f y. rw p refl)
  stood EndFile to p i = stood_over (λ f y. rw p refl)
  stood Other Outside p i = stood_turn Outside (λ f y. rw (p, i) refl)
  stood Other InHeader p i = stood_header i p (header_of s (b ++ (59 ∷ r)) b)
  stood Other InData p i = stood_record i (record_of s (b ++ (59 ∷ r)) b)

-- every statement is a `StatementCase`, by what it says
pub step : (s : List ℕ) (sec : Section) (xs : List ℕ) → StatementCase s sec xs (statement s sec xs)
unfolding statement
step s sec xs = go (trivia xs) refl
  where
    found : (c : ℕ) (ys : List ℕ) → trivia xs ≡ at (c ∷ ys) → (z : Sought) → record_end (c ∷ ys) ≡ z → StatementCase s sec xs (after_trivia s sec (trivia xs))
    found c ys e (fault n o) g = rw (e, g) (StatementCase.faulty (refusal n 0 (place s o)))
    found c ys e (at zs) g =
        let (t, p, l) = trivia_local xs (c ∷ ys) e in
        let (r, q, u) = end_is (c ∷ ys) zs g in
        let (b, k, m) = end_local (c ∷ ys) r (g ∙ ap at q) in
        let f : xs ≡ t ++ (b ++ (59 ∷ r)) = cc in
        let a : StandsAsRecord t b r = record { lead = cc; end = m r } in
        let n : after_trivia s sec (trivia xs) ≡ text_says s b r sec (word_of b) = rw f (statement_says s sec a) in
        rw n (stood s sec xs f a (word_of b) sec refl refl)

    go : (z : Sought) → trivia xs ≡ z → StatementCase s sec xs (after_trivia s sec (trivia xs))
    go (fault n o) e = rw e (StatementCase.faulty (refusal n 0 (place s o)))
    go (at []) e = rw e (StatementCase.over (λ f. rw e refl))
    go (at (c ∷ ys)) e = found c ys e (record_end (c ∷ ys)) refl

-- a statement that gives a data row is a record that stands there, in the data section
pub data_stands : (s : List ℕ) (sec : Section) (xs : List ℕ) (w : Row) (b r : List ℕ) → statement s sec xs ≡ data_statement w (b ++ (59 ∷ r)) r
    → (t : List ℕ) × (xs ≡ t ++ (b ++ (59 ∷ r))) × StandsAsRecord t b r × (sec ≡ InData)
data_stands s sec xs w b r h = go (rw h at (step s sec xs)) refl
  where
    go : {ys : List ℕ} → StatementCase s sec xs (data_statement w ys r) → ys ≡ b ++ (59 ∷ r)
        → (t : List ℕ) × (xs ≡ t ++ (b ++ (59 ∷ r))) × StandsAsRecord t b r × (sec ≡ InData)
    go (StatementCase.entry t c y v e k i) g = let f : c ≡ b = append_cancel_right c b (59 ∷ y) g in (t, rw f at e, rw f at k, i)

-- a statement that gives a header row is a record that stands there, in the header, and no section word
pub header_stands : (s : List ℕ) (sec : Section) (xs : List ℕ) (w : HeaderRow) (b r : List ℕ) → statement s sec xs ≡ header_statement w (b ++ (59 ∷ r)) r
    → (t : List ℕ) × (xs ≡ t ++ (b ++ (59 ∷ r))) × StandsAsRecord t b r × (sec ≡ InHeader) × (word_of b ≡ Other)
header_stands s sec xs w b r h = go (rw h at (step s sec xs)) refl
  where
    go : {ys : List ℕ} → StatementCase s sec xs (header_statement w ys r) → ys ≡ b ++ (59 ∷ r)
        → (t : List ℕ) × (xs ≡ t ++ (b ++ (59 ∷ r))) × StandsAsRecord t b r × (sec ≡ InHeader) × (word_of b ≡ Other)
    go (StatementCase.heading t c y v e k i l) g = let f : c ≡ b = append_cancel_right c b (59 ∷ y) g in (t, rw f at e, rw f at k, i, rw f at l)

-- the row that a statement gives of a closed data record is `row_from` at the record's start
pub closed_data_row : {b : List ℕ} (c : ClosedData b) (s q : List ℕ) (sec : Section) (xs : List ℕ) (w : Row) (r : List ℕ) → s ≡ q ++ (b ++ (59 ∷ r))
    → statement s sec xs ≡ data_statement w (b ++ (59 ∷ r)) r → w ≡ row_from (length q) c
closed_data_row {b} c s q sec xs w r g h =
    let (t, e, k, i) = data_stands s sec xs w b r h in
    cc (statement_local c s q g k)

-- what follows a statement in a closed file
module _ {s : List ℕ} {sec : Section} {xs : List ℕ} where
  -- what follows a section word or an ignored record in a closed file is closed
  pub closed_turn : ClosedFrom s sec xs → (to : Section) (r : List ℕ) → statement s sec xs ≡ section_now to r → ClosedFrom s to r
  closed_turn (ClosedFrom.over e) to r h = clash (cc)
  closed_turn (ClosedFrom.turn {to = u} {r = y} e c) to r h =
      let f : u ≡ to = cc in
      let g : y ≡ r = cc in
      rw (f, g) at c
  closed_turn (ClosedFrom.heading e d c) to r h = clash (cc)
  closed_turn (ClosedFrom.entry e d c) to r h = clash (cc)

  -- a data record in a closed file is closed, and so is what follows it
  pub closed_entry : ClosedFrom s sec xs → (w : Row) (b r : List ℕ) → statement s sec xs ≡ data_statement w (b ++ (59 ∷ r)) r
      → ClosedData b × ClosedFrom s InData r
  closed_entry (ClosedFrom.over e) w b r h = clash (cc)
  closed_entry (ClosedFrom.turn e c) w b r h = clash (cc)
  closed_entry (ClosedFrom.heading e d c) w b r h = clash (cc)
  closed_entry (ClosedFrom.entry {b = a} {r = y} e d c) w b r h =
      let g : y ≡ r = cc in
      let f : a ≡ b = append_cancel_right a b (59 ∷ r) (cc) in
      (rw f at d, rw g at c)
