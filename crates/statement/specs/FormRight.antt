-- Form.antt's rules and what Row.antt and Statement.antt compute are one: what is computed is so, and nothing else is; and the numbers
-- of the refusals that a statement can answer. Assumes nothing.
use Rattle.std.specs.Prelude.{ℕ, ◌+◌, ◌-◌, ◌≤◌, ◌<◌, ◌≡◌, refl, ◌⊎◌, List, [], ◌∷◌, ◌++◌, length, drop, Result, Ok, Err}
use Rattle.std.proofs.Common.{sym, ◌∙◌, ap, inl, inr, append_assoc, arith, length-append, take_at, drop_at, drop-drop}
use Rattle.std.proofs.Math.Option.{Option, none, some}
use Rattle.common.specs.Compare.{clash}
use Rattle.error.specs.Refusal.{Refusal, Told, good, bad}
use Rattle.lex.specs.Grammar.{Led, RecordRuns, Deep, OpenText, OpenRemark}
use Rattle.lex.specs.Search.{trivia, record_end, closing}
use Rattle.lex.specs.Answer.{Sought, at, fault, placed}
use Rattle.lex.specs.Local.{trivia_shorter, end_local}
use Rattle.lex.specs.Inside.{closes_any}
use Rattle.lex.specs.Right.{trivia_only, trivia_open_only, trivia_is, trivia_open, end_only, end_text_only, end_remark_only, end_over_only, end_is, record_end_open, closing_only, closing_text_only, closing_remark_only, closing_over_only, closing_is, closing_open}
use Rattle.record.specs.Text.{before}
use Rattle.record.specs.Word.{word_of}
use Rattle.record.specs.Head.{data_head, header_head}
use Rattle.record.specs.Form.{Keyword, WordForm, HeadForm, HeaderForm}
use Rattle.record.specs.FormRight.{headform_only, headform_is, headerform_only, headerform_is, wordform_only, wordform_is}
use Rattle.record.specs.FormRight.Parts.{sole}
use Rattle.record.specs.declared.Word.{Word}
use Rattle.record.specs.declared.Word.TheVariants.{Header, Data, EndSection, EndFile, Other}
use Rattle.record.specs.declared.Head.{Head}
use Rattle.record.specs.declared.Head.TheVariants.{Complex, Simple}
use Rattle.record.specs.declared.Named.{Named}
use Rattle.error.specs.declared.Reason.{Reason}
use Rattle.statement.specs.Rows.{Row, HeaderRow, Stmt, statement_refused, section_now, header_statement, data_statement, bound, RowKind, header_kind, data_kind, RowOf, rowed}
use Rattle.statement.specs.Row.{closing_sought, record_of, header_of}
use Rattle.statement.specs.Statement.{header_stated, recorded, worded, ended, begun, statement}
use Rattle.statement.specs.declared.Section.{Section}
use Rattle.statement.specs.declared.Section.TheVariants.{Outside, InHeader, InData}
use Rattle.statement.specs.Form.{After, onto, ArguedTo, Argued, DataForm, HeaderRecordForm, Record, StatementForm}

-- what is left after n bytes is what `drop n` leaves
after_drop : {n : ℕ} {ys zs : List ℕ} → After n ys zs → drop n ys ≡ zs
after_drop {n} {zs} (b, e, l) = rw e (drop_at b zs n l)

after_next : {n c : ℕ} {ys zs : List ℕ} → After n ys (c ∷ zs) → drop (n + 1) ys ≡ zs
after_next {n} {ys} a = sym (drop-drop 1 n ys) ∙ ap (drop 1) (after_drop a)

-- a byte before what is left up to a bound stands before it in the file too
onto_on : (b : Option (List ℕ)) (c : ℕ) (u : List ℕ) → onto b (c ∷ u) ≡ c ∷ onto b u
onto_on none c u = refl
onto_on (some e) c u = refl

-- the bytes of u and e before the rest e are u
before_own : (u e : List ℕ) → before (u ++ e) e ≡ u
before_own u e = take_at u e (length (u ++ e) - length e) (simp length-append (omega arith))

-- the search up to a bound is that of what stands before it, as if nothing followed
module _ (b : Option (List ℕ)) (u : List ℕ) where
  -- a `)` found in what stands before the bound is found by the search up to the bound
  pub sought_at : (r : List ℕ) → closing (40 ∷ u) ≡ at r → closing_sought b (40 ∷ onto b u) ≡ at (onto b r)
  sought_at r h = go b
    where
      go : (b : Option (List ℕ)) → closing_sought b (40 ∷ onto b u) ≡ at (onto b r)
      go none = h
      go (some e) = rw (before_own (40 ∷ u) e, h) refl

  -- a fault met in what stands before the bound is met by the search up to the bound
  pub sought_fault : (n : ℕ) (r : List ℕ) → closing (40 ∷ u) ≡ fault n r → closing_sought b (40 ∷ onto b u) ≡ fault n (onto b r)
  sought_fault n r h = go b
    where
      go : (b : Option (List ℕ)) → closing_sought b (40 ∷ onto b u) ≡ fault n (onto b r)
      go none = h
      go (some e) = rw (before_own (40 ∷ u) e, h) refl

-- a `)` that is found before a bound is the one that is found without it: u stands before the bound, and e from there on
pub sought_whole : (u e r : List ℕ) → closing_sought (some e) (40 ∷ (u ++ e)) ≡ at r → closing (40 ∷ (u ++ e)) ≡ at r
sought_whole u e r h = go (closing (40 ∷ u)) refl
  where
    go : (x : Sought) → closing (40 ∷ u) ≡ x → closing (40 ∷ (u ++ e)) ≡ at r
    go (fault n o) q = clash (cc (sought_fault (some e) u n o q))
    go (at y) q =
        let (v, g, c) = closing_is 40 u y q in
        let f : closing_sought (some e) (40 ∷ (u ++ e)) ≡ at (y ++ e) = sought_at (some e) u y q in
        let k : at ((41 ∷ v) ++ e) ≡ at r = ap (λ (l : List ℕ). at (l ++ e)) (sym g) ∙ sym f ∙ h in
        closes_any c e ∙ k

-- t, which follows a `(`, goes up to the bound at least
abbrev pub Bounded : Option (List ℕ) → List ℕ → Type 0
Bounded b t = (u : List ℕ) × (t ≡ onto b u)

-- where there is no bound, every rest goes up to it
pub bounded_none : (t : List ℕ) → Bounded none t
bounded_none t = (t, refl)

-- what follows a record's `(` goes up to the record's bound at least: e follows the record's text, and r its `(` in that text
bounded_own : (body e r : List ℕ) → Bounded (bound (body ++ e) body) (r ++ e)
bounded_own body e r = bounded_none (r ++ e)

-- "The closing `)`": the answer by the rules is the one that is computed
pub arguedto_only : {b : Option (List ℕ)} {s t : List ℕ} {a : Told ℕ} → ArguedTo b s t a → a ≡ placed s (closing_sought b (40 ∷ t))
arguedto_only {b} (ArguedTo.closed {u} e c) = rw (e, sought_at b u _ (closing_only 40 c)) refl
arguedto_only {b} (ArguedTo.text_open {u} e d o) = rw (e, sought_fault b u 4 _ (closing_text_only 40 d o)) refl
arguedto_only {b} (ArguedTo.remark_open {u} e d o) = rw (e, sought_fault b u 3 _ (closing_remark_only 40 d o)) refl
arguedto_only {b} (ArguedTo.unclosed {u} e d) = rw (e, sought_fault b u 6 _ (closing_over_only 40 d), onto_on b 40 u) refl

-- every `(` before the bound has an answer
arguedto_comes : (b : Option (List ℕ)) (s t : List ℕ) → Bounded b t → (a : Told ℕ) × ArguedTo b s t a
arguedto_comes b s t (u, h) = go (closing (40 ∷ u)) refl
  where
    go : (x : Sought) → closing (40 ∷ u) ≡ x → (a : Told ℕ) × ArguedTo b s t a
    go (at ys) e = let (r, q, c) = closing_is 40 u ys e in (_, ArguedTo.closed h c)
    go (fault n o) e = faults (closing_open 40 u n o e)
      where
        faults : ((n ≡ 4) × ((d : ℕ) × Deep d u o) × OpenText o)
            ⊎ (((n ≡ 3) × ((d : ℕ) × Deep d u o) × OpenRemark o) ⊎ ((n ≡ 6) × (o ≡ 40 ∷ u) × ((d : ℕ) × Deep d u [])))
            → (a : Told ℕ) × ArguedTo b s t a
        faults (inl (k, (d, f), q)) = (_, ArguedTo.text_open h f q)
        faults (inr (inl (k, (d, f), q))) = (_, ArguedTo.remark_open h f q)
        faults (inr (inr (k, g, (d, f)))) = (_, ArguedTo.unclosed h f)

-- "The closing `)`": the answer that is computed is that by the rules
pub arguedto_is : (b : Option (List ℕ)) (s t : List ℕ) → Bounded b t → ArguedTo b s t (placed s (closing_sought b (40 ∷ t)))
arguedto_is b s t h = sole (ArguedTo b s t) (λ a. arguedto_only) (arguedto_comes b s t h)

-- "through the whole file": without a bound, the answer by the rules is the one that is computed
pub argued_only : {s t : List ℕ} {a : Told ℕ} → Argued s t a → a ≡ placed s (closing (40 ∷ t))
argued_only g = arguedto_only g

-- "through the whole file": without a bound, the answer that is computed is that by the rules
pub argued_is : (s t : List ℕ) → Argued s t (placed s (closing (40 ∷ t)))
argued_is s t = arguedto_is none s t (bounded_none t)

-- "A row holds ..": the row or refusal of a data record by the rules is the one that is computed
pub dataform_only : {s ys body : List ℕ} {a : Told Row} → DataForm s ys body a → a ≡ record_of s ys body
unfolding record_of
dataform_only (DataForm.bad_record_form h) = rw (← headform_only h)
dataform_only (DataForm.complex h o g) = rw (← headform_only h, after_drop o, after_next o, ← arguedto_only g)
dataform_only (DataForm.complex_refused h o g) = rw (← headform_only h, after_drop o, ← arguedto_only g)
dataform_only (DataForm.simple h a z o g) =
    rw (← headform_only h, after_drop o, after_next o, after_drop a, after_drop z, ← arguedto_only g)
dataform_only (DataForm.simple_refused h o g) = rw (← headform_only h, after_drop o, ← arguedto_only g)

-- the row or refusal of a header record by the rules is the one that is computed
pub headerrecord_only : {s ys body : List ℕ} {a : Told HeaderRow} → HeaderRecordForm s ys body a → a ≡ header_of s ys body
unfolding header_of
headerrecord_only (HeaderRecordForm.bad_record_form h) = rw (← headerform_only h)
headerrecord_only (HeaderRecordForm.named h a z o g) =
    rw (← headerform_only h, after_drop o, after_next o, after_drop a, after_drop z, ← arguedto_only g)
headerrecord_only (HeaderRecordForm.named_refused h o g) = rw (← headerform_only h, after_drop o, ← arguedto_only g)

-- a keyword's places and its `(`, as rests of the file from the record's start
abbrev KeyPlaced : Option (List ℕ) → List ℕ → ℕ → ℕ → ℕ → Type 0
KeyPlaced b ys a z o = (k l t : List ℕ) × After a ys k × After z ys l × After o ys (40 ∷ t) × Bounded b t

-- the places of a head, as rests of the file from the record's start
abbrev Placed : Option (List ℕ) → List ℕ → Result Head Reason → Type 0
Placed b ys (Err why) = Unit {0}
Placed b ys (Ok (Complex i o)) = (t : List ℕ) × After o ys (40 ∷ t) × Bounded b t
Placed b ys (Ok (Simple i a z o)) = KeyPlaced b ys a z o

-- the places of a header record's head likewise
abbrev NamedPlaced : Option (List ℕ) → List ℕ → Result Named Reason → Type 0
NamedPlaced b ys (Err why) = Unit {0}
NamedPlaced b ys (Ok n) = KeyPlaced b ys n.start n.end n.opening

keyed_placed : (a e : List ℕ) {v k w r : List ℕ} → Keyword v k w r
    → KeyPlaced (bound ((a ++ v) ++ e) (a ++ v)) ((a ++ v) ++ e) (length a) (length (a ++ k)) (length (a ++ (k ++ w)))
keyed_placed a e {v} {k} {w} {r} f = (
  v ++ e,
  w ++ (40 ∷ (r ++ e)),
  r ++ e,
  (a, append_assoc a v e, refl),
  (a ++ k, rw f.shape (simp append_assoc), refl),
  (a ++ (k ++ w), rw f.shape (simp append_assoc), refl),
  bounded_own (a ++ v) e r,
)

-- the places of a record's head lie in it, and its arguments' start is a `(`
head_placed : (e : List ℕ) {body : List ℕ} {h : Result Head Reason} → HeadForm body h → Placed (bound (body ++ e) body) (body ++ e) h
head_placed e (HeadForm.unmarked b h) = tt
head_placed e (HeadForm.above ds r a h) = tt
head_placed e (HeadForm.numberless r h) = tt
head_placed e (HeadForm.unequal ds w r i d s h) = tt
head_placed e (HeadForm.valueless l) = tt
head_placed e (HeadForm.unopened l z f) = tt
head_placed e (HeadForm.complex {a} {r} l) = (r ++ e, (a, append_assoc a (40 ∷ r) e, refl), bounded_own (a ++ (40 ∷ r)) e r)
head_placed e (HeadForm.simple {a} l h f) = keyed_placed a e f

header_placed : (e : List ℕ) {body : List ℕ} {h : Result Named Reason} → HeaderForm body h → NamedPlaced (bound (body ++ e) body) (body ++ e) h
header_placed e (HeaderForm.unopened b f) = tt
header_placed e (HeaderForm.named {a} s f) = keyed_placed a e f

-- every data record has a row or a refusal by the rules
dataform_comes : (s ys body : List ℕ) (h : Result Head Reason) → HeadForm body h → Placed (bound ys body) ys h → (a : Told Row) × DataForm s ys body a
dataform_comes s ys body (Err why) f p = (_, DataForm.bad_record_form f)
dataform_comes s ys body (Ok (Complex i o)) f (t, p, m) = go (arguedto_comes (bound ys body) s t m)
  where
    go : (a : Told ℕ) × ArguedTo (bound ys body) s t a → (a : Told Row) × DataForm s ys body a
    go (good e, g) = (_, DataForm.complex f p g)
    go (bad q, g) = (_, DataForm.complex_refused f p g)
dataform_comes s ys body (Ok (Simple i a z o)) f (k, l, t, pa, pz, p, m) = go (arguedto_comes (bound ys body) s t m)
  where
    go : (a : Told ℕ) × ArguedTo (bound ys body) s t a → (a : Told Row) × DataForm s ys body a
    go (good e, g) = (_, DataForm.simple f pa pz p g)
    go (bad q, g) = (_, DataForm.simple_refused f p g)

-- every header record has a row or a refusal by the rules
headerrecord_comes : (s ys body : List ℕ) (h : Result Named Reason) → HeaderForm body h → NamedPlaced (bound ys body) ys h → (a : Told HeaderRow) × HeaderRecordForm s ys body a
headerrecord_comes s ys body (Err why) f p = (_, HeaderRecordForm.bad_record_form f)
headerrecord_comes s ys body (Ok n) f (k, l, t, pa, pz, p, m) = go (arguedto_comes (bound ys body) s t m)
  where
    go : (a : Told ℕ) × ArguedTo (bound ys body) s t a → (a : Told HeaderRow) × HeaderRecordForm s ys body a
    go (good e, g) = (_, HeaderRecordForm.named f pa pz p g)
    go (bad q, g) = (_, HeaderRecordForm.named_refused f p g)

-- "A row holds ..": what is computed of a record, whose text the file begins with from its start, is that by the rules
pub dataform_is : (s body e : List ℕ) → DataForm s (body ++ e) body (record_of s (body ++ e) body)
dataform_is s body e =
    sole (DataForm s (body ++ e) body) (λ a. dataform_only)
    (dataform_comes s (body ++ e) body (data_head body) (headform_is body) (head_placed e (headform_is body)))

-- what is computed of a header record, whose text the file begins with from its start, is that by the rules
pub headerrecord_is : (s body e : List ℕ) → HeaderRecordForm s (body ++ e) body (header_of s (body ++ e) body)
headerrecord_is s body e =
    sole (HeaderRecordForm s (body ++ e) body) (λ a. headerrecord_only)
    (headerrecord_comes s (body ++ e) body (header_head body) (headerform_is body) (header_placed e (headerform_is body)))

-- bytes that lead outside strings and comments to a rest that is not empty are not none
runs_some : {ys o : List ℕ} → RecordRuns ys o → (o ≡ [] → ⊥) → ys ≡ [] → ⊥
runs_some RecordRuns.none h e = h e
runs_some (RecordRuns.byte l k m r) h e = clash (cc)
runs_some (RecordRuns.string q r) h e = clash (cc q.shape)
runs_some (RecordRuns.comment q r) h e = clash (cc q.shape)

-- what is made of a record that starts with ys, by the search for its end, is what the statement says
led_says : (s : List ℕ) (sec : Section) {xs ys : List ℕ} {x : Sought} → Led xs ys → (ys ≡ [] → ⊥) → record_end ys ≡ x
    → ended s ys sec x ≡ statement s sec xs
unfolding statement
led_says s sec {ys} {x} l h e = rw (trivia_only l) (go ys h e)
  where
    go : (ys : List ℕ) → (ys ≡ [] → ⊥) → record_end ys ≡ x → ended s ys sec x ≡ begun s sec ys
    go [] h e = absurd (h refl)
    go (c ∷ r) h e = ap (ended s (c ∷ r) sec) (sym e)

-- a record's text is what stands before its `;`
text_before : {xs ys body t : List ℕ} → Record xs ys body t → before ys (59 ∷ t) ≡ body
text_before {body} {t} d =
    let n : length body ≡ length (body ++ (59 ∷ t)) - length (59 ∷ t) = simp length-append (omega arith) in
    rw d.text (take_at body (59 ∷ t) _ n)

-- what is made of a record, by the word that it is, is what the statement says
record_says : (s : List ℕ) (sec : Section) {xs ys body t : List ℕ} {w : Word} → Record xs ys body t → WordForm body w
    → worded s ys (59 ∷ t) sec w ≡ statement s sec xs
record_says s sec {ys} {t} d f =
    ap (worded s ys (59 ∷ t) sec) (wordform_only f ∙ ap word_of (sym (text_before d)))
    ∙ led_says s sec d.starts (runs_some d.finishes (λ e. clash (cc))) (end_only d.finishes)

-- what a statement says by the rules is what is computed
pub statement_only : {s : List ℕ} {sec : Section} {xs : List ℕ} {x : Stmt} → StatementForm s sec xs x → x ≡ statement s sec xs
unfolding statement
statement_only (StatementForm.over l) = rw (trivia_only l)
statement_only (StatementForm.trivia_open r o) = rw (trivia_open_only r o)
statement_only {s} {sec} (StatementForm.endless l h r) = led_says s sec l h (end_over_only r)
statement_only {s} {sec} (StatementForm.text_open l r o) =
    led_says s sec l (runs_some r (λ e. clash (cc o.0.1))) (end_text_only r o)
statement_only {s} {sec} (StatementForm.remark_open l r o) =
    led_says s sec l (runs_some r (λ e. clash (cc o.0.1))) (end_remark_only r o)
statement_only {s} {sec} (StatementForm.heads d f) = record_says s sec d f
statement_only {s} {sec} (StatementForm.opens d f) = record_says s sec d f
statement_only {s} {sec} (StatementForm.leaves d f) = record_says s sec d f
statement_only {s} {sec} (StatementForm.closes d f) = record_says s sec d f
statement_only {s} (StatementForm.ignored d f) = record_says s Outside d f
statement_only {s} (StatementForm.header_row_form {ys} {t} d f g) =
    ap (header_stated ys t) (headerrecord_only g ∙ ap (header_of s ys) (sym (text_before d))) ∙ record_says s InHeader d f
statement_only {s} (StatementForm.header_refused {ys} {t} d f g) =
    ap (header_stated ys t) (headerrecord_only g ∙ ap (header_of s ys) (sym (text_before d))) ∙ record_says s InHeader d f
statement_only {s} (StatementForm.data_row {ys} {t} d f g) =
    ap (recorded ys t) (dataform_only g ∙ ap (record_of s ys) (sym (text_before d))) ∙ record_says s InData d f
statement_only {s} (StatementForm.data_refused {ys} {t} d f g) =
    ap (recorded ys t) (dataform_only g ∙ ap (record_of s ys) (sym (text_before d))) ∙ record_says s InData d f

-- a statement of the file s from the rest xs on says something by the rules
abbrev pub Stated : List ℕ → Section → List ℕ → Type 0
Stated s sec xs = (x : Stmt) × StatementForm s sec xs x

module _ (s : List ℕ) {xs ys body t : List ℕ} (d : Record xs ys body t) where
  -- a record that is no section word says something by the rules
  section_comes : (sec : Section) → WordForm body Other → Stated s sec xs
  section_comes Outside f = (_, StatementForm.ignored d f)
  section_comes InHeader f = go (header_of s ys body) (rw (← d.text) at (headerrecord_is s body (59 ∷ t)))
    where
      go : (a : Told HeaderRow) → HeaderRecordForm s ys body a → Stated s InHeader xs
      go (good w) g = (_, StatementForm.header_row_form d f g)
      go (bad q) g = (_, StatementForm.header_refused d f g)
  section_comes InData f = go (record_of s ys body) (rw (← d.text) at (dataform_is s body (59 ∷ t)))
    where
      go : (a : Told Row) → DataForm s ys body a → Stated s InData xs
      go (good w) g = (_, StatementForm.data_row d f g)
      go (bad q) g = (_, StatementForm.data_refused d f g)

  -- a record says something by the rules, whatever word it is
  word_comes : (sec : Section) (w : Word) → WordForm body w → Stated s sec xs
  word_comes sec Header f = (_, StatementForm.heads d f)
  word_comes sec Data f = (_, StatementForm.opens d f)
  word_comes sec EndSection f = (_, StatementForm.leaves d f)
  word_comes sec EndFile f = (_, StatementForm.closes d f)
  word_comes sec Other f = section_comes sec f

-- a record that starts with ys says something by the rules, whatever the search for its end finds
end_comes : (s : List ℕ) (sec : Section) {xs ys : List ℕ} → Led xs ys → (ys ≡ [] → ⊥) → Stated s sec xs
end_comes s sec {xs} {ys} l h = go (record_end ys) refl
  where
    faults : {n : ℕ} {o : List ℕ}
        → ((n ≡ 4) × RecordRuns ys o × OpenText o) ⊎ (((n ≡ 3) × RecordRuns ys o × OpenRemark o) ⊎ ((n ≡ 5) × (o ≡ ys) × RecordRuns ys []))
        → Stated s sec xs
    faults (inl (k, r, q)) = (_, StatementForm.text_open l r q)
    faults (inr (inl (k, r, q))) = (_, StatementForm.remark_open l r q)
    faults (inr (inr (k, e, r))) = (_, StatementForm.endless l h r)

    go : (x : Sought) → record_end ys ≡ x → Stated s sec xs
    go (fault n o) e = faults (record_end_open ys n o e)
    go (at zs) e =
        let (t, g, r) = end_is ys zs e in
        let (body, q, z) = end_local ys t (e ∙ ap at g) in
        word_comes s (record { starts = l; finishes = r; text = q }) sec (word_of body) (wordform_is body)

-- every statement says something by the rules
pub statement_comes : (s : List ℕ) (sec : Section) (xs : List ℕ) → Stated s sec xs
statement_comes s sec xs = go (trivia xs) refl
  where
    go : (x : Sought) → trivia xs ≡ x → Stated s sec xs
    go (fault n o) e = let (k, r, q) = trivia_open xs o n e in (_, StatementForm.trivia_open r q)
    go (at []) e = (_, StatementForm.over (trivia_is xs [] e))
    go (at (c ∷ r)) e = end_comes s sec (trivia_is xs (c ∷ r) e) (λ q. clash (cc))

-- what a statement says as computed is what it says by the rules
pub statement_is : (s : List ℕ) (sec : Section) (xs : List ℕ) → StatementForm s sec xs (statement s sec xs)
statement_is s sec xs = sole (StatementForm s sec xs) (λ x. statement_only) (statement_comes s sec xs)

-- what follows a statement is shorter than what begins with it
record_shorter : {xs ys body t : List ℕ} → Record xs ys body t → length t < length xs
record_shorter {xs} d = omega (arith, trivia_shorter xs (trivia_only d.starts), simp length-append at (ap length d.text))

-- less is left after a section word or an ignored record
pub moved_shorter : {s : List ℕ} {sec to : Section} {xs t : List ℕ} → StatementForm s sec xs (section_now to t) → length t < length xs
moved_shorter (StatementForm.heads d f) = record_shorter d
moved_shorter (StatementForm.opens d f) = record_shorter d
moved_shorter (StatementForm.leaves d f) = record_shorter d
moved_shorter (StatementForm.ignored d f) = record_shorter d

-- less is left after a header record
pub header_shorter : {s : List ℕ} {sec : Section} {xs ys t : List ℕ} {w : HeaderRow} → StatementForm s sec xs (header_statement w ys t) → length t < length xs
header_shorter (StatementForm.header_row_form d f g) = record_shorter d

-- less is left after a data record
pub data_shorter : {s : List ℕ} {sec : Section} {xs ys t : List ℕ} {w : Row} → StatementForm s sec xs (data_statement w ys t) → length t < length xs
data_shorter (StatementForm.data_row d f g) = record_shorter d

-- less is left after a record that gives a row
pub row_shorter : {s : List ℕ} {sec : Section} {xs : List ℕ} (k : RowKind) (w : RowOf k) (ys t : List ℕ) → StatementForm s sec xs (rowed k w ys t)
    → length t < length xs
row_shorter header_kind w ys t f = header_shorter f
row_shorter data_kind w ys t f = data_shorter f

-- a refusal's number is from l to m
abbrev pub Between : ℕ → ℕ → Refusal → Type 0
Between l m q = (l ≤ q.number) × (q.number ≤ m)

-- a record's arguments are refused with a number from 3 to 6
argued_number : {b : Option (List ℕ)} {s t : List ℕ} {q : Refusal} → ArguedTo b s t (bad q) → Between 3 6 q
argued_number (ArguedTo.text_open e d o) = omega arith
argued_number (ArguedTo.remark_open e d o) = omega arith
argued_number (ArguedTo.unclosed e d) = omega arith

data_number : {s ys body : List ℕ} {q : Refusal} → DataForm s ys body (bad q) → Between 3 7 q
data_number (DataForm.bad_record_form h) = omega arith
data_number (DataForm.complex_refused h o g) = omega (arith, argued_number g)
data_number (DataForm.simple_refused h o g) = omega (arith, argued_number g)

header_number : {s ys body : List ℕ} {q : Refusal} → HeaderRecordForm s ys body (bad q) → Between 3 7 q
header_number (HeaderRecordForm.bad_record_form h) = omega arith
header_number (HeaderRecordForm.named_refused h o g) = omega (arith, argued_number g)

-- a statement is refused with a number from 3 to 7
pub statement_number : {s : List ℕ} {sec : Section} {xs : List ℕ} {q : Refusal} → StatementForm s sec xs (statement_refused q) → Between 3 7 q
statement_number (StatementForm.trivia_open r o) = omega arith
statement_number (StatementForm.endless l h r) = omega arith
statement_number (StatementForm.text_open l r o) = omega arith
statement_number (StatementForm.remark_open l r o) = omega arith
statement_number (StatementForm.header_refused d f g) = header_number g
statement_number (StatementForm.data_refused d f g) = data_number g
