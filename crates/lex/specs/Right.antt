-- The searches of Search.antt find just what Grammar.antt says: what is computed is one, and there is no other; and a refusal
-- means what it says there. Three parts: trivia, a record's end, a closing parenthesis. Assumes nothing.
use Rattle.std.specs.Prelude.{ℕ, zero, suc, ◌+◌, ◌≡◌, refl, Bool, true, false, ◌⊎◌, List, [], ◌∷◌, ◌++◌, eqb}
use Rattle.std.proofs.Common.{◌∙◌, inl, inr, append_assoc, arith, eqb-true, ne_eqb}
use Rattle.std.proofs.Math.Decide.{ℕ_discrete}
use Rattle.std.proofs.lemmas.Bool.{eqb-false}
use Rattle.common.specs.Compare.{clash}
use Rattle.lex.specs.Byte.{white}
use Rattle.common.specs.Walk.{walk}
use Rattle.lex.specs.Search.{seen, Look, semicolon, paren, missed, record_end, closing, trivia_turn, trivia_end, trivia}
use Rattle.lex.specs.Answer.{Sought, at, fault}
use Rattle.lex.specs.Grammar.{Begins, OpensComment, Remarked, Comment, Trivia, Led, RecordRuns, RecordEnds, Balanced, Closes, Deep, OpenText, OpenRemark}
use Rattle.lex.specs.Local.{seek_halts}
use Rattle.lex.specs.declared.Mode.{Mode}
use Rattle.lex.specs.declared.Mode.TheVariants.{Plain, Slash, Remark}
pub mod Steps
pub mod Tokens
pub mod Answer
use Steps.{Deaf, remark_shut, remark_open, Passing, plainly, byte_step, string_step, comment_step, text_stuck, remark_stuck}
use Tokens.{open_text, open_remark, ReadsAsTokens, tokens}
use Answer.{Outcome, further, Answers, found_is, fault_is}

-- the search past trivia, from a mode on, with o for the last byte outside comments
abbrev pub past_trivia : Mode → List ℕ → List ℕ → Sought
past_trivia m o xs = walk trivia_turn trivia_end (seen m 0 o) xs

-- where the last byte outside comments stood has no part in the answer
pub past_any : (o p xs : List ℕ) → past_trivia Plain o xs ≡ past_trivia Plain p xs
unfolding walk
past_any o p [] = refl
past_any o p (c ∷ r) = refl

-- in a comment the search past trivia is deaf
trivia_deaf : (o : List ℕ) → Deaf trivia_turn trivia_end (λ m. seen m 0 o)
trivia_deaf o = record { quiet = λ m c r h. rw h; starred = refl }

-- the trivia go on after whitespace
pub blank_step : (c : ℕ) (t : List ℕ) → white c ≡ true → trivia (c ∷ t) ≡ trivia t
unfolding trivia walk
blank_step c t h = rw h (past_any (c ∷ t) t t)

-- a slash and a star open a comment on the way past trivia
pub past_start : (t : List ℕ) → trivia (47 ∷ 42 ∷ t) ≡ past_trivia Remark (47 ∷ 42 ∷ t) t
unfolding trivia walk
past_start t = refl

-- the trivia go on after a comment that ends
past_shut : (o b r : List ℕ) → Remarked b → past_trivia Remark o (b ++ (42 ∷ 47 ∷ r)) ≡ trivia r
unfolding trivia
past_shut o b r h = remark_shut trivia_turn trivia_end (λ m. seen m 0 o) (trivia_deaf o) b r h ∙ past_any o r r

-- the trivia go on after any run of whitespace and comments
trivia_step : {xs ys : List ℕ} → Trivia xs ys → trivia xs ≡ trivia ys
trivia_step Trivia.none = refl
trivia_step (Trivia.blank {c} {xs} h r) = blank_step c xs h ∙ trivia_step r
trivia_step (Trivia.comment {zs} q r) = rw q.shape (past_start (q.body ++ (42 ∷ 47 ∷ zs)) ∙ past_shut _ q.body zs q.first) ∙ trivia_step r

-- a slash that opens no comment is where the trivia end
slash_stops : (o t : List ℕ) → (Begins 42 t → ⊥) → past_trivia Slash o t ≡ at o
unfolding walk
slash_stops o [] h = refl
slash_stops o (c ∷ r) h = rw (ne_eqb c 42 (λ e. h (r, cc)))

-- where no whitespace and no comment begins, the trivia end
pub led_stops : (ys : List ℕ) → ((c : ℕ) → white c ≡ true → Begins c ys → ⊥) → (OpensComment ys → ⊥) → trivia ys ≡ at ys
unfolding trivia walk
led_stops [] h k = refl
led_stops (c ∷ t) h k = go (white c) (eqb c 47) refl refl
  where
    go : (a b : Bool) → white c ≡ a → eqb c 47 ≡ b → trivia (c ∷ t) ≡ at (c ∷ t)
    go true b p q = absurd (h c p (t, refl))
    go false true p q = rw (p, q) (slash_stops (c ∷ t) t (λ (r, e). k (r, cc (eqb-true c 47 q))))
    go false false p q = rw (p, q)

-- "A record starts at the first non-trivia byte": where it starts by the grammar, the search past trivia finds it
pub trivia_only : {xs ys : List ℕ} → Led xs ys → trivia xs ≡ at ys
trivia_only {ys} l = trivia_step l.before ∙ led_stops ys l.unblank l.unopened

-- refusal 3, "comment open": a comment after trivia that never ends is refused at its slash
pub trivia_open_only : {xs o : List ℕ} → Trivia xs o → OpenRemark o → trivia xs ≡ fault 3 o
trivia_open_only r q = let (t, e, h) = open_remark q in
    trivia_step r ∙ rw e (past_start t ∙ remark_open trivia_turn trivia_end (λ m. seen m 0 (47 ∷ 42 ∷ t)) (trivia_deaf (47 ∷ 42 ∷ t)) t h)

-- what becomes of the search past trivia: a byte that is not trivia, or a comment that never ends
abbrev Leads : List ℕ → Type 0
Leads xs = ((ys : List ℕ) × Led xs ys) ⊎ ((o : List ℕ) × Trivia xs o × OpenRemark o)

-- what becomes of the search past trivia is the same with trivia before
leads_before : {xs ts : List ℕ} → ((zs : List ℕ) → Trivia ts zs → Trivia xs zs) → Leads ts → Leads xs
leads_before g (inl (ys, l)) = inl (ys, record { before = g ys l.before; unblank = l.unblank; unopened = l.unopened })
leads_before g (inr (o, r, q)) = inr (o, g o r, q)

-- a byte that is not white and opens no comment is where the search past trivia ends
leads_here : (c : ℕ) (xs : List ℕ) → Begins c xs → white c ≡ false → (OpensComment xs → ⊥) → Leads xs
leads_here c xs (t, e) h k = inl (xs, record { before = Trivia.none; unblank = λ b w (r, g). clash (cc); unopened = k })

-- what becomes of the search past trivia, by the tokens that the list is read as
trivia_comes : {xs : List ℕ} → ReadsAsTokens xs → Leads xs
trivia_comes ReadsAsTokens.end = inl ([], record { before = Trivia.none; unblank = λ c w (r, e). clash (cc); unopened = λ (r, e). clash (cc) })
trivia_comes (ReadsAsTokens.byte {c} {t} h k s) = go (white c) refl (trivia_comes s)
  where
    go : (a : Bool) → white c ≡ a → Leads t → Leads (c ∷ t)
    go true p u = leads_before (λ zs. Trivia.blank p) u
    go false p u = leads_here c (c ∷ t) (t, refl) p k
trivia_comes {xs} (ReadsAsTokens.string q s) = leads_here 39 xs (_, q.shape) refl (λ (r, e). eqb-false 39 47 refl (cc))
trivia_comes (ReadsAsTokens.comment q s) = leads_before (λ zs. Trivia.comment q) (trivia_comes s)
trivia_comes {xs} (ReadsAsTokens.text q) = leads_here 39 xs q.0 refl (λ (r, e). eqb-false 39 47 refl (cc))
trivia_comes {xs} (ReadsAsTokens.remark q) = inr (xs, Trivia.none, q)

-- "A record starts at the first non-trivia byte": where the search past trivia ends, it starts by the grammar
pub trivia_is : (xs ys : List ℕ) → trivia xs ≡ at ys → Led xs ys
trivia_is xs ys h = go (trivia_comes (tokens xs))
  where
    go : Leads xs → Led xs ys
    go (inl (zs, l)) = let e : ys ≡ zs = cc (trivia_only l) in rw e l
    go (inr (o, r, q)) = clash (cc (trivia_open_only r q))

-- a refusal of the search past trivia is 3, at a comment that never ends
pub trivia_open : (xs o : List ℕ) (n : ℕ) → trivia xs ≡ fault n o → (n ≡ 3) × Trivia xs o × OpenRemark o
trivia_open xs o n h = go (trivia_comes (tokens xs))
  where
    go : Leads xs → (n ≡ 3) × Trivia xs o × OpenRemark o
    go (inl (zs, l)) = clash (cc (trivia_only l))
    go (inr (p, r, q)) = let e : o ≡ p = cc (trivia_open_only r q) in (cc (trivia_open_only r q), rw e r, rw e q)

-- trivia leads to at most one place
pub trivia_one : {xs ys zs : List ℕ} → Led xs ys → Led xs zs → ys ≡ zs
trivia_one h k = cc (trivia_only h, trivia_only k)

-- a comment is one whatever follows it: b stands after it, and ys after b
comment_local : {xs r : List ℕ} (q : Comment xs r) (b ys : List ℕ) → Comment ((47 ∷ 42 ∷ (q.body ++ (42 ∷ 47 ∷ b))) ++ ys) (b ++ ys)
comment_local q b ys = record { body = q.body; first = q.first; shape = cc (append_assoc q.body (42 ∷ 47 ∷ b) ys) }

-- trivia are trivia whatever follows them
trivia_splits : {xs ys : List ℕ} → Trivia xs ys → (b : List ℕ) × (xs ≡ b ++ ys) × ((zs : List ℕ) → Trivia (b ++ zs) zs)
trivia_splits Trivia.none = ([], refl, λ zs. Trivia.none)
trivia_splits (Trivia.blank {c} h r) = let (b, e, k) = trivia_splits r in (c ∷ b, cc, λ zs. Trivia.blank h (k zs))
trivia_splits {ys} (Trivia.comment q r) = let (b, e, k) = trivia_splits r in
    (47 ∷ 42 ∷ (q.body ++ (42 ∷ 47 ∷ b)), cc (append_assoc q.body (42 ∷ 47 ∷ b) ys), λ zs. Trivia.comment (comment_local q b zs) (k zs))

-- "Trivia is any run of both": what stands before the first byte that is not trivia has no part in what follows it
pub trivia_local : (xs ys : List ℕ) → trivia xs ≡ at ys → (b : List ℕ) × (xs ≡ b ++ ys) × ((zs : List ℕ) → trivia (b ++ zs) ≡ trivia zs)
trivia_local xs ys h = let (b, e, k) = trivia_splits (trivia_is xs ys h).before in (b, e, λ zs. trivia_step (k zs))

-- a byte that is no whitespace and no slash has no trivia before it
pub trivia_here : (c : ℕ) (r : List ℕ) → white c ≡ false → (c ≡ 47 → ⊥) → trivia (c ∷ r) ≡ at (c ∷ r)
trivia_here c r h k = led_stops (c ∷ r) (λ b w (t, e). clash (cc)) (λ (t, e). k (cc))

-- a search that stands before a string that never ends refuses there
text_fault : (f : ℕ → ℕ → Look) (n : ℕ) (w : List ℕ) (passing : Passing f) (d : ℕ) {o : List ℕ} → OpenText o → plainly f n w d o ≡ fault 4 o
text_fault f n w passing d q = let (t, e, i) = open_text q in rw e (text_stuck f n w passing d t i)

-- a search that stands before a comment that never ends refuses there
remark_fault : (f : ℕ → ℕ → Look) (n : ℕ) (w : List ℕ) (passing : Passing f) (d : ℕ) {o : List ℕ} → OpenRemark o → plainly f n w d o ≡ fault 3 o
remark_fault f n w passing d q = let (t, e, i) = open_remark q in rw e (remark_stuck f n w passing d t i)

-- a search for a record's end passes over strings and comments
semicolon_passing : Passing semicolon
semicolon_passing = record { quote = λ d. refl; slash = λ d. refl }

-- whole strings and comments, and bytes that are no `;`, are passed over by the search for a record's end
runs_step : (n : ℕ) (w : List ℕ) {xs ys : List ℕ} → RecordRuns xs ys → plainly semicolon n w 0 xs ≡ plainly semicolon n w 0 ys
runs_step n w RecordRuns.none = refl
runs_step n w (RecordRuns.byte {c} {xs} h k l r) = byte_step semicolon n w 0 0 c xs k l (rw (ne_eqb c 59 h)) ∙ runs_step n w r
runs_step n w (RecordRuns.string q r) = string_step semicolon n w semicolon_passing 0 q ∙ runs_step n w r
runs_step n w (RecordRuns.comment q r) = comment_step semicolon n w semicolon_passing 0 q ∙ runs_step n w r

-- "ends at the first `;` outside strings and comments": where the grammar has one, the search for a record's end finds it
pub end_only : {xs r : List ℕ} → RecordEnds xs r → record_end xs ≡ at (59 ∷ r)
unfolding record_end
end_only {xs} {r} h = runs_step 5 xs h ∙ seek_halts semicolon (missed 5 xs) Plain 0 (59 ∷ r) 59 r refl refl

-- refusal 4, "string open": on the way to a record's end, at the string's quote
pub end_text_only : {xs o : List ℕ} → RecordRuns xs o → OpenText o → record_end xs ≡ fault 4 o
unfolding record_end
end_text_only {xs} h q = runs_step 5 xs h ∙ text_fault semicolon 5 xs semicolon_passing 0 q

-- refusal 3, "comment open": on the way to a record's end, at the comment's slash
pub end_remark_only : {xs o : List ℕ} → RecordRuns xs o → OpenRemark o → record_end xs ≡ fault 3 o
unfolding record_end
end_remark_only {xs} h q = runs_step 5 xs h ∙ remark_fault semicolon 5 xs semicolon_passing 0 q

-- refusal 5, no `;` up to the file's end: at the record's start
pub end_over_only : {xs : List ℕ} → RecordRuns xs [] → record_end xs ≡ fault 5 xs
unfolding record_end walk
end_over_only {xs} h = runs_step 5 xs h

-- what becomes of a search for a record's end, by the tokens that the list is read as
end_comes : {xs : List ℕ} → ReadsAsTokens xs → Outcome (RecordEnds xs) (RecordRuns xs)
end_comes ReadsAsTokens.end = Outcome.over RecordRuns.none
end_comes (ReadsAsTokens.byte {c} {t} h k s) = go (ℕ_discrete c 59) (end_comes s)
  where
    go : Dec (c ≡ 59) → Outcome (RecordEnds t) (RecordRuns t) → Outcome (RecordEnds (c ∷ t)) (RecordRuns (c ∷ t))
    go (yes p) u = Outcome.found t (rw p RecordRuns.none)
    go (no l) u = further (λ r. RecordRuns.byte l h k) (λ o. RecordRuns.byte l h k) u
end_comes (ReadsAsTokens.string q s) = further (λ r. RecordRuns.string q) (λ o. RecordRuns.string q) (end_comes s)
end_comes (ReadsAsTokens.comment q s) = further (λ r. RecordRuns.comment q) (λ o. RecordRuns.comment q) (end_comes s)
end_comes {xs} (ReadsAsTokens.text q) = Outcome.text xs RecordRuns.none q
end_comes {xs} (ReadsAsTokens.remark q) = Outcome.remark xs RecordRuns.none q

-- each outcome of a search for a record's end, with its answer
end_answers : (xs : List ℕ) → Answers (record_end xs) 59 5 xs (RecordEnds xs) (RecordRuns xs)
end_answers xs = record {
  comes = end_comes (tokens xs);
  founds = λ r. end_only;
  texts = λ o. end_text_only;
  remarks = λ o. end_remark_only;
  overs = end_over_only;
}

-- "ends at the first `;` outside strings and comments": what the search for a record's end finds is that by the grammar
pub end_is : (xs ys : List ℕ) → record_end xs ≡ at ys → (r : List ℕ) × (ys ≡ 59 ∷ r) × RecordEnds xs r
end_is xs = found_is (end_answers xs)

-- a refusal of a record's end is 4, 3 or 5, and the grammar has what each says
pub record_end_open : (xs : List ℕ) (n : ℕ) (o : List ℕ) → record_end xs ≡ fault n o
    → ((n ≡ 4) × RecordRuns xs o × OpenText o) ⊎ (((n ≡ 3) × RecordRuns xs o × OpenRemark o) ⊎ ((n ≡ 5) × (o ≡ xs) × RecordRuns xs []))
record_end_open xs = fault_is (end_answers xs)

-- a record has at most one end
pub end_one : {xs r s : List ℕ} → RecordEnds xs r → RecordEnds xs s → r ≡ s
end_one h k = cc (end_only h, end_only k)

-- a search for a closing `)` passes over strings and comments
paren_passing : Passing paren
paren_passing = record { quote = λ d. refl; slash = λ d. refl }

module _ (n : ℕ) (w : List ℕ) where
  -- a `(` opens one parenthesis more for the search for a `)`
  deeper : (d : ℕ) (t : List ℕ) → plainly paren n w d (40 ∷ t) ≡ plainly paren n w (suc d) t
  deeper d t = byte_step paren n w d (suc d) 40 t (eqb-false 40 39 refl) (λ (r, e). eqb-false 40 47 refl (cc)) refl

  -- a `)` closes the innermost parenthesis for the search for a `)`
  shallower : (d : ℕ) (t : List ℕ) → plainly paren n w (suc d) (41 ∷ t) ≡ plainly paren n w d t
  shallower d t = byte_step paren n w (suc d) d 41 t (eqb-false 41 39 refl) (λ (r, e). eqb-false 41 47 refl (cc)) refl

  -- balanced bytes leave the depth of the search for a `)` as it is
  balanced_step : (d : ℕ) {xs ys : List ℕ} → Balanced xs ys → plainly paren n w d xs ≡ plainly paren n w d ys
  balanced_step d Balanced.none = refl
  balanced_step d (Balanced.byte {c} {xs} h k l m r) =
      byte_step paren n w d d c xs l m (rw (ne_eqb c 40 h, ne_eqb c 41 k)) ∙ balanced_step d r
  balanced_step d (Balanced.string q r) = string_step paren n w paren_passing d q ∙ balanced_step d r
  balanced_step d (Balanced.comment q r) = comment_step paren n w paren_passing d q ∙ balanced_step d r
  balanced_step d (Balanced.group {xs} {zs} r s) = deeper d xs ∙ balanced_step (suc d) r ∙ shallower d zs ∙ balanced_step d s

  -- bytes that leave parentheses open lead the search for a `)` to some depth
  deep_step : (d : ℕ) {k : ℕ} {xs ys : List ℕ} → Deep k xs ys → (e : ℕ) × (plainly paren n w d xs ≡ plainly paren n w e ys)
  deep_step d (Deep.flat r) = (d, balanced_step d r)
  deep_step d (Deep.nested {zs} r s) = let (e, p) = deep_step (suc d) s in (e, balanced_step d r ∙ deeper d zs ∙ p)

-- "The closing `)`": where the grammar has it, the search finds it
pub closing_only : (c : ℕ) {t r : List ℕ} → Closes t r → closing (c ∷ t) ≡ at (41 ∷ r)
unfolding closing
closing_only c {t} {r} h = balanced_step 6 (c ∷ t) 0 h ∙ seek_halts paren (missed 6 (c ∷ t)) Plain 0 (41 ∷ r) 41 r refl refl

-- refusal 4, "string open": on the way to the closing `)`, at the string's quote
pub closing_text_only : (c : ℕ) {d : ℕ} {t o : List ℕ} → Deep d t o → OpenText o → closing (c ∷ t) ≡ fault 4 o
unfolding closing
closing_text_only c {t} h q = let (e, p) = deep_step 6 (c ∷ t) 0 h in p ∙ text_fault paren 6 (c ∷ t) paren_passing e q

-- refusal 3, "comment open": on the way to the closing `)`, at the comment's slash
pub closing_remark_only : (c : ℕ) {d : ℕ} {t o : List ℕ} → Deep d t o → OpenRemark o → closing (c ∷ t) ≡ fault 3 o
unfolding closing
closing_remark_only c {t} h q = let (e, p) = deep_step 6 (c ∷ t) 0 h in p ∙ remark_fault paren 6 (c ∷ t) paren_passing e q

-- refusal 6, no closing `)` up to the file's end: at the `(`
pub closing_over_only : (c : ℕ) {d : ℕ} {t : List ℕ} → Deep d t [] → closing (c ∷ t) ≡ fault 6 (c ∷ t)
unfolding closing walk
closing_over_only c {t} h = let (e, p) = deep_step 6 (c ∷ t) 0 h in p

-- from xs, with d parentheses open, up to ys with k open: some of the d are closed first, and what is opened then is left open
data Sunk : ℕ → ℕ → List ℕ → List ℕ → Type 0 where
  stay : {d k : ℕ} {xs ys : List ℕ} (i : ℕ) → k ≡ i + d → Deep i xs ys → Sunk d k xs ys
  rise : {d k : ℕ} {xs zs ys : List ℕ} → Balanced xs (41 ∷ zs) → Sunk d k zs ys → Sunk (suc d) k xs ys

-- where nothing is read, the depth is as it was
sunk_none : (d : ℕ) (xs : List ℕ) → Sunk d d xs xs
sunk_none d xs = Sunk.stay {d = d} {k = d} 0 (omega arith) (Deep.flat Balanced.none)

-- balanced bytes may go before bytes that leave parentheses open
deep_before : {i : ℕ} {xs ts ys : List ℕ} → ((zs : List ℕ) → Balanced ts zs → Balanced xs zs) → Deep i ts ys → Deep i xs ys
deep_before {ys} g (Deep.flat r) = Deep.flat (g ys r)
deep_before g (Deep.nested {zs} r s) = Deep.nested (g (40 ∷ zs) r) s

-- balanced bytes may go before bytes that close some of the open parentheses and open others
sunk_before : {d k : ℕ} {xs ts ys : List ℕ} → ((zs : List ℕ) → Balanced ts zs → Balanced xs zs) → Sunk d k ts ys → Sunk d k xs ys
sunk_before g (Sunk.stay i e s) = Sunk.stay i e (deep_before g s)
sunk_before g (Sunk.rise {zs} r s) = Sunk.rise (g (41 ∷ zs) r) s

-- a `(` may go before bytes that begin with one parenthesis more open
sunk_open : {d k : ℕ} {t ys : List ℕ} → Sunk (suc d) k t ys → Sunk d k (40 ∷ t) ys
sunk_open {d} {k} (Sunk.stay i e s) = Sunk.stay {d = d} {k = k} (suc i) (omega arith) (Deep.nested Balanced.none s)
sunk_open (Sunk.rise r s) = sunk_before (λ zs. Balanced.group r) s

-- bytes that begin with no parenthesis open leave k open
sunk_deep : {k : ℕ} {xs ys : List ℕ} → Sunk 0 k xs ys → Deep k xs ys
sunk_deep {k} (Sunk.stay i e s) = let g : k ≡ i = omega arith in rw g s

-- bytes that leave no parenthesis open up to a `)` close there
deep_closes : {xs r : List ℕ} → Deep 0 xs (41 ∷ r) → Closes xs r
deep_closes (Deep.flat r) = r

-- what becomes of a search for a closing `)` with d parentheses open
abbrev Comes : ℕ → List ℕ → Type 0
Comes d xs = Outcome (λ r. Sunk d 0 xs (41 ∷ r)) (λ o. (k : ℕ) × Sunk d k xs o)

-- what becomes of a search for a `)` from further on, at another depth, becomes of it from here
sunken : (d e : ℕ) (xs ts : List ℕ) → ((k : ℕ) (ys : List ℕ) → Sunk e k ts ys → Sunk d k xs ys) → Comes e ts → Comes d xs
sunken d e xs ts g u = further (λ r. g 0 (41 ∷ r)) (λ o s. (s.0, g s.0 o s.1)) u

-- what becomes of a search for a `)` where a `)` stands
closed_comes : (d : ℕ) (t : List ℕ) → ((e : ℕ) → Comes e t) → Comes d (41 ∷ t)
closed_comes zero t u = Outcome.found t (sunk_none 0 (41 ∷ t))
closed_comes (suc d) t u = sunken (suc d) d (41 ∷ t) t (λ k ys. Sunk.rise Balanced.none) (u d)

-- what becomes of a search for a `)`, by the tokens that the list is read as
closing_comes : {xs : List ℕ} → ReadsAsTokens xs → (d : ℕ) → Comes d xs
closing_comes ReadsAsTokens.end d = Outcome.over (d, sunk_none d [])
closing_comes (ReadsAsTokens.byte {c} {t} h v s) d = go (ℕ_discrete c 40) (ℕ_discrete c 41) (closing_comes s)
  where
    go : Dec (c ≡ 40) → Dec (c ≡ 41) → ((e : ℕ) → Comes e t) → Comes d (c ∷ t)
    go (yes p) q u = rw p (sunken d (suc d) (40 ∷ t) t (λ k ys. sunk_open) (u (suc d)))
    go (no l) (yes q) u = rw q (closed_comes d t u)
    go (no l) (no m) u = sunken d d (c ∷ t) t (λ k ys. sunk_before (λ zs. Balanced.byte l m h v)) (u d)
closing_comes {xs} (ReadsAsTokens.string {zs} q s) d = sunken d d xs zs (λ k ys. sunk_before (λ zs. Balanced.string q)) (closing_comes s d)
closing_comes {xs} (ReadsAsTokens.comment {zs} q s) d = sunken d d xs zs (λ k ys. sunk_before (λ zs. Balanced.comment q)) (closing_comes s d)
closing_comes {xs} (ReadsAsTokens.text q) d = Outcome.text xs (d, sunk_none d xs) q
closing_comes {xs} (ReadsAsTokens.remark q) d = Outcome.remark xs (d, sunk_none d xs) q

-- what becomes of a search for the `)` that closes a `(`, which t follows
closes_comes : (t : List ℕ) → Outcome (Closes t) (λ o. (d : ℕ) × Deep d t o)
closes_comes t = further (λ r s. deep_closes (sunk_deep s)) (λ o s. (s.0, sunk_deep s.1)) (closing_comes (tokens t) 0)

-- each outcome of a search for a closing `)`, with its answer
closing_answers : (c : ℕ) (t : List ℕ) → Answers (closing (c ∷ t)) 41 6 (c ∷ t) (Closes t) (λ o. (d : ℕ) × Deep d t o)
closing_answers c t = record {
  comes = closes_comes t;
  founds = λ r. closing_only c;
  texts = λ o (d, h). closing_text_only c h;
  remarks = λ o (d, h). closing_remark_only c h;
  overs = λ (d, h). closing_over_only c h;
}

-- "The closing `)`": what the search finds is that by the grammar
pub closing_is : (c : ℕ) (t ys : List ℕ) → closing (c ∷ t) ≡ at ys → (r : List ℕ) × (ys ≡ 41 ∷ r) × Closes t r
closing_is c t = found_is (closing_answers c t)

-- a refusal of a closing `)` is 4, 3 or 6, and the grammar has what each says
pub closing_open : (c : ℕ) (t : List ℕ) (n : ℕ) (o : List ℕ) → closing (c ∷ t) ≡ fault n o
    → ((n ≡ 4) × ((d : ℕ) × Deep d t o) × OpenText o)
    ⊎ (((n ≡ 3) × ((d : ℕ) × Deep d t o) × OpenRemark o) ⊎ ((n ≡ 6) × (o ≡ c ∷ t) × ((d : ℕ) × Deep d t [])))
closing_open c t = fault_is (closing_answers c t)

-- a `(` has at most one closing `)`
pub closing_one : {t r s : List ℕ} → Closes t r → Closes t s → r ≡ s
closing_one h k = cc (closing_only 40 h, closing_only 40 k)
