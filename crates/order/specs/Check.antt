-- The cut of a file, and whether the file is closed, by computation: what is found is so. With these a file is shown to meet demand 3's
-- premises by computing alone (Concrete.antt, Needed.antt). Assumes nothing.
use Rattle.std.specs.Prelude.{ℕ, zero, suc, ◌-◌, ◌≡◌, refl, Bool, true, false, ◌&&◌, not, List, [], ◌∷◌, ◌++◌, eqb, length, take, drop, Result, Ok, Err, Option, None, Some}
use Rattle.std.proofs.Common.{sym, ◌∙◌, ap, subst, append_assoc, append-nil, arith, eqb-true, length-append, length-drop, take-append-drop, take_at, length-take-le}
use Rattle.std.proofs.lemmas.Bool.{eqb-false}
use Rattle.common.specs.Pick.{pick}
use Rattle.common.specs.Compare.{clash}
use Rattle.common.specs.Tests.{both}
use Rattle.lex.specs.Grammar.{Closes}
use Rattle.lex.specs.Search.{record_end, closing}
use Rattle.lex.specs.Answer.{Sought, at, fault}
use Rattle.lex.specs.Local.{closing_local}
use Rattle.lex.specs.Right.{end_is, closing_is}
use Rattle.record.specs.Text.{before, past}
use Rattle.record.specs.Form.{Free}
use Rattle.record.specs.FormRight.Parts.{SplitAfter, split_is, past_pass, past_halt}
use Rattle.record.specs.Head.{data_head, header_head}
use Rattle.record.specs.declared.Head.{Head}
use Rattle.record.specs.declared.Head.TheVariants.{Complex, Simple}
use Rattle.record.specs.declared.Named.{Named}
use Rattle.error.specs.declared.Reason.{Reason}
use Rattle.statement.specs.Rows.{Row, HeaderRow, Stmt, reading_ends, statement_refused, section_now, header_statement, data_statement}
use Rattle.statement.specs.Statement.{statement}
use Rattle.statement.specs.Closed.{OutsideBoth, ClosedAt, ClosedParts, ClosedData, ClosedHeader, ClosedFrom}
use Rattle.statement.specs.ClosedRight.Outside.{outside_of}
use Rattle.statement.specs.ClosedRight.Statements.{StatementCase, step}
use Rattle.statement.specs.declared.Section.{Section}
use Rattle.statement.specs.declared.Section.TheVariants.{InHeader, InData}
use Rattle.order.specs.Order.{CutFile, no_more_records, next_record, fronted_by, Cuts, head_has_id, of_id, context_text}
use Rattle.order.specs.Exchange.{Lone}

-- the bytes of f and r before the rest r are f
before_rest : (f r : List ℕ) → before (f ++ r) r ≡ f
before_rest f r = take_at f r (length (f ++ r) - length r) (simp length-append (omega arith))

-- a list is what stands before its rest, and its rest
before_whole : {xs : List ℕ} (f r : List ℕ) → xs ≡ f ++ r → xs ≡ before xs r ++ r
before_whole f r e = rw e (ap (λ (z : List ℕ). z ++ r) (sym (before_rest f r)))

-- ---- a place outside strings and comments
-- a search for a `;` finds the last byte of the list
abbrev at_last : Sought → Bool
at_last (at r) = eqb (length r) 1
at_last (fault n o) = false

-- f leads to a place outside strings and comments, with no `;` on the way: a `;` there is found
unfoldable pub clear : List ℕ → Bool
clear f = at_last (record_end (f ++ (59 ∷ [])))

clear_is : (f t : List ℕ) → clear f ≡ true → OutsideBoth (f ++ (40 ∷ t)) (40 ∷ t)
unfolding clear
clear_is f t h = go (record_end (f ++ (59 ∷ []))) refl h
  where
    lone : (r : List ℕ) → length r ≡ 0 → r ≡ []
    lone [] n = refl
    lone (c ∷ r) n = absurd (omega (arith, n))

    go : (x : Sought) → record_end (f ++ (59 ∷ [])) ≡ x → at_last x ≡ true → OutsideBoth (f ++ (40 ∷ t)) (40 ∷ t)
    go (fault n o) e k = clash (cc)
    go (at r) e k =
        let (y, p, u) = end_is (f ++ (59 ∷ [])) r e in
        let n : length r ≡ 1 = eqb-true (length r) 1 k in
        let m : y ≡ [] = lone y (omega (arith, n, ap length p)) in
        outside_of f t [] (e ∙ ap at (p ∙ ap (λ (z : List ℕ). 59 ∷ z) m))

-- ---- a `)` that closes
-- what follows the byte that a search finds
abbrev following : Sought → Option (List ℕ)
following (at []) = None
following (at (c ∷ r)) = Some r
following (fault n o) = None

-- what follows the `)` of a `(` that t follows
unfoldable pub closed_by : List ℕ → Option (List ℕ)
closed_by t = following (closing (40 ∷ t))

closed_by_lem : (t k : List ℕ) → closed_by t ≡ Some k → (t ≡ before t (41 ∷ k) ++ (41 ∷ k)) × Closes t k
unfolding closed_by
closed_by_lem t k h = go (closing (40 ∷ t)) refl h
  where
    go : (x : Sought) → closing (40 ∷ t) ≡ x → following x ≡ Some k → (t ≡ before t (41 ∷ k) ++ (41 ∷ k)) × Closes t k
    go (fault n o) e g = clash (cc)
    go (at []) e g = clash (cc)
    go (at (c ∷ r)) e g =
        let (v, p, u) = closing_is 40 t (c ∷ r) e in
        let m : v ≡ k = cc in
        let f : closing (40 ∷ t) ≡ at (41 ∷ k) = cc in
        let (a, q, l) = closing_local 40 t k f in
        let n : before t (41 ∷ k) ≡ a = ap (λ (z : List ℕ). before z (41 ∷ k)) q ∙ before_rest a (41 ∷ k) in
        (rw n q, rw m at u)

-- ---- a record's `(`
-- what follows a `(` at the start of a list, if there is one
abbrev opening : List ℕ → Option (List ℕ)
opening [] = None
opening (c ∷ t) = pick (eqb c 40) (Some t) None

-- an option goes on by k; none stays none
abbrev and_so : {A B : Type 0} → Option A → (A → Option B) → Option B
and_so None k = None
and_so (Some a) k = k a

-- "`(` lies outside strings and comments and closes before that record's `;`": the arguments between the `(` at the place o of the
-- record's text and its `)`
unfoldable pub args_at : List ℕ → ℕ → Option (List ℕ)
args_at b o = pick (clear (take o b)) (and_so (opening (drop o b)) (λ t. and_so (closed_by t) (λ k. Some (before t (41 ∷ k))))) None

args_at_lem : (b : List ℕ) (o : ℕ) (a : List ℕ) → args_at b o ≡ Some a → (c : ClosedAt b o) × (c.args ≡ a)
unfolding args_at
args_at_lem b o a h = by (clear (take o b)) refl h
  where
    made : (t k : List ℕ) → clear (take o b) ≡ true → drop o b ≡ 40 ∷ t → closed_by t ≡ Some k → before t (41 ∷ k) ≡ a
        → (c : ClosedAt b o) × (c.args ≡ a)
    made t k u d e g =
        let (p, q) = closed_by_lem t k e in
        let i : t ≡ a ++ (41 ∷ k) = rw g at p in
        let j : b ≡ take o b ++ (40 ∷ (a ++ (41 ∷ k))) = sym (take-append-drop o b) ∙ ap (λ (z : List ℕ). take o b ++ z) (d ∙ ap (λ (z : List ℕ). 40 ∷ z) i) in (
          record {
            front = take o b;
            args = a;
            back = k;
            shape = j;
            place = length-take-le o b (omega (arith, length-drop o b, ap length d));
            outside = subst (λ (z : List ℕ). OutsideBoth z (40 ∷ (a ++ (41 ∷ k)))) (sym j) (clear_is (take o b) (a ++ (41 ∷ k)) u);
            closes = rw i at q;
          },
          refl,
        )

    shut : (t : List ℕ) → clear (take o b) ≡ true → drop o b ≡ 40 ∷ t → (x : Option (List ℕ)) → closed_by t ≡ x
        → and_so x (λ k. Some (before t (41 ∷ k))) ≡ Some a → (c : ClosedAt b o) × (c.args ≡ a)
    shut t u d None e g = clash (cc)
    shut t u d (Some k) e g = made t k u d e (cc)

    from : (xs : List ℕ) → clear (take o b) ≡ true → drop o b ≡ xs
        → and_so (opening xs) (λ t. and_so (closed_by t) (λ k. Some (before t (41 ∷ k)))) ≡ Some a → (c : ClosedAt b o) × (c.args ≡ a)
    from [] u d g = clash (cc)
    from (c ∷ t) u d g = first (eqb c 40) refl g
      where
        first : (x : Bool) → eqb c 40 ≡ x → and_so (pick x (Some t) None) (λ t. and_so (closed_by t) (λ k. Some (before t (41 ∷ k)))) ≡ Some a
            → (c : ClosedAt b o) × (c.args ≡ a)
        first false e m = clash (cc)
        first true e m = shut t u (d ∙ ap (λ (z : ℕ). z ∷ t) (eqb-true c 40 e)) (closed_by t) refl m

    by : (x : Bool) → clear (take o b) ≡ x → pick x (and_so (opening (drop o b)) (λ t. and_so (closed_by t) (λ k. Some (before t (41 ∷ k))))) None ≡ Some a
        → (c : ClosedAt b o) × (c.args ≡ a)
    by false u g = clash (cc)
    by true u g = from (drop o b) u refl g

-- ---- a complex record's parts
-- a byte that is no `(`
abbrev unopening : ℕ → Bool
unopening d = not (eqb d 40)

-- an option is something, and k holds of it
abbrev holds_by : Option (List ℕ) → (List ℕ → Bool) → Bool
holds_by None k = false
holds_by (Some t) k = k t

-- the rest of the arguments a from the next `(` byte on: there is none; or it lies outside both, and k holds after its `)`
abbrev part_by : List ℕ → List ℕ → (List ℕ → Bool) → Bool
part_by a [] k = true
part_by a (c ∷ r) k = clear (before a (c ∷ r)) && holds_by (closed_by r) k

part_by_lem : (a : List ℕ) (k : List ℕ → Bool) → part_by a (past unopening a) k ≡ true → ((t : List ℕ) → k t ≡ true → ClosedParts t) → ClosedParts a
part_by_lem a k h i = split (split_is unopening a)
  where
    after : (f r : List ℕ) → a ≡ f ++ (40 ∷ r) → Free 40 f → clear f ≡ true → (x : Option (List ℕ)) → closed_by r ≡ x → holds_by x k ≡ true
        → ClosedParts a
    after f r e u m None g n = clash (cc)
    after f r e u m (Some t) g n =
        ClosedParts.part f e u (subst (λ (z : List ℕ). OutsideBoth z (40 ∷ r)) (sym e) (clear_is f r m)) (closed_by_lem r t g).1 (i t n)

    both : (f r : List ℕ) → a ≡ f ++ (40 ∷ r) → Free 40 f → (x : Bool) → clear f ≡ x → (x && holds_by (closed_by r) k) ≡ true → ClosedParts a
    both f r e u true m n = after f r e u m (closed_by r) refl n
    both f r e u false m n = clash (cc)

    forty : (c : ℕ) → unopening c ≡ false → c ≡ 40
    forty c = by (eqb c 40) refl
      where
        by : (x : Bool) → eqb c 40 ≡ x → not x ≡ false → c ≡ 40
        by true e n = eqb-true c 40 e
        by false e n = clash (cc)

    split : SplitAfter unopening a → ClosedParts a
    split (f, [], e, u) = ClosedParts.none (subst (λ (z : List ℕ). Free 40 z) (sym (e ∙ append-nil f)) u.all)
    split (f, c ∷ r, e, u) =
        let p : past unopening a ≡ c ∷ r = rw e (past_pass unopening f (c ∷ r) u.all ∙ past_halt unopening (c ∷ r) u.over) in
        let q : c ≡ 40 = forty c (u.over c r refl) in
        let m : before a (c ∷ r) ≡ f = ap (λ (z : List ℕ). before z (c ∷ r)) e ∙ before_rest f (c ∷ r) in
        let n : part_by a (c ∷ r) k ≡ true = rw p at h in
        both f r (rw q at e) u.all (clear f) refl (rw m at n)

-- "each complex record's parts have their `(` outside both": the arguments a have fewer parts than n
unfoldable pub parts_closed : ℕ → List ℕ → Bool
parts_closed zero a = false
parts_closed (suc n) a = part_by a (past unopening a) (λ t. parts_closed n t)

parts_closed_lem : (n : ℕ) (a : List ℕ) → parts_closed n a ≡ true → ClosedParts a
unfolding parts_closed
parts_closed_lem zero a h = clash (cc)
parts_closed_lem (suc n) a h = part_by_lem a (λ t. parts_closed n t) h (λ t g. parts_closed_lem n t g)

-- ---- a record's text
-- a data record's text is closed, by its head
abbrev data_by : List ℕ → Result Head Reason → Bool
data_by b (Err why) = false
data_by b (Ok (Simple i a z o)) = holds_by (args_at b o) (λ a. true)
data_by b (Ok (Complex i o)) = holds_by (args_at b o) (parts_closed (length b))

-- "each [..] data record's `(` [..], and each complex record's parts": a data record's text is closed
unfoldable pub data_closed : List ℕ → Bool
data_closed b = data_by b (data_head b)

data_closed_lem : (b : List ℕ) → data_closed b ≡ true → ClosedData b
unfolding data_closed
data_closed_lem b h = go (data_head b) refl h
  where
    simple : {i a z o : ℕ} → data_head b ≡ Ok (Simple i a z o) → (x : Option (List ℕ)) → args_at b o ≡ x → holds_by x (λ a. true) ≡ true → ClosedData b
    simple e None g m = clash (cc)
    simple {o} e (Some a) g m = ClosedData.simple e (args_at_lem b o a g).0

    complex : {i o : ℕ} → data_head b ≡ Ok (Complex i o) → (x : Option (List ℕ)) → args_at b o ≡ x → holds_by x (parts_closed (length b)) ≡ true → ClosedData b
    complex e None g m = clash (cc)
    complex {o} e (Some a) g m = let (c, p) = args_at_lem b o a g in ClosedData.complex e c (rw p (parts_closed_lem (length b) a m))

    go : (x : Result Head Reason) → data_head b ≡ x → data_by b x ≡ true → ClosedData b
    go (Err why) e m = clash (cc)
    go (Ok (Simple i a z o)) e m = simple e (args_at b o) refl m
    go (Ok (Complex i o)) e m = complex e (args_at b o) refl m

-- a header record's text is closed, by its head
abbrev header_by : List ℕ → Result Named Reason → Bool
header_by b (Err why) = false
header_by b (Ok h) = holds_by (args_at b h.opening) (λ a. true)

-- "each header [..] record's `(`": a header record's text is closed
unfoldable pub header_closed : List ℕ → Bool
header_closed b = header_by b (header_head b)

header_closed_lem : (b : List ℕ) → header_closed b ≡ true → ClosedHeader b
unfolding header_closed
header_closed_lem b h = go (header_head b) refl h
  where
    named : (h : Named) → header_head b ≡ Ok h → (x : Option (List ℕ)) → args_at b h.opening ≡ x → holds_by x (λ a. true) ≡ true → ClosedHeader b
    named h e None g m = clash (cc)
    named h e (Some a) g m = ClosedHeader.named e (args_at_lem b h.opening a g).0

    go : (x : Result Named Reason) → header_head b ≡ x → header_by b x ≡ true → ClosedHeader b
    go (Err why) e m = clash (cc)
    go (Ok h) e m = named h e (args_at b h.opening) refl m

-- ---- the file
-- the text of a record that starts with the rest ys, where r follows its `;`
abbrev text_of : List ℕ → List ℕ → List ℕ
text_of ys r = before ys (59 ∷ r)

-- a statement is closed by what it says, and k holds of what follows it
abbrev closed_step : Stmt → (Section → List ℕ → Bool) → Bool
closed_step reading_ends k = true
closed_step (statement_refused q) k = false
closed_step (section_now to r) k = k to r
closed_step (header_statement w ys r) k = header_closed (text_of ys r) && k InHeader r
closed_step (data_statement w ys r) k = data_closed (text_of ys r) && k InData r

-- "A file is closed when each header and data record's `(` lies [..]": the file s, from the rest xs on in a section, of fewer
-- statements than n
unfoldable pub closed_from : ℕ → List ℕ → Section → List ℕ → Bool
closed_from zero s sec xs = false
closed_from (suc n) s sec xs = closed_step (statement s sec xs) (λ to r. closed_from n s to r)

closed_step_lem : (s : List ℕ) (sec : Section) (xs : List ℕ) (k : Section → List ℕ → Bool) → closed_step (statement s sec xs) k ≡ true
    → ((to : Section) (r : List ℕ) → k to r ≡ true → ClosedFrom s to r) → ClosedFrom s sec xs
closed_step_lem s sec xs k h i = go (step s sec xs) refl h
  where
    go : {x : Stmt} → StatementCase s sec xs x → statement s sec xs ≡ x → closed_step x k ≡ true → ClosedFrom s sec xs
    go (StatementCase.over l) e m = ClosedFrom.over e
    go (StatementCase.faulty q) e m = clash (cc)
    go (StatementCase.turn t b r to p st l) e m = ClosedFrom.turn e (i to r m)
    go (StatementCase.heading t b r w p st l o) e m =
        let (u, v) = both (header_closed (text_of (b ++ (59 ∷ r)) r)) (k InHeader r) m in
        ClosedFrom.heading e (header_closed_lem b (rw (before_rest b (59 ∷ r)) at u)) (i InHeader r v)
    go (StatementCase.entry t b r w p st l) e m =
        let (u, v) = both (data_closed (text_of (b ++ (59 ∷ r)) r)) (k InData r) m in
        ClosedFrom.entry e (data_closed_lem b (rw (before_rest b (59 ∷ r)) at u)) (i InData r v)

-- what the computation calls a closed file is closed
pub closed_from_lem : (n : ℕ) (s : List ℕ) (sec : Section) (xs : List ℕ) → closed_from n s sec xs ≡ true → ClosedFrom s sec xs
unfolding closed_from
closed_from_lem zero s sec xs h = clash (cc)
closed_from_lem (suc n) s sec xs h = closed_step_lem s sec xs (λ to r. closed_from n s to r) h (λ to r g. closed_from_lem n s to r g)

-- what a statement adds to the cut of what follows it, which k gives
abbrev cut_step : List ℕ → Stmt → (Section → List ℕ → Option CutFile) → Option CutFile
cut_step xs reading_ends k = Some (no_more_records xs)
cut_step xs (statement_refused q) k = None
cut_step xs (section_now to r) k = and_so (k to r) (λ c. Some (fronted_by (before xs r) c))
cut_step xs (header_statement w ys r) k = and_so (k InHeader r) (λ c. Some (fronted_by (before xs r) c))
cut_step xs (data_statement w ys r) k = and_so (k InData r) (λ c. Some (next_record (before xs ys) (text_of ys r) (fronted_by (59 ∷ []) c)))

-- the reader's own cut of the file s, from the rest xs on in a section, of fewer statements than n
unfoldable pub cut_from : ℕ → List ℕ → Section → List ℕ → Option CutFile
cut_from zero s sec xs = None
cut_from (suc n) s sec xs = cut_step xs (statement s sec xs) (λ to r. cut_from n s to r)

cut_step_lem : (s : List ℕ) (sec : Section) (xs : List ℕ) (k : Section → List ℕ → Option CutFile) (c : CutFile)
    → cut_step xs (statement s sec xs) k ≡ Some c → ((to : Section) (r : List ℕ) (d : CutFile) → k to r ≡ Some d → Cuts s to r d) → Cuts s sec xs c
cut_step_lem s sec xs k c h i = go (step s sec xs) refl h
  where
    turned : {to : Section} (f r : List ℕ) → xs ≡ f ++ r → statement s sec xs ≡ section_now to r → (x : Option CutFile) → k to r ≡ x
        → and_so x (λ d. Some (fronted_by (before xs r) d)) ≡ Some c → Cuts s sec xs c
    turned f r p e None g m = clash (cc)
    turned {to} f r p e (Some d) g m =
        let q : fronted_by (before xs r) d ≡ c = cc in
        rw q at (Cuts.turn (before xs r) (before_whole f r p) e (i to r d g))

    headed : {w : HeaderRow} {ys : List ℕ} (f r : List ℕ) → xs ≡ f ++ r → statement s sec xs ≡ header_statement w ys r → (x : Option CutFile) → k InHeader r ≡ x
        → and_so x (λ d. Some (fronted_by (before xs r) d)) ≡ Some c → Cuts s sec xs c
    headed f r p e None g m = clash (cc)
    headed f r p e (Some d) g m =
        let q : fronted_by (before xs r) d ≡ c = cc in
        rw q at (Cuts.heading (before xs r) (before_whole f r p) e (i InHeader r d g))

    entered : {w : Row} (t b r : List ℕ) → xs ≡ t ++ (b ++ (59 ∷ r)) → statement s sec xs ≡ data_statement w (b ++ (59 ∷ r)) r
        → (x : Option CutFile) → k InData r ≡ x
        → and_so x (λ d. Some (next_record (before xs (b ++ (59 ∷ r))) (text_of (b ++ (59 ∷ r)) r) (fronted_by (59 ∷ []) d))) ≡ Some c → Cuts s sec xs c
    entered t b r p e None g m = clash (cc)
    entered t b r p e (Some d) g m =
        let u : text_of (b ++ (59 ∷ r)) r ≡ b = before_rest b (59 ∷ r) in
        let q : next_record (before xs (b ++ (59 ∷ r))) b (fronted_by (59 ∷ []) d) ≡ c = cc in
        rw q at (Cuts.entry {g = before xs (b ++ (59 ∷ r))} {b = b} (before_whole t (b ++ (59 ∷ r)) p) e (i InData r d g))

    ahead : (t b r : List ℕ) → t ++ (b ++ (59 ∷ r)) ≡ ((t ++ b) ++ (59 ∷ [])) ++ r
    ahead t b r = sym (append_assoc t b _) ∙ sym (append_assoc (t ++ b) (59 ∷ []) r)

    go : {x : Stmt} → StatementCase s sec xs x → statement s sec xs ≡ x → cut_step xs x k ≡ Some c → Cuts s sec xs c
    go (StatementCase.over l) e m = let q : no_more_records xs ≡ c = cc in rw q at (Cuts.over e)
    go (StatementCase.faulty q) e m = clash (cc)
    go (StatementCase.turn t b r to p st l) e m = turned ((t ++ b) ++ (59 ∷ [])) r (p ∙ ahead t b r) e (k to r) refl m
    go (StatementCase.heading t b r w p st l o) e m = headed ((t ++ b) ++ (59 ∷ [])) r (p ∙ ahead t b r) e (k InHeader r) refl m
    go (StatementCase.entry t b r w p st l) e m = entered t b r p e (k InData r) refl m

-- what the computation calls the cut of a file is its cut
pub cut_from_lem : (n : ℕ) (s : List ℕ) (sec : Section) (xs : List ℕ) (c : CutFile) → cut_from n s sec xs ≡ Some c → Cuts s sec xs c
unfolding cut_from
cut_from_lem zero s sec xs c h = clash (cc)
cut_from_lem (suc n) s sec xs c h = cut_step_lem s sec xs (λ to r. cut_from n s to r) c h (λ to r d g. cut_from_lem n s to r d g)

-- ---- ids
-- the text has the id i
abbrev pub HasId : List ℕ → ℕ → Type 0
HasId b i = (k : ℕ) → head_has_id k (data_head b) ≡ eqb i k

-- texts with different ids have no id in common
pub ids_apart : (a b : List ℕ) (i j : ℕ) → HasId a i → HasId b j → eqb i j ≡ false → (k : ℕ) → (head_has_id k (data_head a) && head_has_id k (data_head b)) ≡ false
ids_apart a b i j h g e k = rw (h k, g k) (go (eqb i k) (eqb j k) refl refl)
  where
    go : (x y : Bool) → eqb i k ≡ x → eqb j k ≡ y → (x && y) ≡ false
    go false y p q = refl
    go true false p q = refl
    go true true p q = absurd (eqb-false i j e (eqb-true i k p ∙ sym (eqb-true j k q)))

-- a text whose id no other has and that is no unit context is a lone one
pub lone_text : {b : List ℕ} {rs : List (List ℕ)} (i : ℕ) → HasId b i → of_id i rs ≡ [] → context_text b ≡ false → Lone b rs
lone_text {rs} i h e p = record { id = λ k g. subst (λ (j : ℕ). of_id j rs ≡ []) (eqb-true i k (sym (h k) ∙ g)) e; plain = p }
