-- What stands at the places that are answered: at a refusal's place what its number names, and between a row's arguments' start
-- and end a `(`, balanced bytes and a `)`. Assumes nothing.
use Rattle.std.specs.Prelude.{ℕ, ◌≤◌, ◌<◌, ◌≡◌, refl, List, [], ◌∷◌, length, drop}
use Rattle.std.proofs.Common.{ap, arith, length-append, length-drop}
use Rattle.error.specs.Refusal.{Refusal, refusal, Told, good, bad, told_reason}
use Rattle.lex.specs.Byte.{place}
use Rattle.lex.specs.Grammar.{Begins, OpensComment, Led, RecordRuns, Closes, Deep, OpenText, OpenRemark}
use Rattle.statement.specs.Rows.{Row, HeaderRow, Stmt, reading_ends, statement_refused, section_now, header_statement, data_statement}
use Rattle.statement.specs.Statement.{statement}
use Rattle.statement.specs.declared.Section.{Section}
use Rattle.scan.specs.Records.{Table}
use Rattle.scan.specs.File.{scan_of}
use Rattle.statement.specs.Form.{ArguedTo, Argued, DataForm, HeaderRecordForm, Record, StatementForm}
use Rattle.statement.specs.FormRight.{statement_is}
use Rattle.lex.specs.Rests.{Rest, rest_all, rest_on, rest_of, rest_place, trivia_rest}
use Rattle.scan.specs.Rests.{EachInTurn, runs_rest, balanced_rest, deep_rest, after_rest, record_rest, moved_rest, header_form, data_form, EachOfAnswer, scan_tells}

-- the table of refusal numbers: what the file s is from the place of a refusal with this number on
pub data StandsAtRefusal (s : List ℕ) : ℕ → List ℕ → Type 0 where
  -- "1 no Part 21 marker, 0"
  unmarked : StandsAtRefusal s 1 s
  -- "2 file too long, 0"
  long : StandsAtRefusal s 2 s
  -- "3 comment open, its `/`"
  comment : {o : List ℕ} → OpenRemark o → StandsAtRefusal s 3 o
  -- "4 string open, its first quote"
  string : {o : List ℕ} → OpenText o → StandsAtRefusal s 4 o
  -- "5 record without `;`, its start"
  endless : {xs ys : List ℕ} → Rest s xs → Led xs ys → (ys ≡ [] → ⊥) → RecordRuns ys [] → StandsAtRefusal s 5 ys
  -- "6 parenthesis open, its `(`"
  paren : {d : ℕ} {t : List ℕ} → Deep d t [] → StandsAtRefusal s 6 (40 ∷ t)
  -- "7 bad record, with reason, its start"
  bad_record_form : {xs ys body t : List ℕ} → Rest s xs → Record xs ys body t → StandsAtRefusal s 7 ys
  -- "8 [..], record start"
  full : {xs ys body t : List ℕ} → Rest s xs → Record xs ys body t → StandsAtRefusal s 8 ys

-- a list that is not empty has at least one byte
some : (xs : List ℕ) → (xs ≡ [] → ⊥) → 0 < length xs
some [] h = absurd (h refl)
some (c ∷ xs) h = omega arith

-- but for refusals 1 and 2, what stands at a refusal's place has at least one byte
stands_some : {s : List ℕ} {n : ℕ} {xs : List ℕ} → StandsAtRefusal s n xs → 3 ≤ n → 0 < length xs
stands_some StandsAtRefusal.unmarked h = absurd (omega arith)
stands_some StandsAtRefusal.long h = absurd (omega arith)
stands_some (StandsAtRefusal.comment o) h = omega (arith, ap length o.0.1)
stands_some (StandsAtRefusal.string o) h = omega (arith, ap length o.0.1)
stands_some (StandsAtRefusal.endless {ys} u l k r) h = some ys k
stands_some (StandsAtRefusal.paren d) h = omega arith
stands_some (StandsAtRefusal.bad_record_form u d) h = omega (arith, simp length-append at (ap length d.text))
stands_some (StandsAtRefusal.full u d) h = omega (arith, simp length-append at (ap length d.text))

-- what a refusal's number names stands at its place in the file s
abbrev pub Pointed : List ℕ → Refusal → Type 0
Pointed s q = StandsAtRefusal s q.number (drop q.place s)

-- a refusal at a rest of the file, where what its number names stands, points at that
pointed : {s r : List ℕ} (n why : ℕ) → Rest s r → StandsAtRefusal s n r → Pointed s (refusal n why (place s r))
pointed n why u p = rw (rest_place u) p

-- a refusal of a record's arguments points at what its number names
argued_points : {s t : List ℕ} {q : Refusal} → Rest s (40 ∷ t) → Argued s t (bad q) → Pointed s q
argued_points {t} u (ArguedTo.text_open {d} {o} e h k) = let m : Deep d t o = rw e h in pointed 4 0 (rest_of u (rest_on (deep_rest m))) (StandsAtRefusal.string k)
argued_points {t} u (ArguedTo.remark_open {d} {o} e h k) = let m : Deep d t o = rw e h in pointed 3 0 (rest_of u (rest_on (deep_rest m))) (StandsAtRefusal.comment k)
argued_points {t} u (ArguedTo.unclosed {d} e h) = let m : Deep d t [] = rw e h in pointed 6 0 u (StandsAtRefusal.paren m)

module _ {s xs ys body t : List ℕ} (u : Rest s xs) (d : Record xs ys body t) where
  -- a refusal of a header record points at what its number names
  header_points : {q : Refusal} → HeaderRecordForm s ys body (bad q) → Pointed s q
  header_points (HeaderRecordForm.bad_record_form {why} h) = pointed 7 (told_reason why) (rest_of u (record_rest d).0) (StandsAtRefusal.bad_record_form u d)
  header_points (HeaderRecordForm.named_refused h o g) = argued_points (rest_of (rest_of u (record_rest d).0) (after_rest o)) g

  -- a refusal of a data record points at what its number names
  data_points : {q : Refusal} → DataForm s ys body (bad q) → Pointed s q
  data_points (DataForm.bad_record_form {why} h) = pointed 7 (told_reason why) (rest_of u (record_rest d).0) (StandsAtRefusal.bad_record_form u d)
  data_points (DataForm.complex_refused h o g) = argued_points (rest_of (rest_of u (record_rest d).0) (after_rest o)) g
  data_points (DataForm.simple_refused h o g) = argued_points (rest_of (rest_of u (record_rest d).0) (after_rest o)) g

-- a refusal of a statement points at what its number names
pub refused_points : {s : List ℕ} {sec : Section} {xs : List ℕ} {q : Refusal} → Rest s xs → StatementForm s sec xs (statement_refused q) → Pointed s q
refused_points u (StatementForm.trivia_open r o) = pointed 3 0 (rest_of u (trivia_rest r)) (StandsAtRefusal.comment o)
refused_points u (StatementForm.endless l h r) = pointed 5 0 (rest_of u (trivia_rest l.before)) (StandsAtRefusal.endless u l h r)
refused_points u (StatementForm.text_open l r o) =
    pointed 4 0 (rest_of u (rest_of (trivia_rest l.before) (runs_rest r))) (StandsAtRefusal.string o)
refused_points u (StatementForm.remark_open l r o) =
    pointed 3 0 (rest_of u (rest_of (trivia_rest l.before) (runs_rest r))) (StandsAtRefusal.comment o)
refused_points u (StatementForm.header_refused d f g) = header_points u d g
refused_points u (StatementForm.data_refused d f g) = data_points u d g

-- "argument start and end": a `(` stands before the place a, and its closing `)` at the place e
pub record Enclosed (s : List ℕ) (a e : ℕ) : Type 0 where
  pub after : List ℕ
  pub opened : Rest s (40 ∷ drop a s)
  pub closed : Closes (drop a s) after
  pub ended : drop e s ≡ 41 ∷ after

-- a record's arguments stand between a `(` and its closing `)`
argued_encloses : {s t : List ℕ} {e : ℕ} → Rest s (40 ∷ t) → Argued s t (good e) → Enclosed s (place s t) e
argued_encloses {s} {t} u (ArguedTo.closed {r} e h) =
    let c : Closes t r = rw e h in
    let k : Rest s t = rest_of u (rest_on rest_all) in
    let p : drop (place s t) s ≡ t = rest_place k in
    record { after = r; opened = rw p u; closed = rw p c; ended = rest_place (rest_of k (balanced_rest c)) }

-- the arguments of a header row stand between a `(` and its closing `)`
pub header_encloses : {s ys body : List ℕ} {w : HeaderRow} → Rest s ys → HeaderRecordForm s ys body (good w) → Enclosed s w.arg_start w.arg_end
header_encloses u (HeaderRecordForm.named h a z o g) = argued_encloses (rest_of u (after_rest o)) g

-- the arguments of a data row stand between a `(` and its closing `)`
pub data_encloses : {s ys body : List ℕ} {w : Row} → Rest s ys → DataForm s ys body (good w) → Enclosed s w.arg_start w.arg_end
data_encloses u (DataForm.complex h o g) = argued_encloses (rest_of u (after_rest o)) g
data_encloses u (DataForm.simple h a z o g) = argued_encloses (rest_of u (after_rest o)) g

-- what a statement says of its lists, which are rests of the file, and of its places, which point at what they name
abbrev pub StatementPoints : List ℕ → Stmt → Type 0
StatementPoints s reading_ends = Unit {0}
StatementPoints s (statement_refused q) = Pointed s q
StatementPoints s (section_now sec t) = Rest s t
StatementPoints s (header_statement w ys t) = Rest s ys × Rest s t × Enclosed s w.arg_start w.arg_end
StatementPoints s (data_statement w ys t) = Rest s ys × Rest s t × Enclosed s w.arg_start w.arg_end

-- read from a rest of the file, a statement's lists are rests of the file, and its places point at what they name
pub statement_lists_point : {s : List ℕ} {sec : Section} {xs : List ℕ} (x : Stmt) → Rest s xs → StatementForm s sec xs x → StatementPoints s x
statement_lists_point reading_ends u f = tt
statement_lists_point (statement_refused q) u f = refused_points u f
statement_lists_point (section_now sec t) u f = rest_of u (moved_rest f)
statement_lists_point (header_statement w ys t) u f =
    let (body, d, g) = header_form f in
    let (k, l) = record_rest d in
    (rest_of u k, rest_of u (rest_of k l), header_encloses (rest_of u k) g)
statement_lists_point (data_statement w ys t) u f =
    let (body, d, g) = data_form f in
    let (k, l) = record_rest d in
    (rest_of u k, rest_of u (rest_of k l), data_encloses (rest_of u k) g)

-- a statement that is computed has rests of the file for lists, and its places point at what they name
pub statement_points : (s : List ℕ) (sec : Section) (xs : List ℕ) → Rest s xs → StatementPoints s (statement s sec xs)
statement_points s sec xs u = statement_lists_point (statement s sec xs) u (statement_is s sec xs)

module _ (s : List ℕ) (H R : ℕ) where
  -- the places of a scan's answer point at what they name
  scan_points : (a : Told Table) → scan_of s H R ≡ a
      → EachOfAnswer (λ w. Enclosed s w.arg_start w.arg_end) (λ w. Enclosed s w.arg_start w.arg_end) (Pointed s) a
  scan_points = scan_tells s _ _ (Pointed s) (λ ys body w u g. header_encloses u g) (λ ys body w u g. data_encloses u g)
      (λ sec xs q u f. refused_points u f) (λ xs ys body t u d. pointed 8 0 (rest_of u (record_rest d).0) (StandsAtRefusal.full u d))
      StandsAtRefusal.unmarked StandsAtRefusal.long H R

  -- the arguments of each row of an answer stand between a `(` and its closing `)`
  pub scan_encloses : (t : Table) → scan_of s H R ≡ good t
      → EachInTurn (λ w. Enclosed s w.arg_start w.arg_end) t.headers × EachInTurn (λ w. Enclosed s w.arg_start w.arg_end) t.records
  scan_encloses t e = scan_points (good t) e

  module _ (q : Refusal) (e : scan_of s H R ≡ bad q) where
    -- what the number of a scan's refusal names stands at its place
    pub scan_stands : Pointed s q
    scan_stands = scan_points (bad q) e

    -- but for refusals 1 and 2, the place of a scan's refusal is that of a byte of the file
    pub scan_inside : 3 ≤ q.number → q.place < length s
    scan_inside h = omega (arith, stands_some scan_stands h, length-drop q.place s)

    -- at the place of a refusal 3 stands a slash and a star
    pub scan_comment : q.number ≡ 3 → OpensComment (drop q.place s)
    scan_comment n = go (rw n at scan_stands)
      where
        go : {xs : List ℕ} → StandsAtRefusal s 3 xs → OpensComment xs
        go (StandsAtRefusal.comment o) = o.0

    -- at the place of a refusal 4 stands a quote
    pub scan_string : q.number ≡ 4 → Begins 39 (drop q.place s)
    scan_string n = go (rw n at scan_stands)
      where
        go : {xs : List ℕ} → StandsAtRefusal s 4 xs → Begins 39 xs
        go (StandsAtRefusal.string o) = o.0

    -- at the place of a refusal 6 stands a `(`
    pub scan_paren : q.number ≡ 6 → Begins 40 (drop q.place s)
    scan_paren n = go (rw n at scan_stands)
      where
        go : {xs : List ℕ} → StandsAtRefusal s 6 xs → Begins 40 xs
        go (StandsAtRefusal.paren {t} d) = (t, refl)
