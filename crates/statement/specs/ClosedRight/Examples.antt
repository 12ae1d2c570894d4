-- Closed and other records of document 01's examples 1 and 11. Assumes nothing.
use Rattle.std.specs.Prelude.{ℕ, ◌≡◌, refl, List, [], ◌∷◌, ◌++◌, length}
use Rattle.std.proofs.Common.{sym, ap, append-nil}
use Rattle.common.specs.Compare.{clash}
use Rattle.error.specs.Refusal.{Told, good, bad}
use Rattle.common.specs.Walk.{walk}
use Rattle.lex.specs.Search.{trivia, record_end, closing}
use Rattle.lex.specs.Answer.{at, fault}
use Rattle.lex.specs.Inside.{closes_own}
use Rattle.record.specs.Form.{Free}
use Rattle.common.specs.Bytes.{bytes}
use Rattle.record.specs.Text.{past, number_from, keyword, trail}
use Rattle.record.specs.Head.{data_head, header_head}
use Rattle.record.specs.Word.{word_of}
use Rattle.statement.specs.Row.{record_of, header_of}
use Rattle.statement.specs.Statement.{statement}
use Rattle.statement.specs.Closed.{ClosedAt, ClosedParts, ClosedData, ClosedHeader, ClosedFrom, Closed, Content}
use Rattle.statement.specs.ClosedRight.{closed_closing, alone_is}
use Rattle.statement.specs.ClosedRight.Outside.{outside_seen, outside_of, closed_seen}
use Rattle.statement.specs.ClosedRight.Parts.{closed_part}
use Rattle.statement.specs.ClosedRight.Statements.{closed_turn, closed_entry}
use Rattle.statement.specs.declared.Section.TheVariants.{Outside, InData}

-- a `(` after f, with a between it and its `)`, is closed where the searches find that f does not end in a string or a comment
closed_after : (f a k : List ℕ) → record_end (f ++ (59 ∷ [])) ≡ at (59 ∷ []) → closing (40 ∷ (a ++ (41 ∷ k))) ≡ at (41 ∷ k)
    → ClosedAt (f ++ (40 ∷ (a ++ (41 ∷ k)))) (length f)
closed_after f a k h e = record {
  front = f;
  args = a;
  back = k;
  shape = refl;
  place = refl;
  outside = outside_of f _ [] h;
  closes = closes_own (a ++ (41 ∷ k)) k [] (simp append-nil e);
}

-- a part is closed where the searches find so: k stands before its `(`, a between, t after its `)`
part_after : (k a t : List ℕ) → Free 40 k → record_end (k ++ (59 ∷ [])) ≡ at (59 ∷ []) → closing (40 ∷ (a ++ (41 ∷ t))) ≡ at (41 ∷ t)
    → ClosedParts t → ClosedParts (k ++ (40 ∷ (a ++ (41 ∷ t))))
part_after k a t f h e = ClosedParts.part k refl f (outside_of k _ [] h) (closes_own (a ++ (41 ∷ t)) t [] (simp append-nil e))

-- example 1, the second record is closed: its `(` is outside, and so are those of its two parts
pub closed_complex : ClosedData (bytes "#2=(P(1.)Q($))")
unfolding data_head past number_from keyword walk record_end closing closed_after
closed_complex =
    ClosedData.complex refl (closed_after (bytes "#2=") (bytes "P(1.)Q($)") [] refl refl)
    (part_after (bytes "P") (bytes "1.") (bytes "Q($)") (refl, tt) refl refl
    (part_after (bytes "Q") (bytes "$") [] (refl, tt) refl refl (ClosedParts.none tt)))

-- example 1, the first record is closed, with a `;` and a doubled quote in its string
pub closed_simple : ClosedData (bytes "#1=A('a;''b',#2)")
unfolding data_head past number_from keyword walk record_end closing
closed_simple = ClosedData.simple refl (closed_after (bytes "#1=A") (bytes "'a;''b',#2") [] refl refl)

-- a search that refuses finds nothing
refuses : {n : ℕ} {o r : List ℕ} → fault n o ≡ at r → ⊥
refuses e = clash (cc)

-- example 11, the first record is not closed: its `(` does not close in it
pub example_unclosed : ClosedData (bytes "#1=A((1)") → ⊥
unfolding data_head past number_from keyword walk closing
example_unclosed (ClosedData.simple {o} e c) = let h : o ≡ 4 = cc in refuses (rw h at (closed_closing c []))
example_unclosed (ClosedData.complex e c p) = clash (cc)

-- a record whose first `(` byte lies in a comment is not closed
pub unclosed_comment : ClosedData (bytes "#1=A/*(*/(1)") → ⊥
unfolding data_head past number_from keyword walk record_end
unclosed_comment (ClosedData.simple {o} e c) = let h : o ≡ 6 = cc in refuses (rw h at (closed_seen c []))
unclosed_comment (ClosedData.complex e c p) = clash (cc)

-- the arguments that an answer tells, none where it is a refusal
abbrev told_args : Told Content → List ℕ
told_args (good k) = k.args
told_args (bad q) = []

-- a complex record with a `(` byte in a string after its part is not closed
pub unclosed_part : ClosedData (bytes "#1=(P(1)'(')") → ⊥
unfolding record_of data_head past number_from keyword walk record_end closing
unclosed_part (ClosedData.simple e c) = clash (cc)
unclosed_part (ClosedData.complex e c p) =
    let g : c.args ≡ bytes "P(1)'('" = sym (ap told_args (alone_is (ClosedData.complex e c p))) in
    let q : ClosedParts (bytes "'('") = (closed_part p (bytes "P") (bytes "1)'('") g (refl, tt)).1 (bytes "'('") (closes_own _ _ [] refl) in
    refuses (outside_seen (bytes "'") (bytes "('") (closed_part q (bytes "'") (bytes "'") refl (refl, tt)).0 [])

-- example 1, the whole file
abbrev example : List ℕ
example = bytes "ISO-10303-21;HEADER;FILE_SCHEMA(('X'));ENDSEC;DATA;#1=A('a;''b',#2);#2=(P(1.)Q($));ENDSEC;END-ISO-10303-21;"

-- the header record of example 1 is closed
pub closed_header : ClosedHeader (bytes "FILE_SCHEMA(('X'))")
unfolding header_head past keyword walk record_end closing
closed_header = ClosedHeader.named refl (closed_after (bytes "FILE_SCHEMA") (bytes "('X')") [] refl refl)

-- the whole file of example 1 is closed
pub closed_example : Closed example
unfolding statement trivia record_end closing walk record_of header_of data_head header_head past number_from keyword trail word_of
closed_example =
    ClosedFrom.turn refl
    (ClosedFrom.turn refl
    (ClosedFrom.heading refl closed_header
    (ClosedFrom.turn refl
    (ClosedFrom.turn refl
    (ClosedFrom.entry refl closed_simple
    (ClosedFrom.entry refl closed_complex
    (ClosedFrom.turn refl
    (ClosedFrom.over refl))))))))

-- a file with the records of example 11
abbrev crossing : List ℕ
crossing = bytes "ISO-10303-21;DATA;#1=A((1);#2=B(2));ENDSEC;"

-- a file with the records of example 11 is not closed
pub unclosed_file : Closed crossing → ⊥
unfolding statement trivia record_end closing walk record_of data_head past number_from keyword trail word_of
unclosed_file c =
    let d = closed_turn (closed_turn c Outside _ refl) InData _ refl in
    example_unclosed (closed_entry d _ (bytes "#1=A((1)") _ refl).0
