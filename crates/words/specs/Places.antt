-- "with a place from 0 to the input's length" (demand 1), for names and texts: where refusals and answers lie, and where the reader then
-- stands. Assumes nothing.
use Rattle.std.specs.Prelude.{ℕ, ◌≤◌, ◌<◌, ◌≡◌, refl, false, List, length}
use Rattle.std.proofs.Common.{sym, ap, arith}
use Rattle.common.specs.Compare.{clash}
use Rattle.error.specs.Refusal.{Refusal, refusal, Told, good, bad}
use Rattle.params.specs.Reader.{param_of}
use Rattle.params.specs.Answer.{reading, Span, reader_in_file, onward, read_mapped}
use Rattle.params.specs.Rules.{ReaderInFile}
use Rattle.params.specs.Places.{PlacedIn, Stands, PastParameter, mapped_stands, mapped_stays, param_placed, param_stays, param_past, refused_past}
use Rattle.words.specs.Words.{name_at, string_at, room_at}
use Rattle.words.specs.Room.{room_of}
use Rattle.words.specs.declared.Text.{Text}
use Rattle.words.specs.declared.Text.TheVariants.{InFile, InRoom}
use Rattle.words.specs.Rules.{NameForm, TextForm}
use Rattle.words.specs.RulesRight.{part_long, nameform_is, textform_is}

-- a part of the file of n bytes, which runs forwards
abbrev pub SpanIn : ℕ → Span → Type 0
SpanIn n a = (a.start ≤ a.stop) × (a.stop ≤ n)

-- F holds of the answer's value, or the place of its refusal is at most n
abbrev pub ToldIn : {A : Type 0} → ℕ → (A → Type 0) → Told A → Type 0
ToldIn n F (good a) = F a
ToldIn n F (bad q) = q.place ≤ n

-- what holds of how each parameter in the file is read holds of how the next one is read
next_in : {A : Type 0} (F : A → Type 0) (f : Span → Told A) (s : List ℕ) (p e : ℕ) → ((a : Span) → SpanIn (length s) a → ToldIn (length s) F (f a)) → ToldIn (length s) F (read_mapped f (param_of s p e)).answer
next_in F f s p e h = go (param_of s p e).answer refl (param_placed s p e)
  where
    go : (t : Told Span) → (param_of s p e).answer ≡ t → PlacedIn (length s) t → ToldIn (length s) F (onward f t)
    go (good a) k l = let (i, u) = param_past s p e a k in let n = i.1 in let m = u.passed in let o = u.within in h a (u.ordered, omega arith)
    go (bad q) k l = l

-- ---- names
-- a refusal of a name is at the parameter's start
name_start : {s : List ℕ} {a : Span} {r : Told Span} (q : Refusal) → NameForm s a r → r ≡ bad q → q.place ≡ a.start
name_start q (NameForm.name m) e = clash (cc)
name_start {a} q (NameForm.other n) e = let z : refusal 12 0 a.start ≡ q = cc in sym (ap (λ (x : Refusal). x.place) z)

module _ (s : List ℕ) (p e : ℕ) where
  -- the next parameter's name lies in the file, and so does the place of a refusal
  pub name_in_lem : ToldIn (length s) (SpanIn (length s)) (read_mapped (name_at s) (param_of s p e)).answer
  name_in_lem = next_in (SpanIn (length s)) (name_at s) s p e (λ a h. go a (name_at s a) (nameform_is s a) h)
    where
      go : (a : Span) (r : Told Span) → NameForm s a r → SpanIn (length s) a → ToldIn (length s) (SpanIn (length s)) r
      go a r (NameForm.name {n} m) (h, k) = let l = part_long s a n 46 46 h k m.dots in (omega arith, omega arith)
      go a r (NameForm.other n) (h, k) = omega arith

  -- after a name the reader stands between where it was and its end
  pub name_stands : ReaderInFile s p e → Stands p e (read_mapped (name_at s) (param_of s p e))
  name_stands = mapped_stands (name_at s) s p e

  -- a reader outside the file or backwards that is asked for a name stays as it came, and its answer is 9
  pub name_stays : reader_in_file (length s) p e ≡ false → read_mapped (name_at s) (param_of s p e) ≡ reading (bad (refusal 9 0 0)) p e
  name_stays = mapped_stays (name_at s) s p e

  -- a name's refusal 12 stands at the parameter's start, and the reader past the parameter and its comma
  pub name_past : (q : Refusal) → (read_mapped (name_at s) (param_of s p e)).answer ≡ bad q → 11 < q.number
      → (a : Span) × ((param_of s p e).answer ≡ good a) × (q.place ≡ a.start) × PastParameter s p e a (param_of s p e).place
  name_past q h n = let (a, j, k, i, l) = refused_past (name_at s) s p e q h n in (a, j, name_start q (nameform_is s a) k, l)

-- ---- texts
-- a text lies in a file of n bytes, or in a room of m bytes from its start on
abbrev pub ShownIn : ℕ → ℕ → Text → Type 0
ShownIn n m (InFile a) = SpanIn n a
ShownIn n m (InRoom k) = k ≤ m

-- a refusal of a text is at the parameter's start
text_start : {s : List ℕ} {a : Span} {o m : List ℕ} {r : Told Text} (q : Refusal) → TextForm s a o r m → r ≡ bad q → q.place ≡ a.start
text_start q (TextForm.unset h) e = clash (cc)
text_start q (TextForm.plain h k) e = clash (cc)
text_start q (TextForm.written h k t l) e = clash (cc)
text_start {a} q (TextForm.short h k t l) e = let z : refusal 16 0 a.start ≡ q = cc in sym (ap (λ (x : Refusal). x.place) z)
text_start {a} q (TextForm.other h k) e = let z : refusal 12 0 a.start ≡ q = cc in sym (ap (λ (x : Refusal). x.place) z)

module _ (s o : List ℕ) (p e : ℕ) where
  -- the next parameter's text lies in the file or in the lent output, and the place of a refusal in the file
  pub text_in_lem : ToldIn (length s) (ShownIn (length s) (length o)) (read_mapped (string_at s (length o)) (param_of s p e)).answer
  text_in_lem = next_in (ShownIn (length s) (length o)) (string_at s (length o)) s p e (λ a h. go a (string_at s (length o) a) (room_at s o a) (textform_is s a o h.0 h.1) h)
    where
      go : (a : Span) (r : Told Text) (m : List ℕ) → TextForm s a o r m → SpanIn (length s) a → ToldIn (length s) (ShownIn (length s) (length o)) r
      go a r m (TextForm.unset u) (h, k) = (omega arith, omega arith)
      go a r m (TextForm.plain {b} u v) (h, k) = let l = part_long s a b 39 u.end h k u.shape in (omega arith, omega arith)
      go a r m (TextForm.written u v t l) (h, k) = l
      go a r m (TextForm.short u v t l) (h, k) = omega arith
      go a r m (TextForm.other u v) (h, k) = omega arith

  -- after a text the reader stands between where it was and its end
  pub text_stands : ReaderInFile s p e → Stands p e (read_mapped (string_at s (length o)) (param_of s p e))
  text_stands = mapped_stands (string_at s (length o)) s p e

  -- a reader outside the file or backwards that is asked for a text stays as it came, and so does the lent output; its answer is 9
  pub text_outside_stays : reader_in_file (length s) p e ≡ false → (read_mapped (string_at s (length o)) (param_of s p e) ≡ reading (bad (refusal 9 0 0)) p e) × (room_of s o (param_of s p e).answer ≡ o)
  text_outside_stays h = (mapped_stays (string_at s (length o)) s p e h, rw (param_stays s p e h) refl)

  -- a text's refusals 12 and 16 stand at the parameter's start, and the reader past the parameter and its comma
  pub text_past : (q : Refusal) → (read_mapped (string_at s (length o)) (param_of s p e)).answer ≡ bad q → 11 < q.number
      → (a : Span) × ((param_of s p e).answer ≡ good a) × (q.place ≡ a.start) × PastParameter s p e a (param_of s p e).place
  text_past q h n = let (a, j, k, i, l) = refused_past (string_at s (length o)) s p e q h n in
      let x = l.passed in let y = l.within in let z = i.1 in
      (a, j, text_start q (textform_is s a o l.ordered (omega arith)) k, l)

  -- "A refusal returns only its number, reason and place": the lent output keeps its bytes
  pub text_kept : (q : Refusal) → (read_mapped (string_at s (length o)) (param_of s p e)).answer ≡ bad q → room_of s o (param_of s p e).answer ≡ o
  text_kept q h = go (param_of s p e).answer refl h
    where
      by : {a : Span} {r : Told Text} {m : List ℕ} → TextForm s a o r m → r ≡ bad q → m ≡ o
      by (TextForm.unset u) k = clash (cc)
      by (TextForm.plain u v) k = clash (cc)
      by (TextForm.written u v t l) k = clash (cc)
      by (TextForm.short u v t l) k = refl
      by (TextForm.other u v) k = refl

      go : (t : Told Span) → (param_of s p e).answer ≡ t → onward (string_at s (length o)) t ≡ bad q → room_of s o t ≡ o
      go (bad r) k l = refl
      go (good a) k l =
          let (i, u) = param_past s p e a k in
          let x = u.passed in let y = u.within in let z = i.1 in
          by (textform_is s a o u.ordered (omega arith)) l
