-- Rules.antt's rules and what Words.antt computes are one: what is computed is so, and nothing else is. Assumes nothing.
use Rattle.std.specs.Prelude.{ℕ, suc, ◌+◌, ◌-◌, ◌≤◌, ◌≡◌, Bool, ◌||◌, eqb, leb, length, take, drop, get_or, Some, None}
use Rattle.std.proofs.Math.Path.{refl, sym}
use Rattle.std.proofs.Common.{◌∙◌, ap, arith, eqb-true, ne_eqb, le-leb, leb-true, leb-false, length-append, length-drop, length-take-le, take_at}
use Rattle.std.proofs.Math.Bool.{true, false}
use mathlib.Core.List.{List, [], ◌∷◌, ◌++◌}
use Rattle.std.proofs.lemmas.Bool.{eqb-false, lt-leb}
use Rattle.common.specs.Pick.{pick}
use Rattle.common.specs.Compare.{clash}
use Rattle.common.specs.Tests.{both, neither}
use Rattle.error.specs.Refusal.{refusal, Told, good, bad}
use Rattle.record.specs.FormRight.{same_is, same_self}
use Rattle.record.specs.Word.{same_bytes}
use Rattle.common.specs.Bytes.{bytes}
use Rattle.utf8.specs.Utf8.{valid_of}
use Rattle.utf8.specs.Encoding.{encode_all}
use Rattle.utf8.specs.Agree.{valid_is, valid_only}
use Rattle.strings.specs.Text as String
use Rattle.strings.specs.Rules.{Text}
use Rattle.strings.specs.RulesRight.{text_is_lem, text_only}
use Rattle.strings.specs.Answer.{decoded_of, room_after}
use Rattle.strings.specs.declared.Decoded.TheVariants.{Written}
use Rattle.params.specs.Answer.{Span, span}
use Rattle.scalars.specs.Scalars.{is_unset}
use Rattle.scalars.specs.Laws.{part_part}
use Rattle.scalars.specs.RulesRight.{same_not}
use Rattle.words.specs.Words.{is_name, name_at, is_string, string_body, decoded_at, string_at, room_at}
use Rattle.words.specs.Answer.{span_bytes}
use Rattle.words.specs.declared.Text as TextCode
use Rattle.words.specs.Rules.{Name, NameForm, Quoted, Plainly, TextForm}

-- ---- a first byte, a middle and a last byte
-- a text of two bytes or more is a first byte, a middle and a last byte
parted : (c d : ℕ) (r : List ℕ) → (b : List ℕ) × (z : ℕ) × (c ∷ d ∷ r ≡ c ∷ (b ++ (z ∷ [])))
parted c d [] = ([], d, refl)
parted c d (e ∷ r) = let (b, z, h) = parted d e r in (d ∷ b, z, cc)

-- the last byte of a text of two bytes or more stands at its length less one
last_of_lem : (c z : ℕ) (b : List ℕ) → get_or (c ∷ (b ++ (z ∷ []))) (length (c ∷ (b ++ (z ∷ []))) - 1) 0 ≡ z
last_of_lem c z [] = refl
last_of_lem c z (d ∷ b) =
    let e : length (c ∷ d ∷ (b ++ (z ∷ []))) - 1 ≡ suc (length (d ∷ (b ++ (z ∷ []))) - 1) = omega arith in
    rw e (last_of_lem d z b)

-- the middle of a text of two bytes or more is what is left without its first and its last byte
middle_of : (c z : ℕ) (b : List ℕ) → take (length (c ∷ (b ++ (z ∷ []))) - 1 - 1) (b ++ (z ∷ [])) ≡ b
middle_of c z b = take_at b (z ∷ []) (length (c ∷ (b ++ (z ∷ []))) - 1 - 1) (simp length-append (omega arith))

-- the places of a part of two bytes or more, without its first and its last byte
inner_places : (a z : ℕ) → a + 2 ≤ z → (a + (z - a - 1) - (a + 1) ≡ z - 1 - (a + 1)) × (1 ≤ z - a - 1) × (z - a - 1 ≤ z - a)
inner_places a z h = (omega arith, omega arith, omega arith)

-- what stands between the first and the last byte of a part of the file
module _ (s : List ℕ) (a : Span) (b : List ℕ) (c z : ℕ) (ordered : a.start ≤ a.stop) (within : a.stop ≤ length s) (shape : span_bytes s a ≡ c ∷ (b ++ (z ∷ []))) where
  -- the part of the file is as long as its places are apart
  whole : length (span_bytes s a) ≡ a.stop - a.start
  whole = length-take-le (a.stop - a.start) (drop a.start s) (omega (arith, length-drop a.start s))

  -- the part of the file has at least two bytes
  pub part_long : a.start + 2 ≤ a.stop
  part_long = let n : length (c ∷ (b ++ (z ∷ []))) ≡ length b + 2 = simp length-append (omega arith) in omega (arith, whole, n, ap length shape)

  -- what is computed as the part's inside is what stands between its first and its last byte
  body_part : string_body s a ≡ b
  body_part =
      let (i, l, m) = inner_places a.start a.stop part_long in
      let j : length (c ∷ (b ++ (z ∷ []))) - 1 - 1 ≡ a.stop - a.start - 1 - 1 = ap (λ (n : ℕ). n - 1 - 1) (sym (ap length shape) ∙ whole) in
      sym (ap (λ (n : ℕ). take n (drop (a.start + 1) s)) i)
      ∙ sym (part_part s a.start (a.stop - a.start) 1 (a.stop - a.start - 1) l m)
      ∙ ap (λ (t : List ℕ). take (a.stop - a.start - 1 - 1) (drop 1 t)) shape
      ∙ ap (λ (n : ℕ). take n (b ++ (z ∷ []))) (sym j)
      ∙ middle_of c z b

-- ---- names
-- a name by the rule passes the test for a name
pub name_only : {t n : List ℕ} → Name t n → is_name t ≡ true
unfolding is_name
name_only {t} {n} m =
    let l : 2 ≤ length (46 ∷ (n ++ (46 ∷ []))) = simp length-append (omega arith) in
    rw (m.dots, le-leb 2 (length (46 ∷ (n ++ (46 ∷ [])))) l, last_of_lem 46 46 n, middle_of 46 46 n, valid_only m.valid) refl

-- what passes the test for a name is a name by the rule
pub name_is : (t : List ℕ) → is_name t ≡ true → (n : List ℕ) × Name t n
unfolding is_name
name_is [] h = clash (cc)
name_is (c ∷ []) h = clash (cc)
name_is (c ∷ d ∷ r) h = let (b, z, e) = parted c d r in go b z e
  where
    go : (b : List ℕ) (z : ℕ) → c ∷ d ∷ r ≡ c ∷ (b ++ (z ∷ [])) → (n : List ℕ) × Name (c ∷ d ∷ r) n
    go b z e =
        let k : is_name (c ∷ (b ++ (z ∷ []))) ≡ true = ap is_name (sym e) ∙ h in
        let (x, y) = both (leb 2 (length (c ∷ (b ++ (z ∷ []))))) _ k in
        let (u, v) = both (eqb c 46) _ y in
        let (w, q) = both (eqb (get_or (c ∷ (b ++ (z ∷ []))) (length (c ∷ (b ++ (z ∷ []))) - 1) 0) 46) _ v in
        let f : c ≡ 46 = eqb-true c 46 u in
        let g : z ≡ 46 = sym (last_of_lem c z b) ∙ eqb-true _ 46 w in
        (b, record { dots = cc; valid = valid_is b (ap valid_of (sym (middle_of c z b)) ∙ q) })

-- the name's bytes are those that stand between the dots in the file
pub name_part : (s : List ℕ) (a : Span) (n : List ℕ) → a.start ≤ a.stop → a.stop ≤ length s → Name (span_bytes s a) n → span_bytes s (span (a.start + 1) (a.stop - 1)) ≡ n
name_part s a n h k m = body_part s a n 46 46 h k m.dots

-- where a parameter's name stands: what is computed is an answer by the rules
pub nameform_is : (s : List ℕ) (a : Span) → NameForm s a (name_at s a)
nameform_is s a = go (is_name (span_bytes s a)) refl
  where
    go : (t : Bool) → is_name (span_bytes s a) ≡ t → NameForm s a (pick t (good (span (a.start + 1) (a.stop - 1))) (bad (refusal 12 0 a.start)))
    go true h = let (n, m) = name_is (span_bytes s a) h in NameForm.name m
    go false h = NameForm.other (λ n m. clash (cc (name_only m)))

-- where a parameter's name stands: the answer by the rules is the one that is computed
pub nameform_only : {s : List ℕ} {a : Span} {r : Told Span} → NameForm s a r → r ≡ name_at s a
nameform_only (NameForm.name m) = rw (name_only m) refl
nameform_only {s} {a} (NameForm.other h) = go (is_name (span_bytes s a)) refl
  where
    go : (t : Bool) → is_name (span_bytes s a) ≡ t → bad (refusal 12 0 a.start) ≡ pick t (good (span (a.start + 1) (a.stop - 1))) (bad (refusal 12 0 a.start))
    go true k = let (n, m) = name_is (span_bytes s a) k in absurd (h n m)
    go false k = refl

-- ---- string parameters
-- a string parameter by the rule passes the test for one
pub quoted_only : {t b : List ℕ} → Quoted t b → is_string t ≡ true
unfolding is_string
quoted_only {t} {b} q =
    let l : 2 ≤ length (39 ∷ (b ++ (q.end ∷ []))) = simp length-append (omega arith) in
    rw (q.shape, le-leb 2 (length (39 ∷ (b ++ (q.end ∷ [])))) l) refl

-- what passes the test for a string parameter is one by the rule
pub quoted_is : (t : List ℕ) → is_string t ≡ true → (b : List ℕ) × Quoted t b
unfolding is_string
quoted_is [] h = clash (cc)
quoted_is (c ∷ []) h = clash (cc)
quoted_is (c ∷ d ∷ r) h =
    let (b, z, e) = parted c d r in
    let (x, y) = both (leb 2 (length (c ∷ d ∷ r))) (eqb c 39) h in
    (b, record { end = z; shape = e ∙ ap (λ (k : ℕ). k ∷ (b ++ (z ∷ []))) (eqb-true c 39 y) })

-- "its text lies between first and last byte": `string_body` is what stands there in the file
pub quoted_body : (s : List ℕ) (a : Span) (b : List ℕ) → a.start ≤ a.stop → a.stop ≤ length s → Quoted (span_bytes s a) b → string_body s a ≡ b
quoted_body s a b h k q = body_part s a b 39 q.end h k q.shape

-- a string parameter is not `$`
quoted_given : {t b : List ℕ} → Quoted t b → is_unset t ≡ false
unfolding is_unset
quoted_given q = rw q.shape refl

-- "no quote, backslash or high byte occurs": bytes of which this holds by the rule pass the test
pub plain_only : (b : List ℕ) → Plainly b → String.plain b ≡ true
unfolding String.plain
plain_only [] h = refl
plain_only (c ∷ b) ((x, y, z), t) = rw (ne_eqb c 39 x, ne_eqb c 92 y, lt-leb 128 c z) (plain_only b t)

-- bytes that pass the test for plain ones are plain by the rule
pub plain_is : (b : List ℕ) → String.plain b ≡ true → Plainly b
unfolding String.plain
plain_is [] h = tt
plain_is (c ∷ b) h = go (eqb c 39 || (eqb c 92 || leb 128 c)) refl h (plain_is b)
  where
    go : (t : Bool) → eqb c 39 || (eqb c 92 || leb 128 c) ≡ t → pick t false (String.plain b) ≡ true → (String.plain b ≡ true → Plainly b) → Plainly (c ∷ b)
    go true e k ih = clash (cc)
    go false e k ih =
        let (x, y) = neither (eqb c 39) (eqb c 92 || leb 128 c) e in
        let (u, v) = neither (eqb c 92) (leb 128 c) y in
        ((eqb-false c 39 x, eqb-false c 92 u, leb-false 128 c v), ih k)

-- bytes that are not plain by the rule fail the test
plain_not : (b : List ℕ) → (Plainly b → ⊥) → String.plain b ≡ false
plain_not b n = go (String.plain b) refl
  where
    go : (t : Bool) → String.plain b ≡ t → String.plain b ≡ false
    go true e = absurd (n (plain_is b e))
    go false e = e

-- a string's characters by the rules, in UTF-8, are the bytes that are computed
pub bytes_only : {b cs : List ℕ} → Text b cs → encode_all cs ≡ String.bytes_of b
unfolding String.bytes_of
bytes_only t = ap encode_all (text_only t)

-- the bytes that are computed of a string are its characters by the rules, in UTF-8
pub bytes_is : (b : List ℕ) → (cs : List ℕ) × Text b cs × (encode_all cs ≡ String.bytes_of b)
bytes_is b = (String.text_of b, text_is_lem b, bytes_only (text_is_lem b))

module _ (s : List ℕ) (a : Span) (o : List ℕ) (ordered : a.start ≤ a.stop) (within : a.stop ≤ length s) where
  -- what is computed of a string parameter and of the room is what is decoded of its inside
  string_at_lem : (b : List ℕ) → Quoted (span_bytes s a) b → (string_at s (length o) a ≡ decoded_at a (decoded_of b (length o))) × (room_at s o a ≡ room_after b o)
  unfolding string_at room_at
  string_at_lem b q =
      let e = quoted_body s a b ordered within q in
      (rw (quoted_given q, quoted_only q) (ap (λ (x : List ℕ). decoded_at a (decoded_of x (length o))) e), rw (quoted_given q, quoted_only q) (ap (λ (x : List ℕ). room_after x o) e))

  -- what is computed of a string parameter that is not plain: its text is written where the room has space for it, or refused
  write_at : (b : List ℕ) → Quoted (span_bytes s a) b → (Plainly b → ⊥) → (t : Bool) → leb (length (String.bytes_of b)) (length o) ≡ t
      → (string_at s (length o) a ≡ decoded_at a (pick t (Some (Written (length (String.bytes_of b)))) None)) × (room_at s o a ≡ pick t (String.bytes_of b ++ drop (length (String.bytes_of b)) o) o)
  write_at b q n t e = let (x, y) = string_at_lem b q in
      (x ∙ rw (plain_not b n, e) refl, y ∙ rw (plain_not b n, e) refl)

  -- what is computed of a string parameter, and the room after it, are an answer by the rules
  quoted_form : (b : List ℕ) → Quoted (span_bytes s a) b → TextForm s a o (string_at s (length o) a) (room_at s o a)
  quoted_form b q = go (String.plain b) (leb (length (String.bytes_of b)) (length o)) refl refl
    where
      go : (t u : Bool) → String.plain b ≡ t → leb (length (String.bytes_of b)) (length o) ≡ u → TextForm s a o (string_at s (length o) a) (room_at s o a)
      go true u e f = let (x, y) = string_at_lem b q in rw (x, y, e) (TextForm.plain q (plain_is b e))
      go false true e f =
          let n : Plainly b → ⊥ = λ p. clash (cc (plain_only b p)) in
          let (x, y) = write_at b q n true f in
          let (cs, t, g) = bytes_is b in
          rw (x, y, ← g) (TextForm.written q n t (rw g (leb-true (length (String.bytes_of b)) (length o) f)))
      go false false e f =
          let n : Plainly b → ⊥ = λ p. clash (cc (plain_only b p)) in
          let (x, y) = write_at b q n false f in
          let (cs, t, g) = bytes_is b in
          rw (x, y) (TextForm.short q n t (rw g (leb-false (length (String.bytes_of b)) (length o) f)))

  -- what is computed as a parameter's text, and the room after it, are an answer by the rules
  pub textform_is : TextForm s a o (string_at s (length o) a) (room_at s o a)
  unfolding string_at room_at is_unset
  textform_is = go (same_bytes (span_bytes s a) (bytes "$")) (is_string (span_bytes s a)) refl refl
    where
      go : (t u : Bool) → same_bytes (span_bytes s a) (bytes "$") ≡ t → is_string (span_bytes s a) ≡ u → TextForm s a o (string_at s (length o) a) (room_at s o a)
      go true u e f = rw e (TextForm.unset (same_is (span_bytes s a) (bytes "$") e))
      go false true e f = let (b, q) = quoted_is (span_bytes s a) f in quoted_form b q
      go false false e f =
          rw (e, f) (TextForm.other (λ k. clash (cc (ap (λ (x : List ℕ). same_bytes x (bytes "$")) k ∙ same_self (bytes "$")))) (λ b q. clash (cc (quoted_only q))))

  -- a parameter's text by the rules, and the room after it, are those that are computed
  pub textform_only : {r : Told TextCode.Text} {q : List ℕ} → TextForm s a o r q → (r ≡ string_at s (length o) a) × (q ≡ room_at s o a)
  unfolding string_at room_at is_unset
  textform_only (TextForm.unset e) = (rw e refl, rw e refl)
  textform_only (TextForm.plain {b} q p) = let (x, y) = string_at_lem b q in (sym (x ∙ rw (plain_only b p) refl), sym (y ∙ rw (plain_only b p) refl))
  textform_only (TextForm.written {b} {cs} q n t l) =
      let g = bytes_only t in
      let (x, y) = write_at b q n true (le-leb (length (String.bytes_of b)) (length o) (rw g at l)) in
      (rw g (sym x), rw g (sym y))
  textform_only (TextForm.short {b} {cs} q n t l) =
      let g = bytes_only t in
      let (x, y) = write_at b q n false (lt-leb (length (String.bytes_of b)) (length o) (rw g at l)) in
      (sym x, sym y)
  textform_only (TextForm.other h k) =
      let e = same_not (span_bytes s a) (bytes "$") h in
      let f : is_string (span_bytes s a) ≡ false = go (is_string (span_bytes s a)) refl in
      (rw (e, f) refl, rw (e, f) refl)
    where
      go : (t : Bool) → is_string (span_bytes s a) ≡ t → is_string (span_bytes s a) ≡ false
      go true e = let (b, q) = quoted_is (span_bytes s a) e in absurd (k b q)
      go false e = e
