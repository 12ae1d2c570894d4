-- What each test of the code that reads a piece shows, one law for each way out (`short`, `long`, `directive`, `ordinary`, `step`); and what the loop
-- over pieces keeps (`turn`, `turns`, `run`). Assumes nothing.
use Rattle.std.specs.Prelude.{ℕ, ◌+◌, ◌≤◌, ◌<◌, ◌≡◌, Bool, ◌&&◌, List, [], ◌∷◌, ◌++◌, eqb, length, take, drop, Some, None}
use Rattle.std.proofs.Math.Path.{refl, ap}
use Rattle.std.proofs.Common.{sym, ◌∙◌, append_assoc, append-nil, arith, length-drop, drop-drop}
use Rattle.std.proofs.Math.Bool.{true, false}
use borrow.Author.Tests.{eqb-true, lt-ltb, le-ltb, eq-eqb, ne_eqb}
use Rattle.std.proofs.Math.Dec.{leb, ltb}
use Rattle.common.specs.Pick.{pick}
use Rattle.common.specs.Tests.{both}
use Rattle.utf8.specs.Utf8.{byte_at, lead_of}
use Rattle.utf8.specs.Encoding.{encode_all}
use Rattle.utf8.specs.Answer.{valid, invalid}
use Rattle.pages.specs.Pages.{page_of, code_of}
use Rattle.pages.specs.Rules.{page_a}
use Rattle.strings.specs.Text
use Rattle.strings.specs.Code.{View, view_of, one_view, PiecePut, PlainPut, Turned}
use Rattle.strings.specs.Put.{Laid, laid_nothing, laid_then, laid_chars}
use Rattle.strings.specs.Answer.{largest_u64}
use Rattle.strings.specs.Hex.{hex_found, hex_missed}
use Rattle.strings.specs.PlainRuns.{text_plain, encode_plain, bytes_plain}
use Rattle.strings.specs.Steps.{is_within, piece_fits, text_goes, text_on_ends, page_stays, plain_stays, page_named}

-- two tests that fail together fail together with a third
and_false : (a b t : Bool) → a && b ≡ false → a && (b && t) ≡ false
and_false true b t h = rw h refl
and_false false b t h = refl

module _ (g : ℕ) (s : List ℕ) (x y z : ℕ) (ex : x ≡ byte_at s 1) (ey : y ≡ byte_at s 2) (ez : z ≡ byte_at s 3) where
  -- the byte after the backslash, as the code tests it
  first : (a : ℕ) (t : Bool) → eqb x a ≡ t → Text.is s 1 a ≡ t
  first a t h = rw (sym ex) h

  -- a letter and a backslash, as the code tests it
  slashed : (a : ℕ) (t : Bool) → eqb x a && eqb y 92 ≡ t → Text.is s 1 a && Text.is s 2 92 ≡ t
  slashed a t h = rw (sym ex, sym ey) h

  -- `S`, a backslash and a byte, as the code tests it
  shifted : (t : Bool) → eqb x 83 && (eqb y 92 && leb 4 (length s)) ≡ t → Text.is s 1 83 && (Text.is s 2 92 && leb 4 (length s)) ≡ t
  shifted t h = rw (sym ex, sym ey) h

  -- where the code's test for `\S\c` passes: "`\S\c` code c+128", on the page
  pub is_shift : (c : ℕ) → c ≡ code_of g (z + 128) → eqb x 83 && (eqb y 92 && leb 4 (length s)) ≡ true → one_view c 4 ≡ view_of (Text.directive_of g s)
  unfolding Text.directive_of
  is_shift c e h =
      let (p, q) = both (Text.is s 1 83) (Text.is s 2 92 && leb 4 (length s)) (shifted true h) in
      let b : byte_at s 1 ≡ 83 = eqb-true (byte_at s 1) 83 p in
      rw (b, q, e, ez) refl

  -- where the code's test for it passes: "`\\` a backslash"
  pub is_backslash : eqb x 92 ≡ true → one_view 92 2 ≡ view_of (Text.directive_of g s)
  unfolding Text.directive_of
  is_backslash h = rw (first 92 true h) refl

  module _ (n1 : eqb x 92 ≡ false) where
    -- where the code's test for it passes: "`\N\` LF"
    pub is_newline : eqb x 78 && eqb y 92 ≡ true → one_view 10 3 ≡ view_of (Text.directive_of g s)
    unfolding Text.directive_of
    is_newline h = rw (first 92 false n1, slashed 78 true h) refl

    module _ (n2 : eqb x 78 && eqb y 92 ≡ false) where
      -- where the code's test for it passes: "`\T\` tab"
      pub is_tab : eqb x 84 && eqb y 92 ≡ true → one_view 9 3 ≡ view_of (Text.directive_of g s)
      unfolding Text.directive_of
      is_tab h = rw (first 92 false n1, slashed 78 false n2, slashed 84 true h) refl

      module _ (n3 : eqb x 84 && eqb y 92 ≡ false) where
        module _ (n4 : Text.is s 1 80 && Text.is s 3 92 ≡ false) (n5 : eqb x 83 && (eqb y 92 && leb 4 (length s)) ≡ false) where
          module _ (h : eqb x 88 && eqb y 92 ≡ true) where
            -- where the code's test for `X` and a backslash passes, both stand there
            octet : (Text.is s 1 88 ≡ true) × (Text.is s 2 92 ≡ true)
            octet = both (Text.is s 1 88) (Text.is s 2 92) (slashed 88 true h)

            -- where the code's tests for it pass: "`\X\HH` one octet"
            pub is_octet : (v : ℕ) → Some v ≡ pick (Text.two_at s 3) (Some (Text.two_of s 3)) None → one_view v 5 ≡ view_of (Text.directive_of g s)
            unfolding Text.directive_of
            is_octet v k =
                let f = hex_found (Text.two_at s 3) (Text.two_of s 3) v k in
                rw (first 92 false n1, slashed 78 false n2, slashed 84 false n3, n4, shifted false n5, octet.0, octet.1, f.0, f.1) refl

            -- no two hex digits stand after `\X\`: a directive with groups, or an unknown one
            pub no_octet : None ≡ pick (Text.two_at s 3) (Some (Text.two_of s 3)) None → view_of (Text.long_of s) ≡ view_of (Text.directive_of g s)
            unfolding Text.directive_of
            no_octet k = rw (first 92 false n1, slashed 78 false n2, slashed 84 false n3, n4, shifted false n5, octet.0, octet.1, hex_missed (Text.two_at s 3) (Text.two_of s 3) k) refl

          -- none of the short directives stands: a directive with groups, or an unknown one
          pub is_long : eqb x 88 && eqb y 92 ≡ false → view_of (Text.long_of s) ≡ view_of (Text.directive_of g s)
          unfolding Text.directive_of
          is_long h = rw (first 92 false n1, slashed 78 false n2, slashed 84 false n3, n4, shifted false n5, and_false (Text.is s 1 88) (Text.is s 2 92) (Text.two_at s 3) (slashed 88 false h)) refl

module _ (g : ℕ) (s : List ℕ) (n0 : eqb (byte_at s 0) 92 ≡ false) (b d : ℕ) (eb : b ≡ byte_at s 0) (ed : d ≡ byte_at s 1) where
  -- two quotes, as the code tests it
  twice : (t : Bool) → eqb b 39 && eqb d 39 ≡ t → Text.is s 0 39 && Text.is s 1 39 ≡ t
  twice t h = rw (sym eb, sym ed) h

  -- where the code's test for it passes: "`''` gives a quote"
  pub is_quote : eqb b 39 && eqb d 39 ≡ true → one_view 39 2 ≡ view_of (Text.piece_of g s)
  unfolding Text.piece_of
  is_quote h = rw (n0, twice true h) refl

  module _ (n1 : eqb b 39 && eqb d 39 ≡ false) where
    -- where no `''` stands, a byte below 80 is itself
    pub is_ascii : b < 128 → one_view b 1 ≡ view_of (Text.piece_of g s)
    unfolding Text.piece_of
    is_ascii h =
        let u : ltb (byte_at s 0) 128 ≡ true = rw (sym eb) (lt-ltb b 128 h) in
        rw (n0, twice false n1, u, eb) refl

    -- a byte from 80 up with which no sequence begins: "else Latin-1"
    pub is_latin : 128 ≤ b → invalid ≡ lead_of s → one_view b 1 ≡ view_of (Text.piece_of g s)
    unfolding Text.piece_of
    is_latin h k =
        let u : ltb (byte_at s 0) 128 ≡ false = rw (sym eb) (le-ltb b 128 h) in
        rw (n0, twice false n1, u, sym k, eb) refl

    -- a byte from 80 up with which a sequence begins: "a valid UTF-8 sequence"
    pub is_sequence : (c n : ℕ) → 128 ≤ b → valid c n ≡ lead_of s → one_view c n ≡ view_of (Text.piece_of g s)
    unfolding Text.piece_of
    is_sequence c n h e =
        let u : ltb (byte_at s 0) 128 ≡ false = rw (sym eb) (le-ltb b 128 h) in
        let q : Text.raw_of (byte_at s 0) (lead_of s) ≡ Text.gives (c ∷ []) n = ap (Text.raw_of (byte_at s 0)) (sym e) in
        rw (n0, twice false n1, u, q) refl

-- a piece has been read where another one has that writes and reads the same
pub piece_put_view : (p q : Text.Piece) (a : ℕ) (o : List ℕ) (e k : ℕ) (r : List ℕ) → view_of p ≡ view_of q → PiecePut p a o e k r → PiecePut q a o e k r
piece_put_view p q a o e k r h m = record { put = rw (sym (ap (λ (v : View). v.written) h)) m.put; read = m.read ∙ ap (λ (v : View). v.used) h }

-- a piece of one character has been read where that character is put
pub piece_put_one : (p : Text.Piece) (a : ℕ) (o : List ℕ) (e k c : ℕ) (r : List ℕ) → one_view c k ≡ view_of p → Laid a o (encode_all (c ∷ [])) e r → PiecePut p a o e k r
piece_put_one p a o e k c r h l = record { put = rw (sym (ap (λ (v : View). v.written) h)) l; read = ap (λ (v : View). v.used) h }

module _ (s : List ℕ) (x y z : ℕ) (ex : x ≡ byte_at s 1) (ey : y ≡ byte_at s 2) (ez : z ≡ byte_at s 3) where
  -- `X`, a digit and a backslash, as the code tests it
  marked : (d : ℕ) (t : Bool) → eqb x 88 && (eqb y d && eqb z 92) ≡ t → Text.is s 1 88 && (Text.is s 2 d && Text.is s 3 92) ≡ t
  marked d t h = rw (sym ex, sym ey, sym ez) h

  -- where the code's test for a directive with groups passes, its four bytes are there
  pub marked_four : (d : ℕ) → eqb x 88 && (eqb y d && eqb z 92) ≡ true → 4 ≤ length s
  marked_four d h =
      let k = (both (Text.is s 2 d) (Text.is s 3 92) (both (Text.is s 1 88) (Text.is s 2 d && Text.is s 3 92) (marked d true h)).1).1 in
      is_within s 3 92 (omega arith) k

  -- where the code's test for "`\X2\`" passes, groups of four are read
  pub long_two : eqb x 88 && (eqb y 50 && eqb z 92) ≡ true → Text.extended (Text.groups_from 4 0 (drop 4 s)) ≡ Text.long_of s
  long_two h = rw (marked 50 true h) refl

  -- where the code's test for "`\X4\`" passes, groups of eight are read
  pub long_four : eqb x 88 && (eqb y 50 && eqb z 92) ≡ false → eqb x 88 && (eqb y 52 && eqb z 92) ≡ true → Text.extended (Text.groups_from 8 0 (drop 4 s)) ≡ Text.long_of s
  long_four n h = rw (marked 50 false n, marked 52 true h) refl

  -- where both tests for groups fail: "An unknown directive is a literal backslash"
  pub long_none : eqb x 88 && (eqb y 50 && eqb z 92) ≡ false → eqb x 88 && (eqb y 52 && eqb z 92) ≡ false → Text.gives (92 ∷ []) 1 ≡ Text.long_of s
  long_none n h = rw (marked 50 false n, marked 52 false h) refl

-- `P`, a byte and a backslash behind a backslash, as the code tests them
module _ (g : ℕ) (s : List ℕ) (o : Text.is s 0 92 ≡ true) (x y z : ℕ) (ex : x ≡ byte_at s 1) (ey : y ≡ byte_at s 2) (ez : z ≡ byte_at s 3) where
  -- where the code's test for `\P?\` fails, none stands there
  pub page_unnamed : eqb x 80 && eqb z 92 ≡ false → Text.is s 1 80 && Text.is s 3 92 ≡ false
  page_unnamed h = rw (sym ex, sym ez) h

  -- where the code's test for `\P?\` fails, the page stays
  pub page_same : eqb x 80 && eqb z 92 ≡ false → g ≡ Text.page_after g s
  page_same h = sym (page_stays g s (rw (o, page_unnamed h) refl))

  module _ (h : eqb x 80 && eqb z 92 ≡ true) where
    -- where the code's test for `\P?\` passes, one stands there
    named : Text.is s 1 80 && Text.is s 3 92 ≡ true
    named = rw (sym ex, sym ez) h

    -- where the code's test for `\P?\` passes, the page is the one that its byte selects
    pub page_other : (q : ℕ) → q ≡ page_of y → q ≡ Text.page_after g s
    page_other q e = e ∙ ap page_of ey ∙ sym (page_named g s (rw (o, named) refl))

    -- where the code's test for `\P?\` passes: "`\P?\` nothing"
    page_piece : Text.directive_of g s ≡ Text.gives [] 4
    unfolding Text.directive_of
    page_piece =
        let (p, q) = both (Text.is s 1 80) (Text.is s 3 92) named in
        let b : byte_at s 1 ≡ 80 = eqb-true (byte_at s 1) 80 p in
        rw (b, q) refl

    -- where the code's test for `\P?\` passes, no byte is put, and four are read
    pub page_moves : (a : ℕ) (o : List ℕ) → a ≤ largest_u64 → PiecePut (Text.directive_of g s) a o a 4 o
    page_moves a o m = rw page_piece (record { put = laid_nothing a o m; read = refl })

-- where the first byte is the backslash, the test for it passes
pub is_directive : (s : List ℕ) (b : ℕ) → b ≡ byte_at s 0 → b ≡ 92 → Text.is s 0 92 ≡ true
is_directive s b e h = eq-eqb (byte_at s 0) 92 (sym e ∙ h)

-- a backslash that stands first opens a directive
pub piece_directive : (g : ℕ) (s : List ℕ) → Text.is s 0 92 ≡ true → Text.directive_of g s ≡ Text.piece_of g s
unfolding Text.piece_of
piece_directive g s e = rw e refl

-- where the first byte is not the backslash, the test for it fails
pub no_directive : (s : List ℕ) (b : ℕ) → b ≡ byte_at s 0 → (b ≡ 92 → ⊥) → eqb (byte_at s 0) 92 ≡ false
no_directive s b e h = ne_eqb (byte_at s 0) 92 (λ k. h (e ∙ k))

-- where the first byte is not the backslash, the page stays
pub ordinary_page : (g : ℕ) (s : List ℕ) (b : ℕ) → b ≡ byte_at s 0 → (b ≡ 92 → ⊥) → g ≡ Text.page_after g s
ordinary_page g s b e h = sym (plain_stays g s (λ k. h (e ∙ k)))

-- the text is read up to place i, where page g is in force, and its characters put
pub record Running (s : List ℕ) (a₀ : ℕ) (o₀ : List ℕ) (i g a : ℕ) (o : List ℕ) : Type 0 where
  pub done : List ℕ
  pub within : i ≤ length s
  pub ahead : Text.text_of s ≡ done ++ Text.text_on g (drop i s)
  pub put : Laid a₀ o₀ (encode_all done) a o
  pub kept : length o ≡ length o₀

-- before the first piece of a string is read
pub running_starts : (s : List ℕ) (a : ℕ) (o : List ℕ) → a ≤ largest_u64 → Running s a o 0 page_a a o
unfolding Text.text_of
running_starts s a o m = record { done = []; within = omega arith; ahead = refl; put = laid_nothing a o m; kept = refl }

-- a piece and the plain bytes after it are read
pub turned_is : (g : ℕ) (s : List ℕ) (a : ℕ) (o : List ℕ) (e k : ℕ) (p t : List ℕ) (n f : ℕ) (q : List ℕ) → length o ≤ largest_u64 → 0 < length s → t ≡ drop k s → PiecePut (Text.piece_of g s) a o e k p → PlainPut t e p f n q → Turned g s a o f (k + n) q
turned_is g s a o e k p t n f q m h w v y =
    let z = piece_fits g s h in
    let c = (Text.piece_of g s).chars in
    let j = Text.page_after g s in
    let x : Text.text_on g s ≡ c ++ Text.text_on j t = text_goes g s k h v.read (omega (arith, v.read)) ∙ ap (λ (u : List ℕ). c ++ Text.text_on j u) (sym w) in
    let d : drop n t ≡ drop (k + n) s = ap (drop n) w ∙ drop-drop n k s in
    record {
      chars = c ++ take n t;
      put = laid_chars a o c e p (take n t) f q m v.put (rw (encode_plain (take n t) y.plainly) y.put);
      ahead = x ∙ ap (λ (u : List ℕ). c ++ u) (text_plain j n t y.within y.plainly) ∙ sym (append_assoc c (take n t) (Text.text_on j (drop n t))) ∙ ap (λ (u : List ℕ). c ++ take n t ++ Text.text_on j u) d;
      some = omega (arith, v.read);
      within = omega (arith, v.read, length-drop k s, ap length w, y.within);
    }

-- a piece and the plain bytes after it are read: the text has come that much further
pub running_goes : (s : List ℕ) (a₀ : ℕ) (o₀ : List ℕ) (i g a : ℕ) (o t : List ℕ) (e k h : ℕ) (p : List ℕ) → length o₀ ≤ largest_u64 → t ≡ drop i s → Running s a₀ o₀ i g a o → Turned g t a o e k p → h ≡ Text.page_after g t → length p ≡ length o → Running s a₀ o₀ (i + k) h e p
running_goes s a₀ o₀ i g a o t e k h p m q r v l j =
    let d : drop k t ≡ drop (i + k) s = ap (drop k) q ∙ drop-drop k i s in
    let x : Text.text_on g t ≡ v.chars ++ Text.text_on h (drop k t) = v.ahead ∙ ap (λ (z : ℕ). v.chars ++ Text.text_on z (drop k t)) (sym l) in
    record {
      done = r.done ++ v.chars;
      within = omega (arith, length-drop i s, ap length q, v.within, v.some);
      ahead = r.ahead ∙ ap (λ (z : List ℕ). r.done ++ Text.text_on g z) (sym q) ∙ ap (λ (z : List ℕ). r.done ++ z) x ∙ sym (append_assoc r.done v.chars (Text.text_on h (drop k t))) ∙ ap (λ (z : List ℕ). r.done ++ v.chars ++ Text.text_on h z) d;
      put = laid_chars a₀ o₀ r.done a o v.chars e p m r.put v.put;
      kept = j ∙ r.kept;
    }

-- the bytes of a piece and of the plain bytes after it are there
pub turned_fits : (g : ℕ) (s : List ℕ) (i a : ℕ) (o t : List ℕ) (e k : ℕ) (p : List ℕ) → t ≡ drop i s → Turned g t a o e k p → (0 < k) × (i + k ≤ length s)
turned_fits g s i a o t e k p q v = (v.some, omega (arith, length-drop i s, ap length q, v.within, v.some))

-- no byte is left: the whole text is put
pub running_ends : (s : List ℕ) (a₀ : ℕ) (o₀ : List ℕ) (i g a : ℕ) (o : List ℕ) → length s ≤ i → Running s a₀ o₀ i g a o → Laid a₀ o₀ (Text.bytes_of s) a o
unfolding Text.bytes_of
running_ends s a₀ o₀ i g a o h r =
    let e : Text.text_of s ≡ r.done = r.ahead ∙ ap (λ (z : List ℕ). r.done ++ z) (text_on_ends g s i h) ∙ append-nil r.done in
    rw e r.put

-- plain bytes are put, and then the text after them: together the whole text
pub run_whole : (s o : List ℕ) (n e : ℕ) (p t : List ℕ) (f : ℕ) (q : List ℕ) → length o ≤ largest_u64 → n ≤ length s → Text.plain (take n s) ≡ true → t ≡ drop n s → Laid 0 o (take n s) e p → Laid e p (Text.bytes_of t) f q → Laid 0 o (Text.bytes_of s) f q
run_whole s o n e p t f q m h g w x y = rw (bytes_plain n s h g, sym w) (laid_then 0 o (take n s) e p (Text.bytes_of t) f q m x y)
