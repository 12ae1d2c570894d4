-- The text's pieces one after another: the laws that the code's loops go by. Assumes nothing.
use Rattle.std.specs.Prelude.{ℕ, zero, suc, ◌+◌, ◌-◌, ◌≤◌, ◌<◌, min, ◌≡◌, refl, Bool, true, false, ◌&&◌, ◌||◌, eqb, leb, ltb, length, take, drop, Some, None}
use Rattle.std.proofs.Common.{sym, ◌∙◌, arith, ltb-true, ltb-false, leb-true, eqb-true, ne_eqb, length-drop, drop_of_length-le, drop-drop, take_all}
use Rattle.std.proofs.Math.Path.{ap}
use mathlib.Core.List.{List, [], ◌∷◌, ◌++◌, append-nil}
use Rattle.std.proofs.Math.ListN.{get_or-eq_default}
use Rattle.std.proofs.Math.Seq.{append_snoc}
use Rattle.common.specs.Pick.{pick}
use Rattle.common.specs.Tests.{both}
use Rattle.utf8.specs.Utf8.{byte_at, lead_of}
use Rattle.utf8.specs.Encoding.{encode_all}
use Rattle.utf8.specs.Answer.{LeadCharacter, valid, invalid}
use Rattle.pages.specs.Pages.{page_of}
use Rattle.strings.specs.Text
use Rattle.strings.specs.Hex.{hex_within, four_within}
use Rattle.utf8.specs.Laws.{used_within}
use Rattle.strings.specs.Put.{Laid, laid_nothing, laid_chars}
use Rattle.strings.specs.Answer.{largest_u64}
use Rattle.strings.specs.Code.{PiecePut, told_group}
use Rattle.strings.specs.declared.Char.{Char}

-- where the byte at k is b, k is a place in the list
pub is_within : (s : List ℕ) (k b : ℕ) → b < 256 → Text.is s k b ≡ true → k < length s
is_within s k b h e = go (ltb k (length s)) refl
  where
    go : (t : Bool) → ltb k (length s) ≡ t → k < length s
    go true p = ltb-true k (length s) p
    go false p =
        let z : byte_at s k ≡ 256 = get_or-eq_default s 256 (ltb-false k (length s) p) in
        let w : byte_at s k ≡ b = eqb-true (byte_at s k) b e in
        absurd (omega arith)

-- how many bytes a group took
abbrev pub group_taken : Text.Group → ℕ
group_taken (Text.char c k) = k
group_taken Text.wrong = 0

-- a group takes bytes that are there
pub group_fits : (w : ℕ) (s : List ℕ) → group_taken (Text.group_of w s) ≤ length s
unfolding Text.group_two Text.group_four
group_fits w s = go (eqb w 4)
  where
    two : (t u v : Bool) → Text.four_at s 0 ≡ t → Text.high (Text.four_of s 0) ≡ u → Text.four_at s 4 ≡ v → group_taken (Text.group_two s) ≤ length s
    two false u v p q r = rw p (omega arith)
    two true false v p q r = let h = four_within s 0 p in rw (p, q) (omega arith)
    two true true false p q r = rw (p, q, r) (omega arith)
    two true true true p q r = let h = four_within s 4 r in rw (p, q, r) (omega arith)

    four : (t v : Bool) → Text.four_at s 0 ≡ t → Text.four_at s 4 ≡ v → group_taken (Text.group_four s) ≤ length s
    four false v p r = rw p (omega arith)
    four true false p r = rw (p, r) (omega arith)
    four true true p r = let h = four_within s 4 r in rw (p, r) (omega arith)

    go : (t : Bool) → group_taken (pick t (Text.group_two s) (Text.group_four s)) ≤ length s
    go true = two (Text.four_at s 0) (Text.high (Text.four_of s 0)) (Text.four_at s 4) refl refl refl
    go false = four (Text.four_at s 0) (Text.four_at s 4) refl refl

-- the groups after n bytes that are passed over are those from place n on
pub groups_skip : (w n : ℕ) (s : List ℕ) → Text.groups_from w n s ≡ Text.groups_from w 0 (drop n s)
unfolding Text.groups_from
groups_skip w zero s = refl
groups_skip w (suc n) [] = refl
groups_skip w (suc n) (b ∷ r) = groups_skip w n r

-- whether the groups end here: too few bytes are left, or a backslash
abbrev pub groups_end_here : ℕ → List ℕ → Bool
groups_end_here w t = ltb (length t) w || Text.is t 0 92

-- where the groups end, no character is read, and a `\X0` is eaten
pub groups_stop : (w : ℕ) (t : List ℕ) → 0 < length t → groups_end_here w t ≡ true → Text.groups_from w 0 t ≡ Text.groups_ended [] (Text.closing_taken t)
unfolding Text.groups_from
groups_stop w [] h e = absurd (omega arith)
groups_stop w (b ∷ r) h e = rw e refl

-- where a bad group stands, the groups are broken off
pub groups_wrong : (w : ℕ) (t : List ℕ) → 0 < length t → groups_end_here w t ≡ false → Text.group_of w t ≡ Text.wrong → Text.groups_from w 0 t ≡ Text.groups_broken []
unfolding Text.groups_from
groups_wrong w [] h e g = absurd (omega arith)
groups_wrong w (b ∷ r) h e g = rw (e, g) refl

-- where a good group stands, the groups are its character and those after it
pub groups_char : (w : ℕ) (t : List ℕ) (c k : ℕ) → 0 < length t → groups_end_here w t ≡ false → Text.group_of w t ≡ Text.char c k → 0 < k → Text.groups_from w 0 t ≡ Text.with_char c k (Text.groups_from w 0 (drop k t))
unfolding Text.groups_from
groups_char w [] c k h e g p = absurd (omega arith)
groups_char w (b ∷ r) c zero h e g p = absurd (omega arith)
groups_char w (b ∷ r) c (suc k) h e g p = let q : suc k - 1 ≡ k = omega arith in rw (e, g, q) (ap (λ (z : Text.GroupsRead). Text.with_char c (suc k) z) (groups_skip w k r))

-- how many bytes the groups took
abbrev pub groups_eaten : Text.GroupsRead → ℕ
groups_eaten (Text.groups_ended cs n) = n
groups_eaten (Text.groups_broken cs) = 0

-- the groups take bytes that are there
pub groups_fit : (w n : ℕ) (t : List ℕ) → groups_eaten (Text.groups_from w n t) ≤ length t - n
unfolding Text.groups_from
groups_fit w n [] = omega arith
groups_fit w (suc n) (b ∷ r) = let k = groups_fit w n r in omega arith
groups_fit w zero (b ∷ r) =
    let k = go (ltb (suc (length r)) w || eqb b 92) (Text.group_of w (b ∷ r)) (group_fits w (b ∷ r)) (λ k. groups_fit w (k - 1) r) in
    omega arith
  where
    shut : (t : Bool) → pick t (min 4 (length (b ∷ r))) 0 ≤ length (b ∷ r)
    shut true = omega arith
    shut false = omega arith

    more : (c k : ℕ) (g : Text.GroupsRead) → k ≤ length (b ∷ r) → groups_eaten g ≤ length r - (k - 1) → groups_eaten (Text.with_char c k g) ≤ length (b ∷ r)
    more c k (Text.groups_ended cs n) h l = omega arith
    more c k (Text.groups_broken cs) h l = omega arith

    go : (t : Bool) (g : Text.Group) → group_taken g ≤ length (b ∷ r) → ((k : ℕ) → groups_eaten (Text.groups_from w (k - 1) r) ≤ length r - (k - 1)) → groups_eaten (pick t (Text.groups_ended [] (Text.closing_taken (b ∷ r))) (Text.grouped g (λ k. Text.groups_from w (k - 1) r))) ≤ length (b ∷ r)
    go true g h f = shut (Text.is (b ∷ r) 0 92 && (Text.is (b ∷ r) 1 88 && Text.is (b ∷ r) 2 48))
    go false (Text.char c k) h f = more c k (Text.groups_from w (k - 1) r) h (f k)
    go false Text.wrong h f = omega arith

-- the text after n bytes that are passed over is that from place n on
pub text_skip : (g n : ℕ) (s : List ℕ) → Text.text_from g n s ≡ Text.text_on g (drop n s)
unfolding Text.text_from Text.text_on
text_skip g zero s = refl
text_skip g (suc n) [] = refl
text_skip g (suc n) (b ∷ r) = text_skip g n r

-- the text is a piece, and the text after it on the page that it leaves
pub text_goes : (g : ℕ) (s : List ℕ) (n : ℕ) → 0 < length s → n ≡ (Text.piece_of g s).used → 0 < n → Text.text_on g s ≡ (Text.piece_of g s).chars ++ Text.text_on (Text.page_after g s) (drop n s)
unfolding Text.text_from Text.text_on
text_goes g [] n h e p = absurd (omega arith)
text_goes g (b ∷ r) zero h e p = absurd (omega arith)
text_goes g (b ∷ r) (suc n) h e p =
    let q : (Text.piece_of g (b ∷ r)).used - 1 ≡ n = omega arith in
    rw q (ap (λ (z : List ℕ). (Text.piece_of g (b ∷ r)).chars ++ z) (text_skip (Text.page_after g (b ∷ r)) n r))

-- where no `\P?\` stands the page stays
pub page_stays : (g : ℕ) (s : List ℕ) → Text.is s 0 92 && (Text.is s 1 80 && Text.is s 3 92) ≡ false → Text.page_after g s ≡ g
unfolding Text.page_after
page_stays g s e = rw e refl

-- where no backslash stands first the page stays
pub plain_stays : (g : ℕ) (s : List ℕ) → (byte_at s 0 ≡ 92 → ⊥) → Text.page_after g s ≡ g
plain_stays g s n = page_stays g s (rw (ne_eqb (byte_at s 0) 92 n) refl)

-- where a `\P?\` stands the page is the one that this selects
pub page_named : (g : ℕ) (s : List ℕ) → Text.is s 0 92 && (Text.is s 1 80 && Text.is s 3 92) ≡ true → Text.page_after g s ≡ page_of (byte_at s 2)
unfolding Text.page_after
page_named g s e = rw e refl

-- where no byte is left there is no text
pub text_on_ends : (g : ℕ) (s : List ℕ) (i : ℕ) → length s ≤ i → Text.text_on g (drop i s) ≡ []
unfolding Text.text_from Text.text_on
text_on_ends g s i h = rw (drop_of_length-le s h) refl

-- a directive with groups takes bytes that are there
pub extended_fits : (w : ℕ) (s : List ℕ) → 4 ≤ length s → (0 < (Text.extended (Text.groups_from w 0 (drop 4 s))).used) × ((Text.extended (Text.groups_from w 0 (drop 4 s))).used ≤ length s)
extended_fits w s h = go (Text.groups_from w 0 (drop 4 s)) (groups_fit w 0 (drop 4 s))
  where
    go : (g : Text.GroupsRead) → groups_eaten g ≤ length (drop 4 s) - 0 → (0 < (Text.extended g).used) × ((Text.extended g).used ≤ length s)
    go (Text.groups_ended cs n) l = let k : length (drop 4 s) ≡ length s - 4 = length-drop 4 s in (omega arith, omega arith)
    go (Text.groups_broken cs) l = (omega arith, omega arith)

-- a piece takes bytes that are there, at least one
abbrev pub Fits : List ℕ → Text.Piece → Type 0
Fits s p = (0 < p.used) × (p.used ≤ length s)

-- of two pieces that a test picks from, each takes bytes that are there, so the one picked does
pub pick_fits : (s : List ℕ) (t : Bool) (p q : Text.Piece) → (t ≡ true → Fits s p) → (t ≡ false → Fits s q) → Fits s (pick t p q)
pick_fits s true p q f g = f refl
pick_fits s false p q f g = g refl

-- a directive with groups, or an unknown one, takes bytes that are there, at least one
pub long_fits : (s : List ℕ) → 0 < length s → Fits s (Text.long_of s)
long_fits s h = pick_fits s (Text.is s 1 88 && (Text.is s 2 50 && Text.is s 3 92)) _ _ (λ e. extended_fits 4 s (three 50 e)) (λ n. pick_fits s (Text.is s 1 88 && (Text.is s 2 52 && Text.is s 3 92)) _ _ (λ e. extended_fits 8 s (three 52 e)) (λ m. (omega arith, omega arith)))
  where
    three : (d : ℕ) → Text.is s 1 88 && (Text.is s 2 d && Text.is s 3 92) ≡ true → 4 ≤ length s
    three d e =
        let x = both (Text.is s 1 88) (Text.is s 2 d && Text.is s 3 92) e in
        let y = both (Text.is s 2 d) (Text.is s 3 92) x.1 in
        let z = is_within s 3 92 (omega arith) y.1 in
        omega arith

-- every directive takes bytes that are there, at least one
pub directive_fits : (g : ℕ) (s : List ℕ) → 0 < length s → Fits s (Text.directive_of g s)
unfolding Text.directive_of
directive_fits g s h =
    pick_fits s (Text.is s 1 92) _ _ (λ e. let z = is_within s 1 92 (omega arith) e in (omega arith, omega arith)) (λ n1.
    pick_fits s (Text.is s 1 78 && Text.is s 2 92) _ _ (λ e. let z = is_within s 2 92 (omega arith) (both (Text.is s 1 78) (Text.is s 2 92) e).1 in (omega arith, omega arith)) (λ n2.
    pick_fits s (Text.is s 1 84 && Text.is s 2 92) _ _ (λ e. let z = is_within s 2 92 (omega arith) (both (Text.is s 1 84) (Text.is s 2 92) e).1 in (omega arith, omega arith)) (λ n3.
    pick_fits s (Text.is s 1 80 && Text.is s 3 92) _ _ (λ e. let z = is_within s 3 92 (omega arith) (both (Text.is s 1 80) (Text.is s 3 92) e).1 in (omega arith, omega arith)) (λ n4.
    pick_fits s (Text.is s 1 83 && (Text.is s 2 92 && leb 4 (length s))) _ _ (λ e. let z = leb-true 4 (length s) (both (Text.is s 2 92) (leb 4 (length s)) (both (Text.is s 1 83) (Text.is s 2 92 && leb 4 (length s)) e).1).1 in (omega arith, omega arith)) (λ n5.
    pick_fits s (Text.is s 1 88 && (Text.is s 2 92 && Text.two_at s 3)) _ _ (λ e. let z = hex_within s 4 (both (Text.hex_digit (byte_at s 3)) (Text.hex_digit (byte_at s 4)) (both (Text.is s 2 92) (Text.two_at s 3) (both (Text.is s 1 88) (Text.is s 2 92 && Text.two_at s 3) e).1).1).1 in (omega arith, omega arith)) (λ n6. long_fits s h))))))

-- every piece takes bytes that are there, at least one
pub piece_fits : (g : ℕ) (s : List ℕ) → 0 < length s → Fits s (Text.piece_of g s)
unfolding Text.piece_of
piece_fits g s h =
    pick_fits s (Text.is s 0 92) _ _ (λ e. directive_fits g s h) (λ n1.
    pick_fits s (Text.is s 0 39 && Text.is s 1 39) _ _ (λ e. let z = is_within s 1 39 (omega arith) (both (Text.is s 0 39) (Text.is s 1 39) e).1 in (omega arith, omega arith)) (λ n2.
    pick_fits s (ltb (byte_at s 0) 128) _ _ (λ e. (omega arith, omega arith)) (λ n3. go (lead_of s) refl)))
  where
    go : (l : LeadCharacter) → lead_of s ≡ l → Fits s (Text.raw_of (byte_at s 0) l)
    go (valid c k) e = used_within s c k e
    go invalid e = (omega arith, omega arith)

-- the piece of a directive whose groups are read up to place i, the characters cs among them
abbrev pub directive_from : List ℕ → ℕ → Text.GroupsRead → Text.Piece
directive_from cs i (Text.groups_ended ds n) = Text.gives (cs ++ ds) (i + n)
directive_from cs i (Text.groups_broken ds) = Text.gives (cs ++ (ds ++ 92 ∷ [])) 1

-- the piece of a directive, one group more being read
pub onward_char : (cs : List ℕ) (i c k : ℕ) (g : Text.GroupsRead) → directive_from cs i (Text.with_char c k g) ≡ directive_from (cs ++ c ∷ []) (i + k) g
onward_char cs i c k (Text.groups_ended ds n) =
    let e : i + (k + n) ≡ i + k + n = omega arith in
    rw (e, append_snoc cs c ds) refl
onward_char cs i c k (Text.groups_broken ds) = rw (append_snoc cs c (ds ++ 92 ∷ [])) refl

-- the piece of a directive at its start, where no group is read
pub onward_none : (g : Text.GroupsRead) → Text.extended g ≡ directive_from [] 4 g
onward_none (Text.groups_ended ds n) = refl
onward_none (Text.groups_broken ds) = refl

-- the groups are read up to place i, and their characters put
pub record GroupsReading (w : ℕ) (s : List ℕ) (a₀ : ℕ) (o₀ : List ℕ) (i a : ℕ) (o : List ℕ) : Type 0 where
  pub done : List ℕ
  pub from : 4 ≤ i
  pub within : i ≤ length s
  pub ahead : Text.extended (Text.groups_from w 0 (drop 4 s)) ≡ directive_from done i (Text.groups_from w 0 (drop i s))
  pub put : Laid a₀ o₀ (encode_all done) a o
  pub kept : length o ≡ length o₀

-- the rest from a place, as the language hands it on
pub rest_is : (s : List ℕ) (i : ℕ) → take (length s - i) (drop i s) ≡ drop i s
rest_is s i = take_all (length s - i) (drop i s) (omega (arith, length-drop i s))

module _ (w : ℕ) (s : List ℕ) (a₀ : ℕ) (o₀ : List ℕ) where
  -- before the first group of a directive is read
  pub groups_reading_starts : 4 ≤ length s → a₀ ≤ largest_u64 → GroupsReading w s a₀ o₀ 4 a₀ o₀
  groups_reading_starts h m = record { done = []; from = omega arith; within = h; ahead = onward_none (Text.groups_from w 0 (drop 4 s)); put = laid_nothing a₀ o₀ m; kept = refl }

  module _ (i a : ℕ) (o : List ℕ) (r : GroupsReading w s a₀ o₀ i a o) where
    -- no byte is left: the directive is read
    pub groups_reading_ends : length s ≤ i → PiecePut (Text.extended (Text.groups_from w 0 (drop 4 s))) a₀ o₀ a i o
    unfolding Text.groups_from
    groups_reading_ends h =
        let e : Text.extended (Text.groups_from w 0 (drop 4 s)) ≡ Text.gives (r.done ++ []) (i + 0) = r.ahead ∙ ap (λ (t : List ℕ). directive_from r.done i (Text.groups_from w 0 t)) (drop_of_length-le s h) in
        moved e (omega arith)
      where
        moved : Text.extended (Text.groups_from w 0 (drop 4 s)) ≡ Text.gives (r.done ++ []) (i + 0) → i ≡ i + 0 → PiecePut (Text.extended (Text.groups_from w 0 (drop 4 s))) a₀ o₀ a i o
        moved e k = rw e (record { put = rw (append-nil r.done) r.put; read = k })

    -- the groups end: the directive is read, with a `\X0` that stands there
    pub groups_reading_stops : i < length s → groups_end_here w (drop i s) ≡ true → PiecePut (Text.extended (Text.groups_from w 0 (drop 4 s))) a₀ o₀ a (i + Text.closing_taken (drop i s)) o
    groups_reading_stops h e =
        let n : 0 < length (drop i s) = omega (arith, length-drop i s) in
        let f : Text.extended (Text.groups_from w 0 (drop 4 s)) ≡ Text.gives (r.done ++ []) (i + Text.closing_taken (drop i s)) = r.ahead ∙ ap (directive_from r.done i) (groups_stop w (drop i s) n e) in
        rw f (record { put = rw (append-nil r.done) r.put; read = refl })

    module _ (e : ℕ) (p : List ℕ) (m : length o₀ ≤ largest_u64) (h : i < length s) (g : groups_end_here w (drop i s) ≡ false) where
      -- a bad group: "the characters already read, then a literal backslash"
      pub groups_reading_breaks : Text.group_of w (drop i s) ≡ Text.wrong → Laid a o (encode_all (92 ∷ [])) e p → PiecePut (Text.extended (Text.groups_from w 0 (drop 4 s))) a₀ o₀ e 1 p
      groups_reading_breaks b l =
          let n : 0 < length (drop i s) = omega (arith, length-drop i s) in
          let f : Text.extended (Text.groups_from w 0 (drop 4 s)) ≡ Text.gives (r.done ++ 92 ∷ []) 1 = r.ahead ∙ ap (directive_from r.done i) (groups_wrong w (drop i s) n g b) in
          rw f (record { put = laid_chars a₀ o₀ r.done a o (92 ∷ []) e p m r.put l; read = refl })

      -- a good group is read: its character is put
      pub groups_reading_goes : (c k : ℕ) → Text.group_of w (drop i s) ≡ Text.char c k → 0 < k → Laid a o (encode_all (c ∷ [])) e p → length p ≡ length o → GroupsReading w s a₀ o₀ (i + k) e p
      groups_reading_goes c k b q l j =
          let n : 0 < length (drop i s) = omega (arith, length-drop i s) in
          let t : k ≤ length (drop i s) = rw (sym (ap group_taken b)) (group_fits w (drop i s)) in
          let f : Text.extended (Text.groups_from w 0 (drop 4 s)) ≡ directive_from (r.done ++ c ∷ []) (i + k) (Text.groups_from w 0 (drop k (drop i s))) = r.ahead ∙ ap (directive_from r.done i) (groups_char w (drop i s) c k n g b q) ∙ onward_char r.done i c k (Text.groups_from w 0 (drop k (drop i s))) in
          record {
            done = r.done ++ c ∷ [];
            from = omega (arith, r.from);
            within = omega (arith, length-drop i s, r.within);
            ahead = f ∙ ap (λ (u : List ℕ). directive_from (r.done ++ c ∷ []) (i + k) (Text.groups_from w 0 u)) (drop-drop k i s);
            put = laid_chars a₀ o₀ r.done a o (c ∷ []) e p m r.put l;
            kept = j ∙ r.kept;
          }

-- whether a group is bad, or takes a byte at least
abbrev Takes : Text.Group → Type 0
Takes (Text.char c k) = 0 < k
Takes Text.wrong = Unit {0}

-- a good group takes a byte at least
group_takes : (w : ℕ) (s : List ℕ) → Takes (Text.group_of w s)
unfolding Text.group_two Text.group_four
group_takes w s = go (eqb w 4)
  where
    two : (t u v : Bool) → Text.four_at s 0 ≡ t → Text.high (Text.four_of s 0) ≡ u → Text.four_at s 4 ≡ v → Takes (Text.group_two s)
    two false u v p q r = rw p tt
    two true false v p q r = rw (p, q) (omega arith)
    two true true false p q r = rw (p, q, r) tt
    two true true true p q r = rw (p, q, r) (omega arith)

    four : (t v : Bool) → Text.four_at s 0 ≡ t → Text.four_at s 4 ≡ v → Takes (Text.group_four s)
    four false v p r = rw p tt
    four true false p r = rw (p, r) tt
    four true true p r = rw (p, r) (omega arith)

    go : (t : Bool) → Takes (pick t (Text.group_two s) (Text.group_four s))
    go true = two (Text.four_at s 0) (Text.high (Text.four_of s 0)) (Text.four_at s 4) refl refl refl
    go false = four (Text.four_at s 0) (Text.four_at s 4) refl refl

-- where the code has a group, it is a good one of its code and its bytes, and takes one at least
pub told_char : (w : ℕ) (t u : List ℕ) (c : Char) → u ≡ t → told_group (Some c) ≡ Text.group_of w u → (Text.group_of w t ≡ Text.char c.code c.used) × (0 < c.used)
told_char w t u c e h = (rw (sym e) (sym h), rw (sym h) at (group_takes w u))

-- where the code has no group, it is a bad one
pub told_wrong : (w : ℕ) (t u : List ℕ) → u ≡ t → told_group None ≡ Text.group_of w u → Text.group_of w t ≡ Text.wrong
told_wrong w t u e h = rw (sym e) (sym h)

-- what a `\X0` takes are bytes that are there
pub closing_fits : (s : List ℕ) → Text.closing_taken s ≤ length s
closing_fits s = go (Text.is s 0 92 && (Text.is s 1 88 && Text.is s 2 48))
  where
    go : (t : Bool) → pick t (min 4 (length s)) 0 ≤ length s
    go true = omega arith
    go false = omega arith

-- the bytes that the code's group took are there
pub used_fits : (w : ℕ) (t u : List ℕ) (c : Char) → u ≡ t → told_group (Some c) ≡ Text.group_of w u → c.used ≤ length t
used_fits w t u c e h =
    let q : group_taken (Text.group_of w t) ≡ c.used = ap group_taken (told_char w t u c e h).0 in
    let f = group_fits w t in
    omega arith
