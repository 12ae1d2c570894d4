-- The total rule of documents 01 and 02 gives every string of the rules in Iso.antt (ISO 10303-21) the text that ISO gives it; the
-- first string of document 01's example 7 and one with a page are such strings. Assumes nothing.
use Rattle.std.specs.Prelude.{ℕ, ◌+◌, ◌*◌, ◌-◌, ◌≤◌, ◌<◌, ◌≡◌, refl, Bool, true, false, ◌&&◌, ◌||◌, List, [], ◌∷◌, ◌++◌, eqb, leb, ltb, length, drop}
use Rattle.std.proofs.Common.{sym, ◌∙◌, ap, append_assoc, arith, ltb-true, ltb-false, lt-ltb, le-ltb, le-leb, ne_eqb, length-append, drop-drop}
use Rattle.std.proofs.lemmas.Bool.{lt-leb}
use Rattle.std.proofs.Math.Seq.{drop-append_seam}
use Rattle.common.specs.Pick.{pick}
use Rattle.utf8.specs.Utf8.{scalar, lead_of}
use Rattle.utf8.specs.Answer.{valid}
use Rattle.utf8.specs.Rfc3629.{In, Encoded}
use Rattle.utf8.specs.Agree.{table_leads}
use Rattle.pages.specs.Tables.{pages, cyrillic, page_entry}
use Rattle.pages.specs.Pages.{page_of}
use Rattle.pages.specs.Rules.{page_a}
use Rattle.strings.specs.Text
use Rattle.strings.specs.Steps.{text_goes, groups_char, groups_stop, page_stays, plain_stays, page_named}
use Rattle.strings.specs.Iso

-- a hex digit of ISO is one of document 01
hex_is : (b : ℕ) → Iso.Hex b → Text.hex_digit b ≡ true
hex_is b (Iso.digit h) = rw (le-leb 48 b h.0, le-leb b 57 h.1) refl
hex_is b (Iso.letter h) = go (leb 48 b && leb b 57)
  where
    go : (t : Bool) → t || (leb 65 b && leb b 70 || leb 97 b && leb b 102) ≡ true
    go true = refl
    go false = rw (le-leb 65 b h.0, le-leb b 70 h.1) refl

-- a hex digit of ISO is no backslash
hex_no_backslash : (b : ℕ) → Iso.Hex b → eqb b 92 ≡ false
hex_no_backslash b (Iso.digit h) = ne_eqb b 92 (λ e. absurd (omega arith))
hex_no_backslash b (Iso.letter h) = ne_eqb b 92 (λ e. absurd (omega arith))

-- a character of ISO 10646 is one of RFC 3629
character_scalar : (c : ℕ) → Iso.Character c → scalar c ≡ true
character_scalar c (Iso.below h) = rw (lt-ltb c 55296 (omega arith)) refl
character_scalar c (Iso.above h) = rw (le-ltb c 55296 (omega arith), le-leb 57344 c h.0, le-leb c 1114111 h.1) refl

-- a character of ISO 10646 is no high surrogate
character_low : (c : ℕ) → Iso.Character c → Text.high c ≡ false
character_low c (Iso.below h) = rw (lt-leb 55296 c (omega arith)) refl
character_low c (Iso.above h) = rw (le-leb 55296 c (omega arith), le-ltb c 56320 (omega arith)) refl

-- a piece, and the text of what follows it on the page that it leaves
piece_then : (g h : ℕ) (s r cs ds : List ℕ) (k : ℕ) → 0 < length s → Text.piece_of g s ≡ Text.gives cs k → Text.page_after g s ≡ h → 0 < k → drop k s ≡ r → Text.text_on h r ≡ ds → Text.text_on g s ≡ cs ++ ds
piece_then g h s r cs ds k l e f p d t =
    text_goes g s k l (sym (ap (λ (q : Text.Piece). q.used) e)) p
    ∙ ap (λ (q : Text.Piece). q.chars ++ Text.text_on (Text.page_after g s) (drop k s)) e
    ∙ ap (λ (z : ℕ). cs ++ Text.text_on z (drop k s)) f
    ∙ ap (λ (z : List ℕ). cs ++ Text.text_on h z) d
    ∙ ap (λ (z : List ℕ). cs ++ z) t

-- where no `P` comes after a backslash the page stays
slash_stays : (g a : ℕ) (r : List ℕ) → eqb a 80 ≡ false → Text.page_after g (92 ∷ a ∷ r) ≡ g
slash_stays g a r e = page_stays g (92 ∷ a ∷ r) (rw e refl)

-- a byte of ISO's basic alphabet is its own piece
piece_basic : (g b : ℕ) (r : List ℕ) → Iso.Basic b → Text.piece_of g (b ∷ r) ≡ Text.gives (b ∷ []) 1
unfolding Text.piece_of
piece_basic g b r (Iso.to_ampersand h) = rw (ne_eqb b 92 (λ e. absurd (omega arith)), ne_eqb b 39 (λ e. absurd (omega arith)), lt-ltb b 128 (omega arith)) refl
piece_basic g b r (Iso.to_bracket h) = rw (ne_eqb b 92 (λ e. absurd (omega arith)), ne_eqb b 39 (λ e. absurd (omega arith)), lt-ltb b 128 (omega arith)) refl
piece_basic g b r (Iso.to_tilde h) = rw (ne_eqb b 92 (λ e. absurd (omega arith)), ne_eqb b 39 (λ e. absurd (omega arith)), lt-ltb b 128 (omega arith)) refl

-- a valid sequence whose first byte is 80 or more is a piece
piece_lead : (g f : ℕ) (t : List ℕ) (c k : ℕ) → 128 ≤ f → lead_of (f ∷ t) ≡ valid c k → Text.piece_of g (f ∷ t) ≡ Text.gives (c ∷ []) k
unfolding Text.piece_of
piece_lead g f t c k h e = rw (ne_eqb f 92 (λ z. absurd (omega arith)), ne_eqb f 39 (λ z. absurd (omega arith)), le-ltb f 128 h, e) refl

-- a character from 80 up, in UTF-8, is a piece, and the page stays
piece_high : (g c : ℕ) (x r : List ℕ) → In 128 1114111 c → Encoded c x → (0 < length x) × (Text.piece_of g (x ++ r) ≡ Text.gives (c ∷ []) (length x)) × (Text.page_after g (x ++ r) ≡ g)
piece_high g c _ r h (Encoded.line_one l) = absurd (omega arith)
piece_high g c _ r h (Encoded.line_two {x = x} {y = y} l e p q) = (omega arith, piece_lead g (192 + x) ((128 + y) ∷ r) c 2 (omega arith) (table_leads (Encoded.line_two l e p q) r), plain_stays g ((192 + x) ∷ (128 + y) ∷ r) (λ z. omega arith))
piece_high g c _ r h (Encoded.line_three {x = x} {y = y} {z = z} l n e p q s) =
    (omega arith, piece_lead g (224 + x) ((128 + y) ∷ (128 + z) ∷ r) c 3 (omega arith) (table_leads (Encoded.line_three l n e p q s) r), plain_stays g ((224 + x) ∷ (128 + y) ∷ (128 + z) ∷ r) (λ z. omega arith))
piece_high g c _ r h (Encoded.line_four {x = x} {y = y} {z = z} {w = w} l e p q s u) =
    (omega arith, piece_lead g (240 + x) ((128 + y) ∷ (128 + z) ∷ (128 + w) ∷ r) c 4 (omega arith) (table_leads (Encoded.line_four l e p q s u) r), plain_stays g ((240 + x) ∷ (128 + y) ∷ (128 + z) ∷ (128 + w) ∷ r) (λ z. omega arith))

-- ISO's four hex digits of a character are a group of document 01
two_group : (x : List ℕ) (c : ℕ) (t : List ℕ) → Iso.Two x c → Iso.Character c
    → (Text.group_of 4 (x ++ t) ≡ Text.char c 4) × (length x ≡ 4) × (Text.is (x ++ t) 0 92 ≡ false)
unfolding Text.group_two
two_group _ _ t (Iso.two (Iso.one {a = a} {b = b} ha hb) (Iso.one {a = d} {b = e} hd he)) k =
    let n = (Text.hex_value a * 16 + Text.hex_value b) * 256 + (Text.hex_value d * 16 + Text.hex_value e) in
    (rw (hex_is a ha, hex_is b hb, hex_is d hd, hex_is e he, character_low n k, character_scalar n k) refl, refl, hex_no_backslash a ha)

-- ISO's eight hex digits of a character are a group of document 01
four_group : (x : List ℕ) (c : ℕ) (t : List ℕ) → Iso.Four x c → Iso.Character c
    → (Text.group_of 8 (x ++ t) ≡ Text.char c 8) × (length x ≡ 8) × (Text.is (x ++ t) 0 92 ≡ false)
unfolding Text.group_four
four_group _ _ t (Iso.four (Iso.two (Iso.one {a = a} {b = b} ha hb) (Iso.one {a = d} {b = e} hd he)) (Iso.two (Iso.one {a = f} {b = g} hf hg) (Iso.one {a = i} {b = j} hi hj))) k =
    let m = (Text.hex_value a * 16 + Text.hex_value b) * 256 + (Text.hex_value d * 16 + Text.hex_value e) in
    let n = (Text.hex_value f * 16 + Text.hex_value g) * 256 + (Text.hex_value i * 16 + Text.hex_value j) in
    (rw (hex_is a ha, hex_is b hb, hex_is d hd, hex_is e he, hex_is f hf, hex_is g hg, hex_is i hi, hex_is j hj, character_scalar (m * 65536 + n) k) refl, refl, hex_no_backslash a ha)

-- one group, and the groups after it, as document 01 reads them
group_then : (w : ℕ) (x t : List ℕ) (c : ℕ) (cs : List ℕ) (n : ℕ) → 0 < w → Text.group_of w (x ++ t) ≡ Text.char c w → length x ≡ w → Text.is (x ++ t) 0 92 ≡ false
    → Text.groups_from w 0 t ≡ Text.groups_ended cs n → Text.groups_from w 0 (x ++ t) ≡ Text.groups_ended (c ∷ cs) (length x + n)
group_then w x t c cs n p g l b e =
    let q : length (x ++ t) ≡ length x + length t = length-append x t in
    let f : ltb (length (x ++ t)) w || Text.is (x ++ t) 0 92 ≡ false = rw (le-ltb (length (x ++ t)) w (omega arith), b) refl in
    let d : drop w (x ++ t) ≡ t = ap (λ (k : ℕ). drop k (x ++ t)) (sym l) ∙ drop-append_seam x t in
    groups_char w (x ++ t) c w (omega arith) f g p ∙ ap (λ (z : List ℕ). Text.with_char c w (Text.groups_from w 0 z)) d ∙ ap (Text.with_char c w) e ∙ ap (λ (k : ℕ). Text.groups_ended (c ∷ cs) (k + n)) (sym l)

-- the end of the groups is eaten whole
end_groups : (w : ℕ) (r : List ℕ) → Text.groups_from w 0 (Iso.end_extended ++ r) ≡ Text.groups_ended [] 4
unfolding Text.groups_from
end_groups w r = groups_stop w (Iso.end_extended ++ r) (omega arith) (stop (ltb (length (Iso.end_extended ++ r)) w)) ∙ ap (Text.groups_ended []) (omega arith)
  where
    stop : (t : Bool) → t || true ≡ true
    stop true = refl
    stop false = refl

-- "HEX_TWO { HEX_TWO } END_EXTENDED": document 01 reads these groups to their end
twos_groups : {g cs : List ℕ} (r : List ℕ) → Iso.Twos g cs → Text.groups_from 4 0 (g ++ (Iso.end_extended ++ r)) ≡ Text.groups_ended cs (length g + 4)
twos_groups r (Iso.Twos.last {x = x} {c = c} t k) =
    let g = two_group x c (Iso.end_extended ++ r) t k in
    group_then 4 x (Iso.end_extended ++ r) c [] 4 (omega arith) g.0 g.1 g.2 (end_groups 4 r)
twos_groups r (Iso.Twos.next {x = x} {r = y} {c = c} {cs = cs} t k m) =
    let g = two_group x c (y ++ (Iso.end_extended ++ r)) t k in
    ap (Text.groups_from 4 0) (append_assoc x y (Iso.end_extended ++ r))
    ∙ group_then 4 x (y ++ (Iso.end_extended ++ r)) c cs (length y + 4) (omega arith) g.0 g.1 g.2 (twos_groups r m)
    ∙ ap (Text.groups_ended (c ∷ cs)) (omega (arith, length-append x y))

-- "HEX_FOUR { HEX_FOUR } END_EXTENDED": document 01 reads these groups to their end
fours_groups : {g cs : List ℕ} (r : List ℕ) → Iso.Fours g cs → Text.groups_from 8 0 (g ++ (Iso.end_extended ++ r)) ≡ Text.groups_ended cs (length g + 4)
fours_groups r (Iso.Fours.last {x = x} {c = c} t k) =
    let g = four_group x c (Iso.end_extended ++ r) t k in
    group_then 8 x (Iso.end_extended ++ r) c [] 4 (omega arith) g.0 g.1 g.2 (end_groups 8 r)
fours_groups r (Iso.Fours.next {x = x} {r = y} {c = c} {cs = cs} t k m) =
    let g = four_group x c (y ++ (Iso.end_extended ++ r)) t k in
    ap (Text.groups_from 8 0) (append_assoc x y (Iso.end_extended ++ r))
    ∙ group_then 8 x (y ++ (Iso.end_extended ++ r)) c cs (length y + 4) (omega arith) g.0 g.1 g.2 (fours_groups r m)
    ∙ ap (Text.groups_ended (c ∷ cs)) (omega (arith, length-append x y))

-- what follows the groups and their end
drop_groups : (g r : List ℕ) → drop (length g + 4) (g ++ (Iso.end_extended ++ r)) ≡ r
drop_groups g r = sym (drop-drop 4 (length g) (g ++ (Iso.end_extended ++ r))) ∙ ap (drop 4) (drop-append_seam g (Iso.end_extended ++ r))

-- "`\X2\` groups of four": the piece with their characters
piece_two : (q : ℕ) (g r cs : List ℕ) → Text.groups_from 4 0 (g ++ (Iso.end_extended ++ r)) ≡ Text.groups_ended cs (length g + 4) → Text.piece_of q (92 ∷ 88 ∷ 50 ∷ 92 ∷ (g ++ (Iso.end_extended ++ r))) ≡ Text.gives cs (4 + (length g + 4))
unfolding Text.piece_of Text.directive_of
piece_two q g r cs e = rw e refl

-- "and `\X4\` of eight hex digits": the piece with their characters
piece_four : (q : ℕ) (g r cs : List ℕ) → Text.groups_from 8 0 (g ++ (Iso.end_extended ++ r)) ≡ Text.groups_ended cs (length g + 4) → Text.piece_of q (92 ∷ 88 ∷ 52 ∷ 92 ∷ (g ++ (Iso.end_extended ++ r))) ≡ Text.gives cs (4 + (length g + 4))
unfolding Text.piece_of Text.directive_of
piece_four q g r cs e = rw e refl

-- "`''` gives a quote"
piece_quote : (g : ℕ) (r : List ℕ) → Text.piece_of g (39 ∷ 39 ∷ r) ≡ Text.gives (39 ∷ []) 2
unfolding Text.piece_of
piece_quote g r = refl

-- "`\\` a backslash"
piece_backslash : (g : ℕ) (r : List ℕ) → Text.piece_of g (92 ∷ 92 ∷ r) ≡ Text.gives (92 ∷ []) 2
unfolding Text.piece_of Text.directive_of
piece_backslash g r = refl

-- "`\P?\` nothing"
piece_page : (g a : ℕ) (r : List ℕ) → Text.piece_of g (92 ∷ 80 ∷ a ∷ 92 ∷ r) ≡ Text.gives [] 4
unfolding Text.piece_of Text.directive_of
piece_page g a r = refl

-- the page of ISO's letters: those after I name none, and then page A is in force
abbrev known : ℕ → ℕ
known p = pick (ltb p 9) p page_a

-- the page that a capital letter or the low line selects, as ISO and as document 02 have it
page_known : (a : ℕ) → Iso.Upper a → page_of a ≡ known (a - 65)
page_known a (Iso.capital (l, h)) = go (ltb a 74) refl
  where
    go : (t : Bool) → ltb a 74 ≡ t → page_of a ≡ known (a - 65)
    go true e =
        let k = ltb-true a 74 e in
        rw (le-leb 65 a l, le-leb a 73 (omega arith), lt-ltb (a - 65) 9 (omega arith)) refl
    go false e =
        let k = ltb-false a 74 e in
        rw (le-leb 65 a l, lt-leb a 73 (omega arith), lt-leb 97 a (omega arith), le-ltb (a - 65) 9 (omega arith)) refl
page_known _ Iso.low_line = refl

-- "apply the page to every later `\S\`": after ISO's `\P?\` that page is in force
alphabet_names : (g a : ℕ) (r : List ℕ) → Iso.Upper a → Text.page_after g (92 ∷ 80 ∷ a ∷ 92 ∷ r) ≡ known (a - 65)
alphabet_names g a r h = page_named g (92 ∷ 80 ∷ a ∷ 92 ∷ r) refl ∙ page_known a h

-- "`\S\c` code c+128", on a page
piece_shift : (p c : ℕ) (r : List ℕ) → Iso.Latin c → p < 9 → Text.piece_of (known p) (92 ∷ 83 ∷ 92 ∷ c ∷ r) ≡ Text.gives (page_entry p (c + 128) ∷ []) 4
unfolding Text.piece_of Text.directive_of
piece_shift p c r (l, h) k = rw (le-leb 4 (length (92 ∷ 83 ∷ 92 ∷ c ∷ r)) (omega arith), lt-ltb p 9 k, le-leb 160 (c + 128) (omega arith), le-leb (c + 128) 255 (omega arith)) refl

-- "`\X\HH` one octet"
piece_octet : (g : ℕ) (x r : List ℕ) (c : ℕ) → Iso.One x c → (Text.piece_of g (92 ∷ 88 ∷ 92 ∷ (x ++ r)) ≡ Text.gives (c ∷ []) 5) × (drop 5 (92 ∷ 88 ∷ 92 ∷ (x ++ r)) ≡ r)
unfolding Text.piece_of Text.directive_of
piece_octet g _ r _ (Iso.one {a = a} {b = b} ha hb) = (rw (hex_is a ha, hex_is b hb) refl, refl)

-- a byte that stands for itself is no backslash
basic_other : (b : ℕ) → Iso.Basic b → b ≡ 92 → ⊥
basic_other b (Iso.to_ampersand h) e = omega (arith, h)
basic_other b (Iso.to_bracket h) e = omega (arith, h)
basic_other b (Iso.to_tilde h) e = omega (arith, h)

-- what stands between the apostrophes of a string of ISO has ISO's text, from every page on
pub iso_on : {p : ℕ} {s cs : List ℕ} → Iso.Iso p s cs → Text.text_on (known p) s ≡ cs
unfolding Text.text_on Text.text_from
iso_on Iso.Iso.ends = refl
iso_on {p} (Iso.Iso.basic {b = b} {r = r} {cs = cs} h i) = piece_then (known p) (known p) (b ∷ r) r (b ∷ []) cs 1 (omega arith) (piece_basic (known p) b r h) (plain_stays (known p) (b ∷ r) (basic_other b h)) (omega arith) refl (iso_on i)
iso_on {p} (Iso.Iso.high_codepoint {c = c} {x = x} {r = r} {cs = cs} h e i) =
    let (k, m, n) = piece_high (known p) c x r h e in
    let l : 0 < length (x ++ r) = omega (arith, length-append x r, k) in
    piece_then (known p) (known p) (x ++ r) r (c ∷ []) cs (length x) l m n k (drop-append_seam x r) (iso_on i)
iso_on {p} (Iso.Iso.apostrophe {r = r} {cs = cs} i) = piece_then (known p) (known p) (39 ∷ 39 ∷ r) r (39 ∷ []) cs 2 (omega arith) (piece_quote (known p) r) (plain_stays (known p) (39 ∷ 39 ∷ r) (λ e. omega arith)) (omega arith) refl (iso_on i)
iso_on {p} (Iso.Iso.reverse_solidus {r = r} {cs = cs} i) = piece_then (known p) (known p) (92 ∷ 92 ∷ r) r (92 ∷ []) cs 2 (omega arith) (piece_backslash (known p) r) (slash_stays (known p) 92 r refl) (omega arith) refl (iso_on i)
iso_on {p} (Iso.Iso.page {c = c} {r = r} {cs = cs} h l n i) = piece_then (known p) (known p) (92 ∷ 83 ∷ 92 ∷ c ∷ r) r (page_entry p (c + 128) ∷ []) cs 4 (omega arith) (piece_shift p c r h l) (slash_stays (known p) 83 (92 ∷ c ∷ r) refl) (omega arith) refl (iso_on i)
iso_on {p} (Iso.Iso.alphabet {a = a} {r = r} {cs = cs} h i) = piece_then (known p) (known (a - 65)) (92 ∷ 80 ∷ a ∷ 92 ∷ r) r [] cs 4 (omega arith) (piece_page (known p) a r) (alphabet_names (known p) a r h) (omega arith) refl (iso_on i)
iso_on {p} (Iso.Iso.extended2 {g = g} {r = r} {cs = cs} {ds = ds} t i) =
    piece_then (known p) (known p) (92 ∷ 88 ∷ 50 ∷ 92 ∷ (g ++ (Iso.end_extended ++ r))) r cs ds (4 + (length g + 4)) (omega arith) (piece_two (known p) g r cs (twos_groups r t)) (slash_stays (known p) 88 (50 ∷ 92 ∷ (g ++ (Iso.end_extended ++ r))) refl) (omega arith) (sym (drop-drop (length g + 4) 4 (92 ∷ 88 ∷ 50 ∷ 92 ∷ (g ++ (Iso.end_extended ++ r)))) ∙ drop_groups g r) (iso_on i)
iso_on {p} (Iso.Iso.extended4 {g = g} {r = r} {cs = cs} {ds = ds} t i) =
    piece_then (known p) (known p) (92 ∷ 88 ∷ 52 ∷ 92 ∷ (g ++ (Iso.end_extended ++ r))) r cs ds (4 + (length g + 4)) (omega arith) (piece_four (known p) g r cs (fours_groups r t)) (slash_stays (known p) 88 (52 ∷ 92 ∷ (g ++ (Iso.end_extended ++ r))) refl) (omega arith) (sym (drop-drop (length g + 4) 4 (92 ∷ 88 ∷ 52 ∷ 92 ∷ (g ++ (Iso.end_extended ++ r)))) ∙ drop_groups g r) (iso_on i)
iso_on {p} (Iso.Iso.arbitrary {x = x} {r = r} {cs = cs} {c = c} o i) =
    let k = piece_octet (known p) x r c o in
    piece_then (known p) (known p) (92 ∷ 88 ∷ 92 ∷ (x ++ r)) r (c ∷ []) cs 5 (omega arith) k.0 (slash_stays (known p) 88 (92 ∷ (x ++ r)) refl) (omega arith) k.1 (iso_on i)

-- what stands between the apostrophes of a string of ISO has ISO's text
pub iso_text : {s cs : List ℕ} → Iso.Iso 0 s cs → Text.text_of s ≡ cs
unfolding Text.text_of
iso_text i = iso_on i

-- document 01's example 7: `\X2\00C40042\X0\` stands for U+00C4 and B
pub seven : Iso.Iso 0 (92 ∷ 88 ∷ 50 ∷ 92 ∷ 48 ∷ 48 ∷ 67 ∷ 52 ∷ 48 ∷ 48 ∷ 52 ∷ 50 ∷ 92 ∷ 88 ∷ 48 ∷ 92 ∷ []) (196 ∷ 66 ∷ [])
seven =
    Iso.Iso.extended2
    {g = 48 ∷ 48 ∷ 67 ∷ 52 ∷ 48 ∷ 48 ∷ 52 ∷ 50 ∷ []}
    {r = []}
    (Iso.Twos.next
    {x = 48 ∷ 48 ∷ 67 ∷ 52 ∷ []}
    {r = 48 ∷ 48 ∷ 52 ∷ 50 ∷ []}
    (Iso.two (Iso.one (Iso.digit {b = 48} (omega arith, omega arith)) (Iso.digit {b = 48} (omega arith, omega arith))) (Iso.one (Iso.letter {b = 67} (omega arith, omega arith)) (Iso.digit {b = 52} (omega arith, omega arith))))
    (Iso.below {c = 196} (omega arith, omega arith))
    (Iso.Twos.last
    (Iso.two (Iso.one (Iso.digit {b = 48} (omega arith, omega arith)) (Iso.digit {b = 48} (omega arith, omega arith))) (Iso.one (Iso.digit {b = 52} (omega arith, omega arith)) (Iso.digit {b = 50} (omega arith, omega arith))))
    (Iso.below {c = 66} (omega arith, omega arith))))
    Iso.Iso.ends

-- `\PE\\S\P` stands for U+0430, of ISO 8859-5
pub cyrillic_a : Iso.Iso 0 (92 ∷ 80 ∷ 69 ∷ 92 ∷ 92 ∷ 83 ∷ 92 ∷ 80 ∷ []) (0x0430 ∷ [])
unfolding page_entry pages cyrillic
cyrillic_a = Iso.Iso.alphabet (Iso.capital {b = 69} (omega arith, omega arith)) (Iso.Iso.page {p = 4} {c = 80} (omega arith, omega arith) (omega arith) (λ e. omega arith) Iso.Iso.ends)
