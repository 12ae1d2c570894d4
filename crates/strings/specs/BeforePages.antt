-- Document 01's rule as it was before #109, when a page was named and then forgotten; and that a string in which page A stays in force keeps
-- its text. Assumes nothing.
use Rattle.std.specs.Prelude.{ℕ, zero, suc, ◌+◌, ◌≤◌, ◌<◌, ◌≡◌, refl, Bool, true, false, ◌&&◌, List, [], ◌∷◌, ◌++◌, leb, length, take, drop}
use Rattle.std.proofs.Common.{sym, ◌∙◌, ap, subst, append_assoc, arith, length-drop, take-append-drop}
use Rattle.common.specs.Tests.{both}
use Rattle.utf8.specs.Utf8.{byte_at}
use Rattle.pages.specs.Pages.{page_of}
use Rattle.pages.specs.Rules.{page_a, Selects}
use Rattle.pages.specs.Right as Page
use Rattle.strings.specs.Text
use Rattle.strings.specs.Steps.{piece_fits, page_stays, page_named}
use Rattle.strings.specs.Rules
use Rattle.strings.specs.RulesRight.{page_bytes, piece_is, piece_only, piece_reads_some, text_is_lem, text_only}

-- a string's bytes and its characters by document 01 alone: each piece is read on page A, whatever page a `\P?\` before it named. A piece that is
-- no `\S\` is the same on every page (page_blind)
pub data Forgetful : List ℕ → List ℕ → Type 0 where
  -- a string without bytes has no characters
  none : Forgetful [] []
  -- a piece, and the text of the bytes after it
  more : {h k : ℕ} {s cs ds : List ℕ} → Rules.PieceReads page_a s cs k h → Forgetful (drop k s) ds → Forgetful s (cs ++ ds)

-- whether a `\S\` and a byte stand at the start
abbrev shifts : List ℕ → Bool
shifts s = Text.is s 0 92 && (Text.is s 1 83 && (Text.is s 2 92 && leb 4 (length s)))

-- a piece that is no `\S\` is the same on every page
pub page_blind : (g h : ℕ) (s : List ℕ) → shifts s ≡ false → Text.piece_of g s ≡ Text.piece_of h s
unfolding Text.piece_of Text.directive_of
page_blind g h s n = go (Text.is s 0 92) refl
  where
    go : (t : Bool) → Text.is s 0 92 ≡ t → Text.piece_of g s ≡ Text.piece_of h s
    go true e = let m : Text.is s 1 83 && (Text.is s 2 92 && leb 4 (length s)) ≡ false = sym (rw e refl) ∙ n in rw (e, m) refl
    go false e = rw e refl

-- on page A "`\S\c` code c+128", as document 01 has it
pub forgetful_shift : {c h k : ℕ} {r cs : List ℕ} → Rules.PieceReads page_a (92 ∷ 83 ∷ 92 ∷ c ∷ r) cs k h → (cs ≡ (c + 128) ∷ []) × (k ≡ 4)
forgetful_shift {c} {r = r} d =
    let (p, q, e) = piece_only d in
    let (x, y, z) = piece_only (Rules.directive (Rules.shift {g = page_a} {c = c} {r = r} (Page.code_is page_a (c + 128)))) in
    (p ∙ sym x ∙ ap (λ (n : ℕ). n ∷ []) (Page.code_a (c + 128)), q ∙ sym y)

-- page A is in force at each piece of a string, and after the last: `\PB\` alone is left out, though its text is the same
pub data OnPageA : List ℕ → Type 0 where
  -- a string without bytes
  none : OnPageA []
  -- a piece that leaves page A in force, and those after it
  more : {k : ℕ} {s cs : List ℕ} → Rules.PieceReads page_a s cs k page_a → OnPageA (drop k s) → OnPageA s

-- "Demand 2 departs from the Rust for pages B to I", and where page A stays in force it does not: a text by document 01 alone is the text
pub page_a_kept : {s cs : List ℕ} → Forgetful s cs → OnPageA s → Rules.Text s cs
page_a_kept none a = Rules.none
page_a_kept (more r t) none = let l = piece_reads_some r in absurd (omega arith)
page_a_kept {s} (more {h = h} {k = k} {cs = cs} r t) (more {k = n} q a) =
    let (x, y, z) = piece_only r in
    let (u, v, w) = piece_only q in
    Rules.more (subst (Rules.PieceReads page_a s cs k) (z ∙ sym w) r) (page_a_kept t (subst (λ (m : ℕ). OnPageA (drop m s)) (v ∙ sym y) a))

-- where page A stays in force, the text is one by document 01 alone
pub page_a_kept_back : {s cs : List ℕ} → Rules.Text s cs → OnPageA s → Forgetful s cs
page_a_kept_back t a = back t refl a
  where
    back : {g : ℕ} {s cs : List ℕ} → Rules.TextOn g s cs → g ≡ page_a → OnPageA s → Forgetful s cs
    back Rules.none e a = none
    back (Rules.more r t) e none = let l = piece_reads_some r in absurd (omega arith)
    back {g} {s} (Rules.more {h = h} {k = k} {cs = cs} r t) e (more {k = n} q a) =
        let p : Rules.PieceReads page_a s cs k h = subst (λ (m : ℕ). Rules.PieceReads m s cs k h) e r in
        let (x, y, z) = piece_only p in
        let (u, v, w) = piece_only q in
        more p (back t (z ∙ sym w) (subst (λ (m : ℕ). OnPageA (drop m s)) (v ∙ sym y) a))

-- among the bytes of s stands no `\P?\` that selects another page, whether it is read as a directive or not
abbrev pub Unpaged : List ℕ → Type 0
Unpaged s = (x r : List ℕ) (b p : ℕ) → s ≡ x ++ (92 ∷ 80 ∷ b ∷ 92 ∷ r) → Selects b p → p ≡ page_a

-- the first piece of bytes in which no other page is named leaves page A in force
unpaged_stays : (s : List ℕ) → Unpaged s → Text.page_after page_a s ≡ page_a
unpaged_stays s n = go (Text.is s 0 92 && (Text.is s 1 80 && Text.is s 3 92)) refl
  where
    go : (t : Bool) → Text.is s 0 92 && (Text.is s 1 80 && Text.is s 3 92) ≡ t → Text.page_after page_a s ≡ page_a
    go true e =
        let (o, p) = both (Text.is s 0 92) (Text.is s 1 80 && Text.is s 3 92) e in
        page_named page_a s e ∙ n [] (drop 4 s) (byte_at s 2) (page_of (byte_at s 2)) (page_bytes page_a s o p) (Page.page_is (byte_at s 2))
    go false e = page_stays page_a s e

-- the bytes after a piece of bytes in which no other page is named name none either
unpaged_rest : (s : List ℕ) (k : ℕ) → Unpaged s → Unpaged (drop k s)
unpaged_rest s k n x r b p e h = n (take k s ++ x) r b p (sym (take-append-drop k s) ∙ ap (λ (z : List ℕ). take k s ++ z) e ∙ sym (append_assoc (take k s) x (92 ∷ 80 ∷ b ∷ 92 ∷ r))) h

-- where no other page is named, page A is in force throughout
pub unpaged_on_a : (s : List ℕ) → Unpaged s → OnPageA s
unpaged_on_a s = go (length s) s (omega arith)
  where
    step : (s : List ℕ) → ((t : List ℕ) → length t < length s → Unpaged t → OnPageA t) → Unpaged s → OnPageA s
    step [] ih n = none
    step (b ∷ r) ih n =
        let h : 0 < length (b ∷ r) = omega arith in
        let k = (Text.piece_of page_a (b ∷ r)).used in
        let (l, u) = piece_fits page_a (b ∷ r) h in
        let i : length (drop k (b ∷ r)) < length (b ∷ r) = omega (arith, length-drop k (b ∷ r)) in
        more (subst (Rules.PieceReads page_a (b ∷ r) (Text.piece_of page_a (b ∷ r)).chars k) (unpaged_stays (b ∷ r) n) (piece_is page_a (b ∷ r) h)) (ih (drop k (b ∷ r)) i (unpaged_rest (b ∷ r) k n))

    go : (m : ℕ) (s : List ℕ) → length s ≤ m → Unpaged s → OnPageA s
    go zero s h = step s (λ t l. absurd (omega arith))
    go (suc m) s h = step s (λ t l. go m t (omega arith))

-- where no other page is named, the text that is computed is one by document 01 alone
pub unpaged_back : (s : List ℕ) → Unpaged s → Forgetful s (Text.text_of s)
unpaged_back s n = page_a_kept_back (text_is_lem s) (unpaged_on_a s n)

-- where no other page is named, a text by document 01 alone is the one that is computed
pub unpaged_kept : {s cs : List ℕ} → Forgetful s cs → Unpaged s → cs ≡ Text.text_of s
unpaged_kept {s} t n = text_only (page_a_kept t (unpaged_on_a s n))
