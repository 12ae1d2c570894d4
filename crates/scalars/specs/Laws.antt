-- What the code's parts promise, put together to the answers of Scalars.antt. Assumes nothing.
use Rattle.std.specs.Prelude.{ℕ, zero, suc, ◌+◌, ◌-◌, ◌≤◌, ◌<◌, ◌≡◌, refl, true, false, List, [], ◌∷◌, ◌++◌, length, take, drop, get_or, Option, Some, None, Err}
use Rattle.std.proofs.Common.{sym, ◌∙◌, arith, length-drop, take-append-drop, take-suc, take-take, drop-drop, get_or-drop, eq-eqb, ne_eqb}
use Rattle.std.proofs.Math.Path.{ap}
use Rattle.std.proofs.Math.Decide.{dec_le}
use Rattle.std.proofs.Math.Seq.{take-nil}
use Rattle.common.specs.Lists.{split, drop_end}
use Rattle.common.specs.Compare.{clash}
use Rattle.lex.specs.Byte.{white}
use Rattle.record.specs.Text.{past, trail}
use Rattle.record.specs.Word.{trimmed}
use Rattle.record.specs.Form.{All, NotLast}
use Rattle.record.specs.FormRight.{trail_only}
use Rattle.record.specs.FormRight.Parts.{last_none}
use Rattle.std.specs.Option.{ok_or}
use Rattle.error.specs.Refusal.{refusal, Told, bad}
use Rattle.error.specs.declared.Fault.TheVariants.{WrongType}
use Rattle.params.specs.Answer.{reading, told_read}
use Rattle.params.specs.declared.State.{State}
use Rattle.reals.specs.Answer.{Answer, read, refused, told_real}
use Rattle.reals.specs.declared.NotRead.{NotRead}
use Rattle.reals.specs.declared.NotRead.TheVariants.{Outside, NotReal}
use Rattle.scalars.specs.Answer.{answered, number_of}
use Rattle.scalars.specs.Scalars.{as_given, unopening, inside, bare, enclosed, kernel_from, kernel_of}

-- the first m bytes of a list from place s on
drop_take : (s m : ℕ) (l : List ℕ) → drop s (take m l) ≡ take (m - s) (drop s l)
drop_take zero m l = let e : m - 0 ≡ m = omega arith in rw e refl
drop_take (suc s) zero l = let e : 0 - suc s ≡ 0 = omega arith in rw e refl
drop_take (suc s) (suc m) [] = sym (take-nil (suc m - suc s))
drop_take (suc s) (suc m) (x ∷ l) = let e : suc m - suc s ≡ m - s = omega arith in rw e (drop_take s m l)

-- a part of a part is a part: from a place in the part back to the place in the whole
pub part_part : (xs : List ℕ) (a m s z : ℕ) → s ≤ z → z ≤ m → take (z - s) (drop s (take m (drop a xs))) ≡ take ((a + z) - (a + s)) (drop (a + s) xs)
part_part xs a m s z h k =
    let e : (a + z) - (a + s) ≡ z - s = omega arith in
    ap (take (z - s)) (drop_take s m (drop a xs)) ∙ take-take (z - s) (m - s) (drop s (drop a xs)) (omega arith)
    ∙ ap (take (z - s)) (drop-drop s a xs) ∙ ap (λ (i : ℕ). take i (drop (a + s) xs)) (sym e)

-- two lists that are the same end in one byte
last_same : (u r : List ℕ) (x c : ℕ) → u ++ (x ∷ []) ≡ r ++ (c ∷ []) → x ≡ c
last_same [] [] x c e = cc
last_same [] (b ∷ []) x c e = clash (cc)
last_same [] (b ∷ d ∷ r) x c e = clash (cc)
last_same (a ∷ []) [] x c e = clash (cc)
last_same (a ∷ d ∷ u) [] x c e = clash (cc)
last_same (a ∷ u) (b ∷ r) x c e = last_same u r x c (cc)

-- where the last of the first n bytes is not white, these do not end in whitespace
last_take : (l : List ℕ) (n : ℕ) → 0 < n → n ≤ length l → white (get_or l (n - 1) 0) ≡ false → NotLast white (take n l)
last_take l n h k w r c e =
    let m : suc (n - 1) ≡ n = omega arith in
    let p : take n l ≡ take (n - 1) l ++ (get_or l (n - 1) 0 ∷ []) = ap (λ (i : ℕ). take i l) (sym m) ∙ take-suc l (n - 1) 0 (omega arith) in
    ap white (sym (last_same (take (n - 1) l) r (get_or l (n - 1) 0) c (sym p ∙ e))) ∙ w

module _ (b : List ℕ) (from e : ℕ) (h : e ≤ length b) (rest : All white (drop e b)) where
  -- the trailing whitespace of a text begins behind its last byte that is not white
  pub trail_stops : from < e → white (get_or b (e - 1) 0) ≡ false → drop e b ≡ trail (drop from b)
  trail_stops k w =
      let i : from + (e - from - 1) ≡ e - 1 = omega arith in
      let j : from + (e - from) ≡ e = omega arith in
      let l : NotLast white (take (e - from) (drop from b)) =
      last_take (drop from b) (e - from) (omega arith) (omega (arith, length-drop from b)) (ap white (get_or-drop from b (e - from - 1) 0 ∙ ap (λ (n : ℕ). get_or b n 0) i) ∙ w) in
      let d : drop (e - from) (drop from b) ≡ drop e b = drop-drop (e - from) from b ∙ ap (λ (n : ℕ). drop n b) j in
      sym (trail_only (take (e - from) (drop from b)) (drop e b) l rest)
      ∙ ap trail (ap (λ (r : List ℕ). take (e - from) (drop from b) ++ r) (sym d) ∙ take-append-drop (e - from) (drop from b))

  -- where nothing but whitespace is left, all of it is the trailing whitespace
  pub trail_none : e ≡ from → drop e b ≡ trail (drop from b)
  trail_none k = sym (trail_only [] (drop e b) (last_none white) rest) ∙ ap (λ (n : ℕ). trail (drop n b)) k

  -- where a white byte stands before whitespace, it is whitespace from there on
  pub trail_more : 0 < e → white (get_or b (e - 1) 0) ≡ true → All white (drop (e - 1) b)
  trail_more k w = let n : e - 1 + 1 ≡ e = omega arith in rw (split b (e - 1) (omega arith), n) (w, rest)

module _ (t : List ℕ) (o : ℕ) (found : drop o t ≡ past unopening t) (within : o ≤ length t) where
  -- the part in parentheses is told by the rest from the first `(`
  kernel_at : kernel_from (drop o t) ≡ kernel_of t
  unfolding kernel_of
  kernel_at = ap kernel_from found

  -- where there is no room for a `(` and a `)` there is no part in parentheses
  pub kernel_short : length t - o < 2 → kernel_of t ≡ bare
  kernel_short h = sym kernel_at ∙ go (dec_le (length t) o)
    where
      go : Dec (length t ≤ o) → kernel_from (drop o t) ≡ bare
      go (yes k) = rw (drop_end t o k) refl
      go (no k) = rw (split t o (omega arith), drop_end t (o + 1) (omega arith)) refl

  -- the part in parentheses is told by what follows the first `(`
  follows : o < length t → enclosed (drop (o + 1) t) ≡ kernel_of t
  follows h = ap kernel_from (sym (split t o h)) ∙ kernel_at

  -- the last byte of what follows the first `(` is the text's last
  last_at : o + 1 < length t → get_or (drop (o + 1) t) (length (drop (o + 1) t) - 1) 0 ≡ get_or t (length t - 1) 0
  last_at h =
      let i : o + 1 + (length (drop (o + 1) t) - 1) ≡ length t - 1 = omega (arith, length-drop (o + 1) t) in
      get_or-drop (o + 1) t (length (drop (o + 1) t) - 1) 0 ∙ ap (λ (k : ℕ). get_or t k 0) i

  -- where no `)` stands at the end there is no part in parentheses
  pub kernel_other : o + 1 < length t → (get_or t (length t - 1) 0 ≡ 41 → ⊥) → kernel_of t ≡ bare
  kernel_other h k = sym (follows (omega arith)) ∙ rw (last_at h, ne_eqb _ 41 k) refl

  -- where a `)` stands at the end, the part in parentheses is what stands before it, trimmed
  pub kernel_part : o + 1 < length t → get_or t (length t - 1) 0 ≡ 41 → kernel_of t ≡ inside (trimmed (take (length t - 1 - (o + 1)) (drop (o + 1) t)))
  kernel_part h k =
      let i : length (drop (o + 1) t) - 1 ≡ length t - 1 - (o + 1) = omega (arith, length-drop (o + 1) t) in
      sym (follows (omega arith)) ∙ rw (last_at h, eq-eqb _ 41 k, i) refl

-- a real that is not read is refused as its number says
pub real_refused : (p : ℕ) (w : NotRead) → ◌≡◌ {A = Told ℕ} (bad (refusal (number_of w) 0 p)) (answered p (told_real (Err w)))
real_refused p Outside = refl
real_refused p NotReal = refl

-- a real that may be unset and is not read is refused as its number says
pub opt_real_refused : (p : ℕ) (w : NotRead) → ◌≡◌ {A = Told (Option ℕ)} (bad (refusal (number_of w) 0 p)) (answered p (as_given (told_real (Err w))))
opt_real_refused p Outside = refl
opt_real_refused p NotReal = refl

-- where what may be read is read or 12, so is the reader's answer: at the parameter's start
pub read_or_wrong : {A : Type 0} (o : Option A) (p : ℕ) (t : State) (k : Option A → Answer A) → ((x : A) → k (Some x) ≡ read x) → k None ≡ refused 12
    → told_read (ok_or o (WrongType p)) t ≡ reading (answered p (k o)) t.place t.end
read_or_wrong (Some x) p t k h e = ap (λ v. reading (answered p v) t.place t.end) (sym (h x))
read_or_wrong None p t k h e = ap (λ v. reading (answered p v) t.place t.end) (sym e)
