-- "that two allowed answers coincide is proved": what the argument reader tells is one answer of the code and one place of the reader,
-- and a parameter's end lies at one place. Assumes nothing.
use Rattle.std.specs.Prelude.{ℕ, ◌≤◌, min, ◌≡◌, refl, List, Result, Ok, Err, length, drop}
use Rattle.std.proofs.Common.{sym, ◌∙◌, ap, arith, length-drop}
use Rattle.common.specs.Compare.{clash}
use Rattle.error.specs.Only.{result_only, fault_of, fault_of_told}
use Rattle.error.specs.Refusal.{Told, good, bad}
use Rattle.error.specs.declared.Fault.{Fault}
use Rattle.params.specs.ParameterEnd.{cut_of}
use Rattle.params.specs.Answer.{Read, told_read, told_read_by, ended_at, EndedIn}
use Rattle.params.specs.declared.State.{State}
use Rattle.params.specs.declared.Cut.{Cut}

-- the reader that an answer leaves, by its place and end
state_of : {A : Type 0} → Read A → State
state_of r = record { place = r.place; end = r.end }

-- each reader has one answer, and leaves one reader: two of each that tell the same are the same
pub read_only : {A : Type 0} (a b : Result A Fault) (s t : State) → told_read a s ≡ told_read b t → (a ≡ b) × (s ≡ t)
unfolding state_of
read_only {A} a b s t e = (result_only a b (ap (λ (r : Read A). r.answer) e), ap state_of e)

-- where the answer is a value, it is had back by g from what f tells of it
abbrev pub HeldBack : {A B : Type 0} → (A → B) → (B → A) → Result A Fault → Type 0
HeldBack f g (Ok a) = g (f a) ≡ a
HeldBack f g (Err q) = Unit {0}

-- the code's answer, its value had back by g
value_back : {A B : Type 0} → (B → A) → Told B → Result A Fault
value_back g (good b) = Ok (g b)
value_back g (bad q) = Err (fault_of q)

-- the answer and the reader that tell this, by g
read_back : {A B : Type 0} → (B → A) → Read B → Result A Fault × State
read_back g r = (value_back g r.answer, state_of r)

-- what is told by f gives back, by g, the code's answer and the reader
read_told : {A B : Type 0} (f : A → B) (g : B → A) (a : Result A Fault) (t : State) → HeldBack f g a → read_back g (told_read_by f a t) ≡ (a, t)
unfolding read_back state_of value_back
read_told f g (Ok a) t h = ap (λ x. (Ok x, t)) h
read_told f g (Err q) t h = ap (λ x. (Err x, t)) (fault_of_told q)

-- each reader whose value is told by f has one answer, and leaves one reader, where g gives the value back
pub read_by_only : {A B : Type 0} (f : A → B) (g : B → A) (a b : Result A Fault) (s t : State) → HeldBack f g a → HeldBack f g b
    → told_read_by f a s ≡ told_read_by f b t → (a ≡ b) × (s ≡ t)
read_by_only f g a b s t h k e =
    let p = sym (read_told f g a s h) ∙ ap (read_back g) e ∙ read_told f g b t k in
    (ap (λ x. x.0) p, ap (λ x. x.1) p)

-- a rest of the bytes begins at one place
rest_one : (xs : List ℕ) (i j : ℕ) → i ≤ length xs → j ≤ length xs → drop i xs ≡ drop j xs → i ≡ j
rest_one xs i j h k e = omega (arith, length-drop i xs, length-drop j xs, ap length e)

-- `param_end` has one answer: two that say the same of the parameter's end are one
pub ended_only : (xs : List ℕ) (start : ℕ) (a b : Result Cut ℕ) → ended_at xs a ≡ cut_of (drop start xs) → ended_at xs b ≡ cut_of (drop start xs)
    → EndedIn (min start (length xs)) (length xs) a → EndedIn (min start (length xs)) (length xs) b → a ≡ b
ended_only xs start a b e f h k = go a b (e ∙ sym f) h k
  where
    go : (a b : Result Cut ℕ) → ended_at xs a ≡ ended_at xs b → EndedIn (min start (length xs)) (length xs) a → EndedIn (min start (length xs)) (length xs) b → a ≡ b
    go (Ok r) (Ok u) e (l, m, n) (f, v, w) =
        let c : drop r.stop xs ≡ drop u.stop xs = cc in
        let d : drop r.bound xs ≡ drop u.bound xs = cc in
        let x = rest_one xs r.stop u.stop (omega arith) (omega arith) c in
        let y = rest_one xs r.bound u.bound n w d in
        ap (λ (i : ℕ). Ok (record { stop = i; bound = r.bound })) x ∙ ap (λ (i : ℕ). Ok (record { stop = u.stop; bound = i })) y
    go (Ok r) (Err q) e h k = clash (cc)
    go (Err q) (Ok r) e h k = clash (cc)
    go (Err p) (Err q) e (l, m) (u, v) = let c : drop p xs ≡ drop q xs = cc in ap Err (rest_one xs p q m v c)
