-- "that two allowed answers coincide is proved": what a reader of reals tells is one answer of the code, as params/specs/Only.antt has it
-- of the others. A float is told by its bits, and an f64's bits give it back; every NaN is one. Assumes nothing.
use Rattle.std.specs.Prelude.{ℕ, ◌-◌, ◌≤◌, ◌≡◌, refl, List, T, Float, Option, Some, None, Result, Ok, Err, length, take, drop}
use Rattle.std.specs.Option.{option_map}
use Rattle.std.proofs.Common.{◌∙◌, ap, arith, length-drop, length-take-le}
use Rattle.std.specs.Float.{binary64}
use Rattle.std.specs.Float.Ieee.{to_bits, of_bits, fits}
use Rattle.std.specs.Float.Ieee.Bits.{of_bits-to_bits}
use Rattle.error.specs.declared.Fault.{Fault}
use Rattle.lex.specs.Byte.{white}
use Rattle.record.specs.Text.{past}
use Rattle.record.specs.Word.{trimmed}
use Rattle.params.specs.Answer.{Span}
use Rattle.params.specs.Only.{HeldBack, read_by_only}
use Rattle.params.specs.declared.State.{State}
use Rattle.scalars.specs.Answer.{told_read_real, told_read_opt_real}

-- ---- reals
-- the float of a reader's answer to a real is an f64, as every value of the type is
abbrev pub RealFits : Result Float Fault → Type 0
RealFits (Ok x) = T (fits binary64 x)
RealFits (Err f) = Unit {0}

-- `next_f64`, `next_measure_f64`, `next_real` and `next_measure`: two answers that tell the same are the same, and so are the readers
pub next_real_only : (a b : Result Float Fault) (s t : State) → RealFits a → RealFits b → told_read_real a s ≡ told_read_real b t → (a ≡ b) × (s ≡ t)
next_real_only a b s t h k e = read_by_only (to_bits binary64) (of_bits binary64) a b s t (held a h) (held b k) e
  where
    held : (a : Result Float Fault) → RealFits a → HeldBack (to_bits binary64) (of_bits binary64) a
    held (Ok x) h = of_bits-to_bits binary64 x h
    held (Err f) h = tt

-- the float of a reader's answer to a real that may be unset is an f64, as every value of the type is
abbrev pub OptRealFits : Result (Option Float) Fault → Type 0
OptRealFits (Ok (Some x)) = T (fits binary64 x)
OptRealFits (Ok None) = Unit {0}
OptRealFits (Err f) = Unit {0}

-- `next_opt_f64` and `next_opt_real`: two answers that tell the same are the same, and so are the readers
pub next_opt_real_only : (a b : Result (Option Float) Fault) (s t : State) → OptRealFits a → OptRealFits b → told_read_opt_real a s ≡ told_read_opt_real b t
    → (a ≡ b) × (s ≡ t)
next_opt_real_only a b s t h k e = read_by_only (option_map (to_bits binary64)) (option_map (of_bits binary64)) a b s t (held a h) (held b k) e
  where
    held : (a : Result (Option Float) Fault) → OptRealFits a → HeldBack (option_map (to_bits binary64)) (option_map (of_bits binary64)) a
    held (Ok (Some x)) h = ap Some (of_bits-to_bits binary64 x h)
    held (Ok None) h = refl
    held (Err f) h = tt

-- ---- what is left of a text without the whitespace at its ends
-- what `trim` promises of a part of the text b
pub record TrimmedAt (b : List ℕ) (r : Span) : Type 0 where
  pub starts : drop r.start b ≡ past white b
  pub text : take (r.stop - r.start) (drop r.start b) ≡ trimmed b
  pub ordered : r.start ≤ r.stop
  pub within : r.stop ≤ length b

-- `trim`: two parts that it may give are the same
pub trim_only : (b : List ℕ) (x y : Span) → TrimmedAt b x → TrimmedAt b y → x ≡ y
trim_only b x y h k =
    let a = h.ordered in
    let c = h.within in
    let d = k.ordered in
    let f = k.within in
    let e : x.start ≡ y.start = omega (arith, length-drop x.start b, length-drop y.start b, ap length h.starts, ap length k.starts) in
    let m : length (take (x.stop - x.start) (drop x.start b)) ≡ x.stop - x.start = length-take-le (x.stop - x.start) (drop x.start b) (omega (arith, length-drop x.start b)) in
    let n : length (take (y.stop - y.start) (drop y.start b)) ≡ y.stop - y.start = length-take-le (y.stop - y.start) (drop y.start b) (omega (arith, length-drop y.start b)) in
    let g : x.stop ≡ y.stop = omega (arith, m, n, ap length h.text, ap length k.text) in
    ap (λ (i : ℕ). record { start = i; stop = x.stop }) e ∙ ap (λ (i : ℕ). record { start = y.start; stop = i }) g
