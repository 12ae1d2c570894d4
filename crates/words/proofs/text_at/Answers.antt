use native.Mathlib.Omega.{arith}
use mathlib.Core.Path.{◌≡◌, ◌∙◌, sym}
use mathlib.Core.Bool.{true}
use Prim.Native.Nat.{◌-◌}
use lib.ListN.{take, drop}
use Rattle.scalars.specs.Scalars.{is_unset}
use Rattle.words.specs.Words.{is_string}
use Rattle.words.specs.Laws.{text_unset, text_wrong, text_read, string_two, part_length}
use Rattle.std.proofs.Common.{Some, None}
use Rattle.strings.specs.declared.Decoded.TheVariants.{Plain, Written}
use Rattle.words.proofs.text_at.Goals as goal

pub returns-then-eq : goal.returns-then-eq
unfolding is_unset
returns-then-eq c =
    let a = c.args in
    let u = rw c.as_slice.ensures at c.eq.ensures in
    let q = text_unset a.file.now a.out.now a.w (sym u ∙ c.if-eq.true) in record { result_value = q.0; out_after = q.1 }

pub returns-then-not-is_string : goal.returns-then-not-is_string
unfolding is_unset
returns-then-not-is_string c =
    let a = c.args in
    let u = rw c.as_slice.ensures at c.eq.ensures in
    let q = text_wrong a.file.now a.out.now a.w (sym u ∙ c.if-eq.false) (sym c.is_string.ensures ∙ c.if-not-is_string.true) in record { result_value = q.0; out_after = q.1 }

pub overflow_sub-stop : goal.overflow_sub-stop
overflow_sub-stop c =
    let a = c.args in
    let h : is_string (take (a.w.stop - a.w.start) (drop a.w.start a.file.now)) ≡ true = sym c.is_string.ensures ∙ c.if-not-is_string.false in
    let k = string_two (take (a.w.stop - a.w.start) (drop a.w.start a.file.now)) h in
    let l = part_length a.file.now a.w.start a.w.stop (omega arith) (omega arith) in
    omega arith

pub slice_bounds-decode_string-count : goal.slice_bounds-decode_string-count
slice_bounds-decode_string-count c =
    let a = c.args in
    let h : is_string (take (a.w.stop - a.w.start) (drop a.w.start a.file.now)) ≡ true = sym c.is_string.ensures ∙ c.if-not-is_string.false in
    let k = string_two (take (a.w.stop - a.w.start) (drop a.w.start a.file.now)) h in
    let l = part_length a.file.now a.w.start a.w.stop (omega arith) (omega arith) in
    omega arith

pub slice_bounds-decode_string-start : goal.slice_bounds-decode_string-start
slice_bounds-decode_string-start c =
    let a = c.args in
    let h : is_string (take (a.w.stop - a.w.start) (drop a.w.start a.file.now)) ≡ true = sym c.is_string.ensures ∙ c.if-not-is_string.false in
    let k = string_two (take (a.w.stop - a.w.start) (drop a.w.start a.file.now)) h in
    let l = part_length a.file.now a.w.start a.w.stop (omega arith) (omega arith) in
    omega arith

pub overflow_sub-result : goal.overflow_sub-result
overflow_sub-result c =
    let a = c.args in
    let h : is_string (take (a.w.stop - a.w.start) (drop a.w.start a.file.now)) ≡ true = sym c.is_string.ensures ∙ c.if-not-is_string.false in
    let k = string_two (take (a.w.stop - a.w.start) (drop a.w.start a.file.now)) h in
    let l = part_length a.file.now a.w.start a.w.stop (omega arith) (omega arith) in
    omega arith

pub returns-in-Some-Plain : goal.returns-in-Some-Plain
unfolding is_unset
returns-in-Some-Plain c =
    let a = c.args in
    let u = rw c.as_slice.ensures at c.eq.ensures in
    let q = text_read a.file.now a.out.now a.w (sym u ∙ c.if-eq.false) (Some Plain) c.decode_string.new.out (sym c.is_string.ensures ∙ c.if-not-is_string.false) (rw c.in-Some-Plain.field-0-is at c.in-Some-Plain.ensures.value) c.in-Some-Plain.ensures.out_after in record { result_value = q.0; out_after = q.1 }

pub returns-in-Some-Written : goal.returns-in-Some-Written
unfolding is_unset
returns-in-Some-Written c =
    let a = c.args in
    let u = rw c.as_slice.ensures at c.eq.ensures in
    let q = text_read a.file.now a.out.now a.w (sym u ∙ c.if-eq.false) (Some (Written c.in-Some-Written.n)) c.decode_string.new.out (sym c.is_string.ensures ∙ c.if-not-is_string.false) (rw c.in-Some-Written.field-0-is at c.in-Some-Written.ensures.value) c.in-Some-Written.ensures.out_after in record { result_value = q.0; out_after = q.1 }

pub returns-in-None : goal.returns-in-None
unfolding is_unset
returns-in-None c =
    let a = c.args in
    let u = rw c.as_slice.ensures at c.eq.ensures in
    let q = text_read a.file.now a.out.now a.w (sym u ∙ c.if-eq.false) (None) c.decode_string.new.out (sym c.is_string.ensures ∙ c.if-not-is_string.false) c.in-None.ensures.value c.in-None.ensures.out_after in record { result_value = q.0; out_after = q.1 }
