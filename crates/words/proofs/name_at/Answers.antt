use native.Mathlib.Omega.{arith}
use mathlib.Core.Path.{refl, sym, ◌∙◌, ◌≡◌}
use mathlib.Core.Bool.{true, false}
use Prim.Native.Nat.{◌-◌}
use lib.ListN.{take, drop}
use Rattle.words.specs.Words.{is_name}
use Rattle.words.specs.Laws.{name_two, part_length}
use Rattle.words.proofs.name_at.Goals as goal

pub overflow_sub-result : goal.overflow_sub-result
overflow_sub-result c =
    let a = c.args in
    let h : is_name (take (a.w.stop - a.w.start) (drop a.w.start a.file.now)) ≡ true = sym c.is_name.ensures ∙ c.if-is_name.true in
    let k = name_two (take (a.w.stop - a.w.start) (drop a.w.start a.file.now)) h in
    let l = part_length a.file.now a.w.start a.w.stop (omega arith) (omega arith) in
    omega arith

pub returns-then-is_name : goal.returns-then-is_name
returns-then-is_name c =
    let a = c.args in
    let h : is_name (take (a.w.stop - a.w.start) (drop a.w.start a.file.now)) ≡ true = sym c.is_name.ensures ∙ c.if-is_name.true in
    rw h refl

pub returns : goal.returns
returns c =
    let a = c.args in
    let h : is_name (take (a.w.stop - a.w.start) (drop a.w.start a.file.now)) ≡ false = sym c.is_name.ensures ∙ c.if-is_name.false in
    rw h refl
