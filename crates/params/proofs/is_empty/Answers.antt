use Rattle.params.specs.ReaderLaws.{in_true, empty_told}
use Rattle.params.specs.Skips.{empty_of}
use lib.ListN.{length}
use lib.Seq.{length-take-le}
use mathlib.Core.Path.{refl, ◌∙◌, sym}
use native.Mathlib.Omega.{arith}
use Rattle.params.proofs.is_empty.Goals as goal

pub returns-then-not-in_file : goal.returns-then-not-in_file
unfolding empty_of
returns-then-not-in_file c = rw (← c.in_file.ensures, c.if-not-in_file.true) refl

pub slice_bounds-past_trivia-end : goal.slice_bounds-past_trivia-end
slice_bounds-past_trivia-end c = let h = in_true _ _ _ (sym c.in_file.ensures ∙ c.if-not-in_file.false) in
    sym (length-take-le c.args.at.now.end c.args.file.now h.1)

pub past_trivia-start-requires : goal.past_trivia-start-requires
past_trivia-start-requires c = let h = in_true (length c.args.file.now) c.args.at.now.place c.args.at.now.end (sym c.in_file.ensures ∙ c.if-not-in_file.false) in
    omega (arith, h.0, length-take-le c.args.at.now.end c.args.file.now h.1)

pub returns : goal.returns
returns c = let k = sym c.in_file.ensures ∙ c.if-not-in_file.false in
    let h = in_true (length c.args.file.now) c.args.at.now.place c.args.at.now.end k in
    empty_told c.args.file.now c.args.at.now.place c.args.at.now.end k c.past_trivia-start.result c.past_trivia-start.ensures.part_value
    (omega (arith, c.past_trivia-start.ensures.lower_bound.1, length-take-le c.args.at.now.end c.args.file.now h.1))
