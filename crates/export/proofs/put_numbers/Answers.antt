use Rattle.std.proofs.Common.{ap, ◌++◌, drop, ◌∙◌, sym, arith, zero-add, le-leb, length}
use Rattle.std.proofs.lemmas.List.Edits.{sets-eq}
use Rattle.export.proofs.put_numbers.Goals as goal

pub returns : goal.returns
returns c =
    let xs = c.args.xs.now in
    let out = c.args.out.now in
    rw (c.copy_from_slice.ensures.after, le-leb 3 (length out) c.if-out-lt3.false)
    (sym (sets-eq xs out 0 (omega arith) ∙ ap (λ n. xs ++ drop n out) (zero-add (length xs))))
