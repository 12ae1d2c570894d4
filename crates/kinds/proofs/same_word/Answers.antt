use Rattle.std.proofs.Common.{rules, ◌≡◌, sym, ◌∙◌, ap, map}
use Rattle.std.specs.Char.{to_ascii_lowercase}
use Rattle.std.proofs.lemmas.Slice.Eq.{bytes_eq-Decides}
use Rattle.record.specs.Byte.{upper}
use Rattle.kinds.specs.Words.{uppers, lowers}
use Rattle.kinds.proofs.same_word.Goals as goal

pub returns : goal.returns
returns c =
    let t = c.args.t.now in
    let w = c.args.w.now in
    let to : map to_ascii_lowercase t ≡ map to_ascii_lowercase w → map upper t ≡ map upper w = λ e. sym (uppers t) ∙ ap (map upper) e ∙ uppers w in
    let back : map upper t ≡ map upper w → map to_ascii_lowercase t ≡ map to_ascii_lowercase w = λ e. sym (lowers t) ∙ ap (map to_ascii_lowercase) e ∙ lowers w in
    search (rules, bytes_eq-Decides)
