use Rattle.std.proofs.Common.{◌∙◌, ◌≡◌, ap, rules, Some, None, option_map}
use Rattle.prefixes.specs.Length.{length_factor_of}
use Rattle.params.specs.Answer.{span}
use Rattle.factors.specs.Laws.{length_prefix}
use Rattle.factors.proofs.si_length.Goals as goal

pub returns-in_err-prefix : goal.returns-in_err-prefix
returns-in_err-prefix c =
    let e : c.from_residual.result ≡ None = search rules in
    rw e (ap (option_map length_factor_of) c.in_err-prefix.ensures ∙ length_prefix c.args.file.now (span c.args.args.start c.args.args.end))

pub returns : goal.returns
returns c =
    ap Some c.length_factor.ensures
    ∙ ap (option_map length_factor_of) c.in_ok-prefix.ensures
    ∙ length_prefix c.args.file.now (span c.args.args.start c.args.args.end)
