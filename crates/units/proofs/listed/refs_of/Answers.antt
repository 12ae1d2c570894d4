use Rattle.std.proofs.Common.{◌∙◌, ap, sym, subst, Option, option_map}
use Rattle.std.proofs.lemmas.Result.{err_from_is_err_and}
use Rattle.error.specs.Refusal.{Told, good}
use Rattle.statement.specs.declared.Range.{Range}
use Rattle.params.specs.Answer.{Span, onward}
use Rattle.factors.specs.Answer.{span_of}
use Rattle.units.specs.Answer.{refs_in}
use Rattle.units.specs.Code.{RefsTo}
use Rattle.units.specs.Laws.{refs_none}
use Rattle.units.proofs.listed.refs_of.Goals as goal

pub returns-in_err-args : goal.returns-in_err-args
returns-in_err-args c =
    let p = err_from_is_err_and c.from_residual.result c.from_residual.ensures.1 in
    rw (p.1, p.2) (ap (onward (refs_in c.args.file.now)) (sym c.in_err-args.ensures))

pub returns-in_default : goal.returns-in_default
returns-in_default c =
    let h = ap (λ (o : Option Range). good (option_map span_of o)) (sym c.in_default.is) ∙ c.in_ok-args.ensures in
    ap (onward (refs_in c.args.file.now)) (sym h) ∙ refs_none c.args.file.now

pub returns : goal.returns
returns c =
    let h = ap (λ (o : Option Range). good (option_map span_of o)) (sym c.in-Some.is) ∙ c.in_ok-args.ensures in
    subst (λ (x : Told (Option Span)). RefsTo c.args.file.now (onward (refs_in c.args.file.now) x) c.refs_at.result) h c.refs_at.ensures
