use Rattle.params.specs.Skips.{skips_of}
use Rattle.std.proofs.lemmas.Result.{err_from_is_err_and}
use Prim.Native.Nat.{◌+◌, ◌-◌}
use mathlib.Core.Path.{◌≡◌, refl, ◌∙◌, sym}
use native.Mathlib.Omega.{arith}
use Rattle.params.specs.ReaderLaws.{skip_stops, skip_goes, skip_ends, skips_in}
use Rattle.params.proofs.skip_n.Goals as goal

pub returns-then-not-in_file : goal.returns-then-not-in_file
unfolding skips_of
returns-then-not-in_file c = rw (← c.in_file.ensures, c.if-not-in_file.true) refl

pub returns-in_err-skip : goal.returns-in_err-skip
returns-in_err-skip c = let l = c.loop-i in
    let p = err_from_is_err_and c.from_residual.result c.from_residual.ensures.1 in
    rw (p.1, p.2) (skip_stops (c.args.n - l._i) c.args.file.now l.at.place l.at.end _ _ _ (omega arith) c.in_err-skip.ensures
    ∙ l.invariant ∙ skips_in c.args.n c.args.file.now c.args.at.now.place c.args.at.now.end (sym c.in_file.ensures ∙ c.if-not-in_file.false))

pub loop-i-preserved : goal.loop-i-preserved
loop-i-preserved c = let l = c.loop-i in
    let k : c.args.n - (l._i + 1) ≡ c.args.n - l._i - 1 = omega arith in
    rw k (skip_goes (c.args.n - l._i) c.args.file.now l.at.place l.at.end _ _ (omega arith) c.in_ok-skip.ensures ∙ l.invariant)

pub returns : goal.returns
returns c = let l = c.loop-i in
    skip_ends (c.args.n - l._i) c.args.file.now l.at.place l.at.end (omega arith)
    ∙ l.invariant ∙ skips_in c.args.n c.args.file.now c.args.at.now.place c.args.at.now.end (sym c.in_file.ensures ∙ c.if-not-in_file.false)
