use Rattle.params.specs.Seek.{search_from, step_nested, step_opening, step_closing, step_blank, step_rest, on_byte}
use Prim.Native.Nat.{◌+◌}
use mathlib.Core.Path.{◌∙◌, sym, ap}
use native.Mathlib.Omega.{arith}
use Rattle.params.proofs.past_token.Goals as goal

pub returns-then-is_space : goal.returns-then-is_space
returns-then-is_space c = let k = c.requires.standing in
    let s = c.args.s in
    rw c.past.ensures (step_blank c.args.part.now s.at s.solid s.depth k.place (sym c.is_space.ensures ∙ c.if-is_space.true), omega arith, omega (arith, k.place), omega arith, omega (arith, k.reach), omega arith)

pub returns-then-b-eq44 : goal.returns-then-b-eq44
returns-then-b-eq44 c = let s = c.args.s in
    let b = c.args.part.now in
    let k = c.requires.standing in
    let e = c.if-b-eq44.true in
    let f = s.depth in
    rw c.to-next.ensures (on_byte b s.at s.solid s.depth f k (step_nested b s.at s.solid s.depth k.place e (c.requires.uncut e)) (omega arith))

pub returns-then-b-eq40 : goal.returns-then-b-eq40
returns-then-b-eq40 c = let s = c.args.s in
    let b = c.args.part.now in
    let k = c.requires.standing in
    rw c.to-next.ensures (on_byte b s.at s.solid s.depth (s.depth + 1) k (step_opening b s.at s.solid s.depth k.place c.if-b-eq40.true) (omega arith))

pub returns-then-b-eq41 : goal.returns-then-b-eq41
returns-then-b-eq41 c = let s = c.args.s in
    let b = c.args.part.now in
    let k = c.requires.standing in
    let e = c.saturating_sub-depth in
    rw c.to-next.ensures (on_byte b s.at s.solid s.depth e.result k (step_closing b s.at s.solid s.depth k.place c.if-b-eq41.true ∙ ap (search_from b (s.at + 1) (s.at + 1)) (sym e.ensures)) (omega (arith, e.ensures)))

pub returns : goal.returns
returns c = let s = c.args.s in
    let b = c.args.part.now in
    let k = c.requires.standing in
    let f = s.depth in
    rw c.to-next.ensures (on_byte b s.at s.solid f f k (step_rest b s.at s.solid f k.place c.requires.uncut c.if-b-eq40.false c.if-b-eq41.false c.if-b-eq39.false c.if-b-eq34.false c.if-b-eq47.false (sym c.is_space.ensures ∙ c.if-is_space.false)) (omega arith))
