use Rattle.std.proofs.Common.{List, ℕ, [], ◌∷◌, ◌++◌, arith}
use Rattle.io.specs.Digits.{last_digits}
use Rattle.common.specs.Bytes.{bytes}
use Rattle.desk.proofs.Laws.{put_then}
use Rattle.desk.proofs.show.superseded.Goals as goal

abbrev fore : List ℕ
fore = bytes "the last of "

abbrev behind : List ℕ
behind = bytes " records with this id" ++ (10 ∷ [])

pub returns : goal.returns
returns g c =
    let a = c.args in
    let x = c.bytes-a in
    let y = c.decimal-b in
    let z = c.bytes in
    record {
      alone = λ h. let f : ⊥ = omega (arith, c.if-n-lt2.false) in absurd f;
      several = λ h. (
        y.ensures.width,
        y.ensures.fewest,
        put_then
            a.out.now
            x.new.buffer
            z.new.buffer
            fore
            (last_digits 10 y.ensures.width a.n ++ behind)
            a.pen.used
            x.result.used
            z.result.used
            x.auto.buffer
            x.ensures
            (put_then x.new.buffer y.new.buffer z.new.buffer (last_digits 10 y.ensures.width a.n) behind x.result.used y.result.used z.result.used y.auto.buffer y.ensures.put z.ensures),
      );
    }
