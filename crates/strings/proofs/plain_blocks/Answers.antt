use Rattle.std.proofs.Common.{◌≡◌, ◌+◌, true, take, rules}
use Rattle.std.proofs.Math.Nat.{min-eq_left}
use Rattle.lex.specs.BlocksKept.{blocks_keep}
use Rattle.strings.specs.Text.{plain}
use Rattle.strings.proofs.plain_blocks.Goals as goal

pub returns : goal.returns
returns c =
    let s = c.args.s.now in
    let passed = rw (min-eq_left c.requires.0) at c.pass_blocks.ensures.passed in
    (c.pass_blocks.ensures.bounds.1, blocks_keep (λ i t r u. plain (take i s) ≡ true → plain (take r s) ≡ true) (λ i t h. h) (λ i r t u v h p. let k : plain (take r s) ≡ true → plain (take (r + 64) s) ≡ true = search rules in λ b. k (h b)) passed c.requires.1)
