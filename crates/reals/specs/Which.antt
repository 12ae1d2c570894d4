-- Which reals are answered: those of the class, or any. Assumes nothing.
-- Definitions to be believed: no law, and nothing computed that no theorem ties (docs/BELIEVE.md).
use Rattle.std.specs.Prelude.{ℕ, List}
use Rattle.reals.specs.Answer.{Answer}
use Rattle.reals.specs.Scalar.{real_of, any_real_of}
use Rattle.reals.specs.declared.Reals.{Reals}
use Rattle.reals.specs.declared.Reals as RealsCode

-- what a text answers, by which reals are answered
abbrev pub real_by : Reals → List ℕ → Answer ℕ
real_by RealsCode.TheVariants.Class t = real_of t
real_by RealsCode.TheVariants.Any t = any_real_of t
