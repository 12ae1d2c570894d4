-- How far the tables of the wide path go, whatever the class of reals is. Assumes nothing.
use Rattle.std.specs.Prelude.{ℕ}

-- how far the powers of five are tabled: 5 ^ 27 has 63 binary digits, and 5 ^ 28 has 66
abbrev pub reach : ℕ
reach = 27

-- how far the reciprocals are tabled: as far as the reals go in files that stand for zero, as 1.0E-17, and some way on
abbrev pub far : ℕ
far = 64
