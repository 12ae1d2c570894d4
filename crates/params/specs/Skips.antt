-- Document 01, 'Parameters': whether a parameter is left, and parameters that are left unread. Assumes nothing.
-- Definitions to be believed: no law, and nothing computed that no theorem ties (docs/BELIEVE.md).
use Rattle.std.specs.Prelude.{ℕ, zero, suc, Bool, true, false, List, [], ◌∷◌, take, drop}
use Rattle.error.specs.Refusal.{Told, good, bad}
use Rattle.lex.specs.Byte.{place}
use Rattle.params.specs.ParameterEnd.{started}
use Rattle.params.specs.Answer.{Read, reading, if_in_file, read_mapped}
use Rattle.params.specs.Reader.{param_of}

-- whether nothing is left after the trivia, past which the reader then stands
abbrev pub emptied : List ℕ → ℕ → List ℕ → Read Bool
emptied xs e [] = reading (good true) (place xs []) e
emptied xs e (c ∷ r) = reading (good false) (place xs (c ∷ r)) e

-- whether no parameter is left of a reader at p that reads up to e
unfoldable pub empty_of : List ℕ → ℕ → ℕ → Read Bool
empty_of s p e = if_in_file s p e (emptied (take e s) e (started (drop p (take e s))))

-- the next parameter of a reader at p that reads up to e is left unread
unfoldable pub skip_of : List ℕ → ℕ → ℕ → Read (Unit {0})
skip_of s p e = read_mapped (λ a. good tt) (param_of s p e)

-- what is done after an answer that is no refusal, from where the reader then stands; a refusal stays the answer
abbrev pub and_then : Told (Unit {0}) → ℕ → ℕ → (ℕ → ℕ → Read (Unit {0})) → Read (Unit {0})
and_then (good u) p e k = k p e
and_then (bad q) p e k = reading (bad q) p e

-- n parameters are left unread, up to the first refusal
unfoldable pub skip_from : ℕ → List ℕ → ℕ → ℕ → Read (Unit {0})
skip_from zero s p e = reading (good tt) p e
skip_from (suc n) s p e = and_then (skip_of s p e).answer (skip_of s p e).place (skip_of s p e).end (λ q f. skip_from n s q f)

-- n parameters are left unread, up to the first refusal, for a place and an end in the file
unfoldable pub skips_of : ℕ → List ℕ → ℕ → ℕ → Read (Unit {0})
skips_of n s p e = if_in_file s p e (skip_from n s p e)
