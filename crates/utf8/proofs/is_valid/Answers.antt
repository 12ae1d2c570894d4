use Rattle.std.proofs.Common.{◌≡◌, List, ℕ, sym, ◌∙◌, Result, Ok, Err, is_ok, MatchResult, IsUtf8}
use Rattle.utf8.specs.Utf8.{valid_of}
use Rattle.utf8.specs.Library.{utf8_passes, utf8_fails}
use Rattle.utf8.proofs.is_valid.Goals as goal

-- what the library's answer says of the test
told : {T E : Type 0} (s : List ℕ) (P : T → Type 0) (Q : E → Type 0) (r : Result T E) → MatchResult r (λ t. P t × IsUtf8 s) (λ e. (IsUtf8 s → ⊥) × Q e) → is_ok r ≡ valid_of s
told s P Q (Ok t) (p, u) = sym (utf8_passes s u)
told s P Q (Err e) (n, q) = sym (utf8_fails s n)

pub returns : goal.returns
returns c = c.is_ok.ensures.value ∙ told c.args.bytes.now _ _ _ c.from_utf8.ensures.cases
