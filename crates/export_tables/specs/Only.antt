-- "that two allowed answers coincide is proved": what opening a file owes a host is one answer, and one of each lent thing after it; and
-- the numbers that it leaves say again what goes with the tables.
-- Assumes nothing.
use Rattle.std.specs.Prelude.{ℕ, ◌≡◌, List, Result}
use Rattle.std.proofs.Common.{sym, ◌∙◌, ap, arith}
use Rattle.error.specs.declared.Fault.{Fault}
use Rattle.lookup.specs.declared.Tables.{Tables}
use Rattle.store.specs.Store.{told_opened_file}
use Rattle.store.specs.Only.{opened_file_only}
use Rattle.host_numbers.specs.Answers.{read_code, read_fault}
use Rattle.export_tables.specs.Tables.{read_reason, open_tables, Host}
use Rattle.export_tables.specs.Tables.Host.{short, opened}
use Rattle.export_tables.specs.Needed.{Needing}

-- `hooflift_open`: two answers that it allows are the same, and so is each lent thing after it
pub host_only : {s heads rows slots tables : List ℕ} {reason fault m n : ℕ} {ha hb ra rb xa xb ta tb : List ℕ} {ya yb fa fb : ℕ}
    → Host s heads rows slots tables reason fault m ha ra xa ta ya fa → Host s heads rows slots tables reason fault n hb rb xb tb yb fb
    → (m ≡ n) × (ha ≡ hb) × (ra ≡ rb) × (xa ≡ xb) × (ta ≡ tb) × (ya ≡ yb) × (fa ≡ fb)
host_only (short k a b c d e f g) (short l h i j o p q r) = (a ∙ sym h, b ∙ sym i, c ∙ sym j, d ∙ sym o, e ∙ sym p, f ∙ sym q, g ∙ sym r)
host_only (short k a b c d e f g) (opened l x h i j o p) = absurd (omega arith)
host_only (opened k x a b c d e) (short l h i j o p q r) = absurd (omega arith)
host_only {s} {heads} {rows} {slots} {tables} {reason} {fault} {ha} {hb} {ra} {rb} {xa} {xb} (opened k x a b c d e) (opened l y h i j o p) =
    let w = opened_file_only s heads rows slots x y ha hb ra rb xa xb a h in
    let v = w.0 in (
      b ∙ ap (λ (z : Result Tables Fault). read_code (told_opened_file z)) v ∙ sym i,
      w.1,
      w.2,
      w.3,
      c ∙ ap (λ (z : Result Tables Fault). open_tables z tables) v ∙ sym j,
      d ∙ ap (λ (z : Result Tables Fault). read_reason (told_opened_file z) reason) v ∙ sym o,
      e ∙ ap (λ (z : Result Tables Fault). read_fault (told_opened_file z) fault) v ∙ sym p,
    )

-- "that two allowed answers coincide is proved": of what a file needs, and of each lent thing after it
pub needing_only : {s needs : List ℕ} {reason fault m n : ℕ} {a b : List ℕ} {x y f g : ℕ} → Needing s needs reason fault m a x f → Needing s needs reason fault n b y g → (m ≡ n) × (a ≡ b) × (x ≡ y) × (f ≡ g)
needing_only (Needing.short k c d e h) (Needing.short l i j o p) = (c ∙ sym i, d ∙ sym j, e ∙ sym o, h ∙ sym p)
needing_only (Needing.short k c d e h) (Needing.told l i j o p) = absurd (omega arith)
needing_only (Needing.told k c d e h) (Needing.short l i j o p) = absurd (omega arith)
needing_only (Needing.told k c d e h) (Needing.told l i j o p) = (c ∙ sym i, d ∙ sym j, e ∙ sym o, h ∙ sym p)
