-- What was dropped of a number against half of the last digit kept. Assumes nothing.
-- Definitions to be believed: no law, and nothing computed that no theorem ties (docs/BELIEVE.md).
use Prim.Native.Nat.{ℕ, ◌*◌, compare, Ordering}
use Rattle.std.specs.Prelude.{Bool, true, false}

-- an order with half, made exact: just half, and something left below, is more than half
abbrev pub half_order : Ordering → Bool → Ordering
half_order Ordering.lt more = Ordering.lt
half_order Ordering.eq true = Ordering.gt
half_order Ordering.eq false = Ordering.eq
half_order Ordering.gt more = Ordering.gt

-- what was dropped is `low`, and one of the last digit kept is `unit`: is `low` below, at or above half of it? Where it is just half, `more` decides
abbrev pub against : ℕ → ℕ → Bool → Ordering
against low unit more = half_order (compare (low * 2) unit) more
