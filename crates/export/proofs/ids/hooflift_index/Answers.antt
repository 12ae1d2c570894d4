use mathlib.Core.Path.{◌≡◌, sym, ◌∙◌}
use mathlib.Core.Bool.{true}
use lib.ListN.{length}
use borrow.Author.Tests.{le-leb}
use Rattle.export.specs.Ids.{lent_enough}
use Rattle.export.specs.IdsLaws.{lent_eight}
use Rattle.export.specs.Ids.HostIndexed.{built}
use Rattle.export.proofs.ids.hooflift_index.Goals as goal

pub returns-then-enough-clause-host_indexed : goal.returns-then-enough-clause-host_indexed
returns-then-enough-clause-host_indexed c = let a = c.args in
    let q : lent_enough (length a.rows.now) a.count (length a.slots.now) (length a.ids.now) ≡ true = sym c.enough.ensures ∙ c.if-enough.true in
    let h = lent_eight (length a.rows.now) a.count (length a.slots.now) (length a.ids.now) q in
    built q c.build-b.result c.build-b.ensures (rw (le-leb 8 (length a.ids.now) h) at c.put_ids.ensures)
