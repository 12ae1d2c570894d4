use Rattle.export_tables.specs.Needed.Needing.{short, told}
use mathlib.Core.Path.{refl}
use Rattle.export_tables.proofs.needing.hooflift_needs.Goals as goal

pub returns-then-needs-lt-ROOM : goal.returns-then-needs-lt-ROOM
returns-then-needs-lt-ROOM c = short c.if-needs-lt-ROOM.true refl refl refl refl

pub returns-in-Ok : goal.returns-in-Ok
returns-in-Ok c = let e = rw c.in-Ok.is at c.count.ensures in
    told c.if-needs-lt-ROOM.false (rw (← e) refl) (rw (← e) c.put_needs.ensures) (rw (← e) refl) (rw (← e) refl)

pub returns-in-Err : goal.returns-in-Err
returns-in-Err c = let e = rw c.in-Err.is at c.count.ensures in
    told c.if-needs-lt-ROOM.false (rw (← e) c.put_fault.ensures.0) (rw (← e) refl) (rw (← e) c.reason.ensures) (rw (← e) c.put_fault.ensures.1)
