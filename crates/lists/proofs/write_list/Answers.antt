use Rattle.lists.specs.Keep.{kept_all}
use Rattle.lists.specs.Lent.{item_value, room_lent}
use Rattle.lists.specs.Items.{list_by}
use Rattle.lists.specs.First.{first_fits, first_laid}
use native.Mathlib.Omega.{arith}
use lib.ListN.{length}
use borrow.Author.Rules.{rules}
use Rattle.lists.proofs.write_list.Goals as goal

pub lay-requires : goal.lay-requires
lay-requires c = let r = c.room_of in
    first_fits c.args.kind (length c.args.first.now) (length c.args.rooms.now.refs.now) (length c.args.rooms.now.wholes.now) (length c.args.rooms.now.reals.now) c.args.n
    (omega (arith, r.ensures, c.if-n-room_of.true)) (omega (arith, c.requires.ready.1, c.requires.n_value))

pub returns-then-n-room_of : goal.returns-then-n-room_of
returns-then-n-room_of c = let r = c.room_of in
    record {
      same = search rules;
      reals_after = first_laid c.args.kind (list_by (item_value c.args.kind) c.args.t.now) c.args.rooms.now.refs.now c.args.rooms.now.wholes.now c.args.first.now c.args.rooms.now.reals.now _ c.args.n
          c.requires.n_value (omega (arith, r.ensures, c.if-n-room_of.true)) c.requires.held c.lay.ensures;
    }

pub returns : goal.returns
returns c = record { same = c.take_list.ensures.same; reals_after = kept_all (list_by (item_value c.args.kind) c.args.t.now) _ _ _ (room_lent c.args.kind c.args.rooms.now.refs.now c.args.rooms.now.wholes.now c.args.rooms.now.reals.now) c.requires.ready c.take_list.ensures.kept }
