use mathlib.Core.Path.{ap}
use lib.ListN.{drop}
use Rattle.strings.specs.Text.{long_of, extended, groups_from}
use Rattle.strings.specs.Code.{view_of}
use Rattle.strings.specs.Ways.{piece_put_view, piece_put_one, marked_four, long_two, long_four, long_none}
use Rattle.strings.proofs.long.Goals as goal

pub groups-requires-clause-marked : goal.groups-requires-clause-marked
groups-requires-clause-marked c =
    let a = c.args in
    marked_four a.s.now c.byte_at-x.result c.byte_at-y.result c.byte_at-z.result c.byte_at-x.ensures c.byte_at-y.ensures c.byte_at-z.ensures 50 c.if-x-y.true

pub returns-then-x-y : goal.returns-then-x-y
returns-then-x-y c =
    let a = c.args in
    piece_put_view (extended (groups_from 4 0 (drop 4 a.s.now))) (long_of a.s.now) a.at a.out.now _ _ _ (ap view_of (long_two a.s.now c.byte_at-x.result c.byte_at-y.result c.byte_at-z.result c.byte_at-x.ensures c.byte_at-y.ensures c.byte_at-z.ensures c.if-x-y.true)) c.groups.ensures

pub groups-requires-then-x-y-2-clause-marked : goal.groups-requires-then-x-y-2-clause-marked
groups-requires-then-x-y-2-clause-marked c =
    let a = c.args in
    marked_four a.s.now c.byte_at-x.result c.byte_at-y.result c.byte_at-z.result c.byte_at-x.ensures c.byte_at-y.ensures c.byte_at-z.ensures 52 c.if-x-y-2.true

pub returns-then-x-y-2 : goal.returns-then-x-y-2
returns-then-x-y-2 c =
    let a = c.args in
    piece_put_view (extended (groups_from 8 0 (drop 4 a.s.now))) (long_of a.s.now) a.at a.out.now _ _ _ (ap view_of (long_four a.s.now c.byte_at-x.result c.byte_at-y.result c.byte_at-z.result c.byte_at-x.ensures c.byte_at-y.ensures c.byte_at-z.ensures c.if-x-y.false c.if-x-y-2.true)) c.groups-then-x-y-2.ensures

pub returns : goal.returns
returns c =
    let a = c.args in
    piece_put_one (long_of a.s.now) a.at a.out.now _ _ 92 _ (ap view_of (long_none a.s.now c.byte_at-x.result c.byte_at-y.result c.byte_at-z.result c.byte_at-x.ensures c.byte_at-y.ensures c.byte_at-z.ensures c.if-x-y.false c.if-x-y-2.false)) c.put_char.ensures
