use Rattle.std.proofs.Common.{rules, ◌≡◌, get_or}
use Rattle.find_many.specs.Hints.{near_hint, NearRow, start_near}
use Rattle.find_many.specs.Sweep.{swept_by, swept_then, swept_map}
use Rattle.find_many.proofs.guide_near.Goals as goal

pub sweep-requires-2-clause-tells : goal.sweep-requires-2-clause-tells
sweep-requires-2-clause-tells c = let a = c.args in λ i h l.
    let e = c.sweep.ensures.each i h l in
    let s : get_or c.sweep.new.found i 0 ≡ start_near a.slots.now c.room-n.result a.b (get_or a.ids.now i 0) = search rules in search rules

pub returns : goal.returns
returns c =
    let a = c.args in
    let n = c.room-n.result in
    let first = swept_by _ (λ k v. v ≡ start_near a.slots.now n a.b k) _ _ _ _ _ (λ k r v e. search rules) c.sweep.ensures in
    let second = swept_by _ (NearRow a.slots.now n a.b) _ _ _ _ _ (λ k r v e. search rules) c.sweep-2.ensures in
    swept_map _ _ _ _ _ _ _ (near_hint a.rows.now a.slots.now a.b n c.room-n.ensures c.requires.3) (swept_then _ _ _ _ _ _ _ _ first second)
