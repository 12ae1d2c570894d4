-- Demand 3 holds. Assumes nothing.
use Rattle.std.specs.Prelude.{ℕ, ◌≡◌, List, map}
use Rattle.error.specs.Refusal.{Told, good, bad}
use Rattle.statement.specs.Closed.{Closed}
use Rattle.scan.specs.Records.{Table}
use Rattle.scan.specs.File.{scan_of}
use Rattle.factors.specs.SeenRecords.{seen_record_of, seen_record_found}
use Rattle.units.specs.Answer.{Units}
use Rattle.units.specs.Units.{resolve_of}
use Rattle.alike.specs.Alike.{SameTold}
use Rattle.alike.specs.Contexts.{contexts_of, resolve_contexts, resolve_same}
use Rattle.lookup.specs.Records.{last_of}
use Rattle.serve.specs.Serve.{units_of}
use Rattle.order.specs.Order.{texts, file_with, of_id, Rearranged, SameUnits, Demand}
use Rattle.order.specs.Shape.{AllSay}
use Rattle.order.specs.Cuts.{closed_shaped}
use Rattle.order.specs.Exchange.{permuted_same}
use Rattle.order.specs.Accepted.{both_accepted}
use Rattle.order.specs.SameRecords.{last_text, found_says, same_content}
use Rattle.order.specs.SameCounts.{same_counts, same_headers}
use Rattle.order.specs.Contexts.{finds_alike, all_asked, contexts_alike}

-- answers that are the same, or the same refusal, are the same units or have the same refusal number
units_number : (x y : Told Units) → SameTold x y → SameUnits x y
units_number (good u) (good v) h = h
units_number (good u) (bad q) h = absurd h
units_number (bad p) (good v) h = absurd h
units_number (bad p) (bad q) (h, k) = h

-- the unit answers of two files whose rows are those of rearranged texts are the same
same_units : (s f : List ℕ) (t u : Table) (ts us : List (List ℕ)) → AllSay s t.records ts → AllSay f u.records us → Rearranged ts us
    → SameUnits (units_of s t) (units_of f u)
same_units s f t u ts us a b r =
    units_number (units_of s t) (units_of f u)
    (resolve_same (finds_alike s f t.records u.records ts us a b r.ids) (map (seen_record_of s) t.records) (map (seen_record_of f) u.records)
    (all_asked s t.records ts a) (all_asked f u.records us b) (contexts_alike s f t.records u.records ts us a b r.contexts))

-- "The new file is accepted with the same rooms; [..] each id then yields a record with the same keyword and argument bytes, or none as
-- before, and the unit answer is the same, or the same refusal number."
pub order : Demand
order s H R t e k c d us r =
    let b = both_accepted s H R t e k c d us r.whole in
    let u = b.after.result in
    record {
      after = u;
      accepted = b.after.scanned;
      counted = same_counts s (file_with c us) t u b.headings (texts c) us b.rows b.after.rows b.heads b.after.heads r.whole;
      headed = same_headers s (file_with c us) t.headers u.headers b.headings b.heads b.after.heads;
      found = λ i. same_content s (file_with c us) (last_of i t.records) (last_of i u.records) (last_text (of_id i us))
          (rw (r.ids i) at (found_says i s t.records (texts c) b.rows)) (found_says i (file_with c us) u.records us b.after.rows);
      units = same_units s (file_with c us) t u (texts c) us b.rows b.after.rows r;
    }

-- "in a closed file no record's parts have a fault, so that there the answer depends on the lookup and on the contexts in order alone": the
-- unit answer of an accepted closed file is that of its unit contexts
pub closed_units : (s : List ℕ) (H R : ℕ) (t : Table) → scan_of s H R ≡ good t → Closed s
    → units_of s t ≡ resolve_of s (λ k. seen_record_found s (last_of k t.records)) (contexts_of s (map (seen_record_of s) t.records))
closed_units s H R t e k =
    let z = closed_shaped k in
    let b = both_accepted s H R t e k z.pieces z.cuts (texts z.pieces) (permuted_same (texts z.pieces)) in
    resolve_contexts s (λ i. seen_record_found s (last_of i t.records)) (map (seen_record_of s) t.records) (all_asked s t.records (texts z.pieces) b.rows)
