-- The places of a head are in order, and its id is at most 4294967295. Assumes nothing.
use Rattle.std.specs.Prelude.{ℕ, ◌≤◌, List, Ok}
use Rattle.std.proofs.Common.{arith, length-append}
use Rattle.record.specs.Form.{Lead, HeadForm, HeaderForm}
use Rattle.record.specs.declared.Head.TheVariants.{Complex, Simple}
use Rattle.record.specs.declared.Named.{Named}

-- the id before a data record's value is not "above 4294967295"
lead_id : {a v : List ℕ} {n : ℕ} → Lead a n v → n ≤ 4294967295
lead_id (Lead.lead ds w u v i p q) = i.within

-- a complex record's id is at most 4294967295
pub complex_id : {b : List ℕ} {i o : ℕ} → HeadForm b (Ok (Complex i o)) → i ≤ 4294967295
complex_id (HeadForm.complex l) = lead_id l

-- a simple record's id is at most 4294967295, and its places are in order
pub simple_ordered : {b : List ℕ} {i a z o : ℕ} → HeadForm b (Ok (Simple i a z o)) → (i ≤ 4294967295) × (a ≤ z) × (z ≤ o)
simple_ordered (HeadForm.simple l h f) = (lead_id l, simp length-append (omega arith), simp length-append (omega arith))

-- a header record's places are in order
pub header_ordered : {b : List ℕ} {n : Named} → HeaderForm b (Ok n) → (n.start ≤ n.end) × (n.end ≤ n.opening)
header_ordered (HeaderForm.named s f) = (simp length-append (omega arith), simp length-append (omega arith))
