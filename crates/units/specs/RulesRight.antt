-- Rules.antt and what Units.antt computes are one: the answer that is computed is so, and nothing else is. Assumes nothing.
use Rattle.std.specs.Prelude.{ℕ, ◌≡◌, ◌⊎◌, Bool, true, false, Option, Some, None}
use Rattle.std.proofs.Math.Path.{refl, ap}
use Rattle.std.proofs.Common.{sym, ◌∙◌}
use Rattle.std.proofs.Math.Logic.{inl, inr}
use mathlib.Core.List.{List, [], ◌∷◌, ◌++◌}
use Rattle.error.specs.Refusal.{Refusal, Told, good, bad}
use Rattle.record.specs.FormRight.Parts.{sole}
use Rattle.kinds.specs.declared.Kind.TheVariants.{GlobalUnitAssignedContext, GlobalUncertaintyAssignedContext}
use Rattle.params.specs.Answer.{onward}
use Rattle.lookup.specs.Records.{or_else}
use Rattle.factors.specs.Each.{Each, IsFirst}
use Rattle.factors.specs.EachLaws.{each_head, each_less, first_comes, first_never, first_decides, last_by, last_told_is, last_told_only}
use Rattle.factors.specs.SeenRecords.{good_by, UnitPart, SeenRecord}
use Rattle.factors.specs.Factor.{length_of, angle_of}
use Rattle.factors.specs.Unit.{option_by}
use Rattle.units.specs.Answer.{Units, defaults, Role, length_role, angle_role, solid_role, role_by, with_length, with_angle, is_context, uncertainty_by}
use Rattle.units.specs.Units.{role_of, first_role, by_role, unit_of, unit_by, units_by, tolerance_by, listed_units, listed_tolerance, context_of, resolve_of}
use Rattle.units.specs.Rules.{RoleForm, ListedFactor, a_length, an_angle, nothing, length_given, angle_given, units_with, given_as, given_by, UnitReads, UnitsForm, Settles, ToleranceForm, list_in, ContextForm, PassedOver, Decides, ResolveForm}

-- ---- the role of a listed unit
-- a part in front that gives no role changes nothing
role_on : (p : UnitPart) (ps : List UnitPart) → role_by p.kind ≡ None → first_role ps ≡ first_role (p ∷ ps)
role_on p ps e = rw e refl

-- a part in front that gives a role decides
role_here : (p : UnitPart) (ps : List UnitPart) (r : Role) → role_by p.kind ≡ Some r → Some r ≡ first_role (p ∷ ps)
role_here p ps r e = rw e refl

-- the role by the rules is the one that is computed
pub role_form_only : {ps : List UnitPart} {o : Option Role} → RoleForm ps o → o ≡ first_role ps
role_form_only {ps} (RoleForm.part {r} h) = first_decides (λ p. role_by p.kind ≡ None) (λ p r. role_by p.kind ≡ Some r) Some first_role role_on role_here ps r h
role_form_only {ps} (RoleForm.roleless h) = first_never (λ p. role_by p.kind ≡ None) (λ p r. role_by p.kind ≡ Some r) Some first_role role_on role_here ps h

-- the role that is computed is the one by the rules
pub role_form_is : (ps : List UnitPart) → RoleForm ps (first_role ps)
role_form_is ps = sole (RoleForm ps) (λ o. role_form_only) (go (first_comes (λ p. role_by p.kind ≡ None) (λ p r. role_by p.kind ≡ Some r) (λ p. by (role_by p.kind)) ps))
  where
    by : (o : Option Role) → (o ≡ None) ⊎ ((r : Role) × (o ≡ Some r))
    by None = inl refl
    by (Some r) = inr (r, refl)

    go : Each (λ p. role_by p.kind ≡ None) ps ⊎ ((r : Role) × IsFirst (λ p. role_by p.kind ≡ None) (λ p r. role_by p.kind ≡ Some r) ps r) → (o : Option Role) × RoleForm ps o
    go (inl h) = (None, RoleForm.roleless h)
    go (inr (r, h)) = (Some r, RoleForm.part h)

-- the role of a record whose parts read is the one by the rules
pub role_of_is : (t : SeenRecord) (ps : List UnitPart) → t.parts ≡ good ps → (o : Option Role) × (role_of t ≡ good o) × RoleForm ps o
role_of_is t ps e = (first_role ps, rw e refl, role_form_is ps)

-- ---- the units of a list
-- units with what one listed unit gives
put : Units → ListedFactor → Units
put u (a_length f) = with_length u (Some f)
put u (an_angle f) = with_angle u (Some f)
put u nothing = u

-- what a length unit gives, put among a context's units, is `with_length`, with a factor or without
put_length : (u : Units) (o : Option ℕ) → with_length u o ≡ put u (option_by nothing a_length o)
unfolding put
put_length u None = refl
put_length u (Some f) = refl

-- what an angle unit gives, put among a context's units, is `with_angle`, with a factor or without
put_angle : (u : Units) (o : Option ℕ) → with_angle u o ≡ put u (option_by nothing an_angle o)
unfolding put
put_angle u None = refl
put_angle u (Some f) = refl

-- units with what one listed unit gives, and then with the last factors of those after it
put_last : (u : Units) (g : ListedFactor) (l a : Option ℕ) → with_angle (with_length (put u g) l) a ≡ with_angle (with_length u (or_else l (length_given (good g)))) (or_else a (angle_given (good g)))
unfolding put
put_last u (a_length f) None None = refl
put_last u (a_length f) None (Some b) = refl
put_last u (a_length f) (Some m) None = refl
put_last u (a_length f) (Some m) (Some b) = refl
put_last u (an_angle f) None None = refl
put_last u (an_angle f) None (Some b) = refl
put_last u (an_angle f) (Some m) None = refl
put_last u (an_angle f) (Some m) (Some b) = refl
put_last u nothing None None = refl
put_last u nothing None (Some b) = refl
put_last u nothing (Some m) None = refl
put_last u nothing (Some m) (Some b) = refl

-- the last factors laid over the default values
with_defaults : (l a : Option ℕ) → with_angle (with_length defaults l) a ≡ units_with l a
with_defaults None None = refl
with_defaults None (Some b) = refl
with_defaults (Some m) None = refl
with_defaults (Some m) (Some b) = refl

module _ (s : List ℕ) (find : ℕ → Told (Option SeenRecord)) where
  -- one listed unit sets what it gives, or refuses
  unit_given : (u : Units) (i : ℕ) → unit_by s find u i ≡ good_by (put u) (given_by s find i)
  unfolding unit_by given_by put
  unit_given u i = found (find i)
    where
      lengths : (x : Told (Option ℕ)) → good_by (with_length u) x ≡ good_by (put u) (good_by (option_by nothing a_length) x)
      lengths (good o) = ap good (put_length u o)
      lengths (bad q) = refl

      angles : (x : Told (Option ℕ)) → good_by (with_angle u) x ≡ good_by (put u) (good_by (option_by nothing an_angle) x)
      angles (good o) = ap good (put_angle u o)
      angles (bad q) = refl

      role : (t : SeenRecord) (r : Told (Option Role)) → onward (by_role s find u t) r ≡ good_by (put u) (onward (given_as s find t) r)
      role t (bad q) = refl
      role t (good None) = refl
      role t (good (Some length_role)) = lengths (length_of s find 16 t)
      role t (good (Some angle_role)) = angles (angle_of s find t)
      role t (good (Some solid_role)) = refl

      found : (x : Told (Option SeenRecord)) → onward (option_by (good u) (unit_of s find u)) x ≡ good_by (put u) (onward (option_by (good nothing) (λ t. onward (given_as s find t) (role_of t))) x)
      found (bad q) = refl
      found (good None) = refl
      found (good (Some t)) = role t (role_of t)

  -- the length factor that an id gives, or none
  length_from : ℕ → Option ℕ
  length_from i = length_given (given_by s find i)

  -- the angle factor that an id gives, or none
  angle_from : ℕ → Option ℕ
  angle_from i = angle_given (given_by s find i)

  -- where no listed unit refuses, the last factors are laid over the units that were there
  units_read : (is : List ℕ) (u : Units) → Each (UnitReads s find) is → good (with_angle (with_length u (last_by length_from is)) (last_by angle_from is)) ≡ units_by s find u is
  unfolding units_by length_from angle_from
  units_read [] u h = refl
  units_read (i ∷ is) u h = go (each_head (UnitReads s find) i is h) (λ v. units_read is v (each_less (UnitReads s find) i is h))
    where
      go : UnitReads s find i → ((v : Units) → good (with_angle (with_length v (last_by length_from is)) (last_by angle_from is)) ≡ units_by s find v is)
          → good (with_angle (with_length u (or_else (last_by length_from is) (length_given (given_by s find i)))) (or_else (last_by angle_from is) (angle_given (given_by s find i)))) ≡ onward (λ v. units_by s find v is) (unit_by s find u i)
      go (g, e) ih = rw (unit_given u i, e) (ap good (sym (put_last u g (last_by length_from is) (last_by angle_from is))) ∙ ih (put u g))

  -- the first listed unit that refuses, behind some that do not, refuses the list
  units_refused : (front : List ℕ) (i : ℕ) (back : List ℕ) (q : Refusal) (u : Units) → Each (UnitReads s find) front → given_by s find i ≡ bad q → bad q ≡ units_by s find u (front ++ (i ∷ back))
  unfolding units_by
  units_refused [] i back q u h e = rw (unit_given u i, e) refl
  units_refused (j ∷ front) i back q u h e = go (each_head (UnitReads s find) j front h) (λ v. units_refused front i back q v (each_less (UnitReads s find) j front h) e)
    where
      go : UnitReads s find j → ((v : Units) → bad q ≡ units_by s find v (front ++ (i ∷ back))) → bad q ≡ onward (λ v. units_by s find v (front ++ (i ∷ back))) (unit_by s find u j)
      go (g, d) ih = rw (unit_given u j, d) (ih (put u g))

  -- the units of a list by the rules are those that are computed
  pub units_form_only : {is : List ℕ} {a : Told Units} → UnitsForm s find is a → a ≡ units_by s find defaults is
  unfolding length_from angle_from
  units_form_only {is} (UnitsForm.read l a h m n) =
      ap good (sym (with_defaults l a))
      ∙ ap (λ (x : Option ℕ). good (with_angle (with_length defaults x) a)) (last_told_only length_from is l m)
      ∙ ap (λ (x : Option ℕ). good (with_angle (with_length defaults (last_by length_from is)) x)) (last_told_only angle_from is a n)
      ∙ units_read is defaults h
  units_form_only {is} (UnitsForm.refused {q} h) = units_refused h.front h.one h.back q defaults h.before h.gives ∙ ap (units_by s find defaults) (sym h.cut)

  -- the units of a list that are computed are those by the rules
  pub units_form_is : (is : List ℕ) → UnitsForm s find is (units_by s find defaults is)
  unfolding length_from angle_from
  units_form_is is = sole (UnitsForm s find is) (λ a. units_form_only) (go (first_comes (UnitReads s find) (λ i q. given_by s find i ≡ bad q) (λ i. by (given_by s find i)) is))
    where
      by : (x : Told ListedFactor) → ((g : ListedFactor) × (x ≡ good g)) ⊎ ((q : Refusal) × (x ≡ bad q))
      by (good g) = inl (g, refl)
      by (bad q) = inr (q, refl)

      go : Each (UnitReads s find) is ⊎ ((q : Refusal) × IsFirst (UnitReads s find) (λ i q. given_by s find i ≡ bad q) is q) → (a : Told Units) × UnitsForm s find is a
      go (inl h) = (_, UnitsForm.read (last_by length_from is) (last_by angle_from is) h (last_told_is length_from is) (last_told_is angle_from is))
      go (inr (q, h)) = (_, UnitsForm.refused h)

  -- ---- the tolerance
  -- a listed uncertainty in front that is none changes nothing
  tolerance_on : (i : ℕ) (is : List ℕ) → uncertainty_by s find i ≡ good None → tolerance_by s find is ≡ tolerance_by s find (i ∷ is)
  unfolding tolerance_by
  tolerance_on i is e = rw e refl

  -- a listed uncertainty in front that reads or refuses decides
  tolerance_here : (i : ℕ) (is : List ℕ) (a : Told ℕ) → Settles s find i a → a ≡ tolerance_by s find (i ∷ is)
  unfolding tolerance_by
  tolerance_here i is _ (Settles.reads e) = rw e refl
  tolerance_here i is _ (Settles.refuses e) = rw e refl

  -- the tolerance by the rules is the one that is computed
  pub tolerance_form_only : {is : List ℕ} {a : Told ℕ} → ToleranceForm s find is a → a ≡ tolerance_by s find is
  unfolding tolerance_by
  tolerance_form_only {is} {a} (ToleranceForm.listed h) = first_decides (λ i. uncertainty_by s find i ≡ good None) (Settles s find) (λ x. x) (tolerance_by s find) tolerance_on tolerance_here is a h
  tolerance_form_only {is} (ToleranceForm.assumed h) = first_never (λ i. uncertainty_by s find i ≡ good None) (Settles s find) (λ x. x) (tolerance_by s find) tolerance_on tolerance_here is h

  -- the tolerance that is computed is the one by the rules
  pub tolerance_form_is : (is : List ℕ) → ToleranceForm s find is (tolerance_by s find is)
  tolerance_form_is is = sole (ToleranceForm s find is) (λ a. tolerance_form_only) (go (first_comes (λ i. uncertainty_by s find i ≡ good None) (Settles s find) (λ i. by i (uncertainty_by s find i) refl) is))
    where
      by : (i : ℕ) (x : Told (Option ℕ)) → uncertainty_by s find i ≡ x → (uncertainty_by s find i ≡ good None) ⊎ ((a : Told ℕ) × Settles s find i a)
      by i (good None) e = inl e
      by i (good (Some v)) e = inr (good v, Settles.reads e)
      by i (bad q) e = inr (bad q, Settles.refuses e)

      go : Each (λ i. uncertainty_by s find i ≡ good None) is ⊎ ((a : Told ℕ) × IsFirst (λ i. uncertainty_by s find i ≡ good None) (Settles s find) is a) → (a : Told ℕ) × ToleranceForm s find is a
      go (inl h) = (_, ToleranceForm.assumed h)
      go (inr (a, h)) = (a, ToleranceForm.listed h)

  -- ---- a context
  -- the units of a context by the rules are those that are computed
  pub context_form_only : {t : SeenRecord} {a : Told Units} → ContextForm s find t a → a ≡ context_of s find t
  unfolding context_of listed_units listed_tolerance
  context_form_only (ContextForm.read e u f v) = rw (e, ← units_form_only u, f, ← tolerance_form_only v) refl
  context_form_only (ContextForm.unlisted e) = rw e refl
  context_form_only (ContextForm.unit e u) = rw (e, ← units_form_only u) refl
  context_form_only (ContextForm.unbounded e u f) = rw (e, ← units_form_only u, f) refl
  context_form_only (ContextForm.uncertain e u f v) = rw (e, ← units_form_only u, f, ← tolerance_form_only v) refl

  -- the units of a context that are computed are those by the rules
  pub context_form_is : (t : SeenRecord) → ContextForm s find t (context_of s find t)
  context_form_is t = sole (ContextForm s find t) (λ a. context_form_only) (by (list_in s GlobalUnitAssignedContext t) refl)
    where
      settled : {is js : List ℕ} {u : Units} → list_in s GlobalUnitAssignedContext t ≡ good is → UnitsForm s find is (good u) → list_in s GlobalUncertaintyAssignedContext t ≡ good js
          → (x : Told ℕ) → ToleranceForm s find js x → (a : Told Units) × ContextForm s find t a
      settled e u f (good v) h = (_, ContextForm.read e u f h)
      settled e u f (bad q) h = (_, ContextForm.uncertain e u f h)

      bounds : {is : List ℕ} {u : Units} → list_in s GlobalUnitAssignedContext t ≡ good is → UnitsForm s find is (good u) → (x : Told (List ℕ)) → list_in s GlobalUncertaintyAssignedContext t ≡ x → (a : Told Units) × ContextForm s find t a
      bounds e u (good js) f = settled e u f (tolerance_by s find js) (tolerance_form_is js)
      bounds e u (bad q) f = (_, ContextForm.unbounded e u f)

      listed : {is : List ℕ} → list_in s GlobalUnitAssignedContext t ≡ good is → (x : Told Units) → UnitsForm s find is x → (a : Told Units) × ContextForm s find t a
      listed e (good u) h = bounds e h (list_in s GlobalUncertaintyAssignedContext t) refl
      listed e (bad q) h = (_, ContextForm.unit e h)

      by : (x : Told (List ℕ)) → list_in s GlobalUnitAssignedContext t ≡ x → (a : Told Units) × ContextForm s find t a
      by (good is) e = listed e (units_by s find defaults is) (units_form_is is)
      by (bad q) e = (_, ContextForm.unlisted e)

  -- ---- the records of the file
  -- a record in front that is passed over changes nothing
  resolve_on : (t : Told SeenRecord) (ts : List (Told SeenRecord)) → PassedOver s find t → resolve_of s find ts ≡ resolve_of s find (t ∷ ts)
  unfolding resolve_of
  resolve_on _ ts (PassedOver.other e) = rw e refl
  resolve_on _ ts (PassedOver.fruitless e c r) = rw (e, ← context_form_only c, r) refl

  -- a record in front that decides gives the answer
  resolve_here : (t : Told SeenRecord) (ts : List (Told SeenRecord)) (a : Told Units) → Decides s find t a → a ≡ resolve_of s find (t ∷ ts)
  unfolding resolve_of
  resolve_here _ ts _ (Decides.resolves e c r) = rw (e, ← context_form_only c, r) refl
  resolve_here _ ts _ (Decides.refuses e c) = rw (e, ← context_form_only c) refl
  resolve_here _ ts _ (Decides.faulty e) = rw e refl
  resolve_here _ ts _ Decides.outside = refl

  -- the unit answer by the rules is the one that is computed
  pub resolve_form_only : {ts : List (Told SeenRecord)} {a : Told Units} → ResolveForm s find ts a → a ≡ resolve_of s find ts
  unfolding resolve_of
  resolve_form_only {ts} {a} (ResolveForm.decided h) = first_decides (PassedOver s find) (Decides s find) (λ x. x) (resolve_of s find) resolve_on resolve_here ts a h
  resolve_form_only {ts} (ResolveForm.undecided h) = first_never (PassedOver s find) (Decides s find) (λ x. x) (resolve_of s find) resolve_on resolve_here ts h

  -- each record is passed over or decides
  passed_or : (t : Told SeenRecord) → PassedOver s find t ⊎ ((a : Told Units) × Decides s find t a)
  passed_or (bad q) = inr (bad q, Decides.outside)
  passed_or (good t) = by (is_context s t) refl
    where
      deciding : is_context s t ≡ good true → (u : Units) → ContextForm s find t (good u) → (b : Bool) → u.resolved ≡ b → PassedOver s find (good t) ⊎ ((a : Told Units) × Decides s find (good t) a)
      deciding e u c true r = inr (good u, Decides.resolves e c r)
      deciding e u c false r = inl (PassedOver.fruitless e c r)

      context : is_context s t ≡ good true → (x : Told Units) → ContextForm s find t x → PassedOver s find (good t) ⊎ ((a : Told Units) × Decides s find (good t) a)
      context e (good u) c = deciding e u c u.resolved refl
      context e (bad q) c = inr (bad q, Decides.refuses e c)

      by : (x : Told Bool) → is_context s t ≡ x → PassedOver s find (good t) ⊎ ((a : Told Units) × Decides s find (good t) a)
      by (bad q) e = inr (bad q, Decides.faulty e)
      by (good false) e = inl (PassedOver.other e)
      by (good true) e = context e (context_of s find t) (context_form_is t)

  -- the unit answer that is computed is the one by the rules
  pub resolve_form_is : (ts : List (Told SeenRecord)) → ResolveForm s find ts (resolve_of s find ts)
  resolve_form_is ts = sole (ResolveForm s find ts) (λ a. resolve_form_only) (go (first_comes (PassedOver s find) (Decides s find) passed_or ts))
    where
      go : Each (PassedOver s find) ts ⊎ ((a : Told Units) × IsFirst (PassedOver s find) (Decides s find) ts a) → (a : Told Units) × ResolveForm s find ts a
      go (inl h) = (_, ResolveForm.undecided h)
      go (inr (a, h)) = (a, ResolveForm.decided h)
