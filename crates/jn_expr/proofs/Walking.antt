-- Going over the tree, step by step.
use Rattle.std.proofs.Common.{◌≡◌, ◌<◌, ◌≤◌, ◌+◌, ◌-◌, ℕ, ℤ, List, [], ◌∷◌, ◌++◌, length, map, drop, get_or, slice_get, Bool, true, false, Option, Some, None, IfOk, OnOk, Result, Ok, Err, refl, sym, ap, ◌∙◌, subst, append_assoc}
use Rattle.jn_base.specs.declared.tree.Name.{Name}
use Rattle.jn_base.specs.declared.tree.Named.{Named}
use Rattle.jn_base.specs.declared.tree.Place.{Place}
use Rattle.jn_base.specs.declared.tree.Program.{Program}
use Rattle.jn_base.specs.declared.names.Resolved.{Resolved}
use Rattle.jn_base.specs.declared.names.Var.{Var}
use Rattle.jn_base.specs.declared.refusal.Refusal.{Refusal}
use Rattle.jn_base.specs.declared.types.Ty.{Ty}
use Rattle.jn_heads.specs.declared.fault.CheckFault.{CheckFault}
use Rattle.jn_heads.specs.declared.fault.CheckFault.TheVariants.{Refused, Memory}
use Rattle.jn_intern.specs.declared.scope.Scope.{Scope}
use Rattle.jn_rules.specs.Plans.{Mark, Plan, done, refuse, note, ask, then_do, wants}
use Rattle.jn_rules.specs.Questions.{Gives, Notes}
use Rattle.jn_rules.specs.LawsOfPlans.{Came, CameRefused, at_first, behind, Noted}
use Rattle.jn_rules.proofs.PlanLaws.{then_gives, then_refuses, then_notes, then_came, then_refused, then_noted, notes_give}
use Rattle.jn_expr.specs.declared.env.Value.{Value}
use Rattle.jn_expr.specs.Envs.{IsScope}
use Rattle.jn_expr.specs.Passing.{Grows}
use Rattle.jn_expr.specs.Told.{Adds, Went, PlanTold, FaultIs}
use Rattle.jn_expr.specs.Values.{IsValue}
use Rattle.jn_expr.specs.Steps.{Leads, LeadsTold}
use Rattle.jn_expr.proofs.Leading.{leads_here, leads_then, leads_told, leads_fault, adds_more}
use Rattle.jn_expr.proofs.Scopes.{grows_more}

-- ---- one plan after the other

module _ {A B C : Type 0} (p : Program) (x : Plan A) (m0 m1 m2 : Resolved) (show : B → C) where
  -- what was given goes on by a plan that speaks of variables, which are the same
  pub then_told : (V1 V : List Var) (go : List Var → A → Plan C) (a : A) (o : Result B CheckFault) → V1 ≡ V → Went p x a m0 m1
      → PlanTold p (go V1 a) show m1 m2 o → PlanTold p (then_do x (go V)) show m0 m2 o
  then_told V1 V go a o e w t =
      leads_told show m2 (leads_then x (go V) (leads_here (then_do x (go V)) m0) w) o
      (subst (λ (vs : List Var). PlanTold p (go vs a) show m1 m2 o) e t)

  pub then_fault : {D : Type 0} (given : D → A) (go : A → Plan C) (f : CheckFault) → PlanTold p x given m0 m1 (Err f)
      → PlanTold p (then_do x go) show m0 m2 (Err f)
  then_fault given go f t = leads_fault given show x go m1 m2 (leads_here (then_do x go) m0) f t

-- the same of a plan that is equal
pub same_plan : {A B : Type 0} (p : Program) (x y : Plan A) (show : B → A) (m0 m2 : Resolved) (o : Result B CheckFault) → x ≡ y
    → PlanTold p y show m0 m2 o → PlanTold p x show m0 m2 o
same_plan p x y show m0 m2 o e t = subst (λ z. PlanTold p z show m0 m2 o) (sym e) t

pub same_leads : {A B : Type 0} (p : Program) (x y : Plan A) (left : B → Plan A) (m0 m2 : Resolved) (o : Result B CheckFault) → x ≡ y
    → LeadsTold p y left m0 m2 o → LeadsTold p x left m0 m2 o
same_leads p x y left m0 m2 o e t = subst (λ z. LeadsTold p z left m0 m2 o) (sym e) t

-- ---- a plan that is x, and then go

-- what x gives, and go behind it, the whole gives
pub record Splits {A C : Type 0} (p : Program) (whole : Plan C) (x : Plan A) (go : A → Plan C) : Type 0 where
  pub notes : (ms ns : List Mark) (a : A) (c : C) → Notes p x ms a → Notes p (go a) ns c → Notes p whole (ms ++ ns) c
  pub gives : (a : A) (r : Refusal) → Gives p x (Ok a) → Gives p (go a) (Err r) → Gives p whole (Err r)
  pub refuses : (r : Refusal) → Gives p x (Err r) → Gives p whole (Err r)

pub splits_then : {A C : Type 0} (p : Program) (x : Plan A) (go : A → Plan C) → Splits p (then_do x go) x go
splits_then p x go = record {
  notes = λ ms ns a c n k. then_notes p x go ms ns a c n k;
  gives = λ a r g h. then_gives p x go a (Err r) g h;
  refuses = λ r g. then_refuses p x go r g;
}

pub splits_want : {A C : Type 0} (p : Program) (t : Bool) (r : Refusal) (whole : Plan C) (x : Plan A) (go : A → Plan C) → Splits p whole x go
    → Splits p (wants t r whole) (wants t r x) go
splits_want p true r whole x go s = s
splits_want {A} {C} p false r whole x go s = record {
  notes = λ ms ns a c n k. absurd n;
  gives = λ a q g h. absurd (not_ok g);
  refuses = λ q g. other g;
} where
  not_ok : {A : Type 0} {a : A} {r : Refusal} → (let e : Result A Refusal = Ok a in e ≡ Err r) → ⊥
  not_ok e = cc

  other : {q : Refusal} → (let e : Result A Refusal = Err q in e ≡ Err r) → (let e : Result C Refusal = Err q in e ≡ Err r)
  other e = cc

pub splits_deep : {A B C : Type 0} (p : Program) (x : Plan B) (f : B → Plan A) (g : B → Plan C) (go : A → Plan C) → ((y : B) → Splits p (g y) (f y) go)
    → Splits p (then_do x g) (then_do x f) go
splits_deep {A} {B} {C} p x f g go s = record {
  notes = λ ms ns a c n k. of_notes ms ns a c k (then_noted x f ms a n);
  gives = λ a r h k. of_gives a r k (then_came x f a h);
  refuses = λ r h. of_refused r (then_refused x f r h);
} where
  of_notes : (ms ns : List Mark) (a : A) (c : C) → Notes p (go a) ns c → Noted p x f ms a → Notes p (then_do x g) (ms ++ ns) c
  of_notes ms ns a c k n =
      subst (λ (l : List Mark). Notes p (then_do x g) l c) (sym (ap (λ (l : List Mark). l ++ ns) n.all ∙ append_assoc n.before n.after ns))
      (then_notes p x g n.before (n.after ++ ns) n.first c n.noted ((s n.first).notes n.after ns a c n.then k))

  of_gives : (a : A) (r : Refusal) → Gives p (go a) (Err r) → Came p x f a → Gives p (then_do x g) (Err r)
  of_gives a r k h = then_gives p x g h.first (Err r) h.gave ((s h.first).gives a r h.then k)

  of_refused : (r : Refusal) → CameRefused p x f r → Gives p (then_do x g) (Err r)
  of_refused r (at_first h) = then_refuses p x g r h
  of_refused r (behind b h k) = then_gives p x g b (Err r) h ((s b).refuses r k)

module _ {A C : Type 0} (p : Program) (whole rest : Plan C) (x : Plan A) (go : A → Plan C) (m0 m1 m2 : Resolved) (l : Leads p whole rest m0 m1)
    (s : Splits p rest x go) where
  -- behind x
  pub split_leads : (a : A) → Went p x a m1 m2 → Leads p whole (go a) m0 m2
  split_leads a w = record {
    marks = l.marks ++ w.marks;
    added = adds_more l.added w.added;
    notes = λ ms c n. subst (λ (k : List Mark). Notes p whole k c) (sym (append_assoc l.marks w.marks ms))
        (l.notes (w.marks ++ ms) c (s.notes w.marks ms a c w.notes n));
    gives = λ r g. l.gives r (s.gives a r (notes_give p x w.marks a w.notes) g);
  }

  pub split_fault : {B D : Type 0} (given : D → A) (show : B → C) (later : Resolved) (f : CheckFault) → PlanTold p x given m1 m2 (Err f)
      → PlanTold p whole show m0 later (Err f)
  split_fault given show later (Refused r) g = l.gives r (s.refuses r g)
  split_fault given show later Memory g = tt

-- ---- values in a scope that grew before

pub values_behind : (pool : List Ty) (a b c : Scope) (o : Result Value CheckFault) → Grows a b → IfOk o (λ (v : Value). IsValue pool b c v)
    → IfOk o (λ (v : Value). IsValue pool a c v)
values_behind pool a b c (Ok v) g h = record { scope = h.scope; number = h.number; grows = grows_more g h.grows; fits = h.fits }
values_behind pool a b c (Err f) g h = tt
