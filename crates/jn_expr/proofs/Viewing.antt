-- View changes, step by step.
use Rattle.std.proofs.Common.{◌≡◌, List, [], ◌∷◌, Bool, true, false, Option, Some, Result, Ok, Err, refl, sym, ap, subst, cond}
use Rattle.jn_base.specs.declared.tree.Name.{Name}
use Rattle.jn_base.specs.declared.tree.Place.{Place}
use Rattle.jn_base.specs.declared.tree.ViewTerm.{ViewTerm}
use Rattle.jn_base.specs.declared.tree.Program.{Program}
use Rattle.jn_base.specs.declared.types.Atom.{Atom as ShownAtom}
use Rattle.jn_base.specs.declared.types.Masks.{Masks}
use Rattle.jn_base.specs.declared.types.Ty.{Ty}
use Rattle.jn_base.specs.declared.names.Role.TheVariants as role
use Rattle.jn_base.specs.declared.names.Spot.{Spot}
use Rattle.jn_base.specs.declared.names.Resolved.{Resolved}
use Rattle.jn_base.specs.declared.refusal.Refusal.{Refusal}
use Rattle.jn_base.specs.declared.path.Path.{Path as ShownPath}
use Rattle.jn_base.specs.Paths.{Path}
use Rattle.jn_table.specs.declared.class.ClassId.{ClassId}
use Rattle.jn_views.specs.declared.held.Held.{Held}
use Rattle.jn_base.specs.Scopes.{Scope as TypeScope}
use Rattle.jn_base.specs.ResolveTypes.{mask_names, ResolveView}
use Rattle.jn_names.specs.Answers.{Told as NameTold}
use Rattle.jn_names.specs.declared.fault.NameFault.{NameFault}
use Rattle.jn_names.specs.declared.fault.NameFault.TheVariants as names
use Rattle.jn_sem.specs.Terms.{spot_at, vars_at}
use Rattle.jn_sem.specs.NormalFunction.{normal_type}
use Rattle.jn_rules.proofs.Targets.{target_of}
use Rattle.jn_heads.specs.declared.fault.CheckFault.{CheckFault}
use Rattle.jn_heads.specs.declared.fault.CheckFault.TheVariants.{Refused, Memory}
use Rattle.jn_heads.specs.Told.{of_names, itself}
use Rattle.jn_rules.specs.Plans.{Target, target_type, Holding, Refuted, AtomMark, OfView, OfSharing, Plan, note, ask, taken}
use Rattle.jn_rules.specs.Questions.{as_type, TargetIs, Notes, SharingGives}
use Rattle.jn_rules.specs.Exprs.{Here, Typed, site_here, plain, gives, shared_or, not_shared, viewed_as, by_sharing, header_grants, is_object, is_null_type, mismatch}
use Rattle.jn_expr.specs.Told.{Adds, PlanTold, QuietTold, FaultIs}
use Rattle.jn_expr.specs.Steps.{SharingTold}
use Rattle.jn_expr.specs.Viewing.{TargetTold, TargetLeads, granted_or, changed}
use Rattle.jn_expr.proofs.Leading.{leads_here, leads_ask, leads_note, leads_told, leads_is, leads_want, leads_refused, leads_quiet, leads_quiet_fault}

-- ---- targets

module _ (p : Program) (h : Here) (v : ViewTerm) (masks : List Name) (sp : Spot) (e : masks ≡ mask_names p) (i : sp ≡ spot_at (site_here h) role.View) where
  view_is : (o : Result Ty Refusal) → ResolveView p masks sp (vars_at (site_here h)) v o → ResolveView p (mask_names p) (spot_at (site_here h) role.View) (vars_at (site_here h)) v o
  view_is o g =
      subst (λ (ns : List Name). ResolveView p ns (spot_at (site_here h) role.View) (vars_at (site_here h)) v o) e
      (subst (λ (s : Spot). ResolveView p masks s (vars_at (site_here h)) v o) i g)

  pub target_there : (u : Ty) → ResolveView p masks sp (vars_at (site_here h)) v (Ok u) → (x : Target) × TargetIs p role.View (site_here h) v (Ok x) × (u ≡ target_type x)
  target_there u g = of (view_is (Ok u) g) where
    at : (y : Result Target Refusal) × (let o : Result Ty Refusal = Ok u in o ≡ as_type y)
        → ResolveView p (mask_names p) (spot_at (site_here h) role.View) (vars_at (site_here h)) v (Ok u) → (x : Target) × TargetIs p role.View (site_here h) v (Ok x) × (u ≡ target_type x)
    at (Ok x, f) k = (
      x,
      subst (λ (o : Result Ty Refusal). ResolveView p (mask_names p) (spot_at (site_here h) role.View) (vars_at (site_here h)) v o) f k,
      same f,
    ) where
      same : (let o : Result Ty Refusal = Ok u in o ≡ Ok (target_type x)) → u ≡ target_type x
      same g = cc g
    at (Err s, f) k = absurd (not_both f) where
      not_both : (let o : Result Ty Refusal = Ok u in o ≡ Err s) → ⊥
      not_both g = cc g

    of : ResolveView p (mask_names p) (spot_at (site_here h) role.View) (vars_at (site_here h)) v (Ok u) → (x : Target) × TargetIs p role.View (site_here h) v (Ok x) × (u ≡ target_type x)
    of k = at (target_of p (mask_names p) (spot_at (site_here h) role.View) (vars_at (site_here h)) v.term v.masks (Ok u) k.atoms k.all k.gives) k

  pub target_refused : (fault : NameFault) (f : CheckFault) → f ≡ of_names fault → NameTold (ResolveView p masks sp (vars_at (site_here h)) v) (Err fault) → TargetTold p h v (Err f)
  target_refused fault f n g = subst (λ (c : CheckFault). TargetTold p h v (Err c)) (sym n) (of fault g) where
    of : (x : NameFault) → NameTold (ResolveView p masks sp (vars_at (site_here h)) v) (Err x) → TargetTold p h v (Err (of_names x))
    of (names.Refused s) k = view_is (Err s) k
    of names.Memory k = tt

module _ (p : Program) (h : Here) (v : ViewTerm) (go : Target → Plan Typed) (before : Resolved) where
  abbrev view_asked : Plan Typed
  view_asked = ask (OfView (site_here h) v) (taken (λ u. note (AtomMark u.atom) (go u)))

  pub view_fault : (after : Resolved) (f : CheckFault) → TargetTold p h v (Err f) → TargetLeads p view_asked go before after (Err f)
  view_fault after (Refused r) g = (Err r, g, refl)
  view_fault after Memory g = tt

  pub view_begun : (after : Resolved) (t : Ty) (x : ShownAtom) → (told : (u : Target) × TargetIs p role.View (site_here h) v (Ok u) × (t ≡ target_type u))
      → ((u : Target) → t ≡ target_type u → (let o : Option ShownAtom = Some x in o ≡ Some u.atom)) → Adds (AtomMark x ∷ []) before after
      → TargetLeads p view_asked go before after (Ok t)
  view_begun after t x told atom d = (
    told.0,
    told.2,
    leads_note (leads_ask (leads_here view_asked before) (Ok told.0) told.1) (subst (λ (y : ShownAtom). Adds (AtomMark y ∷ []) before after) (same (atom told.0 told.2)) d),
  ) where
    same : {y : ShownAtom} → (let o : Option ShownAtom = Some x in o ≡ Some y) → x ≡ y
    same g = cc g

-- ---- a value of a type and a scope that are equal to others

pub retyped : {B : Type 0} (p : Program) (show : B → Typed) (before after : Resolved) (o : Result B CheckFault) (a b : Ty) (c d : TypeScope) → a ≡ b → c ≡ d
    → PlanTold p (gives (plain a c)) show before after o → PlanTold p (gives (plain b d)) show before after o
retyped p show before after o a b c d e f g =
    subst (λ (s : TypeScope). PlanTold p (gives (plain b s)) show before after o) f (subst (λ (t : Ty). PlanTold p (gives (plain t c)) show before after o) e g)

-- ---- by sharing

pub sharing_for : (p : Program) (known : List ShownPath) (s : TypeScope) (t : Ty) (u : Target) (a : ShownAtom) (m : Masks) (held is : Held) → a ≡ u.atom → m ≡ u.masks
    → held ≡ is → SharingTold p known s t (record { atom = a; masks = m }) held → SharingTold p known s t u is
sharing_for p known s t u a m held is e f g h =
    subst (SharingTold p known s t u) g
    (subst (λ (n : Masks). SharingTold p known s t (record { atom = u.atom; masks = n }) held) f
    (subst (λ (b : ShownAtom). SharingTold p known s t (record { atom = b; masks = m }) held) e h))

module _ {B : Type 0} (p : Program) (show : B → Typed) (before after : Resolved) (at : Place) (s : TypeScope) (t : Ty) (u : Target) where
  pub shared_told : (o : Result B CheckFault) → SharingGives p s t u Holding → PlanTold p (gives (viewed_as u s)) show before after o
      → PlanTold p (ask (OfSharing s t u) (shared_or at (viewed_as u s))) show before after o
  shared_told o g h = leads_told show after (leads_ask (leads_here (ask (OfSharing s t u) (shared_or at (viewed_as u s))) before) Holding g) o h

  pub refuted_told : (known : List ShownPath) (id : ClassId) (U b : Path) (f : Option Name) (fault : CheckFault) → SharingGives p s t u (Refuted U f) → b ≡ U
      → FaultIs fault (not_shared at b f) → PlanTold p (ask (OfSharing s t u) (shared_or at (viewed_as u s))) show before after (Err fault)
  refuted_told known id U b f fault g e h =
      leads_refused show after (not_shared at U f)
      (leads_ask (leads_here (ask (OfSharing s t u) (shared_or at (viewed_as u s))) before) (Refuted U f) g) fault
      (subst (λ (R : Path). FaultIs fault (not_shared at R f)) e h)

-- ---- by the header

module _ {B : Type 0} (p : Program) (show : B → Typed) (before now after : Resolved) (same : now ≡ before) (h : Here) (at : Place) (u : Target) (t : Ty) (s : TypeScope) where
  abbrev grant_go : Bool → Plan Typed
  grant_go ok = cond ok (gives (viewed_as u s)) (by_sharing at s t u (viewed_as u s) u.atom.anchor)

  pub granted_fault : (f : CheckFault) → QuietTold {B = Bool} p (header_grants h s t u) itself (Err f) → PlanTold p (granted_or h at u t s) show before after (Err f)
  granted_fault f g = leads_quiet_fault itself show (header_grants h s t u) grant_go after (leads_here (granted_or h at u t s) before) f g

  pub granted_told : (ok : Bool) (o : Result B CheckFault) → QuietTold {B = Bool} p (header_grants h s t u) itself (Ok ok)
      → PlanTold p (cond ok (gives (viewed_as u s)) (by_sharing at s t u (viewed_as u s) u.atom.anchor)) show now after o → PlanTold p (granted_or h at u t s) show before after o
  granted_told ok o n g =
      leads_told show after (leads_quiet (header_grants h s t u) grant_go ok (leads_here (granted_or h at u t s) before) n) o
      (subst (λ (m : Resolved). PlanTold p (grant_go ok) show m after o) same g)

pub by_sharing_at : {B : Type 0} (p : Program) (show : B → Typed) (before after : Resolved) (o : Result B CheckFault) (at : Place) (u : Target) (s s1 : TypeScope) (t t1 : Ty)
    → s1 ≡ s → t1 ≡ t → PlanTold p (by_sharing at s1 t1 u (viewed_as u s1) u.atom.anchor) show before after o
    → PlanTold p (by_sharing at s t u (viewed_as u s) u.atom.anchor) show before after o
by_sharing_at p show before after o at u s s1 t t1 e f h =
    subst (λ (y : Ty). PlanTold p (by_sharing at s y u (viewed_as u s) u.atom.anchor) show before after o) f
    (subst (λ (c : TypeScope). PlanTold p (by_sharing at c t1 u (viewed_as u c) u.atom.anchor) show before after o) e h)

pub viewed_at : {B : Type 0} (p : Program) (show : B → Typed) (before after : Resolved) (o : Result B CheckFault) (u : Target) (s s1 : TypeScope) (t : Ty)
    → s1 ≡ s → t ≡ target_type u → PlanTold p (gives (plain (normal_type s1 t) s1)) show before after o → PlanTold p (gives (viewed_as u s)) show before after o
viewed_at p show before after o u s s1 t e f h =
    subst (λ (y : Ty). PlanTold p (gives (plain (normal_type s y) s)) show before after o) f
    (subst (λ (c : TypeScope). PlanTold p (gives (plain (normal_type c t) c)) show before after o) e h)

pub quiet_is : (p : Program) (x : Plan Bool) (ok b : Bool) → ok ≡ b → QuietTold {B = Bool} p x itself (Ok ok) → QuietTold {B = Bool} p x itself (Ok b)
quiet_is p x ok b e n = subst (λ (d : Bool). Notes p x [] d) e n

module _ {B : Type 0} (p : Program) (show : B → Typed) (before after : Resolved) (o : Result B CheckFault) (h : Here) (at place : Place) (u : Target) (x : Typed)
    (object : is_object x.ty ≡ true) where
  abbrev unless_null : Bool → Plan Typed
  unless_null b = cond b (gives (viewed_as u x.scope)) (granted_or h at u x.ty x.scope)

  pub changed_null : is_null_type x.ty ≡ true → PlanTold p (gives (viewed_as u x.scope)) show before after o → PlanTold p (changed h at place u x) show before after o
  changed_null e g =
      leads_told show after (leads_is (ap unless_null e) (leads_want (is_object x.ty) (mismatch h place) object (leads_here (changed h at place u x) before))) o g

  pub changed_other : is_null_type x.ty ≡ false → PlanTold p (granted_or h at u x.ty x.scope) show before after o → PlanTold p (changed h at place u x) show before after o
  changed_other e g =
      leads_told show after (leads_is (ap unless_null e) (leads_want (is_object x.ty) (mismatch h place) object (leads_here (changed h at place u x) before))) o g
