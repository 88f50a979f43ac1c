-- Classes that the terms of a body name in a frame.
use Rattle.std.proofs.Common.{◌≡◌, ℕ, List, [], ◌∷◌, ◌++◌, length, reverse, Option, Some, None, Result, Ok, Err, refl, sym, ap, ◌∙◌, subst, arith}
use Rattle.std.specs.Prelude.{cond, nat_eq, slice_get, IfSome}
use Rattle.std.specs.Option.{option_map}
use Rattle.std.proofs.lemmas.List.{reverse-append}
use Rattle.jn_steps.specs.Steps.{Faults}
use Rattle.jn_base.specs.declared.tree.Name.{Name}
use Rattle.jn_base.specs.declared.tree.ViewTerm.{ViewTerm}
use Rattle.jn_base.specs.declared.tree.Program.{Program}
use Rattle.jn_base.specs.declared.path.Path.{Path as ShownPath}
use Rattle.jn_base.specs.declared.refusal.Refusal.{Refusal}
use Rattle.jn_base.specs.declared.types.Atom.{Atom as ShownAtom}
use Rattle.jn_base.specs.declared.types.Masks.{Masks}
use Rattle.jn_base.specs.declared.types.Ty.{Ty}
use Rattle.jn_base.specs.declared.types.Ty.TheVariants as ty
use Rattle.jn_base.specs.declared.names.Role.TheVariants as role
use Rattle.jn_base.specs.declared.names.Spot.{Spot}
use Rattle.jn_base.specs.declared.names.Vars.{Vars}
use Rattle.jn_base.specs.Paths.{Path}
use Rattle.jn_base.specs.Atoms.{Atom, atom_of, atom_at}
use Rattle.jn_base.specs.ResolveTypes.{mask_names, ResolveView}
use Rattle.jn_sem.specs.declared.outcome.Why.TheVariants as why
use Rattle.jn_sem.specs.Acts as acts
use Rattle.jn_sem.specs.Values as sem
use Rattle.jn_sem.specs.Sets.{Views, AnchorSeen, view_at}
use Rattle.jn_sem.specs.Sharing.{family_of}
use Rattle.jn_sem.specs.State as state
use Rattle.jn_sem.specs.State.{frame_views, view_of_var, site_of}
use Rattle.jn_sem.specs.Asks.{OnOnly}
use Rattle.jn_sem.specs.Does as does
use Rattle.jn_sem.specs.Does.{Way, Stuck, missing, goes, on_viewed, IsTargetFamily}
use Rattle.jn_sem.specs.Terms.{Site, spot, spot_at, vars_at}
use Rattle.jn_sem.proofs.FindingLaws.{finds_one}
use Rattle.jn_share.proofs.Names.{first_family}
use Rattle.jn_table.specs.declared.class.ClassId.{ClassId}
use Rattle.jn_meaning.specs.declared.heap.Heap.{Heap}
use Rattle.jn_meaning.specs.declared.frame.Frame.{Frame}
use Rattle.jn_meaning.specs.declared.did.Did.{Did}
use Rattle.jn_meaning.specs.declared.operators.Made.{Made}
use Rattle.jn_meaning.specs.declared.value.Value.{Value}
use Rattle.jn_meaning.specs.Values.{path_at, value_of, values_of}
use Rattle.jn_meaning.specs.Heaps.{heap_of}
use Rattle.jn_meaning.specs.Frames.{frame_of, did_of, variables_of}
use Rattle.jn_meaning.specs.Newest.{view_in}
use Rattle.jn_meaning.specs.Asked.{ViewTold}
use Rattle.jn_meaning.specs.declared.seen.Seen.{Seen}
use Rattle.jn_meaning.specs.Seen.{RootedAs, IsRooted, views_of}
use Rattle.jn_meaning.specs.Sites.{site_with}
use Rattle.jn_meaning.specs.Doing.{MadeDid}
use Rattle.jn_meaning.specs.Viewing.{ViewGives, TargetTold, NamedAs, NamedBy, FamilyOf}
use Rattle.jn_meaning.proofs.Finds.{found_only, none_only}
use Rattle.jn_meaning.proofs.Steps.{at_first}
use Rattle.jn_meaning.proofs.Variables.{view_seen}
use Rattle.jn_meaning.proofs.LocalsBound.{site_is}

pub one_alone : {A : Type 0} (xs : List A) (x : A) → length xs ≡ 1 → Some x ≡ slice_get xs 0 → xs ≡ x ∷ []
one_alone [] x l e = absurd (omega (arith, l))
one_alone {A} (y ∷ []) x l e = let a : y ≡ x = cc in ap (λ (z : A). z ∷ []) a
one_alone (y ∷ z ∷ xs) x l e = absurd (omega (arith, l))

pub alone_of : {A : Type 0} (xs : List A) (o : Option A) → length xs ≡ 1 → o ≡ slice_get xs 0 → IfSome o (λ x. xs ≡ x ∷ [])
alone_of xs None l e = tt
alone_of xs (Some x) l e = one_alone xs x l e

-- ---- what a target stands for

target_two : (r : Refusal) (a : Ty) → ◌≡◌ {A = Result Ty Refusal} (Err r) (Ok a) → ⊥
target_two r a e = cc

target_same : (a b : Ty) → ◌≡◌ {A = Result Ty Refusal} (Ok a) (Ok b) → a ≡ b
target_same a b e = cc

module _ (p : Program) (Q : Path) (m : Name) (vars : Vars) (names : List Name) (is : names ≡ mask_names p) (s : Spot) (e : s ≡ spot Q m role.View) (v : ViewTerm) where
  abbrev at : Site
  at = site_with Q m vars

  as_given : (o : Result Ty Refusal) → ResolveView p names s vars v o → ResolveView p (mask_names p) (spot_at at role.View) (vars_at at) v o
  as_given o r = subst (λ (ns : List Name). ResolveView p ns (spot_at at role.View) vars v o) is (subst (λ (x : Spot). ResolveView p names x vars v o) e r)

  as_asked : (o : Result Ty Refusal) → ResolveView p (mask_names p) (spot_at at role.View) (vars_at at) v o → ResolveView p names s vars v o
  as_asked o r = subst (λ (x : Spot). ResolveView p names x vars v o) (sym e) (subst (λ (ns : List Name). ResolveView p ns (spot_at at role.View) vars v o) (sym is) r)

  pub target_told : (given : Ty) → ResolveView p names s vars v (Ok given) → ((o : Result Ty Refusal) → ResolveView p names s vars v o → Ok given ≡ o) → TargetTold p at v (Some given)
  target_told given r only = (as_given (Ok given) r, λ u k. target_same given u (only (Ok u) (as_asked (Ok u) k)))

  pub target_refused : (r : Refusal) → ((o : Result Ty Refusal) → ResolveView p names s vars v o → Err r ≡ o) → TargetTold p at v None
  target_refused r only u k = target_two r u (only (Ok u) (as_asked (Ok u) k))

-- ---- the class that an atom names

pub seen_views : (known : List ShownPath) (f : Frame) (this : Option ClassId) → this ≡ view_in f.this
    → (λ (q : ℕ). cond (nat_eq q 0) (option_map (path_at known) this) (view_of_var (variables_of known f.locals) q)) ≡ frame_views (frame_of known f)
seen_views known f this e i q = cond (nat_eq q 0) ((ap (option_map (path_at known)) e ∙ sym (view_seen known f.this)) i) (view_of_var (variables_of known f.locals) q)

pub named_as : (v : Views) (x y : ShownAtom) (names : List Name) → RootedAs v x y → names ≡ y.exact ++ y.names → NamedAs v x (Some names)
named_as v x y names r is = (
  r.seen,
  ap reverse is ∙ reverse-append y.exact y.names ∙ ap (λ (ns : List Name). reverse ns ++ reverse y.exact) r.names
      ∙ ap (λ (es : Path). reverse x.names ++ es) r.exact,
)

pub rooted_is : (known : List ShownPath) (s : Seen) (x : ShownAtom) (o : Option ShownAtom) (y : ShownAtom) → IsRooted known s x o → o ≡ Some y → RootedAs (views_of known s) x y
rooted_is known s x o y r e = subst (λ (o : Option ShownAtom). IsRooted known s x o) e r

pub unrooted_is : (known : List ShownPath) (s : Seen) (x : ShownAtom) (o : Option ShownAtom) → IsRooted known s x o → o ≡ None → AnchorSeen (views_of known s) x.anchor → ⊥
unrooted_is known s x o r e = subst (λ (o : Option ShownAtom). IsRooted known s x o) e r

-- ---- the family of a target

no_first_name : (names : List Name) → None ≡ slice_get names 0 → family_of (reverse names) ≡ None
no_first_name [] e = refl
no_first_name (x ∷ names) e = cc

no_family : (Y : Name) (o : Option Name) → o ≡ None → o ≡ Some Y → ⊥
no_family Y o a b = cc

one_of : (a b : ShownAtom) (m n : Masks) → ty.Class (a ∷ []) m ≡ ty.Class (b ∷ []) n → a ≡ b
one_of a b m n e = cc

module _ (p : Program) (known : List ShownPath) (f : Frame) (v : ViewTerm) (id : ClassId) (pair : length f.locals.vars.list ≡ length f.locals.values.items) (class : f.class ≡ Some id) where
  target_here : (o : Option Ty) → TargetTold p (site_with (path_at known id) f.method.now.name.name f.locals.vars) v o → TargetTold p (site_of (frame_of known f)) v o
  target_here o k = subst (λ (z : Site). TargetTold p z v o) (sym (site_is known f id pair class)) k

  pub no_target : TargetTold p (site_with (path_at known id) f.method.now.name.name f.locals.vars) v None → FamilyOf p known f v None
  no_target k vs Y h = target_here None k (ty.Class (h.resolved.given ∷ []) h.resolved.masks) h.resolved.resolved

  module _ (given : Ty) (told : TargetTold p (site_with (path_at known id) f.method.now.name.name f.locals.vars) v (Some given)) (x : ShownAtom) (m : Masks) (is : given ≡ ty.Class (x ∷ []) m) where
    resolved : ViewGives p (site_of (frame_of known f)) v (ty.Class (x ∷ []) m)
    resolved = subst (ViewGives p (site_of (frame_of known f)) v) is (target_here (Some given) told).0

    same_atom : (vs : List sem.Value) (Y : Name) (h : IsTargetFamily p (record (frame_of known f) { vals = vs }) v Y) → h.atom ≡ atom_of x
    same_atom vs Y h =
        h.resolved.is ∙ ap atom_of (sym (one_of x h.resolved.given m h.resolved.masks (sym is ∙ (target_here (Some given) told).1 _ h.resolved.resolved)))

    pub unseen_family : NamedBy known f x None → FamilyOf p known f v None
    unseen_family n vs Y h = n (subst (λ (a : Atom). AnchorSeen (frame_views (frame_of known f)) a.anchor) (same_atom vs Y h) h.seen)

    named_none : (names : List Name) → NamedBy known f x (Some names) → None ≡ slice_get names 0 → FamilyOf p known f v None
    named_none names n e vs Y h =
        no_family Y _ (ap family_of (sym n.1) ∙ no_first_name names e)
        (ap (λ (a : Atom). family_of (atom_at (view_at (frame_views (frame_of known f))) a)) (sym (same_atom vs Y h)) ∙ h.is)

    named_some : (names : List Name) → NamedBy known f x (Some names) → (Y : Name) → Some Y ≡ slice_get names 0 → FamilyOf p known f v (Some Y)
    named_some names n Y e vs = record {
      atom = atom_of x;
      resolved = record { given = x; masks = m; resolved = resolved; is = refl };
      seen = n.0;
      is = ap family_of (sym n.1) ∙ first_family names Y (sym e);
    }

    pub named_family : (names : List Name) → NamedBy known f x (Some names) → (o : Option Name) → o ≡ slice_get names 0 → FamilyOf p known f v o
    named_family names n None e = named_none names n e
    named_family names n (Some Y) e = named_some names n Y e

-- ---- a view

module _ (p : Program) (known : List ShownPath) (f : Frame) (t : ViewTerm) (v : Value) (rest : List Value) (first : f.vals ≡ v ∷ rest) (h : Heap) where
  abbrev F : state.Frame
  F = frame_of known f

  abbrev H : state.Heap
  H = heap_of known h

  abbrev Viewed : does.Did → Type 0
  Viewed d = (m : ℕ) → does.Does p m (acts.View t) F H d

  abbrev target_way : sem.Value → List sem.Value → Name → Way
  target_way u us Y = on_viewed p Y u (λ w. goes F (w ∷ us) H)

  pub views_nothing : FamilyOf p known (record f { vals = rest }) t None → Viewed (Faults (Stuck why.Missing))
  views_nothing n m =
      at_first known f v rest (λ u us. OnOnly (IsTargetFamily p F t) missing (target_way u us)) _ first
      (none_only (IsTargetFamily p F t) missing (target_way (value_of known v) (values_of known rest)) _ (n (values_of known f.vals)) refl)

  pub views : (Y : Name) (made : Made) (d : Did) (g : Frame) → FamilyOf p known (record f { vals = rest }) t (Some Y) → ViewTold p known Y v made → MadeDid (record f { vals = rest }) made d g
      → Viewed (did_of known d (frame_of known g) H)
  views Y made d g fam k is m =
      let e = did_of known d (frame_of known g) H in
      at_first known f v rest (λ u us. OnOnly (IsTargetFamily p F t) missing (target_way u us)) e first
      (found_only (IsTargetFamily p F t) missing (target_way (value_of known v) (values_of known rest)) e ((finds_one p).family F t) Y (fam (values_of known f.vals))
      (subst (target_way (value_of known v) (values_of known rest) Y) (sym (is known H)) (k (frame_of known (record f { vals = rest })) (values_of known rest) H)))
