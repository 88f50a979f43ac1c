-- Calls of `super`.
use Rattle.std.proofs.Common.{◌≡◌, ◌<◌, ◌⊎◌, inl, inr, ℕ, List, [], ◌∷◌, ◌++◌, length, map, reverse, Option, Some, None, Bool, Result, Ok, refl, sym, ap, ◌∙◌, subst, arith}
use Rattle.std.proofs.lemmas.List.{reverse-reverse}
use Rattle.jn_steps.specs.Steps.{Enters, Faults}
use Rattle.jn_base.specs.declared.tree.Name.{Name}
use Rattle.jn_base.specs.declared.tree.Term.{Term}
use Rattle.jn_base.specs.declared.tree.Program.{Program}
use Rattle.jn_base.specs.declared.names.Role.TheVariants as role
use Rattle.jn_base.specs.declared.path.Path.{Path as ShownPath}
use Rattle.jn_base.specs.declared.types.Atom.{Atom as ShownAtom}
use Rattle.jn_base.specs.Paths.{Path}
use Rattle.jn_base.specs.Universe.{InUniverse}
use Rattle.jn_base.specs.Atoms.{atom_of, atom_at}
use Rattle.jn_base.specs.Scopes.{bound_of}
use Rattle.jn_names.specs.Scoped.{scope_from}
use Rattle.jn_sem.specs.declared.outcome.Why.TheVariants as why
use Rattle.jn_sem.specs.Acts as acts
use Rattle.jn_sem.specs.Values as sem
use Rattle.jn_sem.specs.State as state
use Rattle.jn_sem.specs.State.{site_of}
use Rattle.jn_sem.specs.Terms.{Site, SuperBound}
use Rattle.jn_sem.specs.Asks.{OnOnly, OnSome, It}
use Rattle.jn_sem.specs.Does as does
use Rattle.jn_sem.specs.Does.{Way, Body, Entry, IsBody, Stuck, missing, waiting, args_of, on_entry, calls}
use Rattle.jn_sem.proofs.FindingLaws.{finds_one}
use Rattle.jn_share.proofs.Numbered.{heir_none, none_known}
use Rattle.jn_base.proofs.Reaching.{declared_in_universe}
use Rattle.jn_table.specs.declared.class.ClassId.{ClassId}
use Rattle.jn_table.specs.declared.table.Table.{Table}
use Rattle.jn_table.specs.Tables.{IsFilled}
use Rattle.jn_names.specs.Bounds.{HasNone}
use Rattle.jn_meaning.specs.declared.heap.Heap.{Heap}
use Rattle.jn_meaning.specs.declared.frame.Frame.{Frame}
use Rattle.jn_meaning.specs.declared.did.Did.{Did}
use Rattle.jn_meaning.specs.declared.did.Did.TheVariants as did
use Rattle.jn_meaning.specs.declared.did.Ending.TheVariants as ending
use Rattle.jn_meaning.specs.declared.value.Value.{Value}
use Rattle.jn_meaning.specs.Values.{path_at, value_of, values_of}
use Rattle.jn_meaning.specs.Heaps.{heap_of}
use Rattle.jn_meaning.specs.Frames.{frame_of, did_of}
use Rattle.jn_meaning.specs.Tells.{Tells}
use Rattle.jn_meaning.specs.Calling.{CallsAt}
use Rattle.jn_meaning.specs.Sites.{site_with, TermTold}
use Rattle.jn_meaning.proofs.LocalsBound.{site_is}
use Rattle.jn_meaning.proofs.NewObjects.{few_args}
use Rattle.jn_meaning.proofs.Finds.{found_only, none_only}
use Rattle.jn_meaning.proofs.Receivers.{args_had}
use Rattle.jn_meaning.proofs.Variables.{values_long}

-- ---- a path without a number

-- has no body
pub no_body : (p : Program) (t : Table) (B : Path) → IsFilled p t → HasNone t B → (m : Name) (b : Body) → IsBody p B m b → ⊥
no_body p t B f n m b k = heir_none p t B b.class f other n k.least.among.super
  where
    other : B ≡ b.class → ⊥
    other e = none_known p t B f n (subst (InUniverse p) (sym e) (declared_in_universe p b.class k.at.decl k.at.stands))

pub calls_nowhere : (p : Program) (known : List ShownPath) (B : Path) (m : Name) (all : List Value) → ((b : Body) → IsBody p B m b → ⊥)
    → CallsAt p known B m all (did.Ended (ending.Stuck why.Missing))
calls_nowhere p known B m all n r args F H e =
    none_only (IsBody p B m) missing (λ (b : Body). on_entry p b (values_of known args) (λ (e : Entry). It (Enters e (value_of known r ∷ values_of known args) F H))) _ n refl

pub calls_numbered : (p : Program) (known : List ShownPath) (B C : Path) (m : Name) (all : List Value) (d : Did) → C ≡ B → CallsAt p known C m all d → CallsAt p known B m all d
calls_numbered p known B C m all d e k = subst (λ (P : Path). CallsAt p known P m all d) e k

-- ---- the act

module _ (p : Program) (known : List ShownPath) (h : Heap) (f : Frame) (t : Term) (name : Name) (n : ℕ) (keeps : Bool) where
  abbrev F : state.Frame
  F = frame_of known f

  abbrev H : state.Heap
  H = heap_of known h

  abbrev bound_way : List sem.Value → List sem.Value → Path → Way
  bound_way us vs B = calls p B name F.this us (waiting keeps F vs) H

  abbrev args_way : List sem.Value × List sem.Value → Way
  args_way x = OnOnly (SuperBound p (site_of F) t) missing (bound_way x.0 x.1)

  abbrev Called : does.Did → Type 0
  Called d = (m : ℕ) → does.Does p m (acts.Super t name n keeps) F H d

  pub super_few : length f.vals < n → Called (Faults (Stuck why.Missing))
  super_few l m = few_args n [] (values_of known f.vals) args_way (omega (arith, l, values_long known f.vals))

  module _ (args rest : List Value) (l : length args ≡ n) (e : f.vals ≡ reverse args ++ rest) where
    had : (d : does.Did) → args_way (values_of known args, values_of known rest) d → Called d
    had d k m =
        subst (λ (o : Option (List sem.Value × List sem.Value)). OnSome o missing args_way d) (sym (args_had known args rest f.vals n l e)) k

    pub super_nothing : Tells (SuperBound p (site_of F) t) None → Called (Faults (Stuck why.Missing))
    super_nothing k = had _ (none_only (SuperBound p (site_of F) t) missing (bound_way (values_of known args) (values_of known rest)) _ k refl)

    pub super_there : (B : Path) → Tells (SuperBound p (site_of F) t) (Some B) → (all : List Value) → all ≡ f.this ∷ args → (d : Did) → CallsAt p known B name all d
        → Called (did_of known d (frame_of known (record f { vals = rest; keeps = keeps })) H)
    super_there B k all is d c =
        had _ (found_only (SuperBound p (site_of F) t) missing (bound_way (values_of known args) (values_of known rest)) _ ((finds_one p).super_bound (site_of F) t) B k
        (c f.this args (frame_of known (record f { vals = rest; keeps = keeps })) H is))

-- ---- the bound

module _ (p : Program) (known : List ShownPath) (f : Frame) (t : Term) (id : ClassId) (pair : length f.locals.vars.list ≡ length f.locals.values.items) (class : f.class ≡ Some id) where
  abbrev S : Site
  S = site_with (path_at known id) f.method.now.name.name f.locals.vars

  here : (o : Option Path) → Tells (SuperBound p S t) o → Tells (SuperBound p (site_of (frame_of known f)) t) o
  here o k = subst (λ (z : Site). Tells (SuperBound p z t) o) (sym (site_is known f id pair class)) k

  pub no_bound : TermTold p role.Super S t None → Tells (SuperBound p (site_of (frame_of known f)) t) None
  no_bound k = here None (λ B h. k h.given h.resolved)

  pub bound_told : (x : ShownAtom) → TermTold p role.Super S t (Some x) → (outer b : Path) → outer ≡ path_at known id → b ≡ atom_at (bound_of (scope_from outer f.locals.vars.list)) (atom_of x)
      → Tells (SuperBound p (site_of (frame_of known f)) t) (Some b)
  bound_told x k outer b e is = here (Some b) (record {
    given = x;
    resolved = k;
    is = is ∙ ap (λ (Q : Path). atom_at (bound_of (scope_from Q f.locals.vars.list)) (atom_of x)) (e ∙ sym (reverse-reverse (path_at known id)));
  })
