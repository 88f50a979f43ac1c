-- Results.
use Rattle.std.proofs.Common.{◌≡◌, ◌↔◌, ◌≤◌, ◌+◌, ℕ, zero, suc, List, [], ◌∷◌, ◌++◌, length, take, map, Option, Some, None, Bool, true, false, IsTrue, refl, sym, ap, ◌∙◌, subst, add-one, arith}
use Rattle.std.specs.Prelude.{cond, nat_eq, slice_get}
use Rattle.std.specs.Option.{option_map}
use Rattle.jn_reach.proofs.Searches.{not_when}
use Rattle.jn_steps.specs.Steps.{Faults, Leaves}
use Rattle.jn_base.specs.declared.tree.TypeTerm.{TypeTerm}
use Rattle.jn_base.specs.declared.names.Var.{Var}
use Rattle.jn_base.specs.declared.names.Vars.{Vars}
use Rattle.jn_base.specs.declared.tree.Program.{Program}
use Rattle.jn_base.specs.declared.path.Path.{Path as ShownPath}
use Rattle.jn_base.specs.declared.types.Ty.{Ty}
use Rattle.jn_sem.specs.declared.outcome.Why.TheVariants as why
use Rattle.jn_sem.specs.Acts as acts
use Rattle.jn_sem.specs.Values as sem
use Rattle.jn_sem.specs.Sets.{Views}
use Rattle.jn_sem.specs.State as state
use Rattle.jn_sem.specs.State.{Variable, IsIn, with_values, declared_vars, view_of_var, frame_views, result_site}
use Rattle.jn_sem.specs.Asks.{holds, fails, It}
use Rattle.jn_sem.specs.Does as does
use Rattle.jn_sem.specs.Does.{Way, Stuck, missing, on_typed, returns}
use Rattle.jn_sem.specs.Terms.{Site, TypeIs}
use Rattle.jn_sem.proofs.FindingLaws.{finds_one}
use Rattle.jn_table.specs.declared.class.ClassId.{ClassId}
use Rattle.jn_meaning.specs.declared.heap.Heap.{Heap}
use Rattle.jn_meaning.specs.declared.frame.Frame.{Frame}
use Rattle.jn_meaning.specs.declared.locals.Locals.{Locals}
use Rattle.jn_meaning.specs.declared.did.Did.{Did}
use Rattle.jn_meaning.specs.declared.did.Did.TheVariants as did
use Rattle.jn_meaning.specs.declared.did.Ending.TheVariants as ending
use Rattle.jn_meaning.specs.declared.value.Value.{Value}
use Rattle.jn_meaning.specs.Values.{path_at, value_of, values_of}
use Rattle.jn_meaning.specs.Heaps.{heap_of}
use Rattle.jn_meaning.specs.Frames.{frame_of, did_of, variables_of, class_in}
use Rattle.jn_meaning.specs.Newest.{view_in}
use Rattle.jn_meaning.specs.Tells.{Tells}
use Rattle.jn_meaning.specs.Sites.{site_with}
use Rattle.jn_meaning.specs.Leaving.{untyped, AreUntyped, LeavesAs, ReturnsAs}
use Rattle.jn_meaning.proofs.Lists.{take_all}
use Rattle.jn_meaning.proofs.Finds.{found_only, none_only}
use Rattle.jn_meaning.proofs.Steps.{at_first, at_none}
use Rattle.jn_meaning.proofs.Variables.{values_long, with_declared, view_seen}

-- ---- variables without their types

more_at : (xs : List Var) (i : ℕ) (x : Var) → slice_get xs i ≡ Some x → map untyped (take i xs) ++ untyped x ∷ [] ≡ map untyped (take (suc i) xs)
more_at [] i x e = absurd (cc)
more_at (y ∷ xs) zero x e = let a : x ≡ y = cc in ap (λ (z : Var). untyped z ∷ []) a
more_at (y ∷ xs) (suc i) x e = ap (λ (us : List Var). untyped y ∷ us) (more_at xs i x e)

pub untyped_more : (all xs new : List Var) (i : ℕ) (x : Var) → all ≡ map untyped (take i xs) → slice_get xs i ≡ Some x → new ≡ all ++ untyped x ∷ [] → new ≡ map untyped (take (i + 1) xs)
untyped_more all xs new i x e at n =
    n ∙ ap (λ (us : List Var). us ++ untyped x ∷ []) e ∙ more_at xs i x at ∙ ap (λ (k : ℕ). map untyped (take k xs)) (sym (add-one i))

pub untyped_all : (old new : Locals) (i : ℕ) → length old.vars.list ≡ length old.values.items → length old.values.items ≤ i
    → new.vars.list ≡ map untyped (take i old.vars.list) → new.values.items ≡ take i old.values.items → AreUntyped old new
untyped_all old new i pair l vars values = record {
  vars = vars ∙ ap (map untyped) (take_all i old.vars.list (omega (arith, pair, l)));
  values = values ∙ take_all i old.values.items l;
}

untyped_view : (xs : List Var) (vs : List sem.Value) (q : ℕ) → view_of_var (with_values (map untyped xs) vs) q ≡ view_of_var (with_values xs vs) q
untyped_view [] vs q = refl
untyped_view (x ∷ xs) [] q = refl
untyped_view (x ∷ xs) (v ∷ vs) q = ap (cond (nat_eq q x.path) (state.view_in v)) (untyped_view xs vs q)

one_view : (known : List ShownPath) (old new : Locals) (q : ℕ) → AreUntyped old new → view_of_var (variables_of known new) q ≡ view_of_var (variables_of known old) q
one_view known old new q a =
    ap (λ (xs : List Var). view_of_var (with_values xs (values_of known new.values.items)) q) a.vars
    ∙ ap (λ (vs : List Value). view_of_var (with_values (map untyped old.vars.list) (values_of known vs)) q) a.values
    ∙ untyped_view old.vars.list (values_of known old.values.items) q

same_views : (known : List ShownPath) (f : Frame) (this : Option ClassId) (all : Locals) → this ≡ view_in f.this → AreUntyped f.locals all
    → (λ (q : ℕ). cond (nat_eq q 0) (option_map (path_at known) this) (view_of_var (variables_of known all) q)) ≡ frame_views (frame_of known f)
same_views known f this all e a i q = cond (nat_eq q 0) ((ap (option_map (path_at known)) e ∙ sym (view_seen known f.this)) i) (one_view known f.locals all q a i)

-- ---- a result in its type

module _ (p : Program) (known : List ShownPath) (h : Heap) (this : Value) (all : Locals) (t : Ty) (v : Value) (seen : Option ClassId) (told : Bool) (is : seen ≡ view_in this)
    (fit : IsTrue told ↔ IsIn p (λ (q : ℕ). cond (nat_eq q 0) (option_map (path_at known) seen) (view_of_var (variables_of known all) q)) (heap_of known h) t (value_of known v)) where
  fits_frame : (f : Frame) → f.this ≡ this → AreUntyped f.locals all → IsTrue told ↔ IsIn p (frame_views (frame_of known f)) (heap_of known h) t (value_of known v)
  fits_frame f e a =
      subst (λ (u : Views). IsTrue told ↔ IsIn p u (heap_of known h) t (value_of known v)) (same_views known f seen all (is ∙ ap view_in (sym e)) a) fit

  pub leaves_foreign : told ≡ false → LeavesAs p known h this all t v (did.Ended (ending.Stuck why.Foreign))
  leaves_foreign n f F e a = fails (not_when n (fits_frame f e a)) refl

  pub leaves_there : told ≡ true → LeavesAs p known h this all t v (did.Left (Some v))
  leaves_there y f F e a = holds ((fits_frame f e a).0 y) refl

-- ---- the type of a result

declared_take : (n : ℕ) (xs : List Variable) → declared_vars (take n xs) ≡ take n (declared_vars xs)
declared_take zero xs = refl
declared_take (suc n) [] = refl
declared_take (suc n) (x ∷ xs) = ap (λ (us : List Var). x.var ∷ us) (declared_take n xs)

pub result_at : (known : List ShownPath) (f : Frame) (id : ClassId) (vars : Vars) → length f.locals.vars.list ≡ length f.locals.values.items → f.class ≡ Some id
    → vars.list ≡ take (length f.method.now.params) f.locals.vars.list → result_site (frame_of known f) ≡ site_with (path_at known id) f.method.now.name.name vars
result_at known f id vars pair e is i = record {
  class = class_in known (e i);
  method = f.method.now.name.name;
  vars = (declared_take (length f.method.now.params) (variables_of known f.locals)
      ∙ ap (take (length f.method.now.params)) (with_declared f.locals.vars.list (values_of known f.locals.values.items) (pair ∙ sym (values_long known f.locals.values.items)))
      ∙ sym is) i;
}

module _ (p : Program) (known : List ShownPath) (h : Heap) (f : Frame) (t : TypeTerm) (v : Value) (id : ClassId) (vars : Vars) (pair : length f.locals.vars.list ≡ length f.locals.values.items)
    (class : f.class ≡ Some id) (is : vars.list ≡ take (length f.method.now.params) f.locals.vars.list) where
  abbrev R : Site
  R = result_site (frame_of known f)

  abbrev left : Ty → Way
  left u = on_typed p (frame_of known f) (heap_of known h) u (value_of known v) (It (Leaves (Some (value_of known v)) (heap_of known h)))

  type_here : (o : Option Ty) → Tells (TypeIs p (site_with (path_at known id) f.method.now.name.name vars) t) o → Tells (TypeIs p R t) o
  type_here o k = subst (λ (z : Site). Tells (TypeIs p z t) o) (sym (result_at known f id vars pair class is)) k

  pub returns_untyped : Tells (TypeIs p (site_with (path_at known id) f.method.now.name.name vars) t) None → ReturnsAs p known h f t v (did.Ended (ending.Stuck why.Missing))
  returns_untyped n F = none_only (TypeIs p R t) missing left _ (type_here None n) refl

  pub returns_typed : (u : Ty) (all : Locals) (d : Did) → Tells (TypeIs p (site_with (path_at known id) f.method.now.name.name vars) t) (Some u) → AreUntyped f.locals all
      → LeavesAs p known h f.this all u v d → ReturnsAs p known h f t v d
  returns_typed u all d k a l F = found_only (TypeIs p R t) missing left _ ((finds_one p).type R t) u (type_here (Some u) k) (l f F refl a)

-- ---- `return e`

module _ (p : Program) (known : List ShownPath) (h : Heap) (f : Frame) where
  abbrev Returned : does.Did → Type 0
  Returned d = (m : ℕ) → does.Does p m (acts.Return true) (frame_of known f) (heap_of known h) d

  abbrev returning : sem.Value → List sem.Value → Way
  returning u us = returns p (frame_of known f) (heap_of known h) f.method.now.result u

  pub returns_nothing : f.vals ≡ [] → Returned (Faults (Stuck why.Missing))
  returns_nothing e m = at_none known f returning e

  pub returns_unasked : (v : Value) (rest : List Value) → f.vals ≡ v ∷ rest → f.method.now.result ≡ None → Returned (Faults (Stuck why.Kind))
  returns_unasked v rest first is m =
      at_first known f v rest returning _ first
      (subst (λ (o : Option TypeTerm). returns p (frame_of known f) (heap_of known h) o (value_of known v) (Faults (Stuck why.Kind))) (sym is) refl)

  pub returns_value : (v : Value) (rest : List Value) (t : TypeTerm) (g : Frame) (d : Did) → f.vals ≡ v ∷ rest → f.method.now.result ≡ Some t
      → ReturnsAs p known h (record f { vals = rest }) t v d → Returned (did_of known d (frame_of known g) (heap_of known h))
  returns_value v rest t g d first is k m =
      let e = did_of known d (frame_of known g) (heap_of known h) in
      at_first known f v rest returning e first
      (subst (λ (o : Option TypeTerm). returns p (frame_of known f) (heap_of known h) o (value_of known v) e) (sym is) (k (frame_of known g)))
