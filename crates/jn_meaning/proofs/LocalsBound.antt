-- Locals with their values.
use Rattle.std.proofs.Common.{◌≡◌, ◌↔◌, ℕ, List, [], ◌∷◌, ◌++◌, length, Option, Some, None, Bool, true, false, IsTrue, refl, sym, ap, ◌∙◌, subst}
use Rattle.std.specs.Prelude.{not, ◌&&◌}
use Rattle.jn_reach.proofs.Searches.{not_when}
use Rattle.jn_steps.specs.Steps.{Goes, Faults}
use Rattle.jn_base.specs.declared.tree.Name.{Name}
use Rattle.jn_base.specs.declared.tree.TypeTerm.{TypeTerm}
use Rattle.jn_base.specs.declared.names.Var.{Var}
use Rattle.jn_base.specs.declared.tree.Program.{Program}
use Rattle.jn_base.specs.declared.path.Path.{Path as ShownPath}
use Rattle.jn_base.specs.declared.types.Ty.{Ty}
use Rattle.jn_sem.specs.declared.outcome.Why.TheVariants as why
use Rattle.jn_sem.specs.Acts as acts
use Rattle.jn_sem.specs.Values as sem
use Rattle.jn_sem.specs.State as state
use Rattle.jn_sem.specs.State.{Variable, with_values, declared_vars, is_null_path, site_of}
use Rattle.jn_sem.specs.Asks.{OnIf, OnOnly, holds, fails, It}
use Rattle.jn_sem.specs.Does as does
use Rattle.jn_sem.specs.Does.{Way, AtNull, Stuck, ends, missing, on_typed, bound_to, binds, var}
use Rattle.jn_sem.specs.Terms.{Site, TypeIs}
use Rattle.jn_sem.proofs.FindingLaws.{finds_one}
use Rattle.jn_table.specs.declared.class.ClassId.{ClassId}
use Rattle.jn_meaning.specs.declared.heap.Heap.{Heap}
use Rattle.jn_meaning.specs.declared.frame.Frame.{Frame}
use Rattle.jn_meaning.specs.declared.locals.Locals.{Locals}
use Rattle.jn_meaning.specs.declared.did.Did.{Did}
use Rattle.jn_meaning.specs.declared.did.Did.TheVariants as did
use Rattle.jn_meaning.specs.declared.value.Value.{Value}
use Rattle.jn_meaning.specs.Values.{path_at, value_of, values_of}
use Rattle.jn_meaning.specs.Heaps.{heap_of}
use Rattle.jn_meaning.specs.Frames.{frame_of, did_of, variables_of, class_in}
use Rattle.jn_meaning.specs.Tells.{Tells}
use Rattle.jn_meaning.specs.Sites.{site_with}
use Rattle.jn_meaning.specs.Doing.{FitsFrame}
use Rattle.jn_meaning.specs.Binding.{BindsAs}
use Rattle.jn_meaning.proofs.Finds.{found_only, none_only}
use Rattle.jn_meaning.proofs.Steps.{at_first}
use Rattle.jn_meaning.proofs.Variables.{values_push, values_long, with_push, with_declared}

-- ---- paths that are null

pub no_path : (a b c : Bool) → a ≡ false → false ≡ (a && (b && c))
no_path a b c e = sym (ap (λ (x : Bool). x && (b && c)) e)

pub no_class_path : (a b c : Bool) → a ≡ true → b ≡ false → false ≡ (a && (b && c))
no_class_path a b c e f = sym (ap (λ (x : Bool). x && (b && c)) e ∙ ap (λ (x : Bool). x && c) f)

pub class_path : (a b c : Bool) → a ≡ true → b ≡ true → c ≡ (a && (b && c))
class_path a b c e f = sym (ap (λ (x : Bool). x && (b && c)) e ∙ ap (λ (x : Bool). x && c) f)

-- ---- a local

module _ (p : Program) (known : List ShownPath) (h : Heap) (f : Frame) (x : Var) (v : Value) (null : Bool) (is : null ≡ is_null_path (bound_to x (value_of known v))) where
  abbrev F : state.Frame
  F = frame_of known f

  abbrev H : state.Heap
  H = heap_of known h

  abbrev bound : Way
  bound = It (Goes (record F { vals = values_of known f.vals; vars = F.vars ++ bound_to x (value_of known v) ∷ [] }) H [])

  abbrev typed : Way
  typed = on_typed p F H x.ty (value_of known v) bound

  abbrev Binds : does.Did → Type 0
  Binds = binds p F H x (value_of known v) (values_of known f.vals)

  by_null : (b : Bool) (d : does.Did) → null ≡ b → OnIf (not b) (ends AtNull) typed d → Binds d
  by_null b d e g = subst (λ (c : Bool). OnIf (not c) (ends AtNull) typed d) (sym e ∙ is) g

  pub binds_null : null ≡ true → Binds (Faults AtNull)
  binds_null e = by_null true _ e refl

  module _ (told : Bool) (fit : IsTrue told ↔ FitsFrame p known h f x.ty v) (e : null ≡ false) where
    pub binds_foreign : told ≡ false → Binds (Faults (Stuck why.Foreign))
    binds_foreign n = by_null false _ e (fails (not_when n fit) refl)

    pub binds_there : (l : Locals) → length f.locals.vars.list ≡ length f.locals.values.items → told ≡ true → l.vars.list ≡ f.locals.vars.list ++ x ∷ []
        → l.values.items ≡ f.locals.values.items ++ v ∷ [] → Binds (did_of known did.Went (frame_of known (record f { locals = l })) H)
    binds_there l pair y vars values = by_null false _ e (holds (fit.0 y) (ap (λ (zs : List Variable). Goes (record F { vals = values_of known f.vals; vars = zs }) H []) same))
      where
        same : variables_of known l ≡ F.vars ++ bound_to x (value_of known v) ∷ []
        same =
            ap (λ (xs : List Var). with_values xs (values_of known l.values.items)) vars
            ∙ ap (λ (vs : List Value). with_values (f.locals.vars.list ++ x ∷ []) (values_of known vs)) values
            ∙ ap (with_values (f.locals.vars.list ++ x ∷ [])) (values_push known f.locals.values.items v)
            ∙ with_push f.locals.vars.list (values_of known f.locals.values.items) x (value_of known v) (pair ∙ sym (values_long known f.locals.values.items))

-- where a term of the frame stands
pub site_is : (known : List ShownPath) (f : Frame) (id : ClassId) → length f.locals.vars.list ≡ length f.locals.values.items → f.class ≡ Some id
    → site_of (frame_of known f) ≡ site_with (path_at known id) f.method.now.name.name f.locals.vars
site_is known f id pair e i = record {
  class = class_in known (e i);
  method = f.method.now.name.name;
  vars = with_declared f.locals.vars.list (values_of known f.locals.values.items) (pair ∙ sym (values_long known f.locals.values.items)) i;
}

module _ (p : Program) (known : List ShownPath) (h : Heap) (f : Frame) (v : Value) (rest : List Value) (fixed : Bool) (t : TypeTerm) (x : Name) (path : ℕ) (id : ClassId)
    (pair : length f.locals.vars.list ≡ length f.locals.values.items) (first : f.vals ≡ v ∷ rest) (class : f.class ≡ Some id) where
  abbrev S : Site
  S = site_with (path_at known id) f.method.now.name.name f.locals.vars

  abbrev bind_var : state.Frame → sem.Value → List sem.Value → Ty → Way
  bind_var G u us z = binds p G (heap_of known h) (var x path fixed z) u us

  type_here : (o : Option Ty) → Tells (TypeIs p S t) o → Tells (TypeIs p (site_of (frame_of known f)) t) o
  type_here o k = subst (λ (z : Site). Tells (TypeIs p z t) o) (sym (site_is known f id pair class)) k

  abbrev Bound : does.Did → Type 0
  Bound d = (m : ℕ) → does.Does p m (acts.Bind fixed t x path) (frame_of known f) (heap_of known h) d

  here : (d : does.Did) → OnOnly (TypeIs p (site_of (frame_of known f)) t) missing (bind_var (frame_of known f) (value_of known v) (values_of known rest)) d → Bound d
  here d g m = at_first known f v rest (λ u us. OnOnly (TypeIs p (site_of (frame_of known f)) t) missing (bind_var (frame_of known f) u us)) d first g

  pub binds_untyped : Tells (TypeIs p S t) None → Bound (Faults (Stuck why.Missing))
  binds_untyped n = here _ (none_only (TypeIs p (site_of (frame_of known f)) t) missing (bind_var (frame_of known f) (value_of known v) (values_of known rest)) _ (type_here None n) refl)

  pub binds_typed : (g : Frame) (d : Did) (u : Ty) → Tells (TypeIs p S t) (Some u) → BindsAs p known h (record f { vals = rest }) (var x path fixed u) v d g
      → Bound (did_of known d (frame_of known g) (heap_of known h))
  binds_typed g d u k b =
      here _ (found_only (TypeIs p (site_of (frame_of known f)) t) missing (bind_var (frame_of known f) (value_of known v) (values_of known rest)) _
      ((finds_one p).type (site_of (frame_of known f)) t) u (type_here (Some u) k) b)
