-- What a written type stands for: its kind, and how many atoms it has.
use Rattle.std.proofs.Common.{◌≡◌, suc, List, [], ◌∷◌, length, map, Bool, true, false, Option, Some, None, refl, sym, ap, ◌∙◌, subst}
use Rattle.std.specs.Prelude.{Result, Ok, Err}
use Rattle.jn_base.specs.declared.tree.Named.{Named}
use Rattle.jn_base.specs.declared.tree.Term.{Term}
use Rattle.jn_base.specs.declared.tree.TypeTerm.{TypeTerm}
use Rattle.jn_base.specs.declared.tree.TypeTerm.TheVariants as type
use Rattle.jn_base.specs.declared.tree.Name.{Name}
use Rattle.jn_base.specs.declared.tree.Program.{Program}
use Rattle.jn_base.specs.declared.types.Atom.{Atom as ShownAtom}
use Rattle.jn_base.specs.declared.types.Masks.{Masks}
use Rattle.jn_base.specs.declared.types.Ty.{Ty}
use Rattle.jn_base.specs.declared.types.Ty.TheVariants as ty
use Rattle.jn_base.specs.declared.names.Role.TheVariants as role
use Rattle.jn_base.specs.declared.names.Spot.{Spot}
use Rattle.jn_base.specs.declared.names.Vars.{Vars}
use Rattle.jn_base.specs.declared.refusal.Refusal.{Refusal}
use Rattle.jn_base.specs.Paths.{Path}
use Rattle.jn_base.specs.Scopes.{Scope}
use Rattle.jn_base.specs.Resolve.{is_class}
use Rattle.jn_base.specs.ResolveTypes.{ResolveAll, none, refused, first, bounds_at, may_mask, Taken, UnfitGives, UnmaskedGives, MasksGive, DepthsGive, many, one, AtomsGive, ResolveType, mask_names}
use Rattle.jn_sem.specs.Normal.{same_path}
use Rattle.jn_sem.specs.NormalFunction.{normal_type}
use Rattle.jn_sem.specs.Terms.{Site, TypeIs, spot_at, vars_at}
use Rattle.jn_sem.proofs.NormalTypes.{type_subst_is}
use Rattle.jn_rules.specs.Plans.{AtomMark}
use Rattle.jn_rules.specs.Headers.{declared_type, scope_of}
use Rattle.jn_rules.specs.Stmts.{atom_marks}
use Rattle.jn_agree.specs.Rows.{kind_of_type}
use Rattle.jn_lower.specs.Known.{bare_type, written_type}
use Rattle.jn_lower.specs.Written.{written_kind, is_reference, written_terms}

ok_same : {A : Type 0} (a b : A) → ◌≡◌ {A = Result A Refusal} (Ok a) (Ok b) → a ≡ b
ok_same a b e = cc

pub not_refused : {A : Type 0} (a : A) (r : Refusal) → ◌≡◌ {A = Result A Refusal} (Ok a) (Err r) → ⊥
not_refused a r e = cc

-- ---- class types

-- it has these atoms
pub record Classed (xs : List ShownAtom) (t : Ty) : Type 0 where
  pub masks : Masks
  pub is : t ≡ ty.Class xs masks

module _ (p : Program) (names : List Name) (spot : Spot) (vars : Vars) (t : Ty) where
  taken_ok : (xs : List ShownAtom) (ms : List Named) → Taken names xs ms (Ok t) → Classed xs t
  taken_ok xs ms h = record { masks = h.masks; is = ok_same t (ty.Class xs h.masks) h.gives }

  unfit_ok : (xs : List ShownAtom) (ms : List Named) (u : Option Named) → UnfitGives names spot xs ms u (Ok t)
      → Classed xs t
  unfit_ok xs ms (Some m) h = absurd (not_refused t _ h)
  unfit_ok xs ms None h = taken_ok xs ms h

  unmasked_ok : (xs : List ShownAtom) (ms : List Named) → UnmaskedGives names spot xs ms (Ok t) → Classed xs t
  unmasked_ok xs [] h = taken_ok xs [] h
  unmasked_ok xs (m ∷ ms) h = absurd (not_refused t _ h)

  masks_ok : (bounds : List Path) (xs : List ShownAtom) (ms : List Named) (b : Bool)
      → MasksGive p names spot bounds xs ms b (Ok t) → Classed xs t
  masks_ok bounds xs ms true h = unfit_ok xs ms h.first h.gives
  masks_ok bounds xs ms false h = unmasked_ok xs ms h

  pub depths_ok : (ts : List Term) (ms : List Named) (bounds : List Path) (xs : List ShownAtom)
      → DepthsGive p names spot ts ms bounds xs (Ok t) → Classed xs t
  depths_ok ts ms bounds xs (many a b others n e f) = absurd (not_refused t _ f)
  depths_ok ts ms bounds xs (one d h) = masks_ok bounds xs ms (may_mask spot.role) h

  -- one for each term
  all_long : (ts : List Term) (xs : List ShownAtom) (o : Result (List ShownAtom) Refusal) → o ≡ Ok xs
      → ResolveAll p spot vars ts o → length xs ≡ length ts
  all_long _ xs o e (none f) = ap length (ok_same xs [] (sym e ∙ f))
  all_long _ xs o e (refused r h f) = absurd (not_refused xs r (sym e ∙ f))
  all_long _ xs o e (first {ts = ts} x (Err r) h rest f) = absurd (not_refused xs r (sym e ∙ f))
  all_long _ xs o e (first {ts = ts} x (Ok ys) h rest f) =
      ap length (ok_same xs (x ∷ ys) (sym e ∙ f)) ∙ ap suc (all_long ts ys (Ok ys) refl rest)

  record Given (ts : List Term) : Type 0 where
    atoms : List ShownAtom
    classed : Classed atoms t
    long : length atoms ≡ length ts

  atoms_ok : (ts : List Term) (ms : List Named) (x : Result (List ShownAtom) Refusal) → ResolveAll p spot vars ts x
      → AtomsGive p names spot vars ts ms x (Ok t) → Given ts
  atoms_ok ts ms (Err r) all h = absurd (not_refused t r h)
  atoms_ok ts ms (Ok xs) all h = record {
    atoms = xs;
    classed = depths_ok ts ms (bounds_at spot vars xs) xs h;
    long = all_long ts xs (Ok xs) refl all;
  }

-- ---- all written types

-- the kind is told by the form; so is whether it is a class type, and how many atoms it has
pub record Told (tt : TypeTerm) (t : Ty) : Type 0 where
  pub kind : kind_of_type t ≡ written_kind tt
  pub class : is_class t ≡ is_reference tt
  pub valued : t ≡ ty.Void → ⊥
  pub atoms : List ShownAtom
  pub marks : atom_marks t ≡ map AtomMark atoms
  pub long : length atoms ≡ written_terms tt
  pub bare : bare_type (written_type tt atoms) ≡ bare_type t

of_class : (ts : List Term) (ms : List Named) (t : Ty) (xs : List ShownAtom) (m : Masks) → t ≡ ty.Class xs m
    → length xs ≡ length ts → Told (type.Class ts ms) t
of_class ts ms t xs m e n = subst (Told (type.Class ts ms)) (sym e) (record {
  kind = refl;
  class = refl;
  valued = λ e. no_void e;
  atoms = xs;
  marks = refl;
  long = n;
  bare = refl;
}) where
  no_void : ty.Class xs m ≡ ty.Void → ⊥
  no_void e = cc

pub told : (p : Program) (names : List Name) (spot : Spot) (vars : Vars) (tt : TypeTerm) (t : Ty)
    → ResolveType p names spot vars tt (Ok t) → Told tt t
told p names spot vars type.Int t h = subst (Told type.Int) (sym (ok_same t ty.Int h)) (record {
  kind = refl;
  class = refl;
  valued = λ e. no_void e;
  atoms = [];
  marks = refl;
  long = refl;
  bare = refl;
}) where
  no_void : ty.Int ≡ ty.Void → ⊥
  no_void e = cc
told p names spot vars type.Bool t h = subst (Told type.Bool) (sym (ok_same t ty.Bool h)) (record {
  kind = refl;
  class = refl;
  valued = λ e. no_void e;
  atoms = [];
  marks = refl;
  long = refl;
  bare = refl;
}) where
  no_void : ty.Bool ≡ ty.Void → ⊥
  no_void e = cc
told p names spot vars (type.Class ts ms) t h =
    let x = atoms_ok p names spot vars t ts ms h.atoms h.all h.gives in
    of_class ts ms t x.atoms x.classed.masks x.classed.is x.long

-- ---- normal forms

pub kind_kept : (s : Scope) (t : Ty) → kind_of_type (normal_type s t) ≡ kind_of_type t
kind_kept s ty.Int = refl
kind_kept s ty.Bool = refl
kind_kept s ty.Null = refl
kind_kept s ty.Void = refl
kind_kept s (ty.Class xs m) = refl

pub class_kept : (s : Scope) (t : Ty) → is_class (normal_type s t) ≡ is_class t
class_kept s ty.Int = refl
class_kept s ty.Bool = refl
class_kept s ty.Null = refl
class_kept s ty.Void = refl
class_kept s (ty.Class xs m) = refl

pub void_kept : (s : Scope) (t : Ty) → normal_type s t ≡ ty.Void → t ≡ ty.Void
void_kept s ty.Int e = absurd (no e) where
  no : ty.Int ≡ ty.Void → ⊥
  no e = cc
void_kept s ty.Bool e = absurd (no e) where
  no : ty.Bool ≡ ty.Void → ⊥
  no e = cc
void_kept s ty.Null e = absurd (no e) where
  no : ty.Null ≡ ty.Void → ⊥
  no e = cc
void_kept s ty.Void e = refl
void_kept s (ty.Class xs m) e = absurd (no e) where
  no : normal_type s (ty.Class xs m) ≡ ty.Void → ⊥
  no e = cc

-- the type of a local
pub type_is : (p : Program) (at : Site) (tt : TypeTerm) (t : Ty)
    → ResolveType p (mask_names p) (spot_at at role.Value) (vars_at at) tt (Ok t) → TypeIs p at tt (declared_type at t)
type_is p at tt t h = record {
  given = t;
  resolved = h;
  normal = (type_subst_is (scope_of at) same_path t (declared_type at t)).1 refl;
}
