-- Small rows of the definitions of types: bounds, sets, normal forms, a step of each kind, and the root closure.
use Rattle.std.specs.Prelude.{◌≡◌, ◌↔◌, ℕ, zero, suc, pos, List, Some, None, [], ◌∷◌, map}
use Rattle.jn_base.specs.declared.tree.Name.{Name}
use Rattle.jn_base.specs.declared.tree.Kind.TheVariants as kind
use Rattle.jn_base.specs.declared.tree.Program.{Program}
use Rattle.jn_base.specs.declared.types.Anchor.TheVariants.{Root, Up}
use Rattle.jn_base.specs.declared.types.Ty.{Ty}
use Rattle.jn_base.specs.declared.types.Ty.TheVariants as ty
use Rattle.jn_base.specs.Paths.{Path}
use Rattle.jn_base.specs.Atoms.{Atom, atom, shown_atom, no_masks, atoms_in}
use Rattle.jn_base.specs.Scopes.{Scope, this_bind, bound}
use Rattle.jn_base.specs.ExampleTrees.{name, declaration, package_at, class_in, program}
use Rattle.jn_base.specs.FamiliesExample.{families, base, doubler, both, Exp, Lit, Add, v}
use Rattle.jn_sem.specs.Sets.{Views, InType, Respects}
use Rattle.jn_sem.specs.Values.{Value, Number, Null, Reference, ValueIn}
use Rattle.jn_sem.specs.Widening.{Widens}
use Rattle.jn_sem.specs.Normal.{normal}
use Rattle.jn_sem.specs.NormalFunction.{normal_type}
use Rattle.jn_sem.specs.RootClosure.{InClosure}
use Rattle.jn_sem_rows.specs.BelowExample.{in_add, of_atom, class_of, exact_class_of, lit_of_p, lit_without_v}

-- BOUNDS in base.Add, where p is path 1 and `final base.Exp`
pub record BoundsExample : Type 0 where
  -- `p.class` has the bound base.Exp, `base[p.class].Lit` the bound base.Lit, and `this.class` the declaring class
  pub class_of_p : bound in_add (atom (Up 1 0) [] []) ≡ Exp ∷ base ∷ []
  pub lit_of_p : bound in_add (atom (Up 1 1) [] (Lit ∷ [])) ≡ Lit ∷ base ∷ []
  pub class_of_this : bound in_add (atom (Up 0 0) [] []) ≡ Add ∷ base ∷ []

-- SETS, where p has the view both.Exp, and `this` the view both.Add
abbrev pub seen_both : Views
seen_both zero = Some (Add ∷ both ∷ [])
seen_both (suc zero) = Some (Exp ∷ both ∷ [])
seen_both (suc (suc q)) = None

pub record SetsExample : Type 0 where
  -- these views respect the scope
  pub respects : Respects families seen_both in_add
  -- `base.Lit` holds both.Lit; `base!.Lit` holds base.Lit, and not both.Lit
  pub inexact : InType families seen_both (class_of base Lit) (Lit ∷ both ∷ [])
  pub exact : InType families seen_both (exact_class_of base Lit) (Lit ∷ base ∷ [])
  pub not_exact : InType families seen_both (exact_class_of base Lit) (Lit ∷ both ∷ []) → ⊥
  -- `base[p.class].Lit` holds both.Lit, of p's own family, and not base.Lit
  pub of_family : InType families seen_both lit_of_p (Lit ∷ both ∷ [])
  pub not_of_family : InType families seen_both lit_of_p (Lit ∷ base ∷ []) → ⊥

-- VALUES, where v is the mask name of number 0, and each slot but that of v has a value
abbrev pub all_but_v : ℕ → Path → Name → Type 0
all_but_v o V f = f ≡ v → ⊥

abbrev pub IsIn : Ty → Value → Type 0
IsIn t value = ValueIn families (v ∷ []) seen_both all_but_v t value

abbrev pub a_lit : Value
a_lit = Reference 0 (Lit ∷ both ∷ [])

pub record ValuesExample : Type 0 where
  -- null is in each class type, and a number in int alone
  pub null_in : IsIn (class_of base Lit) Null
  pub number_in : IsIn ty.Int (Number (pos 7))
  pub number_out : IsIn (class_of base Lit) (Number (pos 7)) → ⊥
  -- a reference without a value for v is in `base.Lit\v`, and not in `base.Lit`
  pub masked_in : IsIn lit_without_v a_lit
  pub unmasked_out : IsIn (class_of base Lit) a_lit → ⊥

-- NORMAL FORMS, where p is `base!.Exp` (path 1) and q is `p.class.X` for a member X (path 2)
abbrev pub X : Name
X = name 20

-- `A.Exp & B.Exp & ..`
abbrev pub exps_of : List Name → Ty
exps_of As = ty.Class (map (λ A. shown_atom (atom Root [] (Exp ∷ A ∷ []))) As) no_masks

abbrev pub exact_p : Scope
exact_p =
    record { path = 2; ty = of_atom (atom (Up 1 0) [] (X ∷ [])) }
    ∷ record { path = 1; ty = exact_class_of base Exp } ∷ this_bind (Add ∷ base ∷ []) ∷ []

pub record NormalExample : Type 0 where
  -- `base[p.class].Lit` is `base!.Lit`, since p's type has one inexact name
  pub by_exact : normal exact_p (atom (Up 1 1) [] (Lit ∷ [])) ≡ atom Root (base ∷ []) (Lit ∷ [])
  -- `p.class` stays, since p's type has more than no inexact names
  pub stays : normal exact_p (atom (Up 1 0) [] []) ≡ atom (Up 1 0) [] []
  -- `base[q.class].Lit` takes two names off: X, and one of p's, which is `base[p.class].Lit`, which is `base!.Lit`
  pub by_levels : normal exact_p (atom (Up 2 2) [] (Lit ∷ [])) ≡ atom Root (base ∷ []) (Lit ∷ [])
  -- where p is `base.Exp`, `base[p.class].Lit` stays
  pub by_none : normal in_add (atom (Up 1 1) [] (Lit ∷ [])) ≡ atom (Up 1 1) [] (Lit ∷ [])
  -- `doubler.Exp & base.Exp & doubler.Exp` is `base.Exp & doubler.Exp`, since base was mentioned first
  pub in_order : normal_type in_add (exps_of (doubler ∷ base ∷ doubler ∷ [])) ≡ exps_of (base ∷ doubler ∷ [])

-- WIDENING in base.Add: one step of each kind
pub record StepsExample : Type 0 where
  -- 1. `base!.Lit` to `base.Lit`
  pub loosens : Widens families in_add (atom Root (base ∷ []) (Lit ∷ [])) (atom Root [] (Lit ∷ base ∷ []))
  -- 2. `p.class` to `base[p.class].Exp`
  pub raises : Widens families in_add (atom (Up 1 0) [] []) (atom (Up 1 1) [] (Exp ∷ []))
  -- 3. `base[p.class].Lit` to `base.Lit`
  pub opens : Widens families in_add (atom (Up 1 1) [] (Lit ∷ [])) (atom Root [] (Lit ∷ base ∷ []))
  -- 4. `base[p.class].Lit` to `base[p.class].Exp`
  pub widens : Widens families in_add (atom (Up 1 1) [] (Lit ∷ [])) (atom (Up 1 1) [] (Exp ∷ []))

-- THE ROOT CLOSURE of p.class.X, where p is `a.C & a.D`, and a.D has no member X:
--   package a { class C { class X { } } class D { } class E extends C & D { } }
abbrev pub a : Name
a = name 0

abbrev pub C : Name
C = name 1

abbrev pub D : Name
D = name 2

abbrev pub E : Name
E = name 3

abbrev pub Main : Name
Main = name 4

abbrev pub nested_x : Program
nested_x = program (
    package_at 1 a [] (
    class_in C [] (class_in X [] [] ∷ [])
    ∷ class_in D [] []
    ∷ class_in E (C ∷ D ∷ []) [] ∷ [])
    ∷ declaration kind.Class 2 Main [] [] ∷ [])

abbrev pub both_c_and_d : Ty
both_c_and_d = ty.Class (shown_atom (atom Root [] (C ∷ a ∷ [])) ∷ shown_atom (atom Root [] (D ∷ a ∷ [])) ∷ []) no_masks

abbrev pub in_main : Scope
in_main = record { path = 1; ty = both_c_and_d } ∷ this_bind (Main ∷ []) ∷ []

abbrev pub x_of_p : List Atom
x_of_p = atoms_in (of_atom (atom (Up 1 0) [] (X ∷ [])))

-- it has the one atom a.C.X
abbrev pub ClosureExample : Type 0
ClosureExample = (z : Atom) → InClosure nested_x in_main x_of_p z ↔ (z ≡ atom Root [] (X ∷ C ∷ a ∷ []))

pub record TypesExample : Type 0 where
  pub bounds : BoundsExample
  pub sets : SetsExample
  pub values : ValuesExample
  pub normals : NormalExample
  pub steps : StepsExample
  pub closure : ClosureExample
