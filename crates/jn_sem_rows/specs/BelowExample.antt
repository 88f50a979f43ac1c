-- Questions of "below" in the class base.Add of the families base, shower, doubler and both, where p is `final base.Exp`.
use Rattle.std.specs.Prelude.{[], ◌∷◌}
use Rattle.jn_base.specs.declared.tree.Name.{Name}
use Rattle.jn_base.specs.declared.types.Anchor.TheVariants.{Root, Up}
use Rattle.jn_base.specs.declared.types.Masks.{Masks}
use Rattle.jn_base.specs.declared.types.Ty.{Ty}
use Rattle.jn_base.specs.declared.types.Ty.TheVariants as ty
use Rattle.jn_base.specs.Atoms.{Atom, atom, shown_atom, no_masks}
use Rattle.jn_base.specs.Scopes.{Scope, this_bind}
use Rattle.jn_base.specs.Fits.{ScopeFits}
use Rattle.jn_base.specs.FamiliesExample.{families, base, both, Exp, Lit, Add}
use Rattle.jn_sem.specs.Below.{Below}

abbrev pub of_atom : Atom → Ty
of_atom x = ty.Class (shown_atom x ∷ []) no_masks

-- `A.C`, and `A!.C`, for a family A
abbrev pub class_of : Name → Name → Ty
class_of A C = of_atom (atom Root [] (C ∷ A ∷ []))

abbrev pub exact_class_of : Name → Name → Ty
exact_class_of A C = of_atom (atom Root (A ∷ []) (C ∷ []))

-- p is path 1, behind `this`
abbrev pub in_add : Scope
in_add = record { path = 1; ty = class_of base Exp } ∷ this_bind (Add ∷ base ∷ []) ∷ []

-- `p.class`, and `base[p.class].Lit`
abbrev pub class_of_p : Ty
class_of_p = of_atom (atom (Up 1 0) [] [])

abbrev pub lit_of_p : Ty
lit_of_p = of_atom (atom (Up 1 1) [] (Lit ∷ []))

-- the mask v has the number 0
abbrev pub v_masked : Masks
v_masked = record { 0 = 1 ∷ 0 ∷ 0 ∷ 0 ∷ [] }

abbrev pub lit_without_v : Ty
lit_without_v = ty.Class (shown_atom (atom Root [] (Lit ∷ base ∷ [])) ∷ []) v_masked

abbrev pub IsBelow : Ty → Ty → Type 0
IsBelow t u = Below families in_add t u

pub record BelowExample : Type 0 where
  pub fits : ScopeFits in_add
  -- `base!.Lit` is below `base.Exp`, but `base.Lit` is not below `base!.Exp`
  pub exact_below : IsBelow (exact_class_of base Lit) (class_of base Exp)
  pub not_exact : IsBelow (class_of base Lit) (exact_class_of base Exp) → ⊥
  -- `both.Lit` is below `both.Exp`, and below `base.Lit`
  pub same_family : IsBelow (class_of both Lit) (class_of both Exp)
  pub other_family : IsBelow (class_of both Lit) (class_of base Lit)
  -- `p.class` is below `base.Exp`
  pub path_class : IsBelow class_of_p (class_of base Exp)
  -- `base[p.class].Lit` is below `base.Lit`, but not the other way round
  pub path_family : IsBelow lit_of_p (class_of base Lit)
  pub not_path_family : IsBelow (class_of base Lit) lit_of_p → ⊥
  -- `base.Lit\v` is not below `base.Lit`, but the other way round
  pub masked : IsBelow lit_without_v (class_of base Lit) → ⊥
  pub unmasked : IsBelow (class_of base Lit) lit_without_v
