-- The scopes and types of the rows and of the tests fit.
use Rattle.std.proofs.Common.{◌≡◌, List, [], ◌∷◌, refl, sym, ap, ◌∙◌, subst}
use Rattle.jn_base.specs.declared.types.Atom.{Atom as ShownAtom}
use Rattle.jn_base.specs.declared.types.Ty.{Ty}
use Rattle.jn_base.specs.declared.types.Ty.TheVariants as ty
use Rattle.jn_base.specs.Atoms.{shown_atom, no_masks, first, later}
use Rattle.jn_base.specs.Fits.{ScopeFits, TypeFits}
use Rattle.jn_sem.specs.Normal.{swapped, MovedFits}
use Rattle.jn_intern.specs.declared.scope.Scope.{Scope as NumberScope}
use Rattle.jn_intern.specs.Pools.{ScopeInPool, scope_in, Keeps}
use Rattle.jn_intern.proofs.Pools.{scope_kept}
use Rattle.jn_normal.specs.Rows.{A, C, X, of, in_c, in_p, in_family, exact}
use Rattle.jn_normal.proofs.Fitting.{binds_fit_of, type_of, atoms_of}

pub in_c_fits : ScopeFits in_c
in_c_fits = record {
  binds = binds_fit_of in_c refl;
  class_of_this = C ∷ A ∷ [];
  this = later (later (later (later (later (later (later (later first)))))));
}

pub in_p_fits : ScopeFits in_p
in_p_fits = record {
  binds = binds_fit_of in_p refl;
  class_of_this = C ∷ A ∷ [];
  this = later first;
}

-- the scope stands for the same after the pool has grown
pub still_in_p : {old new : List Ty} (scope : NumberScope) → ScopeInPool old scope → scope_in old scope ≡ in_p → Keeps old new → in_p ≡ scope_in new scope
still_in_p scope k e g = sym (scope_kept scope k g ∙ e)

pub both_fit : (t : Ty) (x y : ShownAtom) → t ≡ ty.Class (x ∷ y ∷ []) no_masks → x ≡ shown_atom (in_family 1 X) → y ≡ shown_atom (exact A X) → TypeFits in_p t
both_fit t x y e f g =
    let is : t ≡ of (in_family 1 X ∷ exact A X ∷ []) =
    e ∙ ap (λ (z : ShownAtom). ty.Class (z ∷ y ∷ []) no_masks) f ∙ ap (λ (z : ShownAtom). ty.Class (shown_atom (in_family 1 X) ∷ z ∷ []) no_masks) g in
    subst (TypeFits in_p) (sym is) (type_of in_p (of (in_family 1 X ∷ exact A X ∷ [])) refl)

pub of_this_fits : (t : Ty) (x : ShownAtom) → t ≡ ty.Class (x ∷ []) no_masks → x ≡ shown_atom (in_family 0 X) → MovedFits in_p (swapped (0 ∷ []) (1 ∷ [])) t
of_this_fits t x e f =
    let is : t ≡ of (in_family 0 X ∷ []) = e ∙ ap (λ (z : ShownAtom). ty.Class (z ∷ []) no_masks) f in
    subst (MovedFits in_p (swapped (0 ∷ []) (1 ∷ []))) (sym is) (λ c. atoms_of in_p (in_family 1 X ∷ []) refl)
