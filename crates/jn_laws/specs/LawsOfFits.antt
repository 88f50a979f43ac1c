-- When a type fits after its paths were replaced.
use Rattle.std.specs.Prelude.{◌≡◌, ℕ, length}
use Rattle.jn_base.specs.declared.tree.Program.{Program}
use Rattle.jn_base.specs.declared.types.Anchor.TheVariants.{Up}
use Rattle.jn_base.specs.declared.types.Ty.{Ty}
use Rattle.jn_base.specs.Atoms.{Atom, atoms_in, Among}
use Rattle.jn_base.specs.Scopes.{Scope, bound_of, bound, Binds}
use Rattle.jn_base.specs.Fits.{TypeFits, BindsFit}
use Rattle.jn_sem.specs.Below.{Below}
use Rattle.jn_sem.specs.Normal.{MovedFits}
use Rattle.jn_sem.specs.NormalFunction.{subst_type}

-- the path r of the scope s has a bound as deep as q's in the scope h
pub record AsDeep (h s : Scope) (q r : ℕ) : Type 0 where
  pub bound_in : Binds s r
  pub depth : length (bound_of s r) ≡ length (bound_of h q)

-- each path of the type, of the scope h, is replaced by one of the scope s that is as deep
abbrev pub PutAsDeep : Scope → Scope → (ℕ → ℕ) → Ty → Type 0
PutAsDeep h s f t = (x : Atom) (q k : ℕ) → Among (atoms_in t) x → x.anchor ≡ Up q k → AsDeep h s q (f q)

pub record MovedOf (h s : Scope) (f : ℕ → ℕ) (t : Ty) : Type 0 where
  -- then what fits h fits s with its paths replaced, and so does its normal form there
  pub moved : MovedFits s f t
  pub substituted : BindsFit s → TypeFits s (subst_type s f t)
  -- and the bounds are as deep
  pub depth : BindsFit s → (x y : Atom) → Among (atoms_in t) x → Among (atoms_in (subst_type s f t)) y → length (bound s y) ≡ length (bound h x)

abbrev pub MovedTypesFit : Type 0
MovedTypesFit = (h s : Scope) (f : ℕ → ℕ) (t : Ty) → TypeFits h t → PutAsDeep h s f t → MovedOf h s f t

-- "Below" keeps the depth of bounds: so an argument is as deep as its parameter, and a receiver as the bound of its member.
abbrev pub BelowKeepsDepth : Type 0
BelowKeepsDepth = (p : Program) (s : Scope) (t u : Ty) (x y : Atom) → BindsFit s → TypeFits s t → Below p s t u
    → Among (atoms_in t) x → Among (atoms_in u) y → length (bound s y) ≡ length (bound s x)
