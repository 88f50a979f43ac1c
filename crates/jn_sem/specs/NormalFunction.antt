-- Normal form and substitution of types as functions: the results that the relations pin down.
use Rattle.std.specs.Prelude.{ℕ, List, [], ◌∷◌, map}
use Rattle.std.specs.declared.cmp.Ordering.{Ordering}
use Rattle.std.specs.declared.cmp.Ordering.TheVariants.{Less, Equal, Greater}
use Rattle.jn_base.specs.declared.types.Ty.{Ty}
use Rattle.jn_base.specs.declared.types.Ty.TheVariants as ty
use Rattle.jn_base.specs.Atoms.{Atom, atoms_in, shown_atom}
use Rattle.jn_base.specs.Scopes.{Scope}
use Rattle.jn_sem.specs.Normal.{normal, moved, same_path, atom_cmp}

-- x put into a sorted list, once
abbrev pub put_by : Ordering → Atom → Atom → List Atom → List Atom → List Atom
put_by Less x y ys more = x ∷ (y ∷ ys)
put_by Equal x y ys more = y ∷ ys
put_by Greater x y ys more = y ∷ more

abbrev pub put : Atom → List Atom → List Atom
put x [] = x ∷ []
put x (y ∷ ys) = put_by (atom_cmp x y) x y ys (put x ys)

-- sorted, without doubles
abbrev pub in_order : List Atom → List Atom
in_order [] = []
in_order (x ∷ xs) = put x (in_order xs)

abbrev pub moved_normal : Scope → (ℕ → ℕ) → Atom → Atom
moved_normal s f x = normal s (moved f x)

abbrev pub subst_atoms : Scope → (ℕ → ℕ) → List Atom → List Atom
subst_atoms s f xs = in_order (map (moved_normal s f) xs)

-- Subst(s, t, from, to), where `f q` is what stands for q
abbrev pub subst_type : Scope → (ℕ → ℕ) → Ty → Ty
subst_type s f (ty.Class xs m) = ty.Class (map shown_atom (subst_atoms s f (atoms_in (ty.Class xs m)))) m
subst_type s f ty.Int = ty.Int
subst_type s f ty.Bool = ty.Bool
subst_type s f ty.Null = ty.Null
subst_type s f ty.Void = ty.Void

-- Normal(s, t)
abbrev pub normal_type : Scope → Ty → Ty
normal_type s t = subst_type s same_path t
