-- What a constraint in a header grants, where it holds with `this` at the view of `this`.
use Rattle.std.proofs.Common.{◌≡◌, ◌<◌, ℕ, zero, suc, List, [], ◌∷◌, ◌++◌, length, drop, Option, Some, true, false, refl, sym, ap, ◌∙◌, subst, arith, length-append, length-drop}
use Rattle.std.specs.Prelude.{Ok, IsSome}
use Rattle.jn_base.specs.declared.tree.Name.{Name}
use Rattle.jn_base.specs.declared.tree.Constraint.{Constraint}
use Rattle.jn_base.specs.declared.tree.Program.{Program}
use Rattle.jn_base.specs.declared.names.Role.TheVariants as role
use Rattle.jn_base.specs.declared.types.Anchor.{Anchor}
use Rattle.jn_base.specs.declared.types.Anchor.TheVariants.{Root, Up}
use Rattle.jn_base.specs.declared.types.Ty.{Ty}
use Rattle.jn_base.specs.Paths.{Path}
use Rattle.jn_base.specs.Atoms.{Atom, atom_of, atom_at, atoms_in, Among, first, later, MasksWithin}
use Rattle.jn_base.specs.Scopes.{Scope}
use Rattle.jn_base.specs.Fits.{BindsFit}
use Rattle.jn_base.specs.Resolve.{is_class}
use Rattle.jn_sem.specs.Sets.{Views, AnchorSeen, Seen, view_at, eval, no_views, InAtom, InAtoms, InType, Respects}
use Rattle.jn_sem.specs.Values.{HasField}
use Rattle.jn_sem.specs.Sharing.{IsClass, Counterpart, family_of}
use Rattle.jn_sem.specs.Holds.{HoldsAt, Passes, masked, same_slot, rooted_at, with_this}
use Rattle.jn_sem.specs.Below.{Below, ints, booleans, nulls, classes}
use Rattle.jn_sem.specs.Normal.{same_path, after}
use Rattle.jn_sem.specs.NormalFunction.{normal_type}
use Rattle.jn_sem.specs.Terms.{Site}
use Rattle.jn_sem.proofs.SharedLaws.{sharing_laws}
use Rattle.jn_sem.proofs.TypeSets.{types_below, masked_more, classes_subst}
use Rattle.jn_sem.proofs.NormalTypes.{type_subst_is}
use Rattle.jn_laws.specs.LawsOfViews.{OfThis}
use Rattle.jn_laws.proofs.ByViews.{this_rooted}
use Rattle.jn_laws.proofs.Terms.{same_ok, not_both}
use Rattle.jn_laws.proofs.WrittenTypes.{this_is_alone}
use Rattle.jn_rules.specs.Plans.{Target, Pledge, target_type}
use Rattle.jn_rules.specs.Questions.{TargetIs, ConstraintGives, left_refused, right_refused, both, IsGrant, masks_of}
use Rattle.jn_sound.specs.Sound.{sides_of}

-- ---- families

family_cons : (C : Name) (P : Path) → 0 < length P → family_of (C ∷ P) ≡ family_of P
family_cons C [] l = absurd (omega (arith, l))
family_cons C (D ∷ P) l = refl

family_append : (A E : Path) → 0 < length E → family_of (A ++ E) ≡ family_of E
family_append [] E l = refl
family_append (C ∷ A) E l = family_cons C (A ++ E) (omega (arith, l, length-append A E)) ∙ family_append A E l

family_drop : (n : ℕ) (W : Path) → 0 < length (drop n W) → family_of (drop n W) ≡ family_of W
family_drop zero W l = refl
family_drop (suc n) [] l = absurd (omega (arith, l))
family_drop (suc n) (C ∷ W) l = family_drop n W l ∙ sym (family_cons C W (omega (arith, l, length-drop n W)))

-- a class in an atom whose anchor and exact names have a name is of the family that the atom stands for
pub family_in : {p : Program} {v : Views} (x : Atom) (W : Path) → InAtom p v x W
    → 0 < length (x.exact ++ eval v x.anchor) → family_of (atom_at (view_at v) x) ≡ family_of W
family_in {p} {v} x W i l =
    family_append x.names (x.exact ++ eval v x.anchor) l ∙ ap family_of (sym i.inside.exact)
    ∙ family_drop (length x.names) W (subst (λ (P : Path). 0 < length P) (sym i.inside.exact) l)

-- ---- types below others have their masks

pub below_masks : {p : Program} {s : Scope} {t u : Ty} → is_class t ≡ true → Below p s t u
    → MasksWithin (masks_of t) (masks_of u)
below_masks c (classes b w) = w
below_masks c ints = absurd (no c) where
  no : false ≡ true → ⊥
  no e = cc
below_masks c booleans = absurd (no c) where
  no : false ≡ true → ⊥
  no e = cc
below_masks c nulls = absurd (no c) where
  no : false ≡ true → ⊥
  no e = cc

-- ---- the sides of a constraint mention `this` alone

pub record SidesThere (p : Program) (at : Site) (c : Constraint) (k : Pledge) : Type 0 where
  pub from : TargetIs p role.From at c.from (Ok k.from)
  pub to : TargetIs p role.To at c.to (Ok k.to)

pub sides_there : (p : Program) (at : Site) (c : Constraint) (k : Pledge) → ConstraintGives p at c (Ok k)
    → SidesThere p at c k
sides_there p at c k (left_refused r f e) = absurd (not_both k r e)
sides_there p at c k (right_refused x r f t e) = absurd (not_both k r e)
sides_there p at c k (both x y f t e) =
    let same : k ≡ record { from = x; to = y } = same_ok k (record { from = x; to = y }) e in
    record {
      from = subst (λ (z : Pledge). TargetIs p role.From at c.from (Ok z.from)) (sym same) f;
      to = subst (λ (z : Pledge). TargetIs p role.To at c.to (Ok z.to)) (sym same) t;
    }

pub from_this : (p : Program) (at : Site) (c : Constraint) (k : Pledge) → ConstraintGives p at c (Ok k)
    → OfThis k.from.atom.anchor
from_this p at c k g =
    (this_is_alone p).in_constraint role.From at c.from (target_type k.from) (atom_of k.from.atom) tt
    (sides_there p at c k g).from first

pub to_this : (p : Program) (at : Site) (c : Constraint) (k : Pledge) → ConstraintGives p at c (Ok k)
    → OfThis k.to.atom.anchor
to_this p at c k g =
    (this_is_alone p).in_constraint role.To at c.to (target_type k.to) (atom_of k.to.atom) tt
    (sides_there p at c k g).to first

-- ---- with `this` at its view

-- what a class of the type turns to
pub record TurnsTo (p : Program) (s : Scope) (v : Views) (R : Path) (k : Pledge) (u : Target) (V : Path) : Type 0 where
  pub view : Path
  pub family : Name
  pub counterpart : Counterpart p family V view
  pub is_in : InType p v (normal_type s (target_type u)) view
  pub fields : (f : Name) → HasField p view f → Passes p (with_this R (sides_of p k)) V view f

module _ {p : Program} {s : Scope} {v : Views} {R : Path} (binds : BindsFit s) (respects : Respects p v s)
    (this : v 0 ≡ Some R) where
  this_seen : (a : Anchor) → OfThis a → AnchorSeen v a
  this_seen Root o = tt
  this_seen (Up q k) o =
      subst (λ (z : ℕ). Seen v z) (sym o) (subst (λ (n : Option Path). IsSome n) (sym this) refl)

  side_seen : (x : Target) → OfThis x.atom.anchor → (u : Atom) → Among (atoms_in (target_type x)) u
      → AnchorSeen (after same_path v) u.anchor
  side_seen x o _ first = this_seen x.atom.anchor o
  side_seen x o u (later b) = elim b [ ]

  -- a class is in a side as it is where the constraint holds, and as it is in the scope
  pub to_side : (x : Target) → OfThis x.atom.anchor → (U : Path) → InType p v (normal_type s (target_type x)) U
      → InAtom p no_views (rooted_at R (atom_of x.atom)) U
  to_side x o U i =
      (this_rooted p v R (atom_of x.atom) U this o).0
      ((classes_subst respects same_path (target_type x) (normal_type s (target_type x)) U (side_seen x o)
      ((type_subst_is s same_path (target_type x) (normal_type s (target_type x))).1 refl)).1 i (atom_of x.atom) first)

  pub from_side : (x : Target) → OfThis x.atom.anchor → (U : Path)
      → InAtom p no_views (rooted_at R (atom_of x.atom)) U → InType p v (normal_type s (target_type x)) U
  from_side x o U i =
      (classes_subst respects same_path (target_type x) (normal_type s (target_type x)) U (side_seen x o)
      ((type_subst_is s same_path (target_type x) (normal_type s (target_type x))).1 refl)).0 alone where
        alone : (u : Atom) → Among (atoms_in (target_type x)) u → InAtom p v u U
        alone _ first = (this_rooted p v R (atom_of x.atom) U this o).1 i
        alone u (later b) = elim b [ ]

  pub turns_to : (k : Pledge) (t : Ty) (u : Target) → OfThis k.from.atom.anchor → OfThis k.to.atom.anchor
      → IsGrant p s k t u → HoldsAt p R (sides_of p k) → (V : Path) → IsClass p V → InType p v t V
      → TurnsTo p s v R k u V
  turns_to k t u fo to grant holds V class i =
      let g = holds V class (from_atoms (to_side k.from fo V (types_below binds respects t _ V grant.below i))) in
      record {
        view = g.view;
        family = g.turns.family;
        counterpart = g.turns.counterpart;
        is_in = subst (λ (xs : List Atom). InAtoms p v xs g.view) grant.atoms (from_side k.to to g.view g.turns.is_in);
        fields = g.fields;
      } where
        from_atoms : InAtom p no_views (rooted_at R (atom_of k.from.atom)) V
            → InAtoms p no_views (rooted_at R (atom_of k.from.atom) ∷ []) V
        from_atoms j _ first = j
        from_atoms j x (later b) = elim b [ ]

  -- a constraint that another one grants holds where that does
  pub granted_holds : (k x : Pledge) → OfThis k.from.atom.anchor → OfThis k.to.atom.anchor
      → OfThis x.from.atom.anchor → OfThis x.to.atom.anchor
      → IsGrant p s k (normal_type s (target_type x.from)) x.to
      → 0 < length ((rooted_at R (atom_of x.to.atom)).exact ++ eval no_views (rooted_at R (atom_of x.to.atom)).anchor)
      → HoldsAt p R (sides_of p k) → HoldsAt p R (sides_of p x)
  granted_holds k x kf kt xf xt grant long holds U class i =
      let g = turns_to k (normal_type s (target_type x.from)) x.to kf kt grant holds U class
      (from_side x.from xf U (i (rooted_at R (atom_of x.from.atom)) first)) in
      let inside : InAtom p no_views (rooted_at R (atom_of x.to.atom)) g.view = to_side x.to xt g.view g.is_in in
      record {
        view = g.view;
        turns = record {
          family = g.family;
          of_target = family_in (rooted_at R (atom_of x.to.atom)) g.view inside long
              ∙ (sharing_laws p).family g.family U g.view g.counterpart;
          counterpart = g.counterpart;
          is_in = inside;
        };
        fields = λ f has. passes g.view f (g.fields f has);
      } where
        passes : (W : Path) (f : Name) → Passes p (with_this R (sides_of p k)) U W f
            → Passes p (with_this R (sides_of p x)) U W f
        passes W f (masked m) = masked (masked_more grant.masks m)
        passes W f (same_slot sl has one other free) =
            same_slot sl has one other (λ m. free (masked_more (below_masks refl grant.below) m))
