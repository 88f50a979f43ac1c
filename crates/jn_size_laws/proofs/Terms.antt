-- The atom of a term has the names of the term.
use Rattle.std.proofs.Common.{◌≡◌, List, [], ◌∷◌, ◌++◌, length, reverse, Bool, true, false, Option, Some, None, sym, ap, ◌∙◌, subst, arith}
use Rattle.std.specs.Prelude.{Result, Ok, Err}
use Rattle.std.proofs.lemmas.List.{length-append, length-reverse}
use Rattle.jn_base.specs.declared.tree.Name.{Name}
use Rattle.jn_base.specs.declared.tree.Named.{Named}
use Rattle.jn_base.specs.declared.tree.Term.{Term}
use Rattle.jn_base.specs.declared.tree.ViewTerm.{ViewTerm}
use Rattle.jn_base.specs.declared.tree.Program.{Program}
use Rattle.jn_base.specs.declared.types.Anchor.{Anchor}
use Rattle.jn_base.specs.declared.types.Atom.{Atom as ShownAtom}
use Rattle.jn_base.specs.declared.types.Masks.{Masks}
use Rattle.jn_base.specs.declared.types.Ty.{Ty}
use Rattle.jn_base.specs.declared.types.Ty.TheVariants as ty
use Rattle.jn_base.specs.declared.names.Role.{Role}
use Rattle.jn_base.specs.declared.names.Role.TheVariants as role
use Rattle.jn_base.specs.declared.names.Spot.{Spot}
use Rattle.jn_base.specs.declared.names.Vars.{Vars}
use Rattle.jn_base.specs.declared.refusal.Refusal.{Refusal}
use Rattle.jn_base.specs.Paths.{Path}
use Rattle.jn_base.specs.Atoms.{Atom, atom_of}
use Rattle.jn_base.specs.Resolve.{Resolve, AtomGives, SuitGives, ClassGives, no_class, in_class, atom_with, suits, names_of, bound_at}
use Rattle.jn_base.specs.ResolveTypes.{ResolveAll, refused, first, before_all, AtomsGive, DepthsGive, many, one, MasksGive, UnfitGives, UnmaskedGives, Taken, bounds_at, may_mask, mask_names}
use Rattle.jn_sem.specs.Terms.{Site, TermIs, ViewIs, spot_at, vars_at}

abbrev Answer : Type 0
Answer = Result ShownAtom Refusal

same_atom : (a b : ShownAtom) → ◌≡◌ {A = Answer} (Ok a) (Ok b) → a ≡ b
same_atom a b e = cc

no_atom : (a : ShownAtom) (r : Refusal) → ◌≡◌ {A = Answer} (Ok a) (Err r) → ⊥
no_atom a r e = cc

-- the names of a term's atom are as many as the term's
abbrev Counted : Term → ShownAtom → Type 0
Counted t x = length (x.exact ++ x.names) ≡ length (names_of t)

module _ (p : Program) (spot : Spot) (vars : Vars) (t : Term) where
  by_class : (B : Path) (x y : ShownAtom) → ClassGives p spot t B y (Ok x) → x ≡ y
  by_class B x y (no_class n e) = absurd (no_atom x _ e)
  by_class B x y (in_class n e) = same_atom x y e

  by_suit : (x y : ShownAtom) (s : Bool) → SuitGives p spot vars t y s (Ok x) → x ≡ y
  by_suit x y false e = absurd (no_atom x _ e)
  by_suit x y true h = by_class (bound_at spot vars y) x y h

  by_anchor : (x : ShownAtom) (a : Result Anchor Refusal) → AtomGives p spot vars t a (Ok x) → Counted t x
  by_anchor x (Err r) e = absurd (no_atom x r e)
  by_anchor x (Ok a) h =
      ap (λ (x : ShownAtom). length (x.exact ++ x.names)) (by_suit x (atom_with a t)
      (suits spot.role (atom_with a t)) h)

  pub term_names : (x : ShownAtom) → Resolve p spot vars t (Ok x) → Counted t x
  term_names x h = by_anchor x h.anchor h.gives

-- as the definitions have it, the innermost name first
turned : (x : ShownAtom) → length ((atom_of x).names ++ (atom_of x).exact) ≡ length (x.exact ++ x.names)
turned x =
    let a = length-append (reverse x.names) (reverse x.exact) in
    let b = length-append x.exact x.names in
    let c = length-reverse x.names in
    let d = length-reverse x.exact in
    omega (arith, a, b, c, d)

pub names_counted : (p : Program) (r : Role) (at : Site) (t : Term) (x : Atom) → TermIs p r at t x →
    length (x.names ++ x.exact) ≡ length (names_of t)
names_counted p r at t x h =
    ap (λ (x : Atom). length (x.names ++ x.exact)) h.2 ∙ turned h.0 ∙ term_names p (spot_at at r) (vars_at at) t h.0 h.1

-- ---- the target of a view

abbrev Types : Type 0
Types = Result Ty Refusal

same_class : (xs ys : List ShownAtom) (m n : Masks) → ◌≡◌ {A = Types} (Ok (ty.Class xs m)) (Ok (ty.Class ys n)) →
    xs ≡ ys
same_class xs ys m n e = cc

no_class_type : (xs : List ShownAtom) (m : Masks) (r : Refusal) → ◌≡◌ {A = Types} (Ok (ty.Class xs m)) (Err r) → ⊥
no_class_type xs m r e = cc

module _ (p : Program) (names : List Name) (spot : Spot) (vars : Vars) (xs : List ShownAtom) (mk : Masks) where
  abbrev Given : Types
  Given = Ok (ty.Class xs mk)

  by_taken : (ys : List ShownAtom) (ms : List Named) → Taken names ys ms Given → xs ≡ ys
  by_taken ys ms h = same_class xs ys mk h.masks h.gives

  by_unfit : (ys : List ShownAtom) (ms : List Named) (o : Option Named) → UnfitGives names spot ys ms o Given → xs ≡ ys
  by_unfit ys ms (Some m) e = absurd (no_class_type xs mk _ e)
  by_unfit ys ms None h = by_taken ys ms h

  by_unmasked : (ys : List ShownAtom) (ms : List Named) → UnmaskedGives names spot ys ms Given → xs ≡ ys
  by_unmasked ys [] h = by_taken ys [] h
  by_unmasked ys (m ∷ ms) e = absurd (no_class_type xs mk _ e)

  by_masks : (bounds : List Path) (ys : List ShownAtom) (ms : List Named) (b : Bool) →
      MasksGive p names spot bounds ys ms b Given → xs ≡ ys
  by_masks bounds ys ms true h = by_unfit ys ms h.first h.gives
  by_masks bounds ys ms false h = by_unmasked ys ms h

  by_depths : (ts : List Term) (ms : List Named) (bounds : List Path) (ys : List ShownAtom) →
      DepthsGive p names spot ts ms bounds ys Given → xs ≡ ys
  by_depths ts ms bounds ys (many a b others n is e) = absurd (no_class_type xs mk _ e)
  by_depths ts ms bounds ys (one d h) = by_masks bounds ys ms (may_mask spot.role) h

  by_atoms : (ts : List Term) (ms : List Named) (atoms : Result (List ShownAtom) Refusal) →
      AtomsGive p names spot vars ts ms atoms Given → atoms ≡ Ok xs
  by_atoms ts ms (Err r) e = absurd (no_class_type xs mk r e)
  by_atoms ts ms (Ok ys) h = ap (λ (ys : List ShownAtom). let o : Result (List ShownAtom) Refusal = Ok ys in o)
      (sym (by_depths ts ms (bounds_at spot vars ys) ys h))

abbrev All : Type 0
All = Result (List ShownAtom) Refusal

no_list : (x : ShownAtom) (r : Refusal) → ◌≡◌ {A = All} (Ok (x ∷ [])) (Err r) → ⊥
no_list x r e = cc

the_first : (x y : ShownAtom) (others : All) → ◌≡◌ {A = All} (Ok (x ∷ [])) (before_all y others) → x ≡ y
the_first x y (Err r) e = absurd (no_list x r e)
the_first x y (Ok zs) e = cc

pub view_counted : (p : Program) (at : Site) (v : ViewTerm) (x : Atom) → ViewIs p at v x →
    length (x.names ++ x.exact) ≡ length (names_of v.term)
view_counted p at v x h =
    let atoms = by_atoms p (mask_names p) (spot_at at role.View) (vars_at at)
    (h.given ∷ []) h.masks (v.term ∷ []) v.masks h.resolved.atoms h.resolved.gives in
    ap (λ (x : Atom). length (x.names ++ x.exact)) h.is ∙ turned h.given
    ∙ of_all h.given (subst (λ (o : All). ResolveAll p (spot_at at role.View) (vars_at at)
    (v.term ∷ []) o) atoms h.resolved.all)
  where
    of_all : (x : ShownAtom) → ResolveAll p (spot_at at role.View) (vars_at at) (v.term ∷ []) (Ok (x ∷ [])) →
        Counted v.term x
    of_all x (refused r gone e) = absurd (no_list x r e)
    of_all x (first y others is rest e) =
        ap (λ (x : ShownAtom). length (x.exact ++ x.names))
        (the_first x y others e) ∙ term_names p (spot_at at role.View) (vars_at at) v.term y is
