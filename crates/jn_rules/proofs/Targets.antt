-- A view has one atom: what its term stands for, with masks.
use Rattle.std.proofs.Common.{◌≡◌, ◌∙◌, Bool, true, false, List, [], ◌∷◌, ap, ◌⊎◌, inl, inr, Option, Some, None, Result, Ok, Err}
use Rattle.jn_base.specs.declared.tree.Name.{Name}
use Rattle.jn_base.specs.declared.tree.Named.{Named}
use Rattle.jn_base.specs.declared.tree.Term.{Term}
use Rattle.jn_base.specs.declared.tree.Program.{Program}
use Rattle.jn_base.specs.declared.types.Atom.{Atom as ShownAtom}
use Rattle.jn_base.specs.declared.types.Masks.{Masks}
use Rattle.jn_base.specs.declared.types.Ty.{Ty}
use Rattle.jn_base.specs.declared.types.Ty.TheVariants as ty
use Rattle.jn_base.specs.declared.names.Spot.{Spot}
use Rattle.jn_base.specs.declared.names.Vars.{Vars}
use Rattle.jn_base.specs.declared.refusal.Refusal.{Refusal}
use Rattle.jn_base.specs.Paths.{Path}
use Rattle.jn_base.specs.ResolveTypes.{before_all, ResolveAll, none, refused, first, bounds_at, may_mask, Taken, UnfitGives, UnmaskedGives, MasksGive, DepthsGive, many, one, AtomsGive}
use Rattle.jn_rules.specs.Plans.{Target}
use Rattle.jn_rules.specs.Questions.{as_type}

module _ (p : Program) (names : List Name) (spot : Spot) (vars : Vars) where
  -- a refusal, or these atoms with masks
  Classed : List ShownAtom → Result Ty Refusal → Type 0
  Classed xs o = ((r : Refusal) × (o ≡ Err r)) ⊎ ((m : Masks) × (o ≡ Ok (ty.Class xs m)))

  taken_classed : (xs : List ShownAtom) (ms : List Named) (o : Result Ty Refusal) → Taken names xs ms o → Classed xs o
  unfolding Classed
  taken_classed xs ms o t = inr (t.masks, t.gives)

  unfit_classed : (xs : List ShownAtom) (ms : List Named) (u : Option Named) (o : Result Ty Refusal) → UnfitGives names spot xs ms u o → Classed xs o
  unfolding Classed
  unfit_classed xs ms (Some m) o h = inl (_, h)
  unfit_classed xs ms None o h = taken_classed xs ms o h

  unmasked_classed : (xs : List ShownAtom) (ms : List Named) (o : Result Ty Refusal) → UnmaskedGives names spot xs ms o → Classed xs o
  unfolding Classed
  unmasked_classed xs [] o h = taken_classed xs [] o h
  unmasked_classed xs (m ∷ ms) o h = inl (_, h)

  masks_classed : (bounds : List Path) (xs : List ShownAtom) (ms : List Named) (b : Bool) (o : Result Ty Refusal) → MasksGive p names spot bounds xs ms b o → Classed xs o
  masks_classed bounds xs ms true o h = unfit_classed xs ms h.first o h.gives
  masks_classed bounds xs ms false o h = unmasked_classed xs ms o h

  depths_classed : (ts : List Term) (ms : List Named) (bounds : List Path) (xs : List ShownAtom) (o : Result Ty Refusal) → DepthsGive p names spot ts ms bounds xs o → Classed xs o
  unfolding Classed
  depths_classed ts ms bounds xs o (many t u us n e f) = inl (_, f)
  depths_classed ts ms bounds xs o (one d h) = masks_classed bounds xs ms (may_mask spot.role) o h

  one_atom : (t : Term) (xs : List ShownAtom) → ResolveAll p spot vars (t ∷ []) (Ok xs) → (x : ShownAtom) × (xs ≡ x ∷ [])
  one_atom t xs (refused r h e) = absurd (cc e)
  one_atom t xs (first x others h (none f) e) = (x, of (e ∙ ap (before_all x) f)) where
    of : ◌≡◌ {A = Result (List ShownAtom) Refusal} (Ok xs) (Ok (x ∷ [])) → xs ≡ x ∷ []
    of g = cc g

  -- a refusal, or one atom with masks
  pub target_of : (t : Term) (ms : List Named) (o : Result Ty Refusal) (x : Result (List ShownAtom) Refusal) → ResolveAll p spot vars (t ∷ []) x
      → AtomsGive p names spot vars (t ∷ []) ms x o → (y : Result Target Refusal) × (o ≡ as_type y)
  unfolding Classed
  target_of t ms o (Err r) all h = (Err r, h)
  target_of t ms o (Ok xs) all h = at (depths_classed (t ∷ []) ms (bounds_at spot vars xs) xs o h) where
    at : Classed xs o → (y : Result Target Refusal) × (o ≡ as_type y)
    at (inl r) = (Err r.0, r.1)
    at (inr m) = let a = one_atom t xs all in
        (Ok (record { atom = a.0; masks = m.0 }), m.1 ∙ ap (λ (ys : List ShownAtom). let r : Result Ty Refusal = Ok (ty.Class ys m.0) in r) a.1)
