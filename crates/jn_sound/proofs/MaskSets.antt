-- Masks are sets of mask numbers, and those of a written type are such.
use Rattle.std.proofs.Common.{◌≡◌, ◌≤◌, ◌<◌, ◌/◌, ◌%◌, ◌^◌, ℕ, suc, List, length, get_or, Bool, true, false, refl, sym, ap, ◌∙◌, subst, arith}
use Rattle.std.specs.Prelude.{[], ◌∷◌, Result, Ok, Err, Option, Some, None, nat_lt}
use Rattle.std.specs.Int.{bit_at}
use Rattle.std.proofs.Math.ListN.{get_or-eq_default}
use Rattle.std.proofs.lemmas.Nat.Bits.{bit_at-zero}
use Rattle.std.proofs.lemmas.Bool.{ltb-true, ltb-false}
use Rattle.jn_base.specs.declared.names.Spot.{Spot}
use Rattle.jn_base.specs.declared.names.Vars.{Vars}
use Rattle.jn_base.specs.declared.tree.Name.{Name}
use Rattle.jn_base.specs.declared.tree.Named.{Named}
use Rattle.jn_base.specs.declared.tree.Program.{Program}
use Rattle.jn_base.specs.declared.tree.TypeTerm.{TypeTerm}
use Rattle.jn_base.specs.declared.tree.TypeTerm.TheVariants as type
use Rattle.jn_base.specs.declared.types.Masks.{Masks}
use Rattle.jn_base.specs.declared.types.Atom.{Atom as ShownAtom}
use Rattle.jn_base.specs.declared.types.Ty.{Ty}
use Rattle.jn_base.specs.declared.types.Ty.TheVariants as ty
use Rattle.jn_base.specs.declared.refusal.Refusal.{Refusal}
use Rattle.jn_base.specs.Paths.{Path}
use Rattle.jn_base.specs.Atoms.{HasMask, MasksOf, no_masks}
use Rattle.jn_base.specs.Scopes.{Scope}
use Rattle.jn_base.specs.ResolveTypes.{mask_names, ResolveType, AtomsGive, many, one, MasksGive, UnfitGives, UnmaskedGives, Taken, may_mask}
use Rattle.jn_base.specs.declared.names.Role.TheVariants as role
use Rattle.jn_base.specs.Resolve.{scope_at}
use Rattle.jn_sem.specs.Normal.{NormalType}
use Rattle.jn_sem.specs.NormalFunction.{normal_type}
use Rattle.jn_sem.specs.Terms.{Site, TypeIs, spot_at, vars_at}
use Rattle.jn_laws.proofs.Terms.{same_ok}
use Rattle.jn_rule_laws.proofs.MaskNumbers.{formed_of}
use Rattle.jn_sound.specs.KnownScopes.{MasksFormed}

zeros_wide : (k d : ℕ) → k < 4 → get_or (0 ∷ 0 ∷ 0 ∷ 0 ∷ []) k d < 2 ^ 64
zeros_wide ℕ.zero d l = omega arith
zeros_wide (suc ℕ.zero) d l = omega arith
zeros_wide (suc (suc ℕ.zero)) d l = omega arith
zeros_wide (suc (suc (suc ℕ.zero))) d l = omega arith
zeros_wide (suc (suc (suc (suc k)))) d l = absurd (omega (arith, l))

pub none_formed : MasksOf (HasMask no_masks) no_masks
none_formed = record { words = refl; wide = λ k d l. zeros_wide k d l; each = λ i l. ((λ h. h), (λ h. h)) }

-- ---- written types

taken_formed : {names : List Name} {xs : List ShownAtom} {ms : List Named} (u : Ty) → Taken names xs ms (Ok u) →
    MasksFormed u
taken_formed {xs = xs} u g = subst MasksFormed (sym (same_ok u (ty.Class xs g.masks) g.gives))
    (formed_of _ g.masks g.are)

unfit_formed : (names : List Name) (sp : Spot) (xs : List ShownAtom) (ms : List Named) (o : Option Named) (u : Ty) →
    UnfitGives names sp xs ms o (Ok u) → MasksFormed u
unfit_formed names sp xs ms None u g = taken_formed u g
unfit_formed names sp xs ms (Some m) u g = cc

unmasked_formed : (names : List Name) (sp : Spot) (xs : List ShownAtom) (ms : List Named) (u : Ty) →
    UnmaskedGives names sp xs ms (Ok u) → MasksFormed u
unmasked_formed names sp xs [] u g = taken_formed u g
unmasked_formed names sp xs (m ∷ ms) u g = cc

masks_formed : (p : Program) (names : List Name) (sp : Spot) (bounds : List Path) (xs : List ShownAtom)
    (ms : List Named) (c : Bool) (u : Ty) → MasksGive p names sp bounds xs ms c (Ok u) → MasksFormed u
masks_formed p names sp bounds xs ms true u g = unfit_formed names sp xs ms g.first u g.gives
masks_formed p names sp bounds xs ms false u g = unmasked_formed names sp xs ms u g

pub type_formed : (p : Program) (sp : Spot) (vs : Vars) (t : TypeTerm) (u : Ty) → ResolveType p (mask_names p) sp vs t
    (Ok u) → MasksFormed u
type_formed p sp vs type.Int u g = subst MasksFormed (sym (same_ok u ty.Int g)) none_formed
type_formed p sp vs type.Bool u g = subst MasksFormed (sym (same_ok u ty.Bool g)) none_formed
type_formed p sp vs (type.Class ts ms) u g = atoms g.atoms g.gives where
  atoms : (o : Result (List ShownAtom) Refusal) → AtomsGive p (mask_names p) sp vs ts ms o (Ok u) → MasksFormed u
  atoms (Err r) g = cc
  atoms (Ok xs) (many a b others n e i) = cc
  atoms (Ok xs) (one d g) = masks_formed p (mask_names p) sp _ xs ms (may_mask sp.role) u g

-- and in normal form
pub formed_as_given : (s : Scope) (u : Ty) → MasksFormed u → MasksFormed (normal_type s u)
formed_as_given s (ty.Class xs m) f = f
formed_as_given s ty.Int f = f
formed_as_given s ty.Bool f = f
formed_as_given s ty.Null f = f
formed_as_given s ty.Void f = f

normal_formed : (s : Scope) (t u : Ty) → NormalType s t u → MasksFormed t → MasksFormed u
normal_formed s (ty.Class xs m) (ty.Class ys n) i f = subst (λ (k : Masks). MasksOf (HasMask k) k) (sym i.1) f
normal_formed s (ty.Class xs m) ty.Int i f = absurd i
normal_formed s (ty.Class xs m) ty.Bool i f = absurd i
normal_formed s (ty.Class xs m) ty.Null i f = absurd i
normal_formed s (ty.Class xs m) ty.Void i f = absurd i
normal_formed s ty.Int u i f = subst MasksFormed (sym i) f
normal_formed s ty.Bool u i f = subst MasksFormed (sym i) f
normal_formed s ty.Null u i f = subst MasksFormed (sym i) f
normal_formed s ty.Void u i f = subst MasksFormed (sym i) f

-- the type of a parameter, result or local
pub declared_formed : (p : Program) (at : Site) (t : TypeTerm) (u : Ty) → TypeIs p at t u → MasksFormed u
declared_formed p at t u i =
    normal_formed (scope_at (spot_at at role.Value) (vars_at at)) i.given u i.normal
    (type_formed p (spot_at at role.Value) (vars_at at) t i.given i.resolved)
