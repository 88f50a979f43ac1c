-- The universe and what is reached in it.
use Rattle.std.proofs.Common.{[], ◌∷◌, suc, ap}
use Rattle.jn_base.specs.declared.tree.Decl.{Decl}
use Rattle.jn_base.specs.declared.tree.Program.{Program}
use Rattle.jn_base.specs.Paths.{Path, StandsIn, StandsAt}
use Rattle.jn_base.specs.Supers.{Direct, inherited, written, Sup, itself, above}
use Rattle.jn_base.specs.Universe.{IsNamespace, InUniverse, Reach, here, outwards, upwards}
use Rattle.jn_base.specs.LawsOfSupers.{DeclaredAsDeep}
use Rattle.jn_base.proofs.SuperLaws.{direct_namespace, sup_level}

-- the namespace of a declaration is one
pub stands_namespace : (p : Program) (P : Path) (d : Decl) → StandsIn p P d → IsNamespace p P
stands_namespace p [] d s = tt
stands_namespace p (C ∷ P) d s = (
  stands_namespace p P s.0 s.1,
  record {
    at = P;
    super = itself;
    declared = record { decl = s.0; stands = (s.1, s.2) };
  },
)

pub declared_in_universe : (p : Program) (R : Path) (d : Decl) → StandsAt p R d → InUniverse p R
declared_in_universe p [] d s = absurd s
declared_in_universe p (C ∷ P) d s = (stands_namespace p P d s.0, record { at = P; super = itself; declared = record { decl = d; stands = s } })

pub direct_in_universe : {p : Program} {R S : Path} → Direct p R S → InUniverse p R → InUniverse p S
direct_in_universe (inherited d s x) r = (direct_namespace d r.0, record { at = _; super = s; declared = x })
direct_in_universe (written s e t x) r = (r.0, record { at = _; super = t; declared = x })

pub sup_in_universe : {p : Program} {R S : Path} → Sup p R S → InUniverse p R → InUniverse p S
sup_in_universe itself r = r
sup_in_universe (above d s) r = sup_in_universe s (direct_in_universe d r)

pub reach_super : {p : Program} {q R S : Path} → Sup p R S → Reach p q R → Reach p q S
reach_super itself r = r
reach_super (above d s) r = reach_super s (upwards r d)

pub reach_joined : {p : Program} {q R S : Path} → Reach p q R → Reach p R S → Reach p q S
reach_joined r here = r
reach_joined r (outwards s) = outwards (reach_joined r s)
reach_joined r (upwards s d) = upwards (reach_joined r s) d

pub reach_in_universe : {p : Program} {q R : Path} → InUniverse p q → Reach p q R → InUniverse p R
reach_in_universe u here = u
reach_in_universe u (outwards r) = (reach_in_universe u r).0
reach_in_universe u (upwards r d) = direct_in_universe d (reach_in_universe u r)

pub universe_depth : (p : Program) (R : Path) → InUniverse p R → DeclaredAsDeep p R
universe_depth p [] u = absurd u
universe_depth p (C ∷ P) u = record { path = C ∷ u.1.at; declared = u.1.declared; long = ap suc (sup_level u.1.super) }
