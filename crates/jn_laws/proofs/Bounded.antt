-- Members are found in the universe, and the classes of a type stand under its bounds.
use Rattle.std.proofs.Common.{[], ◌∷◌}
use Rattle.jn_base.specs.declared.tree.Program.{Program}
use Rattle.jn_base.specs.Paths.{Path}
use Rattle.jn_base.specs.Supers.{Direct, inherited, written, Sup, itself, above}
use Rattle.jn_base.specs.Universe.{IsNamespace, InUniverse}
use Rattle.jn_base.specs.Scopes.{bound}
use Rattle.jn_base.proofs.Reaching.{declared_in_universe}
use Rattle.jn_sem.proofs.Under.{under_super, under_names, under_exact, value_under, type_atoms}
use Rattle.jn_laws.specs.LawsOfBounds.{MembersInUniverse, ClassesUnderBounds}

namespace_of : (p : Program) (R : Path) → InUniverse p R → IsNamespace p R
namespace_of p [] u = absurd u
namespace_of p (C ∷ P) u = u

mutual
  -- a path that has a direct super is in the universe
  pub direct_there : {p : Program} {R S : Path} → Direct p R S → InUniverse p R
  direct_there {p} (inherited {P = P} d s x) = (namespace_of p P (direct_there d), record { at = _; super = above d s; declared = x })
  direct_there {p} (written {P = P} {S = S} {C = C} s e t x) =
      (below_namespace s (declared_in_universe p (C ∷ S) e.decl e.stands).0, record { at = S; super = s; declared = record { decl = e.decl; stands = e.stands } })

  below_namespace : {p : Program} {R S : Path} → Sup p R S → IsNamespace p S → IsNamespace p R
  below_namespace itself n = n
  below_namespace {p} (above {R = R} d s) n = namespace_of p R (direct_there d)

pub heir_there : {p : Program} {R S : Path} → Sup p R S → InUniverse p S → InUniverse p R
heir_there itself u = u
heir_there (above d s) u = direct_there d

pub members_in_universe : MembersInUniverse
members_in_universe p = record {
  heirs = λ R S s u. heir_there s u;
  methods = λ R m h. heir_there h.1.super (declared_in_universe p h.0 h.1.at.decl h.1.at.stands);
  fields = λ R f h. heir_there h.declares.super (declared_in_universe p h.at h.declares.at.decl h.declares.at.stands);
}

pub classes_under_bounds : ClassesUnderBounds
classes_under_bounds p s v f r t x V i a u =
    let h = (type_atoms t i).1 x a in
    under_super
    (under_names x.names V h.inside.exact h.inside.super (under_exact x.exact (value_under v f r x.anchor h.seen)))
    (namespace_of p (bound s x) u)
