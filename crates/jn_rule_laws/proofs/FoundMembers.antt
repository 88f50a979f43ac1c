-- A class in a type is under the bounds at which its members are found.
use Rattle.std.proofs.Common.{◌≡◌, List, sym, subst}
use Rattle.jn_base.specs.Paths.{Path}
use Rattle.jn_base.specs.Supers.{Sup}
use Rattle.jn_base.specs.Universe.{InUniverse}
use Rattle.jn_base.specs.Atoms.{Atom, atoms_in, Among, first, later}
use Rattle.jn_base.specs.Scopes.{Scope, bound}
use Rattle.jn_laws.proofs.Bounded.{members_in_universe, classes_under_bounds}
use Rattle.jn_rules.specs.Questions.{FirstWith, first as first_with, later as later_with}
use Rattle.jn_rule_laws.specs.LawsOfMembers.{MembersUnderBounds}

-- the atom at whose bound it was found
pub record FoundAt (s : Scope) (Has : Path → Type 0) (xs : List Atom) (B : Path) : Type 0 where
  pub atom : Atom
  pub among : Among xs atom
  pub is : B ≡ bound s atom
  pub has : Has B

pub found_at : {s : Scope} {Has : Path → Type 0} {B : Path} (xs : List Atom) → FirstWith s Has xs B → FoundAt s Has xs B
found_at _ (first_with {x = x} e h) = record { atom = x; among = first; is = e; has = h }
found_at _ (later_with {xs = xs} n f) = let r = found_at xs f in record { atom = r.atom; among = later r.among; is = r.is; has = r.has }

pub members_under_bounds : MembersUnderBounds
members_under_bounds p s v t V f r i = record {
  field = λ g x k. let a = found_at (atoms_in t) k.at in
      subst (Sup p V) (sym a.is) (classes_under_bounds p s v f r t a.atom V i a.among (subst (InUniverse p) a.is ((members_in_universe p).fields k.bound g a.has)));
  method = λ m b k. let a = found_at (atoms_in t) k.at in
      subst (Sup p V) (sym a.is) (classes_under_bounds p s v f r t a.atom V i a.among (subst (InUniverse p) a.is ((members_in_universe p).methods k.bound m a.has)));
}
