-- The law of resolving.
use Rattle.std.specs.Prelude.{◌≡◌, List, Result}
use Rattle.jn_base.specs.declared.tree.Name.{Name}
use Rattle.jn_base.specs.declared.tree.Term.{Term}
use Rattle.jn_base.specs.declared.tree.TypeTerm.{TypeTerm}
use Rattle.jn_base.specs.declared.tree.ViewTerm.{ViewTerm}
use Rattle.jn_base.specs.declared.tree.Program.{Program}
use Rattle.jn_base.specs.declared.types.Atom.{Atom as ShownAtom}
use Rattle.jn_base.specs.declared.types.Ty.{Ty}
use Rattle.jn_base.specs.declared.names.Spot.{Spot}
use Rattle.jn_base.specs.declared.names.Vars.{Vars}
use Rattle.jn_base.specs.declared.refusal.Refusal.{Refusal}
use Rattle.jn_base.specs.Resolve.{Resolve}
use Rattle.jn_base.specs.ResolveTypes.{ResolveType, ResolveView}

-- a term, a type and a view have one answer at most: an atom or a type, or a refusal
pub record OneAnswer (p : Program) (spot : Spot) (vars : Vars) : Type 0 where
  pub term : (t : Term) (a b : Result ShownAtom Refusal) → Resolve p spot vars t a → Resolve p spot vars t b → a ≡ b
  pub of_type : (names : List Name) (t : TypeTerm) (a b : Result Ty Refusal)
      → ResolveType p names spot vars t a → ResolveType p names spot vars t b → a ≡ b
  pub of_view : (names : List Name) (v : ViewTerm) (a b : Result Ty Refusal)
      → ResolveView p names spot vars v a → ResolveView p names spot vars v b → a ≡ b

abbrev pub ResolvedOnce : Type 0
ResolvedOnce = (p : Program) (spot : Spot) (vars : Vars) → OneAnswer p spot vars
