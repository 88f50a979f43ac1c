-- What an Env has of its program, and what stays of it.
use Rattle.std.specs.Prelude.{◌≡◌, ◌≤◌, [], ◌∷◌, List}
use Rattle.jn_base.specs.declared.tree.Name.{Name}
use Rattle.jn_base.specs.declared.tree.Method.{Method}
use Rattle.jn_base.specs.declared.tree.Program.{Program}
use Rattle.jn_base.specs.declared.path.Path.{Path as ShownPath}
use Rattle.jn_base.specs.declared.names.Var.{Var}
use Rattle.jn_base.specs.declared.types.Ty.{Ty}
use Rattle.jn_base.specs.Paths.{Path}
use Rattle.jn_base.specs.Duplicates.{duplicates}
use Rattle.jn_base.specs.Scopes.{Scope as TypeScope}
use Rattle.jn_base.specs.Fits.{ScopeFits}
use Rattle.jn_base.specs.ResolveTypes.{mask_names}
use Rattle.jn_table.specs.declared.table.Table.{Table}
use Rattle.jn_table.specs.Tables.{IsFilled}
use Rattle.jn_names.specs.declared.members.Members.{Members}
use Rattle.jn_names.specs.Members.{IsMembersOf}
use Rattle.jn_intern.specs.declared.scope.Scope.{Scope}
use Rattle.jn_intern.specs.Pools.{Keeps, ScopeInPool, scope_in}
use Rattle.jn_share.specs.declared.groups.Groups.{Groups}
use Rattle.jn_share.specs.declared.slots.Slots.{Slots}
use Rattle.jn_share.specs.Groups.{AreGroups}
use Rattle.jn_share.specs.Slots.{AreSlots}
use Rattle.jn_sem.specs.Terms.{Site}
use Rattle.jn_laws.specs.LawsOfWritten.{Shallow, SiteFits}
use Rattle.jn_laws.specs.LawsOfSources.{WellFormed}
use Rattle.jn_rules.specs.Exprs.{Here, next_path}
use Rattle.jn_rule_laws.specs.LawsOfForms.{ScopeFor}
use Rattle.jn_expr.specs.declared.env.Env.{Env}

-- what no expression changes
pub record Parts : Type 0 where
  pub table : Table
  pub members : Members
  pub groups : Groups
  pub slots : Slots
  pub masks : List Name
  pub vars : List Var
  pub class : ShownPath
  pub method : Name

abbrev pub parts : Env → Parts
parts env = record {
  table = env.table;
  members = env.members;
  groups = env.groups;
  slots = env.slots;
  masks = env.masks.items;
  vars = env.vars.list;
  class = env.class;
  method = env.method;
}

-- They are those of the program p: no name stands twice in it, the types of its headers are formed, the universe is filled in the
-- table, none of its paths has more than 255 names, and members, groups, slots and the names of the masks are those of p.
pub record ArePartsOf (p : Program) (x : Parts) : Type 0 where
  pub once : duplicates p ≡ []
  pub well : WellFormed p
  pub filled : IsFilled p x.table
  pub shallow : Shallow p
  pub members : IsMembersOf p x.table x.members
  pub groups : AreGroups p x.table.known.items x.groups
  pub slots : AreSlots p x.table.known.items x.slots
  pub masks : x.masks ≡ mask_names p

-- each fresh path has the number that was the next one when it was bound
abbrev pub InOrder : TypeScope → Type 0
InOrder [] = Unit {0}
InOrder (b ∷ s) = InOrder s × (256 ≤ b.path → b.path ≡ next_path s)

-- the scope binds its paths to numbers of the pool, and fits; its fresh paths are numbered in their order
pub record IsScope (pool : List Ty) (scope : Scope) : Type 0 where
  pub known : ScopeInPool pool scope
  pub fits : ScopeFits (scope_in pool scope)
  pub order : InOrder (scope_in pool scope)

-- the variables of the place fit, and the scope is theirs, with any masks and with fresh paths
pub record IsThere (p : Program) (at : Site) (s : TypeScope) : Type 0 where
  pub site : SiteFits p at
  pub scope : ScopeFor at s

-- Nothing of the program is changed, and each older number of the pool shows the same.
pub record Stays (old new : Env) : Type 0 where
  pub same : parts new ≡ parts old
  pub pool : Keeps old.pool new.pool

-- an expression stands in this method of the declaration at Q, where these variables are in scope
abbrev pub here_at : Path → Method → List Var → Here
here_at Q m vars = record { class = Q; method = m; vars = vars }
