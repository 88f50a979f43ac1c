-- Where the types of a header stand, and what is known there.
use Rattle.std.specs.Prelude.{◌≡◌, ◌≤◌, suc, List, [], ◌∷◌, ◌++◌, length, Ok}
use Rattle.jn_base.specs.declared.tree.Name.{Name}
use Rattle.jn_base.specs.declared.tree.Param.{Param}
use Rattle.jn_base.specs.declared.tree.TypeTerm.{TypeTerm}
use Rattle.jn_base.specs.declared.tree.Program.{Program}
use Rattle.jn_base.specs.declared.types.Ty.{Ty}
use Rattle.jn_base.specs.declared.names.Var.{Var}
use Rattle.jn_base.specs.Paths.{Path}
use Rattle.jn_base.specs.Atoms.{Among}
use Rattle.jn_base.specs.ResolveTypes.{mask_names}
use Rattle.jn_table.specs.declared.table.Table.{Table}
use Rattle.jn_table.specs.Tables.{IsFilled}
use Rattle.jn_sem.specs.Terms.{Site}
use Rattle.jn_sem.specs.Does.{Body, var}
use Rattle.jn_intern.specs.Pools.{ScopeInPool, scope_in}
use Rattle.jn_laws.specs.LawsOfWritten.{Shallow, SiteFits, TypeThere}
use Rattle.jn_rules.specs.Plans.{OfType}
use Rattle.jn_rules.specs.Questions.{Means}
use Rattle.jn_rules.specs.Headers.{scope_of, declared_type}
use Rattle.jn_heads.specs.declared.place.Place.{Place}

-- The universe is filled in the table, none of its paths has more than 255 names, and these are the names of the masks.
pub record IsReady (p : Program) (t : Table) (names : List Name) : Type 0 where
  pub filled : IsFilled p t
  pub shallow : Shallow p
  pub masks : names ≡ mask_names p

abbrev pub site_of : Place → Site
site_of at = record { class = at.class; method = at.method; vars = at.vars.list }

-- The place's scope is that of its variables, which are numbered from 1, and their types fit.
pub record Stands (p : Program) (pool : List Ty) (at : Place) : Type 0 where
  pub fits : SiteFits p (site_of at)
  pub numbered : (v : Var) → Among at.vars.list v → v.path ≤ length at.vars.list
  pub known : ScopeInPool pool at.scope
  pub scope : scope_in pool at.scope ≡ scope_of (site_of at)

-- the type of a parameter or result: what the written type stands for, in normal form
pub record IsTyped (p : Program) (at : Site) (written : TypeTerm) (t : Ty) : Type 0 where
  pub given : Ty
  pub resolved : Means p (OfType at written) (Ok given)
  pub is : t ≡ declared_type at given
  pub there : TypeThere at t

-- the place is in the header of the body
pub record IsIn (b : Body) (at : Place) : Type 0 where
  pub class : at.class ≡ b.class
  pub method : at.method ≡ b.method.name.name

-- one place has the parameter behind the variables of the other
pub record HasParam (p : Program) (before : Place) (x : Param) (after : Place) : Type 0 where
  pub class : after.class ≡ before.class
  pub method : after.method ≡ before.method
  pub ty : Ty
  pub typed : IsTyped p (site_of before) x.ty ty
  pub vars : after.vars.list ≡ before.vars.list ++ var x.name.name (suc (length before.vars.list)) x.fixed ty ∷ []

-- no variable is in scope
pub record StartsAt (Q : Path) (m : Name) (at : Place) : Type 0 where
  pub class : at.class ≡ Q
  pub method : at.method ≡ m
  pub vars : at.vars.list ≡ []
