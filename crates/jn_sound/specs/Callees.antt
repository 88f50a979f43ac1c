-- The body that a call finds by its receiver's type, with its header.
use Rattle.std.specs.Prelude.{List}
use Rattle.jn_base.specs.declared.tree.Name.{Name}
use Rattle.jn_base.specs.declared.tree.Program.{Program}
use Rattle.jn_base.specs.declared.types.Ty.{Ty}
use Rattle.jn_base.specs.declared.names.Var.{Var}
use Rattle.jn_base.specs.Paths.{Path}
use Rattle.jn_base.specs.Atoms.{atoms_in}
use Rattle.jn_base.specs.Scopes.{Scope}
use Rattle.jn_sem.specs.Does.{Body, IsBody}
use Rattle.jn_rules.specs.Headers.{Header}
use Rattle.jn_rules.specs.Questions.{FirstWith, HasMethod}
use Rattle.jn_rule_laws.specs.LawsOfHeaders.{IsHeader}

-- the bound at which a body was found, the body, and its header
pub record Callee : Type 0 where
  pub bound : Path
  pub body : Body
  pub vars : List Var
  pub result : Ty

abbrev pub header_of : Callee → Header
header_of x = record { vars = x.vars; result = x.result }

-- a least body of m at its bound, with its header
pub record IsCallee (p : Program) (m : Name) (x : Callee) : Type 0 where
  pub body : IsBody p x.bound m x.body
  pub header : IsHeader p x.body (header_of x)

-- what a call of m finds by a receiver's type: the least body at the bound of the first atom whose bound has m
pub record IsCalled (p : Program) (s : Scope) (t : Ty) (m : Name) (x : Callee) : Type 0 where
  pub at : FirstWith s (HasMethod p m) (atoms_in t) x.bound
  pub callee : IsCallee p m x
