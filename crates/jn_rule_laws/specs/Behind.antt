-- What stands behind statements that the rules accept: which variables, which scope, and the number of the next local.
use Rattle.std.specs.Prelude.{◌≡◌, ◌≤◌, ℕ, List, [], ◌∷◌, ◌++◌, false, Ok}
use Rattle.jn_base.specs.declared.tree.Program.{Program}
use Rattle.jn_base.specs.declared.tree.Stmt.{Stmt}
use Rattle.jn_base.specs.declared.names.Var.{Var}
use Rattle.jn_base.specs.Scopes.{Bind, Scope}
use Rattle.jn_base.specs.Atoms.{atoms_in, MasksWithin}
use Rattle.jn_base.specs.Resolve.{is_class}
use Rattle.jn_sem.specs.Acts.{path_behind}
use Rattle.jn_rules.specs.Questions.{Gives, masks_of}
use Rattle.jn_rules.specs.Stmts.{In, Before, stmts_type}
use Rattle.jn_rule_laws.specs.LawsOfForms.{Grown}

-- a bind with the same masks or fewer
pub record BindApart (b c : Bind) : Type 0 where
  pub path : c.path ≡ b.path
  pub atoms : atoms_in c.ty ≡ atoms_in b.ty
  pub class : is_class c.ty ≡ is_class b.ty
  pub plain : is_class b.ty ≡ false → c.ty ≡ b.ty
  pub fewer : MasksWithin (masks_of c.ty) (masks_of b.ty)

-- the same scope but for masks, of which none is new
pub data MasksApart : Scope → Scope → Type 0 where
  none : MasksApart [] []
  one : {b c : Bind} {s t : Scope} → BindApart b c → MasksApart s t → MasksApart (b ∷ s) (c ∷ t)

-- the later scope has the binds of the earlier one, with the same masks or fewer, and newer ones before them
pub record Over (s t : Scope) : Type 0 where
  pub old : Scope
  pub apart : MasksApart s old
  pub grown : Grown old t

-- From x to y: there are variables and binds more, and the next local has this number, which is no smaller.
pub record Moved (x y : Before) (path : ℕ) : Type 0 where
  pub more : List Var
  pub vars : y.vars ≡ x.vars ++ more
  pub over : Over x.scope y.scope
  pub next : y.next ≡ path
  pub grows : x.next ≤ y.next

-- THE NUMBERS OF LOCALS GO ON as the acts of the statements have them, in any program.
abbrev pub StatementsMove : Type 0
StatementsMove = (p : Program) (b : In) (ss : List Stmt) (x y : Before) → Gives p (stmts_type b ss x) (Ok y)
    → Moved x y (path_behind ss x.next)
