-- Parameters, as the runner finds their types.
use Rattle.std.specs.Prelude.{◌≡◌, suc, List, ◌++◌, ◌∷◌, [], length, Bool, true, false}
use Rattle.jn_base.specs.declared.tree.Name.{Name}
use Rattle.jn_base.specs.declared.tree.Param.{Param}
use Rattle.jn_base.specs.declared.tree.Method.{Method}
use Rattle.jn_base.specs.declared.tree.Program.{Program}
use Rattle.jn_base.specs.declared.path.Path.{Path as ShownPath}
use Rattle.jn_base.specs.declared.names.Vars.{Vars}
use Rattle.jn_base.specs.declared.types.Ty.{Ty}
use Rattle.jn_base.specs.Paths.{Path}
use Rattle.jn_sem.specs.Does.{Body, var}
use Rattle.jn_sem.specs.Terms.{TypeIs}
use Rattle.jn_table.specs.declared.class.ClassId.{ClassId}
use Rattle.jn_meaning.specs.Values.{path_at}
use Rattle.jn_meaning.specs.Sites.{site_with}

abbrev pub body_at : List ShownPath → ClassId → Method → Body
body_at known id m = record { class = path_at known id; method = m }

-- the parameter has a type, and comes last
pub record IsAdded (p : Program) (Q : Path) (m : Name) (old new : Vars) (x : Param) : Type 0 where
  pub ty : Ty
  pub type : TypeIs p (site_with Q m old) x.ty ty
  pub is : new.list ≡ old.list ++ var x.name.name (suc (length old.list)) x.fixed ty ∷ []

-- it was added, or has no type
abbrev pub ParamAdded : Program → Path → Name → Vars → Vars → Param → Bool → Type 0
ParamAdded p Q m old new x true = IsAdded p Q m old new x
ParamAdded p Q m old new x false = (t : Ty) → TypeIs p (site_with Q m old) x.ty t → ⊥
