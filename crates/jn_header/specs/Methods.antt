-- Bodies of a method that have another signature than the least one.
use Rattle.std.specs.Prelude.{◌≡◌, List}
use Rattle.jn_base.specs.declared.tree.Name.{Name}
use Rattle.jn_base.specs.declared.tree.Program.{Program}
use Rattle.jn_base.specs.declared.path.Path.{Path as ShownPath}
use Rattle.jn_base.specs.Paths.{Path}
use Rattle.jn_base.specs.Supers.{Sup}
use Rattle.jn_base.specs.Members.{MethodAt}
use Rattle.jn_table.specs.declared.class.ClassId.{ClassId}
use Rattle.jn_table.specs.Rows.{IsNumber}
use Rattle.jn_sem.specs.Does.{Body}
use Rattle.jn_rules.specs.Members.{SameSignature, IsBodyIn}

-- the declaration at S has a body of m with another signature than b
pub record IsOtherAt (p : Program) (b : Body) (m : Name) (S : Path) : Type 0 where
  pub body : Body
  pub class : body.class ≡ S
  pub at : MethodAt p S m body.method
  pub other : SameSignature p b body → ⊥

-- the number is that of a super of R whose declaration has such a body
abbrev pub IsOtherSuper : Program → List ShownPath → Body → Name → Path → ClassId → Type 0
IsOtherSuper p known b m R id = (S : Path) × IsNumber known id S × Sup p R S × IsOtherAt p b m S

-- some body of m in Sup(R) has another signature than b
pub record IsOtherIn (p : Program) (b : Body) (m : Name) (R : Path) : Type 0 where
  pub body : Body
  pub is : IsBodyIn p R m body
  pub other : SameSignature p b body → ⊥
