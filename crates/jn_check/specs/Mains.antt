-- The class Main with which a run begins.
use Rattle.std.specs.Prelude.{◌≡◌, ◌↔◌, [], ◌∷◌, Option, Some, None, IsTrue}
use Rattle.jn_base.specs.declared.tree.Name.{Name}
use Rattle.jn_base.specs.declared.tree.Program.{Program}
use Rattle.jn_base.specs.Paths.{Path}
use Rattle.jn_sem.specs.Sharing.{IsClass}
use Rattle.jn_sem.specs.Does.{Body, IsBody}
use Rattle.jn_check.specs.declared.main_class.Form.{Form}

-- C is a top-level class that has a least m without parameters and without a result, and whose constructor has no
-- parameters
pub record BeginsAt (p : Program) (C m : Name) : Type 0 where
  pub class : IsClass p (C ∷ [])
  pub body : Body
  pub is : IsBody p (C ∷ []) m body
  pub no_params : body.method.params ≡ []
  pub void : body.method.result ≡ None
  pub constructor : (b : Body) → IsBody p (C ∷ []) C b → b.method.params ≡ []

-- no body of the class C has parameters that is the least one of the method m
abbrev pub HasNoParams : Program → Path → Name → Type 0
HasNoParams p R m = (b : Body) → IsBody p R m b → b.method.params ≡ []

-- how the least body of a method of R looks
pub record LooksSo (p : Program) (R : Path) (m : Name) (f : Form) : Type 0 where
  pub body : Body
  pub is : IsBody p R m body
  pub no_params : IsTrue f.no_params ↔ (body.method.params ≡ [])
  pub void : IsTrue f.void ↔ (body.method.result ≡ None)

-- that, or that there is none
abbrev pub FormTold : Program → Path → Name → Option Form → Type 0
FormTold p R m (Some f) = LooksSo p R m f
FormTold p R m None = (b : Body) → IsBody p R m b → ⊥
