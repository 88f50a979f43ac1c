-- The codes of the bodies of a program, in source order.
use Rattle.std.specs.Prelude.{◌≡◌, ◌≤◌, ◌+◌, ℕ, suc, List, [], ◌∷◌, ◌++◌, length, Some, slice_get}
use Rattle.jn_base.specs.declared.tree.Method.{Method}
use Rattle.jn_base.specs.declared.names.Resolved.{Resolved}
use Rattle.jn_code.specs.declared.image.Code.{Code}
use Rattle.jn_code.specs.Form.{CodeInForm}
use Rattle.jn_sem.specs.Acts.{path_behind}
use Rattle.jn_sem.specs.Does.{Body}
use Rattle.jn_rules.specs.Headers.{Header}
use Rattle.jn_agree.specs.Naming.{Naming}
use Rattle.jn_places.specs.StmtPlaces.{TypedBodyAt}
use Rattle.jn_lower.specs.Lowering.{PartsAre, BodyIs}
use Rattle.jn_link.specs.declared.codes.Parts.{Parts}

-- The code is that of a body with this method, of which r is known: whatever the numbers stand for, it stands at the
-- body's typed place. It has room for 3,806 operands, is in form, and has at most three locals more than its body.
pub record IsCodeFor (g : Parts) (m : Method) (r : Resolved) (c : Code) : Type 0 where
  pub at : (n : Naming) (b : Body) (k : Header) → PartsAre g.p.now g.t.now g.slots.now g.names.now n
      → BodyIs g.p.now m r b k → TypedBodyAt g.p.now n b k c
  pub room : 3806 ≤ c.stack
  pub in_form : CodeInForm c
  pub locals : length c.params + length c.locals ≤ path_behind m.body (length c.params) + 3

-- the code is that of the body, of which the k-th is known
pub record IsLoweredAt (g : Parts) (k : ℕ) (b : Body) (c : Code) : Type 0 where
  pub known : Resolved
  pub at : slice_get g.bodies.now k ≡ Some known
  pub code : IsCodeFor g b.method known c

-- one for one, where the first body is the k-th of the program
abbrev pub AreLoweredFrom : Parts → ℕ → List Body → List Code → Type 0
AreLoweredFrom g k [] [] = Unit {0}
AreLoweredFrom g k [] (c ∷ cs) = ⊥
AreLoweredFrom g k (b ∷ bs) [] = ⊥
AreLoweredFrom g k (b ∷ bs) (c ∷ cs) = IsLoweredAt g k b c × AreLoweredFrom g (suc k) bs cs

-- behind the codes that were there stand those of these bodies
pub record LowersAll (g : Parts) (bs : List Body) (before after : List Code) : Type 0 where
  pub more : List Code
  pub is : after ≡ before ++ more
  pub each : AreLoweredFrom g (length before) bs more
