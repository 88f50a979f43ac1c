-- How the code of a whole body stands, where its parts were emitted one behind another.
use Rattle.std.specs.Prelude.{◌≡◌, ◌++◌, ℕ, suc, List, [], ◌∷◌, length, take}
use Rattle.jn_base.specs.declared.tree.Program.{Program}
use Rattle.jn_base.specs.declared.names.Var.{Var}
use Rattle.jn_code.specs.declared.image.Shape.{Shape}
use Rattle.jn_code.specs.declared.image.Code.{Code}
use Rattle.jn_sem.specs.Does.{Body}
use Rattle.jn_sem.specs.Acts.{path_behind}
use Rattle.jn_rules.specs.Headers.{Header}
use Rattle.jn_rules.specs.Stmts.{body_in, at_start}
use Rattle.jn_agree.specs.Naming.{Naming}
use Rattle.jn_agree.specs.Rows.{IsShape, kind_of_type}
use Rattle.jn_agree.specs.Places.{tests, last_return}
use Rattle.jn_places.specs.StmtPlaces.{TypedBodyAt}
use Rattle.jn_lower.specs.declared.emitter.Locals.{Locals}
use Rattle.jn_lower.specs.declared.emitter.Emitter.{Emitter}
use Rattle.jn_lower.specs.Emitted.{Fits, Emitted, Adds}
use Rattle.jn_lower.specs.Composed.{Stmts}

-- the kind of a variable
abbrev pub kind_of_var : Var → ℕ
kind_of_var x = kind_of_type x.ty

-- locals of these kinds come behind those that were there, and all else stays
pub record DeclaresAll (kinds : List ℕ) (old new : Emitter) : Type 0 where
  pub instrs : new.instrs ≡ old.instrs
  pub kinds_are : new.locals.kinds ≡ old.locals.kinds ++ kinds
  pub spare : new.locals.spare ≡ old.locals.spare
  pub scratch : new.locals.scratch ≡ old.locals.scratch

-- The code of what was emitted: the first `count` locals are its parameters, its result is of that kind, and it has at
-- most so many operands.
pub record IsCodeOf (out : Emitter) (count kind stack : ℕ) (c : Code) : Type 0 where
  pub params : c.params ≡ take count out.locals.kinds
  pub locals : c.params ++ c.locals ≡ out.locals.kinds ++ out.locals.spare
  pub result : c.result ≡ kind
  pub stack_is : c.stack ≡ stack
  pub instrs : c.instrs ≡ out.instrs

-- A code whose locals are those of the variables, with the scratch ones behind, has what is known of them.
abbrev pub LocalsFit : Type 0
LocalsFit =
    (x : Locals) (c : Code) → c.params ++ c.locals ≡ x.kinds ++ x.spare → length x.kinds ≡ x.scratch → Fits x c

-- the tests of the parameters, the statements, and a return
abbrev pub BodyStands : Type 0
BodyStands =
    (p : Program) (n : Naming) (b : Body) (k : Header) (code : Code) (shape : Shape) (c0 c1 c2 c3 : Emitter)
    → IsShape k.vars k.result shape → code.params ≡ 3 ∷ shape.params → code.result ≡ shape.result
    → c0.instrs ≡ [] → Adds (tests k.vars) c0 c1
    → Emitted (Stmts p n (path_behind b.method.body (suc (length k.vars))) (body_in b k) (at_start b k)
    b.method.body) c1 c2
    → Adds (last_return code.result) c2 c3 → code.instrs ≡ c3.instrs → Fits c3.locals code → TypedBodyAt p n b k code

-- Example: for the body of `int m(final A a) { return 1; }` locals 0 and 1 are declared, LOAD 1, CHECK, POP are added,
-- then INT 1, RETV, and then INT 0, RETV.
