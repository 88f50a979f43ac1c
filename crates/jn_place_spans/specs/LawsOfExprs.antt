-- The kinds of an expression that stands at its places and is typed.
use Rattle.std.specs.Prelude.{◌≡◌, ◌≤◌, ◌<◌, ◌+◌, ℕ, List, ◌++◌, length, Bool, true, Ok}
use Rattle.jn_base.specs.declared.tree.Expr.{Expr}
use Rattle.jn_base.specs.declared.tree.Program.{Program}
use Rattle.jn_base.specs.declared.types.Ty.{Ty}
use Rattle.jn_base.specs.declared.types.Ty.TheVariants as ty
use Rattle.jn_base.specs.declared.names.Var.{Var}
use Rattle.jn_base.specs.Atoms.{Among}
use Rattle.jn_base.specs.Scopes.{Scope, bound_of}
use Rattle.jn_code.specs.declared.kind.OperandKind.{OperandKind}
use Rattle.jn_code.specs.declared.image.Image.{Image}
use Rattle.jn_code.specs.declared.image.Code.{Code}
use Rattle.jn_laws.specs.LawsOfWritten.{Shallow, scope_of}
use Rattle.jn_rules.specs.Questions.{Gives}
use Rattle.jn_rules.specs.Exprs.{Here, site_here, Typed, expr_types}
use Rattle.jn_agree.specs.Naming.{Naming}
use Rattle.jn_agree.specs.Rows.{RowsAre, result_kind, kind_of_type}
use Rattle.jn_agree.specs.Spans.{Spans}
use Rattle.jn_agree.specs.Places.{HasKind}
use Rattle.jn_places.specs.ExprPlaces.{ExprAt}
use Rattle.jn_size_laws.specs.Operands.{expr_needs}
use Rattle.jn_place_spans.specs.LawsOfNodes.{left_of}

-- the value of an expression of that type, where it is kept
abbrev pub value_of : (keeps : Bool) → Ty → List OperandKind
value_of keeps t = left_of keeps (result_kind t)

-- The first local is a reference, each variable in scope has a local of its kind, and there are no more than 255
-- parameters and locals.
pub record LocalsAre (it : Code) (h : Here) : Type 0 where
  pub this : HasKind it 0 3
  pub vars : (v : Var) → Among h.vars v → HasKind it v.path (kind_of_type v.ty)
  pub few : length it.params + length it.locals ≤ 255

-- The scope has each path below 256 as the declarations of `this` and the variables have it. (Fresh paths are numbered
-- from 256. Typing leads from such scopes to such scopes alone.)
abbrev pub SeesAs : Here → Scope → Type 0
SeesAs h s = (q : ℕ) → q < 256 → bound_of s q ≡ bound_of (scope_of (site_here h)) q

module _ (i : Image) (it : Code) where
  -- Typed as y, the code from s to t leaves its value, above whatever operands leave it room; t is a place of the code.
  -- (A void value is never kept.)
  abbrev pub SpansAs : Bool → Expr → Typed → ℕ → ℕ → Type 0
  SpansAs keeps e y s t = (keeps ≡ true → y.ty ≡ ty.Void → ⊥) → t < length it.instrs → (ks : List OperandKind)
      → length ks + (expr_needs e).operands ≤ it.stack → Spans i it s t ks (value_of keeps y.ty ++ ks)

-- EACH EXPRESSION THAT STANDS AT ITS PLACES AND IS TYPED IS A PART WITH KINDS, in an image with the program's rows.
abbrev pub ExprsSpan : Type 0
ExprsSpan = (p : Program) → Shallow p → (i : Image) (n : Naming) → RowsAre p i n → (it : Code) (scratch : ℕ) (h : Here)
    → LocalsAre it h → (sc : Scope) → SeesAs h sc → (keeps : Bool) (e : Expr) (s t : ℕ)
    → ExprAt p n scratch it h sc keeps e s t → (y : Typed) → Gives p (expr_types h e sc) (Ok y)
    → SeesAs h y.scope × SpansAs i it keeps e y s t

-- Example: `a.f + 1` with an int field f is typed int; its code LOAD, GET, INT, ADD leaves a number.
