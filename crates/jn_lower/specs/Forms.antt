-- Which forms of expression stand in what is emitted.
use Rattle.std.specs.Prelude.{◌≡◌, ℕ, Bool, true, Some}
use Rattle.jn_base.specs.declared.tree.Name.{Name}
use Rattle.jn_base.specs.declared.tree.Place.{Place}
use Rattle.jn_base.specs.declared.tree.Node.{Node}
use Rattle.jn_base.specs.declared.tree.Node.TheVariants as node
use Rattle.jn_base.specs.declared.tree.Expr.{Expr}
use Rattle.jn_base.specs.declared.tree.Program.{Program}
use Rattle.jn_base.specs.declared.names.Var.{Var}
use Rattle.jn_base.specs.Parts.{expr}
use Rattle.jn_base.specs.Scopes.{Scope}
use Rattle.jn_code.specs.declared.image.Code.{Code}
use Rattle.jn_rules.specs.Exprs.{Here}
use Rattle.jn_agree.specs.Naming.{Naming}
use Rattle.jn_agree.specs.Places.{newest}
use Rattle.jn_places.specs.ExprPlaces.{ExprAt}
use Rattle.jn_lower.specs.declared.emitter.Emitter.{Emitter}
use Rattle.jn_lower.specs.Emitted.{Emitted}

-- the expression in that scope, whose value is kept or not
abbrev pub Value : Program → Naming → ℕ → Here → Scope → Bool → Expr → Code → ℕ → ℕ → Type 0
Value p n scratch h sc keeps e c s t = ExprAt p n scratch c h sc keeps e s t

-- wherever it stands, as a value that is kept
abbrev pub StandsAsValue : Node → Emitter → Emitter → Type 0
StandsAsValue x old new =
    (p : Program) (n : Naming) (scratch : ℕ) (h : Here) (sc : Scope) (pl : Place)
    → Emitted (Value p n scratch h sc true (expr pl x)) old new

-- each variable whose newest declaration has that number
abbrev pub StandsAsVar : ℕ → Emitter → Emitter → Type 0
StandsAsVar q old new =
    (p : Program) (n : Naming) (scratch : ℕ) (h : Here) (sc : Scope) (pl : Place) (x : Name) (y : Var)
    → newest h.vars x ≡ Some y → y.path ≡ q → Emitted (Value p n scratch h sc true (expr pl (node.Var x))) old new

-- Example: behind a code of 3 instructions, INT 7 is emitted where the expression `7` stands: from 3 up to 4.
