-- What a variable is known by.
use Rattle.std.specs.Prelude.{◌≡◌, ◌<◌, ◌&&◌, ℕ, length, true, cond, Option, Some, None}
use Rattle.jn_base.specs.declared.names.Var.{Var}
use Rattle.jn_base.specs.Resolve.{is_class}
use Rattle.jn_base.specs.Scopes.{Scope, bound_of, Binds}
use Rattle.jn_base.specs.Fits.{TypeFits}
use Rattle.jn_rules.specs.Exprs.{Typed, of_path, plain}
use Rattle.jn_expr.specs.declared.values.Known.{Known}

-- the path is in the scope, with a bound that has a name
pub record PathThere (s : Scope) (q : ℕ) : Type 0 where
  pub bound_in : Binds s q
  pub long : 0 < length (bound_of s q)

-- the declared type of the variable fits, and where the variable is a path, that is in the scope
pub record VarFits (s : Scope) (v : Var) : Type 0 where
  pub type : TypeFits s v.ty
  pub path : (v.fixed && is_class v.ty) ≡ true → PathThere s v.path

pub record IsKnown (v : Var) (k : Known) : Type 0 where
  pub path : k.path ≡ v.path
  pub is_path : k.is_path ≡ (v.fixed && is_class v.ty)
  pub ty : k.ty ≡ v.ty

abbrev pub KnownIs : Option Var → Option Known → Type 0
KnownIs None None = Unit {0}
KnownIs None (Some k) = ⊥
KnownIs (Some v) None = ⊥
KnownIs (Some v) (Some k) = IsKnown v k

-- what an expression has that is the variable
abbrev pub known_typed : Known → Scope → Typed
known_typed k s = cond k.is_path (of_path k.path s) (plain k.ty s)
