-- What the rules say of an answer, of a field and of a call, as what moves and what an act takes: the rules turned
-- round.
use Rattle.std.specs.Prelude.{◌≡◌, ◌<◌, ℕ, List, [], ◌∷◌, length, true, Some, Ok}
use Rattle.jn_base.specs.declared.tree.Name.{Name}
use Rattle.jn_base.specs.declared.tree.Expr.{Expr}
use Rattle.jn_base.specs.declared.tree.Program.{Program}
use Rattle.jn_base.specs.declared.types.Ty.{Ty}
use Rattle.jn_base.specs.Scopes.{Scope, Binds}
use Rattle.jn_base.specs.Fits.{BindsFit}
use Rattle.jn_base.specs.Resolve.{is_class}
use Rattle.jn_base.specs.ResolveTypes.{mask_names}
use Rattle.jn_sem.specs.Values.{Masked}
use Rattle.jn_rules.specs.Plans.{FoundField}
use Rattle.jn_rules.specs.Questions.{IsFoundField, Gives, masks_of}
use Rattle.jn_rules.specs.Exprs.{Here, Passed, Typed, Typing as ExprTyping, plain, next_path, path_of, args_typed, field_type, put_in, replaced_paths}
use Rattle.jn_rule_laws.specs.LawsOfForms.{Grown, TypeKnown, PathKnown}
use Rattle.jn_sound.specs.Callees.{Callee, IsCalled}
use Rattle.jn_sound.specs.Takes.{Opd, opd, typing, Moves}

-- ---- scopes

-- the paths of a scope are numbered below the next fresh one
pub record Numbered (s : Scope) : Type 0 where
  pub below : (q : ℕ) → Binds s q → q < next_path s

pub record Good (s : Scope) : Type 0 where
  pub binds : BindsFit s
  pub numbered : Numbered s
  pub this : Binds s 0

-- an answer that an expression has: its type is known in its scope, and so is its path
pub record Known (x : Typed) : Type 0 where
  pub good : Good x.scope
  pub type : TypeKnown x.scope x.ty
  pub path : (q : ℕ) → x.path ≡ Some q → PathKnown x.scope q x.ty

-- ---- a receiver gets its path

-- In the scope s the answer has the path q, and what it had before it has there.
pub record Reached (p : Program) (x : Typed) (q : ℕ) (s : Scope) : Type 0 where
  pub good : Good s
  pub grown : Grown x.scope s
  pub type : TypeKnown s x.ty
  pub path : PathKnown s q x.ty
  pub moves : (ops : List Opd) → Moves p (typing x.scope (opd x.ty x.path ∷ ops)) (typing s (opd x.ty (Some q) ∷ ops))
  pub field : (f : Name) (c : FoundField) → IsFoundField p x.scope x.ty f c → IsFoundField p s x.ty f c
  pub method : (f : Name) (c : Callee) → IsCalled p x.scope x.ty f c → IsCalled p s x.ty f c

-- An argument gets its path, and then is in its parameter's type.
pub record ArgMoved (p : Program) (t : Typed) (want : Ty) (q : ℕ) (s : Scope) : Type 0 where
  pub good : Good s
  pub grown : Grown t.scope s
  pub bound : Binds s q
  pub moves : (ops : List Opd) → Moves p (typing t.scope (opd t.ty t.path ∷ ops)) (typing s (opd want (Some q) ∷ ops))

-- ---- a field, and a call up to its arguments

pub record FieldTyped (p : Program) (f : Name) (x y : Typed) : Type 0 where
  pub class : is_class x.ty ≡ true
  pub c : FoundField
  pub reached : Reached p x (path_of x.ty x).path (path_of x.ty x).scope
  pub is_found : IsFoundField p (path_of x.ty x).scope x.ty f c
  pub free : Masked (mask_names p) (masks_of x.ty) f → ⊥
  pub is : y ≡ plain (field_type c (path_of x.ty x)) (path_of x.ty x).scope
  pub known : Known y

pub record CallTyped (p : Program) (h : Here) (f : Name) (es : List (Expr × ExprTyping)) (x y : Typed) : Type 0 where
  pub c : Callee
  pub class : is_class x.ty ≡ true
  pub here : IsCalled p x.scope x.ty f c
  pub reached : Reached p x (path_of x.ty x).path (path_of x.ty x).scope
  pub free : (g : Name) → Masked (mask_names p) (masks_of x.ty) g → ⊥
  pub as_many : length c.vars ≡ length es
  pub passed : Passed
  pub args : Gives p (args_typed h (replaced_paths c.vars) c.vars es ((path_of x.ty x).path ∷ [])
      (path_of x.ty x).scope) (Ok passed)
  pub is : y ≡ plain (put_in passed.scope (replaced_paths c.vars) passed.paths c.result) passed.scope
