-- Where a variable stands among those in scope.
use Rattle.std.specs.Prelude.{◌≡◌, ℕ, suc, ◌<◌, List, [], ◌∷◌, slice_get, Option, Some, None, true, false, cond, nat_eq}
use Rattle.jn_base.specs.declared.tree.Name.{Name}
use Rattle.jn_base.specs.declared.names.Var.{Var}
use Rattle.jn_table.specs.declared.class.ClassId.{ClassId}
use Rattle.jn_meaning.specs.declared.value.Value.{Value}
use Rattle.jn_meaning.specs.declared.value.Value.TheVariants as value

-- no variable from the place i on has the name
abbrev pub NoneFrom : List Var → Name → ℕ → Type 0
NoneFrom vars x i = (k : ℕ) (y : Var) → slice_get vars k ≡ Some y → (k < i → ⊥) → nat_eq y.name.0 x.0 ≡ false

-- the variable at the place i has it
pub record NamedAt (vars : List Var) (x : Name) (i : ℕ) : Type 0 where
  pub var : Var
  pub at : slice_get vars i ≡ Some var
  pub named : nat_eq var.name.0 x.0 ≡ true

-- the place of the last variable of the name, none where there is none
abbrev pub IsNewest : List Var → Name → Option ℕ → Type 0
IsNewest vars x None = NoneFrom vars x 0
IsNewest vars x (Some i) = NamedAt vars x i × NoneFrom vars x (suc i)

abbrev pub view_in : Value → Option ClassId
view_in (value.Reference o id) = Some id
view_in (value.Number z) = None
view_in (value.Truth b) = None
view_in value.Null = None

-- the view of the first variable of the path
abbrev pub view_among : List Var → List Value → ℕ → Option ClassId
view_among [] vs q = None
view_among (x ∷ xs) [] q = None
view_among (x ∷ xs) (v ∷ vs) q = cond (nat_eq q x.path) (view_in v) (view_among xs vs q)
