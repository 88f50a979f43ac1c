-- The masks of types and of scopes, by numbers of a pool.
use Rattle.std.specs.Prelude.{◌≡◌, ◌↔◌, ℕ, [], cond, nat_eq}
use Rattle.jn_base.specs.declared.tree.Name.{Name}
use Rattle.jn_base.specs.declared.tree.Program.{Program}
use Rattle.jn_base.specs.declared.types.Masks.{Masks}
use Rattle.jn_base.specs.declared.types.Ty.{Ty}
use Rattle.jn_base.specs.Atoms.{HasMask, no_masks}
use Rattle.jn_base.specs.Scopes.{Bind}
use Rattle.jn_rules.specs.Questions.{Notes}
use Rattle.jn_rules.specs.Stmts.{remasked, joined_type}

-- the masks without the number i, where that is the field's
abbrev pub IsWithoutAt : Masks → ℕ → Name → Name → Masks → Type 0
IsWithoutAt m i name field r = (j : ℕ) → HasMask r j ↔ (HasMask m j × (j ≡ i → name ≡ field → ⊥))

-- the bind of q with these masks; any other one as it is
abbrev pub remasked_bind : ℕ → Masks → Bind → Bind
remasked_bind q m b = cond (nat_eq q b.path) (record b { ty = remasked m b.ty }) b

-- the type of a path by those at two ends
abbrev pub TypeJoins : Program → Ty → Ty → Ty → Type 0
TypeJoins p t u v = Notes p (joined_type t u) [] v

-- A bind without its masks. `this` has none and never gets one: it stays as it is.
abbrev pub bare_type : ℕ → Ty → Ty
bare_type q t = cond (nat_eq q 0) t (remasked no_masks t)

abbrev pub bare : Bind → Bind
bare b = record { path = b.path; ty = bare_type b.path b.ty }
