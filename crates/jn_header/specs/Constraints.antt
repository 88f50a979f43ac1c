-- Constraints that don't hold with `this` at a class.
use Rattle.std.specs.Prelude.{◌≡◌, List, [], ◌∷◌, Contains, Option, Some, None, Ok}
use Rattle.jn_base.specs.declared.tree.Name.{Name}
use Rattle.jn_base.specs.declared.tree.Constraint.{Constraint}
use Rattle.jn_base.specs.declared.tree.Program.{Program}
use Rattle.jn_base.specs.declared.types.Atom.{Atom as ShownAtom}
use Rattle.jn_base.specs.declared.types.Masks.{Masks}
use Rattle.jn_base.specs.declared.refusal.Refusal.{Refusal}
use Rattle.jn_base.specs.declared.refusal.Rule.TheVariants as rule
use Rattle.jn_base.specs.Paths.{Path}
use Rattle.jn_base.specs.Atoms.{atom_of}
use Rattle.jn_base.specs.ClassOrder.{IsFirst}
use Rattle.jn_base.specs.TableRules.{NoneIs}
use Rattle.jn_sem.specs.Holds.{Sides, HoldsAt, IsFirstName}
use Rattle.jn_sem.specs.Does.{Body}
use Rattle.jn_rules.specs.Plans.{Pledge}
use Rattle.jn_rules.specs.Questions.{header_site, ConstraintGives, sides}
use Rattle.jn_rules.specs.Members.{of_member, SharingFails, FailsFor, FailsAt}

-- the two sides of a constraint between atoms with masks
abbrev pub sides_of : List Name → ShownAtom → Masks → ShownAtom → Masks → Sides
sides_of names x hidden y m =
    record { names = names; from = atom_of x ∷ []; from_masks = hidden; to = atom_of y; to_masks = m }

abbrev pub pledge_sides : Program → Pledge → Sides
pledge_sides p k = sides p (atom_of k.from.atom ∷ []) k.from.masks k.to

-- one of the constraints, which stand in the header of the body, doesn't hold with `this` at R
pub record SomeFails (p : Program) (R : Path) (b : Body) (constraints : List Constraint) : Type 0 where
  pub constraint : Constraint
  pub among : Contains constraints constraint
  pub pledge : Pledge
  pub is : ConstraintGives p (header_site b.class b.method.name.name) constraint (Ok pledge)
  pub fails : HoldsAt p R (pledge_sides p pledge) → ⊥

-- r is answered of the first class where a constraint fails, and its first such method
pub record IsFirstFailing (p : Program) (r : Refusal) : Type 0 where
  pub R : Path
  pub method : Name
  pub body : Body
  pub first : IsFirst p (FailsAt p) R
  pub first_method : IsFirstName p (FailsFor p R) method
  pub fails : SharingFails p R method body
  pub is : r ≡ of_member rule.E21 R body.method.name.at method

abbrev pub FirstFailingIs : Program → Option Refusal → Type 0
FirstFailingIs p None = NoneIs (FailsAt p)
FirstFailingIs p (Some r) = IsFirstFailing p r
