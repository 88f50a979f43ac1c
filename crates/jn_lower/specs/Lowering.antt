-- What `lower` is handed.
use Rattle.std.specs.Prelude.{◌≡◌, map, Ok}
use Rattle.jn_base.specs.declared.tree.Name.{Name}
use Rattle.jn_base.specs.declared.tree.Method.{Method}
use Rattle.jn_base.specs.declared.tree.Program.{Program}
use Rattle.jn_base.specs.declared.names.Resolved.{Resolved}
use Rattle.jn_base.specs.declared.types.Ty.{Ty}
use Rattle.jn_base.specs.Paths.{Path, shown}
use Rattle.jn_base.specs.Members.{MethodAt}
use Rattle.jn_table.specs.declared.table.Table.{Table}
use Rattle.jn_table.specs.Tables.{IsFilled}
use Rattle.jn_share.specs.declared.slots.Slots.{Slots}
use Rattle.jn_share.specs.Slots.{AreSlots}
use Rattle.jn_sem.specs.Sharing.{IsClass}
use Rattle.jn_sem.specs.Slots.{FieldType}
use Rattle.jn_sem.specs.Does.{Body, IsBody}
use Rattle.jn_rules.specs.Questions.{HasMethod, Gives}
use Rattle.jn_rules.specs.LawsOfPlans.{RepliesAreOne}
use Rattle.jn_rules.specs.Headers.{Header, header_typed}
use Rattle.jn_rules.specs.Resolved.{IsResolved}
use Rattle.jn_agree.specs.declared.selectors.Selectors.{Selectors}
use Rattle.jn_agree.specs.Naming.{Naming}
use Rattle.jn_agree.specs.Rows.{SelectorsAre}

-- The parts are those of p: a table in which the universe is filled, and slots. The numbers stand for the table's paths
-- and for the selectors. Each question of the rules has one reply at most, only classes have fields, and a class that has
-- a method surely has a least body of it, as in each program that the first steps pass.
pub record PartsAre (p : Program) (t : Table) (slots : Slots) (s : Selectors) (n : Naming) : Type 0 where
  pub filled : IsFilled p t
  pub numbered : AreSlots p t.known.items slots
  pub classes : t.known.items ≡ map shown n.classes
  pub methods : n.methods ≡ s.methods
  pub fields : n.fields ≡ s.fields
  pub selectors : SelectorsAre p n.methods n.fields
  pub one : RepliesAreOne p
  pub of_classes : (R : Path) (f : Name) (t : Ty) → FieldType p R f t → IsClass p R
  pub least : (V : Path) (m : Name) → IsClass p V → HasMethod p m V → ((b : Body) → IsBody p V m b → ⊥) → ⊥

-- The method is that of the body b of the program, whose header is k, and r is what is known of it since it was checked.
pub record BodyIs (p : Program) (m : Method) (r : Resolved) (b : Body) (k : Header) : Type 0 where
  pub method : b.method ≡ m
  pub stands : MethodAt p b.class b.method.name.name b.method
  pub header : Gives p (header_typed b) (Ok k)
  pub resolved : IsResolved p b r

-- Example: for the first body of the example program of the rules, n has the paths of its universe in class order, and the
-- selectors of its methods and fields.
