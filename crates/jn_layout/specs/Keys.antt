-- What bodies, fields and selectors are found by: lists of numbers.
use Rattle.std.specs.Prelude.{ℕ, List, [], ◌∷◌, Option, Some, None}
use Rattle.jn_base.specs.declared.tree.Name.{Name}
use Rattle.jn_table.specs.declared.class.ClassId.{ClassId}
use Rattle.jn_agree.specs.declared.selectors.MethodSel.{MethodSel}
use Rattle.jn_agree.specs.declared.selectors.FieldSel.{FieldSel}
use Rattle.jn_layout.specs.declared.declared.BodyAt.{BodyAt}
use Rattle.jn_layout.specs.declared.declared.FieldAt.{FieldAt}

-- by the class and the name; nothing is found of what has no class
abbrev pub class_key : Option ClassId → Name → List ℕ
class_key None n = []
class_key (Some id) n = id.0 ∷ n.0 ∷ []

abbrev pub body_key : BodyAt → List ℕ
body_key x = class_key x.class x.name

abbrev pub field_key : FieldAt → List ℕ
field_key x = class_key x.class x.name

-- by the name and the kinds: that of the result first, and then those of the parameters
abbrev pub shape_key : BodyAt → List ℕ
shape_key x = x.name.0 ∷ x.result ∷ x.params.items

abbrev pub sel_key : MethodSel → List ℕ
sel_key sel = sel.name.0 ∷ sel.shape.result ∷ sel.shape.params

-- by the name and the kind
abbrev pub slot_key : FieldSel → List ℕ
slot_key sel = sel.name.0 ∷ sel.kind ∷ []
