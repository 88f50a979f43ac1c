-- States of a run: objects, frames, and what a frame has still to do.
use Rattle.std.specs.Prelude.{ℕ, ◌+◌, List, [], ◌∷◌, ◌++◌, length, map, take, reverse, Bool, true, false, ◌&&◌, cond, nat_eq, Option, Some, None, IsSome, slice_get, slice_set}
use Rattle.std.specs.Option.{option_map, option_and_then}
use Rattle.std.specs.List.{find, list_any}
use Rattle.jn_base.specs.declared.tree.Name.{Name}
use Rattle.jn_base.specs.declared.tree.Method.{Method}
use Rattle.jn_base.specs.declared.tree.Program.{Program}
use Rattle.jn_base.specs.declared.types.Ty.{Ty}
use Rattle.jn_base.specs.Paths.{Path}
use Rattle.jn_sem.specs.Sets.{Views}
use Rattle.jn_sem.specs.Values.{Value, Number, Truth, Null, Reference, ValueIn}
use Rattle.jn_sem.specs.Slots.{Slot, IsSlot}
use Rattle.jn_base.specs.declared.names.Var.{Var}
use Rattle.jn_base.specs.Resolve.{is_class}
use Rattle.jn_base.specs.ResolveTypes.{mask_names}
use Rattle.jn_sem.specs.Terms.{Site}
use Rattle.jn_sem.specs.Acts.{Todo}

-- ---- objects

-- the value of a slot
pub record Stored : Type 0 where
  pub slot : Slot
  pub value : Value

-- An object is a group and a finite map from slots to values. The group is that of the class as which the object was made.
-- The first value of a slot is put last, and each further one takes the place of the one before.
pub record Object : Type 0 where
  pub made : Path
  pub stored : List Stored

-- the objects in the order of their making, and the cells that they use
pub record Heap : Type 0 where
  pub objects : List Object
  pub used : ℕ

abbrev pub same_names : List Name → List Name → Bool
same_names [] [] = true
same_names [] (y ∷ ys) = false
same_names (x ∷ xs) [] = false
same_names (x ∷ xs) (y ∷ ys) = nat_eq x.0 y.0 && same_names xs ys

abbrev pub same_slot : Slot → Slot → Bool
same_slot s t = same_names s.class t.class && nat_eq s.field.0 t.field.0

abbrev pub stored_value : List Stored → Slot → Option Value
stored_value xs s = option_map (λ (x : Stored). x.value) (find (λ (x : Stored). same_slot x.slot s) xs)

-- the value of a slot of an object, where it has one
abbrev pub slot_value : Heap → ℕ → Slot → Option Value
slot_value h o s = option_and_then (λ (x : Object). stored_value x.stored s) (slice_get h.objects o)

-- The slot gets the value, in its own place; one that has none yet comes last.
abbrev pub with_stored : List Stored → Slot → Value → List Stored
with_stored [] s v = record { slot = s; value = v } ∷ []
with_stored (x ∷ xs) s v = cond (same_slot x.slot s) (record x { value = v } ∷ xs) (x ∷ with_stored xs s v)

-- the slot of this object gets the value
abbrev pub with_slot : Heap → ℕ → Object → Slot → Value → Heap
with_slot h o x s v = record h { objects = slice_set h.objects o (record x { stored = with_stored x.stored s v }) }

-- one more object
abbrev pub with_object : Heap → (size : ℕ) → Object → Heap
with_object h size x = record { objects = h.objects ++ x ∷ []; used = h.used + size }

-- the field f of the object has a value, as the view V sees it
pub record HasValue (p : Program) (h : Heap) (object : ℕ) (V : Path) (f : Name) : Type 0 where
  pub slot : Slot
  pub is_slot : IsSlot p V f slot
  pub has : IsSome (slot_value h object slot)

-- A value is in the type, where the paths have these views. One of class type is in it where it is null, or where its view
-- is in each atom and each field of that view, but for the masked ones, has a value in its slot.
abbrev pub IsIn : Program → Views → Heap → Ty → Value → Type 0
IsIn p v h t value = ValueIn p (mask_names p) v (HasValue p h) t value

-- Example: a new base.Lit has 0 in the slot of v, and the slot of tag has no value. So a reference to it with
-- the view disp.Lit is in the type disp.Lit\tag, and not yet in disp.Lit.

-- ---- frames

-- a variable in scope, with its value
pub record Variable : Type 0 where
  pub var : Var
  pub value : Value

-- A body at work.
pub record Frame : Type 0 where
  -- the declaration whose body it is
  pub class : Path
  pub method : Method
  -- `this`, which is null in the frame that starts the program
  pub this : Value
  -- the variables in scope, in the order of their declarations
  pub vars : List Variable
  -- the operands already had, the latest first
  pub vals : List Value
  -- what is still to be done
  pub todo : List Todo
  -- whether the result of the call that it waits for is kept
  pub keeps : Bool

abbrev pub view_in : Value → Option Path
view_in (Reference o V) = Some V
view_in (Number z) = None
view_in (Truth b) = None
view_in Null = None

abbrev pub view_of_var : List Variable → ℕ → Option Path
view_of_var [] q = None
view_of_var (x ∷ xs) q = cond (nat_eq q x.var.path) (view_in x.value) (view_of_var xs q)

-- rho: the view of each path's object; `this` is path 0, and each variable has its own number
abbrev pub frame_views : Frame → Views
frame_views f q = cond (nat_eq q 0) (view_in f.this) (view_of_var f.vars q)

abbrev pub declared_var : Variable → Var
declared_var x = x.var

abbrev pub declared_vars : List Variable → List Var
declared_vars vars = map declared_var vars

-- where a term of the body stands, with these variables in scope
abbrev pub site : Frame → List Variable → Site
site f vars = record { class = f.class; method = f.method.name.name; vars = declared_vars vars }

-- with all those that are in scope
abbrev pub site_of : Frame → Site
site_of f = site f f.vars

-- those of the result: the parameters, which are the first
abbrev pub result_site : Frame → Site
result_site f = site f (take (length f.method.params) f.vars)

abbrev pub is_named : Name → Variable → Bool
is_named x y = nat_eq y.var.name.0 x.0

-- the newest variable of the name
abbrev pub variable : List Variable → Name → Option Variable
variable vars x = find (is_named x) (reverse vars)

abbrev pub first_assigned : List Variable → Name → Value → List Variable
first_assigned [] x v = []
first_assigned (y ∷ ys) x v = cond (is_named x y) (record y { value = v } ∷ ys) (y ∷ first_assigned ys x v)

-- it gets the value
abbrev pub assigned : List Variable → Name → Value → List Variable
assigned vars x v = reverse (first_assigned (reverse vars) x v)

-- variables with their values
abbrev pub with_values : List Var → List Value → List Variable
with_values [] vs = []
with_values (x ∷ xs) [] = []
with_values (x ∷ xs) (v ∷ vs) = record { var = x; value = v } ∷ with_values xs vs

abbrev pub is_null : Value → Bool
is_null Null = true
is_null (Number z) = false
is_null (Truth b) = false
is_null (Reference o V) = false

-- a `final` variable of class type is a path, and must not be null
abbrev pub is_null_path : Variable → Bool
is_null_path x = x.var.fixed && (is_class x.var.ty && is_null x.value)

abbrev pub has_null_path : List Variable → Bool
has_null_path vars = list_any is_null_path vars
