-- Answers to what a step asks.
use Rattle.std.specs.Prelude.{◌≡◌, ℕ, List, Contains, Option, Some, None, Bool, IsTrue, ◌↔◌}
use Rattle.jn_base.specs.declared.tree.Name.{Name}
use Rattle.jn_base.specs.declared.tree.Field.{Field}
use Rattle.jn_base.specs.declared.tree.Method.{Method}
use Rattle.jn_base.specs.declared.tree.Program.{Program}
use Rattle.jn_base.specs.declared.path.Path.{Path as ShownPath}
use Rattle.jn_base.specs.declared.names.Vars.{Vars}
use Rattle.jn_base.specs.declared.names.Var.{Var}
use Rattle.jn_base.specs.Paths.{Path}
use Rattle.jn_sem.specs.Does.{Body, IsBody, AreParams}
use Rattle.jn_sem.specs.Slots.{IsSlot, OneSlot}
use Rattle.jn_sem.specs.Slots as sem
use Rattle.jn_sem.specs.Sharing.{Counterpart, IsClass}
use Rattle.jn_table.specs.declared.class.ClassId.{ClassId}
use Rattle.jn_table.specs.declared.table.Table.{Table}
use Rattle.jn_table.specs.Rows.{IsNumber}
use Rattle.jn_share.specs.Slots.{HasSlot}
use Rattle.jn_meaning.specs.declared.world.World.{World}
use Rattle.jn_meaning.specs.World.{Stands}
use Rattle.jn_meaning.specs.declared.heap.Slot.{Slot}
use Rattle.jn_meaning.specs.declared.finding.Found.{Found}
use Rattle.jn_meaning.specs.Values.{path_at}
use Rattle.jn_meaning.specs.Heaps.{slot_of}

-- a thing that is so, none where there is none
abbrev pub Tells : {A : Type 0} → (A → Type 0) → Option A → Type 0
Tells Is (Some a) = Is a
Tells {A} Is None = (a : A) → Is a → ⊥

-- a method, a field, of this name
abbrev pub IsMethodNamed : List Method → Name → Method → Type 0
IsMethodNamed ms m x = Contains ms x × (x.name.name ≡ m)

abbrev pub IsFieldNamed : List Field → Name → Field → Type 0
IsFieldNamed fs f x = Contains fs x × (x.name.name ≡ f)

-- the body that was found
abbrev pub body_in : List ShownPath → Found → Body
body_in known x = record { class = path_at known x.class; method = x.method.now }

abbrev pub BodyTold : Program → List ShownPath → ClassId → Name → Option Found → Type 0
BodyTold p known id m (Some x) = IsBody p (path_at known id) m (body_in known x)
BodyTold p known id m None = (b : Body) → IsBody p (path_at known id) m b → ⊥

abbrev pub SlotTold : Program → List ShownPath → ClassId → Name → Option Slot → Type 0
SlotTold p known id f (Some s) = IsSlot p (path_at known id) f (slot_of known s)
SlotTold p known id f None = (s : sem.Slot) → IsSlot p (path_at known id) f s → ⊥

-- whether the class of the number k has one slot for f with that of `id`, which has the slot number n for it
abbrev pub OneSlotTold : World → Table → (k id : ClassId) → Name → (n : ℕ) → Bool → Type 0
OneSlotTold w t k id f n told = (K : Path) → Stands w t → IsNumber t.known.items k K → IsClass w.program.now (path_at t.known.items id)
    → HasSlot w.slots.now id f n → IsTrue told ↔ OneSlot w.program.now K (path_at t.known.items id) f

abbrev pub CounterpartTold : Program → List ShownPath → Name → ClassId → Option ClassId → Type 0
CounterpartTold p known Y id (Some w) = Counterpart p Y (path_at known id) (path_at known w)
CounterpartTold p known Y id None = (W : Path) → Counterpart p Y (path_at known id) W → ⊥

abbrev pub ParamsTold : Program → Body → Option Vars → Type 0
ParamsTold p b (Some vars) = AreParams p b vars.list
ParamsTold p b None = (vars : List Var) → AreParams p b vars → ⊥
