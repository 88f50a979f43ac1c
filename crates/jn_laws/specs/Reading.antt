-- What a slot gives where it is read, and when its value fits each view of the object.
use Rattle.std.specs.Prelude.{◌≡◌, ℕ, Some, None, slice_get}
use Rattle.jn_base.specs.declared.tree.Name.{Name}
use Rattle.jn_base.specs.declared.tree.Program.{Program}
use Rattle.jn_base.specs.declared.types.Ty.{Ty}
use Rattle.jn_base.specs.Paths.{Path}
use Rattle.jn_sem.specs.Values.{Value, Number, Truth, Null, Reference}
use Rattle.jn_sem.specs.Sharing.{Related, Counterpart, HangsOnThis, family_of}
use Rattle.jn_sem.specs.Slots.{this_viewed}
use Rattle.jn_sem.specs.State.{Heap, Object, IsIn, view_in}
use Rattle.jn_laws.specs.Surely.{Surely}

-- V is a class of the object's group
pub record RefersTo (p : Program) (h : Heap) (o : ℕ) (V : Path) : Type 0 where
  pub object : Object
  pub at : slice_get h.objects o ≡ Some object
  pub related : Related p object.made V

-- the view of a reference is a class of its object's group
abbrev pub IsReal : Program → Heap → Value → Type 0
IsReal p h (Reference o V) = RefersTo p h o V
IsReal p h (Number z) = Unit {0}
IsReal p h (Truth b) = Unit {0}
IsReal p h Null = Unit {0}

-- What a field of the type t gives where it is read at the view V and its slot has the value v: where t hangs on `this`, a
-- reference is turned to the counterpart of its view in V's family, and all else is given as it is.
pub data ReadAs (p : Program) (V : Path) (t : Ty) : Value → Value → Type 0 where
  itself : {v : Value} → (HangsOnThis t → ⊥) → ReadAs p V t v v
  plain : {v : Value} → view_in v ≡ None → ReadAs p V t v v
  turned : {o : ℕ} {U W : Path} (Y : Name) → HangsOnThis t → family_of V ≡ Some Y → Counterpart p Y U W
      → ReadAs p V t (Reference o U) (Reference o W)

-- The value v fits a slot of the type t at the view V: reading surely gives something, and what it gives is in the type, with
-- `this` at V.
pub record SlotFits (p : Program) (h : Heap) (V : Path) (t : Ty) (v : Value) : Type 0 where
  pub real : IsReal p h v
  pub read : Surely ((w : Value) × ReadAs p V t v w)
  pub fits : (w : Value) → ReadAs p V t v w → Surely (IsIn p (this_viewed V) h t w)
