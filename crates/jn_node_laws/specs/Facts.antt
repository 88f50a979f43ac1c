-- What the instructions of an act rely on besides words: facts of its operands, which typing gives.
use Rattle.std.specs.Prelude.{◌≡◌, ◌≢◌, ◌<◌, ◌≤◌, ℕ, suc, List, [], ◌∷◌, ◌++◌, length, Option, Some, None, slice_get}
use Rattle.jn_base.specs.declared.tree.Name.{Name}
use Rattle.jn_base.specs.declared.tree.Text.{Text}
use Rattle.jn_base.specs.declared.tree.Op.{Op}
use Rattle.jn_base.specs.declared.tree.Op.TheVariants as op
use Rattle.jn_base.specs.declared.tree.Program.{Program}
use Rattle.jn_base.specs.declared.types.Ty.{Ty}
use Rattle.jn_base.specs.declared.types.Ty.TheVariants as ty
use Rattle.jn_base.specs.Paths.{Path}
use Rattle.jn_base.specs.declared.tree.Term.{Term}
use Rattle.jn_base.specs.declared.types.Anchor.TheVariants.{Up}
use Rattle.jn_base.specs.Universe.{InUniverse}
use Rattle.jn_base.specs.Atoms.{Among, Atom, atom_at}
use Rattle.jn_base.specs.declared.names.Var.{Var}
use Rattle.jn_sem.specs.Terms.{Site}
use Rattle.jn_code.specs.declared.image.Code.{Code}
use Rattle.jn_sem.specs.Values.{Value, Number, Truth, Null, Reference}
use Rattle.jn_sem.specs.Slots.{Slot, IsSlot, FieldType}
use Rattle.jn_sem.specs.Sets.{view_at}
use Rattle.jn_sem.specs.State.{Heap, Frame, frame_views, slot_value}
use Rattle.jn_sem.specs.LawsOfFinding.{IsOne}
use Rattle.jn_base.specs.declared.tree.TypeTerm.{TypeTerm}
use Rattle.jn_code.specs.declared.image.Shape.{Shape}
use Rattle.jn_code.specs.declared.image.Text as image
use Rattle.jn_code.specs.declared.image.Image.{Image}
use Rattle.jn_code.specs.declared.instr.Instr.{Instr}
use Rattle.jn_code.specs.declared.instr.Instr.TheVariants as ins
use Rattle.jn_sem.specs.Does.{Body, IsBody, IsConstructorBody, IsNewClass, IsSpelled, args_of}
use Rattle.jn_agree.specs.Naming.{Naming}
use Rattle.jn_agree.specs.Rows.{FieldKind, HasShape}

-- a number, a truth value, or null or a reference
abbrev pub OfKind : Ty → Value → Type 0
OfKind ty.Int (Number z) = Unit {0}
OfKind ty.Bool (Truth b) = Unit {0}
OfKind ty.Null Null = Unit {0}
OfKind (ty.Class xs m) Null = Unit {0}
OfKind (ty.Class xs m) (Reference o V) = Unit {0}
OfKind _ _ = ⊥

-- The field of that type has this kind, and what stands in its slot is of its type's kind.
pub record FieldReads (p : Program) (field : Name) (number : ℕ) (h : Heap) (o : ℕ) (V : Path) (t : Ty) : Type 0 where
  pub kind : FieldKind t number
  pub stored : (s : Slot) (v : Value) → IsSlot p V field s → slot_value h o s ≡ Some v → OfKind t v

-- where the latest operand is a reference, so it is with its field
abbrev pub ReadsWell : Program → Name → (kind : ℕ) → Heap → List Value → Type 0
ReadsWell p field kind h vals =
    (o : ℕ) (V : Path) (us : List Value) → vals ≡ Reference o V ∷ us → (t : Ty) → FieldType p V field t →
    FieldReads p field kind h o V t

-- where the operand below the latest is a reference, its field has this kind
abbrev pub WritesWell : Program → Name → (kind : ℕ) → Heap → List Value → Type 0
WritesWell p field kind h vals =
    (v : Value) (o : ℕ) (V : Path) (us : List Value) → vals ≡ v ∷ (Reference o V ∷ us) → (t : Ty) →
    FieldType p V field t → FieldKind t kind

-- whether there is a result, by its kind
abbrev pub ResultGoes : Option TypeTerm → ℕ → Type 0
ResultGoes None k = k ≡ 0
ResultGoes (Some t) k = (j : ℕ) × (k ≡ suc j)

-- The body has the shape of the selector.
pub record CallsBody (p : Program) (b : Body) (s : Shape) : Type 0 where
  pub shape : HasShape p b s
  pub result : ResultGoes b.method.result s.result

-- where a reference stands below so many arguments, the body of the name at its view has that shape
abbrev pub CallsWell : Program → Name → (count : ℕ) → Shape → Heap → List Value → Type 0
CallsWell p name count shape h vals =
    (args us : List Value) (o : ℕ) (V : Path) → args_of count [] vals ≡ Some (args, Reference o V ∷ us) → (b : Body) →
    IsBody p V name b
    → CallsBody p b shape

-- a number is printed by PRINTI, a truth value by PRINTB
abbrev pub PrintsValue : Instr → Value → Type 0
PrintsValue x (Number z) = x ≡ ins.Printi
PrintsValue x (Truth b) = x ≡ ins.Printb
PrintsValue x Null = Unit {0}
PrintsValue x (Reference o V) = Unit {0}

-- so it is with the latest operand
abbrev pub PrintsWell : Instr → Heap → List Value → Type 0
PrintsWell x h vals = (v : Value) (us : List Value) → vals ≡ v ∷ us → PrintsValue x v

-- the image's text of that number has the bytes of the program's
pub record SameText (i : Image) (number : ℕ) (text : Text) : Type 0 where
  pub own : image.Text
  pub there : slice_get i.texts number ≡ Some own
  pub same : own.bytes ≡ text.bytes

abbrev pub HasText : Program → Image → ℕ → Type 0
HasText p i number = (text : Text) → slice_get p.texts number ≡ Some text → SameText i number text

-- numbers are compared by EQI, truth values by EQB, null and references by EQR
abbrev pub ComparedBy : Instr → Value → Type 0
ComparedBy x (Number z) = x ≡ ins.Eqi
ComparedBy x (Truth b) = x ≡ ins.Eqb
ComparedBy x Null = x ≡ ins.Eqr
ComparedBy x (Reference o V) = x ≡ ins.Eqr

-- what is asked of the operands of `==` and `!=` alone
abbrev pub IfCompares : Op → Type 0 → Type 0
IfCompares op.Eq P = P
IfCompares op.Ne P = P
IfCompares _ P = Unit {0}

-- the latest operand is compared by this instruction, where the operator compares
abbrev pub ComparesWell : Op → Instr → Heap → List Value → Type 0
ComparesWell o x h vals = IfCompares o ((v : Value) (us : List Value) → vals ≡ v ∷ us → ComparedBy x v)

-- The variable may come into scope here: its number is that of a local of the code, and not that of `this` or of a
-- variable that is in scope.
pub record FreshLocal (it : Code) (here : Site) (x : Var) : Type 0 where
  pub room : x.path < length (it.params ++ it.locals)
  pub not_this : x.path ≢ 0
  pub fresh : (y : Var) → Among here.vars y → y.path ≢ x.path

-- The variable in scope has a local of the code, which is not that of `this`, and no other variable in scope has it.
pub record OwnLocal (it : Code) (here : Site) (x : Var) : Type 0 where
  pub room : x.path < length (it.params ++ it.locals)
  pub not_this : x.path ≢ 0
  pub own : (before behind : List Var) → here.vars ≡ before ++ x ∷ behind → (y : Var) → Among (before ++ behind) y
      → y.path ≢ x.path

-- `this` is a reference
abbrev pub ThisRefers : Frame → Type 0
ThisRefers f = (o : ℕ) × (V : Path) × (f.this ≡ Reference o V)

-- ---- classes

-- the numbers of classes and groups are none that stands for nothing
pub record FewNumbers (n : Naming) : Type 0 where
  pub classes : length n.classes ≤ 65535
  pub groups : length n.groups ≤ 65535

-- The path's view keeps a name of those that the atom's anchor takes off. (A path has as many names as its bound.)
abbrev pub AnchorKeeps : Frame → Atom → Type 0
AnchorKeeps f x = (q k : ℕ) (V : Path) → x.anchor ≡ Up q k → frame_views f q ≡ Some V → k < length V

-- so it is, and the class that the atom names by the views of the paths is in the universe
pub record TargetSeen (p : Program) (x : Atom) (f : Frame) : Type 0 where
  pub keeps : AnchorKeeps f x
  pub universe : InUniverse p (atom_at (view_at (frame_views f)) x)

-- so it is, and where the class that the term makes has a constructor, it has this shape
pub record MakesWell (p : Program) (term : Term) (C : Name) (shape : Shape) (x : Atom) (f : Frame) : Type 0 where
  pub keeps : AnchorKeeps f x
  pub shapes : (P : Path) (b : Body) → IsNewClass p f term (C ∷ P) → IsBody p (C ∷ P) C b → HasShape p b shape

-- so it is, and the class that the term makes has no constructor that is called without arguments
pub record MakesBare (p : Program) (term : Term) (x : Atom) (f : Frame) : Type 0 where
  pub keeps : AnchorKeeps f x
  pub none : (V : Path) (b : Body) → IsNewClass p f term V → IsConstructorBody p V b → length b.method.params ≡ 0 → ⊥

-- a class of the universe has one body of a name at most
abbrev pub BodiesOnce : Program → Type 0
BodiesOnce p = (V : Path) (name : Name) → InUniverse p V → IsOne (IsBody p V name)

-- a text is spelled by one name at most
abbrev pub SpelledOnce : Program → Type 0
SpelledOnce p = (bytes : List ℕ) → IsOne (IsSpelled p bytes)

-- ---- `super`

-- the local is one of the code, and neither `this` nor a variable in scope has it
pub record ScratchLocal (it : Code) (here : Site) (q : ℕ) : Type 0 where
  pub room : q < length (it.params ++ it.locals)
  pub not_this : q ≢ 0
  pub free : (y : Var) → Among here.vars y → y.path ≢ q
