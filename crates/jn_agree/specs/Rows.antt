-- What the rows of an image say of a program.
use Rattle.std.specs.Prelude.{◌≡◌, ◌↔◌, ℕ, suc, List, [], ◌∷◌, length, map, ◌++◌, Contains, Option, Some, None, slice_get}
use Rattle.std.specs.List.Sorted.{IsStrictlySortedBy}
use Rattle.jn_reach.specs.Each.{Each}
use Rattle.jn_base.specs.declared.tree.Name.{Name}
use Rattle.jn_base.specs.declared.tree.Text.{Text}
use Rattle.jn_base.specs.declared.tree.Kind.TheVariants as kind
use Rattle.jn_base.specs.declared.tree.TypeTerm.{TypeTerm}
use Rattle.jn_base.specs.declared.tree.Member.TheOpen.{Member-F}
use Rattle.jn_base.specs.declared.tree.Decl.{Decl, fold-Decl}
use Rattle.jn_base.specs.declared.tree.Program.{Program}
use Rattle.jn_base.specs.declared.types.Ty.{Ty}
use Rattle.jn_base.specs.declared.types.Ty.TheVariants as ty
use Rattle.jn_base.specs.declared.names.Var.{Var}
use Rattle.jn_base.specs.Paths.{Path}
use Rattle.jn_base.specs.ClassOrder.{class_cmp, IsFirst}
use Rattle.jn_base.specs.Universe.{InUniverse}
use Rattle.jn_base.specs.Members.{HasKind}
use Rattle.jn_code.specs.declared.image.Text as image
use Rattle.jn_code.specs.declared.image.Image.{Image}
use Rattle.jn_code.specs.declared.image.Code.{Code}
use Rattle.jn_code.specs.declared.image.Shape.{Shape}
use Rattle.jn_code.specs.declared.image.Group.{Group}
use Rattle.jn_code.specs.declared.image.ClassRow.{ClassRow}
use Rattle.jn_code.specs.Machine.{member_in, code_in, slot_in, other_in}
use Rattle.jn_sem.specs.Sharing.{IsClass, Related, Counterpart, HangsOnThis, family_of}
use Rattle.jn_sem.specs.Slots.{Slot, IsSlot, IsSize, FieldType}
use Rattle.jn_sem.specs.Terms.{TypeIs}
use Rattle.jn_sem.specs.Does.{Body, IsBody, AreParams}
use Rattle.jn_agree.specs.declared.selectors.MethodSel.{MethodSel}
use Rattle.jn_agree.specs.declared.selectors.FieldSel.{FieldSel}
use Rattle.jn_agree.specs.Naming.{Naming}
use Rattle.jn_agree.specs.Matches.{RowOf, SlotNumber}

-- ---- kinds

abbrev pub kind_of_type : Ty → ℕ
kind_of_type ty.Int = 1
kind_of_type ty.Bool = 2
kind_of_type ty.Null = 3
kind_of_type ty.Void = 3
kind_of_type (ty.Class xs m) = 3

-- the kinds of a body's parameters and of its result
abbrev pub ResultKind : Program → Body → List Var → Option TypeTerm → ℕ → Type 0
ResultKind p b vars None k = k ≡ 0
ResultKind p b vars (Some t) k =
    (type : Ty) × TypeIs p (record { class = b.class; method = b.method.name.name; vars = vars }) t type ×
    (k ≡ kind_of_type type)

pub record HasShape (p : Program) (b : Body) (s : Shape) : Type 0 where
  pub vars : List Var
  pub params : AreParams p b vars
  pub kinds : s.params ≡ map (λ (x : Var). kind_of_type x.ty) vars
  pub result : ResultKind p b vars b.method.result s.result

-- the shape of the body that typing found
abbrev pub result_kind : Ty → ℕ
result_kind ty.Void = 0
result_kind ty.Int = 1
result_kind ty.Bool = 2
result_kind ty.Null = 3
result_kind (ty.Class xs m) = 3

pub record IsShape (vars : List Var) (t : Ty) (s : Shape) : Type 0 where
  pub params : s.params ≡ map (λ (x : Var). kind_of_type x.ty) vars
  pub result : s.result ≡ result_kind t

-- 4 where the type hangs on `this`
pub data FieldKind (t : Ty) (k : ℕ) : Type 0 where
  plain : (HangsOnThis t → ⊥) → k ≡ kind_of_type t → FieldKind t k
  hanging : HangsOnThis t → k ≡ 4 → FieldKind t k

-- ---- entries

-- the code k is that of the least body of the selector's name at R, and has its shape
pub record HasEntry (p : Program) (n : Naming) (R : Path) (s k : ℕ) : Type 0 where
  pub sel : MethodSel
  pub selector : slice_get n.methods s ≡ Some sel
  pub body : Body
  pub least : IsBody p R sel.name body
  pub shape : HasShape p body sel.shape
  pub code : slice_get n.bodies k ≡ Some body

-- R has the selector's field, of its kind
pub record HasFieldEntry (p : Program) (n : Naming) (R : Path) (s : ℕ) : Type 0 where
  pub sel : FieldSel
  pub selector : slice_get n.fields s ≡ Some sel
  pub type : Ty
  pub is : FieldType p R sel.name type
  pub kind : FieldKind type sel.kind

-- the family number f stands for Y, which is another one than R's, and class k is the counterpart of R in it
pub record HasOther (p : Program) (n : Naming) (R : Path) (f k : ℕ) : Type 0 where
  pub family : Name
  pub number : slice_get n.classes f ≡ Some (family ∷ [])
  pub other : family_of R ≡ Some family → ⊥
  pub class : Path
  pub counterpart : Counterpart p family R class
  pub at : slice_get n.classes k ≡ Some class

abbrev pub UpIs : Naming → Path → ℕ → Type 0
UpIs n [] u = ⊥
UpIs n (X ∷ []) u = u ≡ 65535
UpIs n (C ∷ (D ∷ P)) u = slice_get n.classes u ≡ Some (D ∷ P)

-- a package has no group, a class that of its first related class
pub record GroupIs (p : Program) (n : Naming) (R : Path) (g : ℕ) : Type 0 where
  pub of_package : HasKind p R kind.Package → g ≡ 65535
  pub of_class : IsClass p R → (G : Path) × IsFirst p (Related p R) G × (slice_get n.groups g ≡ Some G)

-- the row of R
pub record RowIs (p : Program) (n : Naming) (R : Path) (row : ClassRow) : Type 0 where
  pub up : UpIs n R row.up
  pub family : (Y : Name) → family_of R ≡ Some Y → slice_get n.classes row.family ≡ Some (Y ∷ [])
  pub group : GroupIs p n R row.group
  pub members : (C : Name) (k : ℕ) → (member_in row C.0 ≡ Some k) ↔ (slice_get n.classes k ≡ Some (C ∷ R))
  pub methods : (s k : ℕ) → code_in row s ≡ Some k → HasEntry p n R s k
  pub has_method : (s k : ℕ) → HasEntry p n R s k → code_in row s ≡ Some k
  pub fields : (s m : ℕ) → slot_in row s ≡ Some m → HasFieldEntry p n R s
  pub has_field : (s : ℕ) → HasFieldEntry p n R s → (m : ℕ) × (slot_in row s ≡ Some m)
  pub others : (f k : ℕ) → (other_in row f ≡ Some k) ↔ HasOther p n R f k

-- the universe in class order
pub record Classes (p : Program) (cs : List Path) : Type 0 where
  pub exact : (R : Path) → Contains cs R ↔ InUniverse p R
  pub in_order : IsStrictlySortedBy (class_cmp p) cs
  -- (so each stands once)
  pub once : (j k : ℕ) (R : Path) → slice_get cs j ≡ Some R → slice_get cs k ≡ Some R → j ≡ k

-- The selectors hold, each pair once, the name and shape of each method and the name and kind of each field. The
-- selector of a constructor has the name of its class and no result.
pub record SelectorsAre (p : Program) (methods : List MethodSel) (fields : List FieldSel) : Type 0 where
  pub has_method : (R : Path) (m : Name) (b : Body) (s : Shape) → IsBody p R m b → HasShape p b s
      → Contains methods (record { name = m; shape = s })
  pub has_field : (R : Path) (f : Name) (t : Ty) (k : ℕ) → FieldType p R f t → FieldKind t k
      → Contains fields (record { name = f; kind = k })
  pub method_once : (j k : ℕ) (x : MethodSel) → slice_get methods j ≡ Some x → slice_get methods k ≡ Some x → j ≡ k
  pub field_once : (j k : ℕ) (x : FieldSel) → slice_get fields j ≡ Some x → slice_get fields k ≡ Some x → j ≡ k

-- Two fields of one group have one number exactly where they have one slot.
pub record SlotsAre (p : Program) (i : Image) (n : Naming) : Type 0 where
  pub same : (V W : Path) (f g : Name) (s t : Slot) (j k : ℕ) → Related p V W → IsSlot p V f s → IsSlot p W g t
      → SlotNumber i n V f j
      → SlotNumber i n W g k → (j ≡ k) ↔ (s ≡ t)

-- The groups of the image: each has a kind for each slot of its classes, which is that of the slot's fields. (A
-- reference that hangs on `this` is one as any other there.)
pub record GroupsAre (p : Program) (i : Image) (n : Naming) : Type 0 where
  pub there : (V : Path) (k : ℕ) (row : ClassRow) → IsClass p V → RowOf i n V k row
      → (g : Group) × (slice_get i.groups row.group ≡ Some g)
  pub size : (V : Path) (k size : ℕ) (row : ClassRow) (g : Group) → RowOf i n V k row
      → slice_get i.groups row.group ≡ Some g
      → IsSize p V size → size ≡ suc (length g.slots)
  pub kinds : (V : Path) (k m : ℕ) (row : ClassRow) (g : Group) (f : Name) (t : Ty) → RowOf i n V k row
      → slice_get i.groups row.group ≡ Some g
      → SlotNumber i n V f m → FieldType p V f t → slice_get g.slots m ≡ Some (kind_of_type t)

-- The groups are numbered by their first classes: those that are the first of some class's group, in class order.
pub record FirstsAre (p : Program) (gs : List Path) : Type 0 where
  pub exact : (G : Path) → Contains gs G ↔ ((R : Path) × IsClass p R × IsFirst p (Related p R) G)
  pub in_order : IsStrictlySortedBy (class_cmp p) gs
  -- (so each stands once)
  pub once : (j k : ℕ) (G : Path) → slice_get gs j ≡ Some G → slice_get gs k ≡ Some G → j ≡ k

-- ---- codes

abbrev pub InOrder : Type 0
InOrder = Path → List Body

abbrev pub of_member : Member-F InOrder InOrder → InOrder
of_member (Member-F.Inner d) R = d R
of_member (Member-F.Slot f) R = []
of_member (Member-F.Body m) R = record { class = R; method = m } ∷ []

abbrev pub one_by_one : List InOrder → InOrder
one_by_one [] R = []
one_by_one (x ∷ xs) R = x R ++ one_by_one xs R

unfoldable pub of_decl : Decl → InOrder
of_decl = fold-Decl InOrder InOrder of_member (λ d P. one_by_one d.members (d.name.name ∷ P))

-- the bodies of a program in source order, each with the class that declares it
abbrev pub bodies_of : Program → List Body
bodies_of p = one_by_one (map of_decl p.decls) []

-- a code for each body in source order, and last the code with which a run begins
pub record CodesAre (p : Program) (i : Image) (n : Naming) : Type 0 where
  pub bodies : n.bodies ≡ bodies_of p
  pub start : i.start ≡ length n.bodies
  pub all : length i.codes ≡ suc (length n.bodies)

-- The image's texts are the program's, in their order.
abbrev pub TextsAre : Program → Image → Type 0
TextsAre p i = map (λ (x : image.Text). x.bytes) i.texts ≡ map (λ (x : Text). x.bytes) p.texts

-- ---- all

-- The rows of an image are those of the program, where n says what its numbers stand for.
pub record RowsAre (p : Program) (i : Image) (n : Naming) : Type 0 where
  pub classes : Classes p n.classes
  pub firsts : FirstsAre p n.groups
  pub rows : Each (RowIs p n) n.classes i.classes
  pub shapes : map (λ (x : MethodSel). x.shape) n.methods ≡ i.methods
  pub kinds : map (λ (x : FieldSel). x.kind) n.fields ≡ i.fields
  pub selectors : SelectorsAre p n.methods n.fields
  pub codes : CodesAre p i n
  -- (each body that a class has is one of those)
  pub bodies : (V : Path) (m : Name) (b : Body) (k : ℕ) → slice_get n.classes k ≡ Some V → IsBody p V m b
      → (j : ℕ) × (c : Code) × (slice_get n.bodies j ≡ Some b) × (slice_get i.codes j ≡ Some c)
  pub slots : SlotsAre p i n
  pub groups : GroupsAre p i n
  pub texts : TextsAre p i

-- The image has the program's rows. (Of what its numbers stand for, only the order of the selectors is free.)
pub record Rows (p : Program) (i : Image) : Type 0 where
  pub naming : Naming
  pub are : RowsAre p i naming
