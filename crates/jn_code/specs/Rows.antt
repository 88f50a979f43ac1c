-- What is wrong with a class of an image: the first of six causes.
use Rattle.std.specs.Prelude.{ℕ, List, [], ◌∷◌, Bool, true, false, not, ◌&&◌, ◌||◌, Option, Some, None, slice_get, nat_eq, nat_lt, if◌then◌else◌}
use Rattle.std.specs.List.{list_all}
use Rattle.jn_code.specs.declared.kind.OperandKind.{OperandKind}
use Rattle.jn_code.specs.declared.kind.OperandKind.TheVariants as kind
use Rattle.jn_code.specs.declared.image.Image.{Image}
use Rattle.jn_code.specs.declared.image.Shape.{Shape}
use Rattle.jn_code.specs.declared.image.Group.{Group}
use Rattle.jn_code.specs.declared.image.ClassRow.{ClassRow}
use Rattle.jn_code.specs.declared.image.MemberEntry.{MemberEntry}
use Rattle.jn_code.specs.declared.image.MethodEntry.{MethodEntry}
use Rattle.jn_code.specs.declared.image.FieldEntry.{FieldEntry}
use Rattle.jn_code.specs.declared.image.OtherEntry.{OtherEntry}
use Rattle.jn_code.specs.declared.image.Code.{Code}
use Rattle.jn_code.specs.declared.fault.RowWhy.{RowWhy}
use Rattle.jn_code.specs.declared.fault.RowWhy.TheVariants as why
use Rattle.jn_code.specs.Kinds.{kind_of}

-- the fault where it does not hold, and else what comes later
abbrev pub unless : {W : Type 0} → Bool → W → Option W → Option W
unless true w later = later
unless false w later = Some w

-- it is there, and passes the test
abbrev pub passes : {A : Type 0} → (A → Bool) → Option A → Bool
passes test None = false
passes test (Some a) = test a

abbrev pub kind_eq : OperandKind → OperandKind → Bool
kind_eq kind.Int kind.Int = true
kind_eq kind.Bool kind.Bool = true
kind_eq kind.Reference kind.Reference = true
kind_eq kind.Class kind.Class = true
kind_eq _ _ = false

abbrev pub same_numbers : List ℕ → List ℕ → Bool
same_numbers [] [] = true
same_numbers [] (y ∷ ys) = false
same_numbers (x ∷ xs) [] = false
same_numbers (x ∷ xs) (y ∷ ys) = nat_eq x y && same_numbers xs ys

-- The number 65535 is no class and no group.
abbrev pub numbered : ℕ → Option ℕ
numbered n = if nat_eq n 65535 then None else Some n

abbrev pub group_at : Image → Option ℕ → Option Group
group_at i None = None
group_at i (Some g) = slice_get i.groups g

-- the group of a class, where it has one
abbrev pub group_of : Image → ClassRow → Option Group
group_of i r = group_at i (numbered r.group)

-- `up` is 65535 and the family is its own number, or `up` is below its own number and is of the same family
abbrev pub up_is_good : Image → ℕ → ClassRow → Bool
up_is_good i k r =
    (nat_eq r.up 65535 && nat_eq r.family k) || (nat_lt r.up k && passes (λ (u : ClassRow). nat_eq u.family r.family) (slice_get i.classes r.up))

-- 65535, or a group that is there
abbrev pub group_is_good : Image → ClassRow → Bool
group_is_good i r = nat_eq r.group 65535 || passes (λ (g : Group). true) (slice_get i.groups r.group)

-- the member is there, and its `up` is this class
abbrev pub member_is_good : Image → ℕ → MemberEntry → Bool
member_is_good i k e = passes (λ (m : ClassRow). nat_eq m.up k) (slice_get i.classes e.class)

-- the code takes a reference and the selector's parameters, and gives the selector's result
abbrev pub has_shape : Shape → Code → Bool
has_shape s c = same_numbers c.params (3 ∷ s.params) && nat_eq c.result s.result

-- the selector and the code are there, and the code has the selector's shape
abbrev pub method_is_good : Image → MethodEntry → Bool
method_is_good i e = passes (λ (s : Shape). passes (has_shape s) (slice_get i.codes e.code)) (slice_get i.methods e.selector)

-- the slot is there, and has the selector's kind, where 4 counts as 3
abbrev pub slot_is_good : Image → FieldEntry → Group → Bool
slot_is_good i e g =
    passes (λ (f : ℕ). passes (λ (s : ℕ). kind_eq (kind_of s) (kind_of f)) (slice_get g.slots e.slot)) (slice_get i.fields e.selector)

-- the selector and the group are there, and so is the slot
abbrev pub field_is_good : Image → ClassRow → FieldEntry → Bool
field_is_good i r e = passes (slot_is_good i e) (group_of i r)

-- the class is there, of that family, and has the group of this one, which has one
abbrev pub other_is_good : Image → ClassRow → OtherEntry → Bool
other_is_good i r e =
    not (nat_eq r.group 65535) && passes (λ (o : ClassRow). nat_eq o.group r.group && nat_eq o.family e.family) (slice_get i.classes e.class)

-- what is wrong with class k
abbrev pub row_fault : Image → ℕ → ClassRow → Option RowWhy
row_fault i k r =
    unless (up_is_good i k r) why.Up
    (unless (group_is_good i r) why.Group
    (unless (list_all (member_is_good i k) r.members) why.Member
    (unless (list_all (method_is_good i) r.methods) why.Method
    (unless (list_all (field_is_good i r) r.fields) why.Field
    (unless (list_all (other_is_good i r) r.others) why.Other
    None)))))
