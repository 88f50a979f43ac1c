-- What a class with no fault has.
use Rattle.std.proofs.Common.{◌≡◌, refl, sym, ap, ◌∙◌, ℕ, zero, suc, ◌<◌, List, [], ◌∷◌, length, Bool, true, false, not, ◌&&◌, ◌||◌, Option, Some, None, slice_get, nat_lt, arith, subst, cond}
use Rattle.std.specs.Prelude.{nat_eq, if◌then◌else◌}
use Rattle.std.specs.List.{list_all, find}
use Rattle.std.specs.Option.{option_map, option_and_then}
use Rattle.std.proofs.lemmas.Bool.{ltb-true, eqb-true}
use Rattle.jn_code.specs.declared.image.Image.{Image}
use Rattle.jn_code.specs.declared.image.Shape.{Shape}
use Rattle.jn_code.specs.declared.image.Group.{Group}
use Rattle.jn_code.specs.declared.image.ClassRow.{ClassRow}
use Rattle.jn_code.specs.declared.image.MemberEntry.{MemberEntry}
use Rattle.jn_code.specs.declared.image.MethodEntry.{MethodEntry}
use Rattle.jn_code.specs.declared.image.FieldEntry.{FieldEntry}
use Rattle.jn_code.specs.declared.image.OtherEntry.{OtherEntry}
use Rattle.jn_code.specs.declared.image.Code.{Code}
use Rattle.jn_code.specs.declared.fault.RowWhy.TheVariants as why
use Rattle.jn_code.specs.Kinds.{kind_of}
use Rattle.jn_code.specs.Rows.{unless, passes, same_numbers, numbered, group_at, group_of, up_is_good, group_is_good, member_is_good, method_is_good, slot_is_good, field_is_good, other_is_good, row_fault}
use Rattle.jn_code.specs.Machine.{up_of, ups_of, member_in, code_in, slot_in, other_in}
use Rattle.jn_code.proofs.Sound.{both_left, both_right, unless_none, kind_same, get_below}

-- no class has a fault
abbrev pub RowsOk : Image → Type 0
RowsOk i = (k : ℕ) (r : ClassRow) → slice_get i.classes k ≡ Some r → row_fault i k r ≡ None

pub record RowIs (i : Image) (k : ℕ) (r : ClassRow) : Type 0 where
  pub up : up_is_good i k r ≡ true
  pub group : group_is_good i r ≡ true
  pub members : list_all (member_is_good i k) r.members ≡ true
  pub methods : list_all (method_is_good i) r.methods ≡ true
  pub fields : list_all (field_is_good i r) r.fields ≡ true
  pub others : list_all (other_is_good i r) r.others ≡ true

pub row_is : (i : Image) (k : ℕ) (r : ClassRow) → row_fault i k r ≡ None → RowIs i k r
row_is i k r e =
    let others = unless (list_all (other_is_good i r) r.others) why.Other None in
    let fields = unless (list_all (field_is_good i r) r.fields) why.Field others in
    let methods = unless (list_all (method_is_good i) r.methods) why.Method fields in
    let members = unless (list_all (member_is_good i k) r.members) why.Member methods in
    let group = unless (group_is_good i r) why.Group members in
    let a = unless_none (up_is_good i k r) why.Up group e in
    let b = unless_none (group_is_good i r) why.Group members a.1 in
    let c = unless_none (list_all (member_is_good i k) r.members) why.Member methods b.1 in
    let d = unless_none (list_all (method_is_good i) r.methods) why.Method fields c.1 in
    let f = unless_none (list_all (field_is_good i r) r.fields) why.Field others d.1 in
    let g = unless_none (list_all (other_is_good i r) r.others) why.Other None f.1 in
    record {
      up = a.0;
      group = b.0;
      members = c.0;
      methods = d.0;
      fields = f.0;
      others = g.0;
    }

-- what passes a test is there
pub passed_is : {A : Type 0} (test : A → Bool) (o : Option A) → passes test o ≡ true → (a : A) × (o ≡ Some a) × (test a ≡ true)
passed_is test None e = absurd cc
passed_is test (Some a) e = (a, refl, e)

pub map_is : {A B : Type 0} (f : A → B) (o : Option A) (b : B) → option_map f o ≡ Some b → (a : A) × (o ≡ Some a) × (f a ≡ b)
map_is f None b e = absurd cc
map_is f (Some a) b e = (a, refl, cc)

pub then_is : {A B : Type 0} (f : A → Option B) (o : Option A) (b : B) → option_and_then f o ≡ Some b → (a : A) × (o ≡ Some a) × (f a ≡ Some b)
then_is f None b e = absurd cc
then_is f (Some a) b e = (a, refl, e)

pub numbered_is : (n m : ℕ) → numbered n ≡ Some m → (n ≡ m) × (nat_eq n 65535 ≡ false)
numbered_is n m e = at (nat_eq n 65535) refl e
  where
    at : (b : Bool) → nat_eq n 65535 ≡ b → if◌then◌else◌ {A = Option ℕ} b None (Some n) ≡ Some m → (n ≡ m) × (nat_eq n 65535 ≡ false)
    at true q e = absurd cc
    at false q e = (cc, q)

-- what a search in a list whose items all pass finds
found : {A : Type 0} (test good : A → Bool) (xs : List A) (a : A) → find test xs ≡ Some a → list_all good xs ≡ true → (test a ≡ true) × (good a ≡ true)
found test good [] a e g = absurd cc
found {A} test good (x ∷ xs) a e g = at (λ e. found test good xs a e (both_right (good x) (list_all good xs) g)) (test x) refl e
  where
    at : (find test xs ≡ Some a → (test a ≡ true) × (good a ≡ true)) → (b : Bool) → test x ≡ b → cond b (Some x) (find test xs) ≡ Some a → (test a ≡ true) × (good a ≡ true)
    at later true q e =
        let w : x ≡ a = cc in
        (subst (λ (a : A). test a ≡ true) w q, subst (λ (a : A). good a ≡ true) w (both_left (good x) (list_all good xs) g))
    at later false q e = later e

-- the member is a class
pub member_there : (i : Image) (k : ℕ) (r : ClassRow) (name m : ℕ) → RowIs i k r → member_in r name ≡ Some m → m < length i.classes
member_there i k r name m ok e =
    let a = map_is (λ (e : MemberEntry). e.class) _ m e in
    let b = found _ (member_is_good i k) r.members a.0 a.1 ok.members in
    let c = passed_is _ _ b.1 in
    let d = get_below i.classes a.0.class c.0 c.1 in
    subst (λ (m : ℕ). m < length i.classes) a.2 d

-- the class above is one
pub up_there : (i : Image) (k u : ℕ) → RowsOk i → up_of i k ≡ Some u → u < length i.classes
up_there i k u ok e =
    let a = then_is (λ (r : ClassRow). numbered r.up) _ u e in
    let b = numbered_is a.0.up u a.2 in
    let row = row_is i k a.0 (ok k a.0 a.1) in
    let below = get_below i.classes k a.0 a.1 in
    let c = at (nat_eq a.0.up 65535) (nat_eq a.0.family k) (nat_lt a.0.up k) _ b.1 row.up in
    let d : a.0.up < k = ltb-true a.0.up k c in
    let q = b.0 in omega arith
  where
    at : (x y z w : Bool) → x ≡ false → x && y || z && w ≡ true → z ≡ true
    at true y z w q e = absurd cc
    at false y z w q e = both_left z w e

pub ups_there : (i : Image) (n k u : ℕ) → RowsOk i → k < length i.classes → ups_of i n k ≡ Some u → u < length i.classes
ups_there i zero k u ok h e = let q : k ≡ u = cc in omega arith
ups_there i (suc n) k u ok h e =
    let a = then_is (ups_of i n) (up_of i k) u e in ups_there i n a.0 u ok (up_there i k a.0 ok a.1) a.2

-- the group of a class that has one
pub group_there : (i : Image) (k : ℕ) (r : ClassRow) → RowIs i k r → nat_eq r.group 65535 ≡ false → (g : Group) × (slice_get i.groups r.group ≡ Some g)
group_there i k r ok e = let a = at (nat_eq r.group 65535) _ e ok.group in let b = passed_is _ _ a in (b.0, b.1)
  where
    at : (x y : Bool) → x ≡ false → x || y ≡ true → y ≡ true
    at true y q e = absurd cc
    at false y q e = e

same_is : (xs ys : List ℕ) → same_numbers xs ys ≡ true → xs ≡ ys
same_is [] [] e = refl
same_is [] (y ∷ ys) e = absurd cc
same_is (x ∷ xs) [] e = absurd cc
same_is (x ∷ xs) (y ∷ ys) e =
    let a : x ≡ y = eqb-true x y (both_left (nat_eq x y) (same_numbers xs ys) e) in
    let b = same_is xs ys (both_right (nat_eq x y) (same_numbers xs ys) e) in cc

-- the code of a class's entry, with the selector's shape
pub record IsEntry (i : Image) (s b : ℕ) : Type 0 where
  pub shape : Shape
  pub code : Code
  pub selector : slice_get i.methods s ≡ Some shape
  pub is : slice_get i.codes b ≡ Some code
  pub params : code.params ≡ 3 ∷ shape.params
  pub result : code.result ≡ shape.result

pub code_there : (i : Image) (k : ℕ) (r : ClassRow) (s b : ℕ) → RowIs i k r → code_in r s ≡ Some b → IsEntry i s b
code_there i k r s b ok e =
    let a = map_is (λ (e : MethodEntry). e.code) _ b e in
    let c = found _ (method_is_good i) r.methods a.0 a.1 ok.methods in
    let m = passed_is _ _ c.1 in
    let d = passed_is _ _ m.2 in
    let q : a.0.selector ≡ s = eqb-true a.0.selector s c.0 in
    record {
      shape = m.0;
      code = d.0;
      selector = ap (slice_get i.methods) (sym q) ∙ m.1;
      is = ap (slice_get i.codes) (sym a.2) ∙ d.1;
      params = same_is d.0.params (3 ∷ m.0.params) (both_left (same_numbers d.0.params (3 ∷ m.0.params)) (nat_eq d.0.result m.0.result) d.2);
      result = eqb-true d.0.result m.0.result (both_right (same_numbers d.0.params (3 ∷ m.0.params)) (nat_eq d.0.result m.0.result) d.2);
    }

-- the slot of a class's entry, with the selector's kind
pub record IsSlot (i : Image) (r : ClassRow) (s slot : ℕ) : Type 0 where
  pub group : Group
  pub there : slice_get i.groups r.group ≡ Some group
  pub kind : ℕ
  pub is : slice_get group.slots slot ≡ Some kind
  pub field : ℕ
  pub selector : slice_get i.fields s ≡ Some field
  pub same : kind_of kind ≡ kind_of field

group_of_is : (i : Image) (o : Option ℕ) (g : Group) (n : ℕ) → numbered n ≡ o → group_at i o ≡ Some g → slice_get i.groups n ≡ Some g
group_of_is i None g n q e = absurd cc
group_of_is i (Some m) g n q e = let a = numbered_is n m q in ap (slice_get i.groups) a.0 ∙ e

pub slot_there : (i : Image) (k : ℕ) (r : ClassRow) (s slot : ℕ) → RowIs i k r → slot_in r s ≡ Some slot → IsSlot i r s slot
slot_there i k r s slot ok e =
    let a = map_is (λ (e : FieldEntry). e.slot) _ slot e in
    let c = found _ (field_is_good i r) r.fields a.0 a.1 ok.fields in
    let g = passed_is (slot_is_good i a.0) (group_of i r) c.1 in
    let f = passed_is _ _ g.2 in
    let d = passed_is _ _ f.2 in
    let q : a.0.selector ≡ s = eqb-true a.0.selector s c.0 in
    record {
      group = g.0;
      there = group_of_is i (numbered r.group) g.0 r.group refl g.1;
      kind = d.0;
      is = ap (slice_get g.0.slots) (sym a.2) ∙ d.1;
      field = f.0;
      selector = ap (slice_get i.fields) (sym q) ∙ f.1;
      same = kind_same (kind_of d.0) (kind_of f.0) d.2;
    }

-- a class's counterpart is of its group
pub record IsOther (i : Image) (r : ClassRow) (k : ℕ) : Type 0 where
  pub row : ClassRow
  pub is : slice_get i.classes k ≡ Some row
  pub same : row.group ≡ r.group

pub other_there : (i : Image) (k : ℕ) (r : ClassRow) (f o : ℕ) → RowIs i k r → other_in r f ≡ Some o → IsOther i r o
other_there i k r f o ok e =
    let a = map_is (λ (e : OtherEntry). e.class) _ o e in
    let c = found _ (other_is_good i r) r.others a.0 a.1 ok.others in
    let m = passed_is (λ (o : ClassRow). nat_eq o.group r.group && nat_eq o.family a.0.family) (slice_get i.classes a.0.class) (both_right (not (nat_eq r.group 65535)) _ c.1) in
    record {
      row = m.0;
      is = ap (slice_get i.classes) (sym a.2) ∙ m.1;
      same = eqb-true m.0.group r.group (both_left (nat_eq m.0.group r.group) (nat_eq m.0.family a.0.family) m.2);
    }
