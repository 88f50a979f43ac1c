-- The slots of the examples.
use Rattle.std.proofs.Common.{◌≡◌, ℕ, zero, suc, List, [], ◌∷◌, Option, Some, None, Contains, Bool, true, false, refl, sym, ap, ◌∙◌, subst, ◌⊎◌, inl, inr, arith}
use Rattle.jn_reach.specs.Derived.{Derived, seed, rule}
use Rattle.jn_reach.specs.Equivalent as link
use Rattle.jn_base.specs.ClassOrder.{Before}
use Rattle.jn_base.specs.declared.tree.Name.{Name}
use Rattle.jn_base.specs.declared.tree.Decl.{Decl}
use Rattle.jn_base.specs.declared.tree.Member.{Member as Inside}
use Rattle.jn_base.specs.declared.tree.TypeTerm.{TypeTerm}
use Rattle.jn_base.specs.declared.tree.TypeTerm.TheVariants as type
use Rattle.std.specs.List.{list_all}
use Rattle.jn_base.specs.ExampleTrees.{declaration, class_in, field, word}
use Rattle.jn_base.specs.declared.tree.Field.{Field}
use Rattle.jn_base.specs.declared.tree.Kind.TheVariants as kind
use Rattle.jn_base.specs.declared.tree.Program.{Program}
use Rattle.jn_base.specs.declared.tree.Member.TheVariants.{outs-Inner, outs-Slot, outs-Body}
use Rattle.jn_base.specs.declared.types.Ty.{Ty}
use Rattle.jn_base.specs.declared.types.Ty.TheVariants as ty
use Rattle.jn_base.specs.declared.refusal.Refusal.{Refusal}
use Rattle.std.specs.Prelude.{Result, Ok, cond, slice_get}
use Rattle.jn_base.specs.Paths.{Path, nested, fields}
use Rattle.jn_base.specs.Supers.{Sup, itself, Member}
use Rattle.jn_base.specs.Members.{FieldAt, FieldDecls}
use Rattle.jn_base.specs.Atoms.{atoms_in, Among}
use Rattle.jn_base.proofs.NameTests.{in_cons, in_none, passes, same_name, first as at_first, later as behind}
use Rattle.jn_base.proofs.SuperLaws.{sup_inherited}
use Rattle.jn_base.proofs.ExampleTools.{at_inner, tops, inner_has, anything, is_class, inner_member, inner_class, inners, field_in, same, OneOf, one, sups_kept, has_only}
use Rattle.jn_sem.specs.Values.{HasField}
use Rattle.jn_sem.specs.Sharing.{IsClass, Related, HangsOnThis}
use Rattle.jn_sem.specs.Slots.{BothHang, only_other, only_one, MakesTwo, declared_apart, unmatched, unmatched_back, fields_apart, MakesTwoBy, Compared, Slot, IsSlot, SlotOfGroup, OneSlot, IsSize}
use Rattle.jn_sem.specs.Terms.{FieldTypeIs}
use Rattle.jn_sem_rows.specs.SlotsExample.{base, disp, Exp, Add, Lit, l, r, v, tag, in_base, in_disp, named_type, field_of, slot, tagged, Tagged, two_slots, TwoSlots}
use Rattle.jn_sem_rows.proofs.SlotTools.{above_base, the_related, back, in_namespace, is_flat, type_of_name, in_at, it_hangs, stands_in_base, stands_in_disp, one_name, bare, IsLit, field_place, with_field}

abbrev int_type : TypeTerm → Bool
int_type type.Int = true
int_type type.Bool = false
int_type (type.Class ts ms) = false

ok_is : (a b : Ty) → ◌≡◌ {A = Result Ty Refusal} (Ok a) (Ok b) → a ≡ b
ok_is a b e = cc

pub equal_less : Before tagged (in_base Lit) (in_base Lit) → ⊥
equal_less e = cc

greater_less : Before tagged (in_disp Lit) (in_base Lit) → ⊥
greater_less e = cc

equal_less_too : Before tagged (in_disp Lit) (in_disp Lit) → ⊥
equal_less_too e = cc

base_before : Before tagged (in_base Lit) (in_disp Lit)
base_before = refl

abbrev field_number : Option Slot → ℕ
field_number None = 0
field_number (Some s) = s.field.0

wrong : false ≡ true → ⊥
wrong e = cc

-- ---- two slots

has_exp : inner_has two_slots base Exp anything ≡ true
has_exp = simp (outs-Inner, outs-Slot, outs-Body)

exp_class : inner_has two_slots base Exp is_class ≡ true
exp_class = simp (outs-Inner, outs-Slot, outs-Body)

has_add : inner_has two_slots base Add anything ≡ true
has_add = simp (outs-Inner, outs-Slot, outs-Body)

add_class : inner_has two_slots base Add is_class ≡ true
add_class = simp (outs-Inner, outs-Slot, outs-Body)

two_flat : inners is_flat two_slots ≡ true
two_flat = simp (outs-Inner, outs-Slot, outs-Body)

pub exp_in_base : Member two_slots (base ∷ []) Exp
exp_in_base = inner_member two_slots base base Exp itself has_exp

add_in_base : Member two_slots (base ∷ []) Add
add_in_base = inner_member two_slots base base Add itself has_add

abbrev add_decl : Decl
add_decl = declaration kind.Class 1 Add (Exp ∷ []) (field_of Exp l ∷ field_of Exp r ∷ [])

abbrev exp_with_tag : Decl
exp_with_tag = declaration kind.Class 1 Exp [] (field tag ∷ [])

abbrev field_l : Field
field_l = record { ty = named_type Exp; name = word l }

abbrev field_r : Field
field_r = record { ty = named_type Exp; name = word r }

abbrev pub field_tag : Field
field_tag = record { ty = type.Int; name = word tag }

abbrev own_decls : List Inside
own_decls = class_in Exp [] [] ∷ class_in Add (Exp ∷ []) (field_of Exp l ∷ field_of Exp r ∷ []) ∷ []

abbrev further_decls : List Inside
further_decls = class_in Exp [] (field tag ∷ []) ∷ []

abbrev exp_decl : Decl
exp_decl = declaration kind.Class 1 Exp [] []

own_are : nested own_decls ≡ exp_decl ∷ add_decl ∷ []
own_are = simp (outs-Inner)

further_are : nested further_decls ≡ exp_with_tag ∷ []
further_are = simp (outs-Inner)

add_fields : fields add_decl.members ≡ field_l ∷ field_r ∷ []
add_fields = simp (outs-Slot)

tag_fields : fields exp_with_tag.members ≡ field_tag ∷ []
tag_fields = simp (outs-Slot)

nested_own : Contains (nested own_decls) add_decl
nested_own = subst (λ (ds : List Decl). Contains ds add_decl) (sym own_are) (behind exp_decl (add_decl ∷ []) add_decl (at_first add_decl []))

tag_at : FieldAt two_slots (in_disp Exp) tag field_tag
tag_at = record {
  decl = exp_with_tag;
  stands = stands_in_disp own_decls further_decls exp_with_tag (subst (λ (ds : List Decl). Contains ds exp_with_tag) (sym further_are) (at_first exp_with_tag []));
  has = subst (λ (fs : List Field). Contains fs field_tag) (sym tag_fields) (at_first field_tag []);
  name = refl;
}

l_at : FieldAt two_slots (in_base Add) l field_l
l_at = record {
  decl = add_decl;
  stands = stands_in_base own_decls further_decls add_decl nested_own;
  has = subst (λ (fs : List Field). Contains fs field_l) (sym add_fields) (at_first field_l (field_r ∷ []));
  name = refl;
}

l_type : FieldTypeIs two_slots (in_base Add) l (named_type Exp) (in_namespace Exp)
l_type = type_of_name two_slots two_flat Add Exp l exp_in_base (inner_class two_slots (in_base Exp) base Exp itself exp_class)

pub up : Sup two_slots (disp ∷ []) (base ∷ [])
up = above_base own_decls further_decls

l_of_add : FieldDecls two_slots (in_base Add) l (in_base Add)
l_of_add = record { super = itself; field = field_l; at = l_at }

pub l_of_heir : FieldDecls two_slots (in_disp Add) l (in_base Add)
l_of_heir = record { super = sup_inherited up add_in_base; field = field_l; at = l_at }

pub adds : Related two_slots (in_disp Add) (in_base Add)
adds = the_related own_decls further_decls Add has_add add_class

exps : Related two_slots (in_disp Exp) (in_base Exp)
exps = the_related own_decls further_decls Exp has_exp exp_class

-- an Exp of `base` has no field `tag`
exp_sups : (S : Path) → Sup two_slots (in_base Exp) S → OneOf (Exp ∷ []) (base ∷ []) S
exp_sups S s = sups_kept two_slots (Exp ∷ []) (base ∷ []) refl (simp (outs-Inner)) Exp base refl refl S s

tag_in_disp : (C A : Name) (f : Field) → FieldAt two_slots (C ∷ A ∷ []) tag f → same A disp ≡ true
tag_in_disp C A f x = field_in two_slots tag (λ D B. same B disp) (simp (outs-Inner, outs-Slot)) C A f x

no_tag_in : (S : Path) (f : Field) → OneOf (Exp ∷ []) (base ∷ []) S → FieldAt two_slots S tag f → ⊥
no_tag_in S f (one C A c a) x = apart A (has_only base A a) (tag_in_disp C A f x) where
  apart : (B : Name) → base ≡ B → same B disp ≡ true → ⊥
  apart B e h = wrong (subst (λ (D : Name). same D disp ≡ true) (sym e) h)

no_tag : HasField two_slots (in_base Exp) tag → ⊥
no_tag h = no_tag_in h.at h.declares.field (exp_sups h.at h.declares.super) h.declares.at

has_tag : HasField two_slots (in_disp Exp) tag
has_tag = record { at = in_disp Exp; declares = record { super = itself; field = field_tag; at = tag_at } }

pub two : TwoSlots
two = record {
  l_of_base = seed (fields_apart (in_base Add) (in_namespace Exp) (in_base Exp) (in_disp Exp) tag
      (record {
        both = record {
          related = back own_decls further_decls adds;
          in_one = record { at = in_base Add; declares = l_of_add };
          in_other = record { at = in_base Add; declares = l_of_heir };
        };
        at_one = l_of_add;
        at_other = l_of_heir;
        field = field_l;
        at = l_at;
        type = l_type;
        hangs = it_hangs Exp;
      })
      (record { class = exps.other; is_in = in_at two_slots Exp (in_base Add) (in_base Exp) refl itself })
      (record {
        family = disp;
        of_view = refl;
        counterpart = record { is = refl; related = back own_decls further_decls exps };
        is_in = in_at two_slots Exp (in_disp Add) (in_disp Exp) refl itself;
      })
      (only_other has_tag no_tag));
  l_of_disp = seed (fields_apart (in_base Add) (in_namespace Exp) (in_disp Exp) (in_base Exp) tag
      (record {
        both = record {
          related = adds;
          in_one = record { at = in_base Add; declares = l_of_heir };
          in_other = record { at = in_base Add; declares = l_of_add };
        };
        at_one = l_of_heir;
        at_other = l_of_add;
        field = field_l;
        at = l_at;
        type = l_type;
        hangs = it_hangs Exp;
      })
      (record { class = exps.one; is_in = in_at two_slots Exp (in_disp Add) (in_disp Exp) refl itself })
      (record {
        family = base;
        of_view = refl;
        counterpart = record { is = refl; related = exps };
        is_in = in_at two_slots Exp (in_base Add) (in_base Exp) refl itself;
      })
      (only_one has_tag no_tag));
}

-- ---- one slot for v, and one for tag

pub has_lit : inner_has tagged base Lit anything ≡ true
has_lit = simp (outs-Inner)

pub lit_class : inner_has tagged base Lit is_class ≡ true
lit_class = simp (outs-Inner)

abbrev pub tagged_own : List Inside
tagged_own = class_in Lit [] (field v ∷ []) ∷ []

abbrev pub tagged_further : List Inside
tagged_further = class_in Lit [] (field tag ∷ []) ∷ []

pub lits : Related tagged (in_disp Lit) (in_base Lit)
lits = the_related tagged_own tagged_further Lit has_lit lit_class

pub lits_back : Related tagged (in_base Lit) (in_disp Lit)
lits_back = back tagged_own tagged_further lits

pub tagged_flat : inners is_flat tagged ≡ true
tagged_flat = simp (outs-Inner, outs-Slot)

pub tagged_lits : inners one_name tagged ≡ true
tagged_lits = simp (outs-Inner)

pub tagged_bare : tops bare tagged ≡ true
tagged_bare = simp (outs-Inner)

-- every field is an int, v in `base` and tag in `disp`
abbrev is_int : Field → Bool
is_int f = int_type f.ty

all_ints : inners (λ A d. list_all is_int (fields d.members)) tagged ≡ true
all_ints = simp (outs-Inner, outs-Slot)

v_in_base : (C A : Name) (x : Field) → FieldAt tagged (C ∷ A ∷ []) v x → same A base ≡ true
v_in_base C A x h = field_in tagged v (λ D B. same B base) (simp (outs-Inner, outs-Slot)) C A x h

tag_in_its : (C A : Name) (x : Field) → FieldAt tagged (C ∷ A ∷ []) tag x → same A disp ≡ true
tag_in_its C A x h = field_in tagged tag (λ D B. same B disp) (simp (outs-Inner, outs-Slot)) C A x h

abbrev own_name : Name → Field → Bool
own_name A x = cond (same A base) (same x.name.name v) (same x.name.name tag)

own_names : inners (λ A d. list_all (own_name A) (fields d.members)) tagged ≡ true
own_names = simp (outs-Inner, outs-Slot)

lit_place : (R : Path) (f : Name) (x : Field) → FieldAt tagged R f x → (A : Name) × (R ≡ Lit ∷ A ∷ []) × ((base ≡ A) ⊎ (disp ≡ A))
lit_place = field_place tagged_own tagged_further tagged_flat tagged_lits tagged_bare

-- the field is v in `base`, and tag in `disp`
named_so : (C A : Name) (f : Name) (x : Field) → FieldAt tagged (C ∷ A ∷ []) f x → cond (same A base) (same f v) (same f tag) ≡ true
named_so C A f x h =
    subst (λ (n : Name). cond (same A base) (same n v) (same n tag) ≡ true) h.name
    (passes (own_name A) (fields h.decl.members) x (at_inner tagged (λ B d. list_all (own_name B) (fields d.members)) own_names C A h.decl h.stands) h.has)

pub is_v : (R : Path) (x : Field) → FieldAt tagged R v x → R ≡ in_base Lit
is_v R x h =
    let at = lit_place R v x h in
    let e = v_in_base Lit at.0 x (subst (λ (Q : Path). FieldAt tagged Q v x) at.1 h) in
    at.1 ∙ ap (λ (n : Name). Lit ∷ n ∷ []) (same_name at.0 base e)

pub is_tag : (R : Path) (x : Field) → FieldAt tagged R tag x → R ≡ in_disp Lit
is_tag R x h =
    let at = lit_place R tag x h in
    let e = tag_in_its Lit at.0 x (subst (λ (Q : Path). FieldAt tagged Q tag x) at.1 h) in
    at.1 ∙ ap (λ (n : Name). Lit ∷ n ∷ []) (same_name at.0 disp e)

v_or_tag : (f A : Name) (x : Field) → (base ≡ A) ⊎ (disp ≡ A) → FieldAt tagged (Lit ∷ A ∷ []) f x → (f ≡ v) ⊎ (f ≡ tag)
v_or_tag f A x (inl e) h = inl (same_name f v (subst (λ (n : Name). cond (same n base) (same f v) (same f tag) ≡ true) (sym e) (named_so Lit A f x h)))
v_or_tag f A x (inr e) h = inr (same_name f tag (subst (λ (n : Name). cond (same n base) (same f v) (same f tag) ≡ true) (sym e) (named_so Lit A f x h)))

pub its_name : (R : Path) (f : Name) (x : Field) → FieldAt tagged R f x → (f ≡ v) ⊎ (f ≡ tag)
its_name R f x h = let at = lit_place R f x h in v_or_tag f at.0 x at.2 (subst (λ (Q : Path). FieldAt tagged Q f x) at.1 h)

-- a field is declared at one path
one_place : (f : Name) (Q R : Path) (x y : Field) → FieldAt tagged Q f x → FieldAt tagged R f y → (f ≡ v) ⊎ (f ≡ tag) → Q ≡ R
one_place f Q R x y h k (inl e) =
    is_v Q x (subst (λ (n : Name). FieldAt tagged Q n x) e h) ∙ sym (is_v R y (subst (λ (n : Name). FieldAt tagged R n y) e k))
one_place f Q R x y h k (inr e) =
    is_tag Q x (subst (λ (n : Name). FieldAt tagged Q n x) e h) ∙ sym (is_tag R y (subst (λ (n : Name). FieldAt tagged R n y) e k))

int_hangs : (p : Program) (Q : Path) (f : Name) (t : TypeTerm) (ty : Ty) → int_type t ≡ true → FieldTypeIs p Q f t ty → HangsOnThis ty → ⊥
int_hangs p Q f type.Int t e h k = elim (subst (λ (u : Ty). Among (atoms_in u) k.atom) (ok_is t ty.Int h) k.among) [ ]
int_hangs p Q f type.Bool t e h k = wrong e
int_hangs p Q f (type.Class ts ms) t e h k = wrong e

none_hangs : (V T : Path) (f : Name) (Q : Path) (ty : Ty) → BothHang tagged V T f Q ty → ⊥
none_hangs V T f Q ty h =
    let at = lit_place Q f h.field h.at in
    let x = subst (λ (R : Path). FieldAt tagged R f h.field) at.1 h.at in
    int_hangs tagged Q f h.field.ty ty
    (passes is_int (fields x.decl.members) h.field (at_inner tagged (λ B d. list_all is_int (fields d.members)) all_ints Lit at.0 x.decl x.stands) x.has)
    h.type h.hangs

never_two : (c : Compared) → MakesTwo tagged c → ⊥
never_two c (declared_apart Q R b h k n) = n (one_place c.field Q R h.field k.field h.at k.at (its_name Q c.field h.field h.at))
never_two c (unmatched Q ty h u) = none_hangs c.one c.other c.field Q ty h
never_two c (unmatched_back Q ty h u) = none_hangs c.one c.other c.field Q ty h
never_two c (fields_apart Q ty U W g h a m x) = none_hangs c.one c.other c.field Q ty h

no_diff : (c : Compared) → Derived (MakesTwo tagged) (MakesTwoBy tagged) c → ⊥
no_diff c (seed m) = never_two c m
no_diff c (rule d m) = no_diff _ d

-- ---- the slots of `tagged`

abbrev pub field_v : Field
field_v = record { ty = type.Int; name = word v }

abbrev base_lit : Decl
base_lit = declaration kind.Class 1 Lit [] (field v ∷ [])

abbrev disp_lit : Decl
disp_lit = declaration kind.Class 1 Lit [] (field tag ∷ [])

tagged_own_are : nested tagged_own ≡ base_lit ∷ []
tagged_own_are = simp (outs-Inner)

tagged_further_are : nested tagged_further ≡ disp_lit ∷ []
tagged_further_are = simp (outs-Inner)

base_lit_fields : fields base_lit.members ≡ field_v ∷ []
base_lit_fields = simp (outs-Slot)

disp_lit_fields : fields disp_lit.members ≡ field_tag ∷ []
disp_lit_fields = simp (outs-Slot)

pub v_at : FieldAt tagged (in_base Lit) v field_v
v_at = record {
  decl = base_lit;
  stands = stands_in_base tagged_own tagged_further base_lit (subst (λ (ds : List Decl). Contains ds base_lit) (sym tagged_own_are) (at_first base_lit []));
  has = subst (λ (fs : List Field). Contains fs field_v) (sym base_lit_fields) (at_first field_v []);
  name = refl;
}

pub its_tag_at : FieldAt tagged (in_disp Lit) tag field_tag
its_tag_at = record {
  decl = disp_lit;
  stands = stands_in_disp tagged_own tagged_further disp_lit (subst (λ (ds : List Decl). Contains ds disp_lit) (sym tagged_further_are) (at_first disp_lit []));
  has = subst (λ (fs : List Field). Contains fs field_tag) (sym disp_lit_fields) (at_first field_tag []);
  name = refl;
}

pub lit_above : Sup tagged (in_disp Lit) (in_base Lit)
lit_above = sup_inherited (above_base tagged_own tagged_further) (inner_member tagged base base Lit itself has_lit)

pub v_here : HasField tagged (in_base Lit) v
v_here = record { at = in_base Lit; declares = record { super = itself; field = field_v; at = v_at } }

pub v_there : HasField tagged (in_disp Lit) v
v_there = record { at = in_base Lit; declares = record { super = lit_above; field = field_v; at = v_at } }

pub tag_there : HasField tagged (in_disp Lit) tag
tag_there = record { at = in_disp Lit; declares = record { super = itself; field = field_tag; at = its_tag_at } }

itself_related : {R S : Path} → Related tagged R S → Related tagged R R
itself_related r = record { one = r.one; other = r.one; linked = link.itself }

-- the class disp.Lit has no super in which base.Lit is below it
lit_sups : (S : Path) → Sup tagged (in_base Lit) S → OneOf (Lit ∷ []) (base ∷ []) S
lit_sups S s = sups_kept tagged (Lit ∷ []) (base ∷ []) refl (simp (outs-Inner)) Lit base refl refl S s

base_of_sup : (S : Path) → OneOf (Lit ∷ []) (base ∷ []) S → S ≡ in_disp Lit → ⊥
base_of_sup S (one C A c a) e = apart A (has_only base A a) e where
  name_of : (B : Name) → C ∷ B ∷ [] ≡ in_disp Lit → B ≡ disp
  name_of B i = cc

  apart : (B : Name) → base ≡ B → C ∷ B ∷ [] ≡ in_disp Lit → ⊥
  apart B i k = absurd (omega (arith, ap (λ (n : Name). n.0) (i ∙ name_of B k)))

pub not_tagged : HasField tagged (in_base Lit) tag → ⊥
not_tagged h = base_of_sup h.at (lit_sups h.at h.declares.super) (is_tag h.at h.declares.field h.declares.at)

its_classes : (Q : Path) (f : Name) → IsClass tagged Q → HasField tagged Q f → IsLit Q
its_classes = with_field tagged_own tagged_further tagged_flat tagged_lits tagged_bare

-- nothing comes before base.Lit, and only base.Lit before disp.Lit
not_before : (Q : Path) → IsLit Q → Before tagged Q (in_base Lit) → ⊥
not_before Q (inl e) b = equal_less (subst (λ (P : Path). Before tagged P (in_base Lit)) e b)
not_before Q (inr e) b = greater_less (subst (λ (P : Path). Before tagged P (in_base Lit)) e b)

pub first_v : (V : Path) → Related tagged (in_base Lit) V → HasField tagged V v → IsSlot tagged V v (slot (in_base Lit) v)
first_v V r h = record {
  field = refl;
  first = record {
    holds = record { both = record { related = r; in_one = v_here; in_other = h }; same = λ d. no_diff _ d };
    first = λ Q o b. not_before Q (its_classes Q v o.both.related.one o.both.in_one) b;
  };
}

only_tag : (Q : Path) → IsLit Q → HasField tagged Q tag → Q ≡ in_disp Lit
only_tag Q (inl e) h = absurd (not_tagged (subst (λ (P : Path). HasField tagged P tag) e h))
only_tag Q (inr e) h = e

not_before_disp : (Q : Path) → Q ≡ in_disp Lit → Before tagged Q (in_disp Lit) → ⊥
not_before_disp Q e b = equal_less_too (subst (λ (P : Path). Before tagged P (in_disp Lit)) e b)

pub first_tag : (V : Path) → Related tagged (in_disp Lit) V → HasField tagged V tag → IsSlot tagged V tag (slot (in_disp Lit) tag)
first_tag V r h = record {
  field = refl;
  first = record {
    holds = record { both = record { related = r; in_one = tag_there; in_other = h }; same = λ d. no_diff _ d };
    first = λ Q o b. not_before_disp Q (only_tag Q (its_classes Q tag o.both.related.one o.both.in_one) o.both.in_one) b;
  };
}

abbrev pub slot_v : Slot
slot_v = slot (in_base Lit) v

abbrev pub slot_tag : Slot
slot_tag = slot (in_disp Lit) tag

abbrev tagged_slots : List Slot
tagged_slots = slot_v ∷ slot_tag ∷ []

pub base_itself : Related tagged (in_base Lit) (in_base Lit)
base_itself = itself_related lits_back

pub disp_itself : Related tagged (in_disp Lit) (in_disp Lit)
disp_itself = itself_related lits

of_v : (s : Slot) → slot_v ≡ s → SlotOfGroup tagged (in_base Lit) s
of_v s e = record { view = in_base Lit; related = base_itself; field = v; slot = subst (IsSlot tagged (in_base Lit) v) e (first_v (in_base Lit) base_itself v_here) }

of_tag : (s : Slot) → slot_tag ≡ s → SlotOfGroup tagged (in_base Lit) s
of_tag s e = record { view = in_disp Lit; related = lits_back; field = tag; slot = subst (IsSlot tagged (in_disp Lit) tag) e (first_tag (in_disp Lit) disp_itself tag_there) }

in_group : (s : Slot) → Contains tagged_slots s → SlotOfGroup tagged (in_base Lit) s
in_group s c = two_of (in_cons slot_v (slot_tag ∷ []) s c) where
  two_of : (slot_v ≡ s) ⊎ Contains (slot_tag ∷ []) s → SlotOfGroup tagged (in_base Lit) s
  two_of (inl e) = of_v s e
  two_of (inr d) = elim (in_cons slot_tag [] s d) [ inl e ↦ of_tag s e | inr n ↦ absurd (in_none s n) ]

same_one : (s t : Slot) → s.class ≡ t.class → s.field ≡ t.field → s ≡ t
same_one s t e f i = record { class = e i; field = f i }

disp_first : (V : Path) (Q : Path) → Q ≡ in_disp Lit → ((P : Path) → OneSlot tagged P V v → Before tagged P Q → ⊥) → OneSlot tagged (in_base Lit) V v → ⊥
disp_first V Q e h o = h (in_base Lit) o (subst (λ (P : Path). Before tagged (in_base Lit) P) (sym e) base_before)

of_base : (V : Path) → Related tagged (in_base Lit) V → HasField tagged V v → OneSlot tagged (in_base Lit) V v
of_base V r h = record { both = record { related = r; in_one = v_here; in_other = h }; same = λ d. no_diff _ d }

v_class : (V : Path) (s : Slot) → Related tagged (in_base Lit) V → IsSlot tagged V v s → IsLit s.class → s.class ≡ in_base Lit
v_class V s r x (inl e) = e
v_class V s r x (inr e) = absurd (disp_first V s.class e x.first.first (of_base V r x.first.holds.both.in_other))

found_v : (V : Path) (s : Slot) → Related tagged (in_base Lit) V → IsSlot tagged V v s → Contains tagged_slots s
found_v V s r x =
    let b = x.first.holds.both in
    subst (Contains tagged_slots) (same_one slot_v s (sym (v_class V s r x (its_classes s.class v b.related.one b.in_one))) (sym x.field)) (at_first slot_v (slot_tag ∷ []))

found_tag : (V : Path) (s : Slot) → IsSlot tagged V tag s → Contains tagged_slots s
found_tag V s x =
    let b = x.first.holds.both in
    subst (Contains tagged_slots) (same_one slot_tag s (sym (only_tag s.class (its_classes s.class tag b.related.one b.in_one) b.in_one)) (sym x.field))
    (behind slot_v (slot_tag ∷ []) slot_tag (at_first slot_tag []))

found_either : (V : Path) (f : Name) (s : Slot) → Related tagged (in_base Lit) V → IsSlot tagged V f s → (f ≡ v) ⊎ (f ≡ tag) → Contains tagged_slots s
found_either V f s r x (inl e) = found_v V s r (subst (λ (n : Name). IsSlot tagged V n s) e x)
found_either V f s r x (inr e) = found_tag V s (subst (λ (n : Name). IsSlot tagged V n s) e x)

in_list : (s : Slot) → SlotOfGroup tagged (in_base Lit) s → Contains tagged_slots s
in_list s x =
    let h = x.slot.first.holds.both.in_one in
    found_either x.view x.field s x.related x.slot (its_name h.at x.field h.declares.field h.declares.at)

apart_slots : (s : Slot) → Some slot_v ≡ Some s → Some slot_tag ≡ Some s → ⊥
apart_slots s e f = absurd (omega (arith, ap (λ (o : Option Slot). field_number o) (e ∙ sym f)))

no_third : (s : Slot) → ◌≡◌ {A = Option Slot} None (Some s) → ⊥
no_third s e = cc

each_once : (i j : ℕ) (s : Slot) → slice_get tagged_slots i ≡ Some s → slice_get tagged_slots j ≡ Some s → i ≡ j
each_once zero zero s e f = refl
each_once (suc zero) (suc zero) s e f = refl
each_once zero (suc zero) s e f = absurd (apart_slots s e f)
each_once (suc zero) zero s e f = absurd (apart_slots s f e)
each_once (suc (suc i)) j s e f = absurd (no_third s e)
each_once zero (suc (suc j)) s e f = absurd (no_third s f)
each_once (suc zero) (suc (suc j)) s e f = absurd (no_third s f)

pub base_size : IsSize tagged (in_base Lit) 3
base_size = record { class = lits.other; slots = tagged_slots; exact = λ s. (in_group s, in_list s); once = each_once; is = refl }

pub tagged_is : Tagged
tagged_is = record {
  related = lits_back;
  counterpart = record { is = refl; related = lits_back };
  back = record { is = refl; related = lits };
  v_of_base = first_v (in_base Lit) base_itself v_here;
  v_of_disp = first_v (in_disp Lit) lits_back v_there;
  tag_of_disp = first_tag (in_disp Lit) disp_itself tag_there;
  size = base_size;
}
