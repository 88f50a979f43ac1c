-- A field that has two slots by those of another field alone.
use Rattle.std.proofs.Common.{◌≡◌, List, [], ◌∷◌, drop, length, Contains, true, false, nat_eq, refl, sym, ap, ◌∙◌, subst, ◌⊎◌, inl, inr, arith}
use Rattle.std.specs.Prelude.{Result, Ok}
use Rattle.jn_reach.specs.Derived.{seed, rule}
use Rattle.jn_base.specs.declared.tree.Name.{Name}
use Rattle.jn_base.specs.declared.tree.Decl.{Decl}
use Rattle.jn_base.specs.declared.tree.Field.{Field}
use Rattle.jn_base.specs.declared.tree.Kind.TheVariants as kind
use Rattle.jn_base.specs.declared.tree.Member.{Member as Inside}
use Rattle.jn_base.specs.declared.tree.Member.TheVariants.{outs-Inner, outs-Slot}
use Rattle.jn_base.specs.declared.tree.TypeTerm.TheVariants as type
use Rattle.jn_base.specs.declared.types.Ty.{Ty}
use Rattle.jn_base.specs.declared.refusal.Refusal.{Refusal}
use Rattle.jn_base.specs.Duplicates.{has_name, duplicates}
use Rattle.jn_base.specs.ExampleTrees.{declaration, class_in, field, word}
use Rattle.jn_base.specs.Paths.{Path, nested, fields}
use Rattle.jn_base.specs.Supers.{Sup, itself, Member}
use Rattle.jn_base.specs.Members.{FieldAt, FieldDecls}
use Rattle.jn_base.specs.ResolveTypes.{mask_names}
use Rattle.jn_base.proofs.NameTests.{in_cons, in_none, has_in, same_name, itself_named, implies, implied, first as at_first, later as behind}
use Rattle.jn_base.proofs.SuperLaws.{sup_joined, sup_inherited}
use Rattle.jn_base.proofs.ResolveOnce.{type_once}
use Rattle.jn_base.proofs.Unique.{decl_opened, member_opened, one_field_at}
use Rattle.jn_base.proofs.ExampleTools.{at_inner, inner_has, anything, is_class, inner_member, inner_class, inners, field_in, same, OneOf, one, sups_kept, has_only}
use Rattle.jn_base.proofs.VerdictTools.{TwoLevels, package_of, class_of, universe_of}
use Rattle.jn_sem.specs.Values.{HasField}
use Rattle.jn_sem.specs.Sharing.{IsClass, Related}
use Rattle.jn_sem.specs.Sets.{InType}
use Rattle.jn_sem.specs.Slots.{BothHang, ClassAt, MatchAt, IsApart, only_other, only_one, MakesTwo, declared_apart, unmatched, unmatched_back, fields_apart, compared, Diff, this_viewed}
use Rattle.jn_sem.specs.Terms.{FieldTypeIs}
use Rattle.jn_sem_rows.specs.SlotsExample.{base, disp, Exp, Add, Lit, l, r, tag, in_base, in_disp, named_type, field_of}
use Rattle.jn_sem_rows.specs.SlotRows.{deep_slots, DeepSlots}
use Rattle.jn_sem_rows.proofs.SlotTools.{above_base, the_related, back, in_namespace, is_flat, type_of_name, in_at, at_in, it_hangs, stands_in_base, stands_in_disp}

abbrev own : List Inside
own = class_in Exp [] [] ∷ class_in Lit [] (field_of Exp l ∷ []) ∷ class_in Add [] (field_of Lit r ∷ []) ∷ []

abbrev further : List Inside
further = class_in Exp [] (field tag ∷ []) ∷ []

-- ---- what is declared

abbrev exp_decl : Decl
exp_decl = declaration kind.Class 1 Exp [] []

abbrev lit_decl : Decl
lit_decl = declaration kind.Class 1 Lit [] (field_of Exp l ∷ [])

abbrev add_decl : Decl
add_decl = declaration kind.Class 1 Add [] (field_of Lit r ∷ [])

abbrev exp_with_tag : Decl
exp_with_tag = declaration kind.Class 1 Exp [] (field tag ∷ [])

abbrev field_l : Field
field_l = record { ty = named_type Exp; name = word l }

abbrev field_r : Field
field_r = record { ty = named_type Lit; name = word r }

abbrev field_tag : Field
field_tag = record { ty = type.Int; name = word tag }

own_are : nested own ≡ exp_decl ∷ lit_decl ∷ add_decl ∷ []
own_are = simp (outs-Inner)

further_are : nested further ≡ exp_with_tag ∷ []
further_are = simp (outs-Inner)

lit_fields : fields lit_decl.members ≡ field_l ∷ []
lit_fields = simp (outs-Slot)

add_fields : fields add_decl.members ≡ field_r ∷ []
add_fields = simp (outs-Slot)

tag_fields : fields exp_with_tag.members ≡ field_tag ∷ []
tag_fields = simp (outs-Slot)

its_field : (x : Field) (fs : List Field) → fs ≡ x ∷ [] → Contains fs x
its_field x fs e = subst (λ (gs : List Field). Contains gs x) (sym e) (at_first x [])

l_at : FieldAt deep_slots (in_base Lit) l field_l
l_at = record {
  decl = lit_decl;
  stands = stands_in_base own further lit_decl (subst (λ (ds : List Decl). Contains ds lit_decl) (sym own_are) (behind exp_decl (lit_decl ∷ add_decl ∷ []) lit_decl (at_first lit_decl (add_decl ∷ []))));
  has = its_field field_l (fields lit_decl.members) lit_fields;
  name = refl;
}

r_at : FieldAt deep_slots (in_base Add) r field_r
r_at = record {
  decl = add_decl;
  stands = stands_in_base own further add_decl (subst (λ (ds : List Decl). Contains ds add_decl) (sym own_are)
      (behind exp_decl (lit_decl ∷ add_decl ∷ []) add_decl (behind lit_decl (add_decl ∷ []) add_decl (at_first add_decl []))));
  has = its_field field_r (fields add_decl.members) add_fields;
  name = refl;
}

tag_at : FieldAt deep_slots (in_disp Exp) tag field_tag
tag_at = record {
  decl = exp_with_tag;
  stands = stands_in_disp own further exp_with_tag (subst (λ (ds : List Decl). Contains ds exp_with_tag) (sym further_are) (at_first exp_with_tag []));
  has = its_field field_tag (fields exp_with_tag.members) tag_fields;
  name = refl;
}

-- ---- the classes

abbrev Cs : List Name
Cs = Exp ∷ Lit ∷ Add ∷ []

abbrev As : List Name
As = base ∷ disp ∷ []

its_flat : inners is_flat deep_slots ≡ true
its_flat = simp (outs-Inner, outs-Slot)

up : Sup deep_slots (disp ∷ []) (base ∷ [])
up = above_base own further

has_exp : inner_has deep_slots base Exp anything ≡ true
has_exp = simp (outs-Inner)

exp_class : inner_has deep_slots base Exp is_class ≡ true
exp_class = simp (outs-Inner)

has_lit : inner_has deep_slots base Lit anything ≡ true
has_lit = simp (outs-Inner)

lit_class : inner_has deep_slots base Lit is_class ≡ true
lit_class = simp (outs-Inner)

has_add : inner_has deep_slots base Add anything ≡ true
has_add = simp (outs-Inner)

add_class : inner_has deep_slots base Add is_class ≡ true
add_class = simp (outs-Inner)

exps : Related deep_slots (in_disp Exp) (in_base Exp)
exps = the_related own further Exp has_exp exp_class

lits : Related deep_slots (in_disp Lit) (in_base Lit)
lits = the_related own further Lit has_lit lit_class

adds : Related deep_slots (in_disp Add) (in_base Add)
adds = the_related own further Add has_add add_class

member_of : (C : Name) → inner_has deep_slots base C anything ≡ true → Member deep_slots (base ∷ []) C
member_of C h = inner_member deep_slots base base C itself h

-- no class extends another one
lit_sups : (A : Name) → has_name As A ≡ true → (S : Path) → Sup deep_slots (Lit ∷ A ∷ []) S → OneOf (Lit ∷ []) As S
lit_sups A a S s = sups_kept deep_slots (Lit ∷ []) As refl (simp (outs-Inner)) Lit A refl a S s

exp_sups : (S : Path) → Sup deep_slots (in_base Exp) S → OneOf (Exp ∷ []) (base ∷ []) S
exp_sups S s = sups_kept deep_slots (Exp ∷ []) (base ∷ []) refl (simp (outs-Inner)) Exp base refl refl S s

-- ---- the fields of the classes

l_of_lit : FieldDecls deep_slots (in_base Lit) l (in_base Lit)
l_of_lit = record { super = itself; field = field_l; at = l_at }

l_of_heir : FieldDecls deep_slots (in_disp Lit) l (in_base Lit)
l_of_heir = record { super = sup_inherited up (member_of Lit has_lit); field = field_l; at = l_at }

r_of_add : FieldDecls deep_slots (in_base Add) r (in_base Add)
r_of_add = record { super = itself; field = field_r; at = r_at }

r_of_heir : FieldDecls deep_slots (in_disp Add) r (in_base Add)
r_of_heir = record { super = sup_inherited up (member_of Add has_add); field = field_r; at = r_at }

has_tag : HasField deep_slots (in_disp Exp) tag
has_tag = record { at = in_disp Exp; declares = record { super = itself; field = field_tag; at = tag_at } }

tag_in_disp : (C A : Name) (x : Field) → FieldAt deep_slots (C ∷ A ∷ []) tag x → same A disp ≡ true
tag_in_disp C A x h = field_in deep_slots tag (λ D B. same B disp) (simp (outs-Inner, outs-Slot)) C A x h

wrong : false ≡ true → ⊥
wrong e = cc

no_tag_in : (S : Path) (x : Field) → OneOf (Exp ∷ []) (base ∷ []) S → FieldAt deep_slots S tag x → ⊥
no_tag_in S x (one C A c a) h = apart A (has_only base A a) (tag_in_disp C A x h) where
  apart : (B : Name) → base ≡ B → same B disp ≡ true → ⊥
  apart B e k = wrong (subst (λ (D : Name). same D disp ≡ true) (sym e) k)

no_tag : HasField deep_slots (in_base Exp) tag → ⊥
no_tag h = no_tag_in h.at h.declares.field (exp_sups h.at h.declares.super) h.declares.at

-- ---- two slots

l_type : FieldTypeIs deep_slots (in_base Lit) l (named_type Exp) (in_namespace Exp)
l_type = type_of_name deep_slots its_flat Lit Exp l (member_of Exp has_exp) (inner_class deep_slots (in_base Exp) base Exp itself exp_class)

r_type : FieldTypeIs deep_slots (in_base Add) r (named_type Lit) (in_namespace Lit)
r_type = type_of_name deep_slots its_flat Add Lit r (member_of Lit has_lit) (inner_class deep_slots (in_base Lit) base Lit itself lit_class)

l_hangs : BothHang deep_slots (in_base Lit) (in_disp Lit) l (in_base Lit) (in_namespace Exp)
l_hangs = record {
  both = record {
    related = back own further lits;
    in_one = record { at = in_base Lit; declares = l_of_lit };
    in_other = record { at = in_base Lit; declares = l_of_heir };
  };
  at_one = l_of_lit;
  at_other = l_of_heir;
  field = field_l;
  at = l_at;
  type = l_type;
  hangs = it_hangs Exp;
}

l_hangs_back : BothHang deep_slots (in_disp Lit) (in_base Lit) l (in_base Lit) (in_namespace Exp)
l_hangs_back = record {
  both = record { related = lits; in_one = l_hangs.both.in_other; in_other = l_hangs.both.in_one };
  at_one = l_of_heir;
  at_other = l_of_lit;
  field = field_l;
  at = l_at;
  type = l_type;
  hangs = it_hangs Exp;
}

at_base : (C D : Name) → Related deep_slots (in_disp C) (in_base C) → ClassAt deep_slots (in_base D) (in_namespace C) (in_base C)
at_base C D k = record { class = k.other; is_in = in_at deep_slots C (in_base D) (in_base C) refl itself }

at_disp : (C D : Name) → Related deep_slots (in_disp C) (in_base C) → ClassAt deep_slots (in_disp D) (in_namespace C) (in_disp C)
at_disp C D k = record { class = k.one; is_in = in_at deep_slots C (in_disp D) (in_disp C) refl itself }

match_disp : (C D : Name) → Related deep_slots (in_disp C) (in_base C) → MatchAt deep_slots (in_disp D) (in_namespace C) (in_base C) (in_disp C)
match_disp C D k = record {
  family = disp;
  of_view = refl;
  counterpart = record { is = refl; related = back own further k };
  is_in = in_at deep_slots C (in_disp D) (in_disp C) refl itself;
}

match_base : (C D : Name) → Related deep_slots (in_disp C) (in_base C) → MatchAt deep_slots (in_base D) (in_namespace C) (in_disp C) (in_base C)
match_base C D k = record {
  family = base;
  of_view = refl;
  counterpart = record { is = refl; related = k };
  is_in = in_at deep_slots C (in_base D) (in_base C) refl itself;
}

l_two : Diff deep_slots (in_base Lit) (in_disp Lit) l
l_two = seed (fields_apart (in_base Lit) (in_namespace Exp) (in_base Exp) (in_disp Exp) tag l_hangs (at_base Exp Lit exps) (match_disp Exp Lit exps) (only_other has_tag no_tag))

l_two_back : Diff deep_slots (in_disp Lit) (in_base Lit) l
l_two_back = seed (fields_apart (in_base Lit) (in_namespace Exp) (in_disp Exp) (in_base Exp) tag l_hangs_back (at_disp Exp Lit exps) (match_base Exp Lit exps) (only_one has_tag no_tag))

r_hangs : BothHang deep_slots (in_base Add) (in_disp Add) r (in_base Add) (in_namespace Lit)
r_hangs = record {
  both = record {
    related = back own further adds;
    in_one = record { at = in_base Add; declares = r_of_add };
    in_other = record { at = in_base Add; declares = r_of_heir };
  };
  at_one = r_of_add;
  at_other = r_of_heir;
  field = field_r;
  at = r_at;
  type = r_type;
  hangs = it_hangs Lit;
}

r_hangs_back : BothHang deep_slots (in_disp Add) (in_base Add) r (in_base Add) (in_namespace Lit)
r_hangs_back = record {
  both = record { related = adds; in_one = r_hangs.both.in_other; in_other = r_hangs.both.in_one };
  at_one = r_of_heir;
  at_other = r_of_add;
  field = field_r;
  at = r_at;
  type = r_type;
  hangs = it_hangs Lit;
}

r_two : Diff deep_slots (in_base Add) (in_disp Add) r
r_two = rule l_two (record {
  declared = in_base Add;
  ty = in_namespace Lit;
  hangs = r_hangs;
  is_in = at_base Lit Add lits;
  counterpart = match_disp Lit Add lits;
  both = l_hangs.both;
})

r_two_back : Diff deep_slots (in_disp Add) (in_base Add) r
r_two_back = rule l_two_back (record {
  declared = in_base Add;
  ty = in_namespace Lit;
  hangs = r_hangs_back;
  is_in = at_disp Lit Add lits;
  counterpart = match_base Lit Add lits;
  both = l_hangs_back.both;
})

-- ---- and by l alone

once : duplicates deep_slots ≡ []
once = simp (decl_opened, member_opened, outs-Inner, outs-Slot)

add_sups : (A : Name) → has_name As A ≡ true → (S : Path) → Sup deep_slots (Add ∷ A ∷ []) S → OneOf (Add ∷ []) As S
add_sups A a S s = sups_kept deep_slots (Add ∷ []) As refl (simp (outs-Inner)) Add A refl a S s

all_exp_sups : (A : Name) → has_name As A ≡ true → (S : Path) → Sup deep_slots (Exp ∷ A ∷ []) S → OneOf (Exp ∷ []) As S
all_exp_sups A a S s = sups_kept deep_slots (Exp ∷ []) As refl (simp (outs-Inner)) Exp A refl a S s

-- r is declared in base.Add alone
r_in_add : (C A : Name) (x : Field) → FieldAt deep_slots (C ∷ A ∷ []) r x → same C Add ≡ true
r_in_add C A x h = field_in deep_slots r (λ D B. same D Add) (simp (outs-Inner, outs-Slot)) C A x h

r_in_base : (C A : Name) (x : Field) → FieldAt deep_slots (C ∷ A ∷ []) r x → same A base ≡ true
r_in_base C A x h = field_in deep_slots r (λ D B. same B base) (simp (outs-Inner, outs-Slot)) C A x h

r_place : (S : Path) (x : Field) → OneOf (Add ∷ []) As S → FieldAt deep_slots S r x → S ≡ in_base Add
r_place S x (one C A c a) h =
    ap (λ (n : Name). n ∷ A ∷ []) (same_name C Add (r_in_add C A x h)) ∙ ap (λ (n : Name). Add ∷ n ∷ []) (same_name A base (r_in_base C A x h))

placed_base : (Q : Path) → FieldDecls deep_slots (in_base Add) r Q → Q ≡ in_base Add
placed_base Q d = r_place Q d.field (add_sups base refl Q d.super) d.at

placed_disp : (Q : Path) → FieldDecls deep_slots (in_disp Add) r Q → Q ≡ in_base Add
placed_disp Q d = r_place Q d.field (add_sups disp refl Q d.super) d.at

same_type : (a b : Ty) → ◌≡◌ {A = Result Ty Refusal} (Ok a) (Ok b) → a ≡ b
same_type a b e = cc

type_here : (x : Field) (t : Ty) → FieldAt deep_slots (in_base Add) r x → FieldTypeIs deep_slots (in_base Add) r x.ty t → t ≡ in_namespace Lit
type_here x t h k =
    same_type t (in_namespace Lit) (type_once deep_slots (mask_names deep_slots) _ _ (named_type Lit) (Ok t) (Ok (in_namespace Lit))
    (subst (λ (y : Field). FieldTypeIs deep_slots (in_base Add) r y.ty t) (one_field_at deep_slots once (in_base Add) r x field_r h r_at) k) r_type)

type_is : (Q : Path) (t : Ty) → BothHang deep_slots (in_base Add) (in_disp Add) r Q t → t ≡ in_namespace Lit
type_is Q t h =
    let e = placed_base Q h.at_one in
    type_here h.field t (subst (λ (R : Path). FieldAt deep_slots R r h.field) e h.at) (subst (λ (R : Path). FieldTypeIs deep_slots R r h.field.ty t) e h.type)

-- the one class in the type `Lit` of a family is its Lit
alone_in : (E A : Name) → OneOf (E ∷ []) As (Lit ∷ A ∷ []) → E ≡ Lit
alone_in E A o = at o refl where
  at : {S : Path} → OneOf (E ∷ []) As S → S ≡ Lit ∷ A ∷ [] → E ≡ Lit
  at (one C B c b) e = has_only E C c ∙ first_name e where
    first_name : C ∷ B ∷ [] ≡ Lit ∷ A ∷ [] → C ≡ Lit
    first_name i = cc

not_exp : Exp ≡ Lit → ⊥
not_exp e = absurd (omega (arith, ap (λ (n : Name). n.0) e))

not_add : Add ≡ Lit → ⊥
not_add e = absurd (omega (arith, ap (λ (n : Name). n.0) e))

which_class : (C A : Name) → has_name As A ≡ true → Contains Cs C → Sup deep_slots (C ∷ A ∷ []) (Lit ∷ A ∷ []) → Lit ≡ C
which_class C A a c s = first_of (in_cons Exp (Lit ∷ Add ∷ []) C c) where
  last_of : (Add ≡ C) ⊎ Contains [] C → Lit ≡ C
  last_of (inl e) = absurd (not_add (alone_in Add A (add_sups A a (Lit ∷ A ∷ []) (subst (λ (n : Name). Sup deep_slots (n ∷ A ∷ []) (Lit ∷ A ∷ [])) (sym e) s))))
  last_of (inr n) = absurd (in_none C n)

  next_of : (Lit ≡ C) ⊎ Contains (Add ∷ []) C → Lit ≡ C
  next_of (inl e) = e
  next_of (inr d) = last_of (in_cons Add [] C d)

  first_of : (Exp ≡ C) ⊎ Contains (Lit ∷ Add ∷ []) C → Lit ≡ C
  first_of (inl e) = absurd (not_exp (alone_in Exp A (all_exp_sups A a (Lit ∷ A ∷ []) (subst (λ (n : Name). Sup deep_slots (n ∷ A ∷ []) (Lit ∷ A ∷ [])) (sym e) s))))
  first_of (inr d) = next_of (in_cons Lit (Add ∷ []) C d)

one_name : (A B : Name) → A ∷ [] ≡ B ∷ [] → A ≡ B
one_name A B e = cc

lit_of : (B : Name) → has_name As B ≡ true → (U : Path) → TwoLevels Cs As U → drop 1 U ≡ B ∷ [] → Sup deep_slots U (Lit ∷ B ∷ []) → U ≡ Lit ∷ B ∷ []
lit_of B b U (package_of A a) e s = absurd (omega (arith, ap length e))
lit_of B b U (class_of C A c a) e s =
    let i = one_name A B e in
    let k = which_class C B b (has_in Cs C c) (subst (λ (n : Name). Sup deep_slots (C ∷ n ∷ []) (Lit ∷ B ∷ [])) i s) in
    ap (λ (n : Name). n ∷ A ∷ []) (sym k) ∙ ap (λ (n : Name). Lit ∷ n ∷ []) i

levels : (Q : Path) → IsClass deep_slots Q → TwoLevels Cs As Q
levels Q c = universe_of deep_slots Cs As refl (simp (outs-Inner, outs-Slot)) Q c.universe

in_type : (B : Name) → has_name As B ≡ true → (U : Path) (t : Ty) → t ≡ in_namespace Lit → IsClass deep_slots U → InType deep_slots (this_viewed (Add ∷ B ∷ [])) t U → U ≡ Lit ∷ B ∷ []
in_type B b U t e c h =
    let i = at_in deep_slots Lit (Add ∷ B ∷ []) U (subst (λ (u : Ty). InType deep_slots (this_viewed (Add ∷ B ∷ [])) u U) e h) in
    lit_of B b U (levels U c) i.0 i.1

-- both Lits have the same fields
lit_above : Sup deep_slots (in_disp Lit) (in_base Lit)
lit_above = sup_inherited up (member_of Lit has_lit)

lits_in_base : inners (λ A d. implies (same d.name.name Lit) (same A base)) deep_slots ≡ true
lits_in_base = simp (outs-Inner)

field_of_base : (S : Path) (g : Name) (x : Field) → OneOf (Lit ∷ []) As S → FieldAt deep_slots S g x → S ≡ in_base Lit
field_of_base S g x (one C A c a) h =
    let e = has_only Lit C c in
    let k = at_inner deep_slots (λ B d. implies (same d.name.name Lit) (same B base)) lits_in_base C A h.decl h.stands in
    let n = implied (same h.decl.name.name Lit) (same A base) k (subst (λ (m : Name). nat_eq m.0 Lit.0 ≡ true) (e ∙ sym h.stands.1) (itself_named Lit)) in
    ap (λ (m : Name). m ∷ A ∷ []) (sym e) ∙ ap (λ (m : Name). Lit ∷ m ∷ []) (same_name A base n)

have : (g : Name) → HasField deep_slots (in_base Lit) g → HasField deep_slots (in_disp Lit) g
have g h = record { at = h.at; declares = record { super = sup_joined lit_above h.declares.super; field = h.declares.field; at = h.declares.at } }

have_back : (g : Name) → HasField deep_slots (in_disp Lit) g → HasField deep_slots (in_base Lit) g
have_back g h = record {
  at = in_base Lit;
  declares = record {
    super = itself;
    field = h.declares.field;
    at = subst (λ (S : Path). FieldAt deep_slots S g h.declares.field) (field_of_base h.at g h.declares.field (lit_sups disp refl h.at h.declares.super) h.declares.at) h.declares.at;
  };
}

not_apart : (U W : Path) (g : Name) → U ≡ in_base Lit → W ≡ in_disp Lit → IsApart deep_slots U W g → ⊥
not_apart U W g u w (only_one h n) =
    n (subst (λ (P : Path). HasField deep_slots P g) (sym w) (have g (subst (λ (P : Path). HasField deep_slots P g) u h)))
not_apart U W g u w (only_other h n) =
    n (subst (λ (P : Path). HasField deep_slots P g) (sym u) (have_back g (subst (λ (P : Path). HasField deep_slots P g) w h)))

never_alone : MakesTwo deep_slots (compared (in_base Add) (in_disp Add) r) → ⊥
never_alone (declared_apart Q R b h k n) = n (placed_base Q h ∙ sym (placed_disp R k))
never_alone (unmatched Q t h u) =
    let e = type_is Q t h in
    u.none (in_disp Lit) (subst (λ (s : Ty). MatchAt deep_slots (in_disp Add) s u.class (in_disp Lit)) (sym e)
    (subst (λ (U : Path). MatchAt deep_slots (in_disp Add) (in_namespace Lit) U (in_disp Lit)) (sym (in_type base refl u.class t e u.is_in.class u.is_in.is_in)) (match_disp Lit Add lits)))
never_alone (unmatched_back Q t h u) =
    let e = type_is Q t h in
    u.none (in_base Lit) (subst (λ (s : Ty). MatchAt deep_slots (in_base Add) s u.class (in_base Lit)) (sym e)
    (subst (λ (U : Path). MatchAt deep_slots (in_base Add) (in_namespace Lit) U (in_base Lit)) (sym (in_type disp refl u.class t e u.is_in.class u.is_in.is_in)) (match_base Lit Add lits)))
never_alone (fields_apart Q t U W g h a m x) =
    let e = type_is Q t h in
    not_apart U W g (in_type base refl U t e a.class a.is_in) (in_type disp refl W t e m.counterpart.related.other m.is_in) x

pub deep_slots_are : DeepSlots
deep_slots_are = record { l_of_lit = l_two; r_of_add = r_two; r_back = r_two_back; alone = never_alone }
