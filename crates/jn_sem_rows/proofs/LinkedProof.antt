-- One slot for a field whose type is its own class.
use Rattle.std.proofs.Common.{◌≡◌, ℕ, zero, suc, List, [], ◌∷◌, length, drop, Option, Some, None, Contains, true, refl, sym, ap, ◌∙◌, subst, ◌⊎◌, inl, inr, arith}
use Rattle.std.specs.Prelude.{Result, Ok, slice_get}
use Rattle.jn_reach.specs.Derived.{Derived, seed, rule}
use Rattle.jn_reach.specs.Equivalent as link
use Rattle.jn_base.specs.ClassOrder.{Before}
use Rattle.jn_base.specs.declared.tree.Name.{Name}
use Rattle.jn_base.specs.declared.tree.Decl.{Decl}
use Rattle.jn_base.specs.declared.tree.Member.{Member as Inside}
use Rattle.jn_base.specs.declared.tree.Field.{Field}
use Rattle.jn_base.specs.declared.tree.Kind.TheVariants as kind
use Rattle.jn_base.specs.declared.tree.Member.TheVariants.{outs-Inner, outs-Slot}
use Rattle.jn_base.specs.declared.types.Ty.{Ty}
use Rattle.jn_base.specs.declared.refusal.Refusal.{Refusal}
use Rattle.jn_base.specs.Paths.{Path, StandsAt, nested, fields}
use Rattle.jn_base.specs.Supers.{Sup, itself, Member}
use Rattle.jn_base.specs.Members.{FieldAt}
use Rattle.jn_base.specs.ExampleTrees.{declaration, class_in, word}
use Rattle.jn_base.specs.ResolveTypes.{mask_names}
use Rattle.jn_base.proofs.ResolveOnce.{type_once}
use Rattle.jn_base.proofs.NameTests.{in_cons, in_none, same_name, first as at_first}
use Rattle.jn_base.proofs.SuperLaws.{sup_inherited}
use Rattle.jn_base.proofs.ExampleTools.{at_inner, tops, inner_has, anything, is_class, inner_member, inner_class, inners, same}
use Rattle.jn_sem.specs.Sets.{InType}
use Rattle.jn_sem.specs.Values.{HasField}
use Rattle.jn_sem.specs.Sharing.{IsClass, Related}
use Rattle.jn_sem.specs.Slots.{MatchAt, Unmatched, BothHave, IsApart, only_other, only_one, MakesTwo, declared_apart, unmatched, unmatched_back, fields_apart, MakesTwoBy, Compared, this_viewed, Slot, IsSlot, SlotOfGroup, OneSlot}
use Rattle.jn_sem.specs.Terms.{FieldTypeIs}
use Rattle.jn_sem_rows.specs.SlotsExample.{base, disp, Lit, next, base_decl, disp_decl, in_base, in_disp, named_type, field_of, slot, linked, Linked}
use Rattle.jn_sem_rows.proofs.SlotTools.{above_base, the_related, back, in_namespace, is_flat, type_of_name, in_at, at_in, stands_in_base, one_name, bare, IsLit, field_place, which, with_field}

abbrev pub own : List Inside
own = class_in Lit [] (field_of Lit next ∷ []) ∷ []

pub has_lit : inner_has linked base Lit anything ≡ true
has_lit = simp (outs-Inner)

pub lit_class : inner_has linked base Lit is_class ≡ true
lit_class = simp (outs-Inner)

pub is_flat_here : inners is_flat linked ≡ true
is_flat_here = simp (outs-Inner, outs-Slot)

pub lits_only : inners one_name linked ≡ true
lits_only = simp (outs-Inner)

pub bare_tops : tops bare linked ≡ true
bare_tops = simp (outs-Inner)

in_base_only : inners (λ A d. same A base) linked ≡ true
in_base_only = simp (outs-Inner)

abbrev lit_decl : Decl
lit_decl = declaration kind.Class 1 Lit [] (field_of Lit next ∷ [])

abbrev pub field_next : Field
field_next = record { ty = named_type Lit; name = word next }

own_are : nested own ≡ lit_decl ∷ []
own_are = simp (outs-Inner)

lit_fields : fields lit_decl.members ≡ field_next ∷ []
lit_fields = simp (outs-Slot)

alone : {X : Type 0} (y x : X) → Contains (y ∷ []) x → y ≡ x
alone y x c = elim (in_cons y [] x c) [ inl e ↦ e | inr n ↦ absurd (in_none x n) ]

-- ---- what is declared

stands_is : (d : Decl) → StandsAt linked (in_base Lit) d → lit_decl ≡ d
stands_is d s = of_either s.0.0 (in_cons (base_decl own) (disp_decl [] ∷ []) s.0.0 s.0.1) s.0.2 s.0.3 where
  of_either : (e : Decl) → (base_decl own ≡ e) ⊎ Contains (disp_decl [] ∷ []) e → e.name.name ≡ base → Contains (nested e.members) d → lit_decl ≡ d
  of_either e (inl i) n c =
      alone lit_decl d (subst (λ (ds : List Decl). Contains ds d) own_are (subst (λ (f : Decl). Contains (nested f.members) d) (sym i) c))
  of_either e (inr k) n c =
      absurd (omega (arith, ap (λ (m : Name). m.0) (ap (λ (f : Decl). f.name.name) (alone (disp_decl []) e k) ∙ n)))

field_is : (f : Name) (x : Field) → FieldAt linked (in_base Lit) f x → field_next ≡ x
field_is f x h =
    let e = stands_is h.decl h.stands in
    alone field_next x (subst (λ (fs : List Field). Contains fs x) lit_fields (subst (λ (d : Decl). Contains (fields d.members) x) (sym e) h.has))

pub place : (R : Path) (f : Name) (x : Field) → FieldAt linked R f x → R ≡ in_base Lit
place R f x h =
    let at = field_place own [] is_flat_here lits_only bare_tops R f x h in
    let k = subst (λ (Q : Path). FieldAt linked Q f x) at.1 h in
    at.1 ∙ ap (λ (n : Name). Lit ∷ n ∷ []) (same_name at.0 base (at_inner linked (λ A d. same A base) in_base_only Lit at.0 k.decl k.stands))

pub next_at : FieldAt linked (in_base Lit) next field_next
next_at = record {
  decl = lit_decl;
  stands = stands_in_base own [] lit_decl (subst (λ (ds : List Decl). Contains ds lit_decl) (sym own_are) (at_first lit_decl []));
  has = subst (λ (fs : List Field). Contains fs field_next) (sym lit_fields) (at_first field_next []);
  name = refl;
}

lit_in_base : Member linked (base ∷ []) Lit
lit_in_base = inner_member linked base base Lit itself has_lit

pub next_type : (f : Name) → FieldTypeIs linked (in_base Lit) f (named_type Lit) (in_namespace Lit)
next_type f = type_of_name linked is_flat_here Lit Lit f lit_in_base (inner_class linked (in_base Lit) base Lit itself lit_class)

same_type : (a b : Ty) → ◌≡◌ {A = Result Ty Refusal} (Ok a) (Ok b) → a ≡ b
same_type a b e = cc

type_here : (f : Name) (x : Field) (t : Ty) → FieldAt linked (in_base Lit) f x → FieldTypeIs linked (in_base Lit) f x.ty t → t ≡ in_namespace Lit
type_here f x t h k =
    same_type t (in_namespace Lit) (type_once linked (mask_names linked) _ _ (named_type Lit) (Ok t) (Ok (in_namespace Lit))
    (subst (λ (y : Field). FieldTypeIs linked (in_base Lit) f y.ty t) (sym (field_is f x h)) k) (next_type f))

type_is : (Q : Path) (f : Name) (x : Field) (t : Ty) → FieldAt linked Q f x → FieldTypeIs linked Q f x.ty t → t ≡ in_namespace Lit
type_is Q f x t h k =
    let e = place Q f x h in
    type_here f x t (subst (λ (R : Path). FieldAt linked R f x) e h) (subst (λ (R : Path). FieldTypeIs linked R f x.ty t) e k)

-- ---- the two classes

pub lits : Related linked (in_disp Lit) (in_base Lit)
lits = the_related own [] Lit has_lit lit_class

pub lits_back : Related linked (in_base Lit) (in_disp Lit)
lits_back = back own [] lits

pub base_itself : Related linked (in_base Lit) (in_base Lit)
base_itself = record { one = lits.other; other = lits.other; linked = link.itself }

pub disp_itself : Related linked (in_disp Lit) (in_disp Lit)
disp_itself = record { one = lits.one; other = lits.one; linked = link.itself }

pub to_base : (W : Path) → IsLit W → Sup linked W (in_base Lit)
to_base W (inl e) = subst (λ (P : Path). Sup linked P (in_base Lit)) (sym e) itself
to_base W (inr e) = subst (λ (P : Path). Sup linked P (in_base Lit)) (sym e) (sup_inherited (above_base own []) lit_in_base)

-- what one has both have
have : (U W : Path) (g : Name) → IsLit W → HasField linked U g → HasField linked W g
have U W g w h = record {
  at = in_base Lit;
  declares = record { super = to_base W w; field = h.declares.field; at = subst (λ (R : Path). FieldAt linked R g h.declares.field) (place h.at g h.declares.field h.declares.at) h.declares.at };
}

next_of : (W : Path) → IsLit W → HasField linked W next
next_of W w = record { at = in_base Lit; declares = record { super = to_base W w; field = field_next; at = next_at } }

its_classes : (Q : Path) (f : Name) → IsClass linked Q → HasField linked Q f → IsLit Q
its_classes = with_field own [] is_flat_here lits_only bare_tops

two_names : (U : Path) (A : Name) → drop 1 U ≡ A ∷ [] → length U ≡ 2
two_names [] A e = absurd (omega (arith, ap length e))
two_names (C ∷ U) A e = ap (λ (P : Path). suc (length P)) e

under : (V U : Path) → IsLit V → drop 1 U ≡ drop 1 V → length U ≡ 2
under V U (inl i) e = two_names U base (e ∙ ap (λ (P : Path). drop 1 P) i)
under V U (inr i) e = two_names U disp (e ∙ ap (λ (P : Path). drop 1 P) i)

-- a class in the type of `next` is one of the two
in_type : (V U : Path) (t : Ty) → IsLit V → t ≡ in_namespace Lit → IsClass linked U → InType linked (this_viewed V) t U → IsLit U
in_type V U t w e c h =
    which own [] is_flat_here lits_only bare_tops U
    (under V U w (at_in linked Lit V U (subst (λ (u : Ty). InType linked (this_viewed V) u U) e h)).0) c.universe

-- and each is the counterpart of both in its own family
match_base : (U : Path) → IsLit U → MatchAt linked (in_base Lit) (in_namespace Lit) U (in_base Lit)
match_base U (inl e) = subst (λ (P : Path). MatchAt linked (in_base Lit) (in_namespace Lit) P (in_base Lit)) (sym e)
    (record { family = base; of_view = refl; counterpart = record { is = refl; related = base_itself }; is_in = in_at linked Lit (in_base Lit) (in_base Lit) refl itself })
match_base U (inr e) = subst (λ (P : Path). MatchAt linked (in_base Lit) (in_namespace Lit) P (in_base Lit)) (sym e)
    (record { family = base; of_view = refl; counterpart = record { is = refl; related = lits }; is_in = in_at linked Lit (in_base Lit) (in_base Lit) refl itself })

match_disp : (U : Path) → IsLit U → MatchAt linked (in_disp Lit) (in_namespace Lit) U (in_disp Lit)
match_disp U (inl e) = subst (λ (P : Path). MatchAt linked (in_disp Lit) (in_namespace Lit) P (in_disp Lit)) (sym e)
    (record { family = disp; of_view = refl; counterpart = record { is = refl; related = lits_back }; is_in = in_at linked Lit (in_disp Lit) (in_disp Lit) refl itself })
match_disp U (inr e) = subst (λ (P : Path). MatchAt linked (in_disp Lit) (in_namespace Lit) P (in_disp Lit)) (sym e)
    (record { family = disp; of_view = refl; counterpart = record { is = refl; related = disp_itself }; is_in = in_at linked Lit (in_disp Lit) (in_disp Lit) refl itself })

matched : (T U : Path) → IsLit T → IsLit U → MatchAt linked T (in_namespace Lit) U T
matched T U (inl e) u = subst (λ (P : Path). MatchAt linked P (in_namespace Lit) U P) (sym e) (match_base U u)
matched T U (inr e) u = subst (λ (P : Path). MatchAt linked P (in_namespace Lit) U P) (sym e) (match_disp U u)

none_unmatched : (V T : Path) (t : Ty) → IsLit V → IsLit T → t ≡ in_namespace Lit → Unmatched linked V T t → ⊥
none_unmatched V T t v w e u =
    u.none T (subst (λ (s : Ty). MatchAt linked T s u.class T) (sym e) (matched T u.class w (in_type V u.class t v e u.is_in.class u.is_in.is_in)))

not_apart : (U W : Path) (g : Name) → IsLit U → IsLit W → IsApart linked U W g → ⊥
not_apart U W g u w (only_one h n) = n (have U W g w h)
not_apart U W g u w (only_other h n) = n (have W U g u h)

one_of : {V T : Path} {f : Name} → BothHave linked V T f → IsLit V
one_of {V} {T} {f} b = its_classes V f b.related.one b.in_one

other_of : {V T : Path} {f : Name} → BothHave linked V T f → IsLit T
other_of {V} {T} {f} b = its_classes T f b.related.other b.in_other

never_two : (c : Compared) → MakesTwo linked c → ⊥
never_two c (declared_apart Q R b h k n) = n (place Q c.field h.field h.at ∙ sym (place R c.field k.field k.at))
never_two c (unmatched Q t h u) =
    none_unmatched c.one c.other t (one_of h.both) (other_of h.both) (type_is Q c.field h.field t h.at h.type) u
never_two c (unmatched_back Q t h u) =
    none_unmatched c.other c.one t (other_of h.both) (one_of h.both) (type_is Q c.field h.field t h.at h.type) u
never_two c (fields_apart Q t U W g h a m x) =
    let e = type_is Q c.field h.field t h.at h.type in
    not_apart U W g (in_type c.one U t (one_of h.both) e a.class a.is_in) (in_type c.other W t (other_of h.both) e m.counterpart.related.other m.is_in) x

no_diff : (c : Compared) → Derived (MakesTwo linked) (MakesTwoBy linked) c → ⊥
no_diff c (seed m) = never_two c m
no_diff c (rule d m) = no_diff _ d

-- ---- the slot

equal_less : Before linked (in_base Lit) (in_base Lit) → ⊥
equal_less e = cc

greater_less : Before linked (in_disp Lit) (in_base Lit) → ⊥
greater_less e = cc

base_before : Before linked (in_base Lit) (in_disp Lit)
base_before = refl

not_before : (Q : Path) → IsLit Q → Before linked Q (in_base Lit) → ⊥
not_before Q (inl e) b = equal_less (subst (λ (P : Path). Before linked P (in_base Lit)) e b)
not_before Q (inr e) b = greater_less (subst (λ (P : Path). Before linked P (in_base Lit)) e b)

one_slot : (V : Path) → Related linked (in_base Lit) V → IsLit V → OneSlot linked (in_base Lit) V next
one_slot V r w = record { both = record { related = r; in_one = next_of (in_base Lit) (inl refl); in_other = next_of V w }; same = λ d. no_diff _ d }

abbrev pub slot_next : Slot
slot_next = slot (in_base Lit) next

pub first_next : (V : Path) → Related linked (in_base Lit) V → IsLit V → IsSlot linked V next slot_next
first_next V r w = record {
  field = refl;
  first = record { holds = one_slot V r w; first = λ Q o b. not_before Q (one_of o.both) b };
}

same_slot : (s t : Slot) → s.class ≡ t.class → s.field ≡ t.field → s ≡ t
same_slot s t e f i = record { class = e i; field = f i }

class_is : (V : Path) (s : Slot) → Related linked (in_base Lit) V → IsLit V → IsSlot linked V next s → IsLit s.class → s.class ≡ in_base Lit
class_is V s r w x (inl e) = e
class_is V s r w x (inr e) = absurd (x.first.first (in_base Lit) (one_slot V r w) (subst (λ (P : Path). Before linked (in_base Lit) P) (sym e) base_before))

is_next : (R : Path) (f : Name) (x : Field) → FieldAt linked R f x → f ≡ next
is_next R f x h =
    sym h.name ∙ ap (λ (y : Field). y.name.name) (sym (field_is f x (subst (λ (Q : Path). FieldAt linked Q f x) (place R f x h) h)))

to_base_related : (V : Path) → IsLit V → Related linked (in_base Lit) V
to_base_related V (inl e) = subst (Related linked (in_base Lit)) (sym e) base_itself
to_base_related V (inr e) = subst (Related linked (in_base Lit)) (sym e) lits_back

in_list : (s : Slot) → SlotOfGroup linked (in_disp Lit) s → Contains (slot_next ∷ []) s
in_list s x =
    let h = x.slot.first.holds.both in
    let n = is_next h.in_one.at x.field h.in_one.declares.field h.in_one.declares.at in
    let w = other_of h in
    let y = subst (λ (f : Name). IsSlot linked x.view f s) n x.slot in
    subst (Contains (slot_next ∷ []))
    (same_slot slot_next s (sym (class_is x.view s (to_base_related x.view w) w y (one_of h))) (sym n ∙ sym x.slot.field))
    (at_first slot_next [])

no_second : (s : Slot) → ◌≡◌ {A = Option Slot} None (Some s) → ⊥
no_second s e = cc

each_once : (i j : ℕ) (s : Slot) → slice_get (slot_next ∷ []) i ≡ Some s → slice_get (slot_next ∷ []) j ≡ Some s → i ≡ j
each_once zero zero s e f = refl
each_once (suc i) j s e f = absurd (no_second s e)
each_once zero (suc j) s e f = absurd (no_second s f)

pub linked_is : Linked
linked_is = record {
  one_slot = one_slot (in_disp Lit) lits_back (inr refl);
  next_of_base = first_next (in_base Lit) base_itself (inl refl);
  next_of_disp = first_next (in_disp Lit) lits_back (inr refl);
  size = record {
    class = lits.one;
    slots = slot_next ∷ [];
    exact = λ s. (
      λ c. record { view = in_base Lit; related = lits; field = next; slot = subst (IsSlot linked (in_base Lit) next) (alone slot_next s c) (first_next (in_base Lit) base_itself (inl refl)) },
      in_list s,
    );
    once = each_once;
    is = refl;
  };
}
