-- A constraint that fails, and what refutes it.
use Rattle.std.proofs.Common.{◌≡◌, ℕ, zero, suc, List, [], ◌∷◌, length, drop, Option, Some, None, Contains, Bool, true, false, nat_eq, refl, sym, ap, ◌∙◌, subst, ◌⊎◌, inl, inr, arith}
use Rattle.std.specs.Prelude.{slice_get}
use Rattle.std.specs.List.{list_all}
use Rattle.std.specs.declared.cmp.Ordering.TheVariants.{Less}
use Rattle.jn_reach.specs.Equivalent as link
use Rattle.jn_base.specs.ClassOrder.{Before, IsFirst, name_cmp}
use Rattle.jn_base.specs.Duplicates.{has_name}
use Rattle.jn_base.specs.declared.tree.Name.{Name}
use Rattle.jn_base.specs.declared.tree.Field.{Field}
use Rattle.jn_base.specs.declared.tree.Member.TheVariants.{outs-Inner, outs-Slot}
use Rattle.jn_base.specs.Paths.{Path, fields}
use Rattle.jn_base.specs.Supers.{Sup, itself}
use Rattle.jn_base.specs.Members.{FieldAt}
use Rattle.jn_base.specs.Atoms.{Atom, atom, Among, first, later}
use Rattle.jn_base.specs.declared.types.Anchor.TheVariants.{Root}
use Rattle.jn_base.proofs.NameTests.{in_cons, in_none, has_in, passes}
use Rattle.jn_base.proofs.SuperLaws.{member_heir}
use Rattle.jn_base.proofs.ExampleTools.{at_inner, inners, inner_above, field_in, same, OneOf, one, sups_kept, top_sup, at_top}
use Rattle.jn_base.proofs.VerdictTools.{TwoLevels, package_of, class_of, universe_of}
use Rattle.jn_sem.specs.Sets.{no_views, InAtom, InAtoms}
use Rattle.jn_sem.specs.Values.{HasField}
use Rattle.jn_sem.specs.Sharing.{IsClass, in_family}
use Rattle.jn_sem.specs.Slots.{Slot, IsSlot, OneSlot}
use Rattle.jn_sem.specs.Holds.{Turns, Passes, masked, same_slot, IsGranted, Fails, unshared}
use Rattle.jn_sem_rows.specs.SlotsExample.{base, disp, Exp, Add, l, r, tag, in_base, in_disp, two_slots, to_disp, Refuted}
use Rattle.jn_sem_rows.proofs.SlotTools.{bare}
use Rattle.jn_sem_rows.proofs.SlotsProof.{two, adds, up, exp_in_base, l_of_heir}

abbrev Cs : List Name
Cs = Exp ∷ Add ∷ []

abbrev As : List Name
As = base ∷ disp ∷ []

levels : (Q : Path) → IsClass two_slots Q → TwoLevels Cs As Q
levels Q c = universe_of two_slots Cs As refl (simp (outs-Inner, outs-Slot)) Q c.universe

wrong : false ≡ true → ⊥
wrong e = cc

of_two : (x y z : Name) → Contains (x ∷ y ∷ []) z → (x ≡ z) ⊎ (y ≡ z)
of_two x y z c = elim (in_cons x (y ∷ []) z c) [ inl e ↦ inl e | inr d ↦ elim (in_cons y [] z d) [ inl e ↦ inr e | inr n ↦ absurd (in_none z n) ] ]

-- ---- the classes that have l

l_in_add : (C A : Name) (x : Field) → FieldAt two_slots (C ∷ A ∷ []) l x → same C Add ≡ true
l_in_add C A x h = field_in two_slots l (λ D B. same D Add) (simp (outs-Inner, outs-Slot)) C A x h

exp_kept : (A : Name) → has_name As A ≡ true → (S : Path) → Sup two_slots (Exp ∷ A ∷ []) S → OneOf (Exp ∷ []) As S
exp_kept A a S s = sups_kept two_slots (Exp ∷ []) As refl (simp (outs-Inner)) Exp A refl a S s

no_l_in_exp : (S : Path) (x : Field) → OneOf (Exp ∷ []) As S → FieldAt two_slots S l x → ⊥
no_l_in_exp S x (one C A c a) h = apart C (has_in (Exp ∷ []) C c) (l_in_add C A x h) where
  apart : (D : Name) → Contains (Exp ∷ []) D → same D Add ≡ true → ⊥
  apart D d e = elim (in_cons Exp [] D d) [ inl i ↦ wrong (subst (λ (n : Name). same n Add ≡ true) (sym i) e) | inr n ↦ in_none D n ]

no_l_at_top : (A : Name) → HasField two_slots (A ∷ []) l → ⊥
no_l_at_top A h =
    let b = top_sup two_slots A h.at h.declares.super in
    let x = subst (λ (S : Path). FieldAt two_slots S l h.declares.field) b.1 h.declares.at in
    none_there (fields x.decl.members) h.declares.field (at_top two_slots bare (simp (outs-Inner)) b.0 x.decl x.stands) x.has where
      none_there : (fs : List Field) (y : Field) → nat_eq (length fs) 0 ≡ true → Contains fs y → ⊥
      none_there [] y e c = in_none y c
      none_there (z ∷ fs) y e c = absurd (omega (arith, nought (length (z ∷ fs)) e)) where
        nought : (n : ℕ) → nat_eq n 0 ≡ true → n ≡ 0
        nought n i = grind arith

abbrev IsAdd : Path → Type 0
IsAdd Q = (Q ≡ in_base Add) ⊎ (Q ≡ in_disp Add)

named : (C A : Name) → Add ≡ C → (base ≡ A) ⊎ (disp ≡ A) → IsAdd (C ∷ A ∷ [])
named C A e (inl i) = inl (so e i) where
  so : Add ≡ C → base ≡ A → C ∷ A ∷ [] ≡ in_base Add
  so e i = cc
named C A e (inr i) = inr (so e i) where
  so : Add ≡ C → disp ≡ A → C ∷ A ∷ [] ≡ in_disp Add
  so e i = cc

with_l : (Q : Path) → TwoLevels Cs As Q → HasField two_slots Q l → IsAdd Q
with_l Q (package_of A a) h = absurd (no_l_at_top A h)
with_l Q (class_of C A c a) h = either C (of_two Exp Add C (has_in Cs C c)) h where
  either : (D : Name) → (Exp ≡ D) ⊎ (Add ≡ D) → HasField two_slots (D ∷ A ∷ []) l → IsAdd (D ∷ A ∷ [])
  either D (inl e) k =
      absurd (no_l_in_exp k.at k.declares.field (exp_kept A a k.at (subst (λ (n : Name). Sup two_slots (n ∷ A ∷ []) k.at) (sym e) k.declares.super)) k.declares.at)
  either D (inr e) k = named D A e (of_two base disp A (has_in As A a))

-- so the two have no slot for l in common
no_common : (s : Slot) → IsSlot two_slots (in_base Add) l s → IsSlot two_slots (in_disp Add) l s → ⊥
no_common s x y =
    let b = x.first.holds.both in
    by_class s.class refl (with_l s.class (levels s.class b.related.one) b.in_one) where
      by_class : (Q : Path) → s.class ≡ Q → IsAdd Q → ⊥
      by_class Q e (inl i) = (subst (λ (P : Path). OneSlot two_slots P (in_disp Add) l) (e ∙ i) y.first.holds).same two.l_of_base
      by_class Q e (inr i) = (subst (λ (P : Path). OneSlot two_slots P (in_base Add) l) (e ∙ i) x.first.holds).same two.l_of_disp

-- ---- base.Add fails

abbrev exps_of : Name → Atom
exps_of A = atom Root (A ∷ []) (Exp ∷ [])

base_adds : Sup two_slots (in_base Add) (in_base Exp)
base_adds = inner_above two_slots base base Add Exp itself (simp (outs-Inner)) exp_in_base

disp_adds : Sup two_slots (in_disp Add) (in_disp Exp)
disp_adds = inner_above two_slots disp base Add Exp up (simp (outs-Inner)) (member_heir up exp_in_base)

in_from : InAtoms two_slots no_views to_disp.from (in_base Add)
in_from x m = at x m where
  at : (y : Atom) → Among (exps_of base ∷ []) y → InAtom two_slots no_views y (in_base Add)
  at y first = record { seen = tt; inside = record { exact = refl; super = base_adds } }
  at y (later n) = elim n [ ]

turns : Turns two_slots to_disp (in_base Add) (in_disp Add)
turns = record {
  family = disp;
  of_target = refl;
  counterpart = record { is = refl; related = record { one = adds.other; other = adds.one; linked = link.turned adds.linked } };
  is_in = record { seen = tt; inside = record { exact = refl; super = disp_adds } };
}

has_l : HasField two_slots (in_disp Add) l
has_l = record { at = in_base Add; declares = l_of_heir }

some_name : (x y : Name) → Some x ≡ Some y → x ≡ y
some_name x y e = cc

not_masked : (i : ℕ) → slice_get (tag ∷ []) i ≡ Some l → ⊥
not_masked zero e = absurd (omega (arith, ap (λ (n : Name). n.0) (some_name tag l e)))
not_masked (suc i) e = none_name l e where
  none_name : (x : Name) → ◌≡◌ {A = Option Name} None (Some x) → ⊥
  none_name x f = cc

not_passed : Passes two_slots to_disp (in_base Add) (in_disp Add) l → ⊥
not_passed (masked m) = not_masked m.number m.name
not_passed (same_slot s h x y n) = no_common s x y

the_counterpart : (W : Path) → Turns two_slots to_disp (in_base Add) W → in_disp Add ≡ W
the_counterpart W t =
    ap (λ (Y : Name). in_family Y (in_base Add)) (some_name disp t.family t.of_target) ∙ sym t.counterpart.is

not_granted : IsGranted two_slots to_disp (in_base Add) → ⊥
not_granted g =
    let e = the_counterpart g.view g.turns in
    not_passed (subst (λ (W : Path). Passes two_slots to_disp (in_base Add) W l) (sym e)
    (g.fields l (subst (λ (W : Path). HasField two_slots W l) e has_l)))

the_first_fails : Fails two_slots to_disp (in_base Add)
the_first_fails = record { class = adds.other; is_in = in_from; refused = not_granted }

-- ---- no class before it does

exp_not_before : Before two_slots (in_base Exp) (in_base Add) → ⊥
exp_not_before e = cc

add_not_before : Before two_slots (in_base Add) (in_base Add) → ⊥
add_not_before e = cc

one_name : (A B : Name) → A ∷ [] ≡ B ∷ [] → A ≡ B
one_name A B e = cc

not_before : (Q : Path) → TwoLevels Cs As Q → drop 1 Q ≡ base ∷ [] → Before two_slots Q (in_base Add) → ⊥
not_before Q (package_of A a) e b = absurd (omega (arith, ap length e))
not_before Q (class_of C A c a) e b =
    by_name C (of_two Exp Add C (has_in Cs C c)) (subst (λ (n : Name). Before two_slots (C ∷ n ∷ []) (in_base Add)) (one_name A base e) b) where
      by_name : (D : Name) → (Exp ≡ D) ⊎ (Add ≡ D) → Before two_slots (D ∷ base ∷ []) (in_base Add) → ⊥
      by_name D (inl i) k = exp_not_before (subst (λ (n : Name). Before two_slots (n ∷ base ∷ []) (in_base Add)) (sym i) k)
      by_name D (inr i) k = add_not_before (subst (λ (n : Name). Before two_slots (n ∷ base ∷ []) (in_base Add)) (sym i) k)

first_failing : IsFirst two_slots (Fails two_slots to_disp) (in_base Add)
first_failing = record {
  holds = the_first_fails;
  first = λ Q f b. not_before Q (levels Q f.class) (f.is_in (exps_of base) first).inside.exact b;
}

-- ---- and l is the first field

abbrev names : List Name
names = l ∷ r ∷ tag ∷ []

abbrev is_one : Field → Bool
is_one x = has_name names x.name.name

all_named : inners (λ A d. list_all is_one (fields d.members)) two_slots ≡ true
all_named = simp (outs-Inner, outs-Slot)

add_kept : (S : Path) → Sup two_slots (in_disp Add) S → OneOf Cs As S
add_kept S s = sups_kept two_slots Cs As refl (simp (outs-Inner)) Add disp refl refl S s

its_name : (S : Path) (g : Name) (x : Field) → OneOf Cs As S → FieldAt two_slots S g x → Contains names g
its_name S g x (one C A c a) h =
    has_in names g (subst (λ (n : Name). has_name names n ≡ true) h.name
    (passes is_one (fields h.decl.members) x (at_inner two_slots (λ B d. list_all is_one (fields d.members)) all_named C A h.decl h.stands) h.has))

l_not_below : name_cmp two_slots l l ≡ Less → ⊥
l_not_below e = cc

r_not_below : name_cmp two_slots r l ≡ Less → ⊥
r_not_below e = cc

tag_not_below : name_cmp two_slots tag l ≡ Less → ⊥
tag_not_below e = cc

none_below : (g : Name) → Contains names g → name_cmp two_slots g l ≡ Less → ⊥
none_below g c e = at (in_cons l (r ∷ tag ∷ []) g c) where
  late : (r ≡ g) ⊎ (tag ≡ g) → ⊥
  late (inl i) = r_not_below (subst (λ (n : Name). name_cmp two_slots n l ≡ Less) (sym i) e)
  late (inr i) = tag_not_below (subst (λ (n : Name). name_cmp two_slots n l ≡ Less) (sym i) e)

  at : (l ≡ g) ⊎ Contains (r ∷ tag ∷ []) g → ⊥
  at (inl i) = l_not_below (subst (λ (n : Name). name_cmp two_slots n l ≡ Less) (sym i) e)
  at (inr d) = late (of_two r tag g d)

pub refuted : Refuted
refuted = record {
  fails = the_first_fails;
  refuted = unshared (in_base Add) (in_disp Add) l first_failing turns
      (record {
        holds = record { has = has_l; refused = not_passed };
        first = λ g b e. none_below g (its_name b.has.at g b.has.declares.field (add_kept b.has.at b.has.declares.super) b.has.declares.at) e;
      })
      refl refl;
}
