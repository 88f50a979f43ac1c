-- What is found in the families of one class where each has a field of its own.
use Rattle.std.proofs.Common.{◌≡◌, ◌<◌, ℕ, zero, suc, List, [], ◌∷◌, length, drop, None, Contains, Bool, true, nat_eq, refl, sym, subst, inl, inr, arith}
use Rattle.std.specs.Prelude.{pos, Ok, ◌↔◌}
use Rattle.std.specs.List.Sorted.{IsStrictlySortedBy}
use Rattle.jn_reach.specs.Each.{none, more}
use Rattle.jn_reach.specs.Equivalent as link
use Rattle.jn_base.specs.declared.tree.Name.{Name}
use Rattle.jn_base.specs.declared.tree.Decl.{Decl}
use Rattle.jn_base.specs.declared.tree.Method.{Method}
use Rattle.jn_base.specs.declared.tree.Member.TheVariants.{outs-Inner, outs-Slot}
use Rattle.jn_base.specs.declared.types.Ty.TheVariants as ty
use Rattle.jn_base.specs.declared.types.Anchor.TheVariants.{Up}
use Rattle.jn_base.specs.Duplicates.{has_name}
use Rattle.jn_base.specs.Paths.{Path, methods}
use Rattle.jn_base.specs.Supers.{Sup, itself, Member}
use Rattle.jn_base.specs.Members.{MethodAt}
use Rattle.jn_base.specs.Atoms.{Atom, atom, shown_atom}
use Rattle.jn_base.specs.Resolve.{found as found_at, in_class}
use Rattle.jn_base.proofs.Unique.{decl_opened, member_opened}
use Rattle.jn_base.proofs.NameTests.{in_cons, in_none, first as at_first, later as behind}
use Rattle.jn_base.proofs.ExampleTools.{inners, at_inner, inner_member, OneOf, one, sups_kept}
use Rattle.jn_sem.specs.Asks.{Only}
use Rattle.jn_sem.specs.Values.{Value, HasField, Number}
use Rattle.jn_sem.specs.Sharing.{Related}
use Rattle.jn_sem.specs.Acts.{Todo}
use Rattle.jn_sem.specs.Slots.{FieldType, IsSlot, IsSize}
use Rattle.jn_sem.specs.State.{Stored}
use Rattle.jn_sem.specs.Does.{Body, IsConstructorBody, AreFresh, IsFresh, IsNewClass}
use Rattle.jn_sem.proofs.FindingLaws.{finds_one}
use Rattle.jn_sem_rows.specs.SlotsExample.{base, Lit, v, tag, in_base, in_disp, tagged}
use Rattle.jn_sem_rows.specs.Views.{working, lit_term}
use Rattle.jn_sem_rows.proofs.SlotTools.{none_of, no_member}
use Rattle.jn_sem_rows.proofs.SlotsProof.{tagged_own, tagged_further, tagged_flat, tagged_lits, tagged_bare, has_lit, lits, lits_back, base_itself, disp_itself, field_v, field_tag, v_at, its_tag_at, lit_above, v_here, v_there, tag_there, is_v, is_tag, its_name, not_tagged, slot_v, slot_tag, first_v, first_tag, base_size}
use Rattle.jn_sem_rows.proofs.LitFamilies.{Lits, Families, IsTested, found_once}

tested : IsTested tagged_own tagged_further
tested = record {
  flat = tagged_flat;
  lits = tagged_lits;
  bare_tops = tagged_bare;
  plain = simp (outs-Inner, outs-Slot);
  keeps = simp (outs-Inner);
  written = simp (outs-Inner);
  classes = simp (outs-Inner);
  known = simp (outs-Inner);
  once = simp (decl_opened, member_opened, outs-Inner, outs-Slot);
}

-- ---- fields

v_type : (V : Path) → Sup tagged V (in_base Lit) → FieldType tagged V v ty.Int
v_type V s = record {
  class = in_base Lit;
  is_field = record { declares = record { super = s; field = field_v; at = v_at }; only = λ S d. is_v S d.field d.at };
  field = field_v;
  at = v_at;
  type = refl;
}

tag_type : FieldType tagged (in_disp Lit) tag ty.Int
tag_type = record {
  class = in_disp Lit;
  is_field = record { declares = record { super = itself; field = field_tag; at = its_tag_at }; only = λ S d. is_tag S d.field d.at };
  field = field_tag;
  at = its_tag_at;
  type = refl;
}

only_type : (V : Path) (f : Name) → FieldType tagged V f ty.Int → Only (FieldType tagged V f) ty.Int
only_type V f i = record { is = i; one = λ t x. (found_once tagged_own tagged_further tested).field V f t ty.Int x i }

only_slot : (V : Path) (f : Name) (s : _) → IsSlot tagged V f s → Only (IsSlot tagged V f) s
only_slot V f s i = record { is = i; one = λ t x. (found_once tagged_own tagged_further tested).slot V f t s x i }

pub v_of_base : Only (FieldType tagged (in_base Lit) v) ty.Int
v_of_base = only_type (in_base Lit) v (v_type (in_base Lit) itself)

pub v_of_disp : Only (FieldType tagged (in_disp Lit) v) ty.Int
v_of_disp = only_type (in_disp Lit) v (v_type (in_disp Lit) lit_above)

pub tag_of_disp : Only (FieldType tagged (in_disp Lit) tag) ty.Int
tag_of_disp = only_type (in_disp Lit) tag tag_type

pub v_slot_of_base : Only (IsSlot tagged (in_base Lit) v) slot_v
v_slot_of_base = only_slot (in_base Lit) v slot_v (first_v (in_base Lit) base_itself v_here)

pub v_slot_of_disp : Only (IsSlot tagged (in_disp Lit) v) slot_v
v_slot_of_disp = only_slot (in_disp Lit) v slot_v (first_v (in_disp Lit) lits_back v_there)

pub tag_slot : Only (IsSlot tagged (in_disp Lit) tag) slot_tag
tag_slot = only_slot (in_disp Lit) tag slot_tag (first_tag (in_disp Lit) disp_itself tag_there)

-- ---- new objects

pub size_of_base : Only (IsSize tagged (in_base Lit)) 3
size_of_base = record { is = base_size; one = λ n x. (finds_one tagged).size (in_base Lit) n 3 x base_size }

abbrev pub zero_v : Stored
zero_v = record { slot = slot_v; value = Number (pos 0) }

abbrev pub zero_tag : Stored
zero_tag = record { slot = slot_tag; value = Number (pos 0) }

fresh_v : (V : Path) → FieldType tagged V v ty.Int → IsSlot tagged V v slot_v → IsFresh tagged V v zero_v
fresh_v V t s = record { ty = ty.Int; type = t; slot = s; value = refl }

v_alone : (f : Name) → Contains (v ∷ []) f ↔ HasField tagged (in_base Lit) f
v_alone f = (λ c. elim (in_cons v [] f c) [ inl e ↦ subst (HasField tagged (in_base Lit)) e v_here | inr n ↦ absurd (in_none f n) ], back) where
  back : HasField tagged (in_base Lit) f → Contains (v ∷ []) f
  back h = elim (its_name h.at f h.declares.field h.declares.at) [
    | inl e ↦ subst (Contains (v ∷ [])) (sym e) (at_first v [])
    | inr e ↦ absurd (not_tagged (subst (HasField tagged (in_base Lit)) e h))
  ]

fresh_base : AreFresh tagged (in_base Lit) (zero_v ∷ [])
unfolding IsStrictlySortedBy
fresh_base = record {
  names = v ∷ [];
  exact = v_alone;
  in_order = (tt, tt);
  each = more (fresh_v (in_base Lit) (v_type (in_base Lit) itself) (first_v (in_base Lit) base_itself v_here)) none;
}

tag_and_v : (f : Name) → Contains (tag ∷ v ∷ []) f ↔ HasField tagged (in_disp Lit) f
tag_and_v f = (to, back) where
  of_v : Contains (v ∷ []) f → HasField tagged (in_disp Lit) f
  of_v c = elim (in_cons v [] f c) [ inl e ↦ subst (HasField tagged (in_disp Lit)) e v_there | inr n ↦ absurd (in_none f n) ]

  to : Contains (tag ∷ v ∷ []) f → HasField tagged (in_disp Lit) f
  to c = elim (in_cons tag (v ∷ []) f c) [ inl e ↦ subst (HasField tagged (in_disp Lit)) e tag_there | inr n ↦ of_v n ]

  back : HasField tagged (in_disp Lit) f → Contains (tag ∷ v ∷ []) f
  back h = elim (its_name h.at f h.declares.field h.declares.at) [
    | inl e ↦ subst (Contains (tag ∷ v ∷ [])) (sym e) (behind tag (v ∷ []) v (at_first v []))
    | inr e ↦ subst (Contains (tag ∷ v ∷ [])) (sym e) (at_first tag (v ∷ []))
  ]

fresh_disp : AreFresh tagged (in_disp Lit) (zero_tag ∷ zero_v ∷ [])
unfolding IsStrictlySortedBy
fresh_disp = record {
  names = tag ∷ v ∷ [];
  exact = tag_and_v;
  in_order = ((refl, tt), (tt, tt));
  each = more (record { ty = ty.Int; type = tag_type; slot = first_tag (in_disp Lit) disp_itself tag_there; value = refl })
      (more (fresh_v (in_disp Lit) (v_type (in_disp Lit) lit_above) (first_v (in_disp Lit) lits_back v_there)) none);
}

only_fresh : (V : Path) (xs : List Stored) → AreFresh tagged V xs → Only (AreFresh tagged V) xs
only_fresh V xs i = record { is = i; one = λ ys x. (found_once tagged_own tagged_further tested).fresh V ys xs x i }

pub fresh_of_base : Only (AreFresh tagged (in_base Lit)) (zero_v ∷ [])
fresh_of_base = only_fresh (in_base Lit) (zero_v ∷ []) fresh_base

pub fresh_of_disp : Only (AreFresh tagged (in_disp Lit)) (zero_tag ∷ zero_v ∷ [])
fresh_of_disp = only_fresh (in_disp Lit) (zero_tag ∷ zero_v ∷ []) fresh_disp

-- the size is that of the group
disp_size : IsSize tagged (in_disp Lit) 3
disp_size = record {
  class = lits.one;
  slots = base_size.slots;
  exact = λ s. (
    λ c. let g = (base_size.exact s).0 c in record { view = g.view; related = joined lits g.related; field = g.field; slot = g.slot },
    λ g. (base_size.exact s).1 (record { view = g.view; related = joined lits_back g.related; field = g.field; slot = g.slot }),
  );
  once = base_size.once;
  is = base_size.is;
} where
  joined : {R S T : Path} → Related tagged R S → Related tagged S T → Related tagged R T
  joined f g = record { one = f.one; other = g.other; linked = link.joined f.linked g.linked }

pub size_of_disp : Only (IsSize tagged (in_disp Lit)) 3
size_of_disp = record { is = disp_size; one = λ n x. (finds_one tagged).size (in_disp Lit) n 3 x disp_size }

-- no method is declared
abbrev no_methods : Name → Decl → Bool
no_methods A d = nat_eq (length (methods d.members)) 0

none_declared : inners no_methods tagged ≡ true
none_declared = simp (outs-Inner, outs-Slot)

no_method_at : (S : Path) (m : Name) (x : Method) → OneOf Lits Families S → MethodAt tagged S m x → ⊥
no_method_at S m x (one C A c a) h = none_of (methods h.decl.members) x (at_inner tagged no_methods none_declared C A h.decl h.stands) h.has

lit_sups : (A : Name) → has_name Families A ≡ true → (S : Path) → Sup tagged (Lit ∷ A ∷ []) S → OneOf Lits Families S
lit_sups A a S s = sups_kept tagged Lits Families refl tested.keeps Lit A refl a S s

pub no_constructor : (A : Name) → has_name Families A ≡ true → (b : Body) → Only (IsConstructorBody tagged (Lit ∷ A ∷ [])) b → ⊥
no_constructor A a b o = no_method_at b.class Lit b.method (lit_sups A a b.class o.is.least.among.super) o.is.at

-- ---- the class of `new Lit()` in a body of base.Lit

abbrev lit_atom : Atom
lit_atom = atom (Up 0 1) [] (Lit ∷ [])

lit_in_base : Member tagged (base ∷ []) Lit
lit_in_base = inner_member tagged base base Lit itself has_lit

innermost : (j : ℕ) → j < 1 → Member tagged (drop j (in_base Lit)) Lit → ⊥
innermost zero l m = no_member tagged tagged_flat Lit base Lit m
innermost (suc j) l m = absurd (omega (arith, l))

new_class : (A : Name) (vs : List Value) (k : List Todo) → IsNewClass tagged (working (Lit ∷ A ∷ []) vs k) lit_term (Lit ∷ A ∷ [])
new_class A vs k = record {
  atom = lit_atom;
  resolved = (
    shown_atom lit_atom,
    record {
      anchor = Ok (Up 0 1);
      given = record {
        found = Ok 1;
        sought = found_at 1 None (record { within = omega arith; member = lit_in_base; innermost = innermost }) refl refl;
        gives = refl;
      };
      gives = in_class lits.other.kind refl;
    },
    refl,
  );
  seen = refl;
  is = refl;
}

pub only_new : (A : Name) (vs : List Value) (k : List Todo) → Only (IsNewClass tagged (working (Lit ∷ A ∷ []) vs k) lit_term) (Lit ∷ A ∷ [])
only_new A vs k = record { is = new_class A vs k; one = λ V x. (finds_one tagged).new_class (working (Lit ∷ A ∷ []) vs k) lit_term V (Lit ∷ A ∷ []) x (new_class A vs k) }
