-- The rows of families and masks.
use Rattle.std.proofs.Common.{◌≡◌, ◌<◌, ◌^◌, get_or, ℕ, zero, suc, List, [], ◌∷◌, drop, length, Contains, Bool, true, false, Some, None, slice_get, ◌&&◌, nat_eq, refl, sym, ap, ◌∙◌, subst, inl, inr, arith}
use Rattle.std.specs.Prelude.{Ok, Err}
use Rattle.jn_reach.specs.Equivalent as link
use Rattle.jn_reach.specs.Equivalent.{Equivalent}
use Rattle.jn_base.specs.declared.tree.Name.{Name}
use Rattle.jn_base.specs.declared.tree.Named.{Named}
use Rattle.jn_base.specs.declared.tree.Constraint.{Constraint}
use Rattle.jn_base.specs.declared.tree.Decl.{Decl}
use Rattle.jn_base.specs.declared.tree.Field.{Field}
use Rattle.jn_base.specs.declared.tree.Method.{Method}
use Rattle.jn_base.specs.declared.tree.Kind.TheVariants as kind
use Rattle.jn_base.specs.declared.tree.TypeTerm.TheVariants as type
use Rattle.jn_base.specs.declared.tree.Member.TheVariants as member
use Rattle.jn_base.specs.declared.tree.Member.TheVariants.{outs-Inner, outs-Body, outs-Slot}
use Rattle.jn_base.specs.declared.types.Anchor.TheVariants.{Root, Up}
use Rattle.jn_base.specs.declared.types.Ty.TheVariants as ty
use Rattle.jn_base.specs.declared.refusal.Rule.TheVariants as rule
use Rattle.jn_base.specs.Scopes.{Scope}
use Rattle.jn_base.specs.Duplicates.{has_name, duplicates}
use Rattle.jn_base.proofs.Unique.{decl_opened}
use Rattle.jn_rules.specs.Verdict.{headers}
use Rattle.jn_base.specs.Atoms.{Atom, atom, atom_of, Among, first, later, no_masks}
use Rattle.jn_base.specs.Paths.{Path, StandsAt, nested, fields, methods}
use Rattle.jn_base.specs.Supers.{Sup, itself, Member, IsOwnSuper}
use Rattle.jn_base.specs.Universe.{InUniverse}
use Rattle.jn_base.specs.TableRules.{TablePasses}
use Rattle.jn_base.specs.Members.{HasKind, MethodAt, FieldAt, FieldDecls, Least, HasTwoKinds}
use Rattle.jn_base.specs.Resolve.{found, in_class}
use Rattle.jn_base.specs.ResolveTypes.{mask_names, MasksAre, OneDepth, none, first as first_term, one as one_depth_of}
use Rattle.jn_base.specs.ExampleTrees.{word, declaration, package_at, field}
use Rattle.jn_base.proofs.NameTests.{in_cons, in_none, has_in, first as at_first, later as behind}
use Rattle.jn_base.proofs.FormEquations.{at_decl, at_slot, at_body}
use Rattle.jn_base.proofs.SuperLaws.{member_heir, sup_inherited}
use Rattle.jn_base.proofs.ExampleTools.{at_top, at_inner, OneOf, top_kept_sup, sups_kept, top_member, top_above, inner_member, inner_class, same, method_in, least_from, of_each}
use Rattle.jn_base.proofs.VerdictTools.{TwoLevels, package_of, class_of, universe_of, class_named, few_paths, no_top_cycle, package_alone, all_known}
use Rattle.jn_sem.specs.Sets.{no_views, InAtom, InAtoms}
use Rattle.jn_sem.specs.Sharing.{IsClass, Shares, adapted, shared, in_family}
use Rattle.jn_sem.specs.NotFamily.{IsStrictSuper, no_super, not_family}
use Rattle.jn_sem.specs.Values.{Masked}
use Rattle.jn_sem.specs.NormalFunction.{normal_type}
use Rattle.jn_sem.specs.Holds.{Sides, Holds, with_this, Turns}
use Rattle.jn_sem_rows.specs.SlotsExample.{base, disp, Exp, Add, in_base, in_disp}
use Rattle.jn_rules.specs.Plans.{FoundField, Target, target_type, Pledge, Plan, then_do, wants, Nothing}
use Rattle.jn_rules.specs.Questions.{header_site, masks_of, ConstraintGives, both, sides, Gives, first as first_bound}
use Rattle.jn_rules.specs.Headers.{decl_headers}
use Rattle.jn_rules.specs.Exprs.{Here, Typed, of_name, one_grants}
use Rattle.jn_rules.proofs.PlanLaws.{then_gives, then_refuses}
use Rattle.jn_rules.proofs.FormLaws.{decl_forms}
use Rattle.jn_rule_rows.proofs.MainRows.{not_masked}
use Rattle.jn_rule_rows.specs.FamilyRows.{listing, base_listed, A, f, masking, masked_a, with_mask, lift, to_own, lift_method, lift_members, lifting, FamilyRows}

-- ---- a constraint: the program

As : List Name
As = base ∷ disp ∷ []

Cs : List Name
Cs = Exp ∷ Add ∷ []

nought : (n : ℕ) → nat_eq n 0 ≡ true → n ≡ 0
nought n e = grind arith

none_in : {X : Type 0} (xs : List X) (x : X) → nat_eq (length xs) 0 ≡ true → Contains xs x → ⊥
none_in [] x e c = in_none x c
none_in (y ∷ xs) x e c = absurd (omega (arith, nought (length (y ∷ xs)) e))

above_base : Sup lifting (disp ∷ []) (base ∷ [])
above_base = top_above lifting disp base refl refl

base_exp : Member lifting (base ∷ []) Exp
base_exp = inner_member lifting base base Exp itself (simp outs-Inner)

base_add : Member lifting (base ∷ []) Add
base_add = inner_member lifting base base Add itself (simp outs-Inner)

exp_kind : HasKind lifting (in_base Exp) kind.Class
exp_kind = inner_class lifting (in_base Exp) base Exp itself (simp outs-Inner)

exp_class : IsClass lifting (in_base Exp)
exp_class = record { universe = ((tt, top_member lifting base refl), base_exp); kind = exp_kind }

add_heir : Sup lifting (in_disp Add) (in_base Add)
add_heir = sup_inherited above_base base_add

add_class : IsClass lifting (in_disp Add)
add_class = record {
  universe = ((tt, top_member lifting disp refl), member_heir above_base base_add);
  kind = inner_class lifting (in_disp Add) base Add add_heir (simp outs-Inner);
}

-- ---- what the constraint stands for

abbrev from_base : Target
from_base = record { atom = record { anchor = Root; exact = base ∷ []; names = Exp ∷ [] }; masks = no_masks }

abbrev to_this : Target
to_this = record { atom = record { anchor = Up 0 1; exact = []; names = Exp ∷ [] }; masks = no_masks }

abbrev pledge : Pledge
pledge = record { from = from_base; to = to_this }

-- no class of a package has a member
no_deeper : {N C A : Name} → TwoLevels Cs As (N ∷ C ∷ A ∷ []) → ⊥
no_deeper h = elim h [ ]

no_inner : (N : Name) → Member lifting (in_base Add) N → ⊥
unfolding Cs As
no_inner N n = no_deeper (universe_of lifting Cs As refl (simp (outs-Inner, outs-Body)) (N ∷ in_base Add) (((tt, top_member lifting base refl), base_add), n))

wide_zero : (k d : ℕ) → k < 4 → get_or no_masks.0 k d < 2 ^ 64
wide_zero zero d l = omega arith
wide_zero (suc zero) d l = omega arith
wide_zero (suc (suc zero)) d l = omega arith
wide_zero (suc (suc (suc zero))) d l = omega arith
wide_zero (suc (suc (suc (suc k)))) d l = absurd (omega (arith, l))

masks_none : (names : List Name) → MasksAre names [] no_masks
masks_none names = record {
  words = refl;
  wide = wide_zero;
  each = λ i l. (λ h. absurd (not_masked i h), λ h. absurd (in_none h.mask h.among));
}

-- one bound has one depth
one_depth : (R : Path) → OneDepth (R ∷ [])
one_depth R B E h i = ap length (sym (alone B h) ∙ alone E i) where
  alone : (B : Path) → Contains (R ∷ []) B → R ≡ B
  alone B h = elim (in_cons R [] B h) [ inl e ↦ e | inr n ↦ absurd (in_none B n) ]

no_base : Member lifting (base ∷ []) base → ⊥
unfolding Cs
no_base n = let k = class_named lifting Cs (simp (outs-Inner, outs-Body)) base base n in cc k

below_two : (P : ℕ → Type 0) → P 0 → P 1 → (j : ℕ) → j < 2 → P j
below_two P a b zero h = a
below_two P a b (suc zero) h = b
below_two P a b (suc (suc j)) h = absurd (omega arith)

below_one : (P : ℕ → Type 0) → P 0 → (j : ℕ) → j < 1 → P j
below_one P a zero h = a
below_one P a (suc j) h = absurd (omega arith)

constraint_gives : ConstraintGives lifting (header_site (in_base Add) lift) to_own (Ok pledge)
constraint_gives = both from_base to_this
    (record {
      atoms = Ok (from_base.atom ∷ []);
      all = first_term from_base.atom (Ok []) (record {
        anchor = Ok Root;
        given = record {
          found = Ok 2;
          sought = found 2 None (record {
            within = omega arith;
            member = top_member lifting base refl;
            innermost = below_two (λ j. Member lifting (drop j (in_base Add)) base → ⊥) (no_inner base) no_base;
          }) (inl (base_exp, refl)) refl;
          gives = refl;
        };
        gives = in_class exp_kind refl;
      }) (none refl) refl;
      gives = one_depth_of (one_depth (in_base Exp)) (record { first = None; unfit = refl; gives = record { masks = no_masks; are = masks_none (mask_names lifting); gives = refl } });
    })
    (record {
      atoms = Ok (to_this.atom ∷ []);
      all = first_term to_this.atom (Ok []) (record {
        anchor = Ok (Up 0 1);
        given = record {
          found = Ok 1;
          sought = found 1 None (record {
            within = omega arith;
            member = base_exp;
            innermost = below_one (λ j. Member lifting (drop j (in_base Add)) Exp → ⊥) (no_inner Exp);
          }) refl refl;
          gives = refl;
        };
        gives = in_class exp_kind refl;
      }) (none refl) refl;
      gives = one_depth_of (one_depth (in_base Exp)) (record { first = None; unfit = refl; gives = record { masks = no_masks; are = masks_none (mask_names lifting); gives = refl } });
    })
    refl

-- ---- the body

abbrev at_lift : Name → Name → Bool
at_lift C B = same B base && same C Add

abbrev exp_decl : Decl
exp_decl = declaration kind.Class 1 Exp [] []

abbrev add_decl : Decl
add_decl = declaration kind.Class 1 Add [] (member.Body lift_method ∷ [])

abbrev base_decl : Decl
base_decl = package_at 1 base [] lift_members

abbrev disp_decl : Decl
disp_decl = package_at 2 disp (base ∷ []) []

in_namespace : nested base_decl.members ≡ exp_decl ∷ add_decl ∷ []
in_namespace = simp (outs-Inner)

one_method : methods add_decl.members ≡ lift_method ∷ []
one_method = simp (outs-Body)

lift_there : MethodAt lifting (in_base Add) lift lift_method
lift_there = record {
  decl = add_decl;
  stands = (
    (
      base_decl,
      at_first base_decl (disp_decl ∷ []),
      refl,
      subst (λ (ds : List Decl). Contains ds add_decl) (sym in_namespace) (behind exp_decl (add_decl ∷ []) add_decl (at_first add_decl [])),
    ),
    refl,
  );
  has = subst (λ (xs : List Method). Contains xs lift_method) (sym one_method) (at_first lift_method []);
  name = refl;
}

adds : (S : Path) → Sup lifting (in_disp Add) S → OneOf (Add ∷ []) As S
unfolding As
adds S s = sups_kept lifting (Add ∷ []) As refl (simp outs-Inner) Add disp refl refl S s

told : (C B : Name) (y : Method) → MethodAt lifting (C ∷ B ∷ []) lift y → at_lift C B ≡ true
told C B y h = method_in lifting lift at_lift (simp (outs-Inner, outs-Body)) C B y h

least_lift : Least lifting (in_disp Add) lift (in_base Add)
unfolding As
least_lift = least_from lifting (Add ∷ []) As at_lift lift (in_disp Add) (in_base Add) adds told ((λ e. itself, (λ e. cc e, tt)), tt) add_heir lift_method lift_there

-- ---- what it says at disp.Add doesn't hold

levels : (Q : Path) → IsClass lifting Q → TwoLevels Cs As Q
unfolding Cs As
levels Q c = universe_of lifting Cs As refl (simp (outs-Inner, outs-Body)) Q c.universe

abbrev adapts_none : Decl → Bool
adapts_none d = nat_eq (length d.adapts) 0

abbrev shares_none : Decl → Bool
shares_none d = nat_eq (length d.shares) 0

none_shares : (R : Path) (d : Decl) (A : Named) → TwoLevels Cs As R → StandsAt lifting R d → Contains d.shares A → ⊥
none_shares R d A (package_of B b) s c = none_in d.shares A (at_top lifting shares_none refl B d s) c
none_shares R d A (class_of C B k b) s c = none_in d.shares A (at_inner lifting (λ D. shares_none) (simp outs-Inner) C B d s) c

never_shared : (R S : Path) → Shares lifting R S → ⊥
never_shared R S (adapted X A C k d s c r q of_one of_other) = none_in d.adapts A (at_top lifting adapts_none refl X d s) c
never_shared R S (shared X A C k d s c r q of_one of_other) = none_shares R d A (levels R of_one) s c

only_itself : {R S : Path} → Equivalent (Shares lifting) R S → R ≡ S
only_itself (link.pair h) = absurd (never_shared _ _ h)
only_itself link.itself = refl
only_itself (link.turned h) = sym (only_itself h)
only_itself (link.joined h k) = only_itself h ∙ only_itself k

abbrev the_sides : Sides
the_sides = with_this (in_disp Add) (sides lifting (atom_of from_base.atom ∷ []) from_base.masks to_this)

some_name : (x y : Name) → Some x ≡ Some y → x ≡ y
some_name x y e = cc

family_number : Path → ℕ
family_number [] = 0
family_number (C ∷ []) = 0
family_number (C ∷ A ∷ P) = A.0

no_turn : (W : Path) → Turns lifting the_sides (in_base Exp) W → ⊥
unfolding family_number
no_turn W t =
    let e : in_disp Exp ≡ W = ap (λ (Y : Name). in_family Y (in_base Exp)) (some_name disp t.family t.of_target) ∙ sym t.counterpart.is in
    absurd (omega (arith, ap family_number (only_itself t.counterpart.related.linked ∙ sym e)))

is_in : InAtoms lifting no_views (atom Root (base ∷ []) (Exp ∷ []) ∷ []) (in_base Exp)
is_in y n = at y n where
  at : (y : Atom) → Among (atom Root (base ∷ []) (Exp ∷ []) ∷ []) y → InAtom lifting no_views y (in_base Exp)
  at y first = record { seen = tt; inside = record { exact = refl; super = itself } }
  at y (later n) = elim n [ ]

fails : Holds lifting the_sides → ⊥
fails h = let g = h (in_base Exp) exp_class is_in in no_turn g.view g.turns

-- ---- a mask

abbrev the_field : Field
the_field = record { ty = type.Int; name = word f }

abbrev the_class : Decl
the_class = declaration kind.Class 1 A [] (field f ∷ member.Body with_mask ∷ [])

one_field : fields the_class.members ≡ the_field ∷ []
one_field = simp (outs-Slot, outs-Body)

f_there : FieldAt masking (A ∷ []) f the_field
f_there = record {
  decl = the_class;
  stands = (at_first the_class [], refl);
  has = subst (λ (xs : List Field). Contains xs the_field) (sym one_field) (at_first the_field []);
  name = refl;
}

a_alone : (S : Path) → Sup masking (A ∷ []) S → S ≡ A ∷ []
a_alone S s =
    let k = top_kept_sup masking (A ∷ []) refl A refl S s in
    k.1 ∙ ap (λ (B : Name). B ∷ []) (sym (alone k.0 (has_in (A ∷ []) k.0 k.2))) where
      alone : (B : Name) → Contains (A ∷ []) B → A ≡ B
      alone B c = elim (in_cons A [] B c) [ inl e ↦ e | inr n ↦ absurd (in_none B n) ]

f_declared : FieldDecls masking (A ∷ []) f (A ∷ [])
f_declared = record { super = itself; field = the_field; at = f_there }

abbrev f_found : FoundField
f_found = record { class = A ∷ []; ty = ty.Int }

f_names : mask_names masking ≡ f ∷ []
f_names = simp (at_decl, at_slot, at_body)

f_masked : Masked (mask_names masking) (masks_of masked_a) f
f_masked = record {
  number = 0;
  has = refl;
  name = subst (λ (ns : List Name). slice_get ns 0 ≡ Some f) (sym f_names) refl;
}

-- ---- a list

disp_alone : IsStrictSuper listing disp base → ⊥
disp_alone s = let k = top_kept_sup listing (disp ∷ []) refl disp refl (base ∷ []) s.super in not_it k.0 k.1 k.2 where
  not_it : (B : Name) → ◌≡◌ {A = Path} (base ∷ []) (B ∷ []) → has_name (disp ∷ []) B ≡ true → ⊥
  not_it B e h = let i : base ≡ B = cc in let j = subst (λ (N : Name). has_name (disp ∷ []) N ≡ true) (sym i) h in cc j

listing_once : duplicates listing ≡ []
listing_once = simp decl_opened

none_extends : Name → ℕ
none_extends N = 0

abbrev listing_names : List Name
listing_names = base ∷ disp ∷ []

no_class_in : false ≡ true → ⊥
no_class_in e = cc e

listing_acyclic : (Q : Path) → TwoLevels [] listing_names Q → IsOwnSuper listing Q → ⊥
unfolding none_extends
listing_acyclic Q (package_of K a) o = no_top_cycle listing none_extends refl K o
listing_acyclic Q (class_of N K c a) o = no_class_in c

listing_kinds : (Q : Path) → TwoLevels [] listing_names Q → HasTwoKinds listing Q → ⊥
listing_kinds Q (package_of K a) h = package_alone listing K refl h
listing_kinds Q (class_of N K c a) h = no_class_in c

listing_has : (K : Name) → has_name listing_names K ≡ true → Member listing [] K
listing_has K a = of_each listing_names (Member listing []) (top_member listing base refl, (top_member listing disp refl, tt)) K (has_in listing_names K a)

listing_two : (Q : Path) → InUniverse listing Q → TwoLevels [] listing_names Q
listing_two Q u = universe_of listing [] listing_names refl refl Q u

listing_passes : TablePasses listing
listing_passes = record {
  within = few_paths listing [] listing_names refl refl refl (omega arith);
  no_cycle = λ Q o. listing_acyclic Q (listing_two Q o.0) o.1;
  one_kind = λ Q h. listing_kinds Q (listing_two Q h.0) h.1;
  all_known = all_known listing [] listing_names listing_has refl refl refl;
}

abbrev listing_base : Decl
listing_base = package_at 1 base [] []

abbrev listing_disp : Decl
listing_disp = record (package_at 2 disp [] []) { adapts = word base ∷ [] }

disp_refused : Gives listing (decl_headers listing_disp []) (Err (not_family base_listed))
disp_refused = subst (λ (x : Plan Nothing). Gives listing x (Err (not_family base_listed))) (sym (decl_forms listing_disp []).headers)
    (true, (tt, top_member listing base refl), (true, no_super disp refl disp_alone, refl))

base_passes : Gives listing (decl_headers listing_base []) (Ok tt)
base_passes = subst (λ (x : Plan Nothing). Gives listing x (Ok tt)) (sym (decl_forms listing_base []).headers) refl

pub family_rows : FamilyRows
family_rows = record {
  no_family = headers listing_once (headers listing_passes
      (then_gives listing (decl_headers listing_base []) _ tt _ base_passes
      (then_refuses listing (decl_headers listing_disp []) _ (not_family base_listed) disp_refused)));
  masked = λ h at s. (
    Some f_found,
    record {
      bound = A ∷ [];
      at = first_bound refl (record { at = A ∷ []; declares = f_declared });
      type = record {
        class = A ∷ [];
        is_field = record { declares = f_declared; only = λ S d. a_alone S d.super };
        field = the_field;
        at = f_there;
        type = refl;
      };
      class = refl;
    },
    (true, f_masked, refl),
  );
  fails_at_heir = record {
    class = add_class;
    body = record { least = least_lift; at = lift_there };
    constraint = to_own;
    among = at_first to_own [];
    pledge = pledge;
    is = constraint_gives;
    fails = fails;
  };
  not_granted = λ h n s go e. (
    Ok pledge,
    constraint_gives,
    granted_none h n s go h.method.sharing e,
  );
} where
  granted_none : (h : Here) (n : Named) (s : Scope) (go : Plan Typed) (cs : List Constraint) → cs ≡ []
      → Gives lifting (then_do (one_grants h cs s (normal_type s (target_type from_base)) to_this) (λ ok. wants ok (of_name rule.E25 h n.at n.name) go)) (Err (of_name rule.E25 h n.at n.name))
  granted_none h n s go [] e = refl
  granted_none h n s go (c ∷ cs) e = absurd (cc e)
