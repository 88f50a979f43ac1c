-- The examples of resolving.
use Rattle.std.proofs.Common.{◌≡◌, ◌<◌, ℕ, zero, suc, List, [], ◌∷◌, refl, sym, ap, ◌∙◌, subst, Bool, true, false, ◌&&◌, ◌⊎◌, inl, inr, arith, drop, Some, None, Ok, Err, ◌/◌, ◌%◌, slice_get, get_or, Contains, length, ◌^◌, lit<, Option}
use Rattle.std.specs.Int.{bit_at}
use Rattle.std.proofs.lemmas.Nat.Bits.{bit_at-zero, bit_at_above}
use Rattle.jn_base.specs.declared.tree.Name.{Name}
use Rattle.jn_base.specs.declared.tree.Named.{Named}
use Rattle.jn_base.specs.declared.names.Role.TheVariants as role
use Rattle.jn_base.specs.declared.tree.Field.{Field}
use Rattle.jn_base.specs.declared.tree.Kind.TheVariants as kind
use Rattle.jn_base.specs.declared.tree.Head.TheVariants as head
use Rattle.jn_base.specs.declared.tree.Member.TheVariants.{outs-Inner, outs-Slot, outs-Body}
use Rattle.jn_base.specs.declared.types.Anchor.TheVariants.{Root, Up}
use Rattle.jn_base.specs.Paths.{Path}
use Rattle.jn_base.specs.Supers.{Sup, itself, Member}
use Rattle.jn_base.specs.Members.{HasKind, FieldAt}
use Rattle.jn_base.specs.Atoms.{HasMask}
use Rattle.jn_base.specs.Duplicates.{has_name}
use Rattle.jn_base.specs.ExampleTrees.{word}
use Rattle.jn_base.specs.FamiliesExample.{families, base, Exp, Lit, Add, Make, shower, doubler, both, v, l}
use Rattle.jn_base.specs.Resolve.{FoundOut, found, Sought, not_above, above, no_class, in_class, Resolve}
use Rattle.jn_base.specs.ResolveTypes.{IsMask, MasksAre, none, first, one, IsFieldOfAny}
use Rattle.jn_base.specs.ResolveExamples.{ResolveExamples, MaskExamples, spot, vars, term, atom, masked}
use Rattle.jn_base.proofs.SuperLaws.{member_heir}
use Rattle.jn_base.proofs.NameTests.{has_in, in_cons, in_none, and_both}
use Rattle.jn_base.proofs.ExampleTools.{OneOf, one as one_of, of_each, sups_kept, top_above, top_member, inner_member, inner_class, inner_field, field_in, top_kept_sup, same}
use Rattle.jn_base.proofs.VerdictTools.{TwoLevels, universe_of, class_named, kind_at}

Cs : List Name
Cs = Exp ∷ Lit ∷ Add ∷ Make ∷ []

As : List Name
As = base ∷ shower ∷ doubler ∷ both ∷ []

-- no class of a package has a member
no_deeper : {Cs As : List Name} {N C A : Name} → TwoLevels Cs As (N ∷ C ∷ A ∷ []) → ⊥
no_deeper h = elim h [ ]

shower_base : Sup families (shower ∷ []) (base ∷ [])
shower_base = top_above families shower base refl refl

base_exp : Member families (base ∷ []) Exp
base_exp = inner_member families base base Exp itself (simp (outs-Inner, outs-Slot, outs-Body))

base_lit : Member families (base ∷ []) Lit
base_lit = inner_member families base base Lit itself (simp (outs-Inner, outs-Slot, outs-Body))

shower_exp : Member families (shower ∷ []) Exp
shower_exp = member_heir shower_base base_exp

shower_add : Member families (shower ∷ []) Add
shower_add = member_heir shower_base (inner_member families base base Add itself (simp (outs-Inner, outs-Slot, outs-Body)))

no_inner : (N : Name) → Member families (Add ∷ shower ∷ []) N → ⊥
unfolding Cs As
no_inner N m = no_deeper (universe_of families Cs As refl (simp (outs-Inner, outs-Slot, outs-Body)) (N ∷ Add ∷ shower ∷ []) (((tt, top_member families shower refl), shower_add), m))

no_class_named : (A N : Name) → Member families (A ∷ []) N → ◌≡◌ {A = Bool} (has_name Cs N) false → ⊥
unfolding Cs As
no_class_named A N m e = let k = class_named families Cs (simp (outs-Inner, outs-Slot, outs-Body)) A N m in cc

below_one : (P : ℕ → Type 0) → P 0 → (j : ℕ) → j < 1 → P j
below_one P a zero h = a
below_one P a (suc j) h = absurd (omega arith)

below_two : (P : ℕ → Type 0) → P 0 → P 1 → (j : ℕ) → j < 2 → P j
below_two P a b zero h = a
below_two P a b (suc zero) h = b
below_two P a b (suc (suc j)) h = absurd (omega arith)

exp_found : FoundOut families (Add ∷ shower ∷ []) Exp 1
exp_found = record {
  within = omega arith;
  member = shower_exp;
  innermost = below_one (λ j. Member families (drop j (Add ∷ shower ∷ [])) Exp → ⊥) (no_inner Exp);
}

top_found : (A : Name) → Member families [] A → has_name Cs A ≡ false → FoundOut families (Add ∷ shower ∷ []) A 2
top_found A m e = record {
  within = omega arith;
  member = m;
  innermost = below_two (λ j. Member families (drop j (Add ∷ shower ∷ [])) A → ⊥) (no_inner A) (λ k. no_class_named shower A k e);
}

base_found : FoundOut families (Add ∷ shower ∷ []) base 2
unfolding Cs
base_found = top_found base (top_member families base refl) refl

shower_found : FoundOut families (Add ∷ shower ∷ []) shower 2
unfolding Cs
shower_found = top_found shower (top_member families shower refl) refl

no_v : Member families (base ∷ []) v → ⊥
unfolding Cs
no_v m = no_class_named base v m refl

base_sought : Sought families (Add ∷ shower ∷ []) (base ∷ []) (Ok 2)
base_sought = found 2 None base_found refl refl

lit_sought : Sought families (Add ∷ shower ∷ []) (base ∷ Lit ∷ []) (Ok 2)
lit_sought = found 2 None base_found (inl (base_lit, refl)) refl

lit_class : HasKind families (Lit ∷ base ∷ []) kind.Class
lit_class = inner_class families (Lit ∷ base ∷ []) base Lit itself (simp (outs-Inner, outs-Slot, outs-Body))

exp_class : HasKind families (Exp ∷ base ∷ []) kind.Class
exp_class = inner_class families (Exp ∷ base ∷ []) base Exp itself (simp (outs-Inner, outs-Slot, outs-Body))

shower_exp_class : HasKind families (Exp ∷ shower ∷ []) kind.Class
shower_exp_class = inner_class families (Exp ∷ shower ∷ []) shower Exp itself (simp (outs-Inner, outs-Slot, outs-Body))

base_package : HasKind families (base ∷ []) kind.Class → ⊥
base_package h = kind_at families base refl h

base_alone : Sup families (base ∷ []) (shower ∷ []) → ⊥
base_alone s = let k = top_kept_sup families (base ∷ []) refl base refl (shower ∷ []) s in not_it k.0 k.1 k.2 where
  not_it : (B : Name) → ◌≡◌ {A = Path} (shower ∷ []) (B ∷ []) → has_name (base ∷ []) B ≡ true → ⊥
  not_it B e h = let i : shower ≡ B = cc in let j = subst (λ (N : Name). has_name (base ∷ []) N ≡ true) (sym i) h in cc j

pub resolve_shown : ResolveExamples
resolve_shown = record {
  outwards = record {
    anchor = Ok (Up 0 1);
    given = record { found = Ok 1; sought = found 1 None exp_found refl refl; gives = refl };
    gives = in_class shower_exp_class refl;
  };
  top = record {
    anchor = Ok Root;
    given = record { found = Ok 2; sought = lit_sought; gives = refl };
    gives = in_class lit_class refl;
  };
  no_member = record {
    anchor = Err _;
    given = record { found = Err v; sought = found 2 (Some v) base_found (inr (no_v, refl)) refl; gives = refl };
    gives = refl;
  };
  own = record { anchor = Ok (Up 1 0); given = above refl tt refl; gives = in_class exp_class refl };
  taken = record {
    anchor = Ok (Up 1 1);
    given = record { found = Ok 2; sought = base_sought; gives = above (inl (base_lit, refl)) itself refl };
    gives = in_class lit_class refl;
  };
  not_above = record {
    anchor = Err _;
    given = record { found = Ok 2; sought = found 2 None shower_found refl refl; gives = not_above (inl (base_lit, refl)) base_alone refl };
    gives = refl;
  };
  not_final = record { anchor = Err _; given = refl; gives = refl };
  not_there = record { anchor = Err _; given = refl; gives = refl };
  in_field = record { anchor = Err _; given = refl; gives = refl };
  package_term = record {
    anchor = Ok Root;
    given = record { found = Ok 2; sought = base_sought; gives = refl };
    gives = no_class base_package refl;
  };
  super_term = record {
    anchor = Ok Root;
    given = record { found = Ok 2; sought = base_sought; gives = refl };
    gives = in_class tt refl;
  };
  no_family = record {
    anchor = Ok Root;
    given = record { found = Ok 2; sought = lit_sought; gives = refl };
    gives = refl;
  };
  new_path = record { anchor = Ok (Up 1 0); given = above refl tt refl; gives = refl };
}

-- ---- masks

at_lit : Name → Name → Bool
at_lit C A = same A base && same C Lit

at_add : Name → Name → Bool
at_add C A = same A base && same C Add

lit_has_v : IsFieldOfAny families ((Lit ∷ base ∷ []) ∷ []) v
lit_has_v =
    let x = inner_field families base Lit v (simp (outs-Inner, outs-Slot, outs-Body)) in
    record { bound = Lit ∷ base ∷ []; among = (0, omega arith, refl); at = Lit ∷ base ∷ []; declares = record { super = itself; field = x.0; at = x.1 } }

l_in : (C A : Name) (f : Field) → FieldAt families (C ∷ A ∷ []) l f → at_add C A ≡ true
unfolding at_add
l_in C A f x = field_in families l at_add (simp (outs-Inner, outs-Slot, outs-Body)) C A f x

no_l : (S : Path) → OneOf (Lit ∷ Exp ∷ []) (base ∷ []) S → (f : Field) → FieldAt families S l f → ⊥
unfolding at_add
no_l S (one_of C A c a) f x = not_it C (has_in (Lit ∷ Exp ∷ []) C c) (l_in C A f x) where
  not_it : (C : Name) → Contains (Lit ∷ Exp ∷ []) C → at_add C A ≡ true → ⊥
  not_it C c = of_each (Lit ∷ Exp ∷ []) (λ (D : Name). at_add D A ≡ true → ⊥) (λ e. let k = (and_both (same A base) (same Lit Add) e).1 in cc k, (λ e. let k = (and_both (same A base) (same Exp Add) e).1 in cc k, tt)) C c

lit_has_no_l : IsFieldOfAny families ((Lit ∷ base ∷ []) ∷ []) l → ⊥
lit_has_no_l h = no_l h.at (sups_kept families (Lit ∷ Exp ∷ []) (base ∷ []) refl (simp (outs-Inner, outs-Slot, outs-Body)) Lit base refl refl h.at at_super) h.declares.field h.declares.at where
  at_super : Sup families (Lit ∷ base ∷ []) h.at
  at_super = by_place (in_cons (Lit ∷ base ∷ []) [] h.bound h.among) where
    by_place : ◌⊎◌ (◌≡◌ {A = Path} (Lit ∷ base ∷ []) h.bound) (Contains [] h.bound) → Sup families (Lit ∷ base ∷ []) h.at
    by_place (inl e) = subst (λ (B : Path). Sup families B h.at) (sym e) h.declares.super
    by_place (inr c) = absurd (in_none h.bound c)

-- the mask of number 1 alone
one_bit : (b : ℕ) → bit_at 2 b ≡ 1 → b ≡ 1
one_bit zero h = absurd (cc h)
one_bit (suc zero) h = refl
one_bit (suc (suc b)) h = let k : bit_at 2 (suc (suc b)) ≡ 0 = bit_at_above 2 2 (suc (suc b)) (omega arith) (omega arith) in omega (arith, h, k)

no_bit : (b : ℕ) → bit_at 0 b ≡ 1 → ⊥
no_bit b h = let k : bit_at 0 b ≡ 0 = bit_at-zero b in omega (arith, h, k)

first_word : (w b : ℕ) → bit_at (get_or (2 ∷ 0 ∷ 0 ∷ 0 ∷ []) w 0) b ≡ 1 → (w ≡ 0) × (b ≡ 1)
first_word zero b h = (refl, one_bit b h)
first_word (suc zero) b h = absurd (no_bit b h)
first_word (suc (suc zero)) b h = absurd (no_bit b h)
first_word (suc (suc (suc zero))) b h = absurd (no_bit b h)
first_word (suc (suc (suc (suc w)))) b h = absurd (no_bit b h)

only_one : (i : ℕ) → HasMask masked i → i ≡ 1
only_one i h = let k = first_word (i / 64) (i % 64) h in omega (arith, k.0, k.1)

number_in : Option Name → ℕ
number_in None = 0
number_in (Some n) = n.0

other_number : ◌≡◌ {A = Option Name} (Some l) (Some v) → ⊥
unfolding number_in
other_number h = let k : ◌≡◌ {A = ℕ} 11 10 = ap number_in h in omega (arith, k)

one_place : (i : ℕ) → slice_get (l ∷ v ∷ []) i ≡ Some v → i ≡ 1
one_place zero h = absurd (other_number h)
one_place (suc zero) h = refl
one_place (suc (suc i)) h = absurd (cc h)

only_v : (i : ℕ) → IsMask (l ∷ v ∷ []) (word v ∷ []) i → i ≡ 1
only_v i m = by_place (in_cons (word v) [] m.mask m.among) where
  by_place : (word v ≡ m.mask) ⊎ Contains [] m.mask → i ≡ 1
  by_place (inl e) = one_place i (m.is ∙ ap (λ (n : Named). Some n.name) (sym e))
  by_place (inr c) = absurd (in_none m.mask c)

is_one : IsMask (l ∷ v ∷ []) (word v ∷ []) 1
is_one = record { mask = word v; among = (0, omega arith, refl); is = refl }

words_wide : (k d : ℕ) → k < 4 → get_or (2 ∷ 0 ∷ 0 ∷ 0 ∷ []) k d < 2 ^ 64
words_wide zero d h = lit< tt
words_wide (suc zero) d h = lit< tt
words_wide (suc (suc zero)) d h = lit< tt
words_wide (suc (suc (suc zero))) d h = lit< tt
words_wide (suc (suc (suc (suc k)))) d h = absurd (omega arith)

v_masked : MasksAre (l ∷ v ∷ []) (word v ∷ []) masked
v_masked = record {
  words = refl;
  wide = words_wide;
  each = λ i h. (
    λ m. subst (IsMask (l ∷ v ∷ []) (word v ∷ [])) (sym (only_one i m)) is_one,
    λ m. subst (HasMask masked) (sym (only_v i m)) refl,
  );
}

one_depth : (A B C : Path) → Contains (A ∷ []) B → Contains (A ∷ []) C → length B ≡ length C
one_depth A B C b c = sym (ap length (at_it B b)) ∙ ap length (at_it C c) where
  at_it : (D : Path) → Contains (A ∷ []) D → A ≡ D
  at_it D d = by_place (in_cons A [] D d) where
    by_place : (A ≡ D) ⊎ Contains [] D → A ≡ D
    by_place (inl e) = e
    by_place (inr e) = absurd (in_none D e)

lit_resolved : Resolve families (spot role.Value) vars (term head.Plain [] (base ∷ Lit ∷ [])) (Ok (atom Root [] (base ∷ Lit ∷ [])))
lit_resolved = record {
  anchor = Ok Root;
  given = record { found = Ok 2; sought = lit_sought; gives = refl };
  gives = in_class lit_class refl;
}

lit_in_field : Resolve families (spot role.Field) vars (term head.Plain [] (base ∷ Lit ∷ [])) (Ok (atom Root [] (base ∷ Lit ∷ [])))
lit_in_field = record {
  anchor = Ok Root;
  given = record { found = Ok 2; sought = lit_sought; gives = refl };
  gives = in_class lit_class refl;
}

pub masks_shown : MaskExamples
masks_shown = record {
  one = record {
    atoms = Ok (atom Root [] (base ∷ Lit ∷ []) ∷ []);
    all = first (atom Root [] (base ∷ Lit ∷ [])) (Ok []) lit_resolved (none refl) refl;
    gives = one (one_depth (Lit ∷ base ∷ [])) (record { first = None; unfit = inl ((lit_has_v, refl), refl); gives = record { masks = masked; are = v_masked; gives = refl } });
  };
  no_field = record {
    atoms = Ok (atom Root [] (base ∷ Lit ∷ []) ∷ []);
    all = first (atom Root [] (base ∷ Lit ∷ [])) (Ok []) lit_resolved (none refl) refl;
    gives = one (one_depth (Lit ∷ base ∷ [])) (record { first = Some (word l); unfit = inr (λ h. lit_has_no_l h.0, refl); gives = refl });
  };
  twice = record {
    atoms = Ok (atom Root [] (base ∷ Lit ∷ []) ∷ []);
    all = first (atom Root [] (base ∷ Lit ∷ [])) (Ok []) lit_resolved (none refl) refl;
    gives = one (one_depth (Lit ∷ base ∷ [])) (record { first = Some _; unfit = inl ((lit_has_v, refl), inr (λ h. cc h.1, refl)); gives = refl });
  };
  in_field = record {
    atoms = Ok (atom Root [] (base ∷ Lit ∷ []) ∷ []);
    all = first (atom Root [] (base ∷ Lit ∷ [])) (Ok []) lit_in_field (none refl) refl;
    gives = one (one_depth (Lit ∷ base ∷ [])) refl;
  };
}
