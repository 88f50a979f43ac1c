-- A term, a type, a view surely have an answer.
use Rattle.std.proofs.Common.{◌≡◌, ◌<◌, ◌^◌, ◌*◌, ◌+◌, ◌/◌, ◌%◌, ℕ, zero, suc, Bool, true, false, List, [], ◌∷◌, ◌++◌, length, drop, reverse, get_or, Contains, refl, sym, ap, ◌∙◌, subst, ◌⊎◌, inl, inr, Option, Some, None, Result, Ok, Err, arith, ◌↔◌}
use Rattle.std.specs.Int.{bit_at}
use Rattle.std.proofs.lemmas.Nat.Bits.{bit_at-suc, bit_at_lowest}
use Rattle.std.proofs.lemmas.List.Elements.{All-nil, All-cons}
use Rattle.std.proofs.Math.Nat.{pow-succ'}
use Rattle.jn_base.specs.declared.tree.Name.{Name}
use Rattle.jn_base.specs.declared.tree.Named.{Named}
use Rattle.jn_base.specs.declared.tree.Constraint.{Constraint}
use Rattle.jn_base.specs.declared.tree.Ref.{Ref}
use Rattle.jn_base.specs.declared.tree.Head.{Head}
use Rattle.jn_base.specs.declared.tree.Head.TheVariants as head
use Rattle.jn_base.specs.declared.tree.Term.{Term}
use Rattle.jn_base.specs.declared.tree.TypeTerm.{TypeTerm}
use Rattle.jn_base.specs.declared.tree.TypeTerm.TheVariants as type
use Rattle.jn_base.specs.declared.tree.ViewTerm.{ViewTerm}
use Rattle.jn_base.specs.declared.tree.Program.{Program}
use Rattle.jn_base.specs.declared.types.Anchor.{Anchor}
use Rattle.jn_base.specs.declared.types.Atom.{Atom as ShownAtom}
use Rattle.jn_base.specs.declared.types.Masks.{Masks}
use Rattle.jn_base.specs.declared.types.Ty.{Ty}
use Rattle.jn_base.specs.declared.types.Ty.TheVariants as ty
use Rattle.jn_base.specs.declared.names.Role.TheVariants as role
use Rattle.jn_base.specs.declared.names.Spot.{Spot}
use Rattle.jn_base.specs.declared.names.Vars.{Vars}
use Rattle.jn_base.specs.declared.refusal.Refusal.{Refusal}
use Rattle.jn_base.specs.Paths.{Path}
use Rattle.jn_base.specs.Supers.{Member}
use Rattle.jn_base.specs.Atoms.{HasMask, MasksOf}
use Rattle.jn_base.specs.Resolve.{class_of, scope_at, FirstUnknown, FoundOut, FoundNowhere, FirstSought, nowhere, found, Sought, Before, IsPath, NotInScope, NoPath, names_of, IsAbove, Behind, unknown_name, not_above, above, BoundGives, PathGives, PrefixGives, AnchorGiven, atom_with, bound_at, IsOfClass, ClassGives, no_class, in_class, SuitGives, AtomGives, Resolve}
use Rattle.jn_base.specs.ResolveTypes.{mask_names, IsMask, MaskFits, FirstUnfit, before_all, ResolveAll, none, refused, first, bounds_at, OneDepth, may_mask, Taken, UnfitGives, UnmaskedGives, MasksGive, DepthsGive, many, one, AtomsGive, ResolveClass, ResolveType, ResolveView}
use Rattle.jn_base.proofs.NameTests.{in_cons, in_none}
use Rattle.jn_sem.specs.Terms.{Site, spot_at, vars_at}
use Rattle.jn_rules.specs.Plans.{Target, Pledge}
use Rattle.jn_rules.specs.Questions.{as_type, TargetIs, ConstraintGives, left_refused, right_refused, both}
use Rattle.jn_rules.proofs.Targets.{target_of}
use Rattle.jn_laws.specs.Surely.{Surely}

-- what can't be, whether T is so or not, can't be
pub by_cases : {T : Type 0} → (T → ⊥) → ((T → ⊥) → ⊥) → ⊥
by_cases holds fails = fails holds

below_or_at : (i j : ℕ) → i < suc j → (i < j) ⊎ (i ≡ j)
below_or_at zero zero l = inr refl
below_or_at zero (suc j) l = inl (omega arith)
below_or_at (suc i) zero l = absurd (omega (arith, l))
below_or_at (suc i) (suc j) l = elim (below_or_at i j (omega (arith, l))) [ inl k ↦ inl (omega (arith, k)) | inr q ↦ inr (ap suc q) ]

-- ---- the names of a term

module _ (p : Program) where
  unknown_there : (B : Path) (ns : List Name) → Surely ((o : Option Name) × FirstUnknown p B ns o)
  unknown_there B [] free = free (None, refl)
  unknown_there B (N ∷ ns) free =
      by_cases (λ (m : Member p B N). unknown_there (N ∷ B) ns (λ h. free (h.0, inl (m, h.1)))) (λ n. free (Some N, inr (n, refl)))

  lower : (Q : Path) (N : Name) (j : ℕ) → ((i : ℕ) → i < j → Member p (drop i Q) N → ⊥) → (Member p (drop j Q) N → ⊥)
      → (i : ℕ) → (i < j) ⊎ (i ≡ j) → Member p (drop i Q) N → ⊥
  lower Q N j below n i (inl k) m = below i k m
  lower Q N j below n i (inr q) m = n (subst (λ (h : ℕ). Member p (drop h Q) N) q m)

  -- from the level j on, where the levels below have no such member
  out_from : (Q : Path) (N : Name) (more j : ℕ) → j + more ≡ suc (length Q) → ((i : ℕ) → i < j → Member p (drop i Q) N → ⊥)
      → Surely (FoundNowhere p Q N ⊎ ((k : ℕ) × FoundOut p Q N k))
  out_from Q N zero j e below free = free (inl (λ k le. below k (omega (arith, e, le))))
  out_from Q N (suc more) j e below free =
      by_cases (λ (m : Member p (drop j Q) N). free (inr (j, record { within = omega (arith, e); member = m; innermost = below })))
      (λ n. out_from Q N more (suc j) (omega (arith, e)) (λ i l. lower Q N j below n i (below_or_at i j l)) free)

  first_sought_there : (Q : Path) (N : Name) (ns : List Name) → Surely ((o : Result ℕ Name) × FirstSought p Q N ns o)
  first_sought_there Q N ns free = out_from Q N (suc (length Q)) 0 (omega arith) (λ i l. absurd (omega (arith, l))) at where
    at : FoundNowhere p Q N ⊎ ((k : ℕ) × FoundOut p Q N k) → ⊥
    at (inl n) = free (Err N, nowhere n refl)
    at (inr f) = unknown_there (N ∷ drop f.0 Q) ns (λ u. free (_, found f.0 u.0 f.1 u.1 refl))

  sought_there : (Q : Path) (ns : List Name) → Surely ((o : Result ℕ Name) × Sought p Q ns o)
  sought_there Q [] free = free (_, refl)
  sought_there Q (N ∷ ns) free = first_sought_there Q N ns free

  -- ---- a term

  module _ (spot : Spot) (vars : Vars) (t : Term) where
    behind_there : (front : Option Path) (V : Path) (a : Anchor) → Surely ((o : Result Anchor Refusal) × Behind p spot t front V a o)
    behind_there front V a free = unknown_there V (names_of t) (λ u. at u.0 u.1) where
      at : (u : Option Name) → FirstUnknown p V (names_of t) u → ⊥
      at (Some N) h = free (_, unknown_name N h refl)
      at None h = by_cases (λ (i : IsAbove p front V). free (_, above h i refl)) (λ n. free (_, not_above h n refl))

    bound_there : (front : Option Path) (q : ℕ) (V : Path) (k : Option ℕ) → Surely ((o : Result Anchor Refusal) × BoundGives p spot t front q V k o)
    bound_there front q V None free = free (_, refl)
    bound_there front q V (Some n) free = behind_there front (drop n V) _ free

    path_there : (front : Option Path) (x : Before) → Surely ((o : Result Anchor Refusal) × PathGives p spot (scope_at spot vars) t front x o)
    path_there front (NotInScope x) free = free (_, refl)
    path_there front NoPath free = free (_, refl)
    path_there front (IsPath q) free = bound_there front q _ _ free

    prefix_there : (P : List Name) (r : Ref) (x : Result ℕ Name) → Surely ((o : Result Anchor Refusal) × PrefixGives p spot vars t P r x o)
    prefix_there P r (Err N) free = free (_, refl)
    prefix_there P r (Ok k) free = path_there (Some (reverse P ++ drop k (class_of spot))) _ free

    anchor_there : (h : Head) → Surely ((o : Result Anchor Refusal) × AnchorGiven p spot vars t h o)
    anchor_there head.Plain free = sought_there (class_of spot) (names_of t) (λ x. free (_, record { found = x.0; sought = x.1; gives = refl }))
    anchor_there (head.Own r) free = path_there None _ free
    anchor_there (head.Prefix P r) free =
        sought_there (class_of spot) P (λ x. prefix_there P r x.0 (λ o. free (o.0, record { found = x.0; sought = x.1; gives = o.1 })))

    class_there : (B : Path) (x : ShownAtom) → Surely ((o : Result ShownAtom Refusal) × ClassGives p spot t B x o)
    class_there B x free = by_cases (λ (c : IsOfClass p spot.role B). free (_, in_class c refl)) (λ n. free (_, no_class n refl))

    suit_there : (x : ShownAtom) (b : Bool) → Surely ((o : Result ShownAtom Refusal) × SuitGives p spot vars t x b o)
    suit_there x false free = free (_, refl)
    suit_there x true free = class_there (bound_at spot vars x) x free

    atom_there : (a : Result Anchor Refusal) → Surely ((o : Result ShownAtom Refusal) × AtomGives p spot vars t a o)
    atom_there (Err r) free = free (_, refl)
    atom_there (Ok a) free = suit_there (atom_with a t) _ free

    pub term_there : Surely ((o : Result ShownAtom Refusal) × Resolve p spot vars t o)
    term_there free = anchor_there t.head (λ a. atom_there a.0 (λ o. free (o.0, record { anchor = a.0; given = a.1; gives = o.1 })))

-- ---- sets of masks

half : (b : Bool) → ℕ
half true = 1
half false = 0

-- a number of k bits with these bits set
bits_there : (k : ℕ) (T : ℕ → Type 0) → Surely ((n : ℕ) × (n < 2 ^ k) × ((i : ℕ) → i < k → bit_at n i ≡ 1 ↔ T i))
bits_there zero T free = free (0, omega arith, λ i l. absurd (omega (arith, l)))
bits_there (suc k) T free = bits_there k (λ i. T (suc i)) (λ r. by_cases (set r.0 r.1 r.2) (clear r.0 r.1 r.2)) where
  double : 2 ^ suc k ≡ 2 * 2 ^ k
  double = pow-succ' 2 k

  upper : (m n : ℕ) → n / 2 ≡ m → (i : ℕ) → bit_at n (suc i) ≡ bit_at m i
  upper m n e i = bit_at-suc n i ∙ ap (λ (x : ℕ). bit_at x i) e

  whole : (m n : ℕ) → n / 2 ≡ m → (bit_at n 0 ≡ 1 ↔ T 0) → ((i : ℕ) → i < k → bit_at m i ≡ 1 ↔ T (suc i)) → (i : ℕ) → i < suc k → bit_at n i ≡ 1 ↔ T i
  whole m n e low high zero l = low
  whole m n e low high (suc i) l =
      let h = high i (omega (arith, l)) in (λ x. h.0 (sym (upper m n e i) ∙ x), λ t. upper m n e i ∙ h.1 t)

  set : (m : ℕ) → m < 2 ^ k → ((i : ℕ) → i < k → bit_at m i ≡ 1 ↔ T (suc i)) → T 0 → ⊥
  set m l high t =
      let low : bit_at (2 * m + 1) 0 ≡ 1 = bit_at_lowest (2 * m + 1) ∙ omega arith in
      free (2 * m + 1, omega (arith, l, double), whole m (2 * m + 1) (omega arith) (λ x. t, λ x. low) high)

  clear : (m : ℕ) → m < 2 ^ k → ((i : ℕ) → i < k → bit_at m i ≡ 1 ↔ T (suc i)) → (T 0 → ⊥) → ⊥
  clear m l high n =
      let low : bit_at (2 * m) 0 ≡ 0 = bit_at_lowest (2 * m) ∙ omega arith in
      free (2 * m, omega (arith, l, double), whole m (2 * m) (omega arith) (λ x. absurd (omega (arith, low, x)), λ t. absurd (n t)) high)

abbrev four : (a b c d : ℕ) → Masks
four a b c d = record { 0 = a ∷ b ∷ c ∷ d ∷ [] }

-- the word of this number
record Word (T : ℕ → Type 0) (w : ℕ) : Type 0 where
  is : ℕ
  wide : is < 2 ^ 64
  bits : (i : ℕ) → i < 64 → bit_at is i ≡ 1 ↔ T (w * 64 + i)

word_there : (T : ℕ → Type 0) (w : ℕ) → Surely (Word T w)
word_there T w free = bits_there 64 (λ i. T (w * 64 + i)) (λ r. free (record { is = r.0; wide = r.1; bits = r.2 }))

module _ (T : ℕ → Type 0) (a : Word T 0) (b : Word T 1) (c : Word T 2) (d : Word T 3) where
  in_word : (w i : ℕ) → w < 4 → i < 64 → bit_at (get_or (a.is ∷ b.is ∷ c.is ∷ d.is ∷ []) w 0) i ≡ 1 ↔ T (w * 64 + i)
  in_word zero i l j = a.bits i j
  in_word (suc zero) i l j = b.bits i j
  in_word (suc (suc zero)) i l j = c.bits i j
  in_word (suc (suc (suc zero))) i l j = d.bits i j
  in_word (suc (suc (suc (suc w)))) i l j = absurd (omega (arith, l))

  in_place : (i : ℕ) → i / 64 * 64 + i % 64 ≡ i
  in_place i = omega arith

  of_four : MasksOf T (four a.is b.is c.is d.is)
  of_four = record {
    words = refl;
    wide = let small : ℕ → Type 0 = λ w. w < 2 ^ 64 in
        All-cons small a.is (b.is ∷ c.is ∷ d.is ∷ []) a.wide (All-cons small b.is (c.is ∷ d.is ∷ []) b.wide
        (All-cons small c.is (d.is ∷ []) c.wide (All-cons small d.is [] d.wide (All-nil small))));
    each = λ i l. subst (λ (n : ℕ). HasMask (four a.is b.is c.is d.is) i ↔ T n) (in_place i) (in_word (i / 64) (i % 64) (omega (arith, l)) (omega arith));
  }

pub masks_there : (T : ℕ → Type 0) → Surely ((m : Masks) × MasksOf T m)
masks_there T free =
    word_there T 0 (λ a. word_there T 1 (λ b. word_there T 2 (λ c. word_there T 3 (λ d.
    free (four a.is b.is c.is d.is, of_four T a b c d)))))

-- ---- types and views

module _ (p : Program) (names : List Name) (spot : Spot) (vars : Vars) where
  more_there : (t : Term) (ts : List Term) → Surely ((o : Result (List ShownAtom) Refusal) × ResolveAll p spot vars ts o)
      → (x : Result ShownAtom Refusal) → Resolve p spot vars t x → Surely ((o : Result (List ShownAtom) Refusal) × ResolveAll p spot vars (t ∷ ts) o)
  more_there t ts others (Err r) h free = free (_, refused r h refl)
  more_there t ts others (Ok x) h free = others (λ o. free (_, first x o.0 h o.1 refl))

  all_there : (ts : List Term) → Surely ((o : Result (List ShownAtom) Refusal) × ResolveAll p spot vars ts o)
  all_there [] free = free (_, none refl)
  all_there (t ∷ ts) free = term_there p spot vars t (λ x. more_there t ts (all_there ts) x.0 x.1 free)

  unfit_there : (bounds : List Path) (seen : List Name) (ms : List Named) → Surely ((o : Option Named) × FirstUnfit p bounds seen ms o)
  unfit_there bounds seen [] free = free (None, refl)
  unfit_there bounds seen (m ∷ ms) free =
      by_cases (λ (f : MaskFits p bounds seen m). unfit_there bounds (m.name ∷ seen) ms (λ h. free (h.0, inl (f, h.1))))
      (λ n. free (Some m, inr (n, refl)))

  taken_there : (xs : List ShownAtom) (ms : List Named) → Surely ((o : Result Ty Refusal) × Taken names xs ms o)
  taken_there xs ms free =
      masks_there (IsMask names ms) (λ m. free (_, record { masks = m.0; are = record { words = m.1.words; wide = m.1.wide; each = m.1.each }; gives = refl }))

  unfit_gives_there : (xs : List ShownAtom) (ms : List Named) (u : Option Named) → Surely ((o : Result Ty Refusal) × UnfitGives names spot xs ms u o)
  unfit_gives_there xs ms (Some m) free = free (_, refl)
  unfit_gives_there xs ms None free = taken_there xs ms free

  unmasked_there : (xs : List ShownAtom) (ms : List Named) → Surely ((o : Result Ty Refusal) × UnmaskedGives names spot xs ms o)
  unmasked_there xs [] free = taken_there xs [] free
  unmasked_there xs (m ∷ ms) free = free (_, refl)

  masks_give_there : (bounds : List Path) (xs : List ShownAtom) (ms : List Named) (b : Bool) → Surely ((o : Result Ty Refusal) × MasksGive p names spot bounds xs ms b o)
  masks_give_there bounds xs ms true free =
      unfit_there bounds [] ms (λ u. unfit_gives_there xs ms u.0 (λ o. free (o.0, record { first = u.0; unfit = u.1; gives = o.1 })))
  masks_give_there bounds xs ms false free = unmasked_there xs ms free

  -- bounds of two depths are of two terms
  one_alone : (B C D : Path) → Contains (D ∷ []) B → Contains (D ∷ []) C → length B ≡ length C
  one_alone B C D b c = elim (in_cons D [] B b) [
    | inr n ↦ absurd (in_none B n)
    | inl e ↦ elim (in_cons D [] C c) [ inr n ↦ absurd (in_none C n) | inl f ↦ ap length (sym e ∙ f) ]
  ]

  depths_there : (ts : List Term) (ms : List Named) (xs : List ShownAtom) → ResolveAll p spot vars ts (Ok xs)
      → (OneDepth (bounds_at spot vars xs) → ⊥) → (one : Term) × (two : Term) × (others : List Term) × (ts ≡ one ∷ two ∷ others)
  depths_there [] ms xs (none e) n = absurd (n (nothing xs e)) where
    nothing : (xs : List ShownAtom) → ◌≡◌ {A = Result (List ShownAtom) Refusal} (Ok xs) (Ok []) → OneDepth (bounds_at spot vars xs)
    nothing [] e B C b c = absurd (in_none B b)
    nothing (x ∷ xs) e B C b c = absurd (cc e)
  depths_there (t ∷ []) ms xs (refused r h e) n = absurd (cc e)
  depths_there (t ∷ []) ms xs (first x others h (none f) e) n = absurd (n (alone xs others f e)) where
    alone : (xs : List ShownAtom) (others : Result (List ShownAtom) Refusal) → others ≡ Ok [] → ◌≡◌ {A = Result (List ShownAtom) Refusal} (Ok xs) (before_all x others)
        → OneDepth (bounds_at spot vars xs)
    alone [] others f e B C b c = absurd (in_none B b)
    alone (y ∷ []) others f e B C b c = one_alone B C (bound_at spot vars y) b c
    alone (y ∷ z ∷ zs) others f e B C b c = absurd (two_of f e) where
      two_of : others ≡ Ok [] → ◌≡◌ {A = Result (List ShownAtom) Refusal} (Ok (y ∷ z ∷ zs)) (before_all x others) → ⊥
      two_of f e = let g : ◌≡◌ {A = Result (List ShownAtom) Refusal} (Ok (y ∷ z ∷ zs)) (Ok (x ∷ [])) = e ∙ ap (before_all x) f in cc g
  depths_there (t ∷ u ∷ ts) ms xs r n = (t, u, ts, refl)

  atoms_there : (ts : List Term) (ms : List Named) (x : Result (List ShownAtom) Refusal) → ResolveAll p spot vars ts x
      → Surely ((o : Result Ty Refusal) × AtomsGive p names spot vars ts ms x o)
  atoms_there ts ms (Err r) h free = free (_, refl)
  atoms_there ts ms (Ok xs) h free =
      by_cases (λ (d : OneDepth (bounds_at spot vars xs)). masks_give_there (bounds_at spot vars xs) xs ms (may_mask spot.role) (λ o. free (o.0, one d o.1)))
      (λ n. let two = depths_there ts ms xs h n in free (_, many two.0 two.1 two.2 n two.3 refl))

  class_type_there : (ts : List Term) (ms : List Named) → Surely ((o : Result Ty Refusal) × ResolveClass p names spot vars ts ms o)
  class_type_there ts ms free =
      all_there ts (λ x. atoms_there ts ms x.0 x.1 (λ o. free (o.0, record { atoms = x.0; all = x.1; gives = o.1 })))

  pub type_there : (t : TypeTerm) → Surely ((o : Result Ty Refusal) × ResolveType p names spot vars t o)
  type_there type.Int free = free (_, refl)
  type_there type.Bool free = free (_, refl)
  type_there (type.Class ts ms) free = class_type_there ts ms free

  -- ---- a view

  pub view_there : (v : ViewTerm) → Surely ((x : Result Target Refusal) × ResolveView p names spot vars v (as_type x))
  view_there v free = class_type_there (v.term ∷ []) v.masks (λ o. at o.0 o.1 (target_of p names spot vars v.term v.masks o.0 o.1.atoms o.1.all o.1.gives)) where
    at : (o : Result Ty Refusal) → ResolveView p names spot vars v o → (y : Result Target Refusal) × (o ≡ as_type y) → ⊥
    at o h y = free (y.0, subst (ResolveView p names spot vars v) y.1 h)

-- ---- a constraint

pub constraint_there : (p : Program) (at : Site) (c : Constraint) → Surely ((o : Result Pledge Refusal) × ConstraintGives p at c o)
constraint_there p at c free = view_there p (mask_names p) (spot_at at role.From) (vars_at at) c.from (λ x. from_left x.0 x.1) where
  from_right : (x : Target) → TargetIs p role.From at c.from (Ok x) → (y : Result Target Refusal) → TargetIs p role.To at c.to y → ⊥
  from_right x h (Ok y) k = free (_, both x y h k refl)
  from_right x h (Err r) k = free (_, right_refused x r h k refl)

  from_left : (x : Result Target Refusal) → TargetIs p role.From at c.from x → ⊥
  from_left (Err r) h = free (_, left_refused r h refl)
  from_left (Ok x) h = view_there p (mask_names p) (spot_at at role.To) (vars_at at) c.to (λ y. from_right x h y.0 y.1)
