-- A term, a type and a view resolve to one answer.
use Rattle.std.proofs.Common.{◌≡◌, ◌<◌, ◌^◌, ◌*◌, ◌+◌, ◌/◌, ◌%◌, ℕ, zero, suc, Bool, true, false, List, [], ◌∷◌, ◌++◌, length, drop, reverse, get_or, refl, sym, ap, ◌∙◌, subst, ◌⊎◌, inl, inr, Option, Some, None, Result, Ok, Err, arith, ◌↔◌}
use Rattle.std.specs.Int.{bit_at}
use Rattle.std.proofs.lemmas.Bool.{cases_order}
use Rattle.std.proofs.lemmas.Nat.Bits.{bit_at-suc, bit_at_lowest}
use Rattle.std.proofs.lemmas.Grind.{same_number_lists}
use Rattle.std.proofs.Math.Nat.{pow-succ'}
use Rattle.jn_base.specs.declared.tree.Name.{Name}
use Rattle.jn_base.specs.declared.tree.Named.{Named}
use Rattle.jn_base.specs.declared.tree.Ref.{Ref}
use Rattle.jn_base.specs.declared.tree.Head.{Head}
use Rattle.jn_base.specs.declared.tree.Head.TheVariants as head
use Rattle.jn_base.specs.declared.tree.Term.{Term}
use Rattle.jn_base.specs.declared.tree.TypeTerm.{TypeTerm}
use Rattle.jn_base.specs.declared.tree.TypeTerm.TheVariants as type
use Rattle.jn_base.specs.declared.tree.ViewTerm.{ViewTerm}
use Rattle.jn_base.specs.declared.tree.Program.{Program}
use Rattle.jn_base.specs.declared.types.Anchor.{Anchor}
use Rattle.jn_base.specs.declared.types.Atom.{Atom as ShownAtom}
use Rattle.jn_base.specs.declared.types.Masks.{Masks}
use Rattle.jn_base.specs.declared.types.Ty.{Ty}
use Rattle.jn_base.specs.declared.types.Ty.TheVariants as ty
use Rattle.jn_base.specs.declared.names.Spot.{Spot}
use Rattle.jn_base.specs.declared.names.Vars.{Vars}
use Rattle.jn_base.specs.declared.refusal.Refusal.{Refusal}
use Rattle.jn_base.specs.declared.refusal.Rule.TheVariants as rule
use Rattle.jn_base.specs.Paths.{Path}
use Rattle.jn_base.specs.Resolve.{class_of, scope_at, unknown, at_term, FirstUnknown, FoundOut, sought_gives, FirstSought, nowhere, found, Sought, Before, IsPath, NotInScope, NoPath, names_of, Behind, unknown_name, not_above, above, BoundGives, PathGives, plain_gives, PrefixGives, AnchorGiven, atom_with, bound_at, ClassGives, no_class, in_class, SuitGives, AtomGives, Resolve}
use Rattle.jn_base.specs.ResolveTypes.{IsMask, MasksAre, FirstUnfit, before_all, ResolveAll, none, refused, first, bounds_at, may_mask, Taken, UnfitGives, UnmaskedGives, MasksGive, DepthsGive, many, one, AtomsGive, ResolveClass, ResolveType, ResolveView}

-- two of one value
same : {A : Type 0} {a b c : A} → a ≡ c → b ≡ c → a ≡ b
same e f = e ∙ sym f

-- the first of a list that has not P, given P's answer at the first element
first_once : {A P R S : Type 0} (x a b : Option A) → (R → S → a ≡ b) → (P × R) ⊎ ((P → ⊥) × (a ≡ x)) → (P × S) ⊎ ((P → ⊥) × (b ≡ x)) → a ≡ b
first_once x a b k (inl h) (inl j) = k h.1 j.1
first_once x a b k (inl h) (inr j) = absurd (j.0 h.0)
first_once x a b k (inr h) (inl j) = absurd (h.0 j.0)
first_once x a b k (inr h) (inr j) = same h.1 j.1

module _ (p : Program) where
  unknown_once : (ns : List Name) (B : Path) (a b : Option Name) → FirstUnknown p B ns a → FirstUnknown p B ns b → a ≡ b
  unknown_once [] B a b h k = same h k
  unknown_once (N ∷ ns) B a b h k = first_once (Some N) a b (λ i j. unknown_once ns (N ∷ B) a b i j) h k

  out_once : (Q : Path) (N : Name) (j k : ℕ) → FoundOut p Q N j → FoundOut p Q N k → j ≡ k
  out_once Q N j k f g = by_order (cases_order j k) where
    by_order : (j ≡ k) ⊎ ((j < k) ⊎ (k < j)) → j ≡ k
    by_order (inl e) = e
    by_order (inr (inl h)) = absurd (g.innermost j h f.member)
    by_order (inr (inr h)) = absurd (f.innermost k h g.member)

  first_sought_once : (Q : Path) (N : Name) (ns : List Name) (a b : Result ℕ Name) → FirstSought p Q N ns a → FirstSought p Q N ns b → a ≡ b
  first_sought_once Q N ns a b (nowhere n e) (nowhere m f) = same e f
  first_sought_once Q N ns a b (nowhere n e) (found k u f v w) = absurd (n k f.within f.member)
  first_sought_once Q N ns a b (found k u f v w) (nowhere n e) = absurd (n k f.within f.member)
  first_sought_once Q N ns a b (found j u f v e) (found k w g x i) = by_levels (out_once Q N j k f g) where
    by_levels : j ≡ k → a ≡ b
    by_levels l = let x' : FirstUnknown p (N ∷ drop j Q) ns w = subst (λ (n : ℕ). FirstUnknown p (N ∷ drop n Q) ns w) (sym l) x in
        let same_name : u ≡ w = unknown_once ns (N ∷ drop j Q) u w v x' in
        e ∙ (ap (λ (o : Option Name). sought_gives j o) same_name ∙ (ap (λ (n : ℕ). sought_gives n w) l ∙ sym i))

  sought_once : (Q : Path) (ns : List Name) (a b : Result ℕ Name) → Sought p Q ns a → Sought p Q ns b → a ≡ b
  sought_once Q [] a b h k = same h k
  sought_once Q (N ∷ ns) a b h k = first_sought_once Q N ns a b h k

  module _ (spot : Spot) (vars : Vars) (t : Term) where
    behind_once : (front : Option Path) (V : Path) (x : Anchor) (a b : Result Anchor Refusal) → Behind p spot t front V x a → Behind p spot t front V x b → a ≡ b
    behind_once front V x a b (unknown_name N h e) (unknown_name M k f) = by_name (unknown_once (names_of t) V (Some N) (Some M) h k) where
      by_name : ◌≡◌ {A = Option Name} (Some N) (Some M) → a ≡ b
      by_name l = let m : N ≡ M = cc in e ∙ (ap (λ (n : Name). Err (unknown spot t n)) m ∙ sym f)
    behind_once front V x a b (unknown_name N h e) (not_above k n f) = absurd (let l = unknown_once (names_of t) V (Some N) None h k in cc)
    behind_once front V x a b (unknown_name N h e) (above k n f) = absurd (let l = unknown_once (names_of t) V (Some N) None h k in cc)
    behind_once front V x a b (not_above h n e) (unknown_name M k f) = absurd (let l = unknown_once (names_of t) V None (Some M) h k in cc)
    behind_once front V x a b (not_above h n e) (not_above k m f) = same e f
    behind_once front V x a b (not_above h n e) (above k m f) = absurd (n m)
    behind_once front V x a b (above h n e) (unknown_name M k f) = absurd (let l = unknown_once (names_of t) V None (Some M) h k in cc)
    behind_once front V x a b (above h n e) (not_above k m f) = absurd (m n)
    behind_once front V x a b (above h n e) (above k m f) = same e f

    bound_once : (front : Option Path) (q : ℕ) (V : Path) (k : Option ℕ) (a b : Result Anchor Refusal)
        → BoundGives p spot t front q V k a → BoundGives p spot t front q V k b → a ≡ b
    bound_once front q V None a b h k = same h k
    bound_once front q V (Some n) a b h k = behind_once front (drop n V) _ a b h k

    path_once : (front : Option Path) (x : Before) (a b : Result Anchor Refusal)
        → PathGives p spot (scope_at spot vars) t front x a → PathGives p spot (scope_at spot vars) t front x b → a ≡ b
    path_once front (NotInScope x) a b h k = same h k
    path_once front NoPath a b h k = same h k
    path_once front (IsPath q) a b h k = bound_once front q _ _ a b h k

    prefix_gives_once : (P : List Name) (r : Ref) (x : Result ℕ Name) (a b : Result Anchor Refusal)
        → PrefixGives p spot vars t P r x a → PrefixGives p spot vars t P r x b → a ≡ b
    prefix_gives_once P r (Err N) a b h k = same h k
    prefix_gives_once P r (Ok n) a b h k = path_once (Some (reverse P ++ drop n (class_of spot))) _ a b h k

    anchor_once : (h : Head) (a b : Result Anchor Refusal) → AnchorGiven p spot vars t h a → AnchorGiven p spot vars t h b → a ≡ b
    anchor_once head.Plain a b h k =
        h.gives ∙ (ap (plain_gives spot t) (sought_once (class_of spot) (names_of t) h.found k.found h.sought k.sought) ∙ sym k.gives)
    anchor_once (head.Own r) a b h k = path_once None _ a b h k
    anchor_once (head.Prefix P r) a b h k =
        prefix_gives_once P r h.found a b h.gives
        (subst (λ (x : Result ℕ Name). PrefixGives p spot vars t P r x b) (sought_once (class_of spot) P k.found h.found k.sought h.sought) k.gives)

    class_once : (B : Path) (x : ShownAtom) (a b : Result ShownAtom Refusal) → ClassGives p spot t B x a → ClassGives p spot t B x b → a ≡ b
    class_once B x a b (no_class n e) (no_class m f) = same e f
    class_once B x a b (no_class n e) (in_class m f) = absurd (n m)
    class_once B x a b (in_class n e) (no_class m f) = absurd (m n)
    class_once B x a b (in_class n e) (in_class m f) = same e f

    suit_once : (x : ShownAtom) (s : Bool) (a b : Result ShownAtom Refusal) → SuitGives p spot vars t x s a → SuitGives p spot vars t x s b → a ≡ b
    suit_once x false a b h k = same h k
    suit_once x true a b h k = class_once (bound_at spot vars x) x a b h k

    atom_once : (x : Result Anchor Refusal) (a b : Result ShownAtom Refusal) → AtomGives p spot vars t x a → AtomGives p spot vars t x b → a ≡ b
    atom_once (Err r) a b h k = same h k
    atom_once (Ok x) a b h k = suit_once (atom_with x t) _ a b h k

    pub term_once : (a b : Result ShownAtom Refusal) → Resolve p spot vars t a → Resolve p spot vars t b → a ≡ b
    term_once a b h k =
        atom_once h.anchor a b h.gives
        (subst (λ (x : Result Anchor Refusal). AtomGives p spot vars t x b) (anchor_once t.head k.anchor h.anchor k.given h.given) k.gives)

-- ---- sets of masks

same_parity : (a b : ℕ) → a < 2 → b < 2 → (a ≡ 1 → b ≡ 1) → (b ≡ 1 → a ≡ 1) → a ≡ b
same_parity zero b i j f g = by_bit b j g where
  by_bit : (b : ℕ) → b < 2 → (b ≡ 1 → zero ≡ suc zero) → zero ≡ b
  by_bit zero j g = refl
  by_bit (suc n) j g = let e : n ≡ 0 = omega arith in absurd (let k = g (ap suc e) in omega (arith, k))
same_parity (suc a) b i j f g = let e : a ≡ 0 = omega arith in let k : b ≡ 1 = f (ap suc e) in omega (arith, e, k)

-- numbers of k bits with the same bits set are one
same_bits : (k m n : ℕ) → m < 2 ^ k → n < 2 ^ k → ((i : ℕ) → i < k → bit_at m i ≡ 1 ↔ bit_at n i ≡ 1) → m ≡ n
same_bits zero m n h j e = omega (arith, h, j)
same_bits (suc k) m n h j e =
    let m0 : bit_at m 0 ≡ m % 2 = bit_at_lowest m in
    let n0 : bit_at n 0 ≡ n % 2 = bit_at_lowest n in
    let there : m % 2 ≡ 1 → n % 2 ≡ 1 = λ x. sym n0 ∙ (e 0 (omega arith)).0 (m0 ∙ x) in
    let back : n % 2 ≡ 1 → m % 2 ≡ 1 = λ x. sym m0 ∙ (e 0 (omega arith)).1 (n0 ∙ x) in
    let lowest : m % 2 ≡ n % 2 = same_parity (m % 2) (n % 2) (omega arith) (omega arith) there back in
    let double : 2 ^ suc k ≡ 2 * 2 ^ k = pow-succ' 2 k in
    let rest : m / 2 ≡ n / 2 = same_bits k (m / 2) (n / 2) (omega arith) (omega arith)
    (λ i l. (λ x. sym (bit_at-suc n i) ∙ (e (suc i) (omega arith)).0 (bit_at-suc m i ∙ x), λ x. sym (bit_at-suc m i) ∙ (e (suc i) (omega arith)).1 (bit_at-suc n i ∙ x))) in
    omega arith

masks_once : (names : List Name) (ms : List Named) (a b : Masks) → MasksAre names ms a → MasksAre names ms b → a ≡ b
masks_once names ms a b h k =
    ap (λ (xs : List ℕ). let m : Masks = record { 0 = xs } in m) (same_number_lists a.0 b.0 (h.words ∙ sym k.words) each_word) where
      number : (w i : ℕ) → w < 4 → i < 64 → (w * 64 + i) / 64 ≡ w
      number w i l j = omega arith

      place : (w i : ℕ) → w < 4 → i < 64 → (w * 64 + i) % 64 ≡ i
      place w i l j = omega arith

      bits : (m : Masks) → MasksAre names ms m → (w i : ℕ) → w < 4 → i < 64 → bit_at (get_or m.0 w 0) i ≡ 1 ↔ IsMask names ms (w * 64 + i)
      bits m are w i l j = let e : w * 64 + i < 256 = omega arith in
          rw (number w i l j, place w i l j) at (are.each (w * 64 + i) e)

      wide : (m : Masks) → MasksAre names ms m → (w : ℕ) → w < 4 → get_or m.0 w 0 < 2 ^ 64
      wide m are w l = are.wide w 0 (omega (arith, are.words, l))

      each_word : (w : ℕ) → w < length a.0 → get_or a.0 w 0 ≡ get_or b.0 w 0
      each_word w l = let l4 : w < 4 = omega (arith, h.words, l) in
          same_bits 64 (get_or a.0 w 0) (get_or b.0 w 0) (wide a h w l4) (wide b k w l4)
          (λ i j. (λ x. (bits b k w i l4 j).1 ((bits a h w i l4 j).0 x), λ x. (bits a h w i l4 j).1 ((bits b k w i l4 j).0 x)))

-- ---- types and views

module _ (p : Program) (names : List Name) (spot : Spot) (vars : Vars) where
  all_once : (ts : List Term) (a b : Result (List ShownAtom) Refusal) → ResolveAll p spot vars ts a → ResolveAll p spot vars ts b → a ≡ b
  all_once [] a b (none e) (none f) = same e f
  all_once (t ∷ ts) a b (refused r h e) (refused q k f) = same_refusal (term_once p spot vars t (Err r) (Err q) h k) where
    same_refusal : ◌≡◌ {A = Result ShownAtom Refusal} (Err r) (Err q) → a ≡ b
    same_refusal i = let j : r ≡ q = cc in e ∙ (ap (λ (x : Refusal). Err x) j ∙ sym f)
  all_once (t ∷ ts) a b (refused r h e) (first x others k l f) = absurd (let i = term_once p spot vars t (Err r) (Ok x) h k in cc)
  all_once (t ∷ ts) a b (first x others k l f) (refused r h e) = absurd (let i = term_once p spot vars t (Ok x) (Err r) k h in cc)
  all_once (t ∷ ts) a b (first x others h l e) (first y rest k m f) =
      e ∙ (joined (term_once p spot vars t (Ok x) (Ok y) h k) (all_once ts others rest l m) ∙ sym f) where
        joined : ◌≡◌ {A = Result ShownAtom Refusal} (Ok x) (Ok y) → others ≡ rest → before_all x others ≡ before_all y rest
        joined i j = let k' : x ≡ y = cc in ap (λ (z : ShownAtom). before_all z others) k' ∙ ap (before_all y) j

  taken_once : (xs : List ShownAtom) (ms : List Named) (a b : Result Ty Refusal) → Taken names xs ms a → Taken names xs ms b → a ≡ b
  taken_once xs ms a b h k = h.gives ∙ (ap (λ (m : Masks). Ok (ty.Class xs m)) (masks_once names ms h.masks k.masks h.are k.are) ∙ sym k.gives)

  unfit_once : (bounds : List Path) (ms : List Named) (seen : List Name) (a b : Option Named) → FirstUnfit p bounds seen ms a → FirstUnfit p bounds seen ms b → a ≡ b
  unfit_once bounds [] seen a b h k = same h k
  unfit_once bounds (m ∷ ms) seen a b h k = first_once (Some m) a b (λ i j. unfit_once bounds ms (m.name ∷ seen) a b i j) h k

  unfit_gives_once : (xs : List ShownAtom) (ms : List Named) (m : Option Named) (a b : Result Ty Refusal)
      → UnfitGives names spot xs ms m a → UnfitGives names spot xs ms m b → a ≡ b
  unfit_gives_once xs ms (Some m) a b h k = same h k
  unfit_gives_once xs ms None a b h k = taken_once xs ms a b h k

  unmasked_once : (xs : List ShownAtom) (ms : List Named) (a b : Result Ty Refusal)
      → UnmaskedGives names spot xs ms a → UnmaskedGives names spot xs ms b → a ≡ b
  unmasked_once xs [] a b h k = taken_once xs [] a b h k
  unmasked_once xs (m ∷ ms) a b h k = same h k

  masks_give_once : (bounds : List Path) (xs : List ShownAtom) (ms : List Named) (may : Bool) (a b : Result Ty Refusal)
      → MasksGive p names spot bounds xs ms may a → MasksGive p names spot bounds xs ms may b → a ≡ b
  masks_give_once bounds xs ms true a b h k =
      unfit_gives_once xs ms h.first a b h.gives
      (subst (λ (m : Option Named). UnfitGives names spot xs ms m b) (unfit_once bounds ms [] k.first h.first k.unfit h.unfit) k.gives)
  masks_give_once bounds xs ms false a b h k = unmasked_once xs ms a b h k

  depths_once : (ts : List Term) (ms : List Named) (bounds : List Path) (xs : List ShownAtom) (a b : Result Ty Refusal)
      → DepthsGive p names spot ts ms bounds xs a → DepthsGive p names spot ts ms bounds xs b → a ≡ b
  depths_once ts ms bounds xs a b (many t u us n e f) (many v w ws m g h) =
      let i : u ≡ w = second u w (sym e ∙ g) in f ∙ (ap (λ (x : Term). Err (at_term rule.E15 spot x)) i ∙ sym h) where
        second : (x y : Term) → t ∷ x ∷ us ≡ v ∷ y ∷ ws → x ≡ y
        second x y i = cc
  depths_once ts ms bounds xs a b (many t u us n e f) (one h k) = absurd (n h)
  depths_once ts ms bounds xs a b (one h k) (many t u us n e f) = absurd (n h)
  depths_once ts ms bounds xs a b (one h k) (one i j) = masks_give_once bounds xs ms (may_mask spot.role) a b k j

  atoms_once : (ts : List Term) (ms : List Named) (x : Result (List ShownAtom) Refusal) (a b : Result Ty Refusal)
      → AtomsGive p names spot vars ts ms x a → AtomsGive p names spot vars ts ms x b → a ≡ b
  atoms_once ts ms (Err r) a b h k = same h k
  atoms_once ts ms (Ok xs) a b h k = depths_once ts ms (bounds_at spot vars xs) xs a b h k

  class_type_once : (ts : List Term) (ms : List Named) (a b : Result Ty Refusal)
      → ResolveClass p names spot vars ts ms a → ResolveClass p names spot vars ts ms b → a ≡ b
  class_type_once ts ms a b h k =
      atoms_once ts ms h.atoms a b h.gives
      (subst (λ (x : Result (List ShownAtom) Refusal). AtomsGive p names spot vars ts ms x b) (all_once ts k.atoms h.atoms k.all h.all) k.gives)

  pub type_once : (t : TypeTerm) (a b : Result Ty Refusal) → ResolveType p names spot vars t a → ResolveType p names spot vars t b → a ≡ b
  type_once type.Int a b h k = same h k
  type_once type.Bool a b h k = same h k
  type_once (type.Class ts ms) a b h k = class_type_once ts ms a b h k

  pub view_once : (v : ViewTerm) (a b : Result Ty Refusal) → ResolveView p names spot vars v a → ResolveView p names spot vars v b → a ≡ b
  view_once v a b h k = class_type_once (v.term ∷ []) v.masks a b h k
