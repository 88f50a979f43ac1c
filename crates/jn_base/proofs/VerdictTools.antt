-- The verdicts of small programs of packages and their classes, by tests that compute.
use Rattle.std.proofs.Common.{◌≡◌, ◌<◌, ◌≤◌, ℕ, List, [], ◌∷◌, ◌++◌, map, length, suc, refl, sym, subst, Bool, true, false, ◌&&◌, nat_lt, ◌⊎◌, inl, inr, arith, Contains}
use Rattle.std.specs.declared.cmp.Ordering.{Ordering}
use Rattle.std.specs.declared.cmp.Ordering.TheVariants.{Less, Equal, Greater}
use Rattle.std.specs.Ordering.{is_lt}
use Rattle.std.specs.List.{list_all, AllByRecursion}
use Rattle.std.specs.List.Sorted.{IsStrictlySortedBy}
use Rattle.std.proofs.lemmas.List.Elements.{Contains-append_left, Contains-append_right}
use Rattle.jn_base.specs.declared.tree.Name.{Name}
use Rattle.jn_base.specs.declared.tree.Named.{Named}
use Rattle.jn_base.specs.declared.tree.Kind.TheVariants as kind
use Rattle.jn_base.specs.declared.tree.Program.{Program}
use Rattle.jn_base.specs.declared.tree.Decl.{Decl}
use Rattle.jn_base.specs.Paths.{Path, nested, StandsIn, StandsAt, Extends}
use Rattle.jn_base.specs.Supers.{Direct, inherited, written, Sup, itself, Member, IsOwnSuper}
use Rattle.jn_base.specs.Universe.{InUniverse}
use Rattle.jn_base.specs.ClassOrder.{class_cmp}
use Rattle.jn_base.specs.Members.{HasKind, HasTwoKinds}
use Rattle.jn_base.specs.Duplicates.{has_name}
use Rattle.jn_base.specs.TableRules.{IsOver, NoneIs, HasUnknown}
use Rattle.jn_base.proofs.SuperLaws.{top_direct, sup_level, sup_root}
use Rattle.jn_base.proofs.TableLaws.{no_longer}
use Rattle.jn_base.proofs.ExampleTools.{tops, inners, at_top, at_inner, keeps, OneOf, one, sups_kept, is_class, top_sup, top_kept, top_kept_sup, inner_kept, inner_has, inner_member, anything, is_package, not_package, not_class, sup_closed}
use Rattle.jn_base.proofs.NameTests.{implies, implied, passes, has_in, in_cons, in_none, first, later, and_both}

-- ---- the universe

abbrev pub is_none : List Decl → Bool
is_none [] = true
is_none (d ∷ ds) = false

nothing_in : (ds : List Decl) (d : Decl) → is_none ds ≡ true → Contains ds d → ⊥
nothing_in [] d e c = in_none d c
nothing_in (f ∷ ds) d e c = cc e

abbrev pub top_of : List Name → Decl → Bool
top_of As d = has_name As d.name.name

abbrev pub plain_of : List Name → Name → Decl → Bool
plain_of Cs A d = has_name Cs d.name.name && is_none (nested d.members)

-- no declaration stands at depth 3 or deeper
no_deep : (p : Program) (Cs : List Name) → inners (plain_of Cs) p ≡ true → (C A : Name) (R : Path) (d : Decl) → StandsIn p (C ∷ A ∷ R) d → ⊥
no_deep p Cs e C A [] d s =
    let k = at_inner p (plain_of Cs) e C A s.0 (s.1, s.2) in
    nothing_in (nested s.0.members) d (and_both (has_name Cs s.0.name.name) (is_none (nested s.0.members)) k).1 s.3
no_deep p Cs e C A (B ∷ R) d s = no_deep p Cs e A B R s.0 s.1

-- a path of the universe is one of these packages or one of their classes
pub data TwoLevels (Cs As : List Name) : Path → Type 0 where
  package_of : (A : Name) → has_name As A ≡ true → TwoLevels Cs As (A ∷ [])
  class_of : (C A : Name) → has_name Cs C ≡ true → has_name As A ≡ true → TwoLevels Cs As (C ∷ A ∷ [])

top_named : (p : Program) (As : List Name) → tops (top_of As) p ≡ true → (A : Name) → Member p [] A → has_name As A ≡ true
top_named p As e A m =
    let s : StandsAt p (A ∷ []) m.declared.decl = subst (λ (Q : Path). StandsAt p (A ∷ Q) m.declared.decl) (sup_root m.super) m.declared.stands in
    subst (λ (n : Name). has_name As n ≡ true) s.1 (at_top p (top_of As) e A m.declared.decl s)

pub class_named : (p : Program) (Cs : List Name) → inners (plain_of Cs) p ≡ true → (A C : Name) → Member p (A ∷ []) C → has_name Cs C ≡ true
class_named p Cs e A C m =
    let b = top_sup p A m.at m.super in
    let s : StandsAt p (C ∷ b.0 ∷ []) m.declared.decl = subst (λ (Q : Path). StandsAt p (C ∷ Q) m.declared.decl) b.1 m.declared.stands in
    let k = at_inner p (plain_of Cs) e C b.0 m.declared.decl s in
    subst (λ (n : Name). has_name Cs n ≡ true) s.1 (and_both (has_name Cs m.declared.decl.name.name) (is_none (nested m.declared.decl.members)) k).0

-- a path of depth 2 or more has a super of the same depth
deep_path : (S : Path) (n : ℕ) → length S ≡ suc (suc n) → (C A : Name) × (R : Path) × (S ≡ C ∷ A ∷ R)
deep_path [] n e = absurd (omega (arith, e))
deep_path (C ∷ []) n e = absurd (omega (arith, e))
deep_path (C ∷ A ∷ R) n e = (C, A, R, refl)

no_third : (p : Program) (Cs : List Name) → inners (plain_of Cs) p ≡ true → (E C A : Name) (R : Path) → Member p (C ∷ A ∷ R) E → ⊥
no_third p Cs e E C A R m =
    let d = deep_path m.at (length R) (sup_level m.super) in
    no_deep p Cs e d.0 d.1 d.2 m.declared.decl (subst (λ (Q : Path). StandsIn p Q m.declared.decl) d.3 m.declared.stands.0)

pub universe_of : (p : Program) (Cs As : List Name) → tops (top_of As) p ≡ true → inners (plain_of Cs) p ≡ true
    → (Q : Path) → InUniverse p Q → TwoLevels Cs As Q
universe_of p Cs As t i [] u = absurd u
universe_of p Cs As t i (A ∷ []) u = package_of A (top_named p As t A u.1)
universe_of p Cs As t i (C ∷ A ∷ []) u = class_of C A (class_named p Cs i A C u.1) (top_named p As t A u.0.1)
universe_of p Cs As t i (E ∷ C ∷ A ∷ R) u = absurd (no_third p Cs i E C A R u.1)

-- all of them, in class order where the names are in order
abbrev pub classes_of : List Name → List Name → List Path
classes_of Cs [] = []
classes_of Cs (A ∷ As) = map (λ C. C ∷ A ∷ []) Cs ++ classes_of Cs As

abbrev pub paths_of : List Name → List Name → List Path
paths_of Cs As = map (λ A. A ∷ []) As ++ classes_of Cs As

in_map : (f : Name → Path) (xs : List Name) (x : Name) → Contains xs x → Contains (map f xs) (f x)
in_map f [] x c = absurd (in_none x c)
in_map f (y ∷ ys) x c = by_place (in_cons y ys x c) (λ h. in_map f ys x h) where
  by_place : (y ≡ x) ⊎ Contains ys x → (Contains ys x → Contains (map f ys) (f x)) → Contains (map f (y ∷ ys)) (f x)
  by_place (inl e) k = subst (λ (z : Name). Contains (map f (y ∷ ys)) (f z)) e (first (f y) (map f ys))
  by_place (inr h) k = later (f y) (map f ys) (f x) (k h)

in_classes : (Cs As : List Name) (C A : Name) → Contains Cs C → Contains As A → Contains (classes_of Cs As) (C ∷ A ∷ [])
in_classes Cs [] C A c a = absurd (in_none A a)
in_classes Cs (B ∷ As) C A c a = by_place (in_cons B As A a) (λ h. in_classes Cs As C A c h) where
  by_place : (B ≡ A) ⊎ Contains As A → (Contains As A → Contains (classes_of Cs As) (C ∷ A ∷ [])) → Contains (classes_of Cs (B ∷ As)) (C ∷ A ∷ [])
  by_place (inl e) k =
      subst (λ (N : Name). Contains (classes_of Cs (B ∷ As)) (C ∷ N ∷ [])) e
      (Contains-append_left (map (λ (N : Name). N ∷ B ∷ []) Cs) (classes_of Cs As) (C ∷ B ∷ []) (in_map (λ (N : Name). N ∷ B ∷ []) Cs C c))
  by_place (inr h) k = Contains-append_right (map (λ (N : Name). N ∷ B ∷ []) Cs) (classes_of Cs As) (C ∷ A ∷ []) (k h)

in_paths : (Cs As : List Name) (Q : Path) → TwoLevels Cs As Q → Contains (paths_of Cs As) Q
in_paths Cs As Q (package_of A a) =
    Contains-append_left (map (λ (N : Name). N ∷ []) As) (classes_of Cs As) (A ∷ []) (in_map (λ (N : Name). N ∷ []) As A (has_in As A a))
in_paths Cs As Q (class_of C A c a) =
    Contains-append_right (map (λ (N : Name). N ∷ []) As) (classes_of Cs As) (C ∷ A ∷ []) (in_classes Cs As C A (has_in Cs C c) (has_in As A a))

-- ---- few paths

abbrev pub in_order : Program → List Path → Bool
in_order p [] = true
in_order p (P ∷ Ps) = list_all (λ Q. is_lt (class_cmp p P Q)) Ps && in_order p Ps

is_less : (o : Ordering) → is_lt o ≡ true → o ≡ Less
is_less Less e = refl
is_less Equal e = cc
is_less Greater e = cc

all_less : (p : Program) (P : Path) (Qs : List Path) → list_all (λ Q. is_lt (class_cmp p P Q)) Qs ≡ true → AllByRecursion (λ Q. class_cmp p P Q ≡ Less) Qs
all_less p P [] e = tt
all_less p P (Q ∷ Qs) e =
    let b = and_both (is_lt (class_cmp p P Q)) (list_all (λ R. is_lt (class_cmp p P R)) Qs) e in
    (is_less (class_cmp p P Q) b.0, all_less p P Qs b.1)

sorted_from : (p : Program) (Ps : List Path) → in_order p Ps ≡ true → IsStrictlySortedBy (class_cmp p) Ps
unfolding IsStrictlySortedBy
sorted_from p [] e = tt
sorted_from p (P ∷ Ps) e =
    let b = and_both (list_all (λ Q. is_lt (class_cmp p P Q)) Ps) (in_order p Ps) e in
    (all_less p P Ps b.0, sorted_from p Ps b.1)

pub few_paths : (p : Program) (Cs As : List Name) → tops (top_of As) p ≡ true → inners (plain_of Cs) p ≡ true
    → in_order p (paths_of Cs As) ≡ true → length (paths_of Cs As) < 4096 → NoneIs (IsOver p)
few_paths p Cs As t i o l R r =
    let k = no_longer p (paths_of Cs As) r.earlier r.in_order (sorted_from p (paths_of Cs As) o)
    (λ Q c. in_paths Cs As Q (universe_of p Cs As t i Q ((r.exact Q).0 c).0)) in
    omega (arith, k, l, r.count)

-- ---- no cycles: each direct super has a lower rank

abbrev pub lower_tops : (Name → ℕ) → Decl → Bool
lower_tops r d = list_all (λ n. nat_lt (r n.name) (r d.name.name)) d.extends

data TopBelow (r : Name → ℕ) (k : ℕ) : Path → Type 0 where
  top_below : (A : Name) → r A ≤ k → TopBelow r k (A ∷ [])

is_below : (m n : ℕ) → nat_lt m n ≡ true → m < n
is_below m n e = grind arith

top_lower : (p : Program) (r : Name → ℕ) → tops (lower_tops r) p ≡ true → (A D : Name) → Extends p (A ∷ []) D → r D < r A
top_lower p r e A D x =
    let k = at_top p (lower_tops r) e A x.decl x.stands in
    let h = passes (λ n. nat_lt (r n.name) (r x.decl.name.name)) x.decl.extends x.named k x.extends in
    let l = is_below (r x.named.name) (r x.decl.name.name) h in
    subst (λ (N : Name). r D < r N) x.stands.1 (subst (λ (N : Name). r N < r x.decl.name.name) x.name l)

top_step : (p : Program) (r : Name → ℕ) (k : ℕ) → tops (lower_tops r) p ≡ true → (R S : Path) → Direct p R S → TopBelow r k R → TopBelow r k S
top_step p r k e R S d (top_below A l) =
    let x = (top_direct p A S).0 d in
    let h = top_lower p r e A x.0 x.1 in
    subst (TopBelow r k) (sym x.3) (top_below x.0 (omega (arith, h, l)))

top_rank : {r : Name → ℕ} {k : ℕ} {A : Name} → TopBelow r k (A ∷ []) → r A ≤ k
top_rank (top_below A l) = l

pub no_top_cycle : (p : Program) (r : Name → ℕ) → tops (lower_tops r) p ≡ true → (A : Name) → IsOwnSuper p (A ∷ []) → ⊥
no_top_cycle p r e A o =
    let x = (top_direct p A o.next).0 o.direct in
    let h = top_lower p r e A x.0 x.1 in
    let b = sup_closed (TopBelow r (r x.0)) (top_step p r (r x.0) e) o.back (subst (TopBelow r (r x.0)) (sym x.3) (top_below x.0 (omega arith))) in
    omega (arith, h, top_rank b)

-- the same for the classes of the names Cs in the packages As, which extend none but each other
abbrev pub lower_heirs : List Name → List Name → (Name → Name → ℕ) → Decl → Bool
lower_heirs Cs As r e = implies (has_name As e.name.name) (list_all (λ n. list_all (λ C. nat_lt (r C n.name) (r C e.name.name)) Cs) e.extends)

abbrev pub lower_written : List Name → (Name → Name → ℕ) → Name → Decl → Bool
lower_written As r B d = implies (has_name As B) (list_all (λ n. list_all (λ A. nat_lt (r n.name A) (r d.name.name A)) As) d.extends)

-- what a class needs for this, as tests
pub record IsRanked (p : Program) (Cs As : List Name) (r : Name → Name → ℕ) : Type 0 where
  pub packages : tops (keeps As) p ≡ true
  pub classes : inners (λ A. keeps Cs) p ≡ true
  pub heirs : tops (lower_heirs Cs As r) p ≡ true
  pub texts : inners (lower_written As r) p ≡ true

data Below (Cs As : List Name) (r : Name → Name → ℕ) (k : ℕ) : Path → Type 0 where
  below : (C A : Name) → has_name Cs C ≡ true → has_name As A ≡ true → r C A ≤ k → Below Cs As r k (C ∷ A ∷ [])

-- a direct super is below
data Lower (Cs As : List Name) (r : Name → Name → ℕ) (k : ℕ) : Path → Type 0 where
  lower : (C A : Name) → has_name Cs C ≡ true → has_name As A ≡ true → r C A < k → Lower Cs As r k (C ∷ A ∷ [])

heir_lower : (p : Program) (Cs As : List Name) (r : Name → Name → ℕ) → IsRanked p Cs As r
    → (C A D : Name) → has_name Cs C ≡ true → has_name As A ≡ true → Extends p (A ∷ []) D → r C D < r C A
heir_lower p Cs As r q C A D c a x =
    let k = at_top p (lower_heirs Cs As r) q.heirs A x.decl x.stands in
    let m = implied (has_name As x.decl.name.name) _ k (subst (λ (N : Name). has_name As N ≡ true) (sym x.stands.1) a) in
    let n = passes (λ (n : Named). list_all (λ C. nat_lt (r C n.name) (r C x.decl.name.name)) Cs) x.decl.extends x.named m x.extends in
    let l = passes (λ C. nat_lt (r C x.named.name) (r C x.decl.name.name)) Cs C n (has_in Cs C c) in
    let i = is_below (r C x.named.name) (r C x.decl.name.name) l in
    subst (λ (N : Name). r C D < r C N) x.stands.1 (subst (λ (N : Name). r C N < r C x.decl.name.name) x.name i)

text_lower : (p : Program) (Cs As : List Name) (r : Name → Name → ℕ) → IsRanked p Cs As r
    → (C B D A : Name) → has_name As B ≡ true → has_name As A ≡ true → Extends p (C ∷ B ∷ []) D → r D A < r C A
text_lower p Cs As r q C B D A b a x =
    let k = at_inner p (lower_written As r) q.texts C B x.decl x.stands in
    let m = implied (has_name As B) _ k b in
    let n = passes (λ (n : Named). list_all (λ A. nat_lt (r n.name A) (r x.decl.name.name A)) As) x.decl.extends x.named m x.extends in
    let l = passes (λ A. nat_lt (r x.named.name A) (r x.decl.name.name A)) As A n (has_in As A a) in
    let i = is_below (r x.named.name A) (r x.decl.name.name A) l in
    subst (λ (N : Name). r D A < r N A) x.stands.1 (subst (λ (N : Name). r N A < r x.decl.name.name A) x.name i)

direct_lower : (p : Program) (Cs As : List Name) (r : Name → Name → ℕ) → IsRanked p Cs As r
    → {S : Path} (C A : Name) → has_name Cs C ≡ true → has_name As A ≡ true → Direct p (C ∷ A ∷ []) S → Lower Cs As r (r C A) S
direct_lower p Cs As r q C A c a (inherited {Q = Q} d s x) =
    let t = (top_direct p A Q).0 d in
    subst (λ (P : Path). Lower Cs As r (r C A) (C ∷ P)) (sym t.3)
    (lower C t.0 c (top_kept p As q.packages A t.0 a t.1) (heir_lower p Cs As r q C A t.0 c a t.1))
direct_lower p Cs As r q C A c a (written {S = T} {D = D} s e u x) =
    let b = top_kept_sup p As q.packages A a T s in
    let e' = subst (λ (P : Path). Extends p (C ∷ P) D) b.1 e in
    lower D A (inner_kept p Cs q.classes C b.0 D c e') a (text_lower p Cs As r q C b.0 D A b.2 a e')

weaker : {Cs As : List Name} {r : Name → Name → ℕ} {k m : ℕ} {S : Path} → Lower Cs As r m S → m ≤ k → Below Cs As r k S
weaker (lower D B h i l) n = below D B h i (omega (arith, l, n))

below_step : (p : Program) (Cs As : List Name) (r : Name → Name → ℕ) (k : ℕ) → IsRanked p Cs As r
    → (R S : Path) → Direct p R S → Below Cs As r k R → Below Cs As r k S
below_step p Cs As r k q R S d (below C A c a l) = weaker (direct_lower p Cs As r q C A c a d) l

below_rank : {Cs As : List Name} {r : Name → Name → ℕ} {k : ℕ} {C A : Name} → Below Cs As r k (C ∷ A ∷ []) → r C A ≤ k
below_rank (below C A c a l) = l

pub no_class_cycle : (p : Program) (Cs As : List Name) (r : Name → Name → ℕ) → IsRanked p Cs As r
    → (C A : Name) → has_name Cs C ≡ true → has_name As A ≡ true → IsOwnSuper p (C ∷ A ∷ []) → ⊥
no_class_cycle p Cs As r q C A c a o = from_next (direct_lower p Cs As r q C A c a o.direct) o.back where
  from_next : {S : Path} → Lower Cs As r (r C A) S → Sup p S (C ∷ A ∷ []) → ⊥
  from_next (lower D B h i l) s =
      let b = sup_closed (Below Cs As r (r D B)) (below_step p Cs As r (r D B) q) s (below D B h i (omega arith)) in
      omega (arith, l, below_rank b)

-- ---- kinds

pub kind_at : (p : Program) (A : Name) → tops is_package p ≡ true → HasKind p (A ∷ []) kind.Class → ⊥
kind_at p A e h =
    let b = top_sup p A h.at h.super in
    let s = subst (λ (Q : Path). StandsAt p Q h.decl) b.1 h.stands in
    not_package h.decl (at_top p is_package e b.0 h.decl s) h.is

pub package_alone : (p : Program) (A : Name) → tops is_package p ≡ true → HasTwoKinds p (A ∷ []) → ⊥
package_alone p A e h = kind_at p A e h.0

-- the declarations in the packages As are classes
abbrev pub classes_in : List Name → Name → Decl → Bool
classes_in As B d = implies (has_name As B) (is_class d)

pub class_alone : (p : Program) (Cs As : List Name) → tops (keeps As) p ≡ true → inners (λ A. keeps Cs) p ≡ true → inners (classes_in As) p ≡ true
    → (C A : Name) → has_name Cs C ≡ true → has_name As A ≡ true → HasTwoKinds p (C ∷ A ∷ []) → ⊥
class_alone p Cs As t i k C A c a h = at_one (sups_kept p Cs As t i C A c a h.1.at h.1.super) h.1.stands where
  at_one : {S : Path} → OneOf Cs As S → StandsAt p S h.1.decl → ⊥
  at_one (one D B d b) s =
      not_class h.1.decl (implied (has_name As B) (is_class h.1.decl) (at_inner p (classes_in As) k D B h.1.decl s) b) h.1.is

-- ---- unknown names

-- all that a top-level name extends are top-level names, and all that a class extends are in its package
abbrev pub known_tops : List Name → Decl → Bool
known_tops As d = list_all (λ n. has_name As n.name) d.extends

abbrev pub known_classes : Program → Name → Decl → Bool
known_classes p A d = list_all (λ n. inner_has p A n.name anything) d.extends

in_middle : {X : Type 0} (xs : List X) (x : X) (ys : List X) → Contains (xs ++ x ∷ ys) x
in_middle xs x ys = Contains-append_right xs (x ∷ ys) x (first x ys)

pub top_known : (p : Program) (As : List Name) → ((A : Name) → has_name As A ≡ true → Member p [] A) → tops (known_tops As) p ≡ true
    → (A : Name) → HasUnknown p (A ∷ []) → ⊥
top_known p As m t A h =
    let x = h.1 in
    let c = subst (λ (l : List Named). Contains l h.0) (sym x.is) (in_middle x.before h.0 x.after) in
    let n = passes (λ (n : Named). has_name As n.name) x.decl.extends h.0 (at_top p (known_tops As) t A x.decl x.stands) c in
    x.unknown (m h.0.name n)

pub class_known : (p : Program) → inners (known_classes p) p ≡ true → (C A : Name) → HasUnknown p (C ∷ A ∷ []) → ⊥
class_known p k C A h =
    let x = h.1 in
    let c = subst (λ (l : List Named). Contains l h.0) (sym x.is) (in_middle x.before h.0 x.after) in
    let n = passes (λ (n : Named). inner_has p A n.name anything) x.decl.extends h.0 (at_inner p (known_classes p) k C A x.decl x.stands) c in
    x.unknown (inner_member p A A h.0.name itself n)

pub all_known : (p : Program) (Cs As : List Name) → ((A : Name) → has_name As A ≡ true → Member p [] A)
    → inners (plain_of Cs) p ≡ true → tops (known_tops As) p ≡ true → inners (known_classes p) p ≡ true → NoneIs (HasUnknown p)
all_known p Cs As m i t k [] h = h.1.stands
all_known p Cs As m i t k (A ∷ []) h = top_known p As m t A h
all_known p Cs As m i t k (C ∷ A ∷ []) h = class_known p k C A h
all_known p Cs As m i t k (E ∷ C ∷ A ∷ R) h = no_deep p Cs i C A R h.1.decl h.1.stands.0
