-- The examples of a passed class table, a cycle, two kinds, and an unknown name.
use Rattle.std.proofs.Common.{◌≡◌, ℕ, [], ◌∷◌, refl, sym, subst, true, if◌then◌else◌, arith, Contains}
use Rattle.std.proofs.lemmas.List.Elements.{All-nil}
use Rattle.jn_base.specs.declared.tree.Name.{Name}
use Rattle.jn_base.specs.declared.tree.Kind.TheVariants as kind
use Rattle.jn_base.specs.declared.tree.Decl.{Decl}
use Rattle.jn_base.specs.declared.tree.Member.TheVariants.{outs-Inner}
use Rattle.jn_base.specs.Paths.{Path}
use Rattle.jn_base.specs.Supers.{Sup, itself, Member, IsOwnSuper}
use Rattle.jn_base.specs.Universe.{InUniverse}
use Rattle.jn_base.specs.ClassOrder.{Before}
use Rattle.jn_base.specs.Members.{HasTwoKinds}
use Rattle.jn_base.specs.Duplicates.{has_name}
use Rattle.jn_base.specs.TableRules.{IsOver, IsCycle, IsMixed, HasUnknown, ExtendsUnknown, NoneIs, TableRefuses, TablePasses, cycle, two_kinds, unknown, at_home, unknown_at}
use Rattle.jn_base.specs.ExampleTrees.{word, line, declaration, class_in}
use Rattle.jn_base.specs.VerdictExamples.{A, B, AB, C, D, apart, circular, mixed, missing}
use Rattle.jn_base.proofs.SuperLaws.{sup_inherited, member_heir}
use Rattle.jn_base.specs.declared.refusal.Rule.TheVariants as rule
use Rattle.jn_base.proofs.Reaching.{declared_in_universe}
use Rattle.jn_base.proofs.ClassOrders.{before_irreflexive}
use Rattle.jn_base.proofs.ExampleTools.{same, of_each, has_only, top_above, top_member, inner_member, inner_above, inner_edge, inner_class, inner_package, inner_home, outer_home, none_inside}
use Rattle.jn_base.proofs.NameTests.{has_in}
use Rattle.jn_base.proofs.VerdictTools.{TwoLevels, package_of, class_of, universe_of, few_paths, no_top_cycle, IsRanked, no_class_cycle, package_alone, class_alone, all_known, top_known, class_named}

none_extends : Name → ℕ
none_extends n = 0

-- C is above nothing, and D above nothing, but for what a text of the package says
c_first : Name → Name → ℕ
c_first N K = if same N C then 1 else 0

d_first : Name → Name → ℕ
d_first N K = if same N D then 1 else 0

-- ---- apart

apart_few : NoneIs (IsOver apart)
apart_few = few_paths apart (C ∷ D ∷ []) (A ∷ B ∷ []) refl (simp outs-Inner) refl (omega arith)

in_a : IsRanked apart (C ∷ D ∷ []) (A ∷ []) c_first
unfolding c_first
in_a = record { packages = refl; classes = simp outs-Inner; heirs = refl; texts = simp outs-Inner }

in_b : IsRanked apart (C ∷ D ∷ []) (B ∷ []) d_first
unfolding d_first
in_b = record { packages = refl; classes = simp outs-Inner; heirs = refl; texts = simp outs-Inner }

apart_acyclic : (Q : Path) → TwoLevels (C ∷ D ∷ []) (A ∷ B ∷ []) Q → IsOwnSuper apart Q → ⊥
unfolding none_extends
apart_acyclic Q (package_of K a) o = no_top_cycle apart none_extends refl K o
apart_acyclic Q (class_of N K c a) o =
    of_each (A ∷ B ∷ []) (λ L. IsOwnSuper apart (N ∷ L ∷ []) → ⊥)
    (no_class_cycle apart (C ∷ D ∷ []) (A ∷ []) c_first in_a N A c refl, (no_class_cycle apart (C ∷ D ∷ []) (B ∷ []) d_first in_b N B c refl, tt))
    K (has_in (A ∷ B ∷ []) K a) o

apart_kinds : (Q : Path) → TwoLevels (C ∷ D ∷ []) (A ∷ B ∷ []) Q → HasTwoKinds apart Q → ⊥
apart_kinds Q (package_of K a) h = package_alone apart K refl h
apart_kinds Q (class_of N K c a) h = class_alone apart (C ∷ D ∷ []) (A ∷ B ∷ []) refl (simp outs-Inner) (simp outs-Inner) N K c a h

apart_has : (K : Name) → has_name (A ∷ B ∷ []) K ≡ true → Member apart [] K
apart_has K a = of_each (A ∷ B ∷ []) (Member apart []) (top_member apart A refl, (top_member apart B refl, tt)) K (has_in (A ∷ B ∷ []) K a)

apart_two : (Q : Path) → InUniverse apart Q → TwoLevels (C ∷ D ∷ []) (A ∷ B ∷ []) Q
apart_two Q u = universe_of apart (C ∷ D ∷ []) (A ∷ B ∷ []) refl (simp outs-Inner) Q u

pub apart_passes : TablePasses apart
apart_passes = record {
  within = apart_few;
  no_cycle = λ Q o. apart_acyclic Q (apart_two Q o.0) o.1;
  one_kind = λ Q h. apart_kinds Q (apart_two Q h.0) h.1;
  all_known = all_known apart (C ∷ D ∷ []) (A ∷ B ∷ []) apart_has (simp outs-Inner) refl (simp outs-Inner);
}

-- ---- circular

ab_top : Name → ℕ
ab_top K = if same K AB then 1 else 0

circular_two : (Q : Path) → InUniverse circular Q → TwoLevels (C ∷ D ∷ []) (A ∷ AB ∷ B ∷ []) Q
circular_two Q u = universe_of circular (C ∷ D ∷ []) (A ∷ AB ∷ B ∷ []) refl (simp outs-Inner) Q u

circular_few : NoneIs (IsOver circular)
circular_few = few_paths circular (C ∷ D ∷ []) (A ∷ AB ∷ B ∷ []) refl (simp outs-Inner) refl (omega arith)

in_a_of : IsRanked circular (C ∷ D ∷ []) (A ∷ []) c_first
unfolding c_first
in_a_of = record { packages = refl; classes = simp outs-Inner; heirs = refl; texts = simp outs-Inner }

-- no class of B comes before AB.C, and of AB only AB.C itself comes no later
not_before_ab : (N : Name) → Contains (C ∷ D ∷ []) N → Before circular (N ∷ AB ∷ []) (C ∷ AB ∷ []) → ⊥
not_before_ab N c = of_each (C ∷ D ∷ []) (λ M. Before circular (M ∷ AB ∷ []) (C ∷ AB ∷ []) → ⊥)
    (λ b. before_irreflexive circular (C ∷ AB ∷ []) b, (λ b. cc b, tt)) N c

not_before_b : (N : Name) → Contains (C ∷ D ∷ []) N → Before circular (N ∷ B ∷ []) (C ∷ AB ∷ []) → ⊥
not_before_b N c = of_each (C ∷ D ∷ []) (λ M. Before circular (M ∷ B ∷ []) (C ∷ AB ∷ []) → ⊥) (λ b. cc b, (λ b. cc b, tt)) N c

first_cycle : (Q : Path) → TwoLevels (C ∷ D ∷ []) (A ∷ AB ∷ B ∷ []) Q → IsOwnSuper circular Q → Before circular Q (C ∷ AB ∷ []) → ⊥
unfolding ab_top
first_cycle Q (package_of K a) o b = no_top_cycle circular ab_top refl K o
first_cycle Q (class_of N K c a) o b =
    of_each (A ∷ AB ∷ B ∷ []) (λ L. IsOwnSuper circular (N ∷ L ∷ []) → Before circular (N ∷ L ∷ []) (C ∷ AB ∷ []) → ⊥) (
      λ o b. no_class_cycle circular (C ∷ D ∷ []) (A ∷ []) c_first in_a_of N A c refl o,
      (
        λ o b. not_before_ab N (has_in (C ∷ D ∷ []) N c) b,
        (
          λ o b. not_before_b N (has_in (C ∷ D ∷ []) N c) b,
          tt,
        ),
      ),
    )
    K (has_in (A ∷ AB ∷ B ∷ []) K a) o b

ab_a : Sup circular (AB ∷ []) (A ∷ [])
ab_a = top_above circular AB A refl refl

ab_b : Sup circular (AB ∷ []) (B ∷ [])
ab_b = top_above circular AB B refl refl

ab_c : Member circular (AB ∷ []) C
ab_c = inner_member circular AB A C ab_a (simp outs-Inner)

ab_d : Member circular (AB ∷ []) D
ab_d = inner_member circular AB A D ab_a (simp outs-Inner)

ab_cycle : IsCycle circular (C ∷ AB ∷ [])
ab_cycle = (
  ((tt, top_member circular AB refl), ab_c),
  record {
    next = D ∷ AB ∷ [];
    direct = inner_edge circular AB A C D ab_a (simp outs-Inner) ab_d;
    back = inner_above circular AB B D C ab_b (simp outs-Inner) ab_c;
  },
)

pub circular_refused : TableRefuses circular (at_home rule.E08 (C ∷ AB ∷ []) (line 3))
circular_refused =
    cycle (C ∷ AB ∷ []) (line 3) circular_few
    (record { holds = ab_cycle; first = λ Q o b. first_cycle Q (circular_two Q o.0) o.1 b })
    (outer_home circular AB C 3 refl (none_inside circular AB C (simp outs-Inner))) refl

-- ---- mixed

b_top : Name → ℕ
b_top K = if same K B then 1 else 0

b_first : Name → Name → ℕ
b_first N K = if same K B then 1 else 0

mixed_two : (Q : Path) → InUniverse mixed Q → TwoLevels (C ∷ []) (A ∷ B ∷ []) Q
mixed_two Q u = universe_of mixed (C ∷ []) (A ∷ B ∷ []) refl (simp outs-Inner) Q u

mixed_few : NoneIs (IsOver mixed)
mixed_few = few_paths mixed (C ∷ []) (A ∷ B ∷ []) refl (simp outs-Inner) refl (omega arith)

in_mixed : IsRanked mixed (C ∷ []) (A ∷ B ∷ []) b_first
unfolding b_first
in_mixed = record { packages = refl; classes = simp outs-Inner; heirs = refl; texts = simp outs-Inner }

mixed_acyclic : (Q : Path) → TwoLevels (C ∷ []) (A ∷ B ∷ []) Q → IsOwnSuper mixed Q → ⊥
unfolding b_top
mixed_acyclic Q (package_of K a) o = no_top_cycle mixed b_top refl K o
mixed_acyclic Q (class_of N K c a) o = no_class_cycle mixed (C ∷ []) (A ∷ B ∷ []) b_first in_mixed N K c a o

first_mixed : (Q : Path) → TwoLevels (C ∷ []) (A ∷ B ∷ []) Q → HasTwoKinds mixed Q → Before mixed Q (C ∷ B ∷ []) → ⊥
first_mixed Q (package_of K a) h b = package_alone mixed K refl h
first_mixed Q (class_of N K c a) h b =
    of_each (A ∷ B ∷ []) (λ L. HasTwoKinds mixed (N ∷ L ∷ []) → Before mixed (N ∷ L ∷ []) (C ∷ B ∷ []) → ⊥) (
      λ h b. class_alone mixed (C ∷ []) (A ∷ []) refl (simp outs-Inner) (simp outs-Inner) N A c refl h,
      (
        λ h b. before_irreflexive mixed (C ∷ B ∷ []) (subst (λ (M : Name). Before mixed (M ∷ B ∷ []) (C ∷ B ∷ [])) (sym (has_only C N c)) b),
        tt,
      ),
    )
    K (has_in (A ∷ B ∷ []) K a) h b

b_a : Sup mixed (B ∷ []) (A ∷ [])
b_a = top_above mixed B A refl refl

a_c : Member mixed (A ∷ []) C
a_c = inner_member mixed A A C itself (simp outs-Inner)

b_c : IsMixed mixed (C ∷ B ∷ [])
b_c = (
  ((tt, top_member mixed B refl), member_heir b_a a_c),
  (
    inner_class mixed (C ∷ B ∷ []) A C (sup_inherited b_a a_c) (simp outs-Inner),
    inner_package mixed (C ∷ B ∷ []) B C itself (simp outs-Inner),
  ),
)

pub mixed_refused : TableRefuses mixed (at_home rule.E07 (C ∷ B ∷ []) (line 3))
mixed_refused =
    two_kinds (C ∷ B ∷ []) (line 3) mixed_few (λ Q o. mixed_acyclic Q (mixed_two Q o.0) o.1)
    (record { holds = b_c; first = λ Q h b. first_mixed Q (mixed_two Q h.0) h.1 b })
    (inner_home mixed B C 3 (simp outs-Inner)) refl

-- ---- missing

missing_two : (Q : Path) → InUniverse missing Q → TwoLevels (C ∷ []) (A ∷ []) Q
missing_two Q u = universe_of missing (C ∷ []) (A ∷ []) refl (simp outs-Inner) Q u

missing_few : NoneIs (IsOver missing)
missing_few = few_paths missing (C ∷ []) (A ∷ []) refl (simp outs-Inner) refl (omega arith)

in_missing : IsRanked missing (C ∷ D ∷ []) (A ∷ []) c_first
unfolding c_first
in_missing = record { packages = refl; classes = simp outs-Inner; heirs = refl; texts = simp outs-Inner }

or_d : (N : Name) → has_name (C ∷ []) N ≡ true → has_name (C ∷ D ∷ []) N ≡ true
or_d N c = subst (λ (M : Name). has_name (C ∷ D ∷ []) M ≡ true) (has_only C N c) refl

missing_acyclic : (Q : Path) → TwoLevels (C ∷ []) (A ∷ []) Q → IsOwnSuper missing Q → ⊥
unfolding none_extends
missing_acyclic Q (package_of K a) o = no_top_cycle missing none_extends refl K o
missing_acyclic Q (class_of N K c a) o = no_class_cycle missing (C ∷ D ∷ []) (A ∷ []) c_first in_missing N K (or_d N c) a o

missing_kinds : (Q : Path) → TwoLevels (C ∷ []) (A ∷ []) Q → HasTwoKinds missing Q → ⊥
missing_kinds Q (package_of K a) h = package_alone missing K refl h
missing_kinds Q (class_of N K c a) h = class_alone missing (C ∷ D ∷ []) (A ∷ []) refl (simp outs-Inner) (simp outs-Inner) N K (or_d N c) a h

no_d : Member missing (A ∷ []) D → ⊥
no_d m = absurd_name (class_named missing (C ∷ []) (simp outs-Inner) A D m) where
  absurd_name : has_name (C ∷ []) D ≡ true → ⊥
  absurd_name e = cc e

the_class : Decl
the_class = declaration kind.Class 1 C (D ∷ []) []

the_package : Decl
the_package = declaration kind.Package 1 A [] (class_in C (D ∷ []) [] ∷ [])

c_unknown : ExtendsUnknown missing (C ∷ A ∷ []) (word D)
unfolding the_class the_package
c_unknown = record {
  decl = the_class;
  stands = ((the_package, (0, omega arith, refl), refl, rw outs-Inner (0, omega arith, refl)), refl);
  before = [];
  after = [];
  is = refl;
  known = All-nil _;
  unknown = no_d;
}

first_unknown : (Q : Path) → TwoLevels (C ∷ []) (A ∷ []) Q → HasUnknown missing Q → Before missing Q (C ∷ A ∷ []) → ⊥
first_unknown Q (package_of K a) h b = top_known missing [] (λ M m. cc m) refl K h
first_unknown Q (class_of N K c a) h b =
    before_irreflexive missing (C ∷ A ∷ [])
    (subst (λ (L : Name). Before missing (C ∷ L ∷ []) (C ∷ A ∷ [])) (sym (has_only A K a))
    (subst (λ (M : Name). Before missing (M ∷ K ∷ []) (C ∷ A ∷ [])) (sym (has_only C N c)) b))

pub missing_refused : TableRefuses missing (unknown_at (C ∷ A ∷ []) (word D))
missing_refused =
    unknown (C ∷ A ∷ []) (word D) missing_few (λ Q o. missing_acyclic Q (missing_two Q o.0) o.1)
    (λ Q h. missing_kinds Q (missing_two Q h.0) h.1)
    (record { holds = (word D, c_unknown); first = λ Q h b. first_unknown Q (missing_two Q (declared_in_universe missing Q h.1.decl h.1.stands)) h b })
    c_unknown refl
