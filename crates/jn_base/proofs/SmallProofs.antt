-- The examples of a cycle, of two kinds, and of members that only an intersection has.
use Rattle.std.proofs.Common.{◌≡◌, [], ◌∷◌, refl, true, subst, sym}
use Rattle.jn_base.specs.declared.tree.Name.{Name}
use Rattle.jn_base.specs.declared.tree.Member.TheVariants.{outs-Inner}
use Rattle.jn_base.specs.Paths.{Path, Declared}
use Rattle.jn_base.specs.Supers.{Sup, itself, Member}
use Rattle.jn_base.specs.Universe.{InUniverse}
use Rattle.jn_base.specs.SmallExamples.{circular, A, B, AB, C, D, CycleExample, mixed, a, b, c, d, MixedExample, joined, X, U, V, JoinedExample}
use Rattle.jn_base.proofs.SuperLaws.{sup_inherited, member_heir}
use Rattle.jn_base.proofs.ExampleTools.{OneOf, one, sups_kept, top_above, inner_above, inner_edge, inner_member, top_member, inner_class, inner_package, inner_home, outer_home, none_inside, deep_declared, deep_none, tops, keeps, has_only}
use Rattle.jn_base.proofs.NameTests.{has_from, first}

ab_a : Sup circular (AB ∷ []) (A ∷ [])
ab_a = top_above circular AB A refl refl

ab_b : Sup circular (AB ∷ []) (B ∷ [])
ab_b = top_above circular AB B refl refl

ab_c : Member circular (AB ∷ []) C
ab_c = inner_member circular AB A C ab_a (simp outs-Inner)

ab_d : Member circular (AB ∷ []) D
ab_d = inner_member circular AB A D ab_a (simp outs-Inner)

pub cycle_shown : CycleExample
cycle_shown = record {
  class = ((tt, top_member circular AB refl), ab_c);
  cycle = record {
    next = D ∷ AB ∷ [];
    direct = inner_edge circular AB A C D ab_a (simp outs-Inner) ab_d;
    back = inner_above circular AB B D C ab_b (simp outs-Inner) ab_c;
  };
  home = outer_home circular AB C 3 refl (none_inside circular AB C (simp outs-Inner));
}

b_a : Sup mixed (b ∷ []) (a ∷ [])
b_a = top_above mixed b a refl refl

pub mixed_shown : MixedExample
mixed_shown =
    let m = inner_member mixed a a C itself (simp outs-Inner) in
    record {
      class = ((tt, top_member mixed b refl), member_heir b_a m);
      kinds = (
        inner_class mixed (C ∷ b ∷ []) a C (sup_inherited b_a m) (simp outs-Inner),
        inner_package mixed (C ∷ b ∷ []) b C itself (simp outs-Inner),
      );
      home = inner_home mixed b C 3 (simp outs-Inner);
    }

x_at : (K : Name) → Sup joined (d ∷ []) (K ∷ []) → Member joined (K ∷ []) X → (N : Name) → Declared joined (N ∷ X ∷ K ∷ [])
    → InUniverse joined (N ∷ X ∷ d ∷ [])
x_at K s m N x =
    (((tt, top_member joined d refl), member_heir s m), record { at = X ∷ K ∷ []; super = sup_inherited s m; declared = x })

none_at : (K N : Name) → ((Q : Name) → Declared joined (N ∷ Q ∷ K ∷ []) → ⊥) → (S : Path) → OneOf (X ∷ []) (K ∷ []) S
    → Declared joined (N ∷ S) → ⊥
none_at K N x S (one Q P q k) h = x Q (subst (λ (M : Name). Declared joined (N ∷ Q ∷ M ∷ [])) (sym (has_only K P k)) h)

-- a class of a package with no super has no members but those that its own declaration has
not_in : (K N : Name) → tops (keeps (K ∷ [])) joined ≡ true → ((Q : Name) → Declared joined (N ∷ Q ∷ K ∷ []) → ⊥)
    → InUniverse joined (N ∷ X ∷ K ∷ []) → ⊥
not_in K N t x u =
    let k = has_from (K ∷ []) K (first K []) in
    let o = sups_kept joined (X ∷ []) (K ∷ []) t (simp outs-Inner) X K refl k u.1.at u.1.super in
    none_at K N x u.1.at o u.1.declared

d_b : Sup joined (d ∷ []) (b ∷ [])
d_b = top_above joined d b refl refl

d_c : Sup joined (d ∷ []) (c ∷ [])
d_c = top_above joined d c refl refl

pub joined_shown : JoinedExample
joined_shown = record {
  has_u = x_at b d_b (inner_member joined b b X itself (simp outs-Inner)) U (deep_declared joined b X U (simp outs-Inner));
  has_v = x_at c d_c (inner_member joined c c X itself (simp outs-Inner)) V (deep_declared joined c X V (simp outs-Inner));
  not_v = not_in b V refl (λ Q. deep_none joined b Q V (simp outs-Inner));
  not_u = not_in c U refl (λ Q. deep_none joined c Q U (simp outs-Inner));
}
