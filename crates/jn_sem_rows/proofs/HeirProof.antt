-- A constraint at a class and at its heir, with sharing and without.
use Rattle.std.proofs.Common.{◌≡◌, ℕ, List, [], ◌∷◌, drop, length, Some, Contains, Bool, true, nat_eq, refl, sym, ap, ◌∙◌, subst, ◌⊎◌, inl, inr, arith}
use Rattle.jn_reach.specs.Equivalent as link
use Rattle.jn_reach.specs.Equivalent.{Equivalent}
use Rattle.jn_base.specs.declared.tree.Name.{Name}
use Rattle.jn_base.specs.declared.tree.Named.{Named}
use Rattle.jn_base.specs.declared.tree.Decl.{Decl}
use Rattle.jn_base.specs.declared.tree.Field.{Field}
use Rattle.jn_base.specs.declared.tree.Member.TheVariants.{outs-Inner}
use Rattle.jn_base.specs.declared.tree.Program.{Program}
use Rattle.jn_base.specs.declared.types.Anchor.TheVariants.{Root}
use Rattle.jn_base.specs.ClassOrder.{Before}
use Rattle.jn_base.specs.Paths.{Path, StandsAt, fields}
use Rattle.jn_base.specs.Supers.{Sup, itself}
use Rattle.jn_base.specs.Members.{FieldAt}
use Rattle.jn_base.specs.Atoms.{Atom, atom, Among, first, later}
use Rattle.jn_base.proofs.NameTests.{in_cons, in_none, has_in}
use Rattle.jn_base.proofs.SuperLaws.{sup_level}
use Rattle.jn_base.proofs.ExampleTools.{tops, inners, at_top, at_inner, OneOf, one, has_only, sups_kept, keeps, inner_has, anything, is_class, inner_member, inner_class, top_member}
use Rattle.jn_base.proofs.VerdictTools.{TwoLevels, package_of, class_of, top_of, plain_of, universe_of}
use Rattle.jn_sem.specs.Sets.{no_views, InAtom, InAtoms}
use Rattle.jn_sem.specs.Values.{HasField}
use Rattle.jn_sem.specs.Sharing.{IsClass, Related, Shares, adapted, shared, in_family}
use Rattle.jn_sem.specs.Holds.{HoldsAt, with_this, Turns, IsGranted, Fails, no_counterpart}
use Rattle.jn_sem_rows.specs.SlotsExample.{base, disp, Exp, Add, in_base, in_disp}
use Rattle.jn_sem_rows.specs.SlotRows.{sharing_heir, plain_heir, pair_of_classes, to_own_exp, AtAnHeir}
use Rattle.jn_sem_rows.proofs.SlotTools.{the_related, back, none_of}

abbrev Cs : List Name
Cs = Exp ∷ Add ∷ []

abbrev As : List Name
As = base ∷ disp ∷ []

abbrev no_field_in : Decl → Bool
no_field_in d = nat_eq (length (fields d.members)) 0

abbrev exps_of : Name → Atom
exps_of A = atom Root (A ∷ []) (Exp ∷ [])

not_exp : Add ≡ Exp → ⊥
not_exp e = absurd (omega (arith, ap (λ (n : Name). n.0) e))

one_name : (A B : Name) → A ∷ [] ≡ B ∷ [] → A ≡ B
one_name A B e = cc

-- what is tested of the program
record IsTested (p : Program) : Type 0 where
  tops_named : tops (top_of As) p ≡ true
  tops_kept : tops (keeps As) p ≡ true
  plain : inners (plain_of Cs) p ≡ true
  adds : inners (λ A. keeps (Add ∷ [])) p ≡ true
  bare : inners (λ A. no_field_in) p ≡ true
  base_there : IsClass p (in_base Exp)

module _ (p : Program) (t : IsTested p) where
  levels : (Q : Path) → IsClass p Q → TwoLevels Cs As Q
  levels Q c = universe_of p Cs As t.tops_named t.plain Q c.universe

  no_field_at : (S : Path) (f : Name) (x : Field) → length S ≡ 2 → FieldAt p S f x → ⊥
  no_field_at [] f x e h = absurd h.stands
  no_field_at (A ∷ []) f x e h = absurd (omega (arith, e))
  no_field_at (C ∷ A ∷ []) f x e h = none_of (fields h.decl.members) x (at_inner p (λ B. no_field_in) t.bare C A h.decl h.stands) h.has
  no_field_at (C ∷ A ∷ B ∷ S) f x e h = absurd (omega (arith, e))

  no_field : (C A f : Name) → HasField p (C ∷ A ∷ []) f → ⊥
  no_field C A f h = no_field_at h.at f h.declares.field (sup_level h.declares.super) h.declares.at

  -- an Add is no Exp
  add_apart : Sup p (in_base Add) (in_base Exp) → ⊥
  add_apart s = at (sups_kept p (Add ∷ []) As t.tops_kept t.adds Add base refl refl (in_base Exp) s) refl where
    at : {S : Path} → OneOf (Add ∷ []) As S → S ≡ in_base Exp → ⊥
    at (one C A c a) e = not_exp (has_only Add C c ∙ first_name e) where
      first_name : C ∷ A ∷ [] ≡ in_base Exp → C ≡ Exp
      first_name i = cc

  -- so the one class of base!.Exp is base.Exp
  which : (C : Name) → Contains Cs C → Sup p (in_base C) (in_base Exp) → Exp ≡ C
  which C c s = at (in_cons Exp (Add ∷ []) C c) where
    last_of : (Add ≡ C) ⊎ Contains [] C → Exp ≡ C
    last_of (inl e) = absurd (add_apart (subst (λ (n : Name). Sup p (in_base n) (in_base Exp)) (sym e) s))
    last_of (inr n) = absurd (in_none C n)

    at : (Exp ≡ C) ⊎ Contains (Add ∷ []) C → Exp ≡ C
    at (inl e) = e
    at (inr d) = last_of (in_cons Add [] C d)

  exp_of : (U : Path) → TwoLevels Cs As U → drop 1 U ≡ base ∷ [] → Sup p U (in_base Exp) → U ≡ in_base Exp
  exp_of U (package_of A a) e s = absurd (omega (arith, ap length e))
  exp_of U (class_of C A c a) e s =
      let i = one_name A base e in
      let k = which C (has_in Cs C c) (subst (λ (n : Name). Sup p (C ∷ n ∷ []) (in_base Exp)) i s) in
      ap (λ (n : Name). n ∷ A ∷ []) (sym k) ∙ ap (λ (n : Name). Exp ∷ n ∷ []) i

  the_exp : (U : Path) → IsClass p U → InAtoms p no_views (exps_of base ∷ []) U → U ≡ in_base Exp
  the_exp U c i = let x = i (exps_of base) first in exp_of U (levels U c) x.inside.exact x.inside.super

  is_in : InAtoms p no_views (exps_of base ∷ []) (in_base Exp)
  is_in x m = at x m where
    at : (y : Atom) → Among (exps_of base ∷ []) y → InAtom p no_views y (in_base Exp)
    at y first = record { seen = tt; inside = record { exact = refl; super = itself } }
    at y (later n) = elim n [ ]

  -- at base.Add each class is its own counterpart
  own_turns : Turns p (with_this (in_base Add) to_own_exp) (in_base Exp) (in_base Exp)
  own_turns = record {
    family = base;
    of_target = refl;
    counterpart = record { is = refl; related = record { one = t.base_there; other = t.base_there; linked = link.itself } };
    is_in = record { seen = tt; inside = record { exact = refl; super = itself } };
  }

  at_base : HoldsAt p (in_base Add) to_own_exp
  at_base U c i = subst (IsGranted p (with_this (in_base Add) to_own_exp)) (sym (the_exp U c i))
      (record { view = in_base Exp; turns = own_turns; fields = λ f h. absurd (no_field Exp base f h) })

-- ---- with sharing

shares : Related sharing_heir (in_disp Exp) (in_base Exp)
shares = the_related pair_of_classes [] Exp (simp (outs-Inner)) (simp (outs-Inner))

of_sharing : IsTested sharing_heir
of_sharing = record {
  tops_named = refl;
  tops_kept = refl;
  plain = simp (outs-Inner);
  adds = simp (outs-Inner);
  bare = simp (outs-Inner);
  base_there = shares.other;
}

heir_turns : Turns sharing_heir (with_this (in_disp Add) to_own_exp) (in_base Exp) (in_disp Exp)
heir_turns = record {
  family = disp;
  of_target = refl;
  counterpart = record { is = refl; related = back pair_of_classes [] shares };
  is_in = record { seen = tt; inside = record { exact = refl; super = itself } };
}

at_heir : HoldsAt sharing_heir (in_disp Add) to_own_exp
at_heir U c i = subst (IsGranted sharing_heir (with_this (in_disp Add) to_own_exp)) (sym (the_exp sharing_heir of_sharing U c i))
    (record { view = in_disp Exp; turns = heir_turns; fields = λ f h. absurd (no_field sharing_heir of_sharing Exp disp f h) })

-- ---- without

plain_exp : inner_has plain_heir base Exp anything ≡ true
plain_exp = simp (outs-Inner)

plain_class : inner_has plain_heir base Exp is_class ≡ true
plain_class = simp (outs-Inner)

of_plain : IsTested plain_heir
of_plain = record {
  tops_named = refl;
  tops_kept = refl;
  plain = simp (outs-Inner);
  adds = simp (outs-Inner);
  bare = simp (outs-Inner);
  base_there = record {
    universe = ((tt, top_member plain_heir base refl), inner_member plain_heir base base Exp itself plain_exp);
    kind = inner_class plain_heir (in_base Exp) base Exp itself plain_class;
  };
}

abbrev adapts_none : Decl → Bool
adapts_none d = nat_eq (length d.adapts) 0

abbrev shares_none : Decl → Bool
shares_none d = nat_eq (length d.shares) 0

none_shares : (R : Path) (d : Decl) (A : Named) → TwoLevels Cs As R → StandsAt plain_heir R d → Contains d.shares A → ⊥
none_shares R d A (package_of B b) s c = none_of d.shares A (at_top plain_heir shares_none refl B d s) c
none_shares R d A (class_of C B k b) s c = none_of d.shares A (at_inner plain_heir (λ D. shares_none) (simp (outs-Inner)) C B d s) c

never_shared : (R S : Path) → Shares plain_heir R S → ⊥
never_shared R S (adapted X A C k d s c r q of_one of_other) = none_of d.adapts A (at_top plain_heir adapts_none refl X d s) c
never_shared R S (shared X A C k d s c r q of_one of_other) = none_shares R d A (levels plain_heir of_plain R of_one) s c

only_itself : {R S : Path} → Equivalent (Shares plain_heir) R S → R ≡ S
only_itself (link.pair h) = absurd (never_shared _ _ h)
only_itself link.itself = refl
only_itself (link.turned f) = sym (only_itself f)
only_itself (link.joined f g) = only_itself f ∙ only_itself g

some_name : (x y : Name) → Some x ≡ Some y → x ≡ y
some_name x y e = cc

no_turn : (W : Path) → Turns plain_heir (with_this (in_disp Add) to_own_exp) (in_base Exp) W → ⊥
no_turn W t =
    let e : in_disp Exp ≡ W = ap (λ (Y : Name). in_family Y (in_base Exp)) (some_name disp t.family t.of_target) ∙ sym t.counterpart.is in
    differ (only_itself t.counterpart.related.linked ∙ sym e) where
      differ : in_base Exp ≡ in_disp Exp → ⊥
      differ e = absurd (omega (arith, ap (λ (P : Path). second_number P) e)) where
        second_number : Path → ℕ
        second_number [] = 0
        second_number (C ∷ []) = 0
        second_number (C ∷ A ∷ P) = A.0

fails : Fails plain_heir (with_this (in_disp Add) to_own_exp) (in_base Exp)
fails = record { class = of_plain.base_there; is_in = is_in plain_heir of_plain; refused = λ g. no_turn g.view g.turns }

not_before : Before plain_heir (in_base Exp) (in_base Exp) → ⊥
not_before e = cc

pub at_an_heir : AtAnHeir
at_an_heir = record {
  shared_base = at_base sharing_heir of_sharing;
  plain_base = at_base plain_heir of_plain;
  shared_heir = at_heir;
  plain_refuted = no_counterpart (in_base Exp)
      (record {
        holds = fails;
        first = λ Q f b. not_before (subst (λ (P : Path). Before plain_heir P (in_base Exp)) (the_exp plain_heir of_plain Q f.class f.is_in) b);
      })
      no_turn refl refl;
}
