-- Facts of programs with two families, by tests that compute.
use Rattle.std.proofs.Common.{◌≡◌, ◌<◌, ◌^◌, ℕ, zero, suc, List, [], ◌∷◌, length, drop, None, Contains, Bool, true, nat_eq, refl, sym, ap, ◌∙◌, subst, get_or, ◌⊎◌, inl, inr, arith}
use Rattle.std.specs.Prelude.{Ok}
use Rattle.jn_reach.specs.Equivalent.{pair, turned}
use Rattle.jn_base.specs.declared.tree.Name.{Name}
use Rattle.jn_base.specs.declared.tree.Decl.{Decl}
use Rattle.jn_base.specs.declared.tree.Member.{Member as Inside}
use Rattle.jn_base.specs.declared.tree.Field.{Field}
use Rattle.jn_base.specs.declared.tree.Kind.TheVariants as kind
use Rattle.jn_base.specs.declared.tree.Program.{Program}
use Rattle.jn_base.specs.declared.types.Anchor.TheVariants.{Up}
use Rattle.jn_base.specs.declared.types.Ty.{Ty}
use Rattle.jn_base.specs.declared.types.Ty.TheVariants as ty
use Rattle.jn_base.specs.Universe.{InUniverse}
use Rattle.jn_base.specs.Duplicates.{has_name}
use Rattle.jn_base.specs.Paths.{Path, StandsIn, StandsAt, Declared, nested, fields}
use Rattle.jn_base.specs.Supers.{Sup, itself, Member}
use Rattle.jn_base.specs.Members.{HasKind, FieldAt}
use Rattle.jn_base.specs.Atoms.{Atom, atom, shown_atom, no_masks, Among, first, later}
use Rattle.jn_base.specs.ExampleTrees.{word}
use Rattle.jn_base.specs.Resolve.{found, in_class}
use Rattle.jn_base.specs.ResolveTypes.{mask_names, MasksAre, OneDepth, none, first as first_term, one}
use Rattle.jn_base.proofs.NameTests.{in_cons, in_none, has_in, first as at_first, later as behind}
use Rattle.jn_base.proofs.SuperLaws.{member_heir, sup_inherited, sup_level}
use Rattle.jn_base.proofs.ExampleTools.{tops, at_top, has_only, inners, at_inner, top_member, top_above, anything, inner_has, inner_member, inner_class, is_class}
use Rattle.jn_sem_rows.proofs.BelowProof.{no_mask}
use Rattle.jn_sem.specs.Sharing.{IsClass, adapted, Related, HangsOnThis}
use Rattle.jn_sem.specs.Sets.{InAtom, InType}
use Rattle.jn_sem.specs.Values.{HasField}
use Rattle.jn_sem.specs.Slots.{this_viewed}
use Rattle.jn_sem.specs.Terms.{FieldTypeIs}
use Rattle.jn_sem_rows.specs.SlotsExample.{base, disp, Lit, base_decl, disp_decl, adapting, named_type, in_base, in_disp}

module _ (own further : List Inside) where
  abbrev the_program : Program
  the_program = adapting own further

  pub above_base : Sup the_program (disp ∷ []) (base ∷ [])
  above_base = top_above the_program disp base refl refl

  pub base_class : (C : Name) → inner_has the_program base C anything ≡ true → inner_has the_program base C is_class ≡ true → IsClass the_program (in_base C)
  base_class C h k = record {
    universe = ((tt, top_member the_program base refl), inner_member the_program base base C itself h);
    kind = inner_class the_program (in_base C) base C itself k;
  }

  pub disp_class : (C : Name) → inner_has the_program base C anything ≡ true → inner_has the_program base C is_class ≡ true → IsClass the_program (in_disp C)
  disp_class C h k =
      let m = inner_member the_program base base C itself h in
      record {
        universe = ((tt, top_member the_program disp refl), member_heir above_base m);
        kind = inner_class the_program (in_disp C) base C (sup_inherited above_base m) k;
      }

  pub the_related : (C : Name) → inner_has the_program base C anything ≡ true → inner_has the_program base C is_class ≡ true → Related the_program (in_disp C) (in_base C)
  the_related C h k = record {
    one = disp_class C h k;
    other = base_class C h k;
    linked = pair (adapted disp (word base) C [] (disp_decl further) (behind (base_decl own) (disp_decl further ∷ []) (disp_decl further) (at_first (disp_decl further) []), refl) (at_first (word base) []) refl refl (disp_class C h k) (base_class C h k));
  }

  pub back : {R S : Path} → Related the_program R S → Related the_program S R
  back r = record { one = r.other; other = r.one; linked = turned r.linked }

-- the type of `C`, found in the namespace of the class
abbrev pub in_namespace : Name → Ty
in_namespace C = ty.Class (shown_atom (atom (Up 0 1) [] (C ∷ [])) ∷ []) no_masks

-- no declaration has an inner one at depth 3
abbrev pub is_flat : Name → Decl → Bool
is_flat A d = nat_eq (length (nested d.members)) 0

nought : (n : ℕ) → nat_eq n 0 ≡ true → n ≡ 0
nought n e = grind arith

pub none_of : {X : Type 0} (xs : List X) (x : X) → nat_eq (length xs) 0 ≡ true → Contains xs x → ⊥
none_of [] x e c = in_none x c
none_of (y ∷ xs) x e c = absurd (omega (arith, nought (length (y ∷ xs)) e))

flat : (p : Program) → inners is_flat p ≡ true → (A B : Name) (N : Name) → Declared p (N ∷ A ∷ B ∷ []) → ⊥
flat p e A B N x =
    let s = x.stands.0 in
    none_of (nested s.0.members) x.decl (at_inner p is_flat e A B s.0 (s.1, s.2)) s.3

two_long : (S : Path) → length S ≡ 2 → (A : Name) × (B : Name) × (S ≡ A ∷ B ∷ [])
two_long [] e = absurd (omega (arith, e))
two_long (A ∷ []) e = absurd (omega (arith, e))
two_long (A ∷ B ∷ []) e = (A, B, refl)
two_long (A ∷ B ∷ C ∷ S) e = absurd (omega (arith, e))

pub no_member : (p : Program) → inners is_flat p ≡ true → (A B : Name) (N : Name) → Member p (A ∷ B ∷ []) N → ⊥
no_member p e A B N m =
    let s = two_long m.at (sup_level m.super) in
    flat p e s.0 s.1 N (subst (λ (S : Path). Declared p (N ∷ S)) s.2 m.declared)

wide_zero : (k d : ℕ) → k < 4 → get_or no_masks.0 k d < 2 ^ 64
wide_zero zero d l = omega arith
wide_zero (suc zero) d l = omega arith
wide_zero (suc (suc zero)) d l = omega arith
wide_zero (suc (suc (suc zero))) d l = omega arith
wide_zero (suc (suc (suc (suc k)))) d l = absurd (omega (arith, l))

pub masks_none : (names : List Name) → MasksAre names [] no_masks
masks_none names = record {
  words = refl;
  wide = wide_zero;
  each = λ i l. (λ h. absurd (no_mask i h), λ x. absurd (in_none x.mask x.among));
}

-- one bound has one depth
pub one_depth : (R : Path) → OneDepth (R ∷ [])
one_depth R B E h i = ap length (sym (alone B h) ∙ alone E i) where
  alone : (B : Path) → Contains (R ∷ []) B → R ≡ B
  alone B h = elim (in_cons R [] B h) [ inl i ↦ i | inr n ↦ absurd (in_none B n) ]

-- `C` as the type of a field of the class D of `base`
pub type_of_name : (p : Program) → inners is_flat p ≡ true → (D C f : Name) → Member p (base ∷ []) C → HasKind p (C ∷ base ∷ []) kind.Class
    → FieldTypeIs p (D ∷ base ∷ []) f (named_type C) (in_namespace C)
type_of_name p e D C f m k = record {
  atoms = Ok (shown_atom (atom (Up 0 1) [] (C ∷ [])) ∷ []);
  all = first_term (shown_atom (atom (Up 0 1) [] (C ∷ []))) (Ok []) (record {
    anchor = Ok (Up 0 1);
    given = record {
      found = Ok 1;
      sought = found 1 None (record { within = omega arith; member = m; innermost = inner }) refl refl;
      gives = refl;
    };
    gives = in_class k refl;
  }) (none refl) refl;
  gives = one (one_depth (C ∷ base ∷ [])) (record { masks = no_masks; are = masks_none (mask_names p); gives = refl });
} where
  inner : (j : ℕ) → j < 1 → Member p (drop j (D ∷ base ∷ [])) C → ⊥
  inner zero l h = no_member p e D base C h
  inner (suc j) l h = absurd (omega (arith, l))

-- U is in the type `C` of the namespace of V
pub in_at : (p : Program) (C : Name) (V U : Path) → drop 1 U ≡ drop 1 V → Sup p U (C ∷ drop 1 V) → InType p (this_viewed V) (in_namespace C) U
in_at p C V U e s x m = one_atom x m where
  one_atom : (x : Atom) → Among (atom (Up 0 1) [] (C ∷ []) ∷ []) x → InAtom p (this_viewed V) x U
  one_atom x first = record { seen = refl; inside = record { exact = e; super = s } }
  one_atom x (later n) = elim n [ ]

-- and what is in it
pub at_in : (p : Program) (C : Name) (V U : Path) → InType p (this_viewed V) (in_namespace C) U → (drop 1 U ≡ drop 1 V) × Sup p U (C ∷ drop 1 V)
at_in p C V U h = let i = h _ first in (i.inside.exact, i.inside.super)

pub it_hangs : (C : Name) → HangsOnThis (in_namespace C)
it_hangs C = record { atom = atom (Up 0 1) [] (C ∷ []); among = first; levels = 1; anchor = refl }

-- a declaration in a family
pub stands_in_base : (own further : List Inside) (d : Decl) → Contains (nested own) d → StandsAt (adapting own further) (d.name.name ∷ base ∷ []) d
stands_in_base own further d c = ((base_decl own, at_first (base_decl own) (disp_decl further ∷ []), refl, c), refl)

pub stands_in_disp : (own further : List Inside) (d : Decl) → Contains (nested further) d → StandsAt (adapting own further) (d.name.name ∷ disp ∷ []) d
stands_in_disp own further d c =
    ((disp_decl further, behind (base_decl own) (disp_decl further ∷ []) (disp_decl further) (at_first (disp_decl further) []), refl, c), refl)

-- ---- families of one class, Lit

abbrev pub one_name : Name → Decl → Bool
one_name A d = has_name (Lit ∷ []) d.name.name

abbrev pub bare : Decl → Bool
bare d = nat_eq (length (fields d.members)) 0

abbrev pub IsLit : Path → Type 0
IsLit Q = (Q ≡ in_base Lit) ⊎ (Q ≡ in_disp Lit)

module _ (own further : List Inside) (flat_is : inners is_flat (adapting own further) ≡ true) (lits_only : inners one_name (adapting own further) ≡ true) (bare_tops : tops bare (adapting own further) ≡ true) where
  abbrev that : Program
  that = adapting own further

  pub deep : (A B : Name) (P : Path) (d : Decl) → StandsIn that (A ∷ B ∷ P) d → ⊥
  deep A B [] d s = none_of (nested s.0.members) d (at_inner that is_flat flat_is A B s.0 (s.1, s.2)) s.3
  deep A B (C ∷ P) d s = deep B C P s.0 s.1

  family_name : (A : Name) (d : Decl) → StandsAt that (A ∷ []) d → (base ≡ A) ⊎ (disp ≡ A)
  family_name A d s =
      let h = at_top that (λ e. has_name (base ∷ disp ∷ []) e.name.name) refl A d s in
      of_two A (in_cons base (disp ∷ []) A (subst (Contains (base ∷ disp ∷ [])) s.1 (has_in (base ∷ disp ∷ []) d.name.name h))) where
        of_two : (B : Name) → (base ≡ B) ⊎ Contains (disp ∷ []) B → (base ≡ B) ⊎ (disp ≡ B)
        of_two B (inl e) = inl e
        of_two B (inr c) = elim (in_cons disp [] B c) [ inl e ↦ inr e | inr n ↦ absurd (in_none B n) ]

  lit_name : (C A : Name) (d : Decl) → StandsAt that (C ∷ A ∷ []) d → Lit ≡ C
  lit_name C A d s = has_only Lit C (subst (λ (n : Name). has_name (Lit ∷ []) n ≡ true) s.1 (at_inner that one_name lits_only C A d s))

  -- a field is declared in one of the two
  pub field_place : (R : Path) (f : Name) (x : Field) → FieldAt that R f x → (A : Name) × (R ≡ Lit ∷ A ∷ []) × ((base ≡ A) ⊎ (disp ≡ A))
  field_place [] f x h = absurd h.stands
  field_place (A ∷ []) f x h = absurd (none_of (fields h.decl.members) x (at_top that bare bare_tops A h.decl h.stands) h.has)
  field_place (C ∷ A ∷ []) f x h =
      let e = h.stands.0 in
      (A, ap (λ (n : Name). n ∷ A ∷ []) (sym (lit_name C A h.decl h.stands)), family_name A e.0 (e.1, e.2))
  field_place (C ∷ A ∷ B ∷ P) f x h = absurd (deep A B P h.decl h.stands.0)

  no_super : (S : Path) → Sup that [] S → S ≡ []
  no_super S s = none_long S (sup_level s) where
    none_long : (T : Path) → length T ≡ 0 → T ≡ []
    none_long [] e = refl
    none_long (C ∷ T) e = absurd (omega (arith, e))

  one_long : (S : Path) → length S ≡ 1 → (B : Name) × (S ≡ B ∷ [])
  one_long [] e = absurd (omega (arith, e))
  one_long (B ∷ []) e = (B, refl)
  one_long (B ∷ C ∷ S) e = absurd (omega (arith, e))

  -- a path of two names in the universe is one of the two
  pub which : (Q : Path) → length Q ≡ 2 → InUniverse that Q → IsLit Q
  which [] e u = absurd u
  which (C ∷ []) e u = absurd (omega (arith, e))
  which (C ∷ A ∷ []) e u =
      let top = u.0.1 in
      let d = subst (λ (S : Path). Declared that (A ∷ S)) (no_super top.at top.super) top.declared in
      let at = one_long u.1.at (sup_level u.1.super) in
      let x = subst (λ (S : Path). Declared that (C ∷ S)) at.1 u.1.declared in
      placed C A (lit_name C at.0 x.decl x.stands) (family_name A d.decl d.stands) where
        placed : (D B : Name) → Lit ≡ D → (base ≡ B) ⊎ (disp ≡ B) → IsLit (D ∷ B ∷ [])
        placed D B i (inl j) = inl (named i j) where
          named : Lit ≡ D → base ≡ B → D ∷ B ∷ [] ≡ in_base Lit
          named i j = cc
        placed D B i (inr j) = inr (named i j) where
          named : Lit ≡ D → disp ≡ B → D ∷ B ∷ [] ≡ in_disp Lit
          named i j = cc
  which (C ∷ A ∷ B ∷ Q) e u = absurd (omega (arith, e))

  -- so a class with a field is one of the two
  pub with_field : (Q : Path) (f : Name) → IsClass that Q → HasField that Q f → IsLit Q
  with_field Q f c h =
      let at = field_place h.at f h.declares.field h.declares.at in
      which Q (sym (sup_level h.declares.super) ∙ ap length at.1) c.universe
