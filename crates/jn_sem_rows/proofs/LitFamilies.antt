-- Programs of two families with one class Lit: their declarations pass, and what is asked of them has one answer.
use Rattle.std.proofs.Common.{◌≡◌, ◌<◌, ℕ, zero, suc, List, [], ◌∷◌, length, Some, Bool, true, false, nat_eq, refl, sym, ap, ◌∙◌, subst, slice_get, arith}
use Rattle.std.specs.Prelude.{not, ◌&&◌, if◌then◌else◌}
use Rattle.std.specs.List.{list_all}
use Rattle.std.proofs.lemmas.List.Elements.{All-nil, All-cons}
use Rattle.jn_base.specs.declared.tree.Name.{Name}
use Rattle.jn_base.specs.declared.tree.Text.{Text}
use Rattle.jn_base.specs.declared.tree.Decl.{Decl}
use Rattle.jn_base.specs.declared.tree.Member.{Member as Inside}
use Rattle.jn_base.specs.declared.tree.Program.{Program}
use Rattle.jn_base.specs.ClassOrder.{HasDistinctNames}
use Rattle.jn_base.specs.Duplicates.{has_name, duplicates}
use Rattle.jn_base.specs.Paths.{Path, StandsAt}
use Rattle.jn_base.specs.Supers.{Member, IsOwnSuper}
use Rattle.jn_base.specs.Universe.{InUniverse}
use Rattle.jn_base.specs.Members.{HasTwoKinds}
use Rattle.jn_base.specs.TableRules.{TablePasses}
use Rattle.jn_base.specs.LawsOfTable.{NamesItsPaths}
use Rattle.jn_base.proofs.NameTests.{and_both, has_in, passes}
use Rattle.jn_base.proofs.ExampleTools.{tops, inners, at_top, at_inner, same, keeps, top_member, of_each}
use Rattle.jn_base.proofs.VerdictTools.{TwoLevels, package_of, class_of, top_of, plain_of, universe_of, few_paths, no_top_cycle, IsRanked, lower_written, no_class_cycle, package_alone, classes_in, class_alone, known_classes, all_known}
use Rattle.jn_sem.specs.LawsOfFinding.{FoundOnceIn}
use Rattle.jn_sem.proofs.FindingLaws.{finds_one_in}
use Rattle.jn_sem_rows.specs.SlotsExample.{base, disp, Lit, adapting}
use Rattle.jn_sem_rows.proofs.MainTools.{some_text, in_list}
use Rattle.jn_sem_rows.proofs.SlotTools.{is_flat, deep, one_name, bare}

-- ---- distinct texts

same_bytes : List ℕ → List ℕ → Bool
same_bytes [] [] = true
same_bytes [] (y ∷ ys) = false
same_bytes (x ∷ xs) [] = false
same_bytes (x ∷ xs) (y ∷ ys) = nat_eq x y && same_bytes xs ys

bytes_same : (xs : List ℕ) → same_bytes xs xs ≡ true
unfolding same_bytes
bytes_same [] = refl
bytes_same (x ∷ xs) = both (nat_eq x x) (same_bytes xs xs) (same_number x) (bytes_same xs) where
  same_number : (n : ℕ) → nat_eq n n ≡ true
  same_number n = grind arith

  both : (a b : Bool) → a ≡ true → b ≡ true → a && b ≡ true
  both true b e f = f
  both false b e f = cc

apart : List Text → Bool
unfolding same_bytes
apart [] = true
apart (t ∷ ts) = list_all (λ u. not (same_bytes t.bytes u.bytes)) ts && apart ts

none_there : (n : ℕ) (t : Text) → slice_get [] n ≡ Some t → ⊥
none_there zero t e = cc
none_there (suc n) t e = cc

not_same : (b : Bool) → not b ≡ true → b ≡ true → ⊥
not_same true e f = cc
not_same false e f = cc

-- the first text is not found again
first_alone : (t : Text) (ts : List Text) (n : ℕ) (u : Text) → list_all (λ u. not (same_bytes t.bytes u.bytes)) ts ≡ true
    → slice_get ts n ≡ Some u → t.bytes ≡ u.bytes → ⊥
first_alone t ts n u e g b =
    not_same (same_bytes t.bytes u.bytes) (passes (λ u. not (same_bytes t.bytes u.bytes)) ts u e (in_list ts n u g))
    (subst (λ (bs : List ℕ). same_bytes t.bytes bs ≡ true) b (bytes_same t.bytes))

one_place : (ts : List Text) → apart ts ≡ true → (i j : ℕ) (a b : Text) → slice_get ts i ≡ Some a → slice_get ts j ≡ Some b → a.bytes ≡ b.bytes → i ≡ j
unfolding apart
one_place [] e i j a b g h k = absurd (none_there i a g)
one_place (t ∷ ts) e zero zero a b g h k = refl
one_place (t ∷ ts) e zero (suc j) a b g h k =
    let d = and_both (list_all (λ u. not (same_bytes t.bytes u.bytes)) ts) (apart ts) e in
    absurd (first_alone t ts j b d.0 h (ap (λ (u : Text). u.bytes) (some_text t a g) ∙ k))
one_place (t ∷ ts) e (suc i) zero a b g h k =
    let d = and_both (list_all (λ u. not (same_bytes t.bytes u.bytes)) ts) (apart ts) e in
    absurd (first_alone t ts i a d.0 g (ap (λ (u : Text). u.bytes) (some_text t b h) ∙ sym k))
one_place (t ∷ ts) e (suc i) (suc j) a b g h k =
    ap suc (one_place ts (and_both (list_all (λ u. not (same_bytes t.bytes u.bytes)) ts) (apart ts) e).1 i j a b g h k)

-- ---- two families

abbrev pub Lits : List Name
Lits = Lit ∷ []

abbrev pub Families : List Name
Families = base ∷ disp ∷ []

abbrev later_family : Name → ℕ
later_family A = if same A disp then 1 else 0

abbrev by_family : Name → Name → ℕ
by_family C A = later_family A

-- what is tested of the members of the two packages
pub record IsTested (own further : List Inside) : Type 0 where
  pub flat : inners is_flat (adapting own further) ≡ true
  pub lits : inners one_name (adapting own further) ≡ true
  pub bare_tops : tops bare (adapting own further) ≡ true
  pub plain : inners (plain_of Lits) (adapting own further) ≡ true
  pub keeps : inners (λ A. keeps Lits) (adapting own further) ≡ true
  pub written : inners (lower_written Families by_family) (adapting own further) ≡ true
  pub classes : inners (classes_in Families) (adapting own further) ≡ true
  pub known : inners (known_classes (adapting own further)) (adapting own further) ≡ true
  pub once : duplicates (adapting own further) ≡ []

module _ (own further : List Inside) (t : IsTested own further) where
  abbrev p : Program
  p = adapting own further

  distinct : HasDistinctNames p
  unfolding apart
  distinct i j a b g h e = one_place p.names refl i j a b g h e

  family_below : (A : Name) → has_name Families A ≡ true → A.0 < length p.names
  family_below A h = of_each Families (λ (B : Name). B.0 < length p.names) (omega arith, (omega arith, tt)) A (has_in Families A h)

  lit_below : (C : Name) → has_name Lits C ≡ true → C.0 < length p.names
  lit_below C h = of_each Lits (λ (D : Name). D.0 < length p.names) (omega arith, tt) C (has_in Lits C h)

  top_has_its : (A : Name) (d : Decl) → StandsAt p (A ∷ []) d → has_name Families A ≡ true
  top_has_its A d s = subst (λ (n : Name). has_name Families n ≡ true) s.1 (at_top p (top_of Families) refl A d s)

  its_names : NamesItsPaths p
  its_names [] d = absurd d.stands
  its_names (A ∷ []) d = All-cons (λ n. n.0 < length p.names) A [] (family_below A (top_has_its A d.decl d.stands)) (All-nil (λ (n : Name). n.0 < length p.names))
  its_names (C ∷ A ∷ []) d =
      let e = d.stands.0 in
      let k = at_inner p (plain_of Lits) t.plain C A d.decl d.stands in
      All-cons (λ n. n.0 < length p.names) C (A ∷ [])
      (lit_below C (subst (λ (n : Name). has_name Lits n ≡ true) d.stands.1 (and_both (has_name Lits d.decl.name.name) _ k).0))
      (All-cons (λ n. n.0 < length p.names) A [] (family_below A (top_has_its A e.0 (e.1, e.2))) (All-nil (λ (n : Name). n.0 < length p.names)))
  its_names (C ∷ A ∷ B ∷ P) d = absurd (deep own further t.flat t.lits t.bare_tops A B P d.decl d.stands.0)

  two_levels : (Q : Path) → InUniverse p Q → TwoLevels Lits Families Q
  two_levels Q u = universe_of p Lits Families refl t.plain Q u

  ranked : IsRanked p Lits Families by_family
  ranked = record { packages = refl; classes = t.keeps; heirs = refl; texts = t.written }

  acyclic : (Q : Path) → TwoLevels Lits Families Q → IsOwnSuper p Q → ⊥
  acyclic Q (package_of K a) o = no_top_cycle p later_family refl K o
  acyclic Q (class_of N K c a) o = no_class_cycle p Lits Families by_family ranked N K c a o

  kinds : (Q : Path) → TwoLevels Lits Families Q → HasTwoKinds p Q → ⊥
  kinds Q (package_of K a) h = package_alone p K refl h
  kinds Q (class_of N K c a) h = class_alone p Lits Families refl t.keeps t.classes N K c a h

  has_tops : (K : Name) → has_name Families K ≡ true → Member p [] K
  has_tops K a = of_each Families (Member p []) (top_member p base refl, (top_member p disp refl, tt)) K (has_in Families K a)

  pub table_passes : TablePasses p
  table_passes = record {
    within = few_paths p Lits Families refl t.plain refl (omega arith);
    no_cycle = λ Q o. acyclic Q (two_levels Q o.0) o.1;
    one_kind = λ Q h. kinds Q (two_levels Q h.0) h.1;
    all_known = all_known p Lits Families has_tops t.plain refl t.known;
  }

  pub found_once : FoundOnceIn p
  found_once = finds_one_in p (record { once = t.once; table = table_passes }) distinct its_names
