-- The names in order are in the order of their bytes.
use Rattle.std.proofs.Common.{◌≡◌, ◌<◌, ℕ, List, [], ◌∷◌, length, slice_get, Some, sym, ◌∙◌, ap, refl, Contains}
use Rattle.std.specs.declared.cmp.Ordering.{Ordering}
use Rattle.std.specs.declared.cmp.Ordering.TheVariants.{Less, Equal, Greater}
use Rattle.std.specs.Ordering.{nat_cmp, ordering_then}
use Rattle.std.specs.Cmp.{nat_cmp_is}
use Rattle.std.proofs.lemmas.Map.Lookups.{exact_bytes}
use Rattle.std.proofs.lemmas.Option.{slice_get-get_or, slice_get_within, get_or_from_slice_get}
use Rattle.std.proofs.lemmas.List.Elements.{All-head}
use Rattle.jn_base.specs.declared.tree.Name.{Name}
use Rattle.jn_base.specs.declared.tree.Text.{Text}
use Rattle.jn_base.specs.declared.tree.Program.{Program}
use Rattle.jn_base.specs.NameTexts.{bytes_of}
use Rattle.jn_base.specs.ClassOrder.{name_bytes, name_cmp, HasDistinctNames, HasItsNames}
use Rattle.jn_base.specs.Paths.{Path}
use Rattle.jn_table.specs.Order.{order_cmp, IsOrderOf}
use Rattle.jn_table.specs.Rows.{AreNames}
use Rattle.jn_table.proofs.Sorted.{in_order, sorted}

nameless : Text
nameless = record { bytes = [] }

-- two names of the program of the same bytes are one name
one_name : (p : Program) → HasDistinctNames p → (a b : Name) → a.0 < length p.names → b.0 < length p.names
    → name_cmp p a b ≡ Equal → a ≡ b
one_name p u a b la lb e =
    let ga = slice_get-get_or p.names a.0 nameless la in
    let gb = slice_get-get_or p.names b.0 nameless lb in
    let t = exact_bytes (name_bytes p a) (name_bytes p b) e in
    ap (λ (n : ℕ). record { 0 = n }) (u a.0 b.0 _ _ ga gb (sym (ap bytes_of ga) ∙ t ∙ ap bytes_of gb))

by_cases : (r s o : Ordering) → o ≡ r → ordering_then r s ≡ Less → (r ≡ Equal → s ≡ Equal) → o ≡ Less
by_cases Less s o e h k = e
by_cases Equal s o e h k = let b : Equal ≡ Less = sym (k refl) ∙ h in cc b
by_cases Greater s o e h k = cc h

pub name_less : (p : Program) → HasDistinctNames p → (C D : Name) → C.0 < length p.names → D.0 < length p.names
    → order_cmp p.names C D ≡ Less
    → name_cmp p C D ≡ Less
name_less p u C D c d l = by_cases (name_cmp p C D) (nat_cmp C.0 D.0) (name_cmp p C D) refl l same where
  same : name_cmp p C D ≡ Equal → nat_cmp C.0 D.0 ≡ Equal
  same e = sym (nat_cmp_is C.0 D.0 Equal (ap (λ (n : Name). n.0) (one_name p u C D c d e)))

-- so a list of the program's names that is in order is in the order of their bytes
pub names_are : (p : Program) (T : Name → Type 0) (names order : List Name) → HasDistinctNames p
    → ((n : Name) → Contains names n → T n) → ((n : Name) → T n → Contains names n) → ((n : Name) → T n
    → n.0 < length p.names)
    → IsOrderOf p.names names order → AreNames p T order
names_are p T names order u to from within o = record {
  exact = λ n. (λ c. to n ((o.exact n).0 c), λ t. (o.exact n).1 (from n t));
  in_order = sorted (name_cmp p) order (record { by = by });
} where
  named : (i : ℕ) (C : Name) → slice_get order i ≡ Some C → C.0 < length p.names
  named i C at =
      within C (to C ((o.exact C).0 (i, slice_get_within order i C at, get_or_from_slice_get order i C C at)))

  by : (i j : ℕ) (C D : Name) → i < j → slice_get order i ≡ Some C → slice_get order j ≡ Some D → name_cmp p C D ≡ Less
  by i j C D l a b =
      name_less p u C D (named i C a) (named j D b) ((in_order (order_cmp p.names) order o.in_order).by i j C D l a b)

pub named_head : (p : Program) (C : Name) (P : Path) → HasItsNames p (C ∷ P) → C.0 < length p.names
named_head p C P h = All-head (λ (n : Name). n.0 < length p.names) C P h
