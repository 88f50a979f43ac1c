-- The lists of a row.
use Rattle.std.proofs.Common.{◌≡◌, ◌<◌, ◌+◌, ◌↔◌, ◌⊎◌, inl, inr, ℕ, List, [], ◌∷◌, ◌++◌, length, take, Contains, Some, get_or, refl, sym, subst, Option, IfSome}
use Rattle.std.specs.List.Sorted.{IsStrictlySortedBy}
use Rattle.std.proofs.lemmas.List.Elements.{Contains-push_cases}
use Rattle.jn_reach.specs.Each.{Each}
use Rattle.jn_reach.proofs.Eachs.{Each-more}
use Rattle.jn_share.proofs.FieldEntries.{any_default}
use Rattle.jn_base.proofs.NameTests.{in_none}
use Rattle.jn_base.specs.declared.tree.Name.{Name}
use Rattle.jn_base.specs.declared.tree.Program.{Program}
use Rattle.jn_base.specs.Paths.{Path}
use Rattle.jn_table.specs.declared.class.ClassId.{ClassId}
use Rattle.jn_table.specs.declared.class.Row.{Row}
use Rattle.jn_table.specs.declared.table.Table.{Table}
use Rattle.jn_table.specs.Rows.{IsRow}
use Rattle.jn_share.specs.declared.slots.Slots.{Slots}
use Rattle.jn_agree.specs.Naming.{Naming}
use Rattle.jn_agree.specs.Rows.{HasEntry}
use Rattle.jn_layout.specs.declared.pairs.Pair.{Pair}
use Rattle.jn_layout.specs.Pairs.{pair_cmp, AreEntries, Gathers}
use Rattle.jn_layout.specs.Lookups.{MethodPair, FieldPair, FieldPlace}
use Rattle.jn_layout.specs.RowLists.{IsEntryOf}

pub methods_are : (p : Program) (t : Table) (n : Naming) (R : Path) (row : Row) → IsRow p t.known.items R row → (list : List Name) → list ≡ row.methods.items → (pairs all : List Pair)
    → Gathers (MethodPair p n R) list pairs → ((x : Pair) → Contains all x ↔ Contains pairs x) → IsStrictlySortedBy pair_cmp all → AreEntries (HasEntry p n R) all
methods_are p t n R row is list e pairs all g same order = record {
  exact = λ x. (
    λ c. (g.sound x ((same x).0 c)).2.entry,
    λ h. (same x).1 (g.complete h.sel.name x (subst (λ (xs : List Name). Contains xs h.sel.name) (sym e) ((is.methods.exact h.sel.name).1 (h.body.class, h.least.least.among)))
        (record { entry = h; named = refl })),
  );
  in_order = order;
}

pub fields_are : (p : Program) (t : Table) (n : Naming) (s : Slots) (id : ClassId) (R : Path) (row : Row) → IsRow p t.known.items R row → (list : List Name) → list ≡ row.fields.items
    → (pairs all : List Pair) → Gathers (FieldPair p n s id R) list pairs → ((x : Pair) → Contains all x ↔ Contains pairs x) → IsStrictlySortedBy pair_cmp all
    → AreEntries (FieldPlace p n s id R) all
fields_are p t n s id R row is list e pairs all g same order = record {
  exact = λ x. (
    λ c. (g.sound x ((same x).0 c)).2.place,
    λ h. (same x).1 (g.complete h.entry.sel.name x
        (subst (λ (xs : List Name). Contains xs h.entry.sel.name) (sym e) ((is.fields.exact h.entry.sel.name).1 (h.entry.is.class, h.entry.is.is_field.declares)))
        (record { place = h; named = refl })),
  );
  in_order = order;
}

pub small_none : (out : List Pair) → out ≡ [] → (x : Pair) → Contains out x → x.value < 256
small_none out e x c = absurd (in_none x (subst (λ (xs : List Pair). Contains xs x) e c))

pub small_more : (out after : List Pair) (d : Pair) (o : Option Pair) → o ≡ Some d → IfSome o (λ x. x.value < 256) → after ≡ out ++ d ∷ [] → ((x : Pair) → Contains out x → x.value < 256)
    → (x : Pair) → Contains after x → x.value < 256
small_more out after d o is low e before x c = by_place (Contains-push_cases out d x (subst (λ (xs : List Pair). Contains xs x) e c)) where
  here : d.value < 256
  here = subst (λ (q : Option Pair). IfSome q (λ x. x.value < 256)) is low

  by_place : Contains out x ⊎ (d ≡ x) → x.value < 256
  by_place (inl h) = before x h
  by_place (inr h) = subst (λ (y : Pair). y.value < 256) h here

-- ---- entries

abbrev pub zero_pair : Pair
zero_pair = record { key = 0; value = 0 }

pub entry_next : {E : Type 0} (key value : E → ℕ) (pairs : List Pair) (es now : List E) (i : ℕ) (e : E) → i < length pairs → now ≡ es ++ e ∷ []
    → IsEntryOf key value (get_or pairs i zero_pair) e → Each (IsEntryOf key value) (take i pairs) es → Each (IsEntryOf key value) (take (i + 1) pairs) now
entry_next {E} key value pairs es now i e l is h g =
    let x = get_or pairs i zero_pair in
    subst (λ (zs : List E). Each (IsEntryOf key value) (take (i + 1) pairs) zs) (sym is)
    (Each-more (IsEntryOf key value) pairs es i x e l (any_default pairs i zero_pair x l) g h)
