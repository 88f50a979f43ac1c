-- Classes in atoms, by the names of their paths.
use Rattle.std.proofs.Common.{◌≡◌, ◌<◌, ◌≤◌, ◌+◌, ◌↔◌, ℕ, zero, suc, List, [], ◌∷◌, ◌++◌, length, reverse, drop, map, slice_get, Some, None, Contains, Bool, IsTrue, true, false, refl, sym, ap, ◌∙◌, subst, arith, append_assoc, ◌⊎◌, inl, inr, get_or}
use Rattle.std.specs.List.{Any}
use Rattle.std.proofs.lemmas.List.{append_cancel_left, append-nil, reverse-append, reverse-reverse, length-reverse}
use Rattle.std.proofs.lemmas.Bool.{cases_lt}
use Rattle.std.proofs.lemmas.Option.{slice_get_read, slice_get_within}
use Rattle.jn_reach.proofs.Searches.{iff_false, not_when, same_some}
use Rattle.jn_base.specs.declared.tree.Name.{Name}
use Rattle.jn_base.specs.declared.tree.Program.{Program}
use Rattle.jn_base.specs.declared.path.Path.{Path as ShownPath}
use Rattle.jn_base.specs.declared.types.Atom.{Atom as ShownAtom}
use Rattle.jn_base.specs.Paths.{Path}
use Rattle.jn_base.specs.Supers.{Sup}
use Rattle.jn_base.specs.Atoms.{Atom, atom_of, Among, first, later}
use Rattle.jn_base.specs.ClassOrder.{class_cmp}
use Rattle.jn_base.proofs.Reaching.{sup_in_universe}
use Rattle.jn_table.specs.declared.class.ClassId.{ClassId}
use Rattle.jn_table.specs.declared.class.Row.{Row}
use Rattle.jn_table.specs.declared.table.Table.{Table}
use Rattle.jn_table.specs.Rows.{IsNumber, IsRow}
use Rattle.jn_table.specs.Tables.{IsFilled}
use Rattle.jn_table.proofs.Shown.{classes_at, number_path}
use Rattle.jn_table.proofs.Sorted.{in_order}
use Rattle.jn_share.proofs.Numbered.{numbered_known}
use Rattle.jn_share.proofs.Turned.{turned_same}
use Rattle.jn_sem.specs.Sets.{Views, eval, Inside, InAtom}
use Rattle.jn_share.specs.Atoms.{HasNames, FrontIs, InEach}

-- ---- names of three lists

pub joined_here : (names rest last a b c : List Name) (told : Bool) → names ≡ a ++ rest → rest ≡ b ++ last → IsTrue told ↔ (last ≡ c)
    → IsTrue told ↔ (names ≡ a ++ (b ++ c))
joined_here names rest last a b c told e h i = (
  λ t. e ∙ ap (λ (xs : List Name). a ++ xs) (h ∙ ap (λ (xs : List Name). b ++ xs) (i.0 t)),
  λ q. i.1 (append_cancel_left b last c (sym h ∙ append_cancel_left a rest (b ++ c) (sym e ∙ q))),
)

pub not_joined : (names rest a b c : List Name) → names ≡ a ++ rest → ((xs : List Name) → rest ≡ b ++ xs → ⊥) → IsTrue false ↔ (names ≡ a ++ (b ++ c))
not_joined names rest a b c e n = iff_false (λ q. n c (append_cancel_left a rest (b ++ c) (sym e ∙ q)))

-- ---- names of a number

-- the number of these names is that of the path
pub named_number : (known : List ShownPath) (names : List Name) (id : ClassId) → HasNames known names id → IsNumber known id (reverse names)
named_number known names id h = h ∙ ap (λ (ns : List Name). Some (record { names = ns })) (sym (reverse-reverse names))

pub number_named : (known : List ShownPath) (R : Path) (id : ClassId) → IsNumber known id R → HasNames known (reverse R) id
number_named known R id h = h

-- and the path is these names turned
pub path_of_names : (known : List ShownPath) (names : List Name) (R : Path) (id : ClassId) → HasNames known names id → IsNumber known id R → reverse names ≡ R
path_of_names known names R id h n = number_path known id (reverse names) R (named_number known names id h) n

-- ---- the supers

module _ (p : Program) (t : Table) (f : IsFilled p t) (U : Path) (u : ClassId) (at_u : IsNumber t.known.items u U) (row : Row) (is : IsRow p t.known.items U row) where
  super_at : (id : ClassId) (S : Path) → IsNumber t.known.items id S → Contains row.sups.items id ↔ Sup p U S
  super_at id S n =
      let r = f.table.rows in
      classes_at p r.paths t.known.items r.shown_are (in_order (class_cmp p) r.paths r.in_order) (Sup p U) row.sups.items is.sups id S n

  pub super_named : (names : List Name) → Any (HasNames t.known.items names) row.sups.items ↔ Sup p U (reverse names)
  super_named names = (to, from) where
    to : Any (HasNames t.known.items names) row.sups.items → Sup p U (reverse names)
    to a = (super_at a.1 (reverse names) (named_number t.known.items names a.1 a.4)).0 (a.0, a.2, a.3)

    from : Sup p U (reverse names) → Any (HasNames t.known.items names) row.sups.items
    from s =
        let k = f.whole.whole (reverse names) (sup_in_universe s (numbered_known p t U u f at_u)) in
        let c = (super_at k.0 (reverse names) k.1).1 s in
        (c.0, k.0, c.1, c.2, k.1 ∙ ap (λ (ns : List Name). Some (record { names = ns })) (reverse-reverse names))

-- ---- inside

front_behind : (front exact : List Name) → reverse (front ++ exact) ≡ reverse exact ++ reverse front
front_behind front exact = reverse-append front exact

pub outer_is : (names left front exact : List Name) (U : Path) (n : ℕ) → reverse names ≡ U → reverse left ≡ drop n (reverse names)
    → (left ≡ front ++ (exact ++ [])) ↔ (drop n U ≡ reverse exact ++ reverse front)
outer_is names left front exact U n e l = (to, from) where
  cut : reverse left ≡ drop n U
  cut = l ∙ ap (drop n) e

  to : left ≡ front ++ (exact ++ []) → drop n U ≡ reverse exact ++ reverse front
  to q = sym cut ∙ (ap reverse (q ∙ ap (λ (xs : List Name). front ++ xs) (append-nil exact)) ∙ front_behind front exact)

  from : drop n U ≡ reverse exact ++ reverse front → left ≡ front ++ (exact ++ [])
  from q =
      turned_same left (front ++ exact) (cut ∙ (q ∙ sym (front_behind front exact))) ∙ ap (λ (xs : List Name). front ++ xs) (sym (append-nil exact))

three_turned : (a b c : List Name) → reverse (a ++ (b ++ c)) ≡ reverse c ++ (reverse b ++ reverse a)
three_turned a b c = reverse-append a (b ++ c) ∙ (ap (λ (xs : List Name). xs ++ reverse a) (reverse-append b c) ∙ append_assoc (reverse c) (reverse b) (reverse a))

module _ (p : Program) (t : Table) (f : IsFilled p t) (U : Path) (u : ClassId) (at_u : IsNumber t.known.items u U) where
  whole_is : (front exact ns : List Name) → reverse (front ++ (exact ++ ns)) ≡ reverse ns ++ (reverse exact ++ reverse front)
  whole_is = three_turned

  pub not_inside : (names left front exact ns : List Name) (b : Bool) → HasNames t.known.items names u → reverse left ≡ drop (length ns) (reverse names)
      → b ≡ false → IsTrue b ↔ (left ≡ front ++ (exact ++ [])) → IsTrue false ↔ Inside p U (reverse exact ++ reverse front) (reverse ns)
  not_inside names left front exact ns b h l e i = iff_false (λ k.
      not_when e i ((outer_is names left front exact U (length ns) (path_of_names t.known.items names U u h at_u) l).1
      (ap (λ (n : ℕ). drop n U) (sym (length-reverse ns)) ∙ k.exact)))

  pub inside_told : (row : Row) → IsRow p t.known.items U row → (names left front exact ns : List Name) (sups : List ClassId) (b told : Bool)
      → HasNames t.known.items names u → reverse left ≡ drop (length ns) (reverse names) → b ≡ true → IsTrue b ↔ (left ≡ front ++ (exact ++ []))
      → sups ≡ row.sups.items → IsTrue told ↔ Any (HasNames t.known.items (front ++ (exact ++ ns))) sups
      → IsTrue told ↔ Inside p U (reverse exact ++ reverse front) (reverse ns)
  inside_told row is names left front exact ns sups b told h l e i se a = (to, from) where
    outer : drop (length ns) U ≡ reverse exact ++ reverse front
    outer = (outer_is names left front exact U (length ns) (path_of_names t.known.items names U u h at_u) l).0 (i.0 e)

    all : Any (HasNames t.known.items (front ++ (exact ++ ns))) sups ↔ Sup p U (reverse (front ++ (exact ++ ns)))
    all = subst (λ (ss : List ClassId). Any (HasNames t.known.items (front ++ (exact ++ ns))) ss ↔ Sup p U (reverse (front ++ (exact ++ ns)))) (sym se)
        (super_named p t f U u at_u row is (front ++ (exact ++ ns)))

    to : IsTrue told → Inside p U (reverse exact ++ reverse front) (reverse ns)
    to x = record {
      exact = ap (λ (n : ℕ). drop n U) (length-reverse ns) ∙ outer;
      super = subst (Sup p U) (three_turned front exact ns) (all.0 (a.0 x));
    }

    from : Inside p U (reverse exact ++ reverse front) (reverse ns) → IsTrue told
    from k = a.1 (all.1 (subst (Sup p U) (sym (three_turned front exact ns)) k.super))

-- ---- in an atom

pub in_front : (p : Program) (v : Views) (U : Path) (x : ShownAtom) (front : List Name) (told : Bool) → FrontIs v x.anchor (Some front)
    → IsTrue told ↔ Inside p U (reverse x.exact ++ reverse front) (reverse x.names) → IsTrue told ↔ InAtom p v (atom_of x) U
in_front p v U x front told h i =
    let e : reverse x.exact ++ reverse front ≡ reverse x.exact ++ eval v x.anchor = ap (λ (F : Path). reverse x.exact ++ F) h.1 in (
      λ b. record { seen = h.0; inside = subst (λ (E : Path). Inside p U E (reverse x.names)) e (i.0 b) },
      λ k. i.1 (subst (λ (E : Path). Inside p U E (reverse x.names)) (sym e) k.inside),
    )

pub no_front : (p : Program) (v : Views) (U : Path) (x : ShownAtom) → FrontIs v x.anchor None → IsTrue false ↔ InAtom p v (atom_of x) U
no_front p v U x h = iff_false (λ k. h k.seen)

-- ---- in each of some atoms

-- it is in each of the first n
abbrev pub InFirst : Program → Views → List ShownAtom → Path → ℕ → Type 0
InFirst p v xs U n = (k : ℕ) (x : ShownAtom) → k < n → slice_get xs k ≡ Some x → InAtom p v (atom_of x) U

among_place : (xs : List ShownAtom) (a : Atom) → Among (map atom_of xs) a → (k : ℕ) × (x : ShownAtom) × (slice_get xs k ≡ Some x) × (a ≡ atom_of x)
among_place [] a m = elim m [ ]
among_place (x ∷ xs) _ first = (0, x, refl, refl)
among_place (x ∷ xs) a (later m) = let r = among_place xs a m in (suc r.0, r.1, r.2, r.3)

place_among : (xs : List ShownAtom) (k : ℕ) (x : ShownAtom) → slice_get xs k ≡ Some x → Among (map atom_of xs) (atom_of x)
place_among [] k x e = absurd (cc e)
place_among (y ∷ ys) zero x e = subst (λ (z : ShownAtom). Among (map atom_of (y ∷ ys)) (atom_of z)) (let h : y ≡ x = cc e in h) first
place_among (y ∷ ys) (suc k) x e = later (place_among ys k x e)

pub in_all : (p : Program) (v : Views) (xs : List ShownAtom) (U : Path) (n : ℕ) → length xs ≤ n → InFirst p v xs U n → InEach p v xs U
in_all p v xs U n past h a m =
    let r = among_place xs a m in
    subst (λ (y : Atom). InAtom p v y U) (sym r.3) (h r.0 r.1 (omega (arith, slice_get_within xs r.0 r.1 r.2, past)) r.2)

pub in_more : (p : Program) (v : Views) (xs : List ShownAtom) (U : Path) (i : ℕ) (x : ShownAtom) → i < length xs → x ≡ get_or xs i x
    → InAtom p v (atom_of x) U → InFirst p v xs U i → InFirst p v xs U (i + 1)
in_more p v xs U i x l e a h k y m at = by_place (cases_lt k i) where
  by_place : (k < i) ⊎ (i ≤ k) → InAtom p v (atom_of y) U
  by_place (inl b) = h k y b at
  by_place (inr b) =
      let here : slice_get xs i ≡ Some x = slice_get_read xs (length xs) i x refl l e in
      let n : k ≡ i = omega arith in
      subst (λ (z : ShownAtom). InAtom p v (atom_of z) U) (same_some (slice_get xs i) x y here (ap (slice_get xs) (sym n) ∙ at)) a

pub not_in_all : (p : Program) (v : Views) (xs : List ShownAtom) (U : Path) (i : ℕ) (x : ShownAtom) → i < length xs → x ≡ get_or xs i x
    → (InAtom p v (atom_of x) U → ⊥) → IsTrue false ↔ InEach p v xs U
not_in_all p v xs U i x l e n = iff_false (λ h. n (h (atom_of x) (place_among xs i x (slice_get_read xs (length xs) i x refl l e))))

pub as_sliced : (p : Program) (U F : Path) (es exact ns names : List Name) (told : Bool) → es ≡ exact → ns ≡ names
    → IsTrue told ↔ Inside p U (reverse es ++ F) (reverse ns) → IsTrue told ↔ Inside p U (reverse exact ++ F) (reverse names)
as_sliced p U F es exact ns names told e h i =
    subst (λ (xs : List Name). IsTrue told ↔ Inside p U (reverse exact ++ F) (reverse xs)) h
    (subst (λ (xs : List Name). IsTrue told ↔ Inside p U (reverse xs ++ F) (reverse ns)) e i)
