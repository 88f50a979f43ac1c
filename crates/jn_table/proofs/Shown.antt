-- Paths as the code has them, and their numbers.
use Rattle.std.proofs.Common.{◌≡◌, ◌<◌, ℕ, List, [], ◌∷◌, length, slice_get, Some, arith, sym, ◌∙◌, ap, subst, refl, zero, suc, map, reverse, Contains, ◌↔◌, IsTrue, Bool}
use Rattle.std.proofs.lemmas.List.{reverse-reverse}
use Rattle.std.proofs.lemmas.Option.{slice_get_read}
use Rattle.jn_reach.specs.Each.{none}
use Rattle.jn_reach.proofs.Eachs.{Each-at, Each-back}
use Rattle.jn_reach.proofs.Searches.{same_some}
use Rattle.jn_base.specs.declared.tree.Program.{Program}
use Rattle.jn_base.specs.declared.path.Path.{Path as ShownPath}
use Rattle.jn_base.specs.Paths.{Path, shown}
use Rattle.jn_base.specs.Supers.{Sup}
use Rattle.jn_base.specs.ClassOrder.{class_cmp, Before}
use Rattle.jn_base.proofs.ClassOrders.{before_irreflexive, before_chain}
use Rattle.jn_table.specs.Rows.{IsNumber, AreClasses, IsRow}
use Rattle.jn_table.specs.Answers.{AreRows}
use Rattle.jn_table.specs.Tables.{SaysRow, SaysSup, SaysBefore}
use Rattle.jn_table.specs.declared.class.ClassId.{ClassId}
use Rattle.jn_table.specs.declared.class.Row.{Row}
use Rattle.jn_table.specs.declared.table.Table.{Table}
use Rattle.jn_table.proofs.Sorted.{InOrder, in_order, sorted, one_place, place_below}

pub shown_one : (P Q : Path) → shown P ≡ shown Q → P ≡ Q
shown_one P Q e = sym (reverse-reverse P) ∙ (ap reverse (ap (λ (x : ShownPath). x.names) e) ∙ reverse-reverse Q)

pub shown_at : (paths : List Path) (k : ℕ) (P : Path) → slice_get paths k ≡ Some P
    → slice_get (map shown paths) k ≡ Some (shown P)
shown_at [] k P e = absurd (cc e)
shown_at (Q ∷ ps) zero P e = let h : Q ≡ P = cc e in ap (λ (R : Path). Some (shown R)) h
shown_at (Q ∷ ps) (suc k) P e = shown_at ps k P e

pub at_shown : (paths : List Path) (k : ℕ) (P : Path) → slice_get (map shown paths) k ≡ Some (shown P)
    → slice_get paths k ≡ Some P
at_shown [] k P e = absurd (cc e)
at_shown (Q ∷ ps) zero P e = let h : shown Q ≡ shown P = cc e in ap Some (shown_one Q P h)
at_shown (Q ∷ ps) (suc k) P e = at_shown ps k P e

-- a number stands for one path
pub number_path : (known : List ShownPath) (id : ClassId) (P Q : Path) → IsNumber known id P → IsNumber known id Q
    → P ≡ Q
number_path known id P Q a b = shown_one P Q (same_some (slice_get known id.0) (shown P) (shown Q) a b)

pub same_id : (a b : ClassId) → a.0 ≡ b.0 → a ≡ b
same_id a b e = ap (λ (n : ℕ). record { 0 = n }) e

module _ (p : Program) (paths : List Path) (known : List ShownPath) (is : known ≡ map shown paths)
    (o : InOrder (class_cmp p) paths) where
  pub place_of_number : (id : ClassId) (P : Path) → IsNumber known id P → slice_get paths id.0 ≡ Some P
  place_of_number id P a =
      at_shown paths id.0 P (subst (λ (ks : List ShownPath). slice_get ks id.0 ≡ Some (shown P)) is a)

  -- a path has one number
  pub path_number : (a b : ClassId) (P : Path) → IsNumber known a P → IsNumber known b P → a ≡ b
  path_number a b P x y =
      same_id a b (one_place (class_cmp p) (before_irreflexive p) paths o a.0 b.0 P (place_of_number a P x)
      (place_of_number b P y))

  pub numbers_before : (a b : ClassId) (A B : Path) → IsNumber known a A → IsNumber known b B
      → (a.0 < b.0) ↔ Before p A B
  numbers_before a b A B x y = (
    λ l. o.by a.0 b.0 A B l (place_of_number a A x) (place_of_number b B y),
    λ l. place_below (class_cmp p) (before_irreflexive p) (before_chain p) paths o a.0 b.0 A B
        (place_of_number a A x) (place_of_number b B y) l,
  )

  -- a number is in the list where its path is one of those
  pub classes_at : (T : Path → Type 0) (ids : List ClassId) → AreClasses p known T ids → (b : ClassId) (B : Path)
      → IsNumber known b B
      → Contains ids b ↔ T B
  classes_at T ids c b B y = (to, from) where
    to : Contains ids b → T B
    to h =
        let e = Each-back (λ (S : Path) (id : ClassId). IsNumber known id S) c.numbered h.0 b
        (slice_get_read ids (length ids) h.0 b refl h.1 (sym h.2)) in
        let s = number_path known b e.0 B e.2 y in
        subst T s ((c.are.exact e.0).0 (in_list c.paths h.0 e.0 e.1)) where
          in_list : (ps : List Path) (k : ℕ) (P : Path) → slice_get ps k ≡ Some P → Contains ps P
          in_list [] k P a = absurd (cc a)
          in_list (Q ∷ ps) zero P a = (0, omega arith, cc a)
          in_list (Q ∷ ps) (suc k) P a = let r = in_list ps k P a in (suc r.0, omega (arith, r.1), r.2)

    from : T B → Contains ids b
    from t =
        let h = (c.are.exact B).1 t in
        let e = Each-at (λ (S : Path) (id : ClassId). IsNumber known id S) c.numbered h.0 B
        (slice_get_read c.paths (length c.paths) h.0 B refl h.1 (sym h.2)) in
        ids_has ids h.0 e.0 b e.1 (path_number e.0 b B e.2 y) where
          ids_has : (xs : List ClassId) (k : ℕ) (x y : ClassId) → slice_get xs k ≡ Some x → x ≡ y → Contains xs y
          ids_has [] k x y a e = absurd (cc a)
          ids_has (z ∷ zs) zero x y a e = (0, omega arith, (let h : z ≡ x = cc a in h) ∙ e)
          ids_has (z ∷ zs) (suc k) x y a e = let r = ids_has zs k x y a e in (suc r.0, omega (arith, r.1), r.2)

-- the row of a number
pub row_is : (p : Program) (known : List ShownPath) (rows : List Row) → AreRows p known rows
    → (id : ClassId) (R : Path) (row : Row)
    → IsNumber known id R → slice_get rows id.0 ≡ Some row → IsRow p known R row
row_is p known rows a id R row n at =
    let o = in_order (class_cmp p) a.paths a.in_order in
    let e = Each-at (IsRow p known) a.each id.0 R (place_of_number p a.paths known a.shown_are o id R n) in
    subst (IsRow p known R) (same_some (slice_get rows id.0) e.0 row e.1 at) e.2

pub says_row : (t : Table) (id : ClassId) (row : Row) → slice_get t.rows.items id.0 ≡ Some row → SaysRow t id row
says_row t id row at p R is n = row_is p t.known.items t.rows.items is.rows id R row n at

pub says_sup : (t : Table) (a b : ClassId) (row : Row) (told : Bool) → slice_get t.rows.items a.0 ≡ Some row
    → IsTrue told ↔ Contains row.sups.items b
    → SaysSup t a b told
says_sup t a b row told at i p A B is x y =
    let r = is.rows in
    let o = in_order (class_cmp p) r.paths r.in_order in
    let k = row_is p t.known.items t.rows.items r a A row x at in
    let c = classes_at p r.paths t.known.items r.shown_are o (Sup p A) row.sups.items k.sups b B y in
    (λ h. c.0 (i.0 h), λ s. i.1 (c.1 s))

pub says_before : (t : Table) (a b : ClassId) (told : Bool) → IsTrue told ↔ (a.0 < b.0) → SaysBefore t a b told
says_before t a b told i p A B is x y =
    let r = is.rows in
    let o = in_order (class_cmp p) r.paths r.in_order in
    let c = numbers_before p r.paths t.known.items r.shown_are o a b A B x y in
    (λ h. c.0 (i.0 h), λ s. i.1 (c.1 s))

-- no path is known
pub no_rows : (p : Program) (known : List ShownPath) (rows : List Row) → known ≡ [] → rows ≡ [] → AreRows p known rows
no_rows p known rows k r =
    subst (λ (ks : List ShownPath). AreRows p ks rows) (sym k) (subst (AreRows p []) (sym r)
    (record {
      paths = [];
      shown_are = refl;
      universe = λ R c. absurd (omega (arith, c.1));
      in_order = sorted (class_cmp p) [] (record { by = λ i j x y l a b. absurd (cc a) });
      each = none;
    }))
