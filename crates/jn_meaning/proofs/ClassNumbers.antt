-- Classes by their numbers.
use Rattle.std.proofs.Common.{◌≡◌, ◌↔◌, ◌<◌, ℕ, zero, suc, arith, List, [], ◌∷◌, length, reverse, Option, Some, None, Bool, IsTrue, refl, sym, ap, ◌∙◌, subst}
use Rattle.std.specs.Prelude.{slice_get}
use Rattle.std.proofs.lemmas.List.{reverse-reverse}
use Rattle.jn_base.specs.declared.tree.Kind.TheVariants as kind
use Rattle.jn_base.specs.declared.tree.Program.{Program}
use Rattle.jn_base.specs.declared.path.Path.{Path as ShownPath}
use Rattle.jn_base.specs.Paths.{Path, shown}
use Rattle.jn_base.specs.Universe.{InUniverse}
use Rattle.jn_table.specs.declared.class.ClassId.{ClassId}
use Rattle.jn_table.specs.declared.class.Row.{Row}
use Rattle.jn_table.specs.declared.table.Table.{Table}
use Rattle.jn_table.specs.Rows.{IsNumber, IsRow}
use Rattle.jn_table.specs.Tables.{IsFilled, SaysRow}
use Rattle.jn_share.proofs.Numbered.{numbered_known}
use Rattle.jn_share.proofs.Turned.{turned_same}
use Rattle.jn_base.specs.declared.tree.Name.{Name}
use Rattle.jn_sem.specs.Sharing.{IsClass}
use Rattle.jn_meaning.specs.Values.{path_in, path_at}

shown_back : (q : ShownPath) → shown (reverse q.names) ≡ q
shown_back q i = record { names = reverse-reverse q.names i }

-- a number that has a path stands for it
pub number_of : (known : List ShownPath) (id : ClassId) (q : ShownPath) → slice_get known id.0 ≡ Some q → IsNumber known id (path_at known id)
number_of known id q e = e ∙ ap Some (sym (shown_back q)) ∙ ap (λ (o : Option ShownPath). Some (shown (path_in o))) (sym e)

pub path_of_number : (known : List ShownPath) (id : ClassId) (R : Path) → IsNumber known id R → path_at known id ≡ R
path_of_number known id R e = ap path_in e ∙ reverse-reverse R

-- a class has a path
pub class_number : (p : Program) (known : List ShownPath) (id : ClassId) → IsClass p (path_at known id) → IsNumber known id (path_at known id)
class_number p known id c = by_path (slice_get known id.0) refl c
  where
    by_path : (o : Option ShownPath) → slice_get known id.0 ≡ o → IsClass p (path_in o) → IsNumber known id (path_at known id)
    by_path None e k = absurd (k.universe)
    by_path (Some q) e k = number_of known id q e

-- the row of a class's number is that of a class
module _ (p : Program) (t : Table) (f : IsFilled p t) (id : ClassId) where
  pub row_of : (R : Path) (row : Row) → SaysRow t id row → IsNumber t.known.items id R → IsRow p t.known.items R row
  row_of R row says n = says p R f.table n

  pub kind_told : (row : Row) (told : Bool) (q : ShownPath) → slice_get t.known.items id.0 ≡ Some q → SaysRow t id row → IsTrue told ↔ (row.kind ≡ kind.Class)
      → IsTrue told ↔ IsClass p (path_at t.known.items id)
  kind_told row told q e says i =
      let n = number_of t.known.items id q e in
      let r = row_of _ row says n in (
        λ b. record { universe = numbered_known p t _ id f n; kind = (r.kind kind.Class).1 (sym (i.0 b)) },
        λ c. i.1 (sym ((r.kind kind.Class).0 c.kind)),
      )

  pub no_class : slice_get t.known.items id.0 ≡ None → IsClass p (path_at t.known.items id) → ⊥
  no_class e c = let k = subst (λ (o : Option ShownPath). IsClass p (path_in o)) e c in k.universe

pub at_within : {X : Type 0} (xs : List X) (i : ℕ) → i < length xs → (x : X) × (slice_get xs i ≡ Some x)
at_within [] i l = absurd (omega (arith, l))
at_within (x ∷ xs) zero l = (x, refl)
at_within (x ∷ xs) (suc i) l = at_within xs i (omega (arith, l))

pub class_told : (p : Program) (t : Table) (f : IsFilled p t) (id : ClassId) (row : Row) (told : Bool) → id.0 < length t.rows.items → length t.rows.items ≡ length t.known.items
    → SaysRow t id row → IsTrue told ↔ (row.kind ≡ kind.Class) → IsTrue told ↔ IsClass p (path_at t.known.items id)
class_told p t f id row told l e says i =
    let r = at_within t.known.items id.0 (omega (arith, l, e)) in
    kind_told p t f id row told r.0 r.1 says i

-- names that are the same, turned
pub one_path : (ns ms : List Name) (P Q : Path) (told : Bool) → reverse ns ≡ P → reverse ms ≡ Q → IsTrue told ↔ (ns ≡ ms) → IsTrue told ↔ (P ≡ Q)
one_path ns ms P Q told e f i = (λ b. sym e ∙ ap reverse (i.0 b) ∙ f, λ q. i.1 (turned_same ns ms (e ∙ q ∙ sym f)))

pub path_read : (known ks : List ShownPath) (id : ClassId) (q : ShownPath) → ks ≡ known → Some q ≡ slice_get ks id.0 → path_at known id ≡ reverse q.names
path_read known ks id q e h = ap path_in (ap (λ (xs : List ShownPath). slice_get xs id.0) (sym e) ∙ sym h)

-- a number whose row is filled stands for a path
pub filled_number : (t : Table) (id : ClassId) → id.0 < length t.rows.items → length t.rows.items ≡ length t.known.items → IsNumber t.known.items id (path_at t.known.items id)
filled_number t id l e = let r = at_within t.known.items id.0 (omega (arith, l, e)) in number_of t.known.items id r.0 r.1

-- and is in the universe
pub filled_universe : (p : Program) (t : Table) (id : ClassId) → IsFilled p t → id.0 < length t.rows.items → InUniverse p (path_at t.known.items id)
filled_universe p t id f l = numbered_known p t (path_at t.known.items id) id f (filled_number t id l t.paired)

-- the number of a class has a row
pub class_filled : (p : Program) (t : Table) (id : ClassId) → IsClass p (path_at t.known.items id) → id.0 < length t.rows.items
class_filled p t id c = let l = within t.known.items id.0 _ (class_number p t.known.items id c) in omega (arith, l, t.paired)
  where
    within : {X : Type 0} (xs : List X) (i : ℕ) (x : X) → slice_get xs i ≡ Some x → i < length xs
    within [] i x e = absurd (cc)
    within (y ∷ xs) zero x e = omega arith
    within (y ∷ xs) (suc i) x e = let l = within xs i x e in omega (arith, l)
