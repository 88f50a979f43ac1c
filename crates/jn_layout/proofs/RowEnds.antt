-- Rows, one behind the other.
use Rattle.std.proofs.Common.{◌≡◌, ◌+◌, ◌⊎◌, inl, inr, ℕ, zero, suc, List, [], ◌∷◌, ◌++◌, length, map, All, Some, slice_get, refl, sym, subst, ap, ◌∙◌, arith}
use Rattle.std.proofs.lemmas.List.{length_push}
use Rattle.std.proofs.lemmas.List.Elements.{All-nil, All-cons}
use Rattle.jn_reach.specs.Each.{Each, none, more}
use Rattle.jn_base.specs.declared.tree.Program.{Program}
use Rattle.jn_base.specs.declared.path.Path.{Path as ShownPath}
use Rattle.jn_base.specs.Paths.{Path, shown}
use Rattle.jn_table.specs.declared.table.Table.{Table}
use Rattle.jn_share.specs.declared.slots.Slots.{Slots}
use Rattle.jn_code.specs.declared.image.ClassRow.{ClassRow}
use Rattle.jn_code.specs.Form.{RowInForm}
use Rattle.jn_agree.specs.Naming.{Naming}
use Rattle.jn_agree.specs.Rows.{RowIs}
use Rattle.jn_layout.specs.Parts.{AreClassesOf}
use Rattle.jn_layout.specs.RowLists.{RowRight, RowsRight, RowsTo}

pushed_at : {A : Type 0} (xs : List A) (x y : A) (j : ℕ) → slice_get (xs ++ x ∷ []) j ≡ Some y → (slice_get xs j ≡ Some y) ⊎ ((j ≡ length xs) × (x ≡ y))
pushed_at [] x y zero e = inr (refl, cc e)
pushed_at [] x y (suc j) e = absurd (cc e)
pushed_at (z ∷ zs) x y zero e = inl e
pushed_at {A} (z ∷ zs) x y (suc j) e = by_place (pushed_at zs x y j e) where
  by_place : (slice_get zs j ≡ Some y) ⊎ ((j ≡ length zs) × (x ≡ y)) → (slice_get zs j ≡ Some y) ⊎ ((suc j ≡ suc (length zs)) × (x ≡ y))
  by_place (inl h) = inl h
  by_place (inr h) = inr (ap suc h.0, h.1)

each_places : {A B : Type 0} (R : A → B → Type 0) (xs : List A) (ys : List B) → length ys ≡ length xs
    → ((k : ℕ) (x : A) (y : B) → slice_get xs k ≡ Some x → slice_get ys k ≡ Some y → R x y) → Each R xs ys
each_places R [] [] l h = none
each_places R [] (y ∷ ys) l h = absurd (omega (arith, l))
each_places R (x ∷ xs) [] l h = absurd (omega (arith, l))
each_places R (x ∷ xs) (y ∷ ys) l h = more (h 0 x y refl refl) (each_places R xs ys (omega (arith, l)) (λ k a b u v. h (suc k) a b u v))

each_all : {A B : Type 0} (R : A → B → Type 0) (Q : B → Type 0) → ((x : A) (y : B) → R x y → Q y) → {xs : List A} {ys : List B} → Each R xs ys → All Q ys
each_all R Q f none = All-nil Q
each_all R Q f (more {x = x} {y = y} {ys = ys} r rest) = All-cons Q y ys (f x y r) (each_all R Q f rest)

length_shown : (xs : List Path) → length (map shown xs) ≡ length xs
length_shown [] = refl
length_shown (x ∷ xs) = ap suc (length_shown xs)

pub known_long : (t : Table) (n : Naming) → AreClassesOf t n → length t.known.items ≡ length n.classes
known_long t n e = ap (λ (xs : List ShownPath). length xs) e ∙ length_shown n.classes

module _ (p : Program) (n : Naming) (s : Slots) where
  pub rows_none : (rows : List ClassRow) → rows ≡ [] → RowsTo p n s 0 rows
  rows_none rows e = record {
    long = ap (λ (xs : List ClassRow). length xs) e;
    each = λ j R row a b. absurd (let h : slice_get [] j ≡ Some row = subst (λ (xs : List ClassRow). slice_get xs j ≡ Some row) e b in nothing j row h);
  } where
    nothing : (j : ℕ) (row : ClassRow) → slice_get [] j ≡ Some row → ⊥
    nothing j row h = cc h

  pub rows_more : (k : ℕ) (rows after : List ClassRow) (row : ClassRow) → after ≡ rows ++ row ∷ [] → ((R : Path) → slice_get n.classes k ≡ Some R → RowRight p n s (record { 0 = k }) R row)
      → RowsTo p n s k rows → RowsTo p n s (k + 1) after
  rows_more k rows after row e right to = record {
    long = ap (λ (xs : List ClassRow). length xs) e ∙ (length_push rows row ∙ ap (λ (i : ℕ). i + 1) to.long);
    each = λ j R x a b. by_place j R x a (pushed_at rows row x j (subst (λ (xs : List ClassRow). slice_get xs j ≡ Some x) e b));
  } where
    by_place : (j : ℕ) (R : Path) (x : ClassRow) → slice_get n.classes j ≡ Some R → (slice_get rows j ≡ Some x) ⊎ ((j ≡ length rows) × (row ≡ x)) → RowRight p n s (record { 0 = j }) R x
    by_place j R x a (inl h) = to.each j R x a h
    by_place j R x a (inr h) =
        let same : j ≡ k = h.0 ∙ to.long in
        subst (λ (y : ClassRow). RowRight p n s (record { 0 = j }) R y) h.1
        (subst (λ (i : ℕ). RowRight p n s (record { 0 = i }) R row) (sym same) (right R (subst (λ (i : ℕ). slice_get n.classes i ≡ Some R) same a)))

  pub rows_right : (k : ℕ) (rows : List ClassRow) → k ≡ length n.classes → RowsTo p n s k rows → RowsRight p n s rows
  rows_right k rows e to = record {
    rows_are = each_places (RowIs p n) n.classes rows (to.long ∙ e) (λ j R row a b. (to.each j R row a b).is);
    in_form = each_all (λ (R : Path) (row : ClassRow). RowInForm row) RowInForm (λ R row f. f)
        (each_places (λ (R : Path) (row : ClassRow). RowInForm row) n.classes rows (to.long ∙ e) (λ j R row a b. (to.each j R row a b).in_form));
    slots = λ j f m R row a b h. (to.each j R row a b).slots f m h;
  }
