-- The fields of a class, each with the first class of its slot.
use Rattle.std.proofs.Common.{◌≡◌, ◌<◌, ◌≤◌, ◌+◌, ◌↔◌, ◌⊎◌, inl, inr, ℕ, zero, suc, List, [], ◌∷◌, ◌++◌, length, Contains, Some, slice_get, get_or, Bool, IsTrue, true, refl, sym, ap, ◌∙◌, subst, arith}
use Rattle.std.proofs.lemmas.List.{length-append}
use Rattle.std.proofs.lemmas.Option.{slice_get_read, slice_get_within, slice_get-get_or}
use Rattle.std.specs.declared.cmp.Ordering.TheVariants.{Less, Greater}
use Rattle.std.specs.Ordering.{ordering_reverse}
use Rattle.jn_reach.proofs.Eachs.{Each-at}
use Rattle.jn_reach.proofs.Searches.{same_some}
use Rattle.jn_base.specs.declared.tree.Name.{Name}
use Rattle.jn_base.specs.declared.tree.Program.{Program}
use Rattle.jn_base.specs.declared.path.Path.{Path as ShownPath}
use Rattle.jn_base.specs.Paths.{Path}
use Rattle.jn_base.specs.ClassOrder.{name_cmp, name_total}
use Rattle.jn_base.specs.TableRules.{DeclarationsPass}
use Rattle.jn_table.specs.declared.class.Row.{Row}
use Rattle.jn_table.specs.declared.field_types.FieldTy.{FieldTy}
use Rattle.jn_table.specs.Rows.{IsRow}
use Rattle.jn_table.proofs.Sorted.{in_order, one_place}
use Rattle.jn_sem.specs.Values.{HasField}
use Rattle.jn_sem.specs.Sharing.{IsClass, HangsOnThis}
use Rattle.jn_sem.specs.Slots.{FieldHangs}
use Rattle.jn_sem.specs.LawsOfSlots.{FieldsPass}
use Rattle.jn_share.specs.declared.field_first.FieldFirst.{FieldFirst}
use Rattle.jn_share.specs.Firsts.{IsFirstSlot, AreFieldFirsts}
use Rattle.jn_share.specs.Prepared.{IsDecl, AreDecls}
use Rattle.jn_share.specs.Slots.{IsTyped}
use Rattle.jn_share.proofs.FieldLists.{field_in, in_field}
use Rattle.jn_share.proofs.SameFields.{typed_once}

-- ---- whether the type of a field hangs on `this`

pub hangs_is : (p : Program) → DeclarationsPass p → FieldsPass p → (known : List ShownPath) (types : List FieldTy) (V : Path) (f : Name) (d : ℕ) → IsClass p V
    → IsDecl p known types V f d → (b : Bool) → ((x : FieldTy) → slice_get types d ≡ Some x → IsTrue b ↔ HangsOnThis x.ty) → (b ≡ true) ↔ FieldHangs p V f
hangs_is p pass ok known types V f d c i b says = (
  λ e. record {
    ty = i.entry.ty;
    type = record {
      class = i.class;
      is_field = record { declares = i.declares; only = λ S x. ok.one_place V S i.class f c x i.declares };
      field = i.type.field;
      at = i.type.at;
      type = i.type.type;
    };
    hangs = (says i.entry i.at).0 e;
  },
  λ h.
      let q = ok.one_place V h.type.class i.class f c h.type.is_field.declares i.declares in
      let typed : IsTyped p h.type.class f h.ty = record { field = h.type.field; at = h.type.at; type = h.type.type } in
      let same : h.ty ≡ i.entry.ty = typed_once p pass i.class f h.ty i.entry.ty (subst (λ (Q : Path). IsTyped p Q f h.ty) q typed) i.type in
      (says i.entry i.at).1 (subst HangsOnThis same h.hangs),
)

-- ---- one after the other

pub record RowTo (p : Program) (known : List ShownPath) (V : Path) (fields : List Name) (n : ℕ) (row : List FieldFirst) : Type 0 where
  pub long : length row ≡ n
  pub each : (k : ℕ) (x : FieldFirst) → slice_get row k ≡ Some x
      → (slice_get fields k ≡ Some x.field) × IsFirstSlot p known V x.field x.first × ((x.hangs ≡ true) ↔ FieldHangs p V x.field)

pushed : {A : Type 0} (xs : List A) (r : A) (i : ℕ) (m : A) → slice_get (xs ++ r ∷ []) i ≡ Some m → (slice_get xs i ≡ Some m) ⊎ ((i ≡ length xs) × (r ≡ m))
pushed [] r zero m e = inr (refl, let h : r ≡ m = cc e in h)
pushed [] r (suc i) m e = absurd (cc e)
pushed (x ∷ xs) r zero m e = inl e
pushed (x ∷ xs) r (suc i) m e = by_case (pushed xs r i m e) where
  by_case : (slice_get xs i ≡ Some m) ⊎ ((i ≡ length xs) × (r ≡ m)) → (slice_get xs i ≡ Some m) ⊎ ((suc i ≡ suc (length xs)) × (r ≡ m))
  by_case (inl h) = inl h
  by_case (inr h) = inr (ap suc h.0, h.1)

pub row_start : (p : Program) (known : List ShownPath) (V : Path) (fields : List Name) (row : List FieldFirst) → row ≡ [] → RowTo p known V fields 0 row
row_start p known V fields row e = record { long = ap (λ (xs : List FieldFirst). length xs) e; each = λ k x at. absurd (nothing k x (subst (λ (xs : List FieldFirst). slice_get xs k ≡ Some x) e at)) } where
  nothing : (k : ℕ) (x : FieldFirst) → slice_get [] k ≡ Some x → ⊥
  nothing k x q = cc

pub row_push : (p : Program) (known : List ShownPath) (types : List FieldTy) (V : Path) (fields : List Name) (decls : List ℕ) (i : ℕ) (row after : List FieldFirst) (x : FieldFirst) (f : Name)
    → i < length fields → f ≡ get_or fields i f → after ≡ row ++ x ∷ [] → x.field ≡ f → AreDecls p known types V fields decls
    → ((d : ℕ) → slice_get decls i ≡ Some d → IsDecl p known types V f d → IsFirstSlot p known V f x.first × ((x.hangs ≡ true) ↔ FieldHangs p V f))
    → RowTo p known V fields i row → RowTo p known V fields (i + 1) after
row_push p known types V fields decls i row after x f l e q xf a h w = record {
  long = ap (λ (xs : List FieldFirst). length xs) q ∙ (length-append row (x ∷ []) ∙ omega (arith, w.long));
  each = each;
} where
  at_i : slice_get fields i ≡ Some f
  at_i = slice_get_read fields (length fields) i f refl l e

  each : (k : ℕ) (y : FieldFirst) → slice_get after k ≡ Some y
      → (slice_get fields k ≡ Some y.field) × IsFirstSlot p known V y.field y.first × ((y.hangs ≡ true) ↔ FieldHangs p V y.field)
  each k y at = by_case (pushed row x k y (subst (λ (xs : List FieldFirst). slice_get xs k ≡ Some y) q at)) where
    by_case : (slice_get row k ≡ Some y) ⊎ ((k ≡ length row) × (x ≡ y))
        → (slice_get fields k ≡ Some y.field) × IsFirstSlot p known V y.field y.first × ((y.hangs ≡ true) ↔ FieldHangs p V y.field)
    by_case (inl b) = w.each k y b
    by_case (inr b) =
        let d = Each-at (IsDecl p known types V) a.each i f at_i in
        let r = h d.0 d.1 d.2 in
        let name : f ≡ y.field = sym xf ∙ ap (λ (z : FieldFirst). z.field) b.1 in
        let first : IsFirstSlot p known V f y.first = subst (λ (z : FieldFirst). IsFirstSlot p known V f z.first) b.1 r.0 in
        let hangs : (y.hangs ≡ true) ↔ FieldHangs p V f = subst (λ (z : FieldFirst). (z.hangs ≡ true) ↔ FieldHangs p V f) b.1 r.1 in (
          ap (slice_get fields) (b.0 ∙ w.long) ∙ (at_i ∙ ap Some name),
          subst (λ (g : Name). IsFirstSlot p known V g y.first) name first,
          subst (λ (g : Name). (y.hangs ≡ true) ↔ FieldHangs p V g) name hangs,
        )

-- ---- all of them

pub less_itself : (p : Program) (n : Name) → name_cmp p n n ≡ Less → ⊥
less_itself p n e =
    let a = (name_total p).antisymm n n in
    let c : Less ≡ Greater = sym e ∙ a ∙ ap ordering_reverse e in
    cc c

pub row_done : (p : Program) (known : List ShownPath) (V : Path) (row : Row) → IsRow p known V row → (fields : List Name) → fields ≡ row.fields.items → (n : ℕ) (out : List FieldFirst)
    → length fields ≤ n → RowTo p known V fields n out → AreFieldFirsts p known V out
row_done p known V row is fields e n out past w = record { has = has; once = once; first = λ x c. (w.each c.0 x (place x c)).1; hangs = λ x c. (w.each c.0 x (place x c)).2 } where
  place : (x : FieldFirst) (c : Contains out x) → slice_get out c.0 ≡ Some x
  place x c = slice_get_read out (length out) c.0 x refl c.1 (sym c.2)

  item : (k : ℕ) → k < length out → (x : FieldFirst) × (slice_get out k ≡ Some x) × Contains out x
  item k l = at out k l where
    at : (xs : List FieldFirst) (i : ℕ) → i < length xs → (x : FieldFirst) × (slice_get xs i ≡ Some x) × Contains xs x
    at [] i m = absurd (omega arith)
    at (x ∷ xs) zero m = (x, refl, (0, omega arith, refl))
    at (x ∷ xs) (suc i) m = let r = at xs i (omega (arith, m)) in (r.0, r.1, (suc r.2.0, omega (arith, r.2.1), r.2.2))

  has : (f : Name) → HasField p V f ↔ ((x : FieldFirst) × Contains out x × (x.field ≡ f))
  has f = (to, from) where
    to : HasField p V f → (x : FieldFirst) × Contains out x × (x.field ≡ f)
    to h =
        let c : Contains fields f = subst (λ (xs : List Name). Contains xs f) (sym e) (field_in p known V row is f h) in
        let at : slice_get fields c.0 ≡ Some f = slice_get_read fields (length fields) c.0 f refl c.1 (sym c.2) in
        let x = item c.0 (omega (arith, c.1, past, w.long)) in
        (x.0, x.2, same_some (slice_get fields c.0) x.0.field f (w.each c.0 x.0 x.1).0 at)

    from : (x : FieldFirst) × Contains out x × (x.field ≡ f) → HasField p V f
    from x =
        let at = (w.each x.1.0 x.0 (place x.0 x.1)).0 in
        let l = slice_get_within fields x.1.0 x.0.field at in
        let c : Contains fields x.0.field = (x.1.0, l, same_some (slice_get fields x.1.0) (get_or fields x.1.0 x.0.field) x.0.field (slice_get-get_or fields x.1.0 x.0.field l) at) in
        subst (HasField p V) x.2 (in_field p known V row is x.0.field (subst (λ (xs : List Name). Contains xs x.0.field) e c))

  once : (i j : ℕ) (x y : FieldFirst) → slice_get out i ≡ Some x → slice_get out j ≡ Some y → x.field ≡ y.field → i ≡ j
  once i j x y a b s =
      let sorted = in_order (name_cmp p) row.fields.items is.fields.in_order in
      one_place (name_cmp p) (less_itself p) row.fields.items sorted i j x.field
      (subst (λ (xs : List Name). slice_get xs i ≡ Some x.field) e (w.each i x a).0)
      (subst (λ (xs : List Name). slice_get xs j ≡ Some x.field) e ((w.each j y b).0 ∙ ap Some (sym s)))
