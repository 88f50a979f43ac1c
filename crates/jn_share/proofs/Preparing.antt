-- What is prepared is right.
use Rattle.std.proofs.Common.{◌≡◌, ◌<◌, ◌≤◌, ◌+◌, ◌↔◌, ◌⊎◌, inl, inr, ℕ, zero, suc, List, [], ◌∷◌, ◌++◌, length, Contains, Some, None, Option, slice_get, refl, sym, ap, ◌∙◌, subst, arith}
use Rattle.std.specs.declared.vec.Vec.{Vec}
use Rattle.std.specs.declared.alloc.Global.{Global}
use Rattle.std.proofs.lemmas.Bool.{cases_lt}
use Rattle.std.proofs.lemmas.Option.{slice_get_read, slice_get_within}
use Rattle.jn_reach.specs.Each.{Each, none, more}
use Rattle.jn_reach.specs.Graph.{Graph, HasEdge}
use Rattle.jn_reach.specs.Pairs.{AreMembers}
use Rattle.jn_reach.proofs.Searches.{same_some}
use Rattle.jn_base.specs.declared.tree.Name.{Name}
use Rattle.jn_base.specs.declared.tree.Program.{Program}
use Rattle.jn_base.specs.declared.path.Path.{Path as ShownPath}
use Rattle.jn_base.specs.Paths.{Path, shown}
use Rattle.jn_base.specs.ClassOrder.{class_cmp, name_total}
use Rattle.jn_base.specs.Supers.{Sup}
use Rattle.jn_table.specs.declared.class.ClassId.{ClassId}
use Rattle.jn_table.specs.declared.class.Row.{Row}
use Rattle.jn_table.specs.declared.field_types.FieldTy.{FieldTy}
use Rattle.jn_table.specs.declared.table.Table.{Table}
use Rattle.jn_table.specs.Rows.{IsNumber, IsRow, IsUp, top, under}
use Rattle.jn_table.specs.Tables.{IsFilled}
use Rattle.jn_table.proofs.Before.{before_longer}
use Rattle.jn_table.proofs.Shown.{classes_at, numbers_before, same_id}
use Rattle.jn_table.proofs.Sorted.{in_order}
use Rattle.jn_sem.specs.Sharing.{family_of}
use Rattle.jn_sem.proofs.FindingLaws.{among_of, contains_of}
use Rattle.jn_sem.proofs.NormalTypes.{sorted_once}
use Rattle.jn_share.specs.Declaring.{AreOwn, OwnAmong, Noted, UnderName}
use Rattle.jn_share.specs.Pairing.{IsAt}
use Rattle.jn_share.specs.Prepared.{FamilyAt, FamiliesTo, IsDecl, DeclsRight, DeclsTo}
use Rattle.jn_share.specs.Refining.{AreLow}
use Rattle.jn_share.specs.Slots.{IsTyped}
use Rattle.jn_share.proofs.FieldLists.{in_field}

-- ---- families

module _ (p : Program) (t : Table) (f : IsFilled p t) where
  -- the path without its last name has a lower number
  pub up_lower : (k : ℕ) (id : ClassId) (C D : Name) (P : Path) → IsAt t.known.items k (C ∷ D ∷ P) → IsNumber t.known.items id (D ∷ P) → id.0 < k
  up_lower k id C D P a b =
      let r = f.table.rows in
      let one : ClassId = record { 0 = k } in
      (numbers_before p r.paths t.known.items r.shown_are (in_order (class_cmp p) r.paths r.in_order) id one (D ∷ P) (C ∷ D ∷ P) b a).1
      (before_longer p (D ∷ P) (C ∷ D ∷ P) (omega arith))

  -- a top-level name is its own family
  pub top_family : (k : ℕ) (V : Path) (X : Name) (row : Row) → IsRow p t.known.items V row → row.up ≡ None → IsAt t.known.items k V → family_of V ≡ Some X → IsAt t.known.items k (X ∷ [])
  top_family k V X row is e a g = by_up V row.up is.up e a g where
    by_up : (W : Path) (o : Option ClassId) → IsUp t.known.items W o → o ≡ None → IsAt t.known.items k W → family_of W ≡ Some X → IsAt t.known.items k (X ∷ [])
    by_up _ _ (top {C = C}) q b h = subst (λ (N : Name). IsAt t.known.items k (N ∷ [])) (let s : C ≡ X = cc h in s) b
    by_up _ _ (under n) q b h = absurd (cc q)

  pub next_family : (k : ℕ) (V : Path) (X : Name) (row : Row) (families : List ℕ) (up : ClassId) (family : ℕ) → IsRow p t.known.items V row → row.up ≡ Some up
      → length families ≡ k → FamiliesTo t.known.items k families → Some family ≡ slice_get families up.0 → IsAt t.known.items k V → family_of V ≡ Some X
      → IsAt t.known.items family (X ∷ [])
  next_family k V X row families up family is e l all at a g = by_up V row.up is.up e a g where
    by_up : (W : Path) (o : Option ClassId) → IsUp t.known.items W o → o ≡ Some up → IsAt t.known.items k W → family_of W ≡ Some X → IsAt t.known.items family (X ∷ [])
    by_up _ _ top q b h = absurd (cc q)
    by_up _ _ (under {C = C} {D = D} {P = P} {id = id} n) q b h =
        let same : id ≡ up = cc q in
        let low = up_lower k id C D P b n in
        let r = all id.0 (D ∷ P) X low n h in
        let fam : r.0 ≡ family = same_some (slice_get families id.0) r.0 family r.1 (subst (λ (c : ClassId). slice_get families c.0 ≡ Some family) (sym same) (sym at)) in
        subst (λ (m : ℕ). IsAt t.known.items m (X ∷ [])) fam r.2

  pub no_up : (k : ℕ) (V : Path) (row : Row) (families : List ℕ) (up : ClassId) → IsRow p t.known.items V row → row.up ≡ Some up
      → length families ≡ k → None ≡ slice_get families up.0 → IsAt t.known.items k V → ⊥
  no_up k V row families up is e l at a = by_up V row.up is.up e a where
    there : (xs : List ℕ) (i : ℕ) → i < length xs → None ≡ slice_get xs i → ⊥
    there [] i m q = absurd (omega arith)
    there (x ∷ xs) zero m q = nothing q where
      nothing : {y : ℕ} → None ≡ Some y → ⊥
      nothing h = cc
    there (x ∷ xs) (suc i) m q = there xs i (omega (arith, m)) q

    by_up : (W : Path) (o : Option ClassId) → IsUp t.known.items W o → o ≡ Some up → IsAt t.known.items k W → ⊥
    by_up _ _ top q b = absurd (cc q)
    by_up _ _ (under {C = C} {D = D} {P = P} {id = id} n) q b =
        let same : id ≡ up = cc q in
        let low : up.0 < k = subst (λ (c : ClassId). c.0 < k) same (up_lower k id C D P b n) in
        there families up.0 (omega arith) at

pub families_push : (known : List ShownPath) (families after : List ℕ) (k r : ℕ) → after ≡ families ++ r ∷ [] → length families ≡ k
    → ((V : Path) (X : Name) → IsAt known k V → family_of V ≡ Some X → IsAt known r (X ∷ [])) → FamiliesTo known k families → FamiliesTo known (k + 1) after
families_push known families after k r e l h all j V X m a g = by_place (cases_lt j k) where
  still : (xs : List ℕ) (i n : ℕ) → slice_get xs i ≡ Some n → slice_get (xs ++ r ∷ []) i ≡ Some n
  still [] i n q = absurd (cc q)
  still (x ∷ xs) zero n q = q
  still (x ∷ xs) (suc i) n q = still xs i n q

  last : (xs : List ℕ) → slice_get (xs ++ r ∷ []) (length xs) ≡ Some r
  last [] = refl
  last (x ∷ xs) = last xs

  by_place : (j < k) ⊎ (k ≤ j) → FamilyAt known after j V X
  by_place (inl b) = let x = all j V X b a g in (x.0, subst (λ (xs : List ℕ). slice_get xs j ≡ Some x.0) (sym e) (still families j x.0 x.1), x.2)
  by_place (inr b) =
      let same : k ≡ j = omega arith in (
        r,
        subst (λ (xs : List ℕ). slice_get xs j ≡ Some r) (sym e) (ap (slice_get (families ++ r ∷ [])) (sym same ∙ sym l) ∙ last families),
        h V X (subst (λ (n : ℕ). IsAt known n V) (sym same) a) g,
      )

-- each number is among those of its family
pub family_edge : (families : List ℕ) (rows : Graph) → AreMembers families rows → AreLow families → (k n : ℕ) → slice_get families k ≡ Some n → HasEdge rows n k
family_edge families rows m low k n at =
    let within = slice_get_within families k n at in
    let le = low k n at in
    let row = there rows n (omega (arith, m.long, within, le)) in
    record { row = row.0; at = row.1; in_row = ((m.each n row.0 row.1).exact k).1 at } where
      there : (xs : Graph) (i : ℕ) → i < length xs → (v : Vec ℕ Global) × (slice_get xs i ≡ Some v)
      there [] i l = absurd (omega arith)
      there (x ∷ xs) zero l = (x, refl)
      there (x ∷ xs) (suc i) l = there xs i (omega (arith, l))

-- ---- declarations

-- the fields of two rows of one path are the same
one_fields : (p : Program) (known : List ShownPath) (V : Path) (a b : Row) → IsRow p known V a → IsRow p known V b → a.fields.items ≡ b.fields.items
one_fields p known V a b x y =
    sorted_once (name_total p) a.fields.items b.fields.items x.fields.in_order y.fields.in_order
    (λ f m. among_of b.fields.items f ((y.fields.exact f).1 ((x.fields.exact f).0 (contains_of a.fields.items f m))))
    (λ f m. among_of a.fields.items f ((x.fields.exact f).1 ((y.fields.exact f).0 (contains_of b.fields.items f m))))

each_decl : (R S : Name → ℕ → Type 0) (xs : List Name) (ys : List ℕ) → Each R xs ys → ((f : Name) (d : ℕ) → Contains xs f → R f d → S f d) → Each S xs ys
each_decl R S [] [] none h = none
each_decl R S [] (y ∷ ys) e h = elim e [ ]
each_decl R S (x ∷ xs) [] e h = elim e [ ]
each_decl R S (x ∷ xs) (y ∷ ys) (more r e) h =
    more (h x y (0, omega arith, refl) r) (each_decl R S xs ys e (λ f d c q. h f d (suc c.0, omega (arith, c.1), c.2) q))

pub decls_right : (t : Table) (types : List FieldTy) (count : ℕ) (own : Graph) → AreOwn types count own → length t.known.items ≤ count → (id : ClassId) (given : Row)
    → ((p : Program) (R : Path) → IsFilled p t → IsNumber t.known.items id R → IsRow p t.known.items R given) → (sups : List ClassId) → sups ≡ given.sups.items
    → (fields : List Name) → fields ≡ given.fields.items → (mine : List ℕ) → ((i : ℕ) → Contains mine i ↔ OwnAmong own sups i) → (now : List ℕ) → now ≡ mine
    → (last decls : List ℕ) → Noted types now last → Each (UnderName last) fields decls → DeclsRight t types id.0 decls
decls_right t types count own o le id given says sups se fields fe mine es now ne last decls noted each p V row f ft a is =
    let r = says p V f a in
    let e : fields ≡ row.fields.items = fe ∙ one_fields p t.known.items V given row r is in
    record {
      each = subst (λ (xs : List Name). Each (IsDecl p t.known.items types V) xs decls) e
          (each_decl (UnderName last) (IsDecl p t.known.items types V) fields decls each (λ g d c u. found r g d (subst (λ (xs : List Name). Contains xs g) fe c) u));
    } where
      sup_at : (r : IsRow p t.known.items V given) (s : ClassId) (S : Path) → IsNumber t.known.items s S → Contains sups s ↔ Sup p V S
      sup_at r s S n =
          let w = f.table.rows in
          let h = classes_at p w.paths t.known.items w.shown_are (in_order (class_cmp p) w.paths w.in_order) (Sup p V) given.sups.items r.sups s S n in
          (λ c. h.0 (subst (λ (xs : List ClassId). Contains xs s) se c), λ q. subst (λ (xs : List ClassId). Contains xs s) (sym se) (h.1 q))

      place : (xs : List FieldTy) (x : FieldTy) → Contains xs x → (i : ℕ) × (slice_get xs i ≡ Some x)
      place xs x c = (c.0, slice_get_read xs (length xs) c.0 x refl c.1 (sym c.2))

      among : (xs : List FieldTy) (i : ℕ) (x : FieldTy) → slice_get xs i ≡ Some x → Contains xs x
      among [] i x q = absurd (cc q)
      among (y ∷ ys) zero x q = (0, omega arith, let h : y ≡ x = cc q in h)
      among (y ∷ ys) (suc i) x q = let h = among ys i x q in (suc h.0, omega (arith, h.1), h.2)

      in_sups : (s : ClassId) (i : ℕ) → Contains sups s → HasEdge own s.0 i → OwnAmong own sups i
      in_sups s i c h = (c.0, s, c.1, c.2, h)

      found : IsRow p t.known.items V given → (g : Name) (d : ℕ) → Contains given.fields.items g → UnderName last g d → IsDecl p t.known.items types V g d
      found r g d c u =
          let has = in_field p t.known.items V given r g c in
          let x = ft.complete has.at g has.declares.field has.declares.at in
          let i = place types x.0 x.1 in
          let number = slice_get_within t.known.items x.0.class.0 (shown has.at) x.2.class in
          let edge = o.complete x.0.class.0 i.0 (omega (arith, number, le)) (x.0, i.1, refl) in
          let super = (sup_at r x.0.class has.at x.2.class).1 has.declares.super in
          let own_i = (es i.0).1 (in_sups x.0.class i.0 super edge) in
          let n = noted i.0 x.0 (subst (λ (xs : List ℕ). Contains xs i.0) (sym ne) own_i) i.1 in
          let named : n.1.field ≡ g = n.5 ∙ x.2.field in
          let under : slice_get last g.0 ≡ Some n.0 = ap (λ (m : Name). slice_get last m.0) (sym x.2.field) ∙ n.2 in
          let same : d ≡ n.0 = u n.0 under in
          let back = (es n.0).0 (subst (λ (xs : List ℕ). Contains xs n.0) ne n.3) in
          let stands = o.sound back.1.0 n.0 back.4 in
          let y : stands.0 ≡ n.1 = same_some (slice_get types n.0) stands.0 n.1 stands.1 n.4 in
          let class : n.1.class ≡ back.1 = same_id n.1.class back.1 (ap (λ (z : FieldTy). z.class.0) (sym y) ∙ stands.2) in
          let sound = ft.sound n.1 (among types n.0 n.1 n.4) in
          let above : Sup p V sound.0 = (sup_at r back.1 sound.0 (subst (λ (k : ClassId). IsNumber t.known.items k sound.0) class sound.1)).0 (back.0, back.2, back.3) in
          let typed : IsTyped p sound.0 g n.1.ty = subst (λ (m : Name). IsTyped p sound.0 m n.1.ty) named sound.2 in
          record {
            entry = n.1;
            at = ap (slice_get types) same ∙ n.4;
            class = sound.0;
            number = sound.1;
            named = named;
            declares = record { super = above; field = typed.field; at = typed.at };
            type = typed;
          }

pub decls_push : (t : Table) (types : List FieldTy) (rows after : List (Vec ℕ Global)) (k : ℕ) (row : Vec ℕ Global) → after ≡ rows ++ row ∷ [] → length rows ≡ k
    → DeclsRight t types k row.items → DeclsTo t types k rows → DeclsTo t types (k + 1) after
decls_push t types rows after k row e l h all j m = by_place (cases_lt j k) where
  still : (xs : List (Vec ℕ Global)) (i : ℕ) (n : Vec ℕ Global) → slice_get xs i ≡ Some n → slice_get (xs ++ row ∷ []) i ≡ Some n
  still [] i n q = absurd (cc q)
  still (x ∷ xs) zero n q = q
  still (x ∷ xs) (suc i) n q = still xs i n q

  last : (xs : List (Vec ℕ Global)) → slice_get (xs ++ row ∷ []) (length xs) ≡ Some row
  last [] = refl
  last (x ∷ xs) = last xs

  by_place : (j < k) ⊎ (k ≤ j) → (r : Vec ℕ Global) × (slice_get after j ≡ Some r) × DeclsRight t types j r.items
  by_place (inl b) =
      let x = all j b in
      (x.0, subst (λ (xs : List (Vec ℕ Global)). slice_get xs j ≡ Some x.0) (sym e) (still rows j x.0 x.1), x.2)
  by_place (inr b) =
      let same : k ≡ j = omega arith in (
        row,
        subst (λ (xs : List (Vec ℕ Global)). slice_get xs j ≡ Some row) (sym e) (ap (slice_get (rows ++ row ∷ [])) (sym same ∙ sym l) ∙ last rows),
        subst (λ (n : ℕ). DeclsRight t types n row.items) same h,
      )
