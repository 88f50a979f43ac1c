-- The rows by numbers are those of the definitions.
use Rattle.std.proofs.Common.{◌≡◌, ◌<◌, ℕ, List, [], ◌∷◌, length, slice_get, Some, None, Option, get_or, arith, sym, ◌∙◌, subst, refl, map, Contains, Bool, true}
use Rattle.std.specs.List.{Any}
use Rattle.std.specs.declared.vec.Vec.{Vec}
use Rattle.std.specs.declared.alloc.Global.{Global}
use Rattle.std.specs.List.Sorted.{IsStrictlyIncreasing}
use Rattle.std.specs.declared.cmp.Ordering.TheVariants.{Less}
use Rattle.std.specs.Ordering.{nat_cmp}
use Rattle.std.proofs.lemmas.Map.Keys.{sorted_from_strictly_increasing}
use Rattle.std.proofs.lemmas.Option.{slice_get_within, get_or_from_slice_get}
use Rattle.jn_reach.specs.Chain.{Chain}
use Rattle.jn_reach.specs.Each.{Each}
use Rattle.jn_reach.specs.Graph.{Graph, HasEdge}
use Rattle.jn_reach.specs.Numbers.{Numbers}
use Rattle.jn_reach.proofs.Eachs.{Each-at}
use Rattle.jn_reach.proofs.Numbering.{Numbers-closure, Numbers-same}
use Rattle.jn_reach.proofs.Searches.{same_some}
use Rattle.jn_base.specs.declared.tree.Name.{Name}
use Rattle.jn_base.specs.declared.tree.Kind.{Kind}
use Rattle.jn_base.specs.declared.tree.Program.{Program}
use Rattle.jn_base.specs.declared.path.Path.{Path as ShownPath}
use Rattle.jn_base.specs.Paths.{Path, shown}
use Rattle.jn_base.specs.Supers.{Direct, Sup, Member}
use Rattle.jn_base.specs.Universe.{InUniverse}
use Rattle.jn_base.specs.ClassOrder.{class_cmp, name_cmp}
use Rattle.jn_base.specs.Members.{HasKind}
use Rattle.jn_table.specs.Own.{IsFlagAt, HasAt, OwnKinds, OwnNames}
use Rattle.jn_table.specs.Rows.{IsNumber, AreNames, AreClasses, IsMember, AreMembers, IsUp, top, under, HasMethod, HasField}
use Rattle.jn_table.specs.Universes.{FitUniverse, IsUniverseOf, UpBy, class_id, MembersUpTo, OrderedBy}
use Rattle.jn_table.specs.declared.class.ClassId.{ClassId}
use Rattle.jn_table.specs.declared.class.RowMember.{RowMember}
use Rattle.jn_table.specs.declared.entry.Entry.{Entry}
use Rattle.jn_table.specs.declared.gather.Part.TheVariants as part
use Rattle.jn_table.specs.declared.universe.Universe.{Universe}
use Rattle.jn_table.proofs.Before.{sibling_before}
use Rattle.jn_table.proofs.Fronts.{in_namespace}
use Rattle.jn_table.proofs.Maps.{at_map, in_mapped, each_maps, each_left, in_list, list_at}
use Rattle.jn_table.proofs.NameOrders.{names_are}
use Rattle.jn_table.proofs.NextLevel.{sup_chain, chain_sup, cons_head, cons_tail}
use Rattle.jn_table.proofs.Shown.{shown_at}
use Rattle.jn_table.proofs.Sorted.{InOrder, in_order, sorted}

less_is_below : (a b : ℕ) → nat_cmp a b ≡ Less → a < b
less_is_below a b e = grind (arith, e)

-- the names of which S holds, in order
names_by : (p : Program) (T S : Name → Type 0) (order : List Name) (u : Universe) (es : List Entry)
    → IsUniverseOf p es u
    → ((n : Name) → T n → S n) → ((n : Name) → S n → T n) → ((n : Name) → S n → n.0 < length p.names)
    → OrderedBy p.names T order → AreNames p S order
names_by p T S order u es is to from within o =
    names_are p S order order (is.named).distinct (λ n c. to n ((o.exact n).0 c))
    (λ n s. (o.exact n).1 (from n s)) within
    (record { exact = λ n. (λ c. c, λ c. c); in_order = o.in_order })

module _ (p : Program) (es : List Entry) (u : Universe) (f : FitUniverse u) (is : IsUniverseOf p es u) where
  abbrev known : List ShownPath
  known = map shown u.nodes.paths.items

  pub places : InOrder (class_cmp p) u.nodes.paths.items
  places = in_order (class_cmp p) u.nodes.paths.items ((is.nodes).universe).in_order

  pub place : (R : Path) → InUniverse p R → (k : ℕ) × (slice_get u.nodes.paths.items k ≡ Some R)
  place R h = list_at u.nodes.paths.items R ((((is.nodes).universe).exact R).1 h)

  pub placed : (k : ℕ) (R : Path) → slice_get u.nodes.paths.items k ≡ Some R → InUniverse p R
  placed k R at = (((is.nodes).universe).exact R).0 (in_list u.nodes.paths.items k R at)

  pub supers : Numbers (Sup p) u.nodes.paths.items (HasEdge u.sups.items)
  supers =
      Numbers-same (Chain (Direct p)) (Sup p) u.nodes.paths.items (HasEdge u.sups.items) (sup_chain p) (chain_sup p)
      (Numbers-closure (Direct p) u.nodes.paths.items u.nodes.direct.items u.sups.items ((f.nodes).long) is.sups
      (is.nodes).direct)

  -- the numbers of a row stand for the paths that the relation leads to
  module _ (E : Path → Path → Type 0) (g : Graph) (n : Numbers E u.nodes.paths.items (HasEdge g)) (k : ℕ) (R : Path)
      (row : Vec ℕ Global)
      (at : slice_get u.nodes.paths.items k ≡ Some R) (row_at : slice_get g k ≡ Some row) where
    lead : (j : ℕ) → Contains row.items j → (S : Path) × (slice_get u.nodes.paths.items j ≡ Some S) × E R S
    lead j c = n.sound k j R at (record { row = row; at = row_at; in_row = c })

    led : (S : Path) → E R S → (j : ℕ) × (slice_get u.nodes.paths.items j ≡ Some S) × Contains row.items j
    led S e =
        let h = n.complete k R S at e in (
          h.0,
          h.1,
          subst (λ (v : Vec ℕ Global). Contains v.items h.0)
              (same_some (slice_get g k) (h.2).row row (h.2).at row_at) (h.2).in_row,
        )

    path_at : ℕ → Path
    path_at j = get_or u.nodes.paths.items j []

    at_path : (i j : ℕ) → slice_get row.items i ≡ Some j
        → slice_get u.nodes.paths.items j ≡ Some (get_or u.nodes.paths.items j [])
    at_path i j h =
        let l = lead j (in_list row.items i j h) in
        subst (λ (S : Path). slice_get u.nodes.paths.items j ≡ Some S)
        (sym (get_or_from_slice_get u.nodes.paths.items j l.0 [] l.1)) l.1

    pub row_classes : IsStrictlyIncreasing row.items → (ids : List ClassId) → ids ≡ map class_id row.items
        → AreClasses p known (E R) ids
    row_classes up ids ids_are = record {
      paths = map (λ j. get_or u.nodes.paths.items j []) row.items;
      are = record { exact = λ S. (to S, from S); in_order = sorted (class_cmp p) _ (record { by = by }) };
      numbered = subst (λ (xs : List ClassId). Each (λ (S : Path) (id : ClassId). IsNumber known id S)
          (map (λ j. get_or u.nodes.paths.items j []) row.items) xs) (sym ids_are)
          (each_maps (λ (S : Path) (id : ClassId). IsNumber known id S)
          (λ j. get_or u.nodes.paths.items j []) class_id row.items
          (λ i j h. shown_at u.nodes.paths.items j (get_or u.nodes.paths.items j []) (at_path i j h)));
    } where
      to : (S : Path) → Contains (map (λ j. get_or u.nodes.paths.items j []) row.items) S → E R S
      to S c =
          let h = list_at (map (λ j. get_or u.nodes.paths.items j []) row.items) S c in
          let m = at_map (λ j. get_or u.nodes.paths.items j []) row.items h.0 S h.1 in
          let l = lead m.0 (in_list row.items h.0 m.0 m.1) in
          subst (E R) (sym (get_or_from_slice_get u.nodes.paths.items m.0 l.0 [] l.1) ∙ m.2) l.2

      from : (S : Path) → E R S → Contains (map (λ j. get_or u.nodes.paths.items j []) row.items) S
      from S e =
          let l = led S e in
          let h = list_at row.items l.0 l.2 in
          in_mapped (λ j. get_or u.nodes.paths.items j []) row.items h.0 l.0 S h.1
          (get_or_from_slice_get u.nodes.paths.items l.0 S [] l.1)

      by : (i j : ℕ) (A B : Path) → i < j → slice_get (map (λ j. get_or u.nodes.paths.items j []) row.items) i ≡ Some A
          → slice_get (map (λ j. get_or u.nodes.paths.items j []) row.items) j ≡ Some B → class_cmp p A B ≡ Less
      by i j A B l a b =
          let m = at_map (λ j. get_or u.nodes.paths.items j []) row.items i A a in
          let n = at_map (λ j. get_or u.nodes.paths.items j []) row.items j B b in
          let less = (in_order nat_cmp row.items
          (sorted_from_strictly_increasing row.items up)).by i j m.0 n.0 l m.1 n.1 in
          subst (λ (P : Path). class_cmp p P B ≡ Less) m.2
          (subst (λ (Q : Path). class_cmp p (get_or u.nodes.paths.items m.0 []) Q ≡ Less) n.2
          (places.by m.0 n.0 _ _ (less_is_below m.0 n.0 less) (at_path i m.0 m.1) (at_path j n.0 n.1)))

  -- the members
  member_in : (C : Name) (R : Path) → InUniverse p (C ∷ R) → Member p R C
  member_in C R h = h.1

  pub row_members : (R : Path) → InUniverse p R → (ms : List RowMember)
      → MembersUpTo u.nodes.paths.items R (length u.nodes.paths.items) ms
      → AreMembers p known R ms
  row_members R h ms m = record {
    names = map (λ (x : RowMember). x.name) ms;
    are = record { exact = λ C. (to C, from C); in_order = sorted (name_cmp p) _ (record { by = by }) };
    numbered = each_left (IsMember known R) (λ (x : RowMember). x.name) ms
        (λ k x at. record { name = refl; id = shown_at u.nodes.paths.items x.id.0 (x.name ∷ R) (m.sound k x at).1 });
  } where
    to : (C : Name) → Contains (map (λ (x : RowMember). x.name) ms) C → Member p R C
    to C c =
        let i = list_at (map (λ (x : RowMember). x.name) ms) C c in
        let x = at_map (λ (x : RowMember). x.name) ms i.0 C i.1 in
        subst (Member p R) x.2 (member_in (x.0).name R (placed (x.0).id.0 ((x.0).name ∷ R) (m.sound i.0 x.0 x.1).1))

    from : (C : Name) → Member p R C → Contains (map (λ (x : RowMember). x.name) ms) C
    from C c =
        let k = place (C ∷ R) (in_namespace p R h, c) in
        let x = m.complete k.0 C (slice_get_within u.nodes.paths.items k.0 (C ∷ R) k.1) k.1 in
        let s = (m.sound x.0 x.1 x.2).1 in
        let t : slice_get u.nodes.paths.items (x.1).id.0 ≡ Some (C ∷ R) = subst
        (λ (j : ℕ). slice_get u.nodes.paths.items j ≡ Some (C ∷ R)) (sym x.3) k.1 in
        in_mapped (λ (x : RowMember). x.name) ms x.0 x.1 C x.2
        (cons_head (x.1).name C R R (same_some (slice_get u.nodes.paths.items (x.1).id.0) ((x.1).name ∷ R)
        (C ∷ R) s t))

    by : (i j : ℕ) (C D : Name) → i < j → slice_get (map (λ (x : RowMember). x.name) ms) i ≡ Some C
        → slice_get (map (λ (x : RowMember). x.name) ms) j ≡ Some D → name_cmp p C D ≡ Less
    by i j C D l a b =
        let x = at_map (λ (x : RowMember). x.name) ms i C a in
        let y = at_map (λ (x : RowMember). x.name) ms j D b in
        let less = m.ascending i j x.0 y.0 l x.1 y.1 in
        let before = places.by (x.0).id.0 (y.0).id.0 ((x.0).name ∷ R) ((y.0).name ∷ R) less (m.sound i x.0 x.1).1
        (m.sound j y.0 y.1).1 in
        subst (λ (A : Name). name_cmp p A D ≡ Less) x.2
        (subst (λ (B : Name). name_cmp p (x.0).name B ≡ Less) y.2 (sibling_before p R (x.0).name (y.0).name before))

  -- the path without its last name
  pub row_up : (R : Path) (up : Option ClassId) → InUniverse p R → UpBy u.nodes.paths.items R up → IsUp known R up
  row_up [] up h b = absurd h
  row_up (C ∷ []) None h b = top
  row_up (C ∷ []) (Some id) h b =
      absurd (subst (InUniverse p) (sym (cons_tail C b.2.0 [] b.0 b.2.1)) (placed id.0 b.0 b.1))
  row_up (C ∷ D ∷ P) None h b = let k = place (D ∷ P) h.0 in absurd (b k.0 (D ∷ P) k.1 (C, refl))
  row_up (C ∷ D ∷ P) (Some id) h b =
      under (shown_at u.nodes.paths.items id.0 (D ∷ P)
      (subst (λ (U : Path). slice_get u.nodes.paths.items id.0 ≡ Some U)
      (sym (cons_tail C b.2.0 (D ∷ P) b.0 b.2.1)) b.1))

  -- the row of the supers says what declarations at them are and have
  module _ (k : ℕ) (R : Path) (above : Vec ℕ Global) (at : slice_get u.nodes.paths.items k ≡ Some R)
      (above_at : slice_get u.sups.items k ≡ Some above) where
    super_at : (j : ℕ) → Contains above.items j → (S : Path) × (slice_get u.nodes.paths.items j ≡ Some S) × Sup p R S
    super_at j c = lead (Sup p) u.sups.items supers k R above at above_at j c

    at_super : (S : Path) → Sup p R S → (j : ℕ) × (slice_get u.nodes.paths.items j ≡ Some S) × Contains above.items j
    at_super S s = led (Sup p) u.sups.items supers k R above at above_at S s

    pub kind_to : (c : Kind) (flags : List Bool) → Each (OwnKinds es c) u.nodes.paths.items flags
        → Any (IsFlagAt flags) above.items → HasKind p R c
    kind_to c flags e a =
        let s = super_at a.1 (a.0, a.2, a.3) in
        let o = Each-at (OwnKinds es c) e a.1 s.0 s.1 in
        let flag : o.0 ≡ true = same_some (slice_get flags a.1) o.0 true o.1 a.4 in
        let d = ((is.flat).kinds s.0 c).0 (o.2.0 flag) in
        record { at = s.0; super = s.2; decl = d.0; stands = d.1; is = d.2 }

    pub kind_from : (c : Kind) (flags : List Bool) → Each (OwnKinds es c) u.nodes.paths.items flags → HasKind p R c
        → Any (IsFlagAt flags) above.items
    kind_from c flags e h =
        let s = at_super h.at h.super in
        let o = Each-at (OwnKinds es c) e s.0 h.at s.1 in
        let flag = o.2.1 (((is.flat).kinds h.at c).1 (h.decl, h.stands, h.is)) in
        (s.2.0, s.0, s.2.1, s.2.2, subst (λ (b : Bool). slice_get flags s.0 ≡ Some b) flag o.1)

    pub row_methods : (order : List Name)
        → OrderedBy p.names (λ m. Any (HasAt u.own.methods.items m) above.items) order
        → AreNames p (HasMethod p R) order
    row_methods order o =
        names_by p (λ m. Any (HasAt u.own.methods.items m) above.items) (HasMethod p R) order u es is to from
        (λ m h. (is.named).methods h.0 m h.1.method h.1.at) o where
          to : (m : Name) → Any (HasAt u.own.methods.items m) above.items → HasMethod p R m
          to m a =
              let s = super_at a.1 (a.0, a.2, a.3) in
              let e = Each-at (OwnNames es part.Methods) (is.own).methods a.1 s.0 s.1 in
              let h = a.4 in
              let has = subst (λ (v : Vec Name Global). Contains v.items m)
              (same_some (slice_get u.own.methods.items a.1) h.row e.0 h.at e.1) h.has in
              let x = ((is.flat).methods s.0 m).0 ((e.2 m).0 has) in
              (s.0, record { super = s.2; method = x.0; at = x.1 })

          from : (m : Name) → HasMethod p R m → Any (HasAt u.own.methods.items m) above.items
          from m h =
              let s = at_super h.0 h.1.super in
              let e = Each-at (OwnNames es part.Methods) (is.own).methods s.0 h.0 s.1 in (
                s.2.0,
                s.0,
                s.2.1,
                s.2.2,
                record {
                  row = e.0;
                  at = e.1;
                  has = (e.2 m).1
                      (((is.flat).methods h.0 m).1 (h.1.method, h.1.at));
                },
              )

    pub row_fields : (order : List Name)
        → OrderedBy p.names (λ m. Any (HasAt u.own.fields.items m) above.items) order
        → AreNames p (HasField p R) order
    row_fields order o =
        names_by p (λ m. Any (HasAt u.own.fields.items m) above.items) (HasField p R) order u es is to from
        (λ m h. (is.named).fields h.0 m h.1.field h.1.at) o where
          to : (m : Name) → Any (HasAt u.own.fields.items m) above.items → HasField p R m
          to m a =
              let s = super_at a.1 (a.0, a.2, a.3) in
              let e = Each-at (OwnNames es part.Fields) (is.own).fields a.1 s.0 s.1 in
              let h = a.4 in
              let has = subst (λ (v : Vec Name Global). Contains v.items m)
              (same_some (slice_get u.own.fields.items a.1) h.row e.0 h.at e.1) h.has in
              let x = ((is.flat).fields s.0 m).0 ((e.2 m).0 has) in
              (s.0, record { super = s.2; field = x.0; at = x.1 })

          from : (m : Name) → HasField p R m → Any (HasAt u.own.fields.items m) above.items
          from m h =
              let s = at_super h.0 h.1.super in
              let e = Each-at (OwnNames es part.Fields) (is.own).fields s.0 h.0 s.1 in (
                s.2.0,
                s.0,
                s.2.1,
                s.2.2,
                record {
                  row = e.0;
                  at = e.1;
                  has = (e.2 m).1
                      (((is.flat).fields h.0 m).1 (h.1.field, h.1.at));
                },
              )
