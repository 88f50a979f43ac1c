-- A universe's rows, and what is refused of it, are the definitions'.
use Rattle.std.proofs.Common.{◌≡◌, ◌<◌, ◌≤◌, ◌↔◌, ◌⊎◌, ℕ, List, [], ◌∷◌, ◌++◌, length, slice_get, Some, arith, sym, ◌∙◌, subst, refl, map, inl, inr, Contains, All, length-append, zero, suc}
use Rattle.std.specs.declared.vec.Vec.{Vec}
use Rattle.std.specs.declared.alloc.Global.{Global}
use Rattle.std.specs.List.Sorted.{IsStrictlyIncreasing}
use Rattle.std.specs.declared.cmp.Ordering.TheVariants.{Less}
use Rattle.std.proofs.lemmas.Option.{slice_get_within, get_or_from_slice_get}
use Rattle.std.proofs.lemmas.List.Elements.{Contains-append_cases}
use Rattle.jn_reach.specs.Chain.{Steps}
use Rattle.jn_reach.specs.Graph.{HasEdge}
use Rattle.jn_reach.specs.Numbers.{Numbers}
use Rattle.jn_reach.proofs.Numbering.{Numbers-steps}
use Rattle.jn_reach.proofs.Searches.{same_some}
use Rattle.jn_base.specs.declared.tree.Kind.{Kind}
use Rattle.jn_base.specs.declared.tree.Kind.TheVariants as kind
use Rattle.jn_base.specs.declared.tree.Program.{Program}
use Rattle.jn_base.specs.Paths.{Path, shown}
use Rattle.jn_base.specs.Supers.{Direct, Sup, itself}
use Rattle.jn_base.specs.Universe.{InUniverse}
use Rattle.jn_base.specs.ClassOrder.{class_cmp, Before, IsFirst}
use Rattle.jn_base.specs.Members.{HasKind}
use Rattle.jn_base.specs.TableRules.{IsOver, IsCycle, IsMixed, NoneIs}
use Rattle.jn_base.proofs.SuperLaws.{sup_inherited}
use Rattle.jn_base.proofs.ClassOrders.{before_irreflexive, before_chain}
use Rattle.jn_base.proofs.TableLaws.{no_longer}
use Rattle.jn_table.specs.Rows.{IsRow}
use Rattle.jn_table.specs.Universes.{FitUniverse, IsUniverseOf, KindBy, class_id, RowOf, RowsOf, CycleAt, TwoKindsAt, FirstAt, NoneAt, RefusedBy, cycle_at, kinds_at, memory_at, PassedBy}
use Rattle.jn_table.specs.Answers.{AreRows, HasUniverse, UniversePasses, UniverseRefused, cycle, two_kinds, memory}
use Rattle.jn_table.specs.declared.class.Row.{Row}
use Rattle.jn_table.specs.declared.entry.Entry.{Entry}
use Rattle.jn_table.specs.declared.fault.TableFault.{TableFault}
use Rattle.jn_table.specs.declared.universe.Universe.{Universe}
use Rattle.jn_table.proofs.Fronts.{joined_order}
use Rattle.jn_table.proofs.Maps.{each_right, in_list, list_at}
use Rattle.jn_table.proofs.NextLevel.{sup_chain, chain_sup}
use Rattle.jn_table.proofs.RowRight.{places, place, placed, supers, row_classes, row_members, row_up, kind_to, kind_from, row_methods, row_fields}
use Rattle.jn_table.proofs.Shown.{shown_at}
use Rattle.jn_table.proofs.Sorted.{InOrder, in_order, sorted, one_place, place_below}

all_at : {X : Type 0} (P : X → Type 0) (xs : List X) (k : ℕ) (x : X) → All P xs → slice_get xs k ≡ Some x → P x
all_at P xs k x a at = subst P (get_or_from_slice_get xs k x x at) (a k x (slice_get_within xs k x at))

-- some declaration stands at a super of each path
some_kind : (p : Program) (R : Path) → InUniverse p R → (k : Kind) × HasKind p R k
some_kind p [] h = absurd h
some_kind p (C ∷ P) h =
    let m = h.1 in
    let d = m.declared in (
      (d.decl).kind,
      record {
        at = C ∷ m.at;
        super = sup_inherited m.super (record { at = m.at; super = itself; declared = d });
        decl = d.decl;
        stands = d.stands;
        is = refl;
      },
    )

-- no more than a universe may have
pub not_over : (p : Program) (paths : List Path) → InOrder (class_cmp p) paths
    → ((R : Path) → InUniverse p R → Contains paths R) → length paths ≤ 4096
    → NoneIs (IsOver p)
not_over p paths o has few R over =
    let l = no_longer p paths (over.earlier ++ R ∷ []) (sorted (class_cmp p) (over.earlier ++ R ∷ []) longer)
    (sorted (class_cmp p) paths o) within in
    let n = length-append over.earlier (R ∷ []) in
    omega (arith, l, n, over.count, few)
  where
    one : InOrder (class_cmp p) (R ∷ [])
    one = record { by = by } where
      by : (i j : ℕ) (x y : Path) → i < j → slice_get (R ∷ []) i ≡ Some x → slice_get (R ∷ []) j ≡ Some y
          → class_cmp p x y ≡ Less
      by i zero x y l a b = absurd (omega (arith, l))
      by i (suc j) x y l a b = absurd (cc b)

    last : (j : ℕ) (y : Path) → slice_get (R ∷ []) j ≡ Some y → y ≡ R
    last zero y e = cc e
    last (suc j) y e = absurd (cc e)

    longer : InOrder (class_cmp p) (over.earlier ++ R ∷ [])
    longer = joined_order (class_cmp p) over.earlier (R ∷ []) (in_order (class_cmp p) over.earlier over.in_order) one
        (λ i j x y a b. subst (Before p x) (sym (last j y b)) ((over.exact x).0 (in_list over.earlier i x a)).1)

    by_part : (Q : Path) → Contains over.earlier Q ⊎ Contains (R ∷ []) Q → Contains paths Q
    by_part Q (inl c) = has Q ((over.exact Q).0 c).0
    by_part Q (inr c) =
        let i = list_at (R ∷ []) Q c in subst (Contains paths) (sym (last i.0 Q i.1)) (has R over.universe)

    within : (Q : Path) → Contains (over.earlier ++ R ∷ []) Q → Contains paths Q
    within Q c = by_part Q (Contains-append_cases over.earlier (R ∷ []) Q c)

module _ (p : Program) (es : List Entry) (u : Universe) (f : FitUniverse u) (is : IsUniverseOf p es u) where
  numbers : Numbers (Steps (Direct p)) u.nodes.paths.items (Steps (HasEdge u.nodes.direct.items))
  numbers = Numbers-steps (Direct p) u.nodes.paths.items (HasEdge u.nodes.direct.items) (is.nodes).direct

  cycle_to : (k : ℕ) (R : Path) → slice_get u.nodes.paths.items k ≡ Some R → CycleAt u k → IsCycle p R
  cycle_to k R at c =
      let s = numbers.sound k k R at c in
      let same : s.0 ≡ R = same_some (slice_get u.nodes.paths.items k) s.0 R s.1 at in
      let t = s.2 in (
        placed p es u f is k R at,
        record {
          next = t.between;
          direct = t.first;
          back = subst (Sup p t.between) same
              (sup_chain p t.between s.0 t.rest);
        },
      )

  cycle_from : (k : ℕ) (R : Path) → slice_get u.nodes.paths.items k ≡ Some R → IsCycle p R → CycleAt u k
  cycle_from k R at c =
      let o = c.1 in
      let s = numbers.complete k R R at
      (record { between = o.next; first = o.direct; rest = chain_sup p o.next R o.back }) in
      let same = one_place (class_cmp p) (before_irreflexive p) u.nodes.paths.items
      (places p es u f is) s.0 k R s.1 at in
      subst (λ (j : ℕ). Steps (HasEdge u.nodes.direct.items) k j) same s.2

  mixed_to : (k : ℕ) (R : Path) → slice_get u.nodes.paths.items k ≡ Some R → TwoKindsAt u k → IsMixed p R
  mixed_to k R at m = (
    placed p es u f is k R at,
    (
      kind_to p es u f is k R m.row at m.at kind.Class u.own.classes.items (is.own).classes (m.mixed).classes,
      kind_to p es u f is k R m.row at m.at kind.Package u.own.packages.items (is.own).packages (m.mixed).packages,
    ),
  )

  mixed_from : (k : ℕ) (R : Path) → slice_get u.nodes.paths.items k ≡ Some R → IsMixed p R → TwoKindsAt u k
  mixed_from k R at m =
      let s = (supers p es u f is).complete k R R at itself in
      let e = s.2 in
      record {
        row = e.row;
        at = e.at;
        mixed = record {
          classes = kind_from p es u f is k R e.row at e.at kind.Class u.own.classes.items (is.own).classes m.1.0;
          packages = kind_from p es u f is k R e.row at e.at kind.Package u.own.packages.items (is.own).packages m.1.1;
        };
      }

  -- the first number is that of the first path
  first_right : (T : ℕ → Type 0) (S : Path → Type 0)
      → ((k : ℕ) (R : Path) → slice_get u.nodes.paths.items k ≡ Some R → T k → S R)
      → ((k : ℕ) (R : Path) → slice_get u.nodes.paths.items k ≡ Some R → S R → T k)
      → ((R : Path) → S R → InUniverse p R) → (R : Path) → FirstAt u T R → IsFirst p S R
  first_right T S to from inside R t = record {
    holds = to t.number R t.at t.holds;
    first = λ Q s b.
        let k = place p es u f is Q (inside Q s) in
        let l = place_below (class_cmp p) (before_irreflexive p) (before_chain p) u.nodes.paths.items
        (places p es u f is) k.0 t.number Q R k.1 t.at b in
        t.first k.0 l (from k.0 Q k.1 s);
  }

  none_right : (T : ℕ → Type 0) (S : Path → Type 0)
      → ((k : ℕ) (R : Path) → slice_get u.nodes.paths.items k ≡ Some R → S R → T k)
      → ((R : Path) → S R → InUniverse p R) → NoneAt T → NoneIs S
  none_right T S from inside none R s = let k = place p es u f is R (inside R s) in none k.0 (from k.0 R k.1 s)

  within : NoneIs (IsOver p)
  within =
      not_over p u.nodes.paths.items (places p es u f is) (λ R h. (((is.nodes).universe).exact R).1 h) ((f.nodes).few)

  no_cycles : NoneAt (CycleAt u) → NoneIs (IsCycle p)
  no_cycles n = none_right (CycleAt u) (IsCycle p) cycle_from (λ R c. c.0) n

  pub refused_right : (fault : TableFault) → RefusedBy u fault → UniverseRefused p fault
  refused_right fault (cycle_at {R = R} t) =
      cycle within (first_right (CycleAt u) (IsCycle p) cycle_to cycle_from (λ Q c. c.0) R t)
  refused_right fault (kinds_at {R = R} n t) =
      two_kinds within (no_cycles n) (first_right (TwoKindsAt u) (IsMixed p) mixed_to mixed_from (λ Q c. c.0) R t)
  refused_right fault memory_at = memory

  pub passed_right : PassedBy u → UniversePasses p
  passed_right n = record {
    within = within;
    no_cycle = no_cycles n.no_cycle;
    one_kind = none_right (TwoKindsAt u) (IsMixed p) mixed_from (λ Q c. c.0) n.one_kind;
  }

  -- where no path has two kinds
  module _ (one : NoneIs (IsMixed p)) where
    kind_right : (k : ℕ) (R : Path) (above : Vec ℕ Global) (own : Kind) → slice_get u.nodes.paths.items k ≡ Some R
        → slice_get u.sups.items k ≡ Some above
        → KindBy u.own above.items own → (c : Kind) → HasKind p R c ↔ (c ≡ own)
    kind_right k R above own at above_at (inl h) c = (to c, from) where
      class : HasKind p R kind.Class
      class = kind_to p es u f is k R above at above_at kind.Class u.own.classes.items (is.own).classes h.1

      to : (c : Kind) → HasKind p R c → c ≡ own
      to kind.Class g = sym h.0
      to kind.Package g = absurd (one R (placed p es u f is k R at, (class, g)))

      from : c ≡ own → HasKind p R c
      from e = subst (HasKind p R) (sym (e ∙ h.0)) class
    kind_right k R above own at above_at (inr h) c = (to c, from) where
      no_class : HasKind p R kind.Class → ⊥
      no_class g = h.1 (kind_from p es u f is k R above at above_at kind.Class u.own.classes.items (is.own).classes g)

      to : (c : Kind) → HasKind p R c → c ≡ own
      to kind.Class g = absurd (no_class g)
      to kind.Package g = sym h.0

      some : (c : Kind) → HasKind p R c → HasKind p R kind.Package
      some kind.Class g = absurd (no_class g)
      some kind.Package g = g

      from : c ≡ own → HasKind p R c
      from e =
          let s = some_kind p R (placed p es u f is k R at) in
          subst (HasKind p R) (sym (e ∙ h.0)) (some s.0 s.1)

    row_right : (k : ℕ) (row : Row) (r : RowOf p.names u k row) → IsRow p (map shown u.nodes.paths.items) r.R row
    row_right k row r = record {
      path = r.path;
      kind = kind_right k r.R r.above row.kind r.at r.above_at r.kind_by;
      up = row_up p es u f is r.R row.up (placed p es u f is k r.R r.at) r.up_by;
      direct = row_classes p es u f is (Direct p) u.nodes.direct.items (is.nodes).direct k r.R r.below r.at r.below_at
          (all_at (λ (v : Vec ℕ Global). IsStrictlyIncreasing v.items) u.nodes.direct.items k r.below
          ((f.nodes).ascending) r.below_at)
          row.direct.items r.direct;
      sups = row_classes p es u f is (Sup p) u.sups.items (supers p es u f is) k r.R r.above r.at r.above_at
          (all_at (λ (v : Vec ℕ Global). IsStrictlyIncreasing v.items) u.sups.items k r.above f.sups_up r.above_at)
          row.sups.items r.sups;
      members = row_members p es u f is r.R (placed p es u f is k r.R r.at) row.members.items r.members;
      methods = row_methods p es u f is k r.R r.above r.at r.above_at row.methods.items r.methods;
      fields = row_fields p es u f is k r.R r.above r.at r.above_at row.fields.items r.fields;
    }

    pub rows_right : (rows : List Row) → RowsOf p.names u (length u.nodes.paths.items) rows
        → AreRows p (map shown u.nodes.paths.items) rows
    rows_right rows r = record {
      paths = u.nodes.paths.items;
      shown_are = refl;
      universe = λ R c. (((is.nodes).universe).exact R).0 c;
      in_order = ((is.nodes).universe).in_order;
      each = each_right (IsRow p (map shown u.nodes.paths.items)) u.nodes.paths.items rows r.long
          (λ k R row at row_at.
          let x = r.each k row row_at in
          subst (λ (Q : Path). IsRow p (map shown u.nodes.paths.items) Q row)
          (same_some (slice_get u.nodes.paths.items k) x.R R x.at at) (row_right k row x));
    }

  pub whole : HasUniverse p (map shown u.nodes.paths.items)
  whole = record {
    whole = λ R h. let k = place p es u f is R h in (class_id k.0, shown_at u.nodes.paths.items k.0 R k.1);
  }
