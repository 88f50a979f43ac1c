-- What is filled and refused by numbers is filled and refused of each program that the entries are of.
use Rattle.std.proofs.Common.{◌≡◌, ◌<◌, ℕ, List, length, slice_get, Some, sym, subst, map, reverse}
use Rattle.jn_reach.specs.Graph.{IsClosure}
use Rattle.jn_base.specs.declared.tree.Name.{Name}
use Rattle.jn_base.specs.declared.tree.Text.{Text}
use Rattle.jn_base.specs.declared.tree.Program.{Program}
use Rattle.jn_base.specs.declared.path.Path.{Path as ShownPath}
use Rattle.jn_base.specs.Paths.{Path, shown}
use Rattle.jn_base.specs.TableRules.{IsOver}
use Rattle.jn_table.specs.Flat.{IsFlattened}
use Rattle.jn_table.specs.Order.{IsOrderOf, entry_name}
use Rattle.jn_base.specs.ProgramNames.{IsNamed}
use Rattle.jn_table.specs.Own.{IsOwnOf}
use Rattle.jn_table.specs.Depths.{AreOf}
use Rattle.jn_table.specs.Universes.{FitUniverse, RowsOf, CycleAt, TwoKindsAt, NoneAt, RefusedBy, cycle_at, kinds_at, PassedBy}
use Rattle.jn_table.specs.Answers.{UniverseRefused, too_many}
use Rattle.jn_table.specs.Fills.{Fills, FillsAll, NodesAll, UniverseAll, RefusesAll}
use Rattle.jn_table.specs.Tables.{IsTableOf}
use Rattle.jn_table.specs.declared.class.Row.{Row}
use Rattle.jn_table.specs.declared.entry.Entry.{Entry}
use Rattle.jn_table.specs.declared.fault.TableFault.{TableFault}
use Rattle.jn_table.specs.declared.fault.TableFault.TheVariants as fault
use Rattle.jn_table.specs.declared.nodes.Nodes.{Nodes}
use Rattle.jn_table.specs.declared.table.Table.{Table}
use Rattle.jn_table.specs.declared.universe.Universe.{Universe}
use Rattle.jn_table.proofs.FlatExact.{flat_exact}
use Rattle.jn_table.proofs.RowSteps.{shown_is}
use Rattle.jn_table.proofs.UniverseRight.{refused_right, passed_right, rows_right, whole}

pub are_of : (p : Program) (es : List Entry) (order : List Name) → IsFlattened p es → IsNamed p
    → IsOrderOf p.names (map entry_name es) order → AreOf p es order
are_of p es order flat named o = record { flat = flat_exact p es flat; named = named; order_is = o }

pub refused_cycle : (u : Universe) (path : ShownPath) (k : ℕ) (R : Path) → slice_get u.nodes.paths.items k ≡ Some R
    → path.names ≡ reverse R
    → CycleAt u k → ((j : ℕ) → j < k → CycleAt u j → ⊥) → RefusedBy u (fault.Cycle path)
refused_cycle u path k R at e c none =
    subst (λ (q : ShownPath). RefusedBy u (fault.Cycle q)) (sym (shown_is path R e))
    (cycle_at (record { number = k; at = at; holds = c; first = none }))

pub refused_kinds : (u : Universe) (path : ShownPath) (k : ℕ) (R : Path) → slice_get u.nodes.paths.items k ≡ Some R
    → path.names ≡ reverse R
    → NoneAt (CycleAt u) → TwoKindsAt u k → ((j : ℕ) → j < k → TwoKindsAt u j → ⊥) → RefusedBy u (fault.Kind path)
refused_kinds u path k R at e n c none =
    subst (λ (q : ShownPath). RefusedBy u (fault.Kind q)) (sym (shown_is path R e))
    (kinds_at n (record { number = k; at = at; holds = c; first = none }))

pub refused_over : (es : List Entry) (order : List Name) (path : ShownPath) (R : Path) → path.names ≡ reverse R
    → ((p : Program) → AreOf p es order → IsOver p R) → RefusesAll es order (fault.TooMany path)
refused_over es order path R e over p of =
    subst (λ (q : ShownPath). UniverseRefused p (fault.TooMany q)) (sym (shown_is path R e)) (too_many (over p of))

pub universe_is : (es : List Entry) (order : List Name) (nodes : Nodes) (u : Universe) → NodesAll es order nodes
    → u.nodes ≡ nodes
    → IsClosure nodes.direct.items u.sups.items → IsOwnOf es nodes.paths.items u.own → UniverseAll es order u
universe_is es order nodes u all same closed own p of = record {
  flat = of.flat;
  named = of.named;
  nodes = rw same (all p of);
  sups = rw same closed;
  own = rw same own;
}

module _ (es : List Entry) (order : List Name) (u : Universe) (f : FitUniverse u) (all : UniverseAll es order u) where
  pub refuses : (fault : TableFault) → RefusedBy u fault → RefusesAll es order fault
  refuses fault r p of = refused_right p es u f (all p of) fault r

  pub fills : (texts : List Text) (known : List ShownPath) (rows : List Row) → PassedBy u
      → known ≡ map shown u.nodes.paths.items
      → RowsOf texts u (length u.nodes.paths.items) rows → FillsAll texts es order known rows
  fills texts known rows passed is r p of named =
      let i = all p of in
      let q = passed_right p es u f i passed in
      rw is (record {
        rows_are = rows_right p es u f i q.one_kind rows (rw (← named) r);
        whole = whole p es u f i;
        passes = q;
      })

module _ (t : Table) (rows : List Row) (known : List ShownPath)
    (all : FillsAll t.texts t.entries.items t.order.items known rows) where
  pub filled_rows : (p : Program) → IsTableOf p t → Fills p known rows
  filled_rows p is = all p (are_of p t.entries.items t.order.items is.entries is.named is.order) is.texts

pub refused_table : (t : Table) (fault : TableFault) → RefusesAll t.entries.items t.order.items fault
    → (p : Program) → IsTableOf p t → UniverseRefused p fault
refused_table t fault r p is = r p (are_of p t.entries.items t.order.items is.entries is.named is.order)
