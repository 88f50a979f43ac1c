-- Which statements can't be passed, form by form.
use Rattle.std.proofs.Common.{◌≡◌, ◌<◌, ◌≤◌, ◌+◌, ◌||◌, ℕ, List, length, drop, get_or, Bool, true, false, sym, ap, ◌∙◌}
use Rattle.std.proofs.Math.ListN.{drop_of_length-le}
use Rattle.jn_base.specs.declared.tree.Stmt.{Stmt, roll-Stmt}
use Rattle.jn_base.specs.declared.tree.Stmt.TheFolds.{map-Stmt, fold-roll-Stmt}
use Rattle.jn_base.specs.declared.tree.Stmt.TheOpen.{Stmt-F}
use Rattle.jn_homes.proofs.Places.{at_index}
use Rattle.jn_rules.specs.Stmts.{stops_step, stops, all_stop}

pub stops_by : (f : Stmt-F Stmt) (s t : Stmt) → t ≡ s → roll-Stmt f ≡ s → stops t ≡ stops_step (map-Stmt Stmt Bool stops f)
stops_by f s t is e = ap stops (is ∙ sym e) ∙ fold-roll-Stmt Bool stops_step f

-- none before i stops
module _ (ss : List Stmt) (i : ℕ) (s : Stmt) (lt : i < length ss) (is : s ≡ get_or ss i s) (so : all_stop ss ≡ all_stop (drop i ss)) where
  next_stop : all_stop ss ≡ (stops s || all_stop (drop (i + 1) ss))
  next_stop = so ∙ ap all_stop (at_index ss i s lt is)

  pub one_stops : stops s ≡ true → true ≡ all_stop ss
  one_stops e = sym (next_stop ∙ ap (λ (t : Bool). t || all_stop (drop (i + 1) ss)) e)

  pub none_stops : stops s ≡ false → all_stop ss ≡ all_stop (drop (i + 1) ss)
  none_stops e = next_stop ∙ ap (λ (t : Bool). t || all_stop (drop (i + 1) ss)) e

pub none_left : (ss : List Stmt) (i : ℕ) → length ss ≤ i → all_stop ss ≡ all_stop (drop i ss) → false ≡ all_stop ss
none_left ss i le so = sym (so ∙ ap all_stop (drop_of_length-le ss {i = i} le))
