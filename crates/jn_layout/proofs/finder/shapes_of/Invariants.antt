use Rattle.std.proofs.Common.{◌≡◌, List, length, map}
use Rattle.jn_index.specs.Index.{IsIndex}
use Rattle.jn_agree.specs.declared.selectors.MethodSel.{MethodSel}
use Rattle.jn_layout.specs.Keys.{sel_key}
use Rattle.jn_layout.specs.Finding.{ShapesTold}
use Rattle.jn_layout.proofs.finder.shapes_of.Given as goal

abbrev pub invariant-loop-x : goal.invariant-loop-x
invariant-loop-x l = record {
  long : length l.all.items ≡ l.x-index;
  told : (names : List MethodSel) → IsIndex (map sel_key names) l.index → ShapesTold names l.bodies l.x-index l.all.items;
}
