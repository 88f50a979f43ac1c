use Rattle.std.proofs.Common.{take, ◌∷◌}
use Rattle.jn_base.specs.Paths.{nested}
use Rattle.jn_table.specs.Flat.{AddsFlat}
use Rattle.jn_table.proofs.entry.+flatten.Given as goal

abbrev pub invariant-loop-member : goal.invariant-loop-member
invariant-loop-member l =
    AddsFlat (nested (take l.member-index l.member-items))
    (l.decl.name.name ∷ l.namespace) l.initial.entries.items l.entries.items
