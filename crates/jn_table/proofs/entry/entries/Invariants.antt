use Rattle.std.proofs.Common.{take, []}
use Rattle.jn_table.specs.Flat.{AddsFlat}
use Rattle.jn_table.proofs.entry.entries.Given as goal

abbrev pub invariant-loop-decl : goal.invariant-loop-decl
invariant-loop-decl l = AddsFlat (take l.decl-index l.decl-items) [] [] l.all.items
