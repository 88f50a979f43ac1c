use Rattle.std.proofs.Common.{take}
use Rattle.jn_base.specs.declared.tree.Program.{Program}
use Rattle.jn_table.specs.Tables.{IsFilled}
use Rattle.jn_layout.specs.Kin.{HasEarlier}
use Rattle.jn_layout.proofs.kin.has_earlier.Given as goal

abbrev pub invariant-loop-j : goal.invariant-loop-j
invariant-loop-j l = (p : Program) → IsFilled p l.t → HasEarlier p l.t.known.items (take l.j-index l.numbers) l.k → ⊥
