use Rattle.std.proofs.Common.{ℕ, ◌<◌, drop}
use Rattle.jn_base.specs.declared.tree.Program.{Program}
use Rattle.jn_base.specs.Supers.{Member}
use Rattle.jn_table.specs.Tables.{IsFilled}
use Rattle.jn_names.proofs.seek.found_out.Given as goal

abbrev pub invariant-loop-k : goal.invariant-loop-k
invariant-loop-k l = (p : Program) (j : ℕ) → IsFilled p l.t → j < l.k → Member p (drop j l.class) l.name → ⊥
