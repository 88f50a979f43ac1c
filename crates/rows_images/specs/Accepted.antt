-- What is known of the program of a case.
use Rattle.std.specs.Prelude.{ℕ, List}
use Rattle.jn_base.specs.declared.tree.Program.{Program}
use Rattle.jn_base.specs.Spelling.{IsTextOf}
use Rattle.jn_rules.specs.Verdict.{TreePasses}

-- a source spells it, and it is accepted
pub record IsAccepted (p : Program) : Type 0 where
  pub bytes : List ℕ
  pub text : IsTextOf p bytes
  pub passes : TreePasses p
