-- The program of a source is within the limits, and has its own names.
use Rattle.std.proofs.Common.{List, ℕ, refl}
use Rattle.jn_base.specs.declared.tree.Program.{Program}
use Rattle.jn_base.specs.Spelling.{IsTextOf}
use Rattle.jn_base.specs.WithinLimits.{IsWithinLimits}
use Rattle.jn_base.specs.ProgramNames.{IsNamed}
use Rattle.jn_laws.proofs.PlacesAside.{programs_within_limits}

pub within_limits : (p : Program) (bytes : List ℕ) → IsTextOf p bytes → IsWithinLimits p
within_limits p bytes is = record { source = bytes; spelled = p; same = refl; is_text = is }

pub named : (p : Program) → IsWithinLimits p → IsNamed p
named p w = (programs_within_limits p w).named
