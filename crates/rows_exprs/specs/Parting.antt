-- The parts of a program whose headers pass, in an Env.
use Rattle.std.specs.Prelude.{◌≡◌}
use Rattle.jn_table.specs.declared.table.Table.{Table}
use Rattle.jn_header.specs.declared.judge.Headers.{Headers}
use Rattle.jn_expr.specs.Envs.{Parts}

-- the parts are the table, and what is known of the headers
pub record HasParts (t : Table) (h : Headers) (x : Parts) : Type 0 where
  pub table : x.table ≡ t
  pub members : x.members ≡ h.members
  pub groups : x.groups ≡ h.groups
  pub slots : x.slots ≡ h.slots
  pub masks : x.masks ≡ h.masks.items
