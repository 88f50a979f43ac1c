-- Terms of bodies.
use Rattle.std.specs.Prelude.{Option, Some, None, Ok}
use Rattle.jn_base.specs.declared.tree.Name.{Name}
use Rattle.jn_base.specs.declared.tree.Term.{Term}
use Rattle.jn_base.specs.declared.tree.Program.{Program}
use Rattle.jn_base.specs.declared.types.Atom.{Atom as ShownAtom}
use Rattle.jn_base.specs.declared.names.Role.{Role}
use Rattle.jn_base.specs.declared.names.Vars.{Vars}
use Rattle.jn_base.specs.Paths.{Path}
use Rattle.jn_base.specs.Resolve.{Resolve}
use Rattle.jn_sem.specs.Terms.{Site, spot_at, vars_at}

abbrev pub site_with : Path → Name → Vars → Site
site_with Q m vars = record { class = Q; method = m; vars = vars.list }

-- what the term stands for at the place
abbrev pub TermTold : Program → Role → Site → Term → Option ShownAtom → Type 0
TermTold p r at t (Some x) = Resolve p (spot_at at r) (vars_at at) t (Ok x)
TermTold p r at t None = (x : ShownAtom) → Resolve p (spot_at at r) (vars_at at) t (Ok x) → ⊥
