use Rattle.std.proofs.Common.{◌∙◌, ap, reverse}
use Rattle.jn_base.specs.Paths.{Path}
use Rattle.jn_base.specs.Atoms.{atom_of}
use Rattle.jn_base.specs.Scopes.{bound}
use Rattle.jn_names.specs.Scoped.{scope_from}
use Rattle.jn_lower.proofs.NextLocals.{if_ok}
use Rattle.jn_lower.proofs.bounds.class_bound.Goals as goal

pub returns : goal.returns
returns c =
    if_ok c.atom_bound.result (λ b e. e
    ∙ ap (λ (Q : Path). bound (scope_from Q c.args.g.now.vars.now) (atom_of c.args.x.now)) (c.in_ok-own.ensures ∙ ap reverse c.as_slice.ensures))
    c.atom_bound.ensures
