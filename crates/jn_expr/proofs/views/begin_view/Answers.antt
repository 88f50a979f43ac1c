use Rattle.std.proofs.Common.{subst, [], ◌∷◌}
use Rattle.jn_rules.specs.Plans.{AtomMark}
use Rattle.jn_expr.specs.Told.{Adds}
use Rattle.jn_base.specs.declared.names.Resolved.{Resolved}
use Rattle.jn_expr.specs.Envs.{here_at}
use Rattle.jn_expr.proofs.Viewing.{view_fault, view_begun}
use Rattle.jn_expr.proofs.views.begin_view.Goals as goal

pub returns-in-Err-clause-told : goal.returns-in-Err-clause-told
returns-in-Err-clause-told c = λ go.
    view_fault c.args.p.now (here_at c.args.class.now c.args.m.now c.args.env.now.vars.list) c.args.view.now go c.args.env.now.marks c.target_of.new.env.marks c.in-Err.fault c.in-Err.ensures.told

pub returns-in_ok-note_atom-in-Some-clause-told : goal.returns-in_ok-note_atom-in-Some-clause-told
returns-in_ok-note_atom-in-Some-clause-told c = λ go.
    view_begun c.args.p.now (here_at c.args.class.now c.args.m.now c.args.env.now.vars.list) c.args.view.now go c.args.env.now.marks c.note_atom.new.marks c.in-Ok.ty c.in-Some.atom.now
    c.in-Ok.ensures.told c.in-Some.ensures
    (subst (λ (b : Resolved). Adds (AtomMark c.in-Some.atom.now ∷ []) b c.note_atom.new.marks) c.in-Ok.ensures.marks c.in_ok-note_atom-in-Some.ensures)
