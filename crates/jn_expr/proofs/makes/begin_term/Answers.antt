use Rattle.std.proofs.Common.{subst, [], ◌∷◌}
use Rattle.jn_rules.specs.Plans.{AtomMark}
use Rattle.jn_expr.specs.Told.{Adds}
use Rattle.jn_base.specs.declared.names.Resolved.{Resolved}
use Rattle.jn_expr.specs.Envs.{here_at}
use Rattle.jn_expr.proofs.Making.{term_fault, term_begun}
use Rattle.jn_expr.proofs.makes.begin_term.Goals as goal

pub returns-in-Err-clause-told : goal.returns-in-Err-clause-told
returns-in-Err-clause-told c = λ go.
    term_fault c.args.p.now (here_at c.args.class.now c.args.m.now c.args.env.now.vars.list) c.args.role c.args.t.now go c.args.env.now.marks c.term_of.new.env.marks c.in-Err.fault c.in-Err.ensures.told

pub returns-in_ok-note_atom-in-Ok-clause-told : goal.returns-in_ok-note_atom-in-Ok-clause-told
returns-in_ok-note_atom-in-Ok-clause-told c = λ go.
    term_begun c.args.p.now (here_at c.args.class.now c.args.m.now c.args.env.now.vars.list) c.args.role c.args.t.now go c.args.env.now.marks c.note_atom.new.marks c.in-Ok.atom
    c.in-Ok.ensures.told
    (subst (λ (b : Resolved). Adds (AtomMark c.in-Ok.atom ∷ []) b c.note_atom.new.marks) c.in-Ok.ensures.marks c.in_ok-note_atom-in-Ok.ensures)
