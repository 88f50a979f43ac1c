use Rattle.std.proofs.Common.{subst, [], ◌∷◌}
use Rattle.jn_lower.specs.Cursors.{TermsTaken}
use Rattle.jn_lower.proofs.Seams.{on_ok}
use Rattle.jn_lower.proofs.Declaring.{declared}
use Rattle.jn_lower.proofs.walk_locals.local.Goals as goal

pub returns-in_ok-bound-in-Some-clause-lowers : goal.returns-in_ok-bound-in-Some-clause-lowers
returns-in_ok-bound-in-Some-clause-lowers c =
    on_ok c.add_local.result (λ h. declared c.args.g.now c.seeing.result c.args.known.now.list c.add_local.new.known.list
    c.args.fixed c.args.ty.now c.args.name c.args.e.now c.in-Some.q c.in_ok-xs.xs.now
    c.next_terms.new.self c.next_var.new.self c.args.w.now c.value.new.w c.bound.new.w c.seeing.ensures
    (subst (λ k. TermsTaken k c.in_ok-xs.xs.now c.args.w.now.marks c.next_terms.new.self) c.written_terms.ensures c.in_ok-xs.ensures)
    c.in-Some.ensures c.in_ok-value-in-Some.ensures c.in_ok-bound-in-Some.ensures h) c.add_local.ensures

pub returns-in_ok-bound-in-Some-clause-extends : goal.returns-in_ok-bound-in-Some-clause-extends
returns-in_ok-bound-in-Some-clause-extends c =
    on_ok c.add_local.result (λ h. record { more = _ ∷ []; is = h.is }) c.add_local.ensures
