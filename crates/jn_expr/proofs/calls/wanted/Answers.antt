use Rattle.std.proofs.Common.{◌∙◌, ◌-◌, ℕ, ap, sym, length, slice_get}
use Rattle.jn_expr.proofs.Scopes.{scope_stays}
use Rattle.jn_intern.proofs.Pools.{scope_kept}
use Rattle.jn_expr.proofs.CallDepths.{moved_at}
use Rattle.jn_expr.proofs.CallSteps.{wanted_is}
use Rattle.jn_expr.proofs.calls.wanted.Goals as goal

pub put_in-requires-clause-scope : goal.put_in-requires-clause-scope
put_in-requires-clause-scope c = scope_stays c.requires.scope c.in_ok-ty-in-Some.ensures.keeps

pub returns-in_ok-ty-in-Some-clause-is : goal.returns-in_ok-ty-in-Some-clause-is
returns-in_ok-ty-in-Some-clause-is c =
    wanted_is c.put_in.result c.args.pool.now c.intern.new.self c.put_in.new.pool c.args.scope.now c.args.call.now.from.items c.args.call.now.paths.items _ _
    c.in_ok-ty-in-Some.ty c.in-Some.x.now (slice_get c.args.call.now.header.at.vars.list (length c.args.call.now.paths.items - 1))
    c.requires.scope c.in_ok-ty-in-Some.ensures.keeps
    (ap (λ (i : ℕ). slice_get c.args.call.now.header.at.vars.list i) (sym (c.saturating_sub-i.ensures ∙ ap (λ (n : ℕ). n - 1) (c.len.ensures ∙ c.args.call.now.paths.ok.0))) ∙ sym c.in-Some.ensures.value)
    c.in_ok-ty-in-Some.ensures.shows.1 c.deref.ensures.value c.deref-in-Some.ensures.value c.put_in.ensures.is

pub put_in-requires-clause-moved : goal.put_in-requires-clause-moved
put_in-requires-clause-moved c =
    moved_at (scope_kept c.args.scope.now c.requires.scope.known c.in_ok-ty-in-Some.ensures.keeps) c.deref.ensures.value c.deref-in-Some.ensures.value c.in_ok-ty-in-Some.ensures.shows.1
    (c.requires.moved c.in-Some.x.now
    (ap (λ (i : ℕ). slice_get c.args.call.now.header.at.vars.list i) (sym (c.saturating_sub-i.ensures ∙ ap (λ (n : ℕ). n - 1) (c.len.ensures ∙ c.args.call.now.paths.ok.0))) ∙ sym c.in-Some.ensures.value))
