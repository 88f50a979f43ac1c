use Rattle.std.proofs.Common.{◌∙◌, List, ap, length, reverse, subst, Some, None}
use Rattle.std.proofs.lemmas.Result.{IfOk-weaker}
use Rattle.std.proofs.lemmas.List.{reverse-reverse}
use Rattle.jn_base.specs.declared.path.Path.{Path as ShownPath}
use Rattle.jn_base.specs.Atoms.{atom_of, atom_at}
use Rattle.jn_base.specs.Paths.{Path}
use Rattle.jn_base.specs.Members.{MethodAt}
use Rattle.jn_base.specs.Scopes.{bound, bound_of}
use Rattle.jn_intern.specs.declared.scope.Bind.{Bind}
use Rattle.jn_intern.specs.Pools.{scope_in, shown}
use Rattle.jn_intern.proofs.Pools.{keeps_more, scope_kept}
use Rattle.jn_subtype.specs.Binds.{binds_in}
use Rattle.jn_rules.specs.Exprs.{made_exact}
use Rattle.jn_sem.specs.NormalFunction.{normal_type}
use Rattle.jn_expr.specs.Envs.{here_at}
use Rattle.jn_expr.specs.Found.{ConstructorFrom}
use Rattle.jn_expr.specs.Calling.{body_of}
use Rattle.jn_expr.specs.Making.{IsLast, made_left}
use Rattle.jn_expr.proofs.Scopes.{scope_stays}
use Rattle.jn_expr.proofs.CallDepths.{own_name, deep_class, deep_at, constructor_deep}
use Rattle.jn_expr.proofs.NewSteps.{is_constructor, no_constructor, has_constructor, of_constructor, awaits_none}
use Rattle.jn_expr.proofs.news.make_of.Goals as goal

pub make_without-requires-clause-scope : goal.make_without-requires-clause-scope
make_without-requires-clause-scope c = scope_stays c.requires.scope c.in_ok-ty.ensures.keeps

pub make_by-requires-clause-scope : goal.make_by-requires-clause-scope
make_by-requires-clause-scope c = scope_stays c.requires.scope c.in_ok-ty.ensures.keeps

pub returns-in-None-clause-told : goal.returns-in-None-clause-told
returns-in-None-clause-told c = λ es e.
    let h = here_at c.args.class.now c.args.m.now c.args.env.now.vars.list in
    of_constructor c.args.p.now h c.args.at es c.in_ok-b.b (bound (scope_in c.args.env.now.pool c.args.scope.now) (atom_of c.args.x.now))
    (scope_in c.made_type.new.pool c.args.scope.now) (scope_in c.args.env.now.pool c.args.scope.now)
    (shown c.made_type.new.pool c.in_ok-ty.ty) (normal_type (scope_in c.args.env.now.pool c.args.scope.now) (made_exact (atom_of c.args.x.now)))
    (made_left h c.made_type.new.pool c.make_without.new.scope es) c.args.env.now.marks c.args.env.now.marks None
    (no_constructor c.args.p.now c.in_ok-b.b (subst (ConstructorFrom c.args.p.now c.in_ok-b.b) c.in-None.is (c.in_ok-constructor_from.ensures c.args.p.now c.requires.parts.members)))
    c.in_ok-b.ensures
    (scope_kept c.args.scope.now c.requires.scope.known c.in_ok-ty.ensures.keeps) c.in_ok-ty.ensures.is.shows c.make_without.result
    (c.make_without.ensures.told c.args.p.now es e)

pub returns-clause-told : goal.returns-clause-told
returns-clause-told c = λ es e.
    let h = here_at c.args.class.now c.args.m.now c.args.env.now.vars.list in
    of_constructor c.args.p.now h c.args.at es c.in_ok-b.b (bound (scope_in c.args.env.now.pool c.args.scope.now) (atom_of c.args.x.now))
    (scope_in c.made_type.new.pool c.args.scope.now) (scope_in c.args.env.now.pool c.args.scope.now)
    (shown c.made_type.new.pool c.in_ok-ty.ty) (normal_type (scope_in c.args.env.now.pool c.args.scope.now) (made_exact (atom_of c.args.x.now)))
    (made_left h c.make_by.new.env.pool c.make_by.new.scope es) c.args.env.now.marks c.make_by.new.env.marks (Some (body_of c.in-Some.owner c.in-Some-method_at.method.now))
    (is_constructor c.args.p.now c.in_ok-b.b c.in-Some.owner c.in-Some-method_at.method.now
    (subst (ConstructorFrom c.args.p.now c.in_ok-b.b) c.in-Some.is (c.in_ok-constructor_from.ensures c.args.p.now c.requires.parts.members))
    (has_constructor c.args.p.now c.in_ok-b.b c.in-Some.owner c.in-Some-last_name.name c.in-Some-method_at.method.now
    (subst (IsLast c.in_ok-b.b) c.in-Some-last_name.is c.last_name.ensures)
    (subst (λ (Q : Path). MethodAt c.args.p.now Q c.in-Some-last_name.name c.in-Some-method_at.method.now)
    (ap (λ (q : ShownPath). reverse q.names) c.in_ok-path-in-Some-last_name.ensures ∙ reverse-reverse c.in-Some.owner) c.in-Some-method_at.ensures)))
    c.in_ok-b.ensures
    (scope_kept c.args.scope.now c.requires.scope.known c.in_ok-ty.ensures.keeps) c.in_ok-ty.ensures.is.shows c.make_by.result
    (c.make_by.ensures.told es e)

pub returns-clause-stays : goal.returns-clause-stays
returns-clause-stays c = record { same = c.make_by.ensures.stays.same; pool = keeps_more c.in_ok-ty.ensures.keeps c.make_by.ensures.stays.pool }

pub make_without-requires-clause-class : goal.make_without-requires-clause-class
make_without-requires-clause-class c =
    deep_class (scope_in c.made_type.new.pool c.args.scope.now) (shown c.made_type.new.pool c.in_ok-ty.ty) (bound (scope_in c.args.env.now.pool c.args.scope.now) (atom_of c.args.x.now))
    c.in_ok-ty.ensures.deep

pub make_by-requires-clause-at : goal.make_by-requires-clause-at
make_by-requires-clause-at c =
    own_name
    (subst (λ (Q : Path). MethodAt c.args.p.now Q c.in-Some-last_name.name c.in-Some-method_at.method.now)
    (ap (λ (q : ShownPath). reverse q.names) c.in_ok-path-in-Some-last_name.ensures ∙ reverse-reverse c.in-Some.owner) c.in-Some-method_at.ensures)

pub make_by-requires-clause-deep : goal.make_by-requires-clause-deep
make_by-requires-clause-deep c =
    deep_at c.in_ok-ty.ensures.deep
    (constructor_deep c.args.p.now c.in_ok-b.b c.in-Some.owner
    (subst (ConstructorFrom c.args.p.now c.in_ok-b.b) c.in-Some.is (c.in_ok-constructor_from.ensures c.args.p.now c.requires.parts.members))
    ∙ ap length c.in_ok-b.ensures)

pub returns-in-None-clause-awaits : goal.returns-in-None-clause-awaits
returns-in-None-clause-awaits c =
    IfOk-weaker c.make_without.result _ _
    (λ x e. awaits_none c.args.p.now c.made_type.new.pool (scope_in c.made_type.new.pool c.make_without.new.scope) c.args.count x.call e) c.make_without.ensures.none
