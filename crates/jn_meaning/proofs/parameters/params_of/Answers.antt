use Rattle.std.proofs.Common.{subst, ◌∙◌}
use Rattle.jn_table.specs.declared.table.Table.{Table}
use Rattle.jn_meaning.specs.Values.{path_at}
use Rattle.jn_meaning.specs.Params.{ParamAdded, body_at}
use Rattle.jn_meaning.proofs.ParamLists.{params_more, params_none}
use Rattle.jn_meaning.proofs.parameters.params_of.Goals as goal

pub returns-then-not-branch-clause-told : goal.returns-then-not-branch-clause-told
returns-then-not-branch-clause-told c =
    let p = c.args.w.now.program.now in
    let m = c.args.method.now in
    let added = subst (λ (u : Table). ParamAdded p (path_at u.known.items c.args.class) m.name.name c.loop-param.vars c.add_param.new.vars c.param-item.result c.in_ok-add_param.field-0)
    c.loop-param.invariant.0 c.in_ok-add_param.ensures.told in
    params_none p (body_at c.args.t.now.known.items c.args.class m) c.as_slice-param-items.result.now c.as_slice-param-items.ensures c.loop-param.param-index c.param-item.result c.loop-param-test.true c.param-item.is
    c.loop-param.vars c.loop-param.invariant.1
    (subst (ParamAdded p (path_at c.args.t.now.known.items c.args.class) m.name.name c.loop-param.vars c.add_param.new.vars c.param-item.result) c.if-not-branch.true added)

pub loop-param-preserved : goal.loop-param-preserved
loop-param-preserved c =
    let p = c.args.w.now.program.now in
    let m = c.args.method.now in
    let added = subst (λ (u : Table). ParamAdded p (path_at u.known.items c.args.class) m.name.name c.loop-param.vars c.add_param.new.vars c.param-item.result c.in_ok-add_param.field-0)
    c.loop-param.invariant.0 c.in_ok-add_param.ensures.told in (
      c.in_ok-add_param.ensures.kept ∙ c.loop-param.invariant.0,
      params_more p (body_at c.args.t.now.known.items c.args.class m) c.as_slice-param-items.result.now c.as_slice-param-items.ensures c.loop-param.param-index c.param-item.result c.loop-param-test.true c.param-item.is
          c.loop-param.vars c.loop-param.invariant.1 c.add_param.new.vars
          (subst (ParamAdded p (path_at c.args.t.now.known.items c.args.class) m.name.name c.loop-param.vars c.add_param.new.vars c.param-item.result) c.if-not-branch.false added),
    )
