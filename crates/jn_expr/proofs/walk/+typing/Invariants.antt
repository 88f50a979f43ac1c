use Rattle.std.proofs.Common.{◌≡◌, ◌+◌, drop, length}
use Rattle.jn_intern.specs.Pools.{InPool, scope_in}
use Rattle.jn_rules.specs.Exprs.{site_here, links_typed, suffixes_typed, args_typed}
use Rattle.jn_rules.specs.Forms.{typed_args, typed_links, typed_parts}
use Rattle.jn_expr.specs.Envs.{ArePartsOf, IsScope, IsThere, Stays, parts, here_at}
use Rattle.jn_expr.specs.Passing.{Grows}
use Rattle.jn_expr.specs.Values.{typed_in, TypedFits}
use Rattle.jn_expr.specs.Steps.{Leads}
use Rattle.jn_expr.specs.Calling.{CallFits, IsPassed}
use Rattle.jn_expr.proofs.walk.+typing.Given as goal

abbrev pub invariant-type_links-loop-l : goal.invariant-type_links-loop-l
invariant-type_links-loop-l l = record {
  stays : Stays l.fn.env l.env;
  parts : ArePartsOf l.p (parts l.env);
  scope : IsScope l.env.pool l.scope;
  there : IsThere l.p (site_here (here_at l.class l.m l.env.vars.list)) (scope_in l.env.pool l.scope);
  number : InPool l.env.pool l.left.ty;
  fits : TypedFits (typed_in l.env.pool l.scope l.left);
  grows : Grows l.fn.scope l.scope;
  leads : Leads l.p
      (links_typed (here_at l.class l.m l.fn.env.vars.list) l.at (typed_in l.fn.env.pool l.fn.scope l.fn.x) (typed_links (here_at l.class l.m l.fn.env.vars.list) l.links))
      (links_typed (here_at l.class l.m l.fn.env.vars.list) l.at (typed_in l.env.pool l.scope l.left)
      (typed_links (here_at l.class l.m l.fn.env.vars.list) (drop l.l-index l.links))) l.fn.env.marks l.env.marks;
}

abbrev pub invariant-type_parts-loop-part : goal.invariant-type_parts-loop-part
invariant-type_parts-loop-part l = record {
  stays : Stays l.fn.env l.env;
  parts : ArePartsOf l.p (parts l.env);
  scope : IsScope l.env.pool l.scope;
  there : IsThere l.p (site_here (here_at l.class l.m l.env.vars.list)) (scope_in l.env.pool l.scope);
  number : InPool l.env.pool l.value.ty;
  fits : TypedFits (typed_in l.env.pool l.scope l.value);
  grows : Grows l.fn.scope l.scope;
  leads : Leads l.p
      (suffixes_typed l.whole l.fn.at (typed_parts (here_at l.class l.m l.fn.env.vars.list) l.suffixes) (typed_in l.fn.env.pool l.fn.scope l.fn.x))
      (suffixes_typed l.whole l.place (typed_parts (here_at l.class l.m l.fn.env.vars.list) (drop l.part-index l.suffixes)) (typed_in l.env.pool l.scope l.value))
      l.fn.env.marks l.env.marks;
}

abbrev pub invariant-type_args-loop-e : goal.invariant-type_args-loop-e
invariant-type_args-loop-e l = record {
  stays : Stays l.fn.env l.env;
  parts : ArePartsOf l.p (parts l.env);
  there : IsThere l.p (site_here (here_at l.class l.m l.env.vars.list)) (scope_in l.env.pool l.scope);
  passed : IsPassed l.env.pool l.fn.scope l.scope l.fn.call l.call;
  count : length l.call.paths.items ≡ l.e-index + 1;
  fits : CallFits l.p l.env.pool (scope_in l.env.pool l.scope) l.call;
  room : length l.call.header.at.vars.list ≡ length l.args;
  leads : Leads l.p
      (args_typed (here_at l.class l.m l.fn.env.vars.list) l.fn.call.from.items l.fn.call.header.at.vars.list
      (typed_args (here_at l.class l.m l.fn.env.vars.list) l.args) l.fn.call.paths.items (scope_in l.fn.env.pool l.fn.scope))
      (args_typed (here_at l.class l.m l.fn.env.vars.list) l.fn.call.from.items (drop l.e-index l.fn.call.header.at.vars.list)
      (typed_args (here_at l.class l.m l.fn.env.vars.list) (drop l.e-index l.args)) l.call.paths.items (scope_in l.env.pool l.scope))
      l.fn.env.marks l.env.marks;
}
