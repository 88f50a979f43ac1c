use Rattle.jn_expr.specs.Envs.{here_at}
use Rattle.jn_expr.proofs.NewSteps.{without_made}
use Rattle.jn_expr.proofs.Typeds.{made_fits}
use Rattle.jn_expr.proofs.news.make_without.Goals as goal

pub returns-clause-told : goal.returns-clause-told
returns-clause-told c = λ p es e.
    without_made p (here_at c.args.class.now c.args.m.now c.args.env.now.vars.list) c.args.at es c.args.env.now.pool c.args.scope.now c.args.ty c.args.env.now.marks
    c.args.count e c.if-count-ne0.false c.fresh_path.new.scope c.in_ok-path.path c.in_ok-path.ensures

pub returns-clause-made : goal.returns-clause-made
returns-clause-made c = record {
  number = c.requires.number;
  scope = c.in_ok-path.ensures.scope;
  grows = c.in_ok-path.ensures.grows;
  fits = made_fits c.args.env.now.pool c.args.scope.now c.fresh_path.new.scope c.args.ty c.in_ok-path.path c.in_ok-path.ensures.scope c.requires.class c.requires.fits c.in_ok-path.ensures.is;
}
