use Rattle.std.proofs.Common.{◌≡◌, Contains, List, length, sym, subst, arith, take, take_all}
use Rattle.jn_base.specs.declared.types.Atom.{Atom as ShownAtom}
use Rattle.jn_base.specs.Atoms.{atom_of}
use Rattle.jn_base.specs.Scopes.{Scope, bound}
use Rattle.jn_base.specs.Fits.{Anchored}
use Rattle.jn_subtype.specs.Binds.{binds_in}
use Rattle.rows_classes.proofs.FitTests.{each_more}
use Rattle.rows_classes.proofs.fits.are_deep.Goals as goal

pub loop-x-preserved : goal.loop-x-preserved
loop-x-preserved c =
    let s : Scope = binds_in c.args.pool.now c.args.binds.now in record {
      anchored = each_more (λ (x : ShownAtom). Anchored s x.anchor) c.args.xs.now c.loop-x.x-index c.x-item.result
          c.loop-x-test.true c.x-item.is c.loop-x.invariant.anchored (c.in_ok-is_deep.ensures.anchored c.if-not-branch.false);
      deep = each_more (λ (x : ShownAtom). length (bound s (atom_of x)) ≡ c.args.depth) c.args.xs.now c.loop-x.x-index c.x-item.result
          c.loop-x-test.true c.x-item.is c.loop-x.invariant.deep (c.in_ok-is_deep.ensures.deep c.if-not-branch.false);
    }

pub returns-clause-anchored : goal.returns-clause-anchored
returns-clause-anchored c h x m =
    let all : take c.loop-x.x-index c.args.xs.now ≡ c.args.xs.now =
    take_all c.loop-x.x-index c.args.xs.now (omega (arith, c.loop-x-test.false)) in
    c.loop-x.invariant.anchored x (subst (λ (xs : List ShownAtom). Contains xs x) (sym all) m)

pub returns-clause-deep : goal.returns-clause-deep
returns-clause-deep c h x m =
    let all : take c.loop-x.x-index c.args.xs.now ≡ c.args.xs.now =
    take_all c.loop-x.x-index c.args.xs.now (omega (arith, c.loop-x-test.false)) in
    c.loop-x.invariant.deep x (subst (λ (xs : List ShownAtom). Contains xs x) (sym all) m)
