use Rattle.std.proofs.Common.{get_or}
use Rattle.jn_intern.specs.declared.scope.Bind.{Bind as NumberBind}
use Rattle.jn_intern.proofs.Pools.{keeps_more}
use Rattle.jn_check.proofs.Masking.{with_start, with_more, with_all, in_now, item_at}
use Rattle.jn_check.proofs.masks.with_masks.Goals as goal

-- what would stand behind the end of a list
abbrev none : NumberBind
none = record { path = 0; ty = record { 0 = 0 } }

pub loop-bind-init : goal.loop-bind-init
loop-bind-init c = with_start c.args.pool.now c.args.binds.now c.args.path c.args.masks c.new-all.result.items c.new-all.ensures.items

pub remasked_bind-requires : goal.remasked_bind-requires
remasked_bind-requires c =
    in_now c.args.pool.now c.loop-bind.pool c.loop-bind.pool c.args.binds.now c.loop-bind.bind-index (get_or c.args.binds.now c.loop-bind.bind-index none) c.loop-bind-test.true
    (item_at c.args.binds.now c.loop-bind.bind-index none c.loop-bind-test.true) c.requires.known c.loop-bind.invariant.keeps

pub loop-bind-preserved : goal.loop-bind-preserved
loop-bind-preserved c =
    with_more c.args.pool.now c.loop-bind.pool c.remasked_bind.new.pool c.args.binds.now c.loop-bind.bind-index (get_or c.args.binds.now c.loop-bind.bind-index none) c.loop-bind-test.true
    (item_at c.args.binds.now c.loop-bind.bind-index none c.loop-bind-test.true) c.requires.known c.loop-bind.invariant.keeps c.args.path c.args.masks c.loop-bind.all.items
    c.push.new.self.items c.in_ok-one.one c.requires.fits c.loop-bind.invariant c.in_ok-one.ensures.keeps c.in_ok-one.ensures.is c.in_ok-one.ensures.known c.in_ok-push.ensures.items

pub returns-clause-is : goal.returns-clause-is
returns-clause-is c =
    with_all c.args.pool.now c.loop-bind.pool c.args.binds.now c.args.path c.args.masks c.loop-bind.bind-index c.loop-bind.all.items c.loop-bind-test.false c.loop-bind.invariant

pub returns-clause-known : goal.returns-clause-known
returns-clause-known c = c.loop-bind.invariant.known

pub returns-clause-keeps : goal.returns-clause-keeps
returns-clause-keeps c = c.loop-bind.invariant.keeps

pub returns-in_err-one-clause-keeps : goal.returns-in_err-one-clause-keeps
returns-in_err-one-clause-keeps c = keeps_more c.loop-bind.invariant.keeps c.remasked_bind.ensures.keeps

pub returns-in_err-push-clause-keeps : goal.returns-in_err-push-clause-keeps
returns-in_err-push-clause-keeps c = keeps_more c.loop-bind.invariant.keeps c.remasked_bind.ensures.keeps
