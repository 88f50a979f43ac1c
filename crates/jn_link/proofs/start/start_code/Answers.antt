use Rattle.std.proofs.Common.{refl}
use Rattle.jn_link.proofs.Starting.{start_is, start_in_form}
use Rattle.jn_link.proofs.start.start_code.Goals as goal

pub returns-clause-start : goal.returns-clause-start
returns-clause-start c = λ n classes methods.
    start_is c.args.p.now n c.args.names.now _ c.in_ok-class.class c.in_ok-main.main c.in_ok-number.number
    c.in_ok-selector.selector c.in_ok-constructor.constructor c.in_ok-class.ensures c.in_ok-main.ensures
    (c.in_ok-number.ensures n classes) methods c.in_ok-constructor.ensures c.in_ok-selector.ensures c.new.ensures refl
    c.in_ok-locals.ensures refl c.in_ok-instrs.ensures

pub returns-clause-in_form : goal.returns-clause-in_form
returns-clause-in_form c =
    start_in_form _ c.in_ok-number.number c.in_ok-selector.selector c.in_ok-constructor.constructor c.new.ensures refl
    c.in_ok-locals.ensures refl c.in_ok-instrs.ensures
