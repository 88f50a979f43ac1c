use Rattle.std.proofs.Common.{Option, subst}
use Rattle.jn_table.specs.declared.class.ClassId.{ClassId}
use Rattle.jn_meaning.specs.Tells.{CounterpartTold}
use Rattle.jn_meaning.proofs.Families.{seen_as, unseen}
use Rattle.jn_meaning.proofs.getting.reference_as.Goals as goal

pub returns-in-None : goal.returns-in-None
returns-in-None c =
    let p = c.args.w.now.program.now in
    let known = c.args.t.now.known.items in
    unseen p known c.args.family c.args.o c.args.id
    (subst (λ (o : Option ClassId). CounterpartTold p known c.args.family c.args.id o) c.in-None.is c.in_ok-found.ensures)

pub returns-in-Some : goal.returns-in-Some
returns-in-Some c =
    let p = c.args.w.now.program.now in
    let known = c.args.t.now.known.items in
    seen_as p known c.args.family c.args.o c.args.id c.in-Some.other
    (subst (λ (o : Option ClassId). CounterpartTold p known c.args.family c.args.id o) c.in-Some.is c.in_ok-found.ensures)
