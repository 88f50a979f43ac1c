use Rattle.std.proofs.Common.{refl, subst}
use Rattle.jn_meaning.specs.Creating.{MadeIn}
use Rattle.jn_meaning.proofs.NewObjects.{calling_large, calling_made}
use Rattle.jn_meaning.proofs.creating.make_calling.Goals as goal

pub returns-in-None : goal.returns-in-None
returns-in-None c = λ known.
    calling_large known c.args.arena c.args.h.now c.args.fresh c.args.keeps c.args.f.now c.args.callee c.args.args.items c.args.f.now c.add_object.new.h
    (subst (MadeIn known c.args.h.now c.add_object.new.h c.args.arena c.args.fresh) c.in-None.is (c.in_ok-add_object.ensures known))

pub returns : goal.returns
returns c = λ known.
    calling_made known c.args.arena c.args.h.now c.args.fresh c.args.keeps c.args.f.now c.args.callee c.args.args.items c.keep.new.f c.add_object.new.h c.in-Some.v
    (record { callee = c.args.callee; args = c.in_ok-args-in-Some.args })
    (subst (MadeIn known c.args.h.now c.add_object.new.h c.args.arena c.args.fresh) c.in-Some.is (c.in_ok-add_object.ensures known)) (c.in_ok-keep-in-Some.ensures known) refl c.in_ok-args-in-Some.ensures
