use Rattle.std.proofs.Common.{subst}
use Rattle.jn_meaning.specs.Creating.{MadeIn}
use Rattle.jn_meaning.proofs.NewObjects.{alone_large, alone_made}
use Rattle.jn_meaning.proofs.creating.make_alone.Goals as goal

pub returns-in-None : goal.returns-in-None
returns-in-None c = λ known.
    alone_large known c.args.arena c.args.h.now c.args.fresh c.args.keeps c.args.f.now c.args.f.now c.add_object.new.h
    (subst (MadeIn known c.args.h.now c.add_object.new.h c.args.arena c.args.fresh) c.in-None.is (c.in_ok-add_object.ensures known))

pub returns-in_ok-keep-in-Some : goal.returns-in_ok-keep-in-Some
returns-in_ok-keep-in-Some c = λ known.
    alone_made known c.args.arena c.args.h.now c.args.fresh c.args.keeps c.args.f.now c.keep.new.f c.add_object.new.h c.in-Some.v
    (subst (MadeIn known c.args.h.now c.add_object.new.h c.args.arena c.args.fresh) c.in-Some.is (c.in_ok-add_object.ensures known)) (c.in_ok-keep-in-Some.ensures known)
