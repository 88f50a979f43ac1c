use Rattle.jn_share.proofs.Reading.{unrelated_one, unrelated_other, related_by}
use Rattle.jn_share.proofs.groups.Groups.related.Goals as goal

pub returns-in-None : goal.returns-in-None
returns-in-None c = unrelated_one c.args.self.now c.args.a c.args.b c.deref.result.now c.deref.ensures.value c.in-None.ensures.none

pub returns-in-None-group : goal.returns-in-None-group
returns-in-None-group c = unrelated_other c.args.self.now c.args.a c.args.b c.deref-in-Some.result.now c.deref-in-Some.ensures.value c.in-None-group.ensures.none

pub returns-in-Some-group : goal.returns-in-Some-group
returns-in-Some-group c =
    related_by c.args.self.now c.args.a c.args.b c.deref.result.now c.deref-in-Some.result.now c.in-Some.f c.in-Some-group.g
    c.deref.ensures.value c.deref-in-Some.ensures.value c.in-Some.ensures.some c.in-Some-group.ensures.some
