use Rattle.std.proofs.Common.{◌∙◌, ap, map, Err, Ok}
use Rattle.jn_share.specs.Listing.{listed_of}
use Rattle.jn_share.proofs.Making.{gives_fault, refused_or}
use Rattle.jn_share.proofs.groups.Groups.build.Goals as goal

pub returns-in-Err-clause-gives : goal.returns-in-Err-clause-gives
returns-in-Err-clause-gives c = λ f.
    gives_fault c.args.p.now c.args.t.now.known.items c.in-Err.fault
    (c.in-Err.ensures c.args.p.now f (ap (map listed_of) c.deref.ensures.value ∙ c.in_ok-names.ensures))

pub returns-in-Err-clause-refused : goal.returns-in-Err-clause-refused
returns-in-Err-clause-refused c = λ f r w.
    refused_or c.args.p.now c.args.t.now.known.items (Err c.in-Err.fault) (returns-in-Err-clause-gives c f) r w

pub returns-clause-gives : goal.returns-clause-gives
returns-clause-gives c = λ f. (
  c.in-Ok.ensures c.args.p.now f (ap (map listed_of) c.deref.ensures.value ∙ c.in_ok-names.ensures),
  c.in_ok-groups-in-Ok.ensures f (ap (map listed_of) c.deref-in-Ok.ensures.value ∙ c.in_ok-names.ensures),
)

pub returns-clause-refused : goal.returns-clause-refused
returns-clause-refused c = λ f r w.
    refused_or c.args.p.now c.args.t.now.known.items (Ok c.in_ok-groups-in-Ok.groups) (returns-clause-gives c f) r w
