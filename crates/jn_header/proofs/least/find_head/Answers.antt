use Rattle.std.proofs.Common.{nat_eq, sym, ap, ◌∙◌, slice_get, List}
use Rattle.indexmap.specs.IndexMap.{get}
use Rattle.jn_header.specs.declared.bodies.BodyHead.{BodyHead}
use Rattle.jn_header.proofs.Placing.{found, not_found}
use Rattle.jn_header.proofs.least.find_head.Goals as goal

pub returns-in-None : goal.returns-in-None
returns-in-None c = λ placed. not_found c.args.row.now.heads.items (get nat_eq c.args.row.now.places) c.args.name placed (sym c.in-None.ensures.value)

pub returns-in-Some : goal.returns-in-Some
returns-in-Some c = λ placed.
    found c.args.row.now.heads.items (get nat_eq c.args.row.now.places) c.args.name c.in-Some.place.now _ placed (sym c.in-Some.ensures.value)
    (c.at.ensures ∙ ap (λ (xs : List BodyHead). slice_get xs c.in-Some.place.now) c.deref.ensures.value)
