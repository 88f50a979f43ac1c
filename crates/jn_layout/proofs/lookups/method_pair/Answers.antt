use Rattle.std.proofs.Common.{◌∙◌, slice_get, subst, sym}
use Rattle.std.proofs.lemmas.Option.{slice_get_within}
use Rattle.jn_reach.proofs.Searches.{same_some}
use Rattle.jn_layout.specs.Finding.{ShapeTold}
use Rattle.jn_layout.proofs.lookups.method_pair.Goals as goal

pub returns-in-None-told : goal.returns-in-None-told
returns-in-None-told c = λ names bodies are x at.
    let w = are c.args.place x (slice_get_within bodies c.args.place x at) at in
    subst (ShapeTold names x) (same_some (slice_get c.args.shapes.now c.args.place) w.told c.in-Some.told.now w.at (sym c.in-Some.ensures) ∙ c.in-None-told.is) w.is

pub returns-in-Some-told : goal.returns-in-Some-told
returns-in-Some-told c = λ names bodies are x at.
    let w = are c.args.place x (slice_get_within bodies c.args.place x at) at in (
      c.in-Some-told.sel,
      subst (ShapeTold names x) (same_some (slice_get c.args.shapes.now c.args.place) w.told c.in-Some.told.now w.at (sym c.in-Some.ensures) ∙ c.in-Some-told.is) w.is,
      c.four_bytes-key.ensures,
      c.four_bytes-value.ensures,
    )

pub returns-in-None : goal.returns-in-None
returns-in-None c = λ names bodies are x at.
    let w = are c.args.place x (slice_get_within bodies c.args.place x at) at in
    absurd (cc (c.in-None.ensures ∙ w.at))
