use Rattle.std.proofs.Common.{List, ap, ◌∙◌}
use Rattle.std.specs.Prelude.{slice_get}
use Rattle.jn_meaning.specs.declared.value.Value.{Value}
use Rattle.jn_meaning.proofs.Lists.{if_ok}
use Rattle.jn_meaning.proofs.Receivers.{calls_object}
use Rattle.jn_meaning.proofs.calling.call_on.Goals as goal

pub returns-in-Reference-clause-did : goal.returns-in-Reference-clause-did
returns-in-Reference-clause-did c =
    if_ok c.call_at.result
    (λ d k. calls_object c.args.w.now.program.now c.args.t.now.known.items c.args.m c.args.all.items c.in-Some.r (c.in-Some.ensures ∙ ap (λ (vs : List Value). slice_get vs 0) c.deref.ensures.value) _ c.in-Reference.id d c.in-Reference.is k)
    c.call_at.ensures.did
