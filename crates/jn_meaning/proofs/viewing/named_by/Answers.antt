use Rattle.std.proofs.Common.{subst}
use Rattle.std.specs.Prelude.{IfOk}
use Rattle.jn_sem.specs.Sets.{Views}
use Rattle.jn_meaning.specs.Viewing.{NamedAs}
use Rattle.jn_meaning.proofs.Targets.{seen_views}
use Rattle.jn_meaning.proofs.viewing.named_by.Goals as goal

pub returns : goal.returns
returns c =
    subst (λ (u : Views). IfOk c.named_in.result (λ o. NamedAs u c.args.x.now o)) (seen_views c.args.t.now.known.items c.args.f.now c.view_in.result c.view_in.ensures) c.named_in.ensures
