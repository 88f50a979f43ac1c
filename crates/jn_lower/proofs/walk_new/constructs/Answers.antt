use Rattle.std.proofs.Common.{◌≡◌, ◌∙◌, sym, subst}
use Rattle.jn_base.specs.Paths.{Path}
use Rattle.jn_table.specs.Rows.{HasMethod}
use Rattle.jn_lower.specs.Making.{bound_in}
use Rattle.jn_lower.proofs.Seen.{unlike}
use Rattle.jn_lower.proofs.walk_new.constructs.Goals as goal

pub returns : goal.returns
returns c =
    let g = c.args.g.now in
    let p = g.p.now in
    let B = c.in_ok-b.b in
    let e : B ≡ bound_in g c.args.x.now = c.in_ok-b.ensures in
    record {
      yes = λ told filled. subst (λ (R : Path). HasMethod p R c.args.name) e
          ((c.has_method.ensures p B filled c.in-Some.ensures.some).0 told);
      no = λ told filled has. unlike (sym told ∙ (c.has_method.ensures p B filled c.in-Some.ensures.some).1
          (subst (λ (R : Path). HasMethod p R c.args.name) (sym e) has));
    }
