use Rattle.jn_meaning.specs.Values.{path_at}
use Rattle.jn_meaning.proofs.TermsTold.{refused_now}
use Rattle.jn_meaning.proofs.Targets.{target_told, target_refused}
use Rattle.jn_meaning.proofs.viewing.target_at.Goals as goal

pub returns-clause-told : goal.returns-clause-told
returns-clause-told c =
    let p = c.args.w.now.program.now in
    let Q = path_at c.args.t.now.known.items c.args.class in
    target_told p Q c.args.owner c.args.vars.now c.args.w.now.masks.now c.requires.masks c.in_ok-spot.spot c.in_ok-spot.ensures c.args.view.now c.in-Ok.given
    (c.in-Ok.ensures.told c.requires.filled) (λ o r. c.in-Ok.ensures.only c.requires.filled o r)

pub returns-in-Err-Refused-clause-told : goal.returns-in-Err-Refused-clause-told
returns-in-Err-Refused-clause-told c =
    let p = c.args.w.now.program.now in
    let Q = path_at c.args.t.now.known.items c.args.class in
    target_refused p Q c.args.owner c.args.vars.now c.args.w.now.masks.now c.requires.masks c.in_ok-spot.spot c.in_ok-spot.ensures c.args.view.now c.in-Err-Refused.field-0-0
    (λ o r. refused_now c.in-Err-Refused.field-0 c.in-Err-Refused.field-0-0 c.in-Err-Refused.field-0-is o (c.in-Err-Refused.ensures.only c.requires.filled o r))
