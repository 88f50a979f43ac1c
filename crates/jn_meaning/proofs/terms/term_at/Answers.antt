use Rattle.jn_meaning.specs.Values.{path_at}
use Rattle.jn_meaning.proofs.TermsTold.{term_told, term_refused, refused_now}
use Rattle.jn_meaning.proofs.terms.term_at.Goals as goal

pub returns-clause-told : goal.returns-clause-told
returns-clause-told c =
    let p = c.args.w.now.program.now in
    let Q = path_at c.args.t.now.known.items c.args.class in
    term_told p Q c.args.owner c.args.vars.now c.args.w.now.masks.now c.requires.masks c.in_ok-spot.spot c.args.role c.args.term.now c.in-Ok.x
    c.in_ok-spot.ensures (c.in-Ok.ensures.told c.requires.filled)

pub returns-in-Err-Refused-clause-told : goal.returns-in-Err-Refused-clause-told
returns-in-Err-Refused-clause-told c =
    let p = c.args.w.now.program.now in
    let Q = path_at c.args.t.now.known.items c.args.class in
    term_refused p Q c.args.owner c.args.vars.now c.args.w.now.masks.now c.requires.masks c.in_ok-spot.spot c.args.role c.args.term.now c.in-Err-Refused.field-0-0
    c.in_ok-spot.ensures (λ o r. refused_now c.in-Err-Refused.field-0 c.in-Err-Refused.field-0-0 c.in-Err-Refused.field-0-is o (c.in-Err-Refused.ensures.only c.requires.filled o r))
