use Rattle.jn_sem.specs.NotFamily.{Listed, in_list}
use Rattle.jn_share.specs.Listing.{listing_of}
use Rattle.jn_header.proofs.Families.{no_top, lacking, name_passes, answered}
use Rattle.jn_header.proofs.listed.judge_name.Goals as goal

pub returns-then-not-branch : goal.returns-then-not-branch
returns-then-not-branch c = λ p f has.
    let x : Listed = in_list c.args.class.now (listing_of c.args.list) c.args.name.now in
    no_top p x c.in_ok-is_family.field-0 c.if-not-branch.true (c.in_ok-is_family.ensures p f) _ c.at_name.ensures

pub returns-then-branch : goal.returns-then-branch
returns-then-branch c = λ p f has.
    let x : Listed = in_list c.args.class.now (listing_of c.args.list) c.args.name.now in
    lacking p x c.in_ok-is_family.field-0 c.if-not-branch.false (c.in_ok-is_family.ensures p f) c.in_ok-lacks.field-0 c.if-branch.true (answered p c.names.result.now c.args.class.now (listing_of c.args.list) c.args.name.now c.names.ensures has c.in_ok-lacks.field-0 (λ X e. c.in_ok-lacks.ensures p X f e)) _ c.at_name-then-branch.ensures

pub returns : goal.returns
returns c = λ p f has.
    let x : Listed = in_list c.args.class.now (listing_of c.args.list) c.args.name.now in
    name_passes p x c.in_ok-is_family.field-0 c.if-not-branch.false (c.in_ok-is_family.ensures p f) c.in_ok-lacks.field-0 c.if-branch.false (answered p c.names.result.now c.args.class.now (listing_of c.args.list) c.args.name.now c.names.ensures has c.in_ok-lacks.field-0 (λ X e. c.in_ok-lacks.ensures p X f e))
