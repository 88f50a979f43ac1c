use Rattle.jn_share.specs.Parting.{SamePart}
use Rattle.jn_share.proofs.Growing.{its_members, part_grows, part_within, part_first, part_sorted}
use Rattle.jn_share.proofs.refining.next_part.Goals as goal

pub first_like-requires : goal.first_like-requires
first_like-requires c =
    part_sorted c.args.parts.now c.deref.result.now c.in-Some.among.now.items c.args.v
    (its_members c.args.parts.now c.args.rows.now c.requires.rows c.args.v c.requires.within c.in-Some.among.now c.in-Some.ensures) c.deref.ensures.value

pub returns-in-Some-clause-grows : goal.returns-in-Some-clause-grows
returns-in-Some-clause-grows c = λ n at.
    part_grows c.args.parts.now c.deref.result.now c.in-Some.among.now.items c.args.v c.first_like.result n c.requires.low c.requires.within
    (its_members c.args.parts.now c.args.rows.now c.requires.rows c.args.v c.requires.within c.in-Some.among.now c.in-Some.ensures) c.deref.ensures.value
    c.first_like.ensures.among at

pub returns-in-Some-clause-is : goal.returns-in-Some-clause-is
returns-in-Some-clause-is c = λ p V asked ready here k n at.
    let known = c.args.t.now.known.items in
    let m = its_members c.args.parts.now c.args.rows.now c.requires.rows c.args.v c.requires.within c.in-Some.among.now c.in-Some.ensures in (
      part_within c.args.parts.now c.deref.result.now c.in-Some.among.now.items c.args.v c.first_like.result n c.requires.within m c.deref.ensures.value c.first_like.ensures.among at,
      part_first p known (SamePart known c.args.parts.now) c.args.parts.now c.deref.result.now c.in-Some.among.now.items c.args.v c.first_like.result n V c.requires.within m
          c.deref.ensures.value at (c.first_like.ensures.is p V asked ready here k),
    )
