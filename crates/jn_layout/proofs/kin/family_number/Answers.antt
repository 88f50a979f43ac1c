use Rattle.std.proofs.Common.{sym, arith}
use Rattle.std.proofs.lemmas.Option.{slice_get_within}
use Rattle.jn_share.proofs.Preparing.{top_family, next_family, no_up}
use Rattle.jn_layout.proofs.kin.family_number.Goals as goal

pub returns-in-None-clause-is : goal.returns-in-None-clause-is
returns-in-None-clause-is c = λ p V X f all a g.
    top_family p c.args.t.now f c.args.id.0 V X c.row.result.now (c.row.ensures p V f.table a) c.in-None.is a g

pub returns-in-None-at-clause-is : goal.returns-in-None-at-clause-is
returns-in-None-at-clause-is c = λ p V X f all a g.
    absurd (no_up p c.args.t.now f c.args.id.0 V c.row.result.now c.args.families.now c.in-Some.up (c.row.ensures p V f.table a) c.in-Some.is c.requires.long
    c.in-None-at.ensures a)

pub returns-in-Some-at-clause-low : goal.returns-in-Some-at-clause-low
returns-in-Some-at-clause-low c =
    let l = c.requires.low c.in-Some.up.0 c.in-Some-at.family.now (sym c.in-Some-at.ensures) in
    let w = slice_get_within c.args.families.now c.in-Some.up.0 c.in-Some-at.family.now (sym c.in-Some-at.ensures) in
    omega (arith, l, w, c.requires.long)

pub returns-in-Some-at-clause-is : goal.returns-in-Some-at-clause-is
returns-in-Some-at-clause-is c = λ p V X f all a g.
    next_family p c.args.t.now f c.args.id.0 V X c.row.result.now c.args.families.now c.in-Some.up c.in-Some-at.family.now (c.row.ensures p V f.table a) c.in-Some.is
    c.requires.long all c.in-Some-at.ensures a g
