use Rattle.std.proofs.Common.{sym}
use Rattle.jn_share.proofs.Kinship.{no_family, unnumbered, its_family, no_classes, covered}
use Rattle.jn_share.proofs.parting.covers.Goals as goal

pub returns-in-None-clause-no : goal.returns-in-None-clause-no
returns-in-None-clause-no c = λ _ types p V W asked ready m n one two h.
    absurd (no_family p c.args.t.now c.args.g.now types c.args.all.now asked ready c.deref.result.now c.deref.ensures.value c.args.v.0 V m one c.in-None.ensures)

pub returns-in-None-at-clause-yes : goal.returns-in-None-at-clause-yes
returns-in-None-at-clause-yes c = λ _ types p V W asked ready m n one two h U a.
    absurd (no_classes p c.args.t.now c.args.g.now types c.args.all.now asked ready c.deref.result.now c.deref.ensures.value c.args.v c.in-Some.own.now V
    c.deref-in-Some.result.now c.deref-in-Some.ensures.value m one (sym c.in-Some.ensures) c.in-None-at.ensures c.args.ty.now h U a)

pub returns-in-None-family_of-clause-no : goal.returns-in-None-family_of-clause-no
returns-in-None-family_of-clause-no c = λ _ types p V W asked ready m n one two h.
    absurd (unnumbered p c.args.t.now c.args.g.now types c.args.all.now asked ready c.deref-in-Some-at.result.now c.deref-in-Some-at.ensures.value c.args.w.0 W n two
    c.in-None-family_of.ensures.none)

pub returns-in-Some-family_of-clause-yes : goal.returns-in-Some-family_of-clause-yes
returns-in-Some-family_of-clause-yes c = λ e types p V W asked ready m n one two h.
    let Y = its_family p c.args.t.now c.args.g.now types c.args.all.now asked ready c.deref-in-Some-at.result.now c.deref-in-Some-at.ensures.value c.args.w.0
    c.in-Some-family_of.family.0 W n two c.in-Some-family_of.ensures.some in
    covered p c.args.t.now c.args.g.now types c.args.all.now asked ready c.deref.result.now c.deref.ensures.value c.args.v c.in-Some.own.now V W
    c.deref-in-Some.result.now c.deref-in-Some.ensures.value m one (sym c.in-Some.ensures) c.in-Some-at.among.now (sym c.in-Some-at.ensures) c.args.ty.now h
    c.args.parts.now c.deref-in-Some-family_of.result.now c.deref-in-Some-family_of.ensures.value
    (c.covers_of.ensures.yes e p V W Y.0 asked.filled asked.groups m n Y.1 Y.2)

pub returns-in-Some-family_of-clause-no : goal.returns-in-Some-family_of-clause-no
returns-in-Some-family_of-clause-no c = λ e types p V W asked ready m n one two h.
    let Y = its_family p c.args.t.now c.args.g.now types c.args.all.now asked ready c.deref-in-Some-at.result.now c.deref-in-Some-at.ensures.value c.args.w.0
    c.in-Some-family_of.family.0 W n two c.in-Some-family_of.ensures.some in
    c.covers_of.ensures.no e p V W Y.0 asked.filled asked.groups m n Y.1 Y.2
