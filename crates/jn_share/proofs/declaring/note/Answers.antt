use Rattle.std.proofs.Common.{sym}
use Rattle.jn_share.proofs.FieldEntries.{noted_one, noted_none}
use Rattle.jn_share.proofs.declaring.note.Goals as goal

pub returns-in-Some-clause-notes : goal.returns-in-Some-clause-notes
returns-in-Some-clause-notes c = λ was all.
    noted_one c.args.types.now was c.args.last.now.items c.args.i c.in-Some.x.now (sym c.in-Some.ensures) (c.requires.wide c.args.i c.in-Some.x.now (sym c.in-Some.ensures)) all

pub returns-in_default-clause-notes : goal.returns-in_default-clause-notes
returns-in_default-clause-notes c = λ was all. noted_none c.args.types.now was c.args.last.now.items c.args.i c.in_default.ensures all
