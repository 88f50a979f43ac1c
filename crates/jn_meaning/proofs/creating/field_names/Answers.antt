use Rattle.std.proofs.Common.{◌∙◌}
use Rattle.jn_meaning.specs.Values.{path_at}
use Rattle.jn_meaning.proofs.ClassNumbers.{class_number}
use Rattle.jn_meaning.proofs.Lists.{if_ok}
use Rattle.jn_meaning.proofs.NewObjects.{row_names}
use Rattle.jn_meaning.proofs.creating.field_names.Goals as goal

pub returns : goal.returns
returns c =
    let p = c.args.w.now.program.now in
    let known = c.args.t.now.known.items in
    let V = path_at known c.args.id in
    let is = c.row.ensures p V c.requires.stands.filled.table (class_number p known c.args.id c.requires.class) in
    if_ok c.from_slice.result (λ names e. row_names p known V c.row.result.now names is (e ∙ c.deref.ensures.value)) c.from_slice.ensures
