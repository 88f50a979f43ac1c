use Rattle.std.proofs.Common.{length, refl, sym}
use Rattle.std.proofs.lemmas.Bool.{ltb-true}
use Rattle.std.proofs.lemmas.Option.{slice_get_read}
use Rattle.jn_base.specs.Paths.{fields}
use Rattle.jn_expr.specs.Found.{field_name}
use Rattle.jn_expr.proofs.Naming.{fields_split, named_here}
use Rattle.jn_expr.proofs.lookup.field_here.Goals as goal

pub returns-in-Some : goal.returns-in-Some
returns-in-Some c =
    let ms = c.args.members.now in
    let found = c.in-Some.ensures.lookup in
    named_here fields field_name fields_split ms _ c.in-Some.m.now c.args.name _
    (slice_get_read ms (length ms) _ c.in-Some.m.now refl (ltb-true _ _ (sym found.0)) found.1) c.field_named.ensures
