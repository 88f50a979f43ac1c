use Rattle.std.proofs.Common.{◌∙◌, ap, reverse, List, slice_get}
use Rattle.std.proofs.lemmas.Result.{IfOk-weaker}
use Rattle.jn_base.specs.declared.path.Path.{Path}
use Rattle.jn_expr.proofs.Finding.{path_is}
use Rattle.jn_expr.proofs.members.path_of_number.Goals as goal

pub returns-in-Some : goal.returns-in-Some
returns-in-Some c =
    IfOk-weaker c.of.result _ _
    (λ b h R n. path_is c.args.table.now.known.items c.args.id R c.in-Some.path.now b (c.in-Some.ensures ∙ ap (λ (l : List Path). slice_get l c.args.id.0) c.known.ensures) n
    (h ∙ ap reverse c.as_slice.ensures))
    c.of.ensures
