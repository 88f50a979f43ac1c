use Rattle.std.proofs.lemmas.Result.{IfOk-weaker}
use Rattle.jn_link.specs.Groups.{AreGroupsFor, GivesGroups}
use Rattle.jn_link.proofs.GroupLaws.{gives_groups}
use Rattle.jn_link.proofs.groups.groups_of.Goals as goal

pub returns-clause-are : goal.returns-clause-are
returns-clause-are c =
    let s = c.args.s.now in
    let firsts = c.args.firsts.now in
    let kinds = c.args.kinds.now in
    let rows = c.args.rows.now in
    IfOk-weaker c.painted_groups.result (AreGroupsFor s firsts kinds rows) (GivesGroups s firsts kinds rows)
    (gives_groups s firsts kinds rows) c.painted_groups.ensures
