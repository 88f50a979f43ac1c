use Rattle.std.proofs.Common.{length, ◌-◌, rules}
use Rattle.jn_meaning.proofs.NewObjects.{no_last, last_told}
use Rattle.jn_meaning.proofs.creating.last_name.Goals as goal

pub returns-then-is_empty : goal.returns-then-is_empty
returns-then-is_empty c =
    no_last c.args.t.now.known.items c.args.id c.names_at-names.result.now c.names_at-names.ensures (search rules)

pub returns : goal.returns
returns c =
    last_told c.args.t.now.known.items c.args.id c.names_at-names.result.now c.names_at-names.ensures (length c.names_at-names.result.now - 1) _ (search rules) (search rules)
