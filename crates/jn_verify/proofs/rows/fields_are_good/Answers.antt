use Rattle.std.proofs.Common.{sym, ◌∙◌}
use Rattle.std.proofs.lemmas.List.Folds.{list_all_at}
use Rattle.jn_code.specs.Rows.{field_is_good}
use Rattle.jn_verify.proofs.rows.fields_are_good.Goals as goal

pub returns-then-not-field_is_good : goal.returns-then-not-field_is_good
returns-then-not-field_is_good c =
    sym (list_all_at (field_is_good c.args.image.now c.args.row.now) c.args.entries.now c.loop-entry.entry-index _ c.loop-entry-test.true (sym c.field_is_good.ensures ∙ c.if-not-field_is_good.true))
