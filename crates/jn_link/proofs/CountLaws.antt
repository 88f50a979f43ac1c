-- The laws of what the verdict grants, and of counts.
use Rattle.jn_place_laws.proofs.Declared.{declared}
use Rattle.jn_link.specs.LawsOfCounts.{VerdictGrantsRows, SelectorsAreFew, EntriesAreFew}
use Rattle.jn_link.proofs.Counts.{methods_short, shapes_in_form, few_fields, kinds_in_form}
use Rattle.jn_link.proofs.Entries.{few_entries}
use Rattle.jn_link.proofs.Granted as granted

pub verdict_grants_rows : VerdictGrantsRows
verdict_grants_rows = granted.granted

pub selectors_are_few : SelectorsAreFew
selectors_are_few p bytes text ok names are only = record {
  methods = methods_short p names.methods names.fields only are.method_once;
  fields = few_fields p names.methods names.fields only (granted.own_type p bytes text ok)
      (granted.once p bytes text ok)
      are.field_once;
  shapes = shapes_in_form p names.methods names.fields only (λ b c.
      (granted.within p bytes text ok).limits.params b.class b.method.name.name b.method (declared p b c));
  kinds = kinds_in_form p names.methods names.fields only (granted.own_type p bytes text ok);
}

pub entries_are_few : EntriesAreFew
entries_are_few p t m g s names n asked rows right few = few_entries p t m g s names n asked rows right few
