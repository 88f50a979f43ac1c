use Rattle.std.proofs.Common.{sym, ◌∙◌, ap, Some}
use Rattle.std.proofs.lemmas.Option.{slice_get-get_or}
use Rattle.jn_closure.proofs.marks.visit_from.Goals as goal

pub returns-clause-added : goal.returns-clause-added
returns-clause-added c = record {
  row = c.index-edges-node.result;
  at = slice_get-get_or _ _ _ c.requires.node ∙ sym (ap Some c.index-edges-node.is);
  adds = rw (← c.deref.ensures.value) c.in_ok-visit_all.ensures.added;
}
