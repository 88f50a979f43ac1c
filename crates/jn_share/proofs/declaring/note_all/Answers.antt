use Rattle.std.proofs.Common.{List, ℕ, take, sym, subst, ◌∙◌}
use Rattle.std.proofs.lemmas.List.{take_all}
use Rattle.jn_share.specs.Declaring.{Noted}
use Rattle.jn_share.proofs.FieldEntries.{any_default}
use Rattle.jn_share.proofs.Walk.{take_one}
use Rattle.jn_share.proofs.declaring.note_all.Goals as goal

pub loop-i-preserved : goal.loop-i-preserved
loop-i-preserved c = record {
  long = c.note.ensures.long ∙ c.loop-i.invariant.long;
  noted = subst (λ (was : List ℕ). Noted c.args.types.now was c.note.new.last.items)
      (sym (take_one c.args.is.now c.loop-i.i-index _ c.loop-i-test.true (any_default c.args.is.now c.loop-i.i-index 0 _ c.loop-i-test.true)))
      (c.note.ensures.notes (take c.loop-i.i-index c.args.is.now) c.loop-i.invariant.noted);
}

pub returns-clause-notes : goal.returns-clause-notes
returns-clause-notes c = subst (λ (was : List ℕ). Noted c.args.types.now was c.loop-i.last.items) (take_all c.loop-i.i-index c.args.is.now c.loop-i-test.false) c.loop-i.invariant.noted
