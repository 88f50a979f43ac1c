use Rattle.std.proofs.Common.{List, ℕ, subst}
use Rattle.jn_reach.specs.Each.{Each}
use Rattle.jn_share.specs.Declaring.{UnderName}
use Rattle.jn_share.proofs.Preparing.{decls_right}
use Rattle.jn_share.proofs.prepared.decls_row.Goals as goal

pub returns-clause-decls : goal.returns-clause-decls
returns-clause-decls c =
    decls_right c.args.t.now c.args.types.now c.args.count c.args.own.now c.requires.own c.requires.count c.args.id c.row-row.result.now
    (λ p R f n. c.row-row.ensures p R f.table n) c.deref.result.now c.deref.ensures.value c.deref-4.result.now c.deref-4.ensures.value c.in_ok-mine.mine.items c.in_ok-mine.ensures
    c.deref-2.result.now c.deref-2.ensures.value c.note_all.new.last.items c.in_ok-decls.decls.items c.note_all.ensures.notes
    (subst (λ (xs : List ℕ). Each (UnderName xs) c.deref-4.result.now c.in_ok-decls.decls.items) c.deref-3.ensures.value c.in_ok-decls.ensures)
