use Rattle.std.proofs.Common.{subst, sym, List, ℕ, length}
use Rattle.jn_reach.specs.Graph.{Lists}
use Rattle.jn_share.specs.Prepared.{FamiliesTo}
use Rattle.jn_layout.specs.declared.pairs.Pair.{Pair}
use Rattle.jn_layout.specs.Kin.{FirstAt}
use Rattle.jn_layout.specs.RowLists.{AreMemberEntries, AreMethodEntries, AreFieldEntries, AreOtherEntries}
use Rattle.jn_layout.proofs.RowLaws.{row_right}
use Rattle.jn_layout.proofs.rows.class_row.Goals as goal

pub returns : goal.returns
returns c = λ m g s names p n asked R made i are.
    let t = c.args.t.now in
    let filled = asked.parts.filled in
    let classes = asked.naming.classes in
    let families = subst (λ (xs : List ℕ). FamiliesTo t.known.items (length t.known.items) xs) (sym c.deref-5.ensures.value) (made.families p filled) in
    let firsts = subst (λ (xs : List ℕ). Lists (FirstAt p t.known.items) xs) (sym c.deref-6.ensures.value) (made.firsts p g filled asked.parts.groups made.kin) in
    row_right p t m g s names n asked c.args.id R i c.args.pairs.now are _
    (subst (λ (xs : List Pair). AreMemberEntries xs c.in_ok-members.members) c.deref.ensures.value c.in_ok-members.ensures)
    (subst (λ (xs : List Pair). AreMethodEntries xs c.in_ok-methods.methods) c.deref-2.ensures.value c.in_ok-methods.ensures)
    (subst (λ (xs : List Pair). AreFieldEntries xs c.in_ok-fields.fields) c.deref-3.ensures.value c.in_ok-fields.ensures)
    (subst (λ (xs : List Pair). AreOtherEntries xs c.in_ok-others.others) c.deref-4.ensures.value c.in_ok-others.ensures)
    (c.up_of-up.ensures p t n R classes (c.row.ensures p R filled.table i))
    (λ Y y. c.family_of-family.ensures t p n filled classes families R Y i y)
    (c.group_of-group.ensures p g filled asked.parts.groups made.kin n R firsts asked.naming.groups asked.few.groups i)
