use Rattle.std.proofs.Common.{◌∙◌}
use Rattle.jn_reach.proofs.Searches.{not_when}
use Rattle.jn_share.proofs.EntryRows.{row_counts, package_counts, class_counts, group_others}
use Rattle.jn_share.proofs.Numbered.{numbered_known}
use Rattle.jn_share.proofs.entries.row_entries.Goals as goal

pub returns-then-not-is_class : goal.returns-then-not-is_class
returns-then-not-is_class c = λ p f groups R at.
    let row = c.row-row.result.now in
    package_counts p R (numbered_known p c.args.t.now R c.args.id f at)
    (not_when c.if-not-is_class.true (c.is_class.ensures p R f at)) c.plus-names.result
    (row_counts p c.args.t.now.known.items R row (c.row-row.ensures p R f.table at) c.len.result c.len-2.result c.len-3.result (c.len.ensures ∙ row.members.ok.0) (c.len-2.ensures ∙ row.methods.ok.0) (c.len-3.ensures ∙ row.fields.ok.0) c.plus.result c.plus-names.result
    (λ m n x y. c.plus.ensures m n x y) (λ m n x y. c.plus-names.ensures m n x y))

pub returns : goal.returns
returns c = λ p f groups R at.
    let row = c.row-row.result.now in
    let class = (c.is_class.ensures p R f at).0 c.if-not-is_class.false in
    class_counts p R (numbered_known p c.args.t.now R c.args.id f at) c.plus-names.result c.others.result c.plus-2.result
    (λ m n x y. c.plus-2.ensures m n x y)
    (row_counts p c.args.t.now.known.items R row (c.row-row.ensures p R f.table at) c.len.result c.len-2.result c.len-3.result (c.len.ensures ∙ row.members.ok.0) (c.len-2.ensures ∙ row.methods.ok.0) (c.len-3.ensures ∙ row.fields.ok.0) c.plus.result c.plus-names.result
    (λ m n x y. c.plus.ensures m n x y) (λ m n x y. c.plus-names.ensures m n x y))
    (group_others p c.args.t.now f c.args.g.now groups c.args.lists.now c.requires.lists c.args.id.0 R at class c.members_of.result.now c.members_of.ensures.are c.others.result
    (c.others.ensures p f))
