use Rattle.std.proofs.Common.{◌≡◌, sym, ◌∙◌}
use Rattle.jn_reach.proofs.Searches.{iff_true, iff_false}
use Rattle.jn_base.specs.declared.tree.Kind.{Kind}
use Rattle.jn_base.specs.declared.tree.Kind.TheVariants as kind
use Rattle.jn_table.specs.declared.class.ClassId.{ClassId}
use Rattle.jn_share.proofs.Numbered.{numbered_known}
use Rattle.jn_layout.proofs.kin.has_class_row.Goals as goal

pub returns-in-Class : goal.returns-in-Class
returns-in-Class c = λ p R f n.
    let id : ClassId = record { 0 = c.args.k } in
    let row = c.row.ensures p R f.table n in
    iff_true (record { universe = numbered_known p c.args.t.now R id f n; kind = (row.kind kind.Class).1 (sym c.in-Class.is) })

pub returns-in-Package : goal.returns-in-Package
returns-in-Package c = λ p R f n.
    iff_false (λ h.
    let row = c.row.ensures p R f.table n in
    let e : ◌≡◌ {A = Kind} kind.Class kind.Package = (row.kind kind.Class).0 h.kind ∙ c.in-Package.is in
    cc e)
