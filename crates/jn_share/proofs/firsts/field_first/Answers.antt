use Rattle.std.proofs.Common.{◌≡◌, sym, subst}
use Rattle.jn_share.proofs.FieldRows.{hangs_is}
use Rattle.jn_share.specs.Prepared.{IsDecl}
use Rattle.jn_share.proofs.firsts.field_first.Goals as goal

pub returns-clause-is : goal.returns-clause-is
returns-clause-is c = λ p V asked ready at one settled related d e i.
    let same : c.or_zero-d.result ≡ d = c.or_zero-d.ensures d e in
    let here = subst (IsDecl p c.args.t.now.known.items c.args.types.now.list.items V c.args.field) (sym same) i in (
      c.first_same.ensures p V asked ready at one settled related here,
      hangs_is p asked.declarations asked.passes c.args.t.now.known.items c.args.types.now.list.items V c.args.field c.or_zero-d.result one here c.hangs_at.result c.hangs_at.ensures,
    )
