use Rattle.std.proofs.Common.{reverse, subst}
use Rattle.jn_base.specs.declared.tree.Field.{Field}
use Rattle.jn_base.specs.Members.{FieldAt}
use Rattle.jn_base.proofs.Unique.{one_field_at}
use Rattle.jn_lower.specs.declared.members.Getter.{Getter}
use Rattle.jn_lower.specs.Told.{IsGetter}
use Rattle.jn_lower.proofs.Seams.{if_ok}
use Rattle.jn_lower.proofs.members.getter_at.Goals as goal

pub returns-in-Some : goal.returns-in-Some
returns-in-Some c =
    let t = c.args.t.now in
    let s = c.args.s.now in
    let names = c.args.names.now in
    let f = c.args.f in
    let Q = reverse c.args.path.now.names in
    if_ok c.getter_of.result (IsGetter t s names Q f c.in-Some.field.now)
    (λ (x : Getter). (field : Field) → FieldAt c.args.p.now Q f field → IsGetter t s names Q f field x)
    (λ x is field at. subst (λ (d : Field). IsGetter t s names Q f d x)
    (one_field_at c.args.p.now c.requires Q f c.in-Some.field.now field c.in-Some.ensures at) is)
    c.getter_of.ensures
