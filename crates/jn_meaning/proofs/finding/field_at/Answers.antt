use Rattle.std.proofs.Common.{subst, sym, List}
use Rattle.std.specs.Option.{option_copied}
use Rattle.jn_base.specs.declared.tree.Member.{Member}
use Rattle.jn_base.specs.Paths.{Path, StandsAt, fields}
use Rattle.jn_meaning.specs.Values.{path_at}
use Rattle.jn_meaning.specs.Tells.{Tells, IsFieldNamed}
use Rattle.jn_meaning.proofs.ClassNumbers.{path_read}
use Rattle.jn_meaning.proofs.Named.{field_in_decl}
use Rattle.jn_meaning.proofs.finding.field_at.Goals as goal

pub returns-in-Some-decl_near : goal.returns-in-Some-decl_near
returns-in-Some-decl_near c =
    let p = c.args.p.now in
    let known = c.args.t.now.known.items in
    let here = path_read known c.known.result.now c.args.id c.in-Some.path.now c.known.ensures c.in-Some.ensures in
    field_in_decl p c.requires (path_at known c.args.id) c.in-Some-decl_near.decl.now c.args.f
    (option_copied c.field_named.result)
    (subst (λ (Q : Path). StandsAt p Q c.in-Some-decl_near.decl.now) (sym here) c.in-Some-decl_near.ensures)
    (subst (λ (ms : List Member). Tells (IsFieldNamed (fields ms) c.args.f) (option_copied c.field_named.result))
    c.as_slice.ensures c.field_named.ensures)
