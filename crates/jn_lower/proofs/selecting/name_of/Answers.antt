use Rattle.std.proofs.Common.{◌++◌, reverse, ap, subst}
use Rattle.std.specs.Prelude.{Some}
use Rattle.jn_lower.specs.Selecting.{HeadIs}
use Rattle.jn_lower.proofs.selecting.name_of.Goals as goal

pub returns-in-Some : goal.returns-in-Some
returns-in-Some c =
    let h = subst (λ xs. HeadIs (reverse xs) (Some c.in-Some.name)) c.as_slice.ensures c.in-Some.ensures in
    (h.0 ++ reverse c.args.x.now.exact, ap (λ zs. zs ++ reverse c.args.x.now.exact) h.1)
