use Rattle.std.proofs.Common.{◌≡◌, ◌∷◌, ◌++◌, reverse, subst, sym}
use Rattle.jn_base.specs.declared.tree.Name.{Name}
use Rattle.jn_base.specs.declared.tree.Method.{Method}
use Rattle.jn_base.specs.Atoms.{atom_of}
use Rattle.jn_base.specs.Members.{MethodAt}
use Rattle.jn_base.specs.Paths.{Path}
use Rattle.jn_lower.specs.declared.members.Callee.{Callee}
use Rattle.jn_lower.specs.Told.{IsCallee, MakesBy}
use Rattle.jn_lower.proofs.Seams.{if_ok}
use Rattle.jn_lower.proofs.CtorCodes.{same_head}
use Rattle.jn_lower.proofs.members.constructor_at.Goals as goal

pub returns-in_ok-found-in-Some : goal.returns-in_ok-found-in-Some
returns-in_ok-found-in-Some c =
    let names = c.args.names.now in
    let x = c.args.x.now in
    let Q = reverse c.args.path.now.names in
    let found = c.in_ok-found-in-Some.found in
    if_ok c.without_result.result (λ (y : Callee). (y ≡ found) × (y.kind ≡ 0))
    (λ (y : Callee). (C : Name) (P : Path) (m : Method) → (atom_of x).names ++ (atom_of x).exact ≡ C ∷ P
    → MethodAt c.args.p.now Q C m → MakesBy names C m y)
    (λ y is C P m named at.
    let one : c.in-Some.name ≡ C = same_head ((atom_of x).names ++ (atom_of x).exact) c.in-Some.name C P c.in-Some.ensures named in
    let callee = subst (λ (N : Name). IsCallee names N m found) one
    (c.in_ok-found-in-Some.ensures m (subst (λ (N : Name). MethodAt c.args.p.now Q N m) (sym one) at)) in
    record { callee = subst (λ (z : Callee). IsCallee names C m z) (sym is.0) callee; nothing = is.1 })
    c.without_result.ensures
