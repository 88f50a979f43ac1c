use Rattle.std.proofs.Common.{◌≡◌, List, All, Contains, sym, subst, ap, ◌∙◌}
use Rattle.jn_base.specs.declared.types.Ty.{Ty}
use Rattle.jn_rules.specs.Questions.{masks_of}
use Rattle.jn_intern.specs.declared.scope.Bind.{Bind}
use Rattle.jn_intern.specs.Pools.{bind_in, scope_in}
use Rattle.jn_subtype.proofs.EnterForms.{among_scope, no_bind}
use Rattle.jn_expr.proofs.Scopes.{bound_masks, unbound_masks}
use Rattle.jn_expr.proofs.values.present_masks.Goals as goal

pub returns-in-None : goal.returns-in-None
returns-in-None c =
    let pool : List Ty = c.args.pool.now in
    let binds : List Bind = c.args.scope.now.binds.items in
    let none : All (λ (b : Bind). b.path ≡ c.args.path → ⊥) binds =
    subst (All (λ (b : Bind). b.path ≡ c.args.path → ⊥)) c.as_slice.ensures.value c.in-None.ensures.none in
    sym (unbound_masks (scope_in pool c.args.scope.now) c.args.path (no_bind pool binds c.args.path none))

pub returns-in-Some : goal.returns-in-Some
returns-in-Some c =
    let pool : List Ty = c.args.pool.now in
    let scope = c.args.scope.now in
    let b : Bind = c.in-Some.bind in
    let known : Contains scope.binds.items b = subst (λ (l : List Bind). Contains l b) c.as_slice.ensures.value c.in-Some.ensures.some.0 in
    c.masks_of.ensures ∙ (ap masks_of c.show.ensures
    ∙ sym (bound_masks (scope_in pool scope) (bind_in pool b) c.args.path c.requires.fits (among_scope pool scope.binds.items b known) c.in-Some.ensures.some.1))
