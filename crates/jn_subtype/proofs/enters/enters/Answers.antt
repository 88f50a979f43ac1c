use Rattle.std.proofs.Common.{◌≡◌, ◌↔◌, ◌∙◌, ℕ, List, All, Contains, ap, sym, subst}
use Rattle.std.proofs.lemmas.Result.{IfOk-weaker}
use Rattle.jn_base.specs.declared.types.Anchor.TheVariants.{Up}
use Rattle.jn_base.specs.declared.types.Ty.{Ty}
use Rattle.jn_base.specs.Atoms.{Among, atoms_in}
use Rattle.jn_base.specs.Fits.{Anchored}
use Rattle.jn_intern.specs.declared.scope.Bind.{Bind}
use Rattle.jn_intern.specs.Pools.{scope_in}
use Rattle.jn_subtype.specs.Turns.{Replaces}
use Rattle.jn_subtype.proofs.EnterForms.{among_scope, replaced_older, enters_found, nowhere, unbound_enters}
use Rattle.jn_subtype.proofs.enters.enters.Goals as goal

pub by_type-requires-clause-older : goal.by_type-requires-clause-older
by_type-requires-clause-older c = λ z a.
    let pool : List Ty = c.args.pool.now in
    let scope = c.args.scope.now in
    let w = c.args.w.now in
    let b : Bind = c.in-Some.b in
    let k = c.in-Up.k in
    let known : Contains scope.binds.items b = subst (λ (l : List Bind). Contains l b) c.as_slice.ensures.value c.in-Some.ensures.some.0 in
    let m = among_scope pool scope.binds.items b known in
    let e : w.anchor ≡ Up b.path k = sym c.anchor.ensures ∙ c.in-Up.is ∙ ap (λ (q : ℕ). Up q k) (sym c.in-Some.ensures.some.1) in
    let g : Anchored (scope_in pool scope) (Up b.path k) = subst (Anchored (scope_in pool scope)) e c.requires.anchored in
    replaced_older c.requires.fits m w k e g.1 z (subst (λ (t : Ty). Among (atoms_in t) z) c.show.ensures a)

pub returns-in-None-clause-exact : goal.returns-in-None-clause-exact
returns-in-None-clause-exact c = λ p f.
    let pool : List Ty = c.args.pool.now in
    let binds : List Bind = c.args.scope.now.binds.items in
    let q = c.in-Up.path in
    let none : All (λ (b : Bind). b.path ≡ q → ⊥) binds =
    subst (All (λ (b : Bind). b.path ≡ q → ⊥)) c.as_slice.ensures.value c.in-None.ensures.none in
    nowhere c.new-in-None.result.items c.new-in-None.ensures.items
    (λ t h. unbound_enters pool binds q c.in-Up.k c.args.w.now t (sym c.anchor.ensures ∙ c.in-Up.is) none h)

pub returns-in-Some-clause-exact : goal.returns-in-Some-clause-exact
returns-in-Some-clause-exact c =
    let pool : List Ty = c.args.pool.now in
    let scope = c.args.scope.now in
    let s = scope_in pool scope in
    let w = c.args.w.now in
    let b : Bind = c.in-Some.b in
    let k = c.in-Up.k in
    let known : Contains scope.binds.items b = subst (λ (l : List Bind). Contains l b) c.as_slice.ensures.value c.in-Some.ensures.some.0 in
    let m = among_scope pool scope.binds.items b known in
    let e : w.anchor ≡ Up b.path k = sym c.anchor.ensures ∙ c.in-Up.is ∙ ap (λ (q : ℕ). Up q k) (sym c.in-Some.ensures.some.1) in
    IfOk-weaker c.by_type.result _ _
    (λ ts h p f. enters_found w k ts.items c.requires.fits m e
    (λ t. subst (λ (y : Ty). Contains ts.items t ↔ Replaces p s (atoms_in y) k w t) c.show.ensures (h p f t)))
    c.by_type.ensures.exact
