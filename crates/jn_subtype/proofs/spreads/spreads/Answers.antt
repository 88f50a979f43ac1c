use Rattle.std.proofs.Common.{◌≡◌, ◌↔◌, ◌∙◌, ℕ, List, [], Contains, length, drop, refl, sym, ap, subst}
use Rattle.std.proofs.lemmas.List.{length-reverse}
use Rattle.jn_base.specs.Paths.{Path}
use Rattle.jn_base.specs.Supers.{Sup}
use Rattle.jn_base.specs.Atoms.{Atom}
use Rattle.jn_base.specs.Scopes.{bound}
use Rattle.jn_intern.specs.Pools.{scope_in}
use Rattle.jn_subtype.specs.Turns.{Adds}
use Rattle.jn_subtype.proofs.Addings.{FromOne, adds_first, adds_more, adds_whole, adds_all, all_from}
use Rattle.jn_subtype.proofs.SpreadForms.{HasOuter, spreads_found}
use Rattle.jn_subtype.proofs.spreads.spreads.Goals as goal

pub loop-above-init : goal.loop-above-init
loop-above-init c =
    let z = c.args.z.now in
    let R = HasOuter z (drop (length z.names) (bound (scope_in c.args.pool.now c.args.scope.now) z)) in
    subst (Adds (FromOne R []) []) (sym c.new-all.ensures.items) (adds_first R [])

pub loop-above-preserved : goal.loop-above-preserved
loop-above-preserved c =
    let z = c.args.z.now in
    let b = bound (scope_in c.args.pool.now c.args.scope.now) z in
    let few : length c.names.result.now ≡ length z.names = sym (length-reverse c.names.result.now) ∙ ap length c.names.ensures in
    let outer : c.in_ok-outer.outer ≡ drop (length z.names) b =
    c.in_ok-outer.ensures ∙ ap (λ (n : ℕ). drop n c.in_ok-b.b) few ∙ ap (drop (length z.names)) c.in_ok-b.ensures in
    adds_more (HasOuter z (drop (length z.names) b)) c.as_slice-above-items.result.now c.loop-above.above-index c.above-item.result []
    c.loop-above.all.items c.add_spread.new.all.items c.loop-above-test.true c.above-item.is c.loop-above.invariant
    (subst (λ (P : Path). Adds (HasOuter z P c.above-item.result) c.loop-above.all.items c.add_spread.new.all.items) outer c.in_ok-add_spread.ensures)

pub returns-clause-exact : goal.returns-clause-exact
returns-clause-exact c = λ p f.
    let z = c.args.z.now in
    let b = bound (scope_in c.args.pool.now c.args.scope.now) z in
    let outer = drop (length z.names) b in
    let supers = c.as_slice-above-items.result.now in
    let all : List Path = c.in_ok-supers.supers.items in
    let each : (S : Path) → Contains supers S ↔ Sup p b S = λ S.
    subst (λ (l : List Path). Contains l S ↔ Sup p b S) (sym c.as_slice-above-items.ensures.value)
    (subst (λ (B : Path). Contains all S ↔ Sup p B S) c.in_ok-b.ensures ((c.in_ok-supers.ensures p f).exact S)) in
    spreads_found z outer supers c.loop-above.all.items each refl
    (adds_whole (HasOuter z outer) supers c.loop-above.above-index [] c.loop-above.all.items c.loop-above-test.false c.loop-above.invariant)

pub returns-clause-anchors : goal.returns-clause-anchors
returns-clause-anchors c =
    let z = c.args.z.now in
    all_from (λ (w : Atom). w.anchor ≡ z.anchor) c.loop-above.all.items
    (λ w h. ap (λ (t : Atom). t.anchor) ((adds_all c.loop-above.invariant w).0 h).by.1)
