use Rattle.std.proofs.Common.{Some, subst, sym, List, drop, get_or, ◌∷◌, ◌+◌}
use Rattle.jn_base.specs.declared.tree.Name.{Name}
use Rattle.jn_base.specs.Paths.{Path}
use Rattle.jn_base.specs.Universe.{InUniverse}
use Rattle.jn_base.specs.Resolve.{FirstUnknown}
use Rattle.jn_reach.proofs.Searches.{not_when}
use Rattle.jn_names.proofs.Turned.{at_place}
use Rattle.jn_names.proofs.Known.{step_known, step_unknown}
use Rattle.jn_names.proofs.seek.first_unknown.Goals as goal

pub loop-name-init : goal.loop-name-init
loop-name-init c = λ p o f h. subst (λ (B : Path). FirstUnknown p B c.args.names.now o) c.in_ok-at.ensures h

pub returns-then-not-is_known : goal.returns-then-not-is_known
returns-then-not-is_known c = λ p f.
    let N : Name = get_or c.args.names.now c.loop-name.name-index record { 0 = 0 } in
    let none : InUniverse p c.push.new.self → ⊥ = not_when c.if-not-is_known.true (c.is_known.ensures p f) in
    c.loop-name.invariant p (Some N) f
    (subst (λ (ns : List Name). FirstUnknown p c.loop-name.at ns (Some N))
    (sym (at_place c.args.names.now c.loop-name.name-index record { 0 = 0 } c.loop-name-test.true))
    (step_unknown p c.loop-name.at N _ (subst (λ (B : Path). InUniverse p B → ⊥) c.in_ok-push.ensures none)))

pub loop-name-preserved : goal.loop-name-preserved
loop-name-preserved c = λ p o f h.
    let N : Name = get_or c.args.names.now c.loop-name.name-index record { 0 = 0 } in
    let known : InUniverse p (N ∷ c.loop-name.at) = subst (InUniverse p) c.in_ok-push.ensures
    ((c.is_known.ensures p f).0 c.if-not-is_known.false) in
    c.loop-name.invariant p o f
    (subst (λ (ns : List Name). FirstUnknown p c.loop-name.at ns o)
    (sym (at_place c.args.names.now c.loop-name.name-index record { 0 = 0 } c.loop-name-test.true))
    (step_known p c.loop-name.at N _ o known
    (subst (λ (B : Path). FirstUnknown p B (drop (c.loop-name.name-index + 1) c.args.names.now) o) c.in_ok-push.ensures
    h)))
