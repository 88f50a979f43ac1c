use Rattle.std.proofs.Common.{◌≡◌, subst, ◌∷◌, ap, ◌∙◌, drop, arith}
use Rattle.jn_base.specs.Paths.{Path}
use Rattle.jn_base.specs.Universe.{InUniverse}
use Rattle.jn_reach.proofs.Searches.{not_when}
use Rattle.jn_names.proofs.Known.{out_found, out_more, out_nowhere}
use Rattle.jn_names.proofs.seek.found_out.Goals as goal

pub returns-then-is_known : goal.returns-then-is_known
returns-then-is_known c = λ p f.
    let e : c.push.new.self ≡ c.args.name ∷ drop c.loop-k.k c.args.class.now = c.in_ok-push.ensures
    ∙ ap (λ (B : Path). c.args.name ∷ B) c.in_ok-at.ensures in
    out_found p c.args.class.now c.args.name c.loop-k.k (omega arith) (λ j l. c.loop-k.invariant p j f l)
    (subst (InUniverse p) e ((c.is_known.ensures p f).0 c.if-is_known.true))

pub loop-k-preserved : goal.loop-k-preserved
loop-k-preserved c = λ p j f.
    let e : c.push.new.self ≡ c.args.name ∷ drop c.loop-k.k c.args.class.now = c.in_ok-push.ensures
    ∙ ap (λ (B : Path). c.args.name ∷ B) c.in_ok-at.ensures in
    out_more p c.args.class.now c.args.name c.loop-k.k (λ j l. c.loop-k.invariant p j f l)
    (subst (λ (B : Path). InUniverse p B → ⊥) e (not_when c.if-is_known.false (c.is_known.ensures p f))) j

pub returns-else-is_known : goal.returns-else-is_known
returns-else-is_known c = λ p f.
    let e : c.push.new.self ≡ c.args.name ∷ drop c.loop-k.k c.args.class.now = c.in_ok-push.ensures
    ∙ ap (λ (B : Path). c.args.name ∷ B) c.in_ok-at.ensures in
    out_nowhere p c.args.class.now c.args.name c.loop-k.k (omega arith)
    (out_more p c.args.class.now c.args.name c.loop-k.k (λ j l. c.loop-k.invariant p j f l)
    (subst (λ (B : Path). InUniverse p B → ⊥) e (not_when c.if-is_known.false (c.is_known.ensures p f))))
