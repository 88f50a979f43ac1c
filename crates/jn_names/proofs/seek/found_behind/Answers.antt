use Rattle.std.proofs.Common.{◌≡◌, ◌∙◌, ◌∷◌, ap, drop, subst, Option}
use Rattle.jn_base.specs.declared.tree.Name.{Name}
use Rattle.jn_base.specs.Paths.{Path}
use Rattle.jn_base.specs.Resolve.{FirstUnknown}
use Rattle.jn_names.proofs.Sought.{first_found, first_lost}
use Rattle.jn_names.proofs.seek.found_behind.Goals as goal

pub returns-in-None : goal.returns-in-None
returns-in-None c = λ p f fo.
    let e : c.push.new.self ≡ c.args.name ∷ drop c.args.k c.args.class.now = c.in_ok-push.ensures
    ∙ ap (λ (B : Path). c.args.name ∷ B) c.in_ok-at.ensures in
    first_found p c.args.class.now c.args.name c.args.others.now c.args.k c.push.new.self e fo
    (subst (λ (o : Option Name). FirstUnknown p c.push.new.self c.args.others.now o) c.in-None.is
    (c.in_ok-first_unknown.ensures p f))

pub returns : goal.returns
returns c = λ p f fo.
    let e : c.push.new.self ≡ c.args.name ∷ drop c.args.k c.args.class.now = c.in_ok-push.ensures
    ∙ ap (λ (B : Path). c.args.name ∷ B) c.in_ok-at.ensures in
    first_lost p c.args.class.now c.args.name c.in-Some.unknown c.args.others.now c.args.k c.push.new.self e fo
    (subst (λ (o : Option Name). FirstUnknown p c.push.new.self c.args.others.now o) c.in-Some.is
    (c.in_ok-first_unknown.ensures p f))
