use Rattle.std.proofs.Common.{◌≡◌, ◌∙◌, ap, sym, subst, List, ◌∷◌}
use Rattle.jn_base.specs.declared.tree.Name.{Name}
use Rattle.jn_base.specs.Paths.{Path}
use Rattle.jn_rules.specs.Plans.{Plan, Nothing, in_turn}
use Rattle.jn_rules.specs.Questions.{Gives}
use Rattle.jn_heads.specs.Told.{Told, itself}
use Rattle.jn_header.specs.Listed.{HasName}
use Rattle.jn_header.proofs.Families.{adapted, shared}
use Rattle.jn_header.proofs.listed.judge_listed.Goals as goal

pub returns-then-depth-eq0 : goal.returns-then-depth-eq0
returns-then-depth-eq0 c = λ p f.
    let C : Name = c.args.d.now.name.name in
    let e : c.push.new.self ≡ C ∷ c.args.namespace.now = c.in_ok-push.ensures ∙ ap (λ (R : Path). C ∷ R) c.in_ok-class.ensures in
    let has : HasName c.push.new.self = record { name = C; space = c.args.namespace.now; is = e } in
    subst (λ (xs : List (Plan Nothing)). Told {B = Nothing} (Gives p (in_turn xs)) itself c.judge_names.result)
    (adapted C c.push.new.self c.args.namespace.now c.args.d.now.shares c.args.d.now.adapts _ e (sym c.depth.ensures ∙ c.if-depth-eq0.true) c.as_slice.ensures)
    (c.judge_names.ensures p f has)

pub returns : goal.returns
returns c = λ p f.
    let C : Name = c.args.d.now.name.name in
    let e : c.push.new.self ≡ C ∷ c.args.namespace.now = c.in_ok-push.ensures ∙ ap (λ (R : Path). C ∷ R) c.in_ok-class.ensures in
    let has : HasName c.push.new.self = record { name = C; space = c.args.namespace.now; is = e } in
    subst (λ (xs : List (Plan Nothing)). Told {B = Nothing} (Gives p (in_turn xs)) itself c.judge_names-2.result)
    (shared C c.push.new.self c.args.namespace.now c.args.d.now.shares c.args.d.now.adapts _ e (λ z. c.if-depth-eq0.false (c.depth.ensures ∙ z)) c.as_slice-2.ensures)
    (c.judge_names-2.ensures p f has)
