use Rattle.std.proofs.Common.{◌∙◌, ap, suc, ℕ}
use Rattle.jn_heads.proofs.Parameters.{param_added}
use Rattle.jn_heads.proofs.params.add_param.Goals as goal

pub returns-in_ok-push-in-Some-2-clause-told : goal.returns-in_ok-push-in-Some-2-clause-told
returns-in_ok-push-in-Some-2-clause-told c =
    param_added c.args.p.now c.requires.ready.shallow _ _ c.args.at.now c.args.param.now c.in-Ok.id c.requires.stands c.in-Ok.ensures.keeps c.in-Ok.ensures.number c.in-Ok.ensures.told
    c.in-Some.path c.in_ok-ty-in-Some.ty _ _ (c.in-Some.ensures ∙ ap (λ (n : ℕ). suc n) c.len.ensures) (c.in_ok-ty-in-Some.ensures ∙ c.show.ensures)
    c.in_ok-push-in-Some.ensures.ok c.in_ok-push-in-Some-2.ensures.items
