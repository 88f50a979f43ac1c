use Rattle.std.proofs.Common.{reverse, ◌∙◌, sym, ap, [], ◌∷◌}
use Rattle.std.proofs.lemmas.Result.{IfOk-weaker}
use Rattle.jn_base.specs.declared.tree.Name.{Name}
use Rattle.jn_reach.proofs.Searches.{same_some}
use Rattle.jn_sem.specs.Sharing.{family_of}
use Rattle.jn_share.proofs.Names.{first_family, unnamed}
use Rattle.jn_share.proofs.paths.family_of.Goals as goal

pub returns-in-None : goal.returns-in-None
returns-in-None c = λ X f. absurd (unnamed c.args.names.now X (sym c.in-None.ensures) f)

pub returns-in-Some : goal.returns-in-Some
returns-in-Some c =
    IfOk-weaker c.family.result _ _
    (λ b h. λ X f. h ∙ ap (λ (n : Name). n ∷ []) (same_some (family_of (reverse c.args.names.now)) c.in-Some.name.now X (first_family c.args.names.now c.in-Some.name.now (sym c.in-Some.ensures)) f))
    c.family.ensures
