use Rattle.std.proofs.Common.{ℕ, List, [], ◌∷◌, ◌++◌, get_or, sym, subst, take}
use Rattle.std.proofs.lemmas.List.{take_more}
use Rattle.jn_reach.specs.Each.{Each}
use Rattle.jn_reach.proofs.Eachs.{Each-none, Each-push}
use Rattle.jn_code.specs.declared.image.Group.{Group}
use Rattle.jn_link.specs.Groups.{IsBlankFor}
use Rattle.jn_link.proofs.groups.blanks.Goals as goal

pub loop-k-init : goal.loop-k-init
loop-k-init c = Each-none (IsBlankFor c.args.s.now) c.new-all.result.items c.new-all.ensures.items

pub loop-k-preserved : goal.loop-k-preserved
loop-k-preserved c =
    let xs = c.args.firsts.now in
    let i = c.loop-k.k-index in
    let R = IsBlankFor c.args.s.now in
    subst (λ (ks : List ℕ). Each R ks c.push.new.self.items) (sym (take_more xs i 0 c.loop-k-test.true))
    (subst (λ (gs : List Group). Each R (take i xs ++ get_or xs i 0 ∷ []) gs) (sym c.in_ok-push.ensures.items)
    (Each-push R c.loop-k.invariant c.in_ok-group.ensures))
