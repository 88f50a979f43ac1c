use Rattle.std.proofs.Common.{◌≡◌, ◌↔◌, sym, reverse, List, Some, IsTrue, subst}
use Rattle.std.proofs.lemmas.Result.{IfOk-weaker}
use Rattle.jn_base.specs.declared.tree.Name.{Name}
use Rattle.jn_sem.specs.Sharing.{family_of}
use Rattle.jn_sem.specs.NotFamily.{in_list, Lacks}
use Rattle.jn_share.specs.Listing.{listing_of}
use Rattle.jn_share.proofs.Refusing.{not_top, by_lack}
use Rattle.jn_share.proofs.families.is_refused.Goals as goal

pub returns-then-not-branch : goal.returns-then-not-branch
returns-then-not-branch c = λ p X f e.
    not_top p c.args.x.now c.in_ok-is_family.field-0 (c.in_ok-is_family.ensures p f) c.if-not-branch.true

pub returns : goal.returns
returns c =
    IfOk-weaker c.lacks.result _ _
    (λ b h. λ p X f e.
    let x = c.args.x.now in
    let g = subst (λ (ns : List Name). family_of (reverse ns) ≡ Some X) (sym c.as_slice.ensures) e in
    by_lack p x c.in_ok-is_family.field-0 (c.in_ok-is_family.ensures p f) c.if-not-branch.false b
    (subst (λ (ns : List Name). IsTrue b ↔ Lacks p (in_list (reverse ns) (listing_of x.list) x.name)) c.as_slice.ensures (h p X f g)))
    c.lacks.ensures
