use Rattle.std.proofs.Common.{sym, subst, List, ℕ}
use Rattle.jn_reach.specs.Pairs.{AreMembers}
use Rattle.jn_sem.specs.NotFamily.{Listed, listed_names}
use Rattle.jn_share.specs.Pairing.{ArePairs, AreByFamily}
use Rattle.jn_share.proofs.Making.{by_family}
use Rattle.jn_share.proofs.groups.links_of.Goals as goal

pub returns-clause-members : goal.returns-clause-members
returns-clause-members c = subst (λ (fs : List ℕ). AreMembers fs c.in_ok-members.members.items) c.deref-3.ensures.value c.in_ok-members.ensures.exact

pub returns-clause-links : goal.returns-clause-links
returns-clause-links c = λ p f all e.
    let known = c.args.t.now.known.items in
    let classes : AreByFamily known c.deref.result.now =
    subst (AreByFamily known) (sym c.deref.ensures.value) (by_family known c.args.families.now c.in_ok-classes.classes.items all c.in_ok-classes.ensures.exact c.requires) in
    let pairs : ArePairs p known (listed_names p) c.deref-2.result.now =
    subst (λ (ps : List (ℕ × ℕ)). ArePairs p known (listed_names p) ps) (sym c.deref-2.ensures.value)
    (subst (λ (xs : List Listed). ArePairs p known xs c.in_ok-pairs.pairs.items) e (c.in_ok-pairs.ensures.exact p f classes)) in
    c.in_ok-firsts.ensures.links p f pairs
