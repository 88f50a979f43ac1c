use Rattle.std.proofs.Common.{refl, subst, Option}
use Rattle.jn_base.specs.declared.types.Atom.{Atom as ShownAtom}
use Rattle.jn_sem.specs.Sets.{no_views}
use Rattle.jn_meaning.specs.Seen.{views_of, IsRooted}
use Rattle.jn_meaning.proofs.Rooted.{rooted_atom}
use Rattle.jn_meaning.proofs.seen.is_in_atom.Goals as goal

pub returns-in-Some : goal.returns-in-Some
returns-in-Some c = λ p U f n.
    let known = c.args.t.now.known.items in
    let s = c.args.seen.now in
    rooted_atom p (views_of known s) U c.args.x.now c.in-Some.y c.in_atom.result
    (subst (λ (o : Option ShownAtom). IsRooted known s c.args.x.now o) c.in-Some.is c.in_ok-rooted.ensures)
    (c.in_atom.ensures p no_views U f refl n)
