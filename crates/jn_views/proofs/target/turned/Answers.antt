use Rattle.std.proofs.Common.{List, length, refl, ap, arith}
use Rattle.std.proofs.lemmas.Option.{slice_get_within}
use Rattle.jn_base.specs.declared.path.Path.{Path as ShownPath}
use Rattle.jn_base.specs.Atoms.{atom_of}
use Rattle.jn_reach.proofs.Searches.{not_when}
use Rattle.jn_sem.specs.Sets.{no_views}
use Rattle.jn_views.proofs.Targets.{no_turns, turns_not, turns_to, turns_outside}
use Rattle.jn_views.proofs.target.turned.Goals as goal
use Rattle.jn_views.proofs.target.turned.Goals.{else-w-known-via-then-w-known+else-in_atom, else-w-known-via-else-w-known}

pub returns-in-None-clause-told : goal.returns-in-None-clause-told
returns-in-None-clause-told c = λ p U f g at. no_turns p c.args.t.now f c.args.g.now g (atom_of c.args.to.now) c.args.u U at c.args.family c.in-None.is c.requires

pub returns-in-None-counterpart-clause-told : goal.returns-in-None-counterpart-clause-told
returns-in-None-counterpart-clause-told c = λ p U f g at.
    turns_not p c.args.t.now f c.args.g.now g (atom_of c.args.to.now) c.args.u U at c.args.family c.in-Some.family c.in-Some.is c.requires c.counterpart.result c.counterpart.ensures
    c.in-None-counterpart.is

pub returns-then-in_atom-clause-told : goal.returns-then-in_atom-clause-told
returns-then-in_atom-clause-told c = λ p U f g at.
    turns_to p c.args.t.now f c.args.g.now g (atom_of c.args.to.now) c.args.u U at c.args.family c.in-Some.family c.in-Some.is c.requires c.counterpart.result c.counterpart.ensures
    c.in-Some-counterpart.w c.in-Some-counterpart.is (λ W n. (c.in_atom.ensures p no_views W f refl n).0 c.if-in_atom.true)

pub returns-else-w-known-clause-told : goal.returns-else-w-known-clause-told
returns-else-w-known-clause-told c = λ p U f g at.
    turns_outside p c.args.t.now f c.args.g.now g (atom_of c.args.to.now) c.args.u U at c.args.family c.in-Some.family c.in-Some.is c.requires c.counterpart.result c.counterpart.ensures
    c.in-Some-counterpart.w c.in-Some-counterpart.is
    (λ W n k. elim c.else-w-known.branch [
      | else-w-known-via-then-w-known+else-in_atom w ↦ not_when w.if-in_atom.false (w.in_atom.ensures p no_views W f refl n) k
      | else-w-known-via-else-w-known w ↦
          omega (arith, slice_get_within c.args.t.now.known.items c.in-Some-counterpart.w.0 _ n, w.if-w-known.false, ap (λ (xs : List ShownPath). length xs) c.known.ensures)
    ])
