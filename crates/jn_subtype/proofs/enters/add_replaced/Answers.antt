use Rattle.std.proofs.Common.{◌≡◌, ◌∙◌, sym, subst}
use Rattle.jn_base.specs.Universe.{InUniverse}
use Rattle.jn_base.specs.Atoms.{atom_of}
use Rattle.jn_base.specs.Scopes.{bound}
use Rattle.jn_intern.specs.Pools.{scope_in}
use Rattle.jn_sem.specs.Widening.{replaced}
use Rattle.jn_subtype.specs.Turns.{Adds}
use Rattle.jn_subtype.proofs.Addings.{adds_one}
use Rattle.jn_subtype.proofs.EnterForms.{Makes, older_small}
use Rattle.jn_subtype.proofs.enters.add_replaced.Goals as goal

pub replaced-requires : goal.replaced-requires
replaced-requires c = record { small = older_small c.requires.fits c.requires.older }

pub returns-clause-exact : goal.returns-clause-exact
returns-clause-exact c = λ p f.
    let s = scope_in c.args.pool.now c.args.scope.now in
    let P = Makes p s c.args.k c.args.w.now c.args.z.now in
    let t = c.in_ok-t.t in
    let is : t ≡ replaced (atom_of c.args.z.now) c.args.k c.args.w.now = c.in_ok-t.ensures in
    let known : InUniverse p (bound s t) = subst (InUniverse p) c.in_ok-b.ensures ((c.is_known.ensures p f).0 c.if-not-is_known.false) in
    subst (Adds P c.args.all.now.items) (sym c.in_ok-push.ensures.items)
    (adds_one P c.args.all.now.items t (is, known) (λ x h. is ∙ sym h.0))
