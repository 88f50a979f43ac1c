use Rattle.std.proofs.Common.{[], sym, subst}
use Rattle.std.proofs.lemmas.List.Elements.{All-same, All-nil}
use Rattle.jn_base.specs.Atoms.{atom_of}
use Rattle.jn_intern.specs.Pools.{scope_in}
use Rattle.jn_sem.proofs.Codes.{among_of}
use Rattle.jn_sem.proofs.NormalTypes.{among_map}
use Rattle.jn_subtype.specs.Older.{IsOlder}
use Rattle.jn_subtype.specs.Turns.{Adds}
use Rattle.jn_subtype.proofs.Addings.{FromOne, adds_first, adds_more, adds_whole}
use Rattle.jn_subtype.proofs.EnterForms.{Makes, replaces_found}
use Rattle.jn_subtype.proofs.enters.by_atoms.Goals as goal

pub add_replaced-requires-clause-older : goal.add_replaced-requires-clause-older
add_replaced-requires-clause-older c =
    let zs = c.args.atoms.now in
    let z = c.z-item.result in
    c.requires.older (atom_of z) (among_map atom_of zs z (among_of zs z (c.loop-z.z-index, c.loop-z-test.true, sym c.z-item.is)))

pub loop-z-init : goal.loop-z-init
loop-z-init c =
    let s = scope_in c.args.pool.now c.args.scope.now in
    let w = c.args.w.now in record {
      found = λ p f.
          let R = Makes p s c.args.k w in
          subst (Adds (FromOne R []) []) (sym c.new-all.ensures.items) (adds_first R []);
      older = All-same (IsOlder s w) _ _ c.new-all.ensures.items (All-nil (IsOlder s w));
    }

pub loop-z-preserved : goal.loop-z-preserved
loop-z-preserved c =
    let s = scope_in c.args.pool.now c.args.scope.now in record {
      found = λ p f.
          adds_more (Makes p s c.args.k c.args.w.now) c.args.atoms.now c.loop-z.z-index c.z-item.result []
          c.loop-z.all.items c.add_replaced.new.all.items
          c.loop-z-test.true c.z-item.is (c.loop-z.invariant.found p f) (c.in_ok-add_replaced.ensures.exact p f);
      older = c.in_ok-add_replaced.ensures.older c.loop-z.invariant.older;
    }

pub returns-clause-exact : goal.returns-clause-exact
returns-clause-exact c = λ p f.
    let s = scope_in c.args.pool.now c.args.scope.now in
    let R = Makes p s c.args.k c.args.w.now in
    replaces_found c.args.atoms.now c.args.k c.args.w.now c.loop-z.all.items
    (adds_whole R c.args.atoms.now c.loop-z.z-index [] c.loop-z.all.items c.loop-z-test.false (c.loop-z.invariant.found p f))
