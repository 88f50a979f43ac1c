use Rattle.std.proofs.Common.{◌≡◌, ◌∙◌, ◌++◌, List, take, reverse, ap, arith}
use Rattle.jn_base.specs.declared.tree.Name.{Name}
use Rattle.jn_base.specs.declared.types.Atom.{Atom as ShownAtom}
use Rattle.jn_base.specs.Atoms.{atom, atom_of}
use Rattle.jn_sem.specs.Widening.{reduced}
use Rattle.jn_sem.proofs.Codes.{reduced_shown}
use Rattle.jn_normal.proofs.conjunct.Conjunct.reduced.Goals as goal

pub returns : goal.returns
returns c =
    let z : ShownAtom = c.args.z.now in
    let x : ShownAtom = c.self.inside.atom in
    let kept = c.saturating_sub-kept.result in
    let exact : c.in_ok-exact.exact ≡ take kept z.exact ++ x.exact =
    c.in_ok-exact.ensures ∙ ap (λ (t : List Name). take kept t ++ c.as_slice-2.result.now) c.as_slice.ensures
    ∙ ap (λ (t : List Name). take kept z.exact ++ t) c.as_slice-2.ensures in
    ap (λ (ns : List Name). atom c.further-anchor.result (reverse c.in_ok-exact.exact) (reverse ns)) (c.in_ok-names.ensures ∙ c.as_slice-3.ensures)
    ∙ reduced_shown z x c.args.k c.in_ok-exact.exact kept c.saturating_sub-rest.result c.further-anchor.result exact
    (omega (arith, c.saturating_sub-kept.ensures, c.len-had.ensures, c.len.ensures))
    (omega (arith, c.saturating_sub-rest.ensures, c.len-had.ensures, c.len.ensures))
    c.further-anchor.ensures
    ∙ ap (reduced (atom_of z) c.args.k) c.self.view_is
