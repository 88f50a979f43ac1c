use Rattle.std.proofs.Common.{◌≡◌, ◌∙◌, ◌++◌, ◌-◌, ℕ, List, take, ap, arith}
use Rattle.jn_base.specs.declared.tree.Name.{Name}
use Rattle.jn_base.specs.declared.types.Atom.{Atom as ShownAtom}
use Rattle.jn_base.specs.Atoms.{atom_of}
use Rattle.jn_sem.specs.Widening.{replaced}
use Rattle.jn_normal.proofs.Replaced.{replaced_many}
use Rattle.jn_normal.proofs.conjunct.Conjunct.replaced.Goals as goal

pub returns : goal.returns
returns c =
    let z : ShownAtom = c.args.z.now in
    let x : ShownAtom = c.self.inside.atom in
    let kept : ℕ = c.len-2.result - c.args.k in
    let outer : List Name = c.in_ok-outer.outer in
    let front : outer ≡ take kept z.names ++ x.exact =
    c.in_ok-outer.ensures ∙ ap (λ (t : List Name). take kept t ++ c.as_slice-2.result.now) c.as_slice.ensures
    ∙ ap (λ (t : List Name). take kept z.names ++ t) c.as_slice-2.ensures in
    let all : c.in_ok-names.names ≡ outer ++ x.names =
    c.in_ok-names.ensures ∙ ap (λ (t : List Name). t ++ c.as_slice-4.result.now) c.as_slice-3.ensures
    ∙ ap (λ (t : List Name). outer ++ t) c.as_slice-4.ensures in
    replaced_many z x c.args.k kept outer c.in_ok-names.names c.in_ok-exact.exact (omega (arith, c.if-len-k.false, c.len.ensures))
    (omega (arith, c.len-2.ensures)) front all (c.in_ok-exact.ensures ∙ c.as_slice-5.ensures)
    ∙ ap (replaced (atom_of z) c.args.k) c.self.view_is
