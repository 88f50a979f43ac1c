-- Atoms whose anchor's path is written out.
use Rattle.std.proofs.Common.{◌≡◌, ◌↔◌, List, ◌++◌, reverse, Bool, IsTrue, sym, ap, ◌∙◌, subst, append-nil}
use Rattle.jn_base.specs.declared.tree.Name.{Name}
use Rattle.jn_base.specs.declared.tree.Program.{Program}
use Rattle.jn_base.specs.declared.types.Anchor.{Anchor}
use Rattle.jn_base.specs.declared.types.Atom.{Atom as ShownAtom}
use Rattle.jn_base.specs.Paths.{Path}
use Rattle.jn_base.specs.Atoms.{atom_of}
use Rattle.jn_sem.specs.Sets.{Views, no_views, AnchorSeen, eval, Inside, InAtom}
use Rattle.jn_meaning.specs.Seen.{RootedAs}

pub rooted_atom : (p : Program) (v : Views) (U : Path) (x y : ShownAtom) (told : Bool) → RootedAs v x y
    → IsTrue told ↔ InAtom p no_views (atom_of y) U → IsTrue told ↔ InAtom p v (atom_of x) U
rooted_atom p v U x y told r i = (to, from)
  where
    exact : reverse y.exact ++ eval no_views y.anchor ≡ reverse x.exact ++ eval v x.anchor
    exact = ap (λ (a : Anchor). reverse y.exact ++ eval no_views a) r.anchor ∙ append-nil (reverse y.exact) ∙ r.exact

    names : reverse y.names ≡ reverse x.names
    names = ap reverse r.names

    to : IsTrue told → InAtom p v (atom_of x) U
    to b = record {
      seen = r.seen;
      inside = subst (λ (ns : List Name). Inside p U (reverse x.exact ++ eval v x.anchor) ns) names
          (subst (λ (E : Path). Inside p U E (reverse y.names)) exact (i.0 b).inside);
    }

    from : InAtom p v (atom_of x) U → IsTrue told
    from k = i.1 (record {
      seen = subst (AnchorSeen no_views) (sym r.anchor) tt;
      inside = subst (λ (E : Path). Inside p U E (reverse y.names)) (sym exact)
          (subst (λ (ns : List Name). Inside p U (reverse x.exact ++ eval v x.anchor) ns) (sym names) k.inside);
    })
