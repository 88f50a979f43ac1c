-- Linked paths have the same names but for the outermost one.
use Rattle.std.proofs.Common.{◌≡◌, List, [], ◌∷◌, ◌++◌, Some, refl, sym, ap, ◌∙◌}
use Rattle.jn_reach.specs.Equivalent.{Equivalent, pair, itself, turned, joined}
use Rattle.jn_base.specs.declared.tree.Name.{Name}
use Rattle.jn_base.specs.declared.tree.Program.{Program}
use Rattle.jn_base.specs.Paths.{Path}
use Rattle.jn_sem.specs.Sharing.{IsClass, Shares, adapted, shared, family_of, in_family}
use Rattle.jn_share.proofs.OwnRows.{class_family}
use Rattle.jn_share.proofs.Relating.{ends}

-- the names of a path but for the outermost one
abbrev below : Path → Path
below [] = []
below (X ∷ []) = []
below (C ∷ (D ∷ P)) = C ∷ below (D ∷ P)

below_is : (t : List Name) (X : Name) → below (t ++ X ∷ []) ≡ t
below_is [] X = refl
below_is (C ∷ []) X = refl
below_is (C ∷ (D ∷ t)) X = ap (λ (P : Path). C ∷ P) (below_is (D ∷ t) X)

both_below : (R S : Path) (C X A : Name) (t : List Name) → R ≡ C ∷ (t ++ X ∷ []) → S ≡ C ∷ (t ++ A ∷ []) → below R ≡ below S
both_below R S C X A t e f = ap below e ∙ (below_is (C ∷ t) X ∙ (sym (below_is (C ∷ t) A) ∙ sym (ap below f)))

shares_below : (p : Program) (R S : Path) → Shares p R S → below R ≡ below S
shares_below p R S (adapted X A C t d s c e f i j) = both_below R S C X A.name t e f
shares_below p R S (shared X A C t d s c e f i j) = both_below R S C X A.name t e f

linked_below : (p : Program) {R S : Path} → Equivalent (Shares p) R S → below R ≡ below S
linked_below p (pair h) = shares_below p _ _ h
linked_below p itself = refl
linked_below p (turned h) = sym (linked_below p h)
linked_below p (joined g h) = linked_below p g ∙ linked_below p h

-- where R and S are linked, S is R in its own family
pub linked_inner : (p : Program) (R S : Path) (Y : Name) → IsClass p R → Equivalent (Shares p) R S → family_of S ≡ Some Y → S ≡ in_family Y R
linked_inner p R S Y c l f =
    let g = class_family p R c in
    let r = ends R g.0 g.1 in
    let s = ends S Y f in
    let same : r.0 ≡ s.0 = sym (below_is r.0 g.0) ∙ (sym (ap below r.1) ∙ (linked_below p l ∙ (ap below s.1 ∙ below_is s.0 Y))) in
    s.1 ∙ (ap (λ (t : List Name). t ++ Y ∷ []) (sym same) ∙ sym (r.2 Y))
