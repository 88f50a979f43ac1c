-- Families, related classes and counterparts.
use Rattle.std.proofs.Common.{◌≡◌, [], ◌∷◌, Some, None, refl, sym, ap, ◌∙◌}
use Rattle.jn_reach.specs.Equivalent as link
use Rattle.jn_base.specs.declared.tree.Name.{Name}
use Rattle.jn_base.specs.declared.tree.Program.{Program}
use Rattle.jn_base.specs.Paths.{Path}
use Rattle.jn_sem.specs.Sharing.{IsClass, family_of, in_family, Related}
use Rattle.jn_sem.specs.LawsOfSharing.{SharingLaws}

none_some : (X : Name) → None ≡ Some X → ⊥
none_some X e = cc

some_same : (X Y : Name) → Some X ≡ Some Y → X ≡ Y
some_same X Y e = cc

-- X.t as X.t
own_names : (X : Name) (R : Path) → family_of R ≡ Some X → R ≡ in_family X R
own_names X [] e = absurd (none_some X e)
own_names X (Y ∷ []) e = ap (λ (n : Name). n ∷ []) (some_same Y X e)
own_names X (C ∷ (D ∷ P)) e = ap (λ (Q : Path). C ∷ Q) (own_names X (D ∷ P) e)

family_is : (Y X : Name) (R : Path) → family_of R ≡ Some X → family_of (in_family Y R) ≡ Some Y
family_is Y X [] e = absurd (none_some X e)
family_is Y X (A ∷ []) e = refl
family_is Y X (C ∷ (D ∷ [])) e = refl
family_is Y X (C ∷ (D ∷ (E ∷ P))) e = family_is Y X (D ∷ (E ∷ P)) e

twice : (Y Z : Name) (R : Path) → in_family Z (in_family Y R) ≡ in_family Z R
twice Y Z [] = refl
twice Y Z (A ∷ []) = refl
twice Y Z (C ∷ (D ∷ [])) = refl
twice Y Z (C ∷ (D ∷ (E ∷ P))) = ap (λ (Q : Path). C ∷ Q) (twice Y Z (D ∷ (E ∷ P)))

turned : {p : Program} {R S : Path} → Related p R S → Related p S R
turned r = record { one = r.other; other = r.one; linked = link.turned r.linked }

-- a class has a name, so that it is in a family
has_family : (p : Program) (R : Path) → IsClass p R → (X : Name) × (family_of R ≡ Some X)
has_family p [] c = absurd c.universe
has_family p (C ∷ P) c = in_some C P where
  in_some : (D : Name) (Q : Path) → (X : Name) × (family_of (D ∷ Q) ≡ Some X)
  in_some D [] = (D, refl)
  in_some D (E ∷ Q) = in_some E Q

pub sharing_laws : SharingLaws
sharing_laws p = record {
  itself = λ R c. record { one = c; other = c; linked = link.itself };
  turned = λ R S r. turned r;
  joined = λ R S T r s. record { one = r.one; other = s.other; linked = link.joined r.linked s.linked };
  own = λ X R c e. record { is = own_names X R e; related = record { one = c; other = c; linked = link.itself } };
  family = λ Y R S k. let f = has_family p R k.related.one in ap family_of k.is ∙ family_is Y f.0 R f.1;
  back = λ X Y R S e k. record {
    is = own_names X R e ∙ sym (twice Y X R) ∙ ap (in_family X) (sym k.is);
    related = turned k.related;
  };
  on = λ Y Z R S T k l. record {
    is = l.is ∙ ap (in_family Z) k.is ∙ twice Y Z R;
    related = record { one = k.related.one; other = l.related.other; linked = link.joined k.related.linked l.related.linked };
  };
}
