-- Which listed names lack something, and what is asked of the names in a list.
use Rattle.std.proofs.Common.{◌≡◌, ◌↔◌, List, [], ◌∷◌, length, reverse, Bool, true, false, IsTrue, Some, None, refl, ap, ◌∙◌, subst, Result, Ok, Err, map}
use Rattle.jn_base.specs.declared.tree.Name.{Name}
use Rattle.jn_base.specs.declared.tree.Named.{Named}
use Rattle.jn_base.specs.declared.tree.Program.{Program}
use Rattle.jn_base.specs.declared.refusal.Refusal.{Refusal}
use Rattle.jn_base.specs.declared.refusal.Rule.TheVariants as rule
use Rattle.jn_base.specs.Paths.{Path}
use Rattle.jn_base.specs.Universe.{InUniverse}
use Rattle.jn_sem.specs.Sharing.{family_of}
use Rattle.jn_sem.specs.NotFamily.{Listing, adapting, sharing, Listed, in_list, own_listed, Lacks}
use Rattle.jn_rules.specs.Plans.{Plan, Nothing}
use Rattle.jn_rules.specs.Questions.{Gives, Answers}
use Rattle.jn_rules.specs.Headers.{listed_asked}
use Rattle.jn_heads.specs.declared.fault.CheckFault.{CheckFault}
use Rattle.jn_heads.specs.declared.fault.CheckFault.TheVariants.{Refused, Memory}
use Rattle.jn_heads.specs.Told.{Told, itself}
use Rattle.jn_header.specs.Listed.{HasName, of_list, IsListedFault}

-- ---- what is lacking

named_family : (R : Path) → HasName R → (X : Name) × (family_of R ≡ Some X)
named_family R h = let f = at h.name h.space in (f.0, ap family_of h.is ∙ f.1) where
  at : (C : Name) (P : Path) → (X : Name) × (family_of (C ∷ P) ≡ Some X)
  at C [] = (C, refl)
  at C (D ∷ P) = at D P

false_not : {T : Type 0} → IsTrue false ↔ T → T → ⊥
false_not h t = let k : IsTrue false = h.1 t in cc k

-- what is told of a name in a list of the path with these names, the outermost first
pub answered : (p : Program) (names : List Name) (R : Path) (l : Listing) (name : Named) → reverse names ≡ R → HasName R → (b : Bool)
    → ((X : Name) → family_of (reverse names) ≡ Some X → IsTrue b ↔ Lacks p (in_list (reverse names) l name)) → Answers (Lacks p (in_list R l name)) b
answered p names R l name e has b h =
    let f = named_family R has in
    by_told b (subst (λ (S : Path). IsTrue b ↔ Lacks p (in_list S l name)) e (h f.0 (ap family_of e ∙ f.1))) where
      by_told : (c : Bool) → IsTrue c ↔ Lacks p (in_list R l name) → Answers (Lacks p (in_list R l name)) c
      by_told true i = i.0 refl
      by_told false i = λ k. false_not i k

-- what is asked of the name, by its parts
module _ (p : Program) (x : Listed) where
  pub no_top : (b : Bool) → b ≡ false → IsTrue b ↔ InUniverse p (x.name.name ∷ []) → (f : CheckFault) → IsListedFault x.at x.name rule.E06 (Some x.name.name) f
      → Told {B = Nothing} (Gives p (listed_asked x)) itself (Err f)
  no_top b e h (Refused r) g = (false, (λ u. false_not (subst (λ (c : Bool). IsTrue c ↔ InUniverse p (x.name.name ∷ [])) e h) u), refusing g) where
    refusing : {r s : Refusal} → r ≡ s → (let o : Result Nothing Refusal = Err r in o ≡ Err s)
    refusing e = ap Err e
  no_top b e h Memory g = tt

  pub lacking : (b : Bool) → b ≡ true → IsTrue b ↔ InUniverse p (x.name.name ∷ []) → (c : Bool) → c ≡ true → Answers (Lacks p x) c → (f : CheckFault)
      → IsListedFault x.at x.name rule.E12 None f → Told {B = Nothing} (Gives p (listed_asked x)) itself (Err f)
  lacking b e h c d k (Refused r) g = (true, h.0 e, (true, subst (Answers (Lacks p x)) d k, refusing g)) where
    refusing : {r s : Refusal} → r ≡ s → (let o : Result Nothing Refusal = Err r in o ≡ Err s)
    refusing e = ap Err e
  lacking b e h c d k Memory g = tt

  pub name_passes : (b : Bool) → b ≡ true → IsTrue b ↔ InUniverse p (x.name.name ∷ []) → (c : Bool) → c ≡ false → Answers (Lacks p x) c → Gives p (listed_asked x) (Ok tt)
  name_passes b e h c d k = (true, h.0 e, (false, subst (Answers (Lacks p x)) d k, refl))

-- ---- both lists

map_listed : (R : Path) (l : Listing) (names : List Named) → map (of_list R l) names ≡ map listed_asked (map (in_list R l) names)
map_listed R l [] = refl
map_listed R l (n ∷ names) = ap (λ (xs : List (Plan Nothing)). of_list R l n ∷ xs) (map_listed R l names)

pub adapted : (C : Name) (R P : Path) (shares adapts names : List Named) → R ≡ C ∷ P → length P ≡ 0 → names ≡ adapts
    → map (of_list R adapting) names ≡ map listed_asked (own_listed C shares adapts P)
adapted C R [] shares adapts names e l n =
    ap (λ (S : Path). map (of_list S adapting) names) e ∙ (ap (map (of_list (C ∷ []) adapting)) n ∙ map_listed (C ∷ []) adapting adapts)
adapted C R (D ∷ P) shares adapts names e l n = absurd (cc l)

pub shared : (C : Name) (R P : Path) (shares adapts names : List Named) → R ≡ C ∷ P → (length P ≡ 0 → ⊥) → names ≡ shares
    → map (of_list R sharing) names ≡ map listed_asked (own_listed C shares adapts P)
shared C R [] shares adapts names e l n = absurd (l refl)
shared C R (D ∷ P) shares adapts names e l n =
    ap (λ (S : Path). map (of_list S sharing) names) e ∙ (ap (map (of_list (C ∷ (D ∷ P)) sharing)) n ∙ map_listed (C ∷ (D ∷ P)) sharing shares)
