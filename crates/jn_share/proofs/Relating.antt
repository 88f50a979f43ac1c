-- The pairs of shared classes are those that the listed names relate.
use Rattle.std.proofs.Common.{◌≡◌, ◌≤◌, List, [], ◌∷◌, ◌++◌, length, Contains, Some, refl, sym, ap, ◌∙◌, subst, arith}
use Rattle.std.proofs.lemmas.List.{length-append}
use Rattle.jn_reach.proofs.Searches.{same_some}
use Rattle.jn_base.specs.declared.tree.Name.{Name}
use Rattle.jn_base.specs.declared.tree.Named.{Named}
use Rattle.jn_base.specs.declared.tree.Decl.{Decl}
use Rattle.jn_base.specs.declared.tree.Program.{Program}
use Rattle.jn_base.specs.Paths.{Path, StandsIn, StandsAt}
use Rattle.jn_base.proofs.FoundTwice.{mapped, unmapped}
use Rattle.jn_sem.specs.Sharing.{IsClass, family_of, in_family, Shares, adapted, shared}
use Rattle.jn_sem.specs.NotFamily.{Listed, adapting, sharing, in_list, own_listed, listed_names}
use Rattle.jn_share.specs.Pairing.{Meets, by_family, by_path, Relates}
use Rattle.jn_share.proofs.Names.{last_family, last_in}
use Rattle.jn_share.proofs.Exact.{listed_found, found_listed, some_family}

-- a path of a family
pub ends : (R : Path) (X : Name) → family_of R ≡ Some X → (t : List Name) × (R ≡ t ++ X ∷ []) × ((A : Name) → in_family A R ≡ t ++ A ∷ [])
ends [] X f = cc
ends (C ∷ []) X f = let e : C ≡ X = cc f in ([], ap (λ (N : Name). N ∷ []) e, λ A. refl)
ends (C ∷ (D ∷ P)) X f = let w = ends (D ∷ P) X f in (C ∷ w.0, ap (λ (Q : Path). C ∷ Q) w.1, λ A. ap (λ (Q : Path). C ∷ Q) (w.2 A))

split : (R : Path) (X : Name) → family_of R ≡ Some X → 2 ≤ length R
    → (C : Name) × (t : List Name) × (R ≡ C ∷ (t ++ X ∷ [])) × ((A : Name) → in_family A R ≡ C ∷ (t ++ A ∷ []))
split [] X f l = cc
split (C ∷ []) X f l = absurd (omega (arith, l))
split (C ∷ (D ∷ P)) X f l = let w = ends (D ∷ P) X f in (C, w.0, ap (λ (Q : Path). C ∷ Q) w.1, λ A. ap (λ (Q : Path). C ∷ Q) (w.2 A))

long : (R : Path) (C X : Name) (t : List Name) → R ≡ C ∷ (t ++ X ∷ []) → 2 ≤ length R
long R C X t e = omega (arith, ap length e, length-append t (X ∷ []))

not_both : {x : Listed} {R : Path} {C : Name} {n : Named} → x ≡ in_list (C ∷ R) adapting n → x.listing ≡ sharing → ⊥
not_both e l = let k : adapting ≡ sharing = sym (ap (λ (y : Listed). y.listing) e) ∙ l in cc k

not_either : {x : Listed} {R : Path} {n : Named} → x ≡ in_list R sharing n → x.listing ≡ adapting → ⊥
not_either e l = let k : sharing ≡ adapting = sym (ap (λ (y : Listed). y.listing) e) ∙ l in cc k

module _ (p : Program) where
  Listing_of : Path → Path → Type 0
  Listing_of R S = (x : Listed) × Contains (listed_names p) x × Relates p x R S

  by_adapts : (X : Name) (A : Named) (C : Name) (t : List Name) (d : Decl) (R S : Path) → StandsAt p (X ∷ []) d → Contains d.adapts A
      → R ≡ C ∷ (t ++ X ∷ []) → S ≡ C ∷ (t ++ A.name ∷ []) → IsClass p R → IsClass p S → Listing_of R S
  unfolding Listing_of
  by_adapts X A C t d R S s c e f i j =
      let x : Listed = in_list (d.name.name ∷ []) adapting A in (
        x,
        listed_found p x (record { P = []; decl = d; stands = s.0; among = mapped (in_list (d.name.name ∷ []) adapting) d.adapts A c }),
        record {
          meets = by_family refl (long R C X t e) (record { X = X; one = ap family_of e ∙ last_family (C ∷ t) X; other = ap Some s.1 });
          there = f ∙ sym (ap (in_family A.name) e ∙ last_in (C ∷ t) X A.name);
          one = i;
          other = j;
        },
      )

  by_shares : (X : Name) (A : Named) (C : Name) (t : List Name) (d : Decl) (R S : Path) → StandsAt p R d → Contains d.shares A
      → R ≡ C ∷ (t ++ X ∷ []) → S ≡ C ∷ (t ++ A.name ∷ []) → IsClass p R → IsClass p S → Listing_of R S
  unfolding Listing_of
  by_shares X A C t d [] S s c e f i j = absurd s
  by_shares X A C t d (N ∷ []) S s c e f i j = absurd (let l = long (N ∷ []) C X t e in omega (arith, l))
  by_shares X A C t d (N ∷ (D ∷ Q)) S s c e f i j =
      let x : Listed = in_list (d.name.name ∷ (D ∷ Q)) sharing A in (
        x,
        listed_found p x (record { P = D ∷ Q; decl = d; stands = s.0; among = mapped (in_list (d.name.name ∷ (D ∷ Q)) sharing) d.shares A c }),
        record {
          meets = by_path refl (ap (λ (M : Name). M ∷ (D ∷ Q)) (sym s.1));
          there = f ∙ sym (ap (in_family A.name) e ∙ last_in (C ∷ t) X A.name);
          one = i;
          other = j;
        },
      )

  -- a pair is that of a listed name
  pub shares_listed : (R S : Path) → Shares p R S → (x : Listed) × Contains (listed_names p) x × Relates p x R S
  unfolding Listing_of
  shares_listed R S (adapted X A C t d s c e f i j) = by_adapts X A C t d R S s c e f i j
  shares_listed R S (shared X A C t d s c e f i j) = by_shares X A C t d R S s c e f i j

  adapts_meet : (d : Decl) (x : Listed) (A : Named) (R S : Path) → StandsIn p [] d → Contains d.adapts A → x ≡ in_list (d.name.name ∷ []) adapting A
      → S ≡ in_family x.name.name R → IsClass p R → IsClass p S → Meets x R → Shares p R S
  adapts_meet d x A R S s c u f i j (by_path l e) = absurd (not_both u l)
  adapts_meet d x A R S s c u f i j (by_family l n h) =
      let own : d.name.name ≡ h.X = same_some (family_of x.at) d.name.name h.X (ap (λ (y : Listed). family_of y.at) u) h.other in
      let w = split R h.X h.one n in
      let name : x.name.name ≡ A.name = ap (λ (y : Listed). y.name.name) u in
      adapted d.name.name A w.0 w.1 d (s, refl) c (w.2 ∙ ap (λ (N : Name). w.0 ∷ (w.1 ++ N ∷ [])) (sym own))
      (f ∙ (ap (λ (N : Name). in_family N R) name ∙ w.3 A.name)) i j

  shares_meet : (d : Decl) (D : Name) (Q : Path) (x : Listed) (A : Named) (R S : Path) → StandsIn p (D ∷ Q) d → Contains d.shares A → x ≡ in_list (d.name.name ∷ (D ∷ Q)) sharing A
      → S ≡ in_family x.name.name R → IsClass p R → IsClass p S → Meets x R → Shares p R S
  shares_meet d D Q x A R S s c u f i j (by_family l n h) = absurd (not_either u l)
  shares_meet d D Q x A R S s c u f i j (by_path l e) =
      let at : R ≡ d.name.name ∷ (D ∷ Q) = e ∙ ap (λ (y : Listed). y.at) u in
      let own = some_family D Q in
      let two : 2 ≤ length R = omega (arith, ap length at) in
      let w = split R own.0 (ap family_of at ∙ own.1) two in
      let name : x.name.name ≡ A.name = ap (λ (y : Listed). y.name.name) u in
      shared own.0 A w.0 w.1 d (subst (λ (P : Path). StandsAt p P d) (sym at) (s, refl)) c w.2
      (f ∙ (ap (λ (N : Name). in_family N R) name ∙ w.3 A.name)) i j

  by_namespace : (P : Path) (d : Decl) (x : Listed) (R S : Path) → StandsIn p P d → Contains (own_listed d.name.name d.shares d.adapts P) x → Relates p x R S → Shares p R S
  by_namespace [] d x R S s c r =
      let u = unmapped (in_list (d.name.name ∷ []) adapting) d.adapts x c in
      adapts_meet d x u.x R S s u.among u.is r.there r.one r.other r.meets
  by_namespace (D ∷ Q) d x R S s c r =
      let u = unmapped (in_list (d.name.name ∷ (D ∷ Q)) sharing) d.shares x c in
      shares_meet d D Q x u.x R S s u.among u.is r.there r.one r.other r.meets

  -- what a listed name relates is such a pair
  pub listed_shares : (R S : Path) (x : Listed) → Contains (listed_names p) x → Relates p x R S → Shares p R S
  listed_shares R S x c r =
      let w = found_listed p x c in
      by_namespace w.P w.decl x R S w.stands w.among r
