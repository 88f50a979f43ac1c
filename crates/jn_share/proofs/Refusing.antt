-- When a listed name is refused, and which one is the first.
use Rattle.std.proofs.Common.{◌≡◌, ◌↔◌, ◌<◌, ◌≤◌, ◌+◌, ◌⊎◌, inl, inr, ℕ, List, [], ◌∷◌, ◌++◌, map, reverse, take, drop, length, get_or, Contains, Bool, true, false, not, IsTrue, Some, Err, sym, ap, ◌∙◌, subst, refl}
use Rattle.std.proofs.lemmas.List.{take-append-drop, take_all}
use Rattle.std.proofs.lemmas.List.Elements.{Contains-append_cases}
use Rattle.jn_reach.proofs.Searches.{iff_true, iff_false, not_when, same_some}
use Rattle.jn_base.specs.declared.tree.Name.{Name}
use Rattle.jn_base.specs.declared.tree.Named.{Named}
use Rattle.jn_base.specs.declared.tree.Program.{Program}
use Rattle.jn_base.specs.declared.tree.Kind.TheVariants as kind
use Rattle.jn_base.specs.Paths.{Path}
use Rattle.jn_base.specs.Members.{HasKind}
use Rattle.jn_base.specs.Universe.{InUniverse}
use Rattle.jn_base.proofs.FoundTwice.{mapped}
use Rattle.jn_base.proofs.NameTests.{in_cons, in_none}
use Rattle.jn_share.proofs.Numbered.{kind_known}
use Rattle.jn_share.proofs.Turned.{at_index}
use Rattle.jn_sem.specs.Sharing.{IsClass, family_of, in_family}
use Rattle.jn_sem.specs.NotFamily.{sharing, Listed, in_list, IsStrictSuper, Lacks, no_super, no_class, IsNotFamily, AreFamilies, not_family, listed_names}
use Rattle.jn_share.specs.declared.listed.InList.{InList}
use Rattle.jn_share.specs.declared.listed.InList.TheVariants as list
use Rattle.jn_share.specs.declared.listed.ListedName.{ListedName}
use Rattle.jn_share.specs.declared.fault.ShareFault.{ShareFault}
use Rattle.jn_share.specs.declared.fault.ShareFault.TheVariants.{Refused, Memory}
use Rattle.jn_share.specs.Listing.{listing_of, listed_of, IsFault, PassesOr}
use Rattle.jn_share.proofs.Exact.{listed_family}
use Rattle.jn_share.proofs.Walk.{take_one, map_both}

-- the class that a name in a list of `shares` is to have
pub lacks_there : (p : Program) (names : List Name) (l : InList) (name : Name) (there : Path) (b : Bool) → l ≡ list.Shares → there ≡ in_family name (reverse names)
    → IsTrue b ↔ HasKind p there kind.Class → IsTrue (not b) ↔ ((listing_of l ≡ sharing) × (IsClass p (in_family name (reverse names)) → ⊥))
lacks_there p names l name there true k e h =
    (λ t. absurd (cc t), λ n. absurd (n.1 (subst (IsClass p) e (record { universe = kind_known p there kind.Class (h.0 refl); kind = h.0 refl }))))
lacks_there p names l name there false k e h = (
  λ t. (ap listing_of k, λ i. let g : IsTrue false = h.1 (subst (λ (R : Path). HasKind p R kind.Class) (sym e) i.kind) in cc g),
  λ n. refl,
)

module _ (p : Program) (names : List Name) (l : InList) (name : Named) (X : Name) (e : family_of (reverse names) ≡ Some X)
    (strict : Bool) (s : IsTrue strict ↔ IsStrictSuper p X name.name) where
  pub no_strict : strict ≡ false → IsTrue true ↔ Lacks p (in_list (reverse names) (listing_of l) name)
  no_strict n = iff_true (no_super X e (not_when n s))

  pub by_class : (b : Bool) → strict ≡ true → IsTrue b ↔ ((listing_of l ≡ sharing) × (IsClass p (in_family name.name (reverse names)) → ⊥))
      → IsTrue b ↔ Lacks p (in_list (reverse names) (listing_of l) name)
  by_class b n k = (λ h. let m = k.0 h in no_class m.0 m.1, λ h. either h) where
    either : Lacks p (in_list (reverse names) (listing_of l) name) → IsTrue b
    either (no_super Y f g) =
        let same : X ≡ Y = same_some (family_of (reverse names)) X Y e f in
        absurd (g (subst (λ (Z : Name). IsStrictSuper p Z name.name) same (s.0 n)))
    either (no_class m g) = k.1 (m, g)

module _ (p : Program) (x : ListedName) (known : Bool) (k : IsTrue known ↔ InUniverse p (x.name.name ∷ [])) where
  pub not_top : known ≡ false → IsTrue false ↔ IsNotFamily p (listed_of x)
  not_top t = iff_false (λ n. not_when t k n.top)

  pub by_lack : known ≡ true → (b : Bool) → IsTrue b ↔ Lacks p (listed_of x) → IsTrue b ↔ IsNotFamily p (listed_of x)
  by_lack t b i = (λ h. record { top = k.0 t; lacks = i.0 h }, λ n. i.1 n.lacks)

-- ---- the first one

-- none of the first i names is refused
abbrev pub PassTo : Program → List ListedName → ℕ → Type 0
PassTo p xs i = (y : Listed) → Contains (map listed_of (take i xs)) y → IsNotFamily p y → ⊥

module _ (p : Program) (xs : List ListedName) (whole : map listed_of xs ≡ listed_names p) where
  pub its_family : (i : ℕ) (x : ListedName) → i < length xs → x ≡ get_or xs i x → (X : Name) × (family_of (reverse x.at.names) ≡ Some X)
  its_family i x l e =
      listed_family p (listed_of x) (subst (λ (ys : List Listed). Contains ys (listed_of x)) whole (mapped listed_of xs x (i, l, sym e)))

  pub pass_none : PassTo p xs 0
  pass_none y c = absurd (in_none y c)

  pub pass_more : (i : ℕ) (x : ListedName) (b : Bool) → i < length xs → x ≡ get_or xs i x → b ≡ false
      → ((X : Name) → family_of (reverse x.at.names) ≡ Some X → IsTrue b ↔ IsNotFamily p (listed_of x)) → PassTo p xs i → PassTo p xs (i + 1)
  pass_more i x b l e f h k y c n =
      by_part (Contains-append_cases (map listed_of (take i xs)) (listed_of x ∷ []) y
      (subst (λ (ys : List Listed). Contains ys y) (ap (map listed_of) (take_one xs i x l e) ∙ map_both listed_of (take i xs) (x ∷ [])) c)) where
        by_place : (listed_of x ≡ y) ⊎ Contains [] y → ⊥
        by_place (inl s) = let g = its_family i x l e in not_when f (h g.0 g.1) (subst (IsNotFamily p) (sym s) n)
        by_place (inr d) = in_none y d

        by_part : Contains (map listed_of (take i xs)) y ⊎ Contains (listed_of x ∷ []) y → ⊥
        by_part (inl d) = k y d n
        by_part (inr d) = by_place (in_cons (listed_of x) [] y d)

  pub pass_all : (i : ℕ) → length xs ≤ i → PassTo p xs i → AreFamilies p
  pass_all i l k y c n =
      k y (subst (λ (ys : List ListedName). Contains (map listed_of ys) y) (sym (take_all i xs l)) (subst (λ (ys : List Listed). Contains ys y) (sym whole) c)) n

  pub first_is : (i : ℕ) (x : ListedName) (b : Bool) (fault : ShareFault) → i < length xs → x ≡ get_or xs i x → b ≡ true
      → ((X : Name) → family_of (reverse x.at.names) ≡ Some X → IsTrue b ↔ IsNotFamily p (listed_of x)) → PassTo p xs i
      → IsFault fault (not_family (listed_of x)) → PassesOr p (Err fault)
  first_is i x b Memory l e f h k s = tt
  first_is i x b (Refused r) l e f h k s =
      let g = its_family i x l e in
      record {
        before = map listed_of (take i xs);
        at = listed_of x;
        after = map listed_of (drop (i + 1) xs);
        split = sym whole ∙ (ap (map listed_of) (sym (take-append-drop i xs) ∙ ap (λ (ys : List ListedName). take i xs ++ ys) (at_index xs i x l e))
            ∙ map_both listed_of (take i xs) (x ∷ drop (i + 1) xs));
        passed = k;
        is = (h g.0 g.1).0 f;
        shows = s;
      }
