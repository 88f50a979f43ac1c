-- The places of declared names in the order of the names.
use Rattle.std.proofs.Common.{◌≡◌, ◌<◌, ◌≤◌, ◌+◌, ◌++◌, ℕ, List, [], ◌∷◌, All, Contains, Some, get_or, length, map}
use Rattle.std.proofs.Common.{ap, refl, slice_get, subst, sym, take}
use Rattle.std.specs.List.{Any}
use Rattle.std.specs.declared.vec.Vec.{Vec}
use Rattle.std.specs.declared.alloc.Global.{Global}
use Rattle.std.proofs.lemmas.List.Elements.{Contains-get_or}
use Rattle.std.proofs.lemmas.Option.{slice_get_within, slice_get_read, get_or_from_slice_get}
use Rattle.jn_reach.specs.Graph.{Graph, Lists}
use Rattle.jn_reach.specs.Numbers.{AreDistinct}
use Rattle.jn_reach.proofs.Eachs.{Each-at, Each-back, Each-length}
use Rattle.jn_reach.proofs.Listing.{Lists-same}
use Rattle.jn_reach.proofs.Searches.{same_some}
use Rattle.jn_index.specs.Index.{IsFirst}
use Rattle.jn_index.proofs.Places.{key_at, thing_at}
use Rattle.jn_base.specs.declared.tree.Name.{Name}
use Rattle.jn_base.specs.Paths.{Path}
use Rattle.jn_table.specs.Depths.{IsOrdered}
use Rattle.jn_table.specs.Gather.{AreInside, Gains, MembersAt, StandsInside}
use Rattle.jn_table.specs.NamePlaces.{AreNamePlaces, PlacedAmong, PlacedIn, name_key}
use Rattle.jn_table.specs.declared.entry.Entry.{Entry}
use Rattle.jn_table.proofs.Gathers.{gains_all, gains_exact, gains_more, gains_none, gains_push, none_of}
use Rattle.jn_table.proofs.Maps.{in_list, list_at}
use Rattle.jn_table.proofs.Orders.{declared_at}
use Rattle.jn_table.proofs.Places.{same_item}

-- ---- a name by its key

same_name : (C D : Name) → name_key C ≡ name_key D → C ≡ D
same_name C D e = let n : C.0 ≡ D.0 = cc e in ap (λ (k : ℕ). let name : Name = record { 0 = k } in name) n

pub name_at : (order : List Name) (C : Name) (k : ℕ) → IsFirst (map name_key order) (name_key C) k
    → slice_get order k ≡ Some C
name_at order C k f =
    let t = thing_at name_key order k (name_key C) f.at in
    subst (λ (D : Name). slice_get order k ≡ Some D) (same_name t.0 C t.2) t.1

pub not_missing : (order : List Name) (C : Name) → Contains order C
    → ((k : ℕ) → slice_get (map name_key order) k ≡ Some (name_key C) → ⊥) → ⊥
not_missing order C c none = let a = list_at order C c in none a.0 (key_at name_key order a.0 C a.1)

-- the name of an entry is in the order
pub has_name : (es : List Entry) (order : List Name) → IsOrdered es order → (i : ℕ) (e : Entry) → i < length es
    → e ≡ get_or es i e → Contains order e.name
has_name es order o i e l is =
    let d = declared_at es order o e.namespace e.name (i, e, l, sym is, (refl, refl)) in
    in_list order d.0 e.name d.1

-- ---- how places are gathered

module _ (places : List ℕ) (row : List ℕ) where
  pub placed_none : (all : List ℕ) → Gains (PlacedAmong places []) all all
  placed_none all = gains_none (PlacedAmong places []) all (λ k a. none_of (λ i. slice_get places i ≡ Some k) a)

  pub placed_more : (n d x : ℕ) (before mid : List ℕ) → n < length row → get_or row n d < length places
      → x ≡ get_or places (get_or row n d) x → Gains (PlacedAmong places (take n row)) before mid
      → Gains (PlacedAmong places (take (n + 1) row)) before (mid ++ x ∷ [])
  placed_more n d x before mid l within is g =
      let at = slice_get_read places (length places) (get_or row n d) x refl within is in
      gains_more (λ (i k : ℕ). slice_get places i ≡ Some k) row n (get_or row n d) (λ (k : ℕ). x ≡ k) before mid
      (mid ++ x ∷ []) l (same_item row n d l) (λ k h. same_some (slice_get places (get_or row n d)) x k at h)
      (λ k e. subst (λ (j : ℕ). slice_get places (get_or row n d) ≡ Some j) e at) g (gains_push mid x)

  pub placed_all : (n : ℕ) (before after : List ℕ) → length row ≤ n
      → Gains (PlacedAmong places (take n row)) before after → Gains (PlacedAmong places row) before after
  placed_all n before after past g =
      gains_all (λ (i k : ℕ). slice_get places i ≡ Some k) row n before after past g

module _ (places : List ℕ) (rows : Graph) (numbers : List ℕ) where
  pub rows_none : (all : List ℕ) → Gains (λ (k : ℕ). Any (PlacedIn places rows k) []) all all
  rows_none all =
      gains_none (λ (k : ℕ). Any (PlacedIn places rows k) []) all (λ k a. none_of (PlacedIn places rows k) a)

  pub rows_more : (n d : ℕ) (row : Vec ℕ Global) (before mid after : List ℕ) → n < length numbers
      → get_or numbers n d < length rows → row ≡ get_or rows (get_or numbers n d) row
      → Gains (λ (k : ℕ). Any (PlacedIn places rows k) (take n numbers)) before mid
      → Gains (PlacedAmong places row.items) mid after
      → Gains (λ (k : ℕ). Any (PlacedIn places rows k) (take (n + 1) numbers)) before after
  rows_more n d row before mid after l within is g h =
      let at = slice_get_read rows (length rows) (get_or numbers n d) row refl within is in
      gains_more (λ (m k : ℕ). PlacedIn places rows k m) numbers n (get_or numbers n d) (PlacedAmong places row.items)
      before mid after l (same_item numbers n d l)
      (λ k w. subst (λ (v : Vec ℕ Global). PlacedAmong places v.items k)
      (same_some (slice_get rows (get_or numbers n d)) w.row row w.at at) w.has)
      (λ k a. record { row = row; at = at; has = a }) g h

  pub rows_all : (n : ℕ) (before after row : List ℕ) → length numbers ≤ n → before ≡ []
      → Gains (λ (k : ℕ). Any (PlacedIn places rows k) (take n numbers)) before after → Lists (Contains after) row
      → Lists (λ (k : ℕ). Any (PlacedIn places rows k) numbers) row
  rows_all n before after row past none g l =
      let e = gains_exact (λ (k : ℕ). Any (PlacedIn places rows k) numbers) before after none
      (gains_all (λ (m k : ℕ). PlacedIn places rows k m) numbers n before after past g) in
      Lists-same (Contains after) (λ (k : ℕ). Any (PlacedIn places rows k) numbers) row (λ k c. (e k).0 c)
      (λ k a. (e k).1 a) l

-- ---- what the places say

-- a name that is declared in one of the namespaces of those numbers stands at k in the order
abbrev pub IsMemberPlace : List Entry → List Path → List Name → List ℕ → ℕ → Type 0
IsMemberPlace es paths order numbers k =
    (C : Name) × (slice_get order k ≡ Some C) × MembersAt es paths numbers C

module _ (es : List Entry) (order : List Name) (places : List ℕ) (are : AreNamePlaces es order places) where
  pub places_long : length places ≡ length es
  places_long = Each-length (λ (e : Entry) (k : ℕ). slice_get order k ≡ Some e.name) are

  -- what is placed is within the order
  pub placed_within : (rows : Graph) (numbers : List ℕ) (row : List ℕ)
      → Lists (λ (k : ℕ). Any (PlacedIn places rows k) numbers) row → All (λ (k : ℕ). k < length order) row
  placed_within rows numbers row l n d m =
      let k = get_or row n d in
      let a = (l.exact k).0 (Contains-get_or row n d m) in
      let p = (a.4).has in
      let r = Each-back (λ (e : Entry) (k : ℕ). slice_get order k ≡ Some e.name) are p.1 k p.4 in
      slice_get_within order k (r.0).name r.2

  module _ (paths : List Path) (rows : Graph) (inside : AreInside es paths rows) (u : AreDistinct order)
      (numbers : List ℕ) where
    placed_to : (k : ℕ) → Any (PlacedIn places rows k) numbers → IsMemberPlace es paths order numbers k
    placed_to k a =
        let w = a.4 in
        let r = Each-back (λ (P : Path) (row : Vec ℕ Global). Lists
        (StandsInside es P) row.items) inside a.1 w.row w.at in
        let b = w.has in
        let s = (r.2.exact b.1).0 (b.0, b.2, b.3) in
        let e = Each-back (λ (e : Entry) (k : ℕ). slice_get order k ≡ Some e.name) are b.1 k b.4 in
        let same : s.0 ≡ e.0 = same_some (slice_get es b.1) s.0 e.0 s.1 e.1 in
        let at : (e.0).namespace ≡ r.0 = subst (λ (x : Entry). x.namespace ≡ r.0) same s.2 in (
          (e.0).name,
          e.2,
          (
            a.0,
            a.1,
            a.2,
            a.3,
            (
              r.0,
              r.1,
              (b.1, e.0, slice_get_within es b.1 e.0 e.1, get_or_from_slice_get es b.1 e.0 e.0 e.1, (refl, at)),
            ),
          ),
        )

    placed_from : (k : ℕ) → IsMemberPlace es paths order numbers k → Any (PlacedIn places rows k) numbers
    placed_from k m =
        let a = m.2 in
        let w = a.4 in
        let r = Each-at (λ (P : Path) (row : Vec ℕ Global). Lists (StandsInside es P) row.items) inside a.1 w.0 w.1 in
        let b = w.2 in
        let at = slice_get_read es (length es) b.0 b.1 refl b.2 (sym b.3) in
        let c = (r.2.exact b.0).1 (b.1, at, b.4.1) in
        let p = Each-at (λ (e : Entry) (k : ℕ). slice_get order k ≡ Some e.name) are b.0 b.1 at in
        let there : slice_get order p.0 ≡ Some m.0 =
        subst (λ (C : Name). slice_get order p.0 ≡ Some C) b.4.0 p.2 in
        let same : p.0 ≡ k = u p.0 k m.0 there m.1 in
        let is : slice_get places b.0 ≡ Some k = subst (λ (j : ℕ). slice_get places b.0 ≡ Some j) same p.1 in
        (a.0, a.1, a.2, a.3, record { row = r.0; at = r.1; has = (c.0, b.0, c.1, c.2, is) })

    pub member_places : (row : List ℕ) → Lists (λ (k : ℕ). Any (PlacedIn places rows k) numbers) row
        → Lists (IsMemberPlace es paths order numbers) row
    member_places row l =
        Lists-same (λ (k : ℕ). Any (PlacedIn places rows k) numbers) (IsMemberPlace es paths order numbers) row
        placed_to placed_from l
