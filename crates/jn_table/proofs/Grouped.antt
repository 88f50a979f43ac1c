-- The places of keys, and the numbers of what goes with a path.
use Rattle.std.proofs.Common.{All, ◌≡◌, ◌<◌, ◌≤◌, ◌+◌, ◌++◌, ◌∙◌, ℕ, List, [], ◌∷◌, Contains, Option, Some, None, ap, arith, get_or, inl, inr, length, map, refl, reverse, slice_get, subst, sym, take, ◌↔◌, Bool}
use Rattle.std.specs.Prelude.{IfSome, IfNone}
use Rattle.std.specs.List.{Any}
use Rattle.std.specs.declared.vec.Vec.{Vec}
use Rattle.std.specs.declared.alloc.Global.{Global}
use Rattle.std.proofs.lemmas.Bool.{cases_lt}
use Rattle.std.proofs.lemmas.List.{map-append, reverse-reverse, take_more}
use Rattle.std.proofs.lemmas.List.Elements.{Contains-get_or}
use Rattle.std.proofs.lemmas.Option.{slice_get_within, slice_get_read, slice_get-get_or, get_or_from_slice_get}
use Rattle.jn_reach.specs.Each.{Each, none, more}
use Rattle.jn_reach.specs.Graph.{Graph, Lists}
use Rattle.jn_reach.specs.Pairs.{AreMembers}
use Rattle.jn_reach.proofs.Eachs.{Each-at, Each-back, Each-length}
use Rattle.jn_reach.proofs.Listing.{Lists-same}
use Rattle.jn_reach.proofs.Searches.{same_some}
use Rattle.jn_index.specs.Index.{IsIndex, IsFirst, keys_in, numbers_of}
use Rattle.jn_index.proofs.Places.{key_at, thing_at}
use Rattle.jn_base.specs.declared.tree.Kind.{Kind}
use Rattle.jn_base.specs.declared.tree.Name.{Name}
use Rattle.jn_base.specs.Paths.{Path}
use Rattle.jn_table.specs.Gather.{AreAtPaths, AreInside, IsAtPath, StandsInside, part_of}
use Rattle.jn_table.specs.Groups.{IsFirstOf, IsGroups, PlacesOf, RowAt, StandsAt, entry_key, namespace_key}
use Rattle.jn_table.specs.Own.{KindsAt, NamesAt, OwnKinds, OwnNames}
use Rattle.jn_table.specs.Places.{path_key}
use Rattle.jn_table.specs.declared.entry.Entry.{Entry}
use Rattle.jn_table.specs.declared.gather.Part.{Part}
use Rattle.jn_table.specs.declared.groups.Groups.{Groups}
use Rattle.jn_table.proofs.Located.{names_exact}
use Rattle.jn_table.proofs.Places.{take_whole}

-- ---- lists of keys

module _ {A : Type 0} (key : A → List ℕ) (xs : List A) where
  pub keys_more : (k : ℕ) (x : A) → k < length xs → x ≡ get_or xs k x → (all after : List (Vec ℕ Global))
      (v : Vec ℕ Global) → v.items ≡ key x → after ≡ all ++ v ∷ []
      → keys_in all ≡ map key (take k xs) → keys_in after ≡ map key (take (k + 1) xs)
  keys_more k x l e all after v is f g =
      let taken : take (k + 1) xs ≡ take k xs ++ x ∷ [] = take_more xs k x l ∙ ap (λ (y : A). take k xs ++ y ∷ []) (sym e) in
      ap keys_in f ∙ (map-append numbers_of all (v ∷ [])
      ∙ (ap (λ (ks : List (List ℕ)). ks ++ v.items ∷ []) g
      ∙ (ap (λ (n : List ℕ). map key (take k xs) ++ n ∷ []) is
      ∙ sym (ap (map key) taken ∙ map-append key (take k xs) (x ∷ [])))))

  pub keys_all : (i : ℕ) (all : List (Vec ℕ Global)) → length xs ≤ i → keys_in all ≡ map key (take i xs)
      → keys_in all ≡ map key xs
  keys_all i all l g = g ∙ ap (map key) (take_whole i xs l)

-- ---- the places of a key

one_first : (keys : List (List ℕ)) (key : List ℕ) (a b : ℕ) → IsFirst keys key a → IsFirst keys key b → a ≡ b
one_first keys key a b f g = elim (cases_lt a b) [
  | inl l ↦ absurd (g.none_before a l f.at)
  | inr l ↦ elim (cases_lt b a) [
    | inl m ↦ absurd (f.none_before b m g.at)
    | inr m ↦ omega (arith, l, m)
  ]
]

module _ (keys : List (Vec ℕ Global)) (firsts : List ℕ) (each : Each (IsFirstOf (keys_in keys)) keys firsts) where
  pub firsts_within : All (λ (f : ℕ). f < length firsts) firsts
  firsts_within k d l =
      let f = get_or firsts k d in
      let r = Each-back (IsFirstOf (keys_in keys)) each k f (slice_get-get_or firsts k d l) in
      let t = thing_at numbers_of keys f r.0.items r.2.at in
      omega (arith, slice_get_within keys f t.0 t.1, Each-length (IsFirstOf (keys_in keys)) each)

  pub groups_are : (g : Groups) → IsIndex (keys_in keys) g.index.items → AreMembers firsts g.rows.items
      → IsGroups (keys_in keys) g
  groups_are g i m = record { index = i; rows = rows } where
    rows : (a : ℕ) (key : List ℕ) → IsFirst (keys_in keys) key a
        → (row : Vec ℕ Global) × (slice_get g.rows.items a ≡ Some row) × Lists (StandsAt (keys_in keys) key) row.items
    rows a key first =
        let t = thing_at numbers_of keys a key first.at in
        let r = Each-at (IsFirstOf (keys_in keys)) each a t.0 t.1 in
        let within : a < length g.rows.items = omega (arith, slice_get_within firsts a r.0 r.1, m.long) in
        let row = get_or g.rows.items a t.0 in
        let at = slice_get-get_or g.rows.items a t.0 within in
        (row, at, Lists-same (λ (b : ℕ). slice_get firsts b ≡ Some a) (StandsAt (keys_in keys) key) row.items to from (m.each a row at)) where
          to : (b : ℕ) → slice_get firsts b ≡ Some a → StandsAt (keys_in keys) key b
          to b h =
              let r = Each-back (IsFirstOf (keys_in keys)) each b a h in
              let same : r.0.items ≡ key = same_some (slice_get (keys_in keys) a) r.0.items key r.2.at first.at in
              subst (λ (k : List ℕ). slice_get (keys_in keys) b ≡ Some k) same (key_at numbers_of keys b r.0 r.1)

          from : (b : ℕ) → StandsAt (keys_in keys) key b → slice_get firsts b ≡ Some a
          from b h =
              let t = thing_at numbers_of keys b key h in
              let r = Each-at (IsFirstOf (keys_in keys)) each b t.0 t.1 in
              let f : IsFirst (keys_in keys) key r.0 = subst (λ (k : List ℕ). IsFirst (keys_in keys) k r.0) t.2 r.2 in
              subst (λ (n : ℕ). slice_get firsts b ≡ Some n) (one_first (keys_in keys) key r.0 a f first) r.1

-- what the row has where the first place was found or there is none
pub places_listed : (groups : Groups) (key : List ℕ) (o : Option ℕ) (xs : List ℕ)
    → IfSome o (λ k. (keys : List (List ℕ)) → IsIndex keys groups.index.items → IsFirst keys key k)
    → IfNone o ((keys : List (List ℕ)) → IsIndex keys groups.index.items → (k : ℕ) → slice_get keys k ≡ Some key → ⊥)
    → RowAt groups.rows.items o xs → (keys : List (List ℕ)) → IsGroups keys groups → Lists (StandsAt keys key) xs
places_listed groups key (Some k) xs some missing at keys are =
    let r = are.rows k key (some keys are.index) in
    subst (Lists (StandsAt keys key)) (sym (at r.0 r.1)) r.2
places_listed groups key None xs some missing at keys are =
    subst (Lists (StandsAt keys key)) (sym at) (record {
      exact = λ b. (λ c. absurd (omega (arith, c.1)), λ s. absurd (missing keys are.index b s));
      ascending = λ k l. absurd (omega (arith, l));
    })

-- ---- what goes with a path

pub same_path : (P Q : Path) → path_key P ≡ path_key Q → P ≡ Q
same_path P Q e =
    sym (reverse-reverse P) ∙ (ap reverse (names_exact (reverse P) (reverse Q) e) ∙ reverse-reverse Q)

module _ {A : Type 0} (f : A → Path) (xs : List A) (P : Path) where
  to_thing : (k : ℕ) → StandsAt (map (λ (x : A). path_key (f x)) xs) (path_key P) k
      → (x : A) × (slice_get xs k ≡ Some x) × (f x ≡ P)
  to_thing k e =
      let w = thing_at (λ (x : A). path_key (f x)) xs k (path_key P) e in
      (w.0, w.1, same_path (f w.0) P w.2)

  from_thing : (k : ℕ) → (x : A) × (slice_get xs k ≡ Some x) × (f x ≡ P)
      → StandsAt (map (λ (x : A). path_key (f x)) xs) (path_key P) k
  from_thing k w =
      key_at (λ (x : A). path_key (f x)) xs k w.0 w.1
      ∙ ap (λ (Q : Path). let o : Option (List ℕ) = Some (path_key Q) in o) w.2

  pub lists_with : (row : List ℕ) → Lists (StandsAt (map (λ (x : A). path_key (f x)) xs) (path_key P)) row
      → Lists (λ k. (x : A) × (slice_get xs k ≡ Some x) × (f x ≡ P)) row
  lists_with row l =
      Lists-same (StandsAt (map (λ (x : A). path_key (f x)) xs) (path_key P))
      (λ k. (x : A) × (slice_get xs k ≡ Some x) × (f x ≡ P)) row to_thing from_thing l

pub each_then : {A B : Type 0} (R S : A → B → Type 0) (xs : List A) (ys : List B) → ((x : A) (y : B) → R x y → S x y)
    → Each R xs ys → Each S xs ys
each_then R S _ _ f none = none
each_then R S _ _ f (more {x = a} {y = b} {xs = us} {ys = vs} r e) = more (f a b r) (each_then R S us vs f e)

pub each_through : {A B C : Type 0} (R : A → B → Type 0) (S : B → C → Type 0) (T : A → C → Type 0) (xs : List A)
    (ys : List B) (zs : List C) → ((x : A) (y : B) (z : C) → R x y → S y z → T x z)
    → Each R xs ys → Each S ys zs → Each T xs zs
each_through R S T _ _ _ f none none = none
each_through R S T _ _ _ f (more {x = a} {y = b} {xs = us} {ys = vs} r e) (more {y = d} {ys = ws} s g) =
    more (f a b d r s) (each_through R S T us vs ws f e g)

module _ (es : List Entry) (paths : List Path) (rows : Graph) where
  pub at_paths_are : Each (PlacesOf (map entry_key es)) paths rows → AreAtPaths es paths rows
  at_paths_are e =
      each_then (PlacesOf (map entry_key es)) (λ (R : Path) (row : Vec ℕ Global). Lists (IsAtPath es R) row.items) paths rows
      (λ R row l. lists_with (λ (x : Entry). x.path) es R row.items l) e

  pub insides_are : Each (PlacesOf (map namespace_key es)) paths rows → AreInside es paths rows
  insides_are e =
      each_then (PlacesOf (map namespace_key es)) (λ (R : Path) (row : Vec ℕ Global). Lists (StandsInside es R) row.items)
      paths rows
      (λ R row l. lists_with (λ (x : Entry). x.namespace) es R row.items l) e

-- ---- by the entries at a path

module _ (es : List Entry) (R : Path) (row : List ℕ) (exact : (b : ℕ) → Contains row b ↔ IsAtPath es R b)
    (F : Entry → Type 0) where
  pub held : Any (λ (n : ℕ). (e : Entry) × (slice_get es n ≡ Some e) × F e) row
      ↔ Any (λ (e : Entry). (e.path ≡ R) × F e) es
  held = (to, from) where
    to : Any (λ (n : ℕ). (e : Entry) × (slice_get es n ≡ Some e) × F e) row → Any (λ (e : Entry). (e.path ≡ R) × F e) es
    to a =
        let n = a.1 in
        let p = (exact n).0 (a.0, a.2, a.3) in
        let w = a.4 in
        let same : p.0 ≡ w.0 = same_some (slice_get es n) p.0 w.0 p.1 w.1 in (
          n,
          w.0,
          slice_get_within es n w.0 w.1,
          get_or_from_slice_get es n w.0 w.0 w.1,
          (subst (λ (e : Entry). e.path ≡ R) same p.2, w.2),
        )

    from : Any (λ (e : Entry). (e.path ≡ R) × F e) es → Any (λ (n : ℕ). (e : Entry) × (slice_get es n ≡ Some e) × F e) row
    from b =
        let at = slice_get_read es (length es) b.0 b.1 refl b.2 (sym b.3) in
        let c = (exact b.0).1 (b.1, at, b.4.0) in
        (c.0, b.0, c.1, c.2, (b.1, at, b.4.1))

through : {P Q S : Type 0} → P ↔ Q → Q ↔ S → P ↔ S
through f g = (λ p. g.0 (f.0 p), λ s. f.1 (g.1 s))

module _ (es : List Entry) (paths : List Path) (rows : Graph) (are : AreAtPaths es paths rows) where
  pub at_within : All (λ (row : Vec ℕ Global). All (λ i. i < length es) row.items) rows
  at_within k row l i d m =
      let v = get_or rows k row in
      let r = Each-back (λ (P : Path) (row : Vec ℕ Global). Lists (IsAtPath es P) row.items) are k v
      (slice_get-get_or rows k row l) in
      let w = (r.2.exact (get_or v.items i d)).0 (Contains-get_or v.items i d m) in
      slice_get_within es (get_or v.items i d) w.0 w.1

  pub own_kinds_are : (kind : Kind) (flags : List Bool) → Each (KindsAt es kind) rows flags
      → Each (OwnKinds es kind) paths flags
  own_kinds_are kind flags e =
      each_through (λ (P : Path) (row : Vec ℕ Global). Lists (IsAtPath es P) row.items) (KindsAt es kind) (OwnKinds es kind)
      paths rows flags
      (λ R row flag l k. through k (held es R row.items l.exact (λ (x : Entry). x.kind ≡ kind))) are e

  pub own_names_are : (part : Part) (all : List (Vec Name Global)) → Each (NamesAt es part) rows all
      → Each (OwnNames es part) paths all
  own_names_are part all e =
      each_through (λ (P : Path) (row : Vec ℕ Global). Lists (IsAtPath es P) row.items) (NamesAt es part) (OwnNames es part)
      paths rows all
      (λ R row names l k D. through (k D) (held es R row.items l.exact (λ (x : Entry). Contains (part_of part x) D))) are e
