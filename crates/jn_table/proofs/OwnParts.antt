-- The names that the declarations at a path have themselves.
use Rattle.std.proofs.Common.{All, ◌≡◌, ◌<◌, ◌↔◌, ◌⊎◌, ℕ, zero, suc, List, [], ◌∷◌, Contains, arith, inl, inr, length, refl, reverse, Some, slice_get, ◌∙◌, ap, map, subst, sym}
use Rattle.std.specs.List.{Any}
use Rattle.std.specs.declared.vec.Vec.{Vec}
use Rattle.std.specs.declared.alloc.Global.{Global}
use Rattle.std.proofs.lemmas.Bool.{cases_eq}
use Rattle.std.proofs.lemmas.Option.{slice_get_within}
use Rattle.std.proofs.lemmas.List.{length-map, reverse-reverse}
use Rattle.std.proofs.lemmas.List.Elements.{All-contains}
use Rattle.jn_reach.specs.Graph.{Graph, Lists}
use Rattle.jn_reach.proofs.Eachs.{Each-at, Each-length}
use Rattle.jn_reach.proofs.Searches.{same_some}
use Rattle.jn_base.specs.declared.tree.Name.{Name}
use Rattle.jn_base.specs.declared.path.Path.{Path as ShownPath}
use Rattle.jn_base.specs.Paths.{Path, shown}
use Rattle.jn_table.specs.declared.class.ClassId.{ClassId}
use Rattle.jn_table.specs.declared.entry.Entry.{Entry}
use Rattle.jn_table.specs.declared.gather.Part.{Part}
use Rattle.jn_table.specs.declared.gather.Part.TheVariants as part
use Rattle.jn_table.specs.declared.table.Table.{Table}
use Rattle.jn_table.specs.Gather.{AreAtPaths, HasNameAt, IsAtPath, OwnIn, part_of}
use Rattle.jn_table.specs.Own.{AreDeclared}
use Rattle.jn_table.specs.OwnParts.{SaysMethods, SaysFields}
use Rattle.jn_table.specs.Rows.{IsNumber}
use Rattle.jn_table.proofs.FlatExact.{flat_exact}
use Rattle.jn_table.proofs.Grouped.{at_within, held}
use Rattle.jn_table.proofs.Maps.{at_map, in_list, list_at}
use Rattle.jn_table.proofs.RowSteps.{slice_there}

-- the path of the number is the one that was found
at_number : (known : List ShownPath) (id : ClassId) (q : ShownPath) (S R : Path) → slice_get known id.0 ≡ Some q
    → S ≡ reverse q.names → IsNumber known id R → S ≡ R
at_number known id q S R at e n =
    let h : q ≡ shown R = same_some (slice_get known id.0) q (shown R) at n in
    e ∙ (ap (λ (x : ShownPath). reverse x.names) h ∙ reverse-reverse R)

pub says_methods : (t : Table) (id : ClassId) (q : ShownPath) (S : Path) (names : List Name)
    → slice_get t.known.items id.0 ≡ Some q → S ≡ reverse q.names
    → ((D : Name) → Contains names D ↔ OwnIn t.entries.items S part.Methods D) → SaysMethods t id names
says_methods t id q S names at e own = λ p R is n m.
    let s : S ≡ R = at_number t.known.items id q S R at e n in
    let o : Contains names m ↔ OwnIn t.entries.items R part.Methods m = subst
    (λ (P : Path). Contains names m ↔ OwnIn t.entries.items P part.Methods m) s (own m) in
    let k = (flat_exact p t.entries.items is.entries).methods R m in
    (λ c. k.0 (o.0 c), λ x. o.1 (k.1 x))

pub says_fields : (t : Table) (id : ClassId) (q : ShownPath) (S : Path) (names : List Name)
    → slice_get t.known.items id.0 ≡ Some q → S ≡ reverse q.names
    → ((D : Name) → Contains names D ↔ OwnIn t.entries.items S part.Fields D) → SaysFields t id names
says_fields t id q S names at e own = λ p R is n m.
    let s : S ≡ R = at_number t.known.items id q S R at e n in
    let o : Contains names m ↔ OwnIn t.entries.items R part.Fields m = subst
    (λ (P : Path). Contains names m ↔ OwnIn t.entries.items P part.Fields m) s (own m) in
    let k = (flat_exact p t.entries.items is.entries).fields R m in
    (λ c. k.0 (o.0 c), λ x. o.1 (k.1 x))

neither : (x : ℕ) (xs : List ℕ) (n : ℕ) → (x ≡ n → ⊥) → (Contains xs n → ⊥) → Contains (x ∷ xs) n → ⊥
neither x xs n other others (zero, l, e) = other e
neither x xs n other others (suc k, l, e) = others (k, omega (arith, l), e)

decided : (xs : List ℕ) (n : ℕ) → Contains xs n ⊎ (Contains xs n → ⊥)
decided [] n = inr (λ c. omega (arith, c.1))
decided (x ∷ xs) n = elim (cases_eq x n) [
  | inl e ↦ inl (0, omega arith, e)
  | inr other ↦ elim (decided xs n) [
    | inl c ↦ inl (suc c.0, omega (arith, c.1), c.2)
    | inr others ↦ inr (λ c. neither x xs n other others c)
  ]
]

at_shown : (R : Path) (q : ShownPath) → shown R ≡ q → R ≡ reverse q.names
at_shown R q e = sym (reverse-reverse R) ∙ ap (λ (x : ShownPath). reverse x.names) e

-- the numbers of the entries at each path, with the outermost name first
pub declared_shown : (es : List Entry) (paths : List Path) (rows : Graph) → AreAtPaths es paths rows
    → AreDeclared es (map shown paths) rows
declared_shown es paths rows are = record {
  long = Each-length (λ (R : Path) (row : Vec ℕ Global). Lists (IsAtPath es R) row.items) are ∙ sym (length-map paths shown);
  within = at_within es paths rows are;
  sound = λ k j i q row e known there at_j at_i.
      let r = row_of k q row known there in
      let w = (r.1 i).0 (in_list row.items j i at_j) in
      subst (λ (x : Entry). x.path ≡ reverse q.names) (same_some (slice_get es i) w.0 e w.1 at_i) (w.2 ∙ r.0.1);
  complete = λ k i q row e known there at_i path none.
      let r = row_of k q row known there in
      let j = list_at row.items i ((r.1 i).1 (e, at_i, path ∙ sym r.0.1)) in
      none j.0 j.1;
} where
  row_of : (k : ℕ) (q : ShownPath) (row : Vec ℕ Global) → slice_get (map shown paths) k ≡ Some q → slice_get rows k ≡ Some row
      → (w : (R : Path) × (R ≡ reverse q.names)) × ((b : ℕ) → Contains row.items b ↔ IsAtPath es w.0 b)
  row_of k q row known there =
      let R = at_map shown paths k q known in
      let r = Each-at (λ (P : Path) (v : Vec ℕ Global). Lists (IsAtPath es P) v.items) are k R.0 R.1 in
      let l = subst (λ (v : Vec ℕ Global). Lists (IsAtPath es R.0) v.items) (same_some (slice_get rows k) r.0 row r.1 there) r.2 in
      ((R.0, at_shown R.0 q R.2), l.exact)

pub declared_none : (es : List Entry) (known : List ShownPath) (rows : Graph) → known ≡ [] → rows ≡ [] → AreDeclared es known rows
declared_none es known rows a b =
    subst (λ (ks : List ShownPath). AreDeclared es ks rows) (sym a)
    (subst (AreDeclared es []) (sym b) (record {
      long = refl;
      within = λ k d l. absurd (omega (arith, l));
      sound = λ k j i q row e known there at_j at_i. absurd (omega (arith, slice_get_within [] k row there));
      complete = λ k i q row e known there at_i path none. omega (arith, slice_get_within [] k row there);
    }))

-- at the number of a path
module _ (es : List Entry) (known : List ShownPath) (rows : Graph) (are : AreDeclared es known rows) (k : ℕ)
    (q : ShownPath) (row : Vec ℕ Global) (at : slice_get known k ≡ Some q) (there : slice_get rows k ≡ Some row) where
  row_within : All (λ i. i < length es) row.items
  row_within = All-contains (λ (v : Vec ℕ Global). All (λ i. i < length es) v.items) rows row are.within (in_list rows k row there)

  exact : (b : ℕ) → Contains row.items b ↔ IsAtPath es (reverse q.names) b
  exact b = (to, from) where
    to : Contains row.items b → IsAtPath es (reverse q.names) b
    to c =
        let j = list_at row.items b c in
        let e = slice_there es b (All-contains (λ (i : ℕ). i < length es) row.items b row_within c) in
        (e.0, e.1, are.sound k j.0 b q row e.0 at there j.1 e.1)

    from : IsAtPath es (reverse q.names) b → Contains row.items b
    from w = elim (decided row.items b) [
      | inl c ↦ c
      | inr n ↦ absurd (are.complete k b q row w.0 at there w.1 w.2 (λ j at_j. n (in_list row.items j b at_j)))
    ]

  pub named_there : (part : Part) (names : List Name)
      → ((D : Name) → Contains names D ↔ Any (HasNameAt es part D) row.items)
      → (D : Name) → Contains names D ↔ OwnIn es (reverse q.names) part D
  named_there part names own D =
      let h = held es (reverse q.names) row.items exact (λ (x : Entry). Contains (part_of part x) D) in
      (λ c. h.0 ((own D).0 c), λ o. (own D).1 (h.1 o))
