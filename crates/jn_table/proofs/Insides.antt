-- The entries by their namespaces.
use Rattle.std.proofs.Common.{◌≡◌, ◌<◌, ◌↔◌, ℕ, List, length, slice_get, get_or, sym, subst, refl, Contains, All}
use Rattle.std.specs.List.{Any}
use Rattle.std.specs.declared.vec.Vec.{Vec}
use Rattle.std.specs.declared.alloc.Global.{Global}
use Rattle.std.proofs.lemmas.List.Elements.{Contains-get_or}
use Rattle.std.proofs.lemmas.Option.{slice_get_within, slice_get_read, slice_get-get_or, get_or_from_slice_get}
use Rattle.jn_reach.specs.Graph.{Graph, Lists}
use Rattle.jn_reach.proofs.Eachs.{Each-at, Each-back, Each-length}
use Rattle.jn_reach.proofs.Searches.{same_some}
use Rattle.jn_base.specs.declared.tree.Name.{Name}
use Rattle.jn_base.specs.Paths.{Path}
use Rattle.jn_table.specs.Gather.{StandsInside, AreInside, PartIn, PartsAt}
use Rattle.jn_table.specs.declared.entry.Entry.{Entry}
use Rattle.jn_table.specs.declared.gather.Part.{Part}

inside_within : (es : List Entry) (P : Path) (i : ℕ) → StandsInside es P i → i < length es
inside_within es P i s = slice_get_within es i s.0 s.1

module _ (es : List Entry) (paths : List Path) (rows : Graph) (are : AreInside es paths rows) where
  pub insides_long : length rows ≡ length paths
  insides_long = Each-length (λ (P : Path) (row : Vec ℕ Global). Lists (StandsInside es P) row.items) are

  pub insides_within : All (λ (row : Vec ℕ Global). All (λ i. i < length es) row.items) rows
  insides_within k row l i d m =
      let v = get_or rows k row in
      let r = Each-back (λ (P : Path) (row : Vec ℕ Global). Lists (StandsInside es P) row.items) are k v
      (slice_get-get_or rows k row l) in
      inside_within es r.0 (get_or v.items i d) ((r.2.exact (get_or v.items i d)).0 (Contains-get_or v.items i d m))

  pub named_parts : (C : Name) (part : Part) (numbers : List ℕ) (D : Name)
      → Any (PartIn es C part rows D) numbers ↔ PartsAt es paths C part numbers D
  named_parts C part numbers D = (to, from) where
    to : Any (PartIn es C part rows D) numbers → PartsAt es paths C part numbers D
    to a =
        let w = a.4 in
        let r = Each-back (λ (P : Path) (row : Vec ℕ Global). Lists
        (StandsInside es P) row.items) are a.1 w.row w.at in
        let b = w.has in
        let s = (r.2.exact b.1).0 (b.0, b.2, b.3) in
        let e = b.4 in
        let same : s.0 ≡ e.0 = same_some (slice_get es b.1) s.0 e.0 s.1 e.1 in
        let at : (e.0).namespace ≡ r.0 = subst (λ (x : Entry). x.namespace ≡ r.0) same s.2 in (
          a.0,
          a.1,
          a.2,
          a.3,
          (
            r.0,
            r.1,
            (b.1, e.0, slice_get_within es b.1 e.0 e.1, get_or_from_slice_get es b.1 e.0 e.0 e.1, (e.2, at, e.3)),
          ),
        )

    from : PartsAt es paths C part numbers D → Any (PartIn es C part rows D) numbers
    from a =
        let w = a.4 in
        let r = Each-at (λ (P : Path) (row : Vec ℕ Global). Lists (StandsInside es P) row.items) are a.1 w.0 w.1 in
        let b = w.2 in
        let at = slice_get_read es (length es) b.0 b.1 refl b.2 (sym b.3) in
        let c = (r.2.exact b.0).1 (b.1, at, b.4.1) in
        (a.0, a.1, a.2, a.3, record { row = r.0; at = r.1; has = (c.0, b.0, c.1, c.2, (b.1, at, b.4.0, b.4.2)) })

  -- what was gathered by the rows was gathered by the paths
  pub by_parts : (C : Name) (part : Part) (numbers : List ℕ) (all : List Name)
      → ((D : Name) → Contains all D ↔ Any (PartIn es C part rows D) numbers)
      → (D : Name) → Contains all D ↔ PartsAt es paths C part numbers D
  by_parts C part numbers all g D =
      (λ c. (named_parts C part numbers D).0 ((g D).0 c), λ m. (g D).1 ((named_parts C part numbers D).1 m))
