-- The next level is exact.
use Rattle.std.proofs.Common.{◌≡◌, ◌<◌, ◌+◌, ℕ, List, [], ◌∷◌, length, slice_get, Some, arith, sym, ◌∙◌, ap, get_or, subst, All, suc}
use Rattle.std.specs.List.Sorted.{IsStrictlyIncreasing}
use Rattle.std.specs.declared.vec.Vec.{Vec}
use Rattle.std.specs.declared.alloc.Global.{Global}
use Rattle.std.proofs.lemmas.Option.{slice_get-get_or, slice_get_within}
use Rattle.std.proofs.lemmas.List.Elements.{Contains-get_or}
use Rattle.jn_reach.specs.Chain.{Chain, here, step}
use Rattle.jn_reach.specs.Graph.{Graph, HasEdge, IsClosure, InRange}
use Rattle.jn_reach.specs.Numbers.{AreDistinct}
use Rattle.jn_reach.proofs.Eachs.{Each-at, Each-back, Each-length}
use Rattle.jn_reach.proofs.Numbering.{Numbers-closure, Numbers-same, closure_in_range}
use Rattle.jn_reach.proofs.Searches.{same_some}
use Rattle.jn_base.specs.declared.tree.Name.{Name}
use Rattle.jn_base.specs.declared.tree.Program.{Program}
use Rattle.jn_base.specs.Paths.{Path}
use Rattle.jn_base.specs.Supers.{Direct, Sup, itself, above, Member}
use Rattle.jn_base.specs.Universe.{IsNamespace}
use Rattle.jn_table.specs.Level.{ChildPath, ChildPaths, DirectRow, DirectRows, IsShaped}
use Rattle.jn_table.specs.Exact.{IsLevel, AreChildren, IsNextOf}
use Rattle.jn_table.specs.declared.entry.Entry.{Entry}
use Rattle.jn_table.specs.declared.level.Child.{Child}
use Rattle.jn_table.specs.declared.level.Level.{Level}
use Rattle.jn_table.proofs.DirectNext.{next_direct}

-- supers are chains of direct supers
pub sup_chain : (p : Program) (R S : Path) → Chain (Direct p) R S → Sup p R S
sup_chain p R S here = itself
sup_chain p R S (step {b = T} d c) = above d (sup_chain p T S c)

pub chain_sup : (p : Program) (R S : Path) → Sup p R S → Chain (Direct p) R S
chain_sup p R S itself = here
chain_sup p R S (above {S = T} d s) = step d (chain_sup p T S s)

pub cons_head : (C D : Name) (P Q : Path) → ◌≡◌ {A = Path} (C ∷ P) (D ∷ Q) → C ≡ D
cons_head C D P Q e = cc

pub cons_tail : (C D : Name) (P Q : Path) → ◌≡◌ {A = Path} (C ∷ P) (D ∷ Q) → P ≡ Q
cons_tail C D P Q e = cc

module _ (p : Program) (n : ℕ) (level : Level) (children : List Child) (is : IsLevel p n level)
    (are : AreChildren p level children)
    (paths : List Path) (cp : ChildPaths level.paths.items children paths) where
  pub next_paths_sound : (k : ℕ) (P : Path) → slice_get paths k ≡ Some P → IsNamespace p P × (length P ≡ n + 1)
  next_paths_sound k P at =
      let h = Each-back (ChildPath level.paths.items) cp k P at in
      let up = is.paths_sound (h.0).up h.2.up h.2.up_at in
      let m = are.sound k h.0 h.1 in
      let same = same_some (slice_get level.paths.items (h.0).up) m.0 h.2.up m.1 h.2.up_at in
      let member = subst (λ (Q : Path). Member p Q (h.0).name) same m.2 in
      subst (λ (Q : Path). IsNamespace p Q × (length Q ≡ n + 1)) (sym h.2.is)
      ((up.0, member), (let e : suc (length h.2.up) ≡ n + 1 = omega (arith, up.1) in e))

  pub next_paths_complete : (P : Path) → IsNamespace p P → length P ≡ n + 1 → (k : ℕ) × (slice_get paths k ≡ Some P)
  next_paths_complete [] s e = absurd (omega (arith, e))
  next_paths_complete (C ∷ Q) s e =
      let i = is.paths_complete Q s.0 (omega (arith, e)) in
      let ch = are.complete i.0 Q C i.1 s.1 in
      let at = Each-at (ChildPath level.paths.items) cp ch.0 ch.1 ch.2 in
      let up : at.2.up ≡ Q = same_some (slice_get level.paths.items (ch.1).up) at.2.up Q at.2.up_at
      (subst (λ j. slice_get level.paths.items j ≡ Some Q) (sym ch.3) i.1) in
      let path : at.0 ≡ C ∷ Q = at.2.is ∙ (ap (λ (R : Path). (ch.1).name ∷ R) up ∙ ap (λ (D : Name). D ∷ Q) ch.4) in
      (ch.0, subst (λ (R : Path). slice_get paths ch.0 ≡ Some R) path at.1)

  next_distinct : AreDistinct paths
  next_distinct k l P at_k at_l =
      let a = Each-back (ChildPath level.paths.items) cp k P at_k in
      let b = Each-back (ChildPath level.paths.items) cp l P at_l in
      let e = sym a.2.is ∙ b.2.is in
      let up = cons_tail (a.0).name (b.0).name a.2.up b.2.up e in
      let name = cons_head (a.0).name (b.0).name a.2.up b.2.up e in
      let same = is.distinct (a.0).up (b.0).up b.2.up
      (subst (λ (R : Path). slice_get level.paths.items (a.0).up ≡ Some R) up a.2.up_at) b.2.up_at in
      are.distinct k l a.0 b.0 a.1 b.1 same name

rows_long : (es : List Entry) (level : Level) (children : List Child) (below : Level)
    → ChildPaths level.paths.items children below.paths.items
    → DirectRows es level children children below.direct.items
    → length below.direct.items ≡ length below.paths.items
rows_long es level children below cp dr =
    Each-length (λ (heir : Child) (row : Vec ℕ Global). DirectRow es level children heir row.items) dr
    ∙ sym (Each-length (ChildPath level.paths.items) cp)

pub next_exact : (es : List Entry) (level : Level) (children : List Child) (below : Level)
    → ChildPaths level.paths.items children below.paths.items
    → DirectRows es level children children below.direct.items
    → IsClosure below.direct.items below.sups.items → IsNextOf es level children below
next_exact es level children below cp dr closed p n flat is are =
    let direct = next_direct p es n level children flat is are below.paths.items below.direct.items cp dr in
    record {
      paths_sound = next_paths_sound p n level children is are below.paths.items cp;
      paths_complete = next_paths_complete p n level children is are below.paths.items cp;
      distinct = next_distinct p n level children is are below.paths.items cp;
      direct = direct;
      sups = Numbers-same (Chain (Direct p)) (Sup p) below.paths.items (HasEdge below.sups.items) (sup_chain p)
          (chain_sup p)
          (Numbers-closure (Direct p) below.paths.items below.direct.items below.sups.items
          (rows_long es level children below cp dr) closed direct);
    }

pub rows_in_range : (es : List Entry) (level : Level) (children : List Child) (rows : Graph)
    → DirectRows es level children children rows → InRange rows (length rows)
rows_in_range es level children rows dr i row l k d m =
    let r = Each-back (λ (heir : Child) (row : Vec ℕ Global). DirectRow es level children heir row.items) dr i
    (get_or rows i row) (slice_get-get_or rows i row l) in
    let long = Each-length (λ (heir : Child) (row : Vec ℕ Global). DirectRow es level children heir row.items) dr in
    let s = ((r.2.lists).exact (get_or (get_or rows i row).items k d)).0
    (Contains-get_or (get_or rows i row).items k d m) in
    omega (arith, long, slice_get_within children (get_or (get_or rows i row).items k d) s.super s.at)

rows_ascending : (es : List Entry) (level : Level) (children : List Child) (rows : Graph)
    → DirectRows es level children children rows → All (λ (row : Vec ℕ Global). IsStrictlyIncreasing row.items) rows
rows_ascending es level children rows dr i row l =
    let r = Each-back (λ (heir : Child) (row : Vec ℕ Global). DirectRow es level children heir row.items) dr i
    (get_or rows i row) (slice_get-get_or rows i row l) in
    (r.2.lists).ascending

pub next_shaped : (es : List Entry) (level : Level) (children : List Child) (below : Level)
    → ChildPaths level.paths.items children below.paths.items
    → DirectRows es level children children below.direct.items
    → IsClosure below.direct.items below.sups.items → IsShaped below
next_shaped es level children below cp dr closed = record {
  direct = long;
  sups = closed.long ∙ long;
  direct_in = subst (λ k. All (λ (row : Vec ℕ Global). All (λ (j : ℕ). j < k) row.items) below.direct.items) long
      (rows_in_range es level children below.direct.items dr);
  ascending = rows_ascending es level children below.direct.items dr;
  sups_in = subst (λ k. All (λ (row : Vec ℕ Global). All (λ (j : ℕ). j < k) row.items) below.sups.items) long
      (closure_in_range below.direct.items below.sups.items
      (rows_in_range es level children below.direct.items dr) closed);
} where
  long : length below.direct.items ≡ length below.paths.items
  long = rows_long es level children below cp dr
