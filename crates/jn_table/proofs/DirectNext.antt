-- The direct supers of the paths of the next depth.
use Rattle.std.proofs.Common.{◌≡◌, ℕ, List, ◌∷◌, slice_get, Some, sym, ◌∙◌, ap, subst, refl, Contains}
use Rattle.std.specs.declared.vec.Vec.{Vec}
use Rattle.std.specs.declared.alloc.Global.{Global}
use Rattle.jn_reach.specs.Graph.{HasEdge, Graph}
use Rattle.jn_reach.specs.Numbers.{Numbers}
use Rattle.jn_reach.proofs.Eachs.{Each-at, Each-back}
use Rattle.jn_reach.proofs.Searches.{same_some}
use Rattle.jn_base.specs.declared.tree.Name.{Name}
use Rattle.jn_base.specs.declared.tree.Program.{Program}
use Rattle.jn_base.specs.Paths.{Path, Extends}
use Rattle.jn_base.specs.Supers.{Direct, inherited, written, Sup, Member, Above, by_heir, by_text}
use Rattle.jn_table.specs.Gather.{IsPart}
use Rattle.jn_table.specs.Level.{DirectChild, writes, inherits, DirectRow, DirectRows, ChildPath, ChildPaths}
use Rattle.jn_table.specs.Exact.{IsFlat, IsLevel, AreChildren}
use Rattle.jn_table.specs.declared.entry.Entry.{Entry}
use Rattle.jn_table.specs.declared.gather.Part.TheVariants as part
use Rattle.jn_table.specs.declared.level.Child.{Child}
use Rattle.jn_table.specs.declared.level.Level.{Level}

direct_cases : {p : Program} {P S : Path} {C : Name} → Direct p (C ∷ P) S → Above p P C S
direct_cases (inherited {Q = Q} d s x) = by_heir Q d (record { at = _; super = s; declared = x }) refl
direct_cases (written {S = T} {D = D} s e t x) = by_text D T s e (record { at = _; super = t; declared = x }) refl

direct_by_heir : {p : Program} {P Q : Path} {C : Name} → Direct p P Q → Member p Q C → Direct p (C ∷ P) (C ∷ Q)
direct_by_heir d m = inherited d m.super m.declared

direct_by_text : {p : Program} {P T : Path} {C D : Name} → Sup p P T → Extends p (C ∷ T) D → Member p P D
    → Direct p (C ∷ P) (D ∷ P)
direct_by_text s e m = written s e m.super m.declared

module _ (p : Program) (es : List Entry) (n : ℕ) (level : Level) (children : List Child) (flat : IsFlat p es)
    (is : IsLevel p n level)
    (are : AreChildren p level children) where
  -- what the test says, for an heir P.C and another D of the namespace at the number `up`
  test_sound : (heir super : Child) (direct sups : Vec ℕ Global) (P Q : Path)
      → slice_get level.direct.items heir.up ≡ Some direct → slice_get level.sups.items heir.up ≡ Some sups
      → slice_get level.paths.items heir.up ≡ Some P → slice_get level.paths.items super.up ≡ Some Q
      → Member p Q super.name
      → DirectChild es level.paths.items direct.items sups.items heir super → Direct p (heir.name ∷ P) (super.name ∷ Q)
  test_sound heir super direct sups P Q d s at_P at_Q m (writes same any) =
      let w = any.4 in
      let edge : HasEdge level.sups.items heir.up any.1 =
      record { row = sups; at = s; in_row = (any.0, any.2, any.3) } in
      let y = is.sups.sound heir.up any.1 P at_P edge in
      let T = same_some (slice_get level.paths.items any.1) y.0 w.0 y.1 w.1 in
      let up = subst (Sup p P) T y.2 in
      let same_path : Q ≡ P = same_some (slice_get level.paths.items super.up) Q P at_Q
      (subst (λ k. slice_get level.paths.items k ≡ Some P) same at_P) in
      let m' = subst (λ (R : Path). Member p R super.name) same_path m in
      subst (λ (R : Path). Direct p (heir.name ∷ P) (super.name ∷ R)) (sym same_path)
      (direct_by_text up ((flat.extends w.0 heir.name super.name).0 w.2) m')
  test_sound heir super direct sups P Q d s at_P at_Q m (inherits same has) =
      let y = is.direct.sound heir.up super.up P at_P (record { row = direct; at = d; in_row = has }) in
      let e = same_some (slice_get level.paths.items super.up) y.0 Q y.1 at_Q in
      let up = subst (Direct p P) e y.2 in
      subst (λ (C : Name). Direct p (C ∷ P) (super.name ∷ Q)) (sym same) (direct_by_heir up m)

  complete_child : (heir : Child) (direct sups : Vec ℕ Global) (P y : Path)
      → slice_get level.direct.items heir.up ≡ Some direct → slice_get level.sups.items heir.up ≡ Some sups
      → slice_get level.paths.items heir.up ≡ Some P → Above p P heir.name y
      → (k : ℕ) × (super : Child) × (slice_get children k ≡ Some super) × DirectChild es level.paths.items direct.items sups.items heir super
      × ((Q : Path) × (slice_get level.paths.items super.up ≡ Some Q) × (y ≡ super.name ∷ Q))
  complete_child heir direct sups P y d s at_P (by_heir Q up m e) =
      let c = is.direct.complete heir.up P Q at_P up in
      let ch = are.complete c.0 Q heir.name c.1 m in
      let row = same_some (slice_get level.direct.items heir.up) c.2.row direct c.2.at d in
      let has : Contains direct.items c.0 = subst (λ (r : Vec ℕ Global). Contains r.items c.0) row c.2.in_row in (
        ch.0,
        ch.1,
        ch.2,
        inherits (sym ch.4) (subst (Contains direct.items) (sym ch.3) has),
        (
          Q,
          subst (λ k. slice_get level.paths.items k ≡ Some Q) (sym ch.3) c.1,
          e ∙ ap (λ (C : Name). C ∷ Q)
              (sym ch.4),
        ),
      )
  complete_child heir direct sups P y d s at_P (by_text D T up x m e) =
      let c = is.sups.complete heir.up P T at_P up in
      let ch = are.complete heir.up P D at_P m in
      let row = same_some (slice_get level.sups.items heir.up) c.2.row sups c.2.at s in
      let has : Contains sups.items c.0 = subst (λ (r : Vec ℕ Global). Contains r.items c.0) row c.2.in_row in
      let text : IsPart es T heir.name part.Extends (ch.1).name = subst (IsPart es T heir.name part.Extends)
      (sym ch.4) ((flat.extends T heir.name D).1 x) in (
        ch.0,
        ch.1,
        ch.2,
        writes (sym ch.3) (has.0, c.0, has.1, has.2, (T, c.1, text)),
        (
          P,
          subst (λ k. slice_get level.paths.items k ≡ Some P) (sym ch.3) at_P,
          e ∙ ap (λ (C : Name). C ∷ P)
              (sym ch.4),
        ),
      )

  module _ (paths : List Path) (rows : Graph) (cp : ChildPaths level.paths.items children paths)
      (dr : DirectRows es level children children rows) where
    next_sound : (i j : ℕ) (x : Path) → slice_get paths i ≡ Some x → HasEdge rows i j
        → (y : Path) × (slice_get paths j ≡ Some y) × Direct p x y
    next_sound i j x at_x edge =
        let h = Each-back (ChildPath level.paths.items) cp i x at_x in
        let r = Each-at (λ (heir : Child)
        (row : Vec ℕ Global). DirectRow es level children heir row.items) dr i h.0 h.1 in
        let row = same_some (slice_get rows i) edge.row r.0 edge.at r.1 in
        let has : Contains (r.0).items j = subst (λ (v : Vec ℕ Global). Contains v.items j) row edge.in_row in
        let s = ((r.2.lists).exact j).0 has in
        let y = Each-at (ChildPath level.paths.items) cp j s.super s.at in
        let m = are.sound j s.super s.at in
        let same = same_some (slice_get level.paths.items (s.super).up) m.0 y.2.up m.1 y.2.up_at in
        let m' = subst (λ (R : Path). Member p R (s.super).name) same m.2 in
        let up = test_sound h.0 s.super r.2.direct r.2.sups h.2.up y.2.up r.2.direct_at r.2.sups_at h.2.up_at y.2.up_at m' s.by in (
          y.0,
          y.1,
          subst (λ (R : Path). Direct p R y.0) (sym h.2.is)
              (subst (Direct p ((h.0).name ∷ h.2.up)) (sym y.2.is) up),
        )

    next_complete : (i : ℕ) (x y : Path) → slice_get paths i ≡ Some x → Direct p x y
        → (j : ℕ) × (slice_get paths j ≡ Some y) × HasEdge rows i j
    next_complete i x y at_x d =
        let h = Each-back (ChildPath level.paths.items) cp i x at_x in
        let r = Each-at (λ (heir : Child)
        (row : Vec ℕ Global). DirectRow es level children heir row.items) dr i h.0 h.1 in
        let c = complete_child h.0 r.2.direct r.2.sups h.2.up y r.2.direct_at r.2.sups_at h.2.up_at
        (direct_cases (subst (λ (R : Path). Direct p R y) h.2.is d)) in
        let z = Each-at (ChildPath level.paths.items) cp c.0 c.1 c.2 in
        let same = same_some (slice_get level.paths.items (c.1).up) z.2.up c.4.0 z.2.up_at c.4.1 in
        let e : z.0 ≡ y = z.2.is ∙ (ap (λ (R : Path). (c.1).name ∷ R) same ∙ sym c.4.2) in (
          c.0,
          subst (λ (R : Path). slice_get paths c.0 ≡ Some R) e z.1,
          record {
            row = r.0;
            at = r.1;
            in_row = ((r.2.lists).exact c.0).1
                (record { super = c.1; at = c.2; by = c.3 });
          },
        )

    pub next_direct : Numbers (Direct p) paths (HasEdge rows)
    next_direct = record {
      sound = next_sound;
      complete = next_complete;
    }
