-- The rows of direct supers, by keys.
use Rattle.std.proofs.Common.{◌≡◌, ℕ, List, [], map, slice_get, Some, ap, refl, ◌↔◌, subst, sym, Contains, inl, inr}
use Rattle.std.specs.List.{Any}
use Rattle.std.specs.declared.vec.Vec.{Vec}
use Rattle.std.specs.declared.alloc.Global.{Global}
use Rattle.jn_reach.specs.Graph.{Lists}
use Rattle.jn_reach.proofs.Listing.{Lists-same}
use Rattle.jn_index.proofs.Places.{key_at, thing_at}
use Rattle.jn_base.specs.declared.tree.Name.{Name}
use Rattle.jn_table.specs.Gather.{Gains, PartAt}
use Rattle.jn_table.specs.Groups.{StandsAt}
use Rattle.jn_table.specs.Level.{DirectBy, writes_it, inherits_it, DirectByAt, DirectChild, writes, inherits, DirectChildAt}
use Rattle.jn_table.specs.Level.{DirectRow, IsInheritedAt, IsWrittenAt, child_key, key_under}
use Rattle.jn_table.specs.declared.entry.Entry.{Entry}
use Rattle.jn_table.specs.declared.gather.Part.TheVariants as part
use Rattle.jn_table.specs.declared.level.Child.{Child}
use Rattle.jn_table.specs.declared.level.Level.{Level}
use Rattle.jn_table.proofs.Gathers.{gains_exact}

-- the keys of two children, or of one and a name under a path
same_key : (a b : ℕ) (C D : Name) → key_under a C ≡ key_under b D → (a ≡ b) × (C ≡ D)
same_key a b C D e =
    let n : C.0 ≡ D.0 = cc e in
    ((let u : a ≡ b = cc e in u), ap (λ (k : ℕ). let name : Name = record { 0 = k } in name) n)

key_of_child : (children : List Child) (c : Child) (k up : ℕ) (D : Name) → slice_get children k ≡ Some c → c.up ≡ up
    → c.name ≡ D → StandsAt (map child_key children) (key_under up D) k
key_of_child children c k up D at u n =
    rw (sym u, sym n) (key_at child_key children k c at)

-- what was gathered by the keys
pub by_keys : (written : List Name) (direct : List ℕ) (children : List Child) (heir : Child)
    (before mid all row : List ℕ)
    → before ≡ [] → Gains (IsWrittenAt (map child_key children) heir.up written) before mid
    → Gains (IsInheritedAt (map child_key children) direct heir.name) mid all → Lists (Contains all) row
    → Lists (DirectByAt written direct children heir) row
by_keys written direct children heir before mid all row none g h =
    Lists-same (Contains all) (DirectByAt written direct children heir) row to from where
      to_written : (k : ℕ) → IsWrittenAt (map child_key children) heir.up written k
          → DirectByAt written direct children heir k
      to_written k a =
          let t = thing_at child_key children k (key_under heir.up a.1) a.4 in
          let e = same_key (t.0).up heir.up (t.0).name a.1 t.2 in
          record {
            super = t.0;
            at = t.1;
            by = writes_it (sym e.0) (subst (Contains written) (sym e.1) (a.0, a.2, a.3));
          }

      to_inherited : (k : ℕ) → IsInheritedAt (map child_key children) direct heir.name k
          → DirectByAt written direct children heir k
      to_inherited k a =
          let t = thing_at child_key children k (key_under a.1 heir.name) a.4 in
          let e = same_key (t.0).up a.1 (t.0).name heir.name t.2 in
          record {
            super = t.0;
            at = t.1;
            by = inherits_it (sym e.1) (subst (Contains direct) (sym e.0) (a.0, a.2, a.3));
          }

      to : (k : ℕ) → Contains all k → DirectByAt written direct children heir k
      to k c = elim ((h k).0 c) [
        | inl m ↦
            to_written k
            ((gains_exact (IsWrittenAt (map child_key children) heir.up written) before mid none g k).0 m)
        | inr a ↦ to_inherited k a
      ]

      by_super : (k : ℕ) (super : Child) → slice_get children k ≡ Some super → DirectBy written direct heir super
          → Contains all k
      by_super k super at (writes_it u c) =
          let e = key_of_child children super k heir.up super.name at (sym u) refl in
          (h k).1 (inl ((g k).1 (inr (c.0, super.name, c.1, c.2, e))))
      by_super k super at (inherits_it n c) =
          (h k).1 (inr (c.0, super.up, c.1, c.2, key_of_child children super k super.up heir.name at refl (sym n)))

      from : (k : ℕ) → DirectByAt written direct children heir k → Contains all k
      from k d = by_super k d.super d.at d.by

pub row_from_tests : (es : List Entry) (level : Level) (children : List Child) (heir : Child)
    (direct sups : Vec ℕ Global) (written : List Name) (row : List ℕ)
    → slice_get level.direct.items heir.up ≡ Some direct → slice_get level.sups.items heir.up ≡ Some sups
    → ((D : Name) → Contains written D ↔ Any (PartAt es level.paths.items heir.name part.Extends D) sups.items)
    → Lists (DirectByAt written direct.items children heir) row → DirectRow es level children heir row
row_from_tests es level children heir direct sups written row d s w lists = record {
  direct = direct;
  direct_at = d;
  sups = sups;
  sups_at = s;
  lists = Lists-same (DirectByAt written direct.items children heir)
      (DirectChildAt es level.paths.items direct.items sups.items children heir) row
      (λ k b. record { super = b.super; at = b.at; by = forth b.super b.by })
      (λ k b. record { super = b.super; at = b.at; by = back b.super b.by }) lists;
} where
  forth : (super : Child) → DirectBy written direct.items heir super
      → DirectChild es level.paths.items direct.items sups.items heir super
  forth super (writes_it u c) = writes u ((w super.name).0 c)
  forth super (inherits_it n c) = inherits n c

  back : (super : Child) → DirectChild es level.paths.items direct.items sups.items heir super
      → DirectBy written direct.items heir super
  back super (writes u a) = writes_it u ((w super.name).1 a)
  back super (inherits n c) = inherits_it n c
