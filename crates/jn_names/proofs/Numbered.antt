-- The paths that a filled table numbers are those of the universe, and the members are found so.
use Rattle.std.proofs.Common.{◌≡◌, ◌↔◌, [], ◌∷◌, Some, slice_get, List, subst, sym, ◌⊎◌, inl, inr, refl, ℕ, zero, suc}
use Rattle.std.proofs.Common.{arith, Contains}
use Rattle.jn_base.specs.declared.tree.Name.{Name}
use Rattle.jn_base.specs.declared.tree.Program.{Program}
use Rattle.jn_base.specs.Paths.{Path}
use Rattle.jn_base.specs.Supers.{Direct, inherited, written, Sup, itself, above, Member}
use Rattle.jn_base.specs.Universe.{IsNamespace, InUniverse}
use Rattle.jn_base.proofs.Reaching.{stands_namespace, declared_in_universe, sup_in_universe}
use Rattle.jn_base.specs.declared.tree.Kind.{Kind}
use Rattle.jn_base.specs.Members.{HasKind}
use Rattle.jn_table.specs.declared.class.ClassId.{ClassId}
use Rattle.jn_table.specs.declared.table.Table.{Table}
use Rattle.jn_table.specs.Rows.{IsNumber, HasField}
use Rattle.jn_table.specs.Tables.{IsFilled}
use Rattle.jn_table.proofs.Shown.{place_of_number}
use Rattle.jn_table.proofs.Sorted.{in_order}
use Rattle.jn_base.specs.ClassOrder.{class_cmp}
use Rattle.jn_names.specs.Bounds.{HasNone}

pub among_at : (ps : List Path) (k : ℕ) (P : Path) → slice_get ps k ≡ Some P → Contains ps P
among_at [] k P a = absurd (cc a)
among_at (Q ∷ ps) zero P a = (0, omega arith, cc a)
among_at (Q ∷ ps) (suc k) P a = let r = among_at ps k P a in (suc r.0, omega (arith, r.1), r.2)

-- what has a direct super, and what has a super that is a namespace, is a namespace
mutual
  pub direct_heir : {p : Program} {R S : Path} → Direct p R S → IsNamespace p R
  direct_heir (inherited d s x) = (direct_heir d, record { at = _; super = above d s; declared = x })
  direct_heir (written s e t x) = (
    sup_heir s (stands_namespace _ _ e.decl e.stands.0),
    record {
      at = _;
      super = s;
      declared =
          record { decl = e.decl; stands = e.stands };
    },
  )

  pub sup_heir : {p : Program} {R S : Path} → Sup p R S → IsNamespace p S → IsNamespace p R
  sup_heir itself n = n
  sup_heir (above d s) n = direct_heir d

-- what has a member is a namespace
pub member_namespace : {p : Program} {P : Path} {C : Name} → Member p P C → IsNamespace p P
member_namespace m = sup_heir m.super (stands_namespace _ _ m.declared.decl m.declared.stands.0)

pub member_known : (p : Program) (P : Path) (C : Name) → Member p P C ↔ InUniverse p (C ∷ P)
member_known p P C = (λ m. (member_namespace m, m), λ u. u.1)

pub direct_known : {p : Program} {R S : Path} → Direct p R S → InUniverse p R
direct_known (inherited d s x) = (direct_heir d, record { at = _; super = above d s; declared = x })
direct_known (written s e t x) = (
  sup_heir s (stands_namespace _ _ e.decl e.stands.0),
  record {
    at = _;
    super = s;
    declared =
        record { decl = e.decl; stands = e.stands };
  },
)

-- a super is the path itself, or both are in the universe
pub sup_known : {p : Program} {R S : Path} → Sup p R S → (R ≡ S) ⊎ (InUniverse p R × InUniverse p S)
sup_known itself = inl refl
sup_known (above d s) = let u = direct_known d in inr (u, sup_in_universe (above d s) u)

-- what has a number is in the universe, and what has none isn't
pub numbered_known : (p : Program) (t : Table) (R : Path) (id : ClassId) → IsFilled p t
    → IsNumber t.known.items id R → InUniverse p R
numbered_known p t R id f n =
    let r = f.table.rows in
    let o = in_order (class_cmp p) r.paths r.in_order in
    r.universe R (among_at r.paths id.0 R (place_of_number p r.paths t.known.items r.shown_are o id R n))

pub none_known : (p : Program) (t : Table) (R : Path) → IsFilled p t → HasNone t R → InUniverse p R → ⊥
none_known p t R f n u = let k = f.whole.whole R u in n k.0 k.1

-- what has a kind is in the universe
pub kind_known : (p : Program) (R : Path) (k : Kind) → HasKind p R k → InUniverse p R
kind_known p R k h = by_super (sup_known h.super) where
  by_super : (R ≡ h.at) ⊎ (InUniverse p R × InUniverse p h.at) → InUniverse p R
  by_super (inl e) = subst (InUniverse p) (sym e) (declared_in_universe p h.at h.decl h.stands)
  by_super (inr u) = u.0

-- what is no other path and has no number is above nothing, and nothing is above it
pub heir_none : (p : Program) (t : Table) (R S : Path) → IsFilled p t → (R ≡ S → ⊥) → HasNone t R → Sup p R S → ⊥
heir_none p t R S f n h s = by_super (sup_known s) where
  by_super : (R ≡ S) ⊎ (InUniverse p R × InUniverse p S) → ⊥
  by_super (inl e) = n e
  by_super (inr u) = none_known p t R f h u.0

pub super_none : (p : Program) (t : Table) (R S : Path) → IsFilled p t → (R ≡ S → ⊥) → HasNone t S → Sup p R S → ⊥
super_none p t R S f n h s = by_super (sup_known s) where
  by_super : (R ≡ S) ⊎ (InUniverse p R × InUniverse p S) → ⊥
  by_super (inl e) = n e
  by_super (inr u) = none_known p t S f h u.1

pub itself_below : (p : Program) (R S : Path) → R ≡ S → Sup p R S
itself_below p R S e = subst (Sup p R) e itself

-- what has a field is in the universe
pub field_known : (p : Program) (R : Path) (f : Name) → HasField p R f → InUniverse p R
field_known p R f h = by_super (sup_known h.1.super) where
  by_super : (R ≡ h.0) ⊎ (InUniverse p R × InUniverse p h.0) → InUniverse p R
  by_super (inl e) = subst (InUniverse p) (sym e) (declared_in_universe p h.0 h.1.at.decl h.1.at.stands)
  by_super (inr u) = u.0
