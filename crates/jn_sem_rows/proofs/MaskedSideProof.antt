-- A constraint whose first side has a mask.
use Rattle.std.proofs.Common.{◌≡◌, ℕ, zero, suc, [], ◌∷◌, drop, length, Some, None, refl, sym, ap, ◌∙◌, subst, ◌⊎◌, inl, inr, slice_get, arith}
use Rattle.std.specs.declared.cmp.Ordering.TheVariants.{Less}
use Rattle.jn_base.specs.declared.tree.Name.{Name}
use Rattle.jn_base.specs.declared.types.Masks.{Masks}
use Rattle.jn_base.specs.declared.types.Anchor.TheVariants.{Root}
use Rattle.jn_base.specs.ClassOrder.{Before, IsFirst, name_cmp}
use Rattle.jn_base.specs.Paths.{Path}
use Rattle.jn_base.specs.Supers.{itself}
use Rattle.jn_base.specs.Atoms.{Atom, atom, no_masks, Among, first, later, HasMask}
use Rattle.jn_sem.specs.Sets.{no_views, InAtom, InAtoms}
use Rattle.jn_sem.specs.Values.{HasField}
use Rattle.jn_sem.specs.Sharing.{IsClass, in_family}
use Rattle.jn_sem.specs.Holds.{Turns, Passes, masked, same_slot, IsGranted, Fails, Blocks, unshared}
use Rattle.jn_sem_rows.specs.SlotsExample.{base, disp, Lit, v, tag, in_base, in_disp, tagged}
use Rattle.jn_sem_rows.specs.SlotRows.{v_masked, tag_masked, to_disp_lit, MaskedSide}
use Rattle.jn_sem_rows.proofs.BelowProof.{no_mask}
use Rattle.jn_sem_rows.proofs.SlotTools.{IsLit, which}
use Rattle.jn_sem_rows.proofs.SlotsProof.{tagged_own, tagged_further, tagged_flat, tagged_lits, tagged_bare, lits, lits_back, base_itself, v_here, v_there, its_name, slot_v, first_v, equal_less}

abbrev lits_of : Name → Atom
lits_of A = atom Root (A ∷ []) (Lit ∷ [])

-- the one class of base!.Lit is base.Lit
two_long : (U : Path) → drop 1 U ≡ base ∷ [] → length U ≡ 2
two_long [] e = absurd (omega (arith, ap length e))
two_long (C ∷ U) e = ap (λ (P : Path). suc (length P)) e

only_lit : (U : Path) → drop 1 U ≡ base ∷ [] → IsLit U → U ≡ in_base Lit
only_lit U e (inl i) = i
only_lit U e (inr i) = absurd (differ (sym (ap (λ (P : Path). drop 1 P) i) ∙ e)) where
  differ : disp ∷ [] ≡ base ∷ [] → ⊥
  differ f = absurd (omega (arith, ap (λ (P : Path). first_number P) f)) where
    first_number : Path → ℕ
    first_number [] = 0
    first_number (C ∷ P) = C.0

in_from : (m : Masks) (U : Path) → IsClass tagged U → InAtoms tagged no_views (to_disp_lit m).from U → U ≡ in_base Lit
in_from m U c i =
    let e = (i (lits_of base) first).inside.exact in
    only_lit U e (which tagged_own tagged_further tagged_flat tagged_lits tagged_bare U (two_long U e) c.universe)

turns : (m : Masks) → Turns tagged (to_disp_lit m) (in_base Lit) (in_disp Lit)
turns m = record {
  family = disp;
  of_target = refl;
  counterpart = record { is = refl; related = lits_back };
  is_in = record { seen = tt; inside = record { exact = refl; super = itself } };
}

tag_passes : (m : Masks) → Passes tagged (to_disp_lit m) (in_base Lit) (in_disp Lit) tag
tag_passes m = masked (record { number = 1; has = refl; name = refl })

v_passes : Passes tagged (to_disp_lit no_masks) (in_base Lit) (in_disp Lit) v
v_passes = same_slot slot_v v_here (first_v (in_base Lit) base_itself v_here) (first_v (in_disp Lit) lits_back v_there) (λ x. no_mask x.number x.has)

passes : (f : Name) → HasField tagged (in_disp Lit) f → Passes tagged (to_disp_lit no_masks) (in_base Lit) (in_disp Lit) f
passes f h = elim (its_name h.at f h.declares.field h.declares.at) [
  | inl e ↦ subst (Passes tagged (to_disp_lit no_masks) (in_base Lit) (in_disp Lit)) (sym e) v_passes
  | inr e ↦ subst (Passes tagged (to_disp_lit no_masks) (in_base Lit) (in_disp Lit)) (sym e) (tag_passes no_masks)
]

granted : IsGranted tagged (to_disp_lit no_masks) (in_base Lit)
granted = record { view = in_disp Lit; turns = turns no_masks; fields = passes }

-- ---- with the mask v on the first side

some_name : (x y : Name) → Some x ≡ Some y → x ≡ y
some_name x y e = cc

none_name : (x : Name) → None ≡ Some x → ⊥
none_name x e = cc

-- v is no mask of the target
not_masked : (i : ℕ) → HasMask tag_masked i → slice_get (v ∷ tag ∷ []) i ≡ Some v → ⊥
not_masked zero h e = not_zero h where
  not_zero : HasMask tag_masked 0 → ⊥
  not_zero k = cc
not_masked (suc zero) h e = absurd (omega (arith, ap (λ (n : Name). n.0) (some_name tag v e)))
not_masked (suc (suc zero)) h e = none_name v e
not_masked (suc (suc (suc i))) h e = none_name v e

not_passed : Passes tagged (to_disp_lit v_masked) (in_base Lit) (in_disp Lit) v → ⊥
not_passed (masked x) = not_masked x.number x.has x.name
not_passed (same_slot s h x y free) = free (record { number = 0; has = refl; name = refl })

the_counterpart : (W : Path) → Turns tagged (to_disp_lit v_masked) (in_base Lit) W → in_disp Lit ≡ W
the_counterpart W t =
    ap (λ (Y : Name). in_family Y (in_base Lit)) (some_name disp t.family t.of_target) ∙ sym t.counterpart.is

not_granted : IsGranted tagged (to_disp_lit v_masked) (in_base Lit) → ⊥
not_granted g =
    let e = the_counterpart g.view g.turns in
    not_passed (subst (λ (W : Path). Passes tagged (to_disp_lit v_masked) (in_base Lit) W v) (sym e)
    (g.fields v (subst (λ (W : Path). HasField tagged W v) e v_there)))

is_in : InAtoms tagged no_views (to_disp_lit v_masked).from (in_base Lit)
is_in x m = at x m where
  at : (y : Atom) → Among (lits_of base ∷ []) y → InAtom tagged no_views y (in_base Lit)
  at y first = record { seen = tt; inside = record { exact = refl; super = itself } }
  at y (later n) = elim n [ ]

fails : Fails tagged (to_disp_lit v_masked) (in_base Lit)
fails = record { class = lits.other; is_in = is_in; refused = not_granted }

first_failing : IsFirst tagged (Fails tagged (to_disp_lit v_masked)) (in_base Lit)
first_failing = record {
  holds = fails;
  first = λ Q f b. equal_less (subst (λ (P : Path). Before tagged P (in_base Lit)) (in_from v_masked Q f.class f.is_in) b);
}

v_not_below : name_cmp tagged v v ≡ Less → ⊥
v_not_below e = cc

none_before : (g : Name) → Blocks tagged (to_disp_lit v_masked) (in_base Lit) (in_disp Lit) g → name_cmp tagged g v ≡ Less → ⊥
none_before g b e = at (its_name b.has.at g b.has.declares.field b.has.declares.at) where
  at : (g ≡ v) ⊎ (g ≡ tag) → ⊥
  at (inl i) = v_not_below (subst (λ (n : Name). name_cmp tagged n v ≡ Less) i e)
  at (inr i) = b.refused (subst (Passes tagged (to_disp_lit v_masked) (in_base Lit) (in_disp Lit)) (sym i) (tag_passes v_masked))

pub masked_side : MaskedSide
masked_side = record {
  holds = λ U c i. subst (IsGranted tagged (to_disp_lit no_masks)) (sym (in_from no_masks U c i)) granted;
  refuted = unshared (in_base Lit) (in_disp Lit) v first_failing (turns v_masked)
      (record { holds = record { has = v_there; refused = not_passed }; first = none_before }) refl refl;
}
