-- The questions of "below" in base.Add.
use Rattle.std.proofs.Common.{◌≡◌, ◌++◌, ℕ, [], ◌∷◌, zero, suc, length, refl, sym, ap, ◌∙◌, subst, arith, get_or, ◌/◌, ◌%◌, ◌≤◌}
use Rattle.std.specs.Int.{bit_at}
use Rattle.std.proofs.lemmas.Nat.Bits.{bit_at-zero}
use Rattle.jn_reach.specs.Chain.{Chain, here, step}
use Rattle.jn_reach.proofs.Chains.{Chain-closed}
use Rattle.jn_base.specs.declared.tree.Name.{Name}
use Rattle.jn_base.specs.declared.tree.Program.{Program}
use Rattle.jn_base.specs.declared.tree.Member.TheVariants.{outs-Inner}
use Rattle.jn_base.specs.declared.types.Anchor.{Anchor}
use Rattle.jn_base.specs.declared.types.Anchor.TheVariants.{Root, Up}
use Rattle.jn_base.specs.Paths.{Path}
use Rattle.jn_base.specs.Supers.{Sup, itself}
use Rattle.jn_base.specs.Universe.{InUniverse}
use Rattle.jn_base.specs.Atoms.{Atom, atom, Among, first, later, HasMask, MasksWithin, no_masks}
use Rattle.jn_base.specs.Scopes.{Bind, Scope, Binds, this_bind, bound}
use Rattle.jn_base.specs.Fits.{Anchored, AtomsFit, ScopeFits}
use Rattle.jn_base.specs.FamiliesExample.{families, base, both, Exp, Lit, Add}
use Rattle.jn_base.proofs.SuperLaws.{sup_namespace}
use Rattle.jn_base.proofs.ExampleTools.{inner_above}
use Rattle.jn_base.proofs.FamiliesProof.{lit_supers, both_has}
use Rattle.jn_sem.specs.Widening.{Widens, loosened, raised, opened, widened}
use Rattle.jn_sem.specs.Below.{classes, BelowAtoms}
use Rattle.jn_sem_rows.specs.BelowExample.{in_add, class_of, exact_class_of, class_of_p, lit_of_p, lit_without_v, IsBelow}

-- masks

zeros : (n : ℕ) → get_or no_masks.0 n 0 ≡ 0
zeros zero = refl
zeros (suc zero) = refl
zeros (suc (suc zero)) = refl
zeros (suc (suc (suc zero))) = refl
zeros (suc (suc (suc (suc n)))) = refl

pub no_mask : (i : ℕ) → HasMask no_masks i → ⊥
no_mask i h = absurd (omega (arith, h, ap (λ w. bit_at w (i % 64)) (zeros (i / 64)), bit_at-zero (i % 64)))

pub masks_same : (m : _) → MasksWithin m m
masks_same m i h = h

-- an atom with the anchor Root and no exact names keeps these
pub record IsPlain (x : Atom) : Type 0 where
  pub anchor : x.anchor ≡ Root
  pub exact : x.exact ≡ []

IsUp : Anchor → Type 0
IsUp Root = ⊥
IsUp (Up q k) = Unit {0}

root_not_up : {q k : ℕ} → Root ≡ Up q k → ⊥
unfolding IsUp
root_not_up e = subst IsUp (sym e) tt

plain_step : {p : Program} {s : Scope} (x y : Atom) → IsPlain x → Widens p s x y → IsPlain y
plain_step x y h (loosened e es l i) = absurd (omega (arith, ap length (sym h.exact ∙ l)))
plain_step x y h (raised q k c d B a l i n) = absurd (root_not_up (sym h.anchor ∙ a))
plain_step x y h (opened b k z m a c i n) = absurd (root_not_up (sym h.anchor ∙ a))
plain_step x y h (widened ns l o i n) = record { anchor = ap (λ (t : Atom). t.anchor) i ∙ h.anchor; exact = ap (λ (t : Atom). t.exact) i ∙ h.exact }

pub plain_chain : {p : Program} {s : Scope} {x y : Atom} → Chain (Widens p s) x y → IsPlain x → IsPlain y
plain_chain {p} {s} c h = Chain-closed (Widens p s) IsPlain plain_step c h

pub alone : {x z : Atom} → Among (x ∷ []) z → z ≡ x
alone first = refl
alone (later m) = elim m [ ]

-- no atom but plain ones is above a plain one
not_above : (x y : Atom) → IsPlain x → (IsPlain y → ⊥) → BelowAtoms families in_add (x ∷ []) (y ∷ []) → ⊥
not_above x y h n b =
    let r = b y first in
    n (plain_chain r.chain (subst IsPlain (sym (alone r.among)) h))

one_above : (x y : Atom) → Chain (Widens families in_add) x y → BelowAtoms families in_add (x ∷ []) (y ∷ [])
one_above x y c z m = record { from = x; among = first; chain = subst (Chain (Widens families in_add) x) (sym (alone m)) c }

-- facts of the families

both_lit : InUniverse families (Lit ∷ both ∷ [])
both_lit = both_has Lit (0, omega arith, refl)

to_both_exp : Sup families (Lit ∷ both ∷ []) (Exp ∷ both ∷ [])
to_both_exp = (lit_supers (Exp ∷ both ∷ [])).1 (record { C = Exp; A = both; is = refl; class = (1, omega arith, refl); package_in = (0, omega arith, refl) })

pub to_base_lit : Sup families (Lit ∷ both ∷ []) (Lit ∷ base ∷ [])
to_base_lit = (lit_supers (Lit ∷ base ∷ [])).1 (record { C = Lit; A = base; is = refl; class = (0, omega arith, refl); package_in = (3, omega arith, refl) })

to_base_exp : Sup families (Lit ∷ both ∷ []) (Exp ∷ base ∷ [])
to_base_exp = (lit_supers (Exp ∷ base ∷ [])).1 (record { C = Exp; A = base; is = refl; class = (1, omega arith, refl); package_in = (3, omega arith, refl) })

pub base_lit : InUniverse families (Lit ∷ base ∷ [])
base_lit = sup_namespace to_base_lit both_lit

pub base_exp : InUniverse families (Exp ∷ base ∷ [])
base_exp = sup_namespace to_base_exp both_lit

pub lit_exp : Sup families (Lit ∷ base ∷ []) (Exp ∷ base ∷ [])
lit_exp = inner_above families base base Lit Exp itself (simp outs-Inner) base_exp.1

-- the answers

super_step : (A C B D : Name) → Sup families (C ∷ A ∷ []) (D ∷ B ∷ []) → Widens families in_add (atom Root [] (C ∷ A ∷ [])) (atom Root [] (D ∷ B ∷ []))
super_step A C B D s = widened (D ∷ B ∷ []) refl (omega arith) refl s

pub exact_below : IsBelow (exact_class_of base Lit) (class_of base Exp)
exact_below = classes (one_above (atom Root (base ∷ []) (Lit ∷ [])) (atom Root [] (Exp ∷ base ∷ []))
    (step (loosened base [] refl refl) (step (super_step base Lit base Exp lit_exp) here))) (masks_same no_masks)

pub not_exact : IsBelow (class_of base Lit) (exact_class_of base Exp) → ⊥
not_exact (classes b w) = not_above (atom Root [] (Lit ∷ base ∷ [])) (atom Root (base ∷ []) (Exp ∷ [])) (record { anchor = refl; exact = refl })
    (λ h. absurd (omega (arith, ap length h.exact))) b

pub same_family : IsBelow (class_of both Lit) (class_of both Exp)
same_family = classes (one_above (atom Root [] (Lit ∷ both ∷ [])) (atom Root [] (Exp ∷ both ∷ []))
    (step (super_step both Lit both Exp to_both_exp) here)) (masks_same no_masks)

pub other_family : IsBelow (class_of both Lit) (class_of base Lit)
other_family = classes (one_above (atom Root [] (Lit ∷ both ∷ [])) (atom Root [] (Lit ∷ base ∷ []))
    (step (super_step both Lit base Lit to_base_lit) here)) (masks_same no_masks)

p_bind : Bind
p_bind = record { path = 1; ty = class_of base Exp }

pub path_class : IsBelow class_of_p (class_of base Exp)
path_class = classes (one_above (atom (Up 1 0) [] []) (atom Root [] (Exp ∷ base ∷ []))
    (step (opened (record { path = 1; ty = class_of base Exp }) 0 (atom Root [] (Exp ∷ base ∷ [])) first refl first refl base_exp) here)) (masks_same no_masks)

pub path_family : IsBelow lit_of_p (class_of base Lit)
path_family = classes (one_above (atom (Up 1 1) [] (Lit ∷ [])) (atom Root [] (Lit ∷ base ∷ []))
    (step (opened (record { path = 1; ty = class_of base Exp }) 1 (atom Root [] (Exp ∷ base ∷ [])) first refl first refl base_lit) here)) (masks_same no_masks)

pub not_path_family : IsBelow (class_of base Lit) lit_of_p → ⊥
not_path_family (classes b w) = not_above (atom Root [] (Lit ∷ base ∷ [])) (atom (Up 1 1) [] (Lit ∷ [])) (record { anchor = refl; exact = refl })
    (λ h. root_not_up (sym h.anchor)) b

pub masked : IsBelow lit_without_v (class_of base Lit) → ⊥
masked (classes b w) = no_mask 0 (w 0 refl)

pub unmasked : IsBelow (class_of base Lit) lit_without_v
unmasked = classes (one_above (atom Root [] (Lit ∷ base ∷ [])) (atom Root [] (Lit ∷ base ∷ [])) here) (λ i h. absurd (no_mask i h))

-- the scope fits

pub fits : ScopeFits in_add
fits = record {
  binds = ((
    (tt, none_before, record { atoms = λ c. atoms_ok [] (Add ∷ base ∷ []) (omega arith) }),
    not_this,
    record { atoms = λ c. atoms_ok (this_bind (Add ∷ base ∷ []) ∷ []) (Exp ∷ base ∷ []) (omega arith) },
  )
      );
  class_of_this = Add ∷ base ∷ [];
  this = later first;
} where
  none_before : Binds [] 0 → ⊥
  none_before b = elim b.among [ ]

  not_this : Binds (this_bind (Add ∷ base ∷ []) ∷ []) 1 → ⊥
  not_this b = at b.bind b.among b.is where
    at : (c : Bind) → Among (this_bind (Add ∷ base ∷ []) ∷ []) c → c.path ≡ 1 → ⊥
    at c first e = absurd (omega (arith, e))
    at c (later m) e = elim m [ ]

  atoms_ok : (s : Scope) (Q : Path) → length (Q ++ []) ≤ 255 → AtomsFit s (atom Root [] Q ∷ [])
  atoms_ok s Q l = record {
    one = atom Root [] Q;
    among = first;
    anchored = λ x m. subst (λ (y : Atom). Anchored s y.anchor) (sym (alone m)) tt;
    depth = λ x m. ap (λ (y : Atom). length (bound s y)) (alone m);
    shallow = l;
  }
