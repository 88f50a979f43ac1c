-- The first of some names or paths: one at most.
use Rattle.std.proofs.Common.{◌≡◌, ◌<◌, [], ◌∷◌, length, refl, ap, ◌∙◌, ◌⊎◌, inl, inr}
use Rattle.std.specs.declared.cmp.Ordering.{Ordering}
use Rattle.std.specs.declared.cmp.Ordering.TheVariants.{Less, Equal, Greater}
use Rattle.std.specs.Ordering.{nat_cmp, ordering_then, ordering_reverse}
use Rattle.std.specs.Cmp.{IsTotalOrder, then_total, on_total, nat_cmp_total}
use Rattle.std.proofs.lemmas.List.Elements.{All-nil, All-cons}
use Rattle.std.proofs.lemmas.Map.Lookups.{exact_unsigned}
use Rattle.jn_base.specs.declared.tree.Name.{Name}
use Rattle.jn_base.specs.declared.tree.Program.{Program}
use Rattle.jn_base.specs.declared.types.Masks.{Masks}
use Rattle.jn_base.specs.Paths.{Path}
use Rattle.jn_base.specs.ClassOrder.{name_cmp, name_total, Before, IsFirst, HasDistinctNames, HasItsNames}
use Rattle.jn_base.proofs.ClassOrders.{before_total}
use Rattle.jn_sem.specs.Holds.{IsFirstName}
use Rattle.jn_rules.specs.Questions.{name_number, mask_cmp, IsFirstMask}

-- ---- names

abbrev pub IsKnown : Program → Name → Type 0
IsKnown p n = n.0 < length p.names

then_less : (r : Ordering) → ordering_then r Equal ≡ Less → r ≡ Less
then_less Less e = refl
then_less Equal e = cc
then_less Greater e = cc

-- names as paths of one name
alone : (p : Program) (f g : Name) → Before p (f ∷ []) (g ∷ []) → name_cmp p f g ≡ Less
alone p f g b = then_less (name_cmp p f g) b

named : (p : Program) (f : Name) → IsKnown p f → HasItsNames p (f ∷ [])
named p f k = let known : Name → Type 0 = IsKnown p in All-cons known f [] k (All-nil known)

same_head : (f g : Name) → ◌≡◌ {A = Path} (f ∷ []) (g ∷ []) → f ≡ g
same_head f g e = cc

-- two names of the program are one, or one of them comes first
pub names_total : (p : Program) → HasDistinctNames p → (f g : Name) → IsKnown p f → IsKnown p g → (f ≡ g) ⊎ ((name_cmp p f g ≡ Less) ⊎ (name_cmp p g f ≡ Less))
names_total p d f g kf kg = elim (before_total p d (f ∷ []) (g ∷ []) (named p f kf) (named p g kg)) [
  | inl e ↦ inl (same_head f g e)
  | inr (inl b) ↦ inr (inl (alone p f g b))
  | inr (inr b) ↦ inr (inr (alone p g f b))
]

pub first_name_once : (p : Program) → HasDistinctNames p → (T : Name → Type 0) → ((f : Name) → T f → IsKnown p f) → (f g : Name)
    → IsFirstName p T f → IsFirstName p T g → f ≡ g
first_name_once p d T known f g h k = elim (names_total p d f g (known f h.holds) (known g k.holds)) [
  | inl e ↦ e
  | inr (inl b) ↦ absurd (k.first f h.holds b)
  | inr (inr b) ↦ absurd (h.first g k.holds b)
]

-- ---- masks

pub mask_total : (p : Program) → IsTotalOrder (mask_cmp p)
mask_total p = then_total (name_total p) (on_total name_number nat_cmp_total)

then_second : (r s : Ordering) → ordering_then r s ≡ Equal → s ≡ Equal
then_second Less s e = cc
then_second Equal s e = e
then_second Greater s e = cc

same_number : (f g : Name) → f.0 ≡ g.0 → f ≡ g
same_number f g e i = record { 0 = e i }

masks_tie : (p : Program) (f g : Name) → mask_cmp p f g ≡ Equal → f ≡ g
masks_tie p f g e = same_number f g (exact_unsigned f.0 g.0 (then_second (name_cmp p f g) (nat_cmp f.0 g.0) e))

pub first_mask_once : (p : Program) (m : Masks) (f g : Name) → IsFirstMask p m f → IsFirstMask p m g → f ≡ g
first_mask_once p m f g h k = by (mask_cmp p f g) refl where
  by : (o : Ordering) → mask_cmp p f g ≡ o → f ≡ g
  by Less e = absurd (k.first f h.masked e)
  by Equal e = masks_tie p f g e
  by Greater e = absurd (h.first g k.masked ((mask_total p).antisymm g f ∙ ap ordering_reverse e))

-- ---- paths

pub first_path_once : (p : Program) → HasDistinctNames p → (T : Path → Type 0) → ((R : Path) → T R → HasItsNames p R) → (R S : Path)
    → IsFirst p T R → IsFirst p T S → R ≡ S
first_path_once p d T known R S h k = elim (before_total p d R S (known R h.holds) (known S k.holds)) [
  | inl e ↦ e
  | inr (inl b) ↦ absurd (k.first R h.holds b)
  | inr (inr b) ↦ absurd (h.first S k.holds b)
]
