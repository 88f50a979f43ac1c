-- The first mask by name, found in one pass.
use Rattle.std.proofs.Common.{◌≡◌, ◌<◌, ◌≤◌, ◌+◌, ℕ, List, length, sym, subst, ◌⊎◌, inl, inr, slice_get, get_or, Option, Some, None, arith}
use Rattle.std.specs.declared.cmp.Ordering.{Ordering}
use Rattle.std.specs.declared.cmp.Ordering.TheVariants.{Less, Equal, Greater}
use Rattle.std.specs.Ordering.{ordering_reverse}
use Rattle.std.specs.Cmp.{IsTotalOrder, then_total, on_total, nat_cmp_total}
use Rattle.std.proofs.lemmas.Option.{slice_get-get_or, slice_get_within}
use Rattle.std.proofs.lemmas.Bool.{cases_lt}
use Rattle.jn_reach.proofs.Searches.{same_some}
use Rattle.jn_base.specs.declared.tree.Name.{Name}
use Rattle.jn_base.specs.declared.tree.Program.{Program}
use Rattle.jn_base.specs.declared.types.Masks.{Masks}
use Rattle.jn_base.specs.Atoms.{HasMask}
use Rattle.jn_base.specs.ClassOrder.{name_total}
use Rattle.jn_base.specs.ResolveTypes.{mask_names}
use Rattle.jn_rules.specs.Questions.{mask_cmp, name_number, IsFirstMask, Finds}
use Rattle.jn_expr.specs.Masking.{IsEarlier, NextFirst, MaskBelow, FirstBelow}

mask_total : (p : Program) → IsTotalOrder (mask_cmp p)
mask_total p = then_total (name_total p) (on_total name_number nat_cmp_total)

not_less : (r : Ordering) → r ≡ ordering_reverse r → r ≡ Less → ⊥
not_less Less e f = cc
not_less Equal e f = cc
not_less Greater e f = cc

itself : (p : Program) (n : Name) → mask_cmp p n n ≡ Less → ⊥
itself p n e = not_less (mask_cmp p n n) ((mask_total p).antisymm n n) e

module _ (p : Program) (names : List Name) (m : Masks) (i : ℕ) (d : Name) (l : i < length names) where
  n : Name
  n = get_or names i d

  n_at : slice_get names i ≡ Some (get_or names i d)
  n_at = slice_get-get_or names i d l

  -- a mask below i + 1 is one below i, or the one here
  cases : (g : Name) → MaskBelow names m (i + 1) g → MaskBelow names m i g ⊎ ((g ≡ get_or names i d) × HasMask m i)
  cases g h = elim (cases_lt h.number i) [
    | inl b ↦ inl (record { number = h.number; below = b; has = h.has; name = h.name })
    | inr b ↦
        let same : h.number ≡ i = omega (arith, b, h.below) in
        inr (
          same_some (slice_get names i) g (get_or names i d) (subst (λ (k : ℕ). slice_get names k ≡ Some g) same h.name) n_at,
          subst (HasMask m) same h.has,
        )
  ]

  here : HasMask m i → MaskBelow names m (i + 1) (get_or names i d)
  here h = record { number = i; below = omega arith; has = h; name = n_at }

  wider : (g : Name) → MaskBelow names m i g → MaskBelow names m (i + 1) g
  wider g h = record { number = h.number; below = omega (arith, h.below); has = h.has; name = h.name }

  -- behind a mask
  with_mask : (found : Option Name) (f : Name) → HasMask m i → IsEarlier p found (get_or names i d) f → FirstBelow p names m i found
      → FirstBelow p names m (i + 1) (Some f)
  with_mask None f has e none =
      subst (λ (x : Name). FirstBelow p names m (i + 1) (Some x)) (sym e) (
        here has,
        λ g h less. elim (cases g h) [
          | inl b ↦ none g b
          | inr s ↦ itself p (get_or names i d) (subst (λ (x : Name). mask_cmp p x (get_or names i d) ≡ Less) s.0 less)
        ],
      )
  with_mask (Some q) f has (inl (e, before)) first =
      subst (λ (x : Name). FirstBelow p names m (i + 1) (Some x)) (sym e) (
        here has,
        λ g h less. elim (cases g h) [
          | inl b ↦ first.1 g b ((mask_total p).trans g (get_or names i d) q less before)
          | inr s ↦ itself p (get_or names i d) (subst (λ (x : Name). mask_cmp p x (get_or names i d) ≡ Less) s.0 less)
        ],
      )
  with_mask (Some q) f has (inr (e, not)) first =
      subst (λ (x : Name). FirstBelow p names m (i + 1) (Some x)) (sym e) (
        wider q first.0,
        λ g h less. elim (cases g h) [
          | inl b ↦ first.1 g b less
          | inr s ↦ not (subst (λ (x : Name). mask_cmp p x q ≡ Less) s.0 less)
        ],
      )

  without_mask : (found : Option Name) → (HasMask m i → ⊥) → FirstBelow p names m i found → FirstBelow p names m (i + 1) found
  without_mask None free none = λ g h. elim (cases g h) [ inl b ↦ none g b | inr s ↦ free s.1 ]
  without_mask (Some q) free first = (wider q first.0, λ g h less. elim (cases g h) [ inl b ↦ first.1 g b less | inr s ↦ absurd (free s.1) ])

  pub first_next : (found r : Option Name) → NextFirst p m i (get_or names i d) found r → FirstBelow p names m i found → FirstBelow p names m (i + 1) r
  first_next found r (inl (has, w)) first = subst (FirstBelow p names m (i + 1)) (sym w.1) (with_mask found w.0 has w.2 first)
  first_next found r (inr (free, e)) first = subst (FirstBelow p names m (i + 1)) (sym e) (without_mask found free first)

pub first_all : (p : Program) (names : List Name) (m : Masks) (i : ℕ) (r : Option Name) → length names ≤ i → FirstBelow p names m i r → names ≡ mask_names p
    → Finds (IsFirstMask p m) r
first_all p names m i None l none e = λ f h. none f (record {
  number = h.masked.number;
  below = let w : h.masked.number < length names = slice_get_within names h.masked.number f (subst (λ (ns : List Name). slice_get ns h.masked.number ≡ Some f) (sym e) h.masked.name) in omega (arith, w, l);
  has = h.masked.has;
  name = subst (λ (ns : List Name). slice_get ns h.masked.number ≡ Some f) (sym e) h.masked.name;
})
first_all p names m i (Some f) l first e = record {
  masked = record { number = first.0.number; has = first.0.has; name = subst (λ (ns : List Name). slice_get ns first.0.number ≡ Some f) e first.0.name };
  first = λ g k less. first.1 g (record {
    number = k.number;
    below = let w : k.number < length names = slice_get_within names k.number g (subst (λ (ns : List Name). slice_get ns k.number ≡ Some g) (sym e) k.name) in omega (arith, w, l);
    has = k.has;
    name = subst (λ (ns : List Name). slice_get ns k.number ≡ Some g) (sym e) k.name;
  }) less;
}
