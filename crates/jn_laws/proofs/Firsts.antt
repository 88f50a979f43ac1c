-- The first of a list.
use Rattle.std.proofs.Common.{◌≡◌, List, [], ◌∷◌, refl, sym, ap, ◌∙◌}
use Rattle.std.specs.declared.cmp.Ordering.{Ordering}
use Rattle.std.specs.declared.cmp.Ordering.TheVariants.{Less, Equal, Greater}
use Rattle.std.specs.Ordering.{ordering_reverse}
use Rattle.std.specs.Cmp.{IsTotalOrder}
use Rattle.jn_base.specs.Atoms.{Among, first, later}

-- none of the list comes before it
pub record FirstBy {A : Type 0} (cmp : A → A → Ordering) (xs : List A) (a : A) : Type 0 where
  pub among : Among xs a
  pub none : (b : A) → Among xs b → cmp b a ≡ Less → ⊥

module _ {A : Type 0} (cmp : A → A → Ordering) (total : IsTotalOrder cmp) where
  not_itself : (a : A) → cmp a a ≡ Less → ⊥
  not_itself a e = apart (sym e ∙ total.antisymm a a ∙ ap ordering_reverse e) where
    apart : Less ≡ Greater → ⊥
    apart e = cc

  one_alone : (x : A) → FirstBy cmp (x ∷ []) x
  one_alone x = record { among = first; none = λ b m. at b m } where
    at : (b : A) → Among (x ∷ []) b → cmp b x ≡ Less → ⊥
    at _ first e = not_itself x e
    at b (later m) e = elim m [ ]

  compared : (x : A) (ys : List A) (a : A) → FirstBy cmp ys a → (o : Ordering) → cmp x a ≡ o → (b : A) × FirstBy cmp (x ∷ ys) b
  compared x ys a f Less e = (x, record { among = first; none = at }) where
    at : (b : A) → Among (x ∷ ys) b → cmp b x ≡ Less → ⊥
    at _ first k = not_itself x k
    at b (later m) k = f.none b m (total.trans b x a k e)
  compared x ys a f Equal e = (a, record { among = later f.among; none = at }) where
    at : (b : A) → Among (x ∷ ys) b → cmp b a ≡ Less → ⊥
    at _ first k = apart (sym k ∙ e) where
      apart : Less ≡ Equal → ⊥
      apart e = cc
    at b (later m) k = f.none b m k
  compared x ys a f Greater e = (a, record { among = later f.among; none = at }) where
    at : (b : A) → Among (x ∷ ys) b → cmp b a ≡ Less → ⊥
    at _ first k = apart (sym k ∙ e) where
      apart : Less ≡ Greater → ⊥
      apart e = cc
    at b (later m) k = f.none b m k

  pub first_by : (x : A) (xs : List A) → (a : A) × FirstBy cmp (x ∷ xs) a
  first_by x [] = (x, one_alone x)
  first_by x (y ∷ ys) = let r = first_by y ys in compared x (y ∷ ys) r.0 r.1 (cmp x r.0) refl
