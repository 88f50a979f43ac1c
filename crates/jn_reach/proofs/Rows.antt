-- How a loop makes the rows of a closure.
use Rattle.std.proofs.Common.{◌≡◌, ◌+◌, ℕ, List, [], ◌∷◌, ◌++◌, length, sym, Some, slice_get, arith, length-append, ◌⊎◌, inl, inr, subst, ap, zero, suc, refl, ◌∙◌}
use Rattle.std.specs.declared.vec.Vec.{Vec}
use Rattle.std.specs.declared.alloc.Global.{Global}
use Rattle.jn_reach.specs.Chain.{Chain}
use Rattle.jn_reach.specs.Graph.{Graph, HasEdge, InRange, IsClosure, Lists}
use Rattle.jn_reach.proofs.Numbering.{closure_in_range}

-- an element of a list with one more is the last, or one of before
pub slice_get-push_cases : {X : Type 0} (xs : List X) (y : X) (i : ℕ) (x : X)
    → slice_get (xs ++ y ∷ []) i ≡ Some x → (slice_get xs i ≡ Some x) ⊎ ((i ≡ length xs) × (x ≡ y))
slice_get-push_cases [] y zero x h = inr (refl, cc)
slice_get-push_cases [] y (suc i) x h = absurd (cc)
slice_get-push_cases (z ∷ zs) y zero x h = inl h
slice_get-push_cases (z ∷ zs) y (suc i) x h = elim (slice_get-push_cases zs y i x h) [
  | inl e ↦ inl e
  | inr e ↦ inr (ap suc e.0, e.1)
]

-- the rows of the first n nodes
pub record Rows (g : Graph) (n : ℕ) (rows : Graph) : Type 0 where
  pub long : length rows ≡ n
  pub each : (a : ℕ) (row : Vec ℕ Global) → slice_get rows a ≡ Some row → Lists (Chain (HasEdge g) a) row.items

pub Rows-more : (g rows : Graph) (row : Vec ℕ Global) (n : ℕ) → Rows g n rows → Lists (Chain (HasEdge g) n) row.items
    → Rows g (n + 1) (rows ++ row ∷ [])
Rows-more g rows row n done now = record {
  long = omega (arith, done.long, length-append rows (row ∷ []));
  each = λ a r h. more a r (slice_get-push_cases rows row a r h);
} where
  more : (a : ℕ) (r : Vec ℕ Global) → (slice_get rows a ≡ Some r) ⊎ ((a ≡ length rows) × (r ≡ row)) → Lists (Chain (HasEdge g) a) r.items
  more a r (inl h) = done.each a r h
  more a r (inr h) =
      let e : n ≡ a = omega (arith, done.long, h.0) in
      let f : Lists (Chain (HasEdge g) a) row.items = subst (λ k. Lists (Chain (HasEdge g) k) row.items) e now in
      subst (λ (v : Vec ℕ Global). Lists (Chain (HasEdge g) a) v.items) (sym h.1) f

pub Rows-closure : (g : Graph) (n : ℕ) (rows : Graph) → n ≡ length g → Rows g n rows → IsClosure g rows
Rows-closure g n rows e r = record { long = r.long ∙ e; each = r.each }

pub rows_in_range : (g : Graph) (n : ℕ) (rows : Graph) → InRange g (length g) → n ≡ length g → Rows g n rows → InRange rows (length g)
rows_in_range g n rows within e r = closure_in_range g rows within (Rows-closure g n rows e r)
