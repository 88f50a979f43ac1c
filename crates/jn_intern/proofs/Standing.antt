-- Binds before and behind a place.
use Rattle.std.proofs.Common.{◌≡◌, ◌-◌, ℕ, zero, suc, length, List, [], ◌∷◌, ◌++◌, map, reverse, take, drop, slice_get, Option, None, Some, sym, ap, ◌∙◌, subst, arith, append_assoc}
use Rattle.std.specs.Prelude.{IfNone}
use Rattle.std.proofs.lemmas.List.{reverse-append, map-append, take-append-drop, take_all, length-drop}
use Rattle.std.proofs.lemmas.List.Elements.{All-append}
use Rattle.jn_base.specs.declared.types.Ty.{Ty}
use Rattle.jn_base.specs.Scopes.{Bind as TypeBind}
use Rattle.jn_intern.specs.declared.scope.Bind.{Bind}
use Rattle.jn_intern.specs.Pools.{bind_in}
use Rattle.jn_intern.specs.Places.{Lacks}

pub split_at : {A : Type 0} (xs : List A) (i : ℕ) (x : A) → slice_get xs i ≡ Some x → xs ≡ take i xs ++ x ∷ drop (suc i) xs
split_at [] i x e = absurd (cc e)
split_at (y ∷ xs) zero x e = let h : y ≡ x = cc e in ap (λ z. z ∷ xs) h
split_at (y ∷ xs) (suc i) x e = ap (λ zs. y ∷ zs) (split_at xs i x e)

-- the newest bind first: those behind a place, that at it, and those before it
pub types_split : (pool : List Ty) (bs : List Bind) (i : ℕ) (b : Bind) → slice_get bs i ≡ Some b
    → reverse (map (bind_in pool) bs) ≡ reverse (map (bind_in pool) (drop (suc i) bs)) ++ bind_in pool b ∷ reverse (map (bind_in pool) (take i bs))
types_split pool bs i b e =
    let f : Bind → TypeBind = bind_in pool in
    let front : List TypeBind = map f (take i bs) in
    let behind : List TypeBind = map f (drop (suc i) bs) in
    ap (λ (l : List Bind). reverse (map f l)) (split_at bs i b e)
    ∙ (ap reverse (map-append f (take i bs) (b ∷ drop (suc i) bs))
    ∙ (reverse-append front (f b ∷ behind)
    ∙ (ap (λ (l : List TypeBind). l ++ reverse front) (reverse-append (f b ∷ []) behind)
    ∙ append_assoc (reverse behind) (f b ∷ []) (reverse front))))

-- among the first n
pub get_front : {A : Type 0} (xs : List A) (n i : ℕ) (x : A) → slice_get (take n xs) i ≡ Some x → slice_get xs i ≡ Some x
get_front {A = A} [] n i x e = absurd (cc (sym (ap (λ (l : List A). slice_get l i) (take_all n [] (omega arith))) ∙ e))
get_front (y ∷ xs) zero i x e = absurd (cc e)
get_front (y ∷ xs) (suc n) zero x e = e
get_front (y ∷ xs) (suc n) (suc i) x e = get_front xs n i x e

-- what is in neither part of the binds is in none
pub lacks_both : (bs : List Bind) (q n : ℕ) → Lacks (take n bs) q → Lacks (take (length bs - n) (drop n bs)) q → Lacks bs q
lacks_both bs q n f g =
    let rest : take (length bs - n) (drop n bs) ≡ drop n bs = take_all (length bs - n) (drop n bs) (omega (arith, length-drop n bs)) in
    subst (λ (l : List Bind). Lacks l q) (take-append-drop n bs)
    (All-append (λ (b : Bind). b.path ≡ q → ⊥) (take n bs) (drop n bs) f (subst (λ (l : List Bind). Lacks l q) rest g))

pub none_more : {A P Q : Type 0} (o : Option A) → (P → Q) → IfNone o P → IfNone o Q
none_more None f h = f h
none_more (Some x) f h = tt
