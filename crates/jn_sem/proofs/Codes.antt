-- From lists as the code keeps them, the outermost name or the oldest bind first, to those of the definitions.
use Rattle.std.proofs.Common.{◌≡◌, ◌<◌, ◌+◌, ◌-◌, ◌++◌, Bool, true, false, nat_le, leb-true, leb-false, ℕ, List, [], ◌∷◌, zero, suc, length, take, drop, reverse, get_or, Contains, refl, sym, ap, ◌∙◌, subst, arith, take-append-drop, length-drop, drop_of_length-le}
use Rattle.std.proofs.lemmas.List.{reverse-append, length-reverse, get_or-reverse}
use Rattle.jn_base.specs.declared.tree.Name.{Name}
use Rattle.jn_base.specs.declared.types.Anchor.{Anchor}
use Rattle.jn_base.specs.declared.types.Anchor.TheVariants.{Root, Up}
use Rattle.jn_base.specs.declared.types.Atom.{Atom as ShownAtom}
use Rattle.jn_base.specs.Atoms.{Atom, atom, atom_of, lifted, levels, Among, first, later}
use Rattle.jn_base.specs.Scopes.{Bind, Scope}
use Rattle.jn_base.specs.Fits.{Anchored, BindsFit}
use Rattle.jn_sem.specs.Widening.{reduced}
use Rattle.jn_sem.specs.Normal.{normal, rewritten}
use Rattle.jn_sem.proofs.Under.{bound_shallow}

drop_front : {X : Type 0} (m : ℕ) (a b : List X) → length a ≡ m → drop m (a ++ b) ≡ b
drop_front m [] b e = subst (λ (k : ℕ). drop k b ≡ b) e refl
drop_front m (x ∷ a) b e = subst (λ (k : ℕ). drop k (x ∷ (a ++ b)) ≡ b) e (drop_front (length a) a b refl)

-- m names taken off the inner end
pub kept_is : {X : Type 0} (n m : ℕ) (l : List X) → n ≡ length l - m → reverse (take n l) ≡ drop m (reverse l)
kept_is {X} n m l e = at (nat_le m (length l)) refl where
  at : (b : Bool) → nat_le m (length l) ≡ b → reverse (take n l) ≡ drop m (reverse l)
  at true h =
      let le = leb-true m (length l) h in
      let long : length (reverse (drop n l)) ≡ m = length-reverse (drop n l) ∙ length-drop n l ∙ omega (arith, e, le) in
      sym (ap (λ (t : List X). drop m (reverse t)) (sym (take-append-drop n l)) ∙ ap (drop m) (reverse-append (take n l) (drop n l))
      ∙ drop_front m (reverse (drop n l)) (reverse (take n l)) long)
  at false h =
      let lt = leb-false m (length l) h in
      let zero_kept : n ≡ 0 = omega (arith, e, lt) in
      ap (λ (k : ℕ). reverse (take k l)) zero_kept ∙ sym (drop_of_length-le (reverse l) {i = m} (omega (arith, lt, length-reverse l)))

-- an atom reduced, as the code makes it
pub reduced_shown : (z x : ShownAtom) (k : ℕ) (ex : List Name) (kept rest : ℕ) (a : Anchor)
    → ex ≡ take kept z.exact ++ x.exact → kept ≡ length z.exact - (k - length z.names) → rest ≡ (k - length z.names) - length z.exact → a ≡ lifted rest z.anchor
    → atom a (reverse ex) (reverse x.names) ≡ reduced (atom_of z) k (atom_of x)
reduced_shown z x k ex kept rest a h1 h2 h3 h4 =
    let m : ℕ = k - length (reverse z.names) in
    let taken : k - length z.names ≡ m = ap (λ (n : ℕ). k - n) (sym (length-reverse z.names)) in
    let exact : reverse ex ≡ reverse x.exact ++ drop m (reverse z.exact) =
    ap reverse h1 ∙ reverse-append (take kept z.exact) x.exact
    ∙ ap (λ (t : List Name). reverse x.exact ++ t) (kept_is kept m z.exact (h2 ∙ ap (λ (n : ℕ). length z.exact - n) taken)) in
    let anchor : a ≡ lifted (m - length (reverse z.exact)) z.anchor =
    h4 ∙ ap (λ (n : ℕ). lifted n z.anchor) (h3 ∙ ap (λ (n : ℕ). n - length z.exact) taken ∙ ap (λ (n : ℕ). m - n) (sym (length-reverse z.exact))) in
    ap (λ (b : Anchor). atom b (reverse ex) (reverse x.names)) anchor
    ∙ ap (λ (t : List Name). atom (lifted (m - length (reverse z.exact)) z.anchor) t (reverse x.names)) exact

-- membership as code clauses have it, and as the definitions have it

pub among_of : {X : Type 0} (xs : List X) (x : X) → Contains xs x → Among xs x
among_of {X} xs x c = at xs c.0 c.1 c.2 where
  at : (ys : List X) (k : ℕ) → k < length ys → get_or ys k x ≡ x → Among ys x
  at [] k l e = absurd (omega (arith, l))
  at (y ∷ ys) zero l e = subst (λ (z : X). Among (y ∷ ys) z) e first
  at (y ∷ ys) (suc k) l e = later (at ys k (omega (arith, l)) e)

pub contains_of : {X : Type 0} (xs : List X) (x : X) → Among xs x → Contains xs x
contains_of _ x first = (0, omega arith, refl)
contains_of _ x (later {xs = ys} m) =
    let c = contains_of ys x m in
    (suc c.0, omega (arith, c.1), c.2)

among_left : {X : Type 0} (xs ys : List X) (x : X) → Among xs x → Among (xs ++ ys) x
among_left xs ys x first = first
among_left xs ys x (later {y = y} {xs = zs} m) = later (among_left zs ys x m)

among_right : {X : Type 0} (xs ys : List X) (x : X) → Among ys x → Among (xs ++ ys) x
among_right [] ys x m = m
among_right (z ∷ xs) ys x m = later (among_right xs ys x m)

pub among_reversed : {X : Type 0} (xs : List X) (x : X) → Among xs x → Among (reverse xs) x
among_reversed {X} xs x (first {xs = ys}) = subst (λ (zs : List X). Among zs x) (sym (reverse-append (x ∷ []) ys)) (among_right (reverse ys) (x ∷ []) x first)
among_reversed {X} xs x (later {y = y} {xs = ys} m) = subst (λ (zs : List X). Among zs x) (sym (reverse-append (y ∷ []) ys)) (among_left (reverse ys) (y ∷ []) x (among_reversed ys x m))

-- the levels of an anchor of a scope that fits are fewer than 255
pub levels_small : (s : Scope) → BindsFit s → (a : Anchor) → Anchored s a → levels a < 255
levels_small s f Root g = omega arith
levels_small s f (Up q k) g = omega (arith, g.1, bound_shallow s f q)

drop_next : {X : Type 0} (xs : List X) (i : ℕ) (d : X) → i < length xs → drop i xs ≡ get_or xs i d ∷ drop (suc i) xs
drop_next [] i d l = absurd (omega (arith, l))
drop_next (x ∷ xs) zero d l = refl
drop_next (x ∷ xs) (suc i) d l = drop_next xs i d (omega (arith, l))

-- the i-th from the end
pub reversed_at : {X : Type 0} (xs : List X) (i : ℕ) (d : X) → i < length xs → drop i (reverse xs) ≡ get_or xs (length xs - 1 - i) d ∷ drop (suc i) (reverse xs)
reversed_at {X} xs i d l = drop_next (reverse xs) i d (omega (arith, l, length-reverse xs)) ∙ ap (λ (x : X). x ∷ drop (suc i) (reverse xs)) (get_or-reverse xs i d l)

pub bind_among : (binds : List Bind) (i : ℕ) (b : Bind) → i < length binds → b ≡ get_or binds (length binds - 1 - i) b → Among (reverse binds) b
bind_among binds i b l e = among_reversed binds b (among_of binds b (length binds - 1 - i, omega (arith, l), sym e))

-- one turn of a loop from the newest bind back
pub normal_turn : (binds : List Bind) (i : ℕ) (b : Bind) (x y : Atom) → i < length binds → b ≡ get_or binds (length binds - 1 - i) b → y ≡ rewritten b x
    → normal (drop (i + 1) (reverse binds)) y ≡ normal (drop i (reverse binds)) x
normal_turn binds i b x y l e h =
    let next : i + 1 ≡ suc i = omega arith in
    ap (λ (n : ℕ). normal (drop n (reverse binds)) y) next ∙ ap (normal (drop (suc i) (reverse binds))) h
    ∙ sym (ap (λ (s : Scope). normal s x) (reversed_at binds i b l ∙ ap (λ (c : Bind). c ∷ drop (suc i) (reverse binds)) (sym e)))
