-- The root closure as a list.
use Rattle.std.proofs.Common.{◌≡◌, ℕ, List, [], ◌∷◌, ◌++◌, length, refl, sym, subst, cond, Bool, true, false, nat_eq, eqb-true, eq-eqb}
use Rattle.std.specs.Prelude.{nat_lt, ◌-◌, drop}
use Rattle.jn_base.specs.declared.tree.Program.{Program}
use Rattle.jn_base.specs.declared.types.Anchor.{Anchor}
use Rattle.jn_base.specs.declared.types.Anchor.TheVariants.{Root, Up}
use Rattle.jn_base.specs.Atoms.{Atom, atom, atoms_in, lifted, Among, first, later}
use Rattle.jn_base.specs.Scopes.{Bind, Scope, Binds}
use Rattle.jn_base.specs.Fits.{Anchored, BindsFit}
use Rattle.jn_sem.specs.Widening.{replaced, reduced}
use Rattle.jn_sem.specs.RootClosure.{Opens, closed, through, InClosure}
use Rattle.jn_sem.proofs.Under.{type_anchored, fits_whole}
use Rattle.jn_laws.specs.LawsOfScopes.{ClosuresListed}
use Rattle.jn_laws.proofs.Lists.{listed, among_left, among_right}

-- what f gives for each of the list
pub flat : {A B : Type 0} → (A → List B) → List A → List B
flat f [] = []
flat f (x ∷ xs) = f x ++ flat f xs

pub flat_there : {A B : Type 0} (f : A → List B) (xs : List A) (x : A) (y : B) → Among xs x → Among (f x) y → Among (flat f xs) y
unfolding flat
flat_there f _ x y (first {xs = xs}) m = among_left (f x) (flat f xs) m
flat_there f _ x y (later {y = z} {xs = xs} a) m = among_right (f z) (flat f xs) (flat_there f xs x y a m)

-- all that an atom can become, whether its bounds are in the universe or not
opened_at : Bind → (Atom → List Atom) → Atom → Anchor → List Atom
opened_at b rest x Root = rest x
opened_at b rest x (Up q k) = cond (nat_eq q b.path) (flat (λ (w : Atom). rest (replaced w k x)) (atoms_in b.ty)) (rest x)

opened : Scope → Atom → List Atom
opened [] x = x ∷ []
opened (b ∷ s) x = opened_at b (opened s) x x.anchor

-- the anchor's path is in the scope
InIt : Scope → Anchor → Type 0
InIt s Root = Unit {0}
InIt s (Up q k) = Binds s q

anchored_in : (s : Scope) (a : Anchor) → Anchored s a → InIt s a
unfolding InIt
anchored_in s Root h = tt
anchored_in s (Up q k) h = h.0

lifted_in : (s : Scope) (n : ℕ) (a : Anchor) → InIt s a → InIt s (lifted n a)
unfolding InIt
lifted_in s n Root h = tt
lifted_in s n (Up q k) h = h

replaced_in_it : (s : Scope) (w x : Atom) (k : ℕ) → InIt s w.anchor → InIt s (replaced w k x).anchor
replaced_in_it s w x k h = at (nat_lt k (length w.names)) where
  at : (b : Bool) → InIt s (cond b (atom w.anchor w.exact ((x.names ++ x.exact) ++ drop k w.names)) (reduced w k x)).anchor
  at true = h
  at false = lifted_in s (k - length w.names - length w.exact) w.anchor h

-- a bind of another path changes nothing
passed_at : (b : Bind) (s : Scope) (x : Atom) (a : Anchor) → (Binds s b.path → ⊥) → InIt s a → opened_at b (opened s) x a ≡ opened s x
unfolding opened_at InIt
passed_at b s x Root free h = refl
passed_at b s x (Up q k) free h = at (nat_eq q b.path) refl where
  at : (t : Bool) → nat_eq q b.path ≡ t → cond t (flat (λ (w : Atom). opened s (replaced w k x)) (atoms_in b.ty)) (opened s x) ≡ opened s x
  at true e = absurd (free (subst (Binds s) (eqb-true q b.path e) h))
  at false e = refl

passed : (b : Bind) (s : Scope) (x : Atom) → BindsFit (b ∷ s) → InIt s x.anchor → opened (b ∷ s) x ≡ opened s x
unfolding opened
passed b s x f h = passed_at b s x x.anchor f.1 h

found_at : (b : Bind) (s : Scope) (x w z : Atom) (k : ℕ) (a : Anchor) → a ≡ Up b.path k → Among (atoms_in b.ty) w → Among (opened s (replaced w k x)) z
    → Among (opened_at b (opened s) x a) z
unfolding opened_at
found_at b s x w z k a e m n = subst (λ (c : Anchor). Among (opened_at b (opened s) x c) z) (sym e) (at (nat_eq b.path b.path) (eq-eqb b.path b.path refl)) where
  at : (t : Bool) → t ≡ true → Among (cond t (flat (λ (y : Atom). opened s (replaced y k x)) (atoms_in b.ty)) (opened s x)) z
  at true i = flat_there (λ (y : Atom). opened s (replaced y k x)) (atoms_in b.ty) w z m n
  at false i = cc

root_opened : (s : Scope) (x : Atom) → x.anchor ≡ Root → Among (opened s x) x
unfolding opened opened_at
root_opened [] x e = first
root_opened (b ∷ s) x e = subst (λ (a : Anchor). Among (opened_at b (opened s) x a) x) (sym e) (root_opened s x e)

through_opened : (s : Scope) (b : Bind) (x w z : Atom) (k : ℕ) → BindsFit s → Among s b → x.anchor ≡ Up b.path k → Among (atoms_in b.ty) w
    → Among (opened s (replaced w k x)) z → Among (opened s x) z
unfolding opened InIt
through_opened _ b x w z k f (first {xs = s}) e m n =
    found_at b s x w z k x.anchor e m
    (subst (λ (ys : List Atom). Among ys z) (passed b s (replaced w k x) f (replaced_in_it s w x k (anchored_in s w.anchor (type_anchored f.2 w m)))) n)
through_opened _ b x w z k f (later {y = c} {xs = s} a) e m n =
    let own : InIt s x.anchor = subst (InIt s) (sym e) (record { bind = b; among = a; is = refl }) in
    let his : InIt s (replaced w k x).anchor = replaced_in_it s w x k (anchored_in s w.anchor (type_anchored (fits_whole a f.0) w m)) in
    subst (λ (ys : List Atom). Among ys z) (sym (passed c s x f own))
    (through_opened s b x w z k f.0 a e m (subst (λ (ys : List Atom). Among ys z) (passed c s (replaced w k x) f his) n))

opens_opened : {p : Program} {s : Scope} {x z : Atom} → BindsFit s → Opens p s x z → Among (opened s x) z
opens_opened {s = s} {x = x} f (closed e u) = root_opened s x e
opens_opened {s = s} {x = x} {z = z} f (through b k w u a e m o) = through_opened s b x w z k f a e m (opens_opened f o)

opens_root : {p : Program} {s : Scope} {x z : Atom} → Opens p s x z → z.anchor ≡ Root
opens_root (closed e u) = e
opens_root (through b k w u a e m o) = opens_root o

pub closures_listed : ClosuresListed
closures_listed p s xs f = record {
  listed = listed (InClosure p s xs) (flat (opened s) xs) (λ z c. flat_there (opened s) xs c.from z c.among (opens_opened f c.opens));
  root = λ z c. opens_root c.opens;
}
