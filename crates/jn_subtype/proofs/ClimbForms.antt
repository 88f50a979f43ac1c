-- How many names can be moved, and the atom after they are.
use Rattle.std.proofs.Common.{◌≡◌, ◌↔◌, ◌<◌, ◌+◌, ◌-◌, ◌++◌, ◌∷◌, ℕ, List, [], suc, length, take, drop, reverse, Contains, refl, sym, ap, ◌∙◌, subst, arith, length-append, length-drop, Bool, true, false, nat_le, leb-true, leb-false, take-append-drop}
use Rattle.std.proofs.lemmas.List.{length-reverse, reverse-append, take_all}
use Rattle.jn_reach.specs.Chain.{Chain}
use Rattle.jn_base.specs.declared.tree.Name.{Name}
use Rattle.jn_base.specs.declared.tree.Program.{Program}
use Rattle.jn_base.specs.declared.types.Anchor.{Anchor}
use Rattle.jn_base.specs.declared.types.Anchor.TheVariants.{Root, Up}
use Rattle.jn_base.specs.Paths.{Path}
use Rattle.jn_base.specs.Universe.{InUniverse}
use Rattle.jn_base.specs.Atoms.{Atom, atom, anchor_at, lifted}
use Rattle.jn_base.specs.Scopes.{Scope, bound, bound_of}
use Rattle.jn_base.specs.Fits.{Anchored}
use Rattle.jn_sem.specs.Search.{Climbs, climbed, CanClimb, in_exact, in_bound, rank}
use Rattle.jn_sem.proofs.Codes.{kept_is}
use Rattle.jn_sem.proofs.Climbing.{climbs_closed, climbs_to}
use Rattle.jn_subtype.specs.Older.{IsAsOld}
use Rattle.jn_subtype.specs.Turns.{Adds}
use Rattle.jn_subtype.proofs.Addings.{Upto, adds_all}

-- lists

take_front : {X : Type 0} (a b : List X) (m : ℕ) → length a ≡ m → take m (a ++ b) ≡ a
take_front [] b m e = subst (λ (k : ℕ). take k b ≡ []) e refl
take_front {X} (x ∷ a) b m e = subst (λ (k : ℕ). take k (x ∷ (a ++ b)) ≡ x ∷ a) e (ap (λ (t : List X). x ∷ t) (take_front a b (length a) refl))

-- the last m of a list are, turned, the first m
pub back_is : {X : Type 0} (n m : ℕ) (l : List X) → n ≡ length l - m → reverse (drop n l) ≡ take m (reverse l)
back_is {X} n m l e = at (nat_le m (length l)) refl where
  at : (b : Bool) → nat_le m (length l) ≡ b → reverse (drop n l) ≡ take m (reverse l)
  at true h =
      let le = leb-true m (length l) h in
      let long : length (reverse (drop n l)) ≡ m = length-reverse (drop n l) ∙ length-drop n l ∙ omega (arith, e, le) in
      sym (ap (λ (t : List X). take m (reverse t)) (sym (take-append-drop n l)) ∙ ap (take m) (reverse-append (take n l) (drop n l))
      ∙ take_front (reverse (drop n l)) (reverse (take n l)) m long)
  at false h =
      let lt = leb-false m (length l) h in
      let none : n ≡ 0 = omega (arith, e, lt) in
      ap (λ (k : ℕ). reverse (drop k l)) none ∙ sym (take_all m (reverse l) (omega (arith, lt, length-reverse l)))

take_past : (ns X : List Name) (m : ℕ) → take (length ns + m) (ns ++ X) ≡ ns ++ take m X
take_past [] X m = let n : 0 + m ≡ m = omega arith in ap (λ (i : ℕ). take i X) n
take_past (n ∷ ns) X m =
    let e : suc (length ns) + m ≡ suc (length ns + m) = omega arith in
    ap (λ (i : ℕ). take i (n ∷ (ns ++ X))) e ∙ ap (λ (t : List Name). n ∷ t) (take_past ns X m)

-- a slice to the end
pub to_end : {X : Type 0} (n : ℕ) (l : List X) → take (length l - n) (drop n l) ≡ drop n l
to_end n l = take_all (length l - n) (drop n l) (omega (arith, length-drop n l))

-- the atom after i names have been moved, as the code makes it
pub climb_is : (s : Scope) (x : Atom) (b : Path) (i : ℕ) (exact inexact names : List Name) (a : Anchor) (kept from : ℕ)
    → reverse exact ≡ x.exact → reverse inexact ≡ x.names → reverse names ≡ b → a ≡ lifted (i - length exact) x.anchor
    → kept ≡ length exact - i → from ≡ length names - length inexact - i → b ≡ bound s x
    → atom a (reverse (take kept exact)) (reverse (take (length names - from) (drop from names))) ≡ climbed s x i
climb_is s x b i exact inexact names a kept from e n m h k f w =
    let long : length exact ≡ length x.exact = sym (length-reverse exact) ∙ ap length e in
    let few : length inexact ≡ length x.names = sym (length-reverse inexact) ∙ ap length n in
    let moved : Path = x.exact ++ anchor_at (bound_of s) x.anchor in
    let anchor : a ≡ lifted (i - length x.exact) x.anchor = h ∙ ap (λ (j : ℕ). lifted (i - j) x.anchor) long in
    let left : reverse (take kept exact) ≡ drop i x.exact = kept_is kept i exact k ∙ ap (drop i) e in
    let off : from ≡ length names - (length x.names + i) = omega (arith, f, few) in
    let got : reverse (drop from names) ≡ x.names ++ take i moved =
    back_is from (length x.names + i) names off ∙ ap (take (length x.names + i)) (m ∙ w) ∙ take_past x.names moved i in
    ap (λ (ns : List Name). atom a (reverse (take kept exact)) (reverse ns)) (to_end from names)
    ∙ ap (λ (c : Anchor). atom c (reverse (take kept exact)) (reverse (drop from names))) anchor
    ∙ ap (λ (es : List Name). atom (lifted (i - length x.exact) x.anchor) es (reverse (drop from names))) left
    ∙ ap (λ (ns : List Name). atom (lifted (i - length x.exact) x.anchor) (drop i x.exact) ns) got

-- how many can be moved

pub anchor_length : (s : Scope) (x : Atom) (q k : ℕ) → x.anchor ≡ Up q k
    → length (bound s x) ≡ length x.names + (length x.exact + (length (bound_of s q) - k))
anchor_length s x q k a =
    let base : Path = anchor_at (bound_of s) x.anchor in
    omega (
      arith,
      length-append x.names (x.exact ++ base),
      length-append x.exact base,
      ap (λ (c : Anchor). length (anchor_at (bound_of s) c)) a,
      length-drop k (bound_of s q),
    )

pub known_count : (p : Program) (s : Scope) (x : Atom) (q k n i : ℕ) → x.anchor ≡ Up q k → InUniverse p (bound s x)
    → k < length (bound_of s q)
    → n ≡ length (bound s x) - length x.names → (i < n) ↔ CanClimb p s x i
known_count p s x q k n i a u g h = (λ l. in_bound q k a (omega (arith, l, h, g, anchor_length s x q k a)) u, back) where
  back : CanClimb p s x i → i < n
  back (in_exact l) = omega (arith, l, h, g, anchor_length s x q k a)
  back (in_bound r j e l w) =
      let path : r ≡ q = cc in
      let level : j ≡ k = cc in
      let within : j + (i - length x.exact) < length (bound_of s q) = subst (λ (t : ℕ). j + (i - length x.exact) < length (bound_of s t)) path l in
      omega (arith, within, level, h, g, anchor_length s x q k a)

-- each is anchored, at a path as old

pub rank_lifted : (s : Scope) (n : ℕ) (a : Anchor) → rank s (lifted n a) ≡ rank s a
rank_lifted s n Root = refl
rank_lifted s n (Up q k) = refl

pub climbed_old : (s : Scope) (x : Atom) (i : ℕ) → Anchored s (lifted (i - length x.exact) x.anchor) → IsAsOld s x (climbed s x i)
climbed_old s x i g = record { anchored = g; same = rank_lifted s (i - length x.exact) x.anchor }

-- those so found are the ends of the chains
pub climbs_found : {p : Program} {s : Scope} {x : Atom} (n : ℕ) (zs : List Atom) → Adds (Upto (climbed s x) n) [] zs
    → ((i : ℕ) → (i < n) ↔ CanClimb p s x i) → (z : Atom) → Contains zs z ↔ Chain (Climbs p s) x z
climbs_found {p} {s} {x} n zs a can z = (to, back) where
  to : Contains zs z → Chain (Climbs p s) x z
  to h = let u = (adds_all a z).0 h in subst (Chain (Climbs p s) x) (sym u.is) (climbs_to u.place x ((can u.place).0 u.below))

  back : Chain (Climbs p s) x z → Contains zs z
  back c = let m = climbs_closed c in (adds_all a z).1 (record { place = m.moved_names; below = (can m.moved_names).1 m.can; is = m.is })
