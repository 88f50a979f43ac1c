-- Places that stand in words, in the order of the words.
use Rattle.std.proofs.Common.{◌≡◌, List, [], ◌∷◌, ◌++◌, map, refl, sym, ap, ◌∙◌, subst, Bool, true, false}
use Rattle.jn_base.specs.declared.tree.Name.{Name}
use Rattle.jn_base.specs.declared.tree.Named.{Named}
use Rattle.jn_base.specs.declared.tree.Place.{Place}
use Rattle.jn_base.specs.declared.refusal.Refusal.{Refusal}
use Rattle.jn_base.specs.Parts.{Part}
use Rattle.jn_base.specs.Paths.{Path}
use Rattle.jn_base.specs.Duplicates.{only_if, has_name, seconds, duplicate}

pub data Sub : List Place → List Part → Type 0 where
  done : Sub [] []
  skip : {ps : List Place} {t : Part} {w : List Part} → Sub ps w → Sub ps (t ∷ w)
  take : {ps : List Place} {t : Part} {w : List Part} → Sub ps w → Sub (t.at ∷ ps) (t ∷ w)

abbrev pub at_of : Named → Place
at_of n = n.at

abbrev pub refused_at : Refusal → Place
refused_at r = r.at

pub none : (w : List Part) → Sub [] w
none [] = done
none (t ∷ w) = skip (none w)

pub both : {ps qs : List Place} {u v : List Part} → Sub ps u → Sub qs v → Sub (ps ++ qs) (u ++ v)
both done b = b
both (skip a) b = skip (both a b)
both (take a) b = take (both a b)

pub behind : {ps : List Place} (u : List Part) {v : List Part} → Sub ps v → Sub ps (u ++ v)
behind [] s = s
behind (t ∷ u) s = skip (behind u s)

pub before : {ps : List Place} {u : List Part} (v : List Part) → Sub ps u → Sub ps (u ++ v)
before v done = none v
before v (skip s) = skip (before v s)
before v (take s) = take (before v s)

-- the first one is there or not
pub maybe : (b : Bool) {ps : List Place} {t : Part} {w : List Part} → Sub ps w
    → Sub (only_if b (t.at ∷ []) ++ ps) (t ∷ w)
maybe true s = take s
maybe false s = skip s

pub places_both : {A : Type 0} (f : A → Place) (xs ys : List A) → map f (xs ++ ys) ≡ map f xs ++ map f ys
places_both f [] ys = refl
places_both f (x ∷ xs) ys = ap (λ (ps : List Place). f x ∷ ps) (places_both f xs ys)

pub places_if : {A : Type 0} (f : A → Place) (b : Bool) (x : A) (xs : List A)
    → map f (only_if b (x ∷ []) ++ xs) ≡ only_if b (f x ∷ []) ++ map f xs
places_if f true x xs = refl
places_if f false x xs = refl

pub places_found : (R : Path) (ns : List Named) → map refused_at (map (duplicate R) ns) ≡ map at_of ns
places_found R [] = refl
places_found R (n ∷ ns) = ap (λ (ps : List Place). n.at ∷ ps) (places_found R ns)

-- those that stand twice are some of them
some_by : (seen : List Name) (ns : List Named) {ps : List Place} {w : List Part} → Sub ps w → ps ≡ map at_of ns
    → Sub (map at_of (seconds seen ns)) w
some_by seen [] done e = done
some_by seen (n ∷ ns) done e = cc e
some_by seen ns (skip s) e = skip (some_by seen ns s e)
some_by seen [] (take s) e = cc e
some_by seen (n ∷ ns) (take {ps = ps} {t = t} {w = w} s) e =
    let here : t.at ≡ n.at = cc e in
    let others : ps ≡ map at_of ns = cc e in
    let b : Bool = has_name seen n.name in
    subst (λ (qs : List Place). Sub qs (t ∷ w))
    (ap (λ (at : Place). only_if b (at ∷ []) ++ map at_of (seconds (n.name ∷ seen) ns)) here
    ∙ sym (places_if at_of b n (seconds (n.name ∷ seen) ns)))
    (maybe b (some_by (n.name ∷ seen) ns s others))

pub some_seconds : (seen : List Name) (ns : List Named) (w : List Part) → Sub (map at_of ns) w
    → Sub (map at_of (seconds seen ns)) w
some_seconds seen ns w s = some_by seen ns s refl
