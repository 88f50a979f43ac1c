-- The root closure, atom by atom.
use Rattle.std.proofs.Common.{◌≡◌, ◌↔◌, ◌<◌, ◌≤◌, ◌+◌, ℕ, List, [], ◌∷◌, ◌++◌, length, take, map, get_or, Contains, refl, sym, ap, ◌∙◌, subst, ◌⊎◌, inl, inr}
use Rattle.std.proofs.lemmas.List.{map-append}
use Rattle.jn_base.proofs.NameTests.{in_none, in_cons, first as first_in}
use Rattle.jn_base.specs.declared.tree.Program.{Program}
use Rattle.jn_base.specs.declared.types.Anchor.TheVariants.{Root, Up}
use Rattle.jn_base.specs.declared.types.Atom.{Atom as ShownAtom}
use Rattle.jn_base.specs.declared.types.Ty.{Ty}
use Rattle.jn_base.specs.Universe.{InUniverse}
use Rattle.jn_base.specs.Atoms.{Atom, atom_of, atoms_in, Among}
use Rattle.jn_base.specs.Scopes.{Bind as TypeBind, Scope, bound}
use Rattle.jn_base.specs.Fits.{BindsFit}
use Rattle.jn_sem.specs.Widening.{replaced}
use Rattle.jn_sem.specs.RootClosure.{Opens, closed, through, InClosure}
use Rattle.jn_sem.proofs.Codes.{among_of, contains_of}
use Rattle.jn_sem.proofs.NormalTypes.{among_map, map_among}
use Rattle.jn_subtype.specs.Turns.{Adds}
use Rattle.jn_subtype.proofs.Addings.{FromOne, adds_first, adds_list, adds_more, adds_whole, adds_all}
use Rattle.jn_subtype.proofs.EnterForms.{bind_once}
use Rattle.jn_rules.specs.Questions.{IsClosure}
use Rattle.jn_expr.specs.Closed.{OpensBy}

-- ---- one atom

pub opens_known : {p : Program} {s : Scope} {x z : Atom} → Opens p s x z → InUniverse p (bound s x)
opens_known (closed e u) = u
opens_known (through b k w u m e a o) = u

not_up : {q k : ℕ} → Root ≡ Up q k → ⊥
not_up e = cc

pub unknown_opens : (p : Program) (s : Scope) (x : Atom) (ts : List ShownAtom) → ts ≡ [] → (InUniverse p (bound s x) → ⊥) → (t : Atom)
    → Contains (map atom_of ts) t ↔ Opens p s x t
unknown_opens p s x ts e n t =
    (λ c. absurd (in_none t (subst (λ (l : List ShownAtom). Contains (map atom_of l) t) e c)), λ o. absurd (n (opens_known o)))

module _ (p : Program) (s : Scope) (x : Atom) where
  root_back : x.anchor ≡ Root → (t : Atom) → Opens p s x t → x ≡ t
  root_back e t (closed i u) = refl
  root_back e t (through b k w u m i a o) = absurd (not_up (sym e ∙ i))

  pub root_opens : (ts : List ShownAtom) → map atom_of ts ≡ x ∷ [] → x.anchor ≡ Root → InUniverse p (bound s x) → (t : Atom)
      → Contains (map atom_of ts) t ↔ Opens p s x t
  root_opens ts h e u t = (
    λ c. by (in_cons x [] t (subst (λ (l : List Atom). Contains l t) h c)),
    λ o. subst (λ (l : List Atom). Contains l t) (sym h) (subst (Contains (x ∷ [])) (root_back e t o) (first_in x [])),
  ) where
    by : (x ≡ t) ⊎ Contains [] t → Opens p s x t
    by (inl i) = subst (Opens p s x) i (closed e u)
    by (inr c) = absurd (in_none t c)

-- no bind has the path
unbound : {p : Program} {s : Scope} {x t : Atom} (q k : ℕ) → x.anchor ≡ Up q k → ((c : TypeBind) → Among s c → c.path ≡ q → ⊥) → Opens p s x t → ⊥
unbound q k i none (closed r u) = not_up (sym r ∙ i)
unbound q k i none (through b j w u m a h o) = none b m (cc (sym a ∙ i))

pub unbound_opens : (p : Program) (s : Scope) (x : Atom) (ts : List ShownAtom) (q k : ℕ) → ts ≡ [] → x.anchor ≡ Up q k
    → ((c : TypeBind) → Among s c → c.path ≡ q → ⊥) → (t : Atom) → Contains (map atom_of ts) t ↔ Opens p s x t
unbound_opens p s x ts q k e i none t =
    (λ c. absurd (in_none t (subst (λ (l : List ShownAtom). Contains (map atom_of l) t) e c)), λ o. absurd (unbound q k i none o))

-- by the one bind of the path
by_bind : {p : Program} {s : Scope} {x t : Atom} (b : TypeBind) (k : ℕ) → BindsFit s → Among s b → x.anchor ≡ Up b.path k → Opens p s x t
    → OpensBy p s (atoms_in b.ty) k x t
by_bind b k f m e (closed r v) = absurd (not_up (sym r ∙ e))
by_bind {p} {s} {x} {t} b k f m e (through c j w v n a h o) =
    let both : Up c.path j ≡ Up b.path k = sym a ∙ e in
    let path : c.path ≡ b.path = cc both in
    let level : j ≡ k = cc both in
    let same : c ≡ b = bind_once f n m path in
    record {
      by = w;
      among = subst (λ (d : TypeBind). Among (atoms_in d.ty) w) same h;
      opens = subst (λ (i : ℕ). Opens p s (replaced w i x) t) level o;
    }

pub bound_opens : (p : Program) (s : Scope) (x : Atom) (b : TypeBind) (k : ℕ) → BindsFit s → Among s b → x.anchor ≡ Up b.path k → InUniverse p (bound s x)
    → (ts : List Atom) → ((t : Atom) → Contains ts t ↔ OpensBy p s (atoms_in b.ty) k x t) → (t : Atom) → Contains ts t ↔ Opens p s x t
bound_opens p s x b k f m e u ts each t = (λ c. to ((each t).0 c), λ o. (each t).1 (by_bind b k f m e o)) where
  to : OpensBy p s (atoms_in b.ty) k x t → Opens p s x t
  to h = through b k h.by u m e h.among h.opens

-- ---- lists

-- what one of the atoms of a path's type opens
abbrev pub OpensOne : Program → Scope → ℕ → Atom → ShownAtom → Atom → Type 0
OpensOne p s k x z t = Opens p s (replaced (atom_of z) k x) t

abbrev pub OpensItself : Program → Scope → ShownAtom → Atom → Type 0
OpensItself p s x t = Opens p s (atom_of x) t

abbrev pub SoFar : (ShownAtom → Atom → Type 0) → List ShownAtom → List ShownAtom → Type 0
SoFar R zs all = Adds (FromOne R zs) [] (map atom_of all)

module _ (R : ShownAtom → Atom → Type 0) where
  pub none_so_far : (all : List ShownAtom) → all ≡ [] → SoFar R [] all
  none_so_far all e = subst (λ (l : List ShownAtom). Adds (FromOne R []) [] (map atom_of l)) (sym e) (adds_first R [])

  pub more_so_far : (zs : List ShownAtom) (i : ℕ) (z : ShownAtom) (mid more new : List ShownAtom) → i < length zs → z ≡ get_or zs i z
      → SoFar R (take i zs) mid → new ≡ mid ++ more → ((t : Atom) → Contains (map atom_of more) t ↔ R z t) → SoFar R (take (i + 1) zs) new
  more_so_far zs i z mid more new l e so h each =
      adds_more R zs i z [] (map atom_of mid) (map atom_of new) l e so
      (subst (Adds (R z) (map atom_of mid)) (sym (ap (map atom_of) h ∙ map-append atom_of mid more)) (adds_list (R z) (map atom_of mid) (map atom_of more) each))

  pub all_so_far : (zs : List ShownAtom) (i : ℕ) (all : List ShownAtom) → length zs ≤ i → SoFar R (take i zs) all → (t : Atom)
      → Contains (map atom_of all) t ↔ FromOne R zs t
  all_so_far zs i all l so t = adds_all (adds_whole R zs i [] (map atom_of all) l so) t

pub opened_by : (p : Program) (s : Scope) (k : ℕ) (x : Atom) (zs : List ShownAtom) (ts : List Atom)
    → ((t : Atom) → Contains ts t ↔ FromOne (OpensOne p s k x) zs t) → (t : Atom) → Contains ts t ↔ OpensBy p s (map atom_of zs) k x t
opened_by p s k x zs ts each t = (λ c. to ((each t).0 c), λ h. (each t).1 (back h)) where
  to : FromOne (OpensOne p s k x) zs t → OpensBy p s (map atom_of zs) k x t
  to u = record { by = atom_of u.origin; among = among_map atom_of zs u.origin (among_of zs u.origin u.among); opens = u.by }

  back : OpensBy p s (map atom_of zs) k x t → FromOne (OpensOne p s k x) zs t
  back h =
      let z = map_among atom_of zs h.by h.among in
      record { origin = z.0; among = contains_of zs z.0 z.1; by = subst (λ (y : Atom). Opens p s (replaced y k x) t) (sym z.2) h.opens }

pub closed_by : (p : Program) (s : Scope) (xs : List ShownAtom) (ts : List Atom) → ((t : Atom) → Contains ts t ↔ FromOne (OpensItself p s) xs t)
    → (t : Atom) → Contains ts t ↔ InClosure p s (map atom_of xs) t
closed_by p s xs ts each t = (λ c. to ((each t).0 c), λ h. (each t).1 (back h)) where
  to : FromOne (OpensItself p s) xs t → InClosure p s (map atom_of xs) t
  to u = record { from = atom_of u.origin; among = among_map atom_of xs u.origin (among_of xs u.origin u.among); opens = u.by }

  back : InClosure p s (map atom_of xs) t → FromOne (OpensItself p s) xs t
  back h =
      let z = map_among atom_of xs h.from h.among in
      record { origin = z.0; among = contains_of xs z.0 z.1; by = subst (λ (y : Atom). Opens p s y t) (sym z.2) h.opens }

-- nothing is opened by no atom
pub none_opened : (p : Program) (s : Scope) (k : ℕ) (x : Atom) (ts : List ShownAtom) (zs : List Atom) → ts ≡ [] → zs ≡ [] → (t : Atom)
    → Contains (map atom_of ts) t ↔ OpensBy p s zs k x t
none_opened p s k x ts zs e h t = (
  λ c. absurd (in_none t (subst (λ (l : List ShownAtom). Contains (map atom_of l) t) e c)),
  λ o. absurd (nothing (subst (λ (l : List Atom). Among l o.by) h o.among)),
) where
  nothing : {y : Atom} → Among [] y → ⊥
  nothing m = elim m [ ]

-- a closure as a list of atoms
pub is_closure : (p : Program) (s : Scope) (t : Ty) (ts : List ShownAtom) → ((z : Atom) → Contains (map atom_of ts) z ↔ InClosure p s (atoms_in t) z)
    → IsClosure p s t (map atom_of ts)
is_closure p s t ts each = record {
  exact = λ z. (λ m. (each z).0 (contains_of (map atom_of ts) z m), λ c. among_of (map atom_of ts) z ((each z).1 c));
}

pub no_closure : (p : Program) (s : Scope) (t : Ty) (ts : List ShownAtom) → ts ≡ [] → atoms_in t ≡ [] → IsClosure p s t (map atom_of ts)
no_closure p s t ts e h = is_closure p s t ts (λ z. (
  λ c. absurd (in_none z (subst (λ (l : List ShownAtom). Contains (map atom_of l) z) e c)),
  λ o. absurd (nothing (subst (λ (l : List Atom). Among l o.from) h o.among)),
)) where
  nothing : {y : Atom} → Among [] y → ⊥
  nothing m = elim m [ ]
