-- Scopes that differ in masks alone.
use Rattle.std.proofs.Common.{◌≡◌, ◌<◌, ◌≤◌, ℕ, List, length, refl, sym, ap, ◌∙◌, subst, cond, nat_eq}
use Rattle.jn_reach.specs.Chain.{here, step}
use Rattle.jn_reach.proofs.Chains.{Chain-map}
use Rattle.jn_base.specs.declared.tree.Program.{Program}
use Rattle.jn_base.specs.declared.types.Anchor.{Anchor}
use Rattle.jn_base.specs.declared.types.Anchor.TheVariants.{Root, Up}
use Rattle.jn_base.specs.declared.types.Ty.{Ty}
use Rattle.jn_base.specs.declared.types.Ty.TheVariants as ty
use Rattle.jn_base.specs.Paths.{Path}
use Rattle.jn_base.specs.Supers.{Sup}
use Rattle.jn_base.specs.Universe.{InUniverse}
use Rattle.jn_base.specs.Atoms.{Atom, atoms_in, first_at, atom_at, anchor_at, Among, first, later}
use Rattle.jn_base.specs.Scopes.{Bind, Scope, bound_of, bound, Binds}
use Rattle.jn_base.specs.Fits.{Anchored, AtomsFit, IsClassType, TypeFits, BindsFit}
use Rattle.jn_base.specs.Resolve.{is_class}
use Rattle.jn_sem.specs.Widening.{Widens, loosened, raised, opened, widened}
use Rattle.jn_sem.specs.Below.{Below, ints, booleans, nulls, classes}
use Rattle.jn_sem.specs.RootClosure.{Opens, closed, through}
use Rattle.jn_sem.specs.Normal.{normal, rewritten, rewritten_at, by_first}
use Rattle.jn_laws.specs.LawsOfScopes.{BindsAlike, ScopesAlike, none, one, MasksAlone}

pub alike_back : {s t : Scope} → ScopesAlike s t → ScopesAlike t s
alike_back none = none
alike_back (one a h) = one (record { path = sym a.path; atoms = sym a.atoms; class = sym a.class }) (alike_back h)

-- a bind of the one has its like in the other
pub record Like (t : Scope) (b : Bind) : Type 0 where
  pub bind : Bind
  pub among : Among t bind
  pub alike : BindsAlike b bind

pub like : {s t : Scope} → ScopesAlike s t → (b : Bind) → Among s b → Like t b
like none b m = elim m [ ]
like (one {c = c} a h) _ first = record { bind = c; among = first; alike = a }
like (one a h) b (later m) = let r = like h b m in record { bind = r.bind; among = later r.among; alike = r.alike }

pub binds_like : {s t : Scope} → ScopesAlike s t → (q : ℕ) → Binds s q → Binds t q
binds_like h q b = let r = like h b.bind b.among in record { bind = r.bind; among = r.among; is = r.alike.path ∙ b.is }

pub bounds_like : {s t : Scope} → ScopesAlike s t → (q : ℕ) → bound_of t q ≡ bound_of s q
bounds_like none q = refl
bounds_like (one {b = b} {c = c} {s = s} {t = t} a h) q =
    let rest : (r : ℕ) → bound_of t r ≡ bound_of s r = λ r. bounds_like h r in
    ap (λ (n : ℕ). cond (nat_eq q n) (first_at (bound_of t) (atoms_in c.ty)) (bound_of t q)) a.path
    ∙ ap (λ (xs : List Atom). cond (nat_eq q b.path) (first_at (bound_of t) xs) (bound_of t q)) a.atoms
    ∙ (λ i. cond (nat_eq q b.path) (first_at (λ r. rest r i) (atoms_in b.ty)) (rest q i))

-- the bounds as one function
pub bounds_are : {s t : Scope} → ScopesAlike s t → bound_of t ≡ bound_of s
bounds_are h i q = bounds_like h q i

pub anchored_like : {s t : Scope} → ScopesAlike s t → (a : Anchor) → Anchored s a → Anchored t a
anchored_like h Root a = tt
anchored_like h (Up q k) a = (binds_like h q a.0, subst (λ (R : Path). k < length R) (sym (bounds_like h q)) a.1)

pub bound_like : {s t : Scope} → ScopesAlike s t → (x : Atom) → bound t x ≡ bound s x
bound_like h x = ap (λ (f : ℕ → Path). atom_at f x) (bounds_are h)

atoms_like : {s t : Scope} → ScopesAlike s t → (xs : List Atom) → AtomsFit s xs → AtomsFit t xs
atoms_like h xs f = record {
  one = f.one;
  among = f.among;
  anchored = λ x m. anchored_like h x.anchor (f.anchored x m);
  depth = λ x m. ap length (bound_like h x) ∙ f.depth x m ∙ sym (ap length (bound_like h f.one));
  shallow = subst (λ (R : Path). length R ≤ 255) (sym (bound_like h f.one)) f.shallow;
}

pub fits_like : {s t : Scope} → ScopesAlike s t → (u : Ty) → TypeFits s u → TypeFits t u
fits_like h u f = record { atoms = λ i. atoms_like h (atoms_in u) (f.atoms i) }

-- whether a type is a class type is its test's answer
class_tested : (t u : Ty) → is_class t ≡ is_class u → IsClassType t → IsClassType u
class_tested (ty.Class xs m) (ty.Class ys n) e i = tt
class_tested (ty.Class xs m) ty.Int e i = cc
class_tested (ty.Class xs m) ty.Bool e i = cc
class_tested (ty.Class xs m) ty.Null e i = cc
class_tested (ty.Class xs m) ty.Void e i = cc
class_tested ty.Int u e i = absurd i
class_tested ty.Bool u e i = absurd i
class_tested ty.Null u e i = absurd i
class_tested ty.Void u e i = absurd i

pub binds_fit_like : {s t : Scope} → ScopesAlike s t → BindsFit s → BindsFit t
binds_fit_like none f = tt
binds_fit_like (one {b = b} {c = c} {s = s} {t = t} a h) f = (
  binds_fit_like h f.0,
  λ d. f.1 (subst (Binds s) a.path (binds_like (alike_back h) c.path d)),
  record { atoms = λ i. subst (AtomsFit t) (sym a.atoms) (atoms_like h (atoms_in b.ty) (f.2.atoms (class_tested c.ty b.ty a.class i))) },
)

rewritten_like : (b c : Bind) → BindsAlike b c → (x : Atom) (a : Anchor) → rewritten_at c x a ≡ rewritten_at b x a
rewritten_like b c h x Root = refl
rewritten_like b c h x (Up q k) =
    ap (λ (n : ℕ). cond (nat_eq q n) (by_first k x (atoms_in c.ty)) x) h.path
    ∙ ap (λ (xs : List Atom). cond (nat_eq q b.path) (by_first k x xs) x) h.atoms

pub normal_like : {s t : Scope} → ScopesAlike s t → (x : Atom) → normal t x ≡ normal s x
normal_like none x = refl
normal_like (one {b = b} {c = c} {s = s} {t = t} a h) x = ap (normal t) (rewritten_like b c a x x.anchor) ∙ normal_like h (rewritten b x)

widens_like : {p : Program} {s t : Scope} → ScopesAlike s t → {x y : Atom} → Widens p s x y → Widens p t x y
widens_like h (loosened e es i j) = loosened e es i j
widens_like {p} {s} {t} h {x} {y} (raised q k c d B i j e u) =
    raised q k c d B i (ap (λ (f : ℕ → Path). anchor_at f (Up q k)) (bounds_are h) ∙ j) e (subst (InUniverse p) (sym (bound_like h y)) u)
widens_like {p} {s} {t} h {x} {y} (opened b k z m i n e u) =
    let r = like h b m in
    opened r.bind k z r.among (subst (λ (q : ℕ). x.anchor ≡ Up q k) (sym r.alike.path) i) (subst (λ (xs : List Atom). Among xs z) (sym r.alike.atoms) n) e
    (subst (InUniverse p) (sym (bound_like h y)) u)
widens_like {p} {s} {t} h {x} {y} (widened ns l g e u) =
    widened ns l g e (subst (λ (R : Path). Sup p R (bound t y)) (sym (bound_like h x)) (subst (Sup p (bound s x)) (sym (bound_like h y)) u))

pub below_like : {p : Program} {s t : Scope} → ScopesAlike s t → {u w : Ty} → Below p s u w → Below p t u w
below_like h ints = ints
below_like h booleans = booleans
below_like h nulls = nulls
below_like {p} {s} {t} h (classes b m) = classes (λ y a. let r = b y a in record {
  from = r.from;
  among = r.among;
  chain = Chain-map (Widens p s) (Widens p t) (λ x. x) (λ x z w. step (widens_like h w) here) r.chain;
}) m

opens_like : {p : Program} {s t : Scope} {x z : Atom} → ScopesAlike s t → Opens p s x z → Opens p t x z
opens_like {p} {x = x} h (closed e u) = closed e (subst (InUniverse p) (sym (bound_like h x)) u)
opens_like {p} {x = x} h (through b k w u m i n o) =
    let r = like h b m in
    through r.bind k w (subst (InUniverse p) (sym (bound_like h x)) u) r.among (subst (λ (q : ℕ). x.anchor ≡ Up q k) (sym r.alike.path) i)
    (subst (λ (xs : List Atom). Among xs w) (sym r.alike.atoms) n) (opens_like h o)

pub masks_alone : MasksAlone
masks_alone p s t h = record {
  turned = alike_back h;
  binds = binds_like h;
  bounds = bounds_like h;
  anchored = anchored_like h;
  fits = fits_like h;
  binds_fit = binds_fit_like h;
  normals = normal_like h;
  below = λ u w b. below_like h b;
  closure = λ xs z c. record { from = c.from; among = c.among; opens = opens_like h c.opens };
}
