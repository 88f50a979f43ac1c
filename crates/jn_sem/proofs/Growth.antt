-- What is said in a scope stays so where a bind is added.
use Rattle.std.proofs.Common.{◌≡◌, ◌↔◌, ℕ, ◌∷◌, suc, sym, ap, ◌∙◌, subst}
use Rattle.jn_reach.specs.Chain.{Chain, here, step}
use Rattle.jn_base.specs.declared.tree.Name.{Name}
use Rattle.jn_base.specs.declared.tree.Program.{Program}
use Rattle.jn_base.specs.declared.types.Anchor.{Anchor}
use Rattle.jn_base.specs.declared.types.Anchor.TheVariants.{Up}
use Rattle.jn_base.specs.declared.types.Ty.{Ty}
use Rattle.jn_base.specs.Paths.{Path}
use Rattle.jn_base.specs.Supers.{Sup}
use Rattle.jn_base.specs.Universe.{InUniverse}
use Rattle.jn_base.specs.Atoms.{Atom, atoms_in, anchor_at, Among, first, later}
use Rattle.jn_base.specs.Scopes.{Bind, Scope, bound, bound_of}
use Rattle.jn_base.specs.Fits.{Anchored, TypeFits, BindsFit}
use Rattle.jn_sem.specs.Widening.{replaced, Widens, loosened, raised, opened, widened}
use Rattle.jn_sem.specs.Below.{Below, ints, booleans, nulls, classes}
use Rattle.jn_sem.specs.RootClosure.{Opens, closed, through, InClosure}
use Rattle.jn_sem.specs.Normal.{normal, rewritten}
use Rattle.jn_sem.proofs.Under.{anchor_older, bound_later, type_anchored}
use Rattle.jn_sem.proofs.Normals.{Turns, turned, left, rewritten_is}
use Rattle.jn_sem.proofs.Endings.{anchor_of}
use Rattle.jn_sem.proofs.Closures.{replaced_anchored}

-- an anchor of the older scope is not at the new path
not_new : {s : Scope} {c : Bind} → BindsFit (c ∷ s) → (a : Anchor) → Anchored s a → (k : ℕ) → a ≡ Up c.path k → ⊥
not_new {s} {c} f a g k e =
    let h : Anchored s (Up c.path k) = subst (Anchored s) e g in
    f.1 h.0

pub normal_later : {s : Scope} {c : Bind} → BindsFit (c ∷ s) → (x : Atom) → Anchored s x.anchor → normal (c ∷ s) x ≡ normal s x
normal_later {s} {c} f x g = ap (normal s) (at (rewritten_is c x)) where
  at : Turns c x (rewritten c x) → rewritten c x ≡ x
  at (turned k z e m w i) = absurd (not_new f x.anchor g k e)
  at (left i n) = i

-- where the steps lead

raised_anchored : {s : Scope} (q k : ℕ) (c d : Name) (B : Path) → Anchored s (Up q k) → anchor_at (bound_of s) (Up q k) ≡ c ∷ d ∷ B → Anchored s (Up q (suc k))
raised_anchored {s} q k c d B g h = (g.0, anchor_of s q k c d B h)

opened_anchored : {s : Scope} {b : Bind} → BindsFit s → Among s b → (z : Atom) → Among (atoms_in b.ty) z → (k : ℕ) (x : Atom) → x.anchor ≡ Up b.path k
    → Anchored s x.anchor → Anchored s (replaced z k x).anchor
opened_anchored {s} {b} f m z a k x e g =
    let h : Anchored s (Up b.path k) = subst (Anchored s) e g in
    replaced_anchored f m z a k h.1 x

pub widens_anchored : {p : Program} {s : Scope} {x y : Atom} → BindsFit s → Anchored s x.anchor → Widens p s x y → Anchored s y.anchor
widens_anchored {s = s} f g (loosened e es h i) = subst (λ (t : Atom). Anchored s t.anchor) (sym i) g
widens_anchored {s = s} f g (raised q k c d B e h i n) =
    subst (λ (t : Atom). Anchored s t.anchor) (sym i) (raised_anchored q k c d B (subst (Anchored s) e g) h)
widens_anchored {s = s} {x = x} f g (opened b k z a e c i n) = subst (λ (t : Atom). Anchored s t.anchor) (sym i) (opened_anchored f a z c k x e g)
widens_anchored {s = s} f g (widened ns l o i h) = subst (λ (t : Atom). Anchored s t.anchor) (sym i) g

-- a step in the older scope is one in the new, and the other way round

universe_later : (p : Program) {s : Scope} {c : Bind} → BindsFit (c ∷ s) → (y : Atom) → Anchored s y.anchor → InUniverse p (bound s y) ↔ InUniverse p (bound (c ∷ s) y)
universe_later p f y g = (subst (InUniverse p) (sym (bound_later f y g)), subst (InUniverse p) (bound_later f y g))

pub step_later : {p : Program} {s : Scope} {c : Bind} {x y : Atom} → BindsFit (c ∷ s) → Anchored s x.anchor → Widens p s x y → Widens p (c ∷ s) x y
step_later f g (loosened e es h i) = loosened e es h i
step_later {p} {s} {x = x} {y = y} f g (raised q k c d B e h i n) =
    let there : Anchored s y.anchor = subst (λ (t : Atom). Anchored s t.anchor) (sym i) (raised_anchored {s = s} q k c d B (subst (Anchored s) e g) h) in
    raised q k c d B e (anchor_older f (Up q k) (subst (Anchored s) e g) ∙ h) i ((universe_later p f y there).0 n)
step_later {p} {s} {x = x} {y = y} f g (opened b k z a e m i n) =
    let there : Anchored s y.anchor = subst (λ (t : Atom). Anchored s t.anchor) (sym i) (opened_anchored f.0 a z m k x e g) in
    opened b k z (later a) e m i ((universe_later p f y there).0 n)
step_later {p} {s} {c} {x} {y} f g (widened ns l o i h) =
    let there : Anchored s y.anchor = subst (λ (t : Atom). Anchored s t.anchor) (sym i) g in
    widened ns l o i (subst (Sup p (bound (c ∷ s) x)) (sym (bound_later f y there)) (subst (λ (B : Path). Sup p B (bound s y)) (sym (bound_later f x g)) h))

pub step_older : {p : Program} {s : Scope} {c : Bind} {x y : Atom} → BindsFit (c ∷ s) → Anchored s x.anchor → Widens p (c ∷ s) x y → Widens p s x y
step_older f g (loosened e es h i) = loosened e es h i
step_older {p} {s} {x = x} {y = y} f g (raised q k c d B e h i n) =
    let own = sym (anchor_older f (Up q k) (subst (Anchored s) e g)) ∙ h in
    let there : Anchored s y.anchor = subst (λ (t : Atom). Anchored s t.anchor) (sym i) (raised_anchored {s = s} q k c d B (subst (Anchored s) e g) own) in
    raised q k c d B e own i ((universe_later p f y there).1 n)
step_older {x = x} f g (opened b k z first e m i n) = absurd (not_new f x.anchor g k e)
step_older {p} {s} {x = x} {y = y} f g (opened b k z (later a) e m i n) =
    let there : Anchored s y.anchor = subst (λ (t : Atom). Anchored s t.anchor) (sym i) (opened_anchored f.0 a z m k x e g) in
    opened b k z a e m i ((universe_later p f y there).1 n)
step_older {p} {s} {c} {x} {y} f g (widened ns l o i h) =
    let there : Anchored s y.anchor = subst (λ (t : Atom). Anchored s t.anchor) (sym i) g in
    widened ns l o i (subst (Sup p (bound s x)) (bound_later f y there) (subst (λ (B : Path). Sup p B (bound (c ∷ s) y)) (bound_later f x g) h))

pub chain_later : {p : Program} {s : Scope} {c : Bind} {x y : Atom} → BindsFit (c ∷ s) → Anchored s x.anchor → Chain (Widens p s) x y → Chain (Widens p (c ∷ s)) x y
chain_later f g here = here
chain_later f g (step w r) = step (step_later f g w) (chain_later f (widens_anchored f.0 g w) r)

pub chain_older : {p : Program} {s : Scope} {c : Bind} {x y : Atom} → BindsFit (c ∷ s) → Anchored s x.anchor → Chain (Widens p (c ∷ s)) x y → Chain (Widens p s) x y
chain_older f g here = here
chain_older f g (step w r) =
    let o = step_older f g w in
    step o (chain_older f (widens_anchored f.0 g o) r)

-- "below" for a type of the older scope

pub below_later : {p : Program} {s : Scope} {c : Bind} {t u : Ty} → BindsFit (c ∷ s) → TypeFits s t → Below p s t u ↔ Below p (c ∷ s) t u
below_later {p} {s} {c} f g = (to g, from g) where
  to : {t u : Ty} → TypeFits s t → Below p s t u → Below p (c ∷ s) t u
  to h ints = ints
  to h booleans = booleans
  to h nulls = nulls
  to h (classes b w) = classes (λ y m.
      let r = b y m in
      record { from = r.from; among = r.among; chain = chain_later f (type_anchored h r.from r.among) r.chain }) w

  from : {t u : Ty} → TypeFits s t → Below p (c ∷ s) t u → Below p s t u
  from h ints = ints
  from h booleans = booleans
  from h nulls = nulls
  from h (classes b w) = classes (λ y m.
      let r = b y m in
      record { from = r.from; among = r.among; chain = chain_older f (type_anchored h r.from r.among) r.chain }) w

-- the root closure of a type of the older scope

opens_later : {p : Program} {s : Scope} {c : Bind} {x z : Atom} → BindsFit (c ∷ s) → Anchored s x.anchor → Opens p s x z → Opens p (c ∷ s) x z
opens_later {p} f g (closed {x = x} e n) = closed e ((universe_later p f x g).0 n)
opens_later {p} f g (through {x = x} b k w n a e m o) =
    through b k w ((universe_later p f x g).0 n) (later a) e m (opens_later f (opened_anchored f.0 a w m k x e g) o)

opens_older : {p : Program} {s : Scope} {c : Bind} {x z : Atom} → BindsFit (c ∷ s) → Anchored s x.anchor → Opens p (c ∷ s) x z → Opens p s x z
opens_older {p} f g (closed {x = x} e n) = closed e ((universe_later p f x g).1 n)
opens_older f g (through {x = x} b k w n first e m o) = absurd (not_new f x.anchor g k e)
opens_older {p} f g (through {x = x} b k w n (later a) e m o) =
    through b k w ((universe_later p f x g).1 n) a e m (opens_older f (opened_anchored f.0 a w m k x e g) o)

pub closure_later : {p : Program} {s : Scope} {c : Bind} {t : Ty} {z : Atom} → BindsFit (c ∷ s) → TypeFits s t
    → InClosure p s (atoms_in t) z ↔ InClosure p (c ∷ s) (atoms_in t) z
closure_later {t = t} f g = (
  λ h. record { from = h.from; among = h.among; opens = opens_later f (type_anchored g h.from h.among) h.opens },
  λ h. record { from = h.from; among = h.among; opens = opens_older f (type_anchored g h.from h.among) h.opens },
)
