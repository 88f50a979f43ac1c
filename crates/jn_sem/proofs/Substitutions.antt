-- Normal form and substitution keep sets.
use Rattle.std.proofs.Common.{Bool, ◌≡◌, ◌↔◌, ℕ, List, [], ◌∷◌, ◌++◌, ◌-◌, ◌≤◌, length, refl, sym, subst, cond, nat_le, nat_eq, true, false, leb-true, eqb-true}
use Rattle.jn_base.specs.declared.tree.Program.{Program}
use Rattle.jn_base.specs.declared.types.Anchor.{Anchor}
use Rattle.jn_base.specs.declared.types.Anchor.TheVariants.{Root, Up}
use Rattle.jn_base.specs.Paths.{Path}
use Rattle.jn_base.specs.Atoms.{Atom, atoms_in, Among, first, later}
use Rattle.jn_base.specs.Scopes.{Bind, Scope}
use Rattle.jn_sem.specs.Sets.{Views, Seen, AnchorSeen, view_at, eval, Inside, InAtom, InAtoms, Respects}
use Rattle.jn_sem.specs.Widening.{reduced}
use Rattle.jn_sem.specs.Normal.{by_first, rewritten_at, rewritten, normal, moved_anchor, moved, after, IsSubst}
use Rattle.jn_sem.proofs.Widenings.{reduced_in, reduced_back, lifted_seen}
use Rattle.jn_sem.proofs.Under.{type_atoms}

-- y has x's set, and its path is seen too
pub record Same (p : Program) (v : Views) (x y : Atom) : Type 0 where
  pub seen : AnchorSeen v y.anchor
  pub to : (V : Path) → InAtom p v x V → InAtom p v y V
  pub back : (V : Path) → InAtom p v y V → InAtom p v x V

same_itself : {p : Program} {v : Views} (x : Atom) → AnchorSeen v x.anchor → Same p v x x
same_itself x s = record { seen = s; to = λ V m. m; back = λ V m. m }

same_joined : {p : Program} {v : Views} {x y z : Atom} → Same p v x y → Same p v y z → Same p v x z
same_joined a b = record { seen = b.seen; to = λ V m. b.to V (a.to V m); back = λ V m. a.back V (b.back V m) }

same_reduced : {p : Program} {v : Views} (z : Atom) (q k : ℕ) (x : Atom) → length z.names ≤ k → InAtom p v z (view_at v q) → x.anchor ≡ Up q k → Seen v q
    → Same p v x (reduced z k x)
same_reduced {p} {v} z q k x l i e seen = record {
  seen = lifted_seen v (k - length z.names - length z.exact) z.anchor i.seen;
  to = λ V m. reduced_in z q k x V l i e m;
  back = λ V m. reduced_back z q k x V l i e seen m;
}

same_first : {p : Program} {v : Views} (q k : ℕ) (x : Atom) → x.anchor ≡ Up q k → Seen v q → (zs : List Atom)
    → ((z : Atom) → Among zs z → InAtom p v z (view_at v q)) → Same p v x (by_first k x zs)
same_first {p} {v} q k x e seen [] h = same_itself x (subst (AnchorSeen v) (sym e) seen)
same_first {p} {v} q k x e seen (z ∷ zs) h = at (nat_le (length z.names) k) refl (same_first q k x e seen zs (λ y m. h y (later m))) where
  at : (b : Bool) → nat_le (length z.names) k ≡ b → Same p v x (by_first k x zs) → Same p v x (cond b (reduced z k x) (by_first k x zs))
  at true l rest = same_reduced z q k x (leb-true (length z.names) k l) (h z first) e seen
  at false l rest = rest

same_rewritten_at : {p : Program} {v : Views} (b : Bind) (x : Atom) (a : Anchor) → x.anchor ≡ a → AnchorSeen v a
    → (Seen v b.path → InAtoms p v (atoms_in b.ty) (view_at v b.path)) → Same p v x (rewritten_at b x a)
same_rewritten_at {p} {v} b x Root e seen h = same_itself x (subst (AnchorSeen v) (sym e) tt)
same_rewritten_at {p} {v} b x (Up q k) e seen h = at (nat_eq q b.path) refl where
  at : (t : Bool) → nat_eq q b.path ≡ t → Same p v x (cond t (by_first k x (atoms_in b.ty)) x)
  at true n =
      let is : q ≡ b.path = eqb-true q b.path n in
      same_first q k x e seen (atoms_in b.ty) (subst (λ (r : ℕ). (z : Atom) → Among (atoms_in b.ty) z → InAtom p v z (view_at v r)) (sym is) (h (subst (λ (r : ℕ). Seen v r) is seen)))
  at false n = same_itself x (subst (AnchorSeen v) (sym e) seen)

same_normal : {p : Program} {v : Views} (s : Scope) → ((b : Bind) → Among s b → Seen v b.path → InAtoms p v (atoms_in b.ty) (view_at v b.path))
    → (x : Atom) → AnchorSeen v x.anchor → Same p v x (normal s x)
same_normal [] h x seen = same_itself x seen
same_normal (b ∷ s) h x seen =
    let one = same_rewritten_at b x x.anchor refl seen (h b first) in
    same_joined one (same_normal s (λ c m. h c (later m)) (rewritten b x) one.seen)

pub normal_in : {p : Program} {s : Scope} {v : Views} → Respects p v s → (x : Atom) (V : Path) → AnchorSeen v x.anchor → InAtom p v x V ↔ InAtom p v (normal s x) V
normal_in {p} {s} {v} r x V seen =
    let n = same_normal s (λ b a h. (type_atoms b.ty (r.holds b a h)).1) x seen in
    (n.to V, n.back V)

moved_seen : (v : Views) (f : ℕ → ℕ) (a : Anchor) → AnchorSeen (after f v) a ↔ AnchorSeen v (moved_anchor f a)
moved_seen v f Root = (λ s. s, λ s. s)
moved_seen v f (Up q k) = (λ s. s, λ s. s)

moved_at : (v : Views) (f : ℕ → ℕ) (a : Anchor) → eval (after f v) a ≡ eval v (moved_anchor f a)
moved_at v f Root = refl
moved_at v f (Up q k) = refl

pub moved_in : (p : Program) (v : Views) (f : ℕ → ℕ) (x : Atom) (V : Path) → InAtom p (after f v) x V ↔ InAtom p v (moved f x) V
moved_in p v f x V = (
  λ m. record { seen = (moved_seen v f x.anchor).0 m.seen; inside = subst (λ (E : Path). Inside p V (x.exact ++ E) x.names) (moved_at v f x.anchor) m.inside },
  λ m. record { seen = (moved_seen v f x.anchor).1 m.seen; inside = subst (λ (E : Path). Inside p V (x.exact ++ E) x.names) (sym (moved_at v f x.anchor)) m.inside },
)

pub subst_in : {p : Program} {s : Scope} {v : Views} → Respects p v s → (f : ℕ → ℕ) (t u : List Atom) (V : Path)
    → ((x : Atom) → Among t x → AnchorSeen (after f v) x.anchor) → IsSubst s f t u → InAtoms p (after f v) t V ↔ InAtoms p v u V
subst_in {p} {s} {v} r f t u V seen i = (to, back) where
  one : (x : Atom) → Among t x → InAtom p (after f v) x V ↔ InAtom p v (normal s (moved f x)) V
  one x a =
      let m = moved_in p v f x V in
      let n = normal_in r (moved f x) V ((moved_seen v f x.anchor).0 (seen x a)) in
      (λ h. n.0 (m.0 h), λ h. m.1 (n.1 h))

  to : InAtoms p (after f v) t V → InAtoms p v u V
  to h y b =
      let o = i.only y b in
      subst (λ (z : Atom). InAtom p v z V) (sym o.2) ((one o.0 o.1).0 (h o.0 o.1))

  back : InAtoms p v u V → InAtoms p (after f v) t V
  back h x a = (one x a).1 (h (normal s (moved f x)) (i.each x a))
