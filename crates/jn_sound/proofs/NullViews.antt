-- A view change of null to a target that hangs on a path.
use Rattle.std.proofs.Common.{◌≡◌, ◌<◌, ℕ, suc, List, [], ◌∷◌, ◌++◌, length, Option, Some, None, true, refl, sym, ap, ◌∙◌, subst, arith}
use Rattle.std.specs.Prelude.{IsSome, drop, unwrap_or, take}
use Rattle.std.proofs.lemmas.List.{length-append}
use Rattle.jn_base.specs.declared.tree.Name.{Name}
use Rattle.jn_base.specs.declared.tree.ViewTerm.{ViewTerm}
use Rattle.jn_base.specs.declared.tree.Program.{Program}
use Rattle.jn_base.specs.declared.types.Anchor.{Anchor}
use Rattle.jn_base.specs.declared.types.Anchor.TheVariants.{Root, Up}
use Rattle.jn_base.specs.declared.types.Ty.TheVariants as ty
use Rattle.jn_base.specs.declared.names.Var.{Var}
use Rattle.jn_base.specs.Paths.{Path}
use Rattle.jn_base.specs.Atoms.{atom_of, anchor_at, atom_at, Among, first}
use Rattle.jn_base.specs.Scopes.{Scope, bound_of, bound}
use Rattle.jn_base.specs.Fits.{TypeFits}
use Rattle.jn_sem.specs.Sets.{Views, AnchorSeen, view_at, eval}
use Rattle.jn_sem.specs.Values.{Value, Null, no_object}
use Rattle.jn_sem.specs.Sharing.{family_of}
use Rattle.jn_sem.specs.NormalFunction.{normal_type}
use Rattle.jn_sem.specs.Terms.{ViewIs}
use Rattle.jn_sem.specs.Acts.{View, Todo}
use Rattle.jn_sem.specs.State.{Heap, Frame, site_of, frame_views, view_in}
use Rattle.jn_sem.specs.Does.{Did, Does, IsTargetFamily, on_viewed, goes, missing}
use Rattle.jn_sem.specs.Asks.{OnFirst, OnOnly}
use Rattle.jn_sem.proofs.FindingLaws.{finds_one}
use Rattle.jn_sem.proofs.Under.{under_length, value_under}
use Rattle.jn_laws.specs.LawsOfViews.{Agree}
use Rattle.jn_laws.specs.LawsOfWritten.{HeaderPath, HeaderPaths, of_this as is_this, of_param as is_param}
use Rattle.jn_rules.specs.Plans.{Target, target_type}
use Rattle.jn_rules.specs.Headers.{Header}
use Rattle.jn_sound.specs.Takes.{Opd, opd, typing}
use Rattle.jn_sound.specs.Sound.{HeapFits, InScope, OperandsFit, one, cut, all_views, Stands}
use Rattle.jn_sound.specs.Steps.{DidAt}
use Rattle.jn_sound.proofs.Ways.{surely}
use Rattle.jn_sound.proofs.Safe.{Sure, sure_it, sure_only}
use Rattle.jn_sound.proofs.Stands.{now}
use Rattle.jn_sound.proofs.GetStep.{goes_at}
use Rattle.jn_sound.proofs.Acts.{no_path}
use Rattle.jn_sound.proofs.Known.{var_of}
use Rattle.jn_sound.proofs.Locals.{frame_agree}
use Rattle.jn_sound.proofs.Calls.{path_seen, not_null_at}
use Rattle.jn_sound.proofs.SharedViews.{NullIs, null_value, is_null_value}

-- a path with a name has a family
pub has_family : (P : Path) → 0 < length P → (Y : Name) × (family_of P ≡ Some Y)
has_family [] l = absurd (omega (arith, l))
has_family (X ∷ []) l = (X, refl)
has_family (C ∷ (D ∷ P)) l = has_family (D ∷ P) (long P) where
  long : (Q : Path) → 0 < suc (length Q)
  long Q = omega arith

-- a path that a written type mentions has a view
pub path_there : {p : Program} {h : Heap} {g : Frame} {vs : List Var} {s : Scope} {w : Views} → InScope p h g w vs s
    → (q : ℕ) → HeaderPath vs q → IsSome (frame_views g q)
path_there {g = g} k q (is_this e) =
    subst (λ (r : ℕ). IsSome (frame_views g r)) (sym e)
    (subst (λ (o : Option Path). IsSome o) (sym (ap view_in k.this.is)) refl)
path_there {p} {h} {g} {w = w} k q (is_param z m e f c) =
    let y = var_of g.vars z (subst (λ (l : List Var). Among l z) (sym k.declared) m) in
    let b = k.bound y.variable y.among in
    let fixed : y.variable.var.fixed ≡ true = ap (λ (u : Var). u.fixed) y.is ∙ f in
    let class : _ ≡ true = ap (λ (u : Var). Rattle.jn_base.specs.Resolve.is_class u.ty) y.is ∙ c in
    subst (λ (r : ℕ). IsSome (frame_views g r)) (ap (λ (u : Var). u.path) y.is ∙ e)
    (subst (λ (o : Option Path). IsSome o) (sym (k.seen y.variable y.among))
    (path_seen p h (all_views g w) b.0.ty y.variable (k.values y.variable b.0 y.among b.1 b.2) (b.4 ∙ class) fixed class
    (not_null_at g.vars y.variable k.no_null y.among)))

pub anchor_there : (v : Views) (a : Anchor) → ((q k : ℕ) → a ≡ Up q k → IsSome (v q)) → AnchorSeen v a
anchor_there v Root each = tt
anchor_there v (Up q k) each = each q k refl

pub anchor_agrees : (v w : Views) (a : Anchor) → Agree v w a → AnchorSeen w a → AnchorSeen v a
anchor_agrees v w Root e n = tt
anchor_agrees v w (Up q k) e n = subst (λ (o : Option Path). IsSome o) (sym e) n

pub eval_agrees : (v w : Views) (a : Anchor) → Agree v w a → eval v a ≡ eval w a
eval_agrees v w Root e = refl
eval_agrees v w (Up q k) e = ap (λ (o : Option Path). drop k (unwrap_or o [])) e

-- as many names as in the bound
pub same_length : (names exact P B : Path) → length P ≡ length B → 0 < length (names ++ (exact ++ B))
    → 0 < length (names ++ (exact ++ P))
same_length names exact P B e l = omega (
  arith,
  e,
  l,
  length-append names (exact ++ B),
  length-append names (exact ++ P),
  length-append exact B,
  length-append exact P,
)

pub null_on_path_at : {p : Program} {h : Heap} {f : Frame} {x : Header} {vs : List Var} {s : Scope} {ops : List Opd}
    {w : Views} → HeapFits p h → (capacity : ℕ) (k : List Todo)
    (term : ViewTerm) (y : Target) (q : Option ℕ) → HeaderPaths vs (target_type y)
    → 0 < length (bound s (atom_of y.atom))
    → ViewIs p (record { class = f.class; method = f.method.name.name; vars = vs }) term (atom_of y.atom)
    → TypeFits s (normal_type s (target_type y)) → Stands p h f x vs s (opd ty.Null q ∷ ops) w
    → Sure (DidAt p h f x vs k (typing s (opd (normal_type s (target_type y)) None ∷ ops)))
    (Does p capacity (View term) (now (length vs) k f) h)
null_on_path_at {p} {h} {f} {x} {vs} {s} {ops} {w} hf capacity k term y q hp long is tf a = at f.vals a.operands where
  v : Views
  v = all_views (cut (length vs) f) w

  Q : Did → Type 0
  Q = DidAt p h f x vs k (typing s (opd (normal_type s (target_type y)) None ∷ ops))

  given : ViewIs p (site_of (now (length vs) k f)) term (atom_of y.atom)
  given =
      subst (λ (l : List Var). ViewIs p (record { class = f.class; method = f.method.name.name; vars = l }) term
      (atom_of y.atom)) (sym a.in_scope.declared) is

  seen : AnchorSeen (frame_views (cut (length vs) f)) y.atom.anchor
  seen = anchor_there (frame_views (cut (length vs) f)) y.atom.anchor
      (λ r j e. path_there a.in_scope r (hp (atom_of y.atom) r j first e))

  same : Agree (all_views (cut (length vs) f) w) (frame_views (cut (length vs) f)) y.atom.anchor
  same = (frame_agree (target_type y) a.in_scope hp).each (atom_of y.atom) first

  named : 0 < length (atom_at (view_at (frame_views (cut (length vs) f))) (atom_of y.atom))
  named =
      same_length (atom_of y.atom).names (atom_of y.atom).exact (eval (frame_views (cut (length vs) f)) y.atom.anchor)
      (anchor_at (bound_of s) y.atom.anchor)
      (ap (λ (l : Path). length l) (sym (eval_agrees (all_views (cut (length vs) f) w)
      (frame_views (cut (length vs) f)) y.atom.anchor same)) ∙
      under_length (value_under (all_views (cut (length vs) f) w) a.in_scope.binds a.in_scope.respects y.atom.anchor
      (anchor_agrees (all_views (cut (length vs) f) w) (frame_views (cut (length vs) f)) y.atom.anchor same seen)))
      long

  by : (z : Value) (us : List Value) → NullIs z → OperandsFit p (take (length vs) f.vars) h s (all_views (cut
      (length vs) f) w) ops us
      → Sure Q (OnOnly (IsTargetFamily p (now (length vs) k f) term) missing
      (λ Y. on_viewed p Y z (λ u. goes (now (length vs) k f) (u ∷ us) h)))
  by _ us null_value others =
      let Y = has_family (atom_at (view_at (frame_views (cut (length vs) f))) (atom_of y.atom)) named in
      let fam : IsTargetFamily p (now (length vs) k f) term Y.0 = record {
        atom = atom_of y.atom;
        resolved = given;
        seen = seen;
        is = Y.1;
      } in
      sure_only (surely (Y.0, fam)) (λ A B j l. (finds_one p).family (now (length vs) k f) term B A l j) (λ Z j.
      sure_it _ (surely (goes_at hf a k (opd (normal_type s (target_type y)) None ∷ ops) (Null ∷ us)
      (one (record {
        fits = tf;
        bound = λ b e. absurd (no_path b e);
        is_in = no_object;
        real = tt;
        path = λ b e. absurd (no_path b e);
        held = λ b c e. absurd (no_path b.var.path e);
      }) others))))

  at : (vals : List Value) → OperandsFit p (take (length vs) f.vars) h s (all_views (cut (length vs) f) w)
      (opd ty.Null q ∷ ops) vals
      → Sure Q (OnFirst vals missing (λ z us. OnOnly (IsTargetFamily p (now (length vs) k f) term) missing
      (λ Y. on_viewed p Y z (λ u. goes (now (length vs) k f) (u ∷ us) h))))
  at _ (one {x = z} {vs = us} j others) =
      by z us (is_null_value p h (all_views (cut (length vs) f) w) z j.is_in) others
