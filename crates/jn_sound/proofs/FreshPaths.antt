-- A fresh path gets the view of the object that is made. It has that already, or none: then no value goes by it.
use Rattle.std.proofs.Common.{◌≡◌, ℕ, List, length, Option, Some, sym, ap, ◌∙◌, subst, ◌⊎◌, inl, inr}
use Rattle.std.specs.Prelude.{IsSome, take}
use Rattle.jn_base.specs.declared.tree.Program.{Program}
use Rattle.jn_base.specs.declared.types.Anchor.{Anchor}
use Rattle.jn_base.specs.declared.types.Anchor.TheVariants.{Root, Up}
use Rattle.jn_base.specs.declared.types.Ty.{Ty}
use Rattle.jn_base.specs.declared.types.Ty.TheVariants as ty
use Rattle.jn_base.specs.declared.names.Var.{Var}
use Rattle.jn_base.specs.Paths.{Path}
use Rattle.jn_base.specs.Universe.{InUniverse}
use Rattle.jn_base.specs.Atoms.{Atom, Among, first, later}
use Rattle.jn_base.specs.Scopes.{Bind, Scope, Binds}
use Rattle.jn_sem.specs.Sets.{Views, Seen, view_at, AnchorSeen, InAtom, InType, Respects}
use Rattle.jn_sem.specs.Values.{Value, number, truth, null, no_object, object}
use Rattle.jn_sem.specs.State.{Heap, Frame, IsIn}
use Rattle.jn_laws.specs.LawsOfViews.{Agree}
use Rattle.jn_laws.proofs.ByViews.{atom_same, view_same}
use Rattle.jn_rules.specs.Exprs.{bind}
use Rattle.jn_rules.specs.Headers.{Header}
use Rattle.jn_sound.specs.Takes.{Opd, Unused}
use Rattle.jn_sound.specs.Sound.{OperandsFit, none as no_opds, one, cut, all_views, Stands}
use Rattle.jn_sound.proofs.Known.{bind_once, also, at_new, at_other, some_view, either_path}

-- ---- where more paths have views, what is in a type stays in it

-- what has a view by v has it by w
abbrev pub Extends : Views → Views → Type 0
Extends v w = (r : ℕ) → Seen v r → v r ≡ w r

atom_more : (p : Program) (v w : Views) → Extends v w → (x : Atom) (V : Path) → InAtom p v x V → InAtom p w x V
atom_more p v w e x V i = atom_same p v w x V (at x.anchor i.seen) i where
  at : (a : Anchor) → AnchorSeen v a → Agree v w a
  at Root n = tt
  at (Up r k) n = e r n

pub type_more : (p : Program) (v w : Views) → Extends v w → (t : Ty) (V : Path) → InType p v t V → InType p w t V
type_more p v w e (ty.Class xs m) V i = λ x a. atom_more p v w e x V (i x a)
type_more p v w e ty.Int V i = i
type_more p v w e ty.Bool V i = i
type_more p v w e ty.Null V i = i
type_more p v w e ty.Void V i = i

pub value_more : (p : Program) (v w : Views) → Extends v w → (h : Heap) (t : Ty) (x : Value) → IsIn p v h t x
    → IsIn p w h t x
value_more p v w e h _ _ number = number
value_more p v w e h _ _ truth = truth
value_more p v w e h _ _ null = null
value_more p v w e h _ _ no_object = no_object
value_more p v w e h _ _ (object {xs = xs} {m = m} {V = V} i f) = object (type_more p v w e (ty.Class xs m) V i) f

-- ---- the path gets its view

module _ {p : Program} {h : Heap} {f : Frame} {x : Header} {vs : List Var} {s : Scope} {ops : List Opd} {w : Views}
    (q : ℕ) (t : Ty) (V : Path) (a : Stands p h f x vs s ops w) (mine : Among s (bind q t)) (un : Unused q ops)
    (it : InType p (all_views (cut (length vs) f) w) t V) (universe : InUniverse p V)
    (only : (U : Path) → InType p (all_views (cut (length vs) f) w) t U → U ≡ V) where
  abbrev g : Frame
  g = cut (length vs) f

  abbrev v : Views
  v = all_views (cut (length vs) f) w

  abbrev v' : Views
  v' = all_views (cut (length vs) f) (also q (Some V) w)

  at_old : (r : ℕ) → (r ≡ q → ⊥) → v r ≡ v' r
  at_old r o = sym (at_other g q r (Some V) w o)

  at_it : v' q ≡ Some V
  at_it = at_new g q (Some V) w un.fresh

  -- where it has a view, that is the class
  had : Seen v q → v q ≡ Some V
  had n =
      some_view (v q) n ∙ ap (λ (U : Path). Some U)
      (only (view_at v q) (a.in_scope.respects.holds (bind q t) mine n))

  extends : Extends v v'
  extends r n = at (either_path q r) where
    at : (r ≡ q) ⊎ (r ≡ q → ⊥) → v r ≡ v' r
    at (inl e) =
        subst (λ (z : ℕ). v z ≡ v' z) (sym e) (had (subst (Seen v) e n) ∙ sym at_it)
    at (inr o) = at_old r o

  seen_old : (r : ℕ) → (r ≡ q → ⊥) → Seen v' r → Seen v r
  seen_old r o n = subst (λ (u : Option Path). IsSome u) (sym (at_old r o)) n

  view_new : (r : ℕ) → r ≡ q → Seen v' r → V ≡ view_at v' r
  view_new r e n = same (sym (subst (λ (z : ℕ). v' z ≡ Some V) (sym e) at_it) ∙ some_view (v' r) n) where
    same : {U W : Path} → Some U ≡ Some W → U ≡ W
    same e = cc

  respects : Respects p v' s
  respects = record {
    bound = λ r n. bound_at r n (either_path q r);
    universe = λ r n. universe_at r n (either_path q r);
    holds = λ b m n. holds_at b m n (either_path q b.path);
  } where
    bound_at : (r : ℕ) → Seen v' r → (r ≡ q) ⊎ (r ≡ q → ⊥) → Binds s r
    bound_at r n (inl e) = record { bind = bind q t; among = mine; is = sym e }
    bound_at r n (inr o) = a.in_scope.respects.bound r (seen_old r o n)

    universe_at : (r : ℕ) → Seen v' r → (r ≡ q) ⊎ (r ≡ q → ⊥) → InUniverse p (view_at v' r)
    universe_at r n (inl e) = subst (InUniverse p) (view_new r e n) universe
    universe_at r n (inr o) =
        subst (InUniverse p) (view_same v v' r (at_old r o)) (a.in_scope.respects.universe r (seen_old r o n))

    holds_at : (b : Bind) → Among s b → Seen v' b.path → (b.path ≡ q) ⊎ (b.path ≡ q → ⊥)
        → InType p v' b.ty (view_at v' b.path)
    holds_at b m n (inl e) =
        subst (InType p v' b.ty) (view_new b.path e n)
        (type_more p v v' extends b.ty V
        (subst (λ (c : Bind). InType p v c.ty V) (sym (bind_once s b (bind q t) a.in_scope.binds m mine e)) it))
    holds_at b m n (inr o) =
        type_more p v v' extends b.ty (view_at v' b.path)
        (subst (InType p v b.ty) (view_same v v' b.path (at_old b.path o))
        (a.in_scope.respects.holds b m (seen_old b.path o n)))

  operands : (os : List Opd) (vals : List Value) → ((o : Opd) → Among os o → Among ops o)
      → OperandsFit p (take (length vs) f.vars) h s v os vals → OperandsFit p (take (length vs) f.vars) h s v' os vals
  operands _ vals each no_opds = no_opds
  operands _ _ each (one {o = o} {ops = os} {x = z} {vs = zs} i m) =
      one (record {
        fits = i.fits;
        bound = i.bound;
        is_in = value_more p v v' extends h o.ty z i.is_in;
        real = i.real;
        path =
            λ r e. sym (at_old r (λ d. un.paths o (each o first) (e ∙ ap (λ (z : ℕ). Some z) d))) ∙ i.path r e;
        held = i.held;
      }) (operands os zs (λ o' n. each o' (later n)) m)

  pub stands_seen : Stands p h f x vs s ops (also q (Some V) w)
  stands_seen = record {
    is_header = a.is_header;
    params = a.params;
    all_params = a.all_params;
    in_scope = record {
      declared = a.in_scope.declared;
      binds = a.in_scope.binds;
      respects = respects;
      values = λ y b m n e. value_more p v v' extends h b.ty y.value (a.in_scope.values y b m n e);
      bound = a.in_scope.bound;
      real = a.in_scope.real;
      seen = a.in_scope.seen;
      small = a.in_scope.small;
      no_null = a.in_scope.no_null;
      own = a.in_scope.own;
      this = a.in_scope.this;
    };
    operands = operands ops f.vals (λ o n. n) a.operands;
  }

  pub path_set : all_views (cut (length vs) f) (also q (Some V) w) q ≡ Some V
  path_set = at_it
