-- What is in a type goes by the views of the type's paths alone.
use Rattle.std.proofs.Common.{◌≡◌, ◌↔◌, ℕ, [], ◌++◌, Option, Some, refl, sym, ap, ◌∙◌, subst}
use Rattle.std.specs.Prelude.{drop, unwrap_or, IsSome}
use Rattle.std.proofs.lemmas.List.{append-nil}
use Rattle.jn_base.specs.declared.tree.Program.{Program}
use Rattle.jn_base.specs.declared.types.Anchor.{Anchor}
use Rattle.jn_base.specs.declared.types.Anchor.TheVariants.{Root, Up}
use Rattle.jn_base.specs.declared.types.Ty.{Ty}
use Rattle.jn_base.specs.declared.types.Ty.TheVariants as ty
use Rattle.jn_base.specs.Paths.{Path}
use Rattle.jn_base.specs.Atoms.{Atom, atom, Among}
use Rattle.jn_base.specs.Scopes.{Scope, Bind}
use Rattle.jn_base.specs.Fits.{Anchored, TypeFits, BindsFit}
use Rattle.jn_sem.specs.Sets.{Views, Seen, AnchorSeen, view_at, no_views, eval, Inside, InAtom, InType, Respects}
use Rattle.jn_sem.specs.Values.{Value, number, truth, null, no_object, object}
use Rattle.jn_sem.specs.Holds.{rooted, rooted_at}
use Rattle.jn_sem.specs.State.{Heap, IsIn}
use Rattle.jn_sem.proofs.Under.{type_anchored, fits_whole}
use Rattle.jn_laws.specs.LawsOfViews.{Agree, AgreeIn, AgreeOn, TypesGoByViews, OfThis, ThisRooted}

pub agree_back : (v w : Views) (a : Anchor) → Agree v w a → Agree w v a
agree_back v w Root e = tt
agree_back v w (Up q k) e = sym e

pub back_in : (v w : Views) (t : Ty) → AgreeIn v w t → AgreeIn w v t
back_in v w t h = record { each = λ x a. agree_back v w x.anchor (h.each x a) }

eval_same : (v w : Views) (a : Anchor) → Agree v w a → eval v a ≡ eval w a
eval_same v w Root e = refl
eval_same v w (Up q k) e = ap (λ (o : Option Path). drop k (unwrap_or o [])) e

seen_same : (v w : Views) (a : Anchor) → Agree v w a → AnchorSeen v a → AnchorSeen w a
seen_same v w Root e s = tt
seen_same v w (Up q k) e s = subst (λ (o : Option Path). IsSome o) e s

pub atom_same : (p : Program) (v w : Views) (x : Atom) (V : Path) → Agree v w x.anchor → InAtom p v x V → InAtom p w x V
atom_same p v w x V e i = record {
  seen = seen_same v w x.anchor e i.seen;
  inside = subst (λ (E : Path). Inside p V (x.exact ++ E) x.names) (eval_same v w x.anchor e) i.inside;
}

pub type_same : (p : Program) (v w : Views) (t : Ty) (V : Path) → AgreeIn v w t → InType p v t V → InType p w t V
type_same p v w (ty.Class xs m) V h i = λ x a. atom_same p v w x V (h.each x a) (i x a)
type_same p v w ty.Int V h i = i
type_same p v w ty.Bool V h i = i
type_same p v w ty.Null V h i = i
type_same p v w ty.Void V h i = i

pub value_same : (p : Program) (v w : Views) (h : Heap) (t : Ty) (x : Value) → AgreeIn v w t → IsIn p v h t x → IsIn p w h t x
value_same p v w h _ _ a number = number
value_same p v w h _ _ a truth = truth
value_same p v w h _ _ a null = null
value_same p v w h _ _ a no_object = no_object
value_same p v w h _ _ a (object {xs = xs} {m = m} {o = o} {V = V} i f) = object (type_same p v w (ty.Class xs m) V a i) f

-- ---- in a scope

anchored_agree : (s : Scope) (v w : Views) (a : Anchor) → AgreeOn s v w → Anchored s a → Agree v w a
anchored_agree s v w Root g a = tt
anchored_agree s v w (Up q k) g a = g.each q a.0

pub fits_agree : (s : Scope) (v w : Views) (t : Ty) → AgreeOn s v w → TypeFits s t → AgreeIn v w t
fits_agree s v w t g f = record { each = λ x a. anchored_agree s v w x.anchor g (type_anchored f x a) }

pub view_same : (v w : Views) (q : ℕ) → v q ≡ w q → view_at v q ≡ view_at w q
view_same v w q e = ap (λ (o : Option Path). unwrap_or o []) e

-- views that agree on a scope respect it alike, but for what they have beside it
pub holds_same : {p : Program} {s : Scope} (v w : Views) → BindsFit s → AgreeOn s v w → Respects p v s → (b : Bind) → Among s b → Seen w b.path
    → InType p w b.ty (view_at w b.path)
holds_same {p} {s} v w f g r b a n =
    let e : v b.path ≡ w b.path = g.each b.path (record { bind = b; among = a; is = refl }) in
    subst (λ (V : Path). InType p w b.ty V) (view_same v w b.path e)
    (type_same p v w b.ty (view_at v b.path) (fits_agree s v w b.ty g (fits_whole a f))
    (r.holds b a (subst (λ (o : Option Path). IsSome o) (sym e) n)))

pub types_go_by_views : TypesGoByViews
types_go_by_views p v w = record {
  atom = atom_same p v w;
  classes = type_same p v w;
  values = value_same p v w;
  fits = λ s t. fits_agree s v w t;
  holds = λ s f g r. holds_same v w f g r;
}

-- ---- with `this` at a class

module _ (p : Program) (v : Views) (R V : Path) (e : v 0 ≡ Some R) where
  value_there : (x : Atom) (a : Anchor) → OfThis a → x.exact ++ eval v a ≡ (rooted R (atom a x.exact x.names) a).exact ++ eval no_views (rooted R (atom a x.exact x.names) a).anchor
  value_there x Root o = refl
  value_there x (Up q k) o =
      ap (λ (E : Path). x.exact ++ E) (ap (λ (z : ℕ). drop k (view_at v z)) o ∙ ap (λ (n : Option Path). drop k (unwrap_or n [])) e)
      ∙ sym (append-nil (x.exact ++ drop k R))

  names_there : (x : Atom) (a : Anchor) → (rooted R (atom a x.exact x.names) a).names ≡ x.names
  names_there x Root = refl
  names_there x (Up q k) = refl

  root_seen : (x : Atom) (a : Anchor) → AnchorSeen no_views (rooted R (atom a x.exact x.names) a).anchor
  root_seen x Root = tt
  root_seen x (Up q k) = tt

  this_seen : (a : Anchor) → OfThis a → AnchorSeen v a
  this_seen Root o = tt
  this_seen (Up q k) o = subst (λ (z : ℕ). Seen v z) (sym o) (subst (λ (n : Option Path). IsSome n) (sym e) (some R)) where
    some : (P : Path) → IsSome (Some P)
    some P = refl

  pub rooted_there : (x : Atom) → OfThis x.anchor → InAtom p v x V ↔ InAtom p no_views (rooted_at R x) V
  rooted_there x o = (
    λ i. record {
      seen = root_seen x x.anchor;
      inside = subst (Inside p V _) (sym (names_there x x.anchor)) (subst (λ (E : Path). Inside p V E x.names) (value_there x x.anchor o) i.inside);
    },
    λ i. record {
      seen = this_seen x.anchor o;
      inside = subst (λ (E : Path). Inside p V E x.names) (sym (value_there x x.anchor o)) (subst (Inside p V _) (names_there x x.anchor) i.inside);
    },
  )

pub this_rooted : ThisRooted
this_rooted p v R x V e o = rooted_there p v R V e x o
