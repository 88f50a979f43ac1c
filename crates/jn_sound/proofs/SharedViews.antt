-- A view change that the sharing of the whole program grants fits.
use Rattle.std.proofs.Common.{◌≡◌, ℕ, List, ◌∷◌, ◌++◌, length, Option, None, true, refl, sym, ap, ◌∙◌, subst}
use Rattle.std.specs.Prelude.{IsSome, take}
use Rattle.jn_base.specs.declared.tree.Name.{Name}
use Rattle.jn_base.specs.declared.tree.ViewTerm.{ViewTerm}
use Rattle.jn_base.specs.declared.tree.Program.{Program}
use Rattle.jn_base.specs.declared.types.Anchor.{Anchor}
use Rattle.jn_base.specs.declared.types.Anchor.TheVariants.{Root}
use Rattle.jn_base.specs.declared.types.Ty.{Ty}
use Rattle.jn_base.specs.declared.types.Ty.TheVariants as ty
use Rattle.jn_base.specs.declared.names.Var.{Var}
use Rattle.jn_base.specs.Paths.{Path}
use Rattle.jn_base.specs.Atoms.{Atom, atom_of, atom_at, atoms_in, Among, first, later}
use Rattle.jn_base.specs.Scopes.{Scope}
use Rattle.jn_base.specs.Fits.{TypeFits}
use Rattle.jn_base.specs.Resolve.{is_class}
use Rattle.jn_base.specs.ResolveTypes.{mask_names}
use Rattle.jn_sem.specs.Sets.{Views, AnchorSeen, view_at, eval, InAtom, InType, no_views}
use Rattle.jn_sem.specs.Values.{Value, Null, Reference, null, no_object, object, Masked, FieldsFilled}
use Rattle.jn_sem.specs.Sharing.{IsClass, Related, Counterpart, family_of}
use Rattle.jn_sem.specs.Holds.{IsGranted, Passes, masked, same_slot}
use Rattle.jn_sem.specs.Normal.{same_path, after}
use Rattle.jn_sem.specs.NormalFunction.{normal_type}
use Rattle.jn_sem.specs.Terms.{ViewIs}
use Rattle.jn_sem.specs.Acts.{View, Todo}
use Rattle.jn_sem.specs.State.{Heap, Frame, HasValue, IsIn, slot_value, site_of, frame_views}
use Rattle.jn_sem.specs.Does.{IsTargetFamily, on_viewed, goes, missing}
use Rattle.jn_sem.specs.Asks.{OnFirst, OnOnly}
use Rattle.jn_sem.proofs.FindingLaws.{finds_one}
use Rattle.jn_sem.proofs.SharedLaws.{sharing_laws}
use Rattle.jn_sem.proofs.TypeSets.{types_closure, values_subst}
use Rattle.jn_sem.proofs.NormalTypes.{type_subst_is}
use Rattle.jn_rules.specs.Questions.{SharingGives, masks_of, sides}
use Rattle.jn_rules.specs.Plans.{Target, target_type, Holding}
use Rattle.jn_sound.specs.Takes.{Opd, opd}
use Rattle.jn_sound.specs.Sound.{HeapFits, OperandFits, OperandsFit, one, cut, all_views}
use Rattle.jn_sound.proofs.Laws.{Laws}
use Rattle.jn_sound.proofs.Ways.{surely}
use Rattle.jn_sound.proofs.Safe.{Sure, sure_it, sure_only}
use Rattle.jn_sound.specs.Steps.{DidAt}
use Rattle.jn_sound.specs.Takes.{typing}
use Rattle.jn_sem.specs.Does.{Did, Does}
use Rattle.jn_sound.proofs.GetStep.{goes_at}
use Rattle.jn_sound.specs.Sound.{Stands}
use Rattle.jn_sound.proofs.Stands.{now}
use Rattle.jn_sound.proofs.Acts.{ObjectIs, null_is, object_is, object_value, no_path}
use Rattle.jn_rules.specs.Headers.{Header}
use Rattle.jn_laws.specs.Reading.{IsReal}

at_root : (p : Program) (v w : Views) (x : Atom) (V : Path) → x.anchor ≡ Root → InAtom p v x V → InAtom p w x V
at_root p v w x V e i = record {
  seen = subst (AnchorSeen w) (sym e) tt;
  inside =
      subst (λ (E : Path). Rattle.jn_sem.specs.Sets.Inside p V (x.exact ++ E) x.names)
      (ap (eval v) e ∙ sym (ap (eval w) e)) i.inside;
}

pub shared_at : {p : Program} {h : Heap} {f : Frame} {x : Header} {vs : List Var} {s : Scope} {ops : List Opd}
    {w : Views} → Laws p → HeapFits p h → (capacity : ℕ) (k : List Todo)
    (term : ViewTerm) (t : Ty) (y : Target) (q : Option ℕ) → is_class t ≡ true → y.atom.anchor ≡ Root
    → ViewIs p (record { class = f.class; method = f.method.name.name; vars = vs }) term (atom_of y.atom) →
    SharingGives p s t y Holding
    → TypeFits s (normal_type s (target_type y)) → Stands p h f x vs s (opd t q ∷ ops) w
    → Sure (DidAt p h f x vs k (typing s (opd (normal_type s (target_type y)) None ∷ ops)))
    (Does p capacity (View term) (now (length vs) k f) h)
shared_at {p} {h} {f} {x} {vs} {s} {ops} {w} n hf capacity k term t y q c root is sh tf a = at f.vals a.operands where
  Q : Did → Type 0
  Q = DidAt p h f x vs k (typing s (opd (normal_type s (target_type y)) None ∷ ops))

  v : Views
  v = all_views (cut (length vs) f) w

  given : ViewIs p (site_of (now (length vs) k f)) term (atom_of y.atom)
  given =
      subst (λ (l : List Var). ViewIs p (record { class = f.class; method = f.method.name.name; vars = l }) term
      (atom_of y.atom)) (sym a.in_scope.declared) is

  -- in no state the target is what it is in each
  family_same : atom_at (view_at no_views) (atom_of y.atom) ≡ atom_at (view_at (frame_views (now (length vs) k f)))
      (atom_of y.atom)
  family_same = at_anchor y.atom.anchor root where
    at_anchor : (b : Anchor) → b ≡ Root
        → atom_at (view_at no_views) (record (atom_of y.atom) { anchor = b }) ≡ atom_at
        (view_at (frame_views (now (length vs) k f))) (record (atom_of y.atom) { anchor = b })
    at_anchor b e =
        subst (λ (z : Anchor). atom_at (view_at no_views) (record (atom_of y.atom) { anchor = z }) ≡ atom_at
        (view_at (frame_views (now (length vs) k f))) (record (atom_of y.atom) { anchor = z })) (sym e) refl

  going : (z : Value) (us : List Value)
      → OperandFits p (take (length vs) f.vars) h s (all_views (cut (length vs) f) w) (opd (normal_type s
      (target_type y)) None) z
      → OperandsFit p (take (length vs) f.vars) h s (all_views (cut (length vs) f) w) ops us
      → Sure Q (goes (now (length vs) k f) (z ∷ us) h)
  going z us j others =
      sure_it _ (surely (goes_at hf a k (opd (normal_type s (target_type y)) None ∷ ops) (z ∷ us) (one j others)))

  operand : (z : Value) → IsIn p (all_views (cut (length vs) f) w) h (target_type y) z → IsReal p h z
      → OperandFits p (take (length vs) f.vars) h s (all_views (cut (length vs) f) w) (opd (normal_type s
      (target_type y)) None) z
  operand z i r = record {
    fits = tf;
    bound = λ b e. absurd (no_path b e);
    is_in =
        (values_subst a.in_scope.respects (mask_names p) (HasValue p h) same_path (target_type y)
        (normal_type s (target_type y)) z seen
        ((type_subst_is s same_path (target_type y) (normal_type s (target_type y))).1 refl)).0 i;
    real = r;
    path = λ b e. absurd (no_path b e);
    held = λ b c e. absurd (no_path b.var.path e);
  } where
    seen : (u : Atom) → Among (atoms_in (target_type y)) u
        → AnchorSeen (after same_path (all_views (cut (length vs) f) w)) u.anchor
    seen _ first = subst (AnchorSeen (after same_path (all_views (cut (length vs) f) w))) (sym root) tt
    seen u (later b) = elim b [ ]

  turned_in : (o : ℕ) (V : Path) (g : IsGranted p (sides p sh.closure (masks_of t) y) V)
      → FieldsFilled p (mask_names p) (HasValue p h o V) (masks_of t) V → IsIn p (all_views (cut (length vs) f) w) h
      (target_type y) (Reference o g.view)
  turned_in o V g filled = object inside (λ z has free. by z (g.fields z has) free) where
    inside : (u : Atom) → Among (atoms_in (target_type y)) u → InAtom p (all_views (cut (length vs) f) w) u g.view
    inside _ first = at_root p no_views _ (atom_of y.atom) g.view root g.turns.is_in
    inside u (later b) = elim b [ ]

    by : (z : Name) → Passes p (sides p sh.closure (masks_of t) y) V g.view z
        → (Masked (mask_names p) y.masks z → ⊥) → HasValue p h o g.view z
    by z (masked i) free = absurd (free i)
    by z (same_slot sl has here other free_in) free =
        let old = filled z has free_in in
        record {
          slot = sl;
          is_slot = other;
          has = subst (λ (b : _). IsSome (slot_value h o b))
              (n.slot_one V z old.slot sl old.is_slot here) old.has;
        }

  granted : (V : Path) → IsClass p V → InType p (all_views (cut (length vs) f) w) t V
      → IsGranted p (sides p sh.closure (masks_of t) y) V
  granted V class i =
      sh.gives V class (λ z b. types_closure a.in_scope.binds a.in_scope.respects t V i z ((sh.closes.exact z).0 b))

  family : (V : Path) (g : IsGranted p (sides p sh.closure (masks_of t) y) V)
      → IsTargetFamily p (now (length vs) k f) term g.turns.family
  family V g = record {
    atom = atom_of y.atom;
    resolved = given;
    seen = subst (AnchorSeen (frame_views (now (length vs) k f))) (sym root) tt;
    is = ap family_of (sym family_same) ∙ g.turns.of_target;
  }

  at_value : (z : Value) (us : List Value) → IsReal p h z → ObjectIs p h (all_views (cut (length vs) f) w) t z
      → OperandsFit p (take (length vs) f.vars) h s (all_views (cut (length vs) f) w) ops us
      → Sure Q (OnOnly (IsTargetFamily p (now (length vs) k f) term) missing
      (λ Y. on_viewed p Y z (λ u. goes (now (length vs) k f) (u ∷ us) h)))
  at_value _ us r null_is others =
      let Y = n.target_family _ term (atom_of y.atom) is root in
      let fam : IsTargetFamily p (now (length vs) k f) term Y.0 = record {
        atom = atom_of y.atom;
        resolved = given;
        seen = subst (AnchorSeen (frame_views (now (length vs) k f))) (sym root) tt;
        is = ap family_of (sym family_same) ∙ Y.1;
      } in
      sure_only (surely (Y.0, fam)) (λ A B j l. (finds_one p).family (now (length vs) k f) term B A l j)
      (λ Z j. going Null us (operand Null no_object tt) others)
  at_value _ us r (object_is {o = o} {V = V} i filled) others =
      let g = granted V r.related.other i in
      sure_only (surely (g.turns.family, family V g))
      (λ A B j l. (finds_one p).family (now (length vs) k f) term B A l j) (λ Y fam.
      let same : Y ≡ g.turns.family = (finds_one p).family (now (length vs) k f) term Y g.turns.family fam
      (family V g) in
      sure_only (surely (g.view, subst (λ (z : Name). Counterpart p z V g.view) (sym same) g.turns.counterpart))
      (λ A B j l. l.is ∙ sym j.is) (λ W j.
      let view : W ≡ g.view = j.is ∙ ap (λ (z : Name). Rattle.jn_sem.specs.Sharing.in_family z V) same ∙
      sym g.turns.counterpart.is in
      subst (λ (z : Path). Sure Q (goes (now (length vs) k f) (Reference o z ∷ us) h)) (sym view)
      (going (Reference o g.view) us (operand (Reference o g.view) (turned_in o V g filled)
      (record {
        object = r.object;
        at = r.at;
        related =
            (sharing_laws p).joined r.object.made V g.view r.related g.turns.counterpart.related;
      })) others)))

  at : (vals : List Value) → OperandsFit p (take (length vs) f.vars) h s (all_views (cut (length vs) f) w)
      (opd t q ∷ ops) vals
      → Sure Q (OnFirst vals missing (λ z us. OnOnly (IsTargetFamily p (now (length vs) k f) term) missing
      (λ Y. on_viewed p Y z (λ u. goes (now (length vs) k f) (u ∷ us) h))))
  at _ (one {x = z} {vs = us} j others) = at_value z us j.real (object_value p h _ t z c j.is_in) others

-- ---- null

pub data NullIs : Value → Type 0 where
  null_value : NullIs Null

pub is_null_value : (p : Program) (h : Heap) (v : Views) (z : Value) → IsIn p v h ty.Null z → NullIs z
is_null_value p h v _ null = null_value

pub null_view_at : {p : Program} {h : Heap} {f : Frame} {x : Header} {vs : List Var} {s : Scope} {ops : List Opd}
    {w : Views} → Laws p → HeapFits p h → (capacity : ℕ) (k : List Todo)
    (term : ViewTerm) (y : Target) (q : Option ℕ) → y.atom.anchor ≡ Root → ViewIs p
    (record { class = f.class; method = f.method.name.name; vars = vs }) term (atom_of y.atom)
    → TypeFits s (normal_type s (target_type y)) → Stands p h f x vs s (opd ty.Null q ∷ ops) w
    → Sure (DidAt p h f x vs k (typing s (opd (normal_type s (target_type y)) None ∷ ops)))
    (Does p capacity (View term) (now (length vs) k f) h)
null_view_at {p} {h} {f} {x} {vs} {s} {ops} {w} n hf capacity k term y q root is tf a = at f.vals a.operands where
  v : Views
  v = all_views (cut (length vs) f) w

  Q : Did → Type 0
  Q = DidAt p h f x vs k (typing s (opd (normal_type s (target_type y)) None ∷ ops))

  given : ViewIs p (site_of (now (length vs) k f)) term (atom_of y.atom)
  given =
      subst (λ (l : List Var). ViewIs p (record { class = f.class; method = f.method.name.name; vars = l }) term
      (atom_of y.atom)) (sym a.in_scope.declared) is

  -- in no state the target is what it is in each
  family_same : atom_at (view_at no_views) (atom_of y.atom) ≡ atom_at (view_at (frame_views (now (length vs) k f)))
      (atom_of y.atom)
  family_same = at_anchor y.atom.anchor root where
    at_anchor : (b : Anchor) → b ≡ Root
        → atom_at (view_at no_views) (record (atom_of y.atom) { anchor = b }) ≡ atom_at
        (view_at (frame_views (now (length vs) k f))) (record (atom_of y.atom) { anchor = b })
    at_anchor b e =
        subst (λ (z : Anchor). atom_at (view_at no_views) (record (atom_of y.atom) { anchor = z }) ≡ atom_at
        (view_at (frame_views (now (length vs) k f))) (record (atom_of y.atom) { anchor = z })) (sym e) refl

  in_target : IsIn p v h (normal_type s (target_type y)) Null
  in_target = no_object

  by : (z : Value) (us : List Value) → NullIs z → OperandsFit p (take (length vs) f.vars) h s v ops us
      → Sure Q (OnOnly (IsTargetFamily p (now (length vs) k f) term) missing
      (λ Y. on_viewed p Y z (λ u. goes (now (length vs) k f) (u ∷ us) h)))
  by _ us null_value others =
      let Y = n.target_family _ term (atom_of y.atom) is root in
      let fam : IsTargetFamily p (now (length vs) k f) term Y.0 = record {
        atom = atom_of y.atom;
        resolved = given;
        seen = subst (AnchorSeen (frame_views (now (length vs) k f))) (sym root) tt;
        is = ap family_of (sym family_same) ∙ Y.1;
      } in
      sure_only (surely (Y.0, fam)) (λ A B j l. (finds_one p).family (now (length vs) k f) term B A l j) (λ Z j.
      sure_it _ (surely (goes_at hf a k (opd (normal_type s (target_type y)) None ∷ ops) (Null ∷ us)
      (one (record {
        fits = tf;
        bound = λ b e. absurd (no_path b e);
        is_in = in_target;
        real = tt;
        path = λ b e. absurd (no_path b e);
        held = λ b c e. absurd (no_path b.var.path e);
      }) others))))

  at : (vals : List Value) → OperandsFit p (take (length vs) f.vars) h s v (opd ty.Null q ∷ ops) vals
      → Sure Q (OnFirst vals missing (λ z us. OnOnly (IsTargetFamily p (now (length vs) k f) term) missing
      (λ Y. on_viewed p Y z (λ u. goes (now (length vs) k f) (u ∷ us) h))))
  at _ (one {x = z} {vs = us} j others) = by z us (is_null_value p h v z j.is_in) others
