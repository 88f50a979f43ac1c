-- A view change that a constraint in the method's header grants, from one typing to another.
use Rattle.std.proofs.Common.{◌≡◌, ◌<◌, ℕ, List, ◌∷◌, ◌++◌, length, Option, Some, None, true, refl, sym, ap, ◌∙◌, subst, arith, length-append}
use Rattle.std.specs.Prelude.{IsSome, take}
use Rattle.jn_base.specs.declared.tree.Name.{Name}
use Rattle.jn_base.specs.declared.tree.ViewTerm.{ViewTerm}
use Rattle.jn_base.specs.declared.tree.Program.{Program}
use Rattle.jn_base.specs.declared.types.Ty.{Ty}
use Rattle.jn_base.specs.declared.names.Role.TheVariants as role
use Rattle.jn_base.specs.declared.names.Var.{Var}
use Rattle.jn_base.specs.Paths.{Path}
use Rattle.jn_base.specs.Atoms.{Atom, atom_of, atom_at, atoms_in, Among, first, later}
use Rattle.jn_base.specs.Scopes.{Scope}
use Rattle.jn_base.specs.Fits.{Anchored}
use Rattle.jn_base.specs.Resolve.{is_class}
use Rattle.jn_base.specs.ResolveTypes.{mask_names}
use Rattle.jn_sem.specs.Sets.{Views, AnchorSeen, view_at, eval, InAtom, InType}
use Rattle.jn_sem.specs.Values.{Value, Null, Reference, no_object, object, Masked, FieldsFilled}
use Rattle.jn_sem.specs.Sharing.{IsClass, Counterpart, family_of, in_family}
use Rattle.jn_sem.specs.Holds.{HoldsAt, Passes, masked, same_slot, with_this}
use Rattle.jn_sem.specs.Normal.{same_path, after}
use Rattle.jn_sem.specs.NormalFunction.{normal_type}
use Rattle.jn_sem.specs.Terms.{ViewIs}
use Rattle.jn_sem.specs.Acts.{View, Todo}
use Rattle.jn_sem.specs.State.{Heap, Frame, HasValue, IsIn, slot_value, site_of, frame_views, view_in}
use Rattle.jn_sem.specs.Does.{Did, Does, IsTargetFamily, on_viewed, goes, missing}
use Rattle.jn_sem.specs.Asks.{OnFirst, OnOnly}
use Rattle.jn_sem.proofs.FindingLaws.{finds_one}
use Rattle.jn_sem.proofs.SharedLaws.{sharing_laws}
use Rattle.jn_sem.proofs.TypeSets.{classes_subst, masked_more}
use Rattle.jn_sem.proofs.NormalTypes.{type_subst_is}
use Rattle.jn_laws.specs.LawsOfViews.{Agree}
use Rattle.jn_laws.specs.Reading.{IsReal}
use Rattle.jn_rules.specs.Plans.{Target, target_type}
use Rattle.jn_rules.specs.Questions.{masks_of, header_site}
use Rattle.jn_rules.specs.Headers.{Header}
use Rattle.jn_rules.specs.Stmts.{body_in}
use Rattle.jn_rule_laws.specs.LawsOfHeaders.{GrantedBy}
use Rattle.jn_sound.specs.KnownScopes.{here_in}
use Rattle.jn_sound.specs.Takes.{Opd, opd, typing, TargetThere}
use Rattle.jn_sound.specs.Sound.{HeapFits, OperandsFit, one, cut, all_views, body_of, sides_of, ThisFits, Stands}
use Rattle.jn_sound.specs.Steps.{DidAt}
use Rattle.jn_sound.proofs.Laws.{Laws}
use Rattle.jn_sound.proofs.Ways.{surely}
use Rattle.jn_sound.proofs.Safe.{Sure, sure_it, sure_by, sure_only}
use Rattle.jn_sound.proofs.Stands.{now}
use Rattle.jn_sound.proofs.GetStep.{goes_at}
use Rattle.jn_sound.proofs.Acts.{ObjectIs, null_is, object_is, object_value, no_path}
use Rattle.jn_sound.proofs.Locals.{frame_agree}
use Rattle.jn_sound.proofs.NullViews.{has_family, path_there, anchor_there, anchor_agrees, eval_agrees}
use Rattle.jn_sound.proofs.Granted.{TurnsTo, turns_to, family_in, below_masks, from_this, to_this}
use Rattle.jn_sound.proofs.Targets.{view_suits, target_long}

some_name : (X Y : Name) → Some X ≡ Some Y → X ≡ Y
some_name X Y e = cc

pub granted_at : {p : Program} {h : Heap} {f : Frame} {x : Header} {vs : List Var} {s : Scope} {ops : List Opd}
    {w : Views} → Laws p → HeapFits p h → (capacity : ℕ) (k : List Todo)
    (term : ViewTerm) (t : Ty) (y : Target) (q : Option ℕ) → is_class t ≡ true
    → TargetThere p (body_in (body_of f) x) vs s term y → GrantedBy p (here_in (body_in (body_of f) x) vs) s t y
    → Stands p h f x vs s (opd t q ∷ ops) w
    → Sure (DidAt p h f x vs k (typing s (opd (normal_type s (target_type y)) None ∷ ops)))
    (Does p capacity (View term) (now (length vs) k f) h)
granted_at {p} {h} {f} {x} {vs} {s} {ops} {w} n hf capacity k term t y q c there grant a = at f.vals a.operands where
  Q : Did → Type 0
  Q = DidAt p h f x vs k (typing s (opd (normal_type s (target_type y)) None ∷ ops))

  fv : Views
  fv = frame_views (cut (length vs) f)

  this : ThisFits p h (cut (length vs) f)
  this = a.in_scope.this

  given : ViewIs p (site_of (now (length vs) k f)) term (atom_of y.atom)
  given =
      subst (λ (l : List Var). ViewIs p (record { class = f.class; method = f.method.name.name; vars = l }) term
      (atom_of y.atom)) (sym a.in_scope.declared) there.is

  seen : AnchorSeen (frame_views (cut (length vs) f)) y.atom.anchor
  seen = anchor_there (frame_views (cut (length vs) f)) y.atom.anchor
      (λ r j e. path_there a.in_scope r (there.paths (atom_of y.atom) r j first e))

  same : Agree (all_views (cut (length vs) f) w) (frame_views (cut (length vs) f)) y.atom.anchor
  same = (frame_agree (target_type y) a.in_scope there.paths).each (atom_of y.atom) first

  seen_all : AnchorSeen (all_views (cut (length vs) f) w) y.atom.anchor
  seen_all = anchor_agrees (all_views (cut (length vs) f) w) (frame_views (cut (length vs) f)) y.atom.anchor same seen

  each_seen : (u : Atom) → Among (atoms_in (target_type y)) u
      → AnchorSeen (after same_path (all_views (cut (length vs) f) w)) u.anchor
  each_seen _ first = seen_all
  each_seen u (later b) = elim b [ ]

  -- the target's atom as its term gives it
  is_given : atom_of y.atom ≡ atom_of there.is.given
  is_given = there.is.is

  long : 0 < length ((atom_of y.atom).exact ++ eval (all_views (cut (length vs) f) w) (atom_of y.atom).anchor)
  long =
      subst (λ (z : Atom). 0 < length (z.exact ++ eval (all_views (cut (length vs) f) w) z.anchor)) (sym is_given)
      (target_long a.in_scope.binds a.in_scope.respects there.is.given
      (view_suits p role.View (record { class = f.class; method = f.method.name.name; vars = vs }) term there.is.given
      there.is.masks there.is.resolved)
      (subst (λ (z : Atom). Anchored s z.anchor) is_given there.anchored)
      (subst (λ (z : Atom). AnchorSeen (all_views (cut (length vs) f) w) z.anchor) is_given seen_all))

  -- the class of the target is one by both views
  target_same : atom_at (view_at (all_views (cut (length vs) f) w)) (atom_of y.atom)
      ≡ atom_at (view_at (frame_views (cut (length vs) f))) (atom_of y.atom)
  target_same = ap (λ (l : Path). (atom_of y.atom).names ++ ((atom_of y.atom).exact ++ l))
      (eval_agrees (all_views (cut (length vs) f) w) (frame_views (cut (length vs) f)) y.atom.anchor same)

  named : 0 < length (atom_at (view_at (frame_views (cut (length vs) f))) (atom_of y.atom))
  named = subst (λ (l : Path). 0 < length l) target_same
      (omega (
        arith,
        long,
        length-append (atom_of y.atom).names
            ((atom_of y.atom).exact ++ eval (all_views (cut (length vs) f) w) (atom_of y.atom).anchor),
      ))

  Y : (Z : Name) × (family_of (atom_at (view_at (frame_views (cut (length vs) f))) (atom_of y.atom)) ≡ Some Z)
  Y = has_family (atom_at (view_at (frame_views (cut (length vs) f))) (atom_of y.atom)) named

  family : IsTargetFamily p (now (length vs) k f) term Y.0
  family = record { atom = atom_of y.atom; resolved = given; seen = seen; is = Y.1 }

  going : (z : Value) (us : List Value)
      → IsIn p (all_views (cut (length vs) f) w) h (normal_type s (target_type y)) z → IsReal p h z
      → OperandsFit p (take (length vs) f.vars) h s (all_views (cut (length vs) f) w) ops us
      → Sure Q (goes (now (length vs) k f) (z ∷ us) h)
  going z us i r others =
      sure_it _ (surely (goes_at hf a k (opd (normal_type s (target_type y)) None ∷ ops) (z ∷ us)
      (one (record {
        fits = there.fits;
        bound = λ b e. absurd (no_path b e);
        is_in = i;
        real = r;
        path = λ b e. absurd (no_path b e);
        held = λ b m e. absurd (no_path b.var.path e);
      }) others)))

  -- what the view of an object turns to
  turned : HoldsAt p this.view (sides_of p grant.pledge) → (V : Path) → IsClass p V
      → InType p (all_views (cut (length vs) f) w) t V
      → TurnsTo p s (all_views (cut (length vs) f) w) this.view grant.pledge y V
  turned holds V class i =
      turns_to a.in_scope.binds a.in_scope.respects (ap view_in this.is) grant.pledge t y
      (from_this p (header_site f.class f.method.name.name) grant.constraint grant.pledge grant.is)
      (to_this p (header_site f.class f.method.name.name) grant.constraint grant.pledge grant.is)
      grant.grants holds V class i

  turned_in : (o : ℕ) (V : Path)
      (g : TurnsTo p s (all_views (cut (length vs) f) w) this.view grant.pledge y V)
      → FieldsFilled p (mask_names p) (HasValue p h o V) (masks_of t) V
      → IsIn p (all_views (cut (length vs) f) w) h (normal_type s (target_type y)) (Reference o g.view)
  turned_in o V g filled = object g.is_in (λ z has free. by g.view z (g.fields z has) free) where
    by : (W : Path) (z : Name) → Passes p (with_this this.view (sides_of p grant.pledge)) V W z
        → (Masked (mask_names p) y.masks z → ⊥) → HasValue p h o W z
    by W z (masked i) free = absurd (free (masked_more grant.grants.masks i))
    by W z (same_slot sl has here other free_in) free =
        let old = filled z has (λ m. free_in (masked_more (below_masks c grant.grants.below) m)) in
        record {
          slot = sl;
          is_slot = other;
          has = subst (λ (b : _). IsSome (slot_value h o b))
              (n.slot_one V z old.slot sl old.is_slot here) old.has;
        }

  same_family : (V : Path) (g : TurnsTo p s (all_views (cut (length vs) f) w) this.view grant.pledge y V)
      → Y.0 ≡ g.family
  same_family V g =
      some_name Y.0 g.family
      (sym Y.1 ∙ ap family_of (sym target_same) ∙ family_in (atom_of y.atom) g.view inside long
      ∙ (sharing_laws p).family g.family V g.view g.counterpart) where
        inside : InAtom p (all_views (cut (length vs) f) w) (atom_of y.atom) g.view
        inside =
            (classes_subst a.in_scope.respects same_path (target_type y) (normal_type s (target_type y)) g.view
            each_seen ((type_subst_is s same_path (target_type y) (normal_type s (target_type y))).1 refl)).1
            g.is_in (atom_of y.atom) first

  at_value : HoldsAt p this.view (sides_of p grant.pledge) → (z : Value) (us : List Value) → IsReal p h z
      → ObjectIs p h (all_views (cut (length vs) f) w) t z
      → OperandsFit p (take (length vs) f.vars) h s (all_views (cut (length vs) f) w) ops us
      → Sure Q (OnOnly (IsTargetFamily p (now (length vs) k f) term) missing
      (λ Y. on_viewed p Y z (λ u. goes (now (length vs) k f) (u ∷ us) h)))
  at_value holds _ us r null_is others =
      sure_only (surely (Y.0, family)) (λ A B j l. (finds_one p).family (now (length vs) k f) term B A l j)
      (λ Z j. going Null us no_object tt others)
  at_value holds _ us r (object_is {o = o} {V = V} i filled) others =
      let g = turned holds V r.related.other i in
      sure_only (surely (Y.0, family)) (λ A B j l. (finds_one p).family (now (length vs) k f) term B A l j) (λ Z fam.
      let same : Z ≡ g.family = (finds_one p).family (now (length vs) k f) term Z Y.0 fam family ∙ same_family V g in
      sure_only (surely (g.view, subst (λ (z : Name). Counterpart p z V g.view) (sym same) g.counterpart))
      (λ A B j l. l.is ∙ sym j.is) (λ W j.
      let view : W ≡ g.view = j.is ∙ ap (λ (z : Name). in_family z V) same ∙ sym g.counterpart.is in
      subst (λ (z : Path). Sure Q (goes (now (length vs) k f) (Reference o z ∷ us) h)) (sym view)
      (going (Reference o g.view) us (turned_in o V g filled)
      (record {
        object = r.object;
        at = r.at;
        related = (sharing_laws p).joined r.object.made V g.view r.related g.counterpart.related;
      }) others)))

  at : (vals : List Value)
      → OperandsFit p (take (length vs) f.vars) h s (all_views (cut (length vs) f) w) (opd t q ∷ ops) vals
      → Sure Q (OnFirst vals missing (λ z us. OnOnly (IsTargetFamily p (now (length vs) k f) term) missing
      (λ Y. on_viewed p Y z (λ u. goes (now (length vs) k f) (u ∷ us) h))))
  at _ (one {x = z} {vs = us} j others) =
      sure_by (this.constraints grant.constraint grant.pledge grant.among grant.is) (λ holds.
      at_value holds z us j.real
      (object_value p h (all_views (cut (length vs) f) w) t z c j.is_in) others)
