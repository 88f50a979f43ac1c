-- Each question has one reply at most.
use Rattle.std.proofs.Common.{◌≡◌, List, [], ◌∷◌, Bool, true, false, Option, Some, None, refl, sym, ap, ◌∙◌, subst, ◌↔◌}
use Rattle.std.specs.Prelude.{Result, Ok, Err}
use Rattle.jn_base.specs.declared.tree.Name.{Name}
use Rattle.jn_base.specs.declared.tree.Constraint.{Constraint}
use Rattle.jn_base.specs.declared.tree.ViewTerm.{ViewTerm}
use Rattle.jn_base.specs.declared.tree.Program.{Program}
use Rattle.jn_base.specs.declared.types.Masks.{Masks}
use Rattle.jn_base.specs.declared.types.Ty.{Ty}
use Rattle.jn_base.specs.declared.names.Role.{Role}
use Rattle.jn_base.specs.declared.names.Role.TheVariants as role
use Rattle.jn_base.specs.declared.refusal.Refusal.{Refusal}
use Rattle.jn_base.specs.Paths.{Path}
use Rattle.jn_base.specs.Supers.{IsOwnSuper}
use Rattle.jn_base.specs.Universe.{InUniverse}
use Rattle.jn_base.specs.ClassOrder.{HasItsNames, IsFirst}
use Rattle.jn_base.specs.Members.{MethodAt, FieldDecls}
use Rattle.jn_base.specs.Atoms.{Atom, atom_of, atoms_in, Among}
use Rattle.jn_base.specs.Scopes.{Scope}
use Rattle.jn_base.specs.ResolveTypes.{mask_names}
use Rattle.jn_base.specs.TableRules.{DeclarationsPass}
use Rattle.jn_base.proofs.ResolveOnce.{term_once, type_once, view_once}
use Rattle.jn_base.proofs.Unique.{one_method_at}
use Rattle.jn_base.proofs.TableLaws.{one_least, universe_named}
use Rattle.jn_base.proofs.Reaching.{declared_in_universe}
use Rattle.jn_sem.specs.Values.{HasField, Masked}
use Rattle.jn_sem.specs.Below.{Below}
use Rattle.jn_sem.specs.NotFamily.{Lacks}
use Rattle.jn_sem.specs.Sharing.{in_family}
use Rattle.jn_sem.specs.Slots.{FieldType}
use Rattle.jn_sem.specs.Terms.{Site, spot_at, vars_at}
use Rattle.jn_sem.specs.Holds.{Sides, Turns, Passes, masked, same_slot, IsGranted, Holds, Fails, IsFirstName, Blocks, RefutedBy, no_counterpart, unshared}
use Rattle.jn_sem.specs.Does.{Body, IsBody, IsConstructorBody}
use Rattle.jn_sem.proofs.FindingLaws.{finds_one_in}
use Rattle.jn_rules.specs.Plans.{FoundField, Target, target_type, Pledge, Sharing, Holding, Refuted, Query, OfTerm, OfType, OfView, OfFieldType, OfConstraint, IsBelow, OfField, OfMethod, OfBody, OfConstructor, FirstMask, IsMasked, WithoutMask, EitherMasks, Grants, OfSharing, IsTop, LacksFamily, Reply}
use Rattle.jn_rules.specs.Questions.{Answers, Finds, as_type, TargetIs, header_site, ConstraintGives, left_refused, right_refused, both, FirstWith, first, later, HasFieldAt, HasMethod, IsFoundField, IsMethodOf, IsFirstMask, KeptMask, InEither, sides, HoldsOr, SharingGives, IsGrant, masks_of, Means}
use Rattle.jn_base.specs.ProgramNames.{IsNamed}
use Rattle.jn_rule_laws.proofs.Firsts.{IsKnown, first_name_once, first_mask_once, first_path_once}
use Rattle.jn_rule_laws.proofs.Masks.{masks_of_once}

-- ---- kinds of replies

pub answers_once : (T : Type 0) (a b : Bool) → Answers T a → Answers T b → a ≡ b
answers_once T true true h k = refl
answers_once T true false h k = absurd (k h)
answers_once T false true h k = absurd (h k)
answers_once T false false h k = refl

pub finds_once : {A : Type 0} (Is : A → Type 0) → ((a b : A) → Is a → Is b → a ≡ b) → (x y : Option A) → Finds Is x → Finds Is y → x ≡ y
finds_once {A} Is one (Some a) (Some b) h k = let e : ◌≡◌ {A = Option A} (Some a) (Some b) = ap Some (one a b h k) in e
finds_once Is one (Some a) None h k = absurd (k a h)
finds_once Is one None (Some b) h k = absurd (h b k)
finds_once Is one None None h k = refl

-- ---- targets and constraints

same_target : (x y : Target) → target_type x ≡ target_type y → x ≡ y
same_target x y e i = record { atom = atoms_same i; masks = masks_same i } where
  atoms_same : x.atom ≡ y.atom
  atoms_same = cc e

  masks_same : x.masks ≡ y.masks
  masks_same = cc e

same_answer : (x y : Result Target Refusal) → as_type x ≡ as_type y → x ≡ y
same_answer (Ok x) (Ok y) e = let f : target_type x ≡ target_type y = cc e in ap (λ (t : Target). let o : Result Target Refusal = Ok t in o) (same_target x y f)
same_answer (Ok x) (Err r) e = absurd (cc e)
same_answer (Err r) (Ok x) e = absurd (cc e)
same_answer (Err r) (Err q) e = let f : r ≡ q = cc e in ap (λ (t : Refusal). let o : Result Target Refusal = Err t in o) f

target_once : (p : Program) (r : Role) (at : Site) (v : ViewTerm) (x y : Result Target Refusal) → TargetIs p r at v x → TargetIs p r at v y → x ≡ y
target_once p r at v x y h k = same_answer x y (view_once p (mask_names p) (spot_at at r) (vars_at at) v (as_type x) (as_type y) h k)

ok_target : (x y : Target) → ◌≡◌ {A = Result Target Refusal} (Ok x) (Ok y) → x ≡ y
ok_target x y e = cc

err_target : (r q : Refusal) → ◌≡◌ {A = Result Target Refusal} (Err r) (Err q) → r ≡ q
err_target r q e = cc

apart : {A : Type 0} (x : Target) (r : Refusal) → ◌≡◌ {A = Result Target Refusal} (Ok x) (Err r) → A
apart x r e = absurd (cc e)

abbrev refusing : Refusal → Result Pledge Refusal
refusing r = Err r

abbrev pledging : Target → Target → Result Pledge Refusal
pledging x y = Ok (record { from = x; to = y })

pub constraint_once : (p : Program) (at : Site) (c : Constraint) (a b : Result Pledge Refusal) → ConstraintGives p at c a → ConstraintGives p at c b → a ≡ b
constraint_once p at c a b (left_refused r h e) (left_refused q k f) =
    e ∙ ap refusing (err_target r q (target_once p role.From at c.from (Err r) (Err q) h k)) ∙ sym f
constraint_once p at c a b (left_refused r h e) (right_refused y q k l f) = apart y r (target_once p role.From at c.from (Ok y) (Err r) k h)
constraint_once p at c a b (left_refused r h e) (both y z k l f) = apart y r (target_once p role.From at c.from (Ok y) (Err r) k h)
constraint_once p at c a b (right_refused x r h i e) (left_refused q k f) = apart x q (target_once p role.From at c.from (Ok x) (Err q) h k)
constraint_once p at c a b (right_refused x r h i e) (right_refused y q k l f) =
    e ∙ ap refusing (err_target r q (target_once p role.To at c.to (Err r) (Err q) i l)) ∙ sym f
constraint_once p at c a b (right_refused x r h i e) (both y z k l f) = apart z r (target_once p role.To at c.to (Ok z) (Err r) l i)
constraint_once p at c a b (both x y h i e) (left_refused q k f) = apart x q (target_once p role.From at c.from (Ok x) (Err q) h k)
constraint_once p at c a b (both x y h i e) (right_refused z q k l f) = apart y q (target_once p role.To at c.to (Ok y) (Err q) i l)
constraint_once p at c a b (both x y h i e) (both z w k l f) =
    e ∙ ap (λ (t : Target). pledging t y) (ok_target x z (target_once p role.From at c.from (Ok x) (Ok z) h k))
    ∙ ap (pledging z) (ok_target y w (target_once p role.To at c.to (Ok y) (Ok w) i l)) ∙ sym f

-- ---- members

with_once : (s : Scope) (Has : Path → Type 0) (xs : List Atom) (B C : Path) → FirstWith s Has xs B → FirstWith s Has xs C → B ≡ C
with_once s Has _ B C (first e h) (first f k) = e ∙ sym f
with_once s Has _ B C (first e h) (later n k) = absurd (n (subst Has e h))
with_once s Has _ B C (later n h) (first f k) = absurd (n (subst Has f k))
with_once s Has _ B C (later {xs = xs} n h) (later m k) = with_once s Has xs B C h k

same_body : (a b : Body) → a.class ≡ b.class → a.method ≡ b.method → a ≡ b
same_body a b e f i = record { class = e i; method = f i }

same_field : (a b : FoundField) → a.class ≡ b.class → a.ty ≡ b.ty → a ≡ b
same_field a b e f i = record { class = e i; ty = f i }

module _ (p : Program) (ok : DeclarationsPass p) (its : IsNamed p) where
  -- a class with a body is in the universe, so it is not its own super
  pub body_once : (V : Path) (m : Name) (a b : Body) → IsBody p V m a → IsBody p V m b → a ≡ b
  body_once V m a b h k =
      let own : IsOwnSuper p a.class → ⊥ = λ o. ok.table.no_cycle a.class (declared_in_universe p a.class h.at.decl h.at.stands, o) in
      let e = one_least p V m a.class b.class h.least k.least own in
      same_body a b e (one_method_at p ok.once b.class m a.method b.method (subst (λ (Q : Path). MethodAt p Q m a.method) e h.at) k.at)

  pub constructor_once : (V : Path) (a b : Body) → IsConstructorBody p V a → IsConstructorBody p V b → a ≡ b
  constructor_once [] a b h k = absurd h
  constructor_once (C ∷ P) a b h k = body_once (C ∷ P) C a b h k

  method_once : (s : Scope) (t : Ty) (m : Name) (a b : Body) → IsMethodOf p s t m a → IsMethodOf p s t m b → a ≡ b
  method_once s t m a b h k =
      body_once k.bound m a b (subst (λ (B : Path). IsBody p B m a) (with_once s (HasMethod p m) (atoms_in t) h.bound k.bound h.at k.at) h.body) k.body

  field_once : (s : Scope) (t : Ty) (f : Name) (a b : FoundField) → IsFoundField p s t f a → IsFoundField p s t f b → a ≡ b
  field_once s t f a b h k =
      let e = with_once s (HasFieldAt p f) (atoms_in t) h.bound k.bound h.at k.at in
      same_field a b (h.class ∙ declaring e h.type k.type ∙ sym k.class)
      ((finds_one_in p ok its.distinct its.paths).field k.bound f a.ty b.ty (subst (λ (B : Path). FieldType p B f a.ty) e h.type) k.type) where
        declaring : {B C : Path} {t u : Ty} → B ≡ C → (x : FieldType p B f t) → (y : FieldType p C f u) → x.class ≡ y.class
        declaring {B} {C} {t} {u} e x y = y.is_field.only x.class (subst (λ (D : Path). FieldDecls p D f x.class) e x.is_field.declares)

  -- ---- sharing

  universe_names : (U : Path) → InUniverse p U → HasItsNames p U
  universe_names = universe_named p its.paths

  field_known : (W : Path) (f : Name) → HasField p W f → IsKnown p f
  field_known W f h = its.fields h.at f h.declares.field h.declares.at

  some_same : (X Y : Name) → ◌≡◌ {A = Option Name} (Some X) (Some Y) → X ≡ Y
  some_same X Y e = cc

  turns_once : (c : Sides) (U W V : Path) → Turns p c U W → Turns p c U V → W ≡ V
  turns_once c U W V h k =
      h.counterpart.is ∙ ap (λ (Y : Name). in_family Y U) (some_same h.family k.family (sym h.of_target ∙ k.of_target)) ∙ sym k.counterpart.is

  first_failing : (c : Sides) (U V : Path) → IsFirst p (Fails p c) U → IsFirst p (Fails p c) V → U ≡ V
  first_failing c U V h k = first_path_once p its.distinct (Fails p c) (λ R x. universe_names R x.class.universe) U V h k

  refuted : Path → Option Name → Sharing
  refuted U f = Refuted U f

  refuted_once : (c : Sides) (U V : Path) (f g : Option Name) → RefutedBy p c U f → RefutedBy p c V g → refuted U f ≡ refuted V g
  unfolding refuted
  refuted_once c U V f g (no_counterpart R h n e i) (no_counterpart S k m j l) =
      ap (λ (T : Path). refuted T f) (e ∙ first_failing c R S h k ∙ sym j) ∙ ap (refuted V) (i ∙ sym l)
  refuted_once c U V f g (no_counterpart R h n e i) (unshared S W x k t b j l) = absurd (n W (subst (λ (T : Path). Turns p c T W) (first_failing c S R k h) t))
  refuted_once c U V f g (unshared R W x h t b e i) (no_counterpart S k m j l) = absurd (m W (subst (λ (T : Path). Turns p c T W) (first_failing c R S h k) t))
  refuted_once c U V f g (unshared R W x h t b e i) (unshared S X y k u d j l) = same (first_failing c R S h k) where
    same : R ≡ S → refuted U f ≡ refuted V g
    same r =
        let w : W ≡ X = turns_once c S W X (subst (λ (T : Path). Turns p c T W) r t) u in
        let b' : IsFirstName p (Blocks p c S X) x = subst (λ (T : Path). IsFirstName p (Blocks p c S T) x) w (subst (λ (T : Path). IsFirstName p (Blocks p c T W) x) r b) in
        let n : x ≡ y = first_name_once p its.distinct (Blocks p c S X) (λ z q. field_known X z q.has) x y b' d in
        ap (λ (T : Path). refuted T f) (e ∙ w ∙ sym j) ∙ ap (refuted V) (i ∙ ap (λ (z : Name). Some z) n ∙ sym l)

  holds_not_refuted : (c : Sides) (U : Path) (f : Option Name) → Holds p c → RefutedBy p c U f → ⊥
  holds_not_refuted c U f h (no_counterpart R k n e i) = k.holds.refused (h R k.holds.class k.holds.is_in)
  holds_not_refuted c U f h (unshared R W x k t b e i) = k.holds.refused (h R k.holds.class k.holds.is_in)

  sharing_at_once : (c : Sides) (a b : Sharing) → HoldsOr p c a → HoldsOr p c b → a ≡ b
  unfolding refuted
  sharing_at_once c Holding Holding h k = refl
  sharing_at_once c Holding (Refuted V g) h k = absurd (holds_not_refuted c V g h k)
  sharing_at_once c (Refuted U f) Holding h k = absurd (holds_not_refuted c U f k h)
  sharing_at_once c (Refuted U f) (Refuted V g) h k = refuted_once c U V f g h k

  -- ---- closures

  -- what is granted by the atoms xs and ys of one set
  module _ (names : List Name) (hm : Masks) (u : Atom) (tm : Masks) where
    abbrev by : List Atom → Sides
    by xs = record { names = names; from = xs; from_masks = hm; to = u; to_masks = tm }

    module _ (xs ys : List Atom) where
      turned : (U W : Path) → Turns p (by xs) U W → Turns p (by ys) U W
      turned U W t = record { family = t.family; of_target = t.of_target; counterpart = t.counterpart; is_in = t.is_in }

      passed : (U W : Path) (f : Name) → Passes p (by xs) U W f → Passes p (by ys) U W f
      passed U W f (masked m) = masked m
      passed U W f (same_slot s h i j n) = same_slot s h i j n

      granted : (U : Path) → IsGranted p (by xs) U → IsGranted p (by ys) U
      granted U g = record { view = g.view; turns = turned U g.view g.turns; fields = λ f h. passed U g.view f (g.fields f h) }

    module _ (xs ys : List Atom) (same : (z : Atom) → Among xs z ↔ Among ys z) where
      fails : (U : Path) → Fails p (by xs) U → Fails p (by ys) U
      fails U x = record { class = x.class; is_in = λ z m. x.is_in z ((same z).1 m); refused = λ g. x.refused (granted ys xs U g) }

    module _ (xs ys : List Atom) (same : (z : Atom) → Among xs z ↔ Among ys z) where
      first_fails : (U : Path) → IsFirst p (Fails p (by xs)) U → IsFirst p (Fails p (by ys)) U
      first_fails U x = record {
        holds = fails xs ys same U x.holds;
        first = λ V h. x.first V (fails ys xs (λ z. ((same z).1, (same z).0)) V h);
      }

      blocks : (U W : Path) (f : Name) → Blocks p (by xs) U W f → Blocks p (by ys) U W f
      blocks U W f b = record { has = b.has; refused = λ g. b.refused (passed ys xs U W f g) }

    module _ (xs ys : List Atom) (same : (z : Atom) → Among xs z ↔ Among ys z) where
      first_blocks : (U W : Path) (f : Name) → IsFirstName p (Blocks p (by xs) U W) f → IsFirstName p (Blocks p (by ys) U W) f
      first_blocks U W f b = record {
        holds = blocks xs ys same U W f b.holds;
        first = λ g h. b.first g (blocks ys xs (λ z. ((same z).1, (same z).0)) U W g h);
      }

    module _ (xs ys : List Atom) (same : (z : Atom) → Among xs z ↔ Among ys z) where
      refuted_too : (U : Path) (f : Option Name) → RefutedBy p (by xs) U f → RefutedBy p (by ys) U f
      refuted_too U f (no_counterpart R h n e i) =
          no_counterpart R (first_fails xs ys same R h) (λ W t. n W (turned ys xs R W t)) e i
      refuted_too U f (unshared R W x h t b e i) =
          unshared R W x (first_fails xs ys same R h) (turned xs ys R W t) (first_blocks xs ys same R W x b) e i

      holds_too : (a : Sharing) → HoldsOr p (by xs) a → HoldsOr p (by ys) a
      holds_too Holding h = λ U c m. granted xs ys U (h U c (λ z n. m z ((same z).0 n)))
      holds_too (Refuted U f) h = refuted_too U f h

  sharing_once : (s : Scope) (t : Ty) (u : Target) (a b : Sharing) → SharingGives p s t u a → SharingGives p s t u b → a ≡ b
  sharing_once s t u a b h k =
      let same : (z : Atom) → Among h.closure z ↔ Among k.closure z =
      λ z. (λ m. (k.closes.exact z).1 ((h.closes.exact z).0 m), λ m. (h.closes.exact z).1 ((k.closes.exact z).0 m)) in
      sharing_at_once (sides p k.closure (masks_of t) u) a b
      (holds_too (mask_names p) (masks_of t) (atom_of u.atom) u.masks h.closure k.closure same a h.gives) k.gives

  -- ---- all questions

  pub replies_one : (q : Query) (a b : Reply q) → Means p q a → Means p q b → a ≡ b
  replies_one (OfTerm r at t) a b h k = term_once p (spot_at at r) (vars_at at) t a b h k
  replies_one (OfType at t) a b h k = type_once p (mask_names p) _ _ t a b h k
  replies_one (OfView at v) a b h k = target_once p role.View at v a b h k
  replies_one (OfFieldType Q f t) a b h k = type_once p (mask_names p) _ _ t a b h k
  replies_one (OfConstraint Q m c) a b h k = constraint_once p (header_site Q m) c a b h k
  replies_one (IsBelow s t u) a b h k = answers_once (Below p s t u) a b h k
  replies_one (OfField s t f) a b h k = finds_once (IsFoundField p s t f) (field_once s t f) a b h k
  replies_one (OfMethod s t m) a b h k = finds_once (IsMethodOf p s t m) (method_once s t m) a b h k
  replies_one (OfBody B m) a b h k = finds_once (IsBody p B m) (body_once B m) a b h k
  replies_one (OfConstructor B) a b h k = finds_once (IsConstructorBody p B) (constructor_once B) a b h k
  replies_one (FirstMask m) a b h k = finds_once (IsFirstMask p m) (first_mask_once p m) a b h k
  replies_one (IsMasked m f) a b h k = answers_once (Masked (mask_names p) m f) a b h k
  replies_one (WithoutMask m f) a b h k = masks_of_once (KeptMask (mask_names p) m f) a b h k
  replies_one (EitherMasks m n) a b h k = masks_of_once (InEither m n) a b h k
  replies_one (Grants s c t u) a b h k = answers_once (IsGrant p s c t u) a b h k
  replies_one (OfSharing s t u) a b h k = sharing_once s t u a b h k
  replies_one (IsTop n) a b h k = answers_once (InUniverse p (n ∷ [])) a b h k
  replies_one (LacksFamily n) a b h k = answers_once (Lacks p n) a b h k
