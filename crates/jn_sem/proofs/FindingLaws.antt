-- What a step asks for is one thing at most.
use Rattle.std.proofs.Common.{◌≡◌, ◌≤◌, ℕ, suc, List, [], ◌∷◌, ◌++◌, length, Some, Contains, refl, sym, ap, ◌∙◌, subst, ◌⊎◌, inl, inr, arith}
use Rattle.std.specs.Prelude.{Result, Ok, slice_get}
use Rattle.jn_reach.specs.Each.{Each, none, more}
use Rattle.jn_base.specs.declared.tree.Name.{Name}
use Rattle.jn_base.specs.declared.tree.Field.{Field}
use Rattle.jn_base.specs.declared.tree.Param.{Param}
use Rattle.jn_base.specs.declared.tree.Term.{Term}
use Rattle.jn_base.specs.declared.tree.ViewTerm.{ViewTerm}
use Rattle.jn_base.specs.declared.tree.TypeTerm.{TypeTerm}
use Rattle.jn_base.specs.declared.tree.Program.{Program}
use Rattle.jn_base.specs.declared.types.Atom.{Atom as ShownAtom}
use Rattle.jn_base.specs.declared.types.Masks.{Masks}
use Rattle.jn_base.specs.declared.types.Ty.{Ty}
use Rattle.jn_base.specs.declared.types.Ty.TheVariants as ty
use Rattle.jn_base.specs.declared.names.Var.{Var}
use Rattle.jn_base.specs.declared.names.Role.{Role}
use Rattle.jn_base.specs.declared.names.Role.TheVariants as role
use Rattle.jn_base.specs.declared.refusal.Refusal.{Refusal}
use Rattle.jn_base.specs.Paths.{Path}
use Rattle.jn_base.specs.Supers.{IsOwnSuper}
use Rattle.jn_base.specs.Universe.{InUniverse}
use Rattle.jn_base.specs.ClassOrder.{Before, IsFirst, HasDistinctNames, name_total}
use Rattle.jn_base.specs.Members.{MethodAt, FieldAt}
use Rattle.jn_base.specs.Atoms.{Atom, Among, first, later, atom_of, atom_at}
use Rattle.jn_base.specs.TableRules.{DeclarationsPass}
use Rattle.jn_base.specs.LawsOfTable.{NamesItsPaths}
use Rattle.jn_base.specs.Resolve.{scope_at, bound_at}
use Rattle.jn_base.specs.ResolveTypes.{mask_names}
use Rattle.jn_base.proofs.NameTests.{in_cons, in_none, first as at_first, later as behind}
use Rattle.jn_base.proofs.ResolveOnce.{term_once, type_once, view_once}
use Rattle.jn_base.proofs.Unique.{one_method_at, one_field_at}
use Rattle.jn_base.proofs.TableLaws.{one_least, universe_named}
use Rattle.jn_base.proofs.ClassOrders.{before_total}
use Rattle.jn_base.proofs.Reaching.{sup_in_universe}
use Rattle.jn_sem.specs.Normal.{same_path, NormalType}
use Rattle.jn_sem.specs.Sets.{view_at}
use Rattle.jn_sem.specs.Sharing.{family_of}
use Rattle.jn_sem.specs.Slots.{FieldType, Slot, IsSlot, IsSize, OneSlot}
use Rattle.jn_sem.specs.Terms.{Site, spot_at, vars_at, FieldTypeIs, TypeIs, TermIs, SuperBound, ViewIs}
use Rattle.jn_sem.specs.State.{Stored, Frame, frame_views, site_of}
use Rattle.jn_sem.specs.Does.{Body, IsBody, AreParamsAfter, IsFresh, AreFresh, IsNewClass, IsTargetFamily, zero_of, var}
use Rattle.jn_sem.specs.LawsOfFinding.{IsOne, FindsOne, FindsOneIn}
use Rattle.jn_sem.proofs.NormalTypes.{type_subst_once, sorted_once}

-- ---- terms

same_atom : (a b : ShownAtom) → ◌≡◌ {A = Result ShownAtom Refusal} (Ok a) (Ok b) → a ≡ b
same_atom a b e = cc

same_type : (a b : Ty) → ◌≡◌ {A = Result Ty Refusal} (Ok a) (Ok b) → a ≡ b
same_type a b e = cc

type_once_at : (p : Program) (at : Site) (t : TypeTerm) → IsOne (TypeIs p at t)
type_once_at p at t a b h k =
    let s = scope_at (spot_at at role.Value) (vars_at at) in
    let e = same_type h.given k.given (type_once p (mask_names p) _ _ t (Ok h.given) (Ok k.given) h.resolved k.resolved) in
    type_subst_once s same_path k.given a b (subst (λ (g : Ty). NormalType s g a) e h.normal) k.normal

atom_once : (p : Program) (r : Role) (at : Site) (t : Term) → IsOne (TermIs p r at t)
atom_once p r at t a b h k =
    h.2 ∙ ap atom_of (same_atom h.0 k.0 (term_once p _ _ t (Ok h.0) (Ok k.0) h.1 k.1)) ∙ sym k.2

bound_once : (p : Program) (at : Site) (t : Term) → IsOne (SuperBound p at t)
bound_once p at t a b h k =
    h.is ∙ ap (bound_at (spot_at at role.Super) (vars_at at)) (same_atom h.given k.given (term_once p _ _ t (Ok h.given) (Ok k.given) h.resolved k.resolved)) ∙ sym k.is

same_given : (x y : ShownAtom) (m n : Masks) → ty.Class (x ∷ []) m ≡ ty.Class (y ∷ []) n → x ≡ y
same_given x y m n e = cc

view_atom_once : (p : Program) (at : Site) (t : ViewTerm) → IsOne (ViewIs p at t)
view_atom_once p at t a b h k =
    let e = same_type (ty.Class (h.given ∷ []) h.masks) (ty.Class (k.given ∷ []) k.masks) (view_once p (mask_names p) _ _ t _ _ h.resolved k.resolved) in
    h.is ∙ ap atom_of (same_given h.given k.given h.masks k.masks e) ∙ sym k.is

new_once : (p : Program) (f : Frame) (t : Term) → IsOne (IsNewClass p f t)
new_once p f t V W h k =
    h.is ∙ ap (atom_at (view_at (frame_views f))) (atom_once p role.New (site_of f) t h.atom k.atom h.resolved k.resolved) ∙ sym k.is

some_name : (a b : Name) → Some a ≡ Some b → a ≡ b
some_name a b e = cc

family_once : (p : Program) (f : Frame) (t : ViewTerm) → IsOne (IsTargetFamily p f t)
family_once p f t Y Z h k =
    some_name Y Z (sym h.is ∙ ap (λ (x : Atom). family_of (atom_at (view_at (frame_views f)) x)) (view_atom_once p (site_of f) t h.atom k.atom h.resolved k.resolved) ∙ k.is)

-- ---- parameters

params_once : (p : Program) (b : Body) (before : List Var) (xs : List Param) → IsOne (AreParamsAfter p b before xs)
params_once p b before [] u w h k = h ∙ sym k
params_once p b before (x ∷ xs) u w h k =
    let e = type_once_at p (record { class = b.class; method = b.method.name.name; vars = before }) x.ty h.0 k.0 h.1 k.1 in
    params_once p b (before ++ var x.name.name (suc (length before)) x.fixed k.0 ∷ []) xs u w
    (subst (λ (t : Ty). AreParamsAfter p b (before ++ var x.name.name (suc (length before)) x.fixed t ∷ []) xs u) e h.2) k.2

-- ---- sizes

-- no element stands twice
Distinct : {X : Type 0} → List X → Type 0
Distinct [] = Unit {0}
Distinct (x ∷ xs) = (Among xs x → ⊥) × Distinct xs

-- ys without y: one shorter, and with all others
record Without {X : Type 0} (ys : List X) (y : X) : Type 0 where
  rest : List X
  long : length ys ≡ suc (length rest)
  others : (z : X) → Among ys z → (z ≡ y) ⊎ Among rest z

one_more : {X : Type 0} (w : X) (ys : List X) (y : X) (r : Without ys y) (z : X) → Among (w ∷ ys) z → (z ≡ y) ⊎ Among (w ∷ r.rest) z
one_more w ys y r _ first = inr first
one_more w ys y r z (later m) = elim (r.others z m) [ inl e ↦ inl e | inr n ↦ inr (later n) ]

at_once : {X : Type 0} (y : X) (ys : List X) (z : X) → Among (y ∷ ys) z → (z ≡ y) ⊎ Among ys z
at_once y ys _ first = inl refl
at_once y ys z (later m) = inr m

without : {X : Type 0} (ys : List X) (y : X) → Among ys y → Without ys y
without [] y m = elim m [ ]
without (y ∷ ys) _ first = record { rest = ys; long = refl; others = at_once y ys }
without (w ∷ ys) y (later m) =
    let r = without ys y m in record { rest = w ∷ r.rest; long = ap suc r.long; others = one_more w ys y r }

no_longer : {X : Type 0} (xs ys : List X) → Distinct xs → ((x : X) → Among xs x → Among ys x) → length xs ≤ length ys
unfolding Distinct
no_longer [] ys d h = omega arith
no_longer {X} (x ∷ xs) ys d h =
    let r = without ys x (h x first) in
    let le = no_longer xs r.rest d.1 (λ z m. elim (r.others z (h z (later m))) [ inl e ↦ absurd (d.0 (subst (Among xs) e m)) | inr n ↦ n ]) in
    omega (arith, le, r.long)

pub among_of : {X : Type 0} (xs : List X) (x : X) → Contains xs x → Among xs x
among_of [] x c = absurd (in_none x c)
among_of (y ∷ xs) x c = elim (in_cons y xs x c) [ inl e ↦ subst (Among (y ∷ xs)) e first | inr d ↦ later (among_of xs x d) ]

pub contains_of : {X : Type 0} (xs : List X) (x : X) → Among xs x → Contains xs x
contains_of [] x m = elim m [ ]
contains_of (y ∷ xs) _ first = at_first y xs
contains_of (y ∷ xs) x (later m) = behind y xs x (contains_of xs x m)

placed : {X : Type 0} (xs : List X) (x : X) → Among xs x → (i : ℕ) × (slice_get xs i ≡ Some x)
placed [] x m = elim m [ ]
placed (y ∷ xs) _ first = (0, refl)
placed (y ∷ xs) x (later m) = let r = placed xs x m in (suc r.0, r.1)

distinct : {X : Type 0} (xs : List X) → ((i j : ℕ) (x : X) → slice_get xs i ≡ Some x → slice_get xs j ≡ Some x → i ≡ j) → Distinct xs
unfolding Distinct
distinct [] h = tt
distinct (x ∷ xs) h = (
  λ m. let r = placed xs x m in absurd (omega (arith, h 0 (suc r.0) x refl r.1)),
  distinct xs (λ i j y e f. omega (arith, h (suc i) (suc j) y e f)),
)

size_once : (p : Program) (V : Path) → IsOne (IsSize p V)
size_once p V a b h k =
    let le = no_longer h.slots k.slots (distinct h.slots h.once) (λ s m. among_of k.slots s ((k.exact s).1 ((h.exact s).0 (contains_of h.slots s m)))) in
    let ge = no_longer k.slots h.slots (distinct k.slots k.once) (λ s m. among_of h.slots s ((h.exact s).1 ((k.exact s).0 (contains_of k.slots s m)))) in
    omega (arith, le, ge, h.is, k.is)

pub finds_one : FindsOne
finds_one p = record {
  type = type_once_at p;
  super_bound = bound_once p;
  new_class = new_once p;
  family = family_once p;
  params = λ b. params_once p b [] b.method.params;
  counterpart = λ Y V a b h k. h.is ∙ sym k.is;
  size = size_once p;
}

-- ---- where the class table passes

same_body : (a b : Body) → a.class ≡ b.class → a.method ≡ b.method → a ≡ b
same_body a b e f i = record { class = e i; method = f i }

same_slot : (s t : Slot) → s.class ≡ t.class → s.field ≡ t.field → s ≡ t
same_slot s t e f i = record { class = e i; field = f i }

same_stored : (x y : Stored) → x.slot ≡ y.slot → x.value ≡ y.value → x ≡ y
same_stored x y e f i = record { slot = e i; value = f i }

same_number : (a b : Name) → a.0 ≡ b.0 → a ≡ b
same_number a b e i = record { 0 = e i }

body_once : (p : Program) → DeclarationsPass p → (V : Path) (m : Name) → InUniverse p V → IsOne (IsBody p V m)
body_once p ok V m u a b h k =
    let own : IsOwnSuper p a.class → ⊥ = λ o. ok.table.no_cycle a.class (sup_in_universe h.least.among.super u, o) in
    let e = one_least p V m a.class b.class h.least k.least own in
    same_body a b e (one_method_at p ok.once b.class m a.method b.method (subst (λ (Q : Path). MethodAt p Q m a.method) e h.at) k.at)

field_once : (p : Program) → DeclarationsPass p → (V : Path) (f : Name) → IsOne (FieldType p V f)
field_once p ok V f a b h k =
    let e = k.is_field.only h.class h.is_field.declares in
    let x = one_field_at p ok.once k.class f h.field k.field (subst (λ (Q : Path). FieldAt p Q f h.field) e h.at) k.at in
    same_type a b (type_once p (mask_names p) _ _ k.field.ty (Ok a) (Ok b)
    (subst (λ (y : Field). FieldTypeIs p k.class f y.ty a) x (subst (λ (Q : Path). FieldTypeIs p Q f h.field.ty a) e h.type)) k.type)

either_way : (p : Program) (T : Path → Type 0) (R S : Path) → IsFirst p T R → IsFirst p T S → (R ≡ S) ⊎ (Before p R S ⊎ Before p S R) → R ≡ S
either_way p T R S r s (inl e) = e
either_way p T R S r s (inr (inl b)) = absurd (s.first R r.holds b)
either_way p T R S r s (inr (inr b)) = absurd (r.first S s.holds b)

slot_once : (p : Program) → HasDistinctNames p → NamesItsPaths p → (V : Path) (f : Name) → IsOne (IsSlot p V f)
slot_once p names its V f s t h k =
    let named = λ (R : Path) (o : OneSlot p R V f). universe_named p its R o.both.related.one.universe in
    same_slot s t
    (either_way p (λ W. OneSlot p W V f) s.class t.class h.first k.first
    (before_total p names s.class t.class (named s.class h.first.holds) (named t.class k.first.holds)))
    (h.field ∙ sym k.field)

stored_once : (p : Program) → DeclarationsPass p → HasDistinctNames p → NamesItsPaths p → (V : Path) (f : Name) → IsOne (IsFresh p V f)
stored_once p ok names its V f x y h k =
    same_stored x y (slot_once p names its V f x.slot y.slot h.slot k.slot) (h.value ∙ ap zero_of (field_once p ok V f h.ty k.ty h.type k.type) ∙ sym k.value)

each_once : (p : Program) → DeclarationsPass p → HasDistinctNames p → NamesItsPaths p → (V : Path) (ns : List Name) (xs ys : List Stored)
    → Each (IsFresh p V) ns xs → Each (IsFresh p V) ns ys → xs ≡ ys
each_once p ok names its V [] xs ys none none = refl
each_once p ok names its V (n ∷ ns) xs ys (more {y = x} {ys = us} h hs) (more {y = y} {ys = ws} k ks) =
    ap (λ (z : Stored). z ∷ us) (stored_once p ok names its V n x y h k) ∙ ap (λ (zs : List Stored). y ∷ zs) (each_once p ok names its V ns us ws hs ks)

fresh_once : (p : Program) → DeclarationsPass p → HasDistinctNames p → NamesItsPaths p → (V : Path) → IsOne (AreFresh p V)
fresh_once p ok names its V xs ys h k =
    let there = λ (f : Name) (m : Among h.names f). among_of k.names f ((k.exact f).1 ((h.exact f).0 (contains_of h.names f m))) in
    let back = λ (f : Name) (m : Among k.names f). among_of h.names f ((h.exact f).1 ((k.exact f).0 (contains_of k.names f m))) in
    let e : h.names ≡ k.names = sorted_once (name_total p) h.names k.names h.in_order k.in_order there back in
    each_once p ok names its V k.names xs ys (subst (λ (ns : List Name). Each (IsFresh p V) ns xs) e h.each) k.each

pub finds_one_in : FindsOneIn
finds_one_in p ok names its = record {
  body = body_once p ok;
  field = field_once p ok;
  slot = slot_once p names its;
  fresh = fresh_once p ok names its;
  spelled = λ bytes a b h k. same_number a b (names a.0 b.0 h.text k.text h.at k.at (h.is ∙ sym k.is));
}
