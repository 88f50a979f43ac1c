-- How marks are taken, and what still stands behind a step of a walk.
use Rattle.std.proofs.Common.{◌≡◌, ℕ, List, ◌∷◌, ◌++◌, map, sym, ap, ◌∙◌, subst, arith}
use Rattle.std.specs.Prelude.{slice_get, reverse}
use Rattle.jn_base.specs.declared.types.Atom.{Atom as ShownAtom}
use Rattle.jn_base.specs.declared.types.ValKind.{ValKind}
use Rattle.jn_base.specs.declared.path.Path.{Path as ShownPath}
use Rattle.jn_base.specs.declared.names.Var.{Var}
use Rattle.jn_base.specs.declared.tree.Program.{Program}
use Rattle.jn_base.specs.declared.tree.Expr.{Expr}
use Rattle.jn_base.specs.Paths.{Path, shown}
use Rattle.jn_base.specs.declared.types.Anchor.TheVariants.{Up}
use Rattle.jn_base.specs.Atoms.{Atom, Among}
use Rattle.jn_base.specs.Scopes.{Scope, bound_of, bound}
use Rattle.jn_sem.specs.Terms.{Site}
use Rattle.jn_laws.proofs.AlikeScopes.{bound_like}
use Rattle.jn_laws.specs.LawsOfWritten.{HeaderPath, of_this, of_param, HeaderPaths}
use Rattle.jn_rules.specs.Headers.{scope_of}
use Rattle.jn_rules.specs.Plans.{Mark, AtomMark, VarMark, MemberMark, KindMark}
use Rattle.jn_rules.specs.Questions.{Notes}
use Rattle.jn_rules.specs.Exprs.{Here, site_here, Typed, expr_types}
use Rattle.jn_rules.specs.Stmts.{In, Before, here}
use Rattle.jn_rules.proofs.PlanLaws.{notes_give}
use Rattle.jn_rule_laws.specs.Behind.{MasksApart}
use Rattle.jn_rules.specs.Resolved.{atom_marked, var_marked, member_marked, kind_marked}
use Rattle.jn_lower.specs.declared.cursor.Marks.{Marks}
use Rattle.jn_lower.specs.declared.emitter.Locals.{Locals}
use Rattle.jn_lower.specs.declared.walk.Walk.{Walk}
use Rattle.jn_lower.specs.Cursors.{Ahead, TermTaken, VarTaken, MemberTaken, KindTaken}
use Rattle.jn_lower.specs.Called.{Tucks}
use Rattle.jn_lower.specs.Emitted.{Grown}
use Rattle.jn_lower.specs.Known.{scope_in, bare}
use Rattle.jn_lower.specs.Walks.{kind_number, Had, Low, Ready}
use Rattle.jn_lower.proofs.Knowing.{bare_alike}
use Rattle.jn_lower.proofs.Seen.{low_joined, anchor_low, apart_bound, this_first, expr_low}

-- ---- lists

head_same : {A : Type 0} (x y : A) (xs ys : List A) → x ∷ xs ≡ y ∷ ys → x ≡ y
head_same x y xs ys e = cc

tail_same : {A : Type 0} (x y : A) (xs ys : List A) → x ∷ xs ≡ y ∷ ys → xs ≡ ys
tail_same x y xs ys e = cc

-- ---- the first of a sort is that of the marks, and the others are left

pub record TookIt {A : Type 0} (a b : A) (ms : List Mark) (new : Marks) : Type 0 where
  pub same : a ≡ b
  pub left : Ahead ms new

pub kind_ahead : (k j : ValKind) (ms : List Mark) (old new : Marks) → KindTaken k old new
    → Ahead (KindMark j ∷ ms) old → TookIt k j ms new
kind_ahead k j ms old new t a =
    let e : k ∷ new.kinds.now ≡ j ∷ kind_marked ms = sym t.kinds ∙ a.kinds in
    record {
      same = head_same k j new.kinds.now (kind_marked ms) e;
      left = record {
        terms = t.terms ∙ a.terms;
        vars = t.vars ∙ a.vars;
        members = t.members ∙ a.members;
        kinds = tail_same k j new.kinds.now (kind_marked ms) e;
      };
    }

pub var_ahead : (q r : ℕ) (ms : List Mark) (old new : Marks) → VarTaken q old new
    → Ahead (VarMark r ∷ ms) old → TookIt q r ms new
var_ahead q r ms old new t a =
    let e : q ∷ new.vars.now ≡ r ∷ var_marked ms = sym t.vars ∙ a.vars in
    record {
      same = head_same q r new.vars.now (var_marked ms) e;
      left = record {
        terms = t.terms ∙ a.terms;
        vars = tail_same q r new.vars.now (var_marked ms) e;
        members = t.members ∙ a.members;
        kinds = t.kinds ∙ a.kinds;
      };
    }

pub term_ahead : (x y : ShownAtom) (ms : List Mark) (old new : Marks) → TermTaken x old new
    → Ahead (AtomMark y ∷ ms) old → TookIt x y ms new
term_ahead x y ms old new t a =
    let e : x ∷ new.terms.now ≡ y ∷ atom_marked ms = sym t.terms ∙ a.terms in
    record {
      same = head_same x y new.terms.now (atom_marked ms) e;
      left = record {
        terms = tail_same x y new.terms.now (atom_marked ms) e;
        vars = t.vars ∙ a.vars;
        members = t.members ∙ a.members;
        kinds = t.kinds ∙ a.kinds;
      };
    }

pub member_ahead : (x : ShownPath) (R : Path) (ms : List Mark) (old new : Marks) → MemberTaken x old new
    → Ahead (MemberMark R ∷ ms) old → TookIt x (shown R) ms new
member_ahead x R ms old new t a =
    let e : x ∷ new.members.now ≡ shown R ∷ member_marked ms = sym t.members ∙ a.members in
    record {
      same = head_same x (shown R) new.members.now (member_marked ms) e;
      left = record {
        terms = t.terms ∙ a.terms;
        vars = t.vars ∙ a.vars;
        members = tail_same x (shown R) new.members.now (member_marked ms) e;
        kinds = t.kinds ∙ a.kinds;
      };
    }

-- ---- a value was had

pub record HadIt (k : ValKind) (ms : List Mark) (old new : Walk) : Type 0 where
  pub left : Ahead ms new.marks
  pub last : new.last ≡ kind_number k
  pub out : new.out ≡ old.out

pub had_ahead : (k : ValKind) (ms : List Mark) (old new : Walk) → Had old new → Ahead (KindMark k ∷ ms) old.marks
    → HadIt k ms old new
had_ahead k ms old new h a =
    let t = kind_ahead h.kind k ms old.marks new.marks h.taken a in
    record { left = t.left; last = h.last ∙ ap kind_number t.same; out = h.out }

-- ---- locals

pub ready_grown : {at : ShownPath} {vs : List Var} (scratch : ℕ) (h : Here) (sc : Scope) (old new : Walk) → Grown old.out new.out
    → Ready at vs scratch h sc old → Ready at vs scratch h sc new
ready_grown scratch h sc old new grown r = record {
  class = r.class;
  vars = r.vars;
  above = grown.locals.scratch ∙ r.above;
  first = grown.locals.kinds 0 3 r.first;
  kinds = λ v m. grown.locals.kinds v.path _ (r.kinds v m);
  valued = r.valued;
  apart = r.apart;
  few = r.few;
  paths = r.paths;
  low = r.low;
}

pub ready_locals : {at : ShownPath} {vs : List Var} (scratch : ℕ) (h : Here) (sc : Scope) (old new : Walk)
    → new.out.locals ≡ old.out.locals → Ready at vs scratch h sc old → Ready at vs scratch h sc new
ready_locals scratch h sc old new e r = record {
  class = r.class;
  vars = r.vars;
  above = ap (λ (o : Locals). o.scratch) e ∙ r.above;
  first = ap (λ (o : Locals). slice_get o.kinds 0) e ∙ r.first;
  kinds = λ v m. ap (λ (o : Locals). slice_get o.kinds v.path) e ∙ r.kinds v m;
  valued = r.valued;
  apart = r.apart;
  few = r.few;
  paths = r.paths;
  low = r.low;
}

-- behind what brings `this` below the first argument of `super`
pub ready_tucked : {at : ShownPath} {vs : List Var} (scratch : ℕ) (h : Here) (sc : Scope) (kind : ℕ) (old new : Walk)
    → Tucks kind old.out new.out → Ready at vs scratch h sc old → Ready at vs scratch h sc new
ready_tucked scratch h sc kind old new t r =
    let kinds : new.out.locals.kinds ≡ old.out.locals.kinds = ap (λ (o : Locals). o.kinds) t.added.locals ∙ t.spare.kinds in
    record {
      class = r.class;
      vars = r.vars;
      above = ap (λ (o : Locals). o.scratch) t.added.locals ∙ t.spare.scratch ∙ r.above;
      first = ap (λ (l : List ℕ). slice_get l 0) kinds ∙ r.first;
      kinds = λ v m. ap (λ (l : List ℕ). slice_get l v.path) kinds ∙ r.kinds v m;
      valued = r.valued;
      apart = r.apart;
      few = r.few;
      paths = r.paths;
      low = r.low;
    }

-- ---- scopes

-- `this` has the class of the body
pub own_bound : {at : ShownPath} {vs : List Var} (scratch : ℕ) (h : Here) (sc : Scope) (w : Walk) → Ready at vs scratch h sc w
    → bound_of sc 0 ≡ h.class
own_bound scratch h sc w r = r.low 0 (omega arith) ∙ this_first (site_here h) r.apart

-- a path that a term may mention has the bound that it has where terms are resolved, and so has an atom that hangs on one
pub seen_bound : {at : ShownPath} {vs : List Var} (scratch : ℕ) (h : Here) (sc : Scope) (w : Walk) → Ready at vs scratch h sc w → (q : ℕ)
    → HeaderPath h.vars q → bound_of sc q ≡ bound_of (scope_of (site_here h)) q
seen_bound scratch h sc w r q (of_this e) = r.low q (omega (arith, e))
seen_bound scratch h sc w r q (of_param v m e f c) = let l = r.few v m in r.low q (omega (arith, e, l))

pub same_bound : {at : ShownPath} {vs : List Var} (scratch : ℕ) (h : Here) (sc : Scope) (w : Walk) → Ready at vs scratch h sc w
    → (x : Atom) → ((q k : ℕ) → x.anchor ≡ Up q k → HeaderPath h.vars q) → bound sc x ≡ bound (scope_of (site_here h)) x
same_bound scratch h sc w r x own =
    ap (λ (R : Path). x.names ++ (x.exact ++ R)) (anchor_low (bound_of sc) (bound_of (scope_of (site_here h))) x.anchor
    (λ q k e. seen_bound scratch h sc w r q (own q k e)))

-- an atom has the bound that the walk finds
pub known_there : {at : ShownPath} {vs : List Var} (scratch : ℕ) (h : Here) (sc : Scope) (w : Walk)
    → Ready at vs scratch h sc w → (x : Atom) → bound (scope_in at vs) x ≡ bound (scope_of (site_here h)) x
known_there {at} {vs} scratch h sc w r x =
    ap (λ (q : ShownPath). bound (scope_in q vs) x) r.class
    ∙ ap (λ (us : List Var). bound (scope_in (shown h.class) us) x) r.vars
    ∙ bound_like (bare_alike (reverse (shown h.class).names) h.vars) x

-- so it is in the scope, where it hangs on no fresh path
pub known_here : {at : ShownPath} {vs : List Var} (scratch : ℕ) (h : Here) (sc : Scope) (w : Walk)
    → Ready at vs scratch h sc w → (x : Atom) → ((q k : ℕ) → x.anchor ≡ Up q k → HeaderPath h.vars q)
    → bound (scope_in at vs) x ≡ bound sc x
known_here scratch h sc w r x own = known_there scratch h sc w r x ∙ sym (same_bound scratch h sc w r x own)

-- with fresh paths more
pub ready_in : {at : ShownPath} {vs : List Var} (scratch : ℕ) (h : Here) (s t : Scope) (w : Walk) → Low s t → Ready at vs scratch h s w
    → Ready at vs scratch h t w
ready_in scratch h s t w low r = record {
  class = r.class;
  vars = r.vars;
  above = r.above;
  first = r.first;
  kinds = r.kinds;
  valued = r.valued;
  apart = r.apart;
  few = r.few;
  paths = r.paths;
  low = low_joined (scope_of (site_here h)) s t r.low low;
}

-- with other masks
pub ready_apart : {at : ShownPath} {vs : List Var} (scratch : ℕ) (b : In) (x y : Before) (w : Walk) → y.vars ≡ x.vars
    → MasksApart x.scope y.scope → Ready at vs scratch (here b x) x.scope w → Ready at vs scratch (here b y) y.scope w
ready_apart scratch b x y w vars apart r = record {
  class = r.class;
  vars = r.vars ∙ ap (map bare) (sym vars);
  above = r.above;
  first = r.first;
  kinds = λ v m. r.kinds v (subst (λ (vs : List Var). Among vs v) vars m);
  valued = λ v m. r.valued v (subst (λ (vs : List Var). Among vs v) vars m);
  apart = λ v m. r.apart v (subst (λ (vs : List Var). Among vs v) vars m);
  few = λ v m. r.few v (subst (λ (vs : List Var). Among vs v) vars m);
  paths = λ v m. subst (λ (vs : List Var). HeaderPaths vs v.ty) (sym vars)
      (r.paths v (subst (λ (vs : List Var). Among vs v) vars m));
  low = λ q l. apart_bound x.scope y.scope apart q ∙ r.low q l
      ∙ ap (λ (vs : List Var). bound_of (scope_of (site_in_of vs)) q) (sym vars);
}
  where
    site_in_of : List Var → Site
    site_in_of vs = record { class = b.class; method = b.method.name.name; vars = vs }

-- behind an expression
pub ready_typed : {at : ShownPath} {vs : List Var} (p : Program) (scratch : ℕ) (h : Here) (sc : Scope) (e : Expr) (ms : List Mark) (x : Typed)
    (old new : Walk) → Notes p (expr_types h e sc) ms x → Grown old.out new.out → Ready at vs scratch h sc old
    → Ready at vs scratch h x.scope new
ready_typed p scratch h sc e ms x old new noted grown r =
    ready_in scratch h sc x.scope new (expr_low p h e sc x (notes_give p (expr_types h e sc) ms x noted))
    (ready_grown scratch h sc old new grown r)
