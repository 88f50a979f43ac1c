-- The typing of statements turned round: what stands behind each, and what is known of its expressions.
use Rattle.std.proofs.Common.{◌≡◌, ℕ, List, [], ◌∷◌, ◌++◌, map, Option, Some, None, Bool, true, false, not, refl, sym, ap, ◌∙◌, subst}
use Rattle.std.specs.Prelude.{cond, Result, Ok, Err}
use Rattle.jn_base.specs.declared.tree.Name.{Name}
use Rattle.jn_base.specs.declared.tree.Named.{Named}
use Rattle.jn_base.specs.declared.tree.Place.{Place}
use Rattle.jn_base.specs.declared.tree.TypeTerm.{TypeTerm}
use Rattle.jn_base.specs.declared.tree.Program.{Program}
use Rattle.jn_base.specs.declared.tree.Expr.{Expr}
use Rattle.jn_base.specs.declared.tree.Stmt.{Stmt}
use Rattle.jn_base.specs.declared.tree.Stmt.TheVariants as stmt
use Rattle.jn_base.specs.declared.refusal.Refusal.{Refusal}
use Rattle.jn_base.specs.declared.types.Ty.{Ty}
use Rattle.jn_base.specs.declared.names.Var.{Var}
use Rattle.jn_base.specs.Atoms.{Among, first, later}
use Rattle.jn_base.specs.Scopes.{Scope}
use Rattle.jn_base.specs.Resolve.{is_class, var_bind}
use Rattle.jn_code.specs.declared.kind.OperandKind.TheVariants as kind
use Rattle.jn_code.specs.declared.image.Code.{Code}
use Rattle.jn_sem.specs.Terms.{TypeIs}
use Rattle.jn_sem.specs.Does.{var}
use Rattle.jn_sem.specs.Below.{Below}
use Rattle.jn_sem.proofs.FindingLaws.{finds_one}
use Rattle.jn_sem.specs.Normal.{same_path}
use Rattle.jn_sem.proofs.NormalTypes.{type_subst_is}
use Rattle.jn_laws.specs.LawsOfWritten.{Shallow, scope_of}
use Rattle.jn_laws.specs.LawsOfScopes.{ScopesAlike, BindsAlike, none as alike_none, one as alike_one}
use Rattle.jn_laws.proofs.AlikeScopes.{bounds_like}
use Rattle.jn_laws.proofs.WrittenTypes.{scope_more}
use Rattle.jn_rules.specs.Plans.{Plan, FoundField, OfType, OfField, done, wants}
use Rattle.jn_rules.specs.Questions.{Gives, Answers, Means, IsFoundField}
use Rattle.jn_rules.specs.Headers.{declared_type}
use Rattle.jn_rules.specs.Exprs.{Here, site_here, Typed, mismatch, path_of, field_type, is_bool}
use Rattle.jn_rules.specs.Stmts.{In, Before, here, typed, stmt_types, stmts_type, block_typed, out_of, run_through, condition, choice_typed, loop_typed, joined as scopes_joined, with_masks, dropped, is_variable, with_local, local_typed, atom_marks, set_with, typed_below, assign_typed, is_void, without_mask}
use Rattle.jn_rules.proofs.FormLaws.{forms_are}
use Rattle.jn_rules.proofs.PlanLaws.{then_came, wanted, took, found_was}
use Rattle.jn_rule_laws.specs.Behind.{MasksApart, none as apart_none, one as apart_one}
use Rattle.jn_rule_laws.proofs.Behind.{same_before, noted, apart_itself, masks_apart, joined_apart, blocks_move}
use Rattle.jn_rule_laws.proofs.MaskNumbers.{formed_of, mask_small}
use Rattle.jn_agree.specs.Rows.{kind_of_type}
use Rattle.jn_agree.specs.Places.{newest, HasKind}
use Rattle.jn_places.specs.StmtPlaces.{numbered_from}
use Rattle.jn_place_spans.specs.LawsOfExprs.{value_of, LocalsAre, SeesAs}
use Rattle.jn_place_spans.specs.LawsOfStmts.{Ready}
use Rattle.jn_place_spans.proofs.KindsOfTypes.{bool_is, named_same}

-- ---- what is known before a statement

alike_joined : {s t u : Scope} → ScopesAlike s t → ScopesAlike t u → ScopesAlike s u
alike_joined alike_none h = h
alike_joined (alike_one a g) (alike_one c h) =
    alike_one (record { path = c.path ∙ a.path; atoms = c.atoms ∙ a.atoms; class = c.class ∙ a.class })
    (alike_joined g h)

apart_alike : {s t : Scope} → MasksApart s t → ScopesAlike s t
apart_alike apart_none = alike_none
apart_alike (apart_one a h) = alike_one (record { path = a.path; atoms = a.atoms; class = a.class }) (apart_alike h)

-- the same variables, and the scope but for masks
pub record SameVars (x y : Before) : Type 0 where
  pub vars : y.vars ≡ x.vars
  pub apart : MasksApart x.scope y.scope

pub itself : (x y : Before) → y ≡ x → SameVars x y
itself x y e = subst (SameVars x) (sym e) (record { vars = refl; apart = apart_itself x.scope })

abbrev here_with : In → List Var → Here
here_with b vs = record { class = b.class; method = b.method; vars = vs }

pub ready_level : (it : Code) (b : In) (x y : Before) → Ready it b x → SameVars x y → Ready it b y
ready_level it b x y r s = record {
  locals = subst (λ (vs : List Var). LocalsAre it (here_with b vs)) (sym s.vars) r.locals;
  alike = subst (λ (vs : List Var). ScopesAlike (scope_of (site_here (here_with b vs))) y.scope) (sym s.vars)
      (alike_joined r.alike (apart_alike s.apart));
}

among_cases : (vs : List Var) (v w : Var) (T : Var → Type 0) → T v → ((w : Var) → Among vs w → T w)
    → Among (vs ++ v ∷ []) w → T w
among_cases [] v _ T a each first = a
among_cases [] v w T a each (later m) = elim m [ ]
among_cases (u ∷ vs) v _ T a each first = each u first
among_cases (u ∷ vs) v w T a each (later m) = among_cases vs v w T a (λ z n. each z (later n)) m

bind_alike : (v : Var) → BindsAlike (var_bind v) (var_bind v)
bind_alike v = record { path = refl; atoms = refl; class = refl }

pub ready_more : (p : Program) → Shallow p → (it : Code) (b : In) (x : Before) (v : Var) → Ready it b x
    → HasKind it v.path (kind_of_type v.ty) → Ready it b (with_local x v)
ready_more p deep it b x v r has = record {
  locals = record {
    this = r.locals.this;
    vars = λ w m. among_cases x.vars v w (λ z. HasKind it z.path (kind_of_type z.ty)) has r.locals.vars m;
    few = r.locals.few;
  };
  alike = subst (λ (s : Scope). ScopesAlike s (var_bind v ∷ x.scope)) (sym (scope_more p deep (site_here (here b x)) v))
      (alike_one (bind_alike v) r.alike);
}

pub sees_ready : (it : Code) (b : In) (x : Before) → Ready it b x → SeesAs (here b x) x.scope
sees_ready it b x r q low = bounds_like r.alike q

pub not_true : (c : Bool) → not c ≡ true → c ≡ false
not_true false e = refl
not_true true e = cc

module _ (p : Program) (b : In) where
  pub asked : (s : Stmt) (x y : Before) (z : Plan Before) → stmt_types b s x ≡ z → Gives p (stmt_types b s x) (Ok y)
      → Gives p z (Ok y)
  asked s x y z is g = subst (λ (w : Plan Before). Gives p w (Ok y)) is g

  -- an expression that is below a type, and what is given behind it
  pub record BelowFound (x : Before) (e : Expr) (s : Scope) (t : Ty) (go : Plan Before) (y : Before) : Type 0 where
    pub first : Typed
    pub had : Gives p (typed b x e s) (Ok first)
    pub below : Below p first.scope first.ty t
    pub then : Gives p go (Ok y)

  pub answered : (x : Before) (e : Expr) (go : Plan Before) (y : Before) (ok : Bool) (T : Type 0) → Answers T ok
      → Gives p (wants ok (mismatch (here b x) e.at) go) (Ok y) → T × Gives p go (Ok y)
  answered x e go y true T a g = (a, g)
  answered x e go y false T a g = absurd (no g) where
    no : (let u : Result Before Refusal = Ok y in let v : Result Before Refusal = Err (mismatch
        (here b x) e.at) in u ≡ v)
        → ⊥
    no e = cc

  pub below_found : (x : Before) (e : Expr) (s : Scope) (t : Ty) (go : Plan Before) (y : Before)
      → Gives p (typed_below b x e s t go) (Ok y) → BelowFound x e s t go y
  below_found x e s t go y g =
      let c = then_came (typed b x e s) _ y g in
      let w = answered x e go y c.then.0 (Below p c.first.scope c.first.ty t) c.then.1 c.then.2 in
      record { first = c.first; had = c.gave; below = w.0; then = w.1 }

  -- ---- single statements

  pub record LocalFound (x : Before) (fixed : Bool) (t : TypeTerm) (name : Named) (e : Expr) (type : Ty)
      (y : Before) : Type 0
    where
      pub v : Var
      pub is : y ≡ with_local x v
      pub path : v.path ≡ x.next
      pub shown : v ≡ var name.name x.next fixed type
      pub type_is : type ≡ v.ty
      pub value : BelowFound x e x.scope v.ty (done (with_local x v)) y

  pub local_found : (x : Before) (fixed : Bool) (t : TypeTerm) (name : Named) (e : Expr) (type : Ty) (y : Before)
      → TypeIs p (site_here (here b x)) t type → Gives p (stmt_types b (stmt.Local fixed t name e) x) (Ok y)
      → LocalFound x fixed t name e type y
  local_found x fixed t name e type y is g =
      let a = asked _ x y _ ((forms_are.stmts b x).local fixed t name e) g in
      let r = took a.0 (local_typed b x fixed name e) y a.2 in
      found r.given (subst (λ z. Means p (OfType (site_here (here b x)) t) z) r.is a.1)
      (noted p (atom_marks r.given) _ (Ok y) r.then)
    where
      declared_as : (u : Ty) → Means p (OfType (site_here (here b x)) t) (Ok u)
          → type ≡ declared_type (site_here (here b x)) u
      declared_as u means =
          (finds_one p).type (site_here (here b x)) t type (declared_type (site_here (here b x)) u) is (record {
            given = u;
            resolved = means;
            normal = (type_subst_is (scope_of (site_here (here b x))) same_path u
                (declared_type (site_here (here b x)) u)).1 refl;
          })

      found : (u : Ty) → Means p (OfType (site_here (here b x)) t) (Ok u)
          → Gives p (typed_below b x e x.scope (declared_type (site_here (here b x)) u)
          (done (with_local x (var name.name x.next fixed (declared_type (site_here (here b x)) u))))) (Ok y)
          → LocalFound x fixed t name e type y
      found u means g =
          let f = below_found x e x.scope (declared_type (site_here (here b x)) u)
          (done (with_local x (var name.name x.next fixed (declared_type (site_here (here b x)) u)))) y g in
          record {
            v = var name.name x.next fixed (declared_type (site_here (here b x)) u);
            is = same_before _ y f.then;
            path = refl;
            shown = ap (λ (t : Ty). var name.name x.next fixed t) (sym (declared_as u means));
            type_is = declared_as u means;
            value = f;
          }

  pub record AssignFound (x : Before) (e : Expr) (v : Var) (y : Before) : Type 0 where
    pub is : y ≡ x
    pub value : BelowFound x e x.scope v.ty (done x) y

  pub assign_found : (x : Before) (name : Named) (e : Expr) (v : Var) (y : Before) → newest x.vars name.name ≡ Some v
      → Gives p (stmt_types b (stmt.Assign name e) x) (Ok y) → AssignFound x e v y
  assign_found x name e v y new g =
      let a = asked _ x y _ ((forms_are.stmts b x).assign name e) g in
      let k = subst (λ (o : Option Var). Gives p (assign_typed b x name e o) (Ok y))
      (named_same x.vars name.name v new) a in
      let w = wanted (not v.fixed) _ _ y k in
      let f = below_found x e x.scope v.ty (done x) y w.then in
      record { is = same_before x y f.then; value = f }

  pub record SetFound (x : Before) (r : Expr) (f : Named) (e : Expr) (y : Before) : Type 0 where
    pub first : Typed
    pub had : Gives p (typed b x r x.scope) (Ok first)
    pub class : is_class first.ty ≡ true
    pub field : FoundField
    pub here_is : IsFoundField p first.scope first.ty f.name field
    pub value : BelowFound x e (path_of first.ty first).scope (field_type field (path_of first.ty first))
        (dropped x f.name first.path) y
    pub same : SameVars x y
    pub next : y.next ≡ x.next

  drop_next : (x y : Before) (f : Name) (o : Option ℕ) → Gives p (dropped x f o) (Ok y) → y.next ≡ x.next
  drop_next x y f None g = ap (λ (z : Before). z.next) (same_before x y g)
  drop_next x y f (Some q) g = at (is_variable q) g where
    at : (c : Bool) → Gives p (cond c (without_mask x f q) (done x)) (Ok y) → y.next ≡ x.next
    at false g = ap (λ (z : Before). z.next) (same_before x y g)
    at true g =
        ap (λ (z : Before). z.next) (same_before (record x { scope = with_masks x.scope q g.0 }) y g.2)

  drop_same : (x y : Before) (f : Name) (o : Option ℕ) → Gives p (dropped x f o) (Ok y) → SameVars x y
  drop_same x y f None g = itself x y (same_before x y g)
  drop_same x y f (Some q) g = at (is_variable q) g where
    at : (c : Bool) → Gives p (cond c (without_mask x f q) (done x)) (Ok y) → SameVars x y
    at false g = itself x y (same_before x y g)
    at true g = subst (SameVars x) (sym (same_before (record x { scope = with_masks x.scope q g.0 }) y g.2)) (record {
      vars = refl;
      apart = masks_apart x.scope q g.0 (λ i h. ((g.1.each i (mask_small g.0 (formed_of _ g.0 g.1) i h)).0 h).0);
    })

  pub set_found : (x : Before) (r : Expr) (f : Named) (e : Expr) (y : Before)
      → Gives p (stmt_types b (stmt.Set r f e) x) (Ok y) → SetFound x r f e y
  set_found x r f e y g =
      let c = then_came (typed b x r x.scope) _ y (asked _ x y _ ((forms_are.stmts b x).set r f e) g) in
      let w = wanted (is_class c.first.ty) _ _ y c.then in
      let u = found_was w.then.0 _ (set_with b x f e c.first) y w.then.2 in
      let d = below_found x e (path_of c.first.ty c.first).scope (field_type u.given (path_of c.first.ty c.first))
      (dropped x f.name c.first.path) y u.then in
      record {
        first = c.first;
        had = c.gave;
        class = w.test;
        field = u.given;
        here_is = subst (λ (o : Option FoundField). Means p (OfField c.first.scope c.first.ty f.name) o) u.is w.then.1;
        value = d;
        same = drop_same x y f.name c.first.path d.then;
        next = drop_next x y f.name c.first.path d.then;
      }

  pub record ConditionFound (x : Before) (e : Expr) (go : Plan Before) (y : Before) : Type 0 where
    pub first : Typed
    pub had : Gives p (typed b x e x.scope) (Ok first)
    pub truth : value_of true first.ty ≡ kind.Bool ∷ []
    pub then : Gives p go (Ok y)

  pub condition_found : (x : Before) (e : Expr) (go : Plan Before) (y : Before) → Gives p (condition b x e go) (Ok y)
      → ConditionFound x e go y
  condition_found x e go y g =
      let c = then_came (typed b x e x.scope) _ y g in
      let w = wanted (is_bool c.first.ty) _ go y c.then in
      record {
        first = c.first;
        had = c.gave;
        truth = ap (value_of true) (bool_is c.first.ty w.test);
        then = w.then;
      }

  pub record ChoiceFound (x : Before) (one other : List Stmt) (y : Before) : Type 0 where
    pub first : Before
    pub had_one : Gives p (block_typed (map (stmt_types b) one) x) (Ok first)
    pub second : Before
    pub had_other : Gives p (block_typed (map (stmt_types b) other) (numbered_from x first.next)) (Ok second)
    pub same : SameVars x y
    pub next : y.next ≡ second.next

  pub choice_found : (x : Before) (one other : List Stmt) (y : Before)
      → Gives p (choice_typed (map (stmt_types b) one) (map (stmt_types b) other) x) (Ok y) → ChoiceFound x one other y
  choice_found x one other y g =
      let c = then_came (block_typed (map (stmt_types b) one) x) _ y g in
      let d = then_came (block_typed (map (stmt_types b) other) (numbered_from x c.first.next)) _ y c.then in
      let j = then_came (scopes_joined c.first.scope d.first.scope) _ y d.then in
      let k = blocks_move p b one x c.first c.gave in
      let l = blocks_move p b other (numbered_from x c.first.next) d.first d.gave in
      record {
        first = c.first;
        had_one = c.gave;
        second = d.first;
        had_other = d.gave;
        same = subst (SameVars x) (sym (same_before _ y j.then)) (record {
          vars = refl;
          apart = joined_apart p x.scope c.first.scope d.first.scope j.first k.apart l.apart j.gave;
        });
        next = ap (λ (z : Before). z.next) (same_before _ y j.then);
      }

  -- what the statements of a block give
  pub record BlockFound (x : Before) (ss : List Stmt) : Type 0 where
    pub last : Before
    pub had : Gives p (stmts_type b ss x) (Ok last)

  pub block_found : (x : Before) (ss : List Stmt) (y : Before) → Gives p (block_typed (map (stmt_types b) ss) x) (Ok y)
      → BlockFound x ss
  block_found x ss y g =
      let z = then_came (run_through (map (stmt_types b) ss) x) (λ z. done (out_of x z)) y g in
      record { last = z.first; had = z.gave }

  pub block_same : (x : Before) (ss : List Stmt) (y : Before) → Gives p (block_typed (map (stmt_types b) ss) x) (Ok y)
      → SameVars x y
  block_same x ss y g = let l = blocks_move p b ss x y g in record { vars = l.vars; apart = l.apart }

  pub record LoopFound (x : Before) (body : List Stmt) (y : Before) : Type 0 where
    pub last : Before
    pub block : BlockFound x body
    pub had : Gives p (block_typed (map (stmt_types b) body) x) (Ok last)
    pub same : SameVars x y
    pub next : y.next ≡ last.next

  pub loop_found : (x : Before) (body : List Stmt) (y : Before)
      → Gives p (loop_typed (map (stmt_types b) body) x) (Ok y)
      → LoopFound x body y
  loop_found x body y g =
      let d = then_came (block_typed (map (stmt_types b) body) x) (λ z. done (numbered_from x z.next)) y g in
      record {
        last = d.first;
        block = block_found x body d.first d.gave;
        had = d.gave;
        same = subst (SameVars x) (sym (same_before (numbered_from x d.first.next) y d.then))
            (record { vars = refl; apart = apart_itself x.scope });
        next = ap (λ (z : Before). z.next) (same_before (numbered_from x d.first.next) y d.then);
      }

  pub record ReturnFound (x : Before) (e : Expr) (y : Before) : Type 0 where
    pub valued : is_void b.result ≡ false
    pub value : BelowFound x e x.scope b.result (done x) y

  pub return_found : (x : Before) (e : Expr) (pl : Place) (y : Before)
      → Gives p (stmt_types b (stmt.Return (Some e) pl) x) (Ok y) → ReturnFound x e y
  return_found x e pl y g =
      let c = then_came (typed b x e x.scope) _ y (asked _ x y _ ((forms_are.stmts b x).returns (Some e) pl) g) in
      let w = wanted (not (is_void b.result)) _ _ y c.then in
      let u = answered x e (done x) y w.then.0 (Below p c.first.scope c.first.ty b.result) w.then.1 w.then.2 in
      record {
        valued = not_true (is_void b.result) w.test;
        value = record { first = c.first; had = c.gave; below = u.0; then = u.1 };
      }
