-- What stands behind a dot, and the operators of a chain.
use Rattle.std.proofs.Common.{◌≡◌, ℕ, List, [], ◌∷◌, length, Option, Some, None, Bool, true, false, refl, sym, ap, ◌∙◌, subst}
use Rattle.std.specs.Prelude.{cond, ◌&&◌, not, Result, Ok}
use Rattle.std.proofs.lemmas.List.{length-map}
use Rattle.jn_base.specs.declared.tree.Named.{Named}
use Rattle.jn_base.specs.declared.tree.Op.{Op}
use Rattle.jn_base.specs.declared.tree.Op.TheVariants as op
use Rattle.jn_base.specs.declared.tree.Place.{Place}
use Rattle.jn_base.specs.declared.tree.Program.{Program}
use Rattle.jn_base.specs.declared.tree.Expr.{Expr}
use Rattle.jn_base.specs.declared.tree.Link.{Link}
use Rattle.jn_base.specs.declared.tree.TypeTerm.{TypeTerm}
use Rattle.jn_base.specs.declared.types.Ty.{Ty}
use Rattle.jn_base.specs.declared.types.Ty.TheVariants as ty
use Rattle.jn_base.specs.declared.refusal.Refusal.{Refusal}
use Rattle.jn_base.specs.Atoms.{Among, first, later}
use Rattle.jn_base.specs.Scopes.{Scope, Binds}
use Rattle.jn_base.specs.Resolve.{is_class}
use Rattle.jn_sem.specs.Acts.{Todo, todo, Get, Call, Decide, Operate, acts}
use Rattle.jn_sem.specs.LawsOfActs.{args_acts, part_acts, link_acts, links_acts}
use Rattle.jn_sem.specs.NormalFunction.{subst_type}
use Rattle.jn_laws.specs.LawsOfWritten.{Shallow}
use Rattle.jn_laws.specs.LawsOfSources.{WellFormed}
use Rattle.jn_rules.specs.Questions.{Gives}
use Rattle.jn_rules.specs.Exprs.{Here, Typed, Typing, plain, gives, suffix_typed, links_typed, put_in, replaced_paths, path_of, operator_type, takes, takes_both, comparable, is_bool, expr_types}
use Rattle.jn_rules.specs.Forms.{typed_expr, typed_args, given_args, typed_links}
use Rattle.jn_rules.specs.Stmts.{In, is_void}
use Rattle.jn_rules.proofs.PlanLaws.{then_came, wanted}
use Rattle.jn_rule_laws.specs.LawsOfForms.{TypeKnown, none as put_none, CallsOf}
use Rattle.jn_rule_laws.proofs.CallTypes.{call_types_fit}
use Rattle.jn_sound.specs.Callees.{Callee}
use Rattle.jn_sound.specs.Takes.{Opd, opd, ArgsFit, get, call, operate, Operates, decides}
use Rattle.jn_sound.specs.Fit.{Fits, acts as act, moves, decide}
use Rattle.jn_sound.specs.KnownScopes.{ScopeKnown}
use Rattle.jn_sound.specs.Tree.{ExprKnown, none as none_more, GoesTo, as_they_are, valued, CallGoes, ExprFits, AllFit}
use Rattle.jn_sound.proofs.Scopes.{grown_of, fresher_joined, ops_grown, ops_with, some_bound, found_grown, deep_grown, unseen_fits}
use Rattle.jn_sound.proofs.RuledForms.{field_typed, FieldTyped, call_is_typed, CallTyped, gave, ok_same}
use Rattle.jn_sound.proofs.CallsFit.{all_taken, not_void, args_go, ArgsGo}

-- ---- types that are no class types

pub plain_type : (s : Scope) (t : Ty) → is_class t ≡ false → TypeKnown s t
plain_type s (ty.Class xs m) e = absurd (no e) where
  no : true ≡ false → ⊥
  no e = cc
plain_type s ty.Int e = record { fits = record { atoms = λ c. absurd c }; named = λ x m. elim m [ ] }
plain_type s ty.Bool e = record { fits = record { atoms = λ c. absurd c }; named = λ x m. elim m [ ] }
plain_type s ty.Null e = record { fits = record { atoms = λ c. absurd c }; named = λ x m. elim m [ ] }
plain_type s ty.Void e = record { fits = record { atoms = λ c. absurd c }; named = λ x m. elim m [ ] }

no_path : {A : Type 0} (q : ℕ) → (let o : Option ℕ = None in o ≡ Some q) → A
no_path q e = absurd (no e) where
  no : (let o : Option ℕ = None in o ≡ Some q) → ⊥
  no e = cc

-- a value without a path
pub plain_known : (p : Program) (h : Here) (t : Ty) (s : Scope) → ScopeKnown p h s → TypeKnown s t → ExprKnown p h
    (plain t s)
plain_known p h t s k f = record {
  scope = k;
  type = f;
  path = λ q e. no_path q e;
  class = λ q e. no_path q e;
  mentioned = λ q e. no_path q e;
}

pub class_not_void : (t : Ty) → is_class t ≡ true → is_void t ≡ false
class_not_void t e = not_void t (λ v. no (subst (λ (u : Ty). is_class u ≡ true) v e)) where
  no : false ≡ true → ⊥
  no e = cc

-- ---- acts behind acts

pub goes_as : {p : Program} {b : In} {h : Here} {x y : List Todo → List Todo} {s : Scope} {before : List Opd →
    List Opd} {t : Typed} → ((k : List Todo) → x k ≡ y k)
    → GoesTo p b h y s before t → GoesTo p b h x s before t
goes_as {p} {b} {h} {s = s} {before = before} e g = record {
  known = g.known;
  grown = g.grown;
  fits = λ k ops o v f. subst (λ (z : List Todo). Fits p b z h.vars s (before ops)) (sym (e k)) (g.fits k ops o v f);
}

pub goes_behind : {p : Program} {b : In} {h : Here} {x y : List Todo → List Todo} {s : Scope} {before : List Opd →
    List Opd} {r t : Typed} → is_void r.ty ≡ false
    → GoesTo p b h x s before r → GoesTo p b h y r.scope (λ ops. opd r.ty r.path ∷ ops) t → GoesTo p b h
    (λ k. x (y k)) s before t
goes_behind v g l = record {
  known = l.known;
  grown = fresher_joined g.grown l.grown;
  fits = λ k ops o w f.
      g.fits _ ops o v (l.fits k ops (ops_grown (grown_of g.grown) o) w f);
}

module _ (p : Program) (b : In) (h : Here) (deep : Shallow p) (formed : WellFormed p) where
  abbrev n : ℕ
  n = length h.vars

  -- an operand is taken and given back as it was
  pub stays_known : (r t : Typed) → t ≡ r → ExprKnown p h r → GoesTo p b h (λ k. k) r.scope
      (λ ops. opd r.ty r.path ∷ ops) t
  stays_known r t e k = subst (GoesTo p b h (λ k. k) r.scope (λ ops. opd r.ty r.path ∷ ops)) (sym e)
      (record { known = k; grown = none_more; fits = λ k ops o v f. f })

  -- ---- a field

  field_goes : (f : Named) (r t : Typed) → FieldTyped p h f.name r t → GoesTo p b h
      (λ k. todo n (Get f.name) ∷ k) r.scope (λ ops. opd r.ty r.path ∷ ops) t
  field_goes f r t w =
      subst (GoesTo p b h (λ k. todo n (Get f.name) ∷ k) r.scope (λ ops. opd r.ty r.path ∷ ops)) (sym w.is)
      (record {
        known = plain_known p h (put_in w.scope (0 ∷ []) (w.q ∷ []) w.c.ty) w.scope w.reached.known w.type;
        grown = w.reached.grown;
        fits = λ k ops o v rest. moves (w.reached.moves ops)
            (act refl (get f.name r.ty w.q w.c w.found w.free w.type.fits) rest);
      })

  -- ---- a call

  pub put_void : (s : Scope) (f : ℕ → ℕ) (t : Ty) → is_void t ≡ true → is_void (subst_type s f t) ≡ true
  put_void s f ty.Void e = refl
  put_void s f ty.Int e = cc
  put_void s f ty.Bool e = cc
  put_void s f ty.Null e = cc
  put_void s f (ty.Class xs m) e = cc

  pub call_goes : (f : Named) (es : List Expr) → AllFit p b h es → (r t : Typed) → ExprKnown p h r
      → CallTyped p h f.name
      (typed_args h es) r t
      → CallGoes p b h (λ keeps k. args_acts n es (todo n (Call f.name (length es) keeps) ∷ k)) r.scope
      (λ ops. opd r.ty r.path ∷ ops) t
  call_goes f es fit r t known w = behind
      (args_go p b h w.body w.header calls es fit [] w.header.vars (path_of r.ty r).scope
      (path_of r.ty r).path [] w.passed refl
      (w.as_many ∙ length-map es (typed_expr h)) w.reached.known
      (calls.receiver (path_of r.ty r).scope r.ty f.name (path_of r.ty r).path
      (record {
        bound = w.here.bound;
        at = found_grown r.ty
            (grown_of w.reached.grown) w.reached.known.scope.binds known.type.fits w.here.at;
        body = w.here.body;
      })
      w.reached.path) put_none w.args) where
        calls : CallsOf p w.body w.header
        calls = call_types_fit p w.body w.header w.fits

        q : ℕ
        q = (path_of r.ty r).path

        from : List ℕ
        from = replaced_paths w.header.vars

        c : Callee
        c = record { bound = w.here.bound; body = w.body; vars = w.header.vars; result = w.header.result }

        does : Bool → List Todo → List Todo
        does keeps k = args_acts n es (todo n (Call f.name (length es) keeps) ∷ k)

        behind : ArgsGo p b h w.body w.header calls w.header.vars es (path_of r.ty r).scope
            (path_of r.ty r).path [] w.passed → CallGoes p b h does r.scope (λ ops. opd r.ty r.path ∷ ops) t
        behind a = subst (CallGoes p b h does r.scope (λ ops. opd r.ty r.path ∷ ops))
            (sym (w.is ∙ ap (λ (ps : List ℕ). plain
            (put_in w.passed.scope from ps w.header.result) w.passed.scope) a.is)) (record {
              known = plain_known p h result w.passed.scope a.known type;
              grown = fresher_joined w.reached.grown a.grown;
              fits = λ keeps k ops o v rest. moves (w.reached.moves ops)
                  (a.fits (todo n (Call f.name (length es) keeps) ∷ k) (opd r.ty (Some q) ∷ ops)
                  (ops_with (opd r.ty (Some q)) (some_bound (path_of r.ty r).scope q w.reached.path.bound_in)
                  (ops_grown (grown_of w.reached.grown) o))
                  (act refl (call f.name (length es) keeps r.ty q a.all a.args c
                  (record {
                    at = found_grown r.ty
                        (grown_of (fresher_joined w.reached.grown a.grown)) a.known.scope.binds known.type.fits
                        w.here.at;
                    callee = record { body = w.here.body; header = w.is_header };
                  })
                  w.free (all_taken a.args (opd r.ty (Some q) ∷ ops) (length es) a.count)
                  (subst (ArgsFit w.passed.scope from (q ∷ a.all) w.header.vars a.args) (sym a.split) a.fit)
                  (λ e. v (put_void w.passed.scope _ w.header.result e)) type.fits) rest));
            }) where
              result : Ty
              result = put_in w.passed.scope from (q ∷ a.all) w.header.result

              type_by : (o : Option TypeTerm) → w.body.method.result ≡ o → TypeKnown w.passed.scope result
              type_by (Some t) e =
                  calls.result t w.passed.scope q a.all e a.known.scope.binds
                  (deep_grown (grown_of a.grown) a.known.scope.binds
                  (calls.receiver (path_of r.ty r).scope r.ty f.name q
                  (record {
                    bound = w.here.bound;
                    at = found_grown r.ty
                        (grown_of w.reached.grown) w.reached.known.scope.binds known.type.fits w.here.at;
                    body =
                        w.here.body;
                  }) w.reached.path)) a.put
              type_by None e =
                  subst (λ (u : Ty). TypeKnown w.passed.scope (put_in w.passed.scope from (q ∷ a.all) u))
                  (sym (w.fits.void e)) (plain_type w.passed.scope ty.Void refl)

              type : TypeKnown w.passed.scope result
              type = type_by w.body.method.result refl

  -- a value that is kept is an operand
  pub kept_goes : {does : Bool → List Todo → List Todo} {s : Scope} {before : List Opd → List Opd} {t : Typed}
      → CallGoes p b h does s before t → GoesTo p b h (does true) s before t
  kept_goes {t = t} g = record {
    known = g.known;
    grown = g.grown;
    fits = λ k ops o v f. g.fits true k ops o (λ e. absurd (no (sym e ∙ v)))
        (subst (λ (z : List Opd). Fits p b k h.vars t.scope z) (is v ops) f);
  } where
    no : true ≡ false → ⊥
    no e = cc

    is : is_void t.ty ≡ false → (ops : List Opd) → (opd t.ty t.path ∷ ops) ≡ valued true t ops
    is v ops = ap (λ (z : Bool). cond (true && not z) (opd t.ty t.path ∷ ops) ops) (sym v)

  -- ---- behind a dot

  abbrev pub ArgsFitToo : Option (List Expr) → Type 0
  ArgsFitToo None = Unit {0}
  ArgsFitToo (Some es) = AllFit p b h es

  receiver_class : (f : Named) (args : Option (List (Expr × Typing))) (at : Place) (r t : Typed) → Gives p
      (suffix_typed h f args at r) (Ok t) → is_class r.ty ≡ true
  receiver_class f None at r t g = (wanted (is_class r.ty) _ _ t g).test
  receiver_class f (Some es) at r t g = (wanted (is_class r.ty) _ _ t g).test

  pub receiver_not_void : (f : Named) (args : Option (List (Expr × Typing))) (at : Place) (r t : Typed) → Gives p
      (suffix_typed h f args at r) (Ok t) → is_void r.ty ≡ false
  receiver_not_void f args at r t g = class_not_void r.ty (receiver_class f args at r t g)

  pub part_goes : (f : Named) (args : Option (List Expr)) → ArgsFitToo args → (at : Place) (r t : Typed) →
      ExprKnown p h r → Gives p (suffix_typed h f (given_args h args) at r) (Ok t)
      → GoesTo p b h (part_acts f.name args true n) r.scope (λ ops. opd r.ty r.path ∷ ops) t
  part_goes f None fit at r t known g = field_goes f r t (field_typed p h deep formed f at r t known g)
  part_goes f (Some es) fit at r t known g = kept_goes
      (call_goes f es fit r t known (call_is_typed p h deep formed f (typed_args h es) at r t known g))

  -- ---- operators

  pub false_true : {A : Type 0} → false ≡ true → A
  false_true e = absurd (no e) where
    no : false ≡ true → ⊥
    no e = cc

  -- a void value is no operand
  void_left : (o : Op) (u : Ty) → takes o ty.Void ≡ true → takes_both o ty.Void u ≡ true → ⊥
  void_left op.Add u a c = false_true a
  void_left op.Sub u a c = false_true a
  void_left op.Mul u a c = false_true a
  void_left op.Div u a c = false_true a
  void_left op.Rem u a c = false_true a
  void_left op.Lt u a c = false_true a
  void_left op.Le u a c = false_true a
  void_left op.Gt u a c = false_true a
  void_left op.Ge u a c = false_true a
  void_left op.And u a c = false_true a
  void_left op.Or u a c = false_true a
  void_left op.Eq u a c = false_true c
  void_left op.Ne u a c = false_true c

  void_right : (o : Op) (t : Ty) → takes o ty.Void ≡ true → takes_both o t ty.Void ≡ true → ⊥
  void_right op.Add t a c = false_true a
  void_right op.Sub t a c = false_true a
  void_right op.Mul t a c = false_true a
  void_right op.Div t a c = false_true a
  void_right op.Rem t a c = false_true a
  void_right op.Lt t a c = false_true a
  void_right op.Le t a c = false_true a
  void_right op.Gt t a c = false_true a
  void_right op.Ge t a c = false_true a
  void_right op.And t a c = false_true a
  void_right op.Or t a c = false_true a
  void_right op.Eq t a c = no t c where
    no : (t : Ty) → comparable t ty.Void ≡ true → ⊥
    no ty.Int e = false_true e
    no ty.Bool e = false_true e
    no ty.Null e = false_true e
    no ty.Void e = false_true e
    no (ty.Class xs m) e = false_true e
  void_right op.Ne t a c = no t c where
    no : (t : Ty) → comparable t ty.Void ≡ true → ⊥
    no ty.Int e = false_true e
    no ty.Bool e = false_true e
    no ty.Null e = false_true e
    no ty.Void e = false_true e
    no (ty.Class xs m) e = false_true e

  pub bool_is : (t : Ty) → is_bool t ≡ true → t ≡ ty.Bool
  bool_is ty.Bool e = refl
  bool_is ty.Int e = false_true e
  bool_is ty.Null e = false_true e
  bool_is ty.Void e = false_true e
  bool_is (ty.Class xs m) e = false_true e

  result_plain : (o : Op) (s : Scope) → TypeKnown s (operator_type o)
  result_plain op.Add s = plain_type s ty.Int refl
  result_plain op.Sub s = plain_type s ty.Int refl
  result_plain op.Mul s = plain_type s ty.Int refl
  result_plain op.Div s = plain_type s ty.Int refl
  result_plain op.Rem s = plain_type s ty.Int refl
  result_plain op.Lt s = plain_type s ty.Bool refl
  result_plain op.Le s = plain_type s ty.Bool refl
  result_plain op.Gt s = plain_type s ty.Bool refl
  result_plain op.Ge s = plain_type s ty.Bool refl
  result_plain op.And s = plain_type s ty.Bool refl
  result_plain op.Or s = plain_type s ty.Bool refl
  result_plain op.Eq s = plain_type s ty.Bool refl
  result_plain op.Ne s = plain_type s ty.Bool refl

  result_kept : (o : Op) → is_void (operator_type o) ≡ false
  result_kept op.Add = refl
  result_kept op.Sub = refl
  result_kept op.Mul = refl
  result_kept op.Div = refl
  result_kept op.Rem = refl
  result_kept op.Lt = refl
  result_kept op.Le = refl
  result_kept op.Gt = refl
  result_kept op.Ge = refl
  result_kept op.And = refl
  result_kept op.Or = refl
  result_kept op.Eq = refl
  result_kept op.Ne = refl

  -- one operator with its right operand, which is typed behind the left one
  abbrev LinkGoes : Op → Expr → Typed → Typed → Type 0
  LinkGoes o e x z = GoesTo p b h (link_acts o e n) x.scope (λ ops. opd x.ty x.path ∷ ops) z

  decided : (and : Bool) (e : Expr) (x y : Typed) → is_bool x.ty ≡ true → is_bool y.ty ≡ true → GoesTo p b h
      (acts n e) x.scope as_they_are y
      → GoesTo p b h (λ k. todo n (Decide and e) ∷ k) x.scope (λ ops. opd x.ty x.path ∷ ops) (plain ty.Bool y.scope)
  decided and e x y c d g = record {
    known = plain_known p h ty.Bool y.scope g.known.scope (plain_type y.scope ty.Bool refl);
    grown = g.grown;
    fits = λ k ops o v f. subst (λ (u : Ty). Fits p b (todo n (Decide and e) ∷ k) h.vars x.scope (opd u x.path ∷ ops))
        (sym (bool_is x.ty c))
        (decide and e x.path refl (g.fits k ops o (subst (λ (u : Ty). is_void u ≡ false) (sym (bool_is y.ty d)) refl)
        (taken_bool y d (bare y.path refl) k ops f)) (unseen_fits g.grown g.known.scope.scope.binds f));
  } where
    bare : (o : Option ℕ) → y.path ≡ o → y.path ≡ None
    bare None w = w
    bare (Some q) w = false_true (subst (λ (u : Ty). is_class u ≡ true) (bool_is y.ty d) (g.known.class q w))

    taken_bool : (y : Typed) → is_bool y.ty ≡ true → y.path ≡ None → (k : List Todo) (ops : List Opd) →
        Fits p b k h.vars y.scope (opd ty.Bool None ∷ ops)
        → Fits p b k h.vars y.scope (opd y.ty y.path ∷ ops)
    taken_bool y d w k ops f =
        subst (λ (o : Option ℕ). Fits p b k h.vars y.scope (opd y.ty o ∷ ops)) (sym w)
        (subst (λ (u : Ty). Fits p b k h.vars y.scope (opd u None ∷ ops)) (sym (bool_is y.ty d)) f)

  operated : (o : Op) (e : Expr) (x y : Typed) → ((q : ℕ) → x.path ≡ Some q → Binds x.scope q) → Operates o x.ty y.ty
      → is_void y.ty ≡ false → GoesTo p b h (acts n e) x.scope as_they_are y
      → GoesTo p b h (λ k. acts n e (todo n (Operate o) ∷ k)) x.scope (λ ops. opd x.ty x.path ∷ ops)
      (plain (operator_type o) y.scope)
  operated o e x y path w v g = record {
    known = plain_known p h (operator_type o) y.scope g.known.scope (result_plain o y.scope);
    grown = g.grown;
    fits = λ k ops below u f. g.fits (todo n (Operate o) ∷ k) (opd x.ty x.path ∷ ops)
        (ops_with (opd x.ty x.path) path below) v
        (act refl (operate o x.ty y.ty x.path y.path w) f);
  }

  operates : (o : Op) (x y : Typed) → takes o x.ty ≡ true → takes o y.ty ≡ true → takes_both o x.ty y.ty ≡ true →
      decides o ≡ false → Operates o x.ty y.ty
  operates o x y l r c d = record { left = l; right = r; both = c; acts = d }

  right_kept : (o : Op) (x y : Typed) → takes o y.ty ≡ true → takes_both o x.ty y.ty ≡ true → is_void y.ty ≡ false
  right_kept o x y r c = not_void y.ty
      (λ e. void_right o x.ty (subst (λ (u : Ty). takes o u ≡ true) e r)
      (subst (λ (u : Ty). takes_both o x.ty u ≡ true) e c))

  pub left_kept : (o : Op) (t u : Ty) → takes o t ≡ true → takes_both o t u ≡ true → is_void t ≡ false
  left_kept o t u l c = not_void t
      (λ e. void_left o u (subst (λ (z : Ty). takes o z ≡ true) e l) (subst (λ (z : Ty). takes_both o z u ≡ true) e c))

  link_goes : (o : Op) (e : Expr) (x y : Typed) → ((q : ℕ) → x.path ≡ Some q → Binds x.scope q) → takes o x.ty ≡ true
      → takes o y.ty ≡ true →
      takes_both o x.ty y.ty ≡ true → GoesTo p b h (acts n e) x.scope as_they_are y
      → LinkGoes o e x (plain (operator_type o) y.scope)
  link_goes op.And e x y path l r c g = decided true e x y l r g
  link_goes op.Or e x y path l r c g = decided false e x y l r g
  link_goes op.Add e x y path l r c g = operated op.Add e x y path (operates op.Add x y l r c refl)
      (right_kept op.Add x y r c) g
  link_goes op.Sub e x y path l r c g = operated op.Sub e x y path (operates op.Sub x y l r c refl)
      (right_kept op.Sub x y r c) g
  link_goes op.Mul e x y path l r c g = operated op.Mul e x y path (operates op.Mul x y l r c refl)
      (right_kept op.Mul x y r c) g
  link_goes op.Div e x y path l r c g = operated op.Div e x y path (operates op.Div x y l r c refl)
      (right_kept op.Div x y r c) g
  link_goes op.Rem e x y path l r c g = operated op.Rem e x y path (operates op.Rem x y l r c refl)
      (right_kept op.Rem x y r c) g
  link_goes op.Lt e x y path l r c g = operated op.Lt e x y path (operates op.Lt x y l r c refl)
      (right_kept op.Lt x y r c) g
  link_goes op.Le e x y path l r c g = operated op.Le e x y path (operates op.Le x y l r c refl)
      (right_kept op.Le x y r c) g
  link_goes op.Gt e x y path l r c g = operated op.Gt e x y path (operates op.Gt x y l r c refl)
      (right_kept op.Gt x y r c) g
  link_goes op.Ge e x y path l r c g = operated op.Ge e x y path (operates op.Ge x y l r c refl)
      (right_kept op.Ge x y r c) g
  link_goes op.Eq e x y path l r c g = operated op.Eq e x y path (operates op.Eq x y l r c refl)
      (right_kept op.Eq x y r c) g
  link_goes op.Ne e x y path l r c g = operated op.Ne e x y path (operates op.Ne x y l r c refl)
      (right_kept op.Ne x y r c) g

  links_none : (t x : Typed) → (let a : Result Typed Refusal = Ok t in let z : Result Typed Refusal = Ok x in a ≡ z) →
      ExprKnown p h x
      → GoesTo p b h (λ k. k) x.scope (λ ops. opd x.ty x.path ∷ ops) t
  links_none t x e k = stays_known x t (ok_same t x e) k

  pub links_go : (at : Place) (ls : List Link) → ((l : Link) → Among ls l → ExprFits p b h l.right) → (x t : Typed) →
      ExprKnown p h x → Gives p (links_typed h at x (typed_links h ls)) (Ok t)
      → GoesTo p b h (links_acts n ls) x.scope (λ ops. opd x.ty x.path ∷ ops) t
  links_go at [] fit x t k g = links_none t x g k
  links_go at (l ∷ ls) fit x t k g =
      let w = wanted (takes l.op x.ty) _ _ t g in
      let c = then_came (expr_types h l.right x.scope) _ t w.then in
      let v = wanted (takes l.op c.first.ty) _ _ t c.then in
      let u = wanted (takes_both l.op x.ty c.first.ty) _ _ t v.then in
      let z = then_came (gives (plain (operator_type l.op) c.first.scope))
      (λ z. links_typed h at z (typed_links h ls)) t u.then in
      let one = subst (LinkGoes l.op l.right x) (sym (gave p _ z.first z.gave))
      (link_goes l.op l.right x c.first (λ q e. (k.path q e).bound_in) w.test v.test u.test
      (fit l first x.scope c.first k.scope c.gave)) in
      goes_behind (subst (λ (y : Typed). is_void y.ty ≡ false) (sym (gave p _ z.first z.gave)) (result_kept l.op)) one
      (links_go at ls (λ y m. fit y (later m)) z.first t one.known z.then)

  -- with an operator, the value before it is not void
  pub first_kept : (at : Place) (l : Link) (ls : List Link) (x t : Typed) → Gives p
      (links_typed h at x (typed_links h (l ∷ ls))) (Ok t) → is_void x.ty ≡ false
  first_kept at l ls x t g =
      let w = wanted (takes l.op x.ty) _ _ t g in
      let c = then_came (expr_types h l.right x.scope) _ t w.then in
      let v = wanted (takes l.op c.first.ty) _ _ t c.then in
      let u = wanted (takes_both l.op x.ty c.first.ty) _ _ t v.then in
      left_kept l.op x.ty c.first.ty w.test u.test
