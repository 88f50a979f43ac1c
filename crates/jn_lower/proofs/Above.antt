-- Calls of `super`: each step of the walk, and what it does.
use Rattle.std.proofs.Common.{◌≡◌, ◌<◌, ◌≤◌, ◌+◌, ℕ, suc, List, [], ◌∷◌, ◌++◌, length, drop, get_or, Bool, true, Option, Some, refl, sym, ap, ◌∙◌, subst, add-one, eqb-true}
use Rattle.std.specs.Prelude.{Result, Ok, slice_get}
use Rattle.std.proofs.Math.Seq.{drop-cons}
use Rattle.std.proofs.lemmas.List.{drop_all, length-map}
use Rattle.jn_base.specs.declared.tree.Named.{Named}
use Rattle.jn_base.specs.declared.tree.Place.{Place}
use Rattle.jn_base.specs.declared.tree.Term.{Term}
use Rattle.jn_base.specs.declared.tree.Expr.{Expr}
use Rattle.jn_base.specs.declared.tree.Constraint.{Constraint}
use Rattle.jn_base.specs.declared.tree.Node.TheVariants as node
use Rattle.jn_base.specs.declared.tree.Program.{Program}
use Rattle.jn_base.specs.declared.types.Atom.{Atom as ShownAtom}
use Rattle.jn_base.specs.declared.types.Anchor.TheVariants.{Up}
use Rattle.jn_base.specs.declared.names.Role.TheVariants as role
use Rattle.jn_base.specs.declared.names.Var.{Var}
use Rattle.jn_base.specs.declared.refusal.Refusal.{Refusal}
use Rattle.jn_base.specs.declared.refusal.Rule.TheVariants as rule
use Rattle.jn_base.specs.Parts.{expr}
use Rattle.jn_base.specs.Paths.{Path}
use Rattle.jn_base.specs.Atoms.{atom_of}
use Rattle.jn_base.specs.Scopes.{Scope, bound}
use Rattle.jn_base.specs.Resolve.{Resolve, scope_at}
use Rattle.jn_code.specs.declared.instr.Instr.TheVariants as ins
use Rattle.jn_code.specs.declared.image.Shape.{Shape}
use Rattle.jn_code.specs.declared.image.Code.{Code}
use Rattle.jn_laws.specs.LawsOfWritten.{HeaderPath}
use Rattle.jn_laws.proofs.Terms.{header_path, case_path, term_case}
use Rattle.jn_sem.specs.NormalFunction.{normal_type}
use Rattle.jn_sem.specs.Terms.{spot_at, vars_at, SuperBound}
use Rattle.jn_sem.specs.Does.{Body, IsBody}
use Rattle.jn_rules.specs.Plans.{Pledge, target_type, IsBelow, OfTerm, OfBody, Mark, AtomMark, MemberMark, Plan, note, ask, then_do, wants, found_or}
use Rattle.jn_rules.specs.Questions.{Means, Finds, Gives, Notes}
use Rattle.jn_rules.specs.Headers.{Header, header_typed}
use Rattle.jn_rules.specs.Exprs.{Here, site_here, Typed, Passed, mismatch, in_method, of_name, of_class, put_in, type_passed, arg_passed, args_typed, replaced_paths, as_many, call_typed, result_gives, header_grants, constraints_granted, super_with, super_gives, super_typed, expr_types}
use Rattle.jn_rules.specs.Forms.{typed_args, typed_expr}
use Rattle.jn_rules.proofs.FormLaws.{forms_are}
use Rattle.jn_rules.proofs.PlanLaws.{then_noted, notes_give}
use Rattle.jn_agree.specs.declared.selectors.MethodSel.{MethodSel}
use Rattle.jn_agree.specs.Naming.{Naming}
use Rattle.jn_agree.specs.Rows.{IsShape, kind_of_type, result_kind}
use Rattle.jn_agree.specs.Places.{MethodOf, dropping}
use Rattle.jn_places.specs.ExprPlaces.{ArgsAt}
use Rattle.jn_lower.specs.declared.emitter.Emitter.{Emitter}
use Rattle.jn_lower.specs.declared.walk.Parts.{Parts}
use Rattle.jn_lower.specs.declared.walk.Walk.{Walk}
use Rattle.jn_lower.specs.declared.walk_super.Above.{Above}
use Rattle.jn_lower.specs.Cursors.{Ahead}
use Rattle.jn_lower.specs.Emitted.{Emitted, Adds}
use Rattle.jn_lower.specs.Forms.{Value}
use Rattle.jn_lower.specs.Called.{Args, SuperArgs}
use Rattle.jn_lower.specs.Selecting.{shape_of}
use Rattle.jn_lower.specs.Told.{IsCallee}
use Rattle.jn_lower.specs.Lowering.{PartsAre}
use Rattle.jn_lower.specs.Making.{bound_in, AboveFound, TuckedFor, AboveCalled, BareCalled}
use Rattle.jn_lower.specs.Walks.{ReadyIn, LowersValue, LowersArgs, LowersNodeAs}
use Rattle.jn_lower.proofs.Growing.{means}
use Rattle.jn_lower.proofs.Calling.{super_so, bare_super_so}
use Rattle.jn_lower.proofs.Heads.{header_silent}
use Rattle.jn_lower.proofs.Noting.{taken_noted, wants_noted, found_noted, grants_silent}
use Rattle.jn_lower.proofs.Taking.{term_ahead, member_ahead, ready_locals, ready_in, ready_typed, ready_tucked, known_here, known_there}
use Rattle.jn_lower.proofs.Seen.{named_low}
use Rattle.jn_lower.proofs.Chains.{is_it, regroup}
use Rattle.jn_lower.proofs.Behind.{settles, put_kept}
use Rattle.jn_lower.proofs.Passing.{no_args_done, one_arg_done}
use Rattle.jn_lower.proofs.Making.{no_items, callee_shape, one_header, method_there}

-- ---- what is noted

-- what the constraints of the called body ask notes nothing
granted_noted : (p : Program) (h : Here) (b : Body) (m : Named) (s : Scope) (ks : List Constraint) (go : Plan Typed)
    (ms : List Mark) (z : Typed) → Notes p (constraints_granted h b m s ks go) ms z → Notes p go ms z
granted_noted p h b m s [] go ms z g = g
granted_noted p h b m s (k ∷ ks) go ms z g =
    let t = taken_noted g.0 (λ (x : Pledge). then_do (grants x) (λ ok. asked ok)) ms z g.2 in
    let d = then_noted (grants t.given) (λ ok. asked ok) ms z t.then in
    let w = wants_noted d.first (of_name rule.E25 h m.at m.name) (constraints_granted h b m s ks go) d.after z d.then in
    let silent = grants_silent p h h.method.sharing s (normal_type s (target_type t.given.from)) t.given.to d.before d.first d.noted in
    subst (λ (l : List Mark). Notes p go l z)
    (sym (d.all ∙ ap (λ (l : List Mark). l ++ d.after) silent)) (granted_noted p h b m s ks go d.after z w.then)
  where
    grants : Pledge → Plan Bool
    grants x = header_grants h s (normal_type s (target_type x.from)) x.to

    asked : Bool → Plan Typed
    asked ok = wants ok (of_name rule.E25 h m.at m.name) (constraints_granted h b m s ks go)

record AboveNoted (p : Program) (h : Here) (u : Term) (m : Named) (es : List Expr) (sc : Scope) (z : Typed) (ms : List Mark)
    : Type 0 where
  atom : ShownAtom
  resolved : Resolve p (spot_at (site_here h) role.Super) (vars_at (site_here h)) u (Ok atom)
  body : Body
  is_body : IsBody p (bound sc (atom_of atom)) m.name body
  header : Header
  gave : Gives p (header_typed body) (Ok header)
  long : length header.vars ≡ length es
  passed : Passed
  before : List Mark
  after : List Mark
  args : Notes p (args_typed h (replaced_paths header.vars) header.vars (typed_args h es) (0 ∷ []) sc) before passed
  result : Notes p (result_gives header passed) after z
  all : ms ≡ AtomMark atom ∷ (MemberMark body.class ∷ (before ++ after))

above_noted : (p : Program) (h : Here) (pl : Place) (u : Term) (m : Named) (es : List Expr) (sc : Scope) (z : Typed)
    (ms : List Mark) → Notes p (expr_types h (expr pl (node.Super u m es)) sc) ms z → AboveNoted p h u m es sc z ms
above_noted p h pl u m es sc z ms noted =
    let given = typed_args h es in
    let asked = subst (λ (q : Plan Typed). Notes p q ms z) ((forms_are.exprs h pl sc).super u m es) noted in
    let k = taken_noted asked.0 (super_typed h u m given sc) ms z asked.2 in
    let a = k.given in
    let B = bound sc (atom_of a) in
    let lacks = of_class rule.E16 B m m.name in
    let o = wants_noted k.then.2.0 (mismatch h u.at) (ask (OfBody B m.name) (found_or lacks (super_gives h m given sc)))
    k.then.0 z k.then.2.2 in
    let f = found_noted o.then.0 lacks (super_gives h m given sc) k.then.0 z o.then.2 in
    let b = f.given in
    let hd = then_noted (header_typed b) (super_with h m given sc b) k.then.0 z f.then in
    let c = hd.first in
    let w = wants_noted (as_many c given) (in_method rule.E17 h m.at)
    (note (MemberMark b.class) (then_do (call_typed h c given (record { path = 0; scope = sc })) (λ x.
    constraints_granted h b m x.scope b.method.sharing (result_gives c x)))) hd.after z hd.then in
    let d = then_noted (call_typed h c given (record { path = 0; scope = sc }))
    (λ x. constraints_granted h b m x.scope b.method.sharing (result_gives c x)) w.then.0 z w.then.2 in
    record {
      atom = a;
      resolved = subst (λ (q : Result ShownAtom Refusal). Means p (OfTerm role.Super (site_here h) u) q) k.is asked.1;
      body = b;
      is_body = subst (λ (q : Option Body). Finds (IsBody p B m.name) q) f.is o.then.1;
      header = c;
      gave = notes_give p (header_typed b) hd.before c hd.noted;
      long = eqb-true (length c.vars) (length given) w.test ∙ length-map es (typed_expr h);
      passed = d.first;
      before = d.before;
      after = d.after;
      args = d.noted;
      result = granted_noted p h b m d.first.scope b.method.sharing (result_gives c d.first) d.after z d.then;
      all = k.then.1 ∙ ap (λ (l : List Mark). AtomMark a ∷ l)
          (hd.all ∙ ap (λ (l : List Mark). l ++ hd.after) (header_silent p b hd.before c hd.noted)
          ∙ w.then.1 ∙ ap (λ (l : List Mark). MemberMark b.class ∷ l) d.all);
    }

-- ---- what is called

body_same : {b c : Body} → ◌≡◌ {A = Option Body} (Some b) (Some c) → b ≡ c
body_same e = cc

path_same : {P Q : Path} → ◌≡◌ {A = Option Path} (Some P) (Some Q) → P ≡ Q
path_same e = cc

-- at the marks that are noted of it
record Called (g : Parts) (n : Naming) (h : Here) (u : Term) (m : Named) (sc : Scope) (x : Above) (c : ShownAtom)
    (count : ℕ) (shape : Shape) : Type 0 where
  bound_is : SuperBound g.p.now (site_here h) u (bound sc (atom_of c))
  class : slice_get n.classes x.class ≡ Some (bound sc (atom_of c))
  shaped : (b : Body) (k : Header) → IsBody g.p.now (bound sc (atom_of c)) m.name b → Gives g.p.now (header_typed b) (Ok k)
      → IsShape k.vars k.result shape
  selects : MethodOf n m.name x.selector shape
  many : length shape.params ≡ count
  kind : x.kind ≡ shape.result
  first : (i : ℕ) (ks : List ℕ) → shape.params ≡ i ∷ ks → x.first ≡ i

record Found (g : Parts) (n : Naming) (h : Here) (u : Term) (m : Named) (es : List Expr) (sc : Scope) (x : Above) (z : Typed)
    (ms rest : List Mark) (w1 : Walk) (c : AboveNoted g.p.now h u m es sc z ms) : Type 0 where
  shape : Shape
  called : Called g n h u m sc x c.atom (length es) shape
  ahead : Ahead (c.before ++ (c.after ++ rest)) w1.marks

-- the atom of a `super` term hangs on no fresh path
super_path : (p : Program) (h : Here) (u : Term) (a : ShownAtom)
    → Resolve p (spot_at (site_here h) role.Super) (vars_at (site_here h)) u (Ok a) → (q k : ℕ)
    → (atom_of a).anchor ≡ Up q k → HeaderPath h.vars q
super_path p h u a resolved q k i =
    let sp = spot_at (site_here h) role.Super in
    let vs = vars_at (site_here h) in
    header_path role.Super h.vars q (case_path sp vs u.head a.anchor q k (term_case p sp vs u a resolved).anchor i)

found : (g : Parts) (n : Naming) (scratch : ℕ) (h : Here) (u : Term) (m : Named) (es : List Expr) (sc : Scope) (x : Above)
    (z : Typed) (ms rest : List Mark) (w0 w1 : Walk) → PartsAre g.p.now g.t.now g.slots.now g.names.now n
    → ReadyIn g scratch h sc w0 → Ahead (ms ++ rest) w0.marks → AboveFound g m.name (length es) x w0 w1
    → (c : AboveNoted g.p.now h u m es sc z ms) → Found g n h u m es sc x z ms rest w1 c
found g n scratch h u m es sc x z ms rest w0 w1 parts ready ahead f c =
    let one = term_ahead f.atom c.atom (MemberMark c.body.class ∷ (c.before ++ (c.after ++ rest))) w0.marks f.mid f.term
    (subst (λ (l : List Mark). Ahead l w0.marks)
    (regroup ms (AtomMark c.atom ∷ (MemberMark c.body.class ∷ c.before)) c.after rest c.all) ahead) in
    let two = member_ahead f.path c.body.class (c.before ++ (c.after ++ rest)) f.mid w1.marks f.member one.left in
    let callee = f.is c.body.method (method_there g.p.now c.body f.path m.name two.same c.is_body.at) in
    let B = bound sc (atom_of c.atom) in
    let s = scope_at (spot_at (site_here h) role.Super) (vars_at (site_here h)) in
    let class : slice_get n.classes x.class ≡ Some (bound_in g c.atom) =
    f.class n parts.classes ∙ ap (λ (a : ShownAtom). Some (bound_in g a)) one.same in
    let here : slice_get n.classes x.class ≡ Some B =
    class ∙ ap (λ (R : Path). Some R) (known_here scratch h sc w0 ready (atom_of c.atom) (super_path g.p.now h u c.atom c.resolved)) in
    let there : slice_get n.classes x.class ≡ Some (bound s (atom_of c.atom)) =
    class ∙ ap (λ (R : Path). Some R) (known_there scratch h sc w0 ready (atom_of c.atom)) in
    let shape = shape_of f.callee.params.items f.callee.kind in
    record {
      shape = shape;
      called = record {
        bound_is = record { given = c.atom; resolved = c.resolved; is = path_same (sym here ∙ there) };
        class = here;
        shaped = λ b k is_body gives.
            let eb : c.body ≡ b = body_same (parts.one (OfBody B m.name) (Some c.body) (Some b) c.is_body is_body) in
            callee_shape g.p.now b k g.names.now.methods m.name f.callee gives
            (subst (λ (y : Body). IsCallee g.names.now.methods m.name y.method f.callee) eb callee);
        selects = record {
          at = ap (λ (i : ℕ). slice_get n.methods i) f.selector
              ∙ ap (λ (l : List MethodSel). slice_get l f.callee.selector) parts.methods ∙ callee.at;
        };
        many = f.many;
        kind = f.kind;
        first = f.first;
      };
      ahead = two.left;
    }

-- the kind of what it gives
gives_kind : (g : Parts) (n : Naming) (h : Here) (u : Term) (m : Named) (es : List Expr) (sc : Scope) (x : Above) (z : Typed)
    (ms rest : List Mark) (w1 : Walk) (c : AboveNoted g.p.now h u m es sc z ms) (f : Found g n h u m es sc x z ms rest w1 c)
    → x.kind ≡ result_kind (put_in c.passed.scope (replaced_paths c.header.vars) c.passed.paths c.header.result)
gives_kind g n h u m es sc x z ms rest w1 c f =
    f.called.kind ∙ (f.called.shaped c.body c.header c.is_body c.gave).result
    ∙ sym (put_kept c.passed.scope _ c.header.result)

-- ---- without arguments

no_more : (n : ℕ) → suc n ≡ 0 → ⊥
no_more n e = cc

none_passed : (p : Program) (h : Here) (from : List ℕ) (xs : List Var) (to : List ℕ) (sc : Scope) (ms : List Mark)
    (y : Passed) → Notes p (args_typed h from xs [] to sc) ms y → ms ≡ []
none_passed p h from [] to sc ms y g = g.0
none_passed p h from (x ∷ xs) to sc ms y g = g.0

pub bare_done : (g : Parts) (u : Term) (m : Named) (keeps : Bool) (x : Above) (w0 w1 w2 : Walk)
    → AboveFound g m.name 0 x w0 w1 → BareCalled x keeps w1 w2 → LowersNodeAs g keeps (node.Super u m []) w0 w2
bare_done g u m keeps x w0 w1 w2 above made pl n scratch h sc parts = record {
  done = λ ms rest z ready noted ahead.
      let c = above_noted g.p.now h pl u m [] sc z ms noted in
      let f = found g n scratch h u m [] sc x z ms rest w0 w1 parts ready ahead above c in
      let none = none_passed g.p.now h (replaced_paths c.header.vars) c.header.vars (0 ∷ []) sc c.before c.passed c.args in
      let t = put_in c.passed.scope (replaced_paths c.header.vars) c.passed.paths c.header.result in
      let s = settles g.p.now t c.passed.scope x.kind z c.after rest made.mid w2 c.result
      (gives_kind g n h u m [] sc x z ms rest w1 c f) made.settled
      (subst (Ahead (c.after ++ rest)) (sym made.marks)
      (subst (λ (l : List Mark). Ahead (l ++ (c.after ++ rest)) w1.marks) none f.ahead)) in
      record {
        left = s.so.left;
        emitted = subst (λ (o : Emitter). Emitted (Value g.p.now n scratch h sc keeps (expr pl (node.Super u m []))) w0.out o) (sym s.so.out)
            (bare_super_so g.p.now n scratch h sc keeps pl u m (bound sc (atom_of c.atom)) x.class x.selector f.shape w0.out made.mid.out
            f.called.bound_is f.called.shaped f.called.class f.called.selects f.called.many
            (subst (λ (o : Emitter). Adds (ins.Load 0 ∷ ins.Cls x.class ∷ ins.Callat x.selector ∷ dropping keeps f.shape.result) o made.mid.out)
            above.out
            (subst (λ (i : ℕ). Adds (ins.Load 0 ∷ ins.Cls x.class ∷ ins.Callat x.selector ∷ dropping keeps i) w1.out made.mid.out)
            f.called.kind made.adds)));
        kind = s.so.kind ∙ ap (λ (v : Typed). kind_of_type v.ty) (sym s.typed);
      };
}

-- ---- with arguments

record Split (xs : List ℕ) (n : ℕ) : Type 0 where
  one : ℕ
  others : List ℕ
  all : xs ≡ one ∷ others
  long : length others ≡ n

length_suc : (m n : ℕ) → suc m ≡ suc n → m ≡ n
length_suc m n e = cc

split : (xs : List ℕ) (n : ℕ) → length xs ≡ suc n → Split xs n
split [] n e = absurd (no_more n (sym e))
split (x ∷ xs) n e = record { one = x; others = xs; all = refl; long = length_suc (length xs) n e }

record SplitVars (xs : List Var) (n : ℕ) : Type 0 where
  one : Var
  others : List Var
  all : xs ≡ one ∷ others
  long : length others ≡ n

split_vars : (xs : List Var) (n : ℕ) → length xs ≡ suc n → SplitVars xs n
split_vars [] n e = absurd (no_more n (sym e))
split_vars (x ∷ xs) n e = record { one = x; others = xs; all = refl; long = length_suc (length xs) n e }

var_same : {x y : Var} {xs ys : List Var} → x ∷ xs ≡ y ∷ ys → x ≡ y
var_same e = cc

vars_same : {x y : Var} {xs ys : List Var} → x ∷ xs ≡ y ∷ ys → xs ≡ ys
vars_same e = cc

-- the further arguments stand as they are asked for whatever is found
others_stand : (g : Parts) (n : Naming) (scratch : ℕ) (h : Here) (sc : Scope) (m : Named) (B : Path) (e : Expr)
    (es : List Expr) → PartsAre g.p.now g.t.now g.slots.now g.names.now n → (b : Body) (k : Header) (v : Var) (vs : List Var)
    (y : Typed) (ys : List Mark) → IsBody g.p.now B m.name b → Gives g.p.now (header_typed b) (Ok k) → k.vars ≡ v ∷ vs
    → Notes g.p.now (expr_types h e sc) ys y → (q : Code) (s t : ℕ)
    → ArgsAt g.p.now n scratch q h (replaced_paths k.vars) vs es
    (0 ∷ (arg_passed (replaced_paths k.vars) (0 ∷ []) v y).path ∷ []) (arg_passed (replaced_paths k.vars) (0 ∷ []) v y).scope s t
    → SuperArgs g.p.now n scratch h sc m.name B e es q s t
others_stand g n scratch h sc m B e es parts b k v vs y ys is_body gave vars noted q s t r b2 k2 x xs y2 body2 gave2 vars2 given =
    let eb : b ≡ b2 = body_same (parts.one (OfBody B m.name) (Some b) (Some b2) is_body body2) in
    let ek = one_header g n parts b2 k k2 (subst (λ (c : Body). Gives g.p.now (header_typed c) (Ok k)) eb gave) gave2 in
    let ev : v ∷ vs ≡ x ∷ xs = sym vars ∙ ap (λ (c : Header). c.vars) ek ∙ vars2 in
    let ey = is_it g n parts (expr_types h e sc) ys y y2 noted given in
    subst (λ (c : Header). Stand c x xs y2) ek
    (subst (λ (us : List Var). Stand k x us y2) (vars_same ev)
    (subst (λ (c : Var). Stand k c vs y2) (var_same ev)
    (subst (λ (c : Typed). Stand k v vs c) ey r)))
  where
    Stand : Header → Var → List Var → Typed → Type 0
    Stand c x xs y = ArgsAt g.p.now n scratch q h (replaced_paths c.vars) xs es
        (0 ∷ (arg_passed (replaced_paths c.vars) (0 ∷ []) x y).path ∷ []) (arg_passed (replaced_paths c.vars) (0 ∷ []) x y).scope s t

pub above_done : (g : Parts) (u : Term) (m : Named) (e : Expr) (es : List Expr) (keeps : Bool) (x : Above)
    (w0 w1 w2 w3 w4 w5 : Walk) → AboveFound g m.name (suc (length es)) x w0 w1 → LowersValue g e w1 w2 → TuckedFor x w2 w3
    → LowersArgs g es w3 w4 → AboveCalled x keeps w4 w5 → LowersNodeAs g keeps (node.Super u m (e ∷ es)) w0 w5
above_done g u m e es keeps x w0 w1 w2 w3 w4 w5 above value tucked args made pl n scratch h sc parts = record {
  done = λ ms rest z ready noted ahead.
      let c = above_noted g.p.now h pl u m (e ∷ es) sc z ms noted in
      let k = c.header in
      let from = replaced_paths k.vars in
      let f = found g n scratch h u m (e ∷ es) sc x z ms rest w0 w1 parts ready ahead above c in
      let vs = split_vars k.vars (length es) c.long in
      let v = vs.one in
      let B = bound sc (atom_of c.atom) in
      let y = then_noted (expr_types h e sc)
      (λ t. ask (IsBelow t.scope t.ty (put_in t.scope from (0 ∷ []) v.ty)) (λ ok. wants ok (mismatch h e.at) (more from v vs.others t)))
      c.before c.passed
      (subst (λ (us : List Var). Notes g.p.now (args_typed h from us (typed_args h (e ∷ es)) (0 ∷ []) sc) c.before c.passed) vs.all c.args) in
      let w = wants_noted y.then.0 (mismatch h e.at) (more from v vs.others y.first) y.after c.passed y.then.2 in
      let P = arg_passed from (0 ∷ []) v y.first in
      let ready1 = ready_locals scratch h sc w0 w1 (ap (λ (o : Emitter). o.locals) above.out) ready in
      let d = (value n scratch h sc parts).done y.before (y.after ++ (c.after ++ rest)) y.first ready1 y.noted
      (subst (λ (l : List Mark). Ahead l w1.marks) (regroup c.before y.before y.after (c.after ++ rest) y.all) f.ahead) in
      let ready2 = ready_typed g.p.now scratch h sc e y.before y.first w1 w2 y.noted d.emitted.grown ready1 in
      let ready3 = ready_in scratch h y.first.scope P.scope w3
      (named_low (type_passed y.first.ty (put_in y.first.scope from (0 ∷ []) v.ty)) y.first.path y.first.scope)
      (ready_tucked scratch h y.first.scope x.first w2 w3 tucked.tucks ready2) in
      let a = (args n scratch h parts).done from vs.others (0 ∷ P.path ∷ []) P.scope c.passed y.after (c.after ++ rest)
      vs.long ready3 w.then (subst (Ahead (y.after ++ (c.after ++ rest))) (sym tucked.marks) d.left) in
      let t = put_in c.passed.scope from c.passed.paths k.result in
      let s = settles g.p.now t c.passed.scope x.kind z c.after rest made.mid w5 c.result
      (gives_kind g n h u m (e ∷ es) sc x z ms rest w1 c f) made.settled
      (subst (Ahead (c.after ++ rest)) (sym made.marks) a.left) in
      let kinds = split f.shape.params (length es) f.called.many in
      record {
        left = s.so.left;
        emitted = subst (λ (o : Emitter). Emitted (Value g.p.now n scratch h sc keeps (expr pl (node.Super u m (e ∷ es)))) w0.out o) (sym s.so.out)
            (super_so g.p.now n scratch h sc keeps pl u m e es B x.first x.class x.selector kinds.others f.shape
            w0.out w2.out w3.out w4.out made.mid.out
            (subst (λ (o : Emitter). Emitted (Value g.p.now n scratch h sc true e) o w2.out) above.out d.emitted)
            ready2.above tucked.tucks f.called.bound_is
            (means (Args g.p.now n scratch h from vs.others es (0 ∷ P.path ∷ []) P.scope)
            (SuperArgs g.p.now n scratch h sc m.name B e es) w3.out w4.out
            (λ q i j r. others_stand g n scratch h sc m B e es parts c.body k v vs.others y.first y.before c.is_body c.gave vs.all y.noted q i j r)
            a.emitted)
            f.called.shaped f.called.class f.called.selects
            (kinds.all ∙ ap (λ (i : ℕ). i ∷ kinds.others) (sym (f.called.first kinds.one kinds.others kinds.all))) kinds.long
            (subst (λ (i : ℕ). Adds (ins.Cls x.class ∷ ins.Callat x.selector ∷ dropping keeps i) w4.out made.mid.out)
            f.called.kind made.adds));
        kind = s.so.kind ∙ ap (λ (v : Typed). kind_of_type v.ty) (sym s.typed);
      };
}
  where
    more : List ℕ → Var → List Var → Typed → Plan Passed
    more from v us t = args_typed h from us (typed_args h es) (0 ∷ (arg_passed from (0 ∷ []) v t).path ∷ [])
        (arg_passed from (0 ∷ []) v t).scope

-- of a list as it stands
pub above_split : (g : Parts) (u : Term) (m : Named) (es : List Expr) (d : Expr) (keeps : Bool) (x : Above)
    (w0 w1 w2 w3 w4 w5 : Walk) → 0 < length es → AboveFound g m.name (length es) x w0 w1
    → LowersValue g (get_or es 0 d) w1 w2 → TuckedFor x w2 w3 → LowersArgs g (drop 1 es) w3 w4 → AboveCalled x keeps w4 w5
    → LowersNodeAs g keeps (node.Super u m es) w0 w5
above_split g u m es d keeps x w0 w1 w2 w3 w4 w5 lt above value tucked args made =
    let e : get_or es 0 d ∷ drop 1 es ≡ es = sym (drop-cons es 0 d lt) in
    subst (λ (l : List Expr). LowersNodeAs g keeps (node.Super u m l) w0 w5) e
    (above_done g u m (get_or es 0 d) (drop 1 es) keeps x w0 w1 w2 w3 w4 w5
    (subst (λ (k : ℕ). AboveFound g m.name k x w0 w1) (ap (λ (l : List Expr). length l) (sym e)) above) value tucked args made)

pub bare_split : (g : Parts) (u : Term) (m : Named) (es : List Expr) (keeps : Bool) (x : Above) (w0 w1 w2 : Walk)
    → length es ≡ 0 → AboveFound g m.name (length es) x w0 w1 → BareCalled x keeps w1 w2
    → LowersNodeAs g keeps (node.Super u m es) w0 w2
bare_split g u m es keeps x w0 w1 w2 empty above made =
    subst (λ (l : List Expr). LowersNodeAs g keeps (node.Super u m l) w0 w2) (sym (no_items es empty))
    (bare_done g u m keeps x w0 w1 w2 (subst (λ (k : ℕ). AboveFound g m.name k x w0 w1) empty above) made)

-- ---- the arguments behind the first one, one by one

pub further_on : (g : Parts) (es : List Expr) (i : ℕ) (d : Expr) (w0 w1 w2 : Walk)
    → ((new : Walk) → LowersArgs g (drop i es) w1 new → LowersArgs g (drop 1 es) w0 new) → i < length es
    → LowersValue g (get_or es i d) w1 w2 → (new : Walk) → LowersArgs g (drop (i + 1) es) w2 new
    → LowersArgs g (drop 1 es) w0 new
further_on g es i d w0 w1 w2 so lt one new more =
    so new (subst (λ (l : List Expr). LowersArgs g l w1 new)
    (sym (drop-cons es i d lt ∙ ap (λ (n : ℕ). get_or es i d ∷ drop n es) (sym (add-one i))))
    (one_arg_done g (get_or es i d) (drop (i + 1) es) w1 w2 new one more))

pub further_over : (g : Parts) (es : List Expr) (i : ℕ) (w0 w1 : Walk)
    → ((new : Walk) → LowersArgs g (drop i es) w1 new → LowersArgs g (drop 1 es) w0 new) → length es ≤ i
    → LowersArgs g (drop 1 es) w0 w1
further_over g es i w0 w1 so le =
    so w1 (subst (λ (l : List Expr). LowersArgs g l w1 w1) (sym (drop_all i es le)) (no_args_done g w1))
