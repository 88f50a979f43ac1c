-- `super`, bare and with arguments: `this` comes below the first one once that is had.
use Rattle.std.proofs.Common.{◌≡◌, ◌≤◌, ℕ, suc, ◌+◌, ◌*◌, List, [], ◌∷◌, ◌++◌, length, Bool, true, false, Some, refl, sym, ap, pred, ◌∙◌, subst, arith}
use Rattle.std.specs.Prelude.{slice_get, Result, Ok, Err}
use Rattle.jn_base.specs.declared.tree.Named.{Named}
use Rattle.jn_base.specs.declared.tree.Place.{Place}
use Rattle.jn_base.specs.declared.tree.Term.{Term}
use Rattle.jn_base.specs.declared.tree.Expr.{Expr}
use Rattle.jn_base.specs.declared.tree.Node.TheVariants as node
use Rattle.jn_base.specs.declared.tree.Program.{Program}
use Rattle.jn_base.specs.declared.types.Ty.{Ty}
use Rattle.jn_base.specs.declared.names.Var.{Var}
use Rattle.jn_base.specs.declared.refusal.Refusal.{Refusal}
use Rattle.jn_base.specs.Parts.{expr}
use Rattle.jn_base.specs.Paths.{Path}
use Rattle.jn_base.specs.Atoms.{atom_of}
use Rattle.jn_base.specs.Scopes.{Scope, bound}
use Rattle.jn_base.specs.Fits.{BindsFit}
use Rattle.jn_code.specs.declared.instr.Instr.TheVariants as ins
use Rattle.jn_code.specs.declared.image.Image.{Image}
use Rattle.jn_code.specs.declared.image.Code.{Code}
use Rattle.jn_code.specs.declared.image.Shape.{Shape}
use Rattle.jn_sem.specs.Acts.{Todo, todo, Super}
use Rattle.jn_sem.specs.Below.{Below}
use Rattle.jn_sem.specs.LawsOfActs.{args_acts}
use Rattle.jn_sem.specs.LawsOfSlots.{HeadNamed}
use Rattle.jn_sem.specs.Normal.{swapped}
use Rattle.jn_sem.specs.NormalFunction.{subst_type}
use Rattle.jn_sem.specs.State.{Frame}
use Rattle.jn_sem.specs.Does.{Body, IsBody}
use Rattle.jn_sem.specs.Terms.{SuperBound}
use Rattle.jn_sem.proofs.ActLaws.{acts_are}
use Rattle.jn_sem.proofs.FindingLaws.{finds_one}
use Rattle.jn_laws.specs.LawsOfFits.{AsDeep}
use Rattle.jn_rules.specs.Headers.{Header}
use Rattle.jn_rules.specs.Plans.{Plan, IsBelow, ask, wants}
use Rattle.jn_rules.specs.Questions.{Answers, Gives}
use Rattle.jn_rules.specs.Exprs.{Here, site_here, Typed, Passed, plain, put_in, arg_passed, replaced_paths, mismatch, args_typed, expr_types}
use Rattle.jn_rules.specs.Forms.{typed_args}
use Rattle.jn_rules.specs.Stmts.{In}
use Rattle.jn_rules.proofs.PlanLaws.{then_came}
use Rattle.jn_rule_laws.specs.LawsOfHeaders.{IsHeader}
use Rattle.jn_rule_laws.specs.LawsOfForms.{PutFor, header_scope, ParamKnown, none as put_none}
use Rattle.jn_sound.specs.KnownScopes.{ScopeKnown}
use Rattle.jn_sound.specs.Takes.{Opd, opd, Typing, typing, ArgsFit, one, with_result}
use Rattle.jn_sound.proofs.Calls.{void_subst}
use Rattle.jn_sound.proofs.Laws.{Laws}
use Rattle.jn_sound.specs.Tree.{ExprKnown, Fresher, OpsBound, ProgramKnown}
use Rattle.jn_sound.proofs.Scopes.{grown_of, fresher_joined, deep_grown, put_grown, put_behind, ops_grown, ops_with, some_bound}
use Rattle.jn_sound.proofs.RuledForms.{ArgMoved, arg_moved, not_void_below}
use Rattle.jn_sound.proofs.CallsFit.{not_void}
use Rattle.jn_agree.specs.Naming.{Naming}
use Rattle.jn_agree.specs.Rows.{IsShape, result_kind}
use Rattle.jn_agree.specs.Places.{Run, dropping, tuck, MethodOf}
use Rattle.jn_node_laws.specs.Cont.{Layout, of_frame, of_this, with_value}
use Rattle.jn_node_laws.specs.Cont.{with_result as laid_with}
use Rattle.jn_node_laws.specs.Facts.{ScratchLocal, CallsBody}
use Rattle.jn_node_laws.specs.LawsOfLaidNodes.{LaidNodesOf}
use Rattle.jn_place_laws.specs.Contexts.{Context, context, Stood, known, in_body, site_at}
use Rattle.jn_place_laws.specs.LawsOfContexts.{ActLeads, ActsLead, FactsHold}
use Rattle.jn_place_laws.proofs.Calls.{callee_shape}
use Rattle.jn_place_laws.proofs.Going.{GoOn, left, Kept, onto, framed, ExprGoes, ArgsGo, at_vars}
use Rattle.jn_place_laws.proofs.Steps.{less, more, moved, as_todo, as_typed, as_laid}
use Rattle.jn_place_laws.proofs.Operands.{takes_framed, laid_result, result_same, left_of_call, not_kept_void}
use Rattle.jn_place_laws.proofs.Args.{none_go, arg_deep}
use Rattle.jn_place_laws.proofs.SuperTerms.{SuperTyped, class, bound_is, callee, is_callee, calls, deep, super_takes}

passed_same : (a b : Passed) → (let x : Result Passed Refusal = Ok a in let y : Result Passed Refusal = Ok b in x ≡ y)
    → a ≡ b
passed_same a b e = cc

no_vars : (xs : List Var) → length xs ≡ 0 → xs ≡ []
no_vars [] e = refl
no_vars (x ∷ xs) e = cc

-- a list of some length has a first one
record FirstVar (xs : List Var) (k : ℕ) : Type 0 where
  one : Var
  rest : List Var
  is : xs ≡ one ∷ rest
  many : length rest ≡ k

first_var : (xs : List Var) (k : ℕ) → length xs ≡ suc k → FirstVar xs k
first_var [] k e = cc
first_var (x ∷ xs) k e = record { one = x; rest = xs; is = refl; many = ap pred e }

module _ (p : Program) (its : ProgramKnown p) (laws : Laws p) (i : Image) (n : Naming) (m : ℕ) (code : ℕ) (it : Code)
    (there : slice_get i.codes code ≡ Some it) (r : Frame) (hd : Header)
    (laid : LaidNodesOf p i n m (known p) Context (Stood p r hd) code it r) (leads : ActsLead p i n m code it r hd)
    (vs : List Var) (facts : (s : Scope) → FactsHold p i n m code it r hd vs s) where
  abbrev B : In
  B = in_body r hd

  abbrev h : Here
  h = at_vars p i n m code it r hd vs

  abbrev G : Layout → ℕ → Typing → List Todo → ℕ → ℕ → Type 0
  G l b t k s w = GoOn p i n m code it r hd l b vs t k s w

  answered : (e : Expr) (ok : Bool) (T : Type 0) (go : Plan Passed) (passed : Passed) → Answers T ok →
      Gives p (wants ok (mismatch h e.at) go) (Ok passed) → T × Gives p go (Ok passed)
  answered e true T go passed a g = (a, g)
  answered e false T go passed a g = absurd (no g) where
    no : (let x : Result Passed Refusal = Ok passed in let y : Result Passed Refusal = Err (mismatch h e.at) in x ≡ y)
        → ⊥
    no e = cc

  -- what a call gives, as a value is left
  back : (keeps : Bool) (k : ℕ) (u raw : Ty) (f : ℕ → ℕ) (sc : Scope) (l : Layout) (ops : List Opd) (b : ℕ)
      (j : List Todo) (t v w : ℕ) → u ≡ subst_type sc f raw → k ≡ result_kind raw → Kept keeps (plain u sc) → v ≤ w
      → G (with_value keeps l) b (typing sc (left keeps (plain u sc) ops)) j t v
      → G (laid_with keeps k l) b (typing sc (with_result keeps u ops)) j t w
  back keeps k u raw f sc l ops b j t v w put is kept le g =
      as_laid p i n m code it there r hd (laid_with keeps k l) (with_value keeps l) b vs
      (typing sc (with_result keeps u ops)) j t w
      (laid_result keeps u k l kept (is ∙ result_same sc f raw ∙ ap (λ (z : Ty). result_kind z) (sym put)))
      (as_typed p i n m code it there r hd (with_value keeps l) b vs (typing sc (with_result keeps u ops))
      (typing sc (left keeps (plain u sc) ops)) j t w
      (ap (λ (os : List Opd). typing sc os) (sym (left_of_call keeps u sc ops kept)))
      (more p i n m code it there r hd (with_value keeps l) b vs (typing sc (left keeps (plain u sc) ops)) j t v w le g))

  module _ (sc : Scope) (good : ScopeKnown p (at_vars p i n m code it r hd vs) sc) (u : Term) (f : Named) (es : List Expr)
      (y : Typed) (head : HeadNamed u.head) (w : SuperTyped p (at_vars p i n m code it r hd vs) sc u f es y) where
    -- the arguments: operands lie as `lay` says behind them, and some instructions are left
    record Passing (lay : Layout → Layout) (extra s t : ℕ) : Type 0 where
      args : List Opd
      all : List ℕ
      count : length args ≡ length es
      is : w.passed.paths ≡ 0 ∷ all
      grown : Fresher sc w.passed.scope
      known : ScopeKnown p (at_vars p i n m code it r hd vs) w.passed.scope
      put : PutFor (header_scope w.body w.header) w.passed.scope w.header.vars all
      fit : ArgsFit w.passed.scope (replaced_paths w.header.vars) (0 ∷ all) w.header.vars args all
      go : (l : Layout) (b : ℕ) (k : List Todo) (v : ℕ) (ops : List Opd) → OpsBound sc ops
          → G (lay l) b (typing w.passed.scope (onto args ops)) k t (extra + v)
          → G l b (typing sc ops) (args_acts (length vs) es k) s v

    same_bound : (C : Path) → SuperBound p (site_here (at_vars p i n m code it r hd vs)) u C
        → bound sc (atom_of w.a) ≡ C
    same_bound C is = (finds_one p).super_bound (site_here h) u (bound sc (atom_of w.a)) C
        (bound_is p B vs its sc good u f es y head w) is

    -- the body of the name has the selector's shape
    shaped : (C : Path) (shape : Shape) → SuperBound p (site_here (at_vars p i n m code it r hd vs)) u C
        → ((d : Body) (c : Header) → IsBody p C f.name d → IsHeader p d c → IsShape c.vars c.result shape)
        → IsShape w.header.vars w.header.result shape
        × ((b : Body) → IsBody p C f.name b → CallsBody p b shape)
    shaped C shape is shapes =
        let e = same_bound C is in
        let k = shapes w.body w.header (subst (λ (z : Path). IsBody p z f.name w.body) e w.is_body) w.is_header in (
          k,
          λ b ib. callee_shape p laws f.name (callee p B vs its sc good u f es y head w) shape
              (class p B vs its sc good u f es y head w) (is_callee p B vs its sc good u f es y head w) k b
              (subst (λ (z : Path). IsBody p z f.name b) (sym e) ib),
        )

    -- by the node of the act
    whole : (lay : Layout → Layout) (extra : ℕ) (keeps : Bool) (pl : Place) (shape : Shape) (s t o : ℕ)
        → Passing lay extra s t → IsShape w.header.vars w.header.result shape
        → ((l : Layout) (b : ℕ) (k : List Todo) (v : ℕ) (from to : Typing)
        → ActLeads p i n m code it r hd vs (Super u f.name (length es) keeps) k (context vs from) (context vs to)
        → G (laid_with keeps shape.result l) b to k o (18 + v)
        → G (lay l) (suc b) from (todo (length vs) (Super u f.name (length es) keeps) ∷ k) t (extra + v))
        → ExprGoes p i n m code it r hd vs sc keeps (expr pl (node.Super u f es)) y s o
    whole lay extra keeps pl shape s t o a is_shape by =
        subst (λ (z : Typed). ExprGoes p i n m code it r hd vs sc keeps (expr pl (node.Super u f es)) z s o)
        (sym (w.is ∙ ap (λ (ps : List ℕ).
        plain (put_in w.passed.scope (replaced_paths w.header.vars) ps w.header.result) w.passed.scope) a.is))
        (λ kept l b k v ops ob g.
        as_todo p i n m code it there r hd l b vs (typing sc ops) _ _ s v
        ((acts_are.exprs pl keeps (length vs) k).super u f es)
        (a.go l b (todo (length vs) (Super u f.name (length es) keeps) ∷ k) v ops ob
        (less p i n m code it there r hd (lay l) b vs (typing w.passed.scope (onto a.args ops))
        (todo (length vs) (Super u f.name (length es) keeps) ∷ k) t (extra + v)
        (by l b k v (typing w.passed.scope (onto a.args ops))
        (typing w.passed.scope (with_result keeps result ops))
        (leads.acts vs vs (Super u f.name (length es) keeps) k (typing w.passed.scope (onto a.args ops))
        (typing w.passed.scope (with_result keeps result ops))
        (super_takes p B vs its sc good u f es y head w a.args a.all a.grown a.known a.put keeps ops a.count a.fit
        (λ e. not_kept_void keeps (plain result w.passed.scope) kept
        (sym (void_subst w.passed.scope _ w.header.result) ∙ e))))
        (back keeps shape.result result w.header.result (swapped (replaced_paths w.header.vars) (0 ∷ a.all))
        w.passed.scope l ops b k o (5 + v) (18 + v) refl is_shape.result kept (omega arith) g))))) where
          result : Ty
          result = put_in w.passed.scope (replaced_paths w.header.vars) (0 ∷ a.all) w.header.result

  -- ---- bare

  module _ (sc : Scope) (good : ScopeKnown p (at_vars p i n m code it r hd vs) sc) (u : Term) (f : Named) (y : Typed)
      (head : HeadNamed u.head) (w : SuperTyped p (at_vars p i n m code it r hd vs) sc u f [] y) where
    nothing_passed : (s : ℕ) → Passing sc good u f [] y head w (λ l. l) 0 s s
    nothing_passed s = record {
      args = none.args;
      all = none.all;
      count = none.count;
      is = none.is;
      grown = none.grown;
      known = none.known;
      put = none.put;
      fit = subst (λ (xs : List Var). ArgsFit w.passed.scope (replaced_paths w.header.vars) (0 ∷ none.all) xs none.args
          none.all) (sym empty)
          (subst (λ (qs : List ℕ). ArgsFit w.passed.scope (replaced_paths w.header.vars) (0 ∷ none.all) [] none.args qs)
          (sym none.split) none.fit);
      go = λ l b k v ops ob g. none.go l b k v ops ob g;
    } where
      empty : w.header.vars ≡ []
      empty = no_vars w.header.vars w.long

      end : w.passed ≡ record { paths = 0 ∷ []; scope = sc }
      end = passed_same w.passed (record { paths = 0 ∷ []; scope = sc })
          (subst (λ (xs : List Var). Gives p (args_typed h (replaced_paths w.header.vars) xs (typed_args h []) (0 ∷ []) sc)
          (Ok w.passed)) empty w.args)

      none : ArgsGo p i n m code it r hd vs w.body w.header [] [] sc 0 [] w.passed s s
      none = none_go p i n m code it there r hd leads vs w.body w.header [] sc 0 [] w.passed s s empty good put_none end refl

    pub bare_super_goes : (keeps : Bool) (pl : Place) (C : Path) (k j : ℕ) (shape : Shape) (s t : ℕ)
        → SuperBound p (site_here (at_vars p i n m code it r hd vs)) u C
        → ((d : Body) (c : Header) → IsBody p C f.name d → IsHeader p d c → IsShape c.vars c.result shape)
        → slice_get n.classes k ≡ Some C → MethodOf n f.name j shape → length shape.params ≡ 0
        → Run it.instrs (ins.Load 0 ∷ ins.Cls k ∷ ins.Callat j ∷ dropping keeps shape.result) s t
        → ExprGoes p i n m code it r hd vs sc keeps (expr pl (node.Super u f [])) y s t
    bare_super_goes keeps pl C k j shape s t is shapes at sel none_in runs =
        let z = shaped sc good u f [] y head w C shape is shapes in
        whole sc good u f [] y head w (λ l. l) 0 keeps pl shape s s t (nothing_passed s) z.0
        (λ l b k2 v from to lead g.
        more p i n m code it there r hd l (suc b) vs from _ s v (0 + v) (omega arith)
        (laid.bare_super l b (site_at r hd vs) (context vs from) (context vs to) u f.name keeps C k j shape k2 s t v is at
        runs.0 runs.1.0 runs.1.1.0 runs.1.1.1 sel none_in z.1
        (λ g h st. (facts from.scope).refers from.ops g h st) lead
        (more p i n m code it there r hd (laid_with keeps shape.result l) b vs to k2 t (18 + v) (20 + v) (omega arith) g)))

  -- ---- with arguments

  module _ (sc : Scope) (good : ScopeKnown p (at_vars p i n m code it r hd vs) sc) (u : Term) (f : Named) (e : Expr)
      (es : List Expr) (y : Typed) (head : HeadNamed u.head)
      (w : SuperTyped p (at_vars p i n m code it r hd vs) sc u f (e ∷ es) y) where
    abbrev from : List ℕ
    from = replaced_paths w.header.vars

    -- the first one is z, and goes; the others stand behind `this`
    module _ (v : Var) (xs : List Var) (split : w.header.vars ≡ v ∷ xs) (z : Typed)
        (known_z : ExprKnown p (at_vars p i n m code it r hd vs) z) (grown_z : Fresher sc z.scope)
        (below : Below p z.scope z.ty (put_in z.scope (replaced_paths w.header.vars) (0 ∷ []) v.ty)) where
      abbrev want : Ty
      want = put_in z.scope (replaced_paths w.header.vars) (0 ∷ []) v.ty

      abbrev then : Scope
      then = (arg_passed (replaced_paths w.header.vars) (0 ∷ []) v z).scope

      abbrev path : ℕ
      path = (arg_passed (replaced_paths w.header.vars) (0 ∷ []) v z).path

      binds_z : BindsFit z.scope
      binds_z = known_z.scope.scope.binds

      param : ParamKnown w.body w.header v z.scope (0 ∷ [])
      param = (calls p B vs its sc good u f (e ∷ es) y head w).param [] xs v z.scope 0 [] split binds_z
          (deep_grown (grown_of grown_z) binds_z (deep p B vs its sc good u f (e ∷ es) y head w))
          (put_grown (grown_of grown_z) binds_z put_none)

      got : ArgMoved p (at_vars p i n m code it r hd vs) z
          (put_in z.scope (replaced_paths w.header.vars) (0 ∷ []) v.ty)
          (arg_passed (replaced_paths w.header.vars) (0 ∷ []) v z).path
          (arg_passed (replaced_paths w.header.vars) (0 ∷ []) v z).scope
      got = arg_moved p h z want known_z below param.known.fits

      binds : BindsFit (arg_passed (replaced_paths w.header.vars) (0 ∷ []) v z).scope
      binds = got.known.scope.binds

      all_grown : Fresher sc (arg_passed (replaced_paths w.header.vars) (0 ∷ []) v z).scope
      all_grown = fresher_joined grown_z got.grown

      deep_then : AsDeep (header_scope w.body w.header)
          (arg_passed (replaced_paths w.header.vars) (0 ∷ []) v z).scope 0 0
      deep_then = deep_grown (grown_of all_grown) binds (deep p B vs its sc good u f (e ∷ es) y head w)

      put_then : PutFor (header_scope w.body w.header) (arg_passed (replaced_paths w.header.vars) (0 ∷ []) v z).scope
          (v ∷ []) ((arg_passed (replaced_paths w.header.vars) (0 ∷ []) v z).path ∷ [])
      put_then = put_behind v path (put_grown (grown_of all_grown) binds put_none) got.path.bound_in
          (arg_deep p i n m code it there r hd leads vs w.body w.header v z.scope then path (0 ∷ []) param got.grown binds
          got.path)

      passes : (q s l o t : ℕ) → ScratchLocal it (site_at r hd vs) q → Run it.instrs (tuck q) l o
          → ExprGoes p i n m code it r hd vs sc true e z s l
          → ArgsGo p i n m code it r hd vs w.body w.header xs es
          (arg_passed (replaced_paths w.header.vars) (0 ∷ []) v z).scope 0
          ((arg_passed (replaced_paths w.header.vars) (0 ∷ []) v z).path ∷ []) w.passed o t
          → Passing sc good u f (e ∷ es) y head w (λ l. framed es (of_frame ∷ (of_this ∷ l))) (5 * length es + 2) s t
      passes q s l o t free tucks first_go rest = record {
        args = opd want (Some path) ∷ rest.args;
        all = rest.all;
        count = ap suc rest.count;
        is = rest.is;
        grown = fresher_joined all_grown rest.grown;
        known = rest.known;
        put = rest.put;
        fit = subst (λ (ys : List Var). ArgsFit w.passed.scope from (0 ∷ rest.all) ys (opd want (Some path) ∷ rest.args)
            rest.all) (sym split)
            (subst (λ (qs : List ℕ). ArgsFit w.passed.scope from (0 ∷ rest.all) (v ∷ xs) (opd want (Some path) ∷ rest.args)
            qs) (sym rest.split)
            (one (sym (ap (λ (l : List ℕ). put_in w.passed.scope from (0 ∷ l) v.ty) rest.split
            ∙ param.settled w.passed.scope (path ∷ rest.paths)
            (grown_of (fresher_joined got.grown rest.grown)) rest.known.scope.binds)) refl rest.fit));
        go = λ j b k2 x ops ob g. first_go (λ c. not_void z.ty (not_void_below p z.scope z.ty want below)) j b
            (args_acts (length vs) es k2) x ops ob
            (more p i n m code it there r hd (of_frame ∷ j) b vs (typing z.scope (opd z.ty z.path ∷ ops))
            (args_acts (length vs) es k2) l (suc (suc (suc (2 + x)))) (5 + x) (omega arith)
            (laid.tucks j b (site_at r hd vs) (context vs (typing z.scope (opd z.ty z.path ∷ ops)))
            (args_acts (length vs) es k2) l o q (2 + x) free tucks
            (moved p i n m code it there r hd leads (of_frame ∷ (of_this ∷ j)) b vs (typing z.scope (opd z.ty z.path ∷ ops))
            (typing then (opd want (Some path) ∷ ops)) (args_acts (length vs) es k2) o (2 + x) (got.moves ops)
            (rest.go (of_frame ∷ (of_this ∷ j)) b k2 (2 + x) (opd want (Some path) ∷ ops)
            (ops_with (opd want (Some path)) (some_bound then path got.path.bound_in) (ops_grown (grown_of all_grown) ob))
            (more p i n m code it there r hd (framed es (of_frame ∷ (of_this ∷ j))) b vs _ k2 t (5 * length es + 2 + x)
            (5 * length es + (2 + x)) (omega arith) g)))));
      }

    pub super_goes : (keeps : Bool) (pl : Place) (C : Path) (q kind k j : ℕ) (kinds : List ℕ) (shape : Shape)
        (s l o a t : ℕ)
        → ((z : Typed) → Gives p (expr_types (at_vars p i n m code it r hd vs) e sc) (Ok z)
        → ExprKnown p (at_vars p i n m code it r hd vs) z × Fresher sc z.scope
        × ExprGoes p i n m code it r hd vs sc true e z s l)
        → ScratchLocal it (site_at r hd vs) q → Run it.instrs (tuck q) l o
        → SuperBound p (site_here (at_vars p i n m code it r hd vs)) u C
        → ((d : Body) (c : Header) (v : Var) (xs : List Var) (z : Typed) → IsBody p C f.name d → IsHeader p d c
        → c.vars ≡ v ∷ xs → Gives p (expr_types (at_vars p i n m code it r hd vs) e sc) (Ok z) → (passed : Passed)
        → c.vars ≡ (v ∷ []) ++ xs → length xs ≡ length es
        → ScopeKnown p (at_vars p i n m code it r hd vs) (arg_passed (replaced_paths c.vars) (0 ∷ []) v z).scope
        → AsDeep (header_scope d c) (arg_passed (replaced_paths c.vars) (0 ∷ []) v z).scope 0 0
        → PutFor (header_scope d c) (arg_passed (replaced_paths c.vars) (0 ∷ []) v z).scope (v ∷ [])
        ((arg_passed (replaced_paths c.vars) (0 ∷ []) v z).path ∷ [])
        → Gives p (args_typed (at_vars p i n m code it r hd vs) (replaced_paths c.vars) xs
        (typed_args (at_vars p i n m code it r hd vs) es)
        (0 ∷ ((arg_passed (replaced_paths c.vars) (0 ∷ []) v z).path ∷ []))
        (arg_passed (replaced_paths c.vars) (0 ∷ []) v z).scope) (Ok passed)
        → ArgsGo p i n m code it r hd vs d c xs es (arg_passed (replaced_paths c.vars) (0 ∷ []) v z).scope 0
        ((arg_passed (replaced_paths c.vars) (0 ∷ []) v z).path ∷ []) passed o a)
        → ((d : Body) (c : Header) → IsBody p C f.name d → IsHeader p d c → IsShape c.vars c.result shape)
        → slice_get n.classes k ≡ Some C → MethodOf n f.name j shape → shape.params ≡ kind ∷ kinds
        → length kinds ≡ length es → Run it.instrs (ins.Cls k ∷ ins.Callat j ∷ dropping keeps shape.result) a t
        → ExprGoes p i n m code it r hd vs sc keeps (expr pl (node.Super u f (e ∷ es))) y s t
    super_goes keeps pl C q kind k j kinds shape s l o a t value free tucks is args shapes at sel params many runs =
        let fv = first_var w.header.vars (length es) w.long in
        let came = then_came (expr_types h e sc)
        (λ y. ask (IsBelow y.scope y.ty (put_in y.scope from (0 ∷ []) fv.one.ty)) (λ ok. wants ok (mismatch h e.at)
        (args_typed h from fv.rest (typed_args h es) ((0 ∷ []) ++ (arg_passed from (0 ∷ []) fv.one y).path ∷ [])
        (arg_passed from (0 ∷ []) fv.one y).scope))) w.passed
        (subst (λ (xs : List Var). Gives p (args_typed h from xs (typed_args h (e ∷ es)) (0 ∷ []) sc) (Ok w.passed)) fv.is
        w.args) in
        let z = came.first in
        let b = answered e came.then.0 (Below p z.scope z.ty (put_in z.scope from (0 ∷ []) fv.one.ty)) _ w.passed
        came.then.1 came.then.2 in
        let one = value z came.gave in
        let c = shaped sc good u f (e ∷ es) y head w C shape is shapes in
        whole sc good u f (e ∷ es) y head w (λ l. framed es (of_frame ∷ (of_this ∷ l))) (5 * length es + 2) keeps pl shape s
        a t
        (passes fv.one fv.rest fv.is z one.0 one.1 b.0 q s l o a free tucks one.2
        (args w.body w.header fv.one fv.rest z
        (subst (λ (x : Path). IsBody p x f.name w.body) (same_bound sc good u f (e ∷ es) y head w C is) w.is_body)
        w.is_header fv.is came.gave w.passed fv.is fv.many
        (got fv.one fv.rest fv.is z one.0 one.1 b.0).known (deep_then fv.one fv.rest fv.is z one.0 one.1 b.0)
        (put_then fv.one fv.rest fv.is z one.0 one.1 b.0) b.1)) c.0
        (λ l2 b2 k2 x to_from to lead g.
        more p i n m code it there r hd (framed es (of_frame ∷ (of_this ∷ l2))) (suc b2) vs to_from _ a
        (3 * length es + x) (5 * length es + 2 + x) (omega arith)
        (laid.super (framed es (of_frame ∷ (of_this ∷ l2))) l2 b2 (site_at r hd vs) (context vs to_from) (context vs to) u
        f.name (length es) keeps C k j shape k2 a t x is at (takes_framed (e ∷ es) (of_this ∷ l2)) runs.0 runs.1.0 runs.1.1
        sel (ap (λ (ks : List ℕ). length ks) params ∙ ap suc many) c.1
        (λ g h st. (facts to_from.scope).refers to_from.ops g h st) lead g))
