-- The arguments of a call, one after the other, and the call.
use Rattle.std.proofs.Common.{◌≡◌, ℕ, suc, pred, List, [], ◌∷◌, ◌++◌, length, Option, Some, Bool, true, false, ◌⊎◌, inl, inr, refl, sym, ap, ◌∙◌, subst, arith, append_assoc}
use Rattle.std.specs.Prelude.{◌+◌, Result, Ok, Err}
use Rattle.std.proofs.lemmas.List.{append-nil}
use Rattle.jn_base.specs.declared.tree.Program.{Program}
use Rattle.jn_base.specs.declared.tree.Expr.{Expr}
use Rattle.jn_base.specs.declared.types.Ty.{Ty}
use Rattle.jn_base.specs.declared.types.Ty.TheVariants as ty
use Rattle.jn_base.specs.declared.names.Var.{Var}
use Rattle.jn_base.specs.declared.refusal.Refusal.{Refusal}
use Rattle.jn_base.specs.Atoms.{atoms_in, Among, first, later}
use Rattle.jn_base.specs.Scopes.{Scope, Binds}
use Rattle.jn_base.specs.Fits.{BindsFit, AtomsFit, IsClassType}
use Rattle.jn_base.specs.Resolve.{is_class}
use Rattle.jn_sem.specs.Acts.{Todo, acts}
use Rattle.jn_sem.specs.Below.{Below}
use Rattle.jn_sem.specs.Does.{Body}
use Rattle.jn_sem.specs.LawsOfActs.{args_acts}
use Rattle.jn_sem.proofs.Under.{type_anchored}
use Rattle.jn_laws.specs.LawsOfFits.{AsDeep}
use Rattle.jn_laws.specs.LawsOfWritten.{HeaderPath}
use Rattle.jn_rules.specs.Plans.{Plan, IsBelow, ask, wants}
use Rattle.jn_rules.specs.Questions.{Gives, Answers}
use Rattle.jn_rules.specs.Headers.{Header}
use Rattle.jn_rules.specs.Exprs.{Here, Typed, Passed, mismatch, args_typed, arg_passed, put_in, replaced_paths, expr_types}
use Rattle.jn_rules.specs.Forms.{typed_args}
use Rattle.jn_rules.specs.Stmts.{In, is_void}
use Rattle.jn_rules.proofs.PlanLaws.{then_came}
use Rattle.jn_rule_laws.specs.LawsOfForms.{PathKnown, PutFor, header_scope, ParamKnown, CallsOf}
use Rattle.jn_sound.specs.Takes.{Opd, opd, opds_of, ArgsFit, none, one}
use Rattle.jn_sound.specs.Fit.{Fits, moves}
use Rattle.jn_sound.specs.KnownScopes.{ScopeKnown}
use Rattle.jn_sound.specs.Tree.{Fresher, none as none_more, OpsBound, GoesTo, AllFit}
use Rattle.jn_sound.proofs.NewPaths.{PathNew, path_new}
use Rattle.jn_sound.proofs.Scopes.{grown_of, grown_binds, fresher_joined, ops_grown, ops_with, some_bound, atom_grown, deep_grown, put_grown, put_behind}
use Rattle.jn_sound.proofs.RuledForms.{ArgMoved, arg_moved, not_void_below}

-- ---- operands behind operands

-- these operands, the first one lowest
abbrev pub pushed : List Opd → List Opd → List Opd
pushed [] ops = ops
pushed (a ∷ os) ops = pushed os (a ∷ ops)

taken_back : (os taken ops : List Opd) (n : ℕ) → opds_of (length os + n) taken (pushed os ops) ≡ opds_of n
    (os ++ taken) ops
taken_back [] taken ops n = ap (λ (i : ℕ). opds_of i taken ops) (omega arith)
taken_back (a ∷ os) taken ops n =
    ap (λ (i : ℕ). opds_of i taken (pushed os (a ∷ ops))) (omega arith) ∙ taken_back os taken (a ∷ ops) (suc n)

-- each of them is an argument or one below
pub pushed_among : (os ops : List Opd) (o : Opd) → Among (pushed os ops) o → Among os o ⊎ Among ops o
pushed_among [] ops o m = inr m
pushed_among (a ∷ os) ops o m = at (pushed_among os (a ∷ ops) o m) where
  below : (c : Opd) → Among (a ∷ ops) c → Among (a ∷ os) c ⊎ Among ops c
  below _ first = inl first
  below c (later n) = inr n

  at : Among os o ⊎ Among (a ∷ ops) o → Among (a ∷ os) o ⊎ Among ops o
  at (inl n) = inl (later n)
  at (inr n) = below o n

pub all_taken : (os ops : List Opd) (n : ℕ) → length os ≡ n → opds_of n [] (pushed os ops) ≡ Some (os, ops)
all_taken os ops n e =
    ap (λ (i : ℕ). opds_of i [] (pushed os ops)) (omega (arith, e)) ∙ taken_back os [] ops 0
    ∙ ap (λ (zs : List Opd). let r : Option (List Opd × List Opd) = Some (zs, ops) in r) (append-nil os)

-- ---- void

pub not_void : (t : Ty) → (t ≡ ty.Void → ⊥) → is_void t ≡ false
not_void ty.Void n = absurd (n refl)
not_void ty.Int n = refl
not_void ty.Bool n = refl
not_void ty.Null n = refl
not_void (ty.Class xs m) n = refl

-- ---- arguments

module _ (p : Program) (b : In) (h : Here) (m : Body) (c : Header) (calls : CallsOf p m c) where
  abbrev from : List ℕ
  from = replaced_paths c.vars

  abbrev top : Scope
  top = header_scope m c

  -- behind the arguments es for the parameters xs, with the paths r and qs before them
  pub record ArgsGo (xs : List Var) (es : List Expr) (s : Scope) (r : ℕ) (qs : List ℕ) (passed : Passed) : Type 0 where
    pub args : List Opd
    pub paths : List ℕ
    pub all : List ℕ
    pub count : length args ≡ length es
    pub is : passed.paths ≡ r ∷ all
    pub split : all ≡ qs ++ paths
    pub grown : Fresher s passed.scope
    pub known : ScopeKnown p h passed.scope
    pub put : PutFor top passed.scope c.vars all
    pub fit : ArgsFit passed.scope from (r ∷ all) xs args paths
    -- none has an older path that no variable has
    pub apart : (old : ℕ) → Binds s old → (HeaderPath h.vars old → ⊥) → (o : Opd) → Among args o
        → o.path ≡ Some old → ⊥
    pub fits : (k : List Todo) (ops : List Opd) → OpsBound s ops → Fits p b k h.vars passed.scope (pushed args ops)
        → Fits p b (args_acts (length h.vars) es k) h.vars s ops

  none_go : (done : List Var) (s : Scope) (r : ℕ) (qs : List ℕ) (passed : Passed) → c.vars ≡ done ++ [] →
      ScopeKnown p h s → PutFor top s done qs
      → (let a : Result Passed Refusal = Ok passed in let z : Result Passed Refusal = Ok
      (record { paths = r ∷ qs; scope = s }) in a ≡ z)
      → ArgsGo [] [] s r qs passed
  none_go done s r qs passed is k put e = subst (ArgsGo [] [] s r qs) (sym (same e)) (record {
    args = [];
    paths = [];
    all = qs;
    count = refl;
    is = refl;
    split = sym (append-nil qs);
    grown = none_more;
    known = k;
    put = subst (λ (vs : List Var). PutFor top s vs qs) (sym (is ∙ append-nil done)) put;
    fit = none;
    apart = λ old n free o m e. elim m [ ];
    fits = λ k ops o f. f;
  }) where
    same : (let a : Result Passed Refusal = Ok passed in let z : Result Passed Refusal = Ok
        (record { paths = r ∷ qs; scope = s }) in a ≡ z) → passed ≡ record { paths = r ∷ qs; scope = s }
    same e = cc

  -- an argument in its parameter's type is as deep as the parameter
  arg_deep : (x : Var) (s t : Scope) (q : ℕ) (to : List ℕ) → ParamKnown m c x s to → Fresher s t → BindsFit t →
      PathKnown t q (put_in s from to x.ty) → is_class x.ty ≡ true → AsDeep top t x.path q
  arg_deep x s t q to k g f a e = at (k.known.fits.atoms (class_put s x.ty e)) where
    class_put : (s : Scope) (u : Ty) → is_class u ≡ true → IsClassType (put_in s from to u)
    class_put s (ty.Class xs w) e = tt
    class_put s ty.Int e = cc
    class_put s ty.Bool e = cc
    class_put s ty.Null e = cc
    class_put s ty.Void e = cc

    at : AtomsFit s (atoms_in (put_in s from to x.ty)) → AsDeep top t x.path q
    at o = record {
      bound_in = a.bound_in;
      depth = a.depth o.one o.among ∙ ap length
          (atom_grown (grown_of g) f o.one (type_anchored k.known.fits o.one o.among)).1 ∙ k.depth o.one o.among;
    }

  -- an argument, and those behind it
  one_goes : (x : Var) (xs : List Var) (e : Expr) (es : List Expr) (s : Scope) (r : ℕ) (qs : List ℕ) (passed : Passed)
      (t : Typed) (q : ℕ) (u : Scope)
      → PathNew h s t
      → GoesTo p b h (acts (length h.vars) e) s (λ ops. ops) t → (k : ParamKnown m c x t.scope (r ∷ qs)) →
      Below p t.scope t.ty (put_in t.scope from (r ∷ qs) x.ty)
      → ArgMoved p h t (put_in t.scope from (r ∷ qs) x.ty) q u → ArgsGo xs es u r (qs ++ q ∷ []) passed → ArgsGo
      (x ∷ xs) (e ∷ es) s r qs passed
  one_goes x xs e es s r qs passed t q u new g k below a rest = record {
    args = opd (put_in t.scope from (r ∷ qs) x.ty) (Some q) ∷ rest.args;
    paths = q ∷ rest.paths;
    all = rest.all;
    count = ap suc rest.count;
    is = rest.is;
    split = rest.split ∙ append_assoc qs (q ∷ []) rest.paths;
    grown = fresher_joined g.grown (fresher_joined a.grown rest.grown);
    known = rest.known;
    put = rest.put;
    fit = one (sym (ap (λ (l : List ℕ). put_in passed.scope from (r ∷ l) x.ty)
        (rest.split ∙ append_assoc qs (q ∷ []) rest.paths)
        ∙ k.settled passed.scope (q ∷ rest.paths)
        (grown_of (fresher_joined a.grown rest.grown)) rest.known.scope.binds)) refl rest.fit;
    apart = λ old n free o i. apart old n free o i;
    fits = λ w ops o f. g.fits (args_acts (length h.vars) es w) ops o
        (not_void t.ty (not_void_below p t.scope t.ty _ below))
        (moves (a.moves ops) (rest.fits w (opd (put_in t.scope from (r ∷ qs) x.ty) (Some q) ∷ ops)
        (ops_with (opd (put_in t.scope from (r ∷ qs) x.ty) (Some q)) (some_bound u q a.path.bound_in)
        (ops_grown (grown_of (fresher_joined g.grown a.grown)) o)) f));
  } where
    same : (old : ℕ) → Some q ≡ Some old → q ≡ old
    same old e = cc

    had : (old : ℕ) → Binds s old → (HeaderPath h.vars old → ⊥) → HeaderPath h.vars old ⊎ (Binds s old → ⊥) → ⊥
    had old n free (inl i) = free i
    had old n free (inr i) = i n

    apart : (old : ℕ) → Binds s old → (HeaderPath h.vars old → ⊥) → (o : Opd)
        → Among (opd (put_in t.scope from (r ∷ qs) x.ty) (Some q) ∷ rest.args) o → o.path ≡ Some old → ⊥
    apart old n free _ first e = a.newer old (grown_binds (grown_of g.grown) old n)
        (λ i. had old n free (new old i)) (same old e)
    apart old n free o (later i) e = rest.apart old
        (grown_binds (grown_of (fresher_joined g.grown a.grown)) old n) free o i e

  answered : (h : Here) (e : Expr) (ok : Bool) (T : Type 0) (go : Plan Passed) (passed : Passed) → Answers T ok →
      Gives p (wants ok (mismatch h e.at) go) (Ok passed) → T × Gives p go (Ok passed)
  answered h e true T go passed a g = (a, g)
  answered h e false T go passed a g = absurd (no g) where
    no : (let x : Result Passed Refusal = Ok passed in let y : Result Passed Refusal = Err (mismatch h e.at) in x ≡ y)
        → ⊥
    no e = cc

  pub args_go : (es : List Expr) → AllFit p b h es → (done xs : List Var) (s : Scope) (r : ℕ) (qs : List ℕ)
      (passed : Passed) → c.vars ≡ done ++ xs → length xs ≡ length es
      → ScopeKnown p h s → AsDeep top s 0 r → PutFor top s done qs → Gives p
      (args_typed h from xs (typed_args h es) (r ∷ qs) s) (Ok passed) → ArgsGo xs es s r qs passed
  args_go [] fit done [] s r qs passed is n k d put g = none_go done s r qs passed is k put g
  args_go [] fit done (x ∷ xs) s r qs passed is n k d put g = absurd (no n) where
    no : suc (length xs) ≡ 0 → ⊥
    no e = cc
  args_go (e ∷ es) fit done [] s r qs passed is n k d put g = absurd (no n) where
    no : 0 ≡ suc (length es) → ⊥
    no e = cc
  args_go (e ∷ es) fit done (x ∷ xs) s r qs passed is n k d put g =
      let came = then_came (expr_types h e s)
      (λ t. ask (IsBelow t.scope t.ty (put_in t.scope from (r ∷ qs) x.ty)) (λ ok. wants ok (mismatch h e.at)
      (args_typed h from xs (typed_args h es) ((r ∷ qs) ++ (arg_passed from (r ∷ qs) x t).path ∷ [])
      (arg_passed from (r ∷ qs) x t).scope))) passed g in
      behind came.first
      (λ u q k2 d2 put2 g2. args_go es (λ z i. fit z (later i)) (done ++ x ∷ []) xs u r (qs ++ q ∷ []) passed
      (is ∙ sym (append_assoc done (x ∷ []) xs)) (ap pred n) k2 d2 put2 g2)
      (path_new p h e s came.first k.numbered came.gave)
      (fit e first s came.first k came.gave) (answered h e came.then.0 _ _ passed came.then.1 came.then.2) where
        behind : (t : Typed)
            → ((u : Scope) (q : ℕ) → ScopeKnown p h u → AsDeep top u 0 r → PutFor top u (done ++ x ∷ []) (qs ++ q ∷ [])
            → Gives p (args_typed h from xs (typed_args h es) (r ∷ (qs ++ q ∷ [])) u) (Ok passed) → ArgsGo xs es u r
            (qs ++ q ∷ []) passed)
            → PathNew h s t
            → GoesTo p b h (acts (length h.vars) e) s (λ ops. ops) t
            → Below p t.scope t.ty (put_in t.scope from (r ∷ qs) x.ty) × Gives p
            (args_typed h from xs (typed_args h es) ((r ∷ qs) ++ (arg_passed from (r ∷ qs) x t).path ∷ [])
            (arg_passed from (r ∷ qs) x t).scope) (Ok passed)
            → ArgsGo (x ∷ xs) (e ∷ es) s r qs passed
        behind t again new go w =
            let at : BindsFit t.scope = go.known.scope.scope.binds in
            let pk = calls.param done xs x t.scope r qs is at (deep_grown (grown_of go.grown) at d)
            (put_grown (grown_of go.grown) at put) in
            let a = arg_moved p h t (put_in t.scope from (r ∷ qs) x.ty) go.known w.0 pk.known.fits in
            let binds : BindsFit (arg_passed from (r ∷ qs) x t).scope = a.known.scope.binds in
            let g2 = fresher_joined go.grown a.grown in
            one_goes x xs e es s r qs passed t (arg_passed from (r ∷ qs) x t).path
            (arg_passed from (r ∷ qs) x t).scope new go pk w.0 a
            (again (arg_passed from (r ∷ qs) x t).scope (arg_passed from (r ∷ qs) x t).path a.known
            (deep_grown (grown_of g2) binds d)
            (put_behind x (arg_passed from (r ∷ qs) x t).path (put_grown (grown_of g2) binds put) a.path.bound_in
            (arg_deep x t.scope _ _ (r ∷ qs) pk a.grown binds a.path)) w.1)
