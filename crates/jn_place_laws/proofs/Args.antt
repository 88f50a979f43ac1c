-- The arguments of a call, one after the other: each goes, gets its path, and is in its parameter's type.
use Rattle.std.proofs.Common.{◌≡◌, ℕ, suc, ◌+◌, ◌*◌, List, [], ◌∷◌, ◌++◌, length, Some, true, ◌⊎◌, inl, inr, refl, sym, ap, ◌∙◌, subst, arith, append_assoc}
use Rattle.std.specs.Prelude.{slice_get}
use Rattle.std.proofs.lemmas.List.{append-nil}
use Rattle.jn_base.specs.declared.tree.Program.{Program}
use Rattle.jn_base.specs.declared.tree.Expr.{Expr}
use Rattle.jn_base.specs.declared.types.Ty.{Ty}
use Rattle.jn_base.specs.declared.types.Ty.TheVariants as ty
use Rattle.jn_base.specs.declared.names.Var.{Var}
use Rattle.jn_base.specs.Atoms.{atoms_in, Among, first, later}
use Rattle.jn_base.specs.Scopes.{Scope, Binds}
use Rattle.jn_base.specs.Fits.{BindsFit, TypeFits, AtomsFit, IsClassType}
use Rattle.jn_base.specs.Resolve.{is_class}
use Rattle.jn_code.specs.declared.image.Image.{Image}
use Rattle.jn_code.specs.declared.image.Code.{Code}
use Rattle.jn_sem.specs.Below.{Below}
use Rattle.jn_sem.specs.Does.{Body}
use Rattle.jn_sem.specs.State.{Frame}
use Rattle.jn_sem.specs.LawsOfActs.{args_acts}
use Rattle.jn_sem.proofs.Under.{type_anchored}
use Rattle.jn_laws.specs.LawsOfFits.{AsDeep}
use Rattle.jn_laws.specs.LawsOfWritten.{HeaderPath}
use Rattle.jn_rules.specs.Headers.{Header}
use Rattle.jn_rules.specs.Exprs.{Here, Typed, Passed, put_in, arg_passed, replaced_paths}
use Rattle.jn_rule_laws.specs.LawsOfForms.{PathKnown, PutFor, header_scope, ParamKnown, CallsOf}
use Rattle.jn_sound.specs.Takes.{Opd, opd, typing, none, one}
use Rattle.jn_sound.specs.KnownScopes.{ScopeKnown}
use Rattle.jn_sound.specs.Tree.{ExprKnown, Fresher, none as none_more}
use Rattle.jn_sound.proofs.Scopes.{grown_of, grown_binds, fresher_joined, atom_grown, deep_grown, put_grown, put_behind, ops_grown, ops_with, some_bound}
use Rattle.jn_sound.proofs.RuledForms.{ArgMoved, arg_moved, not_void_below}
use Rattle.jn_sound.proofs.NewPaths.{PathNew}
use Rattle.jn_sound.proofs.CallsFit.{not_void}
use Rattle.jn_agree.specs.Naming.{Naming}
use Rattle.jn_place_laws.specs.LawsOfContexts.{ActsLead}
use Rattle.jn_node_laws.specs.Cont.{of_frame}
use Rattle.jn_place_laws.proofs.Going.{at_vars, framed, ExprGoes, ArgsGo}
use Rattle.jn_place_laws.proofs.Steps.{more, at_place, moved}

module _ (p : Program) (i : Image) (n : Naming) (m : ℕ) (code : ℕ) (it : Code) (there : slice_get i.codes code ≡ Some it)
    (r : Frame) (hd : Header) (leads : ActsLead p i n m code it r hd) (vs : List Var) (d : Body) (c : Header) where
  abbrev from : List ℕ
  from = replaced_paths c.vars

  abbrev top : Scope
  top = header_scope d c

  abbrev h : Here
  h = at_vars p i n m code it r hd vs

  abbrev Args : List Var → List Expr → Scope → ℕ → List ℕ → Passed → ℕ → ℕ → Type 0
  Args xs es sc q qs passed s t = ArgsGo p i n m code it r hd vs d c xs es sc q qs passed s t

  pub none_go : (done : List Var) (sc : Scope) (q : ℕ) (qs : List ℕ) (passed : Passed) (s t : ℕ) → c.vars ≡ done ++ []
      → ScopeKnown p h sc → PutFor top sc done qs → passed ≡ record { paths = q ∷ qs; scope = sc } → t ≡ s
      → Args [] [] sc q qs passed s t
  none_go done sc q qs passed s t is k put e end = subst (λ (z : Passed). Args [] [] sc q qs z s t) (sym e) (record {
    args = [];
    paths = [];
    all = qs;
    count = refl;
    is = refl;
    split = sym (append-nil qs);
    grown = none_more;
    known = k;
    put = subst (λ (xs : List Var). PutFor top sc xs qs) (sym (is ∙ append-nil done)) put;
    fit = none;
    apart = λ old n free o a e. elim a [ ];
    go = λ l b k w ops ob g. at_place p i n m code it there r hd l b vs (typing sc ops) k s t w end
        (more p i n m code it there r hd l b vs (typing sc ops) k t (5 * 0 + w) w (omega arith) g);
  })

  class_put : (s : Scope) (to : List ℕ) (u : Ty) → is_class u ≡ true → IsClassType (put_in s from to u)
  class_put s to (ty.Class xs w) e = tt
  class_put s to ty.Int e = cc
  class_put s to ty.Bool e = cc
  class_put s to ty.Null e = cc
  class_put s to ty.Void e = cc

  -- an argument in its parameter's type is as deep as the parameter
  pub arg_deep : (x : Var) (s t : Scope) (q : ℕ) (to : List ℕ) → ParamKnown d c x s to → Fresher s t → BindsFit t
      → PathKnown t q (put_in s from to x.ty) → is_class x.ty ≡ true → AsDeep top t x.path q
  arg_deep x s t q to k g f a e = at (k.known.fits.atoms (class_put s to x.ty e)) where
    at : AtomsFit s (atoms_in (put_in s from to x.ty)) → AsDeep top t x.path q
    at o = record {
      bound_in = a.bound_in;
      depth = a.depth o.one o.among ∙ ap length
          (atom_grown (grown_of g) f o.one (type_anchored k.known.fits o.one o.among)).1 ∙ k.depth o.one o.among;
    }

  -- an argument, and those behind it
  pub one_goes : (x : Var) (xs : List Var) (e : Expr) (es : List Expr) (sc : Scope) (q : ℕ) (qs : List ℕ)
      (passed : Passed) (t : Typed) (want : Ty) (z : ℕ) (u : Scope) (s l o : ℕ)
      → want ≡ put_in t.scope from (q ∷ qs) x.ty → Fresher sc t.scope
      → ExprGoes p i n m code it r hd vs sc true e t s l → PathNew h sc t → ParamKnown d c x t.scope (q ∷ qs)
      → Below p t.scope t.ty want → ArgMoved p h t want z u → Args xs es u q (qs ++ z ∷ []) passed l o
      → Args (x ∷ xs) (e ∷ es) sc q qs passed s o
  one_goes x xs e es sc q qs passed t want z u s l o is grown one_go new k below a rest = record {
    args = opd want (Some z) ∷ rest.args;
    paths = z ∷ rest.paths;
    all = rest.all;
    count = ap suc rest.count;
    is = rest.is;
    split = rest.split ∙ append_assoc qs (z ∷ []) rest.paths;
    grown = fresher_joined grown (fresher_joined a.grown rest.grown);
    known = rest.known;
    put = rest.put;
    fit = one (is ∙ sym (ap (λ (l : List ℕ). put_in passed.scope from (q ∷ l) x.ty)
        (rest.split ∙ append_assoc qs (z ∷ []) rest.paths)
        ∙ k.settled passed.scope (z ∷ rest.paths)
        (grown_of (fresher_joined a.grown rest.grown)) rest.known.scope.binds)) refl rest.fit;
    apart = λ old n free y b e. apart old n free y b e;
    go = λ j b k2 w ops ob g. one_go (λ y. not_void t.ty (not_void_below p t.scope t.ty want below)) j b
        (args_acts (length vs) es k2) w ops ob
        (moved p i n m code it there r hd leads (of_frame ∷ j) b vs (typing t.scope (opd t.ty t.path ∷ ops))
        (typing u (opd want (Some z) ∷ ops)) (args_acts (length vs) es k2) l (5 + w) (a.moves ops)
        (rest.go (of_frame ∷ j) b k2 (5 + w) (opd want (Some z) ∷ ops)
        (ops_with (opd want (Some z)) (some_bound u z a.path.bound_in)
        (ops_grown (grown_of (fresher_joined grown a.grown)) ob))
        (more p i n m code it there r hd (framed es (of_frame ∷ j)) b vs _ k2 o (5 * suc (length es) + w)
        (5 * length es + (5 + w)) (omega arith) g)));
  } where
    same : (old : ℕ) → Some z ≡ Some old → z ≡ old
    same old e = cc

    had : (old : ℕ) → Binds sc old → (HeaderPath vs old → ⊥) → HeaderPath vs old ⊎ (Binds sc old → ⊥) → ⊥
    had old n free (inl i) = free i
    had old n free (inr i) = i n

    apart : (old : ℕ) → Binds sc old → (HeaderPath vs old → ⊥) → (y : Opd)
        → Among (opd want (Some z) ∷ rest.args) y → y.path ≡ Some old → ⊥
    apart old n free _ first e = a.newer old (grown_binds (grown_of grown) old n)
        (λ i. had old n free (new old i)) (same old e)
    apart old n free y (later b) e = rest.apart old
        (grown_binds (grown_of (fresher_joined grown a.grown)) old n) free y b e

  -- an argument as it is typed: what is known of the scope behind it is had for those behind
  pub arg_goes : CallsOf p d c → (done xs : List Var) (x : Var) (e : Expr) (es : List Expr) (sc : Scope) (q : ℕ)
      (qs : List ℕ) (passed : Passed) (t : Typed) (s l o : ℕ) (ps to : List ℕ) → ps ≡ from → to ≡ q ∷ qs
      → c.vars ≡ done ++ x ∷ xs → AsDeep top sc 0 q → PutFor top sc done qs → ExprKnown p h t → Fresher sc t.scope
      → ExprGoes p i n m code it r hd vs sc true e t s l → PathNew h sc t
      → Below p t.scope t.ty (put_in t.scope ps to x.ty)
      → (ScopeKnown p h (arg_passed ps to x t).scope → AsDeep top (arg_passed ps to x t).scope 0 q
      → PutFor top (arg_passed ps to x t).scope (done ++ x ∷ []) (qs ++ (arg_passed ps to x t).path ∷ [])
      → Args xs es (arg_passed ps to x t).scope q (qs ++ (arg_passed ps to x t).path ∷ []) passed l o)
      → Args (x ∷ xs) (e ∷ es) sc q qs passed s o
  arg_goes calls done xs x e es sc q qs passed t s l o ps to isf ist split dp put known grown one_go new below again =
      one_goes x xs e es sc q qs passed t (put_in t.scope ps to x.ty) (arg_passed ps to x t).path
      (arg_passed ps to x t).scope s l o is grown one_go new k below a
      (again a.known (deep_grown (grown_of all) binds dp)
      (put_behind x (arg_passed ps to x t).path (put_grown (grown_of all) binds put) a.path.bound_in
      (arg_deep x t.scope (arg_passed ps to x t).scope (arg_passed ps to x t).path (q ∷ qs) k a.grown binds
      (subst (PathKnown (arg_passed ps to x t).scope (arg_passed ps to x t).path) is a.path)))) where
        at : BindsFit t.scope
        at = known.scope.scope.binds

        k : ParamKnown d c x t.scope (q ∷ qs)
        k = calls.param done xs x t.scope q qs split at (deep_grown (grown_of grown) at dp)
            (put_grown (grown_of grown) at put)

        is : put_in t.scope ps to x.ty ≡ put_in t.scope from (q ∷ qs) x.ty
        is = ap (λ (fs : List ℕ). put_in t.scope fs to x.ty) isf ∙ ap (λ (ts : List ℕ). put_in t.scope from ts x.ty) ist

        a : ArgMoved p h t (put_in t.scope ps to x.ty) (arg_passed ps to x t).path (arg_passed ps to x t).scope
        a = arg_moved p h t (put_in t.scope ps to x.ty) known below (subst (TypeFits t.scope) (sym is) k.known.fits)

        binds : BindsFit (arg_passed ps to x t).scope
        binds = a.known.scope.binds

        all : Fresher sc (arg_passed ps to x t).scope
        all = fresher_joined grown a.grown
