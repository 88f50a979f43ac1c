-- `new`: by the constructor of the class that is made, or without one.
use Rattle.std.proofs.Common.{◌≡◌, ◌<◌, ◌≤◌, ℕ, suc, ◌+◌, ◌*◌, List, [], ◌∷◌, ◌++◌, length, Bool, true, false, Some, None, refl, sym, ap, ◌∙◌, subst, arith}
use Rattle.std.specs.Prelude.{slice_get, cond, Ok}
use Rattle.jn_base.specs.declared.tree.Name.{Name}
use Rattle.jn_base.specs.declared.tree.Place.{Place}
use Rattle.jn_base.specs.declared.tree.Term.{Term}
use Rattle.jn_base.specs.declared.tree.Expr.{Expr}
use Rattle.jn_base.specs.declared.tree.Node.TheVariants as node
use Rattle.jn_base.specs.declared.tree.Program.{Program}
use Rattle.jn_base.specs.declared.types.Ty.{Ty}
use Rattle.jn_base.specs.declared.names.Var.{Var}
use Rattle.jn_base.specs.Parts.{expr}
use Rattle.jn_base.specs.Paths.{Path}
use Rattle.jn_base.specs.Atoms.{Atom}
use Rattle.jn_base.specs.Scopes.{Scope, bound}
use Rattle.jn_base.specs.Fits.{Anchored}
use Rattle.jn_code.specs.declared.instr.Instr.{Instr}
use Rattle.jn_code.specs.declared.instr.Instr.TheVariants as ins
use Rattle.jn_code.specs.declared.image.Image.{Image}
use Rattle.jn_code.specs.declared.image.Code.{Code}
use Rattle.jn_code.specs.declared.image.Shape.{Shape}
use Rattle.jn_sem.specs.Acts.{Todo, todo, Make}
use Rattle.jn_sem.specs.LawsOfActs.{args_acts}
use Rattle.jn_sem.specs.NormalFunction.{normal_type}
use Rattle.jn_sem.specs.Sharing.{IsClass}
use Rattle.jn_sem.specs.State.{Heap, Frame}
use Rattle.jn_sem.specs.Does.{Body, IsConstructorBody}
use Rattle.jn_sem.proofs.ActLaws.{acts_are}
use Rattle.jn_sem.proofs.BelowOrder.{below_itself}
use Rattle.jn_laws.specs.LawsOfFits.{AsDeep}
use Rattle.jn_laws.specs.LawsOfSources.{KeepsLimits}
use Rattle.jn_rules.specs.Headers.{Header}
use Rattle.jn_rules.specs.Questions.{Gives}
use Rattle.jn_rules.specs.Exprs.{Here, Typed, Passed, bind, next_path, fresh_with, of_new, made_exact, replaced_paths, args_typed}
use Rattle.jn_rules.specs.Forms.{typed_args}
use Rattle.jn_rules.specs.Stmts.{In}
use Rattle.jn_rule_laws.specs.LawsOfHeaders.{IsHeader}
use Rattle.jn_rule_laws.specs.LawsOfForms.{PutFor, header_scope, none as put_none, none as none_grown, more as more_grown}
use Rattle.jn_sound.specs.KnownScopes.{ScopeKnown}
use Rattle.jn_sound.specs.Takes.{Opd, opd, Typing, typing, Takes, ArgsFit, same, named, unseen}
use Rattle.jn_sound.proofs.Laws.{Laws}
use Rattle.jn_sound.specs.Tree.{OpsBound, ProgramKnown}
use Rattle.jn_sound.proofs.Scopes.{ops_grown}
use Rattle.jn_agree.specs.Naming.{Naming}
use Rattle.jn_agree.specs.Rows.{RowsAre, IsShape}
use Rattle.jn_agree.specs.Places.{Run, dropping, ClassCode, CtorCode, MethodOf, ctor as ctor_code, bare as bare_code}
use Rattle.jn_node_laws.specs.Cont.{Layout, with_value, trimmed}
use Rattle.jn_node_laws.specs.Facts.{FewNumbers, BodiesOnce, MakesWell, MakesBare}
use Rattle.jn_node_laws.specs.LawsOfLaidNodes.{LaidNodesOf}
use Rattle.jn_place_laws.specs.Contexts.{Context, context, Stood, known, in_body, site_at}
use Rattle.jn_place_laws.specs.LawsOfContexts.{ActLeads, ActsLead}
use Rattle.jn_sound.proofs.MadeClass.{made_named}
use Rattle.jn_place_laws.proofs.Going.{GoOn, left, onto, framed, ExprGoes, ArgsGo, at_vars}
use Rattle.jn_place_laws.proofs.Steps.{less, more, moved, as_todo, as_typed, at_place}
use Rattle.jn_place_laws.proofs.Operands.{takes_framed}
use Rattle.jn_place_laws.proofs.Seen.{class_short}
use Rattle.jn_place_laws.proofs.NewTerms.{NewTyped, bare, by, NewThere, made, good, unbound, bare_takes, deep, settled, bound_three, by_takes}
use Rattle.jn_place_laws.proofs.Made.{makes_by, makes_none, makes_bare}

no_exprs : (es : List Expr) → length es ≡ 0 → es ≡ []
no_exprs [] e = refl
no_exprs (x ∷ xs) e = cc

-- a list with an element has a first one
record First (xs : List Name) : Type 0 where
  name : Name
  rest : Path
  is : xs ≡ name ∷ rest

first_of : (xs : List Name) → 0 < length xs → First xs
first_of [] l = absurd (omega (arith, l))
first_of (C ∷ P) l = record { name = C; rest = P; is = refl }

module _ (p : Program) (its : ProgramKnown p) (laws : Laws p) (limits : KeepsLimits p) (i : Image) (n : Naming)
    (rows : RowsAre p i n) (few : FewNumbers n) (m : ℕ) (high : m < 4294967296) (code : ℕ) (it : Code)
    (there : slice_get i.codes code ≡ Some it) (r : Frame) (hd : Header)
    (laid : LaidNodesOf p i n m (known p) Context (Stood p r hd) code it r) (leads : ActsLead p i n m code it r hd)
    (vs : List Var) where
  abbrev B : In
  B = in_body r hd

  abbrev h : Here
  h = at_vars p i n m code it r hd vs

  abbrev G : Layout → ℕ → Typing → List Todo → ℕ → ℕ → Type 0
  G l b t k s w = GoOn p i n m code it r hd l b vs t k s w

  once : BodiesOnce p
  once V name u = laws.once.body V name u

  module _ (sc : Scope) (known_sc : ScopeKnown p (at_vars p i n m code it r hd vs) sc) (u : Term) (x : Atom)
      (of_term : NewThere p (in_body r hd) vs its sc u x) where
    abbrev T : Ty
    T = normal_type sc (made_exact x)

    -- up to the act, what that takes and gives, and what is known behind it
    record Making (es : List Expr) (y : Typed) (st l : ℕ) : Type 0 where
      scope : Scope
      ops : List Opd → List Opd
      to : Bool → List Opd → Typing
      anchored : Anchored scope x.anchor
      same_bound : bound scope x ≡ bound sc x
      arrive : (j : Layout) (b : ℕ) (k : List Todo) (v : ℕ) (os : List Opd) → OpsBound sc os
          → G (framed es j) b (typing scope (ops os)) k l (5 * length es + v)
          → G j b (typing sc os) (args_acts (length vs) es k) st v
      takes : (keeps : Bool) (os : List Opd) → OpsBound sc os
          → Takes p (in_body r hd) vs (Make u (length es) keeps) (typing scope (ops os)) vs (to keeps os)
      leave : (keeps : Bool) (j : Layout) (b : ℕ) (k : List Todo) (e v : ℕ) (os : List Opd)
          → G (with_value keeps j) b (typing y.scope (left keeps y os)) k e v
          → G (with_value keeps j) b (to keeps os) k e v

    -- ---- without a constructor

    making_bare : ((c : Body) → IsConstructorBody p (bound sc x) c → ⊥) → (st l : ℕ) → l ≡ st
        → Making [] (of_new (made sc x) (fresh_with (made sc x) sc) (fresh_with (made sc x) sc).scope) st l
    making_bare lacks st l end = record {
      scope = sc;
      ops = λ os. os;
      to = λ keeps os. typing sc (cond keeps (opd T None ∷ os) os);
      anchored = of_term.anchored;
      same_bound = refl;
      arrive = λ j b k v os ob g. at_place p i n m code it there r hd j b vs (typing sc os) k st l v end
          (more p i n m code it there r hd j b vs (typing sc os) k l (5 * 0 + v) v (omega arith) g);
      takes = λ keeps os ob. bare_takes p B vs its sc known_sc u x of_term lacks keeps os;
      leave = leave;
    } where
      leave : (keeps : Bool) (j : Layout) (b : ℕ) (k : List Todo) (e v : ℕ) (os : List Opd)
          → G (with_value keeps j) b (typing (bind (next_path sc) T ∷ sc)
          (cond keeps (opd T (Some (next_path sc)) ∷ os) os)) k e v
          → G (with_value keeps j) b (typing sc (cond keeps (opd T None ∷ os) os)) k e v
      leave true j b k e v os g = moved p i n m code it there r hd leads (with_value true j) b vs
          (typing sc (opd T None ∷ os)) (typing (bind (next_path sc) T ∷ sc) (opd T (Some (next_path sc)) ∷ os)) k e v
          (named T T (next_path sc) (omega arith) (unbound p B vs its sc known_sc u x of_term) of_term.known.fits
          (below_itself T tt) same) g
      leave false j b k e v os g = moved p i n m code it there r hd leads (with_value false j) b vs
          (typing sc os) (typing (bind (next_path sc) T ∷ sc) os) k e v
          (unseen T (next_path sc) (omega arith) (unbound p B vs its sc known_sc u x of_term) of_term.known.fits same) g

    -- ---- by a constructor

    making_by : (es : List Expr) (st l : ℕ) (b0 : Body) (c : Header) (passed : Passed)
        → IsConstructorBody p (bound sc x) b0 → IsHeader p b0 c
        → ArgsGo p i n m code it r hd vs b0 c c.vars es (bind (next_path sc) (normal_type sc (made_exact x)) ∷ sc)
        (next_path sc) [] passed st l
        → Making es (of_new (made sc x) (fresh_with (made sc x) sc) passed.scope) st l
    making_by es st l b0 c passed cons head a = record {
      scope = passed.scope;
      ops = λ os. onto a.args os;
      to = λ keeps os. typing passed.scope
          (cond keeps (opd (normal_type passed.scope (made_exact x)) (Some (next_path sc)) ∷ os) os);
      anchored = apart.0;
      same_bound = apart.1;
      arrive = λ j b k v os ob g. moved p i n m code it there r hd leads j b vs (typing sc os)
          (typing (bind (next_path sc) T ∷ sc) os) (args_acts (length vs) es k) st v
          (unseen T (next_path sc) (omega arith) (unbound p B vs its sc known_sc u x of_term) of_term.known.fits same)
          (a.go j b k v os (ops_grown (more_grown none_grown) ob) g);
      takes = λ keeps os ob. by_takes p B vs its sc known_sc u x of_term b0 cons c head passed.scope a.grown a.known keeps
          es a.args a.all os ob a.count
          (subst (ArgsFit passed.scope (replaced_paths c.vars) (next_path sc ∷ a.all) c.vars a.args) (sym a.split) a.fit)
          a.apart;
      leave = leave;
    } where
      apart : Anchored passed.scope x.anchor × (bound passed.scope x ≡ bound sc x)
      apart = bound_three p B vs its sc known_sc u x of_term b0 cons c head passed.scope a.grown a.known

      is : normal_type passed.scope (made_exact x) ≡ normal_type sc (made_exact x)
      is = settled p B vs its sc known_sc u x of_term b0 cons c head passed.scope a.grown a.known

      leave : (keeps : Bool) (j : Layout) (b : ℕ) (k : List Todo) (e v : ℕ) (os : List Opd)
          → G (with_value keeps j) b (typing passed.scope (cond keeps (opd T (Some (next_path sc)) ∷ os) os)) k e v
          → G (with_value keeps j) b (typing passed.scope
          (cond keeps (opd (normal_type passed.scope (made_exact x)) (Some (next_path sc)) ∷ os) os)) k e v
      leave true j b k e v os g = as_typed p i n m code it there r hd (with_value true j) b vs
          (typing passed.scope (opd (normal_type passed.scope (made_exact x)) (Some (next_path sc)) ∷ os))
          (typing passed.scope (opd T (Some (next_path sc)) ∷ os)) k e v
          (ap (λ (z : Ty). typing passed.scope (opd z (Some (next_path sc)) ∷ os)) (sym is)) g
      leave false j b k e v os g = g

    -- ---- by the node of the act

    whole : (es : List Expr) (y : Typed) (st l e : ℕ) (keeps : Bool) (pl : Place) (a : Making es y st l)
        → ((j : Layout) (b : ℕ) (k : List Todo) (v : ℕ) (os : List Opd) (to : Typing)
        → ActLeads p i n m code it r hd vs (Make u (length es) keeps) k (context vs (typing a.scope (a.ops os)))
        (context vs to)
        → G (with_value keeps j) b to k e (11 + v)
        → G (framed es j) (suc b) (typing a.scope (a.ops os)) (todo (length vs) (Make u (length es) keeps) ∷ k) l
        (3 * length es + v))
        → ExprGoes p i n m code it r hd vs sc keeps (expr pl (node.New u es)) y st e
    whole es y st l e keeps pl a makes kept j b k v os ob g =
        as_todo p i n m code it there r hd j b vs (typing sc os) _ _ st v
        ((acts_are.exprs pl keeps (length vs) k).new u es)
        (a.arrive j b (todo (length vs) (Make u (length es) keeps) ∷ k) v os ob
        (more p i n m code it there r hd (framed es j) b vs (typing a.scope (a.ops os)) _ l (3 * length es + v)
        (5 * length es + v) (omega arith)
        (less p i n m code it there r hd (framed es j) b vs (typing a.scope (a.ops os)) _ l (3 * length es + v)
        (makes j b k v os (a.to keeps os)
        (leads.acts vs vs (Make u (length es) keeps) k (typing a.scope (a.ops os)) (a.to keeps os) (a.takes keeps os ob))
        (a.leave keeps j b k e (11 + v) os
        (more p i n m code it there r hd (with_value keeps j) b vs (typing y.scope (left keeps y os)) k e (5 + v) (11 + v)
        (omega arith) g))))))

    class_at : {es : List Expr} {y : Typed} {st l : ℕ} → (a : Making es y st l) → IsClass p (bound a.scope x)
    class_at a = subst (IsClass p) (sym a.same_bound) of_term.class

    short_at : {es : List Expr} {y : Typed} {st l : ℕ} → Making es y st l → (cls : List Instr) → ClassCode n x cls
        → length cls ≤ 10
    short_at a cls class = class_short p n a.scope x cls limits a.anchored (class_at a).universe class

    -- the machine calls it
    called : (es : List Expr) (y : Typed) (st l e : ℕ) (keeps : Bool) (pl : Place) (a : Making es y st l)
        (cls : List Instr) (C : Name) (P : Path) (j : ℕ) (shape : Shape) → x.names ++ x.exact ≡ C ∷ P → MethodOf n C j shape
        → length shape.params ≡ length es → ClassCode n x cls
        → Run it.instrs (cls ++ ins.New ∷ (ins.Ctor j ∷ dropping keeps 3)) l e
        → ((os : List Opd) (f : Frame) (h : Heap) → Stood p r hd (context vs (typing a.scope (a.ops os))) f h
        → MakesWell p u C shape x (trimmed (site_at r hd vs) f))
        → ExprGoes p i n m code it r hd vs sc keeps (expr pl (node.New u es)) y st e
    called es y st l e keeps pl a cls C P j shape is sel many class runs well =
        whole es y st l e keeps pl a (λ o b k v os to lead g.
        laid.make few once (framed es o) o b (site_at r hd vs) (context vs (typing a.scope (a.ops os))) (context vs to) u x
        cls C P j (length es) shape keeps k l e v high (takes_framed es o) of_term.is class (short_at a cls class) is runs
        sel many (λ f h st. well os f h st) lead g)

    -- the machine calls none
    not_called : (es : List Expr) (y : Typed) (st l e : ℕ) (keeps : Bool) (pl : Place) (a : Making es y st l)
        (cls : List Instr) → length es ≡ 0 → ClassCode n x cls
        → Run it.instrs (cls ++ ins.New ∷ dropping keeps 3) l e
        → ((os : List Opd) (f : Frame) (h : Heap) → Stood p r hd (context vs (typing a.scope (a.ops os))) f h
        → MakesBare p u x (trimmed (site_at r hd vs) f))
        → ExprGoes p i n m code it r hd vs sc keeps (expr pl (node.New u es)) y st e
    not_called es y st l e keeps pl a cls none class runs well =
        whole es y st l e keeps pl a (λ o b k v os to lead g.
        subst (λ (zs : List Expr). G (framed zs o) (suc b) (typing a.scope (a.ops os))
        (todo (length vs) (Make u (length zs) keeps) ∷ k) l (3 * length zs + v)) (sym (no_exprs es none))
        (more p i n m code it there r hd o (suc b) vs (typing a.scope (a.ops os)) _ l v (3 * 0 + v) (omega arith)
        (laid.make_bare few o b (site_at r hd vs) (context vs (typing a.scope (a.ops os))) (context vs to) u x cls keeps k l e
        v high of_term.is class (short_at a cls class) runs (λ f h st. well os f h st)
        (subst (λ (zs : List Expr). ActLeads p i n m code it r hd vs (Make u (length zs) keeps) k
        (context vs (typing a.scope (a.ops os))) (context vs to)) (no_exprs es none) lead)
        (more p i n m code it there r hd (with_value keeps o) b vs to k e (11 + v) (20 + v) (omega arith) g))))

    -- ---- by the code

    by_code : (es : List Expr) (y : Typed) (st l e : ℕ) (keeps : Bool) (pl : Place) (a : Making es y st l)
        (cls ctor : List Instr) → ClassCode n x cls → CtorCode n x (length es) ctor
        → Run it.instrs (cls ++ ins.New ∷ (ctor ++ dropping keeps 3)) l e
        → ((C : Name) (P : Path) (j : ℕ) (shape : Shape) → x.names ++ x.exact ≡ C ∷ P → MethodOf n C j shape
        → ctor ≡ ins.Ctor j ∷ [] → length shape.params ≡ length es → shape.result ≡ 0
        → (os : List Opd) (f : Frame) (h : Heap) → Stood p r hd (context vs (typing a.scope (a.ops os))) f h
        → MakesWell p u C shape x (trimmed (site_at r hd vs) f))
        → ExprGoes p i n m code it r hd vs sc keeps (expr pl (node.New u es)) y st e
    by_code es y st l e keeps pl a cls ctor class (ctor_code C P j shape is sel many result made_of) runs well =
        called es y st l e keeps pl a cls C P j shape is sel many class
        (subst (λ (zs : List Instr). Run it.instrs (cls ++ ins.New ∷ (zs ++ dropping keeps 3)) l e) made_of runs)
        (well C P j shape is sel made_of many result)
    by_code es y st l e keeps pl a cls ctor class (bare_code none lacks made_of) runs well =
        let top = first_of (x.names ++ x.exact) (made_named p (site_at r hd vs) u x of_term.is) in
        not_called es y st l e keeps pl a cls none class
        (subst (λ (zs : List Instr). Run it.instrs (cls ++ ins.New ∷ (zs ++ dropping keeps 3)) l e) made_of runs)
        (λ os f h st. makes_bare p laws i n rows r hd vs a.scope u x of_term.is of_term.paths of_term.path a.anchored
        (class_at a) top.name top.rest top.is
        (λ j shape sel long result. lacks top.name top.rest j shape top.is sel long result) (a.ops os) f h st)

    -- where the bound has no constructor, the class has none with parameters
    without_one : (es : List Expr) (y : Typed) (st l e : ℕ) (keeps : Bool) (pl : Place) (a : Making es y st l)
        (cls ctor : List Instr) → ((b : Body) → IsConstructorBody p (bound sc x) b → ⊥) → length es ≡ 0
        → ClassCode n x cls → CtorCode n x (length es) ctor
        → Run it.instrs (cls ++ ins.New ∷ (ctor ++ dropping keeps 3)) l e
        → ExprGoes p i n m code it r hd vs sc keeps (expr pl (node.New u es)) y st e
    without_one es y st l e keeps pl a cls ctor lacks none class ctors runs =
        by_code es y st l e keeps pl a cls ctor class ctors runs
        (λ C P j shape named_so sel made_of many result os f h1 z.
        makes_none p laws i n rows r hd vs a.scope u x of_term.is of_term.paths of_term.path a.anchored (class_at a) C P shape
        named_so (λ b cb. lacks b (subst (λ (R : Path). IsConstructorBody p R b) a.same_bound cb)) (many ∙ none) result
        (a.ops os) f h1 z)

    -- where it has one, the selector is of its shape
    with_one : (es : List Expr) (y : Typed) (st l e : ℕ) (keeps : Bool) (pl : Place) (a : Making es y st l)
        (cls ctor : List Instr) (b0 : Body) (c : Header) → IsConstructorBody p (bound sc x) b0 → IsHeader p b0 c
        → ((C : Name) (P : Path) (j : ℕ) (shape : Shape) → x.names ++ x.exact ≡ C ∷ P → MethodOf n C j shape
        → ctor ≡ ins.Ctor j ∷ [] → IsShape c.vars c.result shape)
        → ClassCode n x cls → CtorCode n x (length es) ctor
        → Run it.instrs (cls ++ ins.New ∷ (ctor ++ dropping keeps 3)) l e
        → ExprGoes p i n m code it r hd vs sc keeps (expr pl (node.New u es)) y st e
    with_one es y st l e keeps pl a cls ctor b0 c cons head shapes class ctors runs =
        by_code es y st l e keeps pl a cls ctor class ctors runs
        (λ C P j shape named_so sel made_of many result os f h1 z.
        makes_by p laws i n rows r hd vs a.scope u x of_term.is of_term.paths of_term.path a.anchored (class_at a) C P shape
        b0 c named_so (subst (λ (R : Path). IsConstructorBody p R b0) (sym a.same_bound) cons) head
        (shapes C P j shape named_so sel made_of) (a.ops os) f h1 z)

    -- ---- the form

    pub new_goes : (es : List Expr) (y : Typed) (st l e : ℕ) (keeps : Bool) (pl : Place) (cls ctor : List Instr)
        → NewTyped p (at_vars p i n m code it r hd vs) sc x es y
        → ((d : Body) (c : Header) (passed : Passed) → IsConstructorBody p (bound sc x) d → IsHeader p d c
        → c.vars ≡ [] ++ c.vars → length c.vars ≡ length es
        → ScopeKnown p (at_vars p i n m code it r hd vs) (fresh_with (made sc x) sc).scope
        → AsDeep (header_scope d c) (fresh_with (made sc x) sc).scope 0 (fresh_with (made sc x) sc).path
        → PutFor (header_scope d c) (fresh_with (made sc x) sc).scope [] []
        → Gives p (args_typed (at_vars p i n m code it r hd vs) (replaced_paths c.vars) c.vars
        (typed_args (at_vars p i n m code it r hd vs) es) ((fresh_with (made sc x) sc).path ∷ [])
        (fresh_with (made sc x) sc).scope) (Ok passed)
        → ArgsGo p i n m code it r hd vs d c c.vars es (fresh_with (made sc x) sc).scope (fresh_with (made sc x) sc).path []
        passed st l)
        → (((d : Body) → IsConstructorBody p (bound sc x) d → ⊥) → (es ≡ []) × (l ≡ st))
        → ((d : Body) (c : Header) (C : Name) (P : Path) (j : ℕ) (shape : Shape) → IsConstructorBody p (bound sc x) d
        → IsHeader p d c → x.names ++ x.exact ≡ C ∷ P → MethodOf n C j shape → ctor ≡ ins.Ctor j ∷ []
        → IsShape c.vars c.result shape)
        → ClassCode n x cls → CtorCode n x (length es) ctor
        → Run it.instrs (cls ++ ins.New ∷ (ctor ++ dropping keeps 3)) l e
        → ExprGoes p i n m code it r hd vs sc keeps (expr pl (node.New u es)) y st e
    new_goes es y st l e keeps pl cls ctor (bare lacks none is) args at shapes class ctors runs =
        let end = at lacks in
        subst (λ (z : Typed). ExprGoes p i n m code it r hd vs sc keeps (expr pl (node.New u es)) z st e) (sym is)
        (without_one es _ st l e keeps pl
        (subst (λ (zs : List Expr). Making zs
        (of_new (made sc x) (fresh_with (made sc x) sc) (fresh_with (made sc x) sc).scope) st l) (sym end.0)
        (making_bare lacks st l end.1)) cls ctor lacks none class ctors runs)
    new_goes es y st l e keeps pl cls ctor (by b0 c passed cons head long given is) args at shapes class ctors runs =
        subst (λ (z : Typed). ExprGoes p i n m code it r hd vs sc keeps (expr pl (node.New u es)) z st e) (sym is)
        (with_one es _ st l e keeps pl (making_by es st l b0 c passed cons head
        (args b0 c passed cons head refl long (good p B vs its sc known_sc u x of_term)
        (deep p B vs its sc known_sc u x of_term b0 cons c head) put_none given)) cls ctor b0 c cons head
        (λ C P j shape named_so sel made_of. shapes b0 c C P j shape cons head named_so sel made_of) class ctors runs)
