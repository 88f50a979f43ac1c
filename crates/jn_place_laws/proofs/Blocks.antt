-- Blocks: behind one the variables are those before it, and the scope differs in masks alone. `if` and `while`.
use Rattle.std.proofs.Common.{◌≡◌, ◌≤◌, ℕ, suc, ◌+◌, List, [], ◌∷◌, ◌++◌, length, true, false, Some, refl, sym, ap, ◌∙◌, subst, arith}
use Rattle.std.specs.Prelude.{slice_get, map, take, ◌&&◌, Ok}
use Rattle.jn_base.specs.declared.tree.Place.{Place}
use Rattle.jn_base.specs.declared.tree.Expr.{Expr}
use Rattle.jn_base.specs.declared.tree.Stmt.{Stmt}
use Rattle.jn_base.specs.declared.tree.Stmt.TheVariants as stmt
use Rattle.jn_base.specs.declared.tree.Program.{Program}
use Rattle.jn_base.specs.declared.types.Ty.{Ty}
use Rattle.jn_base.specs.declared.types.Ty.TheVariants as ty
use Rattle.jn_base.specs.declared.names.Var.{Var}
use Rattle.jn_base.specs.Atoms.{Among, first, later}
use Rattle.jn_base.specs.Scopes.{Bind, Scope, Binds}
use Rattle.jn_base.specs.Fits.{BindsFit}
use Rattle.jn_base.specs.Resolve.{is_class}
use Rattle.jn_code.specs.declared.instr.Instr.TheVariants as ins
use Rattle.jn_code.specs.declared.image.Image.{Image}
use Rattle.jn_code.specs.declared.image.Code.{Code}
use Rattle.jn_sem.specs.State.{Frame}
use Rattle.jn_sem.specs.Acts.{Todo, todo, Choose, stmts_acts, path_behind}
use Rattle.jn_sem.proofs.ActLaws.{acts_are}
use Rattle.jn_laws.proofs.AlikeScopes.{binds_like}
use Rattle.jn_rules.specs.Headers.{Header}
use Rattle.jn_rules.specs.Questions.{Gives}
use Rattle.jn_rules.specs.Exprs.{Typed, bind}
use Rattle.jn_rules.specs.Plans.{done}
use Rattle.jn_rules.specs.Stmts.{In, Before, run_through, block_typed, out_of, stmt_types, stmts_type}
use Rattle.jn_rules.proofs.PlanLaws.{then_came}
use Rattle.jn_rule_laws.specs.LawsOfForms.{Grown, none as none_grown, more as more_grown}
use Rattle.jn_sound.specs.Takes.{opd, Typing, typing}
use Rattle.jn_sound.specs.Fit.{Narrowed, none as narrow_none, dropped, kept}
use Rattle.jn_sound.specs.KnownScopes.{StmtKnown}
use Rattle.jn_sound.specs.Tree.{Fresher}
use Rattle.jn_rule_laws.specs.Behind.{MasksApart, none as apart_none, one as apart_one, Over, Moved}
use Rattle.jn_sound.proofs.Scopes.{grown_binds, grown_among}
use Rattle.jn_rule_laws.proofs.Behind.{same_before}
use Rattle.jn_sound.proofs.Stmts.{narrowed_itself, narrowed_fresh, take_all}
use Rattle.jn_sound.proofs.Blocks.{with_scope, known_at, apart_alike}
use Rattle.jn_rule_laws.proofs.Behind.{left_over, all_move}
use Rattle.jn_sound.proofs.Choices.{ScopesJoined}
use Rattle.jn_agree.specs.Naming.{Naming}
use Rattle.jn_agree.specs.Places.{At}
use Rattle.jn_node_laws.specs.LawsOfNodes.{NodesOf}
use Rattle.jn_node_laws.specs.LawsOfLaidNodes.{LaidNodesOf}
use Rattle.jn_place_laws.specs.Contexts.{Context, context, Stood, known, in_body, site_at}
use Rattle.jn_place_laws.specs.LawsOfContexts.{ActsLead, FactsHold}
use Rattle.jn_place_laws.proofs.Going.{Go, ExprGoes, StmtsGo, StmtGoes}
use Rattle.jn_place_laws.proofs.Steps.{more, as_todo, as_typed, jumped, narrows, less}
use Rattle.jn_place_laws.proofs.Operands.{bool_kept}
use Rattle.jn_place_laws.proofs.Statements.{valued, ended}

-- ---- scopes

narrowed_grown : {o t : Scope} → Grown o t → Narrowed t o
narrowed_grown {o = o} none_grown = narrowed_itself o
narrowed_grown (more_grown g) = dropped (narrowed_grown g)

-- what was before a block has no fewer masks than what is behind it
narrowed_back : {s t : Scope} → MasksApart s t → Narrowed t s
narrowed_back apart_none = narrow_none
narrowed_back (apart_one a r) = kept (record {
  path = sym a.path;
  atoms = sym a.atoms;
  masks = a.fewer;
  kind = sym a.class;
  plain = λ e. sym (a.plain (sym a.class ∙ e));
}) (narrowed_back r)

-- an old bind's path has no newer bind
among_old : {o t : Scope} → Grown o t → BindsFit t → (c : Bind) → Among t c → Binds o c.path → Among o c
among_old none_grown f c m n = m
among_old (more_grown g) f c first n = absurd (f.1 (grown_binds g c.path n))
among_old (more_grown g) f c (later m) n = among_old g f.0 c m n

taken_vars : (vs ws : List Var) → vs ≡ take (length vs) (vs ++ ws)
taken_vars [] ws = refl
taken_vars (v ∷ vs) ws = ap (λ (us : List Var). v ∷ us) (taken_vars vs ws)

among_left : (vs ws : List Var) (v : Var) → Among vs v → Among (vs ++ ws) v
among_left _ ws v first = first
among_left _ ws v (later m) = later (among_left _ ws v m)

module _ (p : Program) (i : Image) (n : Naming) (m : ℕ) (code : ℕ) (it : Code) (there : slice_get i.codes code ≡ Some it)
    (r : Frame) (hd : Header) (nodes : NodesOf p i n m (known p) Context (Stood p r hd) code it r)
    (laid : LaidNodesOf p i n m (known p) Context (Stood p r hd) code it r) (leads : ActsLead p i n m code it r hd)
    (facts : (vs : List Var) (s : Scope) → FactsHold p i n m code it r hd vs s) where
  abbrev B : In
  B = in_body r hd

  abbrev G : ℕ → List Var → Typing → List Todo → ℕ → ℕ → Type 0
  G = Go p i n m code it r hd

  -- a block from x, whose statements lead to z, ends in y
  pub record BlockGoes (x y : Before) (body : List Stmt) (s t : ℕ) : Type 0 where
    pub known : StmtKnown p B y
    pub vars : y.vars ≡ x.vars
    pub apart : MasksApart x.scope y.scope
    pub next : y.next ≡ path_behind body x.next
    pub grows : x.next ≤ y.next
    pub go : (b : ℕ) (k : List Todo) (w : ℕ) → G b x.vars (typing y.scope []) k t w
        → G b x.vars (typing x.scope []) (stmts_acts (length x.vars) x.next body k) s w

  -- what is known behind a block
  known_out : (x z : Before) (o : Over x.scope z.scope) (ws : List Var) → z.vars ≡ x.vars ++ ws → x.next ≤ z.next →
      z.next ≤ 256 → StmtKnown p B x → StmtKnown p B z → StmtKnown p B (with_scope x o.old z.next)
  known_out x z o ws e grows few known_x there_z = known_at p B x known_x o.old z.next o.apart
      (λ c a. there_z.masks c (grown_among o.grown c a)) plain grows few where
        plain : (v : Var) → Among x.vars v → (v.fixed && is_class v.ty) ≡ false → Among o.old (bind v.path v.ty)
        plain v a is = among_old o.grown there_z.scope.scope.binds (bind v.path v.ty)
            (there_z.scope.plain v (subst (λ (us : List Var). Among us v) (sym e) (among_left x.vars ws v a)) is)
            (binds_like (apart_alike o.apart) v.path (known_x.covers.all v a))

  pub block_goes : (top : ℕ) → top ≤ 256 → (x y : Before) (body : List Stmt) (s t : ℕ) → StmtKnown p B x → y.next ≤ top
      → Gives p (block_typed (map (stmt_types B) body) x) (Ok y)
      → ((z : Before) → Gives p (stmts_type B body x) (Ok z) → z.next ≤ top
      → StmtKnown p B z × StmtsGo p i n m code it r hd x z body s t) → BlockGoes x y body s t
  block_goes top high x y body s t known_x few g inside =
      let c = then_came (run_through (map (stmt_types B) body) x) (λ z. done (out_of x z)) y g in
      let is = same_before (out_of x c.first) y c.then in
      let a = all_move p B body x c.first c.gave in
      let small : c.first.next ≤ top = subst (λ (z : Before). z.next ≤ top) is few in
      let one = inside c.first c.gave small in
      subst (λ (u : Before). BlockGoes x u body s t)
      (sym (is ∙ ap (λ (o : Scope). with_scope x o c.first.next) (left_over x c.first a.over)))
      (out c.first a (omega (arith, small, high)) one.0 one.1) where
        out : (z : Before) (a : Moved x z (path_behind body x.next)) → z.next ≤ 256 → StmtKnown p B z
            → StmtsGo p i n m code it r hd x z body s t → BlockGoes x (with_scope x a.over.old z.next) body s t
        out z a small known_z one = record {
          known = behind;
          vars = refl;
          apart = a.over.apart;
          next = a.next;
          grows = a.grows;
          go = λ b k w g. one b k w
              (narrows p i n m code it there r hd b z.vars x.vars z.scope a.over.old [] k t w
              (taken_vars x.vars a.more ∙ sym (ap (λ (vs : List Var). take (length x.vars) vs) a.vars))
              known_x.params (narrowed_grown a.over.grown) behind.scope.scope.binds behind.covers g);
        } where
          behind : StmtKnown p B (with_scope x a.over.old z.next)
          behind = known_out x z a.over a.more a.vars a.grows small known_x known_z

  -- ---- a block as a statement

  pub inner_goes : (x y : Before) (body : List Stmt) (s t : ℕ) → BlockGoes x y body s t
      → StmtGoes p i n m code it r hd x y (stmt.Block body) s t
  inner_goes x y body s t go ss b k w g =
      as_todo p i n m code it there r hd [] b x.vars (typing x.scope []) _ _ s w
      ((acts_are.stmts (length x.vars) x.next ss k).block body)
      (go.go b (stmts_acts (length x.vars) (path_behind body x.next) ss k) w
      (subst (λ (q : ℕ). G b x.vars (typing y.scope []) (stmts_acts (length x.vars) q ss k) t w) go.next
      (subst (λ (vs : List Var). G b vs (typing y.scope []) (stmts_acts (length vs) y.next ss k) t w) go.vars g)))

  -- ---- `if`

  bool_opd : (y : Typed) → y.ty ≡ ty.Bool → typing y.scope (opd ty.Bool y.path ∷ []) ≡ typing y.scope
      (opd y.ty y.path ∷ [])
  bool_opd y e = ap (λ (u : Ty). typing y.scope (opd u y.path ∷ [])) (sym e)

  pub choice_goes : (x : Before) (e : Expr) (one other : List Stmt) (at : Place) (y : Typed) (u v : Before)
      (joined_scope : Scope) (s a o q : ℕ) → StmtKnown p B x → StmtKnown p B (with_scope x joined_scope v.next)
      → y.ty ≡ ty.Bool → Fresher x.scope y.scope → ExprGoes p i n m code it r hd x.vars x.scope true e y s a
      → At it.instrs a (ins.Jfalse (o + 1)) → BlockGoes x u one (a + 1) o → At it.instrs o (ins.Jump q)
      → BlockGoes (with_scope x x.scope u.next) v other (o + 1) q → ScopesJoined u.scope v.scope joined_scope
      → StmtGoes p i n m code it r hd x (with_scope x joined_scope v.next) (stmt.If e one other at) s q
  choice_goes x e one other at y u v js s a o q known_x known_z is_bool grown value at_test first_way at_jump second_way
      ends ss b k w g =
      as_todo p i n m code it there r hd [] b x.vars (typing x.scope []) _ _ s w
      ((acts_are.stmts (length x.vars) x.next ss k).choice e one other at)
      (valued p i n m code it there r hd nodes laid leads facts x.vars x.scope e y s a (bool_kept y.ty is_bool) value b _
      w
      (as_typed p i n m code it there r hd [] b x.vars (typing y.scope (opd y.ty y.path ∷ []))
      (typing y.scope (opd ty.Bool y.path ∷ [])) (todo (length x.vars) (Choose x.next one other) ∷ rest) a (5 + w)
      (bool_opd y is_bool)
      (less p i n m code it there r hd [] b x.vars (typing y.scope (opd ty.Bool y.path ∷ [])) _ a (5 + w)
      (nodes.choose b (site_at r hd x.vars) (context x.vars (typing y.scope (opd ty.Bool y.path ∷ [])))
      (context x.vars (typing y.scope [])) (context x.vars (typing y.scope [])) x.next one other rest a (o + 1) (5 + w)
      at_test (leads.chooses x.vars y.scope [] y.path x.next one other rest)
      (ended p i n m code it there r hd nodes laid leads facts x known_x y.scope [] b _ (a + 1) (20 + (5 + w))
      (narrowed_fresh grown)
      (first_way.go b rest (20 + (5 + w))
      (more p i n m code it there r hd [] b x.vars (typing u.scope []) rest o (suc w) (20 + (5 + w)) (omega arith)
      (jumped p i n m code it there r hd [] b x.vars (typing u.scope []) rest o q w at_jump
      (to_end u.scope b q w ends.left behind)))))
      (ended p i n m code it there r hd nodes laid leads facts x known_x y.scope [] b _ (o + 1) (20 + (5 + w))
      (narrowed_fresh grown)
      (subst (λ (z : ℕ). G b x.vars (typing x.scope []) (stmts_acts (length x.vars) z other rest) (o + 1)
      (20 + (5 + w))) first_way.next
      (second_way.go b rest (20 + (5 + w))
      (more p i n m code it there r hd [] b x.vars (typing v.scope []) rest q w (20 + (5 + w)) (omega arith)
      (to_end v.scope b q w ends.right behind))))))))) where
        rest : List Todo
        rest = stmts_acts (length x.vars) (path_behind other (path_behind one x.next)) ss k

        -- the number of the next local is that behind both
        behind : G b x.vars (typing js []) (stmts_acts (length x.vars) (path_behind other (path_behind one x.next)) ss k) q w
        behind = subst (λ (z : ℕ). G b x.vars (typing js []) (stmts_acts (length x.vars) z ss k) q w)
            (second_way.next ∙ ap (path_behind other) first_way.next) g

        to_end : (t : Scope) (b : ℕ) (q w : ℕ) → Narrowed t js → G b x.vars (typing js []) rest q w
            → G b x.vars (typing t []) rest q w
        to_end t b q w nar g =
            narrows p i n m code it there r hd b x.vars x.vars t js [] rest q w (take_all x.vars) known_x.params nar
            known_z.scope.scope.binds known_z.covers g

  -- ---- `while`

  pub loop_goes : (x : Before) (e : Expr) (body : List Stmt) (at : Place) (y : Typed) (u : Before) (s a o : ℕ)
      → StmtKnown p B x → y.ty ≡ ty.Bool → Fresher x.scope y.scope
      → ExprGoes p i n m code it r hd x.vars x.scope true e y s a → At it.instrs a (ins.Jfalse (o + 1))
      → BlockGoes x u body (a + 1) o → At it.instrs o (ins.Jump s)
      → StmtGoes p i n m code it r hd x (with_scope x x.scope u.next) (stmt.While e body at) s (o + 1)
  loop_goes x e body at y u s a o known_x is_bool grown value at_test inside at_jump ss b k w g =
      as_todo p i n m code it there r hd [] b x.vars (typing x.scope []) _ _ s w
      ((acts_are.stmts (length x.vars) x.next ss k).loop e body at)
      (nodes.loop (site_at r hd x.vars) (context x.vars (typing x.scope []))
      (context x.vars (typing y.scope (opd ty.Bool y.path ∷ []))) (context x.vars (typing y.scope []))
      (context x.vars (typing y.scope [])) x.next e body rest s a o w at_test at_jump
      (leads.repeats x.vars y.scope [] y.path x.next e body rest)
      (λ b k w g. valued p i n m code it there r hd nodes laid leads facts x.vars x.scope e y s a
      (bool_kept y.ty is_bool) value b k w
      (as_typed p i n m code it there r hd [] b x.vars (typing y.scope (opd y.ty y.path ∷ []))
      (typing y.scope (opd ty.Bool y.path ∷ [])) k a (5 + w) (bool_opd y is_bool)
      (more p i n m code it there r hd [] b x.vars (typing y.scope (opd ty.Bool y.path ∷ [])) k a w (5 + w)
      (omega arith) g)))
      (λ b k w g. ended p i n m code it there r hd nodes laid leads facts x known_x y.scope [] b _ (a + 1) w
      (narrowed_fresh grown)
      (inside.go b k w
      (ended p i n m code it there r hd nodes laid leads facts x known_x u.scope [] b k o w (narrowed_back inside.apart)
      g)))
      b
      (ended p i n m code it there r hd nodes laid leads facts x known_x y.scope [] b rest (o + 1) w
      (narrowed_fresh grown)
      (subst (λ (q : ℕ). G b x.vars (typing x.scope []) (stmts_acts (length x.vars) q ss k) (o + 1) w) inside.next g)))
    where
      rest : List Todo
      rest = stmts_acts (length x.vars) (path_behind body x.next) ss k
