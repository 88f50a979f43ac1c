-- EACH LIST OF STATEMENTS GOES, by its place.
use Rattle.std.proofs.Common.{◌≡◌, ◌≤◌, ◌<◌, ℕ, suc, ◌+◌, List, [], ◌∷◌, length, map, Bool, true, false, Some, None, refl, sym, ap, ◌∙◌, subst, arith}
use Rattle.std.specs.Prelude.{slice_get, not, ◌||◌, Result, Ok, Err}
use Rattle.jn_base.specs.declared.tree.Expr.{Expr}
use Rattle.jn_base.specs.declared.tree.Named.{Named}
use Rattle.jn_base.specs.declared.tree.TypeTerm.{TypeTerm}
use Rattle.jn_base.specs.declared.tree.Stmt.{Stmt}
use Rattle.jn_base.specs.declared.tree.Stmt.TheVariants as stmt
use Rattle.jn_base.specs.declared.tree.Program.{Program}
use Rattle.jn_base.specs.declared.types.Ty.{Ty}
use Rattle.jn_base.specs.declared.names.Var.{Var}
use Rattle.jn_base.specs.declared.refusal.Refusal.{Refusal}
use Rattle.jn_base.specs.Atoms.{Among, first, later}
use Rattle.jn_base.specs.Scopes.{Scope}
use Rattle.jn_code.specs.declared.image.Image.{Image}
use Rattle.jn_code.specs.declared.image.Code.{Code}
use Rattle.jn_sem.specs.Below.{Below}
use Rattle.jn_sem.specs.Normal.{same_path}
use Rattle.jn_sem.specs.Terms.{Site, TypeIs}
use Rattle.jn_sem.specs.State.{Frame}
use Rattle.jn_sem.specs.Does.{var}
use Rattle.jn_sem.proofs.ActLaws.{acts_are}
use Rattle.jn_sem.proofs.FindingLaws.{finds_one}
use Rattle.jn_sem.proofs.NormalTypes.{type_subst_is}
use Rattle.jn_laws.specs.LawsOfWritten.{Shallow, scope_of}
use Rattle.jn_laws.specs.LawsOfSources.{WellFormed}
use Rattle.jn_rules.specs.Headers.{Header, declared_type}
use Rattle.jn_rules.specs.Plans.{Plan, OfType, done, wants}
use Rattle.jn_rules.specs.Questions.{Gives, Means, Answers}
use Rattle.jn_rules.specs.Exprs.{Typed, site_here, is_bool, is_int, path_of}
use Rattle.jn_rules.specs.Stmts.{In, Before, typed, here, block_typed, choice_typed, loop_typed, joined, local_typed, local_with, with_local, atom_marks, stmt_types, stmts_type, is_void}
use Rattle.jn_rules.proofs.FormLaws.{forms_are}
use Rattle.jn_rules.proofs.PlanLaws.{then_came, wanted, took}
use Rattle.jn_sound.specs.Takes.{typing}
use Rattle.jn_sound.specs.Tree.{ExprKnown, Fresher}
use Rattle.jn_sound.specs.KnownScopes.{StmtKnown, StandsIn, in_block, in_first, in_second, in_loop}
use Rattle.jn_sound.proofs.Scopes.{fits_grown, grown_of}
use Rattle.jn_rule_laws.proofs.Behind.{same_before, noted}
use Rattle.jn_sound.proofs.Blocks.{with_scope, known_at}
use Rattle.jn_rule_laws.proofs.Behind.{apart_itself, all_move, blocks_move}
use Rattle.jn_sound.proofs.Choices.{scopes_joined}
use Rattle.jn_agree.specs.Naming.{Naming}
use Rattle.jn_agree.specs.Places.{Run, HasKind, binding}
use Rattle.jn_agree.specs.Rows.{kind_of_type}
use Rattle.jn_node_laws.specs.Facts.{HasText}
use Rattle.jn_node_laws.specs.LawsOfNodes.{NodesOf}
use Rattle.jn_node_laws.specs.LawsOfLaidNodes.{LaidNodesOf}
use Rattle.jn_places.specs.ExprPlaces.{ExprAt}
use Rattle.jn_places.specs.StmtPlaces.{StmtsAt, no_stmts, block_at, local_at, assign_at, set_at, do_at, if_at, while_at, return_at, end_at, print_at, text_at}
use Rattle.jn_place_laws.specs.Contexts.{Context, Stood, known, in_body}
use Rattle.jn_place_laws.specs.LawsOfContexts.{ActsLead, FactsHold}
use Rattle.jn_place_laws.proofs.Parts.{ExprIn, of_local, of_assign, of_receiver, of_stored, of_do, of_if, of_while, of_return, of_print}
use Rattle.jn_place_laws.proofs.Going.{ExprGoes, StmtsGo, StmtGoes, at_vars}
use Rattle.jn_place_laws.proofs.Premises.{TypingKnown, OtherForms}
use Rattle.jn_place_laws.proofs.Steps.{at_place, as_todo}
use Rattle.jn_place_laws.proofs.Operands.{bool_is}
use Rattle.jn_place_laws.proofs.Exprs.{expr_goes}
use Rattle.jn_place_laws.proofs.Statements.{print_goes, text_goes, return_goes, leave_goes, do_goes, local_goes}
use Rattle.jn_place_laws.proofs.Stores.{assign_goes, set_goes}
use Rattle.jn_place_laws.proofs.Blocks.{block_goes, inner_goes, choice_goes, loop_goes}

not_true : (c : Bool) → not c ≡ true → c ≡ false
not_true true e = cc
not_true false e = refl

answered : (p : Program) (T : Type 0) (ok : Bool) (q : Refusal) (x y : Before) → Answers T ok
    → Gives p (wants ok q (done x)) (Ok y) → T × (y ≡ x)
answered p T true q x y a g = (a, same_before x y g)
answered p T false q x y a g = absurd (no g) where
  no : (let a : Result Before Refusal = Ok y in let c : Result Before Refusal = Err q in a ≡ c) → ⊥
  no e = cc

module _ (p : Program) (deep : Shallow p) (formed : WellFormed p) (i : Image) (n : Naming) (m : ℕ) (code : ℕ)
    (it : Code) (there : slice_get i.codes code ≡ Some it) (r : Frame) (hd : Header)
    (nodes : NodesOf p i n m (known p) Context (Stood p r hd) code it r)
    (laid : LaidNodesOf p i n m (known p) Context (Stood p r hd) code it r) (leads : ActsLead p i n m code it r hd)
    (facts : (vs : List Var) (s : Scope) → FactsHold p i n m code it r hd vs s) (texts : (x : ℕ) → HasText p i x)
    (scratch : ℕ) (high : scratch ≤ 256) (body : List Stmt) (tk : TypingKnown p (in_body r hd) body)
    (others : OtherForms p i n m code it r hd scratch body) where
  abbrev B : In
  B = in_body r hd

  asked : (u : Stmt) (x z : Before) (q : Plan Before) → stmt_types B u x ≡ q → Gives p (stmt_types B u x) (Ok z)
      → Gives p q (Ok z)
  asked u x z q is g = subst (λ (w : Plan Before). Gives p w (Ok z)) is g

  -- the typing of an expression of a statement
  abbrev Value : Before → Expr → Typed → Type 0
  Value x e y = Gives p (typed B x e x.scope) (Ok y)

  -- no variable in scope has a number that is free for `this`
  older : (x : Before) → StmtKnown p B x → x.next ≤ scratch → (v : Var) → Among x.vars v → v.path < scratch
  older x known_x few v a = let l = known_x.older v a in omega (arith, l, few)

  value_goes : (x : Before) (keeps : Bool) (e : Expr) (s l : ℕ) → ExprAt p n scratch it (here B x) x.scope keeps e s l
      → ExprIn body e → StmtKnown p B x → x.next ≤ scratch → (y : Typed) → Value x e y
      → ExprGoes p i n m code it r hd x.vars x.scope keeps e y s l
  value_goes x keeps e s l ea inn known_x few y g =
      expr_goes p deep formed i n m code it there r hd laid leads scratch body tk others x.vars (facts x.vars)
      (older x known_x few) x.scope keeps e s l ea inn known_x.scope y g

  -- with what is known of it
  had : (x : Before) (keeps : Bool) (e : Expr) (s l : ℕ) → ExprAt p n scratch it (here B x) x.scope keeps e s l
      → ExprIn body e → StmtKnown p B x → x.next ≤ scratch → (y : Typed) → Value x e y
      → ExprKnown p (at_vars p i n m code it r hd x.vars) y × Fresher x.scope y.scope
      × ExprGoes p i n m code it r hd x.vars x.scope keeps e y s l
  had x keeps e s l ea inn known_x few y g =
      let k = tk.exprs x.vars e x.scope y inn known_x.scope g in
      (k.0, k.1, value_goes x keeps e s l ea inn known_x few y g)

  -- a statement that leaves all as it was
  stays : (x z : Before) (u : Stmt) (s o : ℕ) → z ≡ x → StmtGoes p i n m code it r hd x x u s o
      → StmtGoes p i n m code it r hd x z u s o
  stays x z u s o is one = subst (λ (z : Before). StmtGoes p i n m code it r hd x z u s o) (sym is) one

  -- ---- a local, by what its written type stands for

  local_there : (x z : Before) (final : Bool) (t : TypeTerm) (name : Named) (e : Expr) (type : Ty) (s l o : ℕ)
      → ExprAt p n scratch it (here B x) x.scope true e s l → StandsIn body (stmt.Local final t name e)
      → TypeIs p (site_here (here B x)) t type → HasKind it x.next (kind_of_type type)
      → Run it.instrs (binding p n scratch it final type x.next) l o → StmtKnown p B x → x.next ≤ scratch → StmtKnown p B z
      → z.next ≤ scratch
      → Gives p (stmt_types B (stmt.Local final t name e) x) (Ok z)
      → StmtGoes p i n m code it r hd x z (stmt.Local final t name e) s o
  local_there x z final t name e type s l o ea inn is has runs known_x few_x known_z few g =
      let a = asked (stmt.Local final t name e) x z _ ((forms_are.stmts B x).local final t name e) g in
      let c = took a.0 (local_typed B x final name e) z a.2 in
      behind c.given (subst (λ (y : Result Ty Refusal). Means p (OfType (site_here (here B x)) t) y) c.is a.1)
      (noted p (atom_marks c.given) _ (Ok z) c.then) where
        site : Site
        site = site_here (here B x)

        goes : (u : Ty) → u ≡ type → z ≡ with_local x (var name.name x.next final u) → (y : Typed) → Value x e y
            → Below p y.scope y.ty u → StmtGoes p i n m code it r hd x z (stmt.Local final t name e) s o
        goes u same e2 y gy below =
            let is_z : z ≡ with_local x (var name.name x.next final type) =
            e2 ∙ ap (λ (w : Ty). with_local x (var name.name x.next final w)) same in
            let k = tk.exprs x.vars e x.scope y (of_local final t name e inn) known_x.scope gy in
            subst (λ (z : Before). StmtGoes p i n m code it r hd x z (stmt.Local final t name e) s o) (sym is_z)
            (local_goes p i n m code it there r hd nodes laid leads facts x final t name e type scratch y s l o known_x
            (subst (StmtKnown p B) is_z known_z)
            (let q : suc x.next ≤ scratch = subst (λ (w : Before). w.next ≤ scratch) is_z few in omega (arith, q, high)) k.0 k.1 is
            (subst (Below p y.scope y.ty) same below) has runs
            (value_goes x true e s l ea (of_local final t name e inn) known_x few_x y gy))

        behind : (u : Ty) → Means p (OfType (site_here (here B x)) t) (Ok u) → Gives p
            (local_with B x name e (var name.name x.next final (declared_type (site_here (here B x)) u))) (Ok z)
            → StmtGoes p i n m code it r hd x z (stmt.Local final t name e) s o
        behind u means g =
            let w : Ty = declared_type (site_here (here B x)) u in
            let v : Var = var name.name x.next final w in
            let c = then_came (typed B x e x.scope) _ z g in
            let q = answered p (Below p c.first.scope c.first.ty w) c.then.0 _ (with_local x v) z c.then.1
            c.then.2 in
            goes w ((finds_one p).type site t w type (record {
              given = u;
              resolved = means;
              normal = (type_subst_is (scope_of site) same_path u (declared_type site u)).1 refl;
            }) is) q.1 c.first c.gave q.0

  -- a statement, and those behind it
  behind : (x : Before) (u : Stmt) (ss : List Stmt) (y : Before) (s o t : ℕ)
      → ((v : Stmt) → Among (u ∷ ss) v → StandsIn body v) → StmtKnown p B x → y.next ≤ scratch
      → Gives p (stmts_type B (u ∷ ss) x) (Ok y)
      → ((z : Before) → Gives p (stmt_types B u x) (Ok z) → StmtKnown p B z → Gives p (stmts_type B ss z) (Ok y)
      → StmtKnown p B y × StmtsGo p i n m code it r hd z y ss o t)
      → (x.next ≤ scratch → (z : Before) → Gives p (stmt_types B u x) (Ok z) → z.next ≤ scratch → StmtKnown p B z
      → StmtGoes p i n m code it r hd x z u s o)
      → StmtKnown p B y × StmtsGo p i n m code it r hd x y (u ∷ ss) s t
  behind x u ss y s o t inn known_x few g rest one =
      let c = then_came (stmt_types B u x) (stmts_type B ss) y
      (subst (λ (z : Plan Before). Gives p z (Ok y)) ((forms_are.stmts B x).more u ss) g) in
      let small : c.first.next ≤ scratch =
      (let l = (all_move p B ss c.first y c.then).grows in omega (arith, few, l)) in
      let old : x.next ≤ scratch = (let l = (all_move p B (u ∷ ss) x y g).grows in omega (arith, few, l)) in
      let known_z = tk.stmts u x c.first (inn u first) known_x (omega (arith, small, high)) c.gave in
      let two = rest c.first c.gave known_z c.then in
      (two.0, λ b k w go. one old c.first c.gave small known_z ss b k w (two.1 b k w go))

  -- all of these stand in the body
  abbrev Inside : List Stmt → Type 0
  Inside ss = (u : Stmt) → Among ss u → StandsIn body u

  mutual
    pub stmts_go : (x : Before) (ss : List Stmt) (s t : ℕ) → StmtsAt p n scratch it B x ss s t
        → ((u : Stmt) → Among ss u → StandsIn body u) → StmtKnown p B x → (y : Before) → y.next ≤ scratch
        → Gives p (stmts_type B ss x) (Ok y) → StmtKnown p B y × StmtsGo p i n m code it r hd x y ss s t
    stmts_go x _ s t (no_stmts _ _ _ end) inn known_x y few g =
        let is = same_before x y (subst (λ (z : Plan Before). Gives p z (Ok y)) (forms_are.stmts B x).none g) in (
          subst (StmtKnown p B) (sym is) known_x,
          subst (λ (z : Before). StmtsGo p i n m code it r hd x z [] s t) (sym is) (λ b k w go.
              as_todo p i n m code it there r hd [] b x.vars (typing x.scope []) _ k s w
              (acts_are.stmts (length x.vars) x.next [] k).none
              (at_place p i n m code it there r hd [] b x.vars (typing x.scope []) k s t w end go)),
        )
    stmts_go x _ s t (block_at _ inner ss _ o _ inside rest) inn known_x y few g =
        behind x (stmt.Block inner) ss y s o t inn known_x few g
        (λ z gz known_z then. stmts_go z ss o t (rest z gz) (λ v a. inn v (later a)) known_z y few then)
        (λ few_x z gz few_z known_z. inner_goes p i n m code it there r hd nodes laid leads facts x z inner s o
        (block_goes p i n m code it there r hd nodes laid leads facts scratch high x z inner s o known_x few_z
        (asked (stmt.Block inner) x z _ ((forms_are.stmts B x).block inner) gz)
        (λ v gv few_v. stmts_go x inner s o inside (λ u a. in_block inner (inn (stmt.Block inner) first) a) known_x v
        few_v gv)))
    stmts_go x _ s t (local_at _ final type_term name e type ss _ l o _ ea is has runs rest) inn known_x y few g =
        behind x (stmt.Local final type_term name e) ss y s o t inn known_x few g
        (λ z gz known_z then. stmts_go z ss o t (rest z gz) (λ v a. inn v (later a)) known_z y few then)
        (λ few_x z gz few_z known_z. local_there x z final type_term name e type s l o ea
        (inn (stmt.Local final type_term name e) first) is has runs known_x few_x known_z few_z gz)
    stmts_go x _ s t (assign_at _ name e v ss _ l o _ ea new has runs rest) inn known_x y few g =
        behind x (stmt.Assign name e) ss y s o t inn known_x few g
        (λ z gz known_z then. stmts_go z ss o t (rest z gz) (λ v a. inn v (later a)) known_z y few then)
        (λ few_x z gz few_z known_z. assign_goes p deep formed i n m code it there r hd nodes laid leads facts x z name e v s l o
        known_x gz (λ q gq. had x true e s l ea (of_assign name e (inn (stmt.Assign name e) first)) known_x few_x q gq) new has
        runs)
    stmts_go x _ s t (set_at _ u f e j kind ss _ l a o _ ua ea sel kinds runs rest) inn known_x y few g =
        behind x (stmt.Set u f e) ss y s o t inn known_x few g
        (λ z gz known_z then. stmts_go z ss o t (rest z gz) (λ v a. inn v (later a)) known_z y few then)
        (λ few_x z gz few_z known_z. set_goes p deep formed i n m code it there r hd nodes laid leads facts x z u f e j kind s l a
        o known_x known_z sel runs gz
        (λ q gq. had x true u s l ua (of_receiver u f e (inn (stmt.Set u f e) first)) known_x few_x q gq)
        (λ q v gq gv good. let k = tk.exprs x.vars e (path_of q.ty q).scope v (of_stored u f e (inn (stmt.Set u f e) first))
        good gv in (
          k.0,
          k.1,
          expr_goes p deep formed i n m code it there r hd laid leads scratch body tk others x.vars (facts x.vars)
              (older x known_x few_x) (path_of q.ty q).scope true e l a (ea q gq) (of_stored u f e (inn (stmt.Set u f e) first)) good v gv,
        )) kinds)
    stmts_go x _ s t (do_at _ e ss _ l _ ea rest) inn known_x y few g =
        behind x (stmt.Do e) ss y s l t inn known_x few g
        (λ z gz known_z then. stmts_go z ss l t (rest z gz) (λ v a. inn v (later a)) known_z y few then)
        (λ few_x z gz few_z known_z.
        let c = then_came (typed B x e x.scope) _ z (asked (stmt.Do e) x z _ ((forms_are.stmts B x).call e) gz) in
        let k = tk.exprs x.vars e x.scope c.first (of_do e (inn (stmt.Do e) first)) known_x.scope c.gave in
        stays x z (stmt.Do e) s l (same_before x z c.then)
        (do_goes p i n m code it there r hd nodes laid leads facts x e c.first s l known_x k.1
        (value_goes x false e s l ea (of_do e (inn (stmt.Do e) first)) known_x few_x c.first c.gave)))
    stmts_go x _ s t (if_at _ e one other pl ss _ a o q _ ea at_test first_at at_jump second_at rest) inn known_x y few
        g =
        behind x (stmt.If e one other pl) ss y s q t inn known_x few g
        (λ z gz known_z then. stmts_go z ss q t (rest z gz) (λ v a. inn v (later a)) known_z y few then)
        (λ few_x z gz few_z known_z.
        let c = then_came (typed B x e x.scope) _ z
        (asked (stmt.If e one other pl) x z _ ((forms_are.stmts B x).choice e one other pl) gz) in
        let w = wanted (is_bool c.first.ty) _
        (choice_typed (map (stmt_types B) one) (map (stmt_types B) other) x) z c.then in
        let k = tk.exprs x.vars e x.scope c.first (of_if e one other pl (inn (stmt.If e one other pl) first))
        known_x.scope c.gave in
        let d = then_came (block_typed (map (stmt_types B) one) x) _ z w.then in
        let f = then_came (block_typed (map (stmt_types B) other) (with_scope x x.scope d.first.next)) _ z d.then in
        let j = then_came (joined d.first.scope f.first.scope) _ z f.then in
        let is = same_before (with_scope x j.first f.first.next) z j.then in
        let small : f.first.next ≤ scratch = subst (λ (v : Before). v.next ≤ scratch) is few_z in
        let l = blocks_move p B one x d.first d.gave in
        let o2 = blocks_move p B other (with_scope x x.scope d.first.next) f.first f.gave in
        let half : d.first.next ≤ scratch = (let v = o2.grows in omega (arith, v, small)) in
        let again = known_at p B x known_x x.scope d.first.next (apart_itself x.scope) known_x.masks known_x.scope.plain
        l.grows (omega (arith, half, high)) in
        let go = block_goes p i n m code it there r hd nodes laid leads facts scratch high x d.first one (a + 1) o known_x half
        d.gave (λ v gv few_v. stmts_go x one (a + 1) o first_at
        (λ u m. in_first e one other pl (inn (stmt.If e one other pl) first) m) known_x v few_v gv) in
        let to = block_goes p i n m code it there r hd nodes laid leads facts scratch high (with_scope x x.scope d.first.next) f.first other
        (o + 1) q again small f.gave
        (λ v gv few_v. stmts_go (with_scope x x.scope d.first.next) other (o + 1) q (second_at d.first d.gave)
        (λ u m. in_second e one other pl (inn (stmt.If e one other pl) first) m) again v few_v gv) in
        let ends = scopes_joined p x.scope d.first.scope f.first.scope j.first go.apart to.apart
        go.known.scope.scope.binds to.known.scope.scope.binds go.known.masks to.known.masks j.gave in
        subst (λ (z : Before). StmtGoes p i n m code it r hd x z (stmt.If e one other pl) s q) (sym is)
        (choice_goes p i n m code it there r hd nodes laid leads facts x e one other pl c.first d.first f.first j.first s
        a o q known_x (subst (StmtKnown p B) is known_z) (bool_is c.first.ty w.test) k.1
        (value_goes x true e s a ea (of_if e one other pl (inn (stmt.If e one other pl) first)) known_x few_x c.first c.gave)
        at_test go at_jump to ends))
    stmts_go x _ s t (while_at _ e inner pl ss _ a o _ ea at_test inside at_jump rest) inn known_x y few g =
        behind x (stmt.While e inner pl) ss y s (o + 1) t inn known_x few g
        (λ z gz known_z then. stmts_go z ss (o + 1) t (rest z gz) (λ v a. inn v (later a)) known_z y few then)
        (λ few_x z gz few_z known_z.
        let c = then_came (typed B x e x.scope) _ z
        (asked (stmt.While e inner pl) x z _ ((forms_are.stmts B x).loop e inner pl) gz) in
        let w = wanted (is_bool c.first.ty) _ (loop_typed (map (stmt_types B) inner) x) z c.then in
        let k = tk.exprs x.vars e x.scope c.first (of_while e inner pl (inn (stmt.While e inner pl) first)) known_x.scope
        c.gave in
        let d = then_came (block_typed (map (stmt_types B) inner) x) _ z w.then in
        let is = same_before (with_scope x x.scope d.first.next) z d.then in
        let small : d.first.next ≤ scratch = subst (λ (v : Before). v.next ≤ scratch) is few_z in
        subst (λ (z : Before). StmtGoes p i n m code it r hd x z (stmt.While e inner pl) s (o + 1)) (sym is)
        (loop_goes p i n m code it there r hd nodes laid leads facts x e inner pl c.first d.first s a o known_x
        (bool_is c.first.ty w.test) k.1
        (value_goes x true e s a ea (of_while e inner pl (inn (stmt.While e inner pl) first)) known_x few_x c.first c.gave)
        at_test
        (block_goes p i n m code it there r hd nodes laid leads facts scratch high x d.first inner (a + 1) o known_x small d.gave
        (λ v gv few_v. stmts_go x inner (a + 1) o inside
        (λ u m. in_loop e inner pl (inn (stmt.While e inner pl) first) m) known_x v few_v gv)) at_jump))
    stmts_go x _ s t (return_at _ e pl ss _ l o _ ea runs rest) inn known_x y few g =
        behind x (stmt.Return (Some e) pl) ss y s o t inn known_x few g
        (λ z gz known_z then. stmts_go z ss o t (rest z gz) (λ v a. inn v (later a)) known_z y few then)
        (λ few_x z gz few_z known_z.
        let c = then_came (typed B x e x.scope) _ z
        (asked (stmt.Return (Some e) pl) x z _ ((forms_are.stmts B x).returns (Some e) pl) gz) in
        let w = wanted (not (is_void B.result)) _ _ z c.then in
        let q = answered p (Below p c.first.scope c.first.ty B.result) w.then.0 _ x z w.then.1 w.then.2 in
        let k = tk.exprs x.vars e x.scope c.first (of_return e pl (inn (stmt.Return (Some e) pl) first)) known_x.scope
        c.gave in
        return_goes p i n m code it there r hd nodes laid leads facts x z e pl c.first s l o
        (not_true (is_void B.result) w.test) q.0 (fits_grown (grown_of k.1) k.0.scope.scope.binds known_x.result.fits)
        runs (value_goes x true e s l ea (of_return e pl (inn (stmt.Return (Some e) pl) first)) known_x few_x c.first c.gave))
    stmts_go x _ s t (end_at _ pl ss _ o _ runs rest) inn known_x y few g =
        behind x (stmt.Return None pl) ss y s o t inn known_x few g
        (λ z gz known_z then. stmts_go z ss o t (rest z gz) (λ v a. inn v (later a)) known_z y few then)
        (λ few_x z gz few_z known_z. leave_goes p i n m code it there r hd nodes laid leads facts x z pl s o runs)
    stmts_go x _ s t (print_at _ e pl v ss _ l o _ ea by runs rest) inn known_x y few g =
        behind x (stmt.Print e pl) ss y s o t inn known_x few g
        (λ z gz known_z then. stmts_go z ss o t (rest z gz) (λ v a. inn v (later a)) known_z y few then)
        (λ few_x z gz few_z known_z.
        let c = then_came (typed B x e x.scope) _ z
        (asked (stmt.Print e pl) x z _ ((forms_are.stmts B x).prints e pl) gz) in
        let w = wanted (is_int c.first.ty || is_bool c.first.ty) _ _ z c.then in
        let k = tk.exprs x.vars e x.scope c.first (of_print e pl (inn (stmt.Print e pl) first)) known_x.scope c.gave in
        stays x z (stmt.Print e pl) s o (same_before x z w.then)
        (print_goes p i n m code it there r hd nodes laid leads facts x e pl c.first v s l o known_x k.1 w.test
        (by c.first c.gave) runs
        (value_goes x true e s l ea (of_print e pl (inn (stmt.Print e pl) first)) known_x few_x c.first c.gave)))
    stmts_go x _ s t (text_at _ q pl ss _ o _ runs rest) inn known_x y few g =
        behind x (stmt.PrintText q pl) ss y s o t inn known_x few g
        (λ z gz known_z then. stmts_go z ss o t (rest z gz) (λ v a. inn v (later a)) known_z y few then)
        (λ few_x z gz few_z known_z. stays x z (stmt.PrintText q pl) s o
        (same_before x z (asked (stmt.PrintText q pl) x z _ ((forms_are.stmts B x).prints_text q pl) gz))
        (text_goes p i n m code it there r hd nodes laid leads facts x q pl s o (texts q) runs))
