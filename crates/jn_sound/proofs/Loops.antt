-- A loop that comes again fits, and so does a body that the rules accept.
use Rattle.std.proofs.Common.{◌≡◌, ◌≤◌, ℕ, suc, List, [], ◌∷◌, length, map, Option, Some, None, true, false, ◌⊎◌, inl, inr, refl, sym, ◌∙◌, subst}
use Rattle.std.specs.Prelude.{◌||◌, Ok}
use Rattle.jn_base.specs.declared.tree.Program.{Program}
use Rattle.jn_base.specs.declared.tree.Expr.{Expr}
use Rattle.jn_base.specs.declared.tree.Stmt.{Stmt}
use Rattle.jn_base.specs.declared.types.Ty.{Ty}
use Rattle.jn_base.specs.declared.types.Ty.TheVariants as ty
use Rattle.jn_base.specs.declared.names.Var.{Var}
use Rattle.jn_base.specs.Resolve.{is_class}
use Rattle.jn_base.specs.Scopes.{Scope}
use Rattle.jn_sem.specs.Acts.{Todo, acts, stmts_acts, path_behind}
use Rattle.jn_sem.specs.Does.{Body}
use Rattle.jn_rules.specs.Headers.{Header}
use Rattle.jn_rules.specs.Questions.{Gives}
use Rattle.jn_rules.specs.Exprs.{Typed, is_bool}
use Rattle.jn_rules.specs.Stmts.{In, Before, typed, block_typed, loop_typed, stmt_types, stmts_type, body_in, body_with, at_start, is_void, all_stop}
use Rattle.jn_rules.proofs.PlanLaws.{then_came, wanted}
use Rattle.jn_sound.specs.KnownScopes.{here_in, StmtKnown, itself, in_loop}
use Rattle.jn_sound.specs.Takes.{opd}
use Rattle.jn_sound.specs.Fit.{Fits, Narrowed, none as narrow_none, kept, IsLoop, narrows, ends}
use Rattle.jn_sound.specs.Tree.{GoesTo, as_they_are}
use Rattle.jn_sound.specs.Stmts.{BodyKnown}
use Rattle.jn_rule_laws.specs.Behind.{MasksApart, none as apart_none, one as apart_one}
use Rattle.jn_sound.proofs.Scopes.{no_ops}
use Rattle.jn_rule_laws.proofs.Behind.{same_before}
use Rattle.jn_sound.proofs.Stmts.{narrowed_fresh, take_all}
use Rattle.jn_rule_laws.proofs.Behind.{all_move}
use Rattle.jn_sound.proofs.AllStmts.{in_order, either_stops}
use Rattle.jn_sound.proofs.Blocks.{block_goes, bool_is, condition_named}
use Rattle.jn_sound.proofs.EachStmt.{all_fit}

-- what fits before a block fits behind it, where no path has a mask more
narrowed_back : {s t : Scope} → MasksApart s t → Narrowed t s
narrowed_back apart_none = narrow_none
narrowed_back (apart_one a r) = kept (record {
  path = sym a.path;
  atoms = sym a.atoms;
  masks = a.fewer;
  kind = sym a.class;
  plain = λ e. sym (a.plain (sym a.class ∙ e));
}) (narrowed_back r)

module _ (p : Program) (b : In) (its : BodyKnown p b) where
  -- the loop, which stands in the body, fits once more
  pub loop_again : (vs : List Var) (s : Scope) (path : ℕ) (e : Expr) (body : List Stmt) (k : List Todo)
      → IsLoop p b vs s path e body
      → ((t : Scope) → Narrowed t s → Fits p b k vs t (opd ty.Bool None ∷ [])) → Fits p b
      (stmts_acts (length vs) path body (acts (length vs) e k)) vs s []
  loop_again vs s path e body k loop behind =
      let c = then_came (typed b x e x.scope) _ loop.after loop.typed in
      let w = wanted (is_bool c.first.ty) _ (loop_typed (map (stmt_types b) body) x) loop.after c.then in
      let d = then_came (block_typed (map (stmt_types b) body) x) _ loop.after w.then in
      let small : d.first.next ≤ 256 = subst (λ (z : Before). z.next ≤ 256) (same_before _ loop.after d.then)
      loop.few in
      let go = block_goes p b its body (λ z m. all_fit p b its z) (λ z m. in_loop e body loop.at loop.inside m) x
      d.first loop.known
      small d.gave in
      let one = its.exprs x.vars e (condition_named p b its e body loop.at loop.inside) x.scope c.first
      loop.known.scope c.gave in
      go.fits (acts (length x.vars) e k) (inr (narrows (take_all x.vars) loop.known.params (narrowed_back go.apart)
      loop.known.scope.scope.binds loop.known.covers (test c.first (bool_is p b its c.first.ty w.test) one)))
    where
      x : Before
      x = record { vars = vs; scope = s; next = path }

      -- a truth value has no path
      no_path : (t : Typed) → t.ty ≡ ty.Bool → GoesTo p b (here_in b vs) (acts (length vs) e) s
          as_they_are t → (o : Option ℕ) → t.path ≡ o → o ≡ None
      no_path t is one None e = refl
      no_path t is one (Some q) e =
          absurd (no (subst (λ (u : Ty). is_class u ≡ true) is (one.known.class q e))) where
            no : false ≡ true → ⊥
            no e = cc

      test : (t : Typed) → t.ty ≡ ty.Bool → GoesTo p b (here_in b vs) (acts (length vs) e) s
          as_they_are t → Fits p b (acts (length vs) e k) vs s []
      test t is one =
          one.fits k [] (no_ops s) (subst (λ (u : Ty). is_void u ≡ false) (sym is) refl)
          (subst (λ (u : Ty). Fits p b k vs t.scope (opd u t.path ∷ [])) (sym is)
          (subst (λ (o : Option ℕ). Fits p b k vs t.scope (opd ty.Bool o ∷ []))
          (sym (no_path t is one t.path refl)) (behind t.scope (narrowed_fresh one.grown))))

-- a body fits where it begins
pub body_goes : (p : Program) (b : Body) (x : Header) → BodyKnown p (body_in b x)
    → StmtKnown p (body_in b x) (at_start b x)
    → path_behind b.method.body (suc (length x.vars)) ≤ 256 → Gives p (body_with b x) (Ok tt)
    → Fits p (body_in b x) (stmts_acts (length x.vars) (suc (length x.vars)) b.method.body []) x.vars
    (at_start b x).scope []
body_goes p b x its known few g =
    let c = then_came (stmts_type (body_in b x) b.method.body (at_start b x)) _ tt g in
    let w = wanted (is_void x.result || all_stop b.method.body) _ _ tt c.then in
    let m = all_move p (body_in b x) b.method.body (at_start b x) c.first c.gave in
    let go = in_order p (body_in b x) b.method.body (λ s m. all_fit p (body_in b x) its s) (λ s m. itself m)
    (at_start b x) c.first known (subst (λ (n : ℕ). n ≤ 256) (sym m.next) few) c.gave in
    go.1 [] (at c.first (either_stops (is_void x.result) (all_stop b.method.body) w.test)) where
      at : (y : Before) → (is_void x.result ≡ true) ⊎ (all_stop b.method.body ≡ true)
          → (all_stop b.method.body ≡ true) ⊎ Fits p (body_in b x) [] y.vars y.scope []
      at y (inl e) = inr (ends e)
      at y (inr e) = inl e
