-- The statements without blocks: each goes with its acts, and behind it less is known again.
use Rattle.std.proofs.Common.{◌≡◌, ◌<◌, ℕ, suc, ◌+◌, List, [], ◌∷◌, ◌++◌, length, Bool, true, false, Option, Some, None, refl, sym, ap, subst, arith}
use Rattle.std.specs.Prelude.{slice_get, take, ◌||◌}
use Rattle.std.proofs.lemmas.List.{length-append}
use Rattle.std.proofs.lemmas.Option.{slice_get_within}
use Rattle.jn_steps.specs.Numbers.{line_of}
use Rattle.jn_base.specs.declared.tree.Named.{Named}
use Rattle.jn_base.specs.declared.tree.Place.{Place}
use Rattle.jn_base.specs.declared.tree.Text.{Text}
use Rattle.jn_base.specs.declared.tree.TypeTerm.{TypeTerm}
use Rattle.jn_base.specs.declared.tree.Expr.{Expr}
use Rattle.jn_base.specs.declared.tree.Stmt.TheVariants as stmt
use Rattle.jn_base.specs.declared.tree.Program.{Program}
use Rattle.jn_base.specs.declared.types.Ty.{Ty}
use Rattle.jn_base.specs.declared.types.Ty.TheVariants as ty
use Rattle.jn_base.specs.declared.names.Var.{Var}
use Rattle.jn_base.specs.Atoms.{Among, first, later}
use Rattle.jn_base.specs.Scopes.{Bind, Scope, Binds}
use Rattle.jn_base.specs.Fits.{TypeFits}
use Rattle.jn_base.specs.Resolve.{var_bind}
use Rattle.jn_code.specs.declared.instr.Instr.{Instr}
use Rattle.jn_code.specs.declared.instr.Instr.TheVariants as ins
use Rattle.jn_code.specs.declared.image.Image.{Image}
use Rattle.jn_code.specs.declared.image.Code.{Code}
use Rattle.jn_sem.specs.Below.{Below}
use Rattle.jn_sem.specs.Terms.{TypeIs}
use Rattle.jn_sem.specs.State.{Frame}
use Rattle.jn_sem.specs.Does.{prints, missing, var}
use Rattle.jn_sem.specs.Asks.{OnSome}
use Rattle.jn_sem.specs.Acts.{Todo, todo, Bind as BindAct, Print, PrintText, Return, acts, stmts_acts}
use Rattle.jn_sem.proofs.ActLaws.{acts_are}
use Rattle.jn_laws.specs.LawsOfWritten.{HeaderPaths}
use Rattle.jn_laws.proofs.WrittenTypes.{written_kinds}
use Rattle.jn_rules.specs.Headers.{Header}
use Rattle.jn_rules.specs.Exprs.{Typed, bind, site_here, is_int, is_bool}
use Rattle.jn_rules.specs.Stmts.{In, Before, with_local, is_void}
use Rattle.jn_sound.specs.Takes.{Opd, opd, Typing, typing, same, wider, Takes, local, print_number, print_truth, print_text}
use Rattle.jn_sound.specs.Fit.{Narrowed, kept}
use Rattle.jn_sound.specs.Tree.{ExprKnown, Fresher, none as fresh_none, more as fresh_more}
use Rattle.jn_sound.specs.KnownScopes.{StmtKnown}
use Rattle.jn_sound.proofs.Scopes.{fits_grown, grown_of, no_ops}
use Rattle.jn_sound.proofs.RuledForms.{not_void_below}
use Rattle.jn_sound.proofs.CallsFit.{not_void}
use Rattle.jn_sound.proofs.Stmts.{narrowed_fresh, take_all}
use Rattle.jn_agree.specs.Naming.{Naming}
use Rattle.jn_agree.specs.Places.{Run, binding, HasKind}
use Rattle.jn_agree.specs.Rows.{kind_of_type}
use Rattle.jn_node_laws.specs.Cont.{Led}
use Rattle.jn_node_laws.specs.Facts.{HasText, PrintsWell, FreshLocal}
use Rattle.jn_node_laws.specs.LawsOfNodes.{NodesOf}
use Rattle.jn_node_laws.specs.LawsOfLaidNodes.{LaidNodesOf}
use Rattle.jn_places.specs.StmtPlaces.{printing}
use Rattle.jn_place_laws.specs.Contexts.{Context, context, Stood, known, in_body, site_at}
use Rattle.jn_place_laws.specs.LawsOfContexts.{ActLeads, ActsLead, FactsHold}
use Rattle.jn_place_laws.proofs.Going.{Go, ExprGoes, StmtGoes, at_vars}
use Rattle.jn_place_laws.proofs.Steps.{more, as_todo, moved, narrows, step, less}
use Rattle.jn_place_laws.proofs.Operands.{false_void}

-- a printed value is kept
printed_kept : (u : Ty) → (is_int u || is_bool u) ≡ true → is_void u ≡ false
printed_kept ty.Int w = refl
printed_kept ty.Bool w = refl
printed_kept ty.Null w = refl
printed_kept ty.Void w = false_void w
printed_kept (ty.Class xs m) w = refl

-- a path below the fresh ones that isn't bound isn't with fresh ones more
free_fresh : {s t : Scope} (q : ℕ) → Fresher s t → q < 256 → (Binds s q → ⊥) → Binds t q → ⊥
free_fresh q fresh_none l free n = free n
free_fresh q (fresh_more {t = t} {b = c} f g) l free n = at n.bind n.among n.is (free_fresh q g l free) where
  at : (d : Bind) → Among (c ∷ t) d → d.path ≡ q → (Binds t q → ⊥) → ⊥
  at _ first e again = omega (arith, f, l, e)
  at d (later m) e again = again (record { bind = d; among = m; is = e })

module _ (p : Program) (i : Image) (n : Naming) (m : ℕ) (code : ℕ) (it : Code) (there : slice_get i.codes code ≡ Some it)
    (r : Frame) (hd : Header) (nodes : NodesOf p i n m (known p) Context (Stood p r hd) code it r)
    (laid : LaidNodesOf p i n m (known p) Context (Stood p r hd) code it r) (leads : ActsLead p i n m code it r hd)
    (facts : (vs : List Var) (s : Scope) → FactsHold p i n m code it r hd vs s) where
  abbrev B : In
  B = in_body r hd

  abbrev G : ℕ → List Var → Typing → List Todo → ℕ → ℕ → Type 0
  G = Go p i n m code it r hd

  -- an expression whose value is the only operand that anything is known of
  pub valued : (vs : List Var) (sc : Scope) (e : Expr) (y : Typed) (s t : ℕ) → is_void y.ty ≡ false
      → ExprGoes p i n m code it r hd vs sc true e y s t → (b : ℕ) (k : List Todo) (w : ℕ)
      → G b vs (typing y.scope (opd y.ty y.path ∷ [])) k t (5 + w)
      → G b vs (typing sc []) (acts (length vs) e k) s w
  valued vs sc e y s t kept_y one b k w g =
      one (λ z. kept_y) [] b k w [] (no_ops sc)
      (laid.narrow b (site_at r hd vs) (context vs (typing y.scope (opd y.ty y.path ∷ []))) k t (5 + w) g)

  -- ---- the end of a statement

  pub ended : (x : Before) → StmtKnown p B x → (t : Scope) (ops : List Opd) (b : ℕ) (k : List Todo) (o w : ℕ)
      → Narrowed t x.scope → G b x.vars (typing x.scope []) k o w → G b x.vars (typing t ops) k o w
  ended x known_x t ops b k o w nar g =
      narrows p i n m code it there r hd b x.vars x.vars t x.scope ops k o w (take_all x.vars) known_x.params nar
      known_x.scope.scope.binds known_x.covers g

  -- ---- print

  takes_print : (vs : List Var) (u : Ty) (q : Option ℕ) (s : Scope) (ops : List Opd) → (is_int u || is_bool u) ≡ true
      → Takes p B vs Print (typing s (opd u q ∷ ops)) vs (typing s ops)
  takes_print vs ty.Int q s ops w = print_number q
  takes_print vs ty.Bool q s ops w = print_truth q
  takes_print vs ty.Null q s ops w = false_void w
  takes_print vs ty.Void q s ops w = false_void w
  takes_print vs (ty.Class xs m) q s ops w = false_void w

  pub print_goes : (x : Before) (e : Expr) (at : Place) (y : Typed) (z : Instr) (s l o : ℕ) → StmtKnown p B x
      → Fresher x.scope y.scope → (is_int y.ty || is_bool y.ty) ≡ true → z ≡ printing y.ty
      → Run it.instrs (z ∷ []) l o → ExprGoes p i n m code it r hd x.vars x.scope true e y s l
      → StmtGoes p i n m code it r hd x x (stmt.Print e at) s o
  print_goes x e at y z s l o known_x grown w is runs one ss b k v g =
      as_todo p i n m code it there r hd [] b x.vars (typing x.scope []) _ _ s v
      ((acts_are.stmts (length x.vars) x.next ss k).prints e at)
      (valued x.vars x.scope e y s l (printed_kept y.ty w) one b _ v
      (step p i n m code it there r hd [] [] b x.vars x.vars Print (typing y.scope (opd y.ty y.path ∷ []))
      (typing y.scope []) rest l o (l + 1) v (5 + v)
      (nodes.print b (site_at r hd x.vars) (context x.vars (typing y.scope (opd y.ty y.path ∷ [])))
      (context x.vars (typing y.scope [])) z rest l (5 + v) runs.0
      (λ f h st. subst (λ (u : Instr). PrintsWell u h f.vals) (sym is)
      ((facts x.vars y.scope).prints [] y.ty y.path f h st)))
      (leads.acts x.vars x.vars Print rest (typing y.scope (opd y.ty y.path ∷ [])) (typing y.scope [])
      (takes_print x.vars y.ty y.path y.scope [] w)) runs.1 (omega arith)
      (ended x known_x y.scope [] b rest o v (narrowed_fresh grown) g))) where
        rest : List Todo
        rest = stmts_acts (length x.vars) x.next ss k

  -- a text of the program is printed; were there none, the run would be stuck
  text_leads : (vs : List Var) (t : ℕ) (k : List Todo) (s : Scope) → ActLeads p i n m code it r hd vs (PrintText t) k
      (context vs (typing s [])) (context vs (typing s []))
  text_leads vs t k s f h d st does = at (slice_get p.texts t) refl where
    at : (o : Option Text) → slice_get p.texts t ≡ o → Led p i n m (known p) Context (Stood p r hd) code it r
        (context vs (typing s [])) d
    at (Some u) e = leads.acts vs vs (PrintText t) k (typing s []) (typing s []) (print_text t u e) f h d st does
    at None e = subst (Led p i n m (known p) Context (Stood p r hd) code it r (context vs (typing s [])))
        (sym (subst (λ (o : Option Text). OnSome o missing
        (λ (y : Text). prints (record f { vars = take (length vs) f.vars; todo = k }) f.vals h (line_of y.bytes)) d) e does)) tt

  pub text_goes : (x : Before) (t : ℕ) (at : Place) (s o : ℕ) → HasText p i t → Run it.instrs (ins.Printt t ∷ []) s o
      → StmtGoes p i n m code it r hd x x (stmt.PrintText t at) s o
  text_goes x t at s o has runs ss b k v g =
      as_todo p i n m code it there r hd [] b x.vars (typing x.scope []) _ _ s v
      ((acts_are.stmts (length x.vars) x.next ss k).prints_text t at)
      (step p i n m code it there r hd [] [] b x.vars x.vars (PrintText t) (typing x.scope []) (typing x.scope [])
      rest s o (s + 1) v v
      (nodes.print_text b (site_at r hd x.vars) (context x.vars (typing x.scope [])) (context x.vars (typing x.scope []))
      t rest s v runs.0 has) (text_leads x.vars t rest x.scope) runs.1 (omega arith) g) where
        rest : List Todo
        rest = stmts_acts (length x.vars) x.next ss k

  -- ---- return

  pub return_goes : (x z : Before) (e : Expr) (at : Place) (y : Typed) (s l o : ℕ) → is_void hd.result ≡ false
      → Below p y.scope y.ty hd.result → TypeFits y.scope hd.result → Run it.instrs (ins.Retv ∷ []) l o
      → ExprGoes p i n m code it r hd x.vars x.scope true e y s l
      → StmtGoes p i n m code it r hd x z (stmt.Return (Some e) at) s o
  return_goes x z e at y s l o nv below fits runs one ss b k v g =
      as_todo p i n m code it there r hd [] b x.vars (typing x.scope []) _ _ s v
      ((acts_are.stmts (length x.vars) x.next ss k).returns e at)
      (valued x.vars x.scope e y s l (not_void y.ty (not_void_below p y.scope y.ty hd.result below)) one b _ v
      (moved p i n m code it there r hd leads [] b x.vars (typing y.scope (opd y.ty y.path ∷ []))
      (typing y.scope (opd hd.result y.path ∷ [])) (todo (length x.vars) (Return true) ∷ rest) l (5 + v)
      (wider y.ty hd.result y.path below fits same)
      (less p i n m code it there r hd [] b x.vars (typing y.scope (opd hd.result y.path ∷ [])) _ l (5 + v)
      (nodes.return_value b (site_at r hd x.vars) (context x.vars (typing y.scope (opd hd.result y.path ∷ [])))
      (context x.vars (typing y.scope [])) rest l (5 + v) runs.0
      (leads.returns x.vars y.scope [] y.path rest (context x.vars (typing y.scope [])) nv))))) where
        rest : List Todo
        rest = stmts_acts (length x.vars) x.next ss k

  pub leave_goes : (x z : Before) (at : Place) (s o : ℕ) → Run it.instrs (ins.Ret ∷ []) s o
      → StmtGoes p i n m code it r hd x z (stmt.Return None at) s o
  leave_goes x z at s o runs ss b k v g =
      as_todo p i n m code it there r hd [] b x.vars (typing x.scope []) _ _ s v
      ((acts_are.stmts (length x.vars) x.next ss k).returns_none at)
      (less p i n m code it there r hd [] b x.vars (typing x.scope []) _ s v
      (nodes.return_nothing b (site_at r hd x.vars) (context x.vars (typing x.scope []))
      (context x.vars (typing x.scope [])) rest s v runs.0
      (leads.leaves x.vars (typing x.scope []) rest (context x.vars (typing x.scope []))))) where
        rest : List Todo
        rest = stmts_acts (length x.vars) x.next ss k

  -- ---- a call statement

  pub do_goes : (x : Before) (e : Expr) (y : Typed) (s l : ℕ) → StmtKnown p B x → Fresher x.scope y.scope
      → ExprGoes p i n m code it r hd x.vars x.scope false e y s l
      → StmtGoes p i n m code it r hd x x (stmt.Do e) s l
  do_goes x e y s l known_x grown one ss b k v g =
      as_todo p i n m code it there r hd [] b x.vars (typing x.scope []) _ _ s v
      ((acts_are.stmts (length x.vars) x.next ss k).call e)
      (one (λ z. false_void z) [] b rest v [] (no_ops x.scope)
      (more p i n m code it there r hd [] b x.vars (typing y.scope []) rest l v (5 + v) (omega arith)
      (ended x known_x y.scope [] b rest l v (narrowed_fresh grown) g))) where
        rest : List Todo
        rest = stmts_acts (length x.vars) x.next ss k

  -- ---- a local

  pub local_goes : (x : Before) (final : Bool) (t : TypeTerm) (name : Named) (e : Expr) (type : Ty) (scratch : ℕ)
      (y : Typed) (s l o : ℕ) → StmtKnown p B x
      → StmtKnown p B (with_local x (var name.name x.next final type)) → x.next < 256 → ExprKnown p (at_vars p i n m code it r hd x.vars) y
      → Fresher x.scope y.scope → TypeIs p (site_here (at_vars p i n m code it r hd x.vars)) t type
      → Below p y.scope y.ty type → HasKind it x.next (kind_of_type type)
      → Run it.instrs (binding p n scratch it final type x.next) l o
      → ExprGoes p i n m code it r hd x.vars x.scope true e y s l
      → StmtGoes p i n m code it r hd x (with_local x (var name.name x.next final type))
      (stmt.Local final t name e) s o
  local_goes x final t name e type scratch y s l o known_x known_z small known_y grown is below has runs one ss b k w g =
      as_todo p i n m code it there r hd [] b x.vars (typing x.scope []) _ _ s w
      ((acts_are.stmts (length x.vars) x.next ss k).local final t name e)
      (valued x.vars x.scope e y s l (not_void y.ty (not_void_below p y.scope y.ty type below)) one b _ w
      (moved p i n m code it there r hd leads [] b x.vars (typing y.scope (opd y.ty y.path ∷ []))
      (typing y.scope (opd type y.path ∷ [])) (todo (length x.vars) (BindAct final t name.name x.next) ∷ rest) l (5 + w)
      (wider y.ty type y.path below fits same)
      (step p i n m code it there r hd [] [] b x.vars (x.vars ++ v ∷ []) (BindAct final t name.name x.next)
      (typing y.scope (opd type y.path ∷ [])) (typing (bind x.next type ∷ y.scope) []) rest l o o w (5 + w)
      (nodes.bind b (site_at r hd x.vars) (context x.vars (typing y.scope (opd type y.path ∷ [])))
      (context (x.vars ++ v ∷ []) (typing (bind x.next type ∷ y.scope) [])) final t name.name x.next type scratch rest l
      o (5 + w) is fresh runs)
      (leads.acts x.vars (x.vars ++ v ∷ []) (BindAct final t name.name x.next) rest
      (typing y.scope (opd type y.path ∷ [])) (typing (bind x.next type ∷ y.scope) [])
      (local final t name.name x.next type y.path is small unbound fits paths)) refl (omega arith)
      (ended (with_local x v) known_z (bind x.next type ∷ y.scope) [] b rest o w narrowed
      (as_todo p i n m code it there r hd [] b (x.vars ++ v ∷ []) (typing (var_bind v ∷ x.scope) []) rest
      (stmts_acts (length (x.vars ++ v ∷ [])) (suc x.next) ss k) o w
      (ap (λ (c : ℕ). stmts_acts c (suc x.next) ss k) (sym long)) g))))) where
        v : Var
        v = var name.name x.next final type

        rest : List Todo
        rest = stmts_acts (suc (length x.vars)) (suc x.next) ss k

        long : length (x.vars ++ var name.name x.next final type ∷ []) ≡ suc (length x.vars)
        long = omega (arith, length-append x.vars (v ∷ []))

        -- its path isn't taken, and its type fits the scope before it
        free : Binds x.scope x.next → ⊥
        free = known_z.scope.scope.binds.1

        unbound : Binds y.scope x.next → ⊥
        unbound a = free_fresh x.next grown small (known_z.scope.scope.binds.1) a

        fits : TypeFits y.scope type
        fits = fits_grown (grown_of grown) known_y.scope.scope.binds (known_z.scope.scope.binds.2)

        paths : HeaderPaths x.vars type
        paths = (written_kinds p).paths (site_here (at_vars p i n m code it r hd x.vars)) t type known_x.scope.site.paths is

        narrowed : Narrowed (bind x.next type ∷ y.scope) (var_bind (var name.name x.next final type) ∷ x.scope)
        narrowed = kept (record { path = refl; atoms = refl; masks = λ j a. a; kind = refl; plain = λ a. refl })
            (narrowed_fresh grown)

        fresh : FreshLocal it (site_at r hd x.vars) (var name.name x.next final type)
        fresh = record {
          room = slice_get_within (it.params ++ it.locals) x.next (kind_of_type type) has;
          not_this = λ a. let q = known_x.some in omega (arith, a, q);
          fresh = λ u a c. let q = known_x.older u a in omega (arith, q, c);
        }
