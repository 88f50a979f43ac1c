-- Statements with blocks: behind them the variables are those before, and the scope differs in masks alone.
use Rattle.std.proofs.Common.{◌≡◌, ◌≤◌, ◌<◌, ℕ, List, [], ◌∷◌, ◌++◌, length, map, take, true, false, ◌⊎◌, inl, inr, refl, sym, ap, ◌∙◌, subst, arith}
use Rattle.std.specs.Prelude.{◌&&◌, Ok}
use Rattle.jn_base.specs.declared.tree.Place.{Place}
use Rattle.jn_base.specs.declared.tree.Program.{Program}
use Rattle.jn_base.specs.declared.tree.Expr.{Expr}
use Rattle.jn_base.specs.declared.tree.Stmt.{Stmt}
use Rattle.jn_base.specs.declared.tree.Stmt.TheOpen.{Stmt-F}
use Rattle.jn_base.specs.declared.tree.Stmt.TheVariants as stmt
use Rattle.jn_base.specs.declared.types.Ty.{Ty}
use Rattle.jn_base.specs.declared.types.Ty.TheVariants as ty
use Rattle.jn_base.specs.declared.names.Var.{Var}
use Rattle.jn_base.specs.Paths.{Path}
use Rattle.jn_base.specs.Atoms.{Among, first, later}
use Rattle.jn_base.specs.Scopes.{Bind, Scope, Binds}
use Rattle.jn_base.specs.Fits.{BindsFit}
use Rattle.jn_base.specs.Resolve.{is_class}
use Rattle.jn_sem.specs.Acts.{Todo, todo, Repeat, acts, stmts_acts, path_behind}
use Rattle.jn_sem.proofs.ActLaws.{acts_are}
use Rattle.jn_laws.specs.LawsOfScopes.{ScopesAlike, none as alike_none, one as alike_one}
use Rattle.jn_laws.proofs.AlikeScopes.{alike_back, binds_like, bound_like, fits_like, binds_fit_like}
use Rattle.jn_rules.specs.Plans.{done}
use Rattle.jn_rules.specs.Questions.{Gives}
use Rattle.jn_rules.specs.Exprs.{Typed, bind, next_path, is_bool}
use Rattle.jn_rules.specs.Stmts.{In, Before, typed, stmt_types, out_of, block_typed, run_through, loop_typed, stops, all_stop, is_void}
use Rattle.jn_rules.proofs.FormLaws.{forms_are}
use Rattle.jn_rules.proofs.PlanLaws.{then_came, wanted}
use Rattle.jn_rule_laws.specs.LawsOfForms.{Grown, none as none_grown, more as more_grown, TypeKnown}
use Rattle.jn_sound.specs.Takes.{opd}
use Rattle.jn_sound.specs.Fit.{Fits, Narrowed, IsLoop, narrows, repeat, dropped}
use Rattle.std.proofs.lemmas.List.Elements.{Contains-append_left}
use Rattle.jn_base.specs.Forms.{Termed, of_expr}
use Rattle.jn_base.proofs.FormEquations.{at_while}
use Rattle.jn_body_laws.specs.BodyForms.{TermsNamed}
use Rattle.jn_sound.specs.KnownScopes.{here_in, MasksFormed, StmtKnown, StandsIn, in_block}
use Rattle.jn_sound.specs.Tree.{GoesTo, as_they_are}
use Rattle.jn_sound.specs.Stmts.{BodyKnown, StmtGoes, StmtFits, EachFits}
use Rattle.jn_rule_laws.specs.Behind.{MasksApart, none as apart_none, one as apart_one, Over, Moved}
use Rattle.jn_sound.proofs.Scopes.{grown_binds, grown_among, no_ops}
use Rattle.jn_rule_laws.proofs.Behind.{same_before}
use Rattle.jn_sound.proofs.Stmts.{narrowed_itself, narrowed_fresh, stops_by, passed, asked}
use Rattle.jn_rule_laws.proofs.Behind.{apart_itself, left_over, all_move, blocks_move}
use Rattle.jn_sound.proofs.AllStmts.{in_order}

-- ---- scopes

narrowed_grown : {o t : Scope} → Grown o t → Narrowed t o
narrowed_grown {o = o} none_grown = narrowed_itself o
narrowed_grown (more_grown g) = dropped (narrowed_grown g)

-- an old bind's path has no newer bind
among_old : {o t : Scope} → Grown o t → BindsFit t → (c : Bind) → Among t c → Binds o c.path → Among o c
among_old none_grown f c m n = m
among_old (more_grown g) f c first n = absurd (f.1 (grown_binds g c.path n))
among_old (more_grown g) f c (later m) n = among_old g f.0 c m n

alike_known : {s t : Scope} {u : Ty} → ScopesAlike s t → TypeKnown s u → TypeKnown t u
alike_known {u = u} h k = record {
  fits = fits_like h u k.fits;
  named = λ x m. subst (λ (R : Path). 0 < length R) (sym (bound_like h x)) (k.named x m);
}

taken_all : (vs ws : List Var) → vs ≡ take (length vs) (vs ++ ws)
taken_all [] ws = refl
taken_all (v ∷ vs) ws = ap (λ (us : List Var). v ∷ us) (taken_all vs ws)

among_left : (vs ws : List Var) (v : Var) → Among vs v → Among (vs ++ ws) v
among_left _ ws v first = first
among_left _ ws v (later m) = later (among_left _ ws v m)

abbrev pub with_scope : Before → Scope → ℕ → Before
with_scope x s n = record { vars = x.vars; scope = s; next = n }

alike_joined : {s t u : Scope} → ScopesAlike s t → ScopesAlike t u → ScopesAlike s u
alike_joined alike_none h = h
alike_joined (alike_one a g) (alike_one c h) =
    alike_one (record { path = c.path ∙ a.path; atoms = c.atoms ∙ a.atoms; class = c.class ∙ a.class })
    (alike_joined g h)

pub apart_alike : {s t : Scope} → MasksApart s t → ScopesAlike s t
apart_alike apart_none = alike_none
apart_alike (apart_one a h) = alike_one (record { path = a.path; atoms = a.atoms; class = a.class }) (apart_alike h)

-- what is known with other masks, and with numbers of locals that are taken
pub known_at : (p : Program) (b : In) (x : Before) → StmtKnown p b x → (s : Scope) (n : ℕ) → MasksApart x.scope s
    → ((c : Bind) → Among s c → MasksFormed c.ty)
    → ((v : Var) → Among x.vars v → (v.fixed && is_class v.ty) ≡ false → Among s (bind v.path v.ty)) → x.next ≤ n →
    n ≤ 256 → StmtKnown p b (with_scope x s n)
known_at p b x known s n apart masks plain more few = record {
  scope = record {
    site = known.scope.site;
    written = known.scope.written;
    scope = record {
      base = s;
      alike = alike_joined known.alike a;
      grown = none_grown;
      binds = binds_fit_like a known.scope.scope.binds;
    };
    plain = plain;
    numbered = λ q m. numbered q (only q m);
  };
  alike = alike_joined known.alike a;
  covers = record {
    this = binds_like a 0 known.covers.this;
    only = only;
    all = λ v m. binds_like a v.path (known.covers.all v m);
  };
  some = (let k = known.some in omega (arith, k, more));
  older = λ v m. (let k = known.older v m in omega (arith, k, more));
  params = known.params;
  result = alike_known a known.result;
  masks = masks;
} where
  a : ScopesAlike x.scope s
  a = apart_alike apart

  only : (q : ℕ) → Binds s q → (q ≡ 0) ⊎ ((v : Var) × Among x.vars v × (v.path ≡ q))
  only q m = known.covers.only q (binds_like (alike_back a) q m)

  numbered : (q : ℕ) → (q ≡ 0) ⊎ ((v : Var) × Among x.vars v × (v.path ≡ q)) → q < next_path s
  numbered q (inl e) = omega (arith, e)
  numbered q (inr v) = let k = known.older v.0 v.1 in let e = v.2 in omega (arith, k, e, more, few)

module _ (p : Program) (b : In) (its : BodyKnown p b) where
  -- ---- a block

  -- what is known behind a block
  known_out : (x z : Before) (o : Over x.scope z.scope) (ws : List Var) → z.vars ≡ x.vars ++ ws → x.next ≤ z.next →
      z.next ≤ 256 → StmtKnown p b x → StmtKnown p b z → StmtKnown p b (with_scope x o.old z.next)
  known_out x z o ws e more few known there = known_at p b x known o.old z.next o.apart
      (λ c m. there.masks c (grown_among o.grown c m)) plain more few where
        plain : (v : Var) → Among x.vars v → (v.fixed && is_class v.ty) ≡ false → Among o.old (bind v.path v.ty)
        plain v m is = among_old o.grown there.scope.scope.binds (bind v.path v.ty)
            (there.scope.plain v (subst (λ (us : List Var). Among us v) (sym e) (among_left x.vars ws v m)) is)
            (binds_like (apart_alike o.apart) v.path (known.covers.all v m))

  pub record BlockGoes (ss : List Stmt) (x y : Before) : Type 0 where
    pub known : StmtKnown p b y
    pub next : y.next ≡ path_behind ss x.next
    pub vars : y.vars ≡ x.vars
    pub apart : MasksApart x.scope y.scope
    pub fits : (k : List Todo) → (all_stop ss ≡ true) ⊎ Fits p b k x.vars y.scope [] → Fits p b
        (stmts_acts (length x.vars) x.next ss k) x.vars x.scope []

  pub block_goes : (ss : List Stmt) → EachFits p b ss → ((s : Stmt) → Among ss s → StandsIn b.method.body s)
      → (x y : Before)
      → StmtKnown p b x → y.next ≤ 256 → Gives p (block_typed (map (stmt_types b) ss) x) (Ok y) → BlockGoes ss x y
  block_goes ss each inside x y known few g =
      let c = then_came (run_through (map (stmt_types b) ss) x) (λ z. done (out_of x z)) y g in
      let is = same_before (out_of x c.first) y c.then in
      let m = all_move p b ss x c.first c.gave in
      let small : c.first.next ≤ 256 = subst (λ (z : Before). z.next ≤ 256) is few in
      let go = in_order p b ss each inside x c.first known small c.gave in
      subst (BlockGoes ss x) (sym (is ∙ ap (λ (s : Scope). with_scope x s c.first.next) (left_over x c.first m.over)))
      (goes c.first m small go.0 go.1) where
        goes : (z : Before) (m : Moved x z (path_behind ss x.next)) → z.next ≤ 256 → StmtKnown p b z
            → ((k : List Todo) → (all_stop ss ≡ true) ⊎ Fits p b k z.vars z.scope [] → Fits p b
            (stmts_acts (length x.vars) x.next ss k) x.vars x.scope []) → BlockGoes ss x
            (with_scope x m.over.old z.next)
        goes z m small there f = record {
          known = out;
          next = m.next;
          vars = refl;
          apart = m.over.apart;
          fits = λ k w. f k (ended k w);
        } where
          out : StmtKnown p b (with_scope x m.over.old z.next)
          out = known_out x z m.over m.more m.vars m.grows small known there

          ended : (k : List Todo) → (all_stop ss ≡ true) ⊎ Fits p b k x.vars m.over.old [] → (all_stop ss ≡ true) ⊎
              Fits p b k z.vars z.scope []
          ended k (inl e) = inl e
          ended k (inr w) = inr (narrows (taken_all x.vars m.more ∙ sym
              (ap (λ (vs : List Var). take (length x.vars) vs) m.vars)) known.params (narrowed_grown m.over.grown)
              out.scope.scope.binds out.covers w)

  pub block_fits : (ss : List Stmt) → EachFits p b ss → StmtFits p b (stmt.Block ss)
  block_fits ss each x y known few inside g =
      let go = block_goes ss each (λ s m. in_block ss inside m) x y known few
      (asked p b its (stmt.Block ss) x y _ ((forms_are.stmts b x).block ss) g) in
      record { known = go.known; fits = λ us k f. fits go us k f } where
        stop : all_stop ss ≡ stops (stmt.Block ss)
        stop = sym (stops_by (Stmt-F.Block ss) (stmt.Block ss) (stmt.rolls-Block ss))

        fits : (go : BlockGoes ss x y) (us : List Stmt) (k : List Todo) → (stops (stmt.Block ss) ≡ true) ⊎ Fits p b
            (stmts_acts (length y.vars) y.next us k) y.vars y.scope [] → Fits p b
            (stmts_acts (length x.vars) x.next (stmt.Block ss ∷ us) k) x.vars x.scope []
        fits go us k f =
            subst (λ (z : List Todo). Fits p b z x.vars x.scope [])
            (sym ((acts_are.stmts (length x.vars) x.next us k).block ss))
            (go.fits (stmts_acts (length x.vars) (path_behind ss x.next) us k) (behind f)) where
              behind : (stops (stmt.Block ss) ≡ true) ⊎ Fits p b
                  (stmts_acts (length y.vars) y.next us k) y.vars y.scope [] → (all_stop ss ≡ true) ⊎ Fits p b
                  (stmts_acts (length x.vars) (path_behind ss x.next) us k) x.vars y.scope []
              behind (inl e) = inl (stop ∙ e)
              behind (inr w) = inr (subst (λ (n : ℕ). Fits p b (stmts_acts (length x.vars) n us k) x.vars y.scope [])
                  go.next (subst (λ (vs : List Var). Fits p b (stmts_acts (length vs) y.next us k) vs y.scope [])
                  go.vars w))

  -- ---- `while`

  pub bool_is : (t : Ty) → is_bool t ≡ true → t ≡ ty.Bool
  bool_is ty.Bool e = refl
  bool_is ty.Int e = cc
  bool_is ty.Null e = cc
  bool_is ty.Void e = cc
  bool_is (ty.Class xs m) e = cc

  -- the terms of a loop's condition
  pub condition_named : (e : Expr) (body : List Stmt) (at : Place) → StandsIn b.method.body (stmt.While e body at)
      → TermsNamed (of_expr e)
  condition_named e body at inside t c =
      subst TermsNamed (at_while e body at) (its.formed (stmt.While e body at) inside).terms t
      (Contains-append_left (of_expr e) _ (Termed t) c)

  pub loop_fits : (e : Expr) (body : List Stmt) (at : Place) → StmtFits p b (stmt.While e body at)
  loop_fits e body at x y known few inside g =
      let a = asked p b its (stmt.While e body at) x y _ ((forms_are.stmts b x).loop e body at) g in
      let c = then_came (typed b x e x.scope) _ y a in
      let w = wanted (is_bool c.first.ty) _ (loop_typed (map (stmt_types b) body) x) y c.then in
      let d = then_came (block_typed (map (stmt_types b) body) x) _ y w.then in
      let l = blocks_move p b body x d.first d.gave in
      let is = same_before _ y d.then in
      let small : d.first.next ≤ 256 = subst (λ (z : Before). z.next ≤ 256) is few in
      let one = its.exprs x.vars e (condition_named e body at inside) x.scope c.first known.scope c.gave in
      subst (StmtGoes p b (stmt.While e body at) x) (sym is)
      (goes c.first w.test one d.first.next l.next l.grows small (record {
        known = known;
        method = its.method;
        at = at;
        inside = inside;
        after = y;
        typed = a;
        few = few;
      })) where
        goes : (t : Typed) → is_bool t.ty ≡ true → GoesTo p b (here_in b x.vars) (acts (length x.vars) e) x.scope
            as_they_are t → (n : ℕ) → n ≡ path_behind body x.next → x.next ≤ n → n ≤ 256 → IsLoop p b x.vars x.scope
            x.next e body → StmtGoes p b (stmt.While e body at) x (with_scope x x.scope n)
        goes t w one n next more small loop = record { known = out; fits = fits } where
          itself : MasksApart x.scope x.scope
          itself = apart_itself x.scope

          out : StmtKnown p b (with_scope x x.scope n)
          out = known_at p b x known x.scope n itself known.masks known.scope.plain more small

          fits : (ss : List Stmt) (k : List Todo) → (stops (stmt.While e body at) ≡ true) ⊎ Fits p b
              (stmts_acts (length x.vars) n ss k) x.vars x.scope [] → Fits p b
              (stmts_acts (length x.vars) x.next (stmt.While e body at ∷ ss) k) x.vars x.scope []
          fits ss k f =
              subst (λ (z : List Todo). Fits p b z x.vars x.scope [])
              (sym ((acts_are.stmts (length x.vars) x.next ss k).loop e body at))
              (one.fits _ [] (no_ops x.scope) (subst (λ (u : Ty). is_void u ≡ false) (sym (bool_is t.ty w)) refl)
              (subst (λ (u : Ty). Fits p b
              (todo (length x.vars) (Repeat x.next e body) ∷ stmts_acts (length x.vars) (path_behind body x.next) ss k)
              x.vars t.scope (opd u t.path ∷ [])) (sym (bool_is t.ty w))
              (repeat x.next e body t.path refl loop (narrowed_fresh one.grown) known.params
              (subst (λ (i : ℕ). Fits p b (stmts_acts (length x.vars) i ss k) x.vars x.scope []) next
              (passed (Stmt-F.While e body at) (stmt.While e body at) (stmt.rolls-While e body at) refl f)))))
