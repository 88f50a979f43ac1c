-- An assignment: behind its expression the fresh paths are gone, and so no type in scope mentions the variable.
use Rattle.std.proofs.Common.{◌≡◌, List, [], ◌∷◌, length, Option, Some, None, Bool, false, refl, sym, ap, subst}
use Rattle.std.specs.Prelude.{◌&&◌, not, Ok}
use Rattle.jn_base.specs.declared.tree.Named.{Named}
use Rattle.jn_base.specs.declared.tree.Program.{Program}
use Rattle.jn_base.specs.declared.tree.Expr.{Expr}
use Rattle.jn_base.specs.declared.tree.Stmt.{Stmt}
use Rattle.jn_base.specs.declared.tree.Stmt.TheOpen.{Stmt-F}
use Rattle.jn_base.specs.declared.tree.Stmt.TheVariants as stmt
use Rattle.jn_base.specs.declared.names.Role.TheVariants as role
use Rattle.jn_base.specs.declared.names.Var.{Var}
use Rattle.jn_base.specs.Atoms.{Among}
use Rattle.jn_base.specs.Fits.{TypeFits}
use Rattle.jn_base.specs.Resolve.{is_class, var_named}
use Rattle.jn_base.proofs.FormEquations.{at_assign}
use Rattle.jn_sem.specs.Acts.{Todo, acts, stmts_acts}
use Rattle.jn_sem.specs.Below.{Below}
use Rattle.jn_sem.specs.Terms.{Site}
use Rattle.jn_sem.proofs.ActLaws.{acts_are}
use Rattle.jn_sem.proofs.Under.{fits_whole}
use Rattle.jn_laws.proofs.AlikeScopes.{fits_like}
use Rattle.jn_laws.proofs.Terms.{var_among}
use Rattle.jn_body_laws.specs.BodyForms.{TermsNamed}
use Rattle.jn_rules.specs.Questions.{Gives}
use Rattle.jn_rules.specs.Exprs.{Typed, site_here}
use Rattle.jn_rules.specs.Stmts.{In, Before, typed, assign_typed}
use Rattle.jn_rules.proofs.FormLaws.{forms_are}
use Rattle.jn_rules.proofs.PlanLaws.{then_came, wanted}
use Rattle.jn_sound.specs.KnownScopes.{here_in, StmtKnown}
use Rattle.jn_sound.specs.Takes.{same, wider, assign}
use Rattle.jn_sound.specs.Fit.{Fits, acts as act, moves, settles}
use Rattle.jn_sound.specs.Tree.{GoesTo, as_they_are}
use Rattle.jn_sound.specs.Stmts.{BodyKnown, StmtGoes, StmtFits}
use Rattle.jn_sound.proofs.Scopes.{fits_grown, grown_of, no_ops}
use Rattle.jn_sound.proofs.RuledForms.{not_void_below}
use Rattle.jn_sound.proofs.CallsFit.{not_void}
use Rattle.jn_sound.proofs.Variables.{found_among}
use Rattle.jn_sound.proofs.Stmts.{narrowed_fresh, passed, asked, answered, not_true}
use Rattle.jn_sound.proofs.Variables.{unmentioned}

not_path : (v : Var) → v.fixed ≡ false → (v.fixed && is_class v.ty) ≡ false
not_path v e = ap (λ (c : Bool). c && is_class v.ty) e

module _ (p : Program) (b : In) (its : BodyKnown p b) where
  -- the variable v gets the value of e
  goes : (n : Named) (e : Expr) (x : Before) → StmtKnown p b x → (v : Var)
      → var_named (record { list = x.vars }) n.name ≡ Some v → v.fixed ≡ false → (t : Typed) → GoesTo p b
      (here_in b x.vars) (acts (length x.vars) e) x.scope as_they_are t → Below p t.scope t.ty v.ty → (ss : List Stmt)
      (k : List Todo) → Fits p b (stmts_acts (length x.vars) x.next ss k) x.vars x.scope []
      → Fits p b (stmts_acts (length x.vars) x.next (stmt.Assign n e ∷ ss) k) x.vars x.scope []
  goes n e x known v named free t one below ss k f =
      subst (λ (z : List Todo). Fits p b z x.vars x.scope [])
      (sym ((acts_are.stmts (length x.vars) x.next ss k).assign n e))
      (one.fits _ [] (no_ops x.scope) (not_void t.ty (not_void_below p t.scope t.ty v.ty below))
      (moves (wider t.ty v.ty t.path below (fits_grown (grown_of one.grown) one.known.scope.scope.binds fits) same)
      (settles v.ty t.path known.params (narrowed_fresh one.grown) known.scope.scope.binds known.covers fits
      (act refl (assign n.name v None named (record {
        not_final = free;
        paths = known.scope.site.paths v m;
        among = known.scope.plain v m (not_path v free);
        unmentioned = unmentioned site x.scope known.alike known.scope.site.binds known.scope.site.paths v m free;
      })) f)))) where
        site : Site
        site = site_here (here_in b x.vars)

        m : Among x.vars v
        m = found_among x.vars n.name v named

        fits : TypeFits x.scope v.ty
        fits = fits_like known.alike v.ty
            (fits_whole (var_among p site role.Value known.scope.site v m) known.scope.site.binds)

  pub assign_fits : (n : Named) (e : Expr) → StmtFits p b (stmt.Assign n e)
  assign_fits n e x y known few inside g =
      found (var_named (record { list = x.vars }) n.name) refl
      (asked p b its (stmt.Assign n e) x y _ ((forms_are.stmts b x).assign n e) g) where
        found : (o : Option Var) → var_named (record { list = x.vars }) n.name ≡ o
            → Gives p (assign_typed b x n e o) (Ok y) → StmtGoes p b (stmt.Assign n e) x y
        found None is w = absurd (no w) where
          no : Gives p (assign_typed b x n e None) (Ok y) → ⊥
          no w = cc
        found (Some v) is w =
            let h = wanted (not v.fixed) _ _ y w in
            let c = then_came (typed b x e x.scope) _ y h.then in
            let a = answered p b its (Below p c.first.scope c.first.ty v.ty) c.then.0 _ x y c.then.1 c.then.2 in
            let one = its.exprs x.vars e
            (subst TermsNamed (at_assign n e) (its.formed (stmt.Assign n e) inside).terms)
            x.scope c.first known.scope c.gave in
            subst (StmtGoes p b (stmt.Assign n e) x) (sym a.1) (record {
              known = known;
              fits = λ ss k f. goes n e x known v is (not_true p b its v.fixed h.test) c.first one a.0 ss k
                  (passed (Stmt-F.Assign n e) (stmt.Assign n e) (stmt.rolls-Assign n e) refl f);
            })
