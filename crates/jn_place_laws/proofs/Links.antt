-- One operator of a chain, with its right operand.
use Rattle.std.proofs.Common.{◌≡◌, ℕ, suc, ◌+◌, List, [], ◌∷◌, length, Bool, true, false, Option, Some, None, refl, sym, ap, ◌∙◌, subst, arith}
use Rattle.std.specs.Prelude.{slice_get}
use Rattle.jn_base.specs.declared.tree.Expr.{Expr}
use Rattle.jn_base.specs.declared.tree.Op.{Op}
use Rattle.jn_base.specs.declared.tree.Program.{Program}
use Rattle.jn_base.specs.declared.types.Ty.{Ty}
use Rattle.jn_base.specs.declared.types.Ty.TheVariants as ty
use Rattle.jn_base.specs.declared.names.Var.{Var}
use Rattle.jn_base.specs.Scopes.{Scope}
use Rattle.jn_base.specs.Resolve.{is_class}
use Rattle.jn_code.specs.declared.instr.Instr.TheVariants as ins
use Rattle.jn_code.specs.declared.image.Image.{Image}
use Rattle.jn_code.specs.declared.image.Code.{Code}
use Rattle.jn_sem.specs.Acts.{todo, Operate, Decide}
use Rattle.jn_sem.specs.LawsOfActs.{link_acts}
use Rattle.jn_sem.specs.State.{Frame}
use Rattle.jn_rules.specs.Headers.{Header}
use Rattle.jn_rules.specs.Exprs.{Here, Typed, plain, takes, takes_both, operator_type}
use Rattle.jn_rules.specs.Stmts.{is_void}
use Rattle.jn_sound.specs.Takes.{opd, Typing, typing, operate}
use Rattle.jn_sound.specs.Tree.{ExprKnown, Fresher}
use Rattle.jn_sound.proofs.Scopes.{ops_with}
use Rattle.jn_agree.specs.Naming.{Naming}
use Rattle.jn_agree.specs.Rows.{kind_of_type}
use Rattle.jn_agree.specs.Places.{At, Run, operator, equal, Strict, IsDecide, deciding, decided_by}
use Rattle.jn_node_laws.specs.Cont.{of_frame}
use Rattle.jn_node_laws.specs.LawsOfLaidNodes.{LaidNodesOf}
use Rattle.jn_node_laws.specs.Facts.{ComparesWell}
use Rattle.jn_place_laws.specs.Contexts.{Context, context, Stood, known, site_at}
use Rattle.jn_place_laws.specs.LawsOfContexts.{ActsLead, FactsHold}
use Rattle.jn_place_laws.proofs.Going.{ExprGoes, Behind, at_vars}
use Rattle.jn_place_laws.proofs.Steps.{less, more, at_place, as_typed, as_todo, without, jumped, step}
use Rattle.jn_place_laws.proofs.Operands.{strict_acts, strict_decides, decide_acts, bool_kept, false_void}

module _ (p : Program) (i : Image) (n : Naming) (m : ℕ) (code : ℕ) (it : Code) (there : slice_get i.codes code ≡ Some it)
    (r : Frame) (hd : Header) (nodes : LaidNodesOf p i n m (known p) Context (Stood p r hd) code it r)
    (leads : ActsLead p i n m code it r hd) (vs : List Var)
    (facts : (s : Scope) → FactsHold p i n m code it r hd vs s) where
  abbrev h : Here
  h = at_vars p i n m code it r hd vs

  -- an operator that takes both operands
  pub strict_goes : (o : Op) (e : Expr) (kind : ℕ) (x y : Typed) (s l t : ℕ) → Strict o → ExprKnown p h x → takes o x.ty ≡ true
      → takes o y.ty ≡ true → takes_both o x.ty y.ty ≡ true → is_void y.ty ≡ false → kind ≡ kind_of_type y.ty
      → ExprGoes p i n m code it r hd vs x.scope true e y s l → Run it.instrs (operator o kind) l t
      → Behind p i n m code it r hd vs (link_acts o e (length vs)) x (plain (operator_type o) y.scope) true s t
  strict_goes o e kind x y s l t strict known_x left_takes right_takes both kept_y is_kind one runs kept j b k w ops ob g =
      as_todo p i n m code it there r hd (of_frame ∷ j) b vs (typing x.scope (opd x.ty x.path ∷ ops)) _ _ s w
      (strict_acts o strict e (length vs) k)
      (one (λ z. kept_y) (of_frame ∷ j) b (todo (length vs) (Operate o) ∷ k) w (opd x.ty x.path ∷ ops)
      (ops_with (opd x.ty x.path) (λ q e. (known_x.path q e).bound_in) ob)
      (step p i n m code it there r hd (of_frame ∷ (of_frame ∷ j)) (of_frame ∷ j) b vs vs (Operate o) from to k l t t w (5 + w)
      (nodes.operate (of_frame ∷ (of_frame ∷ j)) (of_frame ∷ j) j refl refl b (site_at r hd vs) (context vs from) (context vs to) o kind k l t (5 + w) runs
      (λ f hp st. subst (λ (z : ℕ). ComparesWell o (equal z) hp f.vals) (sym is_kind)
      ((facts y.scope).compares (opd x.ty x.path ∷ ops) o y.ty y.path f hp st)))
      (leads.acts vs vs (Operate o) k from to (operate o x.ty y.ty x.path y.path
      (record { left = left_takes; right = right_takes; both = both; acts = strict_decides o strict }))) refl
      (omega arith) g)) where
        from : Typing
        from = typing y.scope (opd y.ty y.path ∷ (opd x.ty x.path ∷ ops))

        to : Typing
        to = typing y.scope (opd (operator_type o) None ∷ ops)

  -- `&&` and `||`
  pub decide_goes : (o : Op) (and : Bool) (e : Expr) (x y : Typed) (s l t : ℕ) → IsDecide o and → x.ty ≡ ty.Bool
      → y.ty ≡ ty.Bool → ExprKnown p h y → Fresher x.scope y.scope → At it.instrs s (deciding and (l + 1))
      → ExprGoes p i n m code it r hd vs x.scope true e y (s + 1) l → At it.instrs l (ins.Jump t)
      → Run it.instrs (decided_by and ∷ []) (l + 1) t
      → Behind p i n m code it r hd vs (link_acts o e (length vs)) x (plain ty.Bool y.scope) true s t
  decide_goes o and e x y s l t is x_bool y_bool known_y grown at_one one at_jump runs kept j b k w ops ob g =
      as_todo p i n m code it there r hd (of_frame ∷ j) b vs (typing x.scope (opd x.ty x.path ∷ ops)) _ _ s w
      (decide_acts o and is e (length vs) k)
      (as_typed p i n m code it there r hd (of_frame ∷ j) b vs (typing x.scope (opd x.ty x.path ∷ ops))
      (typing x.scope (opd ty.Bool x.path ∷ ops)) (todo (length vs) (Decide and e) ∷ k) s w
      (ap (λ (u : Ty). typing x.scope (opd u x.path ∷ ops)) (sym x_bool))
      (less p i n m code it there r hd (of_frame ∷ j) b vs (typing x.scope (opd ty.Bool x.path ∷ ops)) _ s w
      (nodes.decide (of_frame ∷ j) j refl b (site_at r hd vs) (context vs (typing x.scope (opd ty.Bool x.path ∷ ops)))
      (context vs (typing x.scope ops)) (context vs (typing x.scope (opd ty.Bool None ∷ ops))) and e k s (l + 1) w
      at_one runs.0 (leads.decides vs x.scope ops x.path and e k)
      (one (λ z. bool_kept y.ty y_bool) j b k (20 + w) ops ob
      (as_typed p i n m code it there r hd (of_frame ∷ j) b vs (typing y.scope (opd y.ty y.path ∷ ops))
      (typing y.scope (opd ty.Bool None ∷ ops)) k l (5 + (20 + w)) so
      (more p i n m code it there r hd (of_frame ∷ j) b vs (typing y.scope (opd ty.Bool None ∷ ops)) k l (suc w) (5 + (20 + w))
      (omega arith)
      (jumped p i n m code it there r hd (of_frame ∷ j) b vs (typing y.scope (opd ty.Bool None ∷ ops)) k l t w at_jump g))))
      (without p i n m code it there r hd leads (of_frame ∷ j) b vs x.scope y.scope (opd ty.Bool None ∷ ops) k (l + 1 + 1) (20 + w)
      grown known_y.scope.scope.binds
      (at_place p i n m code it there r hd (of_frame ∷ j) b vs (typing y.scope (opd ty.Bool None ∷ ops)) k (l + 1 + 1) t (20 + w)
      runs.1
      (more p i n m code it there r hd (of_frame ∷ j) b vs (typing y.scope (opd ty.Bool None ∷ ops)) k t w (20 + w) (omega arith)
      g)))))) where
        -- a truth value has no path
        bare : (q : Option ℕ) → y.path ≡ q → q ≡ None
        bare None e = refl
        bare (Some q) e = false_void (subst (λ (u : Ty). is_class u ≡ true) y_bool (known_y.class q e))

        so : typing y.scope (opd ty.Bool None ∷ ops) ≡ typing y.scope (opd y.ty y.path ∷ ops)
        so = ap (λ (q : Option ℕ). typing y.scope (opd ty.Bool q ∷ ops)) (sym (bare y.path refl))
            ∙ ap (λ (u : Ty). typing y.scope (opd u y.path ∷ ops)) (sym y_bool)
