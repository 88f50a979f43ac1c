-- The forms with one act behind at most one operand.
use Rattle.std.proofs.Common.{◌≡◌, ℕ, suc, ◌+◌, List, [], ◌∷◌, length, Bool, true, false, Some, None, refl, sym, ap, ◌∙◌, subst, arith}
use Rattle.std.specs.Prelude.{slice_get, cond, ◌&&◌}
use Rattle.jn_base.specs.declared.tree.Name.{Name}
use Rattle.jn_base.specs.declared.tree.Place.{Place}
use Rattle.jn_base.specs.declared.tree.Node.TheVariants as node
use Rattle.jn_base.specs.declared.tree.Expr.{Expr}
use Rattle.jn_base.specs.declared.tree.Program.{Program}
use Rattle.jn_base.specs.declared.types.Ty.{Ty}
use Rattle.jn_base.specs.declared.types.Ty.TheVariants as ty
use Rattle.jn_base.specs.declared.names.Var.{Var}
use Rattle.jn_base.specs.Parts.{expr}
use Rattle.jn_base.specs.Atoms.{Among}
use Rattle.jn_base.specs.Fits.{TypeFits}
use Rattle.jn_base.specs.Scopes.{Scope}
use Rattle.jn_base.specs.Resolve.{is_class, var_named}
use Rattle.jn_code.specs.declared.instr.Instr.TheVariants as ins
use Rattle.jn_code.specs.declared.image.Image.{Image}
use Rattle.jn_code.specs.declared.image.Code.{Code}
use Rattle.jn_sem.specs.Values.{Value}
use Rattle.jn_sem.specs.Acts.{Todo, todo, Push, This, Read, Invert, Negate, expr_does}
use Rattle.jn_sem.specs.State.{Frame}
use Rattle.jn_sem.proofs.ActLaws.{acts_are}
use Rattle.jn_rules.specs.Headers.{Header}
use Rattle.jn_rules.specs.Exprs.{Typed, bind, plain, of_path, path_type, var_typed, is_bool, is_int}
use Rattle.jn_rules.specs.Stmts.{is_void}
use Rattle.jn_sound.specs.Takes.{Opd, opd, opd_of, Typing, typing, IsLiteral, push, this, read, invert, negate}
use Rattle.jn_agree.specs.Naming.{Naming}
use Rattle.jn_agree.specs.Places.{At, Run}
use Rattle.jn_agree.specs.Places as places
use Rattle.jn_node_laws.specs.Cont.{Layout, of_frame}
use Rattle.jn_node_laws.specs.LawsOfLaidNodes.{LaidNodesOf}
use Rattle.jn_place_laws.specs.Contexts.{Context, context, Stood, known, site_at}
use Rattle.jn_place_laws.specs.LawsOfContexts.{ActLeads, ActsLead}
use Rattle.jn_place_laws.proofs.Going.{GoOn, left, ExprGoes}
use Rattle.jn_place_laws.proofs.Steps.{as_typed, as_todo, step}
use Rattle.jn_place_laws.proofs.Operands.{bool_is, int_is, bool_kept}

-- a variable as an operand, and its scope
var_opd : (s : Scope) (v : Var) → (opd (var_typed v s).ty (var_typed v s).path ≡ opd_of s v) × ((var_typed v s).scope ≡ s)
var_opd s v = at (v.fixed && is_class v.ty) where
  at : (b : Bool) → (opd (cond b (of_path v.path s) (plain v.ty s)).ty (cond b (of_path v.path s) (plain v.ty s)).path
      ≡ cond b (opd (path_type s v.path) (Some v.path)) (opd v.ty None))
      × ((cond b (of_path v.path s) (plain v.ty s)).scope ≡ s)
  at true = (refl, refl)
  at false = (refl, refl)

module _ (p : Program) (i : Image) (n : Naming) (m : ℕ) (code : ℕ) (it : Code) (there : slice_get i.codes code ≡ Some it)
    (r : Frame) (hd : Header) (nodes : LaidNodesOf p i n m (known p) Context (Stood p r hd) code it r)
    (leads : ActsLead p i n m code it r hd) (vs : List Var) where
  abbrev E : Scope → Bool → Expr → Typed → ℕ → ℕ → Type 0
  E sc keeps e y s t = ExprGoes p i n m code it r hd vs sc keeps e y s t

  abbrev G : Layout → ℕ → List Todo → ℕ → ℕ → Typing → Type 0
  G l b k s w t = GoOn p i n m code it r hd l b vs t k s w

  -- what a value typed as y leaves
  left_so : (y z : Typed) (ops : List Opd) → y ≡ z → typing y.scope (left true y ops) ≡ typing z.scope
      (opd z.ty z.path ∷ ops)
  left_so y z ops e = ap (λ (y : Typed). typing y.scope (opd y.ty y.path ∷ ops)) e

  pub literal_goes : (v : Value) (u : Ty) → IsLiteral v u → (e : Expr)
      → ((k : List Todo) → expr_does e true (length vs) k ≡ todo (length vs) (Push v) ∷ k) → (sc : Scope) (y : Typed)
      (s t : ℕ) → y ≡ plain u sc → t ≡ s + 1
      → ((l : Layout) (b : ℕ) (ops : List Opd) (k : List Todo) (w : ℕ) → ActLeads p i n m code it r hd vs (Push v) k
      (context vs (typing sc ops)) (context vs (typing sc (opd u None ∷ ops)))
      → G (of_frame ∷ l) b k (s + 1) (20 + w) (typing sc (opd u None ∷ ops))
      → G l (suc b) (todo (length vs) (Push v) ∷ k) s w (typing sc ops))
      → E sc true e y s t
  literal_goes v u lit e acts sc y s t is end node kept l b k w ops ob g =
      as_todo p i n m code it there r hd l b vs (typing sc ops) (expr_does e true (length vs) k)
      (todo (length vs) (Push v) ∷ k) s w (acts k)
      (step p i n m code it there r hd l (of_frame ∷ l) b vs vs (Push v) (typing sc ops) (typing sc (opd u None ∷ ops)) k s t (s + 1)
      (5 + w) w (node l b ops k w)
      (leads.acts vs vs (Push v) k (typing sc ops) (typing sc (opd u None ∷ ops)) (push v u lit)) end (omega arith)
      (as_typed p i n m code it there r hd (of_frame ∷ l) b vs (typing sc (opd u None ∷ ops)) (typing y.scope (left true y ops)) k t
      (5 + w) (left_so y (plain u sc) ops is) g))

  pub this_goes : (pl : Place) (sc : Scope) (y : Typed) (s t : ℕ) → y ≡ of_path 0 sc → TypeFits sc (path_type sc 0)
      → Run it.instrs (ins.Load 0 ∷ []) s t → E sc true (expr pl node.This) y s t
  this_goes pl sc y s t is fits runs kept l b k w ops ob g =
      as_todo p i n m code it there r hd l b vs (typing sc ops) _ (todo (length vs) This ∷ k) s w
      ((acts_are.exprs pl true (length vs) k).this)
      (step p i n m code it there r hd l (of_frame ∷ l) b vs vs This (typing sc ops) (typing sc (opd (path_type sc 0) (Some 0) ∷ ops)) k
      s t (s + 1) (5 + w) w
      (nodes.this l b (site_at r hd vs) (context vs (typing sc ops))
      (context vs (typing sc (opd (path_type sc 0) (Some 0) ∷ ops))) k s w runs.0)
      (leads.acts vs vs This k (typing sc ops) (typing sc (opd (path_type sc 0) (Some 0) ∷ ops)) (this fits)) runs.1
      (omega arith)
      (as_typed p i n m code it there r hd (of_frame ∷ l) b vs (typing sc (opd (path_type sc 0) (Some 0) ∷ ops))
      (typing y.scope (left true y ops)) k t (5 + w) (left_so y (of_path 0 sc) ops is) g))

  pub var_goes : (pl : Place) (x : Name) (v : Var) (sc : Scope) (y : Typed) (s t : ℕ) → y ≡ var_typed v sc
      → places.newest vs x ≡ Some v → var_named (record { list = vs }) x ≡ Some v → TypeFits y.scope y.ty
      → ((v.fixed && is_class v.ty) ≡ false → Among sc (bind v.path v.ty))
      → Run it.instrs (ins.Load v.path ∷ []) s t → E sc true (expr pl (node.Var x)) y s t
  var_goes pl x v sc y s t is new named fits plain runs kept l b k w ops ob g =
      as_todo p i n m code it there r hd l b vs (typing sc ops) _ (todo (length vs) (Read x) ∷ k) s w
      ((acts_are.exprs pl true (length vs) k).var x)
      (step p i n m code it there r hd l (of_frame ∷ l) b vs vs (Read x) (typing sc ops) (typing sc (opd_of sc v ∷ ops)) k s t (s + 1)
      (5 + w) w
      (nodes.read l b (site_at r hd vs) (context vs (typing sc ops)) (context vs (typing sc (opd_of sc v ∷ ops))) x v k s w
      new runs.0)
      (leads.acts vs vs (Read x) k (typing sc ops) (typing sc (opd_of sc v ∷ ops)) (read x v named in_scope plain))
      runs.1 (omega arith)
      (as_typed p i n m code it there r hd (of_frame ∷ l) b vs (typing sc (opd_of sc v ∷ ops)) (typing y.scope (left true y ops)) k t
      (5 + w) so g)) where
        pair : (opd (var_typed v sc).ty (var_typed v sc).path ≡ opd_of sc v) × ((var_typed v sc).scope ≡ sc)
        pair = var_opd sc v

        so : typing y.scope (left true y ops) ≡ typing sc (opd_of sc v ∷ ops)
        so = left_so y (var_typed v sc) ops is ∙ ap (λ (z : Scope). typing z
            (opd (var_typed v sc).ty (var_typed v sc).path ∷ ops)) pair.1 ∙ ap (λ (o : Opd). typing sc (o ∷ ops)) pair.0

        in_scope : TypeFits sc (opd_of sc v).ty
        in_scope =
            subst (λ (o : Opd). TypeFits sc o.ty) pair.0
            (subst (λ (z : Scope). TypeFits z (var_typed v sc).ty) pair.1
            (subst (λ (z : Typed). TypeFits z.scope z.ty) is fits))

  -- a test of a value's type
  of_type : (x : Typed) (u : Ty) (ops : List Opd) → x.ty ≡ u → typing x.scope (opd u x.path ∷ ops) ≡ typing x.scope
      (left true x ops)
  of_type x u ops e = ap (λ (z : Ty). typing x.scope (opd z x.path ∷ ops)) (sym e)

  pub invert_goes : (pl : Place) (e : Expr) (sc : Scope) (x y : Typed) (s l t : ℕ) → is_bool x.ty ≡ true
      → y ≡ plain ty.Bool x.scope → Run it.instrs (ins.Not ∷ []) l t → E sc true e x s l
      → E sc true (expr pl (node.Not e)) y s t
  invert_goes pl e sc x y s l t is_b is runs one kept j b k w ops ob g =
      as_todo p i n m code it there r hd j b vs (typing sc ops) _ _ s w ((acts_are.exprs pl true (length vs) k).invert e)
      (one (λ z. bool_kept x.ty (bool_is x.ty is_b)) j b (todo (length vs) Invert ∷ k) w ops ob
      (as_typed p i n m code it there r hd (of_frame ∷ j) b vs (typing x.scope (left true x ops))
      (typing x.scope (opd ty.Bool x.path ∷ ops)) (todo (length vs) Invert ∷ k) l (5 + w)
      (of_type x ty.Bool ops (bool_is x.ty is_b))
      (step p i n m code it there r hd (of_frame ∷ j) (of_frame ∷ j) b vs vs Invert (typing x.scope (opd ty.Bool x.path ∷ ops))
      (typing x.scope (opd ty.Bool None ∷ ops)) k l t (l + 1) (5 + w) (5 + w)
      (nodes.invert (of_frame ∷ j) j refl b (site_at r hd vs) (context vs (typing x.scope (opd ty.Bool x.path ∷ ops)))
      (context vs (typing x.scope (opd ty.Bool None ∷ ops))) k l (5 + w) runs.0)
      (leads.acts vs vs Invert k (typing x.scope (opd ty.Bool x.path ∷ ops)) (typing x.scope (opd ty.Bool None ∷ ops))
      (invert x.path)) runs.1 (omega arith)
      (as_typed p i n m code it there r hd (of_frame ∷ j) b vs (typing x.scope (opd ty.Bool None ∷ ops))
      (typing y.scope (left true y ops)) k t (5 + w) (left_so y (plain ty.Bool x.scope) ops is) g))))

  pub negate_goes : (pl : Place) (e : Expr) (sc : Scope) (x y : Typed) (s l t : ℕ) → is_int x.ty ≡ true
      → y ≡ plain ty.Int x.scope → Run it.instrs (ins.Neg ∷ []) l t → E sc true e x s l
      → E sc true (expr pl (node.Neg e)) y s t
  negate_goes pl e sc x y s l t is_i is runs one kept j b k w ops ob g =
      as_todo p i n m code it there r hd j b vs (typing sc ops) _ _ s w ((acts_are.exprs pl true (length vs) k).negate e)
      (one (λ z. subst (λ (u : Ty). is_void u ≡ false) (sym (int_is x.ty is_i)) refl) j b (todo (length vs) Negate ∷ k) w
      ops ob
      (as_typed p i n m code it there r hd (of_frame ∷ j) b vs (typing x.scope (left true x ops))
      (typing x.scope (opd ty.Int x.path ∷ ops)) (todo (length vs) Negate ∷ k) l (5 + w)
      (of_type x ty.Int ops (int_is x.ty is_i))
      (step p i n m code it there r hd (of_frame ∷ j) (of_frame ∷ j) b vs vs Negate (typing x.scope (opd ty.Int x.path ∷ ops))
      (typing x.scope (opd ty.Int None ∷ ops)) k l t (l + 1) (5 + w) (5 + w)
      (nodes.negate (of_frame ∷ j) j refl b (site_at r hd vs) (context vs (typing x.scope (opd ty.Int x.path ∷ ops)))
      (context vs (typing x.scope (opd ty.Int None ∷ ops))) k l (5 + w) runs.0)
      (leads.acts vs vs Negate k (typing x.scope (opd ty.Int x.path ∷ ops)) (typing x.scope (opd ty.Int None ∷ ops))
      (negate x.path)) runs.1 (omega arith)
      (as_typed p i n m code it there r hd (of_frame ∷ j) b vs (typing x.scope (opd ty.Int None ∷ ops))
      (typing y.scope (left true y ops)) k t (5 + w) (left_so y (plain ty.Int x.scope) ops is) g))))
