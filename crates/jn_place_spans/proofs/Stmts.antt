-- Statements that stand at their places and are typed are a part with kinds, by induction over the places.
use Rattle.std.proofs.Common.{◌≡◌, ℕ, suc, ◌+◌, ◌<◌, ◌≤◌, List, [], ◌∷◌, ◌++◌, length, map, Some, None, true, false, refl, sym, ap, ◌∙◌, subst, arith}
use Rattle.std.specs.Prelude.{max, ◌||◌, Ok, Contains}
use Rattle.std.proofs.Math.Nat.{le-max_left, le-max_right}
use Rattle.std.proofs.lemmas.List.Elements.{Contains-push, Contains-append_left, Contains-append_right}
use Rattle.std.proofs.lemmas.Option.{slice_get_within}
use Rattle.jn_base.specs.declared.tree.Program.{Program}
use Rattle.jn_base.specs.declared.tree.Expr.{Expr}
use Rattle.jn_base.specs.declared.tree.Stmt.{Stmt}
use Rattle.jn_base.specs.declared.tree.Stmt.TheVariants as stmt
use Rattle.jn_base.specs.declared.tree.Stmt.TheOpen.{Stmt-F}
use Rattle.jn_base.specs.declared.types.Ty.{Ty}
use Rattle.jn_base.specs.declared.types.Ty.TheVariants as ty
use Rattle.jn_base.specs.Forms.{all_of}
use Rattle.jn_code.specs.declared.kind.OperandKind.{OperandKind}
use Rattle.jn_code.specs.declared.kind.OperandKind.TheVariants as kind
use Rattle.jn_code.specs.declared.instr.Instr.{Instr}
use Rattle.jn_code.specs.declared.instr.Instr.TheVariants as ins
use Rattle.jn_code.specs.declared.image.Image.{Image}
use Rattle.jn_code.specs.declared.image.Code.{Code}
use Rattle.jn_code.specs.Kinds.{kind_of, result_kind}
use Rattle.jn_laws.specs.LawsOfWritten.{Shallow}
use Rattle.jn_rules.specs.Plans.{Plan, done}
use Rattle.jn_rules.specs.Questions.{Gives}
use Rattle.jn_rules.specs.Exprs.{Typed, path_of, field_type, is_bool, is_int}
use Rattle.jn_rules.specs.Stmts.{In, Before, here, typed, stmt_types, stmts_type, is_void}
use Rattle.jn_rules.proofs.FormLaws.{forms_are}
use Rattle.jn_rules.proofs.PlanLaws.{then_came, wanted}
use Rattle.jn_rule_laws.proofs.Behind.{same_before}
use Rattle.jn_body_laws.specs.BodyForms.{Use, Prints, uses}
use Rattle.jn_body_laws.proofs.ListedForms.{uses_rolled}
use Rattle.jn_agree.specs.Naming.{Naming}
use Rattle.jn_agree.specs.Rows.{RowsAre, kind_of_type}
use Rattle.jn_agree.specs.Rows.{result_kind as result_of}
use Rattle.jn_agree.specs.Spans.{Spans}
use Rattle.jn_agree.specs.Places.{Run, HasKind}
use Rattle.jn_places.specs.StmtPlaces.{StmtsAt, ValueAt, printing, numbered_from, no_stmts, block_at, local_at, assign_at, set_at, do_at, if_at, while_at, return_at, end_at, print_at, text_at}
use Rattle.jn_span_laws.proofs.Spanned.{joined}
use Rattle.jn_span_laws.proofs.Forms as forms
use Rattle.jn_size_laws.specs.Operands.{Needs, highest, expr_needs, stmt_needs, stmts_need}
use Rattle.jn_size_laws.proofs.NeedEquations as size
use Rattle.jn_place_spans.specs.LawsOfNodes.{NodesOf}
use Rattle.jn_place_spans.specs.LawsOfExprs.{value_of}
use Rattle.jn_place_spans.specs.LawsOfStmts.{Ready, TextsThere, FitsBody, StmtsSpan}
use Rattle.jn_place_spans.proofs.KindsOfTypes.{no_way, class_value, below_kind, put_kind, not_void, field_kind}
use Rattle.jn_place_spans.proofs.Nodes.{nodes}
use Rattle.jn_place_spans.proofs.Seen.{named_sees, expr_sees}
use Rattle.jn_place_spans.proofs.Exprs.{expr_span}
use Rattle.jn_place_spans.proofs.TypedStmts.{ready_level, ready_more, sees_ready, BelowFound, asked, local_found, assign_found, set_found, condition_found, choice_found, block_found, block_same, loop_found, return_found}

-- ---- kinds of results

result_is : (t : Ty) → is_void t ≡ false → result_kind (result_of t) ≡ Some (kind_of (kind_of_type t))
result_is ty.Int e = refl
result_is ty.Bool e = refl
result_is ty.Null e = refl
result_is (ty.Class xs m) e = refl
result_is ty.Void e = cc

void_result : (t : Ty) → is_void t ≡ true → result_of t ≡ 0
void_result ty.Void e = refl
void_result ty.Int e = cc
void_result ty.Bool e = cc
void_result ty.Null e = cc
void_result (ty.Class xs m) e = cc

module _ (p : Program) (deep : Shallow p) (i : Image) (n : Naming) (rows : RowsAre p i n) (it : Code) (scratch : ℕ)
    (b : In)
    (fits : FitsBody it b) where
  abbrev Part : ℕ → ℕ → List OperandKind → List OperandKind → Type 0
  Part s t ks ls = Spans i it s t ks ls

  its : NodesOf p i n it
  its = nodes p i n it rows

  -- ---- an expression of a statement

  -- the value stands alone, in a type of this kind
  value_span : (x : Before) → Ready it b x → (e : Expr) (s t : ℕ) → ValueAt p n scratch it b x true e s t → (y : Typed)
      → Gives p (typed b x e x.scope) (Ok y) → (k : OperandKind) → value_of true y.ty ≡ k ∷ [] → t < length it.instrs
      → (expr_needs e).operands ≤ it.stack → Part s t [] (k ∷ [])
  value_span x r e s t at y g k is inside room =
      subst (λ (ls : List OperandKind). Part s t [] (ls ++ [])) is
      (expr_span p deep i n rows it scratch (here b x) r.locals x.scope true e s t at (sees_ready it b x r) y g
      (λ q. not_void y.ty k is) inside [] (omega (arith, room)))

  -- its value has the kind of that type
  below_span : (x : Before) → Ready it b x → (e : Expr) (s t : ℕ) → ValueAt p n scratch it b x true e s t → (u : Ty)
      (go : Plan Before) (y : Before) → BelowFound p b x e x.scope u go y → t < length it.instrs
      → (expr_needs e).operands ≤ it.stack → Part s t [] (kind_of (kind_of_type u) ∷ [])
  below_span x r e s t at u go y f inside room =
      value_span x r e s t at f.first f.had (kind_of (kind_of_type u)) (below_kind p f.first.scope f.first.ty u f.below)
      inside room

  -- a number and a truth value are printed by an instruction of their own
  print_part : (u : Ty) (m o : ℕ) → (is_int u || is_bool u) ≡ true → Run it.instrs (printing u ∷ []) m o
      → (k : OperandKind) × (value_of true u ≡ k ∷ []) × Part m o (k ∷ []) []
  print_part ty.Int m o e runs = (kind.Int, refl, its.print_number m o runs)
  print_part ty.Bool m o e runs = (kind.Bool, refl, its.print_truth m o runs)
  print_part ty.Null m o e runs = no_way e
  print_part ty.Void m o e runs = no_way e
  print_part (ty.Class xs k) m o e runs = no_way e

  -- ---- texts

  texts_rest : (u : Stmt) (ss : List Stmt) → TextsThere i (all_of (map uses (u ∷ ss)))
      → TextsThere i (all_of (map uses ss))
  texts_rest u ss texts k c = texts k (Contains-append_right (uses u) (all_of (map uses ss)) (Prints k) c)

  texts_first : (u : Stmt) (ss : List Stmt) (us : List Use) → uses u ≡ us → TextsThere i (all_of (map uses (u ∷ ss)))
      → TextsThere i us
  texts_first u ss us is texts k c =
      texts k (Contains-append_left (uses u) (all_of (map uses ss)) (Prints k)
      (subst (λ (vs : List Use). Contains vs (Prints k)) (sym is) c))

  -- ---- by the places

  stmts_span : (x : Before) (ss : List Stmt) (s t : ℕ) → StmtsAt p n scratch it b x ss s t → Ready it b x
      → TextsThere i (all_of (map uses ss)) → t < length it.instrs → (y : Before) → Gives p (stmts_type b ss x) (Ok y)
      → (stmts_need ss).operands ≤ it.stack → Part s t [] []
  stmts_span x _ s t (no_stmts _ _ _ end) r texts inside y g room = forms.moved_end i it s t s [] [] end
      (forms.none i it s [])
  stmts_span x _ s t (block_at _ body ss _ m _ inner rest) r texts inside y g room =
      let q = ap (λ (z : Needs). z.operands) (size.at_block body) in
      let one = le-max_left (stmt_needs (stmt.Block body)).operands (highest (map stmt_needs ss)) in
      let two = le-max_right (stmt_needs (stmt.Block body)).operands (highest (map stmt_needs ss)) in
      let c = then_came (stmt_types b (stmt.Block body) x) (stmts_type b ss) y g in
      let a = asked p b _ x c.first _ ((forms_are.stmts b x).block body) c.gave in
      let z = block_found p b x body c.first a in
      let behind = stmts_span c.first ss m t (rest c.first c.gave) (ready_level it b x c.first r
      (block_same p b x body c.first a))
      (texts_rest (stmt.Block body) ss texts) inside y c.then (omega (arith, two, room)) in
      let low = behind.le in
      joined i it s m t [] [] []
      (stmts_span x body s m inner r
      (texts_first (stmt.Block body) ss _ (uses_rolled (Stmt-F.Block body) _ (stmt.rolls-Block body)) texts)
      (omega (arith, low, inside)) z.last z.had (omega (arith, q, one, room)))
      behind
  stmts_span x _ s t (local_at _ final term name e type ss _ m o _ ea is has runs rest) r texts inside y g room =
      let q = ap (λ (z : Needs). z.operands) (size.at_local final term name e) in
      let one = le-max_left (stmt_needs (stmt.Local final term name e)).operands (highest (map stmt_needs ss)) in
      let two = le-max_right (stmt_needs (stmt.Local final term name e)).operands (highest (map stmt_needs ss)) in
      let c = then_came (stmt_types b (stmt.Local final term name e) x) (stmts_type b ss) y g in
      let f = local_found p b x final term name e type c.first is c.gave in
      let there = subst (λ (k : ℕ). HasKind it k (kind_of_type f.v.ty)) (sym f.path)
      (subst (λ (u : Ty). HasKind it x.next (kind_of_type u)) f.type_is has) in
      let behind = stmts_span c.first ss o t (rest c.first c.gave)
      (subst (Ready it b) (sym f.is) (ready_more p deep it b x f.v r there))
      (texts_rest (stmt.Local final term name e) ss texts) inside y c.then (omega (arith, two, room)) in
      let bound = subst (λ (u : Ty). Part m o (kind_of (kind_of_type u) ∷ []) []) f.type_is
      (its.bind scratch final type x.next m o has runs fits.some) in
      let low = behind.le in
      let bound_low = bound.le in
      joined i it s m t [] (kind_of (kind_of_type f.v.ty) ∷ []) []
      (below_span x r e s m ea f.v.ty _ c.first f.value (omega (arith, low, bound_low, inside)) (omega
      (arith, q, one, room)))
      (joined i it m o t (kind_of (kind_of_type f.v.ty) ∷ []) [] [] bound behind)
  stmts_span x _ s t (assign_at _ name e v ss _ m o _ ea new has runs rest) r texts inside y g room =
      let q = ap (λ (z : Needs). z.operands) (size.at_assign name e) in
      let one = le-max_left (stmt_needs (stmt.Assign name e)).operands (highest (map stmt_needs ss)) in
      let two = le-max_right (stmt_needs (stmt.Assign name e)).operands (highest (map stmt_needs ss)) in
      let c = then_came (stmt_types b (stmt.Assign name e) x) (stmts_type b ss) y g in
      let f = assign_found p b x name e v c.first new c.gave in
      let behind = stmts_span c.first ss o t (rest c.first c.gave) (subst (Ready it b) (sym f.is) r)
      (texts_rest (stmt.Assign name e) ss texts) inside y c.then (omega (arith, two, room)) in
      let put = its.assign v.path (kind_of_type v.ty) m o has runs in
      let low = behind.le in
      let put_low = put.le in
      joined i it s m t [] (kind_of (kind_of_type v.ty) ∷ []) []
      (below_span x r e s m ea v.ty _ c.first f.value (omega (arith, low, put_low, inside)) (omega
      (arith, q, one, room)))
      (joined i it m o t (kind_of (kind_of_type v.ty) ∷ []) [] [] put behind)
  stmts_span x _ s t (set_at _ of f e j kind_f ss _ l m o _ ra eas sel kinds runs rest) r texts inside y g room =
      let q = ap (λ (z : Needs). z.operands) (size.at_set of f e) in
      let one = le-max_left (stmt_needs (stmt.Set of f e)).operands (highest (map stmt_needs ss)) in
      let two = le-max_right (stmt_needs (stmt.Set of f e)).operands (highest (map stmt_needs ss)) in
      let left = le-max_left (expr_needs of).operands (suc (expr_needs e).operands) in
      let right = le-max_right (expr_needs of).operands (suc (expr_needs e).operands) in
      let c = then_came (stmt_types b (stmt.Set of f e) x) (stmts_type b ss) y g in
      let w = set_found p b x of f e c.first c.gave in
      let behind = stmts_span c.first ss o t (rest c.first c.gave) (ready_level it b x c.first r w.same)
      (texts_rest (stmt.Set of f e) ss texts) inside y c.then (omega (arith, two, room)) in
      let put = its.put f.name j kind_f m o [] sel runs (omega arith) in
      let k : value_of true w.value.first.ty ≡ kind_of kind_f ∷ [] =
      below_kind p w.value.first.scope w.value.first.ty (field_type w.field (path_of w.first.ty w.first)) w.value.below
      ∙ ap (λ (z : ℕ). kind_of z ∷ []) (put_kind (path_of w.first.ty w.first).scope (0 ∷ [])
      ((path_of w.first.ty w.first).path ∷ []) w.field.ty)
      ∙ ap (λ (z : OperandKind). z ∷ []) (sym (field_kind w.field.ty kind_f (kinds w.first w.field w.had w.here_is))) in
      let low = behind.le in
      let put_low = put.le in
      let value = subst (λ (ls : List OperandKind). Part l m (kind.Reference ∷ []) (ls ++ (kind.Reference ∷ []))) k
      (expr_span p deep i n rows it scratch (here b x) r.locals (path_of w.first.ty w.first).scope true e l m
      (eas w.first w.had) (named_sees (here b x) w.first.ty w.first.path w.first.scope
      (expr_sees p deep n scratch it (here b x) r.locals x.scope true of s l ra (sees_ready it b x r) w.first w.had))
      w.value.first w.value.had (λ z. not_void w.value.first.ty (kind_of kind_f) k) (omega
      (arith, low, put_low, inside))
      (kind.Reference ∷ []) (omega (arith, q, one, right, room))) in
      let value_low = value.le in
      joined i it s l t [] (kind.Reference ∷ []) []
      (value_span x r of s l ra w.first w.had kind.Reference (class_value w.first.ty w.class true)
      (omega (arith, low, put_low, value_low, inside)) (omega (arith, q, one, left, room)))
      (joined i it l m t (kind.Reference ∷ []) (kind_of kind_f ∷ (kind.Reference ∷ [])) [] value
      (joined i it m o t (kind_of kind_f ∷ (kind.Reference ∷ [])) [] [] put behind))
  stmts_span x _ s t (do_at _ e ss _ m _ ea rest) r texts inside y g room =
      let q = ap (λ (z : Needs). z.operands) (size.at_do e) in
      let one = le-max_left (stmt_needs (stmt.Do e)).operands (highest (map stmt_needs ss)) in
      let two = le-max_right (stmt_needs (stmt.Do e)).operands (highest (map stmt_needs ss)) in
      let c = then_came (stmt_types b (stmt.Do e) x) (stmts_type b ss) y g in
      let v = then_came (typed b x e x.scope) (λ z. done x) c.first
      (asked p b _ x c.first _ ((forms_are.stmts b x).call e) c.gave) in
      let behind = stmts_span c.first ss m t (rest c.first c.gave)
      (subst (Ready it b) (sym (same_before x c.first v.then)) r) (texts_rest (stmt.Do e) ss texts) inside y c.then
      (omega (arith, two, room)) in
      let low = behind.le in
      joined i it s m t [] [] []
      (expr_span p deep i n rows it scratch (here b x) r.locals x.scope false e s m ea
      (sees_ready it b x r) v.first v.gave
      (λ z. no_way z) (omega (arith, low, inside)) [] (omega (arith, q, one, room)))
      behind
  stmts_span x _ s t (if_at _ e body other pl ss _ m o u _ ea at_branch ones at_jump others rest) r texts inside y g
      room =
      let q = ap (λ (z : Needs). z.operands) (size.at_if e body other pl) in
      let one = le-max_left (stmt_needs (stmt.If e body other pl)).operands (highest (map stmt_needs ss)) in
      let two = le-max_right (stmt_needs (stmt.If e body other pl)).operands (highest (map stmt_needs ss)) in
      let three = le-max_left (expr_needs e).operands (max (stmts_need body).operands (stmts_need other).operands) in
      let four = le-max_right (expr_needs e).operands (max (stmts_need body).operands (stmts_need other).operands) in
      let five = le-max_left (stmts_need body).operands (stmts_need other).operands in
      let six = le-max_right (stmts_need body).operands (stmts_need other).operands in
      let c = then_came (stmt_types b (stmt.If e body other pl) x) (stmts_type b ss) y g in
      let a = condition_found p b x e _ c.first (asked p b _ x c.first _
      ((forms_are.stmts b x).choice e body other pl) c.gave) in
      let d = choice_found p b x body other c.first a.then in
      let of_one = block_found p b x body d.first d.had_one in
      let of_other = block_found p b (numbered_from x d.first.next) other d.second d.had_other in
      let all = texts_first (stmt.If e body other pl) ss _
      (uses_rolled (Stmt-F.If e body other pl) _ (stmt.rolls-If e body other pl)) texts in
      let behind = stmts_span c.first ss u t (rest c.first c.gave) (ready_level it b x c.first r d.same)
      (texts_rest (stmt.If e body other pl) ss texts) inside y c.then (omega (arith, two, room)) in
      let low = behind.le in
      joined i it s u t [] [] []
      (forms.chosen i it s m o u
      (value_span x r e s m ea a.first a.had kind.Bool a.truth (slice_get_within it.instrs m (ins.Jfalse
      (o + 1)) at_branch)
      (omega (arith, q, one, three, room)))
      at_branch
      (stmts_span x body (m + 1) o ones r
      (λ k z. all k (Contains-append_left (all_of (map uses body)) (all_of (map uses other)) (Prints k) z))
      (slice_get_within it.instrs o (ins.Jump u) at_jump) of_one.last of_one.had (omega
      (arith, q, one, four, five, room)))
      at_jump
      (stmts_span (numbered_from x d.first.next) other (o + 1) u (others d.first d.had_one)
      (record { locals = r.locals; alike = r.alike })
      (λ k z. all k (Contains-append_right (all_of (map uses body)) (all_of (map uses other)) (Prints k) z))
      (omega (arith, low, inside)) of_other.last of_other.had (omega (arith, q, one, four, six, room)))
      (omega (arith, low, inside)))
      behind
  stmts_span x _ s t (while_at _ e body pl ss _ m o _ ea at_branch inner at_jump rest) r texts inside y g room =
      let q = ap (λ (z : Needs). z.operands) (size.at_while e body pl) in
      let one = le-max_left (stmt_needs (stmt.While e body pl)).operands (highest (map stmt_needs ss)) in
      let two = le-max_right (stmt_needs (stmt.While e body pl)).operands (highest (map stmt_needs ss)) in
      let three = le-max_left (expr_needs e).operands (stmts_need body).operands in
      let four = le-max_right (expr_needs e).operands (stmts_need body).operands in
      let c = then_came (stmt_types b (stmt.While e body pl) x) (stmts_type b ss) y g in
      let a = condition_found p b x e _ c.first (asked p b _ x c.first _
      ((forms_are.stmts b x).loop e body pl) c.gave) in
      let d = loop_found p b x body c.first a.then in
      let behind = stmts_span c.first ss (o + 1) t (rest c.first c.gave) (ready_level it b x c.first r d.same)
      (texts_rest (stmt.While e body pl) ss texts) inside y c.then (omega (arith, two, room)) in
      let low = behind.le in
      joined i it s (o + 1) t [] [] []
      (forms.repeated i it s m o
      (value_span x r e s m ea a.first a.had kind.Bool a.truth (slice_get_within it.instrs m (ins.Jfalse
      (o + 1)) at_branch)
      (omega (arith, q, one, three, room)))
      at_branch
      (stmts_span x body (m + 1) o inner r
      (texts_first (stmt.While e body pl) ss _ (uses_rolled (Stmt-F.While e body pl) _
      (stmt.rolls-While e body pl)) texts)
      (slice_get_within it.instrs o (ins.Jump s) at_jump) d.block.last d.block.had (omega (arith, q, one, four, room)))
      at_jump (omega (arith, low, inside)))
      behind
  stmts_span x _ s t (return_at _ e pl ss _ m o _ ea runs rest) r texts inside y g room =
      let q = ap (λ (z : Needs). z.operands) (size.at_return (Some e) pl) in
      let one = le-max_left (stmt_needs (stmt.Return (Some e) pl)).operands (highest (map stmt_needs ss)) in
      let two = le-max_right (stmt_needs (stmt.Return (Some e) pl)).operands (highest (map stmt_needs ss)) in
      let c = then_came (stmt_types b (stmt.Return (Some e) pl) x) (stmts_type b ss) y g in
      let f = return_found p b x e pl c.first c.gave in
      let behind = stmts_span c.first ss o t (rest c.first c.gave)
      (subst (Ready it b) (sym (same_before x c.first f.value.then)) r) (texts_rest (stmt.Return
      (Some e) pl) ss texts) inside
      y c.then (omega (arith, two, room)) in
      let ret = its.return_value (kind_of (kind_of_type b.result)) m o
      (ap result_kind fits.result ∙ result_is b.result f.valued) runs in
      let low = behind.le in
      let ret_low = ret.le in
      joined i it s m t [] (kind_of (kind_of_type b.result) ∷ []) []
      (below_span x r e s m ea b.result _ c.first f.value (omega (arith, low, ret_low, inside))
      (omega (arith, q, one, room)))
      (joined i it m o t (kind_of (kind_of_type b.result) ∷ []) [] [] ret behind)
  stmts_span x _ s t (end_at _ pl ss _ o _ runs rest) r texts inside y g room =
      let two = le-max_right (stmt_needs (stmt.Return None pl)).operands (highest (map stmt_needs ss)) in
      let c = then_came (stmt_types b (stmt.Return None pl) x) (stmts_type b ss) y g in
      let w = wanted (is_void b.result) _ (done x) c.first
      (asked p b _ x c.first _ ((forms_are.stmts b x).returns None pl) c.gave) in
      joined i it s o t [] [] [] (its.return_none s o (fits.result ∙ void_result b.result w.test) runs)
      (stmts_span c.first ss o t (rest c.first c.gave) (subst (Ready it b) (sym (same_before x c.first w.then)) r)
      (texts_rest (stmt.Return None pl) ss texts) inside y c.then (omega (arith, two, room)))
  stmts_span x _ s t (print_at _ e pl x0 ss _ m o _ ea is runs rest) r texts inside y g room =
      let q = ap (λ (z : Needs). z.operands) (size.at_print e pl) in
      let one = le-max_left (stmt_needs (stmt.Print e pl)).operands (highest (map stmt_needs ss)) in
      let two = le-max_right (stmt_needs (stmt.Print e pl)).operands (highest (map stmt_needs ss)) in
      let c = then_came (stmt_types b (stmt.Print e pl) x) (stmts_type b ss) y g in
      let v = then_came (typed b x e x.scope) _ c.first
      (asked p b _ x c.first _ ((forms_are.stmts b x).prints e pl) c.gave) in
      let w = wanted (is_int v.first.ty || is_bool v.first.ty) _ (done x) c.first v.then in
      let put = print_part v.first.ty m o w.test
      (subst (λ (z : Instr). Run it.instrs (z ∷ []) m o) (is v.first v.gave) runs) in
      let behind = stmts_span c.first ss o t (rest c.first c.gave)
      (subst (Ready it b) (sym (same_before x c.first w.then)) r) (texts_rest
      (stmt.Print e pl) ss texts) inside y c.then
      (omega (arith, two, room)) in
      let part = put.2 in
      let low = behind.le in
      let put_low = part.le in
      joined i it s m t [] (put.0 ∷ []) []
      (value_span x r e s m ea v.first v.gave put.0 put.1 (omega (arith, low, put_low, inside)) (omega
      (arith, q, one, room)))
      (joined i it m o t (put.0 ∷ []) [] [] part behind)
  stmts_span x _ s t (text_at _ k pl ss _ o _ runs rest) r texts inside y g room =
      let two = le-max_right (stmt_needs (stmt.PrintText k pl)).operands (highest (map stmt_needs ss)) in
      let c = then_came (stmt_types b (stmt.PrintText k pl) x) (stmts_type b ss) y g in
      let there = texts_first (stmt.PrintText k pl) ss (Prints k ∷ [])
      (uses_rolled (Stmt-F.PrintText k pl) _ (stmt.rolls-PrintText k pl)) texts k (Contains-push [] (Prints k)) in
      joined i it s o t [] [] [] (its.print_text k s o there runs)
      (stmts_span c.first ss o t (rest c.first c.gave)
      (subst (Ready it b) (sym (same_before x c.first (asked p b _ x c.first _
      ((forms_are.stmts b x).prints_text k pl) c.gave))) r)
      (texts_rest (stmt.PrintText k pl) ss texts) inside y c.then (omega (arith, two, room)))

pub stmts_span_all : StmtsSpan
stmts_span_all p deep i n rows it scratch b fits x r ss texts s t at inside y g room =
    stmts_span p deep i n rows it scratch b fits x ss s t at r texts inside y g room
