-- Statements and bodies that are typed and stand at typed places stand at the places.
use Rattle.std.proofs.Common.{◌≡◌, ℕ, suc, ◌+◌, List, [], ◌∷◌, length, Option, Some, None, true, false, refl, sym, ap, ◌∙◌, subst}
use Rattle.std.specs.Prelude.{◌||◌, Ok}
use Rattle.jn_base.specs.declared.tree.Place.{Place}
use Rattle.jn_base.specs.declared.tree.TypeTerm.{TypeTerm}
use Rattle.jn_base.specs.declared.tree.Program.{Program}
use Rattle.jn_base.specs.declared.tree.Expr.{Expr}
use Rattle.jn_base.specs.declared.tree.Stmt.{Stmt}
use Rattle.jn_base.specs.declared.tree.Stmt.TheVariants as stmt
use Rattle.jn_base.specs.declared.types.Ty.{Ty}
use Rattle.jn_base.specs.declared.types.Ty.TheVariants as ty
use Rattle.jn_base.specs.declared.names.Var.{Var}
use Rattle.jn_code.specs.declared.instr.Instr.{Instr}
use Rattle.jn_code.specs.declared.image.Code.{Code}
use Rattle.jn_laws.specs.LawsOfWritten.{Shallow}
use Rattle.jn_laws.proofs.WrittenTypes.{written_kinds}
use Rattle.jn_rules.specs.Plans.{done}
use Rattle.jn_rules.specs.Questions.{Gives}
use Rattle.jn_rules.specs.Headers.{site_in}
use Rattle.jn_rules.specs.Exprs.{site_here, Typed, path_of, is_bool, is_int}
use Rattle.jn_rules.specs.Stmts.{In, Before, here, typed, stmt_types, stmts_type, with_local, is_void}
use Rattle.jn_rules.proofs.FormLaws.{forms_are}
use Rattle.jn_rules.proofs.PlanLaws.{then_came, wanted}
use Rattle.jn_rule_laws.proofs.Behind.{same_before, blocks_move}
use Rattle.jn_agree.specs.Naming.{Naming}
use Rattle.jn_agree.specs.Rows.{kind_of_type}
use Rattle.jn_agree.specs.Places.{At, Run, newest, HasKind}
use Rattle.jn_places.specs.StmtPlaces.{StmtsAt, ValueAt, printing, numbered_from, no_stmts, block_at, local_at, assign_at, set_at, do_at, if_at, while_at, return_at, end_at, print_at, text_at}
use Rattle.jn_code.specs.declared.image.Shape.{Shape}
use Rattle.jn_sem.specs.Acts.{path_behind}
use Rattle.jn_sem.specs.Does.{Body}
use Rattle.jn_rules.specs.Headers.{Header}
use Rattle.jn_rules.specs.Stmts.{body_in, at_start}
use Rattle.jn_rule_laws.specs.LawsOfHeaders.{IsHeader, ResultIs}
use Rattle.jn_laws.specs.LawsOfWritten.{IsWritten}
use Rattle.jn_rule_laws.proofs.HeaderLaws.{headers_are_the_meanings}
use Rattle.jn_agree.specs.Rows.{HasShape, ResultKind, IsShape, result_kind}
use Rattle.jn_agree.specs.Places as plain
use Rattle.jn_sem.specs.Terms.{Site}
use Rattle.jn_size_laws.proofs.Bytes.{bodies_sized}
use Rattle.jn_size_laws.proofs.Arguments.{operands_of}
use Rattle.jn_place_spans.specs.LawsOfStmts.{Ready}
use Rattle.jn_place_spans.specs.LawsOfUntyped.{StmtsStand, BodiesStand}
use Rattle.jn_place_spans.proofs.KindsOfTypes.{no_way}
use Rattle.jn_place_spans.proofs.Seen.{named_sees, expr_sees}
use Rattle.jn_place_spans.proofs.Untyped.{expr_stands}
use Rattle.jn_place_spans.proofs.Bodies.{body_ready}
use Rattle.jn_place_spans.proofs.TypedStmts.{ready_level, ready_more, sees_ready, asked, local_found, assign_found, set_found, condition_found, choice_found, block_found, block_same, loop_found, return_found}

module _ (p : Program) (deep : Shallow p) (n : Naming) (scratch : ℕ) (it : Code) (b : In) where
  abbrev site : Before → Site
  site x = site_here (here b x)

  abbrev site_with : List Var → Site
  site_with vs = site_here (record { class = b.class; method = b.method; vars = vs })

  abbrev Plain : Site → ℕ → List Stmt → ℕ → ℕ → Type 0
  Plain at next ss s t = plain.StmtsAt p n scratch it at next ss s t

  -- with the same variables, and this number for the next local
  as_it_was : (x y : Before) (k : ℕ) (ss : List Stmt) (s t : ℕ) → y.vars ≡ x.vars → y.next ≡ k
      → Plain (site y) y.next ss s t → Plain (site x) k ss s t
  as_it_was x y k ss s t vars next at =
      subst (λ (vs : List Var). Plain (site_with vs) k ss s t) vars (subst (λ (i : ℕ). Plain (site y) i ss s t) next at)

  as_same : (x y : Before) (ss : List Stmt) (s t : ℕ) → y ≡ x → Plain (site y) y.next ss s t
      → Plain (site x) x.next ss s t
  as_same x y ss s t e at = subst (λ (z : Before). Plain (site z) z.next ss s t) e at

  value_stands : (x : Before) → Ready it b x → (e : Expr) (s t : ℕ) → ValueAt p n scratch it b x true e s t
      → (y : Typed)
      → Gives p (typed b x e x.scope) (Ok y) → plain.ExprAt p n scratch it (site x) true e s t
  value_stands x r e s t at y g =
      expr_stands p deep n scratch it (here b x) r.locals x.scope true e s t at (sees_ready it b x r) y g

  -- a number and a truth value are printed by an instruction of their own
  print_stands : (at : Site) (next : ℕ) (e : Expr) (pl : Place) (ss : List Stmt) (s m o t : ℕ) (u : Ty)
      → (is_int u || is_bool u) ≡ true → plain.ExprAt p n scratch it at true e s m → Run it.instrs (printing u ∷ []) m o
      → Plain at next ss o t → Plain at next (stmt.Print e pl ∷ ss) s t
  print_stands at next e pl ss s m o t ty.Int test value runs rest =
      plain.print_at at next e pl 1 ss s m o t value runs rest
  print_stands at next e pl ss s m o t ty.Bool test value runs rest =
      plain.print_at at next e pl 2 ss s m o t value runs rest
  print_stands at next e pl ss s m o t ty.Null test value runs rest = no_way test
  print_stands at next e pl ss s m o t ty.Void test value runs rest = no_way test
  print_stands at next e pl ss s m o t (ty.Class xs k) test value runs rest = no_way test

  stmts_stand : (x : Before) (ss : List Stmt) (s t : ℕ) → StmtsAt p n scratch it b x ss s t → Ready it b x
      → (y : Before)
      → Gives p (stmts_type b ss x) (Ok y) → Plain (site x) x.next ss s t
  stmts_stand x _ s t (no_stmts _ _ _ end) r y g = plain.no_stmts (site x) x.next s t end
  stmts_stand x _ s t (block_at _ body ss _ m _ inner rest) r y g =
      let c = then_came (stmt_types b (stmt.Block body) x) (stmts_type b ss) y g in
      let a = asked p b _ x c.first _ ((forms_are.stmts b x).block body) c.gave in
      let z = block_found p b x body c.first a in
      let same = block_same p b x body c.first a in
      plain.block_at (site x) x.next body ss s m t (stmts_stand x body s m inner r z.last z.had)
      (as_it_was x c.first (path_behind body x.next) ss m t same.vars (blocks_move p b body x c.first a).next
      (stmts_stand c.first ss m t (rest c.first c.gave) (ready_level it b x c.first r same) y c.then))
  stmts_stand x _ s t (local_at _ final term name e type ss _ m o _ ea is has runs rest) r y g =
      let c = then_came (stmt_types b (stmt.Local final term name e) x) (stmts_type b ss) y g in
      let f = local_found p b x final term name e type c.first is c.gave in
      let there = subst (λ (k : ℕ). HasKind it k (kind_of_type f.v.ty)) (sym f.path)
      (subst (λ (u : Ty). HasKind it x.next (kind_of_type u)) f.type_is has) in
      let behind = stmts_stand c.first ss o t (rest c.first c.gave)
      (subst (Ready it b) (sym f.is) (ready_more p deep it b x f.v r there)) y c.then in
      plain.local_at (site x) x.next final term name e type ss s m o t
      (value_stands x r e s m ea f.value.first f.value.had) is has runs
      (subst (λ (v : Var). Plain (plain.with_var (site x) v) (suc x.next) ss o t) f.shown
      (as_same (with_local x f.v) c.first ss o t f.is behind))
  stmts_stand x _ s t (assign_at _ name e v ss _ m o _ ea new has runs rest) r y g =
      let c = then_came (stmt_types b (stmt.Assign name e) x) (stmts_type b ss) y g in
      let f = assign_found p b x name e v c.first new c.gave in
      plain.assign_at (site x) x.next name e v ss s m o t (value_stands x r e s m ea f.value.first f.value.had) new runs
      (as_same x c.first ss o t f.is
      (stmts_stand c.first ss o t (rest c.first c.gave) (subst (Ready it b) (sym f.is) r) y c.then))
  stmts_stand x _ s t (set_at _ of f e j kind_f ss _ l m o _ ra eas sel kinds runs rest) r y g =
      let c = then_came (stmt_types b (stmt.Set of f e) x) (stmts_type b ss) y g in
      let w = set_found p b x of f e c.first c.gave in
      plain.set_at (site x) x.next of f e j kind_f ss s l m o t (value_stands x r of s l ra w.first w.had)
      (expr_stands p deep n scratch it (here b x) r.locals (path_of w.first.ty w.first).scope true e l m
      (eas w.first w.had)
      (named_sees (here b x) w.first.ty w.first.path w.first.scope
      (expr_sees p deep n scratch it (here b x) r.locals x.scope true of s l ra (sees_ready it b x r) w.first w.had))
      w.value.first w.value.had) sel runs
      (as_it_was x c.first x.next ss o t w.same.vars w.next
      (stmts_stand c.first ss o t (rest c.first c.gave) (ready_level it b x c.first r w.same) y c.then))
  stmts_stand x _ s t (do_at _ e ss _ m _ ea rest) r y g =
      let c = then_came (stmt_types b (stmt.Do e) x) (stmts_type b ss) y g in
      let v = then_came (typed b x e x.scope) (λ z. done x) c.first
      (asked p b _ x c.first _ ((forms_are.stmts b x).call e) c.gave) in
      let is = same_before x c.first v.then in
      plain.do_at (site x) x.next e ss s m t
      (expr_stands p deep n scratch it (here b x) r.locals x.scope false e s m ea (sees_ready it b x r) v.first v.gave)
      (as_same x c.first ss m t is
      (stmts_stand c.first ss m t (rest c.first c.gave) (subst (Ready it b) (sym is) r) y c.then))
  stmts_stand x _ s t (if_at _ e body other pl ss _ m o u _ ea at_branch ones at_jump others rest) r y g =
      let c = then_came (stmt_types b (stmt.If e body other pl) x) (stmts_type b ss) y g in
      let a = condition_found p b x e _ c.first (asked p b _ x c.first _
      ((forms_are.stmts b x).choice e body other pl) c.gave) in
      let d = choice_found p b x body other c.first a.then in
      let of_one = block_found p b x body d.first d.had_one in
      let of_other = block_found p b (numbered_from x d.first.next) other d.second d.had_other in
      let next_one = (blocks_move p b body x d.first d.had_one).next in
      let next_other = (blocks_move p b other (numbered_from x d.first.next) d.second d.had_other).next in
      plain.if_at (site x) x.next e body other pl ss s m o u t (value_stands x r e s m ea a.first a.had) at_branch
      (stmts_stand x body (m + 1) o ones r of_one.last of_one.had) at_jump
      (subst (λ (k : ℕ). Plain (site x) k other (o + 1) u) next_one
      (stmts_stand (numbered_from x d.first.next) other (o + 1) u (others d.first d.had_one)
      (record { locals = r.locals; alike = r.alike }) of_other.last of_other.had))
      (as_it_was x c.first (path_behind other (path_behind body x.next)) ss u t d.same.vars
      (d.next ∙ next_other ∙ ap (path_behind other) next_one)
      (stmts_stand c.first ss u t (rest c.first c.gave) (ready_level it b x c.first r d.same) y c.then))
  stmts_stand x _ s t (while_at _ e body pl ss _ m o _ ea at_branch inner at_jump rest) r y g =
      let c = then_came (stmt_types b (stmt.While e body pl) x) (stmts_type b ss) y g in
      let a = condition_found p b x e _ c.first (asked p b _ x c.first _
      ((forms_are.stmts b x).loop e body pl) c.gave) in
      let d = loop_found p b x body c.first a.then in
      plain.while_at (site x) x.next e body pl ss s m o t (value_stands x r e s m ea a.first a.had) at_branch
      (stmts_stand x body (m + 1) o inner r d.block.last d.block.had) at_jump
      (as_it_was x c.first (path_behind body x.next) ss (o + 1) t d.same.vars
      (d.next ∙ (blocks_move p b body x d.last d.had).next)
      (stmts_stand c.first ss (o + 1) t (rest c.first c.gave) (ready_level it b x c.first r d.same) y c.then))
  stmts_stand x _ s t (return_at _ e pl ss _ m o _ ea runs rest) r y g =
      let c = then_came (stmt_types b (stmt.Return (Some e) pl) x) (stmts_type b ss) y g in
      let f = return_found p b x e pl c.first c.gave in
      let is = same_before x c.first f.value.then in
      plain.return_at (site x) x.next e pl ss s m o t (value_stands x r e s m ea f.value.first f.value.had) runs
      (as_same x c.first ss o t is
      (stmts_stand c.first ss o t (rest c.first c.gave) (subst (Ready it b) (sym is) r) y c.then))
  stmts_stand x _ s t (end_at _ pl ss _ o _ runs rest) r y g =
      let c = then_came (stmt_types b (stmt.Return None pl) x) (stmts_type b ss) y g in
      let w = wanted (is_void b.result) _ (done x) c.first
      (asked p b _ x c.first _ ((forms_are.stmts b x).returns None pl) c.gave) in
      let is = same_before x c.first w.then in
      plain.end_at (site x) x.next pl ss s o t runs (as_same x c.first ss o t is
      (stmts_stand c.first ss o t (rest c.first c.gave) (subst (Ready it b) (sym is) r) y c.then))
  stmts_stand x _ s t (print_at _ e pl x0 ss _ m o _ ea is_it runs rest) r y g =
      let c = then_came (stmt_types b (stmt.Print e pl) x) (stmts_type b ss) y g in
      let v = then_came (typed b x e x.scope) _ c.first
      (asked p b _ x c.first _ ((forms_are.stmts b x).prints e pl) c.gave) in
      let w = wanted (is_int v.first.ty || is_bool v.first.ty) _ (done x) c.first v.then in
      let is = same_before x c.first w.then in
      print_stands (site x) x.next e pl ss s m o t v.first.ty w.test (value_stands x r e s m ea v.first v.gave)
      (subst (λ (z : Instr). Run it.instrs (z ∷ []) m o) (is_it v.first v.gave) runs)
      (as_same x c.first ss o t is
      (stmts_stand c.first ss o t (rest c.first c.gave) (subst (Ready it b) (sym is) r) y c.then))
  stmts_stand x _ s t (text_at _ k pl ss _ o _ runs rest) r y g =
      let c = then_came (stmt_types b (stmt.PrintText k pl) x) (stmts_type b ss) y g in
      let is = same_before x c.first (asked p b _ x c.first _ ((forms_are.stmts b x).prints_text k pl) c.gave) in
      plain.text_at (site x) x.next k pl ss s o t runs (as_same x c.first ss o t is
      (stmts_stand c.first ss o t (rest c.first c.gave) (subst (Ready it b) (sym is) r) y c.then))

pub stmts_stand_all : StmtsStand
stmts_stand_all p deep n scratch it b x r ss s t at y g = stmts_stand p deep n scratch it b x ss s t at r y g

-- ---- whole bodies

-- the shape of a header is that of its body
shape_is : (p : Program) (b : Body) (k : Header) → IsHeader p b k → (s : Shape) → IsShape k.vars k.result s
    → HasShape p b s
shape_is p b k head s is = record {
  vars = k.vars;
  params = head.params;
  kinds = is.params;
  result = at b.method.result head.result;
} where
  written : (u : Ty) → IsWritten u → result_kind u ≡ kind_of_type u
  written ty.Int w = refl
  written ty.Bool w = refl
  written (ty.Class xs m) w = refl
  written ty.Null w = absurd w
  written ty.Void w = absurd w

  at : (o : Option TypeTerm) → ResultIs p b k.vars o k.result → ResultKind p b k.vars o s.result
  at None e = is.result ∙ ap result_kind e
  at (Some t) e = (
    k.result,
    e,
    is.result ∙ written k.result ((written_kinds p).of_value (site_in b k.vars) t k.result e),
  )

pub bodies_stand : BodiesStand
bodies_stand p deep n b k it head typed at few =
    let c = then_came (stmts_type (body_in b k) b.method.body (at_start b k)) _ tt typed in
    let is_header = (headers_are_the_meanings p b k).0 head in
    let stmts = stmts_stand p deep n (path_behind b.method.body (suc (length k.vars))) it (body_in b k) (at_start b k)
    b.method.body at.first at.last at.stmts (body_ready p b k it head n at few) c.first c.gave in
    let stands : plain.BodyAt p n b it = record {
      shape = at.shape;
      has_shape = shape_is p b k is_header at.shape at.is_shape;
      params = at.params;
      result = at.result;
      vars = k.vars;
      are_params = is_header.params;
      from = record { first = at.first; last = at.last; tested = at.tested; stmts = stmts; over = at.over };
    } in
    record {
      at = stands;
      sized = bodies_sized p n b it stands;
      arguments = λ f. operands_of.arguments_of p n _ it _ _ b.method.body at.first at.last f stmts;
    }
