-- A whole body stands where its parts were emitted one behind the other.
use Rattle.std.proofs.Common.{◌≡◌, ℕ, suc, ◌<◌, List, [], ◌∷◌, ◌++◌, length, map, Bool, true, false, Option, None, refl, sym, ap, ◌∙◌, subst, arith, append-nil}
use Rattle.std.proofs.lemmas.List.{length-map}
use Rattle.std.proofs.lemmas.Option.{slice_get_within}
use Rattle.std.specs.Prelude.{Result, Ok, Some, take, slice_get, ◌||◌}
use Rattle.jn_base.specs.declared.tree.Method.{Method}
use Rattle.jn_base.specs.declared.tree.Program.{Program}
use Rattle.jn_base.specs.declared.names.Resolved.{Resolved}
use Rattle.jn_base.specs.declared.names.Var.{Var}
use Rattle.jn_base.specs.declared.refusal.Refusal.{Refusal}
use Rattle.jn_base.specs.declared.refusal.Rule.TheVariants as rule
use Rattle.jn_code.specs.declared.instr.Instr.{Instr}
use Rattle.jn_code.specs.declared.image.Code.{Code}
use Rattle.jn_sem.specs.Acts.{path_behind}
use Rattle.jn_sem.specs.Does.{Body}
use Rattle.jn_rules.specs.Plans.{Mark, Plan, Nothing, done, wants}
use Rattle.jn_rules.specs.Questions.{Gives, Notes}
use Rattle.jn_rules.specs.Resolved.{AreSorted}
use Rattle.jn_rules.specs.Headers.{Header, header_typed}
use Rattle.jn_rules.specs.Exprs.{in_method}
use Rattle.jn_rules.specs.Stmts.{Before, here, is_void, all_stop, stmts_type, body_in, at_start, body_with, body_types}
use Rattle.jn_rules.proofs.PlanLaws.{then_noted, notes_give, plan_one}
use Rattle.jn_agree.specs.Naming.{Naming}
use Rattle.jn_agree.specs.Rows.{kind_of_type}
use Rattle.jn_agree.specs.Places.{Run, last_return}
use Rattle.jn_places.specs.StmtPlaces.{StmtsAt, TypedBodyAt}
use Rattle.jn_lower.specs.declared.emitter.Locals.{Locals}
use Rattle.jn_lower.specs.declared.emitter.Emitter.{Emitter}
use Rattle.jn_lower.specs.declared.walk.Parts.{Parts}
use Rattle.jn_lower.specs.declared.walk.Walk.{Walk}
use Rattle.jn_lower.specs.Cursors.{Ahead}
use Rattle.jn_lower.specs.Emitted.{Fits, Adds}
use Rattle.jn_lower.specs.Written.{param_kind, param_tests, written_result}
use Rattle.jn_lower.specs.Lowering.{PartsAre, BodyIs}
use Rattle.jn_lower.specs.Walks.{Ready, LowersStmts, Begun, Finished}
use Rattle.jn_lower.proofs.Growing.{added, earlier}
use Rattle.jn_lower.proofs.Finishing.{locals_fit}
use Rattle.jn_lower.specs.Known.{AreParamsOf}
use Rattle.jn_lower.proofs.Heads.{HeadIs, head_is, header_silent}

header_same : {x y : Header} → ◌≡◌ {A = Result Header Refusal} (Ok x) (Ok y) → x ≡ y
header_same e = cc

-- ---- what is noted of a body

silent : (p : Program) (t : Bool) (r : Refusal) (u v : Nothing) (l : List Mark) → Notes p (wants t r (done u)) l v → l ≡ []
silent p true r u v l h = h.0
silent p false r u v l h = absurd h

record BodyNoted (g : Parts) (b : Body) (k : Header) (ms : List Mark) : Type 0 where
  after : Before
  noted : Notes g.p.now (stmts_type (body_in b k) b.method.body (at_start b k)) ms after

body_noted : (g : Parts) (n : Naming) (b : Body) (k : Header) (ms : List Mark) → PartsAre g.p.now g.t.now g.slots.now g.names.now n
    → Gives g.p.now (header_typed b) (Ok k) → Notes g.p.now (body_types b) ms tt → BodyNoted g b k ms
body_noted g n b k ms parts header noted =
    let x = then_noted (header_typed b) (body_with b) ms tt noted in
    let same : x.first ≡ k =
    header_same (plan_one parts.one (header_typed b) (Ok x.first) (Ok k) (notes_give g.p.now (header_typed b) x.before x.first x.noted) header) in
    let y = then_noted (stmts_type (body_in b k) b.method.body (at_start b k)) (λ z. ends k) x.after tt
    (subst (λ (z : Header). Notes g.p.now (body_with b z) x.after tt) same x.then) in
    record {
      after = y.first;
      noted = subst (λ (l : List Mark). Notes g.p.now (stmts_type (body_in b k) b.method.body (at_start b k)) l y.first)
          (sym (x.all ∙ ap (λ (l : List Mark). l ++ x.after) (header_silent g.p.now b x.before x.first x.noted) ∙ y.all
          ∙ ap (λ (l : List Mark). y.before ++ l) (silent g.p.now (is_void k.result || all_stop b.method.body) (in_method rule.E23 (here (body_in b k) (at_start b k)) b.method.name.at) tt tt y.after y.then)
          ∙ append-nil y.before)) y.noted;
    }
  where
    ends : Header → Plan Nothing
    ends z = wants (is_void z.result || all_stop b.method.body)
        (in_method rule.E23 (here (body_in b z) (at_start b z)) b.method.name.at) (done tt)

-- ---- locals

none_some : {k : ℕ} → ◌≡◌ {A = Option ℕ} None (Some k) → ⊥
none_some e = cc

one_some : {j k : ℕ} → ◌≡◌ {A = Option ℕ} (Some j) (Some k) → j ≡ k
one_some e = cc

-- what is known of the first kinds tells all of them
front : (xs ys : List ℕ) → ((q k : ℕ) → slice_get xs q ≡ Some k → slice_get ys q ≡ Some k) → take (length xs) ys ≡ xs
front [] ys f = refl
front (x ∷ xs) [] f = absurd (none_some (f 0 x refl))
front (x ∷ xs) (y ∷ ys) f =
    ap (λ (k : ℕ). k ∷ take (length xs) ys) (one_some (f 0 x refl))
    ∙ ap (λ (l : List ℕ). x ∷ l) (front xs ys (λ q k e. f (suc q) k e))

-- ---- the whole

pub body_stands : (g : Parts) (n : Naming) (m : Method) (r : Resolved) (b : Body) (k : Header) (c0 c1 c3 : Emitter)
    (us vs : List Var) (w1 w2 : Walk) (code : Code) → PartsAre g.p.now g.t.now g.slots.now g.names.now n
    → g.class.now ≡ r.class → AreParamsOf g.t.now g.class.now m us → BodyIs g.p.now m r b k → Begun m c0
    → Adds (param_tests 1 m.params) c0 c1 → w1.out ≡ c1 → ((ms : List Mark) → AreSorted ms r → Ahead ms w1.marks)
    → LowersStmts g m.body us vs w1 w2 → Adds (last_return (written_result m.result)) w2.out c3 → Finished m c3 code
    → TypedBodyAt g.p.now n b k code
body_stands g n m r b k c0 c1 c3 us vs w1 w2 code parts class are is begun tested at_first marks all over end =
    let head = subst (λ (z : Method). HeadIs z.params z.result k) is.method (head_is g.p.now b k is.header) in
    let noted = body_noted g n b k is.resolved.marks parts is.header is.resolved.noted in
    let scratch = path_behind m.body (suc (length m.params)) in
    let locals1 = ap (λ (o : Emitter). o.locals) at_first ∙ tested.locals in
    let ready : Ready g.class.now us scratch (here (body_in b k) (at_start b k)) (at_start b k).scope w1 = record {
      class = class ∙ is.resolved.class;
      vars = are g.p.now b k parts.filled parts.one (class ∙ is.resolved.class) is.method is.header;
      first = ap (λ (o : Locals). slice_get o.kinds 0) locals1 ∙ ap (λ (l : List ℕ). slice_get l 0) begun.kinds;
      above = ap (λ (o : Locals). o.scratch) locals1 ∙ begun.scratch;
      kinds = λ v h. ap (λ (o : Locals). slice_get o.kinds v.path) locals1 ∙ ap (λ (l : List ℕ). slice_get l v.path) begun.kinds
          ∙ head.numbered v h;
      valued = head.valued;
      apart = head.above;
      few = λ v h.
          let l = slice_get_within (3 ∷ map param_kind m.params) v.path (kind_of_type v.ty) (head.numbered v h) in
          let most = end.few in
          omega (arith, l, most, length-map m.params param_kind);
      paths = head.paths;
      low = λ q l. refl;
    } in
    let d = (all n scratch (body_in b k) parts).done (at_start b k) noted.after is.resolved.marks [] ready
    (subst (λ (z : Method). Notes g.p.now (stmts_type (body_in b k) z.body (at_start b k)) is.resolved.marks noted.after) is.method noted.noted)
    (subst (λ (l : List Mark). Ahead l w1.marks) (sym (append-nil is.resolved.marks)) (marks is.resolved.marks is.resolved.sorted)) in
    let e1 = added (param_tests 1 m.params) c0 c1 tested in
    let e3 = added (last_return (written_result m.result)) w2.out c3 over in
    let fit3 = locals_fit c3.locals code end.locals end.scratch in
    let fit2 = earlier w2.out.locals c3.locals code e3.grown.locals fit3 in
    let fit1 = earlier w1.out.locals w2.out.locals code d.emitted.grown.locals fit2 in
    let zero0 = ap length begun.instrs in
    record {
      shape = record { params = map param_kind m.params; result = written_result m.result };
      is_shape = record { params = sym head.kinds; result = sym head.result };
      params = end.params ∙ ap (λ (i : ℕ). take i c3.locals.kinds) (sym (ap length begun.kinds ∙ ap suc (length-map m.params param_kind)))
          ∙ front c0.locals.kinds c3.locals.kinds (λ q i h. e3.grown.locals.kinds q i (d.emitted.grown.locals.kinds q i
          (ap (λ (o : Locals). slice_get o.kinds q) locals1 ∙ h)))
          ∙ begun.kinds;
      result = end.result;
      first = length c1.instrs;
      last = length w2.out.instrs;
      tested = subst (λ (xs : List Instr). Run code.instrs xs 0 (length c1.instrs)) (sym head.tested)
          (subst (λ (s : ℕ). Run code.instrs (param_tests 1 m.params) s (length c1.instrs)) zero0
          (e1.there code (subst (λ (o : Emitter). Fits o.locals code) at_first fit1) (record {
            by = λ i ge lt.
                ap (λ (o : Emitter). slice_get o.instrs i) (sym at_first)
                ∙ d.emitted.grown.kept.by i (omega arith) (subst (λ (o : Emitter). i < length o.instrs) (sym at_first) lt)
                ∙ e3.grown.kept.by i (omega arith) (omega (arith, d.emitted.grown.longer, ap (λ (o : Emitter). length o.instrs) at_first))
                ∙ ap (λ (l : List Instr). slice_get l i) (sym end.instrs);
          })));
      stmts = subst (λ (z : Method). StmtsAt g.p.now n (path_behind z.body (suc (length k.vars))) code (body_in b k) (at_start b k) z.body (length c1.instrs) (length w2.out.instrs))
          (sym is.method)
          (subst (λ (i : ℕ). StmtsAt g.p.now n (path_behind m.body (suc i)) code (body_in b k) (at_start b k) m.body (length c1.instrs) (length w2.out.instrs))
          (sym head.count)
          (subst (λ (o : Emitter). StmtsAt g.p.now n scratch code (body_in b k) (at_start b k) m.body (length o.instrs) (length w2.out.instrs))
          at_first
          (d.emitted.there code fit2 (record {
            by = λ i ge lt.
                e3.grown.kept.by i (omega arith) lt ∙ ap (λ (l : List Instr). slice_get l i) (sym end.instrs);
          }))));
      over = subst (λ (i : ℕ). Run code.instrs (last_return i) (length w2.out.instrs) (length code.instrs)) (sym end.result)
          (subst (λ (i : ℕ). Run code.instrs (last_return (written_result m.result)) (length w2.out.instrs) i) (ap length (sym end.instrs))
          (e3.there code fit3 (record { by = λ i ge lt. ap (λ (l : List Instr). slice_get l i) (sym end.instrs) })));
    }
