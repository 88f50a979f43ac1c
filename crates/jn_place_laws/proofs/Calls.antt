-- Which body a call enters has the shape of the signature that was found.
use Rattle.std.proofs.Common.{◌≡◌, ℕ, suc, List, [], ◌∷◌, length, map, Option, Some, None, false, refl, sym, ap, ◌∙◌, subst}
use Rattle.std.specs.Prelude.{take}
use Rattle.jn_base.specs.declared.tree.Name.{Name}
use Rattle.jn_base.specs.declared.tree.TypeTerm.{TypeTerm}
use Rattle.jn_base.specs.declared.tree.Program.{Program}
use Rattle.jn_base.specs.declared.types.Ty.{Ty}
use Rattle.jn_base.specs.declared.types.Ty.TheVariants as ty
use Rattle.jn_base.specs.declared.names.Var.{Var}
use Rattle.jn_base.specs.Paths.{Path}
use Rattle.jn_base.specs.Scopes.{Scope}
use Rattle.jn_code.specs.declared.image.Shape.{Shape}
use Rattle.jn_sem.specs.Sharing.{IsClass}
use Rattle.jn_sem.specs.Terms.{TypeIs}
use Rattle.jn_sem.specs.Values.{Value, Reference}
use Rattle.jn_sem.specs.State.{Heap, Frame}
use Rattle.jn_sem.specs.Does.{Body, IsBody, args_of}
use Rattle.jn_laws.specs.Surely.{Surely}
use Rattle.jn_rules.specs.Headers.{Header, site_in}
use Rattle.jn_rules.specs.Stmts.{is_void}
use Rattle.jn_rule_laws.specs.LawsOfHeaders.{IsHeader, ResultIs}
use Rattle.jn_rule_laws.specs.LawsOfMembers.{Alike, none, one, BodyAlike}
use Rattle.jn_sound.specs.Callees.{Callee, IsCallee, IsCalled, header_of}
use Rattle.jn_sound.specs.Takes.{Opd, opd, opds_of, typing}
use Rattle.jn_sound.specs.Steps.{Standing}
use Rattle.jn_sound.specs.Sound.{OperandsFit, one as one_operand, cut, all_views}
use Rattle.jn_sound.proofs.Laws.{Laws}
use Rattle.jn_sound.proofs.Ways.{surely, and_so}
use Rattle.jn_sound.proofs.Start.{header_there}
use Rattle.jn_sound.proofs.Calls.{Taken, args_taken, no_pairs}
use Rattle.jn_sound.proofs.CallStep.{method_known}
use Rattle.jn_agree.specs.Rows.{ResultKind, IsShape, result_kind, kind_of_type}
use Rattle.jn_node_laws.specs.Facts.{ResultGoes, CallsBody, CallsWell}
use Rattle.jn_place_laws.specs.Contexts.{context, Stood}
use Rattle.jn_place_laws.proofs.Stable.{sure_nat, sure_nats}

abbrev pub kinds_of : List Var → List ℕ
kinds_of vars = map (λ (x : Var). kind_of_type x.ty) vars

alike_kinds : (xs ys : List Var) → Alike xs ys → kinds_of xs ≡ kinds_of ys
alike_kinds _ _ none = refl
alike_kinds _ _ (one {x = x} {y = y} {xs = xs} {ys = ys} t f q r) =
    let k : kinds_of xs ≡ kinds_of ys = alike_kinds xs ys r in
    ap (λ (u : Ty). kind_of_type u ∷ kinds_of xs) t ∙ ap (λ (ks : List ℕ). kind_of_type y.ty ∷ ks) k

written_kind : (t : Ty) → is_void t ≡ false → result_kind t ≡ kind_of_type t
written_kind ty.Int e = refl
written_kind ty.Bool e = refl
written_kind ty.Null e = refl
written_kind ty.Void e = cc
written_kind (ty.Class xs m) e = refl

some_kind : (t : Ty) → (j : ℕ) × (kind_of_type t ≡ suc j)
some_kind ty.Int = (0, refl)
some_kind ty.Bool = (1, refl)
some_kind ty.Null = (2, refl)
some_kind ty.Void = (2, refl)
some_kind (ty.Class xs m) = (2, refl)

module _ (p : Program) (laws : Laws p) where
  -- a body with that header has a shape of its kinds
  pub has_shape : (b : Body) (x : Header) (s : Shape) → IsHeader p b x → s.params ≡ kinds_of x.vars
      → s.result ≡ result_kind x.result → CallsBody p b s
  has_shape b x s is ps rs = record {
    shape = record { vars = x.vars; params = is.params; kinds = ps; result = result b.method.result is.result };
    result = goes b.method.result is.result;
  } where
    kind : (t : TypeTerm) → TypeIs p (site_in b x.vars) t x.result → s.result ≡ kind_of_type x.result
    kind t i = rs ∙ written_kind x.result (laws.not_void _ t x.result i)

    result : (o : Option TypeTerm) → ResultIs p b x.vars o x.result → ResultKind p b x.vars o s.result
    result None e = rs ∙ ap result_kind e
    result (Some t) i = (x.result, i, kind t i)

    goes : (o : Option TypeTerm) → ResultIs p b x.vars o x.result → ResultGoes o s.result
    goes None e = rs ∙ ap result_kind e
    goes (Some t) i = let j = some_kind x.result in (j.0, kind t i ∙ j.1)

  -- the body of the name at V, where one like the found one is there
  pub shape_at : (V : Path) (name : Name) (c : Header) (s : Shape) → IsShape c.vars c.result s
      → Surely (IsClass p V × BodyAlike p V name c) → (b : Body) → IsBody p V name b → CallsBody p b s
  shape_at V name c s is sure b ib =
      let x = header_there p laws V name b ib in
      has_shape b x.0 s x.1
      (sure_nats s.params (kinds_of x.0.vars) (and_so sure (λ a.
      let h = same x.0 x.1 a.0 a.1 in
      surely (is.params ∙ alike_kinds c.vars a.1.header.vars a.1.same
      ∙ ap (λ (y : Header). kinds_of y.vars) h))))
      (sure_nat s.result (result_kind x.0.result) (and_so sure (λ a.
      let h = same x.0 x.1 a.0 a.1 in
      surely (is.result ∙ ap result_kind (sym a.1.result) ∙ ap (λ (y : Header). result_kind y.result) h))))
    where
      same : (x : Header) → IsHeader p b x → IsClass p V → (a : BodyAlike p V name c) → a.header ≡ x
      same x i class a =
          laws.header_one b a.header x
          (subst (λ (z : Body). IsHeader p z a.header) (laws.body_one V name a.body b class a.is_body ib) a.is_header) i

  module _ (r : Frame) (hd : Header) (vs : List Var) (s : Scope) where
    -- where a reference stands below the arguments, its class has the method
    class_below : (before ops : List Opd) (args : List Opd) (count : ℕ) (t : Ty) (q : Option ℕ) (g : Frame) (h : Heap)
        → opds_of count [] before ≡ Some (args, opd t q ∷ ops) → Stood p r hd (context vs (typing s before)) g h
        → (values us : List Value) (o : ℕ) (V : Path) → args_of count [] g.vals ≡ Some (values, Reference o V ∷ us)
        → Surely (IsClass p V)
    class_below before ops args count t q g h e st values us o V av = and_so st (λ a. at a) where
      at : Standing p r hd vs (typing s before) g h → Surely (IsClass p V)
      at a = by got.others (others (got.values, got.others) (values, Reference o V ∷ us) (sym got.are ∙ av)) got.fit
        where
          got : Taken p (take (length vs) g.vars) h s (all_views (cut (length vs) g) a.at.fresh) count [] g.vals args (opd t q ∷ ops)
          got = args_taken p (take (length vs) g.vars) h s (all_views (cut (length vs) g) a.at.fresh) count [] [] before g.vals args
              (opd t q ∷ ops) e no_pairs a.at.stands.operands

          others : (y z : List Value × List Value) → Some y ≡ Some z → y.1 ≡ z.1
          others y z e = let g : y ≡ z = cc in ap (λ (u : List Value × List Value). u.1) g

          on_top : OperandsFit p (take (length vs) g.vars) h s (all_views (cut (length vs) g) a.at.fresh) (opd t q ∷ ops) (Reference o V ∷ us)
              → Surely (IsClass p V)
          on_top (one_operand j x) = surely (j.real.related.other)

          by : (zs : List Value) → zs ≡ Reference o V ∷ us
              → OperandsFit p (take (length vs) g.vars) h s (all_views (cut (length vs) g) a.at.fresh) (opd t q ∷ ops) zs → Surely (IsClass p V)
          by zs e k = on_top (subst
              (OperandsFit p (take (length vs) g.vars) h s (all_views (cut (length vs) g) a.at.fresh) (opd t q ∷ ops)) e k)

    -- a call enters a body of the shape of the selector
    pub calls_well : (before ops : List Opd) (args : List Opd) (name : Name) (count : ℕ) (t : Ty) (q : Option ℕ)
        (c : Callee) (shape : Shape) → IsCalled p s t name c → opds_of count [] before ≡ Some (args, opd t q ∷ ops)
        → IsShape c.vars c.result shape → (g : Frame) (h : Heap)
        → Stood p r hd (context vs (typing s before)) g h → CallsWell p name count shape h g.vals
    calls_well before ops args name count t q c shape called e is g h st values us o V av b ib =
        shape_at V name (header_of c) shape is
        (and_so (class_below before ops args count t q g h e st values us o V av) (λ class. and_so st (λ a. and_so
        (method_known laws name count t q args c called e a.at.stands values us o V av) (λ k. surely (class, k)))))
        b ib

  -- the body of a callee itself
  pub callee_shape : (name : Name) (c : Callee) (shape : Shape) → IsClass p c.bound → IsCallee p name c
      → IsShape c.vars c.result shape → (b : Body) → IsBody p c.bound name b → CallsBody p b shape
  callee_shape name c shape class callee is b ib =
      has_shape b (header_of c) shape
      (subst (λ (z : Body). IsHeader p z (header_of c)) (laws.body_one c.bound name c.body b class callee.body ib)
      callee.header) is.params is.result
