-- Each expression that stands at its places and is typed is a part with kinds, by induction over the places.
use Rattle.std.proofs.Common.{◌≡◌, ℕ, suc, pred, ◌+◌, ◌≤◌, List, [], ◌∷◌, ◌++◌, length, map, Option, Some, None, Bool, true, false, refl, sym, ap, ◌∙◌, subst, arith}
use Rattle.std.specs.Prelude.{◌<◌, slice_get, reverse, max, cond, ◌&&◌, Ok}
use Rattle.std.proofs.Math.Nat.{le-max_left, le-max_right}
use Rattle.std.proofs.lemmas.List.{length-map, length-append, length-reverse}
use Rattle.std.proofs.lemmas.Option.{slice_get_within}
use Rattle.jn_reach.proofs.Eachs.{Each-length}
use Rattle.jn_base.specs.declared.tree.Name.{Name}
use Rattle.jn_base.specs.declared.tree.Named.{Named}
use Rattle.jn_base.specs.declared.tree.Place.{Place}
use Rattle.jn_base.specs.declared.tree.Term.{Term}
use Rattle.jn_base.specs.declared.tree.ViewTerm.{ViewTerm}
use Rattle.jn_base.specs.declared.tree.Node.TheVariants as node
use Rattle.jn_base.specs.declared.tree.Expr.{Expr}
use Rattle.jn_base.specs.declared.tree.Link.{Link}
use Rattle.jn_base.specs.declared.tree.Suffix.{Suffix, out-Suffix}
use Rattle.jn_base.specs.declared.tree.Program.{Program}
use Rattle.jn_base.specs.declared.types.Atom.{Atom as ShownAtom}
use Rattle.jn_base.specs.declared.types.Masks.{Masks}
use Rattle.jn_base.specs.declared.types.Ty.{Ty}
use Rattle.jn_base.specs.declared.types.Ty.TheVariants as ty
use Rattle.jn_base.specs.declared.names.Role.TheVariants as role
use Rattle.jn_base.specs.declared.names.Var.{Var}
use Rattle.jn_base.specs.Parts.{expr}
use Rattle.jn_base.specs.Atoms.{Atom, Among, first}
use Rattle.jn_base.specs.Paths.{Path}
use Rattle.jn_base.specs.Scopes.{Scope, bound}
use Rattle.jn_base.specs.Resolve.{is_class}
use Rattle.jn_base.specs.ResolveTypes.{mask_names}
use Rattle.jn_code.specs.declared.kind.OperandKind.{OperandKind}
use Rattle.jn_code.specs.declared.kind.OperandKind.TheVariants as kind
use Rattle.jn_code.specs.declared.instr.Instr.{Instr}
use Rattle.jn_code.specs.declared.instr.Instr.TheVariants as ins
use Rattle.jn_code.specs.declared.image.Image.{Image}
use Rattle.jn_code.specs.declared.image.Code.{Code}
use Rattle.jn_code.specs.declared.image.Shape.{Shape}
use Rattle.jn_code.specs.Kinds.{kind_of, local_kind}
use Rattle.jn_sem.specs.Terms.{spot_at, vars_at, TermIs, ViewIs}
use Rattle.jn_sem.specs.Does.{Body, IsConstructorBody}
use Rattle.jn_sem.specs.NormalFunction.{normal_type}
use Rattle.jn_laws.specs.LawsOfWritten.{Shallow, HeaderPath, of_this, of_param}
use Rattle.jn_laws.proofs.Terms.{header_path, case_path}
use Rattle.jn_laws.proofs.WrittenTypes.{written_types, class_case}
use Rattle.jn_rules.specs.Headers.{Header, header_typed}
use Rattle.jn_rules.specs.Questions.{Gives}
use Rattle.jn_rules.specs.Exprs.{Here, site_here, Typed, Passed, plain, of_path, path_of, put_in, arg_passed, replaced_paths, is_bool, is_int, operator_type, var_typed, suffix_typed, suffixes_typed, links_typed, args_typed, call_typed, made_exact, fresh_with, expr_types}
use Rattle.jn_rules.specs.Forms.{typed_expr, typed_args, given_args, part_types, typed_parts, typed_links}
use Rattle.jn_rules.proofs.FormLaws.{forms_are}
use Rattle.jn_rules.proofs.PlanLaws.{then_came, wanted}
use Rattle.jn_agree.specs.Naming.{Naming}
use Rattle.jn_agree.specs.Rows.{RowsAre, IsShape, kind_of_type, result_kind}
use Rattle.jn_agree.specs.Spans.{Spans}
use Rattle.jn_agree.specs.Places.{Run, tuck, HasKind, decided_by, ClassCode, CtorCode, ctor, bare, dropping, MethodOf, operator, Strict, IsDecide}
use Rattle.jn_places.specs.ExprPlaces.{ExprAt, ArgsAt, PartsAt, PartAt, LinksAt, at_number, at_truth, at_null, at_this, at_var, at_new, at_super, at_bare_super, at_post, at_not, at_neg, at_view, at_chain, no_args, one_arg, no_parts, last_part, one_part, at_field, at_call, no_links, one_link, one_deciding}
use Rattle.jn_span_laws.specs.LawsOfForms.{AnchorRefers}
use Rattle.jn_span_laws.proofs.Spanned.{joined}
use Rattle.jn_span_laws.proofs.Forms as forms
use Rattle.jn_size_laws.specs.Operands.{Needs, stacked, highest, expr_needs, link_needs, suffix_needs}
use Rattle.jn_size_laws.proofs.NeedEquations as size
use Rattle.jn_place_spans.specs.LawsOfNodes.{NodesOf, arguments, operand_kind, left_of}
use Rattle.jn_place_spans.specs.LawsOfExprs.{value_of, LocalsAre, SeesAs, SpansAs, ExprsSpan}
use Rattle.jn_place_spans.proofs.Nodes.{nodes, turned, local_is, no_arguments}
use Rattle.jn_place_spans.proofs.Seen.{first_passed, first_of_all, var_of, named_sees, super_body, operand_typed, expr_sees, part_sees}
use Rattle.jn_place_spans.proofs.Typed as typed
use Rattle.jn_place_spans.proofs.KindsOfTypes.{params_kinds, no_way, bool_is, int_is, class_value, object_value, below_kind, put_kind, put_result, var_kind, shape_kinds, stacked_low, operands, answered_kind, decide_takes, decide_type, link_low, decide_low, named_same, named_among, not_void, held, no_vars, field_kind}

-- two parts, where the first one ends at a place of the code
one_behind : (i : Image) (it : Code) (s m t : ℕ) (ks js ls : List OperandKind)
    → (m < length it.instrs → Spans i it s m ks js) → Spans i it m t js ls → t < length it.instrs → Spans i it s t ks ls
one_behind i it s m t ks js ls one two inside =
    let le = two.le in
    joined i it s m t ks js ls (one (omega (arith, le, inside))) two

first_kind : {a b : ℕ} {ks ls : List ℕ} → a ∷ ks ≡ b ∷ ls → a ≡ b
first_kind e = cc

module _ (p : Program) (deep : Shallow p) (i : Image) (n : Naming) (rows : RowsAre p i n) (it : Code) (scratch : ℕ)
    (h : Here) (locals : LocalsAre it h) where
  abbrev Part : ℕ → ℕ → List OperandKind → List OperandKind → Type 0
  Part s t ks ls = Spans i it s t ks ls

  abbrev N : Expr → ℕ
  N e = (expr_needs e).operands

  abbrev E : Bool → Expr → Typed → ℕ → ℕ → Type 0
  E keeps e y s t = SpansAs i it keeps e y s t

  abbrev Good : Scope → Type 0
  Good s = SeesAs h s

  its : NodesOf p i n it
  its = nodes p i n it rows

  many : length n.classes ≤ length i.classes
  many = let l = Each-length _ rows.rows in omega (arith, l)

  left_as : (s t : ℕ) (ks as_is to : List OperandKind) (rest : List OperandKind) → as_is ≡ to
      → Part s t ks (to ++ rest) → Part s t ks (as_is ++ rest)
  left_as s t ks as_is to rest e f = subst (λ (ls : List OperandKind). Part s t ks (ls ++ rest)) (sym e) f

  from_as : (s t : ℕ) (as_is to rest ls : List OperandKind) → as_is ≡ to → Part s t (to ++ rest) ls
      → Part s t (as_is ++ rest) ls
  from_as s t as_is to rest ls e f = subst (λ (ks : List OperandKind). Part s t (ks ++ rest) ls) (sym e) f

  value_is : (keeps : Bool) (y z : Typed) → y ≡ z → value_of keeps y.ty ≡ value_of keeps z.ty
  value_is keeps y z e = ap (λ (q : Typed). value_of keeps q.ty) e

  -- a path is a reference
  path_refers : (q : ℕ) → HeaderPath h.vars q → local_kind it q ≡ Some kind.Reference
  path_refers q (of_this e) = subst (λ (z : ℕ). local_kind it z ≡ Some kind.Reference) (sym e)
      (local_is p i n it rows 0 3 locals.this)
  path_refers q (of_param v a e f c) = subst (λ (z : ℕ). local_kind it z ≡ Some kind.Reference) e
      (local_is p i n it rows v.path (kind_of_type v.ty) (locals.vars v a) ∙ ap Some (class_ref v.ty c))
    where
      class_ref : (t : Ty) → is_class t ≡ true → kind_of (kind_of_type t) ≡ kind.Reference
      class_ref (ty.Class xs m) e = refl
      class_ref ty.Int e = no_way e
      class_ref ty.Bool e = no_way e
      class_ref ty.Null e = refl
      class_ref ty.Void e = refl

  term_refers : (t : Term) (x : Atom) → TermIs p role.New (site_here h) t x → AnchorRefers it x
  term_refers t x is q k up = path_refers q ((written_types p deep).term_path role.New (site_here h) t x q k is up)

  view_refers : (v : ViewTerm) (x : Atom) → ViewIs p (site_here h) v x → AnchorRefers it x
  view_refers v x is q k up =
      let c = class_case p (spot_at (site_here h) role.View) (vars_at (site_here h)) (mask_names p)
      (v.term ∷ []) v.masks
      is.resolved.atoms (ty.Class (is.given ∷ []) is.masks) is.resolved.all is.resolved.gives in
      let o = c.each is.given (subst (λ (l : List ShownAtom). Among l is.given)
      (same_atoms c.atoms is.given is.masks c.given.masks c.given.is) first) in
      path_refers q (header_path role.View h.vars q
      (case_path (spot_at (site_here h) role.View) (vars_at (site_here h)) o.term.head is.given.anchor q k o.is.anchor
      (ap (λ (z : Atom). z.anchor) (sym is.is) ∙ up)))
    where
      same_atoms : (xs : List ShownAtom) (y : ShownAtom) (m k : Masks) → ty.Class (y ∷ []) m ≡ ty.Class xs k
          → y ∷ [] ≡ xs
      same_atoms xs y m k e = cc

  var_value : (v : Var) (sc : Scope) → ((var_typed v sc).ty ≡ ty.Void → ⊥)
      → value_of true (var_typed v sc).ty ≡ kind_of (kind_of_type v.ty) ∷ []
  var_value v sc n = at v.fixed v.ty n where
    at : (f : Bool) (t : Ty) → ((cond (f && is_class t) (of_path v.path sc) (plain t sc)).ty ≡ ty.Void → ⊥)
        → value_of true (cond (f && is_class t) (of_path v.path sc) (plain t sc)).ty ≡ kind_of (kind_of_type t) ∷ []
    at false t n = held t n
    at true (ty.Class xs m) n = refl
    at true ty.Int n = refl
    at true ty.Bool n = refl
    at true ty.Null n = refl
    at true ty.Void n = absurd (n refl)

  expr_low : (sc : Scope) (keeps : Bool) (e : Expr) (s t : ℕ) → ExprAt p n scratch it h sc keeps e s t → 1 ≤ N e
  expr_low sc _ _ s t (at_number _ pl z _ _ _) =
      let q = ap (λ (x : Needs). x.operands) (size.at_number pl z) in omega (arith, q)
  expr_low sc _ _ s t (at_truth _ pl z _ _ _) =
      let q = ap (λ (x : Needs). x.operands) (size.at_truth pl z) in omega (arith, q)
  expr_low sc _ _ s t (at_null _ pl _ _ _) =
      let q = ap (λ (x : Needs). x.operands) (size.at_null pl) in omega (arith, q)
  expr_low sc _ _ s t (at_this _ pl _ _ _) =
      let q = ap (λ (x : Needs). x.operands) (size.at_this pl) in omega (arith, q)
  expr_low sc _ _ s t (at_var _ pl x v _ _ _ _) =
      let q = ap (λ (x : Needs). x.operands) (size.at_variable pl x) in omega (arith, q)
  expr_low sc keeps _ s e (at_new _ _ pl t es x cls con _ m _ is args none shapes class ctors runs) =
      let q = ap (λ (x : Needs). x.operands) (size.at_new pl t es) in
      let r = le-max_right (stacked 0 (map expr_needs es)) (length (map expr_needs es) + 1) in
      omega (arith, q, r)
  expr_low sc keeps _ s u (at_super _ _ pl t f e es B q kind k j kinds shape _ l o a _ ea under has tucks bnd args
      shapes class sel params count runs) =
      let q = ap (λ (x : Needs). x.operands) (size.at_super pl t f (e ∷ es)) in
      let r = le-max_left (N e) (max (stacked 2 (map expr_needs es)) (length (map expr_needs es) + 3)) in
      let v = expr_low sc true e s l ea in
      omega (arith, q, r, v)
  expr_low sc keeps _ s u (at_bare_super _ _ pl t f B k j shape _ _ bound shapes class sel none runs) =
      let q = ap (λ (x : Needs). x.operands) (size.at_super pl t f []) in omega (arith, q)
  expr_low sc keeps _ s t (at_post _ _ pl e xs _ l _ ea parts) =
      let q = ap (λ (x : Needs). x.operands) (size.at_post pl e xs) in
      let a = le-max_left (N e) (highest (map suffix_needs xs)) in
      let v = expr_low sc true e s l ea in
      omega (arith, q, a, v)
  expr_low sc _ _ s t (at_not _ pl e _ l _ ea runs) =
      let q = ap (λ (x : Needs). x.operands) (size.at_inverse pl e) in
      let v = expr_low sc true e s l ea in
      omega (arith, q, v)
  expr_low sc _ _ s t (at_neg _ pl e _ l _ ea runs) =
      let q = ap (λ (x : Needs). x.operands) (size.at_negative pl e) in
      let v = expr_low sc true e s l ea in
      omega (arith, q, v)
  expr_low sc _ _ s t (at_view _ pl v e x cls _ l _ ea is class runs) =
      let q = ap (λ (x : Needs). x.operands) (size.at_view pl v e) in
      let r = le-max_right (N e) 2 in
      omega (arith, q, r)
  expr_low sc _ _ s t (at_chain _ pl level e ls _ l _ ea links) =
      let q = ap (λ (x : Needs). x.operands) (size.at_chain pl level e ls) in
      let a = le-max_left (N e) (highest (map link_needs ls)) in
      let v = expr_low sc true e s l ea in
      omega (arith, q, a, v)

  run_le : (xs : List Instr) (s t : ℕ) → Run it.instrs xs s t → s ≤ t
  run_le [] s t e = omega (arith, e)
  run_le (x ∷ xs) s t r = let l = run_le xs (s + 1) t r.1 in omega (arith, l)

  sees : (sc : Scope) (keeps : Bool) (e : Expr) (s t : ℕ) → ExprAt p n scratch it h sc keeps e s t → Good sc
      → (y : Typed)
      → Gives p (expr_types h e sc) (Ok y) → Good y.scope
  sees sc keeps e s t at ok y g = expr_sees p deep n scratch it h locals sc keeps e s t at ok y g

  class_number : (k : ℕ) (B : Path) → slice_get n.classes k ≡ Some B → k < length i.classes
  class_number k B e = let l = slice_get_within n.classes k B e in omega (arith, l, many)

  -- what a call of `super` leaves
  result_left : (keeps : Bool) {sc : Scope} {t : Term} {f : Named} {es : List Expr} (y : Typed)
      (w : typed.SuperFound p h sc t f es y) (shape : Shape) → IsShape w.header.vars w.header.result shape
      → value_of keeps y.ty ≡ left_of keeps shape.result
  result_left keeps y w shape is =
      ap (λ (z : Typed). left_of keeps (result_kind z.ty)) w.is
      ∙ ap (left_of keeps) (put_result w.passed.scope (replaced_paths w.header.vars) w.passed.paths w.header.result
      ∙ sym is.result)

  -- ---- room for the parts

  low_first : (z : Suffix) (zs : List Suffix) (ks : List OperandKind)
      → length ks + highest (map suffix_needs (z ∷ zs)) ≤ it.stack
      → length ks + (size.part_needs (out-Suffix z).args).operands ≤ it.stack
  low_first z zs ks room =
      let q = ap (λ (x : Needs). x.operands) (size.at_suffix z) in
      let a = le-max_left (suffix_needs z).operands (highest (map suffix_needs zs)) in
      omega (arith, q, a, room)

  low_rest : (z : Suffix) (zs : List Suffix) (ks : List OperandKind)
      → length ks + highest (map suffix_needs (z ∷ zs)) ≤ it.stack
      → length ks + highest (map suffix_needs zs) ≤ it.stack
  low_rest z zs ks room =
      let b = le-max_right (suffix_needs z).operands (highest (map suffix_needs zs)) in omega (arith, b, room)

  low_call : (es : List Expr) (ks : List OperandKind) → length ks + stacked 1 (map expr_needs es) ≤ it.stack
      → suc (length ks) ≤ it.stack
  low_call es ks room = let low = stacked_low 1 (map expr_needs es) in omega (arith, low, room)

  low_links : (l : Link) (ls : List Link) (ks : List OperandKind)
      → length ks + highest (map link_needs (l ∷ ls)) ≤ it.stack → length ks + highest (map link_needs ls) ≤ it.stack
  low_links l ls ks room =
      let b = le-max_right (link_needs l).operands (highest (map link_needs ls)) in omega (arith, b, room)

  low_right : (l : Link) → Strict l.op → (ls : List Link) (k : OperandKind) (ks : List OperandKind)
      → length ks + highest (map link_needs (l ∷ ls)) ≤ it.stack → length (k ∷ ks) + N l.right ≤ it.stack
  low_right l strict ls k ks room =
      let q = ap (λ (x : Needs). x.operands) (size.at_link l) in
      let r = link_low l.op strict (N l.right) in
      let b = le-max_left (link_needs l).operands (highest (map link_needs ls)) in
      omega (arith, q, r, b, room)

  low_other : (l : Link) (and : Bool) → IsDecide l.op and → (ls : List Link) (ks : List OperandKind)
      → length ks + highest (map link_needs (l ∷ ls)) ≤ it.stack → length ks + N l.right ≤ it.stack
  low_other l and is ls ks room =
      let q = ap (λ (x : Needs). x.operands) (size.at_link l) in
      let r = decide_low l.op and is (N l.right) in
      let b = le-max_left (link_needs l).operands (highest (map link_needs ls)) in
      omega (arith, q, r, b, room)

  made : (keeps : Bool) (x : Atom) (cls con : List Instr) (es : List Expr) (s m e : ℕ) (y : Typed)
      (ks : List OperandKind) (sc : Scope) → AnchorRefers it x
      → ((b : Body) (c : Header) (passed : Passed) → IsConstructorBody p (bound sc x) b
      → Gives p (header_typed b) (Ok c) → length c.vars ≡ length es
      → Gives p (call_typed h c (typed_args h es) (fresh_with (normal_type sc (made_exact x)) sc)) (Ok passed)
      → Part s m ks (reverse (map var_kind c.vars) ++ ks))
      → (((b : Body) → IsConstructorBody p (bound sc x) b → ⊥) → (es ≡ []) × (m ≡ s))
      → ((b : Body) (k : Header) (C : Name) (P : Path) (j : ℕ) (shape : Shape) → IsConstructorBody p (bound sc x) b
      → Gives p (header_typed b) (Ok k) → x.names ++ x.exact ≡ C ∷ P → MethodOf n C j shape
      → con ≡ ins.Ctor j ∷ [] → IsShape k.vars k.result shape)
      → ClassCode n x cls → CtorCode n x (length es) con
      → Run it.instrs (cls ++ ins.New ∷ (con ++ dropping keeps 3)) m e → typed.NewFound p h sc x es y
      → length ks + (length es + 1) ≤ it.stack
      → Part s e ks (value_of keeps y.ty ++ ks)
  made keeps x cls con es s m e y ks sc refers args none shapes class (ctor C P j shape names sel count void is) runs
      (typed.by b c passed cons head long given cls_y scope) more =
      let k = shape_kinds c.vars c.result shape (shapes b c C P j shape cons head names sel is) in
      let n_args = length-reverse (map kind_of shape.params) in
      let n_kinds = length-map shape.params kind_of in
      let n_all = length-append (arguments shape) ks in
      left_as s e ks _ _ ks (class_value y.ty cls_y keeps)
      (joined i it s m e ks (arguments shape ++ ks) (left_of keeps 3 ++ ks)
      (left_as s m ks (arguments shape) (reverse (map var_kind c.vars)) ks k
      (args b c passed cons head long given))
      (its.make x C j shape cls keeps m e ks many refers class sel
      (subst (λ (xs : List Instr). Run it.instrs (cls ++ ins.New ∷ (xs ++ dropping keeps 3)) m e) is runs)
      (omega (arith, n_args, n_kinds, n_all, count, more)) (omega (arith, more))))
  made keeps x cls con es s m e y ks sc refers args none shapes class (ctor C P j shape names sel count void is) runs
      (typed.bare lacks cls_y scope) more =
      let no_es = none lacks in
      let zero_es = ap (λ (xs : List Expr). length xs) no_es.0 in
      let k = no_arguments shape.params (count ∙ zero_es) in
      left_as s e ks _ _ ks (class_value y.ty cls_y keeps)
      (subst (λ (q : ℕ). Part q e ks (left_of keeps 3 ++ ks)) no_es.1
      (from_as m e [] (arguments shape) ks (left_of keeps 3 ++ ks) (sym k)
      (its.make x C j shape cls keeps m e ks many refers class sel
      (subst (λ (xs : List Instr). Run it.instrs (cls ++ ins.New ∷ (xs ++ dropping keeps 3)) m e) is runs)
      (subst (λ (ws : List OperandKind). suc (length (ws ++ ks)) ≤ it.stack) (sym k) (omega (arith, more)))
      (omega (arith, more)))))
  made keeps x cls con es s m e y ks sc refers args none shapes class (bare zero_args no_one is) runs
      (typed.bare lacks cls_y scope) more =
      left_as s e ks _ _ ks (class_value y.ty cls_y keeps)
      (subst (λ (q : ℕ). Part q e ks (left_of keeps 3 ++ ks)) (none lacks).1
      (its.make_bare x cls keeps m e ks many refers class
      (subst (λ (xs : List Instr). Run it.instrs (cls ++ ins.New ∷ (xs ++ dropping keeps 3)) m e) is runs)
      (omega (arith, more))))
  made keeps x cls con es s m e y ks sc refers args none shapes class (bare zero_args no_one is) runs
      (typed.by b c passed cons head long given cls_y scope) more =
      left_as s e ks _ _ ks (class_value y.ty cls_y keeps)
      (joined i it s m e ks ks (left_of keeps 3 ++ ks)
      (subst (λ (ws : List OperandKind). Part s m ks (ws ++ ks)) (no_vars c.vars (long ∙ zero_args))
      (args b c passed cons head long given))
      (its.make_bare x cls keeps m e ks many refers class
      (subst (λ (xs : List Instr). Run it.instrs (cls ++ ins.New ∷ (xs ++ dropping keeps 3)) m e) is runs)
      (omega (arith, more))))

  -- `super`, from the parts of its first argument and of the others
  super_joined : (keeps : Bool) (s l o m u q kind_q k j : ℕ) (kinds : List ℕ) (count : ℕ) (shape : Shape)
      (f : Named) (x : Var)
      (xs : List Var) (ks : List OperandKind) → HasKind it q kind_q → Run it.instrs (tuck q) l o → k < length i.classes
      → MethodOf n f.name j shape → shape.params ≡ kind_q ∷ kinds → length kinds ≡ count
      → Run it.instrs (ins.Cls k ∷ ins.Callat j ∷ dropping keeps shape.result) m u
      → shape.params ≡ map (λ (v : Var). kind_of_type v.ty) (x ∷ xs) → Part s l ks (var_kind x ∷ ks)
      → Part o m (var_kind x ∷ (kind.Reference ∷ ks)) (reverse (map var_kind xs) ++ (var_kind x ∷
      (kind.Reference ∷ ks)))
      → length ks + (count + 3) ≤ it.stack → Part s u ks (left_of keeps shape.result ++ ks)
  super_joined keeps s l o m u q kind_q k j kinds count shape f x xs ks has tucks low sel params long runs is one
      rest room =
      let local : local_kind it q ≡ Some (var_kind x) =
      local_is p i n it rows q kind_q has ∙ ap (λ (z : ℕ). Some (kind_of z)) (first_kind (sym params ∙ is)) in
      let many_args : length (arguments shape) ≡ suc count =
      length-reverse (map kind_of shape.params) ∙ length-map shape.params kind_of
      ∙ ap (λ (zs : List ℕ). length zs) params ∙ ap suc long in
      let n_all = length-append (arguments shape) (kind.Reference ∷ ks) in
      joined i it s l u ks (var_kind x ∷ ks) (left_of keeps shape.result ++ ks) one
      (joined i it l o u (var_kind x ∷ ks) (var_kind x ∷ (kind.Reference ∷ ks)) (left_of keeps shape.result ++ ks)
      (forms.tucked i it q l o (var_kind x) ks local (local_is p i n it rows 0 3 locals.this) tucks (omega
      (arith, room)))
      (joined i it o m u (var_kind x ∷ (kind.Reference ∷ ks)) (arguments shape ++ (kind.Reference ∷ ks))
      (left_of keeps shape.result ++ ks)
      (left_as o m (var_kind x ∷ (kind.Reference ∷ ks)) (arguments shape) (reverse (var_kind x ∷ map var_kind xs))
      (kind.Reference ∷ ks) (params_kinds (x ∷ xs) shape is)
      (subst (λ (ls : List OperandKind). Part o m (var_kind x ∷ (kind.Reference ∷ ks)) ls)
      (sym (turned (var_kind x) (map var_kind xs) (kind.Reference ∷ ks))) rest))
      (its.super f.name k j shape keeps m u ks low sel runs (omega (arith, n_all, many_args, room)))))

  mutual
    pub expr_span : (sc : Scope) (keeps : Bool) (e : Expr) (s t : ℕ) → ExprAt p n scratch it h sc keeps e s t
        → Good sc
        → (y : Typed) → Gives p (expr_types h e sc) (Ok y) → E keeps e y s t
    expr_span sc _ _ s t (at_number _ pl z _ _ runs) ok y g kept inside ks room =
        let q = ap (λ (x : Needs). x.operands) (size.at_number pl z) in
        left_as s t ks _ _ ks (value_is true y _ (typed.gave p (plain ty.Int sc) y
        (typed.asked p h (expr pl (node.Int z)) sc y _ ((forms_are.exprs h pl sc).number z) g)))
        (its.number z s t ks runs (omega (arith, q, room)))
    expr_span sc _ _ s t (at_truth _ pl z _ _ runs) ok y g kept inside ks room =
        let q = ap (λ (x : Needs). x.operands) (size.at_truth pl z) in
        left_as s t ks _ _ ks (value_is true y _ (typed.gave p (plain ty.Bool sc) y
        (typed.asked p h (expr pl (node.Bool z)) sc y _ ((forms_are.exprs h pl sc).truth z) g)))
        (its.truth z s t ks runs (omega (arith, q, room)))
    expr_span sc _ _ s t (at_null _ pl _ _ runs) ok y g kept inside ks room =
        let q = ap (λ (x : Needs). x.operands) (size.at_null pl) in
        left_as s t ks _ _ ks (value_is true y _ (typed.gave p (plain ty.Null sc) y
        (typed.asked p h (expr pl node.Null) sc y _ (forms_are.exprs h pl sc).null g)))
        (its.null s t ks runs (omega (arith, q, room)))
    expr_span sc _ _ s t (at_this _ pl _ _ runs) ok y g kept inside ks room =
        let q = ap (λ (x : Needs). x.operands) (size.at_this pl) in
        left_as s t ks _ _ ks (value_is true y _ (typed.gave p (of_path 0 sc) y
        (typed.asked p h (expr pl node.This) sc y _ (forms_are.exprs h pl sc).this g)))
        (its.read 0 3 s t ks locals.this runs (omega (arith, q, room)))
    expr_span sc _ _ s t (at_var _ pl x v _ _ new runs) ok y g kept inside ks room =
        let q = ap (λ (x : Needs). x.operands) (size.at_variable pl x) in
        let named = named_same h.vars x v new in
        let is = var_of p h x v sc pl y _ named
        (typed.asked p h (expr pl (node.Var x)) sc y _ ((forms_are.exprs h pl sc).var x) g) in
        left_as s t ks _ _ ks (value_is true y _ is ∙ var_value v sc (λ e. kept refl (ap (λ (z : Typed). z.ty) is ∙ e)))
        (its.read v.path (kind_of_type v.ty) s t ks (locals.vars v (named_among h.vars x v named)) runs
        (omega (arith, q, room)))
    expr_span sc keeps _ s e (at_new _ _ pl t es x cls con _ m _ is args none shapes class ctors runs) ok y g kept
        inside ks room =
        let q = ap (λ (x : Needs). x.operands) (size.at_new pl t es) in
        let l = le-max_left (stacked 0 (map expr_needs es)) (length (map expr_needs es) + 1) in
        let r = le-max_right (stacked 0 (map expr_needs es)) (length (map expr_needs es) + 1) in
        let low = run_le (cls ++ ins.New ∷ (con ++ dropping keeps 3)) m e runs in
        made keeps x cls con es s m e y ks sc (term_refers t x is)
        (λ b c passed cons head long given.
        args_span c.vars es (fresh_with (normal_type sc (made_exact x)) sc).scope passed s m (replaced_paths c.vars)
        ((fresh_with (normal_type sc (made_exact x)) sc).path ∷ []) (args b c cons head)
        (named_sees h (normal_type sc (made_exact x)) None sc ok) long given (omega (arith, low, inside)) ks
        (length ks) 0
        (omega arith) (omega (arith, q, l, room)))
        none shapes class ctors runs (typed.new_found p h pl sc t x es y is g)
        (let z = length-map es expr_needs in omega (arith, q, r, z, room))
    expr_span sc keeps _ s u (at_super _ _ pl t f0 e es B q kind_q k j kinds shape _ l o a _ ea under has tucks bnd args
        shapes class sel params count runs) ok y g kept inside ks room =
        let w = typed.super_found p h pl sc t f0 (e ∷ es) y g in
        let is_body = super_body p deep n scratch it h locals sc ok t f0 (e ∷ es) y B bnd w in
        let is_shape = shapes w.body w.header is_body w.head in
        let needs = ap (λ (x : Needs). x.operands) (size.at_super pl t f0 (e ∷ es)) in
        let one = le-max_left (N e) (max (stacked 2 (map expr_needs es)) (length (map expr_needs es) + 3)) in
        let two = le-max_right (N e) (max (stacked 2 (map expr_needs es)) (length (map expr_needs es) + 3)) in
        let three = le-max_left (stacked 2 (map expr_needs es)) (length (map expr_needs es) + 3) in
        let four = le-max_right (stacked 2 (map expr_needs es)) (length (map expr_needs es) + 3) in
        let all = length-map es expr_needs in
        let from = replaced_paths w.header.vars in
        let f = first_of_all p h from w.header.vars e es (0 ∷ []) sc w.passed w.long w.args in
        let kind_is : value_of true f.one.first.ty ≡ var_kind f.x ∷ [] =
        below_kind p f.one.first.scope f.one.first.ty (put_in f.one.first.scope from (0 ∷ []) f.x.ty) f.one.below
        ∙ ap (λ (z : ℕ). kind_of z ∷ []) (put_kind f.one.first.scope from (0 ∷ []) f.x.ty) in
        let end = run_le (ins.Cls k ∷ ins.Callat j ∷ dropping keeps shape.result) a u runs in
        let rest = args_span f.xs es (arg_passed from (0 ∷ []) f.x f.one.first).scope w.passed o a from
        (0 ∷ (arg_passed from (0 ∷ []) f.x f.one.first).path ∷ [])
        (args w.body w.header f.x f.xs f.one.first is_body w.head f.same f.one.had)
        (named_sees h _ f.one.first.path f.one.first.scope (sees sc true e s l ea ok f.one.first f.one.had)) f.long
        f.one.rest (omega (arith, end, inside)) (var_kind f.x ∷ (kind.Reference ∷ ks)) (length ks) 2 (omega arith)
        (omega (arith, needs, two, three, room)) in
        let tuck_le = run_le (tuck q) l o tucks in
        let rest_le = rest.le in
        left_as s u ks _ _ ks (result_left keeps y w shape is_shape)
        (super_joined keeps s l o a u q kind_q k j kinds (length es) shape f0 f.x f.xs ks has tucks
        (class_number k B class) sel
        params count runs (is_shape.params ∙ ap (map (λ (v : Var). kind_of_type v.ty)) f.same)
        (left_as s l ks (var_kind f.x ∷ []) (value_of true f.one.first.ty) ks (sym kind_is)
        (expr_span sc true e s l ea ok f.one.first f.one.had (λ z. not_void f.one.first.ty (var_kind f.x) kind_is)
        (omega (arith, tuck_le, rest_le, end, inside)) ks (omega (arith, needs, one, room))))
        rest (omega (arith, needs, two, four, all, room)))
    expr_span sc keeps _ s u (at_bare_super _ _ pl t f B k j shape _ _ bnd shapes class sel none runs) ok y g kept
        inside ks
        room =
        let q = ap (λ (x : Needs). x.operands) (size.at_super pl t f []) in
        let w = typed.super_found p h pl sc t f [] y g in
        let is_shape = shapes w.body w.header (super_body p deep n scratch it h locals sc ok t f [] y B bnd w) w.head in
        left_as s u ks _ _ ks (result_left keeps y w shape is_shape)
        (its.bare_super f.name k j shape keeps s u ks (class_number k B class) sel none
        (local_is p i n it rows 0 3 locals.this) runs (omega (arith, q, room)))
    expr_span sc keeps _ s t (at_post _ _ pl e xs _ l _ ea parts) ok y g kept inside ks room =
        let q = ap (λ (x : Needs). x.operands) (size.at_post pl e xs) in
        let a = le-max_left (N e) (highest (map suffix_needs xs)) in
        let b = le-max_right (N e) (highest (map suffix_needs xs)) in
        let c = then_came (expr_types h e sc) (suffixes_typed pl e.at (typed_parts h xs)) y
        (typed.asked p h (expr pl (node.Post e xs)) sc y _ ((forms_are.exprs h pl sc).post e xs) g) in
        let rest = parts_span c.first keeps xs l t (parts c.first c.gave)
        (sees sc true e s l ea ok c.first c.gave) pl e.at y
        c.then kept in
        let behind = rest.1 inside ks (omega (arith, q, b, room)) in
        let low = behind.le in
        joined i it s l t ks (value_of true c.first.ty ++ ks) (value_of keeps y.ty ++ ks)
        (expr_span sc true e s l ea ok c.first c.gave (λ z. rest.0) (omega (arith, low, inside)) ks
        (omega (arith, q, a, room)))
        behind
    expr_span sc _ _ s t (at_not _ pl e _ l _ ea runs) ok y g kept inside ks room =
        let q = ap (λ (x : Needs). x.operands) (size.at_inverse pl e) in
        let c = then_came (expr_types h e sc) _ y
        (typed.asked p h (expr pl (node.Not e)) sc y _ ((forms_are.exprs h pl sc).invert e) g) in
        let w = wanted (is_bool c.first.ty) _ _ y c.then in
        let v = ap (value_of true) (bool_is c.first.ty w.test) in
        let low = expr_low sc true e s l ea in
        let end = run_le (ins.Not ∷ []) l t runs in
        left_as s t ks _ _ ks (value_is true y _ (typed.gave p (plain ty.Bool c.first.scope) y w.then))
        (joined i it s l t ks (value_of true c.first.ty ++ ks) (kind.Bool ∷ ks)
        (expr_span sc true e s l ea ok c.first c.gave (λ z. not_void c.first.ty kind.Bool v) (omega
        (arith, end, inside)) ks
        (omega (arith, q, room)))
        (from_as l t _ _ ks (kind.Bool ∷ ks) v (its.invert l t ks runs (omega (arith, q, low, room)))))
    expr_span sc _ _ s t (at_neg _ pl e _ l _ ea runs) ok y g kept inside ks room =
        let q = ap (λ (x : Needs). x.operands) (size.at_negative pl e) in
        let c = then_came (expr_types h e sc) _ y
        (typed.asked p h (expr pl (node.Neg e)) sc y _ ((forms_are.exprs h pl sc).negate e) g) in
        let w = wanted (is_int c.first.ty) _ _ y c.then in
        let v = ap (value_of true) (int_is c.first.ty w.test) in
        let low = expr_low sc true e s l ea in
        let end = run_le (ins.Neg ∷ []) l t runs in
        left_as s t ks _ _ ks (value_is true y _ (typed.gave p (plain ty.Int c.first.scope) y w.then))
        (joined i it s l t ks (value_of true c.first.ty ++ ks) (kind.Int ∷ ks)
        (expr_span sc true e s l ea ok c.first c.gave (λ z. not_void c.first.ty kind.Int v) (omega
        (arith, end, inside)) ks
        (omega (arith, q, room)))
        (from_as l t _ _ ks (kind.Int ∷ ks) v (its.negate l t ks runs (omega (arith, q, low, room)))))
    expr_span sc _ _ s t (at_view _ pl v e x cls _ l _ ea is class runs) ok y g kept inside ks room =
        let q = ap (λ (x : Needs). x.operands) (size.at_view pl v e) in
        let a = le-max_left (N e) 2 in
        let b = le-max_right (N e) 2 in
        let w = typed.view_found p h pl v e sc y g in
        let o = object_value w.first.ty w.object in
        let end = run_le (cls ++ ins.Conv ∷ []) l t runs in
        left_as s t ks _ _ ks (class_value y.ty w.class true)
        (joined i it s l t ks (value_of true w.first.ty ++ ks) (kind.Reference ∷ ks)
        (expr_span sc true e s l ea ok w.first w.had (λ z. not_void w.first.ty kind.Reference o) (omega
        (arith, end, inside))
        ks (omega (arith, q, a, room)))
        (from_as l t _ _ ks (kind.Reference ∷ ks) o
        (its.view x cls l t ks many (view_refers v x is) class runs (omega (arith, q, b, room)))))
    expr_span sc _ _ s t (at_chain _ pl level e ls _ l _ ea links) ok y g kept inside ks room =
        let q = ap (λ (x : Needs). x.operands) (size.at_chain pl level e ls) in
        let a = le-max_left (N e) (highest (map link_needs ls)) in
        let b = le-max_right (N e) (highest (map link_needs ls)) in
        let low = expr_low sc true e s l ea in
        let c = then_came (expr_types h e sc) (λ x. links_typed h e.at x (typed_links h ls)) y
        (typed.asked p h (expr pl (node.Chain level e ls)) sc y _ ((forms_are.exprs h pl sc).chain level e ls) g) in
        let rest = links_span c.first ls l t (links c.first c.gave)
        (sees sc true e s l ea ok c.first c.gave) e.at y c.then
        (kept refl) in
        let behind = rest.1 inside ks (omega (arith, q, b, room)) (omega (arith, q, a, low, room)) in
        let end = behind.le in
        joined i it s l t ks (value_of true c.first.ty ++ ks) (value_of true y.ty ++ ks)
        (expr_span sc true e s l ea ok c.first c.gave (λ z. rest.0) (omega (arith, end, inside)) ks
        (omega (arith, q, a, room)))
        behind

    args_span : (xs : List Var) (es : List Expr) (sc : Scope) (passed : Passed) (s t : ℕ) (from to : List ℕ)
        → ArgsAt p n scratch it h from xs es to sc s t → Good sc → length xs ≡ length es
        → Gives p (args_typed h from xs (typed_args h es) to sc) (Ok passed) → t < length it.instrs
        → (ks : List OperandKind) (d base : ℕ) → length ks ≡ d + base → d + stacked base (map expr_needs es) ≤ it.stack
        → Part s t ks (reverse (map var_kind xs) ++ ks)
    args_span _ _ sc passed s t from to (no_args _ _ _ _ _ end) ok long g inside ks d base is room =
        forms.moved_end i it s t s ks ks end (forms.none i it s ks)
    args_span _ _ sc passed s t from to (one_arg _ x xs e es _ _ _ l _ ea rest) ok long g inside ks d base is room =
        let a = le-max_left (base + N e) (stacked (suc base) (map expr_needs es)) in
        let b = le-max_right (base + N e) (stacked (suc base) (map expr_needs es)) in
        let f = first_passed p h from x xs e es to sc passed g in
        let k : value_of true f.first.ty ≡ var_kind x ∷ [] =
        below_kind p f.first.scope f.first.ty (put_in f.first.scope from to x.ty) f.below
        ∙ ap (λ (z : ℕ). kind_of z ∷ []) (put_kind f.first.scope from to x.ty) in
        let behind = args_span xs es (arg_passed from to x f.first).scope passed l t from
        (to ++ (arg_passed from to x f.first).path ∷ []) (rest f.first f.had)
        (named_sees h _ f.first.path f.first.scope (sees sc true e s l ea ok f.first f.had))
        (ap pred long) f.rest inside
        (var_kind x ∷ ks) d (suc base) (omega (arith, is)) (omega (arith, b, room)) in
        let low = behind.le in
        subst (λ (ls : List OperandKind). Part s t ks ls) (sym (turned (var_kind x) (map var_kind xs) ks))
        (joined i it s l t ks (var_kind x ∷ ks) (reverse (map var_kind xs) ++ (var_kind x ∷ ks))
        (left_as s l ks (var_kind x ∷ []) (value_of true f.first.ty) ks (sym k)
        (expr_span sc true e s l ea ok f.first f.had (λ z. not_void f.first.ty (var_kind x) k) (omega
        (arith, low, inside))
        ks (omega (arith, is, a, room))))
        behind)

    parts_span : (x : Typed) (keeps : Bool) (xs : List Suffix) (s t : ℕ) → PartsAt p n scratch it h x keeps xs s t
        → Good x.scope → (whole at : Place) (y : Typed) → Gives p (suffixes_typed whole at (typed_parts h xs) x) (Ok y)
        → (keeps ≡ true → y.ty ≡ ty.Void → ⊥) → (x.ty ≡ ty.Void → ⊥)
        × (t < length it.instrs → (ks : List OperandKind) → length ks + highest (map suffix_needs xs) ≤ it.stack
        → Part s t (value_of true x.ty ++ ks) (value_of keeps y.ty ++ ks))
    parts_span x _ _ s t (no_parts _ _ _ end) ok whole at y g kept =
        let is = typed.same_typed y x g in (
          λ v. kept refl (ap (λ (z : Typed). z.ty) is ∙ v),
          λ inside ks room. left_as s t _ _ _ ks (value_is true y x is)
              (forms.moved_end i it s t s _ _ end (forms.none i it s (value_of true x.ty ++ ks))),
        )
    parts_span x keeps _ s t (last_part _ _ z _ _ part) ok whole at y g kept =
        let c = then_came (part_types h z at x) (suffixes_typed whole whole []) y g in
        let is = typed.same_typed y c.first c.then in
        let one = part_span x keeps (out-Suffix z).name (out-Suffix z).args s t part ok at c.first c.gave
        (λ k v. kept k (ap (λ (z : Typed). z.ty) is ∙ v)) in (
          one.0,
          λ inside ks room. left_as s t _ _ _ ks (value_is keeps y c.first is)
              (one.1 inside ks (low_first z [] ks room)),
        )
    parts_span x keeps _ s t (one_part _ _ z v vs2 _ l _ part rest) ok whole at y g kept =
        let c = then_came (part_types h z at x) (suffixes_typed whole whole (typed_parts h (v ∷ vs2))) y g in
        let then = parts_span c.first keeps (v ∷ vs2) l t (rest at c.first c.gave)
        (part_sees p deep n scratch it h locals x true (out-Suffix z).name
        (out-Suffix z).args s l part ok at c.first c.gave)
        whole whole y c.then kept in
        let one = part_span x true (out-Suffix z).name (out-Suffix z).args s l part ok at c.first c.gave
        (λ k. then.0) in (
          one.0,
          λ inside ks room. one_behind i it s l t _ (value_of true c.first.ty ++ ks) _
              (λ low. one.1 low ks (low_first z (v ∷ vs2) ks room)) (then.1 inside ks (low_rest z (v ∷ vs2) ks room))
              inside,
        )

    part_span : (x : Typed) (keeps : Bool) (f : Named) (args : Option (List Expr)) (s t : ℕ)
        → PartAt p n scratch it h x keeps f.name args s t → Good x.scope → (at : Place) (y : Typed)
        → Gives p (suffix_typed h f (given_args h args) at x) (Ok y) → (keeps ≡ true → y.ty ≡ ty.Void → ⊥)
        → (x.ty ≡ ty.Void → ⊥)
        × (t < length it.instrs → (ks : List OperandKind) → length ks + (size.part_needs args).operands ≤ it.stack
        → Part s t (value_of true x.ty ++ ks) (value_of keeps y.ty ++ ks))
    part_span x _ f _ s t (at_field _ _ j kind_f _ _ sel kinds runs) ok at y g kept =
        let w = typed.field_found p h f at x y g in
        let v = class_value x.ty w.class true in
        let ty_is = ap (λ (z : Typed). z.ty) w.is in
        let k : kind_of (kind_of_type y.ty) ≡ kind_of kind_f =
        ap (λ (z : Ty). kind_of (kind_of_type z)) ty_is ∙ ap kind_of (put_kind (path_of x.ty x).scope (0 ∷ [])
        ((path_of x.ty x).path ∷ []) w.c.ty)
        ∙ sym (field_kind w.c.ty kind_f (kinds w.c w.here)) in (
          not_void x.ty kind.Reference v,
          λ inside ks room. from_as s t _ _ ks _ v (left_as s t _ _ _ ks
              (held y.ty (kept refl) ∙ ap (λ (z : OperandKind). z ∷ []) k)
              (its.get f.name j kind_f s t ks sel runs (omega (arith, room)))),
        )
    part_span x keeps f _ s t (at_call _ _ _ es j shape _ l _ args shapes sel count runs) ok at y g kept =
        let w = typed.call_found p h f (typed_args h es) at x y g in
        let v = class_value x.ty w.class true in
        let end = run_le (ins.Call j ∷ dropping keeps shape.result) l t runs in
        let is_shape = shapes w.body w.header w.here w.head in
        let k = shape_kinds w.header.vars w.header.result shape is_shape in
        let r : value_of keeps y.ty ≡ left_of keeps shape.result =
        ap (λ (z : Typed). left_of keeps (result_kind z.ty)) w.is
        ∙ ap (left_of keeps) (put_result w.passed.scope (replaced_paths w.header.vars) w.passed.paths w.header.result
        ∙ sym is_shape.result) in (
          not_void x.ty kind.Reference v,
          λ inside ks room. from_as s t _ _ ks _ v (left_as s t _ _ _ ks r
              (joined i it s l t (kind.Reference ∷ ks) (arguments shape ++ (kind.Reference ∷ ks)) _
              (left_as s l _ (arguments shape) (reverse (map var_kind w.header.vars)) (kind.Reference ∷ ks) k
              (args_span w.header.vars es (path_of x.ty x).scope w.passed s l (replaced_paths w.header.vars)
              ((path_of x.ty x).path ∷ []) (args w.body w.header w.here w.head)
              (named_sees h x.ty x.path x.scope ok)
              (w.many ∙ length-map es (typed_expr h)) w.args (omega (arith, end, inside)) (kind.Reference ∷ ks)
              (length ks) 1
              (omega arith) room))
              (its.call f.name j shape keeps l t ks sel runs (low_call es ks room)))),
        )

    links_span : (x : Typed) (ls : List Link) (s t : ℕ) → LinksAt p n scratch it h x ls s t → Good x.scope
        → (at : Place) (y : Typed)
        → Gives p (links_typed h at x (typed_links h ls)) (Ok y) → (y.ty ≡ ty.Void → ⊥) → (x.ty ≡ ty.Void → ⊥)
        × (t < length it.instrs → (ks : List OperandKind) → length ks + highest (map link_needs ls) ≤ it.stack
        → suc (length ks) ≤ it.stack → Part s t (value_of true x.ty ++ ks) (value_of true y.ty ++ ks))
    links_span x _ s t (no_links _ _ _ end) ok at y g kept =
        let is = typed.same_typed y x g in (
          λ v. kept (ap (λ (z : Typed). z.ty) is ∙ v),
          λ inside ks room some. left_as s t _ _ _ ks (value_is true y x is)
              (forms.moved_end i it s t s _ _ end (forms.none i it s (value_of true x.ty ++ ks))),
        )
    links_span x _ s t (one_link _ l ls kind_r _ a o _ strict ea is_kind runs rest) ok at y g kept =
        let c = operand_typed p deep n scratch it h locals x l ls at y g in
        let both_are = operands l.op strict x.ty c.right.ty c.takes_left c.takes_right c.both in
        let k : OperandKind = operand_kind l.op (kind_of_type c.right.ty) in
        let then = links_span (plain (operator_type l.op) c.right.scope) ls o t (rest c.right c.had)
        (sees x.scope true l.right s a ea ok c.right c.had) at y c.then kept in
        let end = run_le (operator l.op kind_r) a o runs in (
          not_void x.ty k both_are.0,
          λ inside ks room some. from_as s t _ (k ∷ []) ks _ both_are.0
              (one_behind i it s o t (k ∷ ks) (value_of true (operator_type l.op) ++ ks) _
              (λ low. joined i it s a o (k ∷ ks) (k ∷ (k ∷ ks)) _
              (left_as s a _ (k ∷ []) (value_of true c.right.ty) (k ∷ ks) (sym both_are.1)
              (expr_span x.scope true l.right s a ea ok c.right c.had (λ e. not_void c.right.ty k both_are.1)
              (omega (arith, end, low)) (k ∷ ks) (low_right l strict ls k ks room)))
              (left_as a o _ _ _ ks (answered_kind l.op strict)
              (its.operate l.op (kind_of_type c.right.ty) a o ks strict
              (subst (λ (q : ℕ). Run it.instrs (operator l.op q) a o) (is_kind c.right c.had) runs) some)))
              (then.1 inside ks (low_links l ls ks room) some) inside),
        )
    links_span x _ s t (one_deciding _ l ls and _ a o _ is at_one ea at_jump runs rest) ok at y g kept =
        let c = operand_typed p deep n scratch it h locals x l ls at y g in
        let one = ap (value_of true) (decide_takes l.op and x.ty is c.takes_left) in
        let other = ap (value_of true) (decide_takes l.op and c.right.ty is c.takes_right) in
        let then = links_span (plain ty.Bool c.right.scope) ls o t (rest c.right c.had)
        (sees x.scope true l.right (s + 1) a ea ok c.right c.had) at y
        (subst (λ (u : Ty). Gives p (links_typed h at (plain u c.right.scope) (typed_links h ls)) (Ok y))
        (decide_type l.op and is) c.then) kept in
        let end = run_le (decided_by and ∷ []) (a + 1) o runs in (
          not_void x.ty kind.Bool one,
          λ inside ks room some. from_as s t _ (kind.Bool ∷ []) ks _ one
              (one_behind i it s o t (kind.Bool ∷ ks) (kind.Bool ∷ ks) _
              (λ low. its.decide and s a o ks at_one
              (left_as (s + 1) a ks (kind.Bool ∷ []) (value_of true c.right.ty) ks (sym other)
              (expr_span x.scope true l.right (s + 1) a ea ok c.right c.had (λ e. not_void c.right.ty kind.Bool other)
              (omega (arith, end, low)) ks (low_other l and is ls ks room))) at_jump runs low some)
              (then.1 inside ks (low_links l ls ks room) some) inside),
        )

pub exprs_span : ExprsSpan
exprs_span p deep i n rows it scratch h locals sc ok keeps e s t at y g = (
  expr_sees p deep n scratch it h locals sc keeps e s t at ok y g,
  expr_span p deep i n rows it scratch h locals sc keeps e s t at ok y g,
)
