-- EACH EXPRESSION GOES, by its place: what stands behind it goes on with its value.
use Rattle.std.proofs.Common.{◌≡◌, ◌<◌, ℕ, pred, ◌+◌, List, [], ◌∷◌, ◌++◌, length, Bool, true, false, Option, Some, None, refl, sym, ap, ◌∙◌, subst, append_assoc}
use Rattle.std.specs.Prelude.{slice_get, Result, Ok, Err}
use Rattle.std.proofs.lemmas.List.{length-map}
use Rattle.jn_base.specs.declared.tree.Named.{Named}
use Rattle.jn_base.specs.declared.tree.Place.{Place}
use Rattle.jn_base.specs.declared.tree.Node.TheVariants as node
use Rattle.jn_base.specs.declared.tree.Expr.{Expr}
use Rattle.jn_base.specs.declared.tree.Link.{Link}
use Rattle.jn_base.specs.declared.tree.Name.{Name}
use Rattle.jn_base.specs.declared.tree.Stmt.{Stmt}
use Rattle.jn_base.specs.Fits.{TypeFits}
use Rattle.jn_base.specs.declared.tree.Suffix.{Suffix, out-Suffix}
use Rattle.jn_base.specs.declared.tree.Program.{Program}
use Rattle.jn_base.specs.declared.types.Ty.{Ty}
use Rattle.jn_base.specs.declared.types.Ty.TheVariants as ty
use Rattle.jn_base.specs.declared.names.Var.{Var}
use Rattle.jn_base.specs.declared.refusal.Refusal.{Refusal}
use Rattle.jn_base.specs.Parts.{expr}
use Rattle.jn_base.specs.Atoms.{Among, first, later}
use Rattle.jn_base.specs.Paths.{Path}
use Rattle.jn_base.specs.Scopes.{Scope, bound}
use Rattle.jn_base.proofs.Reaching.{declared_in_universe}
use Rattle.jn_code.specs.declared.image.Image.{Image}
use Rattle.jn_code.specs.declared.image.Code.{Code}
use Rattle.jn_sem.specs.Below.{Below}
use Rattle.jn_sem.specs.Values.{Number, Truth, Null}
use Rattle.jn_sem.specs.State.{Frame}
use Rattle.jn_sem.specs.Does.{Body, IsBody}
use Rattle.jn_sem.specs.LawsOfActs.{parts_acts, part_acts, links_acts}
use Rattle.jn_sem.proofs.ActLaws.{acts_are}
use Rattle.jn_laws.specs.LawsOfFits.{AsDeep}
use Rattle.jn_laws.specs.LawsOfWritten.{Shallow}
use Rattle.jn_laws.specs.LawsOfSources.{WellFormed}
use Rattle.jn_rules.specs.Headers.{Header, header_typed}
use Rattle.jn_rules.specs.Plans.{Plan, IsBelow, ask, wants}
use Rattle.jn_rules.specs.Questions.{Gives, Answers}
use Rattle.jn_rules.specs.Exprs.{Here, Typed, Passed, gives, plain, of_path, path_of, put_in, arg_passed, replaced_paths, mismatch, is_bool, is_int, takes, takes_both, operator_type, var_gives, var_typed, suffix_typed, suffixes_typed, links_typed, args_typed, expr_types}
use Rattle.jn_rules.specs.Forms.{typed_expr, typed_args, given_args, part_types, typed_parts, typed_links}
use Rattle.jn_rules.proofs.FormLaws.{forms_are}
use Rattle.jn_rules.proofs.PlanLaws.{then_came, wanted}
use Rattle.jn_rule_laws.specs.LawsOfHeaders.{IsHeader}
use Rattle.jn_rule_laws.proofs.HeaderLaws.{headers_are_the_meanings}
use Rattle.jn_rule_laws.specs.LawsOfForms.{PutFor, CallsOf, header_scope}
use Rattle.jn_rule_laws.specs.LawsOfForms.{none as put_none}
use Rattle.jn_rule_laws.proofs.CallTypes.{call_types_fit}
use Rattle.jn_rule_laws.proofs.OneHeaders.{headers_fit}
use Rattle.jn_sound.proofs.Makes.{constructor_named}
use Rattle.jn_sound.specs.Takes.{opd, typing, number, truth, null}
use Rattle.jn_sound.specs.KnownScopes.{ScopeKnown}
use Rattle.jn_sound.specs.Tree.{ExprKnown}
use Rattle.jn_sound.proofs.Scopes.{grown_of, ops_grown}
use Rattle.jn_sound.proofs.NewPaths.{path_new}
use Rattle.jn_sound.proofs.RuledForms.{ok_same, gave, call_is_typed}
use Rattle.jn_sound.proofs.Parts.{plain_type, plain_known, receiver_not_void, left_kept}
use Rattle.jn_agree.specs.Naming.{Naming}
use Rattle.jn_node_laws.specs.Cont.{of_frame}
use Rattle.jn_node_laws.specs.LawsOfLaidNodes.{LaidNodesOf}
use Rattle.jn_places.specs.ExprPlaces.{ExprAt, ArgsAt, PartsAt, PartAt, LinksAt, at_number, at_truth, at_null, at_this, at_var, at_new, at_super, at_bare_super, at_post, at_not, at_neg, at_view, at_chain, no_args, one_arg, no_parts, last_part, one_part, at_field, at_call, no_links, one_link, one_deciding}
use Rattle.jn_place_laws.specs.Contexts.{Context, Stood, known, in_body, site_at}
use Rattle.jn_place_laws.specs.LawsOfContexts.{ActsLead, FactsHold}
use Rattle.jn_place_laws.proofs.Parts.{ExprIn, in_not, in_neg, in_view, in_post, in_part, in_chain, in_link, in_new, in_super}
use Rattle.jn_place_laws.proofs.Going.{Kept, ExprGoes, Behind, ArgsGo, at_vars}
use Rattle.jn_place_laws.proofs.Premises.{TypingKnown, OtherForms}
use Rattle.jn_place_laws.proofs.Steps.{at_place, as_todo}
use Rattle.jn_place_laws.proofs.Operands.{named_same, named_among, right_kept, result_plain, result_kept, decide_type, decide_takes}
use Rattle.jn_place_laws.proofs.Args.{none_go, arg_goes}
use Rattle.jn_place_laws.proofs.Forms.{literal_goes, this_goes, var_goes, invert_goes, negate_goes}
use Rattle.jn_place_laws.proofs.Members.{field_here, PartGoes, field_goes, deep_receiver, call_goes}
use Rattle.jn_place_laws.proofs.Links.{strict_goes, decide_goes}

passed_same : (a b : Passed) → (let x : Result Passed Refusal = Ok a in let y : Result Passed Refusal = Ok b in x ≡ y)
    → a ≡ b
passed_same a b e = cc

module _ (p : Program) (deep : Shallow p) (formed : WellFormed p) (i : Image) (n : Naming) (m : ℕ) (code : ℕ)
    (it : Code) (there : slice_get i.codes code ≡ Some it) (r : Frame) (hd : Header)
    (nodes : LaidNodesOf p i n m (known p) Context (Stood p r hd) code it r) (leads : ActsLead p i n m code it r hd)
    (scratch : ℕ) (body : List Stmt) (tk : TypingKnown p (in_body r hd) body)
    (others : OtherForms p i n m code it r hd scratch body) (vs : List Var)
    (facts : (s : Scope) → FactsHold p i n m code it r hd vs s)
    (older : (v : Var) → Among vs v → v.path < scratch) where
  abbrev h : Here
  h = at_vars p i n m code it r hd vs

  abbrev nv : ℕ
  nv = length vs

  abbrev E : Scope → Bool → Expr → Typed → ℕ → ℕ → Type 0
  E sc keeps e y s t = ExprGoes p i n m code it r hd vs sc keeps e y s t

  asked : (e : Expr) (s : Scope) (y : Typed) (x : Plan Typed) → expr_types h e s ≡ x → Gives p (expr_types h e s) (Ok y)
      → Gives p x (Ok y)
  asked e s y x is g = subst (λ (z : Plan Typed). Gives p z (Ok y)) is g

  answered : (e : Expr) (ok : Bool) (T : Type 0) (go : Plan Passed) (passed : Passed) → Answers T ok →
      Gives p (wants ok (mismatch h e.at) go) (Ok passed) → T × Gives p go (Ok passed)
  answered e true T go passed a g = (a, g)
  answered e false T go passed a g = absurd (no g) where
    no : (let x : Result Passed Refusal = Ok passed in let y : Result Passed Refusal = Err (mismatch h e.at) in x ≡ y)
        → ⊥
    no e = cc

  -- all expressions in these arguments stand in the body
  abbrev ArgsIn : List Expr → Type 0
  ArgsIn es = (a : Expr) → Among es a → ExprIn body a

  var_of : (x : Name) (v : Var) (sc : Scope) (pl : Place) (y : Typed) (o : Option Var) → o ≡ Some v
      → Gives p (var_gives h pl x sc o) (Ok y) → y ≡ var_typed v sc
  var_of x v sc pl y None e g = absurd (no e) where
    no : ◌≡◌ {A = Option Var} None (Some v) → ⊥
    no e = cc
  var_of x v sc pl y (Some w) e g = gave p (var_typed w sc) y g ∙ ap (λ (z : Var). var_typed z sc) (same e) where
    same : Some w ≡ Some v → w ≡ v
    same e = cc

  -- the header of a body, as the plan gives it
  typed_header : (b : Body) (k : Header) → IsHeader p b k → Gives p (header_typed b) (Ok k)
  typed_header b k is = (headers_are_the_meanings p b k).1 is

  header_back : (b : Body) (k : Header) → Gives p (header_typed b) (Ok k) → IsHeader p b k
  header_back b k g = (headers_are_the_meanings p b k).0 g

  calls_of : (V : Path) (f : Name) (d : Body) (c : Header) → IsBody p V f d → IsHeader p d c → CallsOf p d c
  calls_of V f d c ib head = call_types_fit p d c (headers_fit p d.class f d.method c deep formed
      (declared_in_universe p d.class ib.at.decl ib.at.stands) ib.at head)

  mutual
    pub expr_goes : (sc : Scope) (keeps : Bool) (e : Expr) (s t : ℕ) → ExprAt p n scratch it h sc keeps e s t
        → ExprIn body e → ScopeKnown p h sc → (y : Typed) → Gives p (expr_types h e sc) (Ok y) → E sc keeps e y s t
    expr_goes sc _ _ s t (at_number _ pl z _ _ runs) inn good y g =
        literal_goes p i n m code it there r hd nodes leads vs (Number z) ty.Int number (expr pl (node.Int z))
        (λ k. (acts_are.exprs pl true nv k).number z) sc y s t
        (gave p (plain ty.Int sc) y (asked (expr pl (node.Int z)) sc y _ ((forms_are.exprs h pl sc).number z) g)) runs.1
        (λ l b ops k w lead go. nodes.number l b (site_at r hd vs) _ _ k s w z runs.0 lead go)
    expr_goes sc _ _ s t (at_truth _ pl z _ _ runs) inn good y g =
        literal_goes p i n m code it there r hd nodes leads vs (Truth z) ty.Bool truth (expr pl (node.Bool z))
        (λ k. (acts_are.exprs pl true nv k).truth z) sc y s t
        (gave p (plain ty.Bool sc) y (asked (expr pl (node.Bool z)) sc y _ ((forms_are.exprs h pl sc).truth z) g)) runs.1
        (λ l b ops k w lead go. nodes.truth l b (site_at r hd vs) _ _ k s w z runs.0 lead go)
    expr_goes sc _ _ s t (at_null _ pl _ _ runs) inn good y g =
        literal_goes p i n m code it there r hd nodes leads vs Null ty.Null null (expr pl node.Null)
        (λ k. (acts_are.exprs pl true nv k).null) sc y s t
        (gave p (plain ty.Null sc) y (asked (expr pl node.Null) sc y _ (forms_are.exprs h pl sc).null g)) runs.1
        (λ l b ops k w lead go. nodes.null l b (site_at r hd vs) _ _ k s w runs.0 lead go)
    expr_goes sc _ _ s t (at_this _ pl _ _ runs) inn good y g =
        let is : y ≡ of_path 0 sc =
        gave p (of_path 0 sc) y (asked (expr pl node.This) sc y _ (forms_are.exprs h pl sc).this g) in
        let k = (tk.exprs vs (expr pl node.This) sc y inn good g).0 in
        this_goes p i n m code it there r hd nodes leads vs pl sc y s t is
        (subst (λ (z : Typed). TypeFits z.scope z.ty) is k.type.fits) runs
    expr_goes sc _ _ s t (at_var _ pl x v _ _ new runs) inn good y g =
        let named = named_same vs x v new in
        let is : y ≡ var_typed v sc = var_of x v sc pl y _ named
        (asked (expr pl (node.Var x)) sc y _ ((forms_are.exprs h pl sc).var x) g) in
        let k = (tk.exprs vs (expr pl (node.Var x)) sc y inn good g).0 in
        var_goes p i n m code it there r hd nodes leads vs pl x v sc y s t is new named k.type.fits
        (good.plain v (named_among vs x v named)) runs
    expr_goes sc keeps _ s e (at_new _ _ pl t es x cls ctor _ l _ term args none shapes class ctors runs) inn good y g =
        others.new vs sc keeps pl t es x cls ctor s l e y inn good g term
        (λ d c is head passed split long there2 deep2 put given.
        let named = constructor_named p (bound sc x) d is in
        args_go d c [] c.vars es _ _ [] passed s l (replaced_paths c.vars) _
        (args d c is (typed_header d c head)) refl refl (calls_of (bound sc x) named.0 d c named.1 head) split long (λ a a_in. in_new pl t es a inn a_in) there2 deep2
        put given)
        none (λ d c C P j shape is head named sel made. shapes d c C P j shape is (typed_header d c head) named sel made)
        class ctors runs
    expr_goes sc keeps _ s u (at_super _ _ pl t f e es B q kind k j kinds shape _ l o a _ ea le has tucks bound args
        shapes class sel params many runs) inn good y g =
        others.super vs older sc keeps pl t f e es B q kind k j kinds shape s l o a u y inn good g
        (λ z gz. expr_goes sc true e s l ea (in_super pl t f (e ∷ es) e inn first) good z gz) le has tucks bound
        (λ d c v xs z is head split gz passed split2 long there2 deep2 put given.
        args_go d c (v ∷ []) xs es _ _ _ passed o a (replaced_paths c.vars) _
        (args d c v xs z is (typed_header d c head) split gz) refl refl (calls_of B f.name d c is head) split2 long
        (λ a a_in. in_super pl t f (e ∷ es) a inn (later a_in)) there2 deep2 put given)
        (λ d c is head. shapes d c is (typed_header d c head)) class sel params many runs
    expr_goes sc keeps _ s u (at_bare_super _ _ pl t f B k j shape _ _ bound shapes class sel none runs) inn good y g =
        others.bare_super vs sc keeps pl t f B k j shape s u y inn good g bound
        (λ d c is head. shapes d c is (typed_header d c head)) class sel none runs
    expr_goes sc keeps _ s t (at_post _ _ pl e xs _ l _ ea parts) inn good y g =
        let c = then_came (expr_types h e sc) (suffixes_typed pl e.at (typed_parts h xs)) y
        (asked (expr pl (node.Post e xs)) sc y _ ((forms_are.exprs h pl sc).post e xs) g) in
        let k = tk.exprs vs e sc c.first (in_post pl e xs inn) good c.gave in
        let one = expr_goes sc true e s l ea (in_post pl e xs inn) good c.first c.gave in
        let rest = parts_go c.first keeps xs l t (parts c.first c.gave) pl e.at
        (λ z z_in es is a a_in. in_part pl e xs z es a inn z_in is a_in) k.0 y c.then in
        λ kept j b k2 w ops ob go.
        as_todo p i n m code it there r hd j b vs _ _ _ s w ((acts_are.exprs pl keeps nv k2).post e xs)
        (one (rest.1 kept) j b (parts_acts xs keeps nv k2) w ops ob
        (rest.0 kept j b k2 (5 + w) ops (ops_grown (grown_of k.1) ob) go))
    expr_goes sc _ _ s t (at_not _ pl e _ l _ ea runs) inn good y g =
        let c = then_came (expr_types h e sc) _ y
        (asked (expr pl (node.Not e)) sc y _ ((forms_are.exprs h pl sc).invert e) g) in
        let w = wanted (is_bool c.first.ty) _ _ y c.then in
        invert_goes p i n m code it there r hd nodes leads vs pl e sc c.first y s l t w.test
        (gave p (plain ty.Bool c.first.scope) y w.then) runs
        (expr_goes sc true e s l ea (in_not pl e inn) good c.first c.gave)
    expr_goes sc _ _ s t (at_neg _ pl e _ l _ ea runs) inn good y g =
        let c = then_came (expr_types h e sc) _ y
        (asked (expr pl (node.Neg e)) sc y _ ((forms_are.exprs h pl sc).negate e) g) in
        let w = wanted (is_int c.first.ty) _ _ y c.then in
        negate_goes p i n m code it there r hd nodes leads vs pl e sc c.first y s l t w.test
        (gave p (plain ty.Int c.first.scope) y w.then) runs
        (expr_goes sc true e s l ea (in_neg pl e inn) good c.first c.gave)
    expr_goes sc _ _ s t (at_view _ pl v e x cls _ l _ ea is class runs) inn good y g =
        others.view vs sc pl v e x cls s l t y inn good g
        (λ z gz. expr_goes sc true e s l ea (in_view pl v e inn) good z gz) is class runs
    expr_goes sc _ _ s t (at_chain _ pl level e ls _ l _ ea links) inn good y g =
        let c = then_came (expr_types h e sc) (λ x. links_typed h e.at x (typed_links h ls)) y
        (asked (expr pl (node.Chain level e ls)) sc y _ ((forms_are.exprs h pl sc).chain level e ls) g) in
        let k = tk.exprs vs e sc c.first (in_chain pl level e ls inn) good c.gave in
        let one = expr_goes sc true e s l ea (in_chain pl level e ls inn) good c.first c.gave in
        let rest = links_go c.first ls l t (links c.first c.gave) e.at
        (λ z z_in. in_link pl level e ls z inn z_in) k.0 y c.then in
        λ kept j b k2 w ops ob go.
        as_todo p i n m code it there r hd j b vs _ _ _ s w ((acts_are.exprs pl true nv k2).chain level e ls)
        (one (rest.1 kept) j b (links_acts nv ls k2) w ops ob
        (rest.0 kept j b k2 (5 + w) ops (ops_grown (grown_of k.1) ob) go))

    -- arguments behind the receiver's path and those of the arguments that are had
    pub args_go : (d : Body) (c : Header) (done xs : List Var) (es : List Expr) (sc : Scope) (q : ℕ) (qs : List ℕ)
        (passed : Passed) (s t : ℕ) (from to : List ℕ) → ArgsAt p n scratch it h from xs es to sc s t
        → from ≡ replaced_paths c.vars → to ≡ q ∷ qs → CallsOf p d c → c.vars ≡ done ++ xs → length xs ≡ length es
        → ArgsIn es → ScopeKnown p h sc → AsDeep (header_scope d c) sc 0 q → PutFor (header_scope d c) sc done qs
        → Gives p (args_typed h from xs (typed_args h es) to sc) (Ok passed)
        → ArgsGo p i n m code it r hd vs d c xs es sc q qs passed s t
    args_go d c done _ _ sc q qs passed s t from to (no_args _ _ _ _ _ end) isf ist fit_calls split long inn good dp put g =
        none_go p i n m code it there r hd leads vs d c done sc q qs passed s t split good put
        (passed_same passed (record { paths = to; scope = sc }) g
        ∙ ap (λ (ps : List ℕ). let z : Passed = record { paths = ps; scope = sc } in z) ist) end
    args_go d c done _ _ sc q qs passed s t from to (one_arg _ x xs e es _ _ _ l _ ea rest) isf ist fit_calls split long
        inn good dp put g =
        let came = then_came (expr_types h e sc)
        (λ y. ask (IsBelow y.scope y.ty (put_in y.scope from to x.ty)) (λ ok. wants ok (mismatch h e.at)
        (args_typed h from xs (typed_args h es) (to ++ (arg_passed from to x y).path ∷ [])
        (arg_passed from to x y).scope))) passed g in
        let k = tk.exprs vs e sc came.first (inn e first) good came.gave in
        let w = answered e came.then.0 (Below p came.first.scope came.first.ty (put_in came.first.scope from to x.ty)) _
        passed came.then.1 came.then.2 in
        arg_goes p i n m code it there r hd leads vs d c fit_calls done xs x e es sc q qs passed came.first s
        l t from to isf ist split dp put k.0 k.1 (expr_goes sc true e s l ea (inn e first) good came.first came.gave)
        (path_new p h e sc came.first good.numbered came.gave) w.0
        (λ good2 dp2 put2. args_go d c (done ++ x ∷ []) xs es (arg_passed from to x came.first).scope q
        (qs ++ (arg_passed from to x came.first).path ∷ []) passed l t from
        (to ++ (arg_passed from to x came.first).path ∷ []) (rest came.first came.gave) isf
        (ap (λ (ps : List ℕ). ps ++ (arg_passed from to x came.first).path ∷ []) ist) fit_calls
        (split ∙ sym (append_assoc done (x ∷ []) xs)) (ap pred long) (λ a a_in. inn a (later a_in)) good2 dp2 put2 w.1)

    pub parts_go : (x : Typed) (keeps : Bool) (xs : List Suffix) (s t : ℕ) → PartsAt p n scratch it h x keeps xs s t
        → (whole at : Place)
        → ((z : Suffix) → Among xs z → (es : List Expr) → (out-Suffix z).args ≡ Some es → ArgsIn es)
        → ExprKnown p h x → (y : Typed) → Gives p (suffixes_typed whole at (typed_parts h xs) x) (Ok y)
        → Behind p i n m code it r hd vs (parts_acts xs keeps nv) x y keeps s t × (Kept keeps y → Kept true x)
    parts_go x _ _ s t (no_parts _ _ _ end) whole at inn known_x y g =
        subst (λ (z : Typed). Behind p i n m code it r hd vs (parts_acts [] true nv) x z true s t
        × (Kept true z → Kept true x)) (sym (ok_same y x g))
        (λ kept j b k w ops ob go. at_place p i n m code it there r hd _ b vs _ k s t w end go, λ kept. kept)
    parts_go x keeps _ s t (last_part _ _ z _ _ part) whole at inn known_x y g =
        let c = then_came (part_types h z at x) (suffixes_typed whole whole []) y g in
        let one = part_goes x keeps (out-Suffix z).name (out-Suffix z).args s t part at (inn z first) known_x c.first
        c.gave in
        subst (λ (u : Typed). Behind p i n m code it r hd vs (parts_acts (z ∷ []) keeps nv) x u keeps s t
        × (Kept keeps u → Kept true x)) (sym (ok_same y c.first c.then)) (one.go, λ kept e. one.kept)
    parts_go x keeps _ s t (one_part _ _ z v vs2 _ l _ part rest) whole at inn known_x y g =
        let c = then_came (part_types h z at x) (suffixes_typed whole whole (typed_parts h (v ∷ vs2))) y g in
        let one = part_goes x true (out-Suffix z).name (out-Suffix z).args s l part at (inn z first) known_x c.first
        c.gave in
        let then = parts_go c.first keeps (v ∷ vs2) l t (rest at c.first c.gave) whole whole
        (λ u u_in. inn u (later u_in)) one.known y c.then in (
          λ kept j b k w ops ob go. one.go (then.1 kept) j b (parts_acts (v ∷ vs2) keeps nv k) w ops ob
              (then.0 kept j b k w ops (ops_grown (grown_of one.grown) ob) go),
          λ kept e. one.kept,
        )

    pub part_goes : (x : Typed) (keeps : Bool) (f : Named) (args : Option (List Expr)) (s t : ℕ)
        → PartAt p n scratch it h x keeps f.name args s t → (at : Place)
        → ((es : List Expr) → args ≡ Some es → ArgsIn es) → ExprKnown p h x → (y : Typed)
        → Gives p (suffix_typed h f (given_args h args) at x) (Ok y)
        → PartGoes p deep formed i n m code it there r hd nodes leads vs facts (part_acts f.name args keeps nv) x y keeps
        s t
    part_goes x _ f _ s t (at_field _ _ j kind _ _ sel kinds runs) at inn known_x y g =
        field_goes p deep formed i n m code it there r hd nodes leads vs facts f.name j kind x y s t sel
        (field_here p h deep formed f at x y known_x g) kinds runs
    part_goes x keeps f _ s t (at_call _ _ _ es j shape _ l _ args shapes sel many runs) at inn known_x y g =
        let w = call_is_typed p h deep formed f (typed_args h es) at x y known_x g in
        let kept_x = receiver_not_void p (in_body r hd) h deep formed f (Some (typed_args h es)) at x y g in
        call_goes p deep formed i n m code it there r hd nodes leads vs facts f.name es x y known_x kept_x w keeps j
        shape s l t
        (args_go w.body w.header [] w.header.vars es (path_of x.ty x).scope (path_of x.ty x).path [] w.passed s l
        (replaced_paths w.header.vars) ((path_of x.ty x).path ∷ [])
        (args w.body w.header w.here (typed_header w.body w.header w.is_header)) refl refl (call_types_fit p w.body w.header w.fits) refl
        (w.as_many ∙ length-map es (typed_expr h)) (inn es refl) w.reached.known
        (deep_receiver p deep formed i n m code it there r hd nodes leads vs facts f.name es x y known_x kept_x w)
        put_none w.args)
        (shapes w.body w.header w.here (typed_header w.body w.header w.is_header)) sel many runs

    pub links_go : (x : Typed) (ls : List Link) (s t : ℕ) → LinksAt p n scratch it h x ls s t → (at : Place)
        → ((l : Link) → Among ls l → ExprIn body l.right) → ExprKnown p h x → (y : Typed)
        → Gives p (links_typed h at x (typed_links h ls)) (Ok y)
        → Behind p i n m code it r hd vs (links_acts nv ls) x y true s t × (Kept true y → Kept true x)
    links_go x _ s t (no_links _ _ _ end) at inn known_x y g =
        subst (λ (z : Typed). Behind p i n m code it r hd vs (links_acts nv []) x z true s t
        × (Kept true z → Kept true x)) (sym (ok_same y x g)) (
          λ kept j b k w ops ob go. at_place p i n m code it there r hd (of_frame ∷ j) b vs
              (typing x.scope (opd x.ty x.path ∷ ops)) k s t w end go,
          λ kept. kept,
        )
    links_go x _ s t (one_link _ l ls kind _ a o _ strict ea is_kind runs rest) at inn known_x y g =
        let w = wanted (takes l.op x.ty) _ _ y g in
        let c = then_came (expr_types h l.right x.scope) _ y w.then in
        let v = wanted (takes l.op c.first.ty) _ _ y c.then in
        let u = wanted (takes_both l.op x.ty c.first.ty) _ _ y v.then in
        let z = then_came (gives (plain (operator_type l.op) c.first.scope))
        (λ z. links_typed h at z (typed_links h ls)) y u.then in
        let k = tk.exprs vs l.right x.scope c.first (inn l first) known_x.scope c.gave in
        let one = strict_goes p i n m code it there r hd nodes leads vs facts l.op l.right kind x c.first s a o strict
        known_x
        w.test v.test u.test (right_kept l.op x.ty c.first.ty v.test u.test) (is_kind c.first c.gave)
        (expr_goes x.scope true l.right s a ea (inn l first) known_x.scope c.first c.gave) runs in
        let then = links_go (plain (operator_type l.op) c.first.scope) ls o t (rest c.first c.gave) at
        (λ q q_in. inn q (later q_in))
        (plain_known p h (operator_type l.op) c.first.scope k.0.scope
        (plain_type c.first.scope (operator_type l.op) (result_plain l.op))) y
        (subst (λ (q : Typed). Gives p (links_typed h at q (typed_links h ls)) (Ok y))
        (gave p (plain (operator_type l.op) c.first.scope) z.first z.gave) z.then) in (
          λ kept j b k2 w2 ops ob go. one (λ e. result_kept l.op) j b (links_acts nv ls k2) w2 ops ob
              (then.0 kept j b k2 w2 ops (ops_grown (grown_of k.1) ob) go),
          λ kept e. left_kept p (in_body r hd) h deep formed l.op x.ty c.first.ty w.test u.test,
        )
    links_go x _ s t (one_deciding _ l ls and _ a o _ is at_one ea at_jump runs rest) at inn known_x y g =
        let w = wanted (takes l.op x.ty) _ _ y g in
        let c = then_came (expr_types h l.right x.scope) _ y w.then in
        let v = wanted (takes l.op c.first.ty) _ _ y c.then in
        let u = wanted (takes_both l.op x.ty c.first.ty) _ _ y v.then in
        let z = then_came (gives (plain (operator_type l.op) c.first.scope))
        (λ z. links_typed h at z (typed_links h ls)) y u.then in
        let k = tk.exprs vs l.right x.scope c.first (inn l first) known_x.scope c.gave in
        let one = decide_goes p i n m code it there r hd nodes leads vs facts l.op and l.right x c.first s a o is
        (decide_takes l.op and x.ty is w.test) (decide_takes l.op and c.first.ty is v.test) k.0 k.1 at_one
        (expr_goes x.scope true l.right (s + 1) a ea (inn l first) known_x.scope c.first c.gave) at_jump runs in
        let then = links_go (plain ty.Bool c.first.scope) ls o t (rest c.first c.gave) at
        (λ q q_in. inn q (later q_in))
        (plain_known p h ty.Bool c.first.scope k.0.scope (plain_type c.first.scope ty.Bool refl)) y
        (subst (λ (q : Typed). Gives p (links_typed h at q (typed_links h ls)) (Ok y))
        (gave p (plain (operator_type l.op) c.first.scope) z.first z.gave
        ∙ ap (λ (q : Ty). plain q c.first.scope) (decide_type l.op and is)) z.then) in (
          λ kept j b k2 w2 ops ob go. one (λ e. refl) j b (links_acts nv ls k2) w2 ops ob
              (then.0 kept j b k2 w2 ops (ops_grown (grown_of k.1) ob) go),
          λ kept e. left_kept p (in_body r hd) h deep formed l.op x.ty c.first.ty w.test u.test,
        )
