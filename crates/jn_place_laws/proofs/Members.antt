-- What stands behind a dot: a field, and a call.
use Rattle.std.proofs.Common.{◌≡◌, ℕ, ◌+◌, ◌*◌, List, [], ◌∷◌, length, Bool, true, false, Option, Some, None, refl, sym, ap, ◌∙◌, subst, arith}
use Rattle.std.specs.Prelude.{slice_get, cond, Result, Ok, Err}
use Rattle.jn_base.specs.declared.tree.Name.{Name}
use Rattle.jn_base.specs.declared.tree.Named.{Named}
use Rattle.jn_base.specs.declared.tree.Place.{Place}
use Rattle.jn_base.specs.declared.tree.Expr.{Expr}
use Rattle.jn_base.specs.declared.tree.TypeTerm.{TypeTerm}
use Rattle.jn_base.specs.declared.tree.Program.{Program}
use Rattle.jn_base.specs.declared.types.Ty.{Ty}
use Rattle.jn_base.specs.declared.types.Ty.TheVariants as ty
use Rattle.jn_base.specs.declared.names.Var.{Var}
use Rattle.jn_base.specs.declared.refusal.Refusal.{Refusal}
use Rattle.jn_base.specs.declared.refusal.Rule.TheVariants as rule
use Rattle.jn_base.specs.Scopes.{Scope}
use Rattle.jn_base.specs.Resolve.{is_class}
use Rattle.jn_base.specs.ResolveTypes.{mask_names}
use Rattle.jn_code.specs.declared.instr.Instr.TheVariants as ins
use Rattle.jn_code.specs.declared.image.Image.{Image}
use Rattle.jn_code.specs.declared.image.Code.{Code}
use Rattle.jn_code.specs.declared.image.Shape.{Shape}
use Rattle.jn_sem.specs.Normal.{swapped}
use Rattle.jn_sem.specs.Values.{Masked}
use Rattle.jn_sem.specs.Acts.{Todo, todo, Get, Call}
use Rattle.jn_sem.specs.LawsOfActs.{args_acts, part_acts}
use Rattle.jn_sem.specs.State.{Frame}
use Rattle.jn_laws.specs.LawsOfFits.{AsDeep}
use Rattle.jn_laws.specs.LawsOfWritten.{Shallow}
use Rattle.jn_laws.specs.LawsOfSources.{WellFormed}
use Rattle.jn_rules.specs.Headers.{Header}
use Rattle.jn_rules.specs.Plans.{FoundField, OfField, MemberMark, refuse, note}
use Rattle.jn_rules.specs.Questions.{Gives, Means, Answers, IsFoundField, masks_of}
use Rattle.jn_rules.specs.Exprs.{Here, Typed, gives, plain, path_of, put_in, replaced_paths, suffix_typed, field_gives, field_type, of_class, first_bound}
use Rattle.jn_rules.specs.Forms.{typed_args}
use Rattle.jn_rules.specs.Stmts.{is_void}
use Rattle.jn_rules.proofs.PlanLaws.{wanted, found_was}
use Rattle.jn_rule_laws.specs.LawsOfForms.{TypeKnown, CallsOf, header_scope}
use Rattle.jn_rule_laws.proofs.KnownTypes.{path_types_fit}
use Rattle.jn_rule_laws.proofs.CallTypes.{call_types_fit}
use Rattle.jn_sound.specs.Callees.{Callee, IsCalled}
use Rattle.jn_sound.specs.Takes.{Opd, opd, opds_of, typing, ArgsFit, with_result, get, call}
use Rattle.jn_sound.proofs.Calls.{void_subst}
use Rattle.jn_sound.specs.Tree.{ExprKnown, Fresher}
use Rattle.jn_sound.proofs.Scopes.{grown_of, fresher_joined, found_grown, deep_grown, ops_grown, ops_with, some_bound}
use Rattle.jn_sound.proofs.RuledForms.{Reached, path_reached, gave, CallTyped}
use Rattle.jn_sound.proofs.Parts.{plain_type, plain_known}
use Rattle.jn_agree.specs.Naming.{Naming}
use Rattle.jn_agree.specs.Rows.{FieldKind, IsShape}
use Rattle.jn_agree.specs.Places.{Run, FieldOf, MethodOf, dropping}
use Rattle.jn_node_laws.specs.Cont.{of_frame, with_value}
use Rattle.jn_node_laws.specs.Cont.{with_result as laid_with}
use Rattle.jn_node_laws.specs.LawsOfLaidNodes.{LaidNodesOf}
use Rattle.jn_place_laws.specs.Contexts.{Context, context, Stood, known, site_at}
use Rattle.jn_place_laws.specs.LawsOfContexts.{ActsLead, FactsHold}
use Rattle.jn_place_laws.proofs.Going.{left, onto, framed, Behind, ArgsGo, at_vars}
use Rattle.jn_place_laws.proofs.Steps.{less, more, moved, as_typed, as_laid, step}
use Rattle.jn_place_laws.proofs.Operands.{taken_all, takes_framed, laid_result, result_same, left_of_call, not_kept_void, class_kept}

-- ---- a field, as it is found where the receiver stands

pub record FieldHere (p : Program) (h : Here) (f : Name) (x y : Typed) : Type 0 where
  pub c : FoundField
  pub here : IsFoundField p x.scope x.ty f c
  pub class : is_class x.ty ≡ true
  pub reached : Reached p h x (path_of x.ty x).path (path_of x.ty x).scope
  pub found : IsFoundField p (path_of x.ty x).scope x.ty f c
  pub free : Masked (mask_names p) (masks_of x.ty) f → ⊥
  pub type : TypeKnown (path_of x.ty x).scope (field_type c (path_of x.ty x))
  pub is : y ≡ plain (field_type c (path_of x.ty x)) (path_of x.ty x).scope

not_ok : (y : Typed) (r : Refusal) →
    (let a : Result Typed Refusal = Ok y in let b : Result Typed Refusal = Err r in a ≡ b) → ⊥
not_ok y r e = cc

pub field_here : (p : Program) (h : Here) → Shallow p → WellFormed p → (f : Named) (at : Place) (x y : Typed)
    → ExprKnown p h x → Gives p (suffix_typed h f None at x) (Ok y) → FieldHere p h f.name x y
field_here p h deep formed f at x y known g =
    let w = wanted (is_class x.ty) _ _ y g in
    let c = found_was w.then.0 _ (field_gives f x) y w.then.2 in
    read c.given w.test (subst (λ (o : Option FoundField). Means p (OfField x.scope x.ty f.name) o) c.is w.then.1)
    c.then where
      answered : (c : FoundField) → is_class x.ty ≡ true → IsFoundField p x.scope x.ty f.name c → (m : Bool)
          → Answers (Masked (mask_names p) (masks_of x.ty) f.name) m
          → Gives p (cond m (refuse (of_class rule.E19 (first_bound x) f f.name))
          (note (MemberMark c.class) (gives (plain (field_type c (path_of x.ty x)) (path_of x.ty x).scope)))) (Ok y)
          → FieldHere p h f.name x y
      answered c cl i true m e = absurd (not_ok y _ e)
      answered c cl i false m e =
          let r = path_reached p h x known cl in
          let found : IsFoundField p (path_of x.ty x).scope x.ty f.name c =
          record {
            bound = i.bound;
            at = found_grown x.ty (grown_of r.grown) r.known.scope.binds known.type.fits i.at;
            type = i.type;
            class = i.class;
          } in
          record {
            c = c;
            here = i;
            class = cl;
            reached = r;
            found = found;
            free = m;
            type = (path_types_fit p).field (path_of x.ty x).scope x.ty f.name c
                (path_of x.ty x).path deep formed r.known.scope.binds found r.path;
            is = gave p _ y e;
          }

      read : (c : FoundField) → is_class x.ty ≡ true → IsFoundField p x.scope x.ty f.name c → Gives p
          (field_gives f x c) (Ok y) → FieldHere p h f.name x y
      read c cl i e = answered c cl i e.0 e.1 e.2

module _ (p : Program) (deep : Shallow p) (formed : WellFormed p) (i : Image) (n : Naming) (m : ℕ) (code : ℕ)
    (it : Code) (there : slice_get i.codes code ≡ Some it) (r : Frame) (hd : Header)
    (nodes : LaidNodesOf p i n m (known p) Context (Stood p r hd) code it r) (leads : ActsLead p i n m code it r hd)
    (vs : List Var) (facts : (s : Scope) → FactsHold p i n m code it r hd vs s) where
  abbrev h : Here
  h = at_vars p i n m code it r hd vs

  -- behind the receiver x stands what gives y
  pub record PartGoes (does : List Todo → List Todo) (x y : Typed) (keeps : Bool) (s t : ℕ) : Type 0 where
    pub known : ExprKnown p h y
    pub grown : Fresher x.scope y.scope
    pub kept : is_void x.ty ≡ false
    pub go : Behind p i n m code it r hd vs does x y keeps s t

  pub field_goes : (f : Name) (j kind : ℕ) (x y : Typed) (s t : ℕ) → FieldOf n f j kind → FieldHere p h f x y
      → ((c : FoundField) → IsFoundField p x.scope x.ty f c → FieldKind c.ty kind)
      → Run it.instrs (ins.Get j ∷ []) s t
      → PartGoes (part_acts f None true (length vs)) x y true s t
  field_goes f j kind x y s t sel w kinds runs =
      subst (λ (z : Typed). PartGoes (part_acts f None true (length vs)) x z true s t) (sym w.is) (record {
        known = plain_known p h u sc w.reached.known w.type;
        grown = w.reached.grown;
        kept = class_kept x.ty w.class;
        go = λ kept l b k v ops ob g.
            moved p i n m code it there r hd leads (of_frame ∷ l) b vs (typing x.scope (opd x.ty x.path ∷ ops))
            (typing sc (opd x.ty (Some q) ∷ ops)) (todo (length vs) (Get f) ∷ k) s v (w.reached.moves ops)
            (step p i n m code it there r hd (of_frame ∷ l) (of_frame ∷ l) b vs vs (Get f) (typing sc (opd x.ty (Some q) ∷ ops))
            (typing sc (opd u None ∷ ops)) k s t (s + 1) v v
            (nodes.get (of_frame ∷ l) l refl b (site_at r hd vs) (context vs (typing sc (opd x.ty (Some q) ∷ ops)))
            (context vs (typing sc (opd u None ∷ ops))) f j kind k s v runs.0 sel
            ((facts sc).reads ops f x.ty (Some q) w.c kind w.found (kinds w.c w.here)))
            (leads.acts vs vs (Get f) k (typing sc (opd x.ty (Some q) ∷ ops)) (typing sc (opd u None ∷ ops))
            (get f x.ty q w.c w.found w.free w.type.fits)) runs.1 (omega arith) g);
      }) where
        sc : Scope
        sc = (path_of x.ty x).scope

        q : ℕ
        q = (path_of x.ty x).path

        u : Ty
        u = field_type w.c (path_of x.ty x)

  -- ---- a call, whose arguments go

  module _ (f : Name) (es : List Expr) (x y : Typed) (known_x : ExprKnown p h x) (kept_x : is_void x.ty ≡ false) (w : CallTyped p h f (typed_args h es) x y)
    where
      abbrev pub receiver_scope : Scope
      receiver_scope = (path_of x.ty x).scope

      abbrev pub receiver_path : ℕ
      receiver_path = (path_of x.ty x).path

      pub calls : CallsOf p w.body w.header
      calls = call_types_fit p w.body w.header w.fits

      -- the receiver's path is as deep as `this`
      pub deep_receiver : AsDeep (header_scope w.body w.header) receiver_scope 0 receiver_path
      deep_receiver = calls.receiver receiver_scope x.ty f receiver_path
          (record {
            bound = w.here.bound;
            at = found_grown x.ty (grown_of w.reached.grown) w.reached.known.scope.binds known_x.type.fits w.here.at;
            body = w.here.body;
          })
          w.reached.path

      pub call_goes : (keeps : Bool) (j : ℕ) (shape : Shape) (s l t : ℕ)
          → ArgsGo p i n m code it r hd vs w.body w.header w.header.vars es receiver_scope receiver_path [] w.passed s l
          → IsShape w.header.vars w.header.result shape → MethodOf n f j shape → length shape.params ≡ length es
          → Run it.instrs (ins.Call j ∷ dropping keeps shape.result) l t
          → PartGoes (part_acts f (Some es) keeps (length vs)) x y keeps s t
      call_goes keeps j shape s l t a is_shape sel many runs =
          subst (λ (z : Typed). PartGoes (part_acts f (Some es) keeps (length vs)) x z keeps s t)
          (sym (w.is ∙ ap (λ (ps : List ℕ). plain (put_in w.passed.scope from ps w.header.result) w.passed.scope) a.is))
          (record {
            known = plain_known p h result w.passed.scope a.known type;
            grown = fresher_joined w.reached.grown a.grown;
            kept = kept_x;
            go = λ kept o b k v ops ob g.
                moved p i n m code it there r hd leads (of_frame ∷ o) b vs (typing x.scope (opd x.ty x.path ∷ ops))
                (typing receiver_scope (opd x.ty (Some receiver_path) ∷ ops))
                (args_acts (length vs) es (todo (length vs) (Call f (length es) keeps) ∷ k)) s v (w.reached.moves ops)
                (a.go (of_frame ∷ o) b (todo (length vs) (Call f (length es) keeps) ∷ k) v (opd x.ty (Some receiver_path) ∷ ops)
                (ops_with (opd x.ty (Some receiver_path)) (some_bound receiver_scope receiver_path
                w.reached.path.bound_in) (ops_grown (grown_of w.reached.grown) ob))
                (more p i n m code it there r hd (framed es (of_frame ∷ o)) b vs (typing sc (before ops)) _ l (3 * length es + v)
                (5 * length es + v) (omega arith)
                (less p i n m code it there r hd (framed es (of_frame ∷ o)) b vs (typing sc (before ops)) _ l (3 * length es + v)
                (nodes.call (framed es (of_frame ∷ o)) (of_frame ∷ o) o b (site_at r hd vs) (context vs (typing sc (before ops)))
                (context vs (typing sc (with_result keeps result ops))) f (length es) keeps j shape k l t v runs.0 runs.1
                sel many (takes_framed es (of_frame ∷ o)) refl
                ((facts sc).calls (before ops) ops a.args f (length es) x.ty (Some receiver_path) c shape called
                (taken ops) is_shape)
                (leads.acts vs vs (Call f (length es) keeps) k (typing sc (before ops))
                (typing sc (with_result keeps result ops))
                (call f (length es) keeps x.ty receiver_path a.all a.args c called w.free (taken ops) fit
                (λ e. not_kept_void keeps (plain result sc) kept (sym (void_subst sc _ w.header.result) ∙ e)) type.fits))
                (as_laid p i n m code it there r hd (laid_with keeps shape.result o) (with_value keeps o) b vs
                (typing sc (with_result keeps result ops)) k t (20 + v)
                (laid_result keeps result shape.result o kept
                (is_shape.result ∙ result_same sc (swapped from (receiver_path ∷ a.all)) w.header.result))
                (as_typed p i n m code it there r hd (with_value keeps o) b vs (typing sc (with_result keeps result ops))
                (typing sc (left keeps (plain result sc) ops)) k t (20 + v)
                (ap (λ (os : List Opd). typing sc os) (sym (left_of_call keeps result sc ops kept)))
                (more p i n m code it there r hd (with_value keeps o) b vs (typing sc (left keeps (plain result sc) ops)) k t v
                (20 + v) (omega arith) g)))))));
          }) where
            from : List ℕ
            from = replaced_paths w.header.vars

            sc : Scope
            sc = w.passed.scope

            result : Ty
            result = put_in w.passed.scope (replaced_paths w.header.vars) (receiver_path ∷ a.all) w.header.result

            before : List Opd → List Opd
            before ops = onto a.args (opd x.ty (Some receiver_path) ∷ ops)

            c : Callee
            c = record { bound = w.here.bound; body = w.body; vars = w.header.vars; result = w.header.result }

            called : IsCalled p w.passed.scope x.ty f
                (record { bound = w.here.bound; body = w.body; vars = w.header.vars; result = w.header.result })
            called = record {
              at = found_grown x.ty
                  (grown_of (fresher_joined w.reached.grown a.grown)) a.known.scope.binds known_x.type.fits w.here.at;
              callee = record { body = w.here.body; header = w.is_header };
            }

            taken : (ops : List Opd) → opds_of (length es) [] (onto a.args (opd x.ty (Some receiver_path) ∷ ops)) ≡ Some
                (a.args, opd x.ty (Some receiver_path) ∷ ops)
            taken ops = taken_all a.args (opd x.ty (Some receiver_path) ∷ ops) (length es) a.count

            fit : ArgsFit w.passed.scope (replaced_paths w.header.vars) (receiver_path ∷ a.all) w.header.vars a.args a.all
            fit = subst (ArgsFit w.passed.scope (replaced_paths w.header.vars) (receiver_path ∷ a.all) w.header.vars
                a.args) (sym a.split) a.fit

            type_by : (o : Option TypeTerm) → w.body.method.result ≡ o → TypeKnown w.passed.scope
                (put_in w.passed.scope (replaced_paths w.header.vars) (receiver_path ∷ a.all) w.header.result)
            type_by (Some t) e =
                calls.result t w.passed.scope receiver_path a.all e a.known.scope.binds
                (deep_grown (grown_of a.grown) a.known.scope.binds deep_receiver) a.put
            type_by None e =
                subst (λ (u : Ty). TypeKnown w.passed.scope
                (put_in w.passed.scope (replaced_paths w.header.vars) (receiver_path ∷ a.all) u))
                (sym (w.fits.void e)) (plain_type w.passed.scope ty.Void refl)

            type : TypeKnown w.passed.scope
                (put_in w.passed.scope (replaced_paths w.header.vars) (receiver_path ∷ a.all) w.header.result)
            type = type_by w.body.method.result refl
