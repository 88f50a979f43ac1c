-- New objects: each step of the walk, and what it does.
use Rattle.std.proofs.Common.{◌≡◌, ℕ, List, [], ◌∷◌, ◌++◌, length, reverse, Bool, Option, Some, None, refl, sym, ap, ◌∙◌, subst, append_assoc, eqb-true}
use Rattle.std.specs.Prelude.{Result, Ok, nat_eq, slice_get}
use Rattle.std.proofs.lemmas.List.{length-map, reverse-reverse}
use Rattle.jn_base.specs.declared.tree.Name.{Name}
use Rattle.jn_base.specs.declared.tree.Place.{Place}
use Rattle.jn_base.specs.declared.tree.Term.{Term}
use Rattle.jn_base.specs.declared.tree.Expr.{Expr}
use Rattle.jn_base.specs.declared.tree.Node.TheVariants as node
use Rattle.jn_base.specs.declared.tree.Program.{Program}
use Rattle.jn_base.specs.declared.path.Path.{Path as ShownPath}
use Rattle.jn_base.specs.declared.types.Atom.{Atom as ShownAtom}
use Rattle.jn_base.specs.declared.types.ValKind.TheVariants as kind
use Rattle.jn_base.specs.declared.types.Anchor.TheVariants.{Up}
use Rattle.jn_base.specs.declared.names.Role.TheVariants as role
use Rattle.jn_base.specs.declared.tree.Kind.TheVariants as kinds
use Rattle.jn_base.specs.declared.refusal.Refusal.{Refusal}
use Rattle.jn_base.specs.declared.refusal.Rule.TheVariants as rule
use Rattle.jn_base.specs.Parts.{expr}
use Rattle.jn_base.specs.Paths.{Path, shown}
use Rattle.jn_base.specs.Members.{MethodAt, HasKind}
use Rattle.jn_base.proofs.Reaching.{declared_in_universe}
use Rattle.jn_laws.proofs.Bounded.{heir_there}
use Rattle.jn_laws.proofs.Terms.{header_path, case_path, term_case}
use Rattle.jn_laws.specs.LawsOfWritten.{HeaderPath}
use Rattle.jn_sem.specs.Sharing.{IsClass}
use Rattle.jn_base.specs.Atoms.{Atom, atom_of, anchor_at}
use Rattle.jn_base.specs.Scopes.{Scope, bound_of, bound}
use Rattle.jn_base.specs.Resolve.{Resolve}
use Rattle.jn_code.specs.declared.instr.Instr.{Instr}
use Rattle.jn_code.specs.declared.instr.Instr.TheVariants as ins
use Rattle.jn_code.specs.declared.image.Shape.{Shape}
use Rattle.jn_code.specs.declared.image.Code.{Code}
use Rattle.jn_sem.specs.NormalFunction.{normal_type}
use Rattle.jn_sem.specs.Terms.{spot_at, vars_at, TermIs}
use Rattle.jn_sem.specs.Does.{Body, IsBody, IsConstructorBody}
use Rattle.jn_table.specs.Rows.{HasMethod}
use Rattle.jn_rules.specs.Plans.{Mark, MemberMark, KindMark, OfTerm, OfConstructor, Plan, note, then_do}
use Rattle.jn_rules.specs.Questions.{Means, Finds, Gives, Notes}
use Rattle.jn_rules.specs.Headers.{scope_of, Header, header_typed}
use Rattle.jn_rules.specs.Exprs.{Here, site_here, Typed, in_method, gives, replaced_paths, as_many, call_typed, made_exact, of_new, fresh_with, made_with, made_by, new_typed}
use Rattle.jn_rules.specs.Forms.{typed_args, typed_expr}
use Rattle.jn_rules.proofs.FormLaws.{forms_are}
use Rattle.jn_rules.proofs.PlanLaws.{then_noted, notes_give, plan_one}
use Rattle.jn_agree.specs.declared.selectors.MethodSel.{MethodSel}
use Rattle.jn_agree.specs.Naming.{Naming}
use Rattle.jn_agree.specs.Rows.{IsShape, kind_of_type}
use Rattle.jn_agree.specs.Places.{MethodOf, CtorCode, ctor, dropping}
use Rattle.jn_places.specs.ExprPlaces.{ArgsAt, no_args}
use Rattle.jn_lower.specs.declared.emitter.Emitter.{Emitter}
use Rattle.jn_lower.specs.declared.members.Callee.{Callee}
use Rattle.jn_lower.specs.declared.walk.Parts.{Parts}
use Rattle.jn_lower.specs.declared.walk.Walk.{Walk}
use Rattle.jn_lower.specs.Cursors.{Ahead, TermTaken}
use Rattle.jn_lower.specs.Emitted.{Emitted, Adds}
use Rattle.jn_lower.specs.Forms.{Value}
use Rattle.jn_lower.specs.Called.{Args, NewArgs}
use Rattle.jn_lower.specs.Selecting.{shape_of, method_sel}
use Rattle.jn_lower.specs.Selecting as selecting
use Rattle.jn_lower.specs.Told.{IsCallee}
use Rattle.jn_lower.specs.Lowering.{PartsAre}
use Rattle.jn_lower.specs.Making.{bound_in, IsLast, ByMark, MadeWith, by, without, MadeBy, MadeOf}
use Rattle.jn_lower.specs.Walks.{ReadyIn, Done, LowersArgs, LowersNodeAs}
use Rattle.jn_lower.proofs.Growing.{means}
use Rattle.jn_lower.proofs.Calling.{new_so}
use Rattle.jn_lower.proofs.CtorCodes.{ctors_found}
use Rattle.jn_lower.proofs.Heads.{head_is, header_silent}
use Rattle.jn_lower.proofs.Noting.{taken_noted, wants_noted, gives_noted}
use Rattle.jn_lower.proofs.Taking.{term_ahead, member_ahead, had_ahead, ready_locals, ready_in, same_bound, known_here}
use Rattle.jn_lower.proofs.Seen.{named_low}
use Rattle.jn_lower.proofs.Chains.{last_one}

-- ---- the shape by which a body is called

pub callee_shape : (p : Program) (b : Body) (k : Header) (names : List MethodSel) (f : Name) (x : Callee)
    → Gives p (header_typed b) (Ok k) → IsCallee names f b.method x → IsShape k.vars k.result (shape_of x.params.items x.kind)
callee_shape p b k names f x gives is =
    let head = head_is p b k gives in
    record { params = is.params ∙ sym head.kinds; result = is.result ∙ sym head.result }

header_same : {x y : Header} → ◌≡◌ {A = Result Header Refusal} (Ok x) (Ok y) → x ≡ y
header_same e = cc

-- a body has one header
pub one_header : (g : Parts) (n : Naming) → PartsAre g.p.now g.t.now g.slots.now g.names.now n → (b : Body) (k l : Header)
    → Gives g.p.now (header_typed b) (Ok k) → Gives g.p.now (header_typed b) (Ok l) → k ≡ l
one_header g n parts b k l first other = header_same (plan_one parts.one (header_typed b) (Ok k) (Ok l) first other)

-- the method that a body has, at the path of its mark
pub method_there : (p : Program) (b : Body) (path : ShownPath) (f : Name) → path ≡ shown b.class
    → MethodAt p b.class f b.method → MethodAt p (reverse path.names) f b.method
method_there p b path f is at =
    subst (λ (Q : Path). MethodAt p Q f b.method)
    (sym (reverse-reverse b.class) ∙ ap (λ (q : ShownPath). reverse q.names) (sym is)) at

selector_same : (sel : MethodSel) (other : MethodSel) → Some sel ≡ Some other → sel ≡ other
selector_same sel other e = cc

-- which shape the selector of that number has
pub shape_there : (names : List MethodSel) (j : ℕ) (C D : Name) (shape other : Shape)
    → slice_get names j ≡ Some (record { name = C; shape = shape })
    → slice_get names j ≡ Some (record { name = D; shape = other }) → other ≡ shape
shape_there names j C D shape other one two =
    ap (λ (s : MethodSel). s.shape)
    (selector_same (record { name = D; shape = other }) (record { name = C; shape = shape }) (sym two ∙ one))

-- ---- constructors

-- the bound of an atom with a last name has that last name
pub ends_so : (s : Scope) (x : Atom) (C : Name) (P : Path) → x.names ++ x.exact ≡ C ∷ P
    → bound s x ≡ C ∷ (P ++ anchor_at (bound_of s) x.anchor)
ends_so s x C P named =
    sym (append_assoc x.names x.exact (anchor_at (bound_of s) x.anchor))
    ∙ ap (λ (R : Path). R ++ anchor_at (bound_of s) x.anchor) named

body_of : (p : Program) (s : Scope) (x : Atom) (C : Name) (P : Path) (b : Body) → x.names ++ x.exact ≡ C ∷ P
    → IsConstructorBody p (bound s x) b → IsBody p (bound s x) C b
body_of p s x C P b named is =
    let e = ends_so s x C P named in
    subst (λ (B : Path). IsBody p B C b) (sym e) (subst (λ (B : Path). IsConstructorBody p B b) e is)

constructor_of : (p : Program) (s : Scope) (x : Atom) (C : Name) (P : Path) (b : Body) → x.names ++ x.exact ≡ C ∷ P
    → IsBody p (bound s x) C b → IsConstructorBody p (bound s x) b
constructor_of p s x C P b named is =
    let e = ends_so s x C P named in
    subst (λ (B : Path). IsConstructorBody p B b) (sym e) (subst (λ (B : Path). IsBody p B C b) e is)

body_same : {b c : Body} → ◌≡◌ {A = Option Body} (Some b) (Some c) → b ≡ c
body_same e = cc

one_ctor : {j k : ℕ} {o : Option ℕ} → o ≡ Some k → selecting.made_by o ≡ ins.Ctor j ∷ [] → j ≡ k
one_ctor {j} {k} e f = same (sym f ∙ ap selecting.made_by e) where
  same : ◌≡◌ {A = List Instr} (ins.Ctor j ∷ []) (ins.Ctor k ∷ []) → j ≡ k
  same e = cc

pub no_items : (es : List Expr) → length es ≡ 0 → es ≡ []
no_items [] e = refl
no_items (x ∷ es) e = absurd (no e) where
  no : length (x ∷ es) ≡ 0 → ⊥
  no e = cc

-- what `new` makes hangs on no fresh path
made_path : (p : Program) (h : Here) (u : Term) (a : ShownAtom) → TermIs p role.New (site_here h) u (atom_of a) → (q k : ℕ)
    → (atom_of a).anchor ≡ Up q k → HeaderPath h.vars q
made_path p h u a is q k i =
    let sp = spot_at (site_here h) role.New in
    let vs = vars_at (site_here h) in
    let t = term_case p sp vs u is.0 is.1 in
    header_path role.New h.vars q (case_path sp vs u.head is.0.anchor q k t.anchor (sym (ap (λ (x : Atom). x.anchor) is.2) ∙ i))

-- what `new` makes is a class
made_class : (g : Parts) (scratch : ℕ) (h : Here) (sc : Scope) (w : Walk) (u : Term) (a : ShownAtom)
    → ReadyIn g scratch h sc w → TermIs g.p.now role.New (site_here h) u (atom_of a) → IsClass g.p.now (bound sc (atom_of a))
made_class g scratch h sc w u a ready is =
    let at = site_here h in
    let t = term_case g.p.now (spot_at at role.New) (vars_at at) u is.0 is.1 in
    let k : HasKind g.p.now (bound (scope_of at) (atom_of is.0)) kinds.Class = t.class in
    let e : bound sc (atom_of a) ≡ bound (scope_of at) (atom_of is.0) =
    same_bound scratch h sc w ready (atom_of a) (made_path g.p.now h u a is) ∙ ap (bound (scope_of at)) is.2 in
    subst (λ (R : Path). IsClass g.p.now R) (sym e) (record {
      universe = heir_there k.super (declared_in_universe g.p.now k.at k.decl k.stands);
      kind = k;
    })

-- where there is no argument nothing stands
nothing_stands : (p : Program) (n : Naming) (scratch : ℕ) (c : Code) (h : Here) (from to : List ℕ) (sc : Scope) (s t : ℕ)
    → ArgsAt p n scratch c h from [] [] to sc s t → t ≡ s
nothing_stands p n scratch c h from to sc s t (no_args _ _ _ _ _ e) = e

-- ---- the whole

module _ (g : Parts) (u : Term) (es : List Expr) (keeps : Bool) (pl : Place) (n : Naming) (scratch : ℕ) (h : Here) (sc : Scope)
    (parts : PartsAre g.p.now g.t.now g.slots.now g.names.now n) (a : ShownAtom) (o : Option ℕ) (w0 w1 w2 w3 w4 : Walk)
    (same : w1.out ≡ w0.out) (is : TermIs g.p.now role.New (site_here h) u (atom_of a)) (C : Name) (last : IsLast a C)
    (args : LowersArgs g es w2 w3) (seen : MadeOf g a o keeps w3 w4) where
  -- the bound that the walk finds
  known_is : ReadyIn g scratch h sc w0 → bound_in g a ≡ bound sc (atom_of a)
  known_is ready = known_here scratch h sc w0 ready (atom_of a) (made_path g.p.now h u a is)

  -- what is had where the arguments and the constructor stand
  finished : (rest : List Mark) (z : Typed) → kind_of_type z.ty ≡ 3 → Ahead (KindMark kind.Reference ∷ rest) w3.marks
      → Emitted (NewArgs g.p.now n scratch h sc (atom_of a) es) w0.out w3.out
      → ((b : Body) (k : Header) (D : Name) (P : Path) (j : ℕ) (shape : Shape)
      → IsConstructorBody g.p.now (bound sc (atom_of a)) b → Gives g.p.now (header_typed b) (Ok k)
      → (atom_of a).names ++ (atom_of a).exact ≡ D ∷ P → MethodOf n D j shape → selecting.made_by o ≡ ins.Ctor j ∷ []
      → IsShape k.vars k.result shape)
      → CtorCode n (atom_of a) (length es) (selecting.made_by o)
      → Done (Value g.p.now n scratch h sc keeps (expr pl (node.New u es))) rest z.ty w0 w4
  finished rest z typed ahead emitted shaped code =
      let it = had_ahead kind.Reference rest seen.mid w4 seen.had
      (subst (Ahead (KindMark kind.Reference ∷ rest)) (sym seen.marks) ahead) in
      let class = seen.class n parts.classes in
      let adds : Adds (class.cls ++ ins.New ∷ (selecting.made_by o ++ dropping keeps 3)) w3.out seen.mid.out = record {
        instrs = seen.made.instrs ∙ ap (λ (l : List Instr). l ++ ins.New ∷ (selecting.made_by o ++ dropping keeps 3)) class.adds.instrs
            ∙ append_assoc w3.out.instrs class.cls (ins.New ∷ (selecting.made_by o ++ dropping keeps 3));
        locals = seen.made.locals ∙ class.adds.locals;
      } in
      record {
        left = it.left;
        emitted = subst (λ (c : Emitter). Emitted (Value g.p.now n scratch h sc keeps (expr pl (node.New u es))) w0.out c) (sym it.out)
            (new_so g.p.now n scratch h sc keeps pl u es (atom_of a) class.cls (selecting.made_by o) w0.out w3.out seen.mid.out
            emitted is shaped class.code code adds);
        kind = it.last ∙ sym typed;
      }

  -- by the constructor of the bound
  by_one : (rest ms : List Mark) (z : Typed) (b : Body) → IsConstructorBody g.p.now (bound sc (atom_of a)) b
      → Notes g.p.now (made_with h pl (typed_args h es) sc (normal_type sc (made_exact (atom_of a))) (Some b)) ms z
      → ReadyIn g scratch h sc w0 → Ahead (ms ++ rest) w1.marks → ByMark g a C (length es) o w1 w2
      → Done (Value g.p.now n scratch h sc keeps (expr pl (node.New u es))) rest z.ty w0 w4
  by_one rest ms z b cons noted ready ahead m =
      let T = normal_type sc (made_exact (atom_of a)) in
      let F = fresh_with T sc in
      let hd = then_noted (header_typed b) (made_by h pl (typed_args h es) sc T b) ms z noted in
      let k = hd.first in
      let w = wants_noted (as_many k (typed_args h es)) (in_method rule.E17 h pl)
      (note (MemberMark b.class) (then_do (call_typed h k (typed_args h es) F) (λ v. gives (of_new T F v.scope)))) hd.after z hd.then in
      let c = then_noted (call_typed h k (typed_args h es) F) (λ v. gives (of_new T F v.scope)) w.then.0 z w.then.2 in
      let gave = gives_noted g.p.now kind.Reference (of_new T F c.first.scope) z c.after refl c.then in
      let all : ms ++ rest ≡ MemberMark b.class ∷ (c.before ++ (KindMark kind.Reference ∷ rest)) =
      ap (λ (l : List Mark). l ++ rest)
      (hd.all ∙ ap (λ (l : List Mark). l ++ hd.after) (header_silent g.p.now b hd.before k hd.noted) ∙ w.then.1)
      ∙ ap (λ (l : List Mark). MemberMark b.class ∷ l) (last_one w.then.0 c.before c.after rest kind.Reference c.all gave.marks) in
      let took = member_ahead m.path b.class (c.before ++ (KindMark kind.Reference ∷ rest)) w1.marks w2.marks m.taken
      (subst (λ (l : List Mark). Ahead l w1.marks) all ahead) in
      let long = eqb-true (length k.vars) (length (typed_args h es)) w.test ∙ length-map es (typed_expr h) in
      let out = m.out ∙ same in
      let ready2 = ready_in scratch h sc F.scope w2 (named_low T None sc)
      (ready_locals scratch h sc w0 w2 (ap (λ (e : Emitter). e.locals) out) ready) in
      let d = (args n scratch h parts).done (replaced_paths k.vars) k.vars (F.path ∷ []) F.scope c.first c.before
      (KindMark kind.Reference ∷ rest) long ready2 c.noted took.left in
      let body = body_of g.p.now sc (atom_of a) C last.0 b last.1 cons in
      let callee = m.is b.method (method_there g.p.now b m.path C took.same body.at) in
      let at : slice_get n.methods m.callee.selector ≡ Some (method_sel C m.callee.params.items m.callee.kind) =
      ap (λ (l : List MethodSel). slice_get l m.callee.selector) parts.methods ∙ callee.callee.at in
      finished rest z (ap (λ (v : Typed). kind_of_type v.ty) gave.typed) d.left
      (subst (λ (e : Emitter). Emitted (NewArgs g.p.now n scratch h sc (atom_of a) es) e w3.out) out
      (means (Args g.p.now n scratch h (replaced_paths k.vars) k.vars es (F.path ∷ []) F.scope)
      (NewArgs g.p.now n scratch h sc (atom_of a) es) w2.out w3.out
      (λ q s t r. record {
        by = λ b2 k2 cons2 gives2.
            let eb = one_body b b2 cons cons2 in
            let ek = one_header g n parts b k k2 (notes_give g.p.now (header_typed b) hd.before k hd.noted)
            (subst (λ (y : Body). Gives g.p.now (header_typed y) (Ok k2)) (sym eb) gives2) in
            subst (λ (y : Header). ArgsAt g.p.now n scratch q h (replaced_paths y.vars) y.vars es (F.path ∷ []) F.scope s t) ek r;
        without = λ none. absurd (none b cons);
      }) d.emitted))
      (λ b2 k2 D P j shape cons2 gives2 named sel is_ctor.
      let eb = one_body b b2 cons cons2 in
      let ej : j ≡ m.callee.selector = one_ctor m.selector is_ctor in
      let es2 = shape_there n.methods m.callee.selector C D (shape_of m.callee.params.items m.callee.kind) shape at
      (subst (λ (i : ℕ). slice_get n.methods i ≡ Some (record { name = D; shape = shape })) ej sel.at) in
      subst (λ (y : Shape). IsShape k2.vars k2.result y) (sym es2)
      (callee_shape g.p.now b2 k2 g.names.now.methods C m.callee gives2
      (subst (λ (y : Body). IsCallee g.names.now.methods C y.method m.callee) eb callee.callee)))
      (ctor C last.0 m.callee.selector (shape_of m.callee.params.items m.callee.kind) last.1 (record { at = at }) m.many callee.nothing
      (ap selecting.made_by m.selector))
    where
      one_body : (b c : Body) → IsConstructorBody g.p.now (bound sc (atom_of a)) b
          → IsConstructorBody g.p.now (bound sc (atom_of a)) c → b ≡ c
      one_body b c one two = body_same (parts.one (OfConstructor (bound sc (atom_of a))) (Some b) (Some c) one two)

  -- without one
  by_none : (rest ms : List Mark) (z : Typed) → ((b : Body) → IsConstructorBody g.p.now (bound sc (atom_of a)) b → ⊥)
      → Notes g.p.now (made_with h pl (typed_args h es) sc (normal_type sc (made_exact (atom_of a))) None) ms z
      → ReadyIn g scratch h sc w0 → Ahead (ms ++ rest) w1.marks → length es ≡ 0 → w2 ≡ w1
      → ((m : Naming) → m.methods ≡ g.names.now.methods → selecting.IsCtorOf m (atom_of a) [] o)
      → Done (Value g.p.now n scratch h sc keeps (expr pl (node.New u es))) rest z.ty w0 w4
  by_none rest ms z none noted ready ahead empty stays found =
      let T = normal_type sc (made_exact (atom_of a)) in
      let F = fresh_with T sc in
      let w = wants_noted (nat_eq (length (typed_args h es)) 0) (in_method rule.E17 h pl) (gives (of_new T F F.scope)) ms z noted in
      let gave = gives_noted g.p.now kind.Reference (of_new T F F.scope) z ms refl w.then in
      let nothing = no_items es empty in
      let out = ap (λ (v : Walk). v.out) stays ∙ same in
      let ready2 = ready_locals scratch h sc w0 w2 (ap (λ (e : Emitter). e.locals) out) ready in
      let ahead2 : Ahead (KindMark kind.Reference ∷ rest) w2.marks =
      subst (λ (v : Walk). Ahead (KindMark kind.Reference ∷ rest) v.marks) (sym stays)
      (subst (λ (l : List Mark). Ahead (l ++ rest) w1.marks) gave.marks ahead) in
      let d = (subst (λ (l : List Expr). LowersArgs g l w2 w3) nothing args n scratch h parts).done [] [] [] sc
      (record { paths = []; scope = sc }) [] (KindMark kind.Reference ∷ rest) refl ready2 (refl, refl) ahead2 in
      finished rest z (ap (λ (v : Typed). kind_of_type v.ty) gave.typed) d.left
      (subst (λ (e : Emitter). Emitted (NewArgs g.p.now n scratch h sc (atom_of a) es) e w3.out) out
      (means (Args g.p.now n scratch h [] [] [] [] sc) (NewArgs g.p.now n scratch h sc (atom_of a) es) w2.out w3.out
      (λ q s t r. record {
        by = λ b k cons gives. absurd (none b cons);
        without = λ f. (nothing, nothing_stands g.p.now n scratch q h [] [] sc s t r);
      }) d.emitted))
      (λ b k D P j shape cons gives named sel is_ctor. absurd (none b cons))
      (subst (λ (i : ℕ). CtorCode n (atom_of a) i (selecting.made_by o)) (sym empty)
      (ctors_found n (atom_of a) [] o (found n parts.methods) (λ e. refl)))

  by_either : (rest ms : List Mark) (z : Typed) (f : Option Body) → Finds (IsConstructorBody g.p.now (bound sc (atom_of a))) f
      → Notes g.p.now (made_with h pl (typed_args h es) sc (normal_type sc (made_exact (atom_of a))) f) ms z
      → ReadyIn g scratch h sc w0 → Ahead (ms ++ rest) w1.marks → MadeWith g a C (length es) o w1 w2
      → Done (Value g.p.now n scratch h sc keeps (expr pl (node.New u es))) rest z.ty w0 w4
  by_either rest ms z (Some b) cons noted ready ahead (by so m) = by_one rest ms z b cons noted ready ahead m
  by_either rest ms z (Some b) cons noted ready ahead (without empty so stays found) =
      absurd (so parts.filled (subst (λ (R : Path). HasMethod g.p.now R C) (sym (known_is ready))
      (b.class, (body_of g.p.now sc (atom_of a) C last.0 b last.1 cons).least.among)))
  by_either rest ms z None none noted ready ahead (by so m) =
      let w = wants_noted (nat_eq (length (typed_args h es)) 0) (in_method rule.E17 h pl)
      (gives (of_new (normal_type sc (made_exact (atom_of a))) (fresh_with (normal_type sc (made_exact (atom_of a))) sc)
      (fresh_with (normal_type sc (made_exact (atom_of a))) sc).scope)) ms z noted in
      let empty = sym (length-map es (typed_expr h)) ∙ eqb-true (length (typed_args h es)) 0 w.test in
      let class = made_class g scratch h sc w0 u a ready is in
      let has = subst (λ (R : Path). HasMethod g.p.now R C) (known_is ready) (so empty parts.filled) in
      absurd (parts.least (bound sc (atom_of a)) C class has
      (λ b body. none b (constructor_of g.p.now sc (atom_of a) C last.0 b last.1 body)))
  by_either rest ms z None none noted ready ahead (without empty so stays found) =
      by_none rest ms z none noted ready ahead empty stays found

pub made_done : (g : Parts) (u : Term) (es : List Expr) (keeps : Bool) (a : ShownAtom) (o : Option ℕ) (w0 w1 w2 w3 w4 : Walk)
    → w1.out ≡ w0.out → TermTaken a w0.marks w1.marks → MadeBy g a (length es) o w1 w2 → LowersArgs g es w2 w3
    → MadeOf g a o keeps w3 w4 → LowersNodeAs g keeps (node.New u es) w0 w4
made_done g u es keeps a o w0 w1 w2 w3 w4 same took made args seen pl n scratch h sc parts = record {
  done = λ ms rest z ready noted ahead.
      let asked = subst (λ (q : Plan Typed). Notes g.p.now q ms z) ((forms_are.exprs h pl sc).new u es) noted in
      let k = taken_noted asked.0 (new_typed h pl (typed_args h es) sc) ms z asked.2 in
      let one = term_ahead a k.given (k.then.0 ++ rest) w0.marks w1.marks took
      (subst (λ (l : List Mark). Ahead (l ++ rest) w0.marks) k.then.1 ahead) in
      let means : Resolve g.p.now (spot_at (site_here h) role.New) (vars_at (site_here h)) u (Ok k.given) =
      subst (λ (q : Result ShownAtom Refusal). Means g.p.now (OfTerm role.New (site_here h) u) q) k.is asked.1 in
      let m = subst (λ (y : ShownAtom). MadeBy g y (length es) o w1 w2) one.same made in
      by_either g u es keeps pl n scratch h sc parts k.given o w0 w1 w2 w3 w4 same (k.given, means, refl) m.name m.last
      args (subst (λ (y : ShownAtom). MadeOf g y o keeps w3 w4) one.same seen) rest k.then.0 z k.then.2.0 k.then.2.1 k.then.2.2
      ready one.left m.with;
}
