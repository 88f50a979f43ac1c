-- A field and a call behind a receiver: each step of the walk, and what it does.
use Rattle.std.proofs.Common.{◌≡◌, ℕ, suc, List, [], ◌∷◌, ◌++◌, length, Bool, true, false, Option, Some, None, reverse, refl, sym, ap, ◌∙◌, subst}
use Rattle.std.proofs.lemmas.List.{length-map, reverse-reverse}
use Rattle.std.specs.Prelude.{Result, Ok, cond, slice_get}
use Rattle.jn_base.specs.declared.tree.Name.{Name}
use Rattle.jn_base.specs.declared.tree.Named.{Named}
use Rattle.jn_base.specs.declared.tree.Place.{Place}
use Rattle.jn_base.specs.declared.tree.Expr.{Expr}
use Rattle.jn_base.specs.declared.tree.Method.{Method}
use Rattle.jn_base.specs.declared.tree.Program.{Program}
use Rattle.jn_base.specs.declared.path.Path.{Path as ShownPath}
use Rattle.jn_base.specs.declared.types.Ty.{Ty}
use Rattle.jn_base.specs.declared.types.Ty.TheVariants as ty
use Rattle.jn_base.specs.declared.types.ValKind.{ValKind}
use Rattle.jn_base.specs.declared.types.ValKind.TheVariants as kind
use Rattle.jn_base.specs.declared.names.Role.TheVariants as role
use Rattle.jn_base.specs.declared.refusal.Refusal.{Refusal}
use Rattle.jn_base.specs.declared.refusal.Rule.TheVariants as rule
use Rattle.jn_base.specs.Paths.{Path}
use Rattle.jn_base.specs.Members.{MethodAt}
use Rattle.jn_base.specs.Scopes.{Scope}
use Rattle.jn_base.specs.Resolve.{is_class}
use Rattle.jn_base.specs.ResolveTypes.{mask_names}
use Rattle.jn_sem.specs.NormalFunction.{subst_type}
use Rattle.jn_sem.specs.Terms.{spot}
use Rattle.jn_sem.specs.Does.{Body}
use Rattle.jn_rules.specs.Plans.{FoundField, OfField, OfMethod, Mark, MemberMark, KindMark, Plan, ask, note, refuse, then_do, found_or}
use Rattle.jn_rules.specs.Questions.{Gives, Notes, Finds, IsFoundField, IsMethodOf}
use Rattle.jn_rules.specs.LawsOfPlans.{RepliesAreOne}
use Rattle.jn_rules.specs.Headers.{Header, header_typed}
use Rattle.jn_rules.specs.Exprs.{Here, Typed, Passed, kind_of, plain, gives, path_of, put_in, mismatch, in_method, of_class, first_bound, as_many, replaced_paths, call_typed, result_gives, field_type, field_gives, unmasked, method_with, method_gives, suffix_typed}
use Rattle.jn_rules.specs.Forms.{typed_args}
use Rattle.jn_rules.proofs.PlanLaws.{then_noted, notes_give, plan_one}
use Rattle.jn_agree.specs.declared.selectors.MethodSel.{MethodSel}
use Rattle.jn_agree.specs.Rows.{IsShape, kind_of_type, result_kind}
use Rattle.jn_places.specs.ExprPlaces.{ArgsAt}
use Rattle.jn_lower.specs.declared.cursor.Marks.{Marks}
use Rattle.jn_lower.specs.declared.emitter.Emitter.{Emitter}
use Rattle.jn_lower.specs.declared.members.Callee.{Callee}
use Rattle.jn_lower.specs.declared.walk.Parts.{Parts}
use Rattle.jn_lower.specs.declared.walk.Walk.{Walk}
use Rattle.jn_lower.specs.Called as called
use Rattle.jn_lower.specs.Cursors.{Ahead, MemberTaken}
use Rattle.jn_lower.specs.Emitted.{Emitted}
use Rattle.jn_lower.specs.Selecting.{shape_of}
use Rattle.jn_lower.specs.Told.{IsCallee}
use Rattle.jn_lower.specs.Written.{param_kind}
use Rattle.jn_lower.specs.Walks.{FieldRead, CallMade, Settled, none, some, SettledSo, LowersArgs, LowersMember}
use Rattle.jn_lower.proofs.Growing.{means}
use Rattle.jn_lower.proofs.Calling.{field_so, call_so}
use Rattle.jn_lower.proofs.Noting.{wants_noted, found_noted, gives_noted, kinds_agree, valued}
use Rattle.jn_lower.proofs.Taking.{member_ahead, had_ahead, ready_locals, ready_in}
use Rattle.jn_lower.proofs.Seen.{named_low}
use Rattle.jn_lower.proofs.Chains.{regroup}
use Rattle.jn_lower.proofs.Written.{told}
use Rattle.jn_lower.proofs.Heads.{HeadIs, head_is, header_silent}
use Rattle.jn_lower.proofs.FieldKinds.{read_by}

-- ---- what notes nothing

-- it was not masked
shown_noted : {A : Type 0} (p : Program) (hidden : Bool) (r : Refusal) (go : Plan A) (ms : List Mark) (a : A)
    → Notes p (cond hidden (refuse r) go) ms a → Notes p go ms a
shown_noted p true r go ms a g = absurd g
shown_noted p false r go ms a g = g

unmasked_noted : (p : Program) (x : Typed) (f : Named) (go : Plan Typed) (mask : Option Name) (ms : List Mark) (y : Typed)
    → Notes p (unmasked x f go mask) ms y → Notes p go ms y
unmasked_noted p x f go (Some m) ms y g = absurd g
unmasked_noted p x f go None ms y g = g

-- ---- kinds

-- putting paths into a type keeps its kind
pub put_kept : (s : Scope) (m : ℕ → ℕ) (t : Ty) → result_kind (subst_type s m t) ≡ result_kind t
put_kept s m ty.Int = refl
put_kept s m ty.Bool = refl
put_kept s m ty.Null = refl
put_kept s m ty.Void = refl
put_kept s m (ty.Class xs n) = refl

pub put_void : (s : Scope) (m : ℕ → ℕ) (t : Ty) → subst_type s m t ≡ ty.Void → t ≡ ty.Void
put_void s m ty.Int e = absurd cc
put_void s m ty.Bool e = absurd cc
put_void s m ty.Null e = absurd cc
put_void s m ty.Void e = refl
put_void s m (ty.Class xs n) e = absurd cc

-- ---- a field

pub field_done : (g : Parts) (f : Named) (path : ShownPath) (m1 : Marks) (w0 w2 : Walk) → MemberTaken path w0.marks m1
    → FieldRead g path f.name (record w0 { marks = m1 }) w2 → LowersMember g true f None w0 w2
field_done g f path m1 w0 w2 took read n scratch h parts = record {
  done = λ at x y ms rest ready noted ahead.
      let lacks = of_class rule.E16 (first_bound x) f f.name in
      let u = wants_noted (is_class x.ty) (mismatch h at)
      (ask (OfField x.scope x.ty f.name) (found_or lacks (field_gives f x))) ms y noted in
      let k = found_noted u.then.0 lacks (field_gives f x) ms y u.then.2 in
      let c = k.given in
      let found : IsFoundField g.p.now x.scope x.ty f.name c =
      subst (λ (o : Option FoundField). Finds (IsFoundField g.p.now x.scope x.ty f.name) o) k.is u.then.1 in
      let v = plain (field_type c (path_of x.ty x)) (path_of x.ty x).scope in
      let s = shown_noted g.p.now k.then.0 (of_class rule.E19 (first_bound x) f f.name)
      (note (MemberMark c.class) (gives v)) ms y k.then.2 in
      let w = told g.p.now (mask_names g.p.now) (spot found.type.class f.name role.Field) (record { list = [] })
      found.type.field.ty c.ty found.type.type in
      let some_kind = valued v.ty (λ e. w.valued (put_void v.scope _ c.ty e)) in
      let gave = gives_noted g.p.now some_kind.0 v y s.0 some_kind.1 s.2 in
      let one = member_ahead path c.class (KindMark some_kind.0 ∷ rest) w0.marks m1 took
      (subst (λ (l : List Mark). Ahead (l ++ rest) w0.marks)
      (s.1 ∙ ap (λ (l : List Mark). MemberMark c.class ∷ l) gave.marks) ahead) in
      let it = had_ahead some_kind.0 rest read.mid w2 read.had
      (subst (Ahead (KindMark some_kind.0 ∷ rest)) (sym read.marks) one.left) in
      let by = read_by g n parts x.scope x.ty f.name c path read.getter found one.same read.is in
      record {
        left = it.left;
        emitted = subst (λ (o : Emitter). Emitted (called.Part g.p.now n scratch h x true f.name None) w0.out o) (sym it.out)
            (field_so g.p.now n scratch h x f.name read.getter.selector read.getter.kind w0.out read.mid.out by.sel by.kinds read.adds);
        kind = it.last ∙ kinds_agree v.ty some_kind.0 some_kind.1 ∙ ap (λ (t : Typed). kind_of_type t.ty) (sym gave.typed);
      };
}

-- ---- a call

-- the value of a call was had, or there is none
pub record Settles (rest : List Mark) (t : Ty) (s : Scope) (y : Typed) (old new : Walk) : Type 0 where
  pub so : SettledSo rest t old new
  pub typed : y ≡ plain t s

no_kind : (k : ℕ) → suc k ≡ 0 → ⊥
no_kind k e = cc

settles_some : (p : Program) (t : Ty) (s : Scope) (j : ValKind) (i k : ℕ) (y : Typed) (ms rest : List Mark)
    (old new : Walk) → kind_of t ≡ Some j → result_kind t ≡ suc i → Notes p (gives (plain t s)) ms y
    → k ≡ result_kind t → Settled k old new → Ahead (ms ++ rest) old.marks → Settles rest t s y old new
settles_some p t s j i k y ms rest old new kinded more noted same (none e last marks out) ahead =
    absurd (no_kind i (sym more ∙ sym same ∙ e))
settles_some p t s j i k y ms rest old new kinded more noted same (some ne h) ahead =
    let gave = gives_noted p j (plain t s) y ms kinded noted in
    let it = had_ahead j rest old new h (subst (λ (l : List Mark). Ahead (l ++ rest) old.marks) gave.marks ahead) in
    record {
      so = record { left = it.left; kind = it.last ∙ kinds_agree t j kinded; out = it.out };
      typed = gave.typed;
    }

pub settles : (p : Program) (t : Ty) (s : Scope) (k : ℕ) (y : Typed) (ms rest : List Mark) (old new : Walk)
    → Notes p (gives (plain t s)) ms y → k ≡ result_kind t → Settled k old new → Ahead (ms ++ rest) old.marks
    → Settles rest t s y old new
settles p ty.Void s k y ms rest old new noted same (none e last marks out) ahead = record {
  so = record {
    left = subst (Ahead rest) (sym marks) (subst (λ (l : List Mark). Ahead (l ++ rest) old.marks) noted.0 ahead);
    kind = last;
    out = out;
  };
  typed = noted.1;
}
settles p ty.Void s k y ms rest old new noted same (some ne h) ahead = absurd (ne same)
settles p ty.Int s k y ms rest old new noted same settled ahead =
    settles_some p ty.Int s kind.Int 0 k y ms rest old new refl refl noted same settled ahead
settles p ty.Bool s k y ms rest old new noted same settled ahead =
    settles_some p ty.Bool s kind.Bool 1 k y ms rest old new refl refl noted same settled ahead
settles p ty.Null s k y ms rest old new noted same settled ahead =
    settles_some p ty.Null s kind.Reference 2 k y ms rest old new refl refl noted same settled ahead
settles p (ty.Class xs m) s k y ms rest old new noted same settled ahead =
    settles_some p (ty.Class xs m) s kind.Reference 2 k y ms rest old new refl refl noted same settled ahead

-- what a method of the program is called by has the shape of its header
pub called_shape : (names : List MethodSel) (f : Name) (m : Method) (x : Callee) (k : Header) → IsCallee names f m x
    → HeadIs m.params m.result k → IsShape k.vars k.result (shape_of x.params.items x.kind)
called_shape names f m x k is head =
    record { params = is.params ∙ sym head.kinds; result = is.result ∙ sym head.result }

pub called_many : (names : List MethodSel) (f : Name) (m : Method) (x : Callee) (k : Header) (count : ℕ)
    → IsCallee names f m x → HeadIs m.params m.result k → length x.params.items ≡ count → length k.vars ≡ count
called_many names f m x k count is head many =
    head.count ∙ sym (length-map m.params param_kind) ∙ ap (λ (l : List ℕ). length l) (sym is.params) ∙ many

body_same : {x y : Body} → ◌≡◌ {A = Option Body} (Some x) (Some y) → x ≡ y
body_same e = cc

header_same : {x y : Header} → ◌≡◌ {A = Result Header Refusal} (Ok x) (Ok y) → x ≡ y
header_same e = cc

-- whatever body and header are found are these
pub one_header : (p : Program) → RepliesAreOne p → (s : Scope) (t : Ty) (f : Name) (b c : Body) (k l : Header)
    → IsMethodOf p s t f b → Gives p (header_typed b) (Ok k) → IsMethodOf p s t f c → Gives p (header_typed c) (Ok l)
    → k ≡ l
one_header p one s t f b c k l found gave other gives =
    let same : c ≡ b = body_same (one (OfMethod s t f) (Some c) (Some b) other found) in
    header_same (plan_one one (header_typed b) (Ok k) (Ok l) gave
    (subst (λ (d : Body). Gives p (header_typed d) (Ok l)) same gives))

-- what is noted of a call: the class of the body, what the arguments note, and the kind of what it gives
record CallNoted (p : Program) (h : Here) (f : Named) (es : List Expr) (x y : Typed) (ms : List Mark) : Type 0 where
  body : Body
  method : IsMethodOf p x.scope x.ty f.name body
  header : Header
  gave : Gives p (header_typed body) (Ok header)
  passed : Passed
  before : List Mark
  after : List Mark
  args : Notes p (call_typed h header (typed_args h es) (path_of x.ty x)) before passed
  result : Notes p (result_gives header passed) after y
  all : ms ≡ MemberMark body.class ∷ (before ++ after)

call_noted : (p : Program) (h : Here) (f : Named) (es : List Expr) (at : Place) (x y : Typed) (ms : List Mark)
    → Notes p (suffix_typed h f (Some (typed_args h es)) at x) ms y → CallNoted p h f es x y ms
call_noted p h f es at x y ms noted =
    let lacks = of_class rule.E16 (first_bound x) f f.name in
    let all = typed_args h es in
    let u = wants_noted (is_class x.ty) (mismatch h at)
    (ask (OfMethod x.scope x.ty f.name) (found_or lacks (method_gives h f all x))) ms y noted in
    let k = found_noted u.then.0 lacks (method_gives h f all x) ms y u.then.2 in
    let b = k.given in
    let clear = unmasked_noted p x f (then_do (header_typed b) (method_with h f all x b)) k.then.0 ms y k.then.2 in
    let hd = then_noted (header_typed b) (method_with h f all x b) ms y clear in
    let w = wants_noted (as_many hd.first all) (in_method rule.E17 h f.at)
    (note (MemberMark b.class) (then_do (call_typed h hd.first all (path_of x.ty x)) (result_gives hd.first)))
    hd.after y hd.then in
    let a = then_noted (call_typed h hd.first all (path_of x.ty x)) (result_gives hd.first) w.then.0 y w.then.2 in
    record {
      body = b;
      method = subst (λ (o : Option Body). Finds (IsMethodOf p x.scope x.ty f.name) o) k.is u.then.1;
      header = hd.first;
      gave = notes_give p (header_typed b) hd.before hd.first hd.noted;
      passed = a.first;
      before = a.before;
      after = a.after;
      args = a.noted;
      result = a.then;
      all = hd.all ∙ ap (λ (l : List Mark). l ++ hd.after) (header_silent p b hd.before hd.first hd.noted)
          ∙ w.then.1 ∙ ap (λ (l : List Mark). MemberMark b.class ∷ l) a.all;
    }

pub call_done : (g : Parts) (keeps : Bool) (f : Named) (es : List Expr) (path : ShownPath) (m1 : Marks) (w0 w2 w3 : Walk)
    → MemberTaken path w0.marks m1 → LowersArgs g es (record w0 { marks = m1 }) w2
    → CallMade g keeps path f.name (length es) w2 w3 → LowersMember g keeps f (Some es) w0 w3
call_done g keeps f es path m1 w0 w2 w3 took all made n scratch h parts = record {
  done = λ at x y ms rest ready noted ahead.
      let c = call_noted g.p.now h f es at x y ms noted in
      let k = c.header in
      let r = path_of x.ty x in
      let head = head_is g.p.now c.body k c.gave in
      let one = member_ahead path c.body.class (c.before ++ (c.after ++ rest)) w0.marks m1 took
      (subst (λ (l : List Mark). Ahead l w0.marks) (regroup ms (MemberMark c.body.class ∷ c.before) c.after rest c.all) ahead) in
      let there = ap (λ (q : ShownPath). reverse q.names) one.same ∙ reverse-reverse c.body.class in
      let is = made.is c.body.method
      (subst (λ (Q : Path). MethodAt g.p.now Q f.name c.body.method) (sym there) c.method.body.at) in
      let w1 : Walk = record w0 { marks = m1 } in
      let d = (all n scratch h parts).done (replaced_paths k.vars) k.vars (r.path ∷ []) r.scope c.passed c.before
      (c.after ++ rest) (called_many g.names.now.methods f.name c.body.method made.callee k (length es) is head made.many)
      (ready_in scratch h x.scope r.scope w1 (named_low x.ty x.path x.scope) (ready_locals scratch h x.scope w0 w1 refl ready))
      c.args one.left in
      let t = put_in c.passed.scope (replaced_paths k.vars) c.passed.paths k.result in
      let s = settles g.p.now t c.passed.scope made.callee.kind y c.after rest made.mid w3 c.result
      (is.result ∙ sym head.result ∙ sym (put_kept c.passed.scope _ k.result)) made.settled
      (subst (Ahead (c.after ++ rest)) (sym made.marks) d.left) in
      let shape = shape_of made.callee.params.items made.callee.kind in
      let shaped = called_shape g.names.now.methods f.name c.body.method made.callee k is head in
      record {
        left = s.so.left;
        emitted = subst (λ (o : Emitter). Emitted (called.Part g.p.now n scratch h x keeps f.name (Some es)) w0.out o) (sym s.so.out)
            (call_so g.p.now n scratch h x keeps f.name es made.callee.selector shape w0.out w2.out made.mid.out
            (means (called.Args g.p.now n scratch h (replaced_paths k.vars) k.vars es (r.path ∷ []) r.scope)
            (called.CallArgs g.p.now n scratch h x f.name es) w0.out w2.out
            (λ o i j run b2 k2 found gives. subst
            (λ (l : Header). ArgsAt g.p.now n scratch o h (replaced_paths l.vars) l.vars es (r.path ∷ []) r.scope i j)
            (one_header g.p.now parts.one x.scope x.ty f.name c.body b2 k k2 c.method c.gave found gives) run) d.emitted)
            (λ b2 k2 found gives. subst (λ (l : Header). IsShape l.vars l.result shape)
            (one_header g.p.now parts.one x.scope x.ty f.name c.body b2 k k2 c.method c.gave found gives) shaped)
            (record { at = ap (λ (l : List MethodSel). slice_get l made.callee.selector) parts.methods ∙ is.at })
            made.many made.adds);
        kind = s.so.kind ∙ ap (λ (v : Typed). kind_of_type v.ty) (sym s.typed);
      };
}
