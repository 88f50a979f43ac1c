-- Assignments to fields: each step of the walk, and what it does.
use Rattle.std.proofs.Common.{◌≡◌, ℕ, List, [], ◌∷◌, ◌++◌, Bool, true, false, Option, Some, None, refl, sym, ap, ◌∙◌, subst, append-nil}
use Rattle.std.specs.Prelude.{cond}
use Rattle.jn_base.specs.declared.tree.Name.{Name}
use Rattle.jn_base.specs.declared.tree.Named.{Named}
use Rattle.jn_base.specs.declared.tree.Expr.{Expr}
use Rattle.jn_base.specs.declared.tree.Stmt.TheVariants as stmt
use Rattle.jn_base.specs.declared.tree.Program.{Program}
use Rattle.jn_base.specs.declared.path.Path.{Path as ShownPath}
use Rattle.jn_base.specs.declared.refusal.Refusal.{Refusal}
use Rattle.jn_base.specs.declared.refusal.Rule.TheVariants as rule
use Rattle.jn_base.specs.Resolve.{is_class}
use Rattle.jn_rules.specs.Plans.{FoundField, OfField, IsBelow, Mark, MemberMark, Plan, done, ask, wants, found_or}
use Rattle.jn_rules.specs.Questions.{Notes, Finds, IsFoundField}
use Rattle.jn_rules.specs.Exprs.{Typed, mismatch, of_class, first_bound, path_of, field_type}
use Rattle.jn_rules.specs.Stmts.{In, Before, here, typed, is_variable, with_masks, without_mask, dropped, set_with, stmt_types}
use Rattle.jn_rules.proofs.FormLaws.{forms_are}
use Rattle.jn_rules.proofs.PlanLaws.{then_noted}
use Rattle.jn_rule_laws.specs.Behind.{MasksApart}
use Rattle.jn_rule_laws.proofs.Behind.{apart_itself, masks_apart}
use Rattle.jn_rule_laws.proofs.MaskNumbers.{formed_of, mask_small}
use Rattle.jn_places.specs.ExprPlaces.{ExprAt}
use Rattle.jn_lower.specs.declared.cursor.Marks.{Marks}
use Rattle.jn_lower.specs.declared.walk.Parts.{Parts}
use Rattle.jn_lower.specs.declared.walk.Walk.{Walk}
use Rattle.jn_lower.specs.Cursors.{Ahead, MemberTaken}
use Rattle.jn_lower.specs.Forms.{Value}
use Rattle.jn_lower.specs.Stores.{ValueBehind}
use Rattle.jn_lower.specs.Walks.{FieldPut, LowersValue, LowersPlain}
use Rattle.jn_lower.proofs.Growing.{means}
use Rattle.jn_lower.proofs.Holding.{set_so}
use Rattle.jn_lower.proofs.Noting.{wants_noted, found_noted}
use Rattle.jn_lower.proofs.Taking.{member_ahead, ready_grown, ready_locals, ready_in, ready_apart, ready_typed}
use Rattle.jn_lower.proofs.Seen.{named_low}
use Rattle.jn_lower.proofs.Chains.{is_it, regroup}
use Rattle.jn_lower.proofs.Blocks.{behind_it}
use Rattle.jn_lower.proofs.FieldKinds.{read_by}

-- ---- dropping a mask notes nothing, keeps the variables, and changes a scope in masks alone

record DroppedSo (x y : Before) (ms : List Mark) : Type 0 where
  silent : ms ≡ []
  vars : y.vars ≡ x.vars
  apart : MasksApart x.scope y.scope

dropped_at : (x y z : Before) (ms : List Mark) → ms ≡ [] → y ≡ z → z.vars ≡ x.vars → MasksApart x.scope z.scope
    → DroppedSo x y ms
dropped_at x y z ms silent same vars apart = record {
  silent = silent;
  vars = ap (λ (u : Before). u.vars) same ∙ vars;
  apart = subst (λ (u : Before). MasksApart x.scope u.scope) (sym same) apart;
}

dropped_so : (p : Program) (x y : Before) (f : Name) (o : Option ℕ) (ms : List Mark) → Notes p (dropped x f o) ms y
    → DroppedSo x y ms
dropped_so p x y f None ms g = dropped_at x y x ms g.0 g.1 refl (apart_itself x.scope)
dropped_so p x y f (Some q) ms g = at (is_variable q) g where
  at : (b : Bool) → Notes p (cond b (without_mask x f q) (done x)) ms y → DroppedSo x y ms
  at true h =
      dropped_at x y (record x { scope = with_masks x.scope q h.0 }) ms h.2.0 h.2.1 refl
      (masks_apart x.scope q h.0
      (λ i has. ((h.1.each i (mask_small h.0 (formed_of _ h.0 h.1) i has)).0 has).0))
  at false h = dropped_at x y x ms h.0 h.1 refl (apart_itself x.scope)

-- ---- what is noted

-- the receiver, the class that declares the field, and the value
record SetNoted (p : Program) (b : In) (x y : Before) (r : Expr) (f : Named) (e : Expr) (ms : List Mark) : Type 0 where
  receiver : Typed
  before : List Mark
  noted : Notes p (typed b x r x.scope) before receiver
  field : FoundField
  found : IsFoundField p receiver.scope receiver.ty f.name field
  value : Typed
  behind : List Mark
  gave : Notes p (typed b x e (path_of receiver.ty receiver).scope) behind value
  all : ms ≡ before ++ MemberMark field.class ∷ behind
  vars : y.vars ≡ x.vars
  apart : MasksApart x.scope y.scope

set_noted : (p : Program) (b : In) (x y : Before) (r : Expr) (f : Named) (e : Expr) (ms : List Mark)
    → Notes p (stmt_types b (stmt.Set r f e) x) ms y → SetNoted p b x y r f e ms
set_noted p b x y r f e ms noted =
    let a = then_noted (typed b x r x.scope) (λ v. looks v) ms y
    (subst (λ (q : Plan Before). Notes p q ms y) ((forms_are.stmts b x).set r f e) noted) in
    let v = a.first in
    let u = wants_noted (is_class v.ty) (mismatch (here b x) r.at) (asks v) a.after y a.then in
    let k = found_noted u.then.0 (lacks v) (set_with b x f e v) a.after y u.then.2 in
    let n = path_of v.ty v in
    let go = dropped x f.name v.path in
    let c = then_noted (typed b x e n.scope) (λ w. below v k.given w) k.then.0 y k.then.2 in
    let t = wants_noted c.then.0 (mismatch (here b x) e.at) go c.after y c.then.2 in
    let d = dropped_so p x y f.name v.path c.after t.then in
    record {
      receiver = v;
      before = a.before;
      noted = a.noted;
      field = k.given;
      found = subst (λ (o : Option FoundField). Finds (IsFoundField p v.scope v.ty f.name) o) k.is u.then.1;
      value = c.first;
      behind = c.before;
      gave = c.noted;
      all = a.all ∙ ap (λ (l : List Mark). a.before ++ l)
          (k.then.1 ∙ ap (λ (l : List Mark). MemberMark k.given.class ∷ l)
          (c.all ∙ ap (λ (l : List Mark). c.before ++ l) d.silent ∙ append-nil c.before));
      vars = d.vars;
      apart = d.apart;
    }
  where
    lacks : Typed → Refusal
    lacks v = of_class rule.E16 (first_bound v) f f.name

    asks : Typed → Plan Before
    asks v = ask (OfField v.scope v.ty f.name) (found_or (lacks v) (set_with b x f e v))

    looks : Typed → Plan Before
    looks v = wants (is_class v.ty) (mismatch (here b x) r.at) (asks v)

    below : Typed → FoundField → Typed → Plan Before
    below v c w =
        ask (IsBelow w.scope w.ty (field_type c (path_of v.ty v)))
        (λ ok. wants ok (mismatch (here b x) e.at) (dropped x f.name v.path))

pub set_done : (g : Parts) (r : Expr) (f : Named) (e : Expr) (path : ShownPath) (m2 : Marks) (w0 w1 w3 w4 : Walk)
    → LowersValue g r w0 w1 → MemberTaken path w1.marks m2 → LowersValue g e (record w1 { marks = m2 }) w3
    → FieldPut g path f.name w3 w4 → LowersPlain g (stmt.Set r f e) w0 w4
set_done g r f e path m2 w0 w1 w3 w4 receiver took value puts n scratch b parts = record {
  done = λ x y ms rest ready noted ahead.
      let s = set_noted g.p.now b x y r f e ms noted in
      let v = s.receiver in
      let c = s.field in
      let scope = (path_of v.ty v).scope in
      let d = (receiver n scratch (here b x) x.scope parts).done s.before (MemberMark c.class ∷ (s.behind ++ rest)) v
      ready s.noted
      (subst (λ (l : List Mark). Ahead l w0.marks) (regroup ms s.before (MemberMark c.class ∷ s.behind) rest s.all) ahead) in
      let one = member_ahead path c.class (s.behind ++ rest) w1.marks m2 took d.left in
      let w2 : Walk = record w1 { marks = m2 } in
      let h = here b x in
      let ready1 = ready_locals scratch h x.scope w1 w2 refl (ready_grown scratch h x.scope w0 w1 d.emitted.grown ready) in
      let ready2 = ready_in scratch h v.scope scope w2 (named_low v.ty v.path v.scope)
      (ready_locals scratch h v.scope w1 w2 refl
      (ready_typed g.p.now scratch h x.scope r s.before v w0 w1 s.noted d.emitted.grown ready)) in
      let k = (value n scratch h scope parts).done s.behind rest s.value ready2 s.gave one.left in
      let by = read_by g n parts v.scope v.ty f.name c path puts.getter s.found one.same puts.is in
      record {
        left = subst (Ahead rest) (sym puts.marks) k.left;
        ready = ready_apart scratch b x y w4 s.vars s.apart
            (ready_locals scratch h x.scope w3 w4 puts.adds.locals (ready_grown scratch h x.scope w2 w3 k.emitted.grown ready1));
        behind = λ ss end all. set_so g.p.now n scratch b x r f e puts.getter.selector puts.getter.kind ss w0.out w1.out
            w3.out w4.out end d.emitted
            (means (Value g.p.now n scratch (here b x) scope true e) (ValueBehind g.p.now n scratch b x r e) w1.out w3.out
            (λ o i j run u gives. subst (λ (z : Typed). ExprAt g.p.now n scratch o (here b x) (path_of z.ty z).scope true e i j)
            (is_it g n parts (typed b x r x.scope) s.before v u s.noted gives) run) k.emitted)
            by.sel
            (λ u h gives found. by.kinds h (subst (λ (z : Typed). IsFoundField g.p.now z.scope z.ty f.name h)
            (sym (is_it g n parts (typed b x r x.scope) s.before v u s.noted gives)) found))
            puts.adds (behind_it g n scratch b parts (stmt.Set r f e) x y ms noted ss w4.out end all);
      };
}
