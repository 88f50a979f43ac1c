-- View changes: each step of the walk, and what it does.
use Rattle.std.proofs.Common.{List, [], ◌∷◌, ◌++◌, Bool, true, false, refl, sym, ap, ◌∙◌, subst, append_assoc}
use Rattle.std.specs.Prelude.{Result, Ok, cond}
use Rattle.jn_base.specs.declared.tree.Place.{Place}
use Rattle.jn_base.specs.declared.tree.ViewTerm.{ViewTerm}
use Rattle.jn_base.specs.declared.tree.Expr.{Expr}
use Rattle.jn_base.specs.declared.tree.Node.TheVariants as node
use Rattle.jn_base.specs.declared.tree.Program.{Program}
use Rattle.jn_base.specs.declared.types.Anchor.{Anchor}
use Rattle.jn_base.specs.declared.types.Anchor.TheVariants.{Root, Up}
use Rattle.jn_base.specs.declared.types.Atom.{Atom as ShownAtom}
use Rattle.jn_base.specs.declared.types.ValKind.TheVariants as kind
use Rattle.jn_base.specs.declared.names.Role.TheVariants as role
use Rattle.jn_base.specs.declared.refusal.Refusal.{Refusal}
use Rattle.jn_base.specs.Parts.{expr}
use Rattle.jn_base.specs.Atoms.{atom_of}
use Rattle.jn_code.specs.declared.instr.Instr.{Instr}
use Rattle.jn_code.specs.declared.instr.Instr.TheVariants as ins
use Rattle.jn_rules.specs.Plans.{Target, Sharing, Holding, Refuted, Mark, AtomMark, KindMark, Plan, then_do, wants}
use Rattle.jn_rules.specs.Questions.{TargetIs, Notes}
use Rattle.jn_rules.specs.Exprs.{Here, site_here, Typed, mismatch, is_object, is_null_type, gives, header_grants, shared_or, by_sharing, viewed_as, viewed, view_typed, expr_types}
use Rattle.jn_rules.specs.Forms.{typed_expr}
use Rattle.jn_rules.proofs.FormLaws.{forms_are}
use Rattle.jn_rules.proofs.PlanLaws.{then_noted}
use Rattle.jn_agree.specs.Rows.{kind_of_type}
use Rattle.jn_lower.specs.declared.cursor.Marks.{Marks}
use Rattle.jn_lower.specs.declared.emitter.Emitter.{Emitter}
use Rattle.jn_lower.specs.declared.walk.Parts.{Parts}
use Rattle.jn_lower.specs.declared.walk.Walk.{Walk}
use Rattle.jn_lower.specs.Cursors.{Ahead, TermTaken}
use Rattle.jn_lower.specs.Emitted.{Emitted, Adds}
use Rattle.jn_lower.specs.Forms.{Value}
use Rattle.jn_lower.specs.Walks.{ViewedAs, LowersValue, LowersNode}
use Rattle.jn_lower.proofs.Composing.{view_so}
use Rattle.jn_lower.proofs.Noting.{GaveOne, taken_noted, wants_noted, gives_noted, grants_silent}
use Rattle.jn_lower.proofs.Taking.{term_ahead, had_ahead, ready_locals}
use Rattle.jn_lower.proofs.Chains.{last_one}

viewed_noted : (p : Program) (h : Here) (at : Place) (u : Target) (x z : Typed) (ms : List Mark)
    → Notes p (viewed h at u x) ms z → GaveOne kind.Reference (viewed_as u x.scope) z ms
viewed_noted p h at u x z ms noted = on_null (is_null_type x.ty) noted where
  shared : (s : Sharing) (l : List Mark) → Notes p (shared_or at (viewed_as u x.scope) s) l z
      → GaveOne kind.Reference (viewed_as u x.scope) z l
  shared Holding l g = gives_noted p kind.Reference (viewed_as u x.scope) z l refl g
  shared (Refuted U f) l g = absurd g

  anchored : (a : Anchor) (l : List Mark) → Notes p (by_sharing at x.scope x.ty u (viewed_as u x.scope) a) l z
      → GaveOne kind.Reference (viewed_as u x.scope) z l
  anchored Root l g = shared g.0 l g.2
  anchored (Up q k) l g = absurd g

  granted : (ok : Bool) (l : List Mark)
      → Notes p (cond ok (gives (viewed_as u x.scope)) (by_sharing at x.scope x.ty u (viewed_as u x.scope) u.atom.anchor)) l z
      → GaveOne kind.Reference (viewed_as u x.scope) z l
  granted true l g = gives_noted p kind.Reference (viewed_as u x.scope) z l refl g
  granted false l g = anchored u.atom.anchor l g

  asked : Bool → Plan Typed
  asked ok = cond ok (gives (viewed_as u x.scope)) (by_sharing at x.scope x.ty u (viewed_as u x.scope) u.atom.anchor)

  on_null : (b : Bool) → Notes p (cond b (gives (viewed_as u x.scope)) (then_do (header_grants h x.scope x.ty u) asked)) ms z
      → GaveOne kind.Reference (viewed_as u x.scope) z ms
  on_null true g = gives_noted p kind.Reference (viewed_as u x.scope) z ms refl g
  on_null false g =
      let f = then_noted (header_grants h x.scope x.ty u) asked ms z g in
      let same = f.all ∙ ap (λ (l : List Mark). l ++ f.after)
      (grants_silent p h h.method.sharing x.scope x.ty u f.before f.first f.noted) in
      subst (GaveOne kind.Reference (viewed_as u x.scope) z) (sym same) (granted f.first f.after f.then)

pub view_done : (g : Parts) (v : ViewTerm) (e : Expr) (a : ShownAtom) (m1 : Marks) (w0 w2 w4 : Walk)
    → TermTaken a w0.marks m1 → LowersValue g e (record { out = w0.out; marks = m1; last = w0.last }) w2
    → ViewedAs g a w2 w4 → LowersNode g (node.View v e) w0 w4
view_done g v e a m1 w0 w2 w4 took value seen pl n scratch h sc parts = record {
  done = λ ms rest z ready noted ahead.
      let asked = subst (λ (q : Plan Typed). Notes g.p.now q ms z) ((forms_are.exprs h pl sc).view v e) noted in
      let k = taken_noted asked.0 (view_typed h pl (typed_expr h e) sc) ms z asked.2 in
      let u = k.given in
      let f = then_noted (expr_types h e sc) (λ x. wants (is_object x.ty) (mismatch h e.at) (viewed h pl u x)) k.then.0 z k.then.2 in
      let t = wants_noted (is_object f.first.ty) (mismatch h e.at) (viewed h pl u f.first) f.after z f.then in
      let gave = viewed_noted g.p.now h pl u f.first z f.after t.then in
      let one = term_ahead a u.atom (f.before ++ (KindMark kind.Reference ∷ rest)) w0.marks m1 took
      (subst (λ (l : List Mark). Ahead l w0.marks)
      (ap (λ (l : List Mark). l ++ rest) k.then.1
      ∙ ap (λ (l : List Mark). AtomMark u.atom ∷ l) (last_one k.then.0 f.before f.after rest kind.Reference f.all gave.marks)) ahead) in
      let w1 : Walk = record { out = w0.out; marks = m1; last = w0.last } in
      let d = (value n scratch h sc parts).done f.before (KindMark kind.Reference ∷ rest) f.first
      (ready_locals scratch h sc w0 w1 refl ready) f.noted one.left in
      let it = had_ahead kind.Reference rest seen.mid w4 seen.had (subst (Ahead (KindMark kind.Reference ∷ rest)) (sym seen.marks) d.left) in
      let code = seen.class n parts.classes in
      let adds : Adds (code.cls ++ ins.Conv ∷ []) w2.out seen.mid.out = record {
        instrs = seen.conv.instrs ∙ ap (λ (l : List Instr). l ++ ins.Conv ∷ []) code.adds.instrs
            ∙ append_assoc w2.out.instrs code.cls (ins.Conv ∷ []);
        locals = seen.conv.locals ∙ code.adds.locals;
      } in
      let means : TargetIs g.p.now role.View (site_here h) v (Ok u) =
      subst (λ (o : Result Target Refusal). TargetIs g.p.now role.View (site_here h) v o) k.is asked.1 in
      record {
        left = it.left;
        emitted = subst (λ (c : Emitter). Emitted (Value g.p.now n scratch h sc true (expr pl (node.View v e))) w0.out c) (sym it.out)
            (view_so g.p.now n scratch h sc pl v e (atom_of a) code.cls w0.out w2.out seen.mid.out d.emitted
            (record { given = u.atom; masks = u.masks; resolved = means; is = ap atom_of one.same }) code.code adds);
        kind = it.last ∙ ap (λ (y : Typed). kind_of_type y.ty) (sym gave.typed);
      };
}
