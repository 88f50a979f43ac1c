-- Forms without parts: what was emitted stands, and the kind is taken behind it.
use Rattle.std.proofs.Common.{◌≡◌, ℕ, ℤ, List, [], ◌∷◌, ◌++◌, Bool, true, false, Option, Some, None, refl, sym, ap, ◌∙◌, subst, find, reverse}
use Rattle.std.specs.Prelude.{cond, nat_eq, ◌&&◌}
use Rattle.jn_base.specs.declared.tree.Name.{Name}
use Rattle.jn_base.specs.declared.tree.Place.{Place}
use Rattle.jn_base.specs.declared.tree.Expr.{Expr, roll-out-Expr}
use Rattle.jn_base.specs.declared.tree.Node.{Node}
use Rattle.jn_base.specs.declared.tree.Node.TheVariants as node
use Rattle.jn_base.specs.declared.types.Atom.{Atom as ShownAtom}
use Rattle.jn_base.specs.declared.types.Masks.{Masks}
use Rattle.jn_base.specs.declared.types.Ty.TheVariants as ty
use Rattle.jn_base.specs.declared.types.ValKind.{ValKind}
use Rattle.jn_base.specs.declared.types.ValKind.TheVariants as kind
use Rattle.jn_base.specs.declared.names.Var.{Var}
use Rattle.jn_base.specs.Parts.{expr}
use Rattle.jn_base.specs.Atoms.{Among, first, later}
use Rattle.jn_base.specs.Scopes.{Scope}
use Rattle.jn_base.specs.Resolve.{is_class, newest, var_named}
use Rattle.jn_laws.proofs.Terms.{reverse_among}
use Rattle.jn_code.specs.declared.instr.Instr.TheVariants as ins
use Rattle.jn_rules.specs.Plans.{Mark, VarMark, KindMark}
use Rattle.jn_rules.specs.Questions.{Notes}
use Rattle.jn_rules.specs.Exprs.{Here, Typed, plain, of_path, kind_of, gives, var_typed, var_gives, expr_types}
use Rattle.jn_rules.proofs.FormLaws.{forms_are}
use Rattle.jn_agree.specs.Places as places
use Rattle.jn_agree.specs.Rows.{kind_of_type}
use Rattle.jn_lower.specs.declared.cursor.Marks.{Marks}
use Rattle.jn_lower.specs.declared.emitter.Emitter.{Emitter}
use Rattle.jn_lower.specs.declared.walk.Parts.{Parts}
use Rattle.jn_lower.specs.declared.walk.Walk.{Walk}
use Rattle.jn_lower.specs.Cursors.{Ahead, VarTaken, KindTaken}
use Rattle.jn_lower.specs.Emitted.{Emitted}
use Rattle.jn_lower.specs.Forms.{Value, StandsAsValue, StandsAsVar}
use Rattle.jn_lower.specs.Walks.{Had, Pushed, ReadyIn, Done, LowersAs, LowersNodeAs, LowersNode}
use Rattle.jn_lower.proofs.Growing.{added}
use Rattle.jn_lower.proofs.OneInstr.{number_so}
use Rattle.jn_lower.proofs.Noting.{gives_noted, kinds_agree, valued}
use Rattle.jn_lower.proofs.Taking.{had_ahead, var_ahead}

-- with what was emitted
abbrev pub emitting : Walk → Emitter → Walk
emitting w o = record { out = o; marks = w.marks; last = w.last }

-- a form whose typing gives one thing
leaf_so : (g : Parts) (x : Node) (k : ValKind) (y : Here → Scope → Typed) (w0 : Walk) (o : Emitter) (w1 : Walk)
    → ((h : Here) (pl : Place) (sc : Scope) → expr_types h (expr pl x) sc ≡ gives (y h sc))
    → ((h : Here) (sc : Scope) → kind_of (y h sc).ty ≡ Some k) → StandsAsValue x w0.out o → Had (emitting w0 o) w1
    → LowersNode g x w0 w1
leaf_so g x k y w0 o w1 types kinds stands had pl n scratch h sc parts = record {
  done = λ ms rest z ready noted ahead.
      let gave = gives_noted g.p.now k (y h sc) z ms (kinds h sc) (subst (λ q. Notes g.p.now q ms z) (types h pl sc) noted) in
      let it = had_ahead k rest (emitting w0 o) w1 had (subst (λ (l : List Mark). Ahead (l ++ rest) w0.marks) gave.marks ahead) in
      record {
        left = it.left;
        emitted = subst (λ (c : Emitter). Emitted (Value g.p.now n scratch h sc true (expr pl x)) w0.out c) (sym it.out)
            (stands g.p.now n scratch h sc pl);
        kind = it.last ∙ kinds_agree (y h sc).ty k (kinds h sc) ∙ ap (λ (t : Typed). kind_of_type t.ty) (sym gave.typed);
      };
}

pub number_done : (g : Parts) (z : ℤ) (w0 : Walk) (o : Emitter) (w1 : Walk) → StandsAsValue (node.Int z) w0.out o
    → Had (emitting w0 o) w1 → LowersNode g (node.Int z) w0 w1
number_done g z w0 o w1 stands had =
    leaf_so g (node.Int z) kind.Int (λ h sc. plain ty.Int sc) w0 o w1 (λ h pl sc. (forms_are.exprs h pl sc).number z)
    (λ h sc. refl) stands had

-- behind INT
pub number_pushed : (g : Parts) (z : ℤ) (w0 w1 w2 : Walk) → Pushed (ins.Int z ∷ []) w0 w1 → Had w1 w2
    → LowersNode g (node.Int z) w0 w2
number_pushed g z w0 w1 w2 pushed had =
    number_done g z w0 w1.out w2 (number_so w0.out w1.out z (added (ins.Int z ∷ []) w0.out w1.out pushed.adds))
    (record {
      kind = had.kind;
      taken = subst (λ (m : Marks). KindTaken had.kind m w2.marks) pushed.marks had.taken;
      last = had.last;
      out = had.out;
    })

pub truth_done : (g : Parts) (b : Bool) (w0 : Walk) (o : Emitter) (w1 : Walk) → StandsAsValue (node.Bool b) w0.out o
    → Had (emitting w0 o) w1 → LowersNode g (node.Bool b) w0 w1
truth_done g b w0 o w1 stands had =
    leaf_so g (node.Bool b) kind.Bool (λ h sc. plain ty.Bool sc) w0 o w1 (λ h pl sc. (forms_are.exprs h pl sc).truth b)
    (λ h sc. refl) stands had

pub null_done : (g : Parts) (w0 : Walk) (o : Emitter) (w1 : Walk) → StandsAsValue node.Null w0.out o
    → Had (emitting w0 o) w1 → LowersNode g node.Null w0 w1
null_done g w0 o w1 stands had =
    leaf_so g node.Null kind.Reference (λ h sc. plain ty.Null sc) w0 o w1 (λ h pl sc. (forms_are.exprs h pl sc).null)
    (λ h sc. refl) stands had

pub this_done : (g : Parts) (w0 : Walk) (o : Emitter) (w1 : Walk) → StandsAsValue node.This w0.out o
    → Had (emitting w0 o) w1 → LowersNode g node.This w0 w1
this_done g w0 o w1 stands had =
    leaf_so g node.This kind.Reference (λ h sc. of_path 0 sc) w0 o w1 (λ h pl sc. (forms_are.exprs h pl sc).this)
    (λ h sc. refl) stands had

-- ---- variables

newest_among : (vs : List Var) (x : Name) (v : Var) → newest vs x ≡ Some v → Among vs v
newest_among [] x v e = absurd (no e) where
  no : ◌≡◌ {A = Option Var} None (Some v) → ⊥
  no e = cc
newest_among (w ∷ vs) x v e = at (nat_eq w.name.0 x.0) e (newest_among vs x v) where
  same : Some w ≡ Some v → w ≡ v
  same e = cc

  at : (b : Bool) → cond b (Some w) (newest vs x) ≡ Some v → (newest vs x ≡ Some v → Among vs v) → Among (w ∷ vs) v
  at true e again = subst (Among (w ∷ vs)) (same e) first
  at false e again = later (again e)

pub named_among : (vs : List Var) (x : Name) (v : Var) → var_named (record { list = vs }) x ≡ Some v → Among vs v
named_among vs x v e = reverse_among vs v (newest_among (reverse vs) x v e)

found_same : (vs : List Var) (x : Name) → newest vs x ≡ find (λ (y : Var). nat_eq y.name.0 x.0) vs
found_same [] x = refl
found_same (v ∷ vs) x = ap (λ (o : Option Var). cond (nat_eq v.name.0 x.0) (Some v) o) (found_same vs x)

pub newest_named : (vs : List Var) (x : Name) (v : Var) → var_named (record { list = vs }) x ≡ Some v
    → places.newest vs x ≡ Some v
newest_named vs x v e = sym (found_same (reverse vs) x) ∙ e

var_valued : (v : Var) (sc : Scope) → (v.ty ≡ ty.Void → ⊥) → (var_typed v sc).ty ≡ ty.Void → ⊥
var_valued v sc f e = at (v.fixed && is_class v.ty) e where
  no_void : (xs : List ShownAtom) (m : Masks) → ty.Class xs m ≡ ty.Void → ⊥
  no_void xs m e = cc

  at : (b : Bool) → (cond b (of_path v.path sc) (plain v.ty sc)).ty ≡ ty.Void → ⊥
  at true e = no_void _ _ e
  at false e = f e

-- the kind of its value is that of its type
pub var_done : (g : Parts) (x : Name) (q : ℕ) (w0 : Walk) (m : Marks) (o : Emitter) (w1 : Walk)
    → VarTaken q w0.marks m → StandsAsVar q w0.out o → Had (record { out = o; marks = m; last = w0.last }) w1
    → LowersNode g (node.Var x) w0 w1
var_done g x q w0 m o w1 took stands had pl n scratch h sc parts = record {
  done = λ ms rest z ready noted ahead.
      at ms rest z ready ahead (var_named (record { list = h.vars }) x) refl
      (subst (λ y. Notes g.p.now y ms z) ((forms_are.exprs h pl sc).var x) noted);
}
  where
    at : (ms rest : List Mark) (z : Typed) → ReadyIn g scratch h sc w0 → Ahead (ms ++ rest) w0.marks
        → (found : Option Var) → var_named (record { list = h.vars }) x ≡ found
        → Notes g.p.now (var_gives h pl x sc found) ms z
        → Done (Value g.p.now n scratch h sc true (expr pl (node.Var x))) rest z.ty w0 w1
    at ms rest z ready ahead None e noted = absurd noted
    at ms rest z ready ahead (Some v) e noted =
        let among = named_among h.vars x v e in
        let kind = valued (var_typed v sc).ty (var_valued v sc (ready.valued v among)) in
        let gave = gives_noted g.p.now kind.0 (var_typed v sc) z noted.0 kind.1 noted.2 in
        let marks = noted.1 ∙ ap (λ (l : List Mark). VarMark v.path ∷ l) gave.marks in
        let one = var_ahead q v.path (KindMark kind.0 ∷ rest) w0.marks m took
        (subst (λ (l : List Mark). Ahead (l ++ rest) w0.marks) marks ahead) in
        let it = had_ahead kind.0 rest (record { out = o; marks = m; last = w0.last }) w1 had one.left in
        record {
          left = it.left;
          emitted = subst (λ (c : Emitter). Emitted (Value g.p.now n scratch h sc true (expr pl (node.Var x))) w0.out c)
              (sym it.out) (stands g.p.now n scratch h sc pl x v (newest_named h.vars x v e) (sym one.same));
          kind = it.last ∙ kinds_agree (var_typed v sc).ty kind.0 kind.1 ∙ ap (λ (t : Typed). kind_of_type t.ty) (sym gave.typed);
        }

-- ---- an expression is its node at its place

pub at_place : (g : Parts) (keeps : Bool) (e : Expr) (w0 w1 : Walk) → LowersNodeAs g keeps e.node w0 w1
    → LowersAs g keeps e w0 w1
at_place g keeps e w0 w1 so = subst (λ (x : Expr). LowersAs g keeps x w0 w1) (roll-out-Expr e) (so e.at)
