-- Prefix operators and chains of operators: each step of the walk, and what it does.
use Rattle.std.proofs.Common.{◌≡◌, List, [], ◌∷◌, ◌++◌, length, Bool, true, refl, sym, ap, ◌∙◌, subst, append_assoc}
use Rattle.std.specs.Prelude.{Ok, Result, Option, Some, None}
use Rattle.jn_base.specs.declared.tree.Place.{Place}
use Rattle.jn_base.specs.declared.tree.Level.{Level}
use Rattle.jn_base.specs.declared.tree.Op.{Op}
use Rattle.jn_base.specs.declared.tree.Op.TheVariants as op
use Rattle.jn_base.specs.declared.tree.Expr.{Expr}
use Rattle.jn_base.specs.declared.tree.Link.{Link}
use Rattle.jn_base.specs.declared.tree.Node.TheVariants as node
use Rattle.jn_base.specs.declared.types.Ty.{Ty}
use Rattle.jn_base.specs.declared.types.Ty.TheVariants as ty
use Rattle.jn_base.specs.declared.types.ValKind.{ValKind}
use Rattle.jn_base.specs.declared.types.ValKind.TheVariants as kind
use Rattle.jn_base.specs.declared.tree.Program.{Program}
use Rattle.jn_base.specs.declared.refusal.Refusal.{Refusal}
use Rattle.jn_base.specs.Parts.{expr}
use Rattle.jn_code.specs.declared.instr.Instr.{Instr}
use Rattle.jn_code.specs.declared.instr.Instr.TheVariants as ins
use Rattle.jn_rules.specs.Plans.{Mark, KindMark, Plan, then_do, wants}
use Rattle.jn_rules.specs.Questions.{Gives, Notes}
use Rattle.jn_rules.specs.Exprs.{Here, Typed, plain, mismatch, is_bool, is_int, takes, takes_both, operator_type, kind_of, gives, expr_types, links_typed}
use Rattle.jn_rules.specs.Forms.{typed_links}
use Rattle.jn_rules.proofs.FormLaws.{forms_are}
use Rattle.jn_rules.proofs.PlanLaws.{then_noted, notes_give, plan_one}
use Rattle.jn_agree.specs.Naming.{Naming}
use Rattle.jn_agree.specs.Rows.{kind_of_type}
use Rattle.jn_agree.specs.Places.{operator, Strict, add, sub, mul, div, rem, lt, le, gt, ge, eq, ne, IsDecide, both, either}
use Rattle.jn_places.specs.ExprPlaces.{LinksAt, no_links}
use Rattle.jn_lower.specs.declared.emitter.Emitter.{Emitter}
use Rattle.jn_lower.specs.declared.walk.Parts.{Parts}
use Rattle.jn_lower.specs.declared.walk.Walk.{Walk}
use Rattle.jn_lower.specs.Cursors.{Ahead}
use Rattle.jn_lower.specs.Placed.{Nothing}
use Rattle.jn_lower.specs.Emitted.{Emitted}
use Rattle.jn_lower.specs.Forms.{Value}
use Rattle.jn_lower.specs.Straight.{deciding_of}
use Rattle.jn_lower.specs.Composed.{Links, LinksBehind}
use Rattle.jn_lower.specs.Lowering.{PartsAre}
use Rattle.jn_lower.specs.Walks.{Had, Pushed, Decided, LowersValue, LowersNode, LowersLinks, LowersLink}
use Rattle.jn_lower.proofs.Growing.{none, means}
use Rattle.jn_lower.proofs.Composing.{not_so, neg_so, chain_so, strict_so, deciding_so}
use Rattle.jn_lower.proofs.Noting.{wants_noted, gives_noted, kinds_agree}
use Rattle.jn_lower.proofs.Taking.{had_ahead, ready_locals, ready_typed}

typed_same : {x y : Typed} → ◌≡◌ {A = Result Typed Refusal} (Ok x) (Ok y) → x ≡ y
typed_same e = cc

-- whatever the rules give to it is what the marks tell
pub is_it : (g : Parts) (n : Naming) → PartsAre g.p.now g.t.now g.slots.now g.names.now n → (x : Plan Typed) (ms : List Mark)
    (y z : Typed) → Notes g.p.now x ms y → Gives g.p.now x (Ok z) → y ≡ z
is_it g n parts x ms y z noted gives =
    typed_same (plan_one parts.one x (Ok y) (Ok z) (notes_give g.p.now x ms y noted) gives)

-- marks in front of others
pub regroup : (ms a b rest : List Mark) → ms ≡ a ++ b → ms ++ rest ≡ a ++ (b ++ rest)
regroup ms a b rest e = ap (λ (l : List Mark). l ++ rest) e ∙ append_assoc a b rest

pub last_one : (ms a b rest : List Mark) (k : ValKind) → ms ≡ a ++ b → b ≡ KindMark k ∷ []
    → ms ++ rest ≡ a ++ (KindMark k ∷ rest)
last_one ms a b rest k e f = regroup ms a b rest e ∙ ap (λ (l : List Mark). a ++ (l ++ rest)) f

-- ---- `!` and `-`

pub inverted : (g : Parts) (e : Expr) (w0 w1 w2 w3 : Walk) → LowersValue g e w0 w1 → Pushed (ins.Not ∷ []) w1 w2
    → Had w2 w3 → LowersNode g (node.Not e) w0 w3
inverted g e w0 w1 w2 w3 first pushed had pl n scratch h sc parts = record {
  done = λ ms rest z ready noted ahead.
      let x = then_noted (expr_types h e sc) (λ x. wants (is_bool x.ty) (mismatch h e.at) (gives (plain ty.Bool x.scope)))
      ms z (subst (λ q. Notes g.p.now q ms z) ((forms_are.exprs h pl sc).invert e) noted) in
      let t = wants_noted (is_bool x.first.ty) (mismatch h e.at) (gives (plain ty.Bool x.first.scope)) x.after z x.then in
      let gave = gives_noted g.p.now kind.Bool (plain ty.Bool x.first.scope) z x.after refl t.then in
      let d = (first n scratch h sc parts).done x.before (KindMark kind.Bool ∷ rest) x.first ready x.noted
      (subst (λ (l : List Mark). Ahead l w0.marks) (last_one ms x.before x.after rest kind.Bool x.all gave.marks) ahead) in
      let it = had_ahead kind.Bool rest w2 w3 had (subst (Ahead (KindMark kind.Bool ∷ rest)) (sym pushed.marks) d.left) in
      record {
        left = it.left;
        emitted = subst (λ (c : Emitter). Emitted (Value g.p.now n scratch h sc true (expr pl (node.Not e))) w0.out c) (sym it.out)
            (not_so g.p.now n scratch h sc pl e w0.out w1.out w2.out d.emitted pushed.adds);
        kind = it.last ∙ ap (λ (t : Typed). kind_of_type t.ty) (sym gave.typed);
      };
}

pub negated : (g : Parts) (e : Expr) (w0 w1 w2 w3 : Walk) → LowersValue g e w0 w1 → Pushed (ins.Neg ∷ []) w1 w2
    → Had w2 w3 → LowersNode g (node.Neg e) w0 w3
negated g e w0 w1 w2 w3 first pushed had pl n scratch h sc parts = record {
  done = λ ms rest z ready noted ahead.
      let x = then_noted (expr_types h e sc) (λ x. wants (is_int x.ty) (mismatch h e.at) (gives (plain ty.Int x.scope)))
      ms z (subst (λ q. Notes g.p.now q ms z) ((forms_are.exprs h pl sc).negate e) noted) in
      let t = wants_noted (is_int x.first.ty) (mismatch h e.at) (gives (plain ty.Int x.first.scope)) x.after z x.then in
      let gave = gives_noted g.p.now kind.Int (plain ty.Int x.first.scope) z x.after refl t.then in
      let d = (first n scratch h sc parts).done x.before (KindMark kind.Int ∷ rest) x.first ready x.noted
      (subst (λ (l : List Mark). Ahead l w0.marks) (last_one ms x.before x.after rest kind.Int x.all gave.marks) ahead) in
      let it = had_ahead kind.Int rest w2 w3 had (subst (Ahead (KindMark kind.Int ∷ rest)) (sym pushed.marks) d.left) in
      record {
        left = it.left;
        emitted = subst (λ (c : Emitter). Emitted (Value g.p.now n scratch h sc true (expr pl (node.Neg e))) w0.out c) (sym it.out)
            (neg_so g.p.now n scratch h sc pl e w0.out w1.out w2.out d.emitted pushed.adds);
        kind = it.last ∙ ap (λ (t : Typed). kind_of_type t.ty) (sym gave.typed);
      };
}

-- ---- chains

pub chained : (g : Parts) (level : Level) (e : Expr) (ls : List Link) (w0 w1 w2 : Walk) → LowersValue g e w0 w1
    → LowersLinks g ls w1 w2 → LowersNode g (node.Chain level e ls) w0 w2
chained g level e ls w0 w1 w2 first links pl n scratch h sc parts = record {
  done = λ ms rest z ready noted ahead.
      let x = then_noted (expr_types h e sc) (λ x. links_typed h e.at x (typed_links h ls)) ms z
      (subst (λ q. Notes g.p.now q ms z) ((forms_are.exprs h pl sc).chain level e ls) noted) in
      let d = (first n scratch h sc parts).done x.before (x.after ++ rest) x.first ready x.noted
      (subst (λ (l : List Mark). Ahead l w0.marks) (regroup ms x.before x.after rest x.all) ahead) in
      let f = (links n scratch h parts).done e.at x.first z x.after rest
      (ready_typed g.p.now scratch h sc e x.before x.first w0 w1 x.noted d.emitted.grown ready) d.kind x.then d.left in
      record {
        left = f.left;
        emitted = chain_so g.p.now n scratch h sc pl level e ls w0.out w1.out w2.out d.emitted
            (means (Links g.p.now n scratch h x.first ls) (LinksBehind g.p.now n scratch h sc e ls) w1.out w2.out
            (λ c s t r y gives. subst (λ (v : Typed). LinksAt g.p.now n scratch c h v ls s t)
            (is_it g n parts (expr_types h e sc) x.before x.first y x.noted gives) r) f.emitted);
        kind = f.kind;
      };
}

pub no_links_done : (g : Parts) (w : Walk) → LowersLinks g [] w w
no_links_done g w n scratch h parts = record {
  done = λ at x z ms rest ready last noted ahead. record {
    left = subst (λ (l : List Mark). Ahead (l ++ rest) w.marks) noted.0 ahead;
    emitted = means Nothing (Links g.p.now n scratch h x []) w.out w.out (λ c s t r. no_links x s t r) (none w.out);
    kind = last ∙ ap (λ (t : Typed). kind_of_type t.ty) (sym noted.1);
  };
}

-- ---- operators that evaluate both operands

op_kind : (o : Op) → (k : ValKind) × (kind_of (operator_type o) ≡ Some k)
op_kind op.Or = (kind.Bool, refl)
op_kind op.And = (kind.Bool, refl)
op_kind op.Eq = (kind.Bool, refl)
op_kind op.Ne = (kind.Bool, refl)
op_kind op.Lt = (kind.Bool, refl)
op_kind op.Le = (kind.Bool, refl)
op_kind op.Gt = (kind.Bool, refl)
op_kind op.Ge = (kind.Bool, refl)
op_kind op.Add = (kind.Int, refl)
op_kind op.Sub = (kind.Int, refl)
op_kind op.Mul = (kind.Int, refl)
op_kind op.Div = (kind.Int, refl)
op_kind op.Rem = (kind.Int, refl)

-- the right operand of a link, and what is asked behind it
record Linked (p : Program) (h : Here) (at : Place) (x z : Typed) (l : Link) (ls : List Link) (ms : List Mark)
    : Type 0 where
  right : Typed
  before : List Mark
  after : List Mark
  kind : ValKind
  is_kind : kind_of (operator_type l.op) ≡ Some kind
  noted : Notes p (expr_types h l.right x.scope) before right
  behind : Notes p (links_typed h at (plain (operator_type l.op) right.scope) (typed_links h ls)) after z
  all : (rest : List Mark) → ms ++ rest ≡ before ++ (KindMark kind ∷ (after ++ rest))

linked : (p : Program) (h : Here) (at : Place) (x z : Typed) (l : Link) (ls : List Link) (ms : List Mark)
    → Notes p (links_typed h at x (typed_links h (l ∷ ls))) ms z → Linked p h at x z l ls ms
linked p h at x z l ls ms noted =
    let a = wants_noted (takes l.op x.ty) (mismatch h at) (then_do (expr_types h l.right x.scope) (λ y. tested y)) ms z noted in
    let b = then_noted (expr_types h l.right x.scope) (λ y. tested y) ms z a.then in
    let c = wants_noted (takes l.op b.first.ty) (mismatch h l.right.at) (compared b.first) b.after z b.then in
    let d = wants_noted (takes_both l.op x.ty b.first.ty) (mismatch h l.at) (given b.first) b.after z c.then in
    let f = then_noted (gives (plain (operator_type l.op) b.first.scope)) (λ u. links_typed h at u (typed_links h ls))
    b.after z d.then in
    let k = op_kind l.op in
    let gave = gives_noted p k.0 (plain (operator_type l.op) b.first.scope) f.first f.before k.1 f.noted in
    record {
      right = b.first;
      before = b.before;
      after = f.after;
      kind = k.0;
      is_kind = k.1;
      noted = b.noted;
      behind = subst (λ (v : Typed). Notes p (links_typed h at v (typed_links h ls)) f.after z) gave.typed f.then;
      all = λ rest. regroup ms b.before b.after rest b.all
          ∙ ap (λ (l : List Mark). b.before ++ l)
          (regroup b.after f.before f.after rest f.all ∙ ap (λ (l : List Mark). l ++ (f.after ++ rest)) gave.marks);
    }
  where
    given : Typed → Plan Typed
    given y = then_do (gives (plain (operator_type l.op) y.scope)) (λ u. links_typed h at u (typed_links h ls))

    compared : Typed → Plan Typed
    compared y = wants (takes_both l.op x.ty y.ty) (mismatch h l.at) (given y)

    tested : Typed → Plan Typed
    tested y = wants (takes l.op y.ty) (mismatch h l.right.at) (compared y)

pub strict_link : (g : Parts) (l : Link) (w0 w1 w2 w3 : Walk) → Strict l.op → LowersValue g l.right w0 w1
    → Pushed (operator l.op w1.last) w1 w2 → Had w2 w3 → LowersLink g l w0 w3
strict_link g l w0 w1 w2 w3 strict right pushed had ls new behind n scratch h parts = record {
  done = λ at x z ms rest ready last noted ahead.
      let y = linked g.p.now h at x z l ls ms noted in
      let d = (right n scratch h x.scope parts).done y.before (KindMark y.kind ∷ (y.after ++ rest)) y.right ready y.noted
      (subst (λ (l : List Mark). Ahead l w0.marks) (y.all rest) ahead) in
      let it = had_ahead y.kind (y.after ++ rest) w2 w3 had
      (subst (Ahead (KindMark y.kind ∷ (y.after ++ rest))) (sym pushed.marks) d.left) in
      let ready1 = ready_typed g.p.now scratch h x.scope l.right y.before y.right w0 w1 y.noted d.emitted.grown ready in
      let locals = ap (λ (o : Emitter). o.locals) it.out ∙ pushed.adds.locals in
      let f = (behind n scratch h parts).done at (plain (operator_type l.op) y.right.scope) z y.after rest
      (ready_locals scratch h y.right.scope w1 w3 locals ready1) (it.last ∙ kinds_agree (operator_type l.op) y.kind y.is_kind) y.behind it.left in
      record {
        left = f.left;
        emitted = strict_so g.p.now n scratch h x l ls w1.last w0.out w1.out w2.out new.out strict d.emitted
            (λ v gives. d.kind ∙ ap (λ (t : Typed). kind_of_type t.ty)
            (is_it g n parts (expr_types h l.right x.scope) y.before y.right v y.noted gives))
            pushed.adds
            (means (Links g.p.now n scratch h (plain (operator_type l.op) y.right.scope) ls)
            (λ c s t. (v : Typed) → Gives g.p.now (expr_types h l.right x.scope) (Ok v)
            → LinksAt g.p.now n scratch c h (plain (operator_type l.op) v.scope) ls s t) w2.out new.out
            (λ c s t r v gives. subst (λ (u : Typed). LinksAt g.p.now n scratch c h (plain (operator_type l.op) u.scope) ls s t)
            (is_it g n parts (expr_types h l.right x.scope) y.before y.right v y.noted gives) r)
            (subst (λ (c : Emitter). Emitted (Links g.p.now n scratch h (plain (operator_type l.op) y.right.scope) ls) c new.out)
            it.out f.emitted));
        kind = f.kind;
      };
}

-- ---- `&&` and `||`

bool_op : (o : Op) (and : Bool) → IsDecide o and → operator_type o ≡ ty.Bool
bool_op _ _ both = refl
bool_op _ _ either = refl

pub deciding_link : (g : Parts) (l : Link) (and : Bool) (i : Instr) (w0 w1 w2 w3 : Walk) → IsDecide l.op and
    → Pushed (i ∷ []) w0 w1 → LowersValue g l.right w1 w2 → Decided and (length w0.out.instrs) w2 w3
    → LowersLink g l w0 w3
deciding_link g l and i w0 w1 w2 w3 decides pushed right dec ls new behind n scratch h parts = record {
  done = λ at x z ms rest ready last noted ahead.
      let y = linked g.p.now h at x z l ls ms noted in
      let ready1 = ready_locals scratch h x.scope w0 w1 pushed.adds.locals ready in
      let d = (right n scratch h x.scope parts).done y.before (KindMark y.kind ∷ (y.after ++ rest)) y.right ready1 y.noted
      (subst (Ahead (y.before ++ (KindMark y.kind ∷ (y.after ++ rest)))) (sym pushed.marks)
      (subst (λ (l : List Mark). Ahead l w0.marks) (y.all rest) ahead)) in
      let it = had_ahead y.kind (y.after ++ rest) (record { out = dec.c4; marks = w2.marks; last = w2.last }) w3 dec.had d.left in
      let ready2 = ready_typed g.p.now scratch h x.scope l.right y.before y.right w1 w2 y.noted d.emitted.grown ready1 in
      let locals = ap (λ (o : Emitter). o.locals) it.out ∙ dec.behind.locals ∙ dec.past.locals ∙ dec.decides.locals ∙ dec.jumps.locals in
      let f = (behind n scratch h parts).done at (plain (operator_type l.op) y.right.scope) z y.after rest
      (ready_locals scratch h y.right.scope w2 w3 locals ready2) (it.last ∙ kinds_agree (operator_type l.op) y.kind y.is_kind) y.behind it.left in
      record {
        left = f.left;
        emitted = deciding_so g.p.now n scratch h x l ls and i dec.jump w0.out w1.out w2.out dec.c1 dec.c2 dec.c3 dec.c4 new.out
            decides pushed.adds d.emitted dec.jumps dec.decides dec.past dec.behind
            (means (Links g.p.now n scratch h (plain (operator_type l.op) y.right.scope) ls)
            (λ c s t. (v : Typed) → Gives g.p.now (expr_types h l.right x.scope) (Ok v)
            → LinksAt g.p.now n scratch c h (plain ty.Bool v.scope) ls s t) dec.c4 new.out
            (λ c s t r v gives. subst (λ (u : Typed). LinksAt g.p.now n scratch c h (plain ty.Bool u.scope) ls s t)
            (is_it g n parts (expr_types h l.right x.scope) y.before y.right v y.noted gives)
            (subst (λ (k : Ty). LinksAt g.p.now n scratch c h (plain k y.right.scope) ls s t) (bool_op l.op and decides) r))
            (subst (λ (c : Emitter). Emitted (Links g.p.now n scratch h (plain (operator_type l.op) y.right.scope) ls) c new.out)
            it.out f.emitted));
        kind = f.kind;
      };
}

some_none : {b : Bool} → ◌≡◌ {A = Option Bool} (Some b) None → ⊥
some_none e = cc

none_some : {b : Bool} → ◌≡◌ {A = Option Bool} None (Some b) → ⊥
none_some e = cc

one_some : {a b : Bool} → ◌≡◌ {A = Option Bool} (Some a) (Some b) → a ≡ b
one_some e = cc

-- which of the two forms an operator has
pub strict_of : (o : Op) → deciding_of o ≡ None → Strict o
strict_of op.Or e = absurd (some_none e)
strict_of op.And e = absurd (some_none e)
strict_of op.Eq e = eq
strict_of op.Ne e = ne
strict_of op.Lt e = lt
strict_of op.Le e = le
strict_of op.Gt e = gt
strict_of op.Ge e = ge
strict_of op.Add e = add
strict_of op.Sub e = sub
strict_of op.Mul e = mul
strict_of op.Div e = div
strict_of op.Rem e = rem

pub decide_of : (o : Op) (and : Bool) → deciding_of o ≡ Some and → IsDecide o and
decide_of op.Or and e = subst (IsDecide op.Or) (one_some e) either
decide_of op.And and e = subst (IsDecide op.And) (one_some e) both
decide_of op.Eq and e = absurd (none_some e)
decide_of op.Ne and e = absurd (none_some e)
decide_of op.Lt and e = absurd (none_some e)
decide_of op.Le and e = absurd (none_some e)
decide_of op.Gt and e = absurd (none_some e)
decide_of op.Ge and e = absurd (none_some e)
decide_of op.Add and e = absurd (none_some e)
decide_of op.Sub and e = absurd (none_some e)
decide_of op.Mul and e = absurd (none_some e)
decide_of op.Div and e = absurd (none_some e)
decide_of op.Rem and e = absurd (none_some e)
