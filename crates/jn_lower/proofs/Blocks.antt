-- Statements: each step of the walk, and what it does.
use Rattle.std.proofs.Common.{◌≡◌, ℕ, List, [], ◌∷◌, ◌++◌, length, map, refl, sym, ap, ◌∙◌, subst, append-nil}
use Rattle.std.specs.Prelude.{Ok, Result, Some, None, not, ◌||◌}
use Rattle.jn_base.specs.declared.tree.Place.{Place}
use Rattle.jn_base.specs.declared.tree.Expr.{Expr}
use Rattle.jn_base.specs.declared.tree.Stmt.{Stmt}
use Rattle.jn_base.specs.declared.tree.Stmt.TheVariants as stmt
use Rattle.jn_base.specs.declared.tree.Program.{Program}
use Rattle.jn_base.specs.declared.names.Var.{Var}
use Rattle.jn_base.specs.declared.types.Ty.{Ty}
use Rattle.jn_base.specs.declared.types.Ty.TheVariants as ty
use Rattle.jn_base.specs.declared.refusal.Refusal.{Refusal}
use Rattle.jn_base.specs.Scopes.{Scope}
use Rattle.jn_code.specs.declared.instr.Instr.{Instr}
use Rattle.jn_code.specs.declared.instr.Instr.TheVariants as ins
use Rattle.jn_rules.specs.Plans.{Mark, Plan, IsBelow, done, ask, then_do, wants}
use Rattle.jn_rules.specs.Questions.{Gives, Notes}
use Rattle.jn_rules.specs.Exprs.{Typed, mismatch, is_bool, is_int}
use Rattle.jn_rules.specs.Stmts.{In, Before, here, typed, out_of, block_typed, choice_typed, loop_typed, joined, is_void, stmt_types, stmts_type, run_through}
use Rattle.jn_rules.proofs.FormLaws.{forms_are}
use Rattle.jn_rules.proofs.PlanLaws.{then_noted, notes_give, plan_one}
use Rattle.jn_agree.specs.Naming.{Naming}
use Rattle.jn_agree.specs.Rows.{kind_of_type}
use Rattle.jn_places.specs.StmtPlaces.{StmtsAt, printing, numbered_from}
use Rattle.jn_lower.specs.declared.emitter.Emitter.{Emitter}
use Rattle.jn_lower.specs.declared.walk.Parts.{Parts}
use Rattle.jn_lower.specs.declared.walk.Walk.{Walk}
use Rattle.jn_lower.specs.declared.walk_stmts.Jump.{Jump}
use Rattle.jn_lower.specs.Cursors.{Ahead}
use Rattle.jn_lower.specs.Emitted.{Emitted, Patched}
use Rattle.jn_lower.specs.Composed.{Stmts, StmtsBehind}
use Rattle.jn_lower.specs.Lowering.{PartsAre}
use Rattle.jn_lower.specs.Walks.{printed_by, Pushed, Tested, Jumped, JoinedAt, Joined, Repeated, Ready, ReadyIn, LowersValue, LowersEffect, Sees, LowersSeen, LowersStmts, LowersBlock, LowersStmt, LowersPlain}
use Rattle.jn_lower.proofs.Growing.{means}
use Rattle.jn_lower.proofs.Composing.{if_so, while_so}
use Rattle.jn_lower.proofs.Statements.{none_so, block_so, do_so, return_so, end_so, print_so, text_so}
use Rattle.jn_lower.proofs.Noting.{wants_noted, joined_silent}
use Rattle.jn_rule_laws.proofs.Behind.{joined_apart, blocks_move}
use Rattle.jn_lower.proofs.Taking.{ready_grown, ready_locals, ready_apart}
use Rattle.jn_lower.proofs.Chains.{is_it, regroup}

before_same : {x y : Before} → ◌≡◌ {A = Result Before Refusal} (Ok x) (Ok y) → x ≡ y
before_same e = cc

-- whatever the rules give to it is what the marks tell
pub is_that : (g : Parts) (n : Naming) → PartsAre g.p.now g.t.now g.slots.now g.names.now n → (x : Plan Before) (ms : List Mark)
    (y z : Before) → Notes g.p.now x ms y → Gives g.p.now x (Ok z) → y ≡ z
is_that g n parts x ms y z noted gives =
    before_same (plan_one parts.one x (Ok y) (Ok z) (notes_give g.p.now x ms y noted) gives)

-- what stands behind what the marks tell stands behind whatever the rules give
pub behind_it : (g : Parts) (n : Naming) (scratch : ℕ) (b : In) → PartsAre g.p.now g.t.now g.slots.now g.names.now n → (s : Stmt)
    (x y : Before) (ms : List Mark) → Notes g.p.now (stmt_types b s x) ms y → (ss : List Stmt) (old new : Emitter)
    → Emitted (Stmts g.p.now n scratch b y ss) old new → Emitted (StmtsBehind g.p.now n scratch b x s ss) old new
behind_it g n scratch b parts s x y ms noted ss old new e =
    means (Stmts g.p.now n scratch b y ss) (StmtsBehind g.p.now n scratch b x s ss) old new
    (λ c m t r z gives. subst (λ (v : Before). StmtsAt g.p.now n scratch c b v ss m t)
    (is_that g n parts (stmt_types b s x) ms y z noted gives) r) e

-- ---- one behind the other

-- an expression, where the variables are those that the parts see
pub seen_so : (g : Parts) (vs : List Var) (at : Parts) (e : Expr) (old new : Walk) → Sees g vs at → LowersValue at e old new
    → LowersSeen g vs e old new
seen_so g vs at e old new sees value n scratch h sc ms rest x parts ready noted ahead =
    (subst (λ (z : Parts). LowersValue z e old new) sees.is value n scratch h sc parts).done ms rest x
    (subst (λ (us : List Var). Ready g.class.now us scratch h sc old) (sym sees.vars) ready) noted ahead

-- a statement that changes no variable
pub plain_so : (g : Parts) (vs : List Var) (at : Parts) (s : Stmt) (old new : Walk) → Sees g vs at → LowersPlain at s old new
    → LowersStmt g s vs vs old new
plain_so g vs at s old new sees one =
    subst (λ (us : List Var). LowersStmt g s us us old new) sees.vars
    (subst (λ (z : Parts). LowersStmt z s at.vars.now at.vars.now old new) sees.is one)

pub no_stmts_done : (g : Parts) (vs : List Var) (w : Walk) → LowersStmts g [] vs vs w w
no_stmts_done g vs w n scratch b parts = record {
  done = λ x y ms rest ready noted ahead. record {
    left = subst (λ (l : List Mark). Ahead (l ++ rest) w.marks) noted.0 ahead;
    emitted = none_so g.p.now n scratch b x w.out;
    ready = subst (λ (v : Before). Ready g.class.now vs scratch (here b v) v.scope w) (sym noted.1) ready;
  };
}

pub more_done : (g : Parts) (s : Stmt) (ss : List Stmt) (us vs ws : List Var) (w0 w1 w2 : Walk)
    → LowersStmt g s us vs w0 w1 → LowersStmts g ss vs ws w1 w2 → LowersStmts g (s ∷ ss) us ws w0 w2
more_done g s ss us vs ws w0 w1 w2 one all n scratch b parts = record {
  done = λ x y ms rest ready noted ahead.
      let f = then_noted (stmt_types b s x) (stmts_type b ss) ms y
      (subst (λ (q : Plan Before). Notes g.p.now q ms y) ((forms_are.stmts b x).more s ss) noted) in
      let d = (one n scratch b parts).done x f.first f.before (f.after ++ rest) ready f.noted
      (subst (λ (l : List Mark). Ahead l w0.marks) (regroup ms f.before f.after rest f.all) ahead) in
      let e = (all n scratch b parts).done f.first y f.after rest d.ready f.then d.left in
      record { left = e.left; emitted = d.behind ss w2.out e.emitted; ready = e.ready };
}

-- ---- `return` and `print`

pub returned : (g : Parts) (e : Expr) (pl : Place) (w0 w1 w2 : Walk) → LowersValue g e w0 w1
    → Pushed (ins.Retv ∷ []) w1 w2 → LowersPlain g (stmt.Return (Some e) pl) w0 w2
returned g e pl w0 w1 w2 first pushed n scratch b parts = record {
  done = λ x y ms rest ready noted ahead.
      let asked = subst (λ (q : Plan Before). Notes g.p.now q ms y) ((forms_are.stmts b x).returns (Some e) pl) noted in
      let f = then_noted (typed b x e x.scope) (λ v. wants (not (is_void b.result)) (mismatch (here b x) pl) (below x v))
      ms y asked in
      let t = wants_noted (not (is_void b.result)) (mismatch (here b x) pl) (below x f.first) f.after y f.then in
      let u = wants_noted t.then.0 (mismatch (here b x) e.at) (done x) f.after y t.then.2 in
      let d = (first n scratch (here b x) x.scope parts).done f.before rest f.first ready f.noted
      (subst (λ (l : List Mark). Ahead l w0.marks) (regroup ms f.before f.after rest f.all ∙ ap (λ (l : List Mark). f.before ++ (l ++ rest)) u.then.0) ahead) in
      record {
        left = subst (Ahead rest) (sym pushed.marks) d.left;
        ready = subst (λ (v : Before). ReadyIn g scratch (here b v) v.scope w2) (sym u.then.1)
            (ready_locals scratch (here b x) x.scope w1 w2 pushed.adds.locals (ready_grown scratch (here b x) x.scope w0 w1 d.emitted.grown ready));
        behind = λ ss end all. return_so g.p.now n scratch b x e pl ss w0.out w1.out w2.out end d.emitted pushed.adds
            (behind_it g n scratch b parts (stmt.Return (Some e) pl) x y ms noted ss w2.out end all);
      };
}
  where
    below : Before → Typed → Plan Before
    below x v = ask (IsBelow v.scope v.ty b.result) (λ ok. wants ok (mismatch (here b x) e.at) (done x))

pub ended : (g : Parts) (pl : Place) (w0 w1 : Walk) → Pushed (ins.Ret ∷ []) w0 w1
    → LowersPlain g (stmt.Return None pl) w0 w1
ended g pl w0 w1 pushed n scratch b parts = record {
  done = λ x y ms rest ready noted ahead.
      let asked = subst (λ (q : Plan Before). Notes g.p.now q ms y) ((forms_are.stmts b x).returns None pl) noted in
      let u = wants_noted (is_void b.result) (mismatch (here b x) pl) (done x) ms y asked in
      record {
        left = subst (Ahead rest) (sym pushed.marks) (subst (λ (l : List Mark). Ahead (l ++ rest) w0.marks) u.then.0 ahead);
        ready = subst (λ (v : Before). ReadyIn g scratch (here b v) v.scope w1) (sym u.then.1)
            (ready_locals scratch (here b x) x.scope w0 w1 pushed.adds.locals ready);
        behind = λ ss end all. end_so g.p.now n scratch b x pl ss w0.out w1.out end pushed.adds
            (behind_it g n scratch b parts (stmt.Return None pl) x y ms noted ss w1.out end all);
      };
}

-- an expression whose value is dropped
pub effected : (g : Parts) (e : Expr) (w0 w1 : Walk) → LowersEffect g e w0 w1 → LowersPlain g (stmt.Do e) w0 w1
effected g e w0 w1 first n scratch b parts = record {
  done = λ x y ms rest ready noted ahead.
      let asked = subst (λ (q : Plan Before). Notes g.p.now q ms y) ((forms_are.stmts b x).call e) noted in
      let f = then_noted (typed b x e x.scope) (λ v. done x) ms y asked in
      let d = (first n scratch (here b x) x.scope parts).done f.before rest f.first ready f.noted
      (subst (λ (l : List Mark). Ahead l w0.marks) (regroup ms f.before f.after rest f.all ∙ ap (λ (l : List Mark). f.before ++ (l ++ rest)) f.then.0) ahead) in
      record {
        left = d.left;
        ready = subst (λ (v : Before). ReadyIn g scratch (here b v) v.scope w1) (sym f.then.1) (ready_grown scratch (here b x) x.scope w0 w1 d.emitted.grown ready);
        behind = λ ss end all. do_so g.p.now n scratch b x e ss w0.out w1.out end d.emitted
            (behind_it g n scratch b parts (stmt.Do e) x y ms noted ss w1.out end all);
      };
}

-- what prints a value of a kind is what prints one of its type
prints : (t : Ty) → printed_by (kind_of_type t) ≡ printing t
prints ty.Int = refl
prints ty.Bool = refl
prints ty.Null = refl
prints ty.Void = refl
prints (ty.Class xs m) = refl

pub printed : (g : Parts) (e : Expr) (pl : Place) (w0 w1 w2 : Walk) → LowersValue g e w0 w1
    → Pushed (printed_by w1.last ∷ []) w1 w2 → LowersPlain g (stmt.Print e pl) w0 w2
printed g e pl w0 w1 w2 first pushed n scratch b parts = record {
  done = λ x y ms rest ready noted ahead.
      let asked = subst (λ (q : Plan Before). Notes g.p.now q ms y) ((forms_are.stmts b x).prints e pl) noted in
      let f = then_noted (typed b x e x.scope)
      (λ v. wants (is_int v.ty || is_bool v.ty) (mismatch (here b x) e.at) (done x)) ms y asked in
      let u = wants_noted (is_int f.first.ty || is_bool f.first.ty) (mismatch (here b x) e.at) (done x) f.after y f.then in
      let d = (first n scratch (here b x) x.scope parts).done f.before rest f.first ready f.noted
      (subst (λ (l : List Mark). Ahead l w0.marks) (regroup ms f.before f.after rest f.all ∙ ap (λ (l : List Mark). f.before ++ (l ++ rest)) u.then.0) ahead) in
      record {
        left = subst (Ahead rest) (sym pushed.marks) d.left;
        ready = subst (λ (v : Before). ReadyIn g scratch (here b v) v.scope w2) (sym u.then.1)
            (ready_locals scratch (here b x) x.scope w1 w2 pushed.adds.locals (ready_grown scratch (here b x) x.scope w0 w1 d.emitted.grown ready));
        behind = λ ss end all. print_so g.p.now n scratch b x e pl (printed_by w1.last) ss w0.out w1.out w2.out end d.emitted
            (λ v gives. ap printed_by (d.kind ∙ ap (λ (t : Typed). kind_of_type t.ty)
            (is_it g n parts (typed b x e x.scope) f.before f.first v f.noted gives)) ∙ prints v.ty)
            pushed.adds (behind_it g n scratch b parts (stmt.Print e pl) x y ms noted ss w2.out end all);
      };
}

pub printed_text : (g : Parts) (k : ℕ) (pl : Place) (w0 w1 : Walk) → Pushed (ins.Printt k ∷ []) w0 w1
    → LowersPlain g (stmt.PrintText k pl) w0 w1
printed_text g k pl w0 w1 pushed n scratch b parts = record {
  done = λ x y ms rest ready noted ahead.
      let asked = subst (λ (q : Plan Before). Notes g.p.now q ms y) ((forms_are.stmts b x).prints_text k pl) noted in
      record {
        left = subst (Ahead rest) (sym pushed.marks) (subst (λ (l : List Mark). Ahead (l ++ rest) w0.marks) asked.0 ahead);
        ready = subst (λ (v : Before). ReadyIn g scratch (here b v) v.scope w1) (sym asked.1)
            (ready_locals scratch (here b x) x.scope w0 w1 pushed.adds.locals ready);
        behind = λ ss end all. text_so g.p.now n scratch b x k pl ss w0.out w1.out end pushed.adds
            (behind_it g n scratch b parts (stmt.PrintText k pl) x y ms noted ss w1.out end all);
      };
}

-- ---- blocks

-- variables that are the same behind it
pub same_vars : (g : Parts) (s : Stmt) (us vs : List Var) (old new : Walk) → vs ≡ us → LowersStmt g s us us old new
    → LowersStmt g s us vs old new
same_vars g s us vs old new e = subst (λ (ws : List Var). LowersStmt g s us ws old new) (sym e)

-- the statements of a block, and what is in scope behind it
record BlockNoted (p : Program) (b : In) (x y : Before) (ss : List Stmt) (ms : List Mark) : Type 0 where
  inner : Before
  noted : Notes p (stmts_type b ss x) ms inner
  is : y ≡ out_of x inner

block_noted : (p : Program) (b : In) (x y : Before) (ss : List Stmt) (ms : List Mark)
    → Notes p (block_typed (map (stmt_types b) ss) x) ms y → BlockNoted p b x y ss ms
block_noted p b x y ss ms noted =
    let f = then_noted (run_through (map (stmt_types b) ss) x) (λ v. done (out_of x v)) ms y noted in
    record {
      inner = f.first;
      noted = subst (λ (l : List Mark). Notes p (stmts_type b ss x) l f.first)
          (sym (append-nil f.before) ∙ ap (λ (l : List Mark). f.before ++ l) (sym f.then.0) ∙ sym f.all) f.noted;
      is = f.then.1;
    }

-- behind a block the masks may be others
block_ready : (g : Parts) (vs : List Var) (scratch : ℕ) (b : In) (x y : Before) (body : List Stmt) (ms : List Mark) (w : Walk)
    → Notes g.p.now (block_typed (map (stmt_types b) body) x) ms y → Ready g.class.now vs scratch (here b x) x.scope w
    → Ready g.class.now vs scratch (here b y) y.scope w
block_ready g vs scratch b x y body ms w noted ready =
    let l = blocks_move g.p.now b body x y (notes_give g.p.now (block_typed (map (stmt_types b) body) x) ms y noted) in
    ready_apart scratch b x y w l.vars l.apart ready

pub blocked : (g : Parts) (vs : List Var) (body : List Stmt) (w0 w1 : Walk) → LowersBlock g body vs w0 w1
    → LowersStmt g (stmt.Block body) vs vs w0 w1
blocked g vs body w0 w1 all n scratch b parts = record {
  done = λ x y ms rest ready noted ahead.
      let f = block_noted g.p.now b x y body ms
      (subst (λ (q : Plan Before). Notes g.p.now q ms y) ((forms_are.stmts b x).block body) noted) in
      let d = (all.lowers n scratch b parts).done x f.inner ms rest ready f.noted ahead in
      record {
        left = d.left;
        ready = block_ready g vs scratch b x y body ms w1
            (subst (λ (q : Plan Before). Notes g.p.now q ms y) ((forms_are.stmts b x).block body) noted)
            (ready_grown scratch (here b x) x.scope w0 w1 d.emitted.grown ready);
        behind = λ ss end behind. block_so g.p.now n scratch b x body ss w0.out w1.out end d.emitted
            (behind_it g n scratch b parts (stmt.Block body) x y ms noted ss w1.out end behind);
      };
}

-- ---- `if`

chosen_at : (g : Parts) (vs : List Var) (e : Expr) (one other : List Stmt) (pl : Place) (i j : Instr) (w0 w1 w2 w3 w4 w5 w6 : Walk)
    → LowersSeen g vs e w0 w1 → Pushed (i ∷ []) w1 w2 → LowersBlock g one vs w2 w3 → Pushed (j ∷ []) w3 w4
    → LowersBlock g other vs w4 w5
    → JoinedAt (length w1.out.instrs) (length w3.out.instrs) (length w4.out.instrs) w5 w6
    → LowersStmt g (stmt.If e one other pl) vs vs w0 w6
chosen_at g vs e one other pl i j w0 w1 w2 w3 w4 w5 w6 first jumps ones jumps_on others ends n scratch b parts = record {
  done = λ x y ms rest ready noted ahead.
      let asked = subst (λ (q : Plan Before). Notes g.p.now q ms y) ((forms_are.stmts b x).choice e one other pl) noted in
      let f = then_noted (typed b x e x.scope) (λ v. wants (is_bool v.ty) (mismatch (here b x) e.at) (both x)) ms y asked in
      let u = wants_noted (is_bool f.first.ty) (mismatch (here b x) e.at) (both x) f.after y f.then in
      let k = then_noted (block_typed (map (stmt_types b) one) x) (λ v. second x v) f.after y u.then in
      let l = then_noted (block_typed (map (stmt_types b) other) (numbered_from x k.first.next)) (λ v. third x k.first v) k.after y k.then in
      let m = then_noted (joined k.first.scope l.first.scope) (λ s. last x l.first s) l.after y l.then in
      let silent = m.all ∙ ap (λ (l : List Mark). l ++ m.after)
      (joined_silent g.p.now k.first.scope l.first.scope m.first m.before m.noted) ∙ m.then.0 in
      let k1 = block_noted g.p.now b x k.first one k.before k.noted in
      let l1 = block_noted g.p.now b (numbered_from x k.first.next) l.first other l.before l.noted in
      let d0 = first n scratch (here b x) x.scope f.before (f.after ++ rest) f.first parts ready f.noted
      (subst (λ (l : List Mark). Ahead l w0.marks) (regroup ms f.before f.after rest f.all) ahead) in
      let ready2 = ready_locals scratch (here b x) x.scope w1 w2 jumps.adds.locals (ready_grown scratch (here b x) x.scope w0 w1 d0.emitted.grown ready) in
      let d1 = (ones.lowers n scratch b parts).done x k1.inner k.before (k.after ++ rest) ready2 k1.noted
      (subst (Ahead (k.before ++ (k.after ++ rest))) (sym jumps.marks)
      (subst (λ (l : List Mark). Ahead l w1.marks) (regroup f.after k.before k.after rest k.all) d0.left)) in
      let ready4 = ready_locals scratch (here b x) x.scope w3 w4 jumps_on.adds.locals (ready_grown scratch (here b x) x.scope w2 w3 d1.emitted.grown ready2) in
      let d2 = (others.lowers n scratch b parts).done (numbered_from x k.first.next) l1.inner l.before rest ready4 l1.noted
      (subst (Ahead (l.before ++ rest)) (sym jumps_on.marks)
      (subst (λ (l : List Mark). Ahead l w3.marks) (regroup k.after l.before l.after rest l.all
      ∙ ap (λ (z : List Mark). l.before ++ (z ++ rest)) silent) d1.left)) in
      let ready5 = ready_grown scratch (here b x) x.scope w4 w5 d2.emitted.grown ready4 in
      record {
        left = subst (Ahead rest) (sym ends.marks) d2.left;
        ready = subst (λ (v : Before). Ready g.class.now vs scratch (here b v) v.scope w6) (sym m.then.1)
            (ready_apart scratch b x (record { vars = x.vars; scope = m.first; next = l.first.next }) w6 refl
            (joined_apart g.p.now x.scope k.first.scope l.first.scope m.first
            (blocks_move g.p.now b one x k.first (notes_give g.p.now (block_typed (map (stmt_types b) one) x) k.before k.first k.noted)).apart
            (blocks_move g.p.now b other (numbered_from x k.first.next) l.first
            (notes_give g.p.now (block_typed (map (stmt_types b) other) (numbered_from x k.first.next)) l.before l.first l.noted)).apart
            (notes_give g.p.now (joined k.first.scope l.first.scope) m.before m.first m.noted))
            (ready_locals scratch (here b x) x.scope w5 w6 (ends.behind.locals ∙ ends.past.locals) ready5));
        behind = λ ss end all. if_so g.p.now n scratch b x e one other pl ss i j w0.out w1.out w2.out w3.out w4.out w5.out ends.c1 w6.out
            end d0.emitted jumps.adds d1.emitted jumps_on.adds
            (means (Stmts g.p.now n scratch b (numbered_from x k.first.next) other)
            (λ c s t. (v : Before) → Gives g.p.now (block_typed (map (stmt_types b) one) x) (Ok v)
            → StmtsAt g.p.now n scratch c b (numbered_from x v.next) other s t) w4.out w5.out
            (λ c s t r v gives. subst (λ (z : Before). StmtsAt g.p.now n scratch c b (numbered_from x z.next) other s t)
            (is_that g n parts (block_typed (map (stmt_types b) one) x) k.before k.first v k.noted gives) r) d2.emitted)
            ends.past ends.behind
            (behind_it g n scratch b parts (stmt.If e one other pl) x y ms noted ss w6.out end all);
      };
}
  where
    last : Before → Before → Scope → Plan Before
    last x z s = done (record { vars = x.vars; scope = s; next = z.next })

    third : Before → Before → Before → Plan Before
    third x y z = then_do (joined y.scope z.scope) (λ s. last x z s)

    second : Before → Before → Plan Before
    second x y = then_do (block_typed (map (stmt_types b) other) (numbered_from x y.next)) (λ z. third x y z)

    both : Before → Plan Before
    both x = choice_typed (map (stmt_types b) one) (map (stmt_types b) other) x

pub chosen : (g at : Parts) (vs : List Var) (e : Expr) (one other : List Stmt) (pl : Place) (test : ℕ) (j : Jump)
    (w0 w2 w3 w4 w5 w6 : Walk) → Sees g vs at → Tested at e test w0 w2 → LowersBlock g one vs w2 w3 → Jumped j w3 w4
    → LowersBlock g other vs w4 w5 → Joined test j w5 w6 → LowersStmt g (stmt.If e one other pl) vs vs w0 w6
chosen g at vs e one other pl test j w0 w2 w3 w4 w5 w6 sees t ones on others ends =
    chosen_at g vs e one other pl (ins.Jfalse 0) (ins.Jump 0) w0 t.mid w2 w3 w4 w5 w6
    (seen_so g vs at e w0 t.mid sees t.first) t.jumps ones on.pushed others
    (record {
      c1 = ends.c1;
      past = subst (λ (k : ℕ). Patched k (ins.Jfalse (length w4.out.instrs)) w5.out ends.c1) t.place
          (subst (λ (k : ℕ). Patched test (ins.Jfalse k) w5.out ends.c1) on.behind ends.past);
      behind = subst (λ (k : ℕ). Patched k (ins.Jump (length w5.out.instrs)) ends.c1 w6.out) on.at ends.behind;
      marks = ends.marks;
    })

-- ---- `while`

repeated_at : (g : Parts) (vs : List Var) (e : Expr) (body : List Stmt) (pl : Place) (i : Instr) (w0 w1 w2 w3 w4 : Walk)
    → LowersSeen g vs e w0 w1 → Pushed (i ∷ []) w1 w2 → LowersBlock g body vs w2 w3
    → Repeated (length w0.out.instrs) (length w1.out.instrs) w3 w4 → LowersStmt g (stmt.While e body pl) vs vs w0 w4
repeated_at g vs e body pl i w0 w1 w2 w3 w4 first jumps all ends n scratch b parts = record {
  done = λ x y ms rest ready noted ahead.
      let asked = subst (λ (q : Plan Before). Notes g.p.now q ms y) ((forms_are.stmts b x).loop e body pl) noted in
      let f = then_noted (typed b x e x.scope) (λ v. wants (is_bool v.ty) (mismatch (here b x) e.at) (turn x)) ms y asked in
      let u = wants_noted (is_bool f.first.ty) (mismatch (here b x) e.at) (turn x) f.after y f.then in
      let k = then_noted (block_typed (map (stmt_types b) body) x) (λ v. done (numbered_from x v.next)) f.after y u.then in
      let k1 = block_noted g.p.now b x k.first body k.before k.noted in
      let d0 = first n scratch (here b x) x.scope f.before (f.after ++ rest) f.first parts ready f.noted
      (subst (λ (l : List Mark). Ahead l w0.marks) (regroup ms f.before f.after rest f.all) ahead) in
      let ready2 = ready_locals scratch (here b x) x.scope w1 w2 jumps.adds.locals (ready_grown scratch (here b x) x.scope w0 w1 d0.emitted.grown ready) in
      let d1 = (all.lowers n scratch b parts).done x k1.inner k.before rest ready2 k1.noted
      (subst (Ahead (k.before ++ rest)) (sym jumps.marks)
      (subst (λ (l : List Mark). Ahead l w1.marks) (regroup f.after k.before k.after rest k.all
      ∙ ap (λ (l : List Mark). k.before ++ (l ++ rest)) k.then.0) d0.left)) in
      record {
        left = subst (Ahead rest) (sym ends.marks) d1.left;
        ready = subst (λ (v : Before). Ready g.class.now vs scratch (here b v) v.scope w4) (sym k.then.1)
            (ready_locals scratch (here b x) x.scope w3 w4 (ends.past.locals ∙ ends.back.locals)
            (ready_grown scratch (here b x) x.scope w2 w3 d1.emitted.grown ready2));
        behind = λ ss end behind. while_so g.p.now n scratch b x e body pl ss i w0.out w1.out w2.out w3.out ends.c1 w4.out end
            d0.emitted jumps.adds d1.emitted ends.back ends.past
            (behind_it g n scratch b parts (stmt.While e body pl) x y ms noted ss w4.out end behind);
      };
}
  where
    turn : Before → Plan Before
    turn x = loop_typed (map (stmt_types b) body) x

pub repeated : (g at : Parts) (vs : List Var) (e : Expr) (body : List Stmt) (pl : Place) (start test : ℕ)
    (w0 w2 w3 w4 : Walk) → Sees g vs at → start ≡ length w0.out.instrs → Tested at e test w0 w2
    → LowersBlock g body vs w2 w3 → Repeated start test w3 w4 → LowersStmt g (stmt.While e body pl) vs vs w0 w4
repeated g at vs e body pl start test w0 w2 w3 w4 sees begins t all ends =
    repeated_at g vs e body pl (ins.Jfalse 0) w0 t.mid w2 w3 w4 (seen_so g vs at e w0 t.mid sees t.first) t.jumps all
    (subst (λ (k : ℕ). Repeated (length w0.out.instrs) k w3 w4) t.place
    (subst (λ (k : ℕ). Repeated k test w3 w4) begins ends))
