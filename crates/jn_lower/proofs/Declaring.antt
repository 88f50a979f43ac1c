-- Locals and assignments: each step of the walk, and what it does.
use Rattle.std.proofs.Common.{◌≡◌, ◌<◌, ℕ, List, [], ◌∷◌, ◌++◌, length, map, Bool, ◌⊎◌, inl, inr, zero, suc, refl, sym, ap, ◌∙◌, subst, append-nil}
use Rattle.std.specs.Prelude.{Result, Option, Some, None, slice_get, not, cond, nat_eq}
use Rattle.jn_base.specs.declared.tree.Named.{Named}
use Rattle.jn_base.specs.declared.tree.TypeTerm.{TypeTerm}
use Rattle.jn_base.specs.declared.tree.Expr.{Expr}
use Rattle.jn_base.specs.declared.tree.Stmt.TheVariants as stmt
use Rattle.jn_base.specs.declared.tree.Program.{Program}
use Rattle.jn_base.specs.declared.types.Atom.{Atom as ShownAtom}
use Rattle.jn_base.specs.declared.types.Ty.{Ty}
use Rattle.jn_base.specs.declared.types.Ty.TheVariants as ty
use Rattle.jn_base.specs.declared.names.Role.TheVariants as role
use Rattle.jn_base.specs.declared.names.Var.{Var}
use Rattle.jn_base.specs.declared.refusal.Refusal.{Refusal}
use Rattle.jn_base.specs.declared.refusal.Rule.TheVariants as rule
use Rattle.jn_base.specs.declared.path.Path.{Path as ShownPath}
use Rattle.jn_base.specs.Paths.{Path}
use Rattle.jn_base.specs.Atoms.{Among, atoms_in, first_at}
use Rattle.jn_base.specs.Scopes.{Scope, bound_of}
use Rattle.jn_laws.specs.LawsOfWritten.{HeaderPaths}
use Rattle.jn_laws.proofs.WrittenTypes.{written_kinds}
use Rattle.jn_base.specs.Resolve.{var_named}
use Rattle.jn_base.specs.ResolveTypes.{ResolveType, mask_names}
use Rattle.jn_code.specs.declared.instr.Instr.TheVariants as ins
use Rattle.jn_sem.specs.Terms.{spot_at, vars_at}
use Rattle.jn_sem.specs.Does.{var}
use Rattle.jn_rules.specs.Plans.{Mark, AtomMark, VarMark, Plan, IsBelow, done, note, note_all, ask, wants}
use Rattle.jn_rules.specs.Questions.{Notes}
use Rattle.jn_rules.specs.Resolved.{atom_marked, var_marked, member_marked, kind_marked}
use Rattle.jn_rules.specs.Headers.{declared_type, scope_of}
use Rattle.jn_rules.specs.Exprs.{site_here, Typed, mismatch, of_name}
use Rattle.jn_rules.specs.Stmts.{In, Before, here, typed, typed_below, with_local, atom_marks, local_with, local_typed, assign_typed, stmt_types}
use Rattle.jn_rules.proofs.FormLaws.{forms_are}
use Rattle.jn_rules.proofs.PlanLaws.{then_noted}
use Rattle.jn_agree.specs.Rows.{kind_of_type}
use Rattle.jn_lower.specs.declared.cursor.Marks.{Marks}
use Rattle.jn_lower.specs.declared.walk.Parts.{Parts}
use Rattle.jn_lower.specs.declared.walk.Walk.{Walk}
use Rattle.jn_lower.specs.Cursors.{Ahead, VarTaken, TermsTaken}
use Rattle.jn_lower.specs.Emitted.{Adds}
use Rattle.jn_lower.specs.Stores.{stored}
use Rattle.jn_lower.specs.Written.{written_terms}
use Rattle.jn_lower.specs.Walks.{Pushed, BindsWritten, Ready, ReadyIn, Sees, StmtDone, LowersValue, LowersStmt, LowersPlain}
use Rattle.jn_lower.specs.Known.{bare_type, bare, bare_form, written_type, LocalAdded}
use Rattle.jn_lower.proofs.Knowing.{bare_more}
use Rattle.jn_lower.proofs.Holding.{local_so, assign_so}
use Rattle.jn_lower.proofs.Noting.{taken_noted, wants_noted}
use Rattle.jn_lower.proofs.Taking.{var_ahead, ready_grown, ready_locals, seen_bound}
use Rattle.jn_lower.proofs.LeafForms.{named_among, newest_named}
use Rattle.jn_lower.proofs.Written.{told, type_is, kind_kept, class_kept, void_kept}
use Rattle.jn_lower.proofs.Chains.{regroup}
use Rattle.jn_lower.proofs.Seen.{first_low, scope_more, paths_more, among_more}
use Rattle.jn_lower.proofs.Blocks.{behind_it, seen_so}

-- ---- the terms of a written type are passed over

terms_first : (xs : List ShownAtom) (ms : List Mark) → atom_marked (map AtomMark xs ++ ms) ≡ xs ++ atom_marked ms
terms_first [] ms = refl
terms_first (x ∷ xs) ms = ap (λ (l : List ShownAtom). x ∷ l) (terms_first xs ms)

no_vars : (xs : List ShownAtom) (ms : List Mark) → var_marked (map AtomMark xs ++ ms) ≡ var_marked ms
no_vars [] ms = refl
no_vars (x ∷ xs) ms = no_vars xs ms

no_members : (xs : List ShownAtom) (ms : List Mark) → member_marked (map AtomMark xs ++ ms) ≡ member_marked ms
no_members [] ms = refl
no_members (x ∷ xs) ms = no_members xs ms

no_kinds : (xs : List ShownAtom) (ms : List Mark) → kind_marked (map AtomMark xs ++ ms) ≡ kind_marked ms
no_kinds [] ms = refl
no_kinds (x ∷ xs) ms = no_kinds xs ms

same_front : {A : Type 0} (xs ys us vs : List A) → length xs ≡ length ys → xs ++ us ≡ ys ++ vs → (xs ≡ ys) × (us ≡ vs)
same_front [] [] us vs l e = (refl, e)
same_front [] (y ∷ ys) us vs l e = absurd (no l) where
  no : 0 ≡ suc (length ys) → ⊥
  no e = cc
same_front (x ∷ xs) [] us vs l e = absurd (no l) where
  no : suc (length xs) ≡ 0 → ⊥
  no e = cc
same_front {A} (x ∷ xs) (y ∷ ys) us vs l e =
    let h = same_front xs ys us vs (shorter l) (tails e) in
    (ap (λ (z : A). z ∷ xs) (heads e) ∙ ap (λ (zs : List A). y ∷ zs) h.0, h.1)
  where
    shorter : suc (length xs) ≡ suc (length ys) → length xs ≡ length ys
    shorter e = cc

    heads : x ∷ (xs ++ us) ≡ y ∷ (ys ++ vs) → x ≡ y
    heads e = cc

    tails : x ∷ (xs ++ us) ≡ y ∷ (ys ++ vs) → xs ++ us ≡ ys ++ vs
    tails e = cc

-- they are those of the marks, and the others are left
pub record TookThem (ys xs : List ShownAtom) (ms : List Mark) (new : Marks) : Type 0 where
  pub same : ys ≡ xs
  pub left : Ahead ms new

pub terms_ahead : (k : ℕ) (ys xs : List ShownAtom) (ms : List Mark) (old new : Marks) → TermsTaken k ys old new
    → length xs ≡ k → Ahead (map AtomMark xs ++ ms) old → TookThem ys xs ms new
terms_ahead k ys xs ms old new t long a =
    let e : ys ++ new.terms.now ≡ xs ++ atom_marked ms = sym t.terms ∙ a.terms ∙ terms_first xs ms in
    let h = same_front ys xs new.terms.now (atom_marked ms) (t.long ∙ sym long) e in
    record {
      same = h.0;
      left = record {
        terms = h.1;
        vars = t.vars ∙ a.vars ∙ no_vars xs ms;
        members = t.members ∙ a.members ∙ no_members xs ms;
        kinds = t.kinds ∙ a.kinds ∙ no_kinds xs ms;
      };
    }

-- what is noted at once
record NotedAll {A : Type 0} (p : Program) (front ms : List Mark) (go : Plan A) (a : A) : Type 0 where
  after : List Mark
  all : ms ≡ front ++ after
  then : Notes p go after a

all_noted : {A : Type 0} (p : Program) (front : List Mark) (go : Plan A) (ms : List Mark) (a : A)
    → Notes p (note_all front go) ms a → NotedAll p front ms go a
all_noted p [] go ms a g = record { after = ms; all = refl; then = g }
all_noted p (m ∷ front) go ms a g =
    let r = all_noted p front go g.0 a g.2 in
    record { after = r.after; all = g.1 ∙ ap (λ (l : List Mark). m ∷ l) r.all; then = r.then }

-- ---- an expression below a type

record BelowNoted (p : Program) (b : In) (x y z : Before) (e : Expr) (ms : List Mark) : Type 0 where
  had : Typed
  noted : Notes p (typed b x e x.scope) ms had
  is : y ≡ z

below_noted : (p : Program) (b : In) (x y z : Before) (e : Expr) (t : Ty) (ms : List Mark)
    → Notes p (typed_below b x e x.scope t (done z)) ms y → BelowNoted p b x y z e ms
below_noted p b x y z e t ms noted =
    let f = then_noted (typed b x e x.scope) (λ v. ask (IsBelow v.scope v.ty t) (λ ok. wants ok (mismatch (here b x) e.at) (done z)))
    ms y noted in
    let u = wants_noted f.then.0 (mismatch (here b x) e.at) (done z) f.after y f.then.2 in
    record {
      had = f.first;
      noted = subst (λ (l : List Mark). Notes p (typed b x e x.scope) l f.first)
          (sym (append-nil f.before) ∙ ap (λ (l : List Mark). f.before ++ l) (sym u.then.0) ∙ sym f.all) f.noted;
      is = u.then.1;
    }

-- ---- one more variable

last_kind : (ks : List ℕ) (k : ℕ) → slice_get (ks ++ k ∷ []) (length ks) ≡ Some k
last_kind [] k = refl
last_kind (j ∷ ks) k = last_kind ks k

front_kind : (ks : List ℕ) (k q j : ℕ) → slice_get ks q ≡ Some j → slice_get (ks ++ k ∷ []) q ≡ Some j
front_kind [] k q j e = absurd (no e) where
  no : ◌≡◌ {A = Option ℕ} None (Some j) → ⊥
  no e = cc
front_kind (i ∷ ks) k zero j e = e
front_kind (i ∷ ks) k (suc q) j e = front_kind ks k q j e

ready_more : {at : ShownPath} {us vs : List Var} (scratch : ℕ) (b : In) (x : Before) (v : Var) (old new : Walk)
    → Ready at us scratch (here b x) x.scope old → vs ≡ map bare (x.vars ++ v ∷ []) → new.out.locals.kinds ≡ old.out.locals.kinds ++ kind_of_type v.ty ∷ []
    → new.out.locals.scratch ≡ old.out.locals.scratch → v.path ≡ length old.out.locals.kinds
    → (v.ty ≡ ty.Void → ⊥) → v.path < 256 → HeaderPaths x.vars v.ty
    → Ready at vs scratch (here b (with_local x v)) (with_local x v).scope new
ready_more scratch b x v old new ready known kinds scr path valued few written = record {
  class = ready.class;
  vars = known;
  above = scr ∙ ready.above;
  first = ap (λ (l : List ℕ). slice_get l 0) kinds ∙ front_kind old.out.locals.kinds (kind_of_type v.ty) 0 3 ready.first;
  kinds = λ u m. ap (λ (l : List ℕ). slice_get l u.path) kinds ∙ kind_at u (among_more xs v u m);
  valued = λ u m. valued_at u (among_more xs v u m);
  apart = λ u m. apart_at u (among_more xs v u m);
  few = λ u m. few_at u (among_more xs v u m);
  paths = λ u m. paths_at u (among_more xs v u m);
  low = λ q l. ap (λ (R : Path). cond (nat_eq q v.path) R (bound_of x.scope q))
      (first_low (bound_of x.scope) (bound_of s) (atoms_in v.ty) (λ y r k m e. seen_bound scratch (here b x) x.scope old ready r (written y r k m e)))
      ∙ ap (λ (R : Path). cond (nat_eq q v.path) (first_at (bound_of s) (atoms_in v.ty)) R) (ready.low q l)
      ∙ ap (λ (t : Scope). bound_of t q) (sym (scope_more (site_here (here b x)) v));
}
  where
    xs : List Var
    xs = x.vars

    s : Scope
    s = scope_of (site_here (here b x))

    few_at : (u : Var) → Among xs u ⊎ (u ≡ v) → u.path < 256
    few_at u (inl m) = ready.few u m
    few_at u (inr e) = subst (λ (w : Var). w.path < 256) (sym e) few

    paths_at : (u : Var) → Among xs u ⊎ (u ≡ v) → HeaderPaths (xs ++ v ∷ []) u.ty
    paths_at u (inl m) = paths_more xs v u.ty (ready.paths u m)
    paths_at u (inr e) = subst (λ (w : Var). HeaderPaths (xs ++ v ∷ []) w.ty) (sym e) (paths_more xs v v.ty written)

    no_first : (ks : List ℕ) (k : ℕ) → slice_get ks 0 ≡ Some k → length ks ≡ 0 → ⊥
    no_first [] k e l = no e where
      no : ◌≡◌ {A = Option ℕ} None (Some k) → ⊥
      no e = cc
    no_first (j ∷ ks) k e l = no l where
      no : suc (length ks) ≡ 0 → ⊥
      no e = cc

    kind_at : (u : Var) → Among xs u ⊎ (u ≡ v)
        → slice_get (old.out.locals.kinds ++ kind_of_type v.ty ∷ []) u.path ≡ Some (kind_of_type u.ty)
    kind_at u (inl m) = front_kind old.out.locals.kinds (kind_of_type v.ty) u.path (kind_of_type u.ty) (ready.kinds u m)
    kind_at u (inr e) =
        ap (λ (w : Var). slice_get (old.out.locals.kinds ++ kind_of_type v.ty ∷ []) w.path) e
        ∙ ap (slice_get (old.out.locals.kinds ++ kind_of_type v.ty ∷ [])) path
        ∙ last_kind old.out.locals.kinds (kind_of_type v.ty) ∙ ap (λ (w : Var). Some (kind_of_type w.ty)) (sym e)

    apart_at : (u : Var) → Among xs u ⊎ (u ≡ v) → u.path ≡ 0 → ⊥
    apart_at u (inl m) = ready.apart u m
    apart_at u (inr e) =
        λ f. no_first old.out.locals.kinds 3 ready.first (sym path ∙ sym (ap (λ (w : Var). w.path) e) ∙ f)

    valued_at : (u : Var) → Among xs u ⊎ (u ≡ v) → u.ty ≡ ty.Void → ⊥
    valued_at u (inl m) = ready.valued u m
    valued_at u (inr e) = λ f. valued (sym (ap (λ (w : Var). w.ty) e) ∙ f)

-- ---- locals

pub declared : (g at : Parts) (us vs : List Var) (fixed : Bool) (written : TypeTerm) (name : Named) (e : Expr) (q : ℕ)
    (ys : List ShownAtom) (m1 m2 : Marks) (w0 w3 w4 : Walk) → Sees g us at
    → TermsTaken (written_terms written) ys w0.marks m1 → VarTaken q m1 m2
    → LowersValue at e (record { out = w0.out; marks = m2; last = w0.last }) w3 → BindsWritten fixed written q w3 w4
    → LocalAdded g.class.now fixed written name.name q ys us vs
    → LowersStmt g (stmt.Local fixed written name e) us vs w0 w4
declared g seer us vs fixed written name e q ys m1 m2 w0 w3 w4 sees terms took value binds adds n scratch b parts = record {
  done = λ x y ms rest ready noted ahead.
      let at = site_here (here b x) in
      let asked = subst (λ (z : Plan Before). Notes g.p.now z ms y) ((forms_are.stmts b x).local fixed written name e) noted in
      let k = taken_noted asked.0 (local_typed b x fixed name e) ms y asked.2 in
      let means = subst (λ (o : Result Ty Refusal). ResolveType g.p.now (mask_names g.p.now) (spot_at at role.Value) (vars_at at) written o) k.is asked.1 in
      let f = told g.p.now (mask_names g.p.now) (spot_at at role.Value) (vars_at at) written k.given means in
      let t = declared_type at k.given in
      let v = var name.name x.next fixed t in
      let a = all_noted g.p.now (atom_marks k.given) (local_with b x name e v) ms y k.then in
      let c = below_noted g.p.now b x y (with_local x v) e v.ty a.then.0 a.then.2 in
      let them = terms_ahead (written_terms written) ys f.atoms (VarMark x.next ∷ (a.then.0 ++ rest)) w0.marks m1 terms f.long
      (subst (λ (l : List Mark). Ahead l w0.marks) (regroup ms (map AtomMark f.atoms) (VarMark x.next ∷ a.then.0) rest
      (a.all ∙ ap (λ (l : List Mark). l ++ a.after) f.marks ∙ ap (λ (l : List Mark). map AtomMark f.atoms ++ l) a.then.1)) ahead) in
      let one = var_ahead q x.next (a.then.0 ++ rest) m1 m2 took them.left in
      let w1 : Walk = record { out = w0.out; marks = m2; last = w0.last } in
      let ready1 = ready_locals scratch (here b x) x.scope w0 w1 refl ready in
      let d = seen_so g us seer e w1 w3 sees value n scratch (here b x) x.scope a.then.0 rest c.had parts ready1 c.noted one.left in
      let kind = kind_kept (scope_of at) k.given ∙ f.kind in
      let class = class_kept (scope_of at) k.given ∙ f.class in
      let ready3 = ready_grown scratch (here b x) x.scope w1 w3 d.emitted.grown ready1 in
      let next = sym one.same ∙ binds.number in
      let known : vs ≡ map bare (x.vars ++ v ∷ []) =
      adds.is ∙ ap (λ (i : ℕ). us ++ var name.name i fixed (bare_form g.class.now us (written_type written ys)) ∷ []) one.same
      ∙ bare_more g.class.now us x.vars b.class ready.class ready.vars name.name x.next fixed k.given (written_type written ys)
      (ap (λ (l : List ShownAtom). bare_type (written_type written l)) them.same ∙ f.bare) in
      record {
        left = subst (Ahead rest) (sym binds.marks) d.left;
        ready = subst (λ (z : Before). Ready g.class.now vs scratch (here b z) z.scope w4) (sym c.is)
            (ready_more scratch b x v w3 w4 ready3 known
            (binds.kinds ∙ ap (λ (i : ℕ). w3.out.locals.kinds ++ i ∷ []) (sym kind)) binds.scratch next
            (λ z. f.valued (void_kept (scope_of at) k.given z)) (subst (λ (i : ℕ). i < 256) one.same binds.few)
            ((written_kinds g.p.now).paths at written t ready.paths (type_is g.p.now at written k.given means)));
        behind = λ ss end all. local_so g.p.now n scratch b x fixed written name e t ss w0.out w3.out w4.out end d.emitted
            (type_is g.p.now at written k.given means) (sym next)
            (record {
              instrs = binds.instrs ∙ ap (λ (z : Bool). w3.out.instrs ++ stored fixed z (length w3.out.locals.kinds)) (sym class);
              kinds = binds.kinds ∙ ap (λ (i : ℕ). w3.out.locals.kinds ++ i ∷ []) (sym kind);
              spare = binds.spare;
              scratch = binds.scratch;
            })
            (behind_it g n scratch b parts (stmt.Local fixed written name e) x y ms noted ss w4.out end all);
      };
}

-- ---- assignments

pub assigned : (g : Parts) (name : Named) (e : Expr) (q : ℕ) (m1 : Marks) (w0 w2 w3 : Walk) → VarTaken q w0.marks m1
    → LowersValue g e (record { out = w0.out; marks = m1; last = w0.last }) w2 → Pushed (ins.Store q ∷ []) w2 w3
    → LowersPlain g (stmt.Assign name e) w0 w3
assigned g name e q m1 w0 w2 w3 took value pushed n scratch b parts = record {
  done = λ x y ms rest ready noted ahead.
      at x y ms rest ready noted ahead (var_named (record { list = x.vars }) name.name) refl
      (subst (λ (z : Plan Before). Notes g.p.now z ms y) ((forms_are.stmts b x).assign name e) noted);
}
  where
    at : (x y : Before) (ms rest : List Mark) → ReadyIn g scratch (here b x) x.scope w0 → Notes g.p.now (stmt_types b (stmt.Assign name e) x) ms y
        → Ahead (ms ++ rest) w0.marks → (found : Option Var) → var_named (record { list = x.vars }) name.name ≡ found
        → Notes g.p.now (assign_typed b x name e found) ms y → StmtDone g.p.now g.class.now g.vars.now n scratch b (stmt.Assign name e) rest x y w0 w3
    at x y ms rest ready all ahead None is noted = absurd noted
    at x y ms rest ready all ahead (Some v) is noted =
        let u = wants_noted (not v.fixed) (of_name rule.E24 (here b x) name.at name.name)
        (note (VarMark v.path) (typed_below b x e x.scope v.ty (done x))) ms y noted in
        let c = below_noted g.p.now b x y x e v.ty u.then.0 u.then.2 in
        let one = var_ahead q v.path (u.then.0 ++ rest) w0.marks m1 took
        (subst (λ (l : List Mark). Ahead (l ++ rest) w0.marks) u.then.1 ahead) in
        let w1 : Walk = record { out = w0.out; marks = m1; last = w0.last } in
        let ready1 = ready_locals scratch (here b x) x.scope w0 w1 refl ready in
        let d = (value n scratch (here b x) x.scope parts).done u.then.0 rest c.had ready1 c.noted one.left in
        let ready2 = ready_grown scratch (here b x) x.scope w1 w2 d.emitted.grown ready1 in
        record {
          left = subst (Ahead rest) (sym pushed.marks) d.left;
          ready = subst (λ (z : Before). ReadyIn g scratch (here b z) z.scope w3) (sym c.is)
              (ready_locals scratch (here b x) x.scope w2 w3 pushed.adds.locals ready2);
          behind = λ ss end behind. assign_so g.p.now n scratch b x name e v ss w0.out w2.out w3.out end d.emitted
              (newest_named x.vars name.name v is) (ready2.kinds v (named_among x.vars name.name v is))
              (subst (λ (i : ℕ). Adds (ins.Store i ∷ []) w2.out w3.out) one.same pushed.adds)
              (behind_it g n scratch b parts (stmt.Assign name e) x y ms all ss w3.out end behind);
        }
