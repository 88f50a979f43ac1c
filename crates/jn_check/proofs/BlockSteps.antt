-- Statements one after the other, blocks, and what stands behind the blocks of an `if` or a `while`.
use Rattle.std.proofs.Common.{◌≡◌, ◌<◌, ◌≤◌, ◌+◌, ℕ, List, [], ◌∷◌, ◌++◌, length, drop, map, get_or, Result, Ok, Err, refl, sym, ap, ◌∙◌, subst, arith, append_assoc}
use Rattle.std.specs.Prelude.{OnOk}
use Rattle.std.proofs.lemmas.List.{length-reverse, length-map}
use Rattle.std.proofs.Math.ListN.{drop_of_length-le}
use Rattle.jn_base.specs.declared.tree.Name.{Name}
use Rattle.jn_base.specs.declared.tree.Program.{Program}
use Rattle.jn_base.specs.declared.tree.Stmt.{Stmt}
use Rattle.jn_base.specs.declared.types.Ty.{Ty}
use Rattle.jn_base.specs.declared.names.Resolved.{Resolved}
use Rattle.jn_base.specs.declared.names.Var.{Var}
use Rattle.jn_base.specs.Paths.{Path}
use Rattle.jn_base.specs.Scopes.{Scope}
use Rattle.jn_homes.proofs.Places.{at_index}
use Rattle.jn_heads.specs.declared.fault.CheckFault.{CheckFault}
use Rattle.jn_heads.specs.declared.fault.CheckFault.TheVariants.{Refused, Memory}
use Rattle.jn_intern.specs.declared.pool.TyId.{TyId}
use Rattle.jn_intern.specs.declared.scope.Scope.{Scope as NumberScope}
use Rattle.jn_intern.specs.Pools.{Keeps, ScopeInPool, bind_in, scope_in}
use Rattle.jn_intern.proofs.Pools.{scope_in_kept, scope_kept}
use Rattle.jn_laws.specs.LawsOfWritten.{site_with, scope_of}
use Rattle.jn_subtype.specs.Binds.{binds_in}
use Rattle.jn_rules.specs.Plans.{Plan, done, then_do}
use Rattle.jn_rules.specs.Questions.{Gives, Notes}
use Rattle.jn_rules.specs.Stmts.{Before, In, StmtTyping, stmt_types, stmts_type, run_through, out_of, block_typed, choice_typed, loop_typed, joined}
use Rattle.jn_rules.proofs.PlanLaws.{notes_give, then_refuses}
use Rattle.jn_expr.specs.declared.env.Env.{Env}
use Rattle.jn_expr.specs.Passing.{Shows}
use Rattle.jn_expr.specs.Told.{Went, PlanTold}
use Rattle.jn_expr.specs.Steps.{Leads, LeadsTold}
use Rattle.jn_expr.proofs.Leading.{leads_here, leads_then, leads_quiet, leads_done, leads_fault}
use Rattle.jn_check.specs.declared.state.Locals.{Locals}
use Rattle.jn_check.specs.Blocks.{behind_one}
use Rattle.jn_check.specs.Masks.{bare}
use Rattle.jn_check.specs.States.{before_in, before_at, IsBefore, IsAfter, IsBack, IsKept, IsLeft}
use Rattle.jn_check.proofs.Agreeing.{joined_bare, zeroed}
use Rattle.jn_check.proofs.Standing.{but_same, after_kept, back_after, before_again, before_with, one_length, Q, this_there}

-- ---- numbers of a pool that has grown

pub shows_stay : {old new : List Ty} {id : TyId} {t : Ty} → Shows old id t → Keeps old new → Shows new id t
shows_stay {old} {new} {id} s k = record { number = k.has id s.number; shows = k.shows id s.number ∙ s.shows }

-- ---- one statement after the other

pub after_start : (p : Program) (C : Path) (m : Name) (old : Env) (x : Locals) → IsBefore p C m old.pool old.vars.list x → IsAfter p C m old x old x
after_start p C m old x h = after_kept p C m old x old x h (but_same old) refl (record { declared = refl; scope = refl; next = refl })

behind : {A : Type 0} (a b c x y : List A) → b ≡ a ++ x → c ≡ b ++ y → c ≡ a ++ (x ++ y)
behind {A} a b c x y e f = f ∙ (ap (λ (l : List A). l ++ y) e ∙ append_assoc a x y)

pub after_more : (p : Program) (C : Path) (m : Name) (a : Env) (x : Locals) (b : Env) (y : Locals) (c : Env) (z : Locals) → IsAfter p C m a x b y → IsAfter p C m b y c z → IsAfter p C m a x c z
after_more p C m a x b y c z f g = record {
  before = g.before;
  more = f.more ++ g.more;
  vars = behind a.vars.list b.vars.list c.vars.list f.more g.more f.vars g.vars;
  binds = f.binds ++ g.binds;
  declared = behind x.declared.binds.items y.declared.binds.items z.declared.binds.items f.binds g.binds f.declared g.declared;
  next = omega (arith, f.next, g.next);
}

module _ (p : Program) (b : In) (ss : List Stmt) (i : ℕ) (s : Stmt) (lt : i < length ss) (is : s ≡ get_or ss i s) (whole : Plan Before) (x : Before) (m0 m1 : Resolved)
    (so : Leads p whole (stmts_type b (drop i ss) x) m0 m1) where
  next_stmt : Leads p whole (stmts_type b (s ∷ drop (i + 1) ss) x) m0 m1
  next_stmt = subst (λ (rest : List Stmt). Leads p whole (stmts_type b rest x) m0 m1) (at_index ss i s lt is) so

  pub stmts_more : (y : Before) (m2 : Resolved) → Went p (stmt_types b s x) y m1 m2 → Leads p whole (stmts_type b (drop (i + 1) ss) y) m0 m2
  stmts_more y m2 w = leads_then (stmt_types b s x) (stmts_type b (drop (i + 1) ss)) next_stmt w

  pub stmts_fault : {B D : Type 0} (given : D → Before) (show : B → Before) (m2 later : Resolved) (f : CheckFault) → PlanTold p (stmt_types b s x) given m1 m2 (Err f)
      → PlanTold p whole show m0 later (Err f)
  stmts_fault given show m2 later f g = leads_fault given show (stmt_types b s x) (stmts_type b (drop (i + 1) ss)) m2 later next_stmt f g

pub stmts_end : (p : Program) (b : In) (ss : List Stmt) (i : ℕ) (whole : Plan Before) (x : Before) (m0 m1 : Resolved) → length ss ≤ i
    → Leads p whole (stmts_type b (drop i ss) x) m0 m1 → Went p whole x m0 m1
stmts_end p b ss i whole x m0 m1 le so =
    leads_done (subst (λ (rest : List Stmt). Leads p whole (stmts_type b rest x) m0 m1) (drop_of_length-le ss {i = i} le) so)

-- ---- the end of a plan

ended : (p : Program) (whole : Plan Before) (x y : Before) (m0 m1 m2 : Resolved) → Leads p whole (done x) m0 m1 → y ≡ x → m2 ≡ m1 → Went p whole y m0 m2
ended p whole x y m0 m1 m2 l e d = subst (λ (m : Resolved). Went p whole y m0 m) (sym d) (subst (λ (z : Before). Went p whole z m0 m1) (sym e) (leads_done l))

-- ---- blocks

module _ (p : Program) (ss : List StmtTyping) (x : Before) (m0 m1 : Resolved) where
  pub block_went : (y z : Before) (m2 : Resolved) → Went p (run_through ss x) y m0 m1 → z ≡ out_of x y → m2 ≡ m1 → Went p (block_typed ss x) z m0 m2
  block_went y z m2 w e d =
      ended p (block_typed ss x) (out_of x y) z m0 m1 m2 (leads_then (run_through ss x) (λ (v : Before). done (out_of x v)) (leads_here (block_typed ss x) m0) w) e d

  pub block_fault : {B D : Type 0} (given : D → Before) (show : B → Before) (m2 : Resolved) (f : CheckFault) → PlanTold p (run_through ss x) given m0 m1 (Err f)
      → PlanTold p (block_typed ss x) show m0 m2 (Err f)
  block_fault given show m2 f g =
      leads_fault given show (run_through ss x) (λ (v : Before). done (out_of x v)) m1 m2 (leads_here (block_typed ss x) m0) f g

  -- `if`: the other block
  module _ (s : Scope) where
    abbrev behind_go : Before → Plan Before
    behind_go z = then_do (joined s z.scope) (λ both. done (record { vars = x.vars; scope = both; next = z.next }))

    pub behind_went : (z v : Before) (both : Scope) → Went p (block_typed ss x) z m0 m1 → Notes p (joined s z.scope) [] both → v ≡ record { vars = x.vars; scope = both; next = z.next }
        → Went p (behind_one ss s x) v m0 m1
    behind_went z v both w n e =
        ended p (behind_one ss s x) (let b : Before = record { vars = x.vars; scope = both; next = z.next } in b) v m0 m1 m1
        (leads_quiet (joined s z.scope) (λ (c : Scope). done (let b : Before = record { vars = x.vars; scope = c; next = z.next } in b)) both
        (leads_then (block_typed ss x) behind_go (leads_here (behind_one ss s x) m0) w) n) e refl

    pub behind_fault : {B D : Type 0} (given : D → Before) (show : B → Before) (m2 : Resolved) (f : CheckFault) → PlanTold p (block_typed ss x) given m0 m1 (Err f)
        → PlanTold p (behind_one ss s x) show m0 m2 (Err f)
    behind_fault given show m2 f g = leads_fault given show (block_typed ss x) behind_go m1 m2 (leads_here (behind_one ss s x) m0) f g

-- ---- behind a condition, which leaves all as it was

module _ (p : Program) (one others : List StmtTyping) (whole : Plan Before) (x y : Before) (m0 m1 m2 : Resolved) (same : y ≡ x) (l : Leads p whole (choice_typed one others x) m0 m1) where
  abbrev choice_go : Before → Plan Before
  choice_go z = behind_one others z.scope (record x { next = z.next })

  -- the first block of an `if`
  pub first_leads : (z v : Before) (s : Scope) → Went p (block_typed one y) z m1 m2 → s ≡ z.scope → v ≡ record x { next = z.next } → Leads p whole (behind_one others s v) m0 m2
  first_leads z v s w e d =
      subst (λ (c : Scope). Leads p whole (behind_one others c v) m0 m2) (sym e)
      (subst (λ (b : Before). Leads p whole (behind_one others z.scope b) m0 m2) (sym d)
      (leads_then (block_typed one x) choice_go l (subst (λ (b : Before). Went p (block_typed one b) z m1 m2) same w)))

  pub first_fault : {B D : Type 0} (given : D → Before) (left : B → Plan Before) (later : Resolved) (f : CheckFault) → PlanTold p (block_typed one y) given m1 m2 (Err f)
      → LeadsTold p whole left m0 later (Err f)
  first_fault given left later (Refused r) g =
      l.gives r (then_refuses p (block_typed one x) choice_go r (subst (λ (b : Before). Gives p (block_typed one b) (Err r)) same g))
  first_fault given left later Memory g = tt

module _ (p : Program) (body : List StmtTyping) (whole : Plan Before) (x y : Before) (m0 m1 m2 : Resolved) (same : y ≡ x) (l : Leads p whole (loop_typed body x) m0 m1) where
  abbrev loop_go : Before → Plan Before
  loop_go z = done (record x { next = z.next })

  -- the block of a `while`
  pub loop_went : (z v : Before) → Went p (block_typed body y) z m1 m2 → v ≡ record x { next = z.next } → Went p whole v m0 m2
  loop_went z v w d =
      ended p whole (record x { next = z.next }) v m0 m2 m2
      (leads_then (block_typed body x) loop_go l (subst (λ (b : Before). Went p (block_typed body b) z m1 m2) same w)) d refl

  pub loop_fault : {B D : Type 0} (given : D → Before) (show : B → Before) (later : Resolved) (f : CheckFault) → PlanTold p (block_typed body y) given m1 m2 (Err f)
      → PlanTold p whole show m0 later (Err f)
  loop_fault given show later f g =
      leads_fault given show (block_typed body x) loop_go m2 later l f (subst (λ (b : Before). PlanTold p (block_typed body b) given m1 m2 (Err f)) same g)

-- ---- where they stand

-- out of a block with as many variables and paths
pub left_at : (a : Env) (x : Locals) (n k i j : ℕ) (b : Env) (y : Locals) → n ≡ i → k ≡ j → IsLeft a x n k b y → IsLeft a x i j b y
left_at a x n k i j b y e f l = subst (λ (v : ℕ). IsLeft a x v j b y) e (subst (λ (v : ℕ). IsLeft a x n v b y) f l)

module _ (p : Program) (C : Path) (m : Name) (a : Env) (x : Locals) (b : Env) (y : Locals) where
  pub back_more : (c : Env) (z : Locals) → IsBack p C m a x b y → IsBack p C m b y c z → IsBack p C m a x c z
  back_more c z f g = record { before = g.before; vars = g.vars ∙ f.vars; declared = g.declared ∙ f.declared; next = omega (arith, f.next, g.next) }

  -- where an answer is Ok
  pub back_behind : (c : Env) (z : Locals) (r : Result (Unit {0}) CheckFault) → IsBack p C m a x b y → OnOk r (IsBack p C m b y c z) → OnOk r (IsBack p C m a x c z)
  back_behind c z (Ok u) f g = back_more c z f g
  back_behind c z (Err f) g h = tt

  pub after_back : (r : Result (Unit {0}) CheckFault) → IsBefore p C m a.pool a.vars.list x → OnOk r (IsBack p C m a x b y) → OnOk r (IsAfter p C m a x b y)
  after_back (Ok u) h g = back_after p C m a x b y h g
  after_back (Err f) h g = tt

  -- all is as it was, but for the pool
  pub back_kept : IsBefore p C m a.pool a.vars.list x → Keeps a.pool b.pool → b.vars.list ≡ a.vars.list → IsKept x y → IsBack p C m a x b y
  back_kept h k e i = record {
    before = before_again p C m a.pool a.vars.list x h b.pool b.vars.list y k e i.declared i.scope (omega (arith, i.next));
    vars = e;
    declared = i.declared;
    next = omega (arith, i.next);
  }

  -- back to the masks before
  module _ (h : IsBefore p C m a.pool a.vars.list x) (g : IsBack p C m a x b y) (k : Keeps a.pool b.pool) (z : Locals) (d : z.declared.binds.items ≡ y.declared.binds.items)
      (s : z.scope.binds.items ≡ x.scope.binds.items) (n : z.next ≡ y.next) where
    pub put_back : IsBack p C m a x b z
    put_back = record {
      before = before_again p C m a.pool a.vars.list x h b.pool b.vars.list z k g.vars (d ∙ g.declared) s (omega (arith, g.next, n));
      vars = g.vars;
      declared = d ∙ g.declared;
      next = omega (arith, g.next, n);
    }

    pub put_is : before_at b z ≡ record (before_at a x) { next = y.next }
    put_is =
        ap (λ (vs : List Var). before_in vs (scope_in b.pool z.scope) z.next) g.vars
        ∙ (ap (λ (c : Scope). before_in a.vars.list c z.next) (ap (binds_in b.pool) s ∙ scope_kept x.scope h.known k)
        ∙ ap (before_in a.vars.list (scope_in a.pool x.scope)) n)

    -- the end of the first block is the same but for masks
    pub put_same : map bare (scope_in b.pool y.scope) ≡ map bare (scope_in b.pool z.scope)
    put_same = g.before.agree ∙ sym put_back.before.agree

long : (pool : List Ty) (s : NumberScope) → length (map bare (scope_in pool s)) ≡ length s.binds.items
long pool s = length-map (scope_in pool s) bare ∙ (length-reverse (map (bind_in pool) s.binds.items) ∙ length-map s.binds.items (bind_in pool))

-- the second block of an `if`
module _ (p : Program) (C : Path) (m : Name) (a : Env) (x : Locals) (b : Env) (y : Locals) (first : NumberScope) (h : IsBefore p C m a.pool a.vars.list x) (g : IsBack p C m a x b y)
    (k : Keeps a.pool b.pool) (known : ScopeInPool a.pool first) (same : map bare (scope_in a.pool first) ≡ map bare (scope_in a.pool x.scope)) where
  pub ends_known : ScopeInPool b.pool first
  ends_known = scope_in_kept first known k

  pub ends_long : length first.binds.items ≡ length y.scope.binds.items
  ends_long =
      sym (long a.pool first) ∙ (ap length same ∙ (long a.pool x.scope
      ∙ (one_length p C m a.pool a.vars.list x h ∙ (ap length (sym g.declared) ∙ sym (one_length p C m b.pool b.vars.list y g.before)))))

  -- the first end, in the grown pool, is the declared scope but for masks
  first_bare : map bare (scope_in b.pool first) ≡ map bare (scope_of (site_with C m a.vars.list))
  first_bare = ap (map bare) (scope_kept first known k) ∙ (same ∙ h.agree)

  ends_bare : map bare (scope_in b.pool first) ≡ map bare (scope_in b.pool y.scope)
  ends_bare = first_bare ∙ sym (g.before.agree ∙ ap (λ (vs : List Var). map bare (scope_of (site_with C m vs))) g.vars)

  module _ (c : Env) (z : Locals) (grows : Keeps b.pool c.pool) (vars : c.vars.list ≡ b.vars.list) (declared : z.declared.binds.items ≡ y.declared.binds.items) (next : z.next ≡ y.next)
      (joins : Notes p (joined (scope_in b.pool first) (scope_in b.pool y.scope)) [] (scope_in c.pool z.scope)) (has : ScopeInPool c.pool z.scope) where
    both_bare : map bare (scope_in c.pool z.scope) ≡ map bare (scope_in b.pool y.scope)
    both_bare =
        joined_bare p (scope_in b.pool first) (scope_in b.pool y.scope) (scope_in c.pool z.scope)
        (zeroed (scope_in b.pool first) (scope_of (site_with C m a.vars.list)) (Q C m a.vars.list) first_bare h.fits.binds (this_there C m a.vars.list))
        ends_bare (notes_give p (joined (scope_in b.pool first) (scope_in b.pool y.scope)) [] (scope_in c.pool z.scope) joins)
        ∙ ends_bare

    pub joined_back : IsBack p C m a x c z
    joined_back = record {
      before = before_with p C m b.pool c.pool b.vars.list c.vars.list y z g.before grows vars declared has both_bare (omega (arith, next));
      vars = vars ∙ g.vars;
      declared = declared ∙ g.declared;
      next = omega (arith, g.next, next);
    }

    pub joined_went : (ss : List StmtTyping) (m0 m1 : Resolved) → Went p (block_typed ss (before_at a x)) (before_at b y) m0 m1
        → Went p (behind_one ss (scope_in a.pool first) (before_at a x)) (before_at c z) m0 m1
    joined_went ss m0 m1 w =
        behind_went p ss (before_at a x) m0 m1 (scope_in a.pool first) (before_at b y) (before_at c z) (scope_in c.pool z.scope) w
        (subst (λ (s : Scope). Notes p (joined s (scope_in b.pool y.scope)) [] (scope_in c.pool z.scope)) (scope_kept first known k) joins)
        (ap (λ (vs : List Var). before_in vs (scope_in c.pool z.scope) z.next) (vars ∙ g.vars) ∙ ap (before_in a.vars.list (scope_in c.pool z.scope)) next)
