-- Where a statement stands: scopes that fit, one more local, out of a block, and back to the masks before.
use Rattle.std.proofs.Common.{Bool, ◌≡◌, ◌<◌, ◌≤◌, ◌+◌, ◌-◌, ℕ, List, [], ◌∷◌, ◌++◌, length, length-append, take, drop, map, reverse, refl, sym, ap, ◌∙◌, subst, All, ◌⊎◌, inl, inr, arith, append-nil}
use Rattle.std.proofs.lemmas.List.{reverse-append, take-append-drop, length-reverse, length-map, length-take-le, drop-map, take-map}
use Rattle.std.proofs.lemmas.List.Elements.{All-append, All-cons, All-nil, All-take}
use Rattle.std.proofs.Math.Seq.{take-append_seam, drop-append_seam}
use Rattle.jn_base.specs.declared.tree.Name.{Name}
use Rattle.jn_base.specs.declared.tree.Program.{Program}
use Rattle.jn_base.specs.declared.types.Ty.{Ty}
use Rattle.jn_base.specs.declared.names.Var.{Var}
use Rattle.jn_base.specs.declared.names.Role.TheVariants as role
use Rattle.jn_base.specs.Paths.{Path}
use Rattle.jn_base.specs.Atoms.{Among, first, later}
use Rattle.jn_base.specs.Scopes.{Bind, Scope, Binds, this_bind}
use Rattle.jn_base.specs.Fits.{ScopeFits}
use Rattle.jn_base.specs.Resolve.{class_of, var_bind}
use Rattle.jn_sem.specs.Terms.{spot_at}
use Rattle.jn_sem.specs.Does.{var}
use Rattle.jn_sem.proofs.NormalTypes.{among_map, map_among}
use Rattle.jn_intern.specs.declared.pool.TyId.{TyId}
use Rattle.jn_intern.specs.declared.scope.Bind.{Bind as NumberBind}
use Rattle.jn_intern.specs.declared.scope.Scope.{Scope as NumberScope}
use Rattle.jn_intern.specs.Pools.{InPool, Keeps, ScopeInPool, shown, bind_in, scope_in}
use Rattle.jn_intern.proofs.Pools.{keeps_same, keeps_more, scope_in_kept, scope_kept}
use Rattle.jn_laws.specs.LawsOfWritten.{Shallow, site_with, scope_of, SiteFits, TypeThere}
use Rattle.jn_laws.proofs.Terms.{reverse_among}
use Rattle.jn_laws.proofs.WrittenTypes.{one_more, scope_more, among_more}
use Rattle.jn_subtype.specs.Binds.{binds_in}
use Rattle.jn_rules.specs.Stmts.{with_local, out_of}
use Rattle.jn_rule_laws.specs.LawsOfForms.{none as none_grown}
use Rattle.jn_expr.specs.declared.env.Env.{Env}
use Rattle.jn_expr.specs.Envs.{Parts, parts, ArePartsOf, IsScope, IsThere, Stays}
use Rattle.jn_expr.specs.Passing.{Grows}
use Rattle.jn_expr.proofs.Scopes.{low_scope, low_in_order, one_more as bind_more}
use Rattle.jn_check.specs.declared.state.Locals.{Locals}
use Rattle.jn_check.specs.Masks.{bare}
use Rattle.jn_check.specs.States.{before_in, before_at, IsBefore, IsAfter, IsBack, IsKept, IsLeft, StaysButVars}
use Rattle.jn_check.proofs.Agreeing.{scope_fits_as, alike_bare, zeroed, Zeroed}

-- ---- what stays

pub stays_but : {a b : Env} → Stays a b → StaysButVars a b
stays_but {a} {b} s = record {
  same = s.same ∙ ap (λ (vs : List Var). record (parts a) { vars = vs }) (sym (ap (λ (x : Parts). x.vars) s.same));
  pool = s.pool;
}

pub but_more : {a b c : Env} → StaysButVars a b → StaysButVars b c → StaysButVars a c
but_more {a} {b} {c} f g = record {
  same = g.same ∙ ap (λ (x : Parts). record x { vars = c.vars.list }) f.same;
  pool = keeps_more f.pool g.pool;
}

pub but_same : (a : Env) → StaysButVars a a
but_same a = record { same = refl; pool = keeps_same a.pool }

pub parts_but : {p : Program} {a b : Env} → ArePartsOf p (parts a) → StaysButVars a b → ArePartsOf p (parts b)
parts_but {p} {a} {b} h s = subst (ArePartsOf p) (sym s.same) (record {
  once = h.once;
  well = h.well;
  filled = h.filled;
  shallow = h.shallow;
  members = h.members;
  groups = h.groups;
  slots = h.slots;
  masks = h.masks;
})

-- ---- the scope fits

last_among : {A : Type 0} (xs : List A) (x : A) → Among (xs ++ x ∷ []) x
last_among [] x = first
last_among (y ∷ xs) x = later (last_among xs x)

module _ (C : Path) (m : Name) (vars : List Var) where
  abbrev pub Q : Path
  Q = class_of (spot_at (site_with C m vars) role.Value)

  pub this_there : Among (scope_of (site_with C m vars)) (this_bind Q)
  this_there =
      subst (λ (c : Scope). Among c (this_bind Q)) (sym (reverse-append (this_bind Q ∷ []) (map var_bind vars)))
      (last_among (reverse (map var_bind vars)) (this_bind Q))

pub site_scope_fits : (p : Program) (C : Path) (m : Name) (vars : List Var) (s : Scope) → s ≡ scope_of (site_with C m vars) → SiteFits p (site_with C m vars) → ScopeFits s
site_scope_fits p C m vars s e f = subst ScopeFits (sym e) (record { binds = f.binds; class_of_this = Q C m vars; this = this_there C m vars })

-- no path is a fresh one where those of the other scope are none
alike_low : (s t : Scope) → map bare s ≡ map bare t → ((b : Bind) → Among t b → b.path < 256) → (b : Bind) → Among s b → b.path < 256
alike_low s t e low b m =
    let r = map_among bare t (bare b) (subst (λ (l : Scope). Among l (bare b)) e (among_map bare s b m)) in
    let i : r.0.path ≡ b.path = ap (λ (c : Bind). c.path) r.2 in
    let l = low r.0 r.1 in
    omega (arith, l, i)

-- an expression's fresh paths are gone
pub cut_back : (old new : NumberScope) (n : ℕ) (cut : List NumberBind) → n ≡ length old.binds.items → Grows old new → cut ≡ take n new.binds.items → cut ≡ old.binds.items
cut_back old new n cut e g c =
    c ∙ (ap (λ (k : ℕ). take k new.binds.items) e ∙ (ap (take (length old.binds.items)) g.is ∙ take-append_seam old.binds.items g.more))

module _ (p : Program) (C : Path) (m : Name) (pool : List Ty) (vars : List Var) (x : Locals) (h : IsBefore p C m pool vars x) where
  pub is_scope : IsScope pool x.scope
  is_scope = record {
    known = h.known;
    fits = scope_fits_as (scope_in pool x.scope) (scope_of (site_with C m vars)) (Q C m vars) h.agree h.fits.binds (this_there C m vars);
    order = low_in_order (scope_in pool x.scope) (alike_low (scope_in pool x.scope) (scope_of (site_with C m vars)) h.agree (low_scope C m vars h.low));
  }

  pub there_before : IsThere p (site_with C m vars) (scope_in pool x.scope)
  there_before = record {
    site = h.fits;
    scope = record {
      base = scope_in pool x.scope;
      alike = alike_bare (scope_in pool x.scope) (scope_of (site_with C m vars)) h.agree;
      grown = none_grown;
      binds = is_scope.fits.binds;
    };
  }

  pub declared_fits : ScopeFits (scope_in pool x.declared)
  declared_fits = subst ScopeFits (sym h.declared) (record { binds = h.fits.binds; class_of_this = Q C m vars; this = this_there C m vars })

  pub zeroed_there : Zeroed (scope_in pool x.scope)
  zeroed_there = zeroed (scope_in pool x.scope) (scope_of (site_with C m vars)) (Q C m vars) h.agree h.fits.binds (this_there C m vars)

  -- the same where the pool has grown, the scopes are as they were, and other numbers are taken
  pub before_again : (next : List Ty) (vs : List Var) (y : Locals) → Keeps pool next → vs ≡ vars → y.declared.binds.items ≡ x.declared.binds.items
      → y.scope.binds.items ≡ x.scope.binds.items → x.next ≤ y.next → IsBefore p C m next vs y
  before_again next vs y k e d s n = subst (λ (ws : List Var). IsBefore p C m next ws y) (sym e) (record {
    fits = h.fits;
    numbered = λ v a. let l = h.numbered v a in omega (arith, l, n);
    low = h.low;
    above = omega (arith, h.above, n);
    known_declared = subst (All (λ (b : NumberBind). InPool next b.ty)) (sym d) (scope_in_kept x.declared h.known_declared k);
    declared = ap (binds_in next) d ∙ (scope_kept x.declared h.known_declared k ∙ h.declared);
    known = subst (All (λ (b : NumberBind). InPool next b.ty)) (sym s) (scope_in_kept x.scope h.known k);
    agree = ap (λ (bs : List NumberBind). map bare (binds_in next bs)) s ∙ (ap (map bare) (scope_kept x.scope h.known k) ∙ h.agree);
  })

-- all is as it was, but for the pool
module _ (p : Program) (C : Path) (m : Name) (old : Env) (x : Locals) (new : Env) (y : Locals) (h : IsBefore p C m old.pool old.vars.list x) where
  pub after_kept : StaysButVars old new → new.vars.list ≡ old.vars.list → IsKept x y → IsAfter p C m old x new y
  after_kept s e k = record {
    before = before_again p C m old.pool old.vars.list x h new.pool new.vars.list y s.pool e k.declared k.scope (omega (arith, k.next));
    more = [];
    vars = e ∙ sym (append-nil old.vars.list);
    binds = [];
    declared = k.declared ∙ sym (append-nil x.declared.binds.items);
    next = omega (arith, k.next);
  }

  pub back_after : IsBack p C m old x new y → IsAfter p C m old x new y
  back_after b = record {
    before = b.before;
    more = [];
    vars = b.vars ∙ sym (append-nil old.vars.list);
    binds = [];
    declared = b.declared ∙ sym (append-nil x.declared.binds.items);
    next = b.next;
  }

  pub before_kept : Keeps old.pool new.pool → new.vars.list ≡ old.vars.list → IsKept x y → before_at new y ≡ before_at old x
  before_kept k e i =
      ap (λ (vs : List Var). before_in vs (scope_in new.pool y.scope) y.next) e
      ∙ (ap (λ (s : Scope). before_in old.vars.list s y.next) (ap (binds_in new.pool) i.scope ∙ scope_kept x.scope h.known k)
      ∙ ap (before_in old.vars.list (scope_in old.pool x.scope)) i.next)

-- with other masks
pub before_with : (p : Program) (C : Path) (m : Name) (pool next : List Ty) (vars vs : List Var) (x y : Locals) → IsBefore p C m pool vars x → Keeps pool next → vs ≡ vars
    → y.declared.binds.items ≡ x.declared.binds.items → ScopeInPool next y.scope → map bare (scope_in next y.scope) ≡ map bare (scope_in pool x.scope) → x.next ≤ y.next
    → IsBefore p C m next vs y
before_with p C m pool next vars vs x y h k e d known agree n = subst (λ (ws : List Var). IsBefore p C m next ws y) (sym e) (record {
  fits = h.fits;
  numbered = λ v a. let l = h.numbered v a in omega (arith, l, n);
  low = h.low;
  above = omega (arith, h.above, n);
  known_declared = subst (All (λ (b : NumberBind). InPool next b.ty)) (sym d) (scope_in_kept x.declared h.known_declared k);
  declared = ap (binds_in next) d ∙ (scope_kept x.declared h.known_declared k ∙ h.declared);
  known = known;
  agree = agree ∙ h.agree;
})

-- ---- one more local

module _ (old : Env) (x : Locals) (new : Env) (y : Locals) (name : Name) (fixed : Bool) (id : TyId) (has : InPool old.pool id) (pool : new.pool ≡ old.pool)
    (vars : new.vars.list ≡ old.vars.list ++ var name x.next fixed (shown old.pool id) ∷ [])
    (scope : y.scope.binds.items ≡ x.scope.binds.items ++ record { path = x.next; ty = id } ∷ []) (next : y.next ≡ x.next + 1) where
  abbrev pub v : Var
  v = var name x.next fixed (shown old.pool id)

  abbrev pub b : NumberBind
  b = record { path = x.next; ty = id }

  pushed : (s t : NumberScope) → t.binds.items ≡ s.binds.items ++ b ∷ [] → scope_in new.pool t ≡ var_bind v ∷ scope_in old.pool s
  pushed s t e = subst (λ (q : List Ty). binds_in q t.binds.items ≡ var_bind v ∷ scope_in old.pool s) (sym pool) (ap (binds_in old.pool) e ∙ bind_more old.pool s.binds.items b)

  pub added_is : before_at new y ≡ with_local (before_at old x) v
  added_is =
      ap (λ (vs : List Var). before_in vs (scope_in new.pool y.scope) y.next) vars
      ∙ (ap (λ (s : Scope). before_in (old.vars.list ++ v ∷ []) s y.next) (pushed x.scope y.scope scope)
      ∙ ap (before_in (old.vars.list ++ v ∷ []) (var_bind v ∷ scope_in old.pool x.scope)) (next ∙ omega arith))

  pushed_known : (s t : NumberScope) → t.binds.items ≡ s.binds.items ++ b ∷ [] → ScopeInPool old.pool s → ScopeInPool new.pool t
  pushed_known s t e k =
      subst (λ (q : List Ty). ScopeInPool q t) (sym pool)
      (subst (All (λ (c : NumberBind). InPool old.pool c.ty)) (sym e)
      (All-append (λ (c : NumberBind). InPool old.pool c.ty) s.binds.items (b ∷ []) k
      (All-cons (λ (c : NumberBind). InPool old.pool c.ty) b [] has (All-nil (λ (c : NumberBind). InPool old.pool c.ty)))))

  module _ (declared : y.declared.binds.items ≡ x.declared.binds.items ++ b ∷ []) (room : x.next < 256) (p : Program) (C : Path) (m : Name) (h : IsBefore p C m old.pool old.vars.list x) (deep : Shallow p)
      (there : TypeThere (site_with C m old.vars.list) (shown old.pool id)) where
    free : Binds (scope_of (site_with C m old.vars.list)) x.next → ⊥
    free c = in_all c.bind (reverse_among (this_bind (Q C m old.vars.list) ∷ map var_bind old.vars.list) c.bind c.among) c.is where
      in_all : (d : Bind) → Among (this_bind (Q C m old.vars.list) ∷ map var_bind old.vars.list) d → d.path ≡ x.next → ⊥
      in_all _ first e = omega (arith, e, h.above)
      in_all d (later n) e =
          let r = map_among var_bind old.vars.list d n in
          let i : r.0.path ≡ d.path = ap (λ (c : Bind). c.path) r.2 in
          let l = h.numbered r.0 r.1 in
          omega (arith, l, i, e)

    numbered : (w : Var) → Among (old.vars.list ++ v ∷ []) w → w.path < y.next
    numbered w n = split (among_more p deep old.vars.list v w n) where
      split : Among old.vars.list w ⊎ (w ≡ v) → w.path < y.next
      split (inl o) = let l = h.numbered w o in omega (arith, l, next)
      split (inr e) = let i : w.path ≡ x.next = ap (λ (u : Var). u.path) e in omega (arith, i, next)

    low : (w : Var) → Among (old.vars.list ++ v ∷ []) w → w.path < 256
    low w n = split (among_more p deep old.vars.list v w n) where
      split : Among old.vars.list w ⊎ (w ≡ v) → w.path < 256
      split (inl o) = h.low w o
      split (inr e) = let i : w.path ≡ x.next = ap (λ (u : Var). u.path) e in omega (arith, i, room)

    scope_there : scope_of (site_with C m (old.vars.list ++ v ∷ [])) ≡ var_bind v ∷ scope_of (site_with C m old.vars.list)
    scope_there = scope_more p deep (site_with C m old.vars.list) v

    pub added_after : IsAfter p C m old x new y
    added_after = record {
      before = subst (λ (ws : List Var). IsBefore p C m new.pool ws y) (sym vars) (record {
        fits = one_more p deep (site_with C m old.vars.list) v h.fits there free;
        numbered = numbered;
        low = low;
        above = omega (arith, next);
        known_declared = pushed_known x.declared y.declared declared h.known_declared;
        declared = pushed x.declared y.declared declared ∙ (ap (λ (s : Scope). var_bind v ∷ s) h.declared ∙ sym scope_there);
        known = pushed_known x.scope y.scope scope h.known;
        agree = ap (map bare) (pushed x.scope y.scope scope) ∙ (ap (λ (s : Scope). bare (var_bind v) ∷ s) h.agree ∙ ap (map bare) (sym scope_there));
      });
      more = v ∷ [];
      vars = vars;
      binds = b ∷ [];
      declared = declared;
      next = omega (arith, next);
    }

-- ---- out of a block

reverse_front : {A : Type 0} (n : ℕ) (xs : List A) → reverse (take n xs) ≡ drop (length xs - length (take n xs)) (reverse xs)
reverse_front {A} n xs =
    let whole : reverse (drop n xs) ++ reverse (take n xs) ≡ reverse xs = sym (reverse-append (take n xs) (drop n xs)) ∙ ap reverse (take-append-drop n xs) in
    let long : length (reverse (drop n xs)) ≡ length xs - length (take n xs) =
    length-reverse (drop n xs) ∙ by_length (length (take n xs)) (length (drop n xs)) (length xs) (sym (length-append (take n xs) (drop n xs)) ∙ ap length (take-append-drop n xs)) in
    sym (drop-append_seam (reverse (drop n xs)) (reverse (take n xs)))
    ∙ (ap (λ (k : ℕ). drop k (reverse (drop n xs) ++ reverse (take n xs))) long ∙ ap (drop (length xs - length (take n xs))) whole)
  where
    by_length : (a b c : ℕ) → a + b ≡ c → b ≡ c - a
    by_length a b c e = omega (arith, e)

scope_front : (pool : List Ty) (n : ℕ) (xs : List NumberBind) → n ≤ length xs → binds_in pool (take n xs) ≡ drop (length (binds_in pool xs) - n) (binds_in pool xs)
scope_front pool n xs l =
    ap reverse (sym (take-map (bind_in pool) n xs))
    ∙ (reverse_front n (map (bind_in pool) xs)
    ∙ ap (λ (k : ℕ). drop k (binds_in pool xs)) (by_long (length (map (bind_in pool) xs)) (length (take n (map (bind_in pool) xs))) (length (binds_in pool xs)) (sym (length-reverse (map (bind_in pool) xs)))
    (length-take-le n (map (bind_in pool) xs) (omega (arith, l, length-map xs (bind_in pool))))))
  where
    by_long : (a b c : ℕ) → a ≡ c → b ≡ n → a - b ≡ c - n
    by_long a b c e f = omega (arith, e, f)

long_scope : (pool : List Ty) (s : NumberScope) → length (scope_in pool s) ≡ length s.binds.items
long_scope pool s = length-reverse (map (bind_in pool) s.binds.items) ∙ length-map s.binds.items (bind_in pool)

-- both scopes have as many paths
pub one_length : (p : Program) (C : Path) (m : Name) (pool : List Ty) (vars : List Var) (x : Locals) → IsBefore p C m pool vars x
    → length x.scope.binds.items ≡ length x.declared.binds.items
one_length p C m pool vars x h =
    sym (long_scope pool x.scope)
    ∙ (sym (length-map (scope_in pool x.scope) bare) ∙ (ap length h.agree ∙ (length-map (scope_of (site_with C m vars)) bare
    ∙ (ap length (sym h.declared) ∙ long_scope pool x.declared))))

module _ (p : Program) (C : Path) (m : Name) (old : Env) (x : Locals) (mid : Env) (z : Locals) (new : Env) (y : Locals) (h : IsBefore p C m old.pool old.vars.list x)
    (a : IsAfter p C m old x mid z) (keeps : Keeps old.pool mid.pool) (left : IsLeft mid z (length old.vars.list) (length x.scope.binds.items) new y) where
  vars_back : new.vars.list ≡ old.vars.list
  vars_back = ap (λ (q : Parts). q.vars) left.same ∙ (ap (take (length old.vars.list)) a.vars ∙ take-append_seam old.vars.list a.more)

  declared_back : y.declared.binds.items ≡ x.declared.binds.items
  declared_back =
      left.declared
      ∙ (ap (λ (k : ℕ). take k z.declared.binds.items) (one_length p C m old.pool old.vars.list x h)
      ∙ (ap (take (length x.declared.binds.items)) a.declared ∙ take-append_seam x.declared.binds.items a.binds))

  longer : length x.scope.binds.items ≤ length z.scope.binds.items
  longer = omega (
    arith,
    one_length p C m old.pool old.vars.list x h,
    one_length p C m mid.pool mid.vars.list z a.before,
    ap length a.declared,
    length-append x.declared.binds.items a.binds,
  )

  scope_back : scope_in new.pool y.scope ≡ drop (length (scope_in mid.pool z.scope) - length x.scope.binds.items) (scope_in mid.pool z.scope)
  scope_back =
      ap (λ (q : List Ty). scope_in q y.scope) left.pool
      ∙ (ap (binds_in mid.pool) left.scope ∙ scope_front mid.pool (length x.scope.binds.items) z.scope.binds.items longer)

  -- the declared ones, cut likewise, are those before
  declared_cut : scope_in old.pool x.declared ≡ drop (length (scope_in mid.pool z.scope) - length x.scope.binds.items) (scope_in mid.pool z.declared)
  declared_cut =
      let same : length z.scope.binds.items ≡ length z.declared.binds.items = one_length p C m mid.pool mid.vars.list z a.before in
      let front : x.declared.binds.items ≡ take (length x.scope.binds.items) z.declared.binds.items = sym declared_back ∙ left.declared in
      sym (scope_kept x.declared h.known_declared keeps)
      ∙ (ap (binds_in mid.pool) front
      ∙ (scope_front mid.pool (length x.scope.binds.items) z.declared.binds.items (omega (arith, longer, same))
      ∙ ap (λ (k : ℕ). drop (k - length x.scope.binds.items) (scope_in mid.pool z.declared)) (long_scope mid.pool z.declared ∙ (sym same ∙ sym (long_scope mid.pool z.scope)))))

  agree_back : map bare (scope_in new.pool y.scope) ≡ map bare (scope_of (site_with C m old.vars.list))
  agree_back =
      let k : ℕ = length (scope_in mid.pool z.scope) - length x.scope.binds.items in
      ap (map bare) scope_back
      ∙ (sym (drop-map bare k (scope_in mid.pool z.scope))
      ∙ (ap (drop k) (a.before.agree ∙ ap (map bare) (sym a.before.declared))
      ∙ (drop-map bare k (scope_in mid.pool z.declared)
      ∙ (ap (map bare) (sym declared_cut) ∙ ap (map bare) h.declared))))

  pub left_back : IsBack p C m old x new y
  left_back = record {
    before = subst (λ (ws : List Var). IsBefore p C m new.pool ws y) (sym vars_back) (record {
      fits = h.fits;
      numbered = λ v n. let l = h.numbered v n in omega (arith, l, a.next, left.next);
      low = h.low;
      above = omega (arith, h.above, a.next, left.next);
      known_declared = subst (λ (q : List Ty). ScopeInPool q y.declared) (sym left.pool)
          (subst (All (λ (b : NumberBind). InPool mid.pool b.ty)) (sym declared_back) (scope_in_kept x.declared h.known_declared keeps));
      declared = ap (λ (q : List Ty). scope_in q y.declared) left.pool
          ∙ (ap (binds_in mid.pool) declared_back ∙ (scope_kept x.declared h.known_declared keeps ∙ h.declared));
      known = subst (λ (q : List Ty). ScopeInPool q y.scope) (sym left.pool)
          (subst (All (λ (b : NumberBind). InPool mid.pool b.ty)) (sym left.scope)
          (All-take (λ (b : NumberBind). InPool mid.pool b.ty) (length x.scope.binds.items) z.scope.binds.items a.before.known));
      agree = agree_back;
    });
    vars = vars_back;
    declared = declared_back;
    next = omega (arith, a.next, left.next);
  }

  pub left_is : before_at new y ≡ out_of (before_at old x) (before_at mid z)
  left_is =
      ap (λ (vs : List Var). before_in vs (scope_in new.pool y.scope) y.next) vars_back
      ∙ (ap (λ (s : Scope). before_in old.vars.list s y.next)
      (scope_back ∙ ap (λ (k : ℕ). drop (length (scope_in mid.pool z.scope) - k) (scope_in mid.pool z.scope)) (sym (long_scope old.pool x.scope)))
      ∙ ap (before_in old.vars.list (drop (length (scope_in mid.pool z.scope) - length (scope_in old.pool x.scope)) (scope_in mid.pool z.scope))) left.next)

  pub left_stays : StaysButVars old mid → StaysButVars old new
  left_stays s = record {
    same = left.same
        ∙ (ap (λ (q : Parts). record q { vars = take (length old.vars.list) mid.vars.list }) s.same
        ∙ ap (λ (vs : List Var). record (parts old) { vars = vs }) (sym (ap (λ (q : Parts). q.vars) left.same)));
    pool = subst (Keeps old.pool) (sym left.pool) s.pool;
  }
