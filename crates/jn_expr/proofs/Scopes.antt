-- Scopes that grow, and what stays of an Env.
use Rattle.std.proofs.Common.{◌≡◌, ◌≤◌, ◌+◌, ◌-◌, ◌<◌, ℕ, zero, suc, add-one, arith, Bool, true, false, List, [], ◌∷◌, ◌++◌, length, take, drop, map, reverse, refl, sym, ap, ◌∙◌, subst, All, get_or, append-nil, append_assoc, nat_lt, cond, ltb-true, Option, Some, None}
use Rattle.std.proofs.lemmas.Bool.{eq-eqb, ne_eqb, ltb-false, lt-ltb, le-ltb}
use Rattle.std.proofs.lemmas.List.{reverse-append, map-append, length-map, length-reverse, get_or-map, take_more, take_all, drop_all}
use Rattle.std.proofs.lemmas.List.Elements.{All-append, All-cons, All-nil}
use Rattle.jn_base.specs.declared.tree.Program.{Program}
use Rattle.jn_base.specs.declared.types.Ty.{Ty}
use Rattle.jn_base.specs.Atoms.{no_masks, Among, first, later}
use Rattle.jn_base.specs.Scopes.{Bind as TypeBind, Scope as TypeScope, Binds, this_bind}
use Rattle.jn_base.specs.Fits.{TypeFits, BindsFit, ScopeFits}
use Rattle.jn_base.specs.declared.tree.Name.{Name}
use Rattle.jn_base.specs.declared.names.Var.{Var}
use Rattle.jn_base.specs.declared.names.Role.TheVariants as role
use Rattle.jn_base.specs.Paths.{Path}
use Rattle.jn_base.specs.Resolve.{class_of, var_bind}
use Rattle.jn_sem.specs.Terms.{spot_at}
use Rattle.jn_sem.proofs.Codes.{reversed_at}
use Rattle.jn_sem.proofs.NormalTypes.{map_among}
use Rattle.jn_laws.specs.LawsOfWritten.{site_with, scope_of}
use Rattle.jn_laws.proofs.Terms.{reverse_among}
use Rattle.jn_intern.specs.declared.pool.TyId.{TyId}
use Rattle.jn_intern.specs.declared.scope.Bind.{Bind}
use Rattle.jn_intern.specs.declared.scope.Scope.{Scope}
use Rattle.jn_intern.specs.Pools.{InPool, shown, Keeps, bind_in, scope_in}
use Rattle.jn_intern.proofs.Pools.{keeps_same, keeps_more, scope_in_kept, scope_kept}
use Rattle.jn_subtype.specs.Binds.{binds_in}
use Rattle.jn_rules.specs.Exprs.{Passing, bind, fresh_paths, next_path, path_or_fresh, masks_at}
use Rattle.jn_rules.specs.Questions.{masks_of}
use Rattle.jn_expr.specs.declared.env.Env.{Env}
use Rattle.jn_expr.specs.Envs.{Parts, parts, ArePartsOf, InOrder, IsScope, Stays}
use Rattle.jn_expr.specs.Passing.{Grows, IsPassing}

-- ---- what stays

pub stays_same : (e : Env) → Stays e e
stays_same e = record { same = refl; pool = keeps_same e.pool }

pub stays_more : {a b c : Env} → Stays a b → Stays b c → Stays a c
stays_more f g = record { same = g.same ∙ f.same; pool = keeps_more f.pool g.pool }

pub parts_stay : {p : Program} {a b : Env} → ArePartsOf p (parts a) → Stays a b → ArePartsOf p (parts b)
parts_stay {p} h s = subst (ArePartsOf p) (sym s.same) h

pub vars_stay : {a b : Env} → Stays a b → b.vars.list ≡ a.vars.list
vars_stay s = ap (λ (x : Parts). x.vars) s.same

pub scope_stays : {old new : List Ty} {scope : Scope} → IsScope old scope → Keeps old new → IsScope new scope
scope_stays {old} {new} {scope} s k = record {
  known = scope_in_kept scope s.known k;
  fits = subst ScopeFits (sym (scope_kept scope s.known k)) s.fits;
  order = subst InOrder (sym (scope_kept scope s.known k)) s.order;
}

-- ---- more binds

pub grows_none : (s : Scope) → Grows s s
grows_none s = record { more = []; is = sym (append-nil s.binds.items) }

pub grows_more : {a b c : Scope} → Grows a b → Grows b c → Grows a c
grows_more {a} {b} {c} f g = record {
  more = f.more ++ g.more;
  is = g.is ∙ (ap (λ (l : List Bind). l ++ g.more) f.is ∙ append_assoc a.binds.items f.more g.more);
}

pub one_more : (pool : List Ty) (xs : List Bind) (b : Bind) → binds_in pool (xs ++ b ∷ []) ≡ bind_in pool b ∷ binds_in pool xs
one_more pool xs b =
    ap reverse (map-append (bind_in pool) xs (b ∷ [])) ∙ reverse-append (map (bind_in pool) xs) (bind_in pool b ∷ [])

pub next_front : (pool : List Ty) (xs : List Bind) (i : ℕ) (b : Bind) → i < length xs → b ≡ get_or xs i b
    → binds_in pool (take (i + 1) xs) ≡ bind_in pool b ∷ binds_in pool (take i xs)
next_front pool xs i b l e =
    ap (λ (l : List Bind). binds_in pool l) (take_more xs i b l ∙ ap (λ (x : Bind). take i xs ++ x ∷ []) (sym e)) ∙ one_more pool (take i xs) b

pub whole_front : (pool : List Ty) (xs : List Bind) (i : ℕ) → length xs ≤ i → binds_in pool (take i xs) ≡ binds_in pool xs
whole_front pool xs i l = ap (λ (l : List Bind). binds_in pool l) (take_all i xs l)

-- ---- fresh paths

-- no path of a scope has the next number
pub below_next : (s : TypeScope) → InOrder s → (b : TypeBind) → Among s b → b.path < next_path s
below_next [] o b m = elim m [ ]
below_next (c ∷ s) o _ first = at (nat_lt c.path 256) refl where
  at : (t : Bool) → nat_lt c.path 256 ≡ t → c.path < 256 + cond t (fresh_paths s) (suc (fresh_paths s))
  at true e = let l = ltb-true c.path 256 e in omega (arith, l)
  at false e = let l = o.1 (ltb-false c.path 256 e) in omega (arith, l)
below_next (c ∷ s) o b (later m) = let l = below_next s o.0 b m in at (nat_lt c.path 256) l where
  at : (t : Bool) → b.path < 256 + fresh_paths s → b.path < 256 + cond t (fresh_paths s) (suc (fresh_paths s))
  at true l = l
  at false l = omega (arith, l)

next_free : (s : TypeScope) → InOrder s → Binds s (next_path s) → ⊥
next_free s o c = let l = below_next s o c.bind c.among in omega (arith, l, c.is)

-- no path of the variables is a fresh one
pub low_scope : (C : Path) (m : Name) (vars : List Var) → ((v : Var) → Among vars v → v.path < 256) → (b : TypeBind) → Among (scope_of (site_with C m vars)) b → b.path < 256
low_scope C m vars low b n = in_all b (reverse_among (this_bind (class_of (spot_at (site_with C m vars) role.Value)) ∷ map var_bind vars) b n) where
  in_all : (d : TypeBind) → Among (this_bind (class_of (spot_at (site_with C m vars) role.Value)) ∷ map var_bind vars) d → d.path < 256
  in_all _ first = omega arith
  in_all d (later k) =
      let r = map_among var_bind vars d k in
      let i : r.0.path ≡ d.path = ap (λ (c : TypeBind). c.path) r.2 in
      let l = low r.0 r.1 in
      omega (arith, l, i)

pub low_in_order : (s : TypeScope) → ((b : TypeBind) → Among s b → b.path < 256) → InOrder s
low_in_order [] low = tt
low_in_order (b ∷ s) low = (low_in_order s (λ c m. low c (later m)), λ l. absurd (let k = low b first in omega (arith, l, k)))

rest_in_order : (s : TypeScope) (i : ℕ) → InOrder s → InOrder (drop i s)
rest_in_order s zero o = o
rest_in_order [] (suc i) o = o
rest_in_order (b ∷ s) (suc i) o = rest_in_order s i o.0

module _ (pool : List Ty) (bs : List Bind) (i : ℕ) (d : Bind) (l : i < length bs) where
  abbrev b : Bind
  b = get_or bs (length bs - 1 - i) d

  -- the i-th bind from the newest one
  turn : drop i (binds_in pool bs) ≡ bind_in pool b ∷ drop (suc i) (binds_in pool bs)
  turn =
      let types : List TypeBind = map (bind_in pool) bs in
      let read : get_or types (length types - 1 - i) (bind_in pool b) ≡ bind_in pool b =
      ap (λ (n : ℕ). get_or types (n - 1 - i) (bind_in pool b)) (length-map bs (bind_in pool))
      ∙ get_or-map (bind_in pool) bs (length bs - 1 - i) d (bind_in pool b) (omega (arith, l)) in
      reversed_at types i (bind_in pool b) (omega (arith, l, length-map bs (bind_in pool))) ∙ ap (λ (c : TypeBind). c ∷ drop (suc i) (binds_in pool bs)) read

  -- one that is not fresh doesn't count
  pub old_turn : (b.path < 256) → fresh_paths (drop i (binds_in pool bs)) ≡ fresh_paths (binds_in pool bs) → fresh_paths (drop (i + 1) (binds_in pool bs)) ≡ fresh_paths (binds_in pool bs)
  old_turn h e =
      ap (λ (n : ℕ). fresh_paths (drop n (binds_in pool bs))) (add-one i)
      ∙ (sym (ap fresh_paths turn ∙ ap (λ (t : Bool). cond t (fresh_paths (drop (suc i) (binds_in pool bs))) (suc (fresh_paths (drop (suc i) (binds_in pool bs))))) (lt-ltb b.path 256 h)) ∙ e)

  -- and behind one that is comes the next number
  pub fresh_turn : 256 ≤ b.path → fresh_paths (drop i (binds_in pool bs)) ≡ fresh_paths (binds_in pool bs) → InOrder (binds_in pool bs) → suc b.path ≡ next_path (binds_in pool bs)
  fresh_turn h e o =
      let at : b.path ≡ next_path (drop (suc i) (binds_in pool bs)) = (subst InOrder turn (rest_in_order (binds_in pool bs) i o)).1 h in
      let counted : fresh_paths (drop i (binds_in pool bs)) ≡ suc (fresh_paths (drop (suc i) (binds_in pool bs))) =
      ap fresh_paths turn ∙ ap (λ (t : Bool). cond t (fresh_paths (drop (suc i) (binds_in pool bs))) (suc (fresh_paths (drop (suc i) (binds_in pool bs))))) (le-ltb b.path 256 h) in
      omega (arith, at, counted, e)

-- where none is, it is the first one
pub first_fresh : (pool : List Ty) (bs : List Bind) (i : ℕ) → length bs ≤ i → fresh_paths (drop i (binds_in pool bs)) ≡ fresh_paths (binds_in pool bs) → 256 ≡ next_path (binds_in pool bs)
first_fresh pool bs i l e =
    let long : length (binds_in pool bs) ≤ i = omega (arith, l, length-reverse (map (bind_in pool) bs), length-map bs (bind_in pool)) in
    let none : fresh_paths (drop i (binds_in pool bs)) ≡ 0 = ap fresh_paths (drop_all i (binds_in pool bs) long) in
    omega (arith, none, e)

pub fresh_bound : (pool : List Ty) (old new : Scope) (id : TyId) (q : ℕ) → IsScope pool old → InPool pool id
    → TypeFits (scope_in pool old) (shown pool id) → q ≡ next_path (scope_in pool old)
    → new.binds.items ≡ old.binds.items ++ record { path = q; ty = id } ∷ [] → IsPassing pool old new (shown pool id) None q
fresh_bound pool old new id q s has fits is e = record {
  is = ap (λ (c : TypeScope). let x : Passing = record { path = q; scope = c } in x) pushed
      ∙ ap (λ (n : ℕ). let x : Passing = record { path = n; scope = bind n (shown pool id) ∷ scope_in pool old } in x) is;
  scope = record {
    known = subst (λ (xs : List Bind). All (λ (c : Bind). InPool pool c.ty) xs) (sym e)
        (All-append (λ (c : Bind). InPool pool c.ty) old.binds.items (b ∷ []) s.known
        (All-cons (λ (c : Bind). InPool pool c.ty) b [] has (All-nil (λ (c : Bind). InPool pool c.ty))));
    fits = subst ScopeFits (sym pushed) (record {
      binds = (s.fits.binds, λ c. next_free (scope_in pool old) s.order (subst (Binds (scope_in pool old)) is c), fits);
      class_of_this = s.fits.class_of_this;
      this = later s.fits.this;
    });
    order = subst InOrder (sym pushed) (s.order, λ l. is);
  };
  grows = record { more = b ∷ []; is = e };
} where
  b : Bind
  b = record { path = q; ty = id }

  pushed : scope_in pool new ≡ bind q (shown pool id) ∷ scope_in pool old
  pushed = ap (λ (xs : List Bind). binds_in pool xs) e ∙ one_more pool old.binds.items b

pub own_path : (pool : List Ty) (scope : Scope) (t : Ty) (path : Option ℕ) (q : ℕ) → IsScope pool scope → path ≡ Some q → IsPassing pool scope scope t path q
own_path pool scope t path q s e = record {
  is = ap (λ (o : Option ℕ). path_or_fresh t o (scope_in pool scope)) (sym e);
  scope = s;
  grows = grows_none scope;
}

pub no_path : (pool : List Ty) (old new : Scope) (t : Ty) (path : Option ℕ) (q : ℕ) → path ≡ None → IsPassing pool old new t None q → IsPassing pool old new t path q
no_path pool old new t path q e h = subst (λ (o : Option ℕ). IsPassing pool old new t o q) (sym e) h

-- ---- present masks

pub bound_masks : (s : TypeScope) (b : TypeBind) (q : ℕ) → BindsFit s → Among s b → b.path ≡ q → masks_at s q ≡ masks_of b.ty
bound_masks _ _ q f (first {x = b} {xs = s}) e = ap (λ (t : Bool). cond t (masks_of b.ty) (masks_at s q)) (eq-eqb q b.path (sym e))
bound_masks _ b q f (later {y = c} {xs = s} m) e =
    ap (λ (t : Bool). cond t (masks_of c.ty) (masks_at s q)) (ne_eqb q c.path (λ h. f.1 (record { bind = b; among = m; is = e ∙ h })))
    ∙ bound_masks s b q f.0 m e

pub unbound_masks : (s : TypeScope) (q : ℕ) → ((b : TypeBind) → Among s b → b.path ≡ q → ⊥) → masks_at s q ≡ no_masks
unbound_masks [] q n = refl
unbound_masks (b ∷ s) q n =
    ap (λ (t : Bool). cond t (masks_of b.ty) (masks_at s q)) (ne_eqb q b.path (λ h. n b first (sym h))) ∙ unbound_masks s q (λ c m. n c (later m))
