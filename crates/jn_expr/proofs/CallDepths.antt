-- Calls of bodies whose headers fit: their paths are as deep as `this` and the parameters, so the types of parameters and of the
-- result fit with those paths put.
use Rattle.std.proofs.Common.{◌≡◌, ◌≤◌, ◌<◌, ◌+◌, ◌-◌, ◌++◌, ℕ, suc, List, [], ◌∷◌, length, reverse, slice_get, Bool, true, false, Option, Some, None, refl, sym, ap, ◌∙◌, subst, arith, append_assoc, append-nil, Result, Ok}
use Rattle.std.proofs.lemmas.List.{reverse-reverse, length-append, length-map}
use Rattle.jn_base.specs.declared.tree.Name.{Name}
use Rattle.jn_base.specs.declared.tree.Method.{Method}
use Rattle.jn_base.specs.declared.tree.TypeTerm.{TypeTerm}
use Rattle.jn_base.specs.declared.tree.Program.{Program}
use Rattle.jn_base.specs.declared.types.Ty.{Ty}
use Rattle.jn_base.specs.declared.types.Ty.TheVariants as ty
use Rattle.jn_base.specs.declared.names.Role.TheVariants as role
use Rattle.jn_base.specs.declared.names.Var.{Var}
use Rattle.jn_base.specs.Paths.{Path}
use Rattle.jn_base.specs.Members.{MethodAt, Least}
use Rattle.jn_base.specs.declared.types.Anchor.TheVariants.{Up}
use Rattle.jn_base.specs.Atoms.{Atom, atom, atom_of, shown_atom, anchor_at, atoms_in, Among, first}
use Rattle.jn_base.specs.Scopes.{Scope as TypeScope, bound_of, bound, Binds}
use Rattle.jn_base.specs.Fits.{Anchored, TypeFits, BindsFit}
use Rattle.jn_base.specs.Resolve.{is_class}
use Rattle.jn_base.proofs.SuperLaws.{sup_level}
use Rattle.jn_base.proofs.Reaching.{declared_in_universe}
use Rattle.jn_sem.specs.Below.{Below, ints, booleans, nulls, classes}
use Rattle.jn_sem.specs.Does.{Body}
use Rattle.jn_sem.specs.Normal.{same_path, swapped, MovedFits}
use Rattle.jn_sem.specs.NormalFunction.{normal_type}
use Rattle.jn_sem.proofs.Under.{bound_later, type_anchored, anchored_later}
use Rattle.jn_intern.specs.declared.pool.TyId.{TyId}
use Rattle.jn_intern.specs.declared.scope.Scope.{Scope}
use Rattle.jn_intern.specs.Pools.{InPool, Keeps, shown, scope_in}
use Rattle.jn_intern.proofs.Pools.{scope_kept}
use Rattle.jn_heads.specs.declared.params.Header.{Header as CodeHeader}
use Rattle.jn_heads.specs.Params.{header_in}
use Rattle.jn_laws.specs.LawsOfFits.{AsDeep, PutAsDeep, MovedOf}
use Rattle.jn_laws.specs.LawsOfWritten.{Shallow}
use Rattle.jn_laws.specs.LawsOfSources.{WellFormed}
use Rattle.jn_laws.proofs.MovedTypes.{moved_types_fit, below_keeps_depth}
use Rattle.jn_laws.proofs.Terms.{this_bound}
use Rattle.jn_rules.specs.Questions.{Gives, HasMethod}
use Rattle.jn_rules.specs.Headers.{Header, header_typed, site_in}
use Rattle.jn_rules.specs.Exprs.{Typed, put_in, path_type, made_exact, replaced_paths, var_path, type_passed}
use Rattle.jn_rule_laws.specs.LawsOfOneHeader.{HeaderFits}
use Rattle.jn_rule_laws.specs.LawsOfForms.{Grown, none as none_grown, more as more_grown, PathKnown, PutFor, none as none_put, one as one_put, header_scope, ParamKnown, CallsOf}
use Rattle.jn_rule_laws.proofs.CallTypes.{call_types_fit}
use Rattle.jn_rule_laws.proofs.FoundMembers.{found_at}
use Rattle.jn_rule_laws.proofs.HeaderLaws.{headers_are_the_meanings}
use Rattle.jn_rule_laws.proofs.KnownTypes.{path_known, of_path_known}
use Rattle.jn_rule_laws.proofs.OneHeaders.{headers_fit}
use Rattle.jn_expr.specs.declared.env.Call.{Call}
use Rattle.jn_expr.specs.Envs.{IsScope}
use Rattle.jn_expr.specs.Passing.{Grows, IsPassing}
use Rattle.jn_expr.specs.Found.{LeastAt, MethodFound, ConstructorFrom}
use Rattle.jn_expr.specs.Steps.{IsCall}
use Rattle.jn_expr.specs.Calling.{body_of, Begins, DeepAs, CallFits}
use Rattle.jn_expr.specs.Values.{TypedFits}
use Rattle.jn_expr.specs.Variables.{PathThere}
use Rattle.jn_expr.proofs.Typeds.{binds_grown, bounds_grown, scope_grown, passed_known, passed_fits}

-- ---- headers

pub own_name : {p : Program} {Q : Path} {m : Name} {x : Method} → MethodAt p Q m x → MethodAt p Q x.name.name x
own_name at = record { decl = at.decl; stands = at.stands; has = at.has; name = refl }

pub header_fits : (p : Program) (Q : Path) (x : Method) (c : Header) → Shallow p → WellFormed p → MethodAt p Q x.name.name x → Gives p (header_typed (body_of Q x)) (Ok c)
    → HeaderFits p (body_of Q x) c
header_fits p Q x c deep well at g =
    headers_fit p Q x.name.name x c deep well (declared_in_universe p Q at.decl at.stands) at ((headers_are_the_meanings p (body_of Q x) c).0 g)

-- `this` is as deep as the class that has the body
own_depth : (p : Program) (b : Body) (c : Header) → HeaderFits p b c → length (bound_of (header_scope b c) 0) ≡ length b.class
own_depth p b c fit = ap length (this_bound p (site_in b c.vars) role.Value fit.params.fit) ∙ ap length (reverse-reverse b.class)

-- ---- types as deep as a class

nothing : {x : Atom} → Among [] x → ⊥
nothing m = elim m [ ]

pub deep_class : (s : TypeScope) (t : Ty) (Q : Path) → DeepAs s t Q → is_class t ≡ true
deep_class s (ty.Class xs m) Q d = refl
deep_class s ty.Int Q d = absurd (nothing d.among)
deep_class s ty.Bool Q d = absurd (nothing d.among)
deep_class s ty.Null Q d = absurd (nothing d.among)
deep_class s ty.Void Q d = absurd (nothing d.among)

pub deep_at : {s : TypeScope} {t : Ty} {B Q : Path} → DeepAs s t B → length Q ≡ length B → DeepAs s t Q
deep_at d e = record { atom = d.atom; among = d.among; depth = d.depth ∙ sym e }

pub deep_kept : {old new : List Ty} {scope : Scope} {id : TyId} {Q : Path} → IsScope old scope → Keeps old new → InPool old id → DeepAs (scope_in old scope) (shown old id) Q
    → DeepAs (scope_in new scope) (shown new id) Q
deep_kept {old} {new} {scope} {id} {Q} s k has d =
    subst (λ (c : TypeScope). DeepAs c (shown new id) Q) (sym (scope_kept scope s.known k)) (subst (λ (t : Ty). DeepAs (scope_in old scope) t Q) (sym (k.shows id has)) d)

pub deep_moved : {s s1 : TypeScope} {t t1 : Ty} {B B1 : Path} → s1 ≡ s → t1 ≡ t → B1 ≡ B → DeepAs s1 t1 B1 → DeepAs s t B
deep_moved {s} {s1} {t} {t1} {B} {B1} e f g d =
    subst (DeepAs s t) g (subst (λ (u : Ty). DeepAs s u B1) f (subst (λ (c : TypeScope). DeepAs c t1 B1) e d))

own_paths : (s : TypeScope) (t : Ty) → TypeFits s t → PutAsDeep s s same_path t
own_paths s t f x q k m e = let a : Anchored s (Up q k) = subst (Anchored s) e (type_anchored f x m) in record { bound_in = a.0; depth = refl }

-- a normal form is as deep as what it is of
pub normal_deep : (s : TypeScope) (t : Ty) (x : Atom) → BindsFit s → TypeFits s t → Among (atoms_in t) x → DeepAs s (normal_type s t) (bound s x)
normal_deep s (ty.Class xs m) x b f i =
    let moves : MovedOf s s same_path (ty.Class xs m) = moved_types_fit s s same_path (ty.Class xs m) f (own_paths s (ty.Class xs m) f) in
    let o = (moves.substituted b).atoms tt in
    record { atom = o.one; among = o.among; depth = moves.depth b x o.one i o.among }
normal_deep s ty.Int x b f i = absurd (nothing i)
normal_deep s ty.Bool x b f i = absurd (nothing i)
normal_deep s ty.Null x b f i = absurd (nothing i)
normal_deep s ty.Void x b f i = absurd (nothing i)

-- the type that a `new` makes has the names of its atom, all exact
pub made_atom : Atom → Atom
made_atom x = atom_of (shown_atom (atom x.anchor (x.names ++ x.exact) []))

atom_back : (y : Atom) → atom_of (shown_atom y) ≡ y
atom_back y = ap (λ (es : List Name). atom y.anchor es (reverse (reverse y.names))) (reverse-reverse y.exact) ∙ ap (λ (ns : List Name). atom y.anchor y.exact ns) (reverse-reverse y.names)

pub made_among : (x : Atom) → Among (atoms_in (made_exact x)) (made_atom x)
unfolding made_atom
made_among x = first

pub made_bound : (s : TypeScope) (x : Atom) → bound s (made_atom x) ≡ bound s x
unfolding made_atom
made_bound s x = ap (bound s) (atom_back (atom x.anchor (x.names ++ x.exact) [])) ∙ append_assoc x.names x.exact (anchor_at (bound_of s) x.anchor)

-- `this` is as deep as a type that it is below
pub this_deep : (p : Program) (s : TypeScope) (t : Ty) (B : Path) → BindsFit s → PathThere s 0 → Below p s (path_type s 0) t → DeepAs s t B → length (bound_of s 0) ≡ length B
this_deep p s t B b there below d =
    let own : TypeFits s (path_type s 0) = (path_known s 0 b there.bound_in there.long).fits in
    let o = own.atoms tt in
    (of_path_known s 0 there.bound_in).depth o.one o.among
    ∙ (sym (below_keeps_depth p s (path_type s 0) t o.one d.atom b own below o.among d.among) ∙ d.depth)

-- the first atom whose bound has the method
pub method_deep : (p : Program) (s : TypeScope) (t : Ty) (m : Name) (Q : Path) → MethodFound p s (atoms_in t) m Q → DeepAs s t Q
method_deep p s t m Q f =
    let a = found_at (atoms_in t) f.at in
    record { atom = a.atom; among = a.among; depth = ap length (sym a.is) ∙ sym (sup_level f.least.among.super) }

pub least_deep : {p : Program} {B Q : Path} {m : Name} → Least p B m Q → length Q ≡ length B
least_deep l = sup_level l.among.super

pub constructor_deep : (p : Program) (B Q : Path) → ConstructorFrom p B (Some Q) → length Q ≡ length B
constructor_deep p [] Q e = absurd (no e) where
  no : (let o : Option Path = Some Q in o ≡ None) → ⊥
  no e = cc
constructor_deep p (C ∷ P) Q l = least_deep l

-- ---- later scopes

pub deep_grown : {h s t : TypeScope} {q r : ℕ} → Grown s t → BindsFit t → AsDeep h s q r → AsDeep h t q r
deep_grown {r = r} g f d = record { bound_in = binds_grown g r d.bound_in; depth = ap length (bounds_grown g f r d.bound_in) ∙ d.depth }

put_grown : {h s t : TypeScope} {xs : List Var} {qs : List ℕ} → Grown s t → BindsFit t → PutFor h s xs qs → PutFor h t xs qs
put_grown g f none_put = none_put
put_grown g f (one_put {q = q} b d others) = one_put (binds_grown g q b) (λ e. deep_grown g f (d e)) (put_grown g f others)

put_behind : {h s : TypeScope} {xs : List Var} {qs : List ℕ} (x : Var) (q : ℕ) → PutFor h s xs qs → Binds s q → (is_class x.ty ≡ true → AsDeep h s x.path q)
    → PutFor h s (xs ++ x ∷ []) (qs ++ q ∷ [])
put_behind x q none_put b d = one_put b d none_put
put_behind x q (one_put c e others) b d = one_put c e (put_behind x q others b d)

put_length : {h s : TypeScope} {xs : List Var} {qs : List ℕ} → PutFor h s xs qs → length qs ≡ length xs
put_length none_put = refl
put_length (one_put b d others) = ap suc (put_length others)

atom_grown : {s t : TypeScope} → Grown s t → BindsFit t → (x : Atom) → Anchored s x.anchor → Anchored t x.anchor × (bound t x ≡ bound s x)
atom_grown none_grown f x a = (a, refl)
atom_grown (more_grown g) f x a =
    let r = atom_grown g f.0 x a in
    (anchored_later f x.anchor r.0, bound_later f x r.0 ∙ r.1)

-- ---- a call that is begun

pub begun_call_fits : (p : Program) (pool : List Ty) (before after : Scope) (t : Ty) (path : Option ℕ) (q : ℕ) (b : Body) (header : CodeHeader) (call : Call) → IsScope pool before
    → HeaderFits p b (header_in pool header) → IsCall pool call → Begins header q call → IsPassing pool before after t path q
    → (let x : Typed = record { ty = t; path = path; scope = scope_in pool before } in TypedFits x) → DeepAs (scope_in pool before) t b.class
    → CallFits p pool (scope_in pool after) call
begun_call_fits p pool before after t path q b header call s fit is begins passing typed deep = record {
  is_call = is;
  body = b;
  header = own;
  first = q;
  others = [];
  paths = begins.paths;
  this = record {
    bound_in = known.bound_in;
    depth = known.depth deep.atom deep.among
        ∙ (ap length (atom_grown (scope_grown pool before after passing.grows) passing.scope.fits.binds deep.atom (type_anchored typed.type deep.atom deep.among)).1
        ∙ (deep.depth ∙ sym (own_depth p b (header_in pool call.header) own)));
  };
  done = [];
  rest = call.header.at.vars.list;
  vars = refl;
  put = none_put;
} where
  own : HeaderFits p b (header_in pool call.header)
  own = subst (λ (h : CodeHeader). HeaderFits p b (header_in pool h)) (sym begins.kept) fit

  known : PathKnown (scope_in pool after) q t
  known = passed_known pool before after t path q passing typed

-- and of `super`, whose receiver is `this`
pub super_call_fits : (p : Program) (pool : List Ty) (s : TypeScope) (b : Body) (header : CodeHeader) (call : Call) → HeaderFits p b (header_in pool header) → IsCall pool call
    → Begins header 0 call → Binds s 0 → length (bound_of s 0) ≡ length b.class → CallFits p pool s call
super_call_fits p pool s b header call fit is begins there deep = record {
  is_call = is;
  body = b;
  header = own;
  first = 0;
  others = [];
  paths = begins.paths;
  this = record { bound_in = there; depth = deep ∙ sym (own_depth p b (header_in pool call.header) own) };
  done = [];
  rest = call.header.at.vars.list;
  vars = refl;
  put = none_put;
} where
  own : HeaderFits p b (header_in pool call.header)
  own = subst (λ (h : CodeHeader). HeaderFits p b (header_in pool h)) (sym begins.kept) fit

pub begins_call : (pool : List Ty) (header : CodeHeader) (q : ℕ) (call : Call) → InPool pool header.result → Begins header q call → IsCall pool call
begins_call pool header q call has b = record {
  result = subst (λ (h : CodeHeader). InPool pool h.result) (sym b.kept) has;
  from = b.from ∙ ap (λ (h : CodeHeader). replaced_paths h.at.vars.list) (sym b.kept);
}

pub begun_count : (header : CodeHeader) (q n : ℕ) (call : Call) → Begins header q call → length header.at.vars.list ≡ n → length call.header.at.vars.list ≡ n
begun_count header q n call b e = ap (λ (h : CodeHeader). length h.at.vars.list) b.kept ∙ e

-- ---- in later pools and scopes

pub call_kept : {p : Program} {old new : List Ty} {s : TypeScope} {call : Call} → Keeps old new → CallFits p old s call → CallFits p new s call
call_kept {p} {old} {new} {s} {call} k f = record {
  is_call = record { result = k.has call.header.result f.is_call.result; from = f.is_call.from };
  body = f.body;
  header = subst (HeaderFits p f.body) (sym same) f.header;
  first = f.first;
  others = f.others;
  paths = f.paths;
  this = f.this;
  done = f.done;
  rest = f.rest;
  vars = f.vars;
  put = f.put;
} where
  same : header_in new call.header ≡ header_in old call.header
  same = ap (λ (t : Ty). let h : Header = record { vars = call.header.at.vars.list; result = t } in h) (k.shows call.header.result f.is_call.result)

pub call_same : {p : Program} {old new : List Ty} {scope : Scope} {call : Call} → IsScope old scope → Keeps old new → CallFits p old (scope_in old scope) call
    → CallFits p new (scope_in new scope) call
call_same {p} {old} {new} {scope} {call} s k f = subst (λ (c : TypeScope). CallFits p new c call) (sym (scope_kept scope s.known k)) (call_kept k f)

pub call_grown : {p : Program} {pool : List Ty} {s t : TypeScope} {call : Call} → Grown s t → BindsFit t → CallFits p pool s call → CallFits p pool t call
call_grown g b f = record {
  is_call = f.is_call;
  body = f.body;
  header = f.header;
  first = f.first;
  others = f.others;
  paths = f.paths;
  this = deep_grown g b f.this;
  done = f.done;
  rest = f.rest;
  vars = f.vars;
  put = put_grown g b f.put;
}

pub call_later : {p : Program} {old new : List Ty} {before after : Scope} {call : Call} → IsScope old before → Keeps old new → Grows before after → IsScope new after
    → CallFits p old (scope_in old before) call → CallFits p new (scope_in new after) call
call_later {p} {old} {new} {before} {after} {call} s k g a f =
    call_grown (scope_grown new before after g) a.fits.binds (call_same s k f)

-- ---- the next parameter

pub record NextParam (p : Program) (pool : List Ty) (s : TypeScope) (call : Call) (f : CallFits p pool s call) : Type 0 where
  pub param : Var
  pub behind : List Var
  pub rest : f.rest ≡ param ∷ behind
  pub got : slice_get call.header.at.vars.list (length call.paths.items - 1) ≡ Some param
  pub known : ParamKnown f.body (header_in pool call.header) param s (f.first ∷ f.others)
  pub moved : MovedFits s (swapped call.from.items call.paths.items) param.ty

got_behind : (done : List Var) (x : Var) (xs : List Var) → slice_get (done ++ x ∷ xs) (length done) ≡ Some x
got_behind [] x xs = refl
got_behind (y ∷ done) x xs = got_behind done x xs

module _ (p : Program) (pool : List Ty) (s : TypeScope) (call : Call) (b : BindsFit s) (f : CallFits p pool s call) where
  calls : CallsOf p f.body (header_in pool call.header)
  calls = call_types_fit p f.body (header_in pool call.header) f.header

  paths_count : length call.paths.items ≡ suc (length f.done)
  paths_count = ap length f.paths ∙ ap suc (put_length f.put)

  vars_count : length call.header.at.vars.list ≡ length f.done + length f.rest
  vars_count = ap length f.vars ∙ length-append f.done f.rest

  pub from_count : length call.from.items ≡ suc (length call.header.at.vars.list)
  from_count = ap length f.is_call.from ∙ ap suc (length-map call.header.at.vars.list var_path)

  next_at : (rest : List Var) → f.rest ≡ rest → length call.paths.items ≤ length call.header.at.vars.list → NextParam p pool s call f
  next_at [] e l = absurd (none paths_count vars_count (ap length e) l) where
    none : {n v d r : ℕ} → n ≡ suc d → v ≡ d + r → r ≡ 0 → n ≤ v → ⊥
    none e g h l = omega (arith, e, g, h, l)
  next_at (x ∷ xs) e l =
      let vars = f.vars ∙ ap (λ (r : List Var). f.done ++ r) e in
      let known = calls.param f.done xs x s f.first f.others vars b f.this f.put in record {
        param = x;
        behind = xs;
        rest = e;
        got = ap (λ (n : ℕ). slice_get call.header.at.vars.list n) (less paths_count) ∙ (ap (λ (vs : List Var). slice_get vs (length f.done)) vars ∙ got_behind f.done x xs);
        known = known;
        moved = subst (λ (from : List ℕ). MovedFits s (swapped from call.paths.items) x.ty) (sym f.is_call.from)
            (subst (λ (to : List ℕ). MovedFits s (swapped (replaced_paths call.header.at.vars.list) to) x.ty) (sym f.paths) known.moved);
      } where
        less : {n d : ℕ} → n ≡ suc d → n - 1 ≡ d
        less e = omega (arith, e)

  pub next_param : length call.paths.items ≤ length call.header.at.vars.list → NextParam p pool s call f
  next_param l = next_at f.rest refl l

  some_same : (x y : Var) → Some x ≡ Some y → x ≡ y
  some_same x y e = cc

  pub next_moved : length call.paths.items ≤ length call.header.at.vars.list → (x : Var) → slice_get call.header.at.vars.list (length call.paths.items - 1) ≡ Some x
      → MovedFits s (swapped call.from.items call.paths.items) x.ty
  next_moved l x e =
      let n = next_param l in
      subst (λ (v : Var). MovedFits s (swapped call.from.items call.paths.items) v.ty) (some_same n.param x (sym n.got ∙ e)) n.moved

  -- no more paths are put than there are
  pub paths_few : length call.paths.items ≤ length call.from.items
  paths_few = few (length call.paths.items) (length f.done) (length call.header.at.vars.list) (length f.rest) (length call.from.items) paths_count vars_count from_count where
    few : (n d v r m : ℕ) → n ≡ suc d → v ≡ d + r → m ≡ suc v → n ≤ m
    few n d v r m e g h = omega (arith, e, g, h)

  -- so many arguments are passed, and no more are wanted
  pub all_passed : (i n : ℕ) → length call.paths.items ≡ i + 1 → n ≤ i → length call.header.at.vars.list ≡ n → length call.paths.items ≡ length call.header.at.vars.list + 1
  all_passed i n e l v = same paths_few from_count e l v where
    same : {k m w : ℕ} → k ≤ m → m ≡ suc w → k ≡ i + 1 → n ≤ i → w ≡ n → k ≡ w + 1
    same a b e l v = omega (arith, a, b, e, l, v)

  -- the result, where all arguments are passed
  pub result_moved : length call.paths.items ≡ length call.header.at.vars.list + 1 → MovedFits s (swapped call.from.items call.paths.items) (shown pool call.header.result)
  result_moved full =
      subst (λ (from : List ℕ). MovedFits s (swapped from call.paths.items) (shown pool call.header.result)) (sym f.is_call.from)
      (subst (λ (to : List ℕ). MovedFits s (swapped (replaced_paths call.header.at.vars.list) to) (shown pool call.header.result)) (sym f.paths) (of f.body.method.result refl)) where
        none_left : (rest : List Var) → length rest ≡ 0 → rest ≡ []
        none_left [] e = refl
        none_left (x ∷ xs) e = absurd (no e) where
          no : suc (length xs) ≡ 0 → ⊥
          no e = cc

        zero_rest : {n v d r : ℕ} → n ≡ suc d → v ≡ d + r → n ≡ v + 1 → r ≡ 0
        zero_rest e g h = omega (arith, e, g, h)

        all : call.header.at.vars.list ≡ f.done
        all = f.vars ∙ (ap (λ (r : List Var). f.done ++ r) (none_left f.rest (zero_rest paths_count vars_count full)) ∙ append-nil f.done)

        of : (o : Option TypeTerm) → f.body.method.result ≡ o → MovedFits s (swapped (replaced_paths call.header.at.vars.list) (f.first ∷ f.others)) (shown pool call.header.result)
        of None e = subst (MovedFits s (swapped (replaced_paths call.header.at.vars.list) (f.first ∷ f.others))) (sym (f.header.void e)) (λ c. absurd c)
        of (Some t) e = calls.result_moved t s f.first f.others e b f.this (subst (λ (vs : List Var). PutFor (header_scope f.body (header_in pool call.header)) s vs f.others) (sym all) f.put)

-- of other lists and scopes that are the same
pub moved_at : {s s1 : TypeScope} {from from1 to to1 : List ℕ} {t t1 : Ty} → s1 ≡ s → from1 ≡ from → to1 ≡ to → t1 ≡ t → MovedFits s (swapped from to) t
    → MovedFits s1 (swapped from1 to1) t1
moved_at {s} {s1} {from} {from1} {to} {to1} {t} {t1} e f g h m =
    subst (λ (c : TypeScope). MovedFits c (swapped from1 to1) t1) (sym e)
    (subst (λ (l : List ℕ). MovedFits s (swapped l to1) t1) (sym f)
    (subst (λ (l : List ℕ). MovedFits s (swapped from l) t1) (sym g) (subst (MovedFits s (swapped from to)) (sym h) m)))

-- ---- what is passed for a parameter

-- a value passed with its own type, or null with that of the parameter
pub passed_typed : (s : TypeScope) (t w : Ty) (path : Option ℕ) → (let x : Typed = record { ty = t; path = path; scope = s } in TypedFits x) → TypeFits s w
    → (let x : Typed = record { ty = type_passed t w; path = path; scope = s } in TypedFits x)
passed_typed s t w path f g = record {
  type = passed_fits s t w (type_passed t w) refl f.type g;
  path = λ q e. subst (PathKnown s q) (sym (same t (f.class q e))) (f.path q e);
  class = λ q e. subst (λ (u : Ty). is_class u ≡ true) (sym (same t (f.class q e))) (f.class q e);
} where
  no : false ≡ true → ⊥
  no e = cc

  same : (t : Ty) → is_class t ≡ true → type_passed t w ≡ t
  same (ty.Class xs m) e = refl
  same ty.Int e = absurd (no e)
  same ty.Bool e = absurd (no e)
  same ty.Null e = absurd (no e)
  same ty.Void e = absurd (no e)

put_class : (s : TypeScope) (from to : List ℕ) (t : Ty) → is_class t ≡ true → is_class (put_in s from to t) ≡ true
put_class s from to (ty.Class xs m) e = refl
put_class s from to ty.Int e = e
put_class s from to ty.Bool e = e
put_class s from to ty.Null e = e
put_class s from to ty.Void e = e

-- its path is as deep as the parameter
module _ (p : Program) (s new : TypeScope) (g : Grown s new) (b : BindsFit s) (bn : BindsFit new) (h : TypeScope) (n q : ℕ) where
  at_atom : (u : Ty) (y : Atom) → TypeFits s u → Among (atoms_in u) y → PathKnown new q u → length (bound s y) ≡ length (bound_of h n) → AsDeep h new n q
  at_atom u y f m k e = record {
    bound_in = k.bound_in;
    depth = k.depth y m ∙ (ap length (atom_grown g bn y (type_anchored f y m)).1 ∙ e);
  }

  no_class : false ≡ true → ⊥
  no_class e = cc

  pub passed_deep : (t w : Ty) → Below p s t w → TypeFits s t → TypeFits s w → is_class w ≡ true
      → ((y : Atom) → Among (atoms_in w) y → length (bound s y) ≡ length (bound_of h n)) → PathKnown new q (type_passed t w) → AsDeep h new n q
  passed_deep _ _ ints ft fw c d k = absurd (no_class c)
  passed_deep _ _ booleans ft fw c d k = absurd (no_class c)
  passed_deep _ _ (nulls {ys = ys} {n = m}) ft fw c d k =
      let y = fw.atoms tt in
      at_atom (ty.Class ys m) y.one fw y.among k (d y.one y.among)
  passed_deep _ _ (classes {xs = xs} {ys = ys} {m = m} {n = l} under within) ft fw c d k =
      let x = ft.atoms tt in
      let y = fw.atoms tt in
      at_atom (ty.Class xs m) x.one ft x.among k
      (sym (below_keeps_depth p s (ty.Class xs m) (ty.Class ys l) x.one y.one b ft (classes under within) x.among y.among) ∙ d y.one y.among)

-- the call with one path more
pub call_passed : (p : Program) (pool : List Ty) (before after : Scope) (call new : Call) (t w : Ty) (path : Option ℕ) (q : ℕ) (f : CallFits p pool (scope_in pool before) call)
    → IsScope pool before → (x : NextParam p pool (scope_in pool before) call f) → w ≡ put_in (scope_in pool before) call.from.items call.paths.items x.param.ty
    → (let v : Typed = record { ty = t; path = path; scope = scope_in pool before } in TypedFits v) → TypeFits (scope_in pool before) w
    → Below p (scope_in pool before) t w → IsPassing pool before after (type_passed t w) path q
    → new.header ≡ call.header → new.from.items ≡ call.from.items → new.paths.items ≡ call.paths.items ++ q ∷ []
    → CallFits p pool (scope_in pool after) new
call_passed p pool before after call new t w path q f s x e v fits below passing header from paths = record {
  is_call = record {
    result = subst (λ (h : CodeHeader). InPool pool h.result) (sym header) f.is_call.result;
    from = from ∙ (f.is_call.from ∙ ap (λ (h : CodeHeader). replaced_paths h.at.vars.list) (sym header));
  };
  body = f.body;
  header = subst (λ (h : CodeHeader). HeaderFits p f.body (header_in pool h)) (sym header) f.header;
  first = f.first;
  others = f.others ++ q ∷ [];
  paths = paths ∙ ap (λ (l : List ℕ). l ++ q ∷ []) f.paths;
  this = subst (λ (h : CodeHeader). AsDeep (header_scope f.body (header_in pool h)) (scope_in pool after) 0 f.first) (sym header) (deep_grown grown binds f.this);
  done = f.done ++ x.param ∷ [];
  rest = x.behind;
  vars = ap (λ (h : CodeHeader). h.at.vars.list) header ∙ (f.vars ∙ (ap (λ (r : List Var). f.done ++ r) x.rest ∙ sym (append_assoc f.done (x.param ∷ []) x.behind)));
  put = subst (λ (h : CodeHeader). PutFor (header_scope f.body (header_in pool h)) (scope_in pool after) (f.done ++ x.param ∷ []) (f.others ++ q ∷ [])) (sym header)
      (put_behind x.param q (put_grown grown binds f.put) known.bound_in deep);
} where
  binds : BindsFit (scope_in pool after)
  binds = passing.scope.fits.binds

  grown : Grown (scope_in pool before) (scope_in pool after)
  grown = scope_grown pool before after passing.grows

  known : PathKnown (scope_in pool after) q (type_passed t w)
  known = passed_known pool before after (type_passed t w) path q passing (passed_typed (scope_in pool before) t w path v fits)

  is : w ≡ put_in (scope_in pool before) (replaced_paths call.header.at.vars.list) (f.first ∷ f.others) x.param.ty
  is = e ∙ (ap (λ (l : List ℕ). put_in (scope_in pool before) l call.paths.items x.param.ty) f.is_call.from
      ∙ ap (λ (l : List ℕ). put_in (scope_in pool before) (replaced_paths call.header.at.vars.list) l x.param.ty) f.paths)

  deep : is_class x.param.ty ≡ true → AsDeep (header_scope f.body (header_in pool call.header)) (scope_in pool after) x.param.path q
  deep c =
      passed_deep p (scope_in pool before) (scope_in pool after) grown s.fits.binds binds (header_scope f.body (header_in pool call.header)) x.param.path q t w below v.type fits
      (subst (λ (u : Ty). is_class u ≡ true) (sym is) (put_class (scope_in pool before) (replaced_paths call.header.at.vars.list) (f.first ∷ f.others) x.param.ty c))
      (λ y m. x.known.depth y (subst (λ (u : Ty). Among (atoms_in u) y) is m))
      known
