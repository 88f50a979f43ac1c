-- The rules turned round, form by form.
use Rattle.std.proofs.Common.{◌≡◌, ◌≤◌, ◌<◌, ℕ, suc, List, ◌∷◌, length, Option, Some, None, Bool, true, false, refl, sym, ◌∙◌, subst, arith}
use Rattle.std.proofs.lemmas.Bool.{ltb-true, eqb-true}
use Rattle.std.specs.Prelude.{◌+◌, cond, nat_lt, Result, Ok, Err}
use Rattle.jn_base.specs.declared.tree.Name.{Name}
use Rattle.jn_base.specs.declared.tree.Named.{Named}
use Rattle.jn_base.specs.declared.tree.Place.{Place}
use Rattle.jn_base.specs.declared.tree.Program.{Program}
use Rattle.jn_base.specs.declared.tree.Expr.{Expr}
use Rattle.jn_base.specs.declared.types.Ty.{Ty}
use Rattle.jn_base.specs.declared.types.Ty.TheVariants as ty
use Rattle.jn_base.specs.declared.types.ValKind.{ValKind}
use Rattle.jn_base.specs.declared.refusal.Refusal.{Refusal}
use Rattle.jn_base.specs.Paths.{Path}
use Rattle.jn_base.specs.Atoms.{Atom, atoms_in, Among, first, later}
use Rattle.jn_base.specs.Scopes.{Bind, Scope, Binds}
use Rattle.jn_base.specs.Fits.{BindsFit, TypeFits, IsClassType, Anchored}
use Rattle.jn_base.specs.Resolve.{is_class}
use Rattle.jn_base.specs.declared.refusal.Rule.TheVariants as rule
use Rattle.jn_base.specs.ResolveTypes.{mask_names}
use Rattle.jn_sem.specs.Values.{Masked}
use Rattle.jn_sem.specs.Does.{Body}
use Rattle.jn_sem.proofs.Under.{type_anchored, bound_later, type_later}
use Rattle.jn_sem.proofs.Growth.{below_later}
use Rattle.jn_sem.specs.Below.{Below, ints, booleans, nulls, classes}
use Rattle.jn_sem.proofs.BelowOrder.{below_itself}
use Rattle.jn_rules.specs.Plans.{FoundField, OfField, OfMethod, MemberMark, Plan, done, refuse, note, then_do}
use Rattle.jn_rules.specs.Questions.{FirstWith, first as first_with, later as later_with, IsFoundField, IsMethodOf, IsFirstMask, Means, Gives, Answers, Finds, masks_of}
use Rattle.jn_rules.specs.Headers.{Header, header_typed}
use Rattle.jn_rules.specs.Exprs.{as_many, method_gives, method_with, call_typed, result_gives, unmasked, Here, Typed, Typing as ExprTyping, plain, gives, note_kind, kind_of, bind, fresh_paths, next_path, path_of, path_or_fresh, type_passed, suffix_typed, field_gives, field_type, of_class, first_bound}
use Rattle.jn_rules.proofs.PlanLaws.{then_came, wanted, found_was}
use Rattle.jn_rule_laws.proofs.HeaderLaws.{header_back}
use Rattle.jn_rule_laws.specs.LawsOfForms.{Grown, none as none_more, more}
use Rattle.jn_rule_laws.proofs.KnownTypes.{later_known, fresh_known, path_types_fit}
use Rattle.jn_rule_laws.proofs.FirstMasks.{no_first_mask}
use Rattle.jn_sound.specs.Callees.{Callee, IsCalled}
use Rattle.jn_sound.specs.Takes.{opd, typing, Moves, same, named, wider}
use Rattle.jn_sound.specs.Forms.{Good, Known, Reached, ArgMoved, FieldTyped, CallTyped}
use Rattle.jn_sound.proofs.Laws.{Laws}

-- ---- scopes

pub grown_binds : {s t : Scope} → Grown s t → (q : ℕ) → Binds s q → Binds t q
grown_binds none_more q b = b
grown_binds (more g) q b = let n = grown_binds g q b in record { bind = n.bind; among = later n.among; is = n.is }

pub grown_joined : {s t u : Scope} → Grown s t → Grown t u → Grown s u
grown_joined g none_more = g
grown_joined g (more k) = more (grown_joined g k)

pub fresh_far : (s : Scope) → 256 ≤ next_path s
fresh_far s = omega arith

next_of : (s : Scope) (u : Ty) → next_path (bind (next_path s) u ∷ s) ≡ suc (next_path s)
next_of s u = at (nat_lt (next_path s) 256) refl where
  at : (b : Bool) → nat_lt (next_path s) 256 ≡ b
      → 256 + cond b (fresh_paths s) (suc (fresh_paths s)) ≡ suc (256 + fresh_paths s)
  at true e =
      absurd (let l : next_path s < 256 = ltb-true (next_path s) 256 e in let f = fresh_far s in omega (arith, l, f))
  at false e = omega arith

-- one fresh path more
pub good_bind : (s : Scope) (u : Ty) → Good s → TypeFits s u → Good (bind (next_path s) u ∷ s)
good_bind s u g f = record {
  binds = (g.binds, (λ b. let l = g.numbered.below (next_path s) b in omega (arith, l)), f);
  numbered = record { below = λ q b. subst (λ (i : ℕ). q < i) (sym (next_of s u)) (below q b) };
  this = grown_binds (more none_more) 0 g.this;
} where
  at : (q : ℕ) (c : Bind) → Among (bind (next_path s) u ∷ s) c → c.path ≡ q → q < suc (next_path s)
  at q _ first e = omega (arith, e)
  at q c (later m) e = let l = g.numbered.below q (record { bind = c; among = m; is = e }) in omega (arith, l)

  below : (q : ℕ) → Binds (bind (next_path s) u ∷ s) q → q < suc (next_path s)
  below q b = at q b.bind b.among b.is

pub found_more : {s : Scope} {b : Bind} {T : Path → Type 0} {B : Path} (xs : List Atom) → BindsFit (b ∷ s)
    → ((x : Atom) → Among xs x → Anchored s x.anchor)
    → FirstWith s T xs B → FirstWith (b ∷ s) T xs B
found_more _ f g (first_with {x = x} e t) = first_with (e ∙ sym (bound_later f x (g x first))) t
found_more {T = T} _ f g (later_with {x = x} {xs = xs} n w) =
    later_with (λ t. n (subst T (bound_later f x (g x first)) t)) (found_more xs f (λ y a. g y (later a)) w)

class_is : (t : Ty) → is_class t ≡ true → IsClassType t
class_is (ty.Class xs m) e = tt
class_is ty.Int e = cc
class_is ty.Bool e = cc
class_is ty.Null e = cc
class_is ty.Void e = cc

-- ---- a receiver gets its path

pub path_reached : (p : Program) (x : Typed) → Known x → is_class x.ty ≡ true
    → Reached p x (path_of x.ty x).path (path_of x.ty x).scope
path_reached p x known cl = at x.path refl where
  at : (o : Option ℕ) → x.path ≡ o
      → Reached p x (path_or_fresh x.ty o x.scope).path (path_or_fresh x.ty o x.scope).scope
  at (Some q) e = record {
    good = known.good;
    grown = none_more;
    type = known.type;
    path = known.path q e;
    moves =
        λ ops. subst (λ (o : Option ℕ). Moves p (typing x.scope (opd x.ty o ∷ ops))
        (typing x.scope (opd x.ty (Some q) ∷ ops))) (sym e) same;
    field = λ f c i. i;
    method = λ f c i. i;
  }
  at None e =
      let q : ℕ = next_path x.scope in
      let good : Good (bind q x.ty ∷ x.scope) = good_bind x.scope x.ty known.good known.type.fits in
      record {
        good = good;
        grown = more none_more;
        type = later_known (more none_more) good.binds known.type;
        path = fresh_known x.scope q x.ty good.binds;
        moves =
            λ ops. subst (λ (o : Option ℕ). Moves p (typing x.scope (opd x.ty o ∷ ops))
            (typing (bind q x.ty ∷ x.scope) (opd x.ty (Some q) ∷ ops))) (sym e)
            (named x.ty x.ty q (fresh_far x.scope) (good.binds.1) known.type.fits
            (below_itself x.ty (class_is x.ty cl)) same);
        field =
            λ f c i. record {
              bound = i.bound;
              at = found_more (atoms_in x.ty) good.binds
                  (λ y a. type_anchored known.type.fits y a) i.at;
              type = i.type;
              class = i.class;
            };
        method =
            λ f c i. record {
              at = found_more (atoms_in x.ty) good.binds
                  (λ y a. type_anchored known.type.fits y a) i.at;
              callee = i.callee;
            };
      }

-- a method of a type in a scope with more fresh paths
pub method_grown : (p : Program) (s t : Scope) (u : Ty) (f : Name) (c : Callee) → Grown s t → BindsFit t
    → TypeFits s u → IsCalled p s u f c → IsCalled p t u f c × TypeFits t u
method_grown p s _ u f c none_more b fits i = (i, fits)
method_grown p s _ u f c (more {t = t} g) b fits i =
    let k = method_grown p s t u f c g b.0 fits i in (
      record { at = found_more (atoms_in u) b (λ y a. type_anchored k.1 y a) k.0.at; callee = k.0.callee },
      type_later b k.1,
    )

-- ---- an argument

-- the type under which it gets its fresh path
passed_below : (p : Program) (s : Scope) (t u : Ty) → Below p s t u → TypeFits s t → TypeFits s u
    → Below p s t (type_passed t u) × TypeFits s (type_passed t u)
passed_below p s _ _ ints f g = (ints, f)
passed_below p s _ _ booleans f g = (booleans, f)
passed_below p s _ _ nulls f g = (nulls, g)
passed_below p s _ _ (classes {xs = xs} {m = m} a b) f g = (below_itself (ty.Class xs m) tt, f)

-- an argument is named, and then in its parameter's type
pub arg_moved : (p : Program) (t : Typed) (want : Ty) → Known t → Below p t.scope t.ty want → TypeFits t.scope want
    → ArgMoved p t want (path_of (type_passed t.ty want) t).path (path_of (type_passed t.ty want) t).scope
arg_moved p t want known below fits = at t.path refl where
  at : (o : Option ℕ) → t.path ≡ o
      → ArgMoved p t want (path_or_fresh (type_passed t.ty want) o t.scope).path
      (path_or_fresh (type_passed t.ty want) o t.scope).scope
  at (Some q) e = record {
    good = known.good;
    grown = none_more;
    bound = (known.path q e).bound_in;
    moves =
        λ ops. subst (λ (o : Option ℕ). Moves p (typing t.scope (opd t.ty o ∷ ops))
        (typing t.scope (opd want (Some q) ∷ ops))) (sym e) (wider t.ty want (Some q) below fits same);
  }
  at None e =
      let q : ℕ = next_path t.scope in
      let k = passed_below p t.scope t.ty want below known.type.fits fits in
      let good : Good (bind q (type_passed t.ty want) ∷ t.scope) = good_bind t.scope
      (type_passed t.ty want) known.good k.1 in
      record {
        good = good;
        grown = more none_more;
        bound = record { bind = bind q (type_passed t.ty want); among = first; is = refl };
        moves =
            λ ops. subst (λ (o : Option ℕ). Moves p (typing t.scope (opd t.ty o ∷ ops))
            (typing (bind q (type_passed t.ty want) ∷ t.scope) (opd want (Some q) ∷ ops))) (sym e)
            (named t.ty (type_passed t.ty want) q (fresh_far t.scope) good.binds.1 k.1 k.0
            (wider t.ty want (Some q) ((below_later good.binds known.type.fits).0 below)
            (type_later good.binds fits) same));
      }

-- ---- answers

abbrev Answer : Type 0
Answer = Result Typed Refusal

abbrev Gives_ok : Typed → Typed → Type 0
Gives_ok y x = let a : Answer = Ok y in let b : Answer = Ok x in b ≡ a

abbrev Refuses : Typed → Refusal → Type 0
Refuses y r = let a : Answer = Ok y in let b : Answer = Err r in a ≡ b

not_ok : (y : Typed) (r : Refusal) → Refuses y r → ⊥
not_ok y r e = cc

-- what a form gives is its answer
pub gives_is : (p : Program) (z y : Typed) → Gives p (gives z) (Ok y) → y ≡ z
gives_is p z y g = at (kind_of z.ty) g where
  ok_same : ◌≡◌ {A = Result Typed Refusal} (Ok y) (Ok z) → y ≡ z
  ok_same e = cc

  at : (o : Option ValKind) → Gives p (note_kind o (done z)) (Ok y) → y ≡ z
  at None e = ok_same e
  at (Some k) e = ok_same e

-- ---- a field

pub field_typed : (p : Program) → Laws p → (h : Here) (f : Named) (at : Place) (x y : Typed) → Known x
    → Gives p (suffix_typed h f None at x) (Ok y) → FieldTyped p f.name x y
field_typed p n h f at x y known g =
    let w = wanted (is_class x.ty) _ _ y g in
    let c = found_was w.then.0 _ (field_gives f x) y w.then.2 in
    read c.given w.test (subst (λ (o : Option FoundField). Means p (OfField x.scope x.ty f.name) o) c.is w.then.1)
    c.then where
      answered : (c : FoundField) → is_class x.ty ≡ true → IsFoundField p x.scope x.ty f.name c → (m : Bool)
          → Answers (Masked (mask_names p) (masks_of x.ty) f.name) m
          → Gives p (cond m (refuse (of_class rule.E19 (first_bound x) f f.name))
          (note (MemberMark c.class) (gives (plain (field_type c (path_of x.ty x)) (path_of x.ty x).scope)))) (Ok y)
          → FieldTyped p f.name x y
      answered c cl i true m e = absurd (not_ok y _ e)
      answered c cl i false m e =
          let r = path_reached p x known cl in
          let found = r.field f.name c i in
          let is = gives_is p (plain (field_type c (path_of x.ty x)) (path_of x.ty x).scope) y e in
          record {
            class = cl;
            c = c;
            reached = r;
            is_found = found;
            free = m;
            is = is;
            known = subst Known (sym is) (record {
              good = r.good;
              type =
                  (path_types_fit p).field (path_of x.ty x).scope x.ty f.name c
                  (path_of x.ty x).path n.within.shallow n.within.formed r.good.binds found r.path;
              path = λ q e. absurd (no_path q e);
            });
          } where
            no_path : (q : ℕ) → None ≡ Some q → ⊥
            no_path q e = cc

      read : (c : FoundField) → is_class x.ty ≡ true → IsFoundField p x.scope x.ty f.name c
          → Gives p (field_gives f x c) (Ok y) → FieldTyped p f.name x y
      read c cl i e = answered c cl i e.0 e.1 e.2

-- ---- a call, up to its arguments

none_masked : (p : Program) (t : Ty) (o : Option Name) → o ≡ None → Finds (IsFirstMask p (masks_of t)) o
    → (g : Name) → Masked (mask_names p) (masks_of t) g → ⊥
none_masked p t _ e m = no_first_mask p (masks_of t) (subst (Finds (IsFirstMask p (masks_of t))) e m)

pub call_is_typed : (p : Program) (h : Here) (f : Named) (es : List (Expr × ExprTyping)) (at : Place) (x y : Typed) →
    Known x → Gives p (suffix_typed h f (Some es) at x) (Ok y) → CallTyped p h f.name es x y
call_is_typed p h f es at x y known g =
    let w = wanted (is_class x.ty) _ _ y g in
    let c = found_was w.then.0 _ (method_gives h f es x) y w.then.2 in
    called c.given w.test (subst (λ (o : Option Body). Means p (OfMethod x.scope x.ty f.name) o) c.is w.then.1) c.then
  where
    none_was : (go : Plan Typed) (o : Option Name) → Gives p (unmasked x f go o) (Ok y)
        → (o ≡ None) × Gives p go (Ok y)
    none_was go None e = (refl, e)
    none_was go (Some z) e = absurd (not_ok y _ e)

    called : (b : Body) → is_class x.ty ≡ true → IsMethodOf p x.scope x.ty f.name b
        → Gives p (method_gives h f es x b) (Ok y) → CallTyped p h f.name es x y
    called b cl i e =
        let r = path_reached p x known cl in
        let u = none_was (then_do (header_typed b) (method_with h f es x b)) e.0 e.2 in
        let header = then_came (header_typed b) (method_with h f es x b) y u.1 in
        let c : Header = header.first in
        let m = wanted (as_many c es) _ _ y header.then in
        let came = then_came (call_typed h c es (path_of x.ty x)) (result_gives c) y m.then in
        record {
          c = record { bound = i.bound; body = b; vars = c.vars; result = c.result };
          class = cl;
          here = record { at = i.at; callee = record { body = i.body; header = header_back p b c header.gave } };
          reached = r;
          free = none_masked p x.ty e.0 u.0 e.1;
          as_many = eqb-true (length c.vars) (length es) m.test;
          passed = came.first;
          args = came.gave;
          is = gives_is p _ y came.then;
        }
