-- What is known of a term that resolves: its anchor, its path and its bound.
use Rattle.std.proofs.Common.{◌≡◌, ◌<◌, ◌≤◌, ◌-◌, ℕ, List, [], ◌∷◌, ◌++◌, length, map, drop, Option, Some, None, Bool, true, false, refl, sym, ap, ◌∙◌, subst, arith}
use Rattle.std.specs.Prelude.{Result, Ok, Err, reverse, cond, nat_lt, nat_le, nat_eq, ◌&&◌}
use Rattle.std.proofs.lemmas.Bool.{ltb-true, leb-true}
use Rattle.std.proofs.lemmas.List.{append-nil, reverse-reverse, length-append, length-reverse, reverse-append}
use Rattle.jn_base.specs.declared.tree.Name.{Name}
use Rattle.jn_base.specs.declared.tree.Head.{Head}
use Rattle.jn_base.specs.declared.tree.Head.TheVariants as head
use Rattle.jn_base.specs.declared.tree.Ref.{Ref}
use Rattle.jn_base.specs.declared.tree.Ref.TheVariants as ref
use Rattle.jn_base.specs.declared.tree.Term.{Term}
use Rattle.jn_base.specs.declared.tree.Program.{Program}
use Rattle.jn_base.specs.declared.types.Anchor.{Anchor}
use Rattle.jn_base.specs.declared.types.Anchor.TheVariants.{Root, Up}
use Rattle.jn_base.specs.declared.types.Atom.{Atom as ShownAtom}
use Rattle.jn_base.specs.declared.types.Ty.{Ty}
use Rattle.jn_base.specs.declared.types.Ty.TheVariants as ty
use Rattle.jn_base.specs.declared.names.Role.{Role}
use Rattle.jn_base.specs.declared.names.Spot.{Spot}
use Rattle.jn_base.specs.declared.names.Var.{Var}
use Rattle.jn_base.specs.declared.names.Vars.{Vars}
use Rattle.jn_base.specs.declared.refusal.Refusal.{Refusal}
use Rattle.jn_base.specs.Paths.{Path}
use Rattle.jn_base.specs.Atoms.{Among, first, later}
use Rattle.jn_base.specs.Scopes.{Scope, bound_of, Binds, this_bind}
use Rattle.jn_base.specs.Universe.{InUniverse}
use Rattle.jn_base.specs.Fits.{Anchored, IsClassType}
use Rattle.jn_base.specs.Resolve.{is_class, this_alone, newest, var_named, of_variable, var_bind, class_of, scope_at, anchor_out, Before, IsPath, NotInScope, NoPath, Behind, unknown_name, not_above, above, BoundGives, PathGives, path_before, PrefixGives, AnchorGiven, AtomGives, SuitGives, ClassGives, no_class, in_class, plain_gives, suits, atom_with, IsOfClass, bound_at, Resolve}
use Rattle.jn_sem.specs.Terms.{Site, spot_at, vars_at}
use Rattle.jn_sem.specs.LawsOfSlots.{HeadNamed}
use Rattle.jn_sem.proofs.Under.{bound_is, fits_whole, bound_depth}
use Rattle.jn_laws.specs.LawsOfWritten.{HeaderPath, of_this, of_param, scope_of, SiteFits}
use Rattle.jn_laws.proofs.Lists.{among_left, among_right, among_map}

-- ---- results

pub not_both : {A : Type 0} (a : A) (r : Refusal) → ◌≡◌ {A = Result A Refusal} (Ok a) (Err r) → ⊥
not_both a r e = cc

pub same_ok : {A : Type 0} (a b : A) → ◌≡◌ {A = Result A Refusal} (Ok a) (Ok b) → a ≡ b
same_ok a b e = cc

same_up : (q r j k : ℕ) → Up q j ≡ Up r k → (q ≡ r) × (j ≡ k)
same_up q r j k e = (cc, cc)

root_not_up : (q k : ℕ) → Root ≡ Up q k → ⊥
root_not_up q k e = cc

-- ---- lists turned round

pub among_reverse : {A : Type 0} (xs : List A) (x : A) → Among xs x → Among (reverse xs) x
among_reverse _ x (first {xs = xs}) = subst (λ (ys : List _). Among ys x) (sym (reverse-append (x ∷ []) xs)) (among_right (reverse xs) (x ∷ []) first)
among_reverse _ x (later {y = y} {xs = xs} m) = subst (λ (ys : List _). Among ys x) (sym (reverse-append (y ∷ []) xs)) (among_left (reverse xs) (y ∷ []) (among_reverse xs x m))

pub reverse_among : {A : Type 0} (xs : List A) (x : A) → Among (reverse xs) x → Among xs x
reverse_among {A} xs x m = subst (λ (ys : List A). Among ys x) (reverse-reverse xs) (among_reverse (reverse xs) x m)

-- ---- variables

newest_among : (vs : List Var) (x : Name) (v : Var) → newest vs x ≡ Some v → Among vs v
newest_among [] x v e = absurd (no e) where
  no : ◌≡◌ {A = Option Var} None (Some v) → ⊥
  no e = cc
newest_among (w ∷ vs) x v e = at (nat_eq w.name.0 x.0) e (newest_among vs x v) where
  same : Some w ≡ Some v → w ≡ v
  same e = cc

  at : (b : Bool) → cond b (Some w) (newest vs x) ≡ Some v → (newest vs x ≡ Some v → Among vs v) → Among (w ∷ vs) v
  at true e again = subst (Among (w ∷ vs)) (same e) first
  at false e again = later (again e)

-- a path that stands before `.class`: `this`, or a variable, where variables are paths
pub data Mentioned (r : Role) (vars : List Var) (q : ℕ) : Type 0 where
  this : q ≡ 0 → Mentioned r vars q
  variable : this_alone r ≡ false → (x : Var) → Among vars x → x.path ≡ q → x.fixed ≡ true → is_class x.ty ≡ true → Mentioned r vars q

pub header_path : (r : Role) (vars : List Var) (q : ℕ) → Mentioned r vars q → HeaderPath vars q
header_path r vars q (this e) = of_this e
header_path r vars q (variable a x m e f c) = of_param x m e f c

same_path : (q r : ℕ) → IsPath q ≡ IsPath r → q ≡ r
same_path q r e = cc

no_path : (q : ℕ) → NoPath ≡ IsPath q → ⊥
no_path q e = cc

not_in_scope : (x : Name) (q : ℕ) → NotInScope x ≡ IsPath q → ⊥
not_in_scope x q e = cc

path_if : (b : Bool) (n q : ℕ) → cond b (IsPath n) NoPath ≡ IsPath q → (b ≡ true) × (n ≡ q)
path_if true n q e = (refl, same_path n q e)
path_if false n q e = absurd (no_path q e)

both_true : (a b : Bool) → (a && b) ≡ true → (a ≡ true) × (b ≡ true)
both_true true b e = (refl, e)
both_true false b e = cc

of_found : (r : Role) (vs : Vars) (x : Name) (q : ℕ) (o : Option Var) → var_named vs x ≡ o → this_alone r ≡ false → of_variable x o ≡ IsPath q → Mentioned r vs.list q
of_found r vs x q None n a e = absurd (not_in_scope x q e)
of_found r vs x q (Some v) n a e =
    let h = path_if (v.fixed && is_class v.ty) v.path q e in
    let k = both_true v.fixed (is_class v.ty) h.0 in
    variable a v (reverse_among vs.list v (newest_among (reverse vs.list) x v n)) h.1 k.0 k.1

of_var : (r : Role) (vs : Vars) (x : Name) (q : ℕ) (alone : Bool) → this_alone r ≡ alone → cond alone NoPath (of_variable x (var_named vs x)) ≡ IsPath q → Mentioned r vs.list q
of_var r vs x q true a e = absurd (no_path q e)
of_var r vs x q false a e = of_found r vs x q (var_named vs x) refl a e

pub path_mentioned : (r : Role) (vs : Vars) (f : Ref) (q : ℕ) → path_before r vs f ≡ IsPath q → Mentioned r vs.list q
path_mentioned r vs ref.This q e = this (sym (same_path 0 q e))
path_mentioned r vs (ref.Var x) q e = of_var r vs x q (this_alone r) refl e

-- ---- the anchor of a term

-- the anchors that there are: none; `this` without names; a path itself; a path without the names that it has more than a prefix
pub data AnchorCase (sp : Spot) (vs : Vars) (h : Head) (a : Anchor) : Type 0 where
  no_anchor : a ≡ Root → AnchorCase sp vs h a
  outwards : (j : ℕ) → j < length (class_of sp) → a ≡ Up 0 j → AnchorCase sp vs h a
  itself : (q : ℕ) → Mentioned sp.role vs.list q → a ≡ Up q 0 → AnchorCase sp vs h a
  bracket : (q : ℕ) (P B : List Name) (r : Ref) → Mentioned sp.role vs.list q → h ≡ head.Prefix P r → length P ≤ length B → length B ≤ length (bound_of (scope_at sp vs) q)
      → a ≡ Up q (length (bound_of (scope_at sp vs) q) - length B) → AnchorCase sp vs h a

module _ (p : Program) (sp : Spot) (vs : Vars) (t : Term) where
  abbrev s : Scope
  s = scope_at sp vs

  plain_case : (h : Head) (j : ℕ) (b : Bool) (a : Anchor) → nat_lt j (length (class_of sp)) ≡ b → a ≡ cond b (Up 0 j) Root → AnchorCase sp vs h a
  plain_case h j true a e i = outwards j (ltb-true j (length (class_of sp)) e) i
  plain_case h j false a e i = no_anchor i

  plain_given : (h : Head) (x : Result ℕ Name) (a : Anchor) → Ok a ≡ plain_gives sp t x → AnchorCase sp vs h a
  plain_given h (Ok j) a e = plain_case h j (nat_lt j (length (class_of sp))) a refl (same_ok a (anchor_out (class_of sp) j) e)
  plain_given h (Err N) a e = absurd (not_both a _ e)

  behind_given : (front : Option Path) (V : Path) (b a : Anchor) → Behind p sp t front V b (Ok a) → a ≡ b
  behind_given front V b a (unknown_name N u e) = absurd (not_both a _ e)
  behind_given front V b a (not_above u n e) = absurd (not_both a _ e)
  behind_given front V b a (above u i e) = same_ok a b e

  own_given : (h : Head) (f : Ref) (b : Before) → path_before sp.role vs f ≡ b → (a : Anchor) → PathGives p sp s t None b (Ok a) → AnchorCase sp vs h a
  own_given h f (NotInScope x) e a g = absurd (not_both a _ g)
  own_given h f NoPath e a g = absurd (not_both a _ g)
  own_given h f (IsPath q) e a g = itself q (path_mentioned sp.role vs f q e) (behind_given None _ (Up q 0) a g)

  bracket_at : (q : ℕ) (P B : List Name) (f : Ref) (m : Bool) (a : Anchor) → Mentioned sp.role vs.list q → length P ≤ length B
      → nat_le (length B) (length (bound_of s q)) ≡ m → BoundGives p sp t (Some B) q (bound_of s q) (cond m (Some (length (bound_of s q) - length B)) None) (Ok a)
      → AnchorCase sp vs (head.Prefix P f) a
  bracket_at q P B f true a n l e g = bracket q P B f n refl l (leb-true (length B) (length (bound_of s q)) e) (behind_given (Some B) _ (Up q (length (bound_of s q) - length B)) a g)
  bracket_at q P B f false a n l e g = absurd (not_both a _ g)

  bracket_given : (P B : List Name) (f : Ref) (b : Before) → path_before sp.role vs f ≡ b → length P ≤ length B → (a : Anchor)
      → PathGives p sp s t (Some B) b (Ok a) → AnchorCase sp vs (head.Prefix P f) a
  bracket_given P B f (NotInScope x) e l a g = absurd (not_both a _ g)
  bracket_given P B f NoPath e l a g = absurd (not_both a _ g)
  bracket_given P B f (IsPath q) e l a g = bracket_at q P B f (nat_le (length B) (length (bound_of s q))) a (path_mentioned sp.role vs f q e) l refl g

  prefix_given : (P : List Name) (f : Ref) (x : Result ℕ Name) (a : Anchor) → PrefixGives p sp vs t P f x (Ok a) → AnchorCase sp vs (head.Prefix P f) a
  prefix_given P f (Ok j) a g =
      bracket_given P (reverse P ++ drop j (class_of sp)) f (path_before sp.role vs f) refl
      (omega (arith, length-append (reverse P) (drop j (class_of sp)), length-reverse P)) a g
  prefix_given P f (Err N) a g = absurd (not_both a _ g)

  pub anchor_case : (h : Head) (a : Anchor) → AnchorGiven p sp vs t h (Ok a) → AnchorCase sp vs h a
  anchor_case head.Plain a g = plain_given head.Plain g.found a g.gives
  anchor_case (head.Own f) a g = own_given (head.Own f) f (path_before sp.role vs f) refl a g
  anchor_case (head.Prefix P f) a g = prefix_given P f g.found a g.gives

  -- ---- the whole term

  pub record TermCase (y : ShownAtom) : Type 0 where
    pub anchor : AnchorCase sp vs t.head y.anchor
    pub class : IsOfClass p sp.role (bound_at sp vs y)
    pub suits : suits sp.role y ≡ true

  class_given : (x y : ShownAtom) → ClassGives p sp t (bound_at sp vs x) x (Ok y) → (y ≡ x) × IsOfClass p sp.role (bound_at sp vs x)
  class_given x y (no_class n e) = absurd (not_both y _ e)
  class_given x y (in_class n e) = (same_ok y x e, n)

  suit_given : (b : Bool) (x y : ShownAtom) → SuitGives p sp vs t x b (Ok y) → (y ≡ x) × IsOfClass p sp.role (bound_at sp vs x) × (b ≡ true)
  suit_given true x y g = let c = class_given x y g in (c.0, c.1, refl)
  suit_given false x y g = absurd (not_both y _ g)

  atom_given : (r : Result Anchor Refusal) (y : ShownAtom) → AnchorGiven p sp vs t t.head r → AtomGives p sp vs t r (Ok y) → TermCase y
  atom_given (Ok a) y g e =
      let h = suit_given (suits sp.role (atom_with a t)) (atom_with a t) y e in record {
        anchor = subst (AnchorCase sp vs t.head) (sym (ap (λ (x : ShownAtom). x.anchor) h.0)) (anchor_case t.head a g);
        class = subst (λ (x : ShownAtom). IsOfClass p sp.role (bound_at sp vs x)) (sym h.0) h.1;
        suits = ap (suits sp.role) h.0 ∙ h.2;
      }
  atom_given (Err r) y g e = absurd (not_both y r e)

  pub term_case : (y : ShownAtom) → Resolve p sp vs t (Ok y) → TermCase y
  term_case y g = atom_given g.anchor y g.given g.gives

-- ---- the path of an anchor

pub case_path : (sp : Spot) (vs : Vars) (h : Head) (a : Anchor) (q k : ℕ) → AnchorCase sp vs h a → a ≡ Up q k → Mentioned sp.role vs.list q
case_path sp vs h a q k (no_anchor e) i = absurd (root_not_up q k (sym e ∙ i))
case_path sp vs h a q k (outwards j l e) i = this (sym (same_up 0 q j k (sym e ∙ i)).0)
case_path sp vs h a q k (itself r m e) i = subst (Mentioned sp.role vs.list) (same_up r q 0 k (sym e ∙ i)).0 m
case_path sp vs h a q k (bracket r P B f m n l c e) i = subst (Mentioned sp.role vs.list) (same_up r q _ k (sym e ∙ i)).0 m

-- ---- where the variables in scope fit

is_class_type : (t : Ty) → is_class t ≡ true → IsClassType t
is_class_type (ty.Class xs m) e = tt
is_class_type ty.Int e = cc
is_class_type ty.Bool e = cc
is_class_type ty.Null e = cc
is_class_type ty.Void e = cc

module _ (p : Program) (at : Site) (r : Role) (ok : SiteFits p at) where
  abbrev here : Scope
  here = scope_of at

  this_among : Among here (this_bind (class_of (spot_at at r)))
  this_among = among_reverse (this_bind (class_of (spot_at at r)) ∷ map var_bind at.vars) (this_bind (class_of (spot_at at r))) first

  pub var_among : (v : Var) → Among at.vars v → Among here (var_bind v)
  var_among v m = among_reverse (this_bind (class_of (spot_at at r)) ∷ map var_bind at.vars) (var_bind v) (later (among_map var_bind at.vars v m))

  pub this_bound : bound_of here 0 ≡ class_of (spot_at at r)
  this_bound = bound_is this_among ok.binds ∙ (append-nil _ ∙ reverse-reverse (class_of (spot_at at r)))

  class_long : 0 < length (class_of (spot_at at r))
  class_long = subst (λ (Q : Path). 0 < length Q) (sym (reverse-reverse at.class)) (long at.class ok.class) where
    long : (Q : Path) → InUniverse p Q → 0 < length Q
    long [] u = absurd u
    long (C ∷ P) u = omega arith

  -- a path that is mentioned is in scope, and its bound has a name
  pub record PathThere (q : ℕ) : Type 0 where
    pub bound_in : Binds here q
    pub long : 0 < length (bound_of here q)

  pub path_there : (q : ℕ) → Mentioned r at.vars q → PathThere q
  path_there q (this e) = subst PathThere (sym e) (record {
    bound_in = record { bind = this_bind (class_of (spot_at at r)); among = this_among; is = refl };
    long = subst (λ (Q : Path). 0 < length Q) (sym this_bound) class_long;
  })
  path_there q (variable a v m e f c) = subst PathThere e (record { bound_in = record { bind = var_bind v; among = var_among v m; is = refl }; long = long }) where
    long : 0 < length (bound_of here v.path)
    long =
        let t = fits_whole (var_among v m) ok.binds in
        let o = t.atoms (is_class_type v.ty c) in
        subst (λ (n : ℕ). 0 < n) (sym (bound_depth (var_among v m) ok.binds o.one o.among)) (ok.named v m o.one o.among)

  pub anchored_case : (h : Head) (a : Anchor) → HeadNamed h → AnchorCase (spot_at at r) (vars_at at) h a → Anchored here a
  anchored_case h a n (no_anchor e) = subst (Anchored here) (sym e) tt
  anchored_case h a n (outwards j l e) =
      subst (Anchored here) (sym e) ((path_there 0 (this refl)).bound_in, subst (λ (Q : Path). j < length Q) (sym this_bound) l)
  anchored_case h a n (itself q m e) = let t = path_there q m in subst (Anchored here) (sym e) (t.bound_in, t.long)
  anchored_case h a n (bracket q P B f m i l c e) =
      let t = path_there q m in
      let named : 0 < length P = subst HeadNamed i n in
      subst (Anchored here) (sym e) (t.bound_in, omega (arith, named, l, c, t.long))
