-- Variables have paths of their own, and no type of a scope without fresh paths mentions one that isn't `final`.
use Rattle.std.proofs.Common.{◌≡◌, ℕ, List, [], ◌∷◌, ◌++◌, map, Option, Some, None, Bool, true, false, refl, sym, ap, ◌∙◌, subst, append_assoc}
use Rattle.std.specs.Prelude.{cond, nat_eq, reverse}
use Rattle.std.proofs.lemmas.List.{append-nil, map-append, reverse-append}
use Rattle.jn_base.specs.declared.tree.Name.{Name}
use Rattle.jn_base.specs.declared.types.Anchor.TheVariants.{Root, Up}
use Rattle.jn_base.specs.declared.names.Role.TheVariants as role
use Rattle.jn_base.specs.declared.names.Var.{Var}
use Rattle.jn_base.specs.Paths.{Path}
use Rattle.jn_base.specs.Atoms.{Atom, atoms_in, Among, first, later}
use Rattle.jn_base.specs.Scopes.{Bind, Scope, this_bind}
use Rattle.jn_base.specs.Fits.{BindsFit}
use Rattle.jn_base.specs.Resolve.{class_of, var_bind, var_named, newest}
use Rattle.jn_sem.specs.Terms.{Site, spot_at}
use Rattle.jn_sem.proofs.NormalTypes.{map_among}
use Rattle.jn_laws.specs.LawsOfScopes.{ScopesAlike}
use Rattle.jn_laws.specs.LawsOfWritten.{HeaderPath, HeaderPaths, of_this, of_param, site_with, scope_of}
use Rattle.jn_laws.proofs.AlikeScopes.{alike_back, Like, like}
use Rattle.jn_laws.proofs.Lists.{among_map, among_left, among_right}
use Rattle.jn_laws.proofs.Terms.{among_reverse, reverse_among}
use Rattle.jn_sound.specs.Takes.{OwnPaths}

pub scope_more : (at : Site) (x : Var) → scope_of
    (site_with at.class at.method (at.vars ++ x ∷ [])) ≡ var_bind x ∷ scope_of at
scope_more at x =
    ap (λ (bs : List Bind). reverse (this_bind (class_of (spot_at at role.Value)) ∷ bs))
    (map-append var_bind at.vars (x ∷ []))
    ∙ reverse-append (this_bind (class_of (spot_at at role.Value)) ∷ map var_bind at.vars) (var_bind x ∷ [])

-- ---- a variable that is named is in scope

newest_among : (vs : List Var) (x : Name) (v : Var) → newest vs x ≡ Some v → Among vs v
newest_among [] x v e = absurd (no e) where
  no : ◌≡◌ {A = Option Var} None (Some v) → ⊥
  no e = cc
newest_among (w ∷ vs) x v e = at (nat_eq w.name.0 x.0) e (newest_among vs x v) where
  same : Some w ≡ Some v → w ≡ v
  same e = cc

  at : (b : Bool) → cond b (Some w) (newest vs x) ≡ Some v → (newest vs x ≡ Some v → Among vs v) → Among (w ∷ vs) v
  at true e again = subst (Among (w ∷ vs)) (same e) first
  at false e again = later (again e)

pub found_among : (vs : List Var) (x : Name) (v : Var) → var_named (record { list = vs }) x ≡ Some v → Among vs v
found_among vs x v e = reverse_among vs v (newest_among (reverse vs) x v e)

-- ---- paths of their own

module _ (C : Path) (m : Name) where
  abbrev S : List Var → Scope
  S vs = scope_of (site_with C m vs)

  abbrev this_there : Bind
  this_there = this_bind (class_of (spot_at (site_with C m []) role.Value))

  -- what fits with all variables fits with the first ones
  binds_before : (vs ws : List Var) → BindsFit (S (vs ++ ws)) → BindsFit (S vs)
  binds_before vs [] f = subst (λ (l : List Var). BindsFit (S l)) (append-nil vs) f
  binds_before vs (x ∷ ws) f =
      (subst BindsFit (scope_more (site_with C m vs) x)
      (binds_before (vs ++ x ∷ []) ws
      (subst (λ (l : List Var). BindsFit (S l)) (sym (append_assoc vs (x ∷ []) ws)) f))).0

  binds_at : (vs ws : List Var) (x : Var) → BindsFit (S (vs ++ x ∷ ws)) → BindsFit (var_bind x ∷ S vs)
  binds_at vs ws x f =
      subst BindsFit (scope_more (site_with C m vs) x)
      (binds_before (vs ++ x ∷ []) ws
      (subst (λ (l : List Var). BindsFit (S l)) (sym (append_assoc vs (x ∷ []) ws)) f))

  this_in : (vs : List Var) → Among (S vs) this_there
  this_in vs = among_reverse (this_there ∷ map var_bind vs) this_there first

  var_in : (vs : List Var) (v : Var) → Among vs v → Among (S vs) (var_bind v)
  var_in vs v a = among_reverse (this_there ∷ map var_bind vs) (var_bind v) (later (among_map var_bind vs v a))

  apart : (vs ws : List Var) (v u : Var) → Among vs v → Among ws u → BindsFit (S (vs ++ ws)) → u.path ≡ v.path → ⊥
  apart vs _ v u a (first {xs = ws}) f e =
      (binds_at vs ws u f).1 (record { bind = var_bind v; among = var_in vs v a; is = sym e })
  apart vs _ v u a (later {y = x} {xs = ws} n) f e =
      apart (vs ++ x ∷ []) ws v u (among_left vs (x ∷ []) a) n
      (subst (λ (l : List Var). BindsFit (S l)) (sym (append_assoc vs (x ∷ []) ws)) f) e

  own_behind : (vs ws : List Var) → BindsFit (S (vs ++ ws)) → OwnPaths ws
  own_behind vs [] f = tt
  own_behind vs (x ∷ ws) f =
      let g : BindsFit (S ((vs ++ x ∷ []) ++ ws)) =
      subst (λ (l : List Var). BindsFit (S l)) (sym (append_assoc vs (x ∷ []) ws)) f in (
        own_behind (vs ++ x ∷ []) ws g,
        (λ u a e. apart (vs ++ x ∷ []) ws x u (among_right vs (x ∷ []) first) a g e),
        (λ e. (binds_at vs ws x f).1 (record { bind = this_there; among = this_in vs; is = sym e })),
      )

-- each variable of a scope that fits has a path of its own
pub own_paths : (at : Site) → BindsFit (scope_of at) → OwnPaths at.vars
own_paths at f = own_behind at.class at.method [] at.vars f

-- variables with one path are one
pub one_var : (vs : List Var) → OwnPaths vs → (v w : Var) → Among vs v → Among vs w → v.path ≡ w.path → v ≡ w
one_var _ own v _ first first e = refl
one_var _ own v w first (later n) e = absurd (own.1 w n (sym e))
one_var _ own v w (later a) first e = absurd (own.1 v a e)
one_var _ own v w (later a) (later n) e = one_var _ own.0 v w a n e

pub not_this : (vs : List Var) → OwnPaths vs → (v : Var) → Among vs v → v.path ≡ 0 → ⊥
not_this _ own _ first e = own.2 e
not_this _ own v (later a) e = not_this _ own.0 v a e

-- ---- what types mention

no_root : (q k : ℕ) → Root ≡ Up q k → ⊥
no_root q k e = cc

scope_paths : (at : Site) → ((v : Var) → Among at.vars v → HeaderPaths at.vars v.ty) → (b : Bind)
    → Among (scope_of at) b → (z : Atom) → Among (atoms_in b.ty) z → (q k : ℕ) → z.anchor ≡ Up q k
    → HeaderPath at.vars q
scope_paths at own b m z n q k e = in_it b
    (reverse_among (this_bind (class_of (spot_at at role.Value)) ∷ map var_bind at.vars) b m) n where
      of_root : (y : Atom) → Among (atoms_in (this_bind (class_of (spot_at at role.Value))).ty) y → y.anchor ≡ Up q k
          → HeaderPath at.vars q
      of_root _ first e = absurd (no_root q k e)
      of_root y (later o) e = elim o [ ]

      of_var : (c : Bind) → Among (map var_bind at.vars) c → Among (atoms_in c.ty) z → HeaderPath at.vars q
      of_var c o n =
          let v = map_among var_bind at.vars c o in
          own v.0 v.1 z q k (subst (λ (d : Bind). Among (atoms_in d.ty) z) (sym v.2) n) e

      in_it : (c : Bind) → Among (this_bind (class_of (spot_at at role.Value)) ∷ map var_bind at.vars) c
          → Among (atoms_in c.ty) z → HeaderPath at.vars q
      in_it _ first n = of_root z n e
      in_it c (later o) n = of_var c o n

-- a path that types mention is no variable that isn't `final`
pub not_mentioned : (vs : List Var) → OwnPaths vs → (v : Var) → Among vs v → v.fixed ≡ false → (q : ℕ)
    → HeaderPath vs q → q ≡ v.path → ⊥
not_mentioned vs own v a free q (of_this z) e = not_this vs own v a (sym e ∙ z)
not_mentioned vs own v a free q (of_param w b i fixed c) e =
    no (sym fixed ∙ ap (λ (z : Var). z.fixed) (one_var vs own w v b a (i ∙ e)) ∙ free) where
      no : true ≡ false → ⊥
      no e = cc

-- no type of a scope of the variables, with any masks, mentions one
pub unmentioned : (at : Site) (s : Scope) → ScopesAlike (scope_of at) s → BindsFit (scope_of at)
    → ((v : Var) → Among at.vars v → HeaderPaths at.vars v.ty) → (v : Var) → Among at.vars v → v.fixed ≡ false
    → (b : Bind) (x : Atom) (q k : ℕ) → Among s b → Among (atoms_in b.ty) x → x.anchor ≡ Up q k → q ≡ v.path → ⊥
unmentioned at s alike fit paths v a free b x q k m n e =
    at_old (like (alike_back alike) b m) where
      at_old : Like (scope_of at) b → q ≡ v.path → ⊥
      at_old l = not_mentioned at.vars (own_paths at fit) v a free q
          (scope_paths at paths l.bind l.among x
          (subst (λ (xs : List Atom). Among xs x) (sym l.alike.atoms) n) q k e)
