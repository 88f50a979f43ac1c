-- The types of paths, fields, views and new objects.
use Rattle.std.proofs.Common.{◌≡◌, ◌<◌, ◌≤◌, ℕ, List, [], ◌∷◌, ◌++◌, length, refl, sym, ap, ◌∙◌, subst, arith, append_assoc, Bool, cond, ne_eqb}
use Rattle.std.specs.Prelude.{reverse}
use Rattle.std.proofs.lemmas.List.{reverse-reverse}
use Rattle.jn_base.specs.declared.tree.Name.{Name}
use Rattle.jn_base.specs.declared.tree.Term.{Term}
use Rattle.jn_base.specs.declared.tree.Program.{Program}
use Rattle.jn_base.specs.declared.types.Anchor.TheVariants.{Up}
use Rattle.jn_base.specs.declared.types.Ty.{Ty}
use Rattle.jn_base.specs.declared.names.Role.TheVariants as role
use Rattle.jn_base.specs.Paths.{Path}
use Rattle.jn_base.specs.Universe.{InUniverse}
use Rattle.jn_base.specs.Atoms.{Atom, atom, atom_of, shown_atom, atoms_in, anchor_at, first_at, Among, first, later}
use Rattle.jn_base.specs.Scopes.{Bind, Scope, bound_of, bound, Binds}
use Rattle.jn_base.specs.Fits.{Anchored, TypeFits, BindsFit}
use Rattle.jn_base.proofs.SuperLaws.{sup_level}
use Rattle.jn_base.proofs.Reaching.{declared_in_universe}
use Rattle.jn_sem.specs.Normal.{same_path, swapped, MovedFits}
use Rattle.jn_sem.specs.NormalFunction.{normal_type}
use Rattle.jn_sem.specs.LawsOfSlots.{HeadNamed}
use Rattle.jn_sem.specs.Terms.{Site, TermIs}
use Rattle.jn_sem.proofs.Under.{bound_shallow, bound_depth, bound_later, type_later, type_anchored}
use Rattle.jn_laws.specs.LawsOfWritten.{Shallow, HeaderPath, of_this, of_param, site_with, scope_of, SiteFits, TypeThere}
use Rattle.jn_laws.specs.LawsOfSources.{WellFormed}
use Rattle.jn_laws.specs.LawsOfScopes.{ScopesAlike}
use Rattle.jn_laws.specs.LawsOfFits.{AsDeep, PutAsDeep, MovedOf}
use Rattle.jn_laws.proofs.AlikeScopes.{fits_like, bound_like}
use Rattle.jn_laws.proofs.MovedTypes.{moved_types_fit, subst_from, below_keeps_depth}
use Rattle.jn_laws.proofs.Terms.{this_bound}
use Rattle.jn_laws.proofs.WrittenTypes.{written_types, no_variable}
use Rattle.jn_rules.specs.Plans.{FoundField}
use Rattle.jn_rules.specs.Questions.{IsFoundField, HasFieldAt}
use Rattle.jn_rules.specs.Exprs.{bind, path_type, put_in, made_exact}
use Rattle.jn_rule_laws.specs.LawsOfForms.{Grown, none, more, ScopeFor, TypeKnown, PathKnown, PathTypesFit}
use Rattle.jn_rule_laws.proofs.FoundMembers.{FoundAt, found_at}

-- ---- paths

path_atom : ℕ → Atom
path_atom q = atom_of (shown_atom (atom (Up q 0) [] []))

only_path : (s : Scope) (q : ℕ) (x : Atom) → Among (atoms_in (path_type s q)) x → x ≡ path_atom q
unfolding path_atom
only_path s q _ first = refl
only_path s q x (later m) = elim m [ ]

path_bound : (s : Scope) (q : ℕ) (x : Atom) → x ≡ path_atom q → bound s x ≡ bound_of s q
unfolding path_atom
path_bound s q x e = ap (bound s) e

pub path_known : (s : Scope) (q : ℕ) → BindsFit s → Binds s q → 0 < length (bound_of s q) → TypeKnown s (path_type s q)
unfolding path_atom
path_known s q f b l = record {
  fits = record {
    atoms = λ i. record {
      one = path_atom q;
      among = first;
      anchored = λ x m. subst (λ (z : Atom). Anchored s z.anchor) (sym (only_path s q x m)) (b, l);
      depth = λ x m. ap (λ (z : Atom). length (bound s z)) (only_path s q x m);
      shallow = bound_shallow s f q;
    };
  };
  named = λ x m. subst (λ (R : Path). 0 < length R) (sym (path_bound s q x (only_path s q x m))) l;
}

pub of_path_known : (s : Scope) (q : ℕ) → Binds s q → PathKnown s q (path_type s q)
of_path_known s q b = record { bound_in = b; depth = λ x m. ap length (sym (path_bound s q x (only_path s q x m))) }

pub fresh_known : (s : Scope) (q : ℕ) (t : Ty) → BindsFit (bind q t ∷ s) → PathKnown (bind q t ∷ s) q t
fresh_known s q t f = record { bound_in = record { bind = bind q t; among = first; is = refl }; depth = λ x m. bound_depth first f x m }

-- ---- grown scopes

pub bound_older : {s : Scope} {c : Bind} → BindsFit (c ∷ s) → (r : ℕ) → Binds s r → bound_of (c ∷ s) r ≡ bound_of s r
bound_older {s} {c} f r b = ap (λ (t : Bool). cond t (first_at (bound_of s) (atoms_in c.ty)) (bound_of s r)) (ne_eqb r c.path (λ e. f.1 (subst (Binds s) e b)))

pub later_known : {s t : Scope} {u : Ty} → Grown s t → BindsFit t → TypeKnown s u → TypeKnown t u
later_known none f k = k
later_known {u = u} (more {t = t} {b = b} g) f k =
    let h = later_known g f.0 k in record {
      fits = type_later f h.fits;
      named = λ x m. subst (λ (R : Path). 0 < length R) (sym (bound_later f x (type_anchored h.fits x m))) (h.named x m);
    }

pub path_later : {s t : Scope} {u : Ty} (q : ℕ) → Grown s t → BindsFit t → TypeKnown s u → PathKnown s q u → PathKnown t q u
path_later q none f k n = n
path_later {u = u} q (more {t = t} {b = b} g) f k n =
    let h = later_known g f.0 k in
    let o = path_later q g f.0 k n in record {
      bound_in = record { bind = o.bound_in.bind; among = later o.bound_in.among; is = o.bound_in.is };
      depth = λ x m. ap length (bound_older f q o.bound_in) ∙ o.depth x m ∙ sym (ap length (bound_later f x (type_anchored h.fits x m)));
    }

alike_known : {s t : Scope} {u : Ty} → ScopesAlike s t → TypeKnown s u → TypeKnown t u
alike_known {u = u} h k = record { fits = fits_like h u k.fits; named = λ x m. subst (λ (R : Path). 0 < length R) (sym (bound_like h x)) (k.named x m) }

pub for_known : {at : Site} {s : Scope} {u : Ty} → ScopeFor at s → TypeKnown (scope_of at) u → TypeKnown s u
for_known h k = later_known h.grown h.binds (alike_known h.alike k)

-- ---- normal forms

own_paths : (s : Scope) (t : Ty) → TypeFits s t → PutAsDeep s s same_path t
own_paths s t f x q k m e = let a : Anchored s (Up q k) = subst (Anchored s) e (type_anchored f x m) in record { bound_in = a.0; depth = refl }

pub normal_known : (s : Scope) (t : Ty) → BindsFit s → TypeKnown s t → TypeKnown s (normal_type s t)
normal_known s t f k = put_known (moved_types_fit s s same_path t k.fits (own_paths s t k.fits)) where
  put_known : MovedOf s s same_path t → TypeKnown s (normal_type s t)
  put_known m = record {
    fits = m.substituted f;
    named = λ y n. let o = subst_from s same_path t y n in subst (λ (l : ℕ). 0 < l) (sym (m.depth f o.0 y o.1 n)) (k.named o.0 o.1);
  }

pub normal_depth_is : (s : Scope) (t : Ty) (x y : Atom) → BindsFit s → TypeKnown s t → Among (atoms_in t) x → Among (atoms_in (normal_type s t)) y → length (bound s y) ≡ length (bound s x)
normal_depth_is s t x y f k m n = (moved_types_fit s s same_path t k.fits (own_paths s t k.fits)).depth f x y m n

-- ---- new objects

atom_back : (y : Atom) → atom_of (shown_atom y) ≡ y
atom_back y = ap (λ (es : List Name). atom y.anchor es (reverse (reverse y.names))) (reverse-reverse y.exact) ∙ ap (λ (ns : List Name). atom y.anchor y.exact ns) (reverse-reverse y.names)

made_atom : Atom → Atom
made_atom x = atom x.anchor (x.names ++ x.exact) []

only_made : (x y : Atom) → Among (atoms_in (made_exact x)) y → y ≡ made_atom x
unfolding made_atom
only_made x _ first = atom_back (atom x.anchor (x.names ++ x.exact) [])
only_made x y (later m) = elim m [ ]

made_bound : (s : Scope) (x y : Atom) → y ≡ made_atom x → bound s y ≡ bound s x
unfolding made_atom
made_bound s x y e = ap (bound s) e ∙ append_assoc x.names x.exact (anchor_at (bound_of s) x.anchor)

made_known : (p : Program) (at : Site) (t : Term) (x : Atom) → Shallow p → SiteFits p at → HeadNamed t.head → TermIs p role.New at t x → TypeKnown (scope_of at) (made_exact x)
unfolding made_atom
made_known p at t x deep ok n i = record {
  fits = record {
    atoms = λ c. record {
      one = atom_of (shown_atom (made_atom x));
      among = first;
      anchored = λ y m. subst (λ (z : Atom). Anchored (scope_of at) z.anchor) (sym (only_made x y m)) ((written_types p deep).of_term role.New at t x ok n i);
      depth = λ y m. ap length (made_bound (scope_of at) x y (only_made x y m)) ∙ sym (ap length (made_bound (scope_of at) x (atom_of (shown_atom (made_atom x))) (only_made x _ first)));
      shallow = subst (λ (R : Path). length R ≤ 255) (sym (made_bound (scope_of at) x (atom_of (shown_atom (made_atom x))) (only_made x _ first))) (deep _ there);
    };
  };
  named = λ y m. subst (λ (R : Path). 0 < length R) (sym (made_bound (scope_of at) x y (only_made x y m))) (long _ there);
} where
  there : InUniverse p (bound (scope_of at) x)
  there = (written_types p deep).new_class at t x i

  long : (R : Path) → InUniverse p R → 0 < length R
  long [] u = absurd u
  long (C ∷ P) u = omega arith

-- ---- fields

-- the declared type with the path put, and its normal form
field_fits : (p : Program) (s : Scope) (t : Ty) (f : Name) (c : FoundField) (q : ℕ) → Shallow p → WellFormed p → IsFoundField p s t f c → PathKnown s q t
    → MovedFits s (swapped (0 ∷ []) (q ∷ [])) c.ty × (BindsFit s → TypeKnown s (put_in s (0 ∷ []) (q ∷ []) c.ty))
field_fits p s t f c q deep w i k = (
  moves.moved,
  λ g. record {
    fits = moves.substituted g;
    named = λ y n. let o = subst_from s (swapped (0 ∷ []) (q ∷ [])) c.ty y n in subst (λ (l : ℕ). 0 < l) (sym (moves.depth g o.0 y o.1 n)) (there.named o.0 o.1);
  },
) where
  Q : Path
  Q = i.type.class

  at : Site
  at = site_with Q f []

  in_it : InUniverse p Q
  in_it = declared_in_universe p Q i.type.at.decl i.type.at.stands

  there : TypeThere at c.ty
  there = (written_types p deep).of_field Q f i.type.field.ty c.ty in_it (w.fields Q f i.type.field i.type.at) i.type.type

  found : FoundAt s (HasFieldAt p f) (atoms_in t) i.bound
  found = found_at (atoms_in t) i.at

  own_depth : length (bound_of (scope_of at) 0) ≡ length Q
  own_depth = ap length (this_bound p at role.Value (no_variable p deep Q f in_it)) ∙ ap length (reverse-reverse Q)

  deep_enough : AsDeep (scope_of at) s 0 q
  deep_enough = record {
    bound_in = k.bound_in;
    depth = k.depth found.atom found.among ∙ ap length (sym found.is) ∙ sym (sup_level i.type.is_field.declares.super) ∙ sym own_depth;
  }

  no_param : (r : ℕ) → HeaderPath [] r → AsDeep (scope_of at) s r (swapped (0 ∷ []) (q ∷ []) r)
  no_param r (of_this e) = subst (λ (z : ℕ). AsDeep (scope_of at) s z (swapped (0 ∷ []) (q ∷ []) z)) (sym e) deep_enough
  no_param r (of_param x m e a b) = elim m [ ]

  moves : MovedOf (scope_of at) s (swapped (0 ∷ []) (q ∷ [])) c.ty
  moves = moved_types_fit (scope_of at) s (swapped (0 ∷ []) (q ∷ [])) c.ty there.fits (λ x r j m e. no_param r (there.paths x r j m e))

pub path_types_fit : PathTypesFit
path_types_fit p = record {
  path = path_known;
  of_path = of_path_known;
  fresh = fresh_known;
  later = λ s t u g f k. later_known g f k;
  path_later = λ s t q u g f k n. path_later q g f k n;
  above = λ s t u f k fits b x m. record { fits = fits; named = λ y n. subst (λ (l : ℕ). 0 < l) (sym (below_keeps_depth p s t u x y f k.fits b m n)) (k.named x m) };
  written = λ at s t h k. for_known h (record { fits = k.fits; named = k.named });
  normal = normal_known;
  made = λ at s t x deep ok n h i. normal_known s (made_exact x) h.binds (for_known h (made_known p at t x deep ok n i));
  made_depth = λ at s t x y deep ok n h i m.
      normal_depth_is s (made_exact x) (atom_of (shown_atom (atom x.anchor (x.names ++ x.exact) []))) y h.binds (for_known h (made_known p at t x deep ok n i)) first m
      ∙ ap length (made_bound s x (atom_of (shown_atom (atom x.anchor (x.names ++ x.exact) []))) (only_made x _ first));
  field = λ s t f c q deep w g i k. (field_fits p s t f c q deep w i k).1 g;
  field_moved = λ s t f c q deep w i k. (field_fits p s t f c q deep w i k).0;
}
