-- Targets with a fixed family: that of a view, and the right side of a constraint.
use Rattle.std.proofs.Common.{◌≡◌, ◌<◌, ℕ, List, [], ◌∷◌, ◌++◌, length, drop, true, ap, ◌∙◌, subst, arith, length-append, length-drop}
use Rattle.std.specs.Prelude.{Ok, Contains, reverse}
use Rattle.std.proofs.lemmas.Bool.{ltb-true}
use Rattle.std.proofs.lemmas.List.{length-reverse, reverse-reverse}
use Rattle.jn_base.specs.declared.tree.Name.{Name}
use Rattle.jn_base.specs.declared.tree.Constraint.{Constraint}
use Rattle.jn_base.specs.declared.tree.Program.{Program}
use Rattle.jn_base.specs.declared.tree.ViewTerm.{ViewTerm}
use Rattle.jn_base.specs.declared.names.Role.{Role}
use Rattle.jn_base.specs.declared.names.Role.TheVariants as role
use Rattle.jn_base.specs.declared.types.Anchor.{Anchor}
use Rattle.jn_base.specs.declared.types.Anchor.TheVariants.{Root, Up}
use Rattle.jn_base.specs.declared.types.Atom.{Atom as ShownAtom}
use Rattle.jn_base.specs.declared.types.Masks.{Masks}
use Rattle.jn_base.specs.declared.types.Ty.TheVariants as ty
use Rattle.jn_base.specs.Paths.{Path}
use Rattle.jn_base.specs.Supers.{Sup}
use Rattle.jn_base.specs.Universe.{InUniverse}
use Rattle.jn_base.specs.Members.{MethodAt}
use Rattle.jn_base.specs.Atoms.{atom_of, Among, first}
use Rattle.jn_base.specs.Scopes.{Scope, bound_of}
use Rattle.jn_base.specs.Fits.{Anchored, BindsFit}
use Rattle.jn_base.specs.Resolve.{is_fixed, has_exact, suits}
use Rattle.jn_base.specs.ResolveTypes.{mask_names, ResolveView}
use Rattle.jn_base.proofs.SuperLaws.{sup_level}
use Rattle.jn_sem.specs.Sets.{Views, AnchorSeen, eval, no_views, Respects}
use Rattle.jn_sem.specs.Holds.{rooted_at, rooted}
use Rattle.jn_sem.specs.Terms.{Site, spot_at, vars_at}
use Rattle.jn_sem.proofs.Under.{under_length, value_under, type_anchored}
use Rattle.jn_laws.specs.LawsOfViews.{OfThis}
use Rattle.jn_laws.specs.LawsOfWritten.{scope_of, site_with}
use Rattle.jn_laws.proofs.Terms.{this_bound}
use Rattle.jn_laws.proofs.WrittenTypes.{class_case, written_types, no_variable}
use Rattle.jn_rules.specs.Plans.{Pledge, target_type}
use Rattle.jn_rules.specs.Questions.{ConstraintGives, header_site}
use Rattle.jn_sound.proofs.Laws.{Laws}
use Rattle.jn_sound.proofs.Granted.{sides_there}

-- ---- what the role asks of it

same_atoms : (xs : List ShownAtom) (y : ShownAtom) (m k : Masks) → ty.Class (y ∷ []) m ≡ ty.Class xs k → y ∷ [] ≡ xs
same_atoms xs y m k e = cc

-- the one atom of a view or a side suits its role
pub view_suits : (p : Program) (r : Role) (at : Site) (t : ViewTerm) (y : ShownAtom) (m : Masks)
    → ResolveView p (mask_names p) (spot_at at r) (vars_at at) t (Ok (ty.Class (y ∷ []) m)) → suits r y ≡ true
view_suits p r at t y m g =
    let c = class_case p (spot_at at r) (vars_at at) (mask_names p) (t.term ∷ []) t.masks g.atoms (ty.Class (y ∷ []) m)
    g.all g.gives in
    (c.each y (subst (λ (l : List ShownAtom). Among l y)
    (same_atoms c.atoms y m c.given.masks c.given.is) first)).is.suits

-- ---- the names of its anchor

-- in a scope: there is one, or an exact name
pub target_long : {p : Program} {s : Scope} {v : Views} → BindsFit s → Respects p v s → (y : ShownAtom)
    → is_fixed y.anchor (has_exact y) ≡ true → Anchored s y.anchor → AnchorSeen v y.anchor
    → 0 < length ((atom_of y).exact ++ eval v (atom_of y).anchor)
target_long {p} {s} {v} b r y = at y.anchor where
  at : (a : Anchor) → is_fixed a (has_exact y) ≡ true → Anchored s a → AnchorSeen v a
      → 0 < length (reverse y.exact ++ eval v a)
  at Root f n seen =
      let l : 0 < length y.exact = ltb-true 0 (length y.exact) f in
      omega (arith, l, length-reverse y.exact, length-append (reverse y.exact) (eval v Root))
  at (Up q k) f n seen =
      let l = under_length (value_under v b r (Up q k) seen) in
      omega (arith, n.1, l, length-drop k (bound_of s q), length-append (reverse y.exact) (eval v (Up q k)))

-- the right side of a constraint of a class's header, with `this` at an heir
pub side_long : {p : Program} → Laws p → (Q : Path) (name : Name) (x : _) (c : Constraint) (k : Pledge) (R : Path)
    → MethodAt p Q name x → Contains x.sharing c → InUniverse p Q → Sup p R Q
    → ConstraintGives p (header_site Q x.name.name) c (Ok k) → OfThis k.to.atom.anchor
    → 0 < length ((rooted_at R (atom_of k.to.atom)).exact
    ++ eval no_views (rooted_at R (atom_of k.to.atom)).anchor)
side_long {p} n Q name x c k R method among there higher gives alone = at k.to.atom.anchor alone fixed anchored where
  site : Site
  site = site_with Q x.name.name []

  to : ResolveView p (mask_names p) (spot_at (site_with Q x.name.name []) role.To)
      (vars_at (site_with Q x.name.name [])) c.to (Ok (target_type k.to))
  to = (sides_there p (header_site Q x.name.name) c k gives).to

  fixed : is_fixed k.to.atom.anchor (has_exact k.to.atom) ≡ true
  fixed = view_suits p role.To (site_with Q x.name.name []) c.to k.to.atom k.to.masks to

  fits : Rattle.jn_laws.specs.LawsOfWritten.SiteFits p (site_with Q x.name.name [])
  fits = no_variable p n.within.shallow Q x.name.name there

  anchored : Anchored (scope_of (site_with Q x.name.name [])) k.to.atom.anchor
  anchored = type_anchored ((written_types p n.within.shallow).of_view role.To (site_with Q x.name.name []) c.to
      (target_type k.to) tt fits (n.within.formed.constraints Q name x c method among).1 to).fits
      (atom_of k.to.atom) first

  depth : length (bound_of (scope_of (site_with Q x.name.name [])) 0) ≡ length R
  depth =
      ap (λ (P : Path). length P) (this_bound p (site_with Q x.name.name []) role.Value fits ∙ reverse-reverse Q)
      ∙ sup_level higher

  at : (a : Anchor) → OfThis a → is_fixed a (has_exact k.to.atom) ≡ true
      → Anchored (scope_of (site_with Q x.name.name [])) a
      → 0 < length ((rooted R (atom_of k.to.atom) a).exact ++ eval no_views (rooted R (atom_of k.to.atom) a).anchor)
  at Root o f m =
      let l : 0 < length k.to.atom.exact = ltb-true 0 (length k.to.atom.exact) f in
      omega (
        arith,
        l,
        length-reverse k.to.atom.exact,
        length-append (reverse k.to.atom.exact) (eval no_views k.to.atom.anchor),
      )
  at (Up q j) o f m =
      let b : j < length R = subst (λ (i : ℕ). j < i) depth
      (subst (λ (z : ℕ). j < length (bound_of (scope_of (site_with Q x.name.name [])) z)) o m.1) in
      omega (
        arith,
        b,
        length-drop j R,
        length-append (reverse k.to.atom.exact) (drop j R),
        length-append (reverse k.to.atom.exact ++ drop j R) [],
      )
