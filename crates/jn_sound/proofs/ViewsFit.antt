-- A view change: of null, by the header's constraints, or by what is shared.
use Rattle.std.proofs.Common.{◌≡◌, ℕ, List, ◌∷◌, length, None, Bool, true, false, refl, sym, subst}
use Rattle.std.specs.Prelude.{cond, Ok}
use Rattle.jn_base.specs.declared.tree.Place.{Place}
use Rattle.jn_base.specs.declared.tree.ViewTerm.{ViewTerm}
use Rattle.jn_base.specs.declared.tree.Program.{Program}
use Rattle.jn_base.specs.declared.tree.Expr.{Expr}
use Rattle.jn_base.specs.declared.tree.Node.TheVariants as node
use Rattle.jn_base.specs.declared.types.Anchor.{Anchor}
use Rattle.jn_base.specs.declared.types.Anchor.TheVariants.{Root, Up}
use Rattle.jn_base.specs.declared.types.Ty.{Ty}
use Rattle.jn_base.specs.declared.types.Ty.TheVariants as ty
use Rattle.jn_base.specs.declared.names.Role.TheVariants as role
use Rattle.jn_base.specs.declared.names.Var.{Var}
use Rattle.jn_base.specs.Parts.{expr}
use Rattle.jn_base.specs.Atoms.{atom_of, first}
use Rattle.jn_base.specs.Resolve.{is_class}
use Rattle.jn_base.specs.ResolveTypes.{mask_names, ResolveView}
use Rattle.jn_sem.specs.Acts.{todo, View}
use Rattle.jn_sem.specs.LawsOfSlots.{HeadNamed}
use Rattle.jn_sem.specs.NormalFunction.{normal_type}
use Rattle.jn_sem.specs.Terms.{Site, spot_at, vars_at, ViewIs}
use Rattle.jn_sem.proofs.ActLaws.{acts_are}
use Rattle.jn_sem.proofs.Under.{type_anchored}
use Rattle.jn_laws.specs.LawsOfWritten.{TypeThere}
use Rattle.jn_laws.proofs.WrittenTypes.{written_types}
use Rattle.jn_rules.specs.Plans.{OfView, Target, target_type, Sharing, Holding, Refuted, then_do, wants}
use Rattle.jn_rules.specs.Questions.{Gives, Means, SharingGives}
use Rattle.jn_rules.specs.Exprs.{Here, site_here, Typed, gives, is_null_type, is_object, header_grants, by_sharing, shared_or, viewed_as, viewed, view_typed, mismatch, expr_types}
use Rattle.jn_rules.specs.Forms.{typed_expr}
use Rattle.jn_rules.specs.Stmts.{In, is_void}
use Rattle.jn_rules.proofs.FormLaws.{forms_are}
use Rattle.jn_rules.proofs.PlanLaws.{then_came, wanted, took}
use Rattle.jn_rule_laws.specs.LawsOfHeaders.{GrantedBy}
use Rattle.jn_rule_laws.proofs.HeaderLaws.{grants_of}
use Rattle.jn_rule_laws.specs.LawsOfForms.{TypeKnown}
use Rattle.jn_rule_laws.proofs.KnownTypes.{path_types_fit, normal_known}
use Rattle.jn_sound.specs.KnownScopes.{here_in}
use Rattle.jn_sound.specs.Takes.{Opd, opd, Takes, typing, shared, null_view, null_on_path, granted}
use Rattle.jn_sound.specs.Fit.{acts as act}
use Rattle.jn_sound.specs.Tree.{ExprKnown, none as none_more, GoesTo, ExprFits, ProgramKnown}
use Rattle.jn_sound.proofs.RuledForms.{gave, not_ok}
use Rattle.jn_sound.proofs.Parts.{plain_known, goes_as, goes_behind}
use Rattle.jn_sound.proofs.Exprs.{asked}

null_is : (t : Ty) → is_null_type t ≡ true → t ≡ ty.Null
null_is ty.Null e = refl
null_is ty.Int e = cc
null_is ty.Bool e = cc
null_is ty.Void e = cc
null_is (ty.Class xs m) e = cc

class_or_null : (t : Ty) → is_object t ≡ true → is_null_type t ≡ false → is_class t ≡ true
class_or_null (ty.Class xs m) o e = refl
class_or_null ty.Null o e = cc
class_or_null ty.Int o e = cc
class_or_null ty.Bool o e = cc
class_or_null ty.Void o e = cc

object_kept : (t : Ty) → is_object t ≡ true → is_void t ≡ false
object_kept (ty.Class xs m) o = refl
object_kept ty.Null o = refl
object_kept ty.Int o = refl
object_kept ty.Bool o = refl
object_kept ty.Void o = cc

module _ (p : Program) (b : In) (vs : List Var) (its : ProgramKnown p) where
  abbrev h : Here
  h = here_in b vs

  abbrev n : ℕ
  n = length vs

  abbrev site : Site
  site = site_here (here_in b vs)

  module _ (v : ViewTerm) (head : HeadNamed v.term.head) (u : Target)
      (resolved : ResolveView p (mask_names p) (spot_at (site_here (here_in b vs)) role.View)
      (vars_at (site_here (here_in b vs))) v (Ok (target_type u))) (x : Typed)
      (known : ExprKnown p (here_in b vs) x) where
    there : TypeThere (site_here (here_in b vs)) (target_type u)
    there = (written_types p its.shallow).of_view role.View site v (target_type u) tt known.scope.site head resolved

    target : TypeKnown x.scope (target_type u)
    target = (path_types_fit p).written site x.scope (target_type u) known.scope.scope there

    type : TypeKnown x.scope (normal_type x.scope (target_type u))
    type = normal_known x.scope (target_type u) known.scope.scope.binds target

    is : ViewIs p (site_here (here_in b vs)) v (atom_of u.atom)
    is = record { given = u.atom; masks = u.masks; resolved = resolved; is = refl }

    abbrev Changes : Type 0
    Changes = (ops : List Opd) → Takes p b vs (View v) (typing x.scope (opd x.ty x.path ∷ ops)) vs
        (typing x.scope (opd (normal_type x.scope (target_type u)) None ∷ ops))

    -- where a rule of the act has it
    by_rule : Changes → GoesTo p b (here_in b vs) (λ k. todo (length vs) (View v) ∷ k) x.scope
        (λ ops. opd x.ty x.path ∷ ops) (viewed_as u x.scope)
    by_rule r = record {
      known = plain_known p (here_in b vs) (normal_type x.scope (target_type u)) x.scope known.scope type;
      grown = none_more;
      fits = λ k ops o w f. act refl (r ops) f;
    }

    of_null : x.ty ≡ ty.Null → Changes
    of_null e ops = subst (λ (z : Ty). Takes p b vs (View v) (typing x.scope (opd z x.path ∷ ops)) vs
        (typing x.scope (opd (normal_type x.scope (target_type u)) None ∷ ops))) (sym e) (at u.atom.anchor refl) where
          at : (a : Anchor) → u.atom.anchor ≡ a → Takes p b vs (View v) (typing x.scope (opd ty.Null x.path ∷ ops)) vs
              (typing x.scope (opd (normal_type x.scope (target_type u)) None ∷ ops))
          at Root i = null_view v u x.path i is type.fits
          at (Up q k) i = null_on_path v u x.path there.paths (target.named (atom_of u.atom) first) is type.fits

    by_header : is_class x.ty ≡ true → GrantedBy p (here_in b vs) x.scope x.ty u → Changes
    by_header class g ops = granted v x.ty u x.path class (record {
      is = is;
      paths = there.paths;
      anchored = type_anchored target.fits (atom_of u.atom) first;
      fits = type.fits;
    }) g

    by_shared : is_class x.ty ≡ true → u.atom.anchor ≡ Root → SharingGives p x.scope x.ty u Holding → Changes
    by_shared class root g ops = shared v x.ty u x.path class root is g type.fits

    goes : (at : Place) (t : Typed) → is_object x.ty ≡ true → Gives p (viewed (here_in b vs) at u x) (Ok t)
        → GoesTo p b (here_in b vs) (λ k. todo (length vs) (View v) ∷ k) x.scope (λ ops. opd x.ty x.path ∷ ops) t
    goes at t o g = null (is_null_type x.ty) refl g where
      so : Changes → Gives p (gives (viewed_as u x.scope)) (Ok t)
          → GoesTo p b (here_in b vs) (λ k. todo (length vs) (View v) ∷ k) x.scope (λ ops. opd x.ty x.path ∷ ops) t
      so r e = subst (GoesTo p b (here_in b vs) (λ k. todo (length vs) (View v) ∷ k) x.scope
          (λ ops. opd x.ty x.path ∷ ops)) (sym (gave p (viewed_as u x.scope) t e)) (by_rule r)

      sharing : (z : Sharing) → is_class x.ty ≡ true → u.atom.anchor ≡ Root → SharingGives p x.scope x.ty u z
          → Gives p (shared_or at (viewed_as u x.scope) z) (Ok t)
          → GoesTo p b (here_in b vs) (λ k. todo (length vs) (View v) ∷ k) x.scope (λ ops. opd x.ty x.path ∷ ops) t
      sharing Holding class root i e = so (by_shared class root i) e
      sharing (Refuted U f) class root i e = absurd (not_ok t _ e)

      anchored : (a : Anchor) → is_class x.ty ≡ true → u.atom.anchor ≡ a
          → Gives p (by_sharing at x.scope x.ty u (viewed_as u x.scope) a) (Ok t)
          → GoesTo p b (here_in b vs) (λ k. todo (length vs) (View v) ∷ k) x.scope (λ ops. opd x.ty x.path ∷ ops) t
      anchored Root class i e = sharing e.0 class i e.1 e.2
      anchored (Up q k) class i e = absurd (not_ok t _ e)

      header : (c : Bool) → is_class x.ty ≡ true → Gives p (header_grants (here_in b vs) x.scope x.ty u) (Ok c)
          → Gives p (cond c (gives (viewed_as u x.scope))
          (by_sharing at x.scope x.ty u (viewed_as u x.scope) u.atom.anchor)) (Ok t)
          → GoesTo p b (here_in b vs) (λ k. todo (length vs) (View v) ∷ k) x.scope (λ ops. opd x.ty x.path ∷ ops) t
      header true class i e = so (by_header class ((grants_of p (here_in b vs) x.scope x.ty u).granted i)) e
      header false class i e = anchored u.atom.anchor class refl e

      null : (c : Bool) → is_null_type x.ty ≡ c → Gives p (cond c (gives (viewed_as u x.scope))
          (then_do (header_grants (here_in b vs) x.scope x.ty u) (λ ok. cond ok (gives (viewed_as u x.scope))
          (by_sharing at x.scope x.ty u (viewed_as u x.scope) u.atom.anchor)))) (Ok t)
          → GoesTo p b (here_in b vs) (λ k. todo (length vs) (View v) ∷ k) x.scope (λ ops. opd x.ty x.path ∷ ops) t
      null true i e = so (of_null (null_is x.ty i)) e
      null false i e =
          let c = then_came (header_grants (here_in b vs) x.scope x.ty u)
          (λ ok. cond ok (gives (viewed_as u x.scope))
          (by_sharing at x.scope x.ty u (viewed_as u x.scope) u.atom.anchor)) t e in
          header c.first (class_or_null x.ty o i) c.gave c.then

  -- ---- the form

  pub view_goes : (at : Place) (v : ViewTerm) (e : Expr) → HeadNamed v.term.head → ExprFits p b (here_in b vs) e
      → ExprFits p b (here_in b vs) (expr at (node.View v e))
  view_goes at v e head fit s t k g =
      let a = asked p b (here_in b vs) its.shallow its.well (expr at (node.View v e)) s t _
      ((forms_are.exprs h at s).view v e) g in
      let r = took a.0 (view_typed h at (typed_expr h e) s) t a.2 in
      let c = then_came (expr_types h e s) (λ x. wants (is_object x.ty) (mismatch h e.at) (viewed h at r.given x)) t
      r.then in
      let w = wanted (is_object c.first.ty) (mismatch h e.at) (viewed h at r.given c.first) t c.then in
      let one = fit s c.first k c.gave in
      goes_as (λ j. (acts_are.exprs at true n j).view v e)
      (goes_behind (object_kept c.first.ty w.test) one
      (goes v head r.given (subst (λ z. Means p (OfView (site_here (here_in b vs)) v) z) r.is a.1) c.first one.known
      at t
      w.test w.then))
