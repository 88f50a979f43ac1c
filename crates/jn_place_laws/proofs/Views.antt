-- A view change: of null, by the header's constraints, or by what is shared.
use Rattle.std.proofs.Common.{◌≡◌, ℕ, ◌+◌, List, [], ◌∷◌, ◌++◌, length, Some, None, Bool, true, false, refl, sym, ap, ◌∙◌, subst, arith}
use Rattle.std.specs.Prelude.{slice_get, cond, Ok}
use Rattle.jn_base.specs.declared.tree.Place.{Place}
use Rattle.jn_base.specs.declared.tree.ViewTerm.{ViewTerm}
use Rattle.jn_base.specs.declared.tree.Program.{Program}
use Rattle.jn_base.specs.declared.tree.Expr.{Expr}
use Rattle.jn_base.specs.declared.tree.Node.TheVariants as node
use Rattle.jn_base.specs.declared.types.Anchor.{Anchor}
use Rattle.jn_base.specs.declared.types.Anchor.TheVariants.{Root, Up}
use Rattle.jn_base.specs.declared.types.Atom.{Atom as ShownAtom}
use Rattle.jn_base.specs.declared.types.Masks.{Masks}
use Rattle.jn_base.specs.declared.types.Ty.{Ty}
use Rattle.jn_base.specs.declared.types.Ty.TheVariants as ty
use Rattle.jn_base.specs.declared.names.Role.TheVariants as role
use Rattle.jn_base.specs.declared.names.Var.{Var}
use Rattle.jn_base.specs.Parts.{expr}
use Rattle.jn_base.specs.Universe.{InUniverse}
use Rattle.jn_base.specs.Atoms.{Atom, atom_of, Among, first}
use Rattle.jn_base.specs.Scopes.{Scope, bound}
use Rattle.jn_base.specs.Fits.{Anchored}
use Rattle.jn_base.specs.Resolve.{is_class}
use Rattle.jn_base.specs.ResolveTypes.{mask_names, ResolveView}
use Rattle.jn_code.specs.declared.instr.Instr.{Instr}
use Rattle.jn_code.specs.declared.instr.Instr.TheVariants as ins
use Rattle.jn_code.specs.declared.image.Image.{Image}
use Rattle.jn_code.specs.declared.image.Code.{Code}
use Rattle.jn_sem.specs.Acts.{todo, View}
use Rattle.jn_sem.specs.LawsOfSlots.{HeadNamed}
use Rattle.jn_sem.specs.NormalFunction.{normal_type}
use Rattle.jn_sem.specs.State.{Frame}
use Rattle.jn_sem.specs.Terms.{Site, spot_at, vars_at, ViewIs}
use Rattle.jn_sem.proofs.ActLaws.{acts_are}
use Rattle.jn_sem.proofs.Under.{type_anchored}
use Rattle.jn_laws.specs.LawsOfWritten.{HeaderPath, TypeThere, scope_of}
use Rattle.jn_laws.specs.LawsOfSources.{KeepsLimits}
use Rattle.jn_laws.proofs.WrittenTypes.{written_types, class_case, role_there}
use Rattle.jn_rules.specs.Headers.{Header}
use Rattle.jn_rules.specs.Plans.{OfView, Target, target_type, Sharing, Holding, Refuted, then_do, wants}
use Rattle.jn_rules.specs.Questions.{Gives, Means, SharingGives}
use Rattle.jn_rules.specs.Exprs.{Here, site_here, Typed, gives, is_null_type, is_object, header_grants, by_sharing, shared_or, viewed_as, viewed, view_typed, mismatch, expr_types}
use Rattle.jn_rules.specs.Forms.{typed_expr}
use Rattle.jn_rules.specs.Stmts.{In, is_void}
use Rattle.jn_rules.proofs.FormLaws.{forms_are}
use Rattle.jn_rules.proofs.PlanLaws.{then_came, wanted, took}
use Rattle.jn_rule_laws.specs.LawsOfHeaders.{GrantedBy}
use Rattle.jn_rule_laws.proofs.HeaderLaws.{grants_of}
use Rattle.jn_rule_laws.specs.LawsOfForms.{TypeKnown}
use Rattle.jn_rule_laws.proofs.KnownTypes.{path_types_fit, normal_known}
use Rattle.jn_sound.specs.KnownScopes.{here_in, ScopeKnown}
use Rattle.jn_sound.specs.Takes.{Opd, opd, Takes, typing, shared, null_view, null_on_path, granted}
use Rattle.jn_sound.specs.Tree.{ExprKnown, Fresher, ProgramKnown}
use Rattle.jn_sound.proofs.RuledForms.{gave, not_ok}
use Rattle.jn_sound.proofs.News.{bound_for}
use Rattle.jn_agree.specs.Naming.{Naming}
use Rattle.jn_agree.specs.Places.{Run, ClassCode}
use Rattle.jn_agree.specs.Rows.{RowsAre}
use Rattle.jn_node_laws.specs.Cont.{of_frame}
use Rattle.jn_node_laws.specs.Facts.{FewNumbers}
use Rattle.jn_node_laws.specs.LawsOfLaidNodes.{LaidNodesOf}
use Rattle.jn_place_laws.specs.Contexts.{Context, context, Stood, known, in_body, site_at}
use Rattle.jn_place_laws.specs.LawsOfContexts.{ActsLead}
use Rattle.jn_place_laws.proofs.Going.{ExprGoes, at_vars}
use Rattle.jn_place_laws.proofs.Steps.{as_todo, step}
use Rattle.jn_place_laws.proofs.Seen.{target_seen, class_short}

null_is : (t : Ty) → is_null_type t ≡ true → t ≡ ty.Null
null_is ty.Null e = refl
null_is ty.Int e = cc
null_is ty.Bool e = cc
null_is ty.Void e = cc
null_is (ty.Class xs m) e = cc

class_or_null : (t : Ty) → is_object t ≡ true → is_null_type t ≡ false → is_class t ≡ true
class_or_null (ty.Class xs m) o e = refl
class_or_null ty.Null o e = cc
class_or_null ty.Int o e = cc
class_or_null ty.Bool o e = cc
class_or_null ty.Void o e = cc

object_kept : (t : Ty) → is_object t ≡ true → is_void t ≡ false
object_kept (ty.Class xs m) o = refl
object_kept ty.Null o = refl
object_kept ty.Int o = refl
object_kept ty.Bool o = refl
object_kept ty.Void o = cc

same_atoms : (xs : List ShownAtom) (y : ShownAtom) (m k : Masks) → ty.Class (y ∷ []) m ≡ ty.Class xs k → y ∷ [] ≡ xs
same_atoms xs y m k e = cc

module _ (p : Program) (b : In) (vs : List Var) (its : ProgramKnown p) where
  abbrev h : Here
  h = here_in b vs

  abbrev site : Site
  site = site_here (here_in b vs)

  -- ---- a target, as its term gives it

  module _ (s : Scope) (k : ScopeKnown p (here_in b vs) s) (v : ViewTerm) (head : HeadNamed v.term.head) (u : Target)
      (resolved : ResolveView p (mask_names p) (spot_at (site_here (here_in b vs)) role.View)
      (vars_at (site_here (here_in b vs))) v (Ok (target_type u))) where
    pub there : TypeThere (site_here (here_in b vs)) (target_type u)
    there = (written_types p its.shallow).of_view role.View site v (target_type u) tt k.site head resolved

    pub here : Anchored s (atom_of u.atom).anchor
        × (bound s (atom_of u.atom) ≡ bound (scope_of (site_here (here_in b vs))) (atom_of u.atom))
    here = bound_for k.scope (atom_of u.atom) (type_anchored there.fits (atom_of u.atom) first)

    pub in_universe : InUniverse p (bound s (atom_of u.atom))
    in_universe =
        let c = class_case p (spot_at site role.View) (vars_at site) (mask_names p) (v.term ∷ []) v.masks resolved.atoms
        (target_type u) resolved.all resolved.gives in
        subst (InUniverse p) (sym here.1) (role_there p role.View _ tt
        (c.each u.atom (subst (λ (l : List ShownAtom). Among l u.atom)
        (same_atoms c.atoms u.atom u.masks c.given.masks c.given.is) first)).is.class)

  -- ---- what the act takes

  module _ (v : ViewTerm) (head : HeadNamed v.term.head) (u : Target)
      (resolved : ResolveView p (mask_names p) (spot_at (site_here (here_in b vs)) role.View)
      (vars_at (site_here (here_in b vs))) v (Ok (target_type u))) (x : Typed)
      (known : ExprKnown p (here_in b vs) x) where
    abbrev its_type : TypeThere (site_here (here_in b vs)) (target_type u)
    its_type = there x.scope known.scope v head u resolved

    target : TypeKnown x.scope (target_type u)
    target = (path_types_fit p).written site x.scope (target_type u) known.scope.scope its_type

    type : TypeKnown x.scope (normal_type x.scope (target_type u))
    type = normal_known x.scope (target_type u) known.scope.scope.binds target

    is : ViewIs p (site_here (here_in b vs)) v (atom_of u.atom)
    is = record { given = u.atom; masks = u.masks; resolved = resolved; is = refl }

    abbrev Changes : Type 0
    Changes = (ops : List Opd) → Takes p b vs (View v) (typing x.scope (opd x.ty x.path ∷ ops)) vs
        (typing x.scope (opd (normal_type x.scope (target_type u)) None ∷ ops))

    of_null : x.ty ≡ ty.Null → Changes
    of_null e ops = subst (λ (z : Ty). Takes p b vs (View v) (typing x.scope (opd z x.path ∷ ops)) vs
        (typing x.scope (opd (normal_type x.scope (target_type u)) None ∷ ops))) (sym e) (at u.atom.anchor refl) where
          at : (a : Anchor) → u.atom.anchor ≡ a → Takes p b vs (View v) (typing x.scope (opd ty.Null x.path ∷ ops)) vs
              (typing x.scope (opd (normal_type x.scope (target_type u)) None ∷ ops))
          at Root i = null_view v u x.path i is type.fits
          at (Up q k) i = null_on_path v u x.path its_type.paths (target.named (atom_of u.atom) first) is type.fits

    by_header : is_class x.ty ≡ true → GrantedBy p (here_in b vs) x.scope x.ty u → Changes
    by_header class g ops = granted v x.ty u x.path class (record {
      is = is;
      paths = its_type.paths;
      anchored = type_anchored target.fits (atom_of u.atom) first;
      fits = type.fits;
    }) g

    by_shared : is_class x.ty ≡ true → u.atom.anchor ≡ Root → SharingGives p x.scope x.ty u Holding → Changes
    by_shared class root g ops = shared v x.ty u x.path class root is g type.fits

    pub changes : (at : Place) (t : Typed) → is_object x.ty ≡ true → Gives p (viewed (here_in b vs) at u x) (Ok t)
        → ((ops : List Opd) → Takes p b vs (View v) (typing x.scope (opd x.ty x.path ∷ ops)) vs
        (typing x.scope (opd (normal_type x.scope (target_type u)) None ∷ ops))) × (t ≡ viewed_as u x.scope)
    changes at t o g = null (is_null_type x.ty) refl g where
      Both : Type 0
      Both = ((ops : List Opd) → Takes p b vs (View v) (typing x.scope (opd x.ty x.path ∷ ops)) vs
          (typing x.scope (opd (normal_type x.scope (target_type u)) None ∷ ops))) × (t ≡ viewed_as u x.scope)

      so : Changes → Gives p (gives (viewed_as u x.scope)) (Ok t) → Both
      so r e = (r, gave p (viewed_as u x.scope) t e)

      sharing : (z : Sharing) → is_class x.ty ≡ true → u.atom.anchor ≡ Root → SharingGives p x.scope x.ty u z
          → Gives p (shared_or at (viewed_as u x.scope) z) (Ok t) → Both
      sharing Holding class root i e = so (by_shared class root i) e
      sharing (Refuted U f) class root i e = absurd (not_ok t _ e)

      anchored : (a : Anchor) → is_class x.ty ≡ true → u.atom.anchor ≡ a
          → Gives p (by_sharing at x.scope x.ty u (viewed_as u x.scope) a) (Ok t) → Both
      anchored Root class i e = sharing e.0 class i e.1 e.2
      anchored (Up q k) class i e = absurd (not_ok t _ e)

      header : (c : Bool) → is_class x.ty ≡ true → Gives p (header_grants (here_in b vs) x.scope x.ty u) (Ok c)
          → Gives p (cond c (gives (viewed_as u x.scope))
          (by_sharing at x.scope x.ty u (viewed_as u x.scope) u.atom.anchor)) (Ok t) → Both
      header true class i e = so (by_header class ((grants_of p (here_in b vs) x.scope x.ty u).granted i)) e
      header false class i e = anchored u.atom.anchor class refl e

      null : (c : Bool) → is_null_type x.ty ≡ c → Gives p (cond c (gives (viewed_as u x.scope))
          (then_do (header_grants (here_in b vs) x.scope x.ty u) (λ ok. cond ok (gives (viewed_as u x.scope))
          (by_sharing at x.scope x.ty u (viewed_as u x.scope) u.atom.anchor)))) (Ok t) → Both
      null true i e = so (of_null (null_is x.ty i)) e
      null false i e =
          let c = then_came (header_grants (here_in b vs) x.scope x.ty u)
          (λ ok. cond ok (gives (viewed_as u x.scope))
          (by_sharing at x.scope x.ty u (viewed_as u x.scope) u.atom.anchor)) t e in
          header c.first (class_or_null x.ty o i) c.gave c.then

-- ---- the form

module _ (p : Program) (its : ProgramKnown p) (limits : KeepsLimits p) (i : Image) (n : Naming) (rows : RowsAre p i n)
    (few : FewNumbers n) (m : ℕ) (code : ℕ) (it : Code) (there_is : slice_get i.codes code ≡ Some it) (r : Frame)
    (hd : Header) (laid : LaidNodesOf p i n m (known p) Context (Stood p r hd) code it r)
    (leads : ActsLead p i n m code it r hd) (vs : List Var) where
  abbrev B : In
  B = in_body r hd

  abbrev here_is : Here
  here_is = at_vars p i n m code it r hd vs

  -- the act, where it takes what is there
  act_goes : (pl : Place) (v : ViewTerm) (e : Expr) (sc : Scope) (a : Atom) (cls : List Instr) (x : Typed) (u : Target)
      (s l t : ℕ) → HeadNamed v.term.head → ScopeKnown p (at_vars p i n m code it r hd vs) x.scope
      → is_object x.ty ≡ true → ViewIs p (site_here (at_vars p i n m code it r hd vs)) v a → ClassCode n a cls
      → Run it.instrs (cls ++ ins.Conv ∷ []) l t
      → ((ops : List Opd) → Takes p (in_body r hd) vs (View v) (typing x.scope (opd x.ty x.path ∷ ops)) vs
      (typing x.scope (opd (normal_type x.scope (target_type u)) None ∷ ops)))
      → ExprGoes p i n m code it r hd vs sc true e x s l
      → ExprGoes p i n m code it r hd vs sc true (expr pl (node.View v e)) (viewed_as u x.scope) s t
  act_goes pl v e sc a cls x u s l t head good object view class runs takes one kept j b k w ops ob g =
      as_todo p i n m code it there_is r hd j b vs (typing sc ops) _ _ s w
      ((acts_are.exprs pl true (length vs) k).view v e)
      (one (λ z. object_kept x.ty object) j b (todo (length vs) (View v) ∷ k) w ops ob
      (step p i n m code it there_is r hd (of_frame ∷ j) (of_frame ∷ j) b vs vs (View v)
      (typing x.scope (opd x.ty x.path ∷ ops))
      (typing x.scope (opd (normal_type x.scope (target_type u)) None ∷ ops)) k l t t (5 + w) (5 + w)
      (laid.view few (of_frame ∷ j) j refl b (site_at r hd vs) (context vs (typing x.scope (opd x.ty x.path ∷ ops)))
      (context vs (typing x.scope (opd (normal_type x.scope (target_type u)) None ∷ ops))) v a cls k l t (5 + w) view class
      (class_short p n x.scope a cls limits anchored universe class) runs
      (target_seen p i n rows r hd vs x.scope a paths anchored universe (opd x.ty x.path ∷ ops)))
      (leads.acts vs vs (View v) k (typing x.scope (opd x.ty x.path ∷ ops))
      (typing x.scope (opd (normal_type x.scope (target_type u)) None ∷ ops)) (takes ops)) refl (omega arith) g)) where
        -- the target as the term gives it
        own : Target
        own = record { atom = view.given; masks = view.masks }

        paths : (q c : ℕ) → a.anchor ≡ Up q c → HeaderPath vs q
        paths q c up = (there p B vs its x.scope good v head own view.resolved).paths (atom_of view.given) q c first
            (ap (λ (z : Atom). z.anchor) (sym view.is) ∙ up)

        anchored : Anchored x.scope a.anchor
        anchored = subst (λ (z : Atom). Anchored x.scope z.anchor) (sym view.is)
            (here p B vs its x.scope good v head own view.resolved).0

        universe : InUniverse p (bound x.scope a)
        universe = subst (λ (z : Atom). InUniverse p (bound x.scope z)) (sym view.is)
            (in_universe p B vs its x.scope good v head own view.resolved)

  pub view_goes : (pl : Place) (v : ViewTerm) (e : Expr) (sc : Scope) (a : Atom) (cls : List Instr) (s l t : ℕ)
      (y : Typed) → HeadNamed v.term.head
      → Gives p (expr_types (at_vars p i n m code it r hd vs) (expr pl (node.View v e)) sc) (Ok y)
      → ((z : Typed) → Gives p (expr_types (at_vars p i n m code it r hd vs) e sc) (Ok z)
      → ExprKnown p (at_vars p i n m code it r hd vs) z × Fresher sc z.scope
      × ExprGoes p i n m code it r hd vs sc true e z s l)
      → ViewIs p (site_here (at_vars p i n m code it r hd vs)) v a → ClassCode n a cls
      → Run it.instrs (cls ++ ins.Conv ∷ []) l t
      → ExprGoes p i n m code it r hd vs sc true (expr pl (node.View v e)) y s t
  view_goes pl v e sc a cls s l t y head g value view class runs =
      let q = subst (λ z. Gives p z (Ok y)) ((forms_are.exprs here_is pl sc).view v e) g in
      let f = took q.0 (view_typed here_is pl (typed_expr here_is e) sc) y q.2 in
      let c = then_came (expr_types here_is e sc)
      (λ x. wants (is_object x.ty) (mismatch here_is e.at) (viewed here_is pl f.given x)) y f.then in
      let w = wanted (is_object c.first.ty) (mismatch here_is e.at) (viewed here_is pl f.given c.first) y c.then in
      let one = value c.first c.gave in
      let d = changes p B vs its v head f.given
      (subst (λ z. Means p (OfView (site_here here_is) v) z) f.is q.1) c.first one.0 pl y w.test w.then in
      subst (λ (z : Typed). ExprGoes p i n m code it r hd vs sc true (expr pl (node.View v e)) z s t) (sym d.1)
      (act_goes pl v e sc a cls c.first f.given s l t head one.0.scope w.test view class runs d.0 one.2)
