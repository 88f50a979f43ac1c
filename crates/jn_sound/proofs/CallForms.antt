-- Calls, `new` and `super`, whose value is kept or not.
use Rattle.std.proofs.Common.{◌≡◌, ℕ, List, [], ◌∷◌, length, Option, Some, None, Bool, false, sym, ap, ◌∙◌, subst}
use Rattle.std.specs.Prelude.{Ok, IsSome}
use Rattle.std.proofs.lemmas.List.Elements.{Contains-append_left, Contains-append_right}
use Rattle.jn_base.specs.declared.tree.Named.{Named}
use Rattle.jn_base.specs.declared.tree.Place.{Place}
use Rattle.jn_base.specs.declared.tree.Program.{Program}
use Rattle.jn_base.specs.declared.tree.Expr.{Expr, roll-out-Expr}
use Rattle.jn_base.specs.declared.tree.Link.{Link}
use Rattle.jn_base.specs.declared.tree.Suffix.{Suffix, out-Suffix}
use Rattle.jn_base.specs.declared.tree.Node.{Node, out-Node, roll-Node, roll-out-Node}
use Rattle.jn_base.specs.declared.tree.Node.TheOpen.{Node-F}
use Rattle.jn_base.specs.declared.tree.Node.TheVariants as node
use Rattle.jn_base.specs.Parts.{expr}
use Rattle.jn_base.specs.Forms.{Termed, of_node, of_expr, of_suffix}
use Rattle.jn_base.specs.Atoms.{Among, first, later}
use Rattle.jn_base.specs.Scopes.{Scope}
use Rattle.jn_base.specs.GrammarExpr.{EndsInCall}
use Rattle.jn_base.proofs.FormEquations.{at_new, at_super, at_post, at_expr, of_args, at_suffix}
use Rattle.jn_base.proofs.NameTests.{first as in_first, later as in_later}
use Rattle.jn_sem.specs.Acts.{Todo}
use Rattle.jn_sem.specs.LawsOfActs.{part_acts, parts_acts}
use Rattle.jn_sem.proofs.ActLaws.{acts_are}
use Rattle.jn_laws.specs.LawsOfWritten.{Shallow}
use Rattle.jn_laws.specs.LawsOfSources.{WellFormed}
use Rattle.jn_body_laws.specs.BodyForms.{TermsNamed, ExprFormed, CallNode, IsCallForm}
use Rattle.jn_body_laws.proofs.ListedForms.{in_all}
use Rattle.jn_rules.specs.Questions.{Gives}
use Rattle.jn_rules.specs.Exprs.{Here, Typed, suffix_typed, suffixes_typed, expr_types}
use Rattle.jn_rules.specs.Forms.{typed_args, given_args, typed_parts, part_types}
use Rattle.jn_rules.specs.Stmts.{In, is_void}
use Rattle.jn_rules.proofs.FormLaws.{forms_are}
use Rattle.jn_rules.proofs.PlanLaws.{then_came}
use Rattle.jn_sound.specs.Takes.{Opd, opd}
use Rattle.jn_sound.specs.Fit.{Fits}
use Rattle.jn_sound.specs.Tree.{ExprKnown, GoesTo, CallGoes, ExprFits, CallFits, OtherForms}
use Rattle.jn_sound.proofs.Scopes.{grown_of, fresher_joined, ops_grown}
use Rattle.jn_sound.proofs.RuledForms.{call_is_typed, ok_same}
use Rattle.jn_sound.proofs.Parts.{call_goes, part_goes, receiver_not_void, ArgsFitToo}
use Rattle.jn_sound.proofs.Exprs.{by_tree, asked}

-- ---- acts behind acts

pub call_as : {p : Program} {b : In} {h : Here} {x y : Bool → List Todo → List Todo} {s : Scope} {before : List Opd
    → List Opd} {t : Typed} → ((keeps : Bool) (k : List Todo) → x keeps k ≡ y keeps k)
    → CallGoes p b h y s before t → CallGoes p b h x s before t
call_as {p} {b} {h} {s = s} {before = before} e g = record {
  known = g.known;
  grown = g.grown;
  fits = λ keeps k ops o v f. subst (λ (z : List Todo). Fits p b z h.vars s (before ops)) (sym (e keeps k))
      (g.fits keeps k ops o v f);
}

pub call_behind : {p : Program} {b : In} {h : Here} {x : List Todo → List Todo} {y : Bool → List Todo → List Todo}
    {s : Scope} {before : List Opd → List Opd} {r t : Typed} → is_void r.ty ≡ false
    → GoesTo p b h x s before r → CallGoes p b h y r.scope (λ ops. opd r.ty r.path ∷ ops) t → CallGoes p b h
    (λ keeps k. x (y keeps k)) s before t
call_behind v g l = record {
  known = l.known;
  grown = fresher_joined g.grown l.grown;
  fits = λ keeps k ops o w f. g.fits _ ops o v (l.fits keeps k ops (ops_grown (grown_of g.grown) o) w f);
}

module _ (p : Program) (b : In) (h : Here) (deep : Shallow p) (formed : WellFormed p) where
  abbrev n : ℕ
  n = length h.vars

  -- a part that is a call
  part_end : (f : Named) (args : Option (List Expr)) → ArgsFitToo p b h deep formed args → IsSome args → (at : Place)
      (r t : Typed) → ExprKnown p h r → Gives p (suffix_typed h f (given_args h args) at r) (Ok t)
      → CallGoes p b h (λ keeps. part_acts f.name args keeps n) r.scope (λ ops. opd r.ty r.path ∷ ops) t
  part_end f None fit c at r t known g = absurd (no c) where
    no : IsSome {T = List Expr} None → ⊥
    no e = cc
  part_end f (Some es) fit c at r t known g =
      call_goes p b h deep formed f es fit r t known
      (call_is_typed p h deep formed f (typed_args h es) at r t known g)

  abbrev SuffixTold : Suffix → Type 0
  SuffixTold x = ArgsFitToo p b h deep formed (out-Suffix x).args

  parts_end : (whole at : Place) (ss : List Suffix) → ((x : Suffix) → Among ss x → SuffixTold x) → EndsInCall ss
      → (r t : Typed) → ExprKnown p h r → Gives p (suffixes_typed whole at (typed_parts h ss) r) (Ok t)
      → CallGoes p b h (λ keeps. parts_acts ss keeps n) r.scope (λ ops. opd r.ty r.path ∷ ops) t
  parts_end whole at [] fit c r t k g = absurd c
  parts_end whole at (x ∷ []) fit c r t k g =
      let d = then_came (part_types h x at r) (suffixes_typed whole whole []) t g in
      subst (CallGoes p b h (λ keeps. parts_acts (x ∷ []) keeps n) r.scope (λ ops. opd r.ty r.path ∷ ops))
      (sym (ok_same t d.first d.then))
      (part_end (out-Suffix x).name (out-Suffix x).args (fit x first) c at r d.first k d.gave)
  parts_end whole at (x ∷ (z ∷ zs)) fit c r t k g =
      let d = then_came (part_types h x at r) (suffixes_typed whole whole (typed_parts h (z ∷ zs))) t g in
      let one = part_goes p b h deep formed (out-Suffix x).name (out-Suffix x).args (fit x first) at r d.first k
      d.gave in
      let e = then_came (part_types h z whole d.first) (suffixes_typed whole whole (typed_parts h zs)) t d.then in
      call_behind (receiver_not_void p b h deep formed _ _ whole d.first e.first e.gave) one
      (parts_end whole whole (z ∷ zs) (λ y m. fit y (later m)) c d.first t one.known d.then)

  post_call : (at : Place) (e : Expr) (ss : List Suffix) → ExprFits p b h e
      → ((x : Suffix) → Among ss x → SuffixTold x) → EndsInCall ss → CallFits p b h (expr at (node.Post e ss))
  post_call at e [] fit told c s t good g = absurd c
  post_call at e (z ∷ zs) fit told c s t good g =
      let d = then_came (expr_types h e s) (suffixes_typed at e.at (typed_parts h (z ∷ zs))) t
      (asked p b h deep formed (expr at (node.Post e (z ∷ zs))) s t _
      ((forms_are.exprs h at s).post e (z ∷ zs)) g) in
      let one = fit s d.first good d.gave in
      let k = then_came (part_types h z e.at d.first) (suffixes_typed at at (typed_parts h zs)) t d.then in
      call_as (λ keeps k. (acts_are.exprs at keeps n k).post e (z ∷ zs))
      (call_behind (receiver_not_void p b h deep formed _ _ e.at d.first k.first k.gave) one
      (parts_end at e.at (z ∷ zs) told c d.first t one.known d.then))

  -- the arguments of a part
  suffix_fits : OtherForms p b h → (x : Suffix) → TermsNamed (of_suffix x) → SuffixTold x
  suffix_fits others x named = at (out-Suffix x).args (subst TermsNamed (at_suffix x) named) where
    at : (o : Option (List Expr)) → TermsNamed (of_args o) → ArgsFitToo p b h deep formed o
    at None k = tt
    at (Some es) k = λ e m. by_tree p b h deep formed others e (λ t c. k t (in_all of_expr es e (Termed t) m c))

  node_call : OtherForms p b h → (at : Place) (f : Node-F Node Expr Link Suffix) → TermsNamed (of_node (roll-Node f))
      → CallNode f → CallFits p b h (expr at (roll-Node f))
  node_call others at (Node-F.New t es) named c =
      let e = node.rolls-New t es in
      let k = subst TermsNamed (ap of_node e ∙ at_new t es) named in
      subst (λ (m : Node). CallFits p b h (expr at m)) (sym e)
      (others.new at t es (k t (in_first (Termed t) _))
      (λ z m. by_tree p b h deep formed others z (λ u i. k u (in_later (Termed t) _ (Termed u)
      (in_all of_expr es z (Termed u) m i)))))
  node_call others at (Node-F.Super t x es) named c =
      let e = node.rolls-Super t x es in
      let k = subst TermsNamed (ap of_node e ∙ at_super t x es) named in
      subst (λ (m : Node). CallFits p b h (expr at m)) (sym e)
      (others.super at t x es (k t (in_first (Termed t) _))
      (λ z m. by_tree p b h deep formed others z (λ u i. k u (in_later (Termed t) _ (Termed u)
      (in_all of_expr es z (Termed u) m i)))))
  node_call others at (Node-F.Post z ss) named c =
      let e = node.rolls-Post z ss in
      let k = subst TermsNamed (ap of_node e ∙ at_post z ss) named in
      subst (λ (m : Node). CallFits p b h (expr at m)) (sym e)
      (post_call at z ss
      (by_tree p b h deep formed others z (λ u i. k u (Contains-append_left (of_expr z) _ (Termed u) i)))
      (λ x m. suffix_fits others x (λ u i. k u (Contains-append_right (of_expr z) _ (Termed u)
      (in_all of_suffix ss x (Termed u) m i)))) c)
  node_call others at (Node-F.Int z) named c = absurd c
  node_call others at (Node-F.Bool z) named c = absurd c
  node_call others at Node-F.Null named c = absurd c
  node_call others at Node-F.This named c = absurd c
  node_call others at (Node-F.Var x) named c = absurd c
  node_call others at (Node-F.Not z) named c = absurd c
  node_call others at (Node-F.Neg z) named c = absurd c
  node_call others at (Node-F.View v z) named c = absurd c
  node_call others at (Node-F.Chain level z ls) named c = absurd c

  -- each call fits
  pub call_fits : OtherForms p b h → (e : Expr) → ExprFormed e → IsCallForm e → CallFits p b h e
  call_fits others e named c =
      let back = roll-out-Node e.node in
      subst (CallFits p b h) (roll-out-Expr e)
      (subst (λ (m : Node). CallFits p b h (expr e.at m)) back
      (node_call others e.at (out-Node e.node)
      (subst (λ (m : Node). TermsNamed (of_node m)) (sym back) (subst TermsNamed (at_expr e) named)) c))
