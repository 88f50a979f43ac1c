-- What stands behind a receiver: each part, and all of them.
use Rattle.std.proofs.Common.{◌≡◌, List, [], ◌∷◌, ◌++◌, Bool, true, Option, Some, None, sym, ap, ◌∙◌, subst}
use Rattle.std.specs.Prelude.{Ok}
use Rattle.jn_base.specs.declared.tree.Named.{Named}
use Rattle.jn_base.specs.declared.tree.Place.{Place}
use Rattle.jn_base.specs.declared.tree.Expr.{Expr}
use Rattle.jn_base.specs.declared.tree.Suffix.{Suffix, out-Suffix}
use Rattle.jn_base.specs.declared.tree.Node.TheVariants as node
use Rattle.jn_base.specs.declared.tree.Program.{Program}
use Rattle.jn_base.specs.declared.refusal.Refusal.{Refusal}
use Rattle.jn_base.specs.declared.refusal.Rule.TheVariants as rule
use Rattle.jn_base.specs.Resolve.{is_class}
use Rattle.jn_rules.specs.Plans.{Mark, Plan, OfField, OfMethod, done, ask, wants, found_or}
use Rattle.jn_rules.specs.Questions.{Gives, Notes}
use Rattle.jn_rules.specs.Exprs.{Here, Typed, mismatch, of_class, first_bound, field_gives, method_gives, suffix_typed, suffixes_typed, expr_types}
use Rattle.jn_rules.specs.Forms.{given_args, typed_args, part_types, typed_parts}
use Rattle.jn_rules.proofs.FormLaws.{forms_are}
use Rattle.jn_rules.proofs.PlanLaws.{then_noted, notes_give, wanted}
use Rattle.jn_agree.specs.Rows.{kind_of_type}
use Rattle.jn_places.specs.ExprPlaces.{PartsAt}
use Rattle.jn_lower.specs.declared.walk.Parts.{Parts}
use Rattle.jn_lower.specs.declared.walk.Walk.{Walk}
use Rattle.jn_lower.specs.Cursors.{Ahead}
use Rattle.jn_lower.specs.Called as called
use Rattle.jn_lower.specs.Walks.{LowersValue, LowersNodeAs, LowersPart, LowersParts}
use Rattle.jn_lower.proofs.Growing.{means}
use Rattle.jn_lower.proofs.Calling.{post_so, last_part_so, one_part_so}
use Rattle.jn_lower.proofs.Taking.{ready_grown, ready_in, ready_typed}
use Rattle.jn_lower.proofs.Seen.{part_low}
use Rattle.jn_lower.proofs.Chains.{is_it, regroup}

-- ---- the place of the receiver tells nothing of the type

put_test : {A : Type 0} (p : Program) (t : Bool) (r : Refusal) (go : Plan A) (y : A) → t ≡ true → Gives p go (Ok y)
    → Gives p (wants t r go) (Ok y)
put_test p t r go y e g = subst (λ (b : Bool). Gives p (wants b r go) (Ok y)) (sym e) g

anywhere_with : (p : Program) (h : Here) (f : Named) (args : Option (List Expr)) (at to : Place) (x y : Typed)
    → Gives p (suffix_typed h f (given_args h args) to x) (Ok y) → Gives p (suffix_typed h f (given_args h args) at x) (Ok y)
anywhere_with p h f None at to x y g =
    let go = ask (OfField x.scope x.ty f.name) (found_or (of_class rule.E16 (first_bound x) f f.name) (field_gives f x)) in
    let w = wanted (is_class x.ty) (mismatch h to) go y g in
    put_test p (is_class x.ty) (mismatch h at) go y w.test w.then
anywhere_with p h f (Some es) at to x y g =
    let go = ask (OfMethod x.scope x.ty f.name) (found_or (of_class rule.E16 (first_bound x) f f.name) (method_gives h f (typed_args h es) x)) in
    let w = wanted (is_class x.ty) (mismatch h to) go y g in
    put_test p (is_class x.ty) (mismatch h at) go y w.test w.then

anywhere : (p : Program) (h : Here) (z : Suffix) (at to : Place) (x y : Typed) → Gives p (part_types h z to x) (Ok y)
    → Gives p (part_types h z at x) (Ok y)
anywhere p h z at to x y g = anywhere_with p h (out-Suffix z).name (out-Suffix z).args at to x y g

-- ---- parts one behind the other

pub last_part_done : (g : Parts) (keeps : Bool) (z : Suffix) (w0 w1 : Walk) → LowersPart g keeps z w0 w1
    → LowersParts g keeps (z ∷ []) w0 w1
last_part_done g keeps z w0 w1 one n scratch h parts = record {
  done = λ whole at x y ms rest ready noted ahead.
      let f = then_noted (part_types h z at x) (λ v. done v) ms y noted in
      let d = (one n scratch h parts).done at x f.first f.before rest ready f.noted
      (subst (λ (l : List Mark). Ahead l w0.marks) (regroup ms f.before f.after rest f.all ∙ ap (λ (l : List Mark). f.before ++ (l ++ rest)) f.then.0) ahead) in
      record {
        left = d.left;
        emitted = last_part_so g.p.now n scratch h x keeps z w0.out w1.out d.emitted;
        kind = d.kind ∙ ap (λ (v : Typed). kind_of_type v.ty) (sym f.then.1);
      };
}

pub one_part_done : (g : Parts) (keeps : Bool) (z w : Suffix) (ws : List Suffix) (w0 w1 w2 : Walk)
    → LowersPart g true z w0 w1 → LowersParts g keeps (w ∷ ws) w1 w2 → LowersParts g keeps (z ∷ (w ∷ ws)) w0 w2
one_part_done g keeps z w ws w0 w1 w2 one others n scratch h parts = record {
  done = λ whole at x y ms rest ready noted ahead.
      let f = then_noted (part_types h z at x) (λ v. suffixes_typed whole whole (typed_parts h (w ∷ ws)) v) ms y noted in
      let d = (one n scratch h parts).done at x f.first f.before (f.after ++ rest) ready f.noted
      (subst (λ (l : List Mark). Ahead l w0.marks) (regroup ms f.before f.after rest f.all) ahead) in
      let e = (others n scratch h parts).done whole whole f.first y f.after rest
      (ready_in scratch h x.scope f.first.scope w1
      (part_low g.p.now h z at x f.first (notes_give g.p.now (part_types h z at x) f.before f.first f.noted))
      (ready_grown scratch h x.scope w0 w1 d.emitted.grown ready)) f.then d.left in
      record {
        left = e.left;
        emitted = one_part_so g.p.now n scratch h x keeps z w ws w0.out w1.out w2.out d.emitted
            (means (called.Parts g.p.now n scratch h f.first keeps (w ∷ ws)) (called.PartsBehindPart g.p.now n scratch h x keeps z (w ∷ ws))
            w1.out w2.out
            (λ c s t r to v gives. subst (λ (u : Typed). PartsAt g.p.now n scratch c h u keeps (w ∷ ws) s t)
            (is_it g n parts (part_types h z at x) f.before f.first v f.noted (anywhere g.p.now h z at to x v gives)) r) e.emitted);
        kind = e.kind;
      };
}

pub post_done : (g : Parts) (keeps : Bool) (e : Expr) (zs : List Suffix) (w0 w1 w2 : Walk) → LowersValue g e w0 w1
    → LowersParts g keeps zs w1 w2 → LowersNodeAs g keeps (node.Post e zs) w0 w2
post_done g keeps e zs w0 w1 w2 first all pl n scratch h sc parts = record {
  done = λ ms rest z ready noted ahead.
      let f = then_noted (expr_types h e sc) (λ x. suffixes_typed pl e.at (typed_parts h zs) x) ms z
      (subst (λ (q : Plan Typed). Notes g.p.now q ms z) ((forms_are.exprs h pl sc).post e zs) noted) in
      let d = (first n scratch h sc parts).done f.before (f.after ++ rest) f.first ready f.noted
      (subst (λ (l : List Mark). Ahead l w0.marks) (regroup ms f.before f.after rest f.all) ahead) in
      let k = (all n scratch h parts).done pl e.at f.first z f.after rest
      (ready_typed g.p.now scratch h sc e f.before f.first w0 w1 f.noted d.emitted.grown ready) f.then d.left in
      record {
        left = k.left;
        emitted = post_so g.p.now n scratch h sc keeps pl e zs w0.out w1.out w2.out d.emitted
            (means (called.Parts g.p.now n scratch h f.first keeps zs) (called.PartsBehind g.p.now n scratch h sc e keeps zs) w1.out w2.out
            (λ c s t r v gives. subst (λ (u : Typed). PartsAt g.p.now n scratch c h u keeps zs s t)
            (is_it g n parts (expr_types h e sc) f.before f.first v f.noted gives) r) k.emitted);
        kind = k.kind;
      };
}
