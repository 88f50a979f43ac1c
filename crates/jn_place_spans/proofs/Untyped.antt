-- What is typed and stands at typed places stands at the places.
use Rattle.std.proofs.Common.{◌≡◌, ℕ, ◌+◌, List, [], ◌∷◌, ◌++◌, Option, None, Bool, true, refl, sym, subst}
use Rattle.std.specs.Prelude.{Ok}
use Rattle.jn_base.specs.declared.tree.Named.{Named}
use Rattle.jn_base.specs.declared.tree.Place.{Place}
use Rattle.jn_base.specs.declared.tree.Node.TheVariants as node
use Rattle.jn_base.specs.declared.tree.Expr.{Expr}
use Rattle.jn_base.specs.declared.tree.Link.{Link}
use Rattle.jn_base.specs.declared.tree.Suffix.{Suffix, out-Suffix}
use Rattle.jn_base.specs.declared.tree.Program.{Program}
use Rattle.jn_base.specs.declared.types.Ty.{Ty}
use Rattle.jn_base.specs.declared.types.Ty.TheVariants as ty
use Rattle.jn_base.specs.declared.names.Var.{Var}
use Rattle.jn_base.specs.Parts.{expr}
use Rattle.jn_base.specs.Atoms.{Atom}
use Rattle.jn_base.specs.Scopes.{Scope, bound}
use Rattle.jn_code.specs.declared.image.Code.{Code}
use Rattle.jn_sem.specs.NormalFunction.{normal_type}
use Rattle.jn_sem.specs.Does.{Body, IsConstructorBody}
use Rattle.jn_laws.specs.LawsOfWritten.{Shallow}
use Rattle.jn_rules.specs.Headers.{Header, header_typed}
use Rattle.jn_rules.specs.Questions.{Gives}
use Rattle.jn_rules.specs.Exprs.{Here, site_here, Typed, Passed, plain as plain_type, path_of, arg_passed, replaced_paths, operator_type, suffix_typed, suffixes_typed, links_typed, args_typed, call_typed, made_exact, fresh_with, expr_types}
use Rattle.jn_rules.specs.Forms.{typed_args, given_args, part_types, typed_parts, typed_links}
use Rattle.jn_rules.proofs.FormLaws.{forms_are}
use Rattle.jn_rules.proofs.PlanLaws.{then_came}
use Rattle.jn_agree.specs.Naming.{Naming}
use Rattle.jn_agree.specs.Places.{newest, IsDecide, both, either}
use Rattle.jn_places.specs.ExprPlaces.{ExprAt, ArgsAt, PartsAt, PartAt, LinksAt, at_number, at_truth, at_null, at_this, at_var, at_new, at_super, at_bare_super, at_post, at_not, at_neg, at_view, at_chain, no_args, one_arg, no_parts, last_part, one_part, at_field, at_call, no_links, one_link, one_deciding}
use Rattle.jn_place_spans.specs.LawsOfExprs.{LocalsAre, SeesAs}
use Rattle.jn_place_spans.proofs.KindsOfTypes.{decide_type}
use Rattle.jn_place_spans.proofs.Typed as typed
use Rattle.jn_place_spans.specs.LawsOfUntyped.{ExprsStand}
use Rattle.jn_agree.specs.Places as plain
use Rattle.jn_place_spans.proofs.Seen.{first_passed, first_of_all, named_sees, super_body, operand_typed, expr_sees, part_sees}

module _ (p : Program) (deep : Shallow p) (n : Naming) (scratch : ℕ) (it : Code) (h : Here) (locals : LocalsAre it h)
  where
    sees : (sc : Scope) (keeps : Bool) (e : Expr) (s t : ℕ) → ExprAt p n scratch it h sc keeps e s t → SeesAs h sc
        → (y : Typed) → Gives p (expr_types h e sc) (Ok y) → SeesAs h y.scope
    sees sc keeps e s t at ok y g = expr_sees p deep n scratch it h locals sc keeps e s t at ok y g

    made_stands : (sc : Scope) (x : Atom) (es : List Expr) (s m : ℕ) (y : Typed)
        → (((b : Body) → IsConstructorBody p (bound sc x) b → ⊥) → (es ≡ []) × (m ≡ s)) → typed.NewFound p h sc x es y
        → ((b : Body) (c : Header) (passed : Passed) → IsConstructorBody p (bound sc x) b
        → Gives p (header_typed b) (Ok c)
        → Gives p (call_typed h c (typed_args h es) (fresh_with (normal_type sc (made_exact x)) sc)) (Ok passed)
        → plain.ArgsAt p n scratch it (site_here h) es s m) → plain.ArgsAt p n scratch it (site_here h) es s m
    made_stands sc x es s m y none (typed.bare lacks cls scope) args =
        subst (λ (fs : List Expr). plain.ArgsAt p n scratch it (site_here h) fs s m) (sym (none lacks).0)
        (plain.no_args (site_here h) s m (none lacks).1)
    made_stands sc x es s m y none (typed.by b c passed cons head long given cls scope) args =
        args b c passed cons head given

    mutual
      pub expr_stands : (sc : Scope) (keeps : Bool) (e : Expr) (s t : ℕ) → ExprAt p n scratch it h sc keeps e s t
          → SeesAs h sc → (y : Typed) → Gives p (expr_types h e sc) (Ok y)
          → plain.ExprAt p n scratch it (site_here h) keeps e s t
      expr_stands sc _ _ s t (at_number _ pl z _ _ runs) ok y g = plain.at_number (site_here h) true pl z s t runs
      expr_stands sc _ _ s t (at_truth _ pl z _ _ runs) ok y g = plain.at_truth (site_here h) true pl z s t runs
      expr_stands sc _ _ s t (at_null _ pl _ _ runs) ok y g = plain.at_null (site_here h) true pl s t runs
      expr_stands sc _ _ s t (at_this _ pl _ _ runs) ok y g = plain.at_this (site_here h) true pl s t runs
      expr_stands sc _ _ s t (at_var _ pl x v _ _ new runs) ok y g = plain.at_var (site_here h) true pl x v s t new runs
      expr_stands sc keeps _ s e (at_new _ _ pl t es x cls con _ m _ is args none shapes class ctors runs) ok y g =
          plain.at_new (site_here h) keeps pl t es x cls con s m e
          (made_stands sc x es s m y none (typed.new_found p h pl sc t x es y is g)
          (λ b c passed cons head given.
          args_stand c.vars es (fresh_with (normal_type sc (made_exact x)) sc).scope passed s m (replaced_paths c.vars)
          ((fresh_with (normal_type sc (made_exact x)) sc).path ∷ []) (args b c cons head)
          (named_sees h (normal_type sc (made_exact x)) None sc ok) given))
          is class ctors runs
      expr_stands sc keeps _ s u (at_super _ _ pl t f0 e es B q kind k j kinds shape _ l o a _ ea under has tucks
          bnd args
          shapes class sel params count runs) ok y g =
          let w = typed.super_found p h pl sc t f0 (e ∷ es) y g in
          let is_body = super_body p deep n scratch it h locals sc ok t f0 (e ∷ es) y B bnd w in
          let f = first_of_all p h (replaced_paths w.header.vars) w.header.vars e es
          (0 ∷ []) sc w.passed w.long w.args in
          plain.at_super (site_here h) keeps pl t f0 e es B q kind k j kinds shape s l o a u
          (expr_stands sc true e s l ea ok f.one.first f.one.had) under has tucks
          (args_stand f.xs es (arg_passed (replaced_paths w.header.vars) (0 ∷ []) f.x f.one.first).scope w.passed o a
          (replaced_paths w.header.vars)
          (0 ∷ (arg_passed (replaced_paths w.header.vars) (0 ∷ []) f.x f.one.first).path ∷ [])
          (args w.body w.header f.x f.xs f.one.first is_body w.head f.same f.one.had)
          (named_sees h _ f.one.first.path f.one.first.scope (sees sc true e s l ea ok f.one.first f.one.had))
          f.one.rest)
          bnd class sel params count runs
      expr_stands sc keeps _ s u (at_bare_super _ _ pl t f B k j shape _ _ bnd shapes class sel none runs) ok y g =
          plain.at_bare_super (site_here h) keeps pl t f B k j shape s u bnd class sel none runs
      expr_stands sc keeps _ s t (at_post _ _ pl e xs _ l _ ea parts) ok y g =
          let c = then_came (expr_types h e sc) (suffixes_typed pl e.at (typed_parts h xs)) y
          (typed.asked p h (expr pl (node.Post e xs)) sc y _ ((forms_are.exprs h pl sc).post e xs) g) in
          plain.at_post (site_here h) keeps pl e xs s l t (expr_stands sc true e s l ea ok c.first c.gave)
          (parts_stand c.first keeps xs l t (parts c.first c.gave)
          (sees sc true e s l ea ok c.first c.gave) pl e.at y c.then)
      expr_stands sc _ _ s t (at_not _ pl e _ l _ ea runs) ok y g =
          let c = then_came (expr_types h e sc) _ y
          (typed.asked p h (expr pl (node.Not e)) sc y _ ((forms_are.exprs h pl sc).invert e) g) in
          plain.at_not (site_here h) true pl e s l t (expr_stands sc true e s l ea ok c.first c.gave) runs
      expr_stands sc _ _ s t (at_neg _ pl e _ l _ ea runs) ok y g =
          let c = then_came (expr_types h e sc) _ y
          (typed.asked p h (expr pl (node.Neg e)) sc y _ ((forms_are.exprs h pl sc).negate e) g) in
          plain.at_neg (site_here h) true pl e s l t (expr_stands sc true e s l ea ok c.first c.gave) runs
      expr_stands sc _ _ s t (at_view _ pl v e x cls _ l _ ea is class runs) ok y g =
          let w = typed.view_found p h pl v e sc y g in
          plain.at_view (site_here h) true pl v e x cls s l t
          (expr_stands sc true e s l ea ok w.first w.had) is class runs
      expr_stands sc _ _ s t (at_chain _ pl level e ls _ l _ ea links) ok y g =
          let c = then_came (expr_types h e sc) (λ x. links_typed h e.at x (typed_links h ls)) y
          (typed.asked p h (expr pl (node.Chain level e ls)) sc y _ ((forms_are.exprs h pl sc).chain level e ls) g) in
          plain.at_chain (site_here h) true pl level e ls s l t (expr_stands sc true e s l ea ok c.first c.gave)
          (links_stand c.first ls l t (links c.first c.gave) (sees sc true e s l ea ok c.first c.gave) e.at y c.then)

      args_stand : (xs : List Var) (es : List Expr) (sc : Scope) (passed : Passed) (s t : ℕ) (from to : List ℕ)
          → ArgsAt p n scratch it h from xs es to sc s t → SeesAs h sc
          → Gives p (args_typed h from xs (typed_args h es) to sc) (Ok passed)
          → plain.ArgsAt p n scratch it (site_here h) es s t
      args_stand _ _ sc passed s t from to (no_args _ _ _ _ _ end) ok g = plain.no_args (site_here h) s t end
      args_stand _ _ sc passed s t from to (one_arg _ x xs e es _ _ _ l _ ea rest) ok g =
          let f = first_passed p h from x xs e es to sc passed g in
          plain.one_arg (site_here h) e es s l t (expr_stands sc true e s l ea ok f.first f.had)
          (args_stand xs es (arg_passed from to x f.first).scope passed l t from
          (to ++ (arg_passed from to x f.first).path ∷ []) (rest f.first f.had)
          (named_sees h _ f.first.path f.first.scope (sees sc true e s l ea ok f.first f.had)) f.rest)

      parts_stand : (x : Typed) (keeps : Bool) (xs : List Suffix) (s t : ℕ) → PartsAt p n scratch it h x keeps xs s t
          → SeesAs h x.scope → (whole at : Place) (y : Typed)
          → Gives p (suffixes_typed whole at (typed_parts h xs) x) (Ok y)
          → plain.PartsAt p n scratch it (site_here h) keeps xs s t
      parts_stand x _ _ s t (no_parts _ _ _ end) ok whole at y g = plain.no_parts (site_here h) true s t end
      parts_stand x keeps _ s t (last_part _ _ z _ _ part) ok whole at y g =
          let c = then_came (part_types h z at x) (suffixes_typed whole whole []) y g in
          plain.last_part (site_here h) keeps z s t
          (part_stands x keeps (out-Suffix z).name (out-Suffix z).args s t part ok at c.first c.gave)
      parts_stand x keeps _ s t (one_part _ _ z v vs _ l _ part rest) ok whole at y g =
          let c = then_came (part_types h z at x) (suffixes_typed whole whole (typed_parts h (v ∷ vs))) y g in
          plain.one_part (site_here h) keeps z v vs s l t
          (part_stands x true (out-Suffix z).name (out-Suffix z).args s l part ok at c.first c.gave)
          (parts_stand c.first keeps (v ∷ vs) l t (rest at c.first c.gave)
          (part_sees p deep n scratch it h locals x true (out-Suffix z).name
          (out-Suffix z).args s l part ok at c.first c.gave)
          whole whole y c.then)

      part_stands : (x : Typed) (keeps : Bool) (f : Named) (args : Option (List Expr)) (s t : ℕ)
          → PartAt p n scratch it h x keeps f.name args s t → SeesAs h x.scope → (at : Place) (y : Typed)
          → Gives p (suffix_typed h f (given_args h args) at x) (Ok y)
          → plain.PartAt p n scratch it (site_here h) keeps f.name args s t
      part_stands x _ f _ s t (at_field _ _ j kind_f _ _ sel kinds runs) ok at y g =
          plain.at_field (site_here h) true f.name j kind_f s t sel runs
      part_stands x keeps f _ s t (at_call _ _ _ es j shape _ l _ args shapes sel count runs) ok at y g =
          let w = typed.call_found p h f (typed_args h es) at x y g in
          plain.at_call (site_here h) keeps f.name es j shape s l t
          (args_stand w.header.vars es (path_of x.ty x).scope w.passed s l (replaced_paths w.header.vars)
          ((path_of x.ty x).path ∷ []) (args w.body w.header w.here w.head)
          (named_sees h x.ty x.path x.scope ok) w.args)
          sel count runs

      links_stand : (x : Typed) (ls : List Link) (s t : ℕ) → LinksAt p n scratch it h x ls s t → SeesAs h x.scope
          → (at : Place) (y : Typed) → Gives p (links_typed h at x (typed_links h ls)) (Ok y)
          → plain.LinksAt p n scratch it (site_here h) ls s t
      links_stand x _ s t (no_links _ _ _ end) ok at y g = plain.no_links (site_here h) s t end
      links_stand x _ s t (one_link _ l ls kind_r _ a o _ strict ea is_kind runs rest) ok at y g =
          let c = operand_typed p deep n scratch it h locals x l ls at y g in
          plain.one_link (site_here h) l ls kind_r s a o t strict
          (expr_stands x.scope true l.right s a ea ok c.right c.had)
          runs (links_stand (plain_type (operator_type l.op) c.right.scope) ls o t (rest c.right c.had)
          (sees x.scope true l.right s a ea ok c.right c.had) at y c.then)
      links_stand x _ s t (one_deciding _ l ls and _ a o _ is at_one ea at_jump runs rest) ok at y g =
          let c = operand_typed p deep n scratch it h locals x l ls at y g in
          plain.one_deciding (site_here h) l ls and l.op s a o t refl is at_one
          (expr_stands x.scope true l.right (s + 1) a ea ok c.right c.had) at_jump runs
          (links_stand (plain_type ty.Bool c.right.scope) ls o t (rest c.right c.had)
          (sees x.scope true l.right (s + 1) a ea ok c.right c.had) at y
          (subst (λ (u : Ty). Gives p (links_typed h at (plain_type u c.right.scope) (typed_links h ls)) (Ok y))
          (decide_type l.op and is) c.then))

pub exprs_stand : ExprsStand
exprs_stand p deep n scratch it h locals sc ok keeps e s t at y g =
    expr_stands p deep n scratch it h locals sc keeps e s t at ok y g
