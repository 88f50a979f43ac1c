-- Where the code is that of a form, its calls have at most 15 arguments.
use Rattle.std.proofs.Common.{◌≡◌, ℕ, suc, ◌+◌, ◌≤◌, List, [], ◌∷◌, length, map, Option, Some, None, Bool, true, false, sym, ap, subst, arith}
use Rattle.jn_base.specs.declared.tree.Name.{Name}
use Rattle.jn_base.specs.declared.tree.Expr.{Expr}
use Rattle.jn_base.specs.declared.tree.Link.{Link}
use Rattle.jn_base.specs.declared.tree.Suffix.{Suffix, out-Suffix}
use Rattle.jn_base.specs.declared.tree.Stmt.{Stmt}
use Rattle.jn_base.specs.declared.tree.Program.{Program}
use Rattle.jn_base.specs.Atoms.{Atom}
use Rattle.jn_code.specs.declared.instr.Instr.{Instr}
use Rattle.jn_code.specs.declared.image.Code.{Code}
use Rattle.jn_sem.specs.Terms.{Site}
use Rattle.jn_agree.specs.Naming.{Naming}
use Rattle.jn_agree.specs.Places.{CtorCode, ctor, bare, ExprAt, at_number, at_truth, at_null, at_this, at_var, at_new, at_super, at_bare_super, at_post, at_not, at_neg, at_view, at_chain, ArgsAt, no_args, one_arg, PartsAt, no_parts, last_part, one_part, PartAt, at_field, at_call, LinksAt, no_links, one_link, one_deciding, StmtsAt, no_stmts, block_at, local_at, assign_at, set_at, do_at, if_at, while_at, return_at, end_at, print_at, text_at}
use Rattle.std.proofs.Math.Nat.{max-le}
use Rattle.jn_size_laws.specs.Operands.{Needs, most, expr_needs, link_needs, suffix_needs, stmts_need}
use Rattle.jn_size_laws.specs.LawsOfOperands.{FewParams, OperandsOf}
use Rattle.jn_size_laws.proofs.NeedEquations as size
use Rattle.jn_size_laws.proofs.Operands.{counted, expr_holds, stmts_hold}

low : (x y : Needs) → x ≡ y → y.arguments ≤ 15 → x.arguments ≤ 15
low x y e h = subst (λ (x : Needs). x.arguments ≤ 15) (sym e) h

many : (es : List Expr) → length es ≤ 15 → length (map expr_needs es) ≤ 15
many es h = let c = counted es in omega (arith, c, h)

module _ (p : Program) (n : Naming) (scratch : ℕ) (code : Code) (few : FewParams n) where
  ctor_few : (x : Atom) (count : ℕ) (xs : List Instr) → CtorCode n x count xs → count ≤ 15
  ctor_few x count xs (ctor C P s shape names sel long void is) =
      let l = few s _ sel.at in omega (arith, l, long)
  ctor_few x count xs (bare none no_one is) = omega (arith, none)

  mutual
    pub expr_few : (at : Site) (keeps : Bool) (e : Expr) (s t : ℕ) → ExprAt p n scratch code at keeps e s t →
        (expr_needs e).arguments ≤ 15
    expr_few at keeps e s t (at_number _ _ pl z _ _ runs) = low _ _ (size.at_number pl z) (omega arith)
    expr_few at keeps e s t (at_truth _ _ pl b _ _ runs) = low _ _ (size.at_truth pl b) (omega arith)
    expr_few at keeps e s t (at_null _ _ pl _ _ runs) = low _ _ (size.at_null pl) (omega arith)
    expr_few at keeps e s t (at_this _ _ pl _ _ runs) = low _ _ (size.at_this pl) (omega arith)
    expr_few at keeps e s t (at_var _ _ pl x y _ _ is runs) = low _ _ (size.at_variable pl x) (omega arith)
    expr_few at keeps e s t (at_new _ _ pl term es x cls con _ m _ given is coded made runs) =
        low _ _ (size.at_new pl term es)
        (max-le (args_few at es s m given) (many es (ctor_few x (length es) con made)))
    expr_few at keeps e s t (at_super _ _ pl term f first_one es B q kind k j kinds shape _ l o m _ first above has_kind
        tucked given bound cls sel params long runs) =
        let c = few j _ sel.at in
        let z = ap (λ (ks : List ℕ). length ks) params in
        low _ _ (size.at_super pl term f (first_one ∷ es))
        (max-le (max-le (expr_few at true first_one s l first) (args_few at es o m given))
        (many (first_one ∷ es) (omega (arith, c, z, long))))
    expr_few at keeps e s t (at_bare_super _ _ pl term f B k j shape _ _ bound cls sel none runs) =
        low _ _ (size.at_super pl term f []) (omega arith)
    expr_few at keeps e s t (at_post _ _ pl inner xs _ m _ first parts) =
        low _ _ (size.at_post pl inner xs)
        (max-le (expr_few at true inner s m first) (parts_few at keeps xs m t parts))
    expr_few at keeps e s t (at_not _ _ pl inner _ m _ first runs) =
        low _ _ (size.at_inverse pl inner) (expr_few at true inner s m first)
    expr_few at keeps e s t (at_neg _ _ pl inner _ m _ first runs) =
        low _ _ (size.at_negative pl inner) (expr_few at true inner s m first)
    expr_few at keeps e s t (at_view _ _ pl v inner x cls _ m _ first is coded runs) =
        low _ _ (size.at_view pl v inner) (expr_few at true inner s m first)
    expr_few at keeps e s t (at_chain _ _ pl level inner ls _ m _ first links) =
        low _ _ (size.at_chain pl level inner ls)
        (max-le (expr_few at true inner s m first) (links_few at ls m t links))

    args_few : (at : Site) (es : List Expr) (s t : ℕ) → ArgsAt p n scratch code at es s t →
        most (map expr_needs es) ≤ 15
    args_few at es s t (no_args _ _ _ e) = omega arith
    args_few at es s t (one_arg _ e more _ m _ first rest) =
        max-le (expr_few at true e s m first) (args_few at more m t rest)

    parts_few : (at : Site) (keeps : Bool) (xs : List Suffix) (s t : ℕ) → PartsAt p n scratch code at keeps xs s t →
        most (map suffix_needs xs) ≤ 15
    parts_few at keeps xs s t (no_parts _ _ _ _ e) = omega arith
    parts_few at keeps xs s t (last_part _ _ x _ _ part) =
        max-le (low _ _ (size.at_suffix x)
        (part_few at keeps (out-Suffix x).name.name (out-Suffix x).args s t part)) (omega arith)
    parts_few at keeps xs s t (one_part _ _ x y ys _ m _ part rest) =
        max-le (low _ _ (size.at_suffix x)
        (part_few at true (out-Suffix x).name.name (out-Suffix x).args s m part)) (parts_few at keeps (y ∷ ys) m t rest)

    part_few : (at : Site) (keeps : Bool) (f : Name) (args : Option (List Expr)) (s t : ℕ) →
        PartAt p n scratch code at keeps f args s t → (size.part_needs args).arguments ≤ 15
    part_few at keeps f args s t (at_field _ _ _ j kind _ _ sel runs) = omega arith
    part_few at keeps f args s t (at_call _ _ _ es j shape _ m _ given sel long runs) =
        let c = few j _ sel.at in
        max-le (args_few at es s m given) (many es (omega (arith, c, long)))

    links_few : (at : Site) (ls : List Link) (s t : ℕ) → LinksAt p n scratch code at ls s t →
        most (map link_needs ls) ≤ 15
    links_few at ls s t (no_links _ _ _ e) = omega arith
    links_few at ls s t (one_link _ l more kind _ m o _ strict right runs rest) =
        max-le (low _ _ (size.at_link l) (expr_few at true l.right s m right)) (links_few at more o t rest)
    links_few at ls s t (one_deciding _ l more and o _ m u _ is decide branch right jump runs rest) =
        max-le (low _ _ (size.at_link l) (expr_few at true l.right (s + 1) m right)) (links_few at more u t rest)

  pub stmts_few : (at : Site) (path : ℕ) (ss : List Stmt) (s t : ℕ) → StmtsAt p n scratch code at path ss s t →
      (stmts_need ss).arguments ≤ 15
  stmts_few at path ss s t (no_stmts _ _ _ _ e) = omega arith
  stmts_few at path ss s t (block_at _ _ body more _ m _ inner rest) =
      max-le (low _ _ (size.at_block body) (stmts_few at path body s m inner)) (stmts_few at _ more m t rest)
  stmts_few at path ss s t (local_at _ _ final ty x e type more _ m o _ value is has_kind runs rest) =
      max-le (low _ _ (size.at_local final ty x e) (expr_few at true e s m value))
      (stmts_few _ (suc path) more o t rest)
  stmts_few at path ss s t (assign_at _ _ x e y more _ m o _ value is runs rest) =
      max-le (low _ _ (size.at_assign x e) (expr_few at true e s m value)) (stmts_few at path more o t rest)
  stmts_few at path ss s t (set_at _ _ of f e j kind more _ l m o _ receiver value sel runs rest) =
      max-le (low _ _ (size.at_set of f e)
      (max-le (expr_few at true of s l receiver) (expr_few at true e l m value))) (stmts_few at path more o t rest)
  stmts_few at path ss s t (do_at _ _ e more _ m _ value rest) =
      max-le (low _ _ (size.at_do e) (expr_few at false e s m value)) (stmts_few at path more m t rest)
  stmts_few at path ss s t (if_at _ _ e then_part else_part pl more _ m o u _ test branch first jump second rest) =
      max-le (low _ _ (size.at_if e then_part else_part pl)
      (max-le (expr_few at true e s m test)
      (max-le (stmts_few at path then_part (m + 1) o first) (stmts_few at _ else_part (o + 1) u second))))
      (stmts_few at _ more u t rest)
  stmts_few at path ss s t (while_at _ _ e body pl more _ m o _ test branch inner jump rest) =
      max-le (low _ _ (size.at_while e body pl)
      (max-le (expr_few at true e s m test) (stmts_few at path body (m + 1) o inner)))
      (stmts_few at _ more (o + 1) t rest)
  stmts_few at path ss s t (return_at _ _ e pl more _ m o _ value runs rest) =
      max-le (low _ _ (size.at_return (Some e) pl) (expr_few at true e s m value)) (stmts_few at path more o t rest)
  stmts_few at path ss s t (end_at _ _ pl more _ o _ runs rest) =
      max-le (low _ _ (size.at_return None pl) (omega arith)) (stmts_few at path more o t rest)
  stmts_few at path ss s t (print_at _ _ e pl kind more _ m o _ value runs rest) =
      max-le (low _ _ (size.at_print e pl) (expr_few at true e s m value)) (stmts_few at path more o t rest)
  stmts_few at path ss s t (text_at _ _ x pl more _ o _ runs rest) =
      max-le (low _ _ (size.at_text x pl) (omega arith)) (stmts_few at path more o t rest)

pub operands_of : OperandsOf
operands_of = record {
  expr = expr_holds;
  stmts = stmts_hold;
  arguments = λ p n scratch code at keeps e s t few h. expr_few p n scratch code few at keeps e s t h;
  arguments_of = λ p n scratch code at path ss s t few h. stmts_few p n scratch code few at path ss s t h;
}
