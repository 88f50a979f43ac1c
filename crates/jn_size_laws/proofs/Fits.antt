-- The places of a form have at most as many instructions as its size says.
use Rattle.std.proofs.Common.{◌≡◌, ℕ, zero, suc, ◌+◌, ◌≤◌, List, [], ◌∷◌, ◌++◌, length, map, Option, Some, None, Bool, true, false, refl, ap, arith}
use Rattle.std.proofs.lemmas.List.{length-append}
use Rattle.jn_base.specs.declared.tree.Name.{Name}
use Rattle.jn_base.specs.declared.tree.Op.{Op}
use Rattle.jn_base.specs.declared.tree.Op.TheVariants as op
use Rattle.jn_base.specs.declared.tree.Expr.{Expr}
use Rattle.jn_base.specs.declared.tree.Link.{Link}
use Rattle.jn_base.specs.declared.tree.Suffix.{Suffix, out-Suffix}
use Rattle.jn_base.specs.declared.tree.Stmt.{Stmt}
use Rattle.jn_base.specs.declared.tree.Program.{Program}
use Rattle.jn_base.specs.declared.types.Ty.{Ty}
use Rattle.jn_base.specs.declared.types.Ty.TheVariants as ty
use Rattle.jn_base.specs.declared.names.Role.TheVariants as role
use Rattle.jn_base.specs.Paths.{Path}
use Rattle.jn_base.specs.Atoms.{Atom}
use Rattle.jn_code.specs.declared.instr.Instr.{Instr}
use Rattle.jn_code.specs.declared.instr.Instr.TheVariants as ins
use Rattle.jn_code.specs.declared.image.Code.{Code}
use Rattle.jn_sem.specs.Terms.{Site}
use Rattle.jn_agree.specs.Naming.{Naming}
use Rattle.jn_agree.specs.Places.{Run, ClassCode, fixed, seen, CtorCode, ctor, bare, dropping, tuck, downs, up_by, operator, binding, ExprAt, at_number, at_truth, at_null, at_this, at_var, at_new, at_super, at_bare_super, at_post, at_not, at_neg, at_view, at_chain, ArgsAt, no_args, one_arg, PartsAt, no_parts, last_part, one_part, PartAt, at_field, at_call, LinksAt, no_links, one_link, one_deciding, StmtsAt, no_stmts, block_at, local_at, assign_at, set_at, do_at, if_at, while_at, return_at, end_at, print_at, text_at}
use Rattle.jn_size_laws.specs.Sizes.{total, expr_size, link_size, suffix_size, stmts_size}
use Rattle.jn_size_laws.proofs.Equations as size
use Rattle.jn_size_laws.proofs.Terms.{names_counted, view_counted}

-- a row of instructions takes as many places
pub run_long : (c xs : List Instr) (s t : ℕ) → Run c xs s t → t ≡ s + length xs
run_long c [] s t h = omega (arith, h)
run_long c (x ∷ xs) s t h = let r = run_long c xs (s + 1) t h.1 in omega (arith, r)

downs_long : (ns : Path) → length (downs ns) ≡ length ns
downs_long [] = refl
downs_long (C ∷ P) =
    let r = downs_long P in
    let a = length-append (downs P) (ins.Down C.0 ∷ []) in
    omega (arith, r, a)

up_long : (k : ℕ) → length (up_by k) ≤ 1
up_long zero = omega arith
up_long (suc k) = omega arith

class_long : (n : Naming) (x : Atom) (xs : List Instr) → ClassCode n x xs → length xs ≤ length (x.names ++ x.exact) + 3
class_long n x xs (fixed k root cls is) = let l = ap (λ (xs : List Instr). length xs) is in omega (arith, l)
class_long n x xs (seen q k up is) =
    let l = ap (λ (xs : List Instr). length xs) is in
    let a = length-append (up_by k) (downs (x.names ++ x.exact)) in
    let d = downs_long (x.names ++ x.exact) in
    let u = up_long k in
    omega (arith, l, a, d, u)

pub ctor_long : (n : Naming) (x : Atom) (count : ℕ) (xs : List Instr) → CtorCode n x count xs → length xs ≤ 1
ctor_long n x count xs (ctor C P s shape names sel many void is) =
    let l = ap (λ (xs : List Instr). length xs) is in omega (arith, l)
ctor_long n x count xs (bare none no_one is) = let l = ap (λ (xs : List Instr). length xs) is in omega (arith, l)

pub dropped_long : (keeps : Bool) (k : ℕ) → length (dropping keeps k) ≤ 1
dropped_long true k = omega arith
dropped_long false zero = omega arith
dropped_long false (suc k) = omega arith

operator_long : (o : Op) (k : ℕ) → length (operator o k) ≤ 2
operator_long op.Add k = omega arith
operator_long op.Sub k = omega arith
operator_long op.Mul k = omega arith
operator_long op.Div k = omega arith
operator_long op.Rem k = omega arith
operator_long op.Lt k = omega arith
operator_long op.Le k = omega arith
operator_long op.Gt k = omega arith
operator_long op.Ge k = omega arith
operator_long op.Eq k = omega arith
operator_long op.Ne k = omega arith
operator_long op.And k = omega arith
operator_long op.Or k = omega arith

module _ (p : Program) (n : Naming) (scratch : ℕ) (code : Code) where
  mutual
    pub expr_fits : (at : Site) (keeps : Bool) (e : Expr) (s t : ℕ) → ExprAt p n scratch code at keeps e s t →
        t ≤ s + expr_size e
    expr_fits at keeps e s t (at_number _ _ pl z _ _ runs) =
        let q = size.at_number pl z in let r = runs.1 in omega (arith, q, r)
    expr_fits at keeps e s t (at_truth _ _ pl b _ _ runs) =
        let q = size.at_truth pl b in let r = runs.1 in omega (arith, q, r)
    expr_fits at keeps e s t (at_null _ _ pl _ _ runs) =
        let q = size.at_null pl in let r = runs.1 in omega (arith, q, r)
    expr_fits at keeps e s t (at_this _ _ pl _ _ runs) =
        let q = size.at_this pl in let r = runs.1 in omega (arith, q, r)
    expr_fits at keeps e s t (at_var _ _ pl x y _ _ is runs) =
        let q = size.at_variable pl x in let r = runs.1 in omega (arith, q, r)
    expr_fits at keeps e s t (at_new _ _ pl term es x cls con _ m _ args is coded made runs) =
        let q = size.at_new pl term es in
        let a = args_fit at es s m args in
        let c = class_long n x cls coded in
        let names = names_counted p role.New at term x is in
        let k = ctor_long n x (length es) con made in
        let d = dropped_long keeps 3 in
        let r = run_long code.instrs (cls ++ ins.New ∷
        (con ++ dropping keeps 3)) m t runs in
        let one = length-append cls (ins.New ∷
        (con ++ dropping keeps 3)) in
        let two = length-append con (dropping keeps 3) in
        omega (arith, q, a, c, names, k, d, r, one, two)
    expr_fits at keeps e s t (at_super _ _ pl term f first_one es B q kind k j kinds shape _ l o m _ first low has_kind
        tucked args bound cls sel params long runs) =
        let z = size.at_super pl term f (first_one ∷ es) in
        let a = expr_fits at true first_one s l first in
        let b = args_fit at es o m args in
        let u = run_long code.instrs (tuck q) l o tucked in
        let r = run_long code.instrs (ins.Cls k ∷ ins.Callat j ∷ dropping keeps shape.result) m t runs in
        let d = dropped_long keeps shape.result in
        omega (arith, z, a, b, u, r, d)
    expr_fits at keeps e s t (at_bare_super _ _ pl term f B k j shape _ _ bound cls sel none runs) =
        let z = size.at_super pl term f [] in
        let r = run_long code.instrs (ins.Load 0 ∷ ins.Cls k ∷ ins.Callat j ∷ dropping keeps shape.result) s t runs in
        let d = dropped_long keeps shape.result in
        omega (arith, z, r, d)
    expr_fits at keeps e s t (at_post _ _ pl inner xs _ m _ first parts) =
        let z = size.at_post pl inner xs in
        let a = expr_fits at true inner s m first in
        let b = parts_fit at keeps xs m t parts in
        omega (arith, z, a, b)
    expr_fits at keeps e s t (at_not _ _ pl inner _ m _ first runs) =
        let z = size.at_inverse pl inner in
        let a = expr_fits at true inner s m first in
        let r = runs.1 in
        omega (arith, z, a, r)
    expr_fits at keeps e s t (at_neg _ _ pl inner _ m _ first runs) =
        let z = size.at_negative pl inner in
        let a = expr_fits at true inner s m first in
        let r = runs.1 in
        omega (arith, z, a, r)
    expr_fits at keeps e s t (at_view _ _ pl v inner x cls _ m _ first is coded runs) =
        let z = size.at_view pl v inner in
        let a = expr_fits at true inner s m first in
        let c = class_long n x cls coded in
        let names = view_counted p at v x is in
        let r = run_long code.instrs (cls ++ ins.Conv ∷ []) m t runs in
        let one = length-append cls (ins.Conv ∷ []) in
        omega (arith, z, a, c, names, r, one)
    expr_fits at keeps e s t (at_chain _ _ pl level inner ls _ m _ first links) =
        let z = size.at_chain pl level inner ls in
        let a = expr_fits at true inner s m first in
        let b = links_fit at ls m t links in
        omega (arith, z, a, b)

    pub args_fit : (at : Site) (es : List Expr) (s t : ℕ) → ArgsAt p n scratch code at es s t →
        t ≤ s + total (map expr_size es)
    args_fit at es s t (no_args _ _ _ e) = omega (arith, e)
    args_fit at es s t (one_arg _ e more _ m _ first rest) =
        let a = expr_fits at true e s m first in
        let b = args_fit at more m t rest in
        omega (arith, a, b)

    pub parts_fit : (at : Site) (keeps : Bool) (xs : List Suffix) (s t : ℕ) → PartsAt p n scratch code at keeps xs s t →
        t ≤ s + total (map suffix_size xs)
    parts_fit at keeps xs s t (no_parts _ _ _ _ e) = omega (arith, e)
    parts_fit at keeps xs s t (last_part _ _ x _ _ part) =
        let z = size.at_suffix x in
        let a = part_fits at keeps (out-Suffix x).name.name (out-Suffix x).args s t part in
        omega (arith, z, a)
    parts_fit at keeps xs s t (one_part _ _ x y ys _ m _ part rest) =
        let z = size.at_suffix x in
        let a = part_fits at true (out-Suffix x).name.name (out-Suffix x).args s m part in
        let b = parts_fit at keeps (y ∷ ys) m t rest in
        omega (arith, z, a, b)

    part_fits : (at : Site) (keeps : Bool) (f : Name) (args : Option (List Expr)) (s t : ℕ) →
        PartAt p n scratch code at keeps f args s t → t ≤ s + size.part_size args
    part_fits at keeps f args s t (at_field _ _ _ j kind _ _ sel runs) = let r = runs.1 in omega (arith, r)
    part_fits at keeps f args s t (at_call _ _ _ es j shape _ m _ given sel many runs) =
        let a = args_fit at es s m given in
        let r = run_long code.instrs (ins.Call j ∷ dropping keeps shape.result) m t runs in
        let d = dropped_long keeps shape.result in
        omega (arith, a, r, d)

    pub links_fit : (at : Site) (ls : List Link) (s t : ℕ) → LinksAt p n scratch code at ls s t →
        t ≤ s + total (map link_size ls)
    links_fit at ls s t (no_links _ _ _ e) = omega (arith, e)
    links_fit at ls s t (one_link _ l more kind _ m o _ strict right runs rest) =
        let z = size.at_link l in
        let a = expr_fits at true l.right s m right in
        let r = run_long code.instrs (operator l.op kind) m o runs in
        let d = operator_long l.op kind in
        let b = links_fit at more o t rest in
        omega (arith, z, a, r, d, b)
    links_fit at ls s t (one_deciding _ l more and o _ m u _ is decide branch right jump runs rest) =
        let z = size.at_link l in
        let a = expr_fits at true l.right (s + 1) m right in
        let r = runs.1 in
        let b = links_fit at more u t rest in
        omega (arith, z, a, r, b)

  binding_long : (final : Bool) (t : Ty) (q : ℕ) → length (binding p n scratch code final t q) ≤ 2
  binding_long false t q = omega arith
  binding_long true ty.Int q = omega arith
  binding_long true ty.Bool q = omega arith
  binding_long true ty.Null q = omega arith
  binding_long true ty.Void q = omega arith
  binding_long true (ty.Class xs m) q = omega arith

  pub stmts_fit : (at : Site) (path : ℕ) (ss : List Stmt) (s t : ℕ) → StmtsAt p n scratch code at path ss s t →
      t ≤ s + stmts_size ss
  stmts_fit at path ss s t (no_stmts _ _ _ _ e) = omega (arith, e)
  stmts_fit at path ss s t (block_at _ _ body more _ m _ inner rest) =
      let z = size.at_block body in
      let a = stmts_fit at path body s m inner in
      let b = stmts_fit at _ more m t rest in
      omega (arith, z, a, b)
  stmts_fit at path ss s t (local_at _ _ final ty x e type more _ m o _ value is has_kind runs rest) =
      let z = size.at_local final ty x e in
      let a = expr_fits at true e s m value in
      let r = run_long code.instrs (binding p n scratch code final type path) m o runs in
      let d = binding_long final type path in
      let b = stmts_fit _ (suc path) more o t rest in
      omega (arith, z, a, r, d, b)
  stmts_fit at path ss s t (assign_at _ _ x e y more _ m o _ value is runs rest) =
      let z = size.at_assign x e in
      let a = expr_fits at true e s m value in
      let r = runs.1 in
      let b = stmts_fit at path more o t rest in
      omega (arith, z, a, r, b)
  stmts_fit at path ss s t (set_at _ _ of f e j kind more _ l m o _ receiver value sel runs rest) =
      let z = size.at_set of f e in
      let q = expr_fits at true of s l receiver in
      let a = expr_fits at true e l m value in
      let r = runs.1 in
      let b = stmts_fit at path more o t rest in
      omega (arith, z, q, a, r, b)
  stmts_fit at path ss s t (do_at _ _ e more _ m _ value rest) =
      let z = size.at_do e in
      let a = expr_fits at false e s m value in
      let b = stmts_fit at path more m t rest in
      omega (arith, z, a, b)
  stmts_fit at path ss s t (if_at _ _ e then_part else_part pl more _ m o u _ test branch first jump second rest) =
      let z = size.at_if e then_part else_part pl in
      let a = expr_fits at true e s m test in
      let b = stmts_fit at path then_part (m + 1) o first in
      let d = stmts_fit at _ else_part (o + 1) u second in
      let f = stmts_fit at _ more u t rest in
      omega (arith, z, a, b, d, f)
  stmts_fit at path ss s t (while_at _ _ e body pl more _ m o _ test branch inner jump rest) =
      let z = size.at_while e body pl in
      let a = expr_fits at true e s m test in
      let b = stmts_fit at path body (m + 1) o inner in
      let d = stmts_fit at _ more (o + 1) t rest in
      omega (arith, z, a, b, d)
  stmts_fit at path ss s t (return_at _ _ e pl more _ m o _ value runs rest) =
      let z = size.at_return (Some e) pl in
      let a = expr_fits at true e s m value in
      let r = runs.1 in
      let b = stmts_fit at path more o t rest in
      omega (arith, z, a, r, b)
  stmts_fit at path ss s t (end_at _ _ pl more _ o _ runs rest) =
      let z = size.at_return None pl in
      let r = runs.1 in
      let b = stmts_fit at path more o t rest in
      omega (arith, z, r, b)
  stmts_fit at path ss s t (print_at _ _ e pl kind more _ m o _ value runs rest) =
      let z = size.at_print e pl in
      let a = expr_fits at true e s m value in
      let r = runs.1 in
      let b = stmts_fit at path more o t rest in
      omega (arith, z, a, r, b)
  stmts_fit at path ss s t (text_at _ _ x pl more _ o _ runs rest) =
      let z = size.at_text x pl in
      let r = runs.1 in
      let b = stmts_fit at path more o t rest in
      omega (arith, z, r, b)
