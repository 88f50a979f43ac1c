-- The rows of class Main { void main() { .. } }.
use Rattle.std.proofs.Common.{◌≡◌, ◌/◌, ◌%◌, ℕ, zero, suc, pos, get_or, List, [], ◌∷◌, map, Some, None, Bool, true, false, refl, sym, ap, ◌∙◌, subst, arith}
use Rattle.std.specs.Prelude.{Result, Ok, Err, ◌||◌}
use Rattle.jn_sem.specs.Does.{Body, var}
use Rattle.jn_base.specs.declared.tree.Name.{Name}
use Rattle.jn_base.specs.declared.tree.Named.{Named}
use Rattle.jn_base.specs.declared.tree.Place.{Place}
use Rattle.jn_base.specs.declared.tree.TypeTerm.TheVariants as type
use Rattle.jn_base.specs.declared.tree.Level.{Level}
use Rattle.jn_base.specs.declared.tree.Link.{Link}
use Rattle.jn_base.specs.declared.tree.Level.TheVariants as level
use Rattle.jn_base.specs.declared.tree.Op.TheVariants as op
use Rattle.jn_base.specs.declared.tree.Expr.{Expr}
use Rattle.jn_base.specs.declared.tree.Node.{Node}
use Rattle.jn_base.specs.declared.tree.Node.TheVariants as node
use Rattle.jn_base.specs.declared.tree.Stmt.{Stmt, out-Stmt}
use Rattle.jn_base.specs.declared.tree.Stmt.TheFolds.{map-Stmt, fold_out-Stmt}
use Rattle.jn_base.specs.declared.tree.Stmt.TheVariants as stmt
use Rattle.jn_base.specs.declared.tree.Stmt.TheVariants.{outs-Local, outs-Assign, outs-Print, outs-Do, outs-Return, outs-While}
use Rattle.jn_base.specs.declared.tree.Member.TheVariants.{outs-Body}
use Rattle.jn_base.specs.declared.tree.Program.{Program}
use Rattle.jn_base.specs.declared.types.Ty.TheVariants as ty
use Rattle.jn_base.specs.declared.refusal.Refusal.{Refusal}
use Rattle.jn_base.specs.declared.refusal.Rule.TheVariants as rule
use Rattle.jn_base.specs.Duplicates.{duplicates, InStmt, stmt_step, in_stmt, in_block}
use Rattle.std.specs.Int.{bit_at}
use Rattle.std.proofs.lemmas.Nat.Bits.{bit_at-zero}
use Rattle.jn_base.specs.declared.tree.Suffix.{Suffix, out-roll-Suffix}
use Rattle.jn_base.specs.declared.tree.Node.TheOpen.{Suffix-F}
use Rattle.jn_base.specs.Atoms.{HasMask, no_masks}
use Rattle.jn_base.specs.Parts.{expr, link, suffix}
use Rattle.jn_base.specs.Scopes.{Scope}
use Rattle.jn_base.proofs.Unique.{decl_opened, member_opened}
use Rattle.jn_sem.specs.Below.{Below, ints}
use Rattle.jn_rules.specs.Plans.{Plan, done, wants}
use Rattle.jn_rules.specs.Questions.{Answers, Gives, first, IsMethodOf, IsFirstMask}
use Rattle.jn_rules.specs.Exprs.{Here, Typed, plain, is_int, is_bool, mismatch, of_name, of_path, links_typed, suffix_typed, expr_types}
use Rattle.jn_rules.specs.Forms.{typed_links, typed_args, given_args, part_types}
use Rattle.jn_rules.specs.Stmts.{Before, In, body_in, at_start, stmt_types, here, with_local}
use Rattle.jn_rules.proofs.PlanLaws.{then_gives, then_refuses}
use Rattle.jn_rules.proofs.FormLaws.{expr_forms, stmt_forms}
use Rattle.jn_rules.specs.Verdict.{TreePasses}
use Rattle.jn_rule_rows.specs.OneMain.{Main, main, x, f, main_with}
use Rattle.jn_rule_rows.specs.Rows.{column, named, number, truth, call_this, shows, Refuses, MainRows}
use Rattle.jn_rule_rows.proofs.OneMain.{method_at}
use Rattle.jn_rule_rows.proofs.OneVerdict.{the_body, the_header, its_decls, its_body, passes, refuses}

pub stmt_open : (s : Stmt) → in_stmt s ≡ stmt_step (map-Stmt _ _ in_stmt (out-Stmt s))
stmt_open s = fold_out-Stmt InStmt stmt_step s

none_twice : (ss : List Stmt) → in_block (map in_stmt ss) [] ≡ [] → duplicates (main_with ss) ≡ []
none_twice ss e = simp (decl_opened, member_opened, outs-Body, e)

-- ---- statements by their forms

abbrev inside : List Stmt → In
inside ss = body_in (the_body ss) the_header

abbrev start : List Stmt → Before
start ss = at_start (the_body ss) the_header

pub by_form : (p : Program) {A : Type 0} (x y : Plan A) (o : Result A Refusal) → x ≡ y → Gives p y o → Gives p x o
by_form p {A = A} x y o e g = subst (λ (z : Plan A). Gives p z o) (sym e) g

-- ---- in a body

module _ (ss : List Stmt) where
  abbrev p : Program
  p = main_with ss

  abbrev pub b : In
  b = inside ss

  abbrev pub y : Before
  y = start ss

  abbrev pub h : Here
  h = here b y

  abbrev Has : Expr → Result Typed Refusal → Type 0
  Has e o = Gives p (expr_types h e y.scope) o

  abbrev pub Does : Stmt → Result Before Refusal → Type 0
  Does s o = Gives p (stmt_types b s y) o

  number_has : (z k : ℕ) → Has (number z k) (Ok (plain ty.Int y.scope))
  number_has z k = by_form p _ _ _ ((expr_forms h (column k) y.scope).number (pos z)) refl

  truth_has : (t : Bool) (k : ℕ) → Has (truth t k) (Ok (plain ty.Bool y.scope))
  truth_has t k = by_form p _ _ _ ((expr_forms h (column k) y.scope).truth t) refl

  null_has : (k : ℕ) → Has (expr (column k) node.Null) (Ok (plain ty.Null y.scope))
  null_has k = by_form p _ _ _ (expr_forms h (column k) y.scope).null refl

  unknown_has : (m : Name) (k : ℕ) → Has (expr (column k) (node.Var m)) (Err (of_name rule.E06 h (column k) m))
  unknown_has m k = by_form p _ _ _ ((expr_forms h (column k) y.scope).var m) refl

  print_refused : (e : Expr) (k : ℕ) (r : Refusal) → Has e (Err r) → Does (stmt.Print e (column k)) (Err r)
  print_refused e k r g = by_form p _ _ _ ((stmt_forms b y).prints e (column k)) (then_refuses p (expr_types h e y.scope) _ r g)

  print_behind : (e : Expr) (k : ℕ) (t : Typed) (o : Result Before Refusal) → Has e (Ok t)
      → Gives p (wants (is_int t.ty || is_bool t.ty) (mismatch h e.at) (done y)) o → Does (stmt.Print e (column k)) o
  print_behind e k t o g i = by_form p _ _ _ ((stmt_forms b y).prints e (column k)) (then_gives p (expr_types h e y.scope) _ t o g i)

  local_behind : (fixed : Bool) (n : Named) (e : Expr) (t : Typed) (ok : Bool) (o : Result Before Refusal) → Has e (Ok t)
      → Answers (Below p t.scope t.ty ty.Int) ok
      → Gives p (wants ok (mismatch h e.at) (done (with_local y (var n.name y.next fixed ty.Int)))) o
      → Does (stmt.Local fixed type.Int n e) o
  local_behind fixed n e t ok o g a i = by_form p _ _ _ ((stmt_forms b y).local fixed type.Int n e)
      (Ok ty.Int, refl, then_gives p (expr_types h e y.scope) _ t o g (ok, a, i))

  return_behind : (e : Expr) (k : ℕ) (t : Typed) → Has e (Ok t) → Does (stmt.Return (Some e) (column k)) (Err (mismatch h (column k)))
  return_behind e k t g =
      by_form p _ _ _ ((stmt_forms b y).returns (Some e) (column k)) (then_gives p (expr_types h e y.scope) _ t (Err (mismatch h (column k))) g refl)

  while_number : (e : Expr) (body : List Stmt) (k : ℕ) → Has e (Ok (plain ty.Int y.scope)) → Does (stmt.While e body (column k)) (Err (mismatch h e.at))
  while_number e body k g =
      by_form p _ _ _ ((stmt_forms b y).loop e body (column k)) (then_gives p (expr_types h e y.scope) _ (plain ty.Int y.scope) (Err (mismatch h e.at)) g refl)

  do_refused : (e : Expr) (r : Refusal) → Has e (Err r) → Does (stmt.Do e) (Err r)
  do_refused e r g = by_form p _ _ _ ((stmt_forms b y).call e) (then_refuses p (expr_types h e y.scope) _ r g)

  chain_behind : (level : Level) (e : Expr) (l : Link) (k : ℕ) (t : Typed) (o : Result Typed Refusal) → Has e (Ok t)
      → Gives p (links_typed h e.at t (typed_links h (l ∷ []))) o → Has (expr (column k) (node.Chain level e (l ∷ []))) o
  chain_behind level e l k t o g i = by_form p _ _ _ ((expr_forms h (column k) y.scope).chain level e (l ∷ [])) (then_gives p (expr_types h e y.scope) _ t o g i)

-- ---- the rows

-- the first statement is refused
pub refused_first : (s : Stmt) (ss : List Stmt) (r : Refusal) → in_block (map in_stmt (s ∷ ss)) [] ≡ [] → Does (s ∷ ss) s (Err r) → Refuses s ss r
refused_first s ss r e g =
    refuses (s ∷ ss) (none_twice (s ∷ ss) e) r (then_refuses (main_with (s ∷ ss)) (stmt_types (inside (s ∷ ss)) s (start (s ∷ ss))) _ r g)

not_below : {p : Program} {s : Scope} → Below p s ty.Bool ty.Int → ⊥
not_below b = elim b [ ]

abbrev pub alone : Stmt → List Stmt
alone s = s ∷ []

print_unknown : Refuses (stmt.Print (expr (column 34) (node.Var x)) (column 28)) [] (shows rule.E06 34 x)
print_unknown =
    let e = expr (column 34) (node.Var x) in let s = stmt.Print e (column 28) in
    refused_first s [] (shows rule.E06 34 x) (simp (stmt_open, outs-Print)) (print_refused (alone s) e 28 (shows rule.E06 34 x) (unknown_has (alone s) x 34))

local_mismatch : Refuses (stmt.Local false type.Int (named x 32) (truth true 36)) [] (shows rule.E18 36 main)
local_mismatch =
    let s = stmt.Local false type.Int (named x 32) (truth true 36) in
    refused_first s [] (shows rule.E18 36 main) (simp (stmt_open, outs-Local))
    (local_behind (alone s) false (named x 32) (truth true 36) _ false (Err (shows rule.E18 36 main)) (truth_has (alone s) true 36) not_below refl)

returns_value : Refuses (stmt.Return (Some (number 1 35)) (column 28)) [] (shows rule.E18 28 main)
returns_value =
    let s = stmt.Return (Some (number 1 35)) (column 28) in
    refused_first s [] (shows rule.E18 28 main) (simp (stmt_open, outs-Return)) (return_behind (alone s) (number 1 35) 28 _ (number_has (alone s) 1 35))

loop_number : Refuses (stmt.While (number 1 35) [] (column 28)) [] (shows rule.E18 35 main)
loop_number =
    let s = stmt.While (number 1 35) [] (column 28) in
    refused_first s [] (shows rule.E18 35 main) (simp (stmt_open, outs-While)) (while_number (alone s) (number 1 35) [] 28 (number_has (alone s) 1 35))

print_null : Refuses (stmt.Print (expr (column 34) node.Null) (column 28)) [] (shows rule.E18 34 main)
print_null =
    let e = expr (column 34) node.Null in let s = stmt.Print e (column 28) in
    refused_first s [] (shows rule.E18 34 main) (simp (stmt_open, outs-Print)) (print_behind (alone s) e 28 _ (Err (shows rule.E18 34 main)) (null_has (alone s) 34) refl)

main_empty : TreePasses (main_with [])
main_empty = passes [] (none_twice [] refl) (start []) refl

main_prints : TreePasses (main_with (stmt.Print (number 1 34) (column 28) ∷ []))
main_prints =
    let s = stmt.Print (number 1 34) (column 28) in let ss = s ∷ [] in
    passes ss (none_twice ss (simp (stmt_open, outs-Print))) (start ss)
    (then_gives (main_with ss) (stmt_types (inside ss) s (start ss)) _ (start ss) (Ok (start ss))
    (print_behind ss (number 1 34) 28 _ (Ok (start ss)) (number_has ss 1 34) refl) refl)

operand : Refuses (stmt.Print (expr (column 34) (node.Chain level.Sum (number 1 34) (link op.Add (column 36) (truth true 38) ∷ []))) (column 28)) [] (shows rule.E18 38 main)
operand =
    let l = link op.Add (column 36) (truth true 38) in let e = expr (column 34) (node.Chain level.Sum (number 1 34) (l ∷ [])) in let s = stmt.Print e (column 28) in
    let r : Result Typed Refusal = Err (shows rule.E18 38 main) in
    refused_first s [] (shows rule.E18 38 main) (simp (stmt_open, outs-Print)) (print_refused (alone s) e 28 (shows rule.E18 38 main)
    (chain_behind (alone s) level.Sum (number 1 34) l 34 _ r (number_has (alone s) 1 34)
    (then_gives (main_with (alone s)) (expr_types (h (alone s)) (truth true 38) (start (alone s)).scope) _ _ r (truth_has (alone s) true 38) refl)))

equal : Refuses (stmt.Print (expr (column 34) (node.Chain level.Equal (number 1 34) (link op.Eq (column 36) (truth true 39) ∷ []))) (column 28)) [] (shows rule.E18 36 main)
equal =
    let l = link op.Eq (column 36) (truth true 39) in let e = expr (column 34) (node.Chain level.Equal (number 1 34) (l ∷ [])) in let s = stmt.Print e (column 28) in
    let r : Result Typed Refusal = Err (shows rule.E18 36 main) in
    refused_first s [] (shows rule.E18 36 main) (simp (stmt_open, outs-Print)) (print_refused (alone s) e 28 (shows rule.E18 36 main)
    (chain_behind (alone s) level.Equal (number 1 34) l 34 _ r (number_has (alone s) 1 34)
    (then_gives (main_with (alone s)) (expr_types (h (alone s)) (truth true 39) (start (alone s)).scope) _ _ r (truth_has (alone s) true 39) refl)))

assigned : Refuses (stmt.Local true type.Int (named x 38) (number 1 42)) (stmt.Assign (named x 45) (number 2 49) ∷ []) (shows rule.E24 45 x)
assigned =
    let one = stmt.Local true type.Int (named x 38) (number 1 42) in let two = stmt.Assign (named x 45) (number 2 49) in let ss = one ∷ two ∷ [] in
    let v = var x 1 true ty.Int in let z = with_local (start ss) v in
    let r : Result Before Refusal = Err (shows rule.E24 45 x) in
    refuses ss (none_twice ss (simp (stmt_open, outs-Local, outs-Assign))) (shows rule.E24 45 x)
    (then_gives (main_with ss) (stmt_types (inside ss) one (start ss)) _ z r
    (local_behind ss true (named x 38) (number 1 42) _ true (Ok z) (number_has ss 1 42) ints refl)
    (then_refuses (main_with ss) (stmt_types (inside ss) two z) _ (shows rule.E24 45 x) (by_form (main_with ss) _ _ _ ((stmt_forms (inside ss) z).assign (named x 45) (number 2 49)) refl)))

-- ---- calls

-- no mask is set where none is
zeros : (n : ℕ) → get_or no_masks.0 n 0 ≡ 0
zeros zero = refl
zeros (suc zero) = refl
zeros (suc (suc zero)) = refl
zeros (suc (suc (suc zero))) = refl
zeros (suc (suc (suc (suc n)))) = refl

pub not_masked : (i : ℕ) → HasMask no_masks i → ⊥
not_masked i e =
    let z : bit_at (get_or no_masks.0 (i / 64) 0) (i % 64) ≡ 0 = ap (λ (n : ℕ). bit_at n (i % 64)) (zeros (i / 64)) ∙ bit_at-zero (i % 64) in
    omega (arith, e, z)

module _ (ss : List Stmt) where
  abbrev this_typed : Typed
  this_typed = of_path 0 (y ss).scope

  part_of : (m : Name) (es : List Expr) (j : ℕ) (at : Place) (o : Result Typed Refusal)
      → Gives (p ss) (suffix_typed (h ss) (named m j) (Some (typed_args (h ss) es)) at this_typed) o
      → Gives (p ss) (part_types (h ss) (suffix m (column j) (Some es)) at this_typed) o
  part_of m es j at o g = subst (λ (d : Suffix-F Node Expr Link Suffix). Gives (p ss) (suffix_typed (h ss) d.name (given_args (h ss) d.args) at this_typed) o) (sym (out-roll-Suffix _)) g

  call_has : (m : Name) (es : List Expr) (k j : ℕ) (r : Refusal)
      → Gives (p ss) (suffix_typed (h ss) (named m j) (Some (typed_args (h ss) es)) (column k) this_typed) (Err r) → Has ss (call_this m es k j) (Err r)
  call_has m es k j r g =
      let at : Gives (p ss) (expr_types (h ss) (expr (column k) node.This) (y ss).scope) (Ok this_typed) =
      by_form (p ss) _ _ _ (expr_forms (h ss) (column k) (y ss).scope).this refl in
      by_form (p ss) _ _ _ ((expr_forms (h ss) (column k) (y ss).scope).post (expr (column k) node.This) (suffix m (column j) (Some es) ∷ []))
      (then_gives (p ss) (expr_types (h ss) (expr (column k) node.This) (y ss).scope) _ this_typed (Err r) at
      (then_refuses (p ss) (part_types (h ss) (suffix m (column j) (Some es)) (column k) this_typed) _ r (part_of m es j (column k) (Err r) g)))

  no_f : (b : Body) → IsMethodOf (p ss) (y ss).scope this_typed.ty f b → ⊥
  no_f b i = let e : f ≡ main = (method_at ss b.class f b.method i.body.at).1 in omega (arith, ap (λ (n : Name). n.0) e)

  has_main_at : IsMethodOf (p ss) (y ss).scope this_typed.ty main (the_body ss)
  has_main_at = record { bound = Main ∷ []; at = first refl (Main ∷ [], its_decls ss); body = its_body ss }

  no_mask : (g : Name) → IsFirstMask (p ss) no_masks g → ⊥
  no_mask g i = not_masked i.masked.number i.masked.has

no_member : Refuses (stmt.Do (call_this f [] 28 33)) [] (shows rule.E16 33 f)
no_member =
    let e = call_this f [] 28 33 in let s = stmt.Do e in
    refused_first s [] (shows rule.E16 33 f) (simp (stmt_open, outs-Do)) (do_refused (alone s) e (shows rule.E16 33 f)
    (call_has (alone s) f [] 28 33 (shows rule.E16 33 f) (None, no_f (alone s), refl)))

arity : Refuses (stmt.Do (call_this main (number 1 38 ∷ []) 28 33)) [] (shows rule.E17 33 main)
arity =
    let e = call_this main (number 1 38 ∷ []) 28 33 in let s = stmt.Do e in
    refused_first s [] (shows rule.E17 33 main) (simp (stmt_open, outs-Do)) (do_refused (alone s) e (shows rule.E17 33 main)
    (call_has (alone s) main (number 1 38 ∷ []) 28 33 (shows rule.E17 33 main) (Some (the_body (alone s)), has_main_at (alone s), (None, no_mask (alone s), refl))))

pub main_rows : MainRows
main_rows = record {
  empty = main_empty;
  prints = main_prints;
  unknown = print_unknown;
  mismatch = local_mismatch;
  assigned = assigned;
  returns = returns_value;
  condition = loop_number;
  printed = print_null;
  operand = operand;
  equal = equal;
  no_member = no_member;
  arity = arity;
}
