-- Worked rows: small programs with their verdicts, and single forms with what is refused of them.
use Rattle.std.specs.Prelude.{◌≡◌, ℕ, pos, List, [], ◌∷◌, Bool, true, false, Some, None, Ok, Err}
use Rattle.jn_base.specs.declared.tree.Name.{Name}
use Rattle.jn_base.specs.declared.tree.Named.{Named}
use Rattle.jn_base.specs.declared.tree.Place.{Place}
use Rattle.jn_base.specs.declared.tree.Head.TheVariants as head
use Rattle.jn_base.specs.declared.tree.Ref.TheVariants as ref
use Rattle.jn_base.specs.declared.tree.Term.{Term}
use Rattle.jn_base.specs.declared.tree.TypeTerm.{TypeTerm}
use Rattle.jn_base.specs.declared.tree.TypeTerm.TheVariants as type
use Rattle.jn_base.specs.declared.tree.Constraint.{Constraint}
use Rattle.jn_base.specs.declared.tree.Level.TheVariants as level
use Rattle.jn_base.specs.declared.tree.Op.TheVariants as op
use Rattle.jn_base.specs.declared.tree.Expr.{Expr}
use Rattle.jn_base.specs.declared.tree.Link.{Link}
use Rattle.jn_base.specs.declared.tree.Node.TheVariants as node
use Rattle.jn_base.specs.declared.tree.Method.{Method}
use Rattle.jn_base.specs.declared.tree.Stmt.{Stmt}
use Rattle.jn_base.specs.declared.tree.Stmt.TheVariants as stmt
use Rattle.jn_base.specs.declared.tree.Program.{Program}
use Rattle.jn_base.specs.declared.types.Anchor.TheVariants.{Up}
use Rattle.jn_base.specs.declared.types.Ty.TheVariants as ty
use Rattle.jn_base.specs.declared.refusal.Refusal.{Refusal}
use Rattle.jn_base.specs.declared.refusal.Rule.{Rule}
use Rattle.jn_base.specs.declared.refusal.Rule.TheVariants as rule
use Rattle.jn_base.specs.Paths.{Path, shown}
use Rattle.jn_base.specs.Parts.{expr, link, suffix}
use Rattle.jn_base.specs.Scopes.{Scope}
use Rattle.jn_base.specs.Universe.{InUniverse}
use Rattle.jn_base.specs.ResolveTypes.{mask_names}
use Rattle.jn_base.specs.TableRules.{at_home, unknown_at}
use Rattle.jn_base.specs.ExampleTrees.{line, word}
use Rattle.jn_base.specs.FamiliesExample.{families, base, Lit, Add, shower}
use Rattle.jn_base.specs.ResolveExamples.{vars, term, p as p_name, q as q_name, show}
use Rattle.jn_base.specs.SmallExamples.{conflicting, d, E, n}
use Rattle.jn_base.specs.VerdictExamples.{A, B, AB, C, D, circular, mixed, missing}
use Rattle.jn_sem.specs.Values.{Masked}
use Rattle.jn_sem.specs.NotFamily.{Listed, Lacks, not_family}
use Rattle.jn_sem.specs.Does.{Body}
use Rattle.jn_rules.specs.Plans.{FoundField, Target, Pledge, Plan}
use Rattle.jn_rules.specs.Questions.{header_site, ConstraintGives, masks_of, Gives}
use Rattle.jn_rules.specs.Headers.{listed_asked}
use Rattle.jn_rules.specs.Exprs.{Here, Typed, of_name, of_class, first_bound, no_view, field_gives, unmasked, constraints_granted, viewed, is_null_type}
use Rattle.jn_rules.specs.Stmts.{Before, In, stmt_types, body_types}
use Rattle.jn_rules.specs.Members.{of_member, MethodRefused}
use Rattle.jn_rules.specs.Verdict.{no_main, TreePasses, TreeRefuses}
use Rattle.jn_rule_rows.specs.OneMain.{Main, main, x, f, main_with}

-- ---- class Main { void main() { .. } }, on one line

abbrev pub column : ℕ → Place
column k = record { line = 1; column = k }

abbrev pub named : Name → ℕ → Named
named m k = record { name = m; at = column k }

abbrev pub number : ℕ → ℕ → Expr
number z k = expr (column k) (node.Int (pos z))

abbrev pub truth : Bool → ℕ → Expr
truth b k = expr (column k) (node.Bool b)

-- this.m(..), with the `this` in column k and the name in column k + 5
abbrev pub call_this : Name → List Expr → ℕ → ℕ → Expr
call_this m es k j = expr (column k) (node.Post (expr (column k) node.This) (suffix m (column j) (Some es) ∷ []))

-- refused at a column, with the class Main and a member
abbrev pub shows : Rule → ℕ → Name → Refusal
shows rule k m = record { rule = rule; at = column k; class = Some (shown (Main ∷ [])); member = Some m; limit = None }

-- statements that several rows have
abbrev pub print : Expr → Stmt
print e = stmt.Print e (column 28)

abbrev pub sum_of : Expr → Link → Expr
sum_of e l = expr (column 34) (node.Chain level.Sum e (l ∷ []))

abbrev pub test_of : Expr → Link → Expr
test_of e l = expr (column 34) (node.Chain level.Equal e (l ∷ []))

abbrev pub int_x : (fixed : Bool) (column : ℕ) → Expr → Stmt
int_x fixed k e = stmt.Local fixed type.Int (named x k) e

abbrev pub Refuses : Stmt → List Stmt → Refusal → Type 0
Refuses s ss r = TreeRefuses (main_with (s ∷ ss)) r

pub record MainRows : Type 0 where
  -- an empty body is accepted, and so is `print(1);`
  pub empty : TreePasses (main_with [])
  pub prints : TreePasses (main_with (print (number 1 34) ∷ []))
  -- print(x);
  pub unknown : Refuses (print (expr (column 34) (node.Var x))) [] (shows rule.E06 34 x)
  -- int x = true;
  pub mismatch : Refuses (int_x false 32 (truth true 36)) [] (shows rule.E18 36 main)
  -- final int x = 1; x = 2;
  pub assigned : Refuses (int_x true 38 (number 1 42)) (stmt.Assign (named x 45) (number 2 49) ∷ [])
      (shows rule.E24 45 x)
  -- return 1;
  pub returns : Refuses (stmt.Return (Some (number 1 35)) (column 28)) [] (shows rule.E18 28 main)
  -- while (1) { }
  pub condition : Refuses (stmt.While (number 1 35) [] (column 28)) [] (shows rule.E18 35 main)
  -- print(null);
  pub printed : Refuses (print (expr (column 34) node.Null)) [] (shows rule.E18 34 main)
  -- print(1 + true);
  pub operand : Refuses (print (sum_of (number 1 34) (link op.Add (column 36) (truth true 38)))) []
      (shows rule.E18 38 main)
  -- print(1 == true);
  pub equal : Refuses (print (test_of (number 1 34) (link op.Eq (column 36) (truth true 39)))) []
      (shows rule.E18 36 main)
  -- this.f();
  pub no_member : Refuses (stmt.Do (call_this f [] 28 33)) [] (shows rule.E16 33 f)
  -- this.main(1);
  pub arity : Refuses (stmt.Do (call_this main (number 1 38 ∷ []) 28 33)) [] (shows rule.E17 33 main)

-- `Main\f`, with the term at a column and the mask five further on
abbrev pub masked_main : ℕ → ℕ → TypeTerm
masked_main k j =
    type.Class (record { head = head.Plain; exact = []; names = Main ∷ []; at = column k } ∷ []) (named f j ∷ [])

pub record NameRows : Type 0 where
  -- int x = 1; int x = 2;
  pub twice : Refuses (int_x false 32 (number 1 36)) (int_x false 43 (number 2 47) ∷ []) (shows rule.E05 43 x)
  -- Main\f x = null;
  pub mask :
      Refuses (stmt.Local false (masked_main 28 33) (named x 35) (expr (column 39) node.Null)) [] (shows rule.E27 33 f)

-- ---- the class table

-- the empty file
abbrev pub nothing : Program
nothing = record { names = []; texts = []; decls = [] }

pub record TableRows : Type 0 where
  pub no_main : TreeRefuses nothing no_main
  -- package A { class C extends D { } class D { } }
  -- package B { class C { } class D extends C { } }
  -- package AB extends A & B { }
  pub cycle : TreeRefuses circular (at_home rule.E08 (C ∷ AB ∷ []) (line 3))
  -- package A { class C { } }
  -- package B extends A { package C { } }
  pub kinds : TreeRefuses mixed (at_home rule.E07 (C ∷ B ∷ []) (line 3))
  -- package A { class C extends D { } }
  pub parent : TreeRefuses missing (unknown_at (C ∷ A ∷ []) (word D))

-- ---- members

pub record MemberRows : Type 0 where
  -- package a { class E { int n() { .. } } }, and two heirs b and c that override n
  -- package d extends b & c { }
  pub conflict : MethodRefused conflicting (E ∷ d ∷ []) n (of_member rule.E09 (E ∷ d ∷ []) (line 4) n)

-- ---- types in the body of shower.Add's method show, with final base.Exp p and base.Exp q in scope

abbrev pub in_show : In
in_show = record {
  class = Add ∷ shower ∷ [];
  method = record { result = None; name = word show; params = []; sharing = []; body = [] };
  result = ty.Void;
}

abbrev pub with_p_q : Scope → Before
with_p_q s = record { vars = vars.list; scope = s; next = 3 }

-- `T x = null;` for a term T, with what is refused of it
abbrev pub TypeRefused : Scope → Term → Rule → Type 0
TypeRefused s t r =
    Gives families
    (stmt_types in_show (stmt.Local false (type.Class (t ∷ []) []) (word x) (expr (line 1) node.Null)) (with_p_q s))
    (Err (record { rule = r; at = t.at; class = Some (shown (Add ∷ shower ∷ [])); member = Some show; limit = None }))

pub record TypeRows (s : Scope) : Type 0 where
  -- q.class, since q is not final
  pub no_path : TypeRefused s (term (head.Own (ref.Var q_name)) [] []) rule.E14
  -- shower[p.class].Lit, since shower is no super of p's class
  pub not_above : TypeRefused s (term (head.Prefix (shower ∷ []) (ref.Var p_name)) [] (Lit ∷ [])) rule.E15
  -- base, a package
  pub package_type : TypeRefused s (term head.Plain [] (base ∷ [])) rule.E22

-- ---- forms, in any program

-- int m() { .. }
abbrev pub int_method : Name → List Stmt → Method
int_method m ss = record { result = Some type.Int; name = word m; params = []; sharing = []; body = ss }

abbrev pub without_return : Path → Name → List Stmt → Body
without_return Q m ss =
    record { class = Q; method = int_method m ss }

pub record FormRows (p : Program) : Type 0 where
  -- a method with a result whose body is empty, or a loop that returns
  pub empty_body : (Q : Path) (m : Name)
      → Gives p (body_types (without_return Q m [])) (Err (of_member rule.E23 Q (line 1) m))
  -- a read of a masked field, and a call on a receiver with a mask
  pub masked : (g : Named) (t : Typed) (c : FoundField) → Masked (mask_names p) (masks_of t.ty) g.name
      → Gives p (field_gives g t c) (Err (of_class rule.E19 (first_bound t) g g.name))
  pub masked_call : (t : Typed) (m : Named) (g : Name) (go : Plan Typed)
      → Gives p (unmasked t m go (Some g)) (Err (of_class rule.E19 (first_bound t) m g))
  -- a view whose target hangs on a path, in a method without constraints
  pub no_grant : (h : Here) (at : Place) (u : Target) (t : Typed) (q k : ℕ) → h.method.sharing ≡ []
      → is_null_type t.ty ≡ false
      → u.atom.anchor ≡ Up q k → Gives p (viewed h at u t) (Err (no_view at))
  -- a `super` call of a body with a constraint, from a method without one
  pub no_pledge : (h : Here) (b : Body) (m : Named) (s : Scope) (c : Constraint) (cs : List Constraint) (k : Pledge)
      (go : Plan Typed)
      → h.method.sharing ≡ [] → ConstraintGives p (header_site b.class b.method.name.name) c (Ok k)
      → Gives p (constraints_granted h b m s (c ∷ cs) go) (Err (of_name rule.E25 h m.at m.name))
  -- a listed name that is a top-level name and no family that may stand there
  pub no_family : (n : Listed) → InUniverse p (n.name.name ∷ []) → Lacks p n
      → Gives p (listed_asked n) (Err (not_family n))

abbrev pub TypesRefused : Type 0
TypesRefused = (s : Scope) → TypeRows s

abbrev pub FormsRefused : Type 0
FormsRefused = (p : Program) → FormRows p
