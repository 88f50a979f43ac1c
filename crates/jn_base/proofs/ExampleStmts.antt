-- Worked statements: each form that begins with a name.
use Rattle.std.specs.Prelude.{false, [], ◌∷◌, Some, None}
use Rattle.jn_base.specs.declared.tree.Node.TheVariants as node
use Rattle.jn_base.specs.declared.tree.Head.TheVariants as head
use Rattle.jn_base.specs.declared.tree.Ref.TheVariants as ref
use Rattle.jn_base.specs.declared.tree.TypeTerm.TheVariants as type_term
use Rattle.jn_base.specs.declared.tree.Stmt.TheVariants as stmt
use Rattle.jn_base.specs.declared.word.Keyword.TheVariants as keyword
use Rattle.jn_base.specs.declared.word.Mark.TheVariants as marks
use Rattle.jn_base.specs.declared.tree.Suffix.{the_lemmas}
use Rattle.jn_base.specs.Parts.{Atom, Local, part, key, mark, name, text, opening, new_name, named, term, expr, suffix}
use Rattle.jn_base.specs.GrammarTypes.{one_name, more_names, loose, tail, variable as variable_of, plain, own, no_mask, mask, last_atom, then_atom, class}
use Rattle.jn_base.specs.GrammarExpr.{field, call, no_suffix, then_suffix, post, no_arg, called as is_called}
use Rattle.jn_base.specs.GrammarStmt.{not_final, IsStmt, local, assign, set_field, act, print_text, choice, otherwise, no_stmt, then_stmt}
use Rattle.jn_base.proofs.ExampleWords.{called, at, var_prim, var_expr, by_name}
use Rattle.jn_base.proofs.ExampleExprs.{prefix_term}

-- x = y;
pub assigned : IsStmt 0 0 (name (called 0) (at 1) ∷ mark marks.Equals (at 3) ∷ name (called 1) (at 5) ∷ mark marks.Semicolon (at 6) ∷ [])
    (stmt.Assign (named (called 0) (at 1)) (expr (at 5) (node.Var (called 1)))) 0
assigned = assign {x = called 0} {p = at 1} {o = at 3} (at 6) (var_expr 0 1 5)

-- a.b = y;
pub field_set : IsStmt 0 0
    (name (called 0) (at 1) ∷ mark marks.Dot (at 2) ∷ name (called 1) (at 3) ∷ mark marks.Equals (at 5) ∷ name (called 2) (at 7) ∷ mark marks.Semicolon (at 8) ∷ [])
    (stmt.Set (expr (at 1) (node.Var (called 0))) (named (called 1) (at 3)) (expr (at 7) (node.Var (called 2)))) 0
field_set = set_field {x = called 1} (at 2) (at 3) (at 5) (at 8) (post (var_prim 0 0 1) no_suffix) (var_expr 0 2 7)

-- a.b.c = y;
pub deep_set : IsStmt 0 0
    (name (called 0) (at 1) ∷ mark marks.Dot (at 2) ∷ name (called 1) (at 3) ∷ mark marks.Dot (at 4) ∷ name (called 2) (at 5) ∷ mark marks.Equals (at 7) ∷ name (called 3) (at 9)
    ∷ mark marks.Semicolon (at 10) ∷ [])
    (stmt.Set (expr (at 1) (node.Post (expr (at 1) (node.Var (called 0))) (suffix (called 1) (at 3) None ∷ []))) (named (called 2) (at 5)) (expr (at 9) (node.Var (called 3)))) 0
deep_set = set_field {x = called 2} (at 4) (at 5) (at 7) (at 10)
    (post (var_prim 0 0 1) (then_suffix (field {x = called 1} {o = at 2} {p = at 3}) no_suffix)) (var_expr 0 3 9)

-- a.m();
pub call_done : IsStmt 0 0
    (name (called 0) (at 1) ∷ mark marks.Dot (at 2) ∷ name (called 1) (at 3) ∷ opening 0 marks.OpenParen (at 4) ∷ mark marks.CloseParen (at 5) ∷ mark marks.Semicolon (at 6) ∷ [])
    (stmt.Do (expr (at 1) (node.Post (expr (at 1) (node.Var (called 0))) (suffix (called 1) (at 3) (Some []) ∷ [])))) 0
call_done = act (at 6) (is_called (var_prim 0 0 1) (then_suffix (call {x = called 1} {o = at 2} {p = at 3} {q = at 4} (at 5) no_arg) no_suffix) (simp the_lemmas))

-- A x = y; the first local of its body
pub one_local : IsStmt 0 0
    (part (name (called 0) (at 1)).word (at 1) (Atom 1) ∷ new_name (Local 1) (called 1) (at 3) ∷ mark marks.Equals (at 5) ∷ name (called 2) (at 7) ∷ mark marks.Semicolon (at 8) ∷ [])
    (stmt.Local false (type_term.Class (term head.Plain [] (called 0 ∷ []) (at 1) ∷ []) []) (named (called 1) (at 3)) (expr (at 7) (node.Var (called 2)))) 1
one_local = local {x = called 1} {p = at 3} (at 5) (at 8) not_final (class (last_atom (by_name 0 0 1)) no_mask) (var_expr 0 2 7)

-- A.B x = y; the fifth
pub dotted_local : IsStmt 0 4
    (part (name (called 0) (at 1)).word (at 1) (Atom 1) ∷ mark marks.Dot (at 2) ∷ name (called 1) (at 3) ∷ new_name (Local 5) (called 2) (at 5) ∷ mark marks.Equals (at 7) ∷ name (called 3) (at 9)
    ∷ mark marks.Semicolon (at 10) ∷ [])
    (stmt.Local false (type_term.Class (term head.Plain [] (called 0 ∷ called 1 ∷ []) (at 1) ∷ []) []) (named (called 2) (at 5)) (expr (at 9) (node.Var (called 3)))) 5
dotted_local = local {x = called 2} {p = at 5} (at 7) (at 10) not_final
    (class (last_atom (plain {d = 0} (loose (more_names {x = called 0} {p = at 1} {q = at 3} (at 2) (one_name {x = called 1}))))) no_mask) (var_expr 0 3 9)

-- P[p.class].T x = y;
pub prefix_local : IsStmt 0 0
    (part (name (called 0) (at 1)).word (at 1) (Atom 1) ∷ opening 0 marks.OpenBracket (at 2) ∷ name (called 1) (at 3) ∷ mark marks.Dot (at 4) ∷ key keyword.Class (at 5)
    ∷ mark marks.CloseBracket (at 10) ∷ mark marks.Dot (at 11) ∷ name (called 2) (at 12) ∷ new_name (Local 1) (called 3) (at 14) ∷ mark marks.Equals (at 16) ∷ name (called 4) (at 18)
    ∷ mark marks.Semicolon (at 19) ∷ [])
    (stmt.Local false (type_term.Class (term (head.Prefix (called 0 ∷ []) (ref.Var (called 1))) [] (called 2 ∷ []) (at 1) ∷ []) []) (named (called 3) (at 14)) (expr (at 18) (node.Var (called 4)))) 1
prefix_local = local {x = called 3} {p = at 14} (at 16) (at 19) not_final (class (last_atom prefix_term) no_mask) (var_expr 0 4 18)

-- a.class.T x = y;
pub own_local : IsStmt 0 0
    (part (name (called 0) (at 1)).word (at 1) (Atom 1) ∷ mark marks.Dot (at 2) ∷ key keyword.Class (at 3) ∷ mark marks.Dot (at 8) ∷ name (called 1) (at 9) ∷ new_name (Local 1) (called 2) (at 11)
    ∷ mark marks.Equals (at 13) ∷ name (called 3) (at 15) ∷ mark marks.Semicolon (at 16) ∷ [])
    (stmt.Local false (type_term.Class (term (head.Own (ref.Var (called 0))) [] (called 1 ∷ []) (at 1) ∷ []) []) (named (called 2) (at 11)) (expr (at 15) (node.Var (called 3)))) 1
own_local = local {x = called 2} {p = at 11} (at 13) (at 16) not_final
    (class (last_atom (own {d = 0} (at 2) (at 3) (variable_of {x = called 0} {p = at 1}) (tail {o = at 8} (loose (one_name {x = called 1} {p = at 9}))))) no_mask) (var_expr 0 3 15)

-- A & B\f x = y;
pub masked_local : IsStmt 0 0
    (part (name (called 0) (at 1)).word (at 1) (Atom 1) ∷ mark marks.Ampersand (at 3) ∷ part (name (called 1) (at 5)).word (at 5) (Atom 2) ∷ mark marks.Backslash (at 6) ∷ name (called 2) (at 7)
    ∷ new_name (Local 1) (called 3) (at 9) ∷ mark marks.Equals (at 11) ∷ name (called 4) (at 13) ∷ mark marks.Semicolon (at 14) ∷ [])
    (stmt.Local false (type_term.Class (term head.Plain [] (called 0 ∷ []) (at 1) ∷ term head.Plain [] (called 1 ∷ []) (at 5) ∷ []) (named (called 2) (at 7) ∷ []))
    (named (called 3) (at 9)) (expr (at 13) (node.Var (called 4)))) 1
masked_local = local {x = called 3} {p = at 9} (at 11) (at 14) not_final
    (class (then_atom (at 3) (by_name 0 0 1) (last_atom (by_name 0 1 5))) (mask {x = called 2} {o = at 6} {p = at 7} no_mask)) (var_expr 0 4 13)

-- if (a) { print("..."); } else { }: the empty block is none
pub no_second_block : IsStmt 0 0
    (key keyword.If (at 1) ∷ opening 0 marks.OpenParen (at 4) ∷ name (called 0) (at 5) ∷ mark marks.CloseParen (at 6) ∷ opening 0 marks.OpenBrace (at 8) ∷ key keyword.Print (at 10)
    ∷ opening 1 marks.OpenParen (at 15) ∷ text 0 (at 16) ∷ mark marks.CloseParen (at 21) ∷ mark marks.Semicolon (at 22) ∷ mark marks.CloseBrace (at 24) ∷ key keyword.Else (at 26)
    ∷ opening 0 marks.OpenBrace (at 31) ∷ mark marks.CloseBrace (at 33) ∷ [])
    (stmt.If (expr (at 5) (node.Var (called 0))) (stmt.PrintText 0 (at 10) ∷ []) [] (at 1)) 0
no_second_block = choice {p = at 1} {o = at 4} (at 6) (at 8) (at 24) (var_expr 1 0 5)
    (then_stmt (print_text {d = 1} {k = 0} {n = 0} {p = at 10} {o = at 15} {q = at 16} {c = at 21} {s = at 22}) no_stmt)
    (otherwise {p = at 26} {o = at 31} (at 33) no_stmt)
