use Rattle.std.proofs.Common.{arith}
use Rattle.std.proofs.lemmas.Grind.{common_steps}
use Rattle.jn_printer.proofs.StmtTexts.{local_text, assign_text, set_text, do_text, if_text, while_text, return_text, print_text, string_text}
use Rattle.jn_printer.proofs.stmts.+stmt.Goals as goal

pub print_stmt-returns-in_ok-print_expr-in-Local : goal.print_stmt-returns-in_ok-print_expr-in-Local
print_stmt-returns-in_ok-print_expr-in-Local t c =
    grind (arith, common_steps, local_text c.args.names.now c.args.texts.now c.in-Local.fixed c.in-Local.ty c.in-Local.name c.in-Local.e c.args.indent.now)

pub print_stmt-returns-in_ok-print_expr-in-Assign : goal.print_stmt-returns-in_ok-print_expr-in-Assign
print_stmt-returns-in_ok-print_expr-in-Assign t c =
    grind (arith, common_steps, assign_text c.args.names.now c.args.texts.now c.in-Assign.name c.in-Assign.e c.args.indent.now)

pub print_stmt-returns-in_ok-print_expr-in-Set-2 : goal.print_stmt-returns-in_ok-print_expr-in-Set-2
print_stmt-returns-in_ok-print_expr-in-Set-2 t c =
    grind (arith, common_steps, set_text c.args.names.now c.args.texts.now c.in-Set.of c.in-Set.name c.in-Set.e c.args.indent.now)

pub print_stmt-returns-in_ok-print_expr-in-Do : goal.print_stmt-returns-in_ok-print_expr-in-Do
print_stmt-returns-in_ok-print_expr-in-Do t c =
    grind (arith, common_steps, do_text c.args.names.now c.args.texts.now c.in-Do.e c.args.indent.now)

pub print_stmt-returns-in_ok-print_body-in-If : goal.print_stmt-returns-in_ok-print_body-in-If
print_stmt-returns-in_ok-print_body-in-If t c =
    grind (arith, common_steps, if_text c.args.names.now c.args.texts.now c.in-If.e c.in-If.body c.in-If.other c.in-If.field-3 c.args.indent.now)

pub print_stmt-returns-in_ok-put-in-While-2 : goal.print_stmt-returns-in_ok-put-in-While-2
print_stmt-returns-in_ok-put-in-While-2 t c =
    grind (arith, common_steps, while_text c.args.names.now c.args.texts.now c.in-While.e c.in-While.body c.in-While.field-2 c.args.indent.now)

pub print_stmt-returns-in_ok-print_given-in-Return : goal.print_stmt-returns-in_ok-print_given-in-Return
print_stmt-returns-in_ok-print_given-in-Return t c =
    grind (arith, common_steps, return_text c.args.names.now c.args.texts.now c.in-Return.e c.in-Return.field-1 c.args.indent.now)

pub print_stmt-returns-in_ok-print_expr-in-Print : goal.print_stmt-returns-in_ok-print_expr-in-Print
print_stmt-returns-in_ok-print_expr-in-Print t c =
    grind (arith, common_steps, print_text c.args.names.now c.args.texts.now c.in-Print.e c.in-Print.field-1 c.args.indent.now)

pub print_stmt-returns-in_ok-print_string-in-PrintText : goal.print_stmt-returns-in_ok-print_string-in-PrintText
print_stmt-returns-in_ok-print_string-in-PrintText t c =
    grind (arith, common_steps, string_text c.args.names.now c.args.texts.now c.in-PrintText.text c.in-PrintText.field-1 c.args.indent.now)
