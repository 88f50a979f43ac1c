use Rattle.std.proofs.Common.{arith}
use Rattle.std.proofs.lemmas.Grind.{common_steps}
use Rattle.jn_printer.proofs.Bare.{bare_new, bare_super, bare_post, bare_inverse, bare_negative, bare_view, bare_chain}
use Rattle.jn_printer.proofs.exprs.+print.Goals as goal

pub print_node-returns-in_ok-print_term-in-New : goal.print_node-returns-in_ok-print_term-in-New
print_node-returns-in_ok-print_term-in-New t c = grind (arith, common_steps, bare_new c.args.names.now c.in-New.term c.in-New.args)

pub print_node-returns-in_ok-print_name-in-Super : goal.print_node-returns-in_ok-print_name-in-Super
print_node-returns-in_ok-print_name-in-Super t c = grind (arith, common_steps, bare_super c.args.names.now c.in-Super.term c.in-Super.name c.in-Super.args)

pub print_node-returns-in_ok-print_expr-in-Post : goal.print_node-returns-in_ok-print_expr-in-Post
print_node-returns-in_ok-print_expr-in-Post t c = grind (arith, common_steps, bare_post c.args.names.now c.in-Post.first c.in-Post.suffixes)

pub print_node-returns-in_ok-put-in-Not : goal.print_node-returns-in_ok-put-in-Not
print_node-returns-in_ok-put-in-Not t c = grind (arith, common_steps, bare_inverse c.args.names.now c.in-Not.inner)

pub print_node-returns-in_ok-put-in-Neg : goal.print_node-returns-in_ok-put-in-Neg
print_node-returns-in_ok-put-in-Neg t c = grind (arith, common_steps, bare_negative c.args.names.now c.in-Neg.inner)

pub print_node-returns-in_ok-put-in-View-2 : goal.print_node-returns-in_ok-put-in-View-2
print_node-returns-in_ok-put-in-View-2 t c = grind (arith, common_steps, bare_view c.args.names.now c.in-View.view c.in-View.inner)

pub print_node-returns-in_ok-print_expr-in-Chain : goal.print_node-returns-in_ok-print_expr-in-Chain
print_node-returns-in_ok-print_expr-in-Chain t c = grind (arith, common_steps, bare_chain c.args.names.now c.in-Chain.level c.in-Chain.first c.in-Chain.links)
