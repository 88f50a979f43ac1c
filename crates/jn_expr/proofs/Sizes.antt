-- What stands behind a first operand or receiver is smaller than the whole.
use Rattle.std.proofs.Common.{◌≡◌, ◌≤◌, ℕ, suc, List, ap, arith}
use denote.Param.Weighed.{most}
use Rattle.jn_base.specs.declared.tree.Level.{Level}
use Rattle.jn_base.specs.declared.tree.Expr.{Expr, size_is-Expr}
use Rattle.jn_base.specs.declared.tree.Node.{size-Node}
use Rattle.jn_base.specs.declared.tree.Node.TheVariants as node
use Rattle.jn_base.specs.declared.tree.Node.TheViews.{sized-Post, sized-Chain}
use Rattle.jn_base.specs.declared.tree.Link.{Link}
use Rattle.jn_base.specs.declared.tree.Suffix.{Suffix}
use Rattle.jn_base.proofs.tree.Expr.TheLaws.{the_size as expr_size}
use Rattle.jn_base.proofs.tree.Link.TheLaws.{the_size as link_size}
use Rattle.jn_base.proofs.tree.Suffix.TheLaws.{the_size as suffix_size}

node_below : (e : Expr) → suc (size-Node e.node) ≤ expr_size e
node_below e = grind (arith, size_is-Expr)

post_size : (f : Expr) (ss : List Suffix) → suc (most suffix_size ss) ≤ size-Node (node.Post f ss)
post_size f ss = grind (arith, sized-Post)

chain_size : (l : Level) (f : Expr) (ls : List Link) → suc (most link_size ls) ≤ size-Node (node.Chain l f ls)
chain_size l f ls = grind (arith, sized-Chain)

pub post_below : (e f : Expr) (ss given : List Suffix) → e.node ≡ node.Post f ss → given ≡ ss → suc (most suffix_size given) ≤ expr_size e
post_below e f ss given is same = omega (arith, node_below e, ap size-Node is, post_size f ss, ap (most suffix_size) same)

pub chain_below : (e : Expr) (l : Level) (f : Expr) (ls given : List Link) → e.node ≡ node.Chain l f ls → given ≡ ls → suc (most link_size given) ≤ expr_size e
chain_below e l f ls given is same = omega (arith, node_below e, ap size-Node is, chain_size l f ls, ap (most link_size) same)
