use Rattle.std.proofs.Common.{◌≡◌, List, length, ap, sym, ◌∙◌, arith, subst}
use Rattle.jn_code.specs.declared.kind.OperandKind.{OperandKind}
use Rattle.jn_verify.specs.Tails.{list_at}
use Rattle.jn_verify.proofs.Sharing.{no_list, lists_long, node_at}
use Rattle.jn_verify.proofs.tails.Tails.height.Goals as goal

pub returns-then-n-eq0-clause-length : goal.returns-then-n-eq0-clause-length
returns-then-n-eq0-clause-length c =
    ap length (sym (ap (list_at c.args.self.now) c.if-n-eq0.true ∙ ap (λ (ls : List (List OperandKind)). list_at ls 0) (sym c.self.view_is) ∙ no_list c.self.inside.nodes.items))

pub index-node-requires : goal.index-node-requires
index-node-requires c =
    let l = ap (λ (ls : List (List OperandKind)). length ls) c.self.view_is in
    let m = lists_long c.self.inside.nodes.items in
    let r = c.requires in
    let n = c.if-n-eq0.false in
    omega arith

pub returns-clause-length : goal.returns-clause-length
returns-clause-length c =
    let l = ap (λ (ls : List (List OperandKind)). length ls) c.self.view_is in
    let m = lists_long c.self.inside.nodes.items in
    let r = c.requires in
    let k = node_at c.self.inside.nodes.items c.args.n c.index-node.result.now c.self.invariant c.if-n-eq0.false (omega arith) c.index-node.ensures in
    subst (λ (ls : List (List OperandKind)). c.index-node.result.now.height ≡ length (list_at ls c.args.n)) c.self.view_is k.height

pub returns-clause-low : goal.returns-clause-low
returns-clause-low c =
    let l = ap (λ (ls : List (List OperandKind)). length ls) c.self.view_is in
    let m = lists_long c.self.inside.nodes.items in
    let r = c.requires in
    let k = node_at c.self.inside.nodes.items c.args.n c.index-node.result.now c.self.invariant c.if-n-eq0.false (omega arith) c.index-node.ensures in
    k.low
