use Rattle.std.proofs.Common.{◌+◌, [], ◌∷◌, ◌++◌, List, length, ap, sym, ◌∙◌, arith, subst}
use Rattle.std.proofs.lemmas.List.{length-append}
use Rattle.jn_code.specs.declared.kind.OperandKind.{OperandKind}
use Rattle.jn_verify.specs.declared.tails.Node.{Node}
use Rattle.jn_verify.specs.Tails.{list_at}
use Rattle.jn_verify.specs.Shared.{lists_of, AreNodes}
use Rattle.jn_verify.proofs.Sharing.{lists_long, lists_more, nodes_more}
use Rattle.jn_verify.proofs.tails.Tails.push.Goals as goal

pub overflow_cast-result : goal.overflow_cast-result
overflow_cast-result c =
    let xs = c.self.inside.nodes.items in
    let l = ap (λ (ls : List (List OperandKind)). length ls) c.self.view_is in
    let m = lists_long xs in
    let e = ap length c.in_ok-push.ensures.items in
    let a = length-append xs (record { kind = c.args.kind; below = c.args.n; height = c.height.result + 1 } ∷ []) in
    let f = c.requires.few in
    let n = c.len.ensures in
    omega arith

pub invariant_of-self-2 : goal.invariant_of-self-2
invariant_of-self-2 c =
    let xs = c.self.inside.nodes.items in
    let node : Node = record { kind = c.args.kind; below = c.args.n; height = c.height.result + 1 } in
    let l = ap (λ (ls : List (List OperandKind)). length ls) c.self.view_is in
    let m = lists_long xs in
    let r = c.requires.there in
    let h = c.height.ensures.length in
    let v = ap (λ (ls : List (List OperandKind)). length (list_at ls c.args.n)) c.self.view_is in
    let low = c.height.ensures.low in
    subst AreNodes (sym c.in_ok-push.ensures.items) (nodes_more xs node c.self.invariant (omega arith) (omega arith) (omega arith))

pub returns-clause-number : goal.returns-clause-number
returns-clause-number c =
    let xs = c.self.inside.nodes.items in
    let l = ap (λ (ls : List (List OperandKind)). length ls) c.self.view_is in
    let m = lists_long xs in
    let e = ap length c.in_ok-push.ensures.items in
    let a = length-append xs (record { kind = c.args.kind; below = c.args.n; height = c.height.result + 1 } ∷ []) in
    let n = c.len.ensures in
    omega arith

pub returns-clause-pushed : goal.returns-clause-pushed
returns-clause-pushed c =
    let xs = c.self.inside.nodes.items in
    let node : Node = record { kind = c.args.kind; below = c.args.n; height = c.height.result + 1 } in
    ap lists_of c.in_ok-push.ensures.items ∙ lists_more xs node ∙ ap (λ (ls : List (List OperandKind)). ls ++ (c.args.kind ∷ list_at ls c.args.n) ∷ []) c.self.view_is
