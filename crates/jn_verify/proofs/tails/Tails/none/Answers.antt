use Rattle.std.proofs.Common.{List, length, ap, sym, ◌∙◌, arith}
use Rattle.jn_code.specs.declared.kind.OperandKind.{OperandKind}
use Rattle.jn_verify.specs.Tails.{list_at}
use Rattle.jn_verify.proofs.Sharing.{no_list, lists_long}
use Rattle.jn_verify.proofs.tails.Tails.none.Goals as goal

pub returns-clause-empty : goal.returns-clause-empty
returns-clause-empty c =
    ap (λ (ls : List (List OperandKind)). list_at ls 0) (sym c.self.view_is) ∙ no_list c.self.inside.nodes.items

pub returns-clause-there : goal.returns-clause-there
returns-clause-there c =
    let l = ap (λ (ls : List (List OperandKind)). length ls) c.self.view_is in
    let m = lists_long c.self.inside.nodes.items in
    omega arith
