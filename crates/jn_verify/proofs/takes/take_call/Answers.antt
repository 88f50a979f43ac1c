use Rattle.std.proofs.Common.{ℕ, List, Option, Some, None, sym, subst}
use Rattle.jn_code.specs.declared.kind.OperandKind.{OperandKind}
use Rattle.jn_code.specs.declared.kind.OperandKind.TheVariants as kind
use Rattle.jn_code.specs.Kinds.{each_some, arguments_of, one}
use Rattle.jn_code.proofs.Obeyed.{each_both}
use Rattle.jn_verify.specs.Tails.{IsTaken}
use Rattle.jn_verify.proofs.Taken.{taken_none, taken_more}
use Rattle.jn_verify.proofs.takes.take_call.Goals as goal

pub returns-in-None : goal.returns-in-None
returns-in-None c =
    let ls = c.args.tails.now in
    let args = arguments_of c.args.image.now c.args.selector in
    let none : IsTaken ls (each_some args) c.args.n None = subst (λ (r : Option ℕ). IsTaken ls (each_some args) c.args.n r) c.in-None.is c.take_arguments.ensures in
    subst (λ (ws : List (Option OperandKind)). IsTaken ls ws c.args.n None) (sym (each_both args (one kind.Reference))) (taken_none ls (each_some args) (each_some (one kind.Reference)) c.args.n none)

pub returns-in-Some : goal.returns-in-Some
returns-in-Some c =
    let ls = c.args.tails.now in
    let args = arguments_of c.args.image.now c.args.selector in
    let some : IsTaken ls (each_some args) c.args.n (Some c.in-Some.below) = subst (λ (r : Option ℕ). IsTaken ls (each_some args) c.args.n r) c.in-Some.is c.take_arguments.ensures in
    subst (λ (ws : List (Option OperandKind)). IsTaken ls ws c.args.n c.take_one.result) (sym (each_both args (one kind.Reference))) (taken_more ls (each_some args) (one (Some kind.Reference)) c.args.n c.in-Some.below c.take_one.result some c.take_one.ensures)
