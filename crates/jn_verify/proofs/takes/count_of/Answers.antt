use Rattle.std.proofs.Common.{◌≡◌, ◌+◌, ◌++◌, length, ap, sym, ◌∙◌, arith}
use Rattle.std.proofs.lemmas.List.{length-append}
use Rattle.jn_code.specs.declared.kind.OperandKind.TheVariants as kind
use Rattle.jn_code.specs.declared.instr.Instr.TheVariants as op
use Rattle.jn_code.specs.Kinds.{takes, arguments_of, one}
use Rattle.jn_code.proofs.Obeyed.{each_long}
use Rattle.jn_verify.proofs.takes.count_of.Goals as goal

pub returns-in-Ctor : goal.returns-in-Ctor
returns-in-Ctor c =
    let i = c.args.image.now in
    let e = each_long (arguments_of i c.in-Ctor.s) in
    let n = c.count_of_arguments.ensures.count in
    let t : c.count_of_arguments.result + 1 ≡ length (takes i c.args.code.now (op.Ctor c.in-Ctor.s)) = omega arith in
    t ∙ ap (λ x. length (takes i c.args.code.now x)) (sym c.in-Ctor.is)

pub returns-in-Call : goal.returns-in-Call
returns-in-Call c =
    let i = c.args.image.now in
    let s = c.in-Call.s in
    let e = each_long (arguments_of i s ++ one kind.Reference) in
    let l = length-append (arguments_of i s) (one kind.Reference) in
    let n = c.count_of_arguments-in-Call.ensures.count in
    let t : c.count_of_arguments-in-Call.result + 1 ≡ length (takes i c.args.code.now (op.Call s)) = omega arith in
    t ∙ ap (λ x. length (takes i c.args.code.now x)) (sym c.in-Call.is)

pub returns-in-Callat : goal.returns-in-Callat
returns-in-Callat c =
    let i = c.args.image.now in
    let s = c.in-Callat.s in
    let e = each_long (arguments_of i s ++ one kind.Reference) in
    let l = length-append (arguments_of i s) (one kind.Reference) in
    let n = c.count_of_arguments-in-Callat.ensures.count in
    let t : c.count_of_arguments-in-Callat.result + 2 ≡ length (takes i c.args.code.now (op.Callat s)) = omega arith in
    t ∙ ap (λ x. length (takes i c.args.code.now x)) (sym c.in-Callat.is)
