use Rattle.std.proofs.Common.{rules, ◌≡◌, ◌∙◌, ap, sym, subst, ℤ, to_z, of_z, w64}
use Rattle.jn_code.specs.declared.instr.Instr.{Instr}
use Rattle.jn_code.specs.declared.instr.Instr.TheVariants as op
use Rattle.jn_machine.specs.Does.{Does}
use Rattle.jn_machine.proofs.obey.obey.Goals as goal

pub returns-in-Int-clause-does : goal.returns-in-Int-clause-does
returns-in-Int-clause-does c =
    let e : to_z w64 (of_z w64 c.in-Int.z) ≡ c.in-Int.z = search rules in
    let i = c.args.image.now in
    let h = c.args.heap.now in
    let Ok : Instr → Type 0 = λ x. Does i h.limit x c.args.f.now h.words c.int.result c.int.new.f h.words in
    let int : ℤ → Instr = λ z. op.Int z in
    subst Ok (ap int e ∙ sym c.in-Int.is) (c.int.ensures.does i h.limit h.words)
