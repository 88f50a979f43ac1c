use Rattle.std.proofs.Common.{◌+◌, ◌∙◌, ◌∷◌, [], ap, length, subst, sym, List, Result}
use Rattle.std.proofs.lemmas.List.{length-append}
use Rattle.jn_base.specs.declared.tree.Program.{Program}
use Rattle.jn_base.specs.declared.types.Atom.{Atom}
use Rattle.jn_base.specs.declared.refusal.Refusal.{Refusal}
use Rattle.jn_base.specs.Resolve.{Resolve}
use Rattle.jn_base.specs.ResolveTypes.{ResolveAll}
use Rattle.jn_table.specs.Tables.{IsFilled}
use Rattle.jn_names.proofs.Answering.{passing}
use Rattle.jn_names.proofs.TypeProof.{AtomsTo, atoms_start, atoms_more, atoms_refused, atoms_all}
use Rattle.jn_names.proofs.types.atoms_of.Goals as goal

pub loop-term-init : goal.loop-term-init
loop-term-init c = record {
  told =
      λ p f. subst (AtomsTo p c.args.spot.now c.args.vars.now c.args.terms.now 0) (sym c.new-atoms.ensures)
      (atoms_start p c.args.spot.now c.args.vars.now c.args.terms.now);
  long = ap length c.new-atoms.ensures;
}

pub returns-in-Err-clause-told : goal.returns-in-Err-clause-told
returns-in-Err-clause-told c =
    let T : Result Atom Refusal → Type 0 =
    λ o. (p : Program) → IsFilled p c.args.t.now → Resolve p c.args.spot.now c.args.vars.now c.term-item.result o in
    let U : Result (List Atom) Refusal → Type 0 =
    λ o. (p : Program) → IsFilled p c.args.t.now → ResolveAll p c.args.spot.now c.args.vars.now c.args.terms.now o in
    passing T U c.in-Err.fault
    (λ r h p f. atoms_refused p c.args.spot.now c.args.vars.now c.args.terms.now c.loop-term.term-index
    c.term-item.result c.loop-term.atoms r c.loop-term-test.true c.term-item.is (c.loop-term.invariant.told p f)
    (h p f))
    c.in-Err.ensures

pub loop-term-preserved : goal.loop-term-preserved
loop-term-preserved c = record {
  told =
      λ p f. subst (AtomsTo p c.args.spot.now c.args.vars.now c.args.terms.now (c.loop-term.term-index + 1))
      (sym c.in_ok-push-in-Ok.ensures.ok)
      (atoms_more p c.args.spot.now c.args.vars.now c.args.terms.now c.loop-term.term-index c.term-item.result
      c.loop-term.atoms c.in-Ok.x c.loop-term-test.true c.term-item.is (c.loop-term.invariant.told p f)
      (c.in-Ok.ensures p f));
  long =
      ap length c.in_ok-push-in-Ok.ensures.ok
      ∙ (length-append c.loop-term.atoms (c.in-Ok.x ∷ []) ∙ ap (λ n. n + 1) c.loop-term.invariant.long);
}

pub returns-clause-told : goal.returns-clause-told
returns-clause-told c =
    λ p f. atoms_all p c.args.spot.now c.args.vars.now c.args.terms.now c.loop-term.term-index c.loop-term.atoms
    c.loop-term-test.false (c.loop-term.invariant.told p f)
