use Rattle.std.proofs.Common.{sym, ◌∙◌, ap, slice_get, List}
use Rattle.jn_base.specs.declared.tree.Name.{Name}
use Rattle.jn_views.proofs.Targets.{target_exact, target_name, target_none}
use Rattle.jn_views.proofs.target.target.Goals as goal

pub returns-in-Some : goal.returns-in-Some
returns-in-Some c = target_exact c.args.to.now c.in-Some.name.now (ap (λ (ns : List Name). slice_get ns 0) (sym c.as_slice.ensures) ∙ sym c.in-Some.ensures)

pub returns-in-Some-at : goal.returns-in-Some-at
returns-in-Some-at c =
    target_name c.args.to.now c.in-Some-at.name.now (ap (λ (ns : List Name). slice_get ns 0) (sym c.as_slice.ensures) ∙ sym c.in-None.ensures)
    (ap (λ (ns : List Name). slice_get ns 0) (sym c.as_slice-in-None.ensures) ∙ sym c.in-Some-at.ensures)

pub returns-in-None-at : goal.returns-in-None-at
returns-in-None-at c =
    target_none c.args.to.now (ap (λ (ns : List Name). slice_get ns 0) (sym c.as_slice.ensures) ∙ sym c.in-None.ensures)
    (ap (λ (ns : List Name). slice_get ns 0) (sym c.as_slice-in-None.ensures) ∙ sym c.in-None-at.ensures)
