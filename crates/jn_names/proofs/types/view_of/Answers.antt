use Rattle.std.proofs.Common.{Result, ◌∷◌, [], List, subst}
use Rattle.jn_base.specs.declared.tree.Named.{Named}
use Rattle.jn_base.specs.declared.tree.Program.{Program}
use Rattle.jn_base.specs.declared.types.Atom.{Atom}
use Rattle.jn_base.specs.declared.types.Ty.{Ty}
use Rattle.jn_base.specs.declared.refusal.Refusal.{Refusal}
use Rattle.jn_base.specs.Resolve.{Resolve}
use Rattle.jn_base.specs.ResolveTypes.{ResolveView, MasksGive, bounds_at, may_mask}
use Rattle.jn_table.specs.Tables.{IsFilled}
use Rattle.jn_names.proofs.Answering.{passing, told_weaker}
use Rattle.jn_names.proofs.TypeProof.{view_given, view_refused}
use Rattle.jn_names.proofs.types.view_of.Goals as goal

pub returns-in-Err : goal.returns-in-Err
returns-in-Err c =
    let T : Result Atom Refusal → Type 0 =
    λ o. (p : Program) → IsFilled p c.args.t.now → Resolve p c.args.spot.now c.args.vars.now c.args.view.now.term o in
    let U : Result Ty Refusal → Type 0 =
    λ o. (p : Program) → IsFilled p c.args.t.now
    → ResolveView p c.args.names.now c.args.spot.now c.args.vars.now c.args.view.now o in
    passing T U c.in-Err.fault
    (λ r h p f. view_refused p c.args.names.now c.args.spot.now c.args.vars.now c.args.view.now.term
    c.args.view.now.masks r (h p f))
    c.in-Err.ensures

pub returns-in-Ok : goal.returns-in-Ok
returns-in-Ok c =
    let T : Result Ty Refusal → Type 0 =
    λ o. (p : Program) → IsFilled p c.args.t.now
    → MasksGive p c.args.names.now c.args.spot.now (bounds_at c.args.spot.now c.args.vars.now (c.in-Ok.x ∷ []))
    (c.in-Ok.x ∷ []) c.as_slice.result.now (may_mask c.args.spot.now.role) o in
    let U : Result Ty Refusal → Type 0 =
    λ o. (p : Program) → IsFilled p c.args.t.now
    → ResolveView p c.args.names.now c.args.spot.now c.args.vars.now c.args.view.now o in
    told_weaker T U c.single.result
    (λ o h p f. view_given p c.args.names.now c.args.spot.now c.args.vars.now c.args.view.now.term c.args.view.now.masks
    c.in-Ok.x o (c.in-Ok.ensures p f)
    (subst (λ (ms : List Named). MasksGive p c.args.names.now c.args.spot.now
    (bounds_at c.args.spot.now c.args.vars.now (c.in-Ok.x ∷ [])) (c.in-Ok.x ∷ []) ms (may_mask c.args.spot.now.role) o)
    c.as_slice.ensures (h p f)))
    c.single.ensures
