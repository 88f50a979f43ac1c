use Rattle.std.proofs.Common.{ℕ, Option, subst}
use Rattle.std.specs.Prelude.{MatchOption}
use Rattle.std.proofs.lemmas.Result.{IfOk-weaker}
use Rattle.jn_base.specs.declared.tree.Program.{Program}
use Rattle.jn_base.specs.Resolve.{FoundOut, FoundNowhere}
use Rattle.jn_table.specs.Tables.{IsFilled}
use Rattle.jn_names.specs.Seeking.{told}
use Rattle.jn_names.proofs.Sought.{none_sought, as_sought}
use Rattle.jn_names.proofs.seek.sought.Goals as goal

pub returns-in-None : goal.returns-in-None
returns-in-None c = λ p f. none_sought p c.args.class.now c.args.names.now c.depth.result c.in-None.ensures.cases c.depth.ensures

pub returns-in-Some-2 : goal.returns-in-Some-2
returns-in-Some-2 c =
    let N = c.in-Some.name.now in
    let out : (p : Program) → IsFilled p c.args.t.now → FoundOut p c.args.class.now N c.in-Some-2.k =
    λ p f. subst (λ (o : Option ℕ). MatchOption o (FoundNowhere p c.args.class.now N)
    (λ k. FoundOut p c.args.class.now N k)) c.in-Some-2.is
    (c.in_ok-found_out-in-Some.ensures p f) in
    IfOk-weaker c.found_behind.result _ _
    (λ fd h p f. as_sought p c.args.class.now N c.in-Some.others.now c.args.names.now
    (told fd) c.in-Some.ensures.cases.0 (h p f (out p f)))
    c.found_behind.ensures
