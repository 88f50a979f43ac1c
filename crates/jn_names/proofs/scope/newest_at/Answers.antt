use Rattle.std.proofs.Common.{◌≡◌, Some, sym, ap, ◌∙◌, refl, length, slice_get}
use Rattle.std.proofs.lemmas.Option.{slice_get_read}
use Rattle.jn_base.specs.declared.names.Var.{Var}
use Rattle.jn_names.proofs.ScopedProof.{newest_none, found_here, found_before, within_all, newest_all}
use Rattle.jn_names.proofs.scope.newest_at.Goals as goal
use Rattle.jn_names.proofs.scope.newest_at.Goals.{then-vars-i, else-vars-i}

pub loop-i-init : goal.loop-i-init
loop-i-init c = record { within = tt; newest = newest_none c.args.vars.now c.args.path }

pub loop-i-preserved : goal.loop-i-preserved
loop-i-preserved c =
    let v : Var = c.index-vars-i.result in
    let at : slice_get c.args.vars.now c.loop-i.i ≡ Some v = slice_get_read c.args.vars.now (length c.args.vars.now)
    c.loop-i.i v refl c.loop-i-test.true c.index-vars-i.is in
    let here = found_here c.args.vars.now c.args.path c.loop-i.i v c.loop-i.found c.if-vars-i.found at in
    let before = found_before c.args.vars.now c.args.path c.loop-i.i v c.loop-i.found c.if-vars-i.found at in
    elim c.if-vars-i.branch [
      | then-vars-i w ↦ (let r = here (ap (λ (x : Var). x.path) c.index-vars-i.is ∙ w.if-vars-i.true) w.found-is in
          record { within = r.0; newest = r.1 })
      | else-vars-i w ↦ (
          let r = before (λ e. w.if-vars-i.false (sym (ap (λ (x : Var). x.path) c.index-vars-i.is) ∙ e)) w.found-is
          c.loop-i.invariant.within c.loop-i.invariant.newest in
          record { within = r.0; newest = r.1 }
          )
    ]

pub returns-clause-within : goal.returns-clause-within
returns-clause-within c =
    within_all c.loop-i.i (length c.args.vars.now) c.loop-i.found c.loop-i.auto.i-end c.loop-i.invariant.within

pub returns-clause-newest : goal.returns-clause-newest
returns-clause-newest c =
    newest_all c.args.vars.now c.args.path c.loop-i.i c.loop-i.found c.loop-i.auto.i-end c.loop-i-test.false
    c.loop-i.invariant.newest
