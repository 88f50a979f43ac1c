use Rattle.std.proofs.Common.{◌<◌, ◌≤◌, List, length, subst}
use Rattle.jn_base.specs.declared.path.Path.{Path as ShownPath}
use Rattle.jn_reach.proofs.Searches.{not_when}
use Rattle.jn_table.specs.declared.class.ClassId.{ClassId}
use Rattle.jn_share.proofs.Covers.{path_there}
use Rattle.jn_views.specs.declared.held.Held.{Held}
use Rattle.jn_views.specs.Held.{sides}
use Rattle.jn_views.specs.Turning.{HeldAt}
use Rattle.jn_views.proofs.Holding.{granted_more, granted_all, refuted}
use Rattle.jn_views.proofs.held.holds.Goals as goal
use Rattle.jn_views.proofs.held.holds.Goals.{then-concerns+else-not-is_yes, else-concerns}

pub returns-then-not-is_yes : goal.returns-then-not-is_yes
returns-then-not-is_yes c = λ p f g s.
    let t = c.args.t.now in
    let u : ClassId = record { 0 = c.loop-k.k } in
    let l = subst (λ (xs : List ShownPath). c.loop-k.k < length xs) c.known-k-end.ensures c.loop-k-test.true in
    let U = path_there p t f c.loop-k.k l in
    let h = (c.concerns.ensures p U.0 f U.1).0 c.if-concerns.true in
    refuted t c.args.g.now c.args.s.now (sides c.args.from.now c.args.to.now c.args.m c.args.names.now) u c.loop-k.invariant p f g s U.0 U.1 h.0 h.1 c.held_at-held.result
    (not_when c.if-not-is_yes.true c.is_yes.ensures) (c.held_at-held.ensures p U.0 f g s U.1)

pub loop-k-preserved : goal.loop-k-preserved
loop-k-preserved c =
    let t = c.args.t.now in
    let u : ClassId = record { 0 = c.loop-k.k } in
    let sides = sides c.args.from.now c.args.to.now c.args.m c.args.names.now in
    granted_more t c.args.g.now c.args.s.now sides u c.loop-k.invariant
    (λ p f g s U at class inside. elim c.if-concerns.branch [
      | then-concerns+else-not-is_yes w ↦
          subst (λ (h : Held). HeldAt p t.known.items sides u U h) (w.is_yes.ensures.0 w.if-not-is_yes.false) (w.held_at-held.ensures p U f g s at)
      | else-concerns w ↦ absurd (not_when w.if-concerns.false (c.concerns.ensures p U f at) (class, inside))
    ])

pub returns : goal.returns
returns c =
    let past = subst (λ (xs : List ShownPath). length xs ≤ c.loop-k.k) c.known-k-end.ensures c.loop-k-test.false in
    granted_all c.args.t.now c.args.g.now c.args.s.now (sides c.args.from.now c.args.to.now c.args.m c.args.names.now) c.loop-k.k past c.loop-k.invariant
