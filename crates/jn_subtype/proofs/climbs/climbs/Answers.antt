use Rattle.std.proofs.Common.{◌≡◌, ◌↔◌, ◌<◌, ◌+◌, ◌-◌, ℕ, [], length, sym, subst, arith}
use Rattle.std.proofs.lemmas.List.Elements.{All-same, All-nil, All-push}
use Rattle.jn_base.specs.Atoms.{lifted}
use Rattle.jn_intern.specs.Pools.{scope_in}
use Rattle.jn_sem.specs.Search.{CanClimb, climbed}
use Rattle.jn_sem.proofs.Codes.{levels_small}
use Rattle.jn_subtype.specs.Older.{IsAsOld}
use Rattle.jn_subtype.specs.Turns.{Adds}
use Rattle.jn_subtype.proofs.Addings.{Upto, upto_none, upto_more}
use Rattle.jn_subtype.proofs.ClimbForms.{climbed_old, climbs_found}
use Rattle.jn_subtype.proofs.climbs.climbs.Goals as goal

pub climb-requires : goal.climb-requires
climb-requires c =
    let s = scope_in c.args.pool.now c.args.scope.now in
    let x = c.args.x.now in
    let g = c.count-i-end.ensures.anchored s c.in_ok-b.ensures c.requires.anchored c.loop-i.i c.loop-i-test.true in
    let h = levels_small s c.requires.fits (lifted (c.loop-i.i - length x.exact) x.anchor) g in
    record { small = omega (arith, h) }

pub loop-i-init : goal.loop-i-init
loop-i-init c =
    let s = scope_in c.args.pool.now c.args.scope.now in
    let x = c.args.x.now in record {
      found = subst (Adds (Upto (climbed s x) 0) []) (sym c.new-all.ensures.items) (upto_none (climbed s x));
      old = All-same (IsAsOld s x) _ _ c.new-all.ensures.items (All-nil (IsAsOld s x));
    }

pub loop-i-preserved : goal.loop-i-preserved
loop-i-preserved c =
    let s = scope_in c.args.pool.now c.args.scope.now in
    let x = c.args.x.now in
    let i = c.loop-i.i in
    let g = c.count-i-end.ensures.anchored s c.in_ok-b.ensures c.requires.anchored i c.loop-i-test.true in
    let e : c.in_ok-z.z ≡ climbed s x i = c.in_ok-z.ensures s c.in_ok-b.ensures in record {
      found = subst (Adds (Upto (climbed s x) (i + 1)) []) (sym c.in_ok-push.ensures.items)
          (upto_more (climbed s x) i c.loop-i.all.items c.in_ok-z.z e c.loop-i.invariant.found);
      old = All-same (IsAsOld s x) _ _ c.in_ok-push.ensures.items
          (All-push (IsAsOld s x) c.loop-i.all.items c.in_ok-z.z c.loop-i.invariant.old (subst (IsAsOld s x) (sym e) (climbed_old s x i g)));
    }

pub returns-clause-exact : goal.returns-clause-exact
returns-clause-exact c = λ p f z.
    let s = scope_in c.args.pool.now c.args.scope.now in
    let x = c.args.x.now in
    let all : c.count-i-end.result ≡ c.loop-i.i = omega arith in
    climbs_found c.loop-i.i c.loop-i.all.items c.loop-i.invariant.found
    (λ i. subst (λ (n : ℕ). (i < n) ↔ CanClimb p s x i) all (c.count-i-end.ensures.exact p s f c.in_ok-b.ensures c.requires.anchored i)) z
