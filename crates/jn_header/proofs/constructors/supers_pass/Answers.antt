use Rattle.std.proofs.Common.{rules, refl, ◌∷◌, option_copied}
use Rattle.jn_base.specs.Supers.{Sup}
use Rattle.jn_header.specs.Constructors.{constructor_signature, PassesAt}
use Rattle.jn_header.proofs.Constructs.{fails_at}
use Rattle.jn_header.proofs.Finding.{so, not_so}
use Rattle.jn_header.proofs.Numbers.{path_at, each_more, each_all}
use Rattle.jn_header.proofs.constructors.supers_pass.Goals as goal

pub returns-then-not-passes_at : goal.returns-then-not-passes_at
returns-then-not-passes_at c = λ p R bo are.
    let w = path_at p c.args.t.now.known.items (Sup p R) c.args.sups.now are c.loop-id.id-index (record { 0 = 0 }) c.loop-id-test.true in
    fails_at p (constructor_signature (option_copied c.args.own)) c.args.name R w.0 w.2 (not_so (search rules) (c.passes_at.ensures p w.0 bo w.1))

pub loop-id-preserved : goal.loop-id-preserved
loop-id-preserved c = λ p R bo are.
    each_more (PassesAt p (constructor_signature (option_copied c.args.own)) c.args.name) c.args.t.now.known.items c.args.sups.now c.loop-id.id-index (record { 0 = 0 }) c.loop-id-test.true
    (c.loop-id.invariant p R bo are) (λ S n. so (search rules) (c.passes_at.ensures p S bo n))

pub returns : goal.returns
returns c = λ p R bo are Q up.
    each_all p c.args.t.now.known.items (Sup p R) c.args.sups.now are (PassesAt p (constructor_signature (option_copied c.args.own)) c.args.name) c.loop-id.id-index (search rules)
    (c.loop-id.invariant p R bo are) (c.args.name ∷ Q) up Q refl
