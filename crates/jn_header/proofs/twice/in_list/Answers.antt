use Rattle.std.proofs.Common.{◌∙◌, [], rules}
use Rattle.jn_base.specs.declared.tree.Named.{Named}
use Rattle.jn_header.proofs.TwiceSteps.{as_named, left_hit, left_none}
use Rattle.jn_header.proofs.twice.in_list.Goals as goal

pub returns-then-has_name : goal.returns-then-has_name
returns-then-has_name c = left_hit (λ (n : Named). n) [] c.args.list.now _ _ _ c.loop-named.invariant c.loop-named-test.true (search rules) (search rules) ∙ as_named c.args.list.now

pub returns : goal.returns
returns c = left_none (λ (n : Named). n) [] c.args.list.now _ _ c.loop-named.invariant (search rules) ∙ as_named c.args.list.now
