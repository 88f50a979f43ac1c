use Rattle.jn_names.proofs.NameSets.{names_more, all_names}
use Rattle.jn_names.proofs.name_set.name_set.Goals as goal

pub loop-name-preserved : goal.loop-name-preserved
loop-name-preserved c =
    names_more c.loop-name.set.keys c.insert_full.new.self.keys c.args.names.now c.loop-name.name-index record { 0 = 0 }
    c.loop-name-test.true c.loop-name.invariant
    c.in_ok-insert_full.ensures.keys

pub returns : goal.returns
returns c = all_names c.loop-name.set.keys c.args.names.now c.loop-name.name-index c.loop-name-test.false c.loop-name.invariant
