use Rattle.std.proofs.Common.{List, ℕ, subst}
use Rattle.std.specs.declared.vec.Vec.{Vec}
use Rattle.std.specs.declared.alloc.Global.{Global}
use Rattle.jn_reach.proofs.Eachs.{Each-none}
use Rattle.jn_share.specs.declared.keys.FieldKey.{FieldKey}
use Rattle.jn_share.specs.Keys.{AreKeys}
use Rattle.jn_share.proofs.KeyRows.{numbers_ascend, each_step}
use Rattle.jn_share.proofs.keys.all_keys.Goals as goal

pub loop-numbers-init : goal.loop-numbers-init
loop-numbers-init c = Each-none (λ (among : Vec ℕ Global) (ks : Vec FieldKey Global). AreKeys c.args.rows.now among.items ks.items) c.new-keys.result.items c.new-keys.ensures.items

pub keys_of-requires : goal.keys_of-requires
keys_of-requires c =
    numbers_ascend c.args.lists.now.starts.items c.args.lists.now.numbers.items c.requires c.loop-numbers.numbers-index c.deref-numbers-items.result.now
    c.deref-numbers-items.ensures.value c.loop-numbers-test.true c.numbers-item.result c.numbers-item.is c.deref.result.now c.deref.ensures.value

pub loop-numbers-preserved : goal.loop-numbers-preserved
loop-numbers-preserved c =
    each_step (λ (among : Vec ℕ Global) (ks : Vec FieldKey Global). AreKeys c.args.rows.now among.items ks.items) c.args.lists.now.numbers.items c.deref-numbers-items.result.now
    c.loop-numbers.keys.items c.push.new.self.items c.loop-numbers.numbers-index c.numbers-item.result c.in_ok-keys_of.field-0 c.deref-numbers-items.ensures.value
    c.loop-numbers-test.true c.numbers-item.is c.in_ok-push.ensures.items c.loop-numbers.invariant
    (subst (λ (xs : List ℕ). AreKeys c.args.rows.now xs c.in_ok-keys_of.field-0.items) c.deref.ensures.value c.in_ok-keys_of.ensures)
