use Rattle.std.specs.Prelude.{nat_eq}
use Rattle.jn_reach.proofs.Searches.{not_when}
use Rattle.jn_meaning.specs.Values.{path_at}
use Rattle.jn_meaning.proofs.Stored.{same_path_slot, other_path_slot}
use Rattle.jn_meaning.proofs.heap.is_slot.Goals as goal

pub returns-then-is_one_path : goal.returns-then-is_one_path
returns-then-is_one_path c =
    let known = c.args.t.now.known.items in
    same_path_slot (path_at known c.args.kept.now.slot.class) (path_at known c.args.s.class) _ (c.is_one_path.ensures.0 c.if-is_one_path.true)

pub returns-else-is_one_path : goal.returns-else-is_one_path
returns-else-is_one_path c =
    let known = c.args.t.now.known.items in
    other_path_slot (path_at known c.args.kept.now.slot.class) (path_at known c.args.s.class) (nat_eq c.args.kept.now.slot.field.0 c.args.s.field.0) c.is_one_path.result
    (λ e. not_when c.if-is_one_path.false (c.is_one_path.ensures) e) c.if-is_one_path.false
