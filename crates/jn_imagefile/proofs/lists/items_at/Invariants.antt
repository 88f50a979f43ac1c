use Rattle.std.proofs.Common.{◌≡◌, ◌-◌}
use Rattle.jn_code.specs.SpellsFields.{read_listed}
use Rattle.jn_imagefile.proofs.Loops.{with_front}
use Rattle.jn_imagefile.proofs.lists.items_at.Given as goal

abbrev pub invariant-loop : goal.invariant-loop
invariant-loop g l = with_front l.items (read_listed g.T.Item.field.read (l.count - l.counter) l.rest) ≡ read_listed g.T.Item.field.read l.count l.bytes
