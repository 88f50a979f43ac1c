use Rattle.std.proofs.Common.{◌≡◌, ◌-◌}
use Rattle.jn_code.specs.SpellsFields.{read_listed, kind_byte}
use Rattle.jn_imagefile.proofs.Loops.{with_front}
use Rattle.jn_imagefile.proofs.lists.kinds_at.Given as goal

abbrev pub invariant-loop : goal.invariant-loop
invariant-loop l = with_front l.kinds (read_listed (kind_byte 1 l.most).read (l.count - l.counter) l.rest) ≡ read_listed (kind_byte 1 l.most).read l.count l.bytes
