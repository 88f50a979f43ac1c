use Rattle.std.proofs.Common.{◌≡◌, ◌-◌}
use Rattle.jn_code.specs.SpellsFields.{read_ascending}
use Rattle.jn_imagefile.proofs.Loops.{with_front}
use Rattle.jn_imagefile.proofs.lists.entries_at.Given as goal

abbrev pub invariant-loop : goal.invariant-loop
invariant-loop g l = with_front l.entries (read_ascending g.T.Entry.key (λ least. (g.T.Entry.field least).read) l.least (l.count - l.counter) l.rest) ≡ read_ascending g.T.Entry.key (λ least. (g.T.Entry.field least).read) 0 l.count l.bytes
