use Rattle.std.proofs.Common.{◌∙◌}
use Rattle.jn_machine.proofs.Fetching.{room_for}
use Rattle.jn_machine.proofs.turn.take_turn.Goals as goal

pub back-requires-clause-room : goal.back-requires-clause-room
back-requires-clause-room c =
    let h = c.args.heap.now in
    room_for c.args.image.now h.limit c.args.now.now c.args.frames.now h.words c.in-Leave.v c.requires.sound c.requires.roomy c.requires.going (c.fetch-x.ensures.next ∙ c.in-Leave.ensures.does.0)

pub returns-in-Leave-clause-line : goal.returns-in-Leave-clause-line
returns-in-Leave-clause-line c = c.back.ensures.line c.args.image.now
