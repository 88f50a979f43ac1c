use Rattle.std.proofs.Common.{refl, ◌∙◌}
use Rattle.jn_code.specs.Machine as code
use Rattle.jn_machine.specs.Does.{bytes_of}
use Rattle.jn_machine.proofs.Writing.{on_err}
use Rattle.jn_machine.proofs.Runs.{begins, turned_on, turned_print, turned_cut, turned_halt, roomy_same, sized_same}
use Rattle.jn_machine.proofs.run.go.Goals as goal

pub loop-left-init : goal.loop-left-init
loop-left-init g c =
    let fresh = c.requires.fresh in
    record {
      way = begins c.args.image.now c.args.heap.now.limit c.args.frames.now.limit c.args.steps c.args.now.now c.args.frames.now c.args.heap.now.words (g.O.Sink.taken c.args.out.now) c.args.output.now c.requires.sound fresh.arena fresh.boot fresh.empty;
      same = record { limit = refl; wide = refl; high = refl };
      arena = refl;
      roomy = fresh.roomy;
      sized = fresh.sized;
      faults = refl;
    }

pub loop-left-preserved-in-On : goal.loop-left-preserved-in-On
loop-left-preserved-in-On g c =
    let v = c.loop-left.invariant in
    let i = c.args.image.now in
    let m = c.args.heap.now.limit in
    let d = c.args.frames.now.limit in
    let s = c.in-On.ensures.same in
    record {
      way = turned_on i m d c.args.steps c.loop-left.left c.loop-left.heap.limit c.loop-left.frames.limit v.arena v.same.limit (c.loop-left-test.true) _ _ _ _ _ _ v.way _ _ _ c.requires.sound c.in-On.ensures.turns;
      same = record { limit = s.limit ∙ v.same.limit; wide = s.wide ∙ v.same.wide; high = s.high ∙ v.same.high };
      arena = c.in-On.ensures.limit ∙ v.arena;
      roomy = roomy_same i _ _ s v.roomy;
      sized = sized_same _ _ _ s c.in-On.ensures.sized;
      faults = v.faults;
    }

pub loop-left-preserved : goal.loop-left-preserved
loop-left-preserved g c =
    let v = c.loop-left.invariant in
    let i = c.args.image.now in
    let m = c.args.heap.now.limit in
    let d = c.args.frames.now.limit in
    let s = c.in-Print.ensures.same in
    record {
      way = turned_print i m d c.args.steps c.loop-left.left c.loop-left.heap.limit c.loop-left.frames.limit v.arena v.same.limit (c.loop-left-test.true) _ _ _ _ _ _ v.way _ _ _ _ _ (bytes_of i c.in-Print.line) c.requires.sound c.in-Print.ensures.turns c.in_ok-show-in-Print.ensures.wrote;
      same = record { limit = s.limit ∙ v.same.limit; wide = s.wide ∙ v.same.wide; high = s.high ∙ v.same.high };
      arena = c.in-Print.ensures.limit ∙ v.arena;
      roomy = roomy_same i _ _ s v.roomy;
      sized = sized_same _ _ _ s c.in-Print.ensures.sized;
      faults = c.in_ok-show-in-Print.ensures.cause.kept ∙ v.faults;
    }

pub returns-in_err-show-in-Print-clause-cut : goal.returns-in_err-show-in-Print-clause-cut
returns-in_err-show-in-Print-clause-cut g c =
    let v = c.loop-left.invariant in
    let i = c.args.image.now in
    let m = c.args.heap.now.limit in
    let d = c.args.frames.now.limit in
    on_err _ _ (turned_cut i m d c.args.steps c.loop-left.left c.loop-left.heap.limit c.loop-left.frames.limit v.arena v.same.limit (c.loop-left-test.true) _ _ _ _ _ _ v.way c.take_turn.new.now c.take_turn.new.frames c.take_turn.new.heap.words _ (bytes_of i c.in-Print.line) c.in-Print.ensures.turns c.in_err-show-in-Print.ensures.cut)

pub returns-in-Done-clause-halt : goal.returns-in-Done-clause-halt
returns-in-Done-clause-halt g c =
    let v = c.loop-left.invariant in
    let i = c.args.image.now in
    let m = c.args.heap.now.limit in
    let d = c.args.frames.now.limit in
    (turned_halt i m d c.args.steps c.loop-left.left c.loop-left.heap.limit c.loop-left.frames.limit v.arena v.same.limit (c.loop-left-test.true) _ _ _ _ _ _ v.way code.Done c.in-Done.ensures.turns).0

pub returns-in-Done-clause-wrote : goal.returns-in-Done-clause-wrote
returns-in-Done-clause-wrote g c =
    let v = c.loop-left.invariant in
    let i = c.args.image.now in
    let m = c.args.heap.now.limit in
    let d = c.args.frames.now.limit in
    (turned_halt i m d c.args.steps c.loop-left.left c.loop-left.heap.limit c.loop-left.frames.limit v.arena v.same.limit (c.loop-left-test.true) _ _ _ _ _ _ v.way code.Done c.in-Done.ensures.turns).1

pub returns-in-Null-clause-halt : goal.returns-in-Null-clause-halt
returns-in-Null-clause-halt g c =
    let v = c.loop-left.invariant in
    let i = c.args.image.now in
    let m = c.args.heap.now.limit in
    let d = c.args.frames.now.limit in
    (turned_halt i m d c.args.steps c.loop-left.left c.loop-left.heap.limit c.loop-left.frames.limit v.arena v.same.limit (c.loop-left-test.true) _ _ _ _ _ _ v.way code.Null c.in-Null.ensures.turns).0

pub returns-in-Null-clause-wrote : goal.returns-in-Null-clause-wrote
returns-in-Null-clause-wrote g c =
    let v = c.loop-left.invariant in
    let i = c.args.image.now in
    let m = c.args.heap.now.limit in
    let d = c.args.frames.now.limit in
    (turned_halt i m d c.args.steps c.loop-left.left c.loop-left.heap.limit c.loop-left.frames.limit v.arena v.same.limit (c.loop-left-test.true) _ _ _ _ _ _ v.way code.Null c.in-Null.ensures.turns).1

pub returns-in-Zero-clause-halt : goal.returns-in-Zero-clause-halt
returns-in-Zero-clause-halt g c =
    let v = c.loop-left.invariant in
    let i = c.args.image.now in
    let m = c.args.heap.now.limit in
    let d = c.args.frames.now.limit in
    (turned_halt i m d c.args.steps c.loop-left.left c.loop-left.heap.limit c.loop-left.frames.limit v.arena v.same.limit (c.loop-left-test.true) _ _ _ _ _ _ v.way code.Zero c.in-Zero.ensures.turns).0

pub returns-in-Zero-clause-wrote : goal.returns-in-Zero-clause-wrote
returns-in-Zero-clause-wrote g c =
    let v = c.loop-left.invariant in
    let i = c.args.image.now in
    let m = c.args.heap.now.limit in
    let d = c.args.frames.now.limit in
    (turned_halt i m d c.args.steps c.loop-left.left c.loop-left.heap.limit c.loop-left.frames.limit v.arena v.same.limit (c.loop-left-test.true) _ _ _ _ _ _ v.way code.Zero c.in-Zero.ensures.turns).1

pub returns-in-Arena-clause-halt : goal.returns-in-Arena-clause-halt
returns-in-Arena-clause-halt g c =
    let v = c.loop-left.invariant in
    let i = c.args.image.now in
    let m = c.args.heap.now.limit in
    let d = c.args.frames.now.limit in
    (turned_halt i m d c.args.steps c.loop-left.left c.loop-left.heap.limit c.loop-left.frames.limit v.arena v.same.limit (c.loop-left-test.true) _ _ _ _ _ _ v.way code.Arena c.in-Arena.ensures.turns).0

pub returns-in-Arena-clause-wrote : goal.returns-in-Arena-clause-wrote
returns-in-Arena-clause-wrote g c =
    let v = c.loop-left.invariant in
    let i = c.args.image.now in
    let m = c.args.heap.now.limit in
    let d = c.args.frames.now.limit in
    (turned_halt i m d c.args.steps c.loop-left.left c.loop-left.heap.limit c.loop-left.frames.limit v.arena v.same.limit (c.loop-left-test.true) _ _ _ _ _ _ v.way code.Arena c.in-Arena.ensures.turns).1

pub returns-in-Depth-clause-halt : goal.returns-in-Depth-clause-halt
returns-in-Depth-clause-halt g c =
    let v = c.loop-left.invariant in
    let i = c.args.image.now in
    let m = c.args.heap.now.limit in
    let d = c.args.frames.now.limit in
    (turned_halt i m d c.args.steps c.loop-left.left c.loop-left.heap.limit c.loop-left.frames.limit v.arena v.same.limit (c.loop-left-test.true) _ _ _ _ _ _ v.way code.Depth c.in-Depth.ensures.turns).0

pub returns-in-Depth-clause-wrote : goal.returns-in-Depth-clause-wrote
returns-in-Depth-clause-wrote g c =
    let v = c.loop-left.invariant in
    let i = c.args.image.now in
    let m = c.args.heap.now.limit in
    let d = c.args.frames.now.limit in
    (turned_halt i m d c.args.steps c.loop-left.left c.loop-left.heap.limit c.loop-left.frames.limit v.arena v.same.limit (c.loop-left-test.true) _ _ _ _ _ _ v.way code.Depth c.in-Depth.ensures.turns).1
