use Rattle.std.proofs.Common.{arith, ◌≡◌, ap, length, pos, Some, map, slice_get, get_or}
use Rattle.jn_code.specs.declared.image.Code.{Code}
use Rattle.jn_code.specs.declared.instr.Instr.{Instr}
use Rattle.jn_code.specs.declared.instr.Instr.TheVariants as op
use Rattle.jn_machine.specs.Acts.{frame_of}
use Rattle.jn_machine.proofs.Objects.{read_at, number_at}
use Rattle.jn_machine.proofs.Fetching.{Fetched, code_there, place_there, fetched}
use Rattle.jn_machine.proofs.turn.fetch.Goals as goal

pub bounds-as_slice-now : goal.bounds-as_slice-now
bounds-as_slice-now c =
    let i = c.args.image.now in
    let m = c.args.heap.now.limit in
    let h = c.args.heap.now.words in
    let f = c.args.now.now in
    let ws = map frame_of c.args.frames.now.waiting in
    let b = code_there i m f ws h c.requires.sound c.requires.going in
    let k : length c.as_slice.result.now ≡ length i.codes = ap length c.as_slice.ensures in
    omega arith

pub bounds-as_slice-now-2 : goal.bounds-as_slice-now-2
bounds-as_slice-now-2 c =
    let i = c.args.image.now in
    let m = c.args.heap.now.limit in
    let h = c.args.heap.now.words in
    let f = c.args.now.now in
    let ws = map frame_of c.args.frames.now.waiting in
    let b = code_there i m f ws h c.requires.sound c.requires.going in
    let code : Code = c.index-as_slice-now.result in
    let is : slice_get i.codes f.code ≡ Some code = read_at i.codes _ f.code code c.as_slice.ensures b c.index-as_slice-now.is in
    let d = place_there i m f ws h c.requires.sound c.requires.going code is in
    let k : length c.as_slice-2.result.now ≡ length code.instrs = ap length c.as_slice-2.ensures in
    omega arith

pub returns-clause-next : goal.returns-clause-next
returns-clause-next c =
    let i = c.args.image.now in
    let m = c.args.heap.now.limit in
    let h = c.args.heap.now.words in
    let f = c.args.now.now in
    let ws = map frame_of c.args.frames.now.waiting in
    let b = code_there i m f ws h c.requires.sound c.requires.going in
    let code : Code = c.index-as_slice-now.result in
    let is : slice_get i.codes f.code ≡ Some code = read_at i.codes _ f.code code c.as_slice.ensures b c.index-as_slice-now.is in
    let d = place_there i m f ws h c.requires.sound c.requires.going code is in
    let x : Instr = get_or c.as_slice-2.result.now f.place (op.Int (pos 0)) in
    let at : slice_get code.instrs f.place ≡ Some x = number_at code.instrs _ f.place (op.Int (pos 0)) c.as_slice-2.ensures d in
    let g : Fetched i m f h x = fetched i m f ws h c.requires.sound c.requires.going c.args.frames.now code x c.requires.form c.requires.roomy c.requires.sized is at in
    g.next

pub returns-clause-wants : goal.returns-clause-wants
returns-clause-wants c =
    let i = c.args.image.now in
    let m = c.args.heap.now.limit in
    let h = c.args.heap.now.words in
    let f = c.args.now.now in
    let ws = map frame_of c.args.frames.now.waiting in
    let b = code_there i m f ws h c.requires.sound c.requires.going in
    let code : Code = c.index-as_slice-now.result in
    let is : slice_get i.codes f.code ≡ Some code = read_at i.codes _ f.code code c.as_slice.ensures b c.index-as_slice-now.is in
    let d = place_there i m f ws h c.requires.sound c.requires.going code is in
    let x : Instr = get_or c.as_slice-2.result.now f.place (op.Int (pos 0)) in
    let at : slice_get code.instrs f.place ≡ Some x = number_at code.instrs _ f.place (op.Int (pos 0)) c.as_slice-2.ensures d in
    let g : Fetched i m f h x = fetched i m f ws h c.requires.sound c.requires.going c.args.frames.now code x c.requires.form c.requires.roomy c.requires.sized is at in
    g.wants

pub returns-clause-place : goal.returns-clause-place
returns-clause-place c =
    let i = c.args.image.now in
    let m = c.args.heap.now.limit in
    let h = c.args.heap.now.words in
    let f = c.args.now.now in
    let ws = map frame_of c.args.frames.now.waiting in
    let b = code_there i m f ws h c.requires.sound c.requires.going in
    let code : Code = c.index-as_slice-now.result in
    let is : slice_get i.codes f.code ≡ Some code = read_at i.codes _ f.code code c.as_slice.ensures b c.index-as_slice-now.is in
    let d = place_there i m f ws h c.requires.sound c.requires.going code is in
    let x : Instr = get_or c.as_slice-2.result.now f.place (op.Int (pos 0)) in
    let at : slice_get code.instrs f.place ≡ Some x = number_at code.instrs _ f.place (op.Int (pos 0)) c.as_slice-2.ensures d in
    let g : Fetched i m f h x = fetched i m f ws h c.requires.sound c.requires.going c.args.frames.now code x c.requires.form c.requires.roomy c.requires.sized is at in
    g.place
