use Rattle.std.proofs.Common.{◌≡◌, length, take}
use Rattle.jn_share.specs.Declaring.{Noted}
use Rattle.jn_share.proofs.declaring.note_all.Given as goal

abbrev pub invariant-loop-i : goal.invariant-loop-i
invariant-loop-i l = record {
  long : length l.last.items ≡ length l.fn.last.items;
  noted : Noted l.types (take l.i-index l.is) l.last.items;
}
